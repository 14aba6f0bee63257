-- The listing (document 02, request 2): "the smallest set of marks closed under these rules". It is found from a table with no marks, which
-- is raised by all that its words send until it is closed; Laws says that it is the smallest, whatever the order of raising.
use Rattle.std.specs.Prelude.{ℕ, zero, suc, ◌-◌, ◌*◌, Bool, cond, ◌&&◌, List, ◌++◌, eqb, length, replicate}
use Rattle.v8.specs.Numbers.{bad_shape}
use Rattle.v8.specs.declared.Edition.{Edition}
use Rattle.v8.specs.declared.Reading.{Reading}
use Rattle.flow_code.specs.Readings.{readings_of}
use Rattle.policy.specs.declared.Policy.{Policy}
use Rattle.passes.specs.declared.Answer.{Answer}
use Rattle.passes.specs.Answer.{passes, and_then, need, pass_of}
use Rattle.passes.specs.Passes.{policy_pass, read_pass, flow_pass}
use Rattle.passes_shape.specs.Shape.{start_ok}
use Rattle.marks.specs.Marks.{not_reached, register_count}
use Rattle.lister_rules.specs.Table.{table_marks}
use Rattle.lister_rules.specs.Rules.{entry_sent, sent_by, closed, raised_by, raised_by_all}

module _ (readings : List Reading) where
  -- raised by all that the words below w send in another table
  unfoldable pub raised_by_words : List ℕ → List ℕ → ℕ → List ℕ
  raised_by_words from table zero = table
  raised_by_words from table (suc w) = raised_by_all (raised_by_words from table w) (sent_by readings from w)

  -- "all starting as not reached"
  abbrev pub no_marks : List ℕ
  no_marks = replicate (register_count * length readings) not_reached

module _ (readings : List Reading) (entry : List ℕ) where
  -- raised by all that the entry row and the words send
  unfoldable pub raised_once : List ℕ → List ℕ
  raised_once table = raised_by_words readings table (raised_by table (entry_sent (length readings) entry)) (length readings)

  -- "raised until closed", at most n times
  unfoldable pub raised_until_closed : ℕ → List ℕ → List ℕ
  raised_until_closed zero table = table
  raised_until_closed (suc n) table = cond (closed readings entry table) table (raised_until_closed n (raised_once table))

  -- the listing of the words: each raise makes the table higher, and it has height 2 at each mark
  unfoldable pub listing_of : List ℕ
  listing_of = raised_until_closed (2 * (register_count * length readings)) (no_marks readings)

-- the whole table: there are no marks behind the last word
abbrev pub whole_table : List ℕ → List ℕ
whole_table listing = listing ++ replicate (table_marks - length listing) not_reached

-- "Checks: 20, 21 (without rows and result entry, which aren't handed in; also a table of another length), 2, 24 and 3 come as in the check"
abbrev pub listable : ℕ → List ℕ → ℕ → List ℕ → ℕ → Bool
listable regions sizes n entry size = start_ok regions sizes n entry && eqb size table_marks

unfoldable pub listing_answer : Policy → List Reading → List ℕ → ℕ → Answer
listing_answer p readings entry size =
    and_then (policy_pass p)
    (and_then (need (listable p.regions.count p.regions.sizes (length readings) entry size) bad_shape 0 0)
    (and_then (pass_of (read_pass readings) (length readings))
    (pass_of (flow_pass readings) (length readings))))

-- what the call leaves: the answer, and the lent table; "a refusal leaves the lent table's bytes"
pub record Listed : Type 0 where
  pub answer : Answer
  pub table : List ℕ

abbrev pub listed_with : Answer → List ℕ → List ℕ → Listed
listed_with answer listing table = record { answer = answer; table = cond (passes answer) (whole_table listing) table }

-- .. for a terminal of the edition
unfoldable pub listed : Edition → Policy → List ℕ → List ℕ → List ℕ → Listed
listed e p words entry table =
    listed_with (listing_answer p (readings_of e words) entry (length table)) (listing_of (readings_of e words) entry) table
