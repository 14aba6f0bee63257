-- The outcomes, as they are computed: where the form of an entry row is tested, it is read from the bytes that begin with each place. The outcomes
-- are the same, so rows that hold by this computation hold.
use Prim.Native.Nat.{ℕ}
use mathlib.Core.Path.{◌≡◌, refl, ap, fun_ext, ◌∙◌}
use mathlib.Core.Bool.{◌&&◌}
use mathlib.Core.List.{List, map}
use lib.Dec.{eqb}
use lib.ListN.{length, replicate}
use Rattle.v8.specs.Numbers.{bad_shape}
use Rattle.v8.specs.declared.Edition.{Edition}
use Rattle.v8.specs.declared.Reading.{Reading}
use Rattle.flow_code.specs.Readings.{readings_of}
use Rattle.policy.specs.declared.Policy.{Policy}
use Rattle.passes.specs.declared.Answer.{Answer}
use Rattle.passes.specs.Answer.{and_then, need, pass_of}
use Rattle.passes.specs.Passes.{policy_pass, read_pass, flow_pass}
use Rattle.lister_rules.specs.Table.{table_marks}
use Rattle.lister.specs.Listing.{Listed, listed_with, listing_of, listing_answer, listed}
use Rattle.claims.proofs.Computed.{start_from, start-from}
use Rattle.kindrows.specs.Case.{Given, meeting, word, routine, Outcome, Row, lent, leaves_of, outcome}
use Rattle.kindrows.specs.Table.{Holds}

-- the answer to a listing
abbrev answer_from : Policy → List Reading → List ℕ → ℕ → Answer
answer_from p readings entry size =
    and_then (policy_pass p)
    (and_then (need (start_from p.regions.count p.regions.sizes (length readings) entry && eqb size table_marks) bad_shape 0 0)
    (and_then (pass_of (read_pass readings) (length readings))
    (pass_of (flow_pass readings) (length readings))))

answer-from : (p : Policy) (readings : List Reading) (entry : List ℕ) (size : ℕ) → listing_answer p readings entry size ≡ answer_from p readings entry size
unfolding listing_answer
answer-from p readings entry size = rw (start-from p.regions.count p.regions.sizes (length readings) entry)

-- what the call leaves
abbrev listed_from : Edition → Policy → List ℕ → List ℕ → List ℕ → Listed
listed_from e p words entry table =
    listed_with (answer_from p (readings_of e words) entry (length table)) (listing_of (readings_of e words) entry) table

listed-from : (e : Edition) (p : Policy) (words entry table : List ℕ) → listed e p words entry table ≡ listed_from e p words entry table
unfolding listed
listed-from e p words entry table =
    ap (λ (a : Answer). listed_with a (listing_of (readings_of e words) entry) table) (answer-from p (readings_of e words) entry (length table))

-- the outcome of what is given
abbrev outcome_from : Edition → Given → Outcome
outcome_from e (meeting a b) = outcome e (meeting a b)
outcome_from e (word w) = outcome e (word w)
outcome_from e (routine p words entry size) = leaves_of words size (listed_from e p words entry (replicate size lent))

outcome-from : (e : Edition) (g : Given) → outcome e g ≡ outcome_from e g
outcome-from e (meeting a b) = refl
outcome-from e (word w) = refl
outcome-from e (routine p words entry size) = ap (leaves_of words size) (listed-from e p words entry (replicate size lent))

-- the rows of a list hold, so computed
abbrev pub Computed : Edition → List Row → Type 0
Computed e rows = map (λ (r : Row). outcome_from e r.given) rows ≡ map (λ (r : Row). r.expected) rows

pub lists_by_computing : (e : Edition) (rows : List Row) → Computed e rows → Holds e rows
lists_by_computing e rows h = ap (λ (f : Given → Outcome). map (λ (r : Row). f r.given) rows) (fun_ext (outcome-from e)) ∙ h
