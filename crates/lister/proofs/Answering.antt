-- The answer to a listing, pass by pass, and what the call leaves.
use Prim.Native.Nat.{ℕ}
use mathlib.Core.Path.{◌≡◌, refl, sym, ap, ◌∙◌}
use mathlib.Core.Bool.{Bool, true, false, cond, not}
use mathlib.Core.List.{List}
use lib.ListN.{length}
use lib.Dec.{ltb, eqb}
use borrow.Author.Tests.{ltb-true, eqb-true, eq-eqb, ne_eqb}
use Rattle.v8.specs.Numbers.{bad_policy, bad_shape}
use Rattle.v8.specs.Search.{first}
use Rattle.v8.proofs.Search.{first_passes}
use Rattle.v8.proofs.Choice.{and_went, false_true}
use Rattle.flow_code.specs.Readings.{readings_of}
use Rattle.flow_code.proofs.Fetched.{read_count}
use Rattle.v8.specs.declared.Edition.{Edition}
use Rattle.policy.specs.declared.Policy.{Policy}
use Rattle.policy.specs.Policy.{policy_ok}
use Rattle.passes.specs.declared.Answer.{Answer}
use Rattle.passes.specs.Answer.{accepted, refuse, passes, refuses, and_then, pass_of}
use Rattle.passes_shape.specs.Shape.{start_ok}
use Rattle.passes.specs.Passes.{read_pass, flow_pass}
use Rattle.passes_shape.proofs.Started.{Started, started}
use Rattle.lister_rules.specs.Table.{table_marks}
use Rattle.lister.specs.Listing.{listing_of, whole_table, listable, listing_answer, listed}

-- a pass over the words whose answer has the number 0 accepts
pub pass_accepts : (f : ℕ → Answer) (n : ℕ) (a : Answer) → a ≡ pass_of f n → a.number ≡ 0 → a ≡ accepted
unfolding pass_of
pass_accepts f n a e z = at (ltb (first (refuses f) 0 n) n) refl e
  where
    clash : (b : Answer) → not (passes b) ≡ true → a ≡ b → a ≡ accepted
    clash b q r = false_true (sym (ap not (eq-eqb a.number 0 z)) ∙ ap (λ (c : Answer). not (passes c)) r ∙ q)

    at : (t : Bool) → ltb (first (refuses f) 0 n) n ≡ t → a ≡ cond t (f (first (refuses f) 0 n)) accepted → a ≡ accepted
    at true t r = clash (f (first (refuses f) 0 n)) (first_passes (refuses f) 0 n (ltb-true (first (refuses f) 0 n) n t)) r
    at false t r = r

module _ (e : Edition) (p : Policy) (words entry table : List ℕ) where
  abbrev pub answer : Answer
  answer = listing_answer p (readings_of e words) entry (length table)

  abbrev pub fits : ℕ → Bool
  fits n = listable p.regions.count p.regions.sizes n entry (length table)

  -- what a table and an entry row that may be listed tell of the lengths
  pub record Lengths : Type 0 where
    pub start : Started p.regions.count p.regions.sizes (length words) entry
    pub marks : length table ≡ table_marks

  pub lengths : fits (length words) ≡ true → Lengths
  lengths f =
      let both = and_went (start_ok p.regions.count p.regions.sizes (length words) entry) (eqb (length table) table_marks) f in
      record { start = started p.regions.count p.regions.sizes (length words) entry both.0; marks = eqb-true (length table) table_marks both.1 }

  as_read : {t : Bool} → fits (length words) ≡ t → fits (length (readings_of e words)) ≡ t
  as_read f = ap fits (read_count e words) ∙ f

  pub bad-policy : policy_ok p ≡ false → answer ≡ refuse bad_policy 0 0
  unfolding listing_answer
  bad-policy q = rw q

  pub bad-shape : policy_ok p ≡ true → fits (length words) ≡ false → answer ≡ refuse bad_shape 0 0
  unfolding listing_answer
  bad-shape q f = rw (q, as_read f)

  -- what is left of it from the reading and from the flow of the words on
  abbrev pub from_flow : Answer
  from_flow = pass_of (flow_pass (readings_of e words)) (length (readings_of e words))

  abbrev pub from_reads : Answer
  from_reads = and_then (pass_of (read_pass (readings_of e words)) (length (readings_of e words))) from_flow

  pub from-reads : policy_ok p ≡ true → fits (length words) ≡ true → answer ≡ from_reads
  unfolding listing_answer
  from-reads q f = rw (q, as_read f)

  -- a refusal leaves the table; acceptance leaves the listing
  pub refused : (a : Answer) → answer ≡ a → (a.number ≡ 0 → ⊥) → record { answer = a; table = table } ≡ listed e p words entry table
  unfolding listed
  refused a q n = rw (q, ne_eqb a.number 0 n)

  pub lists : answer ≡ accepted → record { answer = accepted; table = whole_table (listing_of (readings_of e words) entry) } ≡ listed e p words entry table
  unfolding listed
  lists q = rw q
