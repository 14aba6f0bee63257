-- What passes that accept show: of passes one after another each does, of a pass over the words each word does; and what is left after a pass.
use Prim.Native.Nat.{ℕ, ◌*◌, ◌<◌}
use mathlib.Core.Path.{◌≡◌, refl, sym, ◌∙◌}
use mathlib.Core.Bool.{Bool, true, false, not, cond, and-false}
use mathlib.Core.List.{List}
use native.Mathlib.Omega.{arith}
use lib.Dec.{ltb, eqb}
use borrow.Author.Tests.{ltb-true, ltb-false, not-false, eq-eqb, ne_eqb}
use Rattle.std.specs.Prelude.{Option, Some, None}
use Rattle.v8.specs.Numbers.{bad_row, bad_flow, callers_register, entry_misfit}
use Rattle.v8.specs.Search.{first}
use Rattle.v8.specs.declared.Reading.{Reading}
use Rattle.v8.proofs.Search.{first_passes, first_least, needed}
use Rattle.v8.proofs.Choice.{false_true}
use Rattle.flow_writes.specs.Written.{written_by, leaves_callers}
use Rattle.flow_code.specs.Readings.{reading_at}
use Rattle.flow.specs.Flow.{flow_of}
use Rattle.policy.specs.declared.Policy.{Policy}
use Rattle.rows.specs.Geometry.{row_bytes}
use Rattle.rows.specs.Row.{entry_formed_as, form_fault, misfit}
use Rattle.passes.specs.declared.Answer.{Answer}
use Rattle.passes.specs.Answer.{accepted, passes, and_then, need, refuses, pass_of}
use Rattle.passes_shape.specs.Shape.{result_register, shape_ok}
use Rattle.passes.specs.Passes.{row_at, entry_row, unless_fault, row_pass, callers_left, flow_pass, entry_pass}

-- both of two passes accept
pub both_pass : (a b : Answer) → passes (and_then a b) ≡ true → (passes a ≡ true) × (passes b ≡ true)
both_pass a b e = at (passes a) refl e
  where
    at : (t : Bool) → passes a ≡ t → passes (cond t b a) ≡ true → (passes a ≡ true) × (passes b ≡ true)
    at true t e = (t, e)
    at false t e = false_true (sym t ∙ e)

-- a condition that passed holds
pub need_holds : (t : Bool) (number w r : ℕ) → eqb number 0 ≡ false → passes (need t number w r) ≡ true → t ≡ true
need_holds true number w r z e = refl
need_holds false number w r z e = false_true (sym z ∙ e)

-- a search that passed found no flaw
pub no_fault : (number w : ℕ) (flaw : Option ℕ) → eqb number 0 ≡ false → passes (unless_fault number w flaw) ≡ true → flaw ≡ None
no_fault number w None z e = refl
no_fault number w (Some place) z e = false_true (sym z ∙ e)

-- a pass over the words that accepts accepts each
pub each_passes : (f : ℕ → Answer) (n : ℕ) → passes (pass_of f n) ≡ true → (w : ℕ) → w < n → passes (f w) ≡ true
unfolding pass_of
each_passes f n e w l = at (ltb (first (refuses f) 0 n) n) refl e
  where
    clash : (t : Bool) → not t ≡ true → t ≡ true → passes (f w) ≡ true
    clash true q r = false_true q
    clash false q r = false_true r

    at : (t : Bool) → ltb (first (refuses f) 0 n) n ≡ t → passes (cond t (f (first (refuses f) 0 n)) accepted) ≡ true → passes (f w) ≡ true
    at true t e = clash (passes (f (first (refuses f) 0 n))) (first_passes (refuses f) 0 n (ltb-true (first (refuses f) 0 n) n t)) e
    at false t e = not-false (passes (f w)) (first_least (refuses f) 0 n w (omega arith) (omega (arith, ltb-false (first (refuses f) 0 n) n t)))

-- a word that pass 3 accepts has its flow, and leaves the caller's registers alone
module _ (readings : List Reading) (w : ℕ) (e : passes (flow_pass readings w) ≡ true) where
  abbrev flows : Bool
  flows = flow_of readings w (reading_at readings w)

  both_hold : (passes (need flows bad_flow w 0) ≡ true) × (passes (callers_left w (reading_at readings w)) ≡ true)
  unfolding flow_pass
  both_hold = both_pass (need flows bad_flow w 0) (callers_left w (reading_at readings w)) e

  pub flow_holds : flow_of readings w (reading_at readings w) ≡ true
  flow_holds = need_holds flows bad_flow w 0 refl both_hold.0

  pub callers-left : leaves_callers (reading_at readings w) ≡ true
  callers-left = need_holds (leaves_callers (reading_at readings w)) callers_register w (written_by (reading_at readings w)) refl both_hold.1

-- a row that pass 1 accepts is well formed
pub row_holds : (p : Policy) (rows : List ℕ) (w : ℕ) → passes (row_pass p rows w) ≡ true
    → form_fault p.regions.count p.regions.sizes rows (row_bytes * w) ≡ None
unfolding row_pass
row_holds p rows w e = no_fault bad_row w (form_fault p.regions.count p.regions.sizes rows (row_bytes * w)) refl e

-- an entry row that pass 15 accepts fits row 0
pub entry_holds : (rows entry : List ℕ) → passes (entry_pass rows entry) ≡ true → misfit (entry_row entry) (row_at rows 0) ≡ None
unfolding entry_pass
entry_holds rows entry e = no_fault entry_misfit 0 (misfit (entry_row entry) (row_at rows 0)) refl e

-- a right shape has a well formed result entry
pub result_holds : (p : Policy) (n : ℕ) (rows entry result : List ℕ) → shape_ok p n rows entry result ≡ true
    → entry_formed_as p.regions.count p.regions.sizes result 0 result_register ≡ true
unfolding shape_ok
result_holds p n rows entry result e =
    needed (shape_ok p n rows entry result) (entry_formed_as p.regions.count p.regions.sizes result 0 result_register) e (λ f. rw (f, and-false))

-- a pass that accepts, and one that does not, with what follows it
pub goes : (a x y : Answer) → a ≡ x → a.number ≡ 0 → and_then x y ≡ y
goes a x y e h = rw (← e, eq-eqb a.number 0 h)

pub stops : (a x y : Answer) → a ≡ x → (a.number ≡ 0 → ⊥) → and_then x y ≡ a
stops a x y e h = rw (← e, ne_eqb a.number 0 h)
