-- A pass over the words, from a word on: what a loop cites.
use Prim.Native.Nat.{ℕ, ◌+◌, ◌*◌, ◌≤◌, ◌<◌}
use mathlib.Core.Path.{◌≡◌, refl, sym, ap, ◌∙◌}
use mathlib.Core.Bool.{Bool, false, cond, not}
use mathlib.Core.List.{List}
use native.Mathlib.Omega.{arith}
use lib.Dec.{ltb}
use lib.ListN.{get_or}
use borrow.Author.Tests.{lt-ltb, le-ltb, eq-eqb, ne_eqb}
use Rattle.std.specs.Prelude.{Some, None}
use Rattle.v8.specs.Numbers.{bad_row}
use Rattle.v8.specs.declared.Reading.{Reading}
use Rattle.flow_code.specs.Readings.{reading_at, transfers, is_slot}
use Rattle.flow.specs.Flow.{flow_with}
use Rattle.flow_code.specs.Lent.{code_of, Formed, Examines}
use Rattle.flow_code.proofs.Fetched.{array_has, code_count}
use Rattle.flow_code.proofs.Examined.{slot_next}
use Rattle.v8.specs.Search.{first}
use Rattle.v8.proofs.Search.{first_here, first_next, first_end}
use Rattle.policy.specs.declared.Policy.{Policy}
use Rattle.rows.specs.Geometry.{row_bytes}
use Rattle.rows.specs.Row.{form_fault}
use Rattle.passes.specs.declared.Answer.{Answer}
use Rattle.passes.specs.Answer.{accepted, refuse, passes, refuses, pass_of}
use Rattle.passes.specs.Passes.{row_pass, if_read, read_pass, flow_then, flow_pass}

-- the answer at the first word from w on, below n, that does not accept
unfoldable pub pass_from : (ℕ → Answer) → ℕ → ℕ → Answer
pass_from f w n = cond (ltb (first (refuses f) w n) n) (f (first (refuses f) w n)) accepted

module _ (f : ℕ → Answer) where
  -- a pass begins at word 0
  pub pass_start : (n : ℕ) → pass_of f n ≡ pass_from f 0 n
  unfolding pass_of pass_from
  pass_start n = refl

  -- it ends at a word that does not accept
  pub pass_here : (w n : ℕ) (a : Answer) → a ≡ f w → w < n → (a.number ≡ 0 → ⊥) → pass_from f w n ≡ a
  unfolding pass_from
  pass_here w n a e l h =
      rw (first_here (refuses f) w n l (ap (λ (b : Answer). not (passes b)) (sym e) ∙ ap not (ne_eqb a.number 0 h)), lt-ltb w n l) (sym e)

  -- it goes on where a word accepts
  pub pass_next : (w n : ℕ) (a : Answer) → a ≡ f w → w < n → a.number ≡ 0 → pass_from f w n ≡ pass_from f (w + 1) n
  unfolding pass_from
  pass_next w n a e l h =
      rw (first_next (refuses f) w n l (ap (λ (b : Answer). not (passes b)) (sym e) ∙ ap not (eq-eqb a.number 0 h)))

  -- it accepts at the bound
  pub pass_end : (w n : ℕ) → n ≤ w → pass_from f w n ≡ accepted
  unfolding pass_from
  pass_end w n l = rw (first_end (refuses f) w n l, le-ltb w n l)

module _ (p : Policy) (rows : List ℕ) (w : ℕ) where
  -- the lowest badly formed place of a row is named
  pub row_broken : (place : ℕ) → form_fault p.regions.count p.regions.sizes rows (row_bytes * w) ≡ Some place → refuse bad_row w place ≡ row_pass p rows w
  unfolding row_pass
  row_broken place e = rw e

  -- a well-formed row passes
  pub row_formed : form_fault p.regions.count p.regions.sizes rows (row_bytes * w) ≡ None → accepted ≡ row_pass p rows w
  unfolding row_pass
  row_formed e = rw e

-- What a loop finds at a word, by what the array of readings has for it, is what the pass answers.
module _ (readings : List Reading) (count : ℕ) (formed : Formed readings count) (i : ℕ) (more : i < count) (other : Reading) where
  -- the array has what the word is read as
  pub here : get_or readings i other ≡ reading_at (code_of readings count) i
  here = array_has readings count formed i other (omega (arith, formed.most))

  pub read_here : (a : Answer) → a ≡ if_read i (get_or readings i other) → a ≡ read_pass (code_of readings count) i
  unfolding read_pass
  read_here a e = e ∙ ap (if_read i) here

  pub flow_here : (marks : List Bool) (in_slot : Bool) (a : Answer) → Examines marks (code_of readings count) → in_slot ≡ is_slot (code_of readings count) i
      → a ≡ flow_then (flow_with count in_slot (get_or marks i false) i (get_or readings i other)) i (get_or readings i other)
      → a ≡ flow_pass (code_of readings count) i
  unfolding flow_pass
  flow_here marks in_slot a m s e =
      let long = code_count readings count formed in
      e ∙ rw (here, s, m i (omega (arith, long)), long)

  -- the next word is a slot exactly if this one is read as a transfer
  pub slot_here : (t : Bool) → t ≡ transfers (get_or readings i other) → t ≡ is_slot (code_of readings count) (i + 1)
  slot_here t e = e ∙ ap transfers here ∙ sym (slot_next (code_of readings count) i)
