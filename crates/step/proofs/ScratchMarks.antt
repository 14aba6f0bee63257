-- The marks of scratch words stand after those of the registers, so that neither changes the other.
use Prim.Native.Nat.{ℕ, zero, suc, ◌+◌, ◌≤◌, ◌<◌}
use mathlib.Core.Path.{◌≡◌, refl, ap, ◌∙◌}
use mathlib.Core.Bool.{Bool, true, false}
use mathlib.Core.List.{List, [], ◌∷◌}
use native.Mathlib.Omega.{arith}
use lib.Dec.{eqb}
use lib.ListN.{length, get_or, set, length-set, replicate}
use lib.Seq.{get_or-set_same, get_or-set_other, paste}
use Rattle.std.proofs.lemmas.List.Edits.{paste_none, fill_from_more}
use borrow.Author.Tests.{eqb-true, eqb-false}
use Rattle.memory.specs.Frame.{scratch_count}
use Rattle.step.specs.declared.Registers.{Registers}
use Rattle.step.specs.Registers.{set_in, marks_with, scratch_mark, mark_count, with_scratch, unset_from}
use Rattle.step.specs.Laws.{Unchanged, WriteKeepsScratch, ScratchIsSet, ScratchIsUnset}
use Rattle.step.proofs.Writing.{write_after, after_write}

pub write_keeps_scratch : WriteKeepsScratch
unfolding marks_with
write_keeps_scratch g r v k = write_after true false g.marks r true (scratch_mark k) (omega arith)

-- no register is changed where the mark of a scratch word is set
pub marking_keeps : (g : Registers) (k r : ℕ) → Unchanged g (with_scratch g k) r
unfolding set_in
marking_keeps g k r = (refl, after_write true false g.marks (scratch_mark k) true r (omega arith))

pub scratch_is_set : ScratchIsSet
scratch_is_set g k n l =
    record {
      here = get_or-set_same g.marks (scratch_mark k) true false (omega arith);
      others = λ j away. get_or-set_other g.marks (scratch_mark k) (scratch_mark j) true false (λ e. away (omega arith));
      registers = marking_keeps g k;
      marks = length-set g.marks (scratch_mark k) true;
    }

-- what is made unset is, in a list of any length; marks below those that are made unset are kept
unset_one : (marks : List Bool) (i : ℕ) → get_or (set marks i false) i false ≡ false
unset_one [] i = refl
unset_one (m ∷ ms) zero = refl
unset_one (m ∷ ms) (suc i) = unset_one ms i

unset_below : (n : ℕ) (marks : List Bool) (i j : ℕ) → j < i → get_or (unset_from marks i n) j false ≡ get_or marks j false
unset_below zero marks i j l = refl
unset_below (suc n) marks i j l = unset_below n (set marks i false) (i + 1) j (omega arith) ∙ get_or-set_other marks i j false false (apart l)
  where
    apart : {i j : ℕ} → j < i → j ≡ i → ⊥
    apart l e = omega arith

unset_there : (n : ℕ) (marks : List Bool) (i j : ℕ) → i ≤ j → j < i + n → get_or (unset_from marks i n) j false ≡ false
unset_there zero marks i j a l = absurd (omega arith)
unset_there (suc n) marks i j a l = at (eqb j i) refl (λ m k. unset_there n (set marks i false) (i + 1) j m k)
  where
    at : (t : Bool) → eqb j i ≡ t → (i + 1 ≤ j → j < i + 1 + n → get_or (unset_from (set marks i false) (i + 1) n) j false ≡ false)
        → get_or (unset_from (set marks i false) (i + 1) n) j false ≡ false
    at true e rest = rw (eqb-true j i e) (unset_below n (set marks i false) (i + 1) i (omega arith) ∙ unset_one marks i)
    at false e rest = let away = eqb-false j i e in rest (omega arith) (omega arith)

-- making marks unset one by one is writing as many unset marks at once
unset_on : (n k m i at : ℕ) (marks : List Bool) → i ≡ at + k → m ≡ k + n → at + m ≤ length marks
    → unset_from (paste marks at (replicate k false) k) i n ≡ paste marks at (replicate m false) m
unset_on zero k m i at marks e q h = let same : m ≡ k = omega arith in rw same
unset_on (suc n) k m i at marks e q h =
    let within : at + k < length marks = omega arith in
    rw (e, fill_from_more marks at k false within) (unset_on n (k + 1) m (at + k + 1) at marks (omega arith) (omega arith) h)

pub unset_paste : (n at : ℕ) (marks : List Bool) → at + n ≤ length marks → unset_from marks at n ≡ paste marks at (replicate n false) n
unset_paste n at marks h =
    ap (λ (xs : List Bool). unset_from xs at n) (paste_none marks at []) ∙ unset_on n 0 n at at marks (omega arith) (omega arith) h

unset_length : (n : ℕ) (marks : List Bool) (i : ℕ) → length (unset_from marks i n) ≡ length marks
unset_length zero marks i = refl
unset_length (suc n) marks i = unset_length n (set marks i false) (i + 1) ∙ length-set marks i false

unset_registers : (n : ℕ) (marks : List Bool) (i r : ℕ) → 32 ≤ i → set_in (unset_from marks i n) r ≡ set_in marks r
unfolding set_in
unset_registers zero marks i r h = refl
unset_registers (suc n) marks i r h = unset_registers n (set marks i false) (i + 1) r (omega arith) ∙ after_write true false marks i false r h

pub scratch_is_unset : ScratchIsUnset
scratch_is_unset g =
    record {
      scratch = λ k l. unset_there scratch_count g.marks (scratch_mark 0) (scratch_mark k) (omega arith) (omega arith);
      registers = λ r. (refl, unset_registers scratch_count g.marks (scratch_mark 0) r (omega arith));
      marks = unset_length scratch_count g.marks (scratch_mark 0);
    }
