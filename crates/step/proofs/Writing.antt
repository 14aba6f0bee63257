-- What a write does to one list, of the 32 values or of the marks: the register written has what is written, the others are as they were, and there are
-- still as many. What stands after the 32 is no register's.
use Prim.Native.Nat.{ℕ, ◌≤◌, ◌<◌}
use mathlib.Core.Path.{◌≡◌, refl}
use mathlib.Core.Bool.{Bool, true, false, cond}
use mathlib.Core.List.{List}
use native.Mathlib.Omega.{arith}
use lib.Dec.{ltb, eqb}
use lib.ListN.{length, get_or, set, length-set}
use lib.Seq.{get_or-set_same, get_or-set_other}
use borrow.Author.Tests.{eqb-true, eqb-false, ltb-true, lt-ltb, ne_eqb}
use Rattle.v8.proofs.Choice.{cond_both}

-- with what a register reads as where there is no such place
module _ {A : Type 0} (zero outside : A) where
  abbrev pub read_at : List A → ℕ → A
  read_at xs r = cond (eqb r 0) zero (cond (ltb r 32) (get_or xs r outside) outside)

  abbrev pub write_at : List A → ℕ → A → List A
  write_at xs r a = cond (eqb r 0) xs (cond (ltb r 32) (set xs r a) xs)

  some_of : {r : ℕ} → 1 ≤ r → r ≡ 0 → ⊥
  some_of l e = omega arith

  pub write_here : (xs : List A) (r : ℕ) (a : A) → 32 ≤ length xs → 1 ≤ r → r < 32 → read_at (write_at xs r a) r ≡ a
  write_here xs r a n s l = rw (ne_eqb r 0 (some_of s), lt-ltb r 32 l) (get_or-set_same xs r a outside (omega arith))

  pub write_others : (xs : List A) (rd : ℕ) (a : A) (r : ℕ) → (r ≡ rd → 1 ≤ rd → rd < 32 → ⊥) → read_at (write_at xs rd a) r ≡ read_at xs r
  write_others xs rd a r away =
      cond_both (λ (ys : List A). read_at ys r ≡ read_at xs r) (eqb rd 0) (λ _. refl)
      λ z. cond_both (λ (ys : List A). read_at ys r ≡ read_at xs r) (ltb rd 32)
      (λ l. at (eqb r rd) refl (eqb-false rd 0 z) (ltb-true rd 32 l)) (λ _. refl)
    where
      at : (t : Bool) → eqb r rd ≡ t → (rd ≡ 0 → ⊥) → rd < 32 → read_at (set xs rd a) r ≡ read_at xs r
      at true q z l = absurd (away (eqb-true r rd q) (omega arith) l)
      at false q z l = rw (get_or-set_other xs rd r a outside (eqb-false r rd q))

  pub write_length : (xs : List A) (r : ℕ) (a : A) → length (write_at xs r a) ≡ length xs
  write_length xs r a =
      cond_both (λ (ys : List A). length ys ≡ length xs) (eqb r 0) (λ _. refl)
      λ _. cond_both (λ (ys : List A). length ys ≡ length xs) (ltb r 32) (λ _. length-set xs r a) (λ _. refl)

  -- a write to a register changes nothing after the 32 ..
  pub write_after : (xs : List A) (r : ℕ) (a : A) (i : ℕ) → 32 ≤ i → get_or (write_at xs r a) i outside ≡ get_or xs i outside
  write_after xs r a i h =
      cond_both (λ (ys : List A). get_or ys i outside ≡ get_or xs i outside) (eqb r 0) (λ _. refl)
      λ _. cond_both (λ (ys : List A). get_or ys i outside ≡ get_or xs i outside) (ltb r 32)
      (λ l. get_or-set_other xs r i a outside (apart (ltb-true r 32 l))) (λ _. refl)
    where
      apart : r < 32 → i ≡ r → ⊥
      apart l e = omega arith

  -- .. and what is put there changes no register
  pub after_write : (xs : List A) (i : ℕ) (a : A) (r : ℕ) → 32 ≤ i → read_at (set xs i a) r ≡ read_at xs r
  after_write xs i a r h = at (ltb r 32) refl
    where
      apart : r < 32 → r ≡ i → ⊥
      apart l e = omega arith

      at : (t : Bool) → ltb r 32 ≡ t → read_at (set xs i a) r ≡ read_at xs r
      at true l = rw (get_or-set_other xs i r a outside (apart (ltb-true r 32 l)))
      at false l = rw l
