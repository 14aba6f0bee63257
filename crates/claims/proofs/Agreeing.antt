-- Where the bytes of two lists agree, so does what is read from them. An entry, a note and a row are each read from their own bytes;
-- and whether a row is well formed depends on these bytes alone.
use Prim.Native.Nat.{ℕ, zero, suc, ◌+◌, ◌*◌, ◌≤◌, ◌<◌}
use mathlib.Core.Path.{◌≡◌, refl, sym, ap, ◌∙◌}
use mathlib.Core.Bool.{Bool, true, false, cond}
use mathlib.Core.List.{List}
use native.Mathlib.Omega.{arith}
use lib.Dec.{eqb}
use Rattle.memory.specs.Memory.{byte_at, word_at}
use Rattle.rows.specs.Geometry.{entry_count, entry_bytes, note_bytes, row_bytes, note_offset, note_start, note_name, places, entry_named}
use Rattle.rows.specs.Row.{entry_of, note_of, entries_from, row_of, note_formed, entry_formed_at, formed_at}
use Rattle.rows.proofs.Named.{named_entry}

module _ (xs ys : List ℕ) where
  -- n bytes of the one list from x on are those of the other from y on
  abbrev pub Agree : ℕ → ℕ → ℕ → Type 0
  Agree x y n = (j : ℕ) → j < n → byte_at xs (x + j) ≡ byte_at ys (y + j)

  -- a part of bytes that agree agrees
  pub part : (x y n k m : ℕ) → k + m ≤ n → Agree x y n → Agree (x + k) (y + k) m
  part x y n k m l h j b = ap (byte_at xs) (sum x k j) ∙ h (k + j) (omega arith) ∙ ap (byte_at ys) (sym (sum y k j))
    where
      sum : (a b c : ℕ) → a + b + c ≡ a + (b + c)
      sum a b c = omega arith

  -- the first of them
  first_byte : (x y n : ℕ) → 0 < n → Agree x y n → byte_at xs x ≡ byte_at ys y
  first_byte x y n l h = ap (byte_at xs) (none x) ∙ h 0 l ∙ ap (byte_at ys) (sym (none y))
    where
      none : (a : ℕ) → a ≡ a + 0
      none a = omega arith

  -- a word is four bytes
  same_word : (x y : ℕ) → Agree x y 4 → word_at xs x ≡ word_at ys y
  same_word x y h =
      rw (
        first_byte x y 4 (omega arith) h,
        h 1 (omega arith),
        h 2 (omega arith),
        first_byte (x + 2 + 1) (y + 2 + 1) 1 (omega arith) (part (x + 2) (y + 2) 2 1 1 (omega arith) (part x y 4 2 2 (omega arith) h)),
      )

  pub same_entry : (x y : ℕ) → Agree x y entry_bytes → entry_of xs x ≡ entry_of ys y
  unfolding entry_of
  same_entry x y h =
      rw (
        first_byte x y entry_bytes (omega arith) h,
        h 1 (omega arith),
        h 2 (omega arith),
        same_word (x + 4) (y + 4) (part x y entry_bytes 4 4 (omega arith) h),
        same_word (x + 8) (y + 8) (part x y entry_bytes 8 4 (omega arith) h),
      )

  pub same_note : (x y : ℕ) → Agree x y note_bytes → note_of xs x ≡ note_of ys y
  unfolding note_of
  same_note x y h =
      rw (first_byte x y note_bytes (omega arith) h, h 1 (omega arith), same_word (x + 4) (y + 4) (part x y note_bytes 4 4 (omega arith) h))

  same_entries : (n x y : ℕ) → Agree x y (entry_bytes * n) → entries_from xs x n ≡ entries_from ys y n
  same_entries zero x y h = refl
  same_entries (suc n) x y h =
      rw (
        same_entry x y (λ j l. h j (omega arith)),
        same_entries n (x + entry_bytes) (y + entry_bytes) (part x y (entry_bytes * suc n) entry_bytes (entry_bytes * n) (omega arith) h),
      )

  -- the bytes of the note
  note_part : (x y : ℕ) → Agree x y row_bytes → Agree (note_start x) (note_start y) note_bytes
  note_part x y h = part x y row_bytes note_offset note_bytes (omega arith) h

  -- rows whose bytes agree are the same row
  pub same_row : (x y : ℕ) → Agree x y row_bytes → row_of xs x ≡ row_of ys y
  unfolding row_of
  same_row x y h =
      rw (same_entries entry_count x y (λ j l. h j (omega arith)), same_note (note_start x) (note_start y) (note_part x y h))

  -- and what is well formed in the one is in the other, place by place
  module _ (regions : ℕ) (sizes : List ℕ) where
    pub same_form : (x y place : ℕ) → place < places → Agree x y row_bytes → formed_at regions sizes xs x place ≡ formed_at regions sizes ys y place
    unfolding formed_at
    same_form x y place l h = at (eqb place note_name) refl
      where
        at : (t : Bool) → eqb place note_name ≡ t
            → cond (eqb place note_name) (note_formed xs (note_start x)) (entry_formed_at regions sizes xs x (entry_named place))
            ≡ cond (eqb place note_name) (note_formed ys (note_start y)) (entry_formed_at regions sizes ys y (entry_named place))
        at true t =
            let k = note_part x y h in
            rw (t, k 2 (omega arith), k 3 (omega arith), same_note (note_start x) (note_start y) k)
        at false t =
            let i = entry_named place in
            let k = part x y row_bytes (entry_bytes * i) entry_bytes (omega (arith, named_entry place l t)) h in
            rw (t, k 3 (omega arith), same_entry (x + entry_bytes * i) (y + entry_bytes * i) k)
