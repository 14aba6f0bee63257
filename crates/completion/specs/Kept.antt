-- What a completed bundle has in common with what it was: all that stands before its rows, and the rows that were there.
use Rattle.std.specs.Prelude.{ℕ, ◌+◌, ◌*◌, ◌<◌, ◌≤◌, ◌≡◌, Bool, true, not, List, eqb}
use Rattle.memory.specs.Memory.{byte_at}
use Rattle.bundle_layout.specs.Layout.{rows_bytes, word_count, rows_place}

-- a byte is as it was
abbrev pub SameAt : List ℕ → List ℕ → ℕ → Type 0
SameAt before after k = byte_at after k ≡ byte_at before k

-- the row that begins at a byte is there: its first byte is not 0
abbrev pub is_there : List ℕ → ℕ → Bool
is_there b at = not (eqb (byte_at b at) 0)

-- n rows of this many bytes from a place on: what stands before them is as it was, and each that was there
pub record RowsKept (size n place : ℕ) (before after : List ℕ) : Type 0 where
  pub ahead : (k : ℕ) → k < place → SameAt before after k
  pub given : (r j : ℕ) → r < n → j < size → is_there before (place + size * r) ≡ true → SameAt before after (place + size * r + j)

-- head, policy, entry row, result entry and words are as they were, and the rows that were there
abbrev pub Kept : List ℕ → List ℕ → Type 0
Kept before after = RowsKept (rows_bytes before 1) (word_count before) (rows_place before) before after

-- Of what is written at a place: all bytes but n there are as they were ..
pub record SameOutside (place n : ℕ) (before after : List ℕ) : Type 0 where
  pub below : (k : ℕ) → k < place → SameAt before after k
  pub above : (k : ℕ) → place + n ≤ k → SameAt before after k

-- .. and these too, if a row was there
pub record PutAt (place n : ℕ) (before after : List ℕ) : Type 0 where
  pub outside : SameOutside place n before after
  pub stays : is_there before place ≡ true → (k : ℕ) → SameAt before after k
