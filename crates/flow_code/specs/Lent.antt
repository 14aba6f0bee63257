-- What the code needs of the arrays in which it keeps readings and marks of words. Nothing has to be believed of it.
use Rattle.std.specs.Prelude.{ℕ, ◌≤◌, ◌<◌, ◌≡◌, Bool, false, not, ◌||◌, List, get_or, length, take}
use Rattle.v8.specs.Numbers.{not_read, most_words}
use Rattle.v8.specs.declared.Reading.{Reading}
use Rattle.v8.specs.declared.Reading.TheVariants.{Unread}
use Rattle.flow_code.specs.Readings.{reading_at, is_slot, examined}

-- the readings of n words are the first n of an array ..
abbrev pub code_of : List Reading → ℕ → List Reading
code_of readings n = take n readings

-- .. behind which nothing is read
pub record Formed (readings : List Reading) (n : ℕ) : Type 0 where
  pub long : length readings ≡ most_words
  pub most : n ≤ most_words
  pub behind : (w : ℕ) → n ≤ w → reading_at readings w ≡ Unread not_read

-- an array has what n words are read as
pub record ReadAs (readings : List Reading) (n : ℕ) (code : List Reading) : Type 0 where
  pub formed : Formed readings n
  pub is : code_of readings n ≡ code

-- An array has at the index of every word whether it is outside slots ..
abbrev pub Outside : List Bool → List Reading → Type 0
Outside marks readings = (w : ℕ) → w < length readings → get_or marks w false ≡ not (is_slot readings w)

-- .. and one whether it is examined
abbrev pub Examines : List Bool → List Reading → Type 0
Examines marks readings = (w : ℕ) → w < length readings → get_or marks w false ≡ examined readings w

-- Marks are added to an array, wherever a test passes; those that it has stay.
pub record Adds (before after : List Bool) (f : ℕ → Bool) : Type 0 where
  pub long : length after ≡ length before
  pub each : (w : ℕ) → w < length before → get_or after w false ≡ get_or before w false || f w
