-- The word at an index, as it is read: the words are read one by one, and a word outside the code is not read. An array of readings gives, at an
-- index below its length, what the word there is read as.
use Prim.Native.Nat.{ℕ, ◌<◌, ◌≤◌}
use mathlib.Core.Path.{◌≡◌, refl, sym, ◌∙◌}
use mathlib.Core.Bool.{Bool, true, false}
use mathlib.Core.List.{List}
use native.Mathlib.Omega.{arith}
use lib.Dec.{ltb}
use Rattle.std.proofs.lemmas.List.{length-map, get_or-map, get_or_past, get_or_default}
use lib.ListN.{length, get_or}
use lib.Seq.{length-take-le, get_or-take}
use borrow.Author.Tests.{ltb-true, ltb-false}
use Rattle.v8.specs.Numbers.{not_read, most_words}
use Rattle.v8.specs.Read.{reading_of}
use Rattle.v8.specs.declared.Edition.{Edition}
use Rattle.v8.specs.declared.Reading.{Reading}
use Rattle.v8.specs.declared.Reading.TheVariants.{Unread}
use Rattle.flow_code.specs.Readings.{readings_of, reading_at}
use Rattle.flow_code.specs.Lent.{code_of, Formed}

-- as many words are read as there are
pub read_count : (e : Edition) (words : List ℕ) → length (readings_of e words) ≡ length words
read_count e words = length-map words (reading_of e)

-- a word of the code
pub fetched : (e : Edition) (words : List ℕ) (w : ℕ) → w < length words → reading_at (readings_of e words) w ≡ reading_of e (get_or words w 0)
fetched e words w l = get_or-map (reading_of e) words w 0 (Unread not_read) l

-- one outside it
pub outside : (readings : List Reading) (w : ℕ) → length readings ≤ w → reading_at readings w ≡ Unread not_read
outside readings w l = get_or_past readings w (Unread not_read) l

module _ (readings : List Reading) (n : ℕ) (ok : Formed readings n) where
  -- how many words there are
  pub code_count : length (code_of readings n) ≡ n
  code_count = length-take-le n readings (omega (arith, ok.long, ok.most))

  -- where there is none
  past_code : (w : ℕ) → n ≤ w → reading_at (code_of readings n) w ≡ Unread not_read
  past_code w l = outside (code_of readings n) w (omega (arith, code_count, l))

  -- the array and what is read agree at every index
  whole : (w : ℕ) (t : Bool) → ltb w n ≡ t → reading_at readings w ≡ reading_at (code_of readings n) w
  whole w true t = sym (get_or-take n readings w (Unread not_read) (ltb-true w n t))
  whole w false t = ok.behind w (ltb-false w n t) ∙ sym (past_code w (ltb-false w n t))

  pub at_index : (w : ℕ) → reading_at readings w ≡ reading_at (code_of readings n) w
  at_index w = whole w (ltb w n) refl

  -- what the array has, whatever stands for what is outside it
  pub array_has : (w : ℕ) (other : Reading) → w < most_words → get_or readings w other ≡ reading_at (code_of readings n) w
  array_has w other h = get_or_default readings w other (Unread not_read) (omega (arith, ok.long, h)) ∙ at_index w

  -- what is read where it ends
  pub past_array : (w : ℕ) → most_words ≤ w → Unread not_read ≡ reading_at (code_of readings n) w
  past_array w h = sym (past_code w (omega (arith, ok.most, h)))
