-- The words are read one by one: after i of them the array has, at every index below i, what the word there is read as, and nothing
-- is read from there on; after all of them its first readings are those of the words.
use Prim.Native.Nat.{ℕ, zero, suc, ◌<◌, ◌≤◌}
use mathlib.Core.Path.{◌≡◌, refl, sym, ◌∙◌}
use mathlib.Core.Bool.{cond}
use mathlib.Core.List.{List}
use native.Mathlib.Omega.{arith}
use lib.Dec.{ltb}
use lib.ListN.{length, replicate}
use lib.Seq.{length-take-le, get_or-take, ext_get_or}
use borrow.Author.Tests.{lt-ltb, le-ltb}
use Rattle.v8.specs.declared.Edition.{Edition}
use Rattle.v8.specs.declared.Reading.{Reading}
use Rattle.v8.specs.declared.Reading.TheVariants.{Unread}
use Rattle.v8.specs.Numbers.{not_read, most_words}
use Rattle.flow_code.specs.Readings.{readings_of, reading_at}
use Rattle.flow_code.specs.Lent.{code_of, Formed, ReadAs}
use Rattle.flow_code.proofs.Fetched.{read_count}

-- the first i words are read
abbrev pub Filled : Edition → List ℕ → List Reading → ℕ → Type 0
Filled e words readings i = (at : ℕ) → reading_at readings at ≡ cond (ltb at i) (reading_at (readings_of e words) at) (Unread not_read)

unread : (n at : ℕ) → reading_at (replicate n (Unread not_read)) at ≡ Unread not_read
unread zero at = refl
unread (suc n) zero = refl
unread (suc n) (suc at) = unread n at

pub none_filled : (e : Edition) (words : List ℕ) (n : ℕ) → Filled e words (replicate n (Unread not_read)) 0
none_filled e words n at = rw (le-ltb at 0 (omega arith)) (unread n at)

module _ (e : Edition) (words : List ℕ) (readings : List Reading) (i : ℕ) (long : length readings ≡ most_words) (most : length words ≤ most_words)
    (f : Filled e words readings i) (all : i ≡ length words) where
  formed : Formed readings (length words)
  formed = record { long = long; most = most; behind = λ at l. f at ∙ rw (le-ltb at i (omega (arith, all, l))) }

  counted : length (code_of readings (length words)) ≡ length words
  counted = length-take-le (length words) readings (omega (arith, long, most))

  at_each : (at : ℕ) → at < length words → reading_at (code_of readings (length words)) at ≡ reading_at (readings_of e words) at
  at_each at l = get_or-take (length words) readings at (Unread not_read) l ∙ f at ∙ rw (lt-ltb at i (omega (arith, all, l)))

  pub all_filled : ReadAs readings (length words) (readings_of e words)
  all_filled =
      record {
        formed = formed;
        is = ext_get_or (Unread not_read) (code_of readings (length words)) (readings_of e words) (counted ∙ sym (read_count e words)) (λ at l. at_each at (omega (arith, l, counted)));
      }
