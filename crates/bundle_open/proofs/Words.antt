-- The words of a bundle, put into an array one by one.
use Prim.Native.Nat.{ℕ, zero, suc, ◌+◌, ◌*◌, ◌-◌, ◌<◌, ◌≤◌}
use mathlib.Core.Path.{◌≡◌, refl, sym, ap, ◌∙◌}
use mathlib.Core.List.{List, ◌∷◌, ◌++◌}
use native.Mathlib.Numerals.{add-one}
use native.Mathlib.Omega.{arith}
use lib.ListN.{length, set, take, replicate, length-append, length-replicate}
use Rattle.memory.specs.Memory.{word_at}
use Rattle.bundle_layout.specs.Layout.{word_bytes, most_given}
use Rattle.bundle_open.specs.Build.{words_from}
use Rattle.bundle_open.specs.Open.{words_held}

module _ (b : List ℕ) where
  -- the next word takes the place of the first zero
  one_more :
      (n at w m : ℕ) → w ≡ word_at b (at + word_bytes * n)
      → set (words_from b at n ++ replicate (suc m) 0) n w ≡ words_from b at (suc n) ++ replicate m 0
  one_more zero at w m p = ap (λ (x : ℕ). x ∷ replicate m 0) (p ∙ ap (λ (k : ℕ). word_at b k) (omega arith))
  one_more (suc n) at w m p =
      ap (λ (r : List ℕ). word_at b at ∷ r) (one_more n (at + word_bytes) w m (p ∙ ap (λ (k : ℕ). word_at b k) (omega arith)))

  -- one zero less is left
  one_less : (n : ℕ) → n < most_given → most_given - n ≡ suc (most_given - (n + 1))
  one_less n l = omega (arith, l)

  -- an array that holds n words, and then one more
  pub held_more :
      (at n w : ℕ) (ws : List ℕ) → n < most_given → ws ≡ words_held b at n → w ≡ word_at b (at + word_bytes * n) → set ws n w ≡ words_held b at (n + 1)
  held_more at n w ws l e p =
      ap (λ (r : List ℕ). set r n w) (e ∙ ap (λ (k : ℕ). words_from b at n ++ replicate k 0) (one_less n l))
      ∙ one_more n at w (most_given - (n + 1)) p
      ∙ ap (λ (k : ℕ). words_from b at k ++ replicate (most_given - (n + 1)) 0) (sym (add-one n))

  -- the words before the zeros
  pub words-held : (n at : ℕ) (ys : List ℕ) → take n (words_from b at n ++ ys) ≡ words_from b at n
  words-held zero at ys = refl
  words-held (suc n) at ys = ap (λ (r : List ℕ). word_at b at ∷ r) (words-held n (at + word_bytes) ys)

  -- such an array is as long as it must be
  words_length : (n at : ℕ) → length (words_from b at n) ≡ n
  words_length zero at = refl
  words_length (suc n) at = ap suc (words_length n (at + word_bytes))

  pub held_length : (n at : ℕ) → n ≤ most_given → most_given ≡ length (words_held b at n)
  held_length n at l =
      let k = words_length n at in let z = length-replicate {A = ℕ} (most_given - n) 0 in
      let s = length-append (words_from b at n) (replicate (most_given - n) 0) in omega (arith, k, z, s, l)
