-- A test of every number below a bound, as an iterator makes it: the numbers one after the other, the first of them first.
use Prim.Native.Nat.{ℕ, zero, suc, ◌+◌}
use mathlib.Core.Path.{◌≡◌, refl, sym, ap, ◌∙◌}
use mathlib.Core.Bool.{Bool, ◌&&◌, and-true, and_assoc}
use native.Mathlib.Omega.{arith}
use Rattle.std.specs.List.{range_with_len, list_all}
use Rattle.v8.specs.Search.{all}

-- one number more
one_more : (f : ℕ → Bool) (a n : ℕ) → list_all f (range_with_len a (suc n)) ≡ list_all f (range_with_len a n) && f (a + n)
one_more f a zero = let e : a + 0 ≡ a = omega arith in and-true (f a) ∙ ap f (sym e)
one_more f a (suc n) =
    let e : a + 1 + n ≡ a + suc n = omega arith in
    ap (λ (t : Bool). f a && t) (one_more f (a + 1) n ∙ ap (λ (k : ℕ). list_all f (range_with_len (a + 1) n) && f k) e)
    ∙ sym (and_assoc (f a) (list_all f (range_with_len (a + 1) n)) (f (a + suc n)))

pub all_below : (f : ℕ → Bool) (n : ℕ) → list_all f (range_with_len 0 n) ≡ all f n
unfolding all
all_below f zero = refl
all_below f (suc n) =
    let e : 0 + n ≡ n = omega arith in
    one_more f 0 n ∙ ap (λ (k : ℕ). list_all f (range_with_len 0 n) && f k) e ∙ ap (λ (t : Bool). t && f n) (all_below f n)
