-- Values of a function, one after the other: what stands at a place, and a list that has each of them.
use Prim.Native.Nat.{ℕ, zero, suc, ◌+◌, ◌<◌}
use mathlib.Core.Path.{◌≡◌, refl, sym, ap, ◌∙◌}
use mathlib.Core.List.{List}
use mathlib.Core.Logic.{⊎_elim}
use native.Mathlib.Nat.{not-suc-le-zero, le_of_suc-le-suc, eq-or-lt_of_le, ne_of_lt}
use native.Mathlib.Omega.{arith}
use lib.ListN.{length, get_or, set}
use lib.Seq.{ext_get_or, get_or-set_same, get_or-set_other}
use Rattle.marks.specs.Marks.{values_from}

pub values_length : (f : ℕ → ℕ) (i n : ℕ) → length (values_from f i n) ≡ n
values_length f i zero = refl
values_length f i (suc n) = ap suc (values_length f (i + 1) n)

pub value-at : (f : ℕ → ℕ) (i n k d : ℕ) → k < n → get_or (values_from f i n) k d ≡ f (i + k)
value-at f i zero k d l = absurd (not-suc-le-zero l)
value-at f i (suc n) zero d l = ap f (omega arith)
value-at f i (suc n) (suc k) d l = value-at f (i + 1) n k d (le_of_suc-le-suc l) ∙ ap f (omega arith)

-- the first n places of a list have the function's values
abbrev pub HasTo : (ℕ → ℕ) → ℕ → List ℕ → Type 0
HasTo f n xs = (k : ℕ) → k < n → get_or xs k 0 ≡ f k

-- one more
pub has_more : (f : ℕ → ℕ) (n v : ℕ) (xs : List ℕ) → n < length xs → v ≡ f n → HasTo f n xs → HasTo f (n + 1) (set xs n v)
has_more f n v xs l e h k m =
    ⊎_elim
    (λ (q : k ≡ n). rw q (get_or-set_same xs n v 0 l ∙ e))
    (λ (q : k < n). get_or-set_other xs n k v 0 (ne_of_lt q) ∙ h k q)
    (eq-or-lt_of_le (omega arith))

-- all
pub has_all : (f : ℕ → ℕ) (n : ℕ) (xs : List ℕ) → length xs ≡ n → HasTo f n xs → xs ≡ values_from f 0 n
has_all f n xs e h =
    ext_get_or 0 xs (values_from f 0 n) (e ∙ sym (values_length f 0 n))
    (λ k l. let b : k < n = omega (arith, e, l) in h k b ∙ sym (value-at f 0 n k 0 b ∙ ap f (omega arith)))
