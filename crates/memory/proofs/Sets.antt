-- Bytes that are stored one after the other: what stands afterwards at their places, and at all others.
use Prim.Native.Nat.{ℕ, zero, suc, ◌+◌, ◌/◌, ◌%◌, ◌^◌, ◌≤◌, ◌<◌}
use mathlib.Core.Path.{◌≡◌, refl, sym, ap, ◌∙◌}
use mathlib.Core.List.{List, [], ◌∷◌, ◌++◌, append_assoc}
use native.Mathlib.Nat.{mod-lt}
use native.Mathlib.Omega.{arith}
use lib.ListN.{length, get_or, set, take, drop, get_or-append}
use lib.Seq.{sets, sets-eq, length-take-le, get_or-append-add, get_or-set_other}
use Rattle.memory.specs.Memory.{Bytes, low_bytes}
use Rattle.memory.specs.Laws.{Outside}

-- the low bytes of a value are as many as asked for
pub low_length : (n v : ℕ) → length (low_bytes n v) ≡ n
low_length zero v = refl
low_length (suc n) v = ap suc (low_length n v)

-- a byte outside the stored ones is as it was
pub sets_others : (vs m : List ℕ) (a i : ℕ) → Outside a (length vs) i → get_or (sets m a vs) i 0 ≡ get_or m i 0
sets_others [] m a i out = refl
sets_others (v ∷ vs) m a i out =
    sets_others vs (set m a v) (suc a) i (λ p q. out (omega arith) (omega arith))
    ∙ get_or-set_other m a i v 0 (λ e. out (omega arith) (omega arith))

-- a stored byte stands at its place
pub sets_there : (vs m : List ℕ) (a j : ℕ) → a + length vs ≤ length m → j < length vs → get_or (sets m a vs) (a + j) 0 ≡ get_or vs j 0
sets_there vs m a j inside l =
    let end : List ℕ = drop (a + length vs) m in
    ap (λ (r : List ℕ). get_or r (a + j) 0) (sets-eq vs m a inside ∙ append_assoc (take a m) vs end)
    ∙ ap (λ (n : ℕ). get_or (take a m ++ (vs ++ end)) (n + j) 0) (sym (length-take-le a m (omega arith)))
    ∙ get_or-append-add (take a m) (vs ++ end) j 0
    ∙ get_or-append vs end 0 j l

-- bytes stay bytes where bytes are stored: one, and the low bytes of a value
set_bytes : (m : List ℕ) (a v : ℕ) → v < 256 → Bytes m → Bytes (set m a v)
set_bytes [] a v l h i = h i
set_bytes (x ∷ m) zero v l h zero = l
set_bytes (x ∷ m) zero v l h (suc i) = h (suc i)
set_bytes (x ∷ m) (suc a) v l h zero = h zero
set_bytes (x ∷ m) (suc a) v l h (suc i) = set_bytes m a v l (λ k. h (suc k)) i

pub sets_bytes : (n v a : ℕ) (m : List ℕ) → Bytes m → Bytes (sets m a (low_bytes n v))
sets_bytes zero v a m h = h
sets_bytes (suc n) v a m h =
    let b : ℕ = v / 256 ^ n % 256 in
    sets_bytes n v (suc a) (set m a b) (set_bytes m a b (mod-lt (v / 256 ^ n) (omega arith)) h)
