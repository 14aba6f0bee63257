-- The laws of loads and stores. A load is a function of the bytes that it reads (`load_same`), so that what a store does to
-- single bytes decides what every load gives afterwards.
use Prim.Native.Nat.{ℕ, ◌+◌, ◌-◌, ◌*◌, ◌/◌, ◌%◌, ◌^◌, ◌≤◌, ◌<◌}
use mathlib.Core.Path.{◌≡◌, sym, ap, ◌∙◌}
use mathlib.Core.List.{List}
use native.Mathlib.Nat.{add-zero, zero-add, add_assoc, div-one}
use native.Mathlib.Omega.{arith}
use lib.Dec.{ltb}
use lib.Seq.{length-sets}
use Rattle.v8.proofs.Choice.{cond_both}
use Rattle.v8.specs.Signed.{sign_extend}
use Rattle.v8.specs.declared.LoadOp.{LoadOp}
use Rattle.v8.specs.declared.LoadOp.TheVariants.{Ld, Ldub, Lduh, Ldsb, Ldsh}
use Rattle.memory.specs.Memory.{byte_at, half_at, low_bytes, load_width, load_of, store_width, store_of}
use Rattle.memory.specs.Laws.{StoreKeepsLength, StoreKeepsOthers, StoreKeepsBytes, LoadKept, low_of, LoadAfterStore, LoadFits}
use Rattle.memory.proofs.Sets.{low_length, sets_others, sets_there, sets_bytes}

half_same : (m n : List ℕ) (a b : ℕ) → byte_at m a ≡ byte_at n b → byte_at m (a + 1) ≡ byte_at n (b + 1) → half_at m a ≡ half_at n b
half_same m n a b p q = cc

-- a load gives the same where the bytes that it reads are the same
pub load_same :
    (op : LoadOp) (m n : List ℕ) (a b : ℕ) → ((j : ℕ) → j < load_width op → byte_at m (a + j) ≡ byte_at n (b + j))
    → load_of op m a ≡ load_of op n b
load_same Ld m n a b h = simp (add_assoc, simp add-zero at (h 0 (omega arith)), h 1 (omega arith), h 2 (omega arith), h 3 (omega arith))
load_same Ldub m n a b h = simp add-zero at (h 0 (omega arith))
load_same Lduh m n a b h = half_same m n a b (simp add-zero at (h 0 (omega arith))) (h 1 (omega arith))
load_same Ldsb m n a b h = ap (sign_extend 8) (simp add-zero at (h 0 (omega arith)))
load_same Ldsh m n a b h = ap (sign_extend 16) (half_same m n a b (simp add-zero at (h 0 (omega arith))) (h 1 (omega arith)))

pub store_keeps_length : StoreKeepsLength
store_keeps_length op v a m = length-sets m a (low_bytes (store_width op) v)

pub store_keeps_others : StoreKeepsOthers
store_keeps_others op v a m i out = sets_others (low_bytes (store_width op) v) m a i (rw (low_length (store_width op) v) out)

pub store_keeps_bytes : StoreKeepsBytes
store_keeps_bytes op v a m h = sets_bytes (store_width op) v a m h

pub load_kept : LoadKept
load_kept load store v a m b apart =
    load_same load (store_of store v a m) m b b
    (λ j l. store_keeps_others store v a m (b + j) (apart (b + j) (omega arith) (omega arith)))

-- the low bytes of a value, put together
halves : (v : ℕ) → v / 256 % 256 * 256 + v % 256 ≡ v % 65536
halves v = omega arith

words : (v : ℕ) → v / 65536 % 65536 * 65536 + v % 65536 ≡ v % 4294967296
words v = omega arith

-- what is loaded of them
load_low : (op : LoadOp) (v : ℕ) → load_of op (low_bytes (load_width op) v) 0 ≡ low_of op v
load_low Ld v =
    let d : v / 65536 / 256 ≡ v / 16777216 = omega arith in
    let high : v / 16777216 % 256 * 256 + v / 65536 % 256 ≡ v / 65536 % 65536 = rw (← d) (halves (v / 65536)) in
    let low : v / 256 % 256 * 256 + v / 1 % 256 ≡ v % 65536 = rw (div-one v) (halves v) in
    rw (high, low) (words v)
load_low Ldub v = omega (arith, div-one v)
load_low Lduh v = omega (arith, div-one v)
load_low Ldsb v = ap (sign_extend 8) (omega (arith, div-one v))
load_low Ldsh v = ap (sign_extend 16) (omega (arith, div-one v))

pub load_after_store : LoadAfterStore
load_after_store load store v a m e inside =
    let n = store_width store in
    load_same load (store_of store v a m) (low_bytes n v) a 0
    (λ j l. simp zero-add (sets_there (low_bytes n v) m a j (rw (low_length n v) inside) (rw (low_length n v, ← e) l)))
    ∙ ap (λ (w : ℕ). load_of load (low_bytes w v) 0) (sym e)
    ∙ load_low load v

-- a sign-extended field is a 32-bit word
sign_extend_fits : (n x : ℕ) → 2 ^ n ≤ 4294967296 → x < 2 ^ n → sign_extend n x < 4294967296
unfolding sign_extend
sign_extend_fits n x h l = cond_both (λ (y : ℕ). y < 4294967296) (ltb x (2 ^ (n - 1))) (λ p. omega arith) (λ p. omega arith)

pub load_fits : LoadFits
load_fits Ld m a h = omega (arith, h a, h (a + 1), h (a + 2), h (a + 2 + 1))
load_fits Ldub m a h = omega (arith, h a)
load_fits Lduh m a h = omega (arith, h a, h (a + 1))
load_fits Ldsb m a h = sign_extend_fits 8 (byte_at m a) (omega arith) (h a)
load_fits Ldsh m a h = sign_extend_fits 16 (half_at m a) (omega arith) (omega (arith, h a, h (a + 1)))
