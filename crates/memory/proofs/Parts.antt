-- A part of a memory that is lent: what is loaded from it, and what the whole is once it is back.
use Prim.Native.Nat.{ℕ, suc, ◌+◌, ◌≤◌, ◌<◌}
use mathlib.Core.Path.{◌≡◌, ◌∙◌}
use mathlib.Core.List.{List, [], ◌∷◌}
use native.Mathlib.Nat.{add-suc, add_assoc}
use native.Mathlib.Omega.{arith}
use lib.ListN.{length, set, drop}
use lib.Seq.{sets, take-set-le, take-set-lt, drop-set-lt, drop-set-add, get_or-take, get_or-drop}
use borrow.Rule.Slice.PartMut.{mid_of, put_mid, put_same}
use Rattle.v8.specs.declared.LoadOp.{LoadOp}
use Rattle.v8.specs.declared.StoreOp.{StoreOp}
use Rattle.memory.specs.Memory.{load_width, load_of, low_bytes, store_width, store_of}
use Rattle.memory.proofs.Sets.{low_length}
use Rattle.memory.proofs.Memory.{load_same}

module _ (a k : ℕ) where
  -- what is stored into the part stands in the whole, as far after the part's start
  sets_in_part : (vs m : List ℕ) (i : ℕ) → i + length vs ≤ k → put_mid a k m (sets (mid_of a k m) i vs) ≡ sets m (a + i) vs
  sets_in_part [] m i l = put_same a k m
  sets_in_part (v ∷ vs) m i l =
      let h = sets_in_part vs (set m (a + i) v) (suc i) (omega arith) in
      let p : i < k = omega arith in
      let q : a ≤ a + i = omega arith in
      simp (drop-set-add a m i v, take-set-lt k (drop a m) i v p, drop-set-lt k (drop a m) i v p, take-set-le a m (a + i) v q, add-suc a i) at h

  -- a store into the part is the store into the whole, at the part's start plus the offset
  pub store_in_part : (op : StoreOp) (v i : ℕ) (m : List ℕ) → i + store_width op ≤ k → put_mid a k m (store_of op v i (mid_of a k m)) ≡ store_of op v (a + i) m
  store_in_part op v i m l = sets_in_part (low_bytes (store_width op) v) m i (rw (low_length (store_width op) v) l)

  -- a load from the part is the load from the whole, at the part's start plus the offset
  pub load_in_part : (op : LoadOp) (i : ℕ) (m : List ℕ) → i + load_width op ≤ k → load_of op (mid_of a k m) i ≡ load_of op m (a + i)
  load_in_part op i m l =
      load_same op (mid_of a k m) m i (a + i)
      (λ j p. get_or-take k (drop a m) (i + j) 0 (omega arith) ∙ get_or-drop a m (i + j) 0 ∙ simp add_assoc)
