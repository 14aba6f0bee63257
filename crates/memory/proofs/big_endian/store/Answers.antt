-- `store` meets its contract: the bytes that are put over a part of the slice are the value's low bytes, and the store's width gives the
-- bounds.
use Rattle.std.proofs.Common.{ℕ, ◌+◌, ◌%◌, ◌≤◌, ◌≡◌, ◌∙◌, ◌/◌, List, [], ◌∷◌, length, append_assoc, arith}
use native.Mathlib.Nat.{div-one}
use lib.ListN.{get_or}
use lib.Seq.{sets, sets-eq, drop-drop}
use borrow.Rule.Slice.PartMut.{put_mid}
use Rattle.std.specs.Int.{w16, w32, to_be_bytes}
use Rattle.memory.specs.Memory.{low_bytes}
use Rattle.memory.proofs.big_endian.store.Goals as goal

-- bytes put over a part of a memory stand in the whole one after the other
put_over : (m bs : List ℕ) (a k : ℕ) → k ≡ length bs → a + length bs ≤ length m → put_mid a k m bs ≡ sets m a bs
put_over m bs a k e l = rw (e, sets-eq bs m a l, append_assoc, drop-drop)

-- a value's low bytes, as they are and as they are stored
word_bytes : (v : ℕ) → to_be_bytes w32 v ≡ low_bytes 4 v
word_bytes v = rw div-one

half_bytes : (v : ℕ) → to_be_bytes w16 (v % 65536) ≡ low_bytes 2 v
half_bytes v =
    let high : v % 65536 / 256 % 256 ≡ v / 256 % 256 = omega arith in
    let low : v % 65536 % 256 ≡ v % 256 = omega arith in
    rw (high, low, div-one)

-- the same, one after the other
word_in_order : (v : ℕ) (bs : List ℕ) → bs ≡ to_be_bytes w32 v
    → (get_or bs 0 0 ∷ get_or bs 1 0 ∷ get_or bs 2 0 ∷ get_or bs 3 0 ∷ []) ≡ low_bytes 4 v
word_in_order v bs e = rw e (word_bytes v)

half_in_order : (v : ℕ) (bs : List ℕ) → bs ≡ to_be_bytes w16 (v % 65536) → (get_or bs 0 0 ∷ get_or bs 1 0 ∷ []) ≡ low_bytes 2 v
half_in_order v bs e = rw e (half_bytes v)

pub returns-in-St : goal.returns-in-St
returns-in-St c =
    let bytes = c.copy_from_slice.ensures.after ∙ word_in_order c.args.v _ c.to_be_bytes.ensures in
    rw (c.in-St.is, bytes) (put_over c.args.part.now (low_bytes 4 c.args.v) c.args.at _ (omega arith) (rw c.in-St.is at c.requires))

pub returns-in-Sth : goal.returns-in-Sth
returns-in-Sth c =
    let bytes = c.copy_from_slice-in-Sth.ensures.after ∙ half_in_order c.args.v _ c.to_be_bytes-in-Sth.ensures in
    rw (c.in-Sth.is, bytes) (put_over c.args.part.now (low_bytes 2 c.args.v) c.args.at _ (omega arith) (rw c.in-Sth.is at c.requires))
