-- What the offset of a scratch word is: from 96 to 116, a multiple of 4, and that of the word that it names.
use Prim.Native.Nat.{◌+◌, ◌*◌, ◌%◌, ◌≤◌, ◌<◌}
use mathlib.Core.Path.{◌≡◌}
use mathlib.Core.Bool.{◌&&◌}
use native.Mathlib.Omega.{arith}
use lib.Dec.{leb, ltb, eqb}
use borrow.Author.Tests.{eqb-true, eq-eqb, leb-true, le-leb, ltb-true, lt-ltb}
use Rattle.v8.proofs.Choice.{and_went}
use Rattle.memory.specs.Frame.{scratch_first, frame_bytes, is_scratch}
use Rattle.memory.specs.Laws.{ScratchOffsets, ScratchWords}

pub scratch_offsets : ScratchOffsets
unfolding is_scratch
scratch_offsets o e =
    let p = and_went (leb scratch_first o && ltb o frame_bytes) (eqb (o % 4) 0) e in
    let q = and_went (leb scratch_first o) (ltb o frame_bytes) p.0 in
    let low : 96 ≤ o = leb-true scratch_first o q.0 in
    let high : o < 120 = ltb-true o frame_bytes q.1 in
    let four : o % 4 ≡ 0 = eqb-true (o % 4) 0 p.1 in
    record { low = low; high = high; aligned = four; word = omega arith; here = omega arith }

pub scratch_words : ScratchWords
unfolding is_scratch
scratch_words k l =
    let four : (96 + 4 * k) % 4 ≡ 0 = omega arith in
    (rw (le-leb 96 (96 + 4 * k) (omega arith), lt-ltb (96 + 4 * k) 120 (omega arith), eq-eqb _ 0 four), omega arith)
