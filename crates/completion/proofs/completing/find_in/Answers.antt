-- `find_in` is safe: the words and the rows that are lent are there.
use Prim.Native.Nat.{◌*◌}
use mathlib.Core.Path.{sym}
use native.Mathlib.Omega.{arith}
use lib.Seq.{length-take-le}
use Rattle.rows.specs.Geometry.{row_bytes}
use Rattle.completion.proofs.completing.find_in.Goals as goal

pub slice_bounds-find_rows-end : goal.slice_bounds-find_rows-end
slice_bounds-find_rows-end c = let o = c.args.opened.now in
    sym (length-take-le o.count o.words (omega (arith, c.requires.0)))

pub slice_bounds-find_rows-end-3 : goal.slice_bounds-find_rows-end-3
slice_bounds-find_rows-end-3 c = sym (length-take-le (row_bytes * c.args.opened.now.count) c.args.room.now c.requires.1)
