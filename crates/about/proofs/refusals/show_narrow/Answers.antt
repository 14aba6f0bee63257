-- `show_narrow` is safe: the rows of version 1 lie in the bundle, and have room where they are widened.
use Prim.Native.Nat.{◌*◌}
use mathlib.Core.Path.{sym}
use native.Mathlib.Omega.{arith}
use lib.Seq.{length-take-le}
use Rattle.rows.specs.Geometry.{row_bytes}
use Rattle.bundle_open.proofs.Laid.{narrow_laid}
use Rattle.about.proofs.refusals.show_narrow.Goals as goal

pub widen-requires : goal.widen-requires
widen-requires c = let pre = c.requires in
    let places = pre.1 in
    let laid = narrow_laid _ _ pre.0 pre.2 in
    (omega (arith, laid.0, places.3, places.4, places.5, places.6), omega arith, omega arith)

pub widen-requires-2 : goal.widen-requires-2
widen-requires-2 c = let pre = c.requires in
    let places = pre.1 in
    let laid = narrow_laid _ _ pre.0 pre.2 in
    (omega (arith, laid.1, places.6), omega (arith, places.1), places.1)

pub slice_bounds-parts-end : goal.slice_bounds-parts-end
slice_bounds-parts-end c = let opened = c.args.opened.now in
    let places = c.requires.1 in
    let written = c.widen-2 in
    sym (length-take-le (row_bytes * opened.count) written.new.room (omega (arith, places.1)))
