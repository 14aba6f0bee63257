-- `check_narrow` meets its contract: the rows and the entry row are widened, and lent to the check.
use Prim.Native.Nat.{◌*◌}
use mathlib.Core.Path.{sym, ◌∙◌}
use native.Mathlib.Omega.{arith}
use lib.Seq.{length-take-le, take_all}
use Rattle.rows.specs.Geometry.{row_bytes}
use Rattle.bundle_open.proofs.Laid.{narrow_laid}
use Rattle.bundle.proofs.Lent.{narrow_is}
use Rattle.bundle.proofs.check_narrow.Goals as goal

pub widen-requires : goal.widen-requires
widen-requires c = let pre = c.requires in
    let places = pre.1 in
    let laid = narrow_laid _ _ pre.0 pre.2 in
    (omega (arith, laid.0, places.3, places.4, places.5, places.6), omega arith, omega arith)

pub widen-requires-2 : goal.widen-requires-2
widen-requires-2 c = let pre = c.requires in
    let places = pre.1 in
    let laid = narrow_laid _ _ pre.0 pre.2 in
    (omega (arith, laid.1, places.6), omega (arith, places.1), places.1)

pub slice_bounds-check-end : goal.slice_bounds-check-end
slice_bounds-check-end c = let opened = c.args.opened.now in
    let places = c.requires.1 in
    sym (length-take-le opened.count opened.words (omega (arith, places.0, places.1)))

pub slice_bounds-check-end-2 : goal.slice_bounds-check-end-2
slice_bounds-check-end-2 c = let opened = c.args.opened.now in
    let places = c.requires.1 in
    let written = c.widen-2 in
    sym (length-take-le (row_bytes * opened.count) written.new.room (omega (arith, places.1)))

pub returns : goal.returns
returns c = let pre = c.requires in
    let entry = c.widen in
    let rows = c.widen-2 in
    narrow_is _ _ _ _ _ _ pre.0 pre.2 rows.ensures (sym (take_all row_bytes entry.new.room (omega arith)) ∙ entry.ensures) c.check.ensures
