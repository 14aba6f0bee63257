-- `list_narrow` meets its contract: the entry row is widened, and lent to the listing.
use mathlib.Core.Path.{sym, ◌∙◌}
use native.Mathlib.Omega.{arith}
use lib.Seq.{length-take-le, take_all}
use Rattle.rows.specs.Geometry.{row_bytes}
use Rattle.bundle_open.proofs.Laid.{narrow_laid}
use Rattle.kindlines.proofs.Lent.{narrow_is}
use Rattle.kindlines.proofs.listing.list_narrow.Goals as goal

pub widen-requires : goal.widen-requires
widen-requires c = let pre = c.requires in
    let places = pre.1 in
    let laid = narrow_laid _ _ pre.0 pre.2 in
    (omega (arith, laid.0, places.3, places.4, places.5, places.6), omega arith, omega arith)

pub slice_bounds-words-end : goal.slice_bounds-words-end
slice_bounds-words-end c = let opened = c.args.opened.now in
    let places = c.requires.1 in
    sym (length-take-le opened.count opened.words (omega (arith, places.0, places.1)))

pub returns : goal.returns
returns c = let pre = c.requires in
    let row = c.widen in
    let written = sym (take_all row_bytes row.new.room (omega arith)) ∙ row.ensures in
    narrow_is _ _ _ _ _ _ pre.0 pre.2 written c.list_kinds.ensures
