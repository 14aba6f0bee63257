-- `check_wide` meets its contract: the rows are lent as they stand.
use mathlib.Core.Path.{sym}
use native.Mathlib.Omega.{arith}
use lib.Seq.{length-take-le}
use Rattle.bundle.proofs.Lent.{wide_is}
use Rattle.bundle.proofs.check_wide.Goals as goal

pub slice_bounds-check-end : goal.slice_bounds-check-end
slice_bounds-check-end c = let opened = c.args.opened.now in
    let places = c.requires.1 in
    sym (length-take-le opened.count opened.words (omega (arith, places.0, places.1)))

pub returns : goal.returns
returns c = let pre = c.requires in wide_is _ _ _ _ pre.0 pre.2 c.check.ensures
