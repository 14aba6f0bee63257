-- `complete_narrow` meets its contract: the rows are widened, found, and put where they are missing without their scratch words.
use native.Mathlib.Omega.{arith}
use Rattle.bundle_open.proofs.Laid.{narrow_laid}
use Rattle.completion.proofs.completing.complete_narrow.Goals as goal

pub widen-requires : goal.widen-requires
widen-requires c = let pre = c.requires in
    let places = pre.1 in
    let laid = narrow_laid _ _ pre.0 pre.2 in
    (omega (arith, laid.0, places.3, places.4, places.5, places.6), omega arith, omega arith)

pub widen-requires-2 : goal.widen-requires-2
widen-requires-2 c = let pre = c.requires in
    let places = pre.1 in
    let laid = narrow_laid _ _ pre.0 pre.2 in
    (omega (arith, laid.1, places.6), omega (arith, places.1), places.1)

pub put_rows-requires : goal.put_rows-requires
put_rows-requires c = let pre = c.requires in
    let places = pre.1 in
    (places.1, omega (arith, (narrow_laid _ _ pre.0 pre.2).1, places.6), omega arith, omega arith)
