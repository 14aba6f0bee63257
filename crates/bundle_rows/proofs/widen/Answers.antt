-- `widen` meets its contract. Invariant: i rows are written.
use mathlib.Core.Path.{refl}
use native.Mathlib.Nat.{le_antisymm}
use borrow.Author.Rules.{rules}
use Rattle.bundle_rows.proofs.Written.{rows_more}
use Rattle.bundle_rows.proofs.widen.Goals as goal

pub loop-i-init : goal.loop-i-init
loop-i-init c = (search rules, refl, refl)

pub loop-i-preserved : goal.loop-i-preserved
loop-i-preserved c =
    let at-loop = c.loop-i in
    let a = c.args in
    (search rules, search rules, rows_more a.bytes.now at-loop.room _ a.at at-loop.i at-loop.invariant.2 c.widen_row.ensures)

pub shape_of-room : goal.shape_of-room
shape_of-room c = c.loop-i.invariant.1

pub returns : goal.returns
returns c = let inv = c.loop-i.invariant in rw (← le_antisymm inv.0 c.loop-i-test.false) inv.2
