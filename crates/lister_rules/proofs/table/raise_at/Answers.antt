-- The marks are raised register by register (Stored).
use Prim.Native.Nat.{◌<◌}
use native.Mathlib.Omega.{arith}
use lib.ListN.{length}
use Rattle.lister_rules.specs.Table.{place_of}
use Rattle.lister_rules.proofs.Stored.{raising_none, raising_step, raising_told, raising_done}
use Rattle.lister_rules.proofs.table.raise_at.Goals as goal

pub loop-r-init : goal.loop-r-init
loop-r-init c = raising_none c.args.table.now c.args.w c.args.marks.now

pub loop-r-preserved : goal.loop-r-preserved
loop-r-preserved c =
    let t = c.loop-r in
    let fits : place_of c.args.w t.r < length t.table = omega (arith, c.loop-r-test.true, c.requires.0, c.requires.1, t.invariant.long) in
    raising_step c.args.table.now c.args.w c.args.marks.now t.r c.meet-new.result t.table t.changed c.loop-r-test.true fits c.meet-new.ensures t.invariant

pub returns : goal.returns
returns c =
    let l = c.loop-r in
    record { table = raising_done c.args.table.now c.args.w c.args.marks.now l.r l.table l.changed l.invariant c.loop-r-test.false; changed = raising_told c.args.table.now c.args.w c.args.marks.now l.r l.table l.changed l.invariant }
