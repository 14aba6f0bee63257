-- First those outside slots are marked, and then, word by word, those that a taken edge lands on (Examined).
use mathlib.Core.Path.{◌∙◌}
use native.Mathlib.Omega.{arith}
use Rattle.flow_code.proofs.Fetched.{array_has, code_count}
use Rattle.flow_code.proofs.Examined.{none_targeted, one_targeted, all_targeted}
use Rattle.flow_code.proofs.examine_all.Goals as goal

pub loop-i-init : goal.loop-i-init
loop-i-init c = (c.outside_slots-marks.ensures.0, none_targeted _ c.outside_slots-marks.result c.outside_slots-marks.ensures.1)

pub loop-i-preserved : goal.loop-i-preserved
loop-i-preserved c =
    let l = c.loop-i in
    let n = code_count c.args.readings.now c.args.count c.requires in
    let x = array_has c.args.readings.now c.args.count c.requires l.i _ (omega arith) in
    let a = c.mark_target.ensures in
    (a.long ∙ l.invariant.0, one_targeted _ l.marks _ l.i _ l.invariant.1 (omega (arith, n)) x a)

pub returns : goal.returns
returns c =
    let l = c.loop-i in
    all_targeted _ l.marks l.i l.invariant.1 (omega (arith, code_count c.args.readings.now c.args.count c.requires))
