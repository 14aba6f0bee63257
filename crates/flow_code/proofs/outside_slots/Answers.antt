-- The words are marked one by one, each by the word before it (Examined).
use Prim.Native.Nat.{◌-◌}
use mathlib.Core.Path.{refl, ap, ◌∙◌}
use mathlib.Core.Bool.{true}
use native.Mathlib.Omega.{arith}
use lib.ListN.{replicate, length-set}
use Rattle.flow_code.specs.Readings.{transfers}
use Rattle.flow_code.proofs.Fetched.{array_has}
use Rattle.flow_code.proofs.Examined.{first_marked, one_marked}
use Rattle.flow_code.proofs.outside_slots.Goals as goal

pub loop-i-init : goal.loop-i-init
loop-i-init c = (refl, first_marked _ (replicate 127 true))

pub loop-i-preserved : goal.loop-i-preserved
loop-i-preserved c =
    let l = c.loop-i in
    let x = array_has c.args.readings.now c.args.count c.requires (l.i - 1) _ (omega arith) in (
      length-set l.marks l.i _ ∙ l.invariant.0,
      one_marked _ l.marks l.i _ l.invariant.1 (omega arith) (omega arith) (c.transfers.ensures ∙ ap transfers x),
    )
