use mathlib.Core.Path.{◌≡◌}
use Rattle.flow_code.specs.Readings.{is_slot}
use Rattle.flow_code.specs.Lent.{code_of}
use Rattle.passes.specs.Answer.{pass_of}
use Rattle.passes.specs.Passes.{flow_pass}
use Rattle.passes.proofs.Passing.{pass_from}
use Rattle.passes.proofs.words.flow_pass.Given as goal

abbrev pub invariant-loop-i : goal.invariant-loop-i
invariant-loop-i l = (l.in_slot ≡ is_slot (code_of l.readings l.count) l.i)
    × (pass_of (flow_pass (code_of l.readings l.count)) l.count ≡ pass_from (flow_pass (code_of l.readings l.count)) l.i l.count)
