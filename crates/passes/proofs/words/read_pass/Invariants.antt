use mathlib.Core.Path.{◌≡◌}
use Rattle.flow_code.specs.Lent.{code_of}
use Rattle.passes.specs.Answer.{pass_of}
use Rattle.passes.specs.Passes.{read_pass}
use Rattle.passes.proofs.Passing.{pass_from}
use Rattle.passes.proofs.words.read_pass.Given as goal

abbrev pub invariant-loop-i : goal.invariant-loop-i
invariant-loop-i l =
    pass_of (read_pass (code_of l.readings l.count)) l.count ≡ pass_from (read_pass (code_of l.readings l.count)) l.i l.count
