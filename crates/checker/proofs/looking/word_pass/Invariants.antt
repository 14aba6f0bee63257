use mathlib.Core.Path.{◌≡◌}
use Rattle.flow_code.specs.Lent.{code_of}
use Rattle.passes.specs.Answer.{pass_of}
use Rattle.checker.specs.Passes.{word_pass}
use Rattle.passes.proofs.Passing.{pass_from}
use Rattle.checker.proofs.looking.word_pass.Given as goal

abbrev pub invariant-loop-i : goal.invariant-loop-i
invariant-loop-i l =
    pass_of (word_pass l.policy (code_of l.readings l.count) l.rows l.res) l.count
    ≡ pass_from (word_pass l.policy (code_of l.readings l.count) l.rows l.res) l.i l.count
