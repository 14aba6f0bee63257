-- `reply` meets its contract: the line is that of the bundle's answer.
use mathlib.Core.Path.{◌≡◌}
use Rattle.passes.specs.declared.Answer.{Answer}
use Rattle.output.specs.declared.line.Line.{Line}
use Rattle.reply.specs.Reply.{LineFor}
use Rattle.reply.proofs.reply.Goals as goal

-- the line of an answer is that of an equal one
line-is : (a b : Answer) (line : Line) → a ≡ b → LineFor a line → LineFor b line
line-is a b line e h = rw (← e) h

pub returns : goal.returns
returns c = search line-is
