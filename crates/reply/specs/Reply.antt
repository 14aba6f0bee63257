-- The line that answers a bundle (document 01, "Bundle": "prints number, word, register in decimal, one space between, newline").
use Rattle.passes.specs.declared.Answer.{Answer}
use Rattle.output.specs.declared.line.Line.{Line}
use Rattle.output.specs.Line.{LineOf}

-- the line of an answer
abbrev pub LineFor : Answer → Line → Type 0
LineFor a line = LineOf a.number a.word.0 a.register line
