-- The opcodes 00 to 07 are the first case of the definition.
use native.Mathlib.Omega.{arith}
use borrow.Author.Tests.{le-leb}
use Rattle.v8.specs.Field.{op3_of}
use Rattle.v8.specs.Read.{format10}
use Rattle.v8.proofs.read.read_format_10.Goals as goal

pub returns-in-0-to-7 : goal.returns-in-0-to-7
unfolding format10
returns-in-0-to-7 c =
    simp (le-leb (op3_of c.args.w) 7 (omega arith))
    (rw (← c.op3_of-op3.ensures, ← c.alu_op.ensures) c.read_alu.ensures)
