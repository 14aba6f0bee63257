-- The parts fit their fields (Ranges).
use native.Mathlib.Omega.{arith}
use Rattle.writer.proofs.Ranges.{alu_cc_small, shift_small, access_small, operand_fits, count_fits, displacement_fits, below}
use Rattle.writer.proofs.write_operation.Goals as goal

pub pack-requires : goal.pack-requires
pack-requires c = (
  omega arith,
  rw c.alu_code_cc.ensures (alu_cc_small c.in-Alu.op c.in-Alu.cc),
  below 14 _ (operand_fits c.in-Alu.operand) c.operand_bits.ensures c.in_ok-operand_bits-in-Alu.was,
)

pub pack-requires-in-Shift : goal.pack-requires-in-Shift
pack-requires-in-Shift c = (
  omega arith,
  rw c.shift_code.ensures (shift_small c.in-Shift.op),
  below 14 _ (count_fits c.in-Shift.count) c.count_bits.ensures c.in_ok-count_bits-in-Shift.was,
)

pub pack-requires-in-Memory : goal.pack-requires-in-Memory
pack-requires-in-Memory c = (
  omega arith,
  rw c.access_code.ensures (access_small c.in-Memory.access),
  below 14 _ (displacement_fits c.in-Memory.displacement) c.displacement_bits.ensures c.in_ok-displacement_bits-in-Memory.was,
)
