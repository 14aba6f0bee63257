-- A branch: its low bits are below 2^25, so that the parts add up to a word.
use native.Mathlib.Omega.{arith}
use Rattle.writer.proofs.Ranges.{branch_fits, below}
use Rattle.writer.proofs.write_branch.Goals as goal

pub overflow_add-word : goal.overflow_add-word
overflow_add-word c =
    let x = c.args.x in
    record { fits = omega (arith, below 25 c.in_ok-b.b (branch_fits c.args.edition x.form x.distance.0) c.branch_bits.ensures c.in_ok-b.was) }

pub overflow_add-result : goal.overflow_add-result
overflow_add-result c =
    let x = c.args.x in
    record { fits = omega (arith, below 25 c.in_ok-b.b (branch_fits c.args.edition x.form x.distance.0) c.branch_bits.ensures c.in_ok-b.was) }
