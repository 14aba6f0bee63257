-- `copy_row` meets its contract: two parts are written, one after the other.
use native.Mathlib.Omega.{arith}
use Prim.Native.Nat.{◌+◌, ◌-◌}
use Rattle.completion.proofs.Keeping.{outside_mid, outside_on}
use Rattle.completion.proofs.copying.copy_row.Goals as goal

pub returns : goal.returns
returns c =
    outside_on _ _ _ c.args.at (c.args.size - 8) 8 c.args.size (omega arith)
    (outside_mid _ _ c.args.at (c.args.size - 8) _ (omega arith) (omega (arith, c.copy_from_slice.ensures.len)) (omega arith))
    (outside_mid _ _ (c.args.at + (c.args.size - 8)) 8 _ (omega arith) (omega (arith, c.copy_from_slice-2.ensures.len)) (omega arith))
