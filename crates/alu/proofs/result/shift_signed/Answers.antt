-- The shift of the signed number is what the definition says (`signed_shift`).
use Prim.Native.Nat.{◌%◌}
use native.Mathlib.Omega.{arith}
use Rattle.std.specs.Int.{w32}
use Rattle.std.proofs.lemmas.Int.{to_z-of_z}
use Rattle.alu.proofs.Words.{signed_shift}
use Rattle.alu.proofs.result.shift_signed.Goals as goal

pub returns : goal.returns
returns c =
    let a = to_z-of_z w32 c.cast_signed.result (record { sfits = c.cast_signed.type_inv }) in
    let b = to_z-of_z w32 c.wrapping_shr.result (record { sfits = c.wrapping_shr.type_inv }) in
    rw (c.cast_unsigned.ensures, b, c.wrapping_shr.ensures, a, c.cast_signed.ensures)
    (signed_shift c.args.x (c.args.count % 32) (omega arith) (omega arith))
