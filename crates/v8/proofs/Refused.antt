-- Words that are refused: such a word is no instruction, and below the privileged opcodes of format 10 none is privileged.
use Prim.Native.Nat.{ℕ, ◌<◌}
use mathlib.Core.Path.{◌≡◌}
use mathlib.Core.Bool.{false}
use native.Mathlib.Omega.{arith}
use borrow.Author.Tests.{lt-leb, ne_eqb}
use Rattle.v8.specs.declared.Instruction.{Instruction}
use Rattle.v8.specs.declared.Reading.TheVariants.{Read, Unread}
use Rattle.v8.specs.Read.{privileged10}

-- a word that is not read is no instruction
pub unread : {A : Type 0} {n : ℕ} {x : Instruction} → Unread n ≡ Read x → A
unread e = let z : ◌≡◌ {A = ℕ} 0 1 = cc in absurd (omega arith)

pub below10 : (k : ℕ) → k < 0x29 → privileged10 k ≡ false
below10 k h = simp (lt-leb 0x29 k h, lt-leb 0x31 k (omega arith), ne_eqb k 0x39 (λ q. omega arith))
