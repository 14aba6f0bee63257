-- What an operation does to a row covers what it does to the machine, for every operation.
use Prim.Native.Nat.{ℕ}
use mathlib.Core.List.{List}
use Rattle.v8.specs.declared.Operation.{Operation}
use Rattle.v8.specs.declared.Operation.TheVariants.{Sethi, Alu, Shift, Memory}
use Rattle.v8.specs.Laws.{OperationSmall}
use Rattle.policy.specs.declared.Policy.{Policy}
use Rattle.policy.specs.Laws.{WellFormed}
use Rattle.access.specs.Layout.{layout_of}
use Rattle.step.specs.Effect.{Core, effect_of}
use Rattle.rows.specs.declared.Row.{Row}
use Rattle.rules.specs.Change.{operation_change}
use Rattle.rules.specs.Laws.{Laid}
use Rattle.guarantee.specs.Guarantee.{host_of}
use Rattle.guarantee.specs.Invariant.{CoreOk, Fitted, Covers}
use Rattle.guarantee.proofs.Numbers.{addend_small}
use Rattle.guarantee.proofs.Computed.{sethi_covers, alu_covers, shift_covers}
use Rattle.guarantee.proofs.Accessed.{access_covers}

module _ (p : Policy) (bases : List ℕ) (returns frame : ℕ) (wf : WellFormed p) (laid : Laid p.regions.count p.regions.sizes (host_of bases returns frame)) where
  pub covered : (x : Operation) → OperationSmall x → (row : Row) (c : Core) → CoreOk p (host_of bases returns frame) c → Fitted p (host_of bases returns frame) row c
      → Covers p (host_of bases returns frame) row c x (effect_of (layout_of p bases frame) c x) (operation_change p row x)
  covered (Sethi rd imm22) l row c ck f = sethi_covers p (host_of bases returns frame) row c ck f bases frame rd imm22 l
  covered (Alu op cc rd rs1 x) l row c ck f = alu_covers p (host_of bases returns frame) row c ck f bases frame laid op cc rd rs1 x l
  covered (Shift op rd rs1 x) l row c ck f = shift_covers p (host_of bases returns frame) row c ck f bases frame op rd rs1 x l
  covered (Memory a rd rs1 d) l row c ck f = access_covers p bases returns frame wf laid row c ck f rs1 d l.1 (addend_small d l.2) a rd l.0
