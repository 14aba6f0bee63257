-- The search ends early and loses nothing (`policy`): an access reaches by the lowest field that holds its bytes.
use mathlib.Core.Path.{ap}
use Prim.Native.Nat.{ℕ}
use borrow.Author.Tests.{le-ltb}
use Rattle.std.specs.Prelude.{Option}
use Rattle.policy_search.proofs.FoundField.{ends_early}
use Rattle.rules.specs.Reach.{in_found, in_region}
use Rattle.rules.specs.Laws.{ReachesHolder}

pub reaches_holder : ReachesHolder
unfolding in_region
reaches_holder p w a rs1 r s l b = rw (le-ltb _ _ b) (ap (λ (f : Option ℕ). in_found p.fields a rs1 s f) (ends_early p w r _ _ l))
