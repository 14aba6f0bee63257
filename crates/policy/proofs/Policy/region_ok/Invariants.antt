use Prim.Native.Nat.{◌≤◌}
use mathlib.Core.Bool.{true}
use mathlib.Core.Path.{◌≡◌}
use Rattle.v8.specs.Search.{all}
use Rattle.policy.specs.Policy.{field_at_ok, end_before}
use Rattle.policy.proofs.Policy.region_ok.Given as goal

abbrev pub invariant-loop-k : goal.invariant-loop-k
invariant-loop-k l = (l.k ≤ l.count) × (all (field_at_ok l.self l.r) l.k ≡ true) × (l.end ≡ end_before l.self l.r l.k)
