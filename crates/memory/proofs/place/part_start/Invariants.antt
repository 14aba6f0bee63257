use Prim.Native.Nat.{◌≤◌, ◌*◌}
use mathlib.Core.Path.{◌≡◌}
use Rattle.memory.specs.Place.{part_start}
use Rattle.memory.proofs.place.part_start.Given as goal

abbrev pub invariant-loop-i : goal.invariant-loop-i
invariant-loop-i l = (l.i ≤ l.region) × (l.sum ≡ part_start l.sizes l.i) × (l.sum ≤ 65535 * l.i)
