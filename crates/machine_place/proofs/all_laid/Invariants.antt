use mathlib.Core.Path.{◌≡◌}
use mathlib.Core.Bool.{true}
use Rattle.v8.specs.Search.{all}
use Rattle.machine_place.specs.Placement.{base_placed_at, disjoint_in}
use Rattle.machine_place.proofs.all_laid.Given as goal

abbrev pub invariant-loop-i : goal.invariant-loop-i
invariant-loop-i l = (all (base_placed_at l.regions.sizes l.bases) l.i ≡ true) × (all (disjoint_in l.regions.sizes l.bases) l.i ≡ true)
