use mathlib.Core.Path.{◌≡◌}
use mathlib.Core.Bool.{true}
use Rattle.v8.specs.Search.{all}
use Rattle.machine_place.specs.Placement.{apart_from_region}
use Rattle.machine_place.proofs.apart_from_all.Given as goal

abbrev pub invariant-loop-i : goal.invariant-loop-i
invariant-loop-i l = (all (apart_from_region l.regions.sizes l.bases l.base l.size) l.i ≡ true)
