use Rattle.access.specs.Locate.{inside_region, region_in}
use Rattle.v8.specs.Search.{first}
use mathlib.Core.Path.{◌≡◌}
use Prim.Native.Nat.{◌≤◌}
use Rattle.access.proofs.locate.region_at.Given as goal

abbrev pub invariant-loop-r : goal.invariant-loop-r
invariant-loop-r l = (l.r ≤ l.regions.count)
    × (region_in l.regions.count l.regions.sizes l.bases l.address ≡ first (inside_region l.regions.sizes l.bases l.address) l.r l.regions.count)
