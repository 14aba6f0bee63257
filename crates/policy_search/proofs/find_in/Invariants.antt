use Prim.Native.Nat.{◌≤◌}
use mathlib.Core.Path.{◌≡◌}
use Rattle.v8.specs.Search.{first}
use Rattle.policy_search.specs.Find.{ends_at, stop_of, last_place}
use Rattle.policy_search.proofs.find_in.Given as goal

abbrev pub invariant-loop-place : goal.invariant-loop-place
invariant-loop-place l = (l.first ≤ l.place) × (l.place ≤ l.stop) × (l.stop ≤ 128) × (l.stop ≡ stop_of l.policy.regions.fields l.region)
    × (last_place l.policy.regions.fields l.policy.fields l.region l.low.0 l.end.0 ≡ first (ends_at l.policy.fields l.low.0 l.end.0) l.place l.stop)
