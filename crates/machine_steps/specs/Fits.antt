-- What the steps of a run rest on: a policy of at most 8 regions, a base for each, and a memory in which every access that is
-- located lies in its region's part or in the frame's.
use Rattle.std.specs.Prelude.{ℕ, ◌≤◌, List, length}
use Rattle.policy.specs.declared.Policy.{Policy}
use Rattle.access.specs.Layout.{layout_of}
use Rattle.machine_access.specs.Covered.{Covers}

-- a policy, bases, a frame address and a memory of n bytes fit each other
pub record Fits (p : Policy) (bases : List ℕ) (frame n : ℕ) : Type 0 where
  pub few : p.regions.count ≤ 8
  pub based : p.regions.count ≤ length bases
  pub covers : Covers (layout_of p bases frame) n
