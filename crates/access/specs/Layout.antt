-- How policy and host have laid the memory: what says where an access lies.
use Rattle.std.specs.Prelude.{ℕ, List}
use Rattle.policy.specs.declared.Regions.{Regions}
use Rattle.policy.specs.declared.Field.{Field}
use Rattle.policy.specs.declared.Policy.{Policy}

-- the regions and their fields, the base of each region, and the frame address
pub record Layout : Type 0 where
  pub regions : Regions
  pub fields : List Field
  pub bases : List ℕ
  pub frame : ℕ

-- the layout of a policy's regions at some bases, and of the frame
abbrev pub layout_of : Policy → List ℕ → ℕ → Layout
layout_of p bases frame = record { regions = p.regions; fields = p.fields; bases = bases; frame = frame }
