-- Places that searches find: one of the 128 fields, and an address less than 2^16 bytes above its region's base.
use Prim.Native.Nat.{ℕ, ◌+◌, ◌≤◌, ◌<◌}
use mathlib.Core.Path.{◌≡◌}
use mathlib.Core.Bool.{true, ◌&&◌, and-eq-true_iff}
use mathlib.Core.List.{List, []}
use lib.Dec.{leb, ltb}
use borrow.Author.Tests.{leb-true, ltb-true}
use native.Mathlib.Omega.{arith}
use Rattle.policy.specs.declared.Policy.{Policy}
use Rattle.std.specs.Prelude.{Some}
use Rattle.policy.specs.declared.Field.{Field}
use Rattle.policy_search.specs.Find.{find_in}
use Rattle.policy_search.proofs.FoundField.{found_holds}
use Rattle.access.specs.Locate.{Near}

pub place_small : (counts : List ℕ) (fields : List Field) (r low end place : ℕ) → find_in counts fields r low end ≡ Some place → place < 128
place_small counts fields r low end place e =
    let p : Policy = record { regions = record { count = 0; sizes = []; fields = counts }; fields = fields } in
    let h = found_holds p r low end place e in
    omega (arith, h.here, h.region_most, h.index_most)

pub near : (base address size : ℕ) → size ≤ 65535 → leb base address && ltb address (base + size) ≡ true → Near base address
near base address size h e =
    let t = (and-eq-true_iff (leb base address) (ltb address (base + size))).0 e in
    record { above = leb-true base address t.0; close = omega (arith, ltb-true address (base + size) t.1) }
