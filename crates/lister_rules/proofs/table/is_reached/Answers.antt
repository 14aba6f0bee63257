-- Either some register is not reached, or each has a mark.
use Prim.Native.Nat.{ℕ, ◌<◌}
use mathlib.Core.Path.{◌≡◌, refl, sym}
use mathlib.Core.Bool.{Bool, true, false, not}
use mathlib.Core.List.{List}
use native.Mathlib.Omega.{arith}
use lib.Dec.{eqb}
use lib.ListN.{length}
use Rattle.std.specs.List.{IsAnyAnswer}
use Rattle.v8.proofs.Search.{all_each, all_not}
use Rattle.marks.specs.Marks.{not_reached, register_count, has_mark}
use Rattle.lister_rules.specs.Table.{reached}
use Rattle.lister_rules.proofs.Stored.{mark_in}
use Rattle.lister_rules.proofs.table.is_reached.Goals as goal

reached_is : (marks : List ℕ) (r : Bool) → length marks ≡ register_count → IsAnyAnswer (λ (m : ℕ) (b : Bool). eqb m not_reached ≡ b) marks r → not r ≡ reached marks
unfolding reached
reached_is marks true l h =
    let b : h.0 < register_count = omega (arith, l, h.1) in
    sym (all_not (has_mark marks) register_count h.0 b (rw (mark_in marks h.0 b, h.2 not_reached) refl))
reached_is marks false l h =
    sym (all_each (has_mark marks) register_count (λ r b. rw (mark_in marks r b, h r not_reached (omega arith) (omega (arith, l, b))) refl))

pub returns : goal.returns
returns c = reached_is c.args.marks.now c.contains.result c.told-marks c.contains.ensures.cases
