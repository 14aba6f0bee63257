-- A place that is found is one of the 128.
use Prim.Native.Nat.{◌<◌}
use mathlib.Core.Path.{sym, ◌∙◌}
use native.Mathlib.Omega.{arith}
use Rattle.policy_search.proofs.FoundField.{is_found}
use Rattle.access.proofs.Places.{place_small}
use Rattle.access.proofs.locate.locate_in.Goals as goal
use Rattle.access.proofs.locate.locate_in.Goals.{In-Some}

small : (c : In-Some) → c.in-Some.place < 128
small c = place_small _ _ _ _ _ _ (sym (is_found c.find_in-search.ensures) ∙ c.in-Some.is)

pub offset_bounds-policy-place : goal.offset_bounds-policy-place
offset_bounds-policy-place c = record { fits = omega (arith, small c) }

pub bounds-policy-place : goal.bounds-policy-place
bounds-policy-place c = small (goal.at.bounds-policy-place c).In-Some
