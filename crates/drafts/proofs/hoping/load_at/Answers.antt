-- A place that is found is one of the 128.
use mathlib.Core.Path.{sym, ◌∙◌}
use native.Mathlib.Omega.{arith}
use Rattle.std.proofs.Common.{◌<◌}
use Rattle.policy_search.proofs.FoundField.{is_found}
use Rattle.access.proofs.Places.{place_small}
use Rattle.drafts.proofs.hoping.load_at.Goals as goal
use Rattle.drafts.proofs.hoping.load_at.Goals.{In_ok-place}

small : (c : In_ok-place) → c.in_ok-place.place < 128
small c = place_small _ _ _ _ _ _ (sym (is_found c.find_in.ensures) ∙ c.in_ok-place.was)

pub bounds-policy-place : goal.bounds-policy-place
bounds-policy-place c = small (goal.at.bounds-policy-place c).In_ok-place

pub offset_bounds-policy-place : goal.offset_bounds-policy-place
offset_bounds-policy-place c = let h : c.in_ok-place.place < 128 = small c in omega arith
