-- The field that was found stands at one of the 128 places.
use native.Mathlib.Omega.{arith}
use Rattle.rules.proofs.Placed.{search_placed}
use Rattle.rules.proofs.reaching.in_region.Goals as goal

pub offset_bounds-policy-place : goal.offset_bounds-policy-place
offset_bounds-policy-place c = record { fits = omega (arith, search_placed c.args.policy.now _ _ _ _ _ c.find_in.ensures c.in-Some.is) }

pub bounds-policy-place : goal.bounds-policy-place
bounds-policy-place c = search_placed c.args.policy.now _ _ _ _ _ c.find_in.ensures c.in-Some.is
