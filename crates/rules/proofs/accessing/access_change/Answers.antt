-- An access reaches one of the 128 places or of the six scratch words; what it does there is the definition's case.
use native.Mathlib.Omega.{arith}
use Rattle.rules.proofs.Placed.{placed}
use Rattle.rules.proofs.accessing.access_change.Goals as goal

pub offset_bounds-policy-place : goal.offset_bounds-policy-place
offset_bounds-policy-place c = record { fits = omega (arith, placed c.args.policy.now _ _ _ _ _ _ _ _ c.reach_of.ensures c.in-Inside.is) }

pub bounds-policy-place : goal.bounds-policy-place
bounds-policy-place c = placed c.args.policy.now _ _ _ _ _ _ _ _ c.reach_of.ensures c.in-Inside.is

pub kept_at-requires : goal.kept_at-requires
kept_at-requires c = placed c.args.policy.now _ _ _ _ _ _ _ _ c.reach_of.ensures c.in-Scratch.is
