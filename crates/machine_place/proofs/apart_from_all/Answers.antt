-- One region that the bytes meet is enough. The loop's invariant: the bytes are none of the regions passed so far.
use mathlib.Core.Path.{sym, ◌∙◌}
use Rattle.v8.proofs.Search.{all_not}
use Rattle.machine_place.specs.Placement.{apart_from_region}
use Rattle.machine_place.proofs.apart_from_all.Goals as goal

pub returns-then-not-apart : goal.returns-then-not-apart
returns-then-not-apart c = let a = c.args in
    sym (all_not (apart_from_region a.regions.now.sizes a.bases.now a.base a.size) _ _ c.loop-i-test.true (sym c.apart.ensures ∙ c.if-not-apart.true))
