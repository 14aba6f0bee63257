-- An add follows only an add that was accepted.
use Rattle.v8.proofs.Choice.{tests}
use Rattle.bundle_open.specs.Build.{region_to}
use Rattle.bundle_open.proofs.building.region_to.Goals as goal

pub returns-then-built-eq-ACCEPTED : goal.returns-then-built-eq-ACCEPTED
unfolding region_to
returns-then-built-eq-ACCEPTED c = search (tests, c.push_region.ensures)

pub returns : goal.returns
unfolding region_to
returns c = search tests
