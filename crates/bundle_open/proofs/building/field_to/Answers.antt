-- An add follows only an add that was accepted.
use Rattle.v8.proofs.Choice.{tests}
use Rattle.bundle_open.specs.Build.{field_to}
use Rattle.bundle_open.proofs.building.field_to.Goals as goal

pub returns-then-built-eq-ACCEPTED : goal.returns-then-built-eq-ACCEPTED
unfolding field_to
returns-then-built-eq-ACCEPTED c = search (tests, c.push_field.ensures)

pub returns : goal.returns
unfolding field_to
returns c = search tests
