-- The tests are those of the definition; the width that divides is at least 1.
use Rattle.policy.specs.Policy.{field_ok}
use Rattle.policy.proofs.form.field_ok.Goals as goal

pub returns : goal.returns
unfolding field_ok
returns c = simp (c.width_of-width.ensures.0, c.end-end.ensures, c.values_ok-values.ensures)
