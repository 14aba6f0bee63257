-- `Draft::new` meets its contract: each row is the one that `no_row` gives.
use mathlib.Core.Path.{refl}
use Rattle.merging.proofs.merging.Draft.new.Goals as goal

pub returns : goal.returns
returns c = rw c.no_row.ensures refl
