-- `frame_ok` meets its contract: its tests are those of the definition.
use Rattle.machine_place.proofs.frame_ok.Goals as goal

pub returns : goal.returns
returns c = rw (c.base_ok.ensures, c.apart_from_all.ensures)
