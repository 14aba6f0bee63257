-- Where each word leaves the caller's registers alone, so does what stands at any index: inside the code by that, outside it nothing is read.
use mathlib.Core.Path.{◌≡◌, refl, ap}
use mathlib.Core.Bool.{Bool, true, false}
use lib.Dec.{ltb}
use lib.ListN.{length}
use borrow.Author.Tests.{ltb-true, ltb-false, not-true}
use Rattle.v8.specs.declared.Reading.{Reading}
use Rattle.flow_code.specs.Readings.{reading_at}
use Rattle.flow_writes.specs.Written.{written_by, is_callers}
use Rattle.flow.specs.Laws.{LeavesEverywhere}
use Rattle.flow_code.proofs.Fetched.{outside}

pub leaves_everywhere : LeavesEverywhere
leaves_everywhere readings all w = at (ltb w (length readings)) refl
  where
    at : (t : Bool) → ltb w (length readings) ≡ t → is_callers (written_by (reading_at readings w)) ≡ false
    at true t = not-true _ (all w (ltb-true w (length readings) t))
    at false t = ap (λ (x : Reading). is_callers (written_by x)) (outside readings w (ltb-false w (length readings) t))
