-- Every width listed is from 1 to 4 bytes: one test over the whole list of widths.
use Prim.Native.Nat.{ℕ, ◌<◌}
use mathlib.Core.Path.{◌≡◌, refl}
use mathlib.Core.Bool.{Bool, true, false, ◌&&◌, and-false}
use lib.Dec.{T, leb}
use lib.ListN.{get_or}
use Rattle.v8.proofs.Search.{needed_le}
use Rattle.v8.proofs.Table.{at}
use Rattle.policy.specs.Element.{widths}
use Rattle.policy.specs.Laws.{Wide}

from-T : (t : Bool) → T t → t ≡ true
from-T true h = refl
from-T false h = absurd h

abbrev wide_at : ℕ → ℕ → Bool
wide_at e width = leb 1 width && leb width 4

pub listed : (e : ℕ) → e < 8 → Wide (get_or widths e 0)
listed e l =
    let t = from-T (wide_at e (get_or widths e 0)) (at 0 wide_at widths tt e l) in
    record {
      some = needed_le _ 1 (get_or widths e 0) t (λ f. simp f);
      most = needed_le _ (get_or widths e 0) 4 t (λ f. simp (f, and-false));
    }
