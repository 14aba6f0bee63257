-- The parts of the regions lie one after the other, so that a place lies in one of them at most, and a store in one part keeps
-- the others.
use Prim.Native.Nat.{ℕ, zero, suc, ◌+◌, ◌<◌}
use mathlib.Core.Path.{◌≡◌, refl, ap}
use mathlib.Core.List.{List}
use mathlib.Core.Logic.{⊎_elim}
use native.Mathlib.Nat.{eq-or-lt_of_le, le_of_suc-le-suc, le_of_eq, le_antisymm}
use native.Mathlib.Numerals.{add-one}
use native.Mathlib.Omega.{arith, by_contra}
use lib.ListN.{get_or}
use Rattle.memory.specs.Place.{part_start}
use Rattle.memory.specs.Laws.{StartGrows, PartEnds, OnePart, StoreKeepsParts}
use Rattle.memory.proofs.Memory.{store_keeps_others}

-- the definition's two equations, the second at the code's `region + 1`
pub start_first : (sizes : List ℕ) → part_start sizes 0 ≡ 0
unfolding part_start
start_first sizes = refl

pub start_next : (sizes : List ℕ) (region : ℕ) → part_start sizes (region + 1) ≡ part_start sizes region + get_or sizes region 0
unfolding part_start
start_next sizes region = rw add-one

pub start_grows : StartGrows
unfolding part_start
start_grows sizes i zero l = let e : i ≡ 0 = omega arith in le_of_eq (ap (part_start sizes) e)
start_grows sizes i (suc j) l = ⊎_elim
    (λ (e : i ≡ suc j). le_of_eq (ap (part_start sizes) e))
    (λ (q : i < suc j). omega (arith, start_grows sizes i j (le_of_suc-le-suc q)))
    (eq-or-lt_of_le l)

pub part_ends : PartEnds
part_ends sizes i j l = omega (arith, start_next sizes i, start_grows sizes (i + 1) j (omega arith))

pub one_part : OnePart
one_part sizes i j a p q = le_antisymm (by_contra i j (λ l. omega (arith, part_ends sizes j i l))) (by_contra j i (λ l. omega (arith, part_ends sizes i j l)))

pub store_keeps_parts : StoreKeepsParts
store_keeps_parts sizes i j op v offset m a fits there other =
    store_keeps_others op v (part_start sizes i + offset) m a (λ p q. other (one_part sizes i j a (omega arith, omega arith) there))
