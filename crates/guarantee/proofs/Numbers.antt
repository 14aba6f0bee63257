-- What follows for the words of a routine from their reading: the numbers that their instructions add are words, and a word that is not read has
-- a number.
use Prim.Native.Nat.{ℕ, zero, suc}
use mathlib.Core.Path.{refl}
use mathlib.Core.List.{List, [], ◌∷◌}
use Rattle.v8.specs.declared.Edition.{Edition}
use Rattle.v8.specs.declared.Displacement.{Displacement}
use Rattle.v8.specs.declared.Displacement.TheVariants.{Index, Bytes}
use Rattle.v8.specs.Laws.{OperandSmall, DisplacementSmall, ReadingSound}
use Rattle.v8.proofs.Sound.{reads_sound}
use Rattle.flow_code.specs.Readings.{readings_of, reading_at}
use Rattle.access.specs.Serve.{addend}

pub addend_small : (d : Displacement) → DisplacementSmall d → OperandSmall (addend d)
addend_small (Index r) l = l
addend_small (Bytes n) l = l

pub readings_sound : (e : Edition) (words : List ℕ) (w : ℕ) → ReadingSound (reading_at (readings_of e words) w)
readings_sound e [] w = refl
readings_sound e (x ∷ xs) zero = reads_sound e x
readings_sound e (x ∷ xs) (suc w) = readings_sound e xs w
