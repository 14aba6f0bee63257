-- A byte more at the end of what is written.
use Prim.Native.Nat.{ℕ, ◌+◌, ◌<◌}
use mathlib.Core.Path.{◌≡◌}
use mathlib.Core.List.{List, [], ◌∷◌, ◌++◌}
use native.Mathlib.Numerals.{add-one}
use lib.ListN.{length, set, take}
use lib.Seq.{take-suc-set}

pub pushed : (text : List ℕ) (i v : ℕ) → i < length text → take (i + 1) (set text i v) ≡ take i text ++ (v ∷ [])
pushed text i v l = rw (add-one i) (take-suc-set text i v l)
