-- The two words of a predicted branch, and cases that are the same for both (document 02, request 5): "a prediction hint in bit 19, kept but with
-- no effect".
use Rattle.std.specs.Prelude.{ℕ, ◌+◌, ◌^◌, List, [], ◌∷◌, map}
use Rattle.trials.specs.Case.{Row, Given, Outcome, ◌gives◌, given}
use Rattle.slotrows.specs.Case as Slots·

-- the word of a predicted branch with the hint set, from the word with the hint clear
abbrev pub hinted : ℕ → ℕ
hinted w = w + 2 ^ 19

-- a case with a predicted branch, told with the hint clear: both words have the outcome
abbrev pub either_hint : (ℕ → Given) → ℕ → Outcome → List Row
either_hint case w o = case w gives o ∷ case (hinted w) gives o ∷ []

-- the same of the passes for flow and words
abbrev pub either_pass : (ℕ → Slots·.Given) → ℕ → Outcome → List Slots·.Row
either_pass case w o = Slots·.◌gives◌ (case w) o ∷ Slots·.◌gives◌ (case (hinted w)) o ∷ []

-- the same cases, all with this outcome
abbrev pub all_give : Outcome → List Row → List Row
all_give o rows = map (λ (r : Row). given r gives o) rows
