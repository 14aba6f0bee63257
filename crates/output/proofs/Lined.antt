-- Three numbers, each put after what was before, with a space after the first two and a newline at the end, are a line.
use Prim.Native.Nat.{ℕ}
use mathlib.Core.Path.{◌≡◌}
use mathlib.Core.List.{List, [], ◌∷◌, ◌++◌}
use Rattle.output.specs.Line.{space, newline, Adds, ThreeNumbers}

pub lined : (a b c : ℕ) (t₁ t₂ t₃ t₄ t₅ t₆ : List ℕ) → Adds a [] t₁ → t₂ ≡ t₁ ++ (space ∷ []) → Adds b t₂ t₃ → t₄ ≡ t₃ ++ (space ∷ [])
    → Adds c t₄ t₅ → t₆ ≡ t₅ ++ (newline ∷ []) → ThreeNumbers a b c t₆
lined a b c t₁ t₂ t₃ t₄ t₅ t₆ p e q f r g =
    record {
      first = p.added;
      second = q.added;
      third = r.added;
      number = p.decimal;
      word = q.decimal;
      register = r.decimal;
      whole = rw (g, r.whole, f, q.whole, e, p.whole);
    }
