-- Numbers as text, in ASCII: what a line of three numbers is (document 01, "Bundle": "prints number, word, register in decimal, one space
-- between, newline").
use Rattle.std.specs.Prelude.{ℕ, ◌≡◌, List, [], ◌∷◌, ◌++◌, take}
use Rattle.io.specs.Counts.{IsPrefixLen}
use Rattle.io.specs.Digits.{last_digits, IsDigitCount}
use Rattle.output.specs.declared.line.Line.{Line}

abbrev pub space : ℕ
space = 32

abbrev pub newline : ℕ
newline = 10

-- the text is n in decimal: its digits, no more than it needs
pub record Decimal (n : ℕ) (text : List ℕ) : Type 0 where
  pub places : ℕ
  pub fewest : IsDigitCount 10 1 n places
  pub spelled : text ≡ last_digits 10 places n

-- the text is before, and then n in decimal
pub record Adds (n : ℕ) (before text : List ℕ) : Type 0 where
  pub added : List ℕ
  pub decimal : Decimal n added
  pub whole : text ≡ before ++ added

-- the text is a line of three numbers
pub record ThreeNumbers (a b c : ℕ) (text : List ℕ) : Type 0 where
  pub first : List ℕ
  pub second : List ℕ
  pub third : List ℕ
  pub number : Decimal a first
  pub word : Decimal b second
  pub register : Decimal c third
  pub whole : text ≡ ((((first ++ (space ∷ [])) ++ second) ++ (space ∷ [])) ++ third) ++ (newline ∷ [])

-- what is counted of the line's bytes is a line of three numbers
abbrev pub LineOf : ℕ → ℕ → ℕ → Line → Type 0
LineOf a b c line = IsPrefixLen line.count line.text × ThreeNumbers a b c (take line.count line.text)
