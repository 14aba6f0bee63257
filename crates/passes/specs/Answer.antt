-- Answers, and passes over the words (document 01, "Every answer is a number, a word index and a register, the last two 0 unless said;
-- acceptance is 0 0 0. Each pass ends before the next; inside a pass words ascend").
use Rattle.std.specs.Prelude.{ℕ, Bool, cond, not, ltb, eqb}
use Rattle.v8.specs.Numbers.{acceptance}
use Rattle.v8.specs.Search.{first}
use Rattle.passes.specs.declared.Answer.{Answer}

-- "acceptance is 0 0 0"
abbrev pub accepted : Answer
accepted = record { number = acceptance; word = record { 0 = 0 }; register = 0 }

-- the number of a broken condition, the word and the register that it names
abbrev pub refuse : ℕ → ℕ → ℕ → Answer
refuse number word register = record { number = number; word = record { 0 = word }; register = register }

-- an answer accepts
abbrev pub passes : Answer → Bool
passes a = eqb a.number acceptance

-- one pass, and the next where it accepts
abbrev pub and_then : Answer → Answer → Answer
and_then a b = cond (passes a) b a

-- a condition that holds, or its number, word and register
abbrev pub need : Bool → ℕ → ℕ → ℕ → Answer
need t number word register = cond t accepted (refuse number word register)

abbrev pub refuses : (ℕ → Answer) → ℕ → Bool
refuses f w = not (passes (f w))

-- a pass over n words: the answer at the first that does not accept
unfoldable pub pass_of : (ℕ → Answer) → ℕ → Answer
pass_of f n = cond (ltb (first (refuses f) 0 n) n) (f (first (refuses f) 0 n)) accepted
