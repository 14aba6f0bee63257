-- The worked cases of the listing of kinds (document 02, request 2): what is given, what comes of it, and what the definitions give for it. Marks
-- of registers stand as one number, a digit each, r0's first.
use Rattle.std.specs.Prelude.{ℕ, ◌+◌, ◌*◌, Bool, cond, ◌&&◌, List, [], ◌∷◌, eqb, length, take, drop, replicate}
use Rattle.v8.specs.declared.Edition.{Edition}
use Rattle.v8.specs.Table.{every}
use Rattle.v8.specs.Read.{reading_of}
use Rattle.policy.specs.declared.Policy.{Policy}
use Rattle.passes.specs.Answer.{passes}
use Rattle.marks.specs.Marks.{meet, register_count}
use Rattle.marks.specs.Effect.{marks_after_word}
use Rattle.lister.specs.Listing.{Listed, listed}

-- what is given
pub data Given : Type 0 where
  -- two marks that meet
  meeting : ℕ → ℕ → Given
  -- a word, on marks that have each kind
  word : ℕ → Given
  -- policy, words, the entry row's bytes, and the length of the table that is lent
  routine : Policy → List ℕ → List ℕ → ℕ → Given

-- what comes of it
pub data Outcome : Type 0 where
  mark : ℕ → Outcome
  -- the marks of r0 to r7
  marks : ℕ → Outcome
  -- the marks of each word, and whether all behind are those of no word
  listing : List ℕ → Bool → Outcome
  -- number, word, register, and whether the table is as it was
  refusal : ℕ → ℕ → ℕ → Bool → Outcome

-- a case and the outcome that it must have
pub record Row : Type 0 where
  pub given : Given
  pub expected : Outcome

-- marks as a number
abbrev pub digits : ℕ → List ℕ → ℕ
digits n [] = n
digits n (m ∷ ms) = digits (10 * n + m) ms

-- the marks of n words, and what stands behind
abbrev pub words_of : List ℕ → List ℕ → List ℕ
words_of [] table = []
words_of (w ∷ ws) table = digits 0 (take register_count table) ∷ words_of ws (drop register_count table)

abbrev pub behind : List ℕ → List ℕ → List ℕ
behind [] table = table
behind (w ∷ ws) table = behind ws (drop register_count table)

-- every byte is this one
abbrev pub all_are : ℕ → List ℕ → Bool
all_are x table = every (λ (k y : ℕ). eqb y x) 0 table

-- what each byte of a lent table is before the call
abbrev pub lent : ℕ
lent = 170

abbrev pub leaves_of : List ℕ → ℕ → Listed → Outcome
leaves_of words size l =
    cond (passes l.answer) (listing (words_of words l.table) (all_are 0 (behind words l.table)))
    (refusal l.answer.number l.answer.word.0 l.answer.register (all_are lent l.table && eqb (length l.table) size))

-- marks that have each kind: r0 and r1 are numbers, r2 and r6 addresses, r3 an address or null, r4 and r7 the return address; all others are
-- unset
abbrev pub kinds : List ℕ
kinds = 1 ∷ 1 ∷ 2 ∷ 3 ∷ 4 ∷ 5 ∷ 2 ∷ 4 ∷ replicate 24 5

-- what the definitions give, on a terminal of the edition
abbrev pub outcome : Edition → Given → Outcome
outcome e (meeting a b) = mark (meet a b)
outcome e (word w) = marks (digits 0 (take 8 (marks_after_word kinds (reading_of e w))))
outcome e (routine p words entry size) = leaves_of words size (listed e p words entry (replicate size lent))
