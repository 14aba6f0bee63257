-- What follows from the definitions, for all that rests on them. The proofs are in proofs/.
use Rattle.std.specs.Prelude.{ℕ, ◌≤◌, ◌≡◌, true, List, length}
use Rattle.v8.specs.declared.Reading.{Reading}
use Rattle.marks.specs.Marks.{meet, AtMost, rank, register_count, MarksAtMost, has_mark}
use Rattle.marks.specs.Effect.{marks_after_word}

-- Meeting gives the lowest mark that both are at most.
abbrev pub MeetsLowest : Type 0
MeetsLowest = (a b : ℕ) → AtMost a (meet a b) × AtMost b (meet a b) × ((c : ℕ) → AtMost a c → AtMost b c → AtMost (meet a b) c)

-- The order has height 2.
abbrev pub RankRises : Type 0
RankRises = (a b : ℕ) → AtMost a b → (rank a ≤ rank b) × (rank b ≤ 2) × (rank a ≡ rank b → a ≡ b)

-- every register has a mark
abbrev pub AllMarked : List ℕ → Type 0
AllMarked marks = (r : ℕ) → has_mark marks r ≡ true

-- A word raises what its registers' marks raise ..
abbrev pub AfterRises : Type 0
AfterRises =
    (a b : List ℕ) (x : Reading) → length a ≡ register_count → length b ≡ register_count → AllMarked a → MarksAtMost a b
    → MarksAtMost (marks_after_word a x) (marks_after_word b x)

-- .. and leaves every register with a mark.
abbrev pub AfterMarked : Type 0
AfterMarked = (a : List ℕ) (x : Reading) → length a ≡ register_count → AllMarked a → AllMarked (marks_after_word a x) × (length (marks_after_word a x) ≡ register_count)
