-- A table of marks (document 02, request 2): "word by word: for each register"; 32 marks a word, one word after the other.
use Rattle.std.specs.Prelude.{ℕ, suc, ◌+◌, ◌*◌, ◌/◌, ◌%◌, Bool, cond, List, [], ◌∷◌, eqb, get_or}
use Rattle.v8.specs.Search.{all}
use Rattle.marks.specs.Marks.{not_reached, meet, AtMost, rank, register_count, marks_by, mark_of, has_mark}

-- "the table has 4,096 marks"
abbrev pub table_marks : ℕ
table_marks = 4096

-- the place of register r at word w, and the mark at a place
abbrev pub place_of : ℕ → ℕ → ℕ
place_of w r = register_count * w + r

abbrev pub mark_at : List ℕ → ℕ → ℕ
mark_at table k = get_or table k not_reached

-- the marks of word w
unfoldable pub marks_at : List ℕ → ℕ → List ℕ
marks_at table w = marks_by (λ r. mark_at table (place_of w r))

-- a word is reached if its registers have marks: all of them or none has
unfoldable pub reached : List ℕ → Bool
reached marks = all (has_mark marks) register_count

-- a mark at place k, raised by marks that arrive at word w
abbrev pub raised_mark : ℕ → List ℕ → ℕ → ℕ → ℕ
raised_mark w marks k mark = cond (eqb (k / register_count) w) (meet mark (mark_of marks (k % register_count))) mark

-- a table from place k on, raised by marks that arrive at word w
abbrev pub raised_from : ℕ → List ℕ → ℕ → List ℕ → List ℕ
raised_from w marks k [] = []
raised_from w marks k (x ∷ xs) = raised_mark w marks k x ∷ raised_from w marks (suc k) xs

-- a table raised by marks that arrive at word w
unfoldable pub raised_at : List ℕ → ℕ → List ℕ → List ℕ
raised_at table w marks = raised_from w marks 0 table

-- one table is at most another, place by place
abbrev pub TableAtMost : List ℕ → List ℕ → Type 0
TableAtMost a b = (k : ℕ) → AtMost (mark_at a k) (mark_at b k)

-- how high a table stands: each raise makes it higher, and each mark has height 2
unfoldable pub height : List ℕ → ℕ
height [] = 0
height (x ∷ xs) = rank x + height xs
