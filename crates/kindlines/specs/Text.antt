-- The marks of a word as text, in ASCII: a letter a register, in four groups of eight (globals, outs, locals, ins) with a space between.
use Rattle.std.specs.Prelude.{ℕ, ◌+◌, ◌*◌, ◌/◌, ◌%◌, cond, List, [], ◌∷◌, ltb, eqb, get_or}
use Rattle.marks.specs.Marks.{values_from}
use Rattle.output.specs.Line.{space}
use Rattle.lister_rules.specs.Table.{place_of, mark_at}

-- not reached, number, address, address or null, return, unset: `.`, `n`, `a`, `z`, `r`, `-`
abbrev pub letters : List ℕ
letters = 46 ∷ 110 ∷ 97 ∷ 122 ∷ 114 ∷ 45 ∷ []

-- the letter of a mark; `?` for what is none
unfoldable pub letter_of : ℕ → ℕ
letter_of mark = cond (ltb mark 6) (get_or letters mark 0) 63

-- what stands at place k of the text: after eight letters a space
unfoldable pub text_at : List ℕ → ℕ → ℕ → ℕ
text_at table w k = cond (eqb (k % 9) 8) space (letter_of (mark_at table (place_of w (8 * (k / 9) + k % 9))))

abbrev pub text_length : ℕ
text_length = 35

-- the text of word w's marks
abbrev pub marks_text : List ℕ → ℕ → List ℕ
marks_text table w = values_from (text_at table w) 0 text_length
