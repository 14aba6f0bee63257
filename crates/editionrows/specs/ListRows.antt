-- Whole listings of routines with predicted branches, on each terminal (document 02, request 5). The words are those that GNU as gives, and stand
-- above each row; a branch is told with the word that it lands on.
use Rattle.std.specs.Prelude.{ℕ, List, [], ◌∷◌}
use Rattle.trials.specs.Entries.{bytes_of}
use Rattle.lister_rules.specs.Table.{table_marks}
use Rattle.kindrows.specs.Case.{Row}
use Rattle.kindrows.specs.ListRows.{policy, entry, entered, unreached, refused}
use Rattle.editionrows.specs.Hints.{hinted}

-- be,a,pn %icc 3; mov %g2, %g1; nop; retl; nop
abbrev pub partly : ℕ → List ℕ
partly w = w ∷ 0x82100002 ∷ 0x01000000 ∷ 0x81C3E008 ∷ 0x01000000 ∷ []

-- the slot runs on the taken edge alone
abbrev pub partly_listed : ℕ → Row
partly_listed w =
    entered (partly w) (11235555555555545555555555555555 ∷ 11235555555555545555555555555555 ∷ 11235555555555545555555555555555 ∷ 15235555555555545555555555555555 ∷ 15235555555555545555555555555555 ∷ [])

-- ba,pn %icc 3; mov %g2, %g4; sethi 0, %g5; retl; nop
abbrev pub onward : ℕ → List ℕ
onward w = w ∷ 0x88100002 ∷ 0x0B000000 ∷ 0x81C3E008 ∷ 0x01000000 ∷ []

-- the slot runs, and word 2 is not reached
abbrev pub onward_listed : ℕ → Row
onward_listed w =
    entered (onward w) (11235555555555545555555555555555 ∷ 11235555555555545555555555555555 ∷ unreached ∷ 11232555555555545555555555555555 ∷ 11232555555555545555555555555555 ∷ [])

abbrev pub unlisted : List ℕ → Row
unlisted words = refused policy words (bytes_of entry) table_marks 2 0

-- on the newer terminal, with either hint
abbrev pub newer_rows : List Row
newer_rows =
    partly_listed 0x22400003 ∷ partly_listed (hinted 0x22400003) ∷ onward_listed 0x10400003 ∷ onward_listed (hinted 0x10400003)
    -- with other codes: be,a,pn %xcc 3
    ∷ unlisted (partly 0x22600003)
    ∷ []

-- the same words on the older terminal: 2
abbrev pub older_rows : List Row
older_rows =
    unlisted (partly 0x22400003) ∷ unlisted (partly (hinted 0x22400003)) ∷ unlisted (onward 0x10400003) ∷ unlisted (onward (hinted 0x10400003))
    ∷ unlisted (partly 0x22600003)
    ∷ []
