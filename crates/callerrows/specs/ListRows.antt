-- Whole listings about the caller's registers (document 02, request 6): "in the flow pass (the listing's too)". The words are those that GNU as gives,
-- and stand above each row.
use Rattle.std.specs.Prelude.{ℕ, true, List, [], ◌∷◌}
use Rattle.trials.specs.Entries.{bytes_of}
use Rattle.lister_rules.specs.Table.{table_marks}
use Rattle.kindrows.specs.Case.{Row, routine, refusal}
use Rattle.kindrows.specs.ListRows.{policy, entry, entered}

-- a refusal by number, word and register, with the table as it was
abbrev pub refused : List ℕ → ℕ → ℕ → ℕ → Row
refused words number w r = record { given = routine policy words (bytes_of entry) table_marks; expected = refusal number w r true }

abbrev pub list_rows : List Row
list_rows =
    -- sethi 0, %l0; retl; nop, and in a slot that never runs: ba,a 2; sethi 0, %sp; retl; nop
    refused (0x21000000 ∷ 0x81C3E008 ∷ 0x01000000 ∷ []) 25 0 16
    ∷ refused (0x30800002 ∷ 0x1D000000 ∷ 0x81C3E008 ∷ 0x01000000 ∷ []) 25 1 14
    -- 3 first at one word: retl; nop; sethi 0, %l0
    ∷ refused (0x81C3E008 ∷ 0x01000000 ∷ 0x21000000 ∷ []) 3 2 0
    -- a store of r16 is listed: st %l0, [%g2]; retl; nop
    ∷ entered (0xE0208000 ∷ 0x81C3E008 ∷ 0x01000000 ∷ [])
    (11235555555555545555555555555555 ∷ 11235555555555545555555555555555 ∷ 11235555555555545555555555555555 ∷ [])
    ∷ []
