-- Whole checks about the caller's registers (document 02, request 6): number, word, register. The words are those that GNU as gives, and stand above
-- each row.
use Rattle.std.specs.Prelude.{List, [], ◌∷◌}
use Rattle.v8.specs.Signed.{bias}
use Rattle.trials.specs.Case.{Row, ◌gives◌, answers}
use Rattle.trials.specs.Entries.{above, num, just, unset, put}
use Rattle.trials.specs.CheckRows.{routine, called, first, flow}
use Rattle.rows.specs.declared.Row as Rows·

-- at a call, r16 is 0 to 9
abbrev pub kept : Rows·.Row
kept = put 16 (num 1 bias (above 9)) called

abbrev pub check_rows : List Row
check_rows =
    -- 2 at any word before 25: sethi 0, %l0; unimp 0, and 24: sethi 0, %l0; rd %psr, %g0
    flow (0x21000000 ∷ 0x00000000 ∷ []) gives answers 2 1 0
    ∷ flow (0x21000000 ∷ 0x81480000 ∷ []) gives answers 24 1 0
    -- 1 at any word before 25: retl; sethi 0, %l0, where a row is badly formed; and 25 before 15: the entry row has no r1, which row 0 has
    ∷ routine (0x81C3E008 ∷ 0x21000000 ∷ []) (called ∷ put 1 (num 3 bias bias) called ∷ []) called unset gives answers 1 1 1
    ∷ routine (0x81C3E008 ∷ 0x21000000 ∷ []) (first (just bias) ∷ called ∷ []) called unset gives answers 25 1 16
    -- what the entry row says of r16 may be read: retl; mov %l0, %o0, with the result 0 to 9
    ∷ routine (0x81C3E008 ∷ 0x90100010 ∷ []) (kept ∷ called ∷ []) kept (num 1 bias (above 9)) gives answers 0 0 0
    -- a row may say less of it on the way: it is unset then, and not read
    ∷ routine (0x81C3E008 ∷ 0x90100010 ∷ []) (called ∷ called ∷ []) kept unset gives answers 4 1 16
    ∷ []
