-- Bundles of both versions (document 02, request 7): "Bundle version 2, at most 62,468 bytes, has such rows; version 1 is read with six unset entries." The
-- words are those that GNU as gives, and stand above each row.
use Rattle.std.specs.Prelude.{ℕ, List, [], ◌∷◌, ◌++◌}
use Rattle.rows.specs.declared.Row as Rows·
use Rattle.trials.specs.Case.{Row, Given, ◌gives◌, bundle, answers}
use Rattle.trials.specs.Entries.{unset, frame_address, put, word_then, bytes_of, bytes_of_entry, bytes_of_rows, narrow_of, narrow_of_rows}
use Rattle.trials.specs.BundleRows.{head, called, nothing}
use Rattle.trials.specs.CheckRows.{fours}

-- at a call, r14 is the frame address; with r1 too
abbrev pub framed : Rows·.Row
framed = put 14 frame_address called

abbrev pub given : Rows·.Row
given = put 1 fours framed

-- a bundle of no region: retl and a word in its slot, with the slot's row; with the narrow rows of version 1, with wide ones
abbrev pub narrowly : ℕ → Rows·.Row → Given
narrowly slot row =
    bundle (head 0x52 1 0 2 ++ narrow_of given ++ bytes_of_entry unset ++ word_then 0x81C3E008 (word_then slot (narrow_of_rows (given ∷ row ∷ []))))

abbrev pub widely : ℕ → Rows·.Row → Given
widely slot row =
    bundle (head 0x52 2 0 2 ++ bytes_of given ++ bytes_of_entry unset ++ word_then 0x81C3E008 (word_then slot (bytes_of_rows (given ∷ row ∷ []))))

-- no words, with a wide entry row
abbrev pub wide_nothing : List ℕ
wide_nothing = bytes_of called ++ bytes_of_entry unset

abbrev pub bundle_rows : List Row
bundle_rows =
    -- st %g1, [%sp + 96], with wide rows; ld [%sp + 96], %g1 with narrow ones: "read with six unset entries"
    widely 0xC223A060 given gives answers 0 0 0
    ∷ narrowly 0xC203A060 given gives answers 4 1 33
    -- the last entry of a wide row is read: it is kind 5
    ∷ widely 0xC223A060 (put 37 frame_address given) gives answers 1 1 38
    -- no words: the check's 21
    ∷ bundle (head 0x52 2 0 0 ++ wide_nothing) gives answers 21 0 0
    -- narrow rows at version 2, wide rows at version 1; versions 0 and 3
    ∷ bundle (head 0x52 2 0 0 ++ nothing) gives answers 23 0 0
    ∷ bundle (head 0x52 1 0 0 ++ wide_nothing) gives answers 23 0 0
    ∷ bundle (head 0x52 0 0 0 ++ wide_nothing) gives answers 23 0 0
    ∷ bundle (head 0x52 3 0 0 ++ wide_nothing) gives answers 23 0 0
    -- one byte more, one byte fewer than the counts give
    ∷ bundle (head 0x52 2 0 0 ++ wide_nothing ++ 0 ∷ []) gives answers 23 0 0
    ∷ bundle (head 0x52 2 0 1 ++ wide_nothing) gives answers 23 0 0
    ∷ []
