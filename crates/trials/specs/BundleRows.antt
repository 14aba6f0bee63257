-- Whole bundles (document 01, "Bundle"), by their bytes: "23 if over the size below, if mark, version or a zero of a region or field is wrong, or if
-- its length is not what its counts give; then the add refusals, then the check's". The routine is the return and a nop, each with the entry row.
use Rattle.std.specs.Prelude.{ℕ, ◌+◌, ◌-◌, ◌*◌, List, [], ◌∷◌, ◌++◌, replicate}
use Rattle.rows.specs.declared.Row as Rows·
use Rattle.trials.specs.Case.{Row, ◌gives◌, Given, bundle, answers}
use Rattle.trials.specs.Entries.{unset, return_address, bare, put, word_then, bytes_of_entry, narrow_of, narrow_of_rows}

-- the head: the mark's third byte, the version, how many regions and how many words
abbrev pub head : ℕ → ℕ → ℕ → ℕ → List ℕ
head third version regions words = 0x57 ∷ 0x54 ∷ third ∷ 0 ∷ version ∷ regions ∷ 0 ∷ words ∷ []

-- a region of 16 bytes: how many fields, and its zero
abbrev pub region_bytes : ℕ → ℕ → List ℕ
region_bytes fields nought = 0 ∷ 16 ∷ fields ∷ nought ∷ []

-- one unsigned byte from 0 to 9 to be read and written: its zero, and its permission
abbrev pub field_bytes : ℕ → ℕ → List ℕ
field_bytes nought permission = 1 ∷ permission ∷ 0 ∷ nought ∷ 0 ∷ 0 ∷ 0 ∷ 1 ∷ word_then 0 (word_then 9 [])

-- the row at a call: r15 is the return address, all else is unset
abbrev pub called : Rows·.Row
called = put 15 return_address bare

-- the return and a nop, with an entry row and a result entry that asks nothing
abbrev pub routine : List ℕ
routine = narrow_of called ++ bytes_of_entry unset ++ word_then 0x81C3E008 (word_then 0x01000000 (narrow_of_rows (called ∷ called ∷ [])))

-- the same with no words
abbrev pub nothing : List ℕ
nothing = narrow_of called ++ bytes_of_entry unset

-- bundles that are opened, with no region, one region, one region with one field
abbrev pub opened_rows : List Row
opened_rows =
    bundle (head 0x52 1 0 2 ++ routine) gives answers 0 0 0
    ∷ bundle (head 0x52 1 1 2 ++ region_bytes 0 0 ++ routine) gives answers 0 0 0
    ∷ bundle (head 0x52 1 1 2 ++ region_bytes 1 0 ++ field_bytes 0 3 ++ routine) gives answers 0 0 0
    -- no words: the check's 21
    ∷ bundle (head 0x52 1 0 0 ++ nothing) gives answers 21 0 0
    -- the adds' refusals: a permission of 4; a region of 0 bytes
    ∷ bundle (head 0x52 1 1 0 ++ region_bytes 1 0 ++ field_bytes 0 4 ++ nothing) gives answers 20 0 0
    ∷ bundle (head 0x52 1 1 0 ++ (0 ∷ 0 ∷ 0 ∷ 0 ∷ []) ++ nothing) gives answers 19 0 0
    ∷ []

-- bytes that are no bundle
abbrev pub closed_rows : List Row
closed_rows =
    -- nothing at all; one byte more, one byte fewer than the counts give
    bundle [] gives answers 23 0 0
    ∷ bundle (head 0x52 1 0 0 ++ nothing ++ 0 ∷ []) gives answers 23 0 0
    ∷ bundle (head 0x52 1 0 1 ++ nothing) gives answers 23 0 0
    -- the mark's third byte; the version
    ∷ bundle (head 0x53 1 0 0 ++ nothing) gives answers 23 0 0
    ∷ bundle (head 0x52 3 0 0 ++ nothing) gives answers 23 0 0
    -- a region's zero; a field's zero, also in a field that an add would refuse
    ∷ bundle (head 0x52 1 1 0 ++ region_bytes 0 1 ++ nothing) gives answers 23 0 0
    ∷ bundle (head 0x52 1 1 0 ++ region_bytes 1 0 ++ field_bytes 1 3 ++ nothing) gives answers 23 0 0
    ∷ bundle (head 0x52 1 1 0 ++ region_bytes 1 0 ++ field_bytes 1 4 ++ nothing) gives answers 23 0 0
    ∷ []

abbrev pub bundle_rows : List Row
bundle_rows = opened_rows ++ closed_rows
