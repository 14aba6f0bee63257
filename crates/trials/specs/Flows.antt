-- The flow of words: their edges, taken and other, the words examined, and the registers that words write (V8, Bicc, JMPL and delayed transfer;
-- document 01, "It is skipped when the annul bit is set and the condition is always or the branch isn't taken").
use Rattle.std.specs.Prelude.{ℕ, Bool, true, false, List, [], ◌∷◌, ◌++◌}
use Rattle.v8.specs.Numbers.{not_read}
use Rattle.v8.specs.declared.Reading.TheVariants.{Unread}
use Rattle.alu.specs.declared.condition.Narrowing.{Narrowing}
use Rattle.alu.specs.declared.condition.Narrowing.TheVariants.{Unrelated, EqualTo, NotEqualTo, LessThan, AtLeast, AtMost, GreaterThan}
use Rattle.flow_edges.specs.declared.Destination.TheVariants.{To, Caller}
use Rattle.trials.specs.Case.{Row, Outcome, ◌gives◌, edge, writing, examining, goes, reads, yields, marks}

-- there is an edge to a word, over the slot or not, and one to the caller
abbrev over : ℕ → Narrowing → Outcome
over w c = goes (record { exists = true; slot = true; to = To (record { 0 = w }); narrowing = c })

abbrev past : ℕ → Narrowing → Outcome
past w c = goes (record { exists = true; slot = false; to = To (record { 0 = w }); narrowing = c })

-- there is none: what it would be otherwise is said too
abbrev none : Outcome
none = goes (record { exists = false; slot = false; to = Caller; narrowing = Unrelated })

abbrev missing : Bool → ℕ → Outcome
missing runs w = goes (record { exists = false; slot = runs; to = To (record { 0 = w }); narrowing = Unrelated })

abbrev pub edge_rows : List Row
edge_rows =
    -- a word that is no transfer goes on to the next; the return goes over its slot to the caller
    edge 5 0x84007000 true gives none
    ∷ edge 5 0x84007000 false gives past 6 Unrelated
    ∷ edge 5 0xC22A201D false gives past 6 Unrelated
    ∷ edge 5 0x81C3E008 true gives goes (record { exists = true; slot = true; to = Caller; narrowing = Unrelated })
    ∷ edge 5 0x81C3E008 false gives none
    -- always and never have one edge; annulled, the slot of neither runs
    ∷ edge 5 0x10800003 true gives over 8 Unrelated
    ∷ edge 5 0x10800003 false gives missing true 7
    ∷ edge 5 0x30800003 true gives past 8 Unrelated
    ∷ edge 5 0x00800003 false gives over 7 Unrelated
    ∷ edge 5 0x00800003 true gives missing true 8
    ∷ edge 5 0x20800003 false gives past 7 Unrelated
    -- a conditional branch has two; annulled, its slot runs if it is taken
    ∷ edge 5 0x02800003 true gives over 8 EqualTo
    ∷ edge 5 0x02800003 false gives over 7 NotEqualTo
    ∷ edge 5 0x22800003 true gives over 8 EqualTo
    ∷ edge 5 0x22800003 false gives past 7 NotEqualTo
    -- the other conditions, 2 to 7 and 9 to 15: on the untaken edge the opposite one holds
    ∷ edge 5 0x04800003 true gives over 8 AtMost
    ∷ edge 5 0x04800003 false gives over 7 GreaterThan
    ∷ edge 5 0x06800003 true gives over 8 LessThan
    ∷ edge 5 0x06800003 false gives over 7 AtLeast
    ∷ edge 5 0x08800003 true gives over 8 Unrelated
    ∷ edge 5 0x08800003 false gives over 7 Unrelated
    ∷ edge 5 0x0A800003 true gives over 8 Unrelated
    ∷ edge 5 0x0A800003 false gives over 7 Unrelated
    ∷ edge 5 0x0C800003 true gives over 8 Unrelated
    ∷ edge 5 0x0C800003 false gives over 7 Unrelated
    ∷ edge 5 0x0E800003 true gives over 8 Unrelated
    ∷ edge 5 0x0E800003 false gives over 7 Unrelated
    ∷ edge 5 0x12800003 true gives over 8 NotEqualTo
    ∷ edge 5 0x12800003 false gives over 7 EqualTo
    ∷ edge 5 0x14800003 true gives over 8 GreaterThan
    ∷ edge 5 0x14800003 false gives over 7 AtMost
    ∷ edge 5 0x16800003 true gives over 8 AtLeast
    ∷ edge 5 0x16800003 false gives over 7 LessThan
    ∷ edge 5 0x18800003 true gives over 8 Unrelated
    ∷ edge 5 0x18800003 false gives over 7 Unrelated
    ∷ edge 5 0x1A800003 true gives over 8 Unrelated
    ∷ edge 5 0x1A800003 false gives over 7 Unrelated
    ∷ edge 5 0x1C800003 true gives over 8 Unrelated
    ∷ edge 5 0x1C800003 false gives over 7 Unrelated
    ∷ edge 5 0x1E800003 true gives over 8 Unrelated
    ∷ edge 5 0x1E800003 false gives over 7 Unrelated
    -- distances are signed, and counted in words from the branch
    ∷ edge 5 0x12BFFFFE true gives over 3 NotEqualTo
    ∷ edge 0 0x12BFFFFF true gives over 0xFFFFFFFF NotEqualTo
    -- a word that is not read has no edges
    ∷ edge 5 0x00000000 true gives reads (Unread not_read)
    ∷ []

-- the register that a word writes, 0 for none
abbrev pub written_rows : List Row
written_rows =
    writing 0x3F3FFFFF gives yields 31
    ∷ writing 0x84007000 gives yields 2
    ∷ writing 0x80A22009 gives yields 0
    ∷ writing 0x87304002 gives yields 3
    ∷ writing 0xC20A3FFF gives yields 1
    ∷ writing 0xDC520000 gives yields 14
    ∷ writing 0xC22A201D gives yields 0
    ∷ writing 0xDC220002 gives yields 0
    ∷ writing 0x12BFFFFE gives yields 0
    ∷ writing 0x81C3E008 gives yields 0
    ∷ []

-- "The word after a Bicc or return is its slot"; request 4: "A slot that a taken edge lands on is also examined as an ordinary word". The last
-- word first
abbrev pub slot_rows : List Row
slot_rows =
    examining (0x01000000 ∷ 0x81C3E008 ∷ 0x01000000 ∷ []) gives marks (false ∷ true ∷ true ∷ [])
    ∷ examining (0x10800000 ∷ 0x01000000 ∷ 0x01000000 ∷ []) gives marks (true ∷ false ∷ true ∷ [])
    ∷ examining (0x30800000 ∷ 0x81C3E008 ∷ 0x00000000 ∷ []) gives marks (false ∷ false ∷ true ∷ [])
    ∷ examining (0x00000000 ∷ 0x01000000 ∷ []) gives marks (true ∷ true ∷ [])
    -- ba to the slot of another; bn, which lands nowhere
    ∷ examining (0x10800003 ∷ 0x01000000 ∷ 0x10800000 ∷ 0x01000000 ∷ []) gives marks (true ∷ true ∷ false ∷ true ∷ [])
    ∷ examining (0x00800003 ∷ 0x01000000 ∷ 0x10800000 ∷ 0x01000000 ∷ []) gives marks (false ∷ true ∷ false ∷ true ∷ [])
    -- be to a return's slot; ba,a to its own
    ∷ examining (0x81C3E008 ∷ 0x01000000 ∷ 0x02BFFFFF ∷ 0x01000000 ∷ []) gives marks (false ∷ true ∷ true ∷ true ∷ [])
    ∷ examining (0x30800001 ∷ 0x01000000 ∷ []) gives marks (true ∷ true ∷ [])
    ∷ []

abbrev pub flow_rows : List Row
flow_rows = edge_rows ++ written_rows ++ slot_rows
