-- A routine with its policy and rows, and a start that matches its entry row. The words are those that GNU as gives; %g1 is r1, %o0 is r8.
use Rattle.std.specs.Prelude.{ℕ, ◌+◌, ◌*◌, true, false, List, [], ◌∷◌, ◌++◌, replicate, set}
use Rattle.v8.specs.Signed.{bias}
use Rattle.policy.specs.declared.Field.{Field}
use Rattle.policy.specs.declared.Policy.{Policy}
use Rattle.policy.specs.Build.{empty_policy, with_region, with_field}
use Rattle.step.specs.declared.Registers.{Registers}
use Rattle.rows.specs.Geometry.{entry_bytes}

-- region 0 has two fields: a link, which is the region's start or null, to be read and written, and a number 0 to 9, to be read
abbrev pub link : Field
link = record { element = 7; permission = 3; target = 0; offset = record { 0 = 0 }; count = 1; lo = bias; hi = bias }

abbrev pub digit : Field
digit = record { element = 5; permission = 1; target = 0; offset = record { 0 = 4 }; count = 1; lo = bias; hi = bias + 9 }

abbrev pub policy : Policy
policy = with_field (with_field (with_region empty_policy 8) 0 link) 0 digit

-- it makes the link null, if it is not, and gives the number; the region's address is kept in a scratch word on the way
abbrev pub words : List ℕ
words =
    -- st %o0,[%sp+96]
    0xD023A060
    -- ld [%o0],%g1: the link
    ∷ 0xC2020000
    -- cmp %g1,0
    ∷ 0x80A06000
    -- bne,a to the load, and in its slot, which runs only then, st %g0,[%g1]
    ∷ 0x32BFFFFE
    ∷ 0xC0204000
    -- ld [%sp+96],%o0
    ∷ 0xD003A060
    -- retl, and in its slot ld [%o0+4],%o0: the number
    ∷ 0x81C3E008
    ∷ 0xD0022004
    ∷ []

-- entries, as document 01 writes them ("An entry: kind, region, step, zero (a byte each), lo, hi"): so many unset; the number 0; the start of
-- region 0; that or null; the return address; the frame address; 0 to 9
abbrev pub unset : ℕ → List ℕ
unset n = replicate (entry_bytes * n) 0

abbrev pub just_zero : List ℕ
just_zero = 1 ∷ 0 ∷ 8 ∷ replicate 9 0

abbrev pub start : List ℕ
start = 2 ∷ 0 ∷ 8 ∷ replicate 9 0

abbrev pub start_or_null : List ℕ
start_or_null = 3 ∷ replicate 11 0

abbrev pub return_address : List ℕ
return_address = 4 ∷ replicate 11 0

abbrev pub frame_address : List ℕ
frame_address = 5 ∷ replicate 11 0

abbrev pub digits : List ℕ
digits = 1 ∷ 0 ∷ 1 ∷ replicate 8 0 ++ 9 ∷ []

-- notes: codes unset; the codes of r1 compared with 0
abbrev pub no_codes : List ℕ
no_codes = replicate 8 0

abbrev pub compared : List ℕ
compared = 2 ∷ 1 ∷ replicate 6 0

-- a row with this r1, this first scratch word and this note: r8 is the start of region 0, r14 the frame address, r15 the return address, all else
-- is unset
abbrev pub row : List ℕ → List ℕ → List ℕ → List ℕ
row r1 kept note = just_zero ++ r1 ++ unset 6 ++ start ++ unset 5 ++ frame_address ++ return_address ++ unset 16 ++ kept ++ unset 5 ++ note

abbrev pub entry : List ℕ
entry = row (unset 1) (unset 1) no_codes

abbrev pub spilled : List ℕ
spilled = row (unset 1) start no_codes

abbrev pub rows : List ℕ
rows = entry ++ spilled ++ row start_or_null start no_codes ++ row start_or_null start compared ++ entry ++ spilled ++ entry ++ entry

-- a start: region 0 at 4000 hexadecimal, linked to itself, with the number 7; the frame is at 5000, the return address is 1000
abbrev pub bases : List ℕ
bases = 0x4000 ∷ []

abbrev pub returns : ℕ
returns = 0x1000

abbrev pub frame : ℕ
frame = 0x5000

abbrev pub registers : Registers
registers =
    record {
      values = set (set (set (replicate 32 0) 8 0x4000) 14 0x5000) 15 0x1000;
      marks = set (set (set (replicate 38 false) 8 true) 14 true) 15 true;
      codes = record { value = record { n = false; z = false; v = false; c = false }; set = false };
    }

abbrev pub memory : List ℕ
memory = 0 ∷ 0 ∷ 0x40 ∷ 0 ∷ 0 ∷ 0 ∷ 0 ∷ 7 ∷ replicate 120 0

-- what the routine leaves of it
abbrev pub cleared : List ℕ
cleared = 0 ∷ 0 ∷ 0 ∷ 0 ∷ 0 ∷ 0 ∷ 0 ∷ 7 ∷ replicate 96 0 ++ 0 ∷ 0 ∷ 0x40 ∷ 0 ∷ replicate 20 0
