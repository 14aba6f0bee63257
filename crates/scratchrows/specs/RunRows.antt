-- Whole runs with a frame (document 02, request 7): "In the machine the six start unset and a store sets one; outcomes give their marks. It faults 102 on an
-- LD of an unset one, and 103 for the rest of the frame and other widths"; "22 covers the frame". The words are those that GNU as gives; each is told
-- beside its row, where %g1 to %g7 are r1 to r7 and %sp is r14.
use Rattle.std.specs.Prelude.{ℕ, ◌+◌, ◌-◌, ◌*◌, Bool, true, false, List, [], ◌∷◌, ◌++◌, replicate}
use Rattle.v8.specs.Signed.{bias}
use Rattle.policy.specs.declared.Policy.{Policy}
use Rattle.policy.specs.Build.{empty_policy, with_region, with_field}
use Rattle.step.specs.declared.Registers.{Registers}
use Rattle.machine_steps.specs.declared.End.{End}
use Rattle.machine_steps.specs.declared.End.TheVariants.{Returned, Spent, Fault, Refused}
use Rattle.trials.specs.Case.{ends, codes_at}
use Rattle.trials.specs.Policies.{field_of, uniform}
use Rattle.scratchrows.specs.Case.{Given, RunRow}

-- one region of 16 bytes, with two words to be read and written
abbrev pub policy : Policy
policy = with_field (with_region empty_policy 16) 0 (field_of 5 3 0 0 2 bias (bias + 9))

-- where the region lies, and the frame
abbrev pub base : ℕ
base = 0x3000

abbrev pub frame : ℕ
frame = 0x8000

-- r1 holds the base, r3 a number, r4 is unset, r5 and r6 are 0, r14 the frame address given, r15 the return address; the scratch words' marks
abbrev pub registers_of : ℕ → Bool → Registers
registers_of address scratch =
    record {
      values = 0 ∷ base ∷ 0 ∷ 0x12345678 ∷ 5 ∷ replicate 9 0 ++ address ∷ 0x1000 ∷ replicate 16 0;
      marks = true ∷ true ∷ false ∷ true ∷ false ∷ true ∷ true ∷ replicate 7 false ++ true ∷ true ∷ replicate 16 false ++ replicate 6 scratch;
      codes = record { value = codes_at 0; set = false };
    }

-- the region's part of the memory, then the frame's: bytes that none of the runs would store
abbrev pub region_bytes : List ℕ
region_bytes = replicate 16 0xAA

abbrev pub frame_of : List ℕ → List ℕ
frame_of scratch = region_bytes ++ replicate 96 0xFA ++ scratch

abbrev pub untouched : List ℕ
untouched = frame_of (replicate 24 0xFA)

-- .. after r3 is stored in scratch word k
abbrev pub held : ℕ → List ℕ
held k = frame_of (replicate (4 * k) 0xFA ++ 0x12 ∷ 0x34 ∷ 0x56 ∷ 0x78 ∷ replicate (20 - 4 * k) 0xFA)

-- the marks of the scratch words: none; of word k alone; all
abbrev pub none : List Bool
none = replicate 6 false

abbrev pub only : ℕ → List Bool
only k = replicate k false ++ true ∷ replicate (5 - k) false

abbrev pub six : List Bool
six = replicate 6 true

-- words, run with an allowance from these registers
abbrev pub run_on : Registers → ℕ → List ℕ → Given
run_on g allowance words =
    record { policy = policy; words = words; bases = base ∷ []; frame = frame; registers = g; allowance = allowance; memory = untouched }

abbrev pub run : List ℕ → Given
run words = run_on (registers_of frame false) 9 words

-- an end after some steps, with r5 and r6, the scratch words' marks and the memory; the other registers are as at the start
abbrev pub left : Given → End → ℕ → ℕ → ℕ → List Bool → List ℕ → RunRow
left g end steps v5 v6 scratch memory =
    record {
      given = g;
      expected =
          record {
            outcome =
                ends end steps (0 ∷ base ∷ 0 ∷ 0x12345678 ∷ 5 ∷ v5 ∷ v6 ∷ 0 ∷ []) (true ∷ true ∷ false ∷ true ∷ false ∷ true ∷ true ∷ false ∷ [])
                0
                memory;
            scratch = scratch;
          };
    }

-- the first word's step faults, and changes nothing
abbrev pub faults : Given → ℕ → RunRow
faults g n = left g (Fault n) 0 0 0 none untouched

-- one word that faults so
abbrev pub one : ℕ → ℕ → RunRow
one word n = faults (run (word ∷ [])) n

-- st %g3, [%sp + 96], a word, then the end of the code: it faults after one step
abbrev pub after_store : ℕ → ℕ → RunRow
after_store word n = left (run (0xC623A060 ∷ word ∷ [])) (Fault n) 1 0 0 (only 0) (held 0)

-- stores set, and loads give back
abbrev pub kept_rows : List RunRow
kept_rows =
    -- st %g3, [%sp + 96]; ld [%sp + 96], %g5, and the other words at 104 and 116; then no word is left
    left (run (0xC623A060 ∷ 0xCA03A060 ∷ [])) (Fault 101) 2 0x12345678 0 (only 0) (held 0)
    ∷ left (run (0xC623A068 ∷ 0xCA03A068 ∷ [])) (Fault 101) 2 0x12345678 0 (only 2) (held 2)
    ∷ left (run (0xC623A074 ∷ 0xCA03A074 ∷ [])) (Fault 101) 2 0x12345678 0 (only 5) (held 5)
    -- the step of the store alone; with an allowance of 0
    ∷ left (run_on (registers_of frame false) 1 (0xC623A064 ∷ [])) Spent 1 0 0 (only 1) (held 1)
    ∷ left (run_on (registers_of frame false) 0 (0xC623A064 ∷ [])) Spent 0 0 0 none untouched
    -- st %g3, [%sp + 96]; retl; ld [%sp + 96], %g5
    ∷ left (run (0xC623A060 ∷ 0x81C3E008 ∷ 0xCA03A060 ∷ [])) Returned 3 0x12345678 0 (only 0) (held 0)
    -- st %g3 to each of the six
    ∷ left (run (0xC623A060 ∷ 0xC623A064 ∷ 0xC623A068 ∷ 0xC623A06C ∷ 0xC623A070 ∷ 0xC623A074 ∷ [])) (Fault 101) 6 0 0 six
    (frame_of
    (0x12 ∷ 0x34 ∷ 0x56 ∷ 0x78 ∷ 0x12 ∷ 0x34 ∷ 0x56 ∷ 0x78 ∷ 0x12 ∷ 0x34 ∷ 0x56 ∷ 0x78 ∷ 0x12 ∷ 0x34 ∷ 0x56 ∷ 0x78 ∷ 0x12 ∷ 0x34 ∷ 0x56 ∷ 0x78 ∷ 0x12 ∷ 0x34 ∷ 0x56 ∷ 0x78 ∷ []))
    -- twice to one: st %g3, [%sp + 96]; st %g1, [%sp + 96]; ld [%sp + 96], %g5
    ∷ left (run (0xC623A060 ∷ 0xC223A060 ∷ 0xCA03A060 ∷ [])) (Fault 101) 3 base 0 (only 0)
    (frame_of (0 ∷ 0 ∷ 0x30 ∷ 0 ∷ replicate 20 0xFA))
    -- by whichever register: add %sp, 100, %g6; st %g3, [%g6]; ld [%sp + 100], %g5
    ∷ left (run (0x8C03A064 ∷ 0xC6218000 ∷ 0xCA03A064 ∷ [])) (Fault 101) 3 0x12345678 (frame + 100) (only 1) (held 1)
    ∷ []

-- 102, 103 and 104
abbrev pub fault_rows : List RunRow
fault_rows =
    -- ld of an unset one: each; to r0; of another than was stored
    one 0xCA03A060 102
    ∷ one 0xCA03A064 102
    ∷ one 0xCA03A068 102
    ∷ one 0xCA03A06C 102
    ∷ one 0xCA03A070 102
    ∷ one 0xCA03A074 102
    ∷ one 0xC003A060 102
    ∷ after_store 0xCA03A064 102
    -- ldub, lduh, ldsb, ldsh, stb, sth [%sp + 96], and after a store to it
    ∷ one 0xCA0BA060 103
    ∷ one 0xCA13A060 103
    ∷ one 0xCA4BA060 103
    ∷ one 0xCA53A060 103
    ∷ one 0xC62BA060 103
    ∷ one 0xC633A060 103
    ∷ after_store 0xCA0BA060 103
    ∷ after_store 0xCA53A062 103
    ∷ after_store 0xC62BA063 103
    -- ld and st below 96: [%sp], [%sp + 92]; behind the frame and before it: [%sp + 120], [%sp - 4]
    ∷ one 0xCA03A000 103
    ∷ one 0xC623A000 103
    ∷ one 0xCA03A05C 103
    ∷ one 0xC623A05C 103
    ∷ one 0xCA03A078 103
    ∷ one 0xC623A078 103
    ∷ one 0xCA03BFFC 103
    ∷ one 0xC623BFFC 103
    -- ldub [%sp], stb %g3, [%sp + 119]
    ∷ one 0xCA0BA000 103
    ∷ one 0xC62BA077 103
    -- unaligned: ld [%sp + 97], ld [%sp + 98], st [%sp + 98], ld [%sp + 2], lduh [%sp + 97]; before 103 and, of a set one, before 102
    ∷ one 0xCA03A061 104
    ∷ one 0xCA03A062 104
    ∷ one 0xC623A062 104
    ∷ one 0xCA03A002 104
    ∷ one 0xCA13A061 104
    ∷ after_store 0xCA03A062 104
    -- unset operands before all else: st %g4, [%sp + 96]; ld [%sp + %g4], %g5; st %g4, [%sp + 98]
    ∷ one 0xC823A060 102
    ∷ one 0xCA038004 102
    ∷ one 0xC823A062 102
    ∷ []

-- the frame lies where it is told, whatever r14 holds
abbrev pub elsewhere : ℕ → ℕ → ℕ → List ℕ → Given
elsewhere at address allowance words =
    record { policy = policy; words = words; bases = base ∷ []; frame = at; registers = registers_of address false; allowance = allowance; memory = untouched }

-- how it starts, and where it lies
abbrev pub start_rows : List RunRow
start_rows =
    -- "the six start unset", as whatever they come: ld [%sp + 96], %g5; nop; nothing
    faults (run_on (registers_of frame true) 9 (0xCA03A060 ∷ [])) 102
    ∷ left (run_on (registers_of frame true) 1 (0x01000000 ∷ [])) Spent 1 0 0 none untouched
    ∷ left (run_on (registers_of frame true) 0 (0x01000000 ∷ [])) Spent 0 0 0 none untouched
    -- a refused run gives them unset: no words
    ∷ left (run_on (registers_of frame true) 9 []) (Refused 21) 0 0 0 none untouched
    -- right behind the region, and right before it: st %g3, [%g1 + 112], st %g3, [%g1 - 24], the first scratch word
    ∷ left (elsewhere 0x3010 0 1 (0xC6206070 ∷ [])) Spent 1 0 0 (only 0) (held 0)
    ∷ left (elsewhere 0x2F88 0 1 (0xC6207FE8 ∷ [])) Spent 1 0 0 (only 0) (held 0)
    -- .. there r14 is no frame address: ld [%sp + 96], %g5 of 8000 hexadecimal
    ∷ left (elsewhere 0x3010 0x8000 1 (0xCA03A060 ∷ [])) (Fault 103) 0 0 0 none untouched
    -- the region is as it was: st %g0, [%g1 + 4]
    ∷ left (elsewhere 0x3010 0 1 (0xC0206004 ∷ [])) Spent 1 0 0 none
    (replicate 4 0xAA ++ 0 ∷ 0 ∷ 0 ∷ 0 ∷ replicate 8 0xAA ++ replicate 120 0xFA)
    ∷ []

-- the nop, run once: the frame address, and the memory; refused, or not
abbrev pub laid : ℕ → List ℕ → Given
laid at memory =
    record { policy = policy; words = 0x01000000 ∷ []; bases = base ∷ []; frame = at; registers = registers_of at false; allowance = 1; memory = memory }

abbrev pub refused : ℕ → RunRow
refused at = left (laid at untouched) (Refused 22) 0 0 0 none untouched

abbrev pub placed : ℕ → RunRow
placed at = left (laid at untouched) Spent 1 0 0 none untouched

abbrev pub wrong_length : List ℕ → RunRow
wrong_length memory = left (laid frame memory) (Refused 22) 0 0 0 none memory

-- "The frame address is a nonzero multiple of 8, with 120 added it is below 2^32, and the frame overlaps no region"
abbrev pub place_rows : List RunRow
place_rows =
    placed frame
    ∷ refused 0
    ∷ placed 8
    ∷ refused 0x8001
    ∷ refused 0x8004
    ∷ placed 0x8008
    -- up to 2^32: the highest; one that ends there
    ∷ placed 0xFFFFFF80
    ∷ refused 0xFFFFFF88
    ∷ refused 0xFFFFFFF8
    -- it ends where the region begins, and 8 bytes later; it begins where that ends, and 8 bytes before; the region in it
    ∷ placed 0x2F88
    ∷ refused 0x2F90
    ∷ refused 0x2FC0
    ∷ refused 0x3000
    ∷ refused 0x3008
    ∷ placed 0x3010
    -- the memory: too short, too long; without the frame's part
    ∷ wrong_length (replicate 135 0)
    ∷ wrong_length (replicate 137 0)
    ∷ wrong_length (replicate 16 0)
    ∷ []

-- regions of 8 bytes without fields, and a frame: the second overlaps it; none does, and it lies between them; no region; 20 before 22
abbrev pub among : Policy → List ℕ → ℕ → ℕ → Given
among p bases at size =
    record {
      policy = p;
      words = 0x01000000 ∷ [];
      bases = bases;
      frame = at;
      registers = registers_of at false;
      allowance = 1;
      memory = replicate size 0;
    }

abbrev pub among_rows : List RunRow
among_rows =
    left (among (uniform 2 8 0) (0x3000 ∷ 0x8070 ∷ []) 0x8000 136) (Refused 22) 0 0 0 none (replicate 136 0)
    ∷ left (among (uniform 2 8 0) (0x3000 ∷ 0x8078 ∷ []) 0x8000 136) Spent 1 0 0 none (replicate 136 0)
    ∷ left (among (uniform 2 8 0) (0x3000 ∷ 0x3080 ∷ []) 0x3008 136) Spent 1 0 0 none (replicate 136 0)
    ∷ left (among (uniform 0 8 0) [] 0x8000 120) Spent 1 0 0 none (replicate 120 0)
    ∷ left (among (uniform 0 8 0) [] 0 120) (Refused 22) 0 0 0 none (replicate 120 0)
    ∷ left (among (uniform 1 7 0) (0x3000 ∷ []) 0 127) (Refused 20) 0 0 0 none (replicate 127 0)
    ∷ []
