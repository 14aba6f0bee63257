-- Marks that meet, and what each sort of word does to marks (document 02, request 2). The words are those that GNU as gives.
use Rattle.std.specs.Prelude.{ℕ, List, [], ◌∷◌}
use Rattle.kindrows.specs.Case.{Row, meeting, word, mark, marks}

abbrev pub pair : ℕ → ℕ → ℕ → Row
pair a b m = record { given = meeting a b; expected = mark m }

-- "Two different marks meeting give unset, but not reached gives way.": every pair
abbrev pub meet_rows : List Row
meet_rows =
    pair 0 0 0 ∷ pair 0 1 1 ∷ pair 0 2 2 ∷ pair 0 3 3 ∷ pair 0 4 4 ∷ pair 0 5 5
    ∷ pair 1 0 1 ∷ pair 1 1 1 ∷ pair 1 2 5 ∷ pair 1 3 5 ∷ pair 1 4 5 ∷ pair 1 5 5
    ∷ pair 2 0 2 ∷ pair 2 1 5 ∷ pair 2 2 2 ∷ pair 2 3 5 ∷ pair 2 4 5 ∷ pair 2 5 5
    ∷ pair 3 0 3 ∷ pair 3 1 5 ∷ pair 3 2 5 ∷ pair 3 3 3 ∷ pair 3 4 5 ∷ pair 3 5 5
    ∷ pair 4 0 4 ∷ pair 4 1 5 ∷ pair 4 2 5 ∷ pair 4 3 5 ∷ pair 4 4 4 ∷ pair 4 5 5
    ∷ pair 5 0 5 ∷ pair 5 1 5 ∷ pair 5 2 5 ∷ pair 5 3 5 ∷ pair 5 4 5 ∷ pair 5 5 5
    ∷ []

infix 70 ◌leaves◌
abbrev pub ◌leaves◌ : ℕ → ℕ → Row
w leaves m = record { given = word w; expected = marks m }

-- on r0 to r7 with the marks 11234524, the marks after each word
abbrev pub word_rows : List Row
word_rows =
    -- "ADD .. of numbers give number"; "of address and number .. give address", in either order
    0x8E004001 leaves 11234521  -- add %g1, %g1, %g7
    ∷ 0x8E006004 leaves 11234521  -- add %g1, 4, %g7
    ∷ 0x8E000001 leaves 11234521  -- add %g0, %g1, %g7
    ∷ 0x8E008001 leaves 11234522  -- add %g2, %g1, %g7
    ∷ 0x8E00A004 leaves 11234522  -- add %g2, 4, %g7
    ∷ 0x8E008000 leaves 11234522  -- add %g2, %g0, %g7
    ∷ 0x8E004002 leaves 11234522  -- add %g1, %g2, %g7
    ∷ 0x8E000002 leaves 11234522  -- add %g0, %g2, %g7
    ∷ 0x8E008006 leaves 11234525  -- add %g2, %g6, %g7
    ∷ 0x8E00C001 leaves 11234525  -- add %g3, %g1, %g7
    ∷ 0x8E004003 leaves 11234525  -- add %g1, %g3, %g7
    ∷ 0x8E00E000 leaves 11234525  -- add %g3, 0, %g7
    ∷ 0x8E012008 leaves 11234525  -- add %g4, 8, %g7
    ∷ 0x8E014001 leaves 11234525  -- add %g5, %g1, %g7
    ∷ 0x8E004005 leaves 11234525  -- add %g1, %g5, %g7
    ∷ 0x8E008005 leaves 11234525  -- add %g2, %g5, %g7
    ∷ 0x8E808001 leaves 11234522  -- addcc %g2, %g1, %g7
    -- SUB: address - number alone gives address
    ∷ 0x8E204001 leaves 11234521  -- sub %g1, %g1, %g7
    ∷ 0x8E206004 leaves 11234521  -- sub %g1, 4, %g7
    ∷ 0x8E208001 leaves 11234522  -- sub %g2, %g1, %g7
    ∷ 0x8E20A004 leaves 11234522  -- sub %g2, 4, %g7
    ∷ 0x8E208000 leaves 11234522  -- sub %g2, %g0, %g7
    ∷ 0x8E204002 leaves 11234525  -- sub %g1, %g2, %g7
    ∷ 0x8E200002 leaves 11234525  -- sub %g0, %g2, %g7
    ∷ 0x8E208006 leaves 11234525  -- sub %g2, %g6, %g7
    ∷ 0x8E20E000 leaves 11234525  -- sub %g3, 0, %g7
    ∷ 0x8E20C000 leaves 11234525  -- sub %g3, %g0, %g7
    ∷ 0x8E210001 leaves 11234525  -- sub %g4, %g1, %g7
    ∷ 0x8E204005 leaves 11234525  -- sub %g1, %g5, %g7
    ∷ 0x8EA08001 leaves 11234522  -- subcc %g2, %g1, %g7
    -- "OR with literal r0 copies a mark": the register, in either order, in the code-setting form too; not the number 0
    ∷ 0x8E100001 leaves 11234521  -- or %g0, %g1, %g7
    ∷ 0x8E100002 leaves 11234522  -- or %g0, %g2, %g7
    ∷ 0x8E100003 leaves 11234523  -- or %g0, %g3, %g7
    ∷ 0x8E100004 leaves 11234524  -- or %g0, %g4, %g7
    ∷ 0x8E100005 leaves 11234525  -- or %g0, %g5, %g7
    ∷ 0x8E108000 leaves 11234522  -- or %g2, %g0, %g7
    ∷ 0x8E10C000 leaves 11234523  -- or %g3, %g0, %g7
    ∷ 0x8E110000 leaves 11234524  -- or %g4, %g0, %g7
    ∷ 0x8E114000 leaves 11234525  -- or %g5, %g0, %g7
    ∷ 0x8E100000 leaves 11234521  -- or %g0, %g0, %g7
    ∷ 0x8E102000 leaves 11234521  -- or %g0, 0, %g7
    ∷ 0x8E10A000 leaves 11234525  -- or %g2, 0, %g7
    ∷ 0x8E10E000 leaves 11234525  -- or %g3, 0, %g7
    ∷ 0x8E106000 leaves 11234521  -- or %g1, 0, %g7
    ∷ 0x8E104001 leaves 11234521  -- or %g1, %g1, %g7
    ∷ 0x8E108001 leaves 11234525  -- or %g2, %g1, %g7
    ∷ 0x8E104002 leaves 11234525  -- or %g1, %g2, %g7
    ∷ 0x8E110004 leaves 11234525  -- or %g4, %g4, %g7
    ∷ 0x8E900003 leaves 11234523  -- orcc %g0, %g3, %g7
    ∷ 0x8E910000 leaves 11234524  -- orcc %g4, %g0, %g7
    -- "logic .. of numbers"; ORN and XOR with r0 are no copies
    ∷ 0x8E084001 leaves 11234521  -- and %g1, %g1, %g7
    ∷ 0x8E086004 leaves 11234521  -- and %g1, 4, %g7
    ∷ 0x8E088001 leaves 11234525  -- and %g2, %g1, %g7
    ∷ 0x8E184001 leaves 11234521  -- xor %g1, %g1, %g7
    ∷ 0x8E186004 leaves 11234521  -- xor %g1, 4, %g7
    ∷ 0x8E188001 leaves 11234525  -- xor %g2, %g1, %g7
    ∷ 0x8E284001 leaves 11234521  -- andn %g1, %g1, %g7
    ∷ 0x8E286004 leaves 11234521  -- andn %g1, 4, %g7
    ∷ 0x8E288001 leaves 11234525  -- andn %g2, %g1, %g7
    ∷ 0x8E304001 leaves 11234521  -- orn %g1, %g1, %g7
    ∷ 0x8E306004 leaves 11234521  -- orn %g1, 4, %g7
    ∷ 0x8E308001 leaves 11234525  -- orn %g2, %g1, %g7
    ∷ 0x8E384001 leaves 11234521  -- xnor %g1, %g1, %g7
    ∷ 0x8E386004 leaves 11234521  -- xnor %g1, 4, %g7
    ∷ 0x8E388001 leaves 11234525  -- xnor %g2, %g1, %g7
    ∷ 0x8E188000 leaves 11234525  -- xor %g2, %g0, %g7
    ∷ 0x8E180002 leaves 11234525  -- xor %g0, %g2, %g7
    ∷ 0x8E300002 leaves 11234525  -- orn %g0, %g2, %g7
    ∷ 0x8E290000 leaves 11234525  -- andn %g4, %g0, %g7
    -- "shifts of numbers": value and count
    ∷ 0x8F286004 leaves 11234521  -- sll %g1, 4, %g7
    ∷ 0x8F284001 leaves 11234521  -- sll %g1, %g1, %g7
    ∷ 0x8F28A000 leaves 11234525  -- sll %g2, 0, %g7
    ∷ 0x8F306004 leaves 11234521  -- srl %g1, 4, %g7
    ∷ 0x8F304001 leaves 11234521  -- srl %g1, %g1, %g7
    ∷ 0x8F30A000 leaves 11234525  -- srl %g2, 0, %g7
    ∷ 0x8F386004 leaves 11234521  -- sra %g1, 4, %g7
    ∷ 0x8F384001 leaves 11234521  -- sra %g1, %g1, %g7
    ∷ 0x8F38A000 leaves 11234525  -- sra %g2, 0, %g7
    ∷ 0x8F284005 leaves 11234525  -- sll %g1, %g5, %g7
    -- "SETHI, narrow loads .. give number", whatever the address; LD is of "All else"
    ∷ 0x0F000001 leaves 11234521  -- sethi 1, %g7
    ∷ 0xCE08A000 leaves 11234521  -- ldub [%g2], %g7
    ∷ 0xCE094005 leaves 11234521  -- ldub [%g5 + %g5], %g7
    ∷ 0xCE10A000 leaves 11234521  -- lduh [%g2], %g7
    ∷ 0xCE114005 leaves 11234521  -- lduh [%g5 + %g5], %g7
    ∷ 0xCE48A000 leaves 11234521  -- ldsb [%g2], %g7
    ∷ 0xCE494005 leaves 11234521  -- ldsb [%g5 + %g5], %g7
    ∷ 0xCE50A000 leaves 11234521  -- ldsh [%g2], %g7
    ∷ 0xCE514005 leaves 11234521  -- ldsh [%g5 + %g5], %g7
    ∷ 0xCE00A000 leaves 11234525  -- ld [%g2], %g7
    ∷ 0xCE008001 leaves 11234525  -- ld [%g2 + %g1], %g7
    -- stores, transfers and writes to r0 change no mark
    ∷ 0xCE20A000 leaves 11234524  -- st %g7, [%g2]
    ∷ 0xCE28A000 leaves 11234524  -- stb %g7, [%g2]
    ∷ 0xCE30A000 leaves 11234524  -- sth %g7, [%g2]
    ∷ 0x10800002 leaves 11234524  -- ba 2
    ∷ 0x22800002 leaves 11234524  -- be,a 2
    ∷ 0x81C3E008 leaves 11234524  -- retl
    ∷ 0x01000000 leaves 11234524  -- nop
    ∷ 0x80008006 leaves 11234524  -- add %g2, %g6, %g0
    ∷ 0xC000A000 leaves 11234524  -- ld [%g2], %g0
    ∷ 0x00000000 leaves 11234524  -- no instruction
    ∷ []
