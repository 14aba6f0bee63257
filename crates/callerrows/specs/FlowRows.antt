-- Words in the flow pass (document 02, request 6): "A word that would write r14 or r16 to r31 is refused, also in an annulled slot. .. 25, with its
-- word and that register, in the flow pass .., after 3 at the same word." The words are those that GNU as gives, and stand above each row; a branch
-- is told with the word that it lands on.
use Rattle.std.specs.Prelude.{ℕ, ◌+◌, ◌*◌, List, [], ◌∷◌, ◌++◌, map}
use Rattle.callerrows.specs.Case.{Row, answered}

-- a word whose destination is rd, then retl and nop
abbrev pub to : ℕ → ℕ → List ℕ
to word rd = (word + 33554432 * rd) ∷ 0x81C3E008 ∷ 0x01000000 ∷ []

-- the registers that a routine may write: the global ones, the out ones but r14, the stack pointer
abbrev pub free : List ℕ
free = 0 ∷ 1 ∷ 2 ∷ 3 ∷ 4 ∷ 5 ∷ 6 ∷ 7 ∷ 8 ∷ 9 ∷ 10 ∷ 11 ∷ 12 ∷ 13 ∷ 15 ∷ []

-- .. and those that are the caller's: the stack pointer, the local ones and the in ones
abbrev pub callers : List ℕ
callers = 14 ∷ 16 ∷ 17 ∷ 18 ∷ 19 ∷ 20 ∷ 21 ∷ 22 ∷ 23 ∷ 24 ∷ 25 ∷ 26 ∷ 27 ∷ 28 ∷ 29 ∷ 30 ∷ 31 ∷ []

-- a word with each register as its destination: one that it writes; one that it reads, as a store does
abbrev pub written : ℕ → List Row
written word = map (λ (r : ℕ). answered (to word r) 0 0 0) free ++ map (λ (r : ℕ). answered (to word r) 25 0 r) callers

abbrev pub stored : ℕ → List Row
stored word = map (λ (r : ℕ). answered (to word r) 0 0 0) (free ++ callers)

-- each sort of word, with r0 as its operands
abbrev pub register_rows : List Row
register_rows =
    -- sethi
    written 0x01000000
    -- add, and, or, xor, sub, andn, orn, xnor
    ++ written 0x80000000
    ++ written 0x80080000
    ++ written 0x80100000
    ++ written 0x80180000
    ++ written 0x80200000
    ++ written 0x80280000
    ++ written 0x80300000
    ++ written 0x80380000
    -- addcc, andcc, orcc, xorcc, subcc, andncc, orncc, xnorcc
    ++ written 0x80800000
    ++ written 0x80880000
    ++ written 0x80900000
    ++ written 0x80980000
    ++ written 0x80A00000
    ++ written 0x80A80000
    ++ written 0x80B00000
    ++ written 0x80B80000
    -- sll, srl, sra
    ++ written 0x81280000
    ++ written 0x81300000
    ++ written 0x81380000
    -- ld, ldub, lduh, ldsb, ldsh
    ++ written 0xC0000000
    ++ written 0xC0080000
    ++ written 0xC0100000
    ++ written 0xC0480000
    ++ written 0xC0500000
    -- st, stb, sth
    ++ stored 0xC0200000
    ++ stored 0xC0280000
    ++ stored 0xC0300000

abbrev pub place_rows : List Row
place_rows =
    -- an address is read, of a store and of a load: st %g1, [%l0 + %i1]; ld [%sp + 4], %g1
    answered (0xC2240019 ∷ 0xC203A004 ∷ 0x81C3E008 ∷ 0x01000000 ∷ []) 0 0 0
    -- cmp %l0, 4, which writes r0
    ∷ answered (0x80A42004 ∷ 0x81C3E008 ∷ 0x01000000 ∷ []) 0 0 0
    -- a branch has no destination, though its bits stand there: ba,a 2; nop; retl; nop
    ∷ answered (0x30800002 ∷ 0x01000000 ∷ 0x81C3E008 ∷ 0x01000000 ∷ []) 0 0 0
    -- in a slot, of a branch and of a return: ba 0; sethi 0, %l0, and retl; sethi 0, %l0
    ∷ answered (0x10800000 ∷ 0x21000000 ∷ []) 25 1 16
    ∷ answered (0x81C3E008 ∷ 0x21000000 ∷ []) 25 1 16
    -- "also in an annulled slot", which never runs: ba,a 0; sethi 0, %l0, and bn,a 0; sethi 0, %l0; retl; nop
    ∷ answered (0x30800000 ∷ 0x21000000 ∷ []) 25 1 16
    ∷ answered (0x20800000 ∷ 0x21000000 ∷ 0x81C3E008 ∷ 0x01000000 ∷ []) 25 1 16
    -- .. or does where the branch is taken: be,a 0; sethi 0, %l0; retl; nop
    ∷ answered (0x22800000 ∷ 0x21000000 ∷ 0x81C3E008 ∷ 0x01000000 ∷ []) 25 1 16
    -- a slot that a branch lands on: ba 1; sethi 0, %l0; retl; nop
    ∷ answered (0x10800001 ∷ 0x21000000 ∷ 0x81C3E008 ∷ 0x01000000 ∷ []) 25 1 16
    -- a word that nothing reaches: retl; nop; sethi 0, %l0; retl; nop
    ∷ answered (0x81C3E008 ∷ 0x01000000 ∷ 0x21000000 ∷ 0x81C3E008 ∷ 0x01000000 ∷ []) 25 2 16
    -- the lowest word is named: sethi 0, %i7; sethi 0, %sp; retl; nop
    ∷ answered (0x3F000000 ∷ 0x1D000000 ∷ 0x81C3E008 ∷ 0x01000000 ∷ []) 25 0 31
    -- "after 3 at the same word": the last word, sethi 0, %l0; a slot that a branch lands on, and no word behind it, ba 1; sethi 0, %l0
    ∷ answered (0x21000000 ∷ []) 3 0 0
    ∷ answered (0x10800001 ∷ 0x21000000 ∷ []) 3 1 0
    -- 25 at a lower word: sethi 0, %l0; ba 9; nop
    ∷ answered (0x21000000 ∷ 0x10800008 ∷ 0x01000000 ∷ []) 25 0 16
    -- 3 at a lower word: ba 9; sethi 0, %l0
    ∷ answered (0x10800009 ∷ 0x21000000 ∷ []) 3 0 0
    ∷ []
