-- Words read and instructions written on each terminal (document 02, request 5): "format 00, bits 24:22 = 001, annul and condition as before, bits
-- 21:20 zero (the 32-bit codes), a prediction hint in bit 19, kept but with no effect, signed distance 18:0 in words". The words are those that GNU
-- as gives, and stand above each; a branch is told with its distance in words.
use Rattle.std.specs.Prelude.{ℕ, Bool, true, false, List, [], ◌∷◌, ◌++◌, map, Some, None}
use Rattle.v8.specs.Numbers.{not_read, privileged}
use Rattle.v8.specs.declared.BranchForm.TheVariants.{Predicted}
use Rattle.v8.specs.declared.Instruction.{Instruction}
use Rattle.v8.specs.declared.Instruction.TheVariants.{Branch}
use Rattle.v8.specs.declared.Reading.TheVariants.{Read, Unread}
use Rattle.trials.specs.Case.{Row, ◌gives◌, word, instruction, read_answer, write_answer, reads, writes, yields}
use Rattle.trials.specs.Words.{branch}

-- a predicted branch: its annul bit, its condition, its distance in words and its hint
abbrev pub predicted : Bool → ℕ → ℕ → Bool → Instruction
predicted annul cnd distance hint =
    Branch (record { annul = annul; cond = cnd; distance = record { 0 = distance }; form = Predicted hint })

-- a word and its instruction
infix 70 ◌is◌
pub data Coding : Type 0 where
  ◌is◌ : ℕ → Instruction → Coding

-- the word is read as the instruction, and that written as the word
abbrev pub coded_rows : List Coding → List Row
coded_rows [] = []
coded_rows (w is x ∷ more) = word w gives reads (Read x) ∷ instruction x gives writes (Some w) ∷ coded_rows more

-- neither: 2 and 17
abbrev pub uncoded_rows : List Coding → List Row
uncoded_rows [] = []
uncoded_rows (w is x ∷ more) = word w gives reads (Unread not_read) ∷ instruction x gives writes None ∷ uncoded_rows more

-- Predicted branches, all parts at both ends: read and written on the newer terminal; "2 covers .. the whole form on the older terminal", and no
-- word there stands for such an instruction.
abbrev pub predicted_branches : List Coding
predicted_branches =
    -- bn,pn %icc 0; bn,pt %icc 0; bn,a,pn %icc 1; bn,a,pt %icc -1
    0x00400000 is predicted false 0 0 false
    ∷ 0x00480000 is predicted false 0 0 true
    ∷ 0x20400001 is predicted true 0 1 false
    ∷ 0x204FFFFF is predicted true 0 0xFFFFFFFF true
    -- be,pn %icc 262143; be,pt %icc 1; be,a,pn %icc -1; be,a,pt %icc -262144
    ∷ 0x0243FFFF is predicted false 1 0x3FFFF false
    ∷ 0x02480001 is predicted false 1 1 true
    ∷ 0x2247FFFF is predicted true 1 0xFFFFFFFF false
    ∷ 0x224C0000 is predicted true 1 0xFFFC0000 true
    -- ba,pn %icc -262144; ba,pt %icc 0; ba,a,pn %icc 262143; ba,a,pt %icc 1
    ∷ 0x10440000 is predicted false 8 0xFFFC0000 false
    ∷ 0x10480000 is predicted false 8 0 true
    ∷ 0x3043FFFF is predicted true 8 0x3FFFF false
    ∷ 0x30480001 is predicted true 8 1 true
    -- bne,pn %icc -1; bne,pt %icc 262143; bne,a,pn %icc 0; bne,a,pt %icc -262144
    ∷ 0x1247FFFF is predicted false 9 0xFFFFFFFF false
    ∷ 0x124BFFFF is predicted false 9 0x3FFFF true
    ∷ 0x32400000 is predicted true 9 0 false
    ∷ 0x324C0000 is predicted true 9 0xFFFC0000 true
    -- bvc,pn %icc 1; bvc,pt %icc -262144; bvc,a,pn %icc -262144; bvc,a,pt %icc -1; bvc,a,pt %icc 262143
    ∷ 0x1E400001 is predicted false 15 1 false
    ∷ 0x1E4C0000 is predicted false 15 0xFFFC0000 true
    ∷ 0x3E440000 is predicted true 15 0xFFFC0000 false
    ∷ 0x3E4FFFFF is predicted true 15 0xFFFFFFFF true
    ∷ 0x3E4BFFFF is predicted true 15 0x3FFFF true
    ∷ []

-- Plain branches are read and written on both. Where a predicted branch has other codes or its hint, bits 21:19, these have distance.
abbrev pub plain_branches : List Coding
plain_branches =
    -- bn 0; be 1; be,a -1; ba 0; bne,a 0; bvc,a -1
    0x00800000 is branch false 0 0
    ∷ 0x02800001 is branch false 1 1
    ∷ 0x22BFFFFF is branch true 1 0xFFFFFFFF
    ∷ 0x10800000 is branch false 8 0
    ∷ 0x32800000 is branch true 9 0
    ∷ 0x3EBFFFFF is branch true 15 0xFFFFFFFF
    -- ba 2^19; ba 2^19 - 1; ba -2^19; ba 2^20; ba,a -2^20; bvc,a 2^21 - 1; bn -2^21
    ∷ 0x10880000 is branch false 8 0x80000
    ∷ 0x1087FFFF is branch false 8 0x7FFFF
    ∷ 0x10B80000 is branch false 8 0xFFF80000
    ∷ 0x10900000 is branch false 8 0x100000
    ∷ 0x30B00000 is branch true 8 0xFFF00000
    ∷ 0x3E9FFFFF is branch true 15 0x1FFFFF
    ∷ 0x00A00000 is branch false 0 0xFFE00000
    ∷ []

-- words that neither terminal reads
abbrev pub unread_words : List ℕ
unread_words =
    -- "2 covers this branch with other codes": bits 21:20 = 01, 10, 11; the second is %xcc
    -- never, first with all bits of hint and distance clear, then with these set
    0x00500000 ∷ 0x00600000 ∷ 0x00700000 ∷ 0x005FFFFF ∷ 0x006FFFFF ∷ 0x007FFFFF
    -- always, and always with annul
    ∷ 0x10500000 ∷ 0x10600000 ∷ 0x10700000 ∷ 0x305FFFFF ∷ 0x306FFFFF ∷ 0x307FFFFF
    -- be, and bvc with annul
    ∷ 0x02580001 ∷ 0x02680001 ∷ 0x02780001 ∷ 0x3E5FFFFF ∷ 0x3E6FFFFF ∷ 0x3E7FFFFF
    -- beside the form: bits 24:22 = 000, 011, 101, 110, 111, the others as in ba,pt %icc 0, all clear, all set
    ∷ 0x10080000 ∷ 0x10C80000 ∷ 0x11480000 ∷ 0x11880000 ∷ 0x11C80000
    ∷ 0x00000000 ∷ 0x00C00000 ∷ 0x01400000 ∷ 0x01800000 ∷ 0x01C00000
    ∷ 0x3E3FFFFF ∷ 0x3EFFFFFF ∷ 0x3F7FFFFF ∷ 0x3FBFFFFF ∷ 0x3FFFFFFF
    -- brz,pt %g1, 2; fba,pt %fcc0, 2
    ∷ 0x02C84002 ∷ 0x11480002
    -- done; retry: privileged in Version 9, and not in the list of 24
    ∷ 0x81F00000 ∷ 0x83F00000
    -- sllx %g1, 2, %g3; move %icc, %g1, %g3; ldsw [%g1], %g3; ldx [%g1], %g3; stx %g3, [%g1]
    ∷ 0x87287002 ∷ 0x87644001 ∷ 0xC6404000 ∷ 0xC6584000 ∷ 0xC6704000
    ∷ []

-- "24 keeps its list on both": return %i7 + 8; flushw; rdpr %pstate, %g1; wrpr %g1, 0, %pstate; lda [%g1] 16, %g3
abbrev pub privileged_words : List ℕ
privileged_words = 0x81CFE008 ∷ 0x81580000 ∷ 0x83518000 ∷ 0x8D906000 ∷ 0xC6804200 ∷ []

-- on the newer terminal; the numbers of the answers too
abbrev pub newer_rows : List Row
newer_rows =
    coded_rows predicted_branches
    ++ read_answer 0x10480000 gives yields 0
    ∷ read_answer 0x10400000 gives yields 0
    ∷ write_answer (predicted false 8 0 true) gives yields 0
    ∷ write_answer (predicted false 8 0 false) gives yields 0
    ∷ []

-- on the older terminal
abbrev pub older_rows : List Row
older_rows =
    uncoded_rows predicted_branches
    ++ read_answer 0x10480000 gives yields 2
    ∷ read_answer 0x10400000 gives yields 2
    ∷ write_answer (predicted false 8 0 true) gives yields 17
    ∷ write_answer (predicted false 8 0 false) gives yields 17
    ∷ []

-- on both
abbrev pub alike_rows : List Row
alike_rows =
    coded_rows plain_branches
    ++ map (λ (w : ℕ). word w gives reads (Unread not_read)) unread_words
    ++ map (λ (w : ℕ). word w gives reads (Unread privileged)) privileged_words
    -- predicted branches with a part out of range: distances 2^18 and -2^18 - 1, which plain ones have, and condition 16
    ++ instruction (predicted false 8 0x40000 false) gives writes None
    ∷ instruction (predicted true 8 0x40000 true) gives writes None
    ∷ instruction (predicted false 8 0xFFFBFFFF false) gives writes None
    ∷ instruction (predicted true 8 0xFFFBFFFF true) gives writes None
    ∷ instruction (predicted false 16 0 false) gives writes None
    ∷ instruction (predicted true 16 0 true) gives writes None
    ∷ instruction (branch false 8 0x40000) gives writes (Some 0x10840000)
    ∷ instruction (branch false 8 0xFFFBFFFF) gives writes (Some 0x10BBFFFF)
    ∷ instruction (branch false 16 0) gives writes None
    -- the numbers of the answers
    ∷ read_answer 0x10600000 gives yields 2
    ∷ read_answer 0x10800000 gives yields 0
    ∷ read_answer 0x81580000 gives yields 24
    ∷ write_answer (predicted false 8 0x40000 true) gives yields 17
    ∷ write_answer (branch false 8 0) gives yields 0
    ∷ []
