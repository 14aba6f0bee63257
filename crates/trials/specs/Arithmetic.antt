-- Results, codes and conditions as V8 gives them: ADDcc and SUBcc on the words at the corners (0, 1, the largest and the
-- smallest signed number, all ones), the logical operations, shifts with counts beyond 31, and each of the sixteen conditions
-- on all sixteen codes. The expected numbers are computed from V8's tables with unbounded integers.
use Rattle.std.specs.Prelude.{List, [], ◌∷◌}
use Rattle.v8.specs.declared.AluOp.TheVariants.{Add, And, Or, Xor, Sub, Andn, Orn, Xnor}
use Rattle.v8.specs.declared.ShiftOp.TheVariants.{Sll, Srl, Sra}
use Rattle.trials.specs.Case.{Row, ◌gives◌, operation, shift, condition, sets, yields, meets}

-- ADDcc: the sum, and the codes NZVC
abbrev pub addition_rows : List Row
addition_rows =
    operation Add 0x0 0x0 gives sets 0x0 0x4
    ∷ operation Add 0x0 0x1 gives sets 0x1 0x0
    ∷ operation Add 0x0 0x7FFFFFFF gives sets 0x7FFFFFFF 0x0
    ∷ operation Add 0x0 0x80000000 gives sets 0x80000000 0x8
    ∷ operation Add 0x0 0xFFFFFFFF gives sets 0xFFFFFFFF 0x8
    ∷ operation Add 0x1 0x0 gives sets 0x1 0x0
    ∷ operation Add 0x1 0x1 gives sets 0x2 0x0
    ∷ operation Add 0x1 0x7FFFFFFF gives sets 0x80000000 0xA
    ∷ operation Add 0x1 0x80000000 gives sets 0x80000001 0x8
    ∷ operation Add 0x1 0xFFFFFFFF gives sets 0x0 0x5
    ∷ operation Add 0x7FFFFFFF 0x0 gives sets 0x7FFFFFFF 0x0
    ∷ operation Add 0x7FFFFFFF 0x1 gives sets 0x80000000 0xA
    ∷ operation Add 0x7FFFFFFF 0x7FFFFFFF gives sets 0xFFFFFFFE 0xA
    ∷ operation Add 0x7FFFFFFF 0x80000000 gives sets 0xFFFFFFFF 0x8
    ∷ operation Add 0x7FFFFFFF 0xFFFFFFFF gives sets 0x7FFFFFFE 0x1
    ∷ operation Add 0x80000000 0x0 gives sets 0x80000000 0x8
    ∷ operation Add 0x80000000 0x1 gives sets 0x80000001 0x8
    ∷ operation Add 0x80000000 0x7FFFFFFF gives sets 0xFFFFFFFF 0x8
    ∷ operation Add 0x80000000 0x80000000 gives sets 0x0 0x7
    ∷ operation Add 0x80000000 0xFFFFFFFF gives sets 0x7FFFFFFF 0x3
    ∷ operation Add 0xFFFFFFFF 0x0 gives sets 0xFFFFFFFF 0x8
    ∷ operation Add 0xFFFFFFFF 0x1 gives sets 0x0 0x5
    ∷ operation Add 0xFFFFFFFF 0x7FFFFFFF gives sets 0x7FFFFFFE 0x1
    ∷ operation Add 0xFFFFFFFF 0x80000000 gives sets 0x7FFFFFFF 0x3
    ∷ operation Add 0xFFFFFFFF 0xFFFFFFFF gives sets 0xFFFFFFFE 0x9
    ∷ []

-- SUBcc: the difference, and the codes NZVC; C is the borrow
abbrev pub subtraction_rows : List Row
subtraction_rows =
    operation Sub 0x0 0x0 gives sets 0x0 0x4
    ∷ operation Sub 0x0 0x1 gives sets 0xFFFFFFFF 0x9
    ∷ operation Sub 0x0 0x7FFFFFFF gives sets 0x80000001 0x9
    ∷ operation Sub 0x0 0x80000000 gives sets 0x80000000 0xB
    ∷ operation Sub 0x0 0xFFFFFFFF gives sets 0x1 0x1
    ∷ operation Sub 0x1 0x0 gives sets 0x1 0x0
    ∷ operation Sub 0x1 0x1 gives sets 0x0 0x4
    ∷ operation Sub 0x1 0x7FFFFFFF gives sets 0x80000002 0x9
    ∷ operation Sub 0x1 0x80000000 gives sets 0x80000001 0xB
    ∷ operation Sub 0x1 0xFFFFFFFF gives sets 0x2 0x1
    ∷ operation Sub 0x7FFFFFFF 0x0 gives sets 0x7FFFFFFF 0x0
    ∷ operation Sub 0x7FFFFFFF 0x1 gives sets 0x7FFFFFFE 0x0
    ∷ operation Sub 0x7FFFFFFF 0x7FFFFFFF gives sets 0x0 0x4
    ∷ operation Sub 0x7FFFFFFF 0x80000000 gives sets 0xFFFFFFFF 0xB
    ∷ operation Sub 0x7FFFFFFF 0xFFFFFFFF gives sets 0x80000000 0xB
    ∷ operation Sub 0x80000000 0x0 gives sets 0x80000000 0x8
    ∷ operation Sub 0x80000000 0x1 gives sets 0x7FFFFFFF 0x2
    ∷ operation Sub 0x80000000 0x7FFFFFFF gives sets 0x1 0x2
    ∷ operation Sub 0x80000000 0x80000000 gives sets 0x0 0x4
    ∷ operation Sub 0x80000000 0xFFFFFFFF gives sets 0x80000001 0x9
    ∷ operation Sub 0xFFFFFFFF 0x0 gives sets 0xFFFFFFFF 0x8
    ∷ operation Sub 0xFFFFFFFF 0x1 gives sets 0xFFFFFFFE 0x8
    ∷ operation Sub 0xFFFFFFFF 0x7FFFFFFF gives sets 0x80000000 0x8
    ∷ operation Sub 0xFFFFFFFF 0x80000000 gives sets 0x7FFFFFFF 0x0
    ∷ operation Sub 0xFFFFFFFF 0xFFFFFFFF gives sets 0x0 0x4
    ∷ []

-- the logical operations; V and C are 0
abbrev pub logic_rows : List Row
logic_rows =
    operation And 0xF0F0F0F0 0xFF00FF00 gives sets 0xF000F000 0x8
    ∷ operation And 0xF0F0F0F 0xF0F0F0F gives sets 0xF0F0F0F 0x0
    ∷ operation And 0x80000000 0x7FFFFFFF gives sets 0x0 0x4
    ∷ operation Or 0xF0F0F0F0 0xFF00FF00 gives sets 0xFFF0FFF0 0x8
    ∷ operation Or 0xF0F0F0F 0xF0F0F0F gives sets 0xF0F0F0F 0x0
    ∷ operation Or 0x80000000 0x7FFFFFFF gives sets 0xFFFFFFFF 0x8
    ∷ operation Xor 0xF0F0F0F0 0xFF00FF00 gives sets 0xFF00FF0 0x0
    ∷ operation Xor 0xF0F0F0F 0xF0F0F0F gives sets 0x0 0x4
    ∷ operation Xor 0x80000000 0x7FFFFFFF gives sets 0xFFFFFFFF 0x8
    ∷ operation Andn 0xF0F0F0F0 0xFF00FF00 gives sets 0xF000F0 0x0
    ∷ operation Andn 0xF0F0F0F 0xF0F0F0F gives sets 0x0 0x4
    ∷ operation Andn 0x80000000 0x7FFFFFFF gives sets 0x80000000 0x8
    ∷ operation Orn 0xF0F0F0F0 0xFF00FF00 gives sets 0xF0FFF0FF 0x8
    ∷ operation Orn 0xF0F0F0F 0xF0F0F0F gives sets 0xFFFFFFFF 0x8
    ∷ operation Orn 0x80000000 0x7FFFFFFF gives sets 0x80000000 0x8
    ∷ operation Xnor 0xF0F0F0F0 0xFF00FF00 gives sets 0xF00FF00F 0x8
    ∷ operation Xnor 0xF0F0F0F 0xF0F0F0F gives sets 0xFFFFFFFF 0x8
    ∷ operation Xnor 0x80000000 0x7FFFFFFF gives sets 0x0 0x4
    ∷ []

-- shifts; the count is taken modulo 32
abbrev pub shift_rows : List Row
shift_rows =
    shift Sll 0x1 31 gives yields 0x80000000
    ∷ shift Sll 0x80000001 1 gives yields 0x2
    ∷ shift Sll 0x80000001 0 gives yields 0x80000001
    ∷ shift Sll 0x80000001 32 gives yields 0x80000001
    ∷ shift Sll 0xFFFFFFFF 24 gives yields 0xFF000000
    ∷ shift Sll 0x7FFFFFFF 0xFFFFFFFF gives yields 0x80000000
    ∷ shift Srl 0x1 31 gives yields 0x0
    ∷ shift Srl 0x80000001 1 gives yields 0x40000000
    ∷ shift Srl 0x80000001 0 gives yields 0x80000001
    ∷ shift Srl 0x80000001 32 gives yields 0x80000001
    ∷ shift Srl 0xFFFFFFFF 24 gives yields 0xFF
    ∷ shift Srl 0x7FFFFFFF 0xFFFFFFFF gives yields 0x0
    ∷ shift Sra 0x1 31 gives yields 0x0
    ∷ shift Sra 0x80000001 1 gives yields 0xC0000000
    ∷ shift Sra 0x80000001 0 gives yields 0x80000001
    ∷ shift Sra 0x80000001 32 gives yields 0x80000001
    ∷ shift Sra 0xFFFFFFFF 24 gives yields 0xFFFFFFFF
    ∷ shift Sra 0x7FFFFFFF 0xFFFFFFFF gives yields 0x0
    ∷ []

-- the sixteen conditions: bn be ble bl bleu bcs bneg bvs, ba bne bg bge bgu bcc bpos bvc
abbrev pub condition_rows : List Row
condition_rows =
    condition 0 gives meets 0x0000
    ∷ condition 1 gives meets 0xF0F0
    ∷ condition 2 gives meets 0xF3FC
    ∷ condition 3 gives meets 0x33CC
    ∷ condition 4 gives meets 0xFAFA
    ∷ condition 5 gives meets 0xAAAA
    ∷ condition 6 gives meets 0xFF00
    ∷ condition 7 gives meets 0xCCCC
    ∷ condition 8 gives meets 0xFFFF
    ∷ condition 9 gives meets 0x0F0F
    ∷ condition 10 gives meets 0x0C03
    ∷ condition 11 gives meets 0xCC33
    ∷ condition 12 gives meets 0x0505
    ∷ condition 13 gives meets 0x5555
    ∷ condition 14 gives meets 0x00FF
    ∷ condition 15 gives meets 0x3333
    ∷ []
