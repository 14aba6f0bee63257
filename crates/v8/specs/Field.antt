-- The bit fields of a word, by the manuals' names (V8, appendix B and figure of the instruction formats; V9's of the predicted branch; document
-- 01, "Words we read").
use Rattle.std.specs.Prelude.{ℕ, ◌+◌, ◌-◌, ◌/◌, ◌%◌, ◌^◌}

-- bits high:low of a word
abbrev pub bits : ℕ → ℕ → ℕ → ℕ
bits high low w = w / 2 ^ low % 2 ^ (high + 1 - low)

-- bits 31:30, the format: a word has no higher bits, so that a number with some has no format
abbrev pub op_of : ℕ → ℕ
op_of w = w / 2 ^ 30

abbrev pub rd_of : ℕ → ℕ
rd_of w = bits 29 25 w

abbrev pub annul_of : ℕ → ℕ
annul_of w = bits 29 29 w

abbrev pub cond_of : ℕ → ℕ
cond_of w = bits 28 25 w

abbrev pub op2_of : ℕ → ℕ
op2_of w = bits 24 22 w

-- SETHI's number, and a branch's distance
abbrev pub low22_of : ℕ → ℕ
low22_of w = bits 21 0 w

-- of a predicted branch (V9, BPcc): which codes it tests, its hint, its distance
abbrev pub cc_of : ℕ → ℕ
cc_of w = bits 21 20 w

abbrev pub predict_of : ℕ → ℕ
predict_of w = bits 19 19 w

abbrev pub low19_of : ℕ → ℕ
low19_of w = bits 18 0 w

abbrev pub op3_of : ℕ → ℕ
op3_of w = bits 24 19 w

abbrev pub rs1_of : ℕ → ℕ
rs1_of w = bits 18 14 w

abbrev pub i_of : ℕ → ℕ
i_of w = bits 13 13 w

-- the bits 12:5, which V8 leaves unused with i = 0
abbrev pub unused_of : ℕ → ℕ
unused_of w = bits 12 5 w

abbrev pub rs2_of : ℕ → ℕ
rs2_of w = bits 4 0 w

abbrev pub simm13_of : ℕ → ℕ
simm13_of w = bits 12 0 w
