-- What operations and shifts make of entries (document 01, "What each word does to a row", rules 1 to 6).
use Rattle.std.specs.Prelude.{ℕ, List, [], ◌∷◌, ◌++◌, replicate}
use Rattle.v8.specs.Signed.{bias}
use Rattle.v8.specs.declared.AluOp.{AluOp}
use Rattle.v8.specs.declared.AluOp.TheVariants.{Add, And, Or, Xor, Sub, Andn, Orn, Xnor}
use Rattle.v8.specs.declared.ShiftOp.TheVariants.{Sll, Srl, Sra}
use Rattle.rows.specs.declared.Entry.{Entry}
use Rattle.rules.specs.declared.Result.TheVariants.{Gives, Fails}
use Rattle.trials.specs.Case.{Row, ◌gives◌, Given, Outcome, entries, shifted_entry, makes}
use Rattle.trials.specs.Entries.{above, below, least, most, num, just, any_number, addr, at, start_or_null, return_address}

-- an operation on two entries, where there are two regions, of 16 and of 8 bytes
abbrev pub of : AluOp → Entry → Entry → Given
of op a b = entries (16 ∷ 8 ∷ replicate 6 0) op a b

-- the entry made; the number of the condition broken
abbrev pub entry : Entry → Outcome
entry e = makes (Gives e)

abbrev pub fails : ℕ → Outcome
fails n = makes (Fails n)

-- 0, 4, .. 36
abbrev pub fours : Entry
fours = num 4 bias (above 36)

-- 0, 8
abbrev pub pair : Entry
pair = num 8 bias (above 8)

-- 1. "All operands single numbers: the number V8 gives."
abbrev pub single_rows : List Row
single_rows =
    of Add (just most) (just (above 1)) gives entry (just least)
    ∷ of Add (just (below 5)) (just (above 9)) gives entry (just (above 4))
    ∷ of Sub (just least) (just (above 1)) gives entry (just most)
    ∷ of Sub (just bias) (just least) gives entry (just least)
    ∷ of And (just (below 1)) (just (above 5)) gives entry (just (above 5))
    ∷ of And (just (below 2)) (just (below 3)) gives entry (just (below 4))
    ∷ of Or (just (above 8)) (just (above 1)) gives entry (just (above 9))
    ∷ of Or (just bias) (just bias) gives entry (just bias)
    ∷ of Xor (just (above 6)) (just (above 5)) gives entry (just (above 3))
    ∷ of Andn (just (above 7)) (just (above 2)) gives entry (just (above 5))
    ∷ of Orn (just bias) (just bias) gives entry (just (below 1))
    ∷ of Xnor (just (above 5)) (just (above 5)) gives entry (just (below 1))
    -- shifts too, the count modulo 32
    ∷ shifted_entry Sll (just (above 1)) (just (above 31)) gives entry (just least)
    ∷ shifted_entry Srl (just (below 1)) (just (above 33)) gives entry (just most)
    ∷ shifted_entry Sra (just (below 8)) (just (above 1)) gives entry (just (below 4))
    ∷ shifted_entry Sra (just (below 8)) (just (below 1)) gives entry (just (below 1))
    ∷ []

-- 2. "OR, ORcc with one operand the single 0: the other operand's entry"
abbrev pub move_rows : List Row
move_rows =
    of Or (just bias) fours gives entry fours
    ∷ of Or fours (just bias) gives entry fours
    ∷ of Or (just bias) (addr 0 4 bias (above 8)) gives entry (addr 0 4 bias (above 8))
    ∷ of Or (addr 0 4 bias (above 8)) (just bias) gives entry (addr 0 4 bias (above 8))
    ∷ of Or (just bias) (start_or_null 1) gives entry (start_or_null 1)
    ∷ of Or (start_or_null 1) (just bias) gives entry (start_or_null 1)
    ∷ of Or (just bias) return_address gives entry return_address
    ∷ of Or return_address (just bias) gives entry return_address
    -- not with another number, and not by another operation
    ∷ of Or (just (above 8)) (start_or_null 1) gives fails 6
    ∷ of Or (at 0 0) (just (above 8)) gives fails 6
    ∷ of Or pair return_address gives fails 6
    ∷ of Xor (just bias) return_address gives fails 6
    ∷ of Andn (at 0 0) (just bias) gives fails 6
    ∷ []

-- 3. ADD and SUB on numbers
abbrev pub sum_rows : List Row
sum_rows =
    -- the smaller step; a single number's is 8
    of Add fours pair gives entry (num 4 bias (above 44))
    ∷ of Add pair fours gives entry (num 4 bias (above 44))
    ∷ of Add pair (just (above 3)) gives entry (num 8 (above 3) (above 11))
    ∷ of Add (num 1 bias (above 3)) fours gives entry (num 1 bias (above 39))
    ∷ of Sub fours pair gives entry (num 4 (below 8) (above 36))
    ∷ of Sub (just (above 10)) fours gives entry (num 4 (below 26) (above 10))
    ∷ of Sub fours (just (above 9)) gives entry (num 4 (below 9) (above 27))
    ∷ of Sub pair pair gives entry (num 8 (below 8) (above 8))
    -- the ends at the ends of 32 bits, and one beyond: full
    ∷ of Add (num 1 bias (above 2147483646)) (just (above 1)) gives entry (num 1 (above 1) most)
    ∷ of Add (num 1 bias most) (just (above 1)) gives entry any_number
    ∷ of Add (num 1 (below 2147483647) bias) (just (below 1)) gives entry (num 1 least (below 1))
    ∷ of Add (num 1 least bias) (just (below 1)) gives entry any_number
    ∷ of Sub (num 1 bias (above 9)) (just (below 2147483638)) gives entry (num 1 (above 2147483638) most)
    ∷ of Sub (num 1 bias (above 10)) (just (below 2147483638)) gives entry any_number
    ∷ of Sub (num 8 least bias) (just (above 8)) gives entry any_number
    ∷ of Sub pair any_number gives entry any_number
    ∷ of Add any_number (just bias) gives entry any_number
    ∷ of Add any_number any_number gives entry any_number
    ∷ []

-- 4. addresses and kind 3
abbrev pub offset_rows : List Row
offset_rows =
    -- address plus number, number plus address, address minus number
    of Add (at 0 0) (num 4 bias (above 12)) gives entry (addr 0 4 bias (above 12))
    ∷ of Add (num 4 bias (above 12)) (at 0 4) gives entry (addr 0 4 (above 4) (above 16))
    ∷ of Add (addr 0 8 bias (above 8)) (num 4 bias (above 8)) gives entry (addr 0 4 bias (above 16))
    ∷ of Add (at 1 3) (just (below 3)) gives entry (at 1 0)
    ∷ of Sub (at 0 8) (num 4 bias (above 8)) gives entry (addr 0 4 bias (above 8))
    ∷ of Sub (at 1 0) (just (below 8)) gives entry (at 1 8)
    -- "16 result offset below 0 or above size", which the size itself is not
    ∷ of Add (at 0 0) (just (above 16)) gives entry (at 0 16)
    ∷ of Add (at 0 0) (just (above 17)) gives fails 16
    ∷ of Add (at 1 0) (just (above 16)) gives fails 16
    ∷ of Add (at 0 0) (just (below 1)) gives fails 16
    ∷ of Add (num 8 bias (above 16)) (addr 0 8 bias (above 8)) gives fails 16
    ∷ of Sub (at 0 8) (num 1 bias (above 9)) gives fails 16
    ∷ of Sub (at 0 8) (just (below 9)) gives fails 16
    ∷ of Add (at 0 16) any_number gives fails 16
    ∷ of Sub (at 0 16) any_number gives fails 16
    -- number minus address, two addresses, the return address
    ∷ of Sub (just (above 8)) (at 0 0) gives fails 6
    ∷ of Add (at 0 0) (at 0 0) gives fails 6
    ∷ of Sub (at 0 8) (at 0 8) gives fails 6
    ∷ of Add return_address (just bias) gives fails 6
    ∷ of Sub return_address (just bias) gives fails 6
    -- "Kind 3 minus single 0 stays kind 3": not plus 0, not minus another number
    ∷ of Sub (start_or_null 1) (just bias) gives entry (start_or_null 1)
    ∷ of Sub (start_or_null 1) (just (above 8)) gives fails 6
    ∷ of Sub (start_or_null 1) pair gives fails 6
    ∷ of Sub (just bias) (start_or_null 1) gives fails 6
    ∷ of Add (start_or_null 1) (just bias) gives fails 6
    ∷ of Add (just bias) (start_or_null 1) gives fails 6
    ∷ []

-- 5. "AND on numbers: from 0 to the smaller hi of the operands with lo ≥ 0, step 1; full if neither. Other logic on numbers: full."
abbrev pub logic_set_rows : List Row
logic_set_rows =
    of And fours (num 1 bias (above 7)) gives entry (num 1 bias (above 7))
    ∷ of And (num 1 (above 5) (above 7)) fours gives entry (num 1 bias (above 7))
    ∷ of And any_number (just (above 255)) gives entry (num 1 bias (above 255))
    ∷ of And (just (above 255)) any_number gives entry (num 1 bias (above 255))
    ∷ of And (num 4 (below 4) (above 4)) fours gives entry (num 1 bias (above 36))
    -- 0 alone takes step 8
    ∷ of And fours (just bias) gives entry (just bias)
    ∷ of And (just bias) any_number gives entry (just bias)
    -- neither
    ∷ of And any_number (just (below 1)) gives entry any_number
    ∷ of And (num 4 (below 4) (above 4)) (num 4 (below 4) (above 4)) gives entry any_number
    -- the others, also where a smaller set is plain
    ∷ of Or fours pair gives entry any_number
    ∷ of Or fours (just (above 1)) gives entry any_number
    ∷ of Xor fours pair gives entry any_number
    ∷ of Xor fours (just bias) gives entry any_number
    ∷ of Andn fours (just bias) gives entry any_number
    ∷ of Orn fours (just (below 1)) gives entry any_number
    ∷ of Xnor fours (just (below 1)) gives entry any_number
    -- no logic on addresses
    ∷ of And (at 0 8) (just (below 8)) gives fails 6
    ∷ of And fours (start_or_null 1) gives fails 6
    ∷ of Xor (at 0 8) fours gives fails 6
    ∷ of Orn return_address fours gives fails 6
    ∷ of Xnor fours return_address gives fails 6
    ∷ []

-- 6. "Shifts of numbers by a single count s"
abbrev pub shift_set_rows : List Row
shift_set_rows =
    -- SLL: the step grows up to 8
    shifted_entry Sll (num 2 bias (above 6)) (just (above 1)) gives entry (num 4 bias (above 12))
    ∷ shifted_entry Sll (num 1 (below 5) (above 5)) (just (above 3)) gives entry (num 8 (below 40) (above 40))
    ∷ shifted_entry Sll pair (just (above 3)) gives entry (num 8 bias (above 64))
    ∷ shifted_entry Sll (num 2 bias (above 6)) (just bias) gives entry (num 2 bias (above 6))
    -- full if an end leaves the signed 32 bits
    ∷ shifted_entry Sll (num 8 (below 1073741824) (above 1073741816)) (just (above 1)) gives entry (num 8 least (above 2147483632))
    ∷ shifted_entry Sll (num 8 bias (above 1073741824)) (just (above 1)) gives entry any_number
    ∷ shifted_entry Sll (num 8 (below 1073741832) bias) (just (above 1)) gives entry any_number
    ∷ shifted_entry Sll (num 1 bias (above 1)) (just (above 31)) gives entry any_number
    ∷ shifted_entry Sll (num 1 (below 1) bias) (just (above 31)) gives entry (num 8 least bias)
    ∷ shifted_entry Sll any_number (just bias) gives entry any_number
    -- SRA: rounding down, step 1 by 0 too; one member left
    ∷ shifted_entry Sra (num 1 (below 7) (above 7)) (just (above 1)) gives entry (num 1 (below 4) (above 3))
    ∷ shifted_entry Sra (num 4 bias (above 8)) (just bias) gives entry (num 1 bias (above 8))
    ∷ shifted_entry Sra (num 1 bias (above 7)) (just (above 3)) gives entry (just bias)
    ∷ shifted_entry Sra (num 1 (below 8) (below 1)) (just (above 3)) gives entry (just (below 1))
    ∷ shifted_entry Sra any_number (just (above 31)) gives entry (num 1 (below 1) bias)
    -- SRL: as SRA if lo ≥ 0
    ∷ shifted_entry Srl fours (just (above 2)) gives entry (num 1 bias (above 9))
    ∷ shifted_entry Srl (num 4 bias (above 8)) (just bias) gives entry (num 1 bias (above 8))
    ∷ shifted_entry Srl (num 1 bias (above 7)) (just (above 3)) gives entry (just bias)
    -- SRL of negatives: by 0 full, else from 0 on; document 01 (*): full number SRL 24
    ∷ shifted_entry Srl (num 4 (below 4) (above 4)) (just bias) gives entry any_number
    ∷ shifted_entry Srl (num 4 (below 4) (above 4)) (just (above 1)) gives entry (num 1 bias most)
    ∷ shifted_entry Srl any_number (just (above 24)) gives entry (num 1 bias (above 255))
    ∷ shifted_entry Srl (num 1 (below 2) (below 1)) (just (above 31)) gives entry (num 1 bias (above 1))
    -- counts modulo 32
    ∷ shifted_entry Sll (num 2 bias (above 6)) (just (above 33)) gives entry (num 4 bias (above 12))
    ∷ shifted_entry Srl any_number (just (below 1)) gives entry (num 1 bias (above 1))
    -- "Other number counts: full."
    ∷ shifted_entry Sll fours pair gives entry any_number
    ∷ shifted_entry Srl (just (above 1)) (num 1 bias (above 1)) gives entry any_number
    ∷ shifted_entry Sra (just bias) pair gives entry any_number
    -- neither value nor count is an address
    ∷ shifted_entry Sll (at 0 8) (just bias) gives fails 6
    ∷ shifted_entry Srl fours (at 0 8) gives fails 6
    ∷ shifted_entry Sra (start_or_null 1) (just bias) gives fails 6
    ∷ shifted_entry Sll (just bias) (start_or_null 1) gives fails 6
    ∷ shifted_entry Sll return_address (just bias) gives fails 6
    ∷ []

-- all of them
abbrev pub result_rows : List Row
result_rows = single_rows ++ move_rows ++ sum_rows ++ offset_rows ++ logic_set_rows ++ shift_set_rows
