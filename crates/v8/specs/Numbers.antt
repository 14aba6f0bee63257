-- The numbers of document 01, named once for all definitions, each with the sentence that gives it.
use Rattle.std.specs.Prelude.{ℕ}

-- answers and refusals, in the order of the card (docs/CARD.md)

-- "acceptance is 0 0 0"
abbrev pub acceptance : ℕ
acceptance = 0

-- "1 row badly formed"
abbrev pub bad_row : ℕ
bad_row = 1

-- "2 word not read"
abbrev pub not_read : ℕ
not_read = 2

-- "3 flow"
abbrev pub bad_flow : ℕ
bad_flow = 3

-- "4 operand unset"
abbrev pub unset_operand : ℕ
unset_operand = 4

-- "5 an address operand of kind 3"
abbrev pub maybe_null : ℕ
maybe_null = 5

-- "6 not one address and one number"; "6 kinds with no rule"; "6 if r15 isn't kind 4"
abbrev pub no_rule : ℕ
no_rule = 6

-- "7 the bytes reached .. not inside one field"
abbrev pub outside_fields : ℕ
outside_fields = 7

-- "8 instruction not the field's element"
abbrev pub wrong_element : ℕ
wrong_element = 8

-- "9 an offset off the element grid, or step not a multiple of the width"
abbrev pub off_grid : ℕ
off_grid = 9

-- "10 permission"
abbrev pub not_allowed : ℕ
not_allowed = 10

-- "11 stored entry does not fit the element"
abbrev pub wrong_value : ℕ
wrong_value = 11

-- "12 if the row so made does not fit the next row"
abbrev pub edge_misfit : ℕ
edge_misfit = 12

-- "13 the last byte above 4,095"
abbrev pub too_high : ℕ
too_high = 13

-- "14 if r8 does not fit the result entry"
abbrev pub result_misfit : ℕ
result_misfit = 14

-- "15 the entry row does not fit row 0"
abbrev pub entry_misfit : ℕ
entry_misfit = 15

-- "16 result offset below 0 or above size"
abbrev pub outside_region : ℕ
outside_region = 16

-- "17, a part out of range or not of the subset"
abbrev pub not_written : ℕ
not_written = 17

-- "18 full"
abbrev pub full : ℕ
full = 18

-- "19 size"
abbrev pub bad_size : ℕ
bad_size = 19

-- "20 policy breaks a rule above"; "20 no such region"; "20 any other rule"
abbrev pub bad_policy : ℕ
bad_policy = 20

-- "21 words not 1 to 128, rows not [464] bytes a word, or the entry row or result entry badly formed"
abbrev pub bad_shape : ℕ
bad_shape = 21

-- "22 if bases, return address or memory length are wrong"
abbrev pub bad_placement : ℕ
bad_placement = 22

-- "23 if over the size below, ..  or if its length is not what its counts give"
abbrev pub bad_bundle : ℕ
bad_bundle = 23

-- request 1: "24 replaces 2 for these words", those that are privileged
abbrev pub privileged : ℕ
privileged = 24

-- request 6: "25, with its word and that register", for a word that would write a register of the caller
abbrev pub callers_register : ℕ
callers_register = 25

-- the machine's faults

-- "101 word outside, unread, or a transfer in a slot"
abbrev pub no_word : ℕ
no_word = 101

-- "102 unset read"
abbrev pub unset_read : ℕ
unset_read = 102

-- "103 not inside one field of matching element and permission"
abbrev pub no_field : ℕ
no_field = 103

-- "104 unaligned, r15 at a return too"
abbrev pub unaligned : ℕ
unaligned = 104

-- "105 return when r15 isn't the return address"
abbrev pub wrong_return : ℕ
wrong_return = 105

-- what more than one crate counts by

-- "words not 1 to 128"
abbrev pub most_words : ℕ
most_words = 128

-- "0 never", "8 always": the conditions that read no codes
abbrev pub never : ℕ
never = 0

abbrev pub always : ℕ
always = 8
