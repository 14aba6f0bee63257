-- Marks (document 02, request 2): what a listing says of a register at a word, a byte each. 01's kinds of entries have other numbers.
use Rattle.std.specs.Prelude.{ℕ, zero, suc, ◌+◌, ◌≡◌, Bool, cond, not, List, [], ◌∷◌, ltb, eqb, get_or, set}

-- "for each register not reached, number, address, address or null, return, or unset (bytes 0 to 5)"
abbrev pub not_reached : ℕ
not_reached = 0

abbrev pub number : ℕ
number = 1

abbrev pub address : ℕ
address = 2

abbrev pub address_or_null : ℕ
address_or_null = 3

abbrev pub return_address : ℕ
return_address = 4

abbrev pub unset : ℕ
unset = 5

-- the mark of an entry's kind: unset is kind 0 there, and kinds 1 to 4 have the numbers of their marks. Request 7, of kind 5, the frame address:
-- "the listing marks it unset", which is mark 5.
abbrev pub mark_of_kind : ℕ → ℕ
mark_of_kind kind = cond (eqb kind 0) unset kind

-- "Two different marks meeting give unset, but not reached gives way."
unfoldable pub meet : ℕ → ℕ → ℕ
meet a b = cond (eqb a not_reached) b (cond (eqb b not_reached) a (cond (eqb a b) a unset))

-- the order in which marks are raised: not reached is below every mark, unset above, and nothing else is below another. One mark is at most
-- another if meeting it changes nothing.
abbrev pub AtMost : ℕ → ℕ → Type 0
AtMost a b = meet a b ≡ b

abbrev pub at_most : ℕ → ℕ → Bool
at_most a b = eqb (meet a b) b

-- how high a mark stands in that order, which has height 2
unfoldable pub rank : ℕ → ℕ
rank a = cond (eqb a not_reached) 0 (cond (eqb a unset) 2 1)

-- the values of a function at i, i + 1, .., n of them
abbrev pub values_from : (ℕ → ℕ) → ℕ → ℕ → List ℕ
values_from f i zero = []
values_from f i (suc n) = f i ∷ values_from f (i + 1) n

-- the marks of one word, r0's first
abbrev pub register_count : ℕ
register_count = 32

abbrev pub marks_by : (ℕ → ℕ) → List ℕ
marks_by f = values_from f 0 register_count

-- the mark of register r; there is none after the last
unfoldable pub mark_of : List ℕ → ℕ → ℕ
mark_of marks r = cond (ltb r register_count) (get_or marks r not_reached) unset

-- the marks after register r is given one: writes to r0 vanish
unfoldable pub marks_with : List ℕ → ℕ → ℕ → List ℕ
marks_with marks r mark = cond (eqb r 0) marks (cond (ltb r register_count) (set marks r mark) marks)

-- one word's marks are at most another's, register by register
abbrev pub MarksAtMost : List ℕ → List ℕ → Type 0
MarksAtMost a b = (r : ℕ) → AtMost (mark_of a r) (mark_of b r)

-- a register has a mark
abbrev pub has_mark : List ℕ → ℕ → Bool
has_mark marks r = not (eqb (mark_of marks r) not_reached)
