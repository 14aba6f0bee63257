-- Entries and notes: what a register and the codes hold (document 01, "Rows"). An entry's numbers and offsets stand in excess form, 2^31
-- more than the number (v8's Signed). The fields of an entry that its kind does not use mean nothing.
use Rattle.std.specs.Prelude.{ℕ, ◌+◌, Bool, cond, not, ◌&&◌, ◌||◌, List, leb, ltb, eqb, get_or}
use Rattle.v8.specs.Signed.{excess, bias}
use Rattle.policy.specs.declared.Field.{Field}
use Rattle.sets.specs.declared.NumberSet.{NumberSet}
use Rattle.sets.specs.Sets.{numbers, single, ended, set_ok, fits_set}
use Rattle.rows.specs.declared.Entry.{Entry}
use Rattle.rows.specs.declared.Note.{Note}

-- "Kinds: 0 unset, 4 return address"; "1 number"; "2 address: region start plus an offset"; "3 address of a region's start, or null"
abbrev pub is_unset : Entry → Bool
is_unset e = eqb e.kind 0

abbrev pub is_number : Entry → Bool
is_number e = eqb e.kind 1

abbrev pub is_address : Entry → Bool
is_address e = eqb e.kind 2

abbrev pub is_start_or_null : Entry → Bool
is_start_or_null e = eqb e.kind 3

abbrev pub is_return : Entry → Bool
is_return e = eqb e.kind 4

-- request 7: "Kind 5 is the frame address"
abbrev pub is_frame : Entry → Bool
is_frame e = eqb e.kind 5

-- the fields that a kind does not use are zero
abbrev pub blank : NumberSet
blank = numbers 0 bias bias

abbrev pub is_blank : NumberSet → Bool
is_blank s = eqb s.step 0 && eqb s.lo bias && eqb s.hi bias

-- an entry of each kind
abbrev pub number_in : NumberSet → Entry
number_in s = record { kind = 1; region = 0; set = s }

abbrev pub address_in : ℕ → NumberSet → Entry
address_in r s = record { kind = 2; region = r; set = s }

abbrev pub start_or_null : ℕ → Entry
start_or_null r = record { kind = 3; region = r; set = blank }

-- the single number of a word
abbrev pub constant : ℕ → Entry
constant word = number_in (single (excess word))

-- the start of region r
abbrev pub region_start : ℕ → Entry
region_start r = address_in r (single bias)

-- what a register holds of which nothing is known
abbrev pub no_entry : Entry
no_entry = record { kind = 0; region = 0; set = numbers 0 0 0 }

-- the entry is a single number
abbrev pub is_constant : Entry → Bool
is_constant e = is_number e && eqb e.set.lo e.set.hi

-- the word of a single number
abbrev pub word_of : Entry → ℕ
word_of e = excess e.set.lo

-- the numbers or offsets are 0 alone
abbrev pub only_zero : NumberSet → Bool
only_zero s = eqb s.lo bias && eqb s.hi bias

-- the entry is the single number 0
abbrev pub is_zero : Entry → Bool
is_zero e = is_number e && only_zero e.set

-- the entry is the start of region r
abbrev pub is_region_start : ℕ → Entry → Bool
is_region_start r e = is_address e && eqb e.region r && only_zero e.set

-- the size of region r; there is no region above 7
unfoldable pub size_in : List ℕ → ℕ → ℕ
size_in sizes r = cond (ltb r 8) (get_or sizes r 0) 0

-- An entry's form: kinds 0 and 4 "all else zero", so kind 5; kind 1 "Region 0", and the set's form; kind 2 "the same sort of set, 0 ≤ lo, hi ≤
-- size"; kind 3 "step, lo, hi zero". "Kinds 2 and 3 name an existing region." Where kind 5 may stand is said of a row (Row).
unfoldable pub entry_ok : ℕ → List ℕ → Entry → Bool
entry_ok regions sizes e =
    cond (is_number e) (eqb e.region 0 && set_ok e.set)
    (cond (is_address e)
    (ltb e.region regions && set_ok e.set && leb bias e.set.lo && leb e.set.hi (bias + size_in sizes e.region))
    (cond (is_start_or_null e) (ltb e.region regions && is_blank e.set)
    ((is_unset e || is_return e || is_frame e) && eqb e.region 0 && is_blank e.set)))

-- "Entry A fits B if B is unset; or both are numbers, or addresses of one region, and A's set lies in B's; or both are kind 3 of one
-- region; or both kind 4; or B is kind 3 and A is the single number 0 or the start of that region." Kind 5 "fits itself".
unfoldable pub fits : Entry → Entry → Bool
fits a b =
    is_unset b
    || is_number a && is_number b && fits_set a.set b.set
    || is_address a && is_address b && eqb a.region b.region && fits_set a.set b.set
    || is_start_or_null a && is_start_or_null b && eqb a.region b.region
    || is_return a && is_return b
    || is_frame a && is_frame b
    || is_start_or_null b && (is_zero a || is_region_start b.region a)

-- the codes are those of a comparison
abbrev pub is_comparison : Note → Bool
is_comparison n = eqb n.kind 2

-- notes: "1 set; 2 the codes are those SUBcc gives for the register's present value (r1 to r31) and the number"
abbrev pub codes_set : Note
codes_set = record { kind = 1; register = 0; number = bias }

abbrev pub comparison : ℕ → ℕ → Note
comparison register number = record { kind = 2; register = register; number = number }

-- A note's form: "the register's present value (r1 to r31)"; "Kinds 0 and 1 have all else zero."
unfoldable pub note_ok : Note → Bool
note_ok n =
    cond (is_comparison n) (leb 1 n.register && leb n.register 31)
    (leb n.kind 1 && eqb n.register 0 && eqb n.number bias)

-- "Note A fits B if B is 0, or B is 1 and A isn't 0, or they are equal."
unfoldable pub fits_note : Note → Note → Bool
fits_note a b =
    eqb b.kind 0
    || eqb b.kind 1 && not (eqb a.kind 0)
    || eqb a.kind b.kind && eqb a.register b.register && eqb a.number b.number

-- what a load of a field gives: "the field's lo to hi, step 1; or start of the target; or kind 3"
unfoldable pub field_entry : Field → Entry
field_entry f =
    cond (ltb f.element 6) (number_in (ended 1 f.lo f.hi))
    (cond (eqb f.element 6) (region_start f.target) (start_or_null f.target))
