-- What a branch leaves of a row (document 01, "A branch with note 2 narrows a noted number .. to the members that obey it .. a kind 3
-- compared with 0 becomes single 0 or the start on 1 and 9").
use Rattle.std.specs.Prelude.{ℕ, Bool, true, false, cond, ◌&&◌, eqb, Option, Some, None}
use Rattle.alu.specs.declared.condition.Narrowing.{Narrowing}
use Rattle.alu.specs.declared.condition.Narrowing.TheVariants.{Unrelated, EqualTo, NotEqualTo, LessThan, AtLeast, AtMost, GreaterThan}
use Rattle.sets.specs.declared.NumberSet.{NumberSet}
use Rattle.sets_narrow.specs.Narrow.{narrow_set}
use Rattle.rows.specs.declared.Entry.{Entry}
use Rattle.rows.specs.declared.Row.{Row}
use Rattle.rows.specs.Entry.{is_number, is_start_or_null, is_comparison, number_in, constant, region_start}
use Rattle.rows.specs.Row.{entry_at, row_with}
use Rattle.v8.specs.Signed.{bias}

-- a condition of this class says how the numbers compare: "narrows .. on conditions 1, 2, 3, 9, 10, 11"
abbrev pub narrows : Narrowing → Bool
narrows Unrelated = false
narrows EqualTo = true
narrows NotEqualTo = true
narrows LessThan = true
narrows AtLeast = true
narrows AtMost = true
narrows GreaterThan = true

-- what is left of a number
abbrev pub left_of : Option NumberSet → Option Entry
left_of (Some s) = Some (number_in s)
left_of None = None

-- "a kind 3 compared with 0 becomes single 0 or the start on 1 and 9"
abbrev pub narrow_start : Narrowing → Entry → Entry
narrow_start Unrelated e = e
narrow_start EqualTo e = constant 0
narrow_start NotEqualTo e = region_start e.region
narrow_start LessThan e = e
narrow_start AtLeast e = e
narrow_start AtMost e = e
narrow_start GreaterThan e = e

-- what a condition of this class leaves of an entry whose value was compared with n
unfoldable pub narrow_entry : Narrowing → Entry → ℕ → Option Entry
narrow_entry c e n =
    cond (is_number e) (left_of (narrow_set c e.set n))
    (cond (is_start_or_null e && eqb n bias) (Some (narrow_start c e))
    (Some e))

-- what is left of a row: "An edge with no members left is not examined." It stays beside Option, since the guarantee's proofs name its two cases.
pub data RowLeft : Type 0 where
  left : Row → RowLeft
  nothing : RowLeft

abbrev pub row_left : Row → Option Entry → RowLeft
row_left row (Some e) = left (row_with row row.note.register e row.note)
row_left row None = nothing

-- what a condition of this class leaves of a row; narrowing is no write, so the note stays
unfoldable pub narrow_row : Narrowing → Row → RowLeft
narrow_row c row =
    cond (narrows c && is_comparison row.note) (row_left row (narrow_entry c (entry_at row row.note.register) row.note.number))
    (left row)
