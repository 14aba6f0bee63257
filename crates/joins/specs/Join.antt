-- The least entry that two entries fit, and the least note: what may stand in a row that two words lead to. (Laws: both fit it,
-- and it fits whatever both fit.)
use Rattle.std.specs.Prelude.{ℕ, ◌-◌, ◌%◌, min, max, Bool, cond, ◌&&◌, ◌||◌, leb, eqb}
use Rattle.sets.specs.declared.NumberSet.{NumberSet}
use Rattle.sets.specs.Sets.{ended}
use Rattle.rows.specs.declared.Entry.{Entry}
use Rattle.rows.specs.declared.Note.{Note}
use Rattle.rows.specs.Entry.{is_number, is_address, blank, start_or_null, fits, codes_set, fits_note}

-- a step is at most two others and divides a distance
abbrev pub is_common : ℕ → ℕ → ℕ → ℕ → Bool
is_common n s t d = leb n s && leb n t && eqb (d % n) 0

-- the largest such step
unfoldable pub common_step : ℕ → ℕ → ℕ → ℕ
common_step s t d = cond (is_common 8 s t d) 8 (cond (is_common 4 s t d) 4 (cond (is_common 2 s t d) 2 1))

-- from the lowest number of both to the highest, with the largest step that has all of them
unfoldable pub join_sets : NumberSet → NumberSet → NumberSet
join_sets a b =
    ended (common_step a.step b.step (max a.lo b.lo - min a.lo b.lo)) (min a.lo b.lo) (max a.hi b.hi)

-- both are numbers, or addresses of one region
abbrev pub of_one_sort : Entry → Entry → Bool
of_one_sort a b = is_number a && is_number b || is_address a && is_address b && eqb a.region b.region

-- the entry with another set
abbrev pub with_set : Entry → NumberSet → Entry
with_set e s = record { kind = e.kind; region = e.region; set = s }

-- the unset entry, as a row has it
abbrev pub unset : Entry
unset = record { kind = 0; region = 0; set = blank }

-- the region that the first names if it is an address, otherwise the second's
abbrev pub region_named : Entry → Entry → ℕ
region_named a b = cond (is_address a) a.region b.region

-- an entry if both fit it; otherwise unset
unfoldable pub if_both_fit : Entry → Entry → Entry → Entry
if_both_fit a b e = cond (fits a e && fits b e) e unset

-- the start of that region or null, if both fit that; otherwise unset
abbrev pub start_or_unset : Entry → Entry → Entry
start_or_unset a b = if_both_fit a b (start_or_null (region_named a b))

-- the least entry that both fit
unfoldable pub join_of : Entry → Entry → Entry
join_of a b =
    cond (fits b a) a
    (cond (fits a b) b
    (cond (of_one_sort a b) (with_set a (join_sets a.set b.set)) (start_or_unset a b)))

-- the least note that both fit: where neither fits the other, neither is unset
unfoldable pub join_note : Note → Note → Note
join_note a b = cond (fits_note b a) a (cond (fits_note a b) b codes_set)
