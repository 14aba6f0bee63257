-- The rules that a policy obeys (document 01, "Policy"), each a test of numbers. A policy holds its fields in one list:
-- field k of region r stands at place 16 r + k. No rule reads a place that is not in use.
use Rattle.std.specs.Prelude.{ℕ, ◌+◌, ◌*◌, ◌-◌, ◌%◌, Bool, cond, ◌&&◌, ◌||◌, leb, ltb, eqb, get_or}
use Rattle.v8.specs.Signed.{bias}
use Rattle.v8.specs.Search.{all}
use Rattle.policy.specs.Element.{width_of, least_of, most_of}
use Rattle.policy.specs.declared.Field.{Field}
use Rattle.policy.specs.declared.Policy.{Policy}

-- the size of region r, in bytes
abbrev pub size_of : Policy → ℕ → ℕ
size_of p r = get_or p.regions.sizes r 0

-- how many fields region r has
abbrev pub count_of : Policy → ℕ → ℕ
count_of p r = get_or p.regions.fields r 0

-- where the places of region r begin
abbrev pub first_place : ℕ → ℕ
first_place r = 16 * r

-- the place of field k of region r
abbrev pub place_of : ℕ → ℕ → ℕ
place_of r k = first_place r + k

-- what stands at a place that no field was put at: 0 in every part
abbrev pub no_field : Field
no_field = record { element = 0; permission = 0; target = 0; offset = record { 0 = 0 }; count = 0; lo = 0; hi = 0 }

-- the field at a place
unfoldable pub field_at : Policy → ℕ → Field
field_at p place = get_or p.fields place no_field

-- where a field ends: the first byte after its elements
abbrev pub field_end : Field → ℕ
field_end f = f.offset.0 + width_of f.element * f.count

-- "a permission (1 read, 2 write, 3 both)": it allows reading, it allows writing
abbrev pub readable : ℕ → Bool
readable permission = eqb permission 1 || eqb permission 3

abbrev pub writable : ℕ → Bool
writable permission = eqb permission 2 || eqb permission 3

-- "a size is a multiple of 8 from 8 to 4,096 bytes"
abbrev pub size_ok : ℕ → Bool
size_ok size = leb 8 size && leb size 4096 && eqb (size % 8) 0

-- "Elements 1 to 5: lo ≤ hi inside the element's range, target 0. Elements 6 and 7: target an existing region, lo = hi = 0."
unfoldable pub values_ok : ℕ → Field → Bool
values_ok regions f =
    cond (ltb f.element 6)
    (leb (least_of f.element) f.lo && leb f.lo f.hi && leb f.hi (most_of f.element) && eqb f.target 0)
    (ltb f.target regions && eqb f.lo bias && eqb f.hi bias)

-- "A field has an offset (a multiple of its element width), a count of at least 1, a permission (1 read, 2 write, 3 both) and
-- an element" from 1 to 7; "A field ends inside its region."
unfoldable pub field_ok : ℕ → ℕ → Field → Bool
field_ok regions size f =
    leb 1 f.element && leb f.element 7 && leb 1 f.permission && leb f.permission 3 && leb 1 f.count
    && eqb (f.offset.0 % width_of f.element) 0
    && leb (field_end f) size
    && values_ok regions f

-- where the fields of region r before field k end
unfoldable pub end_before : Policy → ℕ → ℕ → ℕ
end_before p r k = cond (eqb k 0) 0 (field_end (field_at p (place_of r (k - 1))))

-- f obeys every rule after fields that end before it: those of a field, and "ascending, not overlapping"
abbrev pub field_follows : ℕ → ℕ → ℕ → Field → Bool
field_follows regions size end f = field_ok regions size f && leb end f.offset.0

-- f obeys every rule as field k of region r
unfoldable pub field_fits : Policy → ℕ → ℕ → Field → Bool
field_fits p r k f = field_follows p.regions.count (size_of p r) (end_before p r k) f

-- field k of region r obeys every rule
unfoldable pub field_at_ok : Policy → ℕ → ℕ → Bool
field_at_ok p r k = field_fits p r k (field_at p (place_of r k))

-- region r obeys every rule: its size, "At most 16 fields a region", and each field
unfoldable pub region_ok : Policy → ℕ → Bool
region_ok p r = size_ok (size_of p r) && leb (count_of p r) 16 && all (field_at_ok p r) (count_of p r)

-- the policy obeys every rule: "At most 8 regions", and each region
unfoldable pub policy_ok : Policy → Bool
policy_ok p = leb p.regions.count 8 && all (region_ok p) p.regions.count
