-- Policies built by adds (document 01, "Policy", and the numbers of the adds' refusals): each rule kept, and each broken alone.
use Rattle.std.specs.Prelude.{ℕ, zero, suc, ◌+◌, ◌-◌, List, [], ◌∷◌, ◌++◌, replicate}
use Rattle.policy.specs.declared.Field.{Field}
use Rattle.policy.specs.declared.Policy.{Policy}
use Rattle.policy.specs.Policy.{no_field}
use Rattle.policy.specs.Build.{empty_policy}
use Rattle.trials.specs.Case.{Row, ◌gives◌, Given, Addition, region, field, adds, numbers}
use Rattle.v8.specs.Signed.{bias}

-- a field, its parts in the order of the bundle's bytes; lo and hi in excess form, where `bias` is 0
abbrev pub field_of : ℕ → ℕ → ℕ → ℕ → ℕ → ℕ → ℕ → Field
field_of element permission target offset count lo hi =
    record {
      element = element;
      permission = permission;
      target = target;
      offset = record { 0 = offset };
      count = count;
      lo = lo;
      hi = hi;
    }

-- a field of numbers, to be read and written: element, offset, count, lo, hi
abbrev pub numeric : ℕ → ℕ → ℕ → ℕ → ℕ → Field
numeric element offset count lo hi = field_of element 3 0 offset count lo hi

-- a field of zeros, to be read and written: element, offset, count
abbrev pub zeros : ℕ → ℕ → ℕ → Field
zeros element offset count = numeric element offset count bias bias

-- one address: element, target, offset
abbrev pub address : ℕ → ℕ → ℕ → Field
address element target offset = field_of element 3 target offset 1 bias bias

-- adds to the empty policy
abbrev pub anew : List Addition → Given
anew more = adds empty_policy more

-- a region of 16 bytes and one field of it
abbrev pub alone : Field → Given
alone f = anew (region 16 ∷ field 0 f ∷ [])

-- a region of 16 bytes and two fields of it
abbrev pub pair : Field → Field → Given
pair f g = anew (region 16 ∷ field 0 f ∷ field 0 g ∷ [])

-- n adds of one-byte fields to region 0, one after the other from an offset on, then more
abbrev pub bytes_then : ℕ → ℕ → List Addition → List Addition
bytes_then zero offset more = more
bytes_then (suc n) offset more = field 0 (zeros 1 offset 1) ∷ bytes_then n (offset + 1) more

-- a region of 24 bytes and sixteen one-byte fields of it, then more
abbrev pub after_sixteen : List Addition → Given
after_sixteen more = anew (region 24 ∷ bytes_then 16 0 more)

-- a policy not built by adds: so many regions, each of one size and with so many fields, whose parts are all 0
abbrev pub uniform : ℕ → ℕ → ℕ → Policy
uniform regions size fields =
    record {
      regions = record { count = regions; sizes = replicate 8 size; fields = replicate 8 fields };
      fields = replicate 128 no_field;
    }

-- n fields of one byte from an offset on, each to be read and written, one after the other
abbrev pub bytes_from : ℕ → ℕ → List Field
bytes_from i zero = []
bytes_from i (suc n) =
    record { element = 1; permission = 3; target = 0; offset = record { 0 = i }; count = 1; lo = bias; hi = bias } ∷ bytes_from (i + 1) n

-- a policy not built by adds: one region of 24 bytes with so many fields, each one byte to be read and written, one after the other
abbrev pub bytewise : ℕ → Policy
bytewise fields =
    record {
      regions = record { count = 1; sizes = 24 ∷ replicate 7 0; fields = fields ∷ replicate 7 0 };
      fields = bytes_from 0 128;
    }

-- regions
abbrev pub region_rows : List Row
region_rows =
    -- sizes at both ends; "19 size"
    anew (region 8 ∷ region 4096 ∷ []) gives numbers (0 ∷ 0 ∷ [])
    ∷ anew (region 0 ∷ []) gives numbers (19 ∷ [])
    ∷ anew (region 4 ∷ []) gives numbers (19 ∷ [])
    ∷ anew (region 12 ∷ []) gives numbers (19 ∷ [])
    ∷ anew (region 4097 ∷ []) gives numbers (19 ∷ [])
    ∷ anew (region 4104 ∷ []) gives numbers (19 ∷ [])
    -- a refusal gives back the policy given: the region refused takes no place
    ∷ anew (region 8 ∷ region 12 ∷ field 1 (zeros 1 0 1) ∷ region 16 ∷ field 1 (zeros 1 15 1) ∷ []) gives numbers (0 ∷ 19 ∷ 20 ∷ 0 ∷ 0 ∷ [])
    -- "18 full": the ninth region, with a bad size too
    ∷ anew (replicate 9 (region 8)) gives numbers (replicate 8 0 ++ 18 ∷ [])
    ∷ anew (replicate 8 (region 4096) ++ region 12 ∷ region 0 ∷ []) gives numbers (replicate 8 0 ++ 18 ∷ 18 ∷ [])
    ∷ []

-- one field
abbrev pub field_rows : List Row
field_rows =
    -- a good field of each element, with the whole range of the element
    alone (numeric 1 0 16 bias (bias + 255)) gives numbers (0 ∷ 0 ∷ [])
    ∷ alone (numeric 2 0 16 (bias - 128) (bias + 127)) gives numbers (0 ∷ 0 ∷ [])
    ∷ alone (numeric 3 0 8 bias (bias + 65535)) gives numbers (0 ∷ 0 ∷ [])
    ∷ alone (numeric 4 0 8 (bias - 32768) (bias + 32767)) gives numbers (0 ∷ 0 ∷ [])
    ∷ alone (numeric 5 0 4 0 (bias + 2147483647)) gives numbers (0 ∷ 0 ∷ [])
    ∷ alone (address 6 0 12) gives numbers (0 ∷ 0 ∷ [])
    ∷ alone (address 7 0 12) gives numbers (0 ∷ 0 ∷ [])
    -- element and permission
    ∷ alone (zeros 0 0 1) gives numbers (0 ∷ 20 ∷ [])
    ∷ alone (zeros 8 0 1) gives numbers (0 ∷ 20 ∷ [])
    ∷ alone (field_of 1 0 0 0 1 bias bias) gives numbers (0 ∷ 20 ∷ [])
    ∷ alone (field_of 1 1 0 0 1 bias bias) gives numbers (0 ∷ 0 ∷ [])
    ∷ alone (field_of 1 2 0 0 1 bias bias) gives numbers (0 ∷ 0 ∷ [])
    ∷ alone (field_of 1 4 0 0 1 bias bias) gives numbers (0 ∷ 20 ∷ [])
    -- count 0, and offsets that are no multiple of the width
    ∷ alone (zeros 1 0 0) gives numbers (0 ∷ 20 ∷ [])
    ∷ alone (zeros 3 1 1) gives numbers (0 ∷ 20 ∷ [])
    ∷ alone (zeros 4 3 1) gives numbers (0 ∷ 20 ∷ [])
    ∷ alone (zeros 5 2 1) gives numbers (0 ∷ 20 ∷ [])
    ∷ alone (address 6 0 2) gives numbers (0 ∷ 20 ∷ [])
    ∷ alone (address 7 0 1) gives numbers (0 ∷ 20 ∷ [])
    -- the region's last bytes, and one element past them
    ∷ alone (zeros 1 15 1) gives numbers (0 ∷ 0 ∷ [])
    ∷ alone (zeros 1 15 2) gives numbers (0 ∷ 20 ∷ [])
    ∷ alone (zeros 1 16 1) gives numbers (0 ∷ 20 ∷ [])
    ∷ alone (zeros 1 0 17) gives numbers (0 ∷ 20 ∷ [])
    ∷ alone (zeros 3 0 9) gives numbers (0 ∷ 20 ∷ [])
    ∷ alone (zeros 5 12 2) gives numbers (0 ∷ 20 ∷ [])
    -- ends that 16 bits would take for 0
    ∷ alone (zeros 1 1 65535) gives numbers (0 ∷ 20 ∷ [])
    ∷ alone (zeros 3 2 65535) gives numbers (0 ∷ 20 ∷ [])
    ∷ alone (zeros 5 4 65535) gives numbers (0 ∷ 20 ∷ [])
    ∷ alone (zeros 5 0 16384) gives numbers (0 ∷ 20 ∷ [])
    -- lo above hi
    ∷ alone (numeric 1 0 1 (bias + 2) (bias + 1)) gives numbers (0 ∷ 20 ∷ [])
    ∷ alone (numeric 5 0 1 bias (bias - 1)) gives numbers (0 ∷ 20 ∷ [])
    -- lo below the element's range
    ∷ alone (numeric 1 0 1 (bias - 1) bias) gives numbers (0 ∷ 20 ∷ [])
    ∷ alone (numeric 2 0 1 (bias - 129) bias) gives numbers (0 ∷ 20 ∷ [])
    ∷ alone (numeric 3 0 1 (bias - 1) bias) gives numbers (0 ∷ 20 ∷ [])
    ∷ alone (numeric 4 0 1 (bias - 32769) bias) gives numbers (0 ∷ 20 ∷ [])
    -- hi above the element's range
    ∷ alone (numeric 1 0 1 bias (bias + 256)) gives numbers (0 ∷ 20 ∷ [])
    ∷ alone (numeric 2 0 1 bias (bias + 128)) gives numbers (0 ∷ 20 ∷ [])
    ∷ alone (numeric 3 0 1 bias (bias + 65536)) gives numbers (0 ∷ 20 ∷ [])
    ∷ alone (numeric 4 0 1 bias (bias + 32768)) gives numbers (0 ∷ 20 ∷ [])
    -- a field of numbers with a target, though the region exists
    ∷ anew (region 16 ∷ region 8 ∷ field 0 (field_of 1 3 1 0 1 bias bias) ∷ []) gives numbers (0 ∷ 0 ∷ 20 ∷ [])
    ∷ anew (region 16 ∷ region 8 ∷ field 0 (field_of 5 3 1 0 1 bias bias) ∷ []) gives numbers (0 ∷ 0 ∷ 20 ∷ [])
    -- an address with a target that is no region, or with lo or hi not 0
    ∷ alone (address 6 1 0) gives numbers (0 ∷ 20 ∷ [])
    ∷ alone (address 7 255 0) gives numbers (0 ∷ 20 ∷ [])
    ∷ alone (numeric 6 0 1 (bias - 1) bias) gives numbers (0 ∷ 20 ∷ [])
    ∷ alone (numeric 6 0 1 bias (bias + 1)) gives numbers (0 ∷ 20 ∷ [])
    ∷ alone (numeric 7 0 1 (bias - 1) bias) gives numbers (0 ∷ 20 ∷ [])
    ∷ alone (numeric 7 0 1 bias (bias + 1)) gives numbers (0 ∷ 20 ∷ [])
    -- the target exists when the field is added, or not: once refused, accepted after its region is added
    ∷ anew (region 16 ∷ field 0 (address 6 1 0) ∷ region 8 ∷ field 0 (address 6 1 0) ∷ []) gives numbers (0 ∷ 20 ∷ 0 ∷ 0 ∷ [])
    -- no such region
    ∷ anew (field 0 (zeros 1 0 1) ∷ []) gives numbers (20 ∷ [])
    ∷ anew (region 16 ∷ field 1 (zeros 1 0 1) ∷ []) gives numbers (0 ∷ 20 ∷ [])
    ∷ []

-- several fields
abbrev pub order_rows : List Row
order_rows =
    -- touching, and with bytes between
    pair (zeros 1 0 4) (zeros 5 4 1) gives numbers (0 ∷ 0 ∷ 0 ∷ [])
    ∷ pair (zeros 1 0 1) (zeros 5 12 1) gives numbers (0 ∷ 0 ∷ 0 ∷ [])
    -- one byte in common
    ∷ pair (zeros 1 0 5) (zeros 5 4 1) gives numbers (0 ∷ 0 ∷ 20 ∷ [])
    ∷ pair (zeros 5 0 1) (zeros 1 3 1) gives numbers (0 ∷ 0 ∷ 20 ∷ [])
    -- descending
    ∷ pair (zeros 1 8 1) (zeros 1 0 1) gives numbers (0 ∷ 0 ∷ 20 ∷ [])
    -- a refused field takes no place; the fields of two regions do not meet
    ∷ anew (region 16 ∷ field 0 (zeros 1 8 9) ∷ field 0 (zeros 1 0 1) ∷ []) gives numbers (0 ∷ 20 ∷ 0 ∷ [])
    ∷ anew (region 16 ∷ region 8 ∷ field 1 (zeros 1 0 8) ∷ field 0 (zeros 1 0 8) ∷ field 1 (zeros 1 8 1) ∷ []) gives numbers (0 ∷ 0 ∷ 0 ∷ 0 ∷ 20 ∷ [])
    -- "18 full": the seventeenth field, good or bad; in no such region it is 20, and another region has room
    ∷ after_sixteen (field 0 (zeros 1 16 1) ∷ []) gives numbers (replicate 17 0 ++ 18 ∷ [])
    ∷ after_sixteen (field 0 (zeros 0 0 0) ∷ field 1 (zeros 1 16 1) ∷ []) gives numbers (replicate 17 0 ++ 18 ∷ 20 ∷ [])
    ∷ after_sixteen (region 8 ∷ field 1 (zeros 1 0 1) ∷ []) gives numbers (replicate 17 0 ++ 0 ∷ 0 ∷ [])
    ∷ []

-- "Both adds first give 20 if the policy handed in breaks a rule."
abbrev pub bad_rows : List Row
bad_rows =
    -- a region of 7 bytes: before 0 and before 19
    adds (uniform 1 7 0) (region 8 ∷ region 12 ∷ field 0 (zeros 1 0 1) ∷ []) gives numbers (20 ∷ 20 ∷ 20 ∷ [])
    -- eight of them: before 18
    ∷ adds (uniform 8 7 0) (region 8 ∷ region 12 ∷ []) gives numbers (20 ∷ 20 ∷ [])
    -- nine regions
    ∷ adds (uniform 9 8 0) (region 8 ∷ field 0 (zeros 1 0 1) ∷ []) gives numbers (20 ∷ 20 ∷ [])
    -- sixteen and seventeen fields of no element: before 18
    ∷ adds (uniform 1 8 16) (region 8 ∷ field 0 (zeros 1 0 1) ∷ []) gives numbers (20 ∷ 20 ∷ [])
    ∷ adds (uniform 1 8 17) (region 8 ∷ field 0 (zeros 1 0 1) ∷ []) gives numbers (20 ∷ 20 ∷ [])
    -- sixteen good fields, and seventeen, which no add makes
    ∷ adds (bytewise 16) (region 8 ∷ field 0 (zeros 1 16 1) ∷ []) gives numbers (0 ∷ 18 ∷ [])
    ∷ adds (bytewise 17) (region 8 ∷ field 0 (zeros 1 17 1) ∷ []) gives numbers (20 ∷ 20 ∷ [])
    -- what stands at a place that is not in use means nothing: the region added has no fields
    ∷ adds (uniform 0 8 5) (region 8 ∷ field 0 (zeros 1 0 1) ∷ []) gives numbers (0 ∷ 0 ∷ [])
    -- a full policy that obeys the rules: 18, the fields as ever
    ∷ adds (uniform 8 8 0) (region 8 ∷ field 7 (zeros 1 0 8) ∷ []) gives numbers (18 ∷ 0 ∷ [])
    ∷ []

-- all of them
abbrev pub add_rows : List Row
add_rows = region_rows ++ field_rows ++ order_rows ++ bad_rows
