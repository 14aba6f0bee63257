-- The search for the field of a region that holds some bytes (document 01, refusals 7 and 103: "inside one field"; document 02, request 3).
-- It is stated over how many fields each region has and the list of fields; `find_field`, `fields_looked` and `field_holding` are the same of a whole
-- policy. Where fields ascend, what the search finds is the lowest field that holds the bytes (law `EndsEarly`). Of lists in which they do not, the
-- sentences are taken literally, and it may end before that field; no open call searches these: check, machine and `search_of` refuse the policy with 20 first.
use Rattle.std.specs.Prelude.{ℕ, ◌+◌, ◌-◌, Bool, cond, ◌&&◌, ◌||◌, List, Option, Some, None, leb, ltb, get_or}
use Rattle.v8.specs.Numbers.{acceptance, bad_policy}
use Rattle.v8.specs.Search.{first}
use Rattle.policy.specs.Policy.{first_place, place_of, no_field, field_end, policy_ok}
use Rattle.policy.specs.declared.Field.{Field}
use Rattle.policy.specs.declared.Policy.{Policy}
use Rattle.policy_search.specs.declared.Search.{Search}
use Rattle.policy_search.specs.declared.FieldSearch.{FieldSearch}

-- the field at a place holds the bytes from offset low up to end, which is not among them
unfoldable pub holds_in : List Field → ℕ → ℕ → ℕ → Bool
holds_in fields low end place = leb (get_or fields place no_field).offset.0 low && leb end (field_end (get_or fields place no_field))

-- the search ends at the field at a place: one "that holds the wanted bytes or begins past their lowest offset"
abbrev pub ends_at : List Field → ℕ → ℕ → ℕ → Bool
ends_at fields low end place = holds_in fields low end place || ltb low (get_or fields place no_field).offset.0

-- where the fields of region r end in the list: 16 places at most are a region's
unfoldable pub stop_of : List ℕ → ℕ → ℕ
stop_of counts r = place_of r (cond (ltb (get_or counts r 0) 16) (get_or counts r 0) 16)

-- what a search says that ended at a place
abbrev pub found_at : ℕ → ℕ → Option ℕ
found_at place stop = cond (ltb place stop) (Some place) None

module _ (counts : List ℕ) (fields : List Field) (r low end : ℕ) where
  -- the lowest place of region r's fields whose field holds the bytes; a policy has no region above 7
  unfoldable pub holder_in : Option ℕ
  holder_in =
      cond (ltb r 8)
      (found_at (first (holds_in fields low end) (first_place r) (stop_of counts r)) (stop_of counts r))
      None

  -- "to end at the first field" that is such: its place, or the place after region r's fields if there is none
  abbrev pub last_place : ℕ
  last_place = first (ends_at fields low end) (first_place r) (stop_of counts r)

  -- what it finds: the field that it ends at, if this one holds the bytes
  unfoldable pub find_in : Option ℕ
  find_in =
      cond (ltb r 8)
      (cond (ltb last_place (stop_of counts r) && holds_in fields low end last_place) (Some last_place) None)
      None

  -- "how many fields it looked at: exactly those up to and with that one, or all if there is none"
  unfoldable pub looked_at : ℕ
  looked_at = cond (ltb r 8) (cond (ltb last_place (stop_of counts r)) (last_place + 1) (stop_of counts r) - first_place r) 0

  -- what the search gives
  abbrev pub search_in : Search
  search_in = record { found = find_in; looked = looked_at }

-- the field found in a policy
abbrev pub find_field : Policy → ℕ → ℕ → ℕ → Option ℕ
find_field p r low end = find_in p.regions.fields p.fields r low end

-- the lowest field of region r that holds the bytes
abbrev pub field_holding : Policy → ℕ → ℕ → ℕ → Option ℕ
field_holding p r low end = holder_in p.regions.fields p.fields r low end

-- how many fields were looked at
abbrev pub fields_looked : Policy → ℕ → ℕ → ℕ → ℕ
fields_looked p r low end = looked_at p.regions.fields p.fields r low end

-- a search in a policy handed in: 20 if that breaks a rule or has no such region, and then nothing is found or looked at; otherwise the lowest field
-- that holds the bytes, and how many fields were looked at
unfoldable pub search_of : Policy → ℕ → ℕ → ℕ → FieldSearch
search_of p r low end =
    cond (policy_ok p && ltb r p.regions.count)
    (record { number = acceptance; found = field_holding p r low end; looked = fields_looked p r low end })
    (record { number = bad_policy; found = None; looked = 0 })
