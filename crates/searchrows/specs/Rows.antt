-- Searches, and refusals (document 02, request 3). The wanted bytes are those from the first number up to the second, which is not among them.
use Rattle.std.specs.Prelude.{ℕ, List, [], ◌∷◌}
use Rattle.policy.specs.declared.Policy.{Policy}
use Rattle.policy.specs.Build.{empty_policy, with_region, with_field}
use Rattle.trials.specs.Policies.{zeros, uniform, bytewise}
use Rattle.searchrows.specs.Case.{Row, Outcome, policy, lists, finds, none, refusal}

-- a region with fields of bytes 0 to 3, 4 to 7, 10 to 11 and 20 to 23: two that touch, and a gap before each of the others and behind the last
abbrev pub four : Policy
four =
    with_field (with_field (with_field (with_field (with_region empty_policy 32) 0 (zeros 5 0 1)) 0 (zeros 5 4 1)) 0 (zeros 3 10 1)) 0 (zeros 5 20 1)

-- three regions: one without fields between two that have a field each, of bytes 8 to 15
abbrev pub three : Policy
three = with_field (with_field (with_region (with_region (with_region empty_policy 16) 16) 16) 0 (zeros 1 8 8)) 2 (zeros 1 8 8)

-- fields that do not ascend: bytes 8 to 11, and then 0 to 3
abbrev pub descending : Policy
descending = with_field (with_field (with_region empty_policy 16) 0 (zeros 5 8 1)) 0 (zeros 5 0 1)

abbrev pub in_four : ℕ → ℕ → Outcome → Row
in_four low end o = record { given = policy four 0 low end; expected = o }

abbrev pub in_three : ℕ → ℕ → ℕ → Outcome → Row
in_three r low end o = record { given = policy three r low end; expected = o }

-- sixteen fields of a byte each, one after the other
abbrev pub in_sixteen : ℕ → ℕ → Outcome → Row
in_sixteen low end o = record { given = policy (bytewise 16) 0 low end; expected = o }

abbrev pub search_rows : List Row
search_rows =
    -- the first field: all its bytes, its first, its last
    in_four 0 4 (finds 0 1)
    ∷ in_four 0 1 (finds 0 1)
    ∷ in_four 3 4 (finds 0 1)
    -- one between
    ∷ in_four 4 8 (finds 1 2)
    ∷ in_four 5 7 (finds 1 2)
    ∷ in_four 10 12 (finds 2 3)
    -- the last
    ∷ in_four 20 24 (finds 3 4)
    ∷ in_four 23 24 (finds 3 4)
    -- none: a field that begins at the lowest offset and is too short is passed by, and the one after it begins past that
    ∷ in_four 4 9 (none 3)
    ∷ in_four 0 5 (none 2)
    ∷ in_four 10 13 (none 4)
    -- .. too short, and the last: all are looked at
    ∷ in_four 20 25 (none 4)
    -- bytes in a gap before a field, up to where this begins, and on into it
    ∷ in_four 8 9 (none 3)
    ∷ in_four 9 10 (none 3)
    ∷ in_four 9 11 (none 3)
    ∷ in_four 12 20 (none 4)
    -- bytes behind the last field
    ∷ in_four 24 25 (none 4)
    ∷ in_four 4294967294 4294967295 (none 4)
    -- bytes that begin in one field and end in another, that touches it or does not
    ∷ in_four 3 5 (none 2)
    ∷ in_four 2 8 (none 2)
    ∷ in_four 6 11 (none 3)
    ∷ in_four 0 24 (none 2)
    -- a gap before the first field
    ∷ in_three 0 0 1 (none 1)
    ∷ in_three 0 7 8 (none 1)
    ∷ in_three 0 7 9 (none 1)
    -- a region without fields, and its neighbours
    ∷ in_three 1 8 9 (none 0)
    ∷ in_three 0 8 16 (finds 0 1)
    ∷ in_three 2 8 16 (finds 0 1)
    ∷ in_three 2 15 17 (none 1)
    -- 16 fields: the first, the middle ones, the last, a byte more than each, and behind all
    ∷ in_sixteen 0 1 (finds 0 1)
    ∷ in_sixteen 7 8 (finds 7 8)
    ∷ in_sixteen 8 9 (finds 8 9)
    ∷ in_sixteen 15 16 (finds 15 16)
    ∷ in_sixteen 0 2 (none 2)
    ∷ in_sixteen 7 9 (none 9)
    ∷ in_sixteen 14 16 (none 16)
    ∷ in_sixteen 15 17 (none 16)
    ∷ in_sixteen 16 17 (none 16)
    ∷ []

abbrev pub refused : Policy → ℕ → Row
refused p r = record { given = policy p r 0 1; expected = refusal 20 }

abbrev pub refused_rows : List Row
refused_rows =
    -- "20 if the policy handed in breaks a rule": fields that do not ascend, 17 of them, a region of no size
    refused descending 0
    ∷ refused (bytewise 17) 0
    ∷ refused (uniform 1 0 0) 0
    -- .. in another region than the one that is searched
    ∷ refused (with_field (with_region four 8) 1 (zeros 5 8 1)) 0
    -- no such region: the one after the last, the highest, any of none
    ∷ refused four 1
    ∷ refused four 7
    ∷ refused four 8
    ∷ refused four 255
    ∷ refused empty_policy 0
    ∷ []

abbrev pub untested : Policy → ℕ → ℕ → ℕ → Outcome → Row
untested p r low end o = record { given = lists p r low end; expected = o }

-- lists that no policy handed in has: the sentences are taken literally
abbrev pub list_rows : List Row
list_rows =
    -- the first field begins past the bytes: the search ends there, whatever follows
    untested descending 0 0 4 (none 1)
    ∷ untested descending 0 8 12 (finds 0 1)
    ∷ untested descending 0 12 13 (none 2)
    -- 16 places are a region's, whatever it claims
    ∷ untested (bytewise 17) 0 16 17 (none 16)
    ∷ untested (bytewise 255) 0 15 16 (finds 15 16)
    -- no policy has a region above 7
    ∷ untested (bytewise 16) 8 0 1 (none 0)
    ∷ []
