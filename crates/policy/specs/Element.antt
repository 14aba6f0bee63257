-- The elements of a field (document 01, "Policy"): how wide each is, and which numbers it holds.
-- Numbers stand in excess form, 2^31 more than the number, so that signed order is the order of ℕ.
use Rattle.std.specs.Prelude.{ℕ, ◌+◌, ◌-◌, cond, List, [], ◌∷◌, ltb, get_or}
use Rattle.v8.specs.Signed.{bias}

-- the widths in bytes by the elements' numbers: "1 unsigned byte, 2 signed byte, 3 unsigned half, 4 signed half, 5 signed word,
-- 6 address of a region's start, 7 such an address or null"; 0 is no element
abbrev pub widths : List ℕ
widths = 1 ∷ 1 ∷ 1 ∷ 2 ∷ 2 ∷ 4 ∷ 4 ∷ 4 ∷ []

-- an element's width; a number that is no element's is taken for one byte wide
unfoldable pub width_of : ℕ → ℕ
width_of e = cond (ltb e 8) (get_or widths e 0) 1

-- the least numbers by the elements' numbers: unsigned byte, signed byte, unsigned half, signed half, signed word
abbrev pub leasts : List ℕ
leasts = bias ∷ bias ∷ (bias - 128) ∷ bias ∷ (bias - 32768) ∷ (bias - 2147483648) ∷ []

-- the greatest numbers, likewise
abbrev pub mosts : List ℕ
mosts = bias ∷ (bias + 255) ∷ (bias + 127) ∷ (bias + 65535) ∷ (bias + 32767) ∷ (bias + 2147483647) ∷ []

-- the least number of an element from 1 to 5
unfoldable pub least_of : ℕ → ℕ
least_of e = get_or leasts e 0

-- the greatest number of an element from 1 to 5
unfoldable pub most_of : ℕ → ℕ
most_of e = get_or mosts e 0
