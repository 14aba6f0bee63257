-- The kinds of entries (document 01, "Rows"), told apart once: what an entry says is defined by its kind, a clause for each.
use Rattle.std.specs.Prelude.{ℕ, [], ◌∷◌, get_or}

-- "0 unset, 4 return address"; "1 number"; "2 address: region start plus an offset"; "3 address of a region's start, or null"; request 7: "Kind
-- 5 is the frame address"; any other number is no kind
pub data Kind : Type 0 where
  unset : Kind
  number : Kind
  address : Kind
  start : Kind
  return_address : Kind
  frame_address : Kind
  none : Kind

-- the kind that a number names
abbrev pub kind_of : ℕ → Kind
kind_of k = get_or (unset ∷ number ∷ address ∷ start ∷ return_address ∷ frame_address ∷ []) k none
