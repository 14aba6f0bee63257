-- Where an access lies (document 01, fault 103: "not inside one field of matching element and permission"; document 02, request 7: "103 for the
-- rest of the frame and other widths").
use Rattle.std.specs.Prelude.{ℕ, ◌+◌, ◌-◌, ◌≤◌, ◌<◌, Bool, cond, ◌&&◌, List, Option, Some, None, leb, ltb, get_or}
use Rattle.v8.specs.Search.{first}
use Rattle.policy.specs.declared.Field.{Field}
use Rattle.policy.specs.Policy.{no_field}
use Rattle.policy_search.specs.Find.{find_in}
use Rattle.memory.specs.Frame.{is_scratch, scratch_at}
use Rattle.v8.specs.declared.Access.{Access}
use Rattle.access.specs.declared.Located.{Located}
use Rattle.access.specs.declared.Located.TheVariants.{At, Scratch, Nowhere}
use Rattle.access.specs.Serve.{access_width, is_word, serves, allows}
use Rattle.access.specs.Layout.{Layout}

-- an address lies in region r
unfoldable pub inside_region : List ℕ → List ℕ → ℕ → ℕ → Bool
inside_region sizes bases address r = leb (get_or bases r 0) address && ltb address (get_or bases r 0 + get_or sizes r 0)

-- an address lies less than 2^16 bytes above a base, as one in a region does
pub record Near (base address : ℕ) : Type 0 where
  pub above : base ≤ address
  pub close : address < base + 65536

-- the region that an address lies in; the number of regions if it lies in none
unfoldable pub region_in : ℕ → List ℕ → List ℕ → ℕ → ℕ
region_in regions sizes bases address = first (inside_region sizes bases address) 0 regions

abbrev pub region_of : Layout → ℕ → ℕ
region_of l address = region_in l.regions.count l.regions.sizes l.bases address

-- the base of region r
abbrev pub base_in : Layout → ℕ → ℕ
base_in l r = get_or l.bases r 0

-- the field at a place is one that an access may touch
abbrev pub touches : List Field → Access → ℕ → Bool
touches fields a place = serves a (get_or fields place no_field).element && allows a (get_or fields place no_field).permission

-- an offset of region r, if the field found there is one that the access may touch
abbrev pub located : List Field → Access → ℕ → ℕ → Option ℕ → Located
located fields a r offset (Some place) = cond (touches fields a place) (At r (record { 0 = offset })) Nowhere
located fields a r offset None = Nowhere

-- where an access to an offset of region r lies, by how many fields each region has
abbrev pub locate_in : List ℕ → List Field → Access → ℕ → ℕ → Located
locate_in counts fields a r offset = located fields a r offset (find_in counts fields r offset (offset + access_width a))

-- an access is LD or ST of a scratch word of the frame
unfoldable pub scratch_in : ℕ → Access → ℕ → Bool
scratch_in frame a address = is_word a && leb frame address && is_scratch (address - frame)

-- where an access to an address outside the regions lies: at that scratch word, or nowhere
abbrev pub in_frame : ℕ → Access → ℕ → Located
in_frame frame a address = cond (scratch_in frame a address) (Scratch (scratch_at (address - frame))) Nowhere

-- where an access to an address lies: in a region, or else in the frame, which overlaps none
unfoldable pub locate : Layout → Access → ℕ → Located
locate l a address =
    cond (ltb (region_of l address) l.regions.count)
    (locate_in l.regions.fields l.fields a (region_of l address) (address - base_in l (region_of l address)))
    (in_frame l.frame a address)
