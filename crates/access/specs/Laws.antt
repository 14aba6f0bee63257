-- Where an access lies, as document 01 says it (fault 103: "not inside one field of matching element and permission"): an access is located exactly
-- where some region and some field of it hold its bytes, serve it and allow it; or at a scratch word of the frame exactly where it is LD or ST of that
-- word (document 02, request 7: "103 for the rest of the frame and other widths"). The proofs are in proofs/.
use Rattle.std.specs.Prelude.{ℕ, ◌+◌, ◌<◌, ◌≡◌, true, false, List, get_or}
use Rattle.v8.specs.declared.Access.{Access}
use Rattle.policy.specs.declared.Policy.{Policy}
use Rattle.policy.specs.Policy.{count_of, place_of, field_at}
use Rattle.policy.specs.Laws.{WellFormed, Holds}
use Rattle.memory.specs.Frame.{scratch_count, scratch_offset}
use Rattle.access.specs.declared.Located.TheVariants.{At, Scratch, Nowhere}
use Rattle.access.specs.Serve.{access_width, is_word, serves, allows}
use Rattle.access.specs.Layout.{Layout, layout_of}
use Rattle.access.specs.Locate.{inside_region, locate}

-- "regions are disjoint": no address lies in two of them
abbrev pub Disjoint : Layout → Type 0
Disjoint l =
    (r q address : ℕ) → r < l.regions.count → q < l.regions.count → inside_region l.regions.sizes l.bases address r ≡ true
    → inside_region l.regions.sizes l.bases address q ≡ true → r ≡ q

-- the address is that of an offset of region r, where a field holds the bytes of the access, serves it and allows it
pub record Allowed (p : Policy) (bases : List ℕ) (a : Access) (address r offset : ℕ) : Type 0 where
  pub region : r < p.regions.count
  pub address_is : address ≡ get_or bases r 0 + offset
  pub field : ℕ
  pub field_is : field < count_of p r
  pub holds : Holds (field_at p (place_of r field)) offset (offset + access_width a)
  pub serving : serves a (field_at p (place_of r field)).element ≡ true
  pub allowing : allows a (field_at p (place_of r field)).permission ≡ true

-- An access that is located is allowed there ..
abbrev pub LocatedAllowed : Type 0
LocatedAllowed =
    (p : Policy) (bases : List ℕ) (frame : ℕ) (a : Access) (address r offset : ℕ) → locate (layout_of p bases frame) a address ≡ At r (record { 0 = offset })
    → Allowed p bases a address r offset

-- .. and one that is allowed somewhere is located there.
abbrev pub AllowedLocated : Type 0
AllowedLocated =
    (p : Policy) (bases : List ℕ) (frame : ℕ) → WellFormed p → Disjoint (layout_of p bases frame) → (a : Access) (address r offset : ℕ)
    → Allowed p bases a address r offset → locate (layout_of p bases frame) a address ≡ At r (record { 0 = offset })

-- So it lies nowhere only if it is allowed nowhere.
abbrev pub NowhereAllowed : Type 0
NowhereAllowed =
    (p : Policy) (bases : List ℕ) (frame : ℕ) → WellFormed p → Disjoint (layout_of p bases frame) → (a : Access) (address : ℕ)
    → locate (layout_of p bases frame) a address ≡ Nowhere → (r offset : ℕ) → Allowed p bases a address r offset → ⊥

-- An access that is located at a scratch word is LD or ST of it ..
abbrev pub LocatedScratch : Type 0
LocatedScratch =
    (p : Policy) (bases : List ℕ) (frame : ℕ) (a : Access) (address k : ℕ) → locate (layout_of p bases frame) a address ≡ Scratch k
    → (is_word a ≡ true) × (k < scratch_count) × (address ≡ frame + scratch_offset k)

-- .. and LD and ST of one are located there, if it lies in no region.
abbrev pub ScratchLocated : Type 0
ScratchLocated =
    (p : Policy) (bases : List ℕ) (frame : ℕ) (a : Access) (address k : ℕ) → k < scratch_count → is_word a ≡ true → address ≡ frame + scratch_offset k
    → ((r : ℕ) → r < p.regions.count → inside_region p.regions.sizes bases address r ≡ false)
    → locate (layout_of p bases frame) a address ≡ Scratch k
