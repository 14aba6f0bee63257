-- The listing is the smallest table that is closed under the rules. The proofs are in proofs/.
use Rattle.std.specs.Prelude.{ℕ, ◌*◌, ◌≤◌, ◌<◌, ◌≡◌, true, false, List, length}
use Rattle.v8.specs.declared.Reading.{Reading}
use Rattle.marks.specs.Marks.{register_count}
use Rattle.lister_rules.specs.Table.{mark_at, TableAtMost, height}
use Rattle.lister_rules.specs.Rules.{closed}
use Rattle.lister.specs.Listing.{raised_once, listing_of}

-- It is closed.
abbrev pub ListingClosed : Type 0
ListingClosed = (readings : List Reading) (entry : List ℕ) → closed readings entry (listing_of readings entry) ≡ true

-- Every closed table has at least its marks.
abbrev pub ListingSmallest : Type 0
ListingSmallest =
    (readings : List Reading) (entry table : List ℕ) → closed readings entry table ≡ true → TableAtMost (listing_of readings entry) table

-- So there is one: a closed table that is at most every closed one has the listing's marks, however it was found.
abbrev pub Smallest : List Reading → List ℕ → List ℕ → Type 0
Smallest readings entry table =
    (closed readings entry table ≡ true) × ((other : List ℕ) → closed readings entry other ≡ true → TableAtMost table other)

abbrev pub ListingUnique : Type 0
ListingUnique =
    (readings : List Reading) (entry table : List ℕ) → Smallest readings entry table → (k : ℕ) → mark_at table k ≡ mark_at (listing_of readings entry) k

-- Raising ends: while a table is not closed each raise makes it higher, and it is never higher than 2 at each mark.
abbrev pub RaisingEnds : Type 0
RaisingEnds =
    (readings : List Reading) (entry table : List ℕ) → length table ≡ register_count * length readings → closed readings entry table ≡ false
    → (height table < height (raised_once readings entry table)) × (height (raised_once readings entry table) ≤ 2 * length table)
