-- What 22 shows where it finds nothing wrong: the regions and the frame lie as the rules need them, and the memory is as long as all of them.
use Prim.Native.Nat.{ℕ, ◌+◌, ◌%◌, ◌≤◌, ◌<◌}
use mathlib.Core.Path.{◌≡◌, refl}
use mathlib.Core.Bool.{Bool, true, false, ◌&&◌, and-false}
use mathlib.Core.List.{List}
use native.Mathlib.Omega.{arith}
use lib.Dec.{leb, ltb, eqb}
use lib.ListN.{length, get_or}
use borrow.Author.Tests.{eqb-true, leb-true, ltb-true, ltb-false}
use Rattle.v8.proofs.Choice.{or_went, and_went}
use Rattle.v8.specs.Search.{all}
use Rattle.v8.proofs.Search.{all_at, needed, needed_eq}
use Rattle.memory.specs.Frame.{frame_bytes}
use Rattle.memory.specs.Place.{length_of}
use Rattle.machine_place.specs.Placement.{base_placed, base_placed_at, apart_from_region, apart_from_all, disjoint_in, frame_placed, placed_in}
use Rattle.rules.specs.Laws.{Laid}
use Rattle.guarantee.specs.Guarantee.{host_of}

module _ (regions : ℕ) (sizes bases : List ℕ) (returns frame : ℕ) (memory : List ℕ) (e : placed_in regions sizes bases returns frame memory ≡ true) where
  pub memory_long : length memory ≡ length_of sizes regions
  unfolding placed_in
  memory_long = needed_eq (placed_in regions sizes bases returns frame memory) (length memory) (length_of sizes regions) e (λ f. rw (f, and-false))

  pub return_aligned : returns % 4 ≡ 0
  unfolding placed_in
  return_aligned = needed_eq (placed_in regions sizes bases returns frame memory) (returns % 4) 0 e (λ f. simp f)

  based : (r : ℕ) → r < regions → base_placed_at sizes bases r ≡ true
  unfolding placed_in
  based r l =
      all_at (base_placed_at sizes bases) regions r
      (needed (placed_in regions sizes bases returns frame memory) (all (base_placed_at sizes bases) regions) e (λ f. rw (f, and-false))) l

  disjoint : (r : ℕ) → r < regions → disjoint_in sizes bases r ≡ true
  unfolding placed_in
  disjoint r l =
      all_at (disjoint_in sizes bases) regions r
      (needed (placed_in regions sizes bases returns frame memory) (all (disjoint_in sizes bases) regions) e (λ f. rw (f, and-false))) l

  frame-placed : frame_placed sizes bases frame regions ≡ true
  unfolding placed_in
  frame-placed = needed (placed_in regions sizes bases returns frame memory) (frame_placed sizes bases frame regions) e (λ f. rw (f, and-false))

  -- a base is placed
  base_rules : (base size : ℕ) → base_placed base size ≡ true → (1 ≤ base) × (base % 8 ≡ 0) × (base + size < 4294967296)
  base_rules base size t =
      let p = and_went (leb 1 base && eqb (base % 8) 0) (ltb (base + size) 4294967296) t in
      let q = and_went (leb 1 base) (eqb (base % 8) 0) p.0 in
      (leb-true 1 base q.0, eqb-true (base % 8) 0 q.1, ltb-true (base + size) 4294967296 p.1)

  region_base : (r : ℕ) → r < regions → (1 ≤ get_or bases r 0) × (get_or bases r 0 % 8 ≡ 0) × (get_or bases r 0 + get_or sizes r 0 < 4294967296)
  region_base r l = base_rules (get_or bases r 0) (get_or sizes r 0) (based r l)

  frame-base : (1 ≤ frame) × (frame % 8 ≡ 0) × (frame + frame_bytes < 4294967296)
  frame-base = base_rules frame frame_bytes (and_went (base_placed frame frame_bytes) (apart_from_all sizes bases frame frame_bytes regions) frame-placed).0

  -- no address lies in bytes that are apart from n regions, and in one of these
  apart_clash : (base size n q a : ℕ) → apart_from_all sizes bases base size n ≡ true → q < n → base ≤ a → a < base + size
      → get_or bases q 0 ≤ a → a < get_or bases q 0 + get_or sizes q 0 → ⊥
  apart_clash base size n q a t m r₀ r₁ q₀ q₁ =
      or_went (leb (base + size) (get_or bases q 0)) (leb (get_or bases q 0 + get_or sizes q 0) base) (all_at (apart_from_region sizes bases base size) n q t m)
      (λ u. no (get_or bases q 0) (leb-true (base + size) (get_or bases q 0) u) r₁ q₀)
      (λ u. no base (leb-true (get_or bases q 0 + get_or sizes q 0) base u) q₁ r₀)
    where
      no : {end : ℕ} (base : ℕ) → end ≤ base → a < end → base ≤ a → ⊥
      no base p q s = omega arith

  clash : (r q a : ℕ) → r < regions → q < r → get_or bases r 0 ≤ a → a < get_or bases r 0 + get_or sizes r 0
      → get_or bases q 0 ≤ a → a < get_or bases q 0 + get_or sizes q 0 → ⊥
  unfolding disjoint_in
  clash r q a l m = apart_clash (get_or bases r 0) (get_or sizes r 0) r q a (disjoint r l) m

  pub laid : regions ≤ 8 → Laid regions sizes (host_of bases returns frame)
  laid most =
      record {
        regions_most = most;
        some = λ r l. (region_base r l).0;
        aligned = λ r l. (region_base r l).1;
        below = λ r l. (region_base r l).2;
        one = λ r q a lr lq r₀ r₁ q₀ q₁. at r q a lr lq r₀ r₁ q₀ q₁ (ltb r q) refl (ltb q r) refl;
        frame_some = frame-base.0;
        frame_aligned = frame-base.1;
        frame_below = frame-base.2;
        frame_apart = λ r a l r₀ r₁ f₀ f₁. apart_clash frame frame_bytes regions r a
            (and_went (base_placed frame frame_bytes) (apart_from_all sizes bases frame frame_bytes regions) frame-placed).1 l f₀ f₁ r₀ r₁;
      }
    where
      at : (r q a : ℕ) → r < regions → q < regions → get_or bases r 0 ≤ a → a < get_or bases r 0 + get_or sizes r 0
          → get_or bases q 0 ≤ a → a < get_or bases q 0 + get_or sizes q 0 → (t : Bool) → ltb r q ≡ t → (u : Bool) → ltb q r ≡ u → r ≡ q
      at r q a lr lq r₀ r₁ q₀ q₁ true t u v = absurd (clash q r a lq (ltb-true r q t) q₀ q₁ r₀ r₁)
      at r q a lr lq r₀ r₁ q₀ q₁ false t true v = absurd (clash r q a lr (ltb-true q r v) r₀ r₁ q₀ q₁)
      at r q a lr lq r₀ r₁ q₀ q₁ false t false v = omega (arith, ltb-false r q t, ltb-false q r v)
