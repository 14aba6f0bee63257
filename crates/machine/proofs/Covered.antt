-- With a policy that obeys the rules and a memory as long as its regions and the frame, every access that is located lies in its region's part
-- of the memory, or in the frame's: the field found ends inside its region, and the region's part ends inside the memory; a scratch word ends inside the
-- frame, whose part ends the memory.
use Prim.Native.Nat.{ℕ, ◌+◌, ◌-◌, ◌≤◌, ◌<◌}
use mathlib.Core.Path.{◌≡◌, refl}
use mathlib.Core.Bool.{true, ◌&&◌, and-false}
use Rattle.std.specs.Prelude.{Option, Some, None}
use mathlib.Core.List.{List}
use native.Mathlib.Nat.{le_refl, le_trans}
use native.Mathlib.Omega.{arith}
use lib.Dec.{leb, ltb}
use lib.ListN.{length}
use borrow.Author.Tests.{eqb-true, ltb-true}
use Rattle.v8.proofs.Choice.{cond_both, and_went}
use Rattle.v8.proofs.Search.{needed_eq}
use Rattle.policy.specs.declared.Policy.{Policy}
use Rattle.policy.specs.Policy.{policy_ok}
use Rattle.policy_search.specs.Find.{find_field}
use Rattle.policy.specs.Laws.{WellFormed}
use Rattle.policy.proofs.WellFormed.{obeys}
use Rattle.policy_search.proofs.FoundField.{found_holds}
use Rattle.memory.specs.Frame.{frame_bytes, scratch_count, scratch_offset, is_scratch, scratch_at}
use Rattle.memory.specs.Place.{length_of}
use Rattle.memory.proofs.Scratch.{scratch_offsets}
use Rattle.memory.proofs.Starts.{part_ends}
use Rattle.v8.specs.declared.Access.{Access}
use Rattle.access.specs.Layout.{layout_of}
use Rattle.access.specs.Serve.{access_width, is_word}
use Rattle.access.specs.Locate.{touches, located, region_of, scratch_in, locate}
use Rattle.machine_access.specs.Covered.{Covered, Framed, Lies, Covers}
use Rattle.machine_place.specs.Placement.{placed_in}

module _ (p : Policy) (bases : List ℕ) (returns frame : ℕ) (memory : List ℕ) (placed : placed_in p.regions.count p.regions.sizes bases returns frame memory ≡ true) where
  -- memory is as long as all sizes together and the frame
  pub long : length memory ≡ length_of p.regions.sizes p.regions.count
  unfolding placed_in
  long = needed_eq _ (length memory) (length_of p.regions.sizes p.regions.count) placed (λ e. simp (e, and-false))

  -- there is one base for each region
  pub based : length bases ≡ p.regions.count
  unfolding placed_in
  based = needed_eq _ (length bases) p.regions.count placed (λ e. simp (e, and-false))

  module _ (w : WellFormed p) (a : Access) (r offset : ℕ) (h : r < p.regions.count) where
    below : {n m : ℕ} → n ≤ m → n ≤ m + frame_bytes
    below l = omega arith

    at_place : (place : ℕ) → find_field p r offset (offset + access_width a) ≡ Some place → Covered p.regions.sizes (length memory) (access_width a) r offset
    at_place place e =
        let f = found_holds p r offset (offset + access_width a) place e in
        record {
          region = f.region_most;
          inside = le_trans f.holds.1 (w.field r f.index h f.counted).inside;
          part = rw long (below (part_ends p.regions.sizes r p.regions.count h));
        }

    found : (x : Option ℕ) → find_field p r offset (offset + access_width a) ≡ x → Lies p.regions (length memory) (access_width a) (located p.fields a r offset x)
    found (Some place) e =
        cond_both (Lies p.regions (length memory) (access_width a)) (touches p.fields a place) (λ t. at_place place e) (λ t. tt)
    found None e = tt

  -- LD and ST of a scratch word
  scratch : p.regions.count ≤ 8 → (a : Access) (address : ℕ) → scratch_in frame a address ≡ true → Framed p.regions.sizes p.regions.count (length memory) (access_width a) (scratch_at (address - frame))
  unfolding scratch_in
  scratch few a address t =
      let tests = and_went (is_word a && leb frame address) (is_scratch (address - frame)) t in
      let four = eqb-true (access_width a) 4 (and_went (is_word a) (leb frame address) tests.0).0 in
      let s = scratch_offsets (address - frame) tests.1 in
      record { few = few; word = s.word; inside = rw four (ends _ s.word); part = rw long (le_refl _) }
    where
      ends : (k : ℕ) → k < scratch_count → scratch_offset k + 4 ≤ frame_bytes
      ends k l = omega arith

  pub covers : policy_ok p ≡ true → Covers (layout_of p bases frame) (length memory)
  unfolding locate
  covers ok a address =
      let w = obeys p ok in
      cond_both (Lies p.regions (length memory) (access_width a)) (ltb (region_of (layout_of p bases frame) address) p.regions.count)
      (λ t. found w a _ _ (ltb-true _ _ t) _ refl)
      (λ t. cond_both (Lies p.regions (length memory) (access_width a)) (scratch_in frame a address) (λ u. scratch w.regions_most a address u) (λ u. tt))
