-- An access that lies inside a field lies at one of the 128 places: each test keeps the place that the search found. One of a scratch word is of one
-- of the six.
use Prim.Native.Nat.{ℕ, ◌-◌, ◌<◌}
use mathlib.Core.Path.{◌≡◌, refl, sym, ◌∙◌, subst}
use mathlib.Core.Bool.{Bool, not, ◌&&◌}
use native.Mathlib.Omega.{arith}
use lib.Dec.{ltb}
use borrow.Author.Tests.{not-false}
use Rattle.std.specs.Prelude.{Option, Some, None}
use Rattle.v8.specs.Signed.{bias}
use Rattle.v8.proofs.Choice.{cond_both}
use Rattle.v8.specs.declared.Access.{Access}
use Rattle.policy.specs.declared.Field.{Field}
use Rattle.policy.specs.declared.Policy.{Policy}
use Rattle.policy_search.specs.declared.Search.{Search}
use Rattle.policy_search.specs.Find.{find_field, search_in}
use Rattle.policy_search.proofs.FoundField.{is_found, found_holds}
use Rattle.memory.specs.Frame.{scratch_count, is_scratch}
use Rattle.memory.proofs.Scratch.{scratch_offsets}
use Rattle.access.specs.Serve.{access_width, is_word, serves, allows}
use Rattle.sets.specs.declared.NumberSet.{NumberSet}
use Rattle.sets_rules.specs.Rules.{add_sets}
use Rattle.rows.specs.declared.Entry.{Entry}
use Rattle.rows.specs.Entry.{is_number, is_address, is_start_or_null, is_frame, is_constant, word_of}
use Rattle.rules.specs.declared.Reach.{Reach}
use Rattle.rules.specs.declared.Reach.TheVariants.{Inside, Scratch, Outside}
use Rattle.rules.specs.Reach.{reach_end, on_grid, in_field, in_found, in_region, in_frame, frame_reach, reach_of}

abbrev pub Placed : Reach → Type 0
Placed (Inside place) = place < 128
Placed (Scratch k) = k < scratch_count
Placed (Outside number r) = Unit {0}

-- the place of a field that was found
place_found : (p : Policy) (r low end place : ℕ) → find_field p r low end ≡ Some place → place < 128
place_found p r low end place e = let h = found_holds p r low end place e in omega (arith, h.here, h.region_most, h.index_most)

-- .. as a search says it
pub search_placed : (p : Policy) (r low end : ℕ) (s : Search) (place : ℕ) → s ≡ search_in p.regions.fields p.fields r low end → s.found ≡ Some place → place < 128
search_placed p r low end s place is e = place_found p r low end place (sym (is_found is) ∙ e)

module _ (p : Policy) (a : Access) (rs1 : ℕ) where
  field_placed : (f : Field) (s : NumberSet) (place : ℕ) → place < 128 → Placed (in_field f a rs1 s place)
  unfolding in_field
  field_placed f s place l =
      cond_both Placed (ltb 4096 (reach_end s (access_width a))) (λ _. tt)
      λ _. cond_both Placed (not (serves a f.element)) (λ _. tt)
      λ _. cond_both Placed (not (on_grid s (access_width a))) (λ _. tt)
      λ _. cond_both Placed (not (allows a f.permission)) (λ _. tt)
      λ _. l

  found_placed : (r low end : ℕ) (s : NumberSet) (f : Option ℕ) → find_field p r low end ≡ f → Placed (in_found p.fields a rs1 s f)
  found_placed r low end s (Some place) e = field_placed _ s place (place_found p r low end place e)
  found_placed r low end s None e = tt

  region_placed : (r : ℕ) (s : NumberSet) → Placed (in_region p.regions.fields p.fields a rs1 r s)
  unfolding in_region
  region_placed r s =
      cond_both Placed (ltb s.lo bias) (λ _. tt)
      (λ _. found_placed r (s.lo - bias) (reach_end s (access_width a)) s (find_field p r (s.lo - bias) (reach_end s (access_width a))) refl)

  frame-placed : (offset : ℕ) → Placed (in_frame a rs1 offset)
  unfolding in_frame
  frame-placed offset =
      cond_both Placed (not (is_scratch offset)) (λ _. tt)
      λ t. cond_both Placed (not (is_word a)) (λ _. tt) (λ _. (scratch_offsets offset (not-false (is_scratch offset) t)).word)

  reach_placed : (frame : Bool) (rs2 : ℕ) (x y : Entry) → Placed (reach_of p.regions.fields p.fields a frame rs1 x rs2 y)
  unfolding reach_of frame_reach
  reach_placed frame rs2 x y =
      cond_both Placed (is_start_or_null x) (λ _. tt)
      λ _. cond_both Placed (is_start_or_null y) (λ _. tt)
      λ _. cond_both Placed frame (λ _. tt)
      λ _. cond_both Placed (is_address x && is_number y) (λ _. region_placed x.region (add_sets x.set y.set))
      λ _. cond_both Placed (is_number x && is_address y) (λ _. region_placed y.region (add_sets x.set y.set))
      λ _. cond_both Placed (is_frame x && is_constant y) (λ _. frame-placed (word_of y))
      λ _. cond_both Placed (is_constant x && is_frame y) (λ _. frame-placed (word_of x)) (λ _. tt)

pub placed : (p : Policy) (a : Access) (frame : Bool) (rs1 rs2 : ℕ) (x y : Entry) (r s : Reach)
    → r ≡ reach_of p.regions.fields p.fields a frame rs1 x rs2 y → r ≡ s → Placed s
placed p a frame rs1 rs2 x y r s is e = subst Placed (sym is ∙ e) (reach_placed p a rs1 frame rs2 x y)
