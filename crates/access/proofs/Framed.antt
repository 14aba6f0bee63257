-- An access is located at a scratch word of the frame exactly where it is LD or ST of that word, and no region holds its address.
use Prim.Native.Nat.{ℕ, ◌+◌, ◌-◌, ◌≤◌, ◌<◌}
use mathlib.Core.Path.{◌≡◌, refl, sym, ap, subst, ◌∙◌}
use mathlib.Core.Bool.{Bool, true, false, ◌&&◌}
use mathlib.Core.List.{List}
use native.Mathlib.Omega.{arith}
use lib.Dec.{leb, ltb}
use lib.ListN.{get_or}
use borrow.Author.Tests.{leb-true, le-leb, ltb-true}
use Rattle.v8.proofs.Choice.{cond_went, and_went}
use Rattle.v8.proofs.Search.{first_passes}
use Rattle.v8.specs.declared.Access.{Access}
use Rattle.policy.specs.declared.Policy.{Policy}
use Rattle.std.specs.Prelude.{Option, Some, None}
use Rattle.policy.specs.declared.Field.{Field}
use Rattle.policy_search.specs.Find.{find_field}
use Rattle.memory.specs.Frame.{scratch_count, scratch_offset, is_scratch, scratch_at}
use Rattle.memory.proofs.Scratch.{scratch_offsets, scratch_words}
use Rattle.access.specs.declared.Located.{Located}
use Rattle.access.specs.declared.Located.TheVariants.{At, Scratch, Nowhere}
use Rattle.access.specs.Serve.{access_width, is_word}
use Rattle.access.specs.Locate.{inside_region, region_in, touches, located, scratch_in, in_frame, locate}
use Rattle.access.specs.Laws.{LocatedScratch, ScratchLocated}

not_scratch : {C : Type 0} (k : ℕ) → ◌≡◌ {A = Located} Nowhere (Scratch k) → C
not_scratch k e = let z : ◌≡◌ {A = ℕ} 0 1 = cc in absurd (omega arith)

-- what is located in a region is no scratch word
not_in_region : {C : Type 0} (fields : List Field) (a : Access) (r offset k : ℕ) (f : Option ℕ) → located fields a r offset f ≡ Scratch k → C
not_in_region fields a r offset k (Some place) e =
    cond_went (touches fields a place) _ _ _ e (λ _ h. never h) (λ _ h. not_scratch k h)
  where
    never : {C : Type 0} → At r (record { 0 = offset }) ≡ Scratch k → C
    never e = let z : ◌≡◌ {A = ℕ} 0 1 = cc in absurd (omega arith)
not_in_region fields a r offset k None e = not_scratch k e

-- a scratch word that an access outside the regions lies at
in_frame_lem : (frame : ℕ) (a : Access) (address k : ℕ) → in_frame frame a address ≡ Scratch k
    → (is_word a ≡ true) × (k < scratch_count) × (address ≡ frame + scratch_offset k)
unfolding scratch_in
in_frame_lem frame a address k e = cond_went (scratch_in frame a address) _ _ _ e (λ t h. there t h) (λ _ h. not_scratch k h)
  where
    whole : (n o : ℕ) → frame ≤ n → n - frame ≡ o → n ≡ frame + o
    whole n o l e = omega arith

    there : scratch_in frame a address ≡ true → Scratch (scratch_at (address - frame)) ≡ Scratch k
        → (is_word a ≡ true) × (k < scratch_count) × (address ≡ frame + scratch_offset k)
    there t h =
        let p = and_went (is_word a && leb frame address) (is_scratch (address - frame)) t in
        let q = and_went (is_word a) (leb frame address) p.0 in
        let s = scratch_offsets (address - frame) p.1 in
        let named : scratch_at (address - frame) ≡ k = cc in
        (q.0, subst (λ (n : ℕ). n < scratch_count) named s.word, whole address (scratch_offset k) (leb-true frame address q.1) (s.here ∙ ap scratch_offset named))

pub located_scratch : LocatedScratch
unfolding locate
located_scratch p bases frame a address k e =
    let r = region_in p.regions.count p.regions.sizes bases address in
    let offset = address - get_or bases r 0 in
    cond_went (ltb r p.regions.count) _ _ _ e
    (λ _ h. not_in_region p.fields a r offset k (find_field p r offset (offset + access_width a)) h)
    (λ _ h. in_frame_lem frame a address k h)

module _ (p : Policy) (bases : List ℕ) (address : ℕ) (none : (r : ℕ) → r < p.regions.count → inside_region p.regions.sizes bases address r ≡ false) where
  abbrev found : ℕ
  found = region_in p.regions.count p.regions.sizes bases address

  -- an address that no region holds is found in none
  in_none : (t : Bool) → ltb found p.regions.count ≡ t → t ≡ false
  unfolding region_in
  in_none true e =
      let l = ltb-true found p.regions.count e in
      sym (first_passes (inside_region p.regions.sizes bases address) 0 p.regions.count l) ∙ none found l
  in_none false e = refl

pub scratch_located : ScratchLocated
unfolding locate scratch_in
scratch_located p bases frame a address k few word here none =
    let w = scratch_words k few in
    rw (in_none p bases address none _ refl, rest, word, le-leb frame address above, w.0, w.1)
  where
    rest : address - frame ≡ scratch_offset k
    rest = omega arith

    above : frame ≤ address
    above = omega arith
