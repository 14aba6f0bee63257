-- An access is located exactly where it is allowed. A region that is found holds the address, and a field that is found holds the bytes; both
-- searches find what there is, since no address lies in two regions and some bytes are held by one field at most.
use Prim.Native.Nat.{ℕ, ◌+◌, ◌-◌, ◌≤◌, ◌<◌}
use mathlib.Core.Path.{◌≡◌, refl, sym, ap, subst, ◌∙◌}
use mathlib.Core.Bool.{Bool, true, false, and-eq-true_iff}
use mathlib.Core.List.{List}
use native.Mathlib.Omega.{arith}
use lib.Dec.{leb, ltb}
use lib.ListN.{get_or}
use borrow.Author.Tests.{leb-true, le-leb, ltb-true, ltb-false, lt-ltb}
use Rattle.v8.proofs.Choice.{cond_went}
use Rattle.v8.specs.Search.{first}
use Rattle.v8.proofs.Search.{first_passes, first_least}
use Rattle.v8.specs.declared.LoadOp.TheVariants.{Ld, Ldub, Lduh, Ldsb, Ldsh}
use Rattle.v8.specs.declared.StoreOp.TheVariants.{St, Stb, Sth}
use Rattle.v8.specs.declared.Access.{Access}
use Rattle.v8.specs.declared.Access.TheVariants.{Loads, Stores}
use Rattle.policy.specs.declared.Policy.{Policy}
use Rattle.std.specs.Prelude.{Option, Some, None}
use Rattle.policy.specs.Policy.{place_of, field_at}
use Rattle.policy_search.specs.Find.{find_field}
use Rattle.policy.specs.Laws.{WellFormed}
use Rattle.policy_search.proofs.FoundField.{found_holds, finds}
use Rattle.access.specs.declared.Located.{Located}
use Rattle.access.specs.declared.Located.TheVariants.{At, Scratch, Nowhere}
use Rattle.access.specs.Serve.{access_width, serves, allows}
use Rattle.access.specs.Layout.{layout_of}
use Rattle.access.specs.Locate.{inside_region, region_in, touches, located, scratch_in, in_frame, locate}
use Rattle.access.specs.Laws.{Disjoint, Allowed, LocatedAllowed, AllowedLocated, NowhereAllowed}

-- an access touches some byte
pub width_some : (a : Access) → 1 ≤ access_width a
width_some (Loads Ld) = omega arith
width_some (Loads Ldub) = omega arith
width_some (Loads Lduh) = omega arith
width_some (Loads Ldsb) = omega arith
width_some (Loads Ldsh) = omega arith
width_some (Stores St) = omega arith
width_some (Stores Stb) = omega arith
width_some (Stores Sth) = omega arith

-- what the test of a region says
pub inside_says : (sizes bases : List ℕ) (a r : ℕ) → inside_region sizes bases a r ≡ true → (get_or bases r 0 ≤ a) × (a < get_or bases r 0 + get_or sizes r 0)
unfolding inside_region
inside_says sizes bases a r e =
    let p = (and-eq-true_iff (leb (get_or bases r 0) a) (ltb a (get_or bases r 0 + get_or sizes r 0))).0 e in
    (leb-true (get_or bases r 0) a p.0, ltb-true a (get_or bases r 0 + get_or sizes r 0) p.1)

not_there : {C : Type 0} (r o : ℕ) → ◌≡◌ {A = Located} Nowhere (At r (record { 0 = o })) → C
not_there r o e = let z : ◌≡◌ {A = ℕ} 0 1 = cc in absurd (omega arith)

abbrev region_at : Located → ℕ
region_at (At r o) = r
region_at (Scratch k) = 0
region_at Nowhere = 0

abbrev offset_at : Located → ℕ
offset_at (At r o) = o.0
offset_at (Scratch k) = 0
offset_at Nowhere = 0

region_is : (r q o n : ℕ) → At r (record { 0 = o }) ≡ At q (record { 0 = n }) → (r ≡ q) × (o ≡ n)
region_is r q o n e = (ap region_at e, ap offset_at e)

-- nor is what lies in the frame in a region
not_framed : {C : Type 0} (frame : ℕ) (a : Access) (address r o : ℕ) → in_frame frame a address ≡ At r (record { 0 = o }) → C
not_framed frame a address r o e = cond_went (scratch_in frame a address) _ _ _ e (λ _ h. not_scratch h) (λ _ h. not_there r o h)
  where
    not_scratch : {C : Type 0} {k : ℕ} → Scratch k ≡ At r (record { 0 = o }) → C
    not_scratch e = let z : ◌≡◌ {A = ℕ} 0 1 = cc in absurd (omega arith)

module _ (p : Policy) (bases : List ℕ) (a : Access) (address : ℕ) where
  -- the region that is found, and the rest of the address there
  abbrev region : ℕ
  region = region_in p.regions.count p.regions.sizes bases address

  abbrev rest : ℕ
  rest = address - get_or bases region 0

  inside : region < p.regions.count → inside_region p.regions.sizes bases address region ≡ true
  unfolding region_in
  inside l = first_passes (inside_region p.regions.sizes bases address) 0 p.regions.count l

  at_place : region < p.regions.count → (place : ℕ) → find_field p region rest (rest + access_width a) ≡ Some place
      → touches p.fields a place ≡ true → Allowed p bases a address region rest
  unfolding field_at
  at_place l place f t =
      let h = found_holds p region rest (rest + access_width a) place f in
      let g = (and-eq-true_iff (serves a (field_at p place).element) (allows a (field_at p place).permission)).0 t in
      record {
        region = l;
        address_is = whole (get_or bases region 0) address (inside_says p.regions.sizes bases address region (inside l)).0;
        field = h.index;
        field_is = h.counted;
        holds = h.holds;
        serving = subst (λ (n : ℕ). serves a (field_at p n).element ≡ true) h.here g.0;
        allowing = subst (λ (n : ℕ). allows a (field_at p n).permission ≡ true) h.here g.1;
      }
    where
      whole : (b n : ℕ) → b ≤ n → n ≡ b + (n - b)
      whole b n l = omega arith

  module _ (r offset : ℕ) where
    same : (region ≡ r) × (rest ≡ offset) → Allowed p bases a address region rest → Allowed p bases a address r offset
    same s x = subst (λ (q : ℕ). Allowed p bases a address q offset) s.0 (subst (λ (o : ℕ). Allowed p bases a address region o) s.1 x)

    by_found : region < p.regions.count → (f : Option ℕ) → find_field p region rest (rest + access_width a) ≡ f
        → located p.fields a region rest f ≡ At r (record { 0 = offset }) → Allowed p bases a address r offset
    by_found l (Some place) f h =
        cond_went (touches p.fields a place) _ _ _ h
        (λ t g. same (region_is region r rest offset g) (at_place l place f t))
        (λ _ g. not_there r offset g)
    by_found l None f h = not_there r offset h

-- what is located is allowed
pub located_allowed : LocatedAllowed
unfolding locate
located_allowed p bases frame a address r offset e =
    cond_went (ltb (region p bases a address) p.regions.count) _ _ _ e
    (λ t h. by_found p bases a address r offset (ltb-true (region p bases a address) p.regions.count t) _ refl h)
    (λ _ h. not_framed frame a address r offset h)

module _ (p : Policy) (bases : List ℕ) (wf : WellFormed p) (a : Access) (address r offset : ℕ) (x : Allowed p bases a address r offset) where
  abbrev passes : ℕ → Bool
  passes = inside_region p.regions.sizes bases address

  abbrev lowest : ℕ
  lowest = first passes 0 p.regions.count

  in-region : passes r ≡ true
  unfolding inside_region
  in-region =
      rw (
        le-leb (get_or bases r 0) address (omega (arith, x.address_is)),
        lt-ltb address (get_or bases r 0 + get_or p.regions.sizes r 0)
            (end (get_or bases r 0) x.address_is x.holds.1 (wf.field r x.field x.region x.field_is).inside (width_some a)),
      )
    where
      end : {e s w : ℕ} (b : ℕ) → address ≡ b + offset → offset + w ≤ e → e ≤ s → 1 ≤ w → address < b + s
      end b d h l m = omega arith

  region_found : (frame : ℕ) → Disjoint (layout_of p bases frame) → region_in p.regions.count p.regions.sizes bases address ≡ r
  unfolding region_in
  region_found frame disjoint = at (ltb r lowest) refl
    where
      differ : {C : Type 0} → false ≡ true → C
      differ e = let z : ◌≡◌ {A = ℕ} 0 1 = cc in absurd (omega arith)

      not_above : {n : ℕ} (k : ℕ) → k ≤ r → r < n → k < n
      not_above k l m = omega arith

      at : (t : Bool) → ltb r lowest ≡ t → lowest ≡ r
      at true t = differ (sym (first_least passes 0 p.regions.count r (omega arith) (ltb-true r lowest t)) ∙ in-region)
      at false t =
          let l = not_above lowest (ltb-false r lowest t) x.region in
          disjoint lowest r address l x.region (first_passes passes 0 p.regions.count l) in-region

  field_found : find_field p r offset (offset + access_width a) ≡ Some (place_of r x.field)
  field_found = finds p wf r x.field offset (offset + access_width a) x.region x.field_is (more (width_some a)) x.holds
    where
      more : {w : ℕ} → 1 ≤ w → offset < offset + w
      more l = omega arith

  touched : touches p.fields a (place_of r x.field) ≡ true
  unfolding field_at
  touched = rw (x.serving, x.allowing)

-- what is allowed is located
pub allowed_located : AllowedLocated
unfolding locate
allowed_located p bases frame wf disjoint a address r offset x =
    rw (
      region_found p bases wf a address r offset x frame disjoint,
      lt-ltb r p.regions.count x.region,
      rest_is (get_or bases r 0) x.address_is,
      field_found p bases wf a address r offset x,
      touched p bases wf a address r offset x,
    )
  where
    rest_is : (b : ℕ) → address ≡ b + offset → address - b ≡ offset
    rest_is b e = omega arith

pub nowhere_allowed : NowhereAllowed
nowhere_allowed p bases frame wf disjoint a address n r offset x = not_there r offset (sym n ∙ allowed_located p bases frame wf disjoint a address r offset x)
