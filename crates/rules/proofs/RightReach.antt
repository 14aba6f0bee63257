-- An access that passed the conditions lies where the machine needs it: the field that was found holds every byte from the lowest to the
-- highest offset, so it holds those of the offset that is there; the offsets' grid is a multiple of the width. The frame address and the offset of a
-- scratch word add up to that word's address, since the frame ends below 2^32.
use Prim.Native.Nat.{ℕ, ◌+◌, ◌-◌, ◌%◌, ◌≤◌, ◌<◌}
use mathlib.Core.Path.{◌≡◌, refl, sym, ap, ◌∙◌, subst}
use mathlib.Core.Logic.{◌⊎◌, inl, inr, ⊎_elim}
use mathlib.Core.Bool.{Bool, true, not, ◌&&◌}
use native.Mathlib.Omega.{arith}
use lib.Dec.{ltb, eqb}
use borrow.Author.Tests.{eqb-true, ltb-false, not-false}
use Rattle.std.specs.Prelude.{Option, Some, None}
use Rattle.v8.specs.Signed.{bias}
use Rattle.v8.proofs.Choice.{cond_both, and_went}
use Rattle.v8.specs.declared.AluOp.TheVariants.{Add}
use Rattle.v8.specs.declared.LoadOp.TheVariants.{Ld, Ldub, Lduh, Ldsb, Ldsh}
use Rattle.v8.specs.declared.StoreOp.TheVariants.{St, Stb, Sth}
use Rattle.v8.specs.declared.Access.{Access}
use Rattle.v8.specs.declared.Access.TheVariants.{Loads, Stores}
use Rattle.alu.specs.Result.{add32}
use Rattle.policy.specs.declared.Policy.{Policy}
use Rattle.policy.specs.declared.Field.{Field}
use Rattle.policy.specs.Policy.{size_of, place_of, field_at, field_end}
use Rattle.policy_search.specs.Find.{find_field}
use Rattle.policy.specs.Laws.{WellFormed}
use Rattle.policy_search.specs.Laws.{FoundHere}
use Rattle.policy_search.proofs.FoundField.{found_holds}
use Rattle.memory.specs.Frame.{is_scratch}
use Rattle.memory.proofs.Scratch.{scratch_offsets}
use Rattle.access.specs.Serve.{access_width, is_word, serves, allows}
use Rattle.sets.specs.declared.NumberSet.{NumberSet}
use Rattle.sets.specs.Sets.{Step, s1, s2, s4, SetRules, Member}
use Rattle.sets_rules.specs.Rules.{add_sets}
use Rattle.sets_rules.specs.Laws.{Offset}
use Rattle.sets.proofs.Steps.{by_step, sum_on, difference_on, finer_on, finer_of}
use Rattle.sets_rules.proofs.Arithmetic.{alu_formed}
use Rattle.sets_rules.proofs.Offsets.{adds_offset}
use Rattle.rows.specs.declared.Entry.{Entry}
use Rattle.rows.specs.Entry.{is_number, is_address, is_start_or_null, is_frame, is_constant, word_of, size_in}
use Rattle.rows.specs.Matches.{Host, base_of, Holds}
use Rattle.rows.specs.Laws.{EntryRules}
use Rattle.rows.proofs.ByKind.{held_number, held_address, held_frame, ruled_number, ruled_address}
use Rattle.rules.specs.declared.Reach.{Reach}
use Rattle.rules.specs.Reach.{reach_end, on_grid, in_field, in_found, in_region, in_frame, frame_reach, reach_of}
use Rattle.rules.specs.Laws.{Laid, Reached, ReachedAs, Reaches}
use Rattle.rules.proofs.RightResult.{constant_holds, size_in_lem, adds_turn}

-- a width is a step
pub width_step : (a : Access) → Step (access_width a)
width_step (Loads Ld) = s4
width_step (Loads Ldub) = s1
width_step (Loads Lduh) = s2
width_step (Loads Ldsb) = s1
width_step (Loads Ldsh) = s2
width_step (Stores St) = s4
width_step (Stores Stb) = s1
width_step (Stores Sth) = s2

-- what lies on the grid of a set whose ends and steps are multiples of the width is one
on_width : {w : ℕ} (s : NumberSet) (n o : ℕ) → Step w → SetRules s → on_grid s w ≡ true → Member s n → n ≡ o + bias → o % w ≡ 0
on_width {w} s n o step rules g m e =
    let p = and_went (eqb (s.lo % w) 0) (eqb (s.step % w) 0) g in
    let rest = finer_on rules.steps step (finer_of rules.steps step (eqb-true (s.step % w) 0 p.1)) (n - s.lo) m.grid in
    let whole = sum_on step s.lo (n - s.lo) (eqb-true (s.lo % w) 0 p.0) rest in
    subst (λ (k : ℕ). k % w ≡ 0) (apart m.low e) (difference_on step (s.lo + (n - s.lo)) bias whole (by_step (λ (k : ℕ). bias % k ≡ 0) refl refl refl refl step))
  where
    apart : s.lo ≤ n → n ≡ o + bias → s.lo + (n - s.lo) - bias ≡ o
    apart l e = omega arith

turned : (x y : ℕ) → add32 x y ≡ add32 y x
turned x y = omega arith

module _ (p : Policy) (h : Host) (wf : WellFormed p) (laid : Laid p.regions.count p.regions.sizes h) (a : Access) (rs1 x y : ℕ) where
  -- a reach is as the law says
  abbrev Good : Reach → Type 0
  Good = ReachedAs p h a x y

  abbrev Near : ℕ → Type 0
  Near r = ((base_of h r ≤ x) × (x ≤ base_of h r + size_of p r)) ⊎ ((base_of h r ≤ y) × (y ≤ base_of h r + size_of p r))

  module _ (r : ℕ) (s : NumberSet) (there : r < p.regions.count) (rules : SetRules s) (near : Near r)
      (offset : bias ≤ s.lo → s.hi ≤ bias + size_in p.regions.sizes r → base_of h r + size_in p.regions.sizes r < 4294967296 → Offset (base_of h r) s (add32 x y)) where
    size_is : size_in p.regions.sizes r ≡ size_of p r
    size_is = size_in_lem p.regions.sizes r (omega (arith, laid.regions_most))

    -- where the sum lies, if the bytes end inside the region
    lies : bias ≤ s.lo → reach_end s (access_width a) ≤ size_of p r → 1 ≤ access_width a → Offset (base_of h r) s (add32 x y)
    lies low high w =
        offset low (rw size_is (end s.hi (access_width a) (size_of p r) high w)) (rw size_is (laid.below r there))
      where
        end : (hi w size : ℕ) → hi - bias + w ≤ size → 1 ≤ w → hi ≤ bias + size
        end hi w size a b = omega arith

    module _ (place : ℕ) (found : FoundHere p r (s.lo - bias) (reach_end s (access_width a)) place) (low : bias ≤ s.lo) where
      at_place : (C : Field → Type 0) → C (field_at p (place_of r found.index)) → C (field_at p place)
      at_place C c = subst (λ (n : ℕ). C (field_at p n)) (sym found.here) c

      reached : serves a (field_at p place).element ≡ true → on_grid s (access_width a) ≡ true → allows a (field_at p place).permission ≡ true
          → Reached p h a x y place
      reached se gr al =
          let inside = (wf.field r found.index there found.counted).inside in
          let o = lies low (omega (arith, found.holds.1, inside)) (some (width_step a)) in
          let v = add32 x y - base_of h r in
          record {
            region = r;
            field = found.index;
            offset = v;
            region_is = there;
            field_is = found.counted;
            here = found.here;
            address = whole (base_of h r) (add32 x y) o.above;
            low = at_place (λ (f : Field). f.offset.0 ≤ v) (first s.lo v found.holds.0 o.member.low);
            high = at_place (λ (f : Field). v + access_width a ≤ field_end f) (last s.hi v (access_width a) found.holds.1 o.member.high);
            aligned = on_width s (v + bias) v (width_step a) rules gr o.member refl;
            serving = se;
            allowing = al;
            near = near;
          }
        where
          some : {w : ℕ} → Step w → 1 ≤ w
          some = by_step (λ (w : ℕ). 1 ≤ w) (omega arith) (omega arith) (omega arith) (omega arith)

          whole : (b n : ℕ) → b ≤ n → n ≡ b + (n - b)
          whole b n l = omega arith

          first : {f : ℕ} (lo v : ℕ) → f ≤ lo - bias → lo ≤ v + bias → f ≤ v
          first lo v p q = omega arith

          last : {f : ℕ} (hi v w : ℕ) → hi - bias + w ≤ f → v + bias ≤ hi → v + w ≤ f
          last hi v w p q = omega arith

      field_good : Good (in_field (field_at p place) a rs1 s place)
      unfolding in_field
      field_good =
          cond_both Good (ltb 4096 (reach_end s (access_width a))) (λ _. tt)
          λ _. cond_both Good (not (serves a (field_at p place).element)) (λ _. tt)
          λ t₁. cond_both Good (not (on_grid s (access_width a))) (λ _. tt)
          λ t₂. cond_both Good (not (allows a (field_at p place).permission)) (λ _. tt)
          λ t₃. reached (not-false (serves a (field_at p place).element) t₁) (not-false (on_grid s (access_width a)) t₂) (not-false (allows a (field_at p place).permission) t₃)

    found_good : bias ≤ s.lo → (f : Option ℕ) → find_field p r (s.lo - bias) (reach_end s (access_width a)) ≡ f → Good (in_found p.fields a rs1 s f)
    unfolding field_at
    found_good low (Some place) e = field_good place (found_holds p r (s.lo - bias) (reach_end s (access_width a)) place e) low
    found_good low None e = tt

    region_good : Good (in_region p.regions.fields p.fields a rs1 r s)
    unfolding in_region
    region_good =
        cond_both Good (ltb s.lo bias) (λ _. tt)
        (λ t. found_good (ltb-false s.lo bias t) (find_field p r (s.lo - bias) (reach_end s (access_width a))) refl)

  -- the frame address and the offset of a scratch word
  abbrev Sums : ℕ → Type 0
  Sums offset = ((x ≡ h.frame) × (y ≡ offset)) ⊎ ((x ≡ offset) × (y ≡ h.frame))

  frame_sum : (offset : ℕ) → offset < 120 → Sums offset → add32 x y ≡ h.frame + offset
  frame_sum offset l s =
      ⊎_elim (λ k. at x y k.0 k.1 laid.frame_below) (λ k. turned x y ∙ at y x k.1 k.0 laid.frame_below) s
    where
      at : (u v : ℕ) → u ≡ h.frame → v ≡ offset → h.frame + 120 < 4294967296 → add32 u v ≡ h.frame + offset
      at u v p q b = omega arith

  frame_good : (offset : ℕ) → Sums offset → Good (in_frame a rs1 offset)
  unfolding in_frame
  frame_good offset s =
      cond_both Good (not (is_scratch offset)) (λ _. tt)
      λ t. cond_both Good (not (is_word a)) (λ _. tt)
      λ u. let o = scratch_offsets offset (not-false (is_scratch offset) t) in
      record {
        word = o.word;
        wide = not-false (is_word a) u;
        address = frame_sum offset o.high s ∙ ap (λ (n : ℕ). h.frame + n) o.here;
        sum = subst Sums o.here s;
      }

-- an address that an entry holds lies in its region
in-region : (p : Policy) (h : Host) → Laid p.regions.count p.regions.sizes h → (e : Entry) (v : ℕ) → EntryRules p.regions.count p.regions.sizes e → is_address e ≡ true → Holds h e v
    → (base_of h e.region ≤ v) × (v ≤ base_of h e.region + size_of p e.region)
in-region p h laid e v w k m =
    let d = ruled_address k w in let o = held_address k m in
    (o.above, at (base_of h e.region) e.set.hi (size_in p.regions.sizes e.region) (size_of p e.region) o.above o.member.high d.high (size_in_lem p.regions.sizes e.region (omega (arith, laid.regions_most, d.region))))
  where
    at : (b hi s t : ℕ) → b ≤ v → v - b + bias ≤ hi → hi ≤ bias + s → s ≡ t → v ≤ b + t
    at b hi s t a c d q = omega arith

module _ (p : Policy) (h : Host) (wf : WellFormed p) (laid : Laid p.regions.count p.regions.sizes h) (a : Access) (frame : Bool) (rs1 rs2 : ℕ) (d e : Entry) (x y : ℕ)
    (wd : EntryRules p.regions.count p.regions.sizes d) (we : EntryRules p.regions.count p.regions.sizes e) (lx : x < 4294967296) (ly : y < 4294967296)
    (md : Holds h d x) (me : Holds h e y) where
  reach_good : Good p h wf laid a rs1 x y (reach_of p.regions.fields p.fields a frame rs1 d rs2 e)
  unfolding reach_of frame_reach
  reach_good =
      cond_both (Good p h wf laid a rs1 x y) (is_start_or_null d) (λ _. tt)
      λ _. cond_both (Good p h wf laid a rs1 x y) (is_start_or_null e) (λ _. tt)
      λ _. cond_both (Good p h wf laid a rs1 x y) frame (λ _. tt)
      λ _. cond_both (Good p h wf laid a rs1 x y) (is_address d && is_number e)
      (λ t. let k = and_went (is_address d) (is_number e) t in
      let da = ruled_address k.0 wd in
      region_good p h wf laid a rs1 x y d.region (add_sets d.set e.set) da.region
      (alu_formed Add d.set e.set da.set (ruled_number k.1 we))
      (inl (in-region p h laid d x wd k.0 md))
      (λ low high below. adds_offset d.set e.set (base_of h d.region) (size_in p.regions.sizes d.region) x y da.set (ruled_number k.1 we) ly below low high
      (held_address k.0 md) (held_number k.1 me)))
      λ _. cond_both (Good p h wf laid a rs1 x y) (is_number d && is_address e)
      (λ t. let k = and_went (is_number d) (is_address e) t in
      let de = ruled_address k.1 we in
      subst (λ (s : NumberSet). Good p h wf laid a rs1 x y (in_region p.regions.fields p.fields a rs1 e.region s)) (adds_turn e.set d.set)
      (region_good p h wf laid a rs1 x y e.region (add_sets e.set d.set) de.region
      (alu_formed Add e.set d.set de.set (ruled_number k.0 wd))
      (inr (in-region p h laid e y we k.1 me))
      (λ low high below. subst (Offset (base_of h e.region) (add_sets e.set d.set)) (turned y x)
      (adds_offset e.set d.set (base_of h e.region) (size_in p.regions.sizes e.region) y x de.set (ruled_number k.0 wd) lx below low high
      (held_address k.1 me) (held_number k.0 md)))))
      λ _. cond_both (Good p h wf laid a rs1 x y) (is_frame d && is_constant e)
      (λ t. let k = and_went (is_frame d) (is_constant e) t in
      frame_good p h wf laid a rs1 x y (word_of e) (inl (held_frame k.0 md, sym (constant_holds h e y ly k.1 me))))
      λ _. cond_both (Good p h wf laid a rs1 x y) (is_constant d && is_frame e)
      (λ t. let k = and_went (is_constant d) (is_frame e) t in
      frame_good p h wf laid a rs1 x y (word_of d) (inr (sym (constant_holds h d x lx k.0 md), held_frame k.1 me)))
      λ _. tt

pub reaches : Reaches
reaches = reach_good
