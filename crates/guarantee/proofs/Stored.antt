-- Loads and stores inside fields. An access that serves a field, at a multiple of its width, is of one of the field's elements. So a load gives
-- what the element holds, and that is declared. A store into an element is read back whole, since a declared value fits its element; it keeps
-- every other element, since a byte lies in one element at most; and its bytes lie in its field, so that all bytes outside are as they were.
use Prim.Native.Nat.{ℕ, ◌+◌, ◌-◌, ◌*◌, ◌%◌, ◌≤◌, ◌<◌}
use mathlib.Core.Path.{◌≡◌, refl, sym, ap, ◌∙◌, subst}
use mathlib.Core.Bool.{Bool, true, false}
use mathlib.Core.List.{List}
use native.Mathlib.Omega.{arith}
use lib.Dec.{ltb, eqb}
use lib.ListN.{length}
use borrow.Author.Tests.{ltb-true, ltb-false, eqb-true, eqb-false}
use Rattle.v8.specs.Signed.{excess}
use Rattle.v8.specs.declared.LoadOp.{LoadOp}
use Rattle.v8.specs.declared.StoreOp.{StoreOp}
use Rattle.v8.specs.declared.Access.{Access}
use Rattle.v8.specs.declared.Access.TheVariants.{Loads, Stores}
use Rattle.policy.specs.declared.Policy.{Policy}
use Rattle.policy.specs.declared.Field.{Field}
use Rattle.policy.specs.Element.{width_of}
use Rattle.policy.specs.Policy.{readable, size_of, count_of, field_end}
use Rattle.policy.specs.Laws.{WellFormed, FieldRules}
use Rattle.memory.specs.Memory.{load_width, load_of, store_width, store_of}
use Rattle.memory.specs.Place.{part_start, frame_start, length_of}
use Rattle.memory.specs.Laws.{Apart, low_of}
use Rattle.memory.proofs.Memory.{store_keeps_length, store_keeps_others, load_kept, load_after_store}
use Rattle.memory.proofs.Starts.{part_ends}
use Rattle.access.specs.Serve.{access_width}
use Rattle.sets.specs.Sets.{ended, Member}
use Rattle.sets.proofs.Ends.{ended_only}
use Rattle.rows.specs.declared.Entry.{Entry}
use Rattle.rows.specs.Entry.{number_in, field_entry}
use Rattle.rows.specs.Matches.{Host, Holds}
use Rattle.rows.proofs.ByKind.{held_number}
use Rattle.guarantee.specs.Fields.{load_for, field_of, byte_of, element_at, Declared}
use Rattle.guarantee.specs.Laws.{InElement, LoadDeclared, StoreDeclared, StoreFramed}
use Rattle.guarantee.proofs.Elements.{element_step, load_wide, serves_load, store_wide, Indexed, indexed, one_element, number_whole, word_whole}

-- the element of an access
element_of : (p : Policy) → WellFormed p → (a : Access) (r k offset : ℕ) → InElement p a r k offset → access_width a ≡ width_of (field_of p r k).element
    → Indexed (field_of p r k).offset.0 (width_of (field_of p r k).element) (field_of p r k).count offset
element_of p wf a r k offset here same =
    let f = field_of p r k in
    let rules = wf.field r k here.region here.field in
    indexed (element_step f.element rules.element_least rules.element_most) f.offset.0 f.count offset here.low
    (subst (λ (w : ℕ). offset + w ≤ field_end f) same here.high) (subst (λ (w : ℕ). offset % w ≡ 0) same here.aligned) rules.aligned

pub load_declared : LoadDeclared
load_declared p h wf memory declared op r k offset here readable =
    let f = field_of p r k in
    let rules = wf.field r k here.region here.field in
    let is : load_for f.element ≡ op = serves_load op f.element rules.element_least rules.element_most here.serving in
    let at = element_of p wf (Loads op) r k offset here (ap load_width (sym is) ∙ load_wide f.element rules.element_least rules.element_most) in
    let d : Holds h (field_entry f) (load_of (load_for f.element) memory (byte_of p r (f.offset.0 + width_of f.element * at.index))) =
    declared r k at.index here.region here.field readable at.below in
    subst (λ (o : LoadOp). Holds h (field_entry f) (load_of o memory (byte_of p r offset))) is
    (subst (λ (n : ℕ). Holds h (field_entry f) (load_of (load_for f.element) memory (byte_of p r n))) (sym at.here) d)

-- a field of numbers gives its numbers
number_entry : (f : Field) → ltb f.element 6 ≡ true → field_entry f ≡ number_in (ended 1 f.lo f.hi)
unfolding field_entry
number_entry f t = rw t

-- a declared value fits its element
value_whole : (regions size : ℕ) (h : Host) (f : Field) (v : ℕ) → FieldRules regions size f → v < 4294967296 → Holds h (field_entry f) v
    → low_of (load_for f.element) v ≡ v
value_whole regions size h f v rules small holds = at (ltb f.element 6) refl
  where
    at : (t : Bool) → ltb f.element 6 ≡ t → low_of (load_for f.element) v ≡ v
    at true t =
        let below : f.element ≤ 5 = omega (arith, ltb-true f.element 6 t) in
        let numbers = rules.numbers below in
        let m : Member (ended 1 f.lo f.hi) (excess v) = held_number refl (subst (λ (e : Entry). Holds h e v) (number_entry f t) holds) in
        let n = ended_only 1 f.lo f.hi (excess v) m in
        number_whole f.element v rules.element_least rules.element_most below small
        (between f.lo numbers.least n.low) (between f.hi n.high numbers.most)
      where
        between : {a b : ℕ} (n : ℕ) → a ≤ n → n ≤ b → a ≤ b
        between n p q = omega arith
    at false t = word_whole f.element v rules.element_least rules.element_most (ltb-false f.element 6 t) small

module _ (p : Policy) (h : Host) (wf : WellFormed p) (memory : List ℕ) (long : length memory ≡ length_of p.regions.sizes p.regions.count)
    (declared : Declared p h memory) (op : StoreOp) (r k offset v : ℕ) (here : InElement p (Stores op) r k offset) (small : v < 4294967296)
    (holds : Holds h (field_entry (field_of p r k)) v) where
  abbrev after : List ℕ
  after = store_of op v (byte_of p r offset) memory

  rules : FieldRules p.regions.count (size_of p r) (field_of p r k)
  rules = wf.field r k here.region here.field

  wide : store_width op ≡ width_of (field_of p r k).element
  wide = store_wide op (field_of p r k).element rules.element_least rules.element_most here.serving

  stored : Indexed (field_of p r k).offset.0 (width_of (field_of p r k).element) (field_of p r k).count offset
  stored = element_of p wf (Stores op) r k offset here wide

  -- what is declared of element i of field k of region r, once the store is done
  abbrev Now : ℕ → ℕ → ℕ → Type 0
  Now r k i = Holds h (field_entry (field_of p r k)) (load_of (load_for (field_of p r k).element) after (element_at p r (field_of p r k) i))

  -- the element that is stored
  stored_now : Now r k stored.index
  stored_now =
      let f = field_of p r k in
      let read : load_of (load_for f.element) after (byte_of p r offset) ≡ v =
      load_after_store (load_for f.element) op v (byte_of p r offset) memory
      (load_wide f.element rules.element_least rules.element_most ∙ sym wide)
      (room (part_start p.regions.sizes r) (frame_start p.regions.sizes p.regions.count) (length memory) (size_of p r) (store_width op) (field_end f)
      (part_ends p.regions.sizes r p.regions.count here.region) long rules.inside here.high)
      ∙ value_whole p.regions.count (size_of p r) h f v rules small holds in
      subst (λ (n : ℕ). Holds h (field_entry f) (load_of (load_for f.element) after (byte_of p r n))) stored.here
      (subst (Holds h (field_entry f)) (sym read) holds)
    where
      room : (start whole n size w end : ℕ) → start + size ≤ whole → n ≡ whole + 120 → end ≤ size → offset + w ≤ end → start + offset + w ≤ n
      room start whole n size w end a b c d = omega arith

  -- every other element is as it was
  other_now : (r' k' i' : ℕ) → r' < p.regions.count → k' < count_of p r' → readable (field_of p r' k').permission ≡ true → i' < (field_of p r' k').count
      → (r ≡ r' → k ≡ k' → stored.index ≡ i' → ⊥) → Now r' k' i'
  other_now r' k' i' l m readable n other =
      let f' = field_of p r' k' in
      let rules' = wf.field r' k' l m in
      let from' = f'.offset.0 + width_of f'.element * i' in
      subst (Holds h (field_entry f'))
      (sym (load_kept (load_for f'.element) op v (byte_of p r offset) memory (element_at p r' f' i')
      (subst (λ (w : ℕ). Apart (byte_of p r offset) (store_width op) (element_at p r' f' i') w)
      (sym (load_wide f'.element rules'.element_least rules'.element_most))
      (λ j a b c d.
      let s = part_start p.regions.sizes r in
      let s' = part_start p.regions.sizes r' in
      let same = one_element p wf r k stored.index (j - s) r' k' i' (j - s')
      (record {
        region = here.region;
        field = here.field;
        index = stored.below;
        low = subst (λ (o : ℕ). o ≤ j - s) stored.here (starts s offset j c);
        high =
            subst (λ (o : ℕ). j - s < o + width_of (field_of p r k).element) stored.here
            (subst (λ (w : ℕ). j - s < offset + w) wide (ends s offset (store_width op) j c d));
      })
      (record { region = l; field = m; index = n; low = starts s' from' j a; high = ends s' from' (width_of f'.element) j a b })
      (meet s s' offset from' j c a) in
      other same.0 same.1 same.2))))
      (declared r' k' i' l m readable n)
    where
      starts : (s o j : ℕ) → s + o ≤ j → o ≤ j - s
      starts s o j a = omega arith

      ends : (s o w j : ℕ) → s + o ≤ j → j < s + o + w → j - s < o + w
      ends s o w j a b = omega arith

      meet : (s s' o o' j : ℕ) → s + o ≤ j → s' + o' ≤ j → s + (j - s) ≡ s' + (j - s')
      meet s s' o o' j a b = omega arith

  now : Declared p h after
  now r' k' i' l m readable n = by_region (eqb r r') refl
    where
      keep : (r ≡ r' → k ≡ k' → stored.index ≡ i' → ⊥) → Now r' k' i'
      keep = other_now r' k' i' l m readable n

      by_index : r ≡ r' → k ≡ k' → (t : Bool) → eqb stored.index i' ≡ t → Now r' k' i'
      by_index er ek true t =
          subst (λ (x : ℕ). Now x k' i') er (subst (λ (x : ℕ). Now r x i') ek (subst (Now r k) (eqb-true stored.index i' t) stored_now))
      by_index er ek false t = keep (λ _ _ e. eqb-false stored.index i' t e)

      by_field : r ≡ r' → (t : Bool) → eqb k k' ≡ t → Now r' k' i'
      by_field er true t = by_index er (eqb-true k k' t) (eqb stored.index i') refl
      by_field er false t = keep (λ _ e _. eqb-false k k' t e)

      by_region : (t : Bool) → eqb r r' ≡ t → Now r' k' i'
      by_region true t = by_field (eqb-true r r' t) (eqb k k') refl
      by_region false t = keep (λ e _ _. eqb-false r r' t e)

pub store_declared : StoreDeclared
store_declared = now

pub store_framed : StoreFramed
store_framed p memory op r k offset v here writable =
    let start = part_start p.regions.sizes r in
    record {
      length_kept = store_keeps_length op v (byte_of p r offset) memory;
      bytes_kept = λ a outside _. store_keeps_others op v (byte_of p r offset) memory a
          (λ l m. outside r k (a - start) here.region here.field writable
          (inside start (field_of p r k).offset.0 (store_width op) (field_end (field_of p r k)) a l m here.low here.high)
          (whole start a l));
    }
  where
    inside : (start from w end a : ℕ) → start + offset ≤ a → a < start + offset + w → from ≤ offset → offset + w ≤ end → (from ≤ a - start) × (a - start < end)
    inside start from w end a l m n o = (omega arith, omega arith)

    whole : (start a : ℕ) → start + offset ≤ a → a ≡ start + (a - start)
    whole start a l = omega arith
