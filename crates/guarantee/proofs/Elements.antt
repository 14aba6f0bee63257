-- The elements of fields: the load that serves each, their widths, which are steps, and where they lie. An offset that is a multiple of the
-- width, inside a field, is that of one element; a byte lies in at most one element, since it lies in the part of one region and in one field
-- of it; and a value that a field declares fits its element, so that its low bytes say it whole.
use Prim.Native.Nat.{ℕ, zero, suc, ◌+◌, ◌-◌, ◌*◌, ◌/◌, ◌%◌, ◌≤◌, ◌<◌}
use mathlib.Core.Path.{◌≡◌, refl, sym, ap, ◌∙◌, subst}
use mathlib.Core.Bool.{true}
use native.Mathlib.Omega.{arith}
use lib.Dec.{ltb}
use borrow.Author.Tests.{ltb-true, ltb-false}
use Rattle.v8.proofs.Choice.{cond_both, false_true}
use Rattle.v8.specs.Signed.{sign_extend, excess}
use Rattle.v8.specs.declared.LoadOp.{LoadOp}
use Rattle.v8.specs.declared.LoadOp.TheVariants.{Ld, Ldub, Lduh, Ldsb, Ldsh}
use Rattle.v8.specs.declared.StoreOp.{StoreOp}
use Rattle.v8.specs.declared.StoreOp.TheVariants.{St, Stb, Sth}
use Rattle.policy.specs.declared.Policy.{Policy}
use Rattle.policy.specs.Element.{width_of, least_of, most_of}
use Rattle.policy.specs.Policy.{count_of}
use Rattle.policy.specs.Laws.{WellFormed, InField}
use Rattle.policy.proofs.Bytes.{in-region, in_one_field}
use Rattle.memory.specs.Memory.{load_width, store_width}
use Rattle.memory.specs.Place.{part_start}
use Rattle.memory.specs.Laws.{InPart, low_of}
use Rattle.memory.proofs.Starts.{one_part}
use Rattle.access.specs.Serve.{load_serves, store_serves}
use Rattle.sets.specs.Sets.{Step, s1, s2, s4}
use Rattle.sets.proofs.Steps.{by_step}
use Rattle.guarantee.specs.Fields.{load_for, field_of, byte_of}

-- the elements 1 to 7, one by one
pub by_element : (P : ℕ → Type 0) → P 1 → P 2 → P 3 → P 4 → P 5 → P 6 → P 7 → (e : ℕ) → 1 ≤ e → e ≤ 7 → P e
by_element P p₁ p₂ p₃ p₄ p₅ p₆ p₇ zero l m = absurd (omega arith)
by_element P p₁ p₂ p₃ p₄ p₅ p₆ p₇ (suc zero) l m = p₁
by_element P p₁ p₂ p₃ p₄ p₅ p₆ p₇ (suc (suc zero)) l m = p₂
by_element P p₁ p₂ p₃ p₄ p₅ p₆ p₇ (suc (suc (suc zero))) l m = p₃
by_element P p₁ p₂ p₃ p₄ p₅ p₆ p₇ (suc (suc (suc (suc zero)))) l m = p₄
by_element P p₁ p₂ p₃ p₄ p₅ p₆ p₇ (suc (suc (suc (suc (suc zero))))) l m = p₅
by_element P p₁ p₂ p₃ p₄ p₅ p₆ p₇ (suc (suc (suc (suc (suc (suc zero)))))) l m = p₆
by_element P p₁ p₂ p₃ p₄ p₅ p₆ p₇ (suc (suc (suc (suc (suc (suc (suc zero))))))) l m = p₇
by_element P p₁ p₂ p₃ p₄ p₅ p₆ p₇ (suc (suc (suc (suc (suc (suc (suc (suc e)))))))) l m = absurd (omega arith)

-- an element's width is a step
pub element_step : (e : ℕ) → 1 ≤ e → e ≤ 7 → Step (width_of e)
unfolding width_of
element_step = by_element (λ (e : ℕ). Step (width_of e)) s1 s1 s2 s2 s4 s4 s4

-- the load that serves an element reads its bytes
pub load_wide : (e : ℕ) → 1 ≤ e → e ≤ 7 → load_width (load_for e) ≡ width_of e
unfolding width_of
load_wide = by_element (λ (e : ℕ). load_width (load_for e) ≡ width_of e) refl refl refl refl refl refl refl

-- no other load serves it
abbrev pub ServedBy : LoadOp → ℕ → Type 0
ServedBy op e = load_serves op e ≡ true → load_for e ≡ op

pub serves_load : (op : LoadOp) (e : ℕ) → 1 ≤ e → e ≤ 7 → ServedBy op e
serves_load Ld = by_element (ServedBy Ld) false_true false_true false_true false_true (λ _. refl) (λ _. refl) (λ _. refl)
serves_load Ldub = by_element (ServedBy Ldub) (λ _. refl) false_true false_true false_true false_true false_true false_true
serves_load Lduh = by_element (ServedBy Lduh) false_true false_true (λ _. refl) false_true false_true false_true false_true
serves_load Ldsb = by_element (ServedBy Ldsb) false_true (λ _. refl) false_true false_true false_true false_true false_true
serves_load Ldsh = by_element (ServedBy Ldsh) false_true false_true false_true (λ _. refl) false_true false_true false_true

-- a store that serves an element writes its bytes
abbrev pub StoredBy : StoreOp → ℕ → Type 0
StoredBy op e = store_serves op e ≡ true → store_width op ≡ width_of e

pub store_wide : (op : StoreOp) (e : ℕ) → 1 ≤ e → e ≤ 7 → StoredBy op e
unfolding width_of
store_wide St = by_element (StoredBy St) false_true false_true false_true false_true (λ _. refl) (λ _. refl) (λ _. refl)
store_wide Stb = by_element (StoredBy Stb) (λ _. refl) (λ _. refl) false_true false_true false_true false_true false_true
store_wide Sth = by_element (StoredBy Sth) false_true false_true (λ _. refl) (λ _. refl) false_true false_true false_true

-- the element at an offset, of `count` elements of w bytes each
pub record Indexed (from w count offset : ℕ) : Type 0 where
  pub index : ℕ
  pub below : index < count
  pub here : offset ≡ from + w * index

pub indexed : {w : ℕ} → Step w
    → (from count offset : ℕ) → from ≤ offset → offset + w ≤ from + w * count → offset % w ≡ 0 → from % w ≡ 0 → Indexed from w count offset
indexed {w} s from count offset l m p q =
    record { index = (offset - from) / w; below = below s l m; here = here s l p q }
  where
    below : {w : ℕ} → Step w → from ≤ offset → offset + w ≤ from + w * count → (offset - from) / w < count
    below = by_step (λ (w : ℕ). from ≤ offset → offset + w ≤ from + w * count → (offset - from) / w < count)
        (omega arith) (omega arith) (omega arith) (omega arith)

    here : {w : ℕ} → Step w → from ≤ offset → offset % w ≡ 0 → from % w ≡ 0 → offset ≡ from + w * ((offset - from) / w)
    here = by_step (λ (w : ℕ). from ≤ offset → offset % w ≡ 0 → from % w ≡ 0 → offset ≡ from + w * ((offset - from) / w))
        (omega arith) (omega arith) (omega arith) (omega arith)

-- an element ends where or before its field does
pub element_ends : {w : ℕ} → Step w → (i count : ℕ) → i < count → w * i + w ≤ w * count
element_ends = by_step (λ (w : ℕ). (i count : ℕ) → i < count → w * i + w ≤ w * count) (omega arith) (omega arith) (omega arith) (omega arith)

-- a byte lies in one of them at most
pub one_index : {w : ℕ} → Step w → (i j b : ℕ) → w * i ≤ b → b < w * i + w → w * j ≤ b → b < w * j + w → i ≡ j
one_index = by_step (λ (w : ℕ). (i j b : ℕ) → w * i ≤ b → b < w * i + w → w * j ≤ b → b < w * j + w → i ≡ j)
    (omega arith) (omega arith) (omega arith) (omega arith)

-- byte b of region r lies in element i of field k
pub record InElementOf (p : Policy) (r k i b : ℕ) : Type 0 where
  pub region : r < p.regions.count
  pub field : k < count_of p r
  pub index : i < (field_of p r k).count
  pub low : (field_of p r k).offset.0 + width_of (field_of p r k).element * i ≤ b
  pub high : b < (field_of p r k).offset.0 + width_of (field_of p r k).element * i + width_of (field_of p r k).element

module _ (p : Policy) (wf : WellFormed p) where
  field_step : (r k : ℕ) → r < p.regions.count → k < count_of p r → Step (width_of (field_of p r k).element)
  field_step r k l m = let rules = wf.field r k l m in element_step (field_of p r k).element rules.element_least rules.element_most

  pub in_field_lem : (r k i b : ℕ) → InElementOf p r k i b → InField (field_of p r k) b
  in_field_lem r k i b t =
      let f = field_of p r k in
      inside f.offset.0 (width_of f.element * i) (width_of f.element) (width_of f.element * f.count) t.low t.high
      (element_ends (field_step r k t.region t.field) i f.count t.index)
    where
      inside : (from a w c : ℕ) → from + a ≤ b → b < from + a + w → a + w ≤ c → (from ≤ b) × (b < from + c)
      inside from a w c l m n = (omega arith, omega arith)

  in_part : (r k i b : ℕ) → InElementOf p r k i b → InPart p.regions.sizes r (byte_of p r b)
  in_part r k i b t = let l = in-region p wf r k b t.region t.field (in_field_lem r k i b t) in (omega arith, omega arith)

  -- a byte of the lent memory lies in one element at most
  pub one_element : (r k i b r' k' i' b' : ℕ) → InElementOf p r k i b → InElementOf p r' k' i' b' → byte_of p r b ≡ byte_of p r' b'
      → (r ≡ r') × (k ≡ k') × (i ≡ i')
  one_element r k i b r' k' i' b' t t' e =
      let er : r ≡ r' = one_part p.regions.sizes r r' (byte_of p r b) (in_part r k i b t) (subst (InPart p.regions.sizes r') (sym e) (in_part r' k' i' b' t')) in
      let rest = in_region_one r' er t' e in
      (er, rest.0, rest.1)
    where
      in_field_one : (k' : ℕ) → k ≡ k' → InElementOf p r k' i' b → i ≡ i'
      in_field_one k' e t' =
          let f = field_of p r k in
          let u : InElementOf p r k i' b = subst (λ (n : ℕ). InElementOf p r n i' b) (sym e) t' in
          within f.offset.0 (width_of f.element) (field_step r k t.region t.field) t.low t.high u.low u.high
        where
          within : (from w : ℕ) → Step w → from + w * i ≤ b → b < from + w * i + w → from + w * i' ≤ b → b < from + w * i' + w → i ≡ i'
          within from w s a c a' c' = one_index s i i' (b - from) (omega arith) (omega arith) (omega arith) (omega arith)

      in_region_one : (r' : ℕ) → r ≡ r' → InElementOf p r' k' i' b' → byte_of p r b ≡ byte_of p r' b' → (k ≡ k') × (i ≡ i')
      in_region_one r' er t' e =
          let u : InElementOf p r k' i' b' = subst (λ (n : ℕ). InElementOf p n k' i' b') (sym er) t' in
          let eb : b' ≡ b = same (part_start p.regions.sizes r) (e ∙ ap (λ (n : ℕ). byte_of p n b') (sym er)) in
          let v : InElementOf p r k' i' b = subst (InElementOf p r k' i') eb u in
          let ek : k ≡ k' = in_one_field p wf r k k' b t.region t.field v.field (in_field_lem r k i b t) (in_field_lem r k' i' b v) in
          (ek, in_field_one k' ek v)
        where
          same : (start : ℕ) → start + b ≡ start + b' → b' ≡ b
          same start e = omega arith

-- the numbers of the elements 1 to 5, of which the low bytes say all
pub number_whole : (e v : ℕ) → 1 ≤ e → e ≤ 7 → e ≤ 5 → v < 4294967296 → least_of e ≤ excess v → excess v ≤ most_of e → low_of (load_for e) v ≡ v
unfolding least_of most_of sign_extend
number_whole e v a b =
    by_element (λ (e : ℕ). e ≤ 5 → v < 4294967296 → least_of e ≤ excess v → excess v ≤ most_of e → low_of (load_for e) v ≡ v)
    (λ _ s l m. omega arith)
    (λ _ s l m. cond_both (λ (x : ℕ). x ≡ v) (ltb (v % 256) 128) (λ t. omega (arith, ltb-true (v % 256) 128 t)) (λ t. omega (arith, ltb-false (v % 256) 128 t)))
    (λ _ s l m. omega arith)
    (λ _ s l m. cond_both (λ (x : ℕ). x ≡ v) (ltb (v % 65536) 32768) (λ t. omega (arith, ltb-true (v % 65536) 32768 t)) (λ t. omega (arith, ltb-false (v % 65536) 32768 t)))
    (λ _ s l m. omega arith)
    (λ n s l m. absurd (omega arith))
    (λ n s l m. absurd (omega arith))
    e a b

-- a word is whole in the elements 6 and 7
pub word_whole : (e v : ℕ) → 1 ≤ e → e ≤ 7 → 6 ≤ e → v < 4294967296 → low_of (load_for e) v ≡ v
word_whole e v a b =
    by_element (λ (e : ℕ). 6 ≤ e → v < 4294967296 → low_of (load_for e) v ≡ v)
    (λ n s. absurd (omega arith)) (λ n s. absurd (omega arith)) (λ n s. absurd (omega arith)) (λ n s. absurd (omega arith)) (λ n s. absurd (omega arith))
    (λ _ s. omega arith) (λ _ s. omega arith)
    e a b
