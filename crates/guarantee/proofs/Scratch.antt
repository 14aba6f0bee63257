-- Stores into fields and into scratch words keep apart: the regions' parts of the memory end where the frame's begins. So a store into a field keeps what
-- every scratch word holds, and a store into a scratch word keeps every field, and changes its own bytes alone.
use Prim.Native.Nat.{ℕ, ◌+◌, ◌-◌, ◌*◌, ◌≤◌, ◌<◌}
use mathlib.Core.Path.{◌≡◌, sym, subst}
use native.Mathlib.Omega.{arith}
use Rattle.v8.specs.declared.LoadOp.TheVariants.{Ld}
use Rattle.v8.specs.declared.StoreOp.TheVariants.{St}
use Rattle.policy.specs.declared.Policy.{Policy}
use Rattle.policy.specs.Element.{width_of}
use Rattle.policy.specs.Policy.{size_of}
use Rattle.memory.specs.Memory.{store_width}
use Rattle.memory.specs.Place.{part_start, frame_start}
use Rattle.memory.specs.Laws.{Apart}
use Rattle.memory.proofs.Memory.{store_keeps_length, store_keeps_others, load_kept}
use Rattle.memory.proofs.Starts.{part_ends}
use Rattle.rows.specs.Entry.{field_entry}
use Rattle.rows.specs.Matches.{Holds}
use Rattle.guarantee.specs.Fields.{load_for, field_of, byte_of, element_at, scratch_of}
use Rattle.guarantee.specs.Laws.{StoreKeepsScratch, ScratchDeclared, ScratchFramed}
use Rattle.guarantee.proofs.Elements.{element_step, element_ends, load_wide}

module _ (p : Policy) where
  abbrev frame : ℕ
  frame = frame_start p.regions.sizes p.regions.count

  -- bytes of a region's part end before the frame's part begins
  before_frame : (r end : ℕ) → r < p.regions.count → end ≤ size_of p r → byte_of p r end ≤ frame
  before_frame r end l m = through (part_start p.regions.sizes r) (size_of p r) (part_ends p.regions.sizes r p.regions.count l) m
    where
      through : (start size : ℕ) → start + size ≤ frame → end ≤ size → start + end ≤ frame
      through start size a b = omega arith

pub store_keeps_scratch : StoreKeepsScratch
store_keeps_scratch p wf memory op r k offset v here i =
    load_kept Ld op v (byte_of p r offset) memory (scratch_of p i)
    (λ j a _ _ b. beyond (part_start p.regions.sizes r) (frame p) (store_width op) j a b
    (before_frame p r (offset + store_width op) here.region (inside here.high (wf.field r k here.region here.field).inside)))
  where
    inside : {a b c : ℕ} → a ≤ b → b ≤ c → a ≤ c
    inside x y = omega arith

    beyond : (start frame w j : ℕ) → frame + (96 + 4 * i) ≤ j → j < start + offset + w → start + (offset + w) ≤ frame → ⊥
    beyond start frame w j a b c = omega arith

pub scratch_declared : ScratchDeclared
scratch_declared p h wf memory declared k v r f i l m readable n =
    let field = field_of p r f in
    let rules = wf.field r f l m in
    let from = field.offset.0 + width_of field.element * i in
    let end : from + width_of field.element ≤ size_of p r =
    inside field.offset.0 (width_of field.element * i) (width_of field.element) (width_of field.element * field.count)
    (element_ends (element_step field.element rules.element_least rules.element_most) i field.count n) rules.inside in
    subst (Holds h (field_entry field))
    (sym (load_kept (load_for field.element) St v (scratch_of p k) memory (element_at p r field i)
    (subst (λ (w : ℕ). Apart (scratch_of p k) 4 (element_at p r field i) w) (sym (load_wide field.element rules.element_least rules.element_most))
    (λ j _ b c _. below (part_start p.regions.sizes r) from (width_of field.element) (frame p) j b c (before_frame p r (from + width_of field.element) l end)))))
    (declared r f i l m readable n)
  where
    inside : (offset a w c : ℕ) → a + w ≤ c → offset + c ≤ size_of p r → offset + a + w ≤ size_of p r
    inside offset a w c x y = omega arith

    below : (start from w frame j : ℕ) → j < start + from + w → frame + (96 + 4 * k) ≤ j → start + (from + w) ≤ frame → ⊥
    below start from w frame j a b c = omega arith

pub scratch_framed : ScratchFramed
scratch_framed p memory k v l =
    record {
      length_kept = store_keeps_length St v (scratch_of p k) memory;
      bytes_kept = λ a _ outside. store_keeps_others St v (scratch_of p k) memory a
          (λ x y. outside k (a - scratch_of p k) l (less (scratch_of p k) a x y) (whole (scratch_of p k) a x));
    }
  where
    less : (start a : ℕ) → start ≤ a → a < start + 4 → a - start < 4
    less start a x y = omega arith

    whole : (start a : ℕ) → start ≤ a → a ≡ start + (a - start)
    whole start a x = omega arith
