-- What the lent memory holds (document 01, "A readable field matches if each element holds a value of the entry its load gives"), and the
-- bytes that a run may change: those of writable fields and, by request 7, of the six scratch words.
use Rattle.std.specs.Prelude.{ℕ, ◌+◌, ◌*◌, ◌<◌, ◌≡◌, true, cond, List, eqb, length}
use Rattle.v8.specs.declared.LoadOp.{LoadOp}
use Rattle.v8.specs.declared.LoadOp.TheVariants.{Ld, Ldub, Lduh, Ldsb, Ldsh}
use Rattle.policy.specs.declared.Policy.{Policy}
use Rattle.policy.specs.declared.Field.{Field}
use Rattle.policy.specs.Element.{width_of}
use Rattle.policy.specs.Policy.{readable, writable, count_of, place_of, field_at}
use Rattle.policy.specs.Laws.{InField}
use Rattle.memory.specs.Memory.{byte_at, load_of}
use Rattle.memory.specs.Frame.{scratch_count}
use Rattle.memory.specs.Place.{part_start, scratch_place}
use Rattle.rows.specs.Entry.{field_entry}
use Rattle.rows.specs.Matches.{Host, Holds}

-- the load that serves an element: "1 unsigned byte, 2 signed byte, 3 unsigned half, 4 signed half, 5 signed word, 6 address .., 7 such an
-- address or null"
abbrev pub load_for : ℕ → LoadOp
load_for e = cond (eqb e 1) Ldub (cond (eqb e 2) Ldsb (cond (eqb e 3) Lduh (cond (eqb e 4) Ldsh Ld)))

-- field k of region r
abbrev pub field_of : Policy → ℕ → ℕ → Field
field_of p r k = field_at p (place_of r k)

-- where byte b of region r stands in the lent memory
abbrev pub byte_of : Policy → ℕ → ℕ → ℕ
byte_of p r b = part_start p.regions.sizes r + b

-- where element i of a field of region r stands in the lent memory
abbrev pub element_at : Policy → ℕ → Field → ℕ → ℕ
element_at p r f i = byte_of p r (f.offset.0 + width_of f.element * i)

-- every readable field, "(permission 1 or 3)", holds declared values
abbrev pub Declared : Policy → Host → List ℕ → Type 0
Declared p h memory =
    (r k i : ℕ) → r < p.regions.count → k < count_of p r → readable (field_of p r k).permission ≡ true → i < (field_of p r k).count
    → Holds h (field_entry (field_of p r k)) (load_of (load_for (field_of p r k).element) memory (element_at p r (field_of p r k) i))

-- place a of the lent memory lies outside writable fields
abbrev pub OutsideWritable : Policy → ℕ → Type 0
OutsideWritable p a =
    (r k b : ℕ) → r < p.regions.count → k < count_of p r → writable (field_of p r k).permission ≡ true → InField (field_of p r k) b → a ≡ byte_of p r b → ⊥

-- where scratch word k stands in the lent memory
abbrev pub scratch_of : Policy → ℕ → ℕ
scratch_of p k = scratch_place p.regions.sizes p.regions.count k

-- place a of the lent memory lies outside the scratch words
abbrev pub OutsideScratch : Policy → ℕ → Type 0
OutsideScratch p a = (k b : ℕ) → k < scratch_count → b < 4 → a ≡ scratch_of p k + b → ⊥

-- "every byte of the lent memory outside writable fields is as it was at the start"; request 7: "The running guarantee allows these six words,
-- nothing else in the frame"
pub record Framed (p : Policy) (before after : List ℕ) : Type 0 where
  pub length_kept : length after ≡ length before
  pub bytes_kept : (a : ℕ) → OutsideWritable p a → OutsideScratch p a → byte_at after a ≡ byte_at before a
