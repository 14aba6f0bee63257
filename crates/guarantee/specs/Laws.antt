-- Laws of loads and stores inside fields, which the guarantee rests on: a load of a readable field gives a declared value, and a store of a
-- value that the field's entry holds keeps every declared value and changes the field alone. The proofs are in proofs/.
use Rattle.std.specs.Prelude.{ℕ, ◌+◌, ◌%◌, ◌≤◌, ◌<◌, ◌≡◌, true, List, length}
use Rattle.v8.specs.declared.LoadOp.{LoadOp}
use Rattle.v8.specs.declared.StoreOp.{StoreOp}
use Rattle.v8.specs.declared.StoreOp.TheVariants.{St}
use Rattle.v8.specs.declared.Access.{Access}
use Rattle.v8.specs.declared.Access.TheVariants.{Loads, Stores}
use Rattle.policy.specs.declared.Policy.{Policy}
use Rattle.policy.specs.Policy.{readable, writable, count_of, field_end}
use Rattle.policy.specs.Laws.{WellFormed}
use Rattle.memory.specs.Memory.{word_at, load_of, store_of}
use Rattle.memory.specs.Frame.{scratch_count}
use Rattle.memory.specs.Place.{length_of}
use Rattle.access.specs.Serve.{access_width, serves}
use Rattle.rows.specs.Entry.{field_entry}
use Rattle.rows.specs.Matches.{Host, Holds}
use Rattle.guarantee.specs.Fields.{field_of, byte_of, scratch_of, Declared, Framed}

-- an access at an offset of region r, inside its field k
pub record InElement (p : Policy) (a : Access) (r k offset : ℕ) : Type 0 where
  pub region : r < p.regions.count
  pub field : k < count_of p r
  pub low : (field_of p r k).offset.0 ≤ offset
  pub high : offset + access_width a ≤ field_end (field_of p r k)
  pub aligned : offset % access_width a ≡ 0
  pub serving : serves a (field_of p r k).element ≡ true

-- A load of a readable field that holds declared values gives one.
abbrev pub LoadDeclared : Type 0
LoadDeclared =
    (p : Policy) (h : Host) → WellFormed p → (memory : List ℕ) → Declared p h memory
    → (op : LoadOp) (r k offset : ℕ) → InElement p (Loads op) r k offset → readable (field_of p r k).permission ≡ true
    → Holds h (field_entry (field_of p r k)) (load_of op memory (byte_of p r offset))

-- A store of a value that the field's entry holds keeps the declared values of every field.
abbrev pub StoreDeclared : Type 0
StoreDeclared =
    (p : Policy) (h : Host) → WellFormed p → (memory : List ℕ) → length memory ≡ length_of p.regions.sizes p.regions.count → Declared p h memory
    → (op : StoreOp) (r k offset v : ℕ) → InElement p (Stores op) r k offset → v < 4294967296 → Holds h (field_entry (field_of p r k)) v
    → Declared p h (store_of op v (byte_of p r offset) memory)

-- A store into a writable field keeps every byte outside writable fields.
abbrev pub StoreFramed : Type 0
StoreFramed =
    (p : Policy) (memory : List ℕ) (op : StoreOp) (r k offset v : ℕ) → InElement p (Stores op) r k offset → writable (field_of p r k).permission ≡ true
    → Framed p memory (store_of op v (byte_of p r offset) memory)

-- .. and what every scratch word holds.
abbrev pub StoreKeepsScratch : Type 0
StoreKeepsScratch =
    (p : Policy) → WellFormed p → (memory : List ℕ) (op : StoreOp) (r k offset v : ℕ) → InElement p (Stores op) r k offset
    → (i : ℕ) → word_at (store_of op v (byte_of p r offset) memory) (scratch_of p i) ≡ word_at memory (scratch_of p i)

-- A store into a scratch word keeps the declared values of every field, and every byte outside the scratch words.
abbrev pub ScratchDeclared : Type 0
ScratchDeclared =
    (p : Policy) (h : Host) → WellFormed p → (memory : List ℕ) → Declared p h memory → (k v : ℕ) → Declared p h (store_of St v (scratch_of p k) memory)

abbrev pub ScratchFramed : Type 0
ScratchFramed = (p : Policy) (memory : List ℕ) (k v : ℕ) → k < scratch_count → Framed p memory (store_of St v (scratch_of p k) memory)
