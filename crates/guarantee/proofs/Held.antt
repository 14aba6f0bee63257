-- What registers and scratch words hold, by the index of their entries: a register's index is its number, a scratch word's comes after them. A write
-- to one changes what stands at its index alone.
use Prim.Native.Nat.{ℕ, ◌+◌, ◌-◌, ◌*◌, ◌≤◌, ◌<◌}
use mathlib.Core.Path.{◌≡◌, refl, sym, ap, ◌∙◌, subst}
use mathlib.Core.Bool.{Bool, true, false}
use mathlib.Core.List.{List}
use native.Mathlib.Omega.{arith}
use lib.Dec.{ltb, eqb}
use lib.ListN.{length, get_or, set}
use lib.Seq.{get_or-set_same, get_or-set_other}
use borrow.Author.Tests.{eqb-true, eqb-false, lt-ltb, le-ltb, ltb-true, ltb-false}
use Rattle.v8.proofs.Choice.{cond_both}
use Rattle.v8.specs.Signed.{excess}
use Rattle.v8.specs.declared.AluOp.TheVariants.{Sub}
use Rattle.v8.specs.declared.LoadOp.TheVariants.{Ld}
use Rattle.v8.specs.declared.StoreOp.TheVariants.{St}
use Rattle.alu.specs.declared.codes.Codes.{Codes}
use Rattle.alu.specs.Codes.{codes_of}
use Rattle.policy.specs.declared.Policy.{Policy}
use Rattle.memory.specs.Frame.{scratch_count}
use Rattle.memory.specs.Memory.{word_at, store_of, Bytes}
use Rattle.memory.specs.Place.{frame_start, length_of}
use Rattle.memory.proofs.Memory.{load_kept, load_after_store, load_fits}
use Rattle.step.specs.declared.Registers.{Registers}
use Rattle.step.specs.Registers.{value_in, set_in, values_with, marks_with, value_of, is_set, scratch_set, written, with_codes, with_scratch}
use Rattle.step.specs.Effect.{Core}
use Rattle.step.proofs.Writing.{write_at, write_here, write_others, write_length}
use Rattle.step.proofs.ScratchMarks.{write_keeps_scratch, scratch_is_set}
use Rattle.rows.specs.declared.Row.{Row}
use Rattle.rows.specs.Geometry.{register_count, scratch_entry}
use Rattle.rows.specs.Row.{entry_at}
use Rattle.rows.specs.Matches.{Host, Holds, Held, RowMatches}
use Rattle.rules.specs.Laws.{Wrote}
use Rattle.guarantee.specs.Fields.{scratch_of}
use Rattle.guarantee.specs.Guarantee.{value_at, mark_at, held_of, Words}

-- a scratch word's index, less the registers, is its number
less : (k : ℕ) → 32 + k - 32 ≡ k
less k = omega arith

module _ (p : Policy) (c : Core) where
  pub register_value : (r : ℕ) → r < 32 → value_at p c r ≡ value_of c.registers r
  unfolding value_at
  register_value r l = rw (lt-ltb r register_count l)

  pub register_mark : (r : ℕ) → r < 32 → mark_at c r ≡ is_set c.registers r
  unfolding mark_at
  register_mark r l = rw (lt-ltb r register_count l)

  pub scratch_value : (k : ℕ) → value_at p c (scratch_entry k) ≡ word_at c.memory (scratch_of p k)
  unfolding value_at
  scratch_value k = rw (le-ltb (scratch_entry k) register_count (omega arith)) (ap (λ (i : ℕ). word_at c.memory (scratch_of p i)) (less k))

  pub scratch-mark : (k : ℕ) → mark_at c (scratch_entry k) ≡ scratch_set c.registers k
  unfolding mark_at
  scratch-mark k = rw (le-ltb (scratch_entry k) register_count (omega arith)) (ap (scratch_set c.registers) (less k))

-- every register reads as a word
pub read_small : (g : Registers) → Words g → (r : ℕ) → value_of g r < 4294967296
unfolding value_in
read_small g w r =
    cond_both (λ (v : ℕ). v < 4294967296) (eqb r 0) (λ _. omega arith)
    λ _. cond_both (λ (v : ℕ). v < 4294967296) (ltb r 32) (λ _. w.small r) (λ _. omega arith)

-- .. and so does every scratch word
pub held_small : (p : Policy) (c : Core) → Words c.registers → Bytes c.memory → (i : ℕ) → value_at p c i < 4294967296
unfolding value_at
held_small p c w b i =
    cond_both (λ (v : ℕ). v < 4294967296) (ltb i register_count) (λ _. read_small c.registers w i) (λ _. load_fits Ld c.memory _ b)

-- what holds the same matches the same rows
pub same_held : (h : Host) (row : Row) (g g' : Held) → ((i : ℕ) → (g'.mark i ≡ g.mark i) × (g'.value i ≡ g.value i))
    → g'.codes ≡ g.codes → g'.coded ≡ g.coded → RowMatches h row g → RowMatches h row g'
same_held h row g g' same codes coded m =
    record {
      entries = λ i u. let k = m.entries i u in ((same i).0 ∙ k.0, subst (Holds h (entry_at row i)) (sym (same i).1) k.1);
      note =
          record {
            coded = λ u. coded ∙ m.note.coded u;
            compared = λ q. codes ∙ m.note.compared q ∙ ap (λ (x : ℕ). codes_of Sub x (excess row.note.number)) (sym (same row.note.register).1);
          };
    }

-- a register is written
module _ (p : Policy) (c : Core) (rd v : ℕ) (w : Words c.registers) where
  abbrev after : Core
  after = record { registers = written c.registers rd v; memory = c.memory }

  registers_kept : (r : ℕ) → (r ≡ rd → 1 ≤ rd → rd < 32 → ⊥)
      → (is_set after.registers r ≡ is_set c.registers r) × (value_of after.registers r ≡ value_of c.registers r)
  unfolding value_in set_in values_with marks_with
  registers_kept r away = (write_others true false c.registers.marks rd true r away, write_others 0 0 c.registers.values rd v r away)

  others_kept : (r : ℕ) → (r ≡ rd → 1 ≤ rd → rd < 32 → ⊥) → (t : Bool) → ltb r register_count ≡ t
      → (mark_at after r ≡ mark_at c r) × (value_at p after r ≡ value_at p c r)
  unfolding mark_at value_at
  others_kept r away true t = let k = registers_kept r away in (rw t k.0, rw t k.1)
  others_kept r away false t = (rw t (write_keeps_scratch c.registers rd v (r - register_count)), rw t)

  pub wrote : rd < 32 → Wrote (held_of p c) (held_of p after) rd v
  unfolding value_in set_in values_with marks_with
  wrote l =
      record {
        here = λ s _. (
          register_mark p after rd l ∙ write_here true false c.registers.marks rd true (omega (arith, w.marks)) s l,
          register_value p after rd l ∙ write_here 0 0 c.registers.values rd v (omega (arith, w.values)) s l,
        );
        others = λ r away. others_kept r (λ e s m. away e s (omega arith)) (ltb r register_count) refl;
      }

-- a scratch word is written
module _ (p : Policy) (c : Core) (k v : ℕ) (w : Words c.registers) (l : k < scratch_count) (small : v < 4294967296)
    (long : length c.memory ≡ length_of p.regions.sizes p.regions.count) where
  abbrev stored : Core
  stored = record { registers = with_scratch c.registers k; memory = store_of St v (scratch_of p k) c.memory }

  other_kept : (r : ℕ) → (r ≡ scratch_entry k → ⊥) → (t : Bool) → ltb r register_count ≡ t
      → (mark_at stored r ≡ mark_at c r) × (value_at p stored r ≡ value_at p c r)
  unfolding mark_at value_at
  other_kept r away true t = let s = (scratch_is_set c.registers k w.marks l).registers r in (rw t s.1, rw t s.0)
  other_kept r away false t =
      let ne : r - register_count ≡ k → ⊥ = λ e. away (whole e (ltb-false r register_count t)) in (
        rw t ((scratch_is_set c.registers k w.marks l).others (r - register_count) ne),
        rw t (load_kept Ld St v (scratch_of p k) c.memory (scratch_of p (r - register_count))
            (apart (frame_start p.regions.sizes p.regions.count) (r - register_count) ne)),
      )
    where
      whole : r - 32 ≡ k → 32 ≤ r → r ≡ 32 + k
      whole e l = omega arith

      apart : (start j : ℕ) → (j ≡ k → ⊥) → (i : ℕ) → start + (96 + 4 * j) ≤ i → i < start + (96 + 4 * j) + 4
          → start + (96 + 4 * k) ≤ i → i < start + (96 + 4 * k) + 4 → ⊥
      apart start j ne i a b x y = ne (omega arith)

  pub wrote_scratch : Wrote (held_of p c) (held_of p stored) (scratch_entry k) v
  wrote_scratch =
      record {
        here = λ _ _. (
          scratch-mark p stored k ∙ (scratch_is_set c.registers k w.marks l).here,
          scratch_value p stored k ∙ load_after_store Ld St v (scratch_of p k) c.memory refl (omega (arith, long)) ∙ omega arith,
        );
        others = λ r away. other_kept r (λ e. away e (omega arith) (omega arith)) (ltb r register_count) refl;
      }

-- there are still 32 registers of 32 bits, and all the marks
each_small : (xs : List ℕ) (r v : ℕ) → length xs ≡ 32 → v < 4294967296 → ((i : ℕ) → get_or xs i 0 < 4294967296) → (i : ℕ) → get_or (write_at 0 0 xs r v) i 0 < 4294967296
each_small xs r v n l all i =
    cond_both (λ (ys : List ℕ). get_or ys i 0 < 4294967296) (eqb r 0) (λ _. all i)
    λ _. cond_both (λ (ys : List ℕ). get_or ys i 0 < 4294967296) (ltb r 32)
    (λ u. at (eqb i r) refl (ltb-true r 32 u)) (λ _. all i)
  where
    at : (t : Bool) → eqb i r ≡ t → r < 32 → get_or (set xs r v) i 0 < 4294967296
    at true q u = rw (eqb-true i r q, get_or-set_same xs r v 0 (subst (λ (k : ℕ). r < k) (sym n) u)) l
    at false q u = rw (get_or-set_other xs r i v 0 (eqb-false i r q)) (all i)

pub words_written : (g : Registers) (rd v : ℕ) → Words g → v < 4294967296 → Words (written g rd v)
unfolding values_with marks_with
words_written g rd v w l =
    record {
      values = write_length 0 0 g.values rd v ∙ w.values;
      marks = write_length true false g.marks rd true ∙ w.marks;
      small = each_small g.values rd v w.values l w.small;
    }

pub words_coded : (g : Registers) (f : Codes) → Words g → Words (with_codes g f)
words_coded g f w = record { values = w.values; marks = w.marks; small = w.small }

pub words_kept : (g : Registers) (k : ℕ) → Words g → k < scratch_count → Words (with_scratch g k)
words_kept g k w l = record { values = w.values; marks = (scratch_is_set g k w.marks l).marks ∙ w.marks; small = w.small }
