-- What an operation does to the registers agrees with what it does to their marks, unless it faults: what it reads is set then, an OR with r0
-- copies the value with the mark, and no other register changes.
use Prim.Native.Nat.{ℕ, ◌+◌}
use mathlib.Core.Path.{◌≡◌, refl, sym, ap, subst, ◌∙◌}
use mathlib.Core.Bool.{Bool, true, false, not, ◌&&◌}
use mathlib.Core.List.{List}
use native.Mathlib.Omega.{arith}
use lib.Bits.{bit_or, or_zero_l, or_zero_r}
use lib.Dec.{ltb, eqb}
use lib.ListN.{length, length-set}
use lib.Seq.{get_or-set_same, get_or-set_other}
use borrow.Author.Tests.{eqb-true, eqb-false, ltb-true, ne_eqb}
use Rattle.v8.proofs.Choice.{cond_both, and_went, false_true}
use Rattle.v8.specs.declared.AluOp.{AluOp}
use Rattle.v8.specs.declared.AluOp.TheVariants.{Add, And, Or, Xor, Sub, Andn, Orn, Xnor}
use Rattle.v8.specs.declared.Operand.{Operand}
use Rattle.v8.specs.declared.Operand.TheVariants.{Reg, Imm}
use Rattle.v8.specs.declared.Access.{Access}
use Rattle.v8.specs.declared.Access.TheVariants.{Loads, Stores}
use Rattle.v8.specs.declared.Operation.{Operation}
use Rattle.v8.specs.declared.Operation.TheVariants.{Sethi, Alu, Shift, Memory}
use Rattle.v8.specs.declared.Instruction.TheVariants.{Plain}
use Rattle.alu.specs.declared.codes.Codes.{Codes}
use Rattle.alu.specs.Result.{alu_of, shift_of, sethi_of}
use Rattle.alu.specs.Codes.{codes_of}
use Rattle.memory.specs.Memory.{load_of}
use Rattle.memory.specs.Place.{part_start}
use Rattle.access.specs.declared.Located.{Located}
use Rattle.access.specs.declared.Located.TheVariants.{At, Scratch, Nowhere}
use Rattle.access.specs.Serve.{access_width}
use Rattle.access.specs.Layout.{Layout}
use Rattle.access.specs.Locate.{locate}
use Rattle.step.specs.declared.Registers.{Registers}
use Rattle.step.specs.declared.Aim.{Aim}
use Rattle.step.specs.declared.Aim.TheVariants.{Address, Missed}
use Rattle.step.specs.Registers as Registers·
use Rattle.step.specs.Registers.{mark_count, value_in, set_in, values_with, value_of, is_set, written, with_codes, scratch_mark, scratch_set, with_scratch, operand_value, operand_set}
use Rattle.step.specs.Effect.{Core, Effect, fault, done, alu_registers, aim_of, moved_set, touching, scratch_access, access_at, access_aimed, effect_of}
use Rattle.step.proofs.Writing.{write_length}
use Rattle.step.proofs.ScratchMarks.{marking_keeps}
use Rattle.flow_writes.specs.Written.{access_writes}
use Rattle.rows.specs.Matches.{Host}
use Rattle.marks.specs.Marks.{not_reached, register_count, mark_of, marks_with}
use Rattle.marks.specs.Effect.{operand_mark, is_r0, of_numbers, or_mark, alu_mark, access_mark, marks_after}
use Rattle.marks.specs.Laws.{AllMarked}
use Rattle.marks.proofs.Rising.{list_written}
use Rattle.meanings.specs.Meaning.{MarkHolds}
use Rattle.meanings.proofs.Holding.{number_holds, numbers_hold, sum_holds, difference_holds, load_holds}

-- 32 registers, of each of which its mark holds
pub record Agrees (h : Host) (entry : List ℕ) (marks : List ℕ) (g : Registers) : Type 0 where
  pub values : length g.values ≡ register_count
  pub marked : length g.marks ≡ mark_count
  pub listed : length marks ≡ register_count
  pub each : (r : ℕ) → MarkHolds h entry (mark_of marks r) (is_set g r) (value_of g r)

-- what an effect leaves, if it is no fault
abbrev pub AgreesAfter : Host → List ℕ → List ℕ → Effect → Type 0
AgreesAfter h entry marks (fault n) = Unit {0}
AgreesAfter h entry marks (done c) = Agrees h entry marks c.registers

-- r0 reads as zero
zero_reads : (g : Registers) (r : ℕ) → eqb r 0 ≡ true → value_of g r ≡ 0
unfolding value_in
zero_reads g r e = rw e

module _ (h : Host) (entry : List ℕ) where
  -- a register that is written, with a mark that holds of what is written
  written_each : (m : List ℕ) (g : Registers) (rd k v : ℕ) → Agrees h entry m g → MarkHolds h entry k true v
      → (r : ℕ) → MarkHolds h entry (mark_of (marks_with m rd k) r) (is_set (written g rd v) r) (value_of (written g rd v) r)
  unfolding mark_of marks_with value_in set_in values_with Registers·.marks_with
  written_each m g rd k v a new r = at (eqb rd 0) refl (ltb rd register_count) refl (eqb r rd) refl
    where
      at : (s : Bool) → eqb rd 0 ≡ s → (t : Bool) → ltb rd register_count ≡ t → (u : Bool) → eqb r rd ≡ u
          → MarkHolds h entry (mark_of (marks_with m rd k) r) (is_set (written g rd v) r) (value_of (written g rd v) r)
      at true es t et u eu = rw es (a.each r)
      at false es false et u eu = rw (es, et) (a.each r)
      at false es true et true eu =
          let l = ltb-true rd register_count et in
          rw (
            es,
            et,
            eqb-true r rd eu,
            get_or-set_same m rd k 0 (omega (arith, a.listed, l)),
            get_or-set_same g.marks rd true false (omega (arith, a.marked, l)),
            get_or-set_same g.values rd v 0 (omega (arith, a.values, l)),
          ) (rw (es, et) new)
      at false es true et false eu =
          let ne = eqb-false r rd eu in
          rw (es, et, get_or-set_other m rd r k 0 ne, get_or-set_other g.marks rd r true false ne, get_or-set_other g.values rd r v 0 ne) (a.each r)

  written_agrees : (m : List ℕ) (g : Registers) (rd k v : ℕ) → Agrees h entry m g → MarkHolds h entry k true v → Agrees h entry (marks_with m rd k) (written g rd v)
  unfolding marks_with values_with Registers·.marks_with
  written_agrees m g rd k v a new =
      record {
        values = list_written g.values rd v a.values;
        marked = write_length true false g.marks rd true ∙ a.marked;
        listed = list_written m rd k a.listed;
        each = written_each m g rd k v a new;
      }

  coded_agrees : (m : List ℕ) (g : Registers) (f : Codes) → Agrees h entry m g → Agrees h entry m (with_codes g f)
  coded_agrees m g f a = record { values = a.values; marked = a.marked; listed = a.listed; each = a.each }

  -- a scratch word that is set is no register
  kept_agrees : (m : List ℕ) (g : Registers) (k : ℕ) → Agrees h entry m g → Agrees h entry m (with_scratch g k)
  kept_agrees m g k a =
      record {
        values = a.values;
        marked = length-set g.marks (scratch_mark k) true ∙ a.marked;
        listed = a.listed;
        each = λ r. let u = marking_keeps g k r in
            subst (λ (b : Bool). MarkHolds h entry (mark_of m r) b (value_of (with_scratch g k) r)) (sym u.1)
            (subst (MarkHolds h entry (mark_of m r) (is_set g r)) (sym u.0) (a.each r));
      }

  -- a mark for r0 vanishes
  pub still_agrees : (m : List ℕ) (g : Registers) (k : ℕ) → Agrees h entry m g → Agrees h entry (marks_with m 0 k) g
  unfolding marks_with
  still_agrees m g k a = a

  -- marks that hold are there
  pub all_marked : (m : List ℕ) (g : Registers) → Agrees h entry m g → AllMarked m
  all_marked m g a r = ap not (ne_eqb (mark_of m r) not_reached (a.each r).reached)

  module _ (l : Layout) (c : Core) (m : List ℕ) (a : Agrees h entry m c.registers) where
    -- a register that is set, and an operand
    register_holds : (r : ℕ) → is_set c.registers r ≡ true → MarkHolds h entry (mark_of m r) true (value_of c.registers r)
    register_holds r e = subst (λ (s : Bool). MarkHolds h entry (mark_of m r) s (value_of c.registers r)) e (a.each r)

    operand_holds : (x : Operand) → operand_set c.registers x ≡ true → MarkHolds h entry (operand_mark m x) true (operand_value c.registers x)
    operand_holds (Reg r) e = register_holds r e
    operand_holds (Imm v) e = number_holds h entry v

    -- OR with r0 copies, the mark and the value
    or_holds : (rs1 : ℕ) (x : Operand) → is_set c.registers rs1 ≡ true → operand_set c.registers x ≡ true
        → MarkHolds h entry (or_mark m rs1 x) true (bit_or (value_of c.registers rs1) (operand_value c.registers x))
    unfolding or_mark
    or_holds rs1 x p q =
        cond_both K (eqb rs1 0)
        (λ e. subst (MarkHolds h entry (operand_mark m x) true) (sym (first e)) (operand_holds x q))
        (λ _. cond_both K (is_r0 x)
        (λ e. subst (MarkHolds h entry (mark_of m rs1) true) (sym (second x e)) (register_holds rs1 p))
        (λ _. numbers_hold h entry (mark_of m rs1) (operand_mark m x) _))
      where
        K : ℕ → Type 0
        K k = MarkHolds h entry k true (bit_or (value_of c.registers rs1) (operand_value c.registers x))

        first : eqb rs1 0 ≡ true → bit_or (value_of c.registers rs1) (operand_value c.registers x) ≡ operand_value c.registers x
        first e = ap (λ (n : ℕ). bit_or n (operand_value c.registers x)) (zero_reads c.registers rs1 e) ∙ or_zero_l (operand_value c.registers x)

        second : (y : Operand) → is_r0 y ≡ true → bit_or (value_of c.registers rs1) (operand_value c.registers y) ≡ value_of c.registers rs1
        second (Reg r) e = ap (λ (n : ℕ). bit_or (value_of c.registers rs1) n) (zero_reads c.registers r e) ∙ or_zero_r (value_of c.registers rs1)
        second (Imm v) e = false_true e

    alu_holds : (op : AluOp) (rs1 : ℕ) (x : Operand) → is_set c.registers rs1 ≡ true → operand_set c.registers x ≡ true
        → MarkHolds h entry (alu_mark m op rs1 x) true (alu_of op (value_of c.registers rs1) (operand_value c.registers x))
    alu_holds Add rs1 x p q = sum_holds h entry (mark_of m rs1) (operand_mark m x) _
    alu_holds And rs1 x p q = numbers_hold h entry (mark_of m rs1) (operand_mark m x) _
    alu_holds Or rs1 x p q = or_holds rs1 x p q
    alu_holds Xor rs1 x p q = numbers_hold h entry (mark_of m rs1) (operand_mark m x) _
    alu_holds Sub rs1 x p q = difference_holds h entry (mark_of m rs1) (operand_mark m x) _
    alu_holds Andn rs1 x p q = numbers_hold h entry (mark_of m rs1) (operand_mark m x) _
    alu_holds Orn rs1 x p q = numbers_hold h entry (mark_of m rs1) (operand_mark m x) _
    alu_holds Xnor rs1 x p q = numbers_hold h entry (mark_of m rs1) (operand_mark m x) _

    made_agrees : (op : AluOp) (rd rs1 : ℕ) (x : Operand) → is_set c.registers rs1 ≡ true → operand_set c.registers x ≡ true
        → Agrees h entry (marks_with m rd (alu_mark m op rs1 x)) (written c.registers rd (alu_of op (value_of c.registers rs1) (operand_value c.registers x)))
    made_agrees op rd rs1 x p q = written_agrees m c.registers rd (alu_mark m op rs1 x) _ a (alu_holds op rs1 x p q)

    alu_agrees : (op : AluOp) (cc : Bool) (rd rs1 : ℕ) (x : Operand) → is_set c.registers rs1 ≡ true → operand_set c.registers x ≡ true
        → Agrees h entry (marks_with m rd (alu_mark m op rs1 x)) (alu_registers c.registers op cc rd (value_of c.registers rs1) (operand_value c.registers x))
    alu_agrees op true rd rs1 x p q =
        coded_agrees (marks_with m rd (alu_mark m op rs1 x)) (written c.registers rd (alu_of op (value_of c.registers rs1) (operand_value c.registers x)))
        (codes_of op (value_of c.registers rs1) (operand_value c.registers x)) (made_agrees op rd rs1 x p q)
    alu_agrees op false rd rs1 x p q = made_agrees op rd rs1 x p q

    -- an access, where it lies
    touching_agrees : (x : Access) (rd place : ℕ) → AgreesAfter h entry (marks_with m (access_writes x rd) (access_mark x)) (touching c x rd place)
    touching_agrees (Loads op) rd place = written_agrees m c.registers rd _ (load_of op c.memory place) a (load_holds h entry op (load_of op c.memory place))
    touching_agrees (Stores op) rd place = still_agrees m c.registers _ a

    -- .. or of a scratch word, which is read if it is set
    scratch_agrees : (x : Access) (rd k place : ℕ) → AgreesAfter h entry (marks_with m (access_writes x rd) (access_mark x)) (scratch_access c x rd k place)
    scratch_agrees (Loads op) rd k place =
        cond_both (AgreesAfter h entry (marks_with m rd (access_mark (Loads op)))) (scratch_set c.registers k) (λ _. touching_agrees (Loads op) rd place) (λ _. tt)
    scratch_agrees (Stores op) rd k place = still_agrees m (with_scratch c.registers k) _ (kept_agrees m c.registers k a)

    located_agrees : (x : Access) (rd : ℕ) (at : Located) → AgreesAfter h entry (marks_with m (access_writes x rd) (access_mark x)) (access_at l.regions c x rd at)
    located_agrees x rd (At r offset) = touching_agrees x rd (part_start l.regions.sizes r + offset.0)
    located_agrees x rd (Scratch k) = scratch_agrees x rd k _
    located_agrees x rd Nowhere = tt

    aimed_agrees : (x : Access) (rd : ℕ) (aim : Aim) → AgreesAfter h entry (marks_with m (access_writes x rd) (access_mark x)) (access_aimed l c x rd aim)
    aimed_agrees x rd (Address address) = located_agrees x rd (locate l x address)
    aimed_agrees x rd (Missed n) = tt

    -- an operation
    pub operation_agrees : (x : Operation) → AgreesAfter h entry (marks_after m (Plain x)) (effect_of l c x)
    operation_agrees (Sethi rd imm22) = written_agrees m c.registers rd _ (sethi_of imm22) a (number_holds h entry (sethi_of imm22))
    operation_agrees (Alu op cc rd rs1 x) =
        cond_both (AgreesAfter h entry (marks_with m rd (alu_mark m op rs1 x))) (is_set c.registers rs1 && operand_set c.registers x)
        (λ e. let k = and_went (is_set c.registers rs1) (operand_set c.registers x) e in alu_agrees op cc rd rs1 x k.0 k.1)
        (λ _. tt)
    operation_agrees (Shift op rd rs1 x) =
        cond_both (AgreesAfter h entry (marks_with m rd (of_numbers (mark_of m rs1) (operand_mark m x)))) (is_set c.registers rs1 && operand_set c.registers x)
        (λ _. written_agrees m c.registers rd _ (shift_of op (value_of c.registers rs1) (operand_value c.registers x)) a
        (numbers_hold h entry (mark_of m rs1) (operand_mark m x) _))
        (λ _. tt)
    operation_agrees (Memory x rd rs1 d) = aimed_agrees x rd (aim_of c.registers (moved_set c.registers.marks x rd) rs1 d (access_width x))
