-- What SETHI, arithmetic, logic and shifts do to a row covers what they do to the machine. They read registers that match set entries, write
-- one register with a value that the new entry holds, and leave memory as it is.
use Prim.Native.Nat.{ℕ, ◌≤◌, ◌<◌}
use mathlib.Core.Path.{◌≡◌, refl, sym, ap, ◌∙◌, subst}
use mathlib.Core.Bool.{Bool, true, false, not, cond, ◌&&◌}
use mathlib.Core.List.{List}
use native.Mathlib.Omega.{arith}
use lib.Dec.{leb, eqb}
use Rattle.v8.proofs.Choice.{cond_both, and_went}
use Rattle.v8.specs.Signed.{excess}
use Rattle.v8.specs.declared.AluOp.{AluOp}
use Rattle.v8.specs.declared.ShiftOp.{ShiftOp}
use Rattle.v8.specs.declared.Operand.{Operand}
use Rattle.v8.specs.declared.Operand.TheVariants.{Reg, Imm}
use Rattle.v8.specs.declared.Operation.TheVariants.{Sethi, Alu, Shift}
use Rattle.v8.specs.Laws.{OperandSmall}
use Rattle.alu.specs.Result.{alu_of, shift_of, sethi_of}
use Rattle.alu.specs.declared.codes.Codes.{Codes}
use Rattle.alu.specs.Codes.{codes_of}
use Rattle.alu.proofs.Words.{alu_small, shift_small, sethi_small}
use Rattle.policy.specs.declared.Policy.{Policy}
use Rattle.access.specs.Layout.{layout_of}
use Rattle.step.specs.declared.Registers.{Registers}
use Rattle.step.specs.Registers.{value_of, is_set, operand_value, operand_set, written, with_codes}
use Rattle.step.specs.Effect.{Core, effect_of}
use Rattle.sets.proofs.Ends.{single_formed, single_holds}
use Rattle.rows.specs.declared.Entry.{Entry}
use Rattle.rows.specs.declared.Note.{Note}
use Rattle.rows.specs.declared.Row.{Row}
use Rattle.rows.specs.Entry.{is_unset, is_number, constant, is_constant, is_comparison}
use Rattle.rows.specs.Row.{entry_at, row_with}
use Rattle.rows.specs.Matches.{Host, Holds}
use Rattle.rows.specs.Laws.{EntryRules}
use Rattle.rows.proofs.ByKind.{number_rules, holds_number, ruled_number}
use Rattle.rules.specs.declared.Result.{Result}
use Rattle.rules.specs.declared.Result.TheVariants.{Gives, Fails}
use Rattle.rules.specs.declared.Change.{Change}
use Rattle.rules.specs.Result.{alu_result, shift_result, is_sub}
use Rattle.rules.specs.Change.{operand_entry, note_after, codes_note, writing, alu_change, shift_change, operation_change}
use Rattle.rules.specs.Laws.{Laid, Right, Wrote}
use Rattle.rules.proofs.RightResult.{alu_right, shift_right}
use Rattle.rules.proofs.Writes.{writes_row, keeps_note, makes_note}
use Rattle.guarantee.specs.Fields.{Framed}
use Rattle.guarantee.specs.Guarantee.{value_at, mark_at, held_of, Words}
use Rattle.guarantee.specs.Invariant.{CoreOk, Fitted, Kept, Covers}
use Rattle.guarantee.proofs.Held.{register_value, register_mark, read_small, wrote, words_written, words_coded}

-- memory that is as it was
pub framed_self : (p : Policy) (m : List ℕ) → Framed p m m
framed_self p m = record { length_kept = refl; bytes_kept = λ a o s. refl }

-- an immediate is a single number, and well formed
constant_rules : (regions : ℕ) (sizes : List ℕ) (v : ℕ) → EntryRules regions sizes (constant v)
constant_rules regions sizes v = number_rules refl (single_formed (excess v) (omega arith))

constant_holds : (h : Host) (v : ℕ) → Holds h (constant v) v
constant_holds h v = holds_number refl (single_holds (excess v))

module _ (p : Policy) (h : Host) (row : Row) (c : Core) (ck : CoreOk p h c) (f : Fitted p h row c) where
  -- an operand that is not unset: it is set, and holds one of the entry's values
  pub register_held : (r : ℕ) → r < 32 → is_unset (entry_at row r) ≡ false → (is_set c.registers r ≡ true) × Holds h (entry_at row r) (value_of c.registers r)
  register_held r l u =
      let m = f.matches.entries r u in (sym (register_mark p c r l) ∙ m.0, subst (Holds h (entry_at row r)) (register_value p c r l) m.1)

  pub operand_held : (x : Operand) → OperandSmall x → is_unset (operand_entry row x) ≡ false
      → (operand_set c.registers x ≡ true) × Holds h (operand_entry row x) (operand_value c.registers x)
  operand_held (Reg r) l u = register_held r l u
  operand_held (Imm v) l u = (refl, constant_holds h v)

  pub operand_rules : (x : Operand) → EntryRules p.regions.count p.regions.sizes (operand_entry row x)
  operand_rules (Reg r) = f.rules.entries r
  operand_rules (Imm v) = constant_rules p.regions.count p.regions.sizes v

  pub operand_word : (x : Operand) → OperandSmall x → operand_value c.registers x < 4294967296
  operand_word (Reg r) l = read_small c.registers ck.words r
  operand_word (Imm v) l = l

  -- a note's number is a word
  pub after_word : (n : Note) (rd : ℕ) → n.number < 4294967296 → (note_after n rd).number < 4294967296
  unfolding note_after
  after_word n rd l = cond_both (λ (x : Note). x.number < 4294967296) (is_comparison n && eqb n.register rd) (λ _. omega arith) (λ _. l)

  -- the registers become g, with memory as it is
  core_with : (g : Registers) → Words g → CoreOk p h (record { registers = g; memory = c.memory })
  core_with g w = record { words = w; bytes = ck.bytes; long = ck.long; declared = ck.declared }

  -- a register is written, the codes are not
  pub written_kept : (rd v : ℕ) (e : Entry) → rd < 32 → v < 4294967296 → EntryRules p.regions.count p.regions.sizes e → Holds h e v
      → Kept p h (row_with row rd e (note_after row.note rd)) c (record { registers = written c.registers rd v; memory = c.memory })
  written_kept rd v e lr l re he =
      let c' : Core = record { registers = written c.registers rd v; memory = c.memory } in
      let w = wrote p c rd v ck.words lr in
      let r = writes_row p.regions.count p.regions.sizes h row (held_of p c) (held_of p c') rd v e (note_after row.note rd) w
      f.rules f.matches re he (after_word row.note rd f.rules.number)
      (keeps_note row.note (held_of p c) (held_of p c') rd v w refl refl f.matches.note) in
      record {
        fitted = record { rules = r.0; matches = r.1 };
        core = core_with (written c.registers rd v) (words_written c.registers rd v ck.words l);
        framed = framed_self p c.memory;
      }

  -- a code-setting word's note has a word for its number
  codes_word : (op : AluOp) (rd rs1 : ℕ) (b : Entry) → EntryRules p.regions.count p.regions.sizes b → (codes_note op rd rs1 b).number < 4294967296
  unfolding codes_note
  codes_word op rd rs1 b rb =
      cond_both (λ (x : Note). x.number < 4294967296) (is_sub op && leb 1 rs1 && is_constant b && not (eqb rd rs1))
      (λ t. let k = and_went (is_sub op && leb 1 rs1) (is_constant b) (and_went (is_sub op && leb 1 rs1 && is_constant b) (not (eqb rd rs1)) t).0 in
      let s = ruled_number (and_went (is_number b) (eqb b.set.lo b.set.hi) k.1).0 rb in
      below s.order s.top)
      (λ _. omega arith)
    where
      below : {a b : ℕ} → a ≤ b → b < 4294967296 → a < 4294967296
      below p q = omega arith

  -- setting the codes changes no register and no scratch word
  coded : (rd v : ℕ) (k : Codes) → Wrote (held_of p c) (held_of p (record { registers = written c.registers rd v; memory = c.memory })) rd v
      → Wrote (held_of p c) (held_of p (record { registers = with_codes (written c.registers rd v) k; memory = c.memory })) rd v
  unfolding value_at mark_at
  coded rd v k w = record { here = w.here; others = w.others }

  -- a register is written, and the codes are set
  coded_kept : (op : AluOp) (rd rs1 y : ℕ) (b e : Entry) → rd < 32 → rs1 < 32 → y < 4294967296 → EntryRules p.regions.count p.regions.sizes b → Holds h b y
      → EntryRules p.regions.count p.regions.sizes e → Holds h e (alu_of op (value_of c.registers rs1) y)
      → Kept p h (row_with row rd e (codes_note op rd rs1 b)) c
      (record {
        registers = with_codes (written c.registers rd (alu_of op (value_of c.registers rs1) y)) (codes_of op (value_of c.registers rs1) y);
        memory = c.memory;
      })
  coded_kept op rd rs1 y b e lr ls l rb hb re he =
      let g = c.registers in
      let v = alu_of op (value_of c.registers rs1) y in
      let g' = with_codes (written c.registers rd v) (codes_of op (value_of c.registers rs1) y) in
      let c' : Core = record { registers = g'; memory = c.memory } in
      let w : Wrote (held_of p c) (held_of p c') rd v = coded rd v (codes_of op (value_of c.registers rs1) y) (wrote p c rd v ck.words lr) in
      let r = writes_row p.regions.count p.regions.sizes h row (held_of p c) (held_of p c') rd v e (codes_note op rd rs1 b) w
      f.rules f.matches re he (codes_word op rd rs1 b rb)
      (makes_note op h (held_of p c) (held_of p c') rd rs1 v b y w l hb refl
      (ap (λ (n : ℕ). codes_of op n y) (sym (register_value p c rs1 ls)))) in
      record {
        fitted = record { rules = r.0; matches = r.1 };
        core = core_with g' (words_coded (written g rd v) (codes_of op (value_of g rs1) y)
            (words_written g rd v ck.words (alu_small op (value_of g rs1) y (read_small g ck.words rs1) l)));
        framed = framed_self p c.memory;
      }

  module _ (bases : List ℕ) (frame : ℕ) where
    pub sethi_covers : (rd imm22 : ℕ) → rd < 32
        → Covers p h row c (Sethi rd imm22) (effect_of (layout_of p bases frame) c (Sethi rd imm22)) (operation_change p row (Sethi rd imm22))
    sethi_covers rd imm22 l = (
      tt,
      written_kept rd (sethi_of imm22) (constant (sethi_of imm22)) l (sethi_small imm22)
          (constant_rules p.regions.count p.regions.sizes (sethi_of imm22)) (constant_holds h (sethi_of imm22)),
    )

    -- the change of a result that is right
    alu_made : (op : AluOp) (cc : Bool) (rd rs1 : ℕ) (x : Operand) → (rd < 32) × (rs1 < 32) × OperandSmall x
        → is_unset (entry_at row rs1) ≡ false → is_unset (operand_entry row x) ≡ false
        → (res : Result) → Right p.regions.count p.regions.sizes h res (alu_of op (value_of c.registers rs1) (operand_value c.registers x))
        → Covers p h row c (Alu op cc rd rs1 x) (effect_of (layout_of p bases frame) c (Alu op cc rd rs1 x))
        (writing rd (cond cc (codes_note op rd rs1 (operand_entry row x)) (note_after row.note rd)) rs1 res)
    alu_made op true rd rs1 x l ua ub (Gives e) g =
        let a = register_held rs1 l.1 ua in let b = operand_held x l.2 ub in (
          (a.0, b.0),
          rw (a.0, b.0)
              (coded_kept op rd rs1 (operand_value c.registers x) (operand_entry row x) e l.0 l.1 (operand_word x l.2) (operand_rules x) b.1 g.0 g.1),
        )
    alu_made op false rd rs1 x l ua ub (Gives e) g =
        let a = register_held rs1 l.1 ua in let b = operand_held x l.2 ub in (
          (a.0, b.0),
          rw (a.0, b.0)
              (written_kept rd (alu_of op (value_of c.registers rs1) (operand_value c.registers x)) e l.0
              (alu_small op (value_of c.registers rs1) (operand_value c.registers x) (read_small c.registers ck.words rs1) (operand_word x l.2)) g.0 g.1),
        )
    alu_made op cc rd rs1 x l ua ub (Fails n) g = tt

    pub alu_covers : Laid p.regions.count p.regions.sizes h → (op : AluOp) (cc : Bool) (rd rs1 : ℕ) (x : Operand) → (rd < 32) × (rs1 < 32) × OperandSmall x
        → Covers p h row c (Alu op cc rd rs1 x) (effect_of (layout_of p bases frame) c (Alu op cc rd rs1 x)) (operation_change p row (Alu op cc rd rs1 x))
    unfolding alu_change
    alu_covers laid op cc rd rs1 x l =
        cond_both K (is_unset (entry_at row rs1)) (λ _. tt)
        λ ua. cond_both K (is_unset (operand_entry row x)) (λ _. tt)
        λ ub. alu_made op cc rd rs1 x l ua ub (alu_result p.regions.sizes op (entry_at row rs1) (operand_entry row x))
        (alu_right p.regions.count p.regions.sizes h laid op (entry_at row rs1) (operand_entry row x) (value_of c.registers rs1) (operand_value c.registers x)
        (f.rules.entries rs1) (operand_rules x) (read_small c.registers ck.words rs1) (operand_word x l.2)
        (register_held rs1 l.1 ua).1 (operand_held x l.2 ub).1)
      where
        K : Change → Type 0
        K = Covers p h row c (Alu op cc rd rs1 x) (effect_of (layout_of p bases frame) c (Alu op cc rd rs1 x))

    shift_made : (op : ShiftOp) (rd rs1 : ℕ) (x : Operand) → (rd < 32) × (rs1 < 32) × OperandSmall x
        → is_unset (entry_at row rs1) ≡ false → is_unset (operand_entry row x) ≡ false
        → (res : Result) → Right p.regions.count p.regions.sizes h res (shift_of op (value_of c.registers rs1) (operand_value c.registers x))
        → Covers p h row c (Shift op rd rs1 x) (effect_of (layout_of p bases frame) c (Shift op rd rs1 x)) (writing rd (note_after row.note rd) rs1 res)
    shift_made op rd rs1 x l ua ub (Gives e) g =
        let a = register_held rs1 l.1 ua in let b = operand_held x l.2 ub in (
          (a.0, b.0),
          rw (a.0, b.0)
              (written_kept rd (shift_of op (value_of c.registers rs1) (operand_value c.registers x)) e l.0
              (shift_small op (value_of c.registers rs1) (operand_value c.registers x) (read_small c.registers ck.words rs1)) g.0 g.1),
        )
    shift_made op rd rs1 x l ua ub (Fails n) g = tt

    pub shift_covers : (op : ShiftOp) (rd rs1 : ℕ) (x : Operand) → (rd < 32) × (rs1 < 32) × OperandSmall x
        → Covers p h row c (Shift op rd rs1 x) (effect_of (layout_of p bases frame) c (Shift op rd rs1 x)) (operation_change p row (Shift op rd rs1 x))
    unfolding shift_change
    shift_covers op rd rs1 x l =
        cond_both K (is_unset (entry_at row rs1)) (λ _. tt)
        λ ua. cond_both K (is_unset (operand_entry row x)) (λ _. tt)
        λ ub. shift_made op rd rs1 x l ua ub (shift_result op (entry_at row rs1) (operand_entry row x))
        (shift_right p.regions.count p.regions.sizes h op (entry_at row rs1) (operand_entry row x) (value_of c.registers rs1) (operand_value c.registers x)
        (f.rules.entries rs1) (operand_rules x) (read_small c.registers ck.words rs1) (operand_word x l.2)
        (register_held rs1 l.1 ua).1 (operand_held x l.2 ub).1)
      where
        K : Change → Type 0
        K = Covers p h row c (Shift op rd rs1 x) (effect_of (layout_of p bases frame) c (Shift op rd rs1 x))
