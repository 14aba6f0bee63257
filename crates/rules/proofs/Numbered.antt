-- A condition that is broken has a number: what refuses is no 0, which stands for acceptance.
use Prim.Native.Nat.{ℕ}
use mathlib.Core.Path.{◌≡◌, refl}
use mathlib.Core.Bool.{Bool, false, not, ◌&&◌, ◌||◌}
use mathlib.Core.List.{List, []}
use lib.Dec.{leb, ltb, eqb}
use Rattle.std.specs.Prelude.{Option, Some, None}
use Rattle.v8.specs.Signed.{bias}
use Rattle.v8.proofs.Choice.{cond_both}
use Rattle.v8.specs.declared.AluOp.{AluOp}
use Rattle.v8.specs.declared.AluOp.TheVariants.{Add, And, Or, Xor, Sub, Andn, Orn, Xnor}
use Rattle.v8.specs.declared.ShiftOp.{ShiftOp}
use Rattle.v8.specs.declared.Access.{Access}
use Rattle.v8.specs.declared.Access.TheVariants.{Loads, Stores}
use Rattle.v8.specs.declared.Operation.{Operation}
use Rattle.v8.specs.declared.Operation.TheVariants.{Sethi, Alu, Shift, Memory}
use Rattle.v8.specs.declared.Instruction.{Instruction}
use Rattle.v8.specs.declared.Instruction.TheVariants.{Plain, Branch, Return}
use Rattle.flow_edges.specs.Transfer.{reads_codes, link}
use Rattle.flow_writes.specs.Written.{access_writes}
use Rattle.policy.specs.declared.Field.{Field}
use Rattle.policy.specs.declared.Policy.{Policy}
use Rattle.policy.specs.Policy.{field_at}
use Rattle.policy_search.specs.Find.{find_field}
use Rattle.memory.specs.Frame.{is_scratch}
use Rattle.access.specs.Serve.{access_width, is_word, serves, allows, addend}
use Rattle.sets.specs.declared.NumberSet.{NumberSet}
use Rattle.sets_rules.specs.Rules.{add_sets, sub_sets}
use Rattle.rows.specs.declared.Entry.{Entry}
use Rattle.rows.specs.declared.Note.{Note}
use Rattle.rows.specs.declared.Row.{Row}
use Rattle.rows.specs.Entry.{is_unset, is_number, is_address, is_start_or_null, is_zero, is_constant, is_return, is_frame, word_of, fits, field_entry}
use Rattle.rows.specs.Row.{entry_at}
use Rattle.rules.specs.declared.Operands.{Operands}
use Rattle.rules.specs.declared.Result.{Result}
use Rattle.rules.specs.declared.Result.TheVariants.{Gives, Fails}
use Rattle.rules.specs.declared.Reach.{Reach}
use Rattle.rules.specs.declared.Reach.TheVariants.{Inside, Scratch, Outside}
use Rattle.rules.specs.declared.Change.{Change}
use Rattle.rules.specs.declared.Change.TheVariants.{Writes, Keeps, Breaks}
use Rattle.rules.specs.Result.{is_or, constants, both_numbers, offsets_give, address_sum, address_difference, address_rule, alu_result, shift_result}
use Rattle.rules.specs.Reach.{reach_end, on_grid, in_field, in_found, in_region, in_frame, frame_reach, reach_of}
use Rattle.rules.specs.Change.{operands_of, if_set, writing, alu_change, shift_change, stores, accessed, kept_at, accessed_at, access_change, operation_change, branch_change, return_change, change_of}

-- what fails has a number
abbrev Failing : Result → Type 0
Failing (Gives e) = Unit {0}
Failing (Fails n) = eqb n 0 ≡ false

abbrev Outlying : Reach → Type 0
Outlying (Inside place) = Unit {0}
Outlying (Scratch k) = Unit {0}
Outlying (Outside n r) = eqb n 0 ≡ false

abbrev pub Numbered : Change → Type 0
Numbered (Writes r e n) = Unit {0}
Numbered Keeps = Unit {0}
Numbered (Breaks n r) = eqb n 0 ≡ false

module _ (sizes : List ℕ) (a b : Entry) where
  offsets_fail : (r : ℕ) (s : NumberSet) → Failing (offsets_give sizes r s)
  unfolding offsets_give
  offsets_fail r s = cond_both Failing (leb bias s.lo && leb s.hi _) (λ _. tt) (λ _. refl)

  sum_fails : Failing (address_sum sizes a b)
  unfolding address_sum
  sum_fails =
      cond_both Failing (is_address a && is_number b) (λ _. offsets_fail a.region (add_sets a.set b.set))
      λ _. cond_both Failing (is_number a && is_address b) (λ _. offsets_fail b.region (add_sets a.set b.set)) (λ _. refl)

  difference_fails : Failing (address_difference sizes a b)
  unfolding address_difference
  difference_fails =
      cond_both Failing (is_address a && is_number b) (λ _. offsets_fail a.region (sub_sets a.set b.set))
      λ _. cond_both Failing (is_start_or_null a && is_zero b) (λ _. tt) (λ _. refl)

  rule_fails : (op : AluOp) → Failing (address_rule sizes op a b)
  rule_fails Add = sum_fails
  rule_fails And = refl
  rule_fails Or = refl
  rule_fails Xor = refl
  rule_fails Sub = difference_fails
  rule_fails Andn = refl
  rule_fails Orn = refl
  rule_fails Xnor = refl

  alu_fails : (op : AluOp) → Failing (alu_result sizes op a b)
  unfolding alu_result
  alu_fails op =
      cond_both Failing (is_frame a || is_frame b) (λ _. refl)
      λ _. cond_both Failing (constants a b) (λ _. tt)
      λ _. cond_both Failing (is_or op && is_zero a) (λ _. tt)
      λ _. cond_both Failing (is_or op && is_zero b) (λ _. tt)
      λ _. cond_both Failing (both_numbers a b) (λ _. tt) (λ _. rule_fails op)

  shift_fails : (op : ShiftOp) → Failing (shift_result op a b)
  unfolding shift_result
  shift_fails op =
      cond_both Failing (constants a b) (λ _. tt)
      λ _. cond_both Failing (both_numbers a b && is_constant b) (λ _. tt)
      λ _. cond_both Failing (both_numbers a b) (λ _. tt) (λ _. refl)

module _ (p : Policy) (a : Access) (rs1 : ℕ) where
  field_outlies : (f : Field) (s : NumberSet) (place : ℕ) → Outlying (in_field f a rs1 s place)
  unfolding in_field
  field_outlies f s place =
      cond_both Outlying (ltb 4096 (reach_end s (access_width a))) (λ _. refl)
      λ _. cond_both Outlying (not (serves a f.element)) (λ _. refl)
      λ _. cond_both Outlying (not (on_grid s (access_width a))) (λ _. refl)
      λ _. cond_both Outlying (not (allows a f.permission)) (λ _. refl) (λ _. tt)

  found_outlies : (s : NumberSet) (f : Option ℕ) → Outlying (in_found p.fields a rs1 s f)
  found_outlies s (Some place) = field_outlies _ s place
  found_outlies s None = refl

  region_outlies : (r : ℕ) (s : NumberSet) → Outlying (in_region p.regions.fields p.fields a rs1 r s)
  unfolding in_region
  region_outlies r s = cond_both Outlying (ltb s.lo bias) (λ _. refl) (λ _. found_outlies s (find_field p r _ (reach_end s (access_width a))))

  frame_outlies : (offset : ℕ) → Outlying (in_frame a rs1 offset)
  unfolding in_frame
  frame_outlies offset =
      cond_both Outlying (not (is_scratch offset)) (λ _. refl)
      λ _. cond_both Outlying (not (is_word a)) (λ _. refl) (λ _. tt)

  reach_outlies : (frame : Bool) (rs2 : ℕ) (x y : Entry) → Outlying (reach_of p.regions.fields p.fields a frame rs1 x rs2 y)
  unfolding reach_of frame_reach
  reach_outlies frame rs2 x y =
      cond_both Outlying (is_start_or_null x) (λ _. refl)
      λ _. cond_both Outlying (is_start_or_null y) (λ _. refl)
      λ _. cond_both Outlying frame (λ _. refl)
      λ _. cond_both Outlying (is_address x && is_number y) (λ _. region_outlies x.region (add_sets x.set y.set))
      λ _. cond_both Outlying (is_number x && is_address y) (λ _. region_outlies y.region (add_sets x.set y.set))
      λ _. cond_both Outlying (is_frame x && is_constant y) (λ _. frame_outlies (word_of y))
      λ _. cond_both Outlying (is_constant x && is_frame y) (λ _. frame_outlies (word_of x)) (λ _. refl)

writing_numbered : (rd rs1 : ℕ) (n : Note) (r : Result) → Failing r → Numbered (writing rd n rs1 r)
writing_numbered rd rs1 n (Gives e) f = tt
writing_numbered rd rs1 n (Fails k) f = f

accessed_numbered : (n : Note) (a : Access) (to rd : ℕ) (e held : Entry) → Numbered (accessed n a to rd e held)
accessed_numbered n (Loads op) to rd e held = tt
accessed_numbered n (Stores op) to rd e held = cond_both Numbered (fits e held) (λ _. tt) (λ _. refl)

if-set : (r : ℕ) (e : Entry) (rest : Change) → Numbered rest → Numbered (if_set r e rest)
if-set r e rest n = cond_both Numbered (is_unset e) (λ _. refl) (λ _. n)

kept_numbered : (row : Row) (a : Access) (to : ℕ) (e : Entry) (i : ℕ) → Numbered (kept_at row a to e i)
kept_numbered row (Loads op) to e i = if-set _ (entry_at row i) _ tt
kept_numbered row (Stores op) to e i = tt

reached_numbered : (p : Policy) (row : Row) (a : Access) (to rd : ℕ) (r : Reach) → Outlying r → Numbered (accessed_at p row a to rd r)
reached_numbered p row a to rd (Inside place) o = accessed_numbered row.note a to rd (entry_at row rd) (field_entry (field_at p place))
reached_numbered p row a to rd (Scratch k) o = kept_numbered row a to (entry_at row rd) _
reached_numbered p row a to rd (Outside k r) o = o

module _ (n : Note) (to : ℕ) (o : Operands) where
  if_both : (rest : Change) → Numbered rest → Numbered (if_set o.rs1 o.first (if_set o.rs2 o.second rest))
  if_both rest k = if-set o.rs1 o.first _ (if-set o.rs2 o.second rest k)

  alu_numbered : (sizes : List ℕ) (op : AluOp) (cc : Bool) → Numbered (alu_change sizes n op cc to o)
  unfolding alu_change
  alu_numbered sizes op cc = if_both _ (writing_numbered to o.rs1 _ (alu_result sizes op o.first o.second) (alu_fails sizes o.first o.second op))

  shift_numbered : (op : ShiftOp) → Numbered (shift_change n op to o)
  unfolding shift_change
  shift_numbered op = if_both _ (writing_numbered to o.rs1 _ (shift_result op o.first o.second) (shift_fails [] o.first o.second op))

  access_numbered : (p : Policy) (row : Row) (a : Access) (rd : ℕ) → Numbered (access_change p row a to rd o)
  unfolding access_change
  access_numbered p row a rd =
      if_both _
      (cond_both Numbered (stores a && is_unset (entry_at row rd)) (λ _. refl)
      λ _. reached_numbered p row a to rd
      (reach_of p.regions.fields p.fields a (stores a && is_frame (entry_at row rd)) o.rs1 o.first o.rs2 o.second)
      (reach_outlies p a o.rs1 (stores a && is_frame (entry_at row rd)) o.rs2 o.first o.second))

pub operation_numbered : (p : Policy) (row : Row) (x : Operation) → Numbered (operation_change p row x)
operation_numbered p row (Sethi rd imm22) = tt
operation_numbered p row (Alu op cc rd rs1 x) = alu_numbered row.note rd (operands_of row rs1 x) p.regions.sizes op cc
operation_numbered p row (Shift op rd rs1 x) = shift_numbered row.note rd (operands_of row rs1 x) op
operation_numbered p row (Memory a rd rs1 d) = access_numbered row.note (access_writes a rd) (operands_of row rs1 (addend d)) p row a rd

pub change_numbered : (p : Policy) (row : Row) (x : Instruction) → Numbered (change_of p row x)
unfolding branch_change return_change
change_numbered p row (Plain x) = operation_numbered p row x
change_numbered p row (Branch b) = cond_both Numbered (eqb row.note.kind 0 && reads_codes b.cond) (λ _. refl) (λ _. tt)
change_numbered p row Return =
    if-set link (entry_at row link) _ (cond_both Numbered (is_return (entry_at row link)) (λ _. tt) (λ _. refl))
