-- A word raises what its registers' marks raise, and leaves every register with a mark: unset makes what is made of it unset, so that
-- marks which differ only where one is unset are no trouble.
use Prim.Native.Nat.{ℕ}
use mathlib.Core.Path.{◌≡◌, refl, ◌∙◌}
use mathlib.Core.Bool.{Bool, true, false, cond, not, ◌||◌, and-false}
use mathlib.Core.List.{List}
use native.Mathlib.Omega.{arith}
use lib.Dec.{ltb, eqb}
use lib.ListN.{length, set, length-set}
use lib.Seq.{get_or-set_same, get_or-set_other}
use borrow.Author.Tests.{eqb-true, eqb-false, ltb-true, not-true}
use Rattle.v8.proofs.Choice.{cond_both}
use Rattle.v8.specs.declared.AluOp.{AluOp}
use Rattle.v8.specs.declared.AluOp.TheVariants.{Add, And, Or, Xor, Sub, Andn, Orn, Xnor}
use Rattle.v8.specs.declared.LoadOp.{LoadOp}
use Rattle.v8.specs.declared.LoadOp.TheVariants.{Ld, Ldub, Lduh, Ldsb, Ldsh}
use Rattle.v8.specs.declared.Operand.{Operand}
use Rattle.v8.specs.declared.Operand.TheVariants.{Reg, Imm}
use Rattle.v8.specs.declared.Access.{Access}
use Rattle.v8.specs.declared.Access.TheVariants.{Loads, Stores}
use Rattle.v8.specs.declared.Operation.{Operation}
use Rattle.v8.specs.declared.Operation.TheVariants.{Sethi, Alu, Shift, Memory}
use Rattle.v8.specs.declared.Instruction.{Instruction}
use Rattle.v8.specs.declared.Instruction.TheVariants.{Plain, Branch, Return}
use Rattle.v8.specs.declared.Reading.TheVariants.{Read, Unread}
use Rattle.flow_writes.specs.Written.{register_written}
use Rattle.marks.specs.Marks.{not_reached, number, address, unset, AtMost, register_count, mark_of, marks_with, MarksAtMost}
use Rattle.marks.specs.Effect.{operand_mark, is_r0, both, of_numbers, sum_mark, difference_mark, or_mark, alu_mark, load_mark, access_mark, operation_mark, instruction_mark}
use Rattle.marks.specs.Laws.{AllMarked, AfterRises, AfterMarked}
use Rattle.marks.proofs.Order.{at_most_ways, at_most_self, at_most_unset}

-- a mark stands in a relation to another, two choices by one test with what they choose
choice : (R : ℕ → ℕ → Type 0) (t : Bool) (a b c d : ℕ) → R a b → R c d → R (cond t a c) (cond t b d)
choice R true a b c d p q = p
choice R false a b c d p q = q

-- what is written to two words' marks, and what they had before
with_related : (R : ℕ → ℕ → Type 0) (a b : List ℕ) (r x y q : ℕ) → length a ≡ register_count → length b ≡ register_count
    → R x y → R (mark_of a q) (mark_of b q) → R (mark_of (marks_with a r x) q) (mark_of (marks_with b r y) q)
unfolding mark_of marks_with
with_related R a b r x y q la lb new old = at (eqb r 0) refl (ltb r register_count) refl (eqb q r) refl
  where
    at : (s : Bool) → eqb r 0 ≡ s → (t : Bool) → ltb r register_count ≡ t → (u : Bool) → eqb q r ≡ u
        → R (mark_of (marks_with a r x) q) (mark_of (marks_with b r y) q)
    at true es t et u eu = rw es old
    at false es false et u eu = rw (es, et) old
    at false es true et true eu =
        let l = ltb-true r register_count et in
        rw (es, et, eqb-true q r eu, get_or-set_same a r x 0 (omega (arith, la, l)), get_or-set_same b r y 0 (omega (arith, lb, l))) (rw et new)
    at false es true et false eu = rw (es, et, get_or-set_other a r q x 0 (eqb-false q r eu), get_or-set_other b r q y 0 (eqb-false q r eu)) old

-- a mark that is there
abbrev Marked : ℕ → Type 0
Marked a = not (eqb a not_reached) ≡ true

marked : (a : ℕ) → Marked a → a ≡ not_reached → ⊥
marked a m e = absurd (eqb-false a not_reached (not-true (eqb a not_reached) m) e)

-- what two marks make, if unset makes it unset
rises : (f : ℕ → ℕ → ℕ) → ((b : ℕ) → f unset b ≡ unset) → ((a : ℕ) → f a unset ≡ unset) → (a b c d : ℕ)
    → Marked a → Marked b → AtMost a c → AtMost b d → AtMost (f a b) (f c d)
rises f left right a b c d ma mb p q =
    at_most_ways a c p
    (λ e. absurd (marked a ma e))
    (λ e. at_most_ways b d q
    (λ g. absurd (marked b mb g))
    (λ g. rw (e, g) (at_most_self (f c d)))
    (λ g. rw (g, right c) (at_most_unset (f a b))))
    (λ e. rw (e, left d) (at_most_unset (f a b)))

numbers_left : (b : ℕ) → of_numbers unset b ≡ unset
unfolding of_numbers
numbers_left b = refl

numbers_right : (a : ℕ) → of_numbers a unset ≡ unset
unfolding of_numbers
numbers_right a = rw and-false

sum_left : (b : ℕ) → sum_mark unset b ≡ unset
unfolding sum_mark
sum_left b = numbers_left b

sum_right : (a : ℕ) → sum_mark a unset ≡ unset
unfolding sum_mark
sum_right a = rw (and-false, and-false, numbers_right a)

difference_left : (b : ℕ) → difference_mark unset b ≡ unset
unfolding difference_mark
difference_left b = numbers_left b

difference_right : (a : ℕ) → difference_mark a unset ≡ unset
unfolding difference_mark
difference_right a = rw (and-false, numbers_right a)

-- what numbers, sums and differences make is a mark
numbers_marked : (a b : ℕ) → Marked (of_numbers a b)
unfolding of_numbers
numbers_marked a b = cond_both Marked (both a b number number) (λ e. refl) (λ e. refl)

sum_marked : (a b : ℕ) → Marked (sum_mark a b)
unfolding sum_mark
sum_marked a b = cond_both Marked (both a b address number || both a b number address) (λ e. refl) (λ e. numbers_marked a b)

difference_marked : (a b : ℕ) → Marked (difference_mark a b)
unfolding difference_mark
difference_marked a b = cond_both Marked (both a b address number) (λ e. refl) (λ e. numbers_marked a b)

module _ (a : List ℕ) (all : AllMarked a) where
  operand_marked : (x : Operand) → Marked (operand_mark a x)
  operand_marked (Reg r) = all r
  operand_marked (Imm v) = refl

  or_marked : (rs1 : ℕ) (x : Operand) → Marked (or_mark a rs1 x)
  unfolding or_mark
  or_marked rs1 x =
      cond_both Marked (eqb rs1 0) (λ e. operand_marked x)
      (λ e. cond_both Marked (is_r0 x) (λ f. all rs1) (λ f. numbers_marked (mark_of a rs1) (operand_mark a x)))

  alu_marked : (op : AluOp) (rs1 : ℕ) (x : Operand) → Marked (alu_mark a op rs1 x)
  alu_marked Add rs1 x = sum_marked (mark_of a rs1) (operand_mark a x)
  alu_marked And rs1 x = numbers_marked (mark_of a rs1) (operand_mark a x)
  alu_marked Or rs1 x = or_marked rs1 x
  alu_marked Xor rs1 x = numbers_marked (mark_of a rs1) (operand_mark a x)
  alu_marked Sub rs1 x = difference_marked (mark_of a rs1) (operand_mark a x)
  alu_marked Andn rs1 x = numbers_marked (mark_of a rs1) (operand_mark a x)
  alu_marked Orn rs1 x = numbers_marked (mark_of a rs1) (operand_mark a x)
  alu_marked Xnor rs1 x = numbers_marked (mark_of a rs1) (operand_mark a x)

  load_marked : (op : LoadOp) → Marked (load_mark op)
  load_marked Ld = refl
  load_marked Ldub = refl
  load_marked Lduh = refl
  load_marked Ldsb = refl
  load_marked Ldsh = refl

  access_marked : (x : Access) → Marked (access_mark x)
  access_marked (Loads op) = load_marked op
  access_marked (Stores op) = refl

  operation_marked : (x : Operation) → Marked (operation_mark a x)
  operation_marked (Sethi rd imm22) = refl
  operation_marked (Alu op cc rd rs1 x) = alu_marked op rs1 x
  operation_marked (Shift op rd rs1 x) = numbers_marked (mark_of a rs1) (operand_mark a x)
  operation_marked (Memory x rd rs1 d) = access_marked x

  instruction_marked : (x : Instruction) → Marked (instruction_mark a x)
  instruction_marked (Plain x) = operation_marked x
  instruction_marked (Branch b) = refl
  instruction_marked Return = refl

-- one word's marks are raised to another's
module _ (a b : List ℕ) (all : AllMarked a) (h : MarksAtMost a b) where
  operand_rises : (x : Operand) → AtMost (operand_mark a x) (operand_mark b x)
  operand_rises (Reg r) = h r
  operand_rises (Imm v) = at_most_self number

  made_rises : (f : ℕ → ℕ → ℕ) → ((c : ℕ) → f unset c ≡ unset) → ((c : ℕ) → f c unset ≡ unset) → (rs1 : ℕ) (x : Operand)
      → AtMost (f (mark_of a rs1) (operand_mark a x)) (f (mark_of b rs1) (operand_mark b x))
  made_rises f left right rs1 x =
      rises f left right (mark_of a rs1) (operand_mark a x) (mark_of b rs1) (operand_mark b x) (all rs1) (operand_marked a all x) (h rs1) (operand_rises x)

  numbers_rise : (rs1 : ℕ) (x : Operand) → AtMost (of_numbers (mark_of a rs1) (operand_mark a x)) (of_numbers (mark_of b rs1) (operand_mark b x))
  numbers_rise = made_rises of_numbers numbers_left numbers_right

  or_rises : (rs1 : ℕ) (x : Operand) → AtMost (or_mark a rs1 x) (or_mark b rs1 x)
  unfolding or_mark
  or_rises rs1 x =
      choice AtMost (eqb rs1 0) _ _ _ _ (operand_rises x) (choice AtMost (is_r0 x) _ _ _ _ (h rs1) (numbers_rise rs1 x))

  alu_rises : (op : AluOp) (rs1 : ℕ) (x : Operand) → AtMost (alu_mark a op rs1 x) (alu_mark b op rs1 x)
  alu_rises Add = made_rises sum_mark sum_left sum_right
  alu_rises And = numbers_rise
  alu_rises Or = or_rises
  alu_rises Xor = numbers_rise
  alu_rises Sub = made_rises difference_mark difference_left difference_right
  alu_rises Andn = numbers_rise
  alu_rises Orn = numbers_rise
  alu_rises Xnor = numbers_rise

  operation_rises : (x : Operation) → AtMost (operation_mark a x) (operation_mark b x)
  operation_rises (Sethi rd imm22) = at_most_self number
  operation_rises (Alu op cc rd rs1 x) = alu_rises op rs1 x
  operation_rises (Shift op rd rs1 x) = numbers_rise rs1 x
  operation_rises (Memory x rd rs1 d) = at_most_self (access_mark x)

  instruction_rises : (x : Instruction) → AtMost (instruction_mark a x) (instruction_mark b x)
  instruction_rises (Plain x) = operation_rises x
  instruction_rises (Branch c) = at_most_self unset
  instruction_rises Return = at_most_self unset

pub after_rises : AfterRises
after_rises a b (Read x) la lb all h r =
    with_related AtMost a b (register_written x) (instruction_mark a x) (instruction_mark b x) r la lb (instruction_rises a b all h x) (h r)
after_rises a b (Unread n) la lb all h r = h r

-- as many registers stand after a write, whatever is kept of each
pub list_written : {A : Type 0} (xs : List A) (r : ℕ) (x : A) → length xs ≡ register_count
    → length (cond (eqb r 0) xs (cond (ltb r register_count) (set xs r x) xs)) ≡ register_count
list_written {A} xs r x e =
    cond_both (λ (ys : List A). length ys ≡ register_count) (eqb r 0) (λ f. e)
    (λ f. cond_both (λ (ys : List A). length ys ≡ register_count) (ltb r register_count) (λ g. length-set xs r x ∙ e) (λ g. e))

with_length : (a : List ℕ) (r x : ℕ) → length a ≡ register_count → length (marks_with a r x) ≡ register_count
unfolding marks_with
with_length a r x e = list_written a r x e

pub after_marked : AfterMarked
after_marked a (Read x) e all = (
  λ r. with_related (λ (m n : ℕ). Marked m) a a (register_written x) (instruction_mark a x) (instruction_mark a x) r e e (instruction_marked a all x) (all r),
  with_length a (register_written x) (instruction_mark a x) e,
)
after_marked a (Unread n) e all = (all, e)
