-- What the rules give holds what V8 gives: each rule in turn, as the definition tests them. Single numbers are the words themselves; on
-- numbers it is the sets' law; on addresses the offsets' law, where the test of 16 keeps the sum inside the region; the rest hands an
-- operand on.
use Prim.Native.Nat.{ℕ, ◌+◌, ◌%◌, ◌≤◌, ◌<◌, min}
use mathlib.Core.Path.{◌≡◌, refl, sym, ap, ◌∙◌, subst}
use mathlib.Core.Bool.{true, ◌&&◌, ◌||◌}
use mathlib.Core.List.{List}
use native.Mathlib.Omega.{arith}
use lib.Bits.{or_zero_l, or_zero_r}
use lib.Dec.{leb, eqb}
use lib.ListN.{get_or}
use borrow.Author.Tests.{eqb-true, leb-true, lt-ltb}
use Rattle.v8.proofs.Choice.{cond_both, and_went, false_true}
use Rattle.v8.specs.Signed.{excess, bias}
use Rattle.v8.specs.declared.AluOp.{AluOp}
use Rattle.v8.specs.declared.AluOp.TheVariants.{Add, And, Or, Xor, Sub, Andn, Orn, Xnor}
use Rattle.v8.specs.declared.ShiftOp.{ShiftOp}
use Rattle.v8.specs.declared.ShiftOp.TheVariants.{Sll, Srl, Sra}
use Rattle.alu.specs.Result.{alu_of, shift_of, add32, sub32, sll32, srl32, sra32}
use Rattle.sets.specs.declared.NumberSet.{NumberSet}
use Rattle.sets.specs.Sets.{full, SetRules, Member}
use Rattle.sets_rules.specs.Rules.{add_sets, sub_sets, alu_sets, shift_set}
use Rattle.sets_rules.specs.Laws.{Offset}
use Rattle.sets.proofs.Ends.{single_formed, single_holds, full_formed, full_holds}
use Rattle.sets_rules.proofs.Arithmetic.{alu_formed, alu_holds}
use Rattle.sets_rules.proofs.Shifts.{shift_formed, shift_holds}
use Rattle.sets_rules.proofs.Offsets.{adds_offset, subs_offset}
use Rattle.rows.specs.declared.Entry.{Entry}
use Rattle.rows.specs.Entry.{is_number, is_address, is_start_or_null, is_frame, is_zero, is_constant, word_of, constant, number_in, size_in}
use Rattle.rows.specs.Matches.{Host, base_of, Holds}
use Rattle.rows.specs.Laws.{EntryRules}
use Rattle.rows.proofs.ByKind.{holds_number, holds_address, held_number, held_address, number_rules, address_rules, ruled_number, ruled_address}
use Rattle.rows.proofs.Fitting.{zero_holds}
use Rattle.rules.specs.declared.Result.{Result}
use Rattle.rules.specs.declared.Result.TheVariants.{Gives}
use Rattle.rules.specs.Result.{is_or, constants, both_numbers, offsets_give, address_sum, address_difference, address_rule, alu_result, shift_result}
use Rattle.rules.specs.Laws.{Laid, Right, AluRight, ShiftRight}

-- the word of a single number is the one it holds
pub constant_holds : (h : Host) (e : Entry) (v : ℕ) → v < 4294967296 → is_constant e ≡ true → Holds h e v → word_of e ≡ v
constant_holds h e v l c m =
    let p = and_went (is_number e) (eqb e.set.lo e.set.hi) c in
    let n = held_number p.0 m in
    let q : excess v ≡ e.set.lo = omega (arith, n.low, n.high, eqb-true e.set.lo e.set.hi p.1) in
    ap excess (sym q) ∙ back v l
  where
    back : (v : ℕ) → v < 4294967296 → excess (excess v) ≡ v
    back v l = omega arith

only_or : (op : AluOp) → is_or op ≡ true → op ≡ Or
only_or Add e = false_true e
only_or And e = false_true e
only_or Or e = refl
only_or Xor e = false_true e
only_or Sub e = false_true e
only_or Andn e = false_true e
only_or Orn e = false_true e
only_or Xnor e = false_true e

-- OR with 0 hands the other operand on
or_left : (op : AluOp) (x y : ℕ) → is_or op ≡ true → x ≡ 0 → y ≡ alu_of op x y
or_left op x y e z = rw (only_or op e, z) (sym (or_zero_l y))

or_right : (op : AluOp) (x y : ℕ) → is_or op ≡ true → y ≡ 0 → x ≡ alu_of op x y
or_right op x y e z = rw (only_or op e, z) (sym (or_zero_r x))

-- a region's size
pub size_in_lem : (sizes : List ℕ) (r : ℕ) → r < 8 → size_in sizes r ≡ get_or sizes r 0
unfolding size_in
size_in_lem sizes r l = rw (lt-ltb r 8 l)

pub adds_turn : (a b : NumberSet) → add_sets a b ≡ add_sets b a
unfolding add_sets
adds_turn a b = rw (turn_min a.step b.step, turn a.lo b.lo, turn a.hi b.hi)
  where
    turn_min : (x y : ℕ) → min x y ≡ min y x
    turn_min x y = omega arith

    turn : (x y : ℕ) → x + y ≡ y + x
    turn x y = omega arith

module _ (regions : ℕ) (sizes : List ℕ) (h : Host) where
  -- a single number
  constant_right : (v : ℕ) → Right regions sizes h (Gives (constant v)) v
  constant_right v =
      (number_rules refl (single_formed (excess v) (omega arith)), holds_number refl (single_holds (excess v)))

  -- a number of a set
  number_right : (s : NumberSet) (v : ℕ) → SetRules s → Member s (excess v) → Right regions sizes h (Gives (number_in s)) v
  number_right s v w m = (number_rules refl w, holds_number refl m)

  -- both operands are single numbers
  given_constants : (f : ℕ → ℕ → ℕ) (a b : Entry) (x y : ℕ) → x < 4294967296 → y < 4294967296 → Holds h a x → Holds h b y
      → constants a b ≡ true → Right regions sizes h (Gives (constant (f (word_of a) (word_of b)))) (f x y)
  given_constants f a b x y lx ly ma mb t =
      let p = and_went (is_constant a) (is_constant b) t in
      rw (constant_holds h a x lx p.0 ma, constant_holds h b y ly p.1 mb) (constant_right (f x y))

  module _ (laid : Laid regions sizes h) where
    -- the offsets of a region that lie in it
    offsets_right : (r : ℕ) (s : NumberSet) (v : ℕ) → r < regions → SetRules s
        → (bias ≤ s.lo → s.hi ≤ bias + size_in sizes r → base_of h r + size_in sizes r < 4294967296 → Offset (base_of h r) s v)
        → Right regions sizes h (offsets_give sizes r s) v
    unfolding offsets_give
    offsets_right r s v l w o =
        cond_both (λ (x : Result). Right regions sizes h x v) (leb bias s.lo && leb s.hi (bias + size_in sizes r))
        (λ t. let p = and_went (leb bias s.lo) (leb s.hi (bias + size_in sizes r)) t in
        let low = leb-true bias s.lo p.0 in
        let high = leb-true s.hi (bias + size_in sizes r) p.1 in (
          address_rules refl (record { region = l; set = w; low = low; high = high }),
          holds_address refl (o low high below),
        ))
        (λ t. tt)
      where
        most : r < 8
        most = omega (arith, laid.regions_most)

        below : base_of h r + size_in sizes r < 4294967296
        below = rw (size_in_lem sizes r most) (laid.below r l)

    module _ (a b : Entry) (x y : ℕ) (wa : EntryRules regions sizes a) (wb : EntryRules regions sizes b) (lx : x < 4294967296) (ly : y < 4294967296)
        (ma : Holds h a x) (mb : Holds h b y) where
      sum_right : Right regions sizes h (address_sum sizes a b) (add32 x y)
      unfolding address_sum
      sum_right =
          cond_both (λ (r : Result). Right regions sizes h r (add32 x y)) (is_address a && is_number b)
          (λ t. let p = and_went (is_address a) (is_number b) t in
          let da = ruled_address p.0 wa in
          offsets_right a.region (add_sets a.set b.set) (add32 x y) da.region (alu_formed Add a.set b.set da.set (ruled_number p.1 wb))
          (λ low high below. adds_offset a.set b.set (base_of h a.region) (size_in sizes a.region) x y da.set (ruled_number p.1 wb) ly below low high
          (held_address p.0 ma) (held_number p.1 mb)))
          λ _. cond_both (λ (r : Result). Right regions sizes h r (add32 x y)) (is_number a && is_address b)
          (λ t. let p = and_went (is_number a) (is_address b) t in
          let db = ruled_address p.1 wb in
          subst (λ (s : NumberSet). Right regions sizes h (offsets_give sizes b.region s) (add32 x y)) (adds_turn b.set a.set)
          (offsets_right b.region (add_sets b.set a.set) (add32 x y) db.region (alu_formed Add b.set a.set db.set (ruled_number p.0 wa))
          (λ low high below. subst (Offset (base_of h b.region) (add_sets b.set a.set)) (turned y x)
          (adds_offset b.set a.set (base_of h b.region) (size_in sizes b.region) y x db.set (ruled_number p.0 wa) lx below low high
          (held_address p.1 mb) (held_number p.0 ma)))))
          λ _. tt
        where
          turned : (x y : ℕ) → add32 x y ≡ add32 y x
          turned x y = omega arith

      difference_right : Right regions sizes h (address_difference sizes a b) (sub32 x y)
      unfolding address_difference
      difference_right =
          cond_both (λ (r : Result). Right regions sizes h r (sub32 x y)) (is_address a && is_number b)
          (λ t. let p = and_went (is_address a) (is_number b) t in
          let da = ruled_address p.0 wa in
          offsets_right a.region (sub_sets a.set b.set) (sub32 x y) da.region (alu_formed Sub a.set b.set da.set (ruled_number p.1 wb))
          (λ low high below. subs_offset a.set b.set (base_of h a.region) (size_in sizes a.region) x y da.set (ruled_number p.1 wb) ly below low high
          (held_address p.0 ma) (held_number p.1 mb)))
          λ _. cond_both (λ (r : Result). Right regions sizes h r (sub32 x y)) (is_start_or_null a && is_zero b)
          (λ t. let p = and_went (is_start_or_null a) (is_zero b) t in
          (wa, subst (Holds h a) (less x y lx (zero_holds h b y ly p.1 mb)) ma))
          λ _. tt
        where
          less : (x y : ℕ) → x < 4294967296 → y ≡ 0 → x ≡ sub32 x y
          less x y l e = omega arith

      rule_right : (op : AluOp) → Right regions sizes h (address_rule sizes op a b) (alu_of op x y)
      rule_right Add = sum_right
      rule_right And = tt
      rule_right Or = tt
      rule_right Xor = tt
      rule_right Sub = difference_right
      rule_right Andn = tt
      rule_right Orn = tt
      rule_right Xnor = tt

pub alu_right : AluRight
unfolding alu_result
alu_right regions sizes h laid op a b x y wa wb lx ly ma mb =
    cond_both R (is_frame a || is_frame b) (λ _. tt)
    λ _. cond_both R (constants a b) (given_constants regions sizes h (alu_of op) a b x y lx ly ma mb)
    λ _. cond_both R (is_or op && is_zero a)
    (λ t. let p = and_went (is_or op) (is_zero a) t in (wb, subst (Holds h b) (or_left op x y p.0 (zero_holds h a x lx p.1 ma)) mb))
    λ _. cond_both R (is_or op && is_zero b)
    (λ t. let p = and_went (is_or op) (is_zero b) t in (wa, subst (Holds h a) (or_right op x y p.0 (zero_holds h b y ly p.1 mb)) ma))
    λ _. cond_both R (both_numbers a b)
    (λ t. let p = and_went (is_number a) (is_number b) t in
    number_right regions sizes h (alu_sets op a.set b.set) (alu_of op x y)
    (alu_formed op a.set b.set (ruled_number p.0 wa) (ruled_number p.1 wb))
    (alu_holds op a.set b.set x y (ruled_number p.0 wa) (ruled_number p.1 wb) lx ly (held_number p.0 ma) (held_number p.1 mb)))
    λ _. rule_right regions sizes h laid a b x y wa wb lx ly ma mb op
  where
    R : Result → Type 0
    R r = Right regions sizes h r (alu_of op x y)

low_mod : (y : ℕ) → y % 32 % 32 ≡ y % 32
low_mod y = omega arith

-- a shift uses its count modulo 32
count_mod : (op : ShiftOp) (x y : ℕ) → shift_of op x (y % 32) ≡ shift_of op x y
count_mod Sll x y = ap (sll32 x) (low_mod y)
count_mod Srl x y = ap (srl32 x) (low_mod y)
count_mod Sra x y = ap (sra32 x) (low_mod y)

pub shift_right : ShiftRight
unfolding shift_result
shift_right regions sizes h op a b x y wa wb lx ly ma mb =
    cond_both R (constants a b) (given_constants regions sizes h (shift_of op) a b x y lx ly ma mb)
    λ _. cond_both R (both_numbers a b && is_constant b)
    (λ t. let p = and_went (both_numbers a b) (is_constant b) t in
    let q = and_went (is_number a) (is_number b) p.0 in
    rw (constant_holds h b y ly p.1 mb)
    (number_right regions sizes h (shift_set op a.set (y % 32)) (shift_of op x y) (shift_formed op a.set (y % 32) (omega arith) (ruled_number q.0 wa))
    (subst (λ (v : ℕ). Member (shift_set op a.set (y % 32)) (excess v)) (count_mod op x y)
    (shift_holds op a.set x (y % 32) (omega arith) (ruled_number q.0 wa) lx (held_number q.0 ma)))))
    λ _. cond_both R (both_numbers a b)
    (λ t. number_right regions sizes h full (shift_of op x y) full_formed (full_holds (shift_of op x y)))
    λ _. tt
  where
    R : Result → Type 0
    R r = Right regions sizes h r (shift_of op x y)
