-- The table of conditions against V8's formulas, the opposite of a condition, and what a condition says after SUBcc. Each is
-- shown for the sixteen rows at once, as an equation of two lists or by one step for each row.
use Prim.Native.Nat.{ℕ, zero, suc, ◌+◌, ◌%◌, ◌<◌}
use mathlib.Core.Path.{◌≡◌, refl, sym, ap, ◌∙◌}
use mathlib.Core.Bool.{Bool, true, false, not, xor, ◌||◌, not-not}
use mathlib.Core.List.{List, map}
use native.Mathlib.Omega.{arith}
use lib.Dec.{ltb, leb, eqb}
use lib.ListN.{get_or, get_or-map}
use borrow.Author.Tests.{ltb-true, ltb-false, le-leb, lt-leb}
use Rattle.v8.specs.declared.AluOp.TheVariants.{Sub}
use Rattle.v8.specs.Signed.{excess}
use Rattle.alu.specs.declared.codes.Codes.{Codes}
use Rattle.alu.specs.declared.condition.Condition.{Condition}
use Rattle.alu.specs.declared.condition.Rule.TheVariants.{Never}
use Rattle.alu.specs.declared.condition.Narrowing.TheVariants.{Unrelated}
use Rattle.alu.specs.Codes.{codes_of}
use Rattle.alu.specs.Condition.{formulas, cond_holds, row, conditions, condition_of, meets, compares}
use Rattle.alu.specs.Laws.{RowsHold, OppositeHolds, Narrows}
use Rattle.alu.proofs.Signs.{sub_equal, sub_less, sub_at_most}

-- what the rows give in order, a row gives at its place
at_row : (test : Condition → Bool) (k : ℕ) (f : Codes) → map test conditions ≡ formulas f → test (row Never false Unrelated) ≡ false → test (condition_of k) ≡ cond_holds k f
unfolding condition_of cond_holds
at_row test k f rows none =
    sym (get_or-map test conditions (k % 16) (row Never false Unrelated))
    ∙ ap (λ (l : List Bool). get_or l (k % 16) (test (row Never false Unrelated))) rows
    ∙ ap (get_or (formulas f) (k % 16)) none

pub rows_hold : RowsHold
rows_hold k f = at_row (meets f) k f refl refl

-- what holds of each number below n, one by one
abbrev Each : (ℕ → Type 0) → ℕ → Type 0
Each P zero = Unit {0}
Each P (suc n) = P 0 × Each (λ i. P (suc i)) n

each : (P : ℕ → Type 0) (n : ℕ) → Each P n → (i : ℕ) → i < n → P i
each P zero ps i h = absurd (omega arith)
each P (suc n) ps zero h = ps.0
each P (suc n) ps (suc i) h = each (λ j. P (suc j)) n ps.1 i (omega arith)

opposite_at : (f : Codes) (i : ℕ) → i < 16 → get_or (formulas f) ((i + 8) % 16) false ≡ not (get_or (formulas f) i false)
opposite_at f =
    each (λ (i : ℕ). get_or (formulas f) ((i + 8) % 16) false ≡ not (get_or (formulas f) i false)) 16
    (refl, (refl, (refl, (refl, (refl, (refl, (refl, (refl, (twice _, (twice _, (twice _, (twice _, (twice _, (twice _, (twice _, (twice _, tt))))))))))))))))
  where
    twice : (t : Bool) → t ≡ not (not t)
    twice t = sym (not-not t)

pub opposite_holds : OppositeHolds
unfolding cond_holds
opposite_holds k f = ap (λ (i : ℕ). get_or (formulas f) i false) (moved k) ∙ opposite_at f (k % 16) (omega arith)
  where
    moved : (k : ℕ) → (k + 8) % 16 % 16 ≡ (k % 16 + 8) % 16
    moved k = omega arith

not_less : (a b : ℕ) (t : Bool) → ltb a b ≡ t → not t ≡ leb b a
not_less a b true p = sym (lt-leb b a (ltb-true a b p))
not_less a b false p = sym (le-leb b a (ltb-false a b p))

-- the rows compare two numbers if the codes do
rows_compare : (f : Codes) (a b : ℕ) → f.z ≡ eqb a b → xor f.n f.v ≡ ltb a b → (f.z || xor f.n f.v) ≡ leb a b
    → map (λ (r : Condition). compares r.narrowing a b (meets f r)) conditions ≡ formulas f
rows_compare f a b e l m = cc (not_less a b _ refl, ap not (not_less b a _ refl), not-not (ltb b a))

pub narrows : Narrows
narrows k x y hx hy =
    sym (rw (rows_hold k f) at (at_row (λ (r : Condition). compares r.narrowing (excess x) (excess y) (meets f r)) k f rows refl))
  where
    f : Codes
    f = codes_of Sub x y

    rows : map (λ (r : Condition). compares r.narrowing (excess x) (excess y) (meets f r)) conditions ≡ formulas f
    rows = rows_compare f (excess x) (excess y) (sub_equal x y hx hy) (sub_less x y hx hy) (sub_at_most x y hx hy)
