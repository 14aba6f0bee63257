-- Tables, raised by marks that arrive at a word: what stands at each place afterwards, and that the raised table is the lowest that is at
-- least the one before and has what arrived.
use Prim.Native.Nat.{ℕ, zero, suc, ◌+◌, ◌*◌, ◌/◌, ◌%◌, ◌≤◌, ◌<◌}
use mathlib.Core.Path.{◌≡◌, refl, sym, ap, subst, ◌∙◌}
use mathlib.Core.Bool.{Bool, true, false}
use mathlib.Core.List.{List, [], ◌∷◌}
use native.Mathlib.Nat.{not-suc-le-zero, le_of_suc-le-suc}
use native.Mathlib.Omega.{arith}
use lib.Dec.{ltb, eqb}
use lib.ListN.{length, get_or-eq_default}
use borrow.Author.Tests.{ltb-true, ltb-false, eqb-true, eq-eqb}
use Rattle.v8.proofs.Choice.{cond_both}
use Rattle.v8.proofs.Search.{all_at, all_each}
use Rattle.marks.specs.Marks.{not_reached, AtMost, register_count, mark_of}
use Rattle.marks.proofs.Order.{meets_lowest, rank_rises, none_at_most, at_most_self, at_most_trans}
use Rattle.lister_rules.specs.Table.{place_of, mark_at, raised_mark, raised_from, raised_at, TableAtMost, height}
use Rattle.lister_rules.specs.Rules.{Sent, nowhere, arriving, at_most_at, taken_in}
use Rattle.lister_rules.proofs.Places.{word_of, register_of, register_below, place-of}

-- no mark stands behind the last place
pub mark_behind : (table : List ℕ) (k : ℕ) → length table ≤ k → mark_at table k ≡ not_reached
mark_behind table k l = get_or-eq_default table not_reached {n = k} l

from_length : (w : ℕ) (marks : List ℕ) (i : ℕ) (table : List ℕ) → length (raised_from w marks i table) ≡ length table
from_length w marks i [] = refl
from_length w marks i (x ∷ xs) = ap suc (from_length w marks (suc i) xs)

from_mark : (w : ℕ) (marks : List ℕ) (i : ℕ) (table : List ℕ) (k : ℕ) → k < length table
    → mark_at (raised_from w marks i table) k ≡ raised_mark w marks (i + k) (mark_at table k)
from_mark w marks i [] k l = absurd (not-suc-le-zero l)
from_mark w marks i (x ∷ xs) zero l = ap (λ (j : ℕ). raised_mark w marks j x) (omega arith)
from_mark w marks i (x ∷ xs) (suc k) l =
    from_mark w marks (suc i) xs k (le_of_suc-le-suc l) ∙ ap (λ (j : ℕ). raised_mark w marks j (mark_at xs k)) (omega arith)

pub raised_length : (table : List ℕ) (w : ℕ) (marks : List ℕ) → length (raised_at table w marks) ≡ length table
unfolding raised_at
raised_length table w marks = from_length w marks 0 table

pub raised-mark : (table : List ℕ) (w : ℕ) (marks : List ℕ) (k : ℕ) → k < length table
    → mark_at (raised_at table w marks) k ≡ raised_mark w marks k (mark_at table k)
unfolding raised_at
raised-mark table w marks k l = from_mark w marks 0 table k l ∙ ap (λ (j : ℕ). raised_mark w marks j (mark_at table k)) (omega arith)

-- a place of the table, or one behind it
pub inside : {C : Type 0} (table : List ℕ) (k : ℕ) → (k < length table → C) → (length table ≤ k → C) → C
inside {C} table k f g = at (ltb k (length table)) refl
  where
    at : (t : Bool) → ltb k (length table) ≡ t → C
    at true e = f (ltb-true k (length table) e)
    at false e = g (ltb-false k (length table) e)

pub table_trans : (a b c : List ℕ) → TableAtMost a b → TableAtMost b c → TableAtMost a c
table_trans a b c p q k = at_most_trans (mark_at a k) (mark_at b k) (mark_at c k) (p k) (q k)

pub table_self : (a : List ℕ) → TableAtMost a a
table_self a k = at_most_self (mark_at a k)

pub raised_least : (table : List ℕ) (w : ℕ) (marks : List ℕ) → TableAtMost table (raised_at table w marks)
raised_least table w marks k =
    inside table k
    (λ l. subst (λ (x : ℕ). AtMost (mark_at table k) x) (sym (raised-mark table w marks k l))
    (cond_both (λ (x : ℕ). AtMost (mark_at table k) x) (eqb (k / register_count) w)
    (λ e. (meets_lowest (mark_at table k) (mark_of marks (k % register_count))).0)
    (λ e. at_most_self (mark_at table k))))
    (λ l. subst (λ (x : ℕ). AtMost x (mark_at (raised_at table w marks) k)) (sym (mark_behind table k l)) (none_at_most (mark_at (raised_at table w marks) k)))

-- what arrives is taken in if each mark is at most the one there
pub taken_each : (table : List ℕ) (w : ℕ) (marks : List ℕ)
    → ((r : ℕ) → r < register_count → AtMost (mark_of marks r) (mark_at table (place_of w r))) → taken_in table (arriving w marks) ≡ true
unfolding taken_in
taken_each table w marks h = all_each (at_most_at table w marks) register_count (λ r l. eq-eqb _ _ (h r l))

pub taken_at : (table : List ℕ) (w : ℕ) (marks : List ℕ) → taken_in table (arriving w marks) ≡ true
    → (r : ℕ) → r < register_count → AtMost (mark_of marks r) (mark_at table (place_of w r))
unfolding taken_in
taken_at table w marks e r l = eqb-true _ _ (all_at (at_most_at table w marks) register_count r e l)

pub taken_nowhere : (table : List ℕ) → taken_in table nowhere ≡ true
unfolding taken_in
taken_nowhere table = refl

-- a higher table takes in what a lower one does
pub taken_higher : (a b : List ℕ) (s : Sent) → TableAtMost a b → taken_in a s ≡ true → taken_in b s ≡ true
taken_higher a b nowhere p e = taken_nowhere b
taken_higher a b (arriving w marks) p e =
    taken_each b w marks
    (λ r l. at_most_trans (mark_of marks r) (mark_at a (place_of w r)) (mark_at b (place_of w r)) (taken_at a w marks e r l) (p (place_of w r)))

-- a table that is raised by what arrives has it, if it has places for it
pub raised_taken : (table : List ℕ) (w : ℕ) (marks : List ℕ) → register_count * w + register_count ≤ length table
    → taken_in (raised_at table w marks) (arriving w marks) ≡ true
raised_taken table w marks long = taken_each (raised_at table w marks) w marks here
  where
    here : (r : ℕ) → r < register_count → AtMost (mark_of marks r) (mark_at (raised_at table w marks) (place_of w r))
    here r l =
        subst (λ (x : ℕ). AtMost (mark_of marks r) x)
        (sym (raised-mark table w marks (place_of w r) (omega (arith, long, l)) ∙ rw (word_of w r l, register_of w r l, eq-eqb w w refl)))
        (meets_lowest (mark_at table (place_of w r)) (mark_of marks r)).1

-- .. and is at most every table that is at least it and has what arrives
pub raised_lowest : (table other : List ℕ) (w : ℕ) (marks : List ℕ) → TableAtMost table other → taken_in other (arriving w marks) ≡ true
    → TableAtMost (raised_at table w marks) other
raised_lowest table other w marks p e k =
    inside table k
    (λ l. subst (λ (x : ℕ). AtMost x (mark_at other k)) (sym (raised-mark table w marks k l))
    (cond_both (λ (x : ℕ). AtMost x (mark_at other k)) (eqb (k / register_count) w)
    (λ f. (meets_lowest (mark_at table k) (mark_of marks (k % register_count))).2 (mark_at other k) (p k) (arrived (eqb-true (k / register_count) w f)))
    (λ f. p k)))
    (λ l. subst (λ (x : ℕ). AtMost x (mark_at other k)) (sym (mark_behind (raised_at table w marks) k (omega (arith, l, raised_length table w marks)))) (none_at_most (mark_at other k)))
  where
    arrived : k / register_count ≡ w → AtMost (mark_of marks (k % register_count)) (mark_at other k)
    arrived f =
        subst (λ (x : ℕ). AtMost (mark_of marks (k % register_count)) (mark_at other x)) (place-of k w f)
        (taken_at other w marks e (k % register_count) (register_below k))

-- the height of tables of one length
pub height_most : (a : List ℕ) → height a ≤ 2 * length a
unfolding height
height_most [] = omega arith
height_most (x ∷ xs) = omega (arith, (rank_rises x x (at_most_self x)).1, height_most xs)

pub height_rises : (a b : List ℕ) → length a ≡ length b → TableAtMost a b → height a ≤ height b
unfolding height
height_rises [] b e p = omega arith
height_rises (x ∷ xs) [] e p = absurd (omega (arith, e))
height_rises (x ∷ xs) (y ∷ ys) e p =
    omega (arith, (rank_rises x y (p 0)).0, height_rises xs ys (omega (arith, e)) (λ k. p (suc k)))

-- tables of one height are one
pub height_same : (a b : List ℕ) → length a ≡ length b → TableAtMost a b → height a ≡ height b → a ≡ b
unfolding height
height_same [] [] e p h = refl
height_same [] (y ∷ ys) e p h = absurd (omega (arith, e))
height_same (x ∷ xs) [] e p h = absurd (omega (arith, e))
height_same (x ∷ xs) (y ∷ ys) e p h =
    let q : length xs ≡ length ys = omega (arith, e) in
    let r = rank_rises x y (p 0) in
    let s = height_rises xs ys q (λ k. p (suc k)) in
    let rest = height_same xs ys q (λ k. p (suc k)) (omega (arith, h, r.0, s)) in
    rw (r.2 (omega (arith, h, r.0, s)), rest)
