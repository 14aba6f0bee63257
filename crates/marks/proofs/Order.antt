-- The order of marks: meeting gives the lowest mark that both are at most, and the order has height 2.
use Prim.Native.Nat.{ℕ, ◌≤◌}
use mathlib.Core.Path.{◌≡◌, refl, sym, ap, subst, ◌∙◌}
use mathlib.Core.Bool.{cond}
use native.Mathlib.Omega.{arith}
use lib.Dec.{eqb}
use borrow.Author.Tests.{eqb-true, eqb-false}
use Rattle.v8.proofs.Choice.{cond_both, cond_went}
use Rattle.marks.specs.Marks.{not_reached, unset, meet, AtMost, rank}
use Rattle.marks.specs.Laws.{MeetsLowest, RankRises}

-- the ways in which two marks meet
pub meet_ways : (P : ℕ → Type 0) (a b : ℕ) → (a ≡ not_reached → P b) → (b ≡ not_reached → P a) → (a ≡ b → P a)
    → ((a ≡ not_reached → ⊥) → (b ≡ not_reached → ⊥) → (a ≡ b → ⊥) → P unset) → P (meet a b)
unfolding meet
meet_ways P a b x y z top =
    cond_both P (eqb a not_reached) (λ e. x (eqb-true a not_reached e))
    (λ e. cond_both P (eqb b not_reached) (λ f. y (eqb-true b not_reached f))
    (λ f. cond_both P (eqb a b) (λ g. z (eqb-true a b g)) (λ g. top (eqb-false a not_reached e) (eqb-false b not_reached f) (eqb-false a b g))))

-- the ways in which one mark is at most another
pub at_most_ways : {C : Type 0} (a b : ℕ) → AtMost a b → (a ≡ not_reached → C) → (a ≡ b → C) → (b ≡ unset → C) → C
unfolding meet
at_most_ways a b e x y z =
    cond_went (eqb a not_reached) b (cond (eqb b not_reached) a (cond (eqb a b) a unset)) b e
    (λ t q. x (eqb-true a not_reached t))
    (λ t q. cond_went (eqb b not_reached) a (cond (eqb a b) a unset) b q
    (λ u r. y r)
    (λ u r. cond_went (eqb a b) a unset b r (λ v s. y s) (λ v s. z (sym s))))

pub none_at_most : (b : ℕ) → AtMost not_reached b
unfolding meet
none_at_most b = refl

pub at_most_self : (a : ℕ) → AtMost a a
at_most_self a = meet_ways (λ (m : ℕ). m ≡ a) a a (λ e. refl) (λ e. refl) (λ e. refl) (λ x y z. absurd (z refl))

pub at_most_unset : (a : ℕ) → AtMost a unset
at_most_unset a = meet_ways (λ (m : ℕ). m ≡ unset) a unset (λ e. refl) (λ e. absurd (omega (arith, e))) (λ e. e) (λ x y z. refl)

-- what is equal is at most
pub at_most_eq : (a b : ℕ) → a ≡ b → AtMost a b
at_most_eq a b e = subst (λ (c : ℕ). AtMost a c) e (at_most_self a)

pub at_most_trans : (a b c : ℕ) → AtMost a b → AtMost b c → AtMost a c
at_most_trans a b c p q =
    at_most_ways a b p
    (λ e. subst (λ (x : ℕ). AtMost x c) (sym e) (none_at_most c))
    (λ e. subst (λ (x : ℕ). AtMost x c) (sym e) q)
    (λ e. at_most_ways b c q
    (λ f. absurd (omega (arith, e, f)))
    (λ f. subst (λ (x : ℕ). AtMost a x) f p)
    (λ f. subst (λ (x : ℕ). AtMost a x) (sym f) (at_most_unset a)))

pub at_most_both : (a b : ℕ) → AtMost a b → AtMost b a → a ≡ b
at_most_both a b p q =
    at_most_ways a b p
    (λ e. at_most_ways b a q (λ f. e ∙ sym f) sym (λ f. absurd (omega (arith, e, f))))
    (λ e. e)
    (λ e. at_most_ways b a q (λ f. absurd (omega (arith, e, f))) sym (λ f. f ∙ sym e))

pub meets_lowest : MeetsLowest
meets_lowest a b = (left, right, least)
  where
    left : AtMost a (meet a b)
    left =
        meet_ways (λ (m : ℕ). AtMost a m) a b
        (λ e. subst (λ (x : ℕ). AtMost x b) (sym e) (none_at_most b))
        (λ e. at_most_self a)
        (λ e. at_most_self a)
        (λ x y z. at_most_unset a)

    right : AtMost b (meet a b)
    right =
        meet_ways (λ (m : ℕ). AtMost b m) a b
        (λ e. at_most_self b)
        (λ e. subst (λ (x : ℕ). AtMost x a) (sym e) (none_at_most a))
        (λ e. at_most_eq b a (sym e))
        (λ x y z. at_most_unset b)

    least : (c : ℕ) → AtMost a c → AtMost b c → AtMost (meet a b) c
    least c p q =
        meet_ways (λ (m : ℕ). AtMost m c) a b (λ e. q) (λ e. p) (λ e. p)
        (λ x y z. at_most_ways a c p
        (λ e. absurd (x e))
        (λ e. at_most_ways b c q (λ g. absurd (y g)) (λ g. absurd (z (e ∙ sym g))) (λ g. at_most_eq unset c (sym g)))
        (λ e. at_most_eq unset c (sym e)))

-- the ranks of the lowest mark and the highest, which no other mark has
rank_most : (a : ℕ) → rank a ≤ 2
unfolding rank
rank_most a =
    cond_both (λ (n : ℕ). n ≤ 2) (eqb a not_reached) (λ e. omega arith) (λ e. cond_both (λ (n : ℕ). n ≤ 2) (eqb a unset) (λ f. omega arith) (λ f. omega arith))

rank_none : rank not_reached ≡ 0
unfolding rank
rank_none = refl

rank_unset : rank unset ≡ 2
unfolding rank
rank_unset = refl

none_ranked : (a : ℕ) → rank a ≡ 0 → a ≡ not_reached
unfolding rank
none_ranked a e =
    cond_went (eqb a not_reached) 0 (cond (eqb a unset) 2 1) 0 e (λ t q. eqb-true a not_reached t)
    (λ t q. cond_went (eqb a unset) 2 1 0 q (λ u r. absurd (omega (arith, r))) (λ u r. absurd (omega (arith, r))))

unset_ranked : (a : ℕ) → rank a ≡ 2 → a ≡ unset
unfolding rank
unset_ranked a e =
    cond_went (eqb a not_reached) 0 (cond (eqb a unset) 2 1) 2 e (λ t q. absurd (omega (arith, q)))
    (λ t q. cond_went (eqb a unset) 2 1 2 q (λ u r. eqb-true a unset u) (λ u r. absurd (omega (arith, r))))

pub rank_rises : RankRises
rank_rises a b p = at_most_ways a b p lowest same highest
  where
    lowest : a ≡ not_reached → (rank a ≤ rank b) × (rank b ≤ 2) × (rank a ≡ rank b → a ≡ b)
    lowest e =
        let z = ap rank e ∙ rank_none in
        (omega (arith, z), rank_most b, λ q. e ∙ sym (none_ranked b (sym q ∙ z)))

    same : a ≡ b → (rank a ≤ rank b) × (rank b ≤ 2) × (rank a ≡ rank b → a ≡ b)
    same e = let z = ap rank e in (omega (arith, z), rank_most b, λ q. e)

    highest : b ≡ unset → (rank a ≤ rank b) × (rank b ≤ 2) × (rank a ≡ rank b → a ≡ b)
    highest e =
        let z = ap rank e ∙ rank_unset in
        (omega (arith, z, rank_most a), rank_most b, λ q. unset_ranked a (q ∙ z) ∙ sym e)
