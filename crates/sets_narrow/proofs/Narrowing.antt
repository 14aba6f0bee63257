-- Narrowing. Each comparison leaves a well formed set, that has every member that obeys it, and only members of the set; of all but "not
-- equal", only members that obey. The new end is the last of the set's steps before the number compared with.
use Rattle.std.specs.Prelude.{Option, Some, None}
use Prim.Native.Nat.{ℕ, ◌+◌, ◌-◌, ◌%◌, ◌≤◌, ◌<◌, min, max}
use mathlib.Core.Path.{◌≡◌, refl, sym, ◌∙◌, subst}
use mathlib.Core.Bool.{true, and-false, false≢true}
use mathlib.Core.Logic.{◌≢◌}
use native.Mathlib.Omega.{arith}
use native.Mathlib.Nat.{add-sub_cancel_left}
use lib.Dec.{ltb, eqb}
use borrow.Author.Tests.{ltb-true, ltb-false, leb-true, eqb-true, eqb-false, lt-ltb, le-leb, eq-eqb, not-true}
use Rattle.v8.proofs.Choice.{cond_both}
use Rattle.v8.proofs.Search.{needed_le, needed_eq}
use Rattle.alu.specs.Condition.{compares}
use Rattle.alu.specs.declared.condition.Narrowing.{Narrowing}
use Rattle.alu.specs.declared.condition.Narrowing.TheVariants.{Unrelated, EqualTo, NotEqualTo, LessThan, AtLeast, AtMost, GreaterThan}
use Rattle.sets.specs.Sets.{ended, SetRules, Member}
use Rattle.sets_narrow.specs.Narrow.{at_most, at_least, less_than, greater_than, is_member, only, without, narrow_set}
use Rattle.sets_narrow.specs.Laws.{Among, LeftFormed, NarrowFormed, NarrowKeeps, NarrowWithin, NarrowObeys}
use Rattle.sets.specs.declared.NumberSet.{NumberSet}
use Rattle.sets.proofs.Steps.{sum_on, difference_on, Rounded, rounded}
use Rattle.sets.proofs.Ends.{from_top, single_formed, single_holds, ended_formed, ended_holds, ended_only}

-- x is left of s: all its members that obey P, and only such as obey Q
record Leaves (s : NumberSet) (P Q : ℕ → Type 0) (x : Option NumberSet) : Type 0 where
  formed : LeftFormed x
  keeps : (m : ℕ) → Member s m → P m → Among x m
  inside : (m : ℕ) → Among x m → Member s m
  obeys : (m : ℕ) → Among x m → Q m

abbrev Exactly : NumberSet → (ℕ → Type 0) → Option NumberSet → Type 0
Exactly s P x = Leaves s P P x

-- other words for P and Q
leaves_by : {s : NumberSet} {P Q P' Q' : ℕ → Type 0} {x : Option NumberSet}
    → ((m : ℕ) → Member s m → P' m → P m) → ((m : ℕ) → Q m → Q' m) → Leaves s P Q x → Leaves s P' Q' x
leaves_by f g l =
    record { formed = l.formed; keeps = λ m p q. l.keeps m p (f m p q); inside = l.inside; obeys = λ m p. g m (l.obeys m p) }

-- nothing is left where no member obeys
nothing : (s : NumberSet) (P : ℕ → Type 0) → ((m : ℕ) → Member s m → P m → ⊥) → Exactly s P None
nothing s P none = record { formed = tt; keeps = none; inside = λ m p. absurd p; obeys = λ m p. absurd p }

-- with q below the highest, h
back : (h q : ℕ) → q ≤ h → h - (h - q) ≡ q
back h q a = omega arith

turned : (h m q : ℕ) → m ≤ h → h - m ≤ q → q ≤ h → m - (h - q) ≡ q - (h - m)
turned h m q a b c = omega arith

joined : (l h m q : ℕ) → l ≤ h → h - q ≤ m → q ≤ h - l → m - l ≡ (m - (h - q)) + (h - l - q)
joined l h m q a b c = omega arith

module _ (s : NumberSet) (n : ℕ) (r : SetRules s) where
  -- from the lowest over the distance d, rounded to a step
  up_to : (d : ℕ) → s.lo ≤ n → d ≡ min s.hi n - s.lo → Rounded s.step d
      → Exactly s (λ (m : ℕ). m ≤ n) (Some (ended s.step s.lo (s.lo + (d - d % s.step))))
  up_to d k e round =
      record {
        formed =
            ended_formed _ _ _ r.steps (omega arith) (omega (arith, round.most, r.top, r.order))
            (rw (add-sub_cancel_left s.lo (d - d % s.step)) round.on);
        keeps = λ m p q.
            ended_holds _ _ _ m
            (record { low = p.low; high = omega (arith, p.low, round.greatest (m - s.lo) (omega (arith, p.high)) p.grid); grid = p.grid });
        inside = λ m p. let q = ended_only _ _ _ m p in
            record { low = q.low; high = omega (arith, q.high, round.most, r.order); grid = q.grid };
        obeys = λ m p. let q = ended_only _ _ _ m p in omega (arith, q.high, round.most, r.order);
      }

  at-most : Exactly s (λ (m : ℕ). m ≤ n) (at_most s n)
  unfolding at_most
  at-most =
      cond_both (Exactly s (λ (m : ℕ). m ≤ n)) (ltb n s.lo)
      (λ t. nothing s (λ (m : ℕ). m ≤ n) (λ m p q. clash m (ltb-true n s.lo t) p.low q))
      (λ t. up_to _ (ltb-false n s.lo t) refl (rounded r.steps _))
    where
      clash : (m : ℕ) → n < s.lo → s.lo ≤ m → m ≤ n → ⊥
      clash m a b c = omega arith

  -- from the highest down over the distance d, rounded to a step
  down_to : (d : ℕ) → n ≤ s.hi → d ≡ s.hi - max s.lo n → Rounded s.step d
      → Exactly s (λ (m : ℕ). n ≤ m) (Some (ended s.step (s.hi - (d - d % s.step)) s.hi))
  down_to d k e round =
      record {
        formed = ended_formed _ _ _ r.steps (omega arith) r.top (rw (back s.hi (d - d % s.step) (omega arith)) round.on);
        keeps = λ m p q.
            let near = round.greatest (s.hi - m) (omega (arith, p.low)) (from_top s m r p) in
            ended_holds _ _ _ m
            (record {
              low = omega (arith, near);
              high = p.high;
              grid = rw (turned s.hi m (d - d % s.step) p.high near (omega arith)) (difference_on r.steps _ _ round.on (from_top s m r p));
            });
        inside = λ m p. let q = ended_only _ _ _ m p in
            record {
              low = omega (arith, q.low, round.most, r.order);
              high = q.high;
              grid =
                  rw (joined s.lo s.hi m (d - d % s.step) r.order q.low (omega (arith, r.order)))
                  (sum_on r.steps _ _ q.grid (difference_on r.steps _ _ r.even round.on));
            };
        obeys = λ m p. let q = ended_only _ _ _ m p in omega (arith, q.low, round.most, r.order);
      }

  at-least : Exactly s (λ (m : ℕ). n ≤ m) (at_least s n)
  unfolding at_least
  at-least =
      cond_both (Exactly s (λ (m : ℕ). n ≤ m)) (ltb s.hi n)
      (λ t. nothing s (λ (m : ℕ). n ≤ m) (λ m p q. clash m (ltb-true s.hi n t) p.high q))
      (λ t. down_to _ (ltb-false s.hi n t) refl (rounded r.steps _))
    where
      clash : (m : ℕ) → s.hi < n → m ≤ s.hi → n ≤ m → ⊥
      clash m a b c = omega arith

-- below n is at most the one before; above n, at least the one after
less-than : (s : NumberSet) (n : ℕ) → SetRules s → Exactly s (λ (m : ℕ). m < n) (less_than s n)
unfolding less_than
less-than s n r =
    cond_both (Exactly s (λ (m : ℕ). m < n)) (eqb n 0)
    (λ t. nothing s (λ (m : ℕ). m < n) (λ m _ q. none m (eqb-true n 0 t) q))
    (λ t. leaves_by (λ m _ q. omega arith) (λ m q. after m (eqb-false n 0 t) q) (at-most s (n - 1) r))
  where
    none : (m : ℕ) → n ≡ 0 → m < n → ⊥
    none m e q = omega arith

    after : (m : ℕ) → n ≢ 0 → m ≤ n - 1 → m < n
    after m e q = omega arith

greater-than : (s : NumberSet) (n : ℕ) → SetRules s → Exactly s (λ (m : ℕ). n < m) (greater_than s n)
greater-than s n r = leaves_by (λ m _ q. omega arith) (λ m q. omega arith) (at-least s (n + 1) r)

-- n is one of the set exactly if its tests say so
pub is_member_lem : (s : NumberSet) (n : ℕ) → is_member s n ≡ true → Member s n
unfolding is_member
is_member_lem s n e =
    record {
      low = needed_le _ s.lo n e (λ t. simp t);
      high = needed_le _ n s.hi e (λ t. simp (t, and-false));
      grid = needed_eq _ ((n - s.lo) % s.step) 0 e (λ t. simp (t, and-false));
    }

member_is : (s : NumberSet) (n : ℕ) → Member s n → is_member s n ≡ true
unfolding is_member
member_is s n m = rw (le-leb _ _ m.low, le-leb _ _ m.high, eq-eqb _ _ m.grid)

only_one : (s : NumberSet) (n : ℕ) → SetRules s → Exactly s (λ (m : ℕ). m ≡ n) (only s n)
unfolding only
only_one s n r =
    cond_both (Exactly s (λ (m : ℕ). m ≡ n)) (is_member s n)
    (λ t. let p = is_member_lem s n t in
    record {
      formed = single_formed n (omega (arith, p.high, r.top));
      keeps = λ m _ e. rw e (single_holds n);
      inside = λ m q. subst (Member s) (same m q.low q.high) p;
      obeys = λ m q. sym (same m q.low q.high);
    })
    (λ t. nothing s (λ (m : ℕ). m ≡ n) (λ m p e. false≢true (sym t ∙ member_is s n (subst (Member s) e p))))
  where
    same : (m : ℕ) → n ≤ m → m ≤ n → n ≡ m
    same m p q = omega arith

-- a member that is not an end's number is on its other side
without_one : (s : NumberSet) (n : ℕ) → SetRules s → Leaves s (λ (m : ℕ). m ≢ n) (λ (m : ℕ). Unit {0}) (without s n)
unfolding without
without_one s n r =
    cond_both (Leaves s (λ (m : ℕ). m ≢ n) (λ (m : ℕ). Unit {0})) (eqb n s.lo)
    (λ t. leaves_by (λ m p q. above m (eqb-true n s.lo t) p.low q) (λ _ _. tt) (greater-than s n r))
    (λ _. cond_both (Leaves s (λ (m : ℕ). m ≢ n) (λ (m : ℕ). Unit {0})) (eqb n s.hi)
    (λ t. leaves_by (λ m p q. below m (eqb-true n s.hi t) p.high q) (λ _ _. tt) (less-than s n r))
    (λ _. record { formed = r; keeps = λ m p _. p; inside = λ m p. p; obeys = λ _ _. tt }))
  where
    above : (m : ℕ) → n ≡ s.lo → s.lo ≤ m → m ≢ n → n < m
    above m e p q = omega arith

    below : (m : ℕ) → n ≡ s.hi → m ≤ s.hi → m ≢ n → m < n
    below m e p q = omega arith

-- what a condition of each class leaves
leaves : (c : Narrowing) (s : NumberSet) (n : ℕ) → SetRules s
    → Leaves s (λ (m : ℕ). compares c m n true ≡ true) (λ (m : ℕ). (c ≡ NotEqualTo → ⊥) → compares c m n true ≡ true) (narrow_set c s n)
leaves Unrelated s n r = record { formed = r; keeps = λ m p _. p; inside = λ m p. p; obeys = λ m p _. refl }
leaves EqualTo s n r = leaves_by (λ m _ t. eqb-true m n t) (λ m p _. eq-eqb m n p) (only_one s n r)
leaves NotEqualTo s n r = leaves_by (λ m _ t. eqb-false m n (not-true (eqb m n) t)) (λ m _ ne. absurd (ne refl)) (without_one s n r)
leaves LessThan s n r = leaves_by (λ m _ t. ltb-true m n t) (λ m p _. lt-ltb m n p) (less-than s n r)
leaves AtLeast s n r = leaves_by (λ m _ t. leb-true n m t) (λ m p _. le-leb n m p) (at-least s n r)
leaves AtMost s n r = leaves_by (λ m _ t. leb-true m n t) (λ m p _. le-leb m n p) (at-most s n r)
leaves GreaterThan s n r = leaves_by (λ m _ t. ltb-true n m t) (λ m p _. lt-ltb n m p) (greater-than s n r)

pub narrow_formed : NarrowFormed
narrow_formed c s n r = (leaves c s n r).formed

pub narrow_keeps : NarrowKeeps
narrow_keeps c s n m r p t = (leaves c s n r).keeps m p t

pub narrow_within : NarrowWithin
narrow_within c s n m r p = (leaves c s n r).inside m p

pub narrow_obeys : NarrowObeys
narrow_obeys c s n m r ne p = (leaves c s n r).obeys m p ne
