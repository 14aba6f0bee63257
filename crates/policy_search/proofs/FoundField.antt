-- What the search finds and how many fields it looks at: the laws of the lowest number that passes a test, with the tests turned into the facts that a
-- field holds the bytes or begins past the lowest of them. In a policy that obeys the rules fields ascend, so that nothing after the end of
-- the search holds the bytes, and one field at most does: a field that holds them is the one found.
use Prim.Native.Nat.{ℕ, ◌+◌, ◌*◌, ◌-◌, ◌≤◌, ◌<◌}
use mathlib.Core.Path.{◌≡◌, refl, sym, ap, ◌∙◌}
use mathlib.Core.Logic.{inl, inr, ⊎_elim}
use mathlib.Core.Bool.{Bool, true, false, true≢false, cond, and-false, and-eq-true_iff, ◌&&◌}
use native.Mathlib.Omega.{arith}
use native.Mathlib.Nat.{eq-or-lt_of_le}
use borrow.Author.Tests.{ltb-true, ltb-false, lt-ltb, le-leb}
use lib.Dec.{ltb}
use lib.ListN.{get_or}
use Rattle.v8.proofs.Choice.{cond_went, cond_both, or_went, or_failed}
use Rattle.v8.specs.Search.{first}
use Rattle.v8.proofs.Search.{first_from, first_passes, first_least, first_is, neither_less, needed_le}
use Rattle.policy.specs.Element.{width_of}
use Rattle.policy.specs.Policy.{count_of, place_of, no_field, field_end, field_at}
use Rattle.policy_search.specs.Find.{holds_in, stop_of, holder_in, ends_at, last_place, found_at, find_in, looked_at, find_field, field_holding, fields_looked}
use Rattle.policy.specs.Laws.{WellFormed, Holds}
use Rattle.policy_search.specs.Laws.{FoundHere, FoundHolds, NoneHolds, EndsEarly, Ends, UpToEnd, OneCount, CountsLooked, FoundLast, Finds}
use Rattle.policy.specs.declared.Policy.{Policy}
use Rattle.policy_search.specs.declared.Search.{Search}
use Rattle.std.specs.Prelude.{Option, Some, None}
use Rattle.policy.proofs.Bytes.{begins, before, held_by_one}

not_found : (i : ℕ) → ◌≡◌ {A = Option ℕ} None (Some i) → ⊥
not_found i z = let y : ◌≡◌ {A = ℕ} 0 1 = cc in omega arith

found_is : (i j : ℕ) → Some i ≡ Some j → i ≡ j
found_is i j e = cc

-- what is found, of all that a search gives
pub is_found : {s t : Search} → s ≡ t → s.found ≡ t.found
is_found e = ap (λ (x : Search). x.found) e

not_less : (a b : ℕ) → (a < b → ⊥) → b ≤ a
not_less a b f = omega arith

-- where the search in region r stops: after its fields, of which 16 at most are looked at
record Stop (n r stop : ℕ) : Type 0 where
  counted : stop ≤ 16 * r + n
  most : stop ≤ 16 * r + 16
  least : (k : ℕ) → k < n → k < 16 → 16 * r + k < stop

module _ (p : Policy) (r low end : ℕ) where
  abbrev holds_at : ℕ → Bool
  holds_at = holds_in p.fields low end

  abbrev ends : ℕ → Bool
  ends = ends_at p.fields low end

  abbrev stop : ℕ
  stop = stop_of p.regions.fields r

  -- where the search ends
  abbrev place : ℕ
  place = last_place p.regions.fields p.fields r low end

  stop_is : Stop (count_of p r) r stop
  unfolding stop_of
  stop_is =
      cond_both (λ (n : ℕ). Stop (count_of p r) r (16 * r + n)) (ltb (count_of p r) 16)
      (λ t. let l = ltb-true (count_of p r) 16 t in record { counted = omega arith; most = omega arith; least = λ k a b. omega arith })
      (λ t. let l = ltb-false (count_of p r) 16 t in record { counted = omega arith; most = omega arith; least = λ k a b. omega arith })

  holds_of : (i : ℕ) → holds_at i ≡ true → Holds (field_at p i) low end
  unfolding holds_in field_at
  holds_of i h = (
    needed_le _ (get_or p.fields i no_field).offset.0 low h (λ e. simp e),
    needed_le _ end (field_end (get_or p.fields i no_field)) h (λ e. simp (e, and-false)),
  )

  of_holds : (i : ℕ) → Holds (field_at p i) low end → holds_at i ≡ true
  unfolding holds_in field_at
  of_holds i h = rw (le-leb _ _ h.0, le-leb _ _ h.1)

  fails : (i : ℕ) → holds_at i ≡ false → Holds (field_at p i) low end → ⊥
  fails i e h = true≢false (sym (of_holds i h) ∙ e)

  place_from : 16 * r ≤ place
  place_from = first_from ends (16 * r) stop

  -- the search passed by a field: it does not hold the bytes, and does not begin past them
  passed : (i : ℕ) → 16 * r ≤ i → i < place → (holds_at i ≡ false) × (ltb low (get_or p.fields i no_field).offset.0 ≡ false)
  passed i a b = or_failed (holds_at i) (ltb low (get_or p.fields i no_field).offset.0) (first_least ends (16 * r) stop i a b)

  -- the search ended at a field
  ended : {C : Type 0} → place < stop → (holds_at place ≡ true → C) → (ltb low (get_or p.fields place no_field).offset.0 ≡ true → C) → C
  ended l = or_went (holds_at place) (ltb low (get_or p.fields place no_field).offset.0) (first_passes ends (16 * r) stop l)

  -- .. and that one holds the bytes
  here : r < 8 → place < stop → holds_at place ≡ true → FoundHere p r low end place
  here m l h =
      let e : place ≡ 16 * r + (place - 16 * r) = omega (arith, place_from) in
      record {
        index = place - 16 * r;
        here = e;
        region_most = m;
        index_most = omega (arith, place_from, stop_is.most);
        counted = omega (arith, place_from, stop_is.counted);
        holds = rw (← e) (holds_of place h);
        lowest = λ k a. fails (16 * r + k) (passed (16 * r + k) (omega arith) (omega (arith, place_from))).0;
      }

  -- no field that the search passed by is one at which it ends
  not_ends : (k : ℕ) → 16 * r + k < place → Ends p r low end k → ⊥
  unfolding field_at
  not_ends k l e =
      let h = passed (16 * r + k) (omega arith) l in
      ⊎_elim (λ x. fails (16 * r + k) h.0 x) (λ x. omega (arith, ltb-false low _ h.1)) e

  -- the field at which it ended is
  is_end : place < stop → Ends p r low end (place - 16 * r)
  unfolding field_at
  is_end l =
      let e : place ≡ 16 * r + (place - 16 * r) = omega (arith, place_from) in
      rw (← e) (ended l (λ h. inl (holds_of place h)) (λ h. inr (ltb-true low _ h)))

  -- what is found is where the search ended
  record FoundEnd (i : ℕ) : Type 0 where
    is : place ≡ i
    region : r < 8
    before : place < stop
    holds : holds_at place ≡ true

  found_end : (i : ℕ) → find_field p r low end ≡ Some i → FoundEnd i
  unfolding find_in
  found_end i e =
      cond_went _ _ _ _ e
      (λ t e₁. cond_went _ _ _ _ e₁
      (λ u e₂. let g = (and-eq-true_iff (ltb place stop) (holds_at place)).0 u in
      record { is = found_is _ _ e₂; region = ltb-true r 8 t; before = ltb-true _ _ g.0; holds = g.1 })
      (λ u z. absurd (not_found _ z)))
      (λ t z. absurd (not_found _ z))

  looked_is : r < 8 → fields_looked p r low end ≡ cond (ltb place stop) (place + 1) stop - 16 * r
  unfolding looked_at
  looked_is l = simp (lt-ltb r 8 l)

  module _ (w : WellFormed p) (l : r < p.regions.count) where
    few : r < 8
    few = omega (arith, w.regions_most)

    in_stop : (k : ℕ) → k < count_of p r → 16 * r + k < stop
    in_stop k m = stop_is.least k m (omega (arith, w.count_most r l))

    -- a field begins past the bytes if one before it does
    later : (i k : ℕ) → i ≤ k → k < count_of p r → low < (field_at p (place_of r i)).offset.0 → low < (field_at p (place_of r k)).offset.0
    later i k a m g =
        ⊎_elim
        (λ (e : i ≡ k). rw e at g)
        (λ (q : i < k).
        let f = field_at p (place_of r i) in
        omega (arith, before p w r l i k q m, begins f.offset.0 (width_of f.element) f.count))
        (eq-or-lt_of_le a)

    -- the search ended at a field that does not hold the bytes: neither do those after it
    past : (k : ℕ) → k < count_of p r → place ≤ 16 * r + k → holds_at place ≡ false → Holds (field_at p (place_of r k)) low end → ⊥
    unfolding field_at
    past k m a e h =
        let from = place_from in
        let i : place ≡ 16 * r + (place - 16 * r) = omega arith in
        ended (omega (arith, in_stop k m))
        (λ t. true≢false (sym t ∙ e))
        (λ t. omega (arith, later (place - 16 * r) k (omega arith) m (rw (← i) (ltb-true low _ t)), h.0))

    -- the search ended at such a field, or at none: no field holds the bytes
    none : (k : ℕ) → k < count_of p r → ltb place stop && holds_at place ≡ false → Holds (field_at p (place_of r k)) low end → ⊥
    none k m e h =
        let a = not_less (16 * r + k) place (λ b. not_ends k b (inl h)) in
        past k m a (rw (lt-ltb place stop (omega (arith, in_stop k m))) at e) h

    abbrev lowest : ℕ
    lowest = first holds_at (16 * r) stop

    not_lowest : ltb place stop && holds_at place ≡ false → lowest < stop → ⊥
    not_lowest t u =
        let from = first_from holds_at (16 * r) stop in
        let e : lowest ≡ 16 * r + (lowest - 16 * r) = omega arith in
        none (lowest - 16 * r) (omega (arith, stop_is.counted)) t (rw (← e) (holds_of lowest (first_passes holds_at (16 * r) stop u)))

    early : find_field p r low end ≡ field_holding p r low end
    unfolding find_in holder_in
    early =
        rw (lt-ltb r 8 few)
        (cond_both (λ (x : Option ℕ). x ≡ found_at lowest stop) (ltb place stop && holds_at place)
        (λ t. let h = (and-eq-true_iff (ltb place stop) (holds_at place)).0 t in
        let z : lowest ≡ place = first_is holds_at (16 * r) stop place place_from (ltb-true _ _ h.0) h.1 (λ k a b. (passed k a b).0) in
        rw (z, h.0))
        (λ t. cond_both (λ (x : Option ℕ). None ≡ x) (ltb lowest stop) (λ u. absurd (not_lowest t (ltb-true lowest stop u))) (λ u. refl)))

    counts : UpToEnd p r low end (fields_looked p r low end)
    counts =
        rw (looked_is few)
        (cond_both (λ (n : ℕ). UpToEnd p r low end (n - 16 * r)) (ltb place stop)
        (λ t. let m = ltb-true place stop t in
        let z : place + 1 - 16 * r - 1 ≡ place - 16 * r = omega (arith, place_from) in
        record {
          most = omega (arith, place_from, stop_is.counted);
          passed = λ k a. not_ends k (omega (arith, place_from));
          some = λ a. omega (arith, place_from);
          last = λ a. rw z (is_end m);
        })
        (λ t. let m = ltb-false place stop t in
        let all : stop - 16 * r < count_of p r → ⊥ = λ a. omega (arith, in_stop (stop - 16 * r) a) in
        record {
          most = omega (arith, stop_is.counted);
          passed = λ k a. not_ends k (omega arith);
          some = λ a. absurd (all a);
          last = λ a. absurd (all a);
        }))

pub found_holds : FoundHolds
found_holds p r low end i e = let f = found_end p r low end i e in rw f.is at (here p r low end f.region f.before f.holds)

pub found_last : FoundLast
found_last p r low end i e =
    let f = found_end p r low end i e in
    let n = rw (lt-ltb _ _ f.before) at (looked_is p r low end f.region) in
    omega (arith, place_from p r low end, f.is, n)

pub none_holds : NoneHolds
unfolding find_in
none_holds p w r k low end l m e h =
    cond_went _ _ _ _ (rw (lt-ltb r 8 (few p r low end w l)) at e)
    (λ u z. not_found _ (sym z))
    (λ u z. none p r low end w l k m u h)

pub ends_early : EndsEarly
ends_early p w r low end l = early p r low end w l

fewer : (p : Policy) (r low end n m : ℕ) → UpToEnd p r low end n → UpToEnd p r low end m → n < m → ⊥
fewer p r low end n m u v l =
    let few : n < count_of p r = omega (arith, v.most) in
    v.passed (n - 1) (omega (arith, u.some few)) (u.last few)

pub one_count : OneCount
one_count p r low end n m u v = neither_less n m (fewer p r low end n m u v) (fewer p r low end m n v u)

pub counts_looked : CountsLooked
counts_looked p w r low end l = counts p r low end w l

pub finds : Finds
finds p w r k low end l m a h = decide (find_field p r low end) refl
  where
    decide : (x : Option ℕ) → find_field p r low end ≡ x → find_field p r low end ≡ Some (place_of r k)
    decide (Some i) e =
        let f = found_holds p r low end i e in
        rw (held_by_one p w r k f.index low end l m f.counted a h f.holds, ← f.here) e
    decide None e = absurd (none_holds p w r k low end l m e h)
