-- A table whose marks of one word are raised register by register: after r of them those are raised, and each that changes makes the table
-- higher.
use Prim.Native.Nat.{ℕ, ◌+◌, ◌/◌, ◌%◌, ◌≤◌, ◌<◌}
use mathlib.Core.Path.{◌≡◌, refl, sym, ap, subst, ◌∙◌}
use mathlib.Core.Bool.{Bool, true, false, cond, not, ◌&&◌, ◌||◌, and-true, and-false, or-true, or-false}
use mathlib.Core.List.{List}
use native.Mathlib.Omega.{arith}
use lib.Dec.{ltb, eqb}
use lib.ListN.{length, get_or, set, length-set}
use lib.Seq.{ext_get_or, get_or-set_same, get_or-set_other, set-get_or}
use borrow.Author.Tests.{ltb-true, ltb-false, lt-ltb, le-ltb, eqb-true, eqb-false, eq-eqb}
use Rattle.v8.proofs.Choice.{false_true}
use Rattle.marks.specs.Marks.{not_reached, meet, AtMost, register_count, mark_of}
use Rattle.marks.proofs.Order.{meets_lowest, at_most_self}
use Rattle.lister_rules.specs.Table.{place_of, mark_at, raised_at, TableAtMost, height}
use Rattle.lister_rules.proofs.Places.{word_of, register_of, register_below, place-of}
use Rattle.lister_rules.proofs.Tables.{raised_length, raised-mark, height_rises, height_same}

-- a mark of an array
pub mark_in : (marks : List ℕ) (r : ℕ) → r < register_count → mark_of marks r ≡ get_or marks r not_reached
unfolding mark_of
mark_in marks r l = rw (lt-ltb r register_count l)

-- another mark at one place makes a table higher
pub set_higher : (table : List ℕ) (k v : ℕ) → k < length table → AtMost (mark_at table k) v → (v ≡ mark_at table k → ⊥) → height table < height (set table k v)
set_higher table k v l p new = at (eqb (height table) (height (set table k v))) refl
  where
    above : TableAtMost table (set table k v)
    above j = here (eqb j k) refl
      where
        here : (t : Bool) → eqb j k ≡ t → AtMost (mark_at table j) (mark_at (set table k v) j)
        here true e = rw (eqb-true j k e, get_or-set_same table k v not_reached l) p
        here false e = rw (get_or-set_other table k j v not_reached (eqb-false j k e)) (at_most_self (mark_at table j))

    at : (t : Bool) → eqb (height table) (height (set table k v)) ≡ t → height table < height (set table k v)
    at true e =
        let one = height_same table (set table k v) (sym (length-set table k v)) above (eqb-true _ _ e) in
        absurd (new (sym (ap (λ (t : List ℕ). mark_at t k) one ∙ get_or-set_same table k v not_reached l)))
    at false e = omega (arith, eqb-false (height table) (height (set table k v)) e, height_rises table (set table k v) (sym (length-set table k v)) above)

module _ (table : List ℕ) (w : ℕ) (marks : List ℕ) where
  -- whether a place is one of the word's first r registers
  abbrev among : ℕ → ℕ → Bool
  among r k = eqb (k / register_count) w && ltb (k % register_count) r

  -- these are raised
  abbrev pub RaisedTo : ℕ → List ℕ → Type 0
  RaisedTo r after = (k : ℕ) → mark_at after k ≡ cond (among r k) (meet (mark_at table k) (mark_of marks (k % register_count))) (mark_at table k)

  pub raised_none : RaisedTo 0 table
  raised_none k = rw (le-ltb (k % register_count) 0 (omega arith), and-false)

  -- one register more
  pub raised_more : (r v : ℕ) (after : List ℕ) → r < register_count → place_of w r < length after → v ≡ meet (mark_at after (place_of w r)) (get_or marks r not_reached)
      → RaisedTo r after → RaisedTo (r + 1) (set after (place_of w r) v)
  raised_more r v after l long e h k = at (eqb k (place_of w r)) refl
    where
      old : mark_at after (place_of w r) ≡ mark_at table (place_of w r)
      old = h (place_of w r) ∙ rw (register_of w r l, le-ltb r r (omega arith), and-false)

      new : v ≡ meet (mark_at table (place_of w r)) (mark_of marks r)
      new = e ∙ rw (old, mark_in marks r l)

      same : (t : Bool) → eqb (k / register_count) w ≡ t → (k ≡ place_of w r → ⊥) → among r k ≡ among (r + 1) k
      same false t n = rw t
      same true t n = at (ltb (k % register_count) r) refl
        where
          at : (u : Bool) → ltb (k % register_count) r ≡ u → among r k ≡ among (r + 1) k
          at true u = rw (u, lt-ltb (k % register_count) (r + 1) (omega (arith, ltb-true (k % register_count) r u)))
          at false u =
              let other : k % register_count ≡ r → ⊥ = λ q. n (sym (place-of k w (eqb-true (k / register_count) w t)) ∙ ap (place_of w) q) in
              rw (u, le-ltb (k % register_count) (r + 1) (omega (arith, ltb-false (k % register_count) r u, other)))

      at : (t : Bool) → eqb k (place_of w r) ≡ t
          → mark_at (set after (place_of w r) v) k ≡ cond (among (r + 1) k) (meet (mark_at table k) (mark_of marks (k % register_count))) (mark_at table k)
      at true t =
          rw (eqb-true k (place_of w r) t, word_of w r l, register_of w r l, eq-eqb w w refl, lt-ltb r (r + 1) (omega arith))
          (get_or-set_same after (place_of w r) v not_reached long ∙ new)
      at false t =
          get_or-set_other after (place_of w r) k v not_reached (eqb-false k (place_of w r) t)
          ∙ h k
          ∙ ap (λ (u : Bool). cond u (meet (mark_at table k) (mark_of marks (k % register_count))) (mark_at table k)) (same (eqb (k / register_count) w) refl (eqb-false k (place_of w r) t))

  -- one whose mark stays
  pub raised_same : (r : ℕ) (after : List ℕ) → r < register_count → place_of w r < length after
      → meet (mark_at after (place_of w r)) (get_or marks r not_reached) ≡ mark_at after (place_of w r) → RaisedTo r after → RaisedTo (r + 1) after
  raised_same r after l long e h =
      subst (RaisedTo (r + 1)) (set-get_or after (place_of w r) not_reached) (raised_more r (mark_at after (place_of w r)) after l long (sym e) h)

  -- all of them
  pub raised_all : (after : List ℕ) → length after ≡ length table → RaisedTo register_count after → after ≡ raised_at table w marks
  raised_all after e h =
      ext_get_or not_reached after (raised_at table w marks) (e ∙ sym (raised_length table w marks))
      (λ k l. h k ∙ (rw (lt-ltb (k % register_count) register_count (register_below k), and-true)) ∙ sym (raised-mark table w marks k (omega (arith, e, l))))

  -- the table after r registers, with whether one has changed
  pub record Raising (r : ℕ) (after : List ℕ) (changed : Bool) : Type 0 where
    pub most : r ≤ register_count
    pub long : length after ≡ length table
    pub raised : RaisedTo r after
    pub high : height table ≤ height after
    pub higher : changed ≡ true → height table < height after
    pub same : changed ≡ false → after ≡ table

  pub raising_none : Raising 0 table false
  raising_none =
      record { most = omega arith; long = refl; raised = raised_none; high = omega arith; higher = λ e. false_true e; same = λ e. refl }

  -- one register more: its mark changes, or stays
  module _ (r v : ℕ) (after : List ℕ) (changed : Bool) (l : r < register_count) (fits : place_of w r < length after)
      (e : v ≡ meet (mark_at after (place_of w r)) (get_or marks r not_reached)) (h : Raising r after changed) where
    raising_new : (v ≡ mark_at after (place_of w r) → ⊥) → Raising (r + 1) (set after (place_of w r) v) true
    raising_new n =
        let above = subst (AtMost (mark_at after (place_of w r))) (sym e) (meets_lowest (mark_at after (place_of w r)) (get_or marks r not_reached)).0 in
        let up = set_higher after (place_of w r) v fits above n in
        record {
          most = omega (arith, l);
          long = length-set after (place_of w r) v ∙ h.long;
          raised = raised_more r v after l fits e h.raised;
          high = omega (arith, h.high, up);
          higher = λ t. omega (arith, h.high, up);
          same = λ t. false_true (sym t);
        }

    raising_old : v ≡ mark_at after (place_of w r) → Raising (r + 1) after changed
    raising_old q =
        record {
          most = omega (arith, l);
          long = h.long;
          raised = raised_same r after l fits (sym e ∙ q) h.raised;
          high = h.high;
          higher = h.higher;
          same = h.same;
        }

    pub raising_step : Raising (r + 1) (set after (place_of w r) v) (changed || not (eqb v (mark_at after (place_of w r))))
    raising_step = at (eqb v (mark_at after (place_of w r))) refl
      where
        at : (t : Bool) → eqb v (mark_at after (place_of w r)) ≡ t → Raising (r + 1) (set after (place_of w r) v) (changed || not t)
        at true t =
            let q = eqb-true v (mark_at after (place_of w r)) t in
            rw (q, set-get_or after (place_of w r) not_reached, or-false) (raising_old q)
        at false t = rw or-true (raising_new (eqb-false v (mark_at after (place_of w r)) t))

  -- it has changed exactly if it is higher
  pub raising_told : (r : ℕ) (after : List ℕ) (changed : Bool) → Raising r after changed → changed ≡ ltb (height table) (height after)
  raising_told r after true h = sym (lt-ltb (height table) (height after) (h.higher refl))
  raising_told r after false h = sym (le-ltb (height table) (height after) (omega (arith, ap height (h.same refl))))

  pub raising_done : (r : ℕ) (after : List ℕ) (changed : Bool) → Raising r after changed → register_count ≤ r → after ≡ raised_at table w marks
  raising_done r after changed h l =
      let e : r ≡ register_count = omega (arith, h.most, l) in
      raised_all after h.long (subst (λ (q : ℕ). RaisedTo q after) e h.raised)
