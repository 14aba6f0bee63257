-- The parts of the work, one after the other: what raises no word, what raises one, and two parts in a row.
use Prim.Native.Nat.{ℕ, ◌+◌, ◌≤◌, ◌<◌}
use mathlib.Core.Path.{◌≡◌, refl, sym, ap, subst, ◌∙◌}
use mathlib.Core.Bool.{Bool, true, false, cond}
use mathlib.Core.List.{List}
use native.Mathlib.Omega.{arith}
use lib.Dec.{ltb}
use lib.ListN.{length, set, length-set}
use lib.Seq.{get_or-set_same, get_or-set_other}
use borrow.Author.Tests.{ltb-true, ltb-false, ne_eqb}
use Rattle.v8.specs.Numbers.{most_words}
use Rattle.v8.proofs.Choice.{false_true}
use Rattle.marks.specs.Marks.{register_count}
use Rattle.marks.proofs.Values.{values_length, value-at, has_all}
use Rattle.lister_rules.specs.Table.{place_of, mark_at, marks_at, raised_at, TableAtMost, height}
use Rattle.lister_rules.specs.declared.sending.Work.{Work}
use Rattle.lister_rules.specs.Work.{is_pending, Held, Worked}
use Rattle.lister_rules.proofs.Places.{word_of}
use Rattle.lister_rules.proofs.Tables.{inside, mark_behind, raised_length, raised-mark, raised_least, height_rises, height_same}

-- a word that nothing arrives at keeps its marks
pub marks_other : (table : List ℕ) (w : ℕ) (marks : List ℕ) (v : ℕ) → (v ≡ w → ⊥) → marks_at (raised_at table w marks) v ≡ marks_at table v
unfolding marks_at
marks_other table w marks v n =
    has_all (λ (r : ℕ). mark_at table (place_of v r)) register_count (marks_at (raised_at table w marks) v)
    (values_length (λ (r : ℕ). mark_at (raised_at table w marks) (place_of v r)) 0 register_count)
    (λ r l. value-at (λ (q : ℕ). mark_at (raised_at table w marks) (place_of v q)) 0 register_count r 0 l ∙ there r l)
  where
    place : (r : ℕ) → 0 + r ≡ r
    place r = omega arith

    there : (r : ℕ) → r < register_count → mark_at (raised_at table w marks) (place_of v (0 + r)) ≡ mark_at table (place_of v r)
    there r l =
        let k = place_of v r in
        ap (λ (q : ℕ). mark_at (raised_at table w marks) (place_of v q)) (place r)
        ∙ inside table k
        (λ i. raised-mark table w marks k i ∙ rw (word_of v r l, ne_eqb v w n))
        (λ i. mark_behind (raised_at table w marks) k (omega (arith, i, raised_length table w marks)) ∙ sym (mark_behind table k i))

-- nothing is done
pub worked_none : (x : Work) → Held x.table x.pending → Worked x x
worked_none x h =
    record { held = h; count = refl; next = omega arith; below = λ w l. refl; kept = λ w e. (e, refl); higher = λ l. absurd (omega (arith, l)); high = omega arith }

module _ (x y : Work) (w : ℕ) (marks : List ℕ) (c : y.count ≡ x.count) (e : y.table ≡ raised_at x.table w marks) (h : Held x.table x.pending) where
  long : length y.table ≡ length x.table
  long = ap length e ∙ raised_length x.table w marks

  -- nothing is changed: a raised table that is no higher is the same
  pub worked_same : y.next ≡ x.next → y.pending ≡ x.pending → ltb (height x.table) (height y.table) ≡ false → Worked x y
  worked_same n p f =
      record {
        held = (long ∙ h.0, rw p h.1);
        count = c;
        next = omega (arith, n);
        below = λ v l. ap (λ (t : List ℕ). marks_at t v) (sym same);
        kept = λ v u. (rw p at u, ap (λ (t : List ℕ). marks_at t v) (sym same));
        higher = λ l. absurd (omega (arith, l, n));
        high = height_rises x.table y.table (sym long) above;
      }
    where
      above : TableAtMost x.table y.table
      above = subst (TableAtMost x.table) (sym e) (raised_least x.table w marks)

      same : x.table ≡ y.table
      same = height_same x.table y.table (sym long) above (omega (arith, height_rises x.table y.table (sym long) above, ltb-false (height x.table) (height y.table) f))

  -- word w is raised, and flagged
  pub worked_raised : w < most_words → y.next ≤ x.next → y.next ≤ w → y.pending ≡ set x.pending w true → height x.table < height y.table → Worked x y
  worked_raised l n m p up =
      record {
        held = (long ∙ h.0, ap length p ∙ length-set x.pending w true ∙ h.1);
        count = c;
        next = n;
        below = λ v b. same v (λ q. absurd (omega (arith, q, m, b)));
        kept = λ v f. let n = unflagged v (rw p at f) in (sym (get_or-set_other x.pending w v true false n) ∙ (rw p at f), same v n);
        higher = λ l. up;
        high = omega (arith, up);
      }
    where
      same : (v : ℕ) → (v ≡ w → ⊥) → marks_at y.table v ≡ marks_at x.table v
      same v n = ap (λ (t : List ℕ). marks_at t v) e ∙ marks_other x.table w marks v n

      unflagged : (v : ℕ) → is_pending (set x.pending w true) v ≡ false → v ≡ w → ⊥
      unflagged v f q =
          false_true (sym f ∙ ap (is_pending (set x.pending w true)) q ∙ get_or-set_same x.pending w true false (omega (arith, l, h.1)))

-- one part, and the next
pub worked_then : (x y z : Work) → Worked x y → Worked y z → Worked x z
worked_then x y z a b =
    record {
      held = b.held;
      count = b.count ∙ a.count;
      next = omega (arith, a.next, b.next);
      below = λ w l. b.below w l ∙ a.below w (omega (arith, l, b.next));
      kept = λ w f. let g = b.kept w f in let k = a.kept w g.0 in (k.0, g.1 ∙ k.1);
      higher = λ l. rises l (ltb y.next x.next) refl;
      high = omega (arith, a.high, b.high);
    }
  where
    rises : z.next < x.next → (t : Bool) → ltb y.next x.next ≡ t → height x.table < height z.table
    rises l true t = omega (arith, a.higher (ltb-true y.next x.next t), b.high)
    rises l false t = omega (arith, a.high, b.higher (omega (arith, ltb-false y.next x.next t, l)))
