-- What a word sends in a lower table is taken in wherever what it sends in a higher one is: each word raises what its marks raise.
use Prim.Native.Nat.{ℕ, ◌+◌, ◌≤◌, ◌<◌}
use mathlib.Core.Path.{◌≡◌, refl, sym, subst, ◌∙◌}
use mathlib.Core.Bool.{Bool, true, false, cond, not}
use mathlib.Core.List.{List, []}
use lib.Dec.{ltb, eqb}
use lib.ListN.{length}
use borrow.Author.Tests.{ltb-true, ltb-false, eqb-false, not-true}
use Rattle.v8.specs.declared.Instruction.{Instruction}
use Rattle.v8.specs.declared.Reading.{Reading}
use Rattle.v8.specs.declared.Reading.TheVariants.{Read, Unread}
use Rattle.v8.proofs.Search.{all_at, all_each, and_both}
use Rattle.v8.proofs.Choice.{and_went, false_true}
use Rattle.flow_edges.specs.declared.Destination.{Destination}
use Rattle.flow_edges.specs.declared.Destination.TheVariants.{To, Caller}
use Rattle.flow_edges.specs.declared.Edge.{Edge}
use Rattle.flow_edges.specs.Transfer.{is_transfer}
use Rattle.flow_edges.specs.Edge.{edge_of}
use Rattle.flow_code.specs.Readings.{reading_at, examined}
use Rattle.marks.specs.Marks.{not_reached, unset, register_count, mark_of, MarksAtMost, has_mark}
use Rattle.marks.specs.Effect.{marks_after, marks_after_word}
use Rattle.marks.specs.Laws.{AllMarked}
use Rattle.marks.proofs.Order.{at_most_ways, at_most_trans, at_most_self}
use Rattle.marks.proofs.Rising.{after_rises, after_marked}
use Rattle.lister_rules.specs.Table.{place_of, mark_at, marks_at, reached, TableAtMost}
use Rattle.lister_rules.specs.Rules.{Sent, nowhere, arriving, to_word, to_end, carried, sent_along, shown, sends, sends_reached, sent_by, taken_in, all_taken_in, closed_at}
use Rattle.lister_rules.proofs.Places.{mark_out, mark_there, marks_length}
use Rattle.lister_rules.proofs.Tables.{taken_each, taken_at}

-- a register, or one after the last
register : {C : Type 0} (r : ℕ) → (r < register_count → C) → (register_count ≤ r → C) → C
register {C} r f g = at (ltb r register_count) refl
  where
    at : (t : Bool) → ltb r register_count ≡ t → C
    at true e = f (ltb-true r register_count e)
    at false e = g (ltb-false r register_count e)

-- the marks of a word in a lower table are at most those in a higher one
pub marks_rise : (a b : List ℕ) (w : ℕ) → TableAtMost a b → MarksAtMost (marks_at a w) (marks_at b w)
marks_rise a b w p r =
    register r
    (λ l. rw (mark_there a w r l, mark_there b w r l) (p (place_of w r)))
    (λ l. rw (mark_out (marks_at a w) r l, mark_out (marks_at b w) r l) (at_most_self unset))

-- a reached word has a mark for every register
pub reached_marked : (marks : List ℕ) → reached marks ≡ true → AllMarked marks
unfolding reached
reached_marked marks e r = register r (all_at (has_mark marks) register_count r e) (λ l. rw (mark_out marks r l))

pub marked_reached : (marks : List ℕ) → AllMarked marks → reached marks ≡ true
unfolding reached
marked_reached marks h = all_each (has_mark marks) register_count (λ r l. h r)

marked_rises : (a b : List ℕ) → MarksAtMost a b → AllMarked a → AllMarked b
marked_rises a b p h r =
    at_most_ways (mark_of a r) (mark_of b r) (p r)
    (λ e. absurd (eqb-false (mark_of a r) not_reached (not-true (eqb (mark_of a r) not_reached) (h r)) e))
    (λ e. subst (λ (m : ℕ). not (eqb m not_reached) ≡ true) e (h r))
    (λ e. rw e)

-- what is sent is taken in wherever something else is
abbrev Lower : List ℕ → Sent → Sent → Type 0
Lower table s t = taken_in table t ≡ true → taken_in table s ≡ true

choose_lower : (table : List ℕ) (t : Bool) (s u : Sent) → Lower table s u → Lower table (cond t s nowhere) (cond t u nowhere)
choose_lower table true s u h = h
choose_lower table false s u h = λ e. e

module _ (table : List ℕ) (n : ℕ) where
  to_lower : (w : ℕ) (a b : List ℕ) → MarksAtMost a b → Lower table (to_word n w a) (to_word n w b)
  to_lower w a b p =
      choose_lower table (ltb w n) (arriving w a) (arriving w b)
      (λ e. taken_each table w a (λ r l. at_most_trans (mark_of a r) (mark_of b r) (mark_at table (place_of w r)) (p r) (taken_at table w b e r l)))

  end_lower : (d : Destination) (a b : List ℕ) → MarksAtMost a b → Lower table (to_end n d a) (to_end n d b)
  end_lower (To w) a b p = to_lower w.0 a b p
  end_lower Caller a b p = λ e. e

  module _ (a b : List ℕ) (la : length a ≡ register_count) (lb : length b ≡ register_count) (h : AllMarked a) (p : MarksAtMost a b) where
    carried_rises : (e : Edge) (x : Reading) → MarksAtMost (carried e x a) (carried e x b)
    carried_rises e x = at e.slot
      where
        at : (t : Bool) → MarksAtMost (cond t (marks_after_word a x) a) (cond t (marks_after_word b x) b)
        at true = after_rises a b x la lb h p
        at false = p

    along_lower : (x : Reading) (e : Edge) → Lower table (sent_along n x e a) (sent_along n x e b)
    along_lower x e =
        choose_lower table e.exists (to_end n e.to (carried e x a)) (to_end n e.to (carried e x b))
        (end_lower e.to (carried e x a) (carried e x b) (carried_rises e x))

    shown_lower : (w : ℕ) (x : Instruction) → Lower table (shown n w x a) (shown n w x b)
    shown_lower w x = choose_lower table (is_transfer x) (to_word n (w + 1) a) (to_word n (w + 1) b) (to_lower (w + 1) a b p)

  sends_lower : (a b : List ℕ) → length a ≡ register_count → length b ≡ register_count → AllMarked a → MarksAtMost a b → (w : ℕ) (x slot : Reading)
      → all_taken_in table (sends n w x slot b) ≡ true → all_taken_in table (sends n w x slot a) ≡ true
  sends_lower a b la lb h p w (Unread number) slot e = refl
  sends_lower a b la lb h p w (Read x) slot e =
      let c = marks_after a x in
      let d = marks_after b x in
      let ma = after_marked a (Read x) la h in
      let mb = after_marked b (Read x) lb (marked_rises a b p h) in
      let q = after_rises a b (Read x) la lb h p in
      let one = and_went (taken_in table (shown n w x b)) _ e in
      let two = and_went (taken_in table (sent_along n slot (edge_of w x true) d)) _ one.1 in
      let three = and_went (taken_in table (sent_along n slot (edge_of w x false) d)) true two.1 in
      and_both _ _ (shown_lower a b la lb h p w x one.0)
      (and_both _ _ (along_lower c d ma.1 mb.1 ma.0 q slot (edge_of w x true) two.0)
      (and_both _ true (along_lower c d ma.1 mb.1 ma.0 q slot (edge_of w x false) three.0) refl))

-- all that a word sends in a lower table is taken in by a higher one that is closed there
pub sent_taken : (readings : List Reading) (a b : List ℕ) (w : ℕ) → TableAtMost a b → closed_at readings b w ≡ true → all_taken_in b (sent_by readings a w) ≡ true
unfolding closed_at sent_by
sent_taken readings a b w p e = at (examined readings w) e
  where
    n : ℕ
    n = length readings

    x : Reading
    x = reading_at readings w

    slot : Reading
    slot = reading_at readings (w + 1)

    went : (t u : Bool) → reached (marks_at a w) ≡ t → reached (marks_at b w) ≡ u → all_taken_in b (cond u (sends n w x slot (marks_at b w)) []) ≡ true
        → all_taken_in b (cond t (sends n w x slot (marks_at a w)) []) ≡ true
    went false u s v f = refl
    went true true s v f =
        sends_lower b n (marks_at a w) (marks_at b w) (marks_length a w) (marks_length b w) (reached_marked (marks_at a w) s) (marks_rise a b w p) w x slot f
    went true false s v f =
        false_true (sym v ∙ marked_reached (marks_at b w) (marked_rises (marks_at a w) (marks_at b w) (marks_rise a b w p) (reached_marked (marks_at a w) s)))

    at : (t : Bool) → all_taken_in b (cond t (sends_reached n w x slot (marks_at b w)) []) ≡ true
        → all_taken_in b (cond t (sends_reached n w x slot (marks_at a w)) []) ≡ true
    at true f = went (reached (marks_at a w)) (reached (marks_at b w)) refl refl f
    at false f = refl
