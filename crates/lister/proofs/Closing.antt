-- Raising until closed: what holds of the table and the flags before each word, and that the table is the listing in the end.
use Prim.Native.Nat.{ℕ, ◌+◌, ◌*◌, ◌-◌, ◌≤◌, ◌<◌}
use mathlib.Core.Path.{◌≡◌, refl, sym, ap, subst, ◌∙◌}
use mathlib.Core.Bool.{Bool, true, false, cond, ◌&&◌}
use mathlib.Core.List.{List, []}
use mathlib.Core.Logic.{⊎_elim}
use native.Mathlib.Nat.{eq-or-lt_of_le}
use native.Mathlib.Omega.{arith}
use lib.Dec.{ltb, eqb}
use lib.ListN.{length, set, replicate, length-replicate, get_or-replicate, length-append, get_or-append}
use lib.Seq.{ext_get_or, get_or-set_other, get_or-append-add}
use borrow.Author.Tests.{ltb-true, ltb-false, lt-ltb, eqb-true, eqb-false}
use Rattle.v8.specs.Numbers.{most_words}
use Rattle.v8.specs.declared.Reading.{Reading}
use Rattle.v8.proofs.Choice.{false_true}
use Rattle.flow_code.specs.Readings.{reading_at, examined}
use Rattle.marks.specs.Marks.{not_reached}
use Rattle.lister_rules.specs.Table.{table_marks, mark_at, marks_at, raised_at, TableAtMost, height}
use Rattle.lister_rules.specs.Rules.{entry_marks, entry_sent, sends_reached, sent_by, taken_in, all_taken_in, closed_at, closed, raised_by, raised_by_all}
use Rattle.lister.specs.Listing.{listing_of, whole_table}
use Rattle.lister_rules.specs.declared.sending.Work.{Work}
use Rattle.lister_rules.specs.Work.{is_pending, Held, Worked}
use Rattle.lister_rules.proofs.Tables.{inside, mark_behind, raised_length, taken_higher, height_most}
use Rattle.lister_rules.proofs.Raised.{by_taken, all_least, all_higher, all_taken, to_within, sent_within}
use Rattle.lister.proofs.Smallest.{none_marked, none_below, closed_each, word_lowest, entry_lowest, listing_length, listing_unique}

-- the whole table has the marks of the listing
whole_mark : (listing : List ℕ) (k : ℕ) → mark_at (whole_table listing) k ≡ mark_at listing k
whole_mark listing k =
    inside listing k
    (λ l. get_or-append listing rest not_reached k l)
    (λ l. ap (λ (j : ℕ). mark_at (whole_table listing) j) (on l) ∙ get_or-append-add listing rest (k - length listing) not_reached
    ∙ none_marked (table_marks - length listing) (k - length listing) ∙ sym (mark_behind listing k l))
  where
    rest : List ℕ
    rest = replicate (table_marks - length listing) not_reached

    on : length listing ≤ k → k ≡ length listing + (k - length listing)
    on l = omega (arith, l)

whole_length : (listing : List ℕ) → length listing ≤ table_marks → length (whole_table listing) ≡ table_marks
whole_length listing l =
    length-append listing (replicate (table_marks - length listing) not_reached)
    ∙ omega (arith, l, length-replicate (table_marks - length listing) not_reached)

-- a word whose marks are the same sends the same
sent_same : (readings : List Reading) (a b : List ℕ) (w : ℕ) → marks_at a w ≡ marks_at b w → sent_by readings a w ≡ sent_by readings b w
unfolding sent_by
sent_same readings a b w e =
    ap (λ (m : List ℕ). cond (examined readings w) (sends_reached (length readings) w (reading_at readings w) (reading_at readings (w + 1)) m) []) e

-- a slot that is no ordinary word sends nothing
slot_closed : (readings : List Reading) (table : List ℕ) (w : ℕ) → examined readings w ≡ false → closed_at readings table w ≡ true
unfolding closed_at sent_by
slot_closed readings table w e = rw e

-- an ordinary word sends what it sends
sent_here : (readings : List Reading) (table : List ℕ) (w : ℕ) (x slot : Reading) → examined readings w ≡ true → x ≡ reading_at readings w
    → slot ≡ reading_at readings (w + 1) → sends_reached (length readings) w x slot (marks_at table w) ≡ sent_by readings table w
unfolding sent_by
sent_here readings table w x slot e q r = rw (e, q, r)

module _ (readings : List Reading) (entry : List ℕ) where
  abbrev count : ℕ
  count = length readings

  -- before word w: the table is at most every closed one; it takes in what the entry row sends, and all that the words without a flag send, and
  -- those below w
  pub record Raises (table : List ℕ) (pending : List Bool) (w : ℕ) : Type 0 where
    pub held : Held table pending
    pub entered : taken_in table (entry_sent count entry) ≡ true
    pub least : (other : List ℕ) → closed readings entry other ≡ true → TableAtMost table other
    pub passed : (v : ℕ) → v < count → is_pending pending v ≡ false → closed_at readings table v ≡ true
    pub below : (v : ℕ) → v < w → v < count → closed_at readings table v ≡ true

  -- the number that falls: each raise makes the table higher, and goes back by 128 words at most
  abbrev pub left : List ℕ → ℕ → ℕ
  left table w = 129 * (2 * table_marks - height table) + (count - w)

  -- at the start
  pub raises_start : (table : List ℕ) (marks : List ℕ) → 1 ≤ count → count ≤ most_words → table ≡ raised_at (replicate table_marks not_reached) 0 marks
      → marks ≡ entry_marks entry → Raises table (replicate most_words true) 0
  raises_start table marks some most e m =
      record {
        held = (ap length e ∙ raised_length none 0 marks ∙ length-replicate table_marks not_reached, length-replicate most_words true);
        entered = subst (λ (t : List ℕ). taken_in t (entry_sent count entry) ≡ true) (sym by_entry)
            (by_taken count none (entry_sent count entry) (omega (arith, most, length-replicate table_marks not_reached)) (to_within count 0 (entry_marks entry)));
        least = λ other c. subst (λ (t : List ℕ). TableAtMost t other) (sym by_entry) (entry_lowest readings entry none other c (none_below table_marks other));
        passed = λ v l f. false_true (sym f ∙ get_or-replicate most_words v true false (omega (arith, l, most)));
        below = λ v l i. absurd (omega (arith, l));
      }
    where
      none : List ℕ
      none = replicate table_marks not_reached

      by_entry : table ≡ raised_by none (entry_sent count entry)
      by_entry = e ∙ rw (m, lt-ltb 0 count some)

  -- a word that has no flag, or is not examined, is passed over
  pub raises_over : (table : List ℕ) (pending : List Bool) (w : ℕ) → Raises table pending w → is_pending pending w && examined readings w ≡ false
      → Raises table pending (w + 1)
  raises_over table pending w h e =
      record {
        held = h.held;
        entered = h.entered;
        least = h.least;
        passed = h.passed;
        below = λ v l i. ⊎_elim
            (λ (q : v ≡ w). subst (λ (u : ℕ). closed_at readings table u ≡ true) (sym q) (here (is_pending pending w) refl (subst (λ (u : ℕ). u < count) q i)))
            (λ (q : v < w). h.below v q i)
            (eq-or-lt_of_le (omega (arith, l)));
      }
    where
      here : (t : Bool) → is_pending pending w ≡ t → w < count → closed_at readings table w ≡ true
      here true t i = slot_closed readings table w (subst (λ (u : Bool). u && examined readings w ≡ false) t e)
      here false t i = h.passed w i t

  -- a word passes on what it sends: its flag is taken away, and the next word is after it, or further back
  module _ (pending : List Bool) (w : ℕ) (from to : Work) (x slot : Reading) (most : count ≤ most_words) (l : w < count)
      (h : Raises from.table pending w) (e : examined readings w ≡ true) (q : x ≡ reading_at readings w) (r : slot ≡ reading_at readings (w + 1))
      (taken : from.pending ≡ set pending w false) (next : from.next ≡ w + 1)
      (s : to.table ≡ raised_by_all from.table (sends_reached count w x slot (marks_at from.table w))) (worked : Worked from to) where
    sent : to.table ≡ raised_by_all from.table (sent_by readings from.table w)
    sent = s ∙ ap (raised_by_all from.table) (sent_here readings from.table w x slot e q r)

    higher : TableAtMost from.table to.table
    higher = subst (TableAtMost from.table) (sym sent) (all_least from.table (sent_by readings from.table w))

    -- this word, if it keeps its marks; and each other that does and was closed
    this_closed : marks_at to.table w ≡ marks_at from.table w → closed_at readings to.table w ≡ true
    unfolding closed_at
    this_closed m =
        ap (all_taken_in to.table) (sent_same readings to.table from.table w m)
        ∙ subst (λ (t : List ℕ). all_taken_in t (sent_by readings from.table w) ≡ true) (sym sent)
        (all_taken count from.table (sent_by readings from.table w) (omega (arith, most, h.held.0)) (sent_within readings from.table w))

    still_closed : (v : ℕ) → marks_at to.table v ≡ marks_at from.table v → closed_at readings from.table v ≡ true → closed_at readings to.table v ≡ true
    unfolding closed_at
    still_closed v m c =
        ap (all_taken_in to.table) (sent_same readings to.table from.table v m) ∙ all_higher from.table to.table (sent_by readings from.table v) higher c

    -- a word is this one or another
    either : (v : ℕ) → marks_at to.table v ≡ marks_at from.table v → ((v ≡ w → ⊥) → closed_at readings from.table v ≡ true)
        → closed_at readings to.table v ≡ true
    either v m other = at (eqb v w) refl
      where
        at : (t : Bool) → eqb v w ≡ t → closed_at readings to.table v ≡ true
        at true t =
            let z = eqb-true v w t in
            subst (λ (u : ℕ). closed_at readings to.table u ≡ true) (sym z) (this_closed (subst (λ (u : ℕ). marks_at to.table u ≡ marks_at from.table u) z m))
        at false t = still_closed v m (other (eqb-false v w t))

    passes : (v : ℕ) → v < count → is_pending to.pending v ≡ false → closed_at readings to.table v ≡ true
    passes v i f =
        let kept = worked.kept v f in
        either v kept.1 (λ n. h.passed v i (sym (get_or-set_other pending w v false false n) ∙ ap (λ (p : List Bool). is_pending p v) (sym taken) ∙ kept.0))

    under : (v : ℕ) → v < to.next → v < count → closed_at readings to.table v ≡ true
    under v b i = either v (worked.below v b) (λ n. h.below v (omega (arith, n, b, worked.next, next)) i)

    falls : (t : Bool) → ltb to.next (w + 1) ≡ t → left to.table to.next < left from.table w
    falls true t =
        let b = ltb-true to.next (w + 1) t in
        omega (arith, worked.higher (omega (arith, b, next)), height_most to.table, worked.held.0, l, most)
    falls false t = omega (arith, worked.high, height_most to.table, worked.held.0, l, ltb-false to.next (w + 1) t)

    -- the table goes on to be raised, and what is left falls
    pub goes_on : Raises to.table to.pending to.next × (left to.table to.next < left from.table w)
    goes_on = (
      record {
        held = worked.held;
        entered = taken_higher from.table to.table (entry_sent count entry) higher h.entered;
        least = λ other c. subst (λ (t : List ℕ). TableAtMost t other) (sym sent)
            (word_lowest readings entry from.table from.table other c (h.least other c) (h.least other c) w l);
        passed = passes;
        below = under;
      },
      falls (ltb to.next (w + 1)) refl,
    )

  -- the listing has the places of a whole table
  pub listing_whole : count ≤ most_words → length (whole_table (listing_of readings entry)) ≡ table_marks
  listing_whole most = whole_length (listing_of readings entry) (omega (arith, listing_length readings entry, most))

  -- in the end
  pub raises_end : (table : List ℕ) (pending : List Bool) (w : ℕ) → count ≤ most_words → Raises table pending w → count ≤ w
      → table ≡ whole_table (listing_of readings entry)
  raises_end table pending w most h l =
      let listing = listing_of readings entry in
      let shut = closed_each readings entry table h.entered (λ v i. h.below v (omega (arith, i, l)) i) in
      ext_get_or not_reached table (whole_table listing) (h.held.0 ∙ sym (listing_whole most))
      (λ k i. listing_unique readings entry table (shut, h.least) k ∙ sym (whole_mark listing k))
