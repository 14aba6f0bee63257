-- One step from a state whose registers agree with the listing leads to one. The listing is closed: it takes in what the word sends along the
-- edge that the step follows, and a transfer's slot takes in the marks that its transfer shows it.
use Rattle.std.specs.Prelude.{Option, Some, None}
use Prim.Native.Nat.{ℕ, ◌+◌, ◌%◌, ◌<◌}
use mathlib.Core.Path.{◌≡◌, refl, sym, subst}
use mathlib.Core.Bool.{Bool, true, false, cond, not, ◌&&◌, and-false}
use mathlib.Core.List.{List, []}
use lib.Dec.{ltb, eqb}
use lib.ListN.{length}
use borrow.Author.Tests.{ltb-true, ltb-false, lt-ltb}
use Rattle.v8.proofs.Choice.{cond_both, and_went, false_true}
use Rattle.v8.specs.declared.Bicc.{Bicc}
use Rattle.v8.specs.declared.Operation.{Operation}
use Rattle.v8.specs.declared.Instruction.{Instruction}
use Rattle.v8.specs.declared.Instruction.TheVariants.{Plain, Branch, Return}
use Rattle.v8.specs.declared.Reading.{Reading}
use Rattle.v8.specs.declared.Reading.TheVariants.{Read, Unread}
use Rattle.alu.specs.Condition.{cond_holds}
use Rattle.flow_edges.specs.declared.Destination.{Destination}
use Rattle.flow_edges.specs.declared.Destination.TheVariants.{To, Caller}
use Rattle.flow_edges.specs.declared.Edge.{Edge}
use Rattle.flow_edges.specs.Transfer.{is_transfer, reads_codes, link}
use Rattle.flow_edges.specs.Edge.{edge_of}
use Rattle.flow_code.specs.Readings.{reading_at, examined}
use Rattle.access.specs.Layout.{Layout}
use Rattle.step.specs.declared.Control.{Control}
use Rattle.step.specs.declared.Registers.{Registers}
use Rattle.step.specs.Registers.{value_of, is_set}
use Rattle.step.specs.Control.{go_to, at_slot, due_at}
use Rattle.step.specs.Effect.{Core, Effect, fault, done, effect_of}
use Rattle.step.specs.Step.{State, Step, stopped, next, returned, advance, follow, plain_step, branch_step, return_step, step_with, step_of}
use Rattle.rows.specs.Matches.{Host}
use Rattle.flow.specs.Laws.{Flowing, Lands}
use Rattle.flow.proofs.Onward.{flows, edges_land}
use Rattle.guarantee.proofs.Stepping.{decided}
use Rattle.marks.specs.Marks.{unset, register_count, mark_of}
use Rattle.marks.specs.Effect.{marks_after, marks_after_word}
use Rattle.lister_rules.specs.Table.{place_of, mark_at, marks_at, reached}
use Rattle.lister_rules.specs.Rules.{Sent, nowhere, to_word, to_end, carried, sent_along, shown, sends, sent_by, taken_in, all_taken_in, closed_at}
use Rattle.lister.specs.Listing.{listing_of}
use Rattle.lister_rules.proofs.Places.{mark_out, mark_there, marks_length}
use Rattle.lister_rules.proofs.Tables.{taken_at}
use Rattle.lister_rules.proofs.Sent.{marked_reached}
use Rattle.lister.proofs.Smallest.{closed_word, listing_closed}
use Rattle.meanings.specs.Meaning.{MarkHolds}
use Rattle.meanings.proofs.Holding.{unset_holds, raised_holds}
use Rattle.meanings.proofs.Agreeing.{Agrees, AgreesAfter, still_agrees, all_marked, operation_agrees}

-- what is sent where a test passes
sent_if : (table : List ℕ) (t : Bool) (s : Sent) → t ≡ true → taken_in table (cond t s nowhere) ≡ true → taken_in table s ≡ true
sent_if table true s e k = k
sent_if table false s e k = false_true e

module _ (h : Host) (l : Layout) (returns : ℕ) (readings : List Reading) (entry : List ℕ) where
  abbrev listing : List ℕ
  listing = listing_of readings entry

  abbrev word : ℕ → Reading
  word w = reading_at readings w

  -- registers agree with the marks of a word that takes in those they agree with
  pub taken_agrees : (w : ℕ) (m : List ℕ) (g : Registers) → w < length readings → taken_in listing (to_word (length readings) w m) ≡ true
      → Agrees h entry m g → Agrees h entry (marks_at listing w) g
  taken_agrees w m g i t a = record { values = a.values; marked = a.marked; listed = marks_length listing w; each = λ r. at r (ltb r register_count) refl }
    where
      at : (r : ℕ) (u : Bool) → ltb r register_count ≡ u → MarkHolds h entry (mark_of (marks_at listing w) r) (is_set g r) (value_of g r)
      at r true e =
          let b = ltb-true r register_count e in
          rw (mark_there listing w r b)
          (raised_holds h entry (mark_of m r) (mark_at listing (place_of w r)) (is_set g r) (value_of g r)
          (taken_at listing w m (sent_if listing (ltb w (length readings)) _ (lt-ltb w (length readings) i) t) r b) (a.each r))
      at r false e = rw (mark_out (marks_at listing w) r (ltb-false r register_count e)) (unset_holds h entry (is_set g r) (value_of g r))

  -- at word w as an ordinary word
  pub record At (w : ℕ) (c : Core) : Type 0 where
    pub inside : w < length readings
    pub free : examined readings w ≡ true
    pub agrees : Agrees h entry (marks_at listing w) c.registers

  -- where an edge ends
  abbrev Arrived : Destination → Core → Type 0
  Arrived (To w) c = At w.0 c
  Arrived Caller c = Unit {0}

  -- in the slot at word w, with where control then goes: with the marks of the slot, and with those that the transfer left, of which the slot
  -- makes what arrives
  pub record SlotDue (w : ℕ) (d : Destination) (c : Core) : Type 0 where
    pub here : Agrees h entry (marks_at listing w) c.registers
    pub marks : List ℕ
    pub agrees : Agrees h entry marks c.registers
    pub arrives : (c' : Core) → Agrees h entry (marks_after_word marks (reading_at readings w)) c'.registers → Arrived d c'

  abbrev pub Ready : ℕ → Core → Option Destination → Type 0
  Ready w c None = At w c
  Ready w c (Some d) = SlotDue w d c

  -- the invariant, and that a step keeps it
  abbrev pub Listed : State → Type 0
  Listed st = Ready st.control.at.0 st.core st.control.pending

  abbrev pub Keeps : Step → Type 0
  Keeps (stopped n) = Unit {0}
  Keeps (next st) = Listed st
  Keeps (returned c) = Unit {0}

  -- the marks of the word where a state stands
  pub ready_agrees : (w : ℕ) (c : Core) (k : Option Destination) → Ready w c k → Agrees h entry (marks_at listing w) c.registers
  ready_agrees w c None r = r.agrees
  ready_agrees w c (Some d) r = r.here

  arrive : (d : Destination) (m : List ℕ) → Lands readings d → taken_in listing (to_end (length readings) d m) ≡ true
      → (c : Core) → Agrees h entry m c.registers → Arrived d c
  arrive (To w) m i t c a = record { inside = i.0; free = i.1; agrees = taken_agrees w.0 m c.registers i.0 t a }
  arrive Caller m i t c a = tt

  advanced : (d : Destination) (c : Core) → Arrived d c → Keeps (advance c d)
  advanced (To w) c a = a
  advanced Caller c a = tt

  -- an operation, in a slot or not
  plain_step_lem : (k : Control) (x : Operation) (c : Core) (m : List ℕ) → Agrees h entry m c.registers
      → ((c' : Core) → Agrees h entry (marks_after m (Plain x)) c'.registers → Arrived (due_at k.at.0 k.pending) c')
      → Keeps (step_with l returns (record { control = k; core = c }) (Read (Plain x)))
  plain_step_lem k x c m a arrives = rw and-false (by (effect_of l c x) (operation_agrees h entry l c m a x))
    where
      by : (e : Effect) → AgreesAfter h entry (marks_after m (Plain x)) e → Keeps (plain_step k e)
      by (fault n) b = tt
      by (done c') b = advanced (due_at k.at.0 k.pending) c' (arrives c' b)

  module _ (ok : Flowing readings) where
    -- the listing takes in what a word that is examined sends
    chosen : (t u : Bool) (ss : List Sent) → t ≡ true → u ≡ true → all_taken_in listing (cond t (cond u ss []) []) ≡ true → all_taken_in listing ss ≡ true
    chosen t u ss et eu e = rw (et, eu) at e

    sent : (w : ℕ) (c : Core) (x : Instruction) → word w ≡ Read x → At w c
        → all_taken_in listing (sends (length readings) w (Read x) (word (w + 1)) (marks_at listing w)) ≡ true
    unfolding closed_at sent_by
    sent w c x q at =
        subst (λ (y : Reading). all_taken_in listing (sends (length readings) w y (word (w + 1)) (marks_at listing w)) ≡ true) q
        (chosen (examined readings w) (reached (marks_at listing w)) (sends (length readings) w (word w) (word (w + 1)) (marks_at listing w)) at.free
        (marked_reached (marks_at listing w) (all_marked h entry (marks_at listing w) c.registers at.agrees))
        (closed_word readings entry listing (listing_closed readings entry) w at.inside))

    -- to its slot, and along each of its edges
    sent_shown : (w : ℕ) (c : Core) (x : Instruction) → word w ≡ Read x → At w c → is_transfer x ≡ true
        → taken_in listing (to_word (length readings) (w + 1) (marks_at listing w)) ≡ true
    sent_shown w c x q at tr =
        sent_if listing (is_transfer x) (to_word (length readings) (w + 1) (marks_at listing w)) tr
        (and_went (taken_in listing (shown (length readings) w x (marks_at listing w))) _ (sent w c x q at)).0

    sent-along : (w : ℕ) (c : Core) (x : Instruction) → word w ≡ Read x → At w c → (taken : Bool) → (edge_of w x taken).exists ≡ true
        → taken_in listing (to_end (length readings) (edge_of w x taken).to (carried (edge_of w x taken) (word (w + 1)) (marks_after (marks_at listing w) x))) ≡ true
    sent-along w c x q at taken e = sent_if listing (edge_of w x taken).exists _ e (along taken)
      where
        m : List ℕ
        m = marks_after (marks_at listing w) x

        both : (taken_in listing (sent_along (length readings) (word (w + 1)) (edge_of w x true) m) ≡ true)
            × (taken_in listing (sent_along (length readings) (word (w + 1)) (edge_of w x false) m) ≡ true)
        both =
            let one = and_went (taken_in listing (shown (length readings) w x (marks_at listing w))) _ (sent w c x q at) in
            let two = and_went (taken_in listing (sent_along (length readings) (word (w + 1)) (edge_of w x true) m)) _ one.1 in
            (two.0, (and_went (taken_in listing (sent_along (length readings) (word (w + 1)) (edge_of w x false) m)) true two.1).0)

        along : (t : Bool) → taken_in listing (sent_along (length readings) (word (w + 1)) (edge_of w x t) m) ≡ true
        along true = both.0
        along false = both.1

    -- a transfer writes no register
    transfer_agrees : (m : List ℕ) (g : Registers) (x : Instruction) → is_transfer x ≡ true → Agrees h entry m g → Agrees h entry (marks_after m x) g
    transfer_agrees m g (Plain x) tr a = false_true tr
    transfer_agrees m g (Branch b) tr a = still_agrees h entry m g unset a
    transfer_agrees m g Return tr a = still_agrees h entry m g unset a

    -- a transfer follows an edge that there is
    transfer_step : (w : ℕ) (c : Core) (x : Instruction) → word w ≡ Read x → is_transfer x ≡ true → At w c → (taken : Bool) → (edge_of w x taken).exists ≡ true
        → Keeps (follow w (edge_of w x taken) c)
    transfer_step w c x q tr at taken e = by (edge_of w x taken) (edges_land readings ok w x q at.inside at.free taken e) (sent-along w c x q at taken e)
      where
        m : List ℕ
        m = marks_after (marks_at listing w) x

        a : Agrees h entry m c.registers
        a = transfer_agrees (marks_at listing w) c.registers x tr at.agrees

        by : (f : Edge) → Lands readings f.to → taken_in listing (to_end (length readings) f.to (carried f (word (w + 1)) m)) ≡ true → Keeps (follow w f c)
        by f i t = over f.slot t
          where
            over : (s : Bool) → taken_in listing (to_end (length readings) f.to (cond s (marks_after_word m (word (w + 1))) m)) ≡ true
                → Keeps (cond s (next (record { control = at_slot w f.to; core = c })) (advance c f.to))
            over true t =
                record {
                  here = taken_agrees (w + 1) (marks_at listing w) c.registers ((flows readings ok w at.inside x q).slot tr) (sent_shown w c x q at tr) at.agrees;
                  marks = m;
                  agrees = a;
                  arrives = arrive f.to (marks_after_word m (word (w + 1))) i t;
                }
            over false t = advanced f.to c (arrive f.to m i t c a)

    branch-step : (w : ℕ) (b : Bicc) (c : Core) → word w ≡ Read (Branch b) → At w c → Keeps (branch_step (record { control = go_to w; core = c }) b)
    branch-step w b c q at =
        cond_both Keeps (reads_codes b.cond && not c.registers.codes.set) (λ _. tt)
        (λ _. transfer_step w c (Branch b) q refl at (cond_holds b.cond c.registers.codes.value) (decided b.cond c.registers.codes.value _ refl))

    return-step : (w : ℕ) (c : Core) → word w ≡ Read Return → At w c → Keeps (return_step returns (record { control = go_to w; core = c }))
    return-step w c q at =
        cond_both Keeps (is_set c.registers link)
        (λ _. cond_both Keeps (eqb (value_of c.registers link % 4) 0)
        (λ _. cond_both Keeps (eqb (value_of c.registers link) returns) (λ _. transfer_step w c Return q refl at true refl) (λ _. tt)) (λ _. tt)) (λ _. tt)

    -- a word with nothing pending
    free_step : (w : ℕ) (c : Core) → At w c → (x : Reading) → word w ≡ x → Keeps (step_with l returns (record { control = go_to w; core = c }) x)
    free_step w c at (Unread n) q = tt
    free_step w c at (Read (Plain x)) q =
        plain_step_lem (go_to w) x c (marks_at listing w) at.agrees
        (arrive (edge_of w (Plain x) false).to (marks_after (marks_at listing w) (Plain x)) (edges_land readings ok w (Plain x) q at.inside at.free false refl)
        (sent-along w c (Plain x) q at false refl))
    free_step w c at (Read (Branch b)) q = branch-step w b c q at
    free_step w c at (Read Return) q = return-step w c q at

    -- a word in a slot
    slot_step : (w : ℕ) (d : Destination) (c : Core) → SlotDue w d c → (x : Reading) → word w ≡ x
        → Keeps (step_with l returns (record { control = record { at = record { 0 = w }; pending = Some d }; core = c }) x)
    slot_step w d c s (Unread n) q = tt
    slot_step w d c s (Read (Plain x)) q =
        plain_step_lem (record { at = record { 0 = w }; pending = Some d }) x c s.marks s.agrees
        (λ c' a. s.arrives c' (subst (λ (y : Reading). Agrees h entry (marks_after_word s.marks y) c'.registers) (sym q) a))
    slot_step w d c s (Read (Branch b)) q = tt
    slot_step w d c s (Read Return) q = tt

    ready_step : (w : ℕ) (c : Core) (k : Option Destination) → Ready w c k
        → Keeps (step_with l returns (record { control = record { at = record { 0 = w }; pending = k }; core = c }) (word w))
    ready_step w c None r = free_step w c r (word w) refl
    ready_step w c (Some d) r = slot_step w d c r (word w) refl

    -- one step
    pub step_keeps : (st : State) → Listed st → Keeps (step_of (record { layout = l; readings = readings; returns = returns }) st)
    unfolding step_of
    step_keeps st r = ready_step st.control.at.0 st.core st.control.pending r
