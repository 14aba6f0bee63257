-- One step from a state that satisfies the invariant leads to one, and is safe. An operation, in a slot or not, is covered by the change that the
-- check made of its row; a transfer follows an edge that the check looked at: a branch the one that the codes decide, narrowed by a condition
-- that holds, the return the one to the caller, finding the return address in r15.
use Rattle.std.specs.Prelude.{Option, Some, None}
use Prim.Native.Nat.{ℕ, ◌+◌, ◌*◌, ◌%◌, ◌<◌}
use mathlib.Core.Path.{◌≡◌, refl, sym, ap, ◌∙◌, subst}
use mathlib.Core.Bool.{Bool, true, false, not, cond, ◌&&◌, and-false}
use mathlib.Core.List.{List}
use native.Mathlib.Omega.{arith}
use lib.Dec.{eqb}
use borrow.Author.Tests.{eqb-true, eq-eqb}
use Rattle.v8.proofs.Choice.{cond_both, false_true}
use Rattle.v8.specs.Numbers.{never, always, unset_operand}
use Rattle.v8.specs.declared.Bicc.{Bicc}
use Rattle.v8.specs.declared.Operation.{Operation}
use Rattle.v8.specs.declared.Instruction.{Instruction}
use Rattle.v8.specs.declared.Instruction.TheVariants.{Plain, Branch, Return}
use Rattle.v8.specs.declared.Reading.{Reading}
use Rattle.v8.specs.declared.Reading.TheVariants.{Read, Unread}
use Rattle.v8.specs.Laws.{OperationSmall, ReadingSound}
use Rattle.alu.specs.declared.codes.Codes.{Codes}
use Rattle.alu.specs.declared.condition.Narrowing.TheVariants.{Unrelated}
use Rattle.alu.specs.Condition.{cond_holds, opposite_of}
use Rattle.alu.proofs.Conditions.{opposite_holds}
use Rattle.flow_edges.specs.declared.Destination.{Destination}
use Rattle.flow_edges.specs.declared.Destination.TheVariants.{To, Caller}
use Rattle.flow_edges.specs.declared.Edge.{Edge}
use Rattle.flow_edges.specs.Transfer.{is_transfer, reads_codes, has_edge, link}
use Rattle.flow_edges.specs.Edge.{to_word, edge_of}
use Rattle.flow_code.specs.Readings.{reading_at, transfers}
use Rattle.flow.specs.Laws.{Lands}
use Rattle.flow.proofs.Onward.{flows, edges_land, slot_no_transfer}
use Rattle.policy.specs.declared.Policy.{Policy}
use Rattle.policy.specs.Laws.{WellFormed}
use Rattle.access.specs.Layout.{Layout, layout_of}
use Rattle.step.specs.declared.Control.{Control}
use Rattle.step.specs.Registers.{value_of, is_set}
use Rattle.step.specs.Control.{go_to, at_slot, due_at}
use Rattle.step.specs.Effect.{Core, Effect, fault, done, effect_of}
use Rattle.step.specs.Step.{State, Step, next, advance, follow, plain_step, branch_step, return_step, step_with, step_of}
use Rattle.rows.specs.declared.Row.{Row}
use Rattle.rows.specs.Geometry.{row_bytes, note_name}
use Rattle.rows.specs.Entry.{is_unset, is_return}
use Rattle.rows.specs.Row.{entry_at}
use Rattle.rows.specs.Matches.{Host}
use Rattle.rows.specs.Laws.{EntryRules, RowRules}
use Rattle.rows.proofs.Fitting.{fits_matches}
use Rattle.rows.proofs.RowFitting.{row_fits}
use Rattle.rows.proofs.Obeying.{row_obeys}
use Rattle.rules.specs.declared.Change.{Change}
use Rattle.rules.specs.declared.Change.TheVariants.{Writes, Keeps, Breaks}
use Rattle.rules.specs.Change.{operation_change, branch_change, return_change}
use Rattle.rules.specs.Narrow.{RowLeft, left, nothing, narrow_row}
use Rattle.rules.specs.Laws.{Laid, LeftMatches}
use Rattle.rows.proofs.ByKind.{held_return}
use Rattle.rules.proofs.Narrowed.{narrows_row}
use Rattle.passes.specs.Answer.{passes}
use Rattle.passes_shape.specs.Shape.{result_register}
use Rattle.passes.specs.Passes.{row_at, if_read, read_pass}
use Rattle.checker.specs.Routine.{Routine, count, result_entry}
use Rattle.checker.specs.Passes.{arrive, change_by, applied, cross, edges}
use Rattle.checker.specs.Laws.{Checked, After}
use Rattle.checker.proofs.Looked.{word_makes, edges_looked, slot_applied, slot_skipped, arrives}
use Rattle.guarantee.specs.Safe.{OperationSafe, ReadingSafe}
use Rattle.guarantee.specs.Guarantee.{host_of, held_of}
use Rattle.guarantee.specs.Invariant.{CoreOk, Fitted, Kept, Good, Covers, At, Arrived, Due, SlotDue, Ready, Invariant, StepGood}
use Rattle.guarantee.proofs.Held.{read_small, held_small}
use Rattle.guarantee.proofs.Computed.{framed_self, register_held}
use Rattle.guarantee.proofs.Covered.{covered}

-- what covers a change covers the row after it
covers_after : (p : Policy) (h : Host) (row after : Row) (c : Core) (x : Operation) (e : Effect) (ch : Change) → Covers p h row c x e ch → After row ch after
    → OperationSafe p h c.registers x × Good p h after c e
covers_after p h row after c x e (Writes r entry note) k a = (k.0, subst (λ (z : Row). Good p h z c e) (sym a) k.1)
covers_after p h row after c x e Keeps k a = (k.0, subst (λ (z : Row). Good p h z c e) (sym a) k.1)
covers_after p h row after c x e (Breaks n r) k a = absurd a

-- the edge that the codes decide exists: never is not taken, always is
never_holds : (f : Codes) → cond_holds never f ≡ false
unfolding cond_holds
never_holds f = refl

always_holds : (f : Codes) → cond_holds always f ≡ true
unfolding cond_holds
always_holds f = refl

pub decided : (cnd : ℕ) (f : Codes) (taken : Bool) → cond_holds cnd f ≡ taken → has_edge cnd taken ≡ true
decided cnd f true e = at (eqb cnd never) refl
  where
    at : (t : Bool) → eqb cnd never ≡ t → not (eqb cnd never) ≡ true
    at true t = false_true (sym (never_holds f) ∙ subst (λ (k : ℕ). cond_holds k f ≡ true) (eqb-true cnd never t) e)
    at false t = ap not t
decided cnd f false e = at (eqb cnd always) refl
  where
    at : (t : Bool) → eqb cnd always ≡ t → not (eqb cnd always) ≡ true
    at true t = false_true (sym (subst (λ (k : ℕ). cond_holds k f ≡ false) (eqb-true cnd always t) e) ∙ always_holds f)
    at false t = ap not t

-- an edge whose class says nothing narrows nothing
unnarrowed : (row : Row) → narrow_row Unrelated row ≡ left row
unfolding narrow_row
unnarrowed row = refl

module _ (t : Routine) (bases : List ℕ) (returns frame : ℕ) (wf : WellFormed t.policy) (laid : Laid t.policy.regions.count t.policy.regions.sizes (host_of bases returns frame))
    (four : returns % 4 ≡ 0) (ch : Checked t) (sound : (w : ℕ) → ReadingSound (reading_at t.readings w))
    (result : EntryRules t.policy.regions.count t.policy.regions.sizes (result_entry t.result)) where
  abbrev h : Host
  h = host_of bases returns frame

  abbrev l : Layout
  l = layout_of t.policy bases frame

  abbrev word : ℕ → Reading
  word w = reading_at t.readings w

  row_rules : (w : ℕ) → w < count t → RowRules t.policy.regions.count t.policy.regions.sizes (row_at t.rows w)
  row_rules w i = row_obeys t.policy.regions.count t.policy.regions.sizes t.rows (row_bytes * w) (ch.rows_formed w i)

  arrive_sound : (w : ℕ) (d : Destination) (row : Row) → Lands t.readings d → passes (arrive t.rows t.result w d row) ≡ true
      → (c : Core) → CoreOk t.policy h c → Fitted t.policy h row c → Arrived t h d c
  arrive_sound w (To i) row lands e c ck f =
      record {
        inside = lands.0;
        free = lands.1;
        fitted =
            record {
              rules = row_rules i.0 lands.0;
              matches = row_fits h t.policy.regions.count t.policy.regions.sizes row (row_at t.rows i.0) (held_of t.policy c) (held_small t.policy c ck.words ck.bytes)
                  f.rules (row_rules i.0 lands.0) (arrives t.rows t.result w (To i) row e) f.matches;
            };
      }
  arrive_sound w Caller row lands e c ck f =
      fits_matches h t.policy.regions.count t.policy.regions.sizes (entry_at row result_register) (result_entry t.result) (is_set c.registers result_register)
      (value_of c.registers result_register) (read_small c.registers ck.words result_register) (f.rules.entries result_register) result
      (arrives t.rows t.result w Caller row e) (register_held t.policy h row c ck f result_register (omega arith))

  -- control goes where a row has arrived
  landed : (row : Row) (c c' : Core) (d : Destination) → Kept t.policy h row c c' → Arrived t h d c' → StepGood t h c (advance c' d)
  landed row c c' (To w) kept a = record { invariant = record { core = kept.core; ready = a }; framed = kept.framed }
  landed row c c' Caller kept a = record { core = kept.core; framed = kept.framed; result = a }

  advanced : (k : Control) (row : Row) (c : Core) (e : Effect) → Good t.policy h row c e
      → ((c' : Core) → CoreOk t.policy h c' → Fitted t.policy h row c' → Arrived t h (due_at k.at.0 k.pending) c') → StepGood t h c (plain_step k e)
  advanced k row c (fault n) g a = absurd g
  advanced k row c (done c') g a = landed row c c' (due_at k.at.0 k.pending) g (a c' g.core g.fitted)

  -- an operation, in a slot or not
  plain_step_lem : (k : Control) (x : Operation) (c : Core) → OperationSmall x → CoreOk t.policy h c → Due t h x (due_at k.at.0 k.pending) c
      → OperationSafe t.policy h c.registers x × StepGood t h c (step_with l returns (record { control = k; core = c }) (Read (Plain x)))
  plain_step_lem k x c s ck due =
      let g = covers_after t.policy h due.row due.after c x (effect_of l c x) (operation_change t.policy due.row x)
      (covered t.policy bases returns frame wf laid x s due.row c ck due.fitted) due.change in
      (g.0, rw and-false (advanced k due.after c (effect_of l c x) g.1 due.arrives))

  -- a word of the code is read
  is_read : (w : ℕ) → w < count t → (x : Reading) → word w ≡ x → passes (if_read w x) ≡ true
  unfolding read_pass
  is_read w i x q = subst (λ (y : Reading). passes (if_read w y) ≡ true) q (ch.reads w i)

  unread : {A : Type 0} (w n : ℕ) → w < count t → word w ≡ Unread n → A
  unread w n i q = false_true (sym (subst ReadingSound q (sound w)) ∙ is_read w i (Unread n) q)

  -- the slot of a transfer is an operation
  record Operates (x : Reading) : Type 0 where
    operation : Operation
    is : x ≡ Read (Plain operation)

  slot_is : (w : ℕ) → w + 1 < count t → transfers (word w) ≡ true → Operates (word (w + 1))
  slot_is w i e = at (word (w + 1)) refl
    where
      no : {x : Instruction} → word (w + 1) ≡ Read x → is_transfer x ≡ true → Operates (word (w + 1))
      no q k = false_true (sym (slot_no_transfer t.readings ch.flows w i e) ∙ ap transfers q ∙ k)

      at : (x : Reading) → word (w + 1) ≡ x → Operates (word (w + 1))
      at (Unread n) q = unread (w + 1) n i q
      at (Read (Plain x)) q = record { operation = x; is = q }
      at (Read (Branch b)) q = no q refl
      at (Read Return) q = no q refl

  -- each edge of a word that is examined ends where one is
  lands-on : (w : ℕ) (x : Instruction) (c : Core) → word w ≡ Read x → At t h w c → (taken : Bool) → (edge_of w x taken).exists ≡ true
      → Lands t.readings (edge_of w x taken).to
  lands-on w x c q at taken e = edges_land t.readings ch.flows w x q at.inside at.free taken e

  -- the slot of the word at w is due, and then where the edge goes
  slot_due : (w : ℕ) (d : Destination) (row : Row) (c : Core) → w + 1 < count t → transfers (word w) ≡ true → Lands t.readings d → Fitted t.policy h row c
      → passes (applied t.policy (w + 1) (word (w + 1)) row (arrive t.rows t.result w d)) ≡ true → SlotDue t h (word (w + 1)) d c
  slot_due w d row c i e lands f p =
      let o = slot_is w i e in
      let m = word_makes t.policy (w + 1) (word (w + 1)) row (arrive t.rows t.result w d) (sound (w + 1)) p in
      record {
        operation = o.operation;
        is = o.is;
        due =
            record {
              row = row;
              fitted = f;
              after = m.after;
              change = subst (λ (x : Reading). After row (change_by t.policy row x) m.after) o.is m.change;
              arrives = arrive_sound w d m.after lands m.passed;
            };
      }

  module _ (w : ℕ) (c : Core) (ck : CoreOk t.policy h c) where
    -- along an edge, from the row that it narrows to
    edge_sound : (e : Edge) (row : Row) → (e.slot ≡ true → (w + 1 < count t) × (transfers (word w) ≡ true)) → Lands t.readings e.to → Fitted t.policy h row c
        → passes (cross t.policy t.rows t.result w (word (w + 1)) e row) ≡ true → StepGood t h c (follow w e c)
    edge_sound e row i lands f p = at e.slot refl
      where
        at : (b : Bool) → e.slot ≡ b → StepGood t h c (cond b (next (record { control = at_slot w e.to; core = c })) (advance c e.to))
        at true q =
            record {
              invariant =
                  record {
                    core = ck;
                    ready = slot_due w e.to row c (i q).0 (i q).1 lands f (slot_applied t.policy t.rows t.result w (word (w + 1)) e row p q);
                  };
              framed = framed_self t.policy c.memory;
            }
        at false q =
            landed row c c e.to (record { fitted = f; core = ck; framed = framed_self t.policy c.memory })
            (arrive_sound w e.to row lands (slot_skipped t.policy t.rows t.result w (word (w + 1)) e row p q) c ck f)

    -- an edge of a transfer that there is, where narrowing leaves a row that matches
    edge_followed : (x : Instruction) → word w ≡ Read x → transfers (Read x) ≡ true → At t h w c → (row : Row)
        → passes (edges t.policy t.rows t.result w (Read x) (word (w + 1)) row) ≡ true → (taken : Bool) → (edge_of w x taken).exists ≡ true
        → LeftMatches t.policy.regions.count t.policy.regions.sizes h (narrow_row (edge_of w x taken).narrowing row) (held_of t.policy c)
        → StepGood t h c (follow w (edge_of w x taken) c)
    edge_followed x q tr at row p taken e m = by (narrow_row (edge_of w x taken).narrowing row) refl m
      where
        by : (n : RowLeft) → narrow_row (edge_of w x taken).narrowing row ≡ n → LeftMatches t.policy.regions.count t.policy.regions.sizes h n (held_of t.policy c)
            → StepGood t h c (follow w (edge_of w x taken) c)
        by (left narrowed) k m =
            edge_sound (edge_of w x taken) narrowed (λ _. ((flows t.readings ch.flows w at.inside x q).slot tr, ap transfers q ∙ tr)) (lands-on w x c q at taken e)
            (record { rules = m.0; matches = m.1 })
            (edges_looked t.policy t.rows t.result w x (word (w + 1)) row p taken e narrowed k)
        by nothing k m = absurd m

  -- what a word that was looked at makes of its row
  record Looks (w : ℕ) (x : Reading) : Type 0 where
    after : Row
    change : After (row_at t.rows w) (change_by t.policy (row_at t.rows w) x) after
    passed : passes (edges t.policy t.rows t.result w x (word (w + 1)) after) ≡ true

  looks : (w : ℕ) (c : Core) → At t h w c → (x : Reading) → word w ≡ x → Looks w x
  looks w c at x q =
      let m = word_makes t.policy w (word w) (row_at t.rows w) (edges t.policy t.rows t.result w (word w) (word (w + 1))) (sound w)
      (ch.words w at.inside at.free) in
      subst (Looks w) q (record { after = m.after; change = m.change; passed = m.passed })

  -- an operation with nothing pending is due to go to the next word
  plain_due : (w : ℕ) (x : Operation) (c : Core) → word w ≡ Read (Plain x) → At t h w c → Due t h x (to_word (w + 1)) c
  plain_due w x c q at =
      let m = looks w c at (Read (Plain x)) q in
      let onward = edges_looked t.policy t.rows t.result w (Plain x) (word (w + 1)) m.after m.passed false refl m.after (unnarrowed m.after) in
      record {
        row = row_at t.rows w;
        fitted = at.fitted;
        after = m.after;
        change = m.change;
        arrives = arrive_sound w (to_word (w + 1)) m.after (lands-on w (Plain x) c q at false refl)
            (slot_skipped t.policy t.rows t.result w (word (w + 1)) (edge_of w (Plain x) false) m.after onward refl);
      }

  -- the codes are set where a branch reads them
  codes-set : (row : Row) (c : Core) (cnd : ℕ) → Fitted t.policy h row c → (after : Row) → After row (branch_change row.note cnd) after
      → reads_codes cnd ≡ true → c.registers.codes.set ≡ true
  unfolding branch_change
  codes-set row c cnd f after a r = f.matches.note.coded (at (eqb row.note.kind 0) refl)
    where
      both : (x y : Bool) → x ≡ true → y ≡ true → x && y ≡ true
      both x y p q = rw (p, q)

      at : (k : Bool) → eqb row.note.kind 0 ≡ k → eqb row.note.kind 0 ≡ false
      at true k =
          absurd (subst (λ (b : Bool). After row (cond b (Breaks unset_operand note_name) Keeps) after)
          (both (eqb row.note.kind 0) (reads_codes cnd) k r) a)
      at false k = k

  -- a branch keeps the row
  branch_after : (row after : Row) (cnd : ℕ) → After row (branch_change row.note cnd) after → after ≡ row
  unfolding branch_change
  branch_after row after cnd a =
      cond_both (λ (k : Change). After row k after → after ≡ row) (eqb row.note.kind 0 && reads_codes cnd) (λ _ x. absurd x) (λ _ x. x) a

  -- the condition that holds on an edge narrows to a row that matches
  module _ (w : ℕ) (b : Bicc) (c : Core) (ck : CoreOk t.policy h c) (row : Row) (fit : Fitted t.policy h row c) where
    narrowed : (taken : Bool) → cond_holds b.cond c.registers.codes.value ≡ taken
        → LeftMatches t.policy.regions.count t.policy.regions.sizes h (narrow_row (edge_of w (Branch b) taken).narrowing row) (held_of t.policy c)
    narrowed true e =
        narrows_row t.policy.regions.count t.policy.regions.sizes h b.cond row (held_of t.policy c) (held_small t.policy c ck.words ck.bytes) fit.rules fit.matches e
    narrowed false e =
        narrows_row t.policy.regions.count t.policy.regions.sizes h (opposite_of b.cond) row (held_of t.policy c) (held_small t.policy c ck.words ck.bytes) fit.rules fit.matches
        (opposite_holds b.cond c.registers.codes.value ∙ ap not e)

  branch-step : (w : ℕ) (b : Bicc) (c : Core) → CoreOk t.policy h c → At t h w c → word w ≡ Read (Branch b)
      → (reads_codes b.cond ≡ true → c.registers.codes.set ≡ true) × StepGood t h c (branch_step (record { control = go_to w; core = c }) b)
  branch-step w b c ck at q =
      let m = looks w c at (Read (Branch b)) q in
      let s = codes-set (row_at t.rows w) c b.cond at.fitted m.after m.change in (
        s,
        rw (read (reads_codes b.cond) c.registers.codes.set s)
            (edge_followed w c ck (Branch b) q refl at (row_at t.rows w)
            (subst (λ (r : Row). passes (edges t.policy t.rows t.result w (Read (Branch b)) (word (w + 1)) r) ≡ true)
            (branch_after (row_at t.rows w) m.after b.cond m.change) m.passed)
            (cond_holds b.cond c.registers.codes.value) (decided b.cond c.registers.codes.value (cond_holds b.cond c.registers.codes.value) refl)
            (narrowed w b c ck (row_at t.rows w) at.fitted (cond_holds b.cond c.registers.codes.value) refl)),
      )
    where
      read : (x y : Bool) → (x ≡ true → y ≡ true) → (x && not y) ≡ false
      read true y s = ap not (s refl)
      read false y s = refl

  -- the return finds the return address in r15, and keeps the row
  return_held : (row after : Row) (c : Core) → CoreOk t.policy h c → Fitted t.policy h row c → After row (return_change (entry_at row link)) after
      → (is_set c.registers link ≡ true) × (value_of c.registers link ≡ returns) × (after ≡ row)
  unfolding return_change
  return_held row after c ck f =
      cond_both (λ (k : Change). After row k after → R) (is_unset (entry_at row link)) (λ _ x. absurd x)
      λ u. cond_both (λ (k : Change). After row k after → R) (is_return (entry_at row link))
      (λ r x. let m = register_held t.policy h row c ck f link (omega arith) u in (m.0, held_return r m.1, x)) (λ _ x. absurd x)
    where
      R : Type 0
      R = (is_set c.registers link ≡ true) × (value_of c.registers link ≡ returns) × (after ≡ row)

  return-step : (w : ℕ) (c : Core) → CoreOk t.policy h c → At t h w c → word w ≡ Read Return
      → ((is_set c.registers link ≡ true) × (value_of c.registers link ≡ returns)) × StepGood t h c (return_step returns (record { control = go_to w; core = c }))
  return-step w c ck at q =
      let m = looks w c at (Read Return) q in
      let r = return_held (row_at t.rows w) m.after c ck at.fitted m.change in
      let here : LeftMatches t.policy.regions.count t.policy.regions.sizes h (left (row_at t.rows w)) (held_of t.policy c) = (at.fitted.rules, at.fitted.matches) in (
        (r.0, r.1),
        rw (r.0, eq-eqb (value_of c.registers link % 4) 0 (ap (λ (v : ℕ). v % 4) r.1 ∙ four), eq-eqb (value_of c.registers link) returns r.1)
            (edge_followed w c ck Return q refl at (row_at t.rows w)
            (subst (λ (x : Row). passes (edges t.policy t.rows t.result w (Read Return) (word (w + 1)) x) ≡ true) r.2 m.passed) true refl
            (subst (λ (n : RowLeft). LeftMatches t.policy.regions.count t.policy.regions.sizes h n (held_of t.policy c)) (sym (unnarrowed (row_at t.rows w))) here)),
      )

  abbrev Steps : Core → Reading → Step → Type 0
  Steps c x s = ReadingSafe t.policy h c.registers x × StepGood t h c s

  -- a word with nothing pending
  free_step : (w : ℕ) (c : Core) → CoreOk t.policy h c → At t h w c → (x : Reading) → word w ≡ x
      → Steps c x (step_with l returns (record { control = go_to w; core = c }) x)
  free_step w c ck at (Unread n) q = unread w n at.inside q
  free_step w c ck at (Read (Plain x)) q = plain_step_lem (go_to w) x c (subst ReadingSound q (sound w)) ck (plain_due w x c q at)
  free_step w c ck at (Read (Branch b)) q = branch-step w b c ck at q
  free_step w c ck at (Read Return) q = return-step w c ck at q

  -- a word in a slot
  slot_step : (w : ℕ) (d : Destination) (c : Core) → CoreOk t.policy h c → (s : SlotDue t h (word w) d c)
      → Steps c (word w) (step_with l returns (record { control = record { at = record { 0 = w }; pending = Some d }; core = c }) (word w))
  slot_step w d c ck s =
      subst (λ (x : Reading). Steps c x (step_with l returns (record { control = record { at = record { 0 = w }; pending = Some d }; core = c }) x)) (sym s.is)
      (plain_step_lem (record { at = record { 0 = w }; pending = Some d }) s.operation c (subst ReadingSound s.is (sound w)) ck s.due)

  ready_step : (w : ℕ) (c : Core) (k : Option Destination) → CoreOk t.policy h c → Ready t h w c k
      → Steps c (word w) (step_with l returns (record { control = record { at = record { 0 = w }; pending = k }; core = c }) (word w))
  ready_step w c None ck r = free_step w c ck r (word w) refl
  ready_step w c (Some d) ck r = slot_step w d c ck r

  -- one step
  pub step_sound : (st : State) → Invariant t h st
      → Steps st.core (word st.control.at.0) (step_of (record { layout = l; readings = t.readings; returns = returns }) st)
  unfolding step_of
  step_sound st i = ready_step st.control.at.0 st.core st.control.pending i.core i.ready
