-- The three routines, passed through the check. What the words are is read by computation, and their flow too. Rows that all equal the entry row
-- are well formed as it is, and it fits each of them, since it fits itself. A transfer followed by a nop leaves the row as it was: the nop changes
-- nothing, and neither does the condition always. So the row arrives as it left. One nop alone has no next word, which the flow refuses.
use Rattle.std.specs.Prelude.{None}
use Prim.Native.Nat.{ℕ, zero, suc, ◌+◌, ◌*◌, ◌<◌}
use mathlib.Core.Path.{◌≡◌, refl, sym, ap, subst, ◌∙◌}
use mathlib.Core.Bool.{true, false, and-false}
use mathlib.Core.List.{List, [], ◌∷◌}
use native.Mathlib.Omega.{arith}
use lib.ListN.{length}
use Rattle.v8.specs.Search.{any, first, lowest}
use Rattle.v8.specs.Numbers.{bad_row, entry_misfit}
use Rattle.v8.specs.Read.{reading_of}
use Rattle.v8.specs.declared.Edition.{Edition}
use Rattle.v8.specs.declared.Reading.{Reading}
use Rattle.v8.proofs.Worked.{nop_read, return_read, always_read}
use Rattle.alu.specs.Result.{sethi_of}
use Rattle.alu.specs.Condition.{condition_of}
use Rattle.policy.specs.declared.Policy.{Policy}
use Rattle.memory.specs.Memory.{byte_at}
use Rattle.flow_edges.specs.Transfer.{slot_runs, target_of}
use Rattle.flow_code.specs.Readings.{transfers, is_slot, is_target}
use Rattle.flow.specs.Flow.{flow_of}
use Rattle.rows.specs.Entry.{is_return, constant, fits}
use Rattle.rows.specs.Geometry.{row_bytes}
use Rattle.rows.specs.Row.{entry_at, entry_of, row_of, form_fault, misfit}
use Rattle.rows.proofs.Tests.{other_kind}
use Rattle.rules.specs.Change.{branch_change, return_change}
use Rattle.rules.specs.Narrow.{narrow_row}
use Rattle.passes.specs.Answer.{accepted, refuse, passes, pass_of}
use Rattle.checker.specs.Routine.{Routine, routine_of}
use Rattle.passes_shape.specs.Shape.{shape_ok}
use Rattle.passes.specs.Passes.{row_pass, read_pass, flow_then, flow_pass, entry_pass}
use Rattle.checker.specs.Passes.{cross, narrowed_edge, word_pass, check_of}
use Rattle.claims.specs.Claims.{nop, return_word, always_here, WellFormedEntry, AllRowsEqual, ReturnThenNop, OneNop, LoopAccepted}
use Rattle.claims.proofs.Agreeing.{Agree, same_row}
use Rattle.claims.proofs.Passing.{unless_none, formed_too, all_pass, flow_answers, all_accept}
use Rattle.claims.proofs.Keeping.{row_self, nop_keeps}

-- what holds of word 0 holds of each of one word; and of two
below_one : (P : ℕ → Type 0) → P 0 → (w : ℕ) → w < 1 → P w
below_one P a zero l = a
below_one P a (suc w) l = absurd (omega arith)

below_two : (P : ℕ → Type 0) → P 0 → P 1 → (w : ℕ) → w < 2 → P w
below_two P a b zero l = a
below_two P a b (suc zero) l = b
below_two P a b (suc (suc w)) l = absurd (omega arith)

-- a word whose row is well formed passes 1
row_passes : (p : Policy) (rows : List ℕ) (w : ℕ) → form_fault p.regions.count p.regions.sizes rows (row_bytes * w) ≡ None → passes (row_pass p rows w) ≡ true
unfolding row_pass
row_passes p rows w e = ap passes (unless_none bad_row w (form_fault p.regions.count p.regions.sizes rows (row_bytes * w)) e)

module _ (v : Edition) (p : Policy) (rows entry result : List ℕ) (f : WellFormedEntry p entry result) where
  module _ (long : length rows ≡ row_bytes) (formed : form_fault p.regions.count p.regions.sizes rows 0 ≡ None) where
    abbrev alone : Routine
    alone = routine_of v p (nop ∷ []) rows entry result

    alone_shape : shape_ok p 1 rows entry result ≡ true
    unfolding shape_ok
    alone_shape = rw (long, f.entry_long, f.result_long, f.entry-formed, f.entry_unset, f.result_formed)

    alone_rows : pass_of (row_pass p rows) 1 ≡ accepted
    alone_rows = all_pass (row_pass p rows) 1 (below_one (λ (w : ℕ). passes (row_pass p rows w) ≡ true) (row_passes p rows 0 formed))

    alone_reads : pass_of (read_pass alone.readings) 1 ≡ accepted
    unfolding pass_of first lowest read_pass
    alone_reads = rw (nop_read v)

    alone_flow : pass_of (flow_pass alone.readings) 1 ≡ refuse 3 0 0
    unfolding pass_of first lowest flow_pass is_slot
    alone_flow = rw (nop_read v)

    alone_answer : check_of v p (nop ∷ []) rows entry result ≡ refuse 3 0 0
    unfolding check_of
    alone_answer = flow_answers alone f.policy alone_shape alone_rows alone_reads (refuse 3 0 0) alone_flow refl

pub one-nop : OneNop
one-nop v p rows entry result f long formed = alone_answer v p rows entry result f long formed

-- a transfer, then a nop in its slot, both rows equal to the entry row
module _ (v : Edition) (p : Policy) (rows entry result : List ℕ) (f : WellFormedEntry p entry result) (e : AllRowsEqual rows entry 2) where
  agree : (w : ℕ) → w < 2 → Agree rows entry (row_bytes * w) 0 row_bytes
  agree w l j b = e.same w j l b ∙ ap (byte_at entry) (none j)
    where
      none : (k : ℕ) → k ≡ 0 + k
      none k = omega arith

  -- each row is the entry row, and well formed
  row_is : (w : ℕ) → w < 2 → row_of rows (row_bytes * w) ≡ row_of entry 0
  row_is w l = same_row rows entry (row_bytes * w) 0 (agree w l)

  row_formed : (w : ℕ) → w < 2 → form_fault p.regions.count p.regions.sizes rows (row_bytes * w) ≡ None
  row_formed w l = formed_too p.regions.count p.regions.sizes rows entry (row_bytes * w) 0 (agree w l) f.entry-formed

  -- the entry row fits row 0
  entry_fits : misfit (row_of entry 0) (row_of rows (row_bytes * 0)) ≡ None
  entry_fits = rw (row_is 0 (omega arith)) (row_self p.regions.count p.regions.sizes entry 0 f.entry-formed)

  module _ (word : ℕ) where
    abbrev pair : Routine
    pair = routine_of v p (word ∷ nop ∷ []) rows entry result

    pair_shape : shape_ok p 2 rows entry result ≡ true
    unfolding shape_ok
    pair_shape = rw (e.long, f.entry_long, f.result_long, f.entry-formed, f.entry_unset, f.result_formed)

    pair-rows : pass_of (row_pass p rows) 2 ≡ accepted
    pair-rows = all_pass (row_pass p rows) 2 (λ w l. row_passes p rows w (row_formed w l))

    pair_entry : entry_pass rows entry ≡ accepted
    unfolding entry_pass
    pair_entry = unless_none entry_misfit 0 (misfit (row_of entry 0) (row_of rows (row_bytes * 0))) entry_fits

    -- a transfer that passes each pass makes a routine that does: its slot is read, is no transfer, and no taken edge lands on it
    module _ (reads : passes (read_pass pair.readings 0) ≡ true) (slot : transfers (reading_of v word) ≡ true) (off : is_target pair.readings 1 ≡ false)
        (flows : passes (flow_pass pair.readings 0) ≡ true) (accepts : passes (word_pass p pair.readings rows result 0) ≡ true) where
      slot_reads : passes (read_pass pair.readings 1) ≡ true
      unfolding read_pass
      slot_reads = rw (nop_read v)

      slot_flows : passes (flow_pass pair.readings 1) ≡ true
      unfolding flow_pass is_slot
      slot_flows = subst (λ (x : Reading). passes (flow_then (flow_of pair.readings 1 x) 1 x) ≡ true) (sym (nop_read v)) (rw (off, slot))

      slot_accepts : passes (word_pass p pair.readings rows result 1) ≡ true
      unfolding word_pass is_slot
      slot_accepts = rw (off, slot)

      pair_answer : check_of v p (word ∷ nop ∷ []) rows entry result ≡ accepted
      unfolding check_of
      pair_answer =
          all_accept pair f.policy pair_shape pair-rows
          (all_pass (read_pass pair.readings) 2 (below_two (λ (w : ℕ). passes (read_pass pair.readings w) ≡ true) reads slot_reads))
          (all_pass (flow_pass pair.readings) 2 (below_two (λ (w : ℕ). passes (flow_pass pair.readings w) ≡ true) flows slot_flows))
          pair_entry
          (all_pass (word_pass p pair.readings rows result) 2 (below_two (λ (w : ℕ). passes (word_pass p pair.readings rows result w) ≡ true) accepts slot_accepts))

  -- the return
  module _ (links : is_return (entry_at (row_of entry 0) 15) ≡ true) (fitting : fits (entry_at (row_of entry 0) 8) (entry_of result 0) ≡ true) where
    abbrev home : Routine
    home = routine_of v p (return_word ∷ nop ∷ []) rows entry result

    return_reads : passes (read_pass home.readings 0) ≡ true
    unfolding read_pass
    return_reads = rw (return_read v)

    return_flows : passes (flow_pass home.readings 0) ≡ true
    unfolding flow_pass is_slot
    return_flows = rw (return_read v)

    return_accepts : passes (word_pass p home.readings rows result 0) ≡ true
    unfolding word_pass is_slot narrowed_edge narrow_row cross return_change
    return_accepts =
        rw (
          (return_read v),
          (nop_read v),
          row_is 0 (omega arith),
          other_kind (entry_at (row_of entry 0) 15).kind 4 0 links (λ x. omega arith),
          links,
          nop_keeps p.regions.count p.regions.sizes entry 0 f.entry-formed (constant (sethi_of 0)),
          fitting,
        )

    return_off : is_target home.readings 1 ≡ false
    unfolding is_target any
    return_off = rw ((return_read v), (nop_read v))

    return_answer : check_of v p (return_word ∷ nop ∷ []) rows entry result ≡ accepted
    return_answer = pair_answer return_word return_reads (rw (return_read v)) return_off return_flows return_accepts

  -- the branch
  abbrev loop : Routine
  loop = routine_of v p (always_here ∷ nop ∷ []) rows entry result

  loop_reads : passes (read_pass loop.readings 0) ≡ true
  unfolding read_pass
  loop_reads = rw (always_read v)

  loop_flows : passes (flow_pass loop.readings 0) ≡ true
  unfolding flow_pass is_slot target_of
  loop_flows = rw (always_read v)

  loop_accepts : passes (word_pass p loop.readings rows result 0) ≡ true
  unfolding word_pass is_slot narrowed_edge narrow_row cross branch_change condition_of slot_runs target_of
  loop_accepts =
      rw (
        (always_read v),
        (nop_read v),
        row_is 0 (omega arith),
        and-false,
        nop_keeps p.regions.count p.regions.sizes entry 0 f.entry-formed (constant (sethi_of 0)),
        entry_fits,
      )

  loop_off : is_target loop.readings 1 ≡ false
  unfolding is_target any target_of
  loop_off = rw ((always_read v), (nop_read v))

  loop_answer : check_of v p (always_here ∷ nop ∷ []) rows entry result ≡ accepted
  loop_answer = pair_answer always_here loop_reads (rw (always_read v)) loop_off loop_flows loop_accepts

pub return-then-nop : ReturnThenNop
return-then-nop v p rows entry result f e links fitting = return_answer v p rows entry result f e links fitting

pub loop-accepted : LoopAccepted
loop-accepted v p rows entry result f e = loop_answer v p rows entry result f e
