-- What an accepted check shows: each pass accepts, and of a pass over the words each word does.
use Prim.Native.Nat.{ℕ, ◌+◌}
use mathlib.Core.Path.{◌≡◌, refl, ap}
use mathlib.Core.Bool.{Bool, true}
use Rattle.v8.specs.Numbers.{bad_policy, bad_shape}
use Rattle.flow_code.specs.Readings.{reading_at, examined}
use Rattle.policy.specs.Policy.{policy_ok}
use Rattle.rows.specs.Row.{form_fault}
use Rattle.rows.proofs.LowestFlaw.{flawless_none}
use Rattle.passes.specs.Answer.{passes, pass_of}
use Rattle.passes.specs.Passes.{policy_pass, shape_pass, row_pass, read_pass, flow_pass, entry_pass}
use Rattle.passes_shape.specs.Shape.{shape_ok}
use Rattle.checker.specs.Routine.{Routine, routine_of, count}
use Rattle.checker.specs.Passes.{look, word_pass, answer_of, check_of}
use Rattle.checker.specs.Laws.{Checked, Accepts}
use Rattle.passes_shape.proofs.Started.{shape_started}
use Rattle.passes.proofs.Accepting.{both_pass, need_holds, each_passes, flow_holds, callers-left, row_holds, entry_holds, result_holds}

module _ (t : Routine) where
  word_passes : (w : ℕ) → passes (word_pass t.policy t.readings t.rows t.result w) ≡ true → examined t.readings w ≡ true
      → passes (look t.policy t.rows t.result w (reading_at t.readings w) (reading_at t.readings (w + 1))) ≡ true
  unfolding word_pass
  word_passes w e x = rw x at e

  abbrev shapes : Bool
  shapes = shape_ok t.policy (count t) t.rows t.entry t.result

  pub checked : passes (answer_of t) ≡ true → Checked t
  unfolding answer_of
  checked e =
      let a = both_pass (policy_pass t.policy) _ e in
      let b = both_pass (shape_pass t.policy (count t) t.rows t.entry t.result) _ a.1 in
      let c = both_pass (pass_of (row_pass t.policy t.rows) (count t)) _ b.1 in
      let d = both_pass (pass_of (read_pass t.readings) (count t)) _ c.1 in
      let f = both_pass (pass_of (flow_pass t.readings) (count t)) _ d.1 in
      let words = word_pass t.policy t.readings t.rows t.result in
      let g = both_pass (entry_pass t.rows t.entry) (pass_of words (count t)) f.1 in
      let right = need_holds shapes bad_shape 0 0 refl b.0 in
      let s = shape_started t.policy (count t) t.rows t.entry t.result right in
      record {
        policy = need_holds (policy_ok t.policy) bad_policy 0 0 refl a.0;
        some = s.some;
        most = s.most;
        entry-formed = flawless_none (form_fault t.policy.regions.count t.policy.regions.sizes t.entry 0) s.formed;
        entry_unset = s.unset;
        result_formed = result_holds t.policy (count t) t.rows t.entry t.result right;
        rows_formed = λ w l. row_holds t.policy t.rows w (each_passes (row_pass t.policy t.rows) (count t) c.0 w l);
        reads = each_passes (read_pass t.readings) (count t) d.0;
        flows = λ w l. flow_holds t.readings w (each_passes (flow_pass t.readings) (count t) f.0 w l);
        leaves = λ w l. callers-left t.readings w (each_passes (flow_pass t.readings) (count t) f.0 w l);
        entry = entry_holds t.rows t.entry g.0;
        words = λ w l x. word_passes w (each_passes words (count t) g.1 w l) x;
      }

pub accepts : Accepts
unfolding check_of
accepts e p words rows entry result a = checked (routine_of e p words rows entry result) (ap passes a)
