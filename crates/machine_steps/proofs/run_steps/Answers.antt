-- The run is the run of what is left: after some steps, the whole run is the run from the state that they left, with what is left of
-- the allowance. That is the measure too. Each way through the loop's body ends a step as the definition says: on to the next state,
-- returned, or stopped at a fault; an access is done first, or meets a fault.
use Prim.Native.Nat.{ℕ}
use mathlib.Core.Path.{◌≡◌, refl, sym, ap, subst, ◌∙◌}
use mathlib.Core.List.{List}
use native.Mathlib.Omega.{arith}
use Rattle.v8.specs.declared.Reading.{Reading}
use Rattle.access.specs.Layout.{layout_of}
use Rattle.flow_code.proofs.Fetched.{array_has, past_array}
use Rattle.step.specs.Setting.{Setting}
use Rattle.step.specs.Step.{State}
use Rattle.step.specs.Lent.{core_of}
use Rattle.machine_access.specs.Covered.{Covers}
use Rattle.machine_steps.specs.Steps.{run_from, setting_of}
use Rattle.machine_steps.proofs.Loop.{Turned, Accessed, turn_first, turn_spent, turn_outside, turn_goes, turn_returned, turn_stopped, turn_missed, turn_moved, turn_left}
use Rattle.machine_steps.proofs.run_steps.Invariants.{setting_read}
use Rattle.machine_steps.proofs.run_steps.Goals as goal
use Rattle.machine_steps.proofs.run_steps.Goals.{After-access_to, After-one_step-r, After-read_all-readings}

-- the setting of the run is that of the words
run-as : (r : After-read_all-readings) (n k : ℕ) (st : State)
    → run_from (setting_read r.args.policy.now r.args.words.now r.args.bases.now r.args.returns r.args.frame r.read_all-readings.result) n k st
    ≡ run_from (setting_of r.args.edition r.args.policy.now r.args.words.now r.args.bases.now r.args.returns r.args.frame) n k st
run-as r n k st =
    ap (λ (code : List Reading). run_from (record { layout = layout_of r.args.policy.now r.args.bases.now r.args.frame; readings = code; returns = r.args.returns }) n k st)
    r.read_all-readings.ensures.is

-- Seen from after the step of a turn: the setting, the state at the turn's begin, and what the turn has shown.
abbrev setting : After-one_step-r → Setting
setting o = setting_read o.args.policy.now o.args.words.now o.args.bases.now o.args.returns o.args.frame o.read_all-readings.result

abbrev began : After-one_step-r → State
began o = record { control = o.loop-steps.control; core = core_of o.loop-steps.registers o.loop-steps.memory }

turned : (o : After-one_step-r) → Turned (setting o) o.args.allowance o.loop-steps.steps (began o) o.one_step-r.result o.one_step-r.new.registers
turned o =
    record {
      allowed = o.loop-steps-test.true;
      word = _;
      fetched = array_has o.read_all-readings.result _ o.read_all-readings.ensures.formed o.loop-steps.control.at.0 _ o.if-i-ge-MOST_WORDS.false;
      says = o.one_step-r.ensures _ _;
    }

-- Seen from after an access: what it has shown, the turn before it having shown t.
accessed : (m : After-access_to)
    → Turned
    (setting_read m.args.policy.now m.args.words.now m.args.bases.now m.args.returns m.args.frame m.read_all-readings.result)
    m.args.allowance
    m.loop-steps.steps
    (record { control = m.loop-steps.control; core = core_of m.loop-steps.registers m.loop-steps.memory })
    m.one_step-r.result
    m.one_step-r.new.registers
    → Accessed
    (setting_read m.args.policy.now m.args.words.now m.args.bases.now m.args.returns m.args.frame m.read_all-readings.result)
    m.args.allowance
    m.loop-steps.steps
    (record { control = m.loop-steps.control; core = core_of m.loop-steps.registers m.loop-steps.memory })
    m.access_to.result
    (core_of m.access_to.new.registers m.access_to.new.memory)
accessed m t =
    record {
      went = m.one_step-r.result;
      after = _;
      turned = t;
      access = _;
      rd = _;
      address = _;
      asks = m.in-Accesses.is;
      moves = m.access_to.ensures;
    }

pub read_all-readings-requires : goal.read_all-readings-requires
read_all-readings-requires c = c.requires.0

pub loop-steps-init : goal.loop-steps-init
loop-steps-init c = (omega arith, refl, turn_first _ _ _)

pub returns-then-i-ge-MOST_WORDS : goal.returns-then-i-ge-MOST_WORDS
returns-then-i-ge-MOST_WORDS c =
    let r = (goal.at.returns-then-i-ge-MOST_WORDS c).After-read_all-readings in
    let outside = past_array c.read_all-readings.result _ c.read_all-readings.ensures.formed c.loop-steps.control.at.0 c.if-i-ge-MOST_WORDS.true in
    let run = turn_outside (setting_read c.args.policy.now c.args.words.now c.args.bases.now c.args.returns c.args.frame c.read_all-readings.result) _ _ (record { control = c.loop-steps.control; core = core_of c.loop-steps.registers c.loop-steps.memory }) (sym outside) c.loop-steps-test.true in
    rw c.end_after.ensures (sym (c.loop-steps.invariant.2 ∙ run) ∙ run-as r _ _ _)

pub loop-steps-preserved-in-Goes : goal.loop-steps-preserved-in-Goes
loop-steps-preserved-in-Goes c =
    let t = turned (goal.at.loop-steps-preserved-in-Goes c).After-one_step-r in
    (omega (arith, c.loop-steps-test.true), c.loop-steps.invariant.1, c.loop-steps.invariant.2 ∙ turn_goes t c.in-Goes.is)

pub returns-in-Returned : goal.returns-in-Returned
returns-in-Returned c =
    let at = goal.at.returns-in-Returned c in
    rw c.end_after-in-Returned.ensures (sym (c.loop-steps.invariant.2 ∙ turn_returned (turned at.After-one_step-r) c.in-Returned.is) ∙ run-as at.After-read_all-readings _ _ _)

pub returns-in-Stopped : goal.returns-in-Stopped
returns-in-Stopped c =
    let at = goal.at.returns-in-Stopped c in
    rw c.end_after-in-Stopped.ensures (sym (c.loop-steps.invariant.2 ∙ turn_stopped (turned at.After-one_step-r) _ c.in-Stopped.is) ∙ run-as at.After-read_all-readings _ _ _)

pub access_to-requires : goal.access_to-requires
access_to-requires c =
    let fits = c.requires.1 in
    (fits.few, fits.based, subst (Covers (layout_of c.args.policy.now c.args.bases.now c.args.frame)) (sym c.loop-steps.invariant.1) fits.covers)

pub returns-in-Missed : goal.returns-in-Missed
returns-in-Missed c =
    let at = goal.at.returns-in-Missed c in
    let a = accessed at.After-access_to (turned at.After-one_step-r) in
    rw c.end_after-in-Missed.ensures (sym (c.loop-steps.invariant.2 ∙ turn_missed a _ c.in-Missed.is) ∙ run-as at.After-read_all-readings _ _ _)

pub loop-steps-preserved : goal.loop-steps-preserved
loop-steps-preserved c =
    let at = goal.at.loop-steps-preserved c in
    let a = accessed at.After-access_to (turned at.After-one_step-r) in
    let to = sym c.due.ensures ∙ c.in-To.is in
    (omega (arith, c.loop-steps-test.true), c.access_to.auto.memory ∙ c.loop-steps.invariant.1, c.loop-steps.invariant.2 ∙ turn_moved a _ c.in-Done.is to)

pub returns-in-Caller : goal.returns-in-Caller
returns-in-Caller c =
    let at = goal.at.returns-in-Caller c in
    let a = accessed at.After-access_to (turned at.After-one_step-r) in
    let to = sym c.due.ensures ∙ c.in-Caller.is in
    rw c.end_after-in-Caller.ensures (sym (c.loop-steps.invariant.2 ∙ turn_left a c.in-Done.is to) ∙ run-as at.After-read_all-readings _ _ _)

pub returns : goal.returns
returns c =
    let r = (goal.at.returns c).After-read_all-readings in
    rw c.end_after-2.ensures (sym (c.loop-steps.invariant.2 ∙ turn_spent _ _ _ _ c.loop-steps-test.false) ∙ run-as r _ _ _)
