-- A run that is not refused has a policy that obeys the rules and is laid right, so that its steps can be run; refused, it changes nothing. The six scratch words are
-- unset either way.
use mathlib.Core.Path.{◌≡◌, sym, ap, ◌∙◌}
use native.Mathlib.Omega.{arith}
use Rattle.policy.proofs.WellFormed.{obeys}
use Rattle.machine_steps.specs.Steps.{Run}
use Rattle.machine.specs.Run.{end_number, refused, run_of}
use Rattle.machine_steps.specs.Ended.{ran_of}
use Rattle.machine.proofs.Begun.{begun, refused_run}
use Rattle.machine.proofs.Covered.{based, covers}
use Rattle.machine.proofs.run.Goals as goal

-- the same run has the same number
same_number : {run ran : Run} → run ≡ ran → end_number run.outcome.end ≡ end_number ran.outcome.end
same_number e = ap (λ (r : Run). end_number r.outcome.end) e

pub returns-then-number-ne-ACCEPTED : goal.returns-then-number-ne-ACCEPTED
unfolding run_of
returns-then-number-ne-ACCEPTED c =
    let a = c.args in
    let n = c.refusal-number.result in
    let ran : refused n c.unset_scratch.new.self a.memory.now
    ≡ run_of a.edition a.policy.now a.words.now a.bases.now a.returns a.frame a.registers a.allowance a.memory.now =
    rw (← c.refusal-number.ensures, c.unset_scratch.ensures) (sym (refused_run n _ _ _ c.if-number-ne-ACCEPTED.true)) in
    record { ran = ran; number = same_number ran }

pub run_steps-r-requires : goal.run_steps-r-requires
run_steps-r-requires c =
    let refusal = c.refusal-number in
    let policy = c.args.policy.now in
    let passed = begun _ _ _ _ _ _ (sym refusal.ensures ∙ c.if-number-ne-ACCEPTED.false) in
    let count = based policy _ _ _ _ passed.placed in
    (passed.most, record { few = (obeys _ passed.ok).regions_most; based = omega (arith, count); covers = covers _ _ _ _ _ passed.placed passed.ok })

pub returns : goal.returns
unfolding run_of
returns c =
    let a = c.args in
    let r = c.run_steps-r in
    let ran : ran_of r.result r.new.registers r.new.memory
    ≡ run_of a.edition a.policy.now a.words.now a.bases.now a.returns a.frame a.registers a.allowance a.memory.now =
    rw (sym c.refusal-number.ensures ∙ c.if-number-ne-ACCEPTED.false, ← c.unset_scratch-2.ensures) r.ensures in
    record { ran = ran; number = same_number ran }
