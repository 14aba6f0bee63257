-- Where the check refuses nothing is run; where it accepts the run is the run. Either way what is given is the checked run, which holds to
-- demand 3.
use mathlib.Core.Path.{◌≡◌}
use Rattle.machine.specs.Run.{refused}
use Rattle.guarantee_run.specs.Checked.{Checked, checked_run_of}
use Rattle.guarantee_run.proofs.Accepted.{refused_left, accepted_left, holds_to}
use Rattle.guarantee_run.proofs.checked_run.Goals as goal

pub returns-then-answer-ne-ACCEPTED : goal.returns-then-answer-ne-ACCEPTED
returns-then-answer-ne-ACCEPTED c =
    let a = c.args in
    let r = c.check-answer.result in
    let ran : ◌≡◌ {A = Checked}
    (record { answer = r; run = refused r.number c.unset_scratch.new.self a.memory.now })
    (checked_run_of a.edition a.policy.now a.words.now a.rows.now a.entry.now a.res.now a.bases.now a.returns a.frame a.registers a.allowance a.memory.now) =
    rw c.unset_scratch.ensures (refused_left _ _ _ _ _ c.check-answer.ensures c.if-answer-ne-ACCEPTED.true) in
    record { ran = ran; guaranteed = holds_to _ _ _ _ _ _ _ _ _ _ _ _ _ ran }

pub returns : goal.returns
returns c =
    let ran = accepted_left _ _ _ _ _ _ c.check-answer.ensures c.run-outcome.ensures.ran c.if-answer-ne-ACCEPTED.false in
    record { ran = ran; guaranteed = holds_to _ _ _ _ _ _ _ _ _ _ _ _ _ ran }
