-- The loop's invariant: the pass from the present word on gives the answer of the whole pass, and whether the word is a slot is known.
use mathlib.Core.Path.{sym, ◌∙◌}
use Rattle.flow_code.proofs.Examined.{first_free}
use Rattle.passes.proofs.Passing.{pass_start, pass_here, pass_next, pass_end, flow_here, slot_here}
use Rattle.passes.proofs.words.flow_pass.Goals as goal

pub loop-i-init : goal.loop-i-init
loop-i-init c = (sym (first_free _), pass_start _ _)

pub returns-then-found-ne-ACCEPTED : goal.returns-then-found-ne-ACCEPTED
returns-then-found-ne-ACCEPTED c =
    let here = flow_here _ _ c.requires.0 _ c.loop-i-test.true _ _ _ _ c.requires.1 c.loop-i.invariant.0 c.flow_at-found.ensures in
    sym (c.loop-i.invariant.1 ∙ pass_here _ _ _ _ here c.loop-i-test.true c.if-found-ne-ACCEPTED.true)

pub loop-i-preserved : goal.loop-i-preserved
loop-i-preserved c =
    let here = flow_here _ _ c.requires.0 _ c.loop-i-test.true _ _ _ _ c.requires.1 c.loop-i.invariant.0 c.flow_at-found.ensures in
    let slot = slot_here _ _ c.requires.0 _ c.loop-i-test.true _ _ c.transfers-in_slot.ensures in
    (slot, c.loop-i.invariant.1 ∙ pass_next _ _ _ _ here c.loop-i-test.true c.if-found-ne-ACCEPTED.false)

pub returns : goal.returns
returns c = c.accept.ensures ∙ sym (c.loop-i.invariant.1 ∙ pass_end _ _ _ c.loop-i-test.false)
