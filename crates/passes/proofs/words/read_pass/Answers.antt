-- The loop's invariant: the pass from the present word on gives the answer of the whole pass.
use mathlib.Core.Path.{sym, ◌∙◌}
use Rattle.passes.proofs.Passing.{pass_start, pass_here, pass_next, pass_end, read_here}
use Rattle.passes.proofs.words.read_pass.Goals as goal

pub loop-i-init : goal.loop-i-init
loop-i-init c = pass_start _ _

pub returns-then-found-ne-ACCEPTED : goal.returns-then-found-ne-ACCEPTED
returns-then-found-ne-ACCEPTED c =
    let here = read_here _ _ c.requires _ c.loop-i-test.true _ _ c.if_read-found.ensures in
    sym (c.loop-i.invariant ∙ pass_here _ _ _ _ here c.loop-i-test.true c.if-found-ne-ACCEPTED.true)

pub loop-i-preserved : goal.loop-i-preserved
loop-i-preserved c =
    let here = read_here _ _ c.requires _ c.loop-i-test.true _ _ c.if_read-found.ensures in
    c.loop-i.invariant ∙ pass_next _ _ _ _ here c.loop-i-test.true c.if-found-ne-ACCEPTED.false

pub returns : goal.returns
returns c = c.accept.ensures ∙ sym (c.loop-i.invariant ∙ pass_end _ _ _ c.loop-i-test.false)
