-- The loop's invariant: the pass from the present word on gives the answer of the whole pass.
use mathlib.Core.Path.{◌≡◌, sym, ◌∙◌}
use native.Mathlib.Omega.{arith}
use Rattle.flow_code.specs.Lent.{code_of}
use Rattle.checker.specs.Passes.{word_pass}
use Rattle.passes.proofs.Passing.{pass_start, pass_here, pass_next, pass_end}
use Rattle.checker.proofs.Passing.{word_here, word_ready}
use Rattle.checker.proofs.looking.word_pass.Goals as goal
use Rattle.checker.proofs.looking.word_pass.Goals.{After-word_in-found}

-- what the loop finds at a word is what the pass answers there
found : (c : After-word_in-found)
    → c.word_in-found.result ≡ word_pass c.args.policy.now (code_of c.args.readings.now c.args.count) c.args.rows.now c.args.res.now c.loop-i.i
found c =
    word_here _ _ c.requires.0 _ c.loop-i-test.true _ _ c.requires.1 _ _ _ _ _ c.reading_at-slot.ensures c.word_in-found.ensures

pub loop-i-init : goal.loop-i-init
loop-i-init c = pass_start _ _

pub word_in-found-requires : goal.word_in-found-requires
word_in-found-requires c =
    let ready = word_ready _ _ c.requires.0 _ c.loop-i-test.true _ _ c.requires.1 _ c.requires.2 c.requires.4 in
    (omega (arith, c.requires.0.most), c.requires.3, omega (arith, c.requires.2), ready)

pub returns-then-found-ne-ACCEPTED : goal.returns-then-found-ne-ACCEPTED
returns-then-found-ne-ACCEPTED c =
    sym (c.loop-i.invariant ∙ pass_here _ _ _ _ (found (goal.at.returns-then-found-ne-ACCEPTED c).After-word_in-found) c.loop-i-test.true c.if-found-ne-ACCEPTED.true)

pub loop-i-preserved : goal.loop-i-preserved
loop-i-preserved c =
    c.loop-i.invariant ∙ pass_next _ _ _ _ (found (goal.at.loop-i-preserved c).After-word_in-found) c.loop-i-test.true c.if-found-ne-ACCEPTED.false

pub returns : goal.returns
returns c = c.accept.ensures ∙ sym (c.loop-i.invariant ∙ pass_end _ _ _ c.loop-i-test.false)
