-- The inner loop's invariant: the search from the present place on gives the lowest badly formed place of the row. The outer loop's: the
-- pass from the present word on gives the answer of the whole pass.
use mathlib.Core.Path.{refl, sym, ap, ◌∙◌}
use mathlib.Core.Bool.{not}
use native.Mathlib.Omega.{arith}
use Rattle.v8.specs.Numbers.{bad_row}
use Rattle.rows.specs.Row.{form_fault}
use Rattle.rows.proofs.LowestFlaw.{flaw_here, flaw_next, flaw_end}
use Rattle.passes.specs.Answer.{accepted, refuse}
use Rattle.passes.proofs.Passing.{pass_start, pass_here, pass_next, pass_end, row_broken, row_formed}
use Rattle.passes.proofs.words.row_pass.Goals as goal
use Rattle.passes.proofs.words.row_pass.Goals.{else-rows-test, then-rows-test+then-loop-place-test+then-not-formed_at}

pub rows-init : goal.rows-init
rows-init c = (omega arith, pass_start _ _)

pub loop-place-init : goal.loop-place-init
unfolding form_fault
loop-place-init c = (omega arith, refl)

pub loop-place-preserved : goal.loop-place-preserved
loop-place-preserved c =
    let formed = ap not (sym c.formed_at.ensures ∙ c.if-not-formed_at.false) in
    (omega arith, c.loop-place.invariant.1 ∙ flaw_next _ _ c.loop-place-test.true formed)

pub rows-preserved : goal.rows-preserved
rows-preserved c =
    let a = c.args in
    let none = c.loop-place.invariant.1 ∙ flaw_end _ _ c.loop-place-test.false in
    let formed = row_formed a.policy.now a.rows.now _ none in
    (omega arith, c.rows.invariant.1 ∙ pass_next _ _ _ accepted formed c.rows-test.true refl)

pub returns-then-at-count : goal.returns-then-at-count
returns-then-at-count c =
    let a = c.args in
    c.refuse.ensures
    ∙ elim c.rows-test.branch [
      | else-rows-test w ↦ absurd (omega arith)
      | then-rows-test+then-loop-place-test+then-not-formed_at w ↦
          let lowest = w.loop-place.invariant.1 ∙ flaw_here _ _ w.loop-place-test.true (ap not (sym w.formed_at.ensures ∙ w.if-not-formed_at.true)) in
          let broken = row_broken a.policy.now a.rows.now _ _ lowest in
          ap (refuse bad_row c.rows.at.0) w.place-is ∙ sym (c.rows.invariant.1 ∙ pass_here _ _ _ _ broken w.rows-test.true (λ z. absurd (omega (arith, z))))
    ]

pub returns : goal.returns
returns c =
    c.accept.ensures ∙ sym (c.rows.invariant.1 ∙ pass_end _ _ _ c.if-at-count.false)
