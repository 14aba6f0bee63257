-- `misfit` meets its contract: the search through the places finds the lowest that does not fit.
use mathlib.Core.Bool.{true, false}
use mathlib.Core.Path.{◌≡◌}
use borrow.Author.Rules.{rules}
use borrow.Author.Tests.{tests}
use Rattle.std.proofs.lemmas.Iterator.{first_from_Range}
use Rattle.rows.specs.Row.{row_of, misfits_at, misfit}
use Rattle.rows.proofs.LowestFlaw.{flaw_found}
use Rattle.rows.proofs.passes.misfit.Goals as goal

pub returns : goal.returns
unfolding misfit
returns c =
    let a = c.args in
    let broken = misfits_at a.row (row_of a.bytes.now a.at) in
    flaw_found broken _
    (first_from_Range _ _ _ _ (λ i. broken i ≡ true) (λ i. broken i ≡ false) c.find.ensures.ran
    (λ x q k. search (rules, tests))
    (λ x q k. search (rules, tests)))
