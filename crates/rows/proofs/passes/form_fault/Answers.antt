-- `form_fault` meets its contract: the search through the places finds the lowest badly formed one.
use mathlib.Core.Bool.{true, false}
use mathlib.Core.Path.{◌≡◌}
use borrow.Author.Rules.{rules}
use borrow.Author.Tests.{tests}
use Rattle.std.proofs.lemmas.Iterator.{first_from_Range}
use Rattle.rows.specs.Row.{broken_at, form_fault}
use Rattle.rows.proofs.LowestFlaw.{flaw_found}
use Rattle.rows.proofs.passes.form_fault.Goals as goal

pub returns : goal.returns
unfolding form_fault
returns c =
    let a = c.args in
    let broken = broken_at a.regions.now.count a.regions.now.sizes a.bytes.now a.at in
    flaw_found broken _
    (first_from_Range _ _ _ _ (λ i. broken i ≡ true) (λ i. broken i ≡ false) c.find.ensures.ran
    (λ x q k. search (rules, tests))
    (λ x q k. search (rules, tests)))
