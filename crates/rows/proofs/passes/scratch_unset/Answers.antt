-- `scratch_unset` meets its contract: every scratch word's entry is unset, or some one is not.
use mathlib.Core.Bool.{true, false}
use mathlib.Core.Path.{◌≡◌, refl}
use borrow.Author.Rules.{rules}
use borrow.Author.Tests.{tests}
use Rattle.std.proofs.lemmas.Iterator.{cases_from_all, YieldsList-from_range}
use Rattle.rows.specs.Row.{scratch_unset_at, scratch_unset}
use Rattle.rows.proofs.LowestFlaw.{all_found}
use Rattle.rows.proofs.passes.scratch_unset.Goals as goal

pub returns : goal.returns
unfolding scratch_unset
returns c =
    let a = c.args in
    let unset = scratch_unset_at a.bytes.now a.at in
    all_found unset 6 _
    (cases_from_all _ _ _ (λ i. unset i ≡ true) (λ i. unset i ≡ false) c.all.ensures.ran (YieldsList-from_range 0 6 6 refl refl)
    (λ x q k. search (rules, tests))
    (λ x q k. search (rules, tests)))
