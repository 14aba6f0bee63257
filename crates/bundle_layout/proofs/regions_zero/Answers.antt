-- Every region is tested, by the definition's test.
use mathlib.Core.Path.{refl, ap, ◌∙◌}
use native.Mathlib.Omega.{arith}
use Rattle.std.proofs.Common.{rules, tests}
use Rattle.std.proofs.lemmas.Iterator.{YieldsList-from_range}
use Rattle.std.proofs.lemmas.Iterator.Search.{all_from_yields_List}
use Rattle.v8.specs.Search.{all}
use Rattle.bundle_layout.specs.Layout.{region_zero}
use Rattle.bundle_layout.proofs.Below.{all_below}
use Rattle.bundle_layout.proofs.regions_zero.Goals as goal

pub returns : goal.returns
returns c =
    let test = region_zero c.args.bytes.now in
    all_from_yields_List test _ _ _ c.all.ensures.ran (YieldsList-from_range 0 _ c.region_count.result refl (omega arith)) (λ x b q k. search (rules, tests))
    ∙ all_below test c.region_count.result
    ∙ ap (all test) c.region_count.ensures.0
