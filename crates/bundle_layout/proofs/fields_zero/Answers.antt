-- Every field is tested, by the definition's test.
use mathlib.Core.Path.{refl, ap, ◌∙◌}
use native.Mathlib.Omega.{arith}
use Rattle.std.proofs.Common.{rules, tests}
use Rattle.std.proofs.lemmas.Iterator.{YieldsList-from_range}
use Rattle.std.proofs.lemmas.Iterator.Search.{all_from_yields_List}
use Rattle.v8.specs.Search.{all}
use Rattle.bundle_layout.specs.Layout.{field_zero}
use Rattle.bundle_layout.proofs.Below.{all_below}
use Rattle.bundle_layout.proofs.fields_zero.Goals as goal

pub returns : goal.returns
returns c =
    let test = field_zero c.args.bytes.now in
    all_from_yields_List test _ _ _ c.all.ensures.ran (YieldsList-from_range 0 _ c.field_total.result refl (omega arith)) (λ x b q k. search (rules, tests))
    ∙ all_below test c.field_total.result
    ∙ ap (all test) c.field_total.ensures.0
