-- The array has what the first words are read as, after each turn one more.
use mathlib.Core.Path.{refl}
use native.Mathlib.Omega.{arith}
use Rattle.v8.specs.Numbers.{most_words}
use Rattle.flow_code.proofs.Filled.{none_filled, all_filled}
use Rattle.flow_code.proofs.read_all.Goals as goal

pub loop-i-init : goal.loop-i-init
loop-i-init c = (refl, none_filled c.args.edition c.args.words.now most_words)

pub returns : goal.returns
returns c =
    let l = c.loop-i in
    all_filled c.args.edition c.args.words.now l.readings l.i l.invariant.0 c.requires l.invariant.1 (omega arith)
