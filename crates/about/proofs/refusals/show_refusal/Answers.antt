-- `show_refusal` is safe: the words that it lends lie in their array.
use mathlib.Core.Path.{sym}
use native.Mathlib.Omega.{arith}
use lib.Seq.{length-take-le}
use Rattle.about.proofs.refusals.show_refusal.Goals as goal

pub slice_bounds-show_named-end : goal.slice_bounds-show_named-end
slice_bounds-show_named-end c = let opened = c.args.opened.now in
    let places = c.requires in
    sym (length-take-le opened.count opened.words (omega (arith, places.0, places.1)))
