-- `show_listing` is safe: the words that it lends lie in their array.
use mathlib.Core.Path.{sym}
use native.Mathlib.Omega.{arith}
use lib.Seq.{length-take-le}
use Rattle.kindlines.proofs.lines.show_listing.Goals as goal

pub slice_bounds-show_words-end : goal.slice_bounds-show_words-end
slice_bounds-show_words-end c = let opened = c.open-opened in
    let places = opened.ensures.places in
    sym (length-take-le opened.result.count opened.result.words (omega (arith, places.0, places.1)))
