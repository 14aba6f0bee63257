use Prim.Native.Nat.{◌≤◌}
use mathlib.Core.Path.{◌≡◌}
use lib.ListN.{length}
use Rattle.bundle_layout.specs.Layout.{most_given}
use Rattle.bundle_open.specs.Open.{words_held}
use Rattle.bundle_open.proofs.opening.words_from.Given as goal

abbrev pub invariant-loop-i : goal.invariant-loop-i
invariant-loop-i l = (l.i ≤ l.count) × (most_given ≡ length l.words) × (l.words ≡ words_held l.bytes l.at l.i)
