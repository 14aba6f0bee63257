use mathlib.Core.Path.{◌≡◌}
use lib.ListN.{length}
use Rattle.v8.specs.Numbers.{most_words}
use Rattle.flow_code.proofs.Filled.{Filled}
use Rattle.flow_code.proofs.read_all.Given as goal

abbrev pub invariant-loop-i : goal.invariant-loop-i
invariant-loop-i l = (length l.readings ≡ most_words) × Filled l.edition l.words l.readings l.i
