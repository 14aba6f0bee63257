use mathlib.Core.Path.{◌≡◌}
use lib.ListN.{length}
use Rattle.v8.specs.Numbers.{most_words}
use Rattle.flow_code.specs.Lent.{code_of}
use Rattle.flow_code.proofs.Examined.{Targeted}
use Rattle.flow_code.proofs.examine_all.Given as goal

abbrev pub invariant-loop-i : goal.invariant-loop-i
invariant-loop-i l = (length l.marks ≡ most_words) × Targeted (code_of l.readings l.count) l.marks l.i
