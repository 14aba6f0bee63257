-- Where the other passes accept, the check answers as the flow pass and the pass over the words do.
use mathlib.Core.Path.{◌≡◌, ap, ◌∙◌}
use Rattle.passes.specs.declared.Answer.{Answer}
use Rattle.passes.specs.Answer.{accepted, and_then, pass_of}
use Rattle.checker.specs.Routine.{Routine, count}
use Rattle.passes.specs.Passes.{policy_pass, shape_pass, row_pass, read_pass, flow_pass, entry_pass}
use Rattle.checker.specs.Passes.{word_pass, answer_of}
use Rattle.slotrows.specs.Case.{two_passes, OthersAccept}

-- a pass that accepts is passed by
past : (a b : Answer) → a ≡ accepted → and_then a b ≡ b
past a b p = ap (λ (x : Answer). and_then x b) p

pub passes_answer : (t : Routine) → OthersAccept t → answer_of t ≡ two_passes t
unfolding answer_of
passes_answer t o =
    past (policy_pass t.policy) _ o.allowed
    ∙ past (shape_pass t.policy (count t) t.rows t.entry t.result) _ o.shaped
    ∙ past (pass_of (row_pass t.policy t.rows) (count t)) _ o.formed
    ∙ past (pass_of (read_pass t.readings) (count t)) _ o.readable
    ∙ ap (λ (x : Answer). and_then (pass_of (flow_pass t.readings) (count t)) x)
    (past (entry_pass t.rows t.entry) (pass_of (word_pass t.policy t.readings t.rows t.result) (count t)) o.entered)
