-- `in_frame` meets its contract: its three tests are those of the definition, and the offset of a scratch word is one.
use Rattle.access.specs.Locate.{scratch_in}
use Rattle.access.proofs.locate.in_frame.Goals as goal

pub returns-then-is_scratch : goal.returns-then-is_scratch
unfolding scratch_in
returns-then-is_scratch c = rw (← c.is_word.ensures, ← c.is_scratch.ensures, c.if-is_word-frame.true, c.if-is_scratch.true, c.scratch_at.ensures.0)

pub returns-else-is_scratch : goal.returns-else-is_scratch
unfolding scratch_in
returns-else-is_scratch c = rw (← c.is_word.ensures, ← c.is_scratch.ensures, c.if-is_word-frame.true, c.if-is_scratch.false)

pub returns-else-is_word-frame : goal.returns-else-is_word-frame
unfolding scratch_in
returns-else-is_word-frame c = rw (← c.is_word.ensures, c.if-is_word-frame.false)
