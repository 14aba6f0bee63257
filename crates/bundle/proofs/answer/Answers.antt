-- `answer` meets its contract: the refusal of what is opened, or the check of what it holds, by its version.
use mathlib.Core.Path.{sym, ◌∙◌}
use borrow.Author.Tests.{ne_eqb}
use Rattle.bundle.proofs.Lent.{refused_is}
use Rattle.bundle.proofs.answer.Goals as goal

pub returns-then-opened-ne-ACCEPTED : goal.returns-then-opened-ne-ACCEPTED
returns-then-opened-ne-ACCEPTED c = c.refuse.ensures ∙ refused_is _ _ _ c.open-opened.ensures.opened (ne_eqb _ _ c.if-opened-ne-ACCEPTED.true)

pub check_narrow-requires : goal.check_narrow-requires
check_narrow-requires c = let opened = c.open-opened.ensures in
    ((opened.opened, c.if-opened-ne-ACCEPTED.false), opened.places, sym c.is_narrow.ensures ∙ c.if-is_narrow.true)

pub check_wide-requires : goal.check_wide-requires
check_wide-requires c = let opened = c.open-opened.ensures in
    ((opened.opened, c.if-opened-ne-ACCEPTED.false), opened.places, sym c.is_narrow.ensures ∙ c.if-is_narrow.false)
