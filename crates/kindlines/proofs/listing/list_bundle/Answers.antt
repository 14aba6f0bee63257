-- `list_bundle` meets its contract: the refusal of what is opened, or the listing of what it holds, by its version.
use mathlib.Core.Path.{sym, ◌∙◌}
use borrow.Author.Tests.{ne_eqb}
use Rattle.kindlines.proofs.Lent.{unlisted_is}
use Rattle.kindlines.proofs.listing.list_bundle.Goals as goal

pub returns-then-opened-ne-ACCEPTED : goal.returns-then-opened-ne-ACCEPTED
returns-then-opened-ne-ACCEPTED c = rw c.refuse.ensures (unlisted_is _ _ _ _ c.open-opened.ensures.opened (ne_eqb _ _ c.if-opened-ne-ACCEPTED.true))

pub list_narrow-requires : goal.list_narrow-requires
list_narrow-requires c = let opened = c.open-opened.ensures in
    ((opened.opened, c.if-opened-ne-ACCEPTED.false), opened.places, sym c.is_narrow.ensures ∙ c.if-is_narrow.true)

pub list_wide-requires : goal.list_wide-requires
list_wide-requires c = let opened = c.open-opened.ensures in
    ((opened.opened, c.if-opened-ne-ACCEPTED.false), opened.places, sym c.is_narrow.ensures ∙ c.if-is_narrow.false)
