-- `show_answer` is safe: what is opened lies in its bytes, by its version.
use mathlib.Core.Path.{sym, ◌∙◌}
use Rattle.about.proofs.refusals.show_answer.Goals as goal

pub show_narrow-requires : goal.show_narrow-requires
show_narrow-requires c = let opened = c.open-opened.ensures in
    ((opened.opened, c.if-opened-ne-ACCEPTED.false), opened.places, sym c.is_narrow.ensures ∙ c.if-is_narrow.true)
