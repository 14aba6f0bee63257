-- `complete` meets its contract: whatever was found, the bundle is answered last; and no row that was there is written, nor what
-- stands before the rows.
use mathlib.Core.Path.{sym, ◌∙◌}
use Rattle.completion.proofs.Keeping.{all_kept, wide_kept, narrow_kept}
use Rattle.completion.proofs.completing.complete.Goals as goal

pub returns-then-opened-ne-ACCEPTED : goal.returns-then-opened-ne-ACCEPTED
returns-then-opened-ne-ACCEPTED c =
    record { answered = c.answer.ensures; kept = all_kept _ }

pub complete_narrow-requires : goal.complete_narrow-requires
complete_narrow-requires c = let opened = c.open-opened.ensures in
    ((opened.opened, c.if-opened-ne-ACCEPTED.false), opened.places, sym c.is_narrow.ensures ∙ c.if-is_narrow.true)

pub returns-then-is_narrow : goal.returns-then-is_narrow
returns-then-is_narrow c =
    record {
      answered = c.answer-then-is_narrow.ensures;
      kept = narrow_kept _ _ _ (c.open-opened.ensures.opened, c.if-opened-ne-ACCEPTED.false) (sym c.is_narrow.ensures ∙ c.if-is_narrow.true)
          c.complete_narrow.ensures;
    }

pub complete_wide-requires : goal.complete_wide-requires
complete_wide-requires c = let opened = c.open-opened.ensures in
    ((opened.opened, c.if-opened-ne-ACCEPTED.false), opened.places, sym c.is_narrow.ensures ∙ c.if-is_narrow.false)

pub returns : goal.returns
returns c =
    record {
      answered = c.answer-2.ensures;
      kept = wide_kept _ _ _ (c.open-opened.ensures.opened, c.if-opened-ne-ACCEPTED.false) (sym c.is_narrow.ensures ∙ c.if-is_narrow.false)
          c.complete_wide.ensures;
    }
