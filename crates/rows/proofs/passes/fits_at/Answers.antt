-- `fits_at` meets its contract: the note where its place is named, else the entry that the place names.
use borrow.Author.Tests.{ne_eqb}
use Rattle.rows.proofs.RowFit.{fits_entry, fits_note_named}
use Rattle.rows.proofs.passes.fits_at.Goals as goal

pub returns-then-place-eq-NOTE_NAME : goal.returns-then-place-eq-NOTE_NAME
returns-then-place-eq-NOTE_NAME c =
    rw (fits_note_named _ _ _ _ c.if-place-eq-NOTE_NAME.true, ← c.read_note.ensures) c.fits_note.ensures

pub returns : goal.returns
returns c =
    let i = c.entry_named-i.ensures in
    rw (fits_entry _ _ _ _ _ (ne_eqb _ _ c.if-place-eq-NOTE_NAME.false) i.0 i.1, ← c.read_entry-asked.ensures) c.fits.ensures
