-- `read_row` meets its contract: each entry is the one that is read at its place.
use native.Mathlib.Nat.{zero-add}
use borrow.Author.Rules.{rules}
use borrow.Author.Tests.{tests}
use Rattle.rows.specs.Entry.{no_entry}
use Rattle.rows.specs.Geometry.{entry_count, entry_start}
use Rattle.rows.specs.Row.{entry_of, row_of}
use Rattle.rows.proofs.ReadRows.{filled, read_all}
use Rattle.rows.proofs.reading.read_row.Goals as goal

pub returns : goal.returns
unfolding row_of
returns c =
    let a = c.args in
    let made = c.from_fn.ensures.items in
    let read = filled _ (λ i. entry_of a.bytes.now (entry_start a.at i)) c.from_fn.result no_entry
    (λ x y q k. search (rules, tests)) entry_count 0 made.each in
    rw (read_all a.bytes.now a.at c.from_fn.result made.long (λ i l. simp zero-add at (read i l)), c.read_note.ensures)
