-- What is fitted at each place of a row against the row in the bytes.
use Prim.Native.Nat.{ℕ, ◌<◌}
use mathlib.Core.Bool.{false}
use mathlib.Core.List.{List}
use mathlib.Core.Path.{◌≡◌}
use borrow.Author.Tests.{lt-ltb}
use lib.Dec.{eqb}
use lib.ListN.{get_or}
use Rattle.rows.specs.declared.Row.{Row}
use Rattle.rows.specs.Entry.{no_entry, fits, fits_note}
use Rattle.rows.specs.Geometry.{entry_count, note_name, entry_named, entry_start, note_start}
use Rattle.rows.specs.Row.{entry_at, entry_of, note_of, row_of, fits_at}
use Rattle.rows.proofs.ReadRows.{entry_read_lem}

-- an entry that there is
pub entry_held : (row : Row) (i : ℕ) → i < entry_count → entry_at row i ≡ get_or row.entries i no_entry
unfolding entry_at
entry_held row i l = rw (lt-ltb _ _ l)

module _ (row : Row) (bytes : List ℕ) (at : ℕ) where
  -- an entry against the one at its place
  pub fits_entry :
      (place i : ℕ) → eqb place note_name ≡ false → i ≡ entry_named place → i < entry_count
      → fits_at row (row_of bytes at) place ≡ fits (get_or row.entries i no_entry) (entry_of bytes (entry_start at i))
  unfolding fits_at
  fits_entry place i e n l = rw (e, ← n, entry_held row i l, entry_read_lem bytes at i l)

  -- the note against the one in the bytes
  pub fits_note_named : (place : ℕ) → place ≡ note_name → fits_at row (row_of bytes at) place ≡ fits_note row.note (note_of bytes (note_start at))
  unfolding fits_at row_of
  fits_note_named place e = rw e
