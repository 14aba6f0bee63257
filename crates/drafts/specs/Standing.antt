-- Rows that say nothing.
use Rattle.std.specs.Prelude.{replicate}
use Rattle.v8.specs.Signed.{bias}
use Rattle.rows.specs.declared.Note.{Note}
use Rattle.rows.specs.declared.Row.{Row}
use Rattle.rows.specs.Geometry.{entry_count}
use Rattle.joins.specs.Join.{unset}

-- the note that nothing is known of the codes
abbrev pub no_note : Note
no_note = record { kind = 0; register = 0; number = bias }

-- a row that is not there: all is unset, r0 too
abbrev pub no_row : Row
no_row = record { entries = replicate entry_count unset; note = no_note }
