-- `widen_row` meets its contract: the registers' entries, zeros and the note are written one after the other.
use Rattle.bundle_rows.proofs.Written.{row_written}
use Rattle.bundle_rows.proofs.widen_row.Goals as goal

pub returns : goal.returns
returns c =
    row_written _ _ _ _ _ _ _ c.requires.0 c.requires.1 c.copy_from_slice.ensures.after (c.fill.ensures.after (λ v e. e)) c.copy_from_slice-2.ensures.after
