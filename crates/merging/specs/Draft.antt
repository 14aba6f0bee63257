-- Rows in draft before anything is found.
use Rattle.std.specs.Prelude.{◌*◌, false, None, replicate}
use Rattle.v8.specs.Numbers.{most_words}
use Rattle.rows.specs.Geometry.{entry_count}
use Rattle.drafts.specs.Standing.{no_row}
use Rattle.merging.specs.declared.merging.Draft.{Draft}
use Rattle.merging.specs.declared.merging.Growth.{Growth}

-- the growth of an entry that has not grown
abbrev pub not_grown : Growth
not_grown = record { times = 0; way = None }

-- no row is there, none has changed, no word compares with a number, and no entry has grown
abbrev pub new_draft : Draft
new_draft =
    record {
      rows = replicate most_words no_row;
      pending = replicate most_words false;
      bounds = replicate most_words None;
      growths = replicate (most_words * entry_count) not_grown;
    }
