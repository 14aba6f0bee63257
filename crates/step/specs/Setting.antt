-- What a run is set in: how policy and host have laid the memory, the words as they are read, and the return address.
use Rattle.std.specs.Prelude.{ℕ, List}
use Rattle.v8.specs.declared.Reading.{Reading}
use Rattle.access.specs.Layout.{Layout}

pub record Setting : Type 0 where
  pub layout : Layout
  pub readings : List Reading
  pub returns : ℕ
