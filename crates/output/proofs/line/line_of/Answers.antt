-- Each part of the line is put after those before it; 64 bytes are room for three numbers of 20 digits.
use Prim.Native.Nat.{ℕ, ◌≤◌}
use mathlib.Core.Path.{sym}
use mathlib.Core.List.{List}
use lib.ListN.{length}
use lib.Seq.{length-take-le}
use Rattle.io.specs.Counts.{IsPrefixLen}
use Rattle.output.proofs.Lined.{lined}
use borrow.Author.Rules.{rules}
use Rattle.output.proofs.line.line_of.Goals as goal

-- bytes within an array are counted
counted : (n : ℕ) (xs : List ℕ) → n ≤ length xs → IsPrefixLen n xs
counted n xs h = (h, sym (length-take-le n xs h))

pub returns : goal.returns
returns c = (
  counted _ _ (search rules),
  lined _ _ _ _ _ _ _ _ _ c.put_number-first.ensures.text c.put_byte-second.ensures.text c.put_number-third.ensures.text c.put_byte-fourth.ensures.text c.put_number-fifth.ensures.text c.put_byte-count.ensures.text,
)
