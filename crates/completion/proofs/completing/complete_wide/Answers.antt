-- `complete_wide` meets its contract: the rows are copied, found, and put where they are missing.
use mathlib.Core.Path.{◌≡◌, sym, ◌∙◌}
use Prim.Native.Nat.{◌*◌, ◌-◌}
use native.Mathlib.Omega.{arith}
use lib.Seq.{length-take-le}
use borrow.Author.Rules.{rules}
use Rattle.std.proofs.lemmas.List.{length-drop}
use Rattle.rows.specs.Geometry.{row_bytes}
use Rattle.completion.proofs.Keeping.{wide_laid}
use Rattle.completion.proofs.completing.complete_wide.Goals as goal

pub copy_from_slice-requires : goal.copy_from_slice-requires
copy_from_slice-requires c = let pre = c.requires in
    let places = pre.1 in
    let o = c.args.opened.now in
    let same : row_bytes * o.count ≡ o.end - o.rows = omega (arith, wide_laid _ _ pre.0 pre.2) in
    length-take-le (row_bytes * o.count) _ (search rules) ∙ same
    ∙ sym (length-take-le (o.end - o.rows) _ (omega (arith, length-drop o.rows c.args.bytes.now, places.5, places.6)))

pub put_rows-requires : goal.put_rows-requires
put_rows-requires c = let pre = c.requires in
    let places = pre.1 in
    (places.1, omega (arith, wide_laid _ _ pre.0 pre.2, places.6), omega arith, omega arith)
