-- The digits are copied behind what was before; a number of 64 bits has at most 20.
use Prim.Native.Nat.{◌≤◌}
use mathlib.Core.Path.{ap, ◌∙◌}
use mathlib.Core.List.{List, ◌++◌}
use native.Mathlib.Omega.{arith}
use lib.ListN.{take, length}
use lib.Seq.{length-take-le}
use Rattle.std.proofs.lemmas.Slice.{take-put_mid}
use borrow.Author.Rules.{rules}
use Rattle.output.proofs.Places.{at-most}
use Rattle.output.proofs.line.put_number.Goals as goal
use Rattle.output.proofs.line.put_number.Goals.{After-decimal-k}

most : (c : After-decimal-k) → c.decimal-k.result ≤ 20
most c = at-most c.args.n _ (search rules) c.decimal-k.ensures.len

pub returns : goal.returns
returns c =
    let k = most (goal.at.returns c).After-decimal-k in
    let copied = c.copy_from_slice.ensures.after in
    let long = ap length copied ∙ length-take-le c.decimal-k.result c.decimal-k.new.out (omega (arith, k, c.decimal-k.array_long)) in
    record {
      next = omega (arith, k);
      text = record {
        added = take c.decimal-k.result c.decimal-k.new.out;
        decimal = record { places = c.decimal-k.result; fewest = c.decimal-k.ensures.len; spelled = c.decimal-k.ensures.digits };
        whole = take-put_mid c.args.at _ c.args.text.now c.copy_from_slice.new.self _ (omega (arith, long)) (omega arith) ∙ ap (λ (xs : List _). take c.args.at c.args.text.now ++ xs) copied;
      };
    }
