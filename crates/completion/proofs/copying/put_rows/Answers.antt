-- `put_rows` meets its contract. Invariant: i rows are put.
use mathlib.Core.Path.{refl}
use native.Mathlib.Omega.{arith}
use native.Mathlib.Nat.{mul-le-mul_left, mul-add, mul-one}
use borrow.Author.Rules.{rules}
use Rattle.completion.proofs.Keeping.{none_put, more_put, all_put}
use Rattle.completion.proofs.copying.put_rows.Goals as goal

pub loop-i-init : goal.loop-i-init
loop-i-init c = (refl, none_put c.args.size _ _)

pub put_row-requires : goal.put_row-requires
put_row-requires c =
    let i = c.loop-i.i in
    let more = mul-le-mul_left c.args.size (c.loop-i-test.true) in
    let one = mul-add c.args.size i 1 in
    let unit = mul-one c.args.size in (
      omega (arith, c.told-rows, c.requires.0, c.loop-i-test.true),
      omega (arith, more, one, unit, c.requires.1, c.loop-i.invariant.0),
      c.requires.2,
      c.requires.3,
    )

pub loop-i-preserved : goal.loop-i-preserved
loop-i-preserved c =
    let l = c.loop-i in
    (search rules, more_put c.args.size l.i _ _ l.bytes _ l.invariant.1 c.put_row.ensures)

pub returns : goal.returns
returns c = let l = c.loop-i in
    all_put c.args.size _ l.i _ _ _ (omega (arith, c.loop-i-test.false, l.auto.i-end)) l.invariant.1
