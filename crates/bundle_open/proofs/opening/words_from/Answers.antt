-- `words_from` meets its contract. Invariant: the array holds the first i words.
use mathlib.Core.Path.{refl, sym, ◌∙◌}
use native.Mathlib.Nat.{le_antisymm}
use native.Mathlib.Omega.{arith}
use lib.ListN.{length-set}
use borrow.Author.Rules.{rules}
use Rattle.bundle_open.proofs.Words.{held_more}
use Rattle.bundle_open.proofs.opening.words_from.Goals as goal

pub loop-i-init : goal.loop-i-init
loop-i-init c = (search rules, refl, refl)

pub loop-i-preserved : goal.loop-i-preserved
loop-i-preserved c = let ws = c.loop-i.words in
    let i = c.loop-i.i in
    let inv = c.loop-i.invariant in (
      search rules,
      inv.1 ∙ sym (length-set ws i _),
      held_more _ _ i _ ws (omega arith) inv.2 c.word_at.ensures,
    )

pub returns : goal.returns
returns c = let inv = c.loop-i.invariant in rw (← le_antisymm inv.0 c.loop-i-test.false) inv.2
