-- The loop's invariant: the marks so far are those of the entries' kinds.
use mathlib.Core.Path.{refl, ap, ◌∙◌}
use native.Mathlib.Nat.{not-suc-le-zero}
use native.Mathlib.Omega.{arith}
use lib.ListN.{length-set}
use Rattle.rows.specs.declared.Entry.{Entry}
use Rattle.rows.specs.Row.{entry_of}
use Rattle.marks.specs.Marks.{register_count, mark_of_kind}
use Rattle.marks.proofs.Values.{has_more, has_all}
use Rattle.lister_rules.specs.Rules.{entry_marks}
use Rattle.lister_rules.proofs.table.entry_marks.Goals as goal

pub loop-r-init : goal.loop-r-init
loop-r-init c = (omega arith, refl, λ k l. absurd (not-suc-le-zero l))

pub loop-r-preserved : goal.loop-r-preserved
loop-r-preserved c =
    let l = c.loop-r in
    let t = c.loop-r-test.true in
    (omega (arith, t), length-set l.marks l.r _ ∙ l.invariant.1, has_more _ l.r _ l.marks (omega (arith, l.invariant.1, t)) (c.mark_of_kind.ensures ∙ ap (λ (e : Entry). mark_of_kind e.kind) (c.read_entry-e.ensures ∙ ap (entry_of _) (omega arith))) l.invariant.2)

pub returns : goal.returns
unfolding entry_marks
returns c =
    let l = c.loop-r in
    has_all _ register_count l.marks l.invariant.1 (λ q b. l.invariant.2 q (omega (arith, b, c.loop-r-test.false)))
