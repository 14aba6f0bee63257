-- The table is raised word by word (Closing); what is left falls with each.
use Prim.Native.Nat.{◌+◌, ◌<◌}
use mathlib.Core.Path.{◌≡◌, refl, sym, ap, ◌∙◌}
use mathlib.Core.Bool.{Bool, true, false, ◌&&◌, and-false}
use mathlib.Core.List.{List}
use native.Mathlib.Omega.{arith}
use lib.ListN.{length, get_or}
use Rattle.v8.specs.declared.Operation.TheVariants.{Sethi}
use Rattle.v8.specs.declared.Instruction.TheVariants.{Plain}
use Rattle.v8.specs.declared.Reading.TheVariants.{Read}
use Rattle.flow_code.specs.Lent.{code_of}
use Rattle.flow_code.proofs.Fetched.{array_has, at_index, code_count}
use Rattle.lister_rules.specs.Table.{raised_at}
use Rattle.lister_rules.specs.Work.{is_pending}
use Rattle.lister.proofs.Closing.{Raises, left, raises_start, raises_over, goes_on, raises_end}
use Rattle.lister.proofs.raising.raise_until_closed.Goals as goal
use Rattle.lister.proofs.raising.raise_until_closed.Goals.{After-pass_on, else-work-w-via-then-work-w+else-examined-w, else-work-w-via-else-work-w}

-- the word passes on what it sends
abbrev At : After-pass_on → Type 0
At c =
    let code = code_of c.args.readings.now c.args.count in
    let to = c.pass_on.new.self in
    Raises code c.args.entry.now to.table to.pending to.next
    × (left code c.args.entry.now to.table to.next < left code c.args.entry.now c.loop-work.work.table c.loop-work.work.next)

on : (c : After-pass_on) → At c
on c =
    let l = c.loop-work in
    let readings = c.args.readings.now in
    let count = code_count readings c.args.count c.requires.1 in
    let inside : l.work.next < length (code_of readings c.args.count) = omega (arith, c.loop-work-test.true, count) in
    goes_on _ c.args.entry.now l.work.pending l.work.next _ c.pass_on.new.self _ c.reading_at-slot.result
    (omega (arith, c.requires.1.most, count)) inside l.invariant.1
    (sym (c.requires.2 l.work.next inside) ∙ c.if-examined-w.true)
    (array_has readings c.args.count c.requires.1 l.work.next (Read (Plain (Sethi 0 0))) (omega (arith, c.loop-work-test.true, c.requires.1.most)))
    (c.reading_at-slot.ensures ∙ at_index readings c.args.count c.requires.1 (l.work.next + 1))
    refl refl
    (rw (count, ← l.invariant.0) c.pass_on.ensures.table)
    c.pass_on.ensures.worked

pub loop-work-init : goal.loop-work-init
loop-work-init c =
    let count = code_count c.args.readings.now c.args.count c.requires.1 in (
      refl,
      raises_start _ c.args.entry.now _ _ (omega (arith, c.requires.0, count)) (omega (arith, c.requires.1.most, count))
          c.raise_at.ensures.table c.entry_marks.ensures,
    )

pub loop-work-preserved : goal.loop-work-preserved
loop-work-preserved c =
    let l = c.loop-work in
    let inside : l.work.next < length (code_of c.args.readings.now c.args.count) = omega (arith, c.loop-work-test.true, code_count c.args.readings.now c.args.count c.requires.1) in
    let examined = c.requires.2 l.work.next inside in (
      l.invariant.0,
      raises_over _ c.args.entry.now l.work.table l.work.pending l.work.next l.invariant.1
          (elim c.else-work-w.branch [
            | else-work-w-via-then-work-w+else-examined-w w ↦ rw (← examined, w.if-examined-w.false, and-false)
            | else-work-w-via-else-work-w w ↦ rw w.if-work-w.false
          ]),
    )

pub loop-work-smaller-then-examined-w : goal.loop-work-smaller-then-examined-w
loop-work-smaller-then-examined-w c = (on (goal.at.loop-work-smaller-then-examined-w c).After-pass_on).1

pub loop-work-preserved-then-examined-w : goal.loop-work-preserved-then-examined-w
loop-work-preserved-then-examined-w c =
    (c.pass_on.ensures.worked.count ∙ c.loop-work.invariant.0, (on (goal.at.loop-work-preserved-then-examined-w c).After-pass_on).0)

pub returns : goal.returns
returns c =
    let l = c.loop-work in
    let count = code_count c.args.readings.now c.args.count c.requires.1 in
    raises_end _ c.args.entry.now l.work.table l.work.pending l.work.next (omega (arith, c.requires.1.most, count)) l.invariant.1 (omega (arith, c.loop-work-test.false, count))
