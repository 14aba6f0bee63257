-- What is filled with unset marks is what is made unset one by one.
use mathlib.Core.Path.{◌≡◌, refl, sym, ap, ◌∙◌}
use mathlib.Core.Bool.{Bool, false}
use mathlib.Core.List.{List}
use native.Mathlib.Omega.{arith}
use Rattle.std.proofs.lemmas.Grind.{common_steps}
use lib.ListN.{length, replicate}
use borrow.Rule.Slice.PartMut.{mid_of}
use Rattle.std.proofs.lemmas.Slice.{put_mid-paste}
use Rattle.step.proofs.ScratchMarks.{unset_paste}
use Rattle.step.proofs.Registers.unset_scratch.Goals as goal

pub returns : goal.returns
returns c =
    let g = c.args.self.now in
    let six : length (mid_of 32 6 g.marks) ≡ 6 = grind (arith, common_steps) in
    let unset = rw six at (c.fill.ensures.after (λ y e. e)) in
    let filled = put_mid-paste 32 6 g.marks c.fill.new.self (replicate 6 false) 6 unset refl refl in
    ap (λ (marks : List Bool). record { values = g.values; marks = marks; codes = g.codes }) (filled ∙ sym (unset_paste 6 32 g.marks (omega arith)))
