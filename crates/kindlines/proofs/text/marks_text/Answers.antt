-- The text is written place by place. Invariant: the places before k are those of the definition. Measure: the places left.
use Prim.Native.Nat.{ℕ, ◌≤◌}
use mathlib.Core.Path.{◌≡◌, refl, sym, ◌∙◌}
use mathlib.Core.List.{List}
use native.Mathlib.Nat.{le_antisymm, not-suc-le-zero}
use native.Mathlib.Omega.{arith}
use lib.ListN.{length, length-set}
use borrow.Author.Rules.{rules}
use Rattle.marks.specs.Marks.{values_from}
use Rattle.marks.proofs.Values.{HasTo, has_more, has_all}
use Rattle.kindlines.specs.Text.{text_at, text_length}
use Rattle.kindlines.proofs.text.marks_text.Goals as goal

-- once every place is written the text is whole
whole : (f : ℕ → ℕ) (k : ℕ) (text : List ℕ) → k ≤ text_length → text_length ≤ k → text_length ≡ length text → HasTo f k text → text ≡ values_from f 0 text_length
whole f k text l m e h = has_all f text_length text (sym e) (rw (← le_antisymm l m) h)

pub loop-k-init : goal.loop-k-init
loop-k-init c = (search rules, refl, λ k l. absurd (not-suc-le-zero l))

pub loop-k-preserved : goal.loop-k-preserved
loop-k-preserved c =
    let at-loop = c.loop-k in
    let inv = at-loop.invariant in (
      search rules,
      inv.1 ∙ sym (length-set at-loop.text at-loop.k _),
      has_more _ at-loop.k _ at-loop.text (omega (arith, inv.1)) c.text_at.ensures inv.2,
    )

pub returns : goal.returns
returns c = let at-loop = c.loop-k in
    let a = c.args in
    let inv = at-loop.invariant in
    whole (text_at a.table.now a.w) at-loop.k at-loop.text inv.0 c.loop-k-test.false inv.1 inv.2
