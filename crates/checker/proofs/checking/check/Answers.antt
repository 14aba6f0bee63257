-- `check` meets its contract. After each pass stands what is left of the check.
use mathlib.Core.Path.{◌≡◌, sym, ap, ◌∙◌}
use mathlib.Core.Bool.{true}
use mathlib.Core.List.{List}
use native.Mathlib.Omega.{arith}
use lib.ListN.{length}
use borrow.Author.Tests.{eq-eqb}
use Rattle.v8.specs.declared.Reading.{Reading}
use Rattle.policy.specs.Policy.{policy_ok}
use Rattle.passes.specs.declared.Answer.{Answer}
use Rattle.passes.specs.Answer.{passes, pass_of}
use Rattle.passes.specs.Passes.{row_pass, read_pass, flow_pass, entry_pass}
use Rattle.checker.specs.Passes.{word_pass}
use Rattle.checker.proofs.Parts.{Given, whole, over, over_read}
use Rattle.passes.proofs.Accepting.{goes, stops}
use Rattle.checker.proofs.Stages.{Shaped, shaped, answer, bad-policy, bad-shape, from-rows, from_rows, from_reads, from_flow, from_entry, from_words}
use Rattle.checker.proofs.checking.check.Goals as goal
use Rattle.checker.proofs.checking.check.Goals.{Else-not-shape_ok, Else-not-well_formed}

-- after 20
abbrev given1 : Else-not-well_formed → Given
given1 c =
    record {
      edition = c.args.edition;
      policy = c.args.policy.now;
      words = c.args.words.now;
      rows = c.args.rows.now;
      entry = c.args.entry.now;
      result = c.args.res.now;
    }

right-policy : (c : Else-not-well_formed) → policy_ok (given1 c).policy ≡ true
right-policy c = sym c.well_formed-2.ensures ∙ c.if-not-well_formed.false

-- after 21
abbrev given2 : Else-not-shape_ok → Given
given2 c =
    record {
      edition = c.args.edition;
      policy = c.args.policy.now;
      words = c.args.words.now;
      rows = c.args.rows.now;
      entry = c.args.entry.now;
      result = c.args.res.now;
    }

lengths : (c : Else-not-shape_ok) → Shaped (given2 c)
lengths c = shaped (given2 c) (sym c.shape_ok.ensures ∙ c.if-not-shape_ok.false)

left2 : (c : Else-not-shape_ok) → answer (given2 c) ≡ from_rows (given2 c)
left2 c =
    from-rows (given2 c) (sym c.well_formed-2.ensures ∙ c.if-not-well_formed.false) (sym c.shape_ok.ensures ∙ c.if-not-shape_ok.false)

module _ (g : Given) where
  -- after 1
  left3 : (a : Answer) → a ≡ pass_of (row_pass g.policy g.rows) (length g.words) → a.number ≡ 0 → answer g ≡ from_rows g → answer g ≡ from_reads g
  left3 a e z l = l ∙ goes _ _ _ (e ∙ over g _) z

  module _ (code : List Reading) (is : code ≡ (whole g).readings) where
    -- after 2
    left4 : (a : Answer) → a ≡ pass_of (read_pass code) (length g.words) → a.number ≡ 0 → answer g ≡ from_reads g → answer g ≡ from_flow g
    left4 a e z l = l ∙ goes _ _ _ (e ∙ over_read g read_pass _ is) z

    -- after 3
    left5 : (a : Answer) → a ≡ pass_of (flow_pass code) (length g.words) → a.number ≡ 0 → answer g ≡ from_flow g → answer g ≡ from_entry g
    left5 a e z l = l ∙ goes _ _ _ (e ∙ over_read g flow_pass _ is) z

  -- after 15
  left6 : (a : Answer) → a ≡ entry_pass g.rows g.entry → a.number ≡ 0 → answer g ≡ from_entry g → answer g ≡ from_words g
  left6 a e z l = l ∙ goes _ _ _ e z

pub returns-then-not-well_formed : goal.returns-then-not-well_formed
returns-then-not-well_formed c =
    let g : Given = record {
      edition = c.args.edition;
      policy = c.args.policy.now;
      words = c.args.words.now;
      rows = c.args.rows.now;
      entry = c.args.entry.now;
      result = c.args.res.now;
    } in
    c.refuse.ensures ∙ sym (bad-policy g (sym c.well_formed-2.ensures ∙ c.if-not-well_formed.true))

pub returns-then-not-shape_ok : goal.returns-then-not-shape_ok
returns-then-not-shape_ok c =
    let k = (goal.at.returns-then-not-shape_ok c).Else-not-well_formed in
    c.refuse-then-not-shape_ok.ensures ∙ sym (bad-shape (given1 k) (right-policy k) (sym c.shape_ok.ensures ∙ c.if-not-shape_ok.true))

pub overflow_cast-words : goal.overflow_cast-words
overflow_cast-words c = record { fits = omega (arith, (lengths (goal.at.overflow_cast-words c).Else-not-shape_ok).most) }

pub row_pass-formed-requires : goal.row_pass-formed-requires
row_pass-formed-requires c =
    let l = lengths (goal.at.row_pass-formed-requires c).Else-not-shape_ok in
    (l.most, sym l.rows)

pub returns-then-formed-ne-ACCEPTED : goal.returns-then-formed-ne-ACCEPTED
returns-then-formed-ne-ACCEPTED c =
    let k = (goal.at.returns-then-formed-ne-ACCEPTED c).Else-not-shape_ok in
    sym (left2 k ∙ stops _ _ _ (c.row_pass-formed.ensures ∙ over (given2 k) _) c.if-formed-ne-ACCEPTED.true)

pub read_all-readings-requires : goal.read_all-readings-requires
read_all-readings-requires c = (lengths (goal.at.read_all-readings-requires c).Else-not-shape_ok).most

pub returns-then-read-ne-ACCEPTED : goal.returns-then-read-ne-ACCEPTED
returns-then-read-ne-ACCEPTED c =
    let k = (goal.at.returns-then-read-ne-ACCEPTED c).Else-not-shape_ok in
    let g = given2 k in
    let l = left3 g _ c.row_pass-formed.ensures c.if-formed-ne-ACCEPTED.false (left2 k) in
    sym (l ∙ stops _ _ _ (c.read_pass-read.ensures ∙ over_read g read_pass _ c.read_all-readings.ensures.is) c.if-read-ne-ACCEPTED.true)

pub returns-then-flows-ne-ACCEPTED : goal.returns-then-flows-ne-ACCEPTED
returns-then-flows-ne-ACCEPTED c =
    let k = (goal.at.returns-then-flows-ne-ACCEPTED c).Else-not-shape_ok in
    let g = given2 k in
    let is = c.read_all-readings.ensures.is in
    let l = left4 g _ is _ c.read_pass-read.ensures c.if-read-ne-ACCEPTED.false
    (left3 g _ c.row_pass-formed.ensures c.if-formed-ne-ACCEPTED.false (left2 k)) in
    sym (l ∙ stops _ _ _ (c.flow_pass-flows.ensures ∙ over_read g flow_pass _ is) c.if-flows-ne-ACCEPTED.true)

pub entry_pass-entered-requires : goal.entry_pass-entered-requires
entry_pass-entered-requires c =
    let l = lengths (goal.at.entry_pass-entered-requires c).Else-not-shape_ok in
    (omega (arith, l.rows, l.some), omega (arith, l.entry))

pub returns-then-entered-ne-ACCEPTED : goal.returns-then-entered-ne-ACCEPTED
returns-then-entered-ne-ACCEPTED c =
    let k = (goal.at.returns-then-entered-ne-ACCEPTED c).Else-not-shape_ok in
    let g = given2 k in
    let is = c.read_all-readings.ensures.is in
    let l = left5 g _ is _ c.flow_pass-flows.ensures c.if-flows-ne-ACCEPTED.false
    (left4 g _ is _ c.read_pass-read.ensures c.if-read-ne-ACCEPTED.false
    (left3 g _ c.row_pass-formed.ensures c.if-formed-ne-ACCEPTED.false (left2 k))) in
    sym (l ∙ stops _ _ _ c.entry_pass-entered.ensures c.if-entered-ne-ACCEPTED.true)

pub word_pass-requires : goal.word_pass-requires
word_pass-requires c =
    let l = lengths (goal.at.word_pass-requires c).Else-not-shape_ok in
    let flows = ap passes (sym c.flow_pass-flows.ensures) ∙ eq-eqb _ 0 c.if-flows-ne-ACCEPTED.false in
    (c.read_all-readings.ensures.formed, c.examine_all-marks.ensures, sym l.rows, omega (arith, l.result), flows)

pub returns : goal.returns
returns c =
    let k = (goal.at.returns c).Else-not-shape_ok in
    let g = given2 k in
    let is = c.read_all-readings.ensures.is in
    let l = left6 g _ c.entry_pass-entered.ensures c.if-entered-ne-ACCEPTED.false
    (left5 g _ is _ c.flow_pass-flows.ensures c.if-flows-ne-ACCEPTED.false
    (left4 g _ is _ c.read_pass-read.ensures c.if-read-ne-ACCEPTED.false
    (left3 g _ c.row_pass-formed.ensures c.if-formed-ne-ACCEPTED.false (left2 k)))) in
    c.word_pass.ensures ∙ over_read g (λ (code : List Reading). word_pass g.policy code g.rows g.result) _ is ∙ sym l
