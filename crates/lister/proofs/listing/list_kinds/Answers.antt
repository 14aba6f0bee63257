-- After each pass stands what is left of the answer; the table is written after the last alone.
use mathlib.Core.Path.{◌≡◌, sym, ap, ◌∙◌}
use mathlib.Core.List.{List}
use native.Mathlib.Omega.{arith}
use Prim.Native.Nat.{ℕ}
use lib.ListN.{length}
use Rattle.v8.specs.declared.Edition.{Edition}
use Rattle.v8.specs.declared.Reading.{Reading}
use Rattle.flow_code.specs.Readings.{readings_of}
use Rattle.flow_code.proofs.Fetched.{read_count}
use Rattle.passes.specs.declared.Answer.{Answer}
use Rattle.passes.specs.Answer.{pass_of}
use Rattle.passes.specs.Passes.{read_pass, flow_pass}
use Rattle.passes.proofs.Accepting.{goes, stops}
use Rattle.lister.proofs.Answering.{pass_accepts, answer, bad-policy, bad-shape, from_flow, from_reads, from-reads, refused, lists}
use Rattle.lister.proofs.listing.list_kinds.Goals as goal
use Rattle.lister.proofs.listing.list_kinds.Goals.{Else-not-listable, Else-read-ne-ACCEPTED}

-- a pass over the array is one over the words as they are read
over : (e : Edition) (words : List ℕ) (pass : List Reading → ℕ → Answer) (code : List Reading) → code ≡ readings_of e words
    → pass_of (pass code) (length words) ≡ pass_of (pass (readings_of e words)) (length (readings_of e words))
over e words pass code is =
    ap (λ (c : List Reading). pass_of (pass c) (length words)) is ∙ ap (pass_of (pass (readings_of e words))) (sym (read_count e words))

-- after 21
left2 : (c : Else-not-listable) → answer c.args.edition c.args.policy.now c.args.words.now c.args.entry.now c.args.table.now ≡ from_reads c.args.edition c.args.policy.now c.args.words.now c.args.entry.now c.args.table.now
left2 c = from-reads _ _ _ _ _ (sym c.well_formed-2.ensures ∙ c.if-not-well_formed.false) (sym c.listable.ensures ∙ c.if-not-listable.false)

-- after 2 and 24
left3 : (c : Else-read-ne-ACCEPTED) → answer c.args.edition c.args.policy.now c.args.words.now c.args.entry.now c.args.table.now ≡ from_flow c.args.edition c.args.policy.now c.args.words.now c.args.entry.now c.args.table.now
left3 c =
    from-reads _ _ _ _ _ (sym c.well_formed-2.ensures ∙ c.if-not-well_formed.false) (sym c.listable.ensures ∙ c.if-not-listable.false)
    ∙ goes _ _ _ (c.read_pass-read.ensures ∙ over c.args.edition c.args.words.now read_pass _ c.read_all-readings.ensures.is) c.if-read-ne-ACCEPTED.false

pub returns-then-not-well_formed : goal.returns-then-not-well_formed
returns-then-not-well_formed c =
    let e = bad-policy c.args.edition c.args.policy.now c.args.words.now c.args.entry.now c.args.table.now (sym c.well_formed-2.ensures ∙ c.if-not-well_formed.true) in
    refused _ _ _ _ _ c.refuse.result (e ∙ sym c.refuse.ensures) (λ z. absurd (omega (arith, ap (λ (a : Answer). a.number) c.refuse.ensures, z)))

pub returns-then-not-listable : goal.returns-then-not-listable
returns-then-not-listable c =
    let e = bad-shape c.args.edition c.args.policy.now c.args.words.now c.args.entry.now c.args.table.now (sym c.well_formed-2.ensures ∙ c.if-not-well_formed.false) (sym c.listable.ensures ∙ c.if-not-listable.true) in
    refused _ _ _ _ _ c.refuse-then-not-listable.result (e ∙ sym c.refuse-then-not-listable.ensures) (λ z. absurd (omega (arith, ap (λ (a : Answer). a.number) c.refuse-then-not-listable.ensures, z)))

pub returns-then-read-ne-ACCEPTED : goal.returns-then-read-ne-ACCEPTED
returns-then-read-ne-ACCEPTED c =
    refused _ _ _ _ _ c.read_pass-read.result (left2 (goal.at.returns-then-read-ne-ACCEPTED c).Else-not-listable ∙ stops _ _ _ (c.read_pass-read.ensures ∙ over _ _ read_pass _ c.read_all-readings.ensures.is) c.if-read-ne-ACCEPTED.true) c.if-read-ne-ACCEPTED.true

pub returns-then-flows-ne-ACCEPTED : goal.returns-then-flows-ne-ACCEPTED
returns-then-flows-ne-ACCEPTED c =
    refused _ _ _ _ _ c.flow_pass-flows.result (left3 (goal.at.returns-then-flows-ne-ACCEPTED c).Else-read-ne-ACCEPTED ∙ sym (c.flow_pass-flows.ensures ∙ over _ _ flow_pass _ c.read_all-readings.ensures.is)) c.if-flows-ne-ACCEPTED.true

pub returns : goal.returns
returns c =
    let p = c.flow_pass-flows in
    let e = left3 (goal.at.returns c).Else-read-ne-ACCEPTED ∙ sym (p.ensures ∙ over _ _ flow_pass _ c.read_all-readings.ensures.is) ∙ pass_accepts _ _ p.result p.ensures c.if-flows-ne-ACCEPTED.false in
    rw (c.accept.ensures, c.copy_from_slice.ensures.after, c.raise_until_closed.ensures, c.read_all-readings.ensures.is) (lists c.args.edition c.args.policy.now c.args.words.now c.args.entry.now c.args.table.now e)
