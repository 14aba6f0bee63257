-- `open` meets its contract: the refusal of the bundle or of an add, or what stands in it; the places lie in the bytes.
use mathlib.Core.Path.{sym, ◌∙◌}
use borrow.Author.Tests.{ne_eqb}
use Rattle.bundle_open.specs.Open.{opened_of}
use Rattle.bundle_layout.proofs.Sizes.{most_bytes_lem, given_bytes}
use Rattle.bundle_open.proofs.Laid.{opened_is}
use Rattle.bundle_open.proofs.opening.open.Goals as goal

pub returns-then-not-bundle_ok : goal.returns-then-not-bundle_ok
unfolding opened_of
returns-then-not-bundle_ok c =
    let r = opened_is c.args.bytes.now _ (c.closed.ensures ∙ simp (sym c.bundle_ok.ensures ∙ c.if-not-bundle_ok.true)) in
    record { opened = r.0; places = r.1 }

pub returns-then-built-ne-ACCEPTED : goal.returns-then-built-ne-ACCEPTED
unfolding opened_of
returns-then-built-ne-ACCEPTED c =
    let ok = sym c.bundle_ok.ensures ∙ c.if-not-bundle_ok.false in
    let r =
    opened_is c.args.bytes.now _
    (c.closed-then-built-ne-ACCEPTED.ensures ∙ rw (← c.built_of-built.ensures) (simp (ok, ne_eqb _ _ c.if-built-ne-ACCEPTED.true))) in
    record { opened = r.0; places = r.1 }

pub opened_with-requires : goal.opened_with-requires
opened_with-requires c = let ok = sym c.bundle_ok.ensures ∙ c.if-not-bundle_ok.false in
    (given_bytes _ ok, most_bytes_lem _ ok)

pub returns : goal.returns
unfolding opened_of
returns c =
    let ok = sym c.bundle_ok.ensures ∙ c.if-not-bundle_ok.false in
    let r = opened_is c.args.bytes.now _ (c.opened_with.ensures ∙ rw (← c.built_of-built.ensures) (simp (ok, c.if-built-ne-ACCEPTED.false))) in
    record { opened = r.0; places = r.1 }
