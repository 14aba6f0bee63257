-- The search: every region below r has been passed, so the answer is that of the search from r on. A region that is found ends within
-- 2^16 bytes of its base, since a size is a number of 16 bits.
use Rattle.access.proofs.Places.{near}
use Rattle.access.specs.Locate.{inside_region, region_in}
use Rattle.v8.proofs.Search.{first_here, first_next, first_end}
use native.Mathlib.Omega.{arith}
use mathlib.Core.Path.{◌≡◌, refl, sym, ◌∙◌}
use Rattle.access.proofs.locate.region_at.Goals as goal

pub loop-r-init : goal.loop-r-init
unfolding region_in
loop-r-init c = (omega arith, refl)

pub returns-then-base-address-clause-found : goal.returns-then-base-address-clause-found
unfolding inside_region
returns-then-base-address-clause-found c =
    let e = c.if-base-address.true in
    let a = c.args in (
      sym (c.loop-r.invariant.1 ∙ first_here (inside_region a.regions.now.sizes a.bases.now a.address) _ _ c.loop-r-test.true (rw c.extent.ensures.0 at e)),
      c.loop-r-test.true,
      near _ _ _ c.extent.ensures.1 e,
    )

pub loop-r-preserved : goal.loop-r-preserved
unfolding inside_region
loop-r-preserved c =
    let a = c.args in (
      omega arith,
      c.loop-r.invariant.1
          ∙ first_next (inside_region a.regions.now.sizes a.bases.now a.address) _ _ c.loop-r-test.true (rw c.extent.ensures.0 at c.if-base-address.false),
    )

pub returns-clause-none : goal.returns-clause-none
returns-clause-none c =
    let a = c.args in
    let e : c.loop-r.r ≡ a.regions.now.count = omega arith in
    c.loop-r.invariant.1 ∙ first_end (inside_region a.regions.now.sizes a.bases.now a.address) _ _ c.loop-r-test.false ∙ e
