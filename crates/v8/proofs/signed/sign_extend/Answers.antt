-- A field of n bits is sign-extended: below half of 2^n it stays, else 2^n is taken off, modulo 2^32.
use Rattle.v8.proofs.Power.{half, shifted}
use native.Mathlib.Omega.{arith}
use Rattle.v8.specs.Signed.{sign_extend}
use borrow.Author.Tests.{lt-ltb, le-ltb}
use Rattle.v8.proofs.signed.sign_extend.Goals as goal

pub returns-then-x-half : goal.returns-then-x-half
unfolding sign_extend
returns-then-x-half c =
    let h = half c.args.bits c.requires.0 c.requires.1 in
    simp (lt-ltb _ _ (rw h.code at c.if-x-half.true))

pub returns : goal.returns
unfolding sign_extend
returns c =
    let h = half c.args.bits c.requires.0 c.requires.1 in
    rw (shifted c.args.bits c.requires.1) (simp (le-ltb _ _ (rw h.code at c.if-x-half.false)) (omega (arith, h.whole, h.most)))
