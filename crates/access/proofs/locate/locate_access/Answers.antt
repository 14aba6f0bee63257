-- A region that the address lies in, then a field there; or else the frame.
use native.Mathlib.Omega.{arith}
use borrow.Author.Tests.{lt-ltb, le-ltb}
use Rattle.access.specs.Locate.{locate}
use Rattle.access.proofs.locate.locate_access.Goals as goal

pub returns-in-Some : goal.returns-in-Some
unfolding locate
returns-in-Some c =
    let f = c.in-Some.ensures.found in
    rw (← f.0, lt-ltb _ _ f.1) c.locate_in.ensures

pub returns-in-None : goal.returns-in-None
unfolding locate
returns-in-None c =
    let n = c.args.policy.now.regions.count in
    rw (c.in-None.ensures.none, le-ltb n n (omega arith)) c.in_frame.ensures
