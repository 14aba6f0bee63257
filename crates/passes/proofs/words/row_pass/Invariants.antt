use Prim.Native.Nat.{◌*◌, ◌≤◌, ◌-◌}
use mathlib.Core.Path.{◌≡◌}
use Rattle.rows.specs.Geometry.{row_bytes, places}
use Rattle.rows.specs.Flaw.{flaw_from}
use Rattle.rows.specs.Row.{broken_at, form_fault}
use Rattle.passes.specs.Answer.{pass_of}
use Rattle.passes.specs.Passes.{row_pass}
use Rattle.passes.proofs.Passing.{pass_from}
use Rattle.passes.proofs.words.row_pass.Given as goal

abbrev pub invariant-loop-place : goal.invariant-loop-place
invariant-loop-place l = (l.place ≤ places)
    × (form_fault l.policy.regions.count l.policy.regions.sizes l.rows (row_bytes * l.at.0)
    ≡ flaw_from (broken_at l.policy.regions.count l.policy.regions.sizes l.rows (row_bytes * l.at.0)) l.place)

abbrev pub decreases-loop-place : goal.decreases-loop-place
decreases-loop-place l = places - l.place

abbrev pub invariant-rows : goal.invariant-rows
invariant-rows l = (l.at.0 ≤ l.count.0)
    × (pass_of (row_pass l.policy l.rows) l.count.0 ≡ pass_from (row_pass l.policy l.rows) l.at.0 l.count.0)

abbrev pub decreases-rows : goal.decreases-rows
decreases-rows l = l.count.0 - l.at.0
