-- The passes of the check before the one that looks at the edges of words (document 01, "Check. 20 .. 21 .. 1 .. 2 .. 3 .. 15"). Each takes what it reads.
use Rattle.std.specs.Prelude.{ℕ, ◌*◌, Bool, List, Option, Some, None}
use Rattle.v8.specs.Numbers.{bad_policy, bad_shape, bad_row, bad_flow, callers_register, entry_misfit}
use Rattle.v8.specs.declared.Reading.{Reading}
use Rattle.v8.specs.declared.Reading.TheVariants.{Read, Unread}
use Rattle.flow_writes.specs.Written.{written_by, leaves_callers}
use Rattle.flow_code.specs.Readings.{reading_at}
use Rattle.flow.specs.Flow.{flow_of}
use Rattle.policy.specs.declared.Policy.{Policy}
use Rattle.policy.specs.Policy.{policy_ok}
use Rattle.rows.specs.declared.Row.{Row}
use Rattle.rows.specs.Geometry.{row_bytes}
use Rattle.rows.specs.Row.{row_of, form_fault, misfit}
use Rattle.passes.specs.declared.Answer.{Answer}
use Rattle.passes.specs.Answer.{accepted, refuse, and_then, need}
use Rattle.passes_shape.specs.Shape.{shape_ok}

-- word w's row
abbrev pub row_at : List ℕ → ℕ → Row
row_at rows w = row_of rows (row_bytes * w)

-- the entry row
abbrev pub entry_row : List ℕ → Row
entry_row entry = row_of entry 0

-- a row's lowest place that has a flaw is named
abbrev pub unless_fault : ℕ → ℕ → Option ℕ → Answer
unless_fault number w None = accepted
unless_fault number w (Some place) = refuse number w place

-- "20 policy breaks a rule above"
abbrev pub policy_pass : Policy → Answer
policy_pass p = need (policy_ok p) bad_policy 0 0

abbrev pub shape_pass : Policy → ℕ → List ℕ → List ℕ → List ℕ → Answer
shape_pass p n rows entry result = need (shape_ok p n rows entry result) bad_shape 0 0

-- "1 row badly formed: its word; the lowest register of the earliest broken row is the one named, 32 for the note"; 33 to 38 for scratch words
unfoldable pub row_pass : Policy → List ℕ → ℕ → Answer
row_pass p rows w = unless_fault bad_row w (form_fault p.regions.count p.regions.sizes rows (row_bytes * w))

-- "2 word not read: its word"; request 1: "24 replaces 2 for these words, in the same pass", by the number of the reading
abbrev pub if_read : ℕ → Reading → Answer
if_read w (Read x) = accepted
if_read w (Unread number) = refuse number w 0

unfoldable pub read_pass : List Reading → ℕ → Answer
read_pass readings w = if_read w (reading_at readings w)

-- request 6: "25, with its word and that register", for a word that would write a register of the caller
abbrev pub callers_left : ℕ → Reading → Answer
callers_left w x = need (leaves_callers x) callers_register w (written_by x)

-- "3 flow, its word"; request 6: "in the flow pass .., after 3 at the same word"
abbrev pub flow_then : Bool → ℕ → Reading → Answer
flow_then flows w x = and_then (need flows bad_flow w 0) (callers_left w x)

unfoldable pub flow_pass : List Reading → ℕ → Answer
flow_pass readings w = flow_then (flow_of readings w (reading_at readings w)) w (reading_at readings w)

-- "15 the entry row does not fit row 0: lowest register or 32"
unfoldable pub entry_pass : List ℕ → List ℕ → Answer
entry_pass rows entry = unless_fault entry_misfit 0 (misfit (entry_row entry) (row_at rows 0))
