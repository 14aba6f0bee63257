-- The check, pass by pass: what is left of it after each, and what the second pass tells of the lengths.
use Prim.Native.Nat.{ℕ, ◌*◌, ◌≤◌}
use mathlib.Core.Path.{◌≡◌, ap, ◌∙◌}
use mathlib.Core.Bool.{Bool, true, false, and-false}
use lib.ListN.{length}
use Rattle.v8.specs.Numbers.{bad_policy, bad_shape, most_words}
use Rattle.flow_code.proofs.Fetched.{read_count}
use Rattle.v8.proofs.Search.{needed_eq}
use Rattle.policy.specs.Policy.{policy_ok}
use Rattle.rows.specs.Geometry.{row_bytes, entry_bytes}
use Rattle.passes.specs.declared.Answer.{Answer}
use Rattle.passes.specs.Answer.{refuse, and_then, pass_of}
use Rattle.checker.specs.Routine.{count}
use Rattle.passes_shape.specs.Shape.{shape_ok}
use Rattle.passes.specs.Passes.{row_pass, read_pass, flow_pass, entry_pass}
use Rattle.checker.specs.Passes.{word_pass, answer_of, check_of}
use Rattle.passes_shape.proofs.Started.{shape_started}
use Rattle.checker.proofs.Parts.{Given, whole}

-- what a right shape tells of the lengths
pub record Shaped (g : Given) : Type 0 where
  pub some : 1 ≤ length g.words
  pub most : length g.words ≤ most_words
  pub rows : length g.rows ≡ row_bytes * length g.words
  pub entry : length g.entry ≡ row_bytes
  pub result : length g.result ≡ entry_bytes

module _ (g : Given) where
  -- the check, and what is left of it from a pass on
  abbrev pub answer : Answer
  answer = check_of g.edition g.policy g.words g.rows g.entry g.result

  abbrev pub from_words : Answer
  from_words = pass_of (word_pass g.policy (whole g).readings g.rows g.result) (count (whole g))

  abbrev pub from_entry : Answer
  from_entry = and_then (entry_pass g.rows g.entry) from_words

  abbrev pub from_flow : Answer
  from_flow = and_then (pass_of (flow_pass (whole g).readings) (count (whole g))) from_entry

  abbrev pub from_reads : Answer
  from_reads = and_then (pass_of (read_pass (whole g).readings) (count (whole g))) from_flow

  abbrev pub from_rows : Answer
  from_rows = and_then (pass_of (row_pass g.policy g.rows) (count (whole g))) from_reads

  pub bad-policy : policy_ok g.policy ≡ false → answer ≡ refuse bad_policy 0 0
  unfolding check_of answer_of
  bad-policy e = rw e

  abbrev pub shapes : ℕ → Bool
  shapes n = shape_ok g.policy n g.rows g.entry g.result

  -- the shape that the code tests is that of the definition, there being as many words as are read
  as_read : {t : Bool} → shapes (length g.words) ≡ t → shapes (count (whole g)) ≡ t
  as_read s = ap shapes (read_count g.edition g.words) ∙ s

  pub bad-shape : policy_ok g.policy ≡ true → shapes (length g.words) ≡ false → answer ≡ refuse bad_shape 0 0
  unfolding check_of answer_of
  bad-shape e s = rw (e, as_read s)

  pub from-rows : policy_ok g.policy ≡ true → shapes (length g.words) ≡ true → answer ≡ from_rows
  unfolding check_of answer_of
  from-rows e s = rw (e, as_read s)

  pub shaped : shapes (length g.words) ≡ true → Shaped g
  unfolding shape_ok
  shaped e =
      let t = shapes (length g.words) in
      let s = shape_started g.policy (length g.words) g.rows g.entry g.result e in
      record {
        some = s.some;
        most = s.most;
        rows = needed_eq t (length g.rows) (row_bytes * length g.words) e (λ f. simp (f, and-false));
        entry = s.row;
        result = needed_eq t (length g.result) entry_bytes e (λ f. simp (f, and-false));
      }
