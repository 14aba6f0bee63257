-- What the words' loop finds at a word, by what the array of readings has for it, is what the pass answers.
use Prim.Native.Nat.{ℕ, ◌+◌, ◌*◌, ◌<◌}
use mathlib.Core.Path.{◌≡◌, sym, ◌∙◌}
use mathlib.Core.Bool.{Bool, true, false, cond}
use mathlib.Core.List.{List}
use native.Mathlib.Omega.{arith}
use lib.ListN.{get_or}
use Rattle.v8.specs.declared.Reading.{Reading}
use Rattle.flow_code.specs.Readings.{reading_at}
use Rattle.flow_code.specs.Lent.{code_of, Formed, Examines}
use Rattle.flow_code.proofs.Fetched.{code_count, at_index}
use Rattle.policy.specs.declared.Policy.{Policy}
use Rattle.rows.specs.Geometry.{row_bytes}
use Rattle.passes.specs.declared.Answer.{Answer}
use Rattle.passes.specs.Answer.{accepted, passes, pass_of}
use Rattle.passes.specs.Passes.{flow_pass}
use Rattle.passes.proofs.Accepting.{each_passes}
use Rattle.passes.proofs.Passing.{here}
use Rattle.checker.specs.Passes.{look, word_pass}
use Rattle.checker.specs.Lent.{ReadingIn}
use Rattle.checker.proofs.Inside.{word_in}

module _ (readings : List Reading) (count : ℕ) (formed : Formed readings count) (i : ℕ) (more : i < count) (other : Reading)
    (marks : List Bool) (examines : Examines marks (code_of readings count)) where
  pub word_here : (p : Policy) (rows result : List ℕ) (slot : Reading) (a : Answer) → slot ≡ reading_at readings (i + 1)
      → a ≡ cond (get_or marks i false) (look p rows result i (get_or readings i other) slot) accepted
      → a ≡ word_pass p (code_of readings count) rows result i
  unfolding word_pass
  word_here p rows result slot a q e =
      let mark = examines i (omega (arith, code_count readings count formed)) in
      e ∙ rw (mark, here readings count formed i more other, q, at_index readings count formed (i + 1))

  -- an examined word's edges end at rows that there are
  pub word_ready : (n : ℕ) → row_bytes * count ≡ n → passes (pass_of (flow_pass (code_of readings count)) count) ≡ true
      → get_or marks i false ≡ true → ReadingIn i (get_or readings i other) n
  word_ready n long f t =
      let total = code_count readings count formed in
      word_in (code_of readings count) n (rw total long) i _ (here readings count formed i more other)
      (each_passes (flow_pass (code_of readings count)) count f i more) (sym (examines i (omega (arith, total))) ∙ t)
