-- The worked cases of branches into slots (document 02, request 4) in the passes of the check that the request changes: flow, and each word. A
-- whole check costs the prover far more, the form of the rows most of it, so there are few of these, in CheckRows.
use Rattle.std.specs.Prelude.{ℕ, ◌≡◌, List}
use Rattle.v8.specs.declared.Edition.{Edition}
use Rattle.rows.specs.declared.Entry.{Entry}
use Rattle.rows.specs.declared.Row as Rows·
use Rattle.passes.specs.declared.Answer.{Answer}
use Rattle.passes.specs.Answer.{accepted, and_then, pass_of}
use Rattle.checker.specs.Routine.{Routine, routine_of, count}
use Rattle.passes.specs.Passes.{policy_pass, shape_pass, row_pass, read_pass, flow_pass, entry_pass}
use Rattle.checker.specs.Passes.{word_pass}
use Rattle.trials.specs.Case.{Outcome, answers}
use Rattle.trials.specs.Entries.{bytes_of, bytes_of_entry, bytes_of_rows}
use Rattle.trials.specs.CheckRows.{one_word, called}

-- what is given: words, their rows, and the result entry
pub record Given : Type 0 where
  pub words : List ℕ
  pub rows : List Rows·.Row
  pub result : Entry

-- a case and the outcome that it must have
infix 70 ◌gives◌
pub data Row : Type 0 where
  ◌gives◌ : Given → Outcome → Row

abbrev pub given : Row → Given
given (g gives o) = g

abbrev pub expected : Row → Outcome
expected (g gives o) = o

-- the flow pass, and the pass over the words where it accepts
abbrev pub two_passes : Routine → Answer
two_passes t =
    and_then (pass_of (flow_pass t.readings) (count t)) (pass_of (word_pass t.policy t.readings t.rows t.result) (count t))

-- what the definitions give, on a terminal of the edition
abbrev pub outcome : Edition → Given → Outcome
outcome e g =
    let a = two_passes (routine_of e one_word g.words (bytes_of_rows g.rows) (bytes_of called) (bytes_of_entry g.result)) in
    answers a.number a.word.0 a.register

-- the other passes of the check accept: then it answers as these two do
pub record OthersAccept (t : Routine) : Type 0 where
  pub allowed : policy_pass t.policy ≡ accepted
  pub shaped : shape_pass t.policy (count t) t.rows t.entry t.result ≡ accepted
  pub formed : pass_of (row_pass t.policy t.rows) (count t) ≡ accepted
  pub readable : pass_of (read_pass t.readings) (count t) ≡ accepted
  pub entered : entry_pass t.rows t.entry ≡ accepted
