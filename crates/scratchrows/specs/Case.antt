-- The worked cases of scratch words (document 02, request 7) that the shared table has no form for: rows as entry rows, and runs of which the marks of
-- the scratch words are told too.
use Rattle.std.specs.Prelude.{ℕ, ◌≡◌, Bool, List, map, drop}
use Rattle.v8.specs.declared.Edition.{Edition}
use Rattle.policy.specs.declared.Policy.{Policy}
use Rattle.step.specs.declared.Registers.{Registers}
use Rattle.machine_steps.specs.Steps.{Run}
use Rattle.machine.specs.Run.{run_of}
use Rattle.rows.specs.Geometry.{register_count}
use Rattle.passes_shape.specs.Shape.{start_ok}
use Rattle.trials.specs.Case.{Outcome, ends_of}

-- an entry row's bytes, and whether they are a well-formed one
pub record EntryRow : Type 0 where
  pub bytes : List ℕ
  pub formed : Bool

-- what the definitions give, with two regions of 16 and of 8 bytes
abbrev pub formed_as_entry : List ℕ → EntryRow → Bool
formed_as_entry sizes row = start_ok 2 sizes 1 row.bytes

-- a run: policy, words, bases, frame address, registers, allowance, memory
pub record Given : Type 0 where
  pub policy : Policy
  pub words : List ℕ
  pub bases : List ℕ
  pub frame : ℕ
  pub registers : Registers
  pub allowance : ℕ
  pub memory : List ℕ

-- how it ended, as in the shared table, and the marks of the scratch words
pub record Ended : Type 0 where
  pub outcome : Outcome
  pub scratch : List Bool

-- a run and the end that it must have
pub record RunRow : Type 0 where
  pub given : Given
  pub expected : Ended

-- what the definitions give, on a terminal of the edition; the return address is 1000 hexadecimal
abbrev pub ended_of : Run → Ended
ended_of r = record { outcome = ends_of r; scratch = drop register_count r.outcome.registers.marks }

abbrev pub ran : Edition → RunRow → Ended
ran e row =
    let g = row.given in
    ended_of (run_of e g.policy g.words g.bases 0x1000 g.frame g.registers g.allowance g.memory)

-- the rows of a list hold: each has the outcome that it expects
abbrev pub EntriesHold : List ℕ → List EntryRow → Type 0
EntriesHold sizes rows = map (formed_as_entry sizes) rows ≡ map (λ (r : EntryRow). r.formed) rows

abbrev pub RunsHold : Edition → List RunRow → Type 0
RunsHold e rows = map (ran e) rows ≡ map (λ (r : RunRow). r.expected) rows
