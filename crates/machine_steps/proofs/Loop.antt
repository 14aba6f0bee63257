-- One turn of the run's loop: what a step of the word fetched answers, over lent registers, is one step of the run, and the rest of the run goes on from
-- what it left; a fault leaves everything as it was.
use Prim.Native.Nat.{ℕ, suc, ◌+◌, ◌-◌, ◌<◌, ◌≤◌}
use mathlib.Core.Path.{◌≡◌, refl, sym, ap, subst, ◌∙◌}
use native.Mathlib.Nat.{sub-zero}
use native.Mathlib.Omega.{arith}
use Rattle.v8.specs.Numbers.{not_read, no_word}
use Rattle.v8.specs.declared.Access.{Access}
use Rattle.v8.specs.declared.WordIndex.{WordIndex}
use Rattle.v8.specs.declared.Reading.{Reading}
use Rattle.v8.specs.declared.Reading.TheVariants.{Unread}
use Rattle.flow_edges.specs.declared.Destination.{Destination}
use Rattle.flow_edges.specs.declared.Destination.TheVariants.{To, Caller}
use Rattle.step.specs.declared.Registers.{Registers}
use Rattle.step.specs.declared.Went.{Went}
use Rattle.step.specs.declared.Progress.{Progress}
use Rattle.step.specs.declared.Progress.TheVariants.{Goes, Returned, Stopped, Accesses}
use Rattle.flow_code.specs.Readings.{reading_at}
use Rattle.step.specs.Setting.{Setting}
use Rattle.step.specs.Control.{go_to, due_at}
use Rattle.step.specs.Effect.{Core, Effect, access_to}
use Rattle.step.specs.Step.{State, Step, stopped, next, returned, advance, plain_step, step_with, step_of}
use Rattle.step.specs.Lent.{Stepped, core_of, leaving, step_from, completed}
use Rattle.machine_steps.specs.declared.End.TheVariants as End·
use Rattle.machine_access.specs.declared.Moved.{Moved}
use Rattle.machine_access.specs.declared.Moved.TheVariants.{Done, Missed}
use Rattle.machine_access.specs.Moved.{Moves}
use Rattle.machine_steps.specs.Steps.{ended, after_step, run_from}
use Rattle.machine_steps.proofs.RunLaws.{runs_nothing, runs_one_more}
use Rattle.machine_access.proofs.Moving.{did, met}

leaving_step : (c : Core) (x : Step) → (leaving c x).step ≡ x
leaving_step c (stopped n) = refl
leaving_step c (next t) = refl
leaving_step c (returned d) = refl

-- with steps left of an allowance, one more is left
rest : (allowance steps : ℕ) → steps < allowance → allowance - steps ≡ suc (allowance - (steps + 1))
rest allowance steps h = omega arith

-- before the first turn the whole run is left
pub turn_first : (s : Setting) (allowance : ℕ) (st : State) → run_from s allowance 0 st ≡ run_from s (allowance - 0) 0 st
turn_first s allowance st = simp sub-zero

-- with no step left, the run is spent
pub turn_spent : (s : Setting) (allowance steps : ℕ) (st : State) → allowance ≤ steps → run_from s (allowance - steps) steps st ≡ ended End·.Spent steps st.core
turn_spent s allowance steps st h =
    let none : allowance - steps ≡ 0 = omega arith in
    ap (λ (n : ℕ). run_from s n steps st) none ∙ runs_nothing s steps st

-- a word outside the code is not read
pub turn_outside : (s : Setting) (allowance steps : ℕ) (st : State) → reading_at s.readings st.control.at.0 ≡ Unread not_read → steps < allowance
    → run_from s (allowance - steps) steps st ≡ ended (End·.Fault no_word) steps st.core
unfolding step_of
turn_outside s allowance steps st unread h =
    ap (λ (n : ℕ). run_from s n steps st) (rest allowance steps h) ∙ runs_one_more s (allowance - (steps + 1)) steps st
    ∙ ap (λ (x : Reading). after_step steps st (run_from s (allowance - (steps + 1)) (steps + 1)) (step_with s.layout s.returns st x)) unread

-- what a turn of the loop has shown: a step of the allowance is left, the word that control stands at was fetched, and the step of it
-- has answered, leaving registers
pub record Turned (s : Setting) (allowance steps : ℕ) (st : State) (w : Went) (after : Registers) : Type 0 where
  pub allowed : steps < allowance
  pub word : Reading
  pub fetched : word ≡ reading_at s.readings st.control.at.0
  pub says : completed s.layout st.control w after st.core.memory ≡ leaving st.core (step_with s.layout s.returns st word)

module _ {s : Setting} {allowance steps : ℕ} {st : State} {w : Went} {after : Registers} (t : Turned s allowance steps st w after) where
  -- what instructions work on after the step
  abbrev left : Core
  left = core_of after st.core.memory

  -- the step that the answer says
  abbrev saying : Progress → Step
  saying p = step_from s.layout st.control p w.control left

  abbrev said : Step
  said = saying w.progress

  -- the step of what is fetched is the step of the state
  step-of : step_with s.layout s.returns st t.word ≡ step_of s st
  unfolding step_of
  step-of = ap (step_with s.layout s.returns st) t.fetched

  step_is : step_of s st ≡ said
  step_is = sym step-of ∙ sym (leaving_step st.core _) ∙ sym (ap (λ (x : Stepped). x.step) t.says) ∙ leaving_step left said

  one : (y : Step) → said ≡ y → run_from s (allowance - steps) steps st ≡ after_step steps st (run_from s (allowance - (steps + 1)) (steps + 1)) y
  one y q =
      ap (λ (n : ℕ). run_from s n steps st) (rest allowance steps t.allowed) ∙ runs_one_more s (allowance - (steps + 1)) steps st
      ∙ ap (after_step steps st (run_from s (allowance - (steps + 1)) (steps + 1))) (step_is ∙ q)

  -- by what is said: it goes on, has returned, or stops
  pub turn_goes : w.progress ≡ Goes → run_from s (allowance - steps) steps st ≡ run_from s (allowance - (steps + 1)) (steps + 1) (record { control = w.control; core = left })
  turn_goes q = one _ (ap saying q)

  pub turn_returned : w.progress ≡ Returned → run_from s (allowance - steps) steps st ≡ ended End·.Returned (steps + 1) left
  turn_returned q = one _ (ap saying q)

  core_is : (f : ℕ) → said ≡ stopped f → left ≡ st.core
  core_is f q = sym (ap (λ (x : Step). (leaving left x).core) q) ∙ ap (λ (x : Stepped). x.core) t.says ∙ ap (λ (x : Step). (leaving st.core x).core) (step-of ∙ step_is ∙ q)

  stops : (f : ℕ) → said ≡ stopped f → run_from s (allowance - steps) steps st ≡ ended (End·.Fault f) steps left
  stops f q = one (stopped f) q ∙ ap (ended (End·.Fault f) steps) (sym (core_is f q))

  pub turn_stopped : (f : ℕ) → w.progress ≡ Stopped f → run_from s (allowance - steps) steps st ≡ ended (End·.Fault f) steps left
  turn_stopped f q = stops f (ap saying q)

-- what a turn has shown after the access that its step asks for: what the step left, and what the access answered, leaving a core
pub record Accessed (s : Setting) (allowance steps : ℕ) (st : State) (x : Moved) (c : Core) : Type 0 where
  pub went : Went
  pub after : Registers
  pub turned : Turned s allowance steps st went after
  pub access : Access
  pub rd : ℕ
  pub address : ℕ
  pub asks : went.progress ≡ Accesses access rd address
  pub moves : Moves x c (left turned) (access_to s.layout (left turned) access rd address)

module _ {s : Setting} {allowance steps : ℕ} {st : State} {x : Moved} {c : Core} (a : Accessed s allowance steps st x c) where
  abbrev effect : Effect
  effect = access_to s.layout (left a.turned) a.access a.rd a.address

  moves_as : (y : Moved) → x ≡ y → Moves y c (left a.turned) effect
  moves_as y e = subst (λ (z : Moved). Moves z c (left a.turned) effect) e a.moves

  -- by what the access answered: it met a fault, or was done, and control goes on to a word or out
  pub turn_missed : (f : ℕ) → x ≡ Missed f → run_from s (allowance - steps) steps st ≡ ended (End·.Fault f) steps c
  turn_missed f e =
      let missed = met c (left a.turned) f effect (moves_as (Missed f) e) in
      stops a.turned f (ap (saying a.turned) a.asks ∙ ap (plain_step st.control) missed.0) ∙ ap (ended (End·.Fault f) steps) (sym missed.1)

  moved : (d : Destination) → x ≡ Done → due_at st.control.at.0 st.control.pending ≡ d
      → run_from s (allowance - steps) steps st ≡ after_step steps st (run_from s (allowance - (steps + 1)) (steps + 1)) (advance c d)
  moved d e to =
      one a.turned _
      (ap (saying a.turned) a.asks ∙ ap (plain_step st.control) (did c (left a.turned) effect (moves_as Done e)) ∙ ap (advance c) to)

  pub turn_moved : (w : WordIndex) → x ≡ Done → due_at st.control.at.0 st.control.pending ≡ To w
      → run_from s (allowance - steps) steps st ≡ run_from s (allowance - (steps + 1)) (steps + 1) (record { control = go_to w.0; core = c })
  turn_moved w e to = moved (To w) e to

  pub turn_left : x ≡ Done → due_at st.control.at.0 st.control.pending ≡ Caller
      → run_from s (allowance - steps) steps st ≡ ended End·.Returned (steps + 1) c
  turn_left e to = moved Caller e to
