-- The worked cases: what is given, what comes of it, and what the definitions give for it. A row of the shared table is a case
-- with the outcome that it must have (document 01, "To the testers": "rows of one shared table").
use Rattle.std.specs.Prelude.{ℕ, zero, suc, ◌+◌, ◌/◌, ◌%◌, ◌^◌, ◌≡◌, Bool, cond, List, [], ◌∷◌, map, eqb, length, take, Option}
use Rattle.v8.specs.declared.Edition.{Edition}
use Rattle.v8.specs.declared.AluOp.{AluOp}
use Rattle.v8.specs.declared.ShiftOp.{ShiftOp}
use Rattle.v8.specs.declared.LoadOp.{LoadOp}
use Rattle.v8.specs.declared.StoreOp.{StoreOp}
use Rattle.v8.specs.declared.Instruction.{Instruction}
use Rattle.v8.specs.declared.Reading.{Reading}
use Rattle.v8.specs.declared.Reading.TheVariants.{Read, Unread}
use Rattle.v8.specs.Read.{reading_of, read_number}
use Rattle.writer.specs.Write.{writing_of, write_number}
use Rattle.alu.specs.declared.codes.Codes.{Codes}
use Rattle.alu.specs.Result.{alu_of, shift_of}
use Rattle.alu.specs.Codes.{codes_of}
use Rattle.alu.specs.Condition.{cond_holds, condition_of}
use Rattle.flow_edges.specs.declared.Edge.{Edge}
use Rattle.flow_writes.specs.Written.{register_written}
use Rattle.flow_edges.specs.Edge.{edge_of}
use Rattle.flow_code.specs.Readings.{readings_of, examined}
use Rattle.policy.specs.declared.Field.{Field}
use Rattle.policy.specs.declared.Policy.{Policy}
use Rattle.policy.specs.declared.Built.{Built}
use Rattle.policy.specs.Build.{add_region_of, add_field_of}
use Rattle.memory.specs.Memory.{load_of, store_of}
use Rattle.memory.specs.Place.{part_start}
use Rattle.step.specs.declared.Registers.{Registers}
use Rattle.machine_steps.specs.declared.End.{End}
use Rattle.machine_steps.specs.Steps.{Run}
use Rattle.machine.specs.Run.{run_of}
use Rattle.rows.specs.declared.Entry.{Entry}
use Rattle.rows.specs.declared.Note.{Note}
use Rattle.rows.specs.declared.Row as Rows·
use Rattle.rows.specs.Entry.{fits, fits_note}
use Rattle.rows.specs.Row.{form_fault, misfit}
use Rattle.rules.specs.declared.Result.{Result}
use Rattle.rules.specs.declared.Change.{Change}
use Rattle.rules.specs.Result.{alu_result, shift_result}
use Rattle.rules.specs.Change.{change_of}
use Rattle.rules.specs.Narrow.{RowLeft, narrow_entry, narrow_row}
use Rattle.passes.specs.declared.Answer.{Answer}
use Rattle.checker.specs.Passes.{check_of}
use Rattle.bundle.specs.Bundle.{bundle_answer}

-- what is added to a policy
pub data Addition : Type 0 where
  -- a region of a size
  region : ℕ → Addition
  -- a field of a region
  field : ℕ → Field → Addition

-- what is given
pub data Given : Type 0 where
  -- a word, to be read
  word : ℕ → Given
  -- an instruction, to be written
  instruction : Instruction → Given
  -- the same, of which document 01's number is asked
  read_answer : ℕ → Given
  write_answer : Instruction → Given
  -- the word at an index, and the edge of it that is taken or the other
  edge : ℕ → ℕ → Bool → Given
  -- a word, of which the register is asked that it writes
  writing : ℕ → Given
  -- words, of which each is asked whether it is examined
  examining : List ℕ → Given
  -- an operation and its two operands
  operation : AluOp → ℕ → ℕ → Given
  -- a shift, the word shifted and the count
  shift : ShiftOp → ℕ → ℕ → Given
  -- one of the sixteen conditions, tried on all codes
  condition : ℕ → Given
  -- a policy and what is added to it, each to the policy that the add before gave back
  adds : Policy → List Addition → Given
  -- a load, the memory and the place
  loaded : LoadOp → List ℕ → ℕ → Given
  -- a store, the value, the place and the memory
  stored : StoreOp → ℕ → ℕ → List ℕ → Given
  -- the sizes of the regions, and the region whose part of the memory is sought
  begins : List ℕ → ℕ → Given
  -- a run: policy, words, bases, return address, frame address, registers, allowance, memory
  runs : Policy → List ℕ → List ℕ → ℕ → ℕ → Registers → ℕ → List ℕ → Given
  -- a row's bytes, whose form is tested: how many regions there are, their sizes, the bytes
  form : ℕ → List ℕ → List ℕ → Given
  -- an entry, a note or a row, and the one that it is to fit
  fitting : Entry → Entry → Given
  fitting_note : Note → Note → Given
  fitting_row : Rows·.Row → Rows·.Row → Given
  -- an operation on two entries, with the sizes of the regions; a shift of an entry by another
  entries : List ℕ → AluOp → Entry → Entry → Given
  shifted_entry : ShiftOp → Entry → Entry → Given
  -- a word on a row
  change : Policy → Rows·.Row → ℕ → Given
  -- one of the sixteen conditions, which holds of an entry compared with a number, or on a row with its note
  narrowing : ℕ → Entry → ℕ → Given
  narrowing_row : ℕ → Rows·.Row → Given
  -- a check: policy, words, the rows' bytes, the entry row's, the result entry's
  check : Policy → List ℕ → List ℕ → List ℕ → List ℕ → Given
  -- the bytes of a bundle
  bundle : List ℕ → Given

-- what comes of it
pub data Outcome : Type 0 where
  reads : Reading → Outcome
  writes : Option ℕ → Outcome
  -- an edge; a word that is not read has none
  goes : Edge → Outcome
  -- for each word, whether it is examined
  marks : List Bool → Outcome
  -- the result, and the codes that the code-setting form sets, as the digit NZVC
  sets : ℕ → ℕ → Outcome
  -- the result, or the number of an answer
  yields : ℕ → Outcome
  -- the codes that meet it: bit n stands for the codes NZVC = n
  meets : ℕ → Outcome
  -- the number that each add gives, 0 for accepted
  numbers : List ℕ → Outcome
  -- the memory afterwards
  leaves : List ℕ → Outcome
  -- how a run ended, its steps, the values and the marks of r0 to r7, the codes as the digit NZVC, 16 more if they are set, and the
  -- memory afterwards
  ends : End → ℕ → List ℕ → List Bool → ℕ → List ℕ → Outcome
  -- it fits, or it does not
  fitted : Bool → Outcome
  -- the lowest place of a row that is badly formed or does not fit, or none
  flaw : Option ℕ → Outcome
  -- the result's entry, or the number of the condition that it breaks
  makes : Result → Outcome
  -- what the word does to the row
  changes : Change → Outcome
  -- what is left of the entry, or of the row
  remains : Option Entry → Outcome
  row_remains : RowLeft → Outcome
  -- an answer: number, word, register
  answers : ℕ → ℕ → ℕ → Outcome

-- a case and the outcome that it must have
infix 70 ◌gives◌
pub data Row : Type 0 where
  ◌gives◌ : Given → Outcome → Row

abbrev pub given : Row → Given
given (g gives o) = g

abbrev pub expected : Row → Outcome
expected (g gives o) = o

-- the digit NZVC of codes, and the codes of a digit
abbrev pub digit_of : Codes → ℕ
digit_of f = cond f.n 8 0 + cond f.z 4 0 + cond f.v 2 0 + cond f.c 1 0

abbrev pub codes_at : ℕ → Codes
codes_at d = record { n = eqb (d / 8 % 2) 1; z = eqb (d / 4 % 2) 1; v = eqb (d / 2 % 2) 1; c = eqb (d % 2) 1 }

-- the codes below n that meet a condition, a bit each
abbrev pub meeting_below : ℕ → ℕ → ℕ
meeting_below k zero = 0
meeting_below k (suc n) = cond (cond_holds k (codes_at n)) (2 ^ n) 0 + meeting_below k n

-- the edges of a word, and the register that it writes, as it is read
abbrev pub edge_by : ℕ → Bool → Reading → Outcome
edge_by at taken (Read x) = goes (edge_of at x taken)
edge_by at taken (Unread n) = reads (Unread n)

abbrev pub written_by : Reading → Outcome
written_by (Read x) = yields (register_written x)
written_by (Unread n) = reads (Unread n)

-- which of the words up to an index are examined, the last first
abbrev pub examined_below : List Reading → ℕ → List Bool
examined_below readings zero = []
examined_below readings (suc n) = examined readings n ∷ examined_below readings n

-- one add
abbrev pub add_of : Policy → Addition → Built
add_of p (region size) = add_region_of p size
add_of p (field r f) = add_field_of p r f

-- the numbers that some adds give, one after the other
abbrev pub numbers_of : Policy → List Addition → List ℕ
numbers_of p [] = []
numbers_of p (a ∷ more) = (add_of p a).number ∷ numbers_of (add_of p a).policy more

-- the outcome of a run
abbrev pub ends_of : Run → Outcome
ends_of r =
    ends r.outcome.end r.outcome.steps (take 8 r.outcome.registers.values) (take 8 r.outcome.registers.marks)
    (cond r.outcome.registers.codes.set 16 0 + digit_of r.outcome.registers.codes.value)
    r.memory

-- the outcome of a word, as it is read, on a row
abbrev pub change_by : Policy → Rows·.Row → Reading → Outcome
change_by p row (Read x) = changes (change_of p row x)
change_by p row (Unread n) = reads (Unread n)

-- judges: what tests the form of a row, checks a routine and answers a bundle
pub record Judges : Type 0 where
  -- how many regions there are, their sizes, the row's bytes
  pub form : ℕ → List ℕ → List ℕ → Option ℕ
  -- policy, words, the rows' bytes, the entry row's, the result entry's
  pub check : Edition → Policy → List ℕ → List ℕ → List ℕ → List ℕ → Answer
  -- the bundle's bytes
  pub bundle : Edition → List ℕ → Answer

-- the definitions, as judges
abbrev pub defined : Judges
defined = record { form = λ regions sizes bytes. form_fault regions sizes bytes 0; check = check_of; bundle = bundle_answer }

-- what comes of what is given, by such judges, on a terminal of the edition. (The definitions cost the prover much to compute, so a proof takes
-- other judges, and shows that they are the same.)
abbrev pub outcome_by : Judges → Edition → Given → Outcome
outcome_by j e (word w) = reads (reading_of e w)
outcome_by j e (instruction x) = writes (writing_of e x)
outcome_by j e (read_answer w) = yields (read_number (reading_of e w))
outcome_by j e (write_answer x) = yields (write_number (writing_of e x))
outcome_by j e (edge at w taken) = edge_by at taken (reading_of e w)
outcome_by j e (writing w) = written_by (reading_of e w)
outcome_by j e (examining words) = marks (examined_below (readings_of e words) (length words))
outcome_by j e (operation op x y) = sets (alu_of op x y) (digit_of (codes_of op x y))
outcome_by j e (shift op x n) = yields (shift_of op x n)
outcome_by j e (condition k) = meets (meeting_below k 16)
outcome_by j e (adds p more) = numbers (numbers_of p more)
outcome_by j e (loaded op m a) = yields (load_of op m a)
outcome_by j e (stored op v a m) = leaves (store_of op v a m)
outcome_by j e (begins sizes r) = yields (part_start sizes r)
outcome_by j e (runs p words bases returns frame g allowance memory) = ends_of (run_of e p words bases returns frame g allowance memory)
outcome_by j e (form regions sizes bytes) = flaw (j.form regions sizes bytes)
outcome_by j e (fitting a b) = fitted (fits a b)
outcome_by j e (fitting_note a b) = fitted (fits_note a b)
outcome_by j e (fitting_row a b) = flaw (misfit a b)
outcome_by j e (entries sizes op a b) = makes (alu_result sizes op a b)
outcome_by j e (shifted_entry op a b) = makes (shift_result op a b)
outcome_by j e (change p row w) = change_by p row (reading_of e w)
outcome_by j e (narrowing k a n) = remains (narrow_entry (condition_of k).narrowing a n)
outcome_by j e (narrowing_row k row) = row_remains (narrow_row (condition_of k).narrowing row)
outcome_by j e (check p words rows entry result) =
    let a = j.check e p words rows entry result in answers a.number a.word.0 a.register
outcome_by j e (bundle b) = let a = j.bundle e b in answers a.number a.word.0 a.register

-- what the definitions give
abbrev pub outcome : Edition → Given → Outcome
outcome e g = outcome_by defined e g

-- .. for a row
abbrev pub found : Edition → Row → Outcome
found e r = outcome e (given r)

-- the rows of a list hold: each has the outcome that it expects
abbrev pub Holds : Edition → List Row → Type 0
Holds e rows = map (found e) rows ≡ map expected rows
