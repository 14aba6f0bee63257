-- What document 01's trial words say of every row ("Trial words"): stated for every terminal, policy, entry row and result entry, not for single ones.
-- Their proofs are `return-then-nop`, `one-nop` and `loop-accepted` in proofs/Answered.antt, and `loop-never-returns` in proofs/Looped.antt.
-- And, of one routine, that the running guarantee is about something: `start-exists` in proofs/Unlinked.antt; and, of every routine that the check
-- accepts for the older terminal, that it does so for the newer one: `accepted-too` in proofs/Alike.antt.
use Rattle.std.specs.Prelude.{ℕ, ◌+◌, ◌*◌, ◌<◌, ◌≡◌, true, List, [], ◌∷◌, length, None}
use Rattle.v8.specs.declared.Edition.{Edition}
use Rattle.v8.specs.declared.Edition.TheVariants.{V8, V9}
use Rattle.policy.specs.declared.Policy.{Policy}
use Rattle.policy.specs.Policy.{policy_ok}
use Rattle.memory.specs.Memory.{byte_at}
use Rattle.step.specs.declared.Registers.{Registers}
use Rattle.step.specs.Registers.{value_of}
use Rattle.machine_steps.specs.declared.End.TheVariants.{Returned, Spent}
use Rattle.machine_steps.specs.Steps.{Run}
use Rattle.machine.specs.Run.{run_of}
use Rattle.rows.specs.Entry.{is_return, fits}
use Rattle.rows.specs.Geometry.{row_bytes, entry_bytes}
use Rattle.rows.specs.Row.{entry_at, entry_of, entry_formed_as, row_of, form_fault, scratch_unset}
use Rattle.passes.specs.Answer.{accepted, refuse}
use Rattle.passes_shape.specs.Shape.{result_register}
use Rattle.checker.specs.Passes.{check_of}
use Rattle.guarantee.specs.Guarantee.{Start}
use Rattle.claims.specs.Unlink as Unlink

-- the words: the leaf return, the nop (SETHI 0 to r0), and the branch that is always taken, to itself
abbrev pub return_word : ℕ
return_word = 0x81C3E008

abbrev pub nop : ℕ
nop = 0x01000000

abbrev pub always_here : ℕ
always_here = 0x10800000

-- a policy that obeys the rules, and an entry row and a result entry that are well formed: no place of the row has a flaw, and its scratch words are
-- unset
pub record WellFormedEntry (p : Policy) (entry result : List ℕ) : Type 0 where
  pub policy : policy_ok p ≡ true
  pub entry_long : length entry ≡ row_bytes
  pub entry-formed : form_fault p.regions.count p.regions.sizes entry 0 ≡ None
  pub entry_unset : scratch_unset entry 0 ≡ true
  pub result_long : length result ≡ entry_bytes
  pub result_formed : entry_formed_as p.regions.count p.regions.sizes result 0 result_register ≡ true

-- "all rows equal to a well-formed entry row": n rows, each byte by byte the entry row
pub record AllRowsEqual (rows entry : List ℕ) (n : ℕ) : Type 0 where
  pub long : length rows ≡ row_bytes * n
  pub same : (w j : ℕ) → w < n → j < row_bytes → byte_at rows (row_bytes * w + j) ≡ byte_at entry j

-- "Return then nop, all rows equal to a well-formed entry row with r15 kind 4 and r8 fitting: 0 0 0."
abbrev pub ReturnThenNop : Type 0
ReturnThenNop =
    (e : Edition) (p : Policy) (rows entry result : List ℕ) → WellFormedEntry p entry result → AllRowsEqual rows entry 2
    → is_return (entry_at (row_of entry 0) 15) ≡ true → fits (entry_at (row_of entry 0) 8) (entry_of result 0) ≡ true
    → check_of e p (return_word ∷ nop ∷ []) rows entry result ≡ accepted

-- "One nop alone: 3 0 0." Whatever its row, if it is well formed: number 3, word 0, register 0.
abbrev pub OneNop : Type 0
OneNop =
    (e : Edition) (p : Policy) (rows entry result : List ℕ) → WellFormedEntry p entry result
    → length rows ≡ row_bytes → form_fault p.regions.count p.regions.sizes rows 0 ≡ None
    → check_of e p (nop ∷ []) rows entry result ≡ refuse 3 0 0

-- "10800000 (always, distance 0) then nop, both rows equal to the entry row: accepted, never returns." It is accepted ..
abbrev pub LoopAccepted : Type 0
LoopAccepted =
    (e : Edition) (p : Policy) (rows entry result : List ℕ) → WellFormedEntry p entry result → AllRowsEqual rows entry 2
    → check_of e p (always_here ∷ nop ∷ []) rows entry result ≡ accepted

-- .. and never returns: from every matching start every allowance is spent, to the last step. (A run reads no rows.)
abbrev pub LoopNeverReturns : Type 0
LoopNeverReturns =
    (e : Edition) (p : Policy) (entry result : List ℕ) → WellFormedEntry p entry result
    → (bases : List ℕ) (returns frame : ℕ) (g : Registers) (memory : List ℕ) → Start p entry bases returns frame g memory
    → (allowance : ℕ)
    → ((run_of e p (always_here ∷ nop ∷ []) bases returns frame g allowance memory).outcome.end ≡ Spent)
    × ((run_of e p (always_here ∷ nop ∷ []) bases returns frame g allowance memory).outcome.steps ≡ allowance)

-- "every matching start": there is one. The check accepts the routine of Unlink.antt, the start there matches its entry row, and from it the run
-- returns "where that was the last step allowed": a register was kept in a scratch word, the branch was taken once, through the link that it then made
-- null, and once not.
abbrev pub unlinking : Edition → Run
unlinking e = run_of e Unlink.policy Unlink.words Unlink.bases Unlink.returns Unlink.frame Unlink.registers 11 Unlink.memory

pub record StartExists (e : Edition) : Type 0 where
  pub checked : check_of e Unlink.policy Unlink.words Unlink.rows Unlink.entry Unlink.digits ≡ accepted
  pub matches : Start Unlink.policy Unlink.entry Unlink.bases Unlink.returns Unlink.frame Unlink.registers Unlink.memory
  pub returned : (unlinking e).outcome.end ≡ Returned
  pub counted : (unlinking e).outcome.steps ≡ 11
  pub gives : value_of (unlinking e).outcome.registers result_register ≡ 7
  pub leaves : (unlinking e).memory ≡ Unlink.cleared

-- Request 5: a routine that the check accepts for the older terminal it accepts for the newer one. (The other way it need not.)
abbrev pub AcceptedToo : Type 0
AcceptedToo = (p : Policy) (words rows entry result : List ℕ) → check_of V8 p words rows entry result ≡ accepted → check_of V9 p words rows entry result ≡ accepted
