-- The check, as it is computed: where a pass tests the form of a row, that form is read from the bytes that begin with each place. It is the same
-- check, so an answer that is so computed is the check's.
use Prim.Native.Nat.{ℕ, ◌*◌}
use mathlib.Core.Path.{◌≡◌, ap, fun_ext}
use mathlib.Core.Bool.{Bool, ◌&&◌}
use mathlib.Core.List.{List}
use lib.Dec.{leb, eqb}
use lib.ListN.{length, drop}
use Rattle.v8.specs.Numbers.{bad_shape, bad_row, most_words}
use Rattle.v8.specs.declared.Edition.{Edition}
use Rattle.policy.specs.declared.Policy.{Policy}
use Rattle.rows.specs.Flaw.{flawless}
use Rattle.rows.specs.Geometry.{row_bytes, entry_bytes}
use Rattle.rows.specs.Row.{entry_formed_as, scratch_unset}
use Rattle.passes.specs.declared.Answer.{Answer}
use Rattle.passes.specs.Answer.{and_then, need, pass_of}
use Rattle.passes_shape.specs.Shape.{result_register, start_ok, shape_ok}
use Rattle.passes.specs.Passes.{unless_fault, policy_pass, row_pass, read_pass, flow_pass, entry_pass}
use Rattle.checker.specs.Routine.{Routine, routine_of, count}
use Rattle.checker.specs.Passes.{word_pass, answer_of, check_of}
use Rattle.claims.proofs.Shifted.{form_from, form-from}

-- what is asked of the entry row
abbrev pub start_from : ℕ → List ℕ → ℕ → List ℕ → Bool
start_from regions sizes n entry =
    leb 1 n && leb n most_words && eqb (length entry) row_bytes && flawless (form_from regions sizes entry) && scratch_unset entry 0

pub start-from : (regions : ℕ) (sizes : List ℕ) (n : ℕ) (entry : List ℕ) → start_ok regions sizes n entry ≡ start_from regions sizes n entry
start-from regions sizes n entry = rw (form-from regions sizes entry 0)

-- .. and with it of the rows and the result entry
abbrev shape_from : Policy → ℕ → List ℕ → List ℕ → List ℕ → Bool
shape_from p n rows entry result =
    start_from p.regions.count p.regions.sizes n entry && eqb (length rows) (row_bytes * n) && eqb (length result) entry_bytes
    && entry_formed_as p.regions.count p.regions.sizes result 0 result_register

shape-from : (p : Policy) (n : ℕ) (rows entry result : List ℕ) → shape_ok p n rows entry result ≡ shape_from p n rows entry result
unfolding shape_ok
shape-from p n rows entry result = rw (start-from p.regions.count p.regions.sizes n entry)

-- the form of word w's row
abbrev pub row_pass_from : Policy → List ℕ → ℕ → Answer
row_pass_from p rows w = unless_fault bad_row w (form_from p.regions.count p.regions.sizes (drop (row_bytes * w) rows))

pub row-pass-from : (p : Policy) (rows : List ℕ) → row_pass p rows ≡ row_pass_from p rows
unfolding row_pass
row-pass-from p rows =
    fun_ext (λ (w : ℕ). ap (unless_fault bad_row w) (form-from p.regions.count p.regions.sizes rows (row_bytes * w)))

-- the check of a routine
abbrev answer_from : Routine → Answer
answer_from t =
    and_then (policy_pass t.policy)
    (and_then (need (shape_from t.policy (count t) t.rows t.entry t.result) bad_shape 0 0)
    (and_then (pass_of (row_pass_from t.policy t.rows) (count t))
    (and_then (pass_of (read_pass t.readings) (count t))
    (and_then (pass_of (flow_pass t.readings) (count t))
    (and_then (entry_pass t.rows t.entry)
    (pass_of (word_pass t.policy t.readings t.rows t.result) (count t)))))))

answer-from : (t : Routine) → answer_of t ≡ answer_from t
unfolding answer_of
answer-from t =
    rw (shape-from t.policy (count t) t.rows t.entry t.result, row-pass-from t.policy t.rows)

-- the check, for a terminal of the edition
abbrev pub check_from : Edition → Policy → List ℕ → List ℕ → List ℕ → List ℕ → Answer
check_from e p words rows entry result = answer_from (routine_of e p words rows entry result)

pub check-from : (e : Edition) (p : Policy) (words rows entry result : List ℕ) → check_of e p words rows entry result ≡ check_from e p words rows entry result
unfolding check_of
check-from e p words rows entry result = answer-from (routine_of e p words rows entry result)
