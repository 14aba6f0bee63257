-- A check that passes: a row without a flaw is accepted, where each word passes the pass over the words does, and
-- where each pass does the check accepts. (The other direction, what an accepted check shows, is checker's.)
use Rattle.std.specs.Prelude.{Option, None}
use Prim.Native.Nat.{ℕ, ◌≤◌, ◌<◌}
use mathlib.Core.Path.{◌≡◌, refl, sym, ap, ◌∙◌}
use mathlib.Core.Bool.{Bool, true, false, not}
use mathlib.Core.List.{List}
use lib.Dec.{ltb}
use borrow.Author.Tests.{ltb-true, ltb-false, le-ltb}
use Rattle.v8.specs.Search.{first}
use Rattle.v8.proofs.Search.{first_passes}
use Rattle.v8.proofs.Choice.{false_true}
use Rattle.policy.specs.Policy.{policy_ok}
use Rattle.rows.specs.Geometry.{row_bytes}
use Rattle.rows.specs.Row.{broken_at, form_fault}
use Rattle.rows.proofs.LowestFlaw.{none_broken, no_flaw}
use Rattle.passes.specs.declared.Answer.{Answer}
use Rattle.passes.specs.Answer.{accepted, passes, refuses, pass_of}
use Rattle.checker.specs.Routine.{Routine, count}
use Rattle.passes.specs.Passes.{unless_fault, row_pass, read_pass, flow_pass, entry_pass}
use Rattle.passes_shape.specs.Shape.{shape_ok}
use Rattle.checker.specs.Passes.{word_pass, answer_of}
use Rattle.claims.proofs.Agreeing.{Agree, same_form}

-- a search finds none below its bound if none there passes
pub none_found : (f : ℕ → Bool) (n : ℕ) → ((i : ℕ) → i < n → f i ≡ false) → n ≤ first f 0 n
none_found f n h = at (ltb (first f 0 n) n) refl
  where
    at : (t : Bool) → ltb (first f 0 n) n ≡ t → n ≤ first f 0 n
    at true t =
        let l = ltb-true (first f 0 n) n t in
        false_true (sym (h (first f 0 n) l) ∙ first_passes f 0 n l)
    at false t = ltb-false (first f 0 n) n t

-- a row that has no flaw is accepted
pub unless_none : (number w : ℕ) (flaw : Option ℕ) → flaw ≡ None → unless_fault number w flaw ≡ accepted
unless_none number w flaw e = rw e

-- a row whose bytes agree with those of a well formed one is well formed
pub formed_too : (regions : ℕ) (sizes xs ys : List ℕ) (x y : ℕ) → Agree xs ys x y row_bytes
    → form_fault regions sizes ys y ≡ None → form_fault regions sizes xs x ≡ None
unfolding form_fault
formed_too regions sizes xs ys x y h e =
    no_flaw (broken_at regions sizes xs x)
    (λ place l. ap not (same_form xs ys regions sizes x y place l h) ∙ none_broken (broken_at regions sizes ys y) e place l)

-- a pass over the words accepts if each word does
pub all_pass : (f : ℕ → Answer) (n : ℕ) → ((w : ℕ) → w < n → passes (f w) ≡ true) → pass_of f n ≡ accepted
unfolding pass_of
all_pass f n h = rw (le-ltb (first (refuses f) 0 n) n (none_found (refuses f) n (λ w l. ap not (h w l))))

-- the passes before the flow of the words
module _ (t : Routine) (policy : policy_ok t.policy ≡ true) (shape : shape_ok t.policy (count t) t.rows t.entry t.result ≡ true)
    (rows : pass_of (row_pass t.policy t.rows) (count t) ≡ accepted) (reads : pass_of (read_pass t.readings) (count t) ≡ accepted) where
  -- a check that goes as far as the flow answers what that pass does, if it refuses
  pub flow_answers : (a : Answer) → pass_of (flow_pass t.readings) (count t) ≡ a → passes a ≡ false → answer_of t ≡ a
  unfolding answer_of
  flow_answers a e f = rw (policy, shape, rows, reads, e, f)

  -- a check all of whose passes accept does
  pub all_accept :
      pass_of (flow_pass t.readings) (count t) ≡ accepted → entry_pass t.rows t.entry ≡ accepted
      → pass_of (word_pass t.policy t.readings t.rows t.result) (count t) ≡ accepted → answer_of t ≡ accepted
  unfolding answer_of
  all_accept flows entry words = rw (policy, shape, rows, reads, flows, entry, words)
