-- The check of what an opened bundle lends is the bundle's answer.
use Prim.Native.Nat.{ℕ, ◌+◌, ◌-◌}
use mathlib.Core.Bool.{true, false, cond}
use mathlib.Core.List.{List}
use mathlib.Core.Path.{◌≡◌, sym, ◌∙◌}
use native.Mathlib.Omega.{arith}
use lib.Dec.{eqb}
use lib.ListN.{take}
use Rattle.v8.proofs.Choice.{cond_both}
use Rattle.v8.specs.declared.Edition.{Edition}
use Rattle.policy.specs.declared.Policy.{Policy}
use Rattle.passes.specs.declared.Answer.{Answer}
use Rattle.passes.specs.Answer.{refuse}
use Rattle.checker.specs.Passes.{check_of}
use Rattle.bundle_open.specs.declared.Opened.{Opened}
use Rattle.bundle_layout.specs.Layout.{narrow, word_count, words_place, bundle_ok}
use Rattle.bundle_rows.specs.Wide.{part, wide_rows, rows_read, entry_read}
use Rattle.bundle_open.specs.Build.{built_of}
use Rattle.bundle.specs.Bundle.{checked_with, bundle_answer}
use Rattle.bundle_open.specs.Open.{Holds, opened_with, opened_of}
use Rattle.bundle_open.proofs.Words.{words-held}
use Rattle.bundle_open.proofs.Laid.{laid}

-- how many bytes stand between two places
between : (a n : ℕ) → a + n - a ≡ n
between a n = omega arith

module _ (e : Edition) (b : List ℕ) where
  -- the check of what an opened bundle holds, with these rows and this entry row
  abbrev pub checked_by : Opened → List ℕ → List ℕ → Answer
  checked_by o rows entry =
      check_of e o.policy (take o.count o.words) rows entry (part b o.result (o.code - o.result))

  -- .. as they are read
  abbrev pub checked_in : Opened → Answer
  checked_in o = checked_by o (rows_read b o.rows o.count) (entry_read b o.entry)

  same_check : (p : Policy) → checked_in (opened_with b p) ≡ checked_with e b p
  same_check p = rw (words-held b (word_count b) (words_place b)) (simp between)

  -- the answer by what is opened
  abbrev Answered : Opened → Type 0
  Answered o = cond (eqb o.number 0) (checked_in o) (refuse o.number 0 0) ≡ bundle_answer e b

  answered : Answered (opened_of b)
  unfolding opened_of bundle_answer
  answered =
      cond_both Answered (bundle_ok b)
      (λ ok. cond_both Answered (eqb (built_of b).number 0) (λ z. same_check (built_of b).policy ∙ sym (simp (ok, z))) (λ z. simp (ok, z)))
      (λ bad. simp bad)

  checked_is : (o : Opened) (a : Answer) → Holds b o → a ≡ checked_in o → a ≡ bundle_answer e b
  checked_is o a h f = let g : Answered o = rw h.0 answered in f ∙ sym (simp h.1) ∙ g

  -- version 2: the rows as they stand
  pub wide_is :
      (o : Opened) (a : Answer) → Holds b o → narrow b ≡ false
      → a ≡ checked_by o (part b o.rows (o.end - o.rows)) (part b o.entry (o.result - o.entry)) → a ≡ bundle_answer e b
  wide_is o a h t f = let l = laid b o h in checked_is o a h (f ∙ simp (l.0, l.1, t, between))

  -- version 1: the rows widened
  pub narrow_is :
      (o : Opened) (a : Answer) (rows entry : List ℕ) → Holds b o → narrow b ≡ true → rows ≡ wide_rows b o.rows o.count
      → entry ≡ wide_rows b o.entry 1 → a ≡ checked_by o rows entry → a ≡ bundle_answer e b
  narrow_is o a rows entry h t p q f = checked_is o a h (f ∙ simp (p, q, t))

  pub refused_is : (o : Opened) → o ≡ opened_of b → eqb o.number 0 ≡ false → refuse o.number 0 0 ≡ bundle_answer e b
  refused_is o q z = let g : Answered o = rw q answered in sym (simp z) ∙ g
