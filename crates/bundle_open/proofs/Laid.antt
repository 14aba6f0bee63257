-- Where the parts of an opened bundle stand: as far apart as the rows of its version take, and inside its bytes.
use Prim.Native.Nat.{ℕ, ◌+◌, ◌*◌}
use mathlib.Core.Bool.{true, false, true≢false}
use mathlib.Core.List.{List}
use mathlib.Core.Path.{◌≡◌, refl, sym, ◌∙◌}
use native.Mathlib.Omega.{arith}
use lib.Dec.{eqb}
use lib.ListN.{length}
use borrow.Author.Tests.{eq-eqb}
use Rattle.v8.proofs.Choice.{cond_both}
use Rattle.v8.specs.Numbers.{bad_bundle}
use Rattle.bundle_open.specs.declared.Opened.{Opened}
use Rattle.bundle_layout.specs.Layout.{narrow_row_bytes, narrow, rows_bytes, word_count, words_place, bundle_ok}
use Rattle.bundle_open.specs.Build.{built_of}
use Rattle.bundle_open.specs.Open.{Holds, Inside, closed, opened_of}
use Rattle.bundle_layout.proofs.Sizes.{most_bytes_lem, given_bytes, words_given}
use Rattle.bundle_open.proofs.Words.{held_length}

module _ (b : List ℕ) where
  -- the places stand apart as the rows of its version do
  abbrev Laid : Opened → Type 0
  Laid o = (o.number ≡ 0) → (o.result ≡ o.entry + rows_bytes b 1) × (o.end ≡ o.rows + rows_bytes b o.count)

  closed_laid : (number : ℕ) → eqb number 0 ≡ false → Laid (closed number)
  closed_laid number z q = absurd (true≢false (sym (eq-eqb _ _ q) ∙ z))

  opened_laid : Laid (opened_of b)
  unfolding opened_of
  opened_laid =
      cond_both Laid (bundle_ok b)
      (λ ok. cond_both Laid (eqb (built_of b).number 0) (λ z. λ q. (refl, refl)) (λ z. closed_laid (built_of b).number z))
      (λ bad. closed_laid bad_bundle refl)

  pub laid : (o : Opened) → Holds b o → (o.result ≡ o.entry + rows_bytes b 1) × (o.end ≡ o.rows + rows_bytes b o.count)
  laid o h = let l : Laid o = rw h.0 opened_laid in l h.1

  -- .. in version 1
  pub narrow_laid :
      (o : Opened) → Holds b o → narrow b ≡ true → (o.result ≡ o.entry + narrow_row_bytes * 1) × (o.end ≡ o.rows + narrow_row_bytes * o.count)
  narrow_laid o h t = let l = laid o h in (l.0 ∙ simp t, l.1 ∙ simp t)

  -- the places lie in the bytes
  abbrev pub InBytes : Opened → Type 0
  InBytes o = Inside o (length b)

  closed_inside : (number : ℕ) → InBytes (closed number)
  closed_inside number = (refl, omega arith, omega arith, omega arith, omega arith, omega arith, omega arith)

  inside : InBytes (opened_of b)
  unfolding opened_of
  inside =
      cond_both InBytes (bundle_ok b)
      (λ ok. let g = given_bytes b ok in let m = most_bytes_lem b ok in
      let l = words_given b g m in
      cond_both InBytes (eqb (built_of b).number 0)
      (λ z. (held_length b (word_count b) (words_place b) l, l, omega arith, omega arith, omega arith, omega arith, omega (arith, g)))
      (λ z. closed_inside (built_of b).number))
      (λ bad. closed_inside bad_bundle)

  pub opened_is : (o : Opened) → o ≡ opened_of b → (o ≡ opened_of b) × InBytes o
  opened_is o e = (e, rw e inside)
