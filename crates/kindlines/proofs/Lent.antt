-- The listing of what an opened bundle lends is the bundle's.
use Prim.Native.Nat.{ℕ, ◌+◌, ◌-◌}
use mathlib.Core.Bool.{true, false, cond}
use mathlib.Core.List.{List}
use mathlib.Core.Path.{◌≡◌, refl, sym, ◌∙◌}
use native.Mathlib.Omega.{arith}
use lib.Dec.{eqb}
use lib.ListN.{take}
use Rattle.v8.specs.declared.Edition.{Edition}
use Rattle.v8.proofs.Choice.{cond_both}
use Rattle.policy.specs.declared.Policy.{Policy}
use Rattle.lister.specs.Listing.{Listed, listed}
use Rattle.bundle_open.specs.declared.Opened.{Opened}
use Rattle.bundle_layout.specs.Layout.{narrow, word_count, words_place, bundle_ok}
use Rattle.bundle_rows.specs.Wide.{part, wide_rows, entry_read}
use Rattle.bundle_open.specs.Build.{built_of}
use Rattle.bundle_open.specs.Open.{Holds, opened_with, opened_of}
use Rattle.bundle_open.proofs.Words.{words-held}
use Rattle.bundle_open.proofs.Laid.{laid}
use Rattle.kindlines.specs.Bundled.{unlisted, listed_by, bundle_listed}

-- how many bytes stand between two places
between : (a n : ℕ) → a + n - a ≡ n
between a n = omega arith

module _ (e : Edition) (b table : List ℕ) where
  -- the listing of what an opened bundle holds, with this entry row
  abbrev pub listed_from : Opened → List ℕ → Listed
  listed_from o entry = listed e o.policy (take o.count o.words) entry table

  -- .. as it is read
  abbrev pub listed_in : Opened → Listed
  listed_in o = listed_from o (entry_read b o.entry)

  same_listing : (p : Policy) → listed_in (opened_with b p) ≡ listed_by e b table p
  same_listing p = rw (words-held b (word_count b) (words_place b)) refl

  -- the listing by what is opened
  abbrev ListedBy : Opened → Type 0
  ListedBy o = cond (eqb o.number 0) (listed_in o) (unlisted table o.number) ≡ bundle_listed e b table

  listed_by_lem : ListedBy (opened_of b)
  unfolding opened_of bundle_listed
  listed_by_lem =
      cond_both ListedBy (bundle_ok b)
      (λ ok. cond_both ListedBy (eqb (built_of b).number 0) (λ z. same_listing (built_of b).policy ∙ sym (simp (ok, z))) (λ z. simp (ok, z)))
      (λ bad. simp bad)

  listed_is : (o : Opened) (l : Listed) → Holds b o → l ≡ listed_in o → l ≡ bundle_listed e b table
  listed_is o l h f = let g : ListedBy o = rw h.0 listed_by_lem in f ∙ sym (simp h.1) ∙ g

  -- version 2: the entry row as it stands
  pub wide_is :
      (o : Opened) (l : Listed) → Holds b o → narrow b ≡ false → l ≡ listed_from o (part b o.entry (o.result - o.entry)) → l ≡ bundle_listed e b table
  wide_is o l h t f = let q = (laid b o h).0 in listed_is o l h (f ∙ simp (q, t, between))

  -- version 1: the entry row widened
  pub narrow_is :
      (o : Opened) (l : Listed) (entry : List ℕ) → Holds b o → narrow b ≡ true → entry ≡ wide_rows b o.entry 1 → l ≡ listed_from o entry
      → l ≡ bundle_listed e b table
  narrow_is o l entry h t q f = listed_is o l h (f ∙ simp (q, t))

  pub unlisted_is : (o : Opened) → o ≡ opened_of b → eqb o.number 0 ≡ false → unlisted table o.number ≡ bundle_listed e b table
  unlisted_is o h z = let g : ListedBy o = rw h listed_by_lem in sym (simp z) ∙ g
