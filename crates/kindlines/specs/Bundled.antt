-- The listing of a bundle's routine (document 02, request 2): that of the policy, the words and the entry row which the bundle holds, as the terminal reads the words. Its
-- rows and its result entry are not looked at. What is no bundle is refused with 23, then come the refusals of the adds, then the listing's;
-- a refusal leaves the lent table.
use Rattle.std.specs.Prelude.{ℕ, cond, List, eqb}
use Rattle.v8.specs.declared.Edition.{Edition}
use Rattle.v8.specs.Numbers.{acceptance, bad_bundle}
use Rattle.policy.specs.declared.Policy.{Policy}
use Rattle.policy.specs.declared.Built.{Built}
use Rattle.passes.specs.Answer.{refuse}
use Rattle.lister.specs.Listing.{Listed, listed}
use Rattle.bundle_layout.specs.Layout.{word_count, entry_place, words_place, bundle_ok}
use Rattle.bundle_rows.specs.Wide.{entry_read}
use Rattle.bundle_open.specs.Build.{words_from, built_of}

-- a refusal that names no word and no register
abbrev pub unlisted : List ℕ → ℕ → Listed
unlisted table number = record { answer = refuse number 0 0; table = table }

module _ (e : Edition) (b table : List ℕ) where
  -- the listing of what stands in the bundle
  abbrev pub listed_by : Policy → Listed
  listed_by p = listed e p (words_from b (words_place b) (word_count b)) (entry_read b (entry_place b)) table

  abbrev pub listed_built : Built → Listed
  listed_built built = cond (eqb built.number acceptance) (listed_by built.policy) (unlisted table built.number)

  unfoldable pub bundle_listed : Listed
  bundle_listed = cond (bundle_ok b) (listed_built (built_of b)) (unlisted table bad_bundle)
