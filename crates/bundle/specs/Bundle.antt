-- The answer to a bundle (document 01, "Bundle"): "23 ..; then the add refusals, then the check's"
use Rattle.std.specs.Prelude.{ℕ, cond, List, eqb}
use Rattle.v8.specs.Numbers.{acceptance, bad_bundle}
use Rattle.v8.specs.declared.Edition.{Edition}
use Rattle.policy.specs.declared.Policy.{Policy}
use Rattle.policy.specs.declared.Built.{Built}
use Rattle.rows.specs.Geometry.{entry_bytes}
use Rattle.passes.specs.declared.Answer.{Answer}
use Rattle.passes.specs.Answer.{refuse}
use Rattle.checker.specs.Passes.{check_of}
use Rattle.bundle_layout.specs.Layout.{word_count, entry_place, result_place, words_place, rows_place, bundle_ok}
use Rattle.bundle_rows.specs.Wide.{part, rows_read, entry_read}
use Rattle.bundle_open.specs.Build.{words_from, built_of}

-- request 5: "each edition has its bundle program"; the edition is no part of a bundle
module _ (e : Edition) (b : List ℕ) where
  -- the check of what stands in the bundle
  abbrev pub checked_with : Policy → Answer
  checked_with p =
      check_of e p (words_from b (words_place b) (word_count b)) (rows_read b (rows_place b) (word_count b)) (entry_read b (entry_place b))
      (part b (result_place b) entry_bytes)

  abbrev pub after_built : Built → Answer
  after_built built = cond (eqb built.number acceptance) (checked_with built.policy) (refuse built.number 0 0)

  -- the answer
  unfoldable pub bundle_answer : Answer
  bundle_answer = cond (bundle_ok b) (after_built (built_of b)) (refuse bad_bundle 0 0)
