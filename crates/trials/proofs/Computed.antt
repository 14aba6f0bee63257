-- The outcomes, as they are computed: where a row's form is tested, it is read from the bytes that begin with each place. The outcomes are the
-- same, so rows that hold by this computation hold.
use Prim.Native.Nat.{ℕ}
use mathlib.Core.Path.{◌≡◌, ap, ◌∙◌}
use mathlib.Core.Bool.{cond}
use mathlib.Core.List.{List, map}
use lib.Dec.{eqb}
use Rattle.v8.specs.Numbers.{acceptance, bad_bundle}
use Rattle.v8.specs.declared.Edition.{Edition}
use Rattle.policy.specs.declared.Built.{Built}
use Rattle.rows.specs.Geometry.{entry_bytes}
use Rattle.passes.specs.declared.Answer.{Answer}
use Rattle.passes.specs.Answer.{refuse}
use Rattle.bundle_layout.specs.Layout.{word_count, entry_place, result_place, words_place, rows_place, bundle_ok}
use Rattle.bundle_rows.specs.Wide.{part, rows_read, entry_read}
use Rattle.bundle_open.specs.Build.{words_from, built_of}
use Rattle.bundle.specs.Bundle.{bundle_answer}
use Rattle.claims.proofs.Shifted.{form_from, form-from}
use Rattle.claims.proofs.Computed.{check_from, check-from}
use Rattle.trials.specs.Case.{Row, Judges, defined, outcome_by, given, expected, Holds}

-- the answer to a bundle whose policy is built
abbrev built_from : Edition → List ℕ → Built → Answer
built_from e b built =
    cond (eqb built.number acceptance)
    (check_from e built.policy (words_from b (words_place b) (word_count b)) (rows_read b (rows_place b) (word_count b)) (entry_read b (entry_place b)) (part b (result_place b) entry_bytes))
    (refuse built.number 0 0)

abbrev bundle_from : Edition → List ℕ → Answer
bundle_from e b = cond (bundle_ok b) (built_from e b (built_of b)) (refuse bad_bundle 0 0)

bundle-from : (e : Edition) (b : List ℕ) → bundle_answer e b ≡ bundle_from e b
unfolding bundle_answer
bundle-from e b = rw check-from

-- what computes the outcomes, the same as the definitions
abbrev computed : Judges
computed = record { form = form_from; check = check_from; bundle = bundle_from }

same : defined ≡ computed
same k =
    record {
      form = λ regions sizes bytes. form-from regions sizes bytes 0 k;
      check = λ e p words rows entry result. check-from e p words rows entry result k;
      bundle = λ e b. bundle-from e b k;
    }

-- the rows of a list hold, so computed
abbrev pub Computed : Edition → List Row → Type 0
Computed e rows = map (λ (r : Row). outcome_by computed e (given r)) rows ≡ map expected rows

pub by_computing : (e : Edition) (rows : List Row) → Computed e rows → Holds e rows
by_computing e rows h = ap (λ (j : Judges). map (λ (r : Row). outcome_by j e (given r)) rows) same ∙ h
