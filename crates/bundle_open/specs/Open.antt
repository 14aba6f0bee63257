-- A bundle opened: its policy as the adds build it, its words, and where its other parts stand; or the number of the refusal, and then
-- nothing else (document 01, "Bundle": "23 ..; then the add refusals").
use Rattle.std.specs.Prelude.{ℕ, ◌-◌, ◌≤◌, cond, List, ◌++◌, ◌≡◌, eqb, length, replicate}
use Rattle.v8.specs.Numbers.{acceptance, bad_bundle}
use Rattle.policy.specs.declared.Policy.{Policy}
use Rattle.policy.specs.declared.Built.{Built}
use Rattle.policy.specs.Build.{empty_policy}
use Rattle.bundle_open.specs.declared.Opened.{Opened}
use Rattle.bundle_layout.specs.Layout.{most_given, word_count, entry_place, result_place, words_place, rows_place, length_given, bundle_ok}
use Rattle.bundle_open.specs.Build.{words_from, built_of}

-- the n words from a place on, in an array that has zeros after them
abbrev pub words_held : List ℕ → ℕ → ℕ → List ℕ
words_held b at n = words_from b at n ++ replicate (most_given - n) 0

-- a refusal: all but its number is empty
abbrev pub closed : ℕ → Opened
closed number =
    record {
      number = number;
      policy = empty_policy;
      count = 0;
      words = replicate most_given 0;
      entry = 0;
      result = 0;
      code = 0;
      rows = 0;
      end = 0;
    }

module _ (b : List ℕ) where
  -- what stands in the bundle, with its policy
  abbrev pub opened_with : Policy → Opened
  opened_with p =
      record {
        number = acceptance;
        policy = p;
        count = word_count b;
        words = words_held b (words_place b) (word_count b);
        entry = entry_place b;
        result = result_place b;
        code = words_place b;
        rows = rows_place b;
        end = length_given b;
      }

  abbrev pub opened_built : Built → Opened
  opened_built built = cond (eqb built.number acceptance) (opened_with built.policy) (closed built.number)

  -- the bundle opened
  unfoldable pub opened_of : Opened
  opened_of = cond (bundle_ok b) (opened_built (built_of b)) (closed bad_bundle)

-- what stands in the bundle's bytes, opened
abbrev pub Holds : List ℕ → Opened → Type 0
Holds b o = (o ≡ opened_of b) × (o.number ≡ acceptance)

-- the words are an array of the most given, no more than those are words, and the places ascend, the last at most at the end of n bytes
abbrev pub Inside : Opened → ℕ → Type 0
Inside o n =
    (most_given ≡ length o.words) × (o.count ≤ most_given) × (o.entry ≤ o.result) × (o.result ≤ o.code) × (o.code ≤ o.rows) × (o.rows ≤ o.end) × (o.end ≤ n)
