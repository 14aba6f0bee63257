-- Whole checks of routines and bundles with predicted branches, on each terminal (document 02, request 5): number, word, register. There are few,
-- since each costs the prover much more than its passes for flow and words, in PassRows. The words are those that GNU as gives, and stand above each
-- row; a branch is told with the word that it lands on.
use Rattle.std.specs.Prelude.{ℕ, List, [], ◌∷◌, ◌++◌}
use Rattle.trials.specs.Case.{Row, Given, ◌gives◌, bundle, answers}
use Rattle.trials.specs.Entries.{unset, word_then, bytes_of_entry, narrow_of, narrow_of_rows}
use Rattle.trials.specs.CheckRows.{flow}
use Rattle.trials.specs.BundleRows.{head, called}
use Rattle.editionrows.specs.Hints.{all_give}

-- a bundle of no region: a word and a nop, at a call
abbrev pub bundled : ℕ → Given
bundled w =
    bundle (head 0x52 1 0 2 ++ narrow_of called ++ bytes_of_entry unset ++ word_then w (word_then 0x01000000 (narrow_of_rows (called ∷ called ∷ []))))

-- a predicted branch and a nop, as words and as a bundle: ba,pn %icc 0; nop, and ba,pt %icc 0; nop
abbrev pub looped : List Row
looped = flow (0x10400000 ∷ 0x01000000 ∷ []) gives answers 0 0 0 ∷ bundled 0x10480000 gives answers 0 0 0 ∷ []

abbrev pub newer_rows : List Row
newer_rows =
    looped
    -- "2 covers this branch with other codes": ba,pt %xcc 0; nop
    ++ flow (0x10680000 ∷ 0x01000000 ∷ []) gives answers 2 0 0
    -- ba 2; ba,pn %icc 0: it is read, so word 0 is named, whose target is outside
    ∷ flow (0x10800002 ∷ 0x1047FFFF ∷ []) gives answers 3 0 0
    ∷ []

-- "and the whole form on the older terminal"
abbrev pub older_rows : List Row
older_rows =
    all_give (answers 2 0 0) looped
    ++ flow (0x10680000 ∷ 0x01000000 ∷ []) gives answers 2 0 0
    ∷ flow (0x10800002 ∷ 0x1047FFFF ∷ []) gives answers 2 1 0
    ∷ []
