-- What later parts rest on: a join is the least of what both fit. The proofs are in proofs/.
use Rattle.std.specs.Prelude.{ℕ, ◌<◌, ◌≡◌, true, List}
use Rattle.sets.specs.declared.NumberSet.{NumberSet}
use Rattle.sets.specs.Sets.{modulus, fits_set, SetRules}
use Rattle.rows.specs.declared.Entry.{Entry}
use Rattle.rows.specs.declared.Note.{Note}
use Rattle.rows.specs.Entry.{entry_ok, fits, note_ok, fits_note}
use Rattle.rows.specs.Laws.{EntryRules}
use Rattle.joins.specs.Join.{join_sets, join_of, join_note}

-- The join of two sets is well formed ..
abbrev pub SetsFormed : Type 0
SetsFormed = (a b : NumberSet) → SetRules a → SetRules b → SetRules (join_sets a b)

-- .. both lie in it ..
abbrev pub BothLie : Type 0
BothLie =
    (a b : NumberSet) → SetRules a → SetRules b → (fits_set a (join_sets a b) ≡ true) × (fits_set b (join_sets a b) ≡ true)

-- .. and it lies in every set that both lie in.
abbrev pub LeastSet : Type 0
LeastSet =
    (a b c : NumberSet) → SetRules a → SetRules b → SetRules c → fits_set a c ≡ true → fits_set b c ≡ true
    → fits_set (join_sets a b) c ≡ true

-- The join of two entries is well formed ..
abbrev pub JoinObeys : Type 0
JoinObeys =
    (regions : ℕ) (sizes : List ℕ) (a b : Entry) → EntryRules regions sizes a → EntryRules regions sizes b
    → EntryRules regions sizes (join_of a b)

-- .. and passes the test of form ..
abbrev pub JoinPasses : Type 0
JoinPasses =
    (regions : ℕ) (sizes : List ℕ) (a b : Entry) → a.set.hi < modulus → b.set.hi < modulus
    → entry_ok regions sizes a ≡ true → entry_ok regions sizes b ≡ true
    → entry_ok regions sizes (join_of a b) ≡ true

-- .. both fit it ..
abbrev pub BothFit : Type 0
BothFit =
    (regions : ℕ) (sizes : List ℕ) (a b : Entry) → EntryRules regions sizes a → EntryRules regions sizes b
    → (fits a (join_of a b) ≡ true) × (fits b (join_of a b) ≡ true)

-- .. and it fits every entry that both fit.
abbrev pub Least : Type 0
Least =
    (regions : ℕ) (sizes : List ℕ) (a b c : Entry) → EntryRules regions sizes a → EntryRules regions sizes b → EntryRules regions sizes c
    → fits a c ≡ true → fits b c ≡ true → fits (join_of a b) c ≡ true

-- So of two notes: the join is well formed ..
abbrev pub NoteFormed : Type 0
NoteFormed = (a b : Note) → note_ok a ≡ true → note_ok b ≡ true → note_ok (join_note a b) ≡ true

-- .. both fit it ..
abbrev pub BothFitNote : Type 0
BothFitNote = (a b : Note) → (fits_note a (join_note a b) ≡ true) × (fits_note b (join_note a b) ≡ true)

-- .. and it fits every note that both fit; these two whatever the form of the notes.
abbrev pub LeastNote : Type 0
LeastNote = (a b c : Note) → fits_note a c ≡ true → fits_note b c ≡ true → fits_note (join_note a b) c ≡ true
