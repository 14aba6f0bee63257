-- What later parts rest on: what the form of a row says in plain facts, and that what fits matches (document 01, "Rows"). The proofs are in
-- proofs/.
use Rattle.std.specs.Prelude.{ℕ, ◌+◌, ◌≤◌, ◌<◌, ◌≡◌, Bool, true, List, None}
use Rattle.policy.specs.declared.Field.{Field}
use Rattle.policy.specs.Laws.{FieldRules}
use Rattle.sets.specs.Sets.{SetRules}
use Rattle.rows.specs.declared.Entry.{Entry}
use Rattle.rows.specs.declared.Note.{Note}
use Rattle.rows.specs.declared.Row.{Row}
use Rattle.rows.specs.Kind.{Kind, unset, number, address, start, return_address, frame_address, none, kind_of}
use Rattle.rows.specs.Entry.{size_in, entry_ok, fits, fits_note, field_entry}
use Rattle.rows.specs.Row.{entry_at, row_of, form_fault, misfit}
use Rattle.rows.specs.Matches.{Host, Matches, Held, NoteMatches, RowMatches}
use Rattle.v8.specs.Signed.{bias}

-- an address entry: its region exists, and its offsets lie from the region's start to its end
pub record AddressRules (regions : ℕ) (sizes : List ℕ) (e : Entry) : Type 0 where
  pub region : e.region < regions
  pub set : SetRules e.set
  pub low : bias ≤ e.set.lo
  pub high : e.set.hi ≤ bias + size_in sizes e.region

-- what the form of an entry of a kind says
module _ (regions : ℕ) (sizes : List ℕ) (e : Entry) where
  abbrev pub RulesAs : Kind → Type 0
  RulesAs unset = Unit {0}
  RulesAs number = SetRules e.set
  RulesAs address = AddressRules regions sizes e
  RulesAs start = e.region < regions
  RulesAs return_address = Unit {0}
  RulesAs frame_address = Unit {0}
  RulesAs none = ⊥

-- what the form of an entry says
pub record EntryRules (regions : ℕ) (sizes : List ℕ) (e : Entry) : Type 0 where
  pub by_kind : RulesAs regions sizes e (kind_of e.kind)

-- what the form of a row says
pub record RowRules (regions : ℕ) (sizes : List ℕ) (row : Row) : Type 0 where
  pub entries : (r : ℕ) → EntryRules regions sizes (entry_at row r)
  pub number : row.note.number < 4294967296

-- An entry of 32-bit numbers that passes the test of form obeys the rules.
abbrev pub EntryObeys : Type 0
EntryObeys =
    (regions : ℕ) (sizes : List ℕ) (e : Entry) → e.set.hi < 4294967296 → entry_ok regions sizes e ≡ true → EntryRules regions sizes e

-- A row read from bytes that has no flaw of form obeys the rules.
abbrev pub RowObeys : Type 0
RowObeys =
    (regions : ℕ) (sizes bytes : List ℕ) (at : ℕ) → form_fault regions sizes bytes at ≡ None → RowRules regions sizes (row_of bytes at)

-- What a load of a field gives is well formed.
abbrev pub FieldEntryObeys : Type 0
FieldEntryObeys =
    (regions size : ℕ) (sizes : List ℕ) (f : Field) → FieldRules regions size f → EntryRules regions sizes (field_entry f)

-- An entry fits itself.
abbrev pub FitsSelf : Type 0
FitsSelf = (regions : ℕ) (sizes : List ℕ) (e : Entry) → EntryRules regions sizes e → fits e e ≡ true

-- What fits an entry that fits another fits that one.
abbrev pub FitsOn : Type 0
FitsOn =
    (regions : ℕ) (sizes : List ℕ) (a b c : Entry) → EntryRules regions sizes a → EntryRules regions sizes b → EntryRules regions sizes c
    → fits a b ≡ true → fits b c ≡ true → fits a c ≡ true

-- What matches an entry matches every entry that it fits.
abbrev pub FitsMatches : Type 0
FitsMatches =
    (h : Host) (regions : ℕ) (sizes : List ℕ) (a b : Entry) (mark : Bool) (v : ℕ) → v < 4294967296
    → EntryRules regions sizes a → EntryRules regions sizes b → fits a b ≡ true → Matches h a mark v → Matches h b mark v

-- So of notes, and of rows.
abbrev pub NoteFits : Type 0
NoteFits = (g : Held) (a b : Note) → fits_note a b ≡ true → NoteMatches a g → NoteMatches b g

abbrev pub RowFits : Type 0
RowFits =
    (h : Host) (regions : ℕ) (sizes : List ℕ) (a b : Row) (g : Held) → ((r : ℕ) → g.value r < 4294967296)
    → RowRules regions sizes a → RowRules regions sizes b → misfit a b ≡ None → RowMatches h a g → RowMatches h b g
