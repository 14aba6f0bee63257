-- What the code keeps of its work, for the contracts of its parts alone: which words have marks that are not passed on yet, a flag each, and
-- the lowest word that may have some. The listing is defined without it.
use Rattle.std.specs.Prelude.{ℕ, ◌≤◌, ◌<◌, ◌≡◌, Bool, false, List, length, get_or}
use Rattle.v8.specs.Numbers.{most_words}
use Rattle.lister_rules.specs.declared.sending.Work.{Work}
use Rattle.lister_rules.specs.Table.{table_marks, marks_at, height}

-- the flag of word w
abbrev pub is_pending : List Bool → ℕ → Bool
is_pending pending w = get_or pending w false

-- a table has all its marks, and there is a flag for each word
abbrev pub Held : List ℕ → List Bool → Type 0
Held table pending = (length table ≡ table_marks) × (length pending ≡ most_words)

-- A part of the work: words below the next keep their marks; a word without a flag had none and keeps its marks; a raise makes the table
-- higher, and a word before the next is made the next by a raise alone.
pub record Worked (before after : Work) : Type 0 where
  pub held : Held after.table after.pending
  pub count : after.count ≡ before.count
  pub next : after.next ≤ before.next
  pub below : (w : ℕ) → w < after.next → marks_at after.table w ≡ marks_at before.table w
  pub kept :
      (w : ℕ) → is_pending after.pending w ≡ false → (is_pending before.pending w ≡ false) × (marks_at after.table w ≡ marks_at before.table w)
  pub higher : after.next < before.next → height before.table < height after.table
  pub high : height before.table ≤ height after.table
