-- When registers, codes and fields hold what rows and policy say (document 01, "Machine run": "A register matches an entry if the entry is
-- unset, or the register is set and holds one of the entry's values (kind 4: the return address)"; "Codes match note 0 always, note 1 if
-- set, note 2 if set and as it says").
use Rattle.std.specs.Prelude.{ℕ, ◌≡◌, ◌⊎◌, Bool, true, false, List, eqb, get_or}
use Rattle.v8.specs.Signed.{excess}
use Rattle.v8.specs.declared.AluOp.TheVariants.{Sub}
use Rattle.alu.specs.declared.codes.Codes.{Codes}
use Rattle.alu.specs.Codes.{codes_of}
use Rattle.sets.specs.Sets.{Member}
use Rattle.sets_rules.specs.Laws.{Offset}
use Rattle.rows.specs.declared.Entry.{Entry}
use Rattle.rows.specs.declared.Note.{Note}
use Rattle.rows.specs.declared.Row.{Row}
use Rattle.rows.specs.Kind.{Kind, unset, number, address, start, return_address, frame_address, none, kind_of}
use Rattle.rows.specs.Entry.{is_unset, is_comparison}
use Rattle.rows.specs.Row.{entry_at}

-- what the host has chosen: where each region starts, the return address, and where the frame starts
pub record Host : Type 0 where
  pub bases : List ℕ
  pub returns : ℕ
  pub frame : ℕ

-- where region r starts
abbrev pub base_of : Host → ℕ → ℕ
base_of h r = get_or h.bases r 0

module _ (h : Host) (e : Entry) (v : ℕ) where
  -- a word is one of the values of an entry of a kind
  abbrev pub HoldsAs : Kind → Type 0
  HoldsAs unset = Unit {0}
  -- "1 number: one of lo, lo+step, .., hi, read signed"
  HoldsAs number = Member e.set (excess v)
  -- "2 address: region start plus an offset from the same sort of set"
  HoldsAs address = Offset (base_of h e.region) e.set v
  -- "3 address of a region's start, or null"
  HoldsAs start = (v ≡ 0) ⊎ (v ≡ base_of h e.region)
  -- "4 return address"
  HoldsAs return_address = v ≡ h.returns
  -- "Kind 5 is the frame address"
  HoldsAs frame_address = v ≡ h.frame
  HoldsAs none = Unit {0}

-- a word is one of the entry's values
pub record Holds (h : Host) (e : Entry) (v : ℕ) : Type 0 where
  pub by_kind : HoldsAs h e v (kind_of e.kind)

-- a register, marked set or not, matches an entry
abbrev pub Matches : Host → Entry → Bool → ℕ → Type 0
Matches h e mark v = is_unset e ≡ false → (mark ≡ true) × Holds h e v

-- what registers, scratch words and codes hold: the value and the mark of each, by the index of its entry, the codes and theirs
pub record Held : Type 0 where
  pub value : ℕ → ℕ
  pub mark : ℕ → Bool
  pub codes : Codes
  pub coded : Bool

-- the codes match a note
pub record NoteMatches (n : Note) (g : Held) : Type 0 where
  pub coded : eqb n.kind 0 ≡ false → g.coded ≡ true
  pub compared : is_comparison n ≡ true → g.codes ≡ codes_of Sub (g.value n.register) (excess n.number)

-- registers, scratch words and codes match a row
pub record RowMatches (h : Host) (row : Row) (g : Held) : Type 0 where
  pub entries : (r : ℕ) → Matches h (entry_at row r) (g.mark r) (g.value r)
  pub note : NoteMatches row.note g
