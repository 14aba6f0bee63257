-- What the running guarantee rests on: what registers, codes and accesses hold that match a row, they hold of what the rules make of it. (The
-- laws speak of V8's results and codes, `alu`'s, and of the regions as the host has laid them.) The proofs are in proofs/.
use Rattle.std.specs.Prelude.{ℕ, ◌+◌, ◌-◌, ◌%◌, ◌≤◌, ◌<◌, ◌≡◌, ◌⊎◌, Bool, true, List, get_or}
use Rattle.v8.specs.Signed.{bias}
use Rattle.v8.specs.declared.AluOp.{AluOp}
use Rattle.v8.specs.declared.ShiftOp.{ShiftOp}
use Rattle.v8.specs.declared.Access.{Access}
use Rattle.alu.specs.Result.{add32, alu_of, shift_of}
use Rattle.alu.specs.Codes.{codes_of}
use Rattle.alu.specs.Condition.{cond_holds, condition_of}
use Rattle.policy.specs.declared.Policy.{Policy}
use Rattle.policy.specs.Policy.{size_of, count_of, place_of, field_at, field_end}
use Rattle.policy_search.specs.Find.{field_holding}
use Rattle.policy.specs.Laws.{WellFormed}
use Rattle.memory.specs.Frame.{frame_bytes, scratch_count, scratch_offset}
use Rattle.access.specs.Serve.{access_width, is_word, serves, allows}
use Rattle.sets.specs.declared.NumberSet.{NumberSet}
use Rattle.rows.specs.declared.Entry.{Entry}
use Rattle.rows.specs.declared.Note.{Note}
use Rattle.rows.specs.declared.Row.{Row}
use Rattle.rows.specs.Geometry.{entry_count}
use Rattle.rows.specs.Row.{row_with}
use Rattle.rows.specs.Matches.{Host, base_of, Holds, Held, NoteMatches, RowMatches}
use Rattle.rows.specs.Laws.{EntryRules, RowRules}
use Rattle.rules.specs.declared.Result.{Result}
use Rattle.rules.specs.declared.Result.TheVariants.{Gives, Fails}
use Rattle.rules.specs.declared.Reach.{Reach}
use Rattle.rules.specs.declared.Reach.TheVariants.{Inside, Scratch, Outside}
use Rattle.rules.specs.Result.{alu_result, shift_result}
use Rattle.rules.specs.Reach.{reach_end, in_found, in_region, reach_of}
use Rattle.rules.specs.Change.{note_after, codes_note}
use Rattle.rules.specs.Narrow.{RowLeft, left, nothing, narrow_row}

-- the regions as the host must lay them: "bases are nonzero multiples of 8, base + size is below 2^32, regions are disjoint"; request 7: "The frame
-- address is a nonzero multiple of 8, with 120 added it is below 2^32, and the frame overlaps no region"
pub record Laid (regions : ℕ) (sizes : List ℕ) (h : Host) : Type 0 where
  pub regions_most : regions ≤ 8
  pub some : (r : ℕ) → r < regions → 1 ≤ base_of h r
  pub aligned : (r : ℕ) → r < regions → base_of h r % 8 ≡ 0
  pub below : (r : ℕ) → r < regions → base_of h r + get_or sizes r 0 < 4294967296
  -- an address lies in one region
  pub one : (r q a : ℕ) → r < regions → q < regions → base_of h r ≤ a → a < base_of h r + get_or sizes r 0
      → base_of h q ≤ a → a < base_of h q + get_or sizes q 0 → r ≡ q
  pub frame_some : 1 ≤ h.frame
  pub frame_aligned : h.frame % 8 ≡ 0
  pub frame_below : h.frame + frame_bytes < 4294967296
  -- no address lies in a region and in the frame
  pub frame_apart : (r a : ℕ) → r < regions → base_of h r ≤ a → a < base_of h r + get_or sizes r 0 → h.frame ≤ a → a < h.frame + frame_bytes → ⊥

module _ (regions : ℕ) (sizes : List ℕ) (h : Host) where
  -- a result, if there is one, is well formed and holds the word
  abbrev pub Right : Result → ℕ → Type 0
  Right (Gives e) v = EntryRules regions sizes e × Holds h e v
  Right (Fails number) v = Unit {0}

  -- a row, if one is left, is well formed and matches; one is left
  abbrev pub LeftMatches : RowLeft → Held → Type 0
  LeftMatches (left row) g = RowRules regions sizes row × RowMatches h row g
  LeftMatches nothing g = ⊥

-- What the rules give holds what V8 gives.
abbrev pub AluRight : Type 0
AluRight =
    (regions : ℕ) (sizes : List ℕ) (h : Host) → Laid regions sizes h
    → (op : AluOp) (a b : Entry) (x y : ℕ) → EntryRules regions sizes a → EntryRules regions sizes b → x < 4294967296 → y < 4294967296
    → Holds h a x → Holds h b y → Right regions sizes h (alu_result sizes op a b) (alu_of op x y)

abbrev pub ShiftRight : Type 0
ShiftRight =
    (regions : ℕ) (sizes : List ℕ) (h : Host)
    → (op : ShiftOp) (a b : Entry) (x y : ℕ) → EntryRules regions sizes a → EntryRules regions sizes b → x < 4294967296 → y < 4294967296
    → Holds h a x → Holds h b y → Right regions sizes h (shift_result op a b) (shift_of op x y)

-- register or scratch word rd, by the index of its entry, has been written with v: "writes to it vanish" for r0
pub record Wrote (g g' : Held) (rd v : ℕ) : Type 0 where
  pub here : 1 ≤ rd → rd < entry_count → (g'.mark rd ≡ true) × (g'.value rd ≡ v)
  pub others : (r : ℕ) → (r ≡ rd → 1 ≤ rd → rd < entry_count → ⊥) → (g'.mark r ≡ g.mark r) × (g'.value r ≡ g.value r)

-- A row that is written as the register or scratch word is stays well formed and matches, whatever note matches then.
abbrev pub WritesRow : Type 0
WritesRow =
    (regions : ℕ) (sizes : List ℕ) (h : Host) (row : Row) (g g' : Held) (rd v : ℕ) (e : Entry) (n : Note)
    → Wrote g g' rd v → RowRules regions sizes row → RowMatches h row g → EntryRules regions sizes e → Holds h e v
    → n.number < 4294967296 → NoteMatches n g'
    → RowRules regions sizes (row_with row rd e n) × RowMatches h (row_with row rd e n) g'

-- A note stays right where a register is written and the codes are not.
abbrev pub KeepsNote : Type 0
KeepsNote =
    (n : Note) (g g' : Held) (rd v : ℕ) → Wrote g g' rd v → g'.codes ≡ g.codes → g'.coded ≡ g.coded
    → NoteMatches n g → NoteMatches (note_after n rd) g'

-- The note of a code-setting word is right of the codes that V8 gives.
abbrev pub MakesNote : Type 0
MakesNote =
    (op : AluOp) (h : Host) (g g' : Held) (rd rs1 v : ℕ) (b : Entry) (y : ℕ) → Wrote g g' rd v → y < 4294967296 → Holds h b y
    → g'.coded ≡ true → g'.codes ≡ codes_of op (g.value rs1) y → NoteMatches (codes_note op rd rs1 b) g'

-- an access that passed the conditions: it is aligned and not null, lies inside one field of matching element and permission, and one of
-- the two numbers that it adds lies from the region's start to its end
pub record Reached (p : Policy) (h : Host) (a : Access) (x y place : ℕ) : Type 0 where
  pub region : ℕ
  pub field : ℕ
  pub offset : ℕ
  pub region_is : region < p.regions.count
  pub field_is : field < count_of p region
  pub here : place ≡ place_of region field
  pub address : add32 x y ≡ base_of h region + offset
  pub low : (field_at p place).offset.0 ≤ offset
  pub high : offset + access_width a ≤ field_end (field_at p place)
  pub aligned : offset % access_width a ≡ 0
  pub serving : serves a (field_at p place).element ≡ true
  pub allowing : allows a (field_at p place).permission ≡ true
  pub near : ((base_of h region ≤ x) × (x ≤ base_of h region + size_of p region)) ⊎ ((base_of h region ≤ y) × (y ≤ base_of h region + size_of p region))

-- an access that passed the conditions as one of a scratch word: it is of a word, at the address of that one, and of the two numbers that it adds
-- one is the frame address and the other the word's offset
pub record ReachedScratch (h : Host) (a : Access) (x y k : ℕ) : Type 0 where
  pub word : k < scratch_count
  pub wide : is_word a ≡ true
  pub address : add32 x y ≡ h.frame + scratch_offset k
  pub sum : ((x ≡ h.frame) × (y ≡ scratch_offset k)) ⊎ ((x ≡ scratch_offset k) × (y ≡ h.frame))

-- what is reached is as the records say
abbrev pub ReachedAs : Policy → Host → Access → ℕ → ℕ → Reach → Type 0
ReachedAs p h a x y (Inside place) = Reached p h a x y place
ReachedAs p h a x y (Scratch k) = ReachedScratch h a x y k
ReachedAs p h a x y (Outside number r) = Unit {0}

abbrev pub Reaches : Type 0
Reaches =
    (p : Policy) (h : Host) → WellFormed p → Laid p.regions.count p.regions.sizes h
    → (a : Access) (frame : Bool) (rs1 rs2 : ℕ) (d e : Entry) (x y : ℕ)
    → EntryRules p.regions.count p.regions.sizes d → EntryRules p.regions.count p.regions.sizes e
    → x < 4294967296 → y < 4294967296 → Holds h d x → Holds h e y
    → ReachedAs p h a x y (reach_of p.regions.fields p.fields a frame rs1 d rs2 e)

-- 7 and what comes after it are of the lowest field of the region that holds the bytes, though the search ends early (document 02, request 3: "No outcome
-- changes"). The machine's locating is told exactly by `access`' laws.
abbrev pub ReachesHolder : Type 0
ReachesHolder =
    (p : Policy) → WellFormed p → (a : Access) (rs1 r : ℕ) (s : NumberSet) → r < p.regions.count → bias ≤ s.lo
    → in_region p.regions.fields p.fields a rs1 r s ≡ in_found p.fields a rs1 s (field_holding p r (s.lo - bias) (reach_end s (access_width a)))

-- Narrowing by a condition that holds never drops what is there.
abbrev pub NarrowsRow : Type 0
NarrowsRow =
    (regions : ℕ) (sizes : List ℕ) (h : Host) (cnd : ℕ) (row : Row) (g : Held) → ((r : ℕ) → g.value r < 4294967296)
    → RowRules regions sizes row → RowMatches h row g → cond_holds cnd g.codes ≡ true
    → LeftMatches regions sizes h (narrow_row (condition_of cnd).narrowing row) g
