-- Edges of predicted branches, and the words examined about them (document 02, request 5): a predicted branch has the edges of the plain one,
-- whatever its hint. The words are those that GNU as gives, and stand above each row; a branch is told with its distance in words.
use Rattle.std.specs.Prelude.{ℕ, zero, suc, ◌+◌, ◌*◌, ◌^◌, ◌≡◌, true, false, List, [], ◌∷◌, ◌++◌}
use Rattle.v8.specs.Numbers.{not_read}
use Rattle.v8.specs.declared.Edition.{Edition}
use Rattle.v8.specs.declared.Edition.TheVariants.{V8, V9}
use Rattle.v8.specs.declared.Reading.TheVariants.{Unread}
use Rattle.alu.specs.declared.condition.Narrowing.{Narrowing}
use Rattle.alu.specs.declared.condition.Narrowing.TheVariants.{Unrelated, EqualTo, NotEqualTo, LessThan, AtLeast}
use Rattle.flow_edges.specs.declared.Destination.TheVariants.{To}
use Rattle.trials.specs.Case.{Row, Given, Outcome, edge, writing, examining, goes, reads, yields, marks, outcome}
use Rattle.editionrows.specs.Hints.{either_hint, all_give}

-- the edge goes to a word, over the slot or not
abbrev over : ℕ → Narrowing → Outcome
over w c = goes (record { exists = true; slot = true; to = To (record { 0 = w }); narrowing = c })

abbrev past : ℕ → Narrowing → Outcome
past w c = goes (record { exists = true; slot = false; to = To (record { 0 = w }); narrowing = c })

-- there is no such edge: what it would be otherwise is said too
abbrev missing : ℕ → Outcome
missing w = goes (record { exists = false; slot = true; to = To (record { 0 = w }); narrowing = Unrelated })

-- the taken edge of a predicted branch at word 5, and the other
abbrev taken : ℕ → Outcome → List Row
taken w o = either_hint (λ (x : ℕ). edge 5 x true) w o

abbrev untaken : ℕ → Outcome → List Row
untaken w o = either_hint (λ (x : ℕ). edge 5 x false) w o

-- on the newer terminal
abbrev pub edge_rows : List Row
edge_rows =
    -- ba,pn %icc 3; ba,a,pn %icc 3
    taken 0x10400003 (over 8 Unrelated)
    ++ untaken 0x10400003 (missing 7)
    ++ taken 0x30400003 (past 8 Unrelated)
    -- bn,pn %icc 3; bn,a,pn %icc 3
    ++ taken 0x00400003 (missing 8)
    ++ untaken 0x00400003 (over 7 Unrelated)
    ++ untaken 0x20400003 (past 7 Unrelated)
    -- be,pn %icc 3; be,a,pn %icc 3
    ++ taken 0x02400003 (over 8 EqualTo)
    ++ untaken 0x02400003 (over 7 NotEqualTo)
    ++ taken 0x22400003 (over 8 EqualTo)
    ++ untaken 0x22400003 (past 7 NotEqualTo)
    -- bl,pn %icc 3; bneg,pn %icc 3
    ++ taken 0x06400003 (over 8 LessThan)
    ++ untaken 0x06400003 (over 7 AtLeast)
    ++ taken 0x0C400003 (over 8 Unrelated)
    -- bne,pn %icc -2; at word 0, -1
    ++ taken 0x1247FFFE (over 3 NotEqualTo)
    ++ either_hint (λ (x : ℕ). edge 0 x true) 0x1247FFFF (over 0xFFFFFFFF NotEqualTo)
    ++ []

-- none writes a register: ba,pn %icc 3; bvc,a,pn %icc -1
abbrev pub written_rows : List Row
written_rows = either_hint writing 0x10400003 (yields 0) ++ either_hint writing 0x3E47FFFF (yields 0)

-- the edges of branches at word 5, taken and other, of all n below, which stands for the annul bit and the condition, by the bits 24:0
abbrev pub edges_below : Edition → ℕ → ℕ → List Outcome
edges_below e low zero = []
edges_below e low (suc n) =
    outcome e (edge 5 (n * 2 ^ 25 + low) true) ∷ outcome e (edge 5 (n * 2 ^ 25 + low) false) ∷ edges_below e low n

-- with all conditions, annulled and not, three words on, they are those of the plain branch on the older terminal: hint clear, hint set
pub record EdgesAlike : Type 0 where
  pub clear : edges_below V9 0x400003 32 ≡ edges_below V8 0x800003 32
  pub hint : edges_below V9 0x480003 32 ≡ edges_below V8 0x800003 32

-- words with a predicted branch first, and those behind it
abbrev before : List ℕ → ℕ → Given
before more w = examining (w ∷ more)

-- on the newer terminal: "The word after a Bicc or return is its slot", and a slot that a branch lands on is examined. The last word first
abbrev pub slot_rows : List Row
slot_rows =
    -- ba,pn %icc 0; nop; nop
    either_hint (before (0x01000000 ∷ 0x01000000 ∷ [])) 0x10400000 (marks (true ∷ false ∷ true ∷ []))
    -- ba,pn %icc 3; nop; ba 0; nop: it lands on the slot of another; bn lands nowhere
    ++ either_hint (before (0x01000000 ∷ 0x10800000 ∷ 0x01000000 ∷ [])) 0x10400003 (marks (true ∷ true ∷ false ∷ true ∷ []))
    ++ either_hint (before (0x01000000 ∷ 0x10800000 ∷ 0x01000000 ∷ [])) 0x00400003 (marks (false ∷ true ∷ false ∷ true ∷ []))
    -- ba,a,pn %icc 1; nop: its own
    ++ either_hint (before (0x01000000 ∷ [])) 0x30400001 (marks (true ∷ true ∷ []))
    -- a plain branch to the slot of a predicted one: ba 3; nop; ba,pn %icc -2; nop
    ++ either_hint (λ (x : ℕ). examining (0x10800003 ∷ 0x01000000 ∷ x ∷ 0x01000000 ∷ [])) 0x1047FFFE (marks (true ∷ true ∷ false ∷ true ∷ []))
    ++ []

-- on the older terminal these words have no edges and no slots
abbrev pub older_rows : List Row
older_rows =
    all_give (reads (Unread not_read)) edge_rows ++ all_give (reads (Unread not_read)) written_rows
    ++ either_hint (before (0x01000000 ∷ 0x01000000 ∷ [])) 0x10400000 (marks (true ∷ true ∷ true ∷ []))
