-- A row that is written as the register or scratch word is matches, and notes stay right: the entry written is the new one, the others are as
-- they were; a note of the register written becomes "set".
use Prim.Native.Nat.{ℕ, ◌≤◌, ◌<◌}
use mathlib.Core.Path.{◌≡◌, refl, sym, ap, ◌∙◌, subst}
use mathlib.Core.Bool.{Bool, true, false, not, cond, ◌&&◌}
use mathlib.Core.List.{List}
use native.Mathlib.Omega.{arith}
use lib.Dec.{leb, ltb, eqb}
use lib.ListN.{length, get_or, set, length-set, get_or-eq_default}
use lib.Seq.{get_or-set_same, get_or-set_other}
use borrow.Author.Tests.{eqb-true, eqb-false, ltb-true, ltb-false, eq-eqb, ne_eqb}
use Rattle.v8.proofs.Choice.{cond_both, and_went, false_true}
use Rattle.v8.specs.Signed.{excess}
use Rattle.v8.specs.declared.AluOp.{AluOp}
use Rattle.v8.specs.declared.AluOp.TheVariants.{Add, And, Or, Xor, Sub, Andn, Orn, Xnor}
use Rattle.alu.specs.Codes.{codes_of}
use Rattle.rows.specs.declared.Entry.{Entry}
use Rattle.rows.specs.declared.Note.{Note}
use Rattle.rows.specs.declared.Row.{Row}
use Rattle.rows.specs.Entry.{no_entry, is_constant, is_comparison, codes_set, comparison}
use Rattle.rows.specs.Geometry.{entry_count}
use Rattle.rows.specs.Row.{entry_at, entries_with, row_with}
use Rattle.rows.specs.Matches.{Host, Holds, Matches, Held, NoteMatches}
use Rattle.rows.specs.Laws.{EntryRules}
use Rattle.rows.proofs.ByKind.{unset_rules}
use Rattle.rules.specs.Result.{is_sub}
use Rattle.rules.specs.Change.{note_after, codes_note}
use Rattle.rules.specs.Laws.{Wrote, WritesRow, KeepsNote, MakesNote}
use Rattle.rules.proofs.RightResult.{constant_holds}

-- entry r of the row written, whatever is asked of what stands there
module _ (P : ℕ → Entry → Type 0) (row : Row) (rd : ℕ) (e : Entry) (n : Note) (old : (r : ℕ) → P r no_entry) where
  -- where nothing is written, and elsewhere, the old entry
  pub entry_after : (r : ℕ)
      → (1 ≤ rd → rd < entry_count → r ≡ rd → P r e) → ((r ≡ rd → 1 ≤ rd → rd < entry_count → ⊥) → P r (entry_at row r)) → P r (entry_at (row_with row rd e n) r)
  unfolding entry_at entries_with
  entry_after r here other =
      cond_both (λ (es : List Entry). P r (cond (ltb r entry_count) (get_or es r no_entry) no_entry)) (eqb rd 0)
      (λ t. other (λ _ q _. omega (arith, eqb-true rd 0 t)))
      λ t. cond_both (λ (es : List Entry). P r (cond (ltb r entry_count) (get_or es r no_entry) no_entry)) (ltb rd entry_count)
      (λ u. at (eqb r rd) refl (eqb-false rd 0 t) (ltb-true rd entry_count u))
      λ u. other (λ _ _ q. omega (arith, ltb-false rd entry_count u))
    where
      some : (rd ≡ 0 → ⊥) → 1 ≤ rd
      some z = omega arith

      in_list : r ≡ rd → P r e → (t : Bool) → ltb rd (length row.entries) ≡ t → P r (get_or (set row.entries rd e) r no_entry)
      in_list q p true l =
          subst (λ (x : Entry). P r x) (sym (ap (λ (k : ℕ). get_or (set row.entries rd e) k no_entry) q ∙ get_or-set_same row.entries rd e no_entry (ltb-true rd (length row.entries) l))) p
      in_list q p false l =
          subst (λ (x : Entry). P r x)
          (sym (ap (λ (k : ℕ). get_or (set row.entries rd e) k no_entry) q ∙ get_or-eq_default (set row.entries rd e) no_entry (rw (length-set row.entries rd e) (ltb-false rd (length row.entries) l))))
          (old r)

      at : (t : Bool) → eqb r rd ≡ t → (rd ≡ 0 → ⊥) → rd < entry_count → P r (cond (ltb r entry_count) (get_or (set row.entries rd e) r no_entry) no_entry)
      at true q z l =
          cond_both (P r) (ltb r entry_count) (λ _. in_list (eqb-true r rd q) (here (some z) l (eqb-true r rd q)) (ltb rd (length row.entries)) refl) (λ _. old r)
      at false q z l =
          rw (get_or-set_other row.entries rd r e no_entry (eqb-false r rd q)) (other (λ p _ _. eqb-false r rd q p))

pub writes_row : WritesRow
writes_row regions sizes h row g g' rd v e n w rules m re he top note = (
  record {
    entries = λ r. entry_after (λ (_ : ℕ) (x : Entry). EntryRules regions sizes x) row rd e n (λ _. unset_rules refl) r
        (λ _ _ _. re) (λ _. rules.entries r);
    number = top;
  },
  record {
    entries = λ r. entry_after (λ (k : ℕ) (x : Entry). Matches h x (g'.mark k) (g'.value k)) row rd e n (λ k u. false_true (sym u)) r
        (λ a b q _. let s = w.here a b in
        (ap g'.mark q ∙ s.0, subst (Holds h e) (sym (ap g'.value q ∙ s.1)) he))
        (λ away u. let s = w.others r away in let k = m.entries r u in (s.0 ∙ k.0, subst (Holds h (entry_at row r)) (sym s.1) k.1));
    note = note;
  },
)

-- only that the codes are set
set_note : (g : Held) → g.coded ≡ true → NoteMatches codes_set g
set_note g e = record { coded = λ _. e; compared = λ q. false_true q }

pub keeps_note : KeepsNote
unfolding note_after
keeps_note n g g' rd v w same_codes same-mark m =
    cond_both (λ (x : Note). NoteMatches x g') (is_comparison n && eqb n.register rd)
    (λ t. set_note g' (same-mark ∙ m.coded (known (and_went (is_comparison n) (eqb n.register rd) t).0)))
    (λ t. record {
      coded = λ u. same-mark ∙ m.coded u;
      compared = λ c. same_codes ∙ m.compared c
          ∙ ap (λ (x : ℕ). codes_of Sub x (excess n.number)) (sym (w.others n.register (λ q _ _. elsewhere c t q)).1);
    })
  where
    known : is_comparison n ≡ true → eqb n.kind 0 ≡ false
    known c = ne_eqb n.kind 0 (λ z. two (eqb-true n.kind 2 c) z)
      where
        two : n.kind ≡ 2 → n.kind ≡ 0 → ⊥
        two p q = omega arith

    elsewhere : is_comparison n ≡ true → is_comparison n && eqb n.register rd ≡ false → n.register ≡ rd → ⊥
    elsewhere c t q = false_true (sym t ∙ rw (c, eq-eqb n.register rd q))

-- SUB alone makes a comparison
is-sub : (op : AluOp) (x y : ℕ) → is_sub op ≡ true → codes_of op x y ≡ codes_of Sub x y
is-sub Add x y e = false_true e
is-sub And x y e = false_true e
is-sub Or x y e = false_true e
is-sub Xor x y e = false_true e
is-sub Sub x y e = refl
is-sub Andn x y e = false_true e
is-sub Orn x y e = false_true e
is-sub Xnor x y e = false_true e

-- the note of a code-setting word, where the last thing that it asks, kept, is not so if rs1 is written
made_note : (op : AluOp) (h : Host) (g g' : Held) (rd rs1 v : ℕ) (b : Entry) (y : ℕ) → Wrote g g' rd v → y < 4294967296 → Holds h b y
    → g'.coded ≡ true → g'.codes ≡ codes_of op (g.value rs1) y
    → (n : Note) (kept : Bool) → n ≡ cond (is_sub op && leb 1 rs1 && is_constant b && kept) (comparison rs1 b.set.lo) codes_set
    → (rs1 ≡ rd → kept ≡ false) → NoteMatches n g'
made_note op h g g' rd rs1 v b y w small mb coded codes n kept made written =
    subst (λ (x : Note). NoteMatches x g') (sym made)
    (cond_both (λ (x : Note). NoteMatches x g') (is_sub op && leb 1 rs1 && is_constant b && kept)
    (λ t. let p = and_went (is_sub op && leb 1 rs1 && is_constant b) kept t in
    let q = and_went (is_sub op && leb 1 rs1) (is_constant b) p.0 in
    let r = and_went (is_sub op) (leb 1 rs1) q.0 in
    record {
      coded = λ _. coded;
      compared = λ _. codes ∙ is-sub op (g.value rs1) y r.0
          ∙ rw (← constant_holds h b y small q.1 mb, ← (w.others rs1 (λ e _ _. false_true (sym (written e) ∙ p.1))).1);
    })
    (λ _. set_note g' coded))

pub makes_note : MakesNote
unfolding codes_note
makes_note op h g g' rd rs1 v b y w small mb coded codes =
    made_note op h g g' rd rs1 v b y w small mb coded codes (codes_note op rd rs1 b) _ refl (λ e. ap not (eq-eqb rd rs1 (sym e)))
