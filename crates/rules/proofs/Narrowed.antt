-- Narrowing never drops what is there. The codes are those of the comparison, so a condition that holds says how the register's number
-- compares (alu's `narrows`); the sets' law keeps that number, and a kind 3 is 0 or its region's start. A row that is not narrowed stays.
use Prim.Native.Nat.{ℕ, ◌+◌, ◌-◌, ◌<◌}
use mathlib.Core.Path.{◌≡◌, refl, sym, ap, ◌∙◌, subst}
use mathlib.Core.Logic.{◌⊎◌, ⊎_elim}
use mathlib.Core.Bool.{Bool, true, not, ◌&&◌}
use mathlib.Core.List.{List}
use native.Mathlib.Omega.{arith}
use lib.Dec.{eqb}
use borrow.Author.Tests.{eqb-true, eq-eqb}
use Rattle.std.specs.Prelude.{Option, Some, None}
use Rattle.v8.proofs.Choice.{cond_both, and_went, false_true}
use Rattle.v8.specs.Signed.{excess, bias}
use Rattle.v8.specs.declared.AluOp.TheVariants.{Sub}
use Rattle.alu.specs.Codes.{codes_of}
use Rattle.alu.specs.Condition.{cond_holds, condition_of, compares}
use Rattle.alu.specs.declared.condition.Narrowing.{Narrowing}
use Rattle.alu.specs.declared.condition.Narrowing.TheVariants.{Unrelated, EqualTo, NotEqualTo, LessThan, AtLeast, AtMost, GreaterThan}
use Rattle.alu.proofs.Conditions as Conditions·
use Rattle.sets.specs.declared.NumberSet.{NumberSet}
use Rattle.sets.specs.Sets.{single, Member}
use Rattle.sets_narrow.specs.Narrow.{narrow_set}
use Rattle.sets_rules.specs.Laws.{Offset}
use Rattle.sets_narrow.specs.Laws.{Among, LeftFormed}
use Rattle.sets.proofs.Ends.{single_formed, single_holds}
use Rattle.sets_narrow.proofs.Narrowing.{narrow_formed, narrow_keeps}
use Rattle.rows.specs.declared.Entry.{Entry}
use Rattle.rows.specs.declared.Row.{Row}
use Rattle.rows.specs.Entry.{is_number, is_start_or_null, is_comparison}
use Rattle.rows.specs.Row.{entry_at}
use Rattle.rows.specs.Matches.{Host, base_of, Holds, Matches, Held, RowMatches}
use Rattle.rows.specs.Laws.{EntryRules, RowRules}
use Rattle.rows.proofs.Tests.{other_kind}
use Rattle.rows.proofs.ByKind.{holds_number, holds_address, held_number, held_start, number_rules, address_rules, unset_rules, ruled_number, ruled_start}
use Rattle.rules.specs.Narrow.{narrows, left_of, narrow_start, narrow_entry, RowLeft, row_left, narrow_row}
use Rattle.rules.specs.Laws.{LeftMatches, NarrowsRow}
use Rattle.rules.proofs.Writes.{entry_after}

module _ (regions : ℕ) (sizes : List ℕ) (h : Host) (row : Row) (g : Held) (small : (r : ℕ) → g.value r < 4294967296)
    (rules : RowRules regions sizes row) (m : RowMatches h row g) where
  -- what is left of the noted register's entry is well formed and matches
  abbrev Kept : Option Entry → Type 0
  Kept (Some e) = EntryRules regions sizes e × Matches h e (g.mark row.note.register) (g.value row.note.register)
  Kept None = ⊥

  row_kept : (x : Option Entry) → Kept x → LeftMatches regions sizes h (row_left row x) g
  row_kept (Some e) k = (
    record {
      entries = λ r. entry_after (λ (_ : ℕ) (x : Entry). EntryRules regions sizes x) row row.note.register e row.note
          (λ _. unset_rules refl) r (λ _ _ _. k.0) (λ _. rules.entries r);
      number = rules.number;
    },
    record {
      entries = λ r. entry_after (λ (i : ℕ) (x : Entry). Matches h x (g.mark i) (g.value i)) row row.note.register e row.note
          (λ i u. false_true (sym u)) r
          (λ _ _ q. subst (λ (i : ℕ). Matches h e (g.mark i) (g.value i)) (sym q) k.1)
          (λ _. m.entries r);
      note = m.note;
    },
  )
  row_kept None k = absurd k

  module _ (c : Narrowing) (e : Entry) (n : ℕ) (w : EntryRules regions sizes e)
      (me : Matches h e (g.mark row.note.register) (g.value row.note.register))
      (obeys : compares c (excess (g.value row.note.register)) n true ≡ true) where
    -- a number
    number_kept : (k : is_number e ≡ true) (x : Option NumberSet) → LeftFormed x → Among x (excess (g.value row.note.register)) → Kept (left_of x)
    number_kept k (Some s) f a = (
      number_rules refl f,
      λ _. ((me (other_kind e.kind 1 0 k (λ x. omega arith))).0, holds_number refl a),
    )
    number_kept k None f a = a

    -- a kind 3 compared with 0
    start_kept : is_start_or_null e ≡ true → n ≡ bias → (c' : Narrowing) → c ≡ c' → Kept (Some (narrow_start c' e))
    start_kept k z Unrelated q = (w, me)
    start_kept k z EqualTo q = (
      number_rules refl (single_formed bias (omega arith)),
      λ _. (
        set.0,
        holds_number refl
            (subst (λ (v : ℕ). Member (single bias) v) (sym (same q)) (single_holds bias)),
      ),
    )
      where
        set : (g.mark row.note.register ≡ true) × Holds h e (g.value row.note.register)
        set = me (other_kind e.kind 3 0 k (λ x. omega arith))

        same : c ≡ EqualTo → excess (g.value row.note.register) ≡ bias
        same q =
            eqb-true _ bias
            (subst (λ (i : ℕ). eqb (excess (g.value row.note.register)) i ≡ true) z
            (subst (λ (i : Narrowing). compares i (excess (g.value row.note.register)) n true ≡ true) q obeys))
    start_kept k z NotEqualTo q = (
      address_rules refl
          (record { region = ruled_start k w; set = single_formed bias (omega arith); low = omega arith; high = omega arith }),
      λ _. (set.0, holds_address refl (from (held_start k set.1))),
    )
      where
        set : (g.mark row.note.register ≡ true) × Holds h e (g.value row.note.register)
        set = me (other_kind e.kind 3 0 k (λ x. omega arith))

        differs : not (eqb (excess (g.value row.note.register)) n) ≡ true
        differs = subst (λ (i : Narrowing). compares i (excess (g.value row.note.register)) n true ≡ true) q obeys

        there : (b v : ℕ) → v ≡ b → Offset b (single bias) v
        there b v e = record { above = omega arith; member = subst (λ (i : ℕ). Member (single bias) i) (at b v e) (single_holds bias) }
          where
            at : (b v : ℕ) → v ≡ b → bias ≡ v - b + bias
            at b v e = omega arith

        from : (g.value row.note.register ≡ 0) ⊎ (g.value row.note.register ≡ base_of h e.region)
            → Offset (base_of h e.region) (single bias) (g.value row.note.register)
        from =
            ⊎_elim (λ v. false_true (sym (ap not (eq-eqb _ n (ap excess v ∙ sym z))) ∙ differs))
            (λ v. there (base_of h e.region) (g.value row.note.register) v)
    start_kept k z LessThan q = (w, me)
    start_kept k z AtLeast q = (w, me)
    start_kept k z AtMost q = (w, me)
    start_kept k z GreaterThan q = (w, me)

    entry_kept : Kept (narrow_entry c e n)
    unfolding narrow_entry
    entry_kept =
        cond_both Kept (is_number e)
        (λ k. number_kept k (narrow_set c e.set n) (narrow_formed c e.set n (ruled_number k w))
        (narrow_keeps c e.set n (excess (g.value row.note.register)) (ruled_number k w) (held_number k (me (other_kind e.kind 1 0 k (λ x. omega arith))).1) obeys))
        λ _. cond_both Kept (is_start_or_null e && eqb n bias)
        (λ t. let p = and_went (is_start_or_null e) (eqb n bias) t in start_kept p.0 (eqb-true n bias p.1) c refl)
        λ _. (w, me)

pub narrows_row : NarrowsRow
unfolding narrow_row
narrows_row regions sizes h cnd row g small rules m holds =
    cond_both (λ (x : RowLeft). LeftMatches regions sizes h x g) (narrows (condition_of cnd).narrowing && is_comparison row.note)
    (λ t. row_kept regions sizes h row g small rules m
    (narrow_entry (condition_of cnd).narrowing (entry_at row row.note.register) row.note.number)
    (entry_kept regions sizes h row g small rules m (condition_of cnd).narrowing (entry_at row row.note.register) row.note.number
    (rules.entries row.note.register) (m.entries row.note.register)
    (obeyed (and_went (narrows (condition_of cnd).narrowing) (is_comparison row.note) t).1)))
    (λ _. (rules, m))
  where
    back : (n : ℕ) → n < 4294967296 → excess (excess n) ≡ n
    back n l = omega arith

    obeyed : is_comparison row.note ≡ true → compares (condition_of cnd).narrowing (excess (g.value row.note.register)) row.note.number true ≡ true
    obeyed t =
        let h₁ : cond_holds cnd (codes_of Sub (g.value row.note.register) (excess row.note.number)) ≡ true = rw (← m.note.compared t) holds in
        let l = Conditions·.narrows cnd (g.value row.note.register) (excess row.note.number) (small row.note.register) (omega arith) in
        let k : compares (condition_of cnd).narrowing (excess (g.value row.note.register)) (excess (excess row.note.number)) true ≡ true =
        subst (λ (b : Bool). compares (condition_of cnd).narrowing (excess (g.value row.note.register)) (excess (excess row.note.number)) b ≡ true) h₁ (sym l ∙ h₁) in
        subst (λ (i : ℕ). compares (condition_of cnd).narrowing (excess (g.value row.note.register)) i true ≡ true) (back row.note.number rules.number) k
