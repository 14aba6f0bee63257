-- A row that fits another matches what it matches: register by register, and the note. The search for the lowest that does not fit has
-- found none, so each does.
use Rattle.std.specs.Prelude.{None}
use Prim.Native.Nat.{ℕ, ◌≤◌, ◌<◌}
use mathlib.Core.Path.{◌≡◌, refl, sym, ap, ◌∙◌, subst}
use mathlib.Core.Bool.{Bool, true, false, not, ◌&&◌, ◌||◌}
use native.Mathlib.Omega.{arith}
use lib.Dec.{eqb, ltb}
use borrow.Author.Tests.{eqb-true, ltb-true, ltb-false, le-ltb, not-true, not-false}
use Rattle.v8.proofs.Choice.{or_went, and_went, false_true}
use Rattle.rows.specs.declared.Entry.{Entry}
use Rattle.rows.specs.declared.Row.{Row}
use Rattle.rows.specs.Entry.{no_entry, fits, fits_note}
use Rattle.rows.specs.Geometry.{entry_count, note_name, places, entry_name}
use Rattle.rows.specs.Row.{entry_at, fits_at, misfits_at, misfit}
use Rattle.rows.specs.Matches.{Matches, NoteMatches}
use Rattle.rows.specs.Laws.{NoteFits, RowFits}
use Rattle.rows.proofs.Tests.{one_kind}
use Rattle.rows.proofs.LowestFlaw.{none_broken}
use Rattle.rows.proofs.Named.{name_place, name_not_note, name_names}
use Rattle.rows.proofs.Fitting.{fits_matches}

pub note_fits : NoteFits
unfolding fits_note
note_fits g a b e m =
    or_went (eqb b.kind 0 || eqb b.kind 1 && not (eqb a.kind 0)) equal e
    (λ t. or_went (eqb b.kind 0) (eqb b.kind 1 && not (eqb a.kind 0)) t none some)
    (λ t. let p = and_went (eqb a.kind b.kind && eqb a.register b.register) (eqb a.number b.number) t in
    let q = and_went (eqb a.kind b.kind) (eqb a.register b.register) p.0 in
    same (eqb-true a.kind b.kind q.0) (eqb-true a.register b.register q.1) (eqb-true a.number b.number p.1))
  where
    equal : Bool
    equal = eqb a.kind b.kind && eqb a.register b.register && eqb a.number b.number

    none : eqb b.kind 0 ≡ true → NoteMatches b g
    none k = record { coded = λ u. false_true (sym u ∙ k); compared = λ q. one_kind b.kind 0 2 k q (λ x. omega arith) }

    some : eqb b.kind 1 && not (eqb a.kind 0) ≡ true → NoteMatches b g
    some t =
        let p = and_went (eqb b.kind 1) (not (eqb a.kind 0)) t in
        record { coded = λ u. m.coded (not-true (eqb a.kind 0) p.1); compared = λ q. one_kind b.kind 1 2 p.0 q (λ x. omega arith) }

    same : a.kind ≡ b.kind → a.register ≡ b.register → a.number ≡ b.number → NoteMatches b g
    same p q r =
        record {
          coded = λ u. m.coded (ap (λ (k : ℕ). eqb k 0) p ∙ u);
          compared = λ c. m.compared (ap (λ (k : ℕ). eqb k 2) p ∙ c) ∙ rw (q, r);
        }

pub fits_each : (a b : Row) → misfit a b ≡ None → (r : ℕ) → r < places → fits_at a b r ≡ true
unfolding misfit
fits_each a b e r l = not-false (fits_at a b r) (none_broken (misfits_at a b) e r l)

fits_here : (a b : Row) → misfit a b ≡ None → (r : ℕ) → r < entry_count → fits (entry_at a r) (entry_at b r) ≡ true
unfolding fits_at
fits_here a b e r l =
    let q : fits_at a b (entry_name r) ≡ fits (entry_at a r) (entry_at b r) = rw (name_not_note r, name_names r) in
    sym q ∙ fits_each a b e (entry_name r) (name_place r l)

fits_last : (a b : Row) → misfit a b ≡ None → fits_note a.note b.note ≡ true
unfolding fits_at
fits_last a b e = fits_each a b e note_name (omega arith)

-- there is no entry after the last
pub beyond : (row : Row) (r : ℕ) → entry_count ≤ r → entry_at row r ≡ no_entry
unfolding entry_at
beyond row r l = rw (le-ltb r entry_count l)

pub row_fits : RowFits
row_fits h regions sizes a b g small wa wb e m =
    record { entries = λ r. at r (ltb r entry_count) refl; note = note_fits g a.note b.note (fits_last a b e) m.note }
  where
    at : (r : ℕ) (t : Bool) → ltb r entry_count ≡ t → Matches h (entry_at b r) (g.mark r) (g.value r)
    at r true t =
        fits_matches h regions sizes (entry_at a r) (entry_at b r) (g.mark r) (g.value r) (small r) (wa.entries r) (wb.entries r)
        (fits_here a b e r (ltb-true r entry_count t)) (m.entries r)
    at r false t = subst (λ (x : Entry). Matches h x (g.mark r) (g.value r)) (sym (beyond b r (ltb-false r entry_count t))) (λ u. false_true (sym u))
