-- The join of two notes. Where neither fits the other neither is unset, so both fit the note that the codes are set; and a comparison that both
-- fit is both.
use mathlib.Core.Path.{◌≡◌, refl, sym, ◌∙◌}
use mathlib.Core.Bool.{Bool, true, false, not, ◌&&◌, ◌||◌}
use lib.Dec.{eqb}
use borrow.Author.Tests.{eqb-true, eq-eqb}
use Rattle.v8.proofs.Choice.{cond_both, or_went, or_failed, and_went, false_true}
use Rattle.rows.specs.declared.Note.{Note}
use Rattle.rows.specs.Entry.{codes_set, note_ok, fits_note}
use Rattle.rows.proofs.Tests.{or-true}
use Rattle.joins.specs.Join.{join_note}
use Rattle.joins.specs.Laws.{NoteFormed, BothFitNote, LeastNote}

module _ (a b : Note) where
  abbrev is_unset : Bool
  is_unset = eqb b.kind 0

  abbrev are_set : Bool
  are_set = eqb b.kind 1 && not (eqb a.kind 0)

  abbrev are_equal : Bool
  are_equal = eqb a.kind b.kind && eqb a.register b.register && eqb a.number b.number

  -- equal notes fit
  equal_fits : a.kind ≡ b.kind → a.register ≡ b.register → a.number ≡ b.number → fits_note a b ≡ true
  unfolding fits_note
  equal_fits k r n =
      or-true (is_unset || are_set) are_equal (rw (eq-eqb a.kind b.kind k, eq-eqb a.register b.register r, eq-eqb a.number b.number n))

  -- how a note fits another
  fits_how : {C : Type 0} → fits_note a b ≡ true → (eqb b.kind 0 ≡ true → C) → (eqb b.kind 1 ≡ true → C)
      → (a.kind ≡ b.kind → a.register ≡ b.register → a.number ≡ b.number → C) → C
  unfolding fits_note
  fits_how e f g h =
      or_went (is_unset || are_set) are_equal e
      (λ t. or_went is_unset are_set t f (λ s. g (and_went (eqb b.kind 1) (not (eqb a.kind 0)) s).0))
      (λ t. let p = and_went (eqb a.kind b.kind && eqb a.register b.register) (eqb a.number b.number) t in
      let q = and_went (eqb a.kind b.kind) (eqb a.register b.register) p.0 in
      h (eqb-true a.kind b.kind q.0) (eqb-true a.register b.register q.1) (eqb-true a.number b.number p.1))

  -- a note that another does not fit is not unset
  unset_fits : fits_note a b ≡ false → eqb b.kind 0 ≡ false
  unfolding fits_note
  unset_fits e = (or_failed is_unset are_set (or_failed (is_unset || are_set) are_equal e).0).0

-- every note that is not unset fits the note that the codes are set, and that fits every other note that is not a comparison
set_fits : (a : Note) → eqb a.kind 0 ≡ false → fits_note a codes_set ≡ true
unfolding fits_note
set_fits a e = rw e

fits_unset : (c : Note) → eqb c.kind 0 ≡ true → fits_note codes_set c ≡ true
unfolding fits_note
fits_unset c e = rw e

fits-set : (c : Note) → eqb c.kind 1 ≡ true → fits_note codes_set c ≡ true
unfolding fits_note
fits-set c e = rw (eqb-true c.kind 1 e)

pub note-formed : NoteFormed
unfolding join_note note_ok
note-formed a b oa ob =
    cond_both (λ (n : Note). note_ok n ≡ true) (fits_note b a) (λ _. oa)
    (λ _. cond_both (λ (n : Note). note_ok n ≡ true) (fits_note a b) (λ _. ob) (λ _. refl))

pub both_fit_note : BothFitNote
unfolding join_note
both_fit_note a b =
    cond_both Both (fits_note b a)
    (λ e. (equal_fits a a refl refl refl, e))
    (λ m. cond_both Both (fits_note a b)
    (λ e. (e, equal_fits b b refl refl refl))
    (λ n. (set_fits a (unset_fits b a m), set_fits b (unset_fits a b n))))
  where
    Both : Note → Type 0
    Both n = (fits_note a n ≡ true) × (fits_note b n ≡ true)

pub least_note : LeastNote
unfolding join_note
least_note a b c fa fb =
    cond_both (λ (n : Note). fits_note n c ≡ true) (fits_note b a) (λ _. fa)
    (λ m. cond_both (λ (n : Note). fits_note n c ≡ true) (fits_note a b) (λ _. fb)
    (λ _. fits_how a c fa (fits_unset c) (fits-set c)
    (λ k r n. fits_how b c fb (fits_unset c) (fits-set c)
    (λ k' r' n'. false_true (sym m ∙ equal_fits b a (k' ∙ sym k) (r' ∙ sym r) (n' ∙ sym n))))))
