-- `fits_row` meets its contract: the note and each entry fit just where no place has a flaw.
use Rattle.std.specs.Prelude.{None, MatchBool}
use Rattle.std.specs.List.{AllWithin, HoldsAt, zip}
use Prim.Native.Nat.{ℕ, ◌<◌}
use mathlib.Core.Bool.{Bool, true, false, not, ◌&&◌}
use mathlib.Core.List.{List}
use mathlib.Core.Path.{◌≡◌, refl, sym, ap, ◌∙◌}
use native.Mathlib.Omega.{arith}
use borrow.Author.Rules.{rules}
use borrow.Author.Tests.{tests}
use lib.Dec.{eqb}
use lib.ListN.{get_or, length}
use Rattle.std.proofs.lemmas.Bool.{false_from_ne_true}
use Rattle.std.proofs.lemmas.Iterator.{cases_from_all, YieldsList-from_slice, YieldsList-from_zip}
use Rattle.std.proofs.lemmas.Slice.Zip.{length-zip, get_or-zip}
use Rattle.v8.specs.Search.{all}
use Rattle.v8.proofs.Choice.{cond_both, and_went, false_true}
use Rattle.v8.proofs.Search.{all_at, all_each, all_not, and_both}
use Rattle.rows.specs.declared.Entry.{Entry}
use Rattle.rows.specs.declared.Row.{Row}
use Rattle.rows.specs.Entry.{no_entry, fits, fits_note}
use Rattle.rows.specs.Flaw.{flawless}
use Rattle.rows.specs.Geometry.{entry_count, note_name, places, entry_name}
use Rattle.rows.specs.Row.{fits_at, misfits_at, misfit}
use Rattle.rows.proofs.LowestFlaw.{flawless_none, no_flaw}
use Rattle.rows.proofs.Named.{named_entry, name_place, name_not_note, name_names}
use Rattle.rows.proofs.RowFit.{entry_held}
use Rattle.rows.proofs.RowFitting.{fits_each}
use Rattle.drafts.proofs.standing.fits_row.Goals as goal

module _ (a b : Row) where
  -- entry i of the one fits that of the other
  abbrev entry_fits : ℕ → Bool
  entry_fits i = fits (get_or a.entries i no_entry) (get_or b.entries i no_entry)

  -- where the note and every entry fit, every place does
  each_fits : fits_note a.note b.note ≡ true → all entry_fits entry_count ≡ true → (place : ℕ) → place < places → fits_at a b place ≡ true
  unfolding fits_at
  each_fits e h place l =
      cond_both (λ (x : Bool). x ≡ true) (eqb place note_name)
      (λ t. e)
      (λ t. let n = named_entry place l t in rw (entry_held a _ n, entry_held b _ n) (all_at entry_fits entry_count _ h n))

  -- where no place has a flaw, the note fits, and every entry
  note_fits : misfit a b ≡ None → fits_note a.note b.note ≡ true
  unfolding fits_at
  note_fits e = fits_each a b e note_name (omega arith)

  entries_fit : misfit a b ≡ None → (i : ℕ) → i < entry_count → entry_fits i ≡ true
  unfolding fits_at
  entries_fit e i l =
      rw (name_not_note i, name_names i, entry_held a i l, entry_held b i l) at (fits_each a b e (entry_name i) (name_place i l))

  -- so the one test answers what the other does
  same : (t : Bool) → flawless (misfit a b) ≡ t → fits_note a.note b.note && all entry_fits entry_count ≡ t
  unfolding misfit
  same true e =
      let none = flawless_none (misfit a b) e in
      and_both (fits_note a.note b.note) (all entry_fits entry_count) (note_fits none) (all_each entry_fits entry_count (entries_fit none))
  same false e =
      false_from_ne_true _
      (λ t. let p = and_went (fits_note a.note b.note) (all entry_fits entry_count) t in
      false_true (sym e ∙ ap flawless (no_flaw (misfits_at a b) (λ place l. ap not (each_fits p.0 p.1 place l)))))

  -- the entries that are held against each other
  abbrev pairs : List (Entry × Entry)
  pairs = zip a.entries b.entries

  -- what a pass over the pairs of entries finds is whether every one fits
  module _ (m : length a.entries ≡ entry_count) (n : length b.entries ≡ entry_count) where
    pair : (i : ℕ) → i < entry_count → get_or pairs i (no_entry, no_entry) ≡ (get_or a.entries i no_entry, get_or b.entries i no_entry)
    pair i l = get_or-zip a.entries b.entries i (no_entry, no_entry) (omega arith) (omega arith)

    paired :
        (found : Bool)
        → MatchBool found (AllWithin (λ p. fits p.0 p.1 ≡ true) pairs 0 (length pairs))
        ((k : ℕ) × (k < length pairs) × HoldsAt (λ p. fits p.0 p.1 ≡ false) pairs k)
        → found ≡ all entry_fits entry_count
    paired true h =
        sym (all_each entry_fits entry_count
        (λ i l. rw (pair i l) at (h i (no_entry, no_entry) (omega arith) (omega (arith, length-zip a.entries b.entries)))))
    paired false h =
        let l : h.0 < entry_count = rw (length-zip, m, n) at h.1 in
        sym (all_not entry_fits entry_count h.0 l (rw (pair h.0 l) at (h.2 (no_entry, no_entry))))

pub returns : goal.returns
returns c =
    let a = c.args.held.now in
    let b = c.args.asked.now in
    let found =
    paired a b (omega arith) (omega arith) _
    (cases_from_all c.all.new.self _ _ (λ p. fits p.0 p.1 ≡ true) (λ p. fits p.0 p.1 ≡ false) c.all.ensures.ran
    (YieldsList-from_zip (YieldsList-from_slice a.entries cc) (YieldsList-from_slice b.entries cc))
    (λ x q k. search (rules, tests))
    (λ x q k. search (rules, tests)))
    in rw (c.fits_note.ensures, found) (same a b (flawless (misfit a b)) refl)
