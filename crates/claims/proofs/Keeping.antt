-- What changes nothing in a well formed row. A row fits itself, since each of its entries does and its note is equal to itself. A nop writes
-- r0 alone, which vanishes, and a note that compares names no r0.
use Rattle.std.specs.Prelude.{None}
use Prim.Native.Nat.{ℕ, ◌≤◌, ◌<◌}
use mathlib.Core.Path.{◌≡◌, refl, ap}
use mathlib.Core.Bool.{Bool, true, not, ◌&&◌, ◌||◌, and-false}
use mathlib.Core.List.{List}
use native.Mathlib.Omega.{arith}
use lib.Dec.{eqb}
use borrow.Author.Tests.{eqb-true, eq-eqb}
use Rattle.v8.proofs.Choice.{cond_both, and_went}
use Rattle.v8.proofs.Search.{needed, needed_le}
use Rattle.rows.specs.declared.Entry.{Entry}
use Rattle.rows.specs.declared.Note.{Note}
use Rattle.rows.specs.declared.Row.{Row}
use Rattle.rows.specs.Entry.{is_comparison, note_ok, fits_note}
use Rattle.rows.specs.Geometry.{note_start, note_name, places, entry_named}
use Rattle.rows.specs.Row.{entry_at, entries_with, row_with, note_of, row_of, formed_at, form_fault, fits_at, misfits_at, misfit}
use Rattle.rows.proofs.Tests.{or-true}
use Rattle.rows.proofs.LowestFlaw.{no_flaw}
use Rattle.rows.proofs.Order.{fits_self}
use Rattle.rows.proofs.Obeying.{formed_each, row_obeys}
use Rattle.rules.specs.Change.{note_after}

-- a note fits itself
note_self : (n : Note) → fits_note n n ≡ true
unfolding fits_note
note_self n =
    or-true (eqb n.kind 0 || eqb n.kind 1 && not (eqb n.kind 0))
    (eqb n.kind n.kind && eqb n.register n.register && eqb n.number n.number)
    (rw (eq-eqb n.kind n.kind refl, eq-eqb n.register n.register refl, eq-eqb n.number n.number refl))

-- a write to r0 keeps a note that is well formed
note_kept : (n : Note) → note_ok n ≡ true → note_after n 0 ≡ n
unfolding note_after note_ok
note_kept n h =
    cond_both (λ (x : Note). x ≡ n) (is_comparison n && eqb n.register 0)
    (λ t. let p = and_went (is_comparison n) (eqb n.register 0) t in
    let l = needed_le (note_ok n) 1 n.register h (λ f. rw (p.0, f)) in
    absurd (none n.register l (eqb-true n.register 0 p.1)))
    (λ _. refl)
  where
    none : (r : ℕ) → 1 ≤ r → r ≡ 0 → ⊥
    none r l e = omega arith

module _ (regions : ℕ) (sizes bytes : List ℕ) (at : ℕ) (h : form_fault regions sizes bytes at ≡ None) where
  abbrev row : Row
  row = row_of bytes at

  formed : (r : ℕ) → r < places → formed_at regions sizes bytes at r ≡ true
  formed = formed_each regions sizes bytes at h

  note-formed : note_ok row.note ≡ true
  unfolding formed_at row_of
  note-formed = needed (formed_at regions sizes bytes at note_name) (note_ok (note_of bytes (note_start at))) (formed note_name (omega arith)) (λ f. rw (f, and-false))

  -- a well formed row fits itself
  pub row_self : misfit (row_of bytes at) (row_of bytes at) ≡ None
  unfolding misfit fits_at
  row_self =
      no_flaw (misfits_at row row)
      (λ place l. ap not (cond_both (λ (x : Bool). x ≡ true) (eqb place note_name)
      (λ _. note_self row.note)
      (λ _. fits_self regions sizes (entry_at row (entry_named place)) ((row_obeys regions sizes bytes at h).entries (entry_named place)))))

  -- a nop keeps it
  pub nop_keeps : (e : Entry) → row_with (row_of bytes at) 0 e (note_after (row_of bytes at).note 0) ≡ row_of bytes at
  unfolding entries_with
  nop_keeps e = rw (note_kept row.note note-formed)
