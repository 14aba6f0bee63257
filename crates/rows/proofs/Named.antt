-- What a named place names: the note, or an entry that the row has; and the place that names an entry.
use Prim.Native.Nat.{ℕ, ◌+◌, ◌<◌}
use mathlib.Core.Path.{◌≡◌}
use mathlib.Core.Bool.{false}
use native.Mathlib.Omega.{arith}
use lib.Dec.{ltb, eqb}
use borrow.Author.Tests.{le-ltb, ltb-true, ltb-false, ne_eqb, eqb-false}
use Rattle.v8.proofs.Choice.{cond_both}
use Rattle.rows.specs.Geometry.{entry_count, note_name, places, entry_named, entry_name}

-- a place that is not the note's names an entry that there is
pub named_entry : (place : ℕ) → place < places → eqb place note_name ≡ false → entry_named place < entry_count
named_entry place l e =
    let other = eqb-false place note_name e in
    cond_both (λ (i : ℕ). i < entry_count) (ltb place note_name)
    (λ t. omega (arith, ltb-true place note_name t))
    (λ t. omega (arith, ltb-false place note_name t, other))

-- the place that names an entry is a place, not the note's, and names that entry
pub name_place : (i : ℕ) → i < entry_count → entry_name i < places
name_place i l = cond_both (λ (p : ℕ). p < places) (ltb i note_name) (λ t. omega (arith, ltb-true i note_name t)) (λ _. omega arith)

pub name_not_note : (i : ℕ) → eqb (entry_name i) note_name ≡ false
name_not_note i =
    cond_both (λ (p : ℕ). eqb p note_name ≡ false) (ltb i note_name)
    (λ t. ne_eqb i note_name (λ e. omega (arith, ltb-true i note_name t)))
    (λ t. ne_eqb (i + 1) note_name (λ e. omega (arith, ltb-false i note_name t)))

pub name_names : (i : ℕ) → entry_named (entry_name i) ≡ i
name_names i =
    cond_both (λ (p : ℕ). entry_named p ≡ i) (ltb i note_name)
    (λ t. rw t)
    (λ t. rw (le-ltb (i + 1) note_name (omega (arith, ltb-false i note_name t))) (omega arith))
