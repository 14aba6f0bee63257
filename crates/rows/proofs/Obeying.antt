-- What the form of entries and rows says. An entry that passes has one of the six kinds, and the rules of its kind; a row in which the
-- search for a fault finds none has only such entries.
use Rattle.std.specs.Prelude.{None}
use Prim.Native.Nat.{ℕ, ◌+◌, ◌-◌, ◌≤◌, ◌<◌}
use mathlib.Core.Path.{◌≡◌, refl, sym, subst}
use mathlib.Core.Bool.{Bool, true, false, cond, ◌&&◌, ◌||◌, and-false}
use mathlib.Core.List.{List}
use native.Mathlib.Omega.{arith}
use lib.Dec.{T, leb, ltb, eqb}
use lib.ListN.{get_or}
use native.Mathlib.Nat.{mod-one}
use borrow.Author.Tests.{ltb-true, ltb-false, leb-true, not-false}
use Rattle.v8.specs.Signed.{bias}
use Rattle.v8.proofs.Search.{needed}
use Rattle.v8.proofs.Table.{at}
use Rattle.v8.proofs.Choice.{cond_went, cond_both, or_went, and_went}
use Rattle.policy.specs.Element.{mosts, most_of}
use Rattle.sets.specs.Sets.{set_ok, s1}
use Rattle.sets.proofs.Formed.{obeys}
use Rattle.sets.proofs.Ends.{ended_formed, single_formed}
use Rattle.rows.specs.declared.Entry.{Entry}
use Rattle.rows.specs.Entry.{is_unset, is_number, is_address, is_start_or_null, is_return, is_frame, is_blank, size_in, entry_ok, field_entry}
use Rattle.rows.specs.Geometry.{entry_count, entry_start, places, entry_name}
use Rattle.rows.specs.Row.{entry_at, entry_of, note_of, row_of, formed_at, broken_at, form_fault}
use Rattle.rows.specs.Laws.{EntryRules, EntryObeys, RowObeys, FieldEntryObeys}
use Rattle.rows.proofs.LowestFlaw.{none_broken}
use Rattle.rows.proofs.Named.{name_place, name_not_note, name_names}
use Rattle.rows.proofs.ByKind.{number_rules, address_rules, start_rules, unset_rules, return_rules, frame_rules}
use Rattle.rows.proofs.ReadRows.{entry_read_lem}
use Rattle.rows.proofs.RowFitting.{beyond}

module _ (regions : ℕ) (sizes : List ℕ) (e : Entry) where
  abbrev number_form : Bool
  number_form = eqb e.region 0 && set_ok e.set

  abbrev address_form : Bool
  address_form = ltb e.region regions && set_ok e.set && leb bias e.set.lo && leb e.set.hi (bias + size_in sizes e.region)

  abbrev start_form : Bool
  start_form = ltb e.region regions && is_blank e.set

  abbrev other_form : Bool
  other_form = (is_unset e || is_return e || is_frame e) && eqb e.region 0 && is_blank e.set

  as_number : e.set.hi < 4294967296 → is_number e ≡ true → number_form ≡ true → EntryRules regions sizes e
  as_number top k f = number_rules k (obeys e.set top (and_went (eqb e.region 0) (set_ok e.set) f).1)

  as_address : e.set.hi < 4294967296 → is_address e ≡ true → address_form ≡ true → EntryRules regions sizes e
  as_address top k f =
      let p = and_went (ltb e.region regions && set_ok e.set && leb bias e.set.lo) (leb e.set.hi (bias + size_in sizes e.region)) f in
      let q = and_went (ltb e.region regions && set_ok e.set) (leb bias e.set.lo) p.0 in
      let r = and_went (ltb e.region regions) (set_ok e.set) q.0 in
      address_rules k
      (record {
        region = ltb-true e.region regions r.0;
        set = obeys e.set top r.1;
        low = leb-true bias e.set.lo q.1;
        high = leb-true e.set.hi (bias + size_in sizes e.region) p.1;
      })

  as_start : is_start_or_null e ≡ true → start_form ≡ true → EntryRules regions sizes e
  as_start k f = start_rules k (ltb-true e.region regions (and_went (ltb e.region regions) (is_blank e.set) f).0)

  as_other : other_form ≡ true → EntryRules regions sizes e
  as_other f =
      let p = and_went ((is_unset e || is_return e || is_frame e) && eqb e.region 0) (is_blank e.set) f in
      let q = and_went (is_unset e || is_return e || is_frame e) (eqb e.region 0) p.0 in
      or_went (is_unset e || is_return e) (is_frame e) q.0 (λ t. or_went (is_unset e) (is_return e) t unset_rules return_rules) frame_rules

pub entry_obeys : EntryObeys
unfolding entry_ok
entry_obeys regions sizes e top f =
    cond_went (is_number e) (number_form regions sizes e)
    (cond (is_address e) (address_form regions sizes e) (cond (is_start_or_null e) (start_form regions sizes e) (other_form regions sizes e))) true f
    (as_number regions sizes e top)
    λ _ f₁. cond_went (is_address e) (address_form regions sizes e) (cond (is_start_or_null e) (start_form regions sizes e) (other_form regions sizes e)) true f₁
    (as_address regions sizes e top)
    λ _ f₂. cond_went (is_start_or_null e) (start_form regions sizes e) (other_form regions sizes e) true f₂
    (as_start regions sizes e)
    λ _ f₃. as_other regions sizes e f₃

-- where no flaw is found, each place is well formed
pub formed_each : (regions : ℕ) (sizes bytes : List ℕ) (at : ℕ) → form_fault regions sizes bytes at ≡ None
    → (r : ℕ) → r < places → formed_at regions sizes bytes at r ≡ true
unfolding form_fault
formed_each regions sizes bytes at e r l =
    not-false (formed_at regions sizes bytes at r)
    (none_broken (broken_at regions sizes bytes at) e r l)

pub formed_entry : (regions : ℕ) (sizes bytes : List ℕ) (at r : ℕ) → formed_at regions sizes bytes at (entry_name r) ≡ true
    → entry_ok regions sizes (entry_of bytes (entry_start at r)) ≡ true
unfolding formed_at
formed_entry regions sizes bytes at r e =
    needed (formed_at regions sizes bytes at (entry_name r)) (entry_ok regions sizes (entry_of bytes (entry_start at r))) e
    (λ f. rw (name_not_note r, name_names r, f, and-false))

-- a number read from bytes is one of 32 bits
read_top : (bytes : List ℕ) (at : ℕ) → (entry_of bytes at).set.hi < 4294967296
unfolding entry_of
read_top bytes at = omega arith

read_number_lem : (bytes : List ℕ) (at : ℕ) → (row_of bytes at).note.number < 4294967296
unfolding row_of note_of
read_number_lem bytes at = omega arith

pub row_obeys : RowObeys
row_obeys regions sizes bytes at e = record { entries = λ r. by r (ltb r entry_count) refl; number = read_number_lem bytes at }
  where
    by : (r : ℕ) (t : Bool) → ltb r entry_count ≡ t → EntryRules regions sizes (entry_at (row_of bytes at) r)
    by r true t =
        subst (EntryRules regions sizes) (sym (entry_read_lem bytes at r (ltb-true r entry_count t)))
        (entry_obeys regions sizes (entry_of bytes (entry_start at r)) (read_top bytes (entry_start at r))
        (formed_entry regions sizes bytes at r (formed_each regions sizes bytes at e (entry_name r) (name_place r (ltb-true r entry_count t)))))
    by r false t =
        subst (EntryRules regions sizes) (sym (beyond (row_of bytes at) r (ltb-false r entry_count t))) (unset_rules refl)

from-T : (t : Bool) → T t → t ≡ true
from-T true h = refl
from-T false h = absurd h

-- the greatest numbers of the elements are numbers of 32 bits
most_top : (e : ℕ) → e ≤ 5 → most_of e < 4294967296
unfolding most_of
most_top e l = ltb-true _ 4294967296 (from-T (ltb (get_or mosts e 0) 4294967296) (at 0 (λ k x. ltb x 4294967296) mosts tt e (omega arith)))

pub field_entry_obeys : FieldEntryObeys
unfolding field_entry
field_entry_obeys regions size sizes f w =
    cond_both (EntryRules regions sizes) (ltb f.element 6)
    (λ t. let n = w.numbers (omega (arith, ltb-true f.element 6 t)) in
    number_rules refl
    (ended_formed 1 f.lo f.hi s1 n.order (lower n.most (most_top f.element (omega (arith, ltb-true f.element 6 t)))) (mod-one (f.hi - f.lo))))
    (λ t. let a = w.address (ltb-false f.element 6 t) in
    cond_both (EntryRules regions sizes) (eqb f.element 6)
    (λ _. address_rules refl
    (record { region = a.target; set = single_formed bias (omega arith); low = omega arith; high = omega arith }))
    (λ _. start_rules refl a.target))
  where
    lower : {a b : ℕ} → a ≤ b → b < 4294967296 → a < 4294967296
    lower p q = omega arith
