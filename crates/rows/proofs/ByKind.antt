-- What an entry says is defined by its kind. An entry that tests as kind i has the kind of i, so what it says as that kind, it says: one lemma
-- each way, over any family of statements by kind. And what is shown of each kind is shown of every entry: `each_kind`.
use Prim.Native.Nat.{ℕ, zero, suc, ◌<◌}
use mathlib.Core.Path.{◌≡◌, refl, sym, ap, subst}
use mathlib.Core.Logic.{◌⊎◌}
use mathlib.Core.Bool.{true}
use mathlib.Core.List.{List}
use lib.Dec.{eqb}
use borrow.Author.Tests.{eqb-true}
use Rattle.v8.specs.Signed.{excess}
use Rattle.sets.specs.Sets.{Member, SetRules}
use Rattle.sets_rules.specs.Laws.{Offset}
use Rattle.rows.specs.declared.Entry.{Entry}
use Rattle.rows.specs.Kind.{Kind, unset, number, address, start, return_address, frame_address, none, kind_of}
use Rattle.rows.specs.Entry.{is_unset, is_number, is_address, is_start_or_null, is_return, is_frame}
use Rattle.rows.specs.Matches.{Host, base_of, HoldsAs, Holds}
use Rattle.rows.specs.Laws.{RulesAs, EntryRules, AddressRules}

-- what holds of kind i holds of an entry's kind that tests as i, and the other way round
module _ (P : Kind → Type 0) (e : Entry) (i : ℕ) (t : eqb e.kind i ≡ true) where
  pub of_kind : P (kind_of i) → P (kind_of e.kind)
  of_kind m = subst P (ap kind_of (sym (eqb-true e.kind i t))) m

  pub as_kind : P (kind_of e.kind) → P (kind_of i)
  as_kind m = subst P (ap kind_of (eqb-true e.kind i t)) m

-- what is to be shown of each kind, with the test that the number of that kind passes
pub record Each (P : Kind → Type 0) (k : ℕ) : Type 0 where
  pub if_unset : eqb k 0 ≡ true → P unset
  pub if_number : eqb k 1 ≡ true → P number
  pub if_address : eqb k 2 ≡ true → P address
  pub if_start : eqb k 3 ≡ true → P start
  pub if_return : eqb k 4 ≡ true → P return_address
  pub if_frame : eqb k 5 ≡ true → P frame_address
  pub if_none : P none

-- what is shown of each kind holds of any number's kind
pub each_kind : (P : Kind → Type 0) (k : ℕ) → Each P k → P (kind_of k)
each_kind P zero f = f.if_unset refl
each_kind P (suc zero) f = f.if_number refl
each_kind P (suc (suc zero)) f = f.if_address refl
each_kind P (suc (suc (suc zero))) f = f.if_start refl
each_kind P (suc (suc (suc (suc zero)))) f = f.if_return refl
each_kind P (suc (suc (suc (suc (suc zero))))) f = f.if_frame refl
each_kind P (suc (suc (suc (suc (suc (suc k)))))) f = f.if_none

module _ {h : Host} {e : Entry} {v : ℕ} where
  pub holds_number : is_number e ≡ true → Member e.set (excess v) → Holds h e v
  holds_number k m = record { by_kind = of_kind (HoldsAs h e v) e 1 k m }

  pub holds_address : is_address e ≡ true → Offset (base_of h e.region) e.set v → Holds h e v
  holds_address k m = record { by_kind = of_kind (HoldsAs h e v) e 2 k m }

  pub holds_start : is_start_or_null e ≡ true → (v ≡ 0) ⊎ (v ≡ base_of h e.region) → Holds h e v
  holds_start k m = record { by_kind = of_kind (HoldsAs h e v) e 3 k m }

  pub holds_return : is_return e ≡ true → v ≡ h.returns → Holds h e v
  holds_return k m = record { by_kind = of_kind (HoldsAs h e v) e 4 k m }

  pub holds_frame : is_frame e ≡ true → v ≡ h.frame → Holds h e v
  holds_frame k m = record { by_kind = of_kind (HoldsAs h e v) e 5 k m }

  pub held_number : is_number e ≡ true → Holds h e v → Member e.set (excess v)
  held_number k m = as_kind (HoldsAs h e v) e 1 k m.by_kind

  pub held_address : is_address e ≡ true → Holds h e v → Offset (base_of h e.region) e.set v
  held_address k m = as_kind (HoldsAs h e v) e 2 k m.by_kind

  pub held_start : is_start_or_null e ≡ true → Holds h e v → (v ≡ 0) ⊎ (v ≡ base_of h e.region)
  held_start k m = as_kind (HoldsAs h e v) e 3 k m.by_kind

  pub held_return : is_return e ≡ true → Holds h e v → v ≡ h.returns
  held_return k m = as_kind (HoldsAs h e v) e 4 k m.by_kind

  pub held_frame : is_frame e ≡ true → Holds h e v → v ≡ h.frame
  held_frame k m = as_kind (HoldsAs h e v) e 5 k m.by_kind

module _ {regions : ℕ} {sizes : List ℕ} {e : Entry} where
  pub number_rules : is_number e ≡ true → SetRules e.set → EntryRules regions sizes e
  number_rules k m = record { by_kind = of_kind (RulesAs regions sizes e) e 1 k m }

  pub address_rules : is_address e ≡ true → AddressRules regions sizes e → EntryRules regions sizes e
  address_rules k m = record { by_kind = of_kind (RulesAs regions sizes e) e 2 k m }

  pub start_rules : is_start_or_null e ≡ true → e.region < regions → EntryRules regions sizes e
  start_rules k m = record { by_kind = of_kind (RulesAs regions sizes e) e 3 k m }

  pub unset_rules : is_unset e ≡ true → EntryRules regions sizes e
  unset_rules k = record { by_kind = of_kind (RulesAs regions sizes e) e 0 k tt }

  pub return_rules : is_return e ≡ true → EntryRules regions sizes e
  return_rules k = record { by_kind = of_kind (RulesAs regions sizes e) e 4 k tt }

  pub frame_rules : is_frame e ≡ true → EntryRules regions sizes e
  frame_rules k = record { by_kind = of_kind (RulesAs regions sizes e) e 5 k tt }

  pub ruled_number : is_number e ≡ true → EntryRules regions sizes e → SetRules e.set
  ruled_number k m = as_kind (RulesAs regions sizes e) e 1 k m.by_kind

  pub ruled_address : is_address e ≡ true → EntryRules regions sizes e → AddressRules regions sizes e
  ruled_address k m = as_kind (RulesAs regions sizes e) e 2 k m.by_kind

  pub ruled_start : is_start_or_null e ≡ true → EntryRules regions sizes e → e.region < regions
  ruled_start k m = as_kind (RulesAs regions sizes e) e 3 k m.by_kind
