-- Starts that match, by tests that compute. A test for each kind says whether a word is one of an entry's values; registers and scratch words are tested up
-- to the last, after which no entry is set, and fields element by element, so a test that passes for each of finitely many places says it of all.
use Prim.Native.Nat.{ℕ, zero, suc, ◌+◌, ◌-◌, ◌<◌}
use mathlib.Core.Path.{◌≡◌, refl, sym, ◌∙◌}
use mathlib.Core.Logic.{inl, inr}
use mathlib.Core.Bool.{Bool, true, false, ◌&&◌, ◌||◌}
use mathlib.Core.List.{List, [], ◌∷◌}
use lib.Dec.{leb, ltb, eqb}
use lib.ListN.{get_or}
use borrow.Author.Tests.{leb-true, ltb-true, eqb-true}
use Rattle.v8.proofs.Choice.{or_went, and_went, false_true}
use Rattle.v8.specs.Search.{all}
use Rattle.v8.proofs.Search.{all_at}
use Rattle.v8.specs.Signed.{excess, bias}
use Rattle.policy.specs.declared.Policy.{Policy}
use Rattle.policy.specs.Policy.{count_of}
use Rattle.memory.specs.Memory.{load_of}
use Rattle.sets_narrow.specs.Narrow.{is_member}
use Rattle.sets_narrow.proofs.Narrowing.{is_member_lem}
use Rattle.rows.specs.declared.Entry.{Entry}
use Rattle.rows.specs.declared.Row.{Row}
use Rattle.rows.specs.Kind.{Kind, unset, number, address, start, return_address, frame_address, none, kind_of}
use Rattle.rows.specs.Entry.{is_unset, field_entry}
use Rattle.rows.specs.Geometry.{entry_count}
use Rattle.rows.specs.Row.{entry_at}
use Rattle.rows.specs.Matches.{Host, base_of, HoldsAs, Holds, Matches, Held}
use Rattle.guarantee.specs.Fields.{load_for, field_of, element_at, Declared}

-- every number of a list lies below m
abbrev pub all_below : ℕ → List ℕ → Bool
all_below m [] = true
all_below m (x ∷ xs) = ltb x m && all_below m xs

pub below : (m : ℕ) → 0 < m → (xs : List ℕ) → all_below m xs ≡ true → (i : ℕ) → get_or xs i 0 < m
below m some [] t i = some
below m some (x ∷ xs) t zero = ltb-true x m (and_went (ltb x m) (all_below m xs) t).0
below m some (x ∷ xs) t (suc i) = below m some xs (and_went (ltb x m) (all_below m xs) t).1 i

module _ (h : Host) (e : Entry) (v : ℕ) where
  -- a word is one of the values of an entry of a kind
  abbrev holds_as : Kind → Bool
  holds_as unset = true
  holds_as number = is_member e.set (excess v)
  holds_as address = leb (base_of h e.region) v && is_member e.set (v - base_of h e.region + bias)
  holds_as start = eqb v 0 || eqb v (base_of h e.region)
  holds_as return_address = eqb v h.returns
  holds_as frame_address = eqb v h.frame
  holds_as none = true

  abbrev pub holds : Bool
  holds = holds_as (kind_of e.kind)

  holds_as_lem : (k : Kind) → holds_as k ≡ true → HoldsAs h e v k
  holds_as_lem unset t = tt
  holds_as_lem number t = is_member_lem e.set (excess v) t
  holds_as_lem address t =
      let both = and_went (leb (base_of h e.region) v) (is_member e.set (v - base_of h e.region + bias)) t in
      record { above = leb-true (base_of h e.region) v both.0; member = is_member_lem e.set (v - base_of h e.region + bias) both.1 }
  holds_as_lem start t =
      or_went (eqb v 0) (eqb v (base_of h e.region)) t (λ z. inl (eqb-true v 0 z)) (λ b. inr (eqb-true v (base_of h e.region) b))
  holds_as_lem return_address t = eqb-true v h.returns t
  holds_as_lem frame_address t = eqb-true v h.frame t
  holds_as_lem none t = tt

  holds_by : holds ≡ true → Holds h e v
  holds_by t = record { by_kind = holds_as_lem (kind_of e.kind) t }

module _ (h : Host) (row : Row) (g : Held) where
  -- what stands at index r matches its entry
  abbrev pub register_matches : ℕ → Bool
  register_matches r = is_unset (entry_at row r) || g.mark r && holds h (entry_at row r) (g.value r)

  matching : (r : ℕ) → register_matches r ≡ true → Matches h (entry_at row r) (g.mark r) (g.value r)
  matching r t u =
      or_went (is_unset (entry_at row r)) (g.mark r && holds h (entry_at row r) (g.value r)) t
      (λ s. false_true (sym u ∙ s))
      (λ s. let both = and_went (g.mark r) (holds h (entry_at row r) (g.value r)) s in (both.0, holds_by h (entry_at row r) (g.value r) both.1))

  -- there is no entry after the last
  after_last : (r : ℕ) → ltb r entry_count ≡ false → is_unset (entry_at row r) ≡ true
  unfolding entry_at
  after_last r f = rw f

  pub registers_match : all register_matches entry_count ≡ true → (r : ℕ) → Matches h (entry_at row r) (g.mark r) (g.value r)
  registers_match t r = at (ltb r entry_count) refl
    where
      at : (b : Bool) → ltb r entry_count ≡ b → Matches h (entry_at row r) (g.mark r) (g.value r)
      at true l = matching r (all_at register_matches entry_count r t (ltb-true r entry_count l))
      at false l = λ u. false_true (sym u ∙ after_last r l)

module _ (p : Policy) (h : Host) (memory : List ℕ) where
  -- element i of field k of region r holds a declared value, each of the field does, and each of the region's
  abbrev element_holds : ℕ → ℕ → ℕ → Bool
  element_holds r k i = holds h (field_entry (field_of p r k)) (load_of (load_for (field_of p r k).element) memory (element_at p r (field_of p r k) i))

  abbrev field_holds : ℕ → ℕ → Bool
  field_holds r k = all (element_holds r k) (field_of p r k).count

  abbrev pub region_holds : ℕ → Bool
  region_holds r = all (field_holds r) (count_of p r)

  pub fields_hold : all region_holds p.regions.count ≡ true → Declared p h memory
  fields_hold t r k i lr lk readable li =
      holds_by h (field_entry (field_of p r k)) (load_of (load_for (field_of p r k).element) memory (element_at p r (field_of p r k) i))
      (all_at (element_holds r k) (field_of p r k).count i
      (all_at (field_holds r) (count_of p r) k (all_at region_holds p.regions.count r t lr) lk)
      li)
