-- The search is the one that is defined. Invariant: the whole search ends where the rest does, from the present place on, and the places
-- looked at lie in the arrays.
use Prim.Native.Nat.{ℕ, ◌+◌, ◌*◌, ◌-◌, ◌≤◌, ◌<◌}
use mathlib.Core.List.{List}
use mathlib.Core.Bool.{Bool, true, cond}
use mathlib.Core.Path.{◌≡◌, refl, sym, ◌∙◌}
use native.Mathlib.Omega.{arith}
use borrow.Author.Tests.{ltb-true, ltb-false, lt-ltb, le-ltb, le-leb, lt-leb}
use lib.ListN.{get_or}
use Rattle.v8.specs.Search.{first}
use Rattle.v8.proofs.Search.{first_here, first_next, first_end}
use lib.Dec.{ltb}
use Rattle.std.specs.Prelude.{min, Some, None}
use Rattle.v8.proofs.Choice.{cond_both}
use Rattle.policy.specs.Policy.{no_field, field_end}
use Rattle.policy.specs.declared.Field.{Field}
use Rattle.policy_search.specs.Find.{holds_in, ends_at, stop_of, last_place, find_in, looked_at, search_in}
use Rattle.policy_search.proofs.find_in.Goals as goal

-- the places of a region end after its fields, or after 16 places
stops-at : (counts : List ℕ) (r m : ℕ) → m ≡ min (get_or counts r 0) 16 → 16 * r + m ≡ stop_of counts r
unfolding stop_of
stops-at counts r m e =
    cond_both (λ (n : ℕ). 16 * r + m ≡ 16 * r + n) (ltb (get_or counts r 0) 16)
    (λ t. let l = ltb-true (get_or counts r 0) 16 t in omega arith)
    (λ t. let l = ltb-false (get_or counts r 0) 16 t in omega arith)

module _ (counts : List ℕ) (fields : List Field) (r low end : ℕ) where
  abbrev last : ℕ
  last = last_place counts fields r low end

  -- there is no such region
  missing : 8 ≤ r → search_in counts fields r low end ≡ record { found = None; looked = 0 }
  unfolding find_in looked_at
  missing l = simp (le-ltb r 8 l)

  abbrev ends : ℕ → Bool
  ends = ends_at fields low end

  abbrev at : ℕ → Field
  at place = get_or fields place no_field

  module _ (place stop : ℕ) (region : r < 8) (stops : stop ≡ stop_of counts r) (from : last ≡ first ends place stop) where
    -- the search ends at a field
    at_field : place < stop → ends place ≡ true
        → search_in counts fields r low end ≡ record { found = cond (holds_in fields low end place) (Some place) None; looked = place + 1 - 16 * r }
    unfolding find_in looked_at
    at_field l t = simp (lt-ltb r 8 region, from, first_here ends place stop l t, ← stops, lt-ltb place stop l)

    -- .. that begins past the bytes
    at-past : place < stop → low < (at place).offset.0 → search_in counts fields r low end ≡ record { found = None; looked = place + 1 - 16 * r }
    unfolding holds_in
    at-past l m = rw (lt-leb (at place).offset.0 low m) at (at_field l (simp (lt-leb (at place).offset.0 low m, lt-ltb low (at place).offset.0 m)))

    -- .. that holds them
    at-holder : place < stop → (at place).offset.0 ≤ low → end ≤ field_end (at place)
        → search_in counts fields r low end ≡ record { found = Some place; looked = place + 1 - 16 * r }
    unfolding holds_in
    at-holder l m n =
        rw (le-leb (at place).offset.0 low m, le-leb end (field_end (at place)) n) at
        (at_field l (simp (le-leb (at place).offset.0 low m, le-leb end (field_end (at place)) n)))

    -- it passes by a field that does neither
    next : place < stop → (at place).offset.0 ≤ low → field_end (at place) < end → last ≡ first ends (place + 1) stop
    unfolding holds_in
    next l m n =
        from ∙ first_next ends place stop l
        (simp (le-leb (at place).offset.0 low m, lt-leb end (field_end (at place)) n, le-ltb low (at place).offset.0 m))

    -- it ends after the last field
    at-stop : stop ≤ place → search_in counts fields r low end ≡ record { found = None; looked = stop - 16 * r }
    unfolding find_in looked_at
    at-stop l = simp (lt-ltb r 8 region, from, first_end ends place stop l, ← stops, le-ltb place stop l)

pub returns-then-region-ge8 : goal.returns-then-region-ge8
returns-then-region-ge8 c = sym (missing _ _ _ _ _ c.if-region-ge8.true)

pub loop-place-init : goal.loop-place-init
loop-place-init c =
    let stops = stops-at c.args.policy.now.regions.fields c.args.region c.min.result c.min.ensures in
    (omega arith, omega arith, omega arith, stops, rw stops refl)

pub returns-then-low-f : goal.returns-then-low-f
returns-then-low-f c =
    let inv = c.loop-place.invariant in
    rw c.up_to.ensures (sym (at-past _ _ _ _ _ _ _ c.if-region-ge8.false inv.3 inv.4 c.loop-place-test.true c.if-low-f.true))

pub returns-then-end : goal.returns-then-end
returns-then-end c =
    let inv = c.loop-place.invariant in
    rw c.up_to-then-end.ensures
    (sym (at-holder _ _ _ _ _ _ _ c.if-region-ge8.false inv.3 inv.4 c.loop-place-test.true c.if-low-f.false (rw (← c.end.ensures) c.if-end.true)))

pub loop-place-preserved : goal.loop-place-preserved
loop-place-preserved c =
    let inv = c.loop-place.invariant in (
      omega arith,
      omega arith,
      inv.2,
      inv.3,
      next _ _ _ _ _ _ _ c.if-region-ge8.false inv.3 inv.4 c.loop-place-test.true c.if-low-f.false (rw (← c.end.ensures) c.if-end.false),
    )

pub returns : goal.returns
returns c =
    let inv = c.loop-place.invariant in
    sym (at-stop _ _ _ _ _ _ _ c.if-region-ge8.false inv.3 inv.4 c.loop-place-test.false)
