-- Bytes that stay while others are written: outside a part, in rows that are there, and before all rows; and where the rows of an opened
-- bundle stand.
use Prim.Native.Nat.{ℕ, ◌+◌, ◌-◌, ◌*◌, ◌<◌, ◌≤◌}
use mathlib.Core.Path.{◌≡◌, refl, sym, ap, ◌∙◌, subst}
use mathlib.Core.Bool.{true, false, not, true≢false}
use mathlib.Core.List.{List}
use native.Mathlib.Nat.{mul-le-mul_left, mul-add, mul-one, not-suc-le-zero}
use native.Mathlib.Omega.{arith}
use lib.Dec.{eqb}
use borrow.Rule.Slice.PartMut.{put_mid}
use lib.ListN.{length, get_or}
use Rattle.std.proofs.lemmas.List.{get_or-drop, get_or-take}
use Rattle.std.proofs.lemmas.Slice.{take-put_mid_below, drop-put_mid}
use borrow.Author.Tests.{eq-eqb}
use Rattle.v8.specs.Numbers.{bad_bundle}
use Rattle.v8.proofs.Choice.{cond_both}
use Rattle.memory.specs.Memory.{byte_at}
use Rattle.policy.proofs.RegionKept.{last_or_before}
use Rattle.rows.specs.Geometry.{row_bytes}
use Rattle.bundle_layout.specs.Layout.{narrow, narrow_row_bytes, rows_bytes, word_count, rows_place, bundle_ok}
use Rattle.bundle_open.specs.Build.{built_of}
use Rattle.bundle_open.specs.Open.{Holds, closed, opened_of}
use Rattle.bundle_open.specs.declared.Opened.{Opened}
use Rattle.bundle_open.proofs.Laid.{laid}
use Rattle.completion.specs.Kept.{SameAt, is_there, RowsKept, Kept, SameOutside, PutAt}

-- nothing is written yet
pub outside_self : (b : List ℕ) (place n : ℕ) → SameOutside place n b b
outside_self b place n = record { below = λ k l. refl; above = λ k l. refl }

-- a part is written
pub outside_mid : (before ys : List ℕ) (place n k : ℕ) → k ≡ n → length ys ≡ n → place + n ≤ length before → SameOutside place n before (put_mid place k before ys)
outside_mid before ys place n k e g l = rw e (record { below = below; above = above })
  where
    below : (j : ℕ) → j < place → SameAt before (put_mid place n before ys) j
    below j m =
        sym (get_or-take place (put_mid place n before ys) j 0 m)
        ∙ ap (λ (t : List ℕ). get_or t j 0) (take-put_mid_below place n before ys place (omega arith) (omega (arith, l)))
        ∙ get_or-take place before j 0 m

    after : (i : ℕ) → SameAt before (put_mid place n before ys) (place + n + i)
    after i =
        sym (get_or-drop (place + n) (put_mid place n before ys) i 0)
        ∙ ap (λ (t : List ℕ). get_or t i 0) (drop-put_mid place n before ys (place + n) (omega arith) (omega (arith, l)) g)
        ∙ get_or-drop (place + n) before i 0

    above : (j : ℕ) → place + n ≤ j → SameAt before (put_mid place n before ys) j
    above j m = subst (SameAt before (put_mid place n before ys)) (omega (arith, m)) (after (j - (place + n)))

-- two parts, one after the other
pub outside_on :
    (a b c : List ℕ) (place n m size : ℕ) → n + m ≡ size → SameOutside place n a b → SameOutside (place + n) m b c → SameOutside place size a c
outside_on a b c place n m size e s t =
    record {
      below = λ k l. t.below k (omega (arith, l)) ∙ s.below k l;
      above = λ k l. t.above k (omega (arith, l, e)) ∙ s.above k (omega (arith, l, e));
    }

-- a row that is there stays
pub put_there : (b : List ℕ) (place n : ℕ) → PutAt place n b b
put_there b place n = record { outside = outside_self b place n; stays = λ t k. refl }

-- one that is missing is written
pub put_missing : (b c : List ℕ) (place n : ℕ) → byte_at b place ≡ 0 → SameOutside place n b c → PutAt place n b c
put_missing b c place n z s =
    record { outside = s; stays = λ t k. absurd (true≢false (sym t ∙ ap not (eq-eqb (byte_at b place) 0 z))) }

-- i rows are put, from a place on: what stands before them, those that were there, and what stands after them is as it was
pub record Putting (size i place : ℕ) (before after : List ℕ) : Type 0 where
  pub ahead : (k : ℕ) → k < place → SameAt before after k
  pub given : (r j : ℕ) → r < i → j < size → is_there before (place + size * r) ≡ true → SameAt before after (place + size * r + j)
  pub later : (k : ℕ) → place + size * i ≤ k → SameAt before after k

pub none_put : (size place : ℕ) (b : List ℕ) → Putting size 0 place b b
none_put size place b = record { ahead = λ k l. refl; given = λ r j l. absurd (not-suc-le-zero l); later = λ k l. refl }

-- one row more
pub more_put :
    (size i place : ℕ) (before b c : List ℕ) → Putting size i place before b → PutAt (place + size * i) size b c
    → Putting size (i + 1) place before c
more_put size i place before b c p q =
    record {
      ahead = λ k l. q.outside.below k (omega (arith, l)) ∙ p.ahead k l;
      given = λ r j l m t.
          last_or_before r i l
          (λ e. let t' : is_there before (place + size * i) ≡ true = rw (sym e) t in
          let here = p.later (place + size * i) (omega arith) in
          let there : is_there b (place + size * i) ≡ true = ap (λ (v : ℕ). not (eqb v 0)) here ∙ t' in
          q.stays there (place + size * r + j) ∙ p.later (place + size * r + j) (rw e (omega arith)))
          (λ m'. let s = mul-le-mul_left size m' in
          let d = mul-add size r 1 in
          let one = mul-one size in
          q.outside.below (place + size * r + j) (omega (arith, s, d, one, m)) ∙ p.given r j m' m t);
      later = λ k l.
          let d = mul-add size i 1 in
          let one = mul-one size in
          q.outside.above k (omega (arith, l, d, one)) ∙ p.later k (omega (arith, l, d, one));
    }

-- all rows
pub all_put : (size n i place : ℕ) (before after : List ℕ) → i ≡ n → Putting size i place before after → RowsKept size n place before after
all_put size n i place before after e p =
    subst (λ (m : ℕ). RowsKept size m place before after) e (record { ahead = p.ahead; given = p.given })

module _ (b : List ℕ) where
  abbrev Stands : Opened → Type 0
  Stands o = (o.number ≡ 0) → (o.rows ≡ rows_place b) × (o.count ≡ word_count b)

  closed_stands : (number : ℕ) → eqb number 0 ≡ false → Stands (closed number)
  closed_stands number z q = absurd (true≢false (sym (eq-eqb _ _ q) ∙ z))

  opened_stands : Stands (opened_of b)
  unfolding opened_of
  opened_stands =
      cond_both Stands (bundle_ok b)
      (λ ok. cond_both Stands (eqb (built_of b).number 0) (λ z. λ q. (refl, refl)) (λ z. closed_stands (built_of b).number z))
      (λ bad. closed_stands bad_bundle refl)

  -- the rows of an opened bundle stand at their place, as many as it has words
  rows_stand : (o : Opened) → Holds b o → (o.rows ≡ rows_place b) × (o.count ≡ word_count b)
  rows_stand o h = let l : Stands o = rw h.0 opened_stands in l h.1

  -- .. so that what is kept of them is kept of the bundle
  rows_kept : (size : ℕ) (after : List ℕ) (o : Opened) → Holds b o → rows_bytes b 1 ≡ size → RowsKept size o.count o.rows b after → Kept b after
  rows_kept size after o h e k = let s = rows_stand o h in
      subst (λ (place : ℕ). RowsKept (rows_bytes b 1) (word_count b) place b after) s.0
      (subst (λ (n : ℕ). RowsKept (rows_bytes b 1) n o.rows b after) s.1
      (subst (λ (z : ℕ). RowsKept z o.count o.rows b after) (sym e) k))

  pub wide_kept : (after : List ℕ) (o : Opened) → Holds b o → narrow b ≡ false → RowsKept row_bytes o.count o.rows b after → Kept b after
  wide_kept after o h t k = rows_kept row_bytes after o h (simp t) k

  pub narrow_kept : (after : List ℕ) (o : Opened) → Holds b o → narrow b ≡ true → RowsKept narrow_row_bytes o.count o.rows b after → Kept b after
  narrow_kept after o h t k = rows_kept narrow_row_bytes after o h (simp t) k

  -- what is no bundle is kept as it is
  pub all_kept : Kept b b
  all_kept = record { ahead = λ k l. refl; given = λ r j l m t. refl }

  -- in version 2 the rows reach to the end
  pub wide_laid : (o : Opened) → Holds b o → narrow b ≡ false → o.end ≡ o.rows + row_bytes * o.count
  wide_laid o h t = (laid b o h).1 ∙ simp t
