-- The listing is closed, and at most every closed table: raising keeps a table at most each closed one, and while it is not closed makes it
-- higher, which ends.
use Prim.Native.Nat.{ℕ, zero, suc, ◌+◌, ◌*◌, ◌≤◌, ◌<◌}
use mathlib.Core.Path.{◌≡◌, refl, sym, subst, ◌∙◌}
use mathlib.Core.Bool.{Bool, true, false}
use mathlib.Core.List.{List}
use mathlib.Core.Logic.{⊎_elim}
use native.Mathlib.Nat.{eq-or-lt_of_le, le_of_suc-le-suc, not-suc-le-zero}
use native.Mathlib.Omega.{arith}
use lib.Dec.{ltb, eqb}
use lib.ListN.{length, replicate, length-replicate, get_or-replicate}
use borrow.Author.Tests.{eqb-true, eqb-false, ltb-true, ltb-false}
use Rattle.v8.specs.Search.{all}
use Rattle.v8.specs.declared.Reading.{Reading}
use Rattle.v8.proofs.Choice.{cond_both, and_went, false_true}
use Rattle.v8.proofs.Search.{all_at, all_each, and_both}
use Rattle.marks.specs.Marks.{not_reached, AtMost, register_count}
use Rattle.marks.proofs.Order.{none_at_most, at_most_both}
use Rattle.lister_rules.specs.Table.{mark_at, TableAtMost, height}
use Rattle.lister_rules.specs.Rules.{entry_marks, entry_sent, sent_by, taken_in, all_taken_in, closed_at, closed, raised_by, raised_by_all}
use Rattle.lister.specs.Listing.{raised_by_words, raised_once, raised_until_closed, no_marks, listing_of}
use Rattle.lister.specs.Laws.{ListingClosed, ListingSmallest, ListingUnique, RaisingEnds}
use Rattle.lister_rules.proofs.Tables.{mark_behind, table_self, table_trans, taken_higher, height_most, height_rises, height_same}
use Rattle.lister_rules.proofs.Sent.{sent_taken}
use Rattle.lister_rules.proofs.Raised.{by_length, by_least, by_lowest, by_taken, all_length, all_least, all_lowest, all_higher, all_taken, to_within, sent_within}

-- a table without marks is at most every other
pub none_marked : (n k : ℕ) → mark_at (replicate n not_reached) k ≡ not_reached
none_marked n k = at (ltb k n) refl
  where
    at : (t : Bool) → ltb k n ≡ t → mark_at (replicate n not_reached) k ≡ not_reached
    at true e = get_or-replicate n k not_reached not_reached (ltb-true k n e)
    at false e = mark_behind (replicate n not_reached) k (omega (arith, ltb-false k n e, length-replicate n not_reached))

pub none_below : (n : ℕ) (other : List ℕ) → TableAtMost (replicate n not_reached) other
none_below n other k = subst (λ (m : ℕ). AtMost m (mark_at other k)) (sym (none_marked n k)) (none_at_most (mark_at other k))

module _ (readings : List Reading) (entry : List ℕ) where
  -- a closed table takes in what the entry row sends, and is closed at each word
  pub closed_entry : (table : List ℕ) → closed readings entry table ≡ true → taken_in table (entry_sent (length readings) entry) ≡ true
  unfolding closed
  closed_entry table e = (and_went (taken_in table (entry_sent (length readings) entry)) (all (closed_at readings table) (length readings)) e).0

  pub closed_word : (table : List ℕ) → closed readings entry table ≡ true → (w : ℕ) → w < length readings → closed_at readings table w ≡ true
  unfolding closed
  closed_word table e w l =
      all_at (closed_at readings table) (length readings) w
      (and_went (taken_in table (entry_sent (length readings) entry)) (all (closed_at readings table) (length readings)) e).1 l

  pub closed_each : (table : List ℕ) → taken_in table (entry_sent (length readings) entry) ≡ true
      → ((w : ℕ) → w < length readings → closed_at readings table w ≡ true) → closed readings entry table ≡ true
  unfolding closed
  closed_each table e h = and_both _ _ e (all_each (closed_at readings table) (length readings) h)

  -- what a word sends keeps a table at most each closed one
  pub word_lowest : (from table other : List ℕ) → closed readings entry other ≡ true → TableAtMost from other → TableAtMost table other
      → (w : ℕ) → w < length readings → TableAtMost (raised_by_all table (sent_by readings from w)) other
  word_lowest from table other c f p w l = all_lowest table other (sent_by readings from w) p (sent_taken readings from other w f (closed_word other c w l))

  pub entry_lowest : (table other : List ℕ) → closed readings entry other ≡ true → TableAtMost table other
      → TableAtMost (raised_by table (entry_sent (length readings) entry)) other
  entry_lowest table other c p = by_lowest table other (entry_sent (length readings) entry) p (closed_entry other c)

  module _ (from : List ℕ) where
    words_length : (table : List ℕ) (w : ℕ) → length (raised_by_words readings from table w) ≡ length table
    unfolding raised_by_words
    words_length table zero = refl
    words_length table (suc w) = all_length (raised_by_words readings from table w) (sent_by readings from w) ∙ words_length table w

    words_least : (table : List ℕ) (w : ℕ) → TableAtMost table (raised_by_words readings from table w)
    unfolding raised_by_words
    words_least table zero = table_self table
    words_least table (suc w) =
        let before = raised_by_words readings from table w in
        table_trans table before (raised_by_all before (sent_by readings from w)) (words_least table w) (all_least before (sent_by readings from w))

    words_lowest : (table other : List ℕ) → closed readings entry other ≡ true → TableAtMost from other → TableAtMost table other
        → (w : ℕ) → w ≤ length readings → TableAtMost (raised_by_words readings from table w) other
    unfolding raised_by_words
    words_lowest table other c f p zero l = p
    words_lowest table other c f p (suc w) l =
        word_lowest from (raised_by_words readings from table w) other c f (words_lowest table other c f p w (omega (arith, l))) w l

    words_taken : (table : List ℕ) → length table ≡ register_count * length readings → (n w : ℕ) → w < n
        → all_taken_in (raised_by_words readings from table n) (sent_by readings from w) ≡ true
    unfolding raised_by_words
    words_taken table long zero w l = absurd (not-suc-le-zero l)
    words_taken table long (suc n) w l =
        let before = raised_by_words readings from table n in
        let after = raised_by_all before (sent_by readings from n) in
        ⊎_elim
        (λ (e : w ≡ n). subst (λ (v : ℕ). all_taken_in after (sent_by readings from v) ≡ true) (sym e)
        (all_taken (length readings) before (sent_by readings from n) (omega (arith, words_length table n, long)) (sent_within readings from n)))
        (λ (q : w < n). all_higher before after (sent_by readings from w) (all_least before (sent_by readings from n)) (words_taken table long n w q))
        (eq-or-lt_of_le (le_of_suc-le-suc l))

  once_length : (table : List ℕ) → length (raised_once readings entry table) ≡ length table
  unfolding raised_once
  once_length table =
      words_length table (raised_by table (entry_sent (length readings) entry)) (length readings) ∙ by_length table (entry_sent (length readings) entry)

  once_least : (table : List ℕ) → TableAtMost table (raised_once readings entry table)
  unfolding raised_once
  once_least table =
      let first = raised_by table (entry_sent (length readings) entry) in
      table_trans table first (raised_by_words readings table first (length readings)) (by_least table (entry_sent (length readings) entry))
      (words_least table first (length readings))

  once_lowest : (table other : List ℕ) → closed readings entry other ≡ true → TableAtMost table other → TableAtMost (raised_once readings entry table) other
  unfolding raised_once
  once_lowest table other c p =
      words_lowest table (raised_by table (entry_sent (length readings) entry)) other c p (entry_lowest table other c p) (length readings) (omega arith)

  -- a table that raising leaves as it is is closed
  same_closed : (table : List ℕ) → length table ≡ register_count * length readings → raised_once readings entry table ≡ table → closed readings entry table ≡ true
  unfolding raised_once closed_at
  same_closed table long e =
      let first = raised_by table (entry_sent (length readings) entry) in
      let sent = entry_sent (length readings) entry in
      closed_each table
      (subst (λ (t : List ℕ). taken_in t sent ≡ true) e
      (taken_higher first (raised_by_words readings table first (length readings)) sent (words_least table first (length readings))
      (by_taken (length readings) table sent (omega (arith, long)) (to_within (length readings) 0 (entry_marks entry)))))
      (λ w l. subst (λ (t : List ℕ). all_taken_in t (sent_by readings table w) ≡ true) e
      (words_taken table first (by_length table sent ∙ long) (length readings) w l))

  once_higher : (table : List ℕ) → length table ≡ register_count * length readings → closed readings entry table ≡ false
      → height table < height (raised_once readings entry table)
  once_higher table long unclosed = at (eqb (height table) (height once)) refl
    where
      once : List ℕ
      once = raised_once readings entry table

      at : (t : Bool) → eqb (height table) (height once) ≡ t → height table < height once
      at true e =
          false_true (sym unclosed ∙ same_closed table long (sym (height_same table once (sym (once_length table)) (once_least table) (eqb-true (height table) (height once) e))))
      at false e = omega (arith, eqb-false (height table) (height once) e, height_rises table once (sym (once_length table)) (once_least table))

  -- raised until closed
  until_closed : (n : ℕ) (table : List ℕ) → length table ≡ register_count * length readings → 2 * (register_count * length readings) ≤ height table + n
      → closed readings entry (raised_until_closed readings entry n table) ≡ true
  unfolding raised_until_closed
  until_closed zero table long h = at (closed readings entry table) refl
    where
      at : (t : Bool) → closed readings entry table ≡ t → closed readings entry table ≡ true
      at true e = e
      at false e =
          let once = raised_once readings entry table in
          absurd (omega (arith, h, once_higher table long e, height_most once, once_length table, long))
  until_closed (suc n) table long h =
      cond_both (λ (t : List ℕ). closed readings entry t ≡ true) (closed readings entry table) (λ e. e)
      (λ e. until_closed n (raised_once readings entry table) (once_length table ∙ long) (omega (arith, h, once_higher table long e)))

  until_lowest : (n : ℕ) (table other : List ℕ) → closed readings entry other ≡ true → TableAtMost table other
      → TableAtMost (raised_until_closed readings entry n table) other
  unfolding raised_until_closed
  until_lowest zero table other c p = p
  until_lowest (suc n) table other c p =
      cond_both (λ (t : List ℕ). TableAtMost t other) (closed readings entry table) (λ e. p)
      (λ e. until_lowest n (raised_once readings entry table) other c (once_lowest table other c p))

  until_length : (n : ℕ) (table : List ℕ) → length (raised_until_closed readings entry n table) ≡ length table
  unfolding raised_until_closed
  until_length zero table = refl
  until_length (suc n) table =
      cond_both (λ (t : List ℕ). length t ≡ length table) (closed readings entry table) (λ e. refl)
      (λ e. until_length n (raised_once readings entry table) ∙ once_length table)

  pub listing_length : length (listing_of readings entry) ≡ register_count * length readings
  unfolding listing_of
  listing_length =
      until_length (2 * (register_count * length readings)) (no_marks readings) ∙ length-replicate (register_count * length readings) _

pub listing_closed : ListingClosed
unfolding listing_of
listing_closed readings entry =
    until_closed readings entry (2 * (register_count * length readings)) (no_marks readings) (length-replicate (register_count * length readings) _)
    (omega arith)

pub listing_smallest : ListingSmallest
unfolding listing_of
listing_smallest readings entry other c =
    until_lowest readings entry (2 * (register_count * length readings)) (no_marks readings) other c (none_below (register_count * length readings) other)

pub listing_unique : ListingUnique
listing_unique readings entry table s k =
    at_most_both (mark_at table k) (mark_at (listing_of readings entry) k)
    (s.1 (listing_of readings entry) (listing_closed readings entry) k)
    (listing_smallest readings entry table s.0 k)

pub raising_ends : RaisingEnds
raising_ends readings entry table long unclosed =
    let once = raised_once readings entry table in
    (once_higher readings entry table long unclosed, omega (arith, height_most once, once_length readings entry table))
