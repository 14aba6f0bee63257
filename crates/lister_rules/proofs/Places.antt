-- The places of a table: which word and register a place has, and the marks of a word, read from their places.
use Prim.Native.Nat.{ℕ, ◌*◌, ◌/◌, ◌%◌, ◌≤◌, ◌<◌}
use mathlib.Core.Path.{◌≡◌, ap, ◌∙◌}
use mathlib.Core.List.{List}
use native.Mathlib.Omega.{arith}
use lib.ListN.{length, take, drop}
use lib.Seq.{length-take-le}
use Rattle.std.proofs.lemmas.List.{get_or-drop, get_or-take, length-drop}
use borrow.Author.Tests.{lt-ltb, le-ltb}
use Rattle.marks.specs.Marks.{unset, register_count, values_from, mark_of}
use Rattle.marks.proofs.Values.{values_length, value-at, has_all}
use Rattle.lister_rules.specs.Table.{place_of, mark_at, marks_at}

pub word_of : (w r : ℕ) → r < register_count → place_of w r / register_count ≡ w
word_of w r l = omega arith

pub register_of : (w r : ℕ) → r < register_count → place_of w r % register_count ≡ r
register_of w r l = omega arith

pub register_below : (k : ℕ) → k % register_count < register_count
register_below k = omega arith

pub place-of : (k w : ℕ) → k / register_count ≡ w → place_of w (k % register_count) ≡ k
place-of k w e = omega arith

-- a register after the last has no mark of its own
pub mark_out : (marks : List ℕ) (r : ℕ) → register_count ≤ r → mark_of marks r ≡ unset
unfolding mark_of
mark_out marks r l = rw (le-ltb r register_count l)

-- the marks that a function gives
pub mark_by : (f : ℕ → ℕ) (r : ℕ) → r < register_count → mark_of (values_from f 0 register_count) r ≡ f r
unfolding mark_of
mark_by f r l = rw (lt-ltb r register_count l) (value-at f 0 register_count r 0 l ∙ ap f (omega arith))

-- the marks of a word
pub mark_there : (table : List ℕ) (w r : ℕ) → r < register_count → mark_of (marks_at table w) r ≡ mark_at table (place_of w r)
unfolding marks_at
mark_there table w r l = mark_by (λ (q : ℕ). mark_at table (place_of w q)) r l

pub marks_length : (table : List ℕ) (w : ℕ) → length (marks_at table w) ≡ register_count
unfolding marks_at
marks_length table w = values_length (λ (q : ℕ). mark_at table (place_of w q)) 0 register_count

-- they are the places from the word's first on
pub marks_taken : (table : List ℕ) (w n : ℕ) → n ≡ register_count → place_of w register_count ≤ length table → take n (drop (register_count * w) table) ≡ marks_at table w
unfolding marks_at
marks_taken table w n e l =
    rw e
    (has_all (λ (r : ℕ). mark_at table (place_of w r)) register_count (take register_count (drop (register_count * w) table))
    (length-take-le register_count (drop (register_count * w) table) (omega (arith, length-drop (register_count * w) table)))
    (λ r m. get_or-take register_count (drop (register_count * w) table) r 0 m ∙ get_or-drop (register_count * w) table r 0))
