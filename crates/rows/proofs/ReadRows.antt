-- The entries of a row read from bytes, one by one.
use Prim.Native.Nat.{ℕ, zero, suc, ◌+◌, ◌<◌}
use mathlib.Core.List.{List}
use mathlib.Core.Path.{◌≡◌, refl, sym, ap, ◌∙◌, subst}
use denote.Param.Members.{Mut}
use Rattle.std.specs.Array.{IsFromFnResultFrom}
use Rattle.std.specs.Fn.{Called}
use native.Mathlib.Nat.{add-zero, not-suc-le-zero, le_of_suc-le-suc}
use native.Mathlib.Omega.{arith}
use borrow.Author.Tests.{lt-ltb}
use lib.ListN.{length, get_or}
use lib.Seq.{ext_get_or}
use Rattle.rows.specs.Entry.{no_entry}
use Rattle.rows.specs.Geometry.{entry_count, entry_bytes, entry_start}
use Rattle.rows.specs.Row.{entry_at, entry_of, entries_from, row_of}
use Rattle.rows.specs.declared.Entry.{Entry}

-- n entries are read
pub entries_length : (bytes : List ℕ) (at n : ℕ) → length (entries_from bytes at n) ≡ n
entries_length bytes at zero = refl
entries_length bytes at (suc n) = ap suc (entries_length bytes (at + entry_bytes) n)

-- entry i of those read
pub entries_read : (bytes : List ℕ) (at n i : ℕ) → i < n → get_or (entries_from bytes at n) i no_entry ≡ entry_of bytes (entry_start at i)
entries_read bytes at zero i l = absurd (not-suc-le-zero l)
entries_read bytes at (suc n) zero l = ap (entry_of bytes) (omega arith)
entries_read bytes at (suc n) (suc i) l = entries_read bytes (at + entry_bytes) n i (le_of_suc-le-suc l) ∙ ap (entry_of bytes) (omega arith)

-- entry i of the row that begins at a byte
pub entry_read_lem : (bytes : List ℕ) (at i : ℕ) → i < entry_count → entry_at (row_of bytes at) i ≡ entry_of bytes (entry_start at i)
unfolding entry_at row_of
entry_read_lem bytes at i l = rw (lt-ltb _ _ l) (entries_read bytes at entry_count i l)

-- what an array is filled with by a function of the index that its calls leave as it was
pub filled :
    {F B : Type 0} {g : Mut F (ℕ × Unit {0}) B} (f : F) (h : ℕ → B) (ys : List B) (d : B)
    → ((x : ℕ) (y : B) (q : F) → Called g f (x, tt) y q → (q ≡ f) × (y ≡ h x))
    → (n i : ℕ) → IsFromFnResultFrom g f ys i n → (k : ℕ) → k < n → get_or ys (i + k) d ≡ h (i + k)
filled f h ys d stays zero i m k l = absurd (not-suc-le-zero l)
filled f h ys d stays (suc n) i m zero l = rw add-zero (m.2.1 d ∙ (stays i m.1 m.0 m.3).1)
filled {F} {B} {g} f h ys d stays (suc n) i m (suc k) l =
    let next : i + suc k ≡ i + 1 + k = omega arith in
    let rest = subst (λ (p : F). IsFromFnResultFrom g p ys (i + 1) n) (stays i m.1 m.0 m.3).0 m.4 in
    rw next (filled f h ys d stays n (i + 1) rest k (le_of_suc-le-suc l))

module _ (bytes : List ℕ) (at : ℕ) where
  -- the first n entries of a list are those at their places
  abbrev pub ReadTo : ℕ → List Entry → Type 0
  ReadTo n es = (i : ℕ) → i < n → get_or es i no_entry ≡ entry_of bytes (entry_start at i)

  -- as many entries as a row has that are each the one at its place are those of the row
  pub read_all : (es : List Entry) → length es ≡ entry_count → ReadTo entry_count es → es ≡ entries_from bytes at entry_count
  read_all es e h =
      ext_get_or no_entry es (entries_from bytes at entry_count) (e ∙ sym (entries_length bytes at entry_count))
      (λ i l. let b : i < entry_count = omega arith in h i b ∙ sym (entries_read bytes at entry_count i b))
