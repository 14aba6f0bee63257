-- What 21 tells, once it is passed, of the words' count and the entry row.
use Prim.Native.Nat.{ℕ, ◌≤◌}
use mathlib.Core.Path.{◌≡◌, sym}
use mathlib.Core.Bool.{Bool, true, false, ◌&&◌, and-false}
use mathlib.Core.List.{List}
use lib.ListN.{length}
use Rattle.v8.specs.Numbers.{most_words}
use Rattle.v8.proofs.Search.{needed, needed_le, needed_eq}
use Rattle.policy.specs.declared.Policy.{Policy}
use Rattle.rows.specs.Geometry.{row_bytes}
use Rattle.rows.specs.Flaw.{flawless}
use Rattle.rows.specs.Row.{form_fault, scratch_unset}
use Rattle.passes_shape.specs.Shape.{start_ok, shape_ok}

pub record Started (regions : ℕ) (sizes : List ℕ) (n : ℕ) (entry : List ℕ) : Type 0 where
  pub some : 1 ≤ n
  pub most : n ≤ most_words
  pub row : length entry ≡ row_bytes
  pub formed : flawless (form_fault regions sizes entry 0) ≡ true
  pub unset : scratch_unset entry 0 ≡ true

pub started : (regions : ℕ) (sizes : List ℕ) (n : ℕ) (entry : List ℕ) → start_ok regions sizes n entry ≡ true → Started regions sizes n entry
started regions sizes n entry e =
    let t = start_ok regions sizes n entry in
    record {
      some = needed_le t 1 n e (λ f. simp f);
      most = needed_le t n most_words e (λ f. simp (f, and-false));
      row = needed_eq t (length entry) row_bytes e (λ f. simp (f, and-false));
      formed = needed t (flawless (form_fault regions sizes entry 0)) e (λ f. rw (f, and-false));
      unset = needed t (scratch_unset entry 0) e (λ f. rw (f, and-false));
    }

-- the first of four tests fails
pub first_fails : (a b c d : Bool) → a ≡ false → false ≡ a && b && c && d
first_fails a b c d e = rw e

-- the same of the whole shape
pub shape_started : (p : Policy) (n : ℕ) (rows entry result : List ℕ) → shape_ok p n rows entry result ≡ true
    → Started p.regions.count p.regions.sizes n entry
unfolding shape_ok
shape_started p n rows entry result e =
    let start = start_ok p.regions.count p.regions.sizes n entry in
    started p.regions.count p.regions.sizes n entry (needed (shape_ok p n rows entry result) start e (λ f. sym (first_fails start _ _ _ f)))
