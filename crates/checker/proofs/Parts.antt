-- What is handed in. A pass over the words is one over the words as they are read, since there are as many.
use Prim.Native.Nat.{ℕ}
use mathlib.Core.Path.{◌≡◌, sym, ap, ◌∙◌}
use mathlib.Core.List.{List}
use lib.ListN.{length}
use Rattle.v8.specs.declared.Edition.{Edition}
use Rattle.v8.specs.declared.Reading.{Reading}
use Rattle.flow_code.proofs.Fetched.{read_count}
use Rattle.policy.specs.declared.Policy.{Policy}
use Rattle.passes.specs.declared.Answer.{Answer}
use Rattle.passes.specs.Answer.{pass_of}
use Rattle.checker.specs.Routine.{Routine, routine_of, count}

pub record Given : Type 0 where
  pub edition : Edition
  pub policy : Policy
  pub words : List ℕ
  pub rows : List ℕ
  pub entry : List ℕ
  pub result : List ℕ

-- the routine that it makes
abbrev pub whole : Given → Routine
whole g = routine_of g.edition g.policy g.words g.rows g.entry g.result

pub over : (g : Given) (f : ℕ → Answer) → pass_of f (length g.words) ≡ pass_of f (count (whole g))
over g f = ap (pass_of f) (sym (read_count g.edition g.words))

-- the same of a pass that goes by what an array has
pub over_read : (g : Given) (pass : List Reading → ℕ → Answer) (code : List Reading) → code ≡ (whole g).readings
    → pass_of (pass code) (length g.words) ≡ pass_of (pass (whole g).readings) (count (whole g))
over_read g pass code is = ap (λ (c : List Reading). pass_of (pass c) (length g.words)) is ∙ over g (pass (whole g).readings)
