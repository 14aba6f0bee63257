-- What the older terminal reads, the newer reads alike: they differ only in the predicted branch, which the older one does not read.
use Prim.Native.Nat.{ℕ}
use mathlib.Core.Path.{◌≡◌}
use lib.Dec.{eqb}
use Rattle.v8.proofs.Choice.{cond_went}
use Rattle.v8.proofs.Refused.{unread}
use Rattle.v8.specs.Field.{op_of, op2_of}
use Rattle.v8.specs.declared.Edition.TheVariants.{V8, V9}
use Rattle.v8.specs.declared.Instruction.{Instruction}
use Rattle.v8.specs.declared.Reading.TheVariants.{Read}
use Rattle.v8.specs.Read.{reading_of, format00}
use Rattle.v8.specs.Laws.{ReadsAlike}

format00_alike : (w : ℕ) (x : Instruction) → format00 V8 w ≡ Read x → format00 V9 w ≡ Read x
unfolding format00
format00_alike w x e =
    cond_went (eqb (op2_of w) 4) _ _ _ e
    (λ t q. rw t q)
    (λ t q.
    cond_went (eqb (op2_of w) 2) _ _ _ q
    (λ u q. rw (t, u) q)
    (λ u q.
    cond_went (eqb (op2_of w) 1) _ _ _ q (λ v q. unread q) (λ v q. unread q)))

pub reads_alike : ReadsAlike
unfolding reading_of
reads_alike w x e =
    cond_went (eqb (op_of w) 0) _ _ _ e
    (λ t q. rw t (format00_alike w x q))
    (λ t q. rw t q)
