-- What an accepted add obeys: the way through the chain of refusals that ends in 0.
use native.Mathlib.Omega.{arith}
use borrow.Author.Tests.{leb-false}
use Rattle.v8.proofs.Choice.{cond_went}
use Rattle.policy.specs.Build.{region_number, field_number}
use Rattle.policy.specs.Laws.{AcceptsRegion, AcceptsField}

pub accepts_region : AcceptsRegion
unfolding region_number
accepts_region p size e =
    cond_went _ _ _ _ e
    (λ ok e₁. cond_went _ _ _ _ e₁ (λ t z. absurd (omega arith))
    (λ room e₂. cond_went _ _ _ _ e₂ (λ t z. record { ok = ok; room = leb-false _ _ room; size_passes = t }) (λ t z. absurd (omega arith))))
    (λ t z. absurd (omega arith))

pub accepts_field : AcceptsField
unfolding field_number
accepts_field p r f e =
    cond_went _ _ _ _ e
    (λ ok e₁. cond_went _ _ _ _ e₁ (λ t z. absurd (omega arith))
    (λ region e₂. cond_went _ _ _ _ e₂ (λ t z. absurd (omega arith))
    (λ room e₃. cond_went _ _ _ _ e₃
    (λ fits z. record { ok = ok; region = leb-false _ _ region; room = leb-false _ _ room; fits = fits })
    (λ t z. absurd (omega arith)))))
    (λ t z. absurd (omega arith))
