-- What the answer of an access says: it was done, or a fault was met, and the core that is left is as it was.
use Prim.Native.Nat.{ℕ}
use mathlib.Core.Path.{◌≡◌, refl, sym, ap, ◌∙◌}
use Rattle.step.specs.Effect.{Core, Effect, fault, done}
use Rattle.machine_access.specs.declared.Moved.TheVariants.{Done, Missed}
use Rattle.machine_access.specs.Moved.{Affected, affecting, Moves}

effect_is : (c : Core) (e : Effect) → (affecting c e).effect ≡ e
effect_is c (fault n) = refl
effect_is c (done d) = refl

pub did : (left c : Core) (e : Effect) → Moves Done left c e → e ≡ done left
did left c e m = sym (effect_is c e) ∙ sym (ap (λ (x : Affected). x.effect) m)

pub met : (left c : Core) (n : ℕ) (e : Effect) → Moves (Missed n) left c e → (e ≡ fault n) × (left ≡ c)
met left c n e m =
    let is = sym (effect_is c e) ∙ sym (ap (λ (x : Affected). x.effect) m) in
    (is, ap (λ (x : Affected). x.core) m ∙ ap (λ (x : Effect). (affecting c x).core) is)
