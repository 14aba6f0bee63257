-- What the code of an access answers, over lent arrays: it was done, and they have what it left, or it met a fault, and they are as they were.
use Rattle.std.specs.Prelude.{◌≡◌}
use Rattle.machine_access.specs.declared.Moved.{Moved}
use Rattle.machine_access.specs.declared.Moved.TheVariants.{Done, Missed}
use Rattle.step.specs.Effect.{Core, Effect, fault, done}

-- an effect, with the core that it leaves: a fault leaves the core as it was
pub record Affected : Type 0 where
  pub effect : Effect
  pub core : Core

abbrev pub affecting : Core → Effect → Affected
affecting c (fault n) = record { effect = fault n; core = c }
affecting c (done d) = record { effect = done d; core = d }

-- the effect that an answer says, of the core that is left
abbrev pub effect_said : Moved → Core → Effect
effect_said Done left = done left
effect_said (Missed n) left = fault n

-- an answer, with the core that is left, says the effect e of core c
abbrev pub Moves : Moved → Core → Core → Effect → Type 0
Moves x left c e = affecting left (effect_said x left) ≡ affecting c e
