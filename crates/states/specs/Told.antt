-- The number by which data made outside tells how a run ended.
use Rattle.std.specs.Prelude.{ℕ}
use Rattle.machine_steps.specs.declared.End.{End}
use Rattle.machine_steps.specs.declared.End.TheVariants.{Returned, Spent, Fault, Refused}
use Rattle.machine.specs.Run.{end_number}

-- document 01's number of the end; 1 tells that the allowance is spent, which has none
abbrev pub told_number : End → ℕ
told_number Returned = end_number Returned
told_number Spent = 1
told_number (Fault n) = end_number (Fault n)
told_number (Refused n) = end_number (Refused n)
