-- Whole runs (document 02, request 6): the machine does not know the rule of 25, and writes such a register if it is told to. The words are those that
-- GNU as gives, and stand above each row.
use Rattle.std.specs.Prelude.{List, [], ◌∷◌}
use Rattle.machine_steps.specs.declared.End.TheVariants.{Returned}
use Rattle.trials.specs.Case.{Row, ◌gives◌}
use Rattle.trials.specs.Runs.{code, counted}

abbrev pub run_rows : List Row
run_rows =
    -- sethi 1, %l0; mov %l0, %g5; retl; nop
    code (0x21000001 ∷ 0x8A100010 ∷ 0x81C3E008 ∷ 0x01000000 ∷ []) gives counted Returned 4 1024 0 0
    -- add %g5, 3, %sp; retl; mov %sp, %g6
    ∷ code (0x9C016003 ∷ 0x81C3E008 ∷ 0x8C10000E ∷ []) gives counted Returned 3 0 3 0
    ∷ []
