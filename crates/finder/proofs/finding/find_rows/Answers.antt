-- `find_rows` meets its contract: whatever was found, the check is asked last. What is handed in has the
-- lengths that 21 asks for.
use mathlib.Core.Path.{sym, ◌∙◌}
use native.Mathlib.Omega.{arith}
use Rattle.checker.proofs.Parts.{Given}
use Rattle.checker.proofs.Stages.{Shaped, shaped}
use Rattle.finder.proofs.finding.find_rows.Goals as goal
use Rattle.finder.proofs.finding.find_rows.Goals.{Then-shape_ok}

abbrev given : Then-shape_ok → Given
given c =
    record {
      edition = c.args.edition;
      policy = c.args.policy.now;
      words = c.args.words.now;
      rows = c.args.rows.now;
      entry = c.args.entry.now;
      result = c.args.res.now;
    }

lengths : (c : Then-shape_ok) → Shaped (given c)
lengths c = shaped (given c) (sym c.shape_ok.ensures ∙ c.if-shape_ok.true)

pub given_of-given-requires : goal.given_of-given-requires
given_of-given-requires c = let h = lengths c in (h.most, omega (arith, h.rows))

pub invariant_of-asked : goal.invariant_of-asked
invariant_of-asked c =
    let h = lengths (goal.at.invariant_of-asked c).Then-shape_ok in
    record {
      few = h.most;
      entry_lies = omega (arith, h.entry);
      res_lies = omega (arith, h.result);
    }

pub write_rows-requires : goal.write_rows-requires
write_rows-requires c = sym (lengths (goal.at.write_rows-requires c).Then-shape_ok).rows
