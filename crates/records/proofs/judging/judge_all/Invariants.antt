use Rattle.std.proofs.Common.{◌+◌, ◌≤◌}
use Rattle.records.proofs.judging.judge_all.Given as goal

abbrev pub invariant-loop-verdict : goal.invariant-loop-verdict
invariant-loop-verdict g l = (l.totals.judged + l.verdict-iterator.n ≤ l.most) × (l.totals.wrong ≤ l.totals.judged)
