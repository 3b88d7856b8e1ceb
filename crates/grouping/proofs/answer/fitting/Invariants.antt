use Rattle.std.proofs.Common.{◌≡◌, ◌+◌, ◌≤◌, drop}
use Rattle.rm_base.specs.declared.limits.TheConstants.{ANSWER_MOST}
use Rattle.rm_rules.specs.Meaning.{fitting}
use Rattle.grouping.proofs.answer.fitting.Given as goal

abbrev pub invariant-loop-row : goal.invariant-loop-row
invariant-loop-row l =
    (l.count + fitting l.room (drop l.row-index l.rows) ≡ fitting l.initial.room l.rows)
    × (l.count ≡ l.row-index)
    × (l.room ≤ ANSWER_MOST)
