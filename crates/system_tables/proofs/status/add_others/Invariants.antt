use Rattle.std.proofs.Common.{◌≡◌, ◌++◌, drop, map}
use Rattle.std.specs.List.{zip}
use Rattle.system_tables.specs.TableRows.{other_shown}
use Rattle.system_tables.proofs.status.add_others.Given as goal

abbrev pub invariant-loop-i : goal.invariant-loop-i
invariant-loop-i l =
    l.initial.rows.items ++ map (other_shown l.snapshot) (zip l.others l.sizes)
    ≡ l.rows.items ++ map (other_shown l.snapshot) (zip (drop l.i l.others) (drop l.i l.sizes))
