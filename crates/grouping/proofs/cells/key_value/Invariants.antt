use Rattle.std.proofs.Common.{◌≡◌, drop}
use Rattle.rm_rules.specs.Grouping.{key_value}
use Rattle.grouping.proofs.cells.key_value.Given as goal

abbrev pub invariant-loop-place : goal.invariant-loop-place
invariant-loop-place l = key_value (drop l.place l.keys) (drop l.place l.key) l.c ≡ key_value l.keys l.key l.c
