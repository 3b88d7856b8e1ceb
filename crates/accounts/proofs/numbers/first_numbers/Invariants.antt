use Rattle.std.proofs.Common.{◌≡◌, [], map, take}
use Rattle.accounts.specs.Numbers.{usage_of}
use Rattle.accounts.proofs.numbers.first_numbers.Given as goal

abbrev pub invariant-loop-e : goal.invariant-loop-e
invariant-loop-e l = l.usages ≡ map (usage_of []) (take l.e-index l.reserves)
