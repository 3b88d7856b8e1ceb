use Rattle.std.proofs.Common.{◌≡◌, drop}
use Rattle.rm_words.proofs.Scans.{longest, longest_from}
use Rattle.rm_words.proofs.scan.longest.Given as goal

abbrev pub invariant-loop-i : goal.invariant-loop-i
invariant-loop-i l = longest_from l.scan l.i l.best (drop l.i l.text) ≡ longest l.text
