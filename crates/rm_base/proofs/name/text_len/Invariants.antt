use Rattle.std.proofs.Common.{◌≡◌, ◌+◌, length, drop}
use Rattle.rm_base.specs.NameText.{text_in}
use Rattle.rm_base.proofs.name.text_len.Given as goal

abbrev pub invariant-loop-i : goal.invariant-loop-i
invariant-loop-i l = length (text_in l.bytes) ≡ l.i + length (text_in (drop l.i l.bytes))
