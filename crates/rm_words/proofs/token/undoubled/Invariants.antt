use Rattle.std.proofs.Common.{length}
use Rattle.std.specs.Str.{chars}
use Rattle.std.specs.String.{string_bytes}
use Rattle.rm_words.proofs.Undoubling.{Undoubles}
use Rattle.rm_words.proofs.token.undoubled.Given as goal

abbrev pub invariant-loop-c : goal.invariant-loop-c
invariant-loop-c l = Undoubles l.text (string_bytes l.plain) l.half (length l.yielded) (chars l.text)
