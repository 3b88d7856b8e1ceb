use Rattle.rm_words.proofs.Numbers.{Reads}
use Rattle.rm_words.proofs.token.digits_value.Given as goal

abbrev pub invariant-loop-byte : goal.invariant-loop-byte
invariant-loop-byte l = Reads l.digits l.byte-index l.value
