use Rattle.std.proofs.Common.{◌≡◌, ◌+◌, ◌-◌, ◌*◌, min, get_or}
use Rattle.rm_words.specs.Token.{most}
use Rattle.rm_words.proofs.Numbers.{Reads-more}
use Rattle.rm_words.proofs.token.digits_value.Goals as goal

pub loop-byte-preserved : goal.loop-byte-preserved
loop-byte-preserved c =
    let digits = c.args.digits.now in
    let i = c.loop-byte.byte-index in
    let next : c.saturating_add-value.result ≡ min (min (c.loop-byte.value * 10) most + (get_or digits i 0 - 48)) most = cc in
    Reads-more digits i c.loop-byte.value c.saturating_add-value.result c.loop-byte-test.true c.loop-byte.invariant next
