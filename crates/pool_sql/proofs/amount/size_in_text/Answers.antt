use Rattle.std.proofs.Common.{Err, sym, ◌∙◌, ap, subst, take}
use Rattle.rm_words.specs.Token.{AreDigits}
use Rattle.pool_sql.specs.declared.stop.Fault.TheVariants.{Form}
use Rattle.pool_sql.specs.Amount.{size_in}
use Rattle.pool_sql.proofs.Amounts.{front_digits, front_read, size_in-capped}
use Rattle.pool_sql.proofs.amount.size_in_text.Goals as goal

pub digits_value-requires : goal.digits_value-requires
digits_value-requires c =
    subst AreDigits
    (sym (c.split_at.ensures.front ∙ ap (λ n. take n c.args.text.now) c.digit_count-count.ensures.count))
    (front_digits c.args.text.now)

pub returns : goal.returns
returns c =
    front_read size_in (Err Form) c.size_in.result c.args.text.now c.split_at.result.0.now c.split_at.result.1.now
    c.digit_count-count.result c.digits_value.result size_in-capped c.digit_count-count.ensures.count
    c.if-count-eq0.false c.split_at.ensures.front c.split_at.ensures.back c.digits_value.ensures c.size_in.ensures
