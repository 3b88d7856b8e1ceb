use Rattle.std.proofs.Common.{length, ap, subst, ◌∙◌, arith}
use Rattle.rm_rules.specs.Holdings.{Holdings}
use Rattle.accounts.specs.Accounts.{is_of, has_query}
use Rattle.accounts.specs.Kept.{IsBalanced}
use Rattle.accounts.proofs.Moving.{none-left}
use Rattle.accounts.proofs.Usages.{room-left}
use Rattle.accounts.proofs.holdings.Accounts.move_to.Goals as goal

pub take-requires-clause-room : goal.take-requires-clause-room
take-requires-clause-room c =
    let a = c.args.self.now in
    omega (
      arith,
      c.len-few.ensures.room,
      c.len-few.ensures.value,
      ap (λ (h : Holdings). length h.grants) c.self.view_is,
      ap (λ (h : Holdings). length h.grants) c.give_back-bytes.ensures.state,
      room-left a.grants c.args.query c.requires.runs,
    )

pub take-requires-clause-absent : goal.take-requires-clause-absent
take-requires-clause-absent c =
    let k = subst IsBalanced c.self.view_is c.self.invariant.balanced in
    ap (λ (h : Holdings). has_query h.grants c.args.query) c.give_back-bytes.ensures.state
    ∙ none-left (is_of c.args.query) c.args.self.now.grants (k.queries_distinct c.args.query)
