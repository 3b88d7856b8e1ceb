use Rattle.std.proofs.Common.{◌∙◌, ap, sym, arith, Ok}
use Rattle.rm_base.specs.declared.definitions.Definitions.{Definitions}
use Rattle.rm_rules.specs.Acceptance.{refusal_of, left_by, counted}
use Rattle.rm_rules.proofs.Refused.{ok-free, ok-done}
use Rattle.rm_rules.proofs.AcceptanceLaws.{left-right, left-kept, accepted-sound}
use Rattle.pool_table.proofs.apply.Goals as goal

pub change-requires-clause-left : goal.change-requires-clause-left
change-requires-clause-left c =
    let d = c.args.definitions.now in
    let statement = c.args.statement.now in
    (left-right d statement c.requires.sound c.requires.formed (ok-free (refusal_of d statement) (counted (left_by d statement)) c.requires.accepted)).sound

pub overflow_add-definitions : goal.overflow_add-definitions
overflow_add-definitions c =
    let d = c.args.definitions.now in
    let statement = c.args.statement.now in
    let left = left-right d statement c.requires.sound c.requires.formed (ok-free (refusal_of d statement) (counted (left_by d statement)) c.requires.accepted) in
    omega (arith, left.changes, (left-kept d statement).changes, ap (λ (x : Definitions). x.changes) c.change.ensures)

pub returns-clause-changed : goal.returns-clause-changed
returns-clause-changed c =
    let d = c.args.definitions.now in
    let statement = c.args.statement.now in
    ok-done (refusal_of d statement) (counted (left_by d statement)) c.requires.accepted ∙ ap (λ (x : Definitions). Ok (counted x)) (sym c.change.ensures)

pub returns-clause-sound : goal.returns-clause-sound
returns-clause-sound c =
    let d = c.args.definitions.now in
    let statement = c.args.statement.now in
    let changed = ok-done (refusal_of d statement) (counted (left_by d statement)) c.requires.accepted ∙ ap (λ (x : Definitions). Ok (counted x)) (sym c.change.ensures) in
    accepted-sound d statement (counted c.change.new.definitions) c.requires.sound c.requires.formed changed
