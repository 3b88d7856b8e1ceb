use Rattle.std.proofs.Common.{◌≡◌, ◌⊎◌, sym, subst}
use Rattle.rm_outside.specs.Stored.{rows_of}
use Rattle.sessions.specs.declared.command.Command.{Command}
use Rattle.sessions.specs.Commands.{Open, Query, Of, seen_command, seen_request}
use Rattle.sessions.specs.Running.{seen_turn, IsCommandFault, IsStoredBy}
use Rattle.sessions.specs.Script.{Files}
use Rattle.sessions.specs.World.{seen_shelf, seen_keeper}
use Rattle.sessions.proofs.RunLemmas.{if_err-weaker, load-fault, text-fault, text-left}
use Rattle.sessions.proofs.ScriptLaws.{rest-stored}
use Rattle.sessions.specs.Turns.{turn}
use Rattle.sessions.proofs.script.Script.take_command.Goals as goal

pub returns-in_ok-open-in-Open-clause-turn : goal.returns-in_ok-open-in-Open-clause-turn
returns-in_ok-open-in-Open-clause-turn g c = λ files told.
    subst (λ (k : Command). seen_turn c.in_ok-open-in-Open.field-0 c.open.new.self ≡ turn files c.args.self.now (seen_command k)) (sym c.in-Open.is) c.in_ok-open-in-Open.ensures

pub returns-in_ok-open-in-Open-clause-kept : goal.returns-in_ok-open-in-Open-clause-kept
returns-in_ok-open-in-Open-clause-kept g c = λ rows told.
    rest-stored c.args.self.now (Open c.in-Open.session c.in-Open.user c.in-Open.pool) (seen_turn c.in_ok-open-in-Open.field-0 c.open.new.self) rows tt c.in_ok-open-in-Open.ensures
    (c.requires rows told)

pub returns-in_ok-query-in-Query-clause-kept : goal.returns-in_ok-query-in-Query-clause-kept
returns-in_ok-query-in-Query-clause-kept g c = λ rows told.
    rest-stored c.args.self.now (Query c.in-Query.session c.in-Query.text.now) (seen_turn c.in_ok-query-in-Query.field-0 c.query.new.self) rows tt c.in_ok-query-in-Query.ensures
    (c.requires rows told)

pub returns-in_ok-take_request-in-Of-clause-kept : goal.returns-in_ok-take_request-in-Of-clause-kept
returns-in_ok-take_request-in-Of-clause-kept g c = λ rows told.
    rest-stored c.args.self.now (Of c.in-Of.session (seen_request c.in-Of.request)) (seen_turn c.in_ok-take_request-in-Of.field-0 c.take_request.new.self) rows tt
    c.in_ok-take_request-in-Of.ensures.turn (c.requires rows told)

pub returns-in-Load-clause-fault : goal.returns-in-Load-clause-fault
returns-in-Load-clause-fault g c =
    let d = c.args.self.now.machine.definitions in
    let old = seen_shelf g.H.Shelf c.args.shelf.now in
    let new = seen_shelf g.H.Shelf c.load.new.shelf in
    let keeper = seen_keeper g.K.Keeper c.args.keeper.now in
    if_err-weaker c.load.result _ _
    (λ f h. subst (λ (k : Command). IsCommandFault (seen_command k) d old new keeper keeper f) (sym c.in-Load.is) (load-fault c.in-Load.name c.in-Load.path.now d old new keeper keeper f h))
    c.load.ensures.fault

pub returns-in-Sql-clause-left : goal.returns-in-Sql-clause-left
returns-in-Sql-clause-left g c =
    let s = c.args.self.now in
    let d = s.machine.definitions in
    if_err-weaker c.take_text.result _ _
    (λ f h rows told. subst (λ (k : Command). (rows ≡ rows_of d) ⊎ ((files : Files) → IsStoredBy d (turn files s (seen_command k)) rows)) (sym c.in-Sql.is) (text-left s c.in-Sql.text.now rows (h rows told)))
    c.take_text.ensures.left

pub returns-in-Sql-clause-fault : goal.returns-in-Sql-clause-fault
returns-in-Sql-clause-fault g c =
    let d = c.args.self.now.machine.definitions in
    let shelf = seen_shelf g.H.Shelf c.args.shelf.now in
    let old = seen_keeper g.K.Keeper c.args.keeper.now in
    let new = seen_keeper g.K.Keeper c.take_text.new.keeper in
    if_err-weaker c.take_text.result _ _
    (λ f h. subst (λ (k : Command). IsCommandFault (seen_command k) d shelf shelf old new f) (sym c.in-Sql.is) (text-fault c.in-Sql.text.now d shelf shelf old new f h))
    c.take_text.ensures.fault
