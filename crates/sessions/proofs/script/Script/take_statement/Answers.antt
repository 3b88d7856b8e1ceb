use Rattle.std.proofs.Common.{inr, sym, subst}
use Rattle.std.specs.Result.{IsOk}
use Rattle.std.proofs.lemmas.Result.{err_from_is_err_and}
use Rattle.rm_base.specs.declared.definitions.Definitions.{Definitions}
use Rattle.rm_rules.specs.Acceptance.{accepted}
use Rattle.sessions.specs.Running.{IsStoredBy}
use Rattle.sessions.specs.Turns.{Turn}
use Rattle.sessions.specs.World.{seen_keeper}
use Rattle.sessions.proofs.StatementLemmas.{statement-stored, accepted-fault, memory-fault}
use Rattle.sessions.proofs.script.Script.take_statement.Goals as goal

pub returns-in_err-store-in-Ok-clause-fault : goal.returns-in_err-store-in-Ok-clause-fault
returns-in_err-store-in-Ok-clause-fault g c =
    let statement = c.args.statement.now in
    let ok : IsOk (accepted c.args.self.now.machine.definitions statement) =
    subst (λ (d : Definitions). IsOk (accepted d statement)) c.definitions.ensures.value c.in-Ok.ensures.ok in
    let p = err_from_is_err_and c.from_residual.result c.from_residual.ensures.1 in
    rw (p.1, p.2)
    (accepted-fault (accepted c.args.self.now.machine.definitions statement) (seen_keeper g.K.Keeper c.args.keeper.now) (seen_keeper g.K.Keeper c.store.new.keeper)
    c.in_err-store-in-Ok.field-0.0 ok c.in_err-store-in-Ok.ensures.fault)

pub returns-in_err-define-in-Ok-clause-fault : goal.returns-in_err-define-in-Ok-clause-fault
returns-in_err-define-in-Ok-clause-fault g c =
    let p = err_from_is_err_and c.from_residual-in_err-define-in-Ok.result c.from_residual-in_err-define-in-Ok.ensures.1 in
    rw (p.1, p.2)
    (memory-fault (accepted c.args.self.now.machine.definitions c.args.statement.now) (seen_keeper g.K.Keeper c.args.keeper.now) (seen_keeper g.K.Keeper c.store.new.keeper))

pub returns-in_err-define-in-Ok-clause-left : goal.returns-in_err-define-in-Ok-clause-left
returns-in_err-define-in-Ok-clause-left g c =
    let statement = c.args.statement.now in
    let ok : IsOk (accepted c.args.self.now.machine.definitions statement) =
    subst (λ (d : Definitions). IsOk (accepted d statement)) c.definitions.ensures.value c.in-Ok.ensures.ok in
    let p = err_from_is_err_and c.from_residual-in_err-define-in-Ok.result c.from_residual-in_err-define-in-Ok.ensures.1 in
    rw (p.1) (λ rows told. inr (statement-stored c.args.self.now statement rows ok (c.in_ok-store-in-Ok.ensures.ok rows told)))

pub returns-in_ok-define-in-Ok-clause-kept : goal.returns-in_ok-define-in-Ok-clause-kept
returns-in_ok-define-in-Ok-clause-kept g c = λ rows told.
    let statement = c.args.statement.now in
    let ok : IsOk (accepted c.args.self.now.machine.definitions statement) =
    subst (λ (d : Definitions). IsOk (accepted d statement)) c.definitions.ensures.value c.in-Ok.ensures.ok in
    subst (λ (t : Turn). IsStoredBy c.args.self.now.machine.definitions t rows) (sym c.in_ok-define-in-Ok.ensures)
    (statement-stored c.args.self.now statement rows ok (c.in_ok-store-in-Ok.ensures.ok rows told))
