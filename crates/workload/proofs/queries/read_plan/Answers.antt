use Rattle.std.proofs.Common.{◌≡◌, Ok, Err, Result, sym, ◌∙◌, subst}
use Rattle.query_plan.specs.declared.reading.ReadError.{ReadError}
use Rattle.query_plan.specs.Reading.{IsReadAsNone}
use Rattle.workload.specs.Queries.{select_at}
use Rattle.workload.proofs.Texts.{text-read}
use Rattle.workload.proofs.queries.read_plan.Goals as goal

pub returns-in-Ok : goal.returns-in-Ok
returns-in-Ok c =
    let is : Ok c.in-Ok.plan ≡ Ok (select_at c.args.query) =
    sym c.in-Ok.ensures.read ∙ text-read c.args.tables.now c.args.query c.text_at.result.now c.requires c.text_at.ensures in
    cc

pub unreachable-requires : goal.unreachable-requires
unreachable-requires c =
    let e = c.in-Err-Refused in
    let none = subst (λ (error : ReadError). IsReadAsNone c.args.tables.now c.text_at.result.now error) e.field-0-is e.ensures.read_as_none in
    let both : Err e.field-0-0 ≡ Ok (select_at c.args.query) =
    sym none ∙ text-read c.args.tables.now c.args.query c.text_at.result.now c.requires c.text_at.ensures in
    cc
