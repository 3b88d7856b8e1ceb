use Rattle.std.proofs.Common.{◌∙◌, ◌++◌, sym, ap, subst}
use Rattle.std.specs.Io.KnownBytes.{Appends}
use Rattle.std.proofs.KnownBytes.{Keeps-refl}
use Rattle.std.proofs.lemmas.Result.{err_from_is_err_and}
use Rattle.sessions.specs.Answered.{answer_text}
use Rattle.sessions.specs.AnswerTexts.{shown_text}
use Rattle.sessions.specs.Running.{seen_turn}
use Rattle.sessions.specs.Transfers.{WroteFront}
use Rattle.options.specs.declared.status.TheConstants.{BAD_TABLE}
use Rattle.sessions.specs.Turns.{Bad, Goes, Stops}
use Rattle.sessions.specs.World.{seen_sink, seen_shelf, seen_keeper}
use Rattle.sessions.proofs.RunLemmas.{if_err-weaker, on_ok-always, wrote_nothing, whole-front, unwritten-front, failed-ends, undone-left, printed-ends, printed-left, bad-ends, bad-left, stops-ends, stops-left, turned-rows}
use Rattle.sessions.proofs.run.run_line.Goals as goal

pub returns-in_err-text-clause-ends : goal.returns-in_err-text-clause-ends
returns-in_err-text-clause-ends g c =
    let p = err_from_is_err_and c.from_residual.result c.from_residual.ensures.1 in
    rw (p.1, p.2)
    (λ files told. failed-ends files c.args.number c.args.script.now c.args.line.now (g.O.Sink.written c.args.out.now) (g.K.Keeper.stored c.take_line.new.keeper)
    (seen_shelf g.H.Shelf c.args.shelf.now) (seen_shelf g.H.Shelf c.take_line.new.shelf) (seen_keeper g.K.Keeper c.args.keeper.now) (seen_keeper g.K.Keeper c.take_line.new.keeper)
    c.in_err-text.field-0.0 c.in_err-text.ensures.fault)

pub returns-in_err-text-clause-left : goal.returns-in_err-text-clause-left
returns-in_err-text-clause-left g c =
    let p = err_from_is_err_and c.from_residual.result c.from_residual.ensures.1 in
    let out = g.O.Sink.written c.args.out.now in
    rw (p.1)
    (λ files told rows stored. undone-left files c.args.number c.args.script.now c.args.line.now out out rows (Keeps-refl out) (c.in_err-text.ensures.left rows stored))

pub returns-in_err-text-in-Bad-clause-left : goal.returns-in_err-text-in-Bad-clause-left
returns-in_err-text-in-Bad-clause-left g c =
    let p = err_from_is_err_and c.from_residual-in_err-text-in-Bad.result c.from_residual-in_err-text-in-Bad.ensures.1 in
    let next = c.take_line.new.self in
    let out = g.O.Sink.written c.args.out.now in
    let bad = ap (λ t. seen_turn t next) c.in-Bad.is in
    rw (p.1)
    (λ files told rows stored. bad-left files c.args.number c.args.script.now c.args.line.now out out rows (sym (c.in_ok-text.ensures.turn files told) ∙ bad) (wrote_nothing out out _ (Keeps-refl out))
    (turned-rows c.args.script.now.machine.definitions (g.K.Keeper.stored c.take_line.new.keeper) _ Bad bad c.in_ok-text.ensures.kept rows stored))

pub returns-in_err-write_text-in-Bad-clause-left : goal.returns-in_err-write_text-in-Bad-clause-left
returns-in_err-write_text-in-Bad-clause-left g c =
    let p = err_from_is_err_and c.from_residual-in_err-write_text-in-Bad.result c.from_residual-in_err-write_text-in-Bad.ensures.1 in
    let next = c.take_line.new.self in
    let old = seen_sink g.O.Sink c.args.out.now in
    let new = seen_sink g.O.Sink c.write_text-in-Bad.new.out in
    let bad = ap (λ t. seen_turn t next) c.in-Bad.is in
    rw (p.1)
    (λ files told rows stored. bad-left files c.args.number c.args.script.now c.args.line.now old.told new.told rows (sym (c.in_ok-text.ensures.turn files told) ∙ bad)
    (subst (WroteFront old.told new.told) (c.as_bytes-in-Bad.ensures.value ∙ c.in_ok-text-in-Bad.ensures) (unwritten-front old new c.as_bytes-in-Bad.result.now c.in_err-write_text-in-Bad.field-0.0 c.in_err-write_text-in-Bad.ensures.err))
    (turned-rows c.args.script.now.machine.definitions (g.K.Keeper.stored c.take_line.new.keeper) _ Bad bad c.in_ok-text.ensures.kept rows stored))

pub returns-in_ok-write_text-in-Bad-clause-ends : goal.returns-in_ok-write_text-in-Bad-clause-ends
returns-in_ok-write_text-in-Bad-clause-ends g c =
    let next = c.take_line.new.self in
    let bad = ap (λ t. seen_turn t next) c.in-Bad.is in
    λ files told. bad-ends files c.args.number c.args.script.now c.args.line.now (g.O.Sink.written c.args.out.now) (g.O.Sink.written c.write_text-in-Bad.new.out) (g.K.Keeper.stored c.take_line.new.keeper)
    (sym (c.in_ok-text.ensures.turn files told) ∙ bad)
    (subst (λ t. Appends (g.O.Sink.written c.args.out.now) (g.O.Sink.written c.write_text-in-Bad.new.out) t) (c.as_bytes-in-Bad.ensures.value ∙ c.in_ok-text-in-Bad.ensures) c.in_ok-write_text-in-Bad.ensures.whole)
    (turned-rows c.args.script.now.machine.definitions (g.K.Keeper.stored c.take_line.new.keeper) _ Bad bad c.in_ok-text.ensures.kept)

pub returns-in_ok-write_text-in-Bad-clause-left : goal.returns-in_ok-write_text-in-Bad-clause-left
returns-in_ok-write_text-in-Bad-clause-left g c =
    let next = c.take_line.new.self in
    let bad = ap (λ t. seen_turn t next) c.in-Bad.is in
    let a = g.O.Sink.written c.args.out.now in
    let b = g.O.Sink.written c.write_text-in-Bad.new.out in
    λ files told rows stored. bad-left files c.args.number c.args.script.now c.args.line.now a b rows (sym (c.in_ok-text.ensures.turn files told) ∙ bad)
    (subst (WroteFront a b) (c.as_bytes-in-Bad.ensures.value ∙ c.in_ok-text-in-Bad.ensures) (whole-front a b c.as_bytes-in-Bad.result.now c.in_ok-write_text-in-Bad.ensures.whole))
    (turned-rows c.args.script.now.machine.definitions (g.K.Keeper.stored c.take_line.new.keeper) _ Bad bad c.in_ok-text.ensures.kept rows stored)

pub returns-in_err-write_text-in-Stops-clause-left : goal.returns-in_err-write_text-in-Stops-clause-left
returns-in_err-write_text-in-Stops-clause-left g c =
    let p = err_from_is_err_and c.from_residual-in_err-write_text-in-Stops.result c.from_residual-in_err-write_text-in-Stops.ensures.1 in
    let next = c.take_line.new.self in
    let old = seen_sink g.O.Sink c.args.out.now in
    let new = seen_sink g.O.Sink c.write_text-in-Stops.new.out in
    let stops = ap (λ t. seen_turn t next) c.in-Stops.is ∙ ap (λ t. Stops t BAD_TABLE next) (sym c.as_bytes-in-Stops.ensures.value) in
    rw (p.1)
    (λ files told rows stored. stops-left files c.args.number c.args.script.now next c.args.line.now old.told new.told c.as_bytes-in-Stops.result.now BAD_TABLE rows
    (sym (c.in_ok-text.ensures.turn files told) ∙ stops)
    (unwritten-front old new c.as_bytes-in-Stops.result.now c.in_err-write_text-in-Stops.field-0.0 c.in_err-write_text-in-Stops.ensures.err)
    (turned-rows c.args.script.now.machine.definitions (g.K.Keeper.stored c.take_line.new.keeper) _ _ stops c.in_ok-text.ensures.kept rows stored))

pub returns-in_ok-write_text-in-Stops-clause-ends : goal.returns-in_ok-write_text-in-Stops-clause-ends
returns-in_ok-write_text-in-Stops-clause-ends g c =
    let next = c.take_line.new.self in
    let stops = ap (λ t. seen_turn t next) c.in-Stops.is ∙ ap (λ t. Stops t BAD_TABLE next) (sym c.as_bytes-in-Stops.ensures.value) in
    λ files told. stops-ends files c.args.number c.args.script.now next c.args.line.now (g.O.Sink.written c.args.out.now) (g.O.Sink.written c.write_text-in-Stops.new.out)
    c.as_bytes-in-Stops.result.now (g.K.Keeper.stored c.take_line.new.keeper) (sym (c.in_ok-text.ensures.turn files told) ∙ stops) c.in_ok-write_text-in-Stops.ensures.whole
    (turned-rows c.args.script.now.machine.definitions (g.K.Keeper.stored c.take_line.new.keeper) _ _ stops c.in_ok-text.ensures.kept)

pub returns-in_ok-write_text-in-Stops-clause-left : goal.returns-in_ok-write_text-in-Stops-clause-left
returns-in_ok-write_text-in-Stops-clause-left g c =
    let next = c.take_line.new.self in
    let a = g.O.Sink.written c.args.out.now in
    let b = g.O.Sink.written c.write_text-in-Stops.new.out in
    let stops = ap (λ t. seen_turn t next) c.in-Stops.is ∙ ap (λ t. Stops t BAD_TABLE next) (sym c.as_bytes-in-Stops.ensures.value) in
    λ files told rows stored. stops-left files c.args.number c.args.script.now next c.args.line.now a b c.as_bytes-in-Stops.result.now BAD_TABLE rows
    (sym (c.in_ok-text.ensures.turn files told) ∙ stops) (whole-front a b c.as_bytes-in-Stops.result.now c.in_ok-write_text-in-Stops.ensures.whole)
    (turned-rows c.args.script.now.machine.definitions (g.K.Keeper.stored c.take_line.new.keeper) _ _ stops c.in_ok-text.ensures.kept rows stored)

pub returns-in-Goes-clause-agrees : goal.returns-in-Goes-clause-agrees
returns-in-Goes-clause-agrees g c =
    let next = c.take_line.new.self in
    on_ok-always c.write_text.result _
    (turned-rows c.args.script.now.machine.definitions (g.K.Keeper.stored c.take_line.new.keeper) _ _ (ap (λ t. seen_turn t next) c.in-Goes.is) c.in_ok-text.ensures.kept)

pub returns-in-Goes-clause-left : goal.returns-in-Goes-clause-left
returns-in-Goes-clause-left g c =
    let next = c.take_line.new.self in
    let goes = ap (λ t. seen_turn t next) c.in-Goes.is ∙ ap (λ t. Goes t next) (sym c.as_bytes.ensures.value) in
    if_err-weaker c.write_text.result _ _
    (λ f err. λ files told rows stored. printed-left files c.args.number c.args.script.now next c.args.line.now (seen_sink g.O.Sink c.args.out.now) (seen_sink g.O.Sink c.write_text.new.out) c.as_bytes.result.now rows f
    (sym (c.in_ok-text.ensures.turn files told) ∙ goes) err
    (turned-rows c.args.script.now.machine.definitions (g.K.Keeper.stored c.take_line.new.keeper) _ _ goes c.in_ok-text.ensures.kept rows stored))
    c.write_text.ensures.err

pub returns-in-Answers-clause-agrees : goal.returns-in-Answers-clause-agrees
returns-in-Answers-clause-agrees g c =
    let next = c.take_line.new.self in
    on_ok-always c.write_answer.result _
    (turned-rows c.args.script.now.machine.definitions (g.K.Keeper.stored c.take_line.new.keeper) _ _ (ap (λ t. seen_turn t next) c.in-Answers.is) c.in_ok-text.ensures.kept)

pub returns-in-Answers-clause-left : goal.returns-in-Answers-clause-left
returns-in-Answers-clause-left g c =
    let next = c.take_line.new.self in
    let goes = ap (λ t. seen_turn t next) c.in-Answers.is in
    if_err-weaker c.write_answer.result _ _
    (λ f err. λ files told rows stored. printed-left files c.args.number c.args.script.now next c.args.line.now (seen_sink g.O.Sink c.args.out.now) (seen_sink g.O.Sink c.write_answer.new.out) (answer_text c.in-Answers.answer) rows f
    (sym (c.in_ok-text.ensures.turn files told) ∙ goes) err
    (turned-rows c.args.script.now.machine.definitions (g.K.Keeper.stored c.take_line.new.keeper) _ _ goes c.in_ok-text.ensures.kept rows stored))
    c.write_answer.ensures.err

pub returns-in-Shows-clause-agrees : goal.returns-in-Shows-clause-agrees
returns-in-Shows-clause-agrees g c =
    let next = c.take_line.new.self in
    on_ok-always c.write_shown.result _
    (turned-rows c.args.script.now.machine.definitions (g.K.Keeper.stored c.take_line.new.keeper) _ _ (ap (λ t. seen_turn t next) c.in-Shows.is) c.in_ok-text.ensures.kept)

pub returns-in-Shows-clause-left : goal.returns-in-Shows-clause-left
returns-in-Shows-clause-left g c =
    let next = c.take_line.new.self in
    let rest = shown_text c.in-Shows.table in
    let goes = ap (λ t. seen_turn t next) c.in-Shows.is ∙ ap (λ t. Goes (t ++ rest) next) (sym c.as_str.ensures.value) in
    if_err-weaker c.write_shown.result _ _
    (λ f err. λ files told rows stored. printed-left files c.args.number c.args.script.now next c.args.line.now (seen_sink g.O.Sink c.args.out.now) (seen_sink g.O.Sink c.write_shown.new.out) (c.as_str.result.now ++ rest) rows f
    (sym (c.in_ok-text.ensures.turn files told) ∙ goes) err
    (turned-rows c.args.script.now.machine.definitions (g.K.Keeper.stored c.take_line.new.keeper) _ _ goes c.in_ok-text.ensures.kept rows stored))
    c.write_shown.ensures.err

pub returns-in-Goes-clause-ends : goal.returns-in-Goes-clause-ends
returns-in-Goes-clause-ends g c =
    let next = c.take_line.new.self in
    if_err-weaker c.write_text.result _ _
    (λ f err. λ files told. printed-ends files c.args.number c.args.script.now next c.args.line.now (seen_sink g.O.Sink c.args.out.now) (seen_sink g.O.Sink c.write_text.new.out) c.as_bytes.result.now
    (g.K.Keeper.stored c.take_line.new.keeper) f
    (sym (c.in_ok-text.ensures.turn files told) ∙ ap (λ t. seen_turn t next) c.in-Goes.is ∙ ap (λ t. Goes t next) (sym c.as_bytes.ensures.value)) err)
    c.write_text.ensures.err

pub returns-in-Answers-clause-ends : goal.returns-in-Answers-clause-ends
returns-in-Answers-clause-ends g c =
    let next = c.take_line.new.self in
    if_err-weaker c.write_answer.result _ _
    (λ f err. λ files told. printed-ends files c.args.number c.args.script.now next c.args.line.now (seen_sink g.O.Sink c.args.out.now) (seen_sink g.O.Sink c.write_answer.new.out) (answer_text c.in-Answers.answer)
    (g.K.Keeper.stored c.take_line.new.keeper) f
    (sym (c.in_ok-text.ensures.turn files told) ∙ ap (λ t. seen_turn t next) c.in-Answers.is) err)
    c.write_answer.ensures.err

pub returns-in-Shows-clause-ends : goal.returns-in-Shows-clause-ends
returns-in-Shows-clause-ends g c =
    let next = c.take_line.new.self in
    let rest = shown_text c.in-Shows.table in
    if_err-weaker c.write_shown.result _ _
    (λ f err. λ files told. printed-ends files c.args.number c.args.script.now next c.args.line.now (seen_sink g.O.Sink c.args.out.now) (seen_sink g.O.Sink c.write_shown.new.out) (c.as_str.result.now ++ rest)
    (g.K.Keeper.stored c.take_line.new.keeper) f
    (sym (c.in_ok-text.ensures.turn files told) ∙ ap (λ t. seen_turn t next) c.in-Shows.is ∙ ap (λ t. Goes (t ++ rest) next) (sym c.as_str.ensures.value)) err)
    c.write_shown.ensures.err
