use Rattle.std.proofs.Common.{ℕ, sym, ◌∙◌, subst, map, string_bytes}
use Rattle.sessions.specs.Ended.{IsRun}
use Rattle.sessions.specs.World.{seen_world}
use Rattle.sessions.proofs.EndedLaws.{is_run}
use Rattle.sessions.proofs.script_main.script_main.Goals as goal

pub returns-clause-run : goal.returns-clause-run
returns-clause-run g c =
    let words = map string_bytes c.args.words.now in
    let world = seen_world g.S.Source g.O.Sink g.H.Shelf g.P.Spool g.K.Keeper in
    let old = world c.args.input.now c.args.out.now c.args.shelf.now c.args.spool.now c.args.keeper.now in
    let new = world c.run_words.new.input c.run_words.new.out c.run_words.new.shelf c.run_words.new.spool c.run_words.new.keeper in
    subst (λ (status : ℕ). IsRun words old new status) (sym c.status_of.ensures) (is_run words old new c.run_words.result c.run_words.ensures.ends c.run_words.ensures.reads)

pub returns-clause-unread : goal.returns-clause-unread
returns-clause-unread g c =
    let words = map string_bytes c.args.words.now in
    let world = seen_world g.S.Source g.O.Sink g.H.Shelf g.P.Spool g.K.Keeper in
    let old = world c.args.input.now c.args.out.now c.args.shelf.now c.args.spool.now c.args.keeper.now in
    let new = world c.run_words.new.input c.run_words.new.out c.run_words.new.shelf c.run_words.new.spool c.run_words.new.keeper in
    λ usage. c.run_words.ensures.unread ((is_run words old new c.run_words.result c.run_words.ensures.ends c.run_words.ensures.reads).usage (sym c.status_of.ensures ∙ usage))

pub returns-clause-unopened : goal.returns-clause-unopened
returns-clause-unopened g c =
    let words = map string_bytes c.args.words.now in
    let world = seen_world g.S.Source g.O.Sink g.H.Shelf g.P.Spool g.K.Keeper in
    let old = world c.args.input.now c.args.out.now c.args.shelf.now c.args.spool.now c.args.keeper.now in
    let new = world c.run_words.new.input c.run_words.new.out c.run_words.new.shelf c.run_words.new.spool c.run_words.new.keeper in
    λ usage. c.run_words.ensures.unopened ((is_run words old new c.run_words.result c.run_words.ensures.ends c.run_words.ensures.reads).usage (sym c.status_of.ensures ∙ usage))
