use Rattle.std.proofs.Common.{ℕ, List, Option, Some, Err, sym, ◌∙◌, subst, arith, map, string_bytes}
use Rattle.std.specs.Str.Lines.{lines}
use Rattle.std.proofs.KnownBytes.{Keeps-refl}
use Rattle.std.proofs.lemmas.Result.{err_from_is_err_and}
use Rattle.options.specs.declared.script.ScriptOptions.{ScriptOptions}
use Rattle.options.specs.Script.{script_options}
use Rattle.sessions.specs.declared.failure.Failure.TheVariants.{Usage, Memory}
use Rattle.sessions.specs.Ended.{HasEnded}
use Rattle.sessions.specs.Failures.{open_failure}
use Rattle.sessions.specs.Running.{LinesEnded, LeftRows}
use Rattle.sessions.specs.Turns.{ScriptState}
use Rattle.sessions.specs.World.{WhereTold, seen_world}
use Rattle.sessions.proofs.RunLemmas.{if_err-weaker, cause-later}
use Rattle.sessions.proofs.EndedLemmas.{some-told, ended-early, unrun, unread, unopened, ran, on-cause}
use Rattle.sessions.proofs.script_main.run_words.Goals as goal

pub returns-in_err-options-clause-ends : goal.returns-in_err-options-clause-ends
returns-in_err-options-clause-ends g c =
    let old = seen_world g.S.Source g.O.Sink g.H.Shelf g.P.Spool g.K.Keeper c.args.input.now c.args.out.now c.args.shelf.now c.args.spool.now c.args.keeper.now in
    let o = script_options (map string_bytes c.args.words.now) in
    let p = err_from_is_err_and c.from_residual.result c.from_residual.ensures.1 in
    rw (p.1, p.2) (ended-early o old old (Err Memory) (Keeps-refl old.output.told) (λ rows is. is) (λ stored. unrun o stored old old (Keeps-refl old.output.told)))

pub returns-in_default-clause-ends : goal.returns-in_default-clause-ends
returns-in_default-clause-ends g c =
    let old = seen_world g.S.Source g.O.Sink g.H.Shelf g.P.Spool g.K.Keeper c.args.input.now c.args.out.now c.args.shelf.now c.args.spool.now c.args.keeper.now in
    let o = script_options (map string_bytes c.args.words.now) in
    ended-early o old old (Err Usage) (Keeps-refl old.output.told) (λ rows is. is) (λ stored. (sym c.in_ok-options.ensures.options ∙ c.in_default.is, Keeps-refl old.output.told, λ rows is. is))

pub returns-in_err-bytes-clause-ends : goal.returns-in_err-bytes-clause-ends
returns-in_err-bytes-clause-ends g c =
    let world = seen_world g.S.Source g.O.Sink g.H.Shelf g.P.Spool g.K.Keeper in
    let old = world c.args.input.now c.args.out.now c.args.shelf.now c.args.spool.now c.args.keeper.now in
    let new = world c.read_input.new.input c.args.out.now c.args.shelf.now c.args.spool.now c.args.keeper.now in
    let kept = Keeps-refl old.output.told in
    let p = err_from_is_err_and c.from_residual-in_err-bytes.result c.from_residual-in_err-bytes.ensures.1 in
    rw (p.1, p.2) (subst (λ (o : Option ScriptOptions). HasEnded o old new (Err c.in_err-bytes.field-0.0)) (sym c.in-Some.is ∙ c.in_ok-options.ensures.options)
    (ended-early (Some c.in-Some.options) old new (Err c.in_err-bytes.field-0.0) kept (λ rows is. is)
    (λ stored. unread c.in-Some.options old new c.in_err-bytes.field-0.0 c.in_err-bytes.ensures.err kept (λ rows is. is) stored)))

pub returns-in_err-definitions-clause-ends : goal.returns-in_err-definitions-clause-ends
returns-in_err-definitions-clause-ends g c =
    let world = seen_world g.S.Source g.O.Sink g.H.Shelf g.P.Spool g.K.Keeper in
    let old = world c.args.input.now c.args.out.now c.args.shelf.now c.args.spool.now c.args.keeper.now in
    let new = world c.read_input.new.input c.args.out.now c.args.shelf.now c.args.spool.now c.open_definitions.new.keeper in
    let e = c.in_err-definitions.ensures in
    let p = err_from_is_err_and c.from_residual-in_err-definitions.result c.from_residual-in_err-definitions.ensures.1 in
    rw (p.1, p.2) (subst (λ (o : Option ScriptOptions). HasEnded o old new (Err (open_failure c.in_err-definitions.field-0.0))) (sym c.in-Some.is ∙ c.in_ok-options.ensures.options)
    (unopened c.in-Some.options old new c.in_ok-bytes.bytes.items c.in_err-definitions.field-0.0 c.in_ok-bytes.ensures.whole (Keeps-refl old.output.told) (some-told new.keeper.told _ e.stays) e.cause e.unsound))

pub returns-in_err-script-clause-ends : goal.returns-in_err-script-clause-ends
returns-in_err-script-clause-ends g c =
    let world = seen_world g.S.Source g.O.Sink g.H.Shelf g.P.Spool g.K.Keeper in
    let old = world c.args.input.now c.args.out.now c.args.shelf.now c.args.spool.now c.args.keeper.now in
    let new = world c.read_input.new.input c.args.out.now c.args.shelf.now c.args.spool.now c.open_definitions.new.keeper in
    let o = script_options (map string_bytes c.args.words.now) in
    let kept = Keeps-refl old.output.told in
    let p = err_from_is_err_and c.from_residual-in_err-script.result c.from_residual-in_err-script.ensures.1 in
    rw (p.1, p.2) (ended-early o old new (Err Memory) kept (some-told new.keeper.told _ c.in_ok-definitions.ensures.stays) (λ stored. unrun o stored old new kept))

pub returns-clause-ends : goal.returns-clause-ends
returns-clause-ends g c =
    let world = seen_world g.S.Source g.O.Sink g.H.Shelf g.P.Spool g.K.Keeper in
    let old = world c.args.input.now c.args.out.now c.args.shelf.now c.args.spool.now c.args.keeper.now in
    let opened = world c.read_input.new.input c.args.out.now c.args.shelf.now c.args.spool.now c.open_definitions.new.keeper in
    let new = world c.read_input.new.input c.run_lines.new.out c.run_lines.new.shelf c.run_lines.new.spool c.run_lines.new.keeper in
    let r = c.run_lines.result in
    let d = c.in_ok-definitions.definitions in
    let e = c.in_ok-definitions.ensures in
    let ended : (bytes : List ℕ) (s : ScriptState) → Type 0 = λ bytes s. WhereTold old.shelf.told (λ files. LinesEnded files s (lines bytes) old.output.told new.output.told new.keeper.told r) in
    let left : (bytes : List ℕ) (s : ScriptState) → Type 0 =
    λ bytes s. WhereTold old.shelf.told (λ files. WhereTold new.keeper.told (λ rows. LeftRows files s (lines bytes) old.output.told new.output.told rows)) in
    let bytes = c.in_ok-bytes.bytes.items in
    let first = c.in_ok-script.script in
    subst (λ (o : Option ScriptOptions). HasEnded o old new r) (sym c.in-Some.is ∙ c.in_ok-options.ensures.options)
    (ran c.in-Some.options d old opened new bytes r (record {
      newly = e.machine;
      sound = e.tested;
      given = e.rows;
      stays = e.stays;
      told = c.run_lines.ensures.told;
      whole = c.in_ok-bytes.ensures.whole;
      cause = on-cause old new r
          (if_err-weaker r _ _
          (λ f h. cause-later old.output old.output new.output old.shelf old.shelf new.shelf old.keeper opened.keeper new.keeper f (omega arith) (omega arith) e.cause.later h) c.run_lines.ensures.cause);
      ends = subst (λ (s : ScriptState). ended bytes s) c.in_ok-script.ensures (subst (λ (b : List ℕ). ended b first) c.deref.ensures.value c.run_lines.ensures.ends);
      left = subst (λ (s : ScriptState). left bytes s) c.in_ok-script.ensures (subst (λ (b : List ℕ). left b first) c.deref.ensures.value c.run_lines.ensures.left);
    }))
