-- A workload has as many workers as its words say.
use Rattle.std.proofs.Common.{◌≡◌, ◌≤◌, List, ℕ, Option, Some, None, Result, Ok, Err, IfOk, IfSome, option_map, sym, ◌∙◌, subst, refl, arith}
use Rattle.std.specs.Option.{option_and_then}
use Rattle.clap.specs.Words.{Row, first_of}
use Rattle.options.specs.CommandLine.{given}
use Rattle.options.specs.Script.{SCRIPT, script_rules}
use Rattle.options.specs.Script.{options_in as script_options_in}
use Rattle.options.specs.Workload.{WORKLOAD, workload_rules}
use Rattle.options.specs.Workload.{options_in as workload_options_in}
use Rattle.options.specs.Options.{HasWorkers, Told, one_of, options_of, script_told, told, workload_told}
use Rattle.options.specs.declared.Command.TheVariants.{Script, Workload}
use Rattle.options.specs.declared.Options.{Options}
use Rattle.options.specs.declared.script.ScriptOptions.{ScriptOptions}
use Rattle.options.specs.declared.workload.WorkloadOptions.{WorkloadOptions}

-- what is told of a script is no workload
no-workload : (o : Option ScriptOptions) (store spool : Option (List ℕ)) (t : Told)
    → option_map (λ _. record { command = Script; workers = 1; store = store; spool = spool }) o ≡ Some t → t.command ≡ Workload → ⊥
no-workload None store spool t h is = absurd (cc)
no-workload (Some o) store spool t h is = absurd (cc)

no-script : (rows : Option (List Row)) (t : Told) → option_and_then script_told rows ≡ Some t → t.command ≡ Workload → ⊥
no-script None t h is = absurd (cc)
no-script (Some rows) t h is = no-workload (script_options_in rows) _ _ t h is

workers-of : (o : Option WorkloadOptions) (spool : Option (List ℕ)) (t : Told)
    → option_map (λ (w : WorkloadOptions). record { command = Workload; workers = w.workers; store = None; spool = spool }) o ≡ Some t
    → IfSome o (λ w. w.workers ≤ t.workers)
workers-of None spool t h = tt
workers-of (Some w) spool t h = let same : w.workers ≡ t.workers = cc in omega (arith, same)

workers-in : (rows : Option (List Row)) (t : Told) → option_and_then workload_told rows ≡ Some t → IfSome (option_and_then workload_options_in rows) (λ w. w.workers ≤ t.workers)
workers-in None t h = tt
workers-in (Some rows) t h = workers-of (workload_options_in rows) _ t h

either : (script workload : Option (List Row)) (t : Told) → one_of (option_and_then script_told script) (option_and_then workload_told workload) ≡ Some t → t.command ≡ Workload
    → IfSome (option_and_then workload_options_in workload) (λ w. w.workers ≤ t.workers)
either script workload t =
    let turn : (o : Option Told) → option_and_then script_told script ≡ o → one_of o (option_and_then workload_told workload) ≡ Some t → t.command ≡ Workload
    → IfSome (option_and_then workload_options_in workload) (λ w. w.workers ≤ t.workers) =
    λ o. elim o as (λ p. option_and_then script_told script ≡ p → one_of p (option_and_then workload_told workload) ≡ Some t → t.command ≡ Workload
    → IfSome (option_and_then workload_options_in workload) (λ w. w.workers ≤ t.workers)) [
      | None ↦ λ e h is. workers-in workload t h
      | Some first ↦ λ e (h : Some first ≡ Some t) is. absurd (no-script script t (e ∙ h) is)
    ] in
    turn (option_and_then script_told script) refl

pub workers-told : {E : Type 0} (words : List (List ℕ)) (r : Result (Option Options) E) → IfOk r (λ o. option_map told o ≡ options_of words)
    → IfOk r (λ o. IfSome o (HasWorkers words))
workers-told words (Err e) h = tt
workers-told words (Ok None) h = tt
workers-told words (Ok (Some o)) h = λ is. either (given SCRIPT script_rules words) (given WORKLOAD workload_rules words) (told o) (sym h) is
