use Rattle.std.proofs.Common.{ℕ, sym, subst, map, string_bytes}
use Rattle.workload.specs.Ended.{IsWorkload, seen_sink}
use Rattle.workload.proofs.EndedLaws.{is_workload}
use Rattle.workload.proofs.workload_main.workload_main.Goals as goal

pub returns-clause-run : goal.returns-clause-run
returns-clause-run g c =
    let words = map string_bytes c.args.words.now in
    let old = seen_sink g.O.Sink c.args.out.now in
    let new = seen_sink g.O.Sink c.run_words.new.out in
    subst (λ (status : ℕ). IsWorkload words old new status) (sym c.status_of.ensures) (is_workload words old new c.run_words.result c.run_words.ensures.ends)
