use Rattle.std.proofs.Common.{Err, map, string_bytes}
use Rattle.std.proofs.KnownBytes.{Keeps-refl}
use Rattle.std.proofs.lemmas.Result.{err_from_is_err_and}
use Rattle.options.specs.Workload.{workload_options}
use Rattle.workload.specs.Ended.{seen_sink, text_by}
use Rattle.workload.proofs.EndedLaws.{no_front}
use Rattle.workload.proofs.workload_main.run_words.Goals as goal

pub returns-in_err-text-clause-ends : goal.returns-in_err-text-clause-ends
returns-in_err-text-clause-ends g c =
    let old = seen_sink g.O.Sink c.args.out.now in
    let options = workload_options (map string_bytes c.args.words.now) in
    let p = err_from_is_err_and c.from_residual-in_err-text.result c.from_residual-in_err-text.ensures.1 in
    rw (p.1, p.2) (no_front old old (text_by options) (Keeps-refl old.told))
