use Rattle.std.proofs.Common.{rules, ◌≡◌, Some}
use Rattle.clap.specs.Words.{found_of, rows_of}
use Rattle.options.specs.Workload.{options_in}
use Rattle.options.specs.declared.workload.WorkloadOptions.{WorkloadOptions}
use Rattle.options.proofs.WorkloadLemmas.{workload-within}
use Rattle.options.proofs.workload.options_in.Goals as goal

pub returns-clause-within : goal.returns-clause-within
returns-clause-within c =
    let rows = rows_of (found_of c.args.matches.now) in
    let options : WorkloadOptions = record {
      memory = c.in_ok-memory_of.field-0;
      cores = c.in_ok-cores_of.field-0;
      count = c.in_ok-small_within.field-0;
      rows = c.in_ok-small_within-2.field-0;
      seed = c.in_ok-number_within.field-0;
      workers = 1;
    } in
    let read : options_in rows ≡ Some options = search rules in
    workload-within rows options read
