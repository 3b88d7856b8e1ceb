-- The words of the command `workload`.
use Rattle.std.specs.Prelude.{ℕ, ◌-◌, ◌^◌, true, false, List, [], ◌∷◌, Option, Some, codes}
use Rattle.std.specs.Option.{option_and_then}
use Rattle.rm_base.specs.declared.limits.TheConstants.{WORKLOAD_QUERIES_MOST, WORKLOAD_ROWS_MOST}
use Rattle.clap.specs.Words.{Row, Rule, Text}
use Rattle.options.specs.CommandLine.{given, option_rule, read_by}
use Rattle.options.specs.Machine.{memory_of, cores_of}
use Rattle.options.specs.Numeral.{number_within}
use Rattle.options.specs.declared.workload.WorkloadOptions.{WorkloadOptions}

abbrev pub WORKLOAD : Text
WORKLOAD = codes "workload"

-- the options of the command: all must be given but the last
abbrev pub workload_rules : List Rule
workload_rules =
    option_rule (codes "memory") true ∷ option_rule (codes "cores") true ∷ option_rule (codes "count") true
    ∷ option_rule (codes "rows") true ∷ option_rule (codes "seed") true ∷ option_rule (codes "spool") false ∷ []

-- the options, where each of them is read
abbrev pub all_options : Option ℕ → Option ℕ → Option ℕ → Option ℕ → Option ℕ → Option WorkloadOptions
all_options memory cores count rows seed =
    option_and_then (λ m. option_and_then (λ c. option_and_then (λ n. option_and_then (λ r. option_and_then
    (λ s. Some (record { memory = m; cores = c; count = n; rows = r; seed = s; workers = 1 }))
    seed) rows) count) cores) memory

-- the options, by what is given each of them
abbrev pub options_in : List Row → Option WorkloadOptions
options_in rows =
    all_options (read_by memory_of (codes "memory") rows) (read_by cores_of (codes "cores") rows)
    (read_by (number_within 0 WORKLOAD_QUERIES_MOST) (codes "count") rows)
    (read_by (number_within 1 WORKLOAD_ROWS_MOST) (codes "rows") rows)
    (read_by (number_within 0 (2 ^ 64 - 1)) (codes "seed") rows)

-- what the words of the command line say of a generated workload
abbrev pub workload_options : List Text → Option WorkloadOptions
workload_options words = option_and_then options_in (given WORKLOAD workload_rules words)
