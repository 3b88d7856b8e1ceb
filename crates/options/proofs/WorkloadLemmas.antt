-- The options of a workload lie within their ranges.
use Rattle.std.proofs.Common.{◌≡◌, ℕ, ◌^◌, ◌-◌, ◌≤◌, List, Option, Some, None, refl, subst, codes}
use Rattle.clap.specs.Words.{Row, first_of}
use Rattle.options.specs.CommandLine.{read_by}
use Rattle.rm_base.specs.declared.limits.TheConstants.{MEMORY_LEAST, MEMORY_MOST, CORES_MOST, WORKLOAD_QUERIES_MOST, WORKLOAD_ROWS_MOST}
use Rattle.options.specs.declared.workload.WorkloadOptions.{WorkloadOptions}
use Rattle.options.specs.Machine.{memory_of, cores_of}
use Rattle.options.specs.Numeral.{number_within}
use Rattle.options.specs.Workload.{all_options, options_in}
use Rattle.options.specs.Within.{IsWorkloadWithin}
use Rattle.options.proofs.WithinLaws.{within, cores-within, memory-within, read-within}

abbrev Lies : ℕ → ℕ → Option ℕ → Type 0
Lies least most o = (n : ℕ) → o ≡ Some n → (least ≤ n) × (n ≤ most)

all-within : (m c n r s : Option ℕ) (o : WorkloadOptions) → Lies MEMORY_LEAST MEMORY_MOST m → Lies 1 CORES_MOST c → Lies 0 WORKLOAD_QUERIES_MOST n → Lies 1 WORKLOAD_ROWS_MOST r
    → all_options m c n r s ≡ Some o → IsWorkloadWithin o
all-within None c n r s o lm lc ln lr h = absurd (cc)
all-within (Some m) None n r s o lm lc ln lr h = absurd (cc)
all-within (Some m) (Some c) None r s o lm lc ln lr h = absurd (cc)
all-within (Some m) (Some c) (Some n) None s o lm lc ln lr h = absurd (cc)
all-within (Some m) (Some c) (Some n) (Some r) None o lm lc ln lr h = absurd (cc)
all-within (Some m) (Some c) (Some n) (Some r) (Some s) o lm lc ln lr h =
    let memory = lm m refl in
    let cores = lc c refl in
    let count = ln n refl in
    let rows = lr r refl in
    let P : WorkloadOptions → Type 0 = IsWorkloadWithin in
    let one : record { memory = m; cores = c; count = n; rows = r; seed = s; workers = 1 } ≡ o = cc in
    subst P one (record {
      memory_least = memory.0;
      memory_most = memory.1;
      cores_least = cores.0;
      cores_most = cores.1;
      count_most = count.1;
      rows_least = rows.0;
      rows_most = rows.1;
      workers = refl;
    })

pub workload-within : (rows : List Row) (o : WorkloadOptions) → options_in rows ≡ Some o → IsWorkloadWithin o
workload-within rows o h =
    all-within (read_by memory_of (codes "memory") rows) (read_by cores_of (codes "cores") rows)
    (read_by (number_within 0 WORKLOAD_QUERIES_MOST) (codes "count") rows)
    (read_by (number_within 1 WORKLOAD_ROWS_MOST) (codes "rows") rows)
    (read_by (number_within 0 (2 ^ 64 - 1)) (codes "seed") rows) o
    (read-within memory_of MEMORY_LEAST MEMORY_MOST (first_of (codes "memory") rows) memory-within)
    (read-within cores_of 1 CORES_MOST (first_of (codes "cores") rows) cores-within)
    (read-within (number_within 0 WORKLOAD_QUERIES_MOST) 0 WORKLOAD_QUERIES_MOST (first_of (codes "count") rows) (within 0 WORKLOAD_QUERIES_MOST))
    (read-within (number_within 1 WORKLOAD_ROWS_MOST) 1 WORKLOAD_ROWS_MOST (first_of (codes "rows") rows) (within 1 WORKLOAD_ROWS_MOST)) h
