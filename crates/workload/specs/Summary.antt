-- What a workload prints, by what its words say. It knows no desk, no clock and no event.
use Rattle.std.specs.Prelude.{ℕ, ◌+◌, ◌-◌, ℤ, ◌+ℤ◌, Bool, true, false, List, [], ◌∷◌, ◌++◌, map, length, sum_by, Option, Some, None, codes, decimal}
use Rattle.std.specs.Fmt.{signed_decimal}
use Rattle.std.specs.List.{filter_map, find, flat_map, range_with_len}
use Rattle.rm_base.specs.declared.value.Value.{Value}
use Rattle.rm_base.specs.Select.{select_floor}
use Rattle.rm_rules.specs.Comparing.{column}
use Rattle.rm_rules.specs.Definitions.{total, reserved}
use Rattle.rm_rules.specs.Grouping.{int_sum}
use Rattle.rm_rules.specs.Meaning.SelectOutcome.{Answer, SumOutOfRange, AnswerTooLarge}
use Rattle.query_run.specs.Running.{RunOutcome, run_outcome, tables_called}
use Rattle.query_run.specs.Running.RunOutcome.{Meant, Spills}
use Rattle.options.specs.declared.workload.WorkloadOptions.{WorkloadOptions}
use Rattle.workload.specs.Generator.{tables_of}
use Rattle.workload.specs.Pools.{pool_of_query, workload_definitions}
use Rattle.workload.specs.Queries.{select_at}
use Rattle.workload.specs.Rested.{workload_ask}

-- the grant of query i: what it asks for in its pool
abbrev pub grant_at : WorkloadOptions → ℕ → ℕ
grant_at o i = workload_ask (workload_definitions o.memory o.cores) (pool_of_query i) (select_floor (select_at i))

-- how the run of query i ends by the rules
abbrev pub ending_at : WorkloadOptions → ℕ → RunOutcome
ending_at o i = run_outcome (grant_at o i) (select_at i) (tables_called (tables_of o.rows o.seed) (select_at i).tables)

-- the answer of a run that completes its query
abbrev pub answer_in : RunOutcome → Option (List (List Value))
answer_in (Meant (Answer rows)) = Some rows
answer_in (Meant (SumOutOfRange column sum)) = None
answer_in (Meant (AnswerTooLarge rows)) = None
answer_in Spills = None

-- what a run keeps does not fit its grant
abbrev pub spills : RunOutcome → Bool
spills (Meant outcome) = false
spills Spills = true

-- the answers of the first n queries, as far as they are completed
abbrev pub answers_to : WorkloadOptions → ℕ → List (List (List Value))
answers_to o n = filter_map (λ i. answer_in (ending_at o i)) (range_with_len 0 n)

-- the first column of rows
abbrev pub first_column : List (List Value) → List Value
first_column rows = map (λ row. column row 0) rows

-- the completed queries, their rows, the sum of the first column, in which Null counts 0, and the sum of all grants
pub record Tallied : Type 0 where
  pub queries : ℕ
  pub rows : ℕ
  pub total : ℤ
  pub granted : ℕ

-- what the first n queries come to
abbrev pub tallied : WorkloadOptions → ℕ → Tallied
tallied o n = record {
  queries = length (answers_to o n);
  rows = sum_by length (answers_to o n);
  total = int_sum (first_column (flat_map (λ rows. rows) (answers_to o n)));
  granted = sum_by (grant_at o) (range_with_len 0 n);
}

-- the five lines
abbrev pub summary_lines : Tallied → ℕ → List ℕ
summary_lines t free =
    codes "queries " ++ (decimal t.queries
    ++ (codes "\nrows " ++ (decimal t.rows
    ++ (codes "\ntotal " ++ (signed_decimal t.total
    ++ (codes "\ngranted " ++ (decimal t.granted
    ++ (codes "\nfree " ++ (decimal free ++ codes "\n")))))))))

-- the line of a run that ended at query i
abbrev pub failed_line : ℕ → List ℕ
failed_line i = codes "failed " ++ (decimal i ++ codes "\n")

-- the first query whose run does not fit its grant
abbrev pub first_failed : WorkloadOptions → Option ℕ
first_failed o = find (λ i. spills (ending_at o i)) (range_with_len 0 o.count)

-- GENERAL's free bytes, while nothing runs
abbrev pub free_at_rest : WorkloadOptions → ℕ
free_at_rest o = let d = workload_definitions o.memory o.cores in total d - reserved d

-- the line of the first query that failed, or else the five lines of all queries
abbrev pub text_with : WorkloadOptions → Option ℕ → List ℕ
text_with o (Some i) = failed_line i
text_with o None = summary_lines (tallied o o.count) (free_at_rest o)

-- what a workload with these options prints
abbrev pub text_of : WorkloadOptions → List ℕ
text_of o = text_with o (first_failed o)
