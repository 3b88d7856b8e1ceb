-- How many rows an answer has.
use Rattle.std.proofs.Common.{◌≡◌, ℕ, ◌+◌, ◌*◌, ◌≤◌, Bool, true, false, cond, List, [], ◌∷◌, length, map, Option, Some, None, refl, ap, ◌∙◌, subst, arith}
use Rattle.std.specs.Prelude.{ℤ, nat_le}
use Rattle.std.proofs.lemmas.Bool.Decides.{nat_tests}
use Rattle.std.proofs.lemmas.List.Sums.{sum_by-cons}
use Rattle.rm_base.specs.declared.limits.TheConstants.{ANSWER_MOST}
use Rattle.rm_base.specs.declared.select.Item.{Item}
use Rattle.rm_base.specs.declared.select.OrderSpec.{OrderSpec}
use Rattle.rm_base.specs.declared.select.Select.{Select}
use Rattle.rm_base.specs.declared.value.Value.{Value}
use Rattle.rm_base.specs.TableSeen.{TableSeen}
use Rattle.rm_base.specs.Values.{row_measure, rows_measure}
use Rattle.rm_rules.specs.AllFits.{all_fits}
use Rattle.rm_rules.specs.Grouping.{first_bad, grouped}
use Rattle.rm_rules.specs.Meaning.{SelectOutcome, answer_of, fitting, meaning, meant_groups, meant_of, shown}
use Rattle.rm_rules.specs.Meaning.SelectOutcome.{Answer, SumOutOfRange, AnswerTooLarge}
use Rattle.rm_rules.specs.Ordering.{in_order}
use Rattle.rm_rules.specs.Tuples.{remaining}
use Rattle.query_run.specs.Running.{RunOutcome, run_outcome}
use Rattle.query_run.specs.Running.RunOutcome.{Meant, Spills}

-- an answer measures no more than an answer may
abbrev IsSmall : SelectOutcome → Type 0
IsSmall (Answer rows) = rows_measure rows ≤ ANSWER_MOST
IsSmall (SumOutOfRange column sum) = Unit {0}
IsSmall (AnswerTooLarge rows) = Unit {0}

answer_small : (rows : List (List Value)) → IsSmall (answer_of rows)
answer_small rows = turn (nat_le (rows_measure rows) ANSWER_MOST) refl
  where
    turn : (b : Bool) → nat_le (rows_measure rows) ANSWER_MOST ≡ b → IsSmall (cond b (Answer rows) (AnswerTooLarge (fitting ANSWER_MOST rows)))
    turn true fits = grind (arith, nat_tests, fits)
    turn false fits = tt

groups_small : (bad : Option (ℕ × ℤ)) (order : OrderSpec) (rows : List (List Value)) → IsSmall (meant_groups bad order rows)
groups_small (Some bad) order rows = tt
groups_small None order rows = answer_small (in_order order rows)

of_small : (items : List Item) (order : OrderSpec) (groups : Option (List ℕ)) (rows : List (List Value)) → IsSmall (meant_of items order groups rows)
of_small items order None rows = answer_small (in_order order (map (shown items) rows))
of_small items order (Some keys) rows = groups_small (first_bad (record { keys = keys; items = items }) rows) order (grouped (record { keys = keys; items = items }) rows)

least_measure : (rows : List (List Value)) → 16 * length rows ≤ rows_measure rows
least_measure [] = omega arith
least_measure (row ∷ rows) = omega (arith, least_measure rows, sum_by-cons row_measure row rows)

-- the outcome of a run that ends with these rows
meant_rows : (b : Bool) (outcome : SelectOutcome) (rows : List (List Value)) → cond b (Meant outcome) Spills ≡ Meant (Answer rows) → IsSmall outcome → 16 * length rows ≤ ANSWER_MOST
meant_rows true outcome rows is small =
    let same : outcome ≡ Answer rows = cc in
    let within : rows_measure rows ≤ ANSWER_MOST = subst IsSmall same small in
    omega (arith, within, least_measure rows)
meant_rows false outcome rows is small = absurd (cc)

-- so many rows has an answer at most
pub few_rows : (grant : ℕ) (select : Select) (tables : List TableSeen) (rows : List (List Value)) → run_outcome grant select tables ≡ Meant (Answer rows) → length rows ≤ 1048576
few_rows grant select tables rows is =
    omega (arith, meant_rows (all_fits grant select tables) (meaning select tables) rows is (of_small select.items select.order select.groups (remaining select tables)))
