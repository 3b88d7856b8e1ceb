use Rattle.std.proofs.Common.{rules, is_lt}
use Rattle.std.specs.Cmp.{on_total}
use Rattle.std.proofs.lemmas.List.Sorted.{ranks_by}
use Rattle.std.proofs.lemmas.Fn.{always_returns_same}
use Rattle.rm_base.specs.ValueLaws.{row_total}
use Rattle.grouping.specs.Finishing.{group_cmp}
use Rattle.grouping.proofs.cells.sort_groups.Goals as goal

pub returns-clause-sorted : goal.returns-clause-sorted
returns-clause-sorted c =
    c.sort_unstable_by.ensures.sorted (λ x y. is_lt (group_cmp x y)) (ranks_by (on_total (λ e. e.0) row_total) (λ x. x)) (always_returns_same _ _ _ (λ a r g h. (search rules, search rules)))
