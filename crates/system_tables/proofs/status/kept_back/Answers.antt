use Rattle.std.proofs.Common.{◌<◌, ◌^◌, ◌∙◌, List, ℕ, ap, sym, subst}
use Rattle.std.specs.List.{sum}
use Rattle.rm_rules.specs.Definitions.{user_pools}
use Rattle.system_tables.proofs.Sizes.{sizes_kept, sizes-fit}
use Rattle.system_tables.proofs.status.kept_back.Goals as goal

pub sum_of-requires : goal.sum_of-requires
sum_of-requires c = subst (λ (l : List ℕ). sum l < 2 ^ 64) (sym c.as_slice.ensures) (sizes-fit c.args.snapshot.now c.requires)

pub returns : goal.returns
returns c = c.sum_of.ensures ∙ ap sum c.as_slice.ensures ∙ sizes_kept (user_pools c.args.snapshot.now.definitions.pools) c.args.snapshot.now.actual c.requires.sized.sizes
