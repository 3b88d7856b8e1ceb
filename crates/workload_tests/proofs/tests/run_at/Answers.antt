use Rattle.std.proofs.Common.{ℕ, List, ap, sym, ◌∙◌, subst, map, length, string_bytes}
use Rattle.workload.specs.Ended.{HasKits}
use Rattle.workload_tests.proofs.tests.run_at.Goals as goal

pub workload_main-status-requires : goal.workload_main-status-requires
workload_main-status-requires c =
    subst (λ (words : List (List ℕ)). HasKits words (length c.in_ok-kits.kits.items))
    (ap (map string_bytes) (c.deref.ensures.value ∙ sym c.deref-2.ensures.value)) c.in_ok-kits.ensures
