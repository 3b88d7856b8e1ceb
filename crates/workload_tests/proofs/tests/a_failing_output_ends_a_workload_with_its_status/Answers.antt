use Rattle.std.proofs.Common.{ℕ, List, ap, sym, ◌∙◌, subst, map, length, string_bytes}
use Rattle.workload.specs.Ended.{HasKits}
use Rattle.workload_tests.proofs.tests.a_failing_output_ends_a_workload_with_its_status.Goals as goal

pub workload_main-ended-requires : goal.workload_main-ended-requires
workload_main-ended-requires g c =
    subst (λ (words : List (List ℕ)). HasKits words (length c.in_ok-kits.kits.items))
    (ap (map string_bytes) (c.deref.ensures.value ∙ sym c.deref-2.ensures.value)) c.in_ok-kits.ensures
