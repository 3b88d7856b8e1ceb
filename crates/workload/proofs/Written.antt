-- What was written of a text, part by part.
use Rattle.std.proofs.Common.{◌≡◌, ℕ, ◌+◌, ◌-◌, List, length, take, drop, Option, refl, sym, subst, arith}
use Rattle.std.specs.Io.KnownBytes.{Appends, Keeps}
use Rattle.std.proofs.KnownBytes.{Appends-trans, Appends-kept}
use Rattle.std.proofs.Math.Seq.{take-add}
use Rattle.std.proofs.lemmas.List.{take_all, length-drop, take-append-drop}
use Rattle.rm_outside.specs.declared.outside.Outside.{Outside}
use Rattle.rm_outside.specs.declared.outside.Outside.TheVariants as outside
use Rattle.workload.specs.Ended.{ExplainsOutput, HasFailed, Output, WroteFront}
use Rattle.workload.specs.Failures.{write_failure}

rest_whole : (at : ℕ) (text : List ℕ) → take (length text - at) (drop at text) ≡ drop at text
rest_whole at text = take_all (length text - at) (drop at text) (omega (arith, length-drop at text))

-- a part more
pub wrote_more : (a b c : Option (List ℕ)) (text : List ℕ) (at n : ℕ) → Appends a b (take at text) → Appends b c (take n (take (length text - at) (drop at text)))
    → Appends a c (take (at + n) text)
wrote_more a b c text at n p q =
    subst (Appends a c) (sym (take-add at n text)) (Appends-trans a b c (take at text) (take n (drop at text)) p (subst (λ (l : List ℕ). Appends b c (take n l)) (rest_whole at text) q))

-- the front of a text, and no more
pub wrote_front : (old new : Output) (b : Option (List ℕ)) (text : List ℕ) (at : ℕ) → Appends old.told b (take at text) → Keeps b new.told → WroteFront old new text
wrote_front old new b text at p q =
    record { front = take at text; rest = drop at text; split = sym (take-append-drop at text); wrote = Appends-kept old.told b new.told (take at text) p q }

-- the front was written, and the sink says why no more
pub explained : (old new : Output) (text : List ℕ) (error : Outside) → WroteFront old new text → (error ≡ outside.Failed → HasFailed old new)
    → ExplainsOutput old new text (write_failure error)
explained old new text outside.Failed wrote failed = (wrote, failed refl)
explained old new text outside.Memory wrote failed = wrote
