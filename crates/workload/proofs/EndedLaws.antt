-- What each end of a workload says of its status, and of what was written.
use Rattle.std.proofs.Common.{◌≡◌, ◌≢◌, ◌⊎◌, inl, inr, ℕ, List, [], Option, Some, None, Result, Ok, Err, refl, sym, ap, ◌∙◌, subst, append-nil, arith}
use Rattle.std.specs.Option.{IsSome}
use Rattle.std.specs.Io.KnownBytes.{Appends, Keeps}
use Rattle.std.proofs.lemmas.Bool.{false≢true}
use Rattle.options.specs.declared.status.TheConstants.{DONE, USAGE, WRITE_FAULT, NO_MEMORY}
use Rattle.options.specs.declared.workload.WorkloadOptions.{WorkloadOptions}
use Rattle.options.specs.Workload.{workload_options}
use Rattle.workload.specs.declared.failure.Failure.{Failure}
use Rattle.workload.specs.declared.failure.Failure.TheVariants.{Usage, WriteFault, Memory}
use Rattle.workload.specs.Ended.{EndsAs, HasFailed, IsWorkload, Output, WroteFront, WroteWhole, text_by}
use Rattle.workload.specs.Failures.{status_of}

abbrev Ended : Type 0
Ended = Result (Unit {0}) Failure

nothing_appended : (a b : Option (List ℕ)) → Keeps a b → Appends a b []
nothing_appended None b h = tt
nothing_appended (Some x) None h = absurd h
nothing_appended (Some x) (Some y) h = h ∙ sym (append-nil x)

-- nothing is the front of each text
pub no_front : (old new : Output) (text : List ℕ) → Keeps old.told new.told → WroteFront old new text
no_front old new text kept = record { front = []; rest = text; split = refl; wrote = nothing_appended old.told new.told kept }

exact : (o : Option WorkloadOptions) (old new : Output) (r : Ended) → EndsAs o old new r → (HasFailed old new → ⊥) → status_of r ≢ NO_MEMORY → WroteWhole old new (text_by o)
exact o old new (Ok done) h none memory = h.1
exact o old new (Err Usage) h none memory =
    subst (λ (q : Option WorkloadOptions). WroteWhole old new (text_by q)) (sym h.0) (nothing_appended old.told new.told h.1)
exact o old new (Err WriteFault) h none memory = absurd (none h.2)
exact o old new (Err Memory) h none memory = absurd (memory refl)

some-none : {A : Type 0} (o : Option A) → IsSome o → o ≡ None → ⊥
some-none None some none = false≢true some
some-none (Some x) some none = absurd (cc)

unknown : (o : Option WorkloadOptions) (old new : Output) (r : Ended) → EndsAs o old new r → o ≡ None → (status_of r ≡ USAGE) ⊎ (status_of r ≡ NO_MEMORY)
unknown o old new (Ok done) h none = absurd (some-none o h.0 none)
unknown o old new (Err Usage) h none = inl refl
unknown o old new (Err WriteFault) h none = absurd (some-none o h.0 none)
unknown o old new (Err Memory) h none = inr refl

known : (r : Ended) → (status_of r ≡ DONE) ⊎ ((status_of r ≡ USAGE) ⊎ ((status_of r ≡ WRITE_FAULT) ⊎ (status_of r ≡ NO_MEMORY)))
known (Ok done) = inl refl
known (Err Usage) = inr (inl refl)
known (Err WriteFault) = inr (inr (inl refl))
known (Err Memory) = inr (inr (inr refl))

own : (o : Option WorkloadOptions) (old new : Output) (r : Ended) → EndsAs o old new r → status_of r ≡ DONE → WroteWhole old new (text_by o)
own o old new (Ok done) h is = h.1
own o old new (Err Usage) h is = absurd (omega (arith, is))
own o old new (Err WriteFault) h is = absurd (omega (arith, is))
own o old new (Err Memory) h is = absurd (omega (arith, is))

usage : (o : Option WorkloadOptions) (old new : Output) (r : Ended) → EndsAs o old new r → status_of r ≡ USAGE → (o ≡ None) × Keeps old.told new.told
usage o old new (Ok done) h is = absurd (omega (arith, is))
usage o old new (Err Usage) h is = h
usage o old new (Err WriteFault) h is = absurd (omega (arith, is))
usage o old new (Err Memory) h is = absurd (omega (arith, is))

write_fault : (o : Option WorkloadOptions) (old new : Output) (r : Ended) → EndsAs o old new r → status_of r ≡ WRITE_FAULT → WroteFront old new (text_by o) × HasFailed old new
write_fault o old new (Ok done) h is = absurd (omega (arith, is))
write_fault o old new (Err Usage) h is = absurd (omega (arith, is))
write_fault o old new (Err WriteFault) h is = (h.1, h.2)
write_fault o old new (Err Memory) h is = absurd (omega (arith, is))

no_memory : (o : Option WorkloadOptions) (old new : Output) (r : Ended) → EndsAs o old new r → status_of r ≡ NO_MEMORY → WroteFront old new (text_by o)
no_memory o old new (Ok done) h is = absurd (omega (arith, is))
no_memory o old new (Err Usage) h is = absurd (omega (arith, is))
no_memory o old new (Err WriteFault) h is = absurd (omega (arith, is))
no_memory o old new (Err Memory) h is = h

front : (o : Option WorkloadOptions) (old new : Output) (r : Ended) → EndsAs o old new r → (status_of r ≡ WRITE_FAULT) ⊎ (status_of r ≡ NO_MEMORY) → WroteFront old new (text_by o)
front o old new r h (inl is) = (write_fault o old new r h is).0
front o old new r h (inr is) = no_memory o old new r h is

pub is_workload : (words : List (List ℕ)) (old new : Output) (r : Ended) → EndsAs (workload_options words) old new r → IsWorkload words old new (status_of r)
is_workload words old new r h =
    let o = workload_options words in
    record {
      exact = exact o old new r h;
      usage = λ is. (usage o old new r h is).0;
      outside = unknown o old new r h;
      write_fault = λ is. (write_fault o old new r h is).1;
      known = known r;
      own = own o old new r h;
      nothing = λ is. (usage o old new r h is).1;
      front = front o old new r h;
    }
