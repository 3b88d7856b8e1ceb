-- A verdict that names a pool names the target.
use Rattle.std.specs.Prelude.{◌≡◌, ℕ, Bool, true, false, not, List, [], ◌∷◌, Option, Some, None, option_map, refl}
use Rattle.std.proofs.Common.{subst}
use Rattle.std.proofs.lemmas.Bool.{false≢true}
use Rattle.rm_base.specs.declared.definitions.Definitions.{Definitions}
use Rattle.rm_base.specs.declared.name.Name.{Name}
use Rattle.rm_base.specs.declared.reply.CapOwner.{CapOwner}
use Rattle.rm_base.specs.declared.reply.CapOwner.TheVariants.{User, Session, Pool}
use Rattle.rm_base.specs.declared.reply.Reply.{Reply}
use Rattle.rm_base.specs.declared.reply.Reply.TheVariants as reply
use Rattle.rm_base.specs.Ranges.{passes_if_set}
use Rattle.rm_rules.specs.declared.state.Runner.{Runner}
use Rattle.rm_rules.specs.declared.verdict.Verdict.{Verdict}
use Rattle.rm_rules.specs.declared.verdict.Verdict.TheVariants.{Says, GoesTo}
use Rattle.rm_rules.specs.Target.{pool_runtime_cap, user_runtime_cap, is_exceeded, target, says_if, ended_by, first_verdict, verdict}

-- the verdict is a reply alone
abbrev is_reply : Verdict → Bool
is_reply (Says r) = true
is_reply (GoesTo pool) = false

says-reply : (b : Bool) (r : Reply) → passes_if_set is_reply (says_if b r) ≡ true
says-reply true r = refl
says-reply false r = refl

ended-reply : (which : CapOwner) (cap : Option ℕ) (running : ℕ) → passes_if_set is_reply (ended_by which cap running) ≡ true
ended-reply which None running = refl
ended-reply which (Some cap) running = says-reply (is_exceeded (Some cap) running) (reply.CapEnded which running cap)

leaving-reply : (o : Option Name) → passes_if_set is_reply (option_map (λ pool. Says (reply.GiveWay pool)) o) ≡ true
leaving-reply None = refl
leaving-reply (Some pool) = refl

-- what is no reply alone comes from those behind one
behind : (o : Option Verdict) (more : List (Option Verdict)) (to : Name) → passes_if_set is_reply o ≡ true
    → first_verdict (o ∷ more) ≡ GoesTo to → first_verdict more ≡ GoesTo to
behind None more to says e = e
behind (Some (Says r)) more to says e = let no : Says r ≡ GoesTo to = e in absurd (cc)
behind (Some (GoesTo pool)) more to says e = absurd (false≢true says)

last : (o : Option Name) (end : Option Verdict) (to : Name) → passes_if_set is_reply end ≡ true
    → first_verdict (option_map GoesTo o ∷ end ∷ []) ≡ GoesTo to → o ≡ Some to
last None end to says e = let no : Says reply.Go ≡ GoesTo to = behind end [] to says e in absurd (cc)
last (Some pool) end to says e = let same : GoesTo pool ≡ GoesTo to = e in cc

pub verdict-target : (d : Definitions) (r : Runner) (session_cap : Option ℕ) (running : ℕ) (to : Name)
    → verdict d r session_cap running ≡ GoesTo to → target d r.pool running r.moves ≡ Some to
verdict-target d r session_cap running to e =
    let stopped = says_if r.cancelled reply.Stopping in
    let leaving = option_map (λ pool. Says (reply.GiveWay pool)) r.leaving in
    let user = ended_by User (user_runtime_cap d r.user) running in
    let own = ended_by Session session_cap running in
    let within = says_if (not (is_exceeded (pool_runtime_cap d r.pool) running)) reply.Go in
    let next = option_map GoesTo (target d r.pool running r.moves) in
    let end = ended_by Pool (pool_runtime_cap d r.pool) running in
    last (target d r.pool running r.moves) end to (ended-reply Pool (pool_runtime_cap d r.pool) running)
    (behind within (next ∷ end ∷ []) to (says-reply (not (is_exceeded (pool_runtime_cap d r.pool) running)) reply.Go)
    (behind own (within ∷ next ∷ end ∷ []) to (ended-reply Session session_cap running)
    (behind user (own ∷ within ∷ next ∷ end ∷ []) to (ended-reply User (user_runtime_cap d r.user) running)
    (behind leaving (user ∷ own ∷ within ∷ next ∷ end ∷ []) to (leaving-reply r.leaving)
    (behind stopped (leaving ∷ user ∷ own ∷ within ∷ next ∷ end ∷ []) to (says-reply r.cancelled reply.Stopping) e)))))

-- what a check replies that moves nothing on
pub data IsCheckReply : Reply → Type 0 where
  says_go : IsCheckReply reply.Go
  says_way : (pool : Name) → IsCheckReply (reply.GiveWay pool)
  says_end : (which : CapOwner) (ran cap : ℕ) → IsCheckReply (reply.CapEnded which ran cap)
  says_stop : IsCheckReply reply.Stopping

-- the verdict is such a reply, or names a pool
abbrev IsCheckVerdict : Verdict → Type 0
IsCheckVerdict (Says r) = IsCheckReply r
IsCheckVerdict (GoesTo pool) = Unit {0}

abbrev AreCheckVerdicts : Option Verdict → Type 0
AreCheckVerdicts None = Unit {0}
AreCheckVerdicts (Some v) = IsCheckVerdict v

first-check : (o : Option Verdict) (more : List (Option Verdict)) → AreCheckVerdicts o → IsCheckVerdict (first_verdict more) → IsCheckVerdict (first_verdict (o ∷ more))
first-check None more one rest = rest
first-check (Some v) more one rest = one

says-check : (b : Bool) (r : Reply) → IsCheckReply r → AreCheckVerdicts (says_if b r)
says-check true r is = is
says-check false r is = tt

ended-check : (which : CapOwner) (cap : Option ℕ) (running : ℕ) → AreCheckVerdicts (ended_by which cap running)
ended-check which None running = tt
ended-check which (Some cap) running = says-check (is_exceeded (Some cap) running) (reply.CapEnded which running cap) (says_end which running cap)

leaving-check : (o : Option Name) → AreCheckVerdicts (option_map (λ pool. Says (reply.GiveWay pool)) o)
leaving-check None = tt
leaving-check (Some pool) = says_way pool

next-check : (o : Option Name) → AreCheckVerdicts (option_map GoesTo o)
next-check None = tt
next-check (Some pool) = tt

check-verdict : (d : Definitions) (r : Runner) (session_cap : Option ℕ) (running : ℕ) → IsCheckVerdict (verdict d r session_cap running)
check-verdict d r session_cap running =
    let stopped = says_if r.cancelled reply.Stopping in
    let leaving = option_map (λ pool. Says (reply.GiveWay pool)) r.leaving in
    let user = ended_by User (user_runtime_cap d r.user) running in
    let own = ended_by Session session_cap running in
    let within = says_if (not (is_exceeded (pool_runtime_cap d r.pool) running)) reply.Go in
    let next = option_map GoesTo (target d r.pool running r.moves) in
    let end = ended_by Pool (pool_runtime_cap d r.pool) running in
    first-check stopped (leaving ∷ user ∷ own ∷ within ∷ next ∷ end ∷ []) (says-check r.cancelled reply.Stopping says_stop)
    (first-check leaving (user ∷ own ∷ within ∷ next ∷ end ∷ []) (leaving-check r.leaving)
    (first-check user (own ∷ within ∷ next ∷ end ∷ []) (ended-check User (user_runtime_cap d r.user) running)
    (first-check own (within ∷ next ∷ end ∷ []) (ended-check Session session_cap running)
    (first-check within (next ∷ end ∷ []) (says-check (not (is_exceeded (pool_runtime_cap d r.pool) running)) reply.Go says_go)
    (first-check next (end ∷ []) (next-check (target d r.pool running r.moves))
    (first-check end [] (ended-check Pool (pool_runtime_cap d r.pool) running) says_go))))))

pub verdict-says : (d : Definitions) (r : Runner) (session_cap : Option ℕ) (running : ℕ) (answer : Reply) → verdict d r session_cap running ≡ Says answer → IsCheckReply answer
verdict-says d r session_cap running answer e = subst IsCheckVerdict e (check-verdict d r session_cap running)

-- a query that is to go on elsewhere is neither cancelled nor to give way
pub verdict-free : (d : Definitions) (r : Runner) (session_cap : Option ℕ) (running : ℕ) (to : Name) → verdict d r session_cap running ≡ GoesTo to
    → (r.cancelled ≡ false) × (r.leaving ≡ None)
verdict-free d r session_cap running to e =
    let user = ended_by User (user_runtime_cap d r.user) running in
    let own = ended_by Session session_cap running in
    let within = says_if (not (is_exceeded (pool_runtime_cap d r.pool) running)) reply.Go in
    let next = option_map GoesTo (target d r.pool running r.moves) in
    let end = ended_by Pool (pool_runtime_cap d r.pool) running in
    turn (user ∷ own ∷ within ∷ next ∷ end ∷ []) r.cancelled r.leaving e where
      turn : (more : List (Option Verdict)) (b : Bool) (o : Option Name)
          → first_verdict (says_if b reply.Stopping ∷ option_map (λ pool. Says (reply.GiveWay pool)) o ∷ more) ≡ GoesTo to → (b ≡ false) × (o ≡ None)
      turn more true o e = let no : Says reply.Stopping ≡ GoesTo to = e in absurd (cc)
      turn more false (Some pool) e = let no : Says (reply.GiveWay pool) ≡ GoesTo to = e in absurd (cc)
      turn more false None e = (refl, refl)
