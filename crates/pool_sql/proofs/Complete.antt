-- every statement is read
use Rattle.std.proofs.Common.{◌≡◌, ℕ, Bool, true, false, if◌then◌else◌, Some, None, Ok, Err, List, [], ◌∷◌, ◌++◌, refl, sym, ◌∙◌, ap, codes}
use Rattle.rm_base.specs.declared.name.Name.{Name}
use Rattle.rm_base.specs.declared.refusal.Parameter.{Parameter}
use Rattle.rm_base.specs.declared.refusal.Parameter.TheVariants as parameter
use Rattle.rm_base.specs.declared.statement.Statement.{Statement}
use Rattle.rm_words.specs.declared.token.Symbol.{Symbol}
use Rattle.rm_words.specs.declared.token.Symbol.TheVariants as symbol
use Rattle.rm_words.specs.Token.{Token, Bare, Sign, is_key}
use Rattle.pool_sql.specs.declared.progress.Giving.{Giving}
use Rattle.pool_sql.specs.declared.progress.Giving.TheVariants as giving
use Rattle.pool_sql.specs.declared.progress.Kind.TheVariants as kind
use Rattle.pool_sql.specs.declared.progress.Progress.{Progress}
use Rattle.pool_sql.specs.declared.progress.Progress.TheVariants.{Start, NameDue, Given, Usage, UsagePool, UsageOf, UsageTo, RoleOf, RoleTo, Part, ValueDue, Ended}
use Rattle.pool_sql.specs.declared.progress.Verb.TheVariants as verb
use Rattle.pool_sql.specs.declared.setting.Setting.{Setting}
use Rattle.pool_sql.specs.declared.stop.Stop.TheVariants as stop
use Rattle.rm_words.specs.Names.{name_of, key, name}
use Rattle.pool_sql.specs.Parameter.{parameter_of}
use Rattle.rm_base.specs.WellFormed.{is_named, parameters}
use Rattle.pool_sql.specs.Setting.{set}
use Rattle.pool_sql.specs.Grammar.{IsBody, create_pool, alter_pool, drop_pool, create_user, alter_user, drop_user, create_role, alter_role, drop_role, grant_usage, revoke_usage, grant_role, revoke_role, named, IsValue, one, minus, IsValueDue, due, more_keys}
use Rattle.pool_sql.specs.Machine.{Stepped, begun, finish, keyed, on_name, on_negative, on_parameter, on_role_pool, on_value, role_given, step, to_key, usage_given}
use Rattle.rm_words.proofs.Keys.{is_key-eq}
use Rattle.rm_base.specs.Name.{name_text}
use Rattle.rm_base.proofs.Names.{name_text-eq}
use Rattle.pool_sql.specs.Names.{usage_name}
use Rattle.pool_sql.specs.Grammar.{Spells, bare, ended}
use Rattle.rm_words.specs.Reading.{onward}
use Rattle.rm_words.proofs.Readings.{run-after as run-after_front}
use Rattle.pool_sql.specs.Machine.{reader, run}
use Rattle.pool_sql.specs.Parameter.{parameter_among}
use Rattle.rm_words.proofs.NameLemmas.{name_called-text}

-- what follows is read from where the front ended
pub run-after : (front rest : List Token) (p : Progress) → run Start front ≡ Ok p → run Start (front ++ rest) ≡ run p rest
run-after front rest p h = run-after_front reader front rest p h

name_next : (p : Progress) (goes : Name → Progress) (n : Name) (rest : List Token)
    → ((t : Token) → step p t ≡ on_name goes (name_of t)) → run p (name n ∷ rest) ≡ run (goes n) rest
name_next p goes n rest steps =
    ap (λ r. onward r (λ q. run q rest)) (steps (name n) ∙ ap (λ o. on_name goes o) (name_called-text n))

-- USAGE is the name of a role where TO or FROM follows
usage_is : (r : Name) → name r ≡ key (codes "USAGE") → r ≡ usage_name
usage_is r h = name_text-eq r usage_name (bare_is (name_text r) (name_text usage_name) h)
  where
    bare_is : (a b : List ℕ) → Bare a ≡ Bare b → a ≡ b
    bare_is a b h = cc

role-complete : (g : Giving) (r u : Name) → run (Given g) (name r ∷ key (to_key g) ∷ name u ∷ []) ≡ Ok (Part true (role_given g r u))
role-complete g r u = turn g (is_key (name r) (codes "USAGE")) refl
  where
    usage : (g : Giving) → run (Usage g) (key (to_key g) ∷ name u ∷ []) ≡ Ok (Part true (role_given g usage_name u))
    usage giving.Grant = name_next (RoleTo giving.Grant usage_name) (λ u. Part true (role_given giving.Grant usage_name u)) u [] (λ t. refl)
    usage giving.Revoke = name_next (RoleTo giving.Revoke usage_name) (λ u. Part true (role_given giving.Revoke usage_name u)) u [] (λ t. refl)

    role : (g : Giving) → run (RoleOf g r) (key (to_key g) ∷ name u ∷ []) ≡ Ok (Part true (role_given g r u))
    role giving.Grant = name_next (RoleTo giving.Grant r) (λ u. Part true (role_given giving.Grant r u)) u [] (λ t. refl)
    role giving.Revoke = name_next (RoleTo giving.Revoke r) (λ u. Part true (role_given giving.Revoke r u)) u [] (λ t. refl)

    turn : (g : Giving) (b : Bool) → is_key (name r) (codes "USAGE") ≡ b
        → run (Given g) (name r ∷ key (to_key g) ∷ name u ∷ []) ≡ Ok (Part true (role_given g r u))
    turn g true is =
        ap (λ b. onward (if b then Ok (Usage g) else on_name (λ r. RoleOf g r) (name_of (name r))) (λ q. run q (key (to_key g) ∷ name u ∷ []))) is
        ∙ usage g ∙ ap (λ (x : Name). let s : Stepped = Ok (Part true (role_given g x u)) in s) (sym (usage_is r (is_key-eq (name r) (codes "USAGE") is)))
    turn g false is =
        ap (λ b. onward (if b then Ok (Usage g) else on_name (λ r. RoleOf g r) (name_of (name r))) (λ q. run q (key (to_key g) ∷ name u ∷ []))) is
        ∙ ap (λ o. onward (on_name (λ r. RoleOf g r) o) (λ q. run q (key (to_key g) ∷ name u ∷ []))) (name_called-text r)
        ∙ role g

keyed-run : (st : Statement) (p : Parameter) → run (keyed st p) (more_keys p) ≡ Ok (ValueDue st p)
keyed-run st parameter.MemorySize = refl
keyed-run st parameter.MaxMemorySize = refl
keyed-run st parameter.MaxQueryMemorySize = refl
keyed-run st parameter.ExecutionParallelism = refl
keyed-run st parameter.Priority = refl
keyed-run st parameter.RuntimePriority = refl
keyed-run st parameter.RuntimePriorityThreshold = refl
keyed-run st parameter.QueueTimeout = refl
keyed-run st parameter.PlannedConcurrency = refl
keyed-run st parameter.MaxConcurrency = refl
keyed-run st parameter.RuntimeCap = refl
keyed-run st parameter.Cascade = refl
keyed-run st parameter.ResourcePool = refl
keyed-run st parameter.MemoryCap = refl

due-complete : (b : Bool) (st : Statement) (ts : List Token) (t : Token) (p : Parameter) → run Start ts ≡ Ok (Part b st)
    → parameter_of st t ≡ Some p → is_named p st ≡ false → run Start (ts ++ t ∷ more_keys p) ≡ Ok (ValueDue st p)
due-complete b st ts t p body is fresh =
    run-after ts (t ∷ more_keys p) (Part b st) body
    ∙ ap (λ o. onward (on_parameter b st t o) (λ q. run q (more_keys p))) is
    ∙ ap (λ twice. onward (if twice then Err (stop.Repeated p) else Ok (keyed st p)) (λ q. run q (more_keys p))) fresh
    ∙ keyed-run st p

value-complete : (st : Statement) (p : Parameter) (x : Setting) (vs : List Token) → IsValue p x vs
    → run (ValueDue st p) vs ≡ Ok (Part true (set st x))
value-complete st _ _ _ (one p x t is) = ap (λ r. onward (on_value st p t r) (λ q. run q [])) is
value-complete st _ _ _ (minus n t is) = ap (λ r. onward (on_negative st r) (λ q. run q [])) is

pub complete : (b : Bool) (st : Statement) (ts : List Token) → IsBody b st ts → run Start ts ≡ Ok (Part b st)
complete _ _ _ (create_pool n) = name_next (NameDue verb.Create kind.Pool) (λ n. begun verb.Create kind.Pool n) n [] (λ t. refl)
complete _ _ _ (alter_pool n) = name_next (NameDue verb.Alter kind.Pool) (λ n. begun verb.Alter kind.Pool n) n [] (λ t. refl)
complete _ _ _ (drop_pool n) = name_next (NameDue verb.Drop kind.Pool) (λ n. begun verb.Drop kind.Pool n) n [] (λ t. refl)
complete _ _ _ (create_user n) = name_next (NameDue verb.Create kind.User) (λ n. begun verb.Create kind.User n) n [] (λ t. refl)
complete _ _ _ (alter_user n) = name_next (NameDue verb.Alter kind.User) (λ n. begun verb.Alter kind.User n) n [] (λ t. refl)
complete _ _ _ (drop_user n) = name_next (NameDue verb.Drop kind.User) (λ n. begun verb.Drop kind.User n) n [] (λ t. refl)
complete _ _ _ (create_role n) = name_next (NameDue verb.Create kind.Role) (λ n. begun verb.Create kind.Role n) n [] (λ t. refl)
complete _ _ _ (alter_role n pool t is) =
    name_next (NameDue verb.Alter kind.Role) (λ n. begun verb.Alter kind.Role n) n (key (codes "RESOURCE") ∷ key (codes "POOL") ∷ t ∷ []) (λ t. refl)
    ∙ ap (λ r. onward (on_role_pool n r) (λ q. run q [])) is
complete _ _ _ (drop_role n) = name_next (NameDue verb.Drop kind.Role) (λ n. begun verb.Drop kind.Role n) n [] (λ t. refl)
complete _ _ _ (grant_usage p n) =
    name_next (UsagePool giving.Grant) (λ p. UsageOf giving.Grant p) p (key (codes "TO") ∷ name n ∷ []) (λ t. refl)
    ∙ name_next (UsageTo giving.Grant p) (λ n. Part true (usage_given giving.Grant p n)) n [] (λ t. refl)
complete _ _ _ (revoke_usage p n) =
    name_next (UsagePool giving.Revoke) (λ p. UsageOf giving.Revoke p) p (key (codes "FROM") ∷ name n ∷ []) (λ t. refl)
    ∙ name_next (UsageTo giving.Revoke p) (λ n. Part true (usage_given giving.Revoke p n)) n [] (λ t. refl)
complete _ _ _ (grant_role r u) = role-complete giving.Grant r u
complete _ _ _ (revoke_role r u) = role-complete giving.Revoke r u
complete _ _ _ (named b st ts t p x vs body is fresh value) =
    run-after (ts ++ t ∷ more_keys p) vs (ValueDue st p) (due-complete b st ts t p (complete b st ts body) is fresh)
    ∙ value-complete st p x vs value

pub due-run : (st : Statement) (p : Parameter) (ts : List Token) → IsValueDue st p ts → run Start ts ≡ Ok (ValueDue st p)
due-run _ _ _ (due b st ts t p body is fresh) = due-complete b st ts t p (complete b st ts body) is fresh

-- no symbol names a parameter
sign_names_none : (s : Symbol) (ps : List Parameter) → parameter_among ps (Sign s) ≡ None
sign_names_none s [] = refl
sign_names_none s (p ∷ ps) = sign_names_none s ps

-- a spelled statement is what the reading gives
pub record Gives (ts : List Token) (st : Statement) : Type 0 where
  pub last : Progress
  pub reads : run Start ts ≡ Ok last
  pub gives : finish last ≡ Some st

pub spells-gives : (ts : List Token) (st : Statement) → Spells ts st → Gives ts st
spells-gives _ _ (bare st ts body) = record { last = Part true st; reads = complete true st ts body; gives = refl }
spells-gives _ _ (ended st ts body) = record {
  last = Ended st;
  reads =
      run-after ts (Sign symbol.Semicolon ∷ []) (Part true st) (complete true st ts body)
      ∙ ap (λ o. onward (on_parameter true st (Sign symbol.Semicolon) o) (λ q. run q [])) (sign_names_none symbol.Semicolon (parameters st));
  gives = refl;
}
