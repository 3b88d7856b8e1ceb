-- what the words so far are, by where the reading of them is
use Rattle.std.proofs.Common.{◌≡◌, ℕ, ℤ, Bool, true, false, ◌&&◌, if◌then◌else◌, Option, Some, None, Result, Ok, Err, List, [], ◌∷◌, ◌++◌, refl, sym, ◌∙◌, ap, subst, append_assoc, codes}
use Rattle.rm_base.specs.declared.name.Name.{Name}
use Rattle.rm_base.specs.declared.refusal.Parameter.{Parameter}
use Rattle.rm_base.specs.declared.refusal.Parameter.TheVariants as parameter
use Rattle.rm_base.specs.declared.statement.Statement.{Statement}
use Rattle.rm_base.specs.declared.statement.Statement.TheVariants as statement
use Rattle.rm_words.specs.declared.token.Symbol.{Symbol}
use Rattle.rm_words.specs.declared.token.Symbol.TheVariants as symbol
use Rattle.rm_words.specs.Token.{Token, Bare, Number, Quoted, Sign, is_key}
use Rattle.pool_sql.specs.declared.progress.Giving.{Giving}
use Rattle.pool_sql.specs.declared.progress.Giving.TheVariants as giving
use Rattle.pool_sql.specs.declared.progress.Kind.{Kind}
use Rattle.pool_sql.specs.declared.progress.Kind.TheVariants as kind
use Rattle.pool_sql.specs.declared.progress.Progress.{Progress}
use Rattle.pool_sql.specs.declared.progress.Progress.TheVariants.{Start, Verbed, OfResource, NameDue, Given, Usage, UsageOn, UsageResource, UsagePool, UsageOf, UsageTo, RoleOf, RoleTo, RoleNamed, RoleResource, RolePool, Part, CascadeTo, UserPool, ValueDue, MinusRead, Ended}
use Rattle.pool_sql.specs.declared.progress.Verb.{Verb}
use Rattle.pool_sql.specs.declared.progress.Verb.TheVariants as verb
use Rattle.pool_sql.specs.declared.setting.Setting.{Setting}
use Rattle.pool_sql.specs.declared.setting.Setting.TheVariants as setting
use Rattle.pool_sql.specs.declared.stop.Stop.{Stop}
use Rattle.pool_sql.specs.declared.stop.Stop.TheVariants as stop
use Rattle.rm_words.specs.Names.{name_of, key, name}
use Rattle.pool_sql.specs.Parameter.{parameter_of, takes_any}
use Rattle.rm_base.specs.WellFormed.{is_named}
use Rattle.pool_sql.specs.Setting.{set}
use Rattle.pool_sql.specs.Value.{negative_of, optional_name, value_of}
use Rattle.pool_sql.specs.Grammar.{IsBody, create_pool, alter_pool, drop_pool, create_user, alter_user, drop_user, create_role, alter_role, drop_role, grant_usage, revoke_usage, grant_role, revoke_role, named, IsValue, one, minus, IsValueDue, due, more_keys}
use Rattle.pool_sql.specs.Machine.{Edge, begun, edges, is_minus, is_semicolon, keyed, on_key, on_name, on_negative, on_other, on_parameter, on_role_pool, on_value, role_given, step, stranger, to_key, usage_given}
use Rattle.rm_words.proofs.Keys.{is_key-eq}
use Rattle.rm_words.proofs.NameLemmas.{name_of-eq}
use Rattle.rm_words.proofs.Results.{ok_is, err_ok}

abbrev pub verb_key : Verb → List ℕ
verb_key verb.Create = codes "CREATE"
verb_key verb.Alter = codes "ALTER"
verb_key verb.Drop = codes "DROP"

abbrev pub giving_key : Giving → List ℕ
giving_key giving.Grant = codes "GRANT"
giving_key giving.Revoke = codes "REVOKE"

-- the words so far, where they are no body yet
abbrev pub path : Progress → List Token
path (Verbed v) = key (verb_key v) ∷ []
path (OfResource v) = key (verb_key v) ∷ key (codes "RESOURCE") ∷ []
path (NameDue v kind.Pool) = key (verb_key v) ∷ key (codes "RESOURCE") ∷ key (codes "POOL") ∷ []
path (NameDue v kind.User) = key (verb_key v) ∷ key (codes "USER") ∷ []
path (NameDue v kind.Role) = key (verb_key v) ∷ key (codes "ROLE") ∷ []
path (Given g) = key (giving_key g) ∷ []
path (Usage g) = key (giving_key g) ∷ key (codes "USAGE") ∷ []
path (UsageOn g) = key (giving_key g) ∷ key (codes "USAGE") ∷ key (codes "ON") ∷ []
path (UsageResource g) = key (giving_key g) ∷ key (codes "USAGE") ∷ key (codes "ON") ∷ key (codes "RESOURCE") ∷ []
path (UsagePool g) =
    key (giving_key g) ∷ key (codes "USAGE") ∷ key (codes "ON") ∷ key (codes "RESOURCE") ∷ key (codes "POOL") ∷ []
path (UsageOf g p) =
    key (giving_key g) ∷ key (codes "USAGE") ∷ key (codes "ON") ∷ key (codes "RESOURCE") ∷ key (codes "POOL") ∷ name p ∷ []
path (UsageTo g p) =
    key (giving_key g) ∷ key (codes "USAGE") ∷ key (codes "ON") ∷ key (codes "RESOURCE") ∷ key (codes "POOL") ∷ name p
    ∷ key (to_key g) ∷ []
path (RoleOf g r) = key (giving_key g) ∷ name r ∷ []
path (RoleTo g r) = key (giving_key g) ∷ name r ∷ key (to_key g) ∷ []
path (RoleNamed n) = key (codes "ALTER") ∷ key (codes "ROLE") ∷ name n ∷ []
path (RoleResource n) = key (codes "ALTER") ∷ key (codes "ROLE") ∷ name n ∷ key (codes "RESOURCE") ∷ []
path (RolePool n) =
    key (codes "ALTER") ∷ key (codes "ROLE") ∷ name n ∷ key (codes "RESOURCE") ∷ key (codes "POOL") ∷ []
path _ = []

-- a body and the first word of a parameter that it does not name yet
pub data IsKeyed : Statement → Parameter → List Token → Type 0 where
  keyed_by : (b : Bool) (st : Statement) (ts : List Token) (t : Token) (p : Parameter)
      → IsBody b st ts → parameter_of st t ≡ Some p → is_named p st ≡ false → IsKeyed st p (ts ++ t ∷ [])

pub data IsMinusRead : Statement → List Token → Type 0 where
  minus_read : (st : Statement) (ts : List Token) → IsValueDue st parameter.Priority ts → IsMinusRead st (ts ++ Sign symbol.Minus ∷ [])

pub data IsEnded : Statement → List Token → Type 0 where
  is_ended : (st : Statement) (ts : List Token) → IsBody true st ts → IsEnded st (ts ++ Sign symbol.Semicolon ∷ [])

-- what the words so far are
abbrev pub Means : Progress → List Token → Type 0
Means (Part b st) ts = IsBody b st ts
Means (CascadeTo st) ts = IsKeyed st parameter.Cascade ts
Means (UserPool st) ts = IsKeyed st parameter.ResourcePool ts
Means (ValueDue st p) ts = IsValueDue st p ts
Means (MinusRead st) ts = IsMinusRead st ts
Means (Ended st) ts = IsEnded st ts
Means p ts = ts ≡ path p

-- each of the key words leads to what the words then are
abbrev Leads : List Token → List Edge → Type 0
Leads front [] = Unit {0}
Leads front (e ∷ es) = Means e.1 (front ++ key e.0 ∷ []) × Leads front es

key-turn : (front : List Token) (k : List ℕ) (r : Progress) (es : List Edge) (t : Token) (q : Progress) (b : Bool)
    → is_key t k ≡ b → (if b then Ok r else on_key es t) ≡ Ok q → Means r (front ++ key k ∷ [])
    → (on_key es t ≡ Ok q → Means q (front ++ t ∷ [])) → Means q (front ++ t ∷ [])
key-turn front k r es t q true is h leads rest =
    subst (λ x. Means q (front ++ x ∷ [])) (sym (is_key-eq t k is))
    (subst (λ s. Means s (front ++ key k ∷ [])) (ok_is r q h) leads)
key-turn front k r es t q false is h leads rest = rest h

on_key-means : (front : List Token) (es : List Edge) (t : Token) (q : Progress) → on_key es t ≡ Ok q → Leads front es
    → Means q (front ++ t ∷ [])
on_key-means front [] t q h leads = absurd (err_ok stop.Syntax q h)
on_key-means front (e ∷ es) t q h leads =
    key-turn front e.0 e.1 es t q (is_key t e.0) refl h leads.0 (λ rest. on_key-means front es t q rest leads.1)

name-turn : (front : List Token) (goes : Name → Progress) (t : Token) (q : Progress) (o : Option Name)
    → name_of t ≡ o → on_name goes o ≡ Ok q → ((n : Name) → Means (goes n) (front ++ name n ∷ [])) → Means q (front ++ t ∷ [])
name-turn front goes t q None is h leads = absurd (err_ok stop.Syntax q h)
name-turn front goes t q (Some n) is h leads =
    subst (λ x. Means q (front ++ x ∷ [])) (sym (name_of-eq t n is))
    (subst (λ s. Means s (front ++ name n ∷ [])) (ok_is (goes n) q h) (leads n))

on_name-means : (front : List Token) (goes : Name → Progress) (t : Token) (q : Progress) → on_name goes (name_of t) ≡ Ok q
    → ((n : Name) → Means (goes n) (front ++ name n ∷ [])) → Means q (front ++ t ∷ [])
on_name-means front goes t q h leads = name-turn front goes t q (name_of t) refl h leads

given-turn : (g : Giving) (t : Token) (q : Progress) (b : Bool) → is_key t (codes "USAGE") ≡ b
    → (if b then Ok (Usage g) else on_name (λ r. RoleOf g r) (name_of t)) ≡ Ok q → Means q (path (Given g) ++ t ∷ [])
given-turn g t q true is h =
    subst (λ x. Means q (path (Given g) ++ x ∷ [])) (sym (is_key-eq t (codes "USAGE") is))
    (subst (λ s. Means s (path (Usage g))) (ok_is (Usage g) q h) refl)
given-turn g t q false is h = on_name-means (path (Given g)) (λ r. RoleOf g r) t q h (λ r. refl)

begun-means : (v : Verb) (k : Kind) (n : Name) → Means (begun v k n) (path (NameDue v k) ++ name n ∷ [])
begun-means verb.Create kind.Pool n = create_pool n
begun-means verb.Create kind.User n = create_user n
begun-means verb.Create kind.Role n = create_role n
begun-means verb.Alter kind.Pool n = alter_pool n
begun-means verb.Alter kind.User n = alter_user n
begun-means verb.Alter kind.Role n = refl
begun-means verb.Drop kind.Pool n = drop_pool n
begun-means verb.Drop kind.User n = drop_user n
begun-means verb.Drop kind.Role n = drop_role n

pub usage-means : (g : Giving) (p n : Name) → IsBody true (usage_given g p n) (path (UsageTo g p) ++ name n ∷ [])
usage-means giving.Grant p n = grant_usage p n
usage-means giving.Revoke p n = revoke_usage p n

pub role-means : (g : Giving) (r u : Name) → IsBody true (role_given g r u) (path (RoleTo g r) ++ name u ∷ [])
role-means giving.Grant r u = grant_role r u
role-means giving.Revoke r u = revoke_role r u

role_pool-turn : (n : Name) (t : Token) (q : Progress) (r : Result (Option Name) Stop) → optional_name t ≡ r
    → on_role_pool n r ≡ Ok q → Means q (path (RolePool n) ++ t ∷ [])
role_pool-turn n t q (Ok pool) is h =
    subst (λ s. Means s (path (RolePool n) ++ t ∷ [])) (ok_is (Part true (statement.AlterRole n pool)) q h) (alter_role n pool t is)
role_pool-turn n t q (Err why) is h = absurd (err_ok why q h)

keyed-means : (b : Bool) (st : Statement) (ts : List Token) (t : Token) (p : Parameter) → IsBody b st ts
    → parameter_of st t ≡ Some p → is_named p st ≡ false → Means (keyed st p) (ts ++ t ∷ [])
keyed-means b st ts t parameter.MemorySize body is fresh = due b st ts t parameter.MemorySize body is fresh
keyed-means b st ts t parameter.MaxMemorySize body is fresh = due b st ts t parameter.MaxMemorySize body is fresh
keyed-means b st ts t parameter.MaxQueryMemorySize body is fresh = due b st ts t parameter.MaxQueryMemorySize body is fresh
keyed-means b st ts t parameter.ExecutionParallelism body is fresh = due b st ts t parameter.ExecutionParallelism body is fresh
keyed-means b st ts t parameter.Priority body is fresh = due b st ts t parameter.Priority body is fresh
keyed-means b st ts t parameter.RuntimePriority body is fresh = due b st ts t parameter.RuntimePriority body is fresh
keyed-means b st ts t parameter.RuntimePriorityThreshold body is fresh = due b st ts t parameter.RuntimePriorityThreshold body is fresh
keyed-means b st ts t parameter.QueueTimeout body is fresh = due b st ts t parameter.QueueTimeout body is fresh
keyed-means b st ts t parameter.PlannedConcurrency body is fresh = due b st ts t parameter.PlannedConcurrency body is fresh
keyed-means b st ts t parameter.MaxConcurrency body is fresh = due b st ts t parameter.MaxConcurrency body is fresh
keyed-means b st ts t parameter.RuntimeCap body is fresh = due b st ts t parameter.RuntimeCap body is fresh
keyed-means b st ts t parameter.Cascade body is fresh = keyed_by b st ts t parameter.Cascade body is fresh
keyed-means b st ts t parameter.ResourcePool body is fresh = keyed_by b st ts t parameter.ResourcePool body is fresh
keyed-means b st ts t parameter.MemoryCap body is fresh = due b st ts t parameter.MemoryCap body is fresh

semicolon_is : (s : Symbol) → is_semicolon s ≡ true → s ≡ symbol.Semicolon
semicolon_is symbol.AtMost h = absurd cc
semicolon_is symbol.AtLeast h = absurd cc
semicolon_is symbol.Unequal h = absurd cc
semicolon_is symbol.Open h = absurd cc
semicolon_is symbol.Close h = absurd cc
semicolon_is symbol.Comma h = absurd cc
semicolon_is symbol.Dot h = absurd cc
semicolon_is symbol.Star h = absurd cc
semicolon_is symbol.Equal h = absurd cc
semicolon_is symbol.Less h = absurd cc
semicolon_is symbol.Greater h = absurd cc
semicolon_is symbol.Semicolon h = refl
semicolon_is symbol.Minus h = absurd cc

sign-turn : (b : Bool) (st : Statement) (ts : List Token) (s : Symbol) (q : Progress) (ends : Bool) → is_semicolon s ≡ ends
    → IsBody b st ts → (if b && ends then Ok (Ended st) else Err stop.Syntax) ≡ Ok q → Means q (ts ++ Sign s ∷ [])
sign-turn true st ts s q true is body h =
    subst (λ x. Means q (ts ++ Sign x ∷ [])) (sym (semicolon_is s is))
    (subst (λ r. Means r (ts ++ Sign symbol.Semicolon ∷ [])) (ok_is (Ended st) q h) (is_ended st ts body))
sign-turn true st ts s q false is body h = absurd (err_ok stop.Syntax q h)
sign-turn false st ts s q ends is body h = absurd (err_ok stop.Syntax q h)

other-means : (b : Bool) (st : Statement) (ts : List Token) (t : Token) (q : Progress) → IsBody b st ts
    → on_other b st t ≡ Ok q → Means q (ts ++ t ∷ [])
other-means b st ts (Bare word) q body h = absurd (err_ok (stranger (takes_any st) (Bare word)) q h)
other-means b st ts (Number n) q body h = absurd (err_ok stop.Syntax q h)
other-means b st ts (Quoted text) q body h = absurd (err_ok stop.Syntax q h)
other-means b st ts (Sign s) q body h = sign-turn b st ts s q (is_semicolon s) refl body h

repeated-turn : (b : Bool) (st : Statement) (ts : List Token) (t : Token) (p : Parameter) (q : Progress) (twice : Bool)
    → is_named p st ≡ twice → IsBody b st ts → parameter_of st t ≡ Some p
    → (if twice then Err (stop.Repeated p) else Ok (keyed st p)) ≡ Ok q → Means q (ts ++ t ∷ [])
repeated-turn b st ts t p q true twice body is h = absurd (err_ok (stop.Repeated p) q h)
repeated-turn b st ts t p q false twice body is h =
    subst (λ r. Means r (ts ++ t ∷ [])) (ok_is (keyed st p) q h) (keyed-means b st ts t p body is twice)

parameter-turn : (b : Bool) (st : Statement) (ts : List Token) (t : Token) (q : Progress) (o : Option Parameter)
    → parameter_of st t ≡ o → IsBody b st ts → on_parameter b st t o ≡ Ok q → Means q (ts ++ t ∷ [])
parameter-turn b st ts t q None is body h = other-means b st ts t q body h
parameter-turn b st ts t q (Some p) is body h = repeated-turn b st ts t p q (is_named p st) refl body is h

-- a second key word
pub more-means : (st : Statement) (p : Parameter) (k : List ℕ) (ts : List Token) → more_keys p ≡ key k ∷ [] → IsKeyed st p ts
    → IsValueDue st p (ts ++ key k ∷ [])
more-means _ _ k _ more (keyed_by b st ts t p body is fresh) =
    subst (λ l. IsValueDue st p l)
    (ap (λ m. ts ++ t ∷ m) more ∙ sym (append_assoc ts (t ∷ []) (key k ∷ [])))
    (due b st ts t p body is fresh)

pub is_minus-eq : (p : Parameter) (t : Token) → is_minus p t ≡ true → (p ≡ parameter.Priority) × (t ≡ Sign symbol.Minus)
is_minus-eq parameter.Priority (Sign symbol.Minus) h = (refl, refl)
is_minus-eq parameter.Priority (Sign symbol.AtMost) h = absurd cc
is_minus-eq parameter.Priority (Sign symbol.AtLeast) h = absurd cc
is_minus-eq parameter.Priority (Sign symbol.Unequal) h = absurd cc
is_minus-eq parameter.Priority (Sign symbol.Open) h = absurd cc
is_minus-eq parameter.Priority (Sign symbol.Close) h = absurd cc
is_minus-eq parameter.Priority (Sign symbol.Comma) h = absurd cc
is_minus-eq parameter.Priority (Sign symbol.Dot) h = absurd cc
is_minus-eq parameter.Priority (Sign symbol.Star) h = absurd cc
is_minus-eq parameter.Priority (Sign symbol.Equal) h = absurd cc
is_minus-eq parameter.Priority (Sign symbol.Less) h = absurd cc
is_minus-eq parameter.Priority (Sign symbol.Greater) h = absurd cc
is_minus-eq parameter.Priority (Sign symbol.Semicolon) h = absurd cc
is_minus-eq parameter.Priority (Bare word) h = absurd cc
is_minus-eq parameter.Priority (Number n) h = absurd cc
is_minus-eq parameter.Priority (Quoted text) h = absurd cc
is_minus-eq parameter.MemorySize t h = absurd cc
is_minus-eq parameter.MaxMemorySize t h = absurd cc
is_minus-eq parameter.MaxQueryMemorySize t h = absurd cc
is_minus-eq parameter.ExecutionParallelism t h = absurd cc
is_minus-eq parameter.RuntimePriority t h = absurd cc
is_minus-eq parameter.RuntimePriorityThreshold t h = absurd cc
is_minus-eq parameter.QueueTimeout t h = absurd cc
is_minus-eq parameter.PlannedConcurrency t h = absurd cc
is_minus-eq parameter.MaxConcurrency t h = absurd cc
is_minus-eq parameter.RuntimeCap t h = absurd cc
is_minus-eq parameter.Cascade t h = absurd cc
is_minus-eq parameter.ResourcePool t h = absurd cc
is_minus-eq parameter.MemoryCap t h = absurd cc

minus-turn : (st : Statement) (p : Parameter) (ts : List Token) (t : Token) (q : Progress) (why : Stop) (b : Bool)
    → is_minus p t ≡ b → IsValueDue st p ts → (if b then Ok (MinusRead st) else Err why) ≡ Ok q → Means q (ts ++ t ∷ [])
minus-turn st p ts t q why true is at h =
    let both = is_minus-eq p t is in
    subst (λ x. Means q (ts ++ x ∷ [])) (sym both.1)
    (subst (λ r. Means r (ts ++ Sign symbol.Minus ∷ [])) (ok_is (MinusRead st) q h)
    (minus_read st ts (subst (λ x. IsValueDue st x ts) both.0 at)))
minus-turn st p ts t q why false is at h = absurd (err_ok why q h)

pub set-means : (st : Statement) (p : Parameter) (ts vs : List Token) (x : Setting) → IsValueDue st p ts → IsValue p x vs
    → IsBody true (set st x) (ts ++ vs)
set-means _ _ _ vs x (due b st ts t p body is fresh) value = named b st ts t p x vs body is fresh value

value-turn : (st : Statement) (p : Parameter) (ts : List Token) (t : Token) (q : Progress) (r : Result Setting Stop)
    → value_of p t ≡ r → IsValueDue st p ts → on_value st p t r ≡ Ok q → Means q (ts ++ t ∷ [])
value-turn st p ts t q (Ok x) is at h =
    subst (λ s. Means s (ts ++ t ∷ [])) (ok_is (Part true (set st x)) q h) (set-means st p ts (t ∷ []) x at (one p x t is))
value-turn st p ts t q (Err why) is at h = minus-turn st p ts t q why (is_minus p t) refl at h

negative-turn : (st : Statement) (ts : List Token) (t : Token) (q : Progress) (r : Result ℤ Stop)
    → negative_of t ≡ r → IsMinusRead st ts → on_negative st r ≡ Ok q → Means q (ts ++ t ∷ [])
negative-turn _ _ t q (Ok n) is (minus_read st ts at) h =
    subst (λ s. Means s ((ts ++ Sign symbol.Minus ∷ []) ++ t ∷ [])) (ok_is (Part true (set st (setting.Priority n))) q h)
    (subst (λ l. IsBody true (set st (setting.Priority n)) l) (sym (append_assoc ts (Sign symbol.Minus ∷ []) (t ∷ [])))
    (set-means st parameter.Priority ts (Sign symbol.Minus ∷ t ∷ []) (setting.Priority n) at (minus n t is)))
negative-turn st ts t q (Err why) is read h = absurd (err_ok why q h)

-- a step keeps what the words are
pub step-means : (p : Progress) (ts : List Token) (t : Token) (q : Progress) → Means p ts → step p t ≡ Ok q → Means q (ts ++ t ∷ [])
step-means Start ts t q m h =
    subst (λ l. Means q (l ++ t ∷ [])) (sym m) (on_key-means [] (edges Start) t q h (refl, (refl, (refl, (refl, (refl, tt))))))
step-means (Verbed v) ts t q m h =
    subst (λ l. Means q (l ++ t ∷ [])) (sym m) (on_key-means (path (Verbed v)) (edges (Verbed v)) t q h (refl, (refl, (refl, tt))))
step-means (OfResource v) ts t q m h =
    subst (λ l. Means q (l ++ t ∷ [])) (sym m) (on_key-means (path (OfResource v)) (edges (OfResource v)) t q h (refl, tt))
step-means (NameDue v k) ts t q m h =
    subst (λ l. Means q (l ++ t ∷ [])) (sym m) (on_name-means (path (NameDue v k)) (λ n. begun v k n) t q h (begun-means v k))
step-means (Given g) ts t q m h =
    subst (λ l. Means q (l ++ t ∷ [])) (sym m) (given-turn g t q (is_key t (codes "USAGE")) refl h)
step-means (Usage g) ts t q m h =
    subst (λ l. Means q (l ++ t ∷ [])) (sym m) (on_key-means (path (Usage g)) (edges (Usage g)) t q h (refl, (refl, tt)))
step-means (UsageOn g) ts t q m h =
    subst (λ l. Means q (l ++ t ∷ [])) (sym m) (on_key-means (path (UsageOn g)) (edges (UsageOn g)) t q h (refl, tt))
step-means (UsageResource g) ts t q m h =
    subst (λ l. Means q (l ++ t ∷ [])) (sym m) (on_key-means (path (UsageResource g)) (edges (UsageResource g)) t q h (refl, tt))
step-means (UsagePool g) ts t q m h =
    subst (λ l. Means q (l ++ t ∷ [])) (sym m) (on_name-means (path (UsagePool g)) (λ p. UsageOf g p) t q h (λ p. refl))
step-means (UsageOf g p) ts t q m h =
    subst (λ l. Means q (l ++ t ∷ [])) (sym m) (on_key-means (path (UsageOf g p)) (edges (UsageOf g p)) t q h (refl, tt))
step-means (UsageTo g p) ts t q m h =
    subst (λ l. Means q (l ++ t ∷ [])) (sym m)
    (on_name-means (path (UsageTo g p)) (λ n. Part true (usage_given g p n)) t q h (usage-means g p))
step-means (RoleOf g r) ts t q m h =
    subst (λ l. Means q (l ++ t ∷ [])) (sym m) (on_key-means (path (RoleOf g r)) (edges (RoleOf g r)) t q h (refl, tt))
step-means (RoleTo g r) ts t q m h =
    subst (λ l. Means q (l ++ t ∷ [])) (sym m)
    (on_name-means (path (RoleTo g r)) (λ u. Part true (role_given g r u)) t q h (role-means g r))
step-means (RoleNamed n) ts t q m h =
    subst (λ l. Means q (l ++ t ∷ [])) (sym m) (on_key-means (path (RoleNamed n)) (edges (RoleNamed n)) t q h (refl, tt))
step-means (RoleResource n) ts t q m h =
    subst (λ l. Means q (l ++ t ∷ [])) (sym m) (on_key-means (path (RoleResource n)) (edges (RoleResource n)) t q h (refl, tt))
step-means (RolePool n) ts t q m h =
    subst (λ l. Means q (l ++ t ∷ [])) (sym m) (role_pool-turn n t q (optional_name t) refl h)
step-means (Part b st) ts t q m h = parameter-turn b st ts t q (parameter_of st t) refl m h
step-means (CascadeTo st) ts t q m h =
    on_key-means ts (edges (CascadeTo st)) t q h (more-means st parameter.Cascade (codes "TO") ts refl m, tt)
step-means (UserPool st) ts t q m h =
    on_key-means ts (edges (UserPool st)) t q h (more-means st parameter.ResourcePool (codes "POOL") ts refl m, tt)
step-means (ValueDue st p) ts t q m h = value-turn st p ts t q (value_of p t) refl m h
step-means (MinusRead st) ts t q m h = negative-turn st ts t q (negative_of t) refl m h
step-means (Ended st) ts t q m h = absurd (err_ok stop.Syntax q h)
