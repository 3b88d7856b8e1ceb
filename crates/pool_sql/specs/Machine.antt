-- how the words of a statement are read, one by one
use Rattle.std.specs.Prelude.{ℕ, ℤ, Bool, true, false, ◌&&◌, if◌then◌else◌, Option, Some, None, Result, Ok, Err, List, [], ◌∷◌, codes}
use Rattle.rm_base.specs.declared.name.Name.{Name}
use Rattle.rm_base.specs.declared.refusal.Parameter.{Parameter}
use Rattle.rm_base.specs.declared.refusal.Parameter.TheVariants as parameter
use Rattle.rm_base.specs.declared.statement.Statement.{Statement}
use Rattle.rm_base.specs.declared.statement.Statement.TheVariants as statement
use Rattle.rm_base.specs.WellFormed.{is_named}
use Rattle.rm_words.specs.declared.token.Symbol.{Symbol}
use Rattle.rm_words.specs.declared.token.Symbol.TheVariants as symbol
use Rattle.rm_words.specs.Token.{Token, Bare, Number, Quoted, Sign, is_key}
use Rattle.rm_words.specs.Reading.{Reader, run as run_all}
use Rattle.pool_sql.specs.declared.progress.Giving.{Giving}
use Rattle.pool_sql.specs.declared.progress.Giving.TheVariants as giving
use Rattle.pool_sql.specs.declared.progress.Kind.{Kind}
use Rattle.pool_sql.specs.declared.progress.Kind.TheVariants as kind
use Rattle.pool_sql.specs.declared.progress.Progress.{Progress}
use Rattle.pool_sql.specs.declared.progress.Progress.TheVariants.{Start, Verbed, OfResource, NameDue, Given, Usage, UsageOn, UsageResource, UsagePool, UsageOf, UsageTo, RoleOf, RoleTo, RoleNamed, RoleResource, RolePool, Part, CascadeTo, UserPool, ValueDue, MinusRead, Ended}
use Rattle.pool_sql.specs.declared.progress.Verb.{Verb}
use Rattle.pool_sql.specs.declared.progress.Verb.TheVariants as verb
use Rattle.pool_sql.specs.declared.setting.Setting.{Setting}
use Rattle.pool_sql.specs.declared.setting.Setting.TheVariants as setting
use Rattle.pool_sql.specs.declared.stop.Stop.{Stop}
use Rattle.pool_sql.specs.declared.stop.Stop.TheVariants as stop
use Rattle.pool_sql.specs.Names.{usage_name}
use Rattle.rm_words.specs.Names.{name_of}
use Rattle.pool_sql.specs.Parameter.{is_affinity, parameter_of, takes_any}
use Rattle.pool_sql.specs.Setting.{no_pool_change, no_user_change, set}
use Rattle.pool_sql.specs.Value.{negative_of, optional_name, value_of}

-- where one word more leads, or why it ends the reading
abbrev pub Stepped : Type 0
Stepped = Result Progress Stop

-- a key word and where it leads
abbrev pub Edge : Type 0
Edge = List ℕ × Progress

-- the first of the key words that the word is
abbrev pub on_key : List Edge → Token → Stepped
on_key [] t = Err stop.Syntax
on_key (e ∷ es) t = if is_key t e.0 then Ok e.1 else on_key es t

-- a name
abbrev pub on_name : (Name → Progress) → Option Name → Stepped
on_name goes None = Err stop.Syntax
on_name goes (Some n) = Ok (goes n)

-- the statement, or the part of it, that ends with its name
abbrev pub begun : Verb → Kind → Name → Progress
begun verb.Create kind.Pool n = Part true (statement.CreatePool n no_pool_change)
begun verb.Create kind.User n = Part true (statement.CreateUser n no_user_change)
begun verb.Create kind.Role n = Part true (statement.CreateRole n)
begun verb.Alter kind.Pool n = Part false (statement.AlterPool n no_pool_change)
begun verb.Alter kind.User n = Part false (statement.AlterUser n no_user_change)
begun verb.Alter kind.Role n = RoleNamed n
begun verb.Drop kind.Pool n = Part true (statement.DropPool n)
begun verb.Drop kind.User n = Part true (statement.DropUser n)
begun verb.Drop kind.Role n = Part true (statement.DropRole n)

-- the key word before the last name
abbrev pub to_key : Giving → List ℕ
to_key giving.Grant = codes "TO"
to_key giving.Revoke = codes "FROM"

-- the statement on USAGE of a pool
abbrev pub usage_given : Giving → Name → Name → Statement
usage_given giving.Grant p n = statement.GrantUsage p n
usage_given giving.Revoke p n = statement.RevokeUsage p n

-- the statement on a role
abbrev pub role_given : Giving → Name → Name → Statement
role_given giving.Grant r u = statement.GrantRole r u
role_given giving.Revoke r u = statement.RevokeRole r u

-- the first word behind GRANT or REVOKE
abbrev pub on_given : Giving → Token → Stepped
on_given g t = if is_key t (codes "USAGE") then Ok (Usage g) else on_name (λ r. RoleOf g r) (name_of t)

-- what a role's own pool is to be
abbrev pub on_role_pool : Name → Result (Option Name) Stop → Stepped
on_role_pool n (Ok pool) = Ok (Part true (statement.AlterRole n pool))
on_role_pool n (Err why) = Err why

-- behind the first key word of a parameter
abbrev pub keyed : Statement → Parameter → Progress
keyed st parameter.Cascade = CascadeTo st
keyed st parameter.ResourcePool = UserPool st
keyed st p = ValueDue st p

-- what is wrong with a bare word that names no parameter
abbrev pub stranger : Bool → Token → Stop
stranger true t = if is_affinity t then stop.NotSupported else stop.Unknown
stranger false t = stop.Syntax

-- the symbol `;`
abbrev pub is_semicolon : Symbol → Bool
is_semicolon symbol.Semicolon = true
is_semicolon _ = false

-- a word behind a body that names no parameter
abbrev pub on_other : Bool → Statement → Token → Stepped
on_other b st (Bare word) = Err (stranger (takes_any st) (Bare word))
on_other b st (Sign s) = if b && is_semicolon s then Ok (Ended st) else Err stop.Syntax
on_other b st (Number n) = Err stop.Syntax
on_other b st (Quoted text) = Err stop.Syntax

-- a word behind a body
abbrev pub on_parameter : Bool → Statement → Token → Option Parameter → Stepped
on_parameter b st t None = on_other b st t
on_parameter b st t (Some p) = if is_named p st then Err (stop.Repeated p) else Ok (keyed st p)

-- a `-` before a PRIORITY
abbrev pub is_minus : Parameter → Token → Bool
is_minus parameter.Priority (Sign symbol.Minus) = true
is_minus _ _ = false

-- a word where the value of a parameter is due
abbrev pub on_value : Statement → Parameter → Token → Result Setting Stop → Stepped
on_value st p t (Ok x) = Ok (Part true (set st x))
on_value st p t (Err why) = if is_minus p t then Ok (MinusRead st) else Err why

-- a word behind the `-` of a PRIORITY
abbrev pub on_negative : Statement → Result ℤ Stop → Stepped
on_negative st (Ok n) = Ok (Part true (set st (setting.Priority n)))
on_negative st (Err why) = Err why

-- the first words of the statements on grants
abbrev pub giving_edges : List Edge
giving_edges = (codes "GRANT", Given giving.Grant) ∷ (codes "REVOKE", Given giving.Revoke) ∷ []

-- which key words may come next, and where each leads
abbrev pub edges : Progress → List Edge
edges Start =
    (codes "CREATE", Verbed verb.Create) ∷ (codes "ALTER", Verbed verb.Alter) ∷ (codes "DROP", Verbed verb.Drop) ∷ giving_edges
edges (Verbed v) =
    (codes "RESOURCE", OfResource v) ∷ (codes "USER", NameDue v kind.User) ∷ (codes "ROLE", NameDue v kind.Role) ∷ []
edges (OfResource v) = (codes "POOL", NameDue v kind.Pool) ∷ []
edges (Usage g) = (codes "ON", UsageOn g) ∷ (to_key g, RoleTo g usage_name) ∷ []
edges (UsageOn g) = (codes "RESOURCE", UsageResource g) ∷ []
edges (UsageResource g) = (codes "POOL", UsagePool g) ∷ []
edges (UsageOf g p) = (to_key g, UsageTo g p) ∷ []
edges (RoleOf g r) = (to_key g, RoleTo g r) ∷ []
edges (RoleNamed n) = (codes "RESOURCE", RoleResource n) ∷ []
edges (RoleResource n) = (codes "POOL", RolePool n) ∷ []
edges (CascadeTo st) = (codes "TO", ValueDue st parameter.Cascade) ∷ []
edges (UserPool st) = (codes "POOL", ValueDue st parameter.ResourcePool) ∷ []
edges _ = []

-- one word more
abbrev pub step : Progress → Token → Stepped
step (NameDue v k) t = on_name (λ n. begun v k n) (name_of t)
step (Given g) t = on_given g t
step (UsagePool g) t = on_name (λ p. UsageOf g p) (name_of t)
step (UsageTo g p) t = on_name (λ n. Part true (usage_given g p n)) (name_of t)
step (RoleTo g r) t = on_name (λ u. Part true (role_given g r u)) (name_of t)
step (RolePool n) t = on_role_pool n (optional_name t)
step (Part b st) t = on_parameter b st t (parameter_of st t)
step (ValueDue st p) t = on_value st p t (value_of p t)
step (MinusRead st) t = on_negative st (negative_of t)
step p t = on_key (edges p) t

-- the statement that the words so far are, if they are one
abbrev pub finish : Progress → Option Statement
finish (Part true st) = Some st
finish (Ended st) = Some st
finish _ = None

-- the reader of statements
abbrev pub reader : Reader Token Statement Stop Progress
reader = record { start = Start; step = λ p t. step p t; finish = λ p. finish p }

-- all the words
abbrev pub run : Progress → List Token → Stepped
run p ts = run_all reader p ts
