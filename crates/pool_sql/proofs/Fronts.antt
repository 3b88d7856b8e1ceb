-- what was read is a front of a statement, and what is refused is none
use Rattle.std.proofs.Common.{◌≡◌, ℕ, Bool, true, false, Some, None, Ok, Err, List, [], ◌∷◌, ◌++◌, refl, sym, subst, append_assoc, append-nil, codes}
use Rattle.rm_base.specs.declared.name.Name.{Name}
use Rattle.rm_base.specs.declared.refusal.Parameter.{Parameter}
use Rattle.rm_base.specs.declared.refusal.Parameter.TheVariants as parameter
use Rattle.rm_base.specs.declared.statement.Statement.{Statement}
use Rattle.rm_words.specs.declared.token.Symbol.TheVariants as symbol
use Rattle.rm_words.specs.Token.{Token, Number, Sign}
use Rattle.pool_sql.specs.declared.progress.Giving.{Giving}
use Rattle.pool_sql.specs.declared.progress.Giving.TheVariants as giving
use Rattle.pool_sql.specs.declared.progress.Kind.{Kind}
use Rattle.pool_sql.specs.declared.progress.Kind.TheVariants as kind
use Rattle.pool_sql.specs.declared.progress.Progress.{Progress}
use Rattle.pool_sql.specs.declared.progress.Progress.TheVariants.{Start, Verbed, OfResource, NameDue, Given, Usage, UsageOn, UsageResource, UsagePool, UsageOf, UsageTo, RoleOf, RoleTo, RoleNamed, RoleResource, RolePool, Part, CascadeTo, UserPool, ValueDue, MinusRead, Ended}
use Rattle.pool_sql.specs.declared.progress.Verb.{Verb}
use Rattle.pool_sql.specs.declared.progress.Verb.TheVariants as verb
use Rattle.pool_sql.specs.declared.setting.Setting.{Setting}
use Rattle.pool_sql.specs.Setting.{set}
use Rattle.pool_sql.specs.Value.{value_of}
use Rattle.pool_sql.specs.Grammar.{IsBody, create_pool, alter_pool, drop_pool, create_user, alter_user, drop_user, create_role, alter_role, drop_role, grant_usage, revoke_usage, grant_role, revoke_role, named, one, minus, IsValueDue, due, more_keys}
use Rattle.rm_words.specs.Names.{key, name}
use Rattle.pool_sql.specs.Machine.{Stepped, finish, step, to_key}
use Rattle.std.proofs.Common.{lit<}
use Rattle.std.specs.Fmt.{decimal}
use Rattle.rm_base.specs.Name.{general, name_text}
use Rattle.rm_words.specs.Token.{Says}
use Rattle.rm_words.proofs.Printing.{number_says}
use Rattle.pool_sql.specs.Grammar.{IsFront, Spells, bare, ended}
use Rattle.rm_words.specs.Reading.{onward}
use Rattle.rm_words.proofs.Readings.{prefix-read}
use Rattle.pool_sql.specs.Machine.{reader, run}
use Rattle.pool_sql.proofs.Means.{IsEnded, IsKeyed, IsMinusRead, Means, is_ended, minus_read, more-means, path, role-means, set-means, step-means, usage-means}
use Rattle.rm_words.proofs.Saying.{AllSay, AllSay-append, name-says}
use Rattle.pool_sql.proofs.Complete.{spells-gives}
use Rattle.pool_sql.proofs.Results.{true_false}
use Rattle.rm_words.proofs.Results.{some_is, none_some, ok_is, err_ok}

-- what is read has its meaning
means-turn : (p : Progress) (us : List Token) (t : Token) (ts : List Token) (q : Progress) (r : Stepped) → step p t ≡ r → Means p us
    → onward r (λ s. run s ts) ≡ Ok q
    → ((s : Progress) → Means s (us ++ t ∷ []) → run s ts ≡ Ok q → Means q ((us ++ t ∷ []) ++ ts))
    → Means q (us ++ t ∷ ts)
means-turn p us t ts q (Ok s) is m h rest =
    subst (λ l. Means q l) (append_assoc us (t ∷ []) ts) (rest s (step-means p us t s m is) h)
means-turn p us t ts q (Err why) is m h rest = absurd (err_ok why q h)

run-means : (p : Progress) (us ts : List Token) (q : Progress) → Means p us → run p ts ≡ Ok q → Means q (us ++ ts)
run-means p us [] q m h = subst (λ l. Means q l) (sym (append-nil us)) (subst (λ s. Means s us) (ok_is p q h) m)
run-means p us (t ∷ ts) q m h = means-turn p us t ts q (step p t) refl m h (λ s n rest. run-means s (us ++ t ∷ []) ts q n rest)

pub sound : (ts : List Token) (q : Progress) → run Start ts ≡ Ok q → Means q ts
sound ts q h = run-means Start [] ts q refl h

pub finish-spells : (p : Progress) (ts : List Token) (st : Statement) → Means p ts → finish p ≡ Some st → Spells ts st
finish-spells (Part true st) ts a m h = subst (λ x. Spells ts x) (some_is st a h) (bare st ts m)
finish-spells (Part false st) ts a m h = absurd (none_some a h)
finish-spells (Ended st) _ a (is_ended _ ts body) h = subst (λ x. Spells (ts ++ Sign symbol.Semicolon ∷ []) x) (some_is st a h) (ended st ts body)
finish-spells Start ts a m h = absurd (none_some a h)
finish-spells (Verbed v) ts a m h = absurd (none_some a h)
finish-spells (OfResource v) ts a m h = absurd (none_some a h)
finish-spells (NameDue v k) ts a m h = absurd (none_some a h)
finish-spells (Given g) ts a m h = absurd (none_some a h)
finish-spells (Usage g) ts a m h = absurd (none_some a h)
finish-spells (UsageOn g) ts a m h = absurd (none_some a h)
finish-spells (UsageResource g) ts a m h = absurd (none_some a h)
finish-spells (UsagePool g) ts a m h = absurd (none_some a h)
finish-spells (UsageOf g p) ts a m h = absurd (none_some a h)
finish-spells (UsageTo g p) ts a m h = absurd (none_some a h)
finish-spells (RoleOf g r) ts a m h = absurd (none_some a h)
finish-spells (RoleTo g r) ts a m h = absurd (none_some a h)
finish-spells (RoleNamed n) ts a m h = absurd (none_some a h)
finish-spells (RoleResource n) ts a m h = absurd (none_some a h)
finish-spells (RolePool n) ts a m h = absurd (none_some a h)
finish-spells (CascadeTo st) ts a m h = absurd (none_some a h)
finish-spells (UserPool st) ts a m h = absurd (none_some a h)
finish-spells (ValueDue st p) ts a m h = absurd (none_some a h)
finish-spells (MinusRead st) ts a m h = absurd (none_some a h)

-- some words that can be written make a statement of these
pub record SaidFront (ts : List Token) : Type 0 where
  pub rest : List Token
  pub statement : Statement
  pub words : List (List ℕ)
  pub says : AllSay words rest
  pub spells : Spells (ts ++ rest) statement

-- the front of a front
shorter : (ts us : List Token) (ws : List (List ℕ)) → AllSay ws us → SaidFront (ts ++ us) → SaidFront ts
shorter ts us ws say front = record {
  rest = us ++ front.rest;
  statement = front.statement;
  words = ws ++ front.words;
  says = AllSay-append ws front.words us front.rest say front.says;
  spells = subst (λ l. Spells l front.statement) (append_assoc ts us front.rest) front.spells;
}

spelled-front : (ts : List Token) (st : Statement) → Spells ts st → SaidFront ts
spelled-front ts st spells = record {
  rest = [];
  statement = st;
  words = [];
  says = tt;
  spells = subst (λ l. Spells l st) (sym (append-nil ts)) spells;
}

to_key-says : (g : Giving) → Says (to_key g) (key (to_key g))
to_key-says giving.Grant = record { word = refl; token = refl }
to_key-says giving.Revoke = record { word = refl; token = refl }

whole-front : (st : Statement) (ts : List Token) → IsBody true st ts → SaidFront ts
whole-front st ts body = spelled-front ts st (bare st ts body)

-- DEFAULT is a value of every parameter
default_value : (p : Parameter) → (x : Setting) × (value_of p (key (codes "DEFAULT")) ≡ Ok x)
default_value parameter.MemorySize = (_, refl)
default_value parameter.MaxMemorySize = (_, refl)
default_value parameter.MaxQueryMemorySize = (_, refl)
default_value parameter.ExecutionParallelism = (_, refl)
default_value parameter.Priority = (_, refl)
default_value parameter.RuntimePriority = (_, refl)
default_value parameter.RuntimePriorityThreshold = (_, refl)
default_value parameter.QueueTimeout = (_, refl)
default_value parameter.PlannedConcurrency = (_, refl)
default_value parameter.MaxConcurrency = (_, refl)
default_value parameter.RuntimeCap = (_, refl)
default_value parameter.Cascade = (_, refl)
default_value parameter.ResourcePool = (_, refl)
default_value parameter.MemoryCap = (_, refl)

due-front : (st : Statement) (p : Parameter) (ts : List Token) → IsValueDue st p ts → SaidFront ts
due-front st p ts at =
    let value = default_value p in
    shorter ts (key (codes "DEFAULT") ∷ []) (codes "DEFAULT" ∷ []) (record { word = refl; token = refl }, tt)
    (whole-front (set st value.0) (ts ++ key (codes "DEFAULT") ∷ [])
    (set-means st p ts (key (codes "DEFAULT") ∷ []) value.0 at (one p value.0 (key (codes "DEFAULT")) value.1)))

-- an ALTER without a parameter
alter_pool-front : (n : Name) → SaidFront (path (NameDue verb.Alter kind.Pool) ++ name n ∷ [])
alter_pool-front n =
    shorter (path (NameDue verb.Alter kind.Pool) ++ name n ∷ []) (key (codes "MEMORYSIZE") ∷ []) (codes "MEMORYSIZE" ∷ []) (record { word = refl; token = refl }, tt)
    (due-front _ parameter.MemorySize _
    (due false _ _ (key (codes "MEMORYSIZE")) parameter.MemorySize (alter_pool n) refl refl))

alter_user-front : (n : Name) → SaidFront (path (NameDue verb.Alter kind.User) ++ name n ∷ [])
alter_user-front n =
    shorter (path (NameDue verb.Alter kind.User) ++ name n ∷ []) (key (codes "MEMORYCAP") ∷ []) (codes "MEMORYCAP" ∷ []) (record { word = refl; token = refl }, tt)
    (due-front _ parameter.MemoryCap _
    (due false _ _ (key (codes "MEMORYCAP")) parameter.MemoryCap (alter_user n) refl refl))

begun-front : (b : Bool) (st : Statement) (ts : List Token) → b ≡ false → IsBody b st ts → SaidFront ts
begun-front _ _ _ h (alter_pool n) = alter_pool-front n
begun-front _ _ _ h (alter_user n) = alter_user-front n
begun-front _ _ _ h (create_pool n) = absurd (true_false h)
begun-front _ _ _ h (drop_pool n) = absurd (true_false h)
begun-front _ _ _ h (create_user n) = absurd (true_false h)
begun-front _ _ _ h (drop_user n) = absurd (true_false h)
begun-front _ _ _ h (create_role n) = absurd (true_false h)
begun-front _ _ _ h (alter_role n pool t is) = absurd (true_false h)
begun-front _ _ _ h (drop_role n) = absurd (true_false h)
begun-front _ _ _ h (grant_usage p n) = absurd (true_false h)
begun-front _ _ _ h (revoke_usage p n) = absurd (true_false h)
begun-front _ _ _ h (grant_role r u) = absurd (true_false h)
begun-front _ _ _ h (revoke_role r u) = absurd (true_false h)
begun-front _ _ _ h (named b st ts t p x vs body is fresh value) = absurd (true_false h)

pub body-front : (b : Bool) (st : Statement) (ts : List Token) → IsBody b st ts → SaidFront ts
body-front true st ts body = whole-front st ts body
body-front false st ts body = begun-front false st ts refl body

-- each state that has no body yet, from the one that follows it
role_pool-front : (n : Name) → SaidFront (path (RolePool n))
role_pool-front n =
    shorter (path (RolePool n)) (key (codes "NONE") ∷ []) (codes "NONE" ∷ []) (record { word = refl; token = refl }, tt)
    (whole-front _ _ (alter_role n None (key (codes "NONE")) refl))

role_resource-front : (n : Name) → SaidFront (path (RoleResource n))
role_resource-front n = shorter (path (RoleResource n)) (key (codes "POOL") ∷ []) (codes "POOL" ∷ []) (record { word = refl; token = refl }, tt) (role_pool-front n)

role_named-front : (n : Name) → SaidFront (path (RoleNamed n))
role_named-front n = shorter (path (RoleNamed n)) (key (codes "RESOURCE") ∷ []) (codes "RESOURCE" ∷ []) (record { word = refl; token = refl }, tt) (role_resource-front n)

name_due-front : (v : Verb) (k : Kind) → SaidFront (path (NameDue v k))
name_due-front verb.Create kind.Pool = shorter (path (NameDue verb.Create kind.Pool)) (name general ∷ []) (name_text general ∷ []) (name-says general, tt) (whole-front _ _ (create_pool general))
name_due-front verb.Create kind.User = shorter (path (NameDue verb.Create kind.User)) (name general ∷ []) (name_text general ∷ []) (name-says general, tt) (whole-front _ _ (create_user general))
name_due-front verb.Create kind.Role = shorter (path (NameDue verb.Create kind.Role)) (name general ∷ []) (name_text general ∷ []) (name-says general, tt) (whole-front _ _ (create_role general))
name_due-front verb.Alter kind.Pool = shorter (path (NameDue verb.Alter kind.Pool)) (name general ∷ []) (name_text general ∷ []) (name-says general, tt) (alter_pool-front general)
name_due-front verb.Alter kind.User = shorter (path (NameDue verb.Alter kind.User)) (name general ∷ []) (name_text general ∷ []) (name-says general, tt) (alter_user-front general)
name_due-front verb.Alter kind.Role = shorter (path (NameDue verb.Alter kind.Role)) (name general ∷ []) (name_text general ∷ []) (name-says general, tt) (role_named-front general)
name_due-front verb.Drop kind.Pool = shorter (path (NameDue verb.Drop kind.Pool)) (name general ∷ []) (name_text general ∷ []) (name-says general, tt) (whole-front _ _ (drop_pool general))
name_due-front verb.Drop kind.User = shorter (path (NameDue verb.Drop kind.User)) (name general ∷ []) (name_text general ∷ []) (name-says general, tt) (whole-front _ _ (drop_user general))
name_due-front verb.Drop kind.Role = shorter (path (NameDue verb.Drop kind.Role)) (name general ∷ []) (name_text general ∷ []) (name-says general, tt) (whole-front _ _ (drop_role general))

verbed-front : (v : Verb) → SaidFront (path (Verbed v))
verbed-front v = shorter (path (Verbed v)) (key (codes "ROLE") ∷ []) (codes "ROLE" ∷ []) (record { word = refl; token = refl }, tt) (name_due-front v kind.Role)

usage_to-front : (g : Giving) (p : Name) → SaidFront (path (UsageTo g p))
usage_to-front g p = shorter (path (UsageTo g p)) (name general ∷ []) (name_text general ∷ []) (name-says general, tt) (whole-front _ _ (usage-means g p general))

usage_of-front : (g : Giving) (p : Name) → SaidFront (path (UsageOf g p))
usage_of-front g p = shorter (path (UsageOf g p)) (key (to_key g) ∷ []) (to_key g ∷ []) (to_key-says g, tt) (usage_to-front g p)

usage_pool-front : (g : Giving) → SaidFront (path (UsagePool g))
usage_pool-front g = shorter (path (UsagePool g)) (name general ∷ []) (name_text general ∷ []) (name-says general, tt) (usage_of-front g general)

usage_resource-front : (g : Giving) → SaidFront (path (UsageResource g))
usage_resource-front g = shorter (path (UsageResource g)) (key (codes "POOL") ∷ []) (codes "POOL" ∷ []) (record { word = refl; token = refl }, tt) (usage_pool-front g)

usage_on-front : (g : Giving) → SaidFront (path (UsageOn g))
usage_on-front g = shorter (path (UsageOn g)) (key (codes "RESOURCE") ∷ []) (codes "RESOURCE" ∷ []) (record { word = refl; token = refl }, tt) (usage_resource-front g)

usage-front : (g : Giving) → SaidFront (path (Usage g))
usage-front g = shorter (path (Usage g)) (key (codes "ON") ∷ []) (codes "ON" ∷ []) (record { word = refl; token = refl }, tt) (usage_on-front g)

role_to-front : (g : Giving) (r : Name) → SaidFront (path (RoleTo g r))
role_to-front g r = shorter (path (RoleTo g r)) (name general ∷ []) (name_text general ∷ []) (name-says general, tt) (whole-front _ _ (role-means g r general))

role_of-front : (g : Giving) (r : Name) → SaidFront (path (RoleOf g r))
role_of-front g r = shorter (path (RoleOf g r)) (key (to_key g) ∷ []) (to_key g ∷ []) (to_key-says g, tt) (role_to-front g r)

keyed-front : (st : Statement) (p : Parameter) (k : List ℕ) (ts : List Token) → Says k (key k) → more_keys p ≡ key k ∷ [] → IsKeyed st p ts
    → SaidFront ts
keyed-front st p k ts say more at = shorter ts (key k ∷ []) (k ∷ []) (say, tt) (due-front st p (ts ++ key k ∷ []) (more-means st p k ts more at))

minus-front : (st : Statement) (ts : List Token) → IsMinusRead st ts → SaidFront ts
minus-front _ _ (minus_read st ts at) =
    shorter (ts ++ Sign symbol.Minus ∷ []) (Number 0 ∷ []) (decimal 0 ∷ []) (number_says 0 (lit< tt), tt)
    (subst (λ l. SaidFront l) (sym (append_assoc ts (Sign symbol.Minus ∷ []) (Number 0 ∷ [])))
    (whole-front _ _ (set-means st parameter.Priority ts (Sign symbol.Minus ∷ Number 0 ∷ []) _ at (minus _ (Number 0) refl))))

ended-front : (st : Statement) (ts : List Token) → IsEnded st ts → SaidFront ts
ended-front _ _ (is_ended st ts body) = spelled-front (ts ++ Sign symbol.Semicolon ∷ []) st (ended st ts body)

-- whatever was read, some statement begins so
pub means-front : (p : Progress) (ts : List Token) → Means p ts → SaidFront ts
means-front Start ts m = subst (λ l. SaidFront l) (sym m) (shorter [] (key (codes "DROP") ∷ []) (codes "DROP" ∷ []) (record { word = refl; token = refl }, tt) (verbed-front verb.Drop))
means-front (Verbed v) ts m = subst (λ l. SaidFront l) (sym m) (verbed-front v)
means-front (OfResource v) ts m =
    subst (λ l. SaidFront l) (sym m) (shorter (path (OfResource v)) (key (codes "POOL") ∷ []) (codes "POOL" ∷ []) (record { word = refl; token = refl }, tt) (name_due-front v kind.Pool))
means-front (NameDue v k) ts m = subst (λ l. SaidFront l) (sym m) (name_due-front v k)
means-front (Given g) ts m =
    subst (λ l. SaidFront l) (sym m) (shorter (path (Given g)) (name general ∷ []) (name_text general ∷ []) (name-says general, tt) (role_of-front g general))
means-front (Usage g) ts m = subst (λ l. SaidFront l) (sym m) (usage-front g)
means-front (UsageOn g) ts m = subst (λ l. SaidFront l) (sym m) (usage_on-front g)
means-front (UsageResource g) ts m = subst (λ l. SaidFront l) (sym m) (usage_resource-front g)
means-front (UsagePool g) ts m = subst (λ l. SaidFront l) (sym m) (usage_pool-front g)
means-front (UsageOf g p) ts m = subst (λ l. SaidFront l) (sym m) (usage_of-front g p)
means-front (UsageTo g p) ts m = subst (λ l. SaidFront l) (sym m) (usage_to-front g p)
means-front (RoleOf g r) ts m = subst (λ l. SaidFront l) (sym m) (role_of-front g r)
means-front (RoleTo g r) ts m = subst (λ l. SaidFront l) (sym m) (role_to-front g r)
means-front (RoleNamed n) ts m = subst (λ l. SaidFront l) (sym m) (role_named-front n)
means-front (RoleResource n) ts m = subst (λ l. SaidFront l) (sym m) (role_resource-front n)
means-front (RolePool n) ts m = subst (λ l. SaidFront l) (sym m) (role_pool-front n)
means-front (Part b st) ts m = body-front b st ts m
means-front (CascadeTo st) ts m = keyed-front st parameter.Cascade (codes "TO") ts (record { word = refl; token = refl }) refl m
means-front (UserPool st) ts m = keyed-front st parameter.ResourcePool (codes "POOL") ts (record { word = refl; token = refl }) refl m
means-front (ValueDue st p) ts m = due-front st p ts m
means-front (MinusRead st) ts m = minus-front st ts m
means-front (Ended st) ts m = ended-front st ts m

pub read-front : (ts : List Token) (p : Progress) → run Start ts ≡ Ok p → IsFront ts
read-front ts p h = let front = means-front p ts (sound ts p h) in (front.rest, front.statement, front.spells)

-- a front is read
pub front-read : (ts : List Token) → IsFront ts → (q : Progress) × (run Start ts ≡ Ok q)
front-read ts front =
    let gives = spells-gives (ts ++ front.0) front.1 front.2 in prefix-read reader ts front.0 gives.last gives.reads

-- a front is one of words that can be written
pub said-front : (ts : List Token) → IsFront ts → SaidFront ts
said-front ts front = let read = front-read ts front in means-front read.0 ts (sound ts read.0 read.1)
