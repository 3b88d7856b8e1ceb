-- what is spelled is right: its values are in their ranges
use Rattle.std.proofs.Common.{◌≡◌, ℕ, ℤ, zero, suc, pos, nat_abs, neg_ℤ, ◌*◌, ◌≤◌, nat_le, Bool, true, false, ◌&&◌, ◌||◌, ◌==◌, if◌then◌else◌, Option, Some, None, IfSome, find, Result, Ok, Err, List, [], ◌∷◌, refl, sym, ◌∙◌, ap, subst, arith, lit≤, codes}
use Rattle.std.proofs.Math.Nat.{mul_assoc}
use Rattle.std.specs.Char.{to_ascii_lowercase}
use Rattle.std.specs.List.{list_any, list_all}
use Rattle.std.proofs.lemmas.Bool.{leb-true, and_parts}
use Rattle.rm_base.specs.declared.limits.TheConstants.{CONCURRENCY_MOST, GIBI, KIBI, MEBI, MEMORY_MOST, PERCENT_MOST, PRIORITY_MOST, SECOND_MS, SPAN_MOST, TEBI, THRESHOLD_SECONDS_MOST}
use Rattle.rm_base.specs.declared.refusal.Parameter.{Parameter}
use Rattle.rm_base.specs.declared.refusal.Parameter.TheVariants as parameter
use Rattle.rm_base.specs.declared.statement.PoolChange.{PoolChange}
use Rattle.rm_base.specs.declared.statement.UserChange.{UserChange}
use Rattle.rm_base.specs.declared.statement.Size.{Size}
use Rattle.rm_base.specs.declared.statement.Size.TheVariants.{Bytes, Percent}
use Rattle.rm_base.specs.declared.statement.Statement.{Statement}
use Rattle.rm_base.specs.declared.statement.Statement.TheVariants as statement
use Rattle.rm_base.specs.RefusalText.{parameter_text}
use Rattle.rm_words.specs.Token.{Token, Bare, Number, Quoted, Sign, is_key}
use Rattle.pool_sql.specs.declared.setting.Setting.{Setting}
use Rattle.pool_sql.specs.declared.setting.Setting.TheVariants as setting
use Rattle.pool_sql.specs.declared.stop.Fault.{Fault}
use Rattle.pool_sql.specs.declared.stop.Fault.TheVariants.{Form, Outside}
use Rattle.pool_sql.specs.declared.stop.Stop.{Stop}
use Rattle.pool_sql.specs.declared.stop.Stop.TheVariants as stop
use Rattle.pool_sql.specs.Amount.{bytes, bytes_in, digit_count, front_number, ms_in, number_between, percent, percent_in, size_in, size_of, span_in, span_of, timeout_of, unit_bytes, unit_ms, behind_digits, within}
use Rattle.pool_sql.specs.Grammar.{IsBody, create_pool, alter_pool, drop_pool, create_user, alter_user, drop_user, create_role, alter_role, drop_role, grant_usage, revoke_usage, grant_role, revoke_role, named, IsValue, one, minus, Spells, bare, ended}
use Rattle.rm_base.specs.WellFormed.{IsBetween, IsOptionalBetween, IsOptionalSize, IsPriority, IsRightPool, IsRightUser, IsSize, IsWellFormed, is_named_pool, is_named_user, names_any, pool_parameters, user_parameters}
use Rattle.pool_sql.specs.Parameter.{parameter_of}
use Rattle.pool_sql.specs.Printed.{parameter_named}
use Rattle.pool_sql.specs.Setting.{no_pool_change, no_user_change, set, set_pool, set_user}
use Rattle.pool_sql.specs.Value.{as_setting, defaults, is_auto, is_default, is_none, level_of, memory_size_of, optional, optional_name, optional_size, parallelism_of, priority_of, queue_timeout_of, runtime_cap_of, signed, taken, threshold_of, unless_default, value_of}
use Rattle.pool_sql.proofs.Results.{true_false}
use Rattle.rm_words.proofs.Results.{some_is, none_some, ok_is, err_ok}

-- the value of a setting is one of those that can be written
abbrev pub IsRightValue : Setting → Type 0
IsRightValue (setting.MemorySize x) = IsSize x
IsRightValue (setting.MaxMemorySize x) = IsOptionalSize x
IsRightValue (setting.MaxQueryMemorySize x) = IsOptionalSize x
IsRightValue (setting.ExecutionParallelism x) = IsOptionalBetween 1 CONCURRENCY_MOST x
IsRightValue (setting.Priority x) = IsPriority x
IsRightValue (setting.RuntimePriority x) = Unit {0}
IsRightValue (setting.RuntimePriorityThreshold x) = IsBetween 0 THRESHOLD_SECONDS_MOST x
IsRightValue (setting.QueueTimeout x) = IsOptionalBetween 0 SPAN_MOST x
IsRightValue (setting.PlannedConcurrency x) = IsOptionalBetween 1 CONCURRENCY_MOST x
IsRightValue (setting.MaxConcurrency x) = IsOptionalBetween 1 CONCURRENCY_MOST x
IsRightValue (setting.RuntimeCap x) = IsOptionalBetween 1 SPAN_MOST x
IsRightValue (setting.Cascade x) = Unit {0}
IsRightValue (setting.ResourcePool x) = Unit {0}
IsRightValue (setting.MemoryCap x) = IsOptionalSize x

within-ok : (least top n m : ℕ) → within least top n ≡ Ok m → (n ≡ m) × (IsBetween least top m)
within-ok least top n m h = turn (nat_le least n && nat_le n top) refl h
  where
    turn : (b : Bool) → (nat_le least n && nat_le n top) ≡ b → ◌≡◌ {A = Result ℕ Fault} (if b then Ok n else Err Outside) (Ok m) → (n ≡ m) × (IsBetween least top m)
    turn true is e =
        let parts = and_parts (nat_le least n) (nat_le n top) is in
        let same : n ≡ m = ok_is n m e in
        (same, (subst (λ x. least ≤ x) same (leb-true least n parts.0), subst (λ x. x ≤ top) same (leb-true n top parts.1)))
    turn false is e = absurd (err_ok Outside m e)

number_between-ok : (least top : ℕ) (t : Token) (m : ℕ) → number_between least top t ≡ Ok m → IsBetween least top m
number_between-ok least top (Number n) m h = (within-ok least top n m h).1
number_between-ok least top (Bare word) m h = absurd (err_ok Form m h)
number_between-ok least top (Quoted text) m h = absurd (err_ok Form m h)
number_between-ok least top (Sign s) m h = absurd (err_ok Form m h)

-- each unit of sizes is so many KiB
kibi_units : (k m g t : Bool) (unit : ℕ)
    → (if k then Some KIBI else (if m then Some MEBI else (if g then Some GIBI else (if t then Some TEBI else None)))) ≡ Some unit
    → (kibi : ℕ) × (unit ≡ kibi * KIBI)
kibi_units true m g t unit h = (1, sym (some_is KIBI unit h))
kibi_units false true g t unit h = (KIBI, sym (some_is MEBI unit h))
kibi_units false false true t unit h = (MEBI, sym (some_is GIBI unit h))
kibi_units false false false true unit h = (GIBI, sym (some_is TEBI unit h))
kibi_units false false false false unit h = absurd (none_some unit h)

percent-size : (n : ℕ) (r : Result ℕ Fault) (s : Size) → within 0 PERCENT_MOST n ≡ r → percent r ≡ Ok s → IsSize s
percent-size n (Ok m) s is h = subst IsSize (ok_is (Percent m) s h) (within-ok 0 PERCENT_MOST n m is).1.1
percent-size n (Err fault) s is h = absurd (err_ok fault s h)

bytes-size : (n unit kibi : ℕ) (r : Result ℕ Fault) (s : Size) → unit ≡ kibi * KIBI → within 0 MEMORY_MOST (n * unit) ≡ r → bytes r ≡ Ok s → IsSize s
bytes-size n unit kibi (Ok m) s whole is h =
    let found = within-ok 0 MEMORY_MOST (n * unit) m is in
    subst IsSize (ok_is (Bytes m) s h)
    (n * kibi, sym found.0 ∙ ap (λ u. n * u) whole ∙ sym (mul_assoc n kibi KIBI), found.1.1)
bytes-size n unit kibi (Err fault) s whole is h = absurd (err_ok fault s h)

bytes_in-size : (n : ℕ) (o : Option ℕ) (s : Size) → ((unit : ℕ) → o ≡ Some unit → (kibi : ℕ) × (unit ≡ kibi * KIBI)) → bytes_in n o ≡ Ok s → IsSize s
bytes_in-size n None s units h = absurd (err_ok Form s h)
bytes_in-size n (Some unit) s units h =
    let whole = units unit refl in bytes-size n unit whole.0 (within 0 MEMORY_MOST (n * unit)) s whole.1 refl h

size_in-size : (n : ℕ) (text : List ℕ) (s : Size) → size_in n text ≡ Ok s → IsSize s
size_in-size n [] s h = absurd (err_ok Form s h)
size_in-size n (c ∷ d ∷ more) s h = absurd (err_ok Form s h)
size_in-size n (c ∷ []) s h = turn (c == 37) h
  where
    turn : (b : Bool) → (if b then percent_in n else bytes_in n (unit_bytes c)) ≡ Ok s → IsSize s
    turn true h = percent-size n (within 0 PERCENT_MOST n) s refl h
    turn false h = bytes_in-size n (unit_bytes c) s (λ unit e. let low = to_ascii_lowercase c in kibi_units (low == 107) (low == 109) (low == 103) (low == 116) unit e) h

size_of-size : (t : Token) (s : Size) → size_of t ≡ Ok s → IsSize s
size_of-size (Quoted text) s h = turn (digit_count text == 0) h
  where
    turn : (b : Bool) → (if b then Err Form else size_in (front_number text) (behind_digits text)) ≡ Ok s → IsSize s
    turn true h = absurd (err_ok Form s h)
    turn false h = size_in-size (front_number text) (behind_digits text) s h
size_of-size (Bare word) s h = absurd (err_ok Form s h)
size_of-size (Number n) s h = absurd (err_ok Form s h)
size_of-size (Sign sign) s h = absurd (err_ok Form s h)

ms_in-between : (least n : ℕ) (o : Option ℕ) (m : ℕ) → ms_in least n o ≡ Ok m → IsBetween least SPAN_MOST m
ms_in-between least n None m h = absurd (err_ok Form m h)
ms_in-between least n (Some unit) m h = (within-ok least SPAN_MOST (n * unit) m h).1

span_in-between : (least n : ℕ) (text : List ℕ) (m : ℕ) → span_in least n text ≡ Ok m → IsBetween least SPAN_MOST m
span_in-between least n [] m h = absurd (err_ok Form m h)
span_in-between least n (c ∷ unit) m h = turn (c == 32) h
  where
    turn : (b : Bool) → (if b then ms_in least n (unit_ms unit) else Err Form) ≡ Ok m → IsBetween least SPAN_MOST m
    turn true h = ms_in-between least n (unit_ms unit) m h
    turn false h = absurd (err_ok Form m h)

span_of-between : (least : ℕ) (t : Token) (m : ℕ) → span_of least t ≡ Ok m → IsBetween least SPAN_MOST m
span_of-between least (Quoted text) m h = turn (digit_count text == 0) h
  where
    turn : (b : Bool) → (if b then Err Form else span_in least (front_number text) (behind_digits text)) ≡ Ok m → IsBetween least SPAN_MOST m
    turn true h = absurd (err_ok Form m h)
    turn false h = span_in-between least (front_number text) (behind_digits text) m h
span_of-between least (Bare word) m h = absurd (err_ok Form m h)
span_of-between least (Number n) m h = absurd (err_ok Form m h)
span_of-between least (Sign s) m h = absurd (err_ok Form m h)

timeout_of-between : (t : Token) (m : ℕ) → timeout_of t ≡ Ok m → IsBetween 0 SPAN_MOST m
timeout_of-between (Number n) m h = (within-ok 0 SPAN_MOST (n * SECOND_MS) m h).1
timeout_of-between (Bare word) m h = span_of-between 0 (Bare word) m h
timeout_of-between (Quoted text) m h = span_of-between 0 (Quoted text) m h
timeout_of-between (Sign s) m h = span_of-between 0 (Sign s) m h

taken-all : {T : Type 0} (P : T → Type 0) (p : Parameter) (r : Result T Fault) (x : T) → ((y : T) → r ≡ Ok y → P y) → taken p r ≡ Ok x → P x
taken-all P p (Ok y) x all h = subst P (ok_is y x h) (all y refl)
taken-all P p (Err fault) x all h = absurd (err_ok _ x h)

optional-all : {T : Type 0} (P : T → Type 0) (p : Parameter) (b : Bool) (r : Result T Fault) (o : Option T)
    → ((y : T) → r ≡ Ok y → P y) → optional p b r ≡ Ok o → IfSome o P
optional-all P p true r o all h = subst (λ x. IfSome x P) (ok_is None o h) tt
optional-all P p false (Ok y) o all h = subst (λ x. IfSome x P) (ok_is (Some y) o h) (all y refl)
optional-all P p false (Err fault) o all h = absurd (err_ok _ o h)

default-all : {T : Type 0} (P : T → Type 0) (b : Bool) (d : T) (r : Result T Stop) (x : T) → P d → ((y : T) → r ≡ Ok y → P y)
    → (if b then Ok d else r) ≡ Ok x → P x
default-all P true d r x is all h = subst P (ok_is d x h) is
default-all P false d r x is all h = all x h

signed-all : (P : ℤ → Type 0) (sign : ℕ → ℤ) (r : Result ℕ Fault) (x : ℤ) → ((n : ℕ) → r ≡ Ok n → P (sign n))
    → signed parameter.Priority sign r ≡ Ok x → P x
signed-all P sign (Ok n) x all h = subst P (ok_is (sign n) x h) (all n refl)
signed-all P sign (Err fault) x all h = absurd (err_ok _ x h)

negative-priority : (n : ℕ) → n ≤ nat_abs PRIORITY_MOST → IsPriority (neg_ℤ (pos n))
negative-priority zero h = lit≤ tt
negative-priority (suc n) h = omega arith

priority_of-right : (t : Token) (x : ℤ) → priority_of t ≡ Ok x → IsPriority x
priority_of-right t x h = turn (is_key t (codes "HOLD")) h
  where
    turn : (b : Bool) → (if b then Err stop.NotSupported else unless_default t defaults.priority (signed parameter.Priority pos (number_between 0 (nat_abs PRIORITY_MOST) t))) ≡ Ok x → IsPriority x
    turn true h = absurd (err_ok stop.NotSupported x h)
    turn false h =
        default-all IsPriority (is_default t) defaults.priority _ x (lit≤ tt)
        (λ y e. signed-all IsPriority pos (number_between 0 (nat_abs PRIORITY_MOST) t) y (λ n is. (number_between-ok 0 (nat_abs PRIORITY_MOST) t n is).1) e) h

-- a value of a parameter is a setting of it
as_setting-ok : {T : Type 0} (p : Parameter) (f : T → Setting) (r : Result T Stop) (x : Setting)
    → ((y : T) → p ≡ parameter_named (f y)) → ((y : T) → r ≡ Ok y → IsRightValue (f y))
    → as_setting f r ≡ Ok x → (p ≡ parameter_named x) × IsRightValue x
as_setting-ok p f (Ok y) x names right h =
    subst (λ s. (p ≡ parameter_named s) × IsRightValue s) (ok_is (f y) x h) (names y, right y refl)
as_setting-ok p f (Err why) x names right h = absurd (err_ok why x h)

one-right : (p : Parameter) (t : Token) (x : Setting) → value_of p t ≡ Ok x → (p ≡ parameter_named x) × IsRightValue x
one-right parameter.MemorySize t x h =
    as_setting-ok parameter.MemorySize (λ y. setting.MemorySize y) (memory_size_of t) x (λ y. refl) (λ y e. default-all IsSize (is_default t) (Percent 0) _ y (lit≤ tt) (λ z g. taken-all IsSize parameter.MemorySize (size_of t) z (size_of-size t) g) e) h
one-right parameter.MaxMemorySize t x h =
    as_setting-ok parameter.MaxMemorySize (λ y. setting.MaxMemorySize y) (optional_size parameter.MaxMemorySize t) x (λ y. refl) (λ y e. optional-all IsSize parameter.MaxMemorySize (is_none t) (size_of t) y (size_of-size t) e) h
one-right parameter.MaxQueryMemorySize t x h =
    as_setting-ok parameter.MaxQueryMemorySize (λ y. setting.MaxQueryMemorySize y) (optional_size parameter.MaxQueryMemorySize t) x (λ y. refl) (λ y e. optional-all IsSize parameter.MaxQueryMemorySize (is_none t) (size_of t) y (size_of-size t) e) h
one-right parameter.ExecutionParallelism t x h =
    as_setting-ok parameter.ExecutionParallelism (λ y. setting.ExecutionParallelism y) (parallelism_of parameter.ExecutionParallelism (is_auto t) t) x (λ y. refl) (λ y e. optional-all (IsBetween 1 CONCURRENCY_MOST) parameter.ExecutionParallelism (is_auto t) (number_between 1 CONCURRENCY_MOST t) y (number_between-ok 1 CONCURRENCY_MOST t) e) h
one-right parameter.Priority t x h =
    as_setting-ok parameter.Priority (λ y. setting.Priority y) (priority_of t) x (λ y. refl) (λ y e. priority_of-right t y e) h
one-right parameter.RuntimePriority t x h =
    as_setting-ok parameter.RuntimePriority (λ y. setting.RuntimePriority y) (level_of t) x (λ y. refl) (λ y e. tt) h
one-right parameter.RuntimePriorityThreshold t x h =
    as_setting-ok parameter.RuntimePriorityThreshold (λ y. setting.RuntimePriorityThreshold y) (threshold_of t) x (λ y. refl) (λ y e. default-all (IsBetween 0 THRESHOLD_SECONDS_MOST) (is_default t) defaults.threshold_s _ y (lit≤ tt, lit≤ tt) (λ z g. taken-all (IsBetween 0 THRESHOLD_SECONDS_MOST) parameter.RuntimePriorityThreshold (number_between 0 THRESHOLD_SECONDS_MOST t) z (number_between-ok 0 THRESHOLD_SECONDS_MOST t) g) e) h
one-right parameter.QueueTimeout t x h =
    as_setting-ok parameter.QueueTimeout (λ y. setting.QueueTimeout y) (queue_timeout_of t) x (λ y. refl) (λ y e. default-all (IsOptionalBetween 0 SPAN_MOST) (is_default t) defaults.queue_ms _ y (lit≤ tt, lit≤ tt) (λ z g. optional-all (IsBetween 0 SPAN_MOST) parameter.QueueTimeout (is_key t (codes "NONE")) (timeout_of t) z (timeout_of-between t) g) e) h
one-right parameter.PlannedConcurrency t x h =
    as_setting-ok parameter.PlannedConcurrency (λ y. setting.PlannedConcurrency y) (parallelism_of parameter.PlannedConcurrency (is_auto t) t) x (λ y. refl) (λ y e. optional-all (IsBetween 1 CONCURRENCY_MOST) parameter.PlannedConcurrency (is_auto t) (number_between 1 CONCURRENCY_MOST t) y (number_between-ok 1 CONCURRENCY_MOST t) e) h
one-right parameter.MaxConcurrency t x h =
    as_setting-ok parameter.MaxConcurrency (λ y. setting.MaxConcurrency y) (parallelism_of parameter.MaxConcurrency (is_none t) t) x (λ y. refl) (λ y e. optional-all (IsBetween 1 CONCURRENCY_MOST) parameter.MaxConcurrency (is_none t) (number_between 1 CONCURRENCY_MOST t) y (number_between-ok 1 CONCURRENCY_MOST t) e) h
one-right parameter.RuntimeCap t x h =
    as_setting-ok parameter.RuntimeCap (λ y. setting.RuntimeCap y) (runtime_cap_of t) x (λ y. refl) (λ y e. optional-all (IsBetween 1 SPAN_MOST) parameter.RuntimeCap (is_none t) (span_of 1 t) y (span_of-between 1 t) e) h
one-right parameter.Cascade t x h =
    as_setting-ok parameter.Cascade (λ y. setting.Cascade y) (optional_name t) x (λ y. refl) (λ y e. tt) h
one-right parameter.ResourcePool t x h =
    as_setting-ok parameter.ResourcePool (λ y. setting.ResourcePool y) (optional_name t) x (λ y. refl) (λ y e. tt) h
one-right parameter.MemoryCap t x h =
    as_setting-ok parameter.MemoryCap (λ y. setting.MemoryCap y) (optional_size parameter.MemoryCap t) x (λ y. refl) (λ y e. optional-all IsSize parameter.MemoryCap (is_none t) (size_of t) y (size_of-size t) e) h

value-right : (p : Parameter) (x : Setting) (vs : List Token) → IsValue p x vs → (p ≡ parameter_named x) × IsRightValue x
value-right _ _ _ (one p x t is) = one-right p t x is
value-right _ _ _ (minus n t is) =
    (refl, signed-all IsPriority (λ m. neg_ℤ (pos m)) (number_between 0 (nat_abs PRIORITY_MOST) t) n (λ m e. negative-priority m (number_between-ok 0 (nat_abs PRIORITY_MOST) t m e).1) is)

-- a right value keeps what is right
set_pool-right : (c : PoolChange) (x : Setting) → IsRightPool c → IsRightValue x → IsRightPool (set_pool c x)
set_pool-right c (setting.MemorySize x) h right = record { memory = right; max = h.max; query_max = h.query_max; parallel = h.parallel; priority = h.priority; threshold_s = h.threshold_s; queue_ms = h.queue_ms; planned = h.planned; concurrency = h.concurrency; cap_ms = h.cap_ms }
set_pool-right c (setting.MaxMemorySize x) h right = record { memory = h.memory; max = right; query_max = h.query_max; parallel = h.parallel; priority = h.priority; threshold_s = h.threshold_s; queue_ms = h.queue_ms; planned = h.planned; concurrency = h.concurrency; cap_ms = h.cap_ms }
set_pool-right c (setting.MaxQueryMemorySize x) h right = record { memory = h.memory; max = h.max; query_max = right; parallel = h.parallel; priority = h.priority; threshold_s = h.threshold_s; queue_ms = h.queue_ms; planned = h.planned; concurrency = h.concurrency; cap_ms = h.cap_ms }
set_pool-right c (setting.ExecutionParallelism x) h right = record { memory = h.memory; max = h.max; query_max = h.query_max; parallel = right; priority = h.priority; threshold_s = h.threshold_s; queue_ms = h.queue_ms; planned = h.planned; concurrency = h.concurrency; cap_ms = h.cap_ms }
set_pool-right c (setting.Priority x) h right = record { memory = h.memory; max = h.max; query_max = h.query_max; parallel = h.parallel; priority = right; threshold_s = h.threshold_s; queue_ms = h.queue_ms; planned = h.planned; concurrency = h.concurrency; cap_ms = h.cap_ms }
set_pool-right c (setting.RuntimePriority x) h right = record { memory = h.memory; max = h.max; query_max = h.query_max; parallel = h.parallel; priority = h.priority; threshold_s = h.threshold_s; queue_ms = h.queue_ms; planned = h.planned; concurrency = h.concurrency; cap_ms = h.cap_ms }
set_pool-right c (setting.RuntimePriorityThreshold x) h right = record { memory = h.memory; max = h.max; query_max = h.query_max; parallel = h.parallel; priority = h.priority; threshold_s = right; queue_ms = h.queue_ms; planned = h.planned; concurrency = h.concurrency; cap_ms = h.cap_ms }
set_pool-right c (setting.QueueTimeout x) h right = record { memory = h.memory; max = h.max; query_max = h.query_max; parallel = h.parallel; priority = h.priority; threshold_s = h.threshold_s; queue_ms = right; planned = h.planned; concurrency = h.concurrency; cap_ms = h.cap_ms }
set_pool-right c (setting.PlannedConcurrency x) h right = record { memory = h.memory; max = h.max; query_max = h.query_max; parallel = h.parallel; priority = h.priority; threshold_s = h.threshold_s; queue_ms = h.queue_ms; planned = right; concurrency = h.concurrency; cap_ms = h.cap_ms }
set_pool-right c (setting.MaxConcurrency x) h right = record { memory = h.memory; max = h.max; query_max = h.query_max; parallel = h.parallel; priority = h.priority; threshold_s = h.threshold_s; queue_ms = h.queue_ms; planned = h.planned; concurrency = right; cap_ms = h.cap_ms }
set_pool-right c (setting.RuntimeCap x) h right = record { memory = h.memory; max = h.max; query_max = h.query_max; parallel = h.parallel; priority = h.priority; threshold_s = h.threshold_s; queue_ms = h.queue_ms; planned = h.planned; concurrency = h.concurrency; cap_ms = right }
set_pool-right c (setting.Cascade x) h right = record { memory = h.memory; max = h.max; query_max = h.query_max; parallel = h.parallel; priority = h.priority; threshold_s = h.threshold_s; queue_ms = h.queue_ms; planned = h.planned; concurrency = h.concurrency; cap_ms = h.cap_ms }
set_pool-right c (setting.ResourcePool x) h right = h
set_pool-right c (setting.MemoryCap x) h right = h

set_user-right : (c : UserChange) (x : Setting) → IsRightUser c → IsRightValue x → IsRightUser (set_user c x)
set_user-right c (setting.MemorySize x) h right = h
set_user-right c (setting.MaxMemorySize x) h right = h
set_user-right c (setting.MaxQueryMemorySize x) h right = h
set_user-right c (setting.ExecutionParallelism x) h right = h
set_user-right c (setting.Priority x) h right = h
set_user-right c (setting.RuntimePriority x) h right = h
set_user-right c (setting.RuntimePriorityThreshold x) h right = h
set_user-right c (setting.QueueTimeout x) h right = h
set_user-right c (setting.PlannedConcurrency x) h right = h
set_user-right c (setting.MaxConcurrency x) h right = h
set_user-right c (setting.RuntimeCap x) h right = record { memory_cap = h.memory_cap; cap_ms = right }
set_user-right c (setting.Cascade x) h right = h
set_user-right c (setting.ResourcePool x) h right = record { memory_cap = h.memory_cap; cap_ms = h.cap_ms }
set_user-right c (setting.MemoryCap x) h right = record { memory_cap = right; cap_ms = h.cap_ms }

-- the values that the statement names are right
abbrev pub HasRight : Statement → Type 0
HasRight (statement.CreatePool n c) = IsRightPool c
HasRight (statement.AlterPool n c) = IsRightPool c
HasRight (statement.CreateUser n c) = IsRightUser c
HasRight (statement.AlterUser n c) = IsRightUser c
HasRight (statement.DropPool n) = Unit {0}
HasRight (statement.DropUser n) = Unit {0}
HasRight (statement.CreateRole n) = Unit {0}
HasRight (statement.AlterRole n pool) = Unit {0}
HasRight (statement.DropRole n) = Unit {0}
HasRight (statement.GrantUsage p n) = Unit {0}
HasRight (statement.RevokeUsage p n) = Unit {0}
HasRight (statement.GrantRole r u) = Unit {0}
HasRight (statement.RevokeRole r u) = Unit {0}

set-right : (st : Statement) (x : Setting) → HasRight st → IsRightValue x → HasRight (set st x)
set-right (statement.CreatePool n c) x h right = set_pool-right c x h right
set-right (statement.AlterPool n c) x h right = set_pool-right c x h right
set-right (statement.CreateUser n c) x h right = set_user-right c x h right
set-right (statement.AlterUser n c) x h right = set_user-right c x h right
set-right (statement.DropPool n) x h right = tt
set-right (statement.DropUser n) x h right = tt
set-right (statement.CreateRole n) x h right = tt
set-right (statement.AlterRole n pool) x h right = tt
set-right (statement.DropRole n) x h right = tt
set-right (statement.GrantUsage p n) x h right = tt
set-right (statement.RevokeUsage p n) x h right = tt
set-right (statement.GrantRole r u) x h right = tt
set-right (statement.RevokeRole r u) x h right = tt

nothing_named_pool : IsRightPool no_pool_change
nothing_named_pool = record { memory = tt; max = tt; query_max = tt; parallel = tt; priority = tt; threshold_s = tt; queue_ms = tt; planned = tt; concurrency = tt; cap_ms = tt }

nothing_named_user : IsRightUser no_user_change
nothing_named_user = record { memory_cap = tt; cap_ms = tt }

body-right : (b : Bool) (st : Statement) (ts : List Token) → IsBody b st ts → HasRight st
body-right _ _ _ (create_pool n) = nothing_named_pool
body-right _ _ _ (alter_pool n) = nothing_named_pool
body-right _ _ _ (create_user n) = nothing_named_user
body-right _ _ _ (alter_user n) = nothing_named_user
body-right _ _ _ (drop_pool n) = tt
body-right _ _ _ (drop_user n) = tt
body-right _ _ _ (create_role n) = tt
body-right _ _ _ (alter_role n pool t is) = tt
body-right _ _ _ (drop_role n) = tt
body-right _ _ _ (grant_usage p n) = tt
body-right _ _ _ (revoke_usage p n) = tt
body-right _ _ _ (grant_role r u) = tt
body-right _ _ _ (revoke_role r u) = tt
body-right _ _ _ (named b st ts t p x vs body is fresh value) = set-right st x (body-right b st ts body) (value-right p x vs value).1

-- what is found in a list
found-all : (f good : Parameter → Bool) (ps : List Parameter) (p : Parameter) → list_all good ps ≡ true → find f ps ≡ Some p → good p ≡ true
found-all f good [] p all h = absurd cc
found-all f good (q ∷ qs) p all h = turn (f q) h (found-all f good qs p (and_parts (good q) (list_all good qs) all).1)
  where
    turn : (b : Bool) → (if b then Some q else find f qs) ≡ Some p → (find f qs ≡ Some p → good p ≡ true) → good p ≡ true
    turn true h rest = let same : q ≡ p = some_is q p h in ap good (sym same) ∙ (and_parts (good q) (list_all good qs) all).0
    turn false h rest = rest h

found-any : (f good : Parameter → Bool) (ps : List Parameter) (p : Parameter) → good p ≡ true → find f ps ≡ Some p → list_any good ps ≡ true
found-any f good [] p is h = absurd cc
found-any f good (q ∷ qs) p is h = turn (f q) h (found-any f good qs p is)
  where
    or_true : (b : Bool) → (b || true) ≡ true
    or_true true = refl
    or_true false = refl

    turn : (b : Bool) → (if b then Some q else find f qs) ≡ Some p → (find f qs ≡ Some p → list_any good qs ≡ true) → list_any good (q ∷ qs) ≡ true
    turn true h rest = ap (λ b. b || list_any good qs) (ap good (some_is q p h) ∙ is)
    turn false h rest = ap (λ b. good q || b) (rest h) ∙ or_true (good q)

abbrev is_of_pool : Parameter → Bool
is_of_pool parameter.MemorySize = true
is_of_pool parameter.MaxMemorySize = true
is_of_pool parameter.MaxQueryMemorySize = true
is_of_pool parameter.ExecutionParallelism = true
is_of_pool parameter.Priority = true
is_of_pool parameter.RuntimePriority = true
is_of_pool parameter.RuntimePriorityThreshold = true
is_of_pool parameter.QueueTimeout = true
is_of_pool parameter.PlannedConcurrency = true
is_of_pool parameter.MaxConcurrency = true
is_of_pool parameter.RuntimeCap = true
is_of_pool parameter.Cascade = true
is_of_pool parameter.ResourcePool = false
is_of_pool parameter.MemoryCap = false

abbrev is_of_user : Parameter → Bool
is_of_user parameter.MemorySize = false
is_of_user parameter.MaxMemorySize = false
is_of_user parameter.MaxQueryMemorySize = false
is_of_user parameter.ExecutionParallelism = false
is_of_user parameter.Priority = false
is_of_user parameter.RuntimePriority = false
is_of_user parameter.RuntimePriorityThreshold = false
is_of_user parameter.QueueTimeout = false
is_of_user parameter.PlannedConcurrency = false
is_of_user parameter.MaxConcurrency = false
is_of_user parameter.RuntimeCap = true
is_of_user parameter.Cascade = false
is_of_user parameter.ResourcePool = true
is_of_user parameter.MemoryCap = true

set_pool-named : (c : PoolChange) (x : Setting) → is_of_pool (parameter_named x) ≡ true → is_named_pool (parameter_named x) (set_pool c x) ≡ true
set_pool-named c (setting.MemorySize x) h = refl
set_pool-named c (setting.MaxMemorySize x) h = refl
set_pool-named c (setting.MaxQueryMemorySize x) h = refl
set_pool-named c (setting.ExecutionParallelism x) h = refl
set_pool-named c (setting.Priority x) h = refl
set_pool-named c (setting.RuntimePriority x) h = refl
set_pool-named c (setting.RuntimePriorityThreshold x) h = refl
set_pool-named c (setting.QueueTimeout x) h = refl
set_pool-named c (setting.PlannedConcurrency x) h = refl
set_pool-named c (setting.MaxConcurrency x) h = refl
set_pool-named c (setting.RuntimeCap x) h = refl
set_pool-named c (setting.Cascade x) h = refl
set_pool-named c (setting.ResourcePool x) h = absurd cc
set_pool-named c (setting.MemoryCap x) h = absurd cc

set_user-named : (c : UserChange) (x : Setting) → is_of_user (parameter_named x) ≡ true → is_named_user (parameter_named x) (set_user c x) ≡ true
set_user-named c (setting.MemorySize x) h = absurd cc
set_user-named c (setting.MaxMemorySize x) h = absurd cc
set_user-named c (setting.MaxQueryMemorySize x) h = absurd cc
set_user-named c (setting.ExecutionParallelism x) h = absurd cc
set_user-named c (setting.Priority x) h = absurd cc
set_user-named c (setting.RuntimePriority x) h = absurd cc
set_user-named c (setting.RuntimePriorityThreshold x) h = absurd cc
set_user-named c (setting.QueueTimeout x) h = absurd cc
set_user-named c (setting.PlannedConcurrency x) h = absurd cc
set_user-named c (setting.MaxConcurrency x) h = absurd cc
set_user-named c (setting.RuntimeCap x) h = refl
set_user-named c (setting.Cascade x) h = absurd cc
set_user-named c (setting.ResourcePool x) h = refl
set_user-named c (setting.MemoryCap x) h = refl

-- what is set is named
set-names : (st : Statement) (x : Setting) (t : Token) (p : Parameter) → parameter_of st t ≡ Some p → p ≡ parameter_named x → names_any (set st x) ≡ true
set-names (statement.CreatePool n c) x t p is same =
    found-any (λ q. is_key t (parameter_text q)) (λ q. is_named_pool q (set_pool c x)) pool_parameters p
    (ap (λ q. is_named_pool q (set_pool c x)) same ∙ set_pool-named c x (ap is_of_pool (sym same) ∙ found-all (λ q. is_key t (parameter_text q)) is_of_pool pool_parameters p refl is)) is
set-names (statement.AlterPool n c) x t p is same =
    found-any (λ q. is_key t (parameter_text q)) (λ q. is_named_pool q (set_pool c x)) pool_parameters p
    (ap (λ q. is_named_pool q (set_pool c x)) same ∙ set_pool-named c x (ap is_of_pool (sym same) ∙ found-all (λ q. is_key t (parameter_text q)) is_of_pool pool_parameters p refl is)) is
set-names (statement.CreateUser n c) x t p is same =
    found-any (λ q. is_key t (parameter_text q)) (λ q. is_named_user q (set_user c x)) user_parameters p
    (ap (λ q. is_named_user q (set_user c x)) same ∙ set_user-named c x (ap is_of_user (sym same) ∙ found-all (λ q. is_key t (parameter_text q)) is_of_user user_parameters p refl is)) is
set-names (statement.AlterUser n c) x t p is same =
    found-any (λ q. is_key t (parameter_text q)) (λ q. is_named_user q (set_user c x)) user_parameters p
    (ap (λ q. is_named_user q (set_user c x)) same ∙ set_user-named c x (ap is_of_user (sym same) ∙ found-all (λ q. is_key t (parameter_text q)) is_of_user user_parameters p refl is)) is
set-names (statement.DropPool a) x t p is same = absurd cc
set-names (statement.DropUser a) x t p is same = absurd cc
set-names (statement.CreateRole a) x t p is same = absurd cc
set-names (statement.AlterRole a b) x t p is same = absurd cc
set-names (statement.DropRole a) x t p is same = absurd cc
set-names (statement.GrantUsage a b) x t p is same = absurd cc
set-names (statement.RevokeUsage a b) x t p is same = absurd cc
set-names (statement.GrantRole a b) x t p is same = absurd cc
set-names (statement.RevokeRole a b) x t p is same = absurd cc

abbrev is_alter : Statement → Bool
is_alter (statement.AlterPool n c) = true
is_alter (statement.AlterUser n c) = true
is_alter _ = false

whole-names : (b : Bool) (st : Statement) (ts : List Token) → b ≡ true → is_alter st ≡ true → IsBody b st ts → names_any st ≡ true
whole-names _ _ _ whole alter (named b st ts t p x vs body is fresh value) = set-names st x t p is (value-right p x vs value).0
whole-names _ _ _ whole alter (alter_pool n) = absurd (true_false (sym whole))
whole-names _ _ _ whole alter (alter_user n) = absurd (true_false (sym whole))
whole-names _ _ _ whole alter (create_pool n) = absurd (true_false (sym alter))
whole-names _ _ _ whole alter (create_user n) = absurd (true_false (sym alter))
whole-names _ _ _ whole alter (drop_pool n) = absurd (true_false (sym alter))
whole-names _ _ _ whole alter (drop_user n) = absurd (true_false (sym alter))
whole-names _ _ _ whole alter (create_role n) = absurd (true_false (sym alter))
whole-names _ _ _ whole alter (alter_role n pool t is) = absurd (true_false (sym alter))
whole-names _ _ _ whole alter (drop_role n) = absurd (true_false (sym alter))
whole-names _ _ _ whole alter (grant_usage p n) = absurd (true_false (sym alter))
whole-names _ _ _ whole alter (revoke_usage p n) = absurd (true_false (sym alter))
whole-names _ _ _ whole alter (grant_role r u) = absurd (true_false (sym alter))
whole-names _ _ _ whole alter (revoke_role r u) = absurd (true_false (sym alter))

whole-well_formed : (st : Statement) (ts : List Token) → IsBody true st ts → IsWellFormed st
whole-well_formed (statement.CreatePool n c) ts body = body-right true _ ts body
whole-well_formed (statement.AlterPool n c) ts body = (body-right true _ ts body, whole-names true _ ts refl refl body)
whole-well_formed (statement.CreateUser n c) ts body = body-right true _ ts body
whole-well_formed (statement.AlterUser n c) ts body = (body-right true _ ts body, whole-names true _ ts refl refl body)
whole-well_formed (statement.DropPool n) ts body = tt
whole-well_formed (statement.DropUser n) ts body = tt
whole-well_formed (statement.CreateRole n) ts body = tt
whole-well_formed (statement.AlterRole n pool) ts body = tt
whole-well_formed (statement.DropRole n) ts body = tt
whole-well_formed (statement.GrantUsage p n) ts body = tt
whole-well_formed (statement.RevokeUsage p n) ts body = tt
whole-well_formed (statement.GrantRole r u) ts body = tt
whole-well_formed (statement.RevokeRole r u) ts body = tt

pub spelled-well_formed : (ts : List Token) (st : Statement) → Spells ts st → IsWellFormed st
spelled-well_formed _ _ (bare st ts body) = whole-well_formed st ts body
spelled-well_formed _ _ (ended st ts body) = whole-well_formed st ts body
