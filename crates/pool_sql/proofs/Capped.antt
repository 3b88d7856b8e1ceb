-- a step reads a number as a program tells it
use Rattle.std.proofs.Common.{◌≡◌, ℕ, false, if◌then◌else◌, None, Result, Ok, Err, List, [], ◌∷◌, refl, sym, ◌∙◌, ap}
use Rattle.rm_base.specs.declared.refusal.Parameter.{Parameter}
use Rattle.rm_base.specs.declared.refusal.Parameter.TheVariants as parameter
use Rattle.rm_base.specs.declared.statement.Statement.{Statement}
use Rattle.rm_words.specs.Token.{Token, Bare, Number, Quoted, Sign}
use Rattle.pool_sql.specs.declared.progress.Progress.{Progress}
use Rattle.pool_sql.specs.declared.progress.Progress.TheVariants.{Start, Verbed, OfResource, NameDue, Given, Usage, UsageOn, UsageResource, UsagePool, UsageOf, UsageTo, RoleOf, RoleTo, RoleNamed, RoleResource, RolePool, Part, CascadeTo, UserPool, ValueDue, MinusRead, Ended}
use Rattle.pool_sql.specs.declared.setting.Setting.{Setting}
use Rattle.pool_sql.specs.declared.setting.Setting.TheVariants as setting
use Rattle.pool_sql.specs.declared.stop.Stop.{Stop}
use Rattle.pool_sql.specs.Value.{value_of}
use Rattle.pool_sql.specs.Machine.{Stepped, is_minus, on_negative, on_parameter, on_value, step}
use Rattle.std.proofs.Common.{min, pos, nat_abs, neg_ℤ, lit<, lit≤}
use Rattle.rm_base.specs.declared.limits.TheConstants.{CONCURRENCY_MOST, PRIORITY_MOST, SECOND_MS, SPAN_MOST, THRESHOLD_SECONDS_MOST}
use Rattle.rm_words.specs.Token.{capped, most}
use Rattle.rm_base.specs.WellFormed.{parameters}
use Rattle.pool_sql.specs.Parameter.{parameter_among}
use Rattle.pool_sql.specs.Value.{as_setting, optional, signed, taken}
use Rattle.pool_sql.proofs.Amounts.{within-capped, within-capped_one}

value-capped : (p : Parameter) (n : ℕ) → value_of p (Number (min n most)) ≡ value_of p (Number n)
value-capped parameter.MemorySize n = refl
value-capped parameter.MaxMemorySize n = refl
value-capped parameter.MaxQueryMemorySize n = refl
value-capped parameter.ExecutionParallelism n = ap (λ r. as_setting (λ x. setting.ExecutionParallelism x) (optional parameter.ExecutionParallelism false r)) (within-capped_one 1 CONCURRENCY_MOST n most (lit< tt))
value-capped parameter.Priority n = ap (λ r. as_setting (λ x. setting.Priority x) (signed parameter.Priority pos r)) (within-capped_one 0 (nat_abs PRIORITY_MOST) n most (lit< tt))
value-capped parameter.RuntimePriority n = refl
value-capped parameter.RuntimePriorityThreshold n = ap (λ r. as_setting (λ x. setting.RuntimePriorityThreshold x) (taken parameter.RuntimePriorityThreshold r)) (within-capped_one 0 THRESHOLD_SECONDS_MOST n most (lit< tt))
value-capped parameter.QueueTimeout n = ap (λ r. as_setting (λ x. setting.QueueTimeout x) (optional parameter.QueueTimeout false r)) (within-capped 0 SPAN_MOST n SECOND_MS most (lit≤ tt) (lit< tt))
value-capped parameter.PlannedConcurrency n = ap (λ r. as_setting (λ x. setting.PlannedConcurrency x) (optional parameter.PlannedConcurrency false r)) (within-capped_one 1 CONCURRENCY_MOST n most (lit< tt))
value-capped parameter.MaxConcurrency n = ap (λ r. as_setting (λ x. setting.MaxConcurrency x) (optional parameter.MaxConcurrency false r)) (within-capped_one 1 CONCURRENCY_MOST n most (lit< tt))
value-capped parameter.RuntimeCap n = refl
value-capped parameter.Cascade n = refl
value-capped parameter.ResourcePool n = refl
value-capped parameter.MemoryCap n = refl

minus-capped : (p : Parameter) (m n : ℕ) → is_minus p (Number m) ≡ is_minus p (Number n)
minus-capped parameter.MemorySize m n = refl
minus-capped parameter.MaxMemorySize m n = refl
minus-capped parameter.MaxQueryMemorySize m n = refl
minus-capped parameter.ExecutionParallelism m n = refl
minus-capped parameter.Priority m n = refl
minus-capped parameter.RuntimePriority m n = refl
minus-capped parameter.RuntimePriorityThreshold m n = refl
minus-capped parameter.QueueTimeout m n = refl
minus-capped parameter.PlannedConcurrency m n = refl
minus-capped parameter.MaxConcurrency m n = refl
minus-capped parameter.RuntimeCap m n = refl
minus-capped parameter.Cascade m n = refl
minus-capped parameter.ResourcePool m n = refl
minus-capped parameter.MemoryCap m n = refl

number_names_none : (n : ℕ) (ps : List Parameter) → parameter_among ps (Number n) ≡ None
number_names_none n [] = refl
number_names_none n (p ∷ ps) = number_names_none n ps

value_due-capped : (st : Statement) (p : Parameter) (m n : ℕ) (r : Result Setting Stop) → on_value st p (Number m) r ≡ on_value st p (Number n) r
value_due-capped st p m n (Ok x) = refl
value_due-capped st p m n (Err why) = ap (λ b. let r : Stepped = if b then Ok (MinusRead st) else Err why in r) (minus-capped p m n)

number-capped : (p : Progress) (n : ℕ) → step p (Number (min n most)) ≡ step p (Number n)
number-capped Start n = refl
number-capped (Verbed v) n = refl
number-capped (OfResource v) n = refl
number-capped (NameDue v k) n = refl
number-capped (Given g) n = refl
number-capped (Usage g) n = refl
number-capped (UsageOn g) n = refl
number-capped (UsageResource g) n = refl
number-capped (UsagePool g) n = refl
number-capped (UsageOf g p) n = refl
number-capped (UsageTo g p) n = refl
number-capped (RoleOf g r) n = refl
number-capped (RoleTo g r) n = refl
number-capped (RoleNamed m) n = refl
number-capped (RoleResource m) n = refl
number-capped (RolePool m) n = refl
number-capped (Part b st) n =
    ap (λ o. on_parameter b st (Number (min n most)) o) (number_names_none (min n most) (parameters st))
    ∙ sym (ap (λ o. on_parameter b st (Number n) o) (number_names_none n (parameters st)))
number-capped (CascadeTo st) n = refl
number-capped (UserPool st) n = refl
number-capped (ValueDue st p) n =
    ap (λ r. on_value st p (Number (min n most)) r) (value-capped p n) ∙ value_due-capped st p (min n most) n (value_of p (Number n))
number-capped (MinusRead st) n =
    ap (λ r. on_negative st (signed parameter.Priority (λ x. neg_ℤ (pos x)) r)) (within-capped_one 0 (nat_abs PRIORITY_MOST) n most (lit< tt))
number-capped (Ended st) n = refl

pub step-capped : (p : Progress) (t : Token) → step p (capped t) ≡ step p t
step-capped p (Bare word) = refl
step-capped p (Number n) = number-capped p n
step-capped p (Quoted text) = refl
step-capped p (Sign s) = refl
