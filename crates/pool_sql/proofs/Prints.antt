-- a right statement's printed text is spelled as it
use Rattle.std.proofs.Common.{◌≡◌, ℕ, ℤ, suc, pos, negsuc, nat_abs, neg_ℤ, ◌+◌, ◌*◌, ◌/◌, ◌<◌, ◌^◌, nat_le, Bool, true, false, ◌&&◌, ◌==◌, if◌then◌else◌, inl, inr, Option, Some, None, IfSome, option_map, Result, Ok, Err, List, [], ◌∷◌, ◌++◌, length, take, drop, refl, sym, ◌∙◌, ap, subst, arith, lit<, codes, append_assoc, append-nil}
use Rattle.std.specs.Char.{digit_value}
use Rattle.std.specs.Int.{IsInRange}
use Rattle.std.specs.Fmt.{decimal}
use Rattle.std.specs.Str.Parse.{AllDigits, digits_value}
use Rattle.std.proofs.Math.Nat.{mul-div_cancel}
use Rattle.std.proofs.lemmas.Bool.{le-leb, ne_eqb, or_cases}
use Rattle.std.proofs.lemmas.Bool.Decides.{nat_tests}
use Rattle.std.proofs.lemmas.Fmt.{decimal_is_IsNumeral}
use Rattle.std.proofs.Math.Seq.{take-append_seam}
use Rattle.rm_base.specs.declared.limits.TheConstants.{CONCURRENCY_MOST, KIBI, MEMORY_MOST, PERCENT_MOST, PRIORITY_MOST, SPAN_MOST, THRESHOLD_SECONDS_MOST}
use Rattle.rm_base.specs.declared.name.Name.{Name}
use Rattle.rm_base.specs.declared.refusal.Parameter.{Parameter}
use Rattle.rm_base.specs.declared.refusal.Parameter.TheVariants as parameter
use Rattle.rm_base.specs.declared.statement.Level.{Level}
use Rattle.rm_base.specs.declared.statement.Level.TheVariants.{Low, Medium, High}
use Rattle.rm_base.specs.declared.statement.PoolChange.{PoolChange}
use Rattle.rm_base.specs.declared.statement.UserChange.{UserChange}
use Rattle.rm_base.specs.declared.statement.Size.{Size}
use Rattle.rm_base.specs.declared.statement.Size.TheVariants.{Bytes, Percent}
use Rattle.rm_base.specs.declared.statement.Statement.{Statement}
use Rattle.rm_base.specs.declared.statement.Statement.TheVariants as statement
use Rattle.rm_base.specs.Name.{name_text}
use Rattle.rm_base.specs.RefusalText.{parameter_text}
use Rattle.rm_words.specs.declared.token.Symbol.TheVariants.{Minus}
use Rattle.rm_words.specs.Class.{class_of}
use Rattle.rm_words.specs.Word.{is_digit}
use Rattle.rm_words.specs.Cut.{joined}
use Rattle.rm_words.specs.Token.{Token, Number, Quoted, Sign, Says, doubled, folded, is_key}
use Rattle.rm_words.proofs.Printing.{number_says, quoted_says}
use Rattle.pool_sql.specs.declared.shown.Value.{Value}
use Rattle.pool_sql.specs.declared.shown.Value.TheVariants as value
use Rattle.pool_sql.specs.declared.setting.Setting.{Setting}
use Rattle.pool_sql.specs.declared.setting.Setting.TheVariants as setting
use Rattle.pool_sql.specs.declared.stop.Fault.TheVariants.{Form, Outside}
use Rattle.pool_sql.specs.declared.stop.Stop.{Stop}
use Rattle.pool_sql.specs.Amount.{bytes, digit_count, front_number, number_between, percent, size_in, size_of, span_in, span_of, behind_digits, within}
use Rattle.pool_sql.specs.Grammar.{IsBody, create_pool, alter_pool, drop_pool, create_user, alter_user, drop_user, create_role, alter_role, drop_role, grant_usage, revoke_usage, grant_role, revoke_role, named, IsValue, one, minus, bare, more_keys}
use Rattle.rm_words.specs.Names.{key, name, name_called, name_of}
use Rattle.rm_base.specs.WellFormed.{IsBetween, IsOptionalBetween, IsOptionalSize, IsPriority, IsRightPool, IsRightUser, IsSize, IsWellFormed, is_named, is_named_pool, is_named_user, pool_parameters, user_parameters}
use Rattle.pool_sql.specs.Parameter.{parameter_among, parameter_of}
use Rattle.pool_sql.specs.Printed.{keys_text, parameter_named, pool_settings, priority_value, setting_text, settings_text, statement_text, user_settings, value_in, value_or, value_text}
use Rattle.pool_sql.specs.Setting.{no_pool_change, no_user_change, set, set_pool, set_user}
use Rattle.pool_sql.specs.Text.{SpellsText}
use Rattle.pool_sql.specs.Value.{as_setting, is_default, is_none, optional, optional_name, signed, some_name, taken, value_of}
use Rattle.rm_words.proofs.Keys.{is_key-eq}
use Rattle.rm_words.proofs.NameLemmas.{name_called-none, name_called-text}
use Rattle.pool_sql.proofs.Rights.{IsRightValue}
use Rattle.pool_sql.proofs.Texts.{said-spells}
use Rattle.rm_words.proofs.Saying.{AllSay, AllSay-append, name-says}
use Rattle.pool_sql.proofs.Results.{true_false}
use Rattle.rm_words.proofs.Results.{none_some}

-- words behind a first one, each behind a blank
abbrev pub spaced : List (List ℕ) → List ℕ
spaced [] = []
spaced (w ∷ ws) = 32 ∷ (w ++ spaced ws)

spaced-append : (ws us : List (List ℕ)) → spaced (ws ++ us) ≡ spaced ws ++ spaced us
spaced-append [] us = refl
spaced-append (w ∷ ws) us = ap (λ l. 32 ∷ l) (ap (λ l. w ++ l) (spaced-append ws us) ∙ sym (append_assoc w (spaced ws) (spaced us)))

joined-spaced : (w : List ℕ) (ws : List (List ℕ)) → joined (w ∷ ws) ≡ w ++ spaced ws
joined-spaced w [] = sym (append-nil w)
joined-spaced w (v ∷ vs) = ap (λ l. w ++ 32 ∷ l) (joined-spaced v vs)

-- digits
digit_small : (c : ℕ) → digit_value c < 10 → IsInRange 48 57 c
digit_small c h = grind (arith, nat_tests)

range_digit : (c : ℕ) → IsInRange 48 57 c → is_digit (class_of c) ≡ true
range_digit c h = grind (arith, nat_tests)

range_quote : (c : ℕ) → IsInRange 48 57 c → (c == 39) ≡ false
range_quote c h = grind (arith, nat_tests)

plus_one : (n : ℕ) → n + 1 ≡ suc n
plus_one n = omega arith

digit_count-front : (ds : List ℕ) (c : ℕ) (cs : List ℕ) → AllDigits 10 ds → is_digit (class_of c) ≡ false → digit_count (ds ++ c ∷ cs) ≡ length ds
digit_count-front [] c cs all other = ap (λ b. if b then digit_count cs + 1 else 0) other
digit_count-front (d ∷ ds) c cs all other =
    ap (λ b. if b then digit_count (ds ++ c ∷ cs) + 1 else 0) (range_digit d (digit_small d all.0))
    ∙ plus_one (digit_count (ds ++ c ∷ cs)) ∙ ap (λ n. suc n) (digit_count-front ds c cs all.1 other)

drop-append_seam : (xs ys : List ℕ) → drop (length xs) (xs ++ ys) ≡ ys
drop-append_seam [] ys = refl
drop-append_seam (x ∷ xs) ys = drop-append_seam xs ys

doubled-digits : (ds us : List ℕ) → AllDigits 10 ds → doubled us ≡ us → doubled (ds ++ us) ≡ ds ++ us
doubled-digits [] us all plain = plain
doubled-digits (d ∷ ds) us all plain =
    ap (λ b. if b then 39 ∷ 39 ∷ doubled (ds ++ us) else d ∷ doubled (ds ++ us)) (range_quote d (digit_small d all.0))
    ∙ ap (λ l. d ∷ l) (doubled-digits ds us all.1 plain)

-- a number and a unit between quotes
amount-says : (n : ℕ) (unit : List ℕ) → n < 2 ^ 64 → doubled unit ≡ unit → Says (codes "'" ++ (decimal n ++ (unit ++ codes "'"))) (Quoted (decimal n ++ unit))
amount-says n unit small plain =
    let all = (decimal_is_IsNumeral n small).0.1 in
    let text : List ℕ = decimal n ++ unit in
    let same : doubled text ≡ text = doubled-digits (decimal n) unit all plain in
    let says : Says (39 ∷ (text ++ 39 ∷ [])) (Quoted text) =
    subst (λ l. Says (39 ∷ (l ++ 39 ∷ [])) (Quoted l)) same (quoted_says text) in
    subst (λ l. Says (39 ∷ l) (Quoted text)) (append_assoc (decimal n) unit (39 ∷ [])) says

-- what the number and the unit are read as
amount-read : {R : Type 0} (f : ℕ → List ℕ → R) (none : R) (n : ℕ) (c : ℕ) (cs : List ℕ) → n < 2 ^ 64 → is_digit (class_of c) ≡ false
    → (let text : List ℕ = decimal n ++ c ∷ cs in (if digit_count text == 0 then none else f (front_number text) (behind_digits text)) ≡ f n (c ∷ cs))
amount-read f none n c cs small other =
    let numeral = decimal_is_IsNumeral n small in
    let text : List ℕ = decimal n ++ c ∷ cs in
    let count : digit_count text ≡ length (decimal n) = digit_count-front (decimal n) c cs numeral.0.1 other in
    let some : digit_count text ≡ 0 → ⊥ = λ e. omega (arith, numeral.0.0) in
    ap (λ b. if b then none else f (front_number text) (behind_digits text)) (ne_eqb (digit_count text) 0 some)
    ∙ ap (λ k. f (digits_value 10 (take k text)) (drop k text)) count
    ∙ ap (λ l. f (digits_value 10 l) (drop (length (decimal n)) text)) (take-append_seam (decimal n) (c ∷ cs))
    ∙ ap (λ l. f (digits_value 10 (decimal n)) l) (drop-append_seam (decimal n) (c ∷ cs))
    ∙ ap (λ m. f m (c ∷ cs)) numeral.1

within-is : (least top n : ℕ) → IsBetween least top n → within least top n ≡ Ok n
within-is least top n h =
    ap (λ b. if b && nat_le n top then Ok n else Err Outside) (le-leb least n h.0)
    ∙ ap (λ b. if b then Ok n else Err Outside) (le-leb n top h.1)

-- what is printed of a value
record Said (p : Parameter) (x : Setting) (v : Value) : Type 0 where
  tokens : List Token
  words : List (List ℕ)
  is : IsValue p x tokens
  says : AllSay words tokens
  spaces : spaced words ≡ codes " " ++ value_text v

said_one : (p : Parameter) (x : Setting) (v : Value) (t : Token) → value_of p t ≡ Ok x → Says (value_text v) t → Said p x v
said_one p x v t is says = record {
  tokens = t ∷ [];
  words = value_text v ∷ [];
  is = one p x t is;
  says = (says, tt);
  spaces = ap (λ l. 32 ∷ l) (append-nil (value_text v));
}

-- a size is printed as a token that is read as it
record SizeSaid (s : Size) : Type 0 where
  token : Token
  reads : size_of token ≡ Ok s
  says : Says (value_text (value.OfSize s)) token
  is_quoted : (text : List ℕ) × (token ≡ Quoted text)

size-said : (s : Size) → IsSize s → SizeSaid s
size-said (Bytes n) h =
    let kibi : n / KIBI ≡ h.0 = ap (λ m. m / KIBI) h.1 ∙ mul-div_cancel h.0 (lit< tt) in
    let small : n / KIBI < 2 ^ 64 = omega (arith, h.1, h.2, kibi) in
    let whole : n / KIBI * KIBI ≡ n = ap (λ m. m * KIBI) kibi ∙ sym h.1 in
    record {
      token = Quoted (decimal (n / KIBI) ++ codes "K");
      reads =
          amount-read size_in (Err Form) (n / KIBI) 75 [] small refl
          ∙ ap bytes (ap (λ m. within 0 MEMORY_MOST m) whole ∙ within-is 0 MEMORY_MOST n (omega arith, h.2));
      says = amount-says (n / KIBI) (codes "K") small refl;
      is_quoted = (_, refl);
    }
size-said (Percent n) h =
    let small : n < 2 ^ 64 = omega (arith, h) in
    record {
      token = Quoted (decimal n ++ codes "%");
      reads = amount-read size_in (Err Form) n 37 [] small refl ∙ ap percent (within-is 0 PERCENT_MOST n (omega arith, h));
      says = amount-says n (codes "%") small refl;
      is_quoted = (_, refl);
    }

span-read : (least n : ℕ) → IsBetween least SPAN_MOST n → n < 2 ^ 64 → span_of least (Quoted (decimal n ++ codes " ms")) ≡ Ok n
span-read least n h small =
    amount-read (span_in least) (Err Form) n 32 (codes "ms") small refl
    ∙ ap (λ m. within least SPAN_MOST m) (times_one n) ∙ within-is least SPAN_MOST n h
  where
    times_one : (n : ℕ) → n * 1 ≡ n
    times_one n = omega arith

span-says : (n : ℕ) → n < 2 ^ 64 → Says (value_text (value.Span n)) (Quoted (decimal n ++ codes " ms"))
span-says n small = amount-says n (codes " ms") small refl

absent-says : Says (codes "NONE") (key (codes "NONE"))
absent-says = record { word = refl; token = refl }

auto-says : Says (codes "AUTO") (key (codes "AUTO"))
auto-says = record { word = refl; token = refl }

number-said : (p : Parameter) (x : Setting) (n : ℕ) → value_of p (Number n) ≡ Ok x → n < 2 ^ 64 → Said p x (value.Number n)
number-said p x n is small = said_one p x (value.Number n) (Number n) is (number_says n small)

absent-said : (p : Parameter) (x : Setting) → value_of p (key (codes "NONE")) ≡ Ok x → Said p x value.Absent
absent-said p x is = said_one p x value.Absent (key (codes "NONE")) is absent-says

auto-said : (p : Parameter) (x : Setting) → value_of p (key (codes "AUTO")) ≡ Ok x → Said p x value.Auto
auto-said p x is = said_one p x value.Auto (key (codes "AUTO")) is auto-says

level-said : (level : Level) → Said parameter.RuntimePriority (setting.RuntimePriority level) (value.OfLevel level)
level-said Low = said_one parameter.RuntimePriority _ (value.OfLevel Low) (key (codes "LOW")) refl (record { word = refl; token = refl })
level-said Medium = said_one parameter.RuntimePriority _ (value.OfLevel Medium) (key (codes "MEDIUM")) refl (record { word = refl; token = refl })
level-said High = said_one parameter.RuntimePriority _ (value.OfLevel High) (key (codes "HIGH")) refl (record { word = refl; token = refl })

priority-said : (z : ℤ) → IsPriority z → Said parameter.Priority (setting.Priority z) (priority_value z)
priority-said (pos n) h =
    number-said parameter.Priority (setting.Priority (pos n)) n
    (ap (λ r. as_setting (λ y. setting.Priority y) (signed parameter.Priority pos r)) (within-is 0 (nat_abs PRIORITY_MOST) n (omega arith, h)))
    (omega (arith, h))
priority-said (negsuc n) h = record {
  tokens = Sign Minus ∷ Number (n + 1) ∷ [];
  words = codes "-" ∷ decimal (n + 1) ∷ [];
  is = minus (negsuc n) (Number (n + 1))
      (ap (λ r. signed parameter.Priority (λ m. neg_ℤ (pos m)) r) (within-is 0 (nat_abs PRIORITY_MOST) (n + 1) (omega arith, h))
      ∙ ap (λ m. let r : Result ℤ Stop = Ok (neg_ℤ (pos m)) in r) (plus_one n));
  says = (record { word = refl; token = refl }, (number_says (n + 1) (omega (arith, h)), tt));
  spaces = ap (λ l. codes " - " ++ l) (append-nil (decimal (n + 1)));
}

-- the words for none are no names
reserved-no_name : (n : Name) (text : List ℕ) → name_called (folded text) ≡ None → is_key (name n) text ≡ true → ⊥
reserved-no_name n text none is =
    let same = is_key-eq (name n) text is in
    none_some n (sym none ∙ ap name_of (sym same) ∙ name_called-text n)

none-no_name : (n : Name) → is_none (name n) ≡ true → ⊥
none-no_name n h = elim (or_cases (is_key (name n) (codes "NONE")) (is_default (name n)) h) [
  | inl e ↦ reserved-no_name n (codes "NONE") (name_called-none (codes "none") refl) e
  | inr e ↦ reserved-no_name n (codes "DEFAULT") (name_called-none (codes "default") refl) e
]

not_none : (n : Name) (b : Bool) → is_none (name n) ≡ b → optional_name (name n) ≡ Ok (Some n)
not_none n true is = absurd (none-no_name n is)
not_none n false is =
    ap (λ b. if b then Ok None else some_name (name_of (name n))) is ∙ ap some_name (name_called-text n)

name-said : (p : Parameter) (variant : Option Name → Setting) (n : Name) → ((t : Token) → value_of p t ≡ as_setting variant (optional_name t))
    → Said p (variant (Some n)) (value.OfName n)
name-said p variant n reads =
    said_one p (variant (Some n)) (value.OfName n) (name n)
    (reads (name n) ∙ ap (as_setting variant) (not_none n (is_none (name n)) refl)) (name-says n)

size-value : (p : Parameter) (variant : Option Size → Setting) (s : Size) → IsSize s
    → ((text : List ℕ) → value_of p (Quoted text) ≡ as_setting variant (optional p false (size_of (Quoted text))))
    → Said p (variant (Some s)) (value.OfSize s)
size-value p variant s h reads =
    let said = size-said s h in
    said_one p (variant (Some s)) (value.OfSize s) said.token
    (ap (value_of p) said.is_quoted.1 ∙ reads said.is_quoted.0
    ∙ ap (λ r. as_setting variant (optional p false r)) (ap size_of (sym said.is_quoted.1) ∙ said.reads))
    said.says

span-value : (p : Parameter) (variant : Option ℕ → Setting) (least n : ℕ) → IsBetween least SPAN_MOST n
    → ((text : List ℕ) → value_of p (Quoted text) ≡ as_setting variant (optional p false (span_of least (Quoted text))))
    → Said p (variant (Some n)) (value.Span n)
span-value p variant least n h reads =
    let small : n < 2 ^ 64 = omega (arith, h.1) in
    said_one p (variant (Some n)) (value.Span n) (Quoted (decimal n ++ codes " ms"))
    (reads (decimal n ++ codes " ms") ∙ ap (λ r. as_setting variant (optional p false r)) (span-read least n h small))
    (span-says n small)

number-value : (p : Parameter) (variant : Option ℕ → Setting) (n : ℕ) → IsBetween 1 CONCURRENCY_MOST n
    → value_of p (Number n) ≡ as_setting variant (optional p false (number_between 1 CONCURRENCY_MOST (Number n)))
    → Said p (variant (Some n)) (value.Number n)
number-value p variant n h reads =
    number-said p (variant (Some n)) n
    (reads ∙ ap (λ r. as_setting variant (optional p false r)) (within-is 1 CONCURRENCY_MOST n h)) (omega (arith, h.1))

-- each right value is printed
value-said : (x : Setting) → IsRightValue x → Said (parameter_named x) x (value_in x)
value-said (setting.MemorySize s) h =
    let said = size-said s h in
    said_one parameter.MemorySize (setting.MemorySize s) (value.OfSize s) said.token
    (ap (value_of parameter.MemorySize) said.is_quoted.1
    ∙ ap (λ r. as_setting (λ y. setting.MemorySize y) (taken parameter.MemorySize r)) (ap size_of (sym said.is_quoted.1) ∙ said.reads))
    said.says
value-said (setting.MaxMemorySize None) h = absent-said parameter.MaxMemorySize (setting.MaxMemorySize None) refl
value-said (setting.MaxMemorySize (Some s)) h = size-value parameter.MaxMemorySize (λ y. setting.MaxMemorySize y) s h (λ text. refl)
value-said (setting.MaxQueryMemorySize None) h = absent-said parameter.MaxQueryMemorySize (setting.MaxQueryMemorySize None) refl
value-said (setting.MaxQueryMemorySize (Some s)) h = size-value parameter.MaxQueryMemorySize (λ y. setting.MaxQueryMemorySize y) s h (λ text. refl)
value-said (setting.MemoryCap None) h = absent-said parameter.MemoryCap (setting.MemoryCap None) refl
value-said (setting.MemoryCap (Some s)) h = size-value parameter.MemoryCap (λ y. setting.MemoryCap y) s h (λ text. refl)
value-said (setting.ExecutionParallelism None) h = auto-said parameter.ExecutionParallelism (setting.ExecutionParallelism None) refl
value-said (setting.ExecutionParallelism (Some n)) h = number-value parameter.ExecutionParallelism (λ y. setting.ExecutionParallelism y) n h refl
value-said (setting.PlannedConcurrency None) h = auto-said parameter.PlannedConcurrency (setting.PlannedConcurrency None) refl
value-said (setting.PlannedConcurrency (Some n)) h = number-value parameter.PlannedConcurrency (λ y. setting.PlannedConcurrency y) n h refl
value-said (setting.MaxConcurrency None) h = absent-said parameter.MaxConcurrency (setting.MaxConcurrency None) refl
value-said (setting.MaxConcurrency (Some n)) h = number-value parameter.MaxConcurrency (λ y. setting.MaxConcurrency y) n h refl
value-said (setting.Priority z) h = priority-said z h
value-said (setting.RuntimePriority level) h = level-said level
value-said (setting.RuntimePriorityThreshold n) h =
    number-said parameter.RuntimePriorityThreshold (setting.RuntimePriorityThreshold n) n
    (ap (λ r. as_setting (λ y. setting.RuntimePriorityThreshold y) (taken parameter.RuntimePriorityThreshold r)) (within-is 0 THRESHOLD_SECONDS_MOST n h))
    (omega (arith, h.1))
value-said (setting.QueueTimeout None) h = absent-said parameter.QueueTimeout (setting.QueueTimeout None) refl
value-said (setting.QueueTimeout (Some n)) h = span-value parameter.QueueTimeout (λ y. setting.QueueTimeout y) 0 n h (λ text. refl)
value-said (setting.RuntimeCap None) h = absent-said parameter.RuntimeCap (setting.RuntimeCap None) refl
value-said (setting.RuntimeCap (Some n)) h = span-value parameter.RuntimeCap (λ y. setting.RuntimeCap y) 1 n h (λ text. refl)
value-said (setting.Cascade None) h = absent-said parameter.Cascade (setting.Cascade None) refl
value-said (setting.Cascade (Some n)) h = name-said parameter.Cascade (λ y. setting.Cascade y) n (λ t. refl)
value-said (setting.ResourcePool None) h = absent-said parameter.ResourcePool (setting.ResourcePool None) refl
value-said (setting.ResourcePool (Some n)) h = name-said parameter.ResourcePool (λ y. setting.ResourcePool y) n (λ t. refl)

-- the key words of a parameter
record KeysSaid (p : Parameter) : Type 0 where
  words : List (List ℕ)
  says : AllSay words (key (parameter_text p) ∷ more_keys p)
  spaces : spaced words ≡ codes " " ++ keys_text p

keys-said : (p : Parameter) → KeysSaid p
keys-said parameter.MemorySize = record { words = parameter_text parameter.MemorySize ∷ []; says = (record { word = refl; token = refl }, tt); spaces = refl }
keys-said parameter.MaxMemorySize = record { words = parameter_text parameter.MaxMemorySize ∷ []; says = (record { word = refl; token = refl }, tt); spaces = refl }
keys-said parameter.MaxQueryMemorySize = record { words = parameter_text parameter.MaxQueryMemorySize ∷ []; says = (record { word = refl; token = refl }, tt); spaces = refl }
keys-said parameter.ExecutionParallelism = record { words = parameter_text parameter.ExecutionParallelism ∷ []; says = (record { word = refl; token = refl }, tt); spaces = refl }
keys-said parameter.Priority = record { words = parameter_text parameter.Priority ∷ []; says = (record { word = refl; token = refl }, tt); spaces = refl }
keys-said parameter.RuntimePriority = record { words = parameter_text parameter.RuntimePriority ∷ []; says = (record { word = refl; token = refl }, tt); spaces = refl }
keys-said parameter.RuntimePriorityThreshold = record { words = parameter_text parameter.RuntimePriorityThreshold ∷ []; says = (record { word = refl; token = refl }, tt); spaces = refl }
keys-said parameter.QueueTimeout = record { words = parameter_text parameter.QueueTimeout ∷ []; says = (record { word = refl; token = refl }, tt); spaces = refl }
keys-said parameter.PlannedConcurrency = record { words = parameter_text parameter.PlannedConcurrency ∷ []; says = (record { word = refl; token = refl }, tt); spaces = refl }
keys-said parameter.MaxConcurrency = record { words = parameter_text parameter.MaxConcurrency ∷ []; says = (record { word = refl; token = refl }, tt); spaces = refl }
keys-said parameter.RuntimeCap = record { words = parameter_text parameter.RuntimeCap ∷ []; says = (record { word = refl; token = refl }, tt); spaces = refl }
keys-said parameter.Cascade = record {
  words = codes "CASCADE" ∷ codes "TO" ∷ [];
  says = (record { word = refl; token = refl }, (record { word = refl; token = refl }, tt));
  spaces = refl;
}
keys-said parameter.ResourcePool = record {
  words = codes "RESOURCE" ∷ codes "POOL" ∷ [];
  says = (record { word = refl; token = refl }, (record { word = refl; token = refl }, tt));
  spaces = refl;
}
keys-said parameter.MemoryCap = record { words = parameter_text parameter.MemoryCap ∷ []; says = (record { word = refl; token = refl }, tt); spaces = refl }

-- a body that is printed as this text: its first word, and the others
record Prints (st : Statement) (text : List ℕ) : Type 0 where
  whole : Bool
  tokens : List Token
  first : List ℕ
  rest : List (List ℕ)
  body : IsBody whole st tokens
  says : AllSay (first ∷ rest) tokens
  spaces : first ++ spaced rest ≡ text

-- one parameter more is printed
grow : (st : Statement) (text : List ℕ) (x : Setting) → Prints st text → parameter_of st (key (parameter_text (parameter_named x))) ≡ Some (parameter_named x)
    → is_named (parameter_named x) st ≡ false → IsRightValue x → Prints (set st x) (text ++ setting_text x)
grow st text x prints takes fresh right =
    let p = parameter_named x in
    let said : Said p x (value_in x) = value-said x right in
    let keys : KeysSaid p = keys-said p in
    let words : List (List ℕ) = keys.words ++ said.words in
    record {
      whole = true;
      tokens = (prints.tokens ++ key (parameter_text p) ∷ more_keys p) ++ said.tokens;
      first = prints.first;
      rest = prints.rest ++ words;
      body = named prints.whole st prints.tokens (key (parameter_text p)) p x said.tokens prints.body takes fresh said.is;
      says =
          subst (λ l. AllSay (prints.first ∷ (prints.rest ++ words)) l) (sym (append_assoc prints.tokens (key (parameter_text p) ∷ more_keys p) said.tokens))
          (AllSay-append (prints.first ∷ prints.rest) words prints.tokens ((key (parameter_text p) ∷ more_keys p) ++ said.tokens) prints.says
          (AllSay-append keys.words said.words (key (parameter_text p) ∷ more_keys p) said.tokens keys.says said.says));
      spaces =
          ap (λ l. prints.first ++ l) (spaced-append prints.rest words)
          ∙ sym (append_assoc prints.first (spaced prints.rest) (spaced words))
          ∙ ap (λ l. l ++ spaced words) prints.spaces
          ∙ ap (λ l. text ++ l) (spaced-append keys.words said.words ∙ ap (λ l. l ++ spaced said.words) keys.spaces
          ∙ ap (λ l. (codes " " ++ keys_text p) ++ l) said.spaces);
    }

-- a parameter that may be named
maybe_text : Option Setting → List ℕ → List ℕ
maybe_text None text = text
maybe_text (Some x) text = text ++ setting_text x

grow_if : {T : Type 0} (to : Option T → Statement) (f : T → Setting) (P : T → Type 0) (o : Option T) (text : List ℕ)
    → ((x : T) → set (to None) (f x) ≡ to (Some x))
    → ((x : T) → parameter_of (to None) (key (parameter_text (parameter_named (f x)))) ≡ Some (parameter_named (f x)))
    → ((x : T) → is_named (parameter_named (f x)) (to None) ≡ false)
    → ((x : T) → P x → IsRightValue (f x)) → IfSome o P → Prints (to None) text → Prints (to o) (maybe_text (option_map f o) text)
unfolding maybe_text
grow_if to f P None text sets takes fresh right h prints = prints
grow_if to f P (Some x) text sets takes fresh right h prints =
    subst (λ st. Prints st (text ++ setting_text (f x))) (sets x) (grow (to None) text (f x) prints (takes x) (fresh x) (right x h))

-- the settings behind a text, in their order
all_text : List (Option Setting) → List ℕ → List ℕ
all_text [] text = text
all_text (o ∷ os) text = all_text os (maybe_text o text)

all_text-settings : (os : List (Option Setting)) (text : List ℕ) → all_text os text ≡ text ++ settings_text os
unfolding all_text maybe_text
all_text-settings [] text = sym (append-nil text)
all_text-settings (None ∷ os) text = all_text-settings os text
all_text-settings (Some x ∷ os) text = all_text-settings os (text ++ setting_text x) ∙ append_assoc text (setting_text x) (settings_text os)

-- what makes a statement of a pool
record MakesPool (make : PoolChange → Statement) : Type 0 where
  sets : (c : PoolChange) (x : Setting) → set (make c) x ≡ make (set_pool c x)
  takes : (c : PoolChange) (t : Token) → parameter_of (make c) t ≡ parameter_among pool_parameters t
  names : (c : PoolChange) (p : Parameter) → is_named p (make c) ≡ is_named_pool p c

record MakesUser (make : UserChange → Statement) : Type 0 where
  sets : (c : UserChange) (x : Setting) → set (make c) x ≡ make (set_user c x)
  takes : (c : UserChange) (t : Token) → parameter_of (make c) t ≡ parameter_among user_parameters t
  names : (c : UserChange) (p : Parameter) → is_named p (make c) ≡ is_named_user p c

any_some : {T : Type 0} (o : Option T) → IfSome o (λ _. Unit {0})
any_some None = tt
any_some (Some x) = tt

-- a pool's parameters, one after the other
pool-prints : (make : PoolChange → Statement) (c : PoolChange) (text : List ℕ) → MakesPool make → IsRightPool c → Prints (make no_pool_change) text
    → Prints (make c) (text ++ settings_text (pool_settings c))
unfolding all_text
pool-prints make c text m h start =
    let text_memory : List ℕ = maybe_text (option_map (λ x. setting.MemorySize x) c.memory) text in
    let prints_memory : Prints (make (record no_pool_change { memory = c.memory })) text_memory =
    grow_if (λ o. make (record no_pool_change { memory = o })) (λ x. setting.MemorySize x) IsSize c.memory text
    (λ x. m.sets (record no_pool_change { memory = None }) (setting.MemorySize x)) (λ x. m.takes (record no_pool_change { memory = None }) (key (parameter_text parameter.MemorySize)))
    (λ x. m.names (record no_pool_change { memory = None }) parameter.MemorySize) (λ x right. right) h.memory start in
    let text_max : List ℕ = maybe_text (option_map (λ x. setting.MaxMemorySize x) c.max) text_memory in
    let prints_max : Prints (make (record no_pool_change { memory = c.memory; max = c.max })) text_max =
    grow_if (λ o. make (record no_pool_change { memory = c.memory; max = o })) (λ x. setting.MaxMemorySize x) IsOptionalSize c.max text_memory
    (λ x. m.sets (record no_pool_change { memory = c.memory; max = None }) (setting.MaxMemorySize x)) (λ x. m.takes (record no_pool_change { memory = c.memory; max = None }) (key (parameter_text parameter.MaxMemorySize)))
    (λ x. m.names (record no_pool_change { memory = c.memory; max = None }) parameter.MaxMemorySize) (λ x right. right) h.max prints_memory in
    let text_query_max : List ℕ = maybe_text (option_map (λ x. setting.MaxQueryMemorySize x) c.query_max) text_max in
    let prints_query_max : Prints (make (record no_pool_change { memory = c.memory; max = c.max; query_max = c.query_max })) text_query_max =
    grow_if (λ o. make (record no_pool_change { memory = c.memory; max = c.max; query_max = o })) (λ x. setting.MaxQueryMemorySize x) IsOptionalSize c.query_max text_max
    (λ x. m.sets (record no_pool_change { memory = c.memory; max = c.max; query_max = None }) (setting.MaxQueryMemorySize x)) (λ x. m.takes (record no_pool_change { memory = c.memory; max = c.max; query_max = None }) (key (parameter_text parameter.MaxQueryMemorySize)))
    (λ x. m.names (record no_pool_change { memory = c.memory; max = c.max; query_max = None }) parameter.MaxQueryMemorySize) (λ x right. right) h.query_max prints_max in
    let text_parallel : List ℕ = maybe_text (option_map (λ x. setting.ExecutionParallelism x) c.parallel) text_query_max in
    let prints_parallel : Prints (make (record no_pool_change { memory = c.memory; max = c.max; query_max = c.query_max; parallel = c.parallel })) text_parallel =
    grow_if (λ o. make (record no_pool_change { memory = c.memory; max = c.max; query_max = c.query_max; parallel = o })) (λ x. setting.ExecutionParallelism x) (IsOptionalBetween 1 CONCURRENCY_MOST) c.parallel text_query_max
    (λ x. m.sets (record no_pool_change { memory = c.memory; max = c.max; query_max = c.query_max; parallel = None }) (setting.ExecutionParallelism x)) (λ x. m.takes (record no_pool_change { memory = c.memory; max = c.max; query_max = c.query_max; parallel = None }) (key (parameter_text parameter.ExecutionParallelism)))
    (λ x. m.names (record no_pool_change { memory = c.memory; max = c.max; query_max = c.query_max; parallel = None }) parameter.ExecutionParallelism) (λ x right. right) h.parallel prints_query_max in
    let text_priority : List ℕ = maybe_text (option_map (λ x. setting.Priority x) c.priority) text_parallel in
    let prints_priority : Prints (make (record no_pool_change { memory = c.memory; max = c.max; query_max = c.query_max; parallel = c.parallel; priority = c.priority })) text_priority =
    grow_if (λ o. make (record no_pool_change { memory = c.memory; max = c.max; query_max = c.query_max; parallel = c.parallel; priority = o })) (λ x. setting.Priority x) IsPriority c.priority text_parallel
    (λ x. m.sets (record no_pool_change { memory = c.memory; max = c.max; query_max = c.query_max; parallel = c.parallel; priority = None }) (setting.Priority x)) (λ x. m.takes (record no_pool_change { memory = c.memory; max = c.max; query_max = c.query_max; parallel = c.parallel; priority = None }) (key (parameter_text parameter.Priority)))
    (λ x. m.names (record no_pool_change { memory = c.memory; max = c.max; query_max = c.query_max; parallel = c.parallel; priority = None }) parameter.Priority) (λ x right. right) h.priority prints_parallel in
    let text_runtime_priority : List ℕ = maybe_text (option_map (λ x. setting.RuntimePriority x) c.runtime_priority) text_priority in
    let prints_runtime_priority : Prints (make (record no_pool_change { memory = c.memory; max = c.max; query_max = c.query_max; parallel = c.parallel; priority = c.priority; runtime_priority = c.runtime_priority })) text_runtime_priority =
    grow_if (λ o. make (record no_pool_change { memory = c.memory; max = c.max; query_max = c.query_max; parallel = c.parallel; priority = c.priority; runtime_priority = o })) (λ x. setting.RuntimePriority x) (λ _. Unit {0}) c.runtime_priority text_priority
    (λ x. m.sets (record no_pool_change { memory = c.memory; max = c.max; query_max = c.query_max; parallel = c.parallel; priority = c.priority; runtime_priority = None }) (setting.RuntimePriority x)) (λ x. m.takes (record no_pool_change { memory = c.memory; max = c.max; query_max = c.query_max; parallel = c.parallel; priority = c.priority; runtime_priority = None }) (key (parameter_text parameter.RuntimePriority)))
    (λ x. m.names (record no_pool_change { memory = c.memory; max = c.max; query_max = c.query_max; parallel = c.parallel; priority = c.priority; runtime_priority = None }) parameter.RuntimePriority) (λ x right. right) (any_some c.runtime_priority) prints_priority in
    let text_threshold_s : List ℕ = maybe_text (option_map (λ x. setting.RuntimePriorityThreshold x) c.threshold_s) text_runtime_priority in
    let prints_threshold_s : Prints (make (record no_pool_change { memory = c.memory; max = c.max; query_max = c.query_max; parallel = c.parallel; priority = c.priority; runtime_priority = c.runtime_priority; threshold_s = c.threshold_s })) text_threshold_s =
    grow_if (λ o. make (record no_pool_change { memory = c.memory; max = c.max; query_max = c.query_max; parallel = c.parallel; priority = c.priority; runtime_priority = c.runtime_priority; threshold_s = o })) (λ x. setting.RuntimePriorityThreshold x) (IsBetween 0 THRESHOLD_SECONDS_MOST) c.threshold_s text_runtime_priority
    (λ x. m.sets (record no_pool_change { memory = c.memory; max = c.max; query_max = c.query_max; parallel = c.parallel; priority = c.priority; runtime_priority = c.runtime_priority; threshold_s = None }) (setting.RuntimePriorityThreshold x)) (λ x. m.takes (record no_pool_change { memory = c.memory; max = c.max; query_max = c.query_max; parallel = c.parallel; priority = c.priority; runtime_priority = c.runtime_priority; threshold_s = None }) (key (parameter_text parameter.RuntimePriorityThreshold)))
    (λ x. m.names (record no_pool_change { memory = c.memory; max = c.max; query_max = c.query_max; parallel = c.parallel; priority = c.priority; runtime_priority = c.runtime_priority; threshold_s = None }) parameter.RuntimePriorityThreshold) (λ x right. right) h.threshold_s prints_runtime_priority in
    let text_queue_ms : List ℕ = maybe_text (option_map (λ x. setting.QueueTimeout x) c.queue_ms) text_threshold_s in
    let prints_queue_ms : Prints (make (record no_pool_change { memory = c.memory; max = c.max; query_max = c.query_max; parallel = c.parallel; priority = c.priority; runtime_priority = c.runtime_priority; threshold_s = c.threshold_s; queue_ms = c.queue_ms })) text_queue_ms =
    grow_if (λ o. make (record no_pool_change { memory = c.memory; max = c.max; query_max = c.query_max; parallel = c.parallel; priority = c.priority; runtime_priority = c.runtime_priority; threshold_s = c.threshold_s; queue_ms = o })) (λ x. setting.QueueTimeout x) (IsOptionalBetween 0 SPAN_MOST) c.queue_ms text_threshold_s
    (λ x. m.sets (record no_pool_change { memory = c.memory; max = c.max; query_max = c.query_max; parallel = c.parallel; priority = c.priority; runtime_priority = c.runtime_priority; threshold_s = c.threshold_s; queue_ms = None }) (setting.QueueTimeout x)) (λ x. m.takes (record no_pool_change { memory = c.memory; max = c.max; query_max = c.query_max; parallel = c.parallel; priority = c.priority; runtime_priority = c.runtime_priority; threshold_s = c.threshold_s; queue_ms = None }) (key (parameter_text parameter.QueueTimeout)))
    (λ x. m.names (record no_pool_change { memory = c.memory; max = c.max; query_max = c.query_max; parallel = c.parallel; priority = c.priority; runtime_priority = c.runtime_priority; threshold_s = c.threshold_s; queue_ms = None }) parameter.QueueTimeout) (λ x right. right) h.queue_ms prints_threshold_s in
    let text_planned : List ℕ = maybe_text (option_map (λ x. setting.PlannedConcurrency x) c.planned) text_queue_ms in
    let prints_planned : Prints (make (record no_pool_change { memory = c.memory; max = c.max; query_max = c.query_max; parallel = c.parallel; priority = c.priority; runtime_priority = c.runtime_priority; threshold_s = c.threshold_s; queue_ms = c.queue_ms; planned = c.planned })) text_planned =
    grow_if (λ o. make (record no_pool_change { memory = c.memory; max = c.max; query_max = c.query_max; parallel = c.parallel; priority = c.priority; runtime_priority = c.runtime_priority; threshold_s = c.threshold_s; queue_ms = c.queue_ms; planned = o })) (λ x. setting.PlannedConcurrency x) (IsOptionalBetween 1 CONCURRENCY_MOST) c.planned text_queue_ms
    (λ x. m.sets (record no_pool_change { memory = c.memory; max = c.max; query_max = c.query_max; parallel = c.parallel; priority = c.priority; runtime_priority = c.runtime_priority; threshold_s = c.threshold_s; queue_ms = c.queue_ms; planned = None }) (setting.PlannedConcurrency x)) (λ x. m.takes (record no_pool_change { memory = c.memory; max = c.max; query_max = c.query_max; parallel = c.parallel; priority = c.priority; runtime_priority = c.runtime_priority; threshold_s = c.threshold_s; queue_ms = c.queue_ms; planned = None }) (key (parameter_text parameter.PlannedConcurrency)))
    (λ x. m.names (record no_pool_change { memory = c.memory; max = c.max; query_max = c.query_max; parallel = c.parallel; priority = c.priority; runtime_priority = c.runtime_priority; threshold_s = c.threshold_s; queue_ms = c.queue_ms; planned = None }) parameter.PlannedConcurrency) (λ x right. right) h.planned prints_queue_ms in
    let text_concurrency : List ℕ = maybe_text (option_map (λ x. setting.MaxConcurrency x) c.concurrency) text_planned in
    let prints_concurrency : Prints (make (record no_pool_change { memory = c.memory; max = c.max; query_max = c.query_max; parallel = c.parallel; priority = c.priority; runtime_priority = c.runtime_priority; threshold_s = c.threshold_s; queue_ms = c.queue_ms; planned = c.planned; concurrency = c.concurrency })) text_concurrency =
    grow_if (λ o. make (record no_pool_change { memory = c.memory; max = c.max; query_max = c.query_max; parallel = c.parallel; priority = c.priority; runtime_priority = c.runtime_priority; threshold_s = c.threshold_s; queue_ms = c.queue_ms; planned = c.planned; concurrency = o })) (λ x. setting.MaxConcurrency x) (IsOptionalBetween 1 CONCURRENCY_MOST) c.concurrency text_planned
    (λ x. m.sets (record no_pool_change { memory = c.memory; max = c.max; query_max = c.query_max; parallel = c.parallel; priority = c.priority; runtime_priority = c.runtime_priority; threshold_s = c.threshold_s; queue_ms = c.queue_ms; planned = c.planned; concurrency = None }) (setting.MaxConcurrency x)) (λ x. m.takes (record no_pool_change { memory = c.memory; max = c.max; query_max = c.query_max; parallel = c.parallel; priority = c.priority; runtime_priority = c.runtime_priority; threshold_s = c.threshold_s; queue_ms = c.queue_ms; planned = c.planned; concurrency = None }) (key (parameter_text parameter.MaxConcurrency)))
    (λ x. m.names (record no_pool_change { memory = c.memory; max = c.max; query_max = c.query_max; parallel = c.parallel; priority = c.priority; runtime_priority = c.runtime_priority; threshold_s = c.threshold_s; queue_ms = c.queue_ms; planned = c.planned; concurrency = None }) parameter.MaxConcurrency) (λ x right. right) h.concurrency prints_planned in
    let text_cap_ms : List ℕ = maybe_text (option_map (λ x. setting.RuntimeCap x) c.cap_ms) text_concurrency in
    let prints_cap_ms : Prints (make (record no_pool_change { memory = c.memory; max = c.max; query_max = c.query_max; parallel = c.parallel; priority = c.priority; runtime_priority = c.runtime_priority; threshold_s = c.threshold_s; queue_ms = c.queue_ms; planned = c.planned; concurrency = c.concurrency; cap_ms = c.cap_ms })) text_cap_ms =
    grow_if (λ o. make (record no_pool_change { memory = c.memory; max = c.max; query_max = c.query_max; parallel = c.parallel; priority = c.priority; runtime_priority = c.runtime_priority; threshold_s = c.threshold_s; queue_ms = c.queue_ms; planned = c.planned; concurrency = c.concurrency; cap_ms = o })) (λ x. setting.RuntimeCap x) (IsOptionalBetween 1 SPAN_MOST) c.cap_ms text_concurrency
    (λ x. m.sets (record no_pool_change { memory = c.memory; max = c.max; query_max = c.query_max; parallel = c.parallel; priority = c.priority; runtime_priority = c.runtime_priority; threshold_s = c.threshold_s; queue_ms = c.queue_ms; planned = c.planned; concurrency = c.concurrency; cap_ms = None }) (setting.RuntimeCap x)) (λ x. m.takes (record no_pool_change { memory = c.memory; max = c.max; query_max = c.query_max; parallel = c.parallel; priority = c.priority; runtime_priority = c.runtime_priority; threshold_s = c.threshold_s; queue_ms = c.queue_ms; planned = c.planned; concurrency = c.concurrency; cap_ms = None }) (key (parameter_text parameter.RuntimeCap)))
    (λ x. m.names (record no_pool_change { memory = c.memory; max = c.max; query_max = c.query_max; parallel = c.parallel; priority = c.priority; runtime_priority = c.runtime_priority; threshold_s = c.threshold_s; queue_ms = c.queue_ms; planned = c.planned; concurrency = c.concurrency; cap_ms = None }) parameter.RuntimeCap) (λ x right. right) h.cap_ms prints_concurrency in
    let text_cascade : List ℕ = maybe_text (option_map (λ x. setting.Cascade x) c.cascade) text_cap_ms in
    let prints_cascade : Prints (make (record no_pool_change { memory = c.memory; max = c.max; query_max = c.query_max; parallel = c.parallel; priority = c.priority; runtime_priority = c.runtime_priority; threshold_s = c.threshold_s; queue_ms = c.queue_ms; planned = c.planned; concurrency = c.concurrency; cap_ms = c.cap_ms; cascade = c.cascade })) text_cascade =
    grow_if (λ o. make (record no_pool_change { memory = c.memory; max = c.max; query_max = c.query_max; parallel = c.parallel; priority = c.priority; runtime_priority = c.runtime_priority; threshold_s = c.threshold_s; queue_ms = c.queue_ms; planned = c.planned; concurrency = c.concurrency; cap_ms = c.cap_ms; cascade = o })) (λ x. setting.Cascade x) (λ _. Unit {0}) c.cascade text_cap_ms
    (λ x. m.sets (record no_pool_change { memory = c.memory; max = c.max; query_max = c.query_max; parallel = c.parallel; priority = c.priority; runtime_priority = c.runtime_priority; threshold_s = c.threshold_s; queue_ms = c.queue_ms; planned = c.planned; concurrency = c.concurrency; cap_ms = c.cap_ms; cascade = None }) (setting.Cascade x)) (λ x. m.takes (record no_pool_change { memory = c.memory; max = c.max; query_max = c.query_max; parallel = c.parallel; priority = c.priority; runtime_priority = c.runtime_priority; threshold_s = c.threshold_s; queue_ms = c.queue_ms; planned = c.planned; concurrency = c.concurrency; cap_ms = c.cap_ms; cascade = None }) (key (parameter_text parameter.Cascade)))
    (λ x. m.names (record no_pool_change { memory = c.memory; max = c.max; query_max = c.query_max; parallel = c.parallel; priority = c.priority; runtime_priority = c.runtime_priority; threshold_s = c.threshold_s; queue_ms = c.queue_ms; planned = c.planned; concurrency = c.concurrency; cap_ms = c.cap_ms; cascade = None }) parameter.Cascade) (λ x right. right) (any_some c.cascade) prints_cap_ms in
    subst (λ l. Prints (make c) l) (all_text-settings (pool_settings c) text) prints_cascade

-- a user's parameters, one after the other
user-prints : (make : UserChange → Statement) (c : UserChange) (text : List ℕ) → MakesUser make → IsRightUser c → Prints (make no_user_change) text
    → Prints (make c) (text ++ settings_text (user_settings c))
unfolding all_text
user-prints make c text m h start =
    let text_pool : List ℕ = maybe_text (option_map (λ x. setting.ResourcePool x) c.pool) text in
    let prints_pool : Prints (make (record no_user_change { pool = c.pool })) text_pool =
    grow_if (λ o. make (record no_user_change { pool = o })) (λ x. setting.ResourcePool x) (λ _. Unit {0}) c.pool text
    (λ x. m.sets (record no_user_change { pool = None }) (setting.ResourcePool x)) (λ x. m.takes (record no_user_change { pool = None }) (key (parameter_text parameter.ResourcePool)))
    (λ x. m.names (record no_user_change { pool = None }) parameter.ResourcePool) (λ x right. right) (any_some c.pool) start in
    let text_memory_cap : List ℕ = maybe_text (option_map (λ x. setting.MemoryCap x) c.memory_cap) text_pool in
    let prints_memory_cap : Prints (make (record no_user_change { pool = c.pool; memory_cap = c.memory_cap })) text_memory_cap =
    grow_if (λ o. make (record no_user_change { pool = c.pool; memory_cap = o })) (λ x. setting.MemoryCap x) IsOptionalSize c.memory_cap text_pool
    (λ x. m.sets (record no_user_change { pool = c.pool; memory_cap = None }) (setting.MemoryCap x)) (λ x. m.takes (record no_user_change { pool = c.pool; memory_cap = None }) (key (parameter_text parameter.MemoryCap)))
    (λ x. m.names (record no_user_change { pool = c.pool; memory_cap = None }) parameter.MemoryCap) (λ x right. right) h.memory_cap prints_pool in
    let text_cap_ms : List ℕ = maybe_text (option_map (λ x. setting.RuntimeCap x) c.cap_ms) text_memory_cap in
    let prints_cap_ms : Prints (make (record no_user_change { pool = c.pool; memory_cap = c.memory_cap; cap_ms = c.cap_ms })) text_cap_ms =
    grow_if (λ o. make (record no_user_change { pool = c.pool; memory_cap = c.memory_cap; cap_ms = o })) (λ x. setting.RuntimeCap x) (IsOptionalBetween 1 SPAN_MOST) c.cap_ms text_memory_cap
    (λ x. m.sets (record no_user_change { pool = c.pool; memory_cap = c.memory_cap; cap_ms = None }) (setting.RuntimeCap x)) (λ x. m.takes (record no_user_change { pool = c.pool; memory_cap = c.memory_cap; cap_ms = None }) (key (parameter_text parameter.RuntimeCap)))
    (λ x. m.names (record no_user_change { pool = c.pool; memory_cap = c.memory_cap; cap_ms = None }) parameter.RuntimeCap) (λ x right. right) h.cap_ms prints_memory_cap in
    subst (λ l. Prints (make c) l) (all_text-settings (user_settings c) text) prints_cap_ms

-- the statements without their parameters
create_pool-prints : (n : Name) → Prints (statement.CreatePool n no_pool_change) (codes "CREATE RESOURCE POOL " ++ name_text n)
create_pool-prints n = record {
  whole = true;
  tokens = key (codes "CREATE") ∷ key (codes "RESOURCE") ∷ key (codes "POOL") ∷ name n ∷ [];
  first = codes "CREATE";
  rest = codes "RESOURCE" ∷ codes "POOL" ∷ name_text n ∷ [];
  body = create_pool n;
  says = (record { word = refl; token = refl }, (record { word = refl; token = refl }, (record { word = refl; token = refl }, (name-says n, tt))));
  spaces = ap (λ l. codes "CREATE RESOURCE POOL " ++ l) (append-nil (name_text n));
}

alter_pool-prints : (n : Name) → Prints (statement.AlterPool n no_pool_change) (codes "ALTER RESOURCE POOL " ++ name_text n)
alter_pool-prints n = record {
  whole = false;
  tokens = key (codes "ALTER") ∷ key (codes "RESOURCE") ∷ key (codes "POOL") ∷ name n ∷ [];
  first = codes "ALTER";
  rest = codes "RESOURCE" ∷ codes "POOL" ∷ name_text n ∷ [];
  body = alter_pool n;
  says = (record { word = refl; token = refl }, (record { word = refl; token = refl }, (record { word = refl; token = refl }, (name-says n, tt))));
  spaces = ap (λ l. codes "ALTER RESOURCE POOL " ++ l) (append-nil (name_text n));
}

drop_pool-prints : (n : Name) → Prints (statement.DropPool n) (codes "DROP RESOURCE POOL " ++ name_text n)
drop_pool-prints n = record {
  whole = true;
  tokens = key (codes "DROP") ∷ key (codes "RESOURCE") ∷ key (codes "POOL") ∷ name n ∷ [];
  first = codes "DROP";
  rest = codes "RESOURCE" ∷ codes "POOL" ∷ name_text n ∷ [];
  body = drop_pool n;
  says = (record { word = refl; token = refl }, (record { word = refl; token = refl }, (record { word = refl; token = refl }, (name-says n, tt))));
  spaces = ap (λ l. codes "DROP RESOURCE POOL " ++ l) (append-nil (name_text n));
}

create_user-prints : (n : Name) → Prints (statement.CreateUser n no_user_change) (codes "CREATE USER " ++ name_text n)
create_user-prints n = record {
  whole = true;
  tokens = key (codes "CREATE") ∷ key (codes "USER") ∷ name n ∷ [];
  first = codes "CREATE";
  rest = codes "USER" ∷ name_text n ∷ [];
  body = create_user n;
  says = (record { word = refl; token = refl }, (record { word = refl; token = refl }, (name-says n, tt)));
  spaces = ap (λ l. codes "CREATE USER " ++ l) (append-nil (name_text n));
}

alter_user-prints : (n : Name) → Prints (statement.AlterUser n no_user_change) (codes "ALTER USER " ++ name_text n)
alter_user-prints n = record {
  whole = false;
  tokens = key (codes "ALTER") ∷ key (codes "USER") ∷ name n ∷ [];
  first = codes "ALTER";
  rest = codes "USER" ∷ name_text n ∷ [];
  body = alter_user n;
  says = (record { word = refl; token = refl }, (record { word = refl; token = refl }, (name-says n, tt)));
  spaces = ap (λ l. codes "ALTER USER " ++ l) (append-nil (name_text n));
}

drop_user-prints : (n : Name) → Prints (statement.DropUser n) (codes "DROP USER " ++ name_text n)
drop_user-prints n = record {
  whole = true;
  tokens = key (codes "DROP") ∷ key (codes "USER") ∷ name n ∷ [];
  first = codes "DROP";
  rest = codes "USER" ∷ name_text n ∷ [];
  body = drop_user n;
  says = (record { word = refl; token = refl }, (record { word = refl; token = refl }, (name-says n, tt)));
  spaces = ap (λ l. codes "DROP USER " ++ l) (append-nil (name_text n));
}

create_role-prints : (n : Name) → Prints (statement.CreateRole n) (codes "CREATE ROLE " ++ name_text n)
create_role-prints n = record {
  whole = true;
  tokens = key (codes "CREATE") ∷ key (codes "ROLE") ∷ name n ∷ [];
  first = codes "CREATE";
  rest = codes "ROLE" ∷ name_text n ∷ [];
  body = create_role n;
  says = (record { word = refl; token = refl }, (record { word = refl; token = refl }, (name-says n, tt)));
  spaces = ap (λ l. codes "CREATE ROLE " ++ l) (append-nil (name_text n));
}

drop_role-prints : (n : Name) → Prints (statement.DropRole n) (codes "DROP ROLE " ++ name_text n)
drop_role-prints n = record {
  whole = true;
  tokens = key (codes "DROP") ∷ key (codes "ROLE") ∷ name n ∷ [];
  first = codes "DROP";
  rest = codes "ROLE" ∷ name_text n ∷ [];
  body = drop_role n;
  says = (record { word = refl; token = refl }, (record { word = refl; token = refl }, (name-says n, tt)));
  spaces = ap (λ l. codes "DROP ROLE " ++ l) (append-nil (name_text n));
}

grant_usage-prints : (p n : Name) → Prints (statement.GrantUsage p n) (codes "GRANT USAGE ON RESOURCE POOL " ++ (name_text p ++ (codes " TO " ++ name_text n)))
grant_usage-prints p n = record {
  whole = true;
  tokens = key (codes "GRANT") ∷ key (codes "USAGE") ∷ key (codes "ON") ∷ key (codes "RESOURCE") ∷ key (codes "POOL") ∷ name p ∷ key (codes "TO") ∷ name n ∷ [];
  first = codes "GRANT";
  rest = codes "USAGE" ∷ codes "ON" ∷ codes "RESOURCE" ∷ codes "POOL" ∷ name_text p ∷ codes "TO" ∷ name_text n ∷ [];
  body = grant_usage p n;
  says = (record { word = refl; token = refl }, (record { word = refl; token = refl }, (record { word = refl; token = refl }, (record { word = refl; token = refl }, (record { word = refl; token = refl }, (name-says p, (record { word = refl; token = refl }, (name-says n, tt))))))));
  spaces = ap (λ l. codes "GRANT USAGE ON RESOURCE POOL " ++ (name_text p ++ (codes " TO " ++ l))) (append-nil (name_text n));
}

revoke_usage-prints : (p n : Name) → Prints (statement.RevokeUsage p n) (codes "REVOKE USAGE ON RESOURCE POOL " ++ (name_text p ++ (codes " FROM " ++ name_text n)))
revoke_usage-prints p n = record {
  whole = true;
  tokens = key (codes "REVOKE") ∷ key (codes "USAGE") ∷ key (codes "ON") ∷ key (codes "RESOURCE") ∷ key (codes "POOL") ∷ name p ∷ key (codes "FROM") ∷ name n ∷ [];
  first = codes "REVOKE";
  rest = codes "USAGE" ∷ codes "ON" ∷ codes "RESOURCE" ∷ codes "POOL" ∷ name_text p ∷ codes "FROM" ∷ name_text n ∷ [];
  body = revoke_usage p n;
  says = (record { word = refl; token = refl }, (record { word = refl; token = refl }, (record { word = refl; token = refl }, (record { word = refl; token = refl }, (record { word = refl; token = refl }, (name-says p, (record { word = refl; token = refl }, (name-says n, tt))))))));
  spaces = ap (λ l. codes "REVOKE USAGE ON RESOURCE POOL " ++ (name_text p ++ (codes " FROM " ++ l))) (append-nil (name_text n));
}

grant_role-prints : (r u : Name) → Prints (statement.GrantRole r u) (codes "GRANT " ++ (name_text r ++ (codes " TO " ++ name_text u)))
grant_role-prints r u = record {
  whole = true;
  tokens = key (codes "GRANT") ∷ name r ∷ key (codes "TO") ∷ name u ∷ [];
  first = codes "GRANT";
  rest = name_text r ∷ codes "TO" ∷ name_text u ∷ [];
  body = grant_role r u;
  says = (record { word = refl; token = refl }, (name-says r, (record { word = refl; token = refl }, (name-says u, tt))));
  spaces = ap (λ l. codes "GRANT " ++ (name_text r ++ (codes " TO " ++ l))) (append-nil (name_text u));
}

revoke_role-prints : (r u : Name) → Prints (statement.RevokeRole r u) (codes "REVOKE " ++ (name_text r ++ (codes " FROM " ++ name_text u)))
revoke_role-prints r u = record {
  whole = true;
  tokens = key (codes "REVOKE") ∷ name r ∷ key (codes "FROM") ∷ name u ∷ [];
  first = codes "REVOKE";
  rest = name_text r ∷ codes "FROM" ∷ name_text u ∷ [];
  body = revoke_role r u;
  says = (record { word = refl; token = refl }, (name-says r, (record { word = refl; token = refl }, (name-says u, tt))));
  spaces = ap (λ l. codes "REVOKE " ++ (name_text r ++ (codes " FROM " ++ l))) (append-nil (name_text u));
}

-- the pool of a role
record PoolSaid (pool : Option Name) : Type 0 where
  token : Token
  is : optional_name token ≡ Ok pool
  says : Says (value_text (value_or value.Absent (λ p. value.OfName p) pool)) token

pool-said : (pool : Option Name) → PoolSaid pool
pool-said None = record { token = key (codes "NONE"); is = refl; says = absent-says }
pool-said (Some p) = record { token = name p; is = not_none p (is_none (name p)) refl; says = name-says p }

alter_role-prints : (n : Name) (pool : Option Name) → Prints (statement.AlterRole n pool) (statement_text (statement.AlterRole n pool))
alter_role-prints n pool =
    let said : PoolSaid pool = pool-said pool in
    let text : List ℕ = value_text (value_or value.Absent (λ p. value.OfName p) pool) in
    record {
      whole = true;
      tokens = key (codes "ALTER") ∷ key (codes "ROLE") ∷ name n ∷ key (codes "RESOURCE") ∷ key (codes "POOL") ∷ said.token ∷ [];
      first = codes "ALTER";
      rest = codes "ROLE" ∷ name_text n ∷ codes "RESOURCE" ∷ codes "POOL" ∷ text ∷ [];
      body = alter_role n pool said.token said.is;
      says = (record { word = refl; token = refl }, (record { word = refl; token = refl }, (name-says n, (record { word = refl; token = refl }, (record { word = refl; token = refl }, (said.says, tt))))));
      spaces = ap (λ l. codes "ALTER ROLE " ++ (name_text n ++ (codes " RESOURCE POOL " ++ l))) (append-nil text);
    }

-- each right statement is printed
statement-prints : (st : Statement) → IsWellFormed st → Prints st (statement_text st)
statement-prints (statement.CreatePool n c) right =
    pool-prints (λ d. statement.CreatePool n d) c (codes "CREATE RESOURCE POOL " ++ name_text n)
    (record { sets = λ d x. refl; takes = λ d t. refl; names = λ d p. refl }) right (create_pool-prints n)
statement-prints (statement.AlterPool n c) right =
    pool-prints (λ d. statement.AlterPool n d) c (codes "ALTER RESOURCE POOL " ++ name_text n)
    (record { sets = λ d x. refl; takes = λ d t. refl; names = λ d p. refl }) right.0 (alter_pool-prints n)
statement-prints (statement.DropPool n) right = drop_pool-prints n
statement-prints (statement.CreateUser n c) right =
    user-prints (λ d. statement.CreateUser n d) c (codes "CREATE USER " ++ name_text n)
    (record { sets = λ d x. refl; takes = λ d t. refl; names = λ d p. refl }) right (create_user-prints n)
statement-prints (statement.AlterUser n c) right =
    user-prints (λ d. statement.AlterUser n d) c (codes "ALTER USER " ++ name_text n)
    (record { sets = λ d x. refl; takes = λ d t. refl; names = λ d p. refl }) right.0 (alter_user-prints n)
statement-prints (statement.DropUser n) right = drop_user-prints n
statement-prints (statement.CreateRole n) right = create_role-prints n
statement-prints (statement.AlterRole n pool) right = alter_role-prints n pool
statement-prints (statement.DropRole n) right = drop_role-prints n
statement-prints (statement.GrantUsage p n) right = grant_usage-prints p n
statement-prints (statement.RevokeUsage p n) right = revoke_usage-prints p n
statement-prints (statement.GrantRole r u) right = grant_role-prints r u
statement-prints (statement.RevokeRole r u) right = revoke_role-prints r u

-- an ALTER without a parameter is not right
begun-wrong : (b : Bool) (st : Statement) (ts : List Token) → b ≡ false → IsBody b st ts → IsWellFormed st → ⊥
begun-wrong _ _ _ h (alter_pool n) right = true_false (sym right.1)
begun-wrong _ _ _ h (alter_user n) right = true_false (sym right.1)
begun-wrong _ _ _ h (create_pool n) right = absurd (true_false h)
begun-wrong _ _ _ h (drop_pool n) right = absurd (true_false h)
begun-wrong _ _ _ h (create_user n) right = absurd (true_false h)
begun-wrong _ _ _ h (drop_user n) right = absurd (true_false h)
begun-wrong _ _ _ h (create_role n) right = absurd (true_false h)
begun-wrong _ _ _ h (alter_role n pool t is) right = absurd (true_false h)
begun-wrong _ _ _ h (drop_role n) right = absurd (true_false h)
begun-wrong _ _ _ h (grant_usage p n) right = absurd (true_false h)
begun-wrong _ _ _ h (revoke_usage p n) right = absurd (true_false h)
begun-wrong _ _ _ h (grant_role r u) right = absurd (true_false h)
begun-wrong _ _ _ h (revoke_role r u) right = absurd (true_false h)
begun-wrong _ _ _ h (named b st ts t p x vs body is fresh value) right = absurd (true_false h)

whole-body : (b : Bool) (st : Statement) (ts : List Token) → IsBody b st ts → IsWellFormed st → IsBody true st ts
whole-body true st ts body right = body
whole-body false st ts body right = absurd (begun-wrong false st ts refl body right)

-- the printed text of a right statement is spelled as it
pub well_formed-spells : (st : Statement) → IsWellFormed st → SpellsText (statement_text st) st
well_formed-spells st right =
    let prints = statement-prints st right in
    subst (λ text. SpellsText text st) (joined-spaced prints.first prints.rest ∙ prints.spaces)
    (said-spells st (prints.first ∷ prints.rest) prints.tokens
    (bare st prints.tokens (whole-body prints.whole st prints.tokens prints.body right)) prints.says)
