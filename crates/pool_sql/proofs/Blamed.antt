-- what stops a word is what is wrong with it
use Rattle.std.proofs.Common.{◌≡◌, ℕ, ℤ, Bool, true, false, ◌&&◌, if◌then◌else◌, ◌⊎◌, inl, inr, Option, Some, None, Result, Ok, Err, List, [], ◌∷◌, ◌++◌, refl, sym, ◌∙◌, ap, subst, codes}
use Rattle.rm_base.specs.declared.name.Name.{Name}
use Rattle.rm_base.specs.declared.refusal.Parameter.{Parameter}
use Rattle.rm_base.specs.declared.refusal.Parameter.TheVariants as parameter
use Rattle.rm_base.specs.declared.statement.Statement.{Statement}
use Rattle.rm_base.specs.declared.statement.Statement.TheVariants as statement
use Rattle.rm_words.specs.declared.token.Symbol.TheVariants as symbol
use Rattle.rm_words.specs.Token.{Token, Bare, Number, Quoted, Sign, is_key}
use Rattle.pool_sql.specs.declared.progress.Giving.{Giving}
use Rattle.pool_sql.specs.declared.progress.Progress.{Progress}
use Rattle.pool_sql.specs.declared.progress.Progress.TheVariants.{Start, Verbed, OfResource, NameDue, Given, Usage, UsageOn, UsageResource, UsagePool, UsageOf, UsageTo, RoleOf, RoleTo, RoleNamed, RoleResource, RolePool, Part, CascadeTo, UserPool, ValueDue, MinusRead, Ended}
use Rattle.pool_sql.specs.declared.setting.Setting.{Setting}
use Rattle.pool_sql.specs.declared.setting.Setting.TheVariants as setting
use Rattle.pool_sql.specs.declared.stop.Stop.{Stop}
use Rattle.pool_sql.specs.declared.stop.Stop.TheVariants as stop
use Rattle.rm_words.specs.Names.{name_of}
use Rattle.pool_sql.specs.Parameter.{parameter_of, takes_any}
use Rattle.rm_base.specs.WellFormed.{is_named}
use Rattle.pool_sql.specs.Setting.{set}
use Rattle.pool_sql.specs.Value.{is_none, negative_of, some_name, value_of}
use Rattle.pool_sql.specs.Grammar.{IsBody, IsValueDue}
use Rattle.pool_sql.specs.Machine.{Stepped, Edge, begun, edges, is_minus, is_semicolon, keyed, on_key, on_name, on_negative, on_other, on_parameter, on_role_pool, on_value, role_given, step, stranger, usage_given}
use Rattle.pool_sql.specs.Grammar.{Blames, IsWhy, unknown, affinity, repeated, value, negative}
use Rattle.pool_sql.specs.Machine.{run}
use Rattle.pool_sql.specs.Parameter.{is_affinity}
use Rattle.pool_sql.proofs.Means.{IsMinusRead, Means, is_minus-eq, minus_read}
use Rattle.pool_sql.proofs.Complete.{complete, due-run, run-after}
use Rattle.rm_words.proofs.Results.{ok_is, err_is, ok_err}

-- a fault is blamed, or it is Syntax
abbrev Told : List Token → Token → Stop → Type 0
Told ts t why = Blames ts t why ⊎ (why ≡ stop.Syntax)

on_key-syntax : (es : List Edge) (t : Token) (why : Stop) → on_key es t ≡ Err why → why ≡ stop.Syntax
on_key-syntax [] t why h = sym (err_is stop.Syntax why h)
on_key-syntax (e ∷ es) t why h = key-turn (is_key t e.0) e.1 h (λ rest. on_key-syntax es t why rest)
  where
    key-turn : (b : Bool) (q : Progress) → (if b then Ok q else on_key es t) ≡ Err why
        → (on_key es t ≡ Err why → why ≡ stop.Syntax) → why ≡ stop.Syntax
    key-turn true q h rest = absurd (ok_err q why h)
    key-turn false q h rest = rest h

on_name-syntax : (goes : Name → Progress) (o : Option Name) (why : Stop) → on_name goes o ≡ Err why → why ≡ stop.Syntax
on_name-syntax goes None why h = sym (err_is stop.Syntax why h)
on_name-syntax goes (Some n) why h = absurd (ok_err (goes n) why h)

on_given-syntax : (g : Giving) (b : Bool) (o : Option Name) (why : Stop)
    → (if b then Ok (Usage g) else on_name (λ r. RoleOf g r) o) ≡ Err why → why ≡ stop.Syntax
on_given-syntax g true o why h = absurd (ok_err (Usage g) why h)
on_given-syntax g false o why h = on_name-syntax (λ r. RoleOf g r) o why h

some_name-syntax : (n : Name) (b : Bool) (o : Option Name) (why : Stop)
    → on_role_pool n (if b then Ok None else some_name o) ≡ Err why → why ≡ stop.Syntax
some_name-syntax n true o why h = absurd (ok_err (Part true (statement.AlterRole n None)) why h)
some_name-syntax n false None why h = sym (err_is stop.Syntax why h)
some_name-syntax n false (Some pool) why h = absurd (ok_err (Part true (statement.AlterRole n (Some pool))) why h)

stranger-told : (b : Bool) (st : Statement) (ts : List Token) (word : List ℕ) (why : Stop) (takes : Bool) (affine : Bool)
    → IsBody b st ts → parameter_of st (Bare word) ≡ None → takes_any st ≡ takes → is_affinity (Bare word) ≡ affine
    → (let r : Stepped = Err (stranger takes (Bare word)) in r ≡ Err why) → Told ts (Bare word) why
stranger-told b st ts word why false affine body is takes affinity_is h = inr (sym (err_is stop.Syntax why h))
stranger-told b st ts word why true true body is takes affinity_is h =
    inl (subst (λ s. Blames ts (Bare word) s) (err_is stop.NotSupported why (ap (λ x. let r : Stepped = Err (if x then stop.NotSupported else stop.Unknown) in r) (sym affinity_is) ∙ h))
    (affinity b st ts word body takes is affinity_is))
stranger-told b st ts word why true false body is takes affinity_is h =
    inl (subst (λ s. Blames ts (Bare word) s) (err_is stop.Unknown why (ap (λ x. let r : Stepped = Err (if x then stop.NotSupported else stop.Unknown) in r) (sym affinity_is) ∙ h))
    (unknown b st ts word body takes is affinity_is))

sign-syntax : (b ends : Bool) (st : Statement) (why : Stop) → (if b && ends then Ok (Ended st) else Err stop.Syntax) ≡ Err why
    → why ≡ stop.Syntax
sign-syntax true true st why h = absurd (ok_err (Ended st) why h)
sign-syntax true false st why h = sym (err_is stop.Syntax why h)
sign-syntax false ends st why h = sym (err_is stop.Syntax why h)

other-told : (b : Bool) (st : Statement) (ts : List Token) (t : Token) (why : Stop) → IsBody b st ts → parameter_of st t ≡ None
    → on_other b st t ≡ Err why → Told ts t why
other-told b st ts (Bare word) why body is h =
    stranger-told b st ts word why (takes_any st) (is_affinity (Bare word)) body is refl refl h
other-told b st ts (Number n) why body is h = inr (sym (err_is stop.Syntax why h))
other-told b st ts (Quoted text) why body is h = inr (sym (err_is stop.Syntax why h))
other-told b st ts (Sign s) why body is h = inr (sign-syntax b (is_semicolon s) st why h)

repeated-told : (b : Bool) (st : Statement) (ts : List Token) (t : Token) (p : Parameter) (why : Stop) (twice : Bool)
    → is_named p st ≡ twice → IsBody b st ts → parameter_of st t ≡ Some p
    → (if twice then Err (stop.Repeated p) else Ok (keyed st p)) ≡ Err why → Told ts t why
repeated-told b st ts t p why true twice body is h =
    inl (subst (λ s. Blames ts t s) (err_is (stop.Repeated p) why h) (repeated b st ts t p body is twice))
repeated-told b st ts t p why false twice body is h = absurd (ok_err (keyed st p) why h)

parameter-told : (b : Bool) (st : Statement) (ts : List Token) (t : Token) (why : Stop) (o : Option Parameter)
    → parameter_of st t ≡ o → IsBody b st ts → on_parameter b st t o ≡ Err why → Told ts t why
parameter-told b st ts t why None is body h = other-told b st ts t why body is h
parameter-told b st ts t why (Some p) is body h = repeated-told b st ts t p why (is_named p st) refl body is h

-- Syntax, or another fault
is_syntax : (why : Stop) → (why ≡ stop.Syntax) ⊎ (why ≡ stop.Syntax → ⊥)
is_syntax stop.Syntax = inl refl
is_syntax stop.Unknown = inr (λ h. absurd cc)
is_syntax (stop.Repeated p) = inr (λ h. absurd cc)
is_syntax stop.NotSupported = inr (λ h. absurd cc)
is_syntax (stop.Range p) = inr (λ h. absurd cc)

value-told : (st : Statement) (p : Parameter) (ts : List Token) (t : Token) (why : Stop) (r : Result Setting Stop)
    → value_of p t ≡ r → IsValueDue st p ts → on_value st p t r ≡ Err why → Told ts t why
value-told st p ts t why (Ok x) is at h = absurd (ok_err (Part true (set st x)) why h)
value-told st p ts t why (Err fault) is at h = minus-told (is_minus p t) h
  where
    blamed : (fault ≡ stop.Syntax) ⊎ (fault ≡ stop.Syntax → ⊥) → Told ts t fault
    blamed (inl same) = inr same
    blamed (inr other) = inl (value st p ts t fault at is other)

    minus-told : (b : Bool) → (if b then Ok (MinusRead st) else Err fault) ≡ Err why → Told ts t why
    minus-told true h = absurd (ok_err (MinusRead st) why h)
    minus-told false h = subst (λ s. Told ts t s) (err_is fault why h) (blamed (is_syntax fault))

negative-told : (st : Statement) (ts : List Token) (t : Token) (why : Stop) (r : Result ℤ Stop)
    → negative_of t ≡ r → IsMinusRead st ts → on_negative st r ≡ Err why → Told ts t why
negative-told st ts t why (Ok n) is read h = absurd (ok_err (Part true (set st (setting.Priority n))) why h)
negative-told _ _ t why (Err fault) is (minus_read st ts at) h =
    subst (λ s. Told (ts ++ Sign symbol.Minus ∷ []) t s) (err_is fault why h) (blamed (is_syntax fault))
  where
    blamed : (fault ≡ stop.Syntax) ⊎ (fault ≡ stop.Syntax → ⊥) → Told (ts ++ Sign symbol.Minus ∷ []) t fault
    blamed (inl same) = inr same
    blamed (inr other) = inl (negative st ts t fault at is other)

-- each stop of the reading is told
step-told : (p : Progress) (ts : List Token) (t : Token) (why : Stop) → Means p ts → step p t ≡ Err why → Told ts t why
step-told Start ts t why m h = inr (on_key-syntax (edges Start) t why h)
step-told (Verbed v) ts t why m h = inr (on_key-syntax (edges (Verbed v)) t why h)
step-told (OfResource v) ts t why m h = inr (on_key-syntax (edges (OfResource v)) t why h)
step-told (NameDue v k) ts t why m h = inr (on_name-syntax (λ n. begun v k n) (name_of t) why h)
step-told (Given g) ts t why m h = inr (on_given-syntax g (is_key t (codes "USAGE")) (name_of t) why h)
step-told (Usage g) ts t why m h = inr (on_key-syntax (edges (Usage g)) t why h)
step-told (UsageOn g) ts t why m h = inr (on_key-syntax (edges (UsageOn g)) t why h)
step-told (UsageResource g) ts t why m h = inr (on_key-syntax (edges (UsageResource g)) t why h)
step-told (UsagePool g) ts t why m h = inr (on_name-syntax (λ p. UsageOf g p) (name_of t) why h)
step-told (UsageOf g p) ts t why m h = inr (on_key-syntax (edges (UsageOf g p)) t why h)
step-told (UsageTo g p) ts t why m h = inr (on_name-syntax (λ n. Part true (usage_given g p n)) (name_of t) why h)
step-told (RoleOf g r) ts t why m h = inr (on_key-syntax (edges (RoleOf g r)) t why h)
step-told (RoleTo g r) ts t why m h = inr (on_name-syntax (λ u. Part true (role_given g r u)) (name_of t) why h)
step-told (RoleNamed n) ts t why m h = inr (on_key-syntax (edges (RoleNamed n)) t why h)
step-told (RoleResource n) ts t why m h = inr (on_key-syntax (edges (RoleResource n)) t why h)
step-told (RolePool n) ts t why m h = inr (some_name-syntax n (is_none t) (name_of t) why h)
step-told (Part b st) ts t why m h = parameter-told b st ts t why (parameter_of st t) refl m h
step-told (CascadeTo st) ts t why m h = inr (on_key-syntax (edges (CascadeTo st)) t why h)
step-told (UserPool st) ts t why m h = inr (on_key-syntax (edges (UserPool st)) t why h)
step-told (ValueDue st p) ts t why m h = value-told st p ts t why (value_of p t) refl m h
step-told (MinusRead st) ts t why m h = negative-told st ts t why (negative_of t) refl m h
step-told (Ended st) ts t why m h = inr (on_key-syntax (edges (Ended st)) t why h)

-- where the reading stops
record Stops (ts : List Token) (t : Token) (why : Stop) : Type 0 where
  last : Progress
  reads : run Start ts ≡ Ok last
  stops : step last t ≡ Err why

not_minus : (p : Parameter) (t : Token) (why : Stop) (b : Bool) → is_minus p t ≡ b → value_of p t ≡ Err why → (why ≡ stop.Syntax → ⊥)
    → is_minus p t ≡ false
not_minus p t why true is found other =
    let both = is_minus-eq p t is in
    let same : value_of p t ≡ Err stop.Syntax =
    ap (λ x. value_of x t) both.0 ∙ ap (λ x. value_of parameter.Priority x) both.1 in
    absurd (other (err_is why stop.Syntax (sym found ∙ same)))
not_minus p t why false is found other = is

-- what is blamed stops the reading
blames-stops : (ts : List Token) (t : Token) (why : Stop) → Blames ts t why → Stops ts t why
blames-stops _ _ _ (unknown b st ts word body takes is affine) = record {
  last = Part b st;
  reads = complete b st ts body;
  stops =
      ap (λ o. on_parameter b st (Bare word) o) is
      ∙ ap (λ x. let r : Stepped = Err (stranger x (Bare word)) in r) takes
      ∙ ap (λ x. let r : Stepped = Err (if x then stop.NotSupported else stop.Unknown) in r) affine;
}
blames-stops _ _ _ (affinity b st ts word body takes is affine) = record {
  last = Part b st;
  reads = complete b st ts body;
  stops =
      ap (λ o. on_parameter b st (Bare word) o) is
      ∙ ap (λ x. let r : Stepped = Err (stranger x (Bare word)) in r) takes
      ∙ ap (λ x. let r : Stepped = Err (if x then stop.NotSupported else stop.Unknown) in r) affine;
}
blames-stops _ _ _ (repeated b st ts t p body is twice) = record {
  last = Part b st;
  reads = complete b st ts body;
  stops =
      ap (λ o. on_parameter b st t o) is
      ∙ ap (λ x. let r : Stepped = if x then Err (stop.Repeated p) else Ok (keyed st p) in r) twice;
}
blames-stops _ _ _ (value st p ts t why at is other) = record {
  last = ValueDue st p;
  reads = due-run st p ts at;
  stops =
      ap (λ r. on_value st p t r) is
      ∙ ap (λ x. let r : Stepped = if x then Ok (MinusRead st) else Err why in r) (not_minus p t why (is_minus p t) refl is other);
}
blames-stops _ _ _ (negative st ts t why at is other) = record {
  last = MinusRead st;
  reads = run-after ts (Sign symbol.Minus ∷ []) (ValueDue st parameter.Priority) (due-run st parameter.Priority ts at);
  stops = ap (λ r. on_negative st r) is;
}

blames-other : (ts : List Token) (t : Token) (why : Stop) → Blames ts t why → why ≡ stop.Syntax → ⊥
blames-other _ _ _ (unknown b st ts word body takes is affine) h = absurd cc
blames-other _ _ _ (affinity b st ts word body takes is affine) h = absurd cc
blames-other _ _ _ (repeated b st ts t p body is twice) h = absurd cc
blames-other _ _ _ (value st p ts t why at is other) h = other h
blames-other _ _ _ (negative st ts t why at is other) h = other h

pub stopped-why : (ts : List Token) (t : Token) (p : Progress) (why : Stop) → run Start ts ≡ Ok p → Means p ts → step p t ≡ Err why
    → IsWhy ts t why
stopped-why ts t p why h m stops = by (step-told p ts t why m stops)
  where
    by : Told ts t why → IsWhy ts t why
    by (inl blamed) = inl blamed
    by (inr syntax) = inr (
      syntax,
      λ other blamed.
          let found = blames-stops ts t other blamed in
          let same : found.last ≡ p = ok_is found.last p (sym found.reads ∙ h) in
          let fault : other ≡ why = err_is other why (sym found.stops ∙ ap (λ q. step q t) same ∙ stops) in
          blames-other ts t other blamed (fault ∙ syntax),
    )

-- a word is refused for one reason
pub why_one : (ts : List Token) (t : Token) (a b : Stop) → IsWhy ts t a → IsWhy ts t b → a ≡ b
why_one ts t a b (inl x) (inl y) =
    let first = blames-stops ts t a x in
    let second = blames-stops ts t b y in
    let same : first.last ≡ second.last = ok_is first.last second.last (sym first.reads ∙ second.reads) in
    err_is a b (sym first.stops ∙ ap (λ q. step q t) same ∙ second.stops)
why_one ts t a b (inl x) (inr y) = absurd (y.1 a x)
why_one ts t a b (inr x) (inl y) = absurd (x.1 b y)
why_one ts t a b (inr x) (inr y) = x.0 ∙ sym y.0
