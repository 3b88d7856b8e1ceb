-- which words are a statement, and what is wrong with words that are none
use Rattle.std.specs.Prelude.{◌≡◌, ◌≢◌, ℕ, ℤ, Bool, true, false, ◌⊎◌, Option, Some, None, Ok, Err, List, [], ◌∷◌, ◌++◌, codes}
use Rattle.rm_base.specs.declared.name.Name.{Name}
use Rattle.rm_base.specs.declared.refusal.Parameter.{Parameter}
use Rattle.rm_base.specs.declared.refusal.Parameter.TheVariants as parameter
use Rattle.rm_base.specs.declared.statement.Statement.{Statement}
use Rattle.rm_base.specs.declared.statement.Statement.TheVariants as statement
use Rattle.rm_base.specs.WellFormed.{is_named}
use Rattle.rm_words.specs.declared.token.Symbol.TheVariants.{Semicolon, Minus}
use Rattle.rm_words.specs.Names.{key, name}
use Rattle.rm_words.specs.Token.{Token, Bare, Sign}
use Rattle.pool_sql.specs.declared.setting.Setting.{Setting}
use Rattle.pool_sql.specs.declared.setting.Setting.TheVariants as setting
use Rattle.pool_sql.specs.declared.stop.Stop.{Stop}
use Rattle.pool_sql.specs.declared.stop.Stop.TheVariants as stop
use Rattle.pool_sql.specs.Parameter.{is_affinity, parameter_of, takes_any}
use Rattle.pool_sql.specs.Setting.{no_pool_change, no_user_change, set}
use Rattle.pool_sql.specs.Value.{negative_of, optional_name, value_of}

-- the key word that stands between a parameter's first and its value
abbrev pub more_keys : Parameter → List Token
more_keys parameter.Cascade = key (codes "TO") ∷ []
more_keys parameter.ResourcePool = key (codes "POOL") ∷ []
more_keys _ = []

-- what words set a parameter to
pub data IsValue : Parameter → Setting → List Token → Type 0 where
  one : (p : Parameter) (x : Setting) (t : Token) → value_of p t ≡ Ok x → IsValue p x (t ∷ [])
  minus : (n : ℤ) (t : Token) → negative_of t ≡ Ok n
      → IsValue parameter.Priority (setting.Priority n) (Sign Minus ∷ t ∷ [])

-- a statement without `;`. `false` stands for an ALTER whose first parameter is still to come
pub data IsBody : Bool → Statement → List Token → Type 0 where
  create_pool : (n : Name) → IsBody true (statement.CreatePool n no_pool_change)
      (key (codes "CREATE") ∷ key (codes "RESOURCE") ∷ key (codes "POOL") ∷ name n ∷ [])
  alter_pool : (n : Name) → IsBody false (statement.AlterPool n no_pool_change)
      (key (codes "ALTER") ∷ key (codes "RESOURCE") ∷ key (codes "POOL") ∷ name n ∷ [])
  drop_pool : (n : Name) → IsBody true (statement.DropPool n)
      (key (codes "DROP") ∷ key (codes "RESOURCE") ∷ key (codes "POOL") ∷ name n ∷ [])
  create_user : (n : Name) → IsBody true (statement.CreateUser n no_user_change)
      (key (codes "CREATE") ∷ key (codes "USER") ∷ name n ∷ [])
  alter_user : (n : Name) → IsBody false (statement.AlterUser n no_user_change)
      (key (codes "ALTER") ∷ key (codes "USER") ∷ name n ∷ [])
  drop_user : (n : Name) → IsBody true (statement.DropUser n)
      (key (codes "DROP") ∷ key (codes "USER") ∷ name n ∷ [])
  create_role : (n : Name) → IsBody true (statement.CreateRole n)
      (key (codes "CREATE") ∷ key (codes "ROLE") ∷ name n ∷ [])
  alter_role : (n : Name) (pool : Option Name) (t : Token) → optional_name t ≡ Ok pool
      → IsBody true (statement.AlterRole n pool)
      (key (codes "ALTER") ∷ key (codes "ROLE") ∷ name n ∷ key (codes "RESOURCE") ∷ key (codes "POOL") ∷ t ∷ [])
  drop_role : (n : Name) → IsBody true (statement.DropRole n)
      (key (codes "DROP") ∷ key (codes "ROLE") ∷ name n ∷ [])
  grant_usage : (p n : Name) → IsBody true (statement.GrantUsage p n)
      (key (codes "GRANT") ∷ key (codes "USAGE") ∷ key (codes "ON") ∷ key (codes "RESOURCE") ∷ key (codes "POOL")
      ∷ name p ∷ key (codes "TO") ∷ name n ∷ [])
  revoke_usage : (p n : Name) → IsBody true (statement.RevokeUsage p n)
      (key (codes "REVOKE") ∷ key (codes "USAGE") ∷ key (codes "ON") ∷ key (codes "RESOURCE") ∷ key (codes "POOL")
      ∷ name p ∷ key (codes "FROM") ∷ name n ∷ [])
  grant_role : (r u : Name) → IsBody true (statement.GrantRole r u)
      (key (codes "GRANT") ∷ name r ∷ key (codes "TO") ∷ name u ∷ [])
  revoke_role : (r u : Name) → IsBody true (statement.RevokeRole r u)
      (key (codes "REVOKE") ∷ name r ∷ key (codes "FROM") ∷ name u ∷ [])
  named : (b : Bool) (st : Statement) (ts : List Token) (t : Token) (p : Parameter) (x : Setting) (vs : List Token)
      → IsBody b st ts → parameter_of st t ≡ Some p → is_named p st ≡ false → IsValue p x vs
      → IsBody true (set st x) ((ts ++ t ∷ more_keys p) ++ vs)

-- the words are the statement
pub data Spells : List Token → Statement → Type 0 where
  bare : (st : Statement) (ts : List Token) → IsBody true st ts → Spells ts st
  ended : (st : Statement) (ts : List Token) → IsBody true st ts → Spells (ts ++ Sign Semicolon ∷ []) st

-- some statement begins with these words
abbrev pub IsFront : List Token → Type 0
IsFront ts = (rest : List Token) × (st : Statement) × Spells (ts ++ rest) st

-- a body and a parameter that it does not name yet, whose value comes next
pub data IsValueDue : Statement → Parameter → List Token → Type 0 where
  due : (b : Bool) (st : Statement) (ts : List Token) (t : Token) (p : Parameter)
      → IsBody b st ts → parameter_of st t ≡ Some p → is_named p st ≡ false → IsValueDue st p (ts ++ t ∷ more_keys p)

-- what is wrong with a word behind these, other than that no statement has it there
pub data Blames : List Token → Token → Stop → Type 0 where
  unknown : (b : Bool) (st : Statement) (ts : List Token) (word : List ℕ)
      → IsBody b st ts → takes_any st ≡ true → parameter_of st (Bare word) ≡ None → is_affinity (Bare word) ≡ false
      → Blames ts (Bare word) stop.Unknown
  affinity : (b : Bool) (st : Statement) (ts : List Token) (word : List ℕ)
      → IsBody b st ts → takes_any st ≡ true → parameter_of st (Bare word) ≡ None → is_affinity (Bare word) ≡ true
      → Blames ts (Bare word) stop.NotSupported
  repeated : (b : Bool) (st : Statement) (ts : List Token) (t : Token) (p : Parameter)
      → IsBody b st ts → parameter_of st t ≡ Some p → is_named p st ≡ true → Blames ts t (stop.Repeated p)
  value : (st : Statement) (p : Parameter) (ts : List Token) (t : Token) (why : Stop)
      → IsValueDue st p ts → value_of p t ≡ Err why → why ≢ stop.Syntax → Blames ts t why
  negative : (st : Statement) (ts : List Token) (t : Token) (why : Stop)
      → IsValueDue st parameter.Priority ts → negative_of t ≡ Err why → why ≢ stop.Syntax
      → Blames (ts ++ Sign Minus ∷ []) t why

-- what is blamed, or else Syntax
abbrev pub IsWhy : List Token → Token → Stop → Type 0
IsWhy front t why = Blames front t why ⊎ ((why ≡ stop.Syntax) × ((other : Stop) → Blames front t other → ⊥))
