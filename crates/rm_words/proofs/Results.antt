-- options and results whose parts are known
use Rattle.std.proofs.Common.{◌≡◌, Option, None, Some, Result, Ok, Err}

pub some_is : {T : Type 0} (a b : T) → ◌≡◌ {A = Option T} (Some a) (Some b) → a ≡ b
some_is a b h = cc

pub none_some : {T : Type 0} (a : T) → ◌≡◌ {A = Option T} None (Some a) → ⊥
none_some a h = cc

pub ok_is : {T E : Type 0} (a b : T) → ◌≡◌ {A = Result T E} (Ok a) (Ok b) → a ≡ b
ok_is a b h = cc

pub err_is : {T E : Type 0} (a b : E) → ◌≡◌ {A = Result T E} (Err a) (Err b) → a ≡ b
err_is a b h = cc

pub ok_err : {T E : Type 0} (a : T) (b : E) → ◌≡◌ {A = Result T E} (Ok a) (Err b) → ⊥
ok_err a b h = cc

pub err_ok : {T E : Type 0} (a : E) (b : T) → ◌≡◌ {A = Result T E} (Err a) (Ok b) → ⊥
err_ok a b h = cc
