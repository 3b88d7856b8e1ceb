-- What a query is granted, in bytes, and what its rows hold of it.
use Rattle.std.specs.Prelude.{ℕ}

pub record Metered : Type 0 where
  pub grant : ℕ
  pub held : ℕ
