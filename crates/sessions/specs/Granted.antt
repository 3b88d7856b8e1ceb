-- Grants and sessions, as contracts see them.
use Rattle.std.specs.Prelude.{ℕ, Bool}

-- a grant: the session and the query to which it was given, and its bytes
pub record Granted : Type 0 where
  pub session : ℕ
  pub query : ℕ
  pub bytes : ℕ

-- a session: its number, and whether a grant of it is out
pub record SessionState : Type 0 where
  pub number : ℕ
  pub granted : Bool
