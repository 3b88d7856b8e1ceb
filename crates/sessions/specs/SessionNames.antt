-- The script's names of its sessions.
use Rattle.std.specs.Prelude.{ℕ, Bool, List, Option, option_map, find, position}
use Rattle.std.specs.List.{list_any}
use Rattle.rm_base.specs.declared.name.Name.{Name}
use Rattle.rm_base.specs.Name.{same_name}
use Rattle.rm_rules.specs.State.{without}

-- a session, by the script's name for it
pub record NamedSession : Type 0 where
  pub name : Name
  pub session : ℕ

-- some session has this name
abbrev pub has_session : List NamedSession → Name → Bool
has_session names name = list_any (λ n. same_name n.name name) names

-- the place of the first session that has this name
abbrev pub place_named : List NamedSession → Name → Option ℕ
place_named names name = position (λ n. same_name n.name name) names

-- the session that has this name
abbrev pub session_named : List NamedSession → Name → Option ℕ
session_named names name = option_map (λ n. n.session) (find (λ n. same_name n.name name) names)

-- the names without the first that is this one
abbrev pub without_name : Name → List NamedSession → List NamedSession
without_name name names = without (λ n. same_name n.name name) names
