-- which parameters a statement takes
use Rattle.std.specs.Prelude.{Bool, ◌||◌, nat_lt, Option, find, List, length, codes}
use Rattle.rm_base.specs.declared.refusal.Parameter.{Parameter}
use Rattle.rm_base.specs.declared.statement.Statement.{Statement}
use Rattle.rm_base.specs.RefusalText.{parameter_text}
use Rattle.rm_base.specs.WellFormed.{parameters}
use Rattle.rm_words.specs.Token.{Token, is_key}

-- the one of these parameters that a word names
abbrev pub parameter_among : List Parameter → Token → Option Parameter
parameter_among ps t = find (λ p. is_key t (parameter_text p)) ps

-- the parameter of the statement that a word names
abbrev pub parameter_of : Statement → Token → Option Parameter
parameter_of st t = parameter_among (parameters st) t

-- the statement takes parameters
abbrev pub takes_any : Statement → Bool
takes_any st = nat_lt 0 (length (parameters st))

-- names of parameters that are not supported
abbrev pub is_affinity : Token → Bool
is_affinity t = is_key t (codes "CPUAFFINITYSET") || is_key t (codes "CPUAFFINITYMODE")
