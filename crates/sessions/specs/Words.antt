-- The words of a line.
use Rattle.std.specs.Prelude.{ℕ, Bool, ◌||◌, ◌-◌, ◌==◌, if◌then◌else◌, List, [], ◌∷◌, Option, Some, None, length, filter, nat_lt, slice_index}
use Rattle.std.specs.List.{slice_split}

-- the byte of a space
abbrev pub is_space : ℕ → Bool
is_space byte = byte == 32

-- a line begins or ends with a space
abbrev pub has_outer_space : List ℕ → Bool
has_outer_space line = is_space (slice_index line 0) || is_space (slice_index line (length line - 1))

-- what stands between the spaces, where one or more of them part two words
abbrev pub pieces : List ℕ → List (List ℕ)
pieces line = filter (λ piece. nat_lt 0 (length piece)) (slice_split is_space line)

-- the words of a line: a line that begins or ends with a space has none
abbrev pub line_words : List ℕ → List (List ℕ)
line_words line = if has_outer_space line then [] else pieces line

-- the one word behind the first, where there are two words
abbrev pub one_behind : List (List ℕ) → Option (List ℕ)
one_behind (first ∷ second ∷ []) = Some second
one_behind _ = None

-- the two words behind the first, where there are three words
abbrev pub two_behind : List (List ℕ) → Option (List ℕ × List ℕ)
two_behind (first ∷ second ∷ third ∷ []) = Some (second, third)
two_behind _ = None

-- the three words behind the first, where there are four words
abbrev pub three_behind : List (List ℕ) → Option (List ℕ × List ℕ × List ℕ)
three_behind (first ∷ second ∷ third ∷ fourth ∷ []) = Some (second, third, fourth)
three_behind _ = None
