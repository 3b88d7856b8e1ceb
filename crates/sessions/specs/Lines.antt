-- Which lines of a script are read at all. The lines themselves are std's `lines`.
use Rattle.std.specs.Prelude.{ℕ, Bool, ◌&&◌, nat_le, List, length}
use Rattle.std.specs.Str.{is_utf8}
use Rattle.rm_base.specs.declared.limits.TheConstants.{LINE_MOST}

-- a line is not too long, and is a text
abbrev pub is_readable : List ℕ → Bool
is_readable line = nat_le (length line) LINE_MOST && is_utf8 line
