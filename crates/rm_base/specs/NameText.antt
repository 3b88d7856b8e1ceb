-- Which bytes are a name, and how a name is kept.
use Rattle.std.specs.Prelude.{ℕ, Bool, true, false, ◌&&◌, ◌||◌, ◌==◌, nat_le, not, List, [], ◌∷◌, length, if◌then◌else◌, codes}
use Rattle.std.specs.List.{list_all, list_any}
use Rattle.std.specs.Str.{bytes_eq}
use Rattle.rm_base.specs.declared.limits.TheConstants.{NAME_MOST}

-- a lower-case letter or `_`
abbrev pub begins_name : ℕ → Bool
begins_name c = (nat_le 97 c && nat_le c 122) || (c == 95)

-- a lower-case letter, `_` or a digit
abbrev pub continues_name : ℕ → Bool
continues_name c = begins_name c || (nat_le 48 c && nat_le c 57)

-- a letter or `_`, then letters, digits and `_`
abbrev pub is_bare : List ℕ → Bool
is_bare [] = false
is_bare (c ∷ cs) = begins_name c && list_all continues_name cs

-- the words that are no names
abbrev pub reserved_words : List (List ℕ)
reserved_words =
    codes "and" ∷ codes "as" ∷ codes "asc" ∷ codes "auto" ∷ codes "by" ∷ codes "count" ∷ codes "default" ∷ codes "desc"
    ∷ codes "from" ∷ codes "group" ∷ codes "hold" ∷ codes "join" ∷ codes "left" ∷ codes "limit" ∷ codes "max" ∷ codes "min"
    ∷ codes "none" ∷ codes "on" ∷ codes "order" ∷ codes "select" ∷ codes "sum" ∷ codes "where" ∷ []

abbrev pub is_reserved : List ℕ → Bool
is_reserved text = list_any (bytes_eq text) reserved_words

-- a name in lower case: a bare word of at most 32 bytes that is not reserved
abbrev pub is_name_text : List ℕ → Bool
is_name_text text = is_bare text && nat_le (length text) NAME_MOST && not (is_reserved text)

-- the bytes up to the first zero
abbrev pub text_in : List ℕ → List ℕ
text_in [] = []
text_in (b ∷ bs) = if b == 0 then [] else b ∷ text_in bs

-- nothing but zeros from the first zero on
abbrev pub is_padded : List ℕ → Bool
is_padded [] = true
is_padded (b ∷ bs) = if b == 0 then list_all (λ c. c == 0) bs else is_padded bs

-- how a name is kept: its text, and zeros behind it up to the greatest length
abbrev pub keeps_name : List ℕ → Bool
keeps_name bytes = is_name_text (text_in bytes) && is_padded bytes && (length bytes == NAME_MOST)
