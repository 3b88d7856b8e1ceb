-- what each byte may do in a word
use Rattle.std.specs.Prelude.{ℕ, Bool, ◌||◌, ◌==◌, if◌then◌else◌}
use Rattle.std.specs.Char.{is_ascii_alphabetic, is_ascii_digit}
use Rattle.rm_words.specs.declared.class.Class.{Class}
use Rattle.rm_words.specs.declared.class.Class.TheVariants.{Letter, Digit, Quote, Blank, Less, Greater, Equal, Mark, Other}

-- a letter of ASCII or `_`, with which a bare word begins
abbrev pub begins_bare : ℕ → Bool
begins_bare c = is_ascii_alphabetic c || (c == 95)

-- a space, a tab, a CR or an LF
abbrev pub is_blank : ℕ → Bool
is_blank c = (c == 32) || (c == 9) || (c == 13) || (c == 10)

-- one of `( ) , . * ; -`
abbrev pub is_mark : ℕ → Bool
is_mark c =
    (c == 40) || (c == 41) || (c == 44) || (c == 46) || (c == 42) || (c == 59) || (c == 45)

-- what a byte may do in a word
abbrev pub class_of : ℕ → Class
class_of c =
    if begins_bare c then Letter
    else (if is_ascii_digit c then Digit
    else (if c == 39 then Quote
    else (if is_blank c then Blank
    else (if c == 60 then Less
    else (if c == 62 then Greater
    else (if c == 61 then Equal
    else (if is_mark c then Mark else Other)))))))
