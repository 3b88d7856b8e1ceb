-- what the bytes of a word so far may become
use Rattle.std.specs.Prelude.{Bool, true, false, if◌then◌else◌}
use Rattle.rm_words.specs.declared.class.Class.{Class}
use Rattle.rm_words.specs.declared.class.Class.TheVariants as class
use Rattle.rm_words.specs.declared.scan.Scan.{Scan}
use Rattle.rm_words.specs.declared.scan.Scan.TheVariants as scan
use Rattle.rm_words.specs.Word.{goes_on, is_digit}

-- what a word may become that begins with such a byte
abbrev pub begun : Class → Scan
begun class.Letter = scan.Bare
begun class.Digit = scan.Number
begun class.Quote = scan.Open
begun class.Blank = scan.Dead
begun class.Less = scan.Less
begun class.Greater = scan.Greater
begun class.Equal = scan.Whole
begun class.Mark = scan.Whole
begun class.Other = scan.Dead

-- one byte more
abbrev pub step : Scan → Class → Scan
step scan.Start k = begun k
step scan.Bare k = if goes_on k then scan.Bare else scan.Dead
step scan.Number k = if is_digit k then scan.Number else scan.Dead
step scan.Open class.Quote = scan.Half
step scan.Open _ = scan.Open
step scan.Half class.Quote = scan.Open
step scan.Half _ = scan.Dead
step scan.Less class.Equal = scan.Whole
step scan.Less class.Greater = scan.Whole
step scan.Less _ = scan.Dead
step scan.Greater class.Equal = scan.Whole
step scan.Greater _ = scan.Dead
step scan.Whole _ = scan.Dead
step scan.Dead _ = scan.Dead

-- the bytes so far are a word
abbrev pub accepts : Scan → Bool
accepts scan.Bare = true
accepts scan.Number = true
accepts scan.Half = true
accepts scan.Less = true
accepts scan.Greater = true
accepts scan.Whole = true
accepts _ = false

-- no word begins so
abbrev pub is_dead : Scan → Bool
is_dead scan.Dead = true
is_dead _ = false
