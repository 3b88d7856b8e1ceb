-- what the class of a byte says of it
use Rattle.std.proofs.Common.{◌≡◌, ◌≢◌, ℕ, ◌<◌, Bool, true, false, ◌==◌, if◌then◌else◌, refl, subst, arith}
use Rattle.std.specs.Char.{is_ascii_digit}
use Rattle.std.specs.Int.{IsInRange}
use Rattle.std.proofs.lemmas.Bool.Decides.{nat_tests}
use Rattle.rm_words.specs.declared.class.Class.{Class}
use Rattle.rm_words.specs.declared.class.Class.TheVariants.{Letter, Digit, Quote, Blank, Less, Greater, Equal, Mark, Other}
use Rattle.rm_words.specs.Class.{class_of, begins_bare, is_blank, is_mark}

-- the class by the tests in their order
chain : (a b c d e f g h : Bool) → Class
chain a b c d e f g h =
    if a then Letter
    else (if b then Digit
    else (if c then Quote
    else (if d then Blank
    else (if e then Less
    else (if f then Greater
    else (if g then Equal
    else (if h then Mark else Other)))))))

-- the test that a class passed
abbrev Passed : (a b c d e f g h : Bool) → Class → Type 0
Passed a b c d e f g h Letter = a ≡ true
Passed a b c d e f g h Digit = b ≡ true
Passed a b c d e f g h Quote = c ≡ true
Passed a b c d e f g h Blank = d ≡ true
Passed a b c d e f g h Less = e ≡ true
Passed a b c d e f g h Greater = f ≡ true
Passed a b c d e f g h Equal = g ≡ true
Passed a b c d e f g h Mark = h ≡ true
Passed a b c d e f g h Other = Unit {0}

passed : (a b c d e f g h : Bool) → Passed a b c d e f g h (chain a b c d e f g h)
unfolding chain
passed true b c d e f g h = refl
passed false true c d e f g h = refl
passed false false true d e f g h = refl
passed false false false true e f g h = refl
passed false false false false true f g h = refl
passed false false false false false true g h = refl
passed false false false false false false true h = refl
passed false false false false false false false true = refl
passed false false false false false false false false = tt

-- what is known of a byte of this class
abbrev pub Tells : ℕ → Class → Type 0
Tells byte k =
    Passed (begins_bare byte) (is_ascii_digit byte) (byte == 39) (is_blank byte) (byte == 60) (byte == 62) (byte == 61) (is_mark byte) k

pub class_tells : (byte : ℕ) (k : Class) → class_of byte ≡ k → Tells byte k
unfolding chain
class_tells byte k is =
    subst (λ x. Tells byte x) is
    (passed (begins_bare byte) (is_ascii_digit byte) (byte == 39) (is_blank byte) (byte == 60) (byte == 62) (byte == 61) (is_mark byte))

pub digit_range : (byte : ℕ) → class_of byte ≡ Digit → IsInRange 48 57 byte
digit_range byte is = let told : is_ascii_digit byte ≡ true = class_tells byte Digit is in grind (arith, nat_tests)

letter_ascii : (byte : ℕ) → begins_bare byte ≡ true → byte < 128
letter_ascii byte told = grind (arith, nat_tests)

digit_ascii : (byte : ℕ) → is_ascii_digit byte ≡ true → byte < 128
digit_ascii byte told = grind (arith, nat_tests)

blank_ascii : (byte : ℕ) → is_blank byte ≡ true → byte < 128
blank_ascii byte told = grind (arith, nat_tests)

mark_ascii : (byte : ℕ) → is_mark byte ≡ true → byte < 128
mark_ascii byte told = grind (arith, nat_tests)

one_ascii : (byte n : ℕ) → n < 128 → (byte == n) ≡ true → byte < 128
one_ascii byte n small told = grind (arith, nat_tests)

tells_ascii : (byte : ℕ) (k : Class) → Tells byte k → k ≢ Other → byte < 128
tells_ascii byte Letter told h = letter_ascii byte told
tells_ascii byte Digit told h = digit_ascii byte told
tells_ascii byte Quote told h = one_ascii byte 39 (omega arith) told
tells_ascii byte Blank told h = blank_ascii byte told
tells_ascii byte Less told h = one_ascii byte 60 (omega arith) told
tells_ascii byte Greater told h = one_ascii byte 62 (omega arith) told
tells_ascii byte Equal told h = one_ascii byte 61 (omega arith) told
tells_ascii byte Mark told h = mark_ascii byte told
tells_ascii byte Other told h = absurd (h refl)

-- what may stand in a word but not within quotes is ASCII
pub known_ascii : (byte : ℕ) → class_of byte ≢ Other → byte < 128
known_ascii byte h = tells_ascii byte (class_of byte) (class_tells byte (class_of byte) refl) h
