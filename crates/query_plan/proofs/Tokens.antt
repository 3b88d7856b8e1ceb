-- which word a word is that passed a test
use Rattle.std.proofs.Common.{◌≡◌, ℕ, Bool, true, false, if◌then◌else◌, Option, Some, None, List, refl, ap, subst}
use Rattle.rm_base.specs.declared.name.Name.{Name}
use Rattle.rm_words.specs.declared.token.Symbol.{Symbol}
use Rattle.rm_words.specs.declared.token.Symbol.TheVariants as symbol
use Rattle.rm_words.specs.Names.{name_of}
use Rattle.rm_words.specs.Token.{Token, Bare, Number, Quoted, Sign, is_key}
use Rattle.rm_words.proofs.Keys.{is_key-eq}
use Rattle.rm_words.proofs.NameLemmas.{name_of-eq}
use Rattle.rm_words.proofs.Results.{some_is, none_some}
use Rattle.query_plan.specs.declared.part.Partial.{Partial}
use Rattle.query_plan.specs.declared.part.Turn.TheVariants.{Goes, Ends, Stops}
use Rattle.query_plan.specs.declared.raw.Function.{Function}
use Rattle.query_plan.specs.declared.raw.Function.TheVariants as function
use Rattle.query_plan.specs.declared.raw.RawPart.{RawPart}
use Rattle.query_plan.specs.Grammar.{function_word}
use Rattle.query_plan.specs.Machine.{function_in, goes, is_close, is_comma, is_dot, is_open, is_semicolon, is_star}
use Rattle.query_plan.specs.Word.{Word, key_at, name_at, sign_at}

pub word-name : (w : Word) (n : Name) → name_of w.says ≡ Some n → w ≡ name_at w.place n
word-name w n h = ap (λ t. let v : Word = record { place = w.place; says = t } in v) (name_of-eq w.says n h)

pub word-key : (w : Word) (k : List ℕ) → is_key w.says k ≡ true → w ≡ key_at w.place k
word-key w k h = ap (λ t. let v : Word = record { place = w.place; says = t } in v) (is_key-eq w.says k h)

dot_is : (t : Token) → is_dot t ≡ true → t ≡ Sign symbol.Dot
dot_is (Sign symbol.Dot) h = refl
dot_is (Sign symbol.AtMost) h = absurd cc
dot_is (Sign symbol.AtLeast) h = absurd cc
dot_is (Sign symbol.Unequal) h = absurd cc
dot_is (Sign symbol.Open) h = absurd cc
dot_is (Sign symbol.Close) h = absurd cc
dot_is (Sign symbol.Comma) h = absurd cc
dot_is (Sign symbol.Star) h = absurd cc
dot_is (Sign symbol.Equal) h = absurd cc
dot_is (Sign symbol.Less) h = absurd cc
dot_is (Sign symbol.Greater) h = absurd cc
dot_is (Sign symbol.Semicolon) h = absurd cc
dot_is (Sign symbol.Minus) h = absurd cc
dot_is (Bare word) h = absurd cc
dot_is (Number n) h = absurd cc
dot_is (Quoted text) h = absurd cc

comma_is : (t : Token) → is_comma t ≡ true → t ≡ Sign symbol.Comma
comma_is (Sign symbol.Comma) h = refl
comma_is (Sign symbol.AtMost) h = absurd cc
comma_is (Sign symbol.AtLeast) h = absurd cc
comma_is (Sign symbol.Unequal) h = absurd cc
comma_is (Sign symbol.Open) h = absurd cc
comma_is (Sign symbol.Close) h = absurd cc
comma_is (Sign symbol.Dot) h = absurd cc
comma_is (Sign symbol.Star) h = absurd cc
comma_is (Sign symbol.Equal) h = absurd cc
comma_is (Sign symbol.Less) h = absurd cc
comma_is (Sign symbol.Greater) h = absurd cc
comma_is (Sign symbol.Semicolon) h = absurd cc
comma_is (Sign symbol.Minus) h = absurd cc
comma_is (Bare word) h = absurd cc
comma_is (Number n) h = absurd cc
comma_is (Quoted text) h = absurd cc

semicolon_is : (t : Token) → is_semicolon t ≡ true → t ≡ Sign symbol.Semicolon
semicolon_is (Sign symbol.Semicolon) h = refl
semicolon_is (Sign symbol.AtMost) h = absurd cc
semicolon_is (Sign symbol.AtLeast) h = absurd cc
semicolon_is (Sign symbol.Unequal) h = absurd cc
semicolon_is (Sign symbol.Open) h = absurd cc
semicolon_is (Sign symbol.Close) h = absurd cc
semicolon_is (Sign symbol.Comma) h = absurd cc
semicolon_is (Sign symbol.Dot) h = absurd cc
semicolon_is (Sign symbol.Star) h = absurd cc
semicolon_is (Sign symbol.Equal) h = absurd cc
semicolon_is (Sign symbol.Less) h = absurd cc
semicolon_is (Sign symbol.Greater) h = absurd cc
semicolon_is (Sign symbol.Minus) h = absurd cc
semicolon_is (Bare word) h = absurd cc
semicolon_is (Number n) h = absurd cc
semicolon_is (Quoted text) h = absurd cc

open_is : (t : Token) → is_open t ≡ true → t ≡ Sign symbol.Open
open_is (Sign symbol.Open) h = refl
open_is (Sign symbol.AtMost) h = absurd cc
open_is (Sign symbol.AtLeast) h = absurd cc
open_is (Sign symbol.Unequal) h = absurd cc
open_is (Sign symbol.Close) h = absurd cc
open_is (Sign symbol.Comma) h = absurd cc
open_is (Sign symbol.Dot) h = absurd cc
open_is (Sign symbol.Star) h = absurd cc
open_is (Sign symbol.Equal) h = absurd cc
open_is (Sign symbol.Less) h = absurd cc
open_is (Sign symbol.Greater) h = absurd cc
open_is (Sign symbol.Semicolon) h = absurd cc
open_is (Sign symbol.Minus) h = absurd cc
open_is (Bare word) h = absurd cc
open_is (Number n) h = absurd cc
open_is (Quoted text) h = absurd cc

close_is : (t : Token) → is_close t ≡ true → t ≡ Sign symbol.Close
close_is (Sign symbol.Close) h = refl
close_is (Sign symbol.AtMost) h = absurd cc
close_is (Sign symbol.AtLeast) h = absurd cc
close_is (Sign symbol.Unequal) h = absurd cc
close_is (Sign symbol.Open) h = absurd cc
close_is (Sign symbol.Comma) h = absurd cc
close_is (Sign symbol.Dot) h = absurd cc
close_is (Sign symbol.Star) h = absurd cc
close_is (Sign symbol.Equal) h = absurd cc
close_is (Sign symbol.Less) h = absurd cc
close_is (Sign symbol.Greater) h = absurd cc
close_is (Sign symbol.Semicolon) h = absurd cc
close_is (Sign symbol.Minus) h = absurd cc
close_is (Bare word) h = absurd cc
close_is (Number n) h = absurd cc
close_is (Quoted text) h = absurd cc

star_is : (t : Token) → is_star t ≡ true → t ≡ Sign symbol.Star
star_is (Sign symbol.Star) h = refl
star_is (Sign symbol.AtMost) h = absurd cc
star_is (Sign symbol.AtLeast) h = absurd cc
star_is (Sign symbol.Unequal) h = absurd cc
star_is (Sign symbol.Open) h = absurd cc
star_is (Sign symbol.Close) h = absurd cc
star_is (Sign symbol.Comma) h = absurd cc
star_is (Sign symbol.Dot) h = absurd cc
star_is (Sign symbol.Equal) h = absurd cc
star_is (Sign symbol.Less) h = absurd cc
star_is (Sign symbol.Greater) h = absurd cc
star_is (Sign symbol.Semicolon) h = absurd cc
star_is (Sign symbol.Minus) h = absurd cc
star_is (Bare word) h = absurd cc
star_is (Number n) h = absurd cc
star_is (Quoted text) h = absurd cc

word-sign : (w : Word) (s : Symbol) → w.says ≡ Sign s → w ≡ sign_at w.place s
word-sign w s h = ap (λ t. let v : Word = record { place = w.place; says = t } in v) h

pub word-dot : (w : Word) → is_dot w.says ≡ true → w ≡ sign_at w.place symbol.Dot
word-dot w h = word-sign w symbol.Dot (dot_is w.says h)

pub word-open : (w : Word) → is_open w.says ≡ true → w ≡ sign_at w.place symbol.Open
word-open w h = word-sign w symbol.Open (open_is w.says h)

pub word-close : (w : Word) → is_close w.says ≡ true → w ≡ sign_at w.place symbol.Close
word-close w h = word-sign w symbol.Close (close_is w.says h)

pub word-star : (w : Word) → is_star w.says ≡ true → w ≡ sign_at w.place symbol.Star
word-star w h = word-sign w symbol.Star (star_is w.says h)

-- a function is read from its key word
function-turn : (t : Token) (f : Function) (a b c d : Bool)
    → is_key t (function_word function.Count) ≡ a → is_key t (function_word function.Sum) ≡ b
    → is_key t (function_word function.Min) ≡ c → is_key t (function_word function.Max) ≡ d
    → (if a then Some function.Count else (if b then Some function.Sum
    else (if c then Some function.Min else (if d then Some function.Max else None)))) ≡ Some f
    → is_key t (function_word f) ≡ true
function-turn t f true b c d is_a is_b is_c is_d h =
    subst (λ g. is_key t (function_word g) ≡ true) (some_is function.Count f h) is_a
function-turn t f false true c d is_a is_b is_c is_d h =
    subst (λ g. is_key t (function_word g) ≡ true) (some_is function.Sum f h) is_b
function-turn t f false false true d is_a is_b is_c is_d h =
    subst (λ g. is_key t (function_word g) ≡ true) (some_is function.Min f h) is_c
function-turn t f false false false true is_a is_b is_c is_d h =
    subst (λ g. is_key t (function_word g) ≡ true) (some_is function.Max f h) is_d
function-turn t f false false false false is_a is_b is_c is_d h = absurd (none_some f h)

pub word-function : (w : Word) (f : Function) → function_in w.says ≡ Some f → w ≡ key_at w.place (function_word f)
word-function w f h =
    word-key w (function_word f)
    (function-turn w.says f (is_key w.says (function_word function.Count)) (is_key w.says (function_word function.Sum))
    (is_key w.says (function_word function.Min)) (is_key w.says (function_word function.Max)) refl refl refl refl h)

pub word-comma : (w : Word) → is_comma w.says ≡ true → w ≡ sign_at w.place symbol.Comma
word-comma w h = word-sign w symbol.Comma (comma_is w.says h)

pub word-semicolon : (w : Word) → is_semicolon w.says ≡ true → w ≡ sign_at w.place symbol.Semicolon
word-semicolon w h = word-sign w symbol.Semicolon (semicolon_is w.says h)

-- turns whose parts are known
pub goes_is : (p q : Partial) → Goes p ≡ Goes q → p ≡ q
goes_is p q h = cc

pub ends_is : (x y : RawPart) → Ends x ≡ Ends y → x ≡ y
ends_is x y h = cc

pub goes_ends : (p : Partial) (x : RawPart) → Goes p ≡ Ends x → ⊥
goes_ends p x h = cc

pub ends_goes : (x : RawPart) (p : Partial) → Ends x ≡ Goes p → ⊥
ends_goes x p h = cc

pub stops_goes : (p : Partial) → Stops ≡ Goes p → ⊥
stops_goes p h = cc

pub stops_ends : (x : RawPart) → Stops ≡ Ends x → ⊥
stops_ends x h = cc

pub goes-some : (o : Option Partial) (q : Partial) → goes o ≡ Goes q → o ≡ Some q
goes-some None q h = absurd (stops_goes q h)
goes-some (Some p) q h = ap (λ r. Some r) (goes_is p q h)

pub goes-no_end : (o : Option Partial) (x : RawPart) → goes o ≡ Ends x → ⊥
goes-no_end None x h = stops_ends x h
goes-no_end (Some p) x h = goes_ends p x h
