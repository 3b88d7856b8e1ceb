-- What a reading by `clap` says of what is given.
use Rattle.std.proofs.Common.{◌≡◌, ◌≢◌, Bool, true, false, ◌&&◌, if◌then◌else◌, List, ℕ, [], ◌∷◌, Option, Some, None, Result, IfOk, refl, ap, subst}
use Rattle.clap.specs.Words.{App, HasMatchesOf, Kinds, Row, found_of, is_simple, is_simple_and_free, matches_of, rows_of}
use Rattle.clap.specs.declared.parser.matches.ArgMatches.{ArgMatches}
use Rattle.options.specs.CommandLine.{without_fault}

pub with-no-fault : (kinds : Kinds) (rows asked : List Row) → kinds ≡ [] → rows ≡ asked → Some rows ≡ without_fault kinds asked
with-no-fault [] rows asked none same = ap Some same
with-no-fault (k ∷ ks) rows asked none same = absurd (cc)

pub with-fault : (kinds : Kinds) (rows : List Row) → kinds ≢ [] → None ≡ without_fault kinds rows
with-fault [] rows some = absurd (some refl)
with-fault (k ∷ ks) rows some = refl

first-holds : (a b : Bool) → (a && b) ≡ true → a ≡ true
first-holds true b h = refl
first-holds false b h = h

-- the matches of a command that is simple
pub simple-matches : (app : App) (words : List (List ℕ)) (m : ArgMatches) → is_simple_and_free app ≡ true → HasMatchesOf app words m → rows_of (found_of m) ≡ matches_of app words
simple-matches app words m simple has = (has (first-holds (is_simple app) _ simple)).0

-- what is taken where the first word is the name
pub named-given : {T U E : Type 0} (r : Result T E) (f : T → Option U) (by : App → Option U) (named : Bool) (app asked : App)
    → true ≡ named → app ≡ asked → IfOk r (λ read. f read ≡ by app) → IfOk r (λ read. f read ≡ (if named then by asked else None))
named-given r f by named app asked is same h =
    subst (λ (n : Bool). IfOk r (λ read. f read ≡ (if n then by asked else None))) is
    (subst (λ (a : App). IfOk r (λ read. f read ≡ by a)) same h)
