use Rattle.std.proofs.Common.{◌≡◌, ℕ, Bool, true, false, ◌&&◌, ◌==◌, length, refl, sym, ap, subst, arith}
use Rattle.std.specs.Str.{chars}
use Rattle.std.specs.String.{string_bytes}
use Rattle.std.proofs.lemmas.Bool.Decides.{nat_tests}
use Rattle.std.proofs.lemmas.Iterator.{YieldsList-from_chars}
use Rattle.std.proofs.lemmas.Iterator.Consumers.{YieldsList-turn, YieldsList-end}
use Rattle.std.proofs.lemmas.List.{length_push}
use Rattle.rm_words.proofs.Undoubling.{Undoubles, Undoubles-push, Undoubles-skip, Undoubles-start, Undoubles-end}
use Rattle.rm_words.proofs.token.undoubled.Goals as goal
use Rattle.rm_words.proofs.token.undoubled.Goals.{else-half-via-then-half+else-c-eq39, else-half-via-else-half}

pub loop-c-init : goal.loop-c-init
loop-c-init c = Undoubles-start c.args.text.now (string_bytes c.new-plain.result) c.utf8.text c.new-plain.ensures.bytes

pub loop-c-preserved-then-c-eq39 : goal.loop-c-preserved-then-c-eq39
loop-c-preserved-then-c-eq39 c =
    let text = c.args.text.now in
    let turn = YieldsList-turn (YieldsList-from_chars text c.utf8.text cc) c.loop-c.yielded _ c.loop-c.yielded_by _ _ c.in-Some.c c.in-Some.is c.next.ensures.steps in
    let so : Undoubles text (string_bytes c.loop-c.plain) true (length c.loop-c.yielded) (chars text) =
    subst (λ b. Undoubles text (string_bytes c.loop-c.plain) b (length c.loop-c.yielded) (chars text)) c.if-half.true c.loop-c.invariant in
    subst (λ n. Undoubles text (string_bytes c.loop-c.plain) false n (chars text)) (sym (length_push c.loop-c.yielded c.in-Some.c))
    (Undoubles-skip text (string_bytes c.loop-c.plain) (length c.loop-c.yielded) c.in-Some.c (chars text) turn.0 turn.1 c.if-c-eq39.true so)

not_second : (c : ℕ) (half : Bool) → (c ≡ 39 → ⊥) → (half && (c == 39)) ≡ false
not_second c true h = grind (arith, nat_tests)
not_second c false h = refl

pub loop-c-preserved : goal.loop-c-preserved
loop-c-preserved c =
    let text = c.args.text.now in
    let turn = YieldsList-turn (YieldsList-from_chars text c.utf8.text cc) c.loop-c.yielded _ c.loop-c.yielded_by _ _ c.in-Some.c c.in-Some.is c.next.ensures.steps in
    let first : (c.loop-c.half && (c.in-Some.c == 39)) ≡ false =
    elim c.else-half.branch [
      | else-half-via-then-half+else-c-eq39 w ↦ not_second c.in-Some.c c.loop-c.half w.if-c-eq39.false
      | else-half-via-else-half w ↦ ap (λ b. b && (c.in-Some.c == 39)) w.if-half.false
    ] in
    subst (λ n. Undoubles text (string_bytes c.push.new.self) (c.in-Some.c == 39) n (chars text)) (sym (length_push c.loop-c.yielded c.in-Some.c))
    (Undoubles-push text (string_bytes c.loop-c.plain) (string_bytes c.push.new.self) c.loop-c.half (length c.loop-c.yielded) c.in-Some.c (chars text)
    (c.in-Some.c == 39) turn.0 turn.1 refl first c.in_ok-push.ensures.bytes c.loop-c.invariant)

pub returns : goal.returns
returns c =
    let text = c.args.text.now in
    let end = YieldsList-end (YieldsList-from_chars text c.utf8.text cc) c.loop-c.yielded _ c.loop-c.yielded_by _ _ c.in-None.is c.next.ensures.steps in
    Undoubles-end text (string_bytes c.loop-c.plain) c.loop-c.half (length c.loop-c.yielded) (chars text) (omega (arith, end.1)) c.loop-c.invariant
