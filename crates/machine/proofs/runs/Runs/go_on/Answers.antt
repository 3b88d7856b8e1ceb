use Rattle.std.proofs.Common.{◌++◌, ◌∷◌, [], ℕ, ap, sym, ◌∙◌, remove, length, List, arith}
use Rattle.std.proofs.lemmas.List.Edits.{length-remove}
use Rattle.rm_rules.specs.declared.state.Holding.{Holding}
use Rattle.rm_rules.specs.Holdings.{Holdings}
use Rattle.rm_rules.specs.State.{without}
use Rattle.accounts.specs.Accounts.{is_of}
use Rattle.machine.specs.declared.runs.Run.{Run}
use Rattle.machine.proofs.Beside.{seen-rows, seen-known, seen-grant, seen-gone_on}
use Rattle.machine.proofs.runs.Runs.go_on.Goals as goal

pub move_to-requires-clause-runs : goal.move_to-requires-clause-runs
move_to-requires-clause-runs c = seen-known c.self.inside c.args.self.now c.args.r.now c.self.view_is c.self.invariant c.requires.runs

pub remove-requires : goal.remove-requires
remove-requires c = (omega arith, omega (arith, c.place_of_runner-place.ensures.within, seen-rows c.self.inside c.args.self.now c.self.view_is c.self.invariant))

pub add-requires : goal.add-requires
add-requires c =
    let rows = c.self.inside.rows in
    let within = c.place_of_runner-place.ensures.within in
    let same = seen-rows c.self.inside c.args.self.now c.self.view_is c.self.invariant in
    let less = length-remove rows c.place_of_runner-place.result (omega (arith, within, same)) in
    (omega arith, omega (arith, c.place_of_runner-place.ensures.room, same, less, within, ap (λ (l : List Run). length l) c.remove.ensures.rest))

pub invariant_of-self : goal.invariant_of-self
invariant_of-self c =
    let r = c.args.r.now in
    let now = c.args.now.now in
    let gs = c.self.inside.accounts.grants in
    let row : ℕ → Holding = λ n. record { query = r.query; pool = now.pool; bytes = n } in
    let held = ap (λ (h : Holdings). h.grants) c.move_to.ensures
    ∙ ap (λ (n : ℕ). without (is_of r.query) gs ++ row n ∷ []) (seen-grant c.self.inside c.args.self.now r c.self.view_is c.self.invariant c.requires.once c.requires.runs)
    ∙ ap (λ (g : Holding). without (is_of r.query) gs ++ g ∷ []) (sym c.requires.holds) in
    let more = c.add.ensures ∙ ap (λ (l : List Run). l ++ c.run_of.result ∷ []) c.remove.ensures.rest
    ∙ ap (λ (x : Run). remove c.self.inside.rows c.place_of_runner-place.result ++ x ∷ []) c.run_of.ensures in
    (seen-gone_on c.self.inside c.args.self.now r now c.place_of_runner-place.result c.move_to.new.self.grants c.add.new.self c.self.view_is c.self.invariant c.requires.once c.requires.runs (c.place_of_runner-place.ensures.value, c.place_of_runner-place.ensures.within) held more).beside

pub returns-clause-running : goal.returns-clause-running
returns-clause-running c =
    let r = c.args.r.now in
    let now = c.args.now.now in
    let gs = c.self.inside.accounts.grants in
    let row : ℕ → Holding = λ n. record { query = r.query; pool = now.pool; bytes = n } in
    let held = ap (λ (h : Holdings). h.grants) c.move_to.ensures
    ∙ ap (λ (n : ℕ). without (is_of r.query) gs ++ row n ∷ []) (seen-grant c.self.inside c.args.self.now r c.self.view_is c.self.invariant c.requires.once c.requires.runs)
    ∙ ap (λ (g : Holding). without (is_of r.query) gs ++ g ∷ []) (sym c.requires.holds) in
    let more = c.add.ensures ∙ ap (λ (l : List Run). l ++ c.run_of.result ∷ []) c.remove.ensures.rest
    ∙ ap (λ (x : Run). remove c.self.inside.rows c.place_of_runner-place.result ++ x ∷ []) c.run_of.ensures in
    (seen-gone_on c.self.inside c.args.self.now r now c.place_of_runner-place.result c.move_to.new.self.grants c.add.new.self c.self.view_is c.self.invariant c.requires.once c.requires.runs (c.place_of_runner-place.ensures.value, c.place_of_runner-place.ensures.within) held more).running_are
