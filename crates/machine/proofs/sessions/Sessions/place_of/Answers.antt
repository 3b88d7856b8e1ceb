use Rattle.std.proofs.Common.{◌≡◌, true, false, eqb, ltb, rules, sym, ap, subst, ◌∙◌, arith, position, get_or, List}
use Rattle.std.proofs.lemmas.Bool.Decides.{nat_tests}
use Rattle.std.proofs.lemmas.List.Sorted.{IsPartitionPoint-from_clause, IsPartitionedBy-ltb}
use Rattle.rm_rules.specs.declared.state.Session.{Session}
use Rattle.machine.specs.Sessions.{do_rise, numbers}
use Rattle.machine.proofs.Rising.{non-decreasing, place-found, place-absent, place-past}
use Rattle.machine.proofs.sessions.Sessions.place_of.Goals.{else-place-rows-via-then-place-rows+else-rows-place, else-place-rows-via-else-place-rows}
use Rattle.machine.proofs.sessions.Sessions.place_of.Goals as goal

pub returns-then-rows-place-clause-value : goal.returns-then-rows-place-clause-value
returns-then-rows-place-clause-value c =
    let rows = c.rows-rows.result.now in
    let rising = subst (λ (l : List Session). do_rise (numbers l) ≡ true) (sym c.rows-rows.ensures.rows) c.self.invariant.rising in
    let parted = IsPartitionedBy-ltb (λ (x : Session). x.number) rows c.args.number (non-decreasing rows rising) in
    let point = IsPartitionPoint-from_clause (λ (x : Session). ltb x.number c.args.number) _ _ c.partition_point-place.ensures.partitioned parted (λ a r q k. search rules) in
    let x = c.index-rows-place.result in
    sym (place-found rows c.args.number c.partition_point-place.result x point c.if-place-rows.true c.index-rows-place.is (ap (λ (y : Session). y.number) c.index-rows-place.is ∙ c.if-rows-place.true))
    ∙ ap (λ (l : List Session). position (λ (y : Session). eqb y.number c.args.number) l) (c.rows-rows.ensures.rows ∙ c.self.view_is)

pub returns-else-place-rows-clause-value : goal.returns-else-place-rows-clause-value
returns-else-place-rows-clause-value c =
    let rows = c.rows-rows.result.now in
    let rising = subst (λ (l : List Session). do_rise (numbers l) ≡ true) (sym c.rows-rows.ensures.rows) c.self.invariant.rising in
    let parted = IsPartitionedBy-ltb (λ (x : Session). x.number) rows c.args.number (non-decreasing rows rising) in
    let point = IsPartitionPoint-from_clause (λ (x : Session). ltb x.number c.args.number) _ _ c.partition_point-place.ensures.partitioned parted (λ a r q k. search rules) in
    let i = c.partition_point-place.result in
    let there = ap (λ (l : List Session). position (λ (y : Session). eqb y.number c.args.number) l) (c.rows-rows.ensures.rows ∙ c.self.view_is) in
    elim c.else-place-rows.branch [
      | else-place-rows-via-then-place-rows+else-rows-place w ↦
          sym (place-absent rows c.args.number i w.index-rows-place.result rising point c.partition_point-place.ensures.bound (λ within. let other : eqb (get_or rows i w.index-rows-place.result).number c.args.number ≡ false = grind (arith, nat_tests, w.if-rows-place.false) in other)) ∙ there
      | else-place-rows-via-else-place-rows w ↦ sym (place-past rows c.args.number i rising point w.if-place-rows.false c.partition_point-place.ensures.bound) ∙ there
    ]
