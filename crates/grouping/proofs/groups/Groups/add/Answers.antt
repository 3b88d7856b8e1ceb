use Rattle.std.proofs.Common.{rules, ◌≡◌, ◌<◌, ◌++◌, ◌∷◌, [], ◌∙◌, ap, sym, arith, length, get_or, set}
use Rattle.rm_rules.specs.AllFits.{groups_charge}
use Rattle.rm_rules.specs.Comparing.{columns}
use Rattle.spill_files.specs.declared.error.RunError.TheVariants.{NeedsSpill}
use Rattle.tuples.specs.Tuple.{tuple_values}
use Rattle.grouping.specs.Gathering.{Gathered, gathered, keys_of}
use Rattle.grouping.specs.Tallying.{all_added}
use Rattle.grouping.proofs.Cases.{if_err, on_ok}
use Rattle.grouping.proofs.SeenLemmas.{charge_grows, charge_stays, gathered_new, gathered_old, written_back}
use Rattle.grouping.proofs.groups.Groups.add.Goals as goal

pub returns-in_ok-add_at-in-Some-clause-ok : goal.returns-in_ok-add_at-in-Some-clause-ok
returns-in_ok-add_at-in-Some-clause-ok c spec rows few is =
    let old = c.self.inside in
    let row = tuple_values c.args.tuple in
    let p = c.in-Some.place in
    let s : Gathered = record { spec = old.spec; room = old.room; charge = old.charge; groups = old.groups.items } in
    let seen : s ≡ gathered spec c.args.self.now.room rows = c.self.view_is ∙ is in
    let within : p < length s.groups = omega (arith, c.in-Some.ensures.within, ap length c.deref.ensures.value) in
    let at : get_or (keys_of s.groups) p [] ≡ columns s.spec.keys row =
    ap (λ l. get_or (keys_of l) p []) (sym c.deref.ensures.value) ∙ c.in-Some.ensures.found ∙ ap (λ ks. columns ks row) c.as_slice-keys.ensures in
    gathered_old s spec c.args.self.now.room rows row _ p few seen within at
    (λ none. written_back c.add_at.new.groups old.groups.items old.groups.len (omega (arith, c.add_at.auto.groups, c.deref_mut.ensures.len))
    ∙ c.in_ok-add_at-in-Some.ensures.ok none
    ∙ ap (λ l. set l p ((get_or l p none).0, all_added row (get_or l p none).1)) c.deref_mut.ensures.value)

pub returns-in_ok-add_at-in-Some-clause-fits : goal.returns-in_ok-add_at-in-Some-clause-fits
returns-in_ok-add_at-in-Some-clause-fits c spec rows is =
    let old = c.self.inside in
    let row = tuple_values c.args.tuple in
    let p = c.in-Some.place in
    let s : Gathered = record { spec = old.spec; room = old.room; charge = old.charge; groups = old.groups.items } in
    let seen : s ≡ gathered spec c.args.self.now.room rows = c.self.view_is ∙ is in
    let within : p < length s.groups = omega (arith, c.in-Some.ensures.within, ap length c.deref.ensures.value) in
    let at : get_or (keys_of s.groups) p [] ≡ columns s.spec.keys row =
    ap (λ l. get_or (keys_of l) p []) (sym c.deref.ensures.value) ∙ c.in-Some.ensures.found ∙ ap (λ ks. columns ks row) c.as_slice-keys.ensures in
    let room : old.room ≡ c.args.self.now.room = ap (λ (g : Gathered). g.room) c.self.view_is in
    omega (arith, charge_stays s spec c.args.self.now.room rows row p seen within at, c.self.invariant.1, room)

pub returns-in-None-clause-ok : goal.returns-in-None-clause-ok
returns-in-None-clause-ok c spec rows few is =
    on_ok c.put_new.result c.put_new.ensures.ok (λ was. gathered_new c.args.self.now c.put_new.new.self spec rows (tuple_values c.args.tuple) few is (search rules) was)

pub returns-in-None-clause-fits : goal.returns-in-None-clause-fits
returns-in-None-clause-fits c spec rows is =
    on_ok c.put_new.result c.put_new.ensures.fits (λ fits. omega (arith, fits, charge_grows c.args.self.now spec rows (tuple_values c.args.tuple) is (search rules)))

pub returns-in-None-clause-spills : goal.returns-in-None-clause-spills
returns-in-None-clause-spills c spec rows is =
    if_err c.put_new.result _ (λ e. e ≡ NeedsSpill → c.args.self.now.room < groups_charge spec (rows ++ tuple_values c.args.tuple ∷ [])) c.put_new.ensures.spills
    (λ e spills was. omega (arith, spills was, charge_grows c.args.self.now spec rows (tuple_values c.args.tuple) is (search rules)))
