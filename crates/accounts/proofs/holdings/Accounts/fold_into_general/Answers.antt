use Rattle.std.proofs.Common.{rules, ◌≡◌, ◌<◌, [], ℕ, Option, Some, List, length, map, get_or, sym, ap, subst, ◌∙◌, arith}
use Rattle.std.specs.List.{position_or_len}
use Rattle.std.specs.Option.{IsSome}
use Rattle.std.proofs.lemmas.List.{length-map}
use Rattle.rm_base.specs.declared.entry.Account.{Account}
use Rattle.rm_base.specs.declared.name.Name.{Name}
use Rattle.rm_base.specs.Name.{general}
use Rattle.rm_rules.specs.declared.state.Holding.{Holding}
use Rattle.rm_rules.specs.declared.state.Reserve.{Reserve}
use Rattle.rm_rules.specs.Holdings.{Holdings}
use Rattle.rm_rules.proofs.Places.{find-found, position-within, position-is}
use Rattle.rm_rules.specs.DropPool.{is_reserve_of, holding_beside}
use Rattle.accounts.specs.declared.numbers.Numbers.{Numbers}
use Rattle.accounts.specs.declared.numbers.Usage.{Usage}
use Rattle.accounts.specs.Kept.{IsBalanced, seen_holdings}
use Rattle.accounts.specs.Numbers.{numbers_of, general_reserve, no_usage, recounted}
use Rattle.accounts.proofs.Changes.{stands-found, usage-stands}
use Rattle.accounts.proofs.Folding.{kept_folded}
use Rattle.accounts.proofs.Handing.{accounts-are, accounts-length}
use Rattle.accounts.proofs.Moving.{position-present, reserve-present}
use Rattle.accounts.proofs.Pools.{numbers-folded}
use Rattle.accounts.proofs.Seen.{folded-seen}
use Rattle.accounts.proofs.Usages.{kept-seen, running-most, any-default}
use Rattle.accounts.proofs.holdings.Accounts.fold_into_general.Goals as goal

pub unwrap-place-requires : goal.unwrap-place-requires
unwrap-place-requires c =
    let es = c.args.self.now.reserves in
    let at : c.place_of_reserve.result ≡ Some (position_or_len (is_reserve_of c.args.pool) es) =
    c.place_of_reserve.ensures.value ∙ position-present (is_reserve_of c.args.pool) es (reserve-present c.args.pool es c.requires.known c.requires.not_general) in
    let P : Option ℕ → Type 0 = λ o. IsSome o in
    subst P (sym at) (search rules)

pub fold-requires-clause-running : goal.fold-requires-clause-running
fold-requires-clause-running c =
    let a = c.args.self.now in
    let i = c.unwrap-place.result in
    let found = sym c.place_of_reserve.ensures.value ∙ c.unwrap-place.ensures in
    let k = subst IsBalanced c.self.view_is c.self.invariant.balanced in
    let kept = kept-seen c.self.inside.kept (seen_holdings c.self.inside) a c.self.invariant.numbers c.self.view_is in
    omega (
      arith,
      c.count-few.ensures.most,
      c.count-few.ensures.value,
      running-most a general,
      running-most a c.args.pool,
      ap (λ (n : Numbers). n.general.running) kept,
      ap (λ (n : Numbers). (get_or n.usages i no_usage).running) kept,
      ap (λ (u : Usage). u.running) (usage-stands a c.args.pool (Some i) (stands-found a.reserves c.args.pool i found)),
    )

pub recount-requires-clause-beside : goal.recount-requires-clause-beside
recount-requires-clause-beside c =
    let a = c.args.self.now in
    let i = c.unwrap-place.result in
    let found = sym c.place_of_reserve.ensures.value ∙ c.unwrap-place.ensures in
    let k = subst IsBalanced c.self.view_is c.self.invariant.balanced in
    let kept = kept-seen c.self.inside.kept (seen_holdings c.self.inside) a c.self.invariant.numbers c.self.view_is in
    omega (
      arith,
      ap (λ (n : Numbers). length n.accounts) c.fold.ensures,
      ap (λ (n : Numbers). length n.accounts) kept,
      ap (λ (l : List Account). length l) (accounts-are a),
      accounts-length a.reserves [] a.grants,
      ap (λ (h : Holdings). length h.grants) c.self.view_is,
      ap (λ (l : List Holding). length l) (c.rows-2.ensures.rows ∙ c.hand_over.ensures),
      length-map c.self.inside.grants (holding_beside c.args.pool),
    )

pub invariant_of-self : goal.invariant_of-self
invariant_of-self c =
    let a = c.args.self.now in
    let i = c.unwrap-place.result in
    let found = sym c.place_of_reserve.ensures.value ∙ c.unwrap-place.ensures in
    let k = subst IsBalanced c.self.view_is c.self.invariant.balanced in
    let kept = kept-seen c.self.inside.kept (seen_holdings c.self.inside) a c.self.invariant.numbers c.self.view_is in
    let e = c.remove.result in
    let same = folded-seen (seen_holdings c.self.inside) a c.remove.new.self c.hand_over.new.grants c.args.pool i c.self.view_is c.remove.ensures.rest found c.hand_over.ensures in
    let at : e ≡ get_or a.reserves i e = c.remove.ensures.row ∙ ap (λ (h : Holdings). get_or h.reserves i e) c.self.view_is in
    let within : i < length a.reserves =
    omega (arith, position-within (is_reserve_of c.args.pool) a.reserves i found, position-is (is_reserve_of c.args.pool) a.reserves i found) in
    let r = c.index-rows-place.result in
    let there : get_or c.rows.result.now i r ≡ get_or a.reserves i general_reserve =
    ap (λ (l : List Reserve). get_or l i r) (c.rows.ensures.rows ∙ ap (λ (h : Holdings). h.reserves) c.self.view_is)
    ∙ any-default a.reserves i r general_reserve within in
    let hands : c.hand_over.new.grants ≡ map (holding_beside c.args.pool) a.grants = c.hand_over.ensures ∙ ap (λ (h : Holdings). map (holding_beside c.args.pool) h.grants) c.self.view_is in
    let counted : c.recount.new.accounts ≡ recounted general 0 0 c.hand_over.new.grants c.fold.new.self.accounts =
    c.recount.ensures
    ∙ ap (λ (n : Name). recounted n 0 0 c.rows-2.result.now c.fold.new.self.accounts) c.general.ensures
    ∙ ap (λ (l : List Holding). recounted general 0 0 l c.fold.new.self.accounts) c.rows-2.ensures.rows in
    record {
      balanced = subst IsBalanced (sym same) (kept_folded a c.args.pool e k c.requires.not_general (find-found (is_reserve_of c.args.pool) a.reserves i e found at));
      numbers = numbers-folded a c.self.inside.kept c.fold.new.self c.args.pool i (get_or c.rows.result.now i r).size c.hand_over.new.grants c.recount.new.accounts k kept c.requires.not_general found
          (ap (λ (x : Reserve). x.size) there) c.fold.ensures hands counted
          ∙ ap numbers_of (sym same);
    }

pub returns : goal.returns
returns c =
    c.note_places.ensures
    ∙ let found = sym c.place_of_reserve.ensures.value ∙ c.unwrap-place.ensures in
    folded-seen (seen_holdings c.self.inside) c.args.self.now c.remove.new.self c.hand_over.new.grants c.args.pool c.unwrap-place.result c.self.view_is c.remove.ensures.rest found c.hand_over.ensures
