use Rattle.std.proofs.Common.{◌-◌, ◌∙◌, ap, sym, arith, get_or, take}
use Rattle.std.proofs.lemmas.List.{length-take}
use Rattle.rm_base.specs.ValueLaws.{same_row-eq}
use Rattle.rm_base.specs.Values.{same_row}
use Rattle.rm_rules.specs.Comparing.{columns}
use Rattle.tuples.specs.Tuple.{tuple_values}
use Rattle.grouping.specs.Places.{bucket, buckets, last_place}
use Rattle.grouping.proofs.PlacesLemmas.{last_place-within}
use Rattle.grouping.proofs.WalkLemmas.{key_at, key_hash-columns, walk_ends, walk_goes, walk_starts}
use Rattle.grouping.proofs.groups.place_of.Goals as goal

pub loop-place-init : goal.loop-place-init
loop-place-init c =
    let count = c.args.places.now.count in
    walk_starts count c.args.groups.now (columns c.args.keys.now (tuple_values c.args.tuple)) (bucket count c.args.hash) c.last-place.result
    (ap (bucket count) (c.requires.hash ∙ key_hash-columns c.args.keys.now (tuple_values c.args.tuple)))
    (c.last-place.ensures ∙ ap (λ l. last_place (bucket count c.args.hash) (buckets count l)) c.requires.places)

pub returns-then-has_key-clause-found : goal.returns-then-has_key-clause-found
returns-then-has_key-clause-found c =
    key_at c.args.groups.now (c.loop-place.place - 1) c.index-groups-place.result (omega (arith, c.loop-place.invariant.within, c.loop-place-test.true)) c.index-groups-place.is
    ∙ sym (same_row-eq (columns c.args.keys.now (tuple_values c.args.tuple)) c.index-groups-place.result.0
    (ap (λ g. same_row (columns c.args.keys.now (tuple_values c.args.tuple)) g.0) c.index-groups-place.is ∙ sym c.has_key.ensures ∙ c.if-has_key.true))

pub loop-place-smaller : goal.loop-place-smaller
loop-place-smaller c =
    let p = c.loop-place.place - 1 in
    let placed = buckets c.args.places.now.count c.args.places.now.numbers in
    omega (arith, c.before-place.ensures, last_place-within (get_or placed p 0) (take p placed), length-take p placed, c.loop-place-test.true)

pub loop-place-preserved : goal.loop-place-preserved
loop-place-preserved c =
    let p = c.loop-place.place - 1 in
    let key = columns c.args.keys.now (tuple_values c.args.tuple) in
    let count = c.args.places.now.count in
    walk_goes count c.args.groups.now key (bucket count c.args.hash) c.loop-place.place p c.before-place.result
    (ap (bucket count) (c.requires.hash ∙ key_hash-columns c.args.keys.now (tuple_values c.args.tuple)))
    (omega (arith, c.loop-place-test.true))
    c.loop-place.invariant
    (ap (same_row key) (key_at c.args.groups.now p c.index-groups-place.result (omega (arith, c.loop-place.invariant.within, c.loop-place-test.true)) c.index-groups-place.is) ∙ ap (λ g. same_row key g.0) c.index-groups-place.is ∙ sym c.has_key.ensures ∙ c.if-has_key.false)
    (c.before-place.ensures ∙ ap (λ l. last_place (get_or (buckets count l) p 0) (take p (buckets count l))) c.requires.places)

pub returns-clause-none : goal.returns-clause-none
returns-clause-none c =
    walk_ends c.args.groups.now (columns c.args.keys.now (tuple_values c.args.tuple))
    (λ k low within. c.loop-place.invariant.behind k (omega (arith, c.loop-place-test.false)) within)
