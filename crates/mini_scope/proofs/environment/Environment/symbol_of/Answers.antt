use Rattle.std.specs.Prelude.{refl}
use Rattle.std.proofs.Common.{◌<◌, ◌∙◌, ap, sym, arith, length, take, slice_index_or}
use Rattle.std.proofs.lemmas.List.{take_more, take_all}
use Rattle.mini_laws.specs.Resolved.{symbol_of, own_symbol, or_else}
use Rattle.mini_scope.specs.Spelled.{spelled}
use Rattle.mini_scope.proofs.Places.{places_below, own_there, through, through_last, found_there}
use Rattle.mini_scope.proofs.environment.Environment.symbol_of.Goals as goal

pub loop-place-init : goal.loop-place-init
loop-place-init c = (refl, c.places_of-place-items.ensures ∙ ap (spelled c.args.spelling.now 0) (sym c.self.view_is))

pub index-requires : goal.index-requires
index-requires c =
    let bs = c.self.inside.bindings.items in
    let s = c.args.spelling.now in
    let at = c.loop-place.place-index in
    let within : at < length (spelled s 0 bs) = omega (arith, c.loop-place-test.true, ap length c.loop-place.invariant.1) in
    omega (arith, places_below s 0 bs at 0 within, ap (λ r. slice_index_or r at 0) c.loop-place.invariant.1)

pub loop-place-preserved : goal.loop-place-preserved
loop-place-preserved c =
    let bs = c.self.inside.bindings.items in
    let items = c.places_of-place-items.result.now in
    let at = c.loop-place.place-index in
    let u = c.args.usage in
    let s = c.args.spelling.now in
    let p = slice_index_or items at 0 in
    let b = c.index.result.now in
    let within : at < length (spelled s 0 bs) = omega (arith, c.loop-place-test.true, ap length c.loop-place.invariant.1) in
    let below : p < length bs = omega (arith, places_below s 0 bs at 0 within, ap (λ r. slice_index_or r at 0) c.loop-place.invariant.1) in (
      c.later-found.ensures
          ∙ ap (λ r. or_else (own_symbol u s b) r) c.loop-place.invariant.0
          ∙ ap (λ r. or_else r (through u s bs (take at items))) (sym (own_there u s bs p b below c.index.ensures))
          ∙ sym (through_last u s bs (take at items) p)
          ∙ ap (through u s bs) (sym (take_more items at 0 c.loop-place-test.true)),
      c.loop-place.invariant.1,
    )

pub returns : goal.returns
returns c =
    let bs = c.self.inside.bindings.items in
    let u = c.args.usage in
    let s = c.args.spelling.now in
    c.loop-place.invariant.0
    ∙ ap (through u s bs) (take_all c.loop-place.place-index c.places_of-place-items.result.now (omega arith) ∙ c.loop-place.invariant.1)
    ∙ found_there u s bs
    ∙ ap (symbol_of u s) c.self.view_is
