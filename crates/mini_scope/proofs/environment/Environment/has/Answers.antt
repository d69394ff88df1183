use Rattle.std.proofs.Common.{◌≡◌, ◌<◌, ◌∙◌, ◌||◌, ap, sym, arith, length, slice_index_or, drop, ◌+◌}
use Rattle.mini_scope.specs.Spelled.{spelled, has_name}
use Rattle.mini_scope.proofs.Places.{places_below, has_there, has_any, had_there, next_place}
use Rattle.mini_scope.proofs.environment.Environment.has.Goals as goal

pub loop-place-init : goal.loop-place-init
loop-place-init c =
    let bs = c.self.inside.bindings.items in
    let u = c.args.usage in
    let s = c.args.spelling.now in
    let same : c.places_of-place-items.result.now ≡ spelled s 0 bs = c.places_of-place-items.ensures ∙ ap (spelled s 0) (sym c.self.view_is) in
    (ap (has_any u s bs) same ∙ had_there u s bs, same)

pub index-requires : goal.index-requires
index-requires c =
    let bs = c.self.inside.bindings.items in
    let s = c.args.spelling.now in
    let at = c.loop-place.place-index in
    let within : at < length (spelled s 0 bs) = omega (arith, c.loop-place-test.true, ap length c.loop-place.invariant.1) in
    omega (arith, places_below s 0 bs at 0 within, ap (λ r. slice_index_or r at 0) c.loop-place.invariant.1)

pub returns-then-is_for : goal.returns-then-is_for
returns-then-is_for c =
    let bs = c.self.inside.bindings.items in
    let u = c.args.usage in
    let s = c.args.spelling.now in
    let items = c.places_of-place-items.result.now in
    let at = c.loop-place.place-index in
    let p = slice_index_or items at 0 in
    let b = c.index.result.now in
    let within : at < length (spelled s 0 bs) = omega (arith, c.loop-place-test.true, ap length c.loop-place.invariant.1) in
    let below : p < length bs = omega (arith, places_below s 0 bs at 0 within, ap (λ r. slice_index_or r at 0) c.loop-place.invariant.1) in
    sym (ap (λ v. v || has_any u s bs (drop (at + 1) items)) (has_there u s bs p b below c.index.ensures ∙ sym c.is_for.ensures ∙ c.if-is_for.true))
    ∙ sym (next_place u s bs items at 0 c.loop-place-test.true)
    ∙ c.loop-place.invariant.0
    ∙ ap (has_name u s) c.self.view_is

pub loop-place-preserved : goal.loop-place-preserved
loop-place-preserved c =
    let bs = c.self.inside.bindings.items in
    let u = c.args.usage in
    let s = c.args.spelling.now in
    let items = c.places_of-place-items.result.now in
    let at = c.loop-place.place-index in
    let p = slice_index_or items at 0 in
    let b = c.index.result.now in
    let within : at < length (spelled s 0 bs) = omega (arith, c.loop-place-test.true, ap length c.loop-place.invariant.1) in
    let below : p < length bs = omega (arith, places_below s 0 bs at 0 within, ap (λ r. slice_index_or r at 0) c.loop-place.invariant.1) in (
      sym (ap (λ v. v || has_any u s bs (drop (at + 1) items)) (has_there u s bs p b below c.index.ensures ∙ sym c.is_for.ensures ∙ c.if-is_for.false))
          ∙ sym (next_place u s bs items at 0 c.loop-place-test.true)
          ∙ c.loop-place.invariant.0,
      c.loop-place.invariant.1,
    )
