use Rattle.std.proofs.Common.{◌≡◌, ◌<◌, ◌∙◌, ap, sym, subst, arith, length, ◌++◌, ◌∷◌, [], slice_index_or, slice_set, ◌-◌, take, vec_len}
use Rattle.mini_scope.specs.Spelled.{Holds}
use Rattle.mini_scope.proofs.Places.{pushed, kept, same_at, without_last, is_bucket}
use Rattle.mini_scope.proofs.environment.Environment.push.Goals as goal

pub invariant_of-self : goal.invariant_of-self
invariant_of-self c = c.number_or_new.ensures.held c.self.inside.bindings.items c.self.invariant

pub invariant_of-self-in-Err : goal.invariant_of-self-in-Err
invariant_of-self-in-Err c =
    subst (λ bs. Holds c.number_or_new.new.numbers c.number_or_new.new.buckets.items bs) (sym c.in-Err.ensures.items) (c.number_or_new.ensures.held c.self.inside.bindings.items c.self.invariant)

pub index_mut-places-requires : goal.index_mut-places-requires
index_mut-places-requires c =
    omega (arith, (is_bucket c.number_or_new.new.numbers c.number_or_new.new.buckets.items c.self.inside.bindings.items c.args.binding.name.spelling c.in_ok-bucket.bucket (c.number_or_new.ensures.held c.self.inside.bindings.items c.self.invariant) c.in_ok-bucket.ensures.given).0)

pub invariant_of-self-in-Ok-push : goal.invariant_of-self-in-Ok-push
invariant_of-self-in-Ok-push c =
    let m = c.number_or_new.new.numbers in
    let ks = c.number_or_new.new.buckets.items in
    let bs = c.self.inside.bindings.items in
    let b = c.args.binding in
    let at = c.in_ok-bucket.bucket in
    let v = c.push-2.new.self in
    let h = c.number_or_new.ensures.held bs c.self.invariant in
    let within : at < length ks = (is_bucket m ks bs b.name.spelling at h c.in_ok-bucket.ensures.given).0 in
    let place : c.len-place.result ≡ length bs = omega arith in
    subst (Holds m (slice_set ks at v)) (sym c.in-Ok.ensures.items) (
    pushed m ks bs b at v h c.in_ok-bucket.ensures.given
    (λ d. c.in-Ok-push.ensures.items ∙ ap (λ w. w.items ++ c.len-place.result ∷ []) (c.index_mut-places.ensures.value ∙ same_at ks at _ d within) ∙ ap (λ p. (slice_index_or ks at d).items ++ p ∷ []) place)
    )

pub invariant_of-self-in-Err-push : goal.invariant_of-self-in-Err-push
invariant_of-self-in-Err-push c =
    let m = c.number_or_new.new.numbers in
    let ks = c.number_or_new.new.buckets.items in
    let bs = c.self.inside.bindings.items in
    let at = c.in_ok-bucket.bucket in
    let v = c.push-2.new.self in
    let h = c.number_or_new.ensures.held bs c.self.invariant in
    let within : at < length ks = (is_bucket m ks bs c.args.binding.name.spelling at h c.in_ok-bucket.ensures.given).0 in
    let size : vec_len c.push.new.self ≡ length c.push.new.self.items = omega arith in
    let back : c.pop.new.self.items ≡ bs = c.pop.ensures.rest ∙ ap (λ n. take (n - 1) c.push.new.self.items) size ∙ ap (λ r. take (length r - 1) r) c.in-Ok.ensures.items ∙ without_last bs c.args.binding in
    subst (Holds m (slice_set ks at v)) (sym back) (kept m ks bs at v h within (λ d. c.in-Err-push.ensures.items ∙ ap (λ w. w.items) (c.index_mut-places.ensures.value ∙ same_at ks at _ d within)))
