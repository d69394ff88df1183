use Rattle.std.proofs.Common.{◌≡◌, ◌<◌, ◌∙◌, ap, sym, subst, arith, length, ◌-◌, take, vec_len}
use Rattle.mini_scope.specs.Spelled.{number_of, Holds}
use Rattle.mini_scope.proofs.Places.{popped, same_at, is_bucket, has_number, is_none}
use Rattle.mini_scope.proofs.environment.Environment.pop.Goals as goal

pub index_mut-places-requires : goal.index_mut-places-requires
index_mut-places-requires c =
    omega (arith, (is_bucket c.self.inside.numbers c.self.inside.buckets.items c.self.inside.bindings.items c.in-Some.binding.name.spelling c.in-Some-number_of.bucket c.self.invariant (sym c.in-Some-number_of.ensures)).0)

pub invariant_of-self : goal.invariant_of-self
invariant_of-self c =
    let m = c.self.inside.numbers in
    let ks = c.self.inside.buckets.items in
    let at = c.in-Some-number_of.bucket in
    let v = c.pop-in-Some-number_of.new.self in
    let now = c.index_mut-places.result.now in
    let given = sym c.in-Some-number_of.ensures in
    let within : at < length ks = (is_bucket m ks c.self.inside.bindings.items c.in-Some.binding.name.spelling at c.self.invariant given).0 in
    let size : vec_len now ≡ length now.items = omega arith in
    popped m ks c.pop.new.self.items c.in-Some.binding at v (subst (Holds m ks) c.in-Some.ensures.items c.self.invariant) given
    (λ d. c.pop-in-Some-number_of.ensures.rest ∙ ap (λ n. take (n - 1) now.items) size ∙ ap (λ w. take (length w.items - 1) w.items) (c.index_mut-places.ensures.value ∙ same_at ks at _ d within))

pub invariant_of-self-in_default-number_of : goal.invariant_of-self-in_default-number_of
invariant_of-self-in_default-number_of c =
    absurd (has_number c.self.inside.numbers c.self.inside.buckets.items c.pop.new.self.items c.in-Some.binding (subst (Holds c.self.inside.numbers c.self.inside.buckets.items) c.in-Some.ensures.items c.self.invariant)
    (is_none c.number_of.result (number_of c.self.inside.numbers c.in-Some.binding.name.spelling) c.in_default-number_of.not-Some c.number_of.ensures))
