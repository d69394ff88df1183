use Rattle.std.proofs.Common.{◌∙◌, ap, sym, arith}
use Rattle.mini_scope.specs.Spelled.{spelled}
use Rattle.mini_scope.proofs.Places.{is_bucket, is_nowhere}
use Rattle.mini_scope.proofs.environment.Environment.places_of.Goals as goal

pub index-requires : goal.index-requires
index-requires c = omega (arith, (is_bucket c.self.inside.numbers c.self.inside.buckets.items c.self.inside.bindings.items c.args.spelling.now c.in-Some.number c.self.invariant (sym c.in-Some.ensures)).0)

pub returns-in-Some : goal.returns-in-Some
returns-in-Some c =
    let own = is_bucket c.self.inside.numbers c.self.inside.buckets.items c.self.inside.bindings.items c.args.spelling.now c.in-Some.number c.self.invariant (sym c.in-Some.ensures) in
    c.as_slice.ensures.value ∙ ap (λ w. w.items) c.index.ensures ∙ own.1 c.index.result.now ∙ ap (spelled c.args.spelling.now 0) c.self.view_is

pub returns-in-None : goal.returns-in-None
returns-in-None c = sym (is_nowhere c.self.inside.numbers c.self.inside.buckets.items c.self.inside.bindings.items c.args.spelling.now c.self.invariant (sym c.in-None.ensures)) ∙ ap (spelled c.args.spelling.now 0) c.self.view_is
