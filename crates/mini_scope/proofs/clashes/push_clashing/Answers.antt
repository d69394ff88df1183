use Rattle.std.proofs.Common.{◌∙◌, ap, sym, arith, ◌++◌, ◌∷◌, []}
use Rattle.std.specs.Vec.Iter.{into_iter_items}
use Rattle.mini_scope.specs.Spelled.{has_name}
use Rattle.mini_laws.specs.Early.{clashing}
use Rattle.mini_scope.specs.Paths.{use_for}
use Rattle.mini_scope.proofs.Earlier.{as_binding, clash_turn, bind_last, none_clashes}
use Rattle.mini_scope.proofs.clashes.push_clashing.Goals as goal

pub returns-then-len-lt2 : goal.returns-then-len-lt2
returns-then-len-lt2 c = none_clashes c.args.declarations.items c.args.found.now.items (omega arith)

pub loop-declaration-preserved : goal.loop-declaration-preserved
loop-declaration-preserved c =
    let d = c.in-Some.declaration in
    let ys = c.loop-declaration.yielded in
    let rest = into_iter_items c.next.new.self in
    record {
      earlier = c.in_ok-push.ensures ∙ ap (λ r. r ++ as_binding d ∷ []) c.loop-declaration.invariant.earlier ∙ sym (bind_last ys d);
      found = clash_turn d ys rest c.loop-declaration.found.items _ _ c.has.result
          (c.has.ensures ∙ ap (λ u. has_name u d.spelling c.loop-declaration.earlier) c.use_for.ensures ∙ ap (has_name (use_for d.is_lexical) d.spelling) c.loop-declaration.invariant.earlier)
          c.in_ok-push_if.ensures
          (ap (λ r. c.loop-declaration.found.items ++ clashing ys r) (sym c.in-Some.ensures.steps.0) ∙ c.loop-declaration.invariant.found);
    }
