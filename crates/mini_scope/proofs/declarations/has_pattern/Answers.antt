use Rattle.std.proofs.Common.{◌≡◌, ◌≤◌, ◌∙◌, ap, sym, arith, nat_eq}
use Rattle.mini_model.specs.Tree.{count, shape_of}
use Rattle.mini_laws.specs.Early.{is_pattern_shape}
use Rattle.mini_scope.proofs.EarlyWalk.{missing}
use Rattle.mini_scope.proofs.declarations.has_pattern.Goals as goal

pub returns-then-len-eq0 : goal.returns-then-len-eq0
returns-then-len-eq0 c =
    let over : count c.args.nodes.now ≤ 0 = omega arith in
    let none_there : c.len.result ≡ 0 = omega arith in
    ap (λ k. nat_eq k 0) none_there ∙ sym (ap (λ x. is_pattern_shape (shape_of x)) (missing c.args.nodes.now 0 over))
