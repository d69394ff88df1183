use Rattle.std.proofs.Common.{◌≤◌, ◌∙◌, ap, sym, arith, [], unwrap_or}
use Rattle.mini_model.specs.Tree.{count, shape_of}
use Rattle.mini_laws.specs.Early.{label_by}
use Rattle.mini_scope.proofs.EarlyWalk.{missing}
use Rattle.mini_scope.proofs.targets.label_name.Goals as goal

pub returns-else-len-gt0 : goal.returns-else-len-gt0
returns-else-len-gt0 c =
    let over : count c.args.nodes.now ≤ 0 = omega arith in
    c.new.ensures ∙ sym (ap (λ x. unwrap_or (label_by (shape_of x)) []) (missing c.args.nodes.now 0 over))
