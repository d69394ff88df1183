use Rattle.std.proofs.Common.{◌≤◌, ◌∙◌, ap, sym, arith, None}
use Rattle.mini_model.specs.Tree.{count, shape_of}
use Rattle.mini_laws.specs.Early.{is_bad, jump_of, label_by}
use Rattle.mini_scope.proofs.EarlyWalk.{missing}
use Rattle.mini_scope.proofs.targets.is_bad_jump.Goals as goal

pub returns-else-len-gt0 : goal.returns-else-len-gt0
returns-else-len-gt0 c =
    let over : count c.args.nodes.now ≤ 0 = omega arith in
    c.is_bad_unlabeled.ensures ∙ ap (λ j. is_bad j None c.args.targets.now) c.jump_of-jump.ensures
    ∙ sym (ap (λ x. is_bad (jump_of c.args.shape.now) (label_by (shape_of x)) c.args.targets.now) (missing c.args.nodes.now 0 over))
