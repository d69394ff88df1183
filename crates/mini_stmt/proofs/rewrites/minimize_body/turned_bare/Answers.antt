use Rattle.mini_model.specs.Tree.{if_else, negation}
use Rattle.std.proofs.Common.{◌∙◌, ap}
use Rattle.mini_stmt.proofs.Bodies.{bare_turned, turned_by}
use Rattle.mini_stmt.proofs.rewrites.minimize_body.turned_bare.Goals as goal

pub returns : goal.returns
returns c =
    turned_by c.args.in_loop c.args.guard c.args.rest (if_else c.in_ok-turned.turned c.in_ok-body.body c.absent.result) c.if_statement.result
    (bare_turned c.args.in_loop c.args.guard c.args.rest c.requires.guard c.requires.rest (if_else c.in_ok-turned.turned c.in_ok-body.body c.absent.result) (λ i. if_else ((c.in_ok-turned.ensures ∙ ap negation c.three-test.ensures.first) i) (c.in_ok-body.ensures i) (c.absent.ensures i)))
    c.if_statement.ensures
