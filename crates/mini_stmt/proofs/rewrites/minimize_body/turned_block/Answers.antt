use Rattle.std.proofs.Common.{◌∙◌, ap, subst}
use Rattle.mini_model.specs.Tree.{if_else}
use Rattle.mini_stmt.specs.SpreadBlock.{body_of}
use Rattle.mini_stmt.specs.MinimizeBody.{ends_bare, DropsLast}
use Rattle.mini_stmt.proofs.Bodies.{block_ends_bare, block_turned, turned_by}
use Rattle.mini_stmt.proofs.rewrites.minimize_body.turned_block.Goals as goal

pub drop_last-requires : goal.drop_last-requires
drop_last-requires c = ap (ends_bare c.args.in_loop) (c.body_of-body.ensures ∙ ap body_of c.three-test.ensures.second) ∙ block_ends_bare c.args.in_loop c.args.guard c.requires.guard

pub returns : goal.returns
returns c =
    let body = c.body_of-body.ensures ∙ ap body_of c.three-test.ensures.second in
    let made = if_else c.three-test.result.0 c.in_ok-kept.kept c.in_ok-alternate.alternate in
    turned_by c.args.in_loop c.args.guard c.args.rest made c.if_statement.result
    (block_turned c.args.in_loop c.args.guard c.args.rest c.requires.guard c.requires.rest c.drop_last.new.list (subst (λ ts. DropsLast c.args.in_loop ts c.drop_last.new.list) body c.drop_last.ensures) made (λ i. if_else (c.three-test.ensures.first i) (c.in_ok-kept.ensures i) (c.in_ok-alternate.ensures i)))
    c.if_statement.ensures
