use Rattle.std.proofs.Common.{◌∙◌, sym, arith}
use Rattle.mini_stmt.specs.JoinLets.{marked, joins_let}
use Rattle.mini_stmt.proofs.LetJoins.{two_there, one_there}
use Rattle.mini_stmt.proofs.rewrites.join_lets.joins_next.Goals as goal

pub returns-then-at-last : goal.returns-then-at-last
returns-then-at-last c = sym (one_there (marked c.args.scopes.now) c.args.list.now c.args.at c.requires (grind (arith, c.requires, c.len-last.ensures, c.if-at-last.true)))

pub returns : goal.returns
returns c =
    c.joins_let.ensures ∙ (λ i. joins_let (marked c.args.scopes.now) (c.child.ensures.value i) (c.child-2.ensures.value i))
    ∙ sym (two_there (marked c.args.scopes.now) c.args.list.now c.args.at (grind (arith, c.requires, c.len-last.ensures, c.if-at-last.false)))
