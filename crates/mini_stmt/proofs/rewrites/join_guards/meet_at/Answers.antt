use Rattle.std.proofs.Common.{◌∙◌, sym, arith}
use Rattle.mini_stmt.specs.JoinGuards.{meets}
use Rattle.mini_stmt.proofs.Guards.{two_there, one_there}
use Rattle.mini_stmt.proofs.rewrites.join_guards.meet_at.Goals as goal

pub returns-then-at-last : goal.returns-then-at-last
returns-then-at-last c = sym (one_there c.args.list.now c.args.at c.requires (grind (arith, c.requires, c.len-last.ensures, c.if-at-last.true)))

pub returns : goal.returns
returns c =
    c.meets.ensures ∙ (λ i. meets (c.child.ensures.value i) (c.child-2.ensures.value i)) ∙ sym (two_there c.args.list.now c.args.at (grind (arith, c.requires, c.len-last.ensures, c.if-at-last.false)))
