use Rattle.std.proofs.Common.{◌∙◌, sym, arith}
use Rattle.mini_stmt.specs.MinimizeStatements.{switches_of}
use Rattle.mini_stmt.specs.JoinAssignments.{joins_var}
use Rattle.mini_stmt.proofs.Assignments.{two_there, one_there}
use Rattle.mini_stmt.proofs.rewrites.join_assignments.enters_next.Goals as goal

pub returns-then-at-last : goal.returns-then-at-last
returns-then-at-last c = sym (one_there (switches_of c.args.options) c.args.list.now c.args.at c.requires (grind (arith, c.requires, c.len-last.ensures, c.if-at-last.true)))

pub returns : goal.returns
returns c =
    c.joins_var.ensures ∙ (λ i. joins_var (switches_of c.args.options) (c.child.ensures.value i) (c.child-2.ensures.value i))
    ∙ sym (two_there (switches_of c.args.options) c.args.list.now c.args.at (grind (arith, c.requires, c.len-last.ensures, c.if-at-last.false)))
