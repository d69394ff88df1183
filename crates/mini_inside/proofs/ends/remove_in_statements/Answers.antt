use Rattle.std.proofs.Common.{sym}
use Rattle.mini_model.specs.Tree.{children}
use Rattle.mini_rows.specs.declared.inside.Way.TheVariants as way
use Rattle.mini_rows.specs.Inside.{unused_ends}
use Rattle.mini_unused.specs.RemoveUnusedDeclaration.{allowed, open_in}
use Rattle.mini_unused.specs.SubstituteSingleUse.{Removed}
use Rattle.mini_inside.proofs.Holders.{where_ok}
use Rattle.mini_inside.specs.Further.{HereWalked}
use Rattle.mini_inside.proofs.FurtherSteps.{here_by, no_list_here}
use Rattle.mini_inside.proofs.ends.remove_in_statements.Goals as goal

pub returns-then-not-is_listed : goal.returns-then-not-is_listed
returns-then-not-is_listed c = no_list_here (allowed c.args.context.now) (children c.args.above.now) c.args.node.now (sym c.if-not-is_listed.ensures)

pub returns : goal.returns
returns c =
    let W = allowed c.args.context.now in
    let o = c.args.above.now in
    let t = c.args.node.now in
    let u = c.remove_in_list.new.list in
    where_ok c.remove_in_list.result (λ changed. Removed (open_in o W) o t u changed) (λ changed. HereWalked (unused_ends W) (children o) way.Statements t u changed) (λ changed r. here_by W o t u changed c.requires (sym c.if-not-is_listed.ensures) r) c.remove_in_list.ensures
