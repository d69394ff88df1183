use Rattle.std.proofs.Common.{refl, ◌∙◌, ap, sym, subst₂, arith}
use Rattle.mini_model.specs.Tree.{absent, children, count}
use Rattle.mini_node.specs.Children.{part}
use Rattle.mini_node.specs.Kinds.{is_listed}
use Rattle.mini_unused.specs.Allowed.{switches_of}
use Rattle.mini_unused.specs.RemoveUnusedDeclaration.{allowed, open_in}
use Rattle.mini_unused.specs.SubstituteSingleUse.{Removed}
use Rattle.mini_inside.specs.Holding.{case_at, with_statements, AppliedInCase}
use Rattle.mini_inside.proofs.Holders.{where_ok}
use Rattle.mini_inside.proofs.Switches.{has_list, still_cases, still_case, still_list, put_again, in_case, no_case}
use Rattle.mini_inside.proofs.holding.remove_in_case.Goals as goal

pub returns-then-not-is_case_at : goal.returns-then-not-is_case_at
returns-then-not-is_case_at c = no_case (switches_of c.args.context.now.options) c.args.node.now c.args.at (sym c.if-not-is_case_at.ensures.kind)

pub remove_in_list-changed-requires : goal.remove_in_list-changed-requires
remove_in_list-changed-requires c = ap is_listed c.take_statements-list.ensures.list ∙ has_list (case_at c.args.node.now c.args.at) (sym c.if-not-is_case_at.ensures.kind)

pub put_statements-requires-clause-cases : goal.put_statements-requires-clause-cases
put_statements-requires-clause-cases c = omega (arith, c.requires.cases, still_cases c.args.node.now c.args.at absent, ap (λ u. count (children u)) c.take_statements-list.ensures.left)

pub put_statements-requires-clause-case : goal.put_statements-requires-clause-case
put_statements-requires-clause-case c = omega (arith, c.requires.case, still_case c.args.node.now c.args.at absent c.requires.cases, ap (λ u. count (children (part u 1))) c.take_statements-list.ensures.left)

pub put_statements-requires-clause-list : goal.put_statements-requires-clause-list
put_statements-requires-clause-list c =
    let two = c.if-not-is_case_at.ensures.parts refl in
    omega (arith, two, still_list c.args.node.now c.args.at absent c.requires.cases c.requires.case, ap (λ u. count (children (case_at u c.args.at))) c.take_statements-list.ensures.left)

pub returns : goal.returns
returns c =
    let t = c.args.node.now in
    let at = c.args.at in
    let W = allowed c.args.context.now in
    let m = c.remove_in_list-changed.new.list in
    let emptied = c.take_statements-list.ensures.left in
    where_ok c.remove_in_list-changed.result (λ changed. Removed (open_in c.take_statements-list.new.node W) c.take_statements-list.new.node c.take_statements-list.result m changed) (λ changed. AppliedInCase W.switches t at c.put_statements.new.node changed)
    (λ changed r. in_case t at c.requires.switch c.requires.case (sym c.if-not-is_case_at.ensures.kind) W m changed (subst₂ (λ o l. Removed (open_in o W) o l m changed) emptied c.take_statements-list.ensures.list r) c.put_statements.new.node
    (c.put_statements.ensures ∙ ap (λ u. with_statements u at m) emptied ∙ put_again t at absent m c.requires.cases c.requires.case))
    c.remove_in_list-changed.ensures
