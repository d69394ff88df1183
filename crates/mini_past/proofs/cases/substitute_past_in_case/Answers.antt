use Rattle.std.proofs.Common.{refl, ◌∙◌, ap, sym, subst₂, arith}
use Rattle.mini_model.specs.Tree.{absent, children, count}
use Rattle.mini_node.specs.Children.{part}
use Rattle.mini_node.specs.Kinds.{is_listed}
use Rattle.mini_rows.specs.Switches.{without_vars}
use Rattle.mini_steady.specs.Declarations.{known_of}
use Rattle.mini_unused.specs.Allowed.{switches_of}
use Rattle.mini_inside.specs.Holding.{case_at, with_statements}
use Rattle.mini_inside.proofs.Switches.{has_list, still_cases, still_case, still_list, put_again}
use Rattle.mini_past.specs.SubstitutePast.{PastRemoved}
use Rattle.mini_past.proofs.InCases.{in_case, no_case}
use Rattle.mini_past.proofs.cases.substitute_past_in_case.Goals as goal

pub returns-then-not-is_case_at : goal.returns-then-not-is_case_at
returns-then-not-is_case_at g c = no_case (switches_of (g.S.SteadyNames.orders c.args.steady.now)) (known_of (g.S.SteadyNames.sets c.args.steady.now) c.args.body.now) c.args.node.now c.args.at (sym c.if-not-is_case_at.ensures.kind)

pub substitute_past-changed-requires : goal.substitute_past-changed-requires
substitute_past-changed-requires g c = ap is_listed c.take_statements-list.ensures.list ∙ has_list (case_at c.args.node.now c.args.at) (sym c.if-not-is_case_at.ensures.kind)

pub put_statements-requires-clause-cases : goal.put_statements-requires-clause-cases
put_statements-requires-clause-cases g c = omega (arith, c.requires.cases, still_cases c.args.node.now c.args.at absent, ap (λ u. count (children u)) c.take_statements-list.ensures.left)

pub put_statements-requires-clause-case : goal.put_statements-requires-clause-case
put_statements-requires-clause-case g c = omega (arith, c.requires.case, still_case c.args.node.now c.args.at absent c.requires.cases, ap (λ u. count (children (part u 1))) c.take_statements-list.ensures.left)

pub put_statements-requires-clause-list : goal.put_statements-requires-clause-list
put_statements-requires-clause-list g c =
    let two = c.if-not-is_case_at.ensures.parts refl in
    omega (arith, two, still_list c.args.node.now c.args.at absent c.requires.cases c.requires.case, ap (λ u. count (children (case_at u c.args.at))) c.take_statements-list.ensures.left)

pub returns : goal.returns
returns g c =
    let options = switches_of (g.S.SteadyNames.orders c.args.steady.now) in
    let V = known_of (g.S.SteadyNames.sets c.args.steady.now) c.args.body.now in
    let t = c.args.node.now in
    let at = c.args.at in
    let m = c.substitute_past-changed.new.list in
    let emptied = c.take_statements-list.ensures.left in
    in_case options V t at c.requires.switch c.requires.case (sym c.if-not-is_case_at.ensures.kind) m c.substitute_past-changed.result
    (subst₂ (λ o l. PastRemoved V (without_vars options) o l m c.substitute_past-changed.result) emptied c.take_statements-list.ensures.list c.substitute_past-changed.ensures)
    c.put_statements.new.node (c.put_statements.ensures ∙ ap (λ u. with_statements u at m) emptied ∙ put_again t at absent m c.requires.cases c.requires.case)
