use Rattle.std.proofs.Common.{◌∙◌, [], ap, arith}
use Rattle.mini_model.specs.declared.shape.Shape.TheVariants as shape
use Rattle.mini_model.specs.Tree.{node, absent, count, child_or_absent}
use Rattle.mini_node.specs.Children.{with_child}
use Rattle.mini_logic.specs.MinimizeForStatement.{body_goes, body_runs, also}
use Rattle.mini_logic.proofs.MinimizeForStatement.{leading_four, four_left, other_left, put_all}
use Rattle.mini_logic.proofs.rewrites.minimize_for_statement.with_test.Goals as goal

pub take-requires-2 : goal.take-requires-2
take-requires-2 c =
    let four = ap count c.into_children-children.ensures.value ∙ leading_four c.args.node c.requires in
    omega (arith, four_left c.into_children-children.result c.take.new.self 3 absent four c.take.ensures.rest)

pub replace-requires : goal.replace-requires
replace-requires c =
    let four = ap count c.into_children-children.ensures.value ∙ leading_four c.args.node c.requires in
    let first = four_left c.into_children-children.result c.take.new.self 3 absent four c.take.ensures.rest in
    omega (arith, four_left c.take.new.self c.take-2.new.self 1 absent first c.take-2.ensures.rest)

pub replace-requires-2 : goal.replace-requires-2
replace-requires-2 c =
    let four = ap count c.into_children-children.ensures.value ∙ leading_four c.args.node c.requires in
    let first = four_left c.into_children-children.result c.take.new.self 3 absent four c.take.ensures.rest in
    let second = four_left c.take.new.self c.take-2.new.self 1 absent first c.take-2.ensures.rest in
    omega (arith, four_left c.take-2.new.self c.replace.new.self 3 c.in_ok-goes.runs second c.replace.ensures.rest)

pub returns : goal.returns
returns c =
    let list = c.into_children-children.ensures.value in
    let four = ap count list ∙ leading_four c.args.node c.requires in
    let body = c.take.ensures.value ∙ ap (λ ts. child_or_absent ts 3) list in
    let test = c.take-2.ensures.value ∙ ap (λ ts. child_or_absent ts 1) c.take.ensures.rest ∙ other_left c.into_children-children.result four ∙ ap (λ ts. child_or_absent ts 1) list in
    let runs = c.in_ok-goes.ensures.rest ∙ ap body_runs body in
    let goes = c.in_ok-goes.ensures.test ∙ ap body_goes body in
    let whole = c.in_ok-test.ensures ∙ (λ k. also (test k) (goes k)) in
    c.new.ensures
    ∙ ap (λ ts. node shape.ForStatement [] 0 ts) (put_all c.into_children-children.result c.take.new.self c.take-2.new.self c.replace.new.self c.replace-2.new.self c.in_ok-goes.runs c.in_ok-test.test four c.take.ensures.rest c.take-2.ensures.rest c.replace.ensures.rest c.replace-2.ensures.rest)
    ∙ (λ k. node shape.ForStatement [] 0 (with_child (with_child (list k) 3 (runs k)) 1 (whole k)))
