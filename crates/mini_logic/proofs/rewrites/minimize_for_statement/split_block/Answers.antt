use Rattle.std.proofs.Common.{◌∙◌, sym, ap}
use Rattle.mini_model.specs.Tree.{children, child_or_absent}
use Rattle.mini_node.specs.Children.{with_child}
use Rattle.mini_rows.specs.Lists.{block}
use Rattle.mini_logic.specs.MinimizeForStatement.{runs}
use Rattle.mini_logic.proofs.MinimizeForStatement.{put_first, runs_block}
use Rattle.mini_logic.proofs.rewrites.minimize_for_statement.split_block.Goals as goal

pub returns-clause-rest : goal.returns-clause-rest
returns-clause-rest c =
    let list = c.into_children-statements.ensures.value ∙ ap children c.one.ensures.value in
    c.in_ok-block.ensures
    ∙ ap block (put_first c.into_children-statements.result c.take.new.self c.replace.new.self c.in_ok-test.rest (runs c.take.result) c.take.ensures.rest c.replace.ensures.rest c.in_ok-test.ensures.rest)
    ∙ ap (λ t. block (with_child c.into_children-statements.result 0 (runs t))) c.take.ensures.value
    ∙ ap (λ ts. block (with_child ts 0 (runs (child_or_absent ts 0)))) list
    ∙ sym (runs_block c.args.node c.requires)
