use Rattle.std.proofs.Common.{◌∙◌, ap, sym, arith}
use Rattle.mini_model.specs.Tree.{absent, count}
use Rattle.mini_node.specs.Walks.{count_with}
use Rattle.mini_log.specs.Walk.{spot}
use Rattle.mini_recorded.proofs.BranchForms.{unwraps_there, stays_there}
use Rattle.mini_recorded.proofs.branches.unwrap_block.Goals as goal

pub returns-then-not-unwraps : goal.returns-then-not-unwraps
returns-then-not-unwraps c = stays_there c.args.node.now c.args.index c.find-at.result.0 (c.find-at.ensures.child ∙ ap (λ ts. spot ts c.args.index) c.children.ensures) (sym c.unwraps.ensures.kind ∙ c.if-not-unwraps.true)

pub returns : goal.returns
returns c =
    unwraps_there c.args.node.now c.args.index c.find-at.result.0 c.children_mut-children.result.now c.take-block.new.self c.replace.new.self c.take-block.result c.one.result c.one-2.result
    (c.find-at.ensures.child ∙ ap (λ ts. spot ts c.args.index) c.children.ensures) (sym c.unwraps.ensures.kind ∙ c.if-not-unwraps.false) c.children_mut-children.ensures.value c.take-block.ensures.value c.take-block.ensures.rest c.one.ensures.value c.one-2.ensures.value c.replace.ensures.rest

pub replace-requires : goal.replace-requires
replace-requires c =
    let same = ap count c.take-block.ensures.rest ∙ count_with c.children_mut-children.result.now c.find-at.result.0 absent ∙ ap count c.children_mut-children.ensures.value in
    omega (arith, same, c.unwraps.ensures.within c.if-not-unwraps.false)
