use Rattle.std.proofs.Common.{◌∙◌, refl, sym, ap, arith}
use Rattle.std.specs.Prelude.{◌&&◌}
use Rattle.mini_log.specs.ListRows.{spread, within}
use Rattle.mini_model.specs.Tree.{children}
use Rattle.mini_node.specs.Children.{part}
use Rattle.mini_node.specs.Kinds.{is_block}
use Rattle.mini_rows.specs.Lists.{are_unscoped}
use Rattle.mini_recorded.proofs.ListEdits.{nothing, past_end, holds, spreads, rest_there}
use Rattle.mini_recorded.proofs.lists.spread.Goals as goal

pub returns-then-at-len : goal.returns-then-at-len
returns-then-at-len c = nothing (within spread c.args.nodes.now c.args.at) c.args.nodes.now (past_end spread c.args.nodes.now c.args.at refl (omega arith))

pub returns-then-not-is_loose_block : goal.returns-then-not-is_loose_block
returns-then-not-is_loose_block c =
    nothing (within spread c.args.nodes.now c.args.at) c.args.nodes.now
    (holds c.args.nodes.now c.args.at (omega arith) (sym (c.is_loose_block.ensures.kind ∙ ap (λ t. is_block t && are_unscoped (children (part t 0))) c.child.ensures.value) ∙ c.if-not-is_loose_block.true))

pub remove-requires : goal.remove-requires
remove-requires c = rest_there c.args.nodes.now c.in_ok-rest.rest c.args.at (omega arith) c.in_ok-rest.ensures.rest

pub returns : goal.returns
returns c =
    spreads c.args.nodes.now c.split_off.new.self c.in_ok-rest.rest c.remove.new.self c.into_children-items.result c.append.new.self c.append-2.new.self c.args.at c.remove.result c.one.result (omega arith)
    (sym (c.is_loose_block.ensures.kind ∙ ap (λ t. is_block t && are_unscoped (children (part t 0))) c.child.ensures.value) ∙ c.if-not-is_loose_block.false) c.in_ok-rest.ensures.ok c.in_ok-rest.ensures.rest c.remove.ensures.value c.remove.ensures.rest
    c.one.ensures.value c.into_children-items.ensures.value c.in_ok-append.ensures.ok.0 c.in_ok-append-2.ensures.ok.0
