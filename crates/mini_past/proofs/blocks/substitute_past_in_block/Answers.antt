use Rattle.std.proofs.Common.{◌∙◌, ap, sym, subst₂}
use Rattle.mini_node.specs.Kinds.{is_listed}
use Rattle.mini_rows.specs.Switches.{without_vars}
use Rattle.mini_steady.specs.Declarations.{known_of}
use Rattle.mini_unused.specs.Allowed.{switches_of}
use Rattle.mini_past.specs.SubstitutePast.{PastRemoved}
use Rattle.mini_past.proofs.InBlocks.{in_block, of_block, no_block}
use Rattle.mini_past.proofs.Holders.{put_back}
use Rattle.mini_past.proofs.blocks.substitute_past_in_block.Goals as goal

pub substitute_past-changed-requires : goal.substitute_past-changed-requires
substitute_past-changed-requires g c = ap is_listed c.take_child-list.ensures.child ∙ in_block c.args.node.now (sym c.if-not-is_block.ensures.kind)

pub returns-then-not-is_block : goal.returns-then-not-is_block
returns-then-not-is_block g c = no_block (switches_of (g.S.SteadyNames.orders c.args.steady.now)) (known_of (g.S.SteadyNames.sets c.args.steady.now) c.args.body.now) c.args.node.now (sym c.if-not-is_block.ensures.kind)

pub returns : goal.returns
returns g c =
    let o = switches_of (g.S.SteadyNames.orders c.args.steady.now) in
    let V = known_of (g.S.SteadyNames.sets c.args.steady.now) c.args.body.now in
    let t = c.args.node.now in
    let m = c.substitute_past-changed.new.list in
    of_block o V t m c.substitute_past-changed.result (sym c.if-not-is_block.ensures.kind)
    (subst₂ (λ outer l. PastRemoved V (without_vars o) outer l m c.substitute_past-changed.result) c.take_child-list.ensures.left c.take_child-list.ensures.child c.substitute_past-changed.ensures)
    c.put_child.new.node (put_back t 0 m c.take_child-list.new.node c.put_child.new.node c.take_child-list.ensures.left c.put_child.ensures)
