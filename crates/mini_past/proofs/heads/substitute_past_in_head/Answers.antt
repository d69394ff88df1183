use Rattle.std.proofs.Common.{◌∙◌, ap, subst₂, arith}
use Rattle.mini_model.specs.Tree.{none, ◌▸◌, absent, listed, children, count}
use Rattle.mini_node.specs.Kinds.{is_listed}
use Rattle.mini_node.specs.Children.{with_part}
use Rattle.mini_rows.specs.Switches.{without_vars}
use Rattle.mini_steady.specs.Declarations.{known_of}
use Rattle.mini_unused.specs.Allowed.{switches_of}
use Rattle.mini_past.specs.SubstitutePast.{PastRemoved}
use Rattle.mini_past.proofs.InHeads.{in_head}
use Rattle.mini_past.proofs.Holders.{put_back, same_parts}
use Rattle.mini_past.proofs.heads.substitute_past_in_head.Goals as goal

pub substitute_past-changed-requires : goal.substitute_past-changed-requires
substitute_past-changed-requires g c = ap is_listed c.listed-list.ensures

pub put_child-requires : goal.put_child-requires
put_child-requires g c = omega (arith, c.requires.parts, same_parts c.args.node.now 0 absent, ap (λ u. count (children u)) c.take_child-head.ensures.left)

pub returns : goal.returns
returns g c =
    let options = switches_of (g.S.SteadyNames.orders c.args.steady.now) in
    let V = known_of (g.S.SteadyNames.sets c.args.steady.now) c.args.body.now in
    let t = c.args.node.now in
    let m = c.substitute_past-changed.new.list in
    in_head options V t m c.substitute_past-changed.result c.requires.head
    (subst₂ (λ o l. PastRemoved V (without_vars options) o l m c.substitute_past-changed.result) c.take_child-head.ensures.left (c.listed-list.ensures ∙ ap listed c.in_ok-of_one.ensures ∙ ap (λ h. listed (h ▸ none)) c.take_child-head.ensures.child) c.substitute_past-changed.ensures)
    c.put_child.new.node (put_back t 0 c.one.result c.take_child-head.new.node c.put_child.new.node c.take_child-head.ensures.left c.put_child.ensures ∙ ap (with_part t 0) c.one.ensures.value)
