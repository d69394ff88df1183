use Rattle.std.proofs.Common.{sym}
use Rattle.mini_steady.specs.Declarations.{known_of}
use Rattle.mini_unused.specs.Allowed.{switches_of}
use Rattle.mini_inside.proofs.Holders.{where_ok}
use Rattle.mini_past.proofs.InStatements.{of_for, of_switch, of_other}
use Rattle.mini_past.specs.PastInBlocks.{AppliedPastHead, AppliedPastStatement}
use Rattle.mini_past.proofs.blocks.substitute_past_in_statement.Goals as goal

pub returns-then-has_head : goal.returns-then-has_head
returns-then-has_head g c =
    let o = switches_of (g.S.SteadyNames.orders c.args.steady.now) in
    let V = known_of (g.S.SteadyNames.sets c.args.steady.now) c.args.body.now in
    let t = c.args.node.now in
    let u = c.substitute_past_in_head.new.node in
    where_ok c.substitute_past_in_head.result (λ b. AppliedPastHead o V t u b) (λ b. AppliedPastStatement o V t u b) (λ b r. of_for o V t u b (sym c.if-has_head.ensures.kind) r) c.substitute_past_in_head.ensures

pub returns-then-is_switch : goal.returns-then-is_switch
returns-then-is_switch g c =
    let o = switches_of (g.S.SteadyNames.orders c.args.steady.now) in
    let V = known_of (g.S.SteadyNames.sets c.args.steady.now) c.args.body.now in
    of_switch o V c.args.node.now _ _ (sym c.if-has_head.ensures.kind) (sym c.if-is_switch.ensures.kind) c.substitute_past_in_cases.ensures

pub returns : goal.returns
returns g c =
    let o = switches_of (g.S.SteadyNames.orders c.args.steady.now) in
    let V = known_of (g.S.SteadyNames.sets c.args.steady.now) c.args.body.now in
    of_other o V c.args.node.now _ _ (sym c.if-has_head.ensures.kind) (sym c.if-is_switch.ensures.kind) c.substitute_past_in_block.ensures
