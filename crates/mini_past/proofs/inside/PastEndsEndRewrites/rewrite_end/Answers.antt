use Rattle.std.proofs.Common.{sym, subst}
use Rattle.mini_model.specs.Tree.{children}
use Rattle.mini_rows.specs.PastInside.{past_ends}
use Rattle.mini_inside.proofs.Holders.{where_ok}
use Rattle.mini_inside.specs.Further.{HereWalked}
use Rattle.mini_past.specs.PastEnds.{OneWalked}
use Rattle.mini_past.proofs.inside.PastEndsEndRewrites.rewrite_end.Goals as goal

pub returns-in-Statements : goal.returns-in-Statements
returns-in-Statements g c =
    let k = c.args.self.now.steady.now in
    subst (λ w. HereWalked (past_ends (g.S.SteadyNames.sets k) (g.S.PastNames.lets k)) (children c.args.above.now) w c.args.node.now c.substitute_past_below.new.list c.substitute_past_below.result) (sym c.in-Statements.is) c.substitute_past_below.ensures

pub returns-in-Held : goal.returns-in-Held
returns-in-Held g c =
    let k = c.args.self.now.steady.now in
    let S = g.S.SteadyNames.sets k in
    let W = g.S.PastNames.lets k in
    let made = c.substitute_past_alone in
    where_ok made.result (λ changed. OneWalked S W (children c.args.above.now) c.args.node.now made.new.node changed) (λ changed. HereWalked (past_ends S W) (children c.args.above.now) c.args.way c.args.node.now made.new.node changed)
    (λ changed r. subst (λ w. HereWalked (past_ends S W) (children c.args.above.now) w c.args.node.now made.new.node changed) (sym c.in-Held.is) r.0) made.ensures

pub returns-in-Head : goal.returns-in-Head
returns-in-Head g c =
    let k = c.args.self.now.steady.now in
    let S = g.S.SteadyNames.sets k in
    let W = g.S.PastNames.lets k in
    let made = c.substitute_past_alone-in-Head in
    where_ok made.result (λ changed. OneWalked S W (children c.args.above.now) c.args.node.now made.new.node changed) (λ changed. HereWalked (past_ends S W) (children c.args.above.now) c.args.way c.args.node.now made.new.node changed)
    (λ changed r. subst (λ w. HereWalked (past_ends S W) (children c.args.above.now) w c.args.node.now made.new.node changed) (sym c.in-Head.is) r.1) made.ensures
