use Rattle.std.proofs.Common.{◌<◌, ◌≤◌, ◌∙◌, sym, ap, arith}
use Rattle.mini_model.specs.Tree.{count}
use Rattle.mini_rows.specs.Past.{are_past_in}
use Rattle.mini_past.specs.SubstitutePast.{held_at}
use Rattle.mini_past.proofs.PassedParts.{past_first, past_there, past_stopped, past_step, past_end}
use Rattle.mini_past.proofs.reaching.+past.Goals as goal

pub all_past-loop-place-init : goal.all_past-loop-place-init
all_past-loop-place-init g t c =
    let H = held_at (g.S.SteadyNames.sets c.args.steady.now c.args.body) c.args.statements.now c.args.at c.args.declarators.now c.args.which in
    past_first H c.args.name.now c.args.gathered c.args.init.now c.args.shape.now c.args.nodes.now

pub all_past-returns-then-is_mentioned : goal.all_past-returns-then-is_mentioned
all_past-returns-then-is_mentioned g t c =
    let H = held_at (g.S.SteadyNames.sets c.args.steady.now c.args.body) c.args.statements.now c.args.at c.args.declarators.now c.args.which in
    let inside : c.loop-place.place < count c.args.nodes.now = omega arith in
    let there = past_there H c.args.name.now c.args.gathered c.args.init.now c.args.shape.now c.args.nodes.now c.loop-place.place c.child-part.result.now _ inside c.child-part.ensures.value c.is_mentioned.ensures c.if-is_mentioned.true in
    c.are_past_in.ensures ∙ ap (λ m. are_past_in H c.args.name.now m c.args.init.now c.child-part.result.now) c.gathered_below.ensures ∙ sym (c.loop-place.invariant ∙ there)

pub all_past-returns-then-not-passes_any_at : goal.all_past-returns-then-not-passes_any_at
all_past-returns-then-not-passes_any_at g t c =
    let H = held_at (g.S.SteadyNames.sets c.args.steady.now c.args.body) c.args.statements.now c.args.at c.args.declarators.now c.args.which in
    let inside : c.loop-place.place < count c.args.nodes.now = omega arith in
    sym (c.loop-place.invariant ∙ past_stopped H c.args.name.now c.args.gathered c.args.init.now c.args.shape.now c.args.nodes.now c.loop-place.place c.child-part.result.now _ _ inside c.child-part.ensures.value c.is_mentioned.ensures c.if-is_mentioned.false c.passes_any_at.ensures c.if-not-passes_any_at.true)

pub all_past-loop-place-preserved : goal.all_past-loop-place-preserved
all_past-loop-place-preserved g t c =
    let H = held_at (g.S.SteadyNames.sets c.args.steady.now c.args.body) c.args.statements.now c.args.at c.args.declarators.now c.args.which in
    let inside : c.loop-place.place < count c.args.nodes.now = omega arith in
    c.loop-place.invariant ∙ past_step H c.args.name.now c.args.gathered c.args.init.now c.args.shape.now c.args.nodes.now c.loop-place.place c.child-part.result.now _ _ inside c.child-part.ensures.value c.is_mentioned.ensures c.if-is_mentioned.false c.passes_any_at.ensures c.if-not-passes_any_at.false

pub all_past-returns : goal.all_past-returns
all_past-returns g t c =
    let H = held_at (g.S.SteadyNames.sets c.args.steady.now c.args.body) c.args.statements.now c.args.at c.args.declarators.now c.args.which in
    let over : count c.args.nodes.now ≤ c.loop-place.place = omega arith in
    sym (c.loop-place.invariant ∙ past_end H c.args.name.now c.args.gathered c.args.init.now c.args.shape.now c.args.nodes.now c.loop-place.place over)
