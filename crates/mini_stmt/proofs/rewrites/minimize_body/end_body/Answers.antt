use Rattle.std.proofs.Common.{false, ◌∙◌, sym, ap, subst, true≢false}
use Rattle.mini_stmt.specs.MinimizeBody.{ends_bare, DropsLast}
use Rattle.mini_stmt.specs.MinimizeStatements.{switches_of}
use Rattle.mini_stmt.proofs.Parts.{not_true, not_false}
use Rattle.mini_stmt.proofs.Bodies.{last_ends, all_turned_end, nothing_ends}
use Rattle.mini_stmt.proofs.rewrites.minimize_body.end_body.Goals as goal

pub returns-then-ends_bare : goal.returns-then-ends_bare
returns-then-ends_bare c =
    last_ends (switches_of c.args.options) c.args.node.now c.drop_last.new.list (sym c.if-not-is_listed.ensures)
    (subst (λ ts. DropsLast false ts c.drop_last.new.list) c.children_mut.ensures.value c.drop_last.ensures)

pub returns-then-not-options : goal.returns-then-not-options
returns-then-not-options c =
    nothing_ends (switches_of c.args.options) c.args.node.now (sym c.if-not-is_listed.ensures) (sym (c.ends_bare.ensures ∙ ap (ends_bare false) c.children.ensures) ∙ c.if-ends_bare.false)
    (λ s. absurd (true≢false (sym s ∙ not_true c.args.options.sequences c.if-not-options.true)))

pub returns : goal.returns
returns c =
    all_turned_end (switches_of c.args.options) c.args.node.now _ c.turn_guards.new.list c.turn_guards.result (not_false c.args.options.sequences c.if-not-options.false) (sym c.if-not-is_listed.ensures) (sym (c.ends_bare.ensures ∙ ap (ends_bare false) c.children.ensures) ∙ c.if-ends_bare.false)
    c.children_mut-2.ensures.value c.turn_guards.ensures
