use Rattle.std.proofs.Common.{◌-◌, ◌∙◌, sym, ap, arith}
use Rattle.mini_model.specs.Tree.{absent}
use Rattle.mini_stmt.specs.MinimizeBody.{is_jump}
use Rattle.mini_stmt.proofs.Guards.{last_is}
use Rattle.mini_stmt.proofs.Bodies.{none_bare}
use Rattle.mini_stmt.proofs.rewrites.minimize_body.ends_bare.Goals as goal

pub returns-then-count-eq0 : goal.returns-then-count-eq0
returns-then-count-eq0 c = sym (none_bare c.args.in_loop c.args.list.now (sym c.len-count.ensures ∙ c.if-count-eq0.true))

pub returns : goal.returns
returns c = c.is_jump.ensures ∙ ap (is_jump c.args.in_loop) (c.child.ensures.value ∙ sym (last_is absent c.args.list.now (c.len-count.result - 1) (grind (arith, c.len-count.ensures, c.if-count-eq0.false))))
