use Rattle.std.proofs.Common.{◌∙◌, sym, ap, subst, ◌<◌}
use Rattle.mini_model.specs.Tree.{count}
use Rattle.mini_stmt.specs.MinimizeBody.{is_guard, may_nest}
use Rattle.mini_stmt.proofs.Bodies.{some_rest, rest_there, turned_there}
use Rattle.mini_stmt.proofs.rewrites.minimize_body.turn_at.Goals as goal

pub remove-guard-requires : goal.remove-guard-requires
remove-guard-requires c = subst (λ ts. 0 < count ts) (sym c.in_ok-rest.ensures.rest) (some_rest c.args.in_loop c.args.list.now c.args.at c.requires.0)

pub turned-requires-clause-guard : goal.turned-requires-clause-guard
turned-requires-clause-guard c = ap (is_guard c.args.in_loop) (rest_there c.args.in_loop c.args.list.now c.args.at c.requires.0 c.in_ok-rest.rest c.remove-guard.new.self c.remove-guard.result c.in_ok-rest.ensures.rest c.remove-guard.ensures.value c.remove-guard.ensures.rest).0 ∙ c.requires.1

pub turned-requires-clause-rest : goal.turned-requires-clause-rest
turned-requires-clause-rest c = ap may_nest (rest_there c.args.in_loop c.args.list.now c.args.at c.requires.0 c.in_ok-rest.rest c.remove-guard.new.self c.remove-guard.result c.in_ok-rest.ensures.rest c.remove-guard.ensures.value c.remove-guard.ensures.rest).1 ∙ c.requires.2

pub returns : goal.returns
returns c =
    turned_there c.args.in_loop c.args.list.now c.args.at c.requires.0 c.split_off.new.self c.in_ok-rest.rest c.remove-guard.new.self c.remove-guard.result c.in_ok-made.made c.push.new.self
    c.in_ok-rest.ensures.ok c.in_ok-rest.ensures.rest c.remove-guard.ensures.value c.remove-guard.ensures.rest c.in_ok-made.ensures c.in_ok-push.ensures.ok
