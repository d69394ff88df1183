use Rattle.std.proofs.Common.{refl, []}
use Rattle.std.proofs.lemmas.Result.{on_ok_weaker}
use Rattle.mini_context.proofs.Listings.{lists_one, lists_two}
use Rattle.mini_context.proofs.listing.push_scopes.Goals as goal

pub returns-else-least-gt1 : goal.returns-else-least-gt1
returns-else-least-gt1 c = on_ok_weaker c.push_scope-else-least-gt1.result (lists_one c.args.least c.args.scope.now c.args.strict c.args.evals c.args.tables.now c.push_scope-else-least-gt1.new.tables c.if-least-gt1.false c.requires) c.push_scope-else-least-gt1.ensures

pub returns-in_ok-push_scope : goal.returns-in_ok-push_scope
returns-in_ok-push_scope c =
    let after = c.push_scope-then-least-gt1 in
    on_ok_weaker after.result (lists_two c.args.least c.args.scope.now [] c.args.strict c.args.evals c.args.tables.now c.push_scope.new.tables after.new.tables c.if-least-gt1.true refl c.in_ok-push_scope.ensures) after.ensures
