use Rattle.std.proofs.Common.{◌≤◌, ◌∙◌, ap, sym, arith, false, [], ◌∷◌, ◌++◌}
use Rattle.std.proofs.lemmas.List.{append-nil}
use Rattle.std.proofs.lemmas.Result.{on_ok_weaker}
use Rattle.mini_model.specs.Tree.{count}
use Rattle.mini_laws.specs.Early.{body_declarations, declarations, in_body, children_of_node}
use Rattle.mini_scope.proofs.EarlyWalk.{missing}
use Rattle.mini_scope.proofs.declarations.push_block.Goals as goal

pub returns-in_ok-push-clause-path : goal.returns-in_ok-push-clause-path
returns-in_ok-push-clause-path c = on_ok_weaker c.push_body_at-pushed.result (λ e. c.go_up.ensures c.args.path.now 1 (e ∙ c.in_ok-push.ensures.ok)) c.push_body_at-pushed.ensures.path

pub returns-in_ok-push-clause-found : goal.returns-in_ok-push-clause-found
returns-in_ok-push-clause-found c =
    let before = c.args.found.now.items in
    on_ok_weaker c.push_body_at-pushed.result (λ e. e ∙ ap (λ p. before ++ in_body false p c.children.result.now 0) c.in_ok-push.ensures.ok
    ∙ ap (λ us. before ++ in_body false (c.args.path.now ++ 1 ∷ []) us 0) (c.children.ensures ∙ ap children_of_node c.child.ensures.value)) c.push_body_at-pushed.ensures.found

pub returns-else-len-gt1-clause-found : goal.returns-else-len-gt1-clause-found
unfolding body_declarations declarations
returns-else-len-gt1-clause-found c =
    let over : count c.args.nodes.now ≤ 1 = omega arith in
    sym (append-nil _) ∙ ap (λ r. c.args.found.now.items ++ r) (sym (ap (λ x. in_body false (c.args.path.now ++ 1 ∷ []) (children_of_node x) 0) (missing c.args.nodes.now 1 over)))
