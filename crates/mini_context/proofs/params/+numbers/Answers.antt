use Rattle.std.proofs.Common.{◌<◌, ◌≤◌, ◌∷◌, [], subst, arith}
use Rattle.std.proofs.lemmas.Result.{on_ok_weaker}
use Rattle.mini_model.specs.Tree.{children, count, first_or_absent}
use Rattle.mini_node.specs.Children.{number_of}
use Rattle.mini_context.specs.Enclosing.{all_numbers_in, numbers_in, PutNumbers}
use Rattle.mini_context.proofs.Gathering.{begins, turn, finished}
use Rattle.mini_context.proofs.Enclosing.{numbers_gather, numbers_open, numbers_put}
use Rattle.mini_context.proofs.params.+numbers.Goals as goal

pub put_all_numbers-loop-at-init : goal.put_all_numbers-loop-at-init
put_all_numbers-loop-at-init t c = begins (PutNumbers c.args.function) (λ i us. all_numbers_in us) c.args.nodes.now c.args.lists.now.items

pub put_all_numbers-loop-at-preserved : goal.put_all_numbers-loop-at-preserved
put_all_numbers-loop-at-preserved t c =
    let inside : c.loop-at.at < count c.args.nodes.now = omega arith in
    turn (PutNumbers c.args.function) (λ i us. numbers_in (first_or_absent us)) (λ i us. all_numbers_in us) (numbers_put c.args.function) numbers_gather c.args.nodes.now c.loop-at.at c.child.result.now _ _ _ inside c.child.ensures.value c.in_ok-put_numbers.ensures c.loop-at.invariant

pub put_all_numbers-returns : goal.put_all_numbers-returns
put_all_numbers-returns t c =
    let over : count c.args.nodes.now ≤ c.loop-at.at = omega arith in
    finished (PutNumbers c.args.function) (λ i us. numbers_in (first_or_absent us)) (λ i us. all_numbers_in us) (numbers_put c.args.function) numbers_gather c.args.nodes.now c.loop-at.at _ _ over c.loop-at.invariant

pub put_numbers-returns : goal.put_numbers-returns
put_numbers-returns t c =
    let n = c.args.node.now in
    let k = c.args.function in
    let own = subst (λ m. PutNumbers k (m ∷ []) c.args.lists.now.items c.put_own.new.lists.items) c.number.ensures c.in_ok-put_own.ensures in
    on_ok_weaker _ (λ p. subst (λ ns. PutNumbers k ns c.args.lists.now.items c.put_all_numbers.new.lists.items) (numbers_open n)
    ((numbers_put k).both (number_of n ∷ []) (all_numbers_in (children n)) c.args.lists.now.items c.put_own.new.lists.items c.put_all_numbers.new.lists.items own (subst (λ us. PutNumbers k (all_numbers_in us) c.put_own.new.lists.items c.put_all_numbers.new.lists.items) c.children.ensures p))) c.put_all_numbers.ensures
