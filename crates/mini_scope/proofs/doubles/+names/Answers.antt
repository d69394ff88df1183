use Rattle.std.proofs.Common.{◌≡◌, ◌≤◌, ◌<◌, [], ◌++◌, ◌∷◌, ap, ◌∙◌, refl, arith, ℕ, List, append_assoc}
use Rattle.mini_model.specs.Tree.{Tree, node, count, node_count, shape_of, children}
use Rattle.mini_laws.specs.Early.{early_names, all_early_names, clashing, scope_declarations}
use Rattle.mini_scope.proofs.EarlyWalk.{Gathers, turn, finished, from_first, child_smaller}
use Rattle.mini_scope.proofs.doubles.+names.Goals as goal

gathers : (p : List ℕ) → Gathers (λ i t. early_names (p ++ i ∷ []) t) (all_early_names p)
unfolding early_names
gathers p = record { at_none = λ i. refl; at_more = λ i t ts. refl }

opened : (p : List ℕ) (n : Tree) → early_names p n ≡ clashing [] (scope_declarations (shape_of n) p (children n)) ++ all_early_names p 0 (children n)
unfolding early_names
opened p (node h xs m ts) = refl

pub push_all_early_names-loop-at-init : goal.push_all_early_names-loop-at-init
push_all_early_names-loop-at-init t c = rw (from_first c.args.nodes.now) (refl, refl)

pub push_all_early_names-push_early_names-requires : goal.push_all_early_names-push_early_names-requires
push_all_early_names-push_early_names-requires t c =
    let within : c.loop-at.at < count c.args.nodes.now = omega arith in
    (omega (arith, ap node_count c.child.ensures.value, child_smaller c.args.nodes.now c.loop-at.at within), tt)

pub push_all_early_names-returns-clause-found : goal.push_all_early_names-returns-clause-found
push_all_early_names-returns-clause-found t c =
    let over : count c.args.nodes.now ≤ c.loop-at.at = omega arith in
    finished _ _ (gathers c.args.path.now) c.args.nodes.now c.loop-at.at _ _ over c.loop-at.invariant.1

pub push_all_early_names-loop-at-preserved : goal.push_all_early_names-loop-at-preserved
push_all_early_names-loop-at-preserved t c =
    let ts = c.args.nodes.now in
    let at = c.loop-at.at in
    let p = c.args.path.now in
    let within : at < count ts = omega arith in
    let below : c.push.new.self ≡ p ++ at ∷ [] = c.in_ok-push.ensures.ok ∙ ap (λ q. q ++ at ∷ []) c.loop-at.invariant.0 in (
      c.go_up.ensures p at (c.in_ok-push_early_names.ensures.path ∙ below),
      turn _ _ (gathers p) ts at c.loop-at.found.items _ _ within
          (c.in_ok-push_early_names.ensures.found ∙ ap (λ q. c.loop-at.found.items ++ early_names q c.child.result.now) below ∙ ap (λ x. c.loop-at.found.items ++ early_names (p ++ at ∷ []) x) c.child.ensures.value) c.loop-at.invariant.1,
    )

pub push_early_names-returns-clause-found : goal.push_early_names-returns-clause-found
push_early_names-returns-clause-found t c =
    let n = c.args.node.now in
    let p = c.args.path.now in
    let scope : c.push_scope.new.found.items ≡ scope_declarations (shape_of n) p (children n) = c.in_ok-push_scope.ensures.found ∙ ap (λ r. r ++ scope_declarations (shape_of n) p (children n)) c.new-declarations.ensures.items in
    rw (
      opened p n,
      ← append_assoc c.args.found.now.items (clashing [] (scope_declarations (shape_of n) p (children n))) (all_early_names p 0 (children n)),
      ← scope,
      ← c.in_ok-push_clashing.ensures,
      ← c.in_ok-push_scope.ensures.path,
      ← c.children.ensures,
    ) c.push_all_early_names.ensures.found
