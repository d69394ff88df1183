use Rattle.std.proofs.Common.{◌≡◌, ◌≤◌, ◌<◌, [], ◌++◌, ◌∷◌, ap, ◌∙◌, refl, arith, ℕ, List, append_assoc, if◌then◌else◌}
use Rattle.mini_model.specs.declared.shape.Shape.{Shape}
use Rattle.mini_model.specs.Tree.{Tree, Trees, node, count, node_count, shape_of, children}
use Rattle.mini_laws.specs.declared.names.Targets.{Targets}
use Rattle.mini_laws.specs.Early.{early_jumps, all_early_jumps, targets_of, turned, is_bad_jump}
use Rattle.mini_scope.proofs.EarlyWalk.{Gathers, turn, finished, from_first, child_smaller}
use Rattle.mini_scope.proofs.jumps.+jumps.Goals as goal

gathers : (h : Shape) (us : Trees) (a : Targets) (p : List ℕ) → Gathers (λ i t. early_jumps (targets_of h us a i) (p ++ i ∷ []) t) (all_early_jumps (targets_of h us a) p)
unfolding early_jumps
gathers h us a p = record { at_none = λ i. refl; at_more = λ i t ts. refl }

opened : (a : Targets) (p : List ℕ) (n : Tree) → early_jumps a p n ≡ (if is_bad_jump (shape_of n) (children n) a then p ∷ [] else []) ++ all_early_jumps (targets_of (shape_of n) (children n) a) p 0 (children n)
unfolding early_jumps
opened a p (node h xs m ts) = refl

pub push_all_early_jumps-loop-at-init : goal.push_all_early_jumps-loop-at-init
push_all_early_jumps-loop-at-init t c = rw (from_first c.args.nodes.now) (refl, refl)

pub push_all_early_jumps-push_turned-requires : goal.push_all_early_jumps-push_turned-requires
push_all_early_jumps-push_turned-requires t c =
    let within : c.loop-at.at < count c.args.nodes.now = omega arith in
    (omega (arith, ap node_count c.child.ensures.value, child_smaller c.args.nodes.now c.loop-at.at within), tt)

pub push_all_early_jumps-returns-clause-found : goal.push_all_early_jumps-returns-clause-found
push_all_early_jumps-returns-clause-found t c =
    let over : count c.args.nodes.now ≤ c.loop-at.at = omega arith in
    finished _ _ (gathers c.args.shape.now c.args.nodes.now c.args.targets.now c.args.path.now) c.args.nodes.now c.loop-at.at _ _ over c.loop-at.invariant.1

pub push_all_early_jumps-loop-at-preserved : goal.push_all_early_jumps-loop-at-preserved
unfolding targets_of
push_all_early_jumps-loop-at-preserved t c =
    let ts = c.args.nodes.now in
    let at = c.loop-at.at in
    let p = c.args.path.now in
    let a = c.args.targets.now in
    let within : at < count ts = omega arith in
    let below : c.push.new.self ≡ p ++ at ∷ [] = c.in_ok-push.ensures.ok ∙ ap (λ q. q ++ at ∷ []) c.loop-at.invariant.0 in (
      c.go_up.ensures p at (c.in_ok-push_turned.ensures.path ∙ below),
      turn _ _ (gathers c.args.shape.now ts a p) ts at c.loop-at.found.items _ _ within
          (c.in_ok-push_turned.ensures.found ∙ ap (λ q. c.loop-at.found.items ++ early_jumps (turned c.turn_of.result ts a) q c.child.result.now) below
          ∙ ap (λ u. c.loop-at.found.items ++ early_jumps (turned u ts a) (p ++ at ∷ []) c.child.result.now) c.turn_of.ensures
          ∙ ap (λ x. c.loop-at.found.items ++ early_jumps (targets_of c.args.shape.now ts a at) (p ++ at ∷ []) x) c.child.ensures.value) c.loop-at.invariant.1,
    )

pub push_early_jumps-returns-clause-found : goal.push_early_jumps-returns-clause-found
push_early_jumps-returns-clause-found t c =
    let n = c.args.node.now in
    let p = c.args.path.now in
    let a = c.args.targets.now in
    let before = c.args.found.now.items in
    let here : c.push_here.new.found.items ≡ before ++ (if is_bad_jump (shape_of n) (children n) a then p ∷ [] else []) = c.in_ok-push_here.ensures ∙ ap (λ b. before ++ (if b then p ∷ [] else [])) (c.is_bad_jump-is_bad.ensures ∙ ap (λ h. is_bad_jump h c.children-nodes.result.now a) c.shape-shape.ensures ∙ ap (λ ts. is_bad_jump (shape_of n) ts a) c.children-nodes.ensures) in
    rw (opened a p n, ← append_assoc before (if is_bad_jump (shape_of n) (children n) a then p ∷ [] else []) (all_early_jumps (targets_of (shape_of n) (children n) a) p 0 (children n)), ← here, ← c.shape-shape.ensures, ← c.children-nodes.ensures) c.push_all_early_jumps.ensures.found
