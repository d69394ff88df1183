use Rattle.std.proofs.Common.{◌≡◌, List, map, ℕ, ◌+◌, ◌<◌, ◌≤◌, length, sym, ap, ◌∙◌, refl, arith, take}
use Rattle.std.proofs.lemmas.Result.{IfOk-weaker}
use Rattle.mini_model.specs.Tree.{Tree, Trees, node, none, ◌▸◌, count, node_count, node_counts, child_or_absent, shape_of, children}
use Rattle.mini_model.specs.Paths.{append}
use Rattle.mini_node.specs.Children.{first_children}
use Rattle.mini_model.specs.declared.name.Name.{Name}
use Rattle.mini_node.specs.Children.{names_of, number_of, with_names, like}
use Rattle.mini_laws.specs.Scopes.{use_of, opened}
use Rattle.mini_laws.specs.declared.names.Use.{Use}
use Rattle.mini_laws.specs.declared.names.Binding.{Binding}
use Rattle.mini_laws.specs.Resolved.{Environment, names_in, symbols, symbols_from, resolved, resolved_from}
use Rattle.mini_scope.specs.ScopeAt.{scope_at}
use Rattle.mini_scope.proofs.Walk.{begins, turn, child_smaller, same_child, symbols_split, no_rest, all_first, append_none}
use Rattle.mini_scope.proofs.numbering.+resolve.Goals as goal

symbols_opened : (u : Use) (n : Tree) (sc : ℕ → List Binding) → sc ≡ opened u (shape_of n) (children n) → symbols u n ≡ symbols_from sc (use_of (shape_of n) u) 0 (children n)
unfolding symbols
symbols_opened u (node h xs k ts) sc e = ap (λ s. symbols_from s (use_of h u) 0 ts) (sym e)

resolved_opened : (u : Use) (env : Environment) (s : ℕ) (n : Tree) (sc : ℕ → List Binding) → sc ≡ opened u (shape_of n) (children n) → resolved u env s n ≡ node (shape_of n) (names_in u env (shape_of n) (names_of n) (children n)) (number_of n) (resolved_from sc (use_of (shape_of n) u) 0 env s (children n))
unfolding resolved
resolved_opened u env s (node h xs k ts) sc e = ap (λ c. node h (names_in u env h xs ts) k (resolved_from c (use_of h u) 0 env s ts)) (sym e)

-- a node without children
leaf_symbols : (u : Use) (n : Tree) → count (children n) ≡ 0 → symbols u n ≡ 0
unfolding symbols
leaf_symbols u (node h xs k none) e = refl
leaf_symbols u (node h xs k (t ▸ ts)) e = absurd (omega arith)

leaf_resolved : (u : Use) (env : Environment) (s : ℕ) (n : Tree) → count (children n) ≡ 0 → with_names n (names_in u env (shape_of n) (names_of n) (children n)) ≡ resolved u env s n
unfolding resolved
leaf_resolved u env s (node h xs k none) e = refl
leaf_resolved u env s (node h xs k (t ▸ ts)) e = absurd (omega arith)

child_counts : (n : Tree) → node_counts (children n) < node_count n
child_counts (node h xs k ts) = omega arith

-- a node with another name, whose children are taken out and others put in
named_shape : (n : Tree) (ys : List Name) → shape_of (with_names n ys) ≡ shape_of n
named_shape (node h xs k ts) ys = refl

named_children : (n : Tree) (ys : List Name) → children (with_names n ys) ≡ children n
named_children (node h xs k ts) ys = refl

rebuilt : (n m : Tree) (ys : List Name) (us : Trees) → m ≡ like (with_names n ys) none → like m us ≡ node (shape_of n) ys (number_of n) us
rebuilt (node h xs k ts) m ys us e = ap (λ v. like v us) e

-- the scopes of a node whose name has its symbol are its own
opened_named : (u : Use) (n m : Tree) (ys : List Name) (sc : ℕ → List Binding) → m ≡ with_names n ys → sc ≡ opened u (shape_of m) (children m) → sc ≡ opened u (shape_of n) (children n)
opened_named u n m ys sc e f = f ∙ ap (λ h. opened u h (children m)) (ap shape_of e ∙ named_shape n ys) ∙ ap (opened u (shape_of n)) (ap children e ∙ named_children n ys)

pub resolve_node-resolve_nodes-after-requires : goal.resolve_node-resolve_nodes-after-requires
resolve_node-resolve_nodes-after-requires t c =
    let u = c.args.usage in
    let n = c.args.node.now in
    let ys = names_in u c.args.environment.now (shape_of n) (names_of n) (children n) in
    let sc = scope_at c.in_ok-scopes.scopes in
    let kids : c.take_children-children.result ≡ children n = c.take_children-children.ensures.children ∙ ap children c.in_ok-give_names.ensures ∙ named_children n ys in
    let kind : c.shape.result.now ≡ shape_of n = c.shape.ensures ∙ ap shape_of c.take_children-children.ensures.rest ∙ ap shape_of c.in_ok-give_names.ensures ∙ named_shape n ys in
    let opens = opened_named u n c.give_names.new.node ys sc c.in_ok-give_names.ensures c.in_ok-scopes.ensures in
    let below : symbols_from sc (use_of c.shape.result.now u) 0 c.take_children-children.result ≡ symbols u n = ap (symbols_from sc (use_of c.shape.result.now u) 0) kids ∙ ap (λ h. symbols_from sc (use_of h u) 0 (children n)) kind ∙ sym (symbols_opened u n sc opens) in
    (omega (arith, ap node_counts kids, child_counts n), omega (arith, c.requires, below))

pub resolve_node-returns-clause-after : goal.resolve_node-returns-clause-after
resolve_node-returns-clause-after t c =
    let u = c.args.usage in
    let n = c.args.node.now in
    let ys = names_in u c.args.environment.now (shape_of n) (names_of n) (children n) in
    let sc = scope_at c.in_ok-scopes.scopes in
    let kids : c.take_children-children.result ≡ children n = c.take_children-children.ensures.children ∙ ap children c.in_ok-give_names.ensures ∙ named_children n ys in
    let kind : c.shape.result.now ≡ shape_of n = c.shape.ensures ∙ ap shape_of c.take_children-children.ensures.rest ∙ ap shape_of c.in_ok-give_names.ensures ∙ named_shape n ys in
    let opens = opened_named u n c.give_names.new.node ys sc c.in_ok-give_names.ensures c.in_ok-scopes.ensures in
    let below : symbols_from sc (use_of c.shape.result.now u) 0 c.take_children-children.result ≡ symbols u n = ap (symbols_from sc (use_of c.shape.result.now u) 0) kids ∙ ap (λ h. symbols_from sc (use_of h u) 0 (children n)) kind ∙ sym (symbols_opened u n sc opens) in
    IfOk-weaker c.resolve_nodes-after.result _ _ (λ x e. e ∙ ap (λ k. c.args.next + k) below) c.resolve_nodes-after.ensures.after

pub resolve_node-returns-clause-resolved : goal.resolve_node-returns-clause-resolved
resolve_node-returns-clause-resolved t c =
    let u = c.args.usage in
    let n = c.args.node.now in
    let ys = names_in u c.args.environment.now (shape_of n) (names_of n) (children n) in
    let sc = scope_at c.in_ok-scopes.scopes in
    let kids : c.take_children-children.result ≡ children n = c.take_children-children.ensures.children ∙ ap children c.in_ok-give_names.ensures ∙ named_children n ys in
    let kind : c.shape.result.now ≡ shape_of n = c.shape.ensures ∙ ap shape_of c.take_children-children.ensures.rest ∙ ap shape_of c.in_ok-give_names.ensures ∙ named_shape n ys in
    let opens = opened_named u n c.give_names.new.node ys sc c.in_ok-give_names.ensures c.in_ok-scopes.ensures in
    let env = c.args.environment.now in
    let s = c.args.next in
    let done = c.resolve_nodes-after.new.nodes in
    let same : resolved_from sc (use_of c.shape.result.now u) 0 env s c.take_children-children.result ≡ resolved_from sc (use_of (shape_of n) u) 0 env s (children n) = ap (resolved_from sc (use_of c.shape.result.now u) 0 env s) kids ∙ ap (λ h. resolved_from sc (use_of h u) 0 env s (children n)) kind in
    let put = c.put_children.ensures ∙ rebuilt n c.take_children-children.new.self ys done (c.take_children-children.ensures.rest ∙ ap (λ m. like m none) c.in_ok-give_names.ensures) in
    IfOk-weaker c.resolve_nodes-after.result _ _ (λ x e. put ∙ ap (node (shape_of n) ys (number_of n)) (e ∙ same) ∙ sym (resolved_opened u env s n sc opens)) c.resolve_nodes-after.ensures.resolved

pub resolve_node-returns-clause-left : goal.resolve_node-returns-clause-left
resolve_node-returns-clause-left t c = IfOk-weaker c.resolve_nodes-after.result _ _ (λ x e. c.leave.ensures ∙ ap (λ k. take k c.resolve_nodes-after.new.environment) c.len-around.ensures ∙ e) c.resolve_nodes-after.ensures.within

pub resolve_node-returns-then-is_leaf-clause-after : goal.resolve_node-returns-then-is_leaf-clause-after
resolve_node-returns-then-is_leaf-clause-after t c =
    let kids : children c.give_names.new.node ≡ children c.args.node.now = ap children c.in_ok-give_names.ensures ∙ named_children c.args.node.now _ in
    omega (arith, leaf_symbols c.args.usage c.args.node.now (sym (ap count kids) ∙ c.is_leaf.ensures c.if-is_leaf.true))

pub resolve_node-returns-then-is_leaf-clause-resolved : goal.resolve_node-returns-then-is_leaf-clause-resolved
resolve_node-returns-then-is_leaf-clause-resolved t c =
    let kids : children c.give_names.new.node ≡ children c.args.node.now = ap children c.in_ok-give_names.ensures ∙ named_children c.args.node.now _ in
    c.in_ok-give_names.ensures ∙ leaf_resolved c.args.usage c.args.environment.now c.args.next c.args.node.now (sym (ap count kids) ∙ c.is_leaf.ensures c.if-is_leaf.true)

pub resolve_nodes-loop-at-init : goal.resolve_nodes-loop-at-init
resolve_nodes-loop-at-init t c = (begins _ _ _ _ _, λ k h. refl)

pub resolve_nodes-enter-requires : goal.resolve_nodes-enter-requires
resolve_nodes-enter-requires t c =
    let sc = scope_at c.args.scopes.now in
    let us = use_of c.args.shape.now c.args.usage in
    let within : c.loop-at.at < count c.args.nodes.now = omega arith in
    let scope : c.take.result.items ≡ sc c.loop-at.at = c.take.ensures.value ∙ c.loop-at.invariant.1 c.loop-at.at (omega arith) in
    omega (arith, c.loop-at.invariant.0.counted, symbols_split sc us c.args.nodes.now c.loop-at.at within, ap length scope)

pub resolve_nodes-resolve_node-requires : goal.resolve_nodes-resolve_node-requires
resolve_nodes-resolve_node-requires t c =
    let sc = scope_at c.args.scopes.now in
    let us = use_of c.args.shape.now c.args.usage in
    let ts = c.args.nodes.now in
    let at = c.loop-at.at in
    let within : at < count ts = omega arith in
    let within_now : at < count c.loop-at.nodes = omega (arith, c.loop-at.invariant.0.same_count) in
    let scope : c.take.result.items ≡ sc at = c.take.ensures.value ∙ c.loop-at.invariant.1 at (omega arith) in
    let child : c.child_mut.result.now ≡ child_or_absent ts at = c.child_mut.ensures.value ∙ same_child c.loop-at.nodes ts at within_now within c.loop-at.invariant.0.left in (
      omega (arith, ap node_count child, child_smaller ts at within),
      omega (arith, c.loop-at.invariant.0.counted, symbols_split sc us ts at within, ap length scope, c.in_ok-next.ensures.after, ap (λ u. symbols u c.child_mut.result.now) c.use_of.ensures, ap (symbols (us at)) child),
    )

pub resolve_nodes-loop-at-preserved : goal.resolve_nodes-loop-at-preserved
resolve_nodes-loop-at-preserved t c = (
  turn (scope_at c.args.scopes.now) (use_of c.args.shape.now c.args.usage) c.args.next c.args.environment.now c.args.nodes.now c.loop-at.at c.loop-at.next c.loop-at.environment c.loop-at.nodes c.loop-at.invariant.0 (omega arith)
      c.take.result.items c.use_of.result c.resolve_node.new.environment c.in_ok-next.next c.in_ok-next-2.next c.child_mut.result.now c.resolve_node.new.node
      (c.take.ensures.value ∙ c.loop-at.invariant.1 c.loop-at.at (omega arith)) c.use_of.ensures (c.in_ok-next-2.ensures.left ∙ c.in_ok-next.ensures.entered) c.in_ok-next.ensures.after c.child_mut.ensures.value
      (c.in_ok-next-2.ensures.resolved ∙ ap (λ e. resolved c.use_of.result e c.in_ok-next.next c.child_mut.result.now) (sym c.in_ok-next-2.ensures.left)) c.in_ok-next-2.ensures.after,
  λ k h. c.take.ensures.rest k (omega arith) ∙ c.loop-at.invariant.1 k (omega arith),
)

pub resolve_nodes-returns-clause-after : goal.resolve_nodes-returns-clause-after
unfolding symbols
resolve_nodes-returns-clause-after t c = let none_left = no_rest c.args.nodes.now c.loop-at.at (omega arith) in omega (arith, c.loop-at.invariant.0.counted, ap (symbols_from (scope_at c.args.scopes.now) (use_of c.args.shape.now c.args.usage) c.loop-at.at) none_left)

pub resolve_nodes-returns-clause-resolved : goal.resolve_nodes-returns-clause-resolved
unfolding resolved
resolve_nodes-returns-clause-resolved t c =
    let ended : count c.args.nodes.now ≤ c.loop-at.at = omega arith in
    let none_left = no_rest c.args.nodes.now c.loop-at.at ended in
    sym (c.loop-at.invariant.0.done ∙ ap (λ r. append (first_children c.loop-at.at c.loop-at.nodes) (resolved_from (scope_at c.args.scopes.now) (use_of c.args.shape.now c.args.usage) c.loop-at.at c.loop-at.environment c.loop-at.next r)) none_left ∙ append_none (first_children c.loop-at.at c.loop-at.nodes) ∙ all_first c.loop-at.nodes c.loop-at.at (omega (arith, c.loop-at.invariant.0.same_count)))
