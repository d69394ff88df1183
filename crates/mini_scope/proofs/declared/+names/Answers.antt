use Rattle.std.proofs.Common.{◌≡◌, [], ◌++◌, sym, ap, ◌∙◌, refl, arith}
use Rattle.std.proofs.lemmas.List.{append-nil}
use Rattle.mini_model.specs.Tree.{Tree, Trees, node, none, ◌▸◌, shape_of, children}
use Rattle.mini_node.specs.Children.{names_of as names_in}
use Rattle.mini_model.specs.declared.shape.Shape.{Shape}
use Rattle.mini_laws.specs.declared.names.Declared.{Declared}
use Rattle.mini_laws.specs.declared.names.Declared.TheVariants as declared
use Rattle.mini_laws.specs.declared.names.Place.{Place}
use Rattle.mini_laws.specs.DeclaredNames.{place_of, names_by, names_of, first_names, all_names}
use Rattle.mini_scope.proofs.Folds.{child_falls, Gathers, before_turns, turn, after_turns, first_at, no_child}
use Rattle.mini_scope.proofs.declared.+names.Goals as goal

gathers : (d : Declared) → Gathers (names_of d) (all_names d)
unfolding names_of
gathers d = record { at_none = refl; at_more = λ t ts. refl }

opened : (d : Declared) (n : Tree) → names_of d n ≡ names_by (place_of d (shape_of n)) (names_in n) (first_names (children n)) (all_names declared.Bound (children n)) (all_names d (children n))
unfolding names_of
opened d (node h xs m ts) = refl

named : (d : Declared) (n : Tree) (h : Shape) (p : Place) → p ≡ place_of d h → h ≡ shape_of n → names_of d n ≡ names_by p (names_in n) (first_names (children n)) (all_names declared.Bound (children n)) (all_names d (children n))
named d n h p e s = opened d n ∙ ap (λ q. names_by q (names_in n) (first_names (children n)) (all_names declared.Bound (children n)) (all_names d (children n))) (sym (e ∙ ap (place_of d) s))

first_bound : (t : Tree) (ts : Trees) → first_names (t ▸ ts) ≡ names_of declared.Bound t
unfolding names_of
first_bound t ts = refl

nothing_bound : first_names none ≡ []
unfolding names_of
nothing_bound = refl

pub push_all_names-loop-node-init : goal.push_all_names-loop-node-init
push_all_names-loop-node-init t c = (before_turns _ _ (gathers c.args.declared) _, c.as_slice-node-items.ensures)

pub push_all_names-push_names-requires : goal.push_all_names-push_names-requires
push_all_names-push_names-requires t c = (omega (arith, child_falls _ _ _ _ c.loop-node-test.true c.node-item.is c.as_slice-node-items.ensures), tt)

pub push_all_names-loop-node-preserved : goal.push_all_names-loop-node-preserved
push_all_names-loop-node-preserved t c = (turn _ _ (gathers c.args.declared) _ _ _ _ _ _ c.loop-node-test.true c.node-item.is c.loop-node.invariant.0 c.in_ok-push_names.ensures, c.loop-node.invariant.1)

pub push_all_names-returns : goal.push_all_names-returns
push_all_names-returns t c = after_turns (all_names c.args.declared) c.as_slice-node-items.result.now c.loop-node.node-index c.args.nodes.now c.args.names.now.items c.loop-node.names.items (omega arith) c.as_slice-node-items.ensures c.loop-node.invariant.0

pub push_names-returns-in-Here : goal.push_names-returns-in-Here
push_names-returns-in-Here t c = rw (named c.args.declared c.args.node.now _ _ c.in-Here.ensures c.shape.ensures) c.push_own_name.ensures

pub push_names-returns-in-empty : goal.push_names-returns-in-empty
push_names-returns-in-empty t c = rw (named c.args.declared c.args.node.now _ _ c.in-FirstBound.ensures c.shape.ensures, ← c.children-nodes.ensures) (sym (append-nil _) ∙ ap (λ r. c.args.names.now.items ++ r) (sym (no_child first_names c.as_slice.result.now _ c.in-empty.len_below c.as_slice.ensures ∙ nothing_bound)))

pub push_names-returns-in-len1-up : goal.push_names-returns-in-len1-up
push_names-returns-in-len1-up t c = rw (named c.args.declared c.args.node.now _ _ c.in-FirstBound.ensures c.shape.ensures, ← c.children-nodes.ensures, first_at (names_of declared.Bound) first_names first_bound c.as_slice.result.now c.first-item.result _ c.in-len1-up.len_at_least c.first-item.is c.as_slice.ensures) c.push_names.ensures

pub push_names-returns-in-Bound : goal.push_names-returns-in-Bound
push_names-returns-in-Bound t c = rw (named c.args.declared c.args.node.now _ _ c.in-Bound.ensures c.shape.ensures, ← c.children-nodes.ensures) c.push_all_names.ensures

pub push_names-returns-in-Below : goal.push_names-returns-in-Below
push_names-returns-in-Below t c = rw (named c.args.declared c.args.node.now _ _ c.in-Below.ensures c.shape.ensures, ← c.children-nodes.ensures) c.push_all_names-in-Below.ensures

pub push_names-returns-in-Nowhere : goal.push_names-returns-in-Nowhere
push_names-returns-in-Nowhere t c = rw (named c.args.declared c.args.node.now _ _ c.in-Nowhere.ensures c.shape.ensures) (sym (append-nil _))
