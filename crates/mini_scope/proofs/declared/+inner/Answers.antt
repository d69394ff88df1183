use Rattle.std.proofs.Common.{◌≡◌, Bool, ◌||◌, ◌+◌, drop, sym, ap, ◌∙◌, refl, arith}
use Rattle.std.proofs.lemmas.List.{drop_all}
use Rattle.mini_model.specs.Tree.{Tree, Trees, node, ◌▸◌, shape_of, children}
use Rattle.mini_model.specs.declared.shape.Shape.{Shape}
use Rattle.mini_node.specs.Children.{trees_of}
use Rattle.mini_laws.specs.DeclaredNames.{is_inner, has_inner, any_inner}
use Rattle.mini_scope.proofs.Folds.{child_falls, any_turn}
use Rattle.mini_scope.proofs.declared.+inner.Goals as goal

more : (t : Tree) (ts : Trees) → any_inner (t ▸ ts) ≡ (has_inner t || any_inner ts)
unfolding has_inner
more t ts = refl

opened : (n : Tree) → has_inner n ≡ (is_inner (shape_of n) || any_inner (children n))
unfolding has_inner
opened (node h xs m ts) = refl

held : (n : Tree) (h : Shape) (v : Bool) → v ≡ is_inner h → h ≡ shape_of n → has_inner n ≡ (v || any_inner (children n))
held n h v e s = opened n ∙ ap (λ w. w || any_inner (children n)) (sym (e ∙ ap is_inner s))

pub any_inner-has_inner-requires : goal.any_inner-has_inner-requires
any_inner-has_inner-requires t c = (omega (arith, child_falls _ _ _ _ c.loop-node-test.true c.node-item.is c.as_slice-node-items.ensures), tt)

pub any_inner-returns-then-has_inner : goal.any_inner-returns-then-has_inner
any_inner-returns-then-has_inner t c = sym (c.loop-node.invariant.0 ∙ any_turn has_inner any_inner more c.as_slice-node-items.result.now c.loop-node.node-index c.node-item.result c.loop-node-test.true c.node-item.is ∙ ap (λ b. b || any_inner (trees_of (drop (c.loop-node.node-index + 1) c.as_slice-node-items.result.now))) (sym c.if-has_inner.ensures))

pub any_inner-loop-node-preserved : goal.any_inner-loop-node-preserved
any_inner-loop-node-preserved t c = (c.loop-node.invariant.0 ∙ any_turn has_inner any_inner more c.as_slice-node-items.result.now c.loop-node.node-index c.node-item.result c.loop-node-test.true c.node-item.is ∙ ap (λ b. b || any_inner (trees_of (drop (c.loop-node.node-index + 1) c.as_slice-node-items.result.now))) (sym c.if-has_inner.ensures), c.loop-node.invariant.1)

pub any_inner-returns : goal.any_inner-returns
unfolding has_inner
any_inner-returns t c = sym (c.loop-node.invariant.0 ∙ ap (λ xs. any_inner (trees_of xs)) (drop_all c.loop-node.node-index c.as_slice-node-items.result.now (omega arith)))

pub has_inner-returns-then-is_inner : goal.has_inner-returns-then-is_inner
has_inner-returns-then-is_inner t c = rw (held c.args.node.now _ _ c.if-is_inner.ensures c.shape.ensures, c.if-is_inner.true) refl

pub has_inner-returns-else-is_inner : goal.has_inner-returns-else-is_inner
has_inner-returns-else-is_inner t c = rw (held c.args.node.now _ _ c.if-is_inner.ensures c.shape.ensures, ← c.children.ensures) c.any_inner.ensures
