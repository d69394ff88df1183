use Rattle.std.proofs.Common.{◌≡◌, ◌++◌, sym, ap, ◌∙◌, refl, arith, append_assoc, Bool, if◌then◌else◌}
use Rattle.mini_model.specs.declared.shape.Shape.{Shape}
use Rattle.mini_model.specs.Tree.{Tree, node, shape_of, children}
use Rattle.mini_laws.specs.DeclaredNames.{is_statement_list, names_of, body_names, all_body_names}
use Rattle.mini_laws.specs.declared.names.Declared.TheVariants as declared
use Rattle.mini_scope.proofs.Folds.{child_falls, Gathers, before_turns, turn, after_turns}
use Rattle.mini_scope.proofs.declared.+bodies.Goals as goal

gathers : Gathers body_names all_body_names
unfolding body_names
gathers = record { at_none = refl; at_more = λ t ts. refl }

opened : (n : Tree) → body_names n ≡ (if is_statement_list (shape_of n) then all_body_names (children n) else names_of declared.Lexical n ++ names_of declared.Hoisted n)
unfolding body_names
opened (node h xs m ts) = refl

held : (n : Tree) (h : Shape) (v : Bool) → v ≡ is_statement_list h → h ≡ shape_of n → body_names n ≡ (if v then all_body_names (children n) else names_of declared.Lexical n ++ names_of declared.Hoisted n)
held n h v e s = opened n ∙ ap (λ w. if w then all_body_names (children n) else names_of declared.Lexical n ++ names_of declared.Hoisted n) (sym (e ∙ ap is_statement_list s))

pub push_all_body_names-loop-node-init : goal.push_all_body_names-loop-node-init
push_all_body_names-loop-node-init t c = (before_turns _ _ gathers _, c.as_slice-node-items.ensures)

pub push_all_body_names-push_body_names-requires : goal.push_all_body_names-push_body_names-requires
push_all_body_names-push_body_names-requires t c = (omega (arith, child_falls _ _ _ _ c.loop-node-test.true c.node-item.is c.as_slice-node-items.ensures), tt)

pub push_all_body_names-loop-node-preserved : goal.push_all_body_names-loop-node-preserved
push_all_body_names-loop-node-preserved t c = (turn _ _ gathers _ _ _ _ _ _ c.loop-node-test.true c.node-item.is c.loop-node.invariant.0 c.in_ok-push_body_names.ensures, c.loop-node.invariant.1)

pub push_all_body_names-returns : goal.push_all_body_names-returns
push_all_body_names-returns t c = after_turns all_body_names c.as_slice-node-items.result.now c.loop-node.node-index c.args.nodes.now c.args.names.now.items c.loop-node.names.items (omega arith) c.as_slice-node-items.ensures c.loop-node.invariant.0

pub push_body_names-returns-then-is_statement_list : goal.push_body_names-returns-then-is_statement_list
push_body_names-returns-then-is_statement_list t c = rw (held c.args.node.now _ _ c.if-is_statement_list.ensures c.shape.ensures, ← c.children.ensures) c.push_all_body_names.ensures

pub push_body_names-returns-in_ok-push_names : goal.push_body_names-returns-in_ok-push_names
push_body_names-returns-in_ok-push_names t c = rw (held c.args.node.now _ _ c.if-is_statement_list.ensures c.shape.ensures, ← append_assoc c.args.names.now.items (names_of declared.Lexical c.args.node.now) (names_of declared.Hoisted c.args.node.now), ← c.in_ok-push_names.ensures) c.push_names-else-is_statement_list.ensures
