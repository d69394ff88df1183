use Rattle.std.proofs.Common.{◌≡◌, ◌≤◌, ◌<◌, [], ◌++◌, ◌∷◌, sym, ap, ◌∙◌, refl, arith, ℕ, Bool, false, not, ◌&&◌, List, append_assoc, if◌then◌else◌}
use Rattle.std.proofs.lemmas.List.{append-nil}
use Rattle.std.proofs.lemmas.Result.{on_ok_weaker}
use Rattle.mini_model.specs.Tree.{Tree, node, absent, count, node_count, shape_of, children}
use Rattle.mini_laws.specs.declared.names.Declared.TheVariants as declared
use Rattle.mini_model.specs.declared.shape.Shape.{Shape}
use Rattle.mini_laws.specs.Early.{declarations, holds_statements, is_function_shape, statement_declarations, body_declarations, all_body_declarations, in_body}
use Rattle.mini_scope.proofs.EarlyWalk.{Gathers, turn, finished, from_first, child_smaller, missing}
use Rattle.mini_scope.proofs.declarations.+bodies.Goals as goal

gathers : (b : Bool) (p : List ℕ) → Gathers (λ i t. body_declarations b (p ++ i ∷ []) t) (all_body_declarations b p)
unfolding body_declarations
gathers b p = record { at_none = λ i. refl; at_more = λ i t ts. refl }

nothing : (b : Bool) (p : List ℕ) → body_declarations b p absent ≡ []
unfolding body_declarations declarations
nothing b p = refl

opened : (b : Bool) (p : List ℕ) (n : Tree) → body_declarations b p n ≡ (if holds_statements (shape_of n) then all_body_declarations b p 0 (children n) else statement_declarations b p n)
unfolding body_declarations
opened b p (node h xs m ts) = refl

held : (b : Bool) (p : List ℕ) (n : Tree) (h : Shape) (v : Bool) → v ≡ holds_statements h → h ≡ shape_of n → body_declarations b p n ≡ (if v then all_body_declarations b p 0 (children n) else statement_declarations b p n)
held b p n h v e s = opened b p n ∙ ap (λ w. if w then all_body_declarations b p 0 (children n) else statement_declarations b p n) (sym (e ∙ ap holds_statements s))

pub push_all_bodies-loop-at-init : goal.push_all_bodies-loop-at-init
push_all_bodies-loop-at-init t c = rw (from_first c.args.nodes.now) (refl, refl)

pub push_all_bodies-loop-at-preserved : goal.push_all_bodies-loop-at-preserved
push_all_bodies-loop-at-preserved t c =
    let b = c.args.is_outer in
    let within : c.loop-at.at < count c.args.nodes.now = omega arith in (
      c.in_ok-push_body_at.ensures.path ∙ c.loop-at.invariant.0,
      turn _ _ (gathers b c.args.path.now) c.args.nodes.now c.loop-at.at c.loop-at.found.items _ _ within
          (c.in_ok-push_body_at.ensures.found ∙ ap (λ p. c.loop-at.found.items ++ in_body b p c.args.nodes.now c.loop-at.at) c.loop-at.invariant.0) c.loop-at.invariant.1,
    )

pub push_all_bodies-returns-clause-found : goal.push_all_bodies-returns-clause-found
push_all_bodies-returns-clause-found t c =
    let over : count c.args.nodes.now ≤ c.loop-at.at = omega arith in
    finished _ _ (gathers c.args.is_outer c.args.path.now) c.args.nodes.now c.loop-at.at _ _ over c.loop-at.invariant.1

pub push_body_at-push_body-pushed-requires : goal.push_body_at-push_body-pushed-requires
push_body_at-push_body-pushed-requires t c =
    let within : c.args.at < count c.args.nodes.now = omega arith in
    (omega (arith, ap node_count c.child.ensures.value, child_smaller c.args.nodes.now c.args.at within), tt)

pub push_body_at-returns-in_ok-push-clause-path : goal.push_body_at-returns-in_ok-push-clause-path
push_body_at-returns-in_ok-push-clause-path t c = on_ok_weaker c.push_body-pushed.result (λ e. c.go_up.ensures c.args.path.now c.args.at (e ∙ c.in_ok-push.ensures.ok)) c.push_body-pushed.ensures.path

pub push_body_at-returns-in_ok-push-clause-found : goal.push_body_at-returns-in_ok-push-clause-found
push_body_at-returns-in_ok-push-clause-found t c =
    let d = body_declarations c.args.is_outer in
    on_ok_weaker c.push_body-pushed.result (λ e. e ∙ ap (λ p. c.args.found.now.items ++ d p c.child.result.now) c.in_ok-push.ensures.ok ∙ ap (λ u. c.args.found.now.items ++ d (c.args.path.now ++ c.args.at ∷ []) u) c.child.ensures.value) c.push_body-pushed.ensures.found

pub push_body_at-returns-else-at-len-clause-found : goal.push_body_at-returns-else-at-len-clause-found
push_body_at-returns-else-at-len-clause-found t c =
    let over : count c.args.nodes.now ≤ c.args.at = omega arith in
    sym (append-nil _) ∙ ap (λ r. c.args.found.now.items ++ r) (sym (ap (body_declarations c.args.is_outer (c.args.path.now ++ c.args.at ∷ [])) (missing c.args.nodes.now c.args.at over) ∙ nothing c.args.is_outer (c.args.path.now ++ c.args.at ∷ [])))

pub push_body-returns-then-holds_statements-clause-found : goal.push_body-returns-then-holds_statements-clause-found
push_body-returns-then-holds_statements-clause-found t c = rw (held c.args.is_outer c.args.path.now c.args.node.now _ _ c.if-holds_statements.ensures c.shape.ensures, ← c.children-nodes.ensures) c.push_all_bodies.ensures.found

pub push_body-returns-in_ok-push_declarations-clause-found : goal.push_body-returns-in_ok-push_declarations-clause-found
push_body-returns-in_ok-push_declarations-clause-found t c =
    rw (
      held c.args.is_outer c.args.path.now c.args.node.now _ _ c.if-holds_statements.ensures c.shape.ensures,
      ← append_assoc c.args.found.now.items (declarations declared.Lexical (not (c.args.is_outer && is_function_shape (shape_of c.args.node.now))) c.args.path.now c.args.node.now) (declarations declared.Hoisted false c.args.path.now c.args.node.now),
      ← c.shape-else-holds_statements.ensures,
      ← c.is_lexical_in-is_lexical.ensures,
      ← c.in_ok-push_declarations.ensures.found,
      ← c.in_ok-push_declarations.ensures.path,
    ) c.push_declarations-else-holds_statements.ensures.found
