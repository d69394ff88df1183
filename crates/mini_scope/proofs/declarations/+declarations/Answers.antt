use Rattle.std.proofs.Common.{◌≡◌, ◌≤◌, ◌<◌, [], ◌++◌, ◌∷◌, sym, ap, ◌∙◌, refl, arith, ℕ, Bool, List}
use Rattle.std.proofs.lemmas.List.{append-nil}
use Rattle.std.proofs.lemmas.Result.{on_ok_weaker}
use Rattle.mini_model.specs.declared.shape.Shape.{Shape}
use Rattle.mini_model.specs.Tree.{Tree, Trees, node, none, ◌▸◌, absent, count, node_count, shape_of, children}
use Rattle.mini_node.specs.Children.{names_of}
use Rattle.mini_laws.specs.declared.names.Declared.{Declared}
use Rattle.mini_laws.specs.declared.names.Declared.TheVariants as declared
use Rattle.mini_laws.specs.declared.names.Place.{Place}
use Rattle.mini_laws.specs.DeclaredNames.{place_of}
use Rattle.mini_laws.specs.Early.{choose_by, own_declarations, declarations, first_declarations, all_declarations, at_child}
use Rattle.mini_scope.proofs.EarlyWalk.{Gathers, turn, finished, from_first, child_smaller, missing}
use Rattle.mini_scope.proofs.declarations.+declarations.Goals as goal

gathers : (d : Declared) (l : Bool) (p : List ℕ) → Gathers (λ i t. declarations d l (p ++ i ∷ []) t) (all_declarations d l p)
unfolding declarations
gathers d l p = record { at_none = λ i. refl; at_more = λ i t ts. refl }

opened : (d : Declared) (l : Bool) (p : List ℕ) (n : Tree) → declarations d l p n ≡ choose_by (place_of d (shape_of n)) (own_declarations l p (names_of n)) (first_declarations l p (children n)) (all_declarations declared.Bound l p 0 (children n)) (all_declarations d l p 0 (children n))
unfolding declarations
opened d l p (node h xs m ts) = refl

held : (d : Declared) (l : Bool) (p : List ℕ) (n : Tree) (h : Shape) (q : Place) → q ≡ place_of d h → h ≡ shape_of n → declarations d l p n ≡ choose_by q (own_declarations l p (names_of n)) (first_declarations l p (children n)) (all_declarations declared.Bound l p 0 (children n)) (all_declarations d l p 0 (children n))
held d l p n h q e s = opened d l p n ∙ ap (λ v. choose_by v (own_declarations l p (names_of n)) (first_declarations l p (children n)) (all_declarations declared.Bound l p 0 (children n)) (all_declarations d l p 0 (children n))) (sym (e ∙ ap (place_of d) s))

nothing : (d : Declared) (l : Bool) (p : List ℕ) → declarations d l p absent ≡ []
unfolding declarations
nothing declared.Bound l p = refl
nothing declared.Lexical l p = refl
nothing declared.Hoisted l p = refl

first_held : (l : Bool) (p : List ℕ) (ts : Trees) → first_declarations l p ts ≡ at_child declared.Bound l p ts 0
unfolding declarations
first_held l p none = refl
first_held l p (t ▸ ts) = refl

pub push_all-loop-at-init : goal.push_all-loop-at-init
push_all-loop-at-init t c = rw (from_first c.args.nodes.now) (refl, refl)

pub push_all-loop-at-preserved : goal.push_all-loop-at-preserved
push_all-loop-at-preserved t c =
    let d = c.args.declared in
    let l = c.args.is_lexical in
    let within : c.loop-at.at < count c.args.nodes.now = omega arith in (
      c.in_ok-push_at.ensures.path ∙ c.loop-at.invariant.0,
      turn _ _ (gathers d l c.args.path.now) c.args.nodes.now c.loop-at.at c.loop-at.found.items _ _ within
          (c.in_ok-push_at.ensures.found ∙ ap (λ p. c.loop-at.found.items ++ at_child d l p c.args.nodes.now c.loop-at.at) c.loop-at.invariant.0) c.loop-at.invariant.1,
    )

pub push_all-returns-clause-found : goal.push_all-returns-clause-found
push_all-returns-clause-found t c =
    let over : count c.args.nodes.now ≤ c.loop-at.at = omega arith in
    finished _ _ (gathers c.args.declared c.args.is_lexical c.args.path.now) c.args.nodes.now c.loop-at.at _ _ over c.loop-at.invariant.1

pub push_at-push_declarations-pushed-requires : goal.push_at-push_declarations-pushed-requires
push_at-push_declarations-pushed-requires t c =
    let within : c.args.at < count c.args.nodes.now = omega arith in
    (omega (arith, ap node_count c.child.ensures.value, child_smaller c.args.nodes.now c.args.at within), tt)

pub push_at-returns-in_ok-push-clause-path : goal.push_at-returns-in_ok-push-clause-path
push_at-returns-in_ok-push-clause-path t c = on_ok_weaker c.push_declarations-pushed.result (λ e. c.go_up.ensures c.args.path.now c.args.at (e ∙ c.in_ok-push.ensures.ok)) c.push_declarations-pushed.ensures.path

pub push_at-returns-in_ok-push-clause-found : goal.push_at-returns-in_ok-push-clause-found
push_at-returns-in_ok-push-clause-found t c =
    let d = declarations c.args.declared c.args.is_lexical in
    on_ok_weaker c.push_declarations-pushed.result (λ e. e ∙ ap (λ p. c.args.found.now.items ++ d p c.child.result.now) c.in_ok-push.ensures.ok ∙ ap (λ u. c.args.found.now.items ++ d (c.args.path.now ++ c.args.at ∷ []) u) c.child.ensures.value) c.push_declarations-pushed.ensures.found

pub push_at-returns-else-at-len-clause-found : goal.push_at-returns-else-at-len-clause-found
push_at-returns-else-at-len-clause-found t c =
    let over : count c.args.nodes.now ≤ c.args.at = omega arith in
    sym (append-nil _) ∙ ap (λ r. c.args.found.now.items ++ r) (sym (ap (declarations c.args.declared c.args.is_lexical (c.args.path.now ++ c.args.at ∷ [])) (missing c.args.nodes.now c.args.at over) ∙ nothing c.args.declared c.args.is_lexical (c.args.path.now ++ c.args.at ∷ [])))

pub push_declarations-returns-in-Here-clause-found : goal.push_declarations-returns-in-Here-clause-found
push_declarations-returns-in-Here-clause-found t c = rw (held c.args.declared c.args.is_lexical c.args.path.now c.args.node.now _ _ c.in-Here.ensures c.shape.ensures, ← c.name.ensures) c.push_own.ensures

pub push_declarations-returns-in-FirstBound-clause-found : goal.push_declarations-returns-in-FirstBound-clause-found
push_declarations-returns-in-FirstBound-clause-found t c = rw (held c.args.declared c.args.is_lexical c.args.path.now c.args.node.now _ _ c.in-FirstBound.ensures c.shape.ensures, first_held c.args.is_lexical c.args.path.now (children c.args.node.now), ← c.children-nodes.ensures) c.push_at.ensures.found

pub push_declarations-returns-in-Bound-clause-found : goal.push_declarations-returns-in-Bound-clause-found
push_declarations-returns-in-Bound-clause-found t c = rw (held c.args.declared c.args.is_lexical c.args.path.now c.args.node.now _ _ c.in-Bound.ensures c.shape.ensures, ← c.children-nodes.ensures) c.push_all.ensures.found

pub push_declarations-returns-in-Below-clause-found : goal.push_declarations-returns-in-Below-clause-found
push_declarations-returns-in-Below-clause-found t c = rw (held c.args.declared c.args.is_lexical c.args.path.now c.args.node.now _ _ c.in-Below.ensures c.shape.ensures, ← c.children-nodes.ensures) c.push_all-in-Below.ensures.found

pub push_declarations-returns-in-Nowhere-clause-found : goal.push_declarations-returns-in-Nowhere-clause-found
push_declarations-returns-in-Nowhere-clause-found t c = rw (held c.args.declared c.args.is_lexical c.args.path.now c.args.node.now _ _ c.in-Nowhere.ensures c.shape.ensures) (sym (append-nil _))
