use Rattle.std.proofs.Common.{◌≡◌, ℕ, suc, ◌<◌, ◌≤◌, List, [], ◌∷◌, ◌++◌, refl, ap, sym, ◌∙◌, append_assoc, arith}
use Rattle.std.specs.Prelude.{Option, Some, None}
use Rattle.mini_model.specs.Tree.{Tree, Trees, node, shape_of, children, count, child_or_absent}
use Rattle.mini_model.specs.declared.name.SymbolId.{SymbolId}
use Rattle.mini_model.specs.declared.shape.Shape.{Shape}
use Rattle.mini_laws.specs.declared.names.Use.{Use}
use Rattle.mini_laws.specs.declared.names.Binding.{Binding}
use Rattle.mini_laws.specs.Scopes.{use_of, opened}
use Rattle.mini_laws.specs.Symbols.{symbols_in, declared, declared_from}
use Rattle.mini_kept.specs.Carried.{symbol_numbers}
use Rattle.mini_scope.specs.ScopeAt.{scope_at}
use Rattle.mini_peephole.proofs.Gathered.{Gathers, all_rest, turn, ended}
use Rattle.mini_peephole.proofs.named.+symbols.Goals as goal

both_numbers : (ss rs : List (Option SymbolId)) → symbol_numbers (ss ++ rs) ≡ symbol_numbers ss ++ symbol_numbers rs
both_numbers [] rs = refl
both_numbers (None ∷ ss) rs = both_numbers ss rs
both_numbers (Some s ∷ ss) rs = ap (λ r. s.0 ∷ r) (both_numbers ss rs)

-- those of a scope, of the child behind it, and of the children after that
gathers : (scope : ℕ → List Binding) (uses : ℕ → Use) → Gathers (λ i t. symbol_numbers (symbols_in (scope i)) ++ symbol_numbers (declared (uses i) t)) (λ i ts. symbol_numbers (declared_from scope uses i ts))
unfolding declared
gathers scope uses = record {
  at_none = λ i. refl;
  at_more = λ i t ts.
      both_numbers (symbols_in (scope i)) (declared (uses i) t ++ declared_from scope uses (suc i) ts)
      ∙ ap (λ r. symbol_numbers (symbols_in (scope i)) ++ r) (both_numbers (declared (uses i) t) (declared_from scope uses (suc i) ts))
      ∙ sym (append_assoc (symbol_numbers (symbols_in (scope i))) (symbol_numbers (declared (uses i) t)) (symbol_numbers (declared_from scope uses (suc i) ts)));
}

node_declares : (u : Use) (t : Tree) (scope : ℕ → List Binding) (h : Shape) (ts : Trees) → scope ≡ opened u (shape_of t) (children t) → h ≡ shape_of t → ts ≡ children t → declared u t ≡ declared_from scope (use_of h u) 0 ts
unfolding declared
node_declares u (node h xs n us) scope k ts e f g = rw (e, f, g) refl

pub push_all_symbols-loop-at-init : goal.push_all_symbols-loop-at-init
push_all_symbols-loop-at-init t c = (ap (λ ts. c.args.found.now ++ symbol_numbers (declared_from (scope_at c.args.scopes) (use_of c.args.shape.now c.args.usage) 0 ts)) (all_rest c.args.nodes.now), λ k h. refl)

pub push_all_symbols-loop-at-preserved : goal.push_all_symbols-loop-at-preserved
push_all_symbols-loop-at-preserved t c =
    let within : c.loop-at.at < count c.args.nodes.now = omega arith in
    let sc = scope_at c.args.scopes in
    let us = use_of c.args.shape.now c.args.usage in
    let at = c.loop-at.at in
    let now = c.loop-at.found in
    let scope : c.as_slice.result.now ≡ sc at = c.as_slice.ensures.value ∙ c.take-scope.ensures.value ∙ c.loop-at.invariant.1 at (omega arith) in
    let below : declared c.use_of.result c.child.result.now ≡ declared (us at) (child_or_absent c.args.nodes.now at) = ap (λ u. declared u c.child.result.now) c.use_of.ensures ∙ ap (declared (us at)) c.child.ensures.value in
    let pushed : c.push_symbols.new.found ≡ now ++ (symbol_numbers (symbols_in (sc at)) ++ symbol_numbers (declared (us at) (child_or_absent c.args.nodes.now at))) =
    c.in_ok-push_symbols.ensures
    ∙ ap (λ r. r ++ symbol_numbers (declared c.use_of.result c.child.result.now)) c.in_ok-push_scope.ensures
    ∙ append_assoc now (symbol_numbers (symbols_in c.as_slice.result.now)) (symbol_numbers (declared c.use_of.result c.child.result.now))
    ∙ ap (λ r. now ++ (symbol_numbers (symbols_in r) ++ symbol_numbers (declared c.use_of.result c.child.result.now))) scope
    ∙ ap (λ r. now ++ (symbol_numbers (symbols_in (sc at)) ++ symbol_numbers r)) below in (
      turn _ _ (gathers sc us) c.args.nodes.now at now c.push_symbols.new.found _ within pushed c.loop-at.invariant.0,
      λ k h. c.take-scope.ensures.rest k (omega arith) ∙ c.loop-at.invariant.1 k (omega arith),
    )

pub push_all_symbols-returns : goal.push_all_symbols-returns
push_all_symbols-returns t c =
    let over : count c.args.nodes.now ≤ c.loop-at.at = omega arith in
    ended _ _ (gathers (scope_at c.args.scopes) (use_of c.args.shape.now c.args.usage)) c.args.nodes.now c.loop-at.at c.loop-at.found _ over c.loop-at.invariant.0

pub push_symbols-returns : goal.push_symbols-returns
push_symbols-returns t c =
    let same = node_declares c.args.usage c.args.node.now (scope_at c.in_ok-scopes.scopes) c.shape.result.now c.children.result.now c.in_ok-scopes.ensures c.shape.ensures c.children.ensures in
    rw same c.push_all_symbols.ensures
