-- A tree in which no name with a symbol is declared reads as if it didn't mention it, and no scope in it hides that variable.
use Rattle.std.proofs.Common.{◌≡◌, ℕ, true, false, List, [], ◌∷◌, Option, Some, None, refl, ap, ◌∙◌}
use Rattle.std.specs.Prelude.{◌&&◌}
use Rattle.mini_model.specs.declared.name.Name.{Name}
use Rattle.mini_model.specs.declared.operator.UnaryOperator.TheVariants.{LogicalNot}
use Rattle.mini_model.specs.declared.shape.Shape.{Shape}
use Rattle.mini_model.specs.declared.shape.Shape.TheVariants as shape
use Rattle.mini_model.specs.Tree.{Tree, Trees, node, none, ◌▸◌}
use Rattle.mini_laws.specs.Value.{Declared as Symbol, choose, variable_by, variables, variable_eq, is_in}
use Rattle.mini_laws.specs.Demand.{AnEntry}
use Rattle.mini_laws.specs.Naming.{Summary, summary, summaries, summary_of, scope_of}
use Rattle.mini_laws.specs.Skeleton.{hidden, hidden_all}
use Rattle.mini_rows.specs.Past.{is_binding, is_symbol, has_symbol, binds, any_bind}
use Rattle.mini_rows.proofs.Avoiding.{Out, Without, AllWithout, out_both, node_without, spared_by}
use Rattle.mini_rows.proofs.UnusedNames.{or_parts}

module _ (k : ℕ) where
  other : (s : List ℕ) (o : Option _) → is_symbol k o ≡ false → variable_eq (variable_by s o) (Symbol k) ≡ false
  other s (Some n) e = e
  other s None e = refl

  pub out_names : (xs : List Name) → has_symbol k xs ≡ false → Out k (variables xs)
  out_names [] e = refl
  out_names (x ∷ xs) e =
      let (first, rest) = or_parts (is_symbol k x.symbol) (has_symbol k xs) e in
      ap (λ b. choose b true (is_in (Symbol k) (variables xs))) (other x.spelling x.symbol first) ∙ out_names xs rest

  by_binding : (h : Shape) (xs : List Name) (n : ℕ) (is : List Summary) → (is_binding h && has_symbol k xs) ≡ false → AllWithout k is → Without k (summary_of h (variables xs) n is)
  by_binding shape.BindingIdentifier xs n is e a = node_without k shape.BindingIdentifier (variables xs) n is (out_names xs e) a
  by_binding (shape.UnaryExpression LogicalNot) xs n is e a = node_without k (shape.UnaryExpression LogicalNot) [] n is refl a
  by_binding (shape.Function true g ds) xs n is e a = node_without k (shape.Function true g ds) [] n is refl a
  by_binding (shape.Function false g ds) xs n is e a = node_without k (shape.Function false g ds) [] n is refl a
  by_binding (shape.Class true) xs n is e a = node_without k (shape.Class true) [] n is refl a
  by_binding (shape.Class false) xs n is e a = node_without k (shape.Class false) [] n is refl a
  by_binding h xs n is e a = node_without k h [] n is refl a

  mutual
    without : (t : Tree) → binds k t ≡ false → Without k (summary t)
    without (node h xs n ts) e = let (own, below) = or_parts (is_binding h && has_symbol k xs) (any_bind k ts) e in by_binding h xs n (summaries ts) own (all_without ts below)

    pub all_without : (ts : Trees) → any_bind k ts ≡ false → AllWithout k (summaries ts)
    all_without none e = tt
    all_without (t ▸ ts) e = let (one, others) = or_parts (binds k t) (any_bind k ts) e in (without t one, all_without ts others)

  mutual
    pub unhidden : (t : Tree) → binds k t ≡ false → Out k (hidden t)
    unhidden (node h xs n ts) e =
        let (own, below) = or_parts (is_binding h && has_symbol k xs) (any_bind k ts) e in
        out_both k (scope_of h (summaries ts)) (hidden_all ts) (spared_by k h AnEntry [] n (summaries ts) refl (all_without ts below)).scope (all_unhidden ts below)

    pub all_unhidden : (ts : Trees) → any_bind k ts ≡ false → Out k (hidden_all ts)
    all_unhidden none e = refl
    all_unhidden (t ▸ ts) e = let (one, others) = or_parts (binds k t) (any_bind k ts) e in out_both k (hidden t) (hidden_all ts) (unhidden t one) (all_unhidden ts others)
