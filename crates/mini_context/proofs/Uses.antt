-- How a tree is used, and how often its symbols are read and written.
use Rattle.std.specs.Prelude.{ℕ, zero, suc, ◌+◌, ◌≡◌, refl, ◌&&◌, Bool, cond, List, [], ◌∷◌, ◌++◌}
use Rattle.std.proofs.Common.{ap, ◌∙◌, sym}
use Rattle.std.proofs.lemmas.List.Sums.{sum_by-append}
use Rattle.mini_model.specs.declared.kind.VariableDeclarationKind.TheVariants.{Var}
use Rattle.mini_model.specs.declared.name.Name.{Name}
use Rattle.mini_model.specs.declared.operator.AssignmentOperator.TheVariants.{Assign}
use Rattle.mini_model.specs.declared.shape.Shape.{Shape}
use Rattle.mini_model.specs.declared.shape.Shape.TheVariants as shape
use Rattle.mini_model.specs.Tree.{Tree, Trees, node, none, ◌▸◌}
use Rattle.mini_laws.specs.declared.names.Use.{Use}
use Rattle.mini_laws.specs.declared.names.Use.TheVariants.{Write, Hoisted, Headed}
use Rattle.mini_laws.specs.Scopes.{hoisted_by, use_of}
use Rattle.mini_laws.specs.References.{Reference, own_references, references, references_from, has_symbol}
use Rattle.mini_laws.specs.Counts.{times_of}

hoisted_alike : (p : Use → Bool) → p Headed ≡ p Hoisted → (u : Use) → p (hoisted_by u) ≡ p Hoisted
hoisted_alike p q Write = q
hoisted_alike p q u = refl

-- a part is used as its node is, or in one way, or as a `var`
use_alike : (p : Use → Bool) → p Headed ≡ p Hoisted → (h : Shape) (u v : Use) (i : ℕ) → p u ≡ p v → p (use_of h u i) ≡ p (use_of h v i)
use_alike p q shape.Listed u v i e = e
use_alike p q shape.ObjectPattern u v i e = e
use_alike p q shape.ArrayPattern u v i e = e
use_alike p q (shape.BindingProperty shorthand computed) u v i e = e
use_alike p q shape.RestElement u v i e = e
use_alike p q shape.ImportSpecifier u v i e = e
use_alike p q shape.ImportDefaultSpecifier u v i e = e
use_alike p q shape.ImportNamespaceSpecifier u v i e = e
use_alike p q shape.AssignmentPattern u v i e = e
use_alike p q shape.ObjectAssignmentTarget u v i e = e
use_alike p q shape.ArrayAssignmentTarget u v i e = e
use_alike p q shape.AssignmentTargetPropertyIdentifier u v i e = e
use_alike p q (shape.AssignmentTargetPropertyProperty computed) u v i e = e
use_alike p q shape.VariableDeclarator u v zero e = e
use_alike p q shape.VariableDeclarator u v (suc i) e = refl
use_alike p q (shape.VariableDeclaration Var) u v i e = hoisted_alike p q u ∙ sym (hoisted_alike p q v)
use_alike p q (shape.VariableDeclaration k) u v i e = refl
use_alike p q (shape.AssignmentExpression Assign) u v zero e = refl
use_alike p q (shape.AssignmentExpression o) u v zero e = refl
use_alike p q (shape.AssignmentExpression o) u v (suc i) e = refl
use_alike p q (shape.UpdateExpression o prefix) u v i e = refl
use_alike p q shape.IfStatement u v zero e = refl
use_alike p q shape.IfStatement u v (suc i) e = refl
use_alike p q shape.WhileStatement u v zero e = refl
use_alike p q shape.WhileStatement u v (suc i) e = refl
use_alike p q shape.DoWhileStatement u v zero e = refl
use_alike p q shape.DoWhileStatement u v (suc i) e = refl
use_alike p q shape.ForStatement u v zero e = refl
use_alike p q shape.ForStatement u v (suc zero) e = refl
use_alike p q shape.ForStatement u v (suc (suc zero)) e = refl
use_alike p q shape.ForStatement u v (suc (suc (suc i))) e = refl
use_alike p q shape.ForInStatement u v zero e = refl
use_alike p q shape.ForInStatement u v (suc zero) e = refl
use_alike p q shape.ForInStatement u v (suc (suc i)) e = refl
use_alike p q shape.ForOfStatement u v zero e = refl
use_alike p q shape.ForOfStatement u v (suc zero) e = refl
use_alike p q shape.ForOfStatement u v (suc (suc i)) e = refl
use_alike p q h u v i e = refl

both_times : (p : Use → Bool) (s : ℕ) (xs ys : List Reference) → times_of p s (xs ++ ys) ≡ times_of p s xs + times_of p s ys
both_times p s xs ys = sum_by-append (λ r. cond (p r.used && has_symbol s r.name.symbol) 1 0) xs ys

own_alike : (p : Use → Bool) (s : ℕ) (u v : Use) (h : Shape) (xs : List Name) → p u ≡ p v → times_of p s (own_references u h xs) ≡ times_of p s (own_references v h xs)
own_alike p s u v shape.Identifier [] e = refl
own_alike p s u v shape.Identifier (x ∷ xs) e =
    both_times p s (record { name = x; used = u } ∷ []) (own_references u shape.Identifier xs)
    ∙ ap (λ b. (0 + cond (b && has_symbol s x.symbol) 1 0) + times_of p s (own_references u shape.Identifier xs)) e
    ∙ ap (λ n. (0 + cond (p v && has_symbol s x.symbol) 1 0) + n) (own_alike p s u v shape.Identifier xs e)
    ∙ sym (both_times p s (record { name = x; used = v } ∷ []) (own_references v shape.Identifier xs))
own_alike p s u v h xs e = refl

mutual
  unfolding references

  pub alike : (p : Use → Bool) → p Headed ≡ p Hoisted → (u v : Use) → p u ≡ p v → (t : Tree) (s : ℕ) → times_of p s (references u t) ≡ times_of p s (references v t)
  alike p q u v e (node h xs n ts) s =
      both_times p s (own_references u h xs) (references_from (use_of h u) 0 ts)
      ∙ ap (λ k. k + times_of p s (references_from (use_of h u) 0 ts)) (own_alike p s u v h xs e)
      ∙ ap (λ k. times_of p s (own_references v h xs) + k) (all_alike p q (use_of h u) (use_of h v) (λ i. use_alike p q h u v i e) 0 ts s)
      ∙ sym (both_times p s (own_references v h xs) (references_from (use_of h v) 0 ts))

  all_alike : (p : Use → Bool) → p Headed ≡ p Hoisted → (us vs : ℕ → Use) → ((i : ℕ) → p (us i) ≡ p (vs i)) → (i : ℕ) (ts : Trees) (s : ℕ) → times_of p s (references_from us i ts) ≡ times_of p s (references_from vs i ts)
  all_alike p q us vs e i none s = refl
  all_alike p q us vs e i (t ▸ ts) s =
      both_times p s (references (us i) t) (references_from us (suc i) ts)
      ∙ ap (λ k. k + times_of p s (references_from us (suc i) ts)) (alike p q (us i) (vs i) (e i) t s)
      ∙ ap (λ k. times_of p s (references (vs i) t) + k) (all_alike p q us vs e (suc i) ts s)
      ∙ sym (both_times p s (references (vs i) t) (references_from vs (suc i) ts))
