-- An expression that is read again is effect-free if the expression is.
use Rattle.mini_again.proofs.Names.{none_again, some_again}
use Rattle.mini_again.proofs.TermKindAgain.{each_kind_again}
use Rattle.mini_again.specs.Again.{Renaming, again, all_again}
use Rattle.mini_laws.specs.Renaming.{rename_name}
use Rattle.mini_model.specs.Tree.{Tree, Trees, node, none, ◌▸◌}
use Rattle.mini_model.specs.declared.name.Name.{Name}
use Rattle.mini_model.specs.declared.shape.Shape.{Shape}
use Rattle.mini_terms.specs.Effects.{each_ef, each_identifier, each_primitive, ef, ef_by, ef_names, is_identifier, primitive_items}
use Rattle.mini_terms.specs.Kind.{each_kind}
use Rattle.mini_terms.specs.declared.kinds.Kind.{Kind}
use Rattle.std.specs.Prelude.{Bool, List, [], map, refl, ◌∷◌, ◌≡◌}
use Rattle.mini_model.specs.declared.shape.Shape.TheVariants as shape

pub is_identifier_again : (ρ : Renaming) (t : Tree) → is_identifier (again ρ t) ≡ is_identifier t
is_identifier_again ρ (node h xs n ts) = refl

pub each_identifier_again : (ρ : Renaming) (ts : Trees) → each_identifier (all_again ρ ts) ≡ each_identifier ts
each_identifier_again ρ none = refl
each_identifier_again ρ (t ▸ ts) = simp (is_identifier_again ρ t, each_identifier_again ρ ts)

pub primitive_items_again : (ρ : Renaming) (t : Tree) → primitive_items (again ρ t) ≡ primitive_items t
primitive_items_again ρ (node h xs n ts) = simp (each_kind_again ρ ts)

pub each_primitive_again : (ρ : Renaming) (ts : Trees) → each_primitive (all_again ρ ts) ≡ each_primitive ts
each_primitive_again ρ none = refl
each_primitive_again ρ (t ▸ ts) = simp (primitive_items_again ρ t, each_primitive_again ρ ts)

pub ef_names_again : (ρ : Renaming) (xs : List Name) → ef_names (map (rename_name ρ.symbol) xs) ≡ ef_names xs
ef_names_again ρ [] = refl
ef_names_again ρ (x ∷ xs) = simp (some_again ρ x.symbol, none_again ρ x.symbol)

pub ef_by_again : (ρ : Renaming) (asked : Bool) (h : Shape) (xs : List Name) (ks : List Kind) (is ps bs : List Bool) → ef_by asked h (map (rename_name ρ.symbol) xs) ks is ps bs ≡ ef_by asked h xs ks is ps bs
ef_by_again ρ asked shape.Listed xs ks is ps bs = refl
ef_by_again ρ asked shape.Identifier xs ks is ps bs = simp (ef_names_again ρ xs)
ef_by_again ρ asked (shape.NumericLiteral n) xs ks is ps bs = refl
ef_by_again ρ asked (shape.StringLiteral s) xs ks is ps bs = refl
ef_by_again ρ asked (shape.BooleanLiteral b) xs ks is ps bs = refl
ef_by_again ρ asked shape.NullLiteral xs ks is ps bs = refl
ef_by_again ρ asked (shape.BigIntLiteral n) xs ks is ps bs = refl
ef_by_again ρ asked shape.ThisExpression xs ks is ps bs = refl
ef_by_again ρ asked (shape.UnaryExpression o) xs ks is ps bs = refl
ef_by_again ρ asked (shape.BinaryExpression o) xs ks is ps bs = refl
ef_by_again ρ asked (shape.LogicalExpression o) xs ks is ps bs = refl
ef_by_again ρ asked shape.ConditionalExpression xs ks is ps bs = refl
ef_by_again ρ asked shape.SequenceExpression xs ks is ps bs = refl
ef_by_again ρ asked shape.TemplateLiteral xs ks is ps bs = refl
ef_by_again ρ asked _ xs ks is ps bs = refl

mutual
  pub each_ef_again : (ρ : Renaming) (asked : Bool) (ts : Trees) → each_ef asked (all_again ρ ts) ≡ each_ef asked ts
  each_ef_again ρ asked none = refl
  each_ef_again ρ asked (t ▸ ts) = simp (ef_again ρ asked t, each_ef_again ρ asked ts)

  pub ef_again : (ρ : Renaming) (asked : Bool) (t : Tree) → ef asked (again ρ t) ≡ ef asked t
  ef_again ρ asked (node h xs n ts) = simp (each_kind_again ρ ts, each_identifier_again ρ ts, each_primitive_again ρ ts, each_ef_again ρ asked ts, ef_by_again ρ asked h xs (each_kind ts) (each_identifier ts) (each_primitive ts) (each_ef asked ts))
