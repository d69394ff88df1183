-- What is evident of an expression is evident of it where it is read again.
use Rattle.mini_again.proofs.LawNamingAgain.{kinds_again}
use Rattle.mini_again.proofs.ModelTreeAgain.{child_or_absent_again, children_again, count_again, shape_of_again}
use Rattle.mini_again.proofs.NodeChildrenAgain.{is_nameless_again}
use Rattle.mini_again.specs.Again.{Renaming, again, all_again}
use Rattle.mini_laws.specs.Naming.{NameKind, kinds}
use Rattle.mini_model.specs.Tree.{Tree, Trees, child_or_absent, children, node, none, shape_of, ◌▸◌}
use Rattle.mini_model.specs.declared.shape.Shape.{Shape}
use Rattle.mini_terms.specs.Evident.{alone, each_evidence, each_items, evidence, evidence_by, items_in, nth_items, units_between, units_in}
use Rattle.std.specs.Prelude.{Bool, List, Option, [], refl, ◌∷◌, ◌≡◌}
use Rattle.mini_model.specs.declared.shape.Shape.TheVariants as shape

pub alone_again : (ρ : Renaming) (ts : Trees) (b : Option Bool) → alone (all_again ρ ts) b ≡ alone ts b
alone_again ρ none b = refl
alone_again ρ (q ▸ qs) b = refl

pub units_between_again : (ρ : Renaming) (ts : Trees) (cs : _) → units_between (all_again ρ ts) cs ≡ units_between ts cs
units_between_again ρ none cs = refl
units_between_again ρ (q ▸ qs) [] = simp (shape_of_again ρ q, alone_again ρ qs (units_in (shape_of q)))
units_between_again ρ (q ▸ qs) (c ∷ cs) = simp (shape_of_again ρ q, units_between_again ρ qs cs)

pub evidence_by_again : (ρ : Renaming) (h : Shape) (xs : List NameKind) (ts : Trees) (cs : _) (css : _) → evidence_by h xs (all_again ρ ts) cs css ≡ evidence_by h xs ts cs css
evidence_by_again ρ shape.Listed xs ts cs css = refl
evidence_by_again ρ shape.Identifier xs ts cs css = refl
evidence_by_again ρ (shape.NumericLiteral n) xs ts cs css = refl
evidence_by_again ρ (shape.StringLiteral s) xs ts cs css = refl
evidence_by_again ρ (shape.BooleanLiteral b) xs ts cs css = refl
evidence_by_again ρ shape.NullLiteral xs ts cs css = refl
evidence_by_again ρ (shape.UnaryExpression o) xs ts cs css = refl
evidence_by_again ρ (shape.BinaryExpression o) xs ts cs css = refl
evidence_by_again ρ (shape.LogicalExpression o) xs ts cs css = refl
evidence_by_again ρ shape.ConditionalExpression xs ts cs css = refl
evidence_by_again ρ shape.SequenceExpression xs ts cs css = refl
evidence_by_again ρ shape.TemplateLiteral xs ts cs css = simp (count_again ρ ts, child_or_absent_again ρ ts 0, shape_of_again ρ (child_or_absent ts 0), is_nameless_again ρ (child_or_absent ts 0), child_or_absent_again ρ ts 1, shape_of_again ρ (child_or_absent ts 1), is_nameless_again ρ (child_or_absent ts 1), children_again ρ (child_or_absent ts 0), units_between_again ρ (children (child_or_absent ts 0)) (nth_items css 1))
evidence_by_again ρ _ xs ts cs css = refl

mutual
  pub each_evidence_again : (ρ : Renaming) (ts : Trees) → each_evidence (all_again ρ ts) ≡ each_evidence ts
  each_evidence_again ρ none = refl
  each_evidence_again ρ (t ▸ ts) = simp (evidence_again ρ t, each_evidence_again ρ ts)

  pub each_items_again : (ρ : Renaming) (ts : Trees) → each_items (all_again ρ ts) ≡ each_items ts
  each_items_again ρ none = refl
  each_items_again ρ (t ▸ ts) = simp (items_in_again ρ t, each_items_again ρ ts)

  pub evidence_again : (ρ : Renaming) (t : Tree) → evidence (again ρ t) ≡ evidence t
  evidence_again ρ (node h xs n ts) = simp (kinds_again ρ xs, each_evidence_again ρ ts, each_items_again ρ ts, evidence_by_again ρ h (kinds xs) ts (each_evidence ts) (each_items ts))

  pub items_in_again : (ρ : Renaming) (t : Tree) → items_in (again ρ t) ≡ items_in t
  items_in_again ρ (node h xs n ts) = simp (each_evidence_again ρ ts)
