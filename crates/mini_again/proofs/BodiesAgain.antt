-- The bodies of a program that is read again.
use Rattle.std.specs.Prelude.{◌≡◌, refl, ℕ, suc, not, List, [], ◌∷◌, ◌++◌, map}
use Rattle.std.proofs.Common.{ap, ◌∙◌, sym}
use Rattle.std.proofs.lemmas.List.{map-append}
use Rattle.mini_laws.specs.Bodies.{Around, Body, arrow_kind, below, bodies, bodies_from, body_of, extends_below, outermost, constructs_below, is_assigned_below, asks_below}
use Rattle.mini_laws.specs.Body.{FunctionStatements}
use Rattle.mini_laws.specs.Fixity.{is_strict_in}
use Rattle.mini_laws.specs.Naming.{nth_absent}
use Rattle.mini_model.specs.declared.shape.Shape.{Shape}
use Rattle.mini_model.specs.declared.shape.Shape.TheVariants as shape
use Rattle.mini_model.specs.Tree.{Tree, Trees, node, none, ◌▸◌, child_or_absent, shape_of}
use Rattle.mini_again.specs.Again.{Renaming, again, all_again, other_number}
use Rattle.mini_again.specs.Families.{body_again, BodiesAgain}
use Rattle.mini_again.proofs.ModelTreeAgain.{child_or_absent_again, shape_of_again}
use Rattle.mini_again.proofs.Summaries.{summaries_again}

module _ (ρ : Renaming) where
  body_of_again : (a : Around) (h : Shape) (n : ℕ) (t : Tree) (ts : Trees) → body_of a h (other_number ρ n) (again ρ t) (all_again ρ ts) ≡ map (body_again ρ) (body_of a h n t ts)
  body_of_again a (shape.Program is_module ds) n t ts = refl
  body_of_again a (shape.Function d g ds) n t ts =
      λ i. record { number = other_number ρ n; kind = FunctionStatements; root = child_or_absent_again ρ ts 2 i; strict = is_strict_in a.strict (shape.Function d g ds); asks_this = a.constructs } ∷ []
  body_of_again a (shape.ArrowFunctionExpression ds) n t ts =
      λ i. record {
        number = other_number ρ n;
        kind = (ap (λ u. arrow_kind (shape_of u)) (child_or_absent_again ρ ts 1) ∙ ap arrow_kind (shape_of_again ρ (child_or_absent ts 1))) i;
        root = child_or_absent_again ρ ts 1 i;
        strict = is_strict_in a.strict (shape.ArrowFunctionExpression ds);
        asks_this = a.asks_this;
      } ∷ []
  body_of_again a shape.StaticBlock n t ts = refl
  body_of_again a shape.InnerExpression n t ts = refl
  body_of_again a h n t ts = refl

  extends_again : (a : Around) (h : Shape) (ts : Trees) → extends_below a h (all_again ρ ts) ≡ extends_below a h ts
  extends_again a (shape.Class d) ts = ap (λ fs. not (nth_absent fs 1)) (sym (summaries_again ρ ts).facts)
  extends_again a h ts = refl

  below_again : (a : Around) (h : Shape) (ts : Trees) (i : ℕ) → below a h (all_again ρ ts) i ≡ below a h ts i
  below_again a h ts i = λ j. record { strict = is_strict_in a.strict h; asks_this = asks_below a h i; extends = extends_again a h ts j; constructs = constructs_below a h i; is_assigned = is_assigned_below a h i }

  joined_bodies : (a a' b b' : List Body) → a' ≡ map (body_again ρ) a → b' ≡ map (body_again ρ) b → (a' ++ b') ≡ map (body_again ρ) (a ++ b)
  joined_bodies a a' b b' e f = ap (λ xs. xs ++ b') e ∙ ap (λ ys. map (body_again ρ) a ++ ys) f ∙ sym (map-append (body_again ρ) a b)

  mutual
    all_bodies_again : (a : Around) (t : Tree) → bodies a (again ρ t) ≡ map (body_again ρ) (bodies a t)
    all_bodies_again a (node h xs n ts) = joined_bodies _ _ _ _ (body_of_again a h n (node h xs n ts) ts) (bodies_from_again (below a h ts) (below a h (all_again ρ ts)) (below_again a h ts) 0 ts)

    bodies_from_again : (arounds laters : ℕ → Around) → ((i : ℕ) → laters i ≡ arounds i) → (i : ℕ) (ts : Trees) → bodies_from laters i (all_again ρ ts) ≡ map (body_again ρ) (bodies_from arounds i ts)
    bodies_from_again arounds laters e i none = refl
    bodies_from_again arounds laters e i (t ▸ ts) = joined_bodies _ _ _ _ (ap (λ a. bodies a (again ρ t)) (e i) ∙ all_bodies_again (arounds i) t) (bodies_from_again arounds laters e (suc i) ts)

pub bodies_again : BodiesAgain
bodies_again ρ t = all_bodies_again ρ outermost t
