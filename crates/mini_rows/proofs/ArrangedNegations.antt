-- The negation of an expression may be written for it.
use Rattle.std.specs.Prelude.{ℕ, zero, suc, ◌≡◌, refl, ◌||◌, nat_lt, Bool, true, false, List, [], ◌++◌, Contains, None, if◌then◌else◌}
use Rattle.std.proofs.Common.{sym, subst, arith}
use Rattle.std.proofs.lemmas.List.{append-nil}
use Rattle.mini_model.specs.declared.name.Name.{Name}
use Rattle.mini_model.specs.declared.operator.BinaryOperator.{BinaryOperator}
use Rattle.mini_model.specs.declared.operator.LogicalOperator.TheVariants.{Or, And}
use Rattle.mini_model.specs.declared.operator.UnaryOperator.TheVariants.{LogicalNot}
use Rattle.mini_model.specs.declared.place.Position.TheVariants.{Expr}
use Rattle.mini_model.specs.declared.seat.Seat.{Seat}
use Rattle.mini_model.specs.declared.shape.Shape.TheVariants as shape
use Rattle.mini_model.specs.Tree.{Tree, Trees, node, none, ◌▸◌, negation}
use Rattle.mini_model.specs.Weight.{weight}
use Rattle.mini_model.specs.Position.{is_equality}
use Rattle.mini_model.specs.Terms.{is_boolean, turned_seat, unwrapped, turned_equality, neg, neg_each, not_of}
use Rattle.mini_laws.specs.Bodies.{Around, bodies}
use Rattle.mini_kept.specs.AlikeBodies.{BodiesKept}
use Rattle.mini_kept.specs.Declaring.{declared, declared_all}
use Rattle.mini_kept.specs.Frames.{frames}
use Rattle.mini_kept.proofs.BodyRows.{not_of_bodies}
use Rattle.mini_kept.proofs.Expressions.{not_of_fits}
use Rattle.mini_kept.proofs.Fixed.{of_not}
use Rattle.mini_kept.proofs.FrameLists.{same_frames}
use Rattle.mini_kept.proofs.FrameRows.{not_of_frames}
use Rattle.mini_kept.proofs.Negating.{inner_not, symbols_not, scoped_not, numbers_not, once_not, targets_not}
use Rattle.mini_rows.specs.Arranged.{WrittenFor}
use Rattle.mini_rows.proofs.ArrangedBodies.{quiet}

unwrapped_declared : (b : Bool) (a n : Tree) → declared a ≡ declared n → declared (unwrapped b a n) ≡ declared n
unwrapped_declared true a n e = e
unwrapped_declared false a n e = append-nil (declared n)

equality_declared : (b : Bool) (o : BinaryOperator) (xs : List Name) (n : ℕ) (ts : Trees) → declared (turned_equality b o xs n ts) ≡ declared (node (shape.BinaryExpression o) xs n ts)
equality_declared true o xs n ts = refl
equality_declared false o xs n ts = append-nil (declared (node (shape.BinaryExpression o) xs n ts))

mutual
  negated_declared : (s : Seat) (t : Tree) → declared (neg s t) ≡ declared t
  negated_declared s (node (shape.LogicalExpression And) xs n ts) = each_declared (turned_seat (shape.LogicalExpression And) s) ts
  negated_declared s (node (shape.LogicalExpression Or) xs n ts) = each_declared (turned_seat (shape.LogicalExpression Or) s) ts
  negated_declared s (node (shape.UnaryExpression LogicalNot) xs n (a ▸ none)) =
      unwrapped_declared (s.boolean || is_boolean a) a (node (shape.UnaryExpression LogicalNot) xs n (a ▸ none)) (sym (append-nil (declared a)))
  negated_declared s (node (shape.BinaryExpression o) xs n ts) = equality_declared (is_equality o) o xs n ts
  negated_declared s (node h xs n ts) = append-nil (declared (node h xs n ts))

  each_declared : (σ : ℕ → Seat) (ts : Trees) → declared_all (neg_each σ ts) ≡ declared_all ts
  each_declared σ none = refl
  each_declared σ (t ▸ ts) = λ i. negated_declared (σ zero) t i ++ each_declared (λ j. σ (suc j)) ts i

not_declared : (s : Seat) (t : Tree) → declared (not_of s t) ≡ declared t
not_declared s t = by (nat_lt (weight (Expr s) (negation t)) (weight (Expr s) (neg s t)))
  where
    by : (b : Bool) → declared (if b then negation t else neg s t) ≡ declared t
    by true = append-nil (declared t)
    by false = negated_declared s t

pub at_quiet : (a : Around) → a.constructs ≡ false → a.is_assigned ≡ false → quiet a ≡ a
at_quiet a c d = λ i. record a { constructs = sym c i; is_assigned = sym d i }

pub negation_written : (s : Seat) (t : Tree) → WrittenFor t (not_of s t)
negation_written s t = record {
  fitting = λ strict e. not_of_fits strict s t e;
  inner = inner_not s t;
  scoped = λ env a. scoped_not env s t a;
  symbols = λ x. omega (arith, symbols_not x s t);
  numbers = λ k. numbers_not k s t;
  once = λ a. once_not [] s t a;
  targets = λ g a. targets_not g [] s t a;
  bodies = λ strict e a c d. subst (λ r. BodiesKept (bodies r t) (bodies a (not_of s t))) (at_quiet a c d) (not_of_bodies strict a s t c e);
  frames = λ strict e. same_frames (frames None t) (frames None (not_of s t)) (sym (not_of_frames strict s t e));
  fixed = of_not s t;
  declared = λ x c. subst (λ xs. Contains xs x) (not_declared s t) c;
}
