-- Expressions, in the slots that take one.
use Rattle.std.proofs.Common.{◌≡◌, ℕ, zero, suc, Bool, true, false, List, [], ◌∷◌, refl, ap, subst}
use Rattle.std.specs.Prelude.{◌&&◌, ◌||◌, ◌==◌, nat_lt, None, if◌then◌else◌}
use Rattle.std.proofs.lemmas.Bool.{and_parts}
use Rattle.mini_model.specs.declared.name.Name.{Name}
use Rattle.mini_model.specs.declared.operator.BinaryOperator.{BinaryOperator}
use Rattle.mini_model.specs.declared.operator.LogicalOperator.{LogicalOperator}
use Rattle.mini_model.specs.declared.operator.LogicalOperator.TheVariants.{Or, And}
use Rattle.mini_model.specs.declared.operator.UnaryOperator.TheVariants.{LogicalNot}
use Rattle.mini_model.specs.declared.place.Position.TheVariants.{Expr}
use Rattle.mini_model.specs.declared.seat.Seat.{Seat}
use Rattle.mini_model.specs.declared.shape.Shape.{Shape}
use Rattle.mini_model.specs.declared.shape.Shape.TheVariants as shape
use Rattle.mini_model.specs.Tree.{Tree, Trees, node, none, ◌▸◌, negation, conditional}
use Rattle.mini_model.specs.Weight.{weight}
use Rattle.mini_model.specs.Position.{is_equality}
use Rattle.mini_model.specs.Terms.{is_boolean, turned_seat, unwrapped, opposite, turned_equality, neg, neg_each, not_of}
use Rattle.mini_accept.specs.WellShaped.{Depth, in_module, in_body, nested, Class, a_statement, an_init, a_default_export, an_arrow_body, an_expression, a_link, an_argument, an_inner, a_key, a_private_or_key, an_inner_key, Slot, one, one_or_absent, many, refused, these, class_of, a_label, a_private_name, fits, fill, filling, filling_by, statement_slots, is_whole, is_strict_in, has_names}
use Rattle.mini_kept.proofs.Bools.{left, both, and_false}

abbrev pub expression : Slot
expression = one an_expression

abbrev pub TakesExpressionIn : Class → Type 0
TakesExpressionIn an_expression = Unit {0}
TakesExpressionIn a_link = Unit {0}
TakesExpressionIn an_argument = Unit {0}
TakesExpressionIn an_init = Unit {0}
TakesExpressionIn (a_key true) = Unit {0}
TakesExpressionIn an_arrow_body = Unit {0}
TakesExpressionIn a_default_export = Unit {0}
TakesExpressionIn _ = ⊥

abbrev pub TakesExpression : Slot → Type 0
TakesExpression (one c) = TakesExpressionIn c
TakesExpression (one_or_absent c) = TakesExpressionIn c
TakesExpression _ = ⊥

-- an expression is a link of a chain, none of whose links is optional

-- what a slot refuses doesn't stand there
pub refused_here : (strict : Bool) (s : Slot) (h : Shape) (xs : List Name) (n : ℕ) (ts : Trees) → filling strict s h ≡ refused → fits strict s (node h xs n ts) ≡ true → ⊥
refused_here strict s h xs n ts q e = and_false (is_whole (class_of s) h xs n ts) (subst (λ g. (is_whole (class_of s) h xs n ts && fill (is_strict_in strict h) g ts) ≡ true) q e)

first_changed : (strict : Bool) (w : Bool) (s r : Slot) (ss : List Slot) (t : Tree) (ts : Trees) → (fits strict s t ≡ true → fits strict r t ≡ true) → (w && (fits strict s t && fill strict (these ss) ts)) ≡ true → (w && (fits strict r t && fill strict (these ss) ts)) ≡ true
first_changed strict w s r ss t ts f e =
    let (whole, parts) = and_parts w (fits strict s t && fill strict (these ss) ts) e in
    let (one_fits, rest) = and_parts (fits strict s t) (fill strict (these ss) ts) parts in
    both w (fits strict r t && fill strict (these ss) ts) whole (both (fits strict r t) (fill strict (these ss) ts) (f one_fits) rest)

mutual
  link_of : (strict : Bool) (t : Tree) → fits strict expression t ≡ true → fits strict (one a_link) t ≡ true
  link_of strict (node (shape.CallExpression true) xs n ts) e = absurd (refused_here strict expression (shape.CallExpression true) xs n ts refl e)
  link_of strict (node (shape.CallExpression false) xs n none) e = absurd (and_false (is_whole an_expression (shape.CallExpression false) xs n none) e)
  link_of strict (node (shape.CallExpression false) xs n (f ▸ ts)) e = first_changed strict _ expression (one a_link) (many an_argument ∷ []) f ts (link_of strict f) e
  link_of strict (node (shape.StaticMemberExpression true) xs n ts) e = absurd (refused_here strict expression (shape.StaticMemberExpression true) xs n ts refl e)
  link_of strict (node (shape.StaticMemberExpression false) xs n none) e = absurd (and_false (is_whole an_expression (shape.StaticMemberExpression false) xs n none) e)
  link_of strict (node (shape.StaticMemberExpression false) xs n (f ▸ ts)) e = first_changed strict _ expression (one a_link) (one a_label ∷ []) f ts (link_of strict f) e
  link_of strict (node (shape.ComputedMemberExpression true) xs n ts) e = absurd (refused_here strict expression (shape.ComputedMemberExpression true) xs n ts refl e)
  link_of strict (node (shape.ComputedMemberExpression false) xs n none) e = absurd (and_false (is_whole an_expression (shape.ComputedMemberExpression false) xs n none) e)
  link_of strict (node (shape.ComputedMemberExpression false) xs n (f ▸ ts)) e = first_changed strict _ expression (one a_link) (expression ∷ []) f ts (link_of strict f) e
  link_of strict (node (shape.PrivateFieldExpression true) xs n ts) e = absurd (refused_here strict expression (shape.PrivateFieldExpression true) xs n ts refl e)
  link_of strict (node (shape.PrivateFieldExpression false) xs n none) e = absurd (and_false (is_whole an_expression (shape.PrivateFieldExpression false) xs n none) e)
  link_of strict (node (shape.PrivateFieldExpression false) xs n (f ▸ ts)) e = first_changed strict _ (one (an_inner an_expression)) (one (an_inner a_link)) (one a_private_name ∷ []) f ts (inner_link strict f) e
  link_of strict (node h xs n ts) e = e

  inner_link : (strict : Bool) (t : Tree) → fits strict (one (an_inner an_expression)) t ≡ true → fits strict (one (an_inner a_link)) t ≡ true
  inner_link strict (node shape.InnerExpression xs n none) e = absurd (and_false (is_whole (an_inner an_expression) shape.InnerExpression xs n none) e)
  inner_link strict (node shape.InnerExpression xs n (f ▸ ts)) e = first_changed strict _ expression (one a_link) [] f ts (link_of strict f) e
  inner_link strict (node h xs n ts) e = absurd (refused_here strict (one (an_inner an_expression)) h xs n ts refl e)

-- an expression stands in each slot that takes one

taken_in : (strict : Bool) (c : Class) (t : Tree) → TakesExpressionIn c → fits strict expression t ≡ true → fits strict (one c) t ≡ true
taken_in strict an_expression t k e = e
taken_in strict a_link t k e = link_of strict t e
taken_in strict an_argument (node shape.SpreadElement xs n ts) k e = absurd (refused_here strict expression shape.SpreadElement xs n ts refl e)
taken_in strict an_argument (node h xs n ts) k e = e
taken_in strict an_init (node (shape.VariableDeclaration v) xs n ts) k e = absurd (refused_here strict expression (shape.VariableDeclaration v) xs n ts refl e)
taken_in strict an_init (node h xs n ts) k e = e
taken_in strict (a_key true) (node shape.Absent xs n ts) k e = e
taken_in strict (a_key true) (node h xs n ts) k e = e
taken_in strict an_arrow_body (node shape.FunctionBody xs n ts) k e = absurd (refused_here strict expression shape.FunctionBody xs n ts refl e)
taken_in strict an_arrow_body (node h xs n ts) k e = e
taken_in strict a_default_export (node (shape.Function true g ds) xs n ts) k e = absurd (refused_here strict expression (shape.Function true g ds) xs n ts refl e)
taken_in strict a_default_export (node (shape.Class true) xs n ts) k e = absurd (refused_here strict expression (shape.Class true) xs n ts refl e)
taken_in strict a_default_export (node h xs n ts) k e = e
taken_in strict c t k e = absurd k

pub expression_taken : (strict : Bool) (s : Slot) (t : Tree) → TakesExpression s → fits strict expression t ≡ true → fits strict s t ≡ true
expression_taken strict (one c) t k e = taken_in strict c t k e
expression_taken strict (one_or_absent c) (node shape.Absent xs n ts) k e = absurd (refused_here strict expression shape.Absent xs n ts refl e)
expression_taken strict (one_or_absent c) (node h xs n ts) k e = taken_in strict c (node h xs n ts) k e
expression_taken strict s t k e = absurd k

-- no statement is a negation or a conditional

unary_nowhere : (strict : Bool) (d : Depth) → statement_slots strict d (shape.UnaryExpression LogicalNot) ≡ None
unary_nowhere true in_module = refl
unary_nowhere true in_body = refl
unary_nowhere true nested = refl
unary_nowhere false in_module = refl
unary_nowhere false in_body = refl
unary_nowhere false nested = refl

conditional_nowhere : (strict : Bool) (d : Depth) → statement_slots strict d shape.ConditionalExpression ≡ None
conditional_nowhere true in_module = refl
conditional_nowhere true in_body = refl
conditional_nowhere true nested = refl
conditional_nowhere false in_module = refl
conditional_nowhere false in_body = refl
conditional_nowhere false nested = refl

negation_in : (strict : Bool) (c : Class) (a : Tree) → fits strict (one c) (negation a) ≡ true → TakesExpressionIn c × (fits strict expression a ≡ true)
negation_in strict an_expression a e = (tt, left (fits strict expression a) true e)
negation_in strict a_link a e = (tt, left (fits strict expression a) true e)
negation_in strict an_argument a e = (tt, left (fits strict expression a) true e)
negation_in strict an_init a e = (tt, left (fits strict expression a) true e)
negation_in strict (a_key true) a e = (tt, left (fits strict expression a) true e)
negation_in strict (a_key false) a e = absurd (refused_here strict (one (a_key false)) (shape.UnaryExpression LogicalNot) [] 0 (a ▸ none) refl e)
negation_in strict an_arrow_body a e = (tt, left (fits strict expression a) true e)
negation_in strict a_default_export a e = (tt, left (fits strict expression a) true e)
negation_in strict (a_statement d) a e = absurd (refused_here strict (one (a_statement d)) (shape.UnaryExpression LogicalNot) [] 0 (a ▸ none) (ap filling_by (unary_nowhere strict d)) e)
negation_in strict (a_private_or_key true) a e = absurd (refused_here strict (one (a_private_or_key true)) (shape.UnaryExpression LogicalNot) [] 0 (a ▸ none) refl e)
negation_in strict (an_inner_key true) a e = absurd (refused_here strict (one (an_inner_key true)) (shape.UnaryExpression LogicalNot) [] 0 (a ▸ none) refl e)
negation_in strict c a e = absurd (refused_here strict (one c) (shape.UnaryExpression LogicalNot) [] 0 (a ▸ none) refl e)

pub of_negation : (strict : Bool) (s : Slot) (a : Tree) → fits strict s (negation a) ≡ true → TakesExpression s × (fits strict expression a ≡ true)
of_negation strict (one c) a e = negation_in strict c a e
of_negation strict (one_or_absent c) a e = negation_in strict c a e
of_negation strict s a e = absurd (refused_here strict s (shape.UnaryExpression LogicalNot) [] 0 (a ▸ none) refl e)

abbrev pub ThreeFit : Bool → Tree → Tree → Tree → Type 0
ThreeFit strict a b c = (fits strict expression a ≡ true) × (fits strict expression b ≡ true) × (fits strict expression c ≡ true)

three_parts : (strict : Bool) (a b c : Tree) → (fits strict expression a && (fits strict expression b && (fits strict expression c && true))) ≡ true → ThreeFit strict a b c
three_parts strict a b c e =
    let (first, rest) = and_parts (fits strict expression a) (fits strict expression b && (fits strict expression c && true)) e in
    let (second, last) = and_parts (fits strict expression b) (fits strict expression c && true) rest in
    (first, second, left (fits strict expression c) true last)

conditional_in : (strict : Bool) (c : Class) (x y z : Tree) → fits strict (one c) (conditional x y z) ≡ true → TakesExpressionIn c × ThreeFit strict x y z
conditional_in strict an_expression x y z e = (tt, three_parts strict x y z e)
conditional_in strict a_link x y z e = (tt, three_parts strict x y z e)
conditional_in strict an_argument x y z e = (tt, three_parts strict x y z e)
conditional_in strict an_init x y z e = (tt, three_parts strict x y z e)
conditional_in strict (a_key true) x y z e = (tt, three_parts strict x y z e)
conditional_in strict (a_key false) x y z e = absurd (refused_here strict (one (a_key false)) shape.ConditionalExpression [] 0 (x ▸ y ▸ z ▸ none) refl e)
conditional_in strict an_arrow_body x y z e = (tt, three_parts strict x y z e)
conditional_in strict a_default_export x y z e = (tt, three_parts strict x y z e)
conditional_in strict (a_statement d) x y z e = absurd (refused_here strict (one (a_statement d)) shape.ConditionalExpression [] 0 (x ▸ y ▸ z ▸ none) (ap filling_by (conditional_nowhere strict d)) e)
conditional_in strict (a_private_or_key true) x y z e = absurd (refused_here strict (one (a_private_or_key true)) shape.ConditionalExpression [] 0 (x ▸ y ▸ z ▸ none) refl e)
conditional_in strict (an_inner_key true) x y z e = absurd (refused_here strict (one (an_inner_key true)) shape.ConditionalExpression [] 0 (x ▸ y ▸ z ▸ none) refl e)
conditional_in strict c x y z e = absurd (refused_here strict (one c) shape.ConditionalExpression [] 0 (x ▸ y ▸ z ▸ none) refl e)

pub of_conditional : (strict : Bool) (s : Slot) (a b c : Tree) → fits strict s (conditional a b c) ≡ true → TakesExpression s × ThreeFit strict a b c
of_conditional strict (one k) a b c e = conditional_in strict k a b c e
of_conditional strict (one_or_absent k) a b c e = conditional_in strict k a b c e
of_conditional strict s a b c e = absurd (refused_here strict s shape.ConditionalExpression [] 0 (a ▸ b ▸ c ▸ none) refl e)

-- the negation of an expression is one

turned_names : (o q : LogicalOperator) (xs : List Name) (n : ℕ) (c : Bool) → (has_names (shape.LogicalExpression o) xs && (n == 0 && c)) ≡ true → (has_names (shape.LogicalExpression q) xs && (n == 0 && c)) ≡ true
turned_names o q [] n c e = e
turned_names o q (x ∷ xs) n c e = e

abbrev pub AreExpressions : List Slot → Type 0
AreExpressions [] = Unit {0}
AreExpressions (one an_expression ∷ ss) = AreExpressions ss
AreExpressions (s ∷ ss) = ⊥

abbrev pub two : List Slot
two = expression ∷ expression ∷ []

unwrapped_fits : (strict b : Bool) (a n : Tree) → fits strict expression a ≡ true → fits strict expression n ≡ true → fits strict expression (unwrapped b a n) ≡ true
unwrapped_fits strict true a n e f = e
unwrapped_fits strict false a n e f = both (fits strict expression n) true f refl

equality_names : (o : BinaryOperator) (xs : List Name) (n : ℕ) (c : Bool) → (has_names (shape.BinaryExpression o) xs && (n == 0 && c)) ≡ true → (has_names (shape.BinaryExpression (opposite o)) xs && (n == 0 && c)) ≡ true
equality_names o [] n c e = e
equality_names o (x ∷ xs) n c e = e

equality_fits : (strict b : Bool) (o : BinaryOperator) (xs : List Name) (n : ℕ) (ts : Trees) → fits strict expression (node (shape.BinaryExpression o) xs n ts) ≡ true → fits strict expression (turned_equality b o xs n ts) ≡ true
equality_fits strict true o xs n ts e =
    let (whole, parts) = and_parts (is_whole an_expression (shape.BinaryExpression o) xs n ts) (fill strict (these two) ts) e in
    both (is_whole an_expression (shape.BinaryExpression (opposite o)) xs n ts) (fill strict (these two) ts) (equality_names o xs n true whole) parts
equality_fits strict false o xs n ts e = both (fits strict expression (node (shape.BinaryExpression o) xs n ts)) true e refl

mutual
  pub neg_fits : (strict : Bool) (t : Tree) (s : Seat) → fits strict expression t ≡ true → fits strict expression (neg s t) ≡ true
  neg_fits strict (node (shape.LogicalExpression And) xs n ts) s e =
      let σ = turned_seat (shape.LogicalExpression And) s in
      let (whole, parts) = and_parts (is_whole an_expression (shape.LogicalExpression And) xs n ts) (fill strict (these two) ts) e in
      both (is_whole an_expression (shape.LogicalExpression Or) xs n (neg_each σ ts)) (fill strict (these two) (neg_each σ ts)) (turned_names And Or xs n true whole) (neg_each_fit strict ts σ two tt parts)
  neg_fits strict (node (shape.LogicalExpression Or) xs n ts) s e =
      let σ = turned_seat (shape.LogicalExpression Or) s in
      let (whole, parts) = and_parts (is_whole an_expression (shape.LogicalExpression Or) xs n ts) (fill strict (these two) ts) e in
      both (is_whole an_expression (shape.LogicalExpression And) xs n (neg_each σ ts)) (fill strict (these two) (neg_each σ ts)) (turned_names Or And xs n true whole) (neg_each_fit strict ts σ two tt parts)
  neg_fits strict (node (shape.UnaryExpression LogicalNot) xs n (a ▸ none)) s e =
      let (whole, parts) = and_parts (is_whole an_expression (shape.UnaryExpression LogicalNot) xs n (a ▸ none)) (fits strict expression a && true) e in
      unwrapped_fits strict (s.boolean || is_boolean a) a (node (shape.UnaryExpression LogicalNot) xs n (a ▸ none)) (left (fits strict expression a) true parts) e
  neg_fits strict (node (shape.BinaryExpression o) xs n ts) s e = equality_fits strict (is_equality o) o xs n ts e
  neg_fits strict (node h xs n ts) s e = both (fits strict expression (node h xs n ts)) true e refl

  neg_each_fit : (strict : Bool) (ts : Trees) (σ : ℕ → Seat) (ss : List Slot) → AreExpressions ss → fill strict (these ss) ts ≡ true → fill strict (these ss) (neg_each σ ts) ≡ true
  neg_each_fit strict none σ ss k e = e
  neg_each_fit strict (t ▸ ts) σ [] k e = e
  neg_each_fit strict (t ▸ ts) σ (one an_expression ∷ ss) k e =
      let (first, rest) = and_parts (fits strict expression t) (fill strict (these ss) ts) e in
      both (fits strict expression (neg (σ zero) t)) (fill strict (these ss) (neg_each (λ i. σ (suc i)) ts)) (neg_fits strict t (σ zero) first) (neg_each_fit strict ts (λ i. σ (suc i)) ss k rest)
  neg_each_fit strict (t ▸ ts) σ (s ∷ ss) k e = absurd k

chosen_fits : (strict b : Bool) (x y : Tree) → fits strict expression x ≡ true → fits strict expression y ≡ true → fits strict expression (if b then x else y) ≡ true
chosen_fits strict true x y e f = e
chosen_fits strict false x y e f = f

pub not_of_fits : (strict : Bool) (s : Seat) (a : Tree) → fits strict expression a ≡ true → fits strict expression (not_of s a) ≡ true
not_of_fits strict s a e = chosen_fits strict (nat_lt (weight (Expr s) (negation a)) (weight (Expr s) (neg s a))) (negation a) (neg s a) (both (fits strict expression a) true e refl) (neg_fits strict a s e)

pub three_fit : (strict : Bool) (a b c : Tree) → fits strict expression a ≡ true → fits strict expression b ≡ true → fits strict expression c ≡ true → (fits strict expression a && (fits strict expression b && (fits strict expression c && true))) ≡ true
three_fit strict a b c e f g = both (fits strict expression a) (fits strict expression b && (fits strict expression c && true)) e (both (fits strict expression b) (fits strict expression c && true) f (both (fits strict expression c) true g refl))

pub two_fit : (strict : Bool) (a b : Tree) → fits strict expression a ≡ true → fits strict expression b ≡ true → (fits strict expression a && (fits strict expression b && true)) ≡ true
two_fit strict a b e f = both (fits strict expression a) (fits strict expression b && true) e (both (fits strict expression b) true f refl)
