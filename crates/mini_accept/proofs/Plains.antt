-- The plans of expressions that stand nowhere but where an expression may.
use Rattle.std.proofs.Common.{◌≡◌, ℕ, suc, List, [], ◌∷◌, length, refl, ap, sym, ◌∙◌, subst, Bool, true, false, ◌||◌}
use Rattle.std.specs.Prelude.{Option, Some, None, option_and_then, option_map, unwrap_or, is_some, nat_eq, nat_le, not, codes, ℤ, pos, negsuc, if◌then◌else◌}
use Rattle.std.proofs.lemmas.Bool.{and_from, or_right, false≢true, true≢false}
use Rattle.std.specs.Str.{chars}
use Rattle.serde_json.specs.Data.{Data, Items, no_items, item}
use Rattle.serde_json.specs.Find.{get, as_null}
use Rattle.mini_model.specs.Texts.{units_of}
use Rattle.mini_model.specs.declared.kind.MetaPropertyKind.TheVariants.{NewTarget, ImportMeta}
use Rattle.mini_model.specs.declared.operator.AssignmentOperator.{AssignmentOperator}
use Rattle.mini_model.specs.declared.operator.AssignmentOperator.TheVariants.{Assign}
use Rattle.mini_model.specs.declared.operator.UnaryOperator.{UnaryOperator}
use Rattle.mini_model.specs.declared.operator.UnaryOperator.TheVariants.{UnaryNegation}
use Rattle.mini_model.specs.declared.shape.Shape.{Shape}
use Rattle.mini_model.specs.declared.shape.Shape.TheVariants as shape
use Rattle.mini_model.specs.Tree.{Tree, none, ◌▸◌}
use Rattle.mini_accept.specs.WellShaped as shaped
use Rattle.mini_accept.specs.WellShaped.{expression_slots, is_strict_in, has_plain_fields, has_its_parts}
use Rattle.mini_accept.specs.Places.{field, Place, at}
use Rattle.mini_accept.specs.Fields.{require, is_given, is_there_with, flag_at, list_at, text_at, units_at, paired_units, has_type}
use Rattle.mini_accept.specs.Literals.{literal, negative_of, with_minus}
use Rattle.mini_accept.specs.Plans.{hole, tree_at, inner_at, checked, Child, one, child, optional, optional_inner, node_of, parts_from, each, or_hole}
use Rattle.mini_accept.specs.Statements.{directive_text, directives_before, directives_of}
use Rattle.mini_accept.specs.Functions as function
use Rattle.mini_accept.specs.Functions.{directives_in, directives_below, parameter}
use Rattle.mini_accept.specs.Words.{word_at, assignment_operators, binary_operators, logical_operators, unary_operators, update_operators}
use Rattle.mini_accept.specs.Expressions as expression
use Rattle.mini_accept.proofs.Fitting.{KnownBelow, known_fits, OfChildren, trees_of_children, AllFit, AllFitOrLast, ChildrenFit}
use Rattle.mini_accept.proofs.Gathered.{WholeIf}
use Rattle.mini_accept.proofs.Types.{some_same, is_expression_place}
use Rattle.mini_accept.proofs.Wholes.{bind_whole, require_whole, either_whole, list_whole, inner_one, inner_fits, if_fits, optional_fits, optional_inner_fits, absent_fits, absent_or, all_fit, rest_fit, items_counted, Aside, taken, is_plain, filled_whole, plain_whole}

-- texts of directives have their surrogates in pairs
require_paired : (b : Bool) (u v : List ℕ) → require b (Some u) ≡ Some v → shaped.is_paired u ≡ b → shaped.is_paired v ≡ true
require_paired true u v e is = subst (λ x. shaped.is_paired x ≡ true) (some_same u v e) is
require_paired false u v e is = absurd (cc e)

pub text_paired : (o : Option (List ℕ)) (v : List ℕ) → option_and_then paired_units o ≡ Some v → shaped.is_paired v ≡ true
text_paired None v e = absurd (cc e)
text_paired (Some s) v e = require_paired (shaped.is_paired (units_of s)) (units_of s) v e refl

pub units_paired : (key : List ℕ) (d : Data) (v : List ℕ) → units_at key d ≡ Some v → shaped.is_paired v ≡ true
units_paired key d v e = text_paired (text_at key d) v e

directive_paired : (b : Bool) (d : Data) (v : List ℕ) → (if b then units_at (codes "directive") d else None) ≡ Some v → shaped.is_paired v ≡ true
directive_paired true d v e = units_paired (codes "directive") d v e
directive_paired false d v e = absurd (cc e)

before_paired : (o : Option (List ℕ)) (ss : List (List ℕ)) → ((v : List ℕ) → o ≡ Some v → shaped.is_paired v ≡ true) → shaped.are_paired ss ≡ true → shaped.are_paired (directives_before o ss) ≡ true
before_paired None ss f e = refl
before_paired (Some s) ss f e = and_from (shaped.is_paired s) (shaped.are_paired ss) (f s refl) e

pub directives_paired : (ds : Items) → shaped.are_paired (directives_of ds) ≡ true
directives_paired no_items = refl
directives_paired (item d ds) = before_paired (directive_text d) (directives_of ds) (directive_paired (has_type (codes "ExpressionStatement") d) d) (directives_paired ds)

items_paired : (o : Option Items) → shaped.are_paired (unwrap_or (option_map directives_of o) []) ≡ true
items_paired None = refl
items_paired (Some ds) = directives_paired ds

block_paired : (b : Bool) (o : Option Items) → shaped.are_paired (if b then unwrap_or (option_map directives_of o) [] else []) ≡ true
block_paired true o = items_paired o
block_paired false o = refl

body_paired : (o : Option Data) → shaped.are_paired (unwrap_or (option_map directives_in o) []) ≡ true
body_paired None = refl
body_paired (Some d) = block_paired (has_type (codes "BlockStatement") d) (list_at (codes "body") d)

pub below_paired : (d : Data) → shaped.are_paired (directives_below d) ≡ true
below_paired d = body_paired (get (codes "body") d)

-- ---- parts

-- the parameters of a function
pub parameters_fit : (key : List ℕ) (ds : Items) → AllFitOrLast (shaped.one shaped.a_parameter) (shaped.one shaped.a_pattern_rest) (parts_from parameter key 0 ds)
parameters_fit key ds = rest_fit (shaped.one shaped.a_parameter) (shaped.one shaped.a_pattern_rest) (each shaped.a_parameter) shaped.a_pattern_rest key 0 ds (λ last d q strict t h. h) (λ q strict t h. h)

pub arguments_fit : (key : List ℕ) (ds : Items) → AllFit (shaped.one shaped.an_argument) (parts_from expression.argument key 0 ds)
arguments_fit key ds = all_fit (shaped.one shaped.an_argument) expression.argument key 0 ds (λ last d q strict t h. h)

-- the body of an arrow with directives is in braces
arrow_by : (b : Bool) (ds : Option Items) (t : Tree) → (b ≡ true → shaped.is_function_body t ≡ true) → (nat_eq (length (if b then unwrap_or (option_map directives_of ds) [] else [])) 0 || shaped.is_function_body t) ≡ true
arrow_by true ds t f = or_right _ _ (f refl)
arrow_by false ds t f = refl

arrow_body : (strict : Bool) (o : Option Data) (t : Tree) → KnownBelow strict (at shaped.an_arrow_body) o t → (nat_eq (length (unwrap_or (option_map directives_in o) [])) 0 || shaped.is_function_body t) ≡ true
arrow_body strict None t k = absurd k
arrow_body strict (Some d) t k = arrow_by (has_type (codes "BlockStatement") d) (list_at (codes "body") d) t k.1

chain_marked : (strict : Bool) (o : Option Data) (t : Tree) → is_there_with expression.has_mark o ≡ true → KnownBelow strict (at shaped.a_chain) o t → shaped.has_optional t ≡ true
chain_marked strict None t e k = absurd k
chain_marked strict (Some d) t e k = k.1 e

-- the words of meta properties

new_word : units_of (codes "new") ≡ codes "new"
unfolding chars
new_word = refl

target_word : units_of (codes "target") ≡ codes "target"
unfolding chars
target_word = refl

import_word : units_of (codes "import") ≡ codes "import"
unfolding chars
import_word = refl

meta_word : units_of (codes "meta") ≡ codes "meta"
unfolding chars
meta_word = refl

-- ---- a minus

negative_below : (o : Option Shape) (z : ℤ) → negative_of o ≡ Some z → not (shaped.is_positive z) ≡ true
negative_below (Some (shape.NumericLiteral (pos (suc n)))) z e = subst (λ x. not (shaped.is_positive x) ≡ true) (some_same (negsuc n) z e) refl
negative_below o z e = absurd (cc e)

minus_by : (b : Bool) (o : Option Shape) (z : ℤ) → (if b then negative_of o else None) ≡ Some z → not (shaped.is_positive z) ≡ true
minus_by true o z e = negative_below o z e
minus_by false o z e = absurd (cc e)

minus_on : (o : Option Data) (z : ℤ) → option_and_then with_minus o ≡ Some z → not (shaped.is_positive z) ≡ true
minus_on None z e = absurd (cc e)
minus_on (Some d) z e = minus_by (has_type (codes "Literal") d) (literal d) z e

minus_negative : (o : UnaryOperator) (d : Data) (z : ℤ) → expression.minus_below o d ≡ Some z → not (shaped.is_positive z) ≡ true
minus_negative UnaryNegation d z e = minus_on (get (codes "argument") d) z e
minus_negative o d z e = absurd (cc e)

safe_on : (strict : Bool) (o : Option Data) (t : Tree) (z : ℤ) → option_and_then with_minus o ≡ Some z → KnownBelow strict (at shaped.an_expression) o t → shaped.is_safe z ≡ true
safe_on strict None t z e k = absurd k
safe_on strict (Some d) t z e k = k.1.safe z e

minus_safe : (strict : Bool) (o : UnaryOperator) (d : Data) (t : Tree) (z : ℤ) → expression.minus_below o d ≡ Some z → KnownBelow strict (at shaped.an_expression) (get (codes "argument") d) t → shaped.is_safe z ≡ true
minus_safe strict UnaryNegation d t z e k = safe_on strict (get (codes "argument") d) t z e k
minus_safe strict o d t z e k = absurd (cc e)

positive_on : (strict : Bool) (o : Option Data) (t : Tree) → option_and_then with_minus o ≡ None → KnownBelow strict (at shaped.an_expression) o t → shaped.is_not_positive_number t ≡ true
positive_on strict None t e k = absurd k
positive_on strict (Some d) t e k = k.1.not_positive e

-- a minus that is left stands over no positive number
minus_left : (strict : Bool) (o : UnaryOperator) (d : Data) (t : Tree) → expression.minus_below o d ≡ None → KnownBelow strict (at shaped.an_expression) (get (codes "argument") d) t
    → has_its_parts shaped.a_program (shape.UnaryExpression o) (t ▸ none) ≡ true
minus_left strict UnaryNegation d t e k = positive_on strict (get (codes "argument") d) t e k
minus_left strict o d t e k = refl

module _ (strict : Bool) (p : Place) (d : Data) (there : is_expression_place p ≡ true) (a : Aside d) where
  -- a node that no other looks into
  plain : (h : Shape) (cs : List Child) → is_plain h ≡ true → has_plain_fields h ≡ true
      → ((w : OfChildren (is_strict_in strict h) d cs) → has_its_parts shaped.a_program h (trees_of_children (is_strict_in strict h) d cs w) ≡ true)
      → ChildrenFit (taken (expression_slots shaped.an_expression h)) cs → WholeIf strict p d (node_of h cs)
  plain h cs is fields parts fit = record { known = plain_whole strict p d there a h cs is (λ w. fields) parts fit }

  pub this : WholeIf strict p d (node_of shape.ThisExpression [])
  this = plain shape.ThisExpression [] refl refl (λ w. refl) tt

  pub array_expression : WholeIf strict p d (expression.array_expression d)
  array_expression = list_whole strict p d (or_hole expression.argument) (codes "elements") _ (λ ds. plain shape.ArrayExpression _ refl refl (λ w. refl)
      (all_fit (shaped.one_or_absent shaped.an_argument) (or_hole expression.argument) (codes "elements") 0 ds (λ last e q. if_fits (shaped.one_or_absent shaped.an_argument) (is_some (as_null e)) hole (tree_at q (at shaped.an_argument)) (λ y s. absent_fits s shaped.an_argument) (λ n s t h. absent_or s shaped.an_argument t h)), tt))

  pub object_expression : WholeIf strict p d (expression.object_expression d)
  object_expression = list_whole strict p d (each shaped.an_object_property) (codes "properties") _ (λ ds. plain shape.ObjectExpression _ refl refl (λ w. refl)
      (all_fit (shaped.one shaped.an_object_property) (each shaped.an_object_property) (codes "properties") 0 ds (λ last e q s t h. h), tt))

  pub function_expression : WholeIf strict p d (function.function false p d)
  function_expression = bind_whole strict p d (flag_at (codes "generator") d) _ (λ generator is. list_whole strict p d parameter (codes "params") _ (λ ds. require_whole strict p d _ _ (λ yes.
      plain (shape.Function false generator (directives_below d)) _ refl (below_paired d) (λ w. refl)
      (optional_fits shaped.a_binding (is_given (codes "id") d) (field (codes "id")) (at shaped.a_binding) (λ s t h. h), (parameters_fit (codes "params") ds, (λ s t h. h, tt))))))

  pub arrow : WholeIf strict p d (function.arrow d)
  arrow = bind_whole strict p d (flag_at (codes "expression") d) _ (λ e is. list_whole strict p d parameter (codes "params") _ (λ ds. require_whole strict p d _ _ (λ yes.
      plain (shape.ArrowFunctionExpression (directives_below d)) _ refl (below_paired d) (λ w. arrow_body (is_strict_in strict (shape.ArrowFunctionExpression (directives_below d))) (get (codes "body") d) w.1.0.0 w.1.0.1)
      (parameters_fit (codes "params") ds, (λ s t h. h, tt)))))

  -- an expression holds its name once
  abbrev class_children : Bool → Bool → List Child
  class_children has_name extends = one (if has_name then tree_at (field (codes "id")) (at shaped.a_binding) else hole) ∷ one (if extends then inner_at (field (codes "superClass")) (at shaped.an_expression) else hole)
      ∷ child (codes "body") shaped.a_class_body ∷ one hole ∷ []

  no_name_held : (has_name extends : Bool) (w : OfChildren true d (class_children has_name extends)) → shaped.holds_its_name false (trees_of_children true d (class_children has_name extends) w) ≡ true
  no_name_held true true w = refl
  no_name_held true false w = refl
  no_name_held false true w = refl
  no_name_held false false w = refl

  pub class_expression : WholeIf strict p d (function.class false p d)
  class_expression = plain (shape.Class false) (optional (codes "id") shaped.a_binding d ∷ optional_inner (codes "superClass") shaped.an_expression d ∷ child (codes "body") shaped.a_class_body ∷ function.name_held false d ∷ []) refl refl (no_name_held (is_given (codes "id") d) (is_given (codes "superClass") d))
      (optional_fits shaped.a_binding (is_given (codes "id") d) (field (codes "id")) (at shaped.a_binding) (λ s t h. h), (optional_inner_fits (shaped.an_inner shaped.an_expression) (is_given (codes "superClass") d) (field (codes "superClass")) (at shaped.an_expression) (λ s n t h. inner_fits n _ h), (λ s t h. h, (λ s. absent_fits s shaped.a_binding, tt))))

  unary_by : (o : UnaryOperator) (m : Option ℤ) → expression.minus_below o d ≡ m → WholeIf strict p d (expression.unary_plan o m)
  unary_by o None is = plain (shape.UnaryExpression o) _ refl refl (λ w. minus_left strict o d w.0.0 is w.0.1) (λ s t h. h, tt)
  unary_by o (Some z) is = record { known = plain_whole strict p d there a (shape.NumericLiteral z) (one (checked (field (codes "argument")) (at shaped.an_expression)) ∷ []) (minus_negative o d z is) (λ w. minus_safe strict o d w.0.0 z is w.0.1) (λ w. refl) tt }

  pub unary : WholeIf strict p d (expression.unary d)
  unary = bind_whole strict p d (word_at unary_operators (codes "operator") d) _ (λ o is. require_whole strict p d _ _ (λ yes. unary_by o (expression.minus_below o d) refl))

  pub update : WholeIf strict p d (expression.update d)
  update = bind_whole strict p d (word_at update_operators (codes "operator") d) _ (λ o is. bind_whole strict p d (flag_at (codes "prefix") d) _ (λ prefix flag.
      plain (shape.UpdateExpression o prefix) _ refl refl (λ w. refl) (λ s t h. h, tt)))

  pub binary : WholeIf strict p d (expression.binary d)
  binary = bind_whole strict p d (word_at binary_operators (codes "operator") d) _ (λ o is. either_whole strict p d _ _ _
      (λ yes. plain shape.PrivateInExpression _ refl refl (λ w. refl) (λ s t h. h, (λ s n t h. inner_fits n _ h, tt)))
      (λ no. plain (shape.BinaryExpression o) _ refl refl (λ w. refl) (λ s t h. h, (λ s t h. h, tt))))

  pub logical : WholeIf strict p d (expression.logical d)
  logical = bind_whole strict p d (word_at logical_operators (codes "operator") d) _ (λ o is. plain (shape.LogicalExpression o) _ refl refl (λ w. refl) (λ s t h. h, (λ s t h. h, tt)))

  assignment_by : (o : AssignmentOperator) → WholeIf strict p d (node_of (shape.AssignmentExpression o) (child (codes "left") (expression.target_class o) ∷ child (codes "right") shaped.an_expression ∷ []))
  assignment_by Assign = plain (shape.AssignmentExpression Assign) _ refl refl (λ w. refl) (λ s t h. h, (λ s t h. h, tt))
  assignment_by o = plain (shape.AssignmentExpression o) _ refl refl (λ w. refl) (λ s t h. h, (λ s t h. h, tt))

  pub assignment : WholeIf strict p d (expression.assignment d)
  assignment = bind_whole strict p d (word_at assignment_operators (codes "operator") d) _ (λ o is. assignment_by o)

  pub conditional : WholeIf strict p d (expression.conditional d)
  conditional = plain shape.ConditionalExpression _ refl refl (λ w. refl) (λ s t h. h, (λ s t h. h, (λ s t h. h, tt)))

  pub sequence : WholeIf strict p d (expression.sequence d)
  sequence = bind_whole strict p d (list_at (codes "expressions") d) _ (λ ds is. require_whole strict p d _ _ (λ two.
      plain shape.SequenceExpression _ refl refl (λ w. ap (nat_le 2) (items_counted strict d (each shaped.an_expression) (codes "expressions") 0 ds w.0 (λ last e q. tt)) ∙ two)
      (all_fit (shaped.one shaped.an_expression) (each shaped.an_expression) (codes "expressions") 0 ds (λ last e q s t h. h), tt)))

  pub new : WholeIf strict p d (expression.new d)
  new = list_whole strict p d expression.argument (codes "arguments") _ (λ ds. plain shape.NewExpression _ refl refl (λ w. refl) (λ s t h. h, (arguments_fit (codes "arguments") ds, tt)))

  pub chain : WholeIf strict p d (expression.chain d)
  chain = require_whole strict p d (is_there_with expression.has_mark (get (codes "expression") d)) _ (λ marked. record {
    known = filled_whole strict p d there a shape.ChainExpression (child (codes "expression") shaped.a_chain ∷ []) refl (λ w. refl)
        (λ w. chain_marked strict (get (codes "expression") d) w.0.0 marked w.0.1)
        (λ w. inner_one _ (known_fits strict (at shaped.a_chain) (get (codes "expression") d) w.0.0 w.0.1 (chain_marked strict (get (codes "expression") d) w.0.0 marked w.0.1)));
  })

  yield_by : (delegate given : Bool) → is_given (codes "argument") d ≡ given → (not delegate || given) ≡ true → WholeIf strict p d (node_of (shape.YieldExpression delegate) (optional (codes "argument") shaped.an_expression d ∷ []))
  yield_by true true is e = plain (shape.YieldExpression true) _ refl refl (λ w. refl) (if_fits (shaped.one shaped.an_expression) (is_given (codes "argument") d) (tree_at (field (codes "argument")) (at shaped.an_expression)) hole (λ y s t h. h) (λ n. absurd (true≢false (sym is ∙ n))), tt)
  yield_by true false is e = absurd (false≢true e)
  yield_by false given is e = plain (shape.YieldExpression false) _ refl refl (λ w. refl) (optional_fits shaped.an_expression (is_given (codes "argument") d) (field (codes "argument")) (at shaped.an_expression) (λ s t h. h), tt)

  pub yield : WholeIf strict p d (expression.yield d)
  yield = bind_whole strict p d (flag_at (codes "delegate") d) _ (λ delegate is. require_whole strict p d _ _ (λ e. yield_by delegate (is_given (codes "argument") d) refl e))

  pub tagged_template : WholeIf strict p d (expression.tagged_template d)
  tagged_template = plain shape.TaggedTemplateExpression _ refl refl (λ w. refl) (λ s n t h. inner_fits n _ h, (λ s t h. h, tt))

  new_target : WholeIf strict p d (expression.meta_plan NewTarget (codes "new") (codes "target"))
  new_target = plain (shape.MetaProperty NewTarget) (child (codes "meta") (shaped.a_word (codes "new")) ∷ child (codes "property") (shaped.a_word (codes "target")) ∷ []) refl refl (λ w. refl) (λ s t h. h new_word, (λ s t h. h target_word, tt))

  import_meta : WholeIf strict p d (expression.meta_plan ImportMeta (codes "import") (codes "meta"))
  import_meta = plain (shape.MetaProperty ImportMeta) (child (codes "meta") (shaped.a_word (codes "import")) ∷ child (codes "property") (shaped.a_word (codes "meta")) ∷ []) refl refl (λ w. refl) (λ s t h. h import_word, (λ s t h. h meta_word, tt))

  pub meta_property : WholeIf strict p d (expression.meta_property d)
  meta_property = either_whole strict p d (expression.has_meta (codes "new") d) (expression.meta_plan NewTarget (codes "new") (codes "target")) (if expression.has_meta (codes "import") d then expression.meta_plan ImportMeta (codes "import") (codes "meta") else None) (λ yes. new_target)
      (λ no. either_whole strict p d (expression.has_meta (codes "import") d) (expression.meta_plan ImportMeta (codes "import") (codes "meta")) None (λ yes. import_meta) (λ no. record { known = tt }))

  pub import_expression : WholeIf strict p d (expression.import_expression d)
  import_expression = plain shape.ImportExpression _ refl refl (λ w. refl) (λ s n t h. inner_fits n _ h, tt)
