-- The table of expressions.
use Rattle.std.proofs.Common.{◌≡◌, ℕ, suc, Bool, true, false, ◌&&◌, ◌||◌, not, List, [], ◌∷◌, refl, sym, ap, subst, ◌∙◌, inl, inr, arith}
use Rattle.std.specs.Prelude.{Some, pos, negsuc, nat_eq, codes, length}
use Rattle.std.proofs.lemmas.Bool.{false≢true, eqb-true}
use Rattle.mini_model.specs.declared.name.Name.{Name}
use Rattle.mini_model.specs.declared.kind.MetaPropertyKind.TheVariants as meta
use Rattle.mini_model.specs.declared.operator.AssignmentOperator.TheVariants as assignment
use Rattle.mini_model.specs.declared.operator.UnaryOperator.TheVariants as unary
use Rattle.mini_model.specs.declared.shape.Shape.{Shape}
use Rattle.mini_model.specs.declared.shape.Shape.TheVariants as shape
use Rattle.mini_model.specs.Tree.{Tree, Trees, node, none, ◌▸◌}
use Rattle.mini_model.specs.Weight.{same_text}
use Rattle.mini_accept.specs.WellShaped as accept
use Rattle.mini_accept.specs.WellShaped.{Class, Slot, one, one_or_absent, many, many_or_holes, many_and_rest, an_expression, an_inner, an_argument, an_inner_argument, an_arrow_body, a_key, a_target, a_label, a_private_name, a_parameter, a_pattern_rest, a_function_body, a_class_body, a_binding, a_method, a_chain, quasis, untagged, these, slots_of, filling_by, is_whole, has_names, fits}
use Rattle.mini_print.specs.Grammar.{Anything, Body, ClassBraces, Binding, Parameter, TargetPattern, Zero, Two, Nothing, is_reserved, has_private, form}
use Rattle.mini_print.specs.Unprintable.{are_directives}
use Rattle.mini_print.specs.Printed as printed
use Rattle.mini_print.specs.Printed.{Want, a_part, a_list, a_perhaps, a_block as a_run, a_silent, wants, is_wanted, is_printable, is_positive_literal, shown, all_shown, seen, with_directives, linked, taker, APattern, AValue, assignment_of, yield_of, class_of, arrow_of}
use Rattle.mini_printable.proofs.Clean.{and_r, both, is_clean, are_clean, clean_node}
use Rattle.mini_printable.proofs.Seats.{tag_template, value, inner, name, private_name, super_here, simple_target, word, value_or_none, inner_or_none, binding_or_none, class_body, arguments, elements, properties, values, inner_arguments, parameters, any_target, a_chain_here, Linked, want_at, Assigned, Served, Below, parts, over_one, over_two, over_three, over_four}
use Rattle.mini_printable.proofs.Templates.{template_at}
use Rattle.mini_printable.proofs.Rows.{never, and_one, and_two, and_three, either, same_self, stands_at, part_of, perhaps_cases, absent_shown, Row, leaf, label_private, private_private, maybe_bound, longer, two_shown}

-- ---- names

pub wanted_name : (b : Bool) → b ≡ false → (not b && ((not b && true) || (not b && true))) ≡ true
wanted_name b e = ap (λ c. not c && ((not c && true) || (not c && true))) e

-- ---- functions

pub function_stands : (strict inside l g : Bool) (ds : List (List ℕ)) (n : ℕ) (ts : Trees) → Below ts → accept.fill inside (these (one_or_absent a_binding ∷ many_and_rest a_parameter a_pattern_rest ∷ one a_function_body ∷ [])) ts ≡ true → is_clean l (node (shape.Function false g ds) [] n ts) ≡ true → stands_at Anything (seen (shape.Function false g ds) [] n (all_shown ts)) ≡ true
function_stands strict inside l true ds n ts b e k =
    let c = clean_node l (shape.Function false true ds) [] n ts refl k in
    over_three inside false (one_or_absent a_binding) (many_and_rest a_parameter a_pattern_rest) (one a_function_body) (λ us. stands_at Anything (seen (shape.Function false true ds) [] n (all_shown us)) ≡ true)
    (λ t u v bt bu bv et eu ev kt ku kv. and_three (is_printable (a_perhaps Binding) (shown t)) (is_printable (a_list Parameter Zero) (shown u)) (is_printable (a_part Body) (with_directives ds (shown v)))
    (bt.seat inside binding_or_none false refl et kt) (bu.seat inside parameters false refl eu ku) (bv.body inside ds c.1 ev kv))
    ts b e c.2
function_stands strict inside l false ds n ts b e k =
    let c = clean_node l (shape.Function false false ds) [] n ts refl k in
    over_three inside false (one_or_absent a_binding) (many_and_rest a_parameter a_pattern_rest) (one a_function_body) (λ us. stands_at Anything (seen (shape.Function false false ds) [] n (all_shown us)) ≡ true)
    (λ t u v bt bu bv et eu ev kt ku kv. and_three (is_printable (a_perhaps Binding) (shown t)) (is_printable (a_list Parameter Zero) (shown u)) (is_printable (a_part Body) (with_directives ds (shown v)))
    (bt.seat inside binding_or_none false refl et kt) (bu.seat inside parameters false refl eu ku) (bv.body inside ds c.1 ev kv))
    ts b e c.2

-- an arrow with an expression has no directives
arrow_value : (n : ℕ) (p u : Tree) → is_printable (a_list Parameter Zero) p ≡ true → is_printable (a_part Anything) u ≡ true → stands_at Anything (node (shape.ArrowFunctionExpression []) [] n (p ▸ (with_directives [] u ▸ none))) ≡ true
arrow_value n p (node shape.FunctionBody [] m us) e f = absurd (false≢true f)
arrow_value n p (node shape.FunctionBody (x ∷ xs) m us) e f = absurd (false≢true f)
arrow_value n p (node h xs m us) e f = and_two (is_printable (a_list Parameter Zero) p) (is_printable (a_part Anything) (node h xs m us)) e f

no_directives : (ds : List (List ℕ)) → (nat_eq (length ds) 0 || false) ≡ true → ds ≡ []
no_directives [] e = refl
no_directives (d ∷ ds) e = absurd (ends (eqb-true (suc (length ds)) 0 (either_false (nat_eq (suc (length ds)) 0) e)))
  where
    either_false : (a : Bool) → (a || false) ≡ true → a ≡ true
    either_false true f = refl
    either_false false f = absurd (false≢true f)

    ends : suc (length ds) ≡ 0 → ⊥
    ends f = omega (arith, f)

arrow_body : (inside : Bool) (ds : List (List ℕ)) (n : ℕ) (p t : Tree) → Served t → are_directives ds ≡ true → is_printable (a_list Parameter Zero) (shown p) ≡ true → fits inside (one an_arrow_body) t ≡ true → is_clean false t ≡ true → (nat_eq (length ds) 0 || accept.is_function_body t) ≡ true → stands_at Anything (node (shape.ArrowFunctionExpression []) [] n (shown p ▸ (with_directives ds (shown t) ▸ none))) ≡ true
arrow_body inside ds n p (node shape.FunctionBody xs m (u ▸ none)) b d q e k v = and_two (is_printable (a_list Parameter Zero) (shown p)) (is_printable (a_part Body) (with_directives ds (shown (node shape.FunctionBody xs m (u ▸ none))))) q (b.body inside ds d e k)
arrow_body inside ds n p (node shape.FunctionBody xs m none) b d q e k v = absurd (never (is_whole an_arrow_body shape.FunctionBody xs m none) e)
arrow_body inside ds n p (node shape.FunctionBody xs m (u ▸ (w ▸ us))) b d q e k v = absurd (false≢true (and_r (fits inside (many (accept.a_statement accept.in_body)) u) false (and_r (is_whole an_arrow_body shape.FunctionBody xs m (u ▸ (w ▸ us))) (fits inside (many (accept.a_statement accept.in_body)) u && false) e)))
arrow_body inside ds n p (node h xs m us) b d q e k v = subst (λ fs. stands_at Anything (node (shape.ArrowFunctionExpression []) [] n (shown p ▸ (with_directives fs (shown (node h xs m us)) ▸ none))) ≡ true) (sym (no_directives ds v)) (arrow_value n (shown p) (shown (node h xs m us)) q (b.seat inside value false refl e k))

-- ---- a `-` stands over no positive number

pub positive_seen : (strict : Bool) (h : Shape) (xs : List Name) (n : ℕ) (ts : Trees) → fits strict (one an_expression) (node h xs n ts) ≡ true → accept.is_not_positive_number (node h xs n ts) ≡ true → is_positive_literal (shown (node h xs n ts)) ≡ false
positive_seen strict shape.InnerExpression xs n ts e v = absurd (never (is_whole an_expression shape.InnerExpression xs n ts) e)
positive_seen strict shape.ImportDeclaration xs n ts e v = absurd (never (is_whole an_expression shape.ImportDeclaration xs n ts) e)
positive_seen strict shape.ExportSpecifier xs n ts e v = absurd (never (is_whole an_expression shape.ExportSpecifier xs n ts) e)
positive_seen strict (shape.MethodDefinition k c s) xs n ts e v = absurd (never (is_whole an_expression (shape.MethodDefinition k c s) xs n ts) e)
positive_seen strict (shape.PropertyDefinition c s) xs n ts e v = absurd (never (is_whole an_expression (shape.PropertyDefinition c s) xs n ts) e)
positive_seen strict shape.ChainExpression xs n none e v = refl
positive_seen strict shape.ChainExpression xs n (t ▸ none) e v = refl
positive_seen strict shape.ChainExpression xs n (t ▸ (u ▸ ts)) e v = refl
positive_seen strict shape.TemplateLiteral xs n ts e v = template xs n (all_shown ts)
  where
    template : (xs : List Name) (n : ℕ) (us : Trees) → is_positive_literal (seen shape.TemplateLiteral xs n us) ≡ false
    template xs n (node shape.Listed [] k qs ▸ (node shape.Listed [] j es ▸ none)) = refl
    template xs n us = refl
positive_seen strict (shape.Function d g ds) xs n none e v = refl
positive_seen strict (shape.Function d g ds) xs n (i ▸ none) e v = refl
positive_seen strict (shape.Function d g ds) xs n (i ▸ (p ▸ none)) e v = refl
positive_seen strict (shape.Function d g ds) xs n (i ▸ (p ▸ (t ▸ none))) e v = refl
positive_seen strict (shape.Function d g ds) xs n (i ▸ (p ▸ (t ▸ (u ▸ ts)))) e v = refl
positive_seen strict (shape.ArrowFunctionExpression ds) xs n none e v = refl
positive_seen strict (shape.ArrowFunctionExpression ds) xs n (p ▸ none) e v = refl
positive_seen strict (shape.ArrowFunctionExpression ds) xs n (p ▸ (t ▸ none)) e v = refl
positive_seen strict (shape.ArrowFunctionExpression ds) xs n (p ▸ (t ▸ (u ▸ ts))) e v = refl
positive_seen strict (shape.NumericLiteral (pos (suc m))) xs n ts e v = absurd (false≢true v)
positive_seen strict h xs n ts e v = refl

-- ---- parts that choose the production

yields : (n : ℕ) (u : Tree) → is_printable (a_perhaps Anything) u ≡ true → stands_at Anything (node (shape.YieldExpression false) [] n (u ▸ none)) ≡ true
yields n u e = either (perhaps_cases Anything u e)
    (λ a. subst (λ c. (is_wanted Anything (Some (yield_of c)) && printed.fill (Some (wants (form (yield_of c)))) (u ▸ none)) ≡ true) (sym a.0) (and_one (is_printable (a_silent Nothing) u) a.1))
    (λ a. subst (λ c. (is_wanted Anything (Some (yield_of c)) && printed.fill (Some (wants (form (yield_of c)))) (u ▸ none)) ≡ true) (sym a.0) (and_one (is_printable (a_part Anything) u) (part_of Anything u a.1)))

assigns : (n : ℕ) (u v : Tree) → Assigned u → is_printable (a_part Anything) v ≡ true → stands_at Anything (node (shape.AssignmentExpression assignment.Assign) [] n (u ▸ (v ▸ none))) ≡ true
assigns n (node h xs m us) v (inl a) e = subst (λ c. (is_wanted Anything (Some (assignment_of assignment.Assign c)) && printed.fill (Some (wants (form (assignment_of assignment.Assign c)))) (node h xs m us ▸ (v ▸ none))) ≡ true) (sym a.0) (and_two (is_printable (a_part TargetPattern) (node h xs m us)) (is_printable (a_part Anything) v) a.3 e)
assigns n (node h xs m us) v (inr a) e = subst (λ c. (is_wanted Anything (Some (assignment_of assignment.Assign c)) && printed.fill (Some (wants (form (assignment_of assignment.Assign c)))) (node h xs m us ▸ (v ▸ none))) ≡ true) (sym a.0) (and_two (is_printable (a_part Anything) (node h xs m us)) (is_printable (a_part Anything) v) a.3 e)

-- a class that is an expression
class_stands : (inside l : Bool) (n : ℕ) (t u v w : Tree) → fits inside (one_or_absent a_binding) t ≡ true → is_clean l t ≡ true → is_printable (a_perhaps Anything) (shown u) ≡ true → is_printable (a_part ClassBraces) (shown v) ≡ true → is_printable (a_silent Nothing) (shown w) ≡ true → stands_at Anything (node (shape.Class false) [] n (shown t ▸ (shown u ▸ (shown v ▸ (shown w ▸ none))))) ≡ true
class_stands inside l n t u v w e k eu ev ew =
    maybe_bound (λ i. stands_at Anything (node (shape.Class false) [] n (shown i ▸ (shown u ▸ (shown v ▸ (shown w ▸ none))))) ≡ true)
    (λ m. and_three (is_printable (a_perhaps Anything) (shown u)) (is_printable (a_part ClassBraces) (shown v)) (is_printable (a_silent Nothing) (shown w)) eu ev ew)
    (λ x m f. both (not (is_reserved x.spelling) && ((not (is_reserved x.spelling) && true) || (not (is_reserved x.spelling) && true))) (same_text x.spelling x.spelling && (is_printable (a_perhaps Anything) (shown u) && (is_printable (a_part ClassBraces) (shown v) && (is_printable (a_silent Nothing) (shown w) && true)))) (wanted_name (is_reserved x.spelling) f)
    (both (same_text x.spelling x.spelling) (is_printable (a_perhaps Anything) (shown u) && (is_printable (a_part ClassBraces) (shown v) && (is_printable (a_silent Nothing) (shown w) && true))) (same_self x.spelling) (and_three (is_printable (a_perhaps Anything) (shown u)) (is_printable (a_part ClassBraces) (shown v)) (is_printable (a_silent Nothing) (shown w)) eu ev ew)))
    inside l t e k

private_in : (inside : Bool) (n : ℕ) (t u : Tree) → fits inside (one a_private_name) t ≡ true → is_printable (a_part Anything) (shown u) ≡ true → stands_at Anything (node shape.PrivateInExpression [] n (shown t ▸ (shown u ▸ none))) ≡ true
private_in inside n (node (shape.PrivateIdentifier s) [] m none) u e f = and_two (same_text s s) (is_printable (a_part Anything) (shown u)) (same_self s) f
private_in inside n (node (shape.PrivateIdentifier s) (x ∷ xs) m ts) u e f = absurd (false≢true e)
private_in inside n (node (shape.PrivateIdentifier s) [] m (t ▸ ts)) u e f = absurd (never (is_whole a_private_name (shape.PrivateIdentifier s) [] m (t ▸ ts)) e)
private_in inside n (node h xs m ts) u e f = absurd (never (is_whole a_private_name h xs m ts) e)

-- ---- a chain

chain_stands : (inside : Bool) (n : ℕ) (ts : Trees) → Below ts → accept.fill inside (these (one a_chain ∷ [])) ts ≡ true → are_clean false ts ≡ true → accept.has_its_parts an_expression shape.ChainExpression ts ≡ true → stands_at Anything (seen shape.ChainExpression [] n (all_shown ts)) ≡ true
chain_stands inside n ts b e k v =
    over_one inside false (one a_chain) (λ us. accept.has_its_parts an_expression shape.ChainExpression us ≡ true → stands_at Anything (seen shape.ChainExpression [] n (all_shown us)) ≡ true)
    (λ t bt et kt w. on t (shown t) w (bt.link inside a_chain_here et kt)) ts b e k v
  where
    on : (t u : Tree) → accept.has_optional t ≡ true → Linked t u → stands_at Anything (node shape.ChainExpression [] n (linked u none)) ≡ true
    on t u w (inl a) = a.1 none refl
    on t u w (inr a) = absurd (false≢true (sym a.1 ∙ w))

-- ---- the table

pub value_row : Row an_expression Anything
value_row strict inside l shape.ThisExpression [] n ts b e k v = leaf inside ts e
value_row strict inside l (shape.NumericLiteral (pos m)) [] n ts b e k v = leaf inside ts e
value_row strict inside l (shape.NumericLiteral (negsuc m)) [] n ts b e k v = leaf inside ts e
value_row strict inside l (shape.StringLiteral s) [] n ts b e k v = leaf inside ts e
value_row strict inside l (shape.BooleanLiteral true) [] n ts b e k v = leaf inside ts e
value_row strict inside l (shape.BooleanLiteral false) [] n ts b e k v = leaf inside ts e
value_row strict inside l shape.NullLiteral [] n ts b e k v = leaf inside ts e
value_row strict inside l (shape.RegExpLiteral p f) [] n ts b e k v = leaf inside ts e
value_row strict inside l (shape.BigIntLiteral m) [] n ts b e k v = leaf inside ts e
value_row strict inside l shape.Identifier (x ∷ []) n ts b e k v =
    let c = clean_node l shape.Identifier (x ∷ []) n ts refl k in
    both (not (is_reserved x.spelling) && ((not (is_reserved x.spelling) && true) || (not (is_reserved x.spelling) && true))) (printed.fill (Some []) (all_shown ts)) (wanted_name (is_reserved x.spelling) c.0) (leaf inside ts (and_r (accept.is_name x.spelling) (accept.fill inside (these []) ts) e))
value_row strict inside l shape.ArrayExpression [] n ts b e k v = parts ts b inside (elements ∷ []) false refl e k
value_row strict inside l shape.ObjectExpression [] n ts b e k v = parts ts b inside (properties ∷ []) false refl e k
value_row strict inside l (shape.Function false g ds) [] n ts b e k v = function_stands strict inside l g ds n ts b e k
value_row strict inside l (shape.ArrowFunctionExpression ds) [] n ts b e k v =
    let c = clean_node l (shape.ArrowFunctionExpression ds) [] n ts refl k in
    over_two inside false (many_and_rest a_parameter a_pattern_rest) (one an_arrow_body) (λ us. accept.has_its_parts an_expression (shape.ArrowFunctionExpression ds) us ≡ true → stands_at Anything (seen (shape.ArrowFunctionExpression ds) [] n (all_shown us)) ≡ true)
    (λ p t bp bt ep et kp kt w. arrow_body inside ds n p t bt c.1 (bp.seat inside parameters false refl ep kp) et kt w)
    ts b e c.2 v
value_row strict inside l (shape.Class false) [] n ts b e k v =
    over_four inside false (one_or_absent a_binding) (one_or_absent (an_inner an_expression)) (one a_class_body) (one_or_absent a_binding) (λ us. accept.has_its_parts an_expression (shape.Class false) us ≡ true → stands_at Anything (node (shape.Class false) [] n (all_shown us)) ≡ true)
    (λ t u c w bt bu bc bw et eu ec ew kt ku kc kw z. class_stands inside false n t u c w et kt (bu.seat inside inner_or_none false refl eu ku) (bc.seat inside class_body false refl ec kc) (absent_shown Binding w z (bw.seat inside binding_or_none false refl ew kw)))
    ts b e k v
value_row strict inside l (shape.UnaryExpression unary.UnaryNegation) [] n ts b e k v =
    over_one inside false (one an_expression) (λ us. accept.has_its_parts an_expression (shape.UnaryExpression unary.UnaryNegation) us ≡ true → stands_at Anything (node (shape.UnaryExpression unary.UnaryNegation) [] n (all_shown us)) ≡ true)
    (λ t bt et kt z. negation n t bt et kt z)
    ts b e k v
  where
    negation : (n : ℕ) (t : Tree) → Served t → fits inside (one an_expression) t ≡ true → is_clean false t ≡ true → accept.is_not_positive_number t ≡ true → stands_at Anything (node (shape.UnaryExpression unary.UnaryNegation) [] n (shown t ▸ none)) ≡ true
    negation n (node h xs m us) b e k v = both (not (is_positive_literal (shown (node h xs m us)))) (is_printable (a_part Anything) (shown (node h xs m us)) && true) (ap not (positive_seen inside h xs m us e v)) (and_one (is_printable (a_part Anything) (shown (node h xs m us))) (b.seat inside value false refl e k))
value_row strict inside l (shape.UnaryExpression o) [] n ts b e k v = parts ts b inside (value ∷ []) false refl e k
value_row strict inside l (shape.UpdateExpression o true) [] n ts b e k v = parts ts b inside (simple_target ∷ []) false refl e k
value_row strict inside l (shape.UpdateExpression o false) [] n ts b e k v = parts ts b inside (simple_target ∷ []) false refl e k
value_row strict inside l (shape.BinaryExpression o) [] n ts b e k v = parts ts b inside (value ∷ value ∷ []) false refl e k
value_row strict inside l shape.PrivateInExpression [] n ts b e k v =
    over_two inside false (one a_private_name) (one (an_inner an_expression)) (λ us. stands_at Anything (node shape.PrivateInExpression [] n (all_shown us)) ≡ true)
    (λ t u bt bu et eu kt ku. private_in inside n t u et (bu.seat inside inner false refl eu ku))
    ts b e k
value_row strict inside l (shape.LogicalExpression o) [] n ts b e k v = parts ts b inside (value ∷ value ∷ []) false refl e k
value_row strict inside l (shape.AssignmentExpression assignment.Assign) [] n ts b e k v =
    over_two inside false (one a_target) (one an_expression) (λ us. stands_at Anything (node (shape.AssignmentExpression assignment.Assign) [] n (all_shown us)) ≡ true)
    (λ t u bt bu et eu kt ku. assigns n (shown t) (shown u) (bt.target inside any_target et kt) (bu.seat inside value false refl eu ku))
    ts b e k
value_row strict inside l (shape.AssignmentExpression o) [] n ts b e k v = parts ts b inside (simple_target ∷ value ∷ []) false refl e k
value_row strict inside l shape.ConditionalExpression [] n ts b e k v = parts ts b inside (value ∷ value ∷ value ∷ []) false refl e k
value_row strict inside l shape.SequenceExpression [] n ts b e k v = longer Two Anything (all_shown ts) refl (parts ts b inside (values ∷ []) false refl e k) (two_shown inside an_expression ts e v)
value_row strict inside l (shape.CallExpression false) [] n ts b e k v = parts ts b inside (value ∷ arguments ∷ []) false refl e k
value_row strict inside l shape.SuperCallExpression [] n ts b e k v = parts ts b inside (super_here ∷ inner_arguments ∷ []) false refl e k
value_row strict inside l shape.NewExpression [] n ts b e k v = parts ts b inside (value ∷ arguments ∷ []) false refl e k
value_row strict inside l (shape.StaticMemberExpression false) [] n ts b e k v =
    over_two inside false (one an_expression) (one a_label) (λ us. stands_at Anything (node (shape.StaticMemberExpression false) [] n (all_shown us)) ≡ true)
    (λ t u bt bu et eu kt ku. both (not (has_private (shown t ▸ (shown u ▸ none)))) (is_printable (want_at value) (shown t) && (is_printable (want_at name) (shown u) && true)) (ap not (label_private inside u (shown t) none eu)) (and_two (is_printable (want_at value) (shown t)) (is_printable (want_at name) (shown u)) (bt.seat inside value false refl et kt) (bu.seat inside name false refl eu ku)))
    ts b e k
value_row strict inside l (shape.ComputedMemberExpression false) [] n ts b e k v = parts ts b inside (value ∷ value ∷ []) false refl e k
value_row strict inside l (shape.PrivateFieldExpression false) [] n ts b e k v =
    over_two inside false (one (an_inner an_expression)) (one a_private_name) (λ us. stands_at Anything (node (shape.PrivateFieldExpression false) [] n (all_shown us)) ≡ true)
    (λ t u bt bu et eu kt ku. both (has_private (shown t ▸ (shown u ▸ none))) (is_printable (want_at inner) (shown t) && (is_printable (want_at private_name) (shown u) && true)) (private_private inside u (shown t) none eu) (and_two (is_printable (want_at inner) (shown t)) (is_printable (want_at private_name) (shown u)) (bt.seat inside inner false refl et kt) (bu.seat inside private_name false refl eu ku)))
    ts b e k
value_row strict inside l shape.SuperStaticMemberExpression [] n ts b e k v = parts ts b inside (super_here ∷ name ∷ []) false refl e k
value_row strict inside l shape.SuperComputedMemberExpression [] n ts b e k v = parts ts b inside (super_here ∷ inner ∷ []) false refl e k
value_row strict inside l (shape.YieldExpression true) [] n ts b e k v = parts ts b inside (value ∷ []) false refl e k
value_row strict inside l (shape.YieldExpression false) [] n ts b e k v =
    over_one inside false (one_or_absent an_expression) (λ us. stands_at Anything (node (shape.YieldExpression false) [] n (all_shown us)) ≡ true) (λ t bt et kt. yields n (shown t) (bt.seat inside value_or_none false refl et kt)) ts b e k
value_row strict inside l (shape.MetaProperty meta.NewTarget) [] n ts b e k v = parts ts b inside (word (codes "new") ∷ word (codes "target") ∷ []) false refl e k
value_row strict inside l (shape.MetaProperty meta.ImportMeta) [] n ts b e k v = parts ts b inside (word (codes "import") ∷ word (codes "meta") ∷ []) false refl e k
value_row strict inside l shape.ImportExpression [] n ts b e k v = parts ts b inside (inner ∷ []) false refl e k
value_row strict inside l shape.ChainExpression [] n ts b e k v = chain_stands inside n ts b e k v
value_row strict inside l shape.TemplateLiteral [] n ts b e k v =
    let d = clean_node l shape.TemplateLiteral [] n ts refl k in
    over_two inside false (quasis untagged) (many an_expression) (λ us. accept.has_its_parts an_expression shape.TemplateLiteral us ≡ true → stands_at Anything (seen shape.TemplateLiteral [] n (all_shown us)) ≡ true)
    (λ q t bq bt eq et kq kt w. template_at false inside n untagged an_expression q t (bt.seat inside values false refl et kt) eq et w) ts b e d.2 v
value_row strict inside l shape.TaggedTemplateExpression [] n ts b e k v = parts ts b inside (inner ∷ tag_template ∷ []) false refl e k
value_row strict inside l h xs n ts b e k v = absurd (never (has_names h xs) e)
