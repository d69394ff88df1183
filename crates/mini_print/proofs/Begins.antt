-- The machine begins the production that the next tokens are of.
use Rattle.std.specs.Prelude.{ℕ, ◌≡◌, refl, ◌≤◌, Bool, true, false, not, List, [], ◌∷◌, codes, Some, None, if◌then◌else◌, ◌||◌}
use Rattle.std.proofs.Common.{◌∙◌, ap, sym, subst, arith}
use Rattle.std.proofs.lemmas.Bool.{false≢true}
use Rattle.mini_model.specs.declared.kind.VariableDeclarationKind.TheVariants.{Var, Let, Const}
use Rattle.mini_model.specs.declared.operator.AssignmentOperator.TheVariants.{Assign}
use Rattle.mini_model.specs.Weight.{same_text}
use Rattle.mini_model.specs.declared.operator.UnaryOperator.TheVariants as unary
use Rattle.mini_model.specs.declared.operator.UpdateOperator.TheVariants.{Increment, Decrement}
use Rattle.mini_model.specs.Tree.{Tree, Trees}
use Rattle.mini_print.specs.Token.{Token, Word, Punct, Comma, Semicolon, RightParen, RightBracket, RightBrace, Arrow as ArrowToken, LeftBrace, Times, Dot, Colon, LeftParen, Quoted, Number, OptionalDot, LeftBracket, Private, Assigns, Ellipsis, TemplateMiddle, TemplateTail}
use Rattle.mini_print.specs.Grammar.{Goal, Anything, WithoutIn, Callee, Body, Element, ArrowBlock, FunctionBody, NoBrace, permits, is_left_brace, Sort, Values, Statements, Properties, Bodies, sort, heir, Place, Rule, Parenthesized, Arrow, Prefix, Unary, Variables, Zero, One, Two, Gaps, Equals, Part, token, left, part, commas, lookahead, form, level, is_of, excluded, NewTarget, Yield, YieldFrom, GeneratorExpression, GeneratorDeclaration, CatchParam, CatchBare, Catches, is_allowed, same_sort, rule_sort, New, FunctionExpression, FunctionDeclaration, CatchParam, perhaps, option, statements, unwritten, BoundKeyValue, BoundShorthand, Shorthand, BoundProperties, KeyValue, has, ends_property, is_colon_next, ForIn, ForOf, ForDeclared, ForDeclaredIn, ForDeclaredOf, HeadVariables, fork, For, is_word_of, MethodProperty, Getter, Setter, GeneratorProperty, MethodFunction, GeneratorMethod, Methods, GeneratorMethods, Key, KeyWord, KeyText, KeyNumber, KeyName, Chain, FirstMember, FirstCall, LinkCall, OptionalMember, Link, FirstLinks, Links, Defaulted, BoundDefault, ComputedMethod, ComputedGenerator, BoundElements, Computed, Rest, ClassPlain, ClassMethod, ClassComputedMethod, ClassGenerator, ClassComputedGenerator, ClassGetter, ClassComputedGetter, ClassSetter, ClassComputedSetter, Field, ComputedField, StaticElement, StaticInit, PrivateKey, ClassKey, ClassElements, ArrayTarget, ObjectTarget, PatternItem, ValueItem, PatternRest, ValueRest, TargetShorthand, TargetDefault, TargetKeyValue, PatternAssignment, TargetPattern, Target, TargetElements, TargetProperties, Object, Array, YieldBare, ends_yield, Declarations, DefaultDeclarations, ImportItems, ExportItems, ForwardItems, ImportDefault, ImportDefaultNames, ImportDefaultNamespace, ImportShort, ImportAs, ExportNames, ExportFrom, ExportDeclared, ExportValue, ExportDefault, ExportShort, ForwardName, ForwardText, ForwardAs, DeclaredVariables, DeclaredFunction, DefaultFunction, DefaultClass, ForPatternIn, ForPatternOf, semicolon, inserts, ArrowName, ArrowNameBlock, Reference, is_reserved, NewBare}
use Rattle.mini_print.specs.Groups.{Groups, by_rule, Row, end, a_token, a_left, a_part, a_list, a_lookahead, present, missing, with, without, a_silent, a_semicolon, inserted}
use Rattle.mini_print.specs.Printed.{is_statements}
use Rattle.mini_print.proofs.Reader.{start_at, arrow_rule, is_brace_next, prefix, power, next_power, ends, is_left_paren, is_arrow_next, tail, bars, is_star_next, is_dot_next, is_paren_next, statement_at, property_at, bound_at, end_words, is_word_next, accessor, first_link, optional_link, link_at, is_equals_next, is_bracket_next, computed_accessor, is_name_end, class_rule, keyed_member, worded_member, member_at, rest_element, element_at, target_property_at, keyword_at, name_or_arrow}
use Rattle.mini_print.proofs.Told.{is_values, inner, ToldBy, Told, told, ToldByTwo, is_special, ToldUnless, is_forked, both, untrue}
use Rattle.mini_print.proofs.Tidy.{Tidy, TidyBehind, Starting, is_name_next, is_key_next, opens_next}
use Rattle.mini_print.proofs.Table.{is_no_value}
use Rattle.mini_print.proofs.Powers.{first_open, target_open, neutral, neutral_items}
use Rattle.mini_print.proofs.Placed.{same_sort_is as of_sort}
use Rattle.mini_print.proofs.Heads.{list_row, for_begins, declared_for_begins, pattern_in_begins, pattern_of_begins}
use Rattle.mini_print.proofs.Modules.{not_star, token_row, import_default_begins, import_default_names_begins, import_default_namespace_begins, export_names_begins, export_from_begins, export_declared_begins, export_value_begins, export_default_begins, declared_function_begins, default_function_begins, default_class_begins, import_short_begins, import_as_begins, export_short_begins, forward_name_begins, forward_text_begins, forward_as_begins}

-- ---- what begins a production

abbrev pub is_led : List Part → Bool
is_led (left w n b ∷ ps) = true
is_led (commas None Two ∷ []) = true
is_led _ = false

abbrev pub begins_with_paren : List Part → Bool
begins_with_paren (token x ∷ ps) = is_left_paren x
begins_with_paren _ = false

pub told_by : (b : Bool) (s : Sort) (h : Rule) (x : Token) → b ≡ false → ToldBy b s h x → (ts : List Token) → prefix s (x ∷ ts) ≡ Some h
told_by true s h x e t ts = absurd (false≢true (sym e))
told_by false s h x e t ts = t ts

pub told_by_two : (b : Bool) (s : Sort) (h : Rule) (x y : Token) → b ≡ false → ToldByTwo b s h x y → (ts : List Token) → prefix s (x ∷ y ∷ ts) ≡ Some h
told_by_two true s h x y e t ts = absurd (false≢true (sym e))
told_by_two false s h x y e t ts = t ts

pub tells : {g : Goal} {ps : List Part} {ks : Trees} {ts r : List Token} → Row g ps ks ts r → (s : Sort) (h : Rule) → Told s h ps → is_led ps ≡ false → begins_with_paren ps ≡ false → prefix s ts ≡ Some h
tells (a_token g x _ ks _ r (a_token _ y ps _ ts _ d)) s h t l p = told_by_two (is_left_paren x) s h x y p t ts
tells (a_token g x [] ks ts r d) s h t l p = told_by (is_left_paren x) s h x p t ts
tells (a_token g x (left w n b ∷ ps) ks ts r d) s h t l p = told_by (is_left_paren x) s h x p t ts
tells (a_token g x (part o n b ∷ ps) ks ts r d) s h t l p = told_by (is_left_paren x) s h x p t ts
tells (a_token g x (commas o n ∷ ps) ks ts r d) s h t l p = told_by (is_left_paren x) s h x p t ts
tells (a_token g x (lookahead c ∷ ps) ks ts r d) s h t l p = told_by (is_left_paren x) s h x p t ts
tells (a_token g x (perhaps i ∷ ps) ks ts r d) s h t l p = told_by (is_left_paren x) s h x p t ts
tells (a_token g x (option w o n ∷ ps) ks ts r d) s h t l p = told_by (is_left_paren x) s h x p t ts
tells (a_token g x (statements i ∷ ps) ks ts r d) s h t l p = told_by (is_left_paren x) s h x p t ts
tells (a_token g x (unwritten v ∷ ps) ks ts r d) s h t l p = told_by (is_left_paren x) s h x p t ts
tells (a_token g x (fork ∷ ps) ks ts r d) s h t l p = told_by (is_left_paren x) s h x p t ts
tells (a_token g x (semicolon ∷ ps) ks ts r d) s h t l p = told_by (is_left_paren x) s h x p t ts
tells (a_left g w n m' ps k ks ts m r c e) s h t l p = absurd (false≢true (sym l))
tells (a_part g (Some i) n m' ps k ks ts m r c e) s h t l p = t ts
tells (a_lookahead g c ps ks ts r p' d) s h t l p = t ts p'
tells (a_list g None Two [] is ks ts m r c e) s h t l p = absurd (false≢true (sym l))
tells _ s h t l p = absurd t

pub is_no_statement : (g : Goal) → is_values (sort g) ≡ true → is_statements (sort g) ≡ false
is_no_statement g e = by (sort g) e
  where
    by : (s : Sort) → is_values s ≡ true → is_statements s ≡ false
    by Values e = refl
    by _ e = absurd (false≢true e)

pub value_prefix : (g : Goal) (ts : List Token) → is_values (sort g) ≡ true → prefix (sort g) ts ≡ start_at ts
value_prefix Anything ts e = refl
value_prefix WithoutIn ts e = refl
value_prefix Callee ts e = refl
value_prefix Target ts e = refl
value_prefix Element ts e = refl
value_prefix _ ts e = absurd (false≢true e)

pub no_arrow : (g : Goal) (r : List Token) → is_values (sort g) ≡ true → next_power g r ≤ 19 → is_arrow_next r ≡ false
no_arrow g [] e q = refl
no_arrow Anything (Punct ArrowToken ∷ r) e q = absurd (omega (arith, q))
no_arrow WithoutIn (Punct ArrowToken ∷ r) e q = absurd (omega (arith, q))
no_arrow Callee (Punct ArrowToken ∷ r) e q = absurd (omega (arith, q))
no_arrow Target (Punct ArrowToken ∷ r) e q = absurd (omega (arith, q))
no_arrow Element (Punct ArrowToken ∷ r) e q = absurd (omega (arith, q))
no_arrow Anything (x ∷ r) e q = refl
no_arrow WithoutIn (x ∷ r) e q = refl
no_arrow Callee (x ∷ r) e q = refl
no_arrow Target (x ∷ r) e q = refl
no_arrow Element (x ∷ r) e q = refl
no_arrow _ (x ∷ r) e q = absurd (false≢true e)

pub parenthesized_begins : {g : Goal} {ks : Trees} {ts r : List Token} → Row g (form Parenthesized) ks ts r → is_values (sort g) ≡ true → next_power g r ≤ 19 → prefix (sort g) ts ≡ Some Parenthesized
parenthesized_begins (a_token g x ps ks ts r (a_part _ _ _ _ _ k _ _ m _ c (a_token _ y _ _ _ _ (end _ _)))) e q =
    value_prefix g (x ∷ ts) e ∙ ap (λ y. if is_arrow_next y then Some (arrow_rule y) else Some Parenthesized) (neutral c 0) ∙ ap (λ b. if b then Some (arrow_rule r) else Some Parenthesized) (no_arrow g r e q)

pub unbraced_next : (ts : List Token) → permits NoBrace ts ≡ true → is_brace_next ts ≡ false
unbraced_next [] e = refl
unbraced_next (x ∷ ts) e = untrue (is_left_brace x) e

pub arrow_begins : {g : Goal} {ks : Trees} {ts r : List Token} → Row g (form Arrow) ks ts r → is_values (sort g) ≡ true → prefix (sort g) ts ≡ Some Arrow
arrow_begins (a_token g x ps ks ts r (a_list _ _ _ _ is _ _ m _ c (a_token _ y _ _ _ _ (a_token _ z _ _ us _ (a_lookahead _ _ _ _ _ _ f d))))) e =
    value_prefix g (x ∷ ts) e ∙ ap (λ y. if is_arrow_next y then Some (arrow_rule y) else Some Parenthesized) (neutral_items c 0) ∙ ap (λ b. Some (if b then ArrowBlock else Arrow)) (unbraced_next us f)

pub is_body : Rule → Bool
is_body FunctionBody = true
is_body _ = false

pub no_other_body : (h : Rule) → is_body h ≡ false → is_of Bodies h ≡ true → ⊥
unfolding is_body
no_other_body FunctionBody e f = false≢true (sym e)
no_other_body _ e f = false≢true f

pub body_brace : {p : Place} {t : Tree} {ts r : List Token} → p.goal ≡ Body → Groups p t ts r → is_brace_next ts ≡ true
unfolding is_body
body_brace q (by_rule p FunctionBody ks ts r f (a_token _ _ _ _ _ _ d)) = refl
body_brace q (by_rule p h ks ts r f d) = absurd (no_other_body h refl (subst (λ g. is_of (sort g) h ≡ true) q (both (is_of (sort p.goal) h) (not (excluded p.goal h)) f.0).0))

pub arrow_block_begins : {g : Goal} {ks : Trees} {ts r : List Token} → Row g (form ArrowBlock) ks ts r → is_values (sort g) ≡ true → prefix (sort g) ts ≡ Some ArrowBlock
arrow_block_begins (a_token g x ps ks ts r (a_list _ _ _ _ is _ _ m _ c (a_token _ y _ _ _ _ (a_token _ z _ _ us _ (a_part _ _ _ _ _ _ _ _ _ _ f d))))) e =
    value_prefix g (x ∷ ts) e ∙ ap (λ y. if is_arrow_next y then Some (arrow_rule y) else Some Parenthesized) (neutral_items c 0) ∙ ap (λ b. Some (if b then ArrowBlock else Arrow)) (body_brace refl f)

pub no_paren : (h : Rule) → is_special h ≡ false → begins_with_paren (form h) ≡ false
no_paren Parenthesized e = absurd (false≢true (sym e))
no_paren Arrow e = absurd (false≢true (sym e))
no_paren ArrowBlock e = absurd (false≢true (sym e))
no_paren CatchParam e = absurd (false≢true (sym e))
no_paren FirstCall e = absurd (false≢true (sym e))
no_paren LinkCall e = absurd (false≢true (sym e))
no_paren (Prefix Increment) e = refl
no_paren (Prefix Decrement) e = refl
no_paren (Unary unary.UnaryPlus) e = refl
no_paren (Unary unary.UnaryNegation) e = refl
no_paren (Unary unary.LogicalNot) e = refl
no_paren (Unary unary.BitwiseNot) e = refl
no_paren (Unary unary.Typeof) e = refl
no_paren (Unary unary.Void) e = refl
no_paren (Unary unary.Delete) e = refl
no_paren (Variables Var) e = refl
no_paren (DeclaredVariables Var) e = refl
no_paren (DeclaredVariables Let) e = refl
no_paren (DeclaredVariables Const) e = refl
no_paren (HeadVariables Var) e = refl
no_paren (HeadVariables Let) e = refl
no_paren (HeadVariables Const) e = refl
no_paren (Variables Let) e = refl
no_paren (Variables Const) e = refl
no_paren _ e = refl

-- a goal that has a production is of its sort
pub sorted : (s : Sort) (h : Rule) → is_of s h ≡ true → same_sort s (rule_sort h) ≡ true
sorted s h e = (both (same_sort s (rule_sort h)) (is_allowed h) e).0

pub allowed : (s : Sort) (h : Rule) → is_of s h ≡ true → is_allowed h ≡ true
allowed s h e = (both (same_sort s (rule_sort h)) (is_allowed h) e).1

pub of_values : (s : Sort) → same_sort s Values ≡ true → is_values s ≡ true
of_values Values e = refl
of_values _ e = absurd (false≢true e)

pub not_dot : (ts : List Token) → bars ts ≡ false → is_dot_next ts ≡ false
not_dot [] e = refl
not_dot (Punct Dot ∷ ts) e = absurd (false≢true (sym e))
not_dot (x ∷ ts) e = refl

pub value_bars : (g : Goal) (ts : List Token) → is_values (sort g) ≡ true → Starting (sort g) ts → bars ts ≡ false
value_bars g ts e f = by (sort g) e f
  where
    by : (s : Sort) → is_values s ≡ true → Starting s ts → bars ts ≡ false
    by Values e f = f
    by _ e f = absurd (false≢true e)

pub heir_values : (g : Goal) → is_values (sort g) ≡ true → is_values (sort (heir g)) ≡ true
heir_values Anything e = refl
heir_values WithoutIn e = refl
heir_values Callee e = refl
heir_values Target e = refl
heir_values Element e = refl
heir_values _ e = absurd (false≢true e)

-- a name, and an arrow function of one
named : (s : List ℕ) (ts : List Token) → not (is_reserved s) ≡ true → start_at (Word s ∷ ts) ≡ Some (name_or_arrow s ts)
named s ts e = ap (λ b. if b then keyword_at s ts else Some (name_or_arrow s ts)) (untrue (is_reserved s) e)

pub reference_begins : (s : List ℕ) {g : Goal} {ks : Trees} {ts r : List Token} → Row g (form (Reference s)) ks ts r → is_values (sort g) ≡ true → not (is_reserved s) ≡ true → next_power g r ≤ 19 → prefix (sort g) ts ≡ Some (Reference s)
reference_begins s (a_token g x _ _ _ _ (end _ r)) v e q =
    value_prefix g (x ∷ r) v ∙ named s r e ∙ ap (λ b. Some (if b then (if is_brace_next (tail r) then ArrowNameBlock s else ArrowName s) else Reference s)) (no_arrow g r v q)

pub arrow_name_begins : (s : List ℕ) {g : Goal} {ks : Trees} {ts r : List Token} → Row g (form (ArrowName s)) ks ts r → is_values (sort g) ≡ true → not (is_reserved s) ≡ true → prefix (sort g) ts ≡ Some (ArrowName s)
arrow_name_begins s (a_token g x _ _ _ _ (a_token _ y _ _ us _ (a_silent _ _ _ _ _ _ (a_lookahead _ _ _ _ _ _ f d)))) v e =
    value_prefix g (x ∷ y ∷ us) v ∙ named s (y ∷ us) e ∙ ap (λ b. Some (if b then ArrowNameBlock s else ArrowName s)) (unbraced_next us f)

pub arrow_name_block_begins : (s : List ℕ) {g : Goal} {ks : Trees} {ts r : List Token} → Row g (form (ArrowNameBlock s)) ks ts r → is_values (sort g) ≡ true → not (is_reserved s) ≡ true → prefix (sort g) ts ≡ Some (ArrowNameBlock s)
arrow_name_block_begins s (a_token g x _ _ _ _ (a_token _ y _ _ us _ (a_silent _ _ _ _ _ _ (a_part _ _ _ _ _ _ _ _ _ _ c d)))) v e =
    value_prefix g (x ∷ y ∷ us) v ∙ named s (y ∷ us) e ∙ ap (λ b. Some (if b then ArrowNameBlock s else ArrowName s)) (body_brace refl c)

pub new_starts : (g : Goal) (us : List Token) → is_values (sort g) ≡ true → bars us ≡ false → prefix (sort g) (Word (codes "new") ∷ us) ≡ Some New
new_starts g us v b = value_prefix g (Word (codes "new") ∷ us) v ∙ ap (λ b. Some (if b then NewTarget else New)) (not_dot us b)

pub new_begins : {g : Goal} {ks : Trees} {ts r : List Token} → Row g (form New) ks ts r → is_values (sort g) ≡ true → prefix (sort g) ts ≡ Some New
new_begins (a_token g x ps ks _ r (a_part _ _ _ _ _ k _ ts _ _ c d)) v = new_starts g ts v (first_open c)

pub yield_goes_on : (ts : List Token) → bars ts ≡ false → ends_yield ts ≡ false
yield_goes_on [] e = absurd (false≢true (sym e))
yield_goes_on (Punct RightParen ∷ ts) e = absurd (false≢true (sym e))
yield_goes_on (Punct RightBracket ∷ ts) e = absurd (false≢true (sym e))
yield_goes_on (Punct RightBrace ∷ ts) e = absurd (false≢true (sym e))
yield_goes_on (Punct Comma ∷ ts) e = absurd (false≢true (sym e))
yield_goes_on (Punct Semicolon ∷ ts) e = absurd (false≢true (sym e))
yield_goes_on (Punct Colon ∷ ts) e = absurd (false≢true (sym e))
yield_goes_on (TemplateMiddle s ∷ ts) e = absurd (false≢true (sym e))
yield_goes_on (TemplateTail s ∷ ts) e = absurd (false≢true (sym e))
yield_goes_on (Word s ∷ ts) e = by (is_word_of end_words s) (same_text s (codes "var")) (same_text s (codes "let")) (same_text s (codes "const")) (same_text s (codes "in")) e
  where
    by : (a b c d f : Bool) → (a || (b || (c || (d || (f || false))))) ≡ false → f ≡ false
    by false false false false false e = refl
    by true b c d f e = absurd (false≢true (sym e))
    by false true c d f e = absurd (false≢true (sym e))
    by false false true d f e = absurd (false≢true (sym e))
    by false false false true f e = absurd (false≢true (sym e))
    by false false false false true e = absurd (false≢true (sym e))
yield_goes_on (x ∷ ts) e = refl

pub yield_no_star : (ts : List Token) → ends_yield ts ≡ true → is_star_next ts ≡ false
yield_no_star [] e = refl
yield_no_star (Punct Times ∷ ts) e = absurd (false≢true e)
yield_no_star (x ∷ ts) e = refl

pub yield_begins : {g : Goal} {ks : Trees} {ts r : List Token} → Row g (form Yield) ks ts r → is_values (sort g) ≡ true → prefix (sort g) ts ≡ Some Yield
yield_begins (a_token g x ps ks _ r (a_part _ _ _ _ _ k _ ts _ _ c d)) v =
    let f = value_bars (heir g) ts (heir_values g v) (first_open c) in
    value_prefix g (x ∷ ts) v ∙ ap (λ b. Some (if b then YieldFrom else (if ends_yield ts then YieldBare else Yield))) (not_star ts f) ∙ ap (λ b. Some (if b then YieldBare else Yield)) (yield_goes_on ts f)

pub yield_bare_begins : {g : Goal} {ks : Trees} {ts r : List Token} → Row g (form YieldBare) ks ts r → is_values (sort g) ≡ true → prefix (sort g) ts ≡ Some YieldBare
yield_bare_begins (a_token g x _ _ _ _ (a_silent _ _ _ _ ts _ (a_lookahead _ _ _ _ _ _ p d))) v =
    value_prefix g (x ∷ ts) v ∙ ap (λ b. Some (if b then YieldFrom else (if ends_yield ts then YieldBare else Yield))) (yield_no_star ts p) ∙ ap (λ b. Some (if b then YieldBare else Yield)) p

pub function_begins : {g : Goal} {ks : Trees} {ts r : List Token} → Row g (form FunctionExpression) ks ts r → is_values (sort g) ≡ true → prefix (sort g) ts ≡ Some FunctionExpression
function_begins (a_token g x ps ks _ r (present _ _ _ k _ ts _ _ c d)) v = value_prefix g (x ∷ ts) v ∙ ap (λ b. Some (if b then GeneratorExpression else FunctionExpression)) (not_star ts (first_open c).0)
function_begins (a_token g x ps ks _ r (missing _ _ _ _ _ _ (a_token _ y _ _ ts _ d))) v = value_prefix g (x ∷ y ∷ ts) v

pub declared_begins : {g : Goal} {ks : Trees} {ts r : List Token} → Row g (form FunctionDeclaration) ks ts r → statement_at ts ≡ Some FunctionDeclaration
declared_begins (a_token g x ps ks _ r (a_part _ _ _ _ _ k _ ts _ _ c d)) = ap (λ b. Some (if b then GeneratorDeclaration else FunctionDeclaration)) (not_star ts (first_open c).0)

pub brace_no_paren : (ts : List Token) → is_brace_next ts ≡ true → is_paren_next ts ≡ false
brace_no_paren [] e = refl
brace_no_paren (Punct LeftBrace ∷ ts) e = refl
brace_no_paren (x ∷ ts) e = absurd (false≢true e)

pub bare_catch_begins : {g : Goal} {ks : Trees} {ts r : List Token} → Row g (form CatchBare) ks ts r → prefix Catches ts ≡ Some CatchBare
bare_catch_begins (a_silent _ _ _ _ _ _ (a_part _ _ _ _ _ k _ ts _ _ c d)) = ap (λ b. Some (if b then CatchParam else CatchBare)) (brace_no_paren ts (first_open c))

pub catch_begins : {g : Goal} {ks : Trees} {ts r : List Token} → Row g (form CatchParam) ks ts r → prefix Catches ts ≡ Some CatchParam
catch_begins (a_token g x ps ks ts r d) = refl

-- a key and the colon behind it tell a property with a value
abbrev pub is_name_rule : Rule → Bool
is_name_rule (KeyWord s) = true
is_name_rule (KeyText s) = true
is_name_rule (KeyNumber n) = true
is_name_rule _ = false

pub no_other_name : (h : Rule) → is_name_rule h ≡ false → has KeyName h ≡ true → ⊥
no_other_name (KeyWord s) e f = false≢true (sym e)
no_other_name (KeyText s) e f = false≢true (sym e)
no_other_name (KeyNumber n) e f = false≢true (sym e)
no_other_name _ e f = false≢true f

pub key_then_colon : {p : Place} {k : Tree} {ts r : List Token} → p.goal ≡ KeyName → Groups p k ts r → is_colon_next r ≡ true → (property_at ts ≡ Some KeyValue) × (bound_at ts ≡ Some BoundKeyValue)
key_then_colon q (by_rule p (KeyWord s) ks _ _ f (a_token _ _ _ _ _ _ (end _ r))) e = (ap (λ b. Some (if b then KeyValue else (if is_paren_next r then MethodProperty else (if is_word_next r then accessor s else (if is_bracket_next r then computed_accessor s else Shorthand s))))) e, ap (λ b. Some (if b then BoundKeyValue else (if is_equals_next r then BoundDefault s else BoundShorthand s))) e)
key_then_colon q (by_rule p (KeyText s) ks _ _ f (a_token _ _ _ _ _ _ (end _ r))) e = (ap (λ b. Some (if b then KeyValue else MethodProperty)) e, refl)
key_then_colon q (by_rule p (KeyNumber s) ks _ _ f (a_token _ _ _ _ _ _ (end _ r))) e = (ap (λ b. Some (if b then KeyValue else MethodProperty)) e, refl)
key_then_colon q (by_rule p h ks ts r f d) e = absurd (no_other_name h refl (subst (λ g. has g h ≡ true) q f.0))

pub key_begins : {g : Goal} {ks : Trees} {ts r : List Token} → Row g (form KeyValue) ks ts r → property_at ts ≡ Some KeyValue
key_begins (a_lookahead _ _ _ _ _ _ p (a_part _ _ _ _ _ k _ _ _ _ c (a_token _ _ _ _ _ _ d))) = (key_then_colon refl c refl).0

pub bound_key_begins : {g : Goal} {ks : Trees} {ts r : List Token} → Row g (form BoundKeyValue) ks ts r → bound_at ts ≡ Some BoundKeyValue
bound_key_begins (a_lookahead _ _ _ _ _ _ p (a_part _ _ _ _ _ k _ _ _ _ c (a_token _ _ _ _ _ _ d))) = (key_then_colon refl c refl).1

pub no_colon : (ts : List Token) → ends_property ts ≡ true → is_colon_next ts ≡ false
no_colon [] e = refl
no_colon (Punct Colon ∷ ts) e = absurd (false≢true e)
no_colon (x ∷ ts) e = refl

pub no_paren_or_word : (ts : List Token) → ends_property ts ≡ true → (is_paren_next ts ≡ false) × (is_word_next ts ≡ false) × (is_bracket_next ts ≡ false) × (is_equals_next ts ≡ false)
no_paren_or_word [] e = (refl, refl, refl, refl)
no_paren_or_word (Punct Comma ∷ ts) e = (refl, refl, refl, refl)
no_paren_or_word (Punct RightBrace ∷ ts) e = (refl, refl, refl, refl)
no_paren_or_word (Punct RightParen ∷ ts) e = (refl, refl, refl, refl)
no_paren_or_word (Punct RightBracket ∷ ts) e = (refl, refl, refl, refl)
no_paren_or_word (x ∷ ts) e = absurd (false≢true e)

pub paren_no_colon : (ts : List Token) → is_paren_next ts ≡ true → is_colon_next ts ≡ false
paren_no_colon [] e = refl
paren_no_colon (Punct LeftParen ∷ ts) e = refl
paren_no_colon (x ∷ ts) e = absurd (false≢true e)

pub key_then_paren : {p : Place} {k : Tree} {ts r : List Token} → p.goal ≡ KeyName → Groups p k ts r → is_paren_next r ≡ true → property_at ts ≡ Some MethodProperty
key_then_paren q (by_rule p (KeyWord s) ks _ _ f (a_token _ _ _ _ _ _ (end _ r))) e = ap (λ b. Some (if b then KeyValue else (if is_paren_next r then MethodProperty else (if is_word_next r then accessor s else (if is_bracket_next r then computed_accessor s else Shorthand s))))) (paren_no_colon r e) ∙ ap (λ b. Some (if b then MethodProperty else (if is_word_next r then accessor s else (if is_bracket_next r then computed_accessor s else Shorthand s)))) e
key_then_paren q (by_rule p (KeyText s) ks _ _ f (a_token _ _ _ _ _ _ (end _ r))) e = ap (λ b. Some (if b then KeyValue else MethodProperty)) (paren_no_colon r e)
key_then_paren q (by_rule p (KeyNumber s) ks _ _ f (a_token _ _ _ _ _ _ (end _ r))) e = ap (λ b. Some (if b then KeyValue else MethodProperty)) (paren_no_colon r e)
key_then_paren q (by_rule p h ks ts r f d) e = absurd (no_other_name h refl (subst (λ g. has g h ≡ true) q f.0))

pub method_begins : {g : Goal} {ks : Trees} {ts r : List Token} → Row g (form MethodProperty) ks ts r → property_at ts ≡ Some MethodProperty
method_begins (a_lookahead _ _ _ _ _ _ p (a_part _ _ _ _ _ k _ _ _ _ c (a_part _ _ _ _ _ _ _ _ _ _ v d))) = key_then_paren refl c (first_open v)

pub word_accesses : (s : List ℕ) (ts : List Token) → permits Key ts ≡ true → property_at (Word s ∷ ts) ≡ Some (accessor s)
word_accesses s [] e = absurd (false≢true e)
word_accesses s (Word n ∷ ts) e = refl
word_accesses s (Quoted n ∷ ts) e = refl
word_accesses s (Number n ∷ ts) e = refl
word_accesses s (x ∷ ts) e = absurd (false≢true e)

pub getter_begins : {g : Goal} {ks : Trees} {ts r : List Token} → Row g (form Getter) ks ts r → property_at ts ≡ Some Getter
getter_begins (a_token _ _ _ _ _ _ (a_lookahead _ _ _ _ ts _ p d)) = word_accesses (codes "get") ts p

pub setter_begins : {g : Goal} {ks : Trees} {ts r : List Token} → Row g (form Setter) ks ts r → property_at ts ≡ Some Setter
setter_begins (a_token _ _ _ _ _ _ (a_lookahead _ _ _ _ ts _ p d)) = word_accesses (codes "set") ts p

pub key_no_bracket : (ts : List Token) → permits Key ts ≡ true → is_bracket_next ts ≡ false
key_no_bracket [] e = refl
key_no_bracket (Punct LeftBracket ∷ ts) e = absurd (false≢true e)
key_no_bracket (x ∷ ts) e = refl

pub star_begins : {g : Goal} {ks : Trees} {ts r : List Token} → Row g (form GeneratorProperty) ks ts r → property_at ts ≡ Some GeneratorProperty
star_begins (a_token _ _ _ _ _ _ (a_lookahead _ _ _ _ ts _ p d)) = ap (λ b. Some (if b then ComputedGenerator else GeneratorProperty)) (key_no_bracket ts p)

pub computed_begins : {g : Goal} {ks : Trees} {ts r : List Token} → Row g (form Computed) ks ts r → property_at ts ≡ Some Computed
computed_begins (a_token _ _ _ _ _ _ (a_part _ _ _ _ _ k _ _ _ _ c (a_token _ _ _ _ _ _ (a_token _ _ _ _ _ _ d)))) = ap (λ y. Some (if is_paren_next y then ComputedMethod else Computed)) (neutral c 0)

pub computed_method_begins : {g : Goal} {ks : Trees} {ts r : List Token} → Row g (form ComputedMethod) ks ts r → property_at ts ≡ Some ComputedMethod
computed_method_begins (a_token _ _ _ _ _ _ (a_part _ _ _ _ _ k _ _ _ _ c (a_token _ _ _ _ _ _ (a_part _ _ _ _ _ _ _ _ _ _ v d)))) =
    ap (λ y. Some (if is_paren_next y then ComputedMethod else Computed)) (neutral c 0) ∙ ap (λ b. Some (if b then ComputedMethod else Computed)) (first_open v)

pub shorthand_begins : (s : List ℕ) {g : Goal} {ks : Trees} {ts r : List Token} → Row g (form (Shorthand s)) ks ts r → property_at ts ≡ Some (Shorthand s)
shorthand_begins s (a_token _ _ _ _ _ _ (a_silent _ _ _ _ _ _ (a_silent _ _ _ _ ts _ (a_lookahead _ _ _ _ _ _ p d)))) =
    let f = no_paren_or_word ts p in
    ap (λ b. Some (if b then KeyValue else (if is_paren_next ts then MethodProperty else (if is_word_next ts then accessor s else (if is_bracket_next ts then computed_accessor s else Shorthand s))))) (no_colon ts p) ∙
    ap (λ b. Some (if b then MethodProperty else (if is_word_next ts then accessor s else (if is_bracket_next ts then computed_accessor s else Shorthand s)))) f.0 ∙
    ap (λ b. Some (if b then accessor s else (if is_bracket_next ts then computed_accessor s else Shorthand s))) f.1 ∙ ap (λ b. Some (if b then computed_accessor s else Shorthand s)) f.2

pub bound_shorthand_begins : (s : List ℕ) {g : Goal} {ks : Trees} {ts r : List Token} → Row g (form (BoundShorthand s)) ks ts r → bound_at ts ≡ Some (BoundShorthand s)
bound_shorthand_begins s (a_token _ _ _ _ _ _ (a_silent _ _ _ _ _ _ (a_silent _ _ _ _ ts _ (a_lookahead _ _ _ _ _ _ p d)))) =
    ap (λ b. Some (if b then BoundKeyValue else (if is_equals_next ts then BoundDefault s else BoundShorthand s))) (no_colon ts p) ∙ ap (λ b. Some (if b then BoundDefault s else BoundShorthand s)) (no_paren_or_word ts p).3

pub equals_tells : (s : List ℕ) (ts : List Token) → is_equals_next ts ≡ true → bound_at (Word s ∷ ts) ≡ Some (BoundDefault s)
equals_tells s [] e = absurd (false≢true e)
equals_tells s (Punct (Assigns Assign) ∷ ts) e = refl
equals_tells s (x ∷ ts) e = absurd (false≢true e)

pub bound_default_begins : (s : List ℕ) {g : Goal} {ks : Trees} {ts r : List Token} → Row g (form (BoundDefault s)) ks ts r → bound_at ts ≡ Some (BoundDefault s)
bound_default_begins s (a_token _ _ _ _ _ _ (a_silent _ _ _ _ _ _ (a_part _ _ _ _ _ _ _ ts _ _ c d))) = equals_tells s ts (first_open c)

pub defaulted_begins : {g : Goal} {ks : Trees} {ts r : List Token} → Row g (form Defaulted) ks ts r → prefix BoundElements ts ≡ Some Defaulted
defaulted_begins (a_part _ _ _ _ _ _ _ ts _ _ c d) = ap (λ b. Some (if b then Rest else Defaulted)) (first_open c).2

-- the links of a chain
pub named_link : (ts : List Token) → is_name_next ts ≡ true → (first_link ts ≡ FirstMember) × (optional_link ts ≡ OptionalMember)
named_link [] e = absurd (false≢true e)
named_link (Word s ∷ ts) e = (refl, refl)
named_link (Private s ∷ ts) e = (refl, refl)
named_link (x ∷ ts) e = absurd (false≢true e)

pub first_member_begins : {g : Goal} {ks : Trees} {ts r : List Token} → Row g (form FirstMember) ks ts r → prefix FirstLinks ts ≡ Some FirstMember
first_member_begins (a_silent _ _ _ _ _ _ (a_part _ _ _ _ _ k _ ts _ _ c d)) = ap Some (named_link ts (first_open c)).0

pub optional_member_begins : {g : Goal} {ks : Trees} {ts r : List Token} → Row g (form OptionalMember) ks ts r → link_at ts ≡ Some OptionalMember
optional_member_begins (a_token _ _ _ _ _ _ (a_silent _ _ _ _ _ _ (a_part _ _ _ _ _ k _ ts _ _ c d))) = ap Some (named_link ts (first_open c)).1

pub first_call_begins : {g : Goal} {ks : Trees} {ts r : List Token} → Row g (form FirstCall) ks ts r → prefix FirstLinks ts ≡ Some FirstCall
first_call_begins (a_token _ _ _ _ _ _ d) = refl

pub link_call_begins : {g : Goal} {ks : Trees} {ts r : List Token} → Row g (form LinkCall) ks ts r → link_at ts ≡ Some LinkCall
link_call_begins (a_token _ _ _ _ _ _ d) = refl

-- behind a chain stands no link
pub ends_by : (g : Goal) → 18 ≤ power g (Punct Dot) → 18 ≤ power g (Punct OptionalDot) → 18 ≤ power g (Punct LeftBracket) → 18 ≤ power g (Punct LeftParen) → (r : List Token) → next_power g r ≤ 17 → ends Link r ≡ true
ends_by g a b c d [] q = refl
ends_by g a b c d (Punct Dot ∷ r) q = absurd (omega (arith, a, q))
ends_by g a b c d (Punct OptionalDot ∷ r) q = absurd (omega (arith, b, q))
ends_by g a b c d (Punct LeftBracket ∷ r) q = absurd (omega (arith, c, q))
ends_by g a b c d (Punct LeftParen ∷ r) q = absurd (omega (arith, d, q))
ends_by g a b c d (x ∷ r) q = refl

pub chain_ends : (g : Goal) (r : List Token) → has g Chain ≡ true → next_power g r ≤ 17 → ends Link r ≡ true
chain_ends Anything r e q = ends_by Anything (omega arith) (omega arith) (omega arith) (omega arith) r q
chain_ends WithoutIn r e q = ends_by WithoutIn (omega arith) (omega arith) (omega arith) (omega arith) r q
chain_ends Element r e q = ends_by Element (omega arith) (omega arith) (omega arith) (omega arith) r q
chain_ends _ r e q = absurd (false≢true e)

-- classes and their members
pub brace_class : (ts : List Token) → is_brace_next ts ≡ true → class_rule ts ≡ ClassPlain
brace_class [] e = absurd (false≢true e)
brace_class (Punct LeftBrace ∷ ts) e = refl
brace_class (x ∷ ts) e = absurd (false≢true e)

pub class_begins : {g : Goal} {ks : Trees} {ts r : List Token} → Row g (form ClassPlain) ks ts r → is_values (sort g) ≡ true → prefix (sort g) ts ≡ Some ClassPlain
class_begins (a_token g x _ _ _ _ (a_silent _ _ _ _ _ _ (with _ _ _ _ _ _ _ ts _ _ c d))) v = value_prefix g _ v
class_begins (a_token g x _ _ _ _ (a_silent _ _ _ _ _ _ (without _ _ _ _ _ _ ts _ f (a_part _ _ _ _ _ _ _ _ _ _ c d)))) v = value_prefix g (x ∷ ts) v ∙ ap (λ h. Some h) (brace_class ts (first_open c))

pub paren_ends : (ts : List Token) → is_paren_next ts ≡ true → is_name_end ts ≡ true
paren_ends [] e = absurd (false≢true e)
paren_ends (Punct LeftParen ∷ ts) e = refl
paren_ends (x ∷ ts) e = absurd (false≢true e)

pub key_case : (h : Rule) → {g : Goal} {ks : Trees} {ts r : List Token} → Row g (form h) ks ts r → has ClassKey h ≡ true → is_name_end r ≡ true → member_at ts ≡ Some (keyed_member r)
key_case (KeyWord s) {r} d f e = ap member_at (token_row d) ∙ ap (λ b. Some (if b then keyed_member r else worded_member s r)) e
key_case (KeyText s) d f e = ap member_at (token_row d)
key_case (KeyNumber s) d f e = ap member_at (token_row d)
key_case (PrivateKey s) d f e = ap member_at (token_row d)
key_case _ d f e = absurd (false≢true f)

pub key_then_end : {p : Place} {k : Tree} {ts r : List Token} → p.goal ≡ ClassKey → Groups p k ts r → is_name_end r ≡ true → member_at ts ≡ Some (keyed_member r)
key_then_end q (by_rule p h ks ts r f d) e = key_case h d (subst (λ g. has g h ≡ true) q f.0) e

pub key_is_no_end : (ts : List Token) → is_key_next ts ≡ true → (is_name_end ts ≡ false) × (is_bracket_next ts ≡ false)
key_is_no_end [] e = absurd (false≢true e)
key_is_no_end (Word s ∷ ts) e = (refl, refl)
key_is_no_end (Quoted s ∷ ts) e = (refl, refl)
key_is_no_end (Number n ∷ ts) e = (refl, refl)
key_is_no_end (Private s ∷ ts) e = (refl, refl)
key_is_no_end (x ∷ ts) e = absurd (false≢true e)

-- what stands behind the name of a field
inserted_end : (ts : List Token) → inserts ts ≡ true → (is_name_end ts ≡ true) × (is_paren_next ts ≡ false)
inserted_end [] e = (refl, refl)
inserted_end (Punct RightBrace ∷ ts) e = (refl, refl)
inserted_end (x ∷ ts) e = absurd (false≢true e)

pub field_end : {g : Goal} {ks : Trees} {ts r : List Token} → Row g (option Equals (Some Anything) 1 ∷ semicolon ∷ []) ks ts r → (is_name_end ts ≡ true) × (is_paren_next ts ≡ false)
field_end (with _ _ _ _ _ _ _ _ _ _ c d) = (refl, refl)
field_end (without _ _ _ _ _ _ _ _ f (a_semicolon _ _ _ _ _ d)) = (refl, refl)
field_end (without _ _ _ _ _ _ _ _ f (inserted _ _ _ ts _ i d)) = inserted_end ts i

pub class_method_begins : {g : Goal} {ks : Trees} {ts r : List Token} → Row g (form ClassMethod) ks ts r → member_at ts ≡ Some ClassMethod
class_method_begins (a_part _ _ _ _ _ k _ _ m _ c (a_part _ _ _ _ _ _ _ _ _ _ v d)) = key_then_end refl c (paren_ends m (first_open v)) ∙ ap (λ b. Some (if b then ClassMethod else Field)) (first_open v)

pub field_begins : {g : Goal} {ks : Trees} {ts r : List Token} → Row g (form Field) ks ts r → member_at ts ≡ Some Field
field_begins (a_part _ _ _ _ _ k _ _ m _ c d) = let f = field_end d in key_then_end refl c f.0 ∙ ap (λ b. Some (if b then ClassMethod else Field)) f.1

pub class_computed_begins : {g : Goal} {ks : Trees} {ts r : List Token} → Row g (form ClassComputedMethod) ks ts r → member_at ts ≡ Some ClassComputedMethod
class_computed_begins (a_token _ _ _ _ _ _ (a_part _ _ _ _ _ k _ _ _ _ c (a_token _ _ _ _ _ _ (a_part _ _ _ _ _ _ _ _ _ _ v d)))) =
    ap (λ y. Some (if is_paren_next y then ClassComputedMethod else ComputedField)) (neutral c 0) ∙ ap (λ b. Some (if b then ClassComputedMethod else ComputedField)) (first_open v)

pub computed_field_begins : {g : Goal} {ks : Trees} {ts r : List Token} → Row g (form ComputedField) ks ts r → member_at ts ≡ Some ComputedField
computed_field_begins (a_token _ _ _ _ _ _ (a_part _ _ _ _ _ k _ _ _ _ c (a_token _ _ _ _ _ _ d))) =
    ap (λ y. Some (if is_paren_next y then ClassComputedMethod else ComputedField)) (neutral c 0) ∙ ap (λ b. Some (if b then ClassComputedMethod else ComputedField)) (field_end d).1

pub class_generator_begins : {g : Goal} {ks : Trees} {ts r : List Token} → Row g (form ClassGenerator) ks ts r → member_at ts ≡ Some ClassGenerator
class_generator_begins (a_token _ _ _ _ _ _ (a_part _ _ _ _ _ k _ ts _ _ c d)) = ap (λ b. Some (if b then ClassComputedGenerator else ClassGenerator)) (key_is_no_end ts (first_open c)).1

pub class_getter_begins : {g : Goal} {ks : Trees} {ts r : List Token} → Row g (form ClassGetter) ks ts r → member_at ts ≡ Some ClassGetter
class_getter_begins (a_token _ _ _ _ _ _ (a_part _ _ _ _ _ k _ ts _ _ c d)) =
    let f = key_is_no_end ts (first_open c) in
    ap (λ b. Some (if b then keyed_member ts else worded_member (codes "get") ts)) f.0 ∙ ap (λ b. Some (if b then ClassComputedGetter else ClassGetter)) f.1

pub class_setter_begins : {g : Goal} {ks : Trees} {ts r : List Token} → Row g (form ClassSetter) ks ts r → member_at ts ≡ Some ClassSetter
class_setter_begins (a_token _ _ _ _ _ _ (a_part _ _ _ _ _ k _ ts _ _ c d)) =
    let f = key_is_no_end ts (first_open c) in
    ap (λ b. Some (if b then keyed_member ts else worded_member (codes "set") ts)) f.0 ∙ ap (λ b. Some (if b then ClassComputedSetter else ClassSetter)) f.1

pub static_begins : {g : Goal} {ks : Trees} {ts r : List Token} → Row g (form StaticElement) ks ts r → member_at ts ≡ Some StaticElement
static_begins (a_token _ _ _ _ _ _ (a_part _ _ _ _ _ k _ ts _ _ c d)) =
    let f = first_open c in
    ap (λ b. Some (if b then keyed_member ts else worded_member (codes "static") ts)) f.1 ∙ ap (λ b. Some (if b then StaticInit else StaticElement)) f.2

-- arrays and objects, and the patterns that are assigned to
pub no_assignment : (g : Goal) (r : List Token) → is_values (sort g) ≡ true → excluded g Array ≡ false → next_power g r ≤ 18 → is_equals_next r ≡ false
no_assignment g [] e x q = refl
no_assignment Anything (Punct (Assigns Assign) ∷ r) e x q = absurd (omega (arith, q))
no_assignment WithoutIn (Punct (Assigns Assign) ∷ r) e x q = absurd (omega (arith, q))
no_assignment Callee (Punct (Assigns Assign) ∷ r) e x q = absurd (omega (arith, q))
no_assignment Element (Punct (Assigns Assign) ∷ r) e x q = absurd (omega (arith, q))
no_assignment Target r e x q = absurd (false≢true (sym x))
no_assignment Anything (y ∷ r) e x q = refl
no_assignment WithoutIn (y ∷ r) e x q = refl
no_assignment Callee (y ∷ r) e x q = refl
no_assignment Element (y ∷ r) e x q = refl
no_assignment _ (y ∷ r) e x q = absurd (false≢true e)

pub array_begins : {g : Goal} {ks : Trees} {ts r : List Token} → Row g (form Array) ks ts r → is_values (sort g) ≡ true → excluded g Array ≡ false → next_power g r ≤ 18 → prefix (sort g) ts ≡ Some Array
array_begins {g} (a_token _ y _ _ ts _ (a_list _ _ _ _ is _ _ m _ c (a_token _ z _ _ _ _ (end _ r)))) v x q =
    value_prefix g (y ∷ ts) v ∙ ap (λ y. if is_equals_next y then Some PatternAssignment else Some Array) (neutral_items c 0) ∙ ap (λ b. if b then Some PatternAssignment else Some Array) (no_assignment g r v x q)

pub same_exclusion : (g : Goal) → excluded g Object ≡ false → excluded g Array ≡ false
same_exclusion Target e = e
same_exclusion _ e = refl

pub object_begins : {g : Goal} {ks : Trees} {ts r : List Token} → Row g (form Object) ks ts r → is_values (sort g) ≡ true → excluded g Object ≡ false → next_power g r ≤ 18 → prefix (sort g) ts ≡ Some Object
object_begins {g} (a_token _ y _ _ ts _ (a_list _ _ _ _ is _ _ m _ c (a_token _ z _ _ _ _ (end _ r)))) v x q =
    value_prefix g (y ∷ ts) v ∙ ap (λ y. if is_equals_next y then Some PatternAssignment else Some Object) (neutral_items c 0) ∙ ap (λ b. if b then Some PatternAssignment else Some Object) (no_assignment g r v (same_exclusion g x) q)

pub pattern_case : (h : Rule) → {g : Goal} {ks : Trees} {ts r : List Token} → Row g (form h) ks ts r → has TargetPattern h ≡ true → is_equals_next r ≡ true → start_at ts ≡ Some PatternAssignment
pattern_case ArrayTarget d f e = let w = list_row d in ap start_at w.1 ∙ ap (λ y. if is_equals_next y then Some PatternAssignment else Some Array) (w.2 0) ∙ ap (λ b. if b then Some PatternAssignment else Some Array) e
pattern_case ObjectTarget d f e = let w = list_row d in ap start_at w.1 ∙ ap (λ y. if is_equals_next y then Some PatternAssignment else Some Object) (w.2 0) ∙ ap (λ b. if b then Some PatternAssignment else Some Object) e
pattern_case _ d f e = absurd (false≢true f)

pub pattern_starts : {p : Place} {k : Tree} {ts r : List Token} → p.goal ≡ TargetPattern → Groups p k ts r → is_equals_next r ≡ true → start_at ts ≡ Some PatternAssignment
pattern_starts q (by_rule p h ks ts r f d) e = pattern_case h d (subst (λ g. has g h ≡ true) q f.0) e

pub pattern_assignment_begins : {g : Goal} {ks : Trees} {ts r : List Token} → Row g (form PatternAssignment) ks ts r → is_values (sort g) ≡ true → prefix (sort g) ts ≡ Some PatternAssignment
pattern_assignment_begins {g} {ks} {ts} (a_part _ _ _ _ _ k _ _ _ _ c (a_token _ _ _ _ _ _ d)) v = value_prefix g ts v ∙ pattern_starts refl c refl

pub bracket_element : (ts : List Token) → opens_next ts ≡ true → (element_at ts ≡ PatternItem) × (rest_element ts ≡ PatternRest)
bracket_element [] e = absurd (false≢true e)
bracket_element (Punct LeftBracket ∷ ts) e = (refl, refl)
bracket_element (Punct LeftBrace ∷ ts) e = (refl, refl)
bracket_element (x ∷ ts) e = absurd (false≢true e)

pub value_element : (ts : List Token) → is_no_value ts ≡ false → (element_at ts ≡ ValueItem) × (rest_element ts ≡ ValueRest)
value_element [] e = (refl, refl)
value_element (Punct LeftBracket ∷ ts) e = absurd (false≢true (sym e))
value_element (Punct LeftBrace ∷ ts) e = absurd (false≢true (sym e))
value_element (Punct Ellipsis ∷ ts) e = absurd (false≢true (sym e))
value_element (x ∷ ts) e = (refl, refl)

pub pattern_item_begins : {g : Goal} {ks : Trees} {ts r : List Token} → Row g (form PatternItem) ks ts r → prefix TargetElements ts ≡ Some PatternItem
pattern_item_begins (a_part _ _ _ _ _ _ _ ts _ _ c d) = ap (λ h. Some h) (bracket_element ts (first_open c)).0

pub value_item_begins : {g : Goal} {ks : Trees} {ts r : List Token} → Row g (form ValueItem) ks ts r → prefix TargetElements ts ≡ Some ValueItem
value_item_begins (a_part _ _ _ _ _ _ _ ts _ _ c d) = ap (λ h. Some h) (value_element ts (target_open c refl)).0

pub pattern_rest_begins : {g : Goal} {ks : Trees} {ts r : List Token} → Row g (form PatternRest) ks ts r → prefix TargetElements ts ≡ Some PatternRest
pattern_rest_begins (a_token _ _ _ _ _ _ (a_part _ _ _ _ _ _ _ ts _ _ c d)) = ap (λ h. Some h) (bracket_element ts (first_open c)).1

pub value_rest_begins : {g : Goal} {ks : Trees} {ts r : List Token} → Row g (form ValueRest) ks ts r → prefix TargetElements ts ≡ Some ValueRest
value_rest_begins (a_token _ _ _ _ _ _ (a_part _ _ _ _ _ _ _ ts _ _ c d)) = ap (λ h. Some h) (value_element ts (target_open c refl)).1

pub target_key_case : (h : Rule) → {g : Goal} {ks : Trees} {ts r : List Token} → Row g (form h) ks ts r → has KeyName h ≡ true → is_colon_next r ≡ true → target_property_at ts ≡ Some TargetKeyValue
target_key_case (KeyWord s) {r} d f e = ap target_property_at (token_row d) ∙ ap (λ b. Some (if b then TargetKeyValue else (if is_equals_next r then TargetDefault s else TargetShorthand s))) e
target_key_case (KeyText s) d f e = ap target_property_at (token_row d)
target_key_case (KeyNumber s) d f e = ap target_property_at (token_row d)
target_key_case _ d f e = absurd (false≢true f)

pub target_key : {p : Place} {k : Tree} {ts r : List Token} → p.goal ≡ KeyName → Groups p k ts r → is_colon_next r ≡ true → target_property_at ts ≡ Some TargetKeyValue
target_key q (by_rule p h ks ts r f d) e = target_key_case h d (subst (λ g. has g h ≡ true) q f.0) e

pub target_key_begins : {g : Goal} {ks : Trees} {ts r : List Token} → Row g (form TargetKeyValue) ks ts r → target_property_at ts ≡ Some TargetKeyValue
target_key_begins (a_lookahead _ _ _ _ _ _ p (a_part _ _ _ _ _ k _ _ _ _ c (a_token _ _ _ _ _ _ d))) = target_key refl c refl

pub target_shorthand_begins : (s : List ℕ) {g : Goal} {ks : Trees} {ts r : List Token} → Row g (form (TargetShorthand s)) ks ts r → target_property_at ts ≡ Some (TargetShorthand s)
target_shorthand_begins s (a_token _ _ _ _ _ _ (a_silent _ _ _ _ _ _ (a_silent _ _ _ _ ts _ (a_lookahead _ _ _ _ _ _ p d)))) =
    ap (λ b. Some (if b then TargetKeyValue else (if is_equals_next ts then TargetDefault s else TargetShorthand s))) (no_colon ts p) ∙ ap (λ b. Some (if b then TargetDefault s else TargetShorthand s)) (no_paren_or_word ts p).3

pub target_equals : (s : List ℕ) (ts : List Token) → is_equals_next ts ≡ true → target_property_at (Word s ∷ ts) ≡ Some (TargetDefault s)
target_equals s [] e = absurd (false≢true e)
target_equals s (Punct (Assigns Assign) ∷ ts) e = refl
target_equals s (x ∷ ts) e = absurd (false≢true e)

pub target_default_begins : (s : List ℕ) {g : Goal} {ks : Trees} {ts r : List Token} → Row g (form (TargetDefault s)) ks ts r → target_property_at ts ≡ Some (TargetDefault s)
target_default_begins s (a_token _ _ _ _ _ _ (a_silent _ _ _ _ _ _ (a_part _ _ _ _ _ _ _ ts _ _ c d))) = target_equals s ts (first_open c)

pub specially : (h : Rule) → is_special h ≡ true → is_forked h ≡ false → {g : Goal} {ks : Trees} {ts r : List Token} → Row g (form h) ks ts r → is_of (sort g) h ≡ true → next_power g r ≤ inner (level h) → excluded g h ≡ false → prefix (sort g) ts ≡ Some h
specially Parenthesized e f {g} d v q X = parenthesized_begins d (of_values (sort g) (sorted (sort g) Parenthesized v)) (omega (arith, q))
specially Arrow e f {g} d v q X = arrow_begins d (of_values (sort g) (sorted (sort g) Arrow v))
specially ArrowBlock e f {g} d v q X = arrow_block_begins d (of_values (sort g) (sorted (sort g) ArrowBlock v))
specially (Reference s) e f {g} d v q X = reference_begins s d (of_values (sort g) (sorted (sort g) (Reference s) v)) (allowed (sort g) (Reference s) v) (omega (arith, q))
specially (ArrowName s) e f {g} d v q X = arrow_name_begins s d (of_values (sort g) (sorted (sort g) (ArrowName s) v)) (allowed (sort g) (ArrowName s) v)
specially (ArrowNameBlock s) e f {g} d v q X = arrow_name_block_begins s d (of_values (sort g) (sorted (sort g) (ArrowNameBlock s) v)) (allowed (sort g) (ArrowNameBlock s) v)
specially New e f {g} d v q X = new_begins d (of_values (sort g) (sorted (sort g) New v))
specially Yield e f {g} d v q X = yield_begins d (of_values (sort g) (sorted (sort g) Yield v))
specially YieldBare e f {g} d v q X = yield_bare_begins d (of_values (sort g) (sorted (sort g) YieldBare v))
specially FunctionExpression e f {g} d v q X = function_begins d (of_values (sort g) (sorted (sort g) FunctionExpression v))
specially FunctionDeclaration e f {g} {ks} {ts} d v q X = ap (λ s. prefix s ts) (of_sort (sort g) Statements (sorted (sort g) FunctionDeclaration v)) ∙ declared_begins d
specially CatchParam e f {g} {ks} {ts} d v q X = ap (λ s. prefix s ts) (of_sort (sort g) Catches (sorted (sort g) CatchParam v)) ∙ catch_begins d
specially CatchBare e f {g} {ks} {ts} d v q X = ap (λ s. prefix s ts) (of_sort (sort g) Catches (sorted (sort g) CatchBare v)) ∙ bare_catch_begins d
specially Array e f {g} d v q X = array_begins d (of_values (sort g) (sorted (sort g) Array v)) X (omega (arith, q))
specially Object e f {g} d v q X = object_begins d (of_values (sort g) (sorted (sort g) Object v)) X (omega (arith, q))
specially PatternAssignment e f {g} d v q X = pattern_assignment_begins d (of_values (sort g) (sorted (sort g) PatternAssignment v))
specially PatternItem e f {g} {ks} {ts} d v q X = ap (λ s. prefix s ts) (of_sort (sort g) TargetElements (sorted (sort g) PatternItem v)) ∙ pattern_item_begins d
specially ValueItem e f {g} {ks} {ts} d v q X = ap (λ s. prefix s ts) (of_sort (sort g) TargetElements (sorted (sort g) ValueItem v)) ∙ value_item_begins d
specially PatternRest e f {g} {ks} {ts} d v q X = ap (λ s. prefix s ts) (of_sort (sort g) TargetElements (sorted (sort g) PatternRest v)) ∙ pattern_rest_begins d
specially ValueRest e f {g} {ks} {ts} d v q X = ap (λ s. prefix s ts) (of_sort (sort g) TargetElements (sorted (sort g) ValueRest v)) ∙ value_rest_begins d
specially TargetKeyValue e f {g} {ks} {ts} d v q X = ap (λ s. prefix s ts) (of_sort (sort g) TargetProperties (sorted (sort g) TargetKeyValue v)) ∙ target_key_begins d
specially (TargetShorthand n) e f {g} {ks} {ts} d v q X = ap (λ s. prefix s ts) (of_sort (sort g) TargetProperties (sorted (sort g) (TargetShorthand n) v)) ∙ target_shorthand_begins n d
specially (TargetDefault n) e f {g} {ks} {ts} d v q X = ap (λ s. prefix s ts) (of_sort (sort g) TargetProperties (sorted (sort g) (TargetDefault n) v)) ∙ target_default_begins n d
specially ClassPlain e f {g} d v q X = class_begins d (of_values (sort g) (sorted (sort g) ClassPlain v))
specially StaticElement e f {g} {ks} {ts} d v q X = ap (λ s. prefix s ts) (of_sort (sort g) ClassElements (sorted (sort g) StaticElement v)) ∙ static_begins d
specially ComputedField e f {g} {ks} {ts} d v q X = ap (λ s. prefix s ts) (of_sort (sort g) ClassElements (sorted (sort g) ComputedField v)) ∙ computed_field_begins d
specially Field e f {g} {ks} {ts} d v q X = ap (λ s. prefix s ts) (of_sort (sort g) ClassElements (sorted (sort g) Field v)) ∙ field_begins d
specially ClassSetter e f {g} {ks} {ts} d v q X = ap (λ s. prefix s ts) (of_sort (sort g) ClassElements (sorted (sort g) ClassSetter v)) ∙ class_setter_begins d
specially ClassGetter e f {g} {ks} {ts} d v q X = ap (λ s. prefix s ts) (of_sort (sort g) ClassElements (sorted (sort g) ClassGetter v)) ∙ class_getter_begins d
specially ClassGenerator e f {g} {ks} {ts} d v q X = ap (λ s. prefix s ts) (of_sort (sort g) ClassElements (sorted (sort g) ClassGenerator v)) ∙ class_generator_begins d
specially ClassComputedMethod e f {g} {ks} {ts} d v q X = ap (λ s. prefix s ts) (of_sort (sort g) ClassElements (sorted (sort g) ClassComputedMethod v)) ∙ class_computed_begins d
specially ClassMethod e f {g} {ks} {ts} d v q X = ap (λ s. prefix s ts) (of_sort (sort g) ClassElements (sorted (sort g) ClassMethod v)) ∙ class_method_begins d
specially Defaulted e f {g} {ks} {ts} d v q X = ap (λ s. prefix s ts) (of_sort (sort g) BoundElements (sorted (sort g) Defaulted v)) ∙ defaulted_begins d
specially (BoundDefault n) e f {g} {ks} {ts} d v q X = ap (λ s. prefix s ts) (of_sort (sort g) BoundProperties (sorted (sort g) (BoundDefault n) v)) ∙ bound_default_begins n d
specially Computed e f {g} {ks} {ts} d v q X = ap (λ s. prefix s ts) (of_sort (sort g) Properties (sorted (sort g) Computed v)) ∙ computed_begins d
specially ComputedMethod e f {g} {ks} {ts} d v q X = ap (λ s. prefix s ts) (of_sort (sort g) Properties (sorted (sort g) ComputedMethod v)) ∙ computed_method_begins d
specially FirstMember e f {g} {ks} {ts} d v q X = ap (λ s. prefix s ts) (of_sort (sort g) FirstLinks (sorted (sort g) FirstMember v)) ∙ first_member_begins d
specially FirstCall e f {g} {ks} {ts} d v q X = ap (λ s. prefix s ts) (of_sort (sort g) FirstLinks (sorted (sort g) FirstCall v)) ∙ first_call_begins d
specially LinkCall e f {g} {ks} {ts} d v q X = ap (λ s. prefix s ts) (of_sort (sort g) Links (sorted (sort g) LinkCall v)) ∙ link_call_begins d
specially OptionalMember e f {g} {ks} {ts} d v q X = ap (λ s. prefix s ts) (of_sort (sort g) Links (sorted (sort g) OptionalMember v)) ∙ optional_member_begins d
specially KeyValue e f {g} {ks} {ts} d v q X = ap (λ s. prefix s ts) (of_sort (sort g) Properties (sorted (sort g) KeyValue v)) ∙ key_begins d
specially BoundKeyValue e f {g} {ks} {ts} d v q X = ap (λ s. prefix s ts) (of_sort (sort g) BoundProperties (sorted (sort g) BoundKeyValue v)) ∙ bound_key_begins d
specially (Shorthand n) e f {g} {ks} {ts} d v q X = ap (λ s. prefix s ts) (of_sort (sort g) Properties (sorted (sort g) (Shorthand n) v)) ∙ shorthand_begins n d
specially (BoundShorthand n) e f {g} {ks} {ts} d v q X = ap (λ s. prefix s ts) (of_sort (sort g) BoundProperties (sorted (sort g) (BoundShorthand n) v)) ∙ bound_shorthand_begins n d
specially MethodProperty e f {g} {ks} {ts} d v q X = ap (λ s. prefix s ts) (of_sort (sort g) Properties (sorted (sort g) MethodProperty v)) ∙ method_begins d
specially Getter e f {g} {ks} {ts} d v q X = ap (λ s. prefix s ts) (of_sort (sort g) Properties (sorted (sort g) Getter v)) ∙ getter_begins d
specially Setter e f {g} {ks} {ts} d v q X = ap (λ s. prefix s ts) (of_sort (sort g) Properties (sorted (sort g) Setter v)) ∙ setter_begins d
specially GeneratorProperty e f {g} {ks} {ts} d v q X = ap (λ s. prefix s ts) (of_sort (sort g) Properties (sorted (sort g) GeneratorProperty v)) ∙ star_begins d
specially MethodFunction e f {g} {ks} {ts} d v q X = ap (λ s. prefix s ts) (of_sort (sort g) Methods (sorted (sort g) MethodFunction v))
specially GeneratorMethod e f {g} {ks} {ts} d v q X = ap (λ s. prefix s ts) (of_sort (sort g) GeneratorMethods (sorted (sort g) GeneratorMethod v))
specially For e f {g} {ks} {ts} d v q X = ap (λ s. prefix s ts) (of_sort (sort g) Statements (sorted (sort g) For v)) ∙ for_begins d
specially ForDeclared e f {g} {ks} {ts} d v q X = ap (λ s. prefix s ts) (of_sort (sort g) Statements (sorted (sort g) ForDeclared v)) ∙ declared_for_begins d
specially (ImportDefault n) e f {g} {ks} {ts} d v q X = ap (λ s. prefix s ts) (of_sort (sort g) Statements (sorted (sort g) (ImportDefault n) v)) ∙ import_default_begins n d
specially (ImportDefaultNames n) e f {g} {ks} {ts} d v q X = ap (λ s. prefix s ts) (of_sort (sort g) Statements (sorted (sort g) (ImportDefaultNames n) v)) ∙ import_default_names_begins n d
specially (ImportDefaultNamespace n) e f {g} {ks} {ts} d v q X = ap (λ s. prefix s ts) (of_sort (sort g) Statements (sorted (sort g) (ImportDefaultNamespace n) v)) ∙ import_default_namespace_begins n d
specially ExportNames e f {g} {ks} {ts} d v q X = ap (λ s. prefix s ts) (of_sort (sort g) Statements (sorted (sort g) ExportNames v)) ∙ export_names_begins d
specially ExportFrom e f {g} {ks} {ts} d v q X = ap (λ s. prefix s ts) (of_sort (sort g) Statements (sorted (sort g) ExportFrom v)) ∙ export_from_begins d
specially ExportDeclared e f {g} {ks} {ts} d v q X = ap (λ s. prefix s ts) (of_sort (sort g) Statements (sorted (sort g) ExportDeclared v)) ∙ export_declared_begins d
specially ExportValue e f {g} {ks} {ts} d v q X = ap (λ s. prefix s ts) (of_sort (sort g) Statements (sorted (sort g) ExportValue v)) ∙ export_value_begins d
specially ExportDefault e f {g} {ks} {ts} d v q X = ap (λ s. prefix s ts) (of_sort (sort g) Statements (sorted (sort g) ExportDefault v)) ∙ export_default_begins d
specially (ImportShort n) e f {g} {ks} {ts} d v q X = ap (λ s. prefix s ts) (of_sort (sort g) ImportItems (sorted (sort g) (ImportShort n) v)) ∙ import_short_begins n d
specially ImportAs e f {g} {ks} {ts} d v q X = ap (λ s. prefix s ts) (of_sort (sort g) ImportItems (sorted (sort g) ImportAs v)) ∙ import_as_begins d
specially (ExportShort n) e f {g} {ks} {ts} d v q X = ap (λ s. prefix s ts) (of_sort (sort g) ExportItems (sorted (sort g) (ExportShort n) v)) ∙ export_short_begins n d
specially (ForwardName n) e f {g} {ks} {ts} d v q X = ap (λ s. prefix s ts) (of_sort (sort g) ForwardItems (sorted (sort g) (ForwardName n) v)) ∙ forward_name_begins n d
specially (ForwardText n) e f {g} {ks} {ts} d v q X = ap (λ s. prefix s ts) (of_sort (sort g) ForwardItems (sorted (sort g) (ForwardText n) v)) ∙ forward_text_begins n d
specially ForwardAs e f {g} {ks} {ts} d v q X = ap (λ s. prefix s ts) (of_sort (sort g) ForwardItems (sorted (sort g) ForwardAs v)) ∙ forward_as_begins d
specially DeclaredFunction e f {g} {ks} {ts} d v q X = ap (λ s. prefix s ts) (of_sort (sort g) Declarations (sorted (sort g) DeclaredFunction v)) ∙ declared_function_begins d
specially DefaultFunction e f {g} {ks} {ts} d v q X = ap (λ s. prefix s ts) (of_sort (sort g) DefaultDeclarations (sorted (sort g) DefaultFunction v)) ∙ default_function_begins d
specially DefaultClass e f {g} {ks} {ts} d v q X = ap (λ s. prefix s ts) (of_sort (sort g) DefaultDeclarations (sorted (sort g) DefaultClass v)) ∙ default_class_begins d
specially ForPatternIn e f {g} {ks} {ts} d v q X = ap (λ s. prefix s ts) (of_sort (sort g) Statements (sorted (sort g) ForPatternIn v)) ∙ pattern_in_begins d
specially ForPatternOf e f {g} {ks} {ts} d v q X = ap (λ s. prefix s ts) (of_sort (sort g) Statements (sorted (sort g) ForPatternOf v)) ∙ pattern_of_begins d
specially NewBare e f d v q X = absurd (false≢true (sym f))
specially ForIn e f d v q X = absurd (false≢true (sym f))
specially ForOf e f d v q X = absurd (false≢true (sym f))
specially ForDeclaredIn e f d v q X = absurd (false≢true (sym f))
specially ForDeclaredOf e f d v q X = absurd (false≢true (sym f))
specially _ e f d v q X = absurd (false≢true e)

pub begins : {g : Goal} {ks : Trees} {ts r : List Token} (h : Rule) → Row g (form h) ks ts r → is_of (sort g) h ≡ true → is_led (form h) ≡ false → is_forked h ≡ false → next_power g r ≤ inner (level h) → excluded g h ≡ false → prefix (sort g) ts ≡ Some h
begins {g} {ts} h d f l k q X = by (is_special h) refl
  where
    by : (b : Bool) → is_special h ≡ b → prefix (sort g) ts ≡ Some h
    by true e = specially h e k d f q X
    by false e = tells d (sort g) h (subst (λ b. ToldUnless b (sort g) h (form h)) e (told (sort g) h f)) l (no_paren h e)

pub led_plainly : (h : Rule) → is_led (form h) ≡ true → is_special h ≡ false
led_plainly Parenthesized e = absurd (false≢true e)
led_plainly Arrow e = absurd (false≢true e)
led_plainly ArrowBlock e = absurd (false≢true e)
led_plainly New e = absurd (false≢true e)
led_plainly Yield e = absurd (false≢true e)
led_plainly YieldBare e = absurd (false≢true e)
led_plainly FunctionExpression e = absurd (false≢true e)
led_plainly FunctionDeclaration e = absurd (false≢true e)
led_plainly CatchParam e = absurd (false≢true e)
led_plainly CatchBare e = absurd (false≢true e)
led_plainly KeyValue e = absurd (false≢true e)
led_plainly BoundKeyValue e = absurd (false≢true e)
led_plainly (Shorthand s) e = absurd (false≢true e)
led_plainly (BoundShorthand s) e = absurd (false≢true e)
led_plainly For e = absurd (false≢true e)
led_plainly ForDeclared e = absurd (false≢true e)
led_plainly ForIn e = absurd (false≢true e)
led_plainly ForOf e = absurd (false≢true e)
led_plainly ForDeclaredIn e = absurd (false≢true e)
led_plainly ForDeclaredOf e = absurd (false≢true e)
led_plainly ForPatternIn e = absurd (false≢true e)
led_plainly ForPatternOf e = absurd (false≢true e)
led_plainly MethodProperty e = absurd (false≢true e)
led_plainly Getter e = absurd (false≢true e)
led_plainly Setter e = absurd (false≢true e)
led_plainly (Reference s) e = absurd (false≢true e)
led_plainly (ArrowName s) e = absurd (false≢true e)
led_plainly (ArrowNameBlock s) e = absurd (false≢true e)
led_plainly NewBare e = absurd (false≢true e)
led_plainly MethodFunction e = absurd (false≢true e)
led_plainly GeneratorMethod e = absurd (false≢true e)
led_plainly GeneratorProperty e = absurd (false≢true e)
led_plainly FirstMember e = absurd (false≢true e)
led_plainly FirstCall e = absurd (false≢true e)
led_plainly LinkCall e = absurd (false≢true e)
led_plainly OptionalMember e = absurd (false≢true e)
led_plainly Defaulted e = absurd (false≢true e)
led_plainly (BoundDefault s) e = absurd (false≢true e)
led_plainly Computed e = absurd (false≢true e)
led_plainly ComputedMethod e = absurd (false≢true e)
led_plainly ClassPlain e = absurd (false≢true e)
led_plainly ClassMethod e = absurd (false≢true e)
led_plainly ClassComputedMethod e = absurd (false≢true e)
led_plainly ClassGenerator e = absurd (false≢true e)
led_plainly ClassGetter e = absurd (false≢true e)
led_plainly ClassSetter e = absurd (false≢true e)
led_plainly Field e = absurd (false≢true e)
led_plainly ComputedField e = absurd (false≢true e)
led_plainly StaticElement e = absurd (false≢true e)
led_plainly Array e = absurd (false≢true e)
led_plainly Object e = absurd (false≢true e)
led_plainly PatternAssignment e = absurd (false≢true e)
led_plainly PatternItem e = absurd (false≢true e)
led_plainly ValueItem e = absurd (false≢true e)
led_plainly PatternRest e = absurd (false≢true e)
led_plainly ValueRest e = absurd (false≢true e)
led_plainly TargetKeyValue e = absurd (false≢true e)
led_plainly (TargetShorthand s) e = absurd (false≢true e)
led_plainly (TargetDefault s) e = absurd (false≢true e)
led_plainly (ImportDefault s) e = absurd (false≢true e)
led_plainly (ImportDefaultNames s) e = absurd (false≢true e)
led_plainly (ImportDefaultNamespace s) e = absurd (false≢true e)
led_plainly ExportNames e = absurd (false≢true e)
led_plainly ExportFrom e = absurd (false≢true e)
led_plainly ExportDeclared e = absurd (false≢true e)
led_plainly ExportValue e = absurd (false≢true e)
led_plainly ExportDefault e = absurd (false≢true e)
led_plainly (ImportShort s) e = absurd (false≢true e)
led_plainly ImportAs e = absurd (false≢true e)
led_plainly (ExportShort s) e = absurd (false≢true e)
led_plainly (ForwardName s) e = absurd (false≢true e)
led_plainly (ForwardText s) e = absurd (false≢true e)
led_plainly ForwardAs e = absurd (false≢true e)
led_plainly DeclaredFunction e = absurd (false≢true e)
led_plainly DefaultFunction e = absurd (false≢true e)
led_plainly DefaultClass e = absurd (false≢true e)
led_plainly _ e = refl

pub led_unforked : (h : Rule) → is_led (form h) ≡ true → is_forked h ≡ false
led_unforked ForIn e = absurd (false≢true e)
led_unforked ForOf e = absurd (false≢true e)
led_unforked ForDeclaredIn e = absurd (false≢true e)
led_unforked ForDeclaredOf e = absurd (false≢true e)
led_unforked NewBare e = absurd (false≢true e)
led_unforked _ e = refl

-- the parts behind the first one of a loop's head
abbrev pub behind_head : List Part → List Part
behind_head ps = tail (tail (tail ps))

pub fork_sort : (s : Sort) (h : Rule) → rule_sort h ≡ Statements → is_of s h ≡ true → s ≡ Statements
fork_sort s h e v = of_sort s (rule_sort h) (sorted s h v) ∙ e

pub plainly_tidy : (e : ℕ) (ps : List Part) → is_led ps ≡ false → TidyBehind e ps → Tidy e ps
plainly_tidy e (left w n b ∷ ps) i t = absurd (false≢true (sym i))
plainly_tidy e (commas None Two ∷ []) i t = absurd (false≢true (sym i))
plainly_tidy e (commas None Two ∷ p ∷ ps) i t = t
plainly_tidy e (commas None Zero ∷ ps) i t = t
plainly_tidy e (commas None One ∷ ps) i t = t
plainly_tidy e (commas None Gaps ∷ ps) i t = t
plainly_tidy e (commas (Some j) Two ∷ []) i t = t
plainly_tidy e (commas (Some j) Two ∷ p ∷ ps) i t = t
plainly_tidy e (commas (Some j) l ∷ ps) i t = t
plainly_tidy e ps i t = t
