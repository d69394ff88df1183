-- What a tree begins with, what goes on it, and that its brackets match.
use Rattle.std.specs.Prelude.{ℕ, zero, suc, ◌≡◌, refl, ◌≤◌, ◌<◌, Bool, true, false, not, List, [], ◌∷◌, codes, Option, Some, None, if◌then◌else◌, ◌||◌, nat_eq, nat_lt}
use Rattle.std.proofs.Common.{◌∙◌, ap, sym, subst, arith, ◌⊎◌, inl, inr}
use Rattle.std.proofs.lemmas.Bool.{lt-ltb, le-ltb, false≢true, eqb-false, ltb-true, ltb-false}
use Rattle.mini_model.specs.declared.operator.AssignmentOperator.TheVariants.{Assign}
use Rattle.mini_model.specs.declared.operator.BinaryOperator.TheVariants as binary
use Rattle.mini_model.specs.Weight.{same_text}
use Rattle.mini_model.specs.Tree.{Tree, Trees}
use Rattle.mini_print.specs.Token.{Token, Word, Punct, Punctuator, Comma, Semicolon, RightParen, RightBracket, RightBrace, LeftBrace, Dot, LeftParen, Quoted, OptionalDot, TemplateWhole, TemplateHead, TemplateMiddle, TemplateTail, LeftBracket, Assigns}
use Rattle.mini_print.specs.Grammar.{Block as BlockRule, Goal, Anything, WithoutIn, Callee, AfterDot, Binding, Statement, Declared, Property, Body, Element, SpreadItem, ArrowBlock, FunctionBody, NoBrace, permits, is_left_brace, Binary, Sort, Values, Names, Bindings, Statements, Declarators, Properties, Bodies, sort, heir, Place, place, whole, Rule, Parenthesized, Arrow, Prefix, Unary, Variables, Least, Zero, One, Two, Gaps, silent_tree, Opener, Equals, Else, opener, opens, Part, token, left, part, commas, lookahead, form, level, is_of, excluded, built_before, NewTarget, Yield, YieldFrom, GeneratorExpression, GeneratorDeclaration, CatchParam, CatchBare, Cases, Catches, BlockParts, CaseItem, Catching, BlockOnly, LabelName, CaseEnd, Catch, Finally, ends_clause, is_allowed, same_sort, rule_sort, New, FunctionExpression, FunctionDeclaration, CatchParam, perhaps, option, statements, unwritten, BoundKeyValue, BoundShorthand, Shorthand, BoundProperties, Bound, Parameter, BoundProperty, KeyValue, has, ends_property, is_colon_next, ForIn, ForOf, ForDeclared, ForDeclaredIn, ForDeclaredOf, HeadVariables, HeadDeclarations, HeadDeclaration, HeadDeclared, fork, HeadEnd, For, ends_head, is_word_of, MethodProperty, Getter, Setter, GeneratorProperty, MethodFunction, GeneratorMethod, Methods, GeneratorMethods, MethodValue, GeneratorValue, Key, KeyWord, KeyText, KeyNumber, KeyNames, KeyName, WholeTemplate, Template, MiddlePiece, TailPiece, TaggedTemplate, TagWhole, TagParts, Chain, FirstMember, FirstIndex, FirstCall, LinkMember, LinkIndex, LinkCall, OptionalMember, OptionalIndex, OptionalCall, TemplateRest, TagTemplate, FirstLink, Link, TemplateRests, TagTemplates, FirstLinks, Links, Defaulted, BoundDefault, NamedDefault, ComputedMethod, ComputedGetter, ComputedSetter, ComputedGenerator, BoundElement, DefaultOf, BoundElements, DefaultsOf, Lookahead, Computed, Rest, same_flag, ClassPlain, ClassNamed, ClassDeclared, ClassBody, ClassMethod, ClassComputedMethod, ClassGenerator, ClassComputedGenerator, ClassGetter, ClassComputedGetter, ClassSetter, ClassComputedSetter, Field, ComputedField, StaticElement, StaticInit, PrivateKey, ClassBraces, ClassElement, PlainElement, ClassKey, ClassBodies, ClassElements, Extends, Leading, Leadings, Directive, starts_directive, NoDirective, ArrayTarget, ObjectTarget, PatternItem, ValueItem, PatternRest, ValueRest, TargetShorthand, TargetDefault, TargetKeyValue, TargetComputed, TargetPropertyRest, PatternAssignment, TargetPattern, Target, TargetElement, TargetProperty, Patterns, TargetElements, TargetProperties, Object, Array, As, starts_default, ModuleItem, SourceText, ModuleName, ImportItem, Exportable, DefaultDeclared, ExportItem, ForwardItem, Declarations, DefaultDeclarations, semicolon, inserts, ends_statement, NewBare, PrivateIn}
use Rattle.mini_print.specs.Grammar as look
use Rattle.mini_print.specs.Groups.{goal_of, none_is_enough, behind_comma, Groups, by_rule, Row, end, a_token, a_left, a_part, a_list, a_lookahead, present, missing, with, without, a_block, a_silent, Statements as StatementList, no_more, more, Items, nothing, last, next, gap, a_fork, a_semicolon, inserted}
use Rattle.mini_print.specs.Printed.{is_statements}
use Rattle.mini_print.proofs.Reader.{is_brace_next, infix_punct, infix_rule, binding, bound_by, bound_in, strength, is_weak, power, next_power, goes_on, is_closing, closes, stops, ends, is_comma, is_comma_next, is_sequence, Bracket, Opens, Closes, Neither, bracket, behind_bracket, State, is_separator, separates, Reaches, is_paren_next, is_right_brace, ends_at, declares, is_equals_next, stops_at, is_left_paren}
use Rattle.mini_print.proofs.Told.{is_values, inner, Led, same_is, both}
use Rattle.mini_print.proofs.Tidy.{Stops, Closed, Stopped, Ended, Starting, starts_clause, brace_separates, starts_rest, starts_template, starts_link, named_separates, StopsBefore, StopsLook, key_separates, StopsOption, starts_declaration}
use Rattle.mini_print.proofs.Table.{Opening, opening, Balanced, balanced, bars_separate, opens_separates, is_no_value, TargetOpening, target_opening}

pub apart : {A : Type 0} {b : Bool} → b ≡ true → b ≡ false → A
apart e f = absurd (false≢true (sym f ∙ e))

-- ---- what a tree begins with

-- behind the last part of a statement stands a `;`, or what it is inserted before
inserts_ends : (ts : List Token) → inserts ts ≡ true → ends_statement ts ≡ true
inserts_ends [] e = refl
inserts_ends (Punct RightBrace ∷ ts) e = refl
inserts_ends (x ∷ ts) e = absurd (false≢true e)

pub statement_end : {g : Goal} {ps : List Part} {ks : Trees} {ts r : List Token} → Row g (semicolon ∷ ps) ks ts r → ends_statement ts ≡ true
statement_end (a_semicolon g ps ks ts r d) = refl
statement_end (inserted g ps ks ts r f d) = inserts_ends ts f

-- a list of two or more has a first
abbrev pub IsTwo : Least → Type 0
IsTwo Two = Unit {0}
IsTwo _ = ⊥

mutual
  pub first_open : {p : Place} {t : Tree} {ts r : List Token} → Groups p t ts r → Starting (sort p.goal) ts
  first_open (by_rule p h ks ts r f d) = first_row d (opening (sort p.goal) h (both (is_of (sort p.goal) h) (not (excluded p.goal h)) f.0).0)

  pub first_row : {g : Goal} {ps : List Part} {ks : Trees} {ts r : List Token} → Row g ps ks ts r → Opening (sort g) ps → Starting (sort g) ts
  first_row (a_token g x _ ks _ r (a_token _ y ps _ ts _ d)) o = o ts
  first_row (a_token g x [] ks ts r d) o = o ts
  first_row (a_token g x (left w n b ∷ ps) ks ts r d) o = o ts
  first_row (a_token g x (part o' n b ∷ ps) ks ts r d) o = o ts
  first_row (a_token g x (commas o' n ∷ ps) ks ts r d) o = o ts
  first_row (a_token g x (lookahead c ∷ ps) ks ts r d) o = o ts
  first_row (a_token g x (perhaps i ∷ ps) ks ts r d) o = o ts
  first_row (a_token g x (option w o' n ∷ ps) ks ts r d) o = o ts
  first_row (a_token g x (statements i ∷ ps) ks ts r d) o = o ts
  first_row (a_token g x (unwritten v ∷ ps) ks ts r d) o = o ts
  first_row (a_token g x (fork ∷ ps) ks ts r d) o = o ts
  first_row (a_token g x (semicolon ∷ ps) ks ts r d) o = o ts (statement_end d)
  first_row (a_left g w n b ps k ks ts m r c d) o = first_open c
  first_row (a_part g None n b ps k ks ts m r c d) o = absurd o
  first_row (a_part g (Some i) n b ps k ks ts m r c d) o = o ts (first_open c)
  first_row (a_list g None Two ps is ks ts m r c d) o = first_item c tt
  first_row (a_lookahead g c ps ks ts r p d) o = first_row d o
  first_row (a_silent g v ps ks ts r d) o = first_row d o
  first_row _ o = absurd o

  pub first_item : {i : Goal} {l : Least} {is : Trees} {ts r : List Token} → Items i l is ts r → IsTwo l → Starting (sort i) ts
  first_item (nothing g Zero r u) e = absurd e
  first_item (nothing g One r u) e = absurd e
  first_item (nothing g Two r u) e = absurd (false≢true u)
  first_item (nothing g Gaps r u) e = absurd e
  first_item (last g l t ts r u c) e = first_open c
  first_item (next g l t is ts m r c d) e = first_open c
  first_item (gap g Zero is m r u d) e = absurd e
  first_item (gap g One is m r u d) e = absurd e
  first_item (gap g Two is m r u d) e = absurd (false≢true u)
  first_item (gap g Gaps is m r u d) e = absurd e

-- what is assigned to in a pattern
mutual
  pub target_open : {p : Place} {t : Tree} {ts r : List Token} → Groups p t ts r → p.goal ≡ Target → is_no_value ts ≡ false
  target_open (by_rule p h ks ts r f d) q = target_row d q (target_opening h (subst (λ g. has g h ≡ true) q f.0))

  pub target_row : {g : Goal} {ps : List Part} {ks : Trees} {ts r : List Token} → Row g ps ks ts r → g ≡ Target → TargetOpening ps → is_no_value ts ≡ false
  target_row (a_token g x ps ks ts r d) q o = o ts
  target_row (a_left g w n b ps k ks ts m r c d) q o = target_open c q
  target_row (a_list g None Two ps is ks ts m r c d) q o = target_item c q tt
  target_row _ q o = absurd o

  pub target_item : {i : Goal} {l : Least} {is : Trees} {ts r : List Token} → Items i l is ts r → i ≡ Target → IsTwo l → is_no_value ts ≡ false
  target_item (nothing g Zero r u) q e = absurd e
  target_item (nothing g One r u) q e = absurd e
  target_item (nothing g Two r u) q e = absurd (false≢true u)
  target_item (nothing g Gaps r u) q e = absurd e
  target_item (last g l t ts r u c) q e = target_open c q
  target_item (next g l t is ts m r c d) q e = target_open c q
  target_item (gap g Zero is m r u d) q e = absurd e
  target_item (gap g One is m r u d) q e = absurd e
  target_item (gap g Two is m r u d) q e = absurd (false≢true u)
  target_item (gap g Gaps is m r u d) q e = absurd e

-- ---- powers

pub bound_in_le : (g : Goal) (h : Option Rule) → bound_in g h ≤ bound_by h
bound_in_le g None = omega arith
bound_in_le g (Some h) = by (excluded g h)
  where
    by : (b : Bool) → (if b then 0 else binding h) ≤ binding h
    by true = omega arith
    by false = omega arith

pub power_le : (g : Goal) (x : Token) → power g x ≤ strength x
power_le g x = by (is_weak g)
  where
    by : (b : Bool) → (if b then 0 else bound_in (heir g) (infix_rule x)) ≤ strength x
    by true = omega arith
    by false = bound_in_le (heir g) (infix_rule x)

-- nothing goes on in a weak goal
pub weak : (g : Goal) (r : List Token) → is_weak g ≡ true → next_power g r ≤ 0
weak g [] e = omega arith
weak g (x ∷ r) e = by (is_weak g) e
  where
    by : (b : Bool) → b ≡ true → (if b then 0 else bound_in (heir g) (infix_rule x)) ≤ 0
    by true e = omega arith
    by false e = absurd (false≢true e)

-- nothing goes on a whole statement
pub ended_statement : (g : Goal) (ts : List Token) → ends_statement ts ≡ true → next_power g ts ≤ 0
ended_statement g [] e = omega arith
ended_statement g (Punct Semicolon ∷ ts) e = let l = power_le g (Punct Semicolon) in omega (arith, l)
ended_statement g (Punct RightBrace ∷ ts) e = let l = power_le g (Punct RightBrace) in omega (arith, l)
ended_statement g (x ∷ ts) e = absurd (false≢true e)

-- the heir of a goal goes on alike
pub heir_power : (g : Goal) (r : List Token) → next_power (heir g) r ≡ next_power g r
heir_power g [] = refl
heir_power Anything (x ∷ r) = refl
heir_power WithoutIn (x ∷ r) = refl
heir_power Callee (x ∷ r) = refl
heir_power Element (x ∷ r) = refl
heir_power AfterDot (x ∷ r) = refl
heir_power Binding (x ∷ r) = refl
heir_power Statement (x ∷ r) = refl
heir_power Declared (x ∷ r) = refl
heir_power Property (x ∷ r) = refl
heir_power Body (x ∷ r) = refl
heir_power LabelName (x ∷ r) = refl
heir_power CaseItem (x ∷ r) = refl
heir_power Catching (x ∷ r) = refl
heir_power BlockOnly (x ∷ r) = refl
heir_power KeyName (x ∷ r) = refl
heir_power MethodValue (x ∷ r) = refl
heir_power GeneratorValue (x ∷ r) = refl
heir_power HeadDeclaration (x ∷ r) = refl
heir_power HeadDeclared (x ∷ r) = refl
heir_power Bound (x ∷ r) = refl
heir_power Parameter (x ∷ r) = refl
heir_power BoundProperty (x ∷ r) = refl
heir_power BoundElement (x ∷ r) = refl
heir_power TargetPattern (x ∷ r) = refl
heir_power Target (x ∷ r) = refl
heir_power TargetElement (x ∷ r) = refl
heir_power TargetProperty (x ∷ r) = refl
heir_power Leading (x ∷ r) = refl
heir_power ClassBraces (x ∷ r) = refl
heir_power ClassElement (x ∷ r) = refl
heir_power PlainElement (x ∷ r) = refl
heir_power ClassKey (x ∷ r) = refl
heir_power (DefaultOf b s) (x ∷ r) = refl
heir_power TemplateRest (x ∷ r) = refl
heir_power TagTemplate (x ∷ r) = refl
heir_power FirstLink (x ∷ r) = refl
heir_power Link (x ∷ r) = refl
heir_power ModuleItem (x ∷ r) = refl
heir_power SourceText (x ∷ r) = refl
heir_power ModuleName (x ∷ r) = refl
heir_power ImportItem (x ∷ r) = refl
heir_power Exportable (x ∷ r) = refl
heir_power DefaultDeclared (x ∷ r) = refl
heir_power ExportItem (x ∷ r) = refl
heir_power ForwardItem (x ∷ r) = refl

-- no operator is a spread
abbrev pub is_spread : Option Rule → Bool
is_spread (Some SpreadItem) = true
is_spread _ = false

pub no_spread_punct : (x : Punctuator) → is_spread (infix_punct x) ≡ false
no_spread_punct Comma = refl
no_spread_punct _ = refl

pub no_spread : (x : Token) → is_spread (infix_rule x) ≡ false
no_spread (Word s) = by (same_text s (codes "in")) (same_text s (codes "instanceof"))
  where
    by : (b c : Bool) → is_spread (if b then Some (Binary binary.In) else (if c then Some (Binary binary.Instanceof) else None)) ≡ false
    by true c = refl
    by false true = refl
    by false false = refl
no_spread (Punct x) = no_spread_punct x
no_spread _ = refl

pub element_bound : (o : Option Rule) → is_spread o ≡ false → bound_in Anything o ≡ bound_in Element o
element_bound (Some SpreadItem) e = absurd (false≢true (sym e))
element_bound (Some _) e = refl
element_bound None e = refl

pub value_power : (g : Goal) (x : Token) → is_values (sort g) ≡ true → power g x ≡ bound_in g (infix_rule x)
value_power Anything x e = refl
value_power WithoutIn x e = refl
value_power Callee x e = refl
value_power Target x e = refl
value_power Element x e = element_bound (infix_rule x) (no_spread x)
value_power _ x e = absurd (false≢true e)

-- what an operator's own token has
pub power_is : (g : Goal) (x : Token) (h : Rule) → is_values (sort g) ≡ true → excluded g h ≡ false → infix_rule x ≡ Some h → power g x ≡ binding h
power_is g x h a b e = value_power g x a ∙ ap (bound_in g) e ∙ un (excluded g h) b
  where
    un : (c : Bool) → c ≡ false → (if c then 0 else binding h) ≡ binding h
    un true c = absurd (false≢true (sym c))
    un false c = refl

-- behind a `new` without arguments stands no `(`, and nothing that goes on with what is made
loose : (g : Goal) → has g NewBare ≡ true → (o : Option Rule) → bound_in g o ≤ 17 → bound_by o ≤ 17
loose Anything e (Some SpreadItem) q = omega arith
loose WithoutIn e (Some SpreadItem) q = omega arith
loose WithoutIn e (Some (PrivateIn s)) q = omega arith
loose WithoutIn e (Some (Binary binary.In)) q = omega arith
loose WithoutIn e (Some (Binary o)) q = q
loose Anything e None q = q
loose WithoutIn e None q = q
loose Element e None q = q
loose Anything e (Some h) q = q
loose WithoutIn e (Some h) q = q
loose Element e (Some h) q = q
loose _ e o q = absurd (false≢true e)

no_seventeen_punct : (x : Punctuator) → nat_eq (bound_by (infix_punct x)) 17 ≡ false
no_seventeen_punct Comma = refl
no_seventeen_punct _ = refl

no_seventeen : (x : Token) → nat_eq (strength x) 17 ≡ false
no_seventeen (Word s) = by (same_text s (codes "in")) (same_text s (codes "instanceof"))
  where
    by : (b c : Bool) → nat_eq (bound_by (if b then Some (Binary binary.In) else (if c then Some (Binary binary.Instanceof) else None))) 17 ≡ false
    by true c = refl
    by false true = refl
    by false false = refl
no_seventeen (Punct x) = no_seventeen_punct x
no_seventeen _ = refl

below : (n : ℕ) → nat_eq n 17 ≡ false → n ≤ 17 → n ≤ 16
below n e q = by (nat_lt n 17) refl
  where
    by : (b : Bool) → nat_lt n 17 ≡ b → n ≤ 16
    by true f = let l = ltb-true n 17 f in omega (arith, l)
    by false f = let l = ltb-false n 17 f in absurd (eqb-false n 17 e (omega (arith, l, q)))

no_paren : (x : Token) → strength x ≤ 17 → is_left_paren x ≡ false
no_paren (Punct LeftParen) q = absurd (omega (arith, q))
no_paren _ q = refl

new_sort : (g : Goal) → has g NewBare ≡ true → is_values (sort g) ≡ true
new_sort g e = by (sort g) (both (is_of (sort g) NewBare) (not (excluded g NewBare)) e).0
  where
    by : (s : Sort) → is_of s NewBare ≡ true → is_values s ≡ true
    by Values e = refl
    by _ e = absurd (false≢true e)

pub behind_new : (g : Goal) → has g NewBare ≡ true → (r : List Token) → next_power g r ≤ 17 → (next_power Callee r ≤ 16) × (is_paren_next r ≡ false)
behind_new g e [] q = (omega arith, refl)
behind_new g e (x ∷ r) q =
    let v = value_power g x (new_sort g e) in
    let l = loose g e (infix_rule x) (omega (arith, q, v)) in
    let b = below (strength x) (no_seventeen x) l in
    let p = power_le Callee x in
    (omega (arith, p, b), no_paren x l)

pub goes : (g : Goal) (n : ℕ) (x : Token) (ts : List Token) (h : Rule) → infix_rule x ≡ Some h → n < power g x → goes_on g n (x ∷ ts) ≡ Some h
goes g n x ts h e l = ap (λ b. if b then infix_rule x else None) (lt-ltb n (power g x) l) ∙ e

pub rests : (g : Goal) (n : ℕ) (ts : List Token) → next_power g ts ≤ n → goes_on g n ts ≡ None
rests g n [] l = refl
rests g n (x ∷ ts) l = ap (λ b. if b then infix_rule x else None) (le-ltb n (power g x) l)

pub rest_power : (ts : List Token) → starts_rest ts ≡ true → next_power Anything ts ≤ 0
rest_power [] e = omega arith
rest_power (TemplateMiddle s ∷ ts) e = omega arith
rest_power (TemplateTail s ∷ ts) e = omega arith
rest_power (x ∷ ts) e = absurd (false≢true e)

pub brace_power : (ts : List Token) → is_brace_next ts ≡ true → next_power Anything ts ≤ 0
brace_power [] e = omega arith
brace_power (Punct LeftBrace ∷ ts) e = omega arith
brace_power (x ∷ ts) e = absurd (false≢true e)

-- a part behind another one doesn't go on with it
pub stops_before : (j g : Goal) (ts : List Token) → StopsBefore j g → Starting (sort j) ts → next_power g ts ≤ 0
stops_before TemplateRest Anything ts s f = rest_power ts f
stops_before ClassBraces Anything ts s f = brace_power ts f
stops_before j g ts s f = weak g ts s

pub ended_power : (ts : List Token) → ends_property ts ≡ true → next_power Anything ts ≤ 1
ended_power [] e = omega arith
ended_power (Punct Comma ∷ ts) e = omega arith
ended_power (Punct RightBrace ∷ ts) e = omega arith
ended_power (Punct RightParen ∷ ts) e = omega arith
ended_power (Punct RightBracket ∷ ts) e = omega arith
ended_power (x ∷ ts) e = absurd (false≢true e)

pub target_power : (ts : List Token) → ends_property ts ≡ true → next_power Target ts ≤ 1
target_power [] e = omega arith
target_power (Punct Comma ∷ ts) e = omega arith
target_power (Punct RightBrace ∷ ts) e = omega arith
target_power (Punct RightParen ∷ ts) e = omega arith
target_power (Punct RightBracket ∷ ts) e = omega arith
target_power (x ∷ ts) e = absurd (false≢true e)

pub look_stops : (c : Lookahead) (g : Goal) (n : ℕ) (ts : List Token) → StopsLook c g n → permits c ts ≡ true → next_power g ts ≤ n
look_stops look.Ended Anything n ts s p = let l = ended_power ts p in omega (arith, l, s)
look_stops look.Ended Target n ts s p = let l = target_power ts p in omega (arith, l, s)
look_stops c g n ts s p = let l = weak g ts s in omega (arith, l)

pub option_with : (h : Goal) (n : ℕ) (w : Opener) (ps : List Part) (ts : List Token) → StopsOption h n w ps → next_power h (opener w ∷ ts) ≤ n
option_with Target n Equals (lookahead look.Ended ∷ ps) ts s = omega arith
option_with h n w ps ts s = let l = weak h (opener w ∷ ts) s in omega (arith, l)

pub option_without : {g : Goal} {ks : Trees} {r : List Token} (h : Goal) (n : ℕ) (w : Opener) (ps : List Part) (ts : List Token) → StopsOption h n w ps → Row g ps ks ts r → next_power h ts ≤ n
option_without Target n Equals (lookahead look.Ended ∷ ps) ts s (a_lookahead _ _ _ _ _ _ p d) = let l = target_power ts p in omega (arith, l, s)
option_without h n w ps ts s d = let l = weak h ts s in omega (arith, l)

-- what stands behind a part
pub behind : {g : Goal} {ps : List Part} {ks : Trees} {ts r : List Token} → Row g ps ks ts r → (e : ℕ) (o : Option Goal) (n : ℕ) → Stops e o n ps → next_power g r ≤ e →
    next_power (goal_of g o) ts ≤ n
behind (end g r) e None n s q = let l = heir_power g r in omega (arith, s, q, l)
behind (end g r) e (Some h) n s q = let l = weak h r s in omega (arith, l)
behind (a_token g x ps ks ts r d) e None n s q = let l = power_le (heir g) x in omega (arith, l, s)
behind (a_token g x ps ks ts r d) e (Some h) n s q = s
behind (a_left g w n' b ps k ks ts m r c d) e None n s q = absurd s
behind (a_left g w n' b ps k ks ts m r c d) e (Some h) n s q = let l = weak h ts s in omega (arith, l)
behind (a_part g o' n' b ps k ks ts m r c d) e None n s q = absurd s
behind (a_part g (Some j) n' b ps k ks ts m r c d) e (Some h) n s q = let l = stops_before j h ts s (first_open c) in omega (arith, l)
behind (a_part g None n' b ps k ks ts m r c d) e (Some h) n s q = let l = weak h ts s in omega (arith, l)
behind (a_list g o' l ps is ks ts m r c d) e None n s q = absurd s
behind (a_list g o' l' ps is ks ts m r c d) e (Some h) n s q = let l = weak h ts s in omega (arith, l)
behind (a_lookahead g c ps ks ts r p d) e None n s q = absurd s
behind (a_lookahead g c ps ks ts r p d) e (Some h) n s q = look_stops c h n ts s p
behind (present g i ps k ks ts m r c d) e None n s q = absurd s
behind (present g i ps k ks ts m r c d) e (Some h) n s q = let l = weak h ts s in omega (arith, l)
behind (missing g i ps ks ts r d) e None n s q = absurd s
behind (missing g i ps ks ts r d) e (Some h) n s q = let l = weak h ts s in omega (arith, l)
behind (with g w o' n' ps k ks ts m r c d) e None n s q = absurd s
behind (with g w o' n' ps k ks ts m r c d) e (Some h) n s q = option_with h n w ps ts s
behind (without g w o' n' ps ks ts r f d) e None n s q = absurd s
behind (without g w o' n' ps ks ts r f d) e (Some h) n s q = option_without h n w ps ts s d
behind (a_block g i ps is ks ts m r c d) e None n s q = absurd s
behind (a_block g i ps is ks ts m r c d) e (Some h) n s q = let l = weak h ts s in omega (arith, l)
behind (a_silent g v ps ks ts r d) e None n s q = behind d e None n s q
behind (a_fork g ps ks ts r d) e None n s q = behind d e None n s q
behind (a_fork g ps ks ts r d) e (Some h) n s q = behind d e (Some h) n s q
behind (a_silent g v ps ks ts r d) e (Some h) n s q = behind d e (Some h) n s q
behind {g} (a_semicolon _ ps ks ts r d) e o n s q = let l = ended_statement (goal_of g o) (Punct Semicolon ∷ ts) refl in omega (arith, l)
behind {g} (inserted _ ps ks ts r f d) e o n s q = let l = ended_statement (goal_of g o) ts (inserts_ends ts f) in omega (arith, l)

-- a template stands behind a tag
pub template_led : (g : Goal) (h : Rule) (ts : List Token) → starts_template ts ≡ true → ((s : List ℕ) → (infix_rule (TemplateWhole s) ≡ Some h) × (infix_rule (TemplateHead s) ≡ Some h)) →
    is_values (sort g) ≡ true → excluded g h ≡ false → (l : ℕ) → l < binding h → goes_on g l ts ≡ Some h
template_led g h [] e s v x l u = absurd (false≢true e)
template_led g h (TemplateWhole y ∷ ts) e s v x l u = let p = power_is g (TemplateWhole y) h v x (s y).0 in goes g l (TemplateWhole y) ts h (s y).0 (omega (arith, p, u))
template_led g h (TemplateHead y ∷ ts) e s v x l u = let p = power_is g (TemplateHead y) h v x (s y).1 in goes g l (TemplateHead y) ts h (s y).1 (omega (arith, p, u))
template_led g h (x' ∷ ts) e s v x l u = absurd (false≢true e)

pub template_power : (g : Goal) (h : Rule) (ts : List Token) → starts_template ts ≡ true → ((s : List ℕ) → (infix_rule (TemplateWhole s) ≡ Some h) × (infix_rule (TemplateHead s) ≡ Some h)) → next_power g ts ≤ binding h
template_power g h [] e s = absurd (false≢true e)
template_power g h (TemplateWhole y ∷ ts) e s = let l = power_le g (TemplateWhole y) in let p = ap bound_by (s y).0 in omega (arith, l, p)
template_power g h (TemplateHead y ∷ ts) e s = let l = power_le g (TemplateHead y) in let p = ap bound_by (s y).1 in omega (arith, l, p)
template_power g h (x' ∷ ts) e s = absurd (false≢true e)

pub goes_led : {g : Goal} {ps : List Part} {ks : Trees} {ts r : List Token} → Row g ps ks ts r → (h : Rule) (n l : ℕ) → Led h n ps → is_values (sort g) ≡ true → excluded g h ≡ false → l ≤ level h → l ≤ 16 →
    goes_on g l ts ≡ Some h
goes_led (a_token g x ps ks ts r d) h n l s a b c o = let p = power_is g x h a b s.0 in let q = (s.1 l c o).1 in goes g l x ts h s.0 (omega (arith, p, q))
goes_led (a_part g (Some TagTemplate) k' b' ps k ks ts m r d d') h n l s a b c o = template_led g h ts (first_open d) s.0 a b l (s.1 l c o).1
goes_led _ h n l s a b c o = absurd s

pub led_power : {g : Goal} {ps : List Part} {ks : Trees} {ts r : List Token} → Row g ps ks ts r → (h : Rule) (n : ℕ) → Led h n ps → next_power g ts ≤ inner n
led_power (a_token g x ps ks ts r d) h n s = let l = power_le g x in let p = ap bound_by s.0 in let q = s.2 in omega (arith, l, p, q)
led_power (a_part g (Some TagTemplate) k' b' ps k ks ts m r d d') h n s = let l = template_power g h ts (first_open d) s.0 in let q = s.2 in omega (arith, l, q)
led_power _ h n s = absurd s

pub led_facts : (h : Rule) (n : ℕ) (ps : List Part) → Led h n ps → ((l : ℕ) → l ≤ level h → l ≤ 16 → (l ≤ n) × (l < binding h)) × (is_sequence h ≡ false)
led_facts h n (token x ∷ ps) s = (s.1, s.3)
led_facts h n (part (Some TagTemplate) k b ∷ ps) s = (s.1, s.3)
led_facts h n _ s = absurd s

pub closing_is_no_comma : (x : Token) → is_closing x ≡ true → is_comma x ≡ false
closing_is_no_comma (Punct Comma) e = absurd (false≢true e)
closing_is_no_comma _ e = refl

-- what stands behind a list that may be empty closes it
abbrev pub Closing : Least → List Token → Type 0
Closing l m = (closes m ≡ true) ⊎ (none_is_enough l ≡ false)

-- nothing goes on what the head of a loop declares
pub head_rests : (ts : List Token) → ends_head ts ≡ true → (next_power HeadDeclared ts ≤ 0) × (is_comma_next ts ≡ false)
head_rests [] e = (omega arith, refl)
head_rests (Punct Semicolon ∷ ts) e = (omega arith, refl)
head_rests (Word s ∷ ts) e = (by (same_text s (codes "in")) (same_text s (codes "of")) refl refl e, refl)
  where
    on : (w : List ℕ) → same_text s w ≡ true → power HeadDeclared (Word w) ≤ 0 → power HeadDeclared (Word s) ≤ 0
    on w q p = subst (λ y. power HeadDeclared (Word y) ≤ 0) (sym (same_is s w q)) p

    by : (a b : Bool) → same_text s (codes "in") ≡ a → same_text s (codes "of") ≡ b → (a || (b || false)) ≡ true → power HeadDeclared (Word s) ≤ 0
    by true b p q e = on (codes "in") p (omega arith)
    by false true p q e = on (codes "of") q (omega arith)
    by false false p q e = absurd (false≢true e)
head_rests (x ∷ ts) e = absurd (false≢true e)

inserts_closes : (ts : List Token) → inserts ts ≡ true → (closes ts ≡ true) × (is_comma_next ts ≡ false)
inserts_closes [] e = (refl, refl)
inserts_closes (Punct RightBrace ∷ ts) e = (refl, refl)
inserts_closes (x ∷ ts) e = absurd (false≢true e)

pub closed : {g : Goal} {ps : List Part} {ks : Trees} {ts r : List Token} → Row g ps ks ts r → (i : Goal) (l : Least) → Closed (Some i) l ps → Closing l ts × (next_power i ts ≤ 0) × (is_comma_next ts ≡ false)
closed (a_token g x ps ks ts r d) i l s = let m = power_le i x in let p = s.1 in (inl s.0, omega (arith, m, p), closing_is_no_comma x s.0)
closed (a_lookahead g HeadEnd ps ks ts r p d) i l s =
    let f = head_rests ts p in
    (inr s.1, subst (λ j. next_power j ts ≤ 0) (sym (some_is i HeadDeclared s.0)) f.0, f.1)
  where
    goal_or : Option Goal → Goal
    goal_or None = Anything
    goal_or (Some i) = i

    some_is : (i j : Goal) → Some i ≡ Some j → i ≡ j
    some_is i j e = ap goal_or e
closed (a_semicolon g ps ks ts r d) i l s = (inl refl, ended_statement i (Punct Semicolon ∷ ts) refl, refl)
closed (inserted g ps ks ts r f d) i l s = let c = inserts_closes ts f in (inl c.0, ended_statement i ts (inserts_ends ts f), c.1)
closed _ i l s = absurd s

inserts_stops : (i : Goal) (ts : List Token) → inserts ts ≡ true → stops_at i (Punct RightBrace) ≡ true → stops i ts ≡ true
inserts_stops i [] e s = refl
inserts_stops i (Punct RightBrace ∷ ts) e s = s
inserts_stops i (x ∷ ts) e s = absurd (false≢true e)

pub stopped : {g : Goal} {ps : List Part} {ks : Trees} {ts r : List Token} → Row g ps ks ts r → (i : Goal) → Stopped i ps → (stops i ts ≡ true) × (next_power i ts ≤ 0)
stopped (a_token g x ps ks ts r d) i s = let p = s.1 in (s.0, omega (arith, p))
stopped (a_fork g ps ks ts r d) i s = stopped d i s
stopped (a_semicolon g ps ks ts r d) i s = (s.0, ended_statement i (Punct Semicolon ∷ ts) refl)
stopped (inserted g ps ks ts r f d) i s = (inserts_stops i ts f s.1, ended_statement i ts (inserts_ends ts f))
stopped _ i s = absurd s

pub clause_ends : (ts : List Token) → ends_clause ts ≡ true → ends Statement ts ≡ true
clause_ends [] e = refl
clause_ends (Punct RightBrace ∷ ts) e = refl
clause_ends (Word s ∷ ts) e = by (same_text s (codes "case")) (same_text s (codes "default")) e
  where
    by : (a b : Bool) → (a || (b || false)) ≡ true → (a || (b || (same_text s (codes "else") || (same_text s (codes "catch") || (same_text s (codes "finally") || false))))) ≡ true
    by true b e = refl
    by false true e = refl
    by false false e = absurd (false≢true e)
clause_ends (x ∷ ts) e = absurd (false≢true e)

pub brace_ends : (x : Token) → is_right_brace x ≡ true → (i : Goal) → ends_at i x ≡ true
brace_ends (Punct RightBrace) e Statement = refl
brace_ends (Punct RightBrace) e ModuleItem = refl
brace_ends (Punct RightBrace) e _ = refl
brace_ends x e i = absurd (false≢true e)

pub ends_brace : (i : Goal) (x : Token) (ts : List Token) → is_right_brace x ≡ true → ends i (x ∷ ts) ≡ true
ends_brace Leading (Punct RightBrace) ts e = refl
ends_brace Leading x ts e = absurd (false≢true e)
ends_brace i x ts e = brace_ends x e i

pub ended : {g : Goal} {ps : List Part} {ks : Trees} {ts r : List Token} → Row g ps ks ts r → (i : Goal) → Ended i ps → ends i ts ≡ true
ended (a_token g x ps ks ts r d) i s = ends_brace i x ts s
ended (a_lookahead g NoDirective ps ks ts r p d) i s = subst (λ j. ends j ts ≡ true) (sym s) p
ended (a_lookahead g CaseEnd ps ks ts r p d) i s = subst (λ j. ends j ts ≡ true) (sym s) (clause_ends ts p)
ended _ i s = absurd s

pub moved : {s u v : State} → s ≡ u → Reaches u v → Reaches s v
moved {v} e r = subst (λ x. Reaches x v) (sym e) r

pub opened : (w : Opener) (ts : List Token) → opens w (opener w ∷ ts) ≡ true
opened Equals ts = refl
opened Else ts = refl
opened Catch ts = refl
opened Finally ts = refl
opened Extends ts = refl
opened As ts = refl

-- ---- lists

pub behind_commas : (l : Least) (m : List Token) → Closing l m → Closing (behind_comma l) m
behind_commas Gaps m c = c
behind_commas Zero m c = inr refl
behind_commas One m c = inr refl
behind_commas Two m c = inr refl

pub closing_now : (l : Least) (m : List Token) → none_is_enough l ≡ true → Closing l m → closes m ≡ true
closing_now l m e (inl c) = c
closing_now l m e (inr c) = absurd (false≢true (sym c ∙ e))

pub separator_closes : (x : Token) → is_separator x ≡ false → (is_closing x ≡ false) × (is_comma x ≡ false)
separator_closes (Punct Comma) e = absurd (false≢true (sym e))
separator_closes (Punct RightParen) e = absurd (false≢true (sym e))
separator_closes (Punct RightBracket) e = absurd (false≢true (sym e))
separator_closes (Punct RightBrace) e = absurd (false≢true (sym e))
separator_closes (Punct Semicolon) e = absurd (false≢true (sym e))
separator_closes _ e = (refl, refl)

pub separates_not : (ts : List Token) → separates ts ≡ false → (closes ts ≡ false) × (is_comma_next ts ≡ false)
separates_not [] e = absurd (false≢true (sym e))
separates_not (x ∷ ts) e = separator_closes x e

pub weak_is_no_comma : (g : Goal) (h : Rule) (r : List Token) → is_values (sort g) ≡ true → excluded g h ≡ false → infix_rule (Punct Comma) ≡ Some h → binding h ≡ 1 → next_power g r ≤ 0 → is_comma_next r ≡ false
weak_is_no_comma g h [] a b e n q = refl
weak_is_no_comma g h (Punct Comma ∷ r) a b e n q = let p = power_is g (Punct Comma) h a b e in absurd (omega (arith, p, n, q))
weak_is_no_comma g h (x ∷ r) a b e n q = refl

pub declares_separates : (ts : List Token) → declares ts ≡ true → separates ts ≡ false
declares_separates [] e = absurd (false≢true e)
declares_separates (Word s ∷ ts) e = refl
declares_separates (x ∷ ts) e = absurd (false≢true e)

pub paren_separates : (ts : List Token) → is_paren_next ts ≡ true → separates ts ≡ false
paren_separates [] e = absurd (false≢true e)
paren_separates (Punct LeftParen ∷ ts) e = refl
paren_separates (x ∷ ts) e = absurd (false≢true e)

pub clause_separates : (ts : List Token) → starts_clause ts ≡ true → separates ts ≡ false
clause_separates [] e = absurd (false≢true e)
clause_separates (Word s ∷ ts) e = refl
clause_separates (x ∷ ts) e = absurd (false≢true e)

pub rest_separates : (ts : List Token) → starts_rest ts ≡ true → separates ts ≡ false
rest_separates [] e = absurd (false≢true e)
rest_separates (TemplateMiddle s ∷ ts) e = refl
rest_separates (TemplateTail s ∷ ts) e = refl
rest_separates (x ∷ ts) e = absurd (false≢true e)

pub template_separates : (ts : List Token) → starts_template ts ≡ true → separates ts ≡ false
template_separates [] e = absurd (false≢true e)
template_separates (TemplateWhole s ∷ ts) e = refl
template_separates (TemplateHead s ∷ ts) e = refl
template_separates (x ∷ ts) e = absurd (false≢true e)

pub link_separates : (ts : List Token) → starts_link ts ≡ true → separates ts ≡ false
link_separates [] e = absurd (false≢true e)
link_separates (Punct Dot ∷ ts) e = refl
link_separates (Punct OptionalDot ∷ ts) e = refl
link_separates (Punct LeftBracket ∷ ts) e = refl
link_separates (Punct LeftParen ∷ ts) e = refl
link_separates (x ∷ ts) e = absurd (false≢true e)

pub equals_separates : (ts : List Token) → is_equals_next ts ≡ true → separates ts ≡ false
equals_separates [] e = absurd (false≢true e)
equals_separates (Punct (Assigns Assign) ∷ ts) e = refl
equals_separates (x ∷ ts) e = absurd (false≢true e)

pub directive_separates : (ts : List Token) → starts_directive ts ≡ true → separates ts ≡ false
directive_separates [] e = absurd (false≢true e)
directive_separates (Quoted s ∷ ts) e = refl
directive_separates (x ∷ ts) e = absurd (false≢true e)

pub declaration_separates : (ts : List Token) → starts_declaration ts ≡ true → separates ts ≡ false
declaration_separates [] e = absurd (false≢true e)
declaration_separates (Word s ∷ ts) e = refl
declaration_separates (x ∷ ts) e = absurd (false≢true e)

pub default_separates : (ts : List Token) → starts_default ts ≡ true → separates ts ≡ false
default_separates [] e = absurd (false≢true e)
default_separates (Word s ∷ ts) e = refl
default_separates (x ∷ ts) e = absurd (false≢true e)

-- no item begins with what separates items, and no part that may be absent with what stands where
-- it is
pub listed_start : (i : Goal) (ts : List Token) → is_statements (sort i) ≡ false → Starting (sort i) ts → separates ts ≡ false
listed_start i ts e s = by (sort i) e s
  where
    by : (j : Sort) → is_statements j ≡ false → Starting j ts → separates ts ≡ false
    by Statements e s = absurd (false≢true (sym e))
    by Bindings e s = bars_separate ts s.0
    by Values e s = bars_separate ts s
    by Cases e s = clause_separates ts s
    by BlockParts e s = brace_separates ts s
    by Methods e s = paren_separates ts s
    by GeneratorMethods e s = paren_separates ts s
    by HeadDeclarations e s = declares_separates ts s
    by TemplateRests e s = rest_separates ts s
    by TagTemplates e s = template_separates ts s
    by Links e s = link_separates ts s
    by Names e s = named_separates ts s
    by (DefaultsOf b t) e s = equals_separates ts s
    by Patterns e s = opens_separates ts s
    by Leadings e s = directive_separates ts s
    by Declarations e s = declaration_separates ts s
    by DefaultDeclarations e s = default_separates ts s
    by KeyNames e s = key_separates ts s
    by ClassBodies e s = brace_separates ts s
    by ClassElements e s = s.0
    by _ e s = s

pub perhaps_start : (i : Goal) (ts : List Token) → is_statements (sort i) ≡ false → Starting (sort i) ts → stops i ts ≡ false
perhaps_start i [] e s = listed_start i [] e s
perhaps_start Statement (x ∷ ts) e s = absurd (false≢true (sym e))
perhaps_start ModuleItem (x ∷ ts) e s = absurd (false≢true (sym e))
perhaps_start Binding (x ∷ ts) e s = s.1
perhaps_start i (x ∷ ts) e s = (separator_closes x (listed_start i (x ∷ ts) e s)).0

-- ---- brackets

abbrev pub deep : ℕ → ℕ → ℕ
deep zero d = d
deep (suc j) d = suc (deep j d)

pub token_neutral : (k : Bracket) (j : ℕ) (ps : List Part) (ts r : List Token) (d : ℕ) →
    (elim k as (λ b. Type 0) [ Opens ↦ Balanced (suc j) ps | Closes ↦ elim j as (λ i. Type 0) [ zero ↦ ⊥ | suc i ↦ Balanced i ps ] | Neither ↦ Balanced j ps ]) →
    ((i : ℕ) → Balanced i ps → behind_bracket (deep i d) ts ≡ behind_bracket d r) →
    elim k as (λ b. List Token) [ Opens ↦ behind_bracket (suc (deep j d)) ts | Closes ↦ elim (deep j d) as (λ i. List Token) [ zero ↦ ts | suc e ↦ behind_bracket e ts ] | Neither ↦ behind_bracket (deep j d) ts ] ≡ behind_bracket d r
token_neutral Opens j ps ts r d b f = f (suc j) b
token_neutral Closes zero ps ts r d b f = absurd b
token_neutral Closes (suc j) ps ts r d b f = f j b
token_neutral Neither j ps ts r d b f = f j b

pub opener_neutral : (w : Opener) (d : ℕ) (ts : List Token) → behind_bracket d (opener w ∷ ts) ≡ behind_bracket d ts
opener_neutral Equals d ts = refl
opener_neutral Else d ts = refl
opener_neutral Catch d ts = refl
opener_neutral Finally d ts = refl
opener_neutral Extends d ts = refl
opener_neutral As d ts = refl

mutual
  pub neutral : {p : Place} {t : Tree} {ts r : List Token} → Groups p t ts r → (d : ℕ) → behind_bracket d ts ≡ behind_bracket d r
  neutral (by_rule p h ks ts r f c) d = neutral_row c 0 (balanced h) d

  pub neutral_row : {g : Goal} {ps : List Part} {ks : Trees} {ts r : List Token} → Row g ps ks ts r → (j : ℕ) → Balanced j ps → (d : ℕ) → behind_bracket (deep j d) ts ≡ behind_bracket d r
  neutral_row (end g r) zero b d = refl
  neutral_row (end g r) (suc j) b d = absurd b
  neutral_row (a_token g x ps ks ts r c) j b d = token_neutral (bracket x) j ps ts r d b (λ i b'. neutral_row c i b' d)
  neutral_row (a_left g w n m' ps k ks ts m r c e) j b d = neutral c (deep j d) ∙ neutral_row e j b d
  neutral_row (a_part g o n m' ps k ks ts m r c e) j b d = neutral c (deep j d) ∙ neutral_row e j b d
  neutral_row (a_list g o l ps is ks ts m r c e) j b d = neutral_items c (deep j d) ∙ neutral_row e j b d
  neutral_row (a_lookahead g c ps ks ts r p e) j b d = neutral_row e j b d
  neutral_row (present g i ps k ks ts m r c e) j b d = neutral c (deep j d) ∙ neutral_row e j b d
  neutral_row (missing g i ps ks ts r e) j b d = neutral_row e j b d
  neutral_row (with g w o n ps k ks ts m r c e) j b d = opener_neutral w (deep j d) ts ∙ neutral c (deep j d) ∙ neutral_row e j b d
  neutral_row (without g w o n ps ks ts r f e) j b d = neutral_row e j b d
  neutral_row (a_block g i ps is ks ts m r c e) j b d = neutral_statements c (deep j d) ∙ neutral_row e j b d
  neutral_row (a_silent g v ps ks ts r e) j b d = neutral_row e j b d
  neutral_row (a_fork g ps ks ts r e) j b d = neutral_row e j b d
  neutral_row (a_semicolon g ps ks ts r e) j b d = neutral_row e j b d
  neutral_row (inserted g ps ks ts r f e) j b d = neutral_row e j b d

  pub neutral_items : {i : Goal} {l : Least} {is : Trees} {ts r : List Token} → Items i l is ts r → (d : ℕ) → behind_bracket d ts ≡ behind_bracket d r
  neutral_items (nothing g l r u) d = refl
  neutral_items (gap g l is m r u e) d = neutral_items e d
  neutral_items (last g l t ts r u c) d = neutral c d
  neutral_items (next g l t is ts m r c e) d = neutral c d ∙ neutral_items e d

  pub neutral_statements : {i : Goal} {is : Trees} {ts r : List Token} → StatementList i is ts r → (d : ℕ) → behind_bracket d ts ≡ behind_bracket d r
  neutral_statements (no_more i r) d = refl
  neutral_statements (more i t is ts m r c e) d = neutral c d ∙ neutral_statements e d
