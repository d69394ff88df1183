-- By what tokens each production is told from the others.
use Rattle.std.specs.Prelude.{ℕ, suc, ◌+◌, ◌≡◌, refl, ◌≤◌, ◌<◌, nat_lt, Bool, true, false, not, ◌&&◌, List, [], ◌∷◌, Option, Some, None, if◌then◌else◌, nat_eq, ◌||◌, codes}
use Rattle.std.proofs.Common.{ap, sym, arith, ◌⊎◌, inl, inr, ◌∙◌}
use Rattle.std.proofs.lemmas.Bool.{ltb-true, ltb-false, false≢true, eqb-true}
use Rattle.mini_model.specs.declared.kind.VariableDeclarationKind.TheVariants.{Var, Let, Const}
use Rattle.mini_model.specs.declared.operator.BinaryOperator.{BinaryOperator}
use Rattle.mini_model.specs.declared.operator.BinaryOperator.TheVariants as binary
use Rattle.mini_model.specs.declared.operator.LogicalOperator.TheVariants.{Or, And, Coalesce}
use Rattle.mini_model.specs.declared.operator.UnaryOperator.TheVariants as unary
use Rattle.mini_model.specs.declared.operator.UpdateOperator.TheVariants.{Increment, Decrement}
use Rattle.mini_model.specs.Position.{binary_level, left_level, right_level}
use Rattle.mini_model.specs.Weight.{same_text}
use Rattle.mini_print.specs.Token.{Token, Word, Punct, Comma, binary_token, Colon, TemplateWhole, TemplateHead, Quoted}
use Rattle.mini_print.specs.Grammar.{Sort, Values, Names, Bindings, Statements, Declarators, Properties, Bodies, Rule, Reference, NumberLiteral, BigIntLiteral, TextLiteral, RegExpLiteral, Null, This, True, False, Parenthesized, Array, Member, Index, New, Import, Call, PropertyName, Postfix, Prefix, Unary, Binary, Logical, Conditional, Assignment, Sequence, Arrow, BindingName, Block as BlockRule, Variables, Declarator, Empty, ExpressionStatement, If, DoWhile, While, For, Return, Throw, Debugger, Object, KeyValue, Computed, Spread, FunctionExpression, FunctionDeclaration, FunctionBody, SpreadItem, ArrowBlock, Break, Continue, Two, NoStatement, permits, begins_statement, Part, token, left, part, commas, lookahead, form, level, is_reserved, is_of, SuperMember, SuperIndex, SuperCall, NewTarget, ImportMeta, PrivateName, PrivateIn, Yield, YieldFrom, GeneratorExpression, GeneratorDeclaration, Label, Switch, Case, DefaultCase, Try, CatchParam, CatchBare, BlockPart, Cases, Catches, BlockParts, begins_label, is_colon_next, is_word_of, statement_words, ObjectPattern, ArrayPattern, Rest, BoundKeyValue, BoundComputed, BoundShorthand, BoundRest, Shorthand, BoundProperties, ForIn, ForOf, ForDeclared, ForDeclaredIn, ForDeclaredOf, HeadVariables, HeadDeclarations, MethodProperty, Getter, Setter, GeneratorProperty, MethodFunction, GeneratorMethod, Methods, GeneratorMethods, KeyWord, KeyText, KeyNumber, KeyNames, WholeTemplate, Template, MiddlePiece, TailPiece, TaggedTemplate, TagWhole, TagParts, Chain, FirstMember, FirstIndex, FirstCall, LinkMember, LinkIndex, LinkCall, OptionalMember, OptionalIndex, OptionalCall, TagTemplate, TemplateRests, TagTemplates, FirstLinks, Links, Defaulted, BoundDefault, NamedDefault, ComputedMethod, ComputedGetter, ComputedSetter, ComputedGenerator, BoundElements, DefaultsOf, same_flag, ClassPlain, ClassNamed, ClassDeclared, ClassBody, ClassMethod, ClassComputedMethod, ClassGenerator, ClassComputedGenerator, ClassGetter, ClassComputedGetter, ClassSetter, ClassComputedSetter, Field, ComputedField, StaticElement, StaticInit, PrivateKey, ClassBodies, ClassElements, Leadings, Directive, ArrayTarget, ObjectTarget, PatternItem, ValueItem, PatternRest, ValueRest, TargetShorthand, TargetDefault, TargetKeyValue, TargetComputed, TargetPropertyRest, PatternAssignment, Patterns, TargetElements, TargetProperties, YieldBare, begins_import, Declarations, DefaultDeclarations, ImportItems, ExportItems, ForwardItems, ImportBare, ImportNames, ImportNamespace, ImportDefault, ImportDefaultNames, ImportDefaultNamespace, ImportShort, ImportAs, ExportNames, ExportFrom, ExportAll, ExportDeclared, ExportValue, ExportDefault, ExportShort, ExportAs, ForwardName, ForwardText, ForwardAs, DeclaredVariables, DeclaredFunction, DeclaredGenerator, DeclaredClass, DefaultFunction, DefaultGenerator, DefaultClass, DefaultClassNamed, ForPatternIn, ForPatternOf, ArrowName, ArrowNameBlock, NewBare}
use Rattle.mini_print.specs.Text.{escaped}
use Rattle.mini_print.proofs.Escapes.{unescaped, unescaped_back, escapes_again}
use Rattle.mini_print.proofs.Reader.{prefix, statement_at, infix_rule, binding, is_sequence, is_left_paren, Neither, bracket, label_or_expression, statement_start, import_at, start}

-- what stands behind a part of this level is no operator that binds tighter: those of its own level
-- may group to the left
abbrev pub inner : ℕ → ℕ
inner n = if nat_lt n 3 then n else (if nat_lt n 13 then suc n else (if nat_lt n 15 then n else suc n))

-- where a level is, and what stands behind it
abbrev pub Ranges : ℕ → ℕ → Type 0
Ranges n v = ((n < 3) × (v ≡ n)) ⊎ (((3 ≤ n) × (n < 13) × (v ≡ suc n)) ⊎ (((13 ≤ n) × (n < 15) × (v ≡ n)) ⊎ ((15 ≤ n) × (v ≡ suc n))))

pub ranges_by : (n : ℕ) (a b c : Bool) → nat_lt n 3 ≡ a → nat_lt n 13 ≡ b → nat_lt n 15 ≡ c → Ranges n (if a then n else (if b then suc n else (if c then n else suc n)))
ranges_by n true b c p q r = inl (ltb-true n 3 p, refl)
ranges_by n false true c p q r = inr (inl (ltb-false n 3 p, ltb-true n 13 q, refl))
ranges_by n false false true p q r = inr (inr (inl (ltb-false n 13 q, ltb-true n 15 r, refl)))
ranges_by n false false false p q r = inr (inr (inr (ltb-false n 15 r, refl)))

pub ranges : (n : ℕ) → Ranges n (inner n)
ranges n = ranges_by n (nat_lt n 3) (nat_lt n 13) (nat_lt n 15) refl refl refl

pub above : (n v : ℕ) → Ranges n v → n ≤ v
above n v h = grind (arith, h)

pub grows : (n m v w : ℕ) → n ≤ m → Ranges n v → Ranges m w → v ≤ w
grows n m v w h p q = grind (arith, h, p, q)

pub inner_above : (n : ℕ) → n ≤ inner n
inner_above n = above n (inner n) (ranges n)

pub inner_grows : (n m : ℕ) → n ≤ m → inner n ≤ inner m
inner_grows n m h = grows n m (inner n) (inner m) h (ranges n) (ranges m)

-- ---- what tells a production

-- an operator behind the first part
abbrev pub Led : Rule → ℕ → List Part → Type 0
Led h n (token x ∷ ps) = (infix_rule x ≡ Some h) × ((l : ℕ) → l ≤ level h → l ≤ 16 → (l ≤ n) × (l < binding h)) × (binding h ≤ inner n) × (is_sequence h ≡ false)
Led h n (part (Some TagTemplate) k b ∷ ps) = ((s : List ℕ) → (infix_rule (TemplateWhole s) ≡ Some h) × (infix_rule (TemplateHead s) ≡ Some h)) × ((l : ℕ) → l ≤ level h → l ≤ 16 → (l ≤ n) × (l < binding h)) × (binding h ≤ inner n) × (is_sequence h ≡ false)
Led h n _ = ⊥

abbrev pub is_values : Sort → Bool
is_values Values = true
is_values _ = false

-- the next tokens, but where a parenthesis begins it
abbrev pub ToldBy : Bool → Sort → Rule → Token → Type 0
ToldBy true s h x = Unit {0}
ToldBy false s h x = (ts : List Token) → prefix s (x ∷ ts) ≡ Some h

abbrev pub ToldByTwo : Bool → Sort → Rule → Token → Token → Type 0
ToldByTwo true s h x y = Unit {0}
ToldByTwo false s h x y = (ts : List Token) → prefix s (x ∷ y ∷ ts) ≡ Some h

-- the productions of which more has to be known than the first two tokens
abbrev pub is_special : Rule → Bool
is_special Parenthesized = true
is_special Arrow = true
is_special ArrowBlock = true
is_special (ArrowName s) = true
is_special (ArrowNameBlock s) = true
is_special (Reference s) = true
is_special New = true
is_special NewBare = true
is_special Yield = true
is_special YieldBare = true
is_special FunctionExpression = true
is_special FunctionDeclaration = true
is_special CatchParam = true
is_special CatchBare = true
is_special MethodProperty = true
is_special Getter = true
is_special Setter = true
is_special MethodFunction = true
is_special GeneratorMethod = true
is_special GeneratorProperty = true
is_special For = true
is_special ForDeclared = true
is_special ForIn = true
is_special ForOf = true
is_special ForDeclaredIn = true
is_special ForDeclaredOf = true
is_special ForPatternIn = true
is_special ForPatternOf = true
is_special KeyValue = true
is_special BoundKeyValue = true
is_special (Shorthand s) = true
is_special (BoundShorthand s) = true
is_special OptionalMember = true
is_special FirstMember = true
is_special FirstCall = true
is_special LinkCall = true
is_special Defaulted = true
is_special (BoundDefault s) = true
is_special Computed = true
is_special ComputedMethod = true
is_special ClassPlain = true
is_special ClassMethod = true
is_special ClassComputedMethod = true
is_special ClassGenerator = true
is_special ClassGetter = true
is_special ClassSetter = true
is_special Field = true
is_special ComputedField = true
is_special StaticElement = true
is_special Array = true
is_special Object = true
is_special PatternAssignment = true
is_special PatternItem = true
is_special ValueItem = true
is_special PatternRest = true
is_special ValueRest = true
is_special TargetKeyValue = true
is_special (TargetShorthand s) = true
is_special (TargetDefault s) = true
is_special (ImportDefault s) = true
is_special (ImportDefaultNames s) = true
is_special (ImportDefaultNamespace s) = true
is_special ExportNames = true
is_special ExportFrom = true
is_special ExportDeclared = true
is_special ExportValue = true
is_special ExportDefault = true
is_special (ImportShort s) = true
is_special ImportAs = true
is_special (ExportShort s) = true
is_special (ForwardName s) = true
is_special (ForwardText s) = true
is_special ForwardAs = true
is_special DeclaredFunction = true
is_special DefaultFunction = true
is_special DefaultClass = true
is_special _ = false

-- the productions that are alike with another up to a fork
abbrev pub is_forked : Rule → Bool
is_forked ForIn = true
is_forked ForOf = true
is_forked ForDeclaredIn = true
is_forked ForDeclaredOf = true
is_forked NewBare = true
is_forked _ = false

abbrev pub Told : Sort → Rule → List Part → Type 0
Told s h (token x ∷ token y ∷ ps) = ToldByTwo (is_left_paren x) s h x y
Told s h (token x ∷ ps) = ToldBy (is_left_paren x) s h x
Told s h (left w n b ∷ ps) = Led h n ps × (is_values s ≡ true)
Told s h (commas None Two ∷ []) = (infix_rule (Punct Comma) ≡ Some h) × (is_sequence h ≡ true) × (level h ≡ 0) × (binding h ≡ 1) × (is_values s ≡ true)
Told s h (lookahead c ∷ ps) = (ts : List Token) → permits c ts ≡ true → prefix s ts ≡ Some h
Told s h (part (Some i) n b ∷ ps) = (ts : List Token) → prefix s ts ≡ Some h
Told s h _ = ⊥

pub both : (b c : Bool) → (b && c) ≡ true → (b ≡ true) × (c ≡ true)
both true true e = (refl, refl)
both true false e = absurd (false≢true e)
both false c e = absurd (false≢true e)

-- a name is none of some reserved words
abbrev pub are_all_reserved : List (List ℕ) → Bool
are_all_reserved [] = true
are_all_reserved (w ∷ ws) = is_reserved w && are_all_reserved ws

pub same_is : (s t : List ℕ) → same_text s t ≡ true → s ≡ t
same_is [] [] e = refl
same_is [] (d ∷ t) e = absurd (false≢true e)
same_is (c ∷ s) [] e = absurd (false≢true e)
same_is (c ∷ s) (d ∷ t) e = let a = both (nat_eq c d) (same_text s t) e in ap (λ y. y ∷ s) (eqb-true c d a.0) ∙ ap (λ y. d ∷ y) (same_is s t a.1)

pub unreserved_is_not : (ws : List (List ℕ)) (s : List ℕ) → are_all_reserved ws ≡ true → is_reserved s ≡ false → is_word_of ws s ≡ false
unreserved_is_not [] s a e = refl
unreserved_is_not (w ∷ ws) s a e = let b = both (is_reserved w) (are_all_reserved ws) a in by (same_text s w) refl b.0 (unreserved_is_not ws s b.1 e)
  where
    by : (c : Bool) → same_text s w ≡ c → is_reserved w ≡ true → is_word_of ws s ≡ false → (c || is_word_of ws s) ≡ false
    by true q r f = absurd (false≢true (sym e ∙ ap is_reserved (same_is s w q) ∙ r))
    by false q r f = f

pub untrue : (b : Bool) → not b ≡ true → b ≡ false
untrue true e = absurd (false≢true e)
untrue false e = refl

pub no_word : (b : Bool) (x y : Option Rule) → not b ≡ true → (if b then x else y) ≡ y
no_word true x y e = absurd (false≢true e)
no_word false x y e = refl

pub told_expression : (ts : List Token) → permits NoStatement ts ≡ true → statement_at ts ≡ Some ExpressionStatement
told_expression [] e = refl
told_expression (x ∷ ts) e =
    let a = both (not (begins_statement x)) (not (begins_import x ts) && not (begins_label x ts)) e in
    let b = both (not (begins_import x ts)) (not (begins_label x ts)) a.1 in
    no_word (begins_statement x) _ _ a.0 ∙ no_word (begins_import x ts) _ _ b.0 ∙ ap Some (unlabelled x ts b.1)
  where
    unlabelled : (x : Token) (ts : List Token) → not (begins_label x ts) ≡ true → label_or_expression x ts ≡ ExpressionStatement
    unlabelled (Word s) ts e = ap (λ b. if b then Label s else ExpressionStatement) (untrue (not (is_reserved s) && is_colon_next ts) e)
    unlabelled x ts e = refl

pub told_label : (s : List ℕ) → is_of Statements (Label s) ≡ true → (ts : List Token) → statement_at (Word s ∷ Punct Colon ∷ ts) ≡ Some (Label s)
told_label s e ts =
    ap (λ b. if b then statement_start (Word s) (Punct Colon ∷ ts) else (if begins_import (Word s) (Punct Colon ∷ ts) then import_at (Punct Colon ∷ ts) else Some (label_or_expression (Word s) (Punct Colon ∷ ts)))) (unreserved_is_not statement_words s refl (untrue (is_reserved s) e)) ∙
    ap (λ b. if b && true then import_at (Punct Colon ∷ ts) else Some (label_or_expression (Word s) (Punct Colon ∷ ts))) (unreserved_is_not (codes "import" ∷ []) s refl (untrue (is_reserved s) e)) ∙
    ap (λ b. Some (if b && true then Label s else ExpressionStatement)) e

-- what is checked of a binary operator: by its token, how tightly it holds its operands, and that
-- it is no bracket
pub operator : (o : BinaryOperator) → (infix_rule (binary_token o) ≡ Some (Binary o)) × (binary_level o ≤ left_level o) × (binary_level o + 1 ≤ inner (left_level o)) × (inner (binary_level o) ≤ right_level o) × (bracket (binary_token o) ≡ Neither) × (left_level o ≤ 16) × (right_level o ≤ 16)
operator binary.Equality = (refl, omega arith, omega arith, omega arith, refl, omega arith, omega arith)
operator binary.Inequality = (refl, omega arith, omega arith, omega arith, refl, omega arith, omega arith)
operator binary.StrictEquality = (refl, omega arith, omega arith, omega arith, refl, omega arith, omega arith)
operator binary.StrictInequality = (refl, omega arith, omega arith, omega arith, refl, omega arith, omega arith)
operator binary.LessThan = (refl, omega arith, omega arith, omega arith, refl, omega arith, omega arith)
operator binary.LessEqualThan = (refl, omega arith, omega arith, omega arith, refl, omega arith, omega arith)
operator binary.GreaterThan = (refl, omega arith, omega arith, omega arith, refl, omega arith, omega arith)
operator binary.GreaterEqualThan = (refl, omega arith, omega arith, omega arith, refl, omega arith, omega arith)
operator binary.ShiftLeft = (refl, omega arith, omega arith, omega arith, refl, omega arith, omega arith)
operator binary.ShiftRight = (refl, omega arith, omega arith, omega arith, refl, omega arith, omega arith)
operator binary.ShiftRightZeroFill = (refl, omega arith, omega arith, omega arith, refl, omega arith, omega arith)
operator binary.Addition = (refl, omega arith, omega arith, omega arith, refl, omega arith, omega arith)
operator binary.Subtraction = (refl, omega arith, omega arith, omega arith, refl, omega arith, omega arith)
operator binary.Multiplication = (refl, omega arith, omega arith, omega arith, refl, omega arith, omega arith)
operator binary.Division = (refl, omega arith, omega arith, omega arith, refl, omega arith, omega arith)
operator binary.Remainder = (refl, omega arith, omega arith, omega arith, refl, omega arith, omega arith)
operator binary.Exponential = (refl, omega arith, omega arith, omega arith, refl, omega arith, omega arith)
operator binary.BitwiseAnd = (refl, omega arith, omega arith, omega arith, refl, omega arith, omega arith)
operator binary.BitwiseXor = (refl, omega arith, omega arith, omega arith, refl, omega arith, omega arith)
operator binary.BitwiseOr = (refl, omega arith, omega arith, omega arith, refl, omega arith, omega arith)
operator binary.In = (refl, omega arith, omega arith, omega arith, refl, omega arith, omega arith)
operator binary.Instanceof = (refl, omega arith, omega arith, omega arith, refl, omega arith, omega arith)

abbrev pub ToldUnless : Bool → Sort → Rule → List Part → Type 0
ToldUnless true s h ps = Unit {0}
ToldUnless false s h ps = Told s h ps

text_start : (s : List ℕ) → start (Quoted (escaped s)) ≡ Some (TextLiteral s)
text_start s = ap (λ b. if b then Some (TextLiteral (unescaped (escaped s))) else None) (escapes_again s) ∙ ap (λ y. Some (TextLiteral y)) (unescaped_back s)

pub told_value : (h : Rule) → is_of Values h ≡ true → ToldUnless (is_special h) Values h (form h)
told_value (Reference s) e = tt
told_value (ArrowName s) e = tt
told_value (ArrowNameBlock s) e = tt
told_value (NumberLiteral n) e = λ ts. refl
told_value (BigIntLiteral n) e = λ ts. refl
told_value (TextLiteral s) e = λ ts. text_start s
told_value (RegExpLiteral p f) e = λ ts. refl
told_value Null e = λ ts. refl
told_value This e = λ ts. refl
told_value True e = λ ts. refl
told_value False e = λ ts. refl
told_value New e = tt
told_value NewBare e = tt
told_value Yield e = tt
told_value YieldBare e = tt
told_value YieldFrom e = λ ts. refl
told_value GeneratorExpression e = λ ts. refl
told_value SuperMember e = λ ts. refl
told_value SuperIndex e = λ ts. refl
told_value SuperCall e = λ ts. refl
told_value NewTarget e = λ ts. refl
told_value ImportMeta e = λ ts. refl
told_value (PrivateIn s) e = λ ts. refl
told_value Import e = λ ts. refl
told_value (Prefix Increment) e = λ ts. refl
told_value (Prefix Decrement) e = λ ts. refl
told_value (Unary unary.UnaryPlus) e = λ ts. refl
told_value (Unary unary.UnaryNegation) e = λ ts. refl
told_value (Unary unary.LogicalNot) e = λ ts. refl
told_value (Unary unary.BitwiseNot) e = λ ts. refl
told_value (Unary unary.Typeof) e = λ ts. refl
told_value (Unary unary.Void) e = λ ts. refl
told_value (Unary unary.Delete) e = λ ts. refl
told_value Object e = tt
told_value SpreadItem e = λ ts. refl
told_value ArrowBlock e = tt
told_value FunctionExpression e = tt
told_value Array e = tt
told_value PatternAssignment e = tt
told_value Parenthesized e = tt
told_value Arrow e = tt
told_value Member e = ((refl, (λ l a b. (omega (arith, a, b), omega (arith, a, b))), omega arith, refl), refl)
told_value Index e = ((refl, (λ l a b. (omega (arith, a, b), omega (arith, a, b))), omega arith, refl), refl)
told_value Call e = ((refl, (λ l a b. (omega (arith, a, b), omega (arith, a, b))), omega arith, refl), refl)
told_value (Postfix Increment) e = ((refl, (λ l a b. (omega (arith, a, b), omega (arith, a, b))), omega arith, refl), refl)
told_value (Postfix Decrement) e = ((refl, (λ l a b. (omega (arith, a, b), omega (arith, a, b))), omega arith, refl), refl)
told_value (Binary o) e = let f = operator o in let u = f.1 in ((f.0, (λ l a b. (omega (arith, a, u), omega (arith, a))), f.2, refl), refl)
told_value (Logical Or) e = ((refl, (λ l a b. (omega (arith, a, b), omega (arith, a, b))), omega arith, refl), refl)
told_value (Logical And) e = ((refl, (λ l a b. (omega (arith, a, b), omega (arith, a, b))), omega arith, refl), refl)
told_value (Logical Coalesce) e = ((refl, (λ l a b. (omega (arith, a, b), omega (arith, a, b))), omega arith, refl), refl)
told_value Conditional e = ((refl, (λ l a b. (omega (arith, a, b), omega (arith, a, b))), omega arith, refl), refl)
told_value (Assignment o) e = ((refl, (λ l a b. (omega (arith, a, b), omega (arith, a, b))), omega arith, refl), refl)
told_value Sequence e = (refl, refl, refl, refl, refl)
told_value (WholeTemplate s) e = λ ts. refl
told_value (Template s) e = λ ts. refl
told_value TaggedTemplate e = (((λ s. (refl, refl)), (λ l a b. (omega (arith, a, b), omega (arith, a, b))), omega arith, refl), refl)
told_value ClassPlain e = tt
told_value (ClassNamed s) e = λ ts. ap (λ b. Some (if b then ClassPlain else ClassNamed s)) (untrue (is_reserved s) e)
told_value Chain e = ((refl, (λ l a b. (omega (arith, a, b), omega (arith, a, b))), omega arith, refl), refl)
told_value _ e = absurd (false≢true e)

pub told_statement : (h : Rule) → is_of Statements h ≡ true → ToldUnless (is_special h) Statements h (form h)
told_statement BlockRule e = λ ts. refl
told_statement (Variables Var) e = λ ts. refl
told_statement (Variables Let) e = λ ts. refl
told_statement (Variables Const) e = λ ts. refl
told_statement Empty e = λ ts. refl
told_statement If e = λ ts. refl
told_statement DoWhile e = λ ts. refl
told_statement While e = λ ts. refl
told_statement For e = tt
told_statement ForDeclared e = tt
told_statement ForIn e = tt
told_statement ForOf e = tt
told_statement ForDeclaredIn e = tt
told_statement ForDeclaredOf e = tt
told_statement ForPatternIn e = tt
told_statement ForPatternOf e = tt
told_statement Return e = λ ts. refl
told_statement Throw e = λ ts. refl
told_statement Debugger e = λ ts. refl
told_statement Break e = λ ts. refl
told_statement Continue e = λ ts. refl
told_statement FunctionDeclaration e = tt
told_statement GeneratorDeclaration e = λ ts. refl
told_statement Switch e = λ ts. refl
told_statement Try e = λ ts. refl
told_statement (ClassDeclared s) e = λ ts. refl
told_statement (Label s) e = told_label s e
told_statement ExpressionStatement e = told_expression
told_statement (ImportBare s) e = λ ts. ap (λ y. Some (ImportBare y)) (unescaped_back s)
told_statement ImportNames e = λ ts. refl
told_statement ImportNamespace e = λ ts. refl
told_statement (ImportDefault s) e = tt
told_statement (ImportDefaultNames s) e = tt
told_statement (ImportDefaultNamespace s) e = tt
told_statement ExportNames e = tt
told_statement ExportFrom e = tt
told_statement ExportAll e = λ ts. refl
told_statement ExportDeclared e = tt
told_statement ExportValue e = tt
told_statement ExportDefault e = tt
told_statement _ e = absurd (false≢true e)

pub flag_is : (b d : Bool) → same_flag b d ≡ true → b ≡ d
flag_is true true e = refl
flag_is false false e = refl
flag_is true false e = absurd (false≢true e)
flag_is false true e = absurd (false≢true e)

pub default_is : (b d : Bool) (s t : List ℕ) → (same_flag b d && same_text s t) ≡ true → NamedDefault b s ≡ NamedDefault d t
default_is b d s t e = let a = both (same_flag b d) (same_text s t) e in ap (λ y. NamedDefault y s) (flag_is b d a.0) ∙ ap (λ y. NamedDefault d y) (same_is s t a.1)

pub defaults_are : (b d : Bool) (s t : List ℕ) → (same_flag b d && same_text s t) ≡ true → DefaultsOf b s ≡ DefaultsOf d t
defaults_are b d s t e = let a = both (same_flag b d) (same_text s t) e in ap (λ y. DefaultsOf y s) (flag_is b d a.0) ∙ ap (λ y. DefaultsOf d y) (same_is s t a.1)

pub told : (s : Sort) (h : Rule) → is_of s h ≡ true → ToldUnless (is_special h) s h (form h)
told Values h e = told_value h e
told Statements h e = told_statement h e
told Names (PropertyName s) e = λ ts. refl
told Names (PrivateName s) e = λ ts. refl
told Names _ e = absurd (false≢true e)
told Bindings (BindingName s) e = λ ts. refl
told Bindings ObjectPattern e = λ ts. refl
told Bindings ArrayPattern e = λ ts. refl
told Bindings _ e = absurd (false≢true e)
told Declarators Declarator e = λ ts. refl
told Declarators _ e = absurd (false≢true e)
told Properties KeyValue e = tt
told Properties MethodProperty e = tt
told Properties Getter e = tt
told Properties Setter e = tt
told Properties GeneratorProperty e = tt
told Properties (Shorthand s) e = tt
told Properties Computed e = tt
told Properties ComputedMethod e = tt
told Properties ComputedGetter e = λ ts. refl
told Properties ComputedSetter e = λ ts. refl
told Properties ComputedGenerator e = λ ts. refl
told Properties Spread e = λ ts. refl
told Properties _ e = absurd (false≢true e)
told Bodies FunctionBody e = λ ts. refl
told Bodies _ e = absurd (false≢true e)
told Cases Case e = λ ts. refl
told Cases DefaultCase e = λ ts. refl
told Cases _ e = absurd (false≢true e)
told Catches CatchParam e = tt
told Catches CatchBare e = tt
told Catches _ e = absurd (false≢true e)
told BlockParts BlockPart e = λ ts. refl
told BlockParts _ e = absurd (false≢true e)
told KeyNames (KeyWord s) e = λ ts. refl
told KeyNames (KeyText s) e = λ ts. ap (λ y. Some (KeyText y)) (unescaped_back s)
told KeyNames (KeyNumber n) e = λ ts. refl
told KeyNames (PrivateKey s) e = λ ts. refl
told KeyNames _ e = absurd (false≢true e)
told Methods MethodFunction e = tt
told Methods _ e = absurd (false≢true e)
told GeneratorMethods GeneratorMethod e = tt
told GeneratorMethods _ e = absurd (false≢true e)
told HeadDeclarations (HeadVariables Var) e = λ ts. refl
told HeadDeclarations (HeadVariables Let) e = λ ts. refl
told HeadDeclarations (HeadVariables Const) e = λ ts. refl
told HeadDeclarations _ e = absurd (false≢true e)
told BoundProperties BoundKeyValue e = tt
told BoundProperties (BoundDefault s) e = tt
told BoundProperties (BoundShorthand s) e = tt
told BoundProperties BoundComputed e = λ ts. refl
told BoundProperties BoundRest e = λ ts. refl
told BoundProperties _ e = absurd (false≢true e)
told TemplateRests (MiddlePiece s) e = λ ts. refl
told TemplateRests (TailPiece s) e = λ ts. refl
told TemplateRests _ e = absurd (false≢true e)
told TagTemplates (TagWhole s) e = λ ts. refl
told TagTemplates (TagParts s) e = λ ts. refl
told TagTemplates _ e = absurd (false≢true e)
told FirstLinks FirstMember e = tt
told FirstLinks FirstIndex e = λ ts. refl
told FirstLinks FirstCall e = tt
told FirstLinks _ e = absurd (false≢true e)
told Links LinkMember e = λ ts. refl
told Links LinkIndex e = λ ts. refl
told Links LinkCall e = tt
told Links OptionalMember e = tt
told Links OptionalIndex e = λ ts. refl
told Links OptionalCall e = λ ts. refl
told Links _ e = absurd (false≢true e)
told Patterns ArrayTarget e = λ ts. refl
told Patterns ObjectTarget e = λ ts. refl
told Patterns _ e = absurd (false≢true e)
told TargetElements PatternItem e = tt
told TargetElements ValueItem e = tt
told TargetElements PatternRest e = tt
told TargetElements ValueRest e = tt
told TargetElements _ e = absurd (false≢true e)
told TargetProperties (TargetShorthand s) e = tt
told TargetProperties (TargetDefault s) e = tt
told TargetProperties TargetKeyValue e = tt
told TargetProperties TargetComputed e = λ ts. refl
told TargetProperties TargetPropertyRest e = λ ts. refl
told TargetProperties _ e = absurd (false≢true e)
told Leadings (Directive s) e = λ ts. refl
told Leadings _ e = absurd (false≢true e)
told ClassBodies ClassBody e = λ ts. refl
told ClassBodies _ e = absurd (false≢true e)
told ClassElements ClassMethod e = tt
told ClassElements ClassComputedMethod e = tt
told ClassElements ClassGenerator e = tt
told ClassElements ClassComputedGenerator e = λ ts. refl
told ClassElements ClassGetter e = tt
told ClassElements ClassComputedGetter e = λ ts. refl
told ClassElements ClassSetter e = tt
told ClassElements ClassComputedSetter e = λ ts. refl
told ClassElements Field e = tt
told ClassElements ComputedField e = tt
told ClassElements StaticElement e = tt
told ClassElements StaticInit e = λ ts. refl
told ClassElements _ e = absurd (false≢true e)
told BoundElements Defaulted e = tt
told BoundElements Rest e = λ ts. refl
told BoundElements _ e = absurd (false≢true e)
told (DefaultsOf b s) (NamedDefault d t) e = λ ts. ap (λ y. Some y) (default_is b d s t (both (same_flag b d && same_text s t) true e).0)
told (DefaultsOf b s) _ e = absurd (false≢true e)
told Declarations (DeclaredVariables Var) e = λ ts. refl
told Declarations (DeclaredVariables Let) e = λ ts. refl
told Declarations (DeclaredVariables Const) e = λ ts. refl
told Declarations DeclaredFunction e = tt
told Declarations DeclaredGenerator e = λ ts. refl
told Declarations (DeclaredClass s) e = λ ts. refl
told Declarations _ e = absurd (false≢true e)
told DefaultDeclarations DefaultFunction e = tt
told DefaultDeclarations DefaultGenerator e = λ ts. refl
told DefaultDeclarations DefaultClass e = tt
told DefaultDeclarations (DefaultClassNamed s) e = λ ts. ap (λ b. Some (if b then DefaultClass else DefaultClassNamed s)) (untrue (is_reserved s) e)
told DefaultDeclarations _ e = absurd (false≢true e)
told ImportItems (ImportShort s) e = tt
told ImportItems ImportAs e = tt
told ImportItems _ e = absurd (false≢true e)
told ExportItems (ExportShort s) e = tt
told ExportItems (ExportAs s) e = λ ts. refl
told ExportItems _ e = absurd (false≢true e)
told ForwardItems (ForwardName s) e = tt
told ForwardItems (ForwardText s) e = tt
told ForwardItems ForwardAs e = tt
told ForwardItems _ e = absurd (false≢true e)
