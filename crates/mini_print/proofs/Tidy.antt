-- Whatever may stand behind a part of a production doesn't go on that part.
use Rattle.std.specs.Prelude.{ℕ, ◌≡◌, refl, ◌≤◌, Bool, true, false, not, List, [], ◌∷◌, Option, Some, None, codes}
use Rattle.std.proofs.Common.{ap, sym, arith}
use Rattle.std.proofs.lemmas.Bool.{false≢true}
use Rattle.mini_model.specs.declared.operator.LogicalOperator.TheVariants.{Or, And, Coalesce}
use Rattle.mini_print.specs.Token.{Token, Word, Punct, RightBrace, LeftBrace, TemplateWhole, TemplateHead, TemplateMiddle, TemplateTail, Private, Quoted, Number, Semicolon}
use Rattle.mini_print.specs.Grammar.{Goal, Sort, Values, Names, Bindings, Statements, Declarators, Properties, Bodies, sort, Rule, Reference, NumberLiteral, BigIntLiteral, TextLiteral, RegExpLiteral, Null, This, True, False, Parenthesized, Array, Member, Index, New, Import, Call, PropertyName, Postfix, Prefix, Unary, Binary, Logical, Conditional, Assignment, Sequence, Arrow, BindingName, Block as BlockRule, Variables, Declarator, Empty, ExpressionStatement, If, DoWhile, While, For, Return, Throw, Debugger, Object, KeyValue, Computed, Spread, FunctionExpression, FunctionDeclaration, FunctionBody, SpreadItem, ArrowBlock, Break, Continue, Two, NoStatement, permits, begins_statement, Part, token, left, part, commas, lookahead, perhaps, option, statements, unwritten, Statement, form, level, is_reserved, is_of, SuperMember, SuperIndex, SuperCall, NewTarget, ImportMeta, PrivateName, PrivateIn, Yield, YieldFrom, GeneratorExpression, GeneratorDeclaration, Label, Switch, Case, DefaultCase, Try, CatchParam, CatchBare, BlockPart, Cases, Catches, BlockParts, CaseItem, CaseEnd, begins_label, is_colon_next, is_word_of, clause_words, statement_words, ObjectPattern, ArrayPattern, Rest, BoundKeyValue, BoundComputed, BoundShorthand, BoundRest, Shorthand, BoundProperties, ForIn, ForOf, ForDeclared, ForDeclaredIn, ForDeclaredOf, HeadVariables, HeadDeclarations, HeadDeclared, fork, HeadEnd, Least, MethodProperty, Getter, Setter, GeneratorProperty, MethodFunction, GeneratorMethod, Methods, GeneratorMethods, KeyWord, KeyText, KeyNumber, KeyNames, WholeTemplate, Template, MiddlePiece, TailPiece, TaggedTemplate, TagWhole, TagParts, Chain, FirstMember, FirstIndex, FirstCall, LinkMember, LinkIndex, LinkCall, OptionalMember, OptionalIndex, OptionalCall, TemplateRest, TagTemplate, FirstLink, Link, TemplateRests, TagTemplates, FirstLinks, Links, Anything, AfterDot, Defaulted, BoundDefault, NamedDefault, ComputedMethod, ComputedGetter, ComputedSetter, ComputedGenerator, BoundElement, DefaultOf, BoundElements, DefaultsOf, Lookahead, same_flag, Bound, ClassPlain, ClassNamed, ClassDeclared, ClassBody, ClassMethod, ClassComputedMethod, ClassGenerator, ClassComputedGenerator, ClassGetter, ClassComputedGetter, ClassSetter, ClassComputedSetter, Field, ComputedField, StaticElement, StaticInit, PrivateKey, ClassBraces, ClassElement, PlainElement, ClassKey, ClassBodies, ClassElements, Leading, Leadings, Directive, starts_directive, NoDirective, ArrayTarget, ObjectTarget, PatternItem, ValueItem, PatternRest, ValueRest, TargetShorthand, TargetDefault, TargetKeyValue, TargetComputed, TargetPropertyRest, PatternAssignment, TargetPattern, Target, TargetElement, TargetProperty, Patterns, TargetElements, TargetProperties, Opener, Equals, has, YieldBare, starts_default, Declarations, DefaultDeclarations, ImportItems, ExportItems, ForwardItems, ImportBare, ImportNames, ImportNamespace, ImportDefault, ImportDefaultNames, ImportDefaultNamespace, ImportShort, ImportAs, ExportNames, ExportFrom, ExportAll, ExportDeclared, ExportValue, ExportDefault, ExportShort, ExportAs, ForwardName, ForwardText, ForwardAs, DeclaredVariables, DeclaredFunction, DeclaredGenerator, DeclaredClass, DefaultFunction, DefaultGenerator, DefaultClass, DefaultClassNamed, ForPatternIn, ForPatternOf, semicolon, ArrowName, ArrowNameBlock, NewBare}
use Rattle.mini_print.specs.Grammar as look
use Rattle.mini_print.specs.Groups.{none_is_enough}
use Rattle.mini_print.specs.Printed.{is_statements}
use Rattle.mini_print.proofs.Reader.{stops_at, is_paren_next, strength, power, is_weak, is_closing, separates, is_right_brace, ends, bars, is_brace_next, declares, is_link_start, is_dots_next, is_equals_next, is_name_end, opens_bracket}
use Rattle.mini_print.proofs.Told.{inner, operator}

-- ---- what stands behind the parts of a production, behind which this power stands at most

-- a part behind another one begins with what doesn't go on that
abbrev pub StopsBefore : Goal → Goal → Type 0
StopsBefore TemplateRest Anything = Unit {0}
StopsBefore ClassBraces Anything = Unit {0}
StopsBefore j g = is_weak g ≡ true

-- what is looked at behind a part doesn't go on that
abbrev pub StopsLook : Lookahead → Goal → ℕ → Type 0
StopsLook look.Ended Anything n = 1 ≤ n
StopsLook look.Ended Target n = 1 ≤ n
StopsLook c g n = is_weak g ≡ true

-- no default goes on what is assigned to, and neither does what ends the element
abbrev pub StopsOption : Goal → ℕ → Opener → List Part → Type 0
StopsOption Target n Equals (lookahead look.Ended ∷ ps) = 1 ≤ n
StopsOption g n w ps = is_weak g ≡ true

abbrev pub Stops : ℕ → Option Goal → ℕ → List Part → Type 0
Stops e None n (token x ∷ ps) = strength x ≤ n
Stops e o n (unwritten v ∷ ps) = Stops e o n ps
Stops e o n (fork ∷ ps) = Stops e o n ps
Stops e o n (semicolon ∷ ps) = Unit {0}
Stops e None n [] = e ≤ n
Stops e None n _ = ⊥
Stops e (Some g) n (token x ∷ ps) = power g x ≤ n
Stops e (Some g) n (part (Some j) m b ∷ ps) = StopsBefore j g
Stops e (Some g) n (option w o m ∷ ps) = StopsOption g n w ps
Stops e (Some g) n (lookahead c ∷ ps) = StopsLook c g n
Stops e (Some g) n _ = is_weak g ≡ true

-- behind a list stands what closes it
abbrev pub Closed : Option Goal → Least → List Part → Type 0
Closed o l (token x ∷ ps) = (is_closing x ≡ true) × (strength x ≡ 0)
Closed o l (semicolon ∷ ps) = Unit {0}
Closed o l (lookahead HeadEnd ∷ ps) = (o ≡ Some HeadDeclared) × (none_is_enough l ≡ false)
Closed o l _ = ⊥

-- behind a part that may be absent stands what stops it
abbrev pub Stopped : Goal → List Part → Type 0
Stopped i (token x ∷ ps) = (stops_at i x ≡ true) × (power i x ≡ 0)
Stopped i (fork ∷ ps) = Stopped i ps
Stopped i (semicolon ∷ ps) = (stops_at i (Punct Semicolon) ≡ true) × (stops_at i (Punct RightBrace) ≡ true)
Stopped i _ = ⊥

-- a list is none of statements
abbrev pub Listed : Option Goal → Type 0
Listed None = ⊥
Listed (Some i) = is_statements (sort i) ≡ false

-- behind statements stands a brace
abbrev pub Ended : Goal → List Part → Type 0
Ended i (token x ∷ ps) = is_right_brace x ≡ true
Ended i (lookahead CaseEnd ∷ ps) = i ≡ Statement
Ended i (lookahead NoDirective ∷ ps) = i ≡ Leading
Ended i _ = ⊥

-- what a production of a sort begins with
-- a clause of a switch begins
abbrev pub starts_clause : List Token → Bool
starts_clause (Word s ∷ ts) = is_word_of clause_words s
starts_clause _ = false

abbrev pub starts_rest : List Token → Bool
starts_rest (TemplateMiddle s ∷ ts) = true
starts_rest (TemplateTail s ∷ ts) = true
starts_rest _ = false

abbrev pub starts_template : List Token → Bool
starts_template (TemplateWhole s ∷ ts) = true
starts_template (TemplateHead s ∷ ts) = true
starts_template _ = false

abbrev pub starts_link : List Token → Bool
starts_link [] = false
starts_link (x ∷ ts) = is_link_start x

abbrev pub is_name_next : List Token → Bool
is_name_next (Word s ∷ ts) = true
is_name_next (Private s ∷ ts) = true
is_name_next _ = false

abbrev pub is_key_next : List Token → Bool
is_key_next (Word s ∷ ts) = true
is_key_next (Quoted s ∷ ts) = true
is_key_next (Number n ∷ ts) = true
is_key_next (Private s ∷ ts) = true
is_key_next _ = false

abbrev pub opens_next : List Token → Bool
opens_next [] = false
opens_next (x ∷ ts) = opens_bracket x

-- what begins a declaration that is exported
abbrev pub declaration_words : List (List ℕ)
declaration_words = codes "var" ∷ codes "let" ∷ codes "const" ∷ codes "function" ∷ codes "class" ∷ []

abbrev pub starts_declaration : List Token → Bool
starts_declaration (Word s ∷ ts) = is_word_of declaration_words s
starts_declaration _ = false

abbrev pub Starting : Sort → List Token → Type 0
Starting Statements ts = ends Statement ts ≡ false
Starting Values ts = bars ts ≡ false
Starting Cases ts = starts_clause ts ≡ true
Starting BlockParts ts = is_brace_next ts ≡ true
Starting Methods ts = is_paren_next ts ≡ true
Starting GeneratorMethods ts = is_paren_next ts ≡ true
Starting HeadDeclarations ts = declares ts ≡ true
Starting Bindings ts = (bars ts ≡ false) × (is_paren_next ts ≡ false) × (is_dots_next ts ≡ false)
Starting (DefaultsOf b s) ts = is_equals_next ts ≡ true
Starting TemplateRests ts = starts_rest ts ≡ true
Starting TagTemplates ts = starts_template ts ≡ true
Starting Links ts = starts_link ts ≡ true
Starting Names ts = is_name_next ts ≡ true
Starting KeyNames ts = is_key_next ts ≡ true
Starting ClassBodies ts = is_brace_next ts ≡ true
Starting ClassElements ts = (separates ts ≡ false) × (is_name_end ts ≡ false) × (is_brace_next ts ≡ false)
Starting Leadings ts = starts_directive ts ≡ true
Starting Patterns ts = opens_next ts ≡ true
Starting Declarations ts = starts_declaration ts ≡ true
Starting DefaultDeclarations ts = starts_default ts ≡ true
Starting _ ts = separates ts ≡ false

-- what stands one behind the other ends by itself, and begins with nothing at which such lists end
abbrev pub Block : Goal → Type 0
Block i = (is_weak i ≡ true) × ((ts : List Token) → Starting (sort i) ts → ends i ts ≡ false)

abbrev pub Tidy : ℕ → List Part → Type 0
Tidy e [] = Unit {0}
Tidy e (token x ∷ ps) = Tidy e ps
Tidy e (left w n b ∷ ps) = ⊥
Tidy e (part o n b ∷ ps) = Stops e o n ps × Tidy e ps
Tidy e (commas o l ∷ ps) = (Closed o l ps × Listed o) × Tidy e ps
Tidy e (lookahead c ∷ ps) = Tidy e ps
Tidy e (perhaps i ∷ ps) = (Stopped i ps × Listed (Some i)) × Tidy e ps
Tidy e (option w o n ∷ ps) = Stops e o n ps × Tidy e ps
Tidy e (statements i ∷ ps) = (Ended i ps × Block i) × Tidy e ps
Tidy e (unwritten v ∷ ps) = Tidy e ps
Tidy e (fork ∷ ps) = Tidy e ps
Tidy e (semicolon ∷ ps) = Tidy e ps

-- the first part of what is told by the token behind it is left aside
abbrev pub TidyBehind : ℕ → List Part → Type 0
TidyBehind e (left w n b ∷ ps) = Tidy e ps
TidyBehind e (commas None Two ∷ []) = (e ≡ 0) × Unit {0}
TidyBehind e ps = Tidy e ps

pub brace_separates : (ts : List Token) → is_brace_next ts ≡ true → separates ts ≡ false
brace_separates [] e = absurd (false≢true e)
brace_separates (Punct LeftBrace ∷ ts) e = refl
brace_separates (x ∷ ts) e = absurd (false≢true e)

pub cases_block : (ts : List Token) → starts_clause ts ≡ true → ends CaseItem ts ≡ false
cases_block [] e = absurd (false≢true e)
cases_block (Word s ∷ ts) e = refl
cases_block (x ∷ ts) e = absurd (false≢true e)

-- behind a chain, and a `new` without arguments, stands whatever goes on with none
abbrev pub is_chain : Rule → Bool
is_chain Chain = true
is_chain NewBare = true
is_chain _ = false

pub key_separates : (ts : List Token) → is_key_next ts ≡ true → separates ts ≡ false
key_separates [] e = absurd (false≢true e)
key_separates (Word s ∷ ts) e = refl
key_separates (Quoted s ∷ ts) e = refl
key_separates (Number n ∷ ts) e = refl
key_separates (Private s ∷ ts) e = refl
key_separates (x ∷ ts) e = absurd (false≢true e)

pub key_opens : (ts : List Token) → is_key_next ts ≡ true → (separates ts ≡ false) × (is_name_end ts ≡ false) × (is_brace_next ts ≡ false)
key_opens [] e = absurd (false≢true e)
key_opens (Word s ∷ ts) e = (refl, refl, refl)
key_opens (Quoted s ∷ ts) e = (refl, refl, refl)
key_opens (Number n ∷ ts) e = (refl, refl, refl)
key_opens (Private s ∷ ts) e = (refl, refl, refl)
key_opens (x ∷ ts) e = absurd (false≢true e)

pub member_block : (ts : List Token) → (separates ts ≡ false) × (is_name_end ts ≡ false) × (is_brace_next ts ≡ false) → ends ClassElement ts ≡ false
member_block [] f = absurd (false≢true (sym f.0))
member_block (Punct RightBrace ∷ ts) f = absurd (false≢true (sym f.0))
member_block (x ∷ ts) f = refl

pub link_block : (ts : List Token) → starts_link ts ≡ true → ends Link ts ≡ false
link_block [] e = absurd (false≢true e)
link_block (x ∷ ts) e = ap not e

pub named_separates : (ts : List Token) → is_name_next ts ≡ true → separates ts ≡ false
named_separates [] e = absurd (false≢true e)
named_separates (Word s ∷ ts) e = refl
named_separates (Private s ∷ ts) e = refl
named_separates (x ∷ ts) e = absurd (false≢true e)

pub tidy : (h : Rule) → is_chain h ≡ false → TidyBehind (inner (level h)) (form h)
tidy Chain c = absurd (false≢true (sym c))
tidy NewBare c = absurd (false≢true (sym c))
tidy Defaulted c = (refl, (omega arith, tt))
tidy (BoundDefault s) c = (refl, tt)
tidy (NamedDefault b s) c = (omega arith, tt)
tidy ComputedMethod c = (omega arith, (refl, tt))
tidy ComputedGetter c = (omega arith, (refl, tt))
tidy ComputedSetter c = (omega arith, (refl, tt))
tidy ComputedGenerator c = (omega arith, (refl, tt))
tidy ClassPlain c = (tt, (refl, tt))
tidy (ClassNamed s) c = (tt, (refl, tt))
tidy (ClassDeclared s) c = (tt, (refl, tt))
tidy ClassBody c = ((refl, (refl, member_block)), tt)
tidy ClassMethod c = (refl, (refl, tt))
tidy ClassComputedMethod c = (omega arith, (refl, tt))
tidy ClassGenerator c = (refl, (refl, tt))
tidy ClassComputedGenerator c = (omega arith, (refl, tt))
tidy ClassGetter c = (refl, (refl, tt))
tidy ClassComputedGetter c = (omega arith, (refl, tt))
tidy ClassSetter c = (refl, (refl, tt))
tidy ClassComputedSetter c = (omega arith, (refl, tt))
tidy Field c = (refl, (tt, tt))
tidy ComputedField c = (omega arith, (tt, tt))
tidy StaticElement c = (refl, tt)
tidy StaticInit c = ((refl, (refl, λ ts e. e)), tt)
tidy (PrivateKey s) c = tt
tidy PatternAssignment c = (omega arith, (omega arith, tt))
tidy ArrayTarget c = (((refl, refl), refl), tt)
tidy ObjectTarget c = (((refl, refl), refl), tt)
tidy PatternItem c = (refl, (omega arith, tt))
tidy ValueItem c = (omega arith, (omega arith, tt))
tidy PatternRest c = (refl, tt)
tidy ValueRest c = (omega arith, tt)
tidy (TargetShorthand s) c = tt
tidy (TargetDefault s) c = (refl, tt)
tidy TargetKeyValue c = (omega arith, (refl, tt))
tidy TargetComputed c = (omega arith, (refl, tt))
tidy TargetPropertyRest c = (omega arith, tt)
tidy (WholeTemplate s) c = tt
tidy (Template s) c = (tt, (refl, tt))
tidy (MiddlePiece s) c = (tt, (refl, tt))
tidy (TailPiece s) c = tt
tidy TaggedTemplate c = (refl, tt)
tidy (TagWhole s) c = tt
tidy (TagParts s) c = (tt, (refl, tt))
tidy FirstMember c = (refl, tt)
tidy FirstIndex c = (omega arith, tt)
tidy FirstCall c = (((refl, refl), refl), tt)
tidy LinkMember c = (refl, tt)
tidy LinkIndex c = (omega arith, tt)
tidy LinkCall c = (((refl, refl), refl), tt)
tidy OptionalMember c = (refl, tt)
tidy OptionalIndex c = (omega arith, tt)
tidy OptionalCall c = (((refl, refl), refl), tt)
tidy Parenthesized c = (omega arith, tt)
tidy Array c = (((refl, refl), refl), tt)
tidy Member c = (refl, tt)
tidy Index c = (omega arith, tt)
tidy New c = (omega arith, (((refl, refl), refl), tt))
tidy Import c = (omega arith, tt)
tidy Call c = (((refl, refl), refl), tt)
tidy (Postfix o) c = tt
tidy (Prefix o) c = (omega arith, tt)
tidy (Unary o) c = (omega arith, tt)
tidy (Binary o) c = let f = operator o in (f.3, tt)
tidy (Logical Or) c = (omega arith, tt)
tidy (Logical And) c = (omega arith, tt)
tidy (Logical Coalesce) c = (omega arith, tt)
tidy Conditional c = (omega arith, (omega arith, tt))
tidy (Assignment o) c = (omega arith, tt)
tidy Sequence c = (refl, tt)
tidy (Reference s) c = tt
tidy Arrow c = (((refl, refl), refl), (omega arith, tt))
tidy BlockRule c = ((refl, (refl, λ ts e. e)), tt)
tidy (Variables k) c = ((tt, refl), tt)
tidy Declarator c = (refl, (omega arith, tt))
tidy ExpressionStatement c = (tt, tt)
tidy If c = (omega arith, (refl, (refl, tt)))
tidy DoWhile c = (omega arith, (omega arith, tt))
tidy While c = (omega arith, (refl, tt))
tidy For c = (((refl, refl), refl), (((refl, refl), refl), (((refl, refl), refl), (refl, tt))))
tidy Return c = (((refl, refl), refl), tt)
tidy Throw c = (tt, tt)
tidy (NumberLiteral n) c = tt
tidy (BigIntLiteral n) c = tt
tidy (TextLiteral s) c = tt
tidy (RegExpLiteral p f) c = tt
tidy Null c = tt
tidy This c = tt
tidy True c = tt
tidy False c = tt
tidy (PropertyName s) c = tt
tidy (BindingName s) c = tt
tidy Empty c = tt
tidy Debugger c = tt
tidy Break c = (((refl, refl), refl), tt)
tidy Continue c = (((refl, refl), refl), tt)
tidy SpreadItem c = (omega arith, tt)
tidy ArrowBlock c = (((refl, refl), refl), (refl, tt))
tidy (ArrowName s) c = (omega arith, tt)
tidy (ArrowNameBlock s) c = (refl, tt)
tidy Object c = (((refl, refl), refl), tt)
tidy KeyValue c = (omega arith, (omega arith, tt))
tidy Computed c = (omega arith, (omega arith, tt))
tidy Spread c = (omega arith, tt)
tidy FunctionExpression c = (((refl, refl), refl), (((refl, refl), refl), (refl, tt)))
tidy FunctionDeclaration c = (omega arith, (((refl, refl), refl), (refl, tt)))
tidy GeneratorExpression c = (((refl, refl), refl), (((refl, refl), refl), (refl, tt)))
tidy GeneratorDeclaration c = (omega arith, (((refl, refl), refl), (refl, tt)))
tidy Yield c = (omega arith, tt)
tidy YieldBare c = tt
tidy YieldFrom c = (omega arith, tt)
tidy SuperMember c = (refl, tt)
tidy SuperIndex c = (omega arith, tt)
tidy SuperCall c = (((refl, refl), refl), tt)
tidy NewTarget c = tt
tidy ImportMeta c = tt
tidy (PrivateName s) c = tt
tidy (PrivateIn s) c = (omega arith, tt)
tidy (Label s) c = (refl, tt)
tidy Switch c = (omega arith, ((refl, (refl, cases_block)), tt))
tidy Case c = (omega arith, ((refl, (refl, λ ts e. e)), tt))
tidy DefaultCase c = ((refl, (refl, λ ts e. e)), tt)
tidy Try c = (refl, (refl, (refl, tt)))
tidy CatchParam c = (omega arith, (refl, tt))
tidy CatchBare c = (refl, tt)
tidy ObjectPattern c = (((refl, refl), refl), tt)
tidy ArrayPattern c = (((refl, refl), refl), tt)
tidy Rest c = (refl, tt)
tidy BoundRest c = (refl, tt)
tidy BoundKeyValue c = (omega arith, (refl, tt))
tidy BoundComputed c = (omega arith, (refl, tt))
tidy (BoundShorthand s) c = tt
tidy (Shorthand s) c = tt
tidy ForIn c = (omega arith, (omega arith, (refl, tt)))
tidy ForOf c = (omega arith, (omega arith, (refl, tt)))
tidy ForDeclared c = (omega arith, (((refl, refl), refl), (((refl, refl), refl), (refl, tt))))
tidy ForDeclaredIn c = (omega arith, (omega arith, (refl, tt)))
tidy ForDeclaredOf c = (omega arith, (omega arith, (refl, tt)))
tidy ForPatternIn c = (omega arith, (omega arith, (refl, tt)))
tidy ForPatternOf c = (omega arith, (omega arith, (refl, tt)))
tidy (HeadVariables k) c = (((refl, refl), refl), tt)
tidy MethodProperty c = (refl, (refl, tt))
tidy Getter c = (refl, (refl, tt))
tidy Setter c = (refl, (refl, tt))
tidy GeneratorProperty c = (refl, (refl, tt))
tidy MethodFunction c = (((refl, refl), refl), (refl, tt))
tidy GeneratorMethod c = (((refl, refl), refl), (refl, tt))
tidy (KeyWord s) c = tt
tidy (KeyText s) c = tt
tidy (KeyNumber n) c = tt
tidy BlockPart c = ((refl, (refl, λ ts e. e)), tt)
tidy FunctionBody c = ((refl, (refl, λ ts e. ap not e)), ((refl, (refl, λ ts e. e)), tt))
tidy (Directive s) c = tt
tidy (ImportBare s) c = tt
tidy ImportNames c = (((refl, refl), refl), (tt, tt))
tidy ImportNamespace c = (omega arith, (tt, tt))
tidy (ImportDefault s) c = (tt, tt)
tidy (ImportDefaultNames s) c = (((refl, refl), refl), (tt, tt))
tidy (ImportDefaultNamespace s) c = (omega arith, (tt, tt))
tidy (ImportShort s) c = tt
tidy ImportAs c = (omega arith, (refl, tt))
tidy ExportNames c = (((refl, refl), refl), tt)
tidy ExportFrom c = (((refl, refl), refl), (tt, tt))
tidy ExportAll c = (omega arith, (tt, tt))
tidy ExportDeclared c = (refl, tt)
tidy ExportValue c = (tt, tt)
tidy ExportDefault c = (refl, tt)
tidy (ExportShort s) c = tt
tidy (ExportAs s) c = (refl, tt)
tidy (ForwardName s) c = tt
tidy (ForwardText s) c = tt
tidy ForwardAs c = (omega arith, (refl, tt))
tidy (DeclaredVariables k) c = ((tt, refl), tt)
tidy DeclaredFunction c = (omega arith, (((refl, refl), refl), (refl, tt)))
tidy DeclaredGenerator c = (omega arith, (((refl, refl), refl), (refl, tt)))
tidy (DeclaredClass s) c = (tt, (refl, tt))
tidy DefaultFunction c = (((refl, refl), refl), (((refl, refl), refl), (refl, tt)))
tidy DefaultGenerator c = (((refl, refl), refl), (((refl, refl), refl), (refl, tt)))
tidy DefaultClass c = (tt, (refl, tt))
tidy (DefaultClassNamed s) c = (tt, (refl, tt))
