-- What each part of a production asks of the tokens behind it.
use Rattle.std.specs.Prelude.{ℕ, ◌≡◌, refl, ◌≤◌, Bool, true, false, ◌||◌, not, List, [], ◌∷◌, Option, Some, None, codes}
use Rattle.std.proofs.Common.{sym, subst, arith}
use Rattle.std.proofs.lemmas.Bool.{false≢true}
use Rattle.mini_model.specs.declared.operator.LogicalOperator.TheVariants.{Or, And, Coalesce}
use Rattle.mini_print.proofs.Told.{is_values, operator, same_is, both}
use Rattle.mini_print.proofs.Tidy.{Starting, starts_clause}
use Rattle.mini_print.proofs.Reader.{is_right_brace, ends}
use Rattle.mini_model.specs.Weight.{same_text}
use Rattle.mini_print.specs.Token.{Token, Punct, RightParen, RightBrace, Comma, Word, RightBracket}
use Rattle.mini_print.specs.Grammar.{Sort, Values, Statements, Declarators, sort, is_of, rule_sort, excluded, Statement, Arrow, BindingName, left, lookahead, perhaps, option, statements, Lookahead, Goal, Anything, Rule, Reference, NumberLiteral, BigIntLiteral, TextLiteral, RegExpLiteral, Null, This, True, False, Parenthesized, Array, Member, Index, New, Import, Call, PropertyName, Postfix, Prefix, Unary, Binary, Logical, Conditional, Assignment, Sequence, unwritten, Part, token, part, commas, form, has, opens, is_opener, Else, Equals, Block, Variables, Declarator, Empty, ExpressionStatement, If, DoWhile, While, For, Return, Throw, Debugger, Object, KeyValue, Computed, Spread, FunctionExpression, FunctionDeclaration, FunctionBody, SpreadItem, ArrowBlock, Break, Continue, Properties, Key, SuperMember, SuperIndex, SuperCall, NewTarget, ImportMeta, PrivateName, PrivateIn, Yield, YieldFrom, GeneratorExpression, GeneratorDeclaration, Label, Switch, Case, DefaultCase, Try, CatchParam, CatchBare, BlockPart, Cases, CaseEnd, Catch, Finally, ends_clause, Opener, opener, ObjectPattern, ArrayPattern, Rest, BoundKeyValue, BoundComputed, BoundShorthand, BoundRest, Shorthand, BoundProperties, Ended, ends_property, ends_property_at, ForIn, ForOf, ForDeclared, ForDeclaredIn, ForDeclaredOf, HeadVariables, HeadDeclarations, fork, HeadEnd, ends_head, ends_head_at, MethodProperty, Getter, Setter, GeneratorProperty, MethodFunction, GeneratorMethod, KeyWord, KeyText, KeyNumber, KeyName, WholeTemplate, Template, MiddlePiece, TailPiece, TaggedTemplate, TagWhole, TagParts, Chain, FirstMember, FirstIndex, FirstCall, LinkMember, LinkIndex, LinkCall, OptionalMember, OptionalIndex, OptionalCall, Link, Defaulted, BoundDefault, NamedDefault, ComputedMethod, ComputedGetter, ComputedSetter, ComputedGenerator, BoundElements, DefaultsOf, ClassPlain, ClassNamed, ClassDeclared, ClassBody, ClassMethod, ClassComputedMethod, ClassGenerator, ClassComputedGenerator, ClassGetter, ClassComputedGetter, ClassSetter, ClassComputedSetter, Field, ComputedField, StaticElement, StaticInit, PrivateKey, ClassBraces, ClassElements, Extends, Leading, Directive, NoDirective, ArrayTarget, ObjectTarget, PatternItem, ValueItem, PatternRest, ValueRest, TargetShorthand, TargetDefault, TargetKeyValue, TargetComputed, TargetPropertyRest, PatternAssignment, TargetElements, TargetProperties, YieldBare, YieldEnd, ImportItems, ExportItems, ForwardItems, ImportBare, ImportNames, ImportNamespace, ImportDefault, ImportDefaultNames, ImportDefaultNamespace, ImportShort, ImportAs, ExportNames, ExportFrom, ExportAll, ExportDeclared, ExportValue, ExportDefault, ExportShort, ExportAs, ForwardName, ForwardText, ForwardAs, DeclaredVariables, DeclaredFunction, DeclaredGenerator, DeclaredClass, DefaultFunction, DefaultGenerator, DefaultClass, DefaultClassNamed, ForPatternIn, ForPatternOf, semicolon, ArrowName, ArrowNameBlock, NewBare}
use Rattle.mini_print.specs.Printed.{is_statements, sort_of, wanted_goal, plain}
use Rattle.mini_print.proofs.Placed.{rule_sort_is, Serves, value_serves, limit}

-- ---- the levels of the parts of a production

-- where the goal is handed on, it's of an expression
abbrev pub inherits : Sort → Bool
inherits Values = true
inherits Declarators = true
inherits Properties = true
inherits _ = false

abbrev pub Heir : Sort → Option Goal → Type 0
Heir s None = inherits s ≡ true
Heir s (Some i) = Unit {0}

-- no `=` stands behind a declarator without one
abbrev pub Ready : Sort → List Token → Type 0
Ready Declarators r = opens Equals r ≡ false
Ready Statements r = (opens Catch r ≡ false) × (opens Finally r ≡ false)
Ready Cases r = ends_clause r ≡ true
Ready HeadDeclarations r = ends_head r ≡ true
Ready Properties r = ends_property r ≡ true
Ready BoundProperties r = ends_property r ≡ true
Ready TargetElements r = ends_property r ≡ true
Ready TargetProperties r = ends_property r ≡ true
Ready BoundElements r = ends_property r ≡ true
Ready ImportItems r = ends_property r ≡ true
Ready ExportItems r = ends_property r ≡ true
Ready ForwardItems r = ends_property r ≡ true
Ready (DefaultsOf b s) r = ends_property r ≡ true
Ready _ r = Unit {0}

-- what stands behind a part of this sort
abbrev pub After : Sort → Sort → List Part → Type 0
After s Statements [] = is_statements s ≡ true
After s Statements (token x ∷ ps) = (is_opener Catch x ≡ false) × (is_opener Finally x ≡ false)
After s Statements _ = ⊥
After s Declarators (token x ∷ ps) = is_opener Equals x ≡ false
After s Declarators (semicolon ∷ ps) = Unit {0}
After s Declarators (lookahead HeadEnd ∷ []) = s ≡ HeadDeclarations
After s Declarators _ = ⊥
After s HeadDeclarations (fork ∷ token x ∷ ps) = ends_head_at x ≡ true
After s HeadDeclarations _ = ⊥
After s Cases _ = ⊥
After s Properties (token x ∷ ps) = ends_property_at x ≡ true
After s Properties _ = ⊥
After s BoundProperties (token x ∷ ps) = ends_property_at x ≡ true
After s BoundProperties _ = ⊥
After s TargetElements [] = (r : List Token) → Ready s r → ends_property r ≡ true
After s TargetElements (token x ∷ ps) = ends_property_at x ≡ true
After s TargetElements _ = ⊥
After s TargetProperties [] = (r : List Token) → Ready s r → ends_property r ≡ true
After s TargetProperties (token x ∷ ps) = ends_property_at x ≡ true
After s TargetProperties _ = ⊥
After s ImportItems (token x ∷ ps) = ends_property_at x ≡ true
After s ImportItems _ = ⊥
After s ExportItems (token x ∷ ps) = ends_property_at x ≡ true
After s ExportItems _ = ⊥
After s ForwardItems (token x ∷ ps) = ends_property_at x ≡ true
After s ForwardItems _ = ⊥
After s BoundElements [] = (r : List Token) → Ready s r → ends_property r ≡ true
After s BoundElements (token x ∷ ps) = ends_property_at x ≡ true
After s BoundElements _ = ⊥
After s (DefaultsOf b t) [] = (r : List Token) → Ready s r → ends_property r ≡ true
After s (DefaultsOf b t) (token x ∷ ps) = ends_property_at x ≡ true
After s (DefaultsOf b t) _ = ⊥
After s _ ps = Unit {0}

abbrev pub is_block_sort : Sort → Bool
is_block_sort Statements = true
is_block_sort Cases = true
is_block_sort ClassElements = true
is_block_sort _ = false

-- what stands behind a list of what stands one behind the other
abbrev pub Tail : Sort → Goal → List Part → Type 0
Tail s i (token x ∷ ps) = (is_right_brace x ≡ true) × (is_block_sort (sort i) ≡ true)
Tail s i (lookahead CaseEnd ∷ []) = (i ≡ Statement) × (s ≡ Cases)
Tail s i (lookahead NoDirective ∷ ps) = i ≡ Leading
Tail s i [] = i ≡ Link
Tail s i _ = ⊥

abbrev pub IsPart : List Part → Type 0
IsPart (part o n b ∷ ps) = wanted_goal o ≡ Anything
IsPart _ = ⊥

-- what is looked at is a value, or a name where a name may stand
abbrev pub Seen : Sort → Lookahead → List Part → Type 0
Seen s Key (part (Some KeyName) n b ∷ ps) = Unit {0}
Seen s Key _ = ⊥
Seen s CaseEnd [] = s ≡ Cases
Seen s CaseEnd _ = ⊥
Seen s Ended [] = (r : List Token) → Ready s r → ends_property r ≡ true
Seen s Ended _ = ⊥
Seen s HeadEnd [] = (r : List Token) → Ready s r → ends_head r ≡ true
Seen s HeadEnd _ = ⊥
Seen s NoDirective (statements Statement ∷ token x ∷ ps) = is_right_brace x ≡ true
Seen s NoDirective _ = ⊥
Seen s YieldEnd ps = ⊥
Seen s c ps = IsPart ps

-- such a list stands by itself, and none of it begins what stands in the list's own statement
abbrev pub stands_in_rows : Sort → Bool
stands_in_rows Statements = true
stands_in_rows Cases = true
stands_in_rows HeadDeclarations = true
stands_in_rows _ = false

-- a part begins with no opener
abbrev pub ShutBefore : Goal → Opener → Type 0
ShutBefore ClassBraces Extends = Unit {0}
ShutBefore j w = ⊥

-- what stands where the part is absent doesn't begin as it does
abbrev pub Shut : Sort → Opener → List Part → Type 0
Shut s w (token x ∷ ps) = is_opener w x ≡ false
Shut s w (semicolon ∷ ps) = Unit {0}
Shut s w [] = (r : List Token) → Ready s r → opens w r ≡ false
Shut s w (option v o n ∷ []) = (is_opener w (opener v) ≡ false) × ((r : List Token) → Ready s r → opens w r ≡ false)
Shut s w (lookahead Ended ∷ []) = (r : List Token) → Ready s r → opens w r ≡ false
Shut s w (part (Some j) n b ∷ ps) = ShutBefore j w
Shut s w _ = ⊥

-- whatever has the production as it stands has its first part
abbrev pub LeftServes : Rule → Goal → Type 0
LeftServes k w = (g : Goal) → has g k ≡ true → Serves w g

-- of what stands one behind the other
abbrev pub InBlock : Goal → Type 0
InBlock i = (i ≡ plain i) × ((ts : List Token) → Starting (sort i) ts → Ready (sort i) ts)

abbrev pub Low : Rule → Sort → List Part → Type 0
Low k s [] = Unit {0}
Low k s (token x ∷ ps) = Low k s ps
Low k s (lookahead c ∷ ps) = Seen s c ps × Low k s ps
Low k s (left w n b ∷ ps) = (LeftServes k w × (n ≤ limit w) × (stands_in_rows (sort w) ≡ false) × ((r : List Token) → Ready (sort w) r)) × Low k s ps
Low k s (part o n b ∷ ps) = (Heir s o × (n ≤ limit (wanted_goal o)) × After s (sort_of o) ps) × Low k s ps
Low k s (commas None l ∷ ps) = (is_values s ≡ true) × Low k s ps
Low k s (commas (Some i) l ∷ ps) = ((stands_in_rows (sort i) ≡ false) × After s (sort i) ps) × Low k s ps
Low k s (perhaps i ∷ ps) = ((stands_in_rows (sort i) ≡ false) × After s (sort i) ps) × Low k s ps
Low k s (statements i ∷ ps) = (Tail s i ps × InBlock i) × Low k s ps
Low k s (unwritten v ∷ ps) = Low k s ps
Low k s (fork ∷ ps) = Low k s ps
Low k s (semicolon ∷ ps) = Low k s ps
Low k s (option w o n ∷ ps) = ((stands_in_rows (sort_of o) ≡ false) × Heir s o × (n ≤ limit (wanted_goal o)) × After s (sort_of o) ps × Shut s w ps) × Low k s ps

-- the first part of an expression is one
pub value_left : (k : Rule) → is_values (rule_sort k) ≡ true → LeftServes k Anything
value_left k v g e = value_serves g (subst (λ s. is_values s ≡ true) (sym (rule_sort_is (sort g) k (both (is_of (sort g) k) (not (excluded g k)) e).0)) v)

abbrev pub is_if : Rule → Bool
is_if If = true
is_if YieldBare = true
is_if _ = false

pub no_catch : (ts : List Token) → ends Statement ts ≡ false → (opens Catch ts ≡ false) × (opens Finally ts ≡ false)
no_catch [] e = (refl, refl)
no_catch (Word s ∷ ts) e = by (same_text s (codes "case")) (same_text s (codes "default")) (same_text s (codes "else")) (same_text s (codes "catch")) (same_text s (codes "finally")) e
  where
    by : (a b c d f : Bool) → (a || (b || (c || (d || (f || false))))) ≡ false → (d ≡ false) × (f ≡ false)
    by false false false false false e = (refl, refl)
    by true b c d f e = absurd (false≢true (sym e))
    by false true c d f e = absurd (false≢true (sym e))
    by false false true d f e = absurd (false≢true (sym e))
    by false false false true f e = absurd (false≢true (sym e))
    by false false false false true e = absurd (false≢true (sym e))
no_catch (x ∷ ts) e = (refl, refl)

pub clause_ends : (ts : List Token) → starts_clause ts ≡ true → ends_clause ts ≡ true
clause_ends [] e = refl
clause_ends (Word s ∷ ts) e = e
clause_ends (x ∷ ts) e = absurd (false≢true e)

pub clause_opens : (ts : List Token) → ends_clause ts ≡ true → (opens Catch ts ≡ false) × (opens Finally ts ≡ false) × (opens Else ts ≡ false)
clause_opens [] e = (refl, refl, refl)
clause_opens (Word s ∷ ts) e = by (same_text s (codes "case")) (same_text s (codes "default")) refl refl e
  where
    on : (w : List ℕ) → same_text s w ≡ true → (same_text w (codes "catch") ≡ false) × (same_text w (codes "finally") ≡ false) × (same_text w (codes "else") ≡ false) → (same_text s (codes "catch") ≡ false) × (same_text s (codes "finally") ≡ false) × (same_text s (codes "else") ≡ false)
    on w q f = subst (λ y. (same_text y (codes "catch") ≡ false) × (same_text y (codes "finally") ≡ false) × (same_text y (codes "else") ≡ false)) (sym (same_is s w q)) f

    by : (a b : Bool) → same_text s (codes "case") ≡ a → same_text s (codes "default") ≡ b → (a || (b || false)) ≡ true → (same_text s (codes "catch") ≡ false) × (same_text s (codes "finally") ≡ false) × (same_text s (codes "else") ≡ false)
    by true b p q e = on (codes "case") p (refl, refl, refl)
    by false true p q e = on (codes "default") q (refl, refl, refl)
    by false false p q e = absurd (false≢true e)
clause_opens (x ∷ ts) e = (refl, refl, refl)

pub no_equals : (r : List Token) → ends_property r ≡ true → opens Equals r ≡ false
no_equals [] e = refl
no_equals (Punct Comma ∷ r) e = refl
no_equals (Punct RightBrace ∷ r) e = refl
no_equals (Punct RightParen ∷ r) e = refl
no_equals (Punct RightBracket ∷ r) e = refl
no_equals (x ∷ r) e = absurd (false≢true e)

pub low : (h : Rule) → is_if h ≡ false → Low h (rule_sort h) (form h)
low (Binary o) v = let f = operator o in let a = f.5 in let c = f.6 in ((value_left (Binary o) refl, omega (arith, a), refl, λ r. tt), ((refl, omega (arith, c), tt), tt))
low (Logical Or) v = ((value_left (Logical Or) refl, omega arith, refl, λ r. tt), ((refl, omega arith, tt), tt))
low (Logical And) v = ((value_left (Logical And) refl, omega arith, refl, λ r. tt), ((refl, omega arith, tt), tt))
low (Logical Coalesce) v = ((value_left (Logical Coalesce) refl, omega arith, refl, λ r. tt), ((refl, omega arith, tt), tt))
low (Reference s) v = tt
low (NumberLiteral n) v = tt
low (BigIntLiteral n) v = tt
low (TextLiteral s) v = tt
low (RegExpLiteral p f) v = tt
low Null v = tt
low This v = tt
low True v = tt
low False v = tt
low Parenthesized v = ((tt, omega arith, tt), tt)
low Array v = ((refl, tt), tt)
low Member v = ((value_left Member refl, omega arith, refl, λ r. tt), ((tt, omega arith, tt), tt))
low Index v = ((value_left Index refl, omega arith, refl, λ r. tt), ((tt, omega arith, tt), tt))
low New v = ((tt, omega arith, tt), ((refl, tt), tt))
low NewBare v = ((tt, omega arith, tt), tt)
low Import v = ((tt, omega arith, tt), tt)
low Call v = ((value_left Call refl, omega arith, refl, λ r. tt), ((refl, tt), tt))
low (PropertyName s) v = tt
low (Postfix o) v = ((value_left (Postfix o) refl, omega arith, refl, λ r. tt), tt)
low (Prefix o) v = ((refl, omega arith, tt), tt)
low (Unary o) v = ((refl, omega arith, tt), tt)
low Conditional v = ((value_left Conditional refl, omega arith, refl, λ r. tt), ((tt, omega arith, tt), ((refl, omega arith, tt), tt)))
low (Assignment o) v = ((value_left (Assignment o) refl, omega arith, refl, λ r. tt), ((refl, omega arith, tt), tt))
low Sequence v = (refl, tt)
low (WholeTemplate s) v = tt
low PatternAssignment v = ((tt, omega arith, tt), ((refl, omega arith, tt), tt))
low ArrayTarget v = ((refl, refl), tt)
low ObjectTarget v = ((refl, refl), tt)
low PatternItem v = ((tt, omega arith, tt), ((refl, tt, omega arith, tt, no_equals), ((λ r y. y), tt)))
low ValueItem v = ((tt, omega arith, tt), ((refl, tt, omega arith, tt, no_equals), ((λ r y. y), tt)))
low PatternRest v = ((tt, omega arith, tt), tt)
low ValueRest v = ((tt, omega arith, tt), ((λ r y. y), tt))
low TargetPropertyRest v = ((tt, omega arith, tt), ((λ r y. y), tt))
low (TargetShorthand s) v = ((λ r y. y), tt)
low (TargetDefault s) v = ((tt, omega arith, λ r y. y), tt)
low TargetKeyValue v = (tt, ((tt, omega arith, tt), ((tt, omega arith, λ r y. y), tt)))
low TargetComputed v = ((tt, omega arith, tt), ((tt, omega arith, λ r y. y), tt))
low ClassPlain v = ((refl, tt, omega arith, tt, tt), ((tt, omega arith, tt), tt))
low (ClassNamed s) v = ((refl, tt, omega arith, tt, tt), ((tt, omega arith, tt), tt))
low (ClassDeclared s) v = ((refl, tt, omega arith, tt, tt), ((tt, omega arith, tt), tt))
low ClassBody v = (((refl, refl), (refl, λ ts e. tt)), tt)
low ClassMethod v = ((tt, omega arith, tt), ((tt, omega arith, tt), tt))
low ClassComputedMethod v = ((tt, omega arith, tt), ((tt, omega arith, tt), tt))
low ClassGenerator v = ((tt, omega arith, tt), ((tt, omega arith, tt), tt))
low ClassComputedGenerator v = ((tt, omega arith, tt), ((tt, omega arith, tt), tt))
low ClassGetter v = ((tt, omega arith, tt), ((tt, omega arith, tt), tt))
low ClassComputedGetter v = ((tt, omega arith, tt), ((tt, omega arith, tt), tt))
low ClassSetter v = ((tt, omega arith, tt), ((tt, omega arith, tt), tt))
low ClassComputedSetter v = ((tt, omega arith, tt), ((tt, omega arith, tt), tt))
low Field v = ((tt, omega arith, tt), ((refl, tt, omega arith, tt, tt), tt))
low ComputedField v = ((tt, omega arith, tt), ((refl, tt, omega arith, tt, tt), tt))
low StaticElement v = ((tt, omega arith, tt), tt)
low StaticInit v = (((refl, refl), (refl, no_catch)), tt)
low (PrivateKey s) v = tt
low Defaulted v = ((tt, omega arith, tt), ((refl, tt, omega arith, tt, no_equals), ((λ r y. y), tt)))
low (BoundDefault s) v = ((tt, omega arith, λ r y. y), tt)
low (NamedDefault b s) v = ((tt, omega arith, tt), ((λ r y. y), tt))
low ComputedMethod v = ((tt, omega arith, tt), ((tt, omega arith, tt), tt))
low ComputedGetter v = ((tt, omega arith, tt), ((tt, omega arith, tt), tt))
low ComputedSetter v = ((tt, omega arith, tt), ((tt, omega arith, tt), tt))
low ComputedGenerator v = ((tt, omega arith, tt), ((tt, omega arith, tt), tt))
low (Template s) v = ((tt, omega arith, tt), ((tt, omega arith, tt), tt))
low (MiddlePiece s) v = ((tt, omega arith, tt), ((tt, omega arith, tt), tt))
low (TailPiece s) v = tt
low TaggedTemplate v = ((value_left TaggedTemplate refl, omega arith, refl, λ r. tt), ((tt, omega arith, tt), tt))
low (TagWhole s) v = tt
low (TagParts s) v = ((tt, omega arith, tt), ((tt, omega arith, tt), tt))
low Chain v = ((value_left Chain refl, omega arith, refl, λ r. tt), ((tt, omega arith, tt), ((refl, (refl, λ ts e. tt)), tt)))
low FirstMember v = ((tt, omega arith, tt), tt)
low FirstIndex v = ((tt, omega arith, tt), tt)
low FirstCall v = ((refl, tt), tt)
low LinkMember v = ((tt, omega arith, tt), tt)
low LinkIndex v = ((tt, omega arith, tt), tt)
low LinkCall v = ((refl, tt), tt)
low OptionalMember v = ((tt, omega arith, tt), tt)
low OptionalIndex v = ((tt, omega arith, tt), tt)
low OptionalCall v = ((refl, tt), tt)
low Arrow v = ((refl, refl), (refl, ((refl, omega arith, tt), tt)))
low (BindingName s) v = tt
low Block v = (((refl, refl), (refl, no_catch)), tt)
low (Variables k) v = ((refl, tt), tt)
low Declarator v = ((tt, omega arith, tt), ((refl, refl, omega arith, tt, λ r y. y), tt))
low Empty v = tt
low ExpressionStatement v = (refl, ((tt, omega arith, tt), tt))
low If v = absurd (false≢true (sym v))
low DoWhile v = ((tt, omega arith, (refl, refl)), ((tt, omega arith, tt), tt))
low While v = ((tt, omega arith, tt), ((tt, omega arith, refl), tt))
low For v = ((refl, tt), ((refl, tt), ((refl, tt), ((tt, omega arith, refl), tt))))
low Return v = ((refl, tt), tt)
low Throw v = ((tt, omega arith, tt), tt)
low Debugger v = tt
low Break v = ((refl, tt), tt)
low Continue v = ((refl, tt), tt)
low SpreadItem v = ((refl, omega arith, tt), tt)
low ArrowBlock v = ((refl, refl), ((tt, omega arith, tt), tt))
low (ArrowName s) v = (refl, ((refl, omega arith, tt), tt))
low (ArrowNameBlock s) v = ((tt, omega arith, tt), tt)
low Object v = ((refl, refl), tt)
low ObjectPattern v = ((refl, refl), tt)
low ArrayPattern v = ((refl, refl), tt)
low Rest v = ((tt, omega arith, tt), tt)
low BoundRest v = ((tt, omega arith, tt), tt)
low BoundKeyValue v = (tt, ((tt, omega arith, tt), ((tt, omega arith, λ r y. y), tt)))
low BoundComputed v = ((tt, omega arith, tt), ((tt, omega arith, λ r y. y), tt))
low (BoundShorthand s) v = ((λ r y. y), tt)
low (Shorthand s) v = ((λ r y. y), tt)
low KeyValue v = (tt, ((tt, omega arith, tt), ((refl, omega arith, tt), tt)))
low Computed v = ((tt, omega arith, tt), ((refl, omega arith, tt), tt))
low Spread v = ((refl, omega arith, tt), tt)
low FunctionExpression v = ((refl, tt), ((refl, refl), ((tt, omega arith, tt), tt)))
low FunctionDeclaration v = ((tt, omega arith, tt), ((refl, refl), ((tt, omega arith, tt), tt)))
low FunctionBody v = ((refl, (refl, λ ts e. tt)), (refl, (((refl, refl), (refl, no_catch)), tt)))
low (Directive s) v = tt
low GeneratorExpression v = ((refl, tt), ((refl, refl), ((tt, omega arith, tt), tt)))
low GeneratorDeclaration v = ((tt, omega arith, tt), ((refl, refl), ((tt, omega arith, tt), tt)))
low Yield v = ((refl, omega arith, tt), tt)
low YieldBare v = absurd (false≢true (sym v))
low YieldFrom v = ((refl, omega arith, tt), tt)
low SuperMember v = ((tt, omega arith, tt), tt)
low SuperIndex v = ((tt, omega arith, tt), tt)
low SuperCall v = ((refl, tt), tt)
low NewTarget v = tt
low ImportMeta v = tt
low (PrivateName s) v = tt
low (PrivateIn s) v = ((refl, omega arith, tt), tt)
low (Label s) v = ((tt, omega arith, refl), tt)
low Switch v = ((tt, omega arith, tt), (((refl, refl), (refl, clause_ends)), tt))
low ForIn v = ((tt, omega arith, tt), ((tt, omega arith, tt), ((tt, omega arith, refl), tt)))
low ForOf v = (refl, ((tt, omega arith, tt), ((tt, omega arith, tt), ((tt, omega arith, refl), tt))))
low ForPatternIn v = ((tt, omega arith, tt), ((tt, omega arith, tt), ((tt, omega arith, refl), tt)))
low ForPatternOf v = ((tt, omega arith, tt), ((tt, omega arith, tt), ((tt, omega arith, refl), tt)))
low ForDeclared v = ((tt, omega arith, refl), ((refl, tt), ((refl, tt), ((tt, omega arith, refl), tt))))
low ForDeclaredIn v = ((tt, omega arith, refl), ((tt, omega arith, tt), ((tt, omega arith, refl), tt)))
low ForDeclaredOf v = ((tt, omega arith, refl), ((tt, omega arith, tt), ((tt, omega arith, refl), tt)))
low MethodProperty v = (tt, ((tt, omega arith, tt), ((tt, omega arith, tt), tt)))
low Getter v = (tt, ((tt, omega arith, tt), ((tt, omega arith, tt), tt)))
low Setter v = (tt, ((tt, omega arith, tt), ((tt, omega arith, tt), tt)))
low GeneratorProperty v = (tt, ((tt, omega arith, tt), ((tt, omega arith, tt), tt)))
low (KeyWord s) v = tt
low (KeyText s) v = tt
low (KeyNumber n) v = tt
low MethodFunction v = ((refl, refl), ((tt, omega arith, tt), tt))
low GeneratorMethod v = ((refl, refl), ((tt, omega arith, tt), tt))
low (HeadVariables c) v = ((refl, refl), ((λ r y. y), tt))
low Case v = ((tt, omega arith, tt), (((refl, refl), (refl, no_catch)), (refl, tt)))
low DefaultCase v = (((refl, refl), (refl, no_catch)), (refl, tt))
low Try v = ((tt, omega arith, tt), ((refl, tt, omega arith, tt, (refl, λ r y. y.0)), ((refl, tt, omega arith, tt, λ r y. y.1), tt)))
low CatchParam v = ((tt, omega arith, tt), ((tt, omega arith, tt), tt))
low CatchBare v = ((tt, omega arith, tt), tt)
low BlockPart v = (((refl, refl), (refl, no_catch)), tt)
low (ImportBare s) v = tt
low ImportNames v = ((refl, refl), ((tt, omega arith, tt), tt))
low ImportNamespace v = ((tt, omega arith, tt), ((tt, omega arith, tt), tt))
low (ImportDefault s) v = ((tt, omega arith, tt), tt)
low (ImportDefaultNames s) v = ((refl, refl), ((tt, omega arith, tt), tt))
low (ImportDefaultNamespace s) v = ((tt, omega arith, tt), ((tt, omega arith, tt), tt))
low (ImportShort s) v = ((λ r y. y), tt)
low ImportAs v = ((tt, omega arith, tt), ((tt, omega arith, tt), tt))
low ExportNames v = ((refl, refl), tt)
low ExportFrom v = ((refl, refl), ((tt, omega arith, tt), tt))
low ExportAll v = ((refl, tt, omega arith, tt, refl), ((tt, omega arith, tt), tt))
low ExportDeclared v = ((tt, omega arith, tt), tt)
low ExportValue v = (refl, ((tt, omega arith, tt), tt))
low ExportDefault v = ((tt, omega arith, tt), tt)
low (ExportShort s) v = ((λ r y. y), tt)
low (ExportAs s) v = ((tt, omega arith, tt), tt)
low (ForwardName s) v = ((λ r y. y), tt)
low (ForwardText s) v = ((λ r y. y), tt)
low ForwardAs v = ((tt, omega arith, tt), ((tt, omega arith, tt), tt))
low (DeclaredVariables k) v = ((refl, tt), tt)
low DeclaredFunction v = ((tt, omega arith, tt), ((refl, refl), ((tt, omega arith, tt), tt)))
low DeclaredGenerator v = ((tt, omega arith, tt), ((refl, refl), ((tt, omega arith, tt), tt)))
low (DeclaredClass s) v = ((refl, tt, omega arith, tt, tt), ((tt, omega arith, tt), tt))
low DefaultFunction v = ((refl, tt), ((refl, refl), ((tt, omega arith, tt), tt)))
low DefaultGenerator v = ((refl, tt), ((refl, refl), ((tt, omega arith, tt), tt)))
low DefaultClass v = ((refl, tt, omega arith, tt, tt), ((tt, omega arith, tt), tt))
low (DefaultClassNamed s) v = ((refl, tt, omega arith, tt, tt), ((tt, omega arith, tt), tt))
