-- What stands before the `in` or the `of` in the head of a loop: an array or an object stands there
-- as a pattern alone.
use Rattle.std.specs.Prelude.{ℕ, ◌≡◌, refl, ◌≤◌, Bool, true, false, List, [], ◌∷◌, codes, Option, Some, None, if◌then◌else◌, ◌&&◌, ◌||◌}
use Rattle.std.proofs.Common.{◌∙◌, ap, sym, subst, arith}
use Rattle.std.proofs.lemmas.Bool.{false≢true}
use Rattle.mini_model.specs.declared.operator.BinaryOperator.{BinaryOperator}
use Rattle.mini_model.specs.declared.operator.BinaryOperator.TheVariants as binary
use Rattle.mini_model.specs.declared.operator.LogicalOperator.TheVariants.{Or, And, Coalesce}
use Rattle.mini_model.specs.declared.operator.UnaryOperator.TheVariants as unary
use Rattle.mini_model.specs.declared.operator.UpdateOperator.TheVariants.{Increment, Decrement}
use Rattle.mini_model.specs.Tree.{Tree, Trees}
use Rattle.mini_model.specs.Weight.{same_text}
use Rattle.mini_print.specs.Token.{Token, Word, Punct, LeftBracket, LeftBrace, TemplateWhole, TemplateHead, binary_token}
use Rattle.mini_print.specs.Grammar.{Array, ArrayTarget, Arrow, ArrowBlock, Assignment, BigIntLiteral, Binary, Call, Chain, ClassNamed, ClassPlain, Conditional, False, For, ForDeclared, ForPatternIn, ForPatternOf, FunctionExpression, GeneratorExpression, Goal, Import, ImportMeta, Index, Least, Logical, Member, New, NewTarget, Null, NumberLiteral, Object, ObjectTarget, Parenthesized, Part, PatternAssignment, Place, Postfix, Prefix, Reference, RegExpLiteral, Rule, Sequence, SuperCall, SuperIndex, SuperMember, TagTemplate, TaggedTemplate, TargetPattern, Template, TextLiteral, This, True, Two, Unary, WholeTemplate, WithoutIn, Yield, YieldBare, YieldFrom, commas, form, has, is_word_of, left, level, part, sort, token, ArrowName, ArrowNameBlock, NewBare}
use Rattle.mini_print.specs.Groups.{Groups, by_rule, Row, end, a_token, a_left, a_part, a_list, present, missing, Items, nothing, last, next, gap, a_fork}
use Rattle.mini_print.proofs.Reader.{statement_at, declares, for_rule, starts_head, each_pattern, is_head_word, is_head_word_next, behind_bracket, tail, opens_bracket, bars, end_words}
use Rattle.mini_print.proofs.Tidy.{Starting, opens_next, starts_template}
use Rattle.mini_print.proofs.Powers.{first_open, neutral_items, IsTwo}

-- what a value of a loop's head begins with, but for an array, an object and a pattern
abbrev pub HeadLed : List Part → Type 0
HeadLed (token x ∷ ps) = is_head_word x ≡ false
HeadLed (part (Some TagTemplate) n b ∷ ps) = Unit {0}
HeadLed _ = ⊥

abbrev pub HeadOpening : List Part → Type 0
HeadOpening (token x ∷ ps) = (ts : List Token) → starts_head (x ∷ ts) ≡ false
HeadOpening (left w n b ∷ ps) = HeadLed ps
HeadOpening (commas None Two ∷ ps) = Unit {0}
HeadOpening _ = ⊥

abbrev pub begins_bracket : Rule → Bool
begins_bracket Array = true
begins_bracket Object = true
begins_bracket PatternAssignment = true
begins_bracket _ = false

pub binary_heads : (o : BinaryOperator) → has WithoutIn (Binary o) ≡ true → is_head_word (binary_token o) ≡ false
binary_heads binary.In e = absurd (false≢true e)
binary_heads binary.Equality e = refl
binary_heads binary.Inequality e = refl
binary_heads binary.StrictEquality e = refl
binary_heads binary.StrictInequality e = refl
binary_heads binary.LessThan e = refl
binary_heads binary.LessEqualThan e = refl
binary_heads binary.GreaterThan e = refl
binary_heads binary.GreaterEqualThan e = refl
binary_heads binary.ShiftLeft e = refl
binary_heads binary.ShiftRight e = refl
binary_heads binary.ShiftRightZeroFill e = refl
binary_heads binary.Addition e = refl
binary_heads binary.Subtraction e = refl
binary_heads binary.Multiplication e = refl
binary_heads binary.Division e = refl
binary_heads binary.Remainder e = refl
binary_heads binary.Exponential e = refl
binary_heads binary.BitwiseAnd e = refl
binary_heads binary.BitwiseXor e = refl
binary_heads binary.BitwiseOr e = refl
binary_heads binary.Instanceof e = refl

pub head_opening : (h : Rule) → begins_bracket h ≡ false → has WithoutIn h ≡ true → HeadOpening (form h)
head_opening Member b e = refl
head_opening Index b e = refl
head_opening Call b e = refl
head_opening (Postfix Increment) b e = refl
head_opening (Postfix Decrement) b e = refl
head_opening (Binary o) b e = binary_heads o e
head_opening (Logical Or) b e = refl
head_opening (Logical And) b e = refl
head_opening (Logical Coalesce) b e = refl
head_opening Conditional b e = refl
head_opening (Assignment o) b e = refl
head_opening Sequence b e = tt
head_opening TaggedTemplate b e = tt
head_opening ClassPlain b e = λ ts. refl
head_opening (ClassNamed s) b e = λ ts. refl
head_opening Chain b e = refl
head_opening (WholeTemplate s) b e = λ ts. refl
head_opening (Template s) b e = λ ts. refl
head_opening (Reference s) b e = λ ts. refl
head_opening (NumberLiteral n) b e = λ ts. refl
head_opening (BigIntLiteral n) b e = λ ts. refl
head_opening (TextLiteral s) b e = λ ts. refl
head_opening (RegExpLiteral p f) b e = λ ts. refl
head_opening Null b e = λ ts. refl
head_opening This b e = λ ts. refl
head_opening True b e = λ ts. refl
head_opening False b e = λ ts. refl
head_opening Parenthesized b e = λ ts. refl
head_opening ArrowBlock b e = λ ts. refl
head_opening (ArrowName s) b e = λ ts. refl
head_opening (ArrowNameBlock s) b e = λ ts. refl
head_opening FunctionExpression b e = λ ts. refl
head_opening New b e = λ ts. refl
head_opening NewBare b e = λ ts. refl
head_opening Yield b e = λ ts. refl
head_opening YieldBare b e = λ ts. refl
head_opening YieldFrom b e = λ ts. refl
head_opening GeneratorExpression b e = λ ts. refl
head_opening SuperMember b e = λ ts. refl
head_opening SuperIndex b e = λ ts. refl
head_opening SuperCall b e = λ ts. refl
head_opening NewTarget b e = λ ts. refl
head_opening ImportMeta b e = λ ts. refl
head_opening Import b e = λ ts. refl
head_opening Arrow b e = λ ts. refl
head_opening (Prefix Increment) b e = λ ts. refl
head_opening (Prefix Decrement) b e = λ ts. refl
head_opening (Unary unary.UnaryPlus) b e = λ ts. refl
head_opening (Unary unary.UnaryNegation) b e = λ ts. refl
head_opening (Unary unary.LogicalNot) b e = λ ts. refl
head_opening (Unary unary.BitwiseNot) b e = λ ts. refl
head_opening (Unary unary.Typeof) b e = λ ts. refl
head_opening (Unary unary.Void) b e = λ ts. refl
head_opening (Unary unary.Delete) b e = λ ts. refl
head_opening Array b e = absurd (false≢true (sym b))
head_opening Object b e = absurd (false≢true (sym b))
head_opening PatternAssignment b e = absurd (false≢true (sym b))
head_opening _ b e = absurd (false≢true e)

template_heads : (ts : List Token) → starts_template ts ≡ true → is_head_word_next ts ≡ false
template_heads [] e = refl
template_heads (TemplateWhole s ∷ ts) e = refl
template_heads (TemplateHead s ∷ ts) e = refl
template_heads (x ∷ ts) e = absurd (false≢true e)

led_heads : {g : Goal} {ps : List Part} {ks : Trees} {ts r : List Token} → Row g ps ks ts r → HeadLed ps → is_head_word_next ts ≡ false
led_heads (a_token g x ps ks ts r d) o = o
led_heads (a_part g (Some TagTemplate) n b ps k ks ts m r c d) o = template_heads ts (first_open c)
led_heads _ o = absurd o

pub list_row : {g : Goal} {x y : Token} {o : Option Goal} {l : Least} {ks : Trees} {ts r : List Token} → Row g (token x ∷ commas o l ∷ token y ∷ []) ks ts r → (us : List Token) × (ts ≡ x ∷ us) × ((d : ℕ) → behind_bracket d us ≡ behind_bracket d (y ∷ r))
list_row (a_token _ _ _ _ us _ (a_list _ _ _ _ _ _ _ _ _ c (a_token _ _ _ _ _ _ (end _ _)))) = (us, refl, neutral_items c)

-- a list in brackets, with what stands behind them
listed_head : (x y : Token) (us r : List Token) → opens_bracket x ≡ true → behind_bracket 0 us ≡ r → starts_head (x ∷ us) ≡ is_head_word_next r
listed_head x y us r e b = ap (λ c. c && is_head_word_next (behind_bracket 0 us)) e ∙ ap is_head_word_next b

array_head : {g : Goal} {ks : Trees} {ts r : List Token} → Row g (form Array) ks ts r → starts_head ts ≡ is_head_word_next r
array_head {g} {ks} {ts} {r} d = let w = list_row d in ap starts_head w.1 ∙ listed_head (Punct LeftBracket) (Punct LeftBracket) w.0 r refl (w.2 0)

object_head : {g : Goal} {ks : Trees} {ts r : List Token} → Row g (form Object) ks ts r → starts_head ts ≡ is_head_word_next r
object_head {g} {ks} {ts} {r} d = let w = list_row d in ap starts_head w.1 ∙ listed_head (Punct LeftBrace) (Punct LeftBrace) w.0 r refl (w.2 0)

pattern_head_case : (h : Rule) → {g : Goal} {ks : Trees} {ts r : List Token} → Row g (form h) ks ts r → has TargetPattern h ≡ true → (starts_head ts ≡ is_head_word_next r) × (each_pattern (behind_bracket 0 (tail ts)) ≡ each_pattern r)
pattern_head_case ArrayTarget {g} {ks} {ts} {r} d f = let w = list_row d in (ap starts_head w.1 ∙ listed_head (Punct LeftBracket) (Punct LeftBracket) w.0 r refl (w.2 0), ap (λ u. each_pattern (behind_bracket 0 (tail u))) w.1 ∙ ap each_pattern (w.2 0))
pattern_head_case ObjectTarget {g} {ks} {ts} {r} d f = let w = list_row d in (ap starts_head w.1 ∙ listed_head (Punct LeftBrace) (Punct LeftBrace) w.0 r refl (w.2 0), ap (λ u. each_pattern (behind_bracket 0 (tail u))) w.1 ∙ ap each_pattern (w.2 0))
pattern_head_case _ d f = absurd (false≢true f)

pub pattern_head : {p : Place} {k : Tree} {ts r : List Token} → p.goal ≡ TargetPattern → Groups p k ts r → (starts_head ts ≡ is_head_word_next r) × (each_pattern (behind_bracket 0 (tail ts)) ≡ each_pattern r)
pattern_head q (by_rule p h ks ts r f d) = pattern_head_case h d (subst (λ g. has g h ≡ true) q f.0)

pattern_row_head : {g : Goal} {ks : Trees} {ts r : List Token} → Row g (form PatternAssignment) ks ts r → starts_head ts ≡ false
pattern_row_head (a_part _ _ _ _ _ _ _ _ _ _ c (a_token _ _ _ _ _ _ d)) = (pattern_head refl c).0

-- an array or an object binds not so tight, and behind a pattern stands `=`
bracket_head : (h : Rule) → begins_bracket h ≡ true → {g : Goal} {ks : Trees} {ts r : List Token} → Row g (form h) ks ts r → (n : ℕ) → n ≤ level h → (n ≤ 17 → is_head_word_next r ≡ false) → starts_head ts ≡ false
bracket_head Array b d n l w = array_head d ∙ w (omega (arith, l))
bracket_head Object b d n l w = object_head d ∙ w (omega (arith, l))
bracket_head PatternAssignment b d n l w = pattern_row_head d
bracket_head _ b d n l w = absurd (false≢true b)

pub either : {A : Type 0} (b : Bool) → b ≡ b → (b ≡ true → A) → (b ≡ false → A) → A
either true e f g = f refl
either false e f g = g refl

-- a value in the head of a loop is no array or object before `in` or `of`: there it binds tighter
-- than these do, or no such word stands behind it
mutual
  pub heads_none : {p : Place} {t : Tree} {ts r : List Token} → Groups p t ts r → p.goal ≡ WithoutIn → (p.level ≤ 17 → is_head_word_next r ≡ false) → starts_head ts ≡ false
  heads_none (by_rule p h ks ts r f d) q w = either (begins_bracket h) refl (λ b. bracket_head h b d p.level f.1 w) (λ b. head_row d q (head_opening h b (subst (λ g. has g h ≡ true) q f.0)))

  pub head_row : {g : Goal} {ps : List Part} {ks : Trees} {ts r : List Token} → Row g ps ks ts r → g ≡ WithoutIn → HeadOpening ps → starts_head ts ≡ false
  head_row (a_token g x ps ks ts r d) q o = o ts
  head_row (a_left g w n b ps k ks ts m r c d) q o = heads_none c q (λ l. led_heads d o)
  head_row (a_list g None Two ps is ks ts m r c d) q o = head_item c q tt
  head_row _ q o = absurd o

  pub head_item : {i : Goal} {l : Least} {is : Trees} {ts r : List Token} → Items i l is ts r → i ≡ WithoutIn → IsTwo l → starts_head ts ≡ false
  head_item (nothing g Two r u) q e = absurd (false≢true u)
  head_item (nothing g _ r u) q e = absurd e
  head_item (last g Two t ts r u c) q e = absurd (false≢true u)
  head_item (last g _ t ts r u c) q e = absurd e
  head_item (next g l t is ts m r c d) q e = heads_none c q (λ j. refl)
  head_item (gap g Two is m r u d) q e = absurd (false≢true u)
  head_item (gap g _ is m r u d) q e = absurd e

-- ---- which loop it is

-- no expression begins as a declaration
pub undeclared : (ts : List Token) → bars ts ≡ false → declares ts ≡ false
undeclared [] e = refl
undeclared (Word s ∷ ts) e = by (is_word_of end_words s) (same_text s (codes "var")) (same_text s (codes "let")) (same_text s (codes "const")) e
  where
    by : (a b c d : Bool) → (a || (b || (c || (d || (same_text s (codes "in") || false))))) ≡ false → (b || (c || (d || false))) ≡ false
    by false false false false e = refl
    by true b c d e = absurd (false≢true (sym e))
    by false true c d e = absurd (false≢true (sym e))
    by false false true d e = absurd (false≢true (sym e))
    by false false false true e = absurd (false≢true (sym e))
undeclared (x ∷ ts) e = refl

pub value_for : {p : Place} {t : Tree} {ts r : List Token} → Groups p t ts r → p.goal ≡ WithoutIn → (p.level ≤ 17 → is_head_word_next r ≡ false) → for_rule ts ≡ For
value_for {p} {t} {ts} c q w =
    ap (λ b. if b then ForDeclared else (if starts_head ts then each_pattern (behind_bracket 0 (tail ts)) else For)) (undeclared ts (subst (λ g. Starting (sort g) ts) q (first_open c))) ∙
    ap (λ b. if b then each_pattern (behind_bracket 0 (tail ts)) else For) (heads_none c q w)

pub declared_for : (ts : List Token) → declares ts ≡ true → for_rule ts ≡ ForDeclared
declared_for ts e = ap (λ b. if b then ForDeclared else (if starts_head ts then each_pattern (behind_bracket 0 (tail ts)) else For)) e

opens_undeclared : (ts : List Token) → opens_next ts ≡ true → declares ts ≡ false
opens_undeclared [] e = absurd (false≢true e)
opens_undeclared (Word s ∷ ts) e = absurd (false≢true e)
opens_undeclared (x ∷ ts) e = refl

pattern_for : {p : Place} {k : Tree} {ts r : List Token} → p.goal ≡ TargetPattern → Groups p k ts r → is_head_word_next r ≡ true → for_rule ts ≡ each_pattern r
pattern_for {p} {k} {ts} q c e =
    let w = pattern_head q c in
    ap (λ b. if b then ForDeclared else (if starts_head ts then each_pattern (behind_bracket 0 (tail ts)) else For)) (opens_undeclared ts (subst (λ g. Starting (sort g) ts) q (first_open c))) ∙
    ap (λ b. if b then each_pattern (behind_bracket 0 (tail ts)) else For) (w.0 ∙ e) ∙ w.1

pub for_begins : {g : Goal} {ks : Trees} {ts r : List Token} → Row g (form For) ks ts r → statement_at ts ≡ Some For
for_begins (a_token _ _ _ _ _ _ (a_token _ _ _ _ _ _ (present _ _ _ _ _ ts _ _ c (a_fork _ _ _ _ _ (a_token _ _ _ _ _ _ d))))) = ap (λ h. Some h) (value_for c refl (λ l. refl))
for_begins (a_token _ _ _ _ _ _ (a_token _ _ _ _ _ _ (missing _ _ _ _ _ _ (a_fork _ _ _ _ _ (a_token _ _ _ _ _ _ d))))) = refl

pub declared_for_begins : {g : Goal} {ks : Trees} {ts r : List Token} → Row g (form ForDeclared) ks ts r → statement_at ts ≡ Some ForDeclared
declared_for_begins (a_token _ _ _ _ _ _ (a_token _ _ _ _ _ _ (a_part _ _ _ _ _ _ _ ts _ _ c d))) = ap (λ h. Some h) (declared_for ts (first_open c))

pub pattern_in_begins : {g : Goal} {ks : Trees} {ts r : List Token} → Row g (form ForPatternIn) ks ts r → statement_at ts ≡ Some ForPatternIn
pattern_in_begins (a_token _ _ _ _ _ _ (a_token _ _ _ _ _ _ (a_part _ _ _ _ _ _ _ ts _ _ c (a_token _ _ _ _ _ _ d)))) = ap (λ h. Some h) (pattern_for refl c refl)

pub pattern_of_begins : {g : Goal} {ks : Trees} {ts r : List Token} → Row g (form ForPatternOf) ks ts r → statement_at ts ≡ Some ForPatternOf
pattern_of_begins (a_token _ _ _ _ _ _ (a_token _ _ _ _ _ _ (a_part _ _ _ _ _ _ _ ts _ _ c (a_token _ _ _ _ _ _ d)))) = ap (λ h. Some h) (pattern_for refl c refl)
