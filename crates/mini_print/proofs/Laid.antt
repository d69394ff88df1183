-- The tokens of a production's parts group to the parts.
use Rattle.std.specs.Prelude.{ℕ, suc, ◌≡◌, refl, ◌≤◌, Bool, true, false, ◌&&◌, ◌||◌, not, List, [], ◌∷◌, Option, Some, None, if◌then◌else◌}
use Rattle.std.proofs.Common.{◌∙◌, ap, sym, subst, arith, ◌⊎◌, inl, inr}
use Rattle.std.proofs.lemmas.Bool.{false≢true, le-leb}
use Rattle.mini_model.specs.declared.name.Name.{Name}
use Rattle.mini_model.specs.declared.seat.Mix.{Mix}
use Rattle.mini_model.specs.declared.seat.Mix.TheVariants as mix
use Rattle.mini_model.specs.declared.shape.Shape.{Shape}
use Rattle.mini_model.specs.declared.shape.Shape.TheVariants as shape
use Rattle.mini_model.specs.Weight.{same_text}
use Rattle.mini_print.specs.Text.{escaped}
use Rattle.mini_print.proofs.Escapes.{unescaped}
use Rattle.mini_print.proofs.Stated.{list_not_else, no_text}
use Rattle.mini_print.proofs.Told.{is_values, both, same_is}
use Rattle.mini_print.proofs.Tidy.{Starting}
use Rattle.mini_print.proofs.Reader.{is_right_brace, is_brace_next, is_weak, behind_semicolon}
use Rattle.mini_print.proofs.Powers.{first_open}
use Rattle.mini_print.proofs.Complete.{statement_ends}
use Rattle.mini_model.specs.Tree.{Tree, Trees, node, none, ◌▸◌, count, listed, leaf, absent}
use Rattle.mini_model.specs.Position.{assignment_level}
use Rattle.mini_print.specs.Token.{Token, Punct, LeftParen, RightParen, RightBrace, Comma, Word, Semicolon, Quoted}
use Rattle.mini_print.specs.Grammar.{Sort, Values, Statements, Declarators, sort, WithoutIn, Callee, Statement, Declared, left, lookahead, perhaps, option, statements, permits, Lookahead, NoStatement, NoBrace, Goal, Anything, Place, place, Rule, TextLiteral, Least, Zero, One, Two, Gaps, Silent, silent_tree, unwritten, Part, token, part, commas, has, opens, is_opener, Else, Equals, ExpressionStatement, Element, Property, Properties, Key, Cases, CaseEnd, Opener, opener, BoundProperties, Ended, HeadDeclarations, HeadDeclared, fork, HeadEnd, NotAsync, ends_head, KeyWord, KeyText, KeyNumber, KeyName, BoundElements, DefaultsOf, ClassBraces, ClassElements, Extends, starts_directive, NoDirective, Target, TargetElements, TargetProperties, YieldEnd, NoDeclaration, ImportItems, ExportItems, ForwardItems, semicolon, inserts, ends_statement}
use Rattle.mini_print.specs.Groups.{goal_of, a_left, a_lookahead, Groups, by_rule, Row, end, a_token, a_part, a_list, a_block, a_silent as a_silent_row, gap, has_gaps, none_is_enough, one_is_enough, behind_comma, present, missing, with, without, Items, nothing, last, next, Statements as StatementList, no_more, more, a_fork, a_semicolon, inserted}
use Rattle.mini_print.specs.Printed.{is_statements, else_behind, settled, settled_parts, are_printable, Printer, lay, lay_items, lay_block, printer, printers, enclosed, a_part as a_part_of, a_list as a_list_of, a_perhaps, sort_of, wants, a_block as a_block_of, a_silent, is_gap, wanted_goal, plain, has_enough, is_printable, fill, core, has_core, stands, undirected, takes_values, Style, Full, Short, terminated}
use Rattle.mini_print.proofs.Placed.{fits_whole, produced, Serves, plain_sort, serves_sort, value_serves, limit, one_limit, limited, in_parentheses}
use Rattle.mini_print.proofs.Low.{Heir, Ready, After, is_block_sort, Tail, stands_in_rows, ShutBefore, Shut, InBlock, Low, clause_opens}

-- ---- what is known of the parts of a node

-- whether an `else` behind it matters, and stands there
abbrev pub flag : Goal → List Token → Bool
flag g r = is_statements (sort g) && opens Else r

-- the sort of a part that is in the goal of the whole
pub part_sort : (g : Goal) (o : Option Goal) → Heir (sort g) o → sort_of o ≡ sort (goal_of g o)
part_sort Anything None e = refl
part_sort WithoutIn None e = refl
part_sort Callee None e = refl
part_sort Target None e = refl
part_sort Element None e = refl
part_sort Declared None e = refl
part_sort HeadDeclared None e = refl
part_sort Property None e = refl
part_sort g (Some i) e = refl
part_sort _ None e = absurd (false≢true e)

pub part_goal : (g : Goal) (o : Option Goal) → Heir (sort g) o → Serves (wanted_goal o) (goal_of g o)
part_goal Anything None e = inl refl
part_goal WithoutIn None e = inl refl
part_goal Callee None e = inl refl
part_goal Target None e = inl refl
part_goal Element None e = inl refl
part_goal Declared None e = inl refl
part_goal HeadDeclared None e = inl refl
part_goal Property None e = inl refl
part_goal g (Some i) e = inl refl
part_goal _ None e = absurd (false≢true e)

pub ready_comma : (s : Sort) → stands_in_rows s ≡ false → (r : List Token) → Ready s (Punct Comma ∷ r)
ready_comma Declarators e r = refl
ready_comma Properties e r = refl
ready_comma BoundProperties e r = refl
ready_comma TargetElements e r = refl
ready_comma TargetProperties e r = refl
ready_comma BoundElements e r = refl
ready_comma ImportItems e r = refl
ready_comma ExportItems e r = refl
ready_comma ForwardItems e r = refl
ready_comma (DefaultsOf b s) e r = refl
ready_comma Statements e r = absurd (false≢true (sym e))
ready_comma Cases e r = absurd (false≢true (sym e))
ready_comma HeadDeclarations e r = absurd (false≢true (sym e))
ready_comma _ e r = tt

pub rows_no_statements : (s : Sort) → stands_in_rows s ≡ false → is_statements s ≡ false
rows_no_statements Statements e = absurd (false≢true (sym e))
rows_no_statements _ e = refl

pub statements_ready : (s : Sort) → is_statements s ≡ true → (r : List Token) → Ready s r → Ready Statements r
statements_ready Statements e r y = y
statements_ready _ e r y = absurd (false≢true e)

pub head_no_equals : (r : List Token) → ends_head r ≡ true → opens Equals r ≡ false
head_no_equals [] e = refl
head_no_equals (Punct Semicolon ∷ r) e = refl
head_no_equals (Word s ∷ r) e = refl
head_no_equals (x ∷ r) e = absurd (false≢true e)

pub brace_ready : (s : Sort) (x : Token) (r : List Token) → is_right_brace x ≡ true → is_block_sort s ≡ true → Ready s (x ∷ r)
brace_ready Statements (Punct RightBrace) r e b = (refl, refl)
brace_ready Statements x r e b = absurd (false≢true e)
brace_ready Cases (Punct RightBrace) r e b = refl
brace_ready Cases x r e b = absurd (false≢true e)
brace_ready ClassElements x r e b = tt
brace_ready _ x r e b = absurd (false≢true b)

pub brace_no_else : (x : Token) → is_right_brace x ≡ true → is_opener Else x ≡ false
brace_no_else (Punct RightBrace) e = refl
brace_no_else x e = absurd (false≢true e)

pub value_unflagged : (s : Sort) (b : Bool) → is_values s ≡ true → (is_statements s && b) ≡ false
value_unflagged Values b e = refl
value_unflagged _ b e = absurd (false≢true e)

-- what may not follow is no parenthesis
abbrev pub is_key : Lookahead → Bool
is_key Key = true
is_key CaseEnd = true
is_key HeadEnd = true
is_key Ended = true
is_key NoDirective = true
is_key YieldEnd = true
is_key _ = false

pub paren_permitted : (c : Lookahead) (ts : List Token) → is_key c ≡ false → permits c (Punct LeftParen ∷ ts) ≡ true
paren_permitted Key ts e = absurd (false≢true (sym e))
paren_permitted CaseEnd ts e = absurd (false≢true (sym e))
paren_permitted HeadEnd ts e = absurd (false≢true (sym e))
paren_permitted NotAsync ts e = refl
paren_permitted Ended ts e = absurd (false≢true (sym e))
paren_permitted NoDirective ts e = absurd (false≢true (sym e))
paren_permitted YieldEnd ts e = absurd (false≢true (sym e))
paren_permitted NoDeclaration ts e = refl
paren_permitted NoStatement ts e = refl
paren_permitted NoBrace ts e = refl

-- a name begins with a word
abbrev pub is_property_name : Rule → Bool
is_property_name (KeyWord s) = true
is_property_name (KeyText s) = true
is_property_name (KeyNumber n) = true
is_property_name _ = false

pub no_other : (h : Rule) → is_property_name h ≡ false → has KeyName h ≡ true → ⊥
no_other (KeyWord s) e f = false≢true (sym e)
no_other (KeyText s) e f = false≢true (sym e)
no_other (KeyNumber n) e f = false≢true (sym e)
no_other _ e f = false≢true f

pub begins_with_word : {p : Place} {t : Tree} {ts r : List Token} → p.goal ≡ KeyName → Groups p t ts r → permits Key ts ≡ true
begins_with_word q (by_rule p (KeyWord s) ks ts r f (a_token _ _ _ _ _ _ d)) = refl
begins_with_word q (by_rule p (KeyText s) ks ts r f (a_token _ _ _ _ _ _ d)) = refl
begins_with_word q (by_rule p (KeyNumber s) ks ts r f (a_token _ _ _ _ _ _ d)) = refl
begins_with_word q (by_rule p h ks ts r f d) = absurd (no_other h refl (subst (λ g. has g h ≡ true) q f.0))

-- what stands in a goal by itself is printable there
pub part_of : (w : Goal) (h : Shape) (xs : List Name) (n : ℕ) (ts : Trees) → stands w h xs ts ≡ true → is_printable (a_part_of w) (node h xs n ts) ≡ true
part_of w h xs n ts e = ap (λ b. (b || (stands (core w) h xs ts && has_core w)) || (stands Anything h xs ts && takes_values w)) e

pub values_is : (s : Sort) → is_values s ≡ true → s ≡ Values
values_is Values e = refl
values_is _ e = absurd (false≢true e)

pub opener_is : (w v : Opener) (ts : List Token) → is_opener w (opener v) ≡ false → opens w (opener v ∷ ts) ≡ false
opener_is w v ts e = e

pub brace_opens : (ts : List Token) → is_brace_next ts ≡ true → opens Extends ts ≡ false
brace_opens [] e = refl
brace_opens (Word s ∷ ts) e = absurd (false≢true e)
brace_opens (x ∷ ts) e = refl

pub shut_before : (j : Goal) (w : Opener) (ts : List Token) → ShutBefore j w → Starting (sort j) ts → opens w ts ≡ false
shut_before ClassBraces Extends ts e f = brace_opens ts f
shut_before _ w ts e f = absurd e

pub part_opens : {g j : Goal} {n : ℕ} {b : Mix} {ps : List Part} {us : Trees} {ts r : List Token} → Row g (part (Some j) n b ∷ ps) us ts r → Starting (sort j) ts
part_opens (a_part _ _ _ _ _ _ _ _ _ _ c d) = first_open c

pub gaps_need_none : (l : Least) → has_gaps l ≡ true → none_is_enough l ≡ true
gaps_need_none Gaps e = refl
gaps_need_none _ e = absurd (false≢true e)

pub gaps_enough : (l : Least) (n : ℕ) → has_gaps l ≡ true → has_enough l n ≡ true
gaps_enough Gaps n e = refl
gaps_enough _ n e = absurd (false≢true e)

pub gaps_stay : (l : Least) → has_gaps (behind_comma l) ≡ has_gaps l
gaps_stay Gaps = refl
gaps_stay _ = refl

pub enough_one : (l : Least) → has_enough l 1 ≡ true → one_is_enough l ≡ true
enough_one Two e = absurd (false≢true e)
enough_one _ e = refl

pub behind_enough : (l : Least) (n : ℕ) → has_enough (behind_comma l) (suc n) ≡ true
behind_enough Gaps n = refl
behind_enough _ n = le-leb 1 (suc n) (omega arith)

pub anything_values : (o : Option Goal) → wanted_goal o ≡ Anything → is_values (sort_of o) ≡ true
anything_values None e = refl
anything_values (Some i) e = ap is_values (sym (plain_sort i) ∙ ap sort e)

-- a bare text at the beginning of statements, in parentheses
pub text_statement : List ℕ → Tree
text_statement s = node shape.ExpressionStatement [] 0 (leaf (shape.StringLiteral s) ▸ none)

pub text_value : (s : List ℕ) (r : List Token) → Groups (place Anything 0) (leaf (shape.StringLiteral s)) (Quoted (escaped s) ∷ r) r
text_value s r = produced (place Anything 0) (TextLiteral s) none _ r refl (by_rule (place Anything 0) (TextLiteral s) none _ r (fits_whole (TextLiteral s) refl) (a_token _ _ _ _ _ _ (end _ _)))

-- behind the last part of a statement
pub statement_ended : (g : Goal) (us : List Token) → ends_statement us ≡ true → Row g (semicolon ∷ []) none us (behind_semicolon us)
statement_ended g [] e = inserted g [] none [] [] refl (end g [])
statement_ended g (Punct Semicolon ∷ us) e = a_semicolon g [] none us us (end g us)
statement_ended g (Punct RightBrace ∷ us) e = inserted g [] none _ _ refl (end g _)
statement_ended g (x ∷ us) e = absurd (false≢true e)

pub text_groups : (i : Goal) → has i ExpressionStatement ≡ true → (s : List ℕ) (us : List Token) → ends_statement us ≡ true → Groups (place i 0) (text_statement s) (Quoted (escaped s) ∷ us) (behind_semicolon us)
unfolding text_statement
text_groups i H s us E = produced (place i 0) ExpressionStatement (leaf (shape.StringLiteral s) ▸ none) _ (behind_semicolon us) refl (
    by_rule (place i 0) ExpressionStatement (leaf (shape.StringLiteral s) ▸ none) _ (behind_semicolon us) (H, omega arith, refl)
    (a_lookahead _ NoStatement _ _ _ (behind_semicolon us) refl (a_part _ (Some Anything) 0 mix.None _ (leaf (shape.StringLiteral s)) none _ us (behind_semicolon us) (text_value s us) (statement_ended i us E))))

pub enclosed_text : (i : Goal) → has i ExpressionStatement ≡ true → (s : List ℕ) (us : List Token) → ends_statement us ≡ true → Groups (place i 0) (text_statement s) (Punct LeftParen ∷ Quoted (escaped s) ∷ Punct RightParen ∷ us) (behind_semicolon us)
unfolding text_statement
enclosed_text i H s us E = produced (place i 0) ExpressionStatement (leaf (shape.StringLiteral s) ▸ none) _ (behind_semicolon us) refl (
    by_rule (place i 0) ExpressionStatement (leaf (shape.StringLiteral s) ▸ none) _ (behind_semicolon us) (H, omega arith, refl)
    (a_lookahead _ NoStatement _ _ _ (behind_semicolon us) refl (a_part _ (Some Anything) 0 mix.None _ (leaf (shape.StringLiteral s)) none _ us (behind_semicolon us)
    (in_parentheses (place Anything 0) (leaf (shape.StringLiteral s)) _ us refl (omega arith) (text_value s (Punct RightParen ∷ us))) (statement_ended i us E))))

pub canonical_groups : (i : Goal) → has i ExpressionStatement ≡ true → is_weak i ≡ true → (s : List ℕ) (us m : List Token) (t : Tree) → ends_statement us ≡ true → Groups (place i 0) t (Quoted (escaped s) ∷ us) m →
    Groups (place i 0) t (Punct LeftParen ∷ Quoted (escaped s) ∷ Punct RightParen ∷ us) m
canonical_groups i H W s us m t E c =
    let same = statement_ends i W c (text_groups i H s us E) in
    subst (λ k. Groups (place i 0) t (Punct LeftParen ∷ Quoted (escaped s) ∷ Punct RightParen ∷ us) k) (sym same.1)
    (subst (λ k. Groups (place i 0) k (Punct LeftParen ∷ Quoted (escaped s) ∷ Punct RightParen ∷ us) (behind_semicolon us)) (sym same.0) (enclosed_text i H s us E))

pub same_text_groups : (i : Goal) → has i ExpressionStatement ≡ true → is_weak i ≡ true → (q : List ℕ) (us m : List Token) (t : Tree) → ends_statement us ≡ true → Groups (place i 0) t (Quoted q ∷ us) m → Groups (place i 0) t (Punct LeftParen ∷ Quoted q ∷ Punct RightParen ∷ us) m
same_text_groups i H W q us m t E c = by (same_text (escaped (unescaped q)) q) refl
  where
    by : (b : Bool) → same_text (escaped (unescaped q)) q ≡ b → Groups (place i 0) t (Punct LeftParen ∷ Quoted q ∷ Punct RightParen ∷ us) m
    by true e =
        let z = same_is (escaped (unescaped q)) q e in
        subst (λ y. Groups (place i 0) t (Punct LeftParen ∷ Quoted y ∷ Punct RightParen ∷ us) m) z
        (canonical_groups i H W (unescaped q) us m t E (subst (λ y. Groups (place i 0) t (Quoted y ∷ us) m) (sym z) c))
    by false e = absurd (no_text i H q us m t e c)

-- statements that begin with none that would be a directive
pub undirect_text : (i : Goal) → has i ExpressionStatement ≡ true → is_weak i ≡ true → (is : Trees) (s : List ℕ) (us m : List Token) (b : Bool) → ends_statement us ≡ b → StatementList i is (Quoted s ∷ us) m → starts_directive m ≡ false →
    StatementList i is (if b then Punct LeftParen ∷ Quoted s ∷ Punct RightParen ∷ us else Quoted s ∷ us) m
undirect_text i H W is s us m false E c e = c
undirect_text i H W is s us m true E (no_more _ _) e = absurd (false≢true (sym e ∙ E))
undirect_text i H W is s us r true E (more _ t js _ m _ c d) e = more i t js _ m r (same_text_groups i H W s us m t E c) d

pub undirect : (i : Goal) → has i ExpressionStatement ≡ true → is_weak i ≡ true → (is : Trees) (ts m : List Token) → StatementList i is ts m → starts_directive m ≡ false → StatementList i is (undirected ts) m
undirect i H W is (Quoted s ∷ us) m c e = undirect_text i H W is s us m (ends_statement us) refl c e
undirect i H W is ts m c e = c

pub no_directive : (ts : List Token) → permits NoDirective (undirected ts) ≡ true
no_directive [] = refl
no_directive (Quoted s ∷ ts) = by (ends_statement ts) refl
  where
    by : (b : Bool) → ends_statement ts ≡ b → permits NoDirective (if b then Punct LeftParen ∷ Quoted s ∷ Punct RightParen ∷ ts else Quoted s ∷ ts) ≡ true
    by true e = refl
    by false e = ap not e
no_directive (x ∷ ts) = refl

inserts_no_opener : (w : Opener) (m : List Token) → inserts m ≡ true → opens w m ≡ false
inserts_no_opener w [] e = refl
inserts_no_opener w (Punct RightBrace ∷ m) e = by w
  where
    by : (w : Opener) → is_opener w (Punct RightBrace) ≡ false
    by Equals = refl
    by _ = refl
inserts_no_opener w (x ∷ m) e = absurd (false≢true e)

pub brace_begins_none : (x : Token) (ts : List Token) → is_right_brace x ≡ true → starts_directive (x ∷ ts) ≡ false
brace_begins_none (Punct RightBrace) ts e = refl
brace_begins_none x ts e = absurd (false≢true e)

-- an item is a gap, where gaps may be, or is printed
abbrev pub ItemIs : Bool → Goal → Tree → Type 0
ItemIs c w t = ((c ≡ true) × (is_gap t ≡ true)) ⊎ (is_printable (a_part_of w) t ≡ true)

pub item_is : (c : Bool) (w : Goal) (t : Tree) → ((c && is_gap t) || is_printable (a_part_of w) t) ≡ true → ItemIs c w t
item_is false w t e = inr e
item_is true w t e = by (is_gap t) refl e
  where
    by : (b : Bool) → is_gap t ≡ b → (b || is_printable (a_part_of w) t) ≡ true → ItemIs true w t
    by true q e = inl (refl, q)
    by false q e = inr e

pub no_gap : (c : Bool) (k : Bool) → k ≡ false → (c && k) ≡ false
no_gap true k e = e
no_gap false k e = refl

-- what stands one behind the other is never right before an `else`
pub unflagged : (i : Goal) (m : List Token) → (is_statements (sort i) ≡ true → opens Else m ≡ false) → flag i m ≡ false
unflagged i m e = by (is_statements (sort i)) e
  where
    by : (b : Bool) → (b ≡ true → opens Else m ≡ false) → (b && opens Else m) ≡ false
    by true e = e refl
    by false e = refl

pub no_else_in : (i : Goal) (is : Trees) (ts m : List Token) → StatementList i is ts m → (is_statements (sort i) ≡ true → opens Else m ≡ false) → is_statements (sort i) ≡ true → opens Else ts ≡ false
no_else_in i is ts m c e q = list_not_else i q is ts m c (e q)

pub list_ready : (i : Goal) (is : Trees) (ts m : List Token) → StatementList i is ts m → InBlock i → Ready (sort i) m → Ready (sort i) ts
list_ready i is ts m (no_more _ r) B y = y
list_ready i is ts m (more _ t us ts' n r c d) B y = B.1 ts' (first_open c)

-- the `;` of a statement or a field, before these tokens
pub terminated_laid : (style : Style) (g : Goal) (ps : List Part) (ks : Trees) (m r : List Token) → Row g ps ks m r → Row g (semicolon ∷ ps) ks (terminated style m) r
terminated_laid Full g ps ks m r d = a_semicolon g ps ks m r d
terminated_laid Short g ps ks m r d = by (inserts m) refl
  where
    by : (b : Bool) → inserts m ≡ b → Row g (semicolon ∷ ps) ks (if b then m else Punct Semicolon ∷ m) r
    by true e = inserted g ps ks m r e d
    by false e = a_semicolon g ps ks m r d

pub terminated_opens : (style : Style) (w : Opener) (m : List Token) → opens w (terminated style m) ≡ false
terminated_opens style w m = by style (inserts m) refl
  where
    semicolon_opens : (w : Opener) → is_opener w (Punct Semicolon) ≡ false
    semicolon_opens Equals = refl
    semicolon_opens _ = refl

    by : (style : Style) (b : Bool) → inserts m ≡ b → opens w (terminated style m) ≡ false
    by Full b e = semicolon_opens w
    by Short true e = ap (λ c. opens w (if c then m else Punct Semicolon ∷ m)) e ∙ inserts_no_opener w m e
    by Short false e = ap (λ c. opens w (if c then m else Punct Semicolon ∷ m)) e ∙ semicolon_opens w

-- ---- in a style

module _ (style : Style) where
  -- a value stands where values do, and so on
  abbrev pub Good : Tree → Type 0
  Good t = ((p : Place) (w : Goal) → Serves w p.goal → is_printable (a_part_of w) t ≡ true → p.level ≤ limit w → (r : List Token) → Ready (sort p.goal) r → Groups p (settled (flag p.goal r) t) ((printer style t).one p r) r) ×
      ((g w : Goal) (l : Least) → Serves w g → is_printable (a_list_of w l) t ≡ true → stands_in_rows (sort g) ≡ false → (r : List Token) → Ready (sort g) r → (is : Trees) × (settled false t ≡ listed is) × Items g l is ((printer style t).items g (has_gaps l) r) r) ×
      ((i : Goal) → is_printable (a_block_of i) t ≡ true → InBlock i → (r : List Token) → (is_statements (sort i) ≡ true → opens Else r ≡ false) → Ready (sort i) r → (is : Trees) × (settled false t ≡ listed is) × StatementList i is ((printer style t).block i r) r) ×
      ((v : Silent) → is_printable (a_silent v) t ≡ true → settled false t ≡ silent_tree v)

  abbrev pub AllGood : Trees → Type 0
  AllGood none = Unit {0}
  AllGood (t ▸ ts) = Good t × AllGood ts

  pub ready : (s i : Sort) (ps : List Part) → After s i ps → (g : Goal) (ks : List Printer) (r : List Token) → Ready s r → Ready i (lay style g ps ks r)
  ready s Declarators (token x ∷ ps) a g ks r y = a
  ready s Declarators (semicolon ∷ ps) a g ks r y = terminated_opens style Equals (lay style g ps ks r)
  ready s Declarators (lookahead HeadEnd ∷ []) a g ks r y = head_no_equals r (subst (λ u. Ready u r) a y)
  ready s Declarators _ a g ks r y = absurd a
  ready s HeadDeclarations (fork ∷ token x ∷ ps) a g ks r y = a
  ready s HeadDeclarations _ a g ks r y = absurd a
  ready s Statements (token x ∷ ps) a g ks r y = a
  ready s Statements [] a g ks r y = statements_ready s a r y
  ready s Statements _ a g ks r y = absurd a
  ready s Cases _ a g ks r y = absurd a
  ready s Properties (token x ∷ ps) a g ks r y = a
  ready s Properties _ a g ks r y = absurd a
  ready s BoundProperties (token x ∷ ps) a g ks r y = a
  ready s BoundProperties _ a g ks r y = absurd a
  ready s TargetElements [] a g ks r y = a r y
  ready s TargetElements (token x ∷ ps) a g ks r y = a
  ready s TargetElements _ a g ks r y = absurd a
  ready s TargetProperties [] a g ks r y = a r y
  ready s TargetProperties (token x ∷ ps) a g ks r y = a
  ready s TargetProperties _ a g ks r y = absurd a
  ready s ImportItems (token x ∷ ps) a g ks r y = a
  ready s ImportItems _ a g ks r y = absurd a
  ready s ExportItems (token x ∷ ps) a g ks r y = a
  ready s ExportItems _ a g ks r y = absurd a
  ready s ForwardItems (token x ∷ ps) a g ks r y = a
  ready s ForwardItems _ a g ks r y = absurd a
  ready s BoundElements [] a g ks r y = a r y
  ready s BoundElements (token x ∷ ps) a g ks r y = a
  ready s BoundElements _ a g ks r y = absurd a
  ready s (DefaultsOf b t) [] a g ks r y = a r y
  ready s (DefaultsOf b t) (token x ∷ ps) a g ks r y = a
  ready s (DefaultsOf b t) _ a g ks r y = absurd a
  ready s _ ps a g ks r y = tt

  -- behind such a list nothing goes on that it holds
  pub tail_ready : (s : Sort) (i : Goal) (ps : List Part) → Tail s i ps → (g : Goal) (ks : List Printer) (r : List Token) → Ready s r → (is_statements (sort i) ≡ true → opens Else (lay style g ps ks r) ≡ false) × Ready (sort i) (lay style g ps ks r)
  tail_ready s i (token x ∷ ps) e g ks r y = (λ q. brace_no_else x e.0, brace_ready (sort i) x _ e.0 e.1)
  tail_ready s i (lookahead CaseEnd ∷ []) e g ks r y =
      let c = clause_opens r (subst (λ u. Ready u r) e.1 y) in
      (λ q. c.2, subst (λ j. Ready (sort j) r) (sym e.0) (c.0, c.1))
  tail_ready s i (lookahead NoDirective ∷ ps) e g ks r y = ((λ q. absurd (false≢true (ap (λ j. is_statements (sort j)) (sym e) ∙ q))), subst (λ j. Ready (sort j) (lay style g (lookahead NoDirective ∷ ps) ks r)) (sym e) tt)
  tail_ready s i [] e g ks r y = ((λ q. absurd (false≢true (ap (λ j. is_statements (sort j)) (sym e) ∙ q))), subst (λ j. Ready (sort j) r) (sym e) tt)
  tail_ready s i _ e g ks r y = absurd e

  pub else_after : (i : Sort) (ps : List Part) (ts : Trees) (g : Goal) → After (sort g) i ps → (r : List Token) → fill (Some (wants ps)) ts ≡ true →
      (is_statements i && opens Else (lay style g ps (printers style ts) r)) ≡ (is_statements i && else_behind (flag g r) ps ts)
  else_after Statements [] none g a r f = sym (ap (λ b. b && opens Else r) a)
  else_after Statements [] (t ▸ ts) g a r f = absurd (false≢true f)
  else_after Statements (token x ∷ ps) ts g a r f = refl
  else_after Statements _ ts g a r f = absurd a
  else_after _ ps ts g a r f = refl

  -- what isn't a statement is the same before an `else`
  pub at : (i w : Goal) (n : ℕ) (b : Mix) (t : Tree) → Good t → Serves w i → is_printable (a_part_of w) t ≡ true → is_statements (sort i) ≡ false → n ≤ limit w → (r : List Token) → Ready (sort i) r →
      Groups (record { goal = i; level = n; around = b }) (settled false t) ((printer style t).one (record { goal = i; level = n; around = b }) r) r
  at i w n b t G S e s l r y = subst (λ c. Groups (record { goal = i; level = n; around = b }) (settled c t) ((printer style t).one (record { goal = i; level = n; around = b }) r) r) (ap (λ c. c && opens Else r) s) (G.0 (record { goal = i; level = n; around = b }) w S e l r y)

  pub value_at : (i : Goal) (n : ℕ) (b : Mix) (t : Tree) → Good t → is_printable (a_part_of Anything) t ≡ true → is_values (sort i) ≡ true → n ≤ 18 → (r : List Token) →
      Groups (record { goal = i; level = n; around = b }) (settled false t) ((printer style t).one (record { goal = i; level = n; around = b }) r) r
  value_at i n b t G e v l r = at i Anything n b t G (value_serves i v) e (values_no_statements (sort i) v) l r (values_ready (sort i) v r)
    where
      values_no_statements : (s : Sort) → is_values s ≡ true → is_statements s ≡ false
      values_no_statements Values e = refl
      values_no_statements _ e = absurd (false≢true e)

      values_ready : (s : Sort) → is_values s ≡ true → (r : List Token) → Ready s r
      values_ready Values e r = tt
      values_ready _ e r = absurd (false≢true e)

  pub keyed : (d : Bool) (g : Goal) (n : ℕ) (b : Mix) (ps : List Part) (t : Tree) (ks : Trees) (m r : List Token) → Groups (record { goal = KeyName; level = n; around = b }) (settled false t) ((printer style t).one (record { goal = KeyName; level = n; around = b }) m) m →
      permits Key ((printer style t).one (record { goal = KeyName; level = n; around = b }) m) ≡ d → d ≡ true → Row g ps ks m r →
      Row g (lookahead Key ∷ part (Some KeyName) n b ∷ ps) (settled false t ▸ ks) (enclosed (not d) (printer style t) (record { goal = KeyName; level = n; around = b }) m) r
  keyed false g n b ps t ks m r G f e row = absurd (false≢true e)
  keyed true g n b ps t ks m r G f e row = a_lookahead g Key _ _ _ r f (a_part g (Some KeyName) n b ps (settled false t) ks _ m r G row)

  pub guarded : (d : Bool) (g : Goal) (c : Lookahead) (o : Option Goal) (n : ℕ) (b : Mix) (ps : List Part) (t : Tree) (ks : Trees) (m r : List Token) → Good t → is_printable (a_part_of Anything) t ≡ true → is_values (sort (goal_of g o)) ≡ true → n ≤ 18 → is_key c ≡ false →
      permits c ((printer style t).one (record { goal = goal_of g o; level = n; around = b }) m) ≡ d → Row g ps ks m r →
      Row g (lookahead c ∷ part o n b ∷ ps) (settled false t ▸ ks) (enclosed (not d) (printer style t) (record { goal = goal_of g o; level = n; around = b }) m) r
  guarded true g c o n b ps t ks m r G e v l k f row = a_lookahead g c _ _ _ r f (a_part g o n b ps (settled false t) ks _ m r (value_at (goal_of g o) n b t G e v l m) row)
  guarded false g c o n b ps t ks m r G e v l k f row =
      a_lookahead g c _ _ _ r (paren_permitted c _ k) (a_part g o n b ps (settled false t) ks _ m r
      (in_parentheses (record { goal = goal_of g o; level = n; around = b }) (settled false t) _ m v l (value_at Anything 0 mix.None t G e refl (omega arith) (Punct RightParen ∷ m))) row)

  pub perhaps_laid : (g i : Goal) (t : Tree) → Good t → is_printable (a_perhaps (plain i)) t ≡ true → stands_in_rows (sort i) ≡ false → (ps : List Part) (ks : Trees) (m r : List Token) → Ready (sort i) m → Row g ps ks m r →
      Row g (perhaps i ∷ ps) (settled false t ▸ ks) (if (printer style t).absent then m else (printer style t).one (place i 0) m) r
  perhaps_laid g i (node shape.Absent [] n none) G e s ps ks m r y d = missing g i ps ks m r d
  perhaps_laid g i (node shape.Absent [] n (t ▸ ts)) G e s ps ks m r y d = absurd (false≢true e)
  perhaps_laid g i (node shape.Absent (x ∷ xs) n ts) G e s ps ks m r y d = absurd (false≢true e)
  perhaps_laid g i (node h xs n ts) G e s ps ks m r y d =
      present g i ps (settled false (node h xs n ts)) ks _ m r (at i (plain i) 0 mix.None (node h xs n ts) G (inl refl) (part_of (plain i) h xs n ts e) (rows_no_statements (sort i) s) (let q = one_limit (plain i) in omega (arith, q)) m y) d

  pub flagged : (g : Goal) (o : Option Goal) (n : ℕ) (b : Mix) (ps : List Part) (t : Tree) (ks : Trees) (m r : List Token) (c : Bool) → Groups (record { goal = goal_of g o; level = n; around = b }) (settled (flag (goal_of g o) m) t) ((printer style t).one (record { goal = goal_of g o; level = n; around = b }) m) m →
      flag (goal_of g o) m ≡ c → Row g ps ks m r → Row g (part o n b ∷ ps) (settled c t ▸ ks) ((printer style t).one (record { goal = goal_of g o; level = n; around = b }) m) r
  flagged g o n b ps t ks m r c G q row = a_part g o n b ps (settled c t) ks _ m r (subst (λ y. Groups (record { goal = goal_of g o; level = n; around = b }) (settled y t) ((printer style t).one (record { goal = goal_of g o; level = n; around = b }) m) m) q G) row

  pub option_laid : (g : Goal) (w : Opener) (o : Option Goal) (n : ℕ) (t : Tree) → Good t → is_printable (a_perhaps (wanted_goal o)) t ≡ true → is_statements (sort (goal_of g o)) ≡ false → Serves (wanted_goal o) (goal_of g o) → n ≤ limit (wanted_goal o) →
      (ps : List Part) (ks : Trees) (m r : List Token) → Ready (sort (goal_of g o)) m → opens w m ≡ false → Row g ps ks m r →
      Row g (option w o n ∷ ps) (settled false t ▸ ks) (if (printer style t).absent then m else opener w ∷ (printer style t).one (place (goal_of g o) n) m) r
  option_laid g w o n (node shape.Absent [] k none) G e s S l ps ks m r y c d = without g w o n ps ks m r c d
  option_laid g w o n (node shape.Absent [] k (t ▸ ts)) G e s S l ps ks m r y c d = absurd (false≢true e)
  option_laid g w o n (node shape.Absent (x ∷ xs) k ts) G e s S l ps ks m r y c d = absurd (false≢true e)
  option_laid g w o n (node h xs k ts) G e s S l ps ks m r y c d =
      with g w o n ps (settled false (node h xs k ts)) ks _ m r (at (goal_of g o) (wanted_goal o) n mix.None (node h xs k ts) G S (part_of (wanted_goal o) h xs k ts e) s l m y) d

  pub shut_opens : (s : Sort) (w : Opener) (ps : List Part) → Shut s w ps → (g : Goal) (ks : List Printer) (us : Trees) (r : List Token) → Ready s r → Row g ps us (lay style g ps ks r) r → opens w (lay style g ps ks r) ≡ false
  shut_opens s w (token x ∷ ps) e g ks us r y D = e
  shut_opens s w (semicolon ∷ ps) e g ks us r y D = terminated_opens style w (lay style g ps ks r)
  shut_opens s w [] e g ks us r y D = e r y
  shut_opens s w (option v o n ∷ []) e g [] us r y D = e.1 r y
  shut_opens s w (option v o n ∷ []) e g (k ∷ ks) us r y D = by k.absent
    where
      by : (b : Bool) → opens w (if b then r else opener v ∷ k.one (place (goal_of g o) n) r) ≡ false
      by true = e.1 r y
      by false = e.0
  shut_opens s w (lookahead Ended ∷ []) e g ks us r y D = e r y
  shut_opens s w (part (Some j) n b ∷ ps) e g ks us r y D = shut_before j w (lay style g (part (Some j) n b ∷ ps) ks r) e (part_opens D)
  shut_opens s w _ e g ks us r y D = absurd e

  pub none_laid : (ps : List Part) (g : Goal) (r : List Token) → fill (Some (wants ps)) none ≡ true → (k : Rule) → Low k (sort g) ps → Ready (sort g) r → Row g ps none (lay style g ps [] r) r
  none_laid [] g r f k L y = end g r
  none_laid (token x ∷ ps) g r f k L y = a_token g x ps none _ r (none_laid ps g r f k L y)
  none_laid (lookahead Key ∷ part (Some KeyName) n b ∷ ps) g r f k L y = absurd (false≢true f)
  none_laid (lookahead Key ∷ ps) g r f k L y = absurd L.0
  none_laid (lookahead CaseEnd ∷ []) g r f k L y = a_lookahead g CaseEnd [] none r r (subst (λ s. Ready s r) L.0 y) (end g r)
  none_laid (lookahead CaseEnd ∷ p ∷ ps) g r f k L y = absurd L.0
  none_laid (lookahead Ended ∷ []) g r f k L y = a_lookahead g Ended [] none r r (L.0 r y) (end g r)
  none_laid (lookahead Ended ∷ p ∷ ps) g r f k L y = absurd L.0
  none_laid (lookahead HeadEnd ∷ []) g r f k L y = a_lookahead g HeadEnd [] none r r (L.0 r y) (end g r)
  none_laid (lookahead HeadEnd ∷ p ∷ ps) g r f k L y = absurd L.0
  none_laid (lookahead NotAsync ∷ part o n b ∷ ps) g r f k L y = absurd (false≢true f)
  none_laid (lookahead NotAsync ∷ ps) g r f k L y = absurd L.0
  none_laid (lookahead NoDirective ∷ statements Statement ∷ ps) g r f k L y = absurd (false≢true f)
  none_laid (lookahead NoDirective ∷ ps) g r f k L y = absurd L.0
  none_laid (lookahead YieldEnd ∷ ps) g r f k L y = absurd L.0
  none_laid (fork ∷ ps) g r f k L y = a_fork g ps none _ r (none_laid ps g r f k L y)
  none_laid (semicolon ∷ ps) g r f k L y = terminated_laid style g ps none _ r (none_laid ps g r f k L y)
  none_laid (lookahead NoStatement ∷ part o n b ∷ ps) g r f k L y = absurd (false≢true f)
  none_laid (lookahead NoStatement ∷ ps) g r f k L y = absurd L.0
  none_laid (lookahead NoDeclaration ∷ part o n b ∷ ps) g r f k L y = absurd (false≢true f)
  none_laid (lookahead NoDeclaration ∷ ps) g r f k L y = absurd L.0
  none_laid (lookahead NoBrace ∷ part o n b ∷ ps) g r f k L y = absurd (false≢true f)
  none_laid (lookahead NoBrace ∷ ps) g r f k L y = absurd L.0
  none_laid (commas None l ∷ ps) g r f k L y = absurd (false≢true f)
  none_laid (commas (Some j) l ∷ ps) g r f k L y = absurd (false≢true f)
  none_laid (option w o n ∷ ps) g r f k L y = absurd (false≢true f)
  none_laid _ g r f k L y = absurd (false≢true f)

  pub laid : (ps : List Part) (ts : Trees) → AllGood ts → fill (Some (wants ps)) ts ≡ true → (g : Goal) (k : Rule) → has g k ≡ true → Low k (sort g) ps → (r : List Token) → Ready (sort g) r → Row g ps (settled_parts (flag g r) ps ts) (lay style g ps (printers style ts) r) r
  laid [] none G f g k H L r y = end g r
  laid [] (t ▸ ts) G f g k H L r y = absurd (false≢true f)
  laid (token x ∷ ps) none G f g k H L r y = a_token g x ps none _ r (none_laid ps g r f k L y)
  laid (token x ∷ ps) (t ▸ ts) G f g k H L r y = a_token g x ps _ _ r (laid ps (t ▸ ts) G f g k H L r y)
  laid (left w n b ∷ ps) none G f g k H L r y = absurd (false≢true f)
  laid (left w n b ∷ ps) (t ▸ ts) G f g k H L r y =
      let a = both (is_printable (a_part_of w) t) (fill (Some (wants ps)) ts) f in
      let S = L.0.0 g H in
      let q = serves_sort w g S in
      a_left g w n b ps (settled false t) _ _ _ r (at g w n b t G.0 S a.0 (rows_no_statements (sort g) (subst (λ s. stands_in_rows s ≡ false) q L.0.2)) L.0.1 _ (subst (λ s. Ready s (lay style g ps (printers style ts) r)) q (L.0.3 (lay style g ps (printers style ts) r)))) (laid ps ts G.1 a.1 g k H L.1 r y)
  laid (part o n b ∷ ps) none G f g k H L r y = absurd (false≢true f)
  laid (part o n b ∷ ps) (t ▸ ts) G f g k H L r y =
      let a = both (is_printable (a_part_of (wanted_goal o)) t) (fill (Some (wants ps)) ts) f in
      let q = part_sort g o L.0.0 in
      let m = lay style g ps (printers style ts) r in
      flagged g o n b ps t _ m r _
      (G.0.0 (record { goal = goal_of g o; level = n; around = b }) (wanted_goal o) (part_goal g o L.0.0) a.0 L.0.1 m (subst (λ s. Ready s m) q (ready (sort g) (sort_of o) ps L.0.2 g (printers style ts) r y)))
      (ap (λ s. is_statements s && opens Else m) (sym q) ∙ else_after (sort_of o) ps ts g L.0.2 r a.1)
      (laid ps ts G.1 a.1 g k H L.1 r y)
  laid (commas None l ∷ ps) none G f g k H L r y = absurd (false≢true f)
  laid (commas (Some j) l ∷ ps) none G f g k H L r y = absurd (false≢true f)
  laid (commas None l ∷ ps) (t ▸ ts) G f g k H L r y =
      let a = both (is_printable (a_list_of Anything l) t) (fill (Some (wants ps)) ts) f in
      let m = lay style g ps (printers style ts) r in
      let S = value_serves g L.0 in
      let q = serves_sort Anything g S in
      let i = G.0.1 g Anything l S a.0 (subst (λ s. stands_in_rows s ≡ false) q refl) m (subst (λ s. Ready s m) q tt) in
      subst (λ z. Row g (commas None l ∷ ps) (z ▸ settled_parts (flag g r) ps ts) ((printer style t).items g (has_gaps l) m) r) (sym i.1) (a_list g None l ps i.0 _ _ m r i.2 (laid ps ts G.1 a.1 g k H L.1 r y))
  laid (commas (Some j) l ∷ ps) (t ▸ ts) G f g k H L r y =
      let a = both (is_printable (a_list_of (plain j) l) t) (fill (Some (wants ps)) ts) f in
      let m = lay style g ps (printers style ts) r in
      let i = G.0.1 j (plain j) l (inl refl) a.0 L.0.0 m (ready (sort g) (sort j) ps L.0.1 g (printers style ts) r y) in
      subst (λ z. Row g (commas (Some j) l ∷ ps) (z ▸ settled_parts (flag g r) ps ts) ((printer style t).items j (has_gaps l) m) r) (sym i.1) (a_list g (Some j) l ps i.0 _ _ m r i.2 (laid ps ts G.1 a.1 g k H L.1 r y))
  laid (lookahead Key ∷ part (Some KeyName) n b ∷ ps) none G f g k H L r y = absurd (false≢true f)
  laid (lookahead Key ∷ part (Some KeyName) n b ∷ ps) (t ▸ ts) G f g k H L r y =
      let a = both (is_printable (a_part_of KeyName) t) (fill (Some (wants ps)) ts) f in
      let m = lay style g ps (printers style ts) r in
      let z = L.1.0.1 in
      let c = at KeyName KeyName n b t G.0 (inl refl) a.0 refl (omega (arith, z)) m tt in
      keyed _ g n b ps t _ m r c refl (begins_with_word refl c) (laid ps ts G.1 a.1 g k H L.1.1 r y)
  laid (lookahead CaseEnd ∷ []) none G f g k H L r y = a_lookahead g CaseEnd [] none r r (subst (λ s. Ready s r) L.0 y) (end g r)
  laid (lookahead CaseEnd ∷ []) (t ▸ ts) G f g k H L r y = absurd (false≢true f)
  laid (lookahead CaseEnd ∷ p ∷ ps) ts G f g k H L r y = absurd L.0
  laid (lookahead Ended ∷ []) none G f g k H L r y = a_lookahead g Ended [] none r r (L.0 r y) (end g r)
  laid (lookahead Ended ∷ []) (t ▸ ts) G f g k H L r y = absurd (false≢true f)
  laid (lookahead Ended ∷ p ∷ ps) ts G f g k H L r y = absurd L.0
  laid (lookahead HeadEnd ∷ []) none G f g k H L r y = a_lookahead g HeadEnd [] none r r (L.0 r y) (end g r)
  laid (lookahead HeadEnd ∷ []) (t ▸ ts) G f g k H L r y = absurd (false≢true f)
  laid (lookahead HeadEnd ∷ p ∷ ps) ts G f g k H L r y = absurd L.0
  laid (lookahead NoDirective ∷ statements Statement ∷ token x ∷ ps) none G f g k H L r y = absurd (false≢true f)
  laid (lookahead NoDirective ∷ statements Statement ∷ token x ∷ ps) (t ▸ ts) G f g k H L r y =
      let a = both (is_printable (a_block_of Statement) t) (fill (Some (wants ps)) ts) f in
      let m = lay style g (token x ∷ ps) (printers style ts) r in
      let u = tail_ready (sort g) Statement (token x ∷ ps) L.1.0.0 g (printers style ts) r y in
      let j = G.0.2 Statement a.0 L.1.0.1 m u.0 u.1 in
      let z = undirect Statement refl refl j.0 ((printer style t).block Statement m) m j.2 (brace_begins_none x (lay style g ps (printers style ts) r) L.0) in
      subst (λ v. Row g (lookahead NoDirective ∷ statements Statement ∷ token x ∷ ps) (v ▸ settled_parts (flag g r) (token x ∷ ps) ts) (undirected ((printer style t).block Statement m)) r) (sym j.1)
      (a_lookahead g NoDirective _ _ _ r (no_directive ((printer style t).block Statement m)) (a_block g Statement (token x ∷ ps) j.0 _ _ m r z (laid (token x ∷ ps) ts G.1 a.1 g k H L.1.1 r y)))
  laid (lookahead NoDirective ∷ ps) ts G f g k H L r y = absurd L.0
  laid (lookahead YieldEnd ∷ ps) ts G f g k H L r y = absurd L.0
  laid (fork ∷ ps) none G f g k H L r y = a_fork g ps none _ r (none_laid ps g r f k L y)
  laid (fork ∷ ps) (t ▸ ts) G f g k H L r y = a_fork g ps _ _ r (laid ps (t ▸ ts) G f g k H L r y)
  laid (semicolon ∷ ps) none G f g k H L r y = terminated_laid style g ps none _ r (none_laid ps g r f k L y)
  laid (semicolon ∷ ps) (t ▸ ts) G f g k H L r y = terminated_laid style g ps _ _ r (laid ps (t ▸ ts) G f g k H L r y)
  laid (lookahead NotAsync ∷ part o n b ∷ ps) none G f g k H L r y = absurd (false≢true f)
  laid (lookahead NotAsync ∷ part o n b ∷ ps) (t ▸ ts) G f g k H L r y =
      let a = both (is_printable (a_part_of (wanted_goal o)) t) (fill (Some (wants ps)) ts) f in
      let q = part_sort g o L.1.0.0 in
      let m = lay style g ps (printers style ts) r in
      subst (λ z. Row g (lookahead NotAsync ∷ part o n b ∷ ps) (settled z t ▸ settled_parts (flag g r) ps ts) (enclosed (not (permits NotAsync ((printer style t).one (record { goal = goal_of g o; level = n; around = b }) m))) (printer style t) (record { goal = goal_of g o; level = n; around = b }) m) r) (sym (value_unflagged (sort_of o) _ (anything_values o L.0)))
      (guarded _ g NotAsync o n b ps t _ m r G.0 (subst (λ s. is_printable (a_part_of s) t ≡ true) L.0 a.0) (subst (λ s. is_values s ≡ true) q (anything_values o L.0)) (let z = L.1.0.1 in let w = limited (wanted_goal o) in omega (arith, z, w)) refl refl (laid ps ts G.1 a.1 g k H L.1.1 r y))
  laid (lookahead NotAsync ∷ ps) ts G f g k H L r y = absurd L.0
  laid (lookahead Key ∷ ps) ts G f g k H L r y = absurd L.0
  laid (lookahead NoStatement ∷ part o n b ∷ ps) none G f g k H L r y = absurd (false≢true f)
  laid (lookahead NoStatement ∷ part o n b ∷ ps) (t ▸ ts) G f g k H L r y =
      let a = both (is_printable (a_part_of (wanted_goal o)) t) (fill (Some (wants ps)) ts) f in
      let q = part_sort g o L.1.0.0 in
      let m = lay style g ps (printers style ts) r in
      subst (λ z. Row g (lookahead NoStatement ∷ part o n b ∷ ps) (settled z t ▸ settled_parts (flag g r) ps ts) (enclosed (not (permits NoStatement ((printer style t).one (record { goal = goal_of g o; level = n; around = b }) m))) (printer style t) (record { goal = goal_of g o; level = n; around = b }) m) r) (sym (value_unflagged (sort_of o) _ (anything_values o L.0)))
      (guarded _ g NoStatement o n b ps t _ m r G.0 (subst (λ s. is_printable (a_part_of s) t ≡ true) L.0 a.0) (subst (λ s. is_values s ≡ true) q (anything_values o L.0)) (let z = L.1.0.1 in let w = limited (wanted_goal o) in omega (arith, z, w)) refl refl (laid ps ts G.1 a.1 g k H L.1.1 r y))
  laid (lookahead NoStatement ∷ ps) ts G f g k H L r y = absurd L.0
  laid (lookahead NoBrace ∷ part o n b ∷ ps) none G f g k H L r y = absurd (false≢true f)
  laid (lookahead NoBrace ∷ part o n b ∷ ps) (t ▸ ts) G f g k H L r y =
      let a = both (is_printable (a_part_of (wanted_goal o)) t) (fill (Some (wants ps)) ts) f in
      let q = part_sort g o L.1.0.0 in
      let m = lay style g ps (printers style ts) r in
      subst (λ z. Row g (lookahead NoBrace ∷ part o n b ∷ ps) (settled z t ▸ settled_parts (flag g r) ps ts) (enclosed (not (permits NoBrace ((printer style t).one (record { goal = goal_of g o; level = n; around = b }) m))) (printer style t) (record { goal = goal_of g o; level = n; around = b }) m) r) (sym (value_unflagged (sort_of o) _ (anything_values o L.0)))
      (guarded _ g NoBrace o n b ps t _ m r G.0 (subst (λ s. is_printable (a_part_of s) t ≡ true) L.0 a.0) (subst (λ s. is_values s ≡ true) q (anything_values o L.0)) (let z = L.1.0.1 in let w = limited (wanted_goal o) in omega (arith, z, w)) refl refl (laid ps ts G.1 a.1 g k H L.1.1 r y))
  laid (lookahead NoBrace ∷ ps) ts G f g k H L r y = absurd L.0
  laid (lookahead NoDeclaration ∷ part o n b ∷ ps) none G f g k H L r y = absurd (false≢true f)
  laid (lookahead NoDeclaration ∷ part o n b ∷ ps) (t ▸ ts) G f g k H L r y =
      let a = both (is_printable (a_part_of (wanted_goal o)) t) (fill (Some (wants ps)) ts) f in
      let q = part_sort g o L.1.0.0 in
      let m = lay style g ps (printers style ts) r in
      subst (λ z. Row g (lookahead NoDeclaration ∷ part o n b ∷ ps) (settled z t ▸ settled_parts (flag g r) ps ts) (enclosed (not (permits NoDeclaration ((printer style t).one (record { goal = goal_of g o; level = n; around = b }) m))) (printer style t) (record { goal = goal_of g o; level = n; around = b }) m) r) (sym (value_unflagged (sort_of o) _ (anything_values o L.0)))
      (guarded _ g NoDeclaration o n b ps t _ m r G.0 (subst (λ s. is_printable (a_part_of s) t ≡ true) L.0 a.0) (subst (λ s. is_values s ≡ true) q (anything_values o L.0)) (let z = L.1.0.1 in let w = limited (wanted_goal o) in omega (arith, z, w)) refl refl (laid ps ts G.1 a.1 g k H L.1.1 r y))
  laid (lookahead NoDeclaration ∷ ps) ts G f g k H L r y = absurd L.0
  laid (perhaps i ∷ ps) none G f g k H L r y = absurd (false≢true f)
  laid (perhaps i ∷ ps) (t ▸ ts) G f g k H L r y =
      let a = both (is_printable (a_perhaps (plain i)) t) (fill (Some (wants ps)) ts) f in
      perhaps_laid g i t G.0 a.0 L.0.0 ps _ _ r (ready (sort g) (sort i) ps L.0.1 g (printers style ts) r y) (laid ps ts G.1 a.1 g k H L.1 r y)
  laid (option w o n ∷ ps) none G f g k H L r y = absurd (false≢true f)
  laid (option w o n ∷ ps) (t ▸ ts) G f g k H L r y =
      let a = both (is_printable (a_perhaps (wanted_goal o)) t) (fill (Some (wants ps)) ts) f in
      let q = part_sort g o L.0.1 in
      let m = lay style g ps (printers style ts) r in
      let s = rows_no_statements (sort_of o) L.0.0 in
      subst (λ z. Row g (option w o n ∷ ps) (settled z t ▸ settled_parts (flag g r) ps ts) (if (printer style t).absent then m else opener w ∷ (printer style t).one (place (goal_of g o) n) m) r) (sym (ap (λ b. b && else_behind (flag g r) ps ts) s))
      (option_laid g w o n t G.0 a.0 (subst (λ u. is_statements u ≡ false) q s) (part_goal g o L.0.1) L.0.2 ps _ m r (subst (λ u. Ready u m) q (ready (sort g) (sort_of o) ps L.0.3 g (printers style ts) r y)) (shut_opens (sort g) w ps L.0.4 g (printers style ts) _ r y (laid ps ts G.1 a.1 g k H L.1 r y)) (laid ps ts G.1 a.1 g k H L.1 r y))
  laid (statements i ∷ ps) none G f g k H L r y = absurd (false≢true f)
  laid (statements i ∷ ps) (t ▸ ts) G f g k H L r y =
      let a = both (is_printable (a_block_of i) t) (fill (Some (wants ps)) ts) f in
      let m = lay style g ps (printers style ts) r in
      let u = tail_ready (sort g) i ps L.0.0 g (printers style ts) r y in
      let j = G.0.2 i a.0 L.0.1 m u.0 u.1 in
      subst (λ z. Row g (statements i ∷ ps) (z ▸ settled_parts (flag g r) ps ts) ((printer style t).block i m) r) (sym j.1) (a_block g i ps j.0 _ _ m r j.2 (laid ps ts G.1 a.1 g k H L.1 r y))
  laid (unwritten v ∷ ps) none G f g k H L r y = absurd (false≢true f)
  laid (unwritten v ∷ ps) (t ▸ ts) G f g k H L r y =
      let a = both (is_printable (a_silent v) t) (fill (Some (wants ps)) ts) f in
      subst (λ z. Row g (unwritten v ∷ ps) (z ▸ settled_parts (flag g r) ps ts) (lay style g ps (printers style ts) r) r) (sym (G.0.3 v a.0)) (a_silent_row g v ps _ _ r (laid ps ts G.1 a.1 g k H L r y))

  -- what stands nowhere is no gap, so a printed part is none
  pub part_is_present : (t : Tree) (w : Goal) → is_printable (a_part_of w) t ≡ true → (printer style t).absent ≡ false
  part_is_present (node shape.Absent xs n ts) w e = absurd (false≢true e)
  part_is_present (node _ xs n ts) w e = refl

  pub gap_is_absent : (t : Tree) → is_gap t ≡ true → ((printer style t).absent ≡ true) × (settled false t ≡ absent)
  gap_is_absent (node shape.Absent [] n none) e = (refl, refl)
  gap_is_absent (node shape.Absent [] n (t ▸ ts)) e = absurd (false≢true e)
  gap_is_absent (node shape.Absent (x ∷ xs) n ts) e = absurd (false≢true e)
  gap_is_absent (node _ xs n ts) e = absurd (false≢true e)

  pub laid_items : (ts : Trees) → AllGood ts → (l : Least) (g w : Goal) → Serves w g → has_enough l (count ts) ≡ true → are_printable w (has_gaps l) ts ≡ true → stands_in_rows (sort g) ≡ false → (r : List Token) → Ready (sort g) r →
      Items g l (settled_parts false [] ts) (lay_items g (has_gaps l) (printers style ts) r) r
  laid_items none G Zero g w S h v s r y = nothing g Zero r refl
  laid_items none G Gaps g w S h v s r y = nothing g Gaps r refl
  laid_items none G One g w S h v s r y = absurd (false≢true h)
  laid_items none G Two g w S h v s r y = absurd (false≢true h)
  laid_items (t ▸ none) G l g w S h v s r y = by (item_is (has_gaps l) w t (both ((has_gaps l && is_gap t) || is_printable (a_part_of w) t) true v).0)
    where
      by : ItemIs (has_gaps l) w t → Items g l (settled false t ▸ none) (lay_items g (has_gaps l) (printer style t ∷ []) r) r
      by (inl e) =
          let a = gap_is_absent t e.1 in
          subst (λ b. Items g l (settled false t ▸ none) (if b then Punct Comma ∷ r else (printer style t).one (place g assignment_level) r) r) (sym (ap (λ c. has_gaps l && c) a.0 ∙ ap (λ c. c && true) e.0))
          (subst (λ k. Items g l (k ▸ none) (Punct Comma ∷ r) r) (sym a.1) (gap g l none r r e.0 (nothing g l r (gaps_need_none l e.0))))
      by (inr e) =
          subst (λ b. Items g l (settled false t ▸ none) (if b then Punct Comma ∷ r else (printer style t).one (place g assignment_level) r) r) (sym (no_gap (has_gaps l) _ (part_is_present t w e)))
          (last g l (settled false t) _ r (enough_one l h) (at g w assignment_level mix.None t G.0 S e (rows_no_statements (sort g) s) (one_limit w) r y))
  laid_items (t ▸ u ▸ us) G l g w S h v s r y =
      let a = both ((has_gaps l && is_gap t) || is_printable (a_part_of w) t) (are_printable w (has_gaps l) (u ▸ us)) v in
      by (item_is (has_gaps l) w t a.0) a.1 (λ j e f. laid_items (u ▸ us) G.1 j g w S e f s r y)
    where
      by : ItemIs (has_gaps l) w t → are_printable w (has_gaps l) (u ▸ us) ≡ true → ((j : Least) → has_enough j (count (u ▸ us)) ≡ true → are_printable w (has_gaps j) (u ▸ us) ≡ true → Items g j (settled_parts false [] (u ▸ us)) (lay_items g (has_gaps j) (printers style (u ▸ us)) r) r) → Items g l (settled false t ▸ settled_parts false [] (u ▸ us)) (lay_items g (has_gaps l) (printer style t ∷ printers style (u ▸ us)) r) r
      by (inl e) f further =
          let a = gap_is_absent t e.1 in
          let m = lay_items g (has_gaps l) (printers style (u ▸ us)) r in
          subst (λ b. Items g l (settled false t ▸ settled_parts false [] (u ▸ us)) (if b then Punct Comma ∷ m else (printer style t).one (place g assignment_level) (Punct Comma ∷ m)) r) (sym (ap (λ c. has_gaps l && c) a.0 ∙ ap (λ c. c && true) e.0))
          (subst (λ k. Items g l (k ▸ settled_parts false [] (u ▸ us)) (Punct Comma ∷ m) r) (sym a.1) (gap g l _ m r e.0 (further l (gaps_enough l (count (u ▸ us)) e.0) f)))
      by (inr e) f further =
          let m = lay_items g (has_gaps l) (printers style (u ▸ us)) r in
          subst (λ b. Items g l (settled false t ▸ settled_parts false [] (u ▸ us)) (if b then Punct Comma ∷ m else (printer style t).one (place g assignment_level) (Punct Comma ∷ m)) r) (sym (no_gap (has_gaps l) _ (part_is_present t w e)))
          (next g l (settled false t) (settled_parts false [] (u ▸ us)) _ m r (at g w assignment_level mix.None t G.0 S e (rows_no_statements (sort g) s) (one_limit w) _ (ready_comma (sort g) s m))
          (subst (λ c. Items g (behind_comma l) (settled_parts false [] (u ▸ us)) (lay_items g c (printers style (u ▸ us)) r) r) (gaps_stay l)
          (further (behind_comma l) (behind_enough l (count us)) (subst (λ c. are_printable w c (u ▸ us) ≡ true) (sym (gaps_stay l)) f))))

  pub laid_block : (ts : Trees) → AllGood ts → (i : Goal) → are_printable i false ts ≡ true → InBlock i → (r : List Token) → (is_statements (sort i) ≡ true → opens Else r ≡ false) → Ready (sort i) r → StatementList i (settled_parts false [] ts) (lay_block i (printers style ts) r) r
  laid_block none G i v B r e y = no_more i r
  laid_block (t ▸ ts) G i v B r e y =
      let a = both (is_printable (a_part_of i) t) (are_printable i false ts) v in
      let rest = laid_block ts G.1 i a.1 B r e y in
      let m = lay_block i (printers style ts) r in
      more i (settled false t) (settled_parts false [] ts) _ m r
      (subst (λ y. Groups (place i 0) (settled y t) ((printer style t).one (place i 0) m) m) (unflagged i m (no_else_in i (settled_parts false [] ts) m r rest e)) (G.0.0 (place i 0) i (inl B.0) a.0 (let q = one_limit i in omega (arith, q)) m (list_ready i (settled_parts false [] ts) m r rest B y))) rest
