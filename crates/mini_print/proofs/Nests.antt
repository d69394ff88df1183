-- Each token of a tree stands where it may: the braces of templates and others match.
use Rattle.std.specs.Prelude.{◌≡◌, refl, Bool, true, false, not, ◌&&◌, List, [], ◌∷◌, ◌++◌, Option, Some, None}
use Rattle.std.proofs.Common.{◌∙◌, ap, sym}
use Rattle.std.proofs.lemmas.Bool.{false≢true}
use Rattle.mini_model.specs.declared.kind.VariableDeclarationKind.TheVariants.{Var, Let, Const}
use Rattle.mini_model.specs.declared.operator.BinaryOperator.TheVariants as binary
use Rattle.mini_model.specs.declared.operator.BinaryOperator.{BinaryOperator}
use Rattle.mini_model.specs.declared.operator.LogicalOperator.TheVariants.{Or, And, Coalesce}
use Rattle.mini_model.specs.declared.operator.UnaryOperator.TheVariants as unary
use Rattle.mini_model.specs.declared.operator.UpdateOperator.TheVariants.{Increment, Decrement}
use Rattle.mini_model.specs.Tree.{Tree, Trees}
use Rattle.mini_print.specs.Token.{Token, Punct, Comma, LeftBrace, RightBrace, TemplateHead, TemplateMiddle, TemplateTail, binary_token, Semicolon}
use Rattle.mini_print.specs.Text.{Open, TemplateOpen, BraceOpen, open_behind, may_stand, all_stand, EachLexical, AllLexicalIn}
use Rattle.mini_print.specs.Grammar.{Goal, TemplateRest, Sort, TemplateRests, sort, has, is_of, excluded, rule_sort, Place, Rule, Binary, Logical, Prefix, Postfix, Unary, Variables, HeadVariables, DeclaredVariables, MiddlePiece, TailPiece, Least, Opener, Equals, Else, Catch, Finally, Extends, As, opener, Part, token, left, part, commas, lookahead, perhaps, option, statements, unwritten, fork, form, semicolon}
use Rattle.mini_print.specs.Groups.{goal_of, list_goal_of, Groups, by_rule, Row, end, a_token, a_left, a_part, a_list, a_lookahead, present, missing, with, without, a_block, a_silent, a_fork, Statements as StatementList, no_more, more, Items, nothing, last, next, gap, GroupsProgram, program, items_goal, a_semicolon, inserted}
use Rattle.mini_print.proofs.Told.{both}
use Rattle.mini_print.proofs.Placed.{rule_sort_is}

-- ---- what a token opens and closes

pub data Effect : Type 0 where
  Opens : Open → Effect
  ClosesBrace GoesOn EndsTemplate Keeps : Effect

abbrev effect : Token → Effect
effect (Punct LeftBrace) = Opens BraceOpen
effect (Punct RightBrace) = ClosesBrace
effect (TemplateHead s) = Opens TemplateOpen
effect (TemplateMiddle s) = GoesOn
effect (TemplateTail s) = EndsTemplate
effect _ = Keeps

abbrev changed : Effect → List Open → Option (List Open)
changed (Opens o) js = Some (o ∷ js)
changed ClosesBrace (BraceOpen ∷ js) = Some js
changed GoesOn (TemplateOpen ∷ js) = Some (TemplateOpen ∷ js)
changed EndsTemplate (TemplateOpen ∷ js) = Some js
changed Keeps js = Some js
changed _ js = None

is_keeping : Effect → Bool
is_keeping Keeps = true
is_keeping _ = false

keeps : (x : Token) → is_keeping (effect x) ≡ true → (os : List Open) → (may_stand os x ≡ true) × (open_behind x os ≡ os)
unfolding is_keeping
keeps (Punct LeftBrace) e os = absurd (false≢true e)
keeps (Punct RightBrace) e os = absurd (false≢true e)
keeps (TemplateHead s) e os = absurd (false≢true e)
keeps (TemplateMiddle s) e os = absurd (false≢true e)
keeps (TemplateTail s) e os = absurd (false≢true e)
keeps _ e [] = (refl, refl)
keeps _ e (BraceOpen ∷ os) = (refl, refl)
keeps _ e (TemplateOpen ∷ os) = (refl, refl)

keeps_all : (x : Token) → is_keeping (effect x) ≡ true → (os : List Open) (ts : List Token) → all_stand os (x ∷ ts) ≡ all_stand os ts
keeps_all x e os ts = let k = keeps x e os in ap (λ b. b && all_stand (open_behind x os) ts) k.0 ∙ ap (λ o. all_stand o ts) k.1

brace_stands : (os : List Open) → may_stand os (Punct LeftBrace) ≡ true
brace_stands [] = refl
brace_stands (BraceOpen ∷ os) = refl
brace_stands (TemplateOpen ∷ os) = refl

some_or : Option (List Open) → List Open
some_or None = []
some_or (Some js) = js

is_some : Option (List Open) → Bool
is_some None = false
is_some (Some js) = true

is_now : (js ks : List Open) → Some js ≡ Some ks → js ≡ ks
unfolding some_or
is_now js ks e = ap some_or e

none_is : (ks : List Open) → None ≡ Some ks → ⊥
unfolding is_some
none_is ks e = false≢true (ap is_some e)

-- a token, with the braces that are open behind it
token_stands : (x : Token) (js ks os : List Open) (ts : List Token) → changed (effect x) js ≡ Some ks → all_stand (js ++ os) (x ∷ ts) ≡ all_stand (ks ++ os) ts
unfolding is_keeping
token_stands (Punct LeftBrace) js ks os ts e = ap (λ b. b && all_stand (BraceOpen ∷ (js ++ os)) ts) (brace_stands (js ++ os)) ∙ ap (λ k. all_stand (k ++ os) ts) (is_now (BraceOpen ∷ js) ks e)
token_stands (TemplateHead s) js ks os ts e = ap (λ b. b && all_stand (TemplateOpen ∷ (js ++ os)) ts) (first_stands (js ++ os)) ∙ ap (λ k. all_stand (k ++ os) ts) (is_now (TemplateOpen ∷ js) ks e)
  where
    first_stands : (o : List Open) → may_stand o (TemplateHead s) ≡ true
    first_stands [] = refl
    first_stands (BraceOpen ∷ o) = refl
    first_stands (TemplateOpen ∷ o) = refl
token_stands (Punct RightBrace) [] ks os ts e = absurd (none_is ks e)
token_stands (Punct RightBrace) (TemplateOpen ∷ js) ks os ts e = absurd (none_is ks e)
token_stands (Punct RightBrace) (BraceOpen ∷ js) ks os ts e = ap (λ k. all_stand (k ++ os) ts) (is_now js ks e)
token_stands (TemplateMiddle s) [] ks os ts e = absurd (none_is ks e)
token_stands (TemplateMiddle s) (BraceOpen ∷ js) ks os ts e = absurd (none_is ks e)
token_stands (TemplateMiddle s) (TemplateOpen ∷ js) ks os ts e = ap (λ k. all_stand (k ++ os) ts) (is_now (TemplateOpen ∷ js) ks e)
token_stands (TemplateTail s) [] ks os ts e = absurd (none_is ks e)
token_stands (TemplateTail s) (BraceOpen ∷ js) ks os ts e = absurd (none_is ks e)
token_stands (TemplateTail s) (TemplateOpen ∷ js) ks os ts e = ap (λ k. all_stand (k ++ os) ts) (is_now js ks e)
token_stands x js ks os ts e = keeps_all x refl (js ++ os) ts ∙ ap (λ k. all_stand (k ++ os) ts) (is_now js ks e)

semicolon_keeps : is_keeping (effect (Punct Semicolon)) ≡ true
unfolding is_keeping
semicolon_keeps = refl

opener_keeps : (w : Opener) → is_keeping (effect (opener w)) ≡ true
unfolding is_keeping
opener_keeps Equals = refl
opener_keeps Else = refl
opener_keeps Catch = refl
opener_keeps Finally = refl
opener_keeps Extends = refl
opener_keeps As = refl

-- ---- the braces of a production match

abbrev is_rest_sort : Sort → Bool
is_rest_sort TemplateRests = true
is_rest_sort _ = false

abbrev is_rest : Goal → Bool
is_rest g = is_rest_sort (sort g)

-- behind what goes on with a template that template is closed
abbrev opened : Bool → List Open → List Open
opened true os = TemplateOpen ∷ os
opened false os = os

abbrev behind_rest : List Open → Option (List Open)
behind_rest (TemplateOpen ∷ js) = Some js
behind_rest js = None

abbrev behind_part : Bool → List Open → Option (List Open)
behind_part true js = behind_rest js
behind_part false js = Some js

-- whether a part in the goal of the whole is what goes on with a template
abbrev rests : Bool → Option Goal → Bool
rests c None = c
rests c (Some i) = is_rest i

abbrev is_closed : List Open → Bool
is_closed [] = true
is_closed (o ∷ js) = false

abbrev matches : Bool → Option (List Open) → List Part → Bool
matches c None ps = false
matches c (Some js) [] = is_closed js
matches c (Some js) (token x ∷ ps) = matches c (changed (effect x) js) ps
matches c (Some js) (part None n b ∷ ps) = not c && matches c (Some js) ps
matches c (Some js) (part (Some i) n b ∷ ps) = matches c (behind_part (is_rest i) js) ps
matches c (Some js) (left w n b ∷ ps) = not c && matches c (Some js) ps
matches c (Some js) (commas o l ∷ ps) = not (rests c o) && matches c (Some js) ps
matches c (Some js) (perhaps i ∷ ps) = not (is_rest i) && matches c (Some js) ps
matches c (Some js) (option w o n ∷ ps) = not (rests c o) && matches c (Some js) ps
matches c (Some js) (statements i ∷ ps) = not (is_rest i) && matches c (Some js) ps
matches c (Some js) (lookahead k ∷ ps) = matches c (Some js) ps
matches c (Some js) (unwritten v ∷ ps) = matches c (Some js) ps
matches c (Some js) (fork ∷ ps) = matches c (Some js) ps
matches c (Some js) (semicolon ∷ ps) = matches c (Some js) ps

binary_keeps : (o : BinaryOperator) → effect (binary_token o) ≡ Keeps
binary_keeps binary.In = refl
binary_keeps _ = refl

all_match : (h : Rule) → is_rest_sort (rule_sort h) ≡ false → matches false (Some []) (form h) ≡ true
all_match (MiddlePiece s) e = absurd (false≢true (sym e))
all_match (TailPiece s) e = absurd (false≢true (sym e))
all_match (Binary o) e = ap (λ y. matches false (changed y []) []) (binary_keeps o)
all_match (Logical Or) e = refl
all_match (Logical And) e = refl
all_match (Logical Coalesce) e = refl
all_match (Prefix Increment) e = refl
all_match (Prefix Decrement) e = refl
all_match (Postfix Increment) e = refl
all_match (Postfix Decrement) e = refl
all_match (Unary unary.UnaryPlus) e = refl
all_match (Unary unary.UnaryNegation) e = refl
all_match (Unary unary.LogicalNot) e = refl
all_match (Unary unary.BitwiseNot) e = refl
all_match (Unary unary.Typeof) e = refl
all_match (Unary unary.Void) e = refl
all_match (Unary unary.Delete) e = refl
all_match (Variables Var) e = refl
all_match (Variables Let) e = refl
all_match (Variables Const) e = refl
all_match (HeadVariables Var) e = refl
all_match (HeadVariables Let) e = refl
all_match (HeadVariables Const) e = refl
all_match (DeclaredVariables Var) e = refl
all_match (DeclaredVariables Let) e = refl
all_match (DeclaredVariables Const) e = refl
all_match _ e = refl

rest_match : (h : Rule) → is_rest_sort (rule_sort h) ≡ true → matches true (Some (TemplateOpen ∷ [])) (form h) ≡ true
rest_match (MiddlePiece s) e = refl
rest_match (TailPiece s) e = refl
rest_match _ e = absurd (false≢true e)

-- ---- and so do those of what is grouped

not_both : (b c : Bool) → (not b && c) ≡ true → (b ≡ false) × (c ≡ true)
not_both false c e = (refl, e)
not_both true c e = absurd (false≢true e)

none_matches : (c : Bool) (ps : List Part) → matches c None ps ≡ true → ⊥
none_matches c ps e = false≢true e

-- the tokens of a part, which is what goes on with a template or not
part_state : (b : Bool) (js : List Open) (ps : List Part) (c : Bool) → matches c (behind_part b js) ps ≡ true → (ks : List Open) × (js ≡ opened b ks) × (matches c (Some ks) ps ≡ true)
part_state false js ps c e = (js, refl, e)
part_state true [] ps c e = absurd (none_matches c ps e)
part_state true (BraceOpen ∷ js) ps c e = absurd (none_matches c ps e)
part_state true (TemplateOpen ∷ js) ps c e = (js, refl, e)

token_state : (c : Bool) (o : Option (List Open)) (ps : List Part) → matches c o ps ≡ true → (ks : List Open) × (o ≡ Some ks) × (matches c (Some ks) ps ≡ true)
token_state c None ps e = absurd (none_matches c ps e)
token_state c (Some ks) ps e = (ks, refl, e)

opened_behind : (b : Bool) (ks os : List Open) → opened b ks ++ os ≡ opened b (ks ++ os)
opened_behind true ks os = refl
opened_behind false ks os = refl

heir_rest : (g : Goal) → is_rest (goal_of g None) ≡ is_rest g
heir_rest TemplateRest = refl
heir_rest _ = refl

part_rests : (g : Goal) (o : Option Goal) (c : Bool) → is_rest g ≡ c → rests c o ≡ is_rest (goal_of g o)
part_rests g None c q = sym q ∙ sym (heir_rest g)
part_rests g (Some i) c q = refl

list_rests : (g : Goal) (o : Option Goal) (c : Bool) → is_rest g ≡ c → rests c o ≡ is_rest (list_goal_of g o)
list_rests g None c q = sym q
list_rests g (Some i) c q = refl

state_end : (js os : List Open) (r : List Token) → is_closed js ≡ true → all_stand (js ++ os) r ≡ all_stand os r
state_end [] os r e = refl
state_end (o ∷ js) os r e = absurd (false≢true e)

comma_stands : (os : List Open) (ts : List Token) → all_stand os (Punct Comma ∷ ts) ≡ all_stand os ts
comma_stands [] ts = refl
comma_stands (BraceOpen ∷ os) ts = refl
comma_stands (TemplateOpen ∷ os) ts = refl

same_rest : (g : Goal) (h : Rule) → has g h ≡ true → is_rest g ≡ is_rest_sort (rule_sort h)
same_rest g h e = ap is_rest_sort (rule_sort_is (sort g) h (both (is_of (sort g) h) (not (excluded g h)) e).0)

rest_or : (c : Bool) (os : List Open) (ts r : List Token) → (c ≡ true → all_stand (TemplateOpen ∷ os) ts ≡ all_stand os r) → (c ≡ false → all_stand os ts ≡ all_stand os r) → all_stand (opened c os) ts ≡ all_stand os r
rest_or true os ts r f g = f refl
rest_or false os ts r f g = g refl

mutual
  pub group_stands : {p : Place} {t : Tree} {ts r : List Token} → Groups p t ts r → (os : List Open) → all_stand (opened (is_rest p.goal) os) ts ≡ all_stand os r
  group_stands (by_rule p h ks ts r f d) os =
      rest_or (is_rest p.goal) os ts r (λ q. row_stands d true q (TemplateOpen ∷ []) (rest_match h (sym (same_rest p.goal h f.0) ∙ q)) os) (λ q. row_stands d false q [] (all_match h (sym (same_rest p.goal h f.0) ∙ q)) os)

  pub row_stands : {g : Goal} {ps : List Part} {ks : Trees} {ts r : List Token} → Row g ps ks ts r → (c : Bool) → is_rest g ≡ c → (js : List Open) → matches c (Some js) ps ≡ true → (os : List Open) → all_stand (js ++ os) ts ≡ all_stand os r
  row_stands (end g r) c q js e os = state_end js os r e
  row_stands (a_token g x ps ks ts r d) c q js e os =
      let w = token_state c (changed (effect x) js) ps e in
      token_stands x js w.0 os ts w.1 ∙ row_stands d c q w.0 w.2 os
  row_stands (a_left g w n b ps k ks ts m r a d) c q js e os =
      let y = not_both c (matches c (Some js) ps) e in
      ap (λ z. all_stand (opened z (js ++ os)) ts) (sym (q ∙ y.0)) ∙ group_stands a (js ++ os) ∙ row_stands d c q js y.1 os
  row_stands (a_part g None n b ps k ks ts m r a d) c q js e os =
      let y = not_both c (matches c (Some js) ps) e in
      ap (λ z. all_stand (opened z (js ++ os)) ts) (sym (heir_rest g ∙ q ∙ y.0)) ∙ group_stands a (js ++ os) ∙ row_stands d c q js y.1 os
  row_stands (a_part g (Some i) n b ps k ks ts m r a d) c q js e os =
      let w = part_state (is_rest i) js ps c e in
      ap (λ z. all_stand (z ++ os) ts) w.1 ∙ ap (λ z. all_stand z ts) (opened_behind (is_rest i) w.0 os) ∙ group_stands a (w.0 ++ os) ∙ row_stands d c q w.0 w.2 os
  row_stands (a_list g o l ps is ks ts m r a d) c q js e os =
      let y = not_both (rests c o) (matches c (Some js) ps) e in
      items_stand a (sym (list_rests g o c q) ∙ y.0) (js ++ os) ∙ row_stands d c q js y.1 os
  row_stands (a_lookahead g k ps ks ts r p d) c q js e os = row_stands d c q js e os
  row_stands (present g i ps k ks ts m r a d) c q js e os =
      let y = not_both (is_rest i) (matches c (Some js) ps) e in
      ap (λ z. all_stand (opened z (js ++ os)) ts) (sym y.0) ∙ group_stands a (js ++ os) ∙ row_stands d c q js y.1 os
  row_stands (missing g i ps ks ts r d) c q js e os = row_stands d c q js (not_both (is_rest i) (matches c (Some js) ps) e).1 os
  row_stands (with g w o n ps k ks ts m r a d) c q js e os =
      let y = not_both (rests c o) (matches c (Some js) ps) e in
      keeps_all (opener w) (opener_keeps w) (js ++ os) ts ∙ ap (λ z. all_stand (opened z (js ++ os)) ts) (sym (sym (part_rests g o c q) ∙ y.0)) ∙ group_stands a (js ++ os) ∙ row_stands d c q js y.1 os
  row_stands (without g w o n ps ks ts r f d) c q js e os = row_stands d c q js (not_both (rests c o) (matches c (Some js) ps) e).1 os
  row_stands (a_block g i ps is ks ts m r a d) c q js e os =
      let y = not_both (is_rest i) (matches c (Some js) ps) e in
      list_stands a y.0 (js ++ os) ∙ row_stands d c q js y.1 os
  row_stands (a_fork g ps ks ts r d) c q js e os = row_stands d c q js e os
  row_stands (a_silent g v ps ks ts r d) c q js e os = row_stands d c q js e os
  row_stands (a_semicolon g ps ks ts r d) c q js e os = keeps_all (Punct Semicolon) semicolon_keeps (js ++ os) ts ∙ row_stands d c q js e os
  row_stands (inserted g ps ks ts r f d) c q js e os = row_stands d c q js e os

  pub items_stand : {i : Goal} {l : Least} {is : Trees} {ts r : List Token} → Items i l is ts r → is_rest i ≡ false → (os : List Open) → all_stand os ts ≡ all_stand os r
  items_stand (nothing i l r u) q os = refl
  items_stand (gap i l is m r u d) q os = comma_stands os m ∙ items_stand d q os
  items_stand (last i l t ts r u a) q os = ap (λ z. all_stand (opened z os) ts) (sym q) ∙ group_stands a os
  items_stand (next i l t is ts m r a d) q os = ap (λ z. all_stand (opened z os) ts) (sym q) ∙ group_stands a os ∙ comma_stands os m ∙ items_stand d q os

  pub list_stands : {i : Goal} {is : Trees} {ts r : List Token} → StatementList i is ts r → is_rest i ≡ false → (os : List Open) → all_stand os ts ≡ all_stand os r
  list_stands (no_more i r) q os = refl
  list_stands (more i t is ts m r a d) q os = ap (λ z. all_stand (opened z os) ts) (sym q) ∙ group_stands a os ∙ list_stands d q os

pub program_stands : (b : Bool) (t : Tree) (ts : List Token) → GroupsProgram b t ts → all_stand [] ts ≡ true
program_stands b _ ts (program _ ds is _ m d p s) = list_stands d refl [] ∙ list_stands s (items_rest b) []
  where
    items_rest : (b : Bool) → is_rest (items_goal b) ≡ false
    items_rest true = refl
    items_rest false = refl

pub lexical_within : (os : List Open) (ts : List Token) → EachLexical ts → all_stand os ts ≡ true → AllLexicalIn os ts
lexical_within os [] l e = tt
lexical_within os (x ∷ ts) l e = let a = both (may_stand os x) (all_stand (open_behind x os) ts) e in (l.0, a.0, lexical_within (open_behind x os) ts l.1 a.1)
