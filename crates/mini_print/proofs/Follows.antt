-- In what the grammar has each slash that divides stands right behind a token with which an operand
-- may end.
use Rattle.std.specs.Prelude.{◌≡◌, refl, Bool, true, false, not, ◌&&◌, ◌||◌, List, [], ◌∷◌, Option, Some, None}
use Rattle.std.proofs.Common.{◌∙◌, ap, sym, subst}
use Rattle.std.proofs.lemmas.Bool.{false≢true}
use Rattle.mini_model.specs.declared.kind.VariableDeclarationKind.TheVariants.{Var, Let, Const}
use Rattle.mini_model.specs.declared.operator.LogicalOperator.TheVariants.{Or, And, Coalesce}
use Rattle.mini_model.specs.declared.operator.UnaryOperator.TheVariants as unary
use Rattle.mini_model.specs.declared.operator.UpdateOperator.TheVariants.{Increment, Decrement}
use Rattle.mini_model.specs.Tree.{Tree, Trees}
use Rattle.mini_print.specs.Token.{Token, Punct, Comma, Semicolon}
use Rattle.mini_print.specs.Text.{is_slash, ends_operand, may_follow, slashes_follow}
use Rattle.mini_print.specs.Grammar.{Goal, Sort, Values, Names, Bodies, TemplateRests, TagTemplates, FirstLinks, Links, ClassBodies, sort, is_of, excluded, rule_sort, Place, Rule, Logical, Prefix, Postfix, Unary, Variables, HeadVariables, DeclaredVariables, Declared, HeadDeclared, Property, Element, Least, Zero, One, Two, Gaps, Opener, Equals, Else, Catch, Finally, Extends, As, opener, Part, token, left, part, commas, lookahead, perhaps, option, statements, unwritten, fork, form, semicolon}
use Rattle.mini_print.specs.Groups.{goal_of, list_goal_of, none_is_enough, behind_comma, Groups, by_rule, Row, end, a_token, a_left, a_part, a_list, a_lookahead, present, missing, with, without, a_block, a_silent, a_fork, Statements as StatementList, no_more, more, Items, nothing, last, next, gap, GroupsProgram, program, a_semicolon, inserted}
use Rattle.mini_print.proofs.Told.{both}
use Rattle.mini_print.proofs.Placed.{rule_sort_is}

-- ---- what an operand ends with

-- the kinds of what an operand may end with: each ends with a token of an operand's end
abbrev is_operand_sort : Sort → Bool
is_operand_sort Values = true
is_operand_sort Names = true
is_operand_sort Bodies = true
is_operand_sort TemplateRests = true
is_operand_sort TagTemplates = true
is_operand_sort FirstLinks = true
is_operand_sort Links = true
is_operand_sort ClassBodies = true
is_operand_sort _ = false

abbrev is_operand : Goal → Bool
is_operand g = is_operand_sort (sort g)

abbrev part_ends : Bool → Option Goal → Bool
part_ends c None = c
part_ends c (Some i) = is_operand i

-- behind a list, which may be empty
abbrev list_ends : Bool → Least → Bool
list_ends c One = c
list_ends c Two = c
list_ends c _ = false

-- whether slashes follow in a production, behind what an operand may have ended with or not, and
-- whether it ends so
abbrev leads : Bool → Bool → List Part → Bool
leads c d [] = not c || d
leads c d (token x ∷ ps) = may_follow d x && leads c (ends_operand x) ps
leads c d (left w n b ∷ ps) = leads c c ps
leads c d (part o n b ∷ ps) = leads c (part_ends c o) ps
leads c d (commas o l ∷ ps) = leads c (list_ends (part_ends c o) l) ps
leads c d (perhaps i ∷ ps) = leads c (d && is_operand i) ps
leads c d (option w o n ∷ ps) = leads c (d && part_ends c o) ps
leads c d (statements i ∷ ps) = leads c (d && is_operand i) ps
leads c d (lookahead k ∷ ps) = leads c d ps
leads c d (unwritten v ∷ ps) = leads c d ps
leads c d (fork ∷ ps) = leads c d ps
leads c d (semicolon ∷ ps) = leads c false ps

all_lead : (h : Rule) → leads (is_operand_sort (rule_sort h)) false (form h) ≡ true
all_lead (Logical Or) = refl
all_lead (Logical And) = refl
all_lead (Logical Coalesce) = refl
all_lead (Prefix Increment) = refl
all_lead (Prefix Decrement) = refl
all_lead (Postfix Increment) = refl
all_lead (Postfix Decrement) = refl
all_lead (Unary unary.UnaryPlus) = refl
all_lead (Unary unary.UnaryNegation) = refl
all_lead (Unary unary.LogicalNot) = refl
all_lead (Unary unary.BitwiseNot) = refl
all_lead (Unary unary.Typeof) = refl
all_lead (Unary unary.Void) = refl
all_lead (Unary unary.Delete) = refl
all_lead (Variables Var) = refl
all_lead (Variables Let) = refl
all_lead (Variables Const) = refl
all_lead (HeadVariables Var) = refl
all_lead (HeadVariables Let) = refl
all_lead (HeadVariables Const) = refl
all_lead (DeclaredVariables Var) = refl
all_lead (DeclaredVariables Let) = refl
all_lead (DeclaredVariables Const) = refl
all_lead _ = refl

-- ---- slashes follow all the more behind what an operand may end with

with_both : (b c : Bool) → b ≡ true → c ≡ true → (b && c) ≡ true
with_both b c e f = ap (λ y. y && c) e ∙ f

or_true : (b : Bool) → (b || true) ≡ true
or_true true = refl
or_true false = refl

eased : (b d : Bool) → (b ≡ true → d ≡ true) → (ts : List Token) → slashes_follow b ts ≡ true → slashes_follow d ts ≡ true
eased true true f ts e = e
eased true false f ts e = absurd (false≢true (f refl))
eased false false f ts e = e
eased false true f [] e = refl
eased false true f (x ∷ ts) e = (both (not (is_slash x)) (slashes_follow (ends_operand x) ts) e).1

heir_ends : (g : Goal) → is_operand g ≡ true → is_operand (goal_of g None) ≡ true
heir_ends Declared e = refl
heir_ends HeadDeclared e = refl
heir_ends Property e = refl
heir_ends Element e = refl
heir_ends g e = e

implied : (c d : Bool) → (not c || d) ≡ true → c ≡ true → d ≡ true
implied true d e f = e
implied false d e f = absurd (false≢true f)

part_ends_is : (g : Goal) (o : Option Goal) (c : Bool) → is_operand g ≡ c → part_ends c o ≡ true → is_operand (goal_of g o) ≡ true
part_ends_is g None c q e = heir_ends g (q ∙ e)
part_ends_is g (Some i) c q e = e

list_ends_is : (g : Goal) (o : Option Goal) (c : Bool) → is_operand g ≡ c → part_ends c o ≡ is_operand (list_goal_of g o)
list_ends_is g None c q = sym q
list_ends_is g (Some i) c q = refl

last_ends : (c : Bool) (l : Least) → list_ends c l ≡ true → c ≡ true
last_ends c Zero e = absurd (false≢true e)
last_ends c Gaps e = absurd (false≢true e)
last_ends c One e = e
last_ends c Two e = e

others_end : (c : Bool) (l : Least) → list_ends c l ≡ true → list_ends c (behind_comma l) ≡ true
others_end c Zero e = absurd (false≢true e)
others_end c Gaps e = e
others_end c One e = e
others_end c Two e = e

none_ends : (c d : Bool) (l : Least) (ts : List Token) → none_is_enough l ≡ true → slashes_follow (list_ends c l) ts ≡ true → slashes_follow d ts ≡ true
none_ends c d Zero ts u e = eased false d (λ f. absurd (false≢true f)) ts e
none_ends c d Gaps ts u e = eased false d (λ f. absurd (false≢true f)) ts e
none_ends c d One ts u e = absurd (false≢true u)
none_ends c d Two ts u e = absurd (false≢true u)

opener_divides_none : (w : Opener) → is_slash (opener w) ≡ false
opener_divides_none Equals = refl
opener_divides_none Else = refl
opener_divides_none Catch = refl
opener_divides_none Finally = refl
opener_divides_none Extends = refl
opener_divides_none As = refl

plain_follows : (d : Bool) (x : Token) → is_slash x ≡ false → may_follow d x ≡ true
plain_follows d x e = ap (λ b. d || not b) e ∙ or_true d

-- ---- and so they do in what is grouped

mutual
  pub group_follows : {p : Place} {t : Tree} {ts r : List Token} → Groups p t ts r → slashes_follow (is_operand p.goal) r ≡ true → (d : Bool) → slashes_follow d ts ≡ true
  group_follows (by_rule p h ks ts r f a) e d =
      let same : is_operand p.goal ≡ is_operand_sort (rule_sort h) = ap is_operand_sort (rule_sort_is (sort p.goal) h (both (is_of (sort p.goal) h) (not (excluded p.goal h)) f.0).0) in
      eased false d (λ i. absurd (false≢true i)) ts (row_follows a (is_operand_sort (rule_sort h)) same false (all_lead h) (subst (λ b. slashes_follow b r ≡ true) same e))

  pub row_follows : {g : Goal} {ps : List Part} {ks : Trees} {ts r : List Token} → Row g ps ks ts r → (c : Bool) → is_operand g ≡ c → (d : Bool) → leads c d ps ≡ true → slashes_follow c r ≡ true → slashes_follow d ts ≡ true
  row_follows (end g r) c q d e s = eased c d (implied c d e) r s
  row_follows (a_token g x ps ks ts r a) c q d e s =
      let y = both (may_follow d x) (leads c (ends_operand x) ps) e in
      with_both (may_follow d x) (slashes_follow (ends_operand x) ts) y.0 (row_follows a c q (ends_operand x) y.1 s)
  row_follows (a_left g w n b ps k ks ts m r t a) c q d e s = group_follows t (subst (λ y. slashes_follow y m ≡ true) (sym q) (row_follows a c q c e s)) d
  row_follows (a_part g o n b ps k ks ts m r t a) c q d e s = group_follows t (eased (part_ends c o) (is_operand (goal_of g o)) (part_ends_is g o c q) m (row_follows a c q (part_ends c o) e s)) d
  row_follows (a_list g o l ps is ks ts m r t a) c q d e s =
      items_follow t (subst (λ y. slashes_follow (list_ends y l) m ≡ true) (list_ends_is g o c q) (row_follows a c q (list_ends (part_ends c o) l) e s)) d
  row_follows (a_lookahead g k ps ks ts r p a) c q d e s = row_follows a c q d e s
  row_follows (present g i ps k ks ts m r t a) c q d e s = group_follows t (eased (d && is_operand i) (is_operand i) (λ f. (both d (is_operand i) f).1) m (row_follows a c q (d && is_operand i) e s)) d
  row_follows (missing g i ps ks ts r a) c q d e s = eased (d && is_operand i) d (λ f. (both d (is_operand i) f).0) ts (row_follows a c q (d && is_operand i) e s)
  row_follows (with g w o n ps k ks ts m r t a) c q d e s =
      with_both (may_follow d (opener w)) (slashes_follow (ends_operand (opener w)) ts) (plain_follows d (opener w) (opener_divides_none w))
      (group_follows t (eased (d && part_ends c o) (is_operand (goal_of g o)) (λ f. part_ends_is g o c q (both d (part_ends c o) f).1) m (row_follows a c q (d && part_ends c o) e s)) (ends_operand (opener w)))
  row_follows (without g w o n ps ks ts r f a) c q d e s = eased (d && part_ends c o) d (λ i. (both d (part_ends c o) i).0) ts (row_follows a c q (d && part_ends c o) e s)
  row_follows (a_block g i ps is ks ts m r t a) c q d e s = list_follows t d (row_follows a c q (d && is_operand i) e s)
  row_follows (a_fork g ps ks ts r a) c q d e s = row_follows a c q d e s
  row_follows (a_silent g v ps ks ts r a) c q d e s = row_follows a c q d e s
  row_follows (a_semicolon g ps ks ts r a) c q d e s = with_both (may_follow d (Punct Semicolon)) (slashes_follow false ts) (plain_follows d (Punct Semicolon) refl) (row_follows a c q false e s)
  row_follows (inserted g ps ks ts r f a) c q d e s = eased false d (λ i. absurd (false≢true i)) ts (row_follows a c q false e s)

  pub items_follow : {i : Goal} {l : Least} {is : Trees} {ts r : List Token} → Items i l is ts r → slashes_follow (list_ends (is_operand i) l) r ≡ true → (d : Bool) → slashes_follow d ts ≡ true
  items_follow (nothing i l r u) s d = none_ends (is_operand i) d l r u s
  items_follow (gap i l is m r u a) s d = with_both (may_follow d (Punct Comma)) (slashes_follow false m) (plain_follows d (Punct Comma) refl) (items_follow a s false)
  items_follow (last i l t ts r u a) s d = group_follows a (eased (list_ends (is_operand i) l) (is_operand i) (last_ends (is_operand i) l) r s) d
  items_follow (next i l t is ts m r a b) s d =
      group_follows a (with_both (may_follow (is_operand i) (Punct Comma)) (slashes_follow false m) (plain_follows (is_operand i) (Punct Comma) refl)
      (items_follow b (eased (list_ends (is_operand i) l) (list_ends (is_operand i) (behind_comma l)) (others_end (is_operand i) l) r s) false)) d

  pub list_follows : {i : Goal} {is : Trees} {ts r : List Token} → StatementList i is ts r → (d : Bool) → slashes_follow (d && is_operand i) r ≡ true → slashes_follow d ts ≡ true
  list_follows (no_more i r) d s = eased (d && is_operand i) d (λ f. (both d (is_operand i) f).0) r s
  list_follows (more i t is ts m r a b) d s =
      group_follows a (list_follows b (is_operand i) (eased (d && is_operand i) (is_operand i && is_operand i) (λ f. let y = (both d (is_operand i) f).1 in with_both (is_operand i) (is_operand i) y y) r s)) d

pub program_follows : (b : Bool) (t : Tree) (ts : List Token) → GroupsProgram b t ts → slashes_follow false ts ≡ true
program_follows b _ ts (program _ ds is _ m d p s) = list_follows d false (list_follows s false refl)
