-- Tokens that are printed are ones that a text has, where each production's own are.
use Rattle.std.proofs.Common.{◌≡◌, ℕ, suc, ◌^◌, Bool, true, false, ◌&&◌, ◌||◌, not, List, [], ◌∷◌, refl, sym, ap, subst}
use Rattle.std.specs.Prelude.{Option, Some, None, codes, nat_lt, negsuc, if◌then◌else◌}
use Rattle.std.proofs.lemmas.Bool.{false≢true, ltb-true}
use Rattle.mini_model.specs.declared.name.Name.{Name}
use Rattle.mini_model.specs.declared.shape.Shape.{Shape}
use Rattle.mini_model.specs.declared.shape.Shape.TheVariants as shape
use Rattle.mini_model.specs.Tree.{Tree, Trees, node, none, ◌▸◌}
use Rattle.mini_model.specs.Position.{assignment_level}
use Rattle.mini_print.specs.Token.{Token, Word, Punct, Number, BigInt, Quoted, Pattern, Private, TemplateWhole, TemplateHead, TemplateMiddle, TemplateTail, LeftParen, RightParen, RightBrace, Comma, Semicolon}
use Rattle.mini_print.specs.Text.{IsLexical, EachLexical, is_word, is_quotable, is_pattern, are_letters, is_raw}
use Rattle.mini_print.specs.Grammar.{Goal, Leading, Anything, Statement, Place, place, Rule, If, YieldBare, NumberLiteral, FunctionBody, New, Arrow, ArrowBlock, Element, Values, Opener, Equals, Else, Catch, Finally, Extends, As, opener, Part, token, left, part, commas, fork, lookahead, perhaps, option, statements, unwritten, semicolon, NoDirective, permits, form, heir, inserts, ends_statement, is_of, ends_yield, sort, opens}
use Rattle.mini_print.specs.Groups.{goal_of, list_goal_of, has_gaps}
use Rattle.mini_print.specs.Printed.{Style, Full, Short, Printer, plain, core, seat, value_seat, seated, has_core, takes_values, enclosed, undirected, terminated, lay, lay_block, lay_items, is_fit, parenthesized, third_is_absent, braced, by_production, number_printer, parts_of, printer, printers, rule_in, turned, styled, styled_of, only_name, arrow_over, arrow_block_over, has_no_items, new_over}
use Rattle.mini_printable.proofs.Clean.{and_l, and_r, both}
use Rattle.mini_printable.proofs.Pairs.{has_whole_text, have_whole_texts, is_spelling}

-- ---- tests

abbrev pub is_lexical : Token → Bool
is_lexical (Word s) = is_word s
is_lexical (Punct p) = true
is_lexical (Number n) = nat_lt n (2 ^ 64)
is_lexical (BigInt n) = nat_lt n (2 ^ 128)
is_lexical (Quoted s) = is_quotable s
is_lexical (Pattern p f) = is_pattern p && are_letters f
is_lexical (Private s) = is_word s
is_lexical (TemplateWhole s) = is_raw false s
is_lexical (TemplateHead s) = is_raw false s
is_lexical (TemplateMiddle s) = is_raw false s
is_lexical (TemplateTail s) = is_raw false s

-- and has each half of a surrogate pair with the other
abbrev pub is_sayable : Token → Bool
is_sayable x = is_lexical x && has_whole_text x

abbrev pub are_sayable : List Token → Bool
are_sayable [] = true
are_sayable (x ∷ ts) = is_sayable x && are_sayable ts

token_lexical : (x : Token) → is_lexical x ≡ true → IsLexical x
token_lexical (Word s) e = e
token_lexical (Punct p) e = tt
token_lexical (Number n) e = ltb-true n (2 ^ 64) e
token_lexical (BigInt n) e = ltb-true n (2 ^ 128) e
token_lexical (Quoted s) e = e
token_lexical (Pattern p f) e = e
token_lexical (Private s) e = e
token_lexical (TemplateWhole s) e = e
token_lexical (TemplateHead s) e = e
token_lexical (TemplateMiddle s) e = e
token_lexical (TemplateTail s) e = e

pub each_lexical : (ts : List Token) → are_sayable ts ≡ true → EachLexical ts
each_lexical [] e = tt
each_lexical (x ∷ ts) e = (token_lexical x (and_l (is_lexical x) (has_whole_text x) (and_l (is_sayable x) (are_sayable ts) e)), each_lexical ts (and_r (is_sayable x) (are_sayable ts) e))

pub each_whole : (ts : List Token) → are_sayable ts ≡ true → have_whole_texts ts ≡ true
each_whole [] e = refl
each_whole (x ∷ ts) e = both (has_whole_text x) (have_whole_texts ts) (and_r (is_lexical x) (has_whole_text x) (and_l (is_sayable x) (are_sayable ts) e)) (each_whole ts (and_r (is_sayable x) (are_sayable ts) e))

-- ---- goals: all but that of directives, whose texts stand as they are

abbrev pub leads : Goal → Bool
leads Leading = true
leads _ = false

heir_leads : (g : Goal) → leads g ≡ false → leads (heir g) ≡ false
heir_leads Leading e = absurd (false≢true (sym e))
heir_leads g e = refl

pub plain_leads : (g : Goal) → leads g ≡ false → leads (plain g) ≡ false
plain_leads Leading e = absurd (false≢true (sym e))
plain_leads g e = refl

core_leads : (g : Goal) → leads g ≡ false → leads (core g) ≡ false
core_leads Leading e = absurd (false≢true (sym e))
core_leads g e = refl

seat_leads : (b : Bool) (p : Place) → leads p.goal ≡ false → leads (seat b p).goal ≡ false
seat_leads true p e = core_leads p.goal e
seat_leads false p e = e

value_seat_leads : (b : Bool) (p : Place) → leads p.goal ≡ false → leads (value_seat b p).goal ≡ false
value_seat_leads true p e = refl
value_seat_leads false p e = e

seated_leads : (o : Option Rule) (p : Place) → leads p.goal ≡ false → leads (seated o p).goal ≡ false
seated_leads None p e = e
seated_leads (Some h) p e = value_seat_leads (takes_values p.goal && is_of Values h) (seat (has_core p.goal && is_of (sort (core p.goal)) h) p) (seat_leads (has_core p.goal && is_of (sort (core p.goal)) h) p e)

abbrev or_heir : Option Goal → Bool
or_heir None = true
or_heir (Some g) = not (leads g)

not_leads : (g : Goal) → not (leads g) ≡ true → leads g ≡ false
not_leads Leading e = absurd (false≢true e)
not_leads g e = refl

goal_leads : (g : Goal) (o : Option Goal) → leads g ≡ false → or_heir o ≡ true → leads (goal_of g o) ≡ false
goal_leads g None e f = heir_leads g e
goal_leads g (Some i) e f = not_leads i f

list_leads : (g : Goal) (o : Option Goal) → leads g ≡ false → or_heir o ≡ true → leads (list_goal_of g o) ≡ false
list_leads g None e f = e
list_leads g (Some i) e f = not_leads i f

-- ---- printers

pub record Says (k : Printer) : Type 0 where
  pub one : (p : Place) → leads p.goal ≡ false → (r : List Token) → are_sayable r ≡ true → are_sayable (k.one p r) ≡ true
  pub items : (g : Goal) (b : Bool) → leads g ≡ false → (r : List Token) → are_sayable r ≡ true → are_sayable (k.items g b r) ≡ true
  pub block : (g : Goal) → leads g ≡ false → (r : List Token) → are_sayable r ≡ true → are_sayable (k.block g r) ≡ true

abbrev pub AllSay : List Printer → Type 0
AllSay [] = Unit {0}
AllSay (k ∷ ks) = Says k × AllSay ks

-- a production's own tokens, and the goals of its parts
abbrev pub part_says : Part → Bool
part_says (token x) = is_sayable x
part_says (left w n b) = true
part_says (part o n b) = or_heir o
part_says (commas o l) = or_heir o
part_says (perhaps i) = not (leads i)
part_says (option w o n) = or_heir o
part_says (statements i) = not (leads i)
part_says _ = true

abbrev pub form_says : List Part → Bool
form_says [] = true
form_says (p ∷ ps) = part_says p && form_says ps

abbrev pub rule_says : Option Rule → Bool
rule_says None = true
rule_says (Some h) = form_says (form h)

-- ---- what is laid

enclosed_says : (b : Bool) (k : Printer) (p : Place) (r : List Token) → Says k → leads p.goal ≡ false → are_sayable r ≡ true → are_sayable (enclosed b k p r) ≡ true
enclosed_says false k p r s e d = s.one p e r d
enclosed_says true k p r s e d = s.one (place Anything 0) refl (Punct RightParen ∷ r) d

pub undirected_says : (ts : List Token) → are_sayable ts ≡ true → are_sayable (undirected ts) ≡ true
undirected_says [] d = refl
undirected_says (Quoted s ∷ ts) d = by (ends_statement ts)
  where
    by : (b : Bool) → are_sayable (if b then Punct LeftParen ∷ Quoted s ∷ Punct RightParen ∷ ts else Quoted s ∷ ts) ≡ true
    by true = d
    by false = d
undirected_says (x ∷ ts) d = d

pub terminated_says : (style : Style) (r : List Token) → are_sayable r ≡ true → are_sayable (terminated style r) ≡ true
terminated_says Full r d = d
terminated_says Short r d = by (inserts r)
  where
    by : (b : Bool) → are_sayable (if b then r else Punct Semicolon ∷ r) ≡ true
    by true = d
    by false = d

opener_says : (w : Opener) → is_sayable (opener w) ≡ true
opener_says Equals = refl
opener_says Else = refl
opener_says Catch = refl
opener_says Finally = refl
opener_says Extends = refl
opener_says As = refl

-- what stands there, or nothing
where_present : (b : Bool) (xs ts : List Token) → are_sayable ts ≡ true → are_sayable xs ≡ true → are_sayable (if b then ts else xs) ≡ true
where_present true xs ts d e = d
where_present false xs ts d e = e

pub lay_says : (style : Style) (g : Goal) (ps : List Part) (ks : List Printer) (r : List Token) → leads g ≡ false → form_says ps ≡ true → AllSay ks → are_sayable r ≡ true → are_sayable (lay style g ps ks r) ≡ true
lay_says style g [] ks r z f s d = d
lay_says style g (token x ∷ ps) ks r z f s d = both (is_sayable x) (are_sayable (lay style g ps ks r)) (and_l (is_sayable x) (form_says ps) f) (lay_says style g ps ks r z (and_r (is_sayable x) (form_says ps) f) s d)
lay_says style g (lookahead c ∷ part o n b ∷ ps) (k ∷ ks) r z f s d =
    let p : Place = record { goal = goal_of g o; level = n; around = b } in
    let rest = lay_says style g ps ks r z (and_r (or_heir o) (form_says ps) f) s.1 d in
    enclosed_says (not (permits c (k.one p (lay style g ps ks r)))) k p (lay style g ps ks r) s.0 (goal_leads g o z (and_l (or_heir o) (form_says ps) f)) rest
lay_says style g (lookahead NoDirective ∷ statements i ∷ ps) (k ∷ ks) r z f s d = undirected_says (k.block i (lay style g ps ks r)) (s.0.block i (not_leads i (and_l (not (leads i)) (form_says ps) f)) (lay style g ps ks r) (lay_says style g ps ks r z (and_r (not (leads i)) (form_says ps) f) s.1 d))
lay_says style g (lookahead c ∷ ps) ks r z f s d = d
lay_says style g (left w n b ∷ ps) (k ∷ ks) r z f s d = s.0.one (record { goal = g; level = n; around = b }) z (lay style g ps ks r) (lay_says style g ps ks r z f s.1 d)
lay_says style g (part o n b ∷ ps) (k ∷ ks) r z f s d = s.0.one (record { goal = goal_of g o; level = n; around = b }) (goal_leads g o z (and_l (or_heir o) (form_says ps) f)) (lay style g ps ks r) (lay_says style g ps ks r z (and_r (or_heir o) (form_says ps) f) s.1 d)
lay_says style g (commas o l ∷ ps) (k ∷ ks) r z f s d = s.0.items (list_goal_of g o) (has_gaps l) (list_leads g o z (and_l (or_heir o) (form_says ps) f)) (lay style g ps ks r) (lay_says style g ps ks r z (and_r (or_heir o) (form_says ps) f) s.1 d)
lay_says style g (perhaps i ∷ ps) (k ∷ ks) r z f s d =
    let rest = lay_says style g ps ks r z (and_r (not (leads i)) (form_says ps) f) s.1 d in
    where_present k.absent (k.one (place i 0) (lay style g ps ks r)) (lay style g ps ks r) rest (s.0.one (place i 0) (not_leads i (and_l (not (leads i)) (form_says ps) f)) (lay style g ps ks r) rest)
lay_says style g (option w o n ∷ ps) (k ∷ ks) r z f s d =
    let rest = lay_says style g ps ks r z (and_r (or_heir o) (form_says ps) f) s.1 d in
    where_present k.absent (opener w ∷ k.one (place (goal_of g o) n) (lay style g ps ks r)) (lay style g ps ks r) rest (both (is_sayable (opener w)) (are_sayable (k.one (place (goal_of g o) n) (lay style g ps ks r))) (opener_says w) (s.0.one (place (goal_of g o) n) (goal_leads g o z (and_l (or_heir o) (form_says ps) f)) (lay style g ps ks r) rest))
lay_says style g (statements i ∷ ps) (k ∷ ks) r z f s d = s.0.block i (not_leads i (and_l (not (leads i)) (form_says ps) f)) (lay style g ps ks r) (lay_says style g ps ks r z (and_r (not (leads i)) (form_says ps) f) s.1 d)
lay_says style g (unwritten v ∷ ps) (k ∷ ks) r z f s d = lay_says style g ps ks r z f s.1 d
lay_says style g (fork ∷ ps) ks r z f s d = lay_says style g ps ks r z f s d
lay_says style g (semicolon ∷ ps) ks r z f s d = terminated_says style (lay style g ps ks r) (lay_says style g ps ks r z f s d)
lay_says style g (p ∷ ps) ks r z f s d = d

pub block_says : (i : Goal) (ks : List Printer) (r : List Token) → leads i ≡ false → AllSay ks → are_sayable r ≡ true → are_sayable (lay_block i ks r) ≡ true
block_says i [] r z s d = d
block_says i (k ∷ ks) r z s d = s.0.one (place i 0) z (lay_block i ks r) (block_says i ks r z s.1 d)

items_says : (g : Goal) (b : Bool) (ks : List Printer) (r : List Token) → leads g ≡ false → AllSay ks → are_sayable r ≡ true → are_sayable (lay_items g b ks r) ≡ true
items_says g b [] r z s d = d
items_says g b (k ∷ []) r z s d = where_present (b && k.absent) (k.one (place g assignment_level) r) (Punct Comma ∷ r) d (s.0.one (place g assignment_level) z r d)
items_says g b (k ∷ l ∷ ks) r z s d =
    let rest = items_says g b (l ∷ ks) r z s.1 d in
    where_present (b && k.absent) (k.one (place g assignment_level) (Punct Comma ∷ lay_items g b (l ∷ ks) r)) (Punct Comma ∷ lay_items g b (l ∷ ks) r) rest (s.0.one (place g assignment_level) z (Punct Comma ∷ lay_items g b (l ∷ ks) r) rest)

parenthesized_says : (b : Bool) (g : Goal) (body : Goal → List Token → List Token) (r : List Token) → leads g ≡ false → ((i : Goal) (m : List Token) → leads i ≡ false → are_sayable m ≡ true → are_sayable (body i m) ≡ true) → are_sayable r ≡ true → are_sayable (parenthesized b g body r) ≡ true
parenthesized_says true g body r z f d = f g r z d
parenthesized_says false g body r z f d = f Anything (Punct RightParen ∷ r) refl d

braced_says : (style : Style) (b : Bool) (ks : List Printer) (r : List Token) → AllSay ks → are_sayable r ≡ true → are_sayable (braced style b ks r) ≡ true
braced_says style true ks r s d = lay_says style Statement (form If) ks (Punct RightBrace ∷ r) refl refl s d
braced_says style false ks r s d = lay_says style Statement (form If) ks r refl refl s d

pub production_says : (style : Style) (o : Option Rule) (ks : List Printer) (p : Place) (r : List Token) → leads p.goal ≡ false → rule_says o ≡ true → AllSay ks → are_sayable r ≡ true → are_sayable (by_production style o ks p r) ≡ true
production_says style None ks p r z f s d = d
production_says style (Some If) ks p r z f s d = braced_says style (third_is_absent ks && opens Else r) ks r s d
production_says style (Some YieldBare) ks p r z f s d = parenthesized_says (is_fit p YieldBare && ends_yield r) p.goal (λ g m. Word (codes "yield") ∷ m) r z (λ i m y e. e) d
production_says style (Some h) ks p r z f s d = parenthesized_says (not (is_of Values h) || is_fit p h) p.goal (λ g m. lay style g (form h) ks m) r z (λ i m y e. lay_says style i (form h) ks m y f s e) d

-- a number below zero is a `-` before a number
number_says : (style : Style) (n : ℕ) → nat_lt n (2 ^ 64) ≡ true → Says (number_printer style n)
number_says style n e =
    record {
      one = λ p z r d. production_says style (Some (NumberLiteral n)) [] p r z (ap (λ b. (b && true) && true) e) tt d;
      items = λ g b z r d. d;
      block = λ g z r d. d;
    }

-- ---- trees as they are written

-- what a node's own tokens say, in each goal but that of directives; a body of a function has
-- directives first
abbrev pub LeadsSay : Trees → Type 0
LeadsSay none = Unit {0}
LeadsSay (node h xs n ds ▸ us) = (style : Style) (r : List Token) → are_sayable r ≡ true → are_sayable (lay_block Leading (printers style ds) r) ≡ true

abbrev pub HeadSays : Shape → List Name → Trees → Type 0
HeadSays shape.FunctionBody xs us = LeadsSay us
HeadSays (shape.NumericLiteral (negsuc n)) xs us = ((g : Goal) → leads g ≡ false → rule_says (rule_in g (shape.NumericLiteral (negsuc n)) xs us) ≡ true) × (nat_lt (suc n) (2 ^ 64) ≡ true)
HeadSays h xs us = (g : Goal) → leads g ≡ false → rule_says (rule_in g h xs us) ≡ true

abbrev mutual
  pub Spoken : Tree → Type 0
  Spoken (node h xs n us) = HeadSays h xs us × AllSpoken us

  pub AllSpoken : Trees → Type 0
  AllSpoken none = Unit {0}
  AllSpoken (u ▸ us) = Spoken u × AllSpoken us

-- a production in a style: the one name of an arrow function is a word
abbrev or_word : Option (List ℕ) → Bool
or_word None = true
or_word (Some s) = is_spelling s

only_word : (t : Tree) → Spoken t → or_word (only_name t) ≡ true
only_word (node shape.Listed [] n (node shape.BindingIdentifier (x ∷ []) m none ▸ none)) s = and_l (is_spelling x.spelling) true (s.1.0.0 Anything refl)
only_word t s = refl

arrow_says : (o : Option (List ℕ)) → or_word o ≡ true → form_says (form (arrow_over o)) ≡ true
arrow_says None e = refl
arrow_says (Some s) e = both (is_spelling s) true e refl

arrow_block_says : (o : Option (List ℕ)) → or_word o ≡ true → form_says (form (arrow_block_over o)) ≡ true
arrow_block_says None e = refl
arrow_block_says (Some s) e = both (is_spelling s) true e refl

new_says : (b : Bool) → form_says (form (new_over b)) ≡ true
new_says true = refl
new_says false = refl

styled_says : (h : Rule) (style : Style) (us : Trees) → form_says (form h) ≡ true → AllSpoken us → form_says (form (styled h style us)) ≡ true
styled_says New Short (a ▸ (t ▸ us)) f s = new_says (has_no_items t)
styled_says Arrow Short (t ▸ us) f s = arrow_says (only_name t) (only_word t s.0)
styled_says ArrowBlock Short (t ▸ us) f s = arrow_block_says (only_name t) (only_word t s.0)
styled_says h style us f s = f

styled_rule_says : (o : Option Rule) (style : Style) (us : Trees) → rule_says o ≡ true → AllSpoken us → rule_says (styled_of o style us) ≡ true
styled_rule_says None style us f s = refl
styled_rule_says (Some h) style us f s = styled_says h style us f s

by_rule : (style : Style) (h : Shape) (xs : List Name) (n : ℕ) (us : Trees) → ((g : Goal) → leads g ≡ false → rule_says (rule_in g h xs us) ≡ true) → AllSpoken us → AllSay (parts_of style h (printers style us)) → AllSay (printers style us) → Says (printer style (node h xs n us))
by_rule style h xs n us f t q s =
    record {
      one = λ p z r d. production_says style (styled_of (rule_in (plain p.goal) h xs us) style us) (parts_of style h (printers style us)) (seated (rule_in (plain p.goal) h xs us) p) r (seated_leads (rule_in (plain p.goal) h xs us) p z) (styled_rule_says (rule_in (plain p.goal) h xs us) style us (f (plain p.goal) (plain_leads p.goal z)) t) q d;
      items = λ g b z r d. items_says g b (printers style us) r z s d;
      block = λ g z r d. block_says g (printers style us) r z s d;
    }

-- the body of a function: its directives, then its statements
body_rule : (g : Goal) → turned g FunctionBody ≡ FunctionBody
body_rule Element = refl
body_rule g = refl

body_laid : (style : Style) (g : Goal) (us : Trees) (r : List Token) → LeadsSay us → AllSay (printers style us) → are_sayable r ≡ true → are_sayable (lay style g (form FunctionBody) (printers style us) r) ≡ true
body_laid style g none r f s d = d
body_laid style g (node h xs n ds ▸ none) r f s d = f style r d
body_laid style g (node h xs n ds ▸ (u ▸ us)) r f s d = f style (undirected ((printer style u).block Statement (Punct RightBrace ∷ r))) (undirected_says ((printer style u).block Statement (Punct RightBrace ∷ r)) (s.1.0.block Statement refl (Punct RightBrace ∷ r) d))

body_says : (style : Style) (xs : List Name) (n : ℕ) (us : Trees) → LeadsSay us → AllSay (printers style us) → Says (printer style (node shape.FunctionBody xs n us))
body_says style [] n us f s =
    record {
      one = λ p z r d. subst (λ h. are_sayable (by_production style (Some (styled h style us)) (printers style us) (seated (Some h) p) r) ≡ true) (sym (body_rule (plain p.goal))) (body_laid style (seated (Some FunctionBody) p).goal us r f s d);
      items = λ g b z r d. items_says g b (printers style us) r z s d;
      block = λ g z r d. block_says g (printers style us) r z s d;
    }
body_says style (x ∷ xs) n us f s =
    record {
      one = λ p z r d. d;
      items = λ g b z r d. items_says g b (printers style us) r z s d;
      block = λ g z r d. block_says g (printers style us) r z s d;
    }

node_says : (style : Style) (h : Shape) (xs : List Name) (n : ℕ) (us : Trees) → HeadSays h xs us → AllSpoken us → AllSay (printers style us) → Says (printer style (node h xs n us))
node_says style (shape.NumericLiteral (negsuc m)) xs n us f t s = by_rule style (shape.NumericLiteral (negsuc m)) xs n us f.0 t (number_says style (suc m) f.1, tt) s
node_says style shape.FunctionBody xs n us f t s = body_says style xs n us f s
node_says style h xs n us f t s = by_rule style h xs n us f t s s

mutual
  pub tree_says : (style : Style) (u : Tree) → Spoken u → Says (printer style u)
  tree_says style (node h xs n us) s = node_says style h xs n us s.0 s.1 (trees_say style us s.1)

  pub trees_say : (style : Style) (us : Trees) → AllSpoken us → AllSay (printers style us)
  trees_say style none s = tt
  trees_say style (u ▸ us) s = (tree_says style u s.0, trees_say style us s.1)
