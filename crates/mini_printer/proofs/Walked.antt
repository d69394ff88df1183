-- The steps of the walk are those of the definition.
use Rattle.std.proofs.Common.{◌≡◌, ℕ, zero, suc, ◌<◌, Bool, true, false, refl, sym, ◌∙◌, ap, List, [], ◌∷◌, length, drop, get_or, arith, Option, Some, None}
use Rattle.std.specs.Prelude.{negsuc, not, ◌&&◌, ◌||◌, codes}
use Rattle.std.proofs.lemmas.Bool.{false≢true}
use Rattle.mini_model.specs.declared.operator.UnaryOperator.TheVariants.{UnaryNegation}
use Rattle.mini_model.specs.declared.name.Name.{Name}
use Rattle.mini_model.specs.declared.shape.Shape.{Shape}
use Rattle.mini_model.specs.declared.shape.Shape.TheVariants as shape
use Rattle.mini_model.specs.Tree.{Tree, Trees, node, shape_of, children}
use Rattle.mini_print.specs.Token.{Token, Punct, Word, Number, Minus, LeftParen, RightParen, LeftBrace, RightBrace}
use Rattle.mini_print.specs.Grammar as grammar
use Rattle.mini_print.specs.Grammar.{Goal, Rule, Place, form, place, heir, Anything, ends_yield}
use Rattle.mini_print.specs.Printed.{Style, Full, Printer, third_is_absent, lay, lay_items, lay_block, by_production, parenthesized, braced, printer, printers, parts_of, number_printer, rule_in, styled, styled_of, turned, plain, seated, is_absent_shape, is_fit}
use Rattle.mini_grammar.specs.Firsts.{is_negative, below, laid_item}
use Rattle.mini_grammar.specs.Pieces.{piece_parts, parts_in, pieces_of, own, is_mark, is_end, takes_part}
use Rattle.mini_places.specs.Standing.{is_special, standing_of, opened}
use Rattle.mini_node.specs.Children.{trees_of, names_of}
use Rattle.mini_grammar.specs.declared.grammar.Piece.{Piece}
use Rattle.mini_grammar.specs.declared.grammar.Piece.TheVariants as piece
use Rattle.mini_printer.proofs.Laid.{laid_mark, laid_end, laid_none, laid_part}
use Rattle.mini_grammar.proofs.Same.{same_form}
use Rattle.mini_places.proofs.Stands.{produced, open_is}

-- the production of a node in a place
abbrev pub rule_there : Tree → Place → Option Rule
rule_there t p = rule_in (plain p.goal) (shape_of t) (names_of t) (children t)

there_is : (style : Style) (t : Tree) (p : Place) (r : List Token) → (printer style t).one p r ≡ by_production style (styled_of (rule_there t p) style (children t)) (parts_of style (shape_of t) (printers style (children t))) (seated (rule_there t p) p) r
there_is style (node h xs n ts) p r = refl

pub nothing_there : (style : Style) (t : Tree) (p : Place) (r : List Token) → rule_there t p ≡ None → (printer style t).one p r ≡ r
nothing_there style t p r e = there_is style t p r ∙ ap (λ o. by_production style (styled_of o style (children t)) (parts_of style (shape_of t) (printers style (children t))) (seated o p) r) e

something_there : (style : Style) (t : Tree) (p : Place) (r : List Token) (h : Rule) → rule_there t p ≡ Some h → (printer style t).one p r ≡ by_production style (Some (styled h style (children t))) (parts_of style (shape_of t) (printers style (children t))) (seated (Some h) p) r
something_there style t p r h e = there_is style t p r ∙ ap (λ o. by_production style (styled_of o style (children t)) (parts_of style (shape_of t) (printers style (children t))) (seated o p) r) e

plain_parts : (style : Style) (h : Shape) (ks : List Printer) → is_negative h ≡ false → parts_of style h ks ≡ ks
plain_parts style (shape.NumericLiteral (negsuc n)) ks e = absurd (false≢true (sym e))
plain_parts style h ks e = refl

pub rule_stands : (style : Style) (t : Tree) (p : Place) (r : List Token) (h : Rule) → rule_there t p ≡ Some h → is_negative (shape_of t) ≡ false → (printer style t).one p r ≡ by_production style (Some (styled h style (children t))) (printers style (children t)) (seated (Some h) p) r
rule_stands style t p r h e f = something_there style t p r h e ∙ ap (λ ks. by_production style (Some (styled h style (children t))) ks (seated (Some h) p) r) (plain_parts style (shape_of t) (printers style (children t)) f)

none_some : {A : Type 0} (x : A) → None ≡ Some x → ⊥
none_some x e = cc

some_same : {A : Type 0} (x y : A) → Some x ≡ Some y → x ≡ y
some_same x y e = cc

turned_minus : (g : Goal) → turned g (grammar.Unary UnaryNegation) ≡ grammar.Unary UnaryNegation
turned_minus grammar.Anything = refl
turned_minus grammar.WithoutIn = refl
turned_minus grammar.Callee = refl
turned_minus grammar.AfterDot = refl
turned_minus grammar.Binding = refl
turned_minus grammar.Statement = refl
turned_minus grammar.Declared = refl
turned_minus grammar.Element = refl
turned_minus grammar.Property = refl
turned_minus grammar.Body = refl
turned_minus grammar.Bound = refl
turned_minus grammar.Parameter = refl
turned_minus grammar.BoundProperty = refl
turned_minus grammar.HeadDeclaration = refl
turned_minus grammar.HeadDeclared = refl
turned_minus grammar.MethodValue = refl
turned_minus grammar.GeneratorValue = refl
turned_minus grammar.KeyName = refl
turned_minus grammar.LabelName = refl
turned_minus grammar.CaseItem = refl
turned_minus grammar.Catching = refl
turned_minus grammar.BlockOnly = refl
turned_minus grammar.TemplateRest = refl
turned_minus grammar.TagTemplate = refl
turned_minus grammar.FirstLink = refl
turned_minus grammar.Link = refl
turned_minus grammar.BoundElement = refl
turned_minus (grammar.DefaultOf b s) = refl
turned_minus grammar.ClassBraces = refl
turned_minus grammar.ClassElement = refl
turned_minus grammar.PlainElement = refl
turned_minus grammar.ClassKey = refl
turned_minus grammar.TargetPattern = refl
turned_minus grammar.Target = refl
turned_minus grammar.TargetElement = refl
turned_minus grammar.TargetProperty = refl
turned_minus grammar.Leading = refl
turned_minus grammar.ModuleItem = refl
turned_minus grammar.SourceText = refl
turned_minus grammar.ModuleName = refl
turned_minus grammar.ImportItem = refl
turned_minus grammar.Exportable = refl
turned_minus grammar.DefaultDeclared = refl
turned_minus grammar.ExportItem = refl
turned_minus grammar.ForwardItem = refl

-- a rule is that of a number below zero, whose part is a number
minus_rule : (g : Goal) (n : ℕ) (xs : List Name) (ts : Trees) (h : Rule) → rule_in g (below n) xs ts ≡ Some h → grammar.Unary UnaryNegation ≡ h
minus_rule g zero xs ts h e = absurd (none_some h e)
minus_rule g (suc n) [] ts h e = sym (turned_minus g) ∙ some_same _ h e
minus_rule g (suc n) (x ∷ xs) ts h e = absurd (none_some h e)

-- a number below zero
pub minus_stands : (style : Style) (t : Tree) (p : Place) (r : List Token) (h : Rule) (n : ℕ) → rule_there t p ≡ Some h → shape_of t ≡ below n → (printer style t).one p r ≡ by_production style (Some (styled h style (children t))) (number_printer style n ∷ []) (seated (Some h) p) r
minus_stands style t p r h zero e f = absurd (none_some h (sym (ap (λ s. rule_in (plain p.goal) s (names_of t) (children t)) f) ∙ e))
minus_stands style t p r h (suc n) e f = something_there style t p r h e ∙ ap (λ s. by_production style (Some (styled h style (children t))) (parts_of style s (printers style (children t))) (seated (Some h) p) r) f

pub minus_is : (t : Tree) (p : Place) (h : Rule) (n : ℕ) → rule_there t p ≡ Some h → shape_of t ≡ below n → h ≡ grammar.Unary UnaryNegation
minus_is t p h n e f = sym (minus_rule (plain p.goal) n (names_of t) (children t) h (sym (ap (λ s. rule_in (plain p.goal) s (names_of t) (children t)) f) ∙ e))

laid_form : (style : Style) (h : Rule) (ks : List Printer) (g : Goal) (m : List Token) → lay style g (form h) ks m ≡ lay style g (parts_in h (pieces_of h)) ks m
laid_form style h ks g m = ap (λ ps. lay style g ps ks m) (sym (same_form h))

-- a production in parentheses, and one without
pub in_parentheses : (style : Style) (h : Rule) (ks : List Printer) (p : Place) (r : List Token) → is_special (standing_of h) ≡ false → opened (standing_of h) (own h) p ≡ false →
    by_production style (Some h) ks p r ≡ Punct LeftParen ∷ lay style Anything (parts_in h (pieces_of h)) ks (Punct RightParen ∷ r)
in_parentheses style h ks p r e f =
    produced style h ks p r e
    ∙ (ap (λ b. parenthesized b p.goal (λ g m. lay style g (form h) ks m) r) (open_is p h ∙ f)
    ∙ ap (λ ts. Punct LeftParen ∷ ts) (laid_form style h ks Anything (Punct RightParen ∷ r)))

pub as_it_is : (style : Style) (h : Rule) (ks : List Printer) (p : Place) (r : List Token) → is_special (standing_of h) ≡ false → opened (standing_of h) (own h) p ≡ true →
    by_production style (Some h) ks p r ≡ lay style p.goal (parts_in h (pieces_of h)) ks r
as_it_is style h ks p r e f =
    produced style h ks p r e
    ∙ (ap (λ b. parenthesized b p.goal (λ g m. lay style g (form h) ks m) r) (open_is p h ∙ f)
    ∙ laid_form style h ks p.goal r)

not_true : (b : Bool) → true ≡ not b → b ≡ false
not_true true e = absurd (false≢true (sym e))
not_true false e = refl

not_false : (b : Bool) → false ≡ not b → b ≡ true
not_false true e = refl
not_false false e = absurd (false≢true e)

-- a number alone, and behind a minus
pub number_enclosed : (n : ℕ) (p : Place) (r : List Token) → true ≡ not (opened (standing_of (grammar.NumberLiteral n)) (own (grammar.NumberLiteral n)) p) → (number_printer Full n).one p r ≡ Punct LeftParen ∷ Number n ∷ Punct RightParen ∷ r
number_enclosed n p r e = in_parentheses Full (grammar.NumberLiteral n) [] p r refl (not_true _ e)

pub number_open : (n : ℕ) (p : Place) (r : List Token) → false ≡ not (opened (standing_of (grammar.NumberLiteral n)) (own (grammar.NumberLiteral n)) p) → (number_printer Full n).one p r ≡ Number n ∷ r
number_open n p r e = as_it_is Full (grammar.NumberLiteral n) [] p r refl (not_false _ e)

pub minus_enclosed : (n : ℕ) (p : Place) (r : List Token) → true ≡ not (opened (standing_of (grammar.Unary UnaryNegation)) (own (grammar.Unary UnaryNegation)) p) → by_production Full (Some (grammar.Unary UnaryNegation)) (number_printer Full n ∷ []) p r ≡ Punct LeftParen ∷ Punct Minus ∷ (number_printer Full n).one (place Anything 14) (Punct RightParen ∷ r)
minus_enclosed n p r e = in_parentheses Full (grammar.Unary UnaryNegation) (number_printer Full n ∷ []) p r refl (not_true _ e)

pub minus_open : (n : ℕ) (p : Place) (r : List Token) → false ≡ not (opened (standing_of (grammar.Unary UnaryNegation)) (own (grammar.Unary UnaryNegation)) p) → by_production Full (Some (grammar.Unary UnaryNegation)) (number_printer Full n ∷ []) p r ≡ Punct Minus ∷ (number_printer Full n).one (place (heir p.goal) 14) r
minus_open n p r e = as_it_is Full (grammar.Unary UnaryNegation) (number_printer Full n ∷ []) p r refl (not_false _ e)

pub produced_enclosed : (style : Style) (h : Rule) (xs : List Piece) (ks : List Printer) (p : Place) (r : List Token) → is_special (standing_of h) ≡ false → xs ≡ pieces_of h → true ≡ not (opened (standing_of h) (own h) p) → by_production style (Some h) ks p r ≡ Punct LeftParen ∷ lay style Anything (parts_in h xs) ks (Punct RightParen ∷ r)
produced_enclosed style h xs ks p r e f c = in_parentheses style h ks p r e (not_true _ c) ∙ ap (λ ys. Punct LeftParen ∷ lay style Anything (parts_in h ys) ks (Punct RightParen ∷ r)) (sym f)

pub produced_open : (style : Style) (h : Rule) (xs : List Piece) (ks : List Printer) (p : Place) (r : List Token) → is_special (standing_of h) ≡ false → xs ≡ pieces_of h → false ≡ not (opened (standing_of h) (own h) p) → by_production style (Some h) ks p r ≡ lay style p.goal (parts_in h xs) ks r
produced_open style h xs ks p r e f c = as_it_is style h ks p r e (not_false _ c) ∙ ap (λ ys. lay style p.goal (parts_in h ys) ks r) (sym f)

-- an `if`, in braces or not
third_node : (style : Style) (t : Tree) → (printer style t).absent ≡ (printer Full t).absent
third_node style (node h xs n ts) = refl

third_same : (style : Style) (ts : List Tree) → third_is_absent (printers style (trees_of ts)) ≡ third_is_absent (printers Full (trees_of ts))
third_same style [] = refl
third_same style (a ∷ []) = refl
third_same style (a ∷ b ∷ []) = refl
third_same style (a ∷ b ∷ c ∷ []) = third_node style c
third_same style (a ∷ b ∷ c ∷ d ∷ ts) = refl

braced_as : (style : Style) (ts : List Tree) (o d : Bool) (r : List Token) → (third_is_absent (printers Full (trees_of ts)) && o) ≡ d → braced style (third_is_absent (printers style (trees_of ts)) && o) (printers style (trees_of ts)) r ≡ braced style d (printers style (trees_of ts)) r
braced_as style ts o d r e = ap (λ b. braced style b (printers style (trees_of ts)) r) (ap (λ b. b && o) (third_same style ts) ∙ e)

form_as : (h : Rule) (xs : List Piece) → h ≡ grammar.If → xs ≡ pieces_of h → form grammar.If ≡ parts_in h xs
form_as h xs e f = ap form (sym e) ∙ (sym (same_form h) ∙ ap (parts_in h) (sym f))

pub if_braced : (style : Style) (h : Rule) (xs : List Piece) (ts : List Tree) (o : Bool) (r : List Token) → h ≡ grammar.If → xs ≡ pieces_of h → (third_is_absent (printers Full (trees_of ts)) && o) ≡ true →
    braced style (third_is_absent (printers style (trees_of ts)) && o) (printers style (trees_of ts)) r ≡ Punct LeftBrace ∷ lay style grammar.Statement (parts_in h xs) (printers style (trees_of ts)) (Punct RightBrace ∷ r)
if_braced style h xs ts o r e f c =
    braced_as style ts o true r c
    ∙ ap (λ ps. Punct LeftBrace ∷ lay style grammar.Statement ps (printers style (trees_of ts)) (Punct RightBrace ∷ r)) (form_as h xs e f)

pub if_plain : (style : Style) (h : Rule) (xs : List Piece) (ts : List Tree) (o : Bool) (r : List Token) → h ≡ grammar.If → xs ≡ pieces_of h → (third_is_absent (printers Full (trees_of ts)) && o) ≡ false →
    braced style (third_is_absent (printers style (trees_of ts)) && o) (printers style (trees_of ts)) r ≡ lay style grammar.Statement (parts_in h xs) (printers style (trees_of ts)) r
if_plain style h xs ts o r e f c =
    braced_as style ts o false r c
    ∙ ap (λ ps. lay style grammar.Statement ps (printers style (trees_of ts)) r) (form_as h xs e f)

-- a `yield` without an expression
pub bare_stays : (ks : List Printer) (b : Bool) (p : Place) (r : List Token) → b ≡ (is_fit p grammar.YieldBare && ends_yield r) → b ≡ true → by_production Full (Some grammar.YieldBare) ks p r ≡ Word (codes "yield") ∷ r
bare_stays ks b p r e f = ap (λ c. parenthesized c p.goal (λ g m. Word (codes "yield") ∷ m) r) (sym e ∙ f)

pub bare_enclosed : (ks : List Printer) (b : Bool) (p : Place) (r : List Token) → b ≡ (is_fit p grammar.YieldBare && ends_yield r) → b ≡ false → by_production Full (Some grammar.YieldBare) ks p r ≡ Punct LeftParen ∷ Word (codes "yield") ∷ Punct RightParen ∷ r
bare_enclosed ks b p r e f = ap (λ c. parenthesized c p.goal (λ g m. Word (codes "yield") ∷ m) r) (sym e ∙ f)

pub bare_fits : (p : Place) → is_fit p grammar.YieldBare ≡ opened (standing_of grammar.YieldBare) (own grammar.YieldBare) p
bare_fits p = open_is p grammar.YieldBare

-- ---- lists, from their ends

pub next_tree : (i : ℕ) (xs : List Tree) (x : Tree) → i < length xs → x ≡ get_or xs i x → drop i xs ≡ x ∷ drop (suc i) xs
next_tree i [] x h is = absurd (omega (arith, h))
next_tree zero (y ∷ ys) x h is = ap (λ z. z ∷ ys) (sym is)
next_tree (suc i) (y ∷ ys) x h is = let less : i < length ys = omega (arith, h) in next_tree i ys x less is

abbrev pub is_nil : List Tree → Bool
is_nil [] = true
is_nil (x ∷ xs) = false

item_before : (style : Style) (g : Goal) (gaps : Bool) (x : Tree) (ts : List Tree) (r : List Token) → laid_item g gaps (is_nil ts) (printer style x) (lay_items g gaps (printers style (trees_of ts)) r) ≡ lay_items g gaps (printers style (trees_of (x ∷ ts))) r
item_before style g gaps x [] r = refl
item_before style g gaps x (y ∷ ts) r = refl

pub item_kept : (style : Style) (g : Goal) (gaps last : Bool) (xs : List Tree) (i : ℕ) (x : Tree) (ts r : List Token) → i < length xs → x ≡ get_or xs i x → last ≡ is_nil (drop (suc i) xs) → ts ≡ lay_items g gaps (printers style (trees_of (drop (suc i) xs))) r →
    laid_item g gaps last (printer style x) ts ≡ lay_items g gaps (printers style (trees_of (drop i xs))) r
item_kept style g gaps last xs i x ts r h is e f =
    ap (λ b. laid_item g gaps b (printer style x) ts) e
    ∙ (ap (λ us. laid_item g gaps (is_nil (drop (suc i) xs)) (printer style x) us) f
    ∙ (item_before style g gaps x (drop (suc i) xs) r
    ∙ ap (λ ys. lay_items g gaps (printers style (trees_of ys)) r) (sym (next_tree i xs x h is))))

pub last_kept : (xs : List Tree) (i : ℕ) (x : Tree) → i < length xs → x ≡ get_or xs i x → false ≡ is_nil (drop i xs)
last_kept xs i x h is = ap is_nil (sym (next_tree i xs x h is))

pub block_kept : (style : Style) (g : Goal) (xs : List Tree) (i : ℕ) (x : Tree) (ts r : List Token) → i < length xs → x ≡ get_or xs i x → ts ≡ lay_block g (printers style (trees_of (drop (suc i) xs))) r →
    (printer style x).one (place g 0) ts ≡ lay_block g (printers style (trees_of (drop i xs))) r
block_kept style g xs i x ts r h is f =
    ap (λ us. (printer style x).one (place g 0) us) f
    ∙ ap (λ ys. lay_block g (printers style (trees_of ys)) r) (sym (next_tree i xs x h is))

-- ---- the pieces of a production

nothing_laid : (style : Style) (g : Goal) (ks : List Printer) (r : List Token) → lay style g [] ks r ≡ r
nothing_laid style g ks r = refl

pub no_piece : (style : Style) (g : Goal) (h : Rule) (xs : List Piece) (ks : List Printer) (r : List Token) → xs ≡ [] → lay style g (parts_in h xs) ks r ≡ r
no_piece style g h xs ks r e = ap (λ ys. lay style g (parts_in h ys) ks r) e ∙ nothing_laid style g ks r

pub last_piece : (style : Style) (g : Goal) (h : Rule) (x : Piece) (xs ys : List Piece) (ks : List Printer) (r : List Token) → ys ≡ x ∷ xs → is_end x ≡ true → lay style g (parts_in h ys) ks r ≡ r
last_piece style g h (piece.End c) xs ys ks r e f = ap (λ zs. lay style g (parts_in h zs) ks r) e ∙ laid_end style g h c (parts_in h xs) ks r
last_piece style g h _ xs ys ks r e f = absurd (false≢true f)

pub mark_piece : (style : Style) (g : Goal) (h : Rule) (x : Piece) (xs ys : List Piece) (ks : List Printer) (r : List Token) → ys ≡ x ∷ xs → is_mark x ≡ true → lay style g (parts_in h ys) ks r ≡ lay style g (piece_parts h x []) [] (lay style g (parts_in h xs) ks r)
mark_piece style g h x xs ys ks r e f = ap (λ zs. lay style g (parts_in h zs) ks r) e ∙ laid_mark style g h x (parts_in h xs) ks r f

pub takes_by : (x : Piece) → is_end x ≡ false → is_mark x ≡ false → takes_part x ≡ true
takes_by x e f = ap (λ b. not (b || is_end x)) f ∙ ap not e

pub missing_part : (style : Style) (g : Goal) (h : Rule) (x : Piece) (xs ys : List Piece) (ts : List Tree) (r : List Token) → ys ≡ x ∷ xs → takes_part x ≡ true → ts ≡ [] → lay style g (parts_in h ys) (printers style (trees_of ts)) r ≡ r
missing_part style g h x xs ys ts r e f m = ap (λ zs. lay style g (parts_in h zs) (printers style (trees_of ts)) r) e ∙ (ap (λ us. lay style g (parts_in h (x ∷ xs)) (printers style (trees_of us)) r) m ∙ laid_none style g h x (parts_in h xs) r f)

pub part_piece : (style : Style) (g : Goal) (h : Rule) (x : Piece) (xs ys : List Piece) (t : Tree) (us ts : List Tree) (r : List Token) → ys ≡ x ∷ xs → takes_part x ≡ true → ts ≡ t ∷ us →
    lay style g (parts_in h ys) (printers style (trees_of ts)) r ≡ lay style g (piece_parts h x []) (printer style t ∷ []) (lay style g (parts_in h xs) (printers style (trees_of us)) r)
part_piece style g h x xs ys t us ts r e f m = ap (λ zs. lay style g (parts_in h zs) (printers style (trees_of ts)) r) e ∙ (ap (λ vs. lay style g (parts_in h (x ∷ xs)) (printers style (trees_of vs)) r) m ∙ laid_part style g h x (parts_in h xs) (printer style t) (printers style (trees_of us)) r f)

-- ---- parts

pub absent_is : (style : Style) (t : Tree) → (printer style t).absent ≡ is_absent_shape (shape_of t)
absent_is style (node h xs n ts) = refl

pub items_are : (style : Style) (t : Tree) (g : Goal) (b : Bool) (r : List Token) → (printer style t).items g b r ≡ lay_items g b (printers style (children t)) r
items_are style (node h xs n ts) g b r = refl

pub block_is : (style : Style) (t : Tree) (g : Goal) (r : List Token) → (printer style t).block g r ≡ lay_block g (printers style (children t)) r
block_is style (node h xs n ts) g r = refl

-- ---- a node whose production is known

found_there : (t : Tree) (p : Place) (h : Rule) (g : Goal) (o : Option Rule) → g ≡ plain p.goal → o ≡ rule_in g (shape_of t) (names_of t) (children t) → o ≡ Some h → rule_there t p ≡ Some h
found_there t p h g o a b c = sym (b ∙ ap (λ i. rule_in i (shape_of t) (names_of t) (children t)) a) ∙ c

-- a number below zero has no `;`
minus_same : (style : Style) (n : ℕ) (p : Place) (r : List Token) → by_production Full (Some (grammar.Unary UnaryNegation)) (number_printer Full n ∷ []) p r ≡ by_production style (Some (grammar.Unary UnaryNegation)) (number_printer style n ∷ []) p r
minus_same style n p r = refl

pub negative_done : (style : Style) (t : Tree) (p : Place) (r : List Token) (h : Rule) (n : ℕ) (g : Goal) (o : Option Rule) (q : Place) → g ≡ plain p.goal → o ≡ rule_in g (shape_of t) (names_of t) (children t) → o ≡ Some h → q ≡ seated (Some h) p → shape_of t ≡ below n →
    by_production Full (Some (grammar.Unary UnaryNegation)) (number_printer Full n ∷ []) q r ≡ (printer style t).one p r
negative_done style t p r h n g o q a b c d e =
    let found = found_there t p h g o a b c in
    minus_same style n q r
    ∙ (ap (λ z. by_production style (Some (grammar.Unary UnaryNegation)) (number_printer style n ∷ []) z r) d
    ∙ (ap (λ k. by_production style (Some (styled k style (children t))) (number_printer style n ∷ []) (seated (Some h) p) r) (sym (minus_is t p h n found e))
    ∙ sym (minus_stands style t p r h n found e)))

-- with each `;` a production is itself
pub full_same : (h : Rule) (ts : Trees) → styled h Full ts ≡ h
full_same grammar.Arrow ts = refl
full_same grammar.ArrowBlock ts = refl
full_same _ ts = refl

pub rule_done : (style : Style) (t : Tree) (p : Place) (r : List Token) (h k : Rule) (g : Goal) (o : Option Rule) (q : Place) (s : Shape) (ts : Trees) → g ≡ plain p.goal → o ≡ rule_in g (shape_of t) (names_of t) (children t) → o ≡ Some h → q ≡ seated (Some h) p → s ≡ shape_of t → is_negative s ≡ false → ts ≡ children t → k ≡ styled h style ts →
    by_production style (Some k) (printers style ts) q r ≡ (printer style t).one p r
rule_done style t p r h k g o q s ts a b c d e f m l =
    ap (λ z. by_production style (Some z) (printers style ts) q r) l
    ∙ (ap (λ z. by_production style (Some (styled h style ts)) (printers style ts) z r) d
    ∙ (ap (λ us. by_production style (Some (styled h style us)) (printers style us) (seated (Some h) p) r) m
    ∙ sym (rule_stands style t p r h (found_there t p h g o a b c) (sym (ap is_negative e) ∙ f))))
