-- What tokens, and the parts of a node, begin with.
use Rattle.std.specs.Prelude.{ℕ, zero, suc, List, [], ◌∷◌, Option, Some, None, pos, negsuc, ℤ, not, codes, Bool, true, false, ◌&&◌, if◌then◌else◌}
use Rattle.mini_model.specs.declared.name.Name.{Name}
use Rattle.mini_model.specs.declared.shape.Shape.{Shape}
use Rattle.mini_model.specs.declared.shape.Shape.TheVariants as shape
use Rattle.mini_model.specs.declared.operator.UnaryOperator.TheVariants.{UnaryNegation}
use Rattle.mini_model.specs.Tree.{Tree, Trees, node, none, ◌▸◌, shape_of, absent, children}
use Rattle.mini_model.specs.Weight.{same_text}
use Rattle.mini_print.specs.Token.{Token, Word, Punct, Colon, Quoted, Semicolon, Comma}
use Rattle.mini_print.specs.Grammar.{Goal, Rule, NumberLiteral, Unary, is_reserved, place}
use Rattle.mini_node.specs.Children.{names_of}
use Rattle.mini_print.specs.Printed.{Printer, only_name, has_no_items}
use Rattle.mini_model.specs.Position.{assignment_level}

abbrev pub first_of : List Token → Option Token
first_of [] = None
first_of (x ∷ ts) = Some x

abbrev pub second_of : List Token → Option Token
second_of [] = None
second_of (x ∷ ts) = first_of ts

abbrev pub first_tree : Trees → Option Tree
first_tree none = None
first_tree (t ▸ ts) = Some t

abbrev pub second_tree : Trees → Option Tree
second_tree none = None
second_tree (t ▸ ts) = first_tree ts

abbrev pub third_tree : Trees → Option Tree
third_tree none = None
third_tree (t ▸ ts) = second_tree ts

abbrev pub fourth_tree : Trees → Option Tree
fourth_tree none = None
fourth_tree (t ▸ ts) = third_tree ts

abbrev pub tree_or_absent : Option Tree → Tree
tree_or_absent None = absent
tree_or_absent (Some t) = t

-- whether there is a part of which that holds
abbrev pub holds_of : (Shape → Bool) → Option Tree → Bool
holds_of f None = false
holds_of f (Some t) = f (shape_of t)

abbrev pub is_body : Shape → Bool
is_body shape.FunctionBody = true
is_body _ = false

abbrev pub spelling_by : Shape → List Name → List ℕ
spelling_by (shape.IdentifierName s) xs = s
spelling_by (shape.PrivateIdentifier s) xs = s
spelling_by shape.BindingIdentifier (x ∷ xs) = x.spelling
spelling_by _ xs = []

-- the name that a node is
abbrev pub spelling_in : Tree → List ℕ
spelling_in (node h xs n ts) = spelling_by h xs

abbrev pub name_text : List Name → List ℕ
name_text [] = []
name_text (x ∷ xs) = x.spelling

abbrev pub word_by : Shape → List Name → List ℕ
word_by (shape.IdentifierName s) xs = s
word_by (shape.StringLiteral s) xs = s
word_by shape.Identifier xs = name_text xs
word_by shape.BindingIdentifier xs = name_text xs
word_by _ xs = []

abbrev pub is_text_shape : Shape → Bool
is_text_shape (shape.StringLiteral s) = true
is_text_shape _ = false

abbrev pub is_reference_shape : Shape → Bool
is_reference_shape shape.Identifier = true
is_reference_shape _ = false

abbrev pub is_list_of_some : Shape → Trees → Bool
is_list_of_some shape.Listed (t ▸ ts) = true
is_list_of_some _ ts = false

abbrev pub raw_by : Shape → List ℕ
raw_by (shape.TemplateElement b s c) = s
raw_by _ = []

-- the name of a leaf that is declared, of the one part that there is, and of the one item of a list
abbrev pub name_of_leaf : Shape → List Name → Trees → Option (List ℕ)
name_of_leaf shape.BindingIdentifier (x ∷ []) none = Some x.spelling
name_of_leaf _ xs ts = None

abbrev pub name_of_one : Trees → Option (List ℕ)
name_of_one (t ▸ none) = name_of_leaf (shape_of t) (names_of t) (children t)
name_of_one ts = None

abbrev pub name_of_list : Shape → List Name → Trees → Option (List ℕ)
name_of_list shape.Listed [] ts = name_of_one ts
name_of_list _ xs ts = None

abbrev pub name_of_first : Option Tree → Option (List ℕ)
name_of_first None = None
name_of_first (Some t) = only_name t

-- a list of nothing, and whether an item is one
abbrev pub is_bare_list : Shape → List Name → Trees → Bool
is_bare_list shape.Listed [] none = true
is_bare_list _ xs ts = false

abbrev pub has_none_in : Option Tree → Bool
has_none_in None = false
has_none_in (Some t) = has_no_items t

abbrev pub text_if : (Tree → List ℕ) → Option Tree → List ℕ
text_if f None = []
text_if f (Some t) = f t

abbrev pub number_rule : ℤ → Rule
number_rule (pos n) = NumberLiteral n
number_rule (negsuc n) = Unary UnaryNegation

-- whether a token is this word
abbrev pub is_that_word : List ℕ → Token → Bool
is_that_word w (Word s) = same_text s w
is_that_word w _ = false

abbrev pub is_it_colon : Option Token → Bool
is_it_colon (Some (Punct Colon)) = true
is_it_colon _ = false

-- whether a name stands before a colon
abbrev pub is_label : Token → Option Token → Bool
is_label (Word s) y = not (is_reserved s) && is_it_colon y
is_label x y = false

abbrev pub is_it_of : Option Token → Bool
is_it_of None = false
is_it_of (Some x) = is_that_word (codes "of") x

abbrev pub is_negative : Shape → Bool
is_negative (shape.NumericLiteral (negsuc n)) = true
is_negative _ = false

-- the number so far below zero
abbrev pub below : ℕ → Shape
below (suc n) = shape.NumericLiteral (negsuc n)
below zero = shape.Absent

-- whether a text stands before a semicolon
abbrev pub is_it_directive : Token → Option Token → Bool
is_it_directive (Quoted s) (Some (Punct Semicolon)) = true
is_it_directive x y = false

-- an item of a list, and the comma behind it
abbrev pub laid_item : Goal → Bool → Bool → Printer → List Token → List Token
laid_item g gaps true k r = if gaps && k.absent then Punct Comma ∷ r else k.one (place g assignment_level) r
laid_item g gaps false k r = if gaps && k.absent then Punct Comma ∷ r else k.one (place g assignment_level) (Punct Comma ∷ r)
