-- What the shapes, the names and the parts of nodes tell.
use Rattle.std.proofs.Common.{◌≡◌, ℕ, zero, suc, Option, Bool, true, false, ◌&&◌, List, [], ◌∷◌, refl, ap, sym, ◌∙◌}
use Rattle.std.specs.Prelude.{pos, negsuc}
use Rattle.std.proofs.lemmas.Bool.{false≢true}
use Rattle.mini_model.specs.Templates.{cooked}
use Rattle.mini_model.specs.Weight.{same_text}
use Rattle.mini_model.specs.declared.kind.MethodDefinitionKind.{MethodDefinitionKind}
use Rattle.mini_model.specs.declared.name.Name.{Name}
use Rattle.mini_model.specs.declared.shape.Shape.{Shape}
use Rattle.mini_model.specs.declared.shape.Shape.TheVariants as shape
use Rattle.mini_model.specs.Tree.{Tree, Trees, node, none, ◌▸◌, shape_of, is_absent, children}
use Rattle.mini_node.specs.Children.{names_of}
use Rattle.mini_print.specs.Grammar.{NameOf, BindingOf, ReferenceOf, PrivateOf, PieceOf, TextOf, NoItems, SuperHere, has_private, is_private_shape, constructor_shape, first_shape, static_shape, static_kind, same_flag, ParameterOf}
use Rattle.mini_print.specs.Printed.{is_absent_shape, is_nothing, is_positive_literal, is_silent, same_cooked, same_kind, same_member, only_name}
use Rattle.mini_print.proofs.Told.{same_is}
use Rattle.mini_grammar.specs.Firsts.{first_tree, second_tree, holds_of}
use Rattle.mini_faults.specs.Wants.{is_leaf, is_spelled, is_positive_shape, has_no_trees, static_by, is_that_text}

pub positive_is : (t : Tree) → is_positive_literal t ≡ is_positive_shape (shape_of t)
positive_is (node (shape.NumericLiteral (pos zero)) xs m ts) = refl
positive_is (node (shape.NumericLiteral (pos (suc n))) xs m ts) = refl
positive_is (node (shape.NumericLiteral (negsuc n)) xs m ts) = refl
positive_is (node h xs m ts) = refl

pub private_by : (ts : Trees) → has_private ts ≡ holds_of is_private_shape (second_tree ts)
private_by none = refl
private_by (a ▸ none) = refl
private_by (a ▸ node h xs n us ▸ ts) = refl

pub absent_is : (t : Tree) → is_absent t ≡ is_absent_shape (shape_of t)
absent_is (node shape.Absent xs n us) = refl
absent_is (node h xs n us) = refl

pub constructs_by : (ts : Trees) → constructor_shape (first_shape ts) ≡ holds_of constructor_shape (first_tree ts)
constructs_by none = refl
constructs_by (node h xs n us ▸ ts) = refl

-- what is static, by what stands behind `static`
and_true : (b : Bool) → (b && true) ≡ b
and_true true = refl
and_true false = refl

pub static_method : (k j : MethodDefinitionKind) (c d b : Bool) → same_member (static_shape (shape.MethodDefinition j d b)) (shape.MethodDefinition k c true) ≡ (same_kind (static_kind j) k && same_flag d c)
static_method k j c d b = ap (λ a. same_kind (static_kind j) k && a) (and_true (same_flag d c))

pub static_field : (c d b : Bool) → same_member (static_shape (shape.PropertyDefinition d b)) (shape.PropertyDefinition c true) ≡ same_flag d c
static_field c d b = and_true (same_flag d c)

pub first_by : (h : Shape) (ts : Trees) → same_member (static_shape (first_shape ts)) h ≡ static_by h (first_tree ts)
first_by h none = refl
first_by h (node k xs n us ▸ ts) = refl

-- names and parts
pub spelled_by : (s : List ℕ) (x : Name) (ts : Trees) → is_spelled s (x ∷ []) ts ≡ (has_no_trees ts && same_text x.spelling s)
spelled_by s x none = refl
spelled_by s x (t ▸ ts) = refl

pub nothing_by : (xs : List Name) (ts : Trees) → is_nothing shape.Absent xs ts ≡ is_leaf xs ts
nothing_by [] none = refl
nothing_by [] (t ▸ ts) = refl
nothing_by (x ∷ xs) ts = refl

pub word_by : (s r : List ℕ) (xs : List Name) (ts : Trees) → is_silent (NameOf s) (shape.IdentifierName r) xs ts ≡ (is_leaf xs ts && same_text r s)
word_by s r [] none = refl
word_by s r [] (t ▸ ts) = refl
word_by s r (x ∷ xs) ts = refl

pub binding_by : (s : List ℕ) (xs : List Name) (ts : Trees) → is_silent (BindingOf s) shape.BindingIdentifier xs ts ≡ is_spelled s xs ts
binding_by s [] ts = refl
binding_by s (x ∷ []) none = refl
binding_by s (x ∷ []) (t ▸ ts) = refl
binding_by s (x ∷ y ∷ xs) ts = refl

pub reference_by : (s : List ℕ) (xs : List Name) (ts : Trees) → is_silent (ReferenceOf s) shape.Identifier xs ts ≡ is_spelled s xs ts
reference_by s [] ts = refl
reference_by s (x ∷ []) none = refl
reference_by s (x ∷ []) (t ▸ ts) = refl
reference_by s (x ∷ y ∷ xs) ts = refl

pub private_name_by : (s r : List ℕ) (xs : List Name) (ts : Trees) → is_silent (PrivateOf s) (shape.PrivateIdentifier r) xs ts ≡ (is_leaf xs ts && same_text r s)
private_name_by s r [] none = refl
private_name_by s r [] (t ▸ ts) = refl
private_name_by s r (x ∷ xs) ts = refl

pub text_by : (s r : List ℕ) (xs : List Name) (ts : Trees) → is_silent (TextOf s) (shape.StringLiteral r) xs ts ≡ (is_leaf xs ts && same_text r s)
text_by s r [] none = refl
text_by s r [] (t ▸ ts) = refl
text_by s r (x ∷ xs) ts = refl

pub super_by : (xs : List Name) (ts : Trees) → is_silent SuperHere shape.Super xs ts ≡ is_leaf xs ts
super_by [] none = refl
super_by [] (t ▸ ts) = refl
super_by (x ∷ xs) ts = refl

pub no_items_by : (xs : List Name) (ts : Trees) → is_silent NoItems shape.Listed xs ts ≡ is_leaf xs ts
no_items_by [] none = refl
no_items_by [] (t ▸ ts) = refl
no_items_by (x ∷ xs) ts = refl

piece_is : (b d : Bool) (s r : List ℕ) (c : Option (List ℕ)) (xs : List Name) (ts : Trees) → is_silent (PieceOf b s) (shape.TemplateElement d r c) xs ts ≡ (is_leaf xs ts && (same_flag d b && (same_text r s && same_cooked c (cooked s))))
piece_is b d s r c [] none = refl
piece_is b d s r c [] (t ▸ ts) = refl
piece_is b d s r c (x ∷ xs) ts = refl

told : (a b c d : Bool) → (a && (b && c)) ≡ true → (a && (b && (c && d))) ≡ d
told true true true d e = refl
told true true false d e = absurd (false≢true e)
told true false c d e = absurd (false≢true e)
told false b c d e = absurd (false≢true e)

untold : (a b c d : Bool) → (a && (b && c)) ≡ false → (a && (b && (c && d))) ≡ false
untold true true true d e = absurd (false≢true (sym e))
untold true true false d e = refl
untold true false c d e = refl
untold false b c d e = refl

third_true : (a b c : Bool) → (a && (b && c)) ≡ true → c ≡ true
third_true true true c e = e
third_true true false c e = absurd (false≢true e)
third_true false b c e = absurd (false≢true e)

-- a piece of this text is one whose cooked text is that of its raw one
pub piece_by : (b d : Bool) (s r : List ℕ) (c : Option (List ℕ)) (xs : List Name) (ts : Trees) → (is_leaf xs ts && (same_flag d b && same_text r s)) ≡ true → is_silent (PieceOf b s) (shape.TemplateElement d r c) xs ts ≡ same_cooked c (cooked r)
piece_by b d s r c xs ts e =
    piece_is b d s r c xs ts
    ∙ (told (is_leaf xs ts) (same_flag d b) (same_text r s) (same_cooked c (cooked s)) e
    ∙ ap (λ t. same_cooked c (cooked t)) (sym (same_is r s (third_true (is_leaf xs ts) (same_flag d b) (same_text r s) e))))

pub no_piece : (b d : Bool) (s r : List ℕ) (c : Option (List ℕ)) (xs : List Name) (ts : Trees) → (is_leaf xs ts && (same_flag d b && same_text r s)) ≡ false → is_silent (PieceOf b s) (shape.TemplateElement d r c) xs ts ≡ false
no_piece b d s r c xs ts e = piece_is b d s r c xs ts ∙ untold (is_leaf xs ts) (same_flag d b) (same_text r s) (same_cooked c (cooked s)) e

pub parameter_by : (s : List ℕ) (t : Tree) → is_silent (ParameterOf s) (shape_of t) (names_of t) (children t) ≡ is_that_text s (only_name t)
parameter_by s (node shape.Listed [] n none) = refl
parameter_by s (node shape.Listed [] n (node shape.BindingIdentifier [] m us ▸ none)) = refl
parameter_by s (node shape.Listed [] n (node shape.BindingIdentifier (x ∷ []) m none ▸ none)) = refl
parameter_by s (node shape.Listed [] n (node shape.BindingIdentifier (x ∷ []) m (u ▸ us) ▸ none)) = refl
parameter_by s (node shape.Listed [] n (node shape.BindingIdentifier (x ∷ y ∷ xs) m us ▸ none)) = refl
parameter_by s (node shape.Listed [] n (node h xs m us ▸ none)) = refl
parameter_by s (node shape.Listed [] n (node shape.BindingIdentifier [] m us ▸ v ▸ vs)) = refl
parameter_by s (node shape.Listed [] n (node shape.BindingIdentifier (x ∷ []) m none ▸ v ▸ vs)) = refl
parameter_by s (node shape.Listed [] n (node shape.BindingIdentifier (x ∷ []) m (u ▸ us) ▸ v ▸ vs)) = refl
parameter_by s (node shape.Listed [] n (node shape.BindingIdentifier (x ∷ y ∷ xs) m us ▸ v ▸ vs)) = refl
parameter_by s (node shape.Listed [] n (node h xs m us ▸ v ▸ vs)) = refl
parameter_by s (node shape.Listed (x ∷ xs) n ts) = refl
parameter_by s (node h xs n ts) = refl
