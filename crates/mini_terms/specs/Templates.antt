-- Templates, and the text of one all of whose parts have a value.
use Rattle.std.specs.Prelude.{ℕ, Bool, true, false, ◌&&◌, List, [], ◌++◌, Option, Some, None}
use Rattle.mini_model.specs.declared.shape.Shape.{Shape}
use Rattle.mini_model.specs.declared.shape.Shape.TheVariants as shape
use Rattle.mini_model.specs.Tree.{Tree, Trees, node, none, ◌▸◌, listed, children, shape_of}
use Rattle.mini_node.specs.Children.{part, is_bare}
use Rattle.mini_node.specs.Kinds.{is_listed}
use Rattle.mini_laws.specs.Value.{Value, String}
use Rattle.mini_terms.specs.Const.{text_of}

-- of these pieces of text, with the parts between them
abbrev pub template : Trees → Trees → Tree
template texts parts = node shape.TemplateLiteral [] 0 (listed texts ▸ (listed parts ▸ none))

abbrev pub is_template_shape : Shape → Bool
is_template_shape shape.TemplateLiteral = true
is_template_shape h = false

abbrev pub is_template : Tree → Bool
is_template t = is_template_shape (shape_of t) && (is_bare t 2 && (is_listed (part t 0) && is_listed (part t 1)))

-- what a piece cooks to
abbrev pub cooked_in : Shape → Option (List ℕ)
cooked_in (shape.TemplateElement is_tail raw cooked) = cooked
cooked_in h = None

abbrev pub joined_text : Option (List ℕ) → Option (List ℕ) → Option (List ℕ)
joined_text (Some s) (Some t) = Some (s ++ t)
joined_text _ _ = None

-- of a last piece, behind which nothing stands
abbrev pub last_text : Trees → Option (List ℕ) → Option (List ℕ)
last_text none o = o
last_text (t ▸ ts) o = None

-- of pieces with the values of the parts between them (ECMA-262, "Template Literals", evaluation)
abbrev pub text_between : (Tree → Option Value) → Trees → Trees → Option (List ℕ)
text_between f none ts = None
text_between f (p ▸ ps) none = last_text ps (cooked_in (shape_of p))
text_between f (p ▸ ps) (t ▸ ts) = joined_text (cooked_in (shape_of p)) (joined_text (text_of (f t)) (text_between f ps ts))

abbrev pub text_value : Option (List ℕ) → Option Value
text_value (Some s) = Some (String s)
text_value None = None

abbrev pub template_value : (Tree → Option Value) → Tree → Option Value
template_value f t = text_value (text_between f (children (part t 0)) (children (part t 1)))
