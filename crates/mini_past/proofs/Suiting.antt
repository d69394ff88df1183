-- Which declarations may lose names: where a list stands outside of the statements, these are `var`s alone.
use Rattle.std.proofs.Common.{◌≡◌, Bool, true, false, refl, sym, ap, ◌∙◌}
use Rattle.std.specs.Prelude.{not, if◌then◌else◌}
use Rattle.std.proofs.lemmas.Bool.{and_parts}
use Rattle.mini_model.specs.declared.kind.VariableDeclarationKind.{VariableDeclarationKind}
use Rattle.mini_model.specs.Tree.{Tree, Trees, shape_of}
use Rattle.mini_laws.specs.Naming.{is_lexical}
use Rattle.mini_node.specs.Kinds.{is_listed_shape}
use Rattle.mini_rows.specs.Lists.{declaration}
use Rattle.mini_unused.specs.RemoveUnusedDeclaration.{declares_list, is_lexical_shape, is_var, may_declare}

abbrev pub suits_kind : Tree → VariableDeclarationKind → Bool
suits_kind o k = if is_listed_shape (shape_of o) then not (is_lexical k) else true

pub kind_told : (o t : Tree) (k : VariableDeclarationKind) (ds : Trees) → t ≡ declaration k ds → may_declare o t ≡ true → suits_kind o k ≡ true
kind_told o t k ds f e = by (is_listed_shape (shape_of o)) e
  where
    by : (b : Bool) → (if b then is_var t else declares_list t) ≡ true → (if b then not (is_lexical k) else true) ≡ true
    by true e = sym (ap (λ c. not (is_lexical_shape (shape_of c))) f) ∙ (and_parts (declares_list t) (not (is_lexical_shape (shape_of t))) e).1
    by false e = refl

pub may_go : (o : Tree) (k : VariableDeclarationKind) (ds : Trees) → suits_kind o k ≡ true → may_declare o (declaration k ds) ≡ true
may_go o k ds e = by (is_listed_shape (shape_of o)) e
  where
    by : (b : Bool) → (if b then not (is_lexical k) else true) ≡ true → (if b then is_var (declaration k ds) else declares_list (declaration k ds)) ≡ true
    by true e = e
    by false e = refl
