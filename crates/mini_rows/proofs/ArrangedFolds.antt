-- What statements declare around them, by those in them.
use Rattle.std.specs.Prelude.{◌≡◌, refl, Bool, true, false, ◌&&◌, not, List, [], ◌∷◌, ◌++◌, if◌then◌else◌}
use Rattle.std.proofs.Common.{ap, ◌∙◌, sym}
use Rattle.mini_model.specs.declared.kind.VariableDeclarationKind.{VariableDeclarationKind}
use Rattle.mini_model.specs.declared.kind.VariableDeclarationKind.TheVariants.{Var}
use Rattle.mini_model.specs.declared.name.Name.{Name}
use Rattle.mini_model.specs.declared.shape.Shape.{Shape}
use Rattle.mini_model.specs.declared.shape.Shape.TheVariants as shape
use Rattle.mini_model.specs.Tree.{Tree, Trees, node, none, ◌▸◌, shape_of, children}
use Rattle.mini_laws.specs.declared.names.Declaration.{Declaration}
use Rattle.mini_laws.specs.declared.names.Declared.{Declared}
use Rattle.mini_laws.specs.declared.names.Declared.TheVariants as declared
use Rattle.mini_laws.specs.declared.names.Place.TheVariants as place
use Rattle.mini_laws.specs.DeclaredNames.{place_of, names_by, names_of, all_names, first_names, is_statement_list, body_names, all_body_names}
use Rattle.mini_laws.specs.Early.{own_declarations, is_function_shape}
use Rattle.mini_kept.specs.Frames.{is_port, own, ports as ports_of}
use Rattle.mini_kept.proofs.Quiet.{is_quiet, no_names}
use Rattle.mini_kept.proofs.Bools.{left}
use Rattle.mini_kept.proofs.Unplaced.{as_statement, as_body, all_as_body, own_both}
use Rattle.mini_rows.specs.Lists.{is_unscoped_shape, is_unscoped}
use Rattle.mini_rows.specs.Sketches.{Head, Empty, OfExpression, Throw, Return, If, Block, shape_by, is_statement_head}
use Rattle.mini_rows.proofs.ArrangedValues.{is_no_inner, is_value}
use Rattle.mini_rows.proofs.ArrangedPlain.{no_lexical, no_holder}
use Rattle.mini_rows.proofs.ArrangedGather.{concat, concat_nothing, Fold}

all_are : (d : Declared) (ts : Trees) → all_names d ts ≡ concat (names_of d) ts
unfolding names_of
all_are d none = refl
all_are d (t ▸ ts) = ap (λ r. names_of d t ++ r) (all_are d ts)

hoisted_value : (t : Tree) → is_value (shape_of t) ≡ true → names_of declared.Hoisted t ≡ []
hoisted_value t e = no_names declared.Hoisted t (left (is_quiet (shape_of t)) (is_no_inner (shape_of t)) e)

-- ---- bound names and lexical ones: those of the list itself

bound_variables : (k : VariableDeclarationKind) → is_unscoped_shape (shape.VariableDeclaration k) ≡ true → place_of declared.Bound (shape.VariableDeclaration k) ≡ place.Nowhere
bound_variables Var e = refl
bound_variables k e = absurd (cc e)

bound_nowhere : (h : Shape) → is_unscoped_shape h ≡ true → place_of declared.Bound h ≡ place.Nowhere
bound_nowhere shape.ExpressionStatement e = refl
bound_nowhere shape.EmptyStatement e = refl
bound_nowhere shape.DebuggerStatement e = refl
bound_nowhere shape.BlockStatement e = refl
bound_nowhere shape.LabeledStatement e = refl
bound_nowhere shape.BreakStatement e = refl
bound_nowhere shape.ContinueStatement e = refl
bound_nowhere shape.ReturnStatement e = refl
bound_nowhere shape.ThrowStatement e = refl
bound_nowhere shape.IfStatement e = refl
bound_nowhere shape.SwitchStatement e = refl
bound_nowhere shape.TryStatement e = refl
bound_nowhere shape.WhileStatement e = refl
bound_nowhere shape.DoWhileStatement e = refl
bound_nowhere shape.ForStatement e = refl
bound_nowhere shape.ForInStatement e = refl
bound_nowhere shape.ForOfStatement e = refl
bound_nowhere (shape.VariableDeclaration k) e = bound_variables k e
bound_nowhere h e = absurd (cc e)

no_bound : (t : Tree) → is_unscoped t ≡ true → names_of declared.Bound t ≡ []
unfolding names_of
no_bound (node h xs n ts) e = ap (λ p. names_by p xs (first_names ts) (all_names declared.Bound ts) (all_names declared.Bound ts)) (bound_nowhere h e)

direct_bound : (h : Head) (ts : Trees) → is_statement_head h ≡ true → names_of declared.Bound (node (shape_by h) [] 0 ts) ≡ []
unfolding names_of
direct_bound Empty ts e = refl
direct_bound OfExpression ts e = refl
direct_bound Throw ts e = refl
direct_bound Return ts e = refl
direct_bound If ts e = refl
direct_bound Block ts e = refl
direct_bound h ts e = absurd (cc e)

direct_lexical : (h : Head) (ts : Trees) → is_statement_head h ≡ true → names_of declared.Lexical (node (shape_by h) [] 0 ts) ≡ []
unfolding names_of
direct_lexical Empty ts e = refl
direct_lexical OfExpression ts e = refl
direct_lexical Throw ts e = refl
direct_lexical Return ts e = refl
direct_lexical If ts e = refl
direct_lexical Block ts e = refl
direct_lexical h ts e = absurd (cc e)

pub bound_fold : Fold Name (names_of declared.Bound) (names_of declared.Bound) (λ t. [])
unfolding names_of
bound_fold = record {
  whole = all_are declared.Bound;
  hoisted = λ ts. sym (concat_nothing ts);
  direct = direct_bound;
  of_if = λ ts. sym (concat_nothing ts);
  of_block = λ ts. sym (concat_nothing ts);
  of_empty = λ ts. refl;
  of_expression = λ ts. refl;
  of_throw = λ ts. refl;
  of_return = λ ts. refl;
  of_value = λ t e. refl;
  of_moved = no_bound;
}

pub lexical_fold : Fold Name (names_of declared.Lexical) (names_of declared.Lexical) (λ t. [])
unfolding names_of
lexical_fold = record {
  whole = all_are declared.Lexical;
  hoisted = λ ts. sym (concat_nothing ts);
  direct = direct_lexical;
  of_if = λ ts. sym (concat_nothing ts);
  of_block = λ ts. sym (concat_nothing ts);
  of_empty = λ ts. refl;
  of_expression = λ ts. refl;
  of_throw = λ ts. refl;
  of_return = λ ts. refl;
  of_value = λ t e. refl;
  of_moved = no_lexical;
}

-- ---- hoisted names

pub hoisted_fold : Fold Name (names_of declared.Hoisted) (names_of declared.Hoisted) (names_of declared.Hoisted)
unfolding names_of
hoisted_fold = record {
  whole = all_are declared.Hoisted;
  hoisted = all_are declared.Hoisted;
  direct = λ h ts e. refl;
  of_if = all_are declared.Hoisted;
  of_block = all_are declared.Hoisted;
  of_empty = λ ts. refl;
  of_expression = λ ts. refl;
  of_throw = λ ts. refl;
  of_return = λ ts. refl;
  of_value = hoisted_value;
  of_moved = λ t e. refl;
}

-- ---- the names of a body

all_bodies : (ts : Trees) → all_body_names ts ≡ concat body_names ts
unfolding body_names
all_bodies none = refl
all_bodies (t ▸ ts) = ap (λ r. body_names t ++ r) (all_bodies ts)

no_list : (h : Shape) → is_unscoped_shape h ≡ true → is_statement_list h ≡ false
no_list shape.Listed e = absurd (cc e)
no_list shape.FunctionBody e = absurd (cc e)
no_list h e = refl

body_moved : (t : Tree) → is_unscoped t ≡ true → body_names t ≡ names_of declared.Hoisted t
unfolding body_names
body_moved (node h xs n ts) e =
    let t = node h xs n ts in
    ap (λ b. if b then all_body_names ts else names_of declared.Lexical t ++ names_of declared.Hoisted t) (no_list h e) ∙ ap (λ r. r ++ names_of declared.Hoisted t) (no_lexical t e)

unscoped_head : (h : Head) (ts : Trees) → is_statement_head h ≡ true → is_unscoped (node (shape_by h) [] 0 ts) ≡ true
unscoped_head Empty ts e = refl
unscoped_head OfExpression ts e = refl
unscoped_head Throw ts e = refl
unscoped_head Return ts e = refl
unscoped_head If ts e = refl
unscoped_head Block ts e = refl
unscoped_head h ts e = absurd (cc e)

pub body_fold : Fold Name body_names body_names (names_of declared.Hoisted)
unfolding body_names
body_fold = record {
  whole = all_bodies;
  hoisted = hoisted_fold.hoisted;
  direct = λ h ts e. body_moved (node (shape_by h) [] 0 ts) (unscoped_head h ts e);
  of_if = hoisted_fold.of_if;
  of_block = hoisted_fold.of_block;
  of_empty = hoisted_fold.of_empty;
  of_expression = hoisted_fold.of_expression;
  of_throw = hoisted_fold.of_throw;
  of_return = hoisted_fold.of_return;
  of_value = hoisted_value;
  of_moved = body_moved;
}

-- ---- the declarations of a body

all_declared : (b : Bool) (ts : Trees) → all_as_body b ts ≡ concat (as_body b) ts
all_declared b none = refl
all_declared b (t ▸ ts) = ap (λ r. as_body b t ++ r) (all_declared b ts)

abbrev pub hoists : Tree → List Declaration
hoists t = own_declarations false [] (names_of declared.Hoisted t)

hoists_concat : (ts : Trees) → own_declarations false [] (concat (names_of declared.Hoisted) ts) ≡ concat hoists ts
hoists_concat none = refl
hoists_concat (t ▸ ts) = own_both false (names_of declared.Hoisted t) (concat (names_of declared.Hoisted) ts) ∙ ap (λ r. hoists t ++ r) (hoists_concat ts)

declared_moved : (b : Bool) (t : Tree) → is_unscoped t ≡ true → as_body b t ≡ hoists t
declared_moved b (node h xs n ts) e =
    let t = node h xs n ts in
    ap (λ c. if c then all_as_body b ts else as_statement b t) (no_holder h e) ∙ ap (λ r. own_declarations (not (b && is_function_shape h)) [] r ++ hoists t) (no_lexical t e)

pub declared_fold : (b : Bool) → Fold Declaration (as_body b) (as_body b) hoists
declared_fold b = record {
  whole = all_declared b;
  hoisted = λ ts. ap (own_declarations false []) (hoisted_fold.hoisted ts) ∙ hoists_concat ts;
  direct = λ h ts e. declared_moved b (node (shape_by h) [] 0 ts) (unscoped_head h ts e);
  of_if = λ ts. ap (own_declarations false []) (hoisted_fold.of_if ts) ∙ hoists_concat ts;
  of_block = λ ts. ap (own_declarations false []) (hoisted_fold.of_block ts) ∙ hoists_concat ts;
  of_empty = λ ts. ap (own_declarations false []) (hoisted_fold.of_empty ts);
  of_expression = λ ts. ap (own_declarations false []) (hoisted_fold.of_expression ts);
  of_throw = λ ts. ap (own_declarations false []) (hoisted_fold.of_throw ts);
  of_return = λ ts. ap (own_declarations false []) (hoisted_fold.of_return ts);
  of_value = λ t e. ap (own_declarations false []) (hoisted_value t e);
  of_moved = declared_moved b;
}

-- ---- imports, exports and functions

abbrev as_list : Trees → List Tree
as_list none = []
as_list (t ▸ ts) = t ∷ as_list ts

abbrev of_list : List Tree → Trees
of_list [] = none
of_list (t ∷ ts) = t ▸ of_list ts

listed_again : (ts : Trees) → of_list (as_list ts) ≡ ts
listed_again none = refl
listed_again (t ▸ ts) = ap (λ r. t ▸ r) (listed_again ts)

pub same_trees : (ts us : Trees) → as_list ts ≡ as_list us → ts ≡ us
same_trees ts us e = sym (listed_again ts) ∙ ap of_list e ∙ listed_again us

abbrev pub port : Bool → Tree → List Tree
port m t = if is_port m (shape_of t) then own t ∷ [] else []

abbrev pub ports_in : Bool → Tree → List Tree
ports_in m t = as_list (ports_of m (children t))

all_ports : (m : Bool) (ts : Trees) → as_list (ports_of m ts) ≡ concat (port m) ts
all_ports m none = refl
all_ports m (t ▸ ts) = by (is_port m (shape_of t)) (all_ports m ts)
  where
    by : (b : Bool) → as_list (ports_of m ts) ≡ concat (port m) ts → as_list (if b then own t ▸ ports_of m ts else ports_of m ts) ≡ (if b then own t ∷ [] else []) ++ concat (port m) ts
    by true e = ap (λ r. own t ∷ r) e
    by false e = e

no_port : (m : Bool) (h : Shape) → is_unscoped_shape h ≡ true → is_port m h ≡ false
no_port m (shape.Function d g ds) e = absurd (cc e)
no_port m shape.ImportDeclaration e = absurd (cc e)
no_port m shape.ExportNamedDeclaration e = absurd (cc e)
no_port m shape.ExportDefaultDeclaration e = absurd (cc e)
no_port m shape.ExportAllDeclaration e = absurd (cc e)
no_port m h e = refl

port_moved : (m : Bool) (t : Tree) → is_unscoped t ≡ true → port m t ≡ []
port_moved m (node h xs n ts) e = ap (λ b. if b then own (node h xs n ts) ∷ [] else []) (no_port m h e)

pub ports_fold : (m : Bool) → Fold Tree (ports_in m) (port m) (λ t. [])
ports_fold m = record {
  whole = all_ports m;
  hoisted = λ ts. sym (concat_nothing ts);
  direct = λ h ts e. port_moved m (node (shape_by h) [] 0 ts) (unscoped_head h ts e);
  of_if = λ ts. sym (concat_nothing ts);
  of_block = λ ts. sym (concat_nothing ts);
  of_empty = λ ts. refl;
  of_expression = λ ts. refl;
  of_throw = λ ts. refl;
  of_return = λ ts. refl;
  of_value = λ t e. refl;
  of_moved = port_moved m;
}
