-- An expression declares nothing for what stands around it, by its root's shape alone.
use Rattle.std.specs.Prelude.{ℕ, zero, suc, ◌≡◌, refl, ◌&&◌, not, Bool, true, false, List, [], ◌++◌, if◌then◌else◌}
use Rattle.std.proofs.Common.{ap, ◌∙◌}
use Rattle.std.proofs.lemmas.Bool.{false≢true}
use Rattle.mini_model.specs.declared.name.SymbolId.{SymbolId}
use Rattle.mini_model.specs.declared.operator.AssignmentOperator.{AssignmentOperator}
use Rattle.mini_model.specs.declared.operator.AssignmentOperator.TheVariants.{Assign}
use Rattle.mini_model.specs.declared.shape.Shape.{Shape}
use Rattle.mini_model.specs.declared.shape.Shape.TheVariants as shape
use Rattle.mini_model.specs.Tree.{Tree, Trees, node, none, ◌▸◌, shape_of}
use Rattle.mini_accept.specs.WellShaped.{fits}
use Rattle.std.specs.Prelude.{Option}
use Rattle.mini_laws.specs.declared.names.Use.{Use}
use Rattle.mini_laws.specs.declared.names.Use.TheVariants.{Read}
use Rattle.mini_laws.specs.declared.names.Binding.{Binding}
use Rattle.mini_laws.specs.declared.names.Declared.{Declared}
use Rattle.mini_laws.specs.declared.names.Declared.TheVariants as declared
use Rattle.mini_laws.specs.declared.names.Place.TheVariants as place
use Rattle.mini_laws.specs.DeclaredNames.{place_of, names_by, names_of, first_names, all_names, is_statement_list, body_names, all_body_names}
use Rattle.mini_laws.specs.Scopes.{use_of, opening_of, opened, scopes_by, at_or_empty}
use Rattle.mini_laws.specs.Symbols.{symbols_in, declared as declared_in, declared_from}
use Rattle.mini_laws.specs.Early.{Path, choose_by, own_declarations, declarations, first_declarations, all_declarations, is_function_shape, holds_statements, body_declarations, all_body_declarations, is_loop, is_labeled, is_loop_shape, last_is_loop}
use Rattle.mini_kept.proofs.Expressions.{expression, refused_here}

-- the shapes that declare, hold statements or hand on how they are used
abbrev pub is_quiet : Shape → Bool
is_quiet shape.Listed = false
is_quiet shape.BlockStatement = false
is_quiet shape.LabeledStatement = false
is_quiet shape.IfStatement = false
is_quiet shape.SwitchStatement = false
is_quiet shape.SwitchCase = false
is_quiet shape.TryStatement = false
is_quiet shape.CatchClause = false
is_quiet shape.WhileStatement = false
is_quiet shape.DoWhileStatement = false
is_quiet shape.ForStatement = false
is_quiet shape.ForInStatement = false
is_quiet shape.ForOfStatement = false
is_quiet (shape.VariableDeclaration k) = false
is_quiet shape.VariableDeclarator = false
is_quiet (shape.Function true g ds) = false
is_quiet (shape.Class true) = false
is_quiet shape.FunctionBody = false
is_quiet shape.ImportDeclaration = false
is_quiet shape.ImportSpecifier = false
is_quiet shape.ImportDefaultSpecifier = false
is_quiet shape.ImportNamespaceSpecifier = false
is_quiet shape.ExportNamedDeclaration = false
is_quiet shape.ExportDefaultDeclaration = false
is_quiet shape.BindingIdentifier = false
is_quiet shape.ObjectPattern = false
is_quiet shape.ArrayPattern = false
is_quiet (shape.BindingProperty shorthand computed) = false
is_quiet shape.RestElement = false
is_quiet shape.AssignmentPattern = false
is_quiet shape.ObjectAssignmentTarget = false
is_quiet shape.ArrayAssignmentTarget = false
is_quiet shape.AssignmentTargetPropertyIdentifier = false
is_quiet (shape.AssignmentTargetPropertyProperty computed) = false
is_quiet h = true

abbrev pub IsQuiet : Tree → Type 0
IsQuiet t = is_quiet (shape_of t) ≡ true

pub expression_is_quiet : (strict : Bool) (t : Tree) → fits strict expression t ≡ true → IsQuiet t
expression_is_quiet strict (node shape.Listed xs n ts) e = absurd (refused_here strict expression shape.Listed xs n ts refl e)
expression_is_quiet strict (node shape.BlockStatement xs n ts) e = absurd (refused_here strict expression shape.BlockStatement xs n ts refl e)
expression_is_quiet strict (node shape.LabeledStatement xs n ts) e = absurd (refused_here strict expression shape.LabeledStatement xs n ts refl e)
expression_is_quiet strict (node shape.IfStatement xs n ts) e = absurd (refused_here strict expression shape.IfStatement xs n ts refl e)
expression_is_quiet strict (node shape.SwitchStatement xs n ts) e = absurd (refused_here strict expression shape.SwitchStatement xs n ts refl e)
expression_is_quiet strict (node shape.SwitchCase xs n ts) e = absurd (refused_here strict expression shape.SwitchCase xs n ts refl e)
expression_is_quiet strict (node shape.TryStatement xs n ts) e = absurd (refused_here strict expression shape.TryStatement xs n ts refl e)
expression_is_quiet strict (node shape.CatchClause xs n ts) e = absurd (refused_here strict expression shape.CatchClause xs n ts refl e)
expression_is_quiet strict (node shape.WhileStatement xs n ts) e = absurd (refused_here strict expression shape.WhileStatement xs n ts refl e)
expression_is_quiet strict (node shape.DoWhileStatement xs n ts) e = absurd (refused_here strict expression shape.DoWhileStatement xs n ts refl e)
expression_is_quiet strict (node shape.ForStatement xs n ts) e = absurd (refused_here strict expression shape.ForStatement xs n ts refl e)
expression_is_quiet strict (node shape.ForInStatement xs n ts) e = absurd (refused_here strict expression shape.ForInStatement xs n ts refl e)
expression_is_quiet strict (node shape.ForOfStatement xs n ts) e = absurd (refused_here strict expression shape.ForOfStatement xs n ts refl e)
expression_is_quiet strict (node (shape.VariableDeclaration k) xs n ts) e = absurd (refused_here strict expression (shape.VariableDeclaration k) xs n ts refl e)
expression_is_quiet strict (node shape.VariableDeclarator xs n ts) e = absurd (refused_here strict expression shape.VariableDeclarator xs n ts refl e)
expression_is_quiet strict (node (shape.Function true g ds) xs n ts) e = absurd (refused_here strict expression (shape.Function true g ds) xs n ts refl e)
expression_is_quiet strict (node (shape.Class true) xs n ts) e = absurd (refused_here strict expression (shape.Class true) xs n ts refl e)
expression_is_quiet strict (node shape.FunctionBody xs n ts) e = absurd (refused_here strict expression shape.FunctionBody xs n ts refl e)
expression_is_quiet strict (node shape.ImportDeclaration xs n ts) e = absurd (refused_here strict expression shape.ImportDeclaration xs n ts refl e)
expression_is_quiet strict (node shape.ImportSpecifier xs n ts) e = absurd (refused_here strict expression shape.ImportSpecifier xs n ts refl e)
expression_is_quiet strict (node shape.ImportDefaultSpecifier xs n ts) e = absurd (refused_here strict expression shape.ImportDefaultSpecifier xs n ts refl e)
expression_is_quiet strict (node shape.ImportNamespaceSpecifier xs n ts) e = absurd (refused_here strict expression shape.ImportNamespaceSpecifier xs n ts refl e)
expression_is_quiet strict (node shape.ExportNamedDeclaration xs n ts) e = absurd (refused_here strict expression shape.ExportNamedDeclaration xs n ts refl e)
expression_is_quiet strict (node shape.ExportDefaultDeclaration xs n ts) e = absurd (refused_here strict expression shape.ExportDefaultDeclaration xs n ts refl e)
expression_is_quiet strict (node shape.BindingIdentifier xs n ts) e = absurd (refused_here strict expression shape.BindingIdentifier xs n ts refl e)
expression_is_quiet strict (node shape.ObjectPattern xs n ts) e = absurd (refused_here strict expression shape.ObjectPattern xs n ts refl e)
expression_is_quiet strict (node shape.ArrayPattern xs n ts) e = absurd (refused_here strict expression shape.ArrayPattern xs n ts refl e)
expression_is_quiet strict (node (shape.BindingProperty shorthand computed) xs n ts) e = absurd (refused_here strict expression (shape.BindingProperty shorthand computed) xs n ts refl e)
expression_is_quiet strict (node shape.RestElement xs n ts) e = absurd (refused_here strict expression shape.RestElement xs n ts refl e)
expression_is_quiet strict (node shape.AssignmentPattern xs n ts) e = absurd (refused_here strict expression shape.AssignmentPattern xs n ts refl e)
expression_is_quiet strict (node shape.ObjectAssignmentTarget xs n ts) e = absurd (refused_here strict expression shape.ObjectAssignmentTarget xs n ts refl e)
expression_is_quiet strict (node shape.ArrayAssignmentTarget xs n ts) e = absurd (refused_here strict expression shape.ArrayAssignmentTarget xs n ts refl e)
expression_is_quiet strict (node shape.AssignmentTargetPropertyIdentifier xs n ts) e = absurd (refused_here strict expression shape.AssignmentTargetPropertyIdentifier xs n ts refl e)
expression_is_quiet strict (node (shape.AssignmentTargetPropertyProperty computed) xs n ts) e = absurd (refused_here strict expression (shape.AssignmentTargetPropertyProperty computed) xs n ts refl e)
expression_is_quiet strict (node h xs n ts) e = refl

-- ---- names

bound_nowhere : (h : Shape) → is_quiet h ≡ true → place_of declared.Bound h ≡ place.Nowhere
bound_nowhere shape.Listed e = absurd (false≢true e)
bound_nowhere shape.BlockStatement e = absurd (false≢true e)
bound_nowhere shape.LabeledStatement e = absurd (false≢true e)
bound_nowhere shape.IfStatement e = absurd (false≢true e)
bound_nowhere shape.SwitchStatement e = absurd (false≢true e)
bound_nowhere shape.SwitchCase e = absurd (false≢true e)
bound_nowhere shape.TryStatement e = absurd (false≢true e)
bound_nowhere shape.CatchClause e = absurd (false≢true e)
bound_nowhere shape.WhileStatement e = absurd (false≢true e)
bound_nowhere shape.DoWhileStatement e = absurd (false≢true e)
bound_nowhere shape.ForStatement e = absurd (false≢true e)
bound_nowhere shape.ForInStatement e = absurd (false≢true e)
bound_nowhere shape.ForOfStatement e = absurd (false≢true e)
bound_nowhere (shape.VariableDeclaration k) e = absurd (false≢true e)
bound_nowhere shape.VariableDeclarator e = absurd (false≢true e)
bound_nowhere (shape.Function true g ds) e = absurd (false≢true e)
bound_nowhere (shape.Class true) e = absurd (false≢true e)
bound_nowhere shape.FunctionBody e = absurd (false≢true e)
bound_nowhere shape.ImportDeclaration e = absurd (false≢true e)
bound_nowhere shape.ImportSpecifier e = absurd (false≢true e)
bound_nowhere shape.ImportDefaultSpecifier e = absurd (false≢true e)
bound_nowhere shape.ImportNamespaceSpecifier e = absurd (false≢true e)
bound_nowhere shape.ExportNamedDeclaration e = absurd (false≢true e)
bound_nowhere shape.ExportDefaultDeclaration e = absurd (false≢true e)
bound_nowhere shape.BindingIdentifier e = absurd (false≢true e)
bound_nowhere shape.ObjectPattern e = absurd (false≢true e)
bound_nowhere shape.ArrayPattern e = absurd (false≢true e)
bound_nowhere (shape.BindingProperty shorthand computed) e = absurd (false≢true e)
bound_nowhere shape.RestElement e = absurd (false≢true e)
bound_nowhere shape.AssignmentPattern e = absurd (false≢true e)
bound_nowhere shape.ObjectAssignmentTarget e = absurd (false≢true e)
bound_nowhere shape.ArrayAssignmentTarget e = absurd (false≢true e)
bound_nowhere shape.AssignmentTargetPropertyIdentifier e = absurd (false≢true e)
bound_nowhere (shape.AssignmentTargetPropertyProperty computed) e = absurd (false≢true e)
bound_nowhere h e = refl

lexical_nowhere : (h : Shape) → is_quiet h ≡ true → place_of declared.Lexical h ≡ place.Nowhere
lexical_nowhere shape.Listed e = absurd (false≢true e)
lexical_nowhere shape.BlockStatement e = absurd (false≢true e)
lexical_nowhere shape.LabeledStatement e = absurd (false≢true e)
lexical_nowhere shape.IfStatement e = absurd (false≢true e)
lexical_nowhere shape.SwitchStatement e = absurd (false≢true e)
lexical_nowhere shape.SwitchCase e = absurd (false≢true e)
lexical_nowhere shape.TryStatement e = absurd (false≢true e)
lexical_nowhere shape.CatchClause e = absurd (false≢true e)
lexical_nowhere shape.WhileStatement e = absurd (false≢true e)
lexical_nowhere shape.DoWhileStatement e = absurd (false≢true e)
lexical_nowhere shape.ForStatement e = absurd (false≢true e)
lexical_nowhere shape.ForInStatement e = absurd (false≢true e)
lexical_nowhere shape.ForOfStatement e = absurd (false≢true e)
lexical_nowhere (shape.VariableDeclaration k) e = absurd (false≢true e)
lexical_nowhere shape.VariableDeclarator e = absurd (false≢true e)
lexical_nowhere (shape.Function true g ds) e = absurd (false≢true e)
lexical_nowhere (shape.Class true) e = absurd (false≢true e)
lexical_nowhere shape.FunctionBody e = absurd (false≢true e)
lexical_nowhere shape.ImportDeclaration e = absurd (false≢true e)
lexical_nowhere shape.ImportSpecifier e = absurd (false≢true e)
lexical_nowhere shape.ImportDefaultSpecifier e = absurd (false≢true e)
lexical_nowhere shape.ImportNamespaceSpecifier e = absurd (false≢true e)
lexical_nowhere shape.ExportNamedDeclaration e = absurd (false≢true e)
lexical_nowhere shape.ExportDefaultDeclaration e = absurd (false≢true e)
lexical_nowhere shape.BindingIdentifier e = absurd (false≢true e)
lexical_nowhere shape.ObjectPattern e = absurd (false≢true e)
lexical_nowhere shape.ArrayPattern e = absurd (false≢true e)
lexical_nowhere (shape.BindingProperty shorthand computed) e = absurd (false≢true e)
lexical_nowhere shape.RestElement e = absurd (false≢true e)
lexical_nowhere shape.AssignmentPattern e = absurd (false≢true e)
lexical_nowhere shape.ObjectAssignmentTarget e = absurd (false≢true e)
lexical_nowhere shape.ArrayAssignmentTarget e = absurd (false≢true e)
lexical_nowhere shape.AssignmentTargetPropertyIdentifier e = absurd (false≢true e)
lexical_nowhere (shape.AssignmentTargetPropertyProperty computed) e = absurd (false≢true e)
lexical_nowhere (shape.Function false g ds) e = refl
lexical_nowhere (shape.Class false) e = refl
lexical_nowhere h e = refl

hoisted_nowhere : (h : Shape) → is_quiet h ≡ true → place_of declared.Hoisted h ≡ place.Nowhere
hoisted_nowhere shape.Listed e = absurd (false≢true e)
hoisted_nowhere shape.BlockStatement e = absurd (false≢true e)
hoisted_nowhere shape.LabeledStatement e = absurd (false≢true e)
hoisted_nowhere shape.IfStatement e = absurd (false≢true e)
hoisted_nowhere shape.SwitchStatement e = absurd (false≢true e)
hoisted_nowhere shape.SwitchCase e = absurd (false≢true e)
hoisted_nowhere shape.TryStatement e = absurd (false≢true e)
hoisted_nowhere shape.CatchClause e = absurd (false≢true e)
hoisted_nowhere shape.WhileStatement e = absurd (false≢true e)
hoisted_nowhere shape.DoWhileStatement e = absurd (false≢true e)
hoisted_nowhere shape.ForStatement e = absurd (false≢true e)
hoisted_nowhere shape.ForInStatement e = absurd (false≢true e)
hoisted_nowhere shape.ForOfStatement e = absurd (false≢true e)
hoisted_nowhere (shape.VariableDeclaration k) e = absurd (false≢true e)
hoisted_nowhere shape.VariableDeclarator e = absurd (false≢true e)
hoisted_nowhere (shape.Function true g ds) e = absurd (false≢true e)
hoisted_nowhere (shape.Class true) e = absurd (false≢true e)
hoisted_nowhere shape.FunctionBody e = absurd (false≢true e)
hoisted_nowhere shape.ImportDeclaration e = absurd (false≢true e)
hoisted_nowhere shape.ImportSpecifier e = absurd (false≢true e)
hoisted_nowhere shape.ImportDefaultSpecifier e = absurd (false≢true e)
hoisted_nowhere shape.ImportNamespaceSpecifier e = absurd (false≢true e)
hoisted_nowhere shape.ExportNamedDeclaration e = absurd (false≢true e)
hoisted_nowhere shape.ExportDefaultDeclaration e = absurd (false≢true e)
hoisted_nowhere shape.BindingIdentifier e = absurd (false≢true e)
hoisted_nowhere shape.ObjectPattern e = absurd (false≢true e)
hoisted_nowhere shape.ArrayPattern e = absurd (false≢true e)
hoisted_nowhere (shape.BindingProperty shorthand computed) e = absurd (false≢true e)
hoisted_nowhere shape.RestElement e = absurd (false≢true e)
hoisted_nowhere shape.AssignmentPattern e = absurd (false≢true e)
hoisted_nowhere shape.ObjectAssignmentTarget e = absurd (false≢true e)
hoisted_nowhere shape.ArrayAssignmentTarget e = absurd (false≢true e)
hoisted_nowhere shape.AssignmentTargetPropertyIdentifier e = absurd (false≢true e)
hoisted_nowhere (shape.AssignmentTargetPropertyProperty computed) e = absurd (false≢true e)
hoisted_nowhere h e = refl

nowhere : (d : Declared) (h : Shape) → is_quiet h ≡ true → place_of d h ≡ place.Nowhere
nowhere declared.Bound h e = bound_nowhere h e
nowhere declared.Lexical h e = lexical_nowhere h e
nowhere declared.Hoisted h e = hoisted_nowhere h e

pub no_names : (d : Declared) (t : Tree) → IsQuiet t → names_of d t ≡ []
unfolding names_of
no_names d (node h xs n ts) e = ap (λ k. names_by k xs (first_names ts) (all_names declared.Bound ts) (all_names d ts)) (nowhere d h e)

pub no_declarations : (d : Declared) (l : Bool) (q : Path) (t : Tree) → IsQuiet t → declarations d l q t ≡ []
unfolding declarations
no_declarations d l q (node h xs n ts) e = ap (λ k. choose_by k (own_declarations l q xs) (first_declarations l q ts) (all_declarations declared.Bound l q 0 ts) (all_declarations d l q 0 ts)) (nowhere d h e)

no_list : (h : Shape) → is_quiet h ≡ true → is_statement_list h ≡ false
no_list shape.Listed e = absurd (false≢true e)
no_list shape.FunctionBody e = absurd (false≢true e)
no_list shape.SwitchCase e = absurd (false≢true e)
no_list h e = refl

no_holder : (h : Shape) → is_quiet h ≡ true → holds_statements h ≡ false
no_holder shape.Listed e = absurd (false≢true e)
no_holder shape.FunctionBody e = absurd (false≢true e)
no_holder shape.SwitchCase e = absurd (false≢true e)
no_holder h e = refl

pub no_body_names : (t : Tree) → IsQuiet t → body_names t ≡ []
unfolding body_names
no_body_names (node h xs n ts) e =
    ap (λ b. if b then all_body_names ts else names_of declared.Lexical (node h xs n ts) ++ names_of declared.Hoisted (node h xs n ts)) (no_list h e)
    ∙ ap (λ r. r ++ names_of declared.Hoisted (node h xs n ts)) (no_names declared.Lexical (node h xs n ts) e) ∙ no_names declared.Hoisted (node h xs n ts) e

pub no_body_declarations : (b : Bool) (q : Path) (t : Tree) → IsQuiet t → body_declarations b q t ≡ []
unfolding body_declarations
no_body_declarations b q (node h xs n ts) e =
    let l = not (b && is_function_shape h) in
    ap (λ c. if c then all_body_declarations b q 0 ts else declarations declared.Lexical l q (node h xs n ts) ++ declarations declared.Hoisted false q (node h xs n ts)) (no_holder h e)
    ∙ ap (λ r. r ++ declarations declared.Hoisted false q (node h xs n ts)) (no_declarations declared.Lexical l q (node h xs n ts) e) ∙ no_declarations declared.Hoisted false q (node h xs n ts) e

no_label : (h : Shape) → is_quiet h ≡ true → is_labeled h ≡ false
no_label shape.LabeledStatement e = absurd (false≢true e)
no_label h e = refl

no_loop_shape : (h : Shape) → is_quiet h ≡ true → is_loop_shape h ≡ false
no_loop_shape shape.WhileStatement e = absurd (false≢true e)
no_loop_shape shape.DoWhileStatement e = absurd (false≢true e)
no_loop_shape shape.ForStatement e = absurd (false≢true e)
no_loop_shape shape.ForInStatement e = absurd (false≢true e)
no_loop_shape shape.ForOfStatement e = absurd (false≢true e)
no_loop_shape h e = refl

pub no_loop : (t : Tree) → IsQuiet t → is_loop t ≡ false
unfolding is_loop
no_loop (node h xs n ts) e = ap (λ b. if b then last_is_loop ts else is_loop_shape h) (no_label h e) ∙ no_loop_shape h e

-- ---- symbols: how it is used doesn't matter

same_opening : (u : Use) (h : Shape) → is_quiet h ≡ true → opening_of u h ≡ opening_of Read h
same_opening u (shape.VariableDeclaration k) e = absurd (false≢true e)
same_opening u (shape.Function true g ds) e = absurd (false≢true e)
same_opening u (shape.Function false g ds) e = refl
same_opening u (shape.Class true) e = absurd (false≢true e)
same_opening u (shape.Class false) e = refl
same_opening u h e = refl

first_target : (o : AssignmentOperator) (u : Use) → use_of (shape.AssignmentExpression o) u 0 ≡ use_of (shape.AssignmentExpression o) Read 0
first_target Assign u = refl
first_target o u = refl

other_target : (o : AssignmentOperator) (u : Use) (i : ℕ) → use_of (shape.AssignmentExpression o) u (suc i) ≡ use_of (shape.AssignmentExpression o) Read (suc i)
other_target Assign u i = refl
other_target o u i = refl

same_use : (u : Use) (h : Shape) (i : ℕ) → is_quiet h ≡ true → use_of h u i ≡ use_of h Read i
same_use u shape.Listed i e = absurd (false≢true e)
same_use u shape.BlockStatement i e = absurd (false≢true e)
same_use u shape.LabeledStatement i e = absurd (false≢true e)
same_use u shape.IfStatement i e = absurd (false≢true e)
same_use u shape.SwitchStatement i e = absurd (false≢true e)
same_use u shape.SwitchCase i e = absurd (false≢true e)
same_use u shape.TryStatement i e = absurd (false≢true e)
same_use u shape.CatchClause i e = absurd (false≢true e)
same_use u shape.WhileStatement i e = absurd (false≢true e)
same_use u shape.DoWhileStatement i e = absurd (false≢true e)
same_use u shape.ForStatement i e = absurd (false≢true e)
same_use u shape.ForInStatement i e = absurd (false≢true e)
same_use u shape.ForOfStatement i e = absurd (false≢true e)
same_use u (shape.VariableDeclaration k) i e = absurd (false≢true e)
same_use u shape.VariableDeclarator i e = absurd (false≢true e)
same_use u (shape.Function true g ds) i e = absurd (false≢true e)
same_use u (shape.Class true) i e = absurd (false≢true e)
same_use u shape.FunctionBody i e = absurd (false≢true e)
same_use u shape.ImportDeclaration i e = absurd (false≢true e)
same_use u shape.ImportSpecifier i e = absurd (false≢true e)
same_use u shape.ImportDefaultSpecifier i e = absurd (false≢true e)
same_use u shape.ImportNamespaceSpecifier i e = absurd (false≢true e)
same_use u shape.ExportNamedDeclaration i e = absurd (false≢true e)
same_use u shape.ExportDefaultDeclaration i e = absurd (false≢true e)
same_use u shape.BindingIdentifier i e = absurd (false≢true e)
same_use u shape.ObjectPattern i e = absurd (false≢true e)
same_use u shape.ArrayPattern i e = absurd (false≢true e)
same_use u (shape.BindingProperty shorthand computed) i e = absurd (false≢true e)
same_use u shape.RestElement i e = absurd (false≢true e)
same_use u shape.AssignmentPattern i e = absurd (false≢true e)
same_use u shape.ObjectAssignmentTarget i e = absurd (false≢true e)
same_use u shape.ArrayAssignmentTarget i e = absurd (false≢true e)
same_use u shape.AssignmentTargetPropertyIdentifier i e = absurd (false≢true e)
same_use u (shape.AssignmentTargetPropertyProperty computed) i e = absurd (false≢true e)
same_use u (shape.AssignmentExpression o) zero e = first_target o u
same_use u (shape.AssignmentExpression o) (suc i) e = other_target o u i
same_use u h i e = refl

same_from : (sc sc' : ℕ → List Binding) (us us' : ℕ → Use) → ((j : ℕ) → sc' j ≡ sc j) → ((j : ℕ) → us' j ≡ us j) → (i : ℕ) (ts : Trees) → declared_from sc' us' i ts ≡ declared_from sc us i ts
unfolding declared_in
same_from sc sc' us us' e f i none = refl
same_from sc sc' us us' e f i (t ▸ ts) =
    let all = λ (bs : List Binding) (v : Use) (r : List (Option SymbolId)). symbols_in bs ++ (declared_in v t ++ r) in
    ap (λ bs. all bs (us' i) (declared_from sc' us' (suc i) ts)) (e i) ∙ ap (λ v. all (sc i) v (declared_from sc' us' (suc i) ts)) (f i) ∙ ap (all (sc i) (us i)) (same_from sc sc' us us' e f (suc i) ts)

pub same_symbols : (u : Use) (t : Tree) → IsQuiet t → declared_in u t ≡ declared_in Read t
unfolding declared_in
same_symbols u (node h xs n ts) e = same_from (opened Read h ts) (opened u h ts) (use_of h Read) (use_of h u) (λ j. ap (λ o. at_or_empty (scopes_by o ts) j) (same_opening u h e)) (λ j. same_use u h j e) 0 ts
