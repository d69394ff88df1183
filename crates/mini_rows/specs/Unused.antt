-- Rows of names that nothing mentions: each is a shape and what is written in its place, with the
-- JavaScript before and after. W has the variables that the program mentions and that can be
-- written in it, and what the options let happen.
use Rattle.std.specs.Prelude.{◌≡◌, ◌<◌, ◌⊎◌, ◌||◌, ◌&&◌, not, ℕ, zero, suc, Bool, true, false, List, [], ◌∷◌, if◌then◌else◌}
use Rattle.mini_model.specs.declared.kind.PropertyKind.TheVariants.{Init}
use Rattle.mini_model.specs.declared.kind.VariableDeclarationKind.{VariableDeclarationKind}
use Rattle.mini_model.specs.declared.name.Name.{Name}
use Rattle.mini_model.specs.declared.operator.AssignmentOperator.{AssignmentOperator}
use Rattle.mini_model.specs.declared.operator.AssignmentOperator.TheVariants.{Assign}
use Rattle.mini_model.specs.declared.operator.UnaryOperator.TheVariants.{LogicalNot, UnaryPlus, UnaryNegation, BitwiseNot, Typeof, Void}
use Rattle.mini_model.specs.declared.place.Position.{Position}
use Rattle.mini_model.specs.declared.place.Position.TheVariants.{Expr, Stmt, Method, Elsewhere}
use Rattle.mini_model.specs.declared.shape.Shape.{Shape}
use Rattle.mini_model.specs.declared.shape.Shape.TheVariants as shape
use Rattle.mini_model.specs.Tree.{Tree, Trees, node, none, ◌▸◌, absent, listed, shape_of, children, program, empty_statement, expression_statement}
use Rattle.mini_model.specs.Paths.{append}
use Rattle.mini_model.specs.Weight.{same_text, weight}
use Rattle.mini_laws.specs.Naming.{is_lexical}
use Rattle.mini_laws.specs.ScopeList.{is_eval, is_eval_callee, has_eval}
use Rattle.mini_laws.specs.Symbols.{is_same}
use Rattle.mini_laws.specs.Value.{Declared, VariableSet}
use Rattle.mini_laws.specs.Weights.{Lightens}
use Rattle.mini_kept.specs.Loosely.{LawfulWith}
use Rattle.mini_node.specs.Children.{names_of, part, is_bare, is_nameless, rest_children}
use Rattle.mini_node.specs.Kinds.{is_absent_part, is_listed, is_listed_shape, is_identifier}
use Rattle.mini_terms.specs.Folds.{is_effect_free}
use Rattle.mini_terms.specs.Kind.{is_primitive, kind as kind_of}
use Rattle.mini_terms.specs.Parts.{leaves_nothing}
use Rattle.mini_terms.specs.Reading.{is_item, is_plain_part, is_typed_by_value}
pub use Rattle.mini_rows.specs.declared.gathered.Gathered.{Gathered}
pub use Rattle.mini_rows.specs.declared.gathered.Gathered.TheVariants.{Values as OfValues, Entries as OfEntries, Texts as OfTexts}
use Rattle.mini_rows.specs.Cases.{switch_case}
use Rattle.mini_rows.specs.Lists.{block, switch, for_loop, declaration, declares_nothing, is_var_shape, is_bare_var}
pub use Rattle.mini_rows.specs.Lists.{resolved}
use Rattle.mini_rows.specs.Nesting.{fits_in}
use Rattle.mini_rows.specs.Declarations.{binding, declarator}
use Rattle.mini_rows.specs.Chains.{is_calm}
use Rattle.mini_rows.specs.ChainLinks.{is_lone_by}
use Rattle.mini_rows.specs.SpellKeys.{is_proto}
use Rattle.mini_rows.specs.Switches.{Switches, Liberties, without_vars}

-- whether one of these names has the symbol of this one, or its spelling
abbrev pub is_like_one : Name → List Name → Bool
is_like_one x [] = false
is_like_one x (y ∷ ys) = (same_text x.spelling y.spelling || is_same x.symbol y.symbol) || is_like_one x ys

-- whether such a name stands in a tree
abbrev mutual
  pub names : Name → Tree → Bool
  names x (node h xs n ts) = is_like_one x xs || any_names x ts

  pub any_names : Name → Trees → Bool
  any_names x none = false
  any_names x (t ▸ ts) = names x t || any_names x ts

-- `let a, x = r, b;`, where x stands among other declarators
abbrev pub declared_among : VariableDeclarationKind → Name → Trees → Tree → Trees → Tree
declared_among k x first init last = declaration k (append first (declarator (binding x) init ▸ last))

-- `let x = r;`, or `let x;`
abbrev pub declared_one : VariableDeclarationKind → Name → Tree → Tree
declared_one k x init = declared_among k x none init none

-- In a block a name that a `let` or a `const` declares, and that is mentioned nowhere else in it:
-- nothing else in the block has its spelling either, and no direct eval, which would see it, stands
-- there
pub record Alone (k : VariableDeclarationKind) (x : Name) (before first : Trees) (init : Tree) (last after : Trees) : Type 0 where
  pub earlier : any_names x before ≡ false
  pub declared_earlier : any_names x first ≡ false
  pub initial : names x init ≡ false
  pub declared_later : any_names x last ≡ false
  pub later : any_names x after ≡ false
  pub unseen : has_eval (block (append before (declared_among k x first init last ▸ after))) ≡ false

-- the declaration of a `let` or a `const` initialises it; that of a `var` writes it, which writes
-- where it can be written (ECMA-262, "PutValue")
abbrev pub lets_go : VariableSet → VariableDeclarationKind → ℕ → Bool
lets_go W kind k = is_lexical kind || W (Declared k)

-- 72: `{ let x = a(); b(); }` becomes `{ a(); b(); }`
pub record Row72 (W : Liberties) (n w : Tree) : Type 0 where
  pub before : Trees
  pub kind : VariableDeclarationKind
  pub spelling : List ℕ
  pub symbol : ℕ
  pub init : Tree
  pub after : Trees
  pub goes : lets_go W.writable kind symbol ≡ true
  -- an expression stands there
  pub present : declares_nothing init ≡ true
  pub unused : Alone kind (resolved spelling symbol) before none init none after
  pub shape : n ≡ block (append before (declared_one kind (resolved spelling symbol) init ▸ after))
  pub written : w ≡ block (append before (expression_statement init ▸ after))

-- an initializer that nothing misses: none, or an expression that has no effect and leaves nothing
-- behind
abbrev pub is_idle : Tree → Bool
is_idle init = is_absent_part init || (declares_nothing init && (is_effect_free init && leaves_nothing init))

-- what is left of such a declaration: `let y = b();`, or `;` where no declarator is
abbrev pub declared_left : VariableDeclarationKind → Trees → Tree
declared_left k none = empty_statement
declared_left k (d ▸ ds) = declaration k (d ▸ ds)

-- `{ let x, y = b(); c(y); }` becomes `{ let y = b(); c(y); }`, and `{ let x; b(); }` and
-- `{ const x = 1; b(); }` become `{ ; b(); }`
pub record Row72Idle (W : Liberties) (n w : Tree) : Type 0 where
  pub before : Trees
  pub kind : VariableDeclarationKind
  pub first : Trees
  pub spelling : List ℕ
  pub symbol : ℕ
  pub init : Tree
  pub last : Trees
  pub after : Trees
  pub goes : lets_go W.writable kind symbol ≡ true
  pub idle : is_idle init ≡ true
  pub unused : Alone kind (resolved spelling symbol) before first init last after
  pub shape : n ≡ block (append before (declared_among kind (resolved spelling symbol) first init last ▸ after))
  pub written : w ≡ block (append before (declared_left kind (append first last) ▸ after))

-- ---- a name that is read once, behind nothing but what may be evaluated after its initializer

abbrev pub is_childless : Tree → Bool
is_childless (node h ys n none) = true
is_childless t = false

-- `y.b` and `y[b]`
abbrev pub is_member_shape : Shape → Bool
is_member_shape (shape.StaticMemberExpression false) = true
is_member_shape (shape.ComputedMemberExpression false) = true
is_member_shape h = false

abbrev pub is_member : Tree → Bool
is_member t = is_member_shape (shape_of t) && is_bare t 2

-- what evaluates this part, its first one, before all else, and asks for its value, for what is
-- called, or for what `typeof` reads, or assigns to it: a member, whose object and key are
-- evaluated before all else. The name of a direct eval isn't such a part, and what a chain holds is
-- a link. Of a property it is a key in brackets
abbrev pub begins : Shape → Tree → Bool
begins (shape.UnaryExpression LogicalNot) t = true
begins (shape.UnaryExpression UnaryPlus) t = true
begins (shape.UnaryExpression UnaryNegation) t = true
begins (shape.UnaryExpression BitwiseNot) t = true
begins (shape.UnaryExpression Typeof) t = true
begins (shape.UnaryExpression Void) t = true
begins (shape.BinaryExpression o) t = true
begins (shape.LogicalExpression o) t = true
begins shape.ConditionalExpression t = true
begins shape.SequenceExpression t = true
begins (shape.CallExpression is_optional) t = not (is_eval_callee t)
begins shape.NewExpression t = true
begins shape.ArrayExpression t = true
begins shape.ObjectExpression t = true
begins shape.SpreadElement t = true
begins (shape.ObjectProperty Init false false true) t = true
begins (shape.YieldExpression is_delegate) t = true
begins (shape.StaticMemberExpression is_optional) t = true
begins (shape.ComputedMemberExpression is_optional) t = true
begins (shape.AssignmentExpression o) t = is_member t
begins (shape.UpdateExpression o is_prefix) t = is_member t
begins shape.ChainExpression t = not (is_childless t)
begins h t = false

-- what evaluates its first part, if that is evaluated at all, and then this one, and asks for the
-- value of this one alone
abbrev pub goes_on : Shape → Bool
goes_on (shape.BinaryExpression o) = true
goes_on (shape.CallExpression false) = true
goes_on shape.NewExpression = true
goes_on (shape.ComputedMemberExpression false) = true
goes_on shape.TemplateLiteral = true
goes_on h = false

-- what evaluates its first part, or what is assigned to, or a key, and then, if at all, this one,
-- and asks for the value of this one alone: a link with `?.` asks for it where its first part is
-- neither undefined nor null
abbrev pub may_go_on : Shape → Bool
may_go_on (shape.LogicalExpression o) = true
may_go_on shape.ConditionalExpression = true
may_go_on (shape.AssignmentExpression o) = true
may_go_on (shape.ObjectProperty Init false false is_computed) = true
may_go_on (shape.ObjectProperty Init false true false) = true
may_go_on (shape.CallExpression true) = true
may_go_on (shape.ComputedMemberExpression true) = true
may_go_on h = false

-- or it evaluates the third part
abbrev pub has_branches : Shape → Bool
has_branches shape.ConditionalExpression = true
has_branches h = false

-- so does it the one at the place
abbrev pub continues : ℕ → Shape → Bool
continues (suc zero) h = goes_on h || may_go_on h
continues (suc (suc zero)) h = has_branches h
continues i h = false

-- an expression, which evaluates this part, at the place, after those before it, if at all, or a
-- list of parts
abbrev pub leads : Bool → Shape → ℕ → Tree → Bool
leads true h i t = is_listed_shape h
leads false h zero t = begins h t
leads false h (suc i) t = continues (suc i) h

-- its first part is a list: the parts of a sequence, the elements of an array, or the properties of
-- an object
abbrev pub begins_list : Shape → Bool
begins_list shape.SequenceExpression = true
begins_list shape.ArrayExpression = true
begins_list shape.ObjectExpression = true
begins_list h = false

-- its second part is a list, of arguments, or of what stands between the texts of a template
abbrev pub has_arguments : Shape → Bool
has_arguments (shape.CallExpression is_optional) = true
has_arguments shape.NewExpression = true
has_arguments shape.TemplateLiteral = true
has_arguments h = false

-- so is the part at the place
abbrev pub holds_list : Shape → ℕ → Bool
holds_list h zero = begins_list h
holds_list h (suc i) = has_arguments h

abbrev pub has_symbol_of : Name → List Name → Bool
has_symbol_of x [] = false
has_symbol_of x (y ∷ ys) = is_same x.symbol y.symbol

-- it reads the variable
abbrev pub reads : Name → Tree → Bool
reads x t = is_identifier t && has_symbol_of x (names_of t)

-- a key that is a name, and not `__proto__`
abbrev pub is_own_key : Tree → Bool
is_own_key (node (shape.IdentifierName s) [] zero none) = not (is_proto s)
is_own_key t = false

-- `x`, as a property
abbrev pub is_short : Shape → Bool
is_short (shape.ObjectProperty Init false true false) = true
is_short h = false

-- a shorthand property can be written in full: its value is a name alone, and its key isn't
-- `__proto__`, by which `{ __proto__: a }` would set the prototype (ECMA-262, "__proto__ Property
-- Names in Object Initializers"). All else is in full
abbrev pub can_be_full : Tree → Bool
can_be_full t = not (is_short (shape_of t)) || (is_bare t 2 && (is_own_key (part t 0) && is_childless (part t 1)))

-- `x: a` of `x`
abbrev pub in_full : Shape → Shape
in_full h = if is_short h then shape.ObjectProperty Init false false false else h

-- no name and no number, and in full, or it can be
abbrev pub may_hold : Tree → Bool
may_hold t = is_nameless t && can_be_full t

-- an expression, or a list of parts, reads the variable after the parts that stand before, and
-- nothing else in it mentions the name
abbrev mutual
  pub is_first : Name → Bool → Tree → Bool
  is_first x in_list (node h ys n none) = not in_list && reads x (node h ys n none)
  is_first x in_list (node h ys n (t ▸ ts)) = may_hold (node h ys n (t ▸ ts)) && leads_to x in_list h 0 (t ▸ ts)

  -- of the parts from a place on, the one that mentions it
  pub leads_to : Name → Bool → Shape → ℕ → Trees → Bool
  leads_to x in_list h i none = false
  leads_to x in_list h i (t ▸ ts) = if names x t then (leads in_list h i t && (is_first x (holds_list h i) t && not (any_names x ts))) else leads_to x in_list h (suc i) ts

-- another tree in the place of what is read there: `{ x }` becomes `{ x: a() }`
abbrev mutual
  pub put_first : Name → Tree → Tree → Tree
  put_first x r (node h ys n none) = r
  put_first x r (node h ys n (t ▸ ts)) = node (in_full h) ys n (put_among x r (t ▸ ts))

  pub put_among : Name → Tree → Trees → Trees
  put_among x r none = none
  put_among x r (t ▸ ts) = if names x t then put_first x r t ▸ ts else t ▸ put_among x r ts

-- a number, a text, a boolean or null
abbrev pub is_written_value : Shape → Bool
is_written_value (shape.NumericLiteral n) = true
is_written_value (shape.StringLiteral s) = true
is_written_value (shape.BooleanLiteral b) = true
is_written_value shape.NullLiteral = true
is_written_value h = false

-- `!` and `void`
abbrev pub is_value_operator : Shape → Bool
is_value_operator (shape.UnaryExpression LogicalNot) = true
is_value_operator (shape.UnaryExpression Void) = true
is_value_operator h = false

-- the same value whenever it is evaluated: one of these, `!0` and `void 0` and their like
abbrev pub is_constant : Tree → Bool
is_constant (node h ys n (t ▸ none)) = is_written_value h || (is_value_operator h && is_written_value (shape_of t))
is_constant (node h ys n ts) = is_written_value h

-- it may be evaluated before r rather than after: one of both has the same value whenever it is
-- evaluated, or neither of them has an effect
abbrev pub passes : Tree → Tree → Bool
passes r t = is_constant r || (is_constant t || (is_effect_free r && (is_effect_free t && is_item t)))

-- `=`
abbrev pub is_plain_assignment : AssignmentOperator → Bool
is_plain_assignment Assign = true
is_plain_assignment o = false

-- a key that is written out
abbrev pub is_word : Shape → Bool
is_word (shape.IdentifierName s) = true
is_word (shape.StringLiteral s) = true
is_word (shape.NumericLiteral n) = true
is_word h = false

-- so may the key of a member
abbrev pub passes_word : Tree → Tree → Bool
passes_word r t = is_word (shape_of t) || passes r t

-- so may a member that `=` assigns to: before the right side its object and its key are evaluated,
-- and no more, whatever the object is (ECMA-262, "Assignment Operators")
abbrev pub passes_member : Tree → AssignmentOperator → Tree → Bool
passes_member r o t = is_member t && (is_plain_assignment o && (passes r (part t 0) && passes_word r (part t 1)))

-- and what else is assigned to: a name, of which `=` reads nothing before the right side, and any
-- other operator the value
abbrev pub passes_target : Tree → AssignmentOperator → Tree → Bool
passes_target r o t = is_constant r || (passes_member r o t || ((is_identifier t && is_effect_free t) && (is_plain_assignment o || is_effect_free r)))

-- so may the key of a property
abbrev pub passes_key : Tree → Bool → Tree → Bool
passes_key r is_computed t = is_constant r || (not is_computed && is_word (shape_of t))

-- so may the test of a conditional; where the second branch is evaluated, the first isn't
abbrev pub passes_branch : Tree → ℕ → Tree → Bool
passes_branch r zero t = passes r t
passes_branch r (suc i) t = true

-- a property with a key that is written out
abbrev pub is_field_shape : Shape → Bool
is_field_shape (shape.ObjectProperty Init false is_shorthand false) = true
is_field_shape h = false

abbrev pub is_field : Tree → Bool
is_field t = is_field_shape (shape_of t) && (is_bare t 2 && is_word (shape_of (part t 0)))

abbrev pub of_entries : Gathered → Bool
of_entries OfEntries = true
of_entries g = false

abbrev pub of_texts : Gathered → Bool
of_texts OfTexts = true
of_texts g = false

-- so may what is converted to a text: of a primitive value that runs nothing, and doesn't throw
-- (ECMA-262, "ToString")
abbrev pub passes_text : Tree → Tree → Bool
passes_text r t = is_constant r || (passes r t && is_primitive (kind_of t))

-- so may an item of a list, by what is gathered: where entries are, of a property its value
abbrev pub passes_item : Gathered → Tree → Tree → Bool
passes_item OfTexts r t = passes_text r t
passes_item gathered r t = passes r t || (of_entries gathered && (is_field t && passes r (part t 1)))

-- so may what stands before the read, at a place of such a shape; the texts of a template aren't
-- evaluated
abbrev pub passes_at : Gathered → Tree → Shape → ℕ → Tree → Bool
passes_at gathered r (shape.AssignmentExpression o) i t = passes_target r o t
passes_at gathered r shape.ConditionalExpression i t = passes_branch r i t
passes_at gathered r (shape.ObjectProperty k is_method is_shorthand is_computed) i t = passes_key r is_computed t
passes_at gathered r shape.Listed i t = passes_item gathered r t
passes_at gathered r shape.TemplateLiteral i t = true
passes_at gathered r h i t = passes r t

-- what evaluates the part behind its first one whatever that gives; where r has no effect, it may
-- be left out. A key that stands in brackets is converted before the value is evaluated
abbrev pub is_sure : Bool → Shape → Bool
is_sure is_free (shape.LogicalExpression o) = is_free
is_sure is_free shape.ConditionalExpression = is_free
is_sure is_free (shape.AssignmentExpression o) = is_plain_assignment o || is_free
is_sure is_free (shape.ObjectProperty k is_method is_shorthand is_computed) = not is_computed
is_sure is_free (shape.CallExpression is_optional) = not is_optional || is_free
is_sure is_free (shape.ComputedMemberExpression is_optional) = not is_optional || is_free
is_sure is_free h = true

-- a property and what is spread stand where an entry is asked, or r has no effect
abbrev pub is_placed : Gathered → Bool → Shape → Bool
is_placed gathered is_free (shape.ObjectProperty k is_method is_shorthand is_computed) = of_entries gathered || is_free
is_placed gathered is_free shape.SpreadElement = of_entries gathered || is_free
is_placed gathered is_free h = true

-- what is asked of the part at the place: an array and an object ask their elements and properties
-- for entries, a call and `new` their arguments, and a template what stands between its texts for a
-- text each
abbrev pub gathered_by : Shape → ℕ → Gathered
gathered_by shape.ArrayExpression i = OfEntries
gathered_by shape.ObjectExpression i = OfEntries
gathered_by (shape.CallExpression is_optional) (suc i) = OfEntries
gathered_by shape.NewExpression (suc i) = OfEntries
gathered_by shape.TemplateLiteral (suc i) = OfTexts
gathered_by h i = OfValues

-- a list asks its items for what it is asked itself
abbrev pub gathered_below : Gathered → Shape → ℕ → Gathered
gathered_below gathered h i = if is_listed_shape h then gathered else gathered_by h i

-- the first of some parts mentions the name, or there is none
abbrev pub begins_with : Name → Trees → Bool
begins_with x none = true
begins_with x (t ▸ ts) = names x t

-- the part that mentions the name is evaluated whatever those before it are; or it needn't be,
-- since r is a constant or has no effect
abbrev pub is_reached : Name → Gathered → Tree → Shape → Trees → Bool
is_reached x gathered r h ts = is_constant r || (is_placed gathered (is_effect_free r) h && (is_sure (is_effect_free r) h || begins_with x ts))

abbrev pub is_number_shape : Shape → Bool
is_number_shape (shape.NumericLiteral n) = true
is_number_shape h = false

-- where it is called, its value is, without a `this`: it is no member and no chain, and no name of
-- a direct eval (ECMA-262, "EvaluateCall")
abbrev pub is_called_by : Shape → List Name → Bool
is_called_by shape.Identifier xs = not (is_eval xs)
is_called_by h xs = is_lone_by h

abbrev pub is_called_by_value : Tree → Bool
is_called_by_value t = is_called_by (shape_of t) (names_of t)

-- r may stand in the place of a name that is its first part: a number under `-` would be another
-- literal, and `typeof` and a call read more of some expressions than their value
abbrev pub suits_under : Tree → Shape → Bool
suits_under r (shape.UnaryExpression UnaryNegation) = not (is_number_shape (shape_of r))
suits_under r (shape.UnaryExpression Typeof) = is_typed_by_value r
suits_under r (shape.CallExpression is_optional) = is_called_by_value r
suits_under r h = true

-- the first of some parts is such a name, or there is none
abbrev pub begins_bare : Name → Trees → Bool
begins_bare x none = true
begins_bare x (t ▸ ts) = is_childless t && names x t

-- in a chain r ends none around it: each optional link in it stands in a chain of its own
abbrev pub suits_in : Tree → Shape → Bool
suits_in r shape.ChainExpression = is_calm r
suits_in r h = true

-- so it may, where the read is that
abbrev pub suits : Name → Tree → Shape → Trees → Bool
suits x r h ts = (not (begins_bare x ts) || suits_under r h) && suits_in r h

-- each part that is evaluated before the variable is read may be evaluated before r, the read is
-- reached whatever they are, and r may stand in its place
abbrev mutual
  pub are_passed_in : Name → Gathered → Tree → Tree → Bool
  are_passed_in x gathered r (node h ys n ts) = suits x r h ts && (is_reached x gathered r h ts && all_passed x gathered r h 0 ts)

  -- from a place on
  pub all_passed : Name → Gathered → Tree → Shape → ℕ → Trees → Bool
  all_passed x gathered r h i none = true
  all_passed x gathered r h i (t ▸ ts) = if names x t then are_passed_in x (gathered_below gathered h i) r t else (passes_at gathered r h i t && all_passed x gathered r h (suc i) ts)

-- of which a value is asked
abbrev pub are_passed_by_value : Name → Tree → Tree → Bool
are_passed_by_value x = are_passed_in x OfValues

-- and r may be put in the place of what is read, by how deep both nest
abbrev pub are_passed : Name → Tree → Tree → Bool
are_passed x r t = are_passed_by_value x r t && fits_in r t

abbrev pub is_head_shape : Shape → Bool
is_head_shape shape.ExpressionStatement = true
is_head_shape shape.ReturnStatement = true
is_head_shape shape.ThrowStatement = true
is_head_shape shape.IfStatement = true
is_head_shape h = false

-- so does a statement
abbrev pub reads_first : Name → Tree → Bool
reads_first x (node h ys n none) = false
reads_first x (node h ys n (t ▸ ts)) = is_head_shape h && (is_nameless (node h ys n (t ▸ ts)) && (is_first x false t && not (any_names x ts)))

-- a declarator, of a name or of a pattern
abbrev pub is_declarator_shape : Shape → Bool
is_declarator_shape shape.VariableDeclarator = true
is_declarator_shape _ = false

abbrev pub is_declarator : Tree → Bool
is_declarator d = is_declarator_shape (shape_of d) && is_bare d 2

abbrev pub is_variables_shape : Shape → Bool
is_variables_shape (shape.VariableDeclaration k) = true
is_variables_shape _ = false

-- a declaration of variables, whose declarators are those of its list
abbrev pub declares_list : Tree → Bool
declares_list t = is_variables_shape (shape_of t) && (is_bare t 1 && is_listed (part t 0))

-- a declarator does in its initializer, and what it declares isn't like it
abbrev pub reads_declarator : Name → Tree → Bool
reads_declarator x d = is_declarator d && (is_first x false (part d 1) && not (names x (part d 0)))

-- of some declarators the first does
abbrev pub reads_declarators : Name → Tree → Bool
reads_declarators x l = not (is_childless l) && (reads_declarator x (part l 0) && not (any_names x (rest_children 1 (children l))))

-- so does a declaration, of whatever kind
abbrev pub reads_initially : Name → Tree → Bool
reads_initially x t = declares_list t && reads_declarators x (part t 0)

-- what opens a scope, which the expression that it evaluates before all else is outside of:
-- `switch (e) { .. }`, and `for (e; ..; ..) ..` where no declaration stands there
abbrev pub is_switch_shape : Shape → Bool
is_switch_shape shape.SwitchStatement = true
is_switch_shape _ = false

abbrev pub is_for_shape : Shape → Bool
is_for_shape shape.ForStatement = true
is_for_shape _ = false

abbrev pub opens_scope : Tree → Bool
opens_scope t = (is_switch_shape (shape_of t) && is_bare t 2) || (is_for_shape (shape_of t) && is_bare t 4)

-- it does so, too
abbrev pub reads_outside : Name → Tree → Bool
reads_outside x t = opens_scope t && (is_first x false (part t 0) && not (any_names x (rest_children 1 (children t))))

-- what a loop over keys or values assigns to: a name, a member or a pattern
abbrev pub is_target_shape : Shape → Bool
is_target_shape shape.Identifier = true
is_target_shape (shape.StaticMemberExpression is_optional) = true
is_target_shape (shape.ComputedMemberExpression is_optional) = true
is_target_shape shape.ObjectAssignmentTarget = true
is_target_shape shape.ArrayAssignmentTarget = true
is_target_shape _ = false

-- or a `var` without an initializer: its left side declares no lexical name
abbrev pub is_open_left : Tree → Bool
is_open_left t = is_target_shape (shape_of t) || is_bare_var t

abbrev pub is_over_shape : Shape → Bool
is_over_shape shape.ForInStatement = true
is_over_shape shape.ForOfStatement = true
is_over_shape _ = false

-- `for (l in e) ..` and `for (l of e) ..` with such a left side: no name is in scope where e is
-- evaluated, before all else (ECMA-262, "ForIn/OfHeadEvaluation")
abbrev pub goes_over : Tree → Bool
goes_over t = is_over_shape (shape_of t) && (is_bare t 3 && is_open_left (part t 0))

-- it does so in its right side
abbrev pub reads_over : Name → Tree → Bool
reads_over x t = goes_over t && (is_first x false (part t 1) && (not (names x (part t 0)) && not (any_names x (rest_children 2 (children t)))))

-- a declaration with a first declarator, and its initializer
abbrev pub has_declarator : Tree → Bool
has_declarator t = declares_list t && (not (is_childless (part t 0)) && is_declarator (part (part t 0) 0))

abbrev pub first_value : Tree → Tree
first_value t = part (part (part t 0) 0) 1

-- `for (var i = e; ..; ..) ..`: a `var` is declared around the loop, so that e is evaluated as in a
-- declaration before that (ECMA-262, "ForLoopEvaluation")
abbrev pub begins_var : Tree → Bool
begins_var t = is_for_shape (shape_of t) && (is_bare t 4 && (is_var_shape (shape_of (part t 0)) && has_declarator (part t 0)))

-- it does so in that first initializer
abbrev pub reads_begun : Name → Tree → Bool
reads_begun x t = begins_var t && (reads_initially x (part t 0) && not (any_names x (rest_children 1 (children t))))

-- a head: what may stand right after the declaration
abbrev pub reads_head : Name → Tree → Bool
reads_head x t = reads_first x t || (reads_initially x t || (reads_outside x t || (reads_over x t || reads_begun x t)))

-- what a head evaluates: of a declaration, and of a `var` that begins a `for`, the first
-- initializer, and of a loop over keys or values its right side
abbrev pub evaluated : Tree → Tree
evaluated t = if has_declarator t then first_value t else (if goes_over t then part t 1 else (if begins_var t then first_value (part t 0) else t))

-- a `let` or a `const`
abbrev pub is_lexical_shape : Shape → Bool
is_lexical_shape (shape.VariableDeclaration k) = is_lexical k
is_lexical_shape _ = false

-- `for (let i = e; ..; ..) ..`: e is evaluated where the names that the head declares are in scope,
-- and uninitialised (ECMA-262, "ForLoopEvaluation")
abbrev pub begins_let : Tree → Bool
begins_let t = is_for_shape (shape_of t) && (is_bare t 4 && (is_lexical_shape (shape_of (part t 0)) && has_declarator (part t 0)))

-- it reads the variable in that first initializer
abbrev pub reads_let : Name → Tree → Bool
reads_let x t = begins_let t && (reads_initially x (part t 0) && not (any_names x (rest_children 1 (children t))))

-- `for (let i in e) ..` and `for (const i of e) ..`: so is e (ECMA-262, "ForIn/OfHeadEvaluation")
abbrev pub goes_over_let : Tree → Bool
goes_over_let t = is_over_shape (shape_of t) && (is_bare t 3 && is_lexical_shape (shape_of (part t 0)))

-- it reads the variable there
abbrev pub reads_over_let : Name → Tree → Bool
reads_over_let x t = goes_over_let t && (is_first x false (part t 1) && (not (names x (part t 0)) && not (any_names x (rest_children 2 (children t)))))

-- a loop that hides its names first reads it
abbrev pub reads_hidden : Name → Tree → Bool
reads_hidden x t = reads_let x t || reads_over_let x t

-- what such a loop evaluates before all else
abbrev pub evaluated_hidden : Tree → Tree
evaluated_hidden t = if begins_let t then first_value (part t 0) else (if goes_over_let t then part t 1 else t)

-- a number, a text, a boolean or null, and nothing in it
abbrev pub is_literal : Tree → Bool
is_literal t = is_written_value (shape_of t) && is_bare t 0

-- a constant with nothing else in it: it mentions no name, so that no name around it changes what
-- it is
abbrev pub is_closed : Tree → Bool
is_closed t = is_literal t || (is_value_operator (shape_of t) && (is_bare t 1 && is_literal (part t 0)))

-- r may be put in the place of what a head reads: into a loop that hides its names first a constant
-- alone
abbrev pub takes : Name → Tree → Tree → Bool
takes x r t = (reads_head x t && are_passed x r (evaluated t)) || (is_closed r && (reads_hidden x t && are_passed x r (evaluated_hidden t)))

-- an arrow function, and a function or a class without a name of its own, gets the variable's name
-- (ECMA-262, "NamedEvaluation"): none of them moves where the names of functions, or of classes,
-- have to stay
abbrev pub takes_name : Switches → Shape → Tree → Bool
takes_name o (shape.Function is_declaration is_generator directives) own = o.keep_function_names && is_absent_part own
takes_name o (shape.ArrowFunctionExpression directives) own = o.keep_function_names
takes_name o (shape.Class is_declaration) own = o.keep_class_names && is_absent_part own
takes_name o h own = false

abbrev pub may_move : Switches → Tree → Bool
may_move o t = is_plain_part t && not (takes_name o (shape_of t) (part t 0))

-- 71: `{ let a, x = b(); return x + c; }` becomes `{ let a; return b() + c; }`,
-- `{ const x = b(); return x; }` `{ ; return b(); }`, `{ let x = a(); const y = x.b; c(y); }`
-- `{ ; const y = a().b; c(y); }`, `{ let x = a(); switch (x.b) { } }` `{ ; switch (a().b) { } }`,
-- `{ let x = a(); for (c of x.b) d(); }` `{ ; for (c of a().b) d(); }`,
-- `{ let x = a(); for (var i = x.b; i; ) c(i); }` `{ ; for (var i = a().b; i; ) c(i); }`, and
-- `{ let x = 1; for (let i = x; i < 9; ) c(i); }` `{ ; for (let i = 1; i < 9; ) c(i); }`
pub record Row71 (W : Liberties) (n w : Tree) : Type 0 where
  pub before : Trees
  pub kind : VariableDeclarationKind
  pub first : Trees
  pub spelling : List ℕ
  pub symbol : ℕ
  pub init : Tree
  pub head : Tree
  pub after : Trees
  pub goes : lets_go W.writable kind symbol ≡ true
  pub moves : may_move W.switches init ≡ true
  pub taken : takes (resolved spelling symbol) init head ≡ true
  pub earlier : any_names (resolved spelling symbol) before ≡ false
  pub declared_earlier : any_names (resolved spelling symbol) first ≡ false
  pub initial : names (resolved spelling symbol) init ≡ false
  pub later : any_names (resolved spelling symbol) after ≡ false
  pub unseen : has_eval (block (append before (declared_among kind (resolved spelling symbol) first init none ▸ (head ▸ after)))) ≡ false
  pub shape : n ≡ block (append before (declared_among kind (resolved spelling symbol) first init none ▸ (head ▸ after)))
  pub written : w ≡ block (append before (declared_left kind first ▸ (put_first (resolved spelling symbol) init head ▸ after)))

-- where the next declarator reads it first: `{ let a, x = b(), y = x.c; d(y); }` becomes
-- `{ let a, y = b().c; d(y); }`
pub record Row71Next (W : Liberties) (n w : Tree) : Type 0 where
  pub before : Trees
  pub kind : VariableDeclarationKind
  pub first : Trees
  pub spelling : List ℕ
  pub symbol : ℕ
  pub init : Tree
  pub binds : Tree
  pub value : Tree
  pub last : Trees
  pub after : Trees
  pub goes : lets_go W.writable kind symbol ≡ true
  pub moves : may_move W.switches init ≡ true
  pub once : is_first (resolved spelling symbol) false value ≡ true
  pub passed : are_passed (resolved spelling symbol) init value ≡ true
  pub other : names (resolved spelling symbol) binds ≡ false
  pub earlier : any_names (resolved spelling symbol) before ≡ false
  pub declared_earlier : any_names (resolved spelling symbol) first ≡ false
  pub initial : names (resolved spelling symbol) init ≡ false
  pub declared_later : any_names (resolved spelling symbol) last ≡ false
  pub later : any_names (resolved spelling symbol) after ≡ false
  pub unseen : has_eval (block (append before (declared_among kind (resolved spelling symbol) first init (declarator binds value ▸ last) ▸ after))) ≡ false
  pub shape : n ≡ block (append before (declared_among kind (resolved spelling symbol) first init (declarator binds value ▸ last) ▸ after))
  pub written : w ≡ block (append before (declaration kind (append first (declarator binds (put_first (resolved spelling symbol) init value) ▸ last)) ▸ after))

-- one of them reads a block
abbrev pub BlockRow : Liberties → Tree → Tree → Type 0
BlockRow W n w = Row72 W n w ⊎ (Row72Idle W n w ⊎ (Row71 W n w ⊎ Row71Next W n w))

-- ---- in the body of an arrow function

-- `{ .. }`, as a body
abbrev pub statements : Trees → Tree
statements ts = node shape.FunctionBody [] 0 (listed ts ▸ none)

-- an arrow function with statements, with its directives, its number and its parameters
abbrev pub arrow_with : List (List ℕ) → ℕ → Trees → Trees → Tree
arrow_with directives n parameters ts = node (shape.ArrowFunctionExpression directives) [] n (listed parameters ▸ (statements ts ▸ none))

-- 71 and 72 in its body: `(a) => { let x = b(); return x + a; }` becomes
-- `(a) => { ; return b() + a; }`. Its parameters are read like what stands before the declaration
-- in a block
pub record ArrowBodyRow (W : Liberties) (n w : Tree) : Type 0 where
  pub directives : List (List ℕ)
  pub number : ℕ
  pub parameters : Trees
  pub before : Trees
  pub after : Trees
  pub row : BlockRow W (block (listed parameters ▸ before)) (block (listed parameters ▸ after))
  pub shape : n ≡ arrow_with directives number parameters before
  pub written : w ≡ arrow_with directives number parameters after

-- ---- in the body of any other function

-- a function with statements: whether it is declared, and a generator, its directives, its number,
-- its name and its parameters
abbrev pub function_with : Bool → Bool → List (List ℕ) → ℕ → Tree → Trees → Trees → Tree
function_with is_declared is_generator directives n name parameters ts = node (shape.Function is_declared is_generator directives) [] n (name ▸ (listed parameters ▸ (statements ts ▸ none)))

-- 71 and 72 in its body: `function f(a) { let x = b(); return x + a; }` becomes
-- `function f(a) { ; return b() + a; }`. Its name and its parameters are read like what stands
-- before the declaration in a block
pub record FunctionBodyRow (W : Liberties) (n w : Tree) : Type 0 where
  pub is_declared : Bool
  pub is_generator : Bool
  pub directives : List (List ℕ)
  pub number : ℕ
  pub name : Tree
  pub parameters : Trees
  pub before : Trees
  pub after : Trees
  pub row : BlockRow W (block (listed (name ▸ parameters) ▸ before)) (block (listed (name ▸ parameters) ▸ after))
  pub shape : n ≡ function_with is_declared is_generator directives number name parameters before
  pub written : w ≡ function_with is_declared is_generator directives number name parameters after

-- ---- in a module

-- 71 and 72 in a module: `import "a"; const x = f(); g();` becomes `import "a"; f(); g();`. Its
-- statements are read like those of a function without parameters. `export { x }` mentions x, and
-- what is exported where it is declared is no declaration of a list. What a script declares stays:
-- other scripts see it
pub record ModuleRow (W : Liberties) (n w : Tree) : Type 0 where
  pub directives : List (List ℕ)
  pub before : Trees
  pub after : Trees
  pub row : BlockRow W (block (listed none ▸ before)) (block (listed none ▸ after))
  pub shape : n ≡ program true directives before
  pub written : w ≡ program true directives after

-- ---- in a static block

-- `static { .. }`, with its number
abbrev pub static_block : ℕ → Trees → Tree
static_block n ts = node shape.StaticBlock [] n (listed ts ▸ none)

-- 71 and 72 in a static block of a class: `class A { static { var x = f(); g(); } }` becomes
-- `class A { static { f(); g(); } }`. Its statements are read like those of a function without
-- parameters, since it is a body of its own, whose `var`s nothing around it sees (ECMA-262,
-- "ClassStaticBlockDefinition")
pub record StaticBlockRow (W : Liberties) (n w : Tree) : Type 0 where
  pub number : ℕ
  pub before : Trees
  pub after : Trees
  pub row : BlockRow W (block (listed none ▸ before)) (block (listed none ▸ after))
  pub shape : n ≡ static_block number before
  pub written : w ≡ static_block number after

-- ---- in a switch

-- a switch without the statements of one of its cases
abbrev pub switch_around : Tree → Trees → Tree → Trees → Tree
switch_around d first test last = switch d (listed (append first (node shape.SwitchCase [] 0 (test ▸ (absent ▸ none)) ▸ last)))

-- 71 and 72 among the statements of a case: `switch (a) { case 1: let x = f(); g(); }` becomes
-- `switch (a) { case 1: f(); g(); }`. All cases are one scope (ECMA-262, "Runtime Semantics:
-- Evaluation" of SwitchStatement), so all else that stands in the switch is read like what stands
-- before the declaration in a block
pub record SwitchRow (o : Switches) (n w : Tree) : Type 0 where
  pub discriminant : Tree
  pub first : Trees
  pub test : Tree
  pub before : Trees
  pub last : Trees
  pub after : Trees
  pub row : BlockRow (without_vars o) (block (listed (switch_around discriminant first test last ▸ none) ▸ before)) (block (listed (switch_around discriminant first test last ▸ none) ▸ after))
  pub shape : n ≡ switch discriminant (listed (append first (switch_case test before ▸ last)))
  pub written : w ≡ switch discriminant (listed (append first (switch_case test after ▸ last)))

-- ---- in the head of a `for`

-- what is left there of a declaration: nothing, where no declarator is
abbrev pub head_left : VariableDeclarationKind → Trees → Tree
head_left k none = absent
head_left k (d ▸ ds) = declaration k (d ▸ ds)

-- 72 among the declarators of its head: `for (let i = 0, x = 1; i < a; i++) b(i);` becomes
-- `for (let i = 0; i < a; i++) b(i);`, and `for (let x = 1; a; b) c();` becomes
-- `for (; a; b) c();`. What is declared there is seen in the loop alone, and copied for each turn
-- (ECMA-262, "ForLoopEvaluation", "CreatePerIterationEnvironment"); of what nobody sees no copy is
-- missed
pub record ForRow (n w : Tree) : Type 0 where
  pub kind : VariableDeclarationKind
  pub first : Trees
  pub spelling : List ℕ
  pub symbol : ℕ
  pub init : Tree
  pub last : Trees
  pub test : Tree
  pub update : Tree
  pub body : Tree
  pub lexical : is_lexical kind ≡ true
  pub idle : is_idle init ≡ true
  pub declared_earlier : any_names (resolved spelling symbol) first ≡ false
  pub initial : names (resolved spelling symbol) init ≡ false
  pub declared_later : any_names (resolved spelling symbol) last ≡ false
  pub later : any_names (resolved spelling symbol) (test ▸ (update ▸ (body ▸ none))) ≡ false
  pub unseen : has_eval (for_loop (declared_among kind (resolved spelling symbol) first init last) test update body) ≡ false
  pub shape : n ≡ for_loop (declared_among kind (resolved spelling symbol) first init last) test update body
  pub written : w ≡ for_loop (head_left kind (append first last)) test update body

-- 71 among them: `for (let x = 1, y = g(x); y(); ) y(y);` becomes
-- `for (let y = g(1); y(); ) y(y);`. The head is evaluated once, before the copies that the turns
-- have of its names (ECMA-262, "ForLoopEvaluation", "CreatePerIterationEnvironment"), so it is read
-- like a declaration in a block, and all else of the `for` like what stands behind that
pub record ForNextRow (o : Switches) (n w : Tree) : Type 0 where
  pub before : Tree
  pub after : Tree
  pub test : Tree
  pub update : Tree
  pub body : Tree
  pub row : Row71Next (without_vars o) (block (before ▸ (test ▸ (update ▸ (body ▸ none))))) (block (after ▸ (test ▸ (update ▸ (body ▸ none)))))
  -- the head is that declaration
  pub begins : row.before ≡ none
  pub shape : n ≡ for_loop before test update body
  pub written : w ≡ for_loop after test update body

-- one of both
abbrev pub ForHeadRow : Switches → Tree → Tree → Type 0
ForHeadRow o n w = ForRow n w ⊎ ForNextRow o n w

-- a row reads n as w at this place: a function may be a statement, an expression, the value of a
-- method, or exported, a program stands nowhere else, and a static block in a class. A block is a
-- statement, or one of the blocks of a `try`, which stand elsewhere: of
-- `try { let x = a(); b(); } catch (e) { }` the first becomes `{ a(); b(); }`. What a `catch` takes
-- is declared around its block (ECMA-262, "CatchClauseEvaluation"), like parameters around a body,
-- and stays. A block that is no body and a switch keep each `var`: its name is seen around it
abbrev pub UnusedRow : Liberties → Position → Tree → Tree → Type 0
UnusedRow W (Stmt q) n w = BlockRow (without_vars W.switches) n w ⊎ (FunctionBodyRow W n w ⊎ (SwitchRow W.switches n w ⊎ ForHeadRow W.switches n w))
UnusedRow W (Expr s) n w = ArrowBodyRow W n w ⊎ FunctionBodyRow W n w
UnusedRow W Method n w = FunctionBodyRow W n w
UnusedRow W Elsewhere n w = FunctionBodyRow W n w ⊎ (ModuleRow W n w ⊎ (StaticBlockRow W n w ⊎ BlockRow (without_vars W.switches) n w))
UnusedRow W _ n w = ⊥

-- what it writes, where it weighs less
pub record UnusedContracts (W : Liberties) (p : Position) (n w : Tree) : Type 0 where
  pub row : UnusedRow W p n w
  pub lighter : weight p w < weight p n

-- which is everywhere
abbrev pub UnusedLighter : Type 0
UnusedLighter = (W : Liberties) (p : Position) (n w : Tree) → UnusedRow W p n w → weight p w < weight p n

abbrev pub UnusedLighten : Type 0
UnusedLighten = (W : Liberties) → Lightens (UnusedContracts W)

-- it drops a name that nothing mentions, where those variables can be written, whichever functions
-- and classes may lose their own
abbrev pub UnusedAreLawful : Type 0
UnusedAreLawful = (K : Shape → Bool) (W : Liberties) → LawfulWith K W.writable (UnusedContracts W)
