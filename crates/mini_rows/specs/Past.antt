-- Row 71 past steady names: a name that is read once, behind what may be evaluated before its
-- initializer because no answer of the world changes it while the body runs, as equations with the
-- JavaScript before and after.
use Rattle.std.specs.Prelude.{◌≡◌, ◌⊎◌, ◌||◌, ◌&&◌, not, ℕ, suc, nat_eq, Bool, true, false, List, [], ◌∷◌, Option, Some, None, if◌then◌else◌}
use Rattle.mini_model.specs.declared.kind.VariableDeclarationKind.{VariableDeclarationKind}
use Rattle.mini_model.specs.declared.name.Name.{Name}
use Rattle.mini_model.specs.declared.name.SymbolId.{SymbolId}
use Rattle.mini_model.specs.declared.operator.AssignmentOperator.{AssignmentOperator}
use Rattle.mini_model.specs.declared.place.Position.{Position}
use Rattle.mini_model.specs.declared.place.Position.TheVariants.{Expr, Stmt, Method, Elsewhere}
use Rattle.mini_model.specs.declared.shape.Shape.{Shape}
use Rattle.mini_model.specs.declared.shape.Shape.TheVariants as shape
use Rattle.mini_model.specs.Tree.{Tree, Trees, node, none, ◌▸◌, listed, shape_of, children}
use Rattle.mini_model.specs.Paths.{append}
use Rattle.mini_laws.specs.Body.{FunctionStatements}
use Rattle.mini_laws.specs.Naming.{is_lexical}
use Rattle.mini_laws.specs.ScopeList.{has_eval}
use Rattle.mini_laws.specs.State.{Environment}
use Rattle.mini_laws.specs.Substitution.{alone}
use Rattle.mini_laws.specs.Value.{Declared, Global, VariableSet}
use Rattle.mini_laws.specs.Weights.{Lightens}
use Rattle.mini_kept.specs.AlikeBodies.{RunsAs}
use Rattle.mini_kept.specs.Loosely.{LawfulUnder}
use Rattle.mini_kept.specs.Without.{Assured, BodySets, Steadies, Begins, Permits}
use Rattle.mini_node.specs.Children.{names_of, part, is_bare}
use Rattle.mini_node.specs.Kinds.{is_identifier}
use Rattle.mini_terms.specs.Folds.{is_effect_free}
use Rattle.mini_terms.specs.Kind.{is_primitive, kind as kind_of}
use Rattle.mini_rows.specs.Lists.{block, declaration}
use Rattle.mini_rows.specs.Declarations.{declarator}
use Rattle.mini_rows.specs.Inside.{is_lexical_shape}
use Rattle.mini_rows.specs.Switches.{Liberties}
use Rattle.mini_rows.specs.Nesting.{fits_in}
use Rattle.mini_rows.specs.Unused.{resolved, names, any_names, declared_among, declared_left, lets_go, begins_with, suits, is_sure, is_placed, is_first, put_first, is_constant, is_plain_assignment, is_word, is_member, is_field, Gathered, OfValues, OfTexts, of_entries, gathered_below, reads_head, evaluated, is_declarator, declares_list, is_childless, may_move, statements, function_with}

-- ---- what may be evaluated before the initializer

-- a node that declares a name
abbrev pub is_binding : Shape → Bool
is_binding shape.BindingIdentifier = true
is_binding h = false

abbrev pub is_symbol : ℕ → Option SymbolId → Bool
is_symbol k (Some s) = nat_eq s.0 k
is_symbol k None = false

abbrev pub has_symbol : ℕ → List Name → Bool
has_symbol k [] = false
has_symbol k (x ∷ xs) = is_symbol k x.symbol || has_symbol k xs

-- a name with this symbol is declared in a tree
abbrev mutual
  pub binds : ℕ → Tree → Bool
  binds k (node h xs n ts) = (is_binding h && has_symbol k xs) || any_bind k ts

  pub any_bind : ℕ → Trees → Bool
  any_bind k none = false
  any_bind k (t ▸ ts) = binds k t || any_bind k ts

abbrev pub is_only_symbol : ℕ → List Name → Bool
is_only_symbol k (x ∷ []) = is_symbol k x.symbol
is_only_symbol k xs = false

-- `y = v`, where v doesn't declare the name
abbrev pub is_name : ℕ → Tree → Bool
is_name k t = is_binding (shape_of t) && (is_only_symbol k (names_of t) && is_childless t)

abbrev pub is_let_name : ℕ → Tree → Bool
is_let_name k d = is_declarator d && (is_name k (part d 0) && not (binds k (part d 1)))

-- a declarator is such a one, of a `let` or a `const`, or doesn't declare the name
abbrev pub lets_at_most : Bool → ℕ → Tree → Bool
lets_at_most is_lexical k d = not (binds k d) || (is_lexical && is_let_name k d)

abbrev pub all_of : (Tree → Bool) → Trees → Bool
all_of p none = true
all_of p (t ▸ ts) = p t && all_of p ts

-- so does a statement: `const a, y = v;`
abbrev pub lets_here : ℕ → Tree → Bool
lets_here k t = not (binds k t) || (declares_list t && all_of (lets_at_most (is_lexical_shape (shape_of t)) k) (children (part t 0)))

-- it declares none
abbrev pub spares : ℕ → Tree → Bool
spares k t = not (binds k t)

-- one of these statements, or of these declarators behind them, of a `let` or a `const` or not, has
-- initialised the name, and no scope in them hides it
abbrev pub is_let : ℕ → Trees → Bool → Trees → Bool
is_let k before is_lexical first = not (all_of (spares k) before && all_of (spares k) first) && (all_of (lets_here k) before && all_of (lets_at_most is_lexical k) first)

-- of a body of which this is known, with these statements, the variables that are initialised as it
-- starts, where no scope in it declares them
abbrev pub begun : Assured → Trees → VariableSet
begun V ts (Declared k) = V.initial (Declared k) && not (any_bind k ts)
begun V ts (Global s) = false

-- those that keep the value that they have behind some of the statements and declarators, where
-- nothing writes them: no answer changes them, and they are such, or a `let` or a `const` has
-- initialised them before: `const y = a(); let x = b(); return [y, x];`
abbrev pub held_variables : Assured → Trees → Trees → Bool → Trees → VariableSet
held_variables V ts before is_lexical first (Declared k) = V.steady (Declared k) && (begun V ts (Declared k) || is_let k before is_lexical first)
held_variables V ts before is_lexical first (Global s) = false

-- what keeps its value there: some variables, and `this` or not
pub record Kept : Type 0 where
  pub variables : VariableSet
  pub has_this : Bool

-- `this` does where the body doesn't ask the world for it (ECMA-262, "ResolveThisBinding")
abbrev pub held : Assured → Trees → Trees → Bool → Trees → Kept
held V ts before is_lexical first = record { variables = held_variables V ts before is_lexical first; has_this = V.has_this }

-- what writes a part of it
abbrev pub is_writer : Shape → Bool
is_writer (shape.UpdateExpression o is_prefix) = true
is_writer (shape.AssignmentExpression o) = true
is_writer shape.ForInStatement = true
is_writer shape.ForOfStatement = true
is_writer h = false

-- and what writes its own name: a declarator has that of the variable that its `var` writes, where
-- it is another than the one that is declared (ECMA-262, "VariableStatements in Catch Clauses")
abbrev pub written_names : Shape → List Name → List Name
written_names shape.VariableDeclarator xs = xs
written_names h xs = []

-- one of them has this symbol
abbrev pub has_its_symbol : Option SymbolId → List Name → Bool
has_its_symbol (Some s) xs = has_symbol s.0 xs
has_its_symbol None xs = false

-- a name like it stands in such a node
abbrev mutual
  pub writes : Name → Tree → Bool
  writes x (node h xs n ts) = has_its_symbol x.symbol (written_names h xs) || (if is_writer h then any_names x ts else any_write x ts)

  pub any_write : Name → Trees → Bool
  any_write x none = false
  any_write x (t ▸ ts) = writes x t || any_write x ts

-- r leaves the variable of a name as it is: it neither declares nor writes it (ECMA-262,
-- "PutValue")
abbrev pub leaves : Tree → Name → ℕ → Bool
leaves r y k = not (binds k r) && not (writes y r)

-- the name of one of these variables, which r leaves as it is
abbrev pub is_held_symbol : VariableSet → Tree → Name → Option SymbolId → Bool
is_held_symbol H r y (Some s) = H (Declared s.0) && leaves r y s.0
is_held_symbol H r y None = false

abbrev pub is_held_name : VariableSet → Tree → List Name → Bool
is_held_name H r (y ∷ []) = is_held_symbol H r y y.symbol
is_held_name H r ys = false

abbrev pub is_held : VariableSet → Tree → Tree → Bool
is_held H r t = is_identifier t && is_held_name H r (names_of t)

abbrev pub is_this_shape : Shape → Bool
is_this_shape shape.ThisExpression = true
is_this_shape h = false

-- `this`
abbrev pub is_this : Tree → Bool
is_this t = is_this_shape (shape_of t) && is_bare t 0

-- such a name, or `this`, which nothing writes
abbrev pub keeps_value : Kept → Tree → Tree → Bool
keeps_value H r t = is_held H.variables r t || (H.has_this && is_this t)

-- it may be evaluated before r rather than after, whatever r does: it is a constant, or keeps its
-- value
abbrev pub passes_any : Kept → Tree → Tree → Bool
passes_any H r t = is_constant t || keeps_value H r t

-- so may the key of a member
abbrev pub passes_any_word : Kept → Tree → Tree → Bool
passes_any_word H r t = is_word (shape_of t) || passes_any H r t

-- so may a member that is assigned to: before the right side its object and its key are evaluated,
-- and no more, whatever the object is (ECMA-262, "Assignment Operators")
abbrev pub passes_any_member : Kept → Tree → Tree → Bool
passes_any_member H r t = is_member t && (passes_any H r (part t 0) && passes_any_word H r (part t 1))

-- so may what `=` assigns to, such a member, or a name, of which nothing is evaluated before the
-- right side: `y.b = x`, `this[y] = x`, `z = x`
abbrev pub passes_any_target : Kept → Tree → AssignmentOperator → Tree → Bool
passes_any_target H r o t = is_plain_assignment o && (passes_any_member H r t || (is_identifier t && is_effect_free t))

-- so may an item of a list, by what is gathered: where entries are, of a property its value; what
-- is converted to a text has to be primitive
abbrev pub passes_any_item : Kept → Gathered → Tree → Tree → Bool
passes_any_item H OfTexts r t = passes_any H r t && is_primitive (kind_of t)
passes_any_item H gathered r t = passes_any H r t || (of_entries gathered && (is_field t && passes_any H r (part t 1)))

-- so may what stands before the read, in a node of such a shape; a key in brackets is converted
-- before the value, and the texts of a template aren't evaluated
abbrev pub passes_any_at : Kept → Gathered → Tree → Shape → Tree → Bool
passes_any_at H gathered r (shape.AssignmentExpression o) t = passes_any_target H r o t
passes_any_at H gathered r (shape.ObjectProperty k is_method is_shorthand is_computed) t = not is_computed && is_word (shape_of t)
passes_any_at H gathered r shape.Listed t = passes_any_item H gathered r t
passes_any_at H gathered r shape.TemplateLiteral t = true
passes_any_at H gathered r h t = passes_any H r t

-- the part that mentions the name is evaluated whatever those before it are, and r may stand in its
-- place. A property and what is spread stand where an entry is asked
abbrev pub is_certain : Name → Gathered → Tree → Shape → Trees → Bool
is_certain x gathered r h ts = suits x r h ts && (is_placed gathered false h && (is_sure false h || begins_with x ts))

-- so is the read, and each part that is evaluated before it may be evaluated before r
abbrev mutual
  pub are_past_in : Kept → Name → Gathered → Tree → Tree → Bool
  are_past_in H x gathered r (node h ys n ts) = is_certain x gathered r h ts && all_past H x gathered r h 0 ts

  -- from a place on
  pub all_past : Kept → Name → Gathered → Tree → Shape → ℕ → Trees → Bool
  all_past H x gathered r h i none = true
  all_past H x gathered r h i (t ▸ ts) = if names x t then are_past_in H x (gathered_below gathered h i) r t else (passes_any_at H gathered r h t && all_past H x gathered r h (suc i) ts)

-- of which a value is asked
abbrev pub are_past_by_value : Kept → Name → Tree → Tree → Bool
are_past_by_value H x = are_past_in H x OfValues

-- and r may be put in the place of what is read, by how deep both nest
abbrev pub are_past : Kept → Name → Tree → Tree → Bool
are_past H x r t = are_past_by_value H x r t && fits_in r t

-- ---- in the statements of a body

-- 71: `function f(g) { let x = a(); return g(x); }` becomes `function f(g) { ; return g(a()); }`,
-- and so of `[g, x]`, `g + x`, `g.b = x`, `this.b = x` and `{ b: g, c: x }`, of `const y = g(x);`,
-- `switch (g(x)) { }` and `for (c of g(x)) d();`, and of each other head
pub record Row71Past (V : Assured) (W : Liberties) (outside : Tree) (ts us : Trees) : Type 0 where
  pub before : Trees
  pub kind : VariableDeclarationKind
  pub first : Trees
  pub spelling : List ℕ
  pub symbol : ℕ
  pub init : Tree
  pub head : Tree
  pub after : Trees
  pub goes : lets_go W.writable kind symbol ≡ true
  pub moves : may_move W.switches init ≡ true
  pub varies : is_constant init ≡ false
  pub once : reads_head (resolved spelling symbol) head ≡ true
  pub passed : are_past (held V ts before (is_lexical kind) first) (resolved spelling symbol) init (evaluated head) ≡ true
  pub outer : names (resolved spelling symbol) outside ≡ false
  pub earlier : any_names (resolved spelling symbol) before ≡ false
  pub declared_earlier : any_names (resolved spelling symbol) first ≡ false
  pub initial : names (resolved spelling symbol) init ≡ false
  pub later : any_names (resolved spelling symbol) after ≡ false
  pub unseen : has_eval (block (outside ▸ ts)) ≡ false
  pub shape : ts ≡ append before (declared_among kind (resolved spelling symbol) first init none ▸ (head ▸ after))
  pub written : us ≡ append before (declared_left kind first ▸ (put_first (resolved spelling symbol) init head ▸ after))

-- where the next declarator reads it: `let x = a(), y = g(x);` becomes `let y = g(a());`
pub record Row71PastNext (V : Assured) (W : Liberties) (outside : Tree) (ts us : Trees) : Type 0 where
  pub before : Trees
  pub kind : VariableDeclarationKind
  pub first : Trees
  pub spelling : List ℕ
  pub symbol : ℕ
  pub init : Tree
  pub binds : Tree
  pub value : Tree
  pub last : Trees
  pub after : Trees
  pub goes : lets_go W.writable kind symbol ≡ true
  pub moves : may_move W.switches init ≡ true
  pub varies : is_constant init ≡ false
  pub once : is_first (resolved spelling symbol) false value ≡ true
  pub passed : are_past (held V ts before (is_lexical kind) first) (resolved spelling symbol) init value ≡ true
  pub other : names (resolved spelling symbol) binds ≡ false
  pub outer : names (resolved spelling symbol) outside ≡ false
  pub earlier : any_names (resolved spelling symbol) before ≡ false
  pub declared_earlier : any_names (resolved spelling symbol) first ≡ false
  pub initial : names (resolved spelling symbol) init ≡ false
  pub declared_later : any_names (resolved spelling symbol) last ≡ false
  pub later : any_names (resolved spelling symbol) after ≡ false
  pub unseen : has_eval (block (outside ▸ ts)) ≡ false
  pub shape : ts ≡ append before (declared_among kind (resolved spelling symbol) first init (declarator binds value ▸ last) ▸ after)
  pub written : us ≡ append before (declaration kind (append first (declarator binds (put_first (resolved spelling symbol) init value) ▸ last)) ▸ after)

abbrev pub PastRow : Assured → Liberties → Tree → Trees → Trees → Type 0
PastRow V W outside ts us = Row71Past V W outside ts us ⊎ Row71PastNext V W outside ts us

-- a function with such statements: its name and its parameters are read like what stands before the
-- declaration
pub record PastFunctionRow (S : BodySets) (W : Liberties) (n w : Tree) : Type 0 where
  pub is_declared : Bool
  pub is_generator : Bool
  pub directives : List (List ℕ)
  pub number : ℕ
  pub name : Tree
  pub parameters : Trees
  pub before : Trees
  pub after : Trees
  pub row : PastRow (S number) W (listed (name ▸ parameters)) before after
  pub shape : n ≡ function_with is_declared is_generator directives number name parameters before
  pub written : w ≡ function_with is_declared is_generator directives number name parameters after

-- wherever the function stands
abbrev pub PastFunction : BodySets → Liberties → Position → Tree → Tree → Type 0
PastFunction S W (Stmt q) n w = PastFunctionRow S W n w
PastFunction S W (Expr s) n w = PastFunctionRow S W n w
PastFunction S W Method n w = PastFunctionRow S W n w
PastFunction S W Elsewhere n w = PastFunctionRow S W n w
PastFunction S W _ n w = ⊥

-- ---- the laws

-- a body runs as before, from each start that initialises what is known to be initialised, in any
-- environment in which that is so which is known, where nobody else sees the name that goes
abbrev pub PastRunsAlike : Type 0
PastRunsAlike =
    (V : Assured) (W : Liberties) (outside : Tree) (ts us : Trees) → PastRow V W outside ts us → (k : ℕ) × ((e : Environment) → Permits W.writable (alone (Declared k)) e → Steadies V e → (X : VariableSet) → Begins V X → RunsAs e FunctionStatements FunctionStatements X (statements ts) (statements us))

-- it makes the whole lighter, wherever the function stands
abbrev pub PastLightens : Type 0
PastLightens = (S : BodySets) (W : Liberties) → Lightens (PastFunction S W)

-- and it drops a name that nothing mentions, where S says what is known of each body and the
-- variables W can be written, whichever functions and classes may lose their own name
abbrev pub PastIsLawful : Type 0
PastIsLawful = (K : Shape → Bool) (W : Liberties) (S : BodySets) → LawfulUnder K W.writable S (PastFunction S W)
