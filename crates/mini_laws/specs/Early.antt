-- Early errors: names that are declared twice, and jumps without a target (ECMA-262, "Static
-- Semantics: Early Errors"), each at the path of its node.
use Rattle.std.specs.Prelude.{ℕ, zero, suc, Bool, true, false, ◌&&◌, ◌||◌, not, List, [], ◌∷◌, ◌++◌, map, Option, Some, None, unwrap_or, if◌then◌else◌}
use Rattle.mini_model.specs.declared.name.Name.{Name}
use Rattle.mini_model.specs.declared.shape.Shape.{Shape}
use Rattle.mini_model.specs.declared.shape.Shape.TheVariants as shape
use Rattle.mini_model.specs.Tree.{Tree, Trees, node, none, ◌▸◌, shape_of, child_or_absent}
use Rattle.mini_model.specs.Weight.{same_text}
use Rattle.mini_laws.specs.declared.names.Clash.{Clash}
use Rattle.mini_laws.specs.declared.names.Clash.TheVariants as clash
use Rattle.mini_laws.specs.declared.names.Declaration.{Declaration}
use Rattle.mini_laws.specs.declared.names.Jump.{Jump}
use Rattle.mini_laws.specs.declared.names.Jump.TheVariants as jump
use Rattle.mini_laws.specs.declared.names.Turn.{Turn}
use Rattle.mini_laws.specs.declared.names.Turn.TheVariants as turn
use Rattle.mini_laws.specs.declared.names.Label.{Label}
use Rattle.mini_laws.specs.declared.names.Targets.{Targets}
use Rattle.mini_laws.specs.declared.names.Declared.{Declared}
use Rattle.mini_laws.specs.declared.names.Declared.TheVariants as declared
use Rattle.mini_laws.specs.declared.names.Place.{Place}
use Rattle.mini_laws.specs.declared.names.Place.TheVariants as place
use Rattle.mini_laws.specs.DeclaredNames.{place_of}

-- the indices from the root to a node
abbrev pub Path : Type 0
Path = List ℕ

-- ---- names that are declared twice

-- the declarations that a tree at a place holds, in order: the table is that of the names
abbrev pub choose_by : Place → List Declaration → List Declaration → List Declaration → List Declaration → List Declaration
choose_by place.Here own first bound below = own
choose_by place.FirstBound own first bound below = first
choose_by place.Bound own first bound below = bound
choose_by place.Below own first bound below = below
choose_by place.Nowhere own first bound below = []

abbrev pub own_declarations : Bool → Path → List Name → List Declaration
own_declarations l p xs = map (λ x. record { spelling = x.spelling; is_lexical = l; at = p }) xs

unfoldable mutual
  pub declarations : Declared → Bool → Path → Tree → List Declaration
  declarations d l p (node h xs n ts) = choose_by (place_of d h) (own_declarations l p xs) (first_declarations l p ts) (all_declarations declared.Bound l p 0 ts) (all_declarations d l p 0 ts)

  pub first_declarations : Bool → Path → Trees → List Declaration
  first_declarations l p none = []
  first_declarations l p (t ▸ ts) = declarations declared.Bound l (p ++ 0 ∷ []) t

  pub all_declarations : Declared → Bool → Path → ℕ → Trees → List Declaration
  all_declarations d l p i none = []
  all_declarations d l p i (t ▸ ts) = declarations d l (p ++ i ∷ []) t ++ all_declarations d l p (suc i) ts

-- functions are like `var` directly in the body of a script or a function
abbrev pub is_function_shape : Shape → Bool
is_function_shape (shape.Function d g ds) = true
is_function_shape _ = false

-- what a statement declares: in such a body (true), or elsewhere
abbrev pub statement_declarations : Bool → Path → Tree → List Declaration
statement_declarations b p t = declarations declared.Lexical (not (b && is_function_shape (shape_of t))) p t ++ declarations declared.Hoisted false p t

-- what holds the statements of a body, in order
abbrev pub holds_statements : Shape → Bool
holds_statements shape.Listed = true
holds_statements shape.FunctionBody = true
holds_statements shape.SwitchCase = true
holds_statements _ = false

unfoldable mutual
  pub body_declarations : Bool → Path → Tree → List Declaration
  body_declarations b p (node h xs n ts) = if holds_statements h then all_body_declarations b p 0 ts else statement_declarations b p (node h xs n ts)

  pub all_body_declarations : Bool → Path → ℕ → Trees → List Declaration
  all_body_declarations b p i none = []
  all_body_declarations b p i (t ▸ ts) = body_declarations b (p ++ i ∷ []) t ++ all_body_declarations b p (suc i) ts

-- the parameter of a `catch` alone may have the name of a `var` in its body
abbrev pub is_pattern_shape : Shape → Bool
is_pattern_shape shape.BindingIdentifier = false
is_pattern_shape _ = true

-- what must not clash in the scopes that a node opens
abbrev pub clash_of : Shape → Clash
clash_of (shape.Program is_module ds) = clash.Body (not is_module)
clash_of shape.StaticBlock = clash.Body true
clash_of shape.BlockStatement = clash.Body false
clash_of (shape.Function d g ds) = clash.Function 1 2
clash_of (shape.ArrowFunctionExpression ds) = clash.Function 0 1
clash_of shape.SwitchStatement = clash.Switch
clash_of shape.CatchClause = clash.Catch
clash_of shape.ForStatement = clash.Loop 3
clash_of shape.ForInStatement = clash.Loop 2
clash_of shape.ForOfStatement = clash.Loop 2
clash_of h = clash.Nothing

-- the declarations that the child at an index holds
abbrev pub at_child : Declared → Bool → Path → Trees → ℕ → List Declaration
at_child d l p ts i = declarations d l (p ++ i ∷ []) (child_or_absent ts i)

abbrev pub in_body : Bool → Path → Trees → ℕ → List Declaration
in_body b p ts i = body_declarations b (p ++ i ∷ []) (child_or_absent ts i)

abbrev pub children_of_node : Tree → Trees
children_of_node (node h xs n ts) = ts

-- a parameter of a `catch`, and what its block holds
abbrev pub in_param : Path → Trees → List Declaration
in_param p ts = at_child declared.Bound (is_pattern_shape (shape_of (child_or_absent ts 0))) p ts 0

abbrev pub in_block : Path → Trees → List Declaration
in_block p ts = in_body false (p ++ 1 ∷ []) (children_of_node (child_or_absent ts 1)) 0

abbrev pub declarations_by : Clash → Path → Trees → List Declaration
declarations_by clash.Nothing p ts = []
declarations_by (clash.Body b) p ts = in_body b p ts 0
declarations_by (clash.Function i j) p ts = at_child declared.Bound false p ts i ++ in_body true p ts j
declarations_by clash.Switch p ts = in_body false p ts 1
declarations_by clash.Catch p ts = in_param p ts ++ in_block p ts
declarations_by (clash.Loop i) p ts = at_child declared.Lexical true p ts 0 ++ at_child declared.Hoisted false p ts i

unfoldable pub scope_declarations : Shape → Path → Trees → List Declaration
scope_declarations h p ts = declarations_by (clash_of h) p ts

-- two declarations of one name, one of them lexical
abbrev pub clashes : Declaration → Declaration → Bool
clashes d e = (d.is_lexical || e.is_lexical) && same_text e.spelling d.spelling

abbrev pub clashes_any : Declaration → List Declaration → Bool
clashes_any d [] = false
clashes_any d (e ∷ es) = clashes d e || clashes_any d es

-- those that clash with an earlier one, given the earlier ones
abbrev pub clashing : List Declaration → List Declaration → List Path
clashing earlier [] = []
clashing earlier (d ∷ ds) = if clashes_any d earlier then d.at ∷ clashing (earlier ++ d ∷ []) ds else clashing (earlier ++ d ∷ []) ds

-- the places of the names that are declared twice
unfoldable mutual
  pub early_names : Path → Tree → List Path
  early_names p (node h xs n ts) = clashing [] (scope_declarations h p ts) ++ all_early_names p 0 ts

  pub all_early_names : Path → ℕ → Trees → List Path
  all_early_names p i none = []
  all_early_names p i (t ▸ ts) = early_names (p ++ i ∷ []) t ++ all_early_names p (suc i) ts

-- ---- jumps without a target

abbrev pub no_targets : Targets
no_targets = record { labels = []; breaks = false; continues = false; returns = false; yields = false }

-- the text of a label, where there is one
abbrev pub label_by : Shape → Option (List ℕ)
label_by (shape.IdentifierName s) = Some s
label_by _ = None

abbrev pub label_in : Trees → Option (List ℕ)
label_in ts = label_by (shape_of (child_or_absent ts 0))

abbrev pub is_loop_shape : Shape → Bool
is_loop_shape shape.WhileStatement = true
is_loop_shape shape.DoWhileStatement = true
is_loop_shape shape.ForStatement = true
is_loop_shape shape.ForInStatement = true
is_loop_shape shape.ForOfStatement = true
is_loop_shape _ = false

abbrev pub is_labeled : Shape → Bool
is_labeled shape.LabeledStatement = true
is_labeled _ = false

-- whether a statement is a loop, labels aside: a labeled one is one where its body is, its last
-- child
unfoldable mutual
  pub is_loop : Tree → Bool
  is_loop (node h xs n ts) = if is_labeled h then last_is_loop ts else is_loop_shape h

  pub last_is_loop : Trees → Bool
  last_is_loop none = false
  last_is_loop (t ▸ ts) = last_by (is_loop t) ts

  pub last_by : Bool → Trees → Bool
  last_by b none = b
  last_by b (t ▸ ts) = last_by (is_loop t) ts

-- what a child can jump to, beside what its node can
abbrev pub turn_of : Shape → ℕ → Turn
turn_of shape.WhileStatement (suc i) = turn.InLoop
turn_of shape.DoWhileStatement zero = turn.InLoop
turn_of shape.ForStatement (suc (suc (suc i))) = turn.InLoop
turn_of shape.ForInStatement (suc (suc i)) = turn.InLoop
turn_of shape.ForOfStatement (suc (suc i)) = turn.InLoop
turn_of shape.SwitchStatement (suc i) = turn.InSwitch
turn_of shape.LabeledStatement i = turn.Labeled
turn_of (shape.Function d g ds) i = turn.InFunction g
turn_of (shape.ArrowFunctionExpression ds) i = turn.InFunction false
turn_of shape.StaticBlock i = turn.Outside
turn_of (shape.PropertyDefinition computed is_static) (suc i) = turn.Outside
turn_of h i = turn.Same

-- a label names a loop where the statement after it is one
abbrev pub label_for : Trees → Label
label_for ts = record { name = unwrap_or (label_in ts) []; is_loop = is_loop (child_or_absent ts 1) }

abbrev pub turned : Turn → Trees → Targets → Targets
turned turn.Same ts a = a
turned turn.InLoop ts a = record a { breaks = true; continues = true }
turned turn.InSwitch ts a = record a { breaks = true }
turned turn.Labeled ts a = record a { labels = a.labels ++ label_for ts ∷ [] }
turned (turn.InFunction yields) ts a = record no_targets { returns = true; yields = yields }
turned turn.Outside ts a = no_targets

-- the targets of the child at an index
unfoldable pub targets_of : Shape → Trees → Targets → ℕ → Targets
targets_of h ts a i = turned (turn_of h i) ts a

abbrev pub has_label : List ℕ → List Label → Bool
has_label s [] = false
has_label s (l ∷ ls) = same_text l.name s || has_label s ls

abbrev pub has_loop_label : List ℕ → List Label → Bool
has_loop_label s [] = false
has_loop_label s (l ∷ ls) = (same_text l.name s && l.is_loop) || has_loop_label s ls

-- what kind of jump a node is; or a label, which must be a new one
abbrev pub jump_of : Shape → Jump
jump_of shape.BreakStatement = jump.Break
jump_of shape.ContinueStatement = jump.Continue
jump_of shape.LabeledStatement = jump.Label
jump_of shape.ReturnStatement = jump.Return
jump_of (shape.YieldExpression delegate) = jump.Yield
jump_of h = jump.Nothing

abbrev pub is_bad : Jump → Option (List ℕ) → Targets → Bool
is_bad jump.Break None a = not a.breaks
is_bad jump.Break (Some s) a = not (has_label s a.labels)
is_bad jump.Continue None a = not a.continues
is_bad jump.Continue (Some s) a = not (has_loop_label s a.labels)
is_bad jump.Label None a = false
is_bad jump.Label (Some s) a = has_label s a.labels
is_bad jump.Return l a = not a.returns
is_bad jump.Yield l a = not a.yields
is_bad jump.Nothing l a = false

abbrev pub is_bad_jump : Shape → Trees → Targets → Bool
is_bad_jump h ts a = is_bad (jump_of h) (label_in ts) a

-- the places of such jumps
unfoldable mutual
  pub early_jumps : Targets → Path → Tree → List Path
  early_jumps a p (node h xs n ts) = (if is_bad_jump h ts a then p ∷ [] else []) ++ all_early_jumps (targets_of h ts a) p 0 ts

  pub all_early_jumps : (ℕ → Targets) → Path → ℕ → Trees → List Path
  all_early_jumps targets p i none = []
  all_early_jumps targets p i (t ▸ ts) = early_jumps (targets i) (p ++ i ∷ []) t ++ all_early_jumps targets p (suc i) ts
