-- The variables that are foreign to a body: others may change them while it runs, or they may be
-- uninitialised where it reads them.
use Rattle.std.specs.Prelude.{ℕ, suc, nat_eq, Bool, true, false, ◌&&◌, ◌||◌, not, List, [], ◌∷◌, ◌++◌, map, is_none, if◌then◌else◌}
use Rattle.std.specs.List.{list_any}
use Rattle.mini_model.specs.declared.kind.VariableDeclarationKind.TheVariants.{Var}
use Rattle.mini_model.specs.declared.name.Name.{Name}
use Rattle.mini_model.specs.declared.shape.Shape.{Shape}
use Rattle.mini_model.specs.declared.shape.Shape.TheVariants as shape
use Rattle.mini_model.specs.Tree.{Tree, Trees, node, none, ◌▸◌}
use Rattle.mini_laws.specs.declared.names.Use.{Use}
use Rattle.mini_laws.specs.declared.names.Use.TheVariants.{Read}
use Rattle.mini_laws.specs.declared.names.Around.{Around}
use Rattle.mini_laws.specs.declared.names.Declared.TheVariants as declared
use Rattle.mini_laws.specs.DeclaredNames.{names_of, all_names, bound_names, first_names}
use Rattle.mini_laws.specs.Scopes.{use_of}
use Rattle.mini_laws.specs.References.{reads, writes}
use Rattle.mini_laws.specs.ScopeList.{seen_by_eval}
use Rattle.mini_laws.specs.Mentions.{Mention, own_mentions, around_child, outermost, program_mentions, is_elsewhere, same_variable, is_among, is_variable}
use Rattle.mini_laws.specs.Shared.{script_tops, reached_by_arguments, program_var_writes, program_pattern_writes, is_shared}

-- imported names
abbrev pub imported_by : Shape → List Name → List Name → List Name
imported_by (shape.Program is_module ds) lexical below = below
imported_by shape.Listed lexical below = below
imported_by shape.ImportDeclaration lexical below = lexical
imported_by h lexical below = []

unfoldable mutual
  pub imported_names : Tree → List Name
  imported_names (node h xs n ts) = imported_by h (names_of declared.Lexical (node h xs n ts)) (all_imported_names ts)

  pub all_imported_names : Trees → List Name
  all_imported_names none = []
  all_imported_names (t ▸ ts) = imported_names t ++ all_imported_names ts

-- the names that patterns bind: a parameter with a default that is carried stands for a pattern of
-- its name
abbrev pub own_pattern_names : Shape → ℕ → Trees → List Name
own_pattern_names shape.ObjectPattern n ts = all_names declared.Bound ts
own_pattern_names shape.ArrayPattern n ts = all_names declared.Bound ts
own_pattern_names shape.AssignmentPattern (suc n) ts = all_names declared.Bound ts
own_pattern_names h n ts = []

unfoldable mutual
  pub pattern_names : Tree → List Name
  pattern_names (node h xs n ts) = own_pattern_names h n ts ++ all_pattern_names ts

  pub all_pattern_names : Trees → List Name
  all_pattern_names none = []
  all_pattern_names (t ▸ ts) = pattern_names t ++ all_pattern_names ts

-- ---- what may be uninitialised (ECMA-262, "let and const Declarations": the temporal dead zone)

-- where a statement stands directly in the body of a script or a function, in which functions are
-- no lexical names
abbrev pub is_body_by : Shape → Bool → Bool
is_body_by (shape.Program is_module ds) b = not is_module
is_body_by shape.FunctionBody b = true
is_body_by shape.StaticBlock b = true
is_body_by shape.Listed b = b
is_body_by shape.ExportNamedDeclaration b = b
is_body_by shape.ExportDefaultDeclaration b = b
is_body_by h b = false

-- the lexical names that a node declares: every name but a `var`, a function directly in such a
-- body, and a parameter of a function
abbrev pub own_lexical : Bool → Shape → Trees → List Name
own_lexical b (shape.VariableDeclaration Var) ts = []
own_lexical b (shape.VariableDeclaration k) ts = all_names declared.Bound ts
own_lexical true (shape.Function true g ds) ts = []
own_lexical b (shape.Function declaration g ds) ts = first_names ts
own_lexical b (shape.Class declaration) (id ▸ super_class ▸ body ▸ again ▸ ts) = bound_names id ++ bound_names again
own_lexical b shape.CatchClause ts = first_names ts
own_lexical b shape.ImportDeclaration ts = all_names declared.Bound ts
own_lexical b h ts = []

unfoldable mutual
  pub lexical_variables : Bool → Tree → List Name
  lexical_variables b (node h xs n ts) = own_lexical b h ts ++ all_lexical_variables (is_body_by h b) ts

  pub all_lexical_variables : Bool → Trees → List Name
  all_lexical_variables b none = []
  all_lexical_variables b (t ▸ ts) = lexical_variables b t ++ all_lexical_variables b ts

-- those directly in a `switch`
abbrev pub own_switched : Shape → Trees → List Name
own_switched shape.SwitchStatement ts = all_names declared.Lexical ts
own_switched h ts = []

unfoldable mutual
  pub switched : Tree → List Name
  switched (node h xs n ts) = own_switched h ts ++ all_switched ts

  pub all_switched : Trees → List Name
  all_switched none = []
  all_switched (t ▸ ts) = switched t ++ all_switched ts

-- in the order of evaluation: a name is read, or its declaration has ended
pub record Moment : Type 0 where
  pub name : Name
  pub ends : Bool
  pub around : Around

abbrev pub reads_at : List Mention → List Moment
reads_at [] = []
reads_at (m ∷ ms) = if not m.binds && reads m.used then record { name = m.name; ends = false; around = m.around } ∷ reads_at ms else reads_at ms

abbrev pub ends_at : Around → List Name → List Moment
ends_at a xs = map (λ x. record { name = x; ends = true; around = a }) xs

-- the names whose declaration ends with a node; a parameter of `catch` is there before the block
abbrev pub ended_by : Shape → Trees → List Name
ended_by shape.VariableDeclarator ts = first_names ts
ended_by (shape.Function true g ds) ts = first_names ts
ended_by (shape.Class true) ts = first_names ts
ended_by shape.CatchClause ts = first_names ts
ended_by h ts = []

abbrev pub joined : {A : Type 0} → List (List A) → List A
joined [] = []
joined (l ∷ ls) = l ++ joined ls

-- the moments of the children and the ends that follow, in order: the right side of a `for..in` or
-- `for..of` is evaluated before its head
abbrev pub in_order : {A : Type 0} → Shape → List (List A) → List A → List A
in_order shape.ForInStatement (left ∷ (right ∷ rest)) ends = right ++ left ++ joined rest ++ ends
in_order shape.ForOfStatement (left ∷ (right ∷ rest)) ends = right ++ left ++ joined rest ++ ends
in_order shape.CatchClause (param ∷ rest) ends = param ++ ends ++ joined rest
in_order h ls ends = joined ls ++ ends

unfoldable mutual
  pub moments : Use → Around → Tree → List Moment
  moments u a (node h xs n ts) = reads_at (own_mentions u a h xs) ++ in_order h (moments_from (use_of h u) (around_child h a n) 0 ts) (ends_at a (ended_by h ts))

  pub moments_from : (ℕ → Use) → (ℕ → Around) → ℕ → Trees → List (List Moment)
  moments_from uses arounds i none = []
  moments_from uses arounds i (t ▸ ts) = moments (uses i) (arounds i) t ∷ moments_from uses arounds (suc i) ts

-- whether a body reads a variable before its declaration has ended
abbrev pub is_read_early : ℕ → Name → List Moment → Bool
is_read_early b x [] = false
is_read_early b x (m ∷ ms) = if same_variable x m.name then (if m.ends then false else (not (is_elsewhere b m.around) || is_read_early b x ms)) else is_read_early b x ms

-- the parameters of the functions among whose parameters the body with a number stands
unfoldable mutual
  pub has_number : ℕ → Tree → Bool
  has_number b (node h xs n ts) = nat_eq n b || any_has_number b ts

  pub any_has_number : ℕ → Trees → Bool
  any_has_number b none = false
  any_has_number b (t ▸ ts) = has_number b t || any_has_number b ts

abbrev pub params_with : ℕ → Tree → List Name
params_with b params = if has_number b params then bound_names params else []

abbrev pub own_params_around : ℕ → Shape → Trees → List Name
own_params_around b (shape.Function d g ds) (id ▸ params ▸ ts) = params_with b params
own_params_around b (shape.ArrowFunctionExpression ds) (params ▸ ts) = params_with b params
own_params_around b h ts = []

unfoldable mutual
  pub params_around : ℕ → Tree → List Name
  params_around b (node h xs n ts) = own_params_around b h ts ++ all_params_around b ts

  pub all_params_around : ℕ → Trees → List Name
  all_params_around b none = []
  all_params_around b (t ▸ ts) = params_around b t ++ all_params_around b ts

-- a body declares a variable where a name in it, and in no carried node, binds it
abbrev pub is_declared_in : Tree → ℕ → Name → Bool
is_declared_in t b x = list_any (λ m. same_variable x m.name && m.binds && not (is_elsewhere b m.around)) (program_mentions t)

abbrev pub may_be_uninitialised : Tree → ℕ → Name → Bool
may_be_uninitialised t b x =
    (is_among x (lexical_variables false t) && (not (is_declared_in t b x) || is_among x (switched t) || is_read_early b x (moments Read outermost t)))
    || is_among x (params_around b t)

-- ---- Foreign

-- what is written: names that are assigned to, and what a `var` gives a value
abbrev pub is_write : Name → Mention → Bool
is_write x m = same_variable x m.name && not m.binds && writes m.used

abbrev pub all_writes : Tree → List Mention
all_writes t = program_var_writes t ++ program_mentions t

-- whether a variable is foreign to every body that may mention it
abbrev pub is_foreign_always : Tree → Name → Bool
is_foreign_always t x =
    is_none x.symbol || is_among x (imported_names t) || is_among x (script_tops t) || is_among x (seen_by_eval t) || is_among x (reached_by_arguments false t)
    || is_among x (pattern_names t) || is_among x (program_pattern_writes t)

-- whether a variable is foreign to a body: it is so always; or it is shared and written elsewhere;
-- or it is declared outside the body and written by any; or it may be uninitialised where the body
-- reads it
abbrev pub is_foreign : Tree → ℕ → Name → Bool
is_foreign t b x = is_variable x && (
    is_foreign_always t x
    || (is_shared t b x && list_any (λ m. is_write x m && is_elsewhere b m.around) (all_writes t))
    || (not (is_declared_in t b x) && list_any (is_write x) (all_writes t))
    || may_be_uninitialised t b x)
