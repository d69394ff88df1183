-- What a tree keeps that stands for another: the names that it declares, the symbols of all names
-- in it, the numbers of its nodes, and that it has no early error.
use Rattle.std.specs.Prelude.{ℕ, ◌≡◌, ◌+◌, ◌≤◌, ◌||◌, nat_eq, Bool, true, false, List, [], ◌∷◌, if◌then◌else◌}
use Rattle.mini_model.specs.declared.place.Position.{Position}
use Rattle.mini_model.specs.declared.place.Position.TheVariants.{Expr, Stmt, StatementList, BodyList, ArgumentList, SequenceList, TemplateList}
use Rattle.mini_model.specs.Tree.{Tree, shape_of}
use Rattle.mini_laws.specs.declared.names.Use.{Use}
use Rattle.mini_laws.specs.declared.names.Use.TheVariants.{Read, Alone}
use Rattle.mini_laws.specs.declared.names.Declaration.{Declaration}
use Rattle.mini_laws.specs.declared.names.Targets.{Targets}
use Rattle.mini_laws.specs.DeclaredNames.{is_inner}
use Rattle.mini_laws.specs.Resolved.{Environment}
use Rattle.mini_laws.specs.Scoped.{Scoped}
use Rattle.mini_laws.specs.Edits.{Kept}
use Rattle.mini_laws.specs.Early.{Path, body_declarations, in_body, children_of_node, early_names, early_jumps, is_loop}
use Rattle.mini_kept.specs.Carried.{numbers}
use Rattle.mini_kept.specs.Frames.{unbracketed}

-- the names of an expression are read, and those of a list of statements; a statement stands in
-- such a list, or alone as a branch or a body; what else stands at a place may be used in any way
abbrev pub is_read : Use → Bool
is_read Read = true
is_read _ = false

abbrev pub is_statement_use : Use → Bool
is_statement_use Read = true
is_statement_use Alone = true
is_statement_use _ = false

abbrev pub is_used : Position → Use → Bool
is_used (Expr s) u = is_read u
is_used (Stmt q) u = is_statement_use u
is_used ArgumentList u = is_read u
is_used (SequenceList s) u = is_read u
is_used TemplateList u = is_read u
is_used StatementList u = is_read u
is_used BodyList u = is_read u
is_used p u = true

-- an inner expression stands for itself
abbrev pub Stands : Position → Use → Tree → Type 0
Stands p u t = (is_inner (shape_of t) || is_used p u) ≡ true

-- where rewrites are made, of expressions, of statements and of lists of statements: what else
-- stands at a place keeps its root
abbrev pub is_rewritten_place : Position → Bool
is_rewritten_place (Expr s) = true
is_rewritten_place (Stmt q) = true
is_rewritten_place StatementList = true
is_rewritten_place BodyList = true
is_rewritten_place p = false

-- declarations, wherever they stand: whether two clash doesn't depend on it
abbrev pub unplaced : List Declaration → List Declaration
unplaced [] = []
unplaced (d ∷ ds) = record d { at = [] } ∷ unplaced ds

-- no name in it is declared twice, and no jump in it lacks its target; the tree stands at a path
abbrev pub NamesOnce : Path → Tree → Type 0
NamesOnce q t = early_names q t ≡ []

abbrev pub HasTargets : Targets → Path → Tree → Type 0
HasTargets a q t = early_jumps a q t ≡ []

-- how often a number stands in a list
abbrev pub count_of : ℕ → List ℕ → ℕ
count_of k [] = 0
count_of k (n ∷ ns) = (if nat_eq n k then 1 else 0) + count_of k ns

pub record Keeps (p : Position) (t u : Tree) : Type 0 where
  -- the names that it declares to the scopes around it, and no symbol is declared more often in it
  pub kept : Kept t u
  -- each name in it has the symbol that the scopes around it give, if so it was
  pub scoped : (v : Use) (env : Environment) → Stands p v t → Scoped v env t → Scoped v env u
  -- no number stands in it more often
  pub numbers : (k : ℕ) → count_of k (numbers u) ≤ count_of k (numbers t)
  -- what it declares as a body, or as a statement in one, as early errors see it
  pub declared_as_body : (b : Bool) (q : Path) → unplaced (body_declarations b q u) ≡ unplaced (body_declarations b q t)
  -- no early errors
  pub once : (q : Path) → NamesOnce q t → NamesOnce q u
  pub targets : (a : Targets) (q : Path) → HasTargets a q t → HasTargets a q u
  pub loop : is_loop u ≡ is_loop t
  -- its root, but where rewrites are made, whether or not its key stands in brackets
  pub root : is_rewritten_place p ≡ false → unbracketed (shape_of u) ≡ unbracketed (shape_of t)
  pub block : is_rewritten_place p ≡ false → (b : Bool) (q : Path) → unplaced (in_body b q (children_of_node u) 0) ≡ unplaced (in_body b q (children_of_node t) 0)
