-- A row's step at a path: the first of the row's forms that fits and is lighter in its place.
use Rattle.std.specs.Prelude.{ℕ, zero, Bool, nat_lt, nat_eq, List, [], ◌∷◌, Option, Some, None, option_and_then, if◌then◌else◌}
use Rattle.mini_model.specs.declared.place.Position.{Position}
use Rattle.mini_model.specs.declared.place.Position.TheVariants.{Expr, Stmt, Elsewhere}
use Rattle.mini_model.specs.Paths.{Path}
use Rattle.mini_model.specs.Position.{is_and_or}
use Rattle.mini_model.specs.Tree.{Tree}
use Rattle.mini_model.specs.Weight.{weight}
use Rattle.mini_laws.specs.Value.{VariableSet}
use Rattle.mini_log.specs.declared.row.LogRow.{LogRow}
use Rattle.mini_log.specs.declared.row.LogRow.TheVariants as row
use Rattle.mini_log.specs.KnownRows.{folded_unary, folded_binary, before_nothing, behind_nothing, is_coalesce, stopped, passed, both, one_branch, both_branches}
use Rattle.mini_log.specs.ChoiceRows.{negated, rotated, swapped, swapped_equal, own_consequent, own_alternate, same_alternate, same_consequent, chosen, disjoined, conjoined, else_conjoined, else_disjoined}
use Rattle.mini_log.specs.SpellingRows.{untemplated, dotted, dotted_target, dotted_update, combined, turned, ordered, compared, null_left, null_right, bare_return, bare_yield, spelled}
use Rattle.mini_log.specs.ListRows.{in_list, first_by, bare_let, bare_export, bare_head, gone, joined, spread, unwrapped}
use Rattle.mini_log.specs.Walk.{step_at}

-- what a row may write for the node that the path leads to, form by form. W has the variables that
-- can be written
abbrev pub node_forms : VariableSet → LogRow → Position → Tree → List (Option Tree)
node_forms W row.Row1 (Expr s) t = folded_unary s t ∷ []
node_forms W row.Row3 (Expr s) t = folded_binary s t ∷ []
node_forms W row.Row7 (Expr s) t = before_nothing s t ∷ behind_nothing s t ∷ []
node_forms W row.Row12 (Expr s) t = stopped is_and_or s t ∷ []
node_forms W row.Row13 (Expr s) t = passed is_and_or s t ∷ both is_and_or t ∷ []
node_forms W row.Row15 (Expr s) t = passed is_coalesce s t ∷ both is_coalesce t ∷ stopped is_coalesce s t ∷ []
node_forms W row.Row19 (Expr s) t = untemplated t ∷ []
node_forms W row.Row23 (Expr s) t = negated s t ∷ []
node_forms W row.Row33 (Expr s) t = dotted t ∷ dotted_target t ∷ dotted_update t ∷ []
node_forms W row.Row34 (Expr s) t = combined W t ∷ []
node_forms W row.Row39 (Expr s) t = rotated t ∷ []
node_forms W row.Row40 (Expr s) t = swapped t ∷ swapped_equal t ∷ []
node_forms W row.Row41 (Expr s) t = own_consequent t ∷ own_alternate t ∷ []
node_forms W row.Row42 (Expr s) t = same_alternate t ∷ same_consequent t ∷ []
node_forms W row.Row49 (Expr s) t = one_branch s t ∷ both_branches t ∷ []
node_forms W row.Row54 (Expr s) t = turned t ∷ []
node_forms W row.Row55 (Expr s) t = ordered t ∷ compared t ∷ []
node_forms W row.Row58 (Expr s) t = null_left t ∷ null_right t ∷ []
node_forms W row.Row60 (Expr s) t = bare_yield t ∷ []
node_forms W row.Row60 (Stmt q) t = bare_return t ∷ []
node_forms W row.Row65 (Expr s) t = spelled t ∷ []
node_forms W row.Row82 (Stmt q) t = chosen t ∷ disjoined t ∷ conjoined t ∷ else_conjoined t ∷ else_disjoined t ∷ []
node_forms W _ _ t = []

-- what a row may write for a list of statements, or for a statement that has a branch or a body,
-- which is named by the node at this index. `sequences` is the option of that name
abbrev pub held_forms : Bool → LogRow → Position → Tree → ℕ → List (Option Tree)
held_forms sequences row.Row61 (Stmt q) t i = bare_head t i ∷ []
held_forms sequences row.Row61 p t i = in_list (first_by bare_let) p t i ∷ []
held_forms sequences row.Row66 p t i = in_list gone p t i ∷ in_list (joined sequences) p t i ∷ []
held_forms sequences row.Row79 (Stmt q) t i = unwrapped t i ∷ []
held_forms sequences row.Row79 p t i = in_list spread p t i ∷ []
held_forms sequences _ p t i = []

-- and by the first child of the node at this index: the declaration of an export
abbrev pub export_forms : LogRow → Position → Tree → ℕ → List (Option Tree)
export_forms row.Row61 p t i = in_list (first_by bare_export) p t i ∷ []
export_forms _ p t i = []

-- told the rest of the path
abbrev pub forms : Bool → VariableSet → LogRow → Position → Tree → Path → List (Option Tree)
forms sequences W r p t [] = node_forms W r p t
forms sequences W r p t (i ∷ []) = held_forms sequences r p t i
forms sequences W r p t (i ∷ (zero ∷ [])) = export_forms r p t i
forms sequences W r p t q = []

-- the first that is there and weighs less than this
abbrev pub or_lighter : Position → Tree → Option Tree → Option Tree → Option Tree
or_lighter p t (Some w) rest = if nat_lt (weight p w) (weight p t) then Some w else rest
or_lighter p t None rest = rest

abbrev pub first_lighter : Position → Tree → List (Option Tree) → Option Tree
first_lighter p t [] = None
first_lighter p t (w ∷ ws) = or_lighter p t w (first_lighter p t ws)

abbrev pub row_at : Bool → VariableSet → LogRow → Position → Tree → Path → Option Tree
row_at sequences W r p t q = first_lighter p t (forms sequences W r p t q)

-- the program that the row makes at the path, or nothing
abbrev pub row_step : Bool → VariableSet → LogRow → Tree → Path → Option Tree
row_step sequences W r t q = step_at (row_at sequences W r) Elsewhere t q

-- ---- logs

-- the number of a row
abbrev pub row_number : LogRow → ℕ
row_number row.Row1 = 1
row_number row.Row3 = 3
row_number row.Row7 = 7
row_number row.Row12 = 12
row_number row.Row13 = 13
row_number row.Row15 = 15
row_number row.Row19 = 19
row_number row.Row23 = 23
row_number row.Row33 = 33
row_number row.Row34 = 34
row_number row.Row39 = 39
row_number row.Row40 = 40
row_number row.Row41 = 41
row_number row.Row42 = 42
row_number row.Row49 = 49
row_number row.Row54 = 54
row_number row.Row55 = 55
row_number row.Row58 = 58
row_number row.Row60 = 60
row_number row.Row61 = 61
row_number row.Row65 = 65
row_number row.Row66 = 66
row_number row.Row79 = 79
row_number row.Row82 = 82

-- the 24 rows
abbrev pub rows : List LogRow
rows = row.Row1 ∷ row.Row3 ∷ row.Row7 ∷ row.Row12 ∷ row.Row13 ∷ row.Row15 ∷ row.Row19 ∷ row.Row23 ∷ row.Row33 ∷ row.Row34 ∷ row.Row39 ∷ row.Row40 ∷ row.Row41 ∷ row.Row42 ∷ row.Row49 ∷ row.Row54 ∷ row.Row55 ∷ row.Row58 ∷ row.Row60 ∷ row.Row61 ∷ row.Row65 ∷ row.Row66 ∷ row.Row79 ∷ row.Row82 ∷ []

-- the row of this number, if there is one
abbrev pub row_among : List LogRow → ℕ → Option LogRow
row_among [] k = None
row_among (r ∷ rs) k = if nat_eq (row_number r) k then Some r else row_among rs k

abbrev pub row_numbered : ℕ → Option LogRow
row_numbered k = row_among rows k

-- an entry names a row by its number
pub record Entry : Type 0 where
  pub at : Path
  pub row : ℕ

abbrev pub entry_step : Bool → VariableSet → Tree → Entry → Option Tree
entry_step sequences W t x = option_and_then (λ r. row_step sequences W r t x.at) (row_numbered x.row)

-- the program after all entries of a log, or nothing where one has no step
abbrev pub replayed : Bool → VariableSet → Tree → List Entry → Option Tree
replayed sequences W t [] = Some t
replayed sequences W t (x ∷ log) = option_and_then (λ u. replayed sequences W u log) (entry_step sequences W t x)
