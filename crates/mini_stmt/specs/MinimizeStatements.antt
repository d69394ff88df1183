-- `minimize_statements`: the rows of lists, over a whole list.
use Rattle.std.specs.Prelude.{◌≡◌, Bool, true, false, not, ◌&&◌, ◌||◌, Option, Some, None, if◌then◌else◌}
use Rattle.mini_model.specs.declared.kind.VariableDeclarationKind.{VariableDeclarationKind}
use Rattle.mini_model.specs.declared.place.Position.{Position}
use Rattle.mini_model.specs.declared.place.Position.TheVariants.{StatementList}
use Rattle.mini_model.specs.Tree.{Tree, Trees, none, ◌▸◌, listed}
use Rattle.mini_model.specs.Paths.{append}
use Rattle.mini_node.specs.Children.{part}
use Rattle.mini_node.specs.Kinds.{is_absent_part, is_empty_statement}
use Rattle.mini_tree.specs.declared.options.CompressOptions.{CompressOptions}
use Rattle.mini_tree.specs.Rule as rule
use Rattle.mini_rows.specs.Switches.{Switches}
use Rattle.mini_rows.specs.Lists.{StretchRow, InList, ListRow, ListContracts}
use Rattle.mini_stmt.specs.declared.lead.Lead.{Lead}
use Rattle.mini_stmt.specs.declared.lead.Lead.TheVariants.{Expression, Declaration, Return, Throw, Nothing}
use Rattle.mini_stmt.specs.Terms.{is_joinable_statement}
use Rattle.mini_stmt.specs.JoinExpressions.{joined_expressions}
use Rattle.mini_stmt.specs.JoinHeads.{has_joinable_head, has_free_init, has_joinable_right, with_joined_head, with_init, with_joined_right}
use Rattle.mini_stmt.specs.JoinVars.{declared_kind, declares, takes_declaration, with_declaration}
use Rattle.mini_stmt.specs.JoinJumps.{guards_return, guards_throw, returns_answer, throws_answer, returns_nothing, joined_returns, joined_throws}
use Rattle.mini_stmt.specs.SplitIf.{splits}
use Rattle.mini_stmt.specs.SpreadBlock.{spreads}

abbrev pub switches_of : CompressOptions → Switches
switches_of o = record { sequences = o.sequences; join_vars = o.join_vars; keep_function_names = o.keep_names.function; keep_class_names = o.keep_names.class; edition = o.edition }

-- a row reads the statement by itself
abbrev pub is_read : Switches → Tree → Bool
is_read o t = is_empty_statement t || (spreads t || (o.sequences && splits t))

-- how it may be joined to the next one
abbrev pub declaring : Option VariableDeclarationKind → Lead
declaring (Some k) = Declaration k
declaring None = Nothing

abbrev pub lead_of : Tree → Lead
lead_of t =
    if is_joinable_statement t then Expression else (
    if guards_return t then Return (is_absent_part (part (part t 1) 0)) else (
    if guards_throw t then Throw else declaring (declared_kind t)))

abbrev pub takes_expression : Tree → Bool
takes_expression u = is_joinable_statement u || (has_joinable_head u || (has_free_init u || has_joinable_right u))

-- what stands before is joined to it, and one statement is left
abbrev pub joins : Switches → Lead → Tree → Bool
joins o Expression u = o.sequences && takes_expression u
joins o (Declaration k) u = (o.join_vars && declares k u) || (o.sequences && takes_declaration k u)
joins o (Return is_bare) u = o.sequences && returns_answer u
joins o Throw u = o.sequences && throws_answer u
joins o Nothing u = false

abbrev pub with_expression : Tree → Tree → Tree
with_expression t u =
    if is_joinable_statement u then joined_expressions t u else (
    if has_joinable_head u then with_joined_head t u else (
    if has_free_init u then with_init t u else with_joined_right t u))

-- that one
abbrev pub joined_to : Lead → Tree → Tree → Tree
joined_to Expression t u = with_expression t u
joined_to (Declaration k) t u = with_declaration k t u
joined_to (Return is_bare) t u = joined_returns t u
joined_to Throw t u = joined_throws t u
joined_to Nothing t u = u

-- both jump with nothing, so that the test alone is left before it
abbrev pub jumps_anyway : Switches → Lead → Tree → Bool
jumps_anyway o (Return true) u = o.sequences && returns_nothing u
jumps_anyway o _ u = false

-- no row reads one of them or two neighbours, of which the first comes after such a one
abbrev pub is_quiet_after : Switches → Lead → Trees → Bool
is_quiet_after o l none = true
is_quiet_after o l (t ▸ ts) = not (is_read o t || (joins o l t || jumps_anyway o l t)) && is_quiet_after o (lead_of t) ts

abbrev pub is_quiet : Switches → Trees → Bool
is_quiet o ts = is_quiet_after o Nothing ts

-- how the last one may be joined to what is put after it
abbrev pub last_lead_after : Lead → Trees → Lead
last_lead_after l none = l
last_lead_after l (t ▸ ts) = last_lead_after (lead_of t) ts

abbrev pub last_lead : Trees → Lead
last_lead ts = last_lead_after Nothing ts

-- from the last to the first
abbrev pub reversed : Trees → Trees
reversed none = none
reversed (t ▸ ts) = append (reversed ts) (t ▸ none)

-- steps of the rows, and at least one
abbrev pub Moves : Switches → Tree → Tree → Type 0
Moves o t u = rule.Moves (ListContracts o) StatementList t u

-- whether the list changed: by steps of the rows, or not at all
abbrev pub Changes : Switches → Trees → Trees → Bool → Type 0
Changes o t u true = Moves o (listed t) (listed u)
Changes o t u false = u ≡ t

-- a list is minimized by steps of the rows, and no row reads what is left
pub record Minimized (o : Switches) (t u : Trees) (changed : Bool) : Type 0 where
  pub changes : Changes o t u changed
  pub quiet : is_quiet o u ≡ true

-- no row reads the list but one that joins guards
abbrev pub InStretches : Switches → Position → Tree → Tree → Type 0
InStretches o StatementList n w = InList (StretchRow o) n w
InStretches o _ n w = ⊥

abbrev pub StretchRests : Switches → Position → Tree → Type 0
StretchRests o p t = (w : Tree) → InStretches o p t w → ⊥

-- a statement is put after the others, whatever comes after it
pub record Placed (o : Switches) (before : Trees) (t : Tree) (after : Trees) (changed : Bool) : Type 0 where
  pub changes : (rest : Trees) → Changes o (append before (t ▸ rest)) (append after rest) changed
  pub quiet : is_quiet o before ≡ true → is_read o t ≡ false → is_quiet o after ≡ true

-- the node of a list: it changes by steps of the rows, or it is the same and no such row reads it
abbrev pub JoinsStatements : Switches → Tree → Tree → Bool → Type 0
JoinsStatements o t u changed = rule.Applied (ListContracts o) (StretchRests o) StatementList t u changed

-- no row reads the list
abbrev pub Rests : Switches → Position → Tree → Type 0
Rests o p t = (w : Tree) → ListRow o p t w → ⊥

-- or no row at all
abbrev pub MinimizesList : Switches → Tree → Tree → Bool → Type 0
MinimizesList o t u changed = rule.Applied (ListContracts o) (Rests o) StatementList t u changed

-- as a rule: under some options, whatever the program is
abbrev pub Gives : CompressOptions → Tree → Position → Tree → Tree → Type 0
Gives o q = ListContracts (switches_of o)

abbrev pub RestsUnder : CompressOptions → Tree → Position → Tree → Type 0
RestsUnder o q = Rests (switches_of o)
