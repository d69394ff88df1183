-- 74: `if (a) s; if (b) s;` becomes `if (a || b) s`, where s ends in a jump. 77: `return a; b();`
-- becomes `return a;`.
use Rattle.std.specs.Prelude.{◌≡◌, Bool, true, false, not, ◌&&◌, ◌||◌, if◌then◌else◌}
use Rattle.mini_model.specs.declared.operator.LogicalOperator.TheVariants.{Or}
use Rattle.mini_model.specs.declared.place.Position.{Position}
use Rattle.mini_model.specs.declared.place.Position.TheVariants.{StatementList}
use Rattle.mini_model.specs.declared.shape.Shape.{Shape}
use Rattle.mini_model.specs.declared.shape.Shape.TheVariants as shape
use Rattle.mini_model.specs.Tree.{Tree, Trees, none, ◌▸◌, shape_of, absent, if_else, logical}
use Rattle.mini_model.specs.Paths.{append}
use Rattle.mini_node.specs.Children.{part, is_bare}
use Rattle.mini_node.specs.Equal.{same_tree}
use Rattle.mini_node.specs.Kinds.{is_absent_part, is_expression_statement, is_if_alone, is_if_statement, is_return_statement, is_throw_statement}
use Rattle.mini_terms.specs.Parts.{leaves_nothing}
use Rattle.mini_tree.specs.Rule as rule
use Rattle.mini_rows.specs.Switches.{Switches}
use Rattle.mini_rows.specs.Lists.{is_terminated, GuardsRow, InList, ListContracts}
use Rattle.mini_rows.specs.Nesting.{may_join}
use Rattle.mini_stmt.specs.MinimizeStatements.{Changes, StretchRests}
use Rattle.mini_stmt.specs.DropUnreached.{is_reached}

-- `if (a) s`, and then an `if (b)` with the branch s, where `a || b` may be put deeper
abbrev pub are_guards : Tree → Tree → Bool
are_guards t u = is_if_alone t && (is_terminated (part t 1) && (is_if_statement u && (same_tree (part t 1) (part u 1) && may_join (part t 0) (part u 0))))

-- `break;` or `continue;`
abbrev pub is_leap_shape : Shape → Bool
is_leap_shape shape.BreakStatement = true
is_leap_shape shape.ContinueStatement = true
is_leap_shape _ = false

abbrev pub leaps : Tree → Bool
leaps u = is_leap_shape (shape_of u) && (is_bare u 1 && is_absent_part (part u 0))

-- `a;`, `return a;` or `throw a;`, which leaves nothing behind when it goes
abbrev pub is_idle : Tree → Bool
is_idle u = (is_expression_statement u || (is_return_statement u || is_throw_statement u)) && leaves_nothing (part u 0)

-- either of them
abbrev pub may_go : Tree → Bool
may_go u = is_idle u || leaps u

-- a statement that ends in a jump, and one that never runs
abbrev pub ends_before : Tree → Tree → Bool
ends_before t u = is_terminated t && may_go u

-- the two are one
abbrev pub meets : Tree → Tree → Bool
meets t u = ends_before t u || are_guards t u

-- `if (a || b) s`, with the `else` of the second
abbrev pub both_guards : Tree → Tree → Tree
both_guards t u = if_else (logical Or (part t 0) (part u 0)) (part u 1) (part u 2)

-- that one
abbrev pub met : Tree → Tree → Tree
met t u = if ends_before t u then t else both_guards t u

-- the first two of them
abbrev pub meet_first : Trees → Bool
meet_first (t ▸ (u ▸ ts)) = meets t u
meet_first _ = false

-- no two neighbours
abbrev pub are_apart : Trees → Bool
are_apart none = true
are_apart (t ▸ ts) = not (meet_first (t ▸ ts)) && are_apart ts

abbrev pub is_apart : Switches → Trees → Bool
is_apart o ts = not o.sequences || (are_apart ts && is_reached ts)

-- the last one, or nothing
abbrev pub last_after : Tree → Trees → Tree
last_after l none = l
last_after l (t ▸ ts) = last_after t ts

abbrev pub meets_last : Trees → Tree → Bool
meets_last ts u = meets (last_after absent ts) u

-- whether the list changed, where the option lets it
abbrev pub Changed : Trees → Trees → Bool → Type 0
Changed t u changed = (o : Switches) → o.sequences ≡ true → Changes o t u changed

-- a statement is put after the others, whatever comes after it
pub record PutJoined (before : Trees) (t : Tree) (after : Trees) (changed : Bool) : Type 0 where
  pub changes : (rest : Trees) → Changed (append before (t ▸ rest)) (append after rest) changed
  pub apart : changed ≡ false → are_apart before ≡ true → are_apart after ≡ true

-- a list changes, or no two neighbours in it are so
pub record Joined (t u : Trees) (changed : Bool) : Type 0 where
  pub changes : Changed t u changed
  pub apart : changed ≡ false → are_apart u ≡ true

-- a list changes, or none is left and what never runs is gone
pub record Settled (t u : Trees) (changed : Bool) : Type 0 where
  pub changes : Changed t u changed
  pub apart : changed ≡ false → are_apart u ≡ true
  pub reached : changed ≡ false → is_reached u ≡ true

-- no row of these reads the list
abbrev pub InGuards : Switches → Position → Tree → Tree → Type 0
InGuards o StatementList n w = InList (GuardsRow o) n w
InGuards o _ n w = ⊥

abbrev pub Rests : Switches → Position → Tree → Type 0
Rests o p t = (w : Tree) → InGuards o p t w → ⊥

-- the node of a list
abbrev pub JoinsGuards : Switches → Tree → Tree → Bool → Type 0
JoinsGuards o t u changed = rule.Applied (ListContracts o) (Rests o) StatementList t u changed

-- no row but those of assignments reads it
abbrev pub OthersRest : Switches → Position → Tree → Type 0
OthersRest o p t = StretchRests o p t × Rests o p t

-- the node of a list, by those rows
abbrev pub JoinsOthers : Switches → Tree → Tree → Bool → Type 0
JoinsOthers o t u changed = rule.Applied (ListContracts o) (OthersRest o) StatementList t u changed
