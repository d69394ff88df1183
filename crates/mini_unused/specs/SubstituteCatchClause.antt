-- 63, `substitute_catch_clause`: `catch (e) { f(); }` becomes `catch { f(); }`.
use Rattle.std.specs.Prelude.{ℕ, Bool, true, false, not, ◌&&◌, List, [], ◌∷◌}
use Rattle.mini_model.specs.declared.name.Name.{Name}
use Rattle.mini_model.specs.declared.place.Position.{Position}
use Rattle.mini_model.specs.declared.shape.Shape.{Shape}
use Rattle.mini_model.specs.declared.shape.Shape.TheVariants as shape
use Rattle.mini_model.specs.Tree.{Tree, shape_of, absent}
use Rattle.mini_laws.specs.ScopeList.{has_eval}
use Rattle.mini_node.specs.Children.{names_of, part, with_part, is_bare}
use Rattle.mini_rows.specs.Catches.{CatchRow, CatchContracts}
use Rattle.mini_rows.specs.Editions.{CatchesIn}
use Rattle.mini_rows.specs.Unused.{names}
use Rattle.mini_tree.specs.declared.options.CompressOptions.{CompressOptions}
use Rattle.mini_tree.specs.Rule as rule
use Rattle.mini_unused.specs.RemoveUnusedDeclaration.{is_resolved_binding}

abbrev pub is_handler_shape : Shape → Bool
is_handler_shape shape.CatchClause = true
is_handler_shape _ = false

-- nothing in the body has the name's spelling or symbol, and no direct eval stands there
abbrev pub is_unseen : List Name → Tree → Bool
is_unseen [] t = false
is_unseen (x ∷ xs) t = not (names x t) && not (has_eval t)

-- the handler loses the name of what it catches
abbrev pub loses_it : Tree → Bool
loses_it t = is_handler_shape (shape_of t) && (is_bare t 2 && (is_resolved_binding (part t 0) && is_unseen (names_of (part t 0)) (part t 1)))

abbrev pub nameless : Tree → Tree
nameless t = with_part t 0 absent

-- the row reads it as nothing
abbrev pub Rests : Position → Tree → Type 0
Rests p n = (w : Tree) → CatchRow p n w → ⊥

-- what the rule makes where the edition that is asked for has a `catch` without a parameter, and
-- there alone
abbrev pub Gives : CompressOptions → Position → Tree → Tree → Type 0
Gives o = CatchesIn o.edition

abbrev pub RestsIn : ℕ → Position → Tree → Type 0
RestsIn e p n = (w : Tree) → CatchesIn e p n w → ⊥

abbrev pub RestsUnder : CompressOptions → Position → Tree → Type 0
RestsUnder o = RestsIn o.edition

abbrev pub AppliedIn : ℕ → Position → Tree → Tree → Bool → Type 0
AppliedIn e = rule.Applied (CatchesIn e) (RestsIn e)

-- one call of the rewrite
abbrev pub Applied : Position → Tree → Tree → Bool → Type 0
Applied = rule.Applied CatchContracts Rests
