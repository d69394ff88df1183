-- 62, `remove_unused_name`: `f(function g() { return 1; })` becomes `f(function () { return 1; })`,
-- and `f(class C {})` becomes `f(class {})`.
use Rattle.std.specs.Prelude.{nat_eq, Bool, true, false, not, ◌&&◌, List, [], ◌∷◌}
use Rattle.mini_model.specs.declared.name.Name.{Name}
use Rattle.mini_model.specs.declared.place.Position.{Position}
use Rattle.mini_model.specs.declared.shape.Shape.{Shape}
use Rattle.mini_model.specs.declared.shape.Shape.TheVariants as shape
use Rattle.mini_model.specs.Tree.{Tree, Trees, shape_of, child_or_absent, children, count, absent}
use Rattle.mini_laws.specs.ScopeList.{any_has_eval}
use Rattle.mini_node.specs.Children.{names_of, part, with_part, rest_children}
use Rattle.mini_node.specs.Kinds.{is_absent_part}
use Rattle.mini_rows.specs.Names.{NameRow, NameContracts}
use Rattle.mini_rows.specs.Switches.{Switches, let_go}
use Rattle.mini_rows.specs.Unused.{any_names}
use Rattle.mini_tree.specs.declared.options.CompressOptions.{CompressOptions}
use Rattle.mini_tree.specs.Rule as rule
pub use Rattle.mini_unused.specs.Allowed.{switches_of}
use Rattle.mini_unused.specs.RemoveUnusedDeclaration.{is_resolved_binding}

abbrev pub is_nameless : List Name → Bool
is_nameless [] = true
is_nameless (x ∷ xs) = false

-- a function's name, parameters and body; a class's name, what it extends and its body, and no name
-- that is held once more
abbrev pub has_its_parts : Shape → Trees → Bool
has_its_parts (shape.Function is_declaration is_generator directives) ts = nat_eq (count ts) 3
has_its_parts (shape.Class is_declaration) ts = nat_eq (count ts) 4 && is_absent_part (child_or_absent ts 3)
has_its_parts h ts = false

-- nothing after the name has its spelling or symbol, and no direct eval stands there
abbrev pub is_unseen : List Name → Trees → Bool
is_unseen [] ts = false
is_unseen (x ∷ xs) ts = not (any_names x (rest_children 1 ts)) && not (any_has_eval (rest_children 1 ts))

-- the expression loses its name
abbrev pub loses_it : Switches → Tree → Bool
loses_it o t = let_go o (shape_of t) && (is_nameless (names_of t) && (has_its_parts (shape_of t) (children t) && (is_resolved_binding (part t 0) && is_unseen (names_of (part t 0)) (children t))))

abbrev pub nameless : Tree → Tree
nameless t = with_part t 0 absent

-- the row reads it as nothing
abbrev pub Rests : Switches → Position → Tree → Type 0
Rests o p n = (w : Tree) → NameRow o p n w → ⊥

-- one call of the rule
abbrev pub Applied : Switches → Position → Tree → Tree → Bool → Type 0
Applied o = rule.Applied (NameContracts o) (Rests o)

-- as a rule: under some options, whatever the program is
abbrev pub Gives : CompressOptions → Tree → Position → Tree → Tree → Type 0
Gives o q = NameContracts (switches_of o)

abbrev pub RestsUnder : CompressOptions → Tree → Position → Tree → Type 0
RestsUnder o q = Rests (switches_of o)
