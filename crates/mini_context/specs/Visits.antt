-- A walk over a tree, as the list of its nodes, each before what is below it.
use Rattle.std.specs.Prelude.{ℕ, suc, false, List, [], ◌∷◌, ◌++◌, map, Bool, true, ◌&&◌, not}
use Rattle.std.specs.List.{filter}
use Rattle.mini_model.specs.declared.name.Name.{Name}
use Rattle.mini_model.specs.Tree.{Tree, Trees, node, none, ◌▸◌, shape_of, children}
use Rattle.mini_node.specs.Children.{names_of, number_of}
use Rattle.mini_laws.specs.NameBodies.{Frame, Body, no_frame, frame_at, frame_of_body, own_body, own_fixed}
use Rattle.mini_laws.specs.declared.names.Use.TheVariants.{Read}
use Rattle.mini_laws.specs.Mentions.{Mention, own_mentions, around_child, numbering_of, outermost}
use Rattle.mini_laws.specs.Scopes.{use_of}
use Rattle.mini_model.specs.declared.shape.Shape.{Shape}
use Rattle.mini_model.specs.declared.shape.Shape.TheVariants as shape
use Rattle.mini_laws.specs.declared.names.Declared.TheVariants as declared
use Rattle.mini_laws.specs.DeclaredNames.{own_names}
use Rattle.mini_laws.specs.DeclaredNames.{names_of as names_declared}
use Rattle.mini_laws.specs.References.{writes}
use Rattle.mini_laws.specs.Shared.{given_values, write_at, own_caught, reached_params}
use Rattle.mini_laws.specs.Foreign.{is_body_by, own_lexical, own_pattern_names, own_switched}
use Rattle.mini_context.specs.declared.exchanges.Exchange.{Exchange}
use Rattle.mini_context.specs.declared.exchanges.Exchange.TheVariants as exchange
use Rattle.mini_laws.specs.Strict.{is_strict_in}
use Rattle.mini_context.specs.declared.standing.Frame.{Frame as FrameHeld}
use Rattle.mini_context.specs.declared.standing.Reading.{Reading}
use Rattle.mini_context.specs.declared.standing.Standing.{Standing}
use Rattle.mini_context.specs.declared.survey.Tables.{Tables}
use Rattle.mini_context.specs.Enclosing.{own_params, Enclosed}
use Rattle.mini_context.specs.Lists.{Housed}
use Rattle.mini_context.specs.Mentioned.{Joined}
use Rattle.mini_context.specs.Tables.{Marked, Noted}

-- what `this` and `arguments` are, as the code holds it
abbrev pub frame_in : FrameHeld → Frame
frame_in f = record { extends = f.extends; constructs = f.constructs; binds_this = f.binds_this; has_arguments = f.has_arguments }

abbrev pub frame_by : Frame → FrameHeld
frame_by f = record { extends = f.extends; constructs = f.constructs; binds_this = f.binds_this; has_arguments = f.has_arguments }

-- in which children what a module imports and exports may be named (ECMA-262, "ImportEntries",
-- "ExportEntries")
abbrev pub is_exchange_shape : Shape → Bool
is_exchange_shape (shape.Program is_module ds) = true
is_exchange_shape shape.Listed = true
is_exchange_shape shape.ExportNamedDeclaration = true
is_exchange_shape shape.ExportSpecifier = true
is_exchange_shape h = false

-- in which children an import may stand
abbrev pub is_import_shape : Shape → Bool
is_import_shape (shape.Program is_module ds) = true
is_import_shape shape.Listed = true
is_import_shape h = false

-- where a program stands
abbrev pub top : Standing
top = record { usage = Read; around = outermost; strict = false; exchanges = true; imports = true; in_body = false; frame = frame_by no_frame }

-- what holds around a node's child at an index
abbrev pub below : Standing → Tree → ℕ → Standing
below a t i = record {
  usage = use_of (shape_of t) a.usage i;
  around = around_child (shape_of t) a.around (number_of t) i;
  strict = is_strict_in a.strict (shape_of t);
  exchanges = a.exchanges && is_exchange_shape (shape_of t);
  imports = a.imports && is_import_shape (shape_of t);
  in_body = is_body_by (shape_of t) a.in_body;
  frame = frame_by (frame_at (shape_of t) (frame_in a.frame) (children t) i);
}

-- the part of that which most walks ask for
abbrev pub first_reading : Reading
first_reading = record { usage = Read; around = outermost; strict = false }

abbrev pub reading_below : Reading → Tree → ℕ → Reading
reading_below a t i = record { usage = use_of (shape_of t) a.usage i; around = around_child (shape_of t) a.around (number_of t) i; strict = is_strict_in a.strict (shape_of t) }

-- a node that is come to
pub record Visit : Type 0 where
  pub standing : Standing
  pub tree : Tree

unfoldable mutual
  pub visits : Standing → Tree → List Visit
  visits a (node h xs n ts) = record { standing = a; tree = node h xs n ts } ∷ visits_from (below a (node h xs n ts)) 0 ts

  pub visits_from : (ℕ → Standing) → ℕ → Trees → List Visit
  visits_from at i none = []
  visits_from at i (t ▸ ts) = visits (at i) t ++ visits_from at (suc i) ts

-- what the nodes give, in order
abbrev pub given : {A : Type 0} → (Visit → List A) → List Visit → List A
given f [] = []
given f (v ∷ vs) = f v ++ given f vs

abbrev pub fixed_at : Visit → List Name
fixed_at v = own_fixed (shape_of v.tree) (children v.tree)

abbrev pub bodies_at : Visit → List Body
bodies_at v = own_body (numbering_of (shape_of v.tree) (number_of v.tree)) (number_of v.tree) (frame_of_body (shape_of v.tree) (frame_in v.standing.frame))

abbrev pub mentions_at : Visit → List Mention
mentions_at v = own_mentions v.standing.usage v.standing.around (shape_of v.tree) (names_of v.tree)

-- of an `import` or `export` what it declares, and the names of specifiers
abbrev pub exchanged_by : Bool → Exchange → List Name → List Name → List Name → List Name
exchanged_by true exchange.Lexical own lexical hoisted = lexical
exchanged_by true exchange.Declared own lexical hoisted = lexical ++ hoisted
exchanged_by true exchange.Own own lexical hoisted = own
exchanged_by b e own lexical hoisted = []

abbrev pub exchange_of : Shape → Exchange
exchange_of shape.ImportDeclaration = exchange.Lexical
exchange_of shape.ExportDefaultDeclaration = exchange.Lexical
exchange_of shape.ExportNamedDeclaration = exchange.Declared
exchange_of shape.Identifier = exchange.Own
exchange_of h = exchange.Nothing

abbrev pub exchanged_at : Visit → List Name
exchanged_at v = exchanged_by v.standing.exchanges (exchange_of (shape_of v.tree)) (own_names v.tree) (names_declared declared.Lexical v.tree) (names_declared declared.Hoisted v.tree)

-- imports
abbrev pub imported_here : Bool → Shape → List Name → List Name
imported_here true shape.ImportDeclaration lexical = lexical
imported_here b h lexical = []

abbrev pub imported_at : Visit → List Name
imported_at v = imported_here v.standing.imports (shape_of v.tree) (names_declared declared.Lexical v.tree)

abbrev pub patterns_at : Visit → List Name
patterns_at v = own_pattern_names (shape_of v.tree) (number_of v.tree) (children v.tree)

abbrev pub lexical_at : Visit → List Name
lexical_at v = own_lexical v.standing.in_body (shape_of v.tree) (children v.tree)

abbrev pub switched_at : Visit → List Name
switched_at v = own_switched (shape_of v.tree) (children v.tree)

-- what `var`s write
abbrev pub values_at : Visit → List Mention
values_at v = map (write_at v.standing.around) (given_values v.standing.usage (shape_of v.tree) (names_of v.tree) (children v.tree))

abbrev pub caught_at : Visit → List Name
caught_at v = own_caught (shape_of v.tree) (children v.tree)

abbrev pub enclosing_at : Visit → List Tree
enclosing_at v = own_params (shape_of v.tree) (children v.tree)

-- mentions that write, and those that bind
abbrev pub is_writing : Mention → Bool
is_writing m = not m.binds && writes m.used

abbrev pub is_binding : Mention → Bool
is_binding m = m.binds

abbrev pub writes_at : Visit → List Mention
writes_at v = filter is_writing (mentions_at v)

abbrev pub binds_at : Visit → List Mention
binds_at v = filter is_binding (mentions_at v)

abbrev pub reached_at : Visit → List Name
reached_at v = reached_params (is_strict_in v.standing.strict (shape_of v.tree)) (shape_of v.tree) (children v.tree)

-- what a walk past these nodes puts into the tables
pub record Surveyed (vs : List Visit) (old new : Tables) : Type 0 where
  pub fixed : Marked (given fixed_at vs) old.fixed.items new.fixed.items
  pub this_events : Noted (λ f. f.binds_this) (given bodies_at vs) old.this_events.items new.this_events.items
  pub arguments : Noted (λ f. f.has_arguments) (given bodies_at vs) old.arguments.items new.arguments.items
  pub mentions : Joined (given mentions_at vs) old.mentioned.items new.mentioned.items
  pub exchanged : Marked (given exchanged_at vs) old.exchanged.items new.exchanged.items
  pub reached : Marked (given reached_at vs) old.reached.items new.reached.items
  pub imported : Marked (given imported_at vs) old.imported.items new.imported.items
  pub patterns : Marked (given patterns_at vs) old.patterns.items new.patterns.items
  pub lexical : Marked (given lexical_at vs) old.lexical.items new.lexical.items
  pub switched : Marked (given switched_at vs) old.switched.items new.switched.items
  pub caught : Marked (given caught_at vs) old.caught.items new.caught.items
  pub values : Joined (given values_at vs) old.given.items new.given.items
  pub written : Joined (given writes_at vs) old.written.items new.written.items
  pub homes : Housed (given binds_at vs) old.homes.items new.homes.items
  pub enclosing : Enclosed (given enclosing_at vs) old.enclosing new.enclosing
