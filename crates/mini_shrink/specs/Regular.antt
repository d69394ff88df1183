-- What of a program's shape the order of reads and declarations rests on: a list that declares
-- names holds statements, declarators and cases, and imports stand at the top.
use Rattle.std.specs.Prelude.{ℕ, ◌≡◌, ◌⊎◌, Bool, true, false, not, ◌&&◌, ◌||◌, []}
use Rattle.mini_model.specs.declared.shape.Shape.{Shape}
use Rattle.mini_model.specs.declared.shape.Shape.TheVariants as shape
use Rattle.mini_model.specs.Tree.{Tree, Trees, node, none, ◌▸◌}
use Rattle.mini_accept.specs.WellShaped.{IsWellShaped}
use Rattle.mini_laws.specs.declared.names.Use.TheVariants.{Read}
use Rattle.mini_laws.specs.declared.names.Declared.TheVariants as declared
use Rattle.mini_laws.specs.declared.names.Place.{Place}
use Rattle.mini_laws.specs.declared.names.Place.TheVariants as place
use Rattle.mini_laws.specs.DeclaredNames.{bound_place, all_names}
use Rattle.mini_laws.specs.ScopeList.{by_symbol}
use Rattle.mini_laws.specs.Value.{Declared}
use Rattle.mini_laws.specs.Mentions.{is_among, outermost}
use Rattle.mini_laws.specs.Foreign.{imported_names, is_read_early, moments, is_foreign}
use Rattle.mini_kept.specs.Loosely.{undeclared}
use Rattle.mini_shrink.specs.Pace.{pace}
use Rattle.mini_shrink.specs.Questions.{at_program, early}
use Rattle.mini_shrink.specs.Told.{is_reads, is_foreign_name}

abbrev pub is_nowhere : Place → Bool
is_nowhere place.Nowhere = true
is_nowhere p = false

-- what stands in such a list binds names by declarators alone
abbrev pub is_item : Shape → Bool → Bool
is_item shape.Listed below = below
is_item shape.VariableDeclarator below = true
is_item h below = is_nowhere (bound_place h)

unfoldable mutual
  pub declares_alone : Tree → Bool
  declares_alone (node h xs n ts) = is_item h (all_declare_alone ts)

  pub all_declare_alone : Trees → Bool
  all_declare_alone none = true
  all_declare_alone (t ▸ ts) = declares_alone t && all_declare_alone ts

-- what stands in such a place is no list of other binders
abbrev pub is_listed_alone : Tree → Bool
is_listed_alone (node shape.Listed xs n ts) = all_declare_alone ts
is_listed_alone t = true

-- the nodes in whose children names are declared one after another
abbrev pub declares_in_order : Shape → Bool
declares_in_order shape.SwitchCase = true
declares_in_order (shape.VariableDeclaration k) = true
declares_in_order shape.ExportNamedDeclaration = true
declares_in_order shape.ExportDefaultDeclaration = true
declares_in_order (shape.Program m ds) = true
declares_in_order shape.FunctionBody = true
declares_in_order shape.StaticBlock = true
declares_in_order shape.BlockStatement = true
declares_in_order shape.ForStatement = true
declares_in_order shape.ForInStatement = true
declares_in_order shape.ForOfStatement = true
declares_in_order shape.SwitchStatement = true
declares_in_order h = false

-- those hold no other binders, and neither does a `catch` behind its parameter
abbrev pub items_of : Shape → Trees → Bool
items_of shape.CatchClause (t ▸ ts) = is_listed_alone t && all_declare_alone ts
items_of h ts = not (declares_in_order h) || all_declare_alone ts

-- no node imports the symbol
abbrev pub imports_no : ℕ → Shape → Trees → Bool
imports_no s shape.ImportDeclaration ts = not (is_among (by_symbol s) (all_names declared.Bound ts))
imports_no s h ts = true

unfoldable mutual
  pub is_regular : ℕ → Tree → Bool
  is_regular s (node h xs n ts) = (items_of h ts && imports_no s h ts) && all_regular s ts

  pub all_regular : ℕ → Trees → Bool
  all_regular s none = true
  all_regular s (t ▸ ts) = is_regular s t && all_regular s ts

-- Where it is so, a body that reads a name early by all moments of the program does so by the ends
-- that scopes tell
abbrev pub EarlyByScopes : Type 0
EarlyByScopes = (t : Tree) (b s : ℕ) → is_regular s t ≡ true → is_read_early b (by_symbol s) (moments Read outermost t) ≡ true → is_reads (pace (early b s) at_program [] t) ≡ true

-- of a name, or it is imported
abbrev pub IsRegular : ℕ → Tree → Type 0
IsRegular s t = (is_regular s t ≡ true) ⊎ (is_among (by_symbol s) (imported_names t) ≡ true)

-- And of a name that the program declares, what is foreign by all names and moments is so by what
-- shrinks
abbrev pub ForeignByScopes : Type 0
ForeignByScopes = (t : Tree) (b s : ℕ) → IsRegular s t → undeclared t (Declared s) ≡ false → is_foreign t b (by_symbol s) ≡ true → is_foreign_name t b s ≡ true

-- Each program is
abbrev pub ProgramsAreRegular : Type 0
ProgramsAreRegular = (t : Tree) (s : ℕ) → IsWellShaped t → IsRegular s t
