-- A text that is one program's, and what refuses one.
use Rattle.std.specs.Prelude.{ℕ, ◌≡◌, Bool, true, false, ◌&&◌, List, [], Some, None}
use Rattle.mini_model.specs.declared.shape.Shape.{Shape}
use Rattle.mini_model.specs.declared.shape.Shape.TheVariants as shape
use Rattle.mini_model.specs.Tree.{Tree, Trees, none, ◌▸◌, shape_of, children}
use Rattle.mini_node.specs.Children.{names_of}
use Rattle.mini_print.specs.Token.{Token}
use Rattle.mini_print.specs.Grammar.{Leading}
use Rattle.mini_print.specs.Groups.{GroupsProgram, items_goal}
use Rattle.mini_print.specs.Printed.{Style, printers, lay_block, undirected, directives, styled_program, program_is_printable, are_printable, bare_program, is_module_of, is_list, has_no_names}
use Rattle.mini_print.specs.Unprintable.{Reserved, BadText, first_fault}
use Rattle.mini_tokens.specs.Spelling.{IsTold}
use Rattle.mini_faults.specs.Depth.{may_print}
use Rattle.mini_faults.specs.declared.error.PrintError.{PrintError}
use Rattle.mini_faults.specs.declared.error.PrintError.TheVariants as error

-- a text that is one program's: it splits into tokens in one way, and these group to that program
-- and to no other. Numbers, symbols and the nodes that stand round inner expressions count for
-- nothing, and so do braces round an `if` with no `else` that stands right before an `else`
pub record IsTextOf (splits : List ℕ → List Token → Type 0) (t : Tree) (u : List ℕ) : Type 0 where
  pub tokens : List Token
  pub split : splits u tokens
  pub alone : (ts : List Token) → splits u ts → ts ≡ tokens
  pub groups : GroupsProgram (is_module_of t) (bare_program t) tokens
  pub only : (v : Tree) → GroupsProgram (is_module_of t) v tokens → v ≡ bare_program t

-- the grammar has the tokens of the program, and a text has them
abbrev pub IsPrintable : Style → Tree → Type 0
IsPrintable style t = (program_is_printable t ≡ true) × IsTold style (styled_program style t)

-- what an error says of the program: its first fault, that it nests too deep, or that it has no
-- fault and can't be printed.
-- Want of memory tells nothing
abbrev pub IsRefusalOf : Style → Tree → PrintError → Type 0
IsRefusalOf style t error.OutOfMemory = Unit {0}
IsRefusalOf style t (error.Reserved at) = first_fault t ≡ Some (record { at = at; cause = Reserved })
IsRefusalOf style t (error.BadText at) = first_fault t ≡ Some (record { at = at; cause = BadText })
IsRefusalOf style t error.TooDeep = may_print t ≡ false
IsRefusalOf style t error.Unprintable = (first_fault t ≡ None) × (IsPrintable style t → ⊥)

-- the same of what is told before there are tokens
abbrev pub IsRefusedBefore : Tree → PrintError → Type 0
IsRefusedBefore t error.OutOfMemory = Unit {0}
IsRefusedBefore t (error.Reserved at) = first_fault t ≡ Some (record { at = at; cause = Reserved })
IsRefusedBefore t (error.BadText at) = first_fault t ≡ Some (record { at = at; cause = BadText })
IsRefusedBefore t error.TooDeep = may_print t ≡ false
IsRefusedBefore t error.Unprintable = (first_fault t ≡ None) × (program_is_printable t ≡ false)

-- ---- a program, and one whose statements are in the order of their text

abbrev pub is_program_shape : Shape → Bool
is_program_shape (shape.Program b ds) = true
is_program_shape _ = false

abbrev pub is_plain_list : Tree → Bool
is_plain_list t = is_list (shape_of t) && has_no_names (names_of t)

abbrev pub has_none : Trees → Bool
has_none none = true
has_none (t ▸ ts) = false

abbrev pub is_one_list : Trees → Bool
is_one_list none = false
is_one_list (t ▸ ts) = is_plain_list t && has_none ts

abbrev pub is_program : Tree → Bool
is_program t = is_program_shape (shape_of t) && (has_no_names (names_of t) && is_one_list (children t))

abbrev pub first_children : Trees → Trees
first_children none = none
first_children (t ▸ ts) = children t

abbrev pub laid_items : Style → Shape → Trees → List Token
laid_items style (shape.Program b ds) is = lay_block Leading (printers style (directives ds)) (undirected (lay_block (items_goal b) (printers style is) []))
laid_items style _ is = []

-- the tokens of a program whose statements are in the order of their text
abbrev pub laid_program : Style → Tree → List Token
laid_program style t = laid_items style (shape_of t) (first_children (children t))

abbrev pub holds_printable : Shape → Trees → Bool
holds_printable (shape.Program b ds) is = are_printable Leading false (directives ds) && are_printable (items_goal b) false is
holds_printable _ is = false

-- whether the grammar has them
abbrev pub is_laid : Tree → Bool
is_laid t = holds_printable (shape_of t) (first_children (children t))

-- what refuses such a program
abbrev pub IsUnlaid : Style → Tree → PrintError → Type 0
IsUnlaid style t error.OutOfMemory = Unit {0}
IsUnlaid style t (error.Reserved at) = ⊥
IsUnlaid style t (error.BadText at) = ⊥
IsUnlaid style t error.TooDeep = ⊥
IsUnlaid style t error.Unprintable = (is_laid t ≡ true) × IsTold style (laid_program style t) → ⊥
