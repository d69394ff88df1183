-- What a relation of rewriting has to keep of the nodes that it replaces, for a program to keep its
-- frames.
use Rattle.std.specs.Prelude.{◌≡◌, ◌⊎◌, ℕ, suc, Bool, true, false, List, [], None}
use Rattle.mini_model.specs.declared.place.Position.{Position}
use Rattle.mini_model.specs.declared.place.Position.TheVariants.{StatementList, BodyList}
use Rattle.mini_model.specs.declared.shape.Shape.TheVariants as shape
use Rattle.mini_model.specs.Tree.{Tree, node, none, ◌▸◌, shape_of, children}
use Rattle.mini_accept.specs.WellShaped.{Depth, Class, a_statement, a_block, a_catch, an_init, an_arrow_body, an_expression, a_link, a_chain, an_argument, a_key, a_default_export, a_loop_left, a_declarator, a_target, a_simple_target, a_member_target, a_class_member, a_pattern_property, a_target_property, Slot, one, one_or_absent, many, fits}
use Rattle.mini_kept.specs.Placed.{is_statement_list, fits_place}
use Rattle.mini_kept.specs.Lifted.{KeepsNames}
use Rattle.mini_laws.specs.Value.{nothing}
use Rattle.mini_laws.specs.Bodies.{Around, bodies}
use Rattle.mini_kept.specs.ShownFrames.{KeyGiven, Shows, Gone, none_gone, FramesShown}
use Rattle.mini_kept.specs.Frames.{part, is_declaration, is_port, ports as ports_of, frames, FramesKept}

-- where a statement, a block, what handles a throw, a declarator or an expression of a body may
-- stand, and what is assigned to in one
abbrev pub is_in_body : Class → Bool
is_in_body (a_statement d) = true
is_in_body a_block = true
is_in_body a_catch = true
is_in_body an_init = true
is_in_body an_arrow_body = true
is_in_body an_expression = true
is_in_body a_link = true
is_in_body a_chain = true
is_in_body an_argument = true
is_in_body (a_key is_computed) = is_computed
is_in_body a_default_export = true
is_in_body (a_loop_left enumerates) = true
is_in_body a_declarator = true
is_in_body a_target = true
is_in_body a_simple_target = true
is_in_body a_member_target = true
is_in_body c = false

-- and where a list of statements may
abbrev pub is_body_slot : Position → Slot → Bool
is_body_slot p (one c) = is_in_body c
is_body_slot p (one_or_absent c) = is_in_body c
is_body_slot StatementList (many (a_statement d)) = true
is_body_slot BodyList (many (a_statement d)) = true
is_body_slot p s = false

-- where what has a key may stand, other than in an object literal: a property of a pattern or of
-- what is assigned to, a method or a field
abbrev pub is_keyed : Class → Bool
is_keyed a_class_member = true
is_keyed a_pattern_property = true
is_keyed a_target_property = true
is_keyed c = false

abbrev pub is_keyed_slot : Slot → Bool
is_keyed_slot (one c) = is_keyed c
is_keyed_slot (one_or_absent c) = is_keyed c
is_keyed_slot s = false

-- the frame around it shows the same, or no brackets where the key in them gives the property that
-- stands there then
abbrev pub IsShownAlike : Slot → Tree → Tree → Type 0
IsShownAlike s n w = (is_keyed_slot s ≡ true) × ((a : Around) → Shows (KeyGiven nothing (bodies a n)) (part n) (part w))

-- neither is an import, an export or a function
abbrev pub NoPort : Bool → Tree → Tree → Type 0
NoPort is_module n w = (is_port is_module (shape_of n) ≡ false) × (is_port is_module (shape_of w) ≡ false)

abbrev pub NoDeclaration : Tree → Tree → Type 0
NoDeclaration n w = (is_declaration (shape_of n) ≡ false) × (is_declaration (shape_of w) ≡ false)

-- It keeps names. Of a node that may stand where it does, it replaces one that stands where a
-- statement or an expression of a body may, or a list of statements, or what has a key, which the
-- frame around it shows as before or without brackets. A statement that it replaces is no import,
-- no export and no function, an expression that is exported no declaration, and neither is what it
-- writes there; a list that it writes has the imports, exports and functions of the list that stood
-- there. Each frame in what it writes was there, but for keys that lost their brackets
pub record KeepsFrames (R : Position → Tree → Tree → Type 0) : Type 0 where
  pub names : KeepsNames R
  pub slots : (p : Position) (n w : Tree) → R p n w → (strict : Bool) (s : Slot) → fits_place p s ≡ true → fits strict s n ≡ true → (is_body_slot p s ≡ true) ⊎ IsShownAlike s n w
  pub ports : (p : Position) (n w : Tree) → R p n w → (strict : Bool) (d : Depth) → fits strict (one (a_statement d)) n ≡ true → (is_module : Bool) → NoPort is_module n w
  pub listed : (p : Position) (n w : Tree) → is_statement_list p ≡ true → R p n w → (strict : Bool) (d : Depth) → fits strict (many (a_statement d)) n ≡ true → (is_module : Bool) → ports_of is_module (children n) ≡ ports_of is_module (children w)
  pub exported : (p : Position) (n w : Tree) → R p n w → (strict : Bool) → fits strict (one a_default_export) n ≡ true → NoDeclaration n w
  pub frames : (p : Position) (n w : Tree) → R p n w → (strict : Bool) (s : Slot) → fits_place p s ≡ true → fits strict s n ≡ true → (a : Around) → FramesShown none_gone (KeyGiven nothing (bodies a n)) (frames None n) (frames None w)

-- a function with its name, its parameters and its body
abbrev pub function_over : Bool → Bool → List (List ℕ) → ℕ → Tree → Tree → Tree → Tree
function_over is_declared is_generator directives n name parameters body = node (shape.Function is_declared is_generator directives) [] n (name ▸ (parameters ▸ (body ▸ none)))

-- Another body in a function, of which all else stays, its number too: the frames around it and its
-- own show the same, and each frame in the body was there
pub record KeepsFunction (n w : Tree) : Type 0 where
  pub is_declared : Bool
  pub is_generator : Bool
  pub directives : List (List ℕ)
  pub number : ℕ
  pub name : Tree
  pub parameters : Tree
  pub earlier : Tree
  pub later : Tree
  pub before : n ≡ function_over is_declared is_generator directives (suc number) name parameters earlier
  pub after : w ≡ function_over is_declared is_generator directives (suc number) name parameters later
  pub framed : FramesKept (frames None earlier) (frames None later)

-- a module over its list of statements
abbrev pub module_over : List (List ℕ) → ℕ → Tree → Tree
module_over directives n list = node (shape.Program true directives) [] n (list ▸ none)

-- Another list of statements in a module, of which all else stays: its imports and exports are
-- those that it had, and each frame in the list was there
pub record KeepsModule (n w : Tree) : Type 0 where
  pub directives : List (List ℕ)
  pub number : ℕ
  pub earlier : Tree
  pub later : Tree
  pub before : n ≡ module_over directives number earlier
  pub after : w ≡ module_over directives number later
  pub ported : ports_of true (children earlier) ≡ ports_of true (children later)
  pub framed : FramesKept (frames None earlier) (frames None later)

-- either
abbrev pub KeepsHolder : Tree → Tree → Type 0
KeepsHolder n w = KeepsFunction n w ⊎ KeepsModule n w

-- All of this but frames: where it replaces what, and that imports, exports and functions stay.
-- Besides it may give a function another body, wherever that stands, and a module other statements
pub record KeepsPlaces (R : Position → Tree → Tree → Type 0) : Type 0 where
  pub names : KeepsNames R
  pub slots : (p : Position) (n w : Tree) → R p n w → (strict : Bool) (s : Slot) → fits_place p s ≡ true → fits strict s n ≡ true → ((is_body_slot p s ≡ true) ⊎ IsShownAlike s n w) ⊎ KeepsHolder n w
  pub ports : (p : Position) (n w : Tree) → R p n w → (strict : Bool) (d : Depth) → fits strict (one (a_statement d)) n ≡ true → (is_module : Bool) → NoPort is_module n w ⊎ KeepsFunction n w
  pub listed : (p : Position) (n w : Tree) → is_statement_list p ≡ true → R p n w → (strict : Bool) (d : Depth) → fits strict (many (a_statement d)) n ≡ true → (is_module : Bool) → ports_of is_module (children n) ≡ ports_of is_module (children w)
  pub exported : (p : Position) (n w : Tree) → R p n w → (strict : Bool) → fits strict (one a_default_export) n ≡ true → NoDeclaration n w ⊎ KeepsFunction n w

-- and each frame in what it writes was there, or has lost a name that is gone
pub record KeepsFramesBut (M : Gone) (R : Position → Tree → Tree → Type 0) : Type 0 where
  pub places : KeepsPlaces R
  pub frames : (p : Position) (n w : Tree) → R p n w → (strict : Bool) (s : Slot) → fits_place p s ≡ true → fits strict s n ≡ true → (a : Around) → FramesShown M (KeyGiven nothing (bodies a n)) (frames None n) (frames None w)
