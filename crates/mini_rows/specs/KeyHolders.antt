-- Rows on the keys of patterns and of classes, as equations. The node is what has the key: a
-- property of a pattern, a method or a field. Its key names the same property before and after
-- (ECMA-262, "Runtime Semantics: Evaluation" of LiteralPropertyName). A property that is assigned
-- to may become the shorthand that stands for it.
use Rattle.std.specs.Prelude.{◌≡◌, ◌<◌, ◌⊎◌, ◌&&◌, ◌||◌, not, ℕ, suc, Bool, true, false, List, [], codes, pos, if◌then◌else◌}
use Rattle.std.specs.Fmt.{signed_decimal}
use Rattle.mini_model.specs.Texts.{is_identifier_name}
use Rattle.mini_model.specs.Numerals.{IsSafe}
use Rattle.mini_model.specs.declared.kind.MethodDefinitionKind.{MethodDefinitionKind}
use Rattle.mini_model.specs.declared.place.Position.{Position}
use Rattle.mini_model.specs.declared.place.Position.TheVariants.{Elsewhere}
use Rattle.mini_model.specs.declared.shape.Shape.{Shape}
use Rattle.mini_model.specs.declared.shape.Shape.TheVariants as shape
use Rattle.mini_model.specs.Paths.{append}
use Rattle.mini_model.specs.declared.name.Name.{Name}
use Rattle.mini_model.specs.Tree.{Tree, Trees, node, none, ◌▸◌, identifier}
use Rattle.mini_model.specs.Weight.{same_text, weight}
use Rattle.mini_rows.specs.Spellings.{numeral, text, key}

-- what has a key without brackets: a property of a declaration's pattern that is no shorthand, one
-- of a pattern that is assigned to, a method and a field of a class
pub data Holder : Type 0 where
  a_binding : Holder
  a_target : Holder
  a_method : MethodDefinitionKind → Bool → Holder
  a_field : Bool → Holder

abbrev pub holder_shape : Holder → Shape
holder_shape a_binding = shape.BindingProperty false false
holder_shape a_target = shape.AssignmentTargetPropertyProperty false
holder_shape (a_method kind is_static) = shape.MethodDefinition kind false is_static
holder_shape (a_field is_static) = shape.PropertyDefinition false is_static

-- `k: v` in `let { k: v } = ..` and in `({ k: v } = ..)`, `k() {}` and `k = v` in a class
abbrev pub holding : Holder → Tree → Tree → Tree
holding h k v = node (holder_shape h) [] 0 (k ▸ v ▸ none)

-- the text of a name, or of a number
pub data Spelling : Type 0 where
  of_name : List ℕ → Spelling
  of_whole : ℕ → Spelling

abbrev pub IsSpelling : Spelling → Type 0
IsSpelling (of_name s) = is_identifier_name s ≡ true
IsSpelling (of_whole n) = IsSafe (pos n)

-- what is read, and what is written
abbrev pub quoted : Spelling → Tree
quoted (of_name s) = text s
quoted (of_whole n) = text (signed_decimal (pos n))

abbrev pub unquoted : Spelling → Tree
unquoted (of_name s) = key s
unquoted (of_whole n) = numeral (pos n)

-- 52, of these: `"x": v` becomes `x: v`, and `"1": v` becomes `1: v`
pub record Row52Held (n w : Tree) : Type 0 where
  pub holder : Holder
  pub spelling : Spelling
  pub value : Tree
  pub is_spelling : IsSpelling spelling
  pub shape : n ≡ holding holder (quoted spelling) value
  pub written : w ≡ holding holder (unquoted spelling) value

-- what may lose the brackets of its key: a property of a pattern that is assigned to, a method and
-- a field of a class
pub data Member : Type 0 where
  of_target : Member
  of_method : MethodDefinitionKind → Bool → Member
  of_field : Bool → Member

abbrev pub member_shape : Bool → Member → Shape
member_shape is_computed of_target = shape.AssignmentTargetPropertyProperty is_computed
member_shape is_computed (of_method kind is_static) = shape.MethodDefinition kind is_computed is_static
member_shape is_computed (of_field is_static) = shape.PropertyDefinition is_computed is_static

-- the key in brackets, which has a number as each inner expression does, and without them
abbrev pub in_brackets : Member → ℕ → Tree → Tree → Tree
in_brackets m n k v = node (member_shape true m) [] 0 (node shape.InnerExpression [] n (k ▸ none) ▸ v ▸ none)

abbrev pub without_brackets : Member → Tree → Tree → Tree
without_brackets m k v = node (member_shape false m) [] 0 (k ▸ v ▸ none)

-- a text, or a whole number from 0
pub data PlainKey : Type 0 where
  a_word : List ℕ → PlainKey
  a_count : ℕ → PlainKey

abbrev pub plain_key : PlainKey → Tree
plain_key (a_word s) = text s
plain_key (a_count n) = numeral (pos n)

abbrev pub IsPlainKey : PlainKey → Type 0
IsPlainKey (a_word s) = Unit {0}
IsPlainKey (a_count n) = IsSafe (pos n)

-- A text that stays in brackets in a class: without them a method `constructor` would be the
-- class's constructor (ECMA-262, "ConstructorMethod"), and there is no field `constructor`, no
-- static method and no static field `prototype` (ECMA-262, "Class Definitions: Static Semantics:
-- Early Errors"). So does `#constructor`, which no private name may be
abbrev pub stays_in_brackets : Bool → Bool → List ℕ → Bool
stays_in_brackets is_method is_static s =
    same_text s (codes "#constructor") || ((is_static && same_text s (codes "prototype")) || (not (is_method && is_static) && same_text s (codes "constructor")))

abbrev pub loses_brackets : Member → PlainKey → Bool
loses_brackets (of_method kind is_static) (a_word s) = not (stays_in_brackets true is_static s)
loses_brackets (of_field is_static) (a_word s) = not (stays_in_brackets false is_static s)
loses_brackets m k = true

-- 52, of brackets: `({ ["x"]: v } = ..)` becomes `({ "x": v } = ..)`, and
-- `class { ["x"]() {} static [1] = v }` becomes `class { "x"() {} static 1 = v }`
pub record Row52Bare (n w : Tree) : Type 0 where
  pub member : Member
  pub number : ℕ
  pub key : PlainKey
  pub value : Tree
  pub is_key : IsPlainKey key
  pub loses : loses_brackets member key ≡ true
  pub shape : n ≡ in_brackets member number (plain_key key) value
  pub written : w ≡ without_brackets member (plain_key key) value

-- ---- brackets in a pattern that is declared

-- what such a pattern is made of, shorthand properties aside: its lists, patterns in it, its
-- properties, a rest, and what has a default
abbrev pub is_pattern_part : Shape → Bool
is_pattern_part shape.Listed = true
is_pattern_part shape.ObjectPattern = true
is_pattern_part shape.ArrayPattern = true
is_pattern_part (shape.BindingProperty false is_computed) = true
is_pattern_part shape.RestElement = true
is_pattern_part shape.AssignmentPattern = true
is_pattern_part _ = false

-- a property of it, with the key in brackets and without them
abbrev pub bracketed : ℕ → PlainKey → Tree → Tree
bracketed n k v = node (shape.BindingProperty false true) [] 0 (node shape.InnerExpression [] (suc n) (plain_key k ▸ none) ▸ v ▸ none)

abbrev pub plain : PlainKey → Tree → Tree
plain k v = node (shape.BindingProperty false false) [] 0 (plain_key k ▸ v ▸ none)

-- a part of such a pattern, and without the brackets of one key in it
pub data Bares : Tree → Tree → Type 0 where
  bares_key : (n : ℕ) (k : PlainKey) (v : Tree) → IsPlainKey k → Bares (bracketed n k v) (plain k v)
  bares_within : (h : Shape) (xs : List Name) (n : ℕ) (before after : Trees) (t u : Tree) → is_pattern_part h ≡ true → Bares t u → Bares (node h xs n (append before (t ▸ after))) (node h xs n (append before (u ▸ after)))

-- what declares the names of a pattern, other than a function of its parameters
abbrev pub declaring_shape : Bool → Shape
declaring_shape is_catch = if is_catch then shape.CatchClause else shape.VariableDeclarator

-- 52, of brackets: `let { ["x"]: v } = o` becomes `let { "x": v } = o`, and `catch ({ [1]: v }) {}`
-- becomes `catch ({ 1: v }) {}`, however deep the pattern has the key. Among parameters brackets
-- decide whether the body's `var`s are the parameters (ECMA-262,
-- "FunctionDeclarationInstantiation"); so the node is what declares, and no property
pub record Row52Declared (n w : Tree) : Type 0 where
  pub is_catch : Bool
  pub pattern : Tree
  pub bared : Tree
  pub rest : Tree
  pub bares : Bares pattern bared
  pub shape : n ≡ node (declaring_shape is_catch) [] 0 (pattern ▸ rest ▸ none)
  pub written : w ≡ node (declaring_shape is_catch) [] 0 (bared ▸ rest ▸ none)

-- ---- a key that is the name assigned to

-- what a property is assigned to: a name, with a default or without, as `x` and `x = d`
pub data Assigned : Type 0 where
  alone : Assigned
  with_default : Tree → Assigned

abbrev pub assigned_to : Name → Assigned → Tree
assigned_to x alone = identifier x
assigned_to x (with_default d) = node shape.AssignmentPattern [] 0 (identifier x ▸ d ▸ none)

-- `x: x` and `x: x = d`, and as a shorthand
abbrev pub doubled : Name → Assigned → Tree
doubled x a = node (shape.AssignmentTargetPropertyProperty false) [] 0 (key x.spelling ▸ assigned_to x a ▸ none)

abbrev pub shortened : Name → Assigned → Tree
shortened x a = node shape.AssignmentTargetPropertyIdentifier [] 0 (key x.spelling ▸ assigned_to x a ▸ none)

-- 53: `({ x: x } = o)` becomes `({ x } = o)`, and `({ x: x = d } = o)` becomes `({ x = d } = o)`.
-- Both resolve x, read the property of that name and put its value, or that of d, which gets the
-- same name (ECMA-262, "Runtime Semantics: PropertyDestructuringAssignmentEvaluation" and "Runtime
-- Semantics: KeyedDestructuringAssignmentEvaluation")
pub record Row53 (n w : Tree) : Type 0 where
  pub name : Name
  pub value : Assigned
  pub shape : n ≡ doubled name value
  pub written : w ≡ shortened name value

-- a row on such a key reads n as w at this place
abbrev pub HeldKeyRow : Position → Tree → Tree → Type 0
HeldKeyRow Elsewhere n w = Row52Held n w ⊎ (Row52Bare n w ⊎ (Row52Declared n w ⊎ Row53 n w))
HeldKeyRow _ n w = ⊥

-- what it writes, where it weighs less
pub record HeldKeyContracts (p : Position) (n w : Tree) : Type 0 where
  pub row : HeldKeyRow p n w
  pub lighter : weight p w < weight p n

-- which is everywhere
abbrev pub HeldKeysLighter : Type 0
HeldKeysLighter = (p : Position) (n w : Tree) → HeldKeyRow p n w → weight p w < weight p n
