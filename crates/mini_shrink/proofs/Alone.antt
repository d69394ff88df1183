-- What a slot of a list of statements, declarators or cases takes binds names by declarators alone.
use Rattle.std.specs.Prelude.{ℕ, ◌≡◌, refl, Bool, true, false, ◌&&◌, List, [], ◌∷◌, None}
use Rattle.std.proofs.Common.{ap, sym, true≢false}
use Rattle.mini_model.specs.declared.name.Name.{Name}
use Rattle.mini_model.specs.declared.shape.Shape.{Shape}
use Rattle.mini_model.specs.declared.shape.Shape.TheVariants as shape
use Rattle.mini_model.specs.Tree.{Tree, Trees, node, none, ◌▸◌}
use Rattle.mini_accept.specs.WellShaped.{Depth, in_module, in_body, nested, Class, a_statement, a_block, a_case, an_init, a_loop_left, a_declarator, a_pattern, a_binding, an_expression, a_string, an_export, an_exported_declaration, a_default_export, Slot, one, one_or_absent, many, these, each, filling_by, slots_of, variable_slots, function_slots, pattern_target_slots, member_slots, unchained_slots, statement_slots, or_else, none_if, in_depth, is_sloppy_function, is_whole, fits, fill}
use Rattle.mini_kept.proofs.Bools.{left, right}
use Rattle.mini_kept.proofs.Expressions.{refused_here}
use Rattle.mini_shrink.specs.Regular.{is_item, declares_alone, all_declare_alone, is_listed_alone}

-- ---- where binders and lists don't stand

-- no list, and no binder but a declarator
abbrev pub is_lone_shape : Shape → Bool
is_lone_shape h = is_item h false

variable_none : (h : Shape) → is_lone_shape h ≡ false → variable_slots h ≡ None
variable_none (shape.VariableDeclaration k) e = absurd (true≢false e)
variable_none h e = refl

function_none : (s : Slot) (h : Shape) → is_lone_shape h ≡ false → function_slots s h ≡ None
function_none s (shape.Function true g ds) e = absurd (true≢false e)
function_none s (shape.Function false g ds) e = refl
function_none s (shape.Class true) e = absurd (true≢false e)
function_none s (shape.Class false) e = refl
function_none s h e = refl

target_none : (h : Shape) → is_lone_shape h ≡ false → pattern_target_slots h ≡ None
target_none shape.Identifier e = absurd (true≢false e)
target_none shape.ObjectAssignmentTarget e = absurd (true≢false e)
target_none shape.ArrayAssignmentTarget e = absurd (true≢false e)
target_none h e = refl

member_none : (h : Shape) → is_lone_shape h ≡ false → member_slots h ≡ None
member_none shape.BindingIdentifier e = refl
member_none shape.Listed e = refl
member_none shape.ObjectPattern e = refl
member_none shape.ArrayPattern e = refl
member_none (shape.BindingProperty shorthand computed) e = refl
member_none shape.RestElement e = refl
member_none shape.AssignmentPattern e = refl
member_none shape.ImportSpecifier e = refl
member_none shape.ImportDefaultSpecifier e = refl
member_none shape.ImportNamespaceSpecifier e = refl
member_none h e = absurd (true≢false e)

expression_none : (h : Shape) → is_lone_shape h ≡ false → unchained_slots h ≡ None
expression_none shape.BindingIdentifier e = refl
expression_none shape.Listed e = refl
expression_none shape.ObjectPattern e = refl
expression_none shape.ArrayPattern e = refl
expression_none (shape.BindingProperty shorthand computed) e = refl
expression_none shape.RestElement e = refl
expression_none shape.AssignmentPattern e = refl
expression_none shape.ImportSpecifier e = refl
expression_none shape.ImportDefaultSpecifier e = refl
expression_none shape.ImportNamespaceSpecifier e = refl
expression_none h e = absurd (true≢false e)

pub nothing_there : (b : Bool) (d : Depth) → none_if b (in_depth d None) ≡ None
nothing_there true d = refl
nothing_there false in_module = refl
nothing_there false in_body = refl
nothing_there false nested = refl

statement_none : (strict : Bool) (d : Depth) (h : Shape) → is_lone_shape h ≡ false → statement_slots strict d h ≡ None
statement_none strict d shape.BindingIdentifier e = nothing_there (is_sloppy_function strict d shape.BindingIdentifier) d
statement_none strict d shape.Listed e = nothing_there (is_sloppy_function strict d shape.Listed) d
statement_none strict d shape.ObjectPattern e = nothing_there (is_sloppy_function strict d shape.ObjectPattern) d
statement_none strict d shape.ArrayPattern e = nothing_there (is_sloppy_function strict d shape.ArrayPattern) d
statement_none strict d (shape.BindingProperty shorthand computed) e = nothing_there (is_sloppy_function strict d (shape.BindingProperty shorthand computed)) d
statement_none strict d shape.RestElement e = nothing_there (is_sloppy_function strict d shape.RestElement) d
statement_none strict d shape.AssignmentPattern e = nothing_there (is_sloppy_function strict d shape.AssignmentPattern) d
statement_none strict d shape.ImportSpecifier e = nothing_there (is_sloppy_function strict d shape.ImportSpecifier) d
statement_none strict d shape.ImportDefaultSpecifier e = nothing_there (is_sloppy_function strict d shape.ImportDefaultSpecifier) d
statement_none strict d shape.ImportNamespaceSpecifier e = nothing_there (is_sloppy_function strict d shape.ImportNamespaceSpecifier) d
statement_none strict d h e = absurd (true≢false e)

block_none : (strict : Bool) (h : Shape) → is_lone_shape h ≡ false → slots_of strict a_block h ≡ None
block_none strict shape.BlockStatement e = absurd (true≢false e)
block_none strict h e = refl

case_none : (strict : Bool) (h : Shape) → is_lone_shape h ≡ false → slots_of strict a_case h ≡ None
case_none strict shape.SwitchCase e = absurd (true≢false e)
case_none strict h e = refl

declarator_none : (strict : Bool) (h : Shape) → is_lone_shape h ≡ false → slots_of strict a_declarator h ≡ None
declarator_none strict shape.VariableDeclarator e = absurd (true≢false e)
declarator_none strict h e = refl

string_none : (strict : Bool) (h : Shape) → is_lone_shape h ≡ false → slots_of strict a_string h ≡ None
string_none strict (shape.StringLiteral s) e = absurd (true≢false e)
string_none strict h e = refl

export_none : (strict : Bool) (h : Shape) → is_lone_shape h ≡ false → slots_of strict an_export h ≡ None
export_none strict shape.ExportSpecifier e = absurd (true≢false e)
export_none strict h e = refl

-- ---- classes and slots that take no other binder

abbrev pub is_lone : Class → Bool
is_lone (a_statement d) = true
is_lone a_block = true
is_lone a_case = true
is_lone an_init = true
is_lone (a_loop_left b) = true
is_lone a_declarator = true
is_lone an_expression = true
is_lone a_string = true
is_lone an_export = true
is_lone an_exported_declaration = true
is_lone a_default_export = true
is_lone c = false

abbrev pub lone_slot : Slot → Bool
lone_slot (one c) = is_lone c
lone_slot (one_or_absent c) = is_lone c
lone_slot (many c) = is_lone c
lone_slot s = false

pub lone_none : (strict : Bool) (c : Class) → is_lone c ≡ true → (h : Shape) → is_lone_shape h ≡ false → slots_of strict c h ≡ None
lone_none strict (a_statement d) k h e = statement_none strict d h e
lone_none strict a_block k h e = block_none strict h e
lone_none strict a_case k h e = case_none strict h e
lone_none strict an_init k h e = λ j. or_else (variable_none h e j) (expression_none h e j)
lone_none strict (a_loop_left b) k h e = λ j. or_else (variable_none h e j) (or_else (target_none h e j) (member_none h e j))
lone_none strict a_declarator k h e = declarator_none strict h e
lone_none strict an_expression k h e = expression_none h e
lone_none strict a_string k h e = string_none strict h e
lone_none strict an_export k h e = export_none strict h e
lone_none strict an_exported_declaration k h e = λ j. or_else (variable_none h e j) (function_none (one a_binding) h e j)
lone_none strict a_default_export k h e = λ j. or_else (function_none (one_or_absent a_binding) h e j) (expression_none h e j)
lone_none strict c k h e = absurd (true≢false (sym k))

whatever_below : (h : Shape) (b : Bool) → is_item h false ≡ true → is_item h b ≡ true
whatever_below shape.Listed b e = absurd (true≢false (sym e))
whatever_below h b e = e

-- what fills one binds by declarators alone

one_alone : (strict : Bool) (c : Class) → is_lone c ≡ true → (h : Shape) (xs : List Name) (n : ℕ) (ts : Trees) → fits strict (one c) (node h xs n ts) ≡ true → declares_alone (node h xs n ts) ≡ true
unfolding declares_alone
one_alone strict c k h xs n ts e = by (is_lone_shape h) refl
  where
    by : (b : Bool) → is_lone_shape h ≡ b → is_item h (all_declare_alone ts) ≡ true
    by true f = whatever_below h (all_declare_alone ts) f
    by false f = absurd (refused_here strict (one c) h xs n ts (ap filling_by (lone_none strict c k h f)) e)

mutual
  unfolding declares_alone

  pub slot_alone : (strict : Bool) (s : Slot) (t : Tree) → lone_slot s ≡ true → fits strict s t ≡ true → declares_alone t ≡ true
  slot_alone strict (one c) (node h xs n ts) k e = one_alone strict c k h xs n ts e
  slot_alone strict (one_or_absent c) (node shape.Absent xs n ts) k e = refl
  slot_alone strict (one_or_absent c) (node h xs n ts) k e = one_alone strict c k h xs n ts e
  slot_alone strict (many c) (node shape.Listed xs n ts) k e = each_alone strict c ts k (right (is_whole c shape.Listed xs n ts) (fill strict (each (one c)) ts) e)
  slot_alone strict (many c) (node h xs n ts) k e = absurd (refused_here strict (many c) h xs n ts refl e)
  slot_alone strict s t k e = absurd (true≢false (sym k))

  each_alone : (strict : Bool) (c : Class) (ts : Trees) → is_lone c ≡ true → fill strict (each (one c)) ts ≡ true → all_declare_alone ts ≡ true
  each_alone strict c none k e = refl
  each_alone strict c (t ▸ ts) k e = λ i. slot_alone strict (one c) t k (left (fits strict (one c) t) (fill strict (each (one c)) ts) e) i && each_alone strict c ts k (right (fits strict (one c) t) (fill strict (each (one c)) ts) e) i

abbrev pub lone_slots : List Slot → Bool
lone_slots [] = true
lone_slots (s ∷ ss) = lone_slot s && lone_slots ss

pub slots_alone : (strict : Bool) (ss : List Slot) (ts : Trees) → lone_slots ss ≡ true → fill strict (these ss) ts ≡ true → all_declare_alone ts ≡ true
unfolding declares_alone
slots_alone strict [] none k e = refl
slots_alone strict [] (t ▸ ts) k e = absurd (true≢false (sym e))
slots_alone strict (s ∷ ss) none k e = refl
slots_alone strict (s ∷ ss) (t ▸ ts) k e =
    let first = slot_alone strict s t (left (lone_slot s) (lone_slots ss) k) (left (fits strict s t) (fill strict (these ss) ts) e) in
    let rest = slots_alone strict ss ts (right (lone_slot s) (lone_slots ss) k) (right (fits strict s t) (fill strict (these ss) ts) e) in
    λ i. first i && rest i

-- a pattern is no list
pub pattern_alone : (strict : Bool) (t : Tree) → fits strict (one_or_absent a_pattern) t ≡ true → is_listed_alone t ≡ true
pattern_alone strict (node shape.Listed xs n ts) e = absurd (refused_here strict (one_or_absent a_pattern) shape.Listed xs n ts refl e)
pattern_alone strict (node h xs n ts) e = refl
