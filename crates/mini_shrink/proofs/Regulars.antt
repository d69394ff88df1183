-- Each program is regular: by the slots of each shape, lists of statements hold no other binders,
-- and imports stand at the top.
use Rattle.std.specs.Prelude.{ℕ, ◌≡◌, ◌⊎◌, refl, Bool, true, false, ◌&&◌, ◌||◌, not, List, [], ◌∷◌, Option, Some, None, if◌then◌else◌, pos, negsuc}
use Rattle.std.proofs.Common.{ap, sym, ◌∙◌, inl, inr, true≢false}
use Rattle.mini_model.specs.declared.kind.MetaPropertyKind.TheVariants.{NewTarget, ImportMeta}
use Rattle.mini_model.specs.declared.name.Name.{Name}
use Rattle.mini_model.specs.declared.operator.AssignmentOperator.TheVariants.{Assign}
use Rattle.mini_model.specs.declared.shape.Shape.{Shape}
use Rattle.mini_model.specs.declared.shape.Shape.TheVariants as shape
use Rattle.mini_model.specs.Tree.{Tree, Trees, node, none, ◌▸◌}
use Rattle.mini_accept.specs.WellShaped.{Tagging, Depth, in_module, in_body, nested, Class, a_program, a_statement, a_block, a_case, a_catch, an_init, a_loop_left, a_declarator, a_pattern, a_pattern_element, a_pattern_property, a_pattern_rest, a_parameter, a_binding, a_label, a_private_name, a_function_body, an_arrow_body, a_class_body, a_class_member, a_method, an_expression, a_link, a_chain, an_argument, an_inner_argument, an_inner, a_super, an_object_property, a_key, a_private_or_key, an_inner_key, a_tagged_template, a_target, a_simple_target, an_element_target, a_member_target, a_named_target, a_target_name, a_target_element, a_target_property, a_target_rest, an_import, a_module_name, a_string, an_export, an_exported_name, an_exported_declaration, a_default_export, a_word, Slot, one, one_or_absent, many, many_or_holes, many_and_rest, many_or_holes_and_rest, quasis, these, each, each_or_last, filling_by, slots_of, expression_slots, unchained_slots, is_optional, is_chained, variable_slots, function_slots, module_slots, pattern_slots, pattern_target_slots, member_slots, key_slots, private_or_key_slots, inner_slots, word_slots, statement_slots, or_else, none_if, in_depth, is_sloppy_function, is_init, is_text, is_whole, is_strict_in, is_last, is_quasi, are_quasis, fits, fill}
use Rattle.mini_laws.specs.DeclaredNames.{names_of}
use Rattle.mini_laws.specs.Foreign.{imported_names, all_imported_names}
use Rattle.mini_laws.specs.Mentions.{same_variable, is_among}
use Rattle.mini_laws.specs.ScopeList.{by_symbol}
use Rattle.mini_kept.proofs.Bools.{left, right, both}
use Rattle.mini_kept.proofs.Expressions.{refused_here}
use Rattle.mini_shrink.specs.Regular.{declares_in_order, declares_alone, all_declare_alone, items_of, imports_no, is_regular, all_regular, ProgramsAreRegular}
use Rattle.mini_shrink.proofs.Alone.{lone_slots, slots_alone, pattern_alone, nothing_there}
use Rattle.mini_shrink.proofs.Either.{of_either_if}
use Rattle.mini_shrink.proofs.Finding.{any_both}

-- ---- what stands below the top

-- no program, and no statement of a module's own list
abbrev is_deep : Class → Bool
is_deep a_program = false
is_deep (a_statement in_module) = false
is_deep (an_inner c) = is_deep c
is_deep c = true

abbrev deep_slot : Slot → Bool
deep_slot (one c) = is_deep c
deep_slot (one_or_absent c) = is_deep c
deep_slot (many c) = is_deep c
deep_slot (many_or_holes c) = is_deep c
deep_slot (many_and_rest c rest) = is_deep c && is_deep rest
deep_slot (many_or_holes_and_rest c rest) = is_deep c && is_deep rest
deep_slot (quasis g) = true

abbrev pub deep_slots : List Slot → Bool
deep_slots [] = true
deep_slots (s ∷ ss) = deep_slot s && deep_slots ss

-- the slots of a `catch`: its parameter is no list
abbrev pub catch_slots : List Slot → Bool
catch_slots (one_or_absent a_pattern ∷ ss) = lone_slots ss
catch_slots ss = false

abbrev pub ordered_slots : Shape → List Slot → Bool
ordered_slots shape.CatchClause ss = catch_slots ss
ordered_slots h ss = not (declares_in_order h) || lone_slots ss

-- what the slots of a shape are
abbrev pub is_right : Shape → Option (List Slot) → Bool
is_right h None = true
is_right h (Some ss) = ordered_slots h ss && deep_slots ss

right_if : (n : Bool) (h : Shape) (o : Option (List Slot)) → is_right h o ≡ true → is_right h (none_if n o) ≡ true
right_if true h o e = refl
right_if false h o e = e

right_or : (h : Shape) (o u : Option (List Slot)) → is_right h o ≡ true → is_right h u ≡ true → is_right h (or_else o u) ≡ true
right_or h None u e f = f
right_or h (Some ss) u e f = e

expression_right : (k : Class) (h : Shape) → is_deep k ≡ true → is_right h (expression_slots k h) ≡ true
expression_right k (shape.Function true g ds) e = refl
expression_right k (shape.Function false g ds) e = refl
expression_right k (shape.Class true) e = refl
expression_right k (shape.Class false) e = refl
expression_right k (shape.AssignmentExpression Assign) e = refl
expression_right k (shape.AssignmentExpression o) e = refl
expression_right k (shape.CallExpression b) e = ap (λ c. c && true) e
expression_right k (shape.StaticMemberExpression b) e = ap (λ c. c && true) e
expression_right k (shape.ComputedMemberExpression b) e = ap (λ c. c && true) e
expression_right k (shape.PrivateFieldExpression b) e = ap (λ c. c && true) e
expression_right k (shape.YieldExpression true) e = refl
expression_right k (shape.YieldExpression false) e = refl
expression_right k (shape.MetaProperty NewTarget) e = refl
expression_right k (shape.MetaProperty ImportMeta) e = refl
expression_right k h e = refl

unchained_right : (h : Shape) → is_right h (unchained_slots h) ≡ true
unchained_right h = right_if (is_optional h) h (expression_slots an_expression h) (expression_right an_expression h refl)

member_right : (h : Shape) → is_right h (member_slots h) ≡ true
member_right (shape.StaticMemberExpression true) = refl
member_right (shape.StaticMemberExpression false) = refl
member_right (shape.ComputedMemberExpression true) = refl
member_right (shape.ComputedMemberExpression false) = refl
member_right (shape.PrivateFieldExpression true) = refl
member_right (shape.PrivateFieldExpression false) = refl
member_right h = refl

target_right : (h : Shape) → is_right h (pattern_target_slots h) ≡ true
target_right shape.Identifier = refl
target_right h = refl

pattern_right : (h : Shape) → is_right h (pattern_slots h) ≡ true
pattern_right shape.BindingIdentifier = refl
pattern_right h = refl

variable_right : (h : Shape) → is_right h (variable_slots h) ≡ true
variable_right (shape.VariableDeclaration k) = refl
variable_right h = refl

function_right : (s : Slot) (h : Shape) → deep_slot s ≡ true → is_right h (function_slots s h) ≡ true
function_right s (shape.Function true g ds) e = ap (λ c. c && true) e
function_right s (shape.Function false g ds) e = refl
function_right s (shape.Class true) e = ap (λ c. c && true) e
function_right s (shape.Class false) e = refl
function_right s h e = refl

module_right : (d : Depth) (h : Shape) → is_right h (in_depth d (module_slots h)) ≡ true
module_right in_module shape.ImportDeclaration = refl
module_right in_module h = refl
module_right in_body h = refl
module_right nested h = refl

pub statement_right : (strict : Bool) (d : Depth) (h : Shape) → is_right h (statement_slots strict d h) ≡ true
statement_right strict d shape.EmptyStatement = refl
statement_right strict d shape.DebuggerStatement = refl
statement_right strict d shape.ExpressionStatement = refl
statement_right strict d shape.BlockStatement = refl
statement_right strict d shape.LabeledStatement = refl
statement_right strict d shape.BreakStatement = refl
statement_right strict d shape.ContinueStatement = refl
statement_right strict d shape.ReturnStatement = refl
statement_right strict d shape.ThrowStatement = refl
statement_right strict d shape.IfStatement = refl
statement_right strict d shape.SwitchStatement = refl
statement_right strict d shape.TryStatement = refl
statement_right strict d shape.WhileStatement = refl
statement_right strict d shape.DoWhileStatement = refl
statement_right strict d shape.ForStatement = refl
statement_right strict d shape.ForInStatement = refl
statement_right strict d shape.ForOfStatement = refl
statement_right strict d h =
    right_if (is_sloppy_function strict d h) h (or_else (variable_slots h) (or_else (function_slots (one a_binding) h) (in_depth d (module_slots h))))
    (right_or h (variable_slots h) (or_else (function_slots (one a_binding) h) (in_depth d (module_slots h))) (variable_right h) (right_or h (function_slots (one a_binding) h) (in_depth d (module_slots h)) (function_right (one a_binding) h refl) (module_right d h)))

key_right : (h : Shape) → is_right h (key_slots h) ≡ true
key_right (shape.NumericLiteral (pos n)) = refl
key_right (shape.NumericLiteral (negsuc n)) = refl
key_right h = refl

private_or_key_right : (h : Shape) → is_right h (private_or_key_slots h) ≡ true
private_or_key_right (shape.PrivateIdentifier s) = refl
private_or_key_right h = key_right h

inner_right : (c : Class) (h : Shape) → is_deep c ≡ true → is_right h (inner_slots c h) ≡ true
inner_right c shape.InnerExpression e = ap (λ b. b && true) e
inner_right c h e = refl

word_right : (w : List ℕ) (h : Shape) → is_right h (word_slots w h) ≡ true
word_right w (shape.IdentifierName s) = right_if (not (is_text s w)) (shape.IdentifierName s) (Some []) refl
word_right w h = refl

chosen_deep : (b : Bool) → is_deep (if b then a_method else an_expression) ≡ true
chosen_deep true = refl
chosen_deep false = refl

pub slots_right : (strict : Bool) (c : Class) (h : Shape) → is_deep c ≡ true → is_right h (slots_of strict c h) ≡ true
slots_right strict a_program (shape.Program m ds) e = absurd (true≢false (sym e))
slots_right strict (a_statement d) h e = statement_right strict d h
slots_right strict a_block shape.BlockStatement e = refl
slots_right strict a_case shape.SwitchCase e = refl
slots_right strict a_catch shape.CatchClause e = refl
slots_right strict a_declarator shape.VariableDeclarator e = refl
slots_right strict a_function_body shape.FunctionBody e = refl
slots_right strict a_class_body shape.ClassBody e = refl
slots_right strict a_class_member shape.StaticBlock e = refl
slots_right strict a_binding shape.BindingIdentifier e = refl
slots_right strict a_label (shape.IdentifierName s) e = refl
slots_right strict a_private_name (shape.PrivateIdentifier s) e = refl
slots_right strict a_super shape.Super e = refl
slots_right strict a_tagged_template shape.TemplateLiteral e = refl
slots_right strict a_pattern_property (shape.BindingProperty shorthand computed) e = refl
slots_right strict a_pattern_rest shape.RestElement e = refl
slots_right strict a_target_property shape.AssignmentTargetPropertyIdentifier e = refl
slots_right strict a_named_target shape.Identifier e = refl
slots_right strict a_target_name shape.Identifier e = refl
slots_right strict a_target_rest shape.RestElement e = refl
slots_right strict an_import shape.ImportSpecifier e = refl
slots_right strict a_module_name (shape.IdentifierName s) e = refl
slots_right strict a_string (shape.StringLiteral s) e = refl
slots_right strict an_export shape.ExportSpecifier e = refl
slots_right strict an_exported_name shape.Identifier e = refl
slots_right strict an_init h e = right_or h (variable_slots h) (unchained_slots h) (variable_right h) (unchained_right h)
slots_right strict (a_loop_left b) h e = right_or h (variable_slots h) (or_else (pattern_target_slots h) (member_slots h)) (variable_right h) (right_or h (pattern_target_slots h) (member_slots h) (target_right h) (member_right h))
slots_right strict a_parameter shape.AssignmentPattern e = refl
slots_right strict a_parameter h e = pattern_right h
slots_right strict an_arrow_body shape.FunctionBody e = refl
slots_right strict an_arrow_body h e = unchained_right h
slots_right strict a_method (shape.Function false g ds) e = refl
slots_right strict a_method (shape.Function true g ds) e = refl
slots_right strict (a_word w) h e = word_right w h
slots_right strict an_expression h e = unchained_right h
slots_right strict a_link h e = expression_right a_link h refl
slots_right strict a_chain h e = right_if (not (is_chained h)) h (expression_slots a_link h) (expression_right a_link h refl)
slots_right strict an_argument shape.SpreadElement e = refl
slots_right strict an_argument h e = unchained_right h
slots_right strict an_inner_argument shape.SpreadElement e = refl
slots_right strict an_inner_argument h e = inner_right an_expression h refl
slots_right strict (an_inner c) h e = inner_right c h e
slots_right strict an_object_property shape.SpreadElement e = refl
slots_right strict an_object_property (shape.ObjectProperty k is_method shorthand computed) e = ap (λ b. b && true) (chosen_deep (is_method || not (is_init k)))
slots_right strict (a_key true) h e = unchained_right h
slots_right strict (a_key false) h e = key_right h
slots_right strict (a_private_or_key true) h e = inner_right an_expression h refl
slots_right strict (a_private_or_key false) h e = private_or_key_right h
slots_right strict (an_inner_key true) h e = inner_right an_expression h refl
slots_right strict (an_inner_key false) h e = key_right h
slots_right strict a_pattern h e = pattern_right h
slots_right strict a_pattern_element shape.AssignmentPattern e = refl
slots_right strict a_pattern_element h e = pattern_right h
slots_right strict a_target h e = right_or h (pattern_target_slots h) (member_slots h) (target_right h) (member_right h)
slots_right strict a_simple_target shape.Identifier e = refl
slots_right strict a_simple_target h e = member_right h
slots_right strict an_element_target h e = right_or h (pattern_target_slots h) (inner_slots a_member_target h) (target_right h) (inner_right a_member_target h refl)
slots_right strict a_member_target h e = member_right h
slots_right strict a_target_element shape.AssignmentPattern e = refl
slots_right strict a_target_element h e = right_or h (pattern_target_slots h) (inner_slots a_member_target h) (target_right h) (inner_right a_member_target h refl)
slots_right strict an_exported_declaration h e = right_or h (variable_slots h) (function_slots (one a_binding) h) (variable_right h) (function_right (one a_binding) h refl)
slots_right strict a_default_export h e = right_or h (function_slots (one_or_absent a_binding) h) (unchained_slots h) (function_right (one_or_absent a_binding) h refl) (unchained_right h)
slots_right strict c h e = refl

-- no import stands there
pub no_import : (strict : Bool) (c : Class) → is_deep c ≡ true → slots_of strict c shape.ImportDeclaration ≡ None
no_import strict (a_statement in_module) e = absurd (true≢false (sym e))
no_import strict (a_statement in_body) e = nothing_there (is_sloppy_function strict in_body shape.ImportDeclaration) in_body
no_import strict (a_statement nested) e = nothing_there (is_sloppy_function strict nested shape.ImportDeclaration) nested
no_import strict (a_key true) e = refl
no_import strict (a_key false) e = refl
no_import strict (a_private_or_key true) e = refl
no_import strict (a_private_or_key false) e = refl
no_import strict (an_inner_key true) e = refl
no_import strict (an_inner_key false) e = refl
no_import strict c e = refl

-- ---- the items of a node

in_order : (strict : Bool) (b : Bool) (ss : List Slot) (ts : Trees) → (not b || lone_slots ss) ≡ true → fill strict (these ss) ts ≡ true → (not b || all_declare_alone ts) ≡ true
in_order strict true ss ts r e = slots_alone strict ss ts r e
in_order strict false ss ts r e = refl

items_right : (strict : Bool) (h : Shape) (ss : List Slot) (ts : Trees) → ordered_slots h ss ≡ true → fill strict (these ss) ts ≡ true → items_of h ts ≡ true
items_right strict shape.CatchClause (one_or_absent a_pattern ∷ ss) none r e = refl
items_right strict shape.CatchClause (one_or_absent a_pattern ∷ ss) (t ▸ ts) r e =
    both _ _ (pattern_alone strict t (left (fits strict (one_or_absent a_pattern) t) (fill strict (these ss) ts) e)) (slots_alone strict ss ts r (right (fits strict (one_or_absent a_pattern) t) (fill strict (these ss) ts) e))
items_right strict shape.CatchClause ss ts r e = absurd (true≢false (sym r))
items_right strict h ss ts r e = in_order strict (declares_in_order h) ss ts r e

-- ---- the walk

module _ (k : ℕ) where
  empty_regular : (h : Shape) → (items_of h none && imports_no k h none) ≡ true
  unfolding declares_alone names_of
  empty_regular shape.ImportDeclaration = refl
  empty_regular h = refl

  quasi_regular : (g : Tagging) (last : Bool) (t : Tree) → is_quasi g last t ≡ true → is_regular k t ≡ true
  unfolding is_regular
  quasi_regular g last (node h [] n none) e = both (items_of h none && imports_no k h none) true (empty_regular h) refl
  quasi_regular g last t e = absurd (true≢false (sym e))

  quasis_regular : (g : Tagging) (ts : Trees) → are_quasis g ts ≡ true → all_regular k ts ≡ true
  unfolding is_regular
  quasis_regular g none e = refl
  quasis_regular g (t ▸ none) e = both (is_regular k t) true (quasi_regular g true t e) refl
  quasis_regular g (t ▸ (u ▸ ts)) e = both (is_regular k t) (all_regular k (u ▸ ts)) (quasi_regular g false t (left (is_quasi g false t) (are_quasis g (u ▸ ts)) e)) (quasis_regular g (u ▸ ts) (right (is_quasi g false t) (are_quasis g (u ▸ ts)) e))

  -- a node of its shape's slots, if what is below it is regular
  node_regular : (strict : Bool) (h : Shape) (xs : List Name) (n : ℕ) (ts : Trees) (o : Option (List Slot)) → is_right h o ≡ true → imports_no k h ts ≡ true → fill strict (filling_by o) ts ≡ true
      → ((ss : List Slot) → deep_slots ss ≡ true → fill strict (these ss) ts ≡ true → all_regular k ts ≡ true) → is_regular k (node h xs n ts) ≡ true
  unfolding is_regular
  node_regular strict h xs n ts None r i e f = absurd (true≢false (sym e))
  node_regular strict h xs n ts (Some ss) r i e f =
      both (items_of h ts && imports_no k h ts) (all_regular k ts) (both (items_of h ts) (imports_no k h ts) (items_right strict h ss ts (left (ordered_slots h ss) (deep_slots ss) r) e) i) (f ss (right (ordered_slots h ss) (deep_slots ss) r) e)

  import_absent : (strict : Bool) (c : Class) (h : Shape) (xs : List Name) (n : ℕ) (ts : Trees) → is_deep c ≡ true → fits strict (one c) (node h xs n ts) ≡ true → imports_no k h ts ≡ true
  import_absent strict c shape.ImportDeclaration xs n ts d e = absurd (refused_here strict (one c) shape.ImportDeclaration xs n ts (ap filling_by (no_import strict c d)) e)
  import_absent strict c h xs n ts d e = refl

  deep_node : (strict : Bool) (c : Class) (h : Shape) (xs : List Name) (n : ℕ) (ts : Trees) → is_deep c ≡ true → fits strict (one c) (node h xs n ts) ≡ true
      → ((ss : List Slot) → deep_slots ss ≡ true → fill (is_strict_in strict h) (these ss) ts ≡ true → all_regular k ts ≡ true) → is_regular k (node h xs n ts) ≡ true
  deep_node strict c h xs n ts d e f =
      node_regular (is_strict_in strict h) h xs n ts (slots_of strict c h) (slots_right strict c h d) (import_absent strict c h xs n ts d e) (right (is_whole c h xs n ts) (fill (is_strict_in strict h) (filling_by (slots_of strict c h)) ts) e) f

  mutual
    unfolding is_regular

    deep_regular : (strict : Bool) (s : Slot) (t : Tree) → deep_slot s ≡ true → fits strict s t ≡ true → is_regular k t ≡ true
    deep_regular strict (one c) (node h xs n ts) d e = deep_node strict c h xs n ts d e (λ ss f g. these_regular (is_strict_in strict h) ss ts f g)
    deep_regular strict (one_or_absent c) (node shape.Absent xs n none) d e = refl
    deep_regular strict (one_or_absent c) (node shape.Absent xs n (t ▸ ts)) d e = absurd (true≢false (sym (right (is_whole c shape.Absent xs n (t ▸ ts)) false e)))
    deep_regular strict (one_or_absent c) (node h xs n ts) d e = deep_node strict c h xs n ts d e (λ ss f g. these_regular (is_strict_in strict h) ss ts f g)
    deep_regular strict (many c) (node shape.Listed xs n ts) d e = each_regular strict (one c) ts d (right (is_whole c shape.Listed xs n ts) (fill strict (each (one c)) ts) e)
    deep_regular strict (many_or_holes c) (node shape.Listed xs n ts) d e = each_regular strict (one_or_absent c) ts d (right (is_whole c shape.Listed xs n ts) (fill strict (each (one_or_absent c)) ts) e)
    deep_regular strict (many_and_rest c rest) (node shape.Listed xs n ts) d e = each_or_last_regular strict (one c) (one rest) ts (left (is_deep c) (is_deep rest) d) (right (is_deep c) (is_deep rest) d) (right (is_whole c shape.Listed xs n ts) (fill strict (each_or_last (one c) (one rest)) ts) e)
    deep_regular strict (many_or_holes_and_rest c rest) (node shape.Listed xs n ts) d e = each_or_last_regular strict (one_or_absent c) (one rest) ts (left (is_deep c) (is_deep rest) d) (right (is_deep c) (is_deep rest) d) (right (is_whole c shape.Listed xs n ts) (fill strict (each_or_last (one_or_absent c) (one rest)) ts) e)
    deep_regular strict (quasis g) (node shape.Listed xs n none) d e = refl
    deep_regular strict (quasis g) (node shape.Listed xs n (t ▸ ts)) d e = quasis_regular g (t ▸ ts) (right (is_whole an_expression shape.Listed xs n (t ▸ ts)) (are_quasis g (t ▸ ts)) e)
    deep_regular strict s (node h xs n ts) d e = absurd (refused_here strict s h xs n ts refl e)

    pub these_regular : (strict : Bool) (ss : List Slot) (ts : Trees) → deep_slots ss ≡ true → fill strict (these ss) ts ≡ true → all_regular k ts ≡ true
    these_regular strict [] none d e = refl
    these_regular strict [] (t ▸ ts) d e = absurd (true≢false (sym e))
    these_regular strict (s ∷ ss) none d e = refl
    these_regular strict (s ∷ ss) (t ▸ ts) d e =
        both (is_regular k t) (all_regular k ts) (deep_regular strict s t (left (deep_slot s) (deep_slots ss) d) (left (fits strict s t) (fill strict (these ss) ts) e))
        (these_regular strict ss ts (right (deep_slot s) (deep_slots ss) d) (right (fits strict s t) (fill strict (these ss) ts) e))

    each_regular : (strict : Bool) (s : Slot) (ts : Trees) → deep_slot s ≡ true → fill strict (each s) ts ≡ true → all_regular k ts ≡ true
    each_regular strict s none d e = refl
    each_regular strict s (t ▸ ts) d e = both (is_regular k t) (all_regular k ts) (deep_regular strict s t d (left (fits strict s t) (fill strict (each s) ts) e)) (each_regular strict s ts d (right (fits strict s t) (fill strict (each s) ts) e))

    each_or_last_regular : (strict : Bool) (s r : Slot) (ts : Trees) → deep_slot s ≡ true → deep_slot r ≡ true → fill strict (each_or_last s r) ts ≡ true → all_regular k ts ≡ true
    each_or_last_regular strict s r none d f e = refl
    each_or_last_regular strict s r (t ▸ ts) d f e =
        both (is_regular k t) (all_regular k ts) (of_either_if (fits strict s t) (is_last ts) (fits strict r t) (is_regular k t ≡ true) (deep_regular strict s t d) (deep_regular strict r t f) (left (fits strict s t || (is_last ts && fits strict r t)) (fill strict (each_or_last s r) ts) e))
        (each_or_last_regular strict s r ts d f (right (fits strict s t || (is_last ts && fits strict r t)) (fill strict (each_or_last s r) ts) e))

  -- ---- a program

  import_other : (h : Shape) (xs : List Name) (n : ℕ) (ts : Trees) → is_among (by_symbol k) (imported_names (node h xs n ts)) ≡ false → imports_no k h ts ≡ true
  unfolding imported_names names_of
  import_other shape.ImportDeclaration xs n ts e = λ i. not (e i)
  import_other h xs n ts e = refl

  -- a statement of a module's own list
  top_regular : (strict : Bool) (t : Tree) → is_among (by_symbol k) (imported_names t) ≡ false → fits strict (one (a_statement in_module)) t ≡ true → is_regular k t ≡ true
  top_regular strict (node h xs n ts) i e =
      node_regular (is_strict_in strict h) h xs n ts (statement_slots strict in_module h) (statement_right strict in_module h) (import_other h xs n ts i)
      (right (is_whole (a_statement in_module) h xs n ts) (fill (is_strict_in strict h) (filling_by (statement_slots strict in_module h)) ts) e) (λ ss f g. these_regular (is_strict_in strict h) ss ts f g)

  neither : (a b : Bool) → (a || b) ≡ false → (a ≡ false) × (b ≡ false)
  neither true b e = absurd (true≢false e)
  neither false b e = (refl, e)

  tops_regular : (strict : Bool) (ts : Trees) → is_among (by_symbol k) (all_imported_names ts) ≡ false → fill strict (each (one (a_statement in_module))) ts ≡ true → all_regular k ts ≡ true
  unfolding is_regular imported_names
  tops_regular strict none i e = refl
  tops_regular strict (t ▸ ts) i e =
      let (f, g) = neither (is_among (by_symbol k) (imported_names t)) (is_among (by_symbol k) (all_imported_names ts)) (sym (any_both (same_variable (by_symbol k)) (imported_names t) (all_imported_names ts)) ∙ i) in
      both (is_regular k t) (all_regular k ts) (top_regular strict t f (left (fits strict (one (a_statement in_module)) t) (fill strict (each (one (a_statement in_module))) ts) e))
      (tops_regular strict ts g (right (fits strict (one (a_statement in_module)) t) (fill strict (each (one (a_statement in_module))) ts) e))

  list_regular : (m strict : Bool) (t : Tree) → is_among (by_symbol k) (imported_names t) ≡ false → fits strict (many (a_statement (if m then in_module else in_body))) t ≡ true → is_regular k t ≡ true
  unfolding is_regular imported_names
  list_regular true strict (node shape.Listed xs n ts) i e = tops_regular strict ts i (right (is_whole (a_statement in_module) shape.Listed xs n ts) (fill strict (each (one (a_statement in_module))) ts) e)
  list_regular true strict (node h xs n ts) i e = absurd (refused_here strict (many (a_statement in_module)) h xs n ts refl e)
  list_regular false strict t i e = deep_regular strict (many (a_statement in_body)) t refl e

  program_regular : (t : Tree) → is_among (by_symbol k) (imported_names t) ≡ false → fits false (one a_program) t ≡ true → is_regular k t ≡ true
  unfolding is_regular imported_names
  program_regular (node (shape.Program m ds) xs n none) i e = absurd (true≢false (sym (right (is_whole a_program (shape.Program m ds) xs n none) false e)))
  program_regular (node (shape.Program m ds) xs n (t ▸ ts)) i e =
      let h : Shape = shape.Program m ds in
      let statements : Slot = many (a_statement (if m then in_module else in_body)) in
      let strict = is_strict_in false h in
      let filled = right (is_whole a_program h xs n (t ▸ ts)) (fill strict (these (statements ∷ [])) (t ▸ ts)) e in
      let (f, g) = neither (is_among (by_symbol k) (imported_names t)) (is_among (by_symbol k) (all_imported_names ts)) (sym (any_both (same_variable (by_symbol k)) (imported_names t) (all_imported_names ts)) ∙ i) in
      both (items_of h (t ▸ ts) && true) (is_regular k t && all_regular k ts) (both (items_of h (t ▸ ts)) true (slots_alone strict (statements ∷ []) (t ▸ ts) refl filled) refl)
      (both (is_regular k t) (all_regular k ts) (list_regular m strict t f (left (fits strict statements t) (fill strict (these []) ts) filled)) (these_regular strict [] ts refl (right (fits strict statements t) (fill strict (these []) ts) filled)))
  program_regular (node h xs n ts) i e = absurd (refused_here false (one a_program) h xs n ts refl e)

pub programs_are_regular : ProgramsAreRegular
programs_are_regular t s e = by (is_among (by_symbol s) (imported_names t)) refl
  where
    by : (b : Bool) → is_among (by_symbol s) (imported_names t) ≡ b → (is_regular s t ≡ true) ⊎ (is_among (by_symbol s) (imported_names t) ≡ true)
    by true f = inr f
    by false f = inl (program_regular s t f e)
