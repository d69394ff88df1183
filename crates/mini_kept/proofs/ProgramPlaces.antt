-- A program stands nowhere in a well-shaped tree but at its root, so that a step in one is at no program.
use Rattle.std.specs.Prelude.{ℕ, ◌≡◌, refl, Bool, true, false, ◌&&◌, ◌||◌, not, List, [], ◌∷◌, Option, Some, None, if◌then◌else◌, pos, negsuc}
use Rattle.std.proofs.Common.{ap, sym, true≢false}
use Rattle.std.proofs.lemmas.Bool.{and_parts}
use Rattle.mini_model.specs.declared.name.Name.{Name}
use Rattle.mini_model.specs.declared.kind.MetaPropertyKind.TheVariants.{NewTarget, ImportMeta}
use Rattle.mini_model.specs.declared.operator.AssignmentOperator.TheVariants.{Assign}
use Rattle.mini_model.specs.declared.place.Position.{Position}
use Rattle.mini_model.specs.declared.shape.Shape.{Shape}
use Rattle.mini_model.specs.declared.shape.Shape.TheVariants as shape
use Rattle.mini_model.specs.Tree.{Tree, Trees, node, none, ◌▸◌, count, shape_of}
use Rattle.mini_model.specs.Position.{child_position}
use Rattle.mini_model.specs.Rewriting.{Step, here, inside, StepIn, first, later}
use Rattle.mini_accept.specs.WellShaped.{Tagging, untagged, tagged, Depth, in_module, in_body, nested, Class, a_program, a_statement, a_block, a_case, a_catch, an_init, a_loop_left, a_declarator, a_pattern, a_pattern_element, a_pattern_property, a_pattern_rest, a_parameter, a_binding, a_label, a_private_name, a_function_body, an_arrow_body, a_class_body, a_class_member, a_method, an_expression, a_link, a_chain, an_argument, an_inner_argument, an_inner, a_super, an_object_property, a_key, a_private_or_key, an_inner_key, a_tagged_template, a_target, a_simple_target, an_element_target, a_member_target, a_named_target, a_target_name, a_target_element, a_target_property, a_target_rest, an_import, a_module_name, a_string, an_export, an_exported_name, an_exported_declaration, a_default_export, a_word, Slot, one, one_or_absent, many, many_or_holes, many_and_rest, many_or_holes_and_rest, quasis, is_text, is_init, expression_slots, is_optional, none_if, unchained_slots, is_chained, member_slots, pattern_target_slots, pattern_slots, variable_slots, function_slots, or_else, module_slots, in_depth, is_sloppy_function, statement_slots, key_slots, private_or_key_slots, inner_slots, word_slots, slots_of, is_strict_in, is_whole, is_quasi, are_quasis, Filling, refused, these, each, each_or_last, pieces, filling_by, filling, class_of, is_last, fits, fill, IsWellShaped}
use Rattle.mini_kept.specs.Rooted.{is_program}
use Rattle.mini_kept.proofs.Bools.{right}
use Rattle.mini_kept.proofs.Expressions.{refused_here}

-- ---- slots that take no program

abbrev is_other : Class → Bool
is_other a_program = false
is_other (an_inner c) = is_other c
is_other c = true

abbrev takes_other : Slot → Bool
takes_other (one c) = is_other c
takes_other (one_or_absent c) = is_other c
takes_other (many c) = is_other c
takes_other (many_or_holes c) = is_other c
takes_other (many_and_rest c rest) = is_other c && is_other rest
takes_other (many_or_holes_and_rest c rest) = is_other c && is_other rest
takes_other (quasis g) = true

abbrev take_other : List Slot → Bool
take_other [] = true
take_other (s ∷ ss) = takes_other s && take_other ss

abbrev other_by : Option (List Slot) → Bool
other_by None = true
other_by (Some ss) = take_other ss

abbrev other_in : Filling → Bool
other_in refused = true
other_in (these ss) = take_other ss
other_in (each s) = takes_other s
other_in (each_or_last s l) = takes_other s && takes_other l
other_in (pieces g) = true

-- ---- the slots of each shape do not

other_if : (b : Bool) (o : Option (List Slot)) → other_by o ≡ true → other_by (none_if b o) ≡ true
other_if true o e = refl
other_if false o e = e

other_or : (o u : Option (List Slot)) → other_by o ≡ true → other_by u ≡ true → other_by (or_else o u) ≡ true
other_or None u e f = f
other_or (Some ss) u e f = e

expression_other : (k : Class) (h : Shape) → is_other k ≡ true → other_by (expression_slots k h) ≡ true
expression_other k (shape.Function true g ds) e = refl
expression_other k (shape.Function false g ds) e = refl
expression_other k (shape.Class true) e = refl
expression_other k (shape.Class false) e = refl
expression_other k (shape.AssignmentExpression Assign) e = refl
expression_other k (shape.AssignmentExpression o) e = refl
expression_other k (shape.CallExpression b) e = ap (λ c. c && true) e
expression_other k (shape.StaticMemberExpression b) e = ap (λ c. c && true) e
expression_other k (shape.ComputedMemberExpression b) e = ap (λ c. c && true) e
expression_other k (shape.PrivateFieldExpression b) e = ap (λ c. c && true) e
expression_other k (shape.YieldExpression true) e = refl
expression_other k (shape.YieldExpression false) e = refl
expression_other k (shape.MetaProperty NewTarget) e = refl
expression_other k (shape.MetaProperty ImportMeta) e = refl
expression_other k h e = refl

unchained_other : (h : Shape) → other_by (unchained_slots h) ≡ true
unchained_other h = other_if (is_optional h) (expression_slots an_expression h) (expression_other an_expression h refl)

member_other : (h : Shape) → other_by (member_slots h) ≡ true
member_other (shape.StaticMemberExpression true) = refl
member_other (shape.StaticMemberExpression false) = refl
member_other (shape.ComputedMemberExpression true) = refl
member_other (shape.ComputedMemberExpression false) = refl
member_other (shape.PrivateFieldExpression true) = refl
member_other (shape.PrivateFieldExpression false) = refl
member_other h = refl

target_other : (h : Shape) → other_by (pattern_target_slots h) ≡ true
target_other shape.Identifier = refl
target_other h = refl

pattern_other : (h : Shape) → other_by (pattern_slots h) ≡ true
pattern_other shape.BindingIdentifier = refl
pattern_other h = refl

variable_other : (h : Shape) → other_by (variable_slots h) ≡ true
variable_other (shape.VariableDeclaration k) = refl
variable_other h = refl

function_other : (s : Slot) (h : Shape) → takes_other s ≡ true → other_by (function_slots s h) ≡ true
function_other s (shape.Function true g ds) e = ap (λ b. b && true) e
function_other s (shape.Function false g ds) e = refl
function_other s (shape.Class true) e = ap (λ b. b && true) e
function_other s (shape.Class false) e = refl
function_other s h e = refl

module_other : (d : Depth) (h : Shape) → other_by (in_depth d (module_slots h)) ≡ true
module_other in_module shape.ImportDeclaration = refl
module_other in_module h = refl
module_other in_body h = refl
module_other nested h = refl

declared_other : (strict : Bool) (d : Depth) (h : Shape) → other_by (none_if (is_sloppy_function strict d h) (or_else (variable_slots h) (or_else (function_slots (one a_binding) h) (in_depth d (module_slots h))))) ≡ true
declared_other strict d h =
    other_if (is_sloppy_function strict d h) (or_else (variable_slots h) (or_else (function_slots (one a_binding) h) (in_depth d (module_slots h))))
    (other_or (variable_slots h) (or_else (function_slots (one a_binding) h) (in_depth d (module_slots h))) (variable_other h) (other_or (function_slots (one a_binding) h) (in_depth d (module_slots h)) (function_other (one a_binding) h refl) (module_other d h)))

statement_other : (strict : Bool) (d : Depth) (h : Shape) → other_by (statement_slots strict d h) ≡ true
statement_other strict d shape.EmptyStatement = refl
statement_other strict d shape.DebuggerStatement = refl
statement_other strict d shape.ExpressionStatement = refl
statement_other strict d shape.BlockStatement = refl
statement_other strict d shape.LabeledStatement = refl
statement_other strict d shape.BreakStatement = refl
statement_other strict d shape.ContinueStatement = refl
statement_other strict d shape.ReturnStatement = refl
statement_other strict d shape.ThrowStatement = refl
statement_other strict d shape.IfStatement = refl
statement_other strict d shape.SwitchStatement = refl
statement_other strict d shape.TryStatement = refl
statement_other strict d shape.WhileStatement = refl
statement_other strict d shape.DoWhileStatement = refl
statement_other strict d shape.ForStatement = refl
statement_other strict d shape.ForInStatement = refl
statement_other strict d shape.ForOfStatement = refl
statement_other strict d h = declared_other strict d h

key_other : (h : Shape) → other_by (key_slots h) ≡ true
key_other (shape.NumericLiteral (pos n)) = refl
key_other (shape.NumericLiteral (negsuc n)) = refl
key_other h = refl

private_or_key_other : (h : Shape) → other_by (private_or_key_slots h) ≡ true
private_or_key_other (shape.PrivateIdentifier s) = refl
private_or_key_other h = key_other h

inner_other : (c : Class) (h : Shape) → is_other c ≡ true → other_by (inner_slots c h) ≡ true
inner_other c shape.InnerExpression e = ap (λ b. b && true) e
inner_other c h e = refl

word_other : (w : List ℕ) (h : Shape) → other_by (word_slots w h) ≡ true
word_other w (shape.IdentifierName s) = other_if (not (is_text s w)) (Some []) refl
word_other w h = refl

chosen_other : (b : Bool) → is_other (if b then a_method else an_expression) ≡ true
chosen_other true = refl
chosen_other false = refl

slots_other : (strict : Bool) (c : Class) (h : Shape) → is_other c ≡ true → other_by (slots_of strict c h) ≡ true
slots_other strict a_program h e = absurd (true≢false (sym e))
slots_other strict (a_statement d) h e = statement_other strict d h
slots_other strict a_block shape.BlockStatement e = refl
slots_other strict a_case shape.SwitchCase e = refl
slots_other strict a_catch shape.CatchClause e = refl
slots_other strict an_init h e = other_or (variable_slots h) (unchained_slots h) (variable_other h) (unchained_other h)
slots_other strict (a_loop_left b) h e = other_or (variable_slots h) (or_else (pattern_target_slots h) (member_slots h)) (variable_other h) (other_or (pattern_target_slots h) (member_slots h) (target_other h) (member_other h))
slots_other strict a_declarator shape.VariableDeclarator e = refl
slots_other strict a_parameter shape.AssignmentPattern e = refl
slots_other strict a_parameter h e = pattern_other h
slots_other strict a_function_body shape.FunctionBody e = refl
slots_other strict an_arrow_body shape.FunctionBody e = refl
slots_other strict an_arrow_body h e = unchained_other h
slots_other strict a_class_body shape.ClassBody e = refl
slots_other strict a_class_member shape.StaticBlock e = refl
slots_other strict a_method (shape.Function false g ds) e = refl
slots_other strict a_binding shape.BindingIdentifier e = refl
slots_other strict a_label (shape.IdentifierName s) e = refl
slots_other strict a_private_name (shape.PrivateIdentifier s) e = refl
slots_other strict (a_word w) h e = word_other w h
slots_other strict an_expression h e = unchained_other h
slots_other strict a_link h e = expression_other a_link h refl
slots_other strict a_chain h e = other_if (not (is_chained h)) (expression_slots a_link h) (expression_other a_link h refl)
slots_other strict an_argument shape.SpreadElement e = refl
slots_other strict an_argument h e = unchained_other h
slots_other strict an_inner_argument shape.SpreadElement e = refl
slots_other strict an_inner_argument h e = inner_other an_expression h refl
slots_other strict (an_inner c) h e = inner_other c h e
slots_other strict a_super shape.Super e = refl
slots_other strict an_object_property shape.SpreadElement e = refl
slots_other strict an_object_property (shape.ObjectProperty k is_method shorthand computed) e = ap (λ b. b && true) (chosen_other (is_method || not (is_init k)))
slots_other strict (a_key true) h e = unchained_other h
slots_other strict (a_key false) h e = key_other h
slots_other strict (a_private_or_key true) h e = inner_other an_expression h refl
slots_other strict (a_private_or_key false) h e = private_or_key_other h
slots_other strict (an_inner_key true) h e = inner_other an_expression h refl
slots_other strict (an_inner_key false) h e = key_other h
slots_other strict a_tagged_template shape.TemplateLiteral e = refl
slots_other strict a_pattern h e = pattern_other h
slots_other strict a_pattern_element shape.AssignmentPattern e = refl
slots_other strict a_pattern_element h e = pattern_other h
slots_other strict a_pattern_property (shape.BindingProperty shorthand computed) e = refl
slots_other strict a_pattern_rest shape.RestElement e = refl
slots_other strict a_target h e = other_or (pattern_target_slots h) (member_slots h) (target_other h) (member_other h)
slots_other strict a_simple_target shape.Identifier e = refl
slots_other strict a_simple_target h e = member_other h
slots_other strict an_element_target h e = other_or (pattern_target_slots h) (inner_slots a_member_target h) (target_other h) (inner_other a_member_target h refl)
slots_other strict a_member_target h e = member_other h
slots_other strict a_target_element shape.AssignmentPattern e = refl
slots_other strict a_target_element h e = other_or (pattern_target_slots h) (inner_slots a_member_target h) (target_other h) (inner_other a_member_target h refl)
slots_other strict a_target_property shape.AssignmentTargetPropertyIdentifier e = refl
slots_other strict a_named_target shape.Identifier e = refl
slots_other strict a_target_name shape.Identifier e = refl
slots_other strict a_target_rest shape.RestElement e = refl
slots_other strict an_import shape.ImportSpecifier e = refl
slots_other strict a_module_name (shape.IdentifierName s) e = refl
slots_other strict a_string (shape.StringLiteral s) e = refl
slots_other strict an_export shape.ExportSpecifier e = refl
slots_other strict an_exported_name shape.Identifier e = refl
slots_other strict an_exported_declaration h e = other_or (variable_slots h) (function_slots (one a_binding) h) (variable_other h) (function_other (one a_binding) h refl)
slots_other strict a_default_export h e = other_or (function_slots (one_or_absent a_binding) h) (unchained_slots h) (function_other (one_or_absent a_binding) h refl) (unchained_other h)
slots_other strict c h e = refl

other_filled : (o : Option (List Slot)) → other_by o ≡ true → other_in (filling_by o) ≡ true
other_filled None e = refl
other_filled (Some ss) e = e

filling_other : (strict : Bool) (s : Slot) (h : Shape) → takes_other s ≡ true → other_in (filling strict s h) ≡ true
filling_other strict (one c) h e = other_filled (slots_of strict c h) (slots_other strict c h e)
filling_other strict (one_or_absent c) shape.Absent e = refl
filling_other strict (one_or_absent c) h e = other_filled (slots_of strict c h) (slots_other strict c h e)
filling_other strict (many c) shape.Listed e = e
filling_other strict (many_or_holes c) shape.Listed e = e
filling_other strict (many_and_rest c rest) shape.Listed e = e
filling_other strict (many_or_holes_and_rest c rest) shape.Listed e = e
filling_other strict (quasis g) shape.Listed e = refl
filling_other strict s h e = refl

-- those of a program neither
root_other : (h : Shape) → other_in (filling false (one a_program) h) ≡ true
root_other (shape.Program is_module ds) = refl
root_other h = refl

-- ---- and a program fills none of these

program_refused : (strict : Bool) (c : Class) (m : Bool) (ds : List (List ℕ)) → is_other c ≡ true → filling_by (slots_of strict c (shape.Program m ds)) ≡ refused
program_refused strict a_program m ds e = absurd (true≢false (sym e))
program_refused true (a_statement in_module) m ds e = refl
program_refused true (a_statement in_body) m ds e = refl
program_refused true (a_statement nested) m ds e = refl
program_refused false (a_statement in_module) m ds e = refl
program_refused false (a_statement in_body) m ds e = refl
program_refused false (a_statement nested) m ds e = refl
program_refused strict (a_key true) m ds e = refl
program_refused strict (a_key false) m ds e = refl
program_refused strict (a_private_or_key true) m ds e = refl
program_refused strict (a_private_or_key false) m ds e = refl
program_refused strict (an_inner_key true) m ds e = refl
program_refused strict (an_inner_key false) m ds e = refl
program_refused strict c m ds e = refl

no_program : (strict : Bool) (s : Slot) (h : Shape) (xs : List Name) (n : ℕ) (ts : Trees) → takes_other s ≡ true → fits strict s (node h xs n ts) ≡ true → is_program h ≡ false
no_program strict (one c) (shape.Program m ds) xs n ts e f = absurd (refused_here strict (one c) (shape.Program m ds) xs n ts (program_refused strict c m ds e) f)
no_program strict (one_or_absent c) (shape.Program m ds) xs n ts e f = absurd (refused_here strict (one_or_absent c) (shape.Program m ds) xs n ts (program_refused strict c m ds e) f)
no_program strict s (shape.Program m ds) xs n ts e f = absurd (refused_here strict s (shape.Program m ds) xs n ts refl f)
no_program strict s h xs n ts e f = refl

no_program_piece : (g : Tagging) (last : Bool) (h : Shape) (xs : List Name) (n : ℕ) (ts : Trees) → is_quasi g last (node h xs n ts) ≡ true → is_program h ≡ false
no_program_piece untagged last (shape.Program m ds) [] n none e = absurd (true≢false (sym e))
no_program_piece tagged last (shape.Program m ds) [] n none e = absurd (true≢false (sym e))
no_program_piece g last (shape.Program m ds) [] n (t ▸ ts) e = absurd (true≢false (sym e))
no_program_piece g last (shape.Program m ds) (x ∷ xs) n ts e = absurd (true≢false (sym e))
no_program_piece g last h xs n ts e = refl

-- ---- a step in a tree that fills such a slot is at no program

-- what a relation makes of nodes that are no programs
abbrev pub NoProgram : (Position → Tree → Tree → Type 0) → Position → Tree → Tree → Type 0
NoProgram R p n w = R p n w × (is_program (shape_of n) ≡ false)

by_either : {X : Type 0} (a b d : Bool) → (a ≡ true → X) → (d ≡ true → X) → (a || (b && d)) ≡ true → X
by_either true b d f g e = f refl
by_either false true d f g e = g e
by_either false false d f g e = absurd (true≢false (sym e))

module _ (R : Position → Tree → Tree → Type 0) where
  in_piece : (g : Tagging) (last : Bool) {p : Position} {t u : Tree} → is_quasi g last t ≡ true → Step R p t u → Step (NoProgram R) p t u
  in_piece g last e (here p (node h xs n ts) w r) = here p (node h xs n ts) w (r, no_program_piece g last h xs n ts e)
  in_piece g last e (inside p h [] n none us s) = elim s [ ]
  in_piece g last e (inside p h [] n (t ▸ ts) us s) = absurd (true≢false (sym e))
  in_piece g last e (inside p h (x ∷ xs) n ts us s) = absurd (true≢false (sym e))

  in_pieces : (g : Tagging) {π : ℕ → Position} {ts us : Trees} → are_quasis g ts ≡ true → StepIn R π ts us → StepIn (NoProgram R) π ts us
  in_pieces g e (first π t u none s) = first π t u none (in_piece g true e s)
  in_pieces g e (first π t u (v ▸ ts) s) = first π t u (v ▸ ts) (in_piece g false (and_parts (is_quasi g false t) (are_quasis g (v ▸ ts)) e).0 s)
  in_pieces g e (later π t none us s) = elim s [ ]
  in_pieces g e (later π t (v ▸ ts) us s) = later π t (v ▸ ts) us (in_pieces g (and_parts (is_quasi g false t) (are_quasis g (v ▸ ts)) e).1 s)

  mutual
    inner_step : (strict : Bool) (s : Slot) → takes_other s ≡ true → {p : Position} {t u : Tree} → fits strict s t ≡ true → Step R p t u → Step (NoProgram R) p t u
    inner_step strict s c e (here p (node h xs n ts) w r) = here p (node h xs n ts) w (r, no_program strict s h xs n ts c e)
    inner_step strict s c e (inside p h xs n ts us st) =
        inside p h xs n ts us (inner_steps (is_strict_in strict h) (filling strict s h) (filling_other strict s h c) (right (is_whole (class_of s) h xs n ts) (fill (is_strict_in strict h) (filling strict s h) ts) e) st)

    pub inner_steps : (strict : Bool) (g : Filling) → other_in g ≡ true → {π : ℕ → Position} {ts us : Trees} → fill strict g ts ≡ true → StepIn R π ts us → StepIn (NoProgram R) π ts us
    inner_steps strict refused c e st = absurd (true≢false (sym e))
    inner_steps strict (pieces g) c e (first π t u ts st) = in_pieces g e (first π t u ts st)
    inner_steps strict (pieces g) c e (later π t ts us st) = in_pieces g e (later π t ts us st)
    inner_steps strict (these []) c e (first π t u ts st) = absurd (true≢false (sym e))
    inner_steps strict (these []) c e (later π t ts us st) = absurd (true≢false (sym e))
    inner_steps strict (these (s ∷ ss)) c e (first π t u ts st) = first π t u ts (inner_step strict s (and_parts (takes_other s) (take_other ss) c).0 (and_parts (fits strict s t) (fill strict (these ss) ts) e).0 st)
    inner_steps strict (these (s ∷ ss)) c e (later π t ts us st) = later π t ts us (inner_steps strict (these ss) (and_parts (takes_other s) (take_other ss) c).1 (and_parts (fits strict s t) (fill strict (these ss) ts) e).1 st)
    inner_steps strict (each s) c e (first π t u ts st) = first π t u ts (inner_step strict s c (and_parts (fits strict s t) (fill strict (each s) ts) e).0 st)
    inner_steps strict (each s) c e (later π t ts us st) = later π t ts us (inner_steps strict (each s) c (and_parts (fits strict s t) (fill strict (each s) ts) e).1 st)
    inner_steps strict (each_or_last s l) c e (first π t u ts st) =
        let (k, m) = and_parts (takes_other s) (takes_other l) c in
        first π t u ts (by_either (fits strict s t) (is_last ts) (fits strict l t) (λ f. inner_step strict s k f st) (λ f. inner_step strict l m f st) (and_parts (fits strict s t || (is_last ts && fits strict l t)) (fill strict (each_or_last s l) ts) e).0)
    inner_steps strict (each_or_last s l) c e (later π t ts us st) = later π t ts us (inner_steps strict (each_or_last s l) c (and_parts (fits strict s t || (is_last ts && fits strict l t)) (fill strict (each_or_last s l) ts) e).1 st)

-- so below the root of a program
pub below_program : (R : Position → Tree → Tree → Type 0) (p : Position) (h : Shape) (xs : List Name) (n : ℕ) (ts us : Trees) → IsWellShaped (node h xs n ts) → StepIn R (child_position h p (count ts)) ts us → Step (NoProgram R) p (node h xs n ts) (node h xs n us)
below_program R p h xs n ts us e st =
    inside p h xs n ts us (inner_steps R (is_strict_in false h) (filling false (one a_program) h) (root_other h) (right (is_whole a_program h xs n ts) (fill (is_strict_in false h) (filling false (one a_program) h) ts) e) st)
