-- Well-shaped trees that are written alike have numbers at the same nodes.
use Rattle.std.specs.Prelude.{ℕ, zero, suc, ◌≡◌, refl, ◌==◌, ◌⊎◌, Bool, true, false, ◌&&◌, ◌||◌, not, List, [], ◌∷◌, map, Option, Some, None, if◌then◌else◌, pos, negsuc}
use Rattle.std.proofs.Common.{ap, sym, subst, inl, inr}
use Rattle.std.proofs.lemmas.Bool.{and_parts, eqb-true}
use Rattle.mini_model.specs.declared.name.Name.{Name}
use Rattle.mini_model.specs.declared.kind.MetaPropertyKind.TheVariants.{NewTarget, ImportMeta}
use Rattle.mini_model.specs.declared.operator.AssignmentOperator.TheVariants.{Assign}
use Rattle.mini_model.specs.declared.shape.Shape.{Shape}
use Rattle.mini_model.specs.declared.shape.Shape.TheVariants as shape
use Rattle.mini_model.specs.Tree.{Tree, Trees, node, none, ◌▸◌}
use Rattle.mini_laws.specs.Symbols.{with_new, no_symbol, bare_names, bare, all_bare}
use Rattle.mini_accept.specs.Symbols.{has_no_symbol}
use Rattle.mini_accept.specs.WellShaped.{Tagging, Depth, in_module, in_body, nested, Class, a_program, a_statement, a_block, a_case, a_catch, an_init, a_loop_left, a_declarator, a_pattern, a_pattern_element, a_pattern_property, a_pattern_rest, a_parameter, a_binding, a_label, a_private_name, a_function_body, an_arrow_body, a_class_body, a_class_member, a_method, an_expression, a_link, a_chain, an_argument, an_inner_argument, an_inner, a_super, an_object_property, a_key, a_private_or_key, an_inner_key, a_tagged_template, a_target, a_simple_target, an_element_target, a_member_target, a_named_target, a_target_name, a_target_element, a_target_property, a_target_rest, an_import, a_module_name, a_string, an_export, an_exported_name, an_exported_declaration, a_default_export, a_word, Slot, one, one_or_absent, many, many_or_holes, many_and_rest, many_or_holes_and_rest, quasis, is_text, expression_slots, is_optional, none_if, unchained_slots, is_chained, member_slots, pattern_target_slots, pattern_slots, variable_slots, function_slots, or_else, module_slots, in_depth, is_sloppy_function, statement_slots, key_slots, private_or_key_slots, inner_slots, word_slots, slots_of, is_strict_in, is_numbered, has_its_number, has_names, has_plain_fields, has_its_parts, is_whole, is_quasi_by, is_quasi, are_quasis, Filling, refused, these, each, each_or_last, pieces, filling_by, filling, class_of, is_last, fits, fill, IsWellShaped}
use Rattle.mini_kept.specs.Carried.{renumbered, BothNumbered, NumberedAlike, AllNumberedAlike}
use Rattle.mini_kept.proofs.Bools.{left, right}
use Rattle.mini_kept.proofs.Expressions.{refused_here}
use Rattle.mini_kept.proofs.Texts.{text, texts, bare_same}

-- ---- of a shape at a place some number is above 0, or none

both_by : (b : Bool) (n m : ℕ) → (if b then not (n == 0) else (n == 0)) ≡ true → (if b then not (m == 0) else (m == 0)) ≡ true → BothNumbered n m
both_by b zero zero e f = tt
both_by b (suc n) (suc m) e f = tt
both_by true zero (suc m) e f = cc e
both_by true (suc n) zero e f = cc f
both_by false zero (suc m) e f = cc (eqb-true (suc m) 0 f)
both_by false (suc n) zero e f = cc (eqb-true (suc n) 0 e)

both_numbered : (c : Class) (h : Shape) (n m : ℕ) → has_its_number c h n ≡ true → has_its_number c h m ≡ true → BothNumbered n m
both_numbered c (shape.Program is_module ds) n m e f = both_by false n m e f
both_numbered c h n m e f = both_by (is_numbered c h) n m e f

its_number : (c : Class) (h : Shape) (xs : List Name) (n : ℕ) (ts : Trees) → is_whole c h xs n ts ≡ true → has_its_number c h n ≡ true
its_number c h xs n ts e = left (has_its_number c h n) (has_plain_fields h && has_its_parts c h ts) (right (has_names h xs) (has_its_number c h n && (has_plain_fields h && has_its_parts c h ts)) e)

-- ---- the items of a list that may end in a rest, and the rest, have other shapes

abbrev is_rest : Class → Bool
is_rest a_pattern_rest = true
is_rest a_target_rest = true
is_rest c = false

abbrev is_item : Class → Bool
is_item a_parameter = true
is_item a_pattern_property = true
is_item a_pattern_element = true
is_item a_target_property = true
is_item a_target_element = true
is_item c = false

abbrev is_sound : Slot → Bool
is_sound (many_and_rest c rest) = is_item c && is_rest rest
is_sound (many_or_holes_and_rest c rest) = is_item c && is_rest rest
is_sound s = true

abbrev are_sound : List Slot → Bool
are_sound [] = true
are_sound (s ∷ ss) = is_sound s && are_sound ss

abbrev sound_by : Option (List Slot) → Bool
sound_by None = true
sound_by (Some ss) = are_sound ss

-- the slots of each shape at each place are of that kind

sound_if : (b : Bool) (o : Option (List Slot)) → sound_by o ≡ true → sound_by (none_if b o) ≡ true
sound_if true o e = refl
sound_if false o e = e

sound_or : (o u : Option (List Slot)) → sound_by o ≡ true → sound_by u ≡ true → sound_by (or_else o u) ≡ true
sound_or None u e f = f
sound_or (Some ss) u e f = e

expression_sound : (k : Class) (h : Shape) → sound_by (expression_slots k h) ≡ true
expression_sound k (shape.Function true g ds) = refl
expression_sound k (shape.Function false g ds) = refl
expression_sound k (shape.Class true) = refl
expression_sound k (shape.Class false) = refl
expression_sound k (shape.AssignmentExpression Assign) = refl
expression_sound k (shape.AssignmentExpression o) = refl
expression_sound k (shape.YieldExpression true) = refl
expression_sound k (shape.YieldExpression false) = refl
expression_sound k (shape.MetaProperty NewTarget) = refl
expression_sound k (shape.MetaProperty ImportMeta) = refl
expression_sound k h = refl

unchained_sound : (h : Shape) → sound_by (unchained_slots h) ≡ true
unchained_sound h = sound_if (is_optional h) (expression_slots an_expression h) (expression_sound an_expression h)

member_sound : (h : Shape) → sound_by (member_slots h) ≡ true
member_sound (shape.StaticMemberExpression true) = refl
member_sound (shape.StaticMemberExpression false) = refl
member_sound (shape.ComputedMemberExpression true) = refl
member_sound (shape.ComputedMemberExpression false) = refl
member_sound (shape.PrivateFieldExpression true) = refl
member_sound (shape.PrivateFieldExpression false) = refl
member_sound h = refl

target_sound : (h : Shape) → sound_by (pattern_target_slots h) ≡ true
target_sound shape.Identifier = refl
target_sound h = refl

pattern_sound : (h : Shape) → sound_by (pattern_slots h) ≡ true
pattern_sound shape.BindingIdentifier = refl
pattern_sound h = refl

variable_sound : (h : Shape) → sound_by (variable_slots h) ≡ true
variable_sound (shape.VariableDeclaration k) = refl
variable_sound h = refl

function_sound : (c : Slot) (h : Shape) → is_sound c ≡ true → sound_by (function_slots c h) ≡ true
function_sound c (shape.Function true g ds) e = ap (λ b. b && true) e
function_sound c (shape.Function false g ds) e = refl
function_sound c (shape.Class true) e = ap (λ b. b && true) e
function_sound c (shape.Class false) e = refl
function_sound c h e = refl

module_sound : (d : Depth) (h : Shape) → sound_by (in_depth d (module_slots h)) ≡ true
module_sound in_module shape.ImportDeclaration = refl
module_sound in_module h = refl
module_sound in_body h = refl
module_sound nested h = refl

statement_sound : (strict : Bool) (d : Depth) (h : Shape) → sound_by (statement_slots strict d h) ≡ true
statement_sound strict d shape.EmptyStatement = refl
statement_sound strict d shape.DebuggerStatement = refl
statement_sound strict d shape.ExpressionStatement = refl
statement_sound strict d shape.BlockStatement = refl
statement_sound strict d shape.LabeledStatement = refl
statement_sound strict d shape.BreakStatement = refl
statement_sound strict d shape.ContinueStatement = refl
statement_sound strict d shape.ReturnStatement = refl
statement_sound strict d shape.ThrowStatement = refl
statement_sound strict d shape.IfStatement = refl
statement_sound strict d shape.SwitchStatement = refl
statement_sound strict d shape.TryStatement = refl
statement_sound strict d shape.WhileStatement = refl
statement_sound strict d shape.DoWhileStatement = refl
statement_sound strict d shape.ForStatement = refl
statement_sound strict d shape.ForInStatement = refl
statement_sound strict d shape.ForOfStatement = refl
statement_sound strict d h =
    sound_if (is_sloppy_function strict d h) (or_else (variable_slots h) (or_else (function_slots (one a_binding) h) (in_depth d (module_slots h))))
    (sound_or (variable_slots h) (or_else (function_slots (one a_binding) h) (in_depth d (module_slots h))) (variable_sound h) (sound_or (function_slots (one a_binding) h) (in_depth d (module_slots h)) (function_sound (one a_binding) h refl) (module_sound d h)))

key_sound : (h : Shape) → sound_by (key_slots h) ≡ true
key_sound (shape.NumericLiteral (pos n)) = refl
key_sound (shape.NumericLiteral (negsuc n)) = refl
key_sound h = refl

private_or_key_sound : (h : Shape) → sound_by (private_or_key_slots h) ≡ true
private_or_key_sound (shape.PrivateIdentifier s) = refl
private_or_key_sound h = key_sound h

inner_sound : (c : Class) (h : Shape) → sound_by (inner_slots c h) ≡ true
inner_sound c shape.InnerExpression = refl
inner_sound c h = refl

word_sound : (w : List ℕ) (h : Shape) → sound_by (word_slots w h) ≡ true
word_sound w (shape.IdentifierName s) = sound_if (not (is_text s w)) (Some []) refl
word_sound w h = refl

slots_sound : (strict : Bool) (c : Class) (h : Shape) → sound_by (slots_of strict c h) ≡ true
slots_sound strict a_program (shape.Program m ds) = refl
slots_sound strict (a_statement d) h = statement_sound strict d h
slots_sound strict a_block shape.BlockStatement = refl
slots_sound strict a_case shape.SwitchCase = refl
slots_sound strict a_catch shape.CatchClause = refl
slots_sound strict an_init h = sound_or (variable_slots h) (unchained_slots h) (variable_sound h) (unchained_sound h)
slots_sound strict (a_loop_left b) h = sound_or (variable_slots h) (or_else (pattern_target_slots h) (member_slots h)) (variable_sound h) (sound_or (pattern_target_slots h) (member_slots h) (target_sound h) (member_sound h))
slots_sound strict a_declarator shape.VariableDeclarator = refl
slots_sound strict a_parameter shape.AssignmentPattern = refl
slots_sound strict a_parameter h = pattern_sound h
slots_sound strict a_function_body shape.FunctionBody = refl
slots_sound strict an_arrow_body shape.FunctionBody = refl
slots_sound strict an_arrow_body h = unchained_sound h
slots_sound strict a_class_body shape.ClassBody = refl
slots_sound strict a_class_member shape.StaticBlock = refl
slots_sound strict a_method (shape.Function false g ds) = refl
slots_sound strict a_binding shape.BindingIdentifier = refl
slots_sound strict a_label (shape.IdentifierName s) = refl
slots_sound strict a_private_name (shape.PrivateIdentifier s) = refl
slots_sound strict (a_word w) h = word_sound w h
slots_sound strict an_expression h = unchained_sound h
slots_sound strict a_link h = expression_sound a_link h
slots_sound strict a_chain h = sound_if (not (is_chained h)) (expression_slots a_link h) (expression_sound a_link h)
slots_sound strict an_argument shape.SpreadElement = refl
slots_sound strict an_argument h = unchained_sound h
slots_sound strict an_inner_argument shape.SpreadElement = refl
slots_sound strict an_inner_argument h = inner_sound an_expression h
slots_sound strict (an_inner c) h = inner_sound c h
slots_sound strict a_super shape.Super = refl
slots_sound strict an_object_property shape.SpreadElement = refl
slots_sound strict (a_key true) h = unchained_sound h
slots_sound strict (a_key false) h = key_sound h
slots_sound strict (a_private_or_key true) h = inner_sound an_expression h
slots_sound strict (a_private_or_key false) h = private_or_key_sound h
slots_sound strict (an_inner_key true) h = inner_sound an_expression h
slots_sound strict (an_inner_key false) h = key_sound h
slots_sound strict a_tagged_template shape.TemplateLiteral = refl
slots_sound strict a_pattern h = pattern_sound h
slots_sound strict a_pattern_element shape.AssignmentPattern = refl
slots_sound strict a_pattern_element h = pattern_sound h
slots_sound strict a_pattern_property (shape.BindingProperty shorthand computed) = refl
slots_sound strict a_pattern_rest shape.RestElement = refl
slots_sound strict a_target h = sound_or (pattern_target_slots h) (member_slots h) (target_sound h) (member_sound h)
slots_sound strict a_simple_target shape.Identifier = refl
slots_sound strict a_simple_target h = member_sound h
slots_sound strict an_element_target h = sound_or (pattern_target_slots h) (inner_slots a_member_target h) (target_sound h) (inner_sound a_member_target h)
slots_sound strict a_member_target h = member_sound h
slots_sound strict a_target_element shape.AssignmentPattern = refl
slots_sound strict a_target_element h = sound_or (pattern_target_slots h) (inner_slots a_member_target h) (target_sound h) (inner_sound a_member_target h)
slots_sound strict a_target_property shape.AssignmentTargetPropertyIdentifier = refl
slots_sound strict a_named_target shape.Identifier = refl
slots_sound strict a_target_name shape.Identifier = refl
slots_sound strict a_target_rest shape.RestElement = refl
slots_sound strict an_import shape.ImportSpecifier = refl
slots_sound strict a_module_name (shape.IdentifierName s) = refl
slots_sound strict a_string (shape.StringLiteral s) = refl
slots_sound strict an_export shape.ExportSpecifier = refl
slots_sound strict an_exported_name shape.Identifier = refl
slots_sound strict an_exported_declaration h = sound_or (variable_slots h) (function_slots (one a_binding) h) (variable_sound h) (function_sound (one a_binding) h refl)
slots_sound strict a_default_export h = sound_or (function_slots (one_or_absent a_binding) h) (unchained_slots h) (function_sound (one_or_absent a_binding) h refl) (unchained_sound h)
slots_sound strict c h = refl

item_refuses : (strict : Bool) (c : Class) → is_item c ≡ true → slots_of strict c shape.RestElement ≡ None
item_refuses strict a_parameter e = refl
item_refuses strict a_pattern_property e = refl
item_refuses strict a_pattern_element e = refl
item_refuses strict a_target_property e = refl
item_refuses strict a_target_element e = refl
item_refuses strict c e = absurd (cc e)

abbrev is_rest_shape : Shape → Bool
is_rest_shape shape.RestElement = true
is_rest_shape h = false

rest_refuses : (strict : Bool) (r : Class) (h : Shape) → is_rest r ≡ true → is_rest_shape h ≡ false → slots_of strict r h ≡ None
rest_refuses strict a_pattern_rest shape.RestElement e f = absurd (cc f)
rest_refuses strict a_pattern_rest h e f = refl
rest_refuses strict a_target_rest shape.RestElement e f = absurd (cc f)
rest_refuses strict a_target_rest h e f = refl
rest_refuses strict r h e f = absurd (cc e)

abbrev Apart : Slot → Slot → Type 0
Apart s l = (strict : Bool) (h : Shape) → (filling strict s h ≡ refused) ⊎ (filling strict l h ≡ refused)

one_apart : (c r : Class) → is_item c ≡ true → is_rest r ≡ true → Apart (one c) (one r)
one_apart c r q w strict shape.RestElement = inl (ap filling_by (item_refuses strict c q))
one_apart c r q w strict h = inr (ap filling_by (rest_refuses strict r h w refl))

absent_apart : (c r : Class) → is_item c ≡ true → is_rest r ≡ true → Apart (one_or_absent c) (one r)
absent_apart c r q w strict shape.RestElement = inl (ap filling_by (item_refuses strict c q))
absent_apart c r q w strict h = inr (ap filling_by (rest_refuses strict r h w refl))

-- what the children of a node fill
abbrev Sound : Filling → Type 0
Sound (these ss) = are_sound ss ≡ true
Sound (each s) = is_sound s ≡ true
Sound (each_or_last s l) = (is_sound s ≡ true) × (is_sound l ≡ true) × Apart s l
Sound g = Unit {0}

filled_sound : (o : Option (List Slot)) → sound_by o ≡ true → Sound (filling_by o)
filled_sound None e = tt
filled_sound (Some ss) e = e

sound_filling : (strict : Bool) (s : Slot) (h : Shape) → is_sound s ≡ true → Sound (filling strict s h)
sound_filling strict (one c) h q = filled_sound (slots_of strict c h) (slots_sound strict c h)
sound_filling strict (one_or_absent c) shape.Absent q = refl
sound_filling strict (one_or_absent c) h q = filled_sound (slots_of strict c h) (slots_sound strict c h)
sound_filling strict (many c) shape.Listed q = refl
sound_filling strict (many_or_holes c) shape.Listed q = refl
sound_filling strict (many_and_rest c r) shape.Listed q = (refl, refl, one_apart c r (left (is_item c) (is_rest r) q) (right (is_item c) (is_rest r) q))
sound_filling strict (many_or_holes_and_rest c r) shape.Listed q = (refl, refl, absent_apart c r (left (is_item c) (is_rest r) q) (right (is_item c) (is_rest r) q))
sound_filling strict (quasis g) shape.Listed q = tt
sound_filling strict s h q = tt

-- ---- trees

not_both : (strict : Bool) (s l : Slot) (t u : Tree) → Apart s l → fits strict s t ≡ true → fits strict l u ≡ true → text t ≡ text u → ⊥
unfolding renumbered bare
not_both strict s l (node h xs n ts) (node h' xs' m us) a e f w =
    let same : h ≡ h' = cc in
    elim (a strict h) [ inl q ↦ refused_here strict s h xs n ts q e | inr q ↦ refused_here strict l h' xs' m us (subst (λ k. filling strict l k ≡ refused) same q) f ]

either : (a l b : Bool) → (a || (l && b)) ≡ true → (a ≡ true) ⊎ (b ≡ true)
either true l b e = inl refl
either false true b e = inr e
either false false b e = absurd (cc e)

agree : {A B C D P : Type 0} → A ⊎ B → C ⊎ D → (A → C → P) → (B → D → P) → (A → D → ⊥) → (B → C → ⊥) → P
agree (inl a) (inl c) f g h k = f a c
agree (inl a) (inr d) f g h k = absurd (h a d)
agree (inr b) (inl c) f g h k = absurd (k b c)
agree (inr b) (inr d) f g h k = g b d

quasi_number : (g : Tagging) (last : Bool) (h : Shape) (n : ℕ) → is_quasi g last (node h [] n none) ≡ true → (n == 0) ≡ true
quasi_number g last h n e = left (n == 0) (has_plain_fields h) (right (is_quasi_by g last h) ((n == 0) && has_plain_fields h) e)

quasi_alike : (g : Tagging) (last : Bool) (t u : Tree) → is_quasi g last t ≡ true → is_quasi g last u ≡ true → text t ≡ text u → NumberedAlike (bare t) (bare u)
unfolding renumbered bare
quasi_alike g last (node h (x ∷ xs) n ts) u e f w = absurd (cc e)
quasi_alike g last (node h [] n (t ▸ ts)) u e f w = absurd (cc e)
quasi_alike g last (node h [] n none) (node h' (x ∷ xs) m us) e f w = absurd (cc f)
quasi_alike g last (node h [] n none) (node h' [] m (u ▸ us)) e f w = absurd (cc f)
quasi_alike g last (node h [] n none) (node h' [] m none) e f w =
    let same : h ≡ h' = cc in
    (same, ap (λ k. bare_names k []) same, both_by false n m (quasi_number g last h n e) (quasi_number g last h' m f), tt)

quasis_alike : (g : Tagging) (ts us : Trees) → are_quasis g ts ≡ true → are_quasis g us ≡ true → texts ts ≡ texts us → AllNumberedAlike (all_bare ts) (all_bare us)
unfolding renumbered bare
quasis_alike g none us e f w = absurd (cc e)
quasis_alike g (t ▸ ts) none e f w = absurd (cc w)
quasis_alike g (t ▸ none) (u ▸ none) e f w =
    let same : text t ≡ text u = cc in
    (quasi_alike g true t u e f same, tt)
quasis_alike g (t ▸ none) (u ▸ (v ▸ us)) e f w = absurd (let no : none ≡ texts (v ▸ us) = cc in cc no)
quasis_alike g (t ▸ (v ▸ ts)) (u ▸ none) e f w = absurd (let no : texts (v ▸ ts) ≡ none = cc in cc no)
quasis_alike g (t ▸ (t' ▸ ts)) (u ▸ (u' ▸ us)) e f w =
    let (own, rest) = and_parts (is_quasi g false t) (are_quasis g (t' ▸ ts)) e in
    let (own', rest') = and_parts (is_quasi g false u) (are_quasis g (u' ▸ us)) f in
    let same : text t ≡ text u = cc in
    let others : texts (t' ▸ ts) ≡ texts (u' ▸ us) = cc in
    (quasi_alike g false t u own own' same, quasis_alike g (t' ▸ ts) (u' ▸ us) rest rest' others)

mutual
  unfolding renumbered bare

  alike : (strict : Bool) (s : Slot) (t u : Tree) → is_sound s ≡ true → fits strict s t ≡ true → fits strict s u ≡ true → text t ≡ text u → NumberedAlike (bare t) (bare u)
  alike strict s (node h xs n ts) (node h' xs' m us) q e f w =
      let same : h ≡ h' = cc in
      let names : bare_names h xs ≡ bare_names h' xs' = cc in
      let below : texts ts ≡ texts us = cc in
      let f' = subst (λ k. fits strict s (node k xs' m us) ≡ true) (sym same) f in
      let (whole, filled) = and_parts (is_whole (class_of s) h xs n ts) (fill (is_strict_in strict h) (filling strict s h) ts) e in
      let (whole', filled') = and_parts (is_whole (class_of s) h xs' m us) (fill (is_strict_in strict h) (filling strict s h) us) f' in
      (same, names, both_numbered (class_of s) h n m (its_number (class_of s) h xs n ts whole) (its_number (class_of s) h xs' m us whole'), all_alike (is_strict_in strict h) (filling strict s h) ts us (sound_filling strict s h q) filled filled' below)

  all_alike : (strict : Bool) (g : Filling) (ts us : Trees) → Sound g → fill strict g ts ≡ true → fill strict g us ≡ true → texts ts ≡ texts us → AllNumberedAlike (all_bare ts) (all_bare us)
  all_alike strict g none none q e f w = tt
  all_alike strict g none (u ▸ us) q e f w = absurd (cc w)
  all_alike strict g (t ▸ ts) none q e f w = absurd (cc w)
  all_alike strict refused (t ▸ ts) (u ▸ us) q e f w = absurd (cc e)
  all_alike strict (these []) (t ▸ ts) (u ▸ us) q e f w = absurd (cc e)
  all_alike strict (these (s ∷ ss)) (t ▸ ts) (u ▸ us) q e f w =
      let (own, rest) = and_parts (fits strict s t) (fill strict (these ss) ts) e in
      let (own', rest') = and_parts (fits strict s u) (fill strict (these ss) us) f in
      let same : text t ≡ text u = cc in
      let others : texts ts ≡ texts us = cc in
      (alike strict s t u (left (is_sound s) (are_sound ss) q) own own' same, all_alike strict (these ss) ts us (right (is_sound s) (are_sound ss) q) rest rest' others)
  all_alike strict (each s) (t ▸ ts) (u ▸ us) q e f w =
      let (own, rest) = and_parts (fits strict s t) (fill strict (each s) ts) e in
      let (own', rest') = and_parts (fits strict s u) (fill strict (each s) us) f in
      let same : text t ≡ text u = cc in
      let others : texts ts ≡ texts us = cc in
      (alike strict s t u q own own' same, all_alike strict (each s) ts us q rest rest' others)
  all_alike strict (each_or_last s l) (t ▸ ts) (u ▸ us) q e f w =
      let (own, rest) = and_parts (fits strict s t || (is_last ts && fits strict l t)) (fill strict (each_or_last s l) ts) e in
      let (own', rest') = and_parts (fits strict s u || (is_last us && fits strict l u)) (fill strict (each_or_last s l) us) f in
      let same : text t ≡ text u = cc in
      let others : texts ts ≡ texts us = cc in (
        agree (either (fits strict s t) (is_last ts) (fits strict l t) own) (either (fits strict s u) (is_last us) (fits strict l u) own') (λ a b. alike strict s t u q.0 a b same) (λ a b. alike strict l t u q.1 a b same)
            (λ a b. not_both strict s l t u q.2 a b same)
            (λ a b. not_both strict s l u t q.2 b a (sym same)),
        all_alike strict (each_or_last s l) ts us q rest rest' others,
      )
  all_alike strict (pieces g) (t ▸ ts) (u ▸ us) q e f w = quasis_alike g (t ▸ ts) (u ▸ us) e f w

pub bare_alike : (t u : Tree) → IsWellShaped t → IsWellShaped u → text t ≡ text u → NumberedAlike (bare t) (bare u)
bare_alike t u e f w = alike false (one a_program) t u refl e f w

-- so a tree without symbols is the other without its symbols, up to the numbers
pub numbered_alike : (t u : Tree) → has_no_symbol t ≡ true → IsWellShaped t → IsWellShaped u → text t ≡ text u → NumberedAlike t (bare u)
numbered_alike t u s e f w = subst (λ v. NumberedAlike v (bare u)) (bare_same t s) (bare_alike t u e f w)
