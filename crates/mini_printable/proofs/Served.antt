-- What fills a slot of ESTree and has no fault is printable where the slot's part stands.
use Rattle.std.proofs.Common.{◌≡◌, ℕ, Bool, true, false, ◌&&◌, ◌||◌, List, [], ◌∷◌, refl, ap, subst}
use Rattle.std.specs.Prelude.{None}
use Rattle.std.proofs.lemmas.Bool.{false≢true}
use Rattle.mini_model.specs.declared.name.Name.{Name}
use Rattle.mini_model.specs.declared.shape.Shape.{Shape}
use Rattle.mini_model.specs.declared.shape.Shape.TheVariants as shape
use Rattle.mini_model.specs.Tree.{Tree, Trees, node, none, ◌▸◌, listed, leaf as leaf'}
use Rattle.mini_accept.specs.WellShaped as accept
use Rattle.mini_accept.specs.WellShaped.{Class, Slot, a_program, in_module, in_body, nested, one, one_or_absent, many, many_and_rest, an_expression, an_inner, an_argument, an_inner_argument, an_inner_key, a_private_or_key, a_key, a_statement, a_label, a_private_name, a_pattern, a_pattern_element, a_pattern_property, a_pattern_rest, a_parameter, a_binding, a_class_body, a_class_member, a_function_body, a_method, an_object_property, a_declarator, a_simple_target, a_target_element, a_target_property, a_target_rest, a_named_target, a_member_target, a_case, a_catch, a_block, a_string, a_module_name, a_tagged_template, an_import, an_export, an_exported_declaration, a_default_export, quasis, tagged, is_sloppy_function, these, each, each_or_last, slots_of, filling_by, inner_slots, is_whole, has_names, fits}
use Rattle.mini_print.specs.Grammar.{Goal, Anything, Statement, ModuleItem, Element, AfterDot, KeyName, ClassKey, LabelName, Property, ClassBraces, ClassElement, Binding, Bound, BoundProperty, Parameter, BlockOnly, Catching, CaseItem, TargetElement, TargetProperty, Declared, HeadDeclared, SourceText, ModuleName, TagTemplate, Body, Leading, Zero, Gaps}
use Rattle.mini_print.specs.Unprintable.{first_fault, are_directives, is_directive, are_plain_rests, items_of}
use Rattle.mini_print.specs.Printed as printed
use Rattle.mini_print.specs.Printed.{Want, a_part, a_list, a_perhaps, a_block as a_run, a_silent, is_printable, are_printable, is_gap, shown, all_shown, seen, with_directives, directives}
use Rattle.mini_printable.proofs.Clean.{and_l, and_r, both, is_clean, are_clean, clean_node, program_clean}
use Rattle.mini_printable.proofs.Seats.{Seat, value, argument, inner, inner_argument, computed_key, inner_computed_key, private_computed_key, key, inner_key, private_key, name, private_name, label, super_here, property, class_body, binding, pattern, bound_element, element, parameter, pattern_rest, property_rest, bound_property, statement, top_statement, module_statement, block_only, simple_target, target_element, target_property, target_rest, declarator, head_declarator, case, member, text, module_name, tag_template, word, value_or_none, inner_or_none, label_or_none, binding_or_none, pattern_or_none, statement_or_none, block_or_none, catch_or_none, text_or_none, module_name_or_none, arguments, elements, properties, values, inner_arguments, inner_values, declarators, head_declarators, parameters, bound_properties, bound_elements, target_elements, block, top_block, module_block, cases, members, slot_at, want_at, suits, Named, named_class, Served, Below, parts, over_one, over_two, items, items_or_last}
use Rattle.mini_printable.proofs.Rows.{never, and_two, first_of_two, second_of_two, either, stands_at, part_of, value_stands, perhaps_of, nothing_of, present, Row, by_row, filled, many_case, holes_case, rest_case, holes_rest_case}
use Rattle.mini_printable.proofs.Templates.{template_at}
use Rattle.mini_printable.proofs.Values.{value_row}
use Rattle.mini_printable.proofs.Chains.{linked_at}
use Rattle.mini_printable.proofs.Leaves.{name_row, private_name_row, label_stands, key_row, private_key_row, text_row, module_name_row, super_shown, word_shown, element_stands, argument_row, computed_key_row, binding_row, pattern_row, element_at, bound_element_at, parameter_at, rest_row, property_rest_row, bound_property_row, declarator_row, head_declarator_row, class_body_row}
use Rattle.mini_printable.proofs.Targets.{simple_target_row, assigned, target_element_at, target_rest_row, plain_rest_row, object_list, bound_named, target_named, target_property_row}
use Rattle.mini_printable.proofs.Modules.{module_stands, exported_at, default_at}
use Rattle.mini_printable.proofs.Members.{method_at, property_row, member_row}
use Rattle.mini_printable.proofs.Statements.{unless, statement_row, nested_row, body_row, to_item, case_row, catch_row, block_row, init_at, left_at}

-- ---- inner expressions

inner_row : Row (an_inner an_expression) Anything
inner_row strict inside l shape.InnerExpression [] n ts b e k v = value_stands (seen shape.InnerExpression [] n (all_shown ts)) (over_one inside false (one an_expression) (λ us. is_printable (a_part Anything) (seen shape.InnerExpression [] n (all_shown us)) ≡ true) (λ t bt et kt. bt.seat inside value false refl et kt) ts b e k)
inner_row strict inside l h xs n ts b e k v = absurd (never (has_names h xs) e)

inner_key_row : Row (an_inner_key true) Anything
inner_key_row strict inside l shape.InnerExpression xs n ts b e k v = inner_row strict inside l shape.InnerExpression xs n ts b e k v
inner_key_row strict inside l h xs n ts b e k v = absurd (never (has_names h xs) e)

private_computed_row : Row (a_private_or_key true) Anything
private_computed_row strict inside l shape.InnerExpression xs n ts b e k v = inner_row strict inside l shape.InnerExpression xs n ts b e k v
private_computed_row strict inside l h xs n ts b e k v = absurd (never (has_names h xs) e)

inner_argument_row : Row an_inner_argument Element
inner_argument_row strict inside l shape.SpreadElement [] n ts b e k v = parts ts b inside (inner ∷ []) false refl e k
inner_argument_row strict inside l shape.InnerExpression xs n ts b e k v = element_stands (seen shape.InnerExpression xs n (all_shown ts)) (inner_row strict inside l shape.InnerExpression xs n ts b e k v)
inner_argument_row strict inside l h xs n ts b e k v = absurd (never (has_names h xs) e)

inner_plain_key_row : Row (an_inner_key false) KeyName
inner_plain_key_row strict inside l h xs n ts b e k v = key_row strict inside l h xs n ts b e k v

module_row : Row (a_statement in_module) ModuleItem
module_row strict inside l shape.ImportDeclaration [] n ts b e k v = module_stands strict inside l shape.ImportDeclaration n ts b (unless true (is_sloppy_function strict in_module shape.ImportDeclaration) inside (many an_import ∷ one a_string ∷ []) ts e) k v
module_row strict inside l shape.ImportDeclaration (x ∷ xs) n ts b e k v = absurd (false≢true e)
module_row strict inside l shape.ExportNamedDeclaration [] n ts b e k v = module_stands strict inside l shape.ExportNamedDeclaration n ts b (unless true (is_sloppy_function strict in_module shape.ExportNamedDeclaration) inside (one_or_absent an_exported_declaration ∷ many an_export ∷ one_or_absent a_string ∷ []) ts e) k v
module_row strict inside l shape.ExportNamedDeclaration (x ∷ xs) n ts b e k v = absurd (false≢true e)
module_row strict inside l shape.ExportDefaultDeclaration [] n ts b e k v = module_stands strict inside l shape.ExportDefaultDeclaration n ts b (unless true (is_sloppy_function strict in_module shape.ExportDefaultDeclaration) inside (one a_default_export ∷ []) ts e) k v
module_row strict inside l shape.ExportDefaultDeclaration (x ∷ xs) n ts b e k v = absurd (false≢true e)
module_row strict inside l shape.ExportAllDeclaration [] n ts b e k v = module_stands strict inside l shape.ExportAllDeclaration n ts b (unless true (is_sloppy_function strict in_module shape.ExportAllDeclaration) inside (one_or_absent a_module_name ∷ one a_string ∷ []) ts e) k v
module_row strict inside l shape.ExportAllDeclaration (x ∷ xs) n ts b e k v = absurd (false≢true e)
module_row strict inside l h xs n ts b e k v = to_item (seen h xs n (all_shown ts)) (statement_row in_module strict inside l h xs n ts b e k v refl)

tag_template_row : Row a_tagged_template TagTemplate
tag_template_row strict inside l shape.TemplateLiteral [] n ts b e k v =
    let d = clean_node l shape.TemplateLiteral [] n ts refl k in
    over_two inside false (quasis tagged) (many (an_inner an_expression)) (λ us. accept.has_its_parts a_tagged_template shape.TemplateLiteral us ≡ true → stands_at TagTemplate (seen shape.TemplateLiteral [] n (all_shown us)) ≡ true)
    (λ q t bq bt eq et kq kt w. template_at true inside n tagged (an_inner an_expression) q t (bt.seat inside inner_values false refl et kt) eq et w) ts b e d.2 v
tag_template_row strict inside l h xs n ts b e k v = absurd (never (has_names h xs) e)

-- ---- seats

part_by : (c : Class) (g : Goal) → Row c g → (strict l : Bool) (h : Shape) (xs : List Name) (n : ℕ) (ts : Trees) → Below ts → fits strict (one c) (node h xs n ts) ≡ true → is_clean l (node h xs n ts) ≡ true → is_printable (a_part g) (seen h xs n (all_shown ts)) ≡ true
part_by c g row strict l h xs n ts b e k = part_of g (seen h xs n (all_shown ts)) (by_row c g row strict l h xs n ts b e k)

perhaps_by : (c : Class) (g : Goal) → Row c g → (strict l : Bool) (h : Shape) (xs : List Name) (n : ℕ) (ts : Trees) → Below ts → fits strict (one_or_absent c) (node h xs n ts) ≡ true → is_clean l (node h xs n ts) ≡ true → is_printable (a_perhaps g) (seen h xs n (all_shown ts)) ≡ true
perhaps_by c g row strict l h xs n ts b e k = either (present strict c (node h xs n ts) e) (λ a. nothing_of g (seen h xs n (all_shown ts)) a.0) (λ a. perhaps_of g (seen h xs n (all_shown ts)) (by_row c g row strict l h xs n ts b a k))

-- an item of a list with holes
hole_item : (strict : Bool) (c : Class) (g : Goal) (t : Tree) → (fits strict (one c) t ≡ true → is_printable (a_part g) (shown t) ≡ true) → fits strict (one_or_absent c) t ≡ true → (is_gap (shown t) || is_printable (a_part g) (shown t)) ≡ true
hole_item strict c g t f e = either (present strict c t e) (λ a. first_of_two (is_gap (shown t)) (is_printable (a_part g) (shown t)) a.0) (λ a. second_of_two (is_gap (shown t)) (is_printable (a_part g) (shown t)) (f a))

seated : (h : Shape) (xs : List Name) (n : ℕ) (ts : Trees) → Below ts → (strict : Bool) (r : Seat) (l : Bool) → suits l r ≡ true → fits strict (slot_at r) (node h xs n ts) ≡ true → is_clean l (node h xs n ts) ≡ true → is_printable (want_at r) (shown (node h xs n ts)) ≡ true
seated h xs n ts b strict value l y e k = part_by an_expression Anything value_row strict l h xs n ts b e k
seated h xs n ts b strict argument l y e k = part_by an_argument Element argument_row strict l h xs n ts b e k
seated h xs n ts b strict inner l y e k = part_by (an_inner an_expression) Anything inner_row strict l h xs n ts b e k
seated h xs n ts b strict inner_argument l y e k = part_by an_inner_argument Element inner_argument_row strict l h xs n ts b e k
seated h xs n ts b strict computed_key l y e k = part_by (a_key true) Anything computed_key_row strict l h xs n ts b e k
seated h xs n ts b strict inner_computed_key l y e k = part_by (an_inner_key true) Anything inner_key_row strict l h xs n ts b e k
seated h xs n ts b strict private_computed_key l y e k = part_by (a_private_or_key true) Anything private_computed_row strict l h xs n ts b e k
seated h xs n ts b strict key l y e k = part_by (a_key false) KeyName key_row strict l h xs n ts b e k
seated h xs n ts b strict inner_key l y e k = part_by (an_inner_key false) KeyName inner_plain_key_row strict l h xs n ts b e k
seated h xs n ts b strict private_key l y e k = part_by (a_private_or_key false) ClassKey private_key_row strict l h xs n ts b e k
seated h xs n ts b strict name l y e k = part_by a_label AfterDot name_row strict l h xs n ts b e k
seated h xs n ts b strict private_name l y e k = part_by a_private_name AfterDot private_name_row strict l h xs n ts b e k
seated h xs n ts b strict label l y e k = part_of LabelName (seen h xs n (all_shown ts)) (label_stands strict h xs n ts e (subst (λ d. is_clean d (node h xs n ts) ≡ true) y k))
seated h xs n ts b strict super_here l y e k = super_shown strict (node h xs n ts) e
seated h xs n ts b strict (word s) l y e k = word_shown strict s (node h xs n ts) e
seated h xs n ts b strict property l y e k = part_by an_object_property Property property_row strict l h xs n ts b e k
seated h xs n ts b strict class_body l y e k = part_by a_class_body ClassBraces class_body_row strict l h xs n ts b e k
seated h xs n ts b strict binding l y e k = part_by a_binding Binding binding_row strict l h xs n ts b e k
seated h xs n ts b strict pattern l y e k = part_by a_pattern Bound pattern_row strict l h xs n ts b e k
seated h xs n ts b strict bound_element l y e k = bound_element_at strict l h xs n ts b e k
seated h xs n ts b strict element l y e k = element_at strict l h xs n ts b e k
seated h xs n ts b strict parameter l y e k = parameter_at strict l h xs n ts b e k
seated h xs n ts b strict pattern_rest l y e k = part_by a_pattern_rest Parameter rest_row strict l h xs n ts b e k
seated h xs n ts b strict property_rest l y e k = part_by a_pattern_rest BoundProperty property_rest_row strict l h xs n ts b e k
seated h xs n ts b strict bound_property l y e k = part_by a_pattern_property BoundProperty bound_property_row strict l h xs n ts b e k
seated h xs n ts b strict statement l y e k = part_by (a_statement nested) Statement nested_row strict l h xs n ts b e k
seated h xs n ts b strict top_statement l y e k = part_by (a_statement in_body) Statement body_row strict l h xs n ts b e k
seated h xs n ts b strict module_statement l y e k = part_by (a_statement in_module) ModuleItem module_row strict l h xs n ts b e k
seated h xs n ts b strict block_only l y e k = part_by a_block BlockOnly block_row strict l h xs n ts b e k
seated h xs n ts b strict simple_target l y e k = part_by a_simple_target Anything simple_target_row strict l h xs n ts b e k
seated h xs n ts b strict target_element l y e k = target_element_at strict l h xs n ts b e k
seated h xs n ts b strict target_property l y e k = part_by a_target_property TargetProperty target_property_row strict l h xs n ts b e k
seated h xs n ts b strict target_rest l y e k = part_by a_target_rest TargetElement target_rest_row strict l h xs n ts b e k
seated h xs n ts b strict declarator l y e k = part_by a_declarator Declared declarator_row strict l h xs n ts b e k
seated h xs n ts b strict head_declarator l y e k = part_by a_declarator HeadDeclared head_declarator_row strict l h xs n ts b e k
seated h xs n ts b strict case l y e k = part_by a_case CaseItem case_row strict l h xs n ts b e k
seated h xs n ts b strict member l y e k = part_by a_class_member ClassElement member_row strict l h xs n ts b e k
seated h xs n ts b strict text l y e k = part_by a_string SourceText text_row strict l h xs n ts b e k
seated h xs n ts b strict module_name l y e k = part_by a_module_name ModuleName module_name_row strict l h xs n ts b e k
seated h xs n ts b strict tag_template l y e k = part_by a_tagged_template TagTemplate tag_template_row strict l h xs n ts b e k
seated h xs n ts b strict value_or_none l y e k = perhaps_by an_expression Anything value_row strict l h xs n ts b e k
seated h xs n ts b strict inner_or_none l y e k = perhaps_by (an_inner an_expression) Anything inner_row strict l h xs n ts b e k
seated h xs n ts b strict label_or_none l y e k = either (present strict a_label (node h xs n ts) e) (λ a. nothing_of LabelName (seen h xs n (all_shown ts)) a.0) (λ a. perhaps_of LabelName (seen h xs n (all_shown ts)) (label_stands strict h xs n ts a (subst (λ d. is_clean d (node h xs n ts) ≡ true) y k)))
seated h xs n ts b strict binding_or_none l y e k = perhaps_by a_binding Binding binding_row strict l h xs n ts b e k
seated h xs n ts b strict pattern_or_none l y e k = perhaps_by a_pattern Bound pattern_row strict l h xs n ts b e k
seated h xs n ts b strict statement_or_none l y e k = perhaps_by (a_statement nested) Statement nested_row strict l h xs n ts b e k
seated h xs n ts b strict block_or_none l y e k = perhaps_by a_block BlockOnly block_row strict l h xs n ts b e k
seated h xs n ts b strict catch_or_none l y e k = perhaps_by a_catch Catching catch_row strict l h xs n ts b e k
seated h xs n ts b strict text_or_none l y e k = perhaps_by a_string SourceText text_row strict l h xs n ts b e k
seated h xs n ts b strict module_name_or_none l y e k = perhaps_by a_module_name ModuleName module_name_row strict l h xs n ts b e k
seated h xs n ts b strict arguments l y e k = many_case strict l an_argument (λ u. is_printable (a_list Element Zero) u ≡ true) h xs n ts e k (λ d f. items strict (one an_argument) Element false (λ t bt et kt. bt.seat strict argument false refl et kt) ts b d f)
seated h xs n ts b strict elements l y e k = holes_case strict l an_argument (λ u. is_printable (a_list Element Gaps) u ≡ true) h xs n ts e k (λ d f. items strict (one_or_absent an_argument) Element true (λ t bt et kt. hole_item strict an_argument Element t (λ a. bt.seat strict argument false refl a kt) et) ts b d f)
seated h xs n ts b strict properties l y e k = many_case strict l an_object_property (λ u. is_printable (a_list Property Zero) u ≡ true) h xs n ts e k (λ d f. items strict (one an_object_property) Property false (λ t bt et kt. bt.seat strict property false refl et kt) ts b d f)
seated h xs n ts b strict values l y e k = many_case strict l an_expression (λ u. is_printable (a_list Anything Zero) u ≡ true) h xs n ts e k (λ d f. items strict (one an_expression) Anything false (λ t bt et kt. bt.seat strict value false refl et kt) ts b d f)
seated h xs n ts b strict inner_arguments l y e k = many_case strict l an_inner_argument (λ u. is_printable (a_list Element Zero) u ≡ true) h xs n ts e k (λ d f. items strict (one an_inner_argument) Element false (λ t bt et kt. bt.seat strict inner_argument false refl et kt) ts b d f)
seated h xs n ts b strict inner_values l y e k = many_case strict l (an_inner an_expression) (λ u. is_printable (a_list Anything Zero) u ≡ true) h xs n ts e k (λ d f. items strict (one (an_inner an_expression)) Anything false (λ t bt et kt. bt.seat strict inner false refl et kt) ts b d f)
seated h xs n ts b strict declarators l y e k = many_case strict l a_declarator (λ u. is_printable (a_list Declared Zero) u ≡ true) h xs n ts e k (λ d f. items strict (one a_declarator) Declared false (λ t bt et kt. bt.seat strict declarator false refl et kt) ts b d f)
seated h xs n ts b strict head_declarators l y e k = many_case strict l a_declarator (λ u. is_printable (a_list HeadDeclared Zero) u ≡ true) h xs n ts e k (λ d f. items strict (one a_declarator) HeadDeclared false (λ t bt et kt. bt.seat strict head_declarator false refl et kt) ts b d f)
seated h xs n ts b strict parameters l y e k = rest_case strict l a_parameter a_pattern_rest (λ u. is_printable (a_list Parameter Zero) u ≡ true) h xs n ts e k (λ d f. items_or_last strict (one a_parameter) (one a_pattern_rest) Parameter false (λ t bt et kt. bt.seat strict parameter false refl et kt) (λ t bt et kt. bt.seat strict pattern_rest false refl et kt) ts b d f)
seated h xs n ts b strict bound_properties l y e k = rest_case strict l a_pattern_property a_pattern_rest (λ u. is_printable (a_list BoundProperty Zero) u ≡ true) h xs n ts e k (λ d f. items_or_last strict (one a_pattern_property) (one a_pattern_rest) BoundProperty false (λ t bt et kt. bt.seat strict bound_property false refl et kt) (λ t bt et kt. bt.seat strict property_rest false refl et kt) ts b d f)
seated h xs n ts b strict bound_elements l y e k = holes_rest_case strict l a_pattern_element a_pattern_rest (λ u. is_printable (a_list Parameter Gaps) u ≡ true) h xs n ts e k (λ d f. items_or_last strict (one_or_absent a_pattern_element) (one a_pattern_rest) Parameter true (λ t bt et kt. hole_item strict a_pattern_element Parameter t (λ a. bt.seat strict element false refl a kt) et) (λ t bt et kt. bt.seat strict pattern_rest false refl et kt) ts b d f)
seated h xs n ts b strict target_elements l y e k = holes_rest_case strict l a_target_element a_target_rest (λ u. is_printable (a_list TargetElement Gaps) u ≡ true) h xs n ts e k (λ d f. items_or_last strict (one_or_absent a_target_element) (one a_target_rest) TargetElement true (λ t bt et kt. hole_item strict a_target_element TargetElement t (λ a. bt.seat strict target_element false refl a kt) et) (λ t bt et kt. bt.seat strict target_rest false refl et kt) ts b d f)
seated h xs n ts b strict block l y e k = many_case strict l (a_statement nested) (λ u. is_printable (a_run Statement) u ≡ true) h xs n ts e k (λ d f. items strict (one (a_statement nested)) Statement false (λ t bt et kt. bt.seat strict statement false refl et kt) ts b d f)
seated h xs n ts b strict top_block l y e k = many_case strict l (a_statement in_body) (λ u. is_printable (a_run Statement) u ≡ true) h xs n ts e k (λ d f. items strict (one (a_statement in_body)) Statement false (λ t bt et kt. bt.seat strict top_statement false refl et kt) ts b d f)
seated h xs n ts b strict module_block l y e k = many_case strict l (a_statement in_module) (λ u. is_printable (a_run ModuleItem) u ≡ true) h xs n ts e k (λ d f. items strict (one (a_statement in_module)) ModuleItem false (λ t bt et kt. bt.seat strict module_statement false refl et kt) ts b d f)
seated h xs n ts b strict cases l y e k = many_case strict l a_case (λ u. is_printable (a_run CaseItem) u ≡ true) h xs n ts e k (λ d f. items strict (one a_case) CaseItem false (λ t bt et kt. bt.seat strict case false refl et kt) ts b d f)
seated h xs n ts b strict members l y e k = many_case strict l a_class_member (λ u. is_printable (a_run ClassElement) u ≡ true) h xs n ts e k (λ d f. items strict (one a_class_member) ClassElement false (λ t bt et kt. bt.seat strict member false refl et kt) ts b d f)

-- ---- the body of a function, with its directives

directives_print : (ds : List (List ℕ)) → are_directives ds ≡ true → are_printable Leading false (directives ds) ≡ true
directives_print [] e = refl
directives_print (s ∷ ss) e =
    both (is_printable (a_part Leading) (leaf' (shape.StringLiteral s))) (are_printable Leading false (directives ss))
    (part_of Leading (leaf' (shape.StringLiteral s)) (ap (λ q. (q && (false || (q && true))) && true) (and_l (is_directive s) (are_directives ss) e)))
    (directives_print ss (and_r (is_directive s) (are_directives ss) e))

bodied : (h : Shape) (xs : List Name) (n : ℕ) (ts : Trees) → Below ts → (strict : Bool) (ds : List (List ℕ)) → are_directives ds ≡ true → fits strict (one a_function_body) (node h xs n ts) ≡ true → is_clean false (node h xs n ts) ≡ true → is_printable (a_part Body) (with_directives ds (shown (node h xs n ts))) ≡ true
bodied shape.FunctionBody [] n ts b strict ds d e k =
    over_one strict false (many (a_statement in_body)) (λ us. is_printable (a_part Body) (with_directives ds (node shape.FunctionBody [] n (all_shown us))) ≡ true)
    (λ t bt et kt. part_of Body (node shape.FunctionBody [] n (listed (directives ds) ▸ (shown t ▸ none))) (and_two (is_printable (a_run Leading) (listed (directives ds))) (is_printable (a_run Statement) (shown t)) (directives_print ds d) (bt.seat strict top_block false refl et kt)))
    ts b (and_r (is_whole a_function_body shape.FunctionBody [] n ts) (accept.fill strict (these (many (a_statement in_body) ∷ [])) ts) e) k
bodied shape.FunctionBody (x ∷ xs) n ts b strict ds d e k = absurd (false≢true e)
bodied h xs n ts b strict ds d e k = absurd (never (is_whole a_function_body h xs n ts) e)

named_at : (h : Shape) (xs : List Name) (n : ℕ) (ts : Trees) → Below ts → (strict d : Bool) → fits strict (one (named_class d)) (node h xs n ts) ≡ true → is_clean false (node h xs n ts) ≡ true → Named d (node h xs n ts) (shown (node h xs n ts))
named_at h xs n ts b strict true e k = bound_named strict (accept.is_strict_in strict h) false h xs n ts b (filled strict a_pattern_element h xs n ts e) k
named_at h xs n ts b strict false e k = target_named strict (accept.is_strict_in strict h) false h xs n ts b (filled strict a_named_target h xs n ts e) k

object_items_at : (h : Shape) (xs : List Name) (n : ℕ) (ts : Trees) → Below ts → (strict : Bool) → fits strict (many_and_rest a_target_property a_target_rest) (node h xs n ts) ≡ true → is_clean false (node h xs n ts) ≡ true → are_plain_rests (items_of (node h xs n ts)) ≡ true → is_printable (a_list TargetProperty Zero) (shown (node h xs n ts)) ≡ true
object_items_at shape.Listed [] n ts b strict e k w = object_list strict ts b (and_r (is_whole a_target_property shape.Listed [] n ts) (accept.fill strict (each_or_last (one a_target_property) (one a_target_rest)) ts) e) k w
object_items_at shape.Listed (x ∷ xs) n ts b strict e k w = absurd (false≢true e)
object_items_at h xs n ts b strict e k w = absurd (never (is_whole a_target_property h xs n ts) e)

-- ---- all trees

served_node : (h : Shape) (xs : List Name) (n : ℕ) (ts : Trees) → Below ts → Served (node h xs n ts)
served_node h xs n ts b =
    record {
      seat = seated h xs n ts b;
      body = bodied h xs n ts b;
      method = λ strict e k. method_at strict false h xs n ts b e k;
      target = λ strict r e k. assigned strict r false h xs n ts b e k;
      init = λ strict e k. init_at strict h xs n ts b e k;
      left = λ strict d e k. left_at strict d h xs n ts b e k;
      named_by = named_at h xs n ts b;
      object_items = object_items_at h xs n ts b;
      plain_rest = λ strict e k p. plain_rest_row strict (accept.is_strict_in strict h) false h xs n ts b (filled strict a_target_rest h xs n ts e) k p;
      exported = λ strict e k. exported_at strict h xs n ts b e k;
      default_out = λ strict e k. default_at strict h xs n ts b e k;
      link = λ strict r e k. linked_at strict r h xs n ts b e k;
    }

mutual
  pub served : (t : Tree) → Served t
  served (node h xs n ts) = served_node h xs n ts (below ts)

  pub below : (ts : Trees) → Below ts
  below none = tt
  below (t ▸ ts) = (served t, below ts)

-- ---- programs

statements_print : (strict : Bool) (ts : Trees) → accept.fill strict (each (one (a_statement in_body))) ts ≡ true → are_clean false ts ≡ true → are_printable Statement false (all_shown ts) ≡ true
statements_print strict ts e k = items strict (one (a_statement in_body)) Statement false (λ t bt et kt. bt.seat strict top_statement false refl et kt) ts (below ts) e k

items_print : (strict : Bool) (ts : Trees) → accept.fill strict (each (one (a_statement in_module))) ts ≡ true → are_clean false ts ≡ true → are_printable ModuleItem false (all_shown ts) ≡ true
items_print strict ts e k = items strict (one (a_statement in_module)) ModuleItem false (λ t bt et kt. bt.seat strict module_statement false refl et kt) ts (below ts) e k

script_prints : (inside : Bool) (ds : List (List ℕ)) (n : ℕ) (ts : Trees) → are_directives ds ≡ true → accept.fill inside (these (many (a_statement in_body) ∷ [])) ts ≡ true → are_clean false ts ≡ true → printed.program_is_printable (node (shape.Program false ds) [] n ts) ≡ true
script_prints inside ds n none d e k = absurd (false≢true e)
script_prints inside ds n (t ▸ (u ▸ ts)) d e k = absurd (never (fits inside (many (a_statement in_body)) t) e)
script_prints inside ds n (node shape.Listed [] m ts ▸ none) d e k =
    both (are_printable Leading false (directives ds)) (are_printable Statement false (all_shown ts)) (directives_print ds d)
    (statements_print inside ts (and_r (is_whole (a_statement in_body) shape.Listed [] m ts) (accept.fill inside (each (one (a_statement in_body))) ts) (and_l (fits inside (many (a_statement in_body)) (node shape.Listed [] m ts)) true e)) (and_l (are_clean false ts) true k))
script_prints inside ds n (node shape.Listed (x ∷ xs) m ts ▸ none) d e k = absurd (false≢true e)
script_prints inside ds n (node h xs m ts ▸ none) d e k = absurd (never (is_whole (a_statement in_body) h xs m ts) (and_l (is_whole (a_statement in_body) h xs m ts && false) true e))

module_prints : (inside : Bool) (ds : List (List ℕ)) (n : ℕ) (ts : Trees) → are_directives ds ≡ true → accept.fill inside (these (many (a_statement in_module) ∷ [])) ts ≡ true → are_clean false ts ≡ true → printed.program_is_printable (node (shape.Program true ds) [] n ts) ≡ true
module_prints inside ds n none d e k = absurd (false≢true e)
module_prints inside ds n (t ▸ (u ▸ ts)) d e k = absurd (never (fits inside (many (a_statement in_module)) t) e)
module_prints inside ds n (node shape.Listed [] m ts ▸ none) d e k =
    both (are_printable Leading false (directives ds)) (are_printable ModuleItem false (all_shown ts)) (directives_print ds d)
    (items_print inside ts (and_r (is_whole (a_statement in_module) shape.Listed [] m ts) (accept.fill inside (each (one (a_statement in_module))) ts) (and_l (fits inside (many (a_statement in_module)) (node shape.Listed [] m ts)) true e)) (and_l (are_clean false ts) true k))
module_prints inside ds n (node shape.Listed (x ∷ xs) m ts ▸ none) d e k = absurd (false≢true e)
module_prints inside ds n (node h xs m ts ▸ none) d e k = absurd (never (is_whole (a_statement in_module) h xs m ts) (and_l (is_whole (a_statement in_module) h xs m ts && false) true e))

pub faultless_prints : (t : Tree) → fits false (one a_program) t ≡ true → first_fault t ≡ None → printed.program_is_printable t ≡ true
faultless_prints (node (shape.Program false ds) [] n ts) e f =
    let inside = accept.is_strict_in false (shape.Program false ds) in
    let c = clean_node false (shape.Program false ds) [] n ts refl (program_clean (shape.Program false ds) [] n ts refl f) in
    script_prints inside ds n ts c.1 (and_r (is_whole a_program (shape.Program false ds) [] n ts) (accept.fill inside (these (many (a_statement in_body) ∷ [])) ts) e) c.2
faultless_prints (node (shape.Program true ds) [] n ts) e f =
    let inside = accept.is_strict_in false (shape.Program true ds) in
    let c = clean_node false (shape.Program true ds) [] n ts refl (program_clean (shape.Program true ds) [] n ts refl f) in
    module_prints inside ds n ts c.1 (and_r (is_whole a_program (shape.Program true ds) [] n ts) (accept.fill inside (these (many (a_statement in_module) ∷ [])) ts) e) c.2
faultless_prints (node (shape.Program b ds) (x ∷ xs) n ts) e f = absurd (false≢true e)
faultless_prints (node h xs n ts) e f = absurd (never (is_whole a_program h xs n ts) e)
