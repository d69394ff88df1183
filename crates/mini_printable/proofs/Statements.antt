-- The tables of statements.
use Rattle.std.proofs.Common.{◌≡◌, ℕ, Bool, true, false, ◌&&◌, ◌||◌, not, List, [], ◌∷◌, refl, sym, ap, subst, ◌∙◌, inl, inr}
use Rattle.std.specs.Prelude.{Option, Some, None, nat_le}
use Rattle.std.proofs.lemmas.Bool.{false≢true}
use Rattle.mini_model.specs.declared.name.Name.{Name}
use Rattle.mini_model.specs.declared.kind.VariableDeclarationKind.{VariableDeclarationKind}
use Rattle.mini_model.specs.declared.shape.Shape.{Shape}
use Rattle.mini_model.specs.declared.shape.Shape.TheVariants as shape
use Rattle.mini_model.specs.Tree.{Tree, Trees, node, none, ◌▸◌, count, children, shape_of}
use Rattle.mini_model.specs.Weight.{same_text}
use Rattle.mini_accept.specs.WellShaped as accept
use Rattle.mini_accept.specs.WellShaped.{Class, Slot, Depth, in_module, in_body, nested, one, one_or_absent, many, many_and_rest, an_expression, an_inner, an_init, a_loop_left, a_statement, a_block, a_case, a_catch, a_pattern, a_label, a_binding, a_parameter, a_pattern_rest, a_function_body, a_class_body, a_declarator, these, slots_of, statement_slots, filling_by, none_if, in_depth, is_sloppy_function, is_whole, has_names, fits}
use Rattle.mini_print.specs.Grammar.{Goal, Anything, Statement, ModuleItem, CaseItem, Catching, BlockOnly, HeadDeclaration, HeadDeclared, Declared, TargetPattern, Bound, Binding, Parameter, Body, ClassBraces, Rule, ClassDeclared, Nothing, BindingOf, Zero, One, has, is_of, sort, is_reserved, form}
use Rattle.mini_print.specs.Printed as printed
use Rattle.mini_print.specs.Printed.{Want, a_part, a_list, a_perhaps, a_block as a_run, a_silent, turned, turned_of, rule_at, wants, wants_of, is_wanted, is_sound, is_printable, shown, all_shown, seen, with_directives, is_declaration, is_target_shape, for_of, for_in_of, for_of_of, case_of, catch_of}
use Rattle.mini_printable.proofs.Clean.{and_r, both, is_clean, are_clean, clean_node}
use Rattle.mini_printable.proofs.Seats.{value, value_or_none, statement, statement_or_none, block, cases, block_only, block_or_none, catch_or_none, pattern_or_none, label_or_none, binding, parameters, class_body, inner_or_none, declarators, head_declarators, Assigned, Headed, Below, parts, over_two, over_three, over_four}
use Rattle.mini_printable.proofs.Rows.{never, and_two, and_three, and_four, either, same_self, stands_at, part_of, perhaps_of, nothing_of, perhaps_cases, present, Row, filled, whole_parts, leaf, bound_name, maybe_bound, longer, one_shown}
use Rattle.mini_printable.proofs.Values.{value_row}
use Rattle.mini_printable.proofs.Targets.{target_row, same_is}

-- ---- the heads of loops

head_stands : (inside : Bool) (k : VariableDeclarationKind) (n : ℕ) (ts : Trees) → Below ts → accept.fill inside (these (many a_declarator ∷ [])) ts ≡ true → are_clean false ts ≡ true → nat_le 1 (count (children (accept.first_item ts))) ≡ true → stands_at HeadDeclaration (node (shape.VariableDeclaration k) [] n (all_shown ts)) ≡ true
head_stands inside k n ts b e c v = longer One HeadDeclared (all_shown ts) refl (parts ts b inside (head_declarators ∷ []) false refl e c) (one_shown inside a_declarator ts e v)

init_row : (strict inside l : Bool) (h : Shape) (xs : List Name) (n : ℕ) (ts : Trees) → Below ts → (has_names h xs && accept.fill inside (filling_by (slots_of strict an_init h)) ts) ≡ true → is_clean l (node h xs n ts) ≡ true → accept.has_its_parts an_init h ts ≡ true → Headed (λ u. is_printable (a_perhaps Anything) u ≡ true) (seen h xs n (all_shown ts))
init_row strict inside l (shape.VariableDeclaration w) [] n ts b e k v = inl (refl, part_of HeadDeclaration (node (shape.VariableDeclaration w) [] n (all_shown ts)) (head_stands inside w n ts b e k v))
init_row strict inside l (shape.VariableDeclaration w) (x ∷ xs) n ts b e k v = absurd (false≢true e)
init_row strict inside l h xs n ts b e k v = inr (perhaps_of Anything (seen h xs n (all_shown ts)) (value_row strict inside l h xs n ts b e k v))

pub init_at : (strict : Bool) (h : Shape) (xs : List Name) (n : ℕ) (ts : Trees) → Below ts → fits strict (one_or_absent an_init) (node h xs n ts) ≡ true → is_clean false (node h xs n ts) ≡ true → Headed (λ u. is_printable (a_perhaps Anything) u ≡ true) (seen h xs n (all_shown ts))
init_at strict h xs n ts b e k = either (present strict an_init (node h xs n ts) e) (λ a. inr (nothing_of Anything (seen h xs n (all_shown ts)) a.0)) (λ a. init_row strict (accept.is_strict_in strict h) false h xs n ts b (filled strict an_init h xs n ts a) k (whole_parts strict an_init h xs n ts a))

one_head : (b : Bool) (k : VariableDeclarationKind) (us : Trees) → accept.is_head_by b k us ≡ true → nat_le 1 (count us) ≡ true
one_head b k none e = absurd (false≢true e)
one_head b k (d ▸ none) e = refl
one_head b k (d ▸ (c ▸ us)) e = absurd (false≢true e)

left_row : (b' : Bool) (strict inside l : Bool) (h : Shape) (xs : List Name) (n : ℕ) (ts : Trees) → Below ts → (has_names h xs && accept.fill inside (filling_by (slots_of strict (a_loop_left b') h)) ts) ≡ true → is_clean l (node h xs n ts) ≡ true → accept.has_its_parts (a_loop_left b') h ts ≡ true → Headed Assigned (seen h xs n (all_shown ts))
left_row b' strict inside l (shape.VariableDeclaration w) [] n ts b e k v = inl (refl, part_of HeadDeclaration (node (shape.VariableDeclaration w) [] n (all_shown ts)) (head_stands inside w n ts b e k (one_head b' w (children (accept.first_item ts)) v)))
left_row b' strict inside l (shape.VariableDeclaration w) (x ∷ xs) n ts b e k v = absurd (false≢true e)
left_row b' strict inside l h xs n ts b e k v = inr (target_row strict inside l h xs n ts b e k v)

pub left_at : (strict b' : Bool) (h : Shape) (xs : List Name) (n : ℕ) (ts : Trees) → Below ts → fits strict (one (a_loop_left b')) (node h xs n ts) ≡ true → is_clean false (node h xs n ts) ≡ true → Headed Assigned (seen h xs n (all_shown ts))
left_at strict b' h xs n ts b e k = left_row b' strict (accept.is_strict_in strict h) false h xs n ts b (filled strict (a_loop_left b') h xs n ts e) k (whole_parts strict (a_loop_left b') h xs n ts e)

no_declaration : (h : Shape) (xs : List Name) (n : ℕ) (us : Trees) → is_printable (a_perhaps Anything) (node h xs n us) ≡ true → is_declaration h ≡ false
no_declaration (shape.VariableDeclaration k) [] n us e = absurd (false≢true e)
no_declaration (shape.VariableDeclaration k) (x ∷ xs) n us e = absurd (false≢true e)
no_declaration h xs n us e = refl

for_stands : (n : ℕ) (u a c s : Tree) → Headed (λ z. is_printable (a_perhaps Anything) z ≡ true) u → is_printable (a_perhaps Anything) a ≡ true → is_printable (a_perhaps Anything) c ≡ true → is_printable (a_part Statement) s ≡ true → stands_at Statement (node shape.ForStatement [] n (u ▸ (a ▸ (c ▸ (s ▸ none))))) ≡ true
for_stands n (node h xs m us) a c s (inl p) ea ec es =
    subst (λ d. (is_wanted Statement (Some (for_of d)) && printed.fill (Some (wants (form (for_of d)))) (node h xs m us ▸ (a ▸ (c ▸ (s ▸ none))))) ≡ true) (sym p.0) (and_four (is_printable (a_part HeadDeclaration) (node h xs m us)) (is_printable (a_perhaps Anything) a) (is_printable (a_perhaps Anything) c) (is_printable (a_part Statement) s) p.1 ea ec es)
for_stands n (node h xs m us) a c s (inr p) ea ec es =
    subst (λ d. (is_wanted Statement (Some (for_of d)) && printed.fill (Some (wants (form (for_of d)))) (node h xs m us ▸ (a ▸ (c ▸ (s ▸ none))))) ≡ true) (sym (no_declaration h xs m us p)) (and_four (is_printable (a_perhaps Anything) (node h xs m us)) (is_printable (a_perhaps Anything) a) (is_printable (a_perhaps Anything) c) (is_printable (a_part Statement) s) p ea ec es)

-- the production of a loop over what is in its head
loop_stands : (rule : Bool → Bool → Rule) (u c s : Tree) →
    ((p : Bool) → (is_wanted Statement (Some (rule true p)) ≡ true) × (wants (form (rule true p)) ≡ a_part HeadDeclaration ∷ a_part Anything ∷ a_part Statement ∷ [])) →
    (is_wanted Statement (Some (rule false true)) ≡ true) × (wants (form (rule false true)) ≡ a_part TargetPattern ∷ a_part Anything ∷ a_part Statement ∷ []) →
    (is_wanted Statement (Some (rule false false)) ≡ true) × (wants (form (rule false false)) ≡ a_part Anything ∷ a_part Anything ∷ a_part Statement ∷ []) →
    Headed Assigned u → is_printable (a_part Anything) c ≡ true → is_printable (a_part Statement) s ≡ true →
    (is_wanted Statement (Some (rule (is_declaration (shape_of u)) (is_target_shape (shape_of u)))) && printed.fill (Some (wants (form (rule (is_declaration (shape_of u)) (is_target_shape (shape_of u)))))) (u ▸ (c ▸ (s ▸ none)))) ≡ true
loop_stands rule u c s x y z (inl a) ec es =
    let p = is_target_shape (shape_of u) in
    let w = x p in
    subst (λ d. (is_wanted Statement (Some (rule d p)) && printed.fill (Some (wants (form (rule d p)))) (u ▸ (c ▸ (s ▸ none)))) ≡ true) (sym a.0)
    (both (is_wanted Statement (Some (rule true p))) (printed.fill (Some (wants (form (rule true p)))) (u ▸ (c ▸ (s ▸ none)))) w.0
    (subst (λ ws. printed.fill (Some ws) (u ▸ (c ▸ (s ▸ none))) ≡ true) (sym w.1) (and_three (is_printable (a_part HeadDeclaration) u) (is_printable (a_part Anything) c) (is_printable (a_part Statement) s) a.1 ec es)))
loop_stands rule u c s x y z (inr (inl a)) ec es =
    subst (λ d. (is_wanted Statement (Some (rule d (is_target_shape (shape_of u)))) && printed.fill (Some (wants (form (rule d (is_target_shape (shape_of u)))))) (u ▸ (c ▸ (s ▸ none)))) ≡ true) (sym a.2)
    (subst (λ p. (is_wanted Statement (Some (rule false p)) && printed.fill (Some (wants (form (rule false p)))) (u ▸ (c ▸ (s ▸ none)))) ≡ true) (sym a.1)
    (both (is_wanted Statement (Some (rule false true))) (printed.fill (Some (wants (form (rule false true)))) (u ▸ (c ▸ (s ▸ none)))) y.0
    (subst (λ ws. printed.fill (Some ws) (u ▸ (c ▸ (s ▸ none))) ≡ true) (sym y.1) (and_three (is_printable (a_part TargetPattern) u) (is_printable (a_part Anything) c) (is_printable (a_part Statement) s) a.3 ec es))))
loop_stands rule u c s x y z (inr (inr a)) ec es =
    subst (λ d. (is_wanted Statement (Some (rule d (is_target_shape (shape_of u)))) && printed.fill (Some (wants (form (rule d (is_target_shape (shape_of u)))))) (u ▸ (c ▸ (s ▸ none)))) ≡ true) (sym a.2)
    (subst (λ p. (is_wanted Statement (Some (rule false p)) && printed.fill (Some (wants (form (rule false p)))) (u ▸ (c ▸ (s ▸ none)))) ≡ true) (sym a.1)
    (both (is_wanted Statement (Some (rule false false))) (printed.fill (Some (wants (form (rule false false)))) (u ▸ (c ▸ (s ▸ none)))) z.0
    (subst (λ ws. printed.fill (Some ws) (u ▸ (c ▸ (s ▸ none))) ≡ true) (sym z.1) (and_three (is_printable (a_part Anything) u) (is_printable (a_part Anything) c) (is_printable (a_part Statement) s) a.3 ec es))))

for_in_stands : (n : ℕ) (u c s : Tree) → Headed Assigned u → is_printable (a_part Anything) c ≡ true → is_printable (a_part Statement) s ≡ true → stands_at Statement (node shape.ForInStatement [] n (u ▸ (c ▸ (s ▸ none)))) ≡ true
for_in_stands n (node h xs m us) c s p ec es = loop_stands for_in_of (node h xs m us) c s (λ q. (refl, refl)) (refl, refl) (refl, refl) p ec es

for_of_stands : (n : ℕ) (u c s : Tree) → Headed Assigned u → is_printable (a_part Anything) c ≡ true → is_printable (a_part Statement) s ≡ true → stands_at Statement (node shape.ForOfStatement [] n (u ▸ (c ▸ (s ▸ none)))) ≡ true
for_of_stands n (node h xs m us) c s p ec es = loop_stands for_of_of (node h xs m us) c s (λ q. (refl, refl)) (refl, refl) (refl, refl) p ec es

-- ---- labels, functions and classes

labels : (inside : Bool) (n : ℕ) (t u : Tree) → fits inside (one a_label) t ≡ true → is_clean true t ≡ true → is_printable (a_part Statement) (shown u) ≡ true → stands_at Statement (node shape.LabeledStatement [] n (shown t ▸ (shown u ▸ none))) ≡ true
labels inside n (node (shape.IdentifierName s) [] m none) u e k f =
    let c = clean_node true (shape.IdentifierName s) [] m none refl k in
    both (not (is_reserved s) && (false || (not (is_reserved s) && true))) (same_text s s && (is_printable (a_part Statement) (shown u) && true)) (ap (λ r. not r && (false || (not r && true))) c.0) (and_two (same_text s s) (is_printable (a_part Statement) (shown u)) (same_self s) f)
labels inside n (node (shape.IdentifierName s) [] m (t ▸ ts)) u e k f = absurd (never (is_whole a_label (shape.IdentifierName s) [] m (t ▸ ts)) e)
labels inside n (node (shape.IdentifierName s) (x ∷ xs) m ts) u e k f = absurd (false≢true e)
labels inside n (node h xs m ts) u e k f = absurd (never (is_whole a_label h xs m ts) e)

-- in whichever goal a declaration stands
pub function_declared : (goal : Goal) (inside l g : Bool) (ds : List (List ℕ)) (n : ℕ) (ts : Trees) → ((d : Bool) → (is_wanted goal (turned_of goal (rule_at (shape.Function true d []) [] none)) ≡ true) × (wants_of (shape.Function true d []) (turned_of goal (rule_at (shape.Function true d []) [] none)) ≡ Some (a_part Binding ∷ a_list Parameter Zero ∷ a_part Body ∷ []))) → Below ts → accept.fill inside (these (one a_binding ∷ many_and_rest a_parameter a_pattern_rest ∷ one a_function_body ∷ [])) ts ≡ true → is_clean l (node (shape.Function true g ds) [] n ts) ≡ true → stands_at goal (seen (shape.Function true g ds) [] n (all_shown ts)) ≡ true
function_declared goal inside l true ds n ts w b e k =
    let c = clean_node l (shape.Function true true ds) [] n ts refl k in
    let p = w true in
    over_three inside false (one a_binding) (many_and_rest a_parameter a_pattern_rest) (one a_function_body) (λ us. stands_at goal (seen (shape.Function true true ds) [] n (all_shown us)) ≡ true)
    (λ t u v bt bu bv et eu ev kt ku kv. both (is_wanted goal (turned_of goal (rule_at (shape.Function true true []) [] none))) (printed.fill (wants_of (shape.Function true true []) (turned_of goal (rule_at (shape.Function true true []) [] none))) (shown t ▸ (shown u ▸ (with_directives ds (shown v) ▸ none)))) p.0
    (subst (λ ws. printed.fill ws (shown t ▸ (shown u ▸ (with_directives ds (shown v) ▸ none))) ≡ true) (sym p.1) (and_three (is_printable (a_part Binding) (shown t)) (is_printable (a_list Parameter Zero) (shown u)) (is_printable (a_part Body) (with_directives ds (shown v)))
    (bt.seat inside binding false refl et kt) (bu.seat inside parameters false refl eu ku) (bv.body inside ds c.1 ev kv))))
    ts b e c.2
function_declared goal inside l false ds n ts w b e k =
    let c = clean_node l (shape.Function true false ds) [] n ts refl k in
    let p = w false in
    over_three inside false (one a_binding) (many_and_rest a_parameter a_pattern_rest) (one a_function_body) (λ us. stands_at goal (seen (shape.Function true false ds) [] n (all_shown us)) ≡ true)
    (λ t u v bt bu bv et eu ev kt ku kv. both (is_wanted goal (turned_of goal (rule_at (shape.Function true false []) [] none))) (printed.fill (wants_of (shape.Function true false []) (turned_of goal (rule_at (shape.Function true false []) [] none))) (shown t ▸ (shown u ▸ (with_directives ds (shown v) ▸ none)))) p.0
    (subst (λ ws. printed.fill ws (shown t ▸ (shown u ▸ (with_directives ds (shown v) ▸ none))) ≡ true) (sym p.1) (and_three (is_printable (a_part Binding) (shown t)) (is_printable (a_list Parameter Zero) (shown u)) (is_printable (a_part Body) (with_directives ds (shown v)))
    (bt.seat inside binding false refl et kt) (bu.seat inside parameters false refl eu ku) (bv.body inside ds c.1 ev kv))))
    ts b e c.2

statement_function : (d : Bool) → (is_wanted Statement (turned_of Statement (rule_at (shape.Function true d []) [] none)) ≡ true) × (wants_of (shape.Function true d []) (turned_of Statement (rule_at (shape.Function true d []) [] none)) ≡ Some (a_part Binding ∷ a_list Parameter Zero ∷ a_part Body ∷ []))
statement_function true = (refl, refl)
statement_function false = (refl, refl)

abbrev ClassForm : Goal → Type 0
ClassForm goal = (s : List ℕ) → (is_wanted goal (Some (turned goal (ClassDeclared s))) ≡ (not (is_reserved s) && (false || (not (is_reserved s) && true)))) × (wants (form (turned goal (ClassDeclared s))) ≡ a_silent (BindingOf s) ∷ a_perhaps Anything ∷ a_part ClassBraces ∷ a_silent (BindingOf s) ∷ [])

pub class_named : (goal : Goal) (inside : Bool) (n : ℕ) (u v w : Tree) → ClassForm goal → is_printable (a_perhaps Anything) (shown u) ≡ true → is_printable (a_part ClassBraces) (shown v) ≡ true → (x : Name) (m : ℕ) → is_reserved x.spelling ≡ false → fits inside (one_or_absent a_binding) w ≡ true → is_clean false w ≡ true → accept.holds_its_name true (node shape.BindingIdentifier (x ∷ []) m none ▸ (u ▸ (v ▸ (w ▸ none)))) ≡ true → stands_at goal (node (shape.Class true) [] n (node shape.BindingIdentifier (x ∷ []) m none ▸ (shown u ▸ (shown v ▸ (shown w ▸ none))))) ≡ true
class_named goal inside n u v w q eu ev x m f ew kw z =
    maybe_bound (λ j. accept.is_same_spelling (Some x.spelling) (accept.spelling j) ≡ true → stands_at goal (node (shape.Class true) [] n (node shape.BindingIdentifier (x ∷ []) m none ▸ (shown u ▸ (shown v ▸ (shown j ▸ none))))) ≡ true)
    (λ i z'. absurd (false≢true z'))
    (λ y i g z'. named y i z')
    inside false w ew kw z
  where
    named : (y : Name) (i : ℕ) → same_text x.spelling y.spelling ≡ true → stands_at goal (node (shape.Class true) [] n (node shape.BindingIdentifier (x ∷ []) m none ▸ (shown u ▸ (shown v ▸ (node shape.BindingIdentifier (y ∷ []) i none ▸ none))))) ≡ true
    named y i e =
        let us = node shape.BindingIdentifier (x ∷ []) m none ▸ (shown u ▸ (shown v ▸ (node shape.BindingIdentifier (y ∷ []) i none ▸ none))) in
        let p = q x.spelling in
        both (is_wanted goal (Some (turned goal (ClassDeclared x.spelling)))) (printed.fill (Some (wants (form (turned goal (ClassDeclared x.spelling))))) us) (p.0 ∙ ap (λ r. not r && (false || (not r && true))) f)
        (subst (λ ws. printed.fill (Some ws) us ≡ true) (sym p.1)
        (and_four (same_text x.spelling x.spelling) (is_printable (a_perhaps Anything) (shown u)) (is_printable (a_part ClassBraces) (shown v)) (same_text y.spelling x.spelling) (same_self x.spelling) eu ev (subst (λ s. same_text s x.spelling ≡ true) (same_is x.spelling y.spelling e) (same_self x.spelling))))

pub class_declared : (goal : Goal) (inside : Bool) (n : ℕ) (t u v w : Tree) → ClassForm goal → fits inside (one a_binding) t ≡ true → is_clean false t ≡ true → is_printable (a_perhaps Anything) (shown u) ≡ true → is_printable (a_part ClassBraces) (shown v) ≡ true → fits inside (one_or_absent a_binding) w ≡ true → is_clean false w ≡ true → accept.holds_its_name true (t ▸ (u ▸ (v ▸ (w ▸ none)))) ≡ true → stands_at goal (node (shape.Class true) [] n (shown t ▸ (shown u ▸ (shown v ▸ (shown w ▸ none))))) ≡ true
class_declared goal inside n t u v w q et kt eu ev ew kw z =
    bound_name (λ i. accept.holds_its_name true (i ▸ (u ▸ (v ▸ (w ▸ none)))) ≡ true → stands_at goal (node (shape.Class true) [] n (shown i ▸ (shown u ▸ (shown v ▸ (shown w ▸ none))))) ≡ true)
    (λ x m f z'. class_named goal inside n u v w q eu ev x m f ew kw z')
    inside false t et kt z

-- ---- the table

-- what is left out of sloppy code
pub unless : (p b : Bool) (inside : Bool) (ss : List Slot) (ts : Trees) → (p && accept.fill inside (filling_by (none_if b (Some ss))) ts) ≡ true → accept.fill inside (these ss) ts ≡ true
unless p true inside ss ts e = absurd (never p e)
unless p false inside ss ts e = and_r p (accept.fill inside (these ss) ts) e

no_statement : (p b : Bool) (d : Depth) (inside : Bool) (ts : Trees) → (p && accept.fill inside (filling_by (none_if b (in_depth d None))) ts) ≡ true → ⊥
no_statement p true d inside ts e = never p e
no_statement p false in_module inside ts e = never p e
no_statement p false in_body inside ts e = never p e
no_statement p false nested inside ts e = never p e

abbrev pub is_module_shape : Shape → Bool
is_module_shape shape.ImportDeclaration = true
is_module_shape shape.ExportNamedDeclaration = true
is_module_shape shape.ExportDefaultDeclaration = true
is_module_shape shape.ExportAllDeclaration = true
is_module_shape _ = false

pub statement_row : (d : Depth) (strict inside l : Bool) (h : Shape) (xs : List Name) (n : ℕ) (ts : Trees) → Below ts → (has_names h xs && accept.fill inside (filling_by (statement_slots strict d h)) ts) ≡ true → is_clean l (node h xs n ts) ≡ true → accept.has_its_parts (a_statement d) h ts ≡ true → is_module_shape h ≡ false → stands_at Statement (seen h xs n (all_shown ts)) ≡ true
statement_row d strict inside l shape.EmptyStatement [] n ts b e k v z = leaf inside ts e
statement_row d strict inside l shape.DebuggerStatement [] n ts b e k v z = leaf inside ts e
statement_row d strict inside l shape.ExpressionStatement [] n ts b e k v z = parts ts b inside (value ∷ []) false refl e k
statement_row d strict inside l shape.BlockStatement [] n ts b e k v z = parts ts b inside (block ∷ []) false refl e k
statement_row d strict inside l shape.LabeledStatement [] n ts b e k v z =
    over_two inside true (one a_label) (one (a_statement nested)) (λ us. stands_at Statement (node shape.LabeledStatement [] n (all_shown us)) ≡ true) (λ t u bt bu et eu kt ku. labels inside n t u et kt (bu.seat inside statement true refl eu ku)) ts b e k
statement_row d strict inside l shape.BreakStatement [] n ts b e k v z = parts ts b inside (label_or_none ∷ []) true refl e k
statement_row d strict inside l shape.ContinueStatement [] n ts b e k v z = parts ts b inside (label_or_none ∷ []) true refl e k
statement_row d strict inside l shape.ReturnStatement [] n ts b e k v z = parts ts b inside (value_or_none ∷ []) false refl e k
statement_row d strict inside l shape.ThrowStatement [] n ts b e k v z = parts ts b inside (value ∷ []) false refl e k
statement_row d strict inside l shape.IfStatement [] n ts b e k v z = parts ts b inside (value ∷ statement ∷ statement_or_none ∷ []) false refl e k
statement_row d strict inside l shape.SwitchStatement [] n ts b e k v z = parts ts b inside (value ∷ cases ∷ []) false refl e k
statement_row d strict inside l shape.TryStatement [] n ts b e k v z = parts ts b inside (block_only ∷ catch_or_none ∷ block_or_none ∷ []) false refl e k
statement_row d strict inside l shape.WhileStatement [] n ts b e k v z = parts ts b inside (value ∷ statement ∷ []) false refl e k
statement_row d strict inside l shape.DoWhileStatement [] n ts b e k v z = parts ts b inside (statement ∷ value ∷ []) false refl e k
statement_row d strict inside l shape.ForStatement [] n ts b e k v z =
    over_four inside false (one_or_absent an_init) (one_or_absent an_expression) (one_or_absent an_expression) (one (a_statement nested)) (λ us. stands_at Statement (node shape.ForStatement [] n (all_shown us)) ≡ true)
    (λ t u c s bt bu bc bs et eu ec es kt ku kc ks. for_stands n (shown t) (shown u) (shown c) (shown s) (bt.init inside et kt) (bu.seat inside value_or_none false refl eu ku) (bc.seat inside value_or_none false refl ec kc) (bs.seat inside statement false refl es ks)) ts b e k
statement_row d strict inside l shape.ForInStatement [] n ts b e k v z =
    over_three inside false (one (a_loop_left true)) (one an_expression) (one (a_statement nested)) (λ us. stands_at Statement (node shape.ForInStatement [] n (all_shown us)) ≡ true)
    (λ t c s bt bc bs et ec es kt kc ks. for_in_stands n (shown t) (shown c) (shown s) (bt.left inside true et kt) (bc.seat inside value false refl ec kc) (bs.seat inside statement false refl es ks)) ts b e k
statement_row d strict inside l shape.ForOfStatement [] n ts b e k v z =
    over_three inside false (one (a_loop_left false)) (one an_expression) (one (a_statement nested)) (λ us. stands_at Statement (node shape.ForOfStatement [] n (all_shown us)) ≡ true)
    (λ t c s bt bc bs et ec es kt kc ks. for_of_stands n (shown t) (shown c) (shown s) (bt.left inside false et kt) (bc.seat inside value false refl ec kc) (bs.seat inside statement false refl es ks)) ts b e k
statement_row d strict inside l (shape.VariableDeclaration w) [] n ts b e k v z =
    let f = unless true (is_sloppy_function strict d (shape.VariableDeclaration w)) inside (many a_declarator ∷ []) ts e in
    longer One Declared (all_shown ts) refl (parts ts b inside (declarators ∷ []) false refl f k) (one_shown inside a_declarator ts f v)
statement_row d strict inside l (shape.Function true g ds) [] n ts b e k v z =
    function_declared Statement inside l g ds n ts statement_function b (unless true (is_sloppy_function strict d (shape.Function true g ds)) inside (one a_binding ∷ many_and_rest a_parameter a_pattern_rest ∷ one a_function_body ∷ []) ts e) k
statement_row d strict inside l (shape.Class true) [] n ts b e k v z =
    over_four inside false (one a_binding) (one_or_absent (an_inner an_expression)) (one a_class_body) (one_or_absent a_binding) (λ us. accept.holds_its_name true us ≡ true → stands_at Statement (node (shape.Class true) [] n (all_shown us)) ≡ true)
    (λ t u c w bt bu bc bw et eu ec ew kt ku kc kw y. class_declared Statement inside n t u c w (λ s. (refl, refl)) et kt (bu.seat inside inner_or_none false refl eu ku) (bc.seat inside class_body false refl ec kc) ew kw y)
    ts b (unless true (is_sloppy_function strict d (shape.Class true)) inside (one a_binding ∷ one_or_absent (an_inner an_expression) ∷ one a_class_body ∷ one_or_absent a_binding ∷ []) ts e) k v
statement_row d strict inside l shape.ImportDeclaration xs n ts b e k v z = absurd (false≢true (sym z))
statement_row d strict inside l shape.ExportNamedDeclaration xs n ts b e k v z = absurd (false≢true (sym z))
statement_row d strict inside l shape.ExportDefaultDeclaration xs n ts b e k v z = absurd (false≢true (sym z))
statement_row d strict inside l shape.ExportAllDeclaration xs n ts b e k v z = absurd (false≢true (sym z))
statement_row d strict inside l h xs n ts b e k v z = absurd (no_statement (has_names h xs) (is_sloppy_function strict d h) d inside ts e)

-- ---- in a body, and in a module

pub nested_row : Row (a_statement nested) Statement
nested_row strict inside l shape.ImportDeclaration xs n ts b e k v = absurd (no_statement (has_names shape.ImportDeclaration xs) (is_sloppy_function strict nested shape.ImportDeclaration) nested inside ts e)
nested_row strict inside l shape.ExportNamedDeclaration xs n ts b e k v = absurd (no_statement (has_names shape.ExportNamedDeclaration xs) (is_sloppy_function strict nested shape.ExportNamedDeclaration) nested inside ts e)
nested_row strict inside l shape.ExportDefaultDeclaration xs n ts b e k v = absurd (no_statement (has_names shape.ExportDefaultDeclaration xs) (is_sloppy_function strict nested shape.ExportDefaultDeclaration) nested inside ts e)
nested_row strict inside l shape.ExportAllDeclaration xs n ts b e k v = absurd (no_statement (has_names shape.ExportAllDeclaration xs) (is_sloppy_function strict nested shape.ExportAllDeclaration) nested inside ts e)
nested_row strict inside l h xs n ts b e k v = statement_row nested strict inside l h xs n ts b e k v refl

pub body_row : Row (a_statement in_body) Statement
body_row strict inside l shape.ImportDeclaration xs n ts b e k v = absurd (no_statement (has_names shape.ImportDeclaration xs) (is_sloppy_function strict in_body shape.ImportDeclaration) in_body inside ts e)
body_row strict inside l shape.ExportNamedDeclaration xs n ts b e k v = absurd (no_statement (has_names shape.ExportNamedDeclaration xs) (is_sloppy_function strict in_body shape.ExportNamedDeclaration) in_body inside ts e)
body_row strict inside l shape.ExportDefaultDeclaration xs n ts b e k v = absurd (no_statement (has_names shape.ExportDefaultDeclaration xs) (is_sloppy_function strict in_body shape.ExportDefaultDeclaration) in_body inside ts e)
body_row strict inside l shape.ExportAllDeclaration xs n ts b e k v = absurd (no_statement (has_names shape.ExportAllDeclaration xs) (is_sloppy_function strict in_body shape.ExportAllDeclaration) in_body inside ts e)
body_row strict inside l h xs n ts b e k v = statement_row in_body strict inside l h xs n ts b e k v refl

in_item : (a b c x : Bool) → ((a && (b || c)) && x) ≡ true → ((a && (b || (a && true))) && x) ≡ true
in_item true true c x e = e
in_item true false true x e = e
in_item true false false x e = absurd (false≢true e)
in_item false b c x e = absurd (false≢true e)

item_of : (h : Shape) (us : Trees) (r : Option Rule) → (is_wanted Statement (turned_of Statement r) && (is_sound h us && printed.fill (wants_of h (turned_of Statement r)) us)) ≡ true → (is_wanted ModuleItem (turned_of ModuleItem r) && (is_sound h us && printed.fill (wants_of h (turned_of ModuleItem r)) us)) ≡ true
item_of h us None e = absurd (false≢true e)
item_of h us (Some r) e = in_item (is_of (sort Statement) r) (has Anything r) (has Statement r) (is_sound h us && printed.fill (wants_of h (Some r)) us) e

pub to_item : (u : Tree) → stands_at Statement u ≡ true → stands_at ModuleItem u ≡ true
to_item (node h xs n us) e = item_of h us (rule_at h xs us) e

-- ---- clauses

case_stands : (n : ℕ) (u c : Tree) → is_printable (a_perhaps Anything) u ≡ true → is_printable (a_run Statement) c ≡ true → stands_at CaseItem (node shape.SwitchCase [] n (u ▸ (c ▸ none))) ≡ true
case_stands n u c e f = either (perhaps_cases Anything u e)
    (λ a. subst (λ d. (is_wanted CaseItem (Some (case_of d)) && printed.fill (Some (wants (form (case_of d)))) (u ▸ (c ▸ none))) ≡ true) (sym a.0) (and_two (is_printable (a_silent Nothing) u) (is_printable (a_run Statement) c) a.1 f))
    (λ a. subst (λ d. (is_wanted CaseItem (Some (case_of d)) && printed.fill (Some (wants (form (case_of d)))) (u ▸ (c ▸ none))) ≡ true) (sym a.0) (and_two (is_printable (a_part Anything) u) (is_printable (a_run Statement) c) (part_of Anything u a.1) f))

pub case_row : Row a_case CaseItem
case_row strict inside l shape.SwitchCase [] n ts b e k v =
    over_two inside false (one_or_absent an_expression) (many (a_statement nested)) (λ us. stands_at CaseItem (node shape.SwitchCase [] n (all_shown us)) ≡ true) (λ t u bt bu et eu kt ku. case_stands n (shown t) (shown u) (bt.seat inside value_or_none false refl et kt) (bu.seat inside block false refl eu ku)) ts b e k
case_row strict inside l h xs n ts b e k v = absurd (never (has_names h xs) e)

catch_stands : (n : ℕ) (u c : Tree) → is_printable (a_perhaps Bound) u ≡ true → is_printable (a_part BlockOnly) c ≡ true → stands_at Catching (node shape.CatchClause [] n (u ▸ (c ▸ none))) ≡ true
catch_stands n u c e f = either (perhaps_cases Bound u e)
    (λ a. subst (λ d. (is_wanted Catching (Some (catch_of d)) && printed.fill (Some (wants (form (catch_of d)))) (u ▸ (c ▸ none))) ≡ true) (sym a.0) (and_two (is_printable (a_silent Nothing) u) (is_printable (a_part BlockOnly) c) a.1 f))
    (λ a. subst (λ d. (is_wanted Catching (Some (catch_of d)) && printed.fill (Some (wants (form (catch_of d)))) (u ▸ (c ▸ none))) ≡ true) (sym a.0) (and_two (is_printable (a_part Bound) u) (is_printable (a_part BlockOnly) c) (part_of Bound u a.1) f))

pub catch_row : Row a_catch Catching
catch_row strict inside l shape.CatchClause [] n ts b e k v =
    over_two inside false (one_or_absent a_pattern) (one a_block) (λ us. stands_at Catching (node shape.CatchClause [] n (all_shown us)) ≡ true) (λ t u bt bu et eu kt ku. catch_stands n (shown t) (shown u) (bt.seat inside pattern_or_none false refl et kt) (bu.seat inside block_only false refl eu ku)) ts b e k
catch_row strict inside l h xs n ts b e k v = absurd (never (has_names h xs) e)

pub block_row : Row a_block BlockOnly
block_row strict inside l shape.BlockStatement [] n ts b e k v = parts ts b inside (block ∷ []) false refl e k
block_row strict inside l h xs n ts b e k v = absurd (never (has_names h xs) e)
