-- A program from which dead items go is a program of ESTree still.
use Rattle.std.proofs.Common.{◌≡◌, ℕ, zero, suc, Bool, true, false, List, [], ◌∷◌, length, Option, Some, None, refl, sym, ap, ◌∙◌, subst, true≢false, le-leb, inl, inr, arith}
use Rattle.std.specs.Prelude.{◌⊎◌, nat_eq, nat_le, not, ◌&&◌, ◌||◌, if◌then◌else◌}
use Rattle.mini_model.specs.declared.kind.MethodDefinitionKind.{MethodDefinitionKind}
use Rattle.mini_model.specs.declared.kind.MethodDefinitionKind.TheVariants as method
use Rattle.mini_model.specs.declared.kind.VariableDeclarationKind.{VariableDeclarationKind}
use Rattle.mini_model.specs.declared.name.Name.{Name}
use Rattle.mini_model.specs.declared.operator.UnaryOperator.TheVariants.{UnaryNegation}
use Rattle.mini_model.specs.declared.shape.Shape.{Shape}
use Rattle.mini_model.specs.declared.shape.Shape.TheVariants as shape
use Rattle.mini_model.specs.Tree.{Tree, Trees, node, none, ◌▸◌, count, children, child_or_absent, shape_of, is_absent}
use Rattle.mini_laws.specs.Value.{VariableSet}
use Rattle.mini_accept.specs.WellShaped.{Class, a_program, a_statement, a_loop_left, a_method, an_exported_declaration, an_export, a_string, a_key, a_private_or_key, an_inner_key, in_module, in_body, nested, Slot, one, one_or_absent, many, Tagging, Filling, refused, these, each, each_or_last, pieces, filling, filling_by, class_of, slots_of, has_its_number, has_names, has_plain_fields, has_its_parts, is_whole, is_strict_in, is_last, first_item, is_function_body, is_reference, is_var, is_head_by, is_same_flag, spelling, without_default, repeats_key, is_same_spelling, holds_its_name, names_constructor, has_its_kind, is_init, has_optional, is_not_positive_number, are_locals, is_whole_export, is_quasi, are_quasis, fits, fill, IsWellShaped}
use Rattle.mini_kept.proofs.Bools.{left, right, both}
use Rattle.mini_dead.proofs.Declarations.{OneList, fits_made}
use Rattle.mini_dead.specs.Pruned.{Spot, Elsewhere, AStatement, Declarators, OneCase, Role, Plain, Declaration, DeclaratorList, role, spot_below, lone_tree, initializer_tree, own_name, Declarator, declarator, declarator_tree, declarator_trees, Item, function_item, declaration_item, lone_item, item_tree, Pruned, prune, Prunings, end, stays, goes, declarator_goes, earlier, earlier_all, later, later_all, HoldsItems, HoldsDeclarators}
use Rattle.mini_dead.specs.Drops as law
use Rattle.mini_dead.specs.Drops.{gone, some_stay, KeepsDeclarator, DropsDead, AllDropDead, Drops, DropsAgain, nothing_goes, more_goes}

-- ---- where nothing goes

abbrev pub AllStay : Prunings → Type 0
AllStay end = Unit {0}
AllStay (stays x ps) = AllStay ps
AllStay (goes i ps) = ⊥
AllStay (declarator_goes c ps) = ⊥

pub absent_pruned : Pruned
absent_pruned = prune shape.Absent [] 0 end

pub kid : ℕ → Prunings → Pruned
kid i end = absent_pruned
kid zero (stays x ps) = x
kid (suc i) (stays x ps) = kid i ps
kid i (goes c ps) = absent_pruned
kid i (declarator_goes c ps) = absent_pruned

pub earlier_kid : (i : ℕ) (ps : Prunings) → AllStay ps → child_or_absent (earlier_all ps) i ≡ earlier (kid i ps)
unfolding kid absent_pruned
earlier_kid i end a = refl
earlier_kid zero (stays x ps) a = refl
earlier_kid (suc i) (stays x ps) a = earlier_kid i ps a
earlier_kid i (goes c ps) a = absurd a
earlier_kid i (declarator_goes c ps) a = absurd a

pub later_kid : (i : ℕ) (ps : Prunings) → AllStay ps → child_or_absent (later_all ps) i ≡ later (kid i ps)
unfolding kid absent_pruned
later_kid i end a = refl
later_kid zero (stays x ps) a = refl
later_kid (suc i) (stays x ps) a = later_kid i ps a
later_kid i (goes c ps) a = absurd a
later_kid i (declarator_goes c ps) a = absurd a

pub same_count : (ps : Prunings) → AllStay ps → count (earlier_all ps) ≡ count (later_all ps)
same_count end a = refl
same_count (stays x ps) a = ap suc (same_count ps a)
same_count (goes c ps) a = absurd a
same_count (declarator_goes c ps) a = absurd a

-- a test of a child that a tree that stays passes alike
kid_alike : {A : Type 0} (f : Tree → A) → ((x : Pruned) → f (earlier x) ≡ f (later x)) → (i : ℕ) (ps : Prunings) → AllStay ps → f (child_or_absent (earlier_all ps) i) ≡ f (child_or_absent (later_all ps) i)
kid_alike f g i ps a = ap f (earlier_kid i ps a) ∙ g (kid i ps) ∙ sym (ap f (later_kid i ps a))

-- ---- what a parent asks of the root of a child

absent_alike : (x : Pruned) → is_absent (earlier x) ≡ is_absent (later x)
absent_alike (prune h xs n ps) = refl

body_alike : (x : Pruned) → is_function_body (earlier x) ≡ is_function_body (later x)
body_alike (prune h xs n ps) = refl

reference_alike : (x : Pruned) → is_reference (earlier x) ≡ is_reference (later x)
reference_alike (prune h xs n ps) = refl

spelled_alike : (x : Pruned) → spelling (earlier x) ≡ spelling (later x)
spelled_alike (prune h xs n ps) = refl

constructor_alike : (x : Pruned) → names_constructor (earlier x) ≡ names_constructor (later x)
constructor_alike (prune (shape.IdentifierName s) xs n ps) = refl
constructor_alike (prune (shape.StringLiteral s) xs n ps) = refl
constructor_alike (prune h xs n ps) = refl

number_alike : (x : Pruned) → is_not_positive_number (earlier x) ≡ is_not_positive_number (later x)
number_alike (prune (shape.NumericLiteral k) xs n ps) = refl
number_alike (prune h xs n ps) = refl

abbrev is_listed : Shape → Bool
is_listed shape.Listed = true
is_listed h = false

no_items : (h : Shape) → HoldsItems (role h Elsewhere) → ⊥
no_items shape.Listed a = a
no_items h a = a

no_declarators : (h : Shape) → HoldsDeclarators (role h Elsewhere) → ⊥
no_declarators shape.Listed a = a
no_declarators h a = a

-- ---- lists that a well-shaped node has

abbrev export_parts : List Slot
export_parts = one_or_absent an_exported_declaration ∷ many an_export ∷ one_or_absent a_string ∷ []

export_slots : (strict : Bool) (c : Class) → (slots_of strict c shape.ExportNamedDeclaration ≡ Some export_parts) ⊎ (slots_of strict c shape.ExportNamedDeclaration ≡ None)
export_slots true (a_statement in_module) = inl refl
export_slots true (a_statement in_body) = inr refl
export_slots true (a_statement nested) = inr refl
export_slots false (a_statement in_module) = inl refl
export_slots false (a_statement in_body) = inr refl
export_slots false (a_statement nested) = inr refl
export_slots strict (a_key true) = inr refl
export_slots strict (a_key false) = inr refl
export_slots strict (a_private_or_key true) = inr refl
export_slots strict (a_private_or_key false) = inr refl
export_slots strict (an_inner_key true) = inr refl
export_slots strict (an_inner_key false) = inr refl
export_slots strict c = inr refl

-- no list stands where one node does
list_slots : (strict : Bool) (c : Class) → slots_of strict c shape.Listed ≡ None
list_slots true (a_statement in_module) = refl
list_slots true (a_statement in_body) = refl
list_slots true (a_statement nested) = refl
list_slots false (a_statement in_module) = refl
list_slots false (a_statement in_body) = refl
list_slots false (a_statement nested) = refl
list_slots strict (a_key true) = refl
list_slots strict (a_key false) = refl
list_slots strict (a_private_or_key true) = refl
list_slots strict (a_private_or_key false) = refl
list_slots strict (an_inner_key true) = refl
list_slots strict (an_inner_key false) = refl
list_slots strict c = refl

many_listed : (strict : Bool) (c : Class) (t : Tree) → fits strict (many c) t ≡ true → shape_of t ≡ shape.Listed
many_listed strict c (node shape.Listed xs n ts) e = refl
many_listed strict c (node h xs n ts) e = absurd (true≢false (sym (right (is_whole c h xs n ts) _ e)))

second_listed : (strict : Bool) (ts : Trees) → fill strict (these export_parts) ts ≡ true → shape_of (child_or_absent ts 1) ≡ shape.Listed
second_listed strict none e = absurd (true≢false (sym e))
second_listed strict (a ▸ none) e = absurd (true≢false (sym (right (fits strict (one_or_absent an_exported_declaration) a) _ e)))
second_listed strict (a ▸ (b ▸ ts)) e = many_listed strict an_export b (left (fits strict (many an_export) b) _ (right (fits strict (one_or_absent an_exported_declaration) a) _ e))

by_slots : (strict : Bool) (c : Class) (ts : Trees) → fill strict (filling_by (slots_of strict c shape.ExportNamedDeclaration)) ts ≡ true → shape_of (child_or_absent ts 1) ≡ shape.Listed
by_slots strict c ts e = by (export_slots strict c)
  where
    by : (slots_of strict c shape.ExportNamedDeclaration ≡ Some export_parts) ⊎ (slots_of strict c shape.ExportNamedDeclaration ≡ None) → shape_of (child_or_absent ts 1) ≡ shape.Listed
    by (inl q) = second_listed strict ts (sym (ap (λ s. fill strict (filling_by s) ts) q) ∙ e)
    by (inr q) = absurd (true≢false (sym e ∙ ap (λ s. fill strict (filling_by s) ts) q))

first_listed : (ts : Trees) → OneList ts → shape_of (first_item ts) ≡ shape.Listed
first_listed (node shape.Listed ys m (c ▸ cs) ▸ none) w = refl
first_listed ts w = absurd w

-- the lists that a node's parts rest on
abbrev HasLists : Shape → Trees → Type 0
HasLists (shape.VariableDeclaration k) ts = shape_of (first_item ts) ≡ shape.Listed
HasLists shape.ExportNamedDeclaration ts = shape_of (child_or_absent ts 1) ≡ shape.Listed
HasLists h ts = Unit {0}

has_lists : (strict : Bool) (s : Slot) (h : Shape) (xs : List Name) (n : ℕ) (ts : Trees) → fits strict s (node h xs n ts) ≡ true → HasLists h ts
has_lists strict s (shape.VariableDeclaration k) xs n ts e = first_listed ts (fits_made strict s (node (shape.VariableDeclaration k) xs n ts) e).0
has_lists strict (one c) shape.ExportNamedDeclaration xs n ts e = by_slots strict c ts (right (is_whole c shape.ExportNamedDeclaration xs n ts) _ e)
has_lists strict (one_or_absent c) shape.ExportNamedDeclaration xs n ts e = by_slots strict c ts (right (is_whole c shape.ExportNamedDeclaration xs n ts) _ e)
has_lists strict s shape.ExportNamedDeclaration xs n ts e = absurd (true≢false (sym (right (is_whole (class_of s) shape.ExportNamedDeclaration xs n ts) _ e)))
has_lists strict s h xs n ts e = tt

-- what is asked of a list's items, one after another
abbrev Listy : Filling → Type 0
Listy (these ss) = ⊥
Listy f = Unit {0}

refused_list : (o : Option (List Slot)) → o ≡ None → Listy (filling_by o)
refused_list None e = tt
refused_list (Some ss) e = cc

listy : (strict : Bool) (s : Slot) → Listy (filling strict s shape.Listed)
listy strict (one c) = refused_list (slots_of strict c shape.Listed) (list_slots strict c)
listy strict (one_or_absent c) = refused_list (slots_of strict c shape.Listed) (list_slots strict c)
listy strict s = tt

-- an item is no piece of a template
no_piece : (g : Tagging) (last : Bool) (h : Shape) (xs : List Name) (n : ℕ) (c : Tree) (ts : Trees) → is_quasi g last (node h xs n (c ▸ ts)) ≡ true → ⊥
no_piece g last h [] n c ts e = true≢false (sym e)
no_piece g last h (x ∷ xs) n c ts e = true≢false (sym e)

pub item_no_piece : (g : Tagging) (last : Bool) (i : Item) → is_quasi g last (item_tree i) ≡ true → ⊥
item_no_piece g last (function_item b ds xs n x m ts) e = no_piece g last (shape.Function true b ds) xs n (own_name x m) ts e
item_no_piece g last (declaration_item k xs n ys m c cs) e = no_piece g last (shape.VariableDeclaration k) xs n (node shape.Listed ys m (declarator_trees (c ∷ cs))) none e
item_no_piece g last (lone_item xs n f) e = no_piece g last shape.ExpressionStatement xs n (lone_tree f) none e

pub declarator_no_piece : (g : Tagging) (last : Bool) (c : Declarator) → is_quasi g last (declarator_tree c) ≡ true → ⊥
declarator_no_piece g last (declarator n x m i) e = no_piece g last shape.VariableDeclarator [] n (own_name x m) (initializer_tree i ▸ none) e

no_role : (k : VariableDeclarationKind) (q : Spot) → HoldsItems (role (shape.VariableDeclaration k) q) → ⊥
no_role k AStatement a = a
no_role k q a = a

no_declaration : (k : VariableDeclarationKind) (q : Spot) → HoldsDeclarators (role (shape.VariableDeclaration k) q) → ⊥
no_declaration k AStatement a = a
no_declaration k q a = a

no_case : (q : Spot) → HoldsItems (role shape.SwitchCase q) → ⊥
no_case OneCase a = a
no_case q a = a

no_case_declarator : (q : Spot) → HoldsDeclarators (role shape.SwitchCase q) → ⊥
no_case_declarator OneCase a = a
no_case_declarator q a = a

items_listy : (strict : Bool) (s : Slot) (h : Shape) (q : Spot) → HoldsItems (role h q) → Listy (filling strict s h)
items_listy strict s shape.Listed q a = listy strict s
items_listy strict s (shape.VariableDeclaration k) q a = absurd (no_role k q a)
items_listy strict s shape.SwitchCase q a = absurd (no_case q a)
items_listy strict s h q a = absurd a

declarators_listy : (strict : Bool) (s : Slot) (h : Shape) (q : Spot) → HoldsDeclarators (role h q) → Listy (filling strict s h)
declarators_listy strict s shape.Listed q a = listy strict s
declarators_listy strict s (shape.VariableDeclaration k) q a = absurd (no_declaration k q a)
declarators_listy strict s shape.SwitchCase q a = absurd (no_case_declarator q a)
declarators_listy strict s h q a = absurd a

module _ (t : Tree) (D : VariableSet) (rounds : ℕ → ℕ) where
  abbrev Drop : Spot → Pruned → Type 0
  Drop q x = DropsDead t D rounds q x

  abbrev AllDrop : Role → ℕ → Prunings → Type 0
  AllDrop r i ps = AllDropDead t D rounds r i ps

  pub all_stay : (r : Role) (i : ℕ) (ps : Prunings) → (HoldsItems r → ⊥) → (HoldsDeclarators r → ⊥) → AllDrop r i ps → AllStay ps
  all_stay r i end f g a = tt
  all_stay r i (stays x ps) f g a = all_stay r (suc i) ps f g a.1
  all_stay r i (goes c ps) f g a = absurd (f a.0)
  all_stay r i (declarator_goes c ps) f g a = absurd (g a.0)

  pub stay_elsewhere : (h : Shape) (xs : List Name) (n : ℕ) (ps : Prunings) → Drop Elsewhere (prune h xs n ps) → AllStay ps
  stay_elsewhere h xs n ps a = all_stay (role h Elsewhere) 0 ps (no_items h) (no_declarators h) a.1

  -- the children of a plain node
  kid_drops : (i j : ℕ) (ps : Prunings) → AllDrop Plain j ps → Drop Elsewhere (kid i ps)
  unfolding kid absent_pruned
  kid_drops i j end a = (tt, tt)
  kid_drops zero j (stays x ps) a = a.0
  kid_drops (suc i) j (stays x ps) a = kid_drops i (suc j) ps a.1
  kid_drops i j (goes c ps) a = absurd a.0
  kid_drops i j (declarator_goes c ps) a = absurd a.0

  plain_stay : (j : ℕ) (ps : Prunings) → AllDrop Plain j ps → AllStay ps
  plain_stay j ps a = all_stay Plain j ps (λ b. b) (λ b. b) a

  children_counted : (x : Pruned) → Drop Elsewhere x → count (children (earlier x)) ≡ count (children (later x))
  children_counted (prune h xs n ps) a = same_count ps (stay_elsewhere h xs n ps a)

  second_absent : (x : Pruned) → Drop Elsewhere x → is_absent (child_or_absent (children (earlier x)) 1) ≡ is_absent (child_or_absent (children (later x)) 1)
  second_absent (prune h xs n ps) a = kid_alike is_absent absent_alike 1 ps (stay_elsewhere h xs n ps a)

  second_reference : (x : Pruned) → Drop Elsewhere x → is_reference (child_or_absent (children (earlier x)) 1) ≡ is_reference (child_or_absent (children (later x)) 1)
  second_reference (prune h xs n ps) a = kid_alike is_reference reference_alike 1 ps (stay_elsewhere h xs n ps a)

  undefaulted : (x : Pruned) → Drop Elsewhere x → spelling (without_default (earlier x)) ≡ spelling (without_default (later x))
  undefaulted (prune shape.AssignmentPattern xs n ps) a = kid_alike spelling spelled_alike 0 ps (stay_elsewhere shape.AssignmentPattern xs n ps a)
  undefaulted (prune h xs n ps) a = refl

  optional_alike : (x : Pruned) → Drop Elsewhere x → has_optional (earlier x) ≡ has_optional (later x)
  optional_alike (prune (shape.CallExpression b) xs n (stays x ps)) a = ap (λ c. b || c) (optional_alike x a.1.0)
  optional_alike (prune (shape.StaticMemberExpression b) xs n (stays x ps)) a = ap (λ c. b || c) (optional_alike x a.1.0)
  optional_alike (prune (shape.ComputedMemberExpression b) xs n (stays x ps)) a = ap (λ c. b || c) (optional_alike x a.1.0)
  optional_alike (prune (shape.PrivateFieldExpression b) xs n (stays x ps)) a = ap (λ c. b || c) (optional_alike x a.1.0)
  optional_alike (prune shape.InnerExpression xs n (stays x ps)) a = optional_alike x a.1.0
  optional_alike (prune (shape.CallExpression b) xs n (goes c ps)) a = absurd a.1.0
  optional_alike (prune (shape.StaticMemberExpression b) xs n (goes c ps)) a = absurd a.1.0
  optional_alike (prune (shape.ComputedMemberExpression b) xs n (goes c ps)) a = absurd a.1.0
  optional_alike (prune (shape.PrivateFieldExpression b) xs n (goes c ps)) a = absurd a.1.0
  optional_alike (prune shape.InnerExpression xs n (goes c ps)) a = absurd a.1.0
  optional_alike (prune (shape.CallExpression b) xs n (declarator_goes c ps)) a = absurd a.1.0
  optional_alike (prune (shape.StaticMemberExpression b) xs n (declarator_goes c ps)) a = absurd a.1.0
  optional_alike (prune (shape.ComputedMemberExpression b) xs n (declarator_goes c ps)) a = absurd a.1.0
  optional_alike (prune (shape.PrivateFieldExpression b) xs n (declarator_goes c ps)) a = absurd a.1.0
  optional_alike (prune shape.InnerExpression xs n (declarator_goes c ps)) a = absurd a.1.0
  optional_alike (prune h xs n ps) a = refl

  locals_alike : (own : Bool) (j : ℕ) (ps : Prunings) → AllDrop Plain j ps → are_locals own (earlier_all ps) ≡ are_locals own (later_all ps)
  locals_alike own j end a = refl
  locals_alike own j (stays x ps) a = ap (λ b. is_same_flag own b && are_locals own (earlier_all ps)) (second_reference x a.0) ∙ ap (λ b. is_same_flag own (is_reference (child_or_absent (children (later x)) 1)) && b) (locals_alike own (suc j) ps a.1)
  locals_alike own j (goes c ps) a = absurd a.0
  locals_alike own j (declarator_goes c ps) a = absurd a.0

  list_locals : (own : Bool) (x : Pruned) → Drop Elsewhere x → shape_of (earlier x) ≡ shape.Listed → are_locals own (children (earlier x)) ≡ are_locals own (children (later x))
  list_locals own (prune h xs n ps) a e = locals_alike own 0 ps (subst (λ h. AllDrop (role h Elsewhere) 0 ps) e a.1)

  -- ---- a declaration keeps a declarator

  some_left : (lexical : Bool) (i : ℕ) (ps : Prunings) → some_stay ps ≡ true → nat_le 1 (count (later_all ps)) ≡ true
  some_left lexical i end e = absurd (true≢false (sym e))
  some_left lexical i (stays x ps) e = le-leb 1 (suc (count (later_all ps))) (omega arith)
  some_left lexical i (goes c ps) e = some_left lexical i ps e
  some_left lexical i (declarator_goes c ps) e = some_left lexical i ps e

  still_some : (m k : ℕ) → m ≡ k → nat_le 1 m ≡ true → nat_le 1 k ≡ true
  still_some m k e p = sym (ap (nat_le 1) e) ∙ p

  -- the list of declarators, at its two places
  abbrev ListSpot : Spot → Type 0
  ListSpot Elsewhere = Unit {0}
  ListSpot (Declarators lexical) = Unit {0}
  ListSpot q = ⊥

  list_left : (q : Spot) → ListSpot q → (x : Pruned) → Drop q x → nat_le 1 (count (children (earlier x))) ≡ true → nat_le 1 (count (children (later x))) ≡ true
  list_left Elsewhere w x a e = still_some _ _ (children_counted x a) e
  list_left (Declarators lexical) w (prune shape.Listed xs n ps) a e = some_left lexical 0 ps a.0
  list_left (Declarators lexical) w (prune h xs n ps) a e = still_some _ _ (same_count ps (all_stay (role h (Declarators lexical)) 0 ps (λ b. b) (λ b. b) a.1)) e
  list_left q w x a e = absurd w

  -- the head of a `for..in` or `for..of`
  one_declarator : (b : Bool) (k : VariableDeclarationKind) (i : ℕ) (ps : Prunings) → AllDrop Plain i ps → is_head_by b k (earlier_all ps) ≡ true → is_head_by b k (later_all ps) ≡ true
  one_declarator b k i end a e = e
  one_declarator b k i (stays x end) a e = sym (ap (λ c. not (not c) || (b && is_var k)) (second_absent x a.0)) ∙ e
  one_declarator b k i (stays x (stays y ps)) a e = absurd (true≢false (sym e))
  one_declarator b k i (stays x (goes c ps)) a e = absurd a.1.0
  one_declarator b k i (stays x (declarator_goes c ps)) a e = absurd a.1.0
  one_declarator b k i (goes c ps) a e = absurd a.0
  one_declarator b k i (declarator_goes c ps) a e = absurd a.0

  one_left : (b : Bool) (k : VariableDeclarationKind) (lexical : Bool) (i : ℕ) (ps : Prunings) → some_stay ps ≡ true → AllDrop (DeclaratorList lexical) i ps → is_head_by b k (earlier_all ps) ≡ true → is_head_by b k (later_all ps) ≡ true
  one_left b k lexical i end w a e = e
  one_left b k lexical i (stays x end) w a e = sym (ap (λ c. not (not c) || (b && is_var k)) (second_absent x a.0)) ∙ e
  one_left b k lexical i (stays x (stays y ps)) w a e = absurd (true≢false (sym e))
  one_left b k lexical i (stays x (goes c ps)) w a e = absurd (true≢false (sym e))
  one_left b k lexical i (stays x (declarator_goes c ps)) w a e = absurd (true≢false (sym e))
  one_left b k lexical i (goes c ps) w a e = absurd a.0
  one_left b k lexical i (declarator_goes c end) w a e = absurd (true≢false (sym w))
  one_left b k lexical i (declarator_goes c (stays y ps)) w a e = absurd (true≢false (sym e))
  one_left b k lexical i (declarator_goes c (goes d ps)) w a e = absurd (true≢false (sym e))
  one_left b k lexical i (declarator_goes c (declarator_goes d ps)) w a e = absurd (true≢false (sym e))

  head_left : (b : Bool) (k : VariableDeclarationKind) (q : Spot) → ListSpot q → (x : Pruned) → Drop q x → shape_of (earlier x) ≡ shape.Listed → is_head_by b k (children (earlier x)) ≡ true → is_head_by b k (children (later x)) ≡ true
  head_left b k Elsewhere w (prune shape.Listed xs n ps) a s e = one_declarator b k 0 ps a.1 e
  head_left b k (Declarators lexical) w (prune shape.Listed xs n ps) a s e = one_left b k lexical 0 ps a.0 a.1 e
  head_left b k q w (prune shape.Listed xs n ps) a s e = absurd w
  head_left b k q w (prune h xs n ps) a s e = absurd (true≢false (sym (ap is_listed s)))

  -- ---- what a node asks of its children as a whole

  -- a declaration stands where its list may lose declarators, or elsewhere
  abbrev ListRole : Role → Type 0
  ListRole Plain = Unit {0}
  ListRole (Declaration lexical) = Unit {0}
  ListRole r = ⊥

  list_role_of : (k : VariableDeclarationKind) (q : Spot) → ListRole (role (shape.VariableDeclaration k) q)
  list_role_of k AStatement = tt
  list_role_of k q = tt

  -- the first child, as a list of declarators
  declaration_left : (r : Role) → ListRole r → (ps : Prunings) → AllDrop r 0 ps → nat_le 1 (count (children (first_item (earlier_all ps)))) ≡ true → nat_le 1 (count (children (first_item (later_all ps)))) ≡ true
  declaration_left r w end a e = e
  declaration_left Plain w (stays x ps) a e = list_left Elsewhere tt x a.0 e
  declaration_left (Declaration lexical) w (stays x ps) a e = list_left (Declarators lexical) tt x a.0 e
  declaration_left Plain w (goes c ps) a e = absurd a.0
  declaration_left (Declaration lexical) w (goes c ps) a e = absurd a.0
  declaration_left Plain w (declarator_goes c ps) a e = absurd a.0
  declaration_left (Declaration lexical) w (declarator_goes c ps) a e = absurd a.0
  declaration_left r w ps a e = absurd w

  loop_left : (b : Bool) (k : VariableDeclarationKind) (r : Role) → ListRole r → (ps : Prunings) → AllDrop r 0 ps → shape_of (first_item (earlier_all ps)) ≡ shape.Listed → is_head_by b k (children (first_item (earlier_all ps))) ≡ true → is_head_by b k (children (first_item (later_all ps))) ≡ true
  loop_left b k r w end a s e = e
  loop_left b k Plain w (stays x ps) a s e = head_left b k Elsewhere tt x a.0 s e
  loop_left b k (Declaration lexical) w (stays x ps) a s e = head_left b k (Declarators lexical) tt x a.0 s e
  loop_left b k Plain w (goes c ps) a s e = absurd a.0
  loop_left b k (Declaration lexical) w (goes c ps) a s e = absurd a.0
  loop_left b k Plain w (declarator_goes c ps) a s e = absurd a.0
  loop_left b k (Declaration lexical) w (declarator_goes c ps) a s e = absurd a.0
  loop_left b k r w ps a s e = absurd w

  -- a test of a plain node's child and that of the child that is left
  plain_child : {A : Type 0} (f : Tree → A) → ((x : Pruned) → Drop Elsewhere x → f (earlier x) ≡ f (later x)) → (i : ℕ) (ps : Prunings) → AllDrop Plain 0 ps → f (child_or_absent (earlier_all ps) i) ≡ f (child_or_absent (later_all ps) i)
  plain_child f g i ps a = ap f (earlier_kid i ps (plain_stay 0 ps a)) ∙ g (kid i ps) (kid_drops i 0 ps a) ∙ sym (ap f (later_kid i ps (plain_stay 0 ps a)))

  repeats_alike : (ps : Prunings) → AllDrop Plain 0 ps → repeats_key (earlier_all ps) ≡ repeats_key (later_all ps)
  repeats_alike ps a =
      ap (λ s. is_same_spelling s (spelling (without_default (child_or_absent (earlier_all ps) 1)))) (plain_child spelling (λ x d. spelled_alike x) 0 ps a)
      ∙ ap (is_same_spelling (spelling (child_or_absent (later_all ps) 0))) (plain_child (λ c. spelling (without_default c)) undefaulted 1 ps a)

  name_held : (declaration : Bool) (ps : Prunings) → AllDrop Plain 0 ps → holds_its_name declaration (earlier_all ps) ≡ holds_its_name declaration (later_all ps)
  name_held declaration ps a =
      ap (λ b. if declaration && not b then is_same_spelling (spelling (child_or_absent (earlier_all ps) 0)) (spelling (child_or_absent (earlier_all ps) 3)) else is_absent (child_or_absent (earlier_all ps) 3)) (plain_child is_absent (λ x d. absent_alike x) 0 ps a)
      ∙ ap (λ s. if declaration && not (is_absent (child_or_absent (later_all ps) 0)) then is_same_spelling s (spelling (child_or_absent (earlier_all ps) 3)) else is_absent (child_or_absent (earlier_all ps) 3)) (plain_child spelling (λ x d. spelled_alike x) 0 ps a)
      ∙ ap (λ s. if declaration && not (is_absent (child_or_absent (later_all ps) 0)) then is_same_spelling (spelling (child_or_absent (later_all ps) 0)) s else is_absent (child_or_absent (earlier_all ps) 3)) (plain_child spelling (λ x d. spelled_alike x) 3 ps a)
      ∙ ap (λ b. if declaration && not (is_absent (child_or_absent (later_all ps) 0)) then is_same_spelling (spelling (child_or_absent (later_all ps) 0)) (spelling (child_or_absent (later_all ps) 3)) else b) (plain_child is_absent (λ x d. absent_alike x) 3 ps a)

  kind_held : (k : MethodDefinitionKind) (computed is_static : Bool) (ps : Prunings) → AllDrop Plain 0 ps → has_its_kind k computed is_static (first_item (earlier_all ps)) ≡ has_its_kind k computed is_static (first_item (later_all ps))
  kind_held method.Constructor computed is_static ps a = ap (λ b. not is_static && (not computed && b)) (plain_child names_constructor (λ x d. constructor_alike x) 0 ps a)
  kind_held method.Method computed is_static ps a = ap (λ b. not (not is_static && (not computed && b))) (plain_child names_constructor (λ x d. constructor_alike x) 0 ps a)
  kind_held k computed is_static ps a = refl

  export_held : (ps : Prunings) → AllDrop Plain 0 ps → shape_of (child_or_absent (earlier_all ps) 1) ≡ shape.Listed → is_whole_export (earlier_all ps) ≡ is_whole_export (later_all ps)
  export_held ps a s =
      ap (λ b. (b || (nat_eq (count (children (child_or_absent (earlier_all ps) 1))) 0 && is_absent (child_or_absent (earlier_all ps) 2))) && are_locals (is_absent (child_or_absent (earlier_all ps) 2)) (children (child_or_absent (earlier_all ps) 1))) (plain_child is_absent (λ x d. absent_alike x) 0 ps a)
      ∙ ap (λ n. (is_absent (first_item (later_all ps)) || (nat_eq n 0 && is_absent (child_or_absent (earlier_all ps) 2))) && are_locals (is_absent (child_or_absent (earlier_all ps) 2)) (children (child_or_absent (earlier_all ps) 1))) (plain_child (λ c. count (children c)) children_counted 1 ps a)
      ∙ ap (λ b. (is_absent (first_item (later_all ps)) || (nat_eq (count (children (child_or_absent (later_all ps) 1))) 0 && b)) && are_locals b (children (child_or_absent (earlier_all ps) 1))) (plain_child is_absent (λ x d. absent_alike x) 2 ps a)
      ∙ ap (λ b. (is_absent (first_item (later_all ps)) || (nat_eq (count (children (child_or_absent (later_all ps) 1))) 0 && is_absent (child_or_absent (later_all ps) 2))) && b) (locals_held (is_absent (child_or_absent (later_all ps) 2)))
    where
      locals_held : (own : Bool) → are_locals own (children (child_or_absent (earlier_all ps) 1)) ≡ are_locals own (children (child_or_absent (later_all ps) 1))
      locals_held own = ap (λ c. are_locals own (children c)) (earlier_kid 1 ps (plain_stay 0 ps a)) ∙ list_locals own (kid 1 ps) (kid_drops 1 0 ps a) (sym (ap shape_of (earlier_kid 1 ps (plain_stay 0 ps a))) ∙ s) ∙ sym (ap (λ c. are_locals own (children c)) (later_kid 1 ps (plain_stay 0 ps a)))

  -- ---- the whole

  parts_still : (c : Class) (h : Shape) (q : Spot) (ps : Prunings) → AllDrop (role h q) 0 ps → HasLists h (earlier_all ps) → has_its_parts c h (earlier_all ps) ≡ true → has_its_parts c h (later_all ps) ≡ true
  parts_still (a_loop_left b) (shape.VariableDeclaration k) q ps a w e = loop_left b k (role (shape.VariableDeclaration k) q) (list_role_of k q) ps a w e
  parts_still c (shape.VariableDeclaration k) q ps a w e = declaration_left (role (shape.VariableDeclaration k) q) (list_role_of k q) ps a e
  parts_still c shape.TryStatement q ps a w e =
      sym (ap (λ b. not (b && is_absent (child_or_absent (earlier_all ps) 2))) (plain_child is_absent (λ x d. absent_alike x) 1 ps a) ∙ ap (λ b. not (is_absent (child_or_absent (later_all ps) 1) && b)) (plain_child is_absent (λ x d. absent_alike x) 2 ps a)) ∙ e
  parts_still a_method (shape.Function d g ds) q ps a w e = sym (plain_child is_absent (λ x d. absent_alike x) 0 ps a) ∙ e
  parts_still c (shape.ArrowFunctionExpression ds) q ps a w e = sym (ap (λ b. nat_eq (length ds) 0 || b) (plain_child is_function_body (λ x d. body_alike x) 1 ps a)) ∙ e
  parts_still c (shape.Class declaration) q ps a w e = sym (name_held declaration ps a) ∙ e
  parts_still c (shape.MethodDefinition k computed is_static) q ps a w e = sym (kind_held k computed is_static ps a) ∙ e
  parts_still c (shape.ObjectProperty k is_method shorthand computed) q ps a w e =
      sym (ap (λ b. (is_init k || not (is_method || shorthand)) && (not (is_method && shorthand) && (not shorthand || (not computed && b)))) (repeats_alike ps a)) ∙ e
  parts_still c (shape.BindingProperty shorthand computed) q ps a w e = sym (ap (λ b. not shorthand || (not computed && b)) (repeats_alike ps a)) ∙ e
  parts_still c shape.AssignmentTargetPropertyIdentifier q ps a w e = sym (repeats_alike ps a) ∙ e
  parts_still c shape.SequenceExpression q ps a w e = sym (ap (nat_le 2) (plain_child (λ x. count (children x)) children_counted 0 ps a)) ∙ e
  parts_still c (shape.UnaryExpression UnaryNegation) q ps a w e = sym (plain_child is_not_positive_number (λ x d. number_alike x) 0 ps a) ∙ e
  parts_still c shape.ChainExpression q ps a w e = sym (plain_child has_optional optional_alike 0 ps a) ∙ e
  parts_still c shape.TemplateLiteral q ps a w e =
      sym (ap (λ n. nat_eq n (suc (count (children (child_or_absent (earlier_all ps) 1))))) (plain_child (λ x. count (children x)) children_counted 0 ps a) ∙ ap (λ n. nat_eq (count (children (first_item (later_all ps)))) (suc n)) (plain_child (λ x. count (children x)) children_counted 1 ps a)) ∙ e
  parts_still c shape.ExportNamedDeclaration q ps a w e = sym (export_held ps a w) ∙ e
  parts_still c h q ps a w e = e

  whole_still : (c : Class) (h : Shape) (q : Spot) (xs : List Name) (n : ℕ) (ps : Prunings) → AllDrop (role h q) 0 ps → HasLists h (earlier_all ps) → is_whole c h xs n (earlier_all ps) ≡ true → is_whole c h xs n (later_all ps) ≡ true
  whole_still c h q xs n ps a w e =
      let numbered = right (has_names h xs) _ e in
      let plain = right (has_its_number c h n) _ numbered in
      both (has_names h xs) _ (left (has_names h xs) _ e) (both (has_its_number c h n) _ (left (has_its_number c h n) _ numbered) (both (has_plain_fields h) _ (left (has_plain_fields h) _ plain) (parts_still c h q ps a w (right (has_plain_fields h) _ plain))))

  last_still : (ps : Prunings) → is_last (earlier_all ps) ≡ true → is_last (later_all ps) ≡ true
  last_still end e = refl
  last_still (stays x ps) e = absurd (true≢false (sym e))
  last_still (goes c ps) e = absurd (true≢false (sym e))
  last_still (declarator_goes c ps) e = absurd (true≢false (sym e))

  -- pieces of a template have no children, so each stays as it is
  piece_same : (g : Tagging) (last : Bool) (x : Pruned) → is_quasi g last (earlier x) ≡ true → later x ≡ earlier x
  piece_same g last (prune h xs n end) e = refl
  piece_same g last (prune h xs n (stays x ps)) e = absurd (no_piece g last h xs n (earlier x) (earlier_all ps) e)
  piece_same g last (prune h xs n (goes i ps)) e = absurd (no_piece g last h xs n (item_tree i) (earlier_all ps) e)
  piece_same g last (prune h xs n (declarator_goes c ps)) e = absurd (no_piece g last h xs n (declarator_tree c) (earlier_all ps) e)

  pub quasis_first : (g : Tagging) (t : Tree) (ts : Trees) → are_quasis g (t ▸ ts) ≡ true → (last : Bool) × (is_quasi g last t ≡ true)
  quasis_first g t none e = (true, e)
  quasis_first g t (u ▸ ts) e = (false, left (is_quasi g false t) _ e)

  abbrev NoneOrQuasis : Tagging → Trees → Type 0
  NoneOrQuasis g none = Unit {0}
  NoneOrQuasis g (t ▸ ts) = are_quasis g (t ▸ ts) ≡ true

  quasis_rest : (g : Tagging) (t : Tree) (ts : Trees) → are_quasis g (t ▸ ts) ≡ true → NoneOrQuasis g ts
  quasis_rest g t none e = tt
  quasis_rest g t (u ▸ ts) e = right (is_quasi g false t) _ e

  pub pieces_same : (g : Tagging) (ps : Prunings) → NoneOrQuasis g (earlier_all ps) → later_all ps ≡ earlier_all ps
  pieces_same g end e = refl
  pieces_same g (stays x ps) e =
      let first = quasis_first g (earlier x) (earlier_all ps) e in
      ap (λ t. t ▸ later_all ps) (piece_same g first.0 x first.1) ∙ ap (λ ts. earlier x ▸ ts) (pieces_same g ps (quasis_rest g (earlier x) (earlier_all ps) e))
  pieces_same g (goes i ps) e = let first = quasis_first g (item_tree i) (earlier_all ps) e in absurd (item_no_piece g first.0 i first.1)
  pieces_same g (declarator_goes c ps) e = let first = quasis_first g (declarator_tree c) (earlier_all ps) e in absurd (declarator_no_piece g first.0 c first.1)

  either_still : (a b c d e : Bool) → (a ≡ true → c ≡ true) → (b ≡ true → d ≡ true) → (e ≡ true → e ≡ true) → (a || b) ≡ true → (c || d) ≡ true
  either_still true b true d e f g h p = refl
  either_still true b false d e f g h p = absurd (true≢false (sym (f refl)))
  either_still false true true d e f g h p = refl
  either_still false true false d e f g h p = g refl
  either_still false false c d e f g h p = absurd (true≢false (sym p))

  mutual
    pub fits_still : (strict : Bool) (s : Slot) (q : Spot) (x : Pruned) → Drop q x → fits strict s (earlier x) ≡ true → fits strict s (later x) ≡ true
    fits_still strict s q (prune h xs n ps) a e =
        both (is_whole (class_of s) h xs n (later_all ps)) (fill (is_strict_in strict h) (filling strict s h) (later_all ps))
        (whole_still (class_of s) h q xs n ps a.1 (has_lists strict s h xs n (earlier_all ps) e) (left (is_whole (class_of s) h xs n (earlier_all ps)) _ e))
        (fill_still (is_strict_in strict h) (filling strict s h) (role h q) 0 ps (items_listy strict s h q) (declarators_listy strict s h q) a.1 (right (is_whole (class_of s) h xs n (earlier_all ps)) _ e))

    fill_still : (strict : Bool) (f : Filling) (r : Role) (i : ℕ) (ps : Prunings) → (HoldsItems r → Listy f) → (HoldsDeclarators r → Listy f) → AllDrop r i ps → fill strict f (earlier_all ps) ≡ true → fill strict f (later_all ps) ≡ true
    fill_still strict f r i end v w a e = e
    fill_still strict refused r i ps v w a e = absurd (true≢false (sym e))
    fill_still strict (these ss) r i (goes c ps) v w a e = absurd (v a.0)
    fill_still strict (these ss) r i (declarator_goes c ps) v w a e = absurd (w a.0)
    fill_still strict (these []) r i (stays x ps) v w a e = absurd (true≢false (sym e))
    fill_still strict (these (s ∷ ss)) r i (stays x ps) v w a e =
        both (fits strict s (later x)) (fill strict (these ss) (later_all ps)) (fits_still strict s (spot_below r i) x a.0 (left (fits strict s (earlier x)) _ e)) (fill_still strict (these ss) r (suc i) ps v w a.1 (right (fits strict s (earlier x)) _ e))
    fill_still strict (each s) r i (stays x ps) v w a e =
        both (fits strict s (later x)) (fill strict (each s) (later_all ps)) (fits_still strict s (spot_below r i) x a.0 (left (fits strict s (earlier x)) _ e)) (fill_still strict (each s) r (suc i) ps v w a.1 (right (fits strict s (earlier x)) _ e))
    fill_still strict (each s) r i (goes c ps) v w a e = fill_still strict (each s) r (suc i) ps v w a.2 (right (fits strict s (item_tree c)) _ e)
    fill_still strict (each s) r i (declarator_goes c ps) v w a e = fill_still strict (each s) r (suc i) ps v w a.2 (right (fits strict s (declarator_tree c)) _ e)
    fill_still strict (each_or_last s l) r i (stays x ps) v w a e =
        both (fits strict s (later x) || (is_last (later_all ps) && fits strict l (later x))) (fill strict (each_or_last s l) (later_all ps))
        (either_still (fits strict s (earlier x)) (is_last (earlier_all ps) && fits strict l (earlier x)) (fits strict s (later x)) (is_last (later_all ps) && fits strict l (later x)) true (λ p. fits_still strict s (spot_below r i) x a.0 p)
        (λ p. both (is_last (later_all ps)) (fits strict l (later x)) (last_still ps (left (is_last (earlier_all ps)) _ p)) (fits_still strict l (spot_below r i) x a.0 (right (is_last (earlier_all ps)) _ p))) (λ p. p)
        (left (fits strict s (earlier x) || (is_last (earlier_all ps) && fits strict l (earlier x))) _ e))
        (fill_still strict (each_or_last s l) r (suc i) ps v w a.1 (right (fits strict s (earlier x) || (is_last (earlier_all ps) && fits strict l (earlier x))) _ e))
    fill_still strict (each_or_last s l) r i (goes c ps) v w a e = fill_still strict (each_or_last s l) r (suc i) ps v w a.2 (right (fits strict s (item_tree c) || (is_last (earlier_all ps) && fits strict l (item_tree c))) _ e)
    fill_still strict (each_or_last s l) r i (declarator_goes c ps) v w a e = fill_still strict (each_or_last s l) r (suc i) ps v w a.2 (right (fits strict s (declarator_tree c) || (is_last (earlier_all ps) && fits strict l (declarator_tree c))) _ e)
    fill_still strict (pieces g) r i (stays x ps) v w a e = subst (λ ts. fill strict (pieces g) ts ≡ true) (sym (pieces_same g (stays x ps) e)) e
    fill_still strict (pieces g) r i (goes c ps) v w a e = let first = quasis_first g (item_tree c) (earlier_all ps) e in absurd (item_no_piece g first.0 c first.1)
    fill_still strict (pieces g) r i (declarator_goes c ps) v w a e = let first = quasis_first g (declarator_tree c) (earlier_all ps) e in absurd (declarator_no_piece g first.0 c first.1)

once_shaped : (t u : Tree) (n : ℕ) → Drops t u n → IsWellShaped t → IsWellShaped u
once_shaped t u n w e = subst IsWellShaped w.after (fits_still t (gone w.pruned) w.rounds false (one a_program) Elsewhere w.pruned w.dead (subst IsWellShaped (sym w.before) e))

pub drops_keep_shape : law.DropsKeepShape
drops_keep_shape _ _ _ (nothing_goes t) e = e
drops_keep_shape _ _ _ (more_goes t u v m n w s) e = once_shaped u v n s (drops_keep_shape t u m w e)
