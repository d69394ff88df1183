-- Each program is covered: a walk over the slots of each shape, on which all that a tree declares
-- for what stands around it is spelled there.
use Rattle.std.specs.Prelude.{ℕ, zero, suc, nat_le, ◌≡◌, ◌⊎◌, refl, Bool, true, false, ◌&&◌, ◌||◌, not, List, [], ◌∷◌, length, Option, Some, None, if◌then◌else◌}
use Rattle.std.specs.List.{list_all}
use Rattle.std.proofs.Common.{ap, ◌∙◌, sym, true≢false, inl, inr}
use Rattle.mini_model.specs.declared.kind.VariableDeclarationKind.TheVariants.{Var}
use Rattle.mini_model.specs.declared.name.Name.{Name}
use Rattle.mini_model.specs.declared.operator.AssignmentOperator.TheVariants.{Assign}
use Rattle.mini_model.specs.declared.shape.Shape.{Shape}
use Rattle.mini_model.specs.declared.shape.Shape.TheVariants as shape
use Rattle.mini_model.specs.Tree.{Tree, Trees, node, none, ◌▸◌, count}
use Rattle.mini_model.specs.Weight.{same_text}
use Rattle.mini_accept.specs.WellShaped.{Tagging, Class, a_program, Slot, one, one_or_absent, many, many_or_holes, many_and_rest, many_or_holes_and_rest, quasis, these, each, each_or_last, filling_by, slots_of, class_of, is_function_body, has_names, has_its_number, has_plain_fields, has_its_parts, is_whole, is_strict_in, is_last, is_quasi, are_quasis, fits, fill}
use Rattle.mini_laws.specs.declared.names.Use.{Use}
use Rattle.mini_laws.specs.declared.names.Use.TheVariants.{Read, Write}
use Rattle.mini_laws.specs.declared.names.Binding.{Binding}
use Rattle.mini_laws.specs.declared.names.Declared.{Declared}
use Rattle.mini_laws.specs.declared.names.Declared.TheVariants as declared
use Rattle.mini_laws.specs.DeclaredNames.{names_of, all_names, is_spelled}
use Rattle.mini_laws.specs.Scopes.{hoisted_by, use_of, is_alone, scopes_by, opened}
use Rattle.mini_kept.proofs.SameScopes.{text_itself}
use Rattle.mini_kept.proofs.Bools.{left, right, both, or_second}
use Rattle.mini_kept.proofs.Expressions.{refused_here}
use Rattle.mini_kept.proofs.Unbound.{bound_at}
use Rattle.mini_shrink.specs.Cover.{is_hoisting, Spellings, no_spellings, with_scope, begins_body, spelled_first, is_covered, are_covered, ProgramsAreCovered}
use Rattle.mini_shrink.proofs.Debts.{Debt, of, of_body, owed, may_owe, slot_owes, is_body, handles, is_no_branch, may_be_alone, may_be_alone_slot, parts, owes_little, is_settled, is_settled_slot, are_settled, holds_nothing, holds_nothing_slot, settles, slots_settle}
use Rattle.mini_shrink.proofs.Either.{not_true, refuted, of_either, of_either_if}
use Rattle.mini_shrink.proofs.Provided.{SpellsAs, Owes, Provided, ProvidedBy, begun, zero_number, provided}
use Rattle.mini_shrink.proofs.Silence.{slot_holds, silent}
use Rattle.mini_shrink.proofs.Spelled.{in_first, in_second, Spells, still_spelled, less_spelled}

-- ---- a node's own name

all_spelled : (spells : Spellings) (v : Bool) (xs : List Name) → Spells spells v xs → list_all (λ x. spells v x.spelling) xs ≡ true
all_spelled spells v [] f = refl
all_spelled spells v (x ∷ xs) f =
    both (spells v x.spelling) (list_all (λ y. spells v y.spelling) xs) (f x.spelling (ap (λ b. b || is_spelled x.spelling xs) (text_itself x.spelling)))
    (all_spelled spells v xs (λ s e. f s (or_second (same_text x.spelling s) (is_spelled s xs) e)))

own_covered : (u : Use) (spells : Spellings) (h : Shape) (xs : List Name) (n : ℕ) (ts : Trees) → Owes u spells (node h xs n ts) → list_all (λ x. spells (is_hoisting u) x.spelling) (bound_at h xs) ≡ true
unfolding names_of
own_covered u spells shape.BindingIdentifier xs n ts f = all_spelled spells (is_hoisting u) xs (f (of declared.Bound))
own_covered u spells h xs n ts f = refl

-- ---- how a child is used

hoisted_not_alone : (u : Use) → is_alone (hoisted_by u) ≡ true → ⊥
hoisted_not_alone Write e = true≢false (sym e)
hoisted_not_alone u e = true≢false (sym e)

-- a child that stands alone does so by its node, or its node hands on how it is used
alone_by : (u : Use) (h : Shape) (i : ℕ) → is_alone (use_of h u i) ≡ true → (is_alone (use_of h Read i) ≡ true) ⊎ ((is_no_branch h ≡ true) × (is_alone u ≡ true))
alone_by u shape.Listed i e = inr (refl, e)
alone_by u shape.ObjectPattern i e = inr (refl, e)
alone_by u shape.ArrayPattern i e = inr (refl, e)
alone_by u (shape.BindingProperty shorthand computed) i e = inr (refl, e)
alone_by u shape.RestElement i e = inr (refl, e)
alone_by u shape.ImportSpecifier i e = inr (refl, e)
alone_by u shape.ImportDefaultSpecifier i e = inr (refl, e)
alone_by u shape.ImportNamespaceSpecifier i e = inr (refl, e)
alone_by u shape.AssignmentPattern i e = inr (refl, e)
alone_by u shape.ObjectAssignmentTarget i e = inr (refl, e)
alone_by u shape.ArrayAssignmentTarget i e = inr (refl, e)
alone_by u shape.AssignmentTargetPropertyIdentifier i e = inr (refl, e)
alone_by u (shape.AssignmentTargetPropertyProperty computed) i e = inr (refl, e)
alone_by u shape.VariableDeclarator zero e = inr (refl, e)
alone_by u shape.VariableDeclarator (suc i) e = inl e
alone_by u (shape.VariableDeclaration Var) i e = absurd (hoisted_not_alone u e)
alone_by u (shape.VariableDeclaration k) i e = inl e
alone_by u (shape.AssignmentExpression Assign) zero e = inl e
alone_by u (shape.AssignmentExpression Assign) (suc i) e = inl e
alone_by u (shape.AssignmentExpression o) zero e = inl e
alone_by u (shape.AssignmentExpression o) (suc i) e = inl e
alone_by u shape.ForInStatement zero e = inl e
alone_by u shape.ForInStatement (suc zero) e = inl e
alone_by u shape.ForInStatement (suc (suc i)) e = inl e
alone_by u shape.ForOfStatement zero e = inl e
alone_by u shape.ForOfStatement (suc zero) e = inl e
alone_by u shape.ForOfStatement (suc (suc i)) e = inl e
alone_by u shape.IfStatement zero e = inl e
alone_by u shape.IfStatement (suc i) e = inl e
alone_by u shape.WhileStatement zero e = inl e
alone_by u shape.WhileStatement (suc i) e = inl e
alone_by u shape.DoWhileStatement zero e = inl e
alone_by u shape.DoWhileStatement (suc i) e = inl e
alone_by u shape.ForStatement zero e = inl e
alone_by u shape.ForStatement (suc zero) e = inl e
alone_by u shape.ForStatement (suc (suc zero)) e = inl e
alone_by u shape.ForStatement (suc (suc (suc i))) e = inl e
alone_by u h i e = inl e

-- ---- what a child owes

pub nothing_owed : (d : Debt) (u : Use) (spells : Spellings) (xs : List Name) → xs ≡ [] → SpellsAs d u spells xs
nothing_owed (of declared.Bound) u spells xs e = λ s f. absurd (true≢false (sym f ∙ ap (is_spelled s) e))
nothing_owed (of declared.Lexical) u spells xs e = λ a s f. absurd (true≢false (sym f ∙ ap (is_spelled s) e))
nothing_owed (of declared.Hoisted) u spells xs e = λ s f. absurd (true≢false (sym f ∙ ap (is_spelled s) e))
nothing_owed of_body u spells xs e = λ s f. absurd (true≢false (sym f ∙ ap (is_spelled s) e))

settled_of : (d : Debt) (h : Shape) (i : ℕ) (s : Slot) → is_settled h i s ≡ true → (handles d h i || not (slot_owes d s)) ≡ true
settled_of (of declared.Bound) h i s e = left (handles (of declared.Bound) h i || not (slot_owes (of declared.Bound) s)) _ e
settled_of (of declared.Lexical) h i s e = left (handles (of declared.Lexical) h i || not (slot_owes (of declared.Lexical) s)) _ (right (handles (of declared.Bound) h i || not (slot_owes (of declared.Bound) s)) _ e)
settled_of (of declared.Hoisted) h i s e =
    left (handles (of declared.Hoisted) h i || not (slot_owes (of declared.Hoisted) s)) _
    (right (handles (of declared.Lexical) h i || not (slot_owes (of declared.Lexical) s)) _ (right (handles (of declared.Bound) h i || not (slot_owes (of declared.Bound) s)) _ e))
settled_of of_body h i s e =
    right (handles (of declared.Hoisted) h i || not (slot_owes (of declared.Hoisted) s)) _
    (right (handles (of declared.Lexical) h i || not (slot_owes (of declared.Lexical) s)) _ (right (handles (of declared.Bound) h i || not (slot_owes (of declared.Bound) s)) _ e))

child_owes : (strict : Bool) (h : Shape) (i : ℕ) (s : Slot) (u : Use) (spells : Spellings) (t : Tree) → is_settled_slot h i s ≡ true → fits strict s t ≡ true → ((d : Debt) → handles d h i ≡ true → SpellsAs d u spells (owed d t)) → Owes u spells t
child_owes strict h i s u spells t k e f d =
    of_either (handles d h i) (not (slot_owes d s)) (SpellsAs d u spells (owed d t)) (f d) (λ g. nothing_owed d u spells (owed d t) (silent strict d s t (slot_holds h i s k) (not_true (slot_owes d s) g) e)) (settled_of d h i s (left (is_settled h i s) _ k))

alone_there : (h : Shape) (i : ℕ) (s : Slot) (u : Use) → is_settled_slot h i s ≡ true → (is_alone u ≡ true → is_alone (use_of h Read i) ≡ true) → is_alone u ≡ true → may_be_alone_slot s ≡ true
alone_there h i s u k f e = by (is_alone (use_of h Read i)) (f e) (left (not (is_alone (use_of h Read i)) || may_be_alone_slot s) _ (right (is_settled h i s) _ k))
  where
    by : (b : Bool) → b ≡ true → (not b || may_be_alone_slot s) ≡ true → may_be_alone_slot s ≡ true
    by true p g = g
    by false p g = absurd (true≢false (sym p))

-- an item of a list owes what the list does
item_owes : (d : Declared) (u : Use) (spells : Spellings) (first : Spellings) (b : Bool) (t : Tree) (ts : Trees) → b ≡ false → SpellsAs (of d) u spells (all_names d (t ▸ ts)) → SpellsAs (of d) u (with_scope (if b then first else spells) []) (names_of d t)
unfolding names_of
item_owes declared.Bound u spells first b t ts e f = still_spelled (if b then first else spells) [] (is_hoisting u) (names_of declared.Bound t) (begun b first spells (is_hoisting u) (names_of declared.Bound t) e (less_spelled spells (is_hoisting u) (all_names declared.Bound (t ▸ ts)) (names_of declared.Bound t) (λ s g. in_first s (names_of declared.Bound t) (all_names declared.Bound ts) g) f))
item_owes declared.Lexical u spells first b t ts e f = λ a. still_spelled (if b then first else spells) [] false (names_of declared.Lexical t) (begun b first spells false (names_of declared.Lexical t) e (less_spelled spells false (all_names declared.Lexical (t ▸ ts)) (names_of declared.Lexical t) (λ s g. in_first s (names_of declared.Lexical t) (all_names declared.Lexical ts) g) (f a)))
item_owes declared.Hoisted u spells first b t ts e f = still_spelled (if b then first else spells) [] true (names_of declared.Hoisted t) (begun b first spells true (names_of declared.Hoisted t) e (less_spelled spells true (all_names declared.Hoisted (t ▸ ts)) (names_of declared.Hoisted t) (λ s g. in_first s (names_of declared.Hoisted t) (all_names declared.Hoisted ts) g) f))

items_owe : (d : Declared) (u : Use) (spells : Spellings) (first : Spellings) (b : Bool) (t : Tree) (ts : Trees) → b ≡ false → SpellsAs (of d) u spells (all_names d (t ▸ ts)) → SpellsAs (of d) u (with_scope (if b then first else spells) []) (all_names d ts)
unfolding names_of
items_owe declared.Bound u spells first b t ts e f = still_spelled (if b then first else spells) [] (is_hoisting u) (all_names declared.Bound ts) (begun b first spells (is_hoisting u) (all_names declared.Bound ts) e (less_spelled spells (is_hoisting u) (all_names declared.Bound (t ▸ ts)) (all_names declared.Bound ts) (λ s g. in_second s (names_of declared.Bound t) (all_names declared.Bound ts) g) f))
items_owe declared.Lexical u spells first b t ts e f = λ a. still_spelled (if b then first else spells) [] false (all_names declared.Lexical ts) (begun b first spells false (all_names declared.Lexical ts) e (less_spelled spells false (all_names declared.Lexical (t ▸ ts)) (all_names declared.Lexical ts) (λ s g. in_second s (names_of declared.Lexical t) (all_names declared.Lexical ts) g) (f a)))
items_owe declared.Hoisted u spells first b t ts e f = still_spelled (if b then first else spells) [] true (all_names declared.Hoisted ts) (begun b first spells true (all_names declared.Hoisted ts) e (less_spelled spells true (all_names declared.Hoisted (t ▸ ts)) (all_names declared.Hoisted ts) (λ s g. in_second s (names_of declared.Hoisted t) (all_names declared.Hoisted ts) g) f))

list_owes : (d : Declared) (u : Use) (spells : Spellings) (xs : List Name) (n : ℕ) (ts : Trees) → Owes u spells (node shape.Listed xs n ts) → SpellsAs (of d) u spells (all_names d ts)
unfolding names_of
list_owes declared.Bound u spells xs n ts f = f (of declared.Bound)
list_owes declared.Lexical u spells xs n ts f = f (of declared.Lexical)
list_owes declared.Hoisted u spells xs n ts f = f (of declared.Hoisted)

as_many : (strict : Bool) (ss : List Slot) (ts : Trees) → fill strict (these ss) ts ≡ true → count ts ≡ length ss
as_many strict [] none e = refl
as_many strict [] (t ▸ ts) e = absurd (true≢false (sym e))
as_many strict (s ∷ ss) none e = absurd (true≢false (sym e))
as_many strict (s ∷ ss) (t ▸ ts) e = ap suc (as_many strict ss ts (right (fits strict s t) (fill strict (these ss) ts) e))

-- ---- the walk

abbrev pub MayBeAlone : Use → Slot → Type 0
MayBeAlone u s = is_alone u ≡ true → may_be_alone_slot s ≡ true

-- what of a node's slots the walk goes on with
abbrev Goes : Bool → Use → Spellings → Shape → ℕ → Trees → Type 0
Goes strict u spells h n ts =
    (ss : List Slot) → are_settled h 0 ss ≡ true → fill strict (these ss) ts ≡ true → ((i : ℕ) → is_alone (use_of h u i) ≡ true → is_alone (use_of h Read i) ≡ true) → ((d : Debt) → ProvidedBy d u spells h n ts)
    → are_covered (opened u h ts) (use_of h u) (begins_body h n) (spelled_first u h n ts) 0 spells ts ≡ true

node_by : (strict : Bool) (c : Class) (u : Use) (spells : Spellings) (h : Shape) (xs : List Name) (n : ℕ) (ts : Trees) (o : Option (List Slot)) → settles c h o ≡ true → fill strict (filling_by o) ts ≡ true → is_whole c h xs n ts ≡ true → MayBeAlone u (one c) → Owes u spells (node h xs n ts) → Goes strict u spells h n ts → is_covered u spells (node h xs n ts) ≡ true
unfolding is_covered
node_by strict c u spells h xs n ts None k e w a f g = absurd (true≢false (sym e))
node_by strict c u spells h xs n ts (Some ss) k e w a f g =
    let m = λ (o : Debt). may_owe o c in
    let tail = right (owes_little m h ss) _ k in
    let settled = left (are_settled h 0 ss) _ tail in
    let last = right (are_settled h 0 ss) _ tail in
    let long = left (nat_le (parts h) (length ss)) _ last in
    let open_there = not_true (is_no_branch h && may_be_alone c) (right (nat_le (parts h) (length ss)) _ last) in
    let fields = right (has_names h xs) _ w in
    let number = left (has_its_number c h n) _ fields in
    let whole = right (has_plain_fields h) (has_its_parts c h ts) (right (has_its_number c h n) _ fields) in
    let branch = λ (b : is_no_branch h ≡ true). refuted (is_alone u) (λ i. true≢false (sym (both (is_no_branch h) (may_be_alone c) b (a i)) ∙ open_there)) in
    let used = λ (i : ℕ) (j : is_alone (use_of h u i) ≡ true). used_so i (alone_by u h i j) branch in
    let enough = ap (nat_le (parts h)) (as_many strict ss ts e) ∙ long in
    both _ _ (own_covered u spells h xs n ts f) (g ss settled e used (λ d. provided d c u spells h xs n ts (record { owes = f; number = number; whole = whole; enough = enough; branch = branch })))
  where
    used_so : (i : ℕ) → (is_alone (use_of h Read i) ≡ true) ⊎ ((is_no_branch h ≡ true) × (is_alone u ≡ true)) → (is_no_branch h ≡ true → is_alone u ≡ false) → is_alone (use_of h Read i) ≡ true
    used_so i (inl e) b = e
    used_so i (inr e) b = absurd (true≢false (sym e.1 ∙ b e.0))

quasi_covered : (u : Use) (spells : Spellings) (g : Tagging) (last : Bool) (t : Tree) → is_quasi g last t ≡ true → is_covered u spells t ≡ true
unfolding is_covered
quasi_covered u spells g last (node h [] n none) e = both _ _ (nothing h) refl
  where
    nothing : (h : Shape) → list_all (λ x. spells (is_hoisting u) x.spelling) (bound_at h []) ≡ true
    nothing shape.BindingIdentifier = refl
    nothing h = refl
quasi_covered u spells g last t e = absurd (true≢false (sym e))

quasis_covered : (scope : ℕ → List Binding) (uses : ℕ → Use) (begins : ℕ → Bool) (first : Spellings) (i : ℕ) (spells : Spellings) (g : Tagging) (ts : Trees) → are_quasis g ts ≡ true → are_covered scope uses begins first i spells ts ≡ true
unfolding is_covered
quasis_covered scope uses begins first i spells g none e = refl
quasis_covered scope uses begins first i spells g (t ▸ none) e = both _ _ (quasi_covered (uses i) (with_scope (if begins i then first else spells) (scope i)) g true t e) refl
quasis_covered scope uses begins first i spells g (t ▸ (v ▸ ts)) e =
    let inner = with_scope (if begins i then first else spells) (scope i) in
    both _ _ (quasi_covered (uses i) inner g false t (left (is_quasi g false t) (are_quasis g (v ▸ ts)) e)) (quasis_covered scope uses begins first (suc i) inner g (v ▸ ts) (right (is_quasi g false t) (are_quasis g (v ▸ ts)) e))

-- an item of a list
item_debts : (u : Use) (spells first : Spellings) (b : Bool) (t : Tree) (ts : Trees) → b ≡ false → ((d : Declared) → SpellsAs (of d) u spells (all_names d (t ▸ ts))) → owed of_body t ≡ [] → Owes u (with_scope (if b then first else spells) []) t
item_debts u spells first b t ts e f g (of d) = item_owes d u spells first b t ts e (f d)
item_debts u spells first b t ts e f g of_body = nothing_owed of_body u (with_scope (if b then first else spells) []) (owed of_body t) g

list_begins : (s : Slot) (xs : List Name) (n : ℕ) (ts : Trees) → is_whole (class_of s) shape.Listed xs n ts ≡ true → (i : ℕ) → begins_body shape.Listed n i ≡ false
list_begins s xs n ts w i =
    let number = left (has_its_number (class_of s) shape.Listed n) _ (right (has_names shape.Listed xs) _ w) in
    ap (λ m. begins_body shape.Listed m i) (zero_number (class_of s) shape.Listed n number refl)

never : (u : Use) → (is_alone u ≡ true → false ≡ true) → (s : Slot) → MayBeAlone u s
never u f s e = absurd (true≢false (sym (f e)))

mutual
  unfolding is_covered scopes_by names_of

  pub covered : (strict : Bool) (s : Slot) (u : Use) (spells : Spellings) (t : Tree) → holds_nothing_slot s ≡ true → fits strict s t ≡ true → MayBeAlone u s → Owes u spells t → is_covered u spells t ≡ true
  covered strict (one c) u spells (node h xs n ts) l e a f =
      node_by (is_strict_in strict h) c u spells h xs n ts (slots_of strict c h) (slots_settle strict c h l) (right (is_whole c h xs n ts) (fill (is_strict_in strict h) (filling_by (slots_of strict c h)) ts) e) (left (is_whole c h xs n ts) _ e) a f
      (λ ss k g p q. children_covered (is_strict_in strict h) h (opened u h ts) (use_of h u) (begins_body h n) (spelled_first u h n ts) 0 spells ss ts k g p q)
  covered strict (one_or_absent c) u spells (node shape.Absent xs n none) l e a f = refl
  covered strict (one_or_absent c) u spells (node shape.Absent xs n (t ▸ ts)) l e a f = absurd (true≢false (sym (right (is_whole c shape.Absent xs n (t ▸ ts)) false e)))
  covered strict (one_or_absent c) u spells (node h xs n ts) l e a f =
      node_by (is_strict_in strict h) c u spells h xs n ts (slots_of strict c h) (slots_settle strict c h l) (right (is_whole c h xs n ts) (fill (is_strict_in strict h) (filling_by (slots_of strict c h)) ts) e) (left (is_whole c h xs n ts) _ e) a f
      (λ ss k g p q. children_covered (is_strict_in strict h) h (opened u h ts) (use_of h u) (begins_body h n) (spelled_first u h n ts) 0 spells ss ts k g p q)
  covered strict (many c) u spells (node shape.Listed xs n ts) l e a f =
      each_covered strict (one c) u (begins_body shape.Listed n) (spelled_first u shape.Listed n ts) 0 spells ts (left (holds_nothing c) _ l) (not_true (is_body c) (right (holds_nothing c) _ l)) (right (is_whole c shape.Listed xs n ts) (fill strict (each (one c)) ts) e) (list_begins (many c) xs n ts (left (is_whole c shape.Listed xs n ts) _ e)) a (λ d. list_owes d u spells xs n ts f)
  covered strict (many_or_holes c) u spells (node shape.Listed xs n ts) l e a f =
      each_covered strict (one_or_absent c) u (begins_body shape.Listed n) (spelled_first u shape.Listed n ts) 0 spells ts (left (holds_nothing c) _ l) (not_true (is_body c) (right (holds_nothing c) _ l)) (right (is_whole c shape.Listed xs n ts) (fill strict (each (one_or_absent c)) ts) e) (list_begins (many_or_holes c) xs n ts (left (is_whole c shape.Listed xs n ts) _ e)) a (λ d. list_owes d u spells xs n ts f)
  covered strict (many_and_rest c rest) u spells (node shape.Listed xs n ts) l e a f =
      let first = left (holds_nothing c && not (is_body c)) _ l in
      let last = right (holds_nothing c && not (is_body c)) _ l in
      each_or_last_covered strict (one c) (one rest) u (begins_body shape.Listed n) (spelled_first u shape.Listed n ts) 0 spells ts (left (holds_nothing c) _ first) (not_true (is_body c) (right (holds_nothing c) _ first)) (left (holds_nothing rest) _ last) (not_true (is_body rest) (right (holds_nothing rest) _ last)) (right (is_whole c shape.Listed xs n ts) (fill strict (each_or_last (one c) (one rest)) ts) e) (list_begins (many_and_rest c rest) xs n ts (left (is_whole c shape.Listed xs n ts) _ e)) a (λ d. list_owes d u spells xs n ts f)
  covered strict (many_or_holes_and_rest c rest) u spells (node shape.Listed xs n ts) l e a f =
      let first = left (holds_nothing c && not (is_body c)) _ l in
      let last = right (holds_nothing c && not (is_body c)) _ l in
      each_or_last_covered strict (one_or_absent c) (one rest) u (begins_body shape.Listed n) (spelled_first u shape.Listed n ts) 0 spells ts (left (holds_nothing c) _ first) (not_true (is_body c) (right (holds_nothing c) _ first)) (left (holds_nothing rest) _ last) (not_true (is_body rest) (right (holds_nothing rest) _ last)) (right (is_whole c shape.Listed xs n ts) (fill strict (each_or_last (one_or_absent c) (one rest)) ts) e) (list_begins (many_or_holes_and_rest c rest) xs n ts (left (is_whole c shape.Listed xs n ts) _ e)) a (λ d. list_owes d u spells xs n ts f)
  covered strict (quasis g) u spells (node shape.Listed xs n none) l e a f = refl
  covered strict (quasis g) u spells (node shape.Listed xs n (t ▸ ts)) l e a f = quasis_covered (opened u shape.Listed (t ▸ ts)) (use_of shape.Listed u) (begins_body shape.Listed n) (spelled_first u shape.Listed n (t ▸ ts)) 0 spells g (t ▸ ts) (right (is_whole (class_of (quasis g)) shape.Listed xs n (t ▸ ts)) (are_quasis g (t ▸ ts)) e)
  covered strict s u spells (node h xs n ts) l e a f = absurd (refused_here strict s h xs n ts refl e)

  children_covered : (strict : Bool) (h : Shape) (scope : ℕ → List Binding) (uses : ℕ → Use) (begins : ℕ → Bool) (first : Spellings) (i : ℕ) (spells : Spellings) (ss : List Slot) (ts : Trees) → are_settled h i ss ≡ true → fill strict (these ss) ts ≡ true
      → ((j : ℕ) → is_alone (uses j) ≡ true → is_alone (use_of h Read j) ≡ true) → ((d : Debt) → Provided d h scope uses begins first i spells ts) → are_covered scope uses begins first i spells ts ≡ true
  children_covered strict h scope uses begins first i spells ss none k e p q = refl
  children_covered strict h scope uses begins first i spells [] (t ▸ ts) k e p q = absurd (true≢false (sym e))
  children_covered strict h scope uses begins first i spells (s ∷ ss) (t ▸ ts) k e p q =
      let inner = with_scope (if begins i then first else spells) (scope i) in
      let here = left (is_settled_slot h i s) (are_settled h (suc i) ss) k in
      let own = left (fits strict s t) (fill strict (these ss) ts) e in
      both (is_covered (uses i) inner t) (are_covered scope uses begins first (suc i) inner ts) (covered strict s (uses i) inner t (slot_holds h i s here) own (alone_there h i s (uses i) here (p i)) (child_owes strict h i s (uses i) inner t here own (λ d. (q d).0)))
      (children_covered strict h scope uses begins first (suc i) inner ss ts (right (is_settled_slot h i s) (are_settled h (suc i) ss) k) (right (fits strict s t) (fill strict (these ss) ts) e) p (λ d. (q d).1))

  each_covered : (strict : Bool) (s : Slot) (u : Use) (begins : ℕ → Bool) (first : Spellings) (i : ℕ) (spells : Spellings) (ts : Trees) → holds_nothing_slot s ≡ true → slot_owes of_body s ≡ false → fill strict (each s) ts ≡ true → ((j : ℕ) → begins j ≡ false) → (is_alone u ≡ true → false ≡ true) → ((d : Declared) → SpellsAs (of d) u spells (all_names d ts)) → are_covered (λ j. []) (λ j. u) begins first i spells ts ≡ true
  each_covered strict s u begins first i spells none l k e b a f = refl
  each_covered strict s u begins first i spells (t ▸ ts) l k e b a f =
      let inner = with_scope (if begins i then first else spells) [] in
      let own = left (fits strict s t) (fill strict (each s) ts) e in
      both (is_covered u inner t) (are_covered (λ j. []) (λ j. u) begins first (suc i) inner ts) (covered strict s u inner t l own (never u a s) (item_debts u spells first (begins i) t ts (b i) f (silent strict of_body s t l k own)))
      (each_covered strict s u begins first (suc i) inner ts l k (right (fits strict s t) (fill strict (each s) ts) e) b a (λ d. items_owe d u spells first (begins i) t ts (b i) (f d)))

  each_or_last_covered : (strict : Bool) (s r : Slot) (u : Use) (begins : ℕ → Bool) (first : Spellings) (i : ℕ) (spells : Spellings) (ts : Trees) → holds_nothing_slot s ≡ true → slot_owes of_body s ≡ false → holds_nothing_slot r ≡ true → slot_owes of_body r ≡ false → fill strict (each_or_last s r) ts ≡ true → ((j : ℕ) → begins j ≡ false) → (is_alone u ≡ true → false ≡ true) → ((d : Declared) → SpellsAs (of d) u spells (all_names d ts)) → are_covered (λ j. []) (λ j. u) begins first i spells ts ≡ true
  each_or_last_covered strict s r u begins first i spells none l k m o e b a f = refl
  each_or_last_covered strict s r u begins first i spells (t ▸ ts) l k m o e b a f =
      let inner = with_scope (if begins i then first else spells) [] in
      let own = left (fits strict s t || (is_last ts && fits strict r t)) (fill strict (each_or_last s r) ts) e in
      let debts = item_debts u spells first (begins i) t ts (b i) f (of_either_if (fits strict s t) (is_last ts) (fits strict r t) (owed of_body t ≡ []) (silent strict of_body s t l k) (silent strict of_body r t m o) own) in
      both (is_covered u inner t) (are_covered (λ j. []) (λ j. u) begins first (suc i) inner ts) (of_either_if (fits strict s t) (is_last ts) (fits strict r t) (is_covered u inner t ≡ true) (λ g. covered strict s u inner t l g (never u a s) debts) (λ g. covered strict r u inner t m g (never u a r) debts) own)
      (each_or_last_covered strict s r u begins first (suc i) inner ts l k m o (right (fits strict s t || (is_last ts && fits strict r t)) (fill strict (each_or_last s r) ts) e) b a (λ d. items_owe d u spells first (begins i) t ts (b i) (f d)))

-- a program owes nothing
program_owes : (d : Debt) (t : Tree) → fits false (one a_program) t ≡ true → owed d t ≡ []
program_owes (of declared.Bound) t e = silent false (of declared.Bound) (one a_program) t refl refl e
program_owes (of declared.Lexical) t e = silent false (of declared.Lexical) (one a_program) t refl refl e
program_owes (of declared.Hoisted) t e = silent false (of declared.Hoisted) (one a_program) t refl refl e
program_owes of_body t e = silent false of_body (one a_program) t refl refl e

pub programs_are_covered : ProgramsAreCovered
programs_are_covered t e = covered false (one a_program) Read no_spellings t refl e (λ a. absurd (true≢false (sym a))) (λ d. nothing_owed d Read no_spellings (owed d t) (program_owes d t e))

-- a part of a program is covered by what spells the names that it declares around it
pub part_covered : (strict : Bool) (p : Slot) (u : Use) (spells : Spellings) (t : Tree) → holds_nothing_slot p ≡ true → fits strict p t ≡ true → (is_alone u ≡ true → may_be_alone_slot p ≡ true) → is_function_body t ≡ false
    → Spells spells (is_hoisting u) (names_of declared.Bound t) → (is_alone u ≡ false → Spells spells false (names_of declared.Lexical t)) → Spells spells true (names_of declared.Hoisted t) → is_covered u spells t ≡ true
part_covered strict p u spells t l e a n f g k = covered strict p u spells t l e a owes
  where
    no_body : (t : Tree) → is_function_body t ≡ false → owed of_body t ≡ []
    no_body (node shape.FunctionBody xs n ts) e = absurd (true≢false e)
    no_body (node h xs n ts) e = refl

    owes : Owes u spells t
    owes (of declared.Bound) = f
    owes (of declared.Lexical) = g
    owes (of declared.Hoisted) = k
    owes of_body = nothing_owed of_body u spells (owed of_body t) (no_body t n)
