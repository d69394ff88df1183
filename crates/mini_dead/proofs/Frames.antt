-- The frames of nodes with a number, once dead items are gone.
use Rattle.std.proofs.Common.{◌≡◌, ℕ, zero, suc, Bool, true, false, List, [], ◌∷◌, ◌++◌, Option, Some, None, refl, sym, ap, ◌∙◌, subst, subst₂, true≢false, inl, inr, arith}
use Rattle.std.specs.Prelude.{◌⊎◌, Contains, ◌==◌, ◌&&◌, ◌||◌}
use Rattle.std.proofs.Math.Dec.{eqb-suc-zero}
use Rattle.std.proofs.lemmas.List.Elements.{Contains-append_left, Contains-append_right, Contains-append_cases}
use Rattle.mini_model.specs.declared.kind.PropertyKind.{PropertyKind}
use Rattle.mini_model.specs.declared.kind.VariableDeclarationKind.{VariableDeclarationKind}
use Rattle.mini_model.specs.declared.kind.VariableDeclarationKind.TheVariants.{Var}
use Rattle.mini_model.specs.declared.name.Name.{Name}
use Rattle.mini_model.specs.declared.shape.Shape.{Shape}
use Rattle.mini_model.specs.declared.shape.Shape.TheVariants as shape
use Rattle.mini_model.specs.Tree.{Tree, Trees, node, none, ◌▸◌, absent}
use Rattle.mini_laws.specs.declared.names.Declared.TheVariants as declared
use Rattle.mini_laws.specs.declared.names.Place.{Place}
use Rattle.mini_laws.specs.DeclaredNames.{place_of, names_by, names_of, first_names, all_names, body_names}
use Rattle.mini_laws.specs.Value.{VariableSet}
use Rattle.mini_accept.specs.WellShaped.{Class, a_statement, an_init, a_loop_left, a_declarator, an_exported_declaration, a_default_export, a_key, a_private_or_key, an_inner_key, Slot, one, one_or_absent, Filling, refused, these, each, each_or_last, pieces, filling, filling_by, class_of, slots_of, is_whole, is_strict_in, is_last, fits, fill, a_program, IsWellShaped}
use Rattle.mini_kept.specs.SameNames.{is_among}
use Rattle.mini_kept.specs.Frames.{Showing, Whole, Named, Hidden, showing, in_full, keyed, part, parts, declaration, shown, shown_from, own, outline, globals, Frame, property_below, frame_of, frames, frames_from, frames_in}
use Rattle.mini_kept.proofs.Bools.{left, right}
use Rattle.mini_kept.proofs.FrameSteps.{its_number}
use Rattle.mini_kept.proofs.FramePlaces.{Are, is_part_slot, shows_right, Outlined, of_static_block, own_right, part_right, numbered_outline}
use Rattle.mini_dead.specs.Pruned.{Spot, Elsewhere, Role, Plain, role, spot_below, lone_tree, initializer_tree, own_name, Declarator, declarator, declarator_tree, declarator_trees, Item, function_item, declaration_item, lone_item, item_tree, Pruned, prune, Prunings, end, stays, goes, declarator_goes, earlier, earlier_all, later, later_all, HoldsItems, HoldsDeclarators}
use Rattle.mini_dead.specs.Drops.{gone, DropsDead, AllDropDead, Drops, nothing_goes, more_goes}
use Rattle.mini_dead.specs.Frames as law
use Rattle.mini_dead.proofs.Shapes.{drops_keep_shape, AllStay, all_stay, quasis_first, pieces_same, item_no_piece, declarator_no_piece}

-- ---- no item is a part of a frame

-- a class that is a part of a frame has no place for a node of a shape
abbrev NoPart : Shape → Type 0
NoPart h = (strict : Bool) (c : Class) → is_part_slot (one c) ≡ true → slots_of strict c h ≡ None

no_function : (g : Bool) (ds : List (List ℕ)) → NoPart (shape.Function true g ds)
no_function g ds strict (a_statement d) e = absurd (true≢false (sym e))
no_function g ds strict an_exported_declaration e = absurd (true≢false (sym e))
no_function g ds strict a_default_export e = absurd (true≢false (sym e))
no_function g ds strict (a_key true) e = refl
no_function g ds strict (a_key false) e = refl
no_function g ds strict (a_private_or_key true) e = refl
no_function g ds strict (a_private_or_key false) e = refl
no_function g ds strict (an_inner_key true) e = refl
no_function g ds strict (an_inner_key false) e = refl
no_function g ds strict c e = refl

no_variables : (k : VariableDeclarationKind) → NoPart (shape.VariableDeclaration k)
no_variables k strict (a_statement d) e = absurd (true≢false (sym e))
no_variables k strict an_init e = absurd (true≢false (sym e))
no_variables k strict (a_loop_left b) e = absurd (true≢false (sym e))
no_variables k strict an_exported_declaration e = absurd (true≢false (sym e))
no_variables k strict (a_key true) e = refl
no_variables k strict (a_key false) e = refl
no_variables k strict (a_private_or_key true) e = refl
no_variables k strict (a_private_or_key false) e = refl
no_variables k strict (an_inner_key true) e = refl
no_variables k strict (an_inner_key false) e = refl
no_variables k strict c e = refl

no_statement : NoPart shape.ExpressionStatement
no_statement strict (a_statement d) e = absurd (true≢false (sym e))
no_statement strict (a_key true) e = refl
no_statement strict (a_key false) e = refl
no_statement strict (a_private_or_key true) e = refl
no_statement strict (a_private_or_key false) e = refl
no_statement strict (an_inner_key true) e = refl
no_statement strict (an_inner_key false) e = refl
no_statement strict c e = refl

no_declarator : NoPart shape.VariableDeclarator
no_declarator strict a_declarator e = absurd (true≢false (sym e))
no_declarator strict (a_statement d) e = absurd (true≢false (sym e))
no_declarator strict (a_key true) e = refl
no_declarator strict (a_key false) e = refl
no_declarator strict (a_private_or_key true) e = refl
no_declarator strict (a_private_or_key false) e = refl
no_declarator strict (an_inner_key true) e = refl
no_declarator strict (an_inner_key false) e = refl
no_declarator strict c e = refl

refuses : (strict : Bool) (o : Option (List Slot)) (ts : Trees) → o ≡ None → fill strict (filling_by o) ts ≡ true → ⊥
refuses strict None ts p e = true≢false (sym e)
refuses strict (Some ss) ts p e = cc

item_no_part : (strict : Bool) (s : Slot) (i : Item) → is_part_slot s ≡ true → fits strict s (item_tree i) ≡ true → ⊥
item_no_part strict (one c) (function_item g ds xs n x m ts) q e = refuses (is_strict_in strict (shape.Function true g ds)) (slots_of strict c (shape.Function true g ds)) (own_name x m ▸ ts) (no_function g ds strict c q) (right (is_whole c (shape.Function true g ds) xs n (own_name x m ▸ ts)) _ e)
item_no_part strict (one_or_absent c) (function_item g ds xs n x m ts) q e = refuses (is_strict_in strict (shape.Function true g ds)) (slots_of strict c (shape.Function true g ds)) (own_name x m ▸ ts) (no_function g ds strict c q) (right (is_whole c (shape.Function true g ds) xs n (own_name x m ▸ ts)) _ e)
item_no_part strict s (function_item g ds xs n x m ts) q e = true≢false (sym (right (is_whole (class_of s) (shape.Function true g ds) xs n (own_name x m ▸ ts)) _ e))
item_no_part strict (one c) (declaration_item k xs n ys m d ds) q e = refuses strict (slots_of strict c (shape.VariableDeclaration k)) (node shape.Listed ys m (declarator_trees (d ∷ ds)) ▸ none) (no_variables k strict c q) (right (is_whole c (shape.VariableDeclaration k) xs n (node shape.Listed ys m (declarator_trees (d ∷ ds)) ▸ none)) _ e)
item_no_part strict (one_or_absent c) (declaration_item k xs n ys m d ds) q e = refuses strict (slots_of strict c (shape.VariableDeclaration k)) (node shape.Listed ys m (declarator_trees (d ∷ ds)) ▸ none) (no_variables k strict c q) (right (is_whole c (shape.VariableDeclaration k) xs n (node shape.Listed ys m (declarator_trees (d ∷ ds)) ▸ none)) _ e)
item_no_part strict s (declaration_item k xs n ys m d ds) q e = true≢false (sym (right (is_whole (class_of s) (shape.VariableDeclaration k) xs n (node shape.Listed ys m (declarator_trees (d ∷ ds)) ▸ none)) _ e))
item_no_part strict (one c) (lone_item xs n f) q e = refuses strict (slots_of strict c shape.ExpressionStatement) (lone_tree f ▸ none) (no_statement strict c q) (right (is_whole c shape.ExpressionStatement xs n (lone_tree f ▸ none)) _ e)
item_no_part strict (one_or_absent c) (lone_item xs n f) q e = refuses strict (slots_of strict c shape.ExpressionStatement) (lone_tree f ▸ none) (no_statement strict c q) (right (is_whole c shape.ExpressionStatement xs n (lone_tree f ▸ none)) _ e)
item_no_part strict s (lone_item xs n f) q e = true≢false (sym (right (is_whole (class_of s) shape.ExpressionStatement xs n (lone_tree f ▸ none)) _ e))

declarator_no_part : (strict : Bool) (s : Slot) (c : Declarator) → is_part_slot s ≡ true → fits strict s (declarator_tree c) ≡ true → ⊥
declarator_no_part strict (one c) (declarator n x m i) q e = refuses strict (slots_of strict c shape.VariableDeclarator) (own_name x m ▸ initializer_tree i ▸ none) (no_declarator strict c q) (right (is_whole c shape.VariableDeclarator [] n (own_name x m ▸ initializer_tree i ▸ none)) _ e)
declarator_no_part strict (one_or_absent c) (declarator n x m i) q e = refuses strict (slots_of strict c shape.VariableDeclarator) (own_name x m ▸ initializer_tree i ▸ none) (no_declarator strict c q) (right (is_whole c shape.VariableDeclarator [] n (own_name x m ▸ initializer_tree i ▸ none)) _ e)
declarator_no_part strict s (declarator n x m i) q e = true≢false (sym (right (is_whole (class_of s) shape.VariableDeclarator [] n (own_name x m ▸ initializer_tree i ▸ none)) _ e))

either_slot : (a b : Bool) (P : Type 0) → (a || b) ≡ true → (a ≡ true → P) → (b ≡ true → P) → P
either_slot true b P e f g = f refl
either_slot false b P e f g = g e

-- ---- frames that are among others, but for a program's

abbrev Among : List Frame → List Frame → Type 0
Among fs gs = (f : Frame) → (f.number ≡ 0 → ⊥) → Contains gs f → Contains fs f

none_among : (fs : List Frame) → Among fs []
none_among fs f z (i, less, at) = absurd (omega (arith, less))

all_among : (fs : List Frame) → Among fs fs
all_among fs f z m = m

both_among : (fs gs hs ks : List Frame) → Among fs hs → Among gs ks → Among (fs ++ gs) (hs ++ ks)
both_among fs gs hs ks a b f z m = by (Contains-append_cases hs ks f m)
  where
    by : Contains hs f ⊎ Contains ks f → Contains (fs ++ gs) f
    by (inl c) = Contains-append_left fs gs f (a f z c)
    by (inr c) = Contains-append_right fs gs f (b f z c)

skip_among : (fs gs hs : List Frame) → Among gs hs → Among (fs ++ gs) hs
skip_among fs gs hs a f z m = Contains-append_right fs gs f (a f z m)

is_zero : (n : ℕ) → (n == 0) ≡ true → n ≡ 0
is_zero zero e = refl
is_zero (suc n) e = absurd (true≢false (sym e ∙ eqb-suc-zero n))

unnumbered : (k : Option PropertyKind) (h : Shape) (n : ℕ) → n ≡ 0 → (o o' : Tree) (xs ys : List Name) → Among (frame_of k h n o xs) (frame_of k h n o' ys)
unnumbered k (shape.Program m ds) n e o o' xs ys f z (zero, less, at) = absurd (z (sym (ap (λ f. f.number) at) ∙ e))
unnumbered k (shape.Program m ds) n e o o' xs ys f z (suc i, less, at) = absurd (omega (arith, less))
unnumbered k h zero e o o' xs ys f z m = none_among [] f z m
unnumbered k h (suc n) e o o' xs ys f z m = absurd (omega (arith, e))

moved : (κ : ℕ → Option PropertyKind) (i j : ℕ) → (i ≡ j) ⊎ ((i j : ℕ) → κ i ≡ κ j) → κ i ≡ κ j
moved κ i j (inl e) = ap κ e
moved κ i j (inr f) = f i j

next : (κ : ℕ → Option PropertyKind) (i j : ℕ) → (i ≡ j) ⊎ ((i j : ℕ) → κ i ≡ κ j) → (suc i ≡ suc j) ⊎ ((i j : ℕ) → κ i ≡ κ j)
next κ i j (inl e) = inl (ap suc e)
next κ i j (inr f) = inr f

shifted : (κ : ℕ → Option PropertyKind) (i j : ℕ) → (i ≡ j) ⊎ ((i j : ℕ) → κ i ≡ κ j) → (ts : Trees) → Among (frames_from κ i ts) (frames_from κ j ts)
shifted κ i j m none = none_among []
shifted κ i j m (t ▸ ts) = both_among (frames (κ i) t) (frames_from κ (suc i) ts) (frames (κ j) t) (frames_from κ (suc j) ts) (subst (λ k. Among (frames (κ i) t) (frames k t)) (moved κ i j m) (all_among (frames (κ i) t))) (shifted κ (suc i) (suc j) (next κ i j m) ts)

items_at : (h : Shape) (q : Spot) → HoldsItems (role h q) → (i j : ℕ) → property_below h i ≡ property_below h j
items_at shape.Listed q a i j = refl
items_at (shape.VariableDeclaration k) q a i j = refl
items_at shape.SwitchCase q a i j = refl
items_at h q a i j = absurd a

declarators_at : (h : Shape) (q : Spot) → HoldsDeclarators (role h q) → (i j : ℕ) → property_below h i ≡ property_below h j
declarators_at shape.Listed q a i j = refl
declarators_at (shape.VariableDeclaration k) q a i j = refl
declarators_at shape.SwitchCase q a i j = refl
declarators_at h q a i j = absurd a

module _ (t : Tree) (D : VariableSet) (rounds : ℕ → ℕ) where
  abbrev Drop : Spot → Pruned → Type 0
  Drop q x = DropsDead t D rounds q x

  abbrev AllDrop : Role → ℕ → Prunings → Type 0
  AllDrop r i ps = AllDropDead t D rounds r i ps

  abbrev Parts : ℕ → Filling → Type 0
  Parts j f = Are (λ j r. is_part_slot r ≡ true) j f

  mutual
    part_same : (strict : Bool) (s : Slot) (q : Spot) (x : Pruned) → Drop q x → is_part_slot s ≡ true → fits strict s (earlier x) ≡ true → part (earlier x) ≡ part (later x)
    part_same strict s q (prune h xs (suc n) ps) a p e = refl
    part_same strict s q (prune h xs zero ps) a p e =
        ap (λ us. node (in_full h) xs 0 (keyed h us)) (parts_same (is_strict_in strict h) (filling strict s h) (role h q) 0 0 ps a.1
        (part_right strict s h p (its_number (class_of s) h xs 0 (earlier_all ps) (fill (is_strict_in strict h) (filling strict s h) (earlier_all ps)) e)) (right (is_whole (class_of s) h xs 0 (earlier_all ps)) _ e))

    parts_same : (strict : Bool) (f : Filling) (r : Role) (i j : ℕ) (ps : Prunings) → AllDrop r i ps → Parts j f → fill strict f (earlier_all ps) ≡ true → parts (earlier_all ps) ≡ parts (later_all ps)
    parts_same strict f r i j end a p e = refl
    parts_same strict refused r i j ps a p e = absurd (true≢false (sym e))
    parts_same strict (these []) r i j (stays x ps) a p e = absurd (true≢false (sym e))
    parts_same strict (these []) r i j (goes c ps) a p e = absurd (true≢false (sym e))
    parts_same strict (these []) r i j (declarator_goes c ps) a p e = absurd (true≢false (sym e))
    parts_same strict (these (s ∷ ss)) r i j (stays x ps) a p e =
        ap (λ u. u ▸ parts (earlier_all ps)) (part_same strict s (spot_below r i) x a.0 p.0 (left (fits strict s (earlier x)) _ e)) ∙ ap (λ us. part (later x) ▸ us) (parts_same strict (these ss) r (suc i) (suc j) ps a.1 p.1 (right (fits strict s (earlier x)) _ e))
    parts_same strict (these (s ∷ ss)) r i j (goes c ps) a p e = absurd (item_no_part strict s c p.0 (left (fits strict s (item_tree c)) _ e))
    parts_same strict (these (s ∷ ss)) r i j (declarator_goes c ps) a p e = absurd (declarator_no_part strict s c p.0 (left (fits strict s (declarator_tree c)) _ e))
    parts_same strict (each s) r i j (stays x ps) a p e =
        ap (λ u. u ▸ parts (earlier_all ps)) (part_same strict s (spot_below r i) x a.0 (p 0) (left (fits strict s (earlier x)) _ e)) ∙ ap (λ us. part (later x) ▸ us) (parts_same strict (each s) r (suc i) j ps a.1 p (right (fits strict s (earlier x)) _ e))
    parts_same strict (each s) r i j (goes c ps) a p e = absurd (item_no_part strict s c (p 0) (left (fits strict s (item_tree c)) _ e))
    parts_same strict (each s) r i j (declarator_goes c ps) a p e = absurd (declarator_no_part strict s c (p 0) (left (fits strict s (declarator_tree c)) _ e))
    parts_same strict (each_or_last s l) r i j (stays x ps) a p e =
        ap (λ u. u ▸ parts (earlier_all ps)) (either_slot (fits strict s (earlier x)) (is_last (earlier_all ps) && fits strict l (earlier x)) (part (earlier x) ≡ part (later x)) (left (fits strict s (earlier x) || (is_last (earlier_all ps) && fits strict l (earlier x))) _ e) (λ z. part_same strict s (spot_below r i) x a.0 (p 0).0 z) (λ z. part_same strict l (spot_below r i) x a.0 (p 0).1 (right (is_last (earlier_all ps)) _ z)))
        ∙ ap (λ us. part (later x) ▸ us) (parts_same strict (each_or_last s l) r (suc i) j ps a.1 p (right (fits strict s (earlier x) || (is_last (earlier_all ps) && fits strict l (earlier x))) _ e))
    parts_same strict (each_or_last s l) r i j (goes c ps) a p e = absurd (either_slot (fits strict s (item_tree c)) (is_last (earlier_all ps) && fits strict l (item_tree c)) ⊥ (left (fits strict s (item_tree c) || (is_last (earlier_all ps) && fits strict l (item_tree c))) _ e) (λ z. item_no_part strict s c (p 0).0 z) (λ z. item_no_part strict l c (p 0).1 (right (is_last (earlier_all ps)) _ z)))
    parts_same strict (each_or_last s l) r i j (declarator_goes c ps) a p e = absurd (either_slot (fits strict s (declarator_tree c)) (is_last (earlier_all ps) && fits strict l (declarator_tree c)) ⊥ (left (fits strict s (declarator_tree c) || (is_last (earlier_all ps) && fits strict l (declarator_tree c))) _ e) (λ z. declarator_no_part strict s c (p 0).0 z) (λ z. declarator_no_part strict l c (p 0).1 (right (is_last (earlier_all ps)) _ z)))
    parts_same strict (pieces g) r i j (stays x ps) a p e = ap parts (sym (pieces_same t D rounds g (stays x ps) e))
    parts_same strict (pieces g) r i j (goes c ps) a p e = let first = quasis_first t D rounds g (item_tree c) (earlier_all ps) e in absurd (item_no_piece g first.0 c first.1)
    parts_same strict (pieces g) r i j (declarator_goes c ps) a p e = let first = quasis_first t D rounds g (declarator_tree c) (earlier_all ps) e in absurd (declarator_no_piece g first.0 c first.1)

  -- ---- the names of a declaration that is exported

  by_place : (p : Place) (xs a b c d e f : List Name) → a ≡ b → c ≡ d → e ≡ f → names_by p xs a c e ≡ names_by p xs b d f
  by_place p xs a b c d e f u v w = ap (λ z. names_by p xs z c e) u ∙ ap (λ z. names_by p xs b z e) v ∙ ap (names_by p xs b d) w

  mutual
    unfolding names_of

    bound_same : (x : Pruned) → Drop Elsewhere x → names_of declared.Bound (earlier x) ≡ names_of declared.Bound (later x)
    bound_same (prune (shape.Program m ds) xs n ps) a = refl
    bound_same (prune shape.FunctionBody xs n ps) a = refl
    bound_same (prune shape.StaticBlock xs n ps) a = refl
    bound_same (prune shape.BlockStatement xs n ps) a = refl
    bound_same (prune shape.SwitchStatement xs n ps) a = refl
    bound_same (prune h xs n ps) a =
        by_place (place_of declared.Bound h) xs (first_names (earlier_all ps)) (first_names (later_all ps)) (all_names declared.Bound (earlier_all ps)) (all_names declared.Bound (later_all ps)) (all_names declared.Bound (earlier_all ps)) (all_names declared.Bound (later_all ps)) (first_same 0 ps a.1) (all_bound_same 0 ps a.1) (all_bound_same 0 ps a.1)

    first_same : (i : ℕ) (ps : Prunings) → AllDrop Plain i ps → first_names (earlier_all ps) ≡ first_names (later_all ps)
    first_same i end a = refl
    first_same i (stays x ps) a = bound_same x a.0
    first_same i (goes c ps) a = absurd a.0
    first_same i (declarator_goes c ps) a = absurd a.0

    all_bound_same : (i : ℕ) (ps : Prunings) → AllDrop Plain i ps → all_names declared.Bound (earlier_all ps) ≡ all_names declared.Bound (later_all ps)
    all_bound_same i end a = refl
    all_bound_same i (stays x ps) a = ap (λ ns. ns ++ all_names declared.Bound (earlier_all ps)) (bound_same x a.0) ∙ ap (λ ns. names_of declared.Bound (later x) ++ ns) (all_bound_same (suc i) ps a.1)
    all_bound_same i (goes c ps) a = absurd a.0
    all_bound_same i (declarator_goes c ps) a = absurd a.0

  declaration_same : (x : Pruned) → Drop Elsewhere x → declaration (earlier x) ≡ declaration (later x)
  unfolding names_of body_names
  declaration_same (prune (shape.VariableDeclaration Var) xs n ps) a = ap (λ ns. node (shape.VariableDeclaration Var) ([] ++ ns) n none) (all_bound_same 0 ps a.1)
  declaration_same (prune (shape.VariableDeclaration k) xs n ps) a = ap (λ ns. node (shape.VariableDeclaration k) (ns ++ []) n none) (all_bound_same 0 ps a.1)
  declaration_same (prune (shape.Function true g ds) xs n ps) a = ap (λ ns. node (shape.Function true g ds) (ns ++ []) n none) (first_same 0 ps a.1)
  declaration_same (prune (shape.Class true) xs n ps) a = ap (λ ns. node (shape.Class true) (ns ++ []) n none) (first_same 0 ps a.1)
  declaration_same (prune h xs n ps) a = refl

  -- ---- what a frame shows of a node's children

  one_shown : (strict : Bool) (w : Showing) (s : Slot) (x : Pruned) → Drop Elsewhere x → shows_right w s ≡ true → fits strict s (earlier x) ≡ true → shown w (earlier x) ≡ shown w (later x)
  one_shown strict Whole s x a p e = part_same strict s Elsewhere x a p e
  one_shown strict Named s x a p e = declaration_same x a
  one_shown strict Hidden s x a p e = refl

  shown_same : (strict : Bool) (σ : ℕ → Showing) (f : Filling) (j : ℕ) (ps : Prunings) → AllDrop Plain j ps → Are (λ j r. shows_right (σ j) r ≡ true) j f → fill strict f (earlier_all ps) ≡ true → shown_from σ j (earlier_all ps) ≡ shown_from σ j (later_all ps)
  shown_same strict σ f j end a p e = refl
  shown_same strict σ f j (goes c ps) a p e = absurd a.0
  shown_same strict σ f j (declarator_goes c ps) a p e = absurd a.0
  shown_same strict σ refused j (stays x ps) a p e = absurd (true≢false (sym e))
  shown_same strict σ (these []) j (stays x ps) a p e = absurd (true≢false (sym e))
  shown_same strict σ (these (s ∷ ss)) j (stays x ps) a p e =
      ap (λ u. u ▸ shown_from σ (suc j) (earlier_all ps)) (one_shown strict (σ j) s x a.0 p.0 (left (fits strict s (earlier x)) _ e)) ∙ ap (λ us. shown (σ j) (later x) ▸ us) (shown_same strict σ (these ss) (suc j) ps a.1 p.1 (right (fits strict s (earlier x)) _ e))
  shown_same strict σ (each s) j (stays x ps) a p e =
      ap (λ u. u ▸ shown_from σ (suc j) (earlier_all ps)) (one_shown strict (σ j) s x a.0 (p j) (left (fits strict s (earlier x)) _ e)) ∙ ap (λ us. shown (σ j) (later x) ▸ us) (shown_same strict σ (each s) (suc j) ps a.1 p (right (fits strict s (earlier x)) _ e))
  shown_same strict σ (each_or_last s l) j (stays x ps) a p e =
      ap (λ u. u ▸ shown_from σ (suc j) (earlier_all ps)) (either_slot (fits strict s (earlier x)) (is_last (earlier_all ps) && fits strict l (earlier x)) (shown (σ j) (earlier x) ≡ shown (σ j) (later x)) (left (fits strict s (earlier x) || (is_last (earlier_all ps) && fits strict l (earlier x))) _ e) (λ z. one_shown strict (σ j) s x a.0 (p j).0 z) (λ z. one_shown strict (σ j) l x a.0 (p j).1 (right (is_last (earlier_all ps)) _ z)))
      ∙ ap (λ us. shown (σ j) (later x) ▸ us) (shown_same strict σ (each_or_last s l) (suc j) ps a.1 p (right (fits strict s (earlier x) || (is_last (earlier_all ps) && fits strict l (earlier x))) _ e))
  shown_same strict σ (pieces g) j (stays x ps) a p e = ap (shown_from σ j) (sym (pieces_same t D rounds g (stays x ps) e))

  hidden_same : (i : ℕ) (ps : Prunings) → AllStay ps → shown_from (λ j. Hidden) i (earlier_all ps) ≡ shown_from (λ j. Hidden) i (later_all ps)
  hidden_same i end a = refl
  hidden_same i (stays x ps) a = ap (λ us. absent ▸ us) (hidden_same (suc i) ps a)
  hidden_same i (goes c ps) a = absurd a
  hidden_same i (declarator_goes c ps) a = absurd a

  -- a node with a number that is no program
  pub own_same : (strict : Bool) (s : Slot) (h : Shape) (q : Spot) (xs : List Name) (n : ℕ) (ps : Prunings) → Outlined h → Drop q (prune h xs n ps) → fits strict s (node h xs n (earlier_all ps)) ≡ true → own (node h xs n (earlier_all ps)) ≡ own (node h xs n (later_all ps))
  own_same strict s _ q xs n ps of_static_block a e = ap (node shape.StaticBlock xs n) (hidden_same 0 ps (all_stay t D rounds (role shape.StaticBlock q) 0 ps (λ b. b) (λ b. b) a.1))
  own_same strict s h q xs n ps o a e = ap (node h xs n) (shown_same (is_strict_in strict h) (showing h) (filling strict s h) 0 ps a.1 (own_right strict s h o) (right (is_whole (class_of s) h xs n (earlier_all ps)) _ e))

  -- ---- all frames but a program's

  one_kept : (k : Option PropertyKind) (strict : Bool) (s : Slot) (h : Shape) (q : Spot) (xs : List Name) (n : ℕ) (ps : Prunings) → Drop q (prune h xs n ps) → fits strict s (node h xs n (earlier_all ps)) ≡ true → Among (frame_of k h n (outline h xs n (earlier_all ps)) (globals h (earlier_all ps))) (frame_of k h n (outline h xs n (later_all ps)) (globals h (later_all ps)))
  one_kept k strict s (shape.Program m ds) q xs n ps a e = unnumbered k (shape.Program m ds) n (is_zero n (its_number (class_of s) (shape.Program m ds) xs n (earlier_all ps) (fill (is_strict_in strict (shape.Program m ds)) (filling strict s (shape.Program m ds)) (earlier_all ps)) e)) (outline (shape.Program m ds) xs n (earlier_all ps)) (outline (shape.Program m ds) xs n (later_all ps)) (globals (shape.Program m ds) (earlier_all ps)) (globals (shape.Program m ds) (later_all ps))
  one_kept k strict s h q xs zero ps a e = none_among []
  one_kept k strict s h q xs (suc n) ps a e =
      subst (λ o. Among (record { number = suc n; property = k; outline = own (node h xs (suc n) (earlier_all ps)); globals = is_among [] } ∷ []) (record { number = suc n; property = k; outline = o; globals = is_among [] } ∷ []))
      (own_same strict s h q xs (suc n) ps (numbered_outline (class_of s) h n (its_number (class_of s) h xs (suc n) (earlier_all ps) (fill (is_strict_in strict h) (filling strict s h) (earlier_all ps)) e)) a e) (all_among (record { number = suc n; property = k; outline = own (node h xs (suc n) (earlier_all ps)); globals = is_among [] } ∷ []))

  mutual
    frames_kept : (strict : Bool) (s : Slot) (q : Spot) (x : Pruned) → Drop q x → fits strict s (earlier x) ≡ true → (k : Option PropertyKind) → Among (frames k (earlier x)) (frames k (later x))
    frames_kept strict s q (prune h xs n ps) a e k =
        both_among (frame_of k h n (outline h xs n (earlier_all ps)) (globals h (earlier_all ps))) (frames_from (property_below h) 0 (earlier_all ps)) (frame_of k h n (outline h xs n (later_all ps)) (globals h (later_all ps))) (frames_from (property_below h) 0 (later_all ps))
        (one_kept k strict s h q xs n ps a e)
        (all_kept (is_strict_in strict h) (filling strict s h) (role h q) (property_below h) (items_at h q) (declarators_at h q) 0 0 (inl refl) ps a.1 (right (is_whole (class_of s) h xs n (earlier_all ps)) _ e))

    all_kept : (strict : Bool) (f : Filling) (r : Role) (κ : ℕ → Option PropertyKind) → (HoldsItems r → (i j : ℕ) → κ i ≡ κ j) → (HoldsDeclarators r → (i j : ℕ) → κ i ≡ κ j) → (i j : ℕ) → (i ≡ j) ⊎ ((i j : ℕ) → κ i ≡ κ j) → (ps : Prunings) → AllDrop r i ps → fill strict f (earlier_all ps) ≡ true → Among (frames_from κ i (earlier_all ps)) (frames_from κ j (later_all ps))
    all_kept strict f r κ v w i j m end a e = none_among []
    all_kept strict refused r κ v w i j m ps a e = absurd (true≢false (sym e))
    all_kept strict (these []) r κ v w i j m (stays x ps) a e = absurd (true≢false (sym e))
    all_kept strict (these []) r κ v w i j m (goes c ps) a e = absurd (true≢false (sym e))
    all_kept strict (these []) r κ v w i j m (declarator_goes c ps) a e = absurd (true≢false (sym e))
    all_kept strict (these (s ∷ ss)) r κ v w i j m (stays x ps) a e =
        both_among (frames (κ i) (earlier x)) (frames_from κ (suc i) (earlier_all ps)) (frames (κ j) (later x)) (frames_from κ (suc j) (later_all ps)) (subst (λ k. Among (frames (κ i) (earlier x)) (frames k (later x))) (moved κ i j m) (frames_kept strict s (spot_below r i) x a.0 (left (fits strict s (earlier x)) _ e) (κ i)))
        (all_kept strict (these ss) r κ v w (suc i) (suc j) (next κ i j m) ps a.1 (right (fits strict s (earlier x)) _ e))
    all_kept strict (these (s ∷ ss)) r κ v w i j m (goes c ps) a e = skip_among (frames (κ i) (item_tree c)) (frames_from κ (suc i) (earlier_all ps)) (frames_from κ j (later_all ps)) (all_kept strict (these ss) r κ v w (suc i) j (inr (v a.0)) ps a.2 (right (fits strict s (item_tree c)) _ e))
    all_kept strict (these (s ∷ ss)) r κ v w i j m (declarator_goes c ps) a e = skip_among (frames (κ i) (declarator_tree c)) (frames_from κ (suc i) (earlier_all ps)) (frames_from κ j (later_all ps)) (all_kept strict (these ss) r κ v w (suc i) j (inr (w a.0)) ps a.2 (right (fits strict s (declarator_tree c)) _ e))
    all_kept strict (each s) r κ v w i j m (stays x ps) a e =
        both_among (frames (κ i) (earlier x)) (frames_from κ (suc i) (earlier_all ps)) (frames (κ j) (later x)) (frames_from κ (suc j) (later_all ps)) (subst (λ k. Among (frames (κ i) (earlier x)) (frames k (later x))) (moved κ i j m) (frames_kept strict s (spot_below r i) x a.0 (left (fits strict s (earlier x)) _ e) (κ i)))
        (all_kept strict (each s) r κ v w (suc i) (suc j) (next κ i j m) ps a.1 (right (fits strict s (earlier x)) _ e))
    all_kept strict (each s) r κ v w i j m (goes c ps) a e = skip_among (frames (κ i) (item_tree c)) (frames_from κ (suc i) (earlier_all ps)) (frames_from κ j (later_all ps)) (all_kept strict (each s) r κ v w (suc i) j (inr (v a.0)) ps a.2 (right (fits strict s (item_tree c)) _ e))
    all_kept strict (each s) r κ v w i j m (declarator_goes c ps) a e = skip_among (frames (κ i) (declarator_tree c)) (frames_from κ (suc i) (earlier_all ps)) (frames_from κ j (later_all ps)) (all_kept strict (each s) r κ v w (suc i) j (inr (w a.0)) ps a.2 (right (fits strict s (declarator_tree c)) _ e))
    all_kept strict (each_or_last s l) r κ v w i j m (stays x ps) a e =
        both_among (frames (κ i) (earlier x)) (frames_from κ (suc i) (earlier_all ps)) (frames (κ j) (later x)) (frames_from κ (suc j) (later_all ps))
        (subst (λ k. Among (frames (κ i) (earlier x)) (frames k (later x))) (moved κ i j m) (either_slot (fits strict s (earlier x)) (is_last (earlier_all ps) && fits strict l (earlier x)) (Among (frames (κ i) (earlier x)) (frames (κ i) (later x))) (left (fits strict s (earlier x) || (is_last (earlier_all ps) && fits strict l (earlier x))) _ e) (λ z. frames_kept strict s (spot_below r i) x a.0 z (κ i)) (λ z. frames_kept strict l (spot_below r i) x a.0 (right (is_last (earlier_all ps)) _ z) (κ i))))
        (all_kept strict (each_or_last s l) r κ v w (suc i) (suc j) (next κ i j m) ps a.1 (right (fits strict s (earlier x) || (is_last (earlier_all ps) && fits strict l (earlier x))) _ e))
    all_kept strict (each_or_last s l) r κ v w i j m (goes c ps) a e = skip_among (frames (κ i) (item_tree c)) (frames_from κ (suc i) (earlier_all ps)) (frames_from κ j (later_all ps)) (all_kept strict (each_or_last s l) r κ v w (suc i) j (inr (v a.0)) ps a.2 (right (fits strict s (item_tree c) || (is_last (earlier_all ps) && fits strict l (item_tree c))) _ e))
    all_kept strict (each_or_last s l) r κ v w i j m (declarator_goes c ps) a e = skip_among (frames (κ i) (declarator_tree c)) (frames_from κ (suc i) (earlier_all ps)) (frames_from κ j (later_all ps)) (all_kept strict (each_or_last s l) r κ v w (suc i) j (inr (w a.0)) ps a.2 (right (fits strict s (declarator_tree c) || (is_last (earlier_all ps) && fits strict l (declarator_tree c))) _ e))
    all_kept strict (pieces g) r κ v w i j m (goes c ps) a e = let first = quasis_first t D rounds g (item_tree c) (earlier_all ps) e in absurd (item_no_piece g first.0 c first.1)
    all_kept strict (pieces g) r κ v w i j m (declarator_goes c ps) a e = let first = quasis_first t D rounds g (declarator_tree c) (earlier_all ps) e in absurd (declarator_no_piece g first.0 c first.1)
    all_kept strict (pieces g) r κ v w i j m (stays x ps) a e = subst (λ ts. Among (frames_from κ i (earlier_all (stays x ps))) (frames_from κ j ts)) (sym (pieces_same t D rounds g (stays x ps) e)) (shifted κ i j m (earlier_all (stays x ps)))

-- once, and any number of times
once_kept : (t u : Tree) (n : ℕ) → Drops t u n → IsWellShaped t → Among (frames_in t) (frames_in u)
once_kept t u n w e =
    subst₂ (λ t u. Among (frames_in t) (frames_in u)) w.before w.after
    (frames_kept t (gone w.pruned) w.rounds false (one a_program) Elsewhere w.pruned w.dead (subst IsWellShaped (sym w.before) e) None)

pub drops_keep_frames : law.DropsKeepFrames
drops_keep_frames _ _ _ (nothing_goes t) e f z m = m
drops_keep_frames _ _ _ (more_goes t u v m n w s) e f z a = drops_keep_frames t u m w e f z (once_kept u v n s (drops_keep_shape t u m w e) f z a)
