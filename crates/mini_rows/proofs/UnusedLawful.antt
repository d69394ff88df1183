-- What the rows of names that nothing mentions write is loosely lawful.
use Rattle.std.specs.Prelude.{ℕ, ◌≡◌, ◌⊎◌, refl, Bool, true, false, ◌&&◌, ◌||◌, List, [], ◌++◌, Contains, Option, None, nat_le}
use Rattle.std.proofs.Common.{ap, ◌∙◌, sym, subst, inl, inr, true≢false, arith}
use Rattle.std.proofs.lemmas.Bool.{and_parts, le-leb}
use Rattle.std.proofs.lemmas.List.{append-nil}
use Rattle.mini_model.specs.declared.kind.VariableDeclarationKind.{VariableDeclarationKind}
use Rattle.mini_model.specs.declared.kind.VariableDeclarationKind.TheVariants.{Var}
use Rattle.mini_model.specs.declared.name.Name.{Name}
use Rattle.mini_model.specs.declared.place.Position.{Position}
use Rattle.mini_model.specs.declared.place.Position.TheVariants.{Stmt, Elsewhere}
use Rattle.mini_model.specs.declared.seat.StmtSeat.{StmtSeat}
use Rattle.mini_model.specs.declared.shape.Shape.{Shape}
use Rattle.mini_model.specs.declared.shape.Shape.TheVariants as shape
use Rattle.mini_model.specs.Tree.{Tree, Trees, node, none, ◌▸◌, absent, listed, shape_of, empty_statement, expression_statement, count}
use Rattle.mini_model.specs.Paths.{append}
use Rattle.mini_accept.specs.WellShaped as well
use Rattle.mini_accept.specs.WellShaped.{Depth, in_module, in_body, nested, Class, a_statement, a_block, a_key, a_private_or_key, an_inner_key, a_declarator, a_pattern, an_init, an_expression, a_loop_left, a_default_export, Slot, one, one_or_absent, many, many_or_holes, many_and_rest, many_or_holes_and_rest, quasis, each, filling, fits, fill}
use Rattle.mini_laws.specs.declared.names.Binding.{Binding}
use Rattle.mini_laws.specs.DeclaredNames.{all_names, has_inner}
use Rattle.mini_laws.specs.declared.names.Declared.TheVariants.{Lexical}
use Rattle.mini_laws.specs.Scoped.{Unmentioned, AllUnmentioned}
use Rattle.mini_laws.specs.Value.{Variable, Declared, nothing}
use Rattle.mini_laws.specs.State.{Environment, Writable}
use Rattle.mini_laws.specs.Demand.{Tail, Demand, Stat}
use Rattle.mini_laws.specs.Fits.{Fits}
use Rattle.mini_laws.specs.Same.{Same}
use Rattle.mini_laws.specs.Substitution.{alone}
use Rattle.mini_laws.specs.Naming.{summary}
use Rattle.mini_laws.specs.Fixity.{fixed_by, stricter}
use Rattle.mini_laws.specs.Bodies.{Around, bodies, arrow_kind}
use Rattle.mini_kept.specs.AlikeBodies.{BodiesKept}
use Rattle.mini_kept.specs.Declaring.{declared}
use Rattle.mini_kept.specs.Frames.{frames, FramesKept}
use Rattle.mini_kept.specs.KeepsFrames.{is_in_body, is_body_slot, IsShownAlike, NoPort, NoDeclaration, KeepsFunction, KeepsHolder}
use Rattle.mini_kept.specs.KeepsLoosely.{KeepsLoosely}
use Rattle.mini_kept.specs.KeepsNames.{is_rewritten_place}
use Rattle.mini_kept.specs.KeepsShapes.{AskedAlike}
use Rattle.mini_kept.specs.Lifted.{is_piece, KeepsRoot}
use Rattle.mini_kept.specs.Loosely.{Stays, Drops, LawfulLoosely}
use Rattle.mini_kept.specs.Placed.{fits_place, is_statement_list}
use Rattle.mini_kept.specs.ShownFrames.{no_key, gone_from}
use Rattle.mini_kept.specs.Without.{Unseen}
use Rattle.mini_kept.proofs.Bools.{left, both}
use Rattle.mini_kept.proofs.Expressions.{refused_here}
use Rattle.mini_kept.proofs.Fixed.{of_children}
use Rattle.mini_kept.proofs.InOrder.{in_order}
use Rattle.mini_kept.proofs.ShownFrames.{kept_shown}
use Rattle.mini_kept.proofs.WithoutLists.{from_kept}
use Rattle.mini_node.specs.Kinds.{is_absent_part}
use Rattle.mini_node.specs.Made.{absent_is}
use Rattle.mini_terms.specs.Folds.{is_effect_free}
use Rattle.mini_terms.specs.Parts.{leaves_nothing}
use Rattle.mini_terms.specs.Reading.{is_plain_part}
use Rattle.mini_rows.proofs.Sunk.{value_passed}
use Rattle.mini_rows.specs.Arranged.{Vanishes}
use Rattle.mini_rows.specs.Lists.{block, declares_nothing, declaration, Each, EachIn, EachOf, each_loop}
use Rattle.mini_rows.specs.Declarations.{binding, declarator}
use Rattle.mini_rows.specs.Unused.{resolved, declared_one, any_names, is_idle, is_first, reads_head, evaluated, reads_hidden, evaluated_hidden, takes, BlockRow, declared_among, declared_left, put_first}
use Rattle.mini_rows.specs.Switches.{Switches, without_vars}
use Rattle.mini_rows.proofs.ArrangedBodies.{quiet}
use Rattle.mini_rows.proofs.BlockPlaces.{holds_block, no_list, block_placed, block_there, block_asked}
use Rattle.mini_rows.proofs.FoldLawful.{vanishes}
use Rattle.mini_rows.proofs.ListShapes.{init_declares, declaration_anywhere, append_fits, both_fit, first_fits, more_fit}
use Rattle.mini_rows.proofs.UnusedKept.{LeavesThere, NamesThere, DeclaresThere, list_fixed, list_frames, list_bodies, list_declares, block_kept, block_less, block_keeps}
use Rattle.mini_rows.proofs.DeclaredKept.{value_leaves, value_names, value_declares, idle_leaves, idle_names, idle_declares}
use Rattle.mini_rows.proofs.HiddenHeads.{for_initial, Hidden, hidden, Taken, taken}
use Rattle.mini_rows.proofs.HiddenKept.{taken_leaves, taken_names, taken_declares}
use Rattle.mini_rows.proofs.HiddenMeaning.{row_71}
use Rattle.mini_rows.proofs.ModuleKept.{fewer}
use Rattle.mini_rows.proofs.ListKeptHeads.{Seat, Loop, Choice, seated}
use Rattle.mini_rows.proofs.SingleUse.{Initial, Outside, Over, Begun, as_initial, Heads, heads}
use Rattle.mini_rows.proofs.SingleFits.{MayStand, first_of, second_of, put_fits, put_initial, put_asked, put_begun}
use Rattle.mini_rows.proofs.UnusedMeaning.{movable, lexical_alone, row_72, row_72_idle}
use Rattle.mini_rows.proofs.NextKept.{next_leaves, next_names, next_declares}
use Rattle.mini_rows.proofs.NextMeaning.{row_71_next}
use Rattle.mini_rows.proofs.UnusedNames.{Other, all_unmentioned, all_other}

-- ---- where a block may stand

module _ (first_list second_list : Trees) (h : (strict : Bool) → fill strict (each (one (a_statement nested))) first_list ≡ true → fill strict (each (one (a_statement nested))) second_list ≡ true) where
  abbrev Kept : Bool → Class → Type 0
  Kept strict c = fits strict (one c) (block first_list) ≡ true → (fits strict (one c) (block second_list) ≡ true) × (is_in_body c ≡ true)

  abbrev Statements : Bool → Trees → Bool
  Statements strict ts = fill strict (each (one (a_statement nested))) ts

  over : (strict : Bool) → (Statements strict first_list && true) ≡ true → (Statements strict second_list && true) ≡ true
  over strict e = both (Statements strict second_list) true (h strict (left (Statements strict first_list) true e)) refl

  refused : (strict : Bool) (c : Class) → filling strict (one c) shape.BlockStatement ≡ well.refused → Kept strict c
  refused strict c f e = absurd (refused_here strict (one c) shape.BlockStatement [] 0 (listed first_list ▸ none) f e)

  in_class : (strict : Bool) (c : Class) → Kept strict c
  in_class true (a_statement in_module) e = (over true e, refl)
  in_class true (a_statement in_body) e = (over true e, refl)
  in_class true (a_statement nested) e = (over true e, refl)
  in_class false (a_statement in_module) e = (over false e, refl)
  in_class false (a_statement in_body) e = (over false e, refl)
  in_class false (a_statement nested) e = (over false e, refl)
  in_class strict a_block e = (over strict e, refl)
  in_class strict (a_key true) e = refused strict (a_key true) refl e
  in_class strict (a_private_or_key true) e = refused strict (a_private_or_key true) refl e
  in_class strict (an_inner_key true) e = refused strict (an_inner_key true) refl e
  in_class strict c e = refused strict c refl e

  pub in_slot : (strict : Bool) (p : Position) (s : Slot) → fits strict s (block first_list) ≡ true → (fits strict s (block second_list) ≡ true) × (is_body_slot p s ≡ true)
  in_slot strict p (one c) e = in_class strict c e
  in_slot strict p (one_or_absent c) e = in_class strict c e
  in_slot strict p (many c) e = absurd (refused_here strict (many c) shape.BlockStatement [] 0 (listed first_list ▸ none) refl e)
  in_slot strict p (many_or_holes c) e = absurd (refused_here strict (many_or_holes c) shape.BlockStatement [] 0 (listed first_list ▸ none) refl e)
  in_slot strict p (many_and_rest c d) e = absurd (refused_here strict (many_and_rest c d) shape.BlockStatement [] 0 (listed first_list ▸ none) refl e)
  in_slot strict p (many_or_holes_and_rest c d) e = absurd (refused_here strict (many_or_holes_and_rest c d) shape.BlockStatement [] 0 (listed first_list ▸ none) refl e)
  in_slot strict p (quasis g) e = absurd (refused_here strict (quasis g) shape.BlockStatement [] 0 (listed first_list ▸ none) refl e)

-- ---- what is written fits

abbrev pub item : Slot
item = one (a_statement nested)

one_item : (strict : Bool) (before after : Trees) (d w : Tree) → (fits strict item d ≡ true → fits strict item w ≡ true) → fill strict (each item) (append before (d ▸ after)) ≡ true → fill strict (each item) (append before (w ▸ after)) ≡ true
one_item strict before after d w h e =
    let (x, y) = both_fit strict item before (d ▸ after) e in
    let (z, v) = first_fits strict item d after y in
    append_fits strict item before (w ▸ after) x (more_fit strict item w after (h z) v)

two_items : (strict : Bool) (before after : Trees) (d e v w : Tree) → (fits strict item d ≡ true → fits strict item e ≡ true → (fits strict item v ≡ true) × (fits strict item w ≡ true)) → fill strict (each item) (append before (d ▸ (e ▸ after))) ≡ true → fill strict (each item) (append before (v ▸ (w ▸ after))) ≡ true
two_items strict before after d e v w h f =
    let (x, y) = both_fit strict item before (d ▸ (e ▸ after)) f in
    let (z, u) = first_fits strict item d (e ▸ after) y in
    let (a, b) = first_fits strict item e after u in
    let (o, p) = h z a in
    append_fits strict item before (v ▸ (w ▸ after)) x (more_fit strict item v (w ▸ after) o (more_fit strict item w after p b))

there : (strict : Bool) (t : Tree) → declares_nothing t ≡ true → fits strict (one_or_absent an_expression) t ≡ true → fits strict (one an_expression) t ≡ true
there strict (node shape.Absent xs n ts) d e = absurd (true≢false (sym d))
there strict (node h xs n ts) d e = e

an_expression_fits : (strict : Bool) (t : Tree) → fits strict (one an_expression) t ≡ true → fits strict item (expression_statement t) ≡ true
an_expression_fits true t e = both (fits true (one an_expression) t) true e refl
an_expression_fits false t e = both (fits false (one an_expression) t) true e refl

pub empty_fits : (strict : Bool) → fits strict item empty_statement ≡ true
empty_fits true = refl
empty_fits false = refl

pub value_fits : (strict : Bool) (k : VariableDeclarationKind) (x : Name) (init : Tree) → declares_nothing init ≡ true → fits strict item (declared_one k x init) ≡ true → fits strict item (expression_statement init) ≡ true
value_fits strict k x init d e =
    let ds : Trees = declarator (binding x) init ▸ none in
    let all : (fill strict (each (one a_declarator)) ds && true) ≡ true = sym (declaration_anywhere strict nested k ds) ∙ e in
    let (one_fits, rest) = first_fits strict (one a_declarator) (declarator (binding x) init) none (left (fill strict (each (one a_declarator)) ds) true all) in
    let (id, value) = and_parts (fits strict (one a_pattern) (binding x)) (fits strict (one_or_absent an_expression) init && true) one_fits in
    an_expression_fits strict init (there strict init d (left (fits strict (one_or_absent an_expression) init) true value))

among_fits : (strict : Bool) (k : VariableDeclarationKind) (x : Name) (first last : Trees) (init : Tree) → nat_le 1 (count (append first last)) ≡ true → fits strict item (declared_among k x first init last) ≡ true → fits strict item (declaration k (append first last)) ≡ true
among_fits strict k x first last init some e =
    let ds = append first (declarator (binding x) init ▸ last) in
    let all = (and_parts (nat_le 1 (count ds)) (fill strict (each (one a_declarator)) ds && true) (sym (declaration_anywhere strict nested k ds) ∙ e)).1 in
    let (f, g) = both_fit strict (one a_declarator) first (declarator (binding x) init ▸ last) (left (fill strict (each (one a_declarator)) ds) true all) in
    let others = append_fits strict (one a_declarator) first last f (first_fits strict (one a_declarator) (declarator (binding x) init) last g).1 in
    declaration_anywhere strict nested k (append first last)
    ∙ both (nat_le 1 (count (append first last))) (fill strict (each (one a_declarator)) (append first last) && true) some (both (fill strict (each (one a_declarator)) (append first last)) true others refl)

pub left_fits : (strict : Bool) (k : VariableDeclarationKind) (x : Name) (first : Trees) (init : Tree) (last : Trees) → fits strict item (declared_among k x first init last) ≡ true → fits strict item (declared_left k (append first last)) ≡ true
left_fits strict k x none init none e = empty_fits strict
left_fits strict k x none init (t ▸ last) e = among_fits strict k x none (t ▸ last) init (le-leb 1 (count (t ▸ last)) (omega arith)) e
left_fits strict k x (t ▸ first) init last e = among_fits strict k x (t ▸ first) last init (le-leb 1 (count (t ▸ append first last)) (omega arith)) e

plain_there : (strict : Bool) (t : Tree) → is_plain_part t ≡ true → fits strict (one_or_absent an_expression) t ≡ true → fits strict (one an_expression) t ≡ true
plain_there strict (node shape.Absent xs n ts) d e = absurd (true≢false (sym d))
plain_there strict (node h xs n ts) d e = e

first_left_fits : (strict : Bool) (k : VariableDeclarationKind) (first : Trees) → fill strict (each (one a_declarator)) first ≡ true → fits strict item (declared_left k first) ≡ true
first_left_fits strict k none e = empty_fits strict
first_left_fits strict k (t ▸ first) e =
    declaration_anywhere strict nested k (t ▸ first)
    ∙ both (nat_le 1 (count (t ▸ first))) (fill strict (each (one a_declarator)) (t ▸ first) && true) (le-leb 1 (count (t ▸ first)) (omega arith)) (both (fill strict (each (one a_declarator)) (t ▸ first)) true e refl)

-- so does a declaration whose first initializer has another tree in it
pub initial_fits : (strict : Bool) (x : Name) (head : Tree) (t : Initial x head) (r : Tree) → MayStand x r t.value → fits strict (one an_expression) r ≡ true → fits strict item head ≡ true → fits strict item (put_first x r head) ≡ true
initial_fits strict x head t r p f e =
    let ds : Trees = declarator t.binds t.value ▸ t.last in
    let d = declarator t.binds (put_first x r t.value) in
    let all = (and_parts (nat_le 1 (count ds)) (fill strict (each (one a_declarator)) ds && true) (sym (declaration_anywhere strict nested t.kind ds) ∙ sym (ap (fits strict item) t.is) ∙ e)).1 in
    let (there, others) = first_fits strict (one a_declarator) (declarator t.binds t.value) t.last (left (fill strict (each (one a_declarator)) ds) true all) in
    let (bound, given) = and_parts (fits strict (one a_pattern) t.binds) (fits strict (one_or_absent an_expression) t.value && true) there in
    let put = put_initial strict x t.value t.once r p f (left (fits strict (one_or_absent an_expression) t.value) true given) in
    let them = more_fit strict (one a_declarator) d t.last (both (fits strict (one a_pattern) t.binds) (fits strict (one_or_absent an_expression) (put_first x r t.value) && true) bound (both (fits strict (one_or_absent an_expression) (put_first x r t.value)) true put refl)) others in
    ap (fits strict item) (t.puts r) ∙ declaration_anywhere strict nested t.kind (d ▸ t.last) ∙ both (nat_le 1 (count (d ▸ t.last))) (fill strict (each (one a_declarator)) (d ▸ t.last) && true) (le-leb 1 (count (d ▸ t.last)) (omega arith)) (both (fill strict (each (one a_declarator)) (d ▸ t.last)) true them refl)

-- and a `switch` and a `for`
switch_fits : (strict : Bool) (cases a b : Tree) → (fits strict (one an_expression) a ≡ true → fits strict (one an_expression) b ≡ true) → fits strict item (seated (Choice cases) a) ≡ true → fits strict item (seated (Choice cases) b) ≡ true
switch_fits true cases a b h e = first_of (fits true (one an_expression) a) (fits true (one an_expression) b) _ h e
switch_fits false cases a b h e = first_of (fits false (one an_expression) a) (fits false (one an_expression) b) _ h e

pub for_fits : (strict : Bool) (u v w a b : Tree) → (fits strict (one_or_absent an_init) a ≡ true → fits strict (one_or_absent an_init) b ≡ true) → fits strict item (seated (Loop u v w) a) ≡ true → fits strict item (seated (Loop u v w) b) ≡ true
for_fits true u v w a b h e = first_of (fits true (one_or_absent an_init) a) (fits true (one_or_absent an_init) b) _ h e
for_fits false u v w a b h e = first_of (fits false (one_or_absent an_init) a) (fits false (one_or_absent an_init) b) _ h e

outside_fits : (strict : Bool) (x : Name) (head : Tree) (t : Outside x head) (r : Tree) → MayStand x r head → fits strict (one an_expression) r ≡ true → fits strict item head ≡ true → fits strict item (put_first x r head) ≡ true
outside_fits strict x head t r p f e = ap (fits strict item) (t.puts r) ∙ by t.seat (sym (ap (fits strict item) t.is) ∙ e)
  where
    below : MayStand x r head → MayStand x r t.value
    below (inl n) = inl n
    below (inr e) = inr (t.passed r e)

    by : (s : Seat) → fits strict item (seated s t.value) ≡ true → fits strict item (seated s (put_first x r t.value)) ≡ true
    by (Choice cases) g = switch_fits strict cases t.value (put_first x r t.value) (put_asked strict x t.value t.once r (below p) f) g
    by (Loop u v w) g = for_fits strict u v w t.value (put_first x r t.value) (put_begun strict x t.value t.once r (below p) f) g

-- and a loop over keys or values
pub each_fits : (strict : Bool) (c : Each) (l w a b : Tree) → (fits strict (one an_expression) a ≡ true → fits strict (one an_expression) b ≡ true) → fits strict item (each_loop c l a w) ≡ true → fits strict item (each_loop c l b w) ≡ true
each_fits true EachIn l w a b h e = second_of (fits true (one (a_loop_left true)) l) (fits true (one an_expression) a) (fits true (one an_expression) b) _ h e
each_fits false EachIn l w a b h e = second_of (fits false (one (a_loop_left true)) l) (fits false (one an_expression) a) (fits false (one an_expression) b) _ h e
each_fits true EachOf l w a b h e = second_of (fits true (one (a_loop_left false)) l) (fits true (one an_expression) a) (fits true (one an_expression) b) _ h e
each_fits false EachOf l w a b h e = second_of (fits false (one (a_loop_left false)) l) (fits false (one an_expression) a) (fits false (one an_expression) b) _ h e

over_fits : (strict : Bool) (x : Name) (head : Tree) (t : Over x head) (r : Tree) → MayStand x r t.value → fits strict (one an_expression) r ≡ true → fits strict item head ≡ true → fits strict item (put_first x r head) ≡ true
over_fits strict x head t r p f e = ap (fits strict item) (t.puts r) ∙ each_fits strict t.kind t.left t.body t.value (put_first x r t.value) (put_asked strict x t.value t.once r p f) (sym (ap (fits strict item) t.is) ∙ e)

-- and a `for` that begins with a `var`
begun_fits : (strict : Bool) (x : Name) (head : Tree) (t : Begun x head) (r : Tree) → MayStand x r t.value → fits strict (one an_expression) r ≡ true → fits strict item head ≡ true → fits strict item (put_first x r head) ≡ true
begun_fits strict x head t r p f e =
    let i = as_initial x head t in
    let these : Trees = declarator t.binds t.value ▸ t.last in
    let those : Trees = declarator t.binds (put_first x r t.value) ▸ t.last in
    ap (fits strict item) (t.puts r)
    ∙ for_fits strict t.test t.update t.body (declaration Var these) (declaration Var those)
    (λ h. init_declares strict Var those ∙ sym (declaration_anywhere strict nested Var those) ∙ sym (ap (fits strict item) (i.puts r)) ∙ initial_fits strict x (declaration Var these) i r p f (declaration_anywhere strict nested Var these ∙ sym (init_declares strict Var these) ∙ h))
    (sym (ap (fits strict item) t.is) ∙ e)

head_fits : (strict : Bool) (x : Name) (head : Tree) → reads_head x head ≡ true → (r : Tree) → MayStand x r (evaluated head) → fits strict (one an_expression) r ≡ true → fits strict item head ≡ true → fits strict item (put_first x r head) ≡ true
head_fits strict x head once r g f e = by (heads x head once)
  where
    by : Heads x head → fits strict item (put_first x r head) ≡ true
    by (inl (o, p)) = put_fits strict x head o r (subst (MayStand x r) p g) f e
    by (inr (inl t)) = initial_fits strict x head t r (subst (MayStand x r) t.evaluates g) f e
    by (inr (inr (inl t))) = outside_fits strict x head t r (subst (MayStand x r) t.evaluates g) f e
    by (inr (inr (inr (inl t)))) = over_fits strict x head t r (subst (MayStand x r) t.evaluates g) f e
    by (inr (inr (inr (inr t)))) = begun_fits strict x head t r (subst (MayStand x r) t.evaluates g) f e

-- and a loop that hides its names first
hidden_fits : (strict : Bool) (x : Name) (head : Tree) → reads_hidden x head ≡ true → (r : Tree) → MayStand x r (evaluated_hidden head) → fits strict (one an_expression) r ≡ true → fits strict item head ≡ true → fits strict item (put_first x r head) ≡ true
hidden_fits strict x head once r g f e = by (hidden x head once)
  where
    by : Hidden x head → fits strict item (put_first x r head) ≡ true
    by (inl t) =
        let i = for_initial x head t in
        let these : Trees = declarator t.binds t.value ▸ t.last in
        let those : Trees = declarator t.binds (put_first x r t.value) ▸ t.last in
        ap (fits strict item) (t.puts r)
        ∙ for_fits strict t.test t.update t.body (declaration t.kind these) (declaration t.kind those)
        (λ h. init_declares strict t.kind those ∙ sym (declaration_anywhere strict nested t.kind those) ∙ sym (ap (fits strict item) (i.puts r)) ∙ initial_fits strict x (declaration t.kind these) i r (subst (MayStand x r) t.evaluates g) f (declaration_anywhere strict nested t.kind these ∙ sym (init_declares strict t.kind these) ∙ h))
        (sym (ap (fits strict item) t.is) ∙ e)
    by (inr t) = ap (fits strict item) (t.puts r) ∙ each_fits strict t.kind t.left t.body t.value (put_first x r t.value) (put_asked strict x t.value t.once r (subst (MayStand x r) t.evaluates g) f) (sym (ap (fits strict item) t.is) ∙ e)

-- where what is left of a declaration fits, and what is written for the head does
both_stand : (strict : Bool) (k : VariableDeclarationKind) (x : Name) (first : Trees) (init head : Tree) → is_plain_part init ≡ true → (fits strict (one an_expression) init ≡ true → fits strict item head ≡ true → fits strict item (put_first x init head) ≡ true) → fits strict item (declared_among k x first init none) ≡ true → fits strict item head ≡ true → (fits strict item (declared_left k first) ≡ true) × (fits strict item (put_first x init head) ≡ true)
both_stand strict k x first init head m put e f =
    let ds : Trees = append first (declarator (binding x) init ▸ none) in
    let all = (and_parts (nat_le 1 (count ds)) (fill strict (each (one a_declarator)) ds && true) (sym (declaration_anywhere strict nested k ds) ∙ e)).1 in
    let (g, h) = both_fit strict (one a_declarator) first (declarator (binding x) init ▸ none) (left (fill strict (each (one a_declarator)) ds) true all) in
    let (one_fits, rest) = first_fits strict (one a_declarator) (declarator (binding x) init) none h in
    let (id, value) = and_parts (fits strict (one a_pattern) (binding x)) (fits strict (one_or_absent an_expression) init && true) one_fits in
    let moves = plain_there strict init m (left (fits strict (one_or_absent an_expression) init) true value) in
    (first_left_fits strict k first g, put moves f)

pub single_fits : (strict : Bool) (k : VariableDeclarationKind) (x : Name) (first : Trees) (init head : Tree) → is_plain_part init ≡ true → reads_head x head ≡ true → MayStand x init (evaluated head) → fits strict item (declared_among k x first init none) ≡ true → fits strict item head ≡ true → (fits strict item (declared_left k first) ≡ true) × (fits strict item (put_first x init head) ≡ true)
single_fits strict k x first init head m r p e f = both_stand strict k x first init head m (λ moves h. head_fits strict x head r init p moves h) e f

pub taken_fits : (strict : Bool) (k : VariableDeclarationKind) (x : Name) (first : Trees) (init head : Tree) → is_plain_part init ≡ true → takes x init head ≡ true → fits strict item (declared_among k x first init none) ≡ true → fits strict item head ≡ true → (fits strict item (declared_left k first) ≡ true) × (fits strict item (put_first x init head) ≡ true)
taken_fits strict k x first init head m t e f = both_stand strict k x first init head m (λ moves h. put (taken x init head t) moves h) e f
  where
    put : Taken x init head → fits strict (one an_expression) init ≡ true → fits strict item head ≡ true → fits strict item (put_first x init head) ≡ true
    put (inl (o, p)) moves h = head_fits strict x head o init (inr p) moves h
    put (inr (c, (o, p))) moves h = hidden_fits strict x head o init (inr p) moves h

pub next_fits : (strict : Bool) (k : VariableDeclarationKind) (x : Name) (first : Trees) (init binds value : Tree) (last : Trees) → is_plain_part init ≡ true → is_first x false value ≡ true → MayStand x init value → fits strict item (declared_among k x first init (declarator binds value ▸ last)) ≡ true → fits strict item (declaration k (append first (declarator binds (put_first x init value) ▸ last))) ≡ true
next_fits strict k x first init binds value last m once p e =
    let d = declarator binds (put_first x init value) in
    let ds : Trees = append first (declarator (binding x) init ▸ (declarator binds value ▸ last)) in
    let all = (and_parts (nat_le 1 (count ds)) (fill strict (each (one a_declarator)) ds && true) (sym (declaration_anywhere strict nested k ds) ∙ e)).1 in
    let (f, g) = both_fit strict (one a_declarator) first (declarator (binding x) init ▸ (declarator binds value ▸ last)) (left (fill strict (each (one a_declarator)) ds) true all) in
    let (one_fits, rest) = first_fits strict (one a_declarator) (declarator (binding x) init) (declarator binds value ▸ last) g in
    let (next_there, others) = first_fits strict (one a_declarator) (declarator binds value) last rest in
    let (id, initial) = and_parts (fits strict (one a_pattern) (binding x)) (fits strict (one_or_absent an_expression) init && true) one_fits in
    let (bound, given) = and_parts (fits strict (one a_pattern) binds) (fits strict (one_or_absent an_expression) value && true) next_there in
    let moves = plain_there strict init m (left (fits strict (one_or_absent an_expression) init) true initial) in
    let put = put_initial strict x value once init p moves (left (fits strict (one_or_absent an_expression) value) true given) in
    let there_now = both (fits strict (one a_pattern) binds) (fits strict (one_or_absent an_expression) (put_first x init value) && true) bound (both (fits strict (one_or_absent an_expression) (put_first x init value)) true put refl) in
    let them = append_fits strict (one a_declarator) first (d ▸ last) f (more_fit strict (one a_declarator) d last there_now others) in
    declaration_anywhere strict nested k (append first (d ▸ last)) ∙ both (nat_le 1 (count (append first (d ▸ last)))) (fill strict (each (one a_declarator)) (append first (d ▸ last)) && true) (some first) (both (fill strict (each (one a_declarator)) (append first (d ▸ last))) true them refl)
  where
    some : (first : Trees) → nat_le 1 (count (append first (declarator binds (put_first x init value) ▸ last))) ≡ true
    some none = le-leb 1 (count (declarator binds (put_first x init value) ▸ last)) (omega arith)
    some (t ▸ first) = le-leb 1 (count (t ▸ append first (declarator binds (put_first x init value) ▸ last))) (omega arith)

-- ---- a name that is dropped

all_join : (b : Binding) (ts us : Trees) → AllUnmentioned b ts → AllUnmentioned b us → AllUnmentioned b (append ts us)
unfolding Unmentioned
all_join b none us p q = q
all_join b (t ▸ ts) us p q = (p.0, all_join b ts us p.1 q)

pub gone : (b : Binding) (ts us ws : Trees) → AllUnmentioned b ts → AllUnmentioned b ws → AllUnmentioned b us → Unmentioned b (listed (append ts (append ws us)))
unfolding Unmentioned
gone b ts us ws p q r = (tt, all_join b ts (append ws us) p (all_join b ws us q r))

pub record Dropped (p : Position) (k : ℕ) (n w : Tree) : Type 0 where
  pub keeps : KeepsLoosely p n w
  pub drops : (K : Shape → Bool) → Drops K k p n w
  pub declared_there : (x : Name) → Contains (declared w) x → Contains (declared n) x

module _ (s : List ℕ) (k : ℕ) (before after d w : Trees) (l : LeavesThere (resolved s k) d w) (n : NamesThere (resolved s k) d w) (earlier : any_names (resolved s k) before ≡ false) (later : any_names (resolved s k) after ≡ false) where
  abbrev x : Name
  x = resolved s k

  abbrev first_list : Trees
  first_list = append before (append d after)

  abbrev second_list : Trees
  second_list = append before (append w after)

  pub block_bodies : (a : Around) → BodiesKept (bodies a (block first_list)) (bodies a (block second_list))
  block_bodies a =
      subst (λ cs. BodiesKept cs (bodies (quiet a) (listed second_list) ++ [])) (sym (append-nil (bodies (quiet a) (listed first_list))))
      (subst (BodiesKept (bodies (quiet a) (listed first_list))) (sym (append-nil (bodies (quiet a) (listed second_list)))) (list_bodies x before after d w l a))

  pub block_frames : FramesKept (frames None (block first_list)) (frames None (block second_list))
  block_frames =
      subst (λ fs. FramesKept fs (frames None (listed second_list) ++ [])) (sym (append-nil (frames None (listed first_list))))
      (subst (FramesKept (frames None (listed first_list))) (sym (append-nil (frames None (listed second_list)))) (list_frames x before after d w l))

  pub block_fixed : (y : Variable) → alone (Declared k) y ≡ false → fixed_by (block first_list) y ≡ fixed_by (block second_list) y
  block_fixed y o = of_children shape.BlockStatement [] 0 (listed first_list ▸ none) y refl ∙ ap (λ f. stricter f Writable) (list_fixed x before after d w l y o) ∙ sym (of_children shape.BlockStatement [] 0 (listed second_list ▸ none) y refl)

  pub block_declares : (y : Name) → Contains (declared (block second_list)) y → Contains (declared (block first_list)) y
  block_declares y c = subst (λ ys. Contains ys y) (sym (append-nil (declared (listed first_list)))) (list_declares x before after d w l y (subst (λ ys. Contains ys y) (append-nil (declared (listed second_list))) c))

  module _ (m : DeclaresThere (resolved s k) d w) (p : Position) (placed : holds_block p ≡ true) where
    abbrev lexical_before : Other x (all_names Lexical before)
    lexical_before = all_other x Lexical before earlier

    abbrev lexical_after : Other x (all_names Lexical after)
    lexical_after = all_other x Lexical after later

    pub block_keeps_there : KeepsLoosely p (block first_list) (block second_list)
    block_keeps_there =
        let u = gone (record { name = x; hoists = false }) before after w (all_unmentioned x k refl before earlier) l.unmentioned (all_unmentioned x k refl after later) in
        block_there p placed first_list second_list (λ q. in_order (Stmt q) (block first_list) (block second_list) (block_keeps x before after d w l n lexical_before lexical_after u q)) (fewer x before after d w l m earlier later [])

    dropped : ((e : Environment) → Unseen (alone (Declared k)) e → (t : Option Tail) → Same e (alone (Declared k)) nothing (Stat t) (block first_list) (block second_list)) → Dropped p k (block first_list) (block second_list)
    dropped same = record {
      keeps = block_keeps_there;
      drops = λ K. record {
        kept = block_kept x before after d w l n lexical_before lexical_after;
        less = block_less x before after d w l n lexical_before lexical_after k refl;
        same = λ e u q f. block_asked e (alone (Declared k)) nothing first_list second_list (same e u.unseen) q;
        fixed = block_fixed;
        frames = λ strict c g f. kept_shown (gone_from K (alone (Declared k))) no_key (frames None (block first_list)) (frames None (block second_list)) block_frames;
        bodies = λ strict c g f a z. from_kept (alone (Declared k)) (bodies a (block first_list)) (bodies a (block second_list)) (block_bodies a);
      };
      declared_there = block_declares;
    }

-- ---- the rows

pub in_tails : (e : Environment) (q : StmtSeat) (D : Variable → Bool) (n w : Tree) → ((t : Option Tail) → Same e D nothing (Stat t) n w) → (d : Demand) → Fits (Stmt q) d → Same e D nothing d n w
in_tails e q D n w h (Stat t) f = h t
in_tails e q D n w h d f = elim f [ ]

moved : (p : Position) (k : ℕ) (n w n' w' : Tree) → n ≡ n' → w ≡ w' → Dropped p k n' w' → Dropped p k n w
moved p k n w n' w' e f d = subst (λ t. Dropped p k t w) (sym e) (subst (Dropped p k n') (sym f) d)

nothing_vanishes : Vanishes absent
unfolding has_inner
nothing_vanishes = record { inner = refl; fixed = λ y. refl }

-- what is not missed leaves nothing behind
pub idle_vanishes : (init : Tree) → is_idle init ≡ true → Vanishes init
idle_vanishes init h = by (is_absent_part init) refl
  where
    by : (b : Bool) → is_absent_part init ≡ b → Vanishes init
    by true a = subst Vanishes (sym (absent_is init a)) nothing_vanishes
    by false a =
        let quiet = (and_parts (declares_nothing init) (is_effect_free init && leaves_nothing init) (sym (ap (λ b. b || (declares_nothing init && (is_effect_free init && leaves_nothing init))) a) ∙ h)).1 in
        vanishes init (and_parts (is_effect_free init) (leaves_nothing init) quiet).1

row_dropped : {o : Switches} (p : Position) → holds_block p ≡ true → (n w : Tree) → BlockRow (without_vars o) n w → (k : ℕ) × Dropped p k n w
row_dropped {o = o} p h n w (inl r) =
    let x = resolved r.spelling r.symbol in (
      r.symbol,
      moved p r.symbol n w _ _ r.shape r.written (dropped r.spelling r.symbol r.before r.after (declared_one r.kind x r.init ▸ none) (expression_statement r.init ▸ none) (value_leaves r.kind x r.symbol refl r.init r.unused.initial) (value_names r.kind x r.symbol refl r.init r.unused.initial (lexical_alone r.kind r.goes)) r.unused.earlier r.unused.later (value_declares r.kind x r.symbol refl r.init r.unused.initial) p h
          (λ e z. row_72 {o = o} e r.symbol z _ _ (record { before = r.before; kind = r.kind; spelling = r.spelling; symbol = r.symbol; init = r.init; after = r.after; goes = r.goes; present = r.present; unused = r.unused; shape = refl; written = refl }) refl)),
    )
row_dropped {o = o} p h n w (inr (inl r)) =
    let x = resolved r.spelling r.symbol in
    let v = idle_vanishes r.init r.idle in (
      r.symbol,
      moved p r.symbol n w _ _ r.shape r.written (dropped r.spelling r.symbol r.before r.after (declared_among r.kind x r.first r.init r.last ▸ none) (declared_left r.kind (append r.first r.last) ▸ none) (idle_leaves r.kind x r.symbol refl r.first r.init r.last v r.unused.declared_earlier r.unused.declared_later) (idle_names r.kind x r.symbol refl r.first r.init r.last v r.unused.declared_earlier r.unused.declared_later (lexical_alone r.kind r.goes)) r.unused.earlier r.unused.later (idle_declares r.kind x r.symbol refl r.first r.init r.last v r.unused.declared_earlier r.unused.declared_later) p h
          (λ e z. row_72_idle {o = o} e r.symbol z _ _ (record { before = r.before; kind = r.kind; first = r.first; spelling = r.spelling; symbol = r.symbol; init = r.init; last = r.last; after = r.after; goes = r.goes; idle = r.idle; unused = r.unused; shape = refl; written = refl }) refl)),
    )
row_dropped {o = o} p h n w (inr (inr (inl r))) =
    let x = resolved r.spelling r.symbol in
    let plain = movable o r.init r.moves in (
      r.symbol,
      moved p r.symbol n w _ _ r.shape r.written (dropped r.spelling r.symbol r.before r.after (declared_among r.kind x r.first r.init none ▸ (r.head ▸ none)) (declared_left r.kind r.first ▸ (put_first x r.init r.head ▸ none)) (taken_leaves r.kind x r.symbol refl r.first r.init r.head plain r.initial r.declared_earlier r.taken) (taken_names r.kind x r.symbol refl r.first r.init r.head plain r.initial r.declared_earlier r.taken (lexical_alone r.kind r.goes)) r.earlier r.later (taken_declares r.kind x r.symbol refl r.first r.init r.head plain r.initial r.declared_earlier r.taken) p h
          (λ e z. row_71 {o = o} e r.symbol z _ _ (record { before = r.before; kind = r.kind; first = r.first; spelling = r.spelling; symbol = r.symbol; init = r.init; head = r.head; after = r.after; goes = r.goes; moves = r.moves; taken = r.taken; earlier = r.earlier; declared_earlier = r.declared_earlier; initial = r.initial; later = r.later; unseen = r.unseen; shape = refl; written = refl }) refl)),
    )
row_dropped {o = o} p h n w (inr (inr (inr r))) =
    let x = resolved r.spelling r.symbol in (
      r.symbol,
      moved p r.symbol n w _ _ r.shape r.written (dropped r.spelling r.symbol r.before r.after (declared_among r.kind x r.first r.init (declarator r.binds r.value ▸ r.last) ▸ none) (declaration r.kind (append r.first (declarator r.binds (put_first x r.init r.value) ▸ r.last)) ▸ none) (next_leaves r.kind x r.symbol refl r.first r.init r.binds r.value r.last r.once r.declared_earlier r.initial r.other r.declared_later (movable o r.init r.moves)) (next_names r.kind x r.symbol refl r.first r.init r.binds r.value r.last r.once r.declared_earlier r.initial r.other r.declared_later (lexical_alone r.kind r.goes)) r.earlier r.later (next_declares r.kind x r.symbol refl r.first r.init r.binds r.value r.last r.once r.declared_earlier r.initial r.other r.declared_later) p h
          (λ e z. row_71_next {o = o} e r.symbol z _ _ (record { before = r.before; kind = r.kind; first = r.first; spelling = r.spelling; symbol = r.symbol; init = r.init; binds = r.binds; value = r.value; last = r.last; after = r.after; goes = r.goes; moves = r.moves; once = r.once; passed = r.passed; other = r.other; earlier = r.earlier; declared_earlier = r.declared_earlier; initial = r.initial; declared_later = r.declared_later; later = r.later; unseen = r.unseen; shape = refl; written = refl }) refl)),
    )

record Blocks (n w : Tree) : Type 0 where
  first : Trees
  second : Trees
  before : n ≡ block first
  after : w ≡ block second
  fitting : (strict : Bool) → fill strict (each item) first ≡ true → fill strict (each item) second ≡ true

row_blocks : {o : Switches} (n w : Tree) → BlockRow (without_vars o) n w → Blocks n w
row_blocks {o = o} n w (inl r) =
    let d = declared_one r.kind (resolved r.spelling r.symbol) r.init in
    record { first = append r.before (d ▸ r.after); second = append r.before (expression_statement r.init ▸ r.after); before = r.shape; after = r.written; fitting = λ strict. one_item strict r.before r.after d (expression_statement r.init) (value_fits strict r.kind (resolved r.spelling r.symbol) r.init r.present) }
row_blocks {o = o} n w (inr (inl r)) =
    let x = resolved r.spelling r.symbol in
    let d = declared_among r.kind x r.first r.init r.last in
    let left = declared_left r.kind (append r.first r.last) in
    record { first = append r.before (d ▸ r.after); second = append r.before (left ▸ r.after); before = r.shape; after = r.written; fitting = λ strict. one_item strict r.before r.after d left (left_fits strict r.kind x r.first r.init r.last) }
row_blocks {o = o} n w (inr (inr (inl r))) =
    let x = resolved r.spelling r.symbol in
    let d = declared_among r.kind x r.first r.init none in
    let left = declared_left r.kind r.first in
    record {
      first = append r.before (d ▸ (r.head ▸ r.after));
      second = append r.before (left ▸ (put_first x r.init r.head ▸ r.after));
      before = r.shape;
      after = r.written;
      fitting = λ strict. two_items strict r.before r.after d r.head left (put_first x r.init r.head) (λ f g. taken_fits strict r.kind x r.first r.init r.head (movable o r.init r.moves) r.taken f g);
    }
row_blocks {o = o} n w (inr (inr (inr r))) =
    let x = resolved r.spelling r.symbol in
    let d = declared_among r.kind x r.first r.init (declarator r.binds r.value ▸ r.last) in
    let left = declaration r.kind (append r.first (declarator r.binds (put_first x r.init r.value) ▸ r.last)) in
    record { first = append r.before (d ▸ r.after); second = append r.before (left ▸ r.after); before = r.shape; after = r.written; fitting = λ strict. one_item strict r.before r.after d left (next_fits strict r.kind x r.first r.init r.binds r.value r.last (movable o r.init r.moves) r.once (inr (value_passed (resolved r.spelling r.symbol) r.init r.value r.passed))) }

-- of two blocks, whatever is told by their shape
shaped : (n w : Tree) (P : Tree → Tree → Type 0) → ((first_list second_list : Trees) → P (block first_list) (block second_list)) → Blocks n w → P n w
shaped n w P f b = subst (λ t. P t w) (sym b.before) (subst (P (block b.first)) (sym b.after) (f b.first b.second))

pub blocks_asked : (p : Position) (first_list second_list : Trees) → AskedAlike p (block first_list) (block second_list)
blocks_asked p first_list second_list = record { absent = λ g. absurd (true≢false (sym g)); body = λ g. absurd (true≢false (sym g)); optional = λ g. absurd (true≢false (sym g)); number = λ g h. refl; spelled = λ r g. absurd (cc g); plain = refl }

in_place : {o : Switches} (p : Position) (n w : Tree) → BlockRow (without_vars o) n w → (strict : Bool) (s : Slot) → fits strict s n ≡ true → (fits strict s w ≡ true) × (is_body_slot p s ≡ true)
in_place p n w r strict s e =
    let b = row_blocks n w r in
    let (f, g) = in_slot b.first b.second b.fitting strict p s (sym (ap (fits strict s) b.before) ∙ e) in
    (ap (fits strict s) b.after ∙ f, g)

-- of a statement, or of a block of a `try`
abbrev pub OfBlock : Switches → Position → Tree → Tree → Type 0
OfBlock o (Stmt q) n w = BlockRow (without_vars o) n w
OfBlock o Elsewhere n w = BlockRow (without_vars o) n w
OfBlock o p n w = ⊥

-- whichever place it is
at_block : {o : Switches} (P : Position → Tree → Tree → Type 0) → ((p : Position) → holds_block p ≡ true → (n w : Tree) → BlockRow (without_vars o) n w → P p n w) → (p : Position) (n w : Tree) → OfBlock o p n w → P p n w
at_block P f (Stmt q) n w c = f (Stmt q) refl n w c
at_block P f Elsewhere n w c = f Elsewhere refl n w c
at_block P f p n w c = absurd c

pub blocks_loose : (o : Switches) (K : Shape → Bool) → LawfulLoosely K (OfBlock o)
blocks_loose o K = record {
  shapes = record {
    fitting = at_block (λ p n w. (strict : Bool) (s : Slot) → fits_place p s ≡ true → fits strict s n ≡ true → fits strict s w ≡ true) (λ p h n w r strict s o e. (in_place p n w r strict s e).0);
    asked = at_block AskedAlike (λ p h n w r. shaped n w (AskedAlike p) (blocks_asked p) (row_blocks n w r));
  };
  places = record {
    names = record {
      places = at_block (λ p n w. (is_rewritten_place p ≡ true) ⊎ KeepsRoot p n w) (λ p h n w r. shaped n w (λ n w. (is_rewritten_place p ≡ true) ⊎ KeepsRoot p n w) (block_placed p h) (row_blocks n w r));
      pieces = at_block (λ p n w. is_piece (shape_of n) ≡ false) (λ p h n w r. ap (λ t. is_piece (shape_of t)) (row_blocks n w r).before);
      keeps = at_block (λ p n w. (strict : Bool) (s : Slot) → fits_place p s ≡ true → fits strict s n ≡ true → KeepsLoosely p n w) (λ p h n w r strict s o e. (row_dropped p h n w r).1.keeps);
    };
    slots = at_block (λ p n w. (strict : Bool) (s : Slot) → fits_place p s ≡ true → fits strict s n ≡ true → ((is_body_slot p s ≡ true) ⊎ IsShownAlike s n w) ⊎ KeepsHolder n w) (λ p h n w r strict s o e. inl (inl (in_place p n w r strict s e).1));
    ports = at_block (λ p n w. (strict : Bool) (d : Depth) → fits strict (one (a_statement d)) n ≡ true → (m : Bool) → NoPort m n w ⊎ KeepsFunction n w) (λ p h n w r strict d e m. inl (shaped n w (NoPort m) (λ first_list second_list. (refl, refl)) (row_blocks n w r)));
    listed = λ p n w e c. absurd (at_block (λ p n w. is_statement_list p ≡ true → ⊥) (λ p h n w r e. no_list p h e) p n w c e);
    exported = at_block (λ p n w. (strict : Bool) → fits strict (one a_default_export) n ≡ true → NoDeclaration n w ⊎ KeepsFunction n w) (λ p h n w r strict e. inl (shaped n w NoDeclaration (λ first_list second_list. (refl, refl)) (row_blocks n w r)));
  };
  reads = at_block (λ p n w. summary n ≡ summary w) (λ p h n w r. shaped n w (λ t v. summary t ≡ summary v) (λ first_list second_list. refl) (row_blocks n w r));
  kind = at_block (λ p n w. (strict : Bool) (s : Slot) → fits strict s n ≡ true → arrow_kind (shape_of n) ≡ arrow_kind (shape_of w)) (λ p h n w r strict s e. shaped n w (λ t v. arrow_kind (shape_of t) ≡ arrow_kind (shape_of v)) (λ first_list second_list. refl) (row_blocks n w r));
  declared = at_block (λ p n w. (y : Name) → Contains (declared w) y → Contains (declared n) y) (λ p h n w r. (row_dropped p h n w r).1.declared_there);
  instances = at_block (λ p n w. Stays p n w ⊎ ((k : ℕ) × Drops K k p n w)) (λ p h n w r. let d = row_dropped p h n w r in inr (d.0, d.1.drops K));
}
