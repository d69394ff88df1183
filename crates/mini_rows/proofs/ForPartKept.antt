-- A `for` for a part of whose head another is written, or none, keeps what it has to keep.
use Rattle.std.specs.Prelude.{ℕ, suc, ◌≡◌, ◌⊎◌, ◌&&◌, ◌||◌, refl, Bool, true, false, List, [], ◌++◌, Contains, None}
use Rattle.std.proofs.Common.{ap, ◌∙◌, sym, subst, arith, inl, inr, true≢false}
use Rattle.std.proofs.lemmas.Bool.{and_parts}
use Rattle.std.proofs.lemmas.List.{append-nil}
use Rattle.std.proofs.lemmas.List.Elements.{Contains-append_left, Contains-append_right, Contains-append_cases}
use Rattle.mini_model.specs.declared.name.Name.{Name}
use Rattle.mini_model.specs.declared.place.Position.{Position}
use Rattle.mini_model.specs.declared.place.Position.TheVariants.{Expr, Stmt}
use Rattle.mini_model.specs.declared.seat.StmtSeat.{StmtSeat}
use Rattle.mini_model.specs.declared.shape.Shape.{Shape}
use Rattle.mini_model.specs.declared.shape.Shape.TheVariants as shape
use Rattle.mini_model.specs.Tree.{Tree, node, none, ◌▸◌, shape_of, absent}
use Rattle.mini_model.specs.Position.{statement_expression_seat, child_position}
use Rattle.mini_model.specs.Rewriting.{Step, here, inside, first, later}
use Rattle.mini_accept.specs.WellShaped.{Class, an_init, an_expression, Slot, one, one_or_absent, fits}
use Rattle.mini_laws.specs.declared.names.Use.{Use}
use Rattle.mini_laws.specs.declared.names.Use.TheVariants.{Read}
use Rattle.mini_laws.specs.DeclaredNames.{has_inner, is_inner}
use Rattle.mini_laws.specs.Scopes.{scopes_by}
use Rattle.mini_laws.specs.Scoped.{Scoped}
use Rattle.mini_laws.specs.Symbols.{declared as declared_in, times}
use Rattle.mini_laws.specs.Early.{scope_declarations, early_names, targets_of, early_jumps}
use Rattle.mini_laws.specs.Value.{Variable}
use Rattle.mini_laws.specs.Fixity.{stricter, fixed_by, fixed_by_any}
use Rattle.mini_laws.specs.Bodies.{Around, Body, bodies, bodies_from}
use Rattle.mini_kept.specs.AlikeBodies.{BodiesKept}
use Rattle.mini_kept.specs.Carried.{numbers}
use Rattle.mini_kept.specs.Declaring.{declared as names_declared, declared_all}
use Rattle.mini_kept.specs.Frames.{Frame, frames, frames_from, FramesKept}
use Rattle.mini_kept.specs.KeepsNames.{is_read, is_rewritten_place, unplaced, Keeps}
use Rattle.mini_kept.specs.KeepsLoosely.{KeepsLoosely}
use Rattle.mini_kept.specs.Lifted.{is_piece, KeepsNames, InitStays}
use Rattle.mini_kept.specs.Placed.{fits_place}
use Rattle.mini_kept.proofs.BodyLists as body_lists
use Rattle.mini_kept.proofs.BodyLists.{kept_itself}
use Rattle.mini_kept.proofs.FrameLists as frame_lists
use Rattle.mini_kept.proofs.Anywhere.{once_anywhere, targets_anywhere}
use Rattle.mini_kept.proofs.Bools.{left, right, both}
use Rattle.mini_kept.proofs.Fixed.{of_children}
use Rattle.mini_kept.proofs.InOrder.{in_order}
use Rattle.mini_kept.proofs.Quiet.{IsQuiet, is_quiet, no_names, no_body_names, no_body_declarations, no_loop, same_symbols}
use Rattle.mini_kept.proofs.Rows.{statement}
use Rattle.mini_kept.proofs.Stepping.{step_keeps}
use Rattle.mini_terms.specs.Reading.{is_plain_part, is_plain_part_by}
use Rattle.mini_rows.specs.Arranged.{KeptAt, Vanishes, WrittenFor}
use Rattle.mini_rows.specs.Lists.{for_loop}
use Rattle.mini_rows.proofs.BranchLawful.{as_statement}

-- ---- of one part of a head, and what is written for it

abbrev pub Place : Position
Place = Expr statement_expression_seat

-- which stands there as an expression of this class
pub record PartKept (c : Class) (n w : Tree) : Type 0 where
  pub names : (strict : Bool) (s : Slot) → fits_place Place s ≡ true → fits strict s n ≡ true → KeepsLoosely Place n w
  pub piece : is_piece (shape_of n) ≡ false
  pub bodies_kept : (strict : Bool) → fits strict (one_or_absent c) n ≡ true → (a : Around) → a.constructs ≡ false → a.is_assigned ≡ false → BodiesKept (bodies a n) (bodies a w)
  pub frames_kept : (strict : Bool) → fits strict (one_or_absent c) n ≡ true → FramesKept (frames None n) (frames None w)
  pub fixed_same : (z : Variable) → fixed_by n z ≡ fixed_by w z
  pub declared_kept : (x : Name) → Contains (names_declared w) x → Contains (names_declared n) x

-- ---- none for one that holds nothing

plain_shape_is_quiet : (h : Shape) (b : Bool) → is_plain_part_by h b ≡ true → is_quiet h ≡ true
plain_shape_is_quiet shape.Listed b e = absurd (true≢false (sym e))
plain_shape_is_quiet shape.BlockStatement b e = absurd (true≢false (sym e))
plain_shape_is_quiet shape.LabeledStatement b e = absurd (true≢false (sym e))
plain_shape_is_quiet shape.IfStatement b e = absurd (true≢false (sym e))
plain_shape_is_quiet shape.SwitchStatement b e = absurd (true≢false (sym e))
plain_shape_is_quiet shape.SwitchCase b e = absurd (true≢false (sym e))
plain_shape_is_quiet shape.TryStatement b e = absurd (true≢false (sym e))
plain_shape_is_quiet shape.CatchClause b e = absurd (true≢false (sym e))
plain_shape_is_quiet shape.WhileStatement b e = absurd (true≢false (sym e))
plain_shape_is_quiet shape.DoWhileStatement b e = absurd (true≢false (sym e))
plain_shape_is_quiet shape.ForStatement b e = absurd (true≢false (sym e))
plain_shape_is_quiet shape.ForInStatement b e = absurd (true≢false (sym e))
plain_shape_is_quiet shape.ForOfStatement b e = absurd (true≢false (sym e))
plain_shape_is_quiet (shape.VariableDeclaration k) b e = absurd (true≢false (sym e))
plain_shape_is_quiet shape.VariableDeclarator b e = absurd (true≢false (sym e))
plain_shape_is_quiet (shape.Function true g ds) b e = absurd (true≢false (sym e))
plain_shape_is_quiet (shape.Class true) b e = absurd (true≢false (sym e))
plain_shape_is_quiet shape.FunctionBody b e = absurd (true≢false (sym e))
plain_shape_is_quiet shape.ImportDeclaration b e = absurd (true≢false (sym e))
plain_shape_is_quiet shape.ImportSpecifier b e = absurd (true≢false (sym e))
plain_shape_is_quiet shape.ImportDefaultSpecifier b e = absurd (true≢false (sym e))
plain_shape_is_quiet shape.ImportNamespaceSpecifier b e = absurd (true≢false (sym e))
plain_shape_is_quiet shape.ExportNamedDeclaration b e = absurd (true≢false (sym e))
plain_shape_is_quiet shape.ExportDefaultDeclaration b e = absurd (true≢false (sym e))
plain_shape_is_quiet shape.BindingIdentifier b e = absurd (true≢false (sym e))
plain_shape_is_quiet shape.ObjectPattern b e = absurd (true≢false (sym e))
plain_shape_is_quiet shape.ArrayPattern b e = absurd (true≢false (sym e))
plain_shape_is_quiet (shape.BindingProperty shorthand computed) b e = absurd (true≢false (sym e))
plain_shape_is_quiet shape.RestElement b e = absurd (true≢false (sym e))
plain_shape_is_quiet shape.AssignmentPattern b e = absurd (true≢false (sym e))
plain_shape_is_quiet shape.ObjectAssignmentTarget b e = absurd (true≢false (sym e))
plain_shape_is_quiet shape.ArrayAssignmentTarget b e = absurd (true≢false (sym e))
plain_shape_is_quiet shape.AssignmentTargetPropertyIdentifier b e = absurd (true≢false (sym e))
plain_shape_is_quiet (shape.AssignmentTargetPropertyProperty computed) b e = absurd (true≢false (sym e))
plain_shape_is_quiet h b e = refl

pub plain_is_quiet : (t : Tree) → is_plain_part t ≡ true → IsQuiet t
plain_is_quiet (node h xs n ts) e = plain_shape_is_quiet h _ e

plain_piece : (h : Shape) (b : Bool) → is_plain_part_by h b ≡ true → is_piece h ≡ false
plain_piece (shape.TemplateElement l raw cooked) b e = absurd (true≢false (sym e))
plain_piece h b e = refl

plain_is_no_piece : (t : Tree) → is_plain_part t ≡ true → is_piece (shape_of t) ≡ false
plain_is_no_piece (node h xs n ts) e = plain_piece h _ e

module _ (t : Tree) (q : IsQuiet t) (v : Vanishes t) where
  gone_keeps : Keeps Place t absent
  unfolding has_inner declared_in scopes_by Scoped numbers early_names scope_declarations early_jumps targets_of
  gone_keeps = record {
    kept = record { names = λ d. no_names d absent refl ∙ sym (no_names d t q); body = no_body_names absent refl ∙ sym (no_body_names t q); inner = sym v.inner; symbols = λ u x. omega arith };
    scoped = λ u env st a. (tt, tt);
    numbers = λ k. omega arith;
    declared_as_body = λ b p. ap unplaced (no_body_declarations b p absent refl ∙ sym (no_body_declarations b p t q));
    once = λ p a. refl;
    targets = λ g p a. refl;
    loop = no_loop absent refl ∙ sym (no_loop t q);
    root = λ e. absurd (cc e);
    block = λ e. absurd (cc e);
  }

  nothing_fixed : (z : Variable) → fixed_by t z ≡ fixed_by absent z
  nothing_fixed z = v.fixed z ∙ sym (of_children shape.Absent [] 0 none z refl)

pub in_nothing : {A : Type 0} (xs : List A) (x : A) → Contains [] x → Contains xs x
in_nothing xs x c = subst (λ ys. Contains ys x) (append-nil xs) (Contains-append_right xs [] x c)

pub gone : (c : Class) (t : Tree) → is_plain_part t ≡ true → Vanishes t → PartKept c t absent
gone c t p v = record {
  names = λ strict s o f. in_order Place t absent (gone_keeps t (plain_is_quiet t p) v);
  piece = plain_is_no_piece t p;
  bodies_kept = λ strict e a k i. tt;
  frames_kept = λ strict e f k. in_nothing (frames None t) f k;
  fixed_same = nothing_fixed t (plain_is_quiet t p) v;
  declared_kept = λ x c. in_nothing (names_declared t) x c;
}

-- ---- an expression that is written for another

read_as : (v : Use) → is_read v ≡ true → v ≡ Read
read_as Read e = refl
read_as v e = absurd (cc e)

module _ (x y : Tree) (p : IsQuiet x) (q : IsQuiet y) (o : is_inner (shape_of x) ≡ false) (l : WrittenFor x y) where
  other_keeps : Keeps Place x y
  other_keeps = record {
    kept = record {
      names = λ d. no_names d y q ∙ sym (no_names d x p);
      body = no_body_names y q ∙ sym (no_body_names x p);
      inner = l.inner;
      symbols = λ u a. omega (arith, l.symbols a, ap (times a) (same_symbols u y q), ap (times a) (same_symbols u x p));
    };
    scoped = λ u env st a. let read = read_as u (sym (ap (λ b. b || is_read u) o) ∙ st) in subst (λ v. Scoped v env y) (sym read) (l.scoped env (subst (λ v. Scoped v env x) read a));
    numbers = l.numbers;
    declared_as_body = λ b r. ap unplaced (no_body_declarations b r y q ∙ sym (no_body_declarations b r x p));
    once = λ r a. once_anywhere [] r y (l.once (once_anywhere r [] x a));
    targets = λ g r a. targets_anywhere g [] r y (l.targets g (targets_anywhere g r [] x a));
    loop = no_loop y q ∙ sym (no_loop x p);
    root = λ e. absurd (cc e);
    block = λ e b r. absurd (cc e);
  }

  -- where it fits as an expression wherever it fits so
  pub other_kept : (c : Class) → is_piece (shape_of x) ≡ false → ((strict : Bool) → fits strict (one_or_absent c) x ≡ true → fits strict (one an_expression) x ≡ true) → PartKept c x y
  other_kept c no_piece as_expression = record {
    names = λ strict s u f. in_order Place x y other_keeps;
    piece = no_piece;
    bodies_kept = λ strict f a k i. l.bodies strict (as_expression strict f) a k i;
    frames_kept = λ strict f. l.frames strict (as_expression strict f);
    fixed_same = λ z. sym (l.fixed z);
    declared_kept = l.declared;
  }

-- ---- where it stands

abbrev rest_of : Bool → Tree → Tree → Bool
rest_of strict u b = fits strict (one_or_absent an_expression) u && (fits strict statement b && true)

pub of_init : (strict : Bool) (i t u b : Tree) → fits strict statement (for_loop i t u b) ≡ true → fits strict (one_or_absent an_init) i ≡ true
of_init strict i t u b e = left (fits strict (one_or_absent an_init) i) (fits strict (one_or_absent an_expression) t && rest_of strict u b) e

pub init_fits : (strict : Bool) (i t u b : Tree) → fits strict statement (for_loop i t u b) ≡ true → fits strict statement (for_loop absent t u b) ≡ true
init_fits strict i t u b e = right (fits strict (one_or_absent an_init) i) (fits strict (one_or_absent an_expression) t && rest_of strict u b) e

pub other_init_fits : (strict : Bool) (i j t u b : Tree) → fits strict (one_or_absent an_init) j ≡ true → fits strict statement (for_loop i t u b) ≡ true → fits strict statement (for_loop j t u b) ≡ true
other_init_fits strict i j t u b f e =
    both (fits strict (one_or_absent an_init) j) (fits strict (one_or_absent an_expression) t && rest_of strict u b) f
    (right (fits strict (one_or_absent an_init) i) (fits strict (one_or_absent an_expression) t && rest_of strict u b) e)

pub of_update : (strict : Bool) (i t u b : Tree) → fits strict statement (for_loop i t u b) ≡ true → fits strict (one_or_absent an_expression) u ≡ true
of_update strict i t u b e = left (fits strict (one_or_absent an_expression) u) (fits strict statement b && true) (right (fits strict (one_or_absent an_expression) t) (rest_of strict u b) (right (fits strict (one_or_absent an_init) i) (fits strict (one_or_absent an_expression) t && rest_of strict u b) e))

pub update_fits : (strict : Bool) (i t u v b : Tree) → fits strict (one_or_absent an_expression) v ≡ true → fits strict statement (for_loop i t u b) ≡ true → fits strict statement (for_loop i t v b) ≡ true
update_fits strict i t u v b f e =
    let (x, y) = and_parts (fits strict (one_or_absent an_init) i) (fits strict (one_or_absent an_expression) t && rest_of strict u b) e in
    let (z, r) = and_parts (fits strict (one_or_absent an_expression) t) (rest_of strict u b) y in
    let (old, body) = and_parts (fits strict (one_or_absent an_expression) u) (fits strict statement b && true) r in
    both (fits strict (one_or_absent an_init) i) (fits strict (one_or_absent an_expression) t && rest_of strict v b) x
    (both (fits strict (one_or_absent an_expression) t) (rest_of strict v b) z (both (fits strict (one_or_absent an_expression) v) (fits strict statement b && true) f body))

-- ---- the step in the head

abbrev Rewrites : Class → Position → Tree → Tree → Type 0
Rewrites c p n w = (p ≡ Place) × PartKept c n w

rewrites_keep : (c : Class) → KeepsNames (Rewrites c)
rewrites_keep c = record { places = λ p n w r. inl (ap is_rewritten_place r.0); pieces = λ p n w r. r.1.piece; keeps = λ p n w r strict s o f. keep p n w r.0 r.1 strict s o f }
  where
    keep : (p : Position) (n w : Tree) → p ≡ Place → PartKept c n w → (strict : Bool) (s : Slot) → fits_place p s ≡ true → fits strict s n ≡ true → KeepsLoosely p n w
    keep p n w e k strict s o f = subst (λ p. KeepsLoosely p n w) (sym e) (k.names strict s (subst (λ p. fits_place p s ≡ true) e o) f)

-- none is made in an initializer
is_unused : Position → Bool
is_unused (Expr s) = s.unused
is_unused p = false

no_initializer : (c : Class) → InitStays (Rewrites c)
unfolding is_unused
no_initializer c n w r strict e = absurd (true≢false (sym (ap is_unused r.0)))

each_declared : (ns ms ks ls : List Name) → ((x : Name) → Contains ms x → Contains ns x) → ((x : Name) → Contains ls x → Contains ks x) → (x : Name) → Contains (ms ++ ls) x → Contains (ns ++ ks) x
each_declared ns ms ks ls h k x c = go (Contains-append_cases ms ls x c)
  where
    go : Contains ms x ⊎ Contains ls x → Contains (ns ++ ks) x
    go (inl d) = Contains-append_left ns ks x (h x d)
    go (inr d) = Contains-append_right ns ks x (k x d)

module _ (q : StmtSeat) (x y : Tree) where
  abbrev inner : Around → Around
  inner a = record a { constructs = false; is_assigned = false }

  module _ (k : PartKept an_init x y) (t u b : Tree) where
    init_step : Step (Rewrites an_init) (Stmt q) (for_loop x t u b) (for_loop y t u b)
    init_step = inside (Stmt q) shape.ForStatement [] 0 (x ▸ (t ▸ (u ▸ (b ▸ none)))) (y ▸ (t ▸ (u ▸ (b ▸ none)))) (first (child_position shape.ForStatement (Stmt q) 4) x y (t ▸ (u ▸ (b ▸ none))) (here Place x y (refl, k)))

    init_bodies : (strict : Bool) → fits strict statement (for_loop x t u b) ≡ true → (a : Around) → BodiesKept (bodies a (for_loop x t u b)) (bodies a (for_loop y t u b))
    init_bodies strict e a =
        let rest : List Body = bodies_from (λ i. inner a) 1 (t ▸ (u ▸ (b ▸ none))) in
        body_lists.each_of (bodies (inner a) x) rest (bodies (inner a) y) rest (k.bodies_kept strict (of_init strict x t u b e) (inner a) refl refl) (kept_itself rest)

    init_frames : (strict : Bool) → fits strict statement (for_loop x t u b) ≡ true → FramesKept (frames None (for_loop x t u b)) (frames None (for_loop y t u b))
    init_frames strict e =
        let rest : List Frame = frames_from (λ i. None) 1 (t ▸ (u ▸ (b ▸ none))) in
        frame_lists.each_of (frames None x) rest (frames None y) rest (k.frames_kept strict (of_init strict x t u b e)) (λ f c. c)

    init_fixed : (z : Variable) → fixed_by (for_loop x t u b) z ≡ fixed_by (for_loop y t u b) z
    init_fixed z =
        of_children shape.ForStatement [] 0 (x ▸ (t ▸ (u ▸ (b ▸ none)))) z refl
        ∙ ap (λ f. stricter f (fixed_by_any (t ▸ (u ▸ (b ▸ none))) z)) (k.fixed_same z)
        ∙ sym (of_children shape.ForStatement [] 0 (y ▸ (t ▸ (u ▸ (b ▸ none)))) z refl)

    init_declared : (z : Name) → Contains (names_declared (for_loop y t u b)) z → Contains (names_declared (for_loop x t u b)) z
    init_declared = each_declared (names_declared x) (names_declared y) (declared_all (t ▸ (u ▸ (b ▸ none)))) (declared_all (t ▸ (u ▸ (b ▸ none)))) k.declared_kept (λ z c. c)

    pub init_kept : KeptAt (Stmt q) (for_loop x t u b) (for_loop y t u b)
    init_kept = record {
      keeps = λ strict s o f. step_keeps (Rewrites an_init) (rewrites_keep an_init) (no_initializer an_init) init_step strict s o f;
      piece = refl;
      kind = λ strict s f. refl;
      bodies = λ strict s o f a st. init_bodies strict (as_statement strict s (for_loop x t u b) refl refl f) a;
      ports = λ strict d f m. (refl, refl);
      listed = λ l. absurd (cc l);
      exported = λ strict f. (refl, refl);
      frames = λ strict s o f. init_frames strict (as_statement strict s (for_loop x t u b) refl refl f);
      fixed = init_fixed;
      declared = init_declared;
    }

  module _ (k : PartKept an_expression x y) (i t b : Tree) where
    abbrev update_places : ℕ → Position
    update_places = child_position shape.ForStatement (Stmt q) 4

    update_step : Step (Rewrites an_expression) (Stmt q) (for_loop i t x b) (for_loop i t y b)
    update_step =
        inside (Stmt q) shape.ForStatement [] 0 (i ▸ (t ▸ (x ▸ (b ▸ none)))) (i ▸ (t ▸ (y ▸ (b ▸ none))))
        (later update_places i (t ▸ (x ▸ (b ▸ none))) (t ▸ (y ▸ (b ▸ none)))
        (later (λ j. update_places (suc j)) t (x ▸ (b ▸ none)) (y ▸ (b ▸ none))
        (first (λ j. update_places (suc (suc j))) x y (b ▸ none) (here Place x y (refl, k)))))

    update_bodies : (strict : Bool) → fits strict statement (for_loop i t x b) ≡ true → (a : Around) → BodiesKept (bodies a (for_loop i t x b)) (bodies a (for_loop i t y b))
    update_bodies strict e a =
        let bi : List Body = bodies (inner a) i in
        let bt : List Body = bodies (inner a) t in
        let bx : List Body = bodies (inner a) x in
        let by : List Body = bodies (inner a) y in
        let rest : List Body = bodies_from (λ j. inner a) 3 (b ▸ none) in
        body_lists.each_of bi (bt ++ (bx ++ rest)) bi (bt ++ (by ++ rest)) (kept_itself bi)
        (body_lists.each_of bt (bx ++ rest) bt (by ++ rest) (kept_itself bt)
        (body_lists.each_of bx rest by rest (k.bodies_kept strict (of_update strict i t x b e) (inner a) refl refl) (kept_itself rest)))

    update_frames : (strict : Bool) → fits strict statement (for_loop i t x b) ≡ true → FramesKept (frames None (for_loop i t x b)) (frames None (for_loop i t y b))
    update_frames strict e =
        let fi : List Frame = frames None i in
        let ft : List Frame = frames None t in
        let fx : List Frame = frames None x in
        let fy : List Frame = frames None y in
        let rest : List Frame = frames_from (λ j. None) 3 (b ▸ none) in
        frame_lists.each_of fi (ft ++ (fx ++ rest)) fi (ft ++ (fy ++ rest)) (λ f c. c)
        (frame_lists.each_of ft (fx ++ rest) ft (fy ++ rest) (λ f c. c)
        (frame_lists.each_of fx rest fy rest (k.frames_kept strict (of_update strict i t x b e)) (λ f c. c)))

    update_fixed : (z : Variable) → fixed_by (for_loop i t x b) z ≡ fixed_by (for_loop i t y b) z
    update_fixed z =
        of_children shape.ForStatement [] 0 (i ▸ (t ▸ (x ▸ (b ▸ none)))) z refl
        ∙ ap (λ f. stricter (fixed_by i z) (stricter (fixed_by t z) (stricter f (fixed_by_any (b ▸ none) z)))) (k.fixed_same z)
        ∙ sym (of_children shape.ForStatement [] 0 (i ▸ (t ▸ (y ▸ (b ▸ none)))) z refl)

    update_declared : (z : Name) → Contains (names_declared (for_loop i t y b)) z → Contains (names_declared (for_loop i t x b)) z
    update_declared =
        let rest : List Name = declared_all (b ▸ none) in
        each_declared (names_declared i) (names_declared i) (names_declared t ++ (names_declared x ++ rest)) (names_declared t ++ (names_declared y ++ rest)) (λ z c. c)
        (each_declared (names_declared t) (names_declared t) (names_declared x ++ rest) (names_declared y ++ rest) (λ z c. c)
        (each_declared (names_declared x) (names_declared y) rest rest k.declared_kept (λ z c. c)))

    pub update_kept : KeptAt (Stmt q) (for_loop i t x b) (for_loop i t y b)
    update_kept = record {
      keeps = λ strict s o f. step_keeps (Rewrites an_expression) (rewrites_keep an_expression) (no_initializer an_expression) update_step strict s o f;
      piece = refl;
      kind = λ strict s f. refl;
      bodies = λ strict s o f a st. update_bodies strict (as_statement strict s (for_loop i t x b) refl refl f) a;
      ports = λ strict d f m. (refl, refl);
      listed = λ l. absurd (cc l);
      exported = λ strict f. (refl, refl);
      frames = λ strict s o f. update_frames strict (as_statement strict s (for_loop i t x b) refl refl f);
      fixed = update_fixed;
      declared = update_declared;
    }
