-- A statement that is built anew, with other expressions written for some of its parts, is kept.
use Rattle.std.specs.Prelude.{ℕ, ◌≤◌, ◌≡◌, refl, ◌&&◌, ◌||◌, Bool, true, false, List, [], ◌∷◌, ◌++◌, Contains, Option, None}
use Rattle.std.proofs.Common.{ap, ◌∙◌, sym, subst, arith}
use Rattle.std.proofs.lemmas.Bool.{and_parts}
use Rattle.mini_model.specs.declared.name.Name.{Name}
use Rattle.mini_model.specs.declared.name.SymbolId.{SymbolId}
use Rattle.mini_model.specs.declared.place.Position.TheVariants.{Stmt}
use Rattle.mini_model.specs.declared.seat.StmtSeat.{StmtSeat}
use Rattle.mini_model.specs.Tree.{Tree, child_or_absent}
use Rattle.mini_accept.specs.WellShaped.{an_expression, Slot, one, fits}
use Rattle.mini_laws.specs.declared.names.Targets.{Targets}
use Rattle.mini_laws.specs.declared.names.Use.{Use}
use Rattle.mini_laws.specs.Resolved.{Environment}
use Rattle.mini_laws.specs.declared.names.Declaration.{Declaration}
use Rattle.mini_laws.specs.declared.names.Declared.{Declared}
use Rattle.mini_laws.specs.declared.names.Declared.TheVariants as declared
use Rattle.mini_laws.specs.DeclaredNames.{has_inner, names_of, body_names}
use Rattle.mini_laws.specs.Scoped.{Scoped}
use Rattle.mini_laws.specs.Symbols.{declared as declared_in, times}
use Rattle.mini_laws.specs.Early.{early_names, early_jumps, is_loop}
use Rattle.mini_laws.specs.Value.{Variable}
use Rattle.mini_laws.specs.Fixity.{fixed_by}
use Rattle.mini_laws.specs.Bodies.{Around, bodies}
use Rattle.mini_kept.specs.AlikeBodies.{BodiesKept}
use Rattle.mini_kept.specs.Carried.{numbers}
use Rattle.mini_kept.specs.Declaring.{declared as declared_names}
use Rattle.mini_kept.specs.Frames.{frames, FramesKept}
use Rattle.mini_kept.specs.KeepsNames.{Keeps, count_of}
use Rattle.mini_kept.proofs.Anywhere.{once_anywhere, targets_anywhere}
use Rattle.mini_kept.proofs.Bools.{left}
use Rattle.mini_kept.proofs.BodyLists.{kept_itself, kept_on}
use Rattle.mini_kept.proofs.InOrder.{in_order}
use Rattle.mini_kept.proofs.Unplaced.{as_body, body_same}
use Rattle.mini_rows.specs.Sketches.{Head, Sketch, part, under, list, Sketches, Parts, filled, all_filled, Asked, use_by, AsWhole, AsValue, Leap, Hole, Part, Stretch, Leaps, parts_of, Free, is_statement_head, asked_below, stands_well, all_stand_well, keeps_statements}
use Rattle.mini_rows.specs.Arranged.{KeptAt, AllVanish, AreLoose, WrittenFor, Rewritten, AreExpressions, StatementsRewritten}
use Rattle.mini_rows.proofs.Arranging.{All, Any, Each, Local, to_parts, of_parts, sum_all, sum_each, sum_of}
use Rattle.mini_rows.proofs.ArrangedNames.{ScopedAs, scoped_local, symbol_times, symbols_summed, number_times, numbers_summed, inner_local, once_local, HasTarget, aimed_local}
use Rattle.mini_rows.proofs.ArrangedBodies.{quiet, bodies_local, frames_local, declares_local, rank, by_rank, fixed_local}
use Rattle.mini_rows.proofs.ArrangedValues.{Valued, value_fits, head_valued}
use Rattle.mini_rows.proofs.ArrangedPlain.{is_plain}
use Rattle.mini_rows.proofs.ArrangedMoves.{loosened}
use Rattle.mini_rows.proofs.ArrangedTrees.{both_same, itself, parts_valued}
use Rattle.mini_rows.proofs.ArrangedGather.{concat, Fold, Gives, gives_each, gives_of}
use Rattle.mini_rows.proofs.ArrangedFolds.{bound_fold, lexical_fold, hoisted_fold, body_fold, hoists, declared_fold}
use Rattle.mini_rows.proofs.ArrangedStatements.{not_list, no_loop, around_quiet, kind_of_head, no_port, undeclared, method_slot, parts_kept, statement_keeps, statement_kept}

-- ---- parts

module _ (ps qs : Parts) (J : Leap → Type 0) (Q : Asked → Tree → Type 0) where
  each_new : (hs : List Hole) → Rewritten ps qs hs → ((t v : Tree) → WrittenFor t v → Q AsValue t → Q AsValue v) → Each J Q ps hs → Each J Q qs hs
  each_new [] r k a = tt
  each_new (Part i AsValue ∷ hs) r k a = (k (child_or_absent ps.trees i) (child_or_absent qs.trees i) r.0 a.0, each_new hs r.1 k a.1)
  each_new (Part i c ∷ hs) r k a = (subst (Q c) r.0 a.0, each_new hs r.1 k a.1)
  each_new (Stretch i c ∷ hs) r k a = (subst (All Q c) r.0 a.0, each_new hs r.1 k a.1)
  each_new (Leaps l ∷ hs) r k a = (a.0, each_new hs r k a.1)

  each_old : (hs : List Hole) → Rewritten ps qs hs → ((t v : Tree) → WrittenFor t v → Q AsValue v → Q AsValue t) → Each J Q qs hs → Each J Q ps hs
  each_old [] r k a = tt
  each_old (Part i AsValue ∷ hs) r k a = (k (child_or_absent ps.trees i) (child_or_absent qs.trees i) r.0 a.0, each_old hs r.1 k a.1)
  each_old (Part i c ∷ hs) r k a = (subst (Q c) (sym r.0) a.0, each_old hs r.1 k a.1)
  each_old (Stretch i c ∷ hs) r k a = (subst (All Q c) (sym r.0) a.0, each_old hs r.1 k a.1)
  each_old (Leaps l ∷ hs) r k a = (a.0, each_old hs r k a.1)

  each_fitting : (strict : Bool) (hs : List Hole) → Rewritten ps qs hs → AreExpressions strict ps hs → ((t v : Tree) → WrittenFor t v → fits strict (one an_expression) t ≡ true → Q AsValue t → Q AsValue v) → Each J Q ps hs → Each J Q qs hs
  each_fitting strict [] r e k a = tt
  each_fitting strict (Part i AsValue ∷ hs) r e k a = (k (child_or_absent ps.trees i) (child_or_absent qs.trees i) r.0 e.0 a.0, each_fitting strict hs r.1 e.1 k a.1)
  each_fitting strict (Part i c ∷ hs) r e k a = (subst (Q c) r.0 a.0, each_fitting strict hs r.1 e k a.1)
  each_fitting strict (Stretch i c ∷ hs) r e k a = (subst (All Q c) r.0 a.0, each_fitting strict hs r.1 e k a.1)
  each_fitting strict (Leaps l ∷ hs) r e k a = (a.0, each_fitting strict hs r e k a.1)

sum_new : (ps qs : Parts) (m : Asked → Tree → ℕ) (hs : List Hole) → Rewritten ps qs hs → ((t v : Tree) → WrittenFor t v → m AsValue v ≤ m AsValue t) → sum_each m qs hs ≤ sum_each m ps hs
sum_new ps qs m [] r k = omega arith
sum_new ps qs m (Part i AsValue ∷ hs) r k = omega (arith, k (child_or_absent ps.trees i) (child_or_absent qs.trees i) r.0, sum_new ps qs m hs r.1 k)
sum_new ps qs m (Part i c ∷ hs) r k = omega (arith, ap (m c) r.0, sum_new ps qs m hs r.1 k)
sum_new ps qs m (Stretch i c ∷ hs) r k = omega (arith, ap (sum_all m c) r.0, sum_new ps qs m hs r.1 k)
sum_new ps qs m (Leaps l ∷ hs) r k = omega (arith, sum_new ps qs m hs r k)

gives_new : (A : Type 0) (L B H : Tree → List A) (k : Fold A L B H) (ps qs : Parts) (hs : List Hole) → Rewritten ps qs hs → gives_each A L B H k qs hs ≡ gives_each A L B H k ps hs
gives_new A L B H k ps qs [] r = refl
gives_new A L B H k ps qs (Part i AsValue ∷ hs) r = gives_new A L B H k ps qs hs r.1
gives_new A L B H k ps qs (Part i c ∷ hs) r = λ x. Gives A L B H k c (sym r.0 x) ++ gives_new A L B H k ps qs hs r.1 x
gives_new A L B H k ps qs (Stretch i c ∷ hs) r = λ x. concat (Gives A L B H k c) (sym r.0 x) ++ gives_new A L B H k ps qs hs r.1 x
gives_new A L B H k ps qs (Leaps l ∷ hs) r = gives_new A L B H k ps qs hs r

-- ---- trees, wherever they are asked

module _ (f : Free) (ps qs : Parts) (u : AreLoose ps f) (o : AreLoose qs f) (c : Asked) (r : Sketch) (sr : stands_well f c r ≡ true) (z : Rewritten ps qs (parts_of c r)) where
  abbrev m : Tree
  m = filled ps r

  abbrev w : Tree
  w = filled qs r

  onto : (J : Leap → Type 0) (P : Tree → Type 0) → Local J (λ d t. P t) → ((t v : Tree) → WrittenFor t v → P t → P v) → P m → P w
  onto J P l k a = of_parts J (λ d t. P t) l qs c r (is_plain f qs o c r sr) (each_new ps qs J (λ d t. P t) (parts_of c r) z k (to_parts J (λ d t. P t) l ps c r (is_plain f ps u c r sr) a))

  from : (P : Tree → Type 0) → Local Any (λ d t. P t) → ((t v : Tree) → WrittenFor t v → P v → P t) → P w → P m
  from P l k a = of_parts Any (λ d t. P t) l ps c r (is_plain f ps u c r sr) (each_old ps qs Any (λ d t. P t) (parts_of c r) z k (to_parts Any (λ d t. P t) l qs c r (is_plain f qs o c r sr) a))

  onto_fitting : (strict : Bool) → AreExpressions strict ps (parts_of c r) → (P : Tree → Type 0) → Local Any (λ d t. P t) → ((t v : Tree) → WrittenFor t v → fits strict (one an_expression) t ≡ true → P t → P v) → P m → P w
  onto_fitting strict e P l k a = of_parts Any (λ d t. P t) l qs c r (is_plain f qs o c r sr) (each_fitting ps qs Any (λ d t. P t) strict (parts_of c r) z e k (to_parts Any (λ d t. P t) l ps c r (is_plain f ps u c r sr) a))

  pub new_inner : has_inner w ≡ has_inner m
  new_inner =
      both_same (has_inner m) (has_inner w) (onto Any (λ t. (has_inner t || has_inner m) ≡ has_inner m) (inner_local (has_inner m)) (λ t v k a. ap (λ b. b || has_inner m) k.inner ∙ a) (itself (has_inner m)))
      (from (λ t. (has_inner t || has_inner w) ≡ has_inner w) (inner_local (has_inner w)) (λ t v k a. ap (λ b. b || has_inner w) (sym k.inner) ∙ a) (itself (has_inner w)))

  pub new_fixed : (y : Variable) → fixed_by m y ≡ fixed_by w y
  new_fixed y =
      by_rank (fixed_by m y) (fixed_by w y) (from (λ t. rank (fixed_by t y) ≤ rank (fixed_by w y)) (fixed_local y (rank (fixed_by w y))) (λ t v k a. subst (λ g. rank g ≤ rank (fixed_by w y)) (k.fixed y) a) (omega arith))
      (onto Any (λ t. rank (fixed_by t y) ≤ rank (fixed_by m y)) (fixed_local y (rank (fixed_by m y))) (λ t v k a. subst (λ g. rank g ≤ rank (fixed_by m y)) (sym (k.fixed y)) a) (omega arith))

  pub new_declared : (x : Name) → Contains (declared_names w) x → Contains (declared_names m) x
  new_declared = onto Any (λ t. (x : Name) → Contains (declared_names t) x → Contains (declared_names m) x) (declares_local (declared_names m)) (λ t v k a x c. a x (k.declared x c)) (λ x c. c)

  pub new_once : early_names [] m ≡ [] → early_names [] w ≡ []
  new_once = onto Any (λ t. early_names [] t ≡ []) once_local (λ t v k a. k.once a)

  pub new_targets : (g : Targets) → early_jumps g [] m ≡ [] → early_jumps g [] w ≡ []
  new_targets g = onto (HasTarget g) (λ t. early_jumps g [] t ≡ []) (aimed_local g) (λ t v k a. k.targets g a)

  pub new_scoped : (x : Use) (env : Environment) → Scoped (use_by x c) env m → Scoped (use_by x c) env w
  new_scoped x env a =
      of_parts Any (ScopedAs x env) (scoped_local x env) qs c r (is_plain f qs o c r sr) (each_new ps qs Any (ScopedAs x env) (parts_of c r) z (λ t v k b. k.scoped env b) (to_parts Any (ScopedAs x env) (scoped_local x env) ps c r (is_plain f ps u c r sr) a))

  pub new_symbols : (x : Use) (y : Option SymbolId) → times y (declared_in (use_by x c) w) ≤ times y (declared_in (use_by x c) m)
  new_symbols x y =
      let l = symbol_times x y in
      omega (arith, sum_of l (symbols_summed x y) ps c r (is_plain f ps u c r sr), sum_of l (symbols_summed x y) qs c r (is_plain f qs o c r sr), sum_new ps qs l (parts_of c r) z (λ t v k. k.symbols y))

  pub new_numbers : (k : ℕ) → count_of k (numbers w) ≤ count_of k (numbers m)
  new_numbers k =
      let l = number_times k in
      omega (arith, sum_of l (numbers_summed k) ps c r (is_plain f ps u c r sr), sum_of l (numbers_summed k) qs c r (is_plain f qs o c r sr), sum_new ps qs l (parts_of c r) z (λ t v j. j.numbers k))

  module _ (strict : Bool) (e : AreExpressions strict ps (parts_of c r)) where
    pub new_bodies : (a : Around) → BodiesKept (bodies (quiet a) m) (bodies (quiet a) w)
    new_bodies a = onto_fitting strict e (λ t. BodiesKept (bodies (quiet a) m) (bodies (quiet a) t)) (bodies_local (bodies (quiet a) m) a) (λ t v k x b. kept_on (bodies (quiet a) m) (bodies (quiet a) t) (bodies (quiet a) v) b (k.bodies strict x (quiet a) refl refl)) (kept_itself (bodies (quiet a) m))

    pub new_frames : FramesKept (frames None m) (frames None w)
    new_frames = onto_fitting strict e (λ t. FramesKept (frames None m) (frames None t)) (frames_local (frames None m)) (λ t v k x b y c. b y (k.frames strict x y c)) (λ y c. c)

    pub new_valued : Each Any Valued ps (parts_of c r) → Each Any Valued qs (parts_of c r)
    new_valued = each_fitting ps qs Any Valued strict (parts_of c r) z e (λ t v k x b. value_fits strict (one an_expression) v refl (k.fitting strict x))

-- ---- statements

module _ (f : Free) (ps qs : Parts) (u : AreLoose ps f) (o : AreLoose qs f) (r : Sketch) (sr : stands_well f AsWhole r ≡ true) (z : Rewritten ps qs (parts_of AsWhole r)) (strict : Bool) (e : AreExpressions strict ps (parts_of AsWhole r)) (v : Each Any Valued ps (parts_of AsWhole r)) where
  abbrev before : Tree
  before = filled ps r

  abbrev after : Tree
  after = filled qs r

  new_given : (A : Type 0) (B H : Tree → List A) (k : Fold A B B H) → B after ≡ B before
  new_given A B H k =
      gives_of A B B H k f qs o AsWhole r sr (new_valued f ps qs u o AsWhole r sr z strict e v) ∙ gives_new A B B H k ps qs (parts_of AsWhole r) z ∙ sym (gives_of A B B H k f ps u AsWhole r sr v)

  new_names : (d : Declared) → names_of d after ≡ names_of d before
  new_names declared.Bound = new_given Name (names_of declared.Bound) (λ t. []) bound_fold
  new_names declared.Lexical = new_given Name (names_of declared.Lexical) (λ t. []) lexical_fold
  new_names declared.Hoisted = new_given Name (names_of declared.Hoisted) (names_of declared.Hoisted) hoisted_fold

  new_keeps : (q : StmtSeat) (n : Tree) → is_loop after ≡ is_loop n → Keeps (Stmt q) n before → Keeps (Stmt q) n after
  new_keeps q n l k = record {
    kept = record {
      names = λ d. new_names d ∙ k.kept.names d;
      body = new_given Name body_names (names_of declared.Hoisted) body_fold ∙ k.kept.body;
      inner = new_inner f ps qs u o AsWhole r sr z ∙ k.kept.inner;
      symbols = λ x y. omega (arith, new_symbols f ps qs u o AsWhole r sr z x y, k.kept.symbols x y);
    };
    scoped = λ x env st a. new_scoped f ps qs u o AsWhole r sr z x env (k.scoped x env st a);
    numbers = λ x. omega (arith, new_numbers f ps qs u o AsWhole r sr z x, k.numbers x);
    declared_as_body = λ b x. body_same b x x before after (new_given Declaration (as_body b) hoists (declared_fold b)) ∙ k.declared_as_body b x;
    once = λ x a. once_anywhere [] x after (new_once f ps qs u o AsWhole r sr z (once_anywhere x [] before (k.once x a)));
    targets = λ g x a. targets_anywhere g [] x after (new_targets f ps qs u o AsWhole r sr z g (targets_anywhere g x [] before (k.targets g x a)));
    loop = l;
    root = λ x. absurd (cc x);
    block = λ x b p. absurd (cc x);
  }

-- ---- the law

module _ (f : Free) (ps qs : Parts) (u : AreLoose ps f) (o : AreLoose qs f) (h g : Head) (ss rs : Sketches) (sn : stands_well f AsWhole (under h ss) ≡ true) (sr : stands_well f AsWhole (under g rs) ≡ true) (y : keeps_statements f (parts_of AsWhole (under h ss)) (parts_of AsWhole (under g rs)) ≡ true) (z : Rewritten ps qs (parts_of AsWhole (under g rs))) (v : AllVanish ps.trees f.dropped) (q : StmtSeat) (x : (strict : Bool) (s : Slot) → fits strict s (filled ps (under h ss)) ≡ true → AreExpressions strict ps (parts_of AsWhole (under g rs))) where
  base : KeptAt (Stmt q) (filled ps (under h ss)) (filled ps (under g rs))
  base = statement_kept f ps u h g ss rs sn sr y q v

  h_head : is_statement_head h ≡ true
  h_head = left (is_statement_head h) (all_stand_well f (asked_below h AsWhole) 0 ss) sn

  g_head : is_statement_head g ≡ true
  g_head = left (is_statement_head g) (all_stand_well f (asked_below g AsWhole) 0 rs) sr

  middle_parts : (strict : Bool) (s : Slot) → fits strict s (filled ps (under h ss)) ≡ true → Each Any Valued ps (parts_of AsWhole (under g rs))
  middle_parts strict s k = parts_valued f ps u AsWhole (under h ss) (under g rs) sn sr (parts_kept f ps u AsWhole (Stmt q) refl (under h ss) (under g rs) sn sr y) (head_valued ps strict AsWhole s h ss (not_list h h_head) k)

  body_step : (strict : Bool) (s : Slot) → fits strict s (filled ps (under h ss)) ≡ true → (a : Around) → a.constructs ≡ false → BodiesKept (bodies a (filled ps (under g rs))) (bodies a (filled qs (under g rs)))
  body_step strict s k a c =
      subst (BodiesKept (bodies a (filled ps (under g rs)))) (sym (around_quiet a g (all_filled qs rs) c g_head))
      (subst (λ bs. BodiesKept bs (bodies (quiet a) (filled qs (under g rs)))) (sym (around_quiet a g (all_filled ps rs) c g_head)) (new_bodies f ps qs u o AsWhole (under g rs) sr z strict (x strict s k) a))

  pub rewritten_kept : KeptAt (Stmt q) (filled ps (under h ss)) (filled qs (under g rs))
  rewritten_kept = record {
    keeps = λ strict s p k. in_order (Stmt q) (filled ps (under h ss)) (filled qs (under g rs)) (new_keeps f ps qs u o (under g rs) sr z strict (x strict s k) (middle_parts strict s k) q (filled ps (under h ss)) (no_loop g (all_filled qs rs) g_head ∙ sym (no_loop h (all_filled ps ss) h_head)) (statement_keeps f ps u h g ss rs sn sr y q v strict s k));
    piece = base.piece;
    kind = λ strict s k. kind_of_head h ∙ sym (kind_of_head g);
    bodies = λ strict s p k a st.
        kept_on (bodies a (filled ps (under h ss))) (bodies a (filled ps (under g rs))) (bodies a (filled qs (under g rs))) (base.bodies strict s p k a st) (body_step strict s k a (st.function (method_slot ps h ss strict s k)));
    ports = λ strict d k m. (no_port m h, no_port m g);
    listed = λ l. absurd (cc l);
    exported = λ strict k. (undeclared h, undeclared g);
    frames = λ strict s p k a c. base.frames strict s p k a (new_frames f ps qs u o AsWhole (under g rs) sr z strict (x strict s k) a c);
    fixed = λ a. base.fixed a ∙ new_fixed f ps qs u o AsWhole (under g rs) sr z a;
    declared = λ a c. base.declared a (new_declared f ps qs u o AsWhole (under g rs) sr z a c);
  }

pub statements_rewritten : StatementsRewritten
statements_rewritten f ps qs u o (part i) r e z q n w a b x = absurd (cc e)
statements_rewritten f ps qs u o (list is) r e z q n w a b x = absurd (cc e)
statements_rewritten f ps qs u o (under h ss) (part i) e z q n w a b x = absurd (cc e)
statements_rewritten f ps qs u o (under h ss) (list is) e z q n w a b x = absurd (cc e)
statements_rewritten f ps qs u o (under h ss) (under g rs) e z q n w a b x =
    let (sn, y) = and_parts (stands_well f AsWhole (under h ss)) (stands_well f AsWhole (under g rs) && keeps_statements f (parts_of AsWhole (under h ss)) (parts_of AsWhole (under g rs))) e in
    let (sr, k) = and_parts (stands_well f AsWhole (under g rs)) (keeps_statements f (parts_of AsWhole (under h ss)) (parts_of AsWhole (under g rs))) y in
    let x' = λ (strict : Bool) (s : Slot) (i : fits strict s (filled ps (under h ss)) ≡ true). x strict s (subst (λ t. fits strict s t ≡ true) (sym a) i) in
    subst (λ t. KeptAt (Stmt q) t w) (sym a) (subst (KeptAt (Stmt q) (filled ps (under h ss))) (sym b) (rewritten_kept f ps qs (loosened f ps u) (loosened f qs o) h g ss rs sn sr k z u.2 q x'))

-- a part that stays
pub unchanged : (t : Tree) → WrittenFor t t
unchanged t = record {
  fitting = λ strict e. e;
  inner = refl;
  scoped = λ env a. a;
  symbols = λ x. omega arith;
  numbers = λ k. omega arith;
  once = λ a. a;
  targets = λ g a. a;
  bodies = λ strict e a c d. kept_itself (bodies a t);
  frames = λ strict e x c. c;
  fixed = λ x. refl;
  declared = λ x c. c;
}
