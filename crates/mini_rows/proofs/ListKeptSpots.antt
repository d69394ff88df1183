-- Where an expression stands on the right of a `for..in` or `for..of`, or as the first initializer of a declaration: what holds of the
-- statement holds of it and of what stands beside it.
use Rattle.std.specs.Prelude.{ℕ, ◌+◌, ◌≤◌, ◌≡◌, refl, ◌||◌, not, Bool, true, false, List, [], ◌∷◌, ◌++◌, Option, None}
use Rattle.std.proofs.Common.{ap, ◌∙◌, sym, subst, arith}
use Rattle.std.proofs.lemmas.List.{append-nil}
use Rattle.mini_model.specs.declared.kind.VariableDeclarationKind.{VariableDeclarationKind}
use Rattle.mini_model.specs.declared.name.Name.{Name}
use Rattle.mini_model.specs.declared.name.SymbolId.{SymbolId}
use Rattle.mini_model.specs.declared.shape.Shape.TheVariants as shape
use Rattle.mini_model.specs.Tree.{Tree, Trees, none, ◌▸◌, absent, is_absent, listed, shape_of}
use Rattle.mini_laws.specs.declared.names.Use.{Use}
use Rattle.mini_laws.specs.declared.names.Use.TheVariants.{Read}
use Rattle.mini_laws.specs.declared.names.Declared.{Declared}
use Rattle.mini_laws.specs.declared.names.Declared.TheVariants as declared
use Rattle.mini_laws.specs.declared.names.Targets.{Targets}
use Rattle.mini_laws.specs.DeclaredNames.{has_inner, names_of, all_names, body_names}
use Rattle.mini_laws.specs.Scopes.{scopes_by}
use Rattle.mini_laws.specs.Resolved.{Environment}
use Rattle.mini_laws.specs.Scoped.{Scoped}
use Rattle.mini_laws.specs.Symbols.{declared as declared_in, symbols_in, times}
use Rattle.mini_laws.specs.Early.{own_declarations, scope_declarations, early_names, targets_of, early_jumps}
use Rattle.mini_laws.specs.Value.{Variable}
use Rattle.mini_laws.specs.Fixity.{stricter, fixed_by}
use Rattle.mini_laws.specs.Bodies.{Around, Body, bodies}
use Rattle.mini_kept.specs.AlikeBodies.{BodiesKept}
use Rattle.mini_kept.specs.Carried.{numbers, all_numbers}
use Rattle.mini_kept.specs.Declaring.{declared as names_declared}
use Rattle.mini_kept.specs.Frames.{Frame, property_below, frames, FramesKept}
use Rattle.mini_kept.specs.KeepsNames.{count_of}
use Rattle.mini_kept.proofs.Anywhere.{once_anywhere, targets_anywhere}
use Rattle.mini_kept.proofs.Below.{both_counts, empty_both, both_empty}
use Rattle.mini_kept.proofs.BodyLists.{both_of as both_bodies}
use Rattle.mini_kept.proofs.Fixed.{of_children}
use Rattle.mini_laws.proofs.Changes.{times_both}
use Rattle.mini_kept.proofs.Unplaced.{as_body}
use Rattle.mini_rows.specs.Lists.{declaration, declarator, for_in, Each, EachIn, EachOf, each_loop}
use Rattle.mini_rows.specs.Sketches.{AList, Asked, AsWholeList, AsWholeItem, AsValue, Leap}
use Rattle.mini_rows.proofs.Arranging.{Any, Local}
use Rattle.mini_rows.proofs.ArrangedNames.{ScopedAs, scoped_local, symbol_times, symbols_summed, number_times, numbers_summed, InnerIf, inner_local, Once, once_local, HasTarget, Aimed, aimed_local}
use Rattle.mini_rows.proofs.ArrangedBodies.{quiet, HasBodies, bodies_local, HasFrames, frames_local, Among, Declares, declares_local, FixedBy, fixed_local, rank}
use Rattle.mini_rows.proofs.ArrangedValues.{is_value}
use Rattle.mini_rows.proofs.ArrangedFolds.{port}
use Rattle.mini_rows.proofs.ListKeptStretch.{joined, parted, sum_joined}
use Rattle.mini_rows.proofs.ListKeptDeclarations.{names_if, is_var, declares_as, scope_if, opens, used, own_fixed, split_rank, both_rank, names_are, body_are, declarations_are, scoped_down, scoped_up, symbols_are, inner_is, numbers_are, declared_are, frames_are, bodies_are, once_is, jumps_are, fixed_down, fixed_up}
use Rattle.mini_rows.proofs.ListKeptValues.{Opens, Names, or_nothing, stricter_alone}
use Rattle.mini_rows.proofs.ListKeptHeads.{or_both, both_or, split_bodies}
use Rattle.mini_rows.proofs.ListKeptKeys as keys
use Rattle.mini_rows.proofs.WrittenNames.{Nameless, nameless_over}

-- ---- a loop is kept as a `for..in` is

module _ (k : Each) (l e w : Tree) where
  inner_each : has_inner (each_loop k l e w) ≡ has_inner (for_in l e w)
  unfolding has_inner
  inner_each = by k
    where
      by : (k : Each) → has_inner (each_loop k l e w) ≡ has_inner (for_in l e w)
      by EachIn = refl
      by EachOf = refl

  fixed_each : (x : Variable) → fixed_by (each_loop k l e w) x ≡ fixed_by (for_in l e w) x
  fixed_each x = by k
    where
      by : (k : Each) → fixed_by (each_loop k l e w) x ≡ fixed_by (for_in l e w) x
      by EachIn = refl
      by EachOf = refl

  declared_each : names_declared (each_loop k l e w) ≡ names_declared (for_in l e w)
  declared_each = by k
    where
      by : (k : Each) → names_declared (each_loop k l e w) ≡ names_declared (for_in l e w)
      by EachIn = refl
      by EachOf = refl

  frames_each : frames None (each_loop k l e w) ≡ frames None (for_in l e w)
  frames_each = by k
    where
      by : (k : Each) → frames None (each_loop k l e w) ≡ frames None (for_in l e w)
      by EachIn = refl
      by EachOf = refl

  bodies_each : (a : Around) → bodies (quiet a) (each_loop k l e w) ≡ bodies (quiet a) (for_in l e w)
  bodies_each a = by k
    where
      by : (k : Each) → bodies (quiet a) (each_loop k l e w) ≡ bodies (quiet a) (for_in l e w)
      by EachIn = refl
      by EachOf = refl

  numbers_each : numbers (each_loop k l e w) ≡ numbers (for_in l e w)
  unfolding numbers
  numbers_each = by k
    where
      by : (k : Each) → numbers (each_loop k l e w) ≡ numbers (for_in l e w)
      by EachIn = refl
      by EachOf = refl

  jumps_each : (g : Targets) → early_jumps g [] (each_loop k l e w) ≡ early_jumps g [] (for_in l e w)
  unfolding early_jumps targets_of
  jumps_each g = by k
    where
      by : (k : Each) → early_jumps g [] (each_loop k l e w) ≡ early_jumps g [] (for_in l e w)
      by EachIn = refl
      by EachOf = refl

  once_each : early_names [] (each_loop k l e w) ≡ early_names [] (for_in l e w)
  unfolding early_names scope_declarations
  once_each = by k
    where
      by : (k : Each) → early_names [] (each_loop k l e w) ≡ early_names [] (for_in l e w)
      by EachIn = refl
      by EachOf = refl

  symbols_each : (u : Use) → declared_in u (each_loop k l e w) ≡ declared_in u (for_in l e w)
  unfolding declared_in scopes_by
  symbols_each u = by k
    where
      by : (k : Each) → declared_in u (each_loop k l e w) ≡ declared_in u (for_in l e w)
      by EachIn = refl
      by EachOf = refl

  pub to_in : (env : Environment) → Scoped Read env (each_loop k l e w) → Scoped Read env (for_in l e w)
  unfolding Scoped scopes_by
  to_in env = by k
    where
      by : (k : Each) → Scoped Read env (each_loop k l e w) → Scoped Read env (for_in l e w)
      by EachIn q = q
      by EachOf q = q

  pub of_in : (env : Environment) → Scoped Read env (for_in l e w) → Scoped Read env (each_loop k l e w)
  unfolding Scoped scopes_by
  of_in env = by k
    where
      by : (k : Each) → Scoped Read env (for_in l e w) → Scoped Read env (each_loop k l e w)
      by EachIn q = q
      by EachOf q = q

  names_each : (d : Declared) → names_of d (each_loop k l e w) ≡ names_of d (for_in l e w)
  unfolding names_of
  names_each d = by k d
    where
      by : (k : Each) (d : Declared) → names_of d (each_loop k l e w) ≡ names_of d (for_in l e w)
      by EachIn d = refl
      by EachOf declared.Bound = refl
      by EachOf declared.Lexical = refl
      by EachOf declared.Hoisted = refl

  body_each : body_names (each_loop k l e w) ≡ body_names (for_in l e w)
  unfolding body_names names_of
  body_each = by k
    where
      by : (k : Each) → body_names (each_loop k l e w) ≡ body_names (for_in l e w)
      by EachIn = refl
      by EachOf = refl

  as_body_each : (o : Bool) → as_body o (each_loop k l e w) ≡ as_body o (for_in l e w)
  unfolding names_of
  as_body_each o = by k
    where
      by : (k : Each) → as_body o (each_loop k l e w) ≡ as_body o (for_in l e w)
      by EachIn = refl
      by EachOf = refl

  port_each : (m : Bool) → port m (each_loop k l e w) ≡ []
  port_each m = by k
    where
      by : (k : Each) → port m (each_loop k l e w) ≡ []
      by EachIn = refl
      by EachOf = refl

module _ (k : Each) (l w e d : Tree) where
  abbrev loops : Tree → Tree
  loops t = each_loop k l t w

  pub inner_loop : (b : Bool) → Opens (InnerIf b) loops e d
  inner_loop b = record { Beside = keys.InnerBeside l w b; down = λ q. keys.inner_down l w b e (subst (λ c. (c || b) ≡ b) (inner_each k l e w) q); up = λ q r. subst (λ c. (c || b) ≡ b) (sym (inner_each k l d w)) (keys.inner_up l w b d q r) }

  pub fixed_loop : (x : Variable) (m : ℕ) → Opens (FixedBy x m) loops e d
  fixed_loop x m = record { Beside = keys.FixedBeside l w x m; down = λ q. keys.fixed_down l w x m e (subst (λ f. rank f ≤ m) (fixed_each k l e w x) q); up = λ q r. subst (λ f. rank f ≤ m) (sym (fixed_each k l d w x)) (keys.fixed_up l w x m d q r) }

  pub declares_loop : (xs : List Name) → Opens (Declares xs) loops e d
  declares_loop xs = record { Beside = keys.NamesBeside l w xs; down = λ q. keys.declares_down l w xs e (subst (Among xs) (declared_each k l e w) q); up = λ q r. subst (Among xs) (sym (declared_each k l d w)) (keys.declares_up l w xs d q r) }

  pub frames_loop : (fs : List Frame) → Opens (HasFrames fs) loops e d
  frames_loop fs = record { Beside = keys.FramesBeside l w fs; down = λ q. keys.frames_down l w fs e (subst (FramesKept fs) (frames_each k l e w) q); up = λ q r. subst (FramesKept fs) (sym (frames_each k l d w)) (keys.frames_up l w fs d q r) }

  pub bodies_loop : (bs : List Body) (a : Around) → Opens (HasBodies bs a) loops e d
  bodies_loop bs a = record { Beside = keys.BodiesBeside l w bs a; down = λ q. keys.bodies_down l w bs a e (subst (BodiesKept bs) (bodies_each k l e w a) q); up = λ q r. subst (BodiesKept bs) (sym (bodies_each k l d w a)) (keys.bodies_up l w bs a d q r) }

  pub targets_loop : (g : Targets) → Opens (Aimed g) loops e d
  targets_loop g = record { Beside = keys.JumpsBeside l w g; down = λ q. keys.aimed_down l w g e (sym (jumps_each k l e w g) ∙ q); up = λ q r. jumps_each k l d w g ∙ keys.aimed_up l w g d q r }

  pub once_loop : Opens Once loops e d
  once_loop = record { Beside = keys.OnceBeside l w; down = λ q. keys.once_down l w e (sym (once_each k l e w) ∙ q); up = λ q r. once_each k l d w ∙ keys.once_up l w d q r }

  pub scoped_loop : keys.scope l w ≡ [] → (env : Environment) → Opens (ScopedAs Read env) loops e d
  scoped_loop n env = record { Beside = keys.ScopedBeside l w env; down = λ q. keys.scoped_down l w env n e (to_in k l e w env q); up = λ q r. of_in k l d w env (keys.scoped_up l w env n d q r) }

  pub same_loop : is_value (shape_of e) ≡ true → is_value (shape_of d) ≡ true → Names (loops e) (loops d)
  same_loop p q =
      let hoists = keys.hoisted_is l w d q ∙ sym (keys.hoisted_is l w e p) in
      record {
        names = λ s. names_each k l d w s ∙ keys.names_same l w s e d hoists ∙ sym (names_each k l e w s);
        body = body_each k l d w ∙ (keys.body_is l w d ∙ hoists ∙ sym (keys.body_is l w e)) ∙ sym (body_each k l e w);
        as_body = λ o. as_body_each k l d w o ∙ (keys.as_body_is l w o d ∙ ap (own_declarations false []) hoists ∙ sym (keys.as_body_is l w o e)) ∙ sym (as_body_each k l e w o);
        ports = λ m. port_each k l d w m ∙ sym (port_each k l e w m);
      }

module _ (k : Each) (l w : Tree) where
  pub numbers_loop : (n : ℕ) → (c : ℕ) × ((e : Tree) → number_times n AsWholeItem (each_loop k l e w) ≡ number_times n AsValue e + c)
  numbers_loop n = (
    count_of n (numbers l) + count_of n (all_numbers (w ▸ none)),
    λ e. omega (arith, ap (count_of n) (numbers_each k l e w), ap (count_of n) (keys.numbers_are l w e), both_counts n (numbers l) (numbers e ++ all_numbers (w ▸ none)), both_counts n (numbers e) (all_numbers (w ▸ none))),
  )

  pub symbols_loop : (u : Use) (x : Option SymbolId) → (c : ℕ) × ((e : Tree) → symbol_times u x AsWholeItem (each_loop k l e w) ≡ symbol_times u x AsValue e + c)
  symbols_loop u x = (times x (keys.first_symbols l w) + times x (keys.last_symbols l w u), λ e. omega (arith, ap (times x) (symbols_each k l e w u), keys.symbols_are l w u x e))

-- ---- the first initializer of a declaration

module _ (id e : Tree) where
  abbrev given : Tree
  given = declarator id e

  inner_given : has_inner given ≡ (has_inner id || has_inner e)
  unfolding has_inner
  inner_given = ap (λ c. has_inner id || c) (or_nothing (has_inner e))

  fixed_given : (y : Variable) → fixed_by given y ≡ stricter (fixed_by id y) (fixed_by e y)
  fixed_given y = of_children shape.VariableDeclarator [] 0 (id ▸ (e ▸ none)) y refl ∙ ap (stricter (fixed_by id y)) (stricter_alone (fixed_by e y))

  declared_given : names_declared given ≡ names_declared id ++ names_declared e
  declared_given = ap (λ r. names_declared id ++ r) (append-nil (names_declared e))

  abbrev id_frames : List Frame
  id_frames = frames (property_below shape.VariableDeclarator 0) id

  frames_given : frames None given ≡ id_frames ++ frames None e
  frames_given = ap (λ r. id_frames ++ r) (append-nil (frames None e))

  bodies_given : (r : Around) → bodies (quiet r) given ≡ bodies (quiet r) id ++ bodies (quiet r) e
  bodies_given r = ap (λ b. bodies (quiet r) id ++ b) (append-nil (bodies (quiet r) e))

  numbers_given : numbers given ≡ numbers id ++ numbers e
  unfolding numbers
  numbers_given = ap (λ r. numbers id ++ r) (append-nil (numbers e))

  symbols_given : (u : Use) → declared_in u given ≡ declared_in u id ++ declared_in Read e
  unfolding declared_in scopes_by
  symbols_given u = ap (λ r. declared_in u id ++ r) (append-nil (declared_in Read e))

  once_given : early_names [] given ≡ early_names (0 ∷ []) id ++ early_names (1 ∷ []) e
  unfolding early_names scope_declarations
  once_given = ap (λ r. early_names (0 ∷ []) id ++ r) (append-nil (early_names (1 ∷ []) e))

  jumps_given : (g : Targets) → early_jumps g [] given ≡ early_jumps g (0 ∷ []) id ++ early_jumps g (1 ∷ []) e
  unfolding early_jumps targets_of
  jumps_given g = ap (λ r. early_jumps g (0 ∷ []) id ++ r) (append-nil (early_jumps g (1 ∷ []) e))

module _ (J : Leap → Type 0) (Q : Asked → Tree → Type 0) (n : Local J Q) (id e : Tree) (ds : Trees) where
  first_down : Q AsWholeList (listed (given id e ▸ ds)) → Q AsWholeItem (given id e) × Q AsWholeList (listed ds)
  first_down q =
      let (a, b) = parted J Q n (given id e ▸ none) ds q in
      ((n.down AList AsWholeList (given id e ▸ none) tt a).1.0, b)

  first_up : Q AsWholeItem (given id e) → Q AsWholeList (listed ds) → Q AsWholeList (listed (given id e ▸ ds))
  first_up q r = joined J Q n (given id e ▸ none) ds (n.up AList AsWholeList (given id e ▸ none) tt tt (q, tt)) r

module _ (kind : VariableDeclarationKind) (id : Tree) (ds : Trees) where
  abbrev list : Tree → Tree
  list t = listed (given id t ▸ ds)

  abbrev declares : Tree → Tree
  declares t = declaration kind (given id t ▸ ds)

  bound_alike : (e d : Tree) → all_names declared.Bound (given id d ▸ ds) ≡ all_names declared.Bound (given id e ▸ ds)
  unfolding names_of
  bound_alike e d = refl

  scope_alike : (c : Bool) (y : Option SymbolId) (e : Tree) → times y (symbols_in (scope_if c (list e))) ≡ times y (symbols_in (scope_if c (list absent)))
  unfolding names_of
  scope_alike true y e = refl
  scope_alike false y e = refl

  pub numbers_first : (n : ℕ) → (c : ℕ) × ((e : Tree) → number_times n AsWholeItem (declares e) ≡ number_times n AsValue e + c)
  numbers_first n = (
    count_of n (numbers id) + number_times n AsWholeList (listed ds),
    λ e. omega (arith, ap (count_of n) (numbers_are kind (list e)), sum_joined (number_times n) (numbers_summed n) (given id e ▸ none) ds, numbers_summed n AList AsWholeList (given id e ▸ none) tt, ap (count_of n) (numbers_given id e), both_counts n (numbers id) (numbers e)),
  )

  pub symbols_first : (u : Use) (y : Option SymbolId) → (c : ℕ) × ((e : Tree) → symbol_times u y AsWholeItem (declares e) ≡ symbol_times u y AsValue e + c)
  symbols_first u y =
      let v = used u kind in (
        times y (symbols_in (scope_if (opens u kind) (list absent))) + times y (declared_in v id) + symbol_times v y AsWholeList (listed ds),
        λ e. omega (arith, symbols_are u kind y (list e), scope_alike (opens u kind) y e, sum_joined (symbol_times v y) (symbols_summed v y) (given id e ▸ none) ds, symbols_summed v y AList AsWholeList (given id e ▸ none) tt, ap (times y) (symbols_given id e v), times_both y (declared_in v id) (declared_in Read e)),
      )

  module _ (e d : Tree) where
    pub inner_first : (b : Bool) → Opens (InnerIf b) declares e d
    inner_first b = record {
      Beside = ((has_inner id || b) ≡ b) × InnerIf b AsWholeList (listed ds);
      down = λ q.
          let (y, r) = first_down Any (InnerIf b) (inner_local b) id e ds (subst (λ c. (c || b) ≡ b) (inner_is kind (list e)) q) in
          let (own, v) = or_both b (has_inner id) (has_inner e) (subst (λ c. (c || b) ≡ b) (inner_given id e) y) in
          (v, (own, r));
      up = λ q r. subst (λ c. (c || b) ≡ b) (sym (inner_is kind (list d))) (first_up Any (InnerIf b) (inner_local b) id d ds (subst (λ c. (c || b) ≡ b) (sym (inner_given id d)) (both_or b (has_inner id) (has_inner d) r.0 q)) r.1);
    }

    pub fixed_first : (y : Variable) (m : ℕ) → Opens (FixedBy y m) declares e d
    fixed_first y m = record {
      Beside = (rank (own_fixed m kind y (given id absent ▸ ds)) ≤ m) × ((rank (fixed_by id y) ≤ m) × FixedBy y m AsWholeList (listed ds));
      down = λ q.
          let (own, all) = fixed_down m kind y (given id e ▸ ds) q in
          let (v, r) = first_down Any (FixedBy y m) (fixed_local y m) id e ds all in
          let (name, value) = split_rank m (fixed_by id y) (fixed_by e y) (subst (λ f. rank f ≤ m) (fixed_given id e y) v) in
          (value, (own, (name, r)));
      up = λ q r. fixed_up m kind y (given id d ▸ ds) r.0 (first_up Any (FixedBy y m) (fixed_local y m) id d ds (subst (λ f. rank f ≤ m) (sym (fixed_given id d y)) (both_rank m (fixed_by id y) (fixed_by d y) r.1.0 q)) r.1.1);
    }

    pub declares_first : (all : List Name) → Opens (Declares all) declares e d
    declares_first all = record {
      Beside = Among all (names_declared id) × Declares all AsWholeList (listed ds);
      down = λ q.
          let (v, r) = first_down Any (Declares all) (declares_local all) id e ds (subst (Among all) (declared_are kind (list e)) q) in
          let (own, value) = keys.inside_both all (names_declared id) (names_declared e) (subst (Among all) (declared_given id e) v) in
          (value, (own, r));
      up = λ q r. subst (Among all) (sym (declared_are kind (list d))) (first_up Any (Declares all) (declares_local all) id d ds (subst (Among all) (sym (declared_given id d)) (keys.both_inside all (names_declared id) (names_declared d) r.0 q)) r.1);
    }

    pub frames_first : (fs : List Frame) → Opens (HasFrames fs) declares e d
    frames_first fs = record {
      Beside = FramesKept fs (id_frames id e) × HasFrames fs AsWholeList (listed ds);
      down = λ q.
          let (v, r) = first_down Any (HasFrames fs) (frames_local fs) id e ds (subst (FramesKept fs) (frames_are kind (list e)) q) in
          let (own, value) = keys.inside_both fs (id_frames id e) (frames None e) (subst (FramesKept fs) (frames_given id e) v) in
          (value, (own, r));
      up = λ q r. subst (FramesKept fs) (sym (frames_are kind (list d))) (first_up Any (HasFrames fs) (frames_local fs) id d ds (subst (FramesKept fs) (sym (frames_given id d)) (keys.both_inside fs (id_frames id d) (frames None d) r.0 q)) r.1);
    }

    pub bodies_first : (bs : List Body) (a : Around) → Opens (HasBodies bs a) declares e d
    bodies_first bs a = record {
      Beside = BodiesKept bs (bodies (quiet a) id) × HasBodies bs a AsWholeList (listed ds);
      down = λ q.
          let (v, r) = first_down Any (HasBodies bs a) (bodies_local bs a) id e ds (subst (BodiesKept bs) (bodies_are kind a (list e)) q) in
          let (own, value) = split_bodies bs (bodies (quiet a) id) (bodies (quiet a) e) (subst (BodiesKept bs) (bodies_given id e a) v) in
          (value, (own, r));
      up = λ q r. subst (BodiesKept bs) (sym (bodies_are kind a (list d))) (first_up Any (HasBodies bs a) (bodies_local bs a) id d ds (subst (BodiesKept bs) (sym (bodies_given id d a)) (both_bodies bs (bodies (quiet a) id) (bodies (quiet a) d) r.0 q)) r.1);
    }

    pub targets_first : (g : Targets) → Opens (Aimed g) declares e d
    targets_first g = record {
      Beside = (early_jumps g (0 ∷ []) id ≡ []) × Aimed g AsWholeList (listed ds);
      down = λ q.
          let (v, r) = first_down (HasTarget g) (Aimed g) (aimed_local g) id e ds (targets_anywhere g (0 ∷ []) [] (list e) (sym (jumps_are kind g (list e)) ∙ q)) in
          let (own, value) = empty_both (early_jumps g (0 ∷ []) id) (early_jumps g (1 ∷ []) e) (sym (jumps_given id e g) ∙ v) in
          (targets_anywhere g (1 ∷ []) [] e value, (own, r));
      up = λ q r. jumps_are kind g (list d) ∙ targets_anywhere g [] (0 ∷ []) (list d) (first_up (HasTarget g) (Aimed g) (aimed_local g) id d ds (jumps_given id d g ∙ both_empty (early_jumps g (0 ∷ []) id) (early_jumps g (1 ∷ []) d) r.0 (targets_anywhere g [] (1 ∷ []) d q)) r.1);
    }

    pub once_first : Opens Once declares e d
    once_first = record {
      Beside = (early_names (0 ∷ []) id ≡ []) × Once AsWholeList (listed ds);
      down = λ q.
          let (v, r) = first_down Any Once once_local id e ds (once_anywhere (0 ∷ []) [] (list e) (sym (once_is kind (list e)) ∙ q)) in
          let (own, value) = empty_both (early_names (0 ∷ []) id) (early_names (1 ∷ []) e) (sym (once_given id e) ∙ v) in
          (once_anywhere (1 ∷ []) [] e value, (own, r));
      up = λ q r. once_is kind (list d) ∙ once_anywhere [] (0 ∷ []) (list d) (first_up Any Once once_local id d ds (once_given id d ∙ both_empty (early_names (0 ∷ []) id) (early_names (1 ∷ []) d) r.0 (once_anywhere [] (1 ∷ []) d q)) r.1);
    }

    -- what the `id` has, and the declarator itself
    abbrev NameScoped : Use → Environment → Type 0
    NameScoped u env = Nameless u env (id ▸ (e ▸ none)) × Scoped u (env ++ []) id

    value_scoped : (u : Use) (env : Environment) → Scoped u env (given id e) → Scoped Read env e × NameScoped u env
    unfolding Scoped scopes_by
    value_scoped u env a = (subst (λ r. Scoped Read r e) (append-nil (env ++ []) ∙ append-nil env) a.1.1.0, (a.0, a.1.0))

    given_scoped : is_absent e ≡ is_absent d → (u : Use) (env : Environment) → Scoped Read env d → NameScoped u env → Scoped u env (given id d)
    unfolding Scoped scopes_by
    given_scoped same u env q a = (nameless_over u env id e d same a.0, (a.1, (subst (λ r. Scoped Read r d) (sym (append-nil (env ++ []) ∙ append-nil env)) q, tt)))

    -- both initializers are there
    pub scoped_first : is_absent e ≡ is_absent d → (env : Environment) → Opens (ScopedAs Read env) declares e d
    scoped_first same env =
        let u = used Read kind in record {
          Beside = NameScoped u env × ScopedAs u env AsWholeList (listed ds);
          down = λ q.
              let (v, r) = first_down Any (ScopedAs u env) (scoped_local u env) id e ds (scoped_down kind env (list e) q) in
              let (y, b) = value_scoped u env v in
              (y, (b, r));
          up = λ q r. scoped_up kind env (list d) (first_up Any (ScopedAs u env) (scoped_local u env) id d ds (given_scoped same u env q r.0) r.1);
        }

    pub same_first : Names (declares e) (declares d)
    same_first = record {
      names = λ s. names_are s kind (given id d ▸ ds) ∙ ap (names_if (declares_as s kind)) (bound_alike e d) ∙ sym (names_are s kind (given id e ▸ ds));
      body = body_are kind (given id d ▸ ds) ∙ bound_alike e d ∙ sym (body_are kind (given id e ▸ ds));
      as_body = λ o. declarations_are o kind (given id d ▸ ds) ∙ ap (own_declarations (not (is_var kind)) []) (bound_alike e d) ∙ sym (declarations_are o kind (given id e ▸ ds));
      ports = λ m. refl;
    }
