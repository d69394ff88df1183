-- A switch whose cases lose a name keeps what else a program has to keep: a case does what its statements do, and a switch what its
-- cases do.
use Rattle.std.specs.Prelude.{ℕ, ◌+◌, ◌≤◌, ◌≡◌, refl, ◌||◌, Bool, true, false, List, [], ◌∷◌, ◌++◌, Contains, Option, None}
use Rattle.std.proofs.Common.{ap, ◌∙◌, sym, subst, arith, append_assoc}
use Rattle.std.proofs.lemmas.List.{append-nil}
use Rattle.mini_model.specs.declared.name.Name.{Name}
use Rattle.mini_model.specs.declared.name.SymbolId.{SymbolId}
use Rattle.mini_model.specs.declared.place.Position.TheVariants.{Stmt}
use Rattle.mini_model.specs.declared.seat.StmtSeat.{StmtSeat}
use Rattle.mini_model.specs.declared.shape.Shape.TheVariants as shape
use Rattle.mini_model.specs.Tree.{Tree, Trees, none, ◌▸◌, listed}
use Rattle.mini_model.specs.Paths.{append}
use Rattle.mini_laws.specs.declared.names.Binding.{Binding}
use Rattle.mini_laws.specs.declared.names.Declared.{Declared}
use Rattle.mini_laws.specs.declared.names.Declared.TheVariants as declared
use Rattle.mini_laws.specs.declared.names.Targets.{Targets}
use Rattle.mini_laws.specs.declared.names.Use.{Use}
use Rattle.mini_laws.specs.declared.names.Use.TheVariants.{Read}
use Rattle.mini_laws.specs.DeclaredNames.{names_of, all_names, body_names, with_names, has_inner}
use Rattle.mini_laws.specs.Edits.{Kept}
use Rattle.mini_laws.specs.Resolved.{Environment}
use Rattle.mini_laws.specs.Scopes.{scopes_by, use_of, opened}
use Rattle.mini_laws.specs.Scoped.{Scoped, Unmentioned, AllUnmentioned}
use Rattle.mini_laws.specs.Symbols.{symbols_in, declared as declared_in, times}
use Rattle.mini_laws.specs.Early.{Path, own_declarations, body_declarations, scope_declarations, early_names, targets_of, early_jumps, is_loop, clashing}
use Rattle.mini_laws.proofs.Changes.{times_both}
use Rattle.mini_laws.proofs.Drops.{dropped}
use Rattle.mini_laws.specs.Value.{Variable, variable_eq, variable_of}
use Rattle.mini_laws.specs.State.{Writable}
use Rattle.mini_laws.specs.Fixity.{stricter, fixed_by}
use Rattle.mini_laws.specs.Bodies.{Around, below, bodies}
use Rattle.mini_kept.specs.AlikeBodies.{BodiesKept}
use Rattle.mini_kept.specs.Carried.{numbers}
use Rattle.mini_kept.specs.Declaring.{declared as names_declared}
use Rattle.mini_kept.specs.Frames.{property_below, frames, FramesKept}
use Rattle.mini_kept.specs.KeepsNames.{Keeps, count_of}
use Rattle.mini_kept.specs.Loosely.{symbol}
use Rattle.mini_kept.specs.SameNames.{NoMoreClash}
use Rattle.mini_kept.proofs.Below.{both_empty, empty_both, both_counts}
use Rattle.mini_kept.proofs.BodyLists as body_list
use Rattle.mini_kept.proofs.Clashes.{no_more_same, no_more_both, still_free}
use Rattle.mini_kept.proofs.Fixed.{of_children}
use Rattle.mini_kept.proofs.FrameLists as frame_list
use Rattle.mini_kept.proofs.Unplaced.{as_body, all_as_body, body_same}
use Rattle.mini_rows.specs.Cases.{switch_case}
use Rattle.mini_rows.specs.Lists.{switch}
use Rattle.mini_rows.specs.Sketches.{Asked, AsWholeItem, AsWholeList, Leap}
use Rattle.mini_rows.specs.Unused.{names, any_names}
use Rattle.mini_rows.proofs.Arranging.{All, Below, Any, Local, sum_below}
use Rattle.mini_rows.proofs.ArrangedNames.{ScopedAs, scoped_local, scoped_below, below_scoped, symbol_times, symbols_below, number_times, numbers_below, InnerIf, inner_local, inner_below, below_inner, Once, once_local, once_below, below_once, HasTarget, Aimed, aimed_local, aimed_below, below_aimed}
use Rattle.mini_rows.proofs.ArrangedBodies.{quiet, HasBodies, bodies_local, bodies_below, below_bodies, HasFrames, frames_local, frames_below, below_frames, Declares, declares_local, declares_below, below_declares, FixedBy, fixed_local, fixed_below, below_fixed, rank}
use Rattle.mini_rows.proofs.FunctionBodyKept.{contained, own_symbol}
use Rattle.mini_rows.proofs.ListKeptStretch.{stretched}
use Rattle.mini_rows.proofs.UnusedKept.{LeavesThere, NamesThere, list_inner, list_scoped, list_symbols, list_numbers, list_once, list_targets, list_fixed, list_frames, list_bodies, list_declares, list_hoists, lexical_first, lexical_last, lexical_with, lexical_without, bind, scope_of, scopes, with_it, without_it, one_less, less_clash, fewer, all_append}
use Rattle.mini_rows.proofs.UnusedNames.{Other, other_both, declared_other, unmentioned, all_unmentioned}

-- ---- a case

abbrev lists : ℕ → Asked
lists i = AsWholeList

module _ (test : Tree) where
  abbrev of : Trees → Tree
  of ts = switch_case test ts

  abbrev parts : Trees → Trees
  parts ts = test ▸ (listed ts ▸ none)

  through : (J : Leap → Type 0) (Q : Asked → Tree → Type 0) → Local J Q → ((ts : Trees) → Q AsWholeItem (of ts) → Below Q lists 0 (parts ts)) → ((ts : Trees) → Below Q lists 0 (parts ts) → Q AsWholeItem (of ts)) → (before after a b : Trees) → (All Q AsWholeItem a → All Q AsWholeItem b)
      → All Q AsWholeItem (of (append before (append a after)) ▸ none) → All Q AsWholeItem (of (append before (append b after)) ▸ none)
  through J Q loc down up before after a b k q =
      let r = down (append before (append a after)) q.0 in
      (up (append before (append b after)) (r.0, (stretched J Q loc before after a b k r.1.0, tt)), tt)

  inner_down : (b : Bool) (ts : Trees) → InnerIf b AsWholeItem (of ts) → Below (InnerIf b) lists 0 (parts ts)
  unfolding has_inner
  inner_down b ts q = inner_below b lists 0 (parts ts) q

  inner_up : (b : Bool) (ts : Trees) → Below (InnerIf b) lists 0 (parts ts) → InnerIf b AsWholeItem (of ts)
  unfolding has_inner
  inner_up b ts r = below_inner b lists 0 (parts ts) r

  scoped_down : (env : Environment) (ts : Trees) → ScopedAs Read env AsWholeItem (of ts) → Below (ScopedAs Read env) lists 0 (parts ts)
  unfolding Scoped scopes_by
  scoped_down env ts s = scoped_below Read env lists (opened Read shape.SwitchCase (parts ts)) (λ j. refl) (use_of shape.SwitchCase Read) (λ j. refl) 0 env refl (parts ts) s.1

  scoped_up : (env : Environment) (ts : Trees) → Below (ScopedAs Read env) lists 0 (parts ts) → ScopedAs Read env AsWholeItem (of ts)
  unfolding Scoped scopes_by
  scoped_up env ts r = (tt, below_scoped Read env lists (opened Read shape.SwitchCase (parts ts)) (λ j. refl) (use_of shape.SwitchCase Read) (λ j. refl) 0 env refl (parts ts) r)

  case_symbols : (y : Option SymbolId) (ts : Trees) → times y (declared_in Read (of ts)) ≡ sum_below (symbol_times Read y) lists 0 (parts ts)
  unfolding declared_in scopes_by
  case_symbols y ts = symbols_below Read y lists (opened Read shape.SwitchCase (parts ts)) (λ j. refl) (use_of shape.SwitchCase Read) (λ j. refl) 0 (parts ts)

  case_numbers : (k : ℕ) (ts : Trees) → count_of k (numbers (of ts)) ≡ sum_below (number_times k) lists 0 (parts ts)
  unfolding numbers
  case_numbers k ts = numbers_below k lists 0 (parts ts)

  once_down : (ts : Trees) → Once AsWholeItem (of ts) → Below Once lists 0 (parts ts)
  unfolding early_names scope_declarations
  once_down ts q = once_below lists [] 0 (parts ts) q

  once_up : (ts : Trees) → Below Once lists 0 (parts ts) → Once AsWholeItem (of ts)
  unfolding early_names scope_declarations
  once_up ts r = below_once lists [] 0 (parts ts) r

  aimed_down : (g : Targets) (ts : Trees) → Aimed g AsWholeItem (of ts) → Below (Aimed g) lists 0 (parts ts)
  unfolding early_jumps targets_of
  aimed_down g ts q = aimed_below g lists (targets_of shape.SwitchCase (parts ts) g) (λ j. refl) [] 0 (parts ts) q

  aimed_up : (g : Targets) (ts : Trees) → Below (Aimed g) lists 0 (parts ts) → Aimed g AsWholeItem (of ts)
  unfolding early_jumps targets_of
  aimed_up g ts r = below_aimed g lists (targets_of shape.SwitchCase (parts ts) g) (λ j. refl) [] 0 (parts ts) r

  fixed_down : (y : Variable) (j : ℕ) (ts : Trees) → FixedBy y j AsWholeItem (of ts) → Below (FixedBy y j) lists 0 (parts ts)
  fixed_down y j ts q = fixed_below y j lists 0 (parts ts) (subst (λ f. rank f ≤ j) (of_children shape.SwitchCase [] 0 (parts ts) y refl) q)

  fixed_up : (y : Variable) (j : ℕ) (ts : Trees) → Below (FixedBy y j) lists 0 (parts ts) → FixedBy y j AsWholeItem (of ts)
  fixed_up y j ts r = subst (λ f. rank f ≤ j) (sym (of_children shape.SwitchCase [] 0 (parts ts) y refl)) (below_fixed y j lists 0 (parts ts) r)

module _ (x : Name) (k : ℕ) (e : x.symbol ≡ symbol k) (test : Tree) (before after d w : Trees) (l : LeavesThere x d w) (unread : names x test ≡ false) (earlier : any_names x before ≡ false) (later : any_names x after ≡ false) where
  abbrev A : Trees
  A = append before (append d after)

  abbrev B : Trees
  B = append before (append w after)

  abbrev with_it_there : Trees
  with_it_there = switch_case test A ▸ none

  abbrev left_there : Trees
  left_there = switch_case test B ▸ none

  none_mention : AllUnmentioned (record { name = x; hoists = false }) left_there
  unfolding Unmentioned
  none_mention =
      let b : Binding = record { name = x; hoists = false } in
      ((tt, (unmentioned x k e test unread, ((tt, all_append b before (append w after) (all_unmentioned x k e before earlier) (all_append b w after l.unmentioned (all_unmentioned x k e after later))), tt))), tt)

  pub case_leaves : LeavesThere x with_it_there left_there
  case_leaves = record {
    inner = λ b. through test Any (InnerIf b) (inner_local b) (inner_down test b) (inner_up test b) before after d w (l.inner b);
    inner_back = λ b. through test Any (InnerIf b) (inner_local b) (inner_down test b) (inner_up test b) before after w d (l.inner_back b);
    scoped = λ env. through test Any (ScopedAs Read env) (scoped_local Read env) (scoped_down test env) (scoped_up test env) before after d w (l.scoped env);
    unmentioned = none_mention;
    symbols = λ y. omega (arith, case_symbols test y A, case_symbols test y B, list_symbols x before after d w l y);
    numbered = λ j. omega (arith, case_numbers test j A, case_numbers test j B, list_numbers x before after d w l j);
    once = through test Any Once once_local (once_down test) (once_up test) before after d w l.once;
    targets = λ g. through test (HasTarget g) (Aimed g) (aimed_local g) (aimed_down test g) (aimed_up test g) before after d w (l.targets g);
    framed = λ all. through test Any (HasFrames all) (frames_local all) (λ ts q. frames_below all lists (property_below shape.SwitchCase) (λ j. refl) 0 (parts test ts) q) (λ ts r. below_frames all lists (property_below shape.SwitchCase) (λ j. refl) 0 (parts test ts) r) before after d w (l.framed all);
    bodied = λ all a. through test Any (HasBodies all a) (bodies_local all a) (λ ts q. bodies_below all a lists (below (quiet a) shape.SwitchCase (parts test ts)) (λ j. refl) 0 (parts test ts) q) (λ ts r. below_bodies all a lists (below (quiet a) shape.SwitchCase (parts test ts)) (λ j. refl) 0 (parts test ts) r) before after d w (l.bodied all a);
    fixed = λ y j. through test Any (FixedBy y j) (fixed_local y j) (fixed_down test y j) (fixed_up test y j) before after d w (l.fixed y j);
    fixed_back = λ y j o. through test Any (FixedBy y j) (fixed_local y j) (fixed_down test y j) (fixed_up test y j) before after w d (l.fixed_back y j o);
    declares = λ all. through test Any (Declares all) (declares_local all) (λ ts q. declares_below all lists 0 (parts test ts) q) (λ ts r. below_declares all lists 0 (parts test ts) r) before after d w (l.declares all);
  }

  module _ (n : NamesThere x d w) (o : Other x (all_names declared.Lexical before)) (p : Other x (all_names declared.Lexical after)) where
    abbrev first : List Name
    first = lexical_first x before after d w l n

    abbrev last : List Name
    last = lexical_last x before after d w l n

    abbrev of_test : List Name
    of_test = names_of declared.Lexical test

    case_lexical : (ts : Trees) (ys : List Name) → names_of declared.Lexical (listed ts) ≡ first ++ ys → all_names declared.Lexical (switch_case test ts ▸ none) ≡ (of_test ++ first) ++ ys
    unfolding names_of
    case_lexical ts ys f =
        let inside = names_of declared.Lexical (listed ts) in
        append-nil (of_test ++ (inside ++ [])) ∙ ap (λ zs. of_test ++ zs) (append-nil inside ∙ f) ∙ sym (append_assoc of_test first ys)

    case_hoisted : (ts : Trees) → all_names declared.Hoisted (switch_case test ts ▸ none) ≡ (names_of declared.Hoisted test ++ (names_of declared.Hoisted (listed ts) ++ [])) ++ []
    unfolding names_of
    case_hoisted ts = refl

    case_clash : NoMoreClash (all_as_body false left_there) (all_as_body false with_it_there)
    case_clash =
        let own = as_body false test in
        let nils : NoMoreClash [] [] = no_more_same [] [] refl in
        no_more_both (own ++ (as_body false (listed A) ++ [])) (own ++ (as_body false (listed B) ++ [])) [] [] (no_more_both own own (as_body false (listed A) ++ []) (as_body false (listed B) ++ []) (no_more_same own own refl) (no_more_both (as_body false (listed A)) (as_body false (listed B)) [] [] (less_clash x before after d w l n o p) nils)) nils

    pub case_names : NamesThere x with_it_there left_there
    case_names = record {
      first = of_test ++ first;
      last = last;
      names = case_lexical A (x ∷ last) (lexical_with x before after d w l n);
      left = case_lexical B last (lexical_without x before after d w l n);
      others_first = other_both x of_test first (declared_other x declared.Lexical test unread) (other_both x (all_names declared.Lexical before) n.first o n.others_first);
      others_last = other_both x n.last (all_names declared.Lexical after) n.others_last p;
      hoists = case_hoisted B ∙ ap (λ ys. (names_of declared.Hoisted test ++ (ys ++ [])) ++ []) (list_hoists x before after d w l n) ∙ sym (case_hoisted A);
      clash = case_clash;
    }

-- ---- a switch over cases

module _ (x : Name) (discriminant : Tree) (before after d w : Trees) (l : LeavesThere x d w) (n : NamesThere x d w) (o : Other x (all_names declared.Lexical before)) (p : Other x (all_names declared.Lexical after)) where
  abbrev C : Trees
  C = append before (append d after)

  abbrev E : Trees
  E = append before (append w after)

  abbrev over : Trees → Tree
  over ts = switch discriminant (listed ts)

  abbrev scope_there : Trees → Environment
  scope_there ts = scope_of x before after d w l n o p (with_names [] (names_of declared.Lexical (listed ts)))

  switch_symbols : (v : Use) (y : Option SymbolId) → times y (declared_in v (over E)) + times y (x.symbol ∷ []) ≤ times y (declared_in v (over C))
  unfolding declared_in scopes_by
  switch_symbols v y =
      let own = declared_in Read discriminant in
      let sa = symbols_in (scope_there C) in
      let sb = symbols_in (scope_there E) in
      let la = declared_in Read (listed C) in
      let lb = declared_in Read (listed E) in
      omega (
        arith,
        one_less x before after d w l n o p y,
        list_symbols x before after d w l y,
        times_both y own (sa ++ (la ++ [])),
        times_both y own (sb ++ (lb ++ [])),
        times_both y sa (la ++ []),
        times_both y sb (lb ++ []),
        times_both y la [],
        times_both y lb [],
      )

  pub switch_less : (k : ℕ) → x.symbol ≡ symbol k → (v : Use) → times (symbol k) (declared_in v (over E)) + 1 ≤ times (symbol k) (declared_in v (over C))
  switch_less k e v =
      let s = switch_symbols v (symbol k) in
      let h : times (symbol k) (x.symbol ∷ []) ≡ 1 = ap (λ y. times (symbol k) (y ∷ [])) e ∙ own_symbol k in
      omega (arith, s, h)

  switch_scoped : Unmentioned (bind x before after d w l n o p x) (listed E) → (v : Use) (env : Environment) → Scoped v env (over C) → Scoped v env (over E)
  unfolding Scoped scopes_by
  switch_scoped m v env s =
      let there = env ++ [] in
      let is = scopes x before after d w l n o p in
      let f = scope_of x before after d w l n o p is.first in
      let g = scope_of x before after d w l n o p is.last in
      let inner = list_scoped x before after d w l (there ++ scope_there C) s.1.1.0 in
      let moved = subst (λ r. Scoped Read r (listed E)) (ap (λ bs. there ++ bs) (with_it x before after d w l n o p) ∙ sym (append_assoc there f (bind x before after d w l n o p x ∷ g))) inner in
      let left = dropped Read (there ++ f) g (bind x before after d w l n o p x) (listed E) moved m in
      (tt, (s.1.0, (subst (λ r. Scoped Read r (listed E)) (append_assoc there f g ∙ ap (λ bs. there ++ bs) (sym (without_it x before after d w l n o p))) left, tt)))

  switch_names : (q : Declared) → names_of q (over E) ≡ names_of q (over C)
  unfolding names_of
  switch_names declared.Bound = refl
  switch_names declared.Lexical = refl
  switch_names declared.Hoisted = ap (λ ys. names_of declared.Hoisted discriminant ++ (ys ++ [])) (list_hoists x before after d w l n)

  switch_body : body_names (over E) ≡ body_names (over C)
  unfolding body_names names_of
  switch_body = switch_names declared.Hoisted

  switch_inner : has_inner (over E) ≡ has_inner (over C)
  unfolding has_inner
  switch_inner = ap (λ b. has_inner discriminant || (b || false)) (list_inner x before after d w l)

  pub switch_kept : Kept (over C) (over E)
  switch_kept = record { names = switch_names; body = switch_body; inner = switch_inner; symbols = λ v y. let s = switch_symbols v y in omega (arith, s) }

  as_statements : (b : Bool) → as_body b (over E) ≡ as_body b (over C)
  unfolding names_of
  as_statements b = ap (λ ys. own_declarations false [] ys) (switch_names declared.Hoisted)

  switch_numbers : (k : ℕ) → count_of k (numbers (over E)) ≤ count_of k (numbers (over C))
  unfolding numbers
  switch_numbers k =
      let own = numbers discriminant in
      let those = λ (ts : Trees). numbers (listed ts) ++ [] in
      let fewer_there = list_numbers x before after d w l k in
      let a = ap (count_of k) (append-nil (numbers (listed C))) in
      let b = ap (count_of k) (append-nil (numbers (listed E))) in
      omega (arith, fewer_there, a, b, both_counts k own (those C), both_counts k own (those E))

  switch_once : (r : Path) → early_names r (over C) ≡ [] → early_names r (over E) ≡ []
  unfolding early_names scope_declarations
  switch_once r e =
      let p1 = r ++ 1 ∷ [] in
      let own = early_names (r ++ 0 ∷ []) discriminant in
      let (c, rest) = empty_both (clashing [] (body_declarations false p1 (listed C))) (own ++ (early_names p1 (listed C) ++ [])) e in
      let (f, q) = empty_both own (early_names p1 (listed C) ++ []) rest in
      both_empty (clashing [] (body_declarations false p1 (listed E))) (own ++ (early_names p1 (listed E) ++ [])) (still_free (body_declarations false p1 (listed C)) (body_declarations false p1 (listed E)) (fewer x before after d w l n o p p1) c)
      (both_empty own (early_names p1 (listed E) ++ []) f (append-nil (early_names p1 (listed E)) ∙ list_once x before after d w l p1 (sym (append-nil (early_names p1 (listed C))) ∙ q)))

  switch_targets : (g : Targets) (r : Path) → early_jumps g r (over C) ≡ [] → early_jumps g r (over E) ≡ []
  unfolding early_jumps targets_of
  switch_targets g r e =
      let inside : Targets = record g { breaks = true } in
      let p1 = r ++ 1 ∷ [] in
      let own = early_jumps g (r ++ 0 ∷ []) discriminant in
      let (f, q) = empty_both own (early_jumps inside p1 (listed C) ++ []) e in
      both_empty own (early_jumps inside p1 (listed E) ++ []) f (append-nil (early_jumps inside p1 (listed E)) ∙ list_targets x before after d w l inside p1 (sym (append-nil (early_jumps inside p1 (listed C))) ∙ q))

  pub switch_keeps : Unmentioned (bind x before after d w l n o p x) (listed E) → (q : StmtSeat) → Keeps (Stmt q) (over C) (over E)
  unfolding is_loop
  switch_keeps m q = record {
    kept = switch_kept;
    scoped = λ v env st a. switch_scoped m v env a;
    numbers = switch_numbers;
    declared_as_body = λ b r. body_same b r r (over C) (over E) (as_statements b);
    once = switch_once;
    targets = switch_targets;
    loop = refl;
    root = λ e. absurd (cc e);
    block = λ e. absurd (cc e);
  }

  pub switch_fixed : (y : Variable) → variable_eq (variable_of x) y ≡ false → fixed_by (over C) y ≡ fixed_by (over E) y
  switch_fixed y f =
      of_children shape.SwitchStatement [] 0 (discriminant ▸ (listed C ▸ none)) y refl ∙ ap (λ g. stricter (fixed_by discriminant y) (stricter g Writable)) (list_fixed x before after d w l y f)
      ∙ sym (of_children shape.SwitchStatement [] 0 (discriminant ▸ (listed E ▸ none)) y refl)

  pub switch_frames : FramesKept (frames None (over C)) (frames None (over E))
  switch_frames =
      frame_list.each_of (frames None discriminant) (frames None (listed C) ++ []) (frames None discriminant) (frames None (listed E) ++ []) (λ f c. c)
      (subst (λ fs. FramesKept fs (frames None (listed E) ++ [])) (sym (append-nil (frames None (listed C)))) (subst (FramesKept (frames None (listed C))) (sym (append-nil (frames None (listed E)))) (list_frames x before after d w l)))

  pub switch_bodies : (a : Around) → BodiesKept (bodies a (over C)) (bodies a (over E))
  switch_bodies a =
      let own = bodies (quiet a) discriminant in
      body_list.each_of own (bodies (quiet a) (listed C) ++ []) own (bodies (quiet a) (listed E) ++ []) (body_list.kept_itself own)
      (subst (λ bs. BodiesKept bs (bodies (quiet a) (listed E) ++ [])) (sym (append-nil (bodies (quiet a) (listed C)))) (subst (BodiesKept (bodies (quiet a) (listed C))) (sym (append-nil (bodies (quiet a) (listed E)))) (list_bodies x before after d w l a)))

  pub switch_declares : (y : Name) → Contains (names_declared (over E)) y → Contains (names_declared (over C)) y
  switch_declares =
      contained (names_declared discriminant) (names_declared (listed E) ++ []) (names_declared (listed C) ++ [])
      (λ y c. subst (λ ys. Contains ys y) (sym (append-nil (names_declared (listed C)))) (list_declares x before after d w l y (subst (λ ys. Contains ys y) (append-nil (names_declared (listed E))) c)))
