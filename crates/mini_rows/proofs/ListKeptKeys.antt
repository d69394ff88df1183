-- An expression that goes into the right side of the `for..in` after it is kept: the head declares no lexical name, so that no
-- other names are seen there.
use Rattle.std.specs.Prelude.{ℕ, ◌+◌, ◌≤◌, ◌≡◌, refl, ◌&&◌, ◌||◌, Bool, true, false, List, [], ◌∷◌, ◌++◌, Contains, Option, None}
use Rattle.std.proofs.Common.{ap, ◌∙◌, sym, subst, arith, inl, inr, ◌⊎◌, ⊎_elim, true≢false}
use Rattle.std.proofs.lemmas.Bool.{and_parts}
use Rattle.std.proofs.lemmas.List.{append-nil}
use Rattle.std.proofs.lemmas.List.Elements.{Contains-append_left, Contains-append_right, Contains-append_cases}
use Rattle.mini_model.specs.declared.kind.VariableDeclarationKind.TheVariants.{Var}
use Rattle.mini_model.specs.declared.name.Name.{Name}
use Rattle.mini_model.specs.declared.name.SymbolId.{SymbolId}
use Rattle.mini_model.specs.declared.place.Position.TheVariants.{StatementList}
use Rattle.mini_model.specs.declared.shape.Shape.TheVariants as shape
use Rattle.mini_model.specs.Tree.{Tree, Trees, node, none, ◌▸◌, listed, shape_of, expression_statement}
use Rattle.mini_model.specs.Paths.{append}
use Rattle.mini_accept.specs.WellShaped.{Depth, nested, a_statement, a_loop_left, an_expression, one, each, fits, fill}
use Rattle.mini_laws.specs.declared.names.Use.{Use}
use Rattle.mini_laws.specs.declared.names.Use.TheVariants.{Read, Write}
use Rattle.mini_laws.specs.declared.names.Binding.{Binding}
use Rattle.mini_laws.specs.declared.names.Declared.{Declared}
use Rattle.mini_laws.specs.declared.names.Declared.TheVariants as declared
use Rattle.mini_laws.specs.declared.names.Targets.{Targets}
use Rattle.mini_laws.specs.DeclaredNames.{has_inner, any_inner, names_of, all_names, body_names, lexical_names, with_names}
use Rattle.mini_laws.specs.Scopes.{use_of, scopes_by, at_or_empty, lexical_scope}
use Rattle.mini_laws.specs.Resolved.{Environment}
use Rattle.mini_laws.specs.Scoped.{Scoped, AllScoped}
use Rattle.mini_laws.specs.Symbols.{symbols_in, declared as declared_in, declared_from, times}
use Rattle.mini_laws.specs.Early.{Path, own_declarations, declarations, scope_declarations, clashing, early_names, all_early_names, targets_of, early_jumps, all_early_jumps}
use Rattle.mini_laws.proofs.Changes.{times_both}
use Rattle.mini_laws.specs.Value.{Variable, is_in}
use Rattle.mini_laws.specs.Naming.{lets_first, summaries}
use Rattle.mini_laws.specs.Fixity.{stricter, fixed_by, fixed_by_any}
use Rattle.mini_laws.specs.Bodies.{Around, Body, bodies, bodies_from}
use Rattle.mini_kept.specs.AlikeBodies.{BodiesKept}
use Rattle.mini_kept.specs.Carried.{numbers, all_numbers}
use Rattle.mini_kept.specs.Declaring.{declared as names_declared, declared_all}
use Rattle.mini_kept.specs.Frames.{Frame, property_below, frames, frames_from, FramesKept}
use Rattle.mini_kept.specs.KeepsNames.{count_of}
use Rattle.mini_kept.proofs.Anywhere.{once_anywhere, targets_anywhere}
use Rattle.mini_kept.proofs.Below.{both_counts, empty_both, both_empty}
use Rattle.mini_kept.proofs.Bools.{left}
use Rattle.mini_kept.proofs.BodyLists.{both_of as both_bodies}
use Rattle.mini_kept.proofs.Expressions.{refused_here}
use Rattle.mini_kept.proofs.Quiet.{no_names}
use Rattle.mini_kept.proofs.Unplaced.{as_body}
use Rattle.mini_rows.specs.Lists.{for_in, declares_nothing, is_var_shape, is_bare_var, is_plain_left, of_parts, Row67In}
use Rattle.mini_rows.specs.Arranged.{KeptAt}
use Rattle.mini_rows.specs.Sketches.{part, Asked, AsWholeItem, AsValue, Leap}
use Rattle.mini_rows.proofs.Arranging.{All, Any, Local, sum_all}
use Rattle.mini_rows.proofs.ArrangedNames.{ScopedAs, scoped_local, symbol_times, symbols_summed, number_times, numbers_summed, InnerIf, inner_local, Once, once_local, HasTarget, Aimed, aimed_local}
use Rattle.mini_rows.proofs.ArrangedBodies.{quiet, HasBodies, bodies_local, HasFrames, frames_local, Among, Declares, declares_local, FixedBy, fixed_local, rank}
use Rattle.mini_rows.proofs.ArrangedValues.{is_value, sketch_valued}
use Rattle.mini_rows.proofs.ListKeptStretch.{NamesStretched, Stretched, stretch_kept}
use Rattle.mini_rows.proofs.ListKeptDeclarations.{split_rank, both_rank}
use Rattle.mini_rows.proofs.ListKeptHeads.{of_statement, statement_of, sum_statement, Joins, parts_join, quiet_value, or_both, both_or, both_writable, split_bodies, statement_names, statement_body, statement_as_body, both_value, second_of}

-- each of a list with others before it

module _ {A : Type 0} (all : List A) where
  abbrev pub Inside : List A → Type 0
  Inside xs = (x : A) → Contains xs x → Contains all x

  pub inside_both : (xs ys : List A) → Inside (xs ++ ys) → Inside xs × Inside ys
  inside_both xs ys k = (λ x c. k x (Contains-append_left xs ys x c), λ x c. k x (Contains-append_right xs ys x c))

  pub both_inside : (xs ys : List A) → Inside xs → Inside ys → Inside (xs ++ ys)
  both_inside xs ys k l x c = by (Contains-append_cases xs ys x c)
    where
      by : Contains xs x ⊎ Contains ys x → Contains all x
      by (inl d) = k x d
      by (inr d) = l x d

-- ---- the loop: what stands there beside the expression

module _ (l w : Tree) where
  abbrev pub over : Tree → Tree
  over e = for_in l e w

  module _ (b : Bool) where
    abbrev pub InnerBeside : Type 0
    InnerBeside = ((has_inner l || b) ≡ b) × ((any_inner (w ▸ none) || b) ≡ b)

    pub inner_down : (e : Tree) → InnerIf b AsWholeItem (over e) → InnerIf b AsValue e × InnerBeside
    unfolding has_inner
    inner_down e q =
        let (x, y) = or_both b (has_inner l) (any_inner (e ▸ (w ▸ none))) q in
        let (z, v) = or_both b (has_inner e) (any_inner (w ▸ none)) y in
        (z, (x, v))

    pub inner_up : (e : Tree) → InnerIf b AsValue e → InnerBeside → InnerIf b AsWholeItem (over e)
    unfolding has_inner
    inner_up e q r = both_or b (has_inner l) (any_inner (e ▸ (w ▸ none))) r.0 (both_or b (has_inner e) (any_inner (w ▸ none)) q r.1)

  pub fixed_is : (e : Tree) (x : Variable) → fixed_by (over e) x ≡ stricter (fixed_by l x) (stricter (fixed_by e x) (fixed_by_any (w ▸ none) x))
  fixed_is e x = ap (λ f. stricter f (stricter (fixed_by l x) (stricter (fixed_by e x) (fixed_by_any (w ▸ none) x)))) (both_writable (is_in x (lets_first (summaries (l ▸ none)))))

  module _ (x : Variable) (k : ℕ) where
    abbrev pub FixedBeside : Type 0
    FixedBeside = (rank (fixed_by l x) ≤ k) × (rank (fixed_by_any (w ▸ none) x) ≤ k)

    pub fixed_down : (e : Tree) → FixedBy x k AsWholeItem (over e) → FixedBy x k AsValue e × FixedBeside
    fixed_down e q =
        let (y, z) = split_rank k (fixed_by l x) (stricter (fixed_by e x) (fixed_by_any (w ▸ none) x)) (subst (λ f. rank f ≤ k) (fixed_is e x) q) in
        let (v, r) = split_rank k (fixed_by e x) (fixed_by_any (w ▸ none) x) z in
        (v, (y, r))

    pub fixed_up : (e : Tree) → FixedBy x k AsValue e → FixedBeside → FixedBy x k AsWholeItem (over e)
    fixed_up e q r = subst (λ f. rank f ≤ k) (sym (fixed_is e x)) (both_rank k (fixed_by l x) (stricter (fixed_by e x) (fixed_by_any (w ▸ none) x)) r.0 (both_rank k (fixed_by e x) (fixed_by_any (w ▸ none) x) q r.1))

  module _ (all : List Name) where
    abbrev pub NamesBeside : Type 0
    NamesBeside = Among all (names_declared l) × Among all (declared_all (w ▸ none))

    pub declares_down : (e : Tree) → Declares all AsWholeItem (over e) → Declares all AsValue e × NamesBeside
    declares_down e q =
        let (x, y) = inside_both all (names_declared l) (names_declared e ++ declared_all (w ▸ none)) q in
        let (z, r) = inside_both all (names_declared e) (declared_all (w ▸ none)) y in
        (z, (x, r))

    pub declares_up : (e : Tree) → Declares all AsValue e → NamesBeside → Declares all AsWholeItem (over e)
    declares_up e q r = both_inside all (names_declared l) (names_declared e ++ declared_all (w ▸ none)) r.0 (both_inside all (names_declared e) (declared_all (w ▸ none)) q r.1)

  abbrev pub last_frames : List Frame
  last_frames = frames_from (property_below shape.ForInStatement) 2 (w ▸ none)

  module _ (all : List Frame) where
    abbrev pub FramesBeside : Type 0
    FramesBeside = FramesKept all (frames None l) × FramesKept all last_frames

    pub frames_down : (e : Tree) → HasFrames all AsWholeItem (over e) → HasFrames all AsValue e × FramesBeside
    frames_down e q =
        let (x, y) = inside_both all (frames None l) (frames None e ++ last_frames) q in
        let (z, r) = inside_both all (frames None e) last_frames y in
        (z, (x, r))

    pub frames_up : (e : Tree) → HasFrames all AsValue e → FramesBeside → HasFrames all AsWholeItem (over e)
    frames_up e q r = both_inside all (frames None l) (frames None e ++ last_frames) r.0 (both_inside all (frames None e) last_frames q r.1)

  module _ (all : List Body) (a : Around) where
    abbrev pub last_bodies : List Body
    last_bodies = bodies_from (λ j. quiet a) 2 (w ▸ none)

    abbrev pub BodiesBeside : Type 0
    BodiesBeside = BodiesKept all (bodies (quiet a) l) × BodiesKept all last_bodies

    pub bodies_down : (e : Tree) → HasBodies all a AsWholeItem (over e) → HasBodies all a AsValue e × BodiesBeside
    bodies_down e q =
        let (x, y) = split_bodies all (bodies (quiet a) l) (bodies (quiet a) e ++ last_bodies) q in
        let (z, r) = split_bodies all (bodies (quiet a) e) last_bodies y in
        (z, (x, r))

    pub bodies_up : (e : Tree) → HasBodies all a AsValue e → BodiesBeside → HasBodies all a AsWholeItem (over e)
    bodies_up e q r = both_bodies all (bodies (quiet a) l) (bodies (quiet a) e ++ last_bodies) r.0 (both_bodies all (bodies (quiet a) e) last_bodies q r.1)

  pub numbers_are : (e : Tree) → numbers (over e) ≡ numbers l ++ (numbers e ++ all_numbers (w ▸ none))
  unfolding numbers
  numbers_are e = refl

  -- jumps

  module _ (g : Targets) where
    pub last_jumps : List Path
    last_jumps = all_early_jumps (targets_of shape.ForInStatement none g) [] 2 (w ▸ none)

    abbrev pub JumpsBeside : Type 0
    JumpsBeside = (early_jumps g (0 ∷ []) l ≡ []) × (last_jumps ≡ [])

    pub jumps_are : (e : Tree) → early_jumps g [] (over e) ≡ early_jumps g (0 ∷ []) l ++ (early_jumps g (1 ∷ []) e ++ last_jumps)
    unfolding last_jumps early_jumps targets_of
    jumps_are e = refl

    pub aimed_down : (e : Tree) → Aimed g AsWholeItem (over e) → Aimed g AsValue e × JumpsBeside
    aimed_down e q =
        let (x, y) = empty_both (early_jumps g (0 ∷ []) l) (early_jumps g (1 ∷ []) e ++ last_jumps) (sym (jumps_are e) ∙ q) in
        let (z, r) = empty_both (early_jumps g (1 ∷ []) e) last_jumps y in
        (targets_anywhere g (1 ∷ []) [] e z, (x, r))

    pub aimed_up : (e : Tree) → Aimed g AsValue e → JumpsBeside → Aimed g AsWholeItem (over e)
    aimed_up e q r = jumps_are e ∙ both_empty (early_jumps g (0 ∷ []) l) (early_jumps g (1 ∷ []) e ++ last_jumps) r.0 (both_empty (early_jumps g (1 ∷ []) e) last_jumps (targets_anywhere g [] (1 ∷ []) e q) r.1)

  -- names that are declared twice

  pub own_clashes : List Path
  own_clashes = clashing [] (declarations declared.Lexical true (0 ∷ []) l ++ declarations declared.Hoisted false (2 ∷ []) w)

  pub last_names : List Path
  last_names = all_early_names [] 2 (w ▸ none)

  abbrev pub OnceBeside : Type 0
  OnceBeside = (own_clashes ≡ []) × ((early_names (0 ∷ []) l ≡ []) × (last_names ≡ []))

  pub names_are : (e : Tree) → early_names [] (over e) ≡ own_clashes ++ (early_names (0 ∷ []) l ++ (early_names (1 ∷ []) e ++ last_names))
  unfolding own_clashes last_names early_names scope_declarations
  names_are e = refl

  pub once_down : (e : Tree) → Once AsWholeItem (over e) → Once AsValue e × OnceBeside
  once_down e q =
      let (c, x) = empty_both own_clashes (early_names (0 ∷ []) l ++ (early_names (1 ∷ []) e ++ last_names)) (sym (names_are e) ∙ q) in
      let (y, z) = empty_both (early_names (0 ∷ []) l) (early_names (1 ∷ []) e ++ last_names) x in
      let (v, r) = empty_both (early_names (1 ∷ []) e) last_names z in
      (once_anywhere (1 ∷ []) [] e v, (c, (y, r)))

  pub once_up : (e : Tree) → Once AsValue e → OnceBeside → Once AsWholeItem (over e)
  once_up e q r =
      names_are e
      ∙ both_empty own_clashes (early_names (0 ∷ []) l ++ (early_names (1 ∷ []) e ++ last_names)) r.0
      (both_empty (early_names (0 ∷ []) l) (early_names (1 ∷ []) e ++ last_names) r.1.0 (both_empty (early_names (1 ∷ []) e) last_names (once_anywhere [] (1 ∷ []) e q) r.1.1))

  -- scopes

  abbrev pub scope : List Binding
  scope = lexical_scope (lexical_names l)

  abbrev pub scopes : ℕ → List Binding
  scopes = at_or_empty (scope ∷ [])

  abbrev pub uses : Use → ℕ → Use
  uses u = use_of shape.ForInStatement u

  module _ (env : Environment) where
    abbrev pub ScopedBeside : Type 0
    ScopedBeside = Scoped Write (env ++ scope) l × AllScoped scopes (uses Read) 2 ((env ++ scope) ++ []) (w ▸ none)

    module _ (no_scope : scope ≡ []) where
      pub env_is : (env ++ scope) ++ [] ≡ env
      env_is = append-nil (env ++ scope) ∙ ap (λ r. env ++ r) no_scope ∙ append-nil env

      pub scoped_down : (e : Tree) → Scoped Read env (over e) → Scoped Read env e × ScopedBeside
      unfolding Scoped scopes_by
      scoped_down e q = (subst (λ r. Scoped Read r e) env_is q.1.1.0, (q.1.0, q.1.1.1))

      pub scoped_up : (e : Tree) → Scoped Read env e → ScopedBeside → Scoped Read env (over e)
      unfolding Scoped scopes_by
      scoped_up e q r = (tt, (r.0, (subst (λ v. Scoped Read v e) (sym env_is) q, r.1)))

  pub first_symbols : List (Option SymbolId)
  first_symbols = symbols_in scope ++ declared_in Write l

  pub last_symbols : Use → List (Option SymbolId)
  last_symbols u = declared_from scopes (uses u) 2 (w ▸ none)

  pub symbols_are : (u : Use) (x : Option SymbolId) (e : Tree) → times x (declared_in u (over e)) ≡ times x first_symbols + (times x (declared_in Read e) + times x (last_symbols u))
  unfolding declared_in scopes_by first_symbols last_symbols
  symbols_are u x e =
      let more = declared_in Read e ++ declared_from scopes (uses u) 2 (w ▸ none) in
      omega (arith, times_both x (symbols_in scope) (declared_in Write l ++ more), times_both x (declared_in Write l) more, times_both x (symbols_in scope) (declared_in Write l), times_both x (declared_in Read e) (declared_from scopes (uses u) 2 (w ▸ none)))

  -- names

  pub hoisted_is : (e : Tree) → is_value (shape_of e) ≡ true → names_of declared.Hoisted (over e) ≡ names_of declared.Hoisted l ++ all_names declared.Hoisted (w ▸ none)
  unfolding names_of
  hoisted_is e k = ap (λ r. names_of declared.Hoisted l ++ (r ++ all_names declared.Hoisted (w ▸ none))) (no_names declared.Hoisted e (quiet_value e k))

  pub names_same : (d : Declared) (e j : Tree) → names_of declared.Hoisted (over j) ≡ names_of declared.Hoisted (over e) → names_of d (over j) ≡ names_of d (over e)
  unfolding names_of
  names_same declared.Bound e j k = refl
  names_same declared.Lexical e j k = refl
  names_same declared.Hoisted e j k = k

  pub body_is : (e : Tree) → body_names (over e) ≡ names_of declared.Hoisted (over e)
  unfolding body_names names_of
  body_is e = refl

  pub as_body_is : (o : Bool) (e : Tree) → as_body o (over e) ≡ own_declarations false [] (names_of declared.Hoisted (over e))
  unfolding names_of
  as_body_is o e = refl

  -- ---- the expression before, and the loop

  module _ (e d j : Tree) (joins : Joins e d j) where
    abbrev two : Trees
    two = expression_statement e ▸ (over d ▸ none)

    abbrev one_there : Trees
    one_there = over j ▸ none

    one_of : (J : Leap → Type 0) (Q : Asked → Tree → Type 0) → Local J Q → (R : Type 0) → (Q AsWholeItem (over d) → Q AsValue d × R) → (Q AsValue j → R → Q AsWholeItem (over j)) → All Q AsWholeItem two → All Q AsWholeItem one_there
    one_of J Q n R down up x = let (y, r) = down x.1.0 in (up (joins.all J Q n (of_statement J Q n e x.0) y) r, tt)

    two_of : (Q : Asked → Tree → Type 0) → Local Any Q → (R : Type 0) → (Q AsWholeItem (over j) → Q AsValue j × R) → (Q AsValue d → R → Q AsWholeItem (over d)) → All Q AsWholeItem one_there → All Q AsWholeItem two
    two_of Q n R down up x =
        let (y, r) = down x.0 in
        let (v, z) = joins.back Q n y in
        (statement_of Any Q n e v, (up z r, tt))

    numbers_one : (k : ℕ) → sum_all (number_times k) AsWholeItem one_there ≤ sum_all (number_times k) AsWholeItem two
    numbers_one k =
        let is = λ (t : Tree). ap (count_of k) (numbers_are t) in
        let outer = λ (t : Tree). both_counts k (numbers l) (numbers t ++ all_numbers (w ▸ none)) in
        let inner = λ (t : Tree). both_counts k (numbers t) (all_numbers (w ▸ none)) in
        omega (arith, is j, is d, outer j, outer d, inner j, inner d, sum_statement (number_times k) (numbers_summed k) e, joins.sum (number_times k) (numbers_summed k))

    symbols_one : (u : Use) (x : Option SymbolId) → sum_all (symbol_times u x) AsWholeItem one_there ≤ sum_all (symbol_times u x) AsWholeItem two
    symbols_one u x = omega (arith, symbols_are u x j, symbols_are u x d, sum_statement (symbol_times u x) (symbols_summed u x) e, joins.sum (symbol_times u x) (symbols_summed u x))

    module _ (no_scope : scope ≡ []) (of_d : is_value (shape_of d) ≡ true) (of_j : is_value (shape_of j) ≡ true) where
      hoists_same : names_of declared.Hoisted (over j) ≡ names_of declared.Hoisted (over d)
      hoists_same = hoisted_is j of_j ∙ sym (hoisted_is d of_d)

      body_same : body_names (over j) ≡ body_names (over d)
      body_same = body_is j ∙ hoists_same ∙ sym (body_is d)

      as_body_same : (o : Bool) → as_body o (over j) ≡ as_body o (over d)
      as_body_same o = as_body_is o j ∙ ap (own_declarations false []) hoists_same ∙ sym (as_body_is o d)

      names_one : NamesStretched two one_there
      names_one = record {
        names = λ k. ap (λ r. r ++ []) (names_same k d j hoists_same) ∙ sym (ap (λ r. r ++ (names_of k (over d) ++ [])) (statement_names k e));
        body = ap (λ r. r ++ []) body_same ∙ sym (ap (λ r. r ++ (body_names (over d) ++ [])) (statement_body e));
        as_body = λ o. ap (λ r. r ++ []) (as_body_same o) ∙ sym (ap (λ r. r ++ (as_body o (over d) ++ [])) (statement_as_body o e));
        ports = λ m. refl;
        scoped = λ env. one_of Any (ScopedAs Read env) (scoped_local Read env) (ScopedBeside env) (scoped_down env no_scope d) (scoped_up env no_scope j);
        symbols = symbols_one;
        once = one_of Any Once once_local OnceBeside (once_down d) (once_up j);
      }

    module _ (plain : (strict : Bool) (k : Depth) → fill strict (each (one (a_statement k))) two ≡ true → scope ≡ []) (values : (strict : Bool) (k : Depth) → fill strict (each (one (a_statement k))) two ≡ true → (is_value (shape_of d) ≡ true) × (is_value (shape_of j) ≡ true)) where
      stretched_one : Stretched two one_there
      stretched_one = record {
        named = λ strict k f. let (x, y) = values strict k f in names_one (plain strict k f) x y;
        calm = λ strict k f. ((refl, refl), tt);
        inner = λ b. one_of Any (InnerIf b) (inner_local b) (InnerBeside b) (inner_down b d) (inner_up b j);
        inner_back = λ b. two_of (InnerIf b) (inner_local b) (InnerBeside b) (inner_down b j) (inner_up b d);
        fixed = λ x k. one_of Any (FixedBy x k) (fixed_local x k) (FixedBeside x k) (fixed_down x k d) (fixed_up x k j);
        fixed_back = λ x k. two_of (FixedBy x k) (fixed_local x k) (FixedBeside x k) (fixed_down x k j) (fixed_up x k d);
        declares = λ xs. one_of Any (Declares xs) (declares_local xs) (NamesBeside xs) (declares_down xs d) (declares_up xs j);
        frames = λ fs. one_of Any (HasFrames fs) (frames_local fs) (FramesBeside fs) (frames_down fs d) (frames_up fs j);
        bodies = λ bs a. one_of Any (HasBodies bs a) (bodies_local bs a) (BodiesBeside bs a) (bodies_down bs a d) (bodies_up bs a j);
        targets = λ g. one_of (HasTarget g) (Aimed g) (aimed_local g) (JumpsBeside g) (aimed_down g d) (aimed_up g j);
        numbers = numbers_one;
      }

-- ---- the head declares no lexical name

target_lexical : (strict of_keys : Bool) (t : Tree) → declares_nothing t ≡ true → fits strict (one (a_loop_left of_keys)) t ≡ true → lexical_names t ≡ []
unfolding names_of
target_lexical strict true (node shape.ImportDeclaration xs n ts) e f = absurd (refused_here strict (one (a_loop_left true)) shape.ImportDeclaration xs n ts refl f)
target_lexical strict false (node shape.ImportDeclaration xs n ts) e f = absurd (refused_here strict (one (a_loop_left false)) shape.ImportDeclaration xs n ts refl f)
target_lexical strict o (node (shape.VariableDeclaration k) xs n ts) e f = absurd (true≢false (sym e))
target_lexical strict o (node (shape.Function true g ds) xs n ts) e f = absurd (true≢false (sym e))
target_lexical strict o (node (shape.Class true) xs n ts) e f = absurd (true≢false (sym e))
target_lexical strict o (node shape.ExportNamedDeclaration xs n ts) e f = absurd (true≢false (sym e))
target_lexical strict o (node shape.ExportDefaultDeclaration xs n ts) e f = absurd (true≢false (sym e))
target_lexical strict o (node shape.SwitchCase xs n ts) e f = absurd (true≢false (sym e))
target_lexical strict o (node shape.Listed xs n ts) e f = absurd (true≢false (sym e))
target_lexical strict o (node h xs n ts) e f = refl

pub var_lexical : (t : Tree) → is_var_shape (shape_of t) ≡ true → lexical_names t ≡ []
unfolding names_of
var_lexical (node (shape.VariableDeclaration Var) xs n ts) e = refl
var_lexical t e = absurd (true≢false (sym e))

or_split : (a b : Bool) → a || b ≡ true → (a ≡ true) ⊎ (b ≡ true)
or_split true b h = inl refl
or_split false b h = inr h

pub left_lexical : (strict of_keys : Bool) (t : Tree) → is_plain_left t ≡ true → fits strict (one (a_loop_left of_keys)) t ≡ true → lexical_names t ≡ []
left_lexical strict k t h f = ⊎_elim (λ e. target_lexical strict k t e f) (λ e. var_lexical t (and_parts (is_var_shape (shape_of t)) _ e).0) (or_split (declares_nothing t) (is_bare_var t) h)

pub left_scope : (t : Tree) → lexical_names t ≡ [] → lexical_scope (lexical_names t) ≡ []
unfolding with_names
left_scope t e = ap lexical_scope e

in_parts : (strict : Bool) (k : Depth) (l d w : Tree) → fits strict (one (a_statement k)) (for_in l d w) ≡ true → (fits strict (one (a_loop_left true)) l ≡ true) × (fits strict (one an_expression) d ≡ true)
in_parts strict k l d w f =
    let (x, y) = and_parts (fits strict (one (a_loop_left true)) l) (fits strict (one an_expression) d && (fits strict (one (a_statement nested)) w && true)) f in
    (x, left (fits strict (one an_expression) d) (fits strict (one (a_statement nested)) w && true) y)

-- `a; for (x in b) c` and `for (x in a, b) c` in a list
pub keys_kept : (before after : Trees) (n w : Tree) (a b : Trees) → Row67In a b → n ≡ listed (append before (append a after)) → w ≡ listed (append before (append b after)) → KeptAt StatementList n w
keys_kept before after n w a b r f g =
    let e = of_parts r.p r.ps in
    let d = of_parts r.q r.qs in
    let j = of_parts r.p (append r.ps (r.q ▸ r.qs)) in
    subst (λ t. KeptAt StatementList t w) (sym (f ∙ ap (λ ts. listed (append before (append ts after))) r.shape))
    (subst (KeptAt StatementList (listed (append before (append (two r.left r.body e d j (parts_join r.p r.ps r.q r.qs)) after)))) (sym (g ∙ ap (λ ts. listed (append before (append ts after))) r.written))
    (stretch_kept before after (two r.left r.body e d j (parts_join r.p r.ps r.q r.qs)) (one_there r.left r.body e d j (parts_join r.p r.ps r.q r.qs))
    (stretched_one r.left r.body e d j (parts_join r.p r.ps r.q r.qs)
    (λ strict k h. left_scope r.left (left_lexical strict true r.left r.plain (in_parts strict k r.left d r.body (second_of strict k (expression_statement e) (for_in r.left d r.body) none h)).0))
    (λ strict k h. ((sketch_valued (record { trees = d ▸ none; lists = [] }) strict AsValue (one an_expression) (part 0) refl (in_parts strict k r.left d r.body (second_of strict k (expression_statement e) (for_in r.left d r.body) none h)).1).0, both_value r.p r.ps r.q r.qs)))))
