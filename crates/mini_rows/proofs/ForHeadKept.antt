-- A `for` whose head loses a declarator keeps what else a program has to keep.
use Rattle.std.specs.Prelude.{ℕ, ◌+◌, ◌≤◌, ◌≡◌, ◌⊎◌, refl, ◌||◌, Bool, true, false, List, [], ◌∷◌, ◌++◌, map, Contains, Option, None}
use Rattle.std.proofs.Common.{ap, ◌∙◌, sym, subst, inl, inr, arith, append_assoc}
use Rattle.std.proofs.lemmas.List.Elements.{Contains-append_left, Contains-append_right, Contains-append_cases}
use Rattle.std.proofs.lemmas.List.{append-nil, map-append}
use Rattle.mini_model.specs.declared.name.Name.{Name}
use Rattle.mini_model.specs.declared.name.SymbolId.{SymbolId}
use Rattle.mini_model.specs.declared.place.Position.TheVariants.{Stmt}
use Rattle.mini_model.specs.declared.seat.StmtSeat.{StmtSeat}
use Rattle.mini_model.specs.declared.shape.Shape.TheVariants as shape
use Rattle.mini_model.specs.Tree.{Tree, Trees, none, ◌▸◌}
use Rattle.mini_laws.specs.declared.names.Binding.{Binding}
use Rattle.mini_laws.specs.declared.names.Declaration.{Declaration}
use Rattle.mini_laws.specs.declared.names.Declared.{Declared}
use Rattle.mini_laws.specs.declared.names.Declared.TheVariants as declared
use Rattle.mini_laws.specs.declared.names.Targets.{Targets}
use Rattle.mini_laws.specs.declared.names.Use.{Use}
use Rattle.mini_laws.specs.declared.names.Use.TheVariants.{Read, Alone}
use Rattle.mini_laws.specs.DeclaredNames.{names_of, body_names, with_names, has_inner}
use Rattle.mini_laws.specs.Edits.{Kept}
use Rattle.mini_laws.specs.Resolved.{Environment}
use Rattle.mini_laws.specs.Scopes.{scopes_by}
use Rattle.mini_laws.specs.Scoped.{Scoped, Unmentioned}
use Rattle.mini_laws.specs.Symbols.{symbols_in, declared as declared_in, times}
use Rattle.mini_laws.specs.Early.{Path, declarations, own_declarations, scope_declarations, early_names, targets_of, early_jumps, is_loop, clashing}
use Rattle.mini_laws.proofs.Changes.{times_both}
use Rattle.mini_laws.proofs.Drops.{dropped}
use Rattle.mini_laws.specs.Value.{Variable, variable_eq, variable_of}
use Rattle.mini_laws.specs.State.{Writable}
use Rattle.mini_laws.specs.Fixity.{stricter, fixed_by}
use Rattle.mini_laws.specs.Bodies.{Around, bodies}
use Rattle.mini_kept.specs.AlikeBodies.{BodiesKept}
use Rattle.mini_kept.specs.Carried.{numbers}
use Rattle.mini_kept.specs.Declaring.{declared as names_declared}
use Rattle.mini_kept.specs.Frames.{frames, FramesKept}
use Rattle.mini_kept.specs.KeepsNames.{Keeps, count_of}
use Rattle.mini_kept.specs.Loosely.{symbol}
use Rattle.mini_kept.specs.SameNames.{counted, NoMoreClash}
use Rattle.mini_kept.proofs.Anywhere.{once_anywhere, targets_anywhere}
use Rattle.mini_kept.proofs.Below.{both_empty, empty_both, both_counts}
use Rattle.mini_kept.proofs.BodyLists as body_list
use Rattle.mini_kept.proofs.Clashes.{counted_unplaced, no_more_same, no_more_both, still_free}
use Rattle.mini_kept.proofs.Fixed.{of_children}
use Rattle.mini_kept.proofs.FrameLists as frame_list
use Rattle.mini_kept.proofs.Unplaced.{as_body, declared_is, own_both, body_same}
use Rattle.mini_rows.specs.Lists.{for_loop}
use Rattle.mini_rows.proofs.ArrangedBodies.{quiet, rank, by_rank}
use Rattle.mini_rows.proofs.ArrangedTrees.{both_same, itself}
use Rattle.mini_rows.proofs.FunctionBodyKept.{own_symbol}
use Rattle.mini_rows.proofs.UnusedKept.{LeavesThere, NamesThere}
use Rattle.mini_rows.proofs.UnusedNames.{Amid, amid}

in_both : (xs ys rest : List Name) → ((y : Name) → Contains ys y → Contains xs y) → (y : Name) → Contains (ys ++ rest) y → Contains (xs ++ rest) y
in_both xs ys rest f y c = by (Contains-append_cases ys rest y c)
  where
    by : Contains ys y ⊎ Contains rest y → Contains (xs ++ rest) y
    by (inl z) = Contains-append_left xs rest y (f y z)
    by (inr z) = Contains-append_right xs rest y z

module _ (x : Name) (d w : Tree) (l : LeavesThere x (d ▸ none) (w ▸ none)) (n : NamesThere x (d ▸ none) (w ▸ none)) (test update body : Tree) where
  abbrev over : Tree → Tree
  over t = for_loop t test update body

  -- ---- its scope

  with_lexical : names_of declared.Lexical d ≡ n.first ++ x ∷ n.last
  unfolding names_of
  with_lexical = sym (append-nil (names_of declared.Lexical d)) ∙ n.names

  left_lexical : names_of declared.Lexical w ≡ n.first ++ n.last
  unfolding names_of
  left_lexical = sym (append-nil (names_of declared.Lexical w)) ∙ n.left

  abbrev pub bind : Name → Binding
  bind y = record { name = y; hoists = false }

  abbrev scope : Tree → Environment
  scope t = map bind (with_names [] (names_of declared.Lexical t))

  there : Amid x (with_names [] (n.first ++ x ∷ n.last)) (with_names [] (n.first ++ n.last))
  there = amid x n.first n.last n.others_first n.others_last

  abbrev first : Environment
  first = map bind there.first

  abbrev last : Environment
  last = map bind there.last

  with_it : scope d ≡ first ++ bind x ∷ last
  with_it = ap (λ ys. map bind (with_names [] ys)) with_lexical ∙ ap (map bind) there.there ∙ map-append bind there.first (x ∷ there.last)

  without_it : scope w ≡ first ++ last
  without_it = ap (λ ys. map bind (with_names [] ys)) left_lexical ∙ ap (map bind) there.gone ∙ map-append bind there.first there.last

  one_less : (y : Option SymbolId) → times y (symbols_in (scope d)) ≡ times y (x.symbol ∷ []) + times y (symbols_in (scope w))
  one_less y =
      let own = λ (b : Binding). b.name.symbol in
      omega (
        arith,
        ap (λ bs. times y (symbols_in bs)) with_it,
        ap (λ bs. times y (symbols_in bs)) without_it,
        ap (times y) (map-append own first (bind x ∷ last)),
        ap (times y) (map-append own first last),
        times_both y (symbols_in first) (x.symbol ∷ symbols_in last),
        times_both y (symbols_in first) (symbols_in last),
        times_both y (x.symbol ∷ []) (symbols_in last),
      )

  abbrev rest_symbols : List (Option SymbolId)
  rest_symbols = declared_in Read test ++ (declared_in Read update ++ (declared_in Alone body ++ []))

  for_symbols : (v : Use) (y : Option SymbolId) → times y (declared_in v (over w)) + times y (x.symbol ∷ []) ≤ times y (declared_in v (over d))
  unfolding declared_in scopes_by
  for_symbols v y =
      omega (
        arith,
        one_less y,
        l.symbols y,
        times_both y (symbols_in (scope d)) (declared_in Read d ++ rest_symbols),
        times_both y (symbols_in (scope w)) (declared_in Read w ++ rest_symbols),
        times_both y (declared_in Read d) rest_symbols,
        times_both y (declared_in Read w) rest_symbols,
      )

  pub for_less : (k : ℕ) → x.symbol ≡ symbol k → (v : Use) → times (symbol k) (declared_in v (over w)) + 1 ≤ times (symbol k) (declared_in v (over d))
  for_less k e v =
      let s = for_symbols v (symbol k) in
      let h : times (symbol k) (x.symbol ∷ []) ≡ 1 = ap (λ y. times (symbol k) (y ∷ [])) e ∙ own_symbol k in
      omega (arith, s, h)

  -- what doesn't mention it stands in the other scope, too
  moved : (u : Use) (env r s : Environment) (t : Tree) → r ≡ env ++ scope d → s ≡ env ++ scope w → Unmentioned (bind x) t → Scoped u r t → Scoped u s t
  moved u env r s t e f m q =
      let before = subst (λ z. Scoped u z t) (e ∙ ap (λ bs. env ++ bs) with_it ∙ sym (append_assoc env first (bind x ∷ last))) q in
      subst (λ z. Scoped u z t) (append_assoc env first last ∙ ap (λ bs. env ++ bs) (sym without_it) ∙ sym f) (dropped u (env ++ first) last (bind x) t before m)

  in_left : Unmentioned (bind x) w
  unfolding Unmentioned
  in_left = l.unmentioned.0

  module _ (in_test : Unmentioned (bind x) test) (in_update : Unmentioned (bind x) update) (in_body : Unmentioned (bind x) body) where
    for_scoped : (v : Use) (env : Environment) → Scoped v env (over d) → Scoped v env (over w)
    unfolding Scoped scopes_by
    for_scoped v env s =
        let a = env ++ scope d in
        let b = env ++ scope w in
        let nil = λ (r : Environment). append-nil r in
        let head = (l.scoped a (s.1.0, tt)).0 in (
          tt,
          (
            moved Read env a b w refl refl in_left head,
            (
              moved Read env (a ++ []) (b ++ []) test (nil a) (nil b) in_test s.1.1.0,
              (
                moved Read env ((a ++ []) ++ []) ((b ++ []) ++ []) update (nil (a ++ []) ∙ nil a) (nil (b ++ []) ∙ nil b) in_update s.1.1.1.0,
                (moved Alone env (((a ++ []) ++ []) ++ []) (((b ++ []) ++ []) ++ []) body (nil ((a ++ []) ++ []) ∙ nil (a ++ []) ∙ nil a) (nil ((b ++ []) ++ []) ∙ nil (b ++ []) ∙ nil b) in_body s.1.1.1.1.0, tt),
              ),
            ),
          ),
        )

    -- ---- what else is kept

    same_hoists : names_of declared.Hoisted w ≡ names_of declared.Hoisted d
    unfolding names_of
    same_hoists = sym (append-nil (names_of declared.Hoisted w)) ∙ n.hoists ∙ append-nil (names_of declared.Hoisted d)

    for_names : (q : Declared) → names_of q (over w) ≡ names_of q (over d)
    unfolding names_of
    for_names declared.Bound = refl
    for_names declared.Lexical = refl
    for_names declared.Hoisted = ap (λ ys. ys ++ (names_of declared.Hoisted test ++ (names_of declared.Hoisted update ++ (names_of declared.Hoisted body ++ [])))) same_hoists

    for_body : body_names (over w) ≡ body_names (over d)
    unfolding body_names names_of
    for_body = for_names declared.Hoisted

    same_inner : has_inner w ≡ has_inner d
    same_inner = both_same (has_inner d) (has_inner w) (l.inner (has_inner d) (itself (has_inner d), tt)).0 (l.inner_back (has_inner w) (itself (has_inner w), tt)).0

    for_inner : has_inner (over w) ≡ has_inner (over d)
    unfolding has_inner
    for_inner = ap (λ b. b || (has_inner test || (has_inner update || (has_inner body || false)))) same_inner

    pub for_kept : Kept (over d) (over w)
    for_kept = record { names = for_names; body = for_body; inner = for_inner; symbols = λ v y. let s = for_symbols v y in omega (arith, s) }

    as_statements : (b : Bool) → as_body b (over w) ≡ as_body b (over d)
    unfolding names_of
    as_statements b = ap (λ ys. own_declarations false [] ys) (for_names declared.Hoisted)

    for_numbers : (k : ℕ) → count_of k (numbers (over w)) ≤ count_of k (numbers (over d))
    unfolding numbers
    for_numbers k =
        let rest = numbers test ++ (numbers update ++ (numbers body ++ [])) in
        omega (arith, l.numbered k, both_counts k (numbers d) rest, both_counts k (numbers w) rest)

    -- what its head declares clashes no more

    abbrev own : List Name → List Declaration
    own = own_declarations true []

    names_clash : NoMoreClash (own (names_of declared.Lexical w)) (own (names_of declared.Lexical d))
    names_clash =
        let f = n.first in
        let g = n.last in
        subst (NoMoreClash (own (names_of declared.Lexical w))) (sym (ap own with_lexical ∙ own_both true f (x ∷ g)))
        (subst (λ es. NoMoreClash es (own f ++ own (x ∷ g))) (sym (ap own left_lexical ∙ own_both true f g))
        (no_more_both (own f) (own f) (own (x ∷ []) ++ own g) (own g) (no_more_same (own f) (own f) refl)
        (no_more_both (own (x ∷ [])) [] (own g) (own g) (λ s. (omega arith, λ z. refl)) (no_more_same (own g) (own g) refl))))

    fewer : (p : Path) → NoMoreClash (declarations declared.Lexical true p w) (declarations declared.Lexical true p d)
    fewer p s =
        let is = λ (b : Bool) (t : Tree). sym (counted_unplaced b s (declarations declared.Lexical true p t)) ∙ ap (counted b s) (declared_is declared.Lexical true p t) in
        let lexical_d = is true d in
        let lexical_w = is true w in
        let less = (names_clash s).0 in
        (omega (arith, lexical_d, lexical_w, less), λ z. is false w ∙ (names_clash s).1 (sym (is false d) ∙ z))

    for_once : (r : Path) → early_names r (over d) ≡ [] → early_names r (over w) ≡ []
    unfolding early_names scope_declarations
    for_once r e =
        let p0 = r ++ 0 ∷ [] in
        let below = declarations declared.Hoisted false (r ++ 3 ∷ []) body in
        let rest = early_names (r ++ 1 ∷ []) test ++ (early_names (r ++ 2 ∷ []) update ++ (early_names (r ++ 3 ∷ []) body ++ [])) in
        let before = declarations declared.Lexical true p0 d ++ below in
        let after = declarations declared.Lexical true p0 w ++ below in
        let (c, f) = empty_both (clashing [] before) (early_names p0 d ++ rest) e in
        let (g, h) = empty_both (early_names p0 d) rest f in
        both_empty (clashing [] after) (early_names p0 w ++ rest) (still_free before after (no_more_both (declarations declared.Lexical true p0 d) (declarations declared.Lexical true p0 w) below below (fewer p0) (no_more_same below below refl)) c)
        (both_empty (early_names p0 w) rest (once_anywhere [] p0 w (l.once (once_anywhere p0 [] d g, tt)).0) h)

    for_targets : (g : Targets) (r : Path) → early_jumps g r (over d) ≡ [] → early_jumps g r (over w) ≡ []
    unfolding early_jumps targets_of
    for_targets g r e =
        let p0 = r ++ 0 ∷ [] in
        let inside : Targets = record g { breaks = true; continues = true } in
        let rest = early_jumps g (r ++ 1 ∷ []) test ++ (early_jumps g (r ++ 2 ∷ []) update ++ (early_jumps inside (r ++ 3 ∷ []) body ++ [])) in
        let (f, h) = empty_both (early_jumps g p0 d) rest e in
        both_empty (early_jumps g p0 w) rest (targets_anywhere g [] p0 w (l.targets g (targets_anywhere g p0 [] d f, tt)).0) h

    pub for_keeps : (q : StmtSeat) → Keeps (Stmt q) (over d) (over w)
    unfolding is_loop
    for_keeps q = record {
      kept = for_kept;
      scoped = λ v env st a. for_scoped v env a;
      numbers = for_numbers;
      declared_as_body = λ b r. body_same b r r (over d) (over w) (as_statements b);
      once = for_once;
      targets = for_targets;
      loop = refl;
      root = λ e. absurd (cc e);
      block = λ e. absurd (cc e);
    }

  head_fixed : (y : Variable) → variable_eq (variable_of x) y ≡ false → fixed_by d y ≡ fixed_by w y
  head_fixed y o =
      let i = rank (fixed_by d y) in
      let j = rank (fixed_by w y) in
      by_rank (fixed_by d y) (fixed_by w y) (l.fixed_back y j o (omega arith, tt)).0 (l.fixed y i (omega arith, tt)).0

  pub for_fixed : (y : Variable) → variable_eq (variable_of x) y ≡ false → fixed_by (over d) y ≡ fixed_by (over w) y
  for_fixed y o =
      let rest : Trees = test ▸ (update ▸ (body ▸ none)) in
      of_children shape.ForStatement [] 0 (d ▸ rest) y refl ∙ ap (λ f. stricter f (stricter (fixed_by test y) (stricter (fixed_by update y) (stricter (fixed_by body y) Writable)))) (head_fixed y o) ∙ sym (of_children shape.ForStatement [] 0 (w ▸ rest) y refl)

  pub for_frames : FramesKept (frames None (over d)) (frames None (over w))
  for_frames =
      let rest = frames None test ++ (frames None update ++ (frames None body ++ [])) in
      frame_list.each_of (frames None d) rest (frames None w) rest ((l.framed (frames None d) ((λ f q. q), tt)).0) (λ f c. c)

  pub for_bodies : (a : Around) → BodiesKept (bodies a (over d)) (bodies a (over w))
  for_bodies a =
      let rest = bodies (quiet a) test ++ (bodies (quiet a) update ++ (bodies (quiet a) body ++ [])) in
      body_list.each_of (bodies (quiet a) d) rest (bodies (quiet a) w) rest ((l.bodied (bodies (quiet a) d) a (body_list.kept_itself (bodies (quiet a) d), tt)).0) (body_list.kept_itself rest)

  pub for_declares : (y : Name) → Contains (names_declared (over w)) y → Contains (names_declared (over d)) y
  for_declares = in_both (names_declared d) (names_declared w) (names_declared test ++ (names_declared update ++ (names_declared body ++ []))) ((l.declares (names_declared d) ((λ y c. c), tt)).0)
