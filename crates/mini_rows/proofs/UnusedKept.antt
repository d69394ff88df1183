-- A block without a name that nothing mentions keeps what else a program has to keep.
use Rattle.std.specs.Prelude.{ℕ, ◌+◌, ◌≤◌, ◌≡◌, refl, Bool, true, false, ◌||◌, List, [], ◌∷◌, ◌++◌, map, Contains, Option, None, if◌then◌else◌}
use Rattle.std.proofs.Common.{ap, ◌∙◌, sym, subst, arith, append_assoc}
use Rattle.std.proofs.lemmas.Bool.{eq-eqb}
use Rattle.std.proofs.lemmas.List.{append-nil, map-append}
use Rattle.mini_model.specs.declared.name.Name.{Name}
use Rattle.mini_model.specs.declared.name.SymbolId.{SymbolId}
use Rattle.mini_model.specs.declared.place.Position.TheVariants.{Stmt}
use Rattle.mini_model.specs.declared.seat.StmtSeat.{StmtSeat}
use Rattle.mini_model.specs.Tree.{Tree, Trees, none, ◌▸◌, listed}
use Rattle.mini_model.specs.Paths.{append}
use Rattle.mini_laws.specs.declared.names.Binding.{Binding}
use Rattle.mini_laws.specs.declared.names.Declared.{Declared}
use Rattle.mini_laws.specs.declared.names.Declared.TheVariants as declared
use Rattle.mini_laws.specs.declared.names.Targets.{Targets}
use Rattle.mini_laws.specs.declared.names.Use.{Use}
use Rattle.mini_laws.specs.declared.names.Use.TheVariants.{Read}
use Rattle.mini_laws.specs.DeclaredNames.{names_of, all_names, body_names, all_body_names, with_names, has_inner}
use Rattle.mini_laws.specs.Edits.{Kept}
use Rattle.mini_laws.specs.Resolved.{Environment}
use Rattle.mini_laws.specs.Scopes.{scopes_by}
use Rattle.mini_laws.specs.Scoped.{Scoped, Unmentioned, AllUnmentioned}
use Rattle.mini_laws.specs.Symbols.{symbols_in, declared as declared_in, times}
use Rattle.mini_laws.specs.Early.{Path, own_declarations, body_declarations, scope_declarations, early_names, targets_of, early_jumps, is_loop, clashing}
use Rattle.mini_laws.proofs.Changes.{times_both}
use Rattle.mini_laws.proofs.Drops.{dropped}
use Rattle.mini_laws.specs.Value.{Variable, variable_eq, variable_of}
use Rattle.mini_laws.specs.State.{Fixed, Writable, Constant, KeepsOld}
use Rattle.mini_laws.specs.Fixity.{stricter, fixed_by}
use Rattle.mini_laws.specs.Bodies.{Around, Body, bodies}
use Rattle.mini_kept.specs.AlikeBodies.{BodiesKept}
use Rattle.mini_kept.specs.Carried.{numbers}
use Rattle.mini_kept.specs.Declaring.{declared as names_declared}
use Rattle.mini_kept.specs.Frames.{Frame, frames, FramesKept}
use Rattle.mini_kept.specs.KeepsNames.{Keeps, count_of}
use Rattle.mini_kept.specs.Loosely.{symbol}
use Rattle.mini_kept.specs.SameNames.{counted, NoMoreClash}
use Rattle.mini_kept.proofs.Anywhere.{once_anywhere, targets_anywhere}
use Rattle.mini_kept.proofs.Below.{both_empty, empty_both}
use Rattle.mini_kept.proofs.BodyLists.{kept_itself}
use Rattle.mini_kept.proofs.Clashes.{counted_unplaced, no_more_same, no_more_both, still_free}
use Rattle.mini_kept.proofs.Unplaced.{as_body, all_as_body, body_is, body_same}
use Rattle.mini_rows.specs.Lists.{block}
use Rattle.mini_rows.specs.Sketches.{AsWholeItem}
use Rattle.mini_rows.proofs.Arranging.{All, Any, sum_all}
use Rattle.mini_rows.proofs.ArrangedNames.{ScopedAs, scoped_local, symbol_times, symbols_summed, number_times, numbers_summed, InnerIf, inner_local, Once, once_local, HasTarget, Aimed, aimed_local}
use Rattle.mini_rows.proofs.ArrangedBodies.{quiet, HasBodies, bodies_local, HasFrames, frames_local, Declares, declares_local, FixedBy, fixed_local, rank, by_rank}
use Rattle.mini_rows.proofs.ArrangedTrees.{both_same, itself}
use Rattle.mini_rows.proofs.ListKeptDeclarations.{all_both}
use Rattle.mini_rows.proofs.ListKeptStretch.{stretched, sum_stretched}
use Rattle.mini_rows.proofs.UnusedNames.{Amid, Other, amid, other_both}

-- ---- what some neighbours have, one of which declares a name, and those that are written for them keep

pub record LeavesThere (x : Name) (d w : Trees) : Type 0 where
  pub inner : (b : Bool) → All (InnerIf b) AsWholeItem d → All (InnerIf b) AsWholeItem w
  pub inner_back : (b : Bool) → All (InnerIf b) AsWholeItem w → All (InnerIf b) AsWholeItem d
  pub scoped : (env : Environment) → All (ScopedAs Read env) AsWholeItem d → All (ScopedAs Read env) AsWholeItem w
  pub unmentioned : AllUnmentioned (record { name = x; hoists = false }) w
  pub symbols : (y : Option SymbolId) → sum_all (symbol_times Read y) AsWholeItem w ≤ sum_all (symbol_times Read y) AsWholeItem d
  pub numbered : (k : ℕ) → sum_all (number_times k) AsWholeItem w ≤ sum_all (number_times k) AsWholeItem d
  pub once : All Once AsWholeItem d → All Once AsWholeItem w
  pub targets : (g : Targets) → All (Aimed g) AsWholeItem d → All (Aimed g) AsWholeItem w
  pub framed : (all : List Frame) → All (HasFrames all) AsWholeItem d → All (HasFrames all) AsWholeItem w
  pub bodied : (all : List Body) (a : Around) → All (HasBodies all a) AsWholeItem d → All (HasBodies all a) AsWholeItem w
  pub fixed : (y : Variable) (j : ℕ) → All (FixedBy y j) AsWholeItem d → All (FixedBy y j) AsWholeItem w
  pub fixed_back : (y : Variable) (j : ℕ) → variable_eq (variable_of x) y ≡ false → All (FixedBy y j) AsWholeItem w → All (FixedBy y j) AsWholeItem d
  pub declares : (all : List Name) → All (Declares all) AsWholeItem d → All (Declares all) AsWholeItem w

-- the names that they declare in a block, where the name is a lexical one
pub record NamesThere (x : Name) (d w : Trees) : Type 0 where
  pub first : List Name
  pub last : List Name
  pub names : all_names declared.Lexical d ≡ first ++ x ∷ last
  pub left : all_names declared.Lexical w ≡ first ++ last
  pub others_first : Other x first
  pub others_last : Other x last
  pub hoists : all_names declared.Hoisted w ≡ all_names declared.Hoisted d
  pub clash : NoMoreClash (all_as_body false w) (all_as_body false d)

-- and in the body of a function or a module
pub record DeclaresThere (x : Name) (d w : Trees) : Type 0 where
  pub first : List Name
  pub last : List Name
  pub names : all_body_names d ≡ first ++ x ∷ last
  pub left : all_body_names w ≡ first ++ last
  pub others_first : Other x first
  pub others_last : Other x last
  pub clash : (in_function : Bool) → NoMoreClash (all_as_body in_function w) (all_as_body in_function d)

-- ---- the list

module _ (x : Name) (before after d w : Trees) (l : LeavesThere x d w) where
  abbrev pub A : Trees
  A = append before (append d after)

  abbrev pub B : Trees
  B = append before (append w after)

  pub list_inner : has_inner (listed B) ≡ has_inner (listed A)
  list_inner =
      both_same (has_inner (listed A)) (has_inner (listed B)) (stretched Any (InnerIf (has_inner (listed A))) (inner_local (has_inner (listed A))) before after d w (l.inner (has_inner (listed A))) (itself (has_inner (listed A))))
      (stretched Any (InnerIf (has_inner (listed B))) (inner_local (has_inner (listed B))) before after w d (l.inner_back (has_inner (listed B))) (itself (has_inner (listed B))))

  pub list_fixed : (y : Variable) → variable_eq (variable_of x) y ≡ false → fixed_by (listed A) y ≡ fixed_by (listed B) y
  list_fixed y o =
      let i = rank (fixed_by (listed A) y) in
      let j = rank (fixed_by (listed B) y) in
      by_rank (fixed_by (listed A) y) (fixed_by (listed B) y) (stretched Any (FixedBy y j) (fixed_local y j) before after w d (l.fixed_back y j o) (omega arith)) (stretched Any (FixedBy y i) (fixed_local y i) before after d w (l.fixed y i) (omega arith))

  pub list_scoped : (env : Environment) → Scoped Read env (listed A) → Scoped Read env (listed B)
  list_scoped env = stretched Any (ScopedAs Read env) (scoped_local Read env) before after d w (l.scoped env)

  pub list_symbols : (y : Option SymbolId) → times y (declared_in Read (listed B)) ≤ times y (declared_in Read (listed A))
  list_symbols y = sum_stretched (symbol_times Read y) (symbols_summed Read y) before after d w (l.symbols y)

  pub list_numbers : (k : ℕ) → count_of k (numbers (listed B)) ≤ count_of k (numbers (listed A))
  list_numbers k = sum_stretched (number_times k) (numbers_summed k) before after d w (l.numbered k)

  pub list_once : (p : Path) → early_names p (listed A) ≡ [] → early_names p (listed B) ≡ []
  list_once p q = once_anywhere [] p (listed B) (stretched Any Once once_local before after d w l.once (once_anywhere p [] (listed A) q))

  pub list_targets : (g : Targets) (p : Path) → early_jumps g p (listed A) ≡ [] → early_jumps g p (listed B) ≡ []
  list_targets g p q = targets_anywhere g [] p (listed B) (stretched (HasTarget g) (Aimed g) (aimed_local g) before after d w (l.targets g) (targets_anywhere g p [] (listed A) q))

  pub list_frames : FramesKept (frames None (listed A)) (frames None (listed B))
  list_frames = stretched Any (HasFrames (frames None (listed A))) (frames_local (frames None (listed A))) before after d w (l.framed (frames None (listed A))) (λ f q. q)

  pub list_bodies : (a : Around) → BodiesKept (bodies (quiet a) (listed A)) (bodies (quiet a) (listed B))
  list_bodies a = stretched Any (HasBodies (bodies (quiet a) (listed A)) a) (bodies_local (bodies (quiet a) (listed A)) a) before after d w (l.bodied (bodies (quiet a) (listed A)) a) (kept_itself (bodies (quiet a) (listed A)))

  pub list_declares : (y : Name) → Contains (names_declared (listed B)) y → Contains (names_declared (listed A)) y
  list_declares = stretched Any (Declares (names_declared (listed A))) (declares_local (names_declared (listed A))) before after d w (l.declares (names_declared (listed A))) (λ y c. c)

  module _ (n : NamesThere x d w) where
    -- ---- names

    names_both : (q : Declared) (ts : Trees) → all_names q (append before (append ts after)) ≡ all_names q before ++ (all_names q ts ++ all_names q after)
    names_both q ts = all_both q before (append ts after) ∙ ap (λ ys. all_names q before ++ ys) (all_both q ts after)

    pub list_hoists : names_of declared.Hoisted (listed B) ≡ names_of declared.Hoisted (listed A)
    unfolding names_of
    list_hoists = names_both declared.Hoisted w ∙ ap (λ ys. all_names declared.Hoisted before ++ (ys ++ all_names declared.Hoisted after)) n.hoists ∙ sym (names_both declared.Hoisted d)

    abbrev pub lexical_first : List Name
    lexical_first = all_names declared.Lexical before ++ n.first

    abbrev pub lexical_last : List Name
    lexical_last = n.last ++ all_names declared.Lexical after

    lexical_both : (ts : Trees) (xs ys : List Name) → all_names declared.Lexical ts ≡ xs ++ ys → names_of declared.Lexical (listed (append before (append ts after))) ≡ (all_names declared.Lexical before ++ xs) ++ (ys ++ all_names declared.Lexical after)
    unfolding names_of
    lexical_both ts xs ys e =
        let f = all_names declared.Lexical before in
        let g = all_names declared.Lexical after in
        names_both declared.Lexical ts ∙ ap (λ zs. f ++ (zs ++ g)) e ∙ ap (λ zs. f ++ zs) (append_assoc xs ys g) ∙ sym (append_assoc f xs (ys ++ g))

    pub lexical_with : names_of declared.Lexical (listed A) ≡ lexical_first ++ x ∷ lexical_last
    lexical_with = lexical_both d n.first (x ∷ n.last) n.names

    pub lexical_without : names_of declared.Lexical (listed B) ≡ lexical_first ++ lexical_last
    lexical_without = lexical_both w n.first n.last n.left

    module _ (o : Other x (all_names declared.Lexical before)) (p : Other x (all_names declared.Lexical after)) where
      abbrev pub bind : Name → Binding
      bind y = record { name = y; hoists = false }

      pub scopes : Amid x (with_names [] (names_of declared.Lexical (listed A))) (with_names [] (names_of declared.Lexical (listed B)))
      scopes =
          subst (λ ys. Amid x (with_names [] ys) (with_names [] (names_of declared.Lexical (listed B)))) (sym lexical_with)
          (subst (λ ys. Amid x (with_names [] (lexical_first ++ x ∷ lexical_last)) (with_names [] ys)) (sym lexical_without) (amid x lexical_first lexical_last (other_both x (all_names declared.Lexical before) n.first o n.others_first) (other_both x n.last (all_names declared.Lexical after) n.others_last p)))

      abbrev pub scope_of : List Name → Environment
      scope_of ys = map bind ys

      pub with_it : scope_of (with_names [] (names_of declared.Lexical (listed A))) ≡ scope_of scopes.first ++ bind x ∷ scope_of scopes.last
      with_it = ap scope_of scopes.there ∙ map-append bind scopes.first (x ∷ scopes.last)

      pub without_it : scope_of (with_names [] (names_of declared.Lexical (listed B))) ≡ scope_of scopes.first ++ scope_of scopes.last
      without_it = ap scope_of scopes.gone ∙ map-append bind scopes.first scopes.last

      pub one_less : (y : Option SymbolId) → times y (symbols_in (scope_of (with_names [] (names_of declared.Lexical (listed A))))) ≡ times y (x.symbol ∷ []) + times y (symbols_in (scope_of (with_names [] (names_of declared.Lexical (listed B)))))
      one_less y =
          let f = scope_of scopes.first in
          let g = scope_of scopes.last in
          let own = λ (b : Binding). b.name.symbol in
          omega (
            arith,
            ap (λ bs. times y (symbols_in bs)) with_it,
            ap (λ bs. times y (symbols_in bs)) without_it,
            ap (times y) (map-append own f (bind x ∷ g)),
            ap (times y) (map-append own f g),
            times_both y (symbols_in f) (x.symbol ∷ symbols_in g),
            times_both y (symbols_in f) (symbols_in g),
            times_both y (x.symbol ∷ []) (symbols_in g),
          )

      block_symbols : (v : Use) (y : Option SymbolId) → times y (declared_in v (block B)) + times y (x.symbol ∷ []) ≤ times y (declared_in v (block A))
      unfolding declared_in scopes_by
      block_symbols v y =
          let sa = symbols_in (scope_of (with_names [] (names_of declared.Lexical (listed A)))) in
          let sb = symbols_in (scope_of (with_names [] (names_of declared.Lexical (listed B)))) in
          omega (
            arith,
            one_less y,
            list_symbols y,
            times_both y sa (declared_in Read (listed A) ++ []),
            times_both y sb (declared_in Read (listed B) ++ []),
            times_both y (declared_in Read (listed A)) [],
            times_both y (declared_in Read (listed B)) [],
          )

      block_scoped : Unmentioned (bind x) (listed B) → (v : Use) (env : Environment) → Scoped v env (block A) → Scoped v env (block B)
      unfolding Scoped scopes_by
      block_scoped m v env s =
          let inner = list_scoped (env ++ scope_of (with_names [] (names_of declared.Lexical (listed A)))) s.1.0 in
          let f = scope_of scopes.first in
          let g = scope_of scopes.last in
          let moved = subst (λ r. Scoped Read r (listed B)) (ap (λ bs. env ++ bs) with_it ∙ sym (append_assoc env f (bind x ∷ g))) inner in
          let left = dropped Read (env ++ f) g (bind x) (listed B) moved m in
          (tt, (subst (λ r. Scoped Read r (listed B)) (append_assoc env f g ∙ ap (λ bs. env ++ bs) (sym without_it)) left, tt))

      -- ---- the block

      names_kept : (q : Declared) → names_of q (block B) ≡ names_of q (block A)
      unfolding names_of
      names_kept declared.Bound = refl
      names_kept declared.Lexical = refl
      names_kept declared.Hoisted = ap (λ ys. ys ++ []) list_hoists

      body_kept : body_names (block B) ≡ body_names (block A)
      unfolding body_names names_of
      body_kept = names_kept declared.Hoisted

      inner_kept : has_inner (block B) ≡ has_inner (block A)
      unfolding has_inner
      inner_kept = ap (λ b. b || false) list_inner

      pub block_kept : Kept (block A) (block B)
      block_kept = record { names = names_kept; body = body_kept; inner = inner_kept; symbols = λ v y. let s = block_symbols v y in omega (arith, s) }

      pub block_less : (k : ℕ) → x.symbol ≡ symbol k → (v : Use) → times (symbol k) (declared_in v (block B)) + 1 ≤ times (symbol k) (declared_in v (block A))
      block_less k e v =
          let s = block_symbols v (symbol k) in
          let h : times (symbol k) (x.symbol ∷ []) ≡ 1 = ap (λ y. times (symbol k) (y ∷ [])) e ∙ own k in
          omega (arith, s, h)
        where
          own : (k : ℕ) → times (symbol k) (symbol k ∷ []) ≡ 1
          own k = ap (λ b. (if b then 1 else 0) + 0) (eq-eqb k k refl)

      -- what it declares clashes no more

      as_bodies : (ts us : Trees) → all_as_body false (append ts us) ≡ all_as_body false ts ++ all_as_body false us
      as_bodies none us = refl
      as_bodies (t ▸ ts) us = ap (λ ds. as_body false t ++ ds) (as_bodies ts us) ∙ sym (append_assoc (as_body false t) (all_as_body false ts) (all_as_body false us))

      pub less_clash : NoMoreClash (as_body false (listed B)) (as_body false (listed A))
      less_clash =
          let f = all_as_body false before in
          let g = all_as_body false after in
          let both = λ (ts : Trees). as_bodies before (append ts after) ∙ ap (λ es. f ++ es) (as_bodies ts after) in
          subst (λ ds. NoMoreClash (as_body false (listed B)) ds) (sym (both d))
          (subst (λ es. NoMoreClash es (f ++ (all_as_body false d ++ g))) (sym (both w))
          (no_more_both f f (all_as_body false d ++ g) (all_as_body false w ++ g) (no_more_same f f refl)
          (no_more_both (all_as_body false d) (all_as_body false w) g g n.clash (no_more_same g g refl))))

      pub fewer : (p : Path) → NoMoreClash (body_declarations false p (listed B)) (body_declarations false p (listed A))
      fewer p s =
          let is = λ (b : Bool) (t : Tree). sym (counted_unplaced b s (body_declarations false p t)) ∙ ap (counted b s) (body_is false p t) in
          let lexical_a = is true (listed A) in
          let lexical_b = is true (listed B) in
          let less = (less_clash s).0 in
          (omega (arith, lexical_a, lexical_b, less), λ z. is false (listed B) ∙ (less_clash s).1 (sym (is false (listed A)) ∙ z))

      as_statements : (b : Bool) → as_body b (block B) ≡ as_body b (block A)
      unfolding names_of
      as_statements b = ap (λ ys. own_declarations false [] ys) (names_kept declared.Hoisted)

      block_numbers : (k : ℕ) → count_of k (numbers (block B)) ≤ count_of k (numbers (block A))
      unfolding numbers
      block_numbers k =
          let s = list_numbers k in
          let b = ap (count_of k) (append-nil (numbers (listed B))) in
          let a = ap (count_of k) (append-nil (numbers (listed A))) in
          omega (arith, s, a, b)

      block_once : (r : Path) → early_names r (block A) ≡ [] → early_names r (block B) ≡ []
      unfolding early_names scope_declarations
      block_once r e =
          let p = r ++ 0 ∷ [] in
          let (c, o) = empty_both (clashing [] (body_declarations false p (listed A))) (early_names p (listed A) ++ []) e in
          both_empty (clashing [] (body_declarations false p (listed B))) (early_names p (listed B) ++ []) (still_free (body_declarations false p (listed A)) (body_declarations false p (listed B)) (fewer p) c)
          (append-nil (early_names p (listed B)) ∙ list_once p (sym (append-nil (early_names p (listed A))) ∙ o))

      block_targets : (g : Targets) (r : Path) → early_jumps g r (block A) ≡ [] → early_jumps g r (block B) ≡ []
      unfolding early_jumps targets_of
      block_targets g r e =
          let p = r ++ 0 ∷ [] in
          append-nil (early_jumps g p (listed B)) ∙ list_targets g p (sym (append-nil (early_jumps g p (listed A))) ∙ e)

      pub block_keeps : Unmentioned (bind x) (listed B) → (q : StmtSeat) → Keeps (Stmt q) (block A) (block B)
      unfolding is_loop
      block_keeps m q = record {
        kept = block_kept;
        scoped = λ v env st a. block_scoped m v env a;
        numbers = block_numbers;
        declared_as_body = λ b r. body_same b r r (block A) (block B) (as_statements b);
        once = block_once;
        targets = block_targets;
        loop = refl;
        root = λ e. absurd (cc e);
        block = λ e. absurd (cc e);
      }

pub alone_stricter : (f : Fixed) → stricter f Writable ≡ f
alone_stricter Writable = refl
alone_stricter KeepsOld = refl
alone_stricter Constant = refl

pub all_append : (b : Binding) (ts us : Trees) → AllUnmentioned b ts → AllUnmentioned b us → AllUnmentioned b (append ts us)
unfolding Unmentioned
all_append b none us p q = q
all_append b (t ▸ ts) us p q = (p.0, all_append b ts us p.1 q)
