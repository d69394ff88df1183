-- A function that loses a name of its statements keeps what else a program has to keep: an arrow function, and any other, whose own name
-- stands before its parameters.
use Rattle.std.specs.Prelude.{ℕ, zero, suc, ◌+◌, ◌≤◌, ◌≡◌, ◌⊎◌, refl, ◌||◌, ◌&&◌, not, Bool, true, false, List, [], ◌∷◌, ◌++◌, map, length, drop, Contains, Option, None, if◌then◌else◌}
use Rattle.std.proofs.Common.{ap, ◌∙◌, sym, subst, inl, inr, arith, append_assoc}
use Rattle.std.proofs.lemmas.Bool.{eq-eqb}
use Rattle.std.proofs.lemmas.List.{append-nil, map-append}
use Rattle.std.proofs.lemmas.List.Elements.{Contains-append_left, Contains-append_right, Contains-append_cases}
use Rattle.mini_model.specs.declared.name.Name.{Name}
use Rattle.mini_model.specs.declared.name.SymbolId.{SymbolId}
use Rattle.mini_model.specs.declared.place.Position.{Position}
use Rattle.mini_model.specs.declared.place.Position.TheVariants.{Expr}
use Rattle.mini_model.specs.declared.seat.Seat.{Seat}
use Rattle.mini_model.specs.declared.shape.Shape.TheVariants as shape
use Rattle.mini_model.specs.Tree.{Tree, Trees, node, none, ◌▸◌, listed}
use Rattle.mini_model.specs.Paths.{append}
use Rattle.mini_laws.specs.declared.names.Binding.{Binding}
use Rattle.mini_laws.specs.declared.names.Declaration.{Declaration}
use Rattle.mini_laws.specs.declared.names.Declared.{Declared}
use Rattle.mini_laws.specs.declared.names.Declared.TheVariants as declared
use Rattle.mini_laws.specs.declared.names.Targets.{Targets}
use Rattle.mini_laws.specs.declared.names.Use.{Use}
use Rattle.mini_laws.specs.declared.names.Use.TheVariants.{Read}
use Rattle.mini_laws.specs.DeclaredNames.{names_of, body_names, all_body_names, bound_names, with_names, has_inner}
use Rattle.mini_laws.specs.Edits.{Kept}
use Rattle.mini_laws.specs.Scopes.{scopes_by, lexical_scope, body_scope, merged, is_alone, name_if}
use Rattle.mini_laws.specs.Resolved.{Environment}
use Rattle.mini_laws.specs.Scoped.{NoneCarries, Scoped, Unmentioned, AllUnmentioned}
use Rattle.mini_laws.specs.Symbols.{symbols_in, declared as declared_in, times}
use Rattle.mini_laws.specs.Early.{Path, own_declarations, body_declarations, scope_declarations, clashing, at_child, early_names, targets_of, early_jumps, no_targets, is_loop}
use Rattle.mini_laws.proofs.Changes.{times_both}
use Rattle.mini_laws.proofs.Drops.{dropped}
use Rattle.mini_laws.specs.Naming.{summary}
use Rattle.mini_laws.specs.Value.{Variable, variable_eq, variable_of, choose, is_in}
use Rattle.mini_laws.specs.State.{Writable}
use Rattle.mini_laws.specs.Fixity.{fixity_by, stricter, fixed_by}
use Rattle.mini_laws.specs.Bodies.{Around, bodies}
use Rattle.mini_kept.specs.AlikeBodies.{BodiesKept}
use Rattle.mini_kept.specs.Carried.{numbers, with_number}
use Rattle.mini_kept.specs.Declaring.{declared as names_declared}
use Rattle.mini_kept.specs.Frames.{Frame, frames, FramesKept}
use Rattle.mini_kept.specs.KeepsNames.{Keeps, count_of, unplaced}
use Rattle.mini_kept.specs.Loosely.{symbol}
use Rattle.mini_kept.specs.SameNames.{counted, NoMoreClash}
use Rattle.mini_kept.proofs.Below.{both_empty, empty_both, both_counts}
use Rattle.mini_kept.proofs.BodyLists as body_list
use Rattle.mini_kept.proofs.Clashes.{counted_unplaced, no_more_same, no_more_both, still_free}
use Rattle.mini_kept.proofs.Fixed.{of_one, of_children}
use Rattle.mini_kept.proofs.FrameLists as frame_list
use Rattle.mini_kept.proofs.Instances.{quiet_kept, both_as_body}
use Rattle.mini_kept.proofs.Quiet.{no_loop}
use Rattle.mini_kept.proofs.Unplaced.{as_body, all_as_body, body_is, body_same}
use Rattle.mini_rows.specs.Unused.{names, any_names, statements}
use Rattle.mini_rows.proofs.ArrangedBodies.{quiet}
use Rattle.mini_rows.proofs.UnusedKept.{LeavesThere, DeclaresThere, list_inner, list_scoped, list_symbols, list_numbers, list_once, list_targets, list_fixed, list_frames, list_bodies, list_declares}
use Rattle.mini_rows.proofs.UnusedNames.{Other, other_both, Amid, amid_behind, all_body_other, declared_other}

-- ---- whichever way a scope declares it

none_carries : (b c : Binding) → b.name.symbol ≡ c.name.symbol → (xs : List Name) → NoneCarries b xs → NoneCarries c xs
none_carries b c e [] f = tt
none_carries b c e (y ∷ ys) f = (λ g. f.0 (e ∙ g), none_carries b c e ys f.1)

mutual
  unfolding Unmentioned

  unmentioned_too : (b c : Binding) → b.name.symbol ≡ c.name.symbol → (t : Tree) → Unmentioned b t → Unmentioned c t
  unmentioned_too b c e (node h xs n ts) m = (none_carries b c e xs m.0, all_unmentioned_too b c e ts m.1)

  all_unmentioned_too : (b c : Binding) → b.name.symbol ≡ c.name.symbol → (ts : Trees) → AllUnmentioned b ts → AllUnmentioned c ts
  all_unmentioned_too b c e none m = tt
  all_unmentioned_too b c e (t ▸ ts) m = (unmentioned_too b c e t m.0, all_unmentioned_too b c e ts m.1)

-- ---- lists

body_append : (ts us : Trees) → all_body_names (append ts us) ≡ all_body_names ts ++ all_body_names us
unfolding body_names
body_append none us = refl
body_append (t ▸ ts) us = ap (λ ys. body_names t ++ ys) (body_append ts us) ∙ sym (append_assoc (body_names t) (all_body_names ts) (all_body_names us))

pub declared_append : (b : Bool) (ts us : Trees) → all_as_body b (append ts us) ≡ all_as_body b ts ++ all_as_body b us
declared_append b none us = refl
declared_append b (t ▸ ts) us = ap (λ ds. as_body b t ++ ds) (declared_append b ts us) ∙ sym (append_assoc (as_body b t) (all_as_body b ts) (all_as_body b us))

-- what clashes no more, wherever it stands
pub clash_there : (o : Bool) (p : Path) (t u : Tree) → NoMoreClash (as_body o u) (as_body o t) → NoMoreClash (body_declarations o p u) (body_declarations o p t)
clash_there o p t u less s =
    let is = λ (b : Bool) (v : Tree). sym (counted_unplaced b s (body_declarations o p v)) ∙ ap (counted b s) (body_is o p v) in
    let lexical_t = is true t in
    let lexical_u = is true u in
    let fewer = less s in
    (omega (arith, lexical_t, lexical_u, fewer.0), λ z. is false u ∙ fewer.1 (sym (is false t) ∙ z))

two_nils : {X : Type 0} (xs : List X) → (xs ++ []) ++ [] ≡ xs
two_nils xs = append-nil (xs ++ []) ∙ append-nil xs

-- what stands behind others
pub contained : {X : Type 0} (us bs cs : List X) → ((y : X) → Contains bs y → Contains cs y) → (y : X) → Contains (us ++ bs) y → Contains (us ++ cs) y
contained us bs cs f y c = by (Contains-append_cases us bs y c)
  where
    by : Contains us y ⊎ Contains bs y → Contains (us ++ cs) y
    by (inl z) = Contains-append_left us cs y z
    by (inr z) = Contains-append_right us cs y (f y z)

pub with_fewer : (n k : ℕ) (xs ys : List ℕ) → count_of k ys ≤ count_of k xs → count_of k (with_number n ys) ≤ count_of k (with_number n xs)
with_fewer zero k xs ys e = e
with_fewer (suc n) k xs ys e = omega (arith, e)

two_lists : (fs gs : List Frame) → FramesKept fs gs → FramesKept ((fs ++ []) ++ []) ((gs ++ []) ++ [])
two_lists fs gs k = subst (λ hs. FramesKept hs ((gs ++ []) ++ [])) (sym (two_nils fs)) (subst (FramesKept fs) (sym (two_nils gs)) k)

-- the symbol of the name itself
pub own_symbol : (k : ℕ) → times (symbol k) (symbol k ∷ []) ≡ 1
own_symbol k = ap (λ b. (if b then 1 else 0) + 0) (eq-eqb k k refl)

-- what a function declares around it doesn't depend on its body
names_alike : (q : Declared) (d g : Bool) (ds : List (List ℕ)) (n : ℕ) (name params a b : Tree) → names_of q (node (shape.Function d g ds) [] n (name ▸ (params ▸ (a ▸ none)))) ≡ names_of q (node (shape.Function d g ds) [] n (name ▸ (params ▸ (b ▸ none))))
unfolding names_of
names_alike declared.Bound d g ds n name params a b = refl
names_alike declared.Lexical true g ds n name params a b = refl
names_alike declared.Lexical false g ds n name params a b = refl
names_alike declared.Hoisted d g ds n name params a b = refl

-- ---- its statements

module _ (params : Tree) (x : Name) (before after d w : Trees) (l : LeavesThere x d w) (m : DeclaresThere x d w) (outside : names x params ≡ false) (earlier : any_names x before ≡ false) (later : any_names x after ≡ false) where
  abbrev A : Trees
  A = append before (append d after)

  abbrev B : Trees
  B = append before (append w after)

  -- ---- their scope

  abbrev pub bind : Name → Binding
  bind y = record { name = y; hoists = true }

  abbrev scope_of : List Name → Environment
  scope_of ys = map bind ys

  abbrev own_scope : Environment
  own_scope = body_scope [] (bound_names params)

  abbrev pub scope : Trees → Environment
  scope ts = body_scope (merged params) (body_names (statements ts))

  statement_names : (ts : Trees) (ys zs : List Name) → all_body_names ts ≡ ys ++ zs → body_names (statements (append before (append ts after))) ≡ (all_body_names before ++ ys) ++ (zs ++ all_body_names after)
  unfolding body_names
  statement_names ts ys zs e =
      let f = all_body_names before in
      let g = all_body_names after in
      append-nil (all_body_names (append before (append ts after))) ∙ body_append before (append ts after) ∙ ap (λ vs. f ++ vs) (body_append ts after) ∙ ap (λ vs. f ++ (vs ++ g)) e ∙ ap (λ vs. f ++ vs) (append_assoc ys zs g) ∙ sym (append_assoc f ys (zs ++ g))

  abbrev first_names : List Name
  first_names = all_body_names before ++ m.first

  abbrev last_names : List Name
  last_names = m.last ++ all_body_names after

  names_with : body_names (statements A) ≡ first_names ++ x ∷ last_names
  names_with = statement_names d m.first (x ∷ m.last) m.names

  names_without : body_names (statements B) ≡ first_names ++ last_names
  names_without = statement_names w m.first m.last m.left

  other_params : Other x (merged params)
  other_params = by (has_inner params)
    where
      by : (b : Bool) → Other x (if b then [] else bound_names params)
      by true = tt
      by false = declared_other x declared.Bound params outside

  amid_there : Amid x (drop (length (merged params)) (with_names (merged params) (first_names ++ x ∷ last_names))) (drop (length (merged params)) (with_names (merged params) (first_names ++ last_names)))
  amid_there = amid_behind x (merged params) first_names last_names other_params (other_both x (all_body_names before) m.first (all_body_other x before earlier) m.others_first) (other_both x m.last (all_body_names after) m.others_last (all_body_other x after later))

  with_it : scope A ≡ scope_of amid_there.first ++ bind x ∷ scope_of amid_there.last
  with_it = ap (body_scope (merged params)) names_with ∙ ap scope_of amid_there.there ∙ map-append bind amid_there.first (x ∷ amid_there.last)

  without_it : scope B ≡ scope_of amid_there.first ++ scope_of amid_there.last
  without_it = ap (body_scope (merged params)) names_without ∙ ap scope_of amid_there.gone ∙ map-append bind amid_there.first amid_there.last

  pub one_less : (y : Option SymbolId) → times y (symbols_in (scope A)) ≡ times y (x.symbol ∷ []) + times y (symbols_in (scope B))
  one_less y =
      let f = scope_of amid_there.first in
      let g = scope_of amid_there.last in
      let own = λ (b : Binding). b.name.symbol in
      omega (
        arith,
        ap (λ bs. times y (symbols_in bs)) with_it,
        ap (λ bs. times y (symbols_in bs)) without_it,
        ap (times y) (map-append own f (bind x ∷ g)),
        ap (times y) (map-append own f g),
        times_both y (symbols_in f) (x.symbol ∷ symbols_in g),
        times_both y (symbols_in f) (symbols_in g),
        times_both y (x.symbol ∷ []) (symbols_in g),
      )

  pub statements_scoped : Unmentioned (bind x) (listed B) → (outer : Environment) → Scoped Read ((outer ++ scope A) ++ []) (listed A) → Scoped Read ((outer ++ scope B) ++ []) (listed B)
  statements_scoped u outer s =
      let f = scope_of amid_there.first in
      let g = scope_of amid_there.last in
      let inner = list_scoped x before after d w l ((outer ++ scope A) ++ []) s in
      let moved = subst (λ r. Scoped Read r (listed B)) (append-nil (outer ++ scope A) ∙ ap (λ bs. outer ++ bs) with_it ∙ sym (append_assoc outer f (bind x ∷ g))) inner in
      let left = dropped Read (outer ++ f) g (bind x) (listed B) moved u in
      subst (λ r. Scoped Read r (listed B)) (append_assoc outer f g ∙ ap (λ bs. outer ++ bs) (sym without_it) ∙ sym (append-nil (outer ++ scope B))) left

  pub hoists_too : AllUnmentioned (record { name = x; hoists = false }) B → Unmentioned (bind x) (listed B)
  unfolding Unmentioned
  hoists_too u = (tt, all_unmentioned_too (record { name = x; hoists = false }) (bind x) refl B u)

  -- ---- what else is kept of names

  statements_numbers : (k : ℕ) → count_of k (numbers params ++ ((numbers (listed B) ++ []) ++ [])) ≤ count_of k (numbers params ++ ((numbers (listed A) ++ []) ++ []))
  statements_numbers k =
      let s = list_numbers x before after d w l k in
      let a = ap (count_of k) (two_nils (numbers (listed A))) in
      let b = ap (count_of k) (two_nils (numbers (listed B))) in
      omega (arith, s, a, b, both_counts k (numbers params) ((numbers (listed A) ++ []) ++ []), both_counts k (numbers params) ((numbers (listed B) ++ []) ++ []))

  declares_less : NoMoreClash (as_body true (statements B)) (as_body true (statements A))
  declares_less =
      let f = all_as_body true before in
      let g = all_as_body true after in
      let both = λ (ts : Trees). append-nil (all_as_body true (append before (append ts after))) ∙ declared_append true before (append ts after) ∙ ap (λ ds. f ++ ds) (declared_append true ts after) in
      subst (λ ds. NoMoreClash (as_body true (statements B)) ds) (sym (both d))
      (subst (λ ds. NoMoreClash ds (f ++ (all_as_body true d ++ g))) (sym (both w))
      (no_more_both f f (all_as_body true d ++ g) (all_as_body true w ++ g) (no_more_same f f refl)
      (no_more_both (all_as_body true d) (all_as_body true w) g g (m.clash true) (no_more_same g g refl))))

  -- they clash no more with what is declared before them
  clash_less : (own : List Declaration) (p : Path) → clashing [] (own ++ body_declarations true p (statements A)) ≡ [] → clashing [] (own ++ body_declarations true p (statements B)) ≡ []
  clash_less own p =
      still_free (own ++ body_declarations true p (statements A)) (own ++ body_declarations true p (statements B))
      (no_more_both own own (body_declarations true p (statements A)) (body_declarations true p (statements B)) (no_more_same own own refl) (clash_there true p (statements A) (statements B) declares_less))

  statements_once : (p : Path) → early_names p (statements A) ++ [] ≡ [] → early_names p (statements B) ++ [] ≡ []
  unfolding early_names scope_declarations
  statements_once p e =
      let inside : early_names (p ++ 0 ∷ []) (listed A) ≡ [] = sym (two_nils (early_names (p ++ 0 ∷ []) (listed A))) ∙ e in
      two_nils (early_names (p ++ 0 ∷ []) (listed B)) ∙ list_once x before after d w l (p ++ 0 ∷ []) inside

  statements_targets : (f : Targets) (p : Path) → early_jumps f p (statements A) ++ [] ≡ [] → early_jumps f p (statements B) ++ [] ≡ []
  unfolding early_jumps targets_of
  statements_targets f p e =
      let inside : early_jumps f (p ++ 0 ∷ []) (listed A) ≡ [] = sym (two_nils (early_jumps f (p ++ 0 ∷ []) (listed A))) ∙ e in
      two_nils (early_jumps f (p ++ 0 ∷ []) (listed B)) ∙ list_targets x before after d w l f (p ++ 0 ∷ []) inside

  -- ---- writes, bodies and frames

  statements_fixed : (y : Variable) → variable_eq (variable_of x) y ≡ false → fixed_by (statements A) y ≡ fixed_by (statements B) y
  statements_fixed y o = of_one shape.FunctionBody [] 0 (listed A) y refl ∙ list_fixed x before after d w l y o ∙ sym (of_one shape.FunctionBody [] 0 (listed B) y refl)

  pub statements_frames : FramesKept (frames None (statements A)) (frames None (statements B))
  statements_frames = frame_list.each_of (frames None (listed A)) [] (frames None (listed B)) [] (list_frames x before after d w l) (λ f c. c)

  -- those behind the function's own, and behind its name's
  pub frames_behind : FramesKept (frames None params ++ ((frames None (listed A) ++ []) ++ [])) (frames None params ++ ((frames None (listed B) ++ []) ++ []))
  frames_behind =
      frame_list.each_of (frames None params) ((frames None (listed A) ++ []) ++ []) (frames None params) ((frames None (listed B) ++ []) ++ []) (λ f c. c)
      (two_lists (frames None (listed A)) (frames None (listed B)) (list_frames x before after d w l))

  pub bodies_behind : (a b : Around) → BodiesKept (bodies a params ++ ((bodies (quiet b) (listed A) ++ []) ++ [])) (bodies a params ++ ((bodies (quiet b) (listed B) ++ []) ++ []))
  bodies_behind a b =
      let fs = bodies (quiet b) (listed A) in
      let gs = bodies (quiet b) (listed B) in
      body_list.each_of (bodies a params) ((fs ++ []) ++ []) (bodies a params) ((gs ++ []) ++ []) (body_list.kept_itself (bodies a params))
      (subst (λ hs. BodiesKept hs ((gs ++ []) ++ [])) (sym (two_nils fs)) (subst (BodiesKept fs) (sym (two_nils gs)) (list_bodies x before after d w l b)))

  declares_behind : (y : Name) → Contains (names_declared params ++ ((names_declared (listed B) ++ []) ++ [])) y → Contains (names_declared params ++ ((names_declared (listed A) ++ []) ++ [])) y
  declares_behind =
      let ns = names_declared (listed A) in
      let ms = names_declared (listed B) in
      contained (names_declared params) ((ms ++ []) ++ []) ((ns ++ []) ++ []) (λ y c. subst (λ ys. Contains ys y) (sym (two_nils ns)) (list_declares x before after d w l y (subst (λ ys. Contains ys y) (two_nils ms) c)))

  -- ---- an arrow function

  module _ (directives : List (List ℕ)) (number : ℕ) where
    abbrev arrow : Trees → Tree
    arrow ts = node (shape.ArrowFunctionExpression directives) [] number (params ▸ (statements ts ▸ none))

    arrow_is : (v : Use) (ts : Trees) → declared_in v (arrow ts) ≡ symbols_in own_scope ++ (declared_in Read params ++ (symbols_in (scope ts) ++ declared_in Read (listed ts)))
    unfolding declared_in scopes_by
    arrow_is v ts = λ i. symbols_in own_scope ++ (declared_in Read params ++ (symbols_in (scope ts) ++ two_nils (declared_in Read (listed ts)) i))

    arrow_sum : (v : Use) (ts : Trees) (y : Option SymbolId) → times y (declared_in v (arrow ts)) ≡ times y (symbols_in own_scope) + (times y (declared_in Read params) + (times y (symbols_in (scope ts)) + times y (declared_in Read (listed ts))))
    arrow_sum v ts y =
        let s = symbols_in own_scope in
        let p = declared_in Read params in
        let r = symbols_in (scope ts) in
        let q = declared_in Read (listed ts) in
        omega (arith, ap (times y) (arrow_is v ts), times_both y s (p ++ (r ++ q)), times_both y p (r ++ q), times_both y r q)

    arrow_symbols : (v : Use) (y : Option SymbolId) → times y (declared_in v (arrow B)) + times y (x.symbol ∷ []) ≤ times y (declared_in v (arrow A))
    arrow_symbols v y = omega (arith, arrow_sum v A y, arrow_sum v B y, one_less y, list_symbols x before after d w l y)

    pub arrow_less : (k : ℕ) → x.symbol ≡ symbol k → (v : Use) → times (symbol k) (declared_in v (arrow B)) + 1 ≤ times (symbol k) (declared_in v (arrow A))
    arrow_less k e v =
        let s = arrow_symbols v (symbol k) in
        let h : times (symbol k) (x.symbol ∷ []) ≡ 1 = ap (λ y. times (symbol k) (y ∷ [])) e ∙ own_symbol k in
        omega (arith, s, h)

    arrow_scoped : Unmentioned (bind x) (listed B) → (v : Use) (env : Environment) → Scoped v env (arrow A) → Scoped v env (arrow B)
    unfolding Scoped scopes_by
    arrow_scoped u v env s = (tt, (s.1.0, ((tt, (statements_scoped u (env ++ own_scope) s.1.1.0.1.0, tt)), tt)))

    arrow_inner : has_inner (arrow B) ≡ has_inner (arrow A)
    unfolding has_inner
    arrow_inner = ap (λ b. has_inner params || ((b || false) || false)) (list_inner x before after d w l)

    arrow_numbers : (k : ℕ) → count_of k (numbers (arrow B)) ≤ count_of k (numbers (arrow A))
    unfolding numbers
    arrow_numbers k = with_fewer number k (numbers params ++ ((numbers (listed A) ++ []) ++ [])) (numbers params ++ ((numbers (listed B) ++ []) ++ [])) (statements_numbers k)

    arrow_once : (r : Path) → early_names r (arrow A) ≡ [] → early_names r (arrow B) ≡ []
    unfolding early_names scope_declarations
    arrow_once r e =
        let p = r ++ 1 ∷ [] in
        let own = at_child declared.Bound false r (params ▸ (statements A ▸ none)) 0 in
        let parameters = early_names (r ++ 0 ∷ []) params in
        let (clash, rest) = empty_both (clashing [] (own ++ body_declarations true p (statements A))) (parameters ++ (early_names p (statements A) ++ [])) e in
        let (first, last) = empty_both parameters (early_names p (statements A) ++ []) rest in
        both_empty (clashing [] (own ++ body_declarations true p (statements B))) (parameters ++ (early_names p (statements B) ++ [])) (clash_less own p clash) (both_empty parameters (early_names p (statements B) ++ []) first (statements_once p last))

    arrow_targets : (g : Targets) (r : Path) → early_jumps g r (arrow A) ≡ [] → early_jumps g r (arrow B) ≡ []
    unfolding early_jumps targets_of
    arrow_targets g r e =
        let f : Targets = record no_targets { returns = true; yields = false } in
        let p = r ++ 1 ∷ [] in
        let parameters = early_jumps f (r ++ 0 ∷ []) params in
        let (first, last) = empty_both parameters (early_jumps f p (statements A) ++ []) e in
        both_empty parameters (early_jumps f p (statements B) ++ []) first (statements_targets f p last)

    pub arrow_keeps : AllUnmentioned (record { name = x; hoists = false }) B → (s : Seat) → Keeps (Expr s) (arrow A) (arrow B)
    arrow_keeps u s = record {
      kept = quiet_kept (arrow A) (arrow B) refl refl arrow_inner (λ y. let less = arrow_symbols Read y in omega (arith, less));
      scoped = λ v env st a. arrow_scoped (hoists_too u) v env a;
      numbers = arrow_numbers;
      declared_as_body = λ b r. ap unplaced (both_as_body b r (arrow A) (arrow B) refl refl);
      once = arrow_once;
      targets = arrow_targets;
      loop = no_loop (arrow B) refl ∙ sym (no_loop (arrow A) refl);
      root = λ e. absurd (cc e);
      block = λ e. absurd (cc e);
    }

    pub arrow_fixed : (y : Variable) → variable_eq (variable_of x) y ≡ false → fixed_by (arrow A) y ≡ fixed_by (arrow B) y
    arrow_fixed y o =
        of_children (shape.ArrowFunctionExpression directives) [] number (params ▸ (statements A ▸ none)) y refl ∙ ap (λ f. stricter (fixed_by params y) (stricter f Writable)) (statements_fixed y o)
        ∙ sym (of_children (shape.ArrowFunctionExpression directives) [] number (params ▸ (statements B ▸ none)) y refl)

    pub arrow_declares : (y : Name) → Contains (names_declared (arrow B)) y → Contains (names_declared (arrow A)) y
    arrow_declares = declares_behind

  -- ---- any other function

  module _ (is_declared is_generator : Bool) (directives : List (List ℕ)) (number : ℕ) (name : Tree) where
    abbrev function : Trees → Tree
    function ts = node (shape.Function is_declared is_generator directives) [] number (name ▸ (params ▸ (statements ts ▸ none)))

    -- the scope of its name, where it isn't declared around it
    abbrev name_scope : Use → Environment
    name_scope v = lexical_scope (name_if (not is_declared || is_alone v) name)

    function_is : (v : Use) (ts : Trees) → declared_in v (function ts) ≡ symbols_in (name_scope v) ++ (declared_in Read name ++ (symbols_in own_scope ++ (declared_in Read params ++ (symbols_in (scope ts) ++ declared_in Read (listed ts)))))
    unfolding declared_in scopes_by
    function_is v ts = λ i. symbols_in (name_scope v) ++ (declared_in Read name ++ (symbols_in own_scope ++ (declared_in Read params ++ (symbols_in (scope ts) ++ two_nils (declared_in Read (listed ts)) i))))

    function_sum : (v : Use) (ts : Trees) (y : Option SymbolId)
        → times y (declared_in v (function ts)) ≡ times y (symbols_in (name_scope v)) + (times y (declared_in Read name) + (times y (symbols_in own_scope) + (times y (declared_in Read params) + (times y (symbols_in (scope ts)) + times y (declared_in Read (listed ts))))))
    function_sum v ts y =
        let n = symbols_in (name_scope v) in
        let o = declared_in Read name in
        let s = symbols_in own_scope in
        let p = declared_in Read params in
        let r = symbols_in (scope ts) in
        let q = declared_in Read (listed ts) in
        omega (arith, ap (times y) (function_is v ts), times_both y n (o ++ (s ++ (p ++ (r ++ q)))), times_both y o (s ++ (p ++ (r ++ q))), times_both y s (p ++ (r ++ q)), times_both y p (r ++ q), times_both y r q)

    function_symbols : (v : Use) (y : Option SymbolId) → times y (declared_in v (function B)) + times y (x.symbol ∷ []) ≤ times y (declared_in v (function A))
    function_symbols v y = omega (arith, function_sum v A y, function_sum v B y, one_less y, list_symbols x before after d w l y)

    pub function_less : (k : ℕ) → x.symbol ≡ symbol k → (v : Use) → times (symbol k) (declared_in v (function B)) + 1 ≤ times (symbol k) (declared_in v (function A))
    function_less k e v =
        let s = function_symbols v (symbol k) in
        let h : times (symbol k) (x.symbol ∷ []) ≡ 1 = ap (λ y. times (symbol k) (y ∷ [])) e ∙ own_symbol k in
        omega (arith, s, h)

    function_scoped : Unmentioned (bind x) (listed B) → (v : Use) (env : Environment) → Scoped v env (function A) → Scoped v env (function B)
    unfolding Scoped scopes_by
    function_scoped u v env s = (tt, (s.1.0, (s.1.1.0, ((tt, (statements_scoped u ((env ++ name_scope v) ++ own_scope) s.1.1.1.0.1.0, tt)), tt))))

    function_names : (q : Declared) → names_of q (function B) ≡ names_of q (function A)
    function_names q = names_alike q is_declared is_generator directives number name params (statements B) (statements A)

    function_body_names : body_names (function B) ≡ body_names (function A)
    unfolding body_names
    function_body_names = λ i. function_names declared.Lexical i ++ function_names declared.Hoisted i

    function_inner : has_inner (function B) ≡ has_inner (function A)
    unfolding has_inner
    function_inner = ap (λ b. has_inner name || (has_inner params || ((b || false) || false))) (list_inner x before after d w l)

    pub function_kept : Kept (function A) (function B)
    function_kept = record { names = function_names; body = function_body_names; inner = function_inner; symbols = λ v y. let less = function_symbols v y in omega (arith, less) }

    function_numbers : (k : ℕ) → count_of k (numbers (function B)) ≤ count_of k (numbers (function A))
    unfolding numbers
    function_numbers k =
        let those = λ (ts : Trees). numbers params ++ ((numbers (listed ts) ++ []) ++ []) in
        let less = statements_numbers k in
        with_fewer number k (numbers name ++ those A) (numbers name ++ those B) (omega (arith, less, both_counts k (numbers name) (those A), both_counts k (numbers name) (those B)))

    function_as_body : (b : Bool) → as_body b (function B) ≡ as_body b (function A)
    function_as_body b = λ i. own_declarations (not (b && true)) [] (function_names declared.Lexical i) ++ own_declarations false [] (function_names declared.Hoisted i)

    function_once : (r : Path) → early_names r (function A) ≡ [] → early_names r (function B) ≡ []
    unfolding early_names scope_declarations
    function_once r e =
        let p = r ++ 2 ∷ [] in
        let own = at_child declared.Bound false r (name ▸ (params ▸ (statements A ▸ none))) 1 in
        let named = early_names (r ++ 0 ∷ []) name in
        let parameters = early_names (r ++ 1 ∷ []) params in
        let (clash, rest) = empty_both (clashing [] (own ++ body_declarations true p (statements A))) (named ++ (parameters ++ (early_names p (statements A) ++ []))) e in
        let (first, others) = empty_both named (parameters ++ (early_names p (statements A) ++ [])) rest in
        let (second, last) = empty_both parameters (early_names p (statements A) ++ []) others in
        both_empty (clashing [] (own ++ body_declarations true p (statements B))) (named ++ (parameters ++ (early_names p (statements B) ++ []))) (clash_less own p clash)
        (both_empty named (parameters ++ (early_names p (statements B) ++ [])) first (both_empty parameters (early_names p (statements B) ++ []) second (statements_once p last)))

    function_targets : (g : Targets) (r : Path) → early_jumps g r (function A) ≡ [] → early_jumps g r (function B) ≡ []
    unfolding early_jumps targets_of
    function_targets g r e =
        let f : Targets = record no_targets { returns = true; yields = is_generator } in
        let p = r ++ 2 ∷ [] in
        let named = early_jumps f (r ++ 0 ∷ []) name in
        let parameters = early_jumps f (r ++ 1 ∷ []) params in
        let (first, others) = empty_both named (parameters ++ (early_jumps f p (statements A) ++ [])) e in
        let (second, last) = empty_both parameters (early_jumps f p (statements A) ++ []) others in
        both_empty named (parameters ++ (early_jumps f p (statements B) ++ [])) first (both_empty parameters (early_jumps f p (statements B) ++ []) second (statements_targets f p last))

    pub function_keeps : AllUnmentioned (record { name = x; hoists = false }) B → (q : Position) → Keeps q (function A) (function B)
    unfolding is_loop
    function_keeps u q = record {
      kept = function_kept;
      scoped = λ v env st a. function_scoped (hoists_too u) v env a;
      numbers = function_numbers;
      declared_as_body = λ b r. body_same b r r (function A) (function B) (function_as_body b);
      once = function_once;
      targets = function_targets;
      loop = refl;
      root = λ e. refl;
      block = λ e b r. refl;
    }

    pub function_fixed : (y : Variable) → variable_eq (variable_of x) y ≡ false → fixed_by (function A) y ≡ fixed_by (function B) y
    function_fixed y o = ap (λ f. stricter (choose (is_in y (summary name).lets) (fixity_by (shape.Function is_declared is_generator directives)) Writable) (stricter (fixed_by name y) (stricter (fixed_by params y) (stricter f Writable)))) (statements_fixed y o)

    pub function_frames : FramesKept (frames None name ++ (frames None params ++ ((frames None (listed A) ++ []) ++ []))) (frames None name ++ (frames None params ++ ((frames None (listed B) ++ []) ++ [])))
    function_frames = frame_list.each_of (frames None name) (frames None params ++ ((frames None (listed A) ++ []) ++ [])) (frames None name) (frames None params ++ ((frames None (listed B) ++ []) ++ [])) (λ f c. c) frames_behind

    pub function_bodies : (a b c : Around) → BodiesKept (bodies a name ++ (bodies b params ++ ((bodies (quiet c) (listed A) ++ []) ++ []))) (bodies a name ++ (bodies b params ++ ((bodies (quiet c) (listed B) ++ []) ++ [])))
    function_bodies a b c =
        let those = λ (ts : Trees). bodies b params ++ ((bodies (quiet c) (listed ts) ++ []) ++ []) in
        body_list.each_of (bodies a name) (those A) (bodies a name) (those B) (body_list.kept_itself (bodies a name)) (bodies_behind b c)

    pub function_declares : (y : Name) → Contains (names_declared (function B)) y → Contains (names_declared (function A)) y
    function_declares =
        let those = λ (ts : Trees). names_declared params ++ ((names_declared (listed ts) ++ []) ++ []) in
        contained (names_declared name) (those B) (those A) declares_behind
