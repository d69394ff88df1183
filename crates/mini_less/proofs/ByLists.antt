-- What holds of trees by their parts holds so of the statements of a list, too: of a loop whose
-- head declares no lexical name, of a `switch`, and of a `var`.
use Rattle.std.specs.Prelude.{ℕ, suc, ◌≡◌, refl, nat_eq, Bool, true, false, ◌&&◌, ◌||◌, not, List, [], ◌∷◌, ◌++◌, length, map, if◌then◌else◌}
use Rattle.std.proofs.Common.{ap, ◌∙◌, sym, subst, arith}
use Rattle.std.proofs.lemmas.Bool.{and_parts}
use Rattle.std.proofs.lemmas.List.{append-nil}
use Rattle.mini_model.specs.declared.kind.VariableDeclarationKind.{VariableDeclarationKind}
use Rattle.mini_model.specs.declared.kind.VariableDeclarationKind.TheVariants.{Var, Let, Const}
use Rattle.mini_model.specs.declared.name.Name.{Name}
use Rattle.mini_model.specs.declared.shape.Shape.TheVariants as shape
use Rattle.mini_model.specs.Tree.{Tree, Trees, none, ◌▸◌, listed, absent, is_absent, identifier, shape_of}
use Rattle.mini_laws.specs.declared.names.Declared.TheVariants as declared
use Rattle.mini_laws.specs.declared.names.Use.{Use}
use Rattle.mini_laws.specs.declared.names.Use.TheVariants.{Read, Write, Hoisted, Headed, Alone}
use Rattle.mini_laws.specs.declared.names.Binding.{Binding}
use Rattle.mini_laws.specs.declared.names.Opening.TheVariants as opening
use Rattle.mini_laws.specs.DeclaredNames.{names_of}
use Rattle.mini_laws.proofs.Numbers.{fresh, with_fresh}
use Rattle.mini_laws.specs.Foreign.{has_number, any_has_number}
use Rattle.mini_laws.specs.Mentions.{is_among, is_elsewhere, same_variable}
use Rattle.mini_laws.specs.References.{reads}
use Rattle.mini_laws.specs.Resolved.{Environment}
use Rattle.mini_laws.specs.ScopeList.{has_eval, any_has_eval, by_symbol}
use Rattle.mini_laws.specs.Scopes.{use_of, is_alone, opened, scopes_by, at_or_empty, lexical_scope, hoisted_by}
use Rattle.mini_laws.specs.Shared.{names_arguments, any_names_arguments, is_of_function}
use Rattle.mini_kept.specs.KeepsNames.{is_statement_use}
use Rattle.mini_kept.proofs.Quiet.{is_quiet, no_names}
use Rattle.mini_shrink.specs.Pace.{Pace, Silent, followed, ends_after, all_followed, in_turn, reads_if, Setting, below, pace, paces}
use Rattle.mini_shrink.specs.Questions.{Own, finds, finds_each, any_of, early, hands_on, alone_names}
use Rattle.mini_rows.specs.Lists.{binding, declarator, declaration, bare_var, switch, is_unscoped}
use Rattle.mini_rows.specs.Sketches.{AList, If, Asked, AsValue, AsTarget, AsItem, AsWholeItem, AsWholeList, use_by}
use Rattle.mini_rows.proofs.Arranging.{All, Any, Below, all_of, of_all}
use Rattle.mini_rows.proofs.ArrangedValues.{is_value, is_no_inner}
use Rattle.mini_less.specs.Less.{Frame, frame_shape, headed}
use Rattle.mini_less.specs.TellsLists.{Every, TellsLists}
use Rattle.mini_less.proofs.Finding.{Lacks, lacks_anyhow, lacks_local, setting, setting_below, lacks_below, below_lacks, belongs_same}
use Rattle.mini_less.proofs.Flags.{none_of, spares_local, spares_below, below_spares, numbers_local, numbers_below, below_numbers, unlike}
use Rattle.mini_less.proofs.Headed.{and_nothing}
use Rattle.mini_less.proofs.LoopsLess.{frame_asked, loop_node, loop_setting, loop_standing, head_paces, of_turn, to_turn, told_by_head, silent_root, frame_evals, frame_names, frame_of_function}
use Rattle.mini_less.proofs.Made.{ByParts, by_parts, Spared, spared_by_parts, spared_below, below_spared, lacks_updated, lacks_properties, lacks_moved, calm_moved, calm_updated, calm_properties, spares_properties, numbers_properties}
use Rattle.mini_less.proofs.Plainly.{is_reads, split, join, Calmly, calm_anyhow, calm_local, calm_below, below_calm, standing, standing_below, early_alone, later_scopes}
use Rattle.mini_less.proofs.TellingLists.{unheaded_opens, hoisted_opens, declaration_opens}

pub record ByLists (Q : Asked → Tree → Type 0) : Type 1 where
  pub parts : ByParts Q
  -- an unscoped statement stands in the list and in a block alike
  pub placed : (t : Tree) → is_unscoped t ≡ true → (Q AsWholeItem t → Q AsItem t) × (Q AsItem t → Q AsWholeItem t)
  pub loop_down : (f : Frame) (i : Tree) (ts : Trees) → headed f i ≡ [] → Q AsWholeItem (loop_node f i ts) → Below Q (frame_asked f) 0 (i ▸ ts)
  pub loop_up : (f : Frame) (i : Tree) (ts : Trees) → headed f i ≡ [] → Below Q (frame_asked f) 0 (i ▸ ts) → Q AsWholeItem (loop_node f i ts)
  pub switched : (d e cases : Tree) → is_value (shape_of d) ≡ true → is_value (shape_of e) ≡ true → Q AsWholeItem (switch d cases) → Q AsValue d × (Q AsValue e → Q AsWholeItem (switch e cases))
  -- a declarator of a `var`, which stands in a list or in the head of a `for`
  pub Declared : Tree → Type 0
  pub var_down : (ds : Trees) → Q AsWholeItem (declaration Var ds) → Every Declared ds
  pub var_up : (ds : Trees) → Every Declared ds → Q AsWholeItem (declaration Var ds)
  pub head_down : (ds : Trees) → Q AsValue (declaration Var ds) → Every Declared ds
  pub head_up : (ds : Trees) → Every Declared ds → Q AsValue (declaration Var ds)
  -- a declarator gives a name a value as an assignment does, and has another value
  pub given : (x : Name) (v : Tree) → Q AsTarget (identifier x) → Q AsValue v → Declared (declarator (binding x) absent) → Declared (declarator (binding x) v)
  pub valued : (id d e : Tree) → is_absent d ≡ is_absent e → Declared (declarator id d) → Q AsValue d × (Q AsValue e → Declared (declarator id e))
  -- a `var` is assigned to in the head of a loop
  pub target_up : (x : Name) → Q AsTarget (identifier x) → Declared (declarator (binding x) absent) → Q AsTarget (bare_var x)
  -- the first declarator of a declaration has another value
  pub initialised : (kind : VariableDeclarationKind) (id d e : Tree) (ds : Trees) → is_absent d ≡ is_absent e → Q AsWholeItem (declaration kind (declarator id d ▸ ds)) → Q AsValue d × (Q AsValue e → Q AsWholeItem (declaration kind (declarator id e ▸ ds)))

value_quiet : (t : Tree) → is_value (shape_of t) ≡ true → is_quiet (shape_of t) ≡ true
value_quiet t e = (and_parts (is_quiet (shape_of t)) (is_no_inner (shape_of t)) e).0

pub value_lexical : (t : Tree) → is_value (shape_of t) ≡ true → names_of declared.Lexical t ≡ []
value_lexical t e = no_names declared.Lexical t (value_quiet t e)

pub value_bound : (t : Tree) → is_value (shape_of t) ≡ true → names_of declared.Bound t ≡ []
value_bound t e = no_names declared.Bound t (value_quiet t e)

pub hoisted : (u : Use) → is_statement_use u ≡ true → hoisted_by u ≡ Hoisted
hoisted Read e = refl
hoisted Alone e = refl
hoisted u e = absurd (cc e)

-- around declarators
abbrev pub declaring : Use → Setting → Setting
declaring v c = record c { used = v; is_body = false }

-- a declaration of lexical names in a list is used as the list
abbrev pub declared_use : VariableDeclarationKind → Use
declared_use Var = Hoisted
declared_use k = Read

pub kind_use : (k : VariableDeclarationKind) → use_of (shape.VariableDeclaration k) Read 0 ≡ declared_use k
kind_use Var = refl
kind_use Let = refl
kind_use Const = refl

-- ---- what is found

-- a declaration that opens no scope declares no name in one
empty_scope : (xs : List Name) → lexical_scope xs ≡ [] → xs ≡ []
empty_scope [] e = refl
empty_scope (x ∷ xs) e = absurd (let long : suc (length (lexical_tail x xs)) ≡ 0 = sym (ap (λ ys. length (map as_lexical ys)) (with_fresh [] (x ∷ xs))) ∙ ap length e in omega (arith, long))
  where
    as_lexical : Name → Binding
    as_lexical y = record { name = y; hoists = false }

    lexical_tail : Name → List Name → List Binding
    lexical_tail y ys = map as_lexical (fresh (y ∷ []) ys)

nothing_alone : (u : Use) (k : VariableDeclarationKind) (t : Tree) → opened u (shape.VariableDeclaration k) (t ▸ none) 0 ≡ [] → alone_names u k t ≡ []
unfolding scopes_by
nothing_alone u Var t e = refl
nothing_alone u Let t e = by (is_alone u) e
  where
    by : (b : Bool) → at_or_empty (scopes_by (if b then opening.Bound else opening.Nothing) (t ▸ none)) 0 ≡ [] → (if b then names_of declared.Bound t else []) ≡ []
    by true f = empty_scope (names_of declared.Bound t) f
    by false f = refl
nothing_alone u Const t e = by (is_alone u) e
  where
    by : (b : Bool) → at_or_empty (scopes_by (if b then opening.Bound else opening.Nothing) (t ▸ none)) 0 ≡ [] → (if b then names_of declared.Bound t else []) ≡ []
    by true f = empty_scope (names_of declared.Bound t) f
    by false f = refl

module _ (o : Own) (t : TellsLists o) (c : Setting) (env : Environment) (r : c.used ≡ Read) where
  su : is_statement_use c.used ≡ true
  su = ap is_statement_use r

  abbrev pub Q : Asked → Tree → Type 0
  Q = Lacks o t.plainly c env

  abbrev pub at : Asked → Setting
  at = setting o t.plainly c env

  loop_lacks : (f : Frame) (i : Tree) (ts : Trees) → headed f i ≡ [] → Q AsWholeItem (loop_node f i ts) → Below Q (frame_asked f) 0 (i ▸ ts)
  unfolding finds
  loop_lacks f i ts e a =
      let h = frame_shape f in
      lacks_below o t.plainly c env (frame_asked f) (opened c.used h (i ▸ ts)) (unheaded_opens c.used f i ts e) (below false c h 0) (loop_setting o t.plainly c env f) 0 env refl (i ▸ ts)
      (none_of (o (at AsWholeItem) env h [] 0 (i ▸ ts)) (any_of (finds_each o (opened c.used h (i ▸ ts)) (below false c h 0) 0 env (i ▸ ts))) a).1

  lacks_loop : (f : Frame) (i : Tree) (ts : Trees) → headed f i ≡ [] → Below Q (frame_asked f) 0 (i ▸ ts) → Q AsWholeItem (loop_node f i ts)
  unfolding finds
  lacks_loop f i ts e a =
      let h = frame_shape f in
      λ j. t.unheaded (at AsWholeItem) env f i ts e j || below_lacks o t.plainly c env (frame_asked f) (opened c.used h (i ▸ ts)) (unheaded_opens c.used f i ts e) (below false c h 0) (loop_setting o t.plainly c env f) 0 env refl (i ▸ ts) a j

  switch_lacks : (d e cases : Tree) → is_value (shape_of d) ≡ true → is_value (shape_of e) ≡ true → Q AsWholeItem (switch d cases) → Q AsValue d × (Q AsValue e → Q AsWholeItem (switch e cases))
  unfolding finds scopes_by
  switch_lacks d e cases v u a =
      let k = at AsWholeItem in
      let first = below false k shape.SwitchStatement 0 0 in
      let later = any_of (finds_each o (opened c.used shape.SwitchStatement (d ▸ cases ▸ none)) (below false k shape.SwitchStatement 0) 1 (env ++ []) (cases ▸ none)) in
      let (x, y) = none_of (o k env shape.SwitchStatement [] 0 (d ▸ cases ▸ none)) (finds o first (env ++ []) d || later) a in
      let (z, w) = none_of (finds o first (env ++ []) d) later y in
      let there : first ≡ at AsValue = setting_below o t.plainly c env If AsWholeItem 0 in
      let same : env ++ [] ≡ env = append-nil env in (
        subst (λ s. finds o s env d ≡ false) there (subst (λ r. finds o first r d ≡ false) same z),
        λ q j. t.switched k env d e cases (value_lexical d v) (value_lexical e u) x j || (subst (λ r. finds o first r e ≡ false) (sym same) (subst (λ s. finds o s env e ≡ false) (sym there) q) j || w j),
      )

  abbrev pub Declares : Use → Asked → Tree → Type 0
  Declares v = Lacks o t.plainly (declaring v c) env

  module _ (k : VariableDeclarationKind) (u : Asked) (v : Use) (used : use_of (shape.VariableDeclaration k) (use_by c.used u) 0 ≡ v) (closed : (ds : Trees) → opened (use_by c.used u) (shape.VariableDeclaration k) (listed ds ▸ none) 0 ≡ []) where
    around_declarators : below false (at u) (shape.VariableDeclaration k) 0 0 ≡ setting o t.plainly (declaring v c) env AsWholeList
    around_declarators = λ i. record { used = used i; around = c.around; strict = c.strict; is_body = false; belongs = belongs_same If c.belongs 0 i; ordered = false }

    no_scope : (ds : Trees) → env ++ opened (use_by c.used u) (shape.VariableDeclaration k) (listed ds ▸ none) 0 ≡ env
    no_scope ds = ap (λ b. env ++ b) (closed ds) ∙ append-nil env

    pub var_lacks : (ds : Trees) → Q u (declaration k ds) → (o (at u) env (shape.VariableDeclaration k) [] 0 (listed ds ▸ none) ≡ false) × All (Declares v) AsWholeItem ds
    unfolding finds
    var_lacks ds a =
        let b = below false (at u) (shape.VariableDeclaration k) 0 0 in
        let later = env ++ opened (use_by c.used u) (shape.VariableDeclaration k) (listed ds ▸ none) 0 in
        let (x, y) = none_of (o (at u) env (shape.VariableDeclaration k) [] 0 (listed ds ▸ none)) (finds o b later (listed ds) || false) a in
        let (z, w) = none_of (finds o b later (listed ds)) false y in (
          x,
          all_of Any (Declares v) AsWholeItem 0 ds ((lacks_local o t.plainly (declaring v c) env).down AList AsWholeList ds tt
              (subst (λ s. finds o s env (listed ds) ≡ false) around_declarators (subst (λ r. finds o b r (listed ds) ≡ false) (no_scope ds) z))).1,
        )

    pub lacks_var : (ds : Trees) → o (at u) env (shape.VariableDeclaration k) [] 0 (listed ds ▸ none) ≡ false → All (Declares v) AsWholeItem ds → Q u (declaration k ds)
    unfolding finds
    lacks_var ds e a =
        let b = below false (at u) (shape.VariableDeclaration k) 0 0 in
        let later = env ++ opened (use_by c.used u) (shape.VariableDeclaration k) (listed ds ▸ none) 0 in
        let z : finds o b later (listed ds) ≡ false = subst (λ r. finds o b r (listed ds) ≡ false) (sym (no_scope ds)) (subst (λ s. finds o s env (listed ds) ≡ false) (sym around_declarators)
        ((lacks_local o t.plainly (declaring v c) env).up AList AsWholeList ds tt tt (of_all Any (Declares v) AsWholeItem 0 ds a))) in
        λ j. e j || (z j || false)

  var_closed : (u : Use) (ds : Trees) → opened u (shape.VariableDeclaration Var) (listed ds ▸ none) 0 ≡ []
  var_closed u ds = hoisted_opens u (listed ds ▸ none) 0

  -- a declarator
  module _ (v : Use) where
    around_name : below false (setting o t.plainly (declaring v c) env AsWholeItem) shape.VariableDeclarator 0 0 ≡ setting o t.plainly (declaring v c) env AsWholeItem
    around_name = λ i. record { used = v; around = c.around; strict = c.strict; is_body = false; belongs = belongs_same If c.belongs 0 i; ordered = false }

    around_value : below false (setting o t.plainly (declaring v c) env AsWholeItem) shape.VariableDeclarator 0 1 ≡ at AsValue
    around_value = λ i. record { used = Read; around = c.around; strict = c.strict; is_body = false; belongs = belongs_same If c.belongs 0 i; ordered = false }

    same_scope : (env ++ []) ++ [] ≡ env
    same_scope = append-nil (env ++ []) ∙ append-nil env

    pub declarator_lacks : (id d : Tree) → Declares v AsWholeItem (declarator id d) → (o (setting o t.plainly (declaring v c) env AsWholeItem) env shape.VariableDeclarator [] 0 (id ▸ (d ▸ none)) ≡ false) × (Declares v AsWholeItem id × Q AsValue d)
    unfolding finds scopes_by
    declarator_lacks id d a =
        let k = setting o t.plainly (declaring v c) env AsWholeItem in
        let first = below false k shape.VariableDeclarator 0 0 in
        let second = below false k shape.VariableDeclarator 0 1 in
        let (x, y) = none_of (o k env shape.VariableDeclarator [] 0 (id ▸ (d ▸ none))) (finds o first (env ++ []) id || (finds o second ((env ++ []) ++ []) d || false)) a in
        let (z, w) = none_of (finds o first (env ++ []) id) (finds o second ((env ++ []) ++ []) d || false) y in
        let there = (none_of (finds o second ((env ++ []) ++ []) d) false w).0 in (
          x,
          (
            subst (λ s. finds o s env id ≡ false) around_name (subst (λ r. finds o first r id ≡ false) (append-nil env) z),
            subst (λ s. finds o s env d ≡ false) around_value (subst (λ r. finds o second r d ≡ false) same_scope there),
          ),
        )

    lacks_declarator : (id d : Tree) → o (setting o t.plainly (declaring v c) env AsWholeItem) env shape.VariableDeclarator [] 0 (id ▸ (d ▸ none)) ≡ false → Declares v AsWholeItem id → Q AsValue d → Declares v AsWholeItem (declarator id d)
    unfolding finds scopes_by
    lacks_declarator id d x y z =
        let k = setting o t.plainly (declaring v c) env AsWholeItem in
        let first = below false k shape.VariableDeclarator 0 0 in
        let second = below false k shape.VariableDeclarator 0 1 in
        let name = subst (λ r. finds o first r id ≡ false) (sym (append-nil env)) (subst (λ s. finds o s env id ≡ false) (sym around_name) y) in
        let value = subst (λ r. finds o second r d ≡ false) (sym same_scope) (subst (λ s. finds o s env d ≡ false) (sym around_value) z) in
        λ j. x j || (name j || (value j || false))

    pub valued_lacks : (id d e : Tree) → is_absent d ≡ is_absent e → Declares v AsWholeItem (declarator id d) → Q AsValue d × (Q AsValue e → Declares v AsWholeItem (declarator id e))
    valued_lacks id d e same a =
        let (x, (y, z)) = declarator_lacks id d a in
        (z, λ q. lacks_declarator id e (t.valued (setting o t.plainly (declaring v c) env AsWholeItem) env id d e same x) y q)

  or_none : (b : Bool) → (b || false) ≡ b
  or_none true = refl
  or_none false = refl

  -- what is assigned to
  target_lacks : (v : Use) (x : Name) (d : Tree) → Q AsTarget (identifier x) → o (setting o t.plainly (declaring v c) env AsWholeItem) env shape.VariableDeclarator [] 0 (binding x ▸ (d ▸ none)) ≡ false
  unfolding finds
  target_lacks v x d a = t.given (setting o t.plainly (declaring v c) env AsWholeItem) env x d (sym (or_none _) ∙ a)

  headed_lacks : (x : Name) → Declares Hoisted AsWholeItem (binding x) → Declares Headed AsWholeItem (binding x)
  unfolding finds
  headed_lacks x a = or_none _ ∙ t.headed (setting o t.plainly (declaring Headed c) env AsWholeItem) env x (sym (or_none _) ∙ a)

  target_var : (x : Name) → Q AsTarget (identifier x) → Declares Hoisted AsWholeItem (declarator (binding x) absent) → Q AsTarget (bare_var x)
  target_var x a b =
      let (own, (name, value)) = declarator_lacks Hoisted (binding x) absent b in
      lacks_var Var AsTarget Headed refl (var_closed Write) (declarator (binding x) absent ▸ none) (t.hoisted (at AsTarget) env (listed (declarator (binding x) absent ▸ none) ▸ none))
      (lacks_declarator Headed (binding x) absent (target_lacks Headed x absent a) (headed_lacks x name) value, tt)

  initial_lacks : (kind : VariableDeclarationKind) (id d e : Tree) (ds : Trees) → is_absent d ≡ is_absent e → Q AsWholeItem (declaration kind (declarator id d ▸ ds)) → Q AsValue d × (Q AsValue e → Q AsWholeItem (declaration kind (declarator id e ▸ ds)))
  initial_lacks kind id d e ds same a =
      let used : use_of (shape.VariableDeclaration kind) c.used 0 ≡ declared_use kind = ap (λ v. use_of (shape.VariableDeclaration kind) v 0) r ∙ kind_use kind in
      let closed : (us : Trees) → opened c.used (shape.VariableDeclaration kind) (listed us ▸ none) 0 ≡ [] = λ us. declaration_opens c.used r kind (listed us ▸ none) 0 in
      let (x, (y, z)) = var_lacks kind AsWholeItem (declared_use kind) used closed (declarator id d ▸ ds) a in
      let (value, again) = valued_lacks (declared_use kind) id d e same y in
      (value, λ q. lacks_var kind AsWholeItem (declared_use kind) used closed (declarator id e ▸ ds) (t.initialised (at AsWholeItem) env kind id d e ds r x) (again q, z))

  to_every : (ds : Trees) → All (Declares Hoisted) AsWholeItem ds → Every (Declares Hoisted AsWholeItem) ds
  to_every none a = tt
  to_every (d ▸ ds) a = (a.0, to_every ds a.1)

  of_every : (ds : Trees) → Every (Declares Hoisted AsWholeItem) ds → All (Declares Hoisted) AsWholeItem ds
  of_every none a = tt
  of_every (d ▸ ds) a = (a.0, of_every ds a.1)

  pub lacks_vars : (ds : Trees) → Every (Declares Hoisted AsWholeItem) ds → Q AsWholeItem (declaration Var ds)
  lacks_vars ds a = lacks_var Var AsWholeItem Hoisted (hoisted c.used su) (var_closed c.used) ds (t.hoisted (at AsWholeItem) env (listed ds ▸ none)) (of_every ds a)

  pub lacks_lists : ByLists Q
  lacks_lists = record {
    parts = by_parts Q (lacks_updated o t.plainly c env) (lacks_properties o t.plainly c env) (lacks_moved o t.plainly c env) (lacks_local o t.plainly c env);
    placed = λ x e. (lacks_anyhow o t.plainly c env su AsWholeItem AsItem refl refl x e, lacks_anyhow o t.plainly c env su AsItem AsWholeItem refl refl x e);
    loop_down = loop_lacks;
    loop_up = lacks_loop;
    switched = switch_lacks;
    Declared = Declares Hoisted AsWholeItem;
    var_down = λ ds a. to_every ds (var_lacks Var AsWholeItem Hoisted (hoisted c.used su) (var_closed c.used) ds a).1;
    var_up = lacks_vars;
    head_down = λ ds a. to_every ds (var_lacks Var AsValue Hoisted refl (var_closed Read) ds a).1;
    head_up = λ ds a. lacks_var Var AsValue Hoisted refl (var_closed Read) ds (t.hoisted (at AsValue) env (listed ds ▸ none)) (of_every ds a);
    given = λ x v a b d. lacks_declarator Hoisted (binding x) v (target_lacks Hoisted x v a) (declarator_lacks Hoisted (binding x) absent d).1.0 b;
    valued = valued_lacks Hoisted;
    target_up = target_var;
    initialised = initial_lacks;
  }

-- ---- the order of reads

module _ (m s : ℕ) (c : Setting) (env : Environment) (r : c.used ≡ Read) where
  use_there : is_statement_use c.used ≡ true
  use_there = ap is_statement_use r

  abbrev pub C : Asked → Tree → Type 0
  C = Calmly m s c env

  abbrev pub stood : Asked → Setting
  stood = standing m s c env

  -- what a loop says whose head declares no lexical name
  loop_says : (f : Frame) (i : Tree) (ts : Trees) → headed f i ≡ [] → pace (early m s) (stood AsWholeItem) env (loop_node f i ts) ≡ in_turn (frame_shape f) (paces (early m s) (λ k. []) (below false c (frame_shape f) 0) 0 env (i ▸ ts))
  unfolding pace
  loop_says f i ts e =
      let q = early m s in
      let h = frame_shape f in
      let k = stood AsWholeItem in
      ap (λ x. followed x (in_turn h (paces q (opened c.used h (i ▸ ts)) (below (q.orders k h (i ▸ ts)) k h 0) 0 env (i ▸ ts)))) (silent_root m s k env f (i ▸ ts))
      ∙ ap (λ x. in_turn h (paces q (opened c.used h (i ▸ ts)) (below x k h 0) 0 env (i ▸ ts))) (told_by_head m s k env f i ts ∙ ap (is_among (by_symbol s)) e)
      ∙ ap (in_turn h) (head_paces q (opened c.used h (i ▸ ts)) (later_scopes c.used f i ts) (below false k h 0) env i ts ∙ ap (λ x. paces q (λ k. []) (below false c h 0) 0 x (i ▸ ts)) (ap (λ b. env ++ b) (unheaded_opens c.used f i ts e 0) ∙ append-nil env))

  loop_calm : (f : Frame) (i : Tree) (ts : Trees) → headed f i ≡ [] → C AsWholeItem (loop_node f i ts) → Below C (frame_asked f) 0 (i ▸ ts)
  loop_calm f i ts e a =
      calm_below m s c env (frame_asked f) (λ k. []) (λ k. refl) (below false c (frame_shape f) 0) (loop_standing m s c env f) 0 env refl (i ▸ ts)
      (of_turn m s c env f i ts (sym (ap is_reads (loop_says f i ts e)) ∙ a))

  calm_loop : (f : Frame) (i : Tree) (ts : Trees) → headed f i ≡ [] → Below C (frame_asked f) 0 (i ▸ ts) → C AsWholeItem (loop_node f i ts)
  calm_loop f i ts e a =
      ap is_reads (loop_says f i ts e) ∙ to_turn m s c env f i ts (below_calm m s c env (frame_asked f) (λ k. []) (λ k. refl) (below false c (frame_shape f) 0) (loop_standing m s c env f) 0 env refl (i ▸ ts) a)

  -- what a `switch` goes over, before its cases
  abbrev over : Bool → Setting
  over b = below b (stood AsWholeItem) shape.SwitchStatement 0 0

  abbrev first : Bool → Tree → Pace → Pace
  first b d r = followed (ends_after ((early m s).ends (over b) d) (pace (early m s) (over b) (env ++ []) d)) r

  no_end : (b : Bool) (d : Tree) → is_value (shape_of d) ≡ true → (early m s).ends (over b) d ≡ false
  no_end b d v = (λ j. b && (is_among (by_symbol s) (value_lexical d v j) || is_among (by_symbol s) (value_bound d v j))) ∙ and_nothing b

  over_alone : (b : Bool) (d : Tree) → is_value (shape_of d) ≡ true → pace (early m s) (over b) (env ++ []) d ≡ pace (early m s) (stood AsValue) env d
  over_alone b d v =
      early_alone m s (over b) (env ++ []) d v
      ∙ ap (λ k. pace (early m s) k (env ++ []) d) (standing_below m s c env If AsWholeItem false refl 0)
      ∙ ap (λ r. pace (early m s) (stood AsValue) r d) (append-nil env)

  of_first : (b : Bool) (d : Tree) (r : Pace) → is_value (shape_of d) ≡ true → is_reads (first b d r) ≡ false → C AsValue d × (is_reads r ≡ false)
  of_first b d r v a = split (pace (early m s) (stood AsValue) env d) r (sym (λ j. is_reads (followed (ends_after (no_end b d v j) (over_alone b d v j)) r)) ∙ a)

  to_first : (b : Bool) (d : Tree) (r : Pace) → is_value (shape_of d) ≡ true → C AsValue d → is_reads r ≡ false → is_reads (first b d r) ≡ false
  to_first b d r v x y = (λ j. is_reads (followed (ends_after (no_end b d v j) (over_alone b d v j)) r)) ∙ join (pace (early m s) (stood AsValue) env d) r x y

  switch_calm : (d e cases : Tree) → is_value (shape_of d) ≡ true → is_value (shape_of e) ≡ true → C AsWholeItem (switch d cases) → C AsValue d × (C AsValue e → C AsWholeItem (switch e cases))
  unfolding pace scopes_by
  switch_calm d e cases v u a =
      let k = stood AsWholeItem in
      let b = is_among (by_symbol s) (names_of declared.Lexical cases) in
      let later : Pace = all_followed (paces (early m s) (opened c.used shape.SwitchStatement (d ▸ cases ▸ none)) (below b k shape.SwitchStatement 0) 1 (env ++ []) (cases ▸ none)) in
      let (x, y) = of_first b d later v a in
      (x, λ q. to_first b e later u q y)

  abbrev pub Declaring : Use → Asked → Tree → Type 0
  Declaring v = Calmly m s (declaring v c) env

  module _ (k : VariableDeclarationKind) (u : Asked) (v : Use) (used : use_of (shape.VariableDeclaration k) (use_by c.used u) 0 ≡ v) (closed : (ds : Trees) → opened (use_by c.used u) (shape.VariableDeclaration k) (listed ds ▸ none) 0 ≡ []) where
    abbrev listing : Bool → Setting
    listing b = record { used = v; around = c.around; strict = c.strict; is_body = false; belongs = c.belongs; ordered = b }

    no_order : (ds : Trees) → ((hands_on (shape.VariableDeclaration k) && false) || is_among (by_symbol s) (alone_names (use_by c.used u) k (listed ds))) ≡ false
    no_order ds = by k (nothing_alone (use_by c.used u) k (listed ds) (closed ds))
      where
        by : (kind : VariableDeclarationKind) → alone_names (use_by c.used u) k (listed ds) ≡ [] → ((hands_on (shape.VariableDeclaration kind) && false) || is_among (by_symbol s) (alone_names (use_by c.used u) k (listed ds))) ≡ false
        by Var e = ap (is_among (by_symbol s)) e
        by Let e = ap (is_among (by_symbol s)) e
        by Const e = ap (is_among (by_symbol s)) e

    calm_around : (b : Bool) → below b (stood u) (shape.VariableDeclaration k) 0 0 ≡ listing b
    calm_around b = λ i. record { used = used i; around = c.around; strict = c.strict; is_body = false; belongs = belongs_same If c.belongs 0 i; ordered = b }

    var_says : (ds : Trees) → pace (early m s) (stood u) env (declaration k ds) ≡ followed (ends_after false (pace (early m s) (listing false) env (listed ds))) Silent
    unfolding pace
    var_says ds =
        let later = env ++ opened (use_by c.used u) (shape.VariableDeclaration k) (listed ds ▸ none) 0 in
        (λ j. followed (ends_after ((early m s).ends (calm_around (no_order ds j) j) (listed ds)) (pace (early m s) (calm_around (no_order ds j) j) later (listed ds))) Silent)
        ∙ ap (λ r. followed (ends_after false (pace (early m s) (listing false) r (listed ds))) Silent) (ap (λ b. env ++ b) (closed ds) ∙ append-nil env)

    pub var_calm : (ds : Trees) → C u (declaration k ds) → All (Declaring v) AsWholeItem ds
    var_calm ds a = all_of Any (Declaring v) AsWholeItem 0 ds ((calm_local m s (declaring v c) env).down AList AsWholeList ds tt (split (pace (early m s) (listing false) env (listed ds)) Silent (sym (ap is_reads (var_says ds)) ∙ a)).0).1

    pub calm_var : (ds : Trees) → All (Declaring v) AsWholeItem ds → C u (declaration k ds)
    calm_var ds a = ap is_reads (var_says ds) ∙ join (pace (early m s) (listing false) env (listed ds)) Silent ((calm_local m s (declaring v c) env).up AList AsWholeList ds tt tt (of_all Any (Declaring v) AsWholeItem 0 ds a)) refl

  -- a declarator
  module _ (v : Use) where
    abbrev naming : Setting
    naming = standing m s (declaring v c) env AsWholeItem

    name_around : below false naming shape.VariableDeclarator 0 0 ≡ naming
    name_around = λ i. record { used = v; around = c.around; strict = c.strict; is_body = false; belongs = belongs_same If c.belongs 0 i; ordered = false }

    value_around : below false naming shape.VariableDeclarator 0 1 ≡ stood AsValue
    value_around = λ i. record { used = Read; around = c.around; strict = c.strict; is_body = false; belongs = belongs_same If c.belongs 0 i; ordered = false }

    declarator_says : (id d : Tree) → pace (early m s) naming env (declarator id d) ≡ followed (ends_after false (pace (early m s) naming env id)) (followed (ends_after false (pace (early m s) (stood AsValue) env d)) Silent)
    unfolding pace scopes_by
    declarator_says id d = λ j. followed (ends_after false (pace (early m s) (name_around j) (append-nil env j) id)) (followed (ends_after false (pace (early m s) (value_around j) ((append-nil (env ++ []) ∙ append-nil env) j) d)) Silent)

    pub declarator_calm : (id d : Tree) → Declaring v AsWholeItem (declarator id d) → Declaring v AsWholeItem id × C AsValue d
    declarator_calm id d a =
        let (x, y) = split (pace (early m s) naming env id) (followed (ends_after false (pace (early m s) (stood AsValue) env d)) Silent) (sym (ap is_reads (declarator_says id d)) ∙ a) in
        (x, (split (pace (early m s) (stood AsValue) env d) Silent y).0)

    calm_declarator : (id d : Tree) → Declaring v AsWholeItem id → C AsValue d → Declaring v AsWholeItem (declarator id d)
    calm_declarator id d x y =
        ap is_reads (declarator_says id d) ∙ join (pace (early m s) naming env id) (followed (ends_after false (pace (early m s) (stood AsValue) env d)) Silent) x (join (pace (early m s) (stood AsValue) env d) Silent y refl)

    pub valued_calm : (id d e : Tree) → Declaring v AsWholeItem (declarator id d) → C AsValue d × (C AsValue e → Declaring v AsWholeItem (declarator id e))
    valued_calm id d e a = let (x, y) = declarator_calm id d a in (y, λ q. calm_declarator id e x q)

    -- what is bound isn't read
    binding_calm : (x : Name) → Declaring v AsWholeItem (binding x)
    unfolding pace
    binding_calm x = by (same_variable (by_symbol s) x)
      where
        by : (b : Bool) → is_reads (followed (reads_if ((((b && false) && reads v) && not (is_elsewhere m c.around)) || false)) Silent) ≡ false
        by true = refl
        by false = refl

  var_closed_there : (u : Use) (ds : Trees) → opened u (shape.VariableDeclaration Var) (listed ds ▸ none) 0 ≡ []
  var_closed_there u ds = hoisted_opens u (listed ds ▸ none) 0

  var_target : (x : Name) → Declaring Hoisted AsWholeItem (declarator (binding x) absent) → C AsTarget (bare_var x)
  var_target x b = calm_var Var AsTarget Headed refl (var_closed_there Write) (declarator (binding x) absent ▸ none) (calm_declarator Headed (binding x) absent (binding_calm Headed x) (declarator_calm Hoisted (binding x) absent b).1, tt)

  initial_calm : (kind : VariableDeclarationKind) (id d e : Tree) (ds : Trees) → C AsWholeItem (declaration kind (declarator id d ▸ ds)) → C AsValue d × (C AsValue e → C AsWholeItem (declaration kind (declarator id e ▸ ds)))
  initial_calm kind id d e ds a =
      let used : use_of (shape.VariableDeclaration kind) c.used 0 ≡ declared_use kind = ap (λ v. use_of (shape.VariableDeclaration kind) v 0) r ∙ kind_use kind in
      let closed : (us : Trees) → opened c.used (shape.VariableDeclaration kind) (listed us ▸ none) 0 ≡ [] = λ us. declaration_opens c.used r kind (listed us ▸ none) 0 in
      let (y, z) = var_calm kind AsWholeItem (declared_use kind) used closed (declarator id d ▸ ds) a in
      let (value, again) = valued_calm (declared_use kind) id d e y in
      (value, λ q. calm_var kind AsWholeItem (declared_use kind) used closed (declarator id e ▸ ds) (again q, z))

  to_each : (ds : Trees) → All (Declaring Hoisted) AsWholeItem ds → Every (Declaring Hoisted AsWholeItem) ds
  to_each none a = tt
  to_each (d ▸ ds) a = (a.0, to_each ds a.1)

  of_each : (ds : Trees) → Every (Declaring Hoisted AsWholeItem) ds → All (Declaring Hoisted) AsWholeItem ds
  of_each none a = tt
  of_each (d ▸ ds) a = (a.0, of_each ds a.1)

  pub calm_vars : (ds : Trees) → Every (Declaring Hoisted AsWholeItem) ds → C AsWholeItem (declaration Var ds)
  calm_vars ds a = calm_var Var AsWholeItem Hoisted (hoisted c.used use_there) (var_closed_there c.used) ds (of_each ds a)

  pub calm_lists : ByLists C
  calm_lists = record {
    parts = by_parts C (calm_updated m s c env) (calm_properties m s c env) (calm_moved m s c env) (calm_local m s c env);
    placed = λ x e. (calm_anyhow m s c env use_there AsWholeItem AsItem refl refl x e, calm_anyhow m s c env use_there AsItem AsWholeItem refl refl x e);
    loop_down = loop_calm;
    loop_up = calm_loop;
    switched = switch_calm;
    Declared = Declaring Hoisted AsWholeItem;
    var_down = λ ds a. to_each ds (var_calm Var AsWholeItem Hoisted (hoisted c.used use_there) (var_closed_there c.used) ds a);
    var_up = calm_vars;
    head_down = λ ds a. to_each ds (var_calm Var AsValue Hoisted refl (var_closed_there Read) ds a);
    head_up = λ ds a. calm_var Var AsValue Hoisted refl (var_closed_there Read) ds (of_each ds a);
    given = λ x v a b d. calm_declarator Hoisted (binding x) v (declarator_calm Hoisted (binding x) absent d).0 b;
    valued = λ id d e q a. valued_calm Hoisted id d e a;
    target_up = λ x a b. var_target x b;
    initialised = λ k id d e ds q a. initial_calm k id d e ds a;
  }

-- ---- what a tree tells besides names

every_spared : (ds : Trees) → any_has_eval ds ≡ false → Every (λ t. has_eval t ≡ false) ds
unfolding has_eval
every_spared none a = tt
every_spared (d ▸ ds) a = let (x, y) = none_of (has_eval d) (any_has_eval ds) a in (x, every_spared ds y)

spared_every : (ds : Trees) → Every (λ t. has_eval t ≡ false) ds → any_has_eval ds ≡ false
unfolding has_eval
spared_every none a = refl
spared_every (d ▸ ds) a = λ j. a.0 j || spared_every ds a.1 j

pub spared_lists : ByLists Spared
unfolding has_eval
spared_lists = record {
  parts = spared_by_parts;
  placed = λ t e. (λ a. a, λ a. a);
  loop_down = λ f i ts e a. spared_below (frame_asked f) 0 (i ▸ ts) (sym (frame_evals f (i ▸ ts)) ∙ a);
  loop_up = λ f i ts e a. frame_evals f (i ▸ ts) ∙ below_spared (frame_asked f) 0 (i ▸ ts) a;
  switched = λ d e cases v u a. let (x, y) = none_of (has_eval d) (has_eval cases || false) a in (x, λ q j. q j || y j);
  Declared = λ t. has_eval t ≡ false;
  var_down = λ ds a. every_spared ds (none_of (any_has_eval ds) false a).0;
  var_up = λ ds a j. spared_every ds a j || false;
  head_down = λ ds a. every_spared ds (none_of (any_has_eval ds) false a).0;
  head_up = λ ds a j. spared_every ds a j || false;
  given = λ x v a b d j. b j || false;
  valued = λ id d e q a. let (x, y) = none_of (has_eval id) (has_eval d || false) a in ((none_of (has_eval d) false y).0, λ q j. x j || (q j || false));
  target_up = λ x a b. refl;
  initialised = λ k id d e ds q a.
      let (x, y) = none_of (has_eval id || (has_eval d || false)) (any_has_eval ds) (none_of (any_has_eval (declarator id d ▸ ds)) false a).0 in
      let (z, w) = none_of (has_eval id) (has_eval d || false) x in
      ((none_of (has_eval d) false w).0, λ q j. ((z j || (q j || false)) || y j) || false);
}

abbrev Names : Asked → Tree → Type 0
Names d t = names_arguments t ≡ false

every_names : (i : ℕ) (ds : Trees) → any_names_arguments (is_of_function shape.Listed) i ds ≡ false → Every (λ t. names_arguments t ≡ false) ds
unfolding names_arguments
every_names i none a = tt
every_names i (d ▸ ds) a = let (x, y) = none_of (names_arguments d) (any_names_arguments (is_of_function shape.Listed) (suc i) ds) a in (x, every_names (suc i) ds y)

names_every : (i : ℕ) (ds : Trees) → Every (λ t. names_arguments t ≡ false) ds → any_names_arguments (is_of_function shape.Listed) i ds ≡ false
unfolding names_arguments
names_every i none a = refl
names_every i (d ▸ ds) a = λ j. a.0 j || names_every (suc i) ds a.1 j

pub names_lists : ByLists Names
unfolding names_arguments
names_lists = record {
  parts = by_parts Names (λ x e f. e) spares_properties (λ t e. (λ a. a, λ a. a)) spares_local;
  placed = λ t e. (λ a. a, λ a. a);
  loop_down = λ f i ts e a. spares_below (frame_asked f) (is_of_function (frame_shape f)) (frame_of_function f) 0 (i ▸ ts) (sym (frame_names f (i ▸ ts)) ∙ a);
  loop_up = λ f i ts e a. frame_names f (i ▸ ts) ∙ below_spares (frame_asked f) (is_of_function (frame_shape f)) (frame_of_function f) 0 (i ▸ ts) a;
  switched = λ d e cases v u a. let (x, y) = none_of (names_arguments d) (names_arguments cases || false) a in (x, λ q j. q j || y j);
  Declared = λ t. names_arguments t ≡ false;
  var_down = λ ds a. every_names 0 ds (none_of (any_names_arguments (is_of_function shape.Listed) 0 ds) false a).0;
  var_up = λ ds a j. names_every 0 ds a j || false;
  head_down = λ ds a. every_names 0 ds (none_of (any_names_arguments (is_of_function shape.Listed) 0 ds) false a).0;
  head_up = λ ds a j. names_every 0 ds a j || false;
  given = λ x v a b d j. (none_of (names_arguments (binding x)) false d).0 j || (b j || false);
  valued = λ id d e q a. let (x, y) = none_of (names_arguments id) (names_arguments d || false) a in ((none_of (names_arguments d) false y).0, λ q j. x j || (q j || false));
  target_up = λ x a b j. (b j || false) || false;
  initialised = λ k id d e ds q a.
      let (x, y) = none_of (names_arguments id || (names_arguments d || false)) (any_names_arguments (is_of_function shape.Listed) 1 ds) (none_of (any_names_arguments (is_of_function shape.Listed) 0 (declarator id d ▸ ds)) false a).0 in
      let (z, w) = none_of (names_arguments id) (names_arguments d || false) x in
      ((none_of (names_arguments d) false w).0, λ q j. ((z j || (q j || false)) || y j) || false);
}

module _ (b : ℕ) where
  abbrev Unnumbered : Asked → Tree → Type 0
  Unnumbered d t = has_number (suc b) t ≡ false

  every_number : (ds : Trees) → any_has_number (suc b) ds ≡ false → Every (λ t. has_number (suc b) t ≡ false) ds
  unfolding has_number
  every_number none a = tt
  every_number (d ▸ ds) a = let (x, y) = none_of (has_number (suc b) d) (any_has_number (suc b) ds) a in (x, every_number ds y)

  number_every : (ds : Trees) → Every (λ t. has_number (suc b) t ≡ false) ds → any_has_number (suc b) ds ≡ false
  unfolding has_number
  number_every none a = refl
  number_every (d ▸ ds) a = λ j. a.0 j || number_every ds a.1 j

  pub numbers_lists : ByLists Unnumbered
  unfolding has_number
  numbers_lists = record {
    parts = by_parts Unnumbered (λ x e f. e) (numbers_properties b) (λ t e. (λ a. a, λ a. a)) (numbers_local b);
    placed = λ t e. (λ a. a, λ a. a);
    loop_down = λ f i ts e a. numbers_below b (frame_asked f) 0 (i ▸ ts) (rest_of (any_has_number (suc b) (i ▸ ts)) a);
    loop_up = λ f i ts e a j. unlike b j || below_numbers b (frame_asked f) 0 (i ▸ ts) a j;
    switched = λ d e cases v u a.
        let (x, y) = none_of (has_number (suc b) d) (has_number (suc b) cases || false) (rest_of (has_number (suc b) d || (has_number (suc b) cases || false)) a) in
        (x, λ q j. unlike b j || (q j || y j));
    Declared = λ t. has_number (suc b) t ≡ false;
    var_down = var_number;
    var_up = number_var;
    head_down = var_number;
    head_up = number_var;
    given = λ x v a c d j. unlike b j || ((unlike b j || false) || (c j || false));
    valued = valued_number;
    target_up = λ x a d j. unlike b j || ((unlike b j || ((unlike b j || ((unlike b j || false) || ((unlike b j || false) || false))) || false)) || false);
    initialised = λ k id d e ds q a.
        let (x, y) = none_of (has_number (suc b) (declarator id d)) (any_has_number (suc b) ds) (rest_of (any_has_number (suc b) (declarator id d ▸ ds)) (none_of (has_number (suc b) (listed (declarator id d ▸ ds))) false (rest_of (has_number (suc b) (listed (declarator id d ▸ ds)) || false) a)).0) in
        let (z, w) = valued_number id d e q x in
        (z, λ q j. unlike b j || ((unlike b j || (w q j || y j)) || false));
  }
    where
      rest_of : (r : Bool) → (nat_eq 0 (suc b) || r) ≡ false → r ≡ false
      rest_of r a = (none_of (nat_eq 0 (suc b)) r a).1

      valued_number : (id d e : Tree) → is_absent d ≡ is_absent e → has_number (suc b) (declarator id d) ≡ false → (has_number (suc b) d ≡ false) × (has_number (suc b) e ≡ false → has_number (suc b) (declarator id e) ≡ false)
      valued_number id d e q a =
          let (x, y) = none_of (has_number (suc b) id) (has_number (suc b) d || false) (rest_of (has_number (suc b) id || (has_number (suc b) d || false)) a) in
          ((none_of (has_number (suc b) d) false y).0, λ q j. unlike b j || (x j || (q j || false)))

      var_number : (ds : Trees) → has_number (suc b) (declaration Var ds) ≡ false → Every (λ t. has_number (suc b) t ≡ false) ds
      var_number ds a = every_number ds (rest_of (any_has_number (suc b) ds) (none_of (has_number (suc b) (listed ds)) false (rest_of (has_number (suc b) (listed ds) || false) a)).0)

      number_var : (ds : Trees) → Every (λ t. has_number (suc b) t ≡ false) ds → has_number (suc b) (declaration Var ds) ≡ false
      number_var ds a = λ j. unlike b j || ((unlike b j || number_every ds a j) || false)
