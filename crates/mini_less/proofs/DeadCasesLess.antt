-- A `switch` over a value that is known shows less with the one case that runs, or with what the
-- cases leave behind of their `var`s.
use Rattle.std.specs.Prelude.{ℕ, suc, ◌≡◌, refl, nat_eq, Bool, true, false, ◌||◌, List, [], ◌∷◌, ◌++◌}
use Rattle.std.proofs.Common.{ap, ◌∙◌, sym, subst, inl, inr}
use Rattle.std.proofs.lemmas.Bool.{and_parts}
use Rattle.std.proofs.lemmas.List.{append-nil}
use Rattle.mini_accept.specs.WellShaped.{an_expression, one_or_absent, each, fill, fits}
use Rattle.mini_model.specs.declared.kind.VariableDeclarationKind.TheVariants.{Var}
use Rattle.mini_model.specs.declared.name.Name.{Name}
use Rattle.mini_model.specs.declared.place.Position.TheVariants.{Stmt}
use Rattle.mini_model.specs.declared.seat.StmtSeat.{StmtSeat}
use Rattle.mini_model.specs.declared.shape.Shape.TheVariants as shape
use Rattle.mini_model.specs.Tree.{Tree, Trees, none, ◌▸◌, listed, shape_of}
use Rattle.mini_laws.specs.declared.names.Declared.TheVariants as declared
use Rattle.mini_laws.specs.declared.names.Use.TheVariants.{Read}
use Rattle.mini_laws.specs.DeclaredNames.{names_of, all_names, with_names}
use Rattle.mini_laws.specs.Foreign.{has_number, any_has_number}
use Rattle.mini_laws.specs.Mentions.{is_among}
use Rattle.mini_laws.specs.Resolved.{Environment}
use Rattle.mini_laws.specs.ScopeList.{by_symbol, has_eval, any_has_eval, is_eval_callee}
use Rattle.mini_laws.specs.Scopes.{opened, scopes_by, lexical_scope}
use Rattle.mini_laws.specs.Shared.{names_arguments}
use Rattle.mini_shrink.specs.Pace.{Silent, followed, ends_after, Setting, below, pace}
use Rattle.mini_shrink.specs.Questions.{Own, asks, early, finds, finds_each, any_of}
use Rattle.mini_kept.proofs.Rows.{statement}
use Rattle.mini_rows.specs.Cases.{switch_case}
use Rattle.mini_rows.specs.DeadCases.{Choices, no_choices, choice, cases_of, before_others, left_cases, switch_over, DeadCaseRow}
use Rattle.mini_rows.specs.Lists.{switch, is_unscoped, left_behind, declared_bare}
use Rattle.mini_rows.specs.Sketches.{AList, If, Asked, AsWhole, AsValue, AsWholeItem, AsItems, AsItem}
use Rattle.mini_rows.proofs.Arranging.{All, Any, all_of, of_all}
use Rattle.mini_rows.proofs.ArrangedValues.{is_value}
use Rattle.mini_rows.proofs.BranchLawful.{AllFit, all_quiet, over_fits, as_statement}
use Rattle.mini_rows.proofs.DeadCaseKept.{CasesKept, lexical_cases, left_case, taken_kept, none_kept}
use Rattle.mini_rows.proofs.DeadCaseParts.{AllQ, EachQ, Parted, cases_down, cases_up}
use Rattle.mini_rows.proofs.ListKeptDeclarations.{names_if, names_are}
use Rattle.mini_rows.proofs.ListKeptUnreached.{var, left_gives}
use Rattle.mini_less.specs.Families.{LessAt}
use Rattle.mini_less.specs.TellsLists.{Names, TellsLists}
use Rattle.mini_less.proofs.ByLists.{value_lexical}
use Rattle.mini_less.proofs.Finding.{Lacks, lacks_below, below_lacks, setting, setting_below}
use Rattle.mini_less.proofs.Flags.{none_of, unlike}
use Rattle.mini_less.proofs.HoistedNames.{NoArguments, hoisted_sparing}
use Rattle.mini_less.proofs.ListLeft.{left_lacks, left_calm, evals_left, arguments_left, numbers_left}
use Rattle.mini_less.proofs.ListMade.{to_none, evals_tell, numbers_tell}
use Rattle.mini_less.proofs.Made.{ByParts, Spared, spared_by_parts, FactProperties, unscoped_less, lacks_parts, calm_parts, names_parts, numbers_parts}
use Rattle.mini_less.proofs.Nodes.{value_of}
use Rattle.mini_less.proofs.OneCaseLess.{of_silent, first_calm, alone_reads, switch_number}
use Rattle.mini_less.proofs.Plainly.{is_reads, split, join, Calmly, calm_below, below_calm, standing, standing_below}
use Rattle.mini_less.proofs.SwitchTold.{SwitchTold, switch_told}

-- what passes between a `switch` in which nothing is scoped and its cases
pub record ByCases (Q : Asked → Tree → Type 0) : Type 1 where
  pub parts : ByParts Q
  -- below a `switch` all parts stand alike
  pub value : (t : Tree) → (Q AsValue t → Q AsItem t) × (Q AsItem t → Q AsValue t)
  pub items : (t : Tree) → (Q AsItems t → Q AsItem t) × (Q AsItem t → Q AsItems t)
  pub case_down : (t : Tree) (ss : Trees) → Q AsItem (switch_case t ss) → Q AsItem t × Q AsItem (listed ss)
  pub case_up : (t : Tree) (ss : Trees) → Q AsItem t → Q AsItem (listed ss) → Q AsItem (switch_case t ss)
  pub over_down : (d cases : Tree) → is_value (shape_of d) ≡ true → names_of declared.Lexical cases ≡ [] → Q AsWhole (switch d cases) → Q AsValue d × Q AsItem cases
  pub over_up : (d cases : Tree) → is_value (shape_of d) ≡ true → names_of declared.Lexical cases ≡ [] → Q AsValue d → Q AsItem cases → Q AsWhole (switch d cases)
  -- cases that are made of others
  pub onward : (strict : Bool) (cs ds : Choices) → CasesKept cs ds → AllFit strict cs → EachQ (Q AsItem) cs → EachQ (Q AsItem) ds

to_each : (Q : Asked → Tree → Type 0) (c : Asked) (ts : Trees) → All Q c ts → AllQ (Q c) ts
to_each Q c none a = tt
to_each Q c (t ▸ ts) a = (a.0, to_each Q c ts a.1)

of_each : (Q : Asked → Tree → Type 0) (c : Asked) (ts : Trees) → AllQ (Q c) ts → All Q c ts
of_each Q c none a = tt
of_each Q c (t ▸ ts) a = (a.0, of_each Q c ts a.1)

parted : (Q : Asked → Tree → Type 0) → ByCases Q → Parted (Q AsItem)
parted Q l = record {
  list_down = λ ts q. to_each Q AsItem ts (all_of Any Q AsItem 0 ts (l.parts.down AList refl AsItems ts tt ((l.items (listed ts)).1 q)));
  list_up = λ ts a. (l.items (listed ts)).0 (l.parts.up AList refl AsItems ts tt (of_all Any Q AsItem 0 ts (of_each Q AsItem ts a)));
  case_down = l.case_down;
  case_up = l.case_up;
}

-- a scope without names adds nothing
no_scope : (xs : List Name) → xs ≡ [] → (env : Environment) → env ++ lexical_scope xs ≡ env
unfolding with_names
no_scope xs e env = ap (λ ys. env ++ lexical_scope ys) e ∙ append-nil env

-- ---- what is found

module _ (o : Own) (t : TellsLists o) (told : SwitchTold (asks o)) (c : Setting) (env : Environment) where
  abbrev Q : Asked → Tree → Type 0
  Q = Lacks o t.plainly c env

  abbrev at : Asked → Setting
  at = setting o t.plainly c env

  case_below : (j : ℕ) → below false (at AsItem) shape.SwitchCase 0 j ≡ at AsItem
  case_below j = setting_below o t.plainly c env If AsItem 0

  case_lacks : (test : Tree) (ss : Trees) → Q AsItem (switch_case test ss) → Q AsItem test × Q AsItem (listed ss)
  unfolding finds scopes_by
  case_lacks test ss a =
      let parts = test ▸ listed ss ▸ none in
      let scope = opened (at AsItem).used shape.SwitchCase parts in
      let b = lacks_below o t.plainly c env (λ j. AsItem) scope (λ j. refl) (below false (at AsItem) shape.SwitchCase 0) case_below 0 env refl parts
      (none_of (o (at AsItem) env shape.SwitchCase [] 0 parts) (any_of (finds_each o scope (below false (at AsItem) shape.SwitchCase 0) 0 env parts)) a).1 in
      (b.0, b.1.0)

  lacks_case : (test : Tree) (ss : Trees) → Q AsItem test → Q AsItem (listed ss) → Q AsItem (switch_case test ss)
  unfolding finds scopes_by
  lacks_case test ss x y =
      let parts = test ▸ listed ss ▸ none in
      let scope = opened (at AsItem).used shape.SwitchCase parts in
      let own = of_silent (o (at AsItem) env shape.SwitchCase [] 0 parts) (told.case (at AsItem) env parts) in
      λ j. own j || below_lacks o t.plainly c env (λ j. AsItem) scope (λ j. refl) (below false (at AsItem) shape.SwitchCase 0) case_below 0 env refl parts (x, (y, tt)) j

  over_lacks : (d cases : Tree) → is_value (shape_of d) ≡ true → names_of declared.Lexical cases ≡ [] → Q AsWhole (switch d cases) → Q AsValue d × Q AsItem cases
  unfolding finds scopes_by
  over_lacks d cases v e a =
      let k = at AsWhole in
      let first = below false k shape.SwitchStatement 0 0 in
      let second = below false k shape.SwitchStatement 0 1 in
      let later : Environment = (env ++ []) ++ lexical_scope (names_of declared.Lexical cases) in
      let (x, y) = none_of (o k env shape.SwitchStatement [] 0 (d ▸ cases ▸ none)) (finds o first (env ++ []) d || (finds o second later cases || false)) a in
      let (z, w) = none_of (finds o first (env ++ []) d) (finds o second later cases || false) y in
      let list = (none_of (finds o second later cases) false w).0 in
      let there : first ≡ at AsValue = setting_below o t.plainly c env If AsWhole 0 in
      let same : later ≡ env = no_scope (names_of declared.Lexical cases) e (env ++ []) ∙ append-nil env in (
        subst (λ s. finds o s env d ≡ false) there (subst (λ r. finds o first r d ≡ false) (append-nil env) z),
        subst (λ s. finds o s env cases ≡ false) there (subst (λ r. finds o second r cases ≡ false) same list),
      )

  lacks_over : (d cases : Tree) → is_value (shape_of d) ≡ true → names_of declared.Lexical cases ≡ [] → Q AsValue d → Q AsItem cases → Q AsWhole (switch d cases)
  unfolding finds scopes_by
  lacks_over d cases v e x y =
      let k = at AsWhole in
      let first = below false k shape.SwitchStatement 0 0 in
      let second = below false k shape.SwitchStatement 0 1 in
      let later : Environment = (env ++ []) ++ lexical_scope (names_of declared.Lexical cases) in
      let there : first ≡ at AsValue = setting_below o t.plainly c env If AsWhole 0 in
      let same : later ≡ env = no_scope (names_of declared.Lexical cases) e (env ++ []) ∙ append-nil env in
      let own = of_silent (o k env shape.SwitchStatement [] 0 (d ▸ cases ▸ none)) (told.loose k env d cases (value_lexical d v) e) in
      let value : finds o first (env ++ []) d ≡ false = subst (λ r. finds o first r d ≡ false) (sym (append-nil env)) (subst (λ s. finds o s env d ≡ false) (sym there) x) in
      let list : finds o second later cases ≡ false = subst (λ r. finds o second r cases ≡ false) (sym same) (subst (λ s. finds o s env cases ≡ false) (sym there) y) in
      λ j. own j || (value j || (list j || false))

  cases_lacks : ByCases Q
  cases_lacks = record {
    parts = lacks_parts o t.plainly c env;
    value = λ u. (λ a. a, λ a. a);
    items = λ u. (λ a. a, λ a. a);
    case_down = case_lacks;
    case_up = lacks_case;
    over_down = over_lacks;
    over_up = lacks_over;
    onward = λ strict cs ds k f a. k.forward (Q AsItem) (λ u y. to_each Q AsItem (left_behind u) (as_item (left_behind u) (left_lacks o t (record c { used = Read; is_body = false }) env refl u y))) a;
  }
    where
      as_item : (ts : Trees) → All (Lacks o t.plainly (record c { used = Read; is_body = false }) env) AsWholeItem ts → All Q AsItem ts
      as_item none a = tt
      as_item (u ▸ ts) a = (a.0, as_item ts a.1)

-- ---- the order of reads

module _ (m s : ℕ) (told : SwitchTold (early m s)) (c : Setting) (env : Environment) where
  abbrev C : Asked → Tree → Type 0
  C = Calmly m s c env

  abbrev stood : Asked → Setting
  stood = standing m s c env

  below_case : (j : ℕ) → below false (stood AsItem) shape.SwitchCase 0 j ≡ stood AsItem
  below_case j = standing_below m s c env If AsItem false refl 0

  case_calm : (test : Tree) (ss : Trees) → C AsItem (switch_case test ss) → C AsItem test × C AsItem (listed ss)
  unfolding pace scopes_by
  case_calm test ss a =
      let parts = test ▸ listed ss ▸ none in
      let b = calm_below m s c env (λ j. AsItem) (opened (stood AsItem).used shape.SwitchCase parts) (λ j. refl) (below false (stood AsItem) shape.SwitchCase 0) below_case 0 env refl parts a in
      (b.0, b.1.0)

  calm_case : (test : Tree) (ss : Trees) → C AsItem test → C AsItem (listed ss) → C AsItem (switch_case test ss)
  unfolding pace scopes_by
  calm_case test ss x y =
      let parts = test ▸ listed ss ▸ none in
      below_calm m s c env (λ j. AsItem) (opened (stood AsItem).used shape.SwitchCase parts) (λ j. refl) (below false (stood AsItem) shape.SwitchCase 0) below_case 0 env refl parts (x, (y, tt))

  -- where no name is declared in the cases nothing ends there
  over_says : (d cases : Tree) → is_value (shape_of d) ≡ true → names_of declared.Lexical cases ≡ [] → pace (early m s) (stood AsWhole) env (switch d cases) ≡ followed (ends_after false (pace (early m s) (stood AsValue) env d)) (followed (ends_after false (pace (early m s) (stood AsItem) env cases)) Silent)
  unfolding pace scopes_by
  over_says d cases v e =
      let q = early m s in
      let order : is_among (by_symbol s) (names_of declared.Lexical cases) ≡ false = ap (is_among (by_symbol s)) e in
      let around : (env ++ []) ++ lexical_scope (names_of declared.Lexical cases) ≡ env = no_scope (names_of declared.Lexical cases) e (env ++ []) ∙ append-nil env in
      (λ j. followed (ends_after (q.ends (below (order j) (stood AsWhole) shape.SwitchStatement 0 0) d) (pace q (below (order j) (stood AsWhole) shape.SwitchStatement 0 0) (append-nil env j) d))
      (followed (ends_after (q.ends (below (order j) (stood AsWhole) shape.SwitchStatement 0 1) cases) (pace q (below (order j) (stood AsWhole) shape.SwitchStatement 0 1) (around j) cases)) Silent))
      ∙ (λ j. followed (ends_after false (pace q (standing_below m s c env If AsWhole false refl 0 j) env d)) (followed (ends_after false (pace q (standing_below m s c env If AsWhole false refl 0 j) env cases)) Silent))

  cases_calm : ByCases C
  cases_calm = record {
    parts = calm_parts m s c env;
    value = λ u. (λ a. a, λ a. a);
    items = λ u. (λ a. a, λ a. a);
    case_down = case_calm;
    case_up = calm_case;
    over_down = λ d cases v e a.
        let (x, y) = split (pace (early m s) (stood AsValue) env d) (followed (ends_after false (pace (early m s) (stood AsItem) env cases)) Silent) (sym (ap is_reads (over_says d cases v e)) ∙ a) in
        (x, first_calm false (pace (early m s) (stood AsItem) env cases) Silent y);
    over_up = λ d cases v e x y.
        ap is_reads (over_says d cases v e) ∙ join (pace (early m s) (stood AsValue) env d) (followed (ends_after false (pace (early m s) (stood AsItem) env cases)) Silent) x (alone_reads false (pace (early m s) (stood AsItem) env cases) ∙ y);
    onward = λ strict cs ds k f a. k.forward (C AsItem) (λ u y. to_each C AsItem (left_behind u) (as_item (left_behind u) (left_calm m s (record c { used = Read; is_body = false }) env refl u))) a;
  }
    where
      as_item : (ts : Trees) → All (Calmly m s (record c { used = Read; is_body = false }) env) AsWholeItem ts → All C AsItem ts
      as_item none a = tt
      as_item (u ▸ ts) a = (a.0, as_item ts a.1)

-- ---- what a tree tells besides names

cases_spared : ByCases Spared
unfolding has_eval
cases_spared = record {
  parts = spared_by_parts;
  value = λ u. (λ a. a, λ a. a);
  items = λ u. (λ a. a, λ a. a);
  case_down = λ t ss a. let (x, y) = none_of (has_eval t) (has_eval (listed ss) || false) a in (x, (none_of (has_eval (listed ss)) false y).0);
  case_up = λ t ss x y j. x j || (y j || false);
  over_down = λ d cases v e a. let (x, y) = none_of (has_eval d) (has_eval cases || false) a in (x, (none_of (has_eval cases) false y).0);
  over_up = λ d cases v e x y j. x j || (y j || false);
  onward = λ strict cs ds k f a. k.forward (λ t. has_eval t ≡ false) (λ u y. to_each (λ c t. has_eval t ≡ false) AsWholeItem (left_behind u) (to_none has_eval any_has_eval evals_tell (left_behind u) (evals_left (names_of declared.Hoisted u)))) a;
}

cases_numbers : (b : ℕ) → ByCases (λ c t. has_number (suc b) t ≡ false)
unfolding has_number
cases_numbers b = record {
  parts = numbers_parts b;
  value = λ u. (λ a. a, λ a. a);
  items = λ u. (λ a. a, λ a. a);
  case_down = λ t ss a. two_parts t (listed ss) a;
  case_up = λ t ss x y j. unlike b j || (x j || (y j || false));
  over_down = λ d cases v e a. two_parts d cases a;
  over_up = λ d cases v e x y j. unlike b j || (x j || (y j || false));
  onward = λ strict cs ds k f a. k.forward (λ t. has_number (suc b) t ≡ false) (λ u y. to_each (λ c t. has_number (suc b) t ≡ false) AsWholeItem (left_behind u) (to_none (has_number (suc b)) (any_has_number (suc b)) (numbers_tell (suc b)) (left_behind u) (numbers_left b (names_of declared.Hoisted u)))) a;
}
  where
    two_parts : (t u : Tree) → (nat_eq 0 (suc b) || (has_number (suc b) t || (has_number (suc b) u || false))) ≡ false → (has_number (suc b) t ≡ false) × (has_number (suc b) u ≡ false)
    two_parts t u a =
        let (x, y) = none_of (has_number (suc b) t) (has_number (suc b) u || false) (none_of (nat_eq 0 (suc b)) (has_number (suc b) t || (has_number (suc b) u || false)) a).1 in
        (x, (none_of (has_number (suc b) u) false y).0)

-- a tree names no `arguments`, and hoists no such name
abbrev Sparing : Tree → Type 0
Sparing t = (names_arguments t ≡ false) × Names NoArguments (names_of declared.Hoisted t)

-- `var x, y;` hoists its names
var_hoists : (x : Name) (xs : List Name) → names_of declared.Hoisted (var (x ∷ xs)) ≡ x ∷ xs
var_hoists x xs = sym (append-nil (names_of declared.Hoisted (var (x ∷ xs)))) ∙ left_gives (names_of declared.Hoisted) (names_if true) refl (names_are declared.Hoisted Var) (x ∷ xs)

left_sparing : (xs : List Name) → Names NoArguments xs → AllQ Sparing (declared_bare xs)
left_sparing [] a = tt
left_sparing (x ∷ xs) a = (((none_of (names_arguments (var (x ∷ xs))) false (arguments_left (x ∷ xs) a)).0, subst (Names NoArguments) (sym (var_hoists x xs)) a), tt)

sparing_statements : (strict : Bool) (ss : Trees) → fill strict (each statement) ss ≡ true → AllQ (λ t. names_arguments t ≡ false) ss → AllQ Sparing ss
sparing_statements strict none f a = tt
sparing_statements strict (t ▸ ss) f a =
    let (first, rest) = and_parts (fits strict statement t) (fill strict (each statement) ss) f in
    ((a.0, hoisted_sparing strict statement t first a.0), sparing_statements strict ss rest a.1)

sparing_cases : (strict : Bool) (cs : Choices) → AllFit strict cs → EachQ (λ t. names_arguments t ≡ false) cs → EachQ Sparing cs
sparing_cases strict no_choices f a = tt
sparing_cases strict (choice t ss cs) f a = (((a.0.0, hoisted_sparing strict (one_or_absent an_expression) t f.0.0 a.0.0), sparing_statements strict ss f.0.1 a.0.1), sparing_cases strict cs f.1 a.1)

spared_statements : (ss : Trees) → AllQ Sparing ss → AllQ (λ t. names_arguments t ≡ false) ss
spared_statements none a = tt
spared_statements (t ▸ ss) a = (a.0.0, spared_statements ss a.1)

spared_cases : (cs : Choices) → EachQ Sparing cs → EachQ (λ t. names_arguments t ≡ false) cs
spared_cases no_choices a = tt
spared_cases (choice t ss cs) a = ((a.0.0.0, spared_statements ss a.0.1), spared_cases cs a.1)

cases_names : ByCases (λ c t. names_arguments t ≡ false)
unfolding names_arguments
cases_names = record {
  parts = names_parts;
  value = λ u. (λ a. a, λ a. a);
  items = λ u. (λ a. a, λ a. a);
  case_down = λ t ss a. let (x, y) = none_of (names_arguments t) (names_arguments (listed ss) || false) a in (x, (none_of (names_arguments (listed ss)) false y).0);
  case_up = λ t ss x y j. x j || (y j || false);
  over_down = λ d cases v e a. let (x, y) = none_of (names_arguments d) (names_arguments cases || false) a in (x, (none_of (names_arguments cases) false y).0);
  over_up = λ d cases v e x y j. x j || (y j || false);
  onward = λ strict cs ds k f a. spared_cases ds (k.forward Sparing (λ u y. left_sparing (names_of declared.Hoisted u) y.1) (sparing_cases strict cs f a));
}

cases_properties : FactProperties SwitchTold ByCases
cases_properties = record {
  told = switch_told;
  lacks = λ o t told c env. cases_lacks o t told c env;
  calm = λ m s told c env. cases_calm m s told c env;
  spared = cases_spared;
  names = cases_names;
  numbers = cases_numbers;
}

-- ---- 81

list_names : (cs : Choices) → all_names declared.Lexical (cases_of cs) ≡ [] → names_of declared.Lexical (listed (cases_of cs)) ≡ []
unfolding names_of
list_names cs e = e

-- a `switch` gets other cases, which are made of those that are there
cases_less : (q : StmtSeat) (n w d : Tree) (cs ds : Choices) → n ≡ switch_over d cs → w ≡ switch_over d ds → CasesKept cs ds → LessAt (Stmt q) n w
cases_less q n w d cs ds e f k =
    unscoped_less SwitchTold ByCases cases_properties q n w (ap is_unscoped e) (ap is_unscoped f) (ap (has_number 0) e ∙ switch_number d (listed (cases_of cs))) (ap is_eval_callee f) (λ strict x fit Q l a.
    let (over, all) = over_fits strict d cs (as_statement strict x (switch_over d cs) refl refl (subst (λ m. fits strict x m ≡ true) e fit)) in
    let quiet = all_quiet strict cs all in
    let value = value_of strict d over in
    let (first, cases) = l.over_down d (listed (cases_of cs)) value (list_names cs (lexical_cases cs quiet k.loose)) (subst (Q AsWhole) e a) in
    let later = l.onward strict cs ds k all (cases_down (Q AsItem) (parted Q l) cs cases) in
    subst (Q AsWhole) (sym f) (l.over_up d (listed (cases_of ds)) value (list_names ds (lexical_cases ds (k.quiet_later quiet) k.loose_later)) first (cases_up (Q AsItem) (parted Q l) ds later)))

pub row_81 : (q : StmtSeat) (n w : Tree) → DeadCaseRow n w → LessAt (Stmt q) n w
row_81 q n w (inl r) =
    let cs = choice r.test r.statements r.after in
    cases_less q n w r.discriminant (before_others r.before cs) (left_case r.before r.test r.statements r.after) r.shape r.written (taken_kept r.before r.test r.statements r.after r.loose r.dropped r.rest_dropped)
row_81 q n w (inr r) =
    let cs = choice r.test r.statements r.after in
    cases_less q n w r.discriminant cs (choice r.test (left_cases cs) no_choices) r.shape r.written (none_kept r.test r.statements r.after r.loose r.dropped)
