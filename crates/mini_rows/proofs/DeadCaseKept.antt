-- What is written for a `switch` over a value that is written out keeps what it has to keep of its parts.
use Rattle.std.specs.Prelude.{ℕ, zero, suc, ◌+◌, ◌≤◌, ◌≡◌, ◌⊎◌, refl, ◌&&◌, ◌||◌, not, Bool, true, false, List, [], ◌∷◌, ◌++◌, Option, None, if◌then◌else◌}
use Rattle.std.proofs.Math.Nat.{eq-or-lt_of_le}
use Rattle.std.proofs.Common.{◌<◌, ap, ◌∙◌, sym, subst, arith, inl, inr, true≢false}
use Rattle.std.proofs.lemmas.Bool.{and_parts}
use Rattle.std.proofs.lemmas.List.{append-nil}
use Rattle.mini_model.specs.declared.kind.VariableDeclarationKind.TheVariants.{Var}
use Rattle.mini_model.specs.declared.name.Name.{Name}
use Rattle.mini_model.specs.declared.name.SymbolId.{SymbolId}
use Rattle.mini_model.specs.declared.shape.Shape.{Shape}
use Rattle.mini_model.specs.declared.shape.Shape.TheVariants as shape
use Rattle.mini_model.specs.Tree.{Tree, Trees, node, none, ◌▸◌, listed}
use Rattle.mini_laws.specs.declared.names.Use.{Use}
use Rattle.mini_laws.specs.declared.names.Use.TheVariants.{Read}
use Rattle.mini_laws.specs.declared.names.Declared.{Declared}
use Rattle.mini_laws.specs.declared.names.Declared.TheVariants as declared
use Rattle.mini_laws.specs.declared.names.Place.{Place}
use Rattle.mini_laws.specs.declared.names.Place.TheVariants as place
use Rattle.mini_laws.specs.declared.names.Targets.{Targets}
use Rattle.mini_laws.specs.DeclaredNames.{hoisted_place, names_by, names_of, first_names, all_names, body_names, with_names}
use Rattle.mini_laws.specs.Scopes.{use_of, opened, scopes_by, lexical_scope}
use Rattle.mini_laws.specs.Resolved.{Environment}
use Rattle.mini_laws.specs.Scoped.{Scoped}
use Rattle.mini_laws.specs.Symbols.{declared as declared_in, times}
use Rattle.mini_laws.specs.Early.{Path, in_body, scope_declarations, clashing, early_names, all_early_names, holds_statements, own_declarations, targets_of, early_jumps}
use Rattle.mini_laws.specs.Value.{Variable}
use Rattle.mini_laws.specs.State.{Writable}
use Rattle.mini_laws.specs.Fixity.{fixed_by}
use Rattle.mini_laws.specs.Bodies.{Around, Body, bodies}
use Rattle.mini_kept.specs.AlikeBodies.{BodiesKept}
use Rattle.mini_kept.specs.Carried.{numbers}
use Rattle.mini_kept.specs.Declaring.{declared as declared_names}
use Rattle.mini_kept.specs.Frames.{Frame, frames, FramesKept}
use Rattle.mini_kept.specs.KeepsNames.{count_of}
use Rattle.mini_kept.specs.Loosely.{symbol_for, LessOften}
use Rattle.mini_kept.proofs.Anywhere.{targets_anywhere}
use Rattle.mini_kept.proofs.Below.{empty_both, both_empty}
use Rattle.mini_kept.proofs.BodyLists.{kept_itself}
use Rattle.mini_kept.proofs.Fixed.{of_children}
use Rattle.mini_kept.proofs.Quiet.{is_quiet, IsQuiet, no_names}
use Rattle.mini_kept.proofs.Unplaced.{as_statement, as_body, all_as_body, body_same, free_same}
use Rattle.mini_rows.specs.DeadCases.{Choices, no_choices, choice, cases_of, before_others, are_loose, hoists_nothing, hoist_nothing, left_all, left_cases, cases_go, running, rest_goes}
use Rattle.mini_rows.specs.Lists.{switch, is_var_shape, is_unscoped_shape, is_unscoped, are_unscoped, encloses, declared_bare, left_behind}
use Rattle.mini_rows.specs.Loops.{is_body_shape}
use Rattle.mini_rows.specs.Sketches.{Asked, AsValue}
use Rattle.mini_rows.proofs.Arranging.{Below, sum_below}
use Rattle.mini_rows.proofs.ArrangedNames.{ScopedAs, scoped_below, below_scoped, symbol_times, symbols_below, number_times, numbers_below, Once, once_below, below_once, Aimed, aimed_below, below_aimed}
use Rattle.mini_rows.proofs.ArrangedBodies.{HasBodies, bodies_below, below_bodies, HasFrames, frames_below, below_frames, Declares, declares_below, below_declares, rank, by_rank, FixedBy, fixed_below, below_fixed}
use Rattle.mini_rows.proofs.BranchAround.{LooseCore}
use Rattle.mini_rows.proofs.BranchInside.{quiet}
use Rattle.mini_rows.proofs.CaseKept.{no_lexicals}
use Rattle.mini_rows.proofs.DeadCaseMeaning.{left_loose, later_loose}
use Rattle.mini_rows.proofs.ArrangedGather.{concat}
use Rattle.mini_rows.proofs.DeadCaseParts.{AllQ, EachQ, Parted, cases_down, cases_up, append_all, second_all, left_each, run_all, earlier_each, later_each, case_goes, none_each, runs_less, gone_all, gone_each, run_back, before_back, each_two, each_apply, each_given, sum, each_sum, Summing, cases_sum, append_sum, left_sum, left_each_sum, run_sum, before_sum, all_of, each_of, append_of, left_each_of, run_of, before_of}
use Rattle.mini_rows.proofs.ListKeptDeclarations.{names_if, names_are, declarations_are}
use Rattle.mini_rows.proofs.ListKeptUnreached.{var, var_fixed, var_declares, var_frames, var_bodies, var_once, var_targets, var_numbers, var_symbols, var_scoped, left_gives, loose}
use Rattle.mini_rows.proofs.Enclosing.{Declares as Encloses, enclosed}
use Rattle.mini_rows.proofs.UnreachedNames.{hoisted_there}
use Rattle.mini_kept.proofs.Hoisting.{hoisted_scoped}
use Rattle.mini_model.specs.Paths.{append}

-- ---- what holds of a list and of a case, and of the `switch` round them

module _ (P : Asked → Tree → Type 0) where
  of_below : (i : ℕ) (ts : Trees) → Below P (λ j. AsValue) i ts → AllQ (P AsValue) ts
  of_below i none a = tt
  of_below i (t ▸ ts) a = (a.0, of_below (suc i) ts a.1)

  to_below : (i : ℕ) (ts : Trees) → AllQ (P AsValue) ts → Below P (λ j. AsValue) i ts
  to_below i none a = tt
  to_below i (t ▸ ts) a = (a.0, to_below (suc i) ts a.1)

abbrev value : ℕ → Asked
value j = AsValue

read_scope : (env : Environment) → Parted (ScopedAs Read env AsValue)
unfolding Scoped scopes_by
read_scope env = record {
  list_down = λ ts q. of_below (ScopedAs Read env) 0 ts (scoped_below Read env value (opened Read shape.Listed ts) (λ j. refl) (use_of shape.Listed Read) (λ j. refl) 0 env refl ts q.1);
  list_up = λ ts a. (tt, below_scoped Read env value (opened Read shape.Listed ts) (λ j. refl) (use_of shape.Listed Read) (λ j. refl) 0 env refl ts (to_below (ScopedAs Read env) 0 ts a));
  case_down = λ t ss q. let a = scoped_below Read env value (opened Read shape.SwitchCase (t ▸ (listed ss ▸ none))) (λ j. refl) (use_of shape.SwitchCase Read) (λ j. refl) 0 env refl (t ▸ (listed ss ▸ none)) q.1 in (a.0, a.1.0);
  case_up = λ t ss x y. (tt, below_scoped Read env value (opened Read shape.SwitchCase (t ▸ (listed ss ▸ none))) (λ j. refl) (use_of shape.SwitchCase Read) (λ j. refl) 0 env refl (t ▸ (listed ss ▸ none)) (x, (y, tt)));
}

once_parted : Parted (Once AsValue)
unfolding early_names scope_declarations
once_parted = record {
  list_down = λ ts q. of_below Once 0 ts (once_below value [] 0 ts q);
  list_up = λ ts a. below_once value [] 0 ts (to_below Once 0 ts a);
  case_down = λ t ss q. let a = once_below value [] 0 (t ▸ (listed ss ▸ none)) q in (a.0, a.1.0);
  case_up = λ t ss x y. below_once value [] 0 (t ▸ (listed ss ▸ none)) (x, (y, tt));
}

aimed_parted : (g : Targets) → Parted (Aimed g AsValue)
unfolding early_jumps targets_of
aimed_parted g = record {
  list_down = λ ts q. of_below (Aimed g) 0 ts (aimed_below g value (targets_of shape.Listed ts g) (λ j. refl) [] 0 ts q);
  list_up = λ ts a. below_aimed g value (targets_of shape.Listed ts g) (λ j. refl) [] 0 ts (to_below (Aimed g) 0 ts a);
  case_down = λ t ss q. let a = aimed_below g value (targets_of shape.SwitchCase (t ▸ (listed ss ▸ none)) g) (λ j. refl) [] 0 (t ▸ (listed ss ▸ none)) q in (a.0, a.1.0);
  case_up = λ t ss x y. below_aimed g value (targets_of shape.SwitchCase (t ▸ (listed ss ▸ none)) g) (λ j. refl) [] 0 (t ▸ (listed ss ▸ none)) (x, (y, tt));
}

bodies_parted : (all : List Body) (a : Around) → Parted (HasBodies all a AsValue)
bodies_parted all a = record {
  list_down = λ ts q. of_below (HasBodies all a) 0 ts (bodies_below all a value (λ j. quiet a) (λ j. refl) 0 ts q);
  list_up = λ ts k. below_bodies all a value (λ j. quiet a) (λ j. refl) 0 ts (to_below (HasBodies all a) 0 ts k);
  case_down = λ t ss q. let b = bodies_below all a value (λ j. quiet a) (λ j. refl) 0 (t ▸ (listed ss ▸ none)) q in (b.0, b.1.0);
  case_up = λ t ss x y. below_bodies all a value (λ j. quiet a) (λ j. refl) 0 (t ▸ (listed ss ▸ none)) (x, (y, tt));
}

frames_parted : (all : List Frame) → Parted (HasFrames all AsValue)
frames_parted all = record {
  list_down = λ ts q. of_below (HasFrames all) 0 ts (frames_below all value (λ j. None) (λ j. refl) 0 ts q);
  list_up = λ ts k. below_frames all value (λ j. None) (λ j. refl) 0 ts (to_below (HasFrames all) 0 ts k);
  case_down = λ t ss q. let b = frames_below all value (λ j. None) (λ j. refl) 0 (t ▸ (listed ss ▸ none)) q in (b.0, b.1.0);
  case_up = λ t ss x y. below_frames all value (λ j. None) (λ j. refl) 0 (t ▸ (listed ss ▸ none)) (x, (y, tt));
}

declares_parted : (all : List Name) → Parted (Declares all AsValue)
declares_parted all = record {
  list_down = λ ts q. of_below (Declares all) 0 ts (declares_below all value 0 ts q);
  list_up = λ ts k. below_declares all value 0 ts (to_below (Declares all) 0 ts k);
  case_down = λ t ss q. let b = declares_below all value 0 (t ▸ (listed ss ▸ none)) q in (b.0, b.1.0);
  case_up = λ t ss x y. below_declares all value 0 (t ▸ (listed ss ▸ none)) (x, (y, tt));
}

fixed_parted : (x : Variable) (k : ℕ) → Parted (FixedBy x k AsValue)
fixed_parted x k = record {
  list_down = λ ts q. of_below (FixedBy x k) 0 ts (fixed_below x k value 0 ts (subst (λ f. rank f ≤ k) (of_children shape.Listed [] 0 ts x refl) q));
  list_up = λ ts a. subst (λ f. rank f ≤ k) (sym (of_children shape.Listed [] 0 ts x refl)) (below_fixed x k value 0 ts (to_below (FixedBy x k) 0 ts a));
  case_down = λ t ss q. let b = fixed_below x k value 0 (t ▸ (listed ss ▸ none)) (subst (λ f. rank f ≤ k) (of_children shape.SwitchCase [] 0 (t ▸ (listed ss ▸ none)) x refl) q) in (b.0, b.1.0);
  case_up = λ t ss c d. subst (λ f. rank f ≤ k) (sym (of_children shape.SwitchCase [] 0 (t ▸ (listed ss ▸ none)) x refl)) (below_fixed x k value 0 (t ▸ (listed ss ▸ none)) (c, (d, tt)));
}

-- ---- sums

module _ (m : Asked → Tree → ℕ) where
  sum_of : (i : ℕ) (ts : Trees) → sum_below m value i ts ≡ sum (m AsValue) ts
  sum_of i none = refl
  sum_of i (t ▸ ts) = ap (λ n. m AsValue t + n) (sum_of (suc i) ts)

numbers_summing : (k : ℕ) → Summing (number_times k AsValue)
unfolding numbers
numbers_summing k = record {
  list = λ ts. numbers_below k value 0 ts ∙ sum_of (number_times k) 0 ts;
  case = λ t ss. let all = numbers_below k value 0 (t ▸ (listed ss ▸ none)) in omega (arith, all);
}

symbols_summing : (x : Option SymbolId) → Summing (symbol_times Read x AsValue)
unfolding declared_in scopes_by
symbols_summing x = record {
  list = λ ts. symbols_below Read x value (opened Read shape.Listed ts) (λ j. refl) (use_of shape.Listed Read) (λ j. refl) 0 ts ∙ sum_of (symbol_times Read x) 0 ts;
  case = λ t ss. let all = symbols_below Read x value (opened Read shape.SwitchCase (t ▸ (listed ss ▸ none))) (λ j. refl) (use_of shape.SwitchCase Read) (λ j. refl) 0 (t ▸ (listed ss ▸ none)) in omega (arith, all);
}

-- ---- names that are hoisted, and what is declared

hoisted_is : (h : Shape) → is_var_shape h ≡ false → (hoisted_place h ≡ place.Below) ⊎ (hoisted_place h ≡ place.Nowhere)
hoisted_is (shape.VariableDeclaration Var) e = absurd (true≢false e)
hoisted_is shape.Listed e = inl refl
hoisted_is shape.BlockStatement e = inl refl
hoisted_is shape.IfStatement e = inl refl
hoisted_is shape.WhileStatement e = inl refl
hoisted_is shape.DoWhileStatement e = inl refl
hoisted_is shape.ForStatement e = inl refl
hoisted_is shape.ForInStatement e = inl refl
hoisted_is shape.ForOfStatement e = inl refl
hoisted_is shape.LabeledStatement e = inl refl
hoisted_is shape.SwitchStatement e = inl refl
hoisted_is shape.SwitchCase e = inl refl
hoisted_is shape.TryStatement e = inl refl
hoisted_is shape.CatchClause e = inl refl
hoisted_is shape.FunctionBody e = inl refl
hoisted_is shape.ExportNamedDeclaration e = inl refl
hoisted_is h e = inr refl

body_hoists : (h : Shape) → is_body_shape h ≡ true → hoisted_place h ≡ place.Nowhere
body_hoists (shape.Function d g ds) e = refl
body_hoists (shape.ArrowFunctionExpression ds) e = refl
body_hoists shape.StaticBlock e = refl
body_hoists h e = absurd (true≢false (sym e))

not_so : (b : Bool) → not b ≡ true → b ≡ false
not_so true e = absurd (true≢false (sym e))
not_so false e = refl

mutual
  unfolding names_of

  pub hoists_none : (t : Tree) → hoists_nothing t ≡ true → names_of declared.Hoisted t ≡ []
  hoists_none (node h xs n ts) e = go (is_body_shape h) refl e (λ k. hoist_none ts k)
    where
      by : (p : Place) → hoisted_place h ≡ p → names_by p xs (first_names ts) (all_names declared.Bound ts) (all_names declared.Hoisted ts) ≡ [] → names_of declared.Hoisted (node h xs n ts) ≡ []
      by p e f = ap (λ p. names_by p xs (first_names ts) (all_names declared.Bound ts) (all_names declared.Hoisted ts)) e ∙ f

      placed : (hoisted_place h ≡ place.Below) ⊎ (hoisted_place h ≡ place.Nowhere) → all_names declared.Hoisted ts ≡ [] → names_of declared.Hoisted (node h xs n ts) ≡ []
      placed (inl p) f = by place.Below p f
      placed (inr p) f = by place.Nowhere p refl

      go : (b : Bool) → is_body_shape h ≡ b → (b || (not (is_var_shape h) && hoist_nothing ts)) ≡ true → (hoist_nothing ts ≡ true → all_names declared.Hoisted ts ≡ []) → names_of declared.Hoisted (node h xs n ts) ≡ []
      go true i e f = by place.Nowhere (body_hoists h i) refl
      go false i e f = let (own, rest) = and_parts (not (is_var_shape h)) (hoist_nothing ts) e in placed (hoisted_is h (not_so (is_var_shape h) own)) (f rest)

  hoist_none : (ts : Trees) → hoist_nothing ts ≡ true → all_names declared.Hoisted ts ≡ []
  hoist_none none e = refl
  hoist_none (t ▸ ts) e = let (own, rest) = and_parts (hoists_nothing t) (hoist_nothing ts) e in λ k. hoists_none t own k ++ hoist_none ts rest k

holds_none : (h : Shape) → is_unscoped_shape h ≡ true → holds_statements h ≡ false
holds_none shape.Listed e = absurd (true≢false (sym e))
holds_none shape.FunctionBody e = absurd (true≢false (sym e))
holds_none shape.SwitchCase e = absurd (true≢false (sym e))
holds_none h e = refl

quiet_holds : (h : Shape) → is_quiet h ≡ true → holds_statements h ≡ false
quiet_holds shape.Listed e = absurd (true≢false (sym e))
quiet_holds shape.FunctionBody e = absurd (true≢false (sym e))
quiet_holds shape.SwitchCase e = absurd (true≢false (sym e))
quiet_holds h e = refl

declares_by_names : (o : Bool) (h : Shape) (xs : List Name) (n : ℕ) (ts : Trees) → holds_statements h ≡ false → names_of declared.Lexical (node h xs n ts) ≡ [] → names_of declared.Hoisted (node h xs n ts) ≡ [] → as_body o (node h xs n ts) ≡ []
declares_by_names o h xs n ts e f g =
    ap (λ b. if b then all_as_body o ts else as_statement o (node h xs n ts)) e
    ∙ (λ k. own_declarations (not (o && is_function h)) [] (f k) ++ own_declarations false [] (g k))
  where
    is_function : Shape → Bool
    is_function h = Rattle.mini_laws.specs.Early.is_function_shape h

quiet_declares : (t : Tree) → IsQuiet t → as_body false t ≡ []
quiet_declares (node h xs n ts) q = declares_by_names false h xs n ts (quiet_holds h q) (no_names declared.Lexical (node h xs n ts) q) (no_names declared.Hoisted (node h xs n ts) q)

-- the tests are expressions, or absent
abbrev pub AllQuiet : Choices → Type 0
AllQuiet no_choices = Unit {0}
AllQuiet (choice t ss cs) = IsQuiet t × AllQuiet cs

module _ {A : Type 0} where
  after_test : (ts : List A) → ts ≡ [] → (xs : List A) → ts ++ (xs ++ []) ≡ xs
  after_test ts e xs = ap (λ r. r ++ (xs ++ [])) e ∙ append-nil xs

hoisted_statements : (ss : Trees) → all_names declared.Hoisted ss ≡ all_of (names_of declared.Hoisted) ss
unfolding names_of
hoisted_statements none = refl
hoisted_statements (t ▸ ss) = ap (λ r. names_of declared.Hoisted t ++ r) (hoisted_statements ss)

hoisted_cases : (cs : Choices) → AllQuiet cs → all_names declared.Hoisted (cases_of cs) ≡ each_of (names_of declared.Hoisted) cs
unfolding names_of
hoisted_cases no_choices q = refl
hoisted_cases (choice t ss cs) (q, qs) = λ k. (after_test (names_of declared.Hoisted t) (no_names declared.Hoisted t q) (all_names declared.Hoisted ss) ∙ hoisted_statements ss) k ++ hoisted_cases cs qs k

body_statements : (ss : Trees) → all_as_body false ss ≡ all_of (as_body false) ss
body_statements none = refl
body_statements (t ▸ ss) = ap (λ r. as_body false t ++ r) (body_statements ss)

body_cases : (cs : Choices) → AllQuiet cs → all_as_body false (cases_of cs) ≡ each_of (as_body false) cs
body_cases no_choices q = refl
body_cases (choice t ss cs) (q, qs) = λ k. (after_test (as_body false t) (quiet_declares t q) (all_as_body false ss) ∙ body_statements ss) k ++ body_cases cs qs k

pub lexical_cases : (cs : Choices) → AllQuiet cs → are_loose cs ≡ true → all_names declared.Lexical (cases_of cs) ≡ []
unfolding names_of
lexical_cases no_choices q u = refl
lexical_cases (choice t ss cs) (q, qs) u =
    let (own, rest) = and_parts (are_unscoped ss) (are_loose cs) u in
    λ k. (after_test (names_of declared.Lexical t) (no_names declared.Lexical t q) (all_names declared.Lexical ss) ∙ no_lexicals ss own) k ++ lexical_cases cs qs rest k

-- ---- what is left of a statement

left_holds : (Q : Tree → Type 0) (xs : List Name) → Q (var xs) → AllQ Q (declared_bare xs)
left_holds Q [] q = tt
left_holds Q (x ∷ xs) q = (q, tt)

left_counts : (m : Tree → ℕ) → ((xs : List Name) → m (var xs) ≡ 0) → (xs : List Name) (k : ℕ) → sum m (declared_bare xs) ≤ k
left_counts m z [] k = omega arith
left_counts m z (x ∷ xs) k = omega (arith, z (x ∷ xs))

same_list : {A : Type 0} (F : Tree → List A) (ts : Trees) → all_of F ts ≡ concat F ts
same_list F none = refl
same_list F (t ▸ ts) = ap (λ r. F t ++ r) (same_list F ts)

left_hoists : (t : Tree) → is_unscoped t ≡ true → all_of (names_of declared.Hoisted) (left_behind t) ≡ names_of declared.Hoisted t
left_hoists t u = same_list (names_of declared.Hoisted) (left_behind t) ∙ left_gives (names_of declared.Hoisted) (names_if true) refl (names_are declared.Hoisted Var) (names_of declared.Hoisted t)

left_declares : (t : Tree) → is_unscoped t ≡ true → all_of (as_body false) (left_behind t) ≡ as_body false t
left_declares t u = same_list (as_body false) (left_behind t) ∙ left_gives (as_body false) (own_declarations false []) refl (declarations_are false Var) (names_of declared.Hoisted t) ∙ sym ((loose t u).as_body false)

-- ---- one list of cases for another

pub record CasesKept (cs ds : Choices) : Type 1 where
  pub forward : (Q : Tree → Type 0) → ((t : Tree) → Q t → AllQ Q (left_behind t)) → EachQ Q cs → EachQ Q ds
  pub back : (Q : Tree → Type 0) (m : Tree → ℕ) → ((t : Tree) → sum m (left_behind t) ≡ 0) → ((t : Tree) → encloses false t ≡ true → m t ≤ 0 → Q t) → each_sum m cs ≤ each_sum m ds → EachQ Q ds → EachQ Q cs
  pub sums : (m : Tree → ℕ) → ((t : Tree) → sum m (left_behind t) ≤ m t) → each_sum m ds ≤ each_sum m cs
  pub loose : are_loose cs ≡ true
  pub loose_later : are_loose ds ≡ true
  pub quiet_later : AllQuiet cs → AllQuiet ds
  pub lists : {A : Type 0} → (F : Tree → List A) → ((t : Tree) → is_unscoped t ≡ true → all_of F (left_behind t) ≡ F t) → each_of F ds ≡ each_of F cs

module _ (d : Tree) (cs ds : Choices) (k : CasesKept cs ds) where
  abbrev old : Tree
  old = listed (cases_of cs)

  abbrev new : Tree
  new = listed (cases_of ds)

  abbrev n : Tree
  n = switch d old

  abbrev w : Tree
  w = switch d new

  onward : (Q : Tree → Type 0) → Parted Q → ((t : Tree) → Q t → Q (var (names_of declared.Hoisted t))) → Q old → Q new
  onward Q p f q = cases_up Q p ds (k.forward Q (λ t x. left_holds Q (names_of declared.Hoisted t) (f t x)) (cases_down Q p cs q))

  fewer : (m : Tree → ℕ) → Summing m → ((xs : List Name) → m (var xs) ≡ 0) → m new ≤ m old
  fewer m p z = omega (arith, cases_sum m p cs, cases_sum m p ds, k.sums m (λ t. left_counts m z (names_of declared.Hoisted t) (m t)))

  fixed_if : (x : Variable) (j : ℕ) (c e : Tree) → (FixedBy x j AsValue c → FixedBy x j AsValue e) → FixedBy x j AsValue (switch d c) → FixedBy x j AsValue (switch d e)
  fixed_if x j c e f q =
      let a = fixed_below x j value 0 (d ▸ (c ▸ none)) (subst (λ g. rank g ≤ j) (of_children shape.SwitchStatement [] 0 (d ▸ (c ▸ none)) x refl) q) in
      subst (λ g. rank g ≤ j) (sym (of_children shape.SwitchStatement [] 0 (d ▸ (e ▸ none)) x refl)) (below_fixed x j value 0 (d ▸ (e ▸ none)) (a.0, (f a.1.0, tt)))

  pub kept_declared : Declares (declared_names n) AsValue w
  kept_declared =
      let all = declared_names n in
      let a = declares_below all value 0 (d ▸ (old ▸ none)) (λ x c. c) in
      below_declares all value 0 (d ▸ (new ▸ none)) (a.0, (onward (Declares all AsValue) (declares_parted all) (λ t q. var_declares (names_of declared.Hoisted t) all (λ y c. q y (hoisted_there t y c))) a.1.0, tt))

  kept_frames : FramesKept (frames None n) (frames None w)
  kept_frames =
      let all = frames None n in
      let a = frames_below all value (λ j. None) (λ j. refl) 0 (d ▸ (old ▸ none)) (λ f c. c) in
      below_frames all value (λ j. None) (λ j. refl) 0 (d ▸ (new ▸ none)) (a.0, (onward (HasFrames all AsValue) (frames_parted all) (λ t q. var_frames (names_of declared.Hoisted t) all) a.1.0, tt))

  kept_bodies : (a : Around) → BodiesKept (bodies a n) (bodies a w)
  kept_bodies a =
      let all = bodies a n in
      let b = bodies_below all a value (λ j. quiet a) (λ j. refl) 0 (d ▸ (old ▸ none)) (kept_itself all) in
      below_bodies all a value (λ j. quiet a) (λ j. refl) 0 (d ▸ (new ▸ none)) (b.0, (onward (HasBodies all a AsValue) (bodies_parted all a) (λ t q. var_bodies (names_of declared.Hoisted t) all a) b.1.0, tt))

  kept_targets : (a : Targets) (q : Path) → early_jumps a q n ≡ [] → early_jumps a q w ≡ []
  unfolding early_jumps targets_of
  kept_targets a q e =
      let inside = record a { breaks = true } in
      let (first, rest) = empty_both (early_jumps a (q ++ 0 ∷ []) d) (early_jumps inside (q ++ 1 ∷ []) old ++ []) e in
      let (second, last) = empty_both (early_jumps inside (q ++ 1 ∷ []) old) [] rest in
      both_empty (early_jumps a (q ++ 0 ∷ []) d) (early_jumps inside (q ++ 1 ∷ []) new ++ []) first
      (both_empty (early_jumps inside (q ++ 1 ∷ []) new) [] (targets_anywhere inside [] (q ++ 1 ∷ []) new (onward (Aimed inside AsValue) (aimed_parted inside) (λ t q. var_targets (names_of declared.Hoisted t) inside) (targets_anywhere inside (q ++ 1 ∷ []) [] old second))) refl)

  kept_numbers : (j : ℕ) → count_of j (numbers w) ≤ count_of j (numbers n)
  unfolding numbers
  kept_numbers j =
      let before = numbers_below j value 0 (d ▸ (old ▸ none)) in
      let after = numbers_below j value 0 (d ▸ (new ▸ none)) in
      let less = fewer (number_times j AsValue) (numbers_summing j) (λ xs. var_numbers xs j) in
      omega (arith, before, after, less)

  module _ (q : AllQuiet cs) where
    no_scope : (bs : Choices) → AllQuiet bs → are_loose bs ≡ true → (u : Use) (j : ℕ) → opened u shape.SwitchStatement (d ▸ (listed (cases_of bs) ▸ none)) j ≡ []
    unfolding names_of with_names scopes_by
    no_scope bs qs l u zero = refl
    no_scope bs qs l u (suc zero) = ap lexical_scope (lexical_cases bs qs l)
    no_scope bs qs l u (suc (suc j)) = refl

    uses : (u : Use) (j : ℕ) → use_of shape.SwitchStatement u j ≡ Read
    uses u zero = refl
    uses u (suc j) = refl

    kept_scoped : (u : Use) (env : Environment) → Scoped u env n → Scoped u env w
    unfolding Scoped
    kept_scoped u env r =
        let a = scoped_below Read env value (opened u shape.SwitchStatement (d ▸ (old ▸ none))) (no_scope cs q k.loose u) (use_of shape.SwitchStatement u) (uses u) 0 env refl (d ▸ (old ▸ none)) r.1 in
        (tt, below_scoped Read env value (opened u shape.SwitchStatement (d ▸ (new ▸ none))) (no_scope ds (k.quiet_later q) k.loose_later u) (use_of shape.SwitchStatement u) (uses u) 0 env refl (d ▸ (new ▸ none)) (a.0, (onward (ScopedAs Read env AsValue) (read_scope env) (λ t q. var_scoped (names_of declared.Hoisted t) env (hoisted_scoped Read env t q)) a.1.0, tt)))

    kept_symbols : (u : Use) (x : Option SymbolId) → times x (declared_in u w) ≤ times x (declared_in u n)
    unfolding declared_in
    kept_symbols u x =
        let before = symbols_below Read x value (opened u shape.SwitchStatement (d ▸ (old ▸ none))) (no_scope cs q k.loose u) (use_of shape.SwitchStatement u) (uses u) 0 (d ▸ (old ▸ none)) in
        let after = symbols_below Read x value (opened u shape.SwitchStatement (d ▸ (new ▸ none))) (no_scope ds (k.quiet_later q) k.loose_later u) (use_of shape.SwitchStatement u) (uses u) 0 (d ▸ (new ▸ none)) in
        let less = fewer (symbol_times Read x AsValue) (symbols_summing x) (λ xs. var_symbols xs Read x) in
        omega (arith, before, after, less)

    same_hoisted : all_names declared.Hoisted (cases_of ds) ≡ all_names declared.Hoisted (cases_of cs)
    same_hoisted = hoisted_cases ds (k.quiet_later q) ∙ k.lists (names_of declared.Hoisted) left_hoists ∙ sym (hoisted_cases cs q)

    same_body : all_as_body false (cases_of ds) ≡ all_as_body false (cases_of cs)
    same_body = body_cases ds (k.quiet_later q) ∙ k.lists (as_body false) left_declares ∙ sym (body_cases cs q)

    kept_names : (o : Declared) → names_of o w ≡ names_of o n
    unfolding names_of
    kept_names declared.Bound = refl
    kept_names declared.Lexical = refl
    kept_names declared.Hoisted = ap (λ r. names_of declared.Hoisted d ++ (r ++ [])) same_hoisted

    kept_body : body_names w ≡ body_names n
    unfolding body_names names_of
    kept_body = kept_names declared.Hoisted

    kept_once : (p : Path) → early_names p n ≡ [] → early_names p w ≡ []
    unfolding early_names scope_declarations
    kept_once p e =
        let (own, below) = empty_both (clashing [] (in_body false p (d ▸ (old ▸ none)) 1)) (all_early_names p 0 (d ▸ (old ▸ none))) e in
        let a = once_below value p 0 (d ▸ (old ▸ none)) below in
        both_empty (clashing [] (in_body false p (d ▸ (new ▸ none)) 1)) (all_early_names p 0 (d ▸ (new ▸ none)))
        (free_same (in_body false p (d ▸ (old ▸ none)) 1) (in_body false p (d ▸ (new ▸ none)) 1) (body_same false (p ++ 1 ∷ []) (p ++ 1 ∷ []) old new same_body) own)
        (below_once value p 0 (d ▸ (new ▸ none)) (a.0, (onward (Once AsValue) once_parted (λ t q. var_once (names_of declared.Hoisted t)) a.1.0, tt)))

    pub over_core : LooseCore n w
    over_core = record {
      names = kept_names;
      body = kept_body;
      inner = inr refl;
      symbols = kept_symbols;
      scoped = kept_scoped;
      numbers = kept_numbers;
      once = kept_once;
      targets = kept_targets;
      loop = refl;
      bodies = kept_bodies;
      frames = kept_frames;
    }

    -- ---- what a write of a variable does, or one goes that declares it

    module _ (u : Use) (env : Environment) (r : Scoped u env n) (x : Variable) where
      abbrev ways : Option SymbolId → Tree → ℕ
      ways z = symbol_times Read z AsValue

      less_by : (z : Option SymbolId) → each_sum (ways z) ds < each_sum (ways z) cs → times z (declared_in u w) + 1 ≤ times z (declared_in u n)
      unfolding declared_in
      less_by z h =
          let before = symbols_below Read z value (opened u shape.SwitchStatement (d ▸ (old ▸ none))) (no_scope cs q k.loose u) (use_of shape.SwitchStatement u) (uses u) 0 (d ▸ (old ▸ none)) in
          let after = symbols_below Read z value (opened u shape.SwitchStatement (d ▸ (new ▸ none))) (no_scope ds (k.quiet_later q) k.loose_later u) (use_of shape.SwitchStatement u) (uses u) 0 (d ▸ (new ▸ none)) in
          omega (arith, before, after, h, cases_sum (ways z) (symbols_summing z) cs, cases_sum (ways z) (symbols_summing z) ds)

      left_nothing : (z : Option SymbolId) (t : Tree) → sum (ways z) (left_behind t) ≡ 0
      left_nothing z t = let few = left_counts (ways z) (λ xs. var_symbols xs Read z) (names_of declared.Hoisted t) 0 in omega (arith, few)

      abbrev both : Tree → ℕ
      both t = ways (symbol_for x) t + ways None t

      two_left : (ts : Trees) → sum (ways (symbol_for x)) ts ≡ 0 → sum (ways None) ts ≡ 0 → sum both ts ≡ 0
      two_left none e f = refl
      two_left (t ▸ ts) e f = let rest = two_left ts (omega (arith, e)) (omega (arith, f)) in omega (arith, rest, e, f)

      its_scoped : EachQ (ScopedAs Read env AsValue) cs
      unfolding Scoped
      its_scoped =
          let a = scoped_below Read env value (opened u shape.SwitchStatement (d ▸ (old ▸ none))) (no_scope cs q k.loose u) (use_of shape.SwitchStatement u) (uses u) 0 env refl (d ▸ (old ▸ none)) r.1 in
          cases_down (ScopedAs Read env AsValue) (read_scope env) cs a.1.0

      module _ (same : each_sum (ways (symbol_for x)) ds ≡ each_sum (ways (symbol_for x)) cs) (unnamed : each_sum (ways None) ds ≡ each_sum (ways None) cs) where
        abbrev Freely : ℕ → Tree → Type 0
        Freely j t = ScopedAs Read env AsValue t → FixedBy x j AsValue t

        goes_freely : (j : ℕ) (t : Tree) → encloses false t ≡ true → both t ≤ 0 → Freely j t
        goes_freely j t e z a = by (enclosed x Read env t e a)
          where
            by : (fixed_by t x ≡ Writable) ⊎ Encloses x (declared_in Read t) → FixedBy x j AsValue t
            by (inl f) = subst (λ g. rank g ≤ j) (sym f) (omega arith)
            by (inr c) = absurd (elim c.either [
              | inl e ↦ let there : 1 ≤ times (symbol_for x) (declared_in Read t) = subst (λ o. 1 ≤ times o (declared_in Read t)) e c.there in omega (arith, there, z)
              | inr e ↦ let there : 1 ≤ times None (declared_in Read t) = subst (λ o. 1 ≤ times o (declared_in Read t)) e c.there in omega (arith, there, z)
            ])

        as_many : each_sum both cs ≤ each_sum both ds
        as_many = omega (arith, same, unnamed, each_two (ways (symbol_for x)) (ways None) cs, each_two (ways (symbol_for x)) (ways None) ds)

        back_fixed : (j : ℕ) → FixedBy x j AsValue new → FixedBy x j AsValue old
        back_fixed j f =
            let later = each_given (ScopedAs Read env AsValue) (FixedBy x j AsValue) ds (cases_down (FixedBy x j AsValue) (fixed_parted x j) ds f) in
            let earlier = k.back (Freely j) both (λ t. two_left (left_behind t) (left_nothing (symbol_for x) t) (left_nothing None t)) (goes_freely j) as_many later in
            cases_up (FixedBy x j AsValue) (fixed_parted x j) cs (each_apply (ScopedAs Read env AsValue) (FixedBy x j AsValue) cs earlier its_scoped)

        all_fixed : fixed_by n x ≡ fixed_by w x
        all_fixed =
            let i = rank (fixed_by n x) in
            let j = rank (fixed_by w x) in
            by_rank (fixed_by n x) (fixed_by w x) (fixed_if x j new old (back_fixed j) (omega arith)) (fixed_if x i old new (onward (FixedBy x i AsValue) (fixed_parted x i) (λ t q. var_fixed (names_of declared.Hoisted t) x i)) (omega arith))

      fewer_of : (z : Option SymbolId) → each_sum (ways z) ds ≤ each_sum (ways z) cs
      fewer_of z = k.sums (ways z) (λ t. left_counts (ways z) (λ xs. var_symbols xs Read z) (names_of declared.Hoisted t) (ways z t))

      pub over_fixed : (fixed_by n x ≡ fixed_by w x) ⊎ LessOften u x n w
      over_fixed = by (eq-or-lt_of_le (fewer_of (symbol_for x))) (eq-or-lt_of_le (fewer_of None))
        where
          by : (each_sum (ways (symbol_for x)) ds ≡ each_sum (ways (symbol_for x)) cs) ⊎ (each_sum (ways (symbol_for x)) ds < each_sum (ways (symbol_for x)) cs) → (each_sum (ways None) ds ≡ each_sum (ways None) cs) ⊎ (each_sum (ways None) ds < each_sum (ways None) cs)
              → (fixed_by n x ≡ fixed_by w x) ⊎ LessOften u x n w
          by (inl e) (inl f) = inl (all_fixed e f)
          by (inr e) f = inr (record { declared = symbol_for x; either = inl refl; less = less_by (symbol_for x) e })
          by (inl e) (inr f) = inr (record { declared = None; either = inr refl; less = less_by None f })

-- ---- the rows

quiet_later : (bs cs : Choices) → AllQuiet (before_others bs cs) → AllQuiet cs
quiet_later no_choices cs q = q
quiet_later (choice t ss bs) cs q = quiet_later bs cs q.1

loose_later : (bs cs : Choices) → are_loose (before_others bs cs) ≡ true → are_loose cs ≡ true
loose_later no_choices cs h = h
loose_later (choice t ss bs) cs h = loose_later bs cs (and_parts (are_unscoped ss) (are_loose (before_others bs cs)) h).1

loose_before : (bs cs : Choices) → are_loose (before_others bs cs) ≡ true → are_loose bs ≡ true
loose_before no_choices cs h = refl
loose_before (choice t ss bs) cs h =
    let (own, rest) = and_parts (are_unscoped ss) (are_loose (before_others bs cs)) h in
    ap (λ c. c && are_loose bs) own ∙ loose_before bs cs rest

abbrev pub left_case : Choices → Tree → Trees → Choices → Choices
left_case bs t ss cs = choice t (append (left_cases bs) (running ss cs)) no_choices

pub taken_kept : (bs : Choices) (t : Tree) (ss : Trees) (cs : Choices) → are_loose (before_others bs (choice t ss cs)) ≡ true → cases_go bs ≡ true → rest_goes ss cs ≡ true → CasesKept (before_others bs (choice t ss cs)) (left_case bs t ss cs)
taken_kept bs t ss cs u h r = record {
  forward = λ Q l a.
      let b = later_each Q bs (choice t ss cs) a in
      ((b.0.0, append_all Q (left_cases bs) (running ss cs) (left_each Q l bs (earlier_each Q bs (choice t ss cs) a)) (run_all Q l ss cs b.0.1 b.1)), tt);
  back = λ Q m z f h' a.
      let parts = append_sum m (left_cases bs) (running ss cs) in
      let whole = before_sum m bs (choice t ss cs) in
      let nothing_left = none_each Q m z f bs in
      let fewer = runs_less Q m z f ss cs in
      let b = run_back Q m z f ss cs r (omega (arith, h', parts, whole, nothing_left)) (second_all Q (left_cases bs) (running ss cs) a.0.1) in
      before_back Q m z f bs (choice t ss cs) h (omega (arith, h', parts, whole, nothing_left, fewer)) ((a.0.0, b.0), b.1);
  sums = λ m l. omega (arith, before_sum m bs (choice t ss cs), append_sum m (left_cases bs) (running ss cs), left_each_sum m l bs, run_sum m l ss cs);
  loose = u;
  loose_later = later_loose bs t ss cs u;
  quiet_later = λ q. ((quiet_later bs (choice t ss cs) q).0, tt);
  lists = λ F same.
      let later = loose_later bs (choice t ss cs) u in
      append-nil (all_of F (append (left_cases bs) (running ss cs))) ∙ append_of F (left_cases bs) (running ss cs)
      ∙ (λ k. left_each_of F same bs (loose_before bs (choice t ss cs) u) k ++ run_of F same ss cs (and_parts (are_unscoped ss) (are_loose cs) later).1 k)
      ∙ sym (before_of F bs (choice t ss cs));
}

pub none_kept : (t : Tree) (ss : Trees) (cs : Choices) → are_loose (choice t ss cs) ≡ true → cases_go (choice t ss cs) ≡ true → CasesKept (choice t ss cs) (choice t (left_cases (choice t ss cs)) no_choices)
none_kept t ss cs u h = record {
  forward = λ Q l a. ((a.0.0, left_each Q l (choice t ss cs) a), tt);
  back = λ Q m z f h' a.
      let c = case_goes t ss cs h in
      let nothing_left = none_each Q m z f (choice t ss cs) in
      ((a.0.0, gone_all Q m z f ss c.statements (omega (arith, h', nothing_left))), gone_each Q m z f cs c.others (omega (arith, h', nothing_left)));
  sums = λ m l. omega (arith, append_sum m (left_all ss) (left_cases cs), left_sum m l ss, left_each_sum m l cs);
  loose = u;
  loose_later = ap (λ c. c && true) (left_loose (choice t ss cs));
  quiet_later = λ q. (q.0, tt);
  lists = λ F same. append-nil (all_of F (left_cases (choice t ss cs))) ∙ left_each_of F same (choice t ss cs) u;
}
