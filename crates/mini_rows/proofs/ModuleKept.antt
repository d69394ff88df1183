-- A module that loses a name of its statements keeps what else a program has to keep.
use Rattle.std.specs.Prelude.{ℕ, ◌+◌, ◌≤◌, ◌≡◌, refl, ◌||◌, Bool, true, false, List, [], ◌∷◌, ◌++◌, Contains, Option}
use Rattle.std.proofs.Common.{ap, ◌∙◌, sym, subst, inl, arith}
use Rattle.std.proofs.lemmas.List.{append-nil}
use Rattle.mini_model.specs.declared.name.Name.{Name}
use Rattle.mini_model.specs.declared.name.SymbolId.{SymbolId}
use Rattle.mini_model.specs.declared.place.Position.TheVariants.{Elsewhere}
use Rattle.mini_model.specs.declared.shape.Shape.TheVariants as shape
use Rattle.mini_model.specs.Tree.{Tree, Trees, none, listed, program}
use Rattle.mini_model.specs.Paths.{append}
use Rattle.mini_laws.specs.declared.names.Declared.{Declared}
use Rattle.mini_laws.specs.declared.names.Declared.TheVariants as declared
use Rattle.mini_laws.specs.declared.names.Targets.{Targets}
use Rattle.mini_laws.specs.declared.names.Use.{Use}
use Rattle.mini_laws.specs.declared.names.Use.TheVariants.{Read}
use Rattle.mini_laws.specs.DeclaredNames.{names_of, body_names, all_body_names, has_inner}
use Rattle.mini_laws.specs.Edits.{Kept}
use Rattle.mini_laws.specs.Scopes.{scopes_by, body_scope}
use Rattle.mini_laws.specs.Resolved.{Environment}
use Rattle.mini_laws.specs.Scoped.{Scoped, Unmentioned, AllUnmentioned}
use Rattle.mini_laws.specs.Symbols.{symbols_in, declared as declared_in, times}
use Rattle.mini_laws.specs.Early.{Path, body_declarations, scope_declarations, clashing, early_names, targets_of, early_jumps, is_loop}
use Rattle.mini_laws.proofs.Changes.{times_both}
use Rattle.mini_laws.specs.Value.{Variable, variable_eq, variable_of}
use Rattle.mini_laws.specs.Fixity.{fixed_by}
use Rattle.mini_kept.specs.Carried.{numbers}
use Rattle.mini_kept.specs.Declaring.{declared as names_declared}
use Rattle.mini_kept.specs.KeepsLoosely.{KeepsLoosely}
use Rattle.mini_kept.specs.KeepsNames.{count_of}
use Rattle.mini_kept.specs.Loosely.{symbol}
use Rattle.mini_kept.specs.SameNames.{is_among, first_symbol, NoMoreClash}
use Rattle.mini_kept.proofs.Below.{both_empty, empty_both}
use Rattle.mini_kept.proofs.Clashes.{no_more_same, no_more_both, still_free}
use Rattle.mini_kept.proofs.Fixed.{of_one}
use Rattle.mini_kept.proofs.Unplaced.{as_body, all_as_body, body_same}
use Rattle.mini_rows.specs.Unused.{any_names}
use Rattle.mini_rows.proofs.FunctionBodyKept.{declared_append, clash_there, own_symbol, bind, scope, one_less, statements_scoped, hoists_too}
use Rattle.mini_rows.proofs.UnusedKept.{LeavesThere, DeclaresThere, list_inner, list_symbols, list_numbers, list_once, list_targets, list_fixed, list_declares}

module _ (x : Name) (before after d w : Trees) (l : LeavesThere x d w) (m : DeclaresThere x d w) (earlier : any_names x before ≡ false) (later : any_names x after ≡ false) (directives : List (List ℕ)) where
  abbrev A : Trees
  A = append before (append d after)

  abbrev B : Trees
  B = append before (append w after)

  abbrev over : Trees → Tree
  over ts = program true directives ts

  -- ---- its scope is that of a function's body without parameters

  abbrev pub own_scope : Trees → Environment
  own_scope ts = body_scope [] (body_names (listed ts))

  abbrev pub body : Trees → Environment
  body ts = scope (listed none) x before after d w l m refl earlier later ts

  pub scope_is : (ts : Trees) → own_scope ts ≡ body ts
  unfolding body_names names_of has_inner
  scope_is ts = ap (body_scope []) (sym (append-nil (all_body_names ts)))

  pub one_less_there : (y : Option SymbolId) → times y (symbols_in (own_scope A)) ≡ times y (x.symbol ∷ []) + times y (symbols_in (own_scope B))
  one_less_there y =
      ap (λ s. times y (symbols_in s)) (scope_is A) ∙ one_less (listed none) x before after d w l m refl earlier later y
      ∙ ap (λ s. times y (x.symbol ∷ []) + times y (symbols_in s)) (sym (scope_is B))

  module_symbols : (v : Use) (y : Option SymbolId) → times y (declared_in v (over B)) + times y (x.symbol ∷ []) ≤ times y (declared_in v (over A))
  unfolding declared_in scopes_by
  module_symbols v y =
      let sa = symbols_in (own_scope A) in
      let sb = symbols_in (own_scope B) in
      omega (
        arith,
        one_less_there y,
        list_symbols x before after d w l y,
        times_both y sa (declared_in Read (listed A) ++ []),
        times_both y sb (declared_in Read (listed B) ++ []),
        times_both y (declared_in Read (listed A)) [],
        times_both y (declared_in Read (listed B)) [],
      )

  pub module_less : (k : ℕ) → x.symbol ≡ symbol k → (v : Use) → times (symbol k) (declared_in v (over B)) + 1 ≤ times (symbol k) (declared_in v (over A))
  module_less k e v =
      let s = module_symbols v (symbol k) in
      let h : times (symbol k) (x.symbol ∷ []) ≡ 1 = ap (λ y. times (symbol k) (y ∷ [])) e ∙ own_symbol k in
      omega (arith, s, h)

  module_scoped : Unmentioned (bind (listed none) x before after d w l m refl earlier later x) (listed B) → (v : Use) (env : Environment) → Scoped v env (over A) → Scoped v env (over B)
  unfolding Scoped scopes_by
  module_scoped u v env s =
      let inner : Scoped Read ((env ++ body A) ++ []) (listed A) = subst (λ r. Scoped Read r (listed A)) (ap (λ b. env ++ b) (scope_is A) ∙ sym (append-nil (env ++ body A))) s.1.0 in
      let left = statements_scoped (listed none) x before after d w l m refl earlier later u env inner in
      (tt, (subst (λ r. Scoped Read r (listed B)) (append-nil (env ++ body B) ∙ ap (λ b. env ++ b) (sym (scope_is B))) left, tt))

  -- ---- the names that it gives to what is around: none

  module_names : (q : Declared) → names_of q (over B) ≡ names_of q (over A)
  unfolding names_of
  module_names declared.Bound = refl
  module_names declared.Lexical = refl
  module_names declared.Hoisted = refl

  module_body_names : body_names (over B) ≡ body_names (over A)
  unfolding body_names names_of
  module_body_names = refl

  module_as_body : (b : Bool) → as_body b (over B) ≡ as_body b (over A)
  unfolding names_of
  module_as_body b = refl

  module_inner : has_inner (over B) ≡ has_inner (over A)
  unfolding has_inner
  module_inner = ap (λ b. b || false) (list_inner x before after d w l)

  pub module_kept : Kept (over A) (over B)
  module_kept = record { names = module_names; body = module_body_names; inner = module_inner; symbols = λ v y. let less = module_symbols v y in omega (arith, less) }

  -- ---- what else is kept

  module_numbers : (k : ℕ) → count_of k (numbers (over B)) ≤ count_of k (numbers (over A))
  unfolding numbers
  module_numbers k =
      let s = list_numbers x before after d w l k in
      let b = ap (count_of k) (append-nil (numbers (listed B))) in
      let a = ap (count_of k) (append-nil (numbers (listed A))) in
      omega (arith, s, a, b)

  clash_less : (o : Bool) → NoMoreClash (as_body o (listed B)) (as_body o (listed A))
  clash_less o =
      let f = all_as_body o before in
      let g = all_as_body o after in
      let both = λ (ts : Trees). declared_append o before (append ts after) ∙ ap (λ ds. f ++ ds) (declared_append o ts after) in
      subst (λ ds. NoMoreClash (as_body o (listed B)) ds) (sym (both d))
      (subst (λ ds. NoMoreClash ds (f ++ (all_as_body o d ++ g))) (sym (both w))
      (no_more_both f f (all_as_body o d ++ g) (all_as_body o w ++ g) (no_more_same f f refl)
      (no_more_both (all_as_body o d) (all_as_body o w) g g (m.clash o) (no_more_same g g refl))))

  pub fewer : (o : Bool) (p : Path) → NoMoreClash (body_declarations o p (listed B)) (body_declarations o p (listed A))
  fewer o p = clash_there o p (listed A) (listed B) (clash_less o)

  module_once : (r : Path) → early_names r (over A) ≡ [] → early_names r (over B) ≡ []
  unfolding early_names scope_declarations
  module_once r e =
      let p = r ++ 0 ∷ [] in
      let (c, o) = empty_both (clashing [] (body_declarations false p (listed A))) (early_names p (listed A) ++ []) e in
      both_empty (clashing [] (body_declarations false p (listed B))) (early_names p (listed B) ++ []) (still_free (body_declarations false p (listed A)) (body_declarations false p (listed B)) (fewer false p) c)
      (append-nil (early_names p (listed B)) ∙ list_once x before after d w l p (sym (append-nil (early_names p (listed A))) ∙ o))

  module_targets : (g : Targets) (r : Path) → early_jumps g r (over A) ≡ [] → early_jumps g r (over B) ≡ []
  unfolding early_jumps targets_of
  module_targets g r e =
      let p = r ++ 0 ∷ [] in
      append-nil (early_jumps g p (listed B)) ∙ list_targets x before after d w l g p (sym (append-nil (early_jumps g p (listed A))) ∙ e)

  pub module_keeps : AllUnmentioned (record { name = x; hoists = false }) B → KeepsLoosely Elsewhere (over A) (over B)
  unfolding is_loop
  module_keeps u = record {
    bound = module_names declared.Bound;
    lexical = module_names declared.Lexical;
    hoisted = λ y. ap (λ ys. is_among ys y) (module_names declared.Hoisted);
    body = λ v env s a r. ap (first_symbol r) module_body_names;
    inner = inl module_inner;
    scoped = λ v env s a. module_scoped (hoists_too (listed none) x before after d w l m refl earlier later u) v env a;
    symbols = λ v env s a. module_kept.symbols v;
    numbers = module_numbers;
    declared_as_body = λ b q. no_more_same (body_declarations b q (over A)) (body_declarations b q (over B)) (body_same b q q (over A) (over B) (module_as_body b));
    once = module_once;
    targets = module_targets;
    loop = refl;
    root = λ e. refl;
    block = λ e b q. fewer b (q ++ 0 ∷ []);
  }

  pub module_fixed : (y : Variable) → variable_eq (variable_of x) y ≡ false → fixed_by (over A) y ≡ fixed_by (over B) y
  module_fixed y o = of_one (shape.Program true directives) [] 0 (listed A) y refl ∙ list_fixed x before after d w l y o ∙ sym (of_one (shape.Program true directives) [] 0 (listed B) y refl)

  pub module_declares : (y : Name) → Contains (names_declared (over B)) y → Contains (names_declared (over A)) y
  module_declares y c = subst (λ ys. Contains ys y) (sym (append-nil (names_declared (listed A)))) (list_declares x before after d w l y (subst (λ ys. Contains ys y) (append-nil (names_declared (listed B))) c))
