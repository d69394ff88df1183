-- A static block that loses a name of its statements keeps what else a program has to keep: its scope is a module's.
use Rattle.std.specs.Prelude.{ℕ, ◌+◌, ◌≤◌, ◌≡◌, refl, ◌||◌, Bool, true, false, [], ◌∷◌, ◌++◌, Contains, Option}
use Rattle.std.proofs.Common.{ap, ◌∙◌, sym, subst, inl, arith}
use Rattle.std.proofs.lemmas.List.{append-nil}
use Rattle.mini_model.specs.declared.name.Name.{Name}
use Rattle.mini_model.specs.declared.name.SymbolId.{SymbolId}
use Rattle.mini_model.specs.declared.place.Position.TheVariants.{Elsewhere}
use Rattle.mini_model.specs.declared.shape.Shape.TheVariants as shape
use Rattle.mini_model.specs.Tree.{Tree, Trees, none, listed}
use Rattle.mini_model.specs.Paths.{append}
use Rattle.mini_laws.specs.declared.names.Declared.{Declared}
use Rattle.mini_laws.specs.declared.names.Declared.TheVariants as declared
use Rattle.mini_laws.specs.declared.names.Targets.{Targets}
use Rattle.mini_laws.specs.declared.names.Use.{Use}
use Rattle.mini_laws.specs.declared.names.Use.TheVariants.{Read}
use Rattle.mini_laws.specs.DeclaredNames.{names_of, body_names, has_inner}
use Rattle.mini_laws.specs.Edits.{Kept}
use Rattle.mini_laws.specs.Scopes.{scopes_by}
use Rattle.mini_laws.specs.Resolved.{Environment}
use Rattle.mini_laws.specs.Scoped.{Scoped, Unmentioned, AllUnmentioned}
use Rattle.mini_laws.specs.Symbols.{symbols_in, declared as declared_in, times}
use Rattle.mini_laws.specs.Early.{Path, body_declarations, scope_declarations, clashing, early_names, targets_of, early_jumps, no_targets, is_loop}
use Rattle.mini_laws.proofs.Changes.{times_both}
use Rattle.mini_laws.specs.Value.{Variable, variable_eq, variable_of}
use Rattle.mini_laws.specs.Fixity.{fixed_by}
use Rattle.mini_kept.specs.Carried.{numbers}
use Rattle.mini_kept.specs.Declaring.{declared as names_declared}
use Rattle.mini_kept.specs.KeepsLoosely.{KeepsLoosely}
use Rattle.mini_kept.specs.KeepsNames.{count_of}
use Rattle.mini_kept.specs.Loosely.{symbol}
use Rattle.mini_kept.specs.SameNames.{is_among, first_symbol, NoMoreClash}
use Rattle.mini_kept.proofs.Below.{both_empty, empty_both}
use Rattle.mini_kept.proofs.Clashes.{no_more_same, still_free}
use Rattle.mini_kept.proofs.Fixed.{of_one}
use Rattle.mini_kept.proofs.Unplaced.{as_body, body_same}
use Rattle.mini_rows.specs.Unused.{any_names, static_block}
use Rattle.mini_rows.proofs.FunctionBodyKept.{with_fewer, own_symbol, bind, statements_scoped, hoists_too}
use Rattle.mini_rows.proofs.ModuleKept.{own_scope, body, scope_is, one_less_there, fewer}
use Rattle.mini_rows.proofs.UnusedKept.{LeavesThere, DeclaresThere, list_inner, list_symbols, list_numbers, list_once, list_targets, list_fixed, list_declares}

module _ (x : Name) (before after d w : Trees) (l : LeavesThere x d w) (m : DeclaresThere x d w) (earlier : any_names x before ≡ false) (later : any_names x after ≡ false) (number : ℕ) where
  abbrev A : Trees
  A = append before (append d after)

  abbrev B : Trees
  B = append before (append w after)

  abbrev over : Trees → Tree
  over ts = static_block number ts

  abbrev scope_there : Trees → Environment
  scope_there = own_scope x before after d w l m earlier later []

  abbrev body_there : Trees → Environment
  body_there = body x before after d w l m earlier later []

  static_symbols : (v : Use) (y : Option SymbolId) → times y (declared_in v (over B)) + times y (x.symbol ∷ []) ≤ times y (declared_in v (over A))
  unfolding declared_in scopes_by
  static_symbols v y =
      let sa = symbols_in (scope_there A) in
      let sb = symbols_in (scope_there B) in
      omega (
        arith,
        one_less_there x before after d w l m earlier later [] y,
        list_symbols x before after d w l y,
        times_both y sa (declared_in Read (listed A) ++ []),
        times_both y sb (declared_in Read (listed B) ++ []),
        times_both y (declared_in Read (listed A)) [],
        times_both y (declared_in Read (listed B)) [],
      )

  pub static_less : (k : ℕ) → x.symbol ≡ symbol k → (v : Use) → times (symbol k) (declared_in v (over B)) + 1 ≤ times (symbol k) (declared_in v (over A))
  static_less k e v =
      let s = static_symbols v (symbol k) in
      let h : times (symbol k) (x.symbol ∷ []) ≡ 1 = ap (λ y. times (symbol k) (y ∷ [])) e ∙ own_symbol k in
      omega (arith, s, h)

  static_scoped : Unmentioned (bind (listed none) x before after d w l m refl earlier later x) (listed B) → (v : Use) (env : Environment) → Scoped v env (over A) → Scoped v env (over B)
  unfolding Scoped scopes_by
  static_scoped u v env s =
      let is = scope_is x before after d w l m earlier later [] in
      let inner : Scoped Read ((env ++ body_there A) ++ []) (listed A) = subst (λ r. Scoped Read r (listed A)) (ap (λ b. env ++ b) (is A) ∙ sym (append-nil (env ++ body_there A))) s.1.0 in
      let left = statements_scoped (listed none) x before after d w l m refl earlier later u env inner in
      (tt, (subst (λ r. Scoped Read r (listed B)) (append-nil (env ++ body_there B) ∙ ap (λ b. env ++ b) (sym (is B))) left, tt))

  -- ---- the names that it gives to what is around: none

  static_names : (q : Declared) → names_of q (over B) ≡ names_of q (over A)
  unfolding names_of
  static_names declared.Bound = refl
  static_names declared.Lexical = refl
  static_names declared.Hoisted = refl

  static_body_names : body_names (over B) ≡ body_names (over A)
  unfolding body_names names_of
  static_body_names = refl

  static_as_body : (b : Bool) → as_body b (over B) ≡ as_body b (over A)
  unfolding names_of
  static_as_body b = refl

  static_inner : has_inner (over B) ≡ has_inner (over A)
  unfolding has_inner
  static_inner = ap (λ b. b || false) (list_inner x before after d w l)

  pub static_kept : Kept (over A) (over B)
  static_kept = record { names = static_names; body = static_body_names; inner = static_inner; symbols = λ v y. let less = static_symbols v y in omega (arith, less) }

  -- ---- what else is kept

  static_numbers : (k : ℕ) → count_of k (numbers (over B)) ≤ count_of k (numbers (over A))
  unfolding numbers
  static_numbers k =
      let s = list_numbers x before after d w l k in
      let b = ap (count_of k) (append-nil (numbers (listed B))) in
      let a = ap (count_of k) (append-nil (numbers (listed A))) in
      with_fewer number k (numbers (listed A) ++ []) (numbers (listed B) ++ []) (omega (arith, s, a, b))

  abbrev fewer_there : (o : Bool) (p : Path) → NoMoreClash (body_declarations o p (listed B)) (body_declarations o p (listed A))
  fewer_there = fewer x before after d w l m earlier later []

  static_once : (r : Path) → early_names r (over A) ≡ [] → early_names r (over B) ≡ []
  unfolding early_names scope_declarations
  static_once r e =
      let p = r ++ 0 ∷ [] in
      let (c, o) = empty_both (clashing [] (body_declarations true p (listed A))) (early_names p (listed A) ++ []) e in
      both_empty (clashing [] (body_declarations true p (listed B))) (early_names p (listed B) ++ []) (still_free (body_declarations true p (listed A)) (body_declarations true p (listed B)) (fewer_there true p) c)
      (append-nil (early_names p (listed B)) ∙ list_once x before after d w l p (sym (append-nil (early_names p (listed A))) ∙ o))

  static_targets : (g : Targets) (r : Path) → early_jumps g r (over A) ≡ [] → early_jumps g r (over B) ≡ []
  unfolding early_jumps targets_of
  static_targets g r e =
      let p = r ++ 0 ∷ [] in
      append-nil (early_jumps no_targets p (listed B)) ∙ list_targets x before after d w l no_targets p (sym (append-nil (early_jumps no_targets p (listed A))) ∙ e)

  pub static_keeps : AllUnmentioned (record { name = x; hoists = false }) B → KeepsLoosely Elsewhere (over A) (over B)
  unfolding is_loop
  static_keeps u = record {
    bound = static_names declared.Bound;
    lexical = static_names declared.Lexical;
    hoisted = λ y. ap (λ ys. is_among ys y) (static_names declared.Hoisted);
    body = λ v env s a r. ap (first_symbol r) static_body_names;
    inner = inl static_inner;
    scoped = λ v env s a. static_scoped (hoists_too (listed none) x before after d w l m refl earlier later u) v env a;
    symbols = λ v env s a. static_kept.symbols v;
    numbers = static_numbers;
    declared_as_body = λ b q. no_more_same (body_declarations b q (over A)) (body_declarations b q (over B)) (body_same b q q (over A) (over B) (static_as_body b));
    once = static_once;
    targets = static_targets;
    loop = refl;
    root = λ e. refl;
    block = λ e b q. fewer_there b (q ++ 0 ∷ []);
  }

  pub static_fixed : (y : Variable) → variable_eq (variable_of x) y ≡ false → fixed_by (over A) y ≡ fixed_by (over B) y
  static_fixed y o = of_one shape.StaticBlock [] number (listed A) y refl ∙ list_fixed x before after d w l y o ∙ sym (of_one shape.StaticBlock [] number (listed B) y refl)

  pub static_declares : (y : Name) → Contains (names_declared (over B)) y → Contains (names_declared (over A)) y
  static_declares y c = subst (λ ys. Contains ys y) (sym (append-nil (names_declared (listed A)))) (list_declares x before after d w l y (subst (λ ys. Contains ys y) (append-nil (names_declared (listed B))) c))
