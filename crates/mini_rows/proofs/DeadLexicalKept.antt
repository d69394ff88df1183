-- A class, a `let` or a `const` that never runs goes, and its names are declared anew: nothing else of it is kept.
use Rattle.std.specs.Prelude.{ℕ, suc, ◌≤◌, ◌≡◌, refl, ◌&&◌, ◌||◌, not, nat_eq, Bool, true, false, List, [], ◌∷◌, ◌++◌, Contains, Option}
use Rattle.std.proofs.Common.{◌<◌, ap, ◌∙◌, sym, subst, inl, inr, ◌⊎◌, true≢false, arith}
use Rattle.std.proofs.lemmas.Bool.{and_parts, eqb-true}
use Rattle.std.proofs.lemmas.List.{append-nil}
use Rattle.std.proofs.lemmas.List.Elements.{Contains-append_left}
use Rattle.mini_model.specs.declared.kind.VariableDeclarationKind.{VariableDeclarationKind}
use Rattle.mini_model.specs.declared.kind.VariableDeclarationKind.TheVariants.{Var, Let, Const}
use Rattle.mini_model.specs.declared.name.Name.{Name}
use Rattle.mini_model.specs.declared.name.SymbolId.{SymbolId}
use Rattle.mini_model.specs.declared.place.Position.TheVariants.{StatementList}
use Rattle.mini_model.specs.declared.shape.Shape.{Shape}
use Rattle.mini_model.specs.declared.shape.Shape.TheVariants as shape
use Rattle.mini_model.specs.Tree.{Tree, Trees, node, none, ◌▸◌, count, listed, shape_of, child_or_absent}
use Rattle.mini_model.specs.Paths.{append}
use Rattle.mini_laws.specs.declared.names.Use.{Use}
use Rattle.mini_laws.specs.declared.names.Use.TheVariants.{Read}
use Rattle.mini_laws.specs.declared.names.Binding.{Binding}
use Rattle.mini_laws.specs.declared.names.Declared.{Declared}
use Rattle.mini_laws.specs.declared.names.Declared.TheVariants as declared
use Rattle.mini_laws.specs.declared.names.Targets.{Targets}
use Rattle.mini_laws.specs.DeclaredNames.{names_of, all_names, first_names, body_names, bound_names, with_names}
use Rattle.mini_laws.specs.Scopes.{opened, use_of, is_alone, lexical_scope, name_if, scopes_by}
use Rattle.mini_laws.specs.Resolved.{Environment, symbol_of}
use Rattle.mini_laws.specs.Scoped.{NamesScoped, Scoped}
use Rattle.mini_laws.specs.Symbols.{symbols_in, declared as declared_in, declared_from, times}
use Rattle.mini_laws.specs.Early.{own_declarations, scope_declarations, early_names, targets_of, early_jumps}
use Rattle.mini_laws.specs.Value.{Variable, variables, choose, is_in}
use Rattle.mini_laws.specs.State.{Fixed, Writable}
use Rattle.mini_laws.specs.Naming.{summary, summaries, lets_first}
use Rattle.mini_laws.specs.Fixity.{fixity_by, stricter, fixed_by, fixed_by_any}
use Rattle.mini_laws.specs.Bodies.{Around, Body}
use Rattle.mini_laws.proofs.Changes.{times_three}
use Rattle.mini_kept.specs.AlikeBodies.{BodiesKept}
use Rattle.mini_kept.specs.Carried.{numbers}
use Rattle.mini_kept.specs.Declaring.{declared as names_declared, declared_all}
use Rattle.mini_kept.specs.Frames.{Frame, FramesKept}
use Rattle.mini_kept.specs.KeepsLoosely.{has_member, any_member}
use Rattle.mini_kept.specs.KeepsNames.{count_of}
use Rattle.mini_kept.specs.Loosely.{LessOften, FixedKept}
use Rattle.mini_kept.proofs.Anywhere.{once_anywhere, targets_anywhere}
use Rattle.mini_kept.proofs.Fixed.{of_children}
use Rattle.mini_kept.proofs.Hoisting.{bound_scoped}
use Rattle.mini_kept.proofs.Unplaced.{as_body}
use Rattle.mini_rows.specs.Arranged.{KeptLoosely}
use Rattle.mini_rows.specs.Lists.{binding, declarator, is_name_shape, encloses_by, encloses, all_enclose, is_terminated, any, are_terminated}
use Rattle.mini_rows.specs.DeadLexicals.{gives, first_gives, may_fade, kind_left, initializer, declarators, declared_with, faded, Row77Lexical}
use Rattle.mini_rows.specs.Sketches.{AList, Asked, AsWholeList, AsWholeItem, use_by, Leap}
use Rattle.mini_rows.proofs.Arranging.{All, Any, Local, sum_all, Summed}
use Rattle.mini_rows.proofs.ArrangedNames.{ScopedAs, scoped_local, symbol_times, symbols_summed, number_times, numbers_summed, Once, once_local, HasTarget, Aimed, aimed_local}
use Rattle.mini_rows.proofs.ArrangedBodies.{HasBodies, bodies_local, HasFrames, frames_local, Among, Declares, FixedBy, rank}
use Rattle.mini_rows.proofs.ArrangedFolds.{port}
use Rattle.mini_rows.proofs.ArrangedGather.{concat}
use Rattle.mini_rows.proofs.ArrangedValues.{Valued}
use Rattle.mini_rows.proofs.DeadLexicalMeaning.{first_lets, declarator_lets}
use Rattle.mini_rows.proofs.Enclosing.{Declares as Encloses, enclosed}
use Rattle.mini_rows.proofs.ListKeptDeclarations.{over, is_var, names_if, declares_as, scope_if, opens, used, names_are, body_are, declarations_are, scoped_up, symbols_are, numbers_are, declared_are, frames_are, bodies_are, once_is, jumps_are}
use Rattle.mini_rows.proofs.ListKeptStretch.{first_all, second_all, items_of, of_all, sum_items, sum_shortened, NamesStretched, StretchedBut, fixed_stretched, read_is, stretch_kept_by}
use Rattle.mini_rows.proofs.ListKeptUnreached.{regrouped}
use Rattle.mini_rows.proofs.ListKeptValues.{stricter_alone}
use Rattle.mini_rows.proofs.UnreachedNames.{hoisted_there}

none_in : {A : Type 0} {x : A} → Contains [] x → ⊥
none_in c = let none : c.0 < 0 = c.1 in omega (arith, none)

-- what a write of a name of the declaration does
abbrev own : VariableDeclarationKind → List Name → Variable → Fixed
own k xs y = choose (is_in y (variables xs)) (fixity_by (shape.VariableDeclaration k)) Writable

-- ---- a declarator of what is left

abbrev one : VariableDeclarationKind → Name → Tree
one k x = declarator (binding x) (initializer k)

init_fixed : (k : VariableDeclarationKind) (y : Variable) → fixed_by (initializer k) y ≡ Writable
init_fixed Const y = refl
init_fixed k y = refl

one_fixed : (k : VariableDeclarationKind) (x : Name) (y : Variable) → fixed_by (one k x) y ≡ Writable
one_fixed k x y = of_children shape.VariableDeclarator [] 0 (binding x ▸ (initializer k ▸ none)) y refl ∙ ap (λ f. stricter (fixed_by (binding x) y) (stricter f Writable)) (init_fixed k y)

one_once : (k : VariableDeclarationKind) (x : Name) → early_names [] (one k x) ≡ []
unfolding early_names scope_declarations
one_once Const x = refl
one_once k x = refl

one_jumps : (k : VariableDeclarationKind) (g : Targets) (x : Name) → early_jumps g [] (one k x) ≡ []
unfolding early_jumps targets_of
one_jumps Const g x = refl
one_jumps k g x = refl

one_numbers : (k : VariableDeclarationKind) (m : ℕ) (x : Name) → number_times m AsWholeItem (one k x) ≡ 0
unfolding numbers
one_numbers Const m x = refl
one_numbers k m x = refl

one_symbols : (k : VariableDeclarationKind) (u : Use) (z : Option SymbolId) (x : Name) → times z (declared_in u (one k x)) ≡ 0
unfolding declared_in scopes_by
one_symbols Const u z x = refl
one_symbols k u z x = refl

init_scoped : (k : VariableDeclarationKind) (env : Environment) → Scoped Read env (initializer k)
unfolding Scoped scopes_by
init_scoped Const env = (tt, tt)
init_scoped k env = (tt, tt)

one_scoped : (k : VariableDeclarationKind) (env : Environment) (x : Name) → x.symbol ≡ symbol_of Read x.spelling env → Scoped Read env (one k x)
unfolding Scoped scopes_by
one_scoped k env x e = (tt, (((e ∙ ap (symbol_of Read x.spelling) (sym (append-nil env)), tt), tt), (init_scoped k ((env ++ []) ++ []), tt)))

one_frames : (k : VariableDeclarationKind) (fs : List Frame) (x : Name) → HasFrames fs AsWholeItem (one k x)
one_frames Const fs x = λ f c. absurd (none_in c)
one_frames k fs x = λ f c. absurd (none_in c)

one_bodies : (k : VariableDeclarationKind) (bs : List Body) (r : Around) (x : Name) → HasBodies bs r AsWholeItem (one k x)
one_bodies Const bs r x = tt
one_bodies k bs r x = tt

-- ---- a list of them

module _ (J : Leap → Type 0) (Q : Asked → Tree → Type 0) (l : Local J Q) (k : VariableDeclarationKind) where
  each_one : ((x : Name) → Q AsWholeItem (one k x)) → (xs : List Name) → All Q AsWholeItem (declarators k xs)
  each_one q [] = tt
  each_one q (x ∷ xs) = (q x, each_one q xs)

  list_of : (ts : Trees) → All Q AsWholeItem ts → Q AsWholeList (listed ts)
  list_of ts a = l.up AList AsWholeList ts tt tt (of_all J Q AsWholeItem 0 ts a)

  one_list : ((x : Name) → Q AsWholeItem (one k x)) → (xs : List Name) → Q AsWholeList (listed (declarators k xs))
  one_list q xs = list_of (declarators k xs) (each_one q xs)

module _ (m : Asked → Tree → ℕ) (l : Summed m) (k : VariableDeclarationKind) (z : (x : Name) → m AsWholeItem (one k x) ≡ 0) where
  each_sum : (xs : List Name) → sum_all m AsWholeItem (declarators k xs) ≡ 0
  each_sum [] = refl
  each_sum (x ∷ xs) = omega (arith, z x, each_sum xs)

  list_sum : (xs : List Name) → m AsWholeList (listed (declarators k xs)) ≡ 0
  list_sum xs = l AList AsWholeList (declarators k xs) tt ∙ sum_items m l AsWholeItem 0 (declarators k xs) ∙ each_sum xs

pub names_given : (k : VariableDeclarationKind) (xs : List Name) → all_names declared.Bound (declarators k xs) ≡ xs
unfolding names_of
names_given k [] = refl
names_given k (x ∷ xs) = ap (λ r. x ∷ r) (names_given k xs)

declares_given : (k : VariableDeclarationKind) (xs : List Name) → declared_all (declarators k xs) ≡ xs
declares_given k [] = refl
declares_given Const (x ∷ xs) = ap (λ r. x ∷ r) (declares_given Const xs)
declares_given Let (x ∷ xs) = ap (λ r. x ∷ r) (declares_given Let xs)
declares_given Var (x ∷ xs) = ap (λ r. x ∷ r) (declares_given Var xs)

each_scoped : (k : VariableDeclarationKind) (env : Environment) (xs : List Name) → NamesScoped Read env xs → All (ScopedAs Read env) AsWholeItem (declarators k xs)
each_scoped k env [] a = tt
each_scoped k env (x ∷ xs) a = (one_scoped k env x a.0, each_scoped k env xs a.1)

each_fixed : (k : VariableDeclarationKind) (xs : List Name) (y : Variable) → fixed_by_any (declarators k xs) y ≡ Writable
each_fixed k [] y = refl
each_fixed k (x ∷ xs) y = (λ i. stricter (one_fixed k x y i) (each_fixed k xs y i))

-- ---- the declaration, or nothing

abbrev scope_alone : Bool → List Name → List Binding
scope_alone true xs = lexical_scope xs
scope_alone false xs = []

module _ (k : VariableDeclarationKind) (v : is_var k ≡ false) (xs : List Name) where
  abbrev left : Tree
  left = over k (listed (declarators k xs))

  left_fixed : (y : Variable) → fixed_by left y ≡ own k xs y
  left_fixed y =
      let rest : fixed_by (listed (declarators k xs)) y ≡ Writable = of_children shape.Listed [] 0 (declarators k xs) y refl ∙ each_fixed k xs y in
      ap (λ f. stricter (choose (is_in y (lets_first (summaries (listed (declarators k xs) ▸ none)))) (fixity_by (shape.VariableDeclaration k)) Writable) (stricter f Writable)) rest
      ∙ stricter_alone (choose (is_in y (lets_first (summaries (listed (declarators k xs) ▸ none)))) (fixity_by (shape.VariableDeclaration k)) Writable)
      ∙ ap (λ ys. choose (is_in y ys) (fixity_by (shape.VariableDeclaration k)) Writable) (declarator_lets k xs)

  left_declares : (all : List Name) → Among all xs → Declares all AsWholeItem left
  left_declares all a = subst (Among all) (sym (declared_are k (listed (declarators k xs)) ∙ declares_given k xs)) a

  left_frames : (fs : List Frame) → HasFrames fs AsWholeItem left
  left_frames fs = subst (FramesKept fs) (sym (frames_are k (listed (declarators k xs)))) (one_list Any (HasFrames fs) (frames_local fs) k (one_frames k fs) xs)

  left_bodies : (bs : List Body) (r : Around) → HasBodies bs r AsWholeItem left
  left_bodies bs r = subst (BodiesKept bs) (sym (bodies_are k r (listed (declarators k xs)))) (one_list Any (HasBodies bs r) (bodies_local bs r) k (one_bodies k bs r) xs)

  left_once : Once AsWholeItem left
  left_once = once_is k (listed (declarators k xs)) ∙ once_anywhere [] (0 ∷ []) (listed (declarators k xs)) (one_list Any Once once_local k (one_once k) xs)

  left_targets : (g : Targets) → Aimed g AsWholeItem left
  left_targets g = jumps_are k g (listed (declarators k xs)) ∙ targets_anywhere g [] (0 ∷ []) (listed (declarators k xs)) (one_list (HasTarget g) (Aimed g) (aimed_local g) k (one_jumps k g) xs)

  left_numbers : (m : ℕ) → number_times m AsWholeItem left ≡ 0
  left_numbers m = ap (count_of m) (numbers_are k (listed (declarators k xs))) ∙ list_sum (number_times m) (numbers_summed m) k (one_numbers k m) xs

  left_scope : (b : Bool) → scope_if b (listed (declarators k xs)) ≡ scope_alone b xs
  unfolding names_of
  left_scope true = ap lexical_scope (names_given k xs)
  left_scope false = refl

  opens_alone : (u : Use) → opens u k ≡ is_alone u
  opens_alone u = by k v
    where
      by : (k : VariableDeclarationKind) → is_var k ≡ false → opens u k ≡ is_alone u
      by Var e = absurd (true≢false e)
      by Let e = refl
      by Const e = refl

  left_symbols : (u : Use) (z : Option SymbolId) → times z (declared_in u left) ≡ times z (symbols_in (scope_alone (is_alone u) xs))
  left_symbols u z =
      let parts : times z (declared_in (used u k) (listed (declarators k xs))) ≡ 0 = list_sum (symbol_times (used u k) z) (symbols_summed (used u k) z) k (one_symbols k (used u k) z) xs in
      let scope = ap (λ bs. times z (symbols_in bs)) (ap (λ b. scope_if b (listed (declarators k xs))) (opens_alone u) ∙ left_scope (is_alone u)) in
      omega (arith, symbols_are u k z (listed (declarators k xs)), parts, scope)

  used_read : used Read k ≡ Read
  used_read = by k v
    where
      by : (k : VariableDeclarationKind) → is_var k ≡ false → used Read k ≡ Read
      by Var e = absurd (true≢false e)
      by Let e = refl
      by Const e = refl

  left_scoped : (env : Environment) → NamesScoped Read env xs → ScopedAs Read env AsWholeItem left
  left_scoped env a = scoped_up k env (listed (declarators k xs)) (subst (λ u. Scoped u env (listed (declarators k xs))) (sym used_read) (list_of Any (ScopedAs Read env) (scoped_local Read env) k (declarators k xs) (each_scoped k env xs a)))

-- whatever holds of a declaration of some names
module _ (k : VariableDeclarationKind) where
  all_left : (Q : Asked → Tree → Type 0) → (xs : List Name) → Q AsWholeItem (over k (listed (declarators k xs))) → All Q AsWholeItem (declared_with k xs)
  all_left Q [] q = tt
  all_left Q (x ∷ xs) q = (q, tt)

  sum_left : (m : Asked → Tree → ℕ) (xs : List Name) (j : ℕ) → m AsWholeItem (over k (listed (declarators k xs))) ≤ j → sum_all m AsWholeItem (declared_with k xs) ≤ j
  sum_left m [] j e = omega arith
  sum_left m (x ∷ xs) j e = omega (arith, e)

  left_gives : {A : Type 0} (g : Tree → List A) (f : List Name → List A) → f [] ≡ [] → ((ts : Trees) → g (over k (listed ts)) ≡ f (all_names declared.Bound ts)) → (xs : List Name) → concat g (declared_with k xs) ≡ f xs
  left_gives g f z e [] = sym z
  left_gives g f z e (x ∷ xs) = append-nil (g (over k (listed (declarators k (x ∷ xs))))) ∙ e (declarators k (x ∷ xs)) ∙ ap f (names_given k (x ∷ xs))

  left_ports : (m : Bool) (xs : List Name) → concat (port m) (declared_with k xs) ≡ []
  left_ports m [] = refl
  left_ports m (x ∷ xs) = refl

  left_calm : (xs : List Name) → All Valued AsWholeItem (declared_with k xs)
  left_calm [] = tt
  left_calm (x ∷ xs) = ((refl, refl), tt)

-- ---- what declares names in its list

record Declaring (t : Tree) (k : VariableDeclarationKind) (xs : List Name) : Type 0 where
  bound : names_of declared.Bound t ≡ []
  lexical : names_of declared.Lexical t ≡ xs
  hoisted : names_of declared.Hoisted t ≡ []
  body : body_names t ≡ xs
  as_body : (o : Bool) → as_body o t ≡ own_declarations true [] xs
  ports : (m : Bool) → port m t ≡ []
  scoped : (env : Environment) → Scoped Read env t → NamesScoped Read env xs
  symbols : (u : Use) (z : Option SymbolId) → times z (symbols_in (scope_alone (is_alone u) xs)) ≤ times z (declared_in u t)
  among : (x : Name) → Contains xs x → Contains (names_declared t) x
  fixed : (x : Variable) (env : Environment) → Scoped Read env t → (fixed_by t x ≡ own k xs x) ⊎ Encloses x (declared_in Read t)

either_way : (o : Bool) (xs : List Name) → own_declarations (not (o && false)) [] xs ++ [] ≡ own_declarations true [] xs
either_way true xs = append-nil (own_declarations true [] xs)
either_way false xs = append-nil (own_declarations true [] xs)

chosen_same : (b : Bool) (f : Fixed) → choose b f f ≡ f
chosen_same true f = refl
chosen_same false f = refl

-- a declaration of one list of declarators
module _ (ys : List Name) (n : ℕ) (ds : Tree) where
  declared_scoped : (env : Environment) → NamesScoped Read (env ++ []) (names_of declared.Bound ds) → NamesScoped Read env (names_of declared.Bound ds ++ [])
  declared_scoped env a = subst (NamesScoped Read env) (sym (append-nil (names_of declared.Bound ds))) (subst (λ e. NamesScoped Read e (names_of declared.Bound ds)) (append-nil env) a)

  scope_same : (u : Use) (z : Option SymbolId) (b : Bool) → times z (symbols_in (scope_alone b (names_of declared.Bound ds ++ []))) ≡ times z (symbols_in (scope_if b ds))
  scope_same u z true = ap (λ xs. times z (symbols_in (lexical_scope xs))) (append-nil (names_of declared.Bound ds))
  scope_same u z false = refl

  -- a `var` of the same declarators hoists what it binds
  declared_names : (x : Name) → Contains (names_of declared.Bound ds ++ []) x → Contains (declared_all (ds ▸ none)) x
  unfolding names_of
  declared_names x c = hoisted_there (over Var ds) x c

  module _ (k : VariableDeclarationKind) (w : is_var k ≡ false) where
    abbrev t : Tree
    t = node (shape.VariableDeclaration k) ys n (ds ▸ none)

    same_symbols : (u : Use) (z : Option SymbolId) → times z (declared_in u t) ≡ times z (declared_in u (over k ds))
    unfolding declared_in
    same_symbols u z = refl

    declared_symbols : (u : Use) (z : Option SymbolId) → times z (symbols_in (scope_alone (is_alone u) (names_of declared.Bound ds ++ []))) ≤ times z (declared_in u t)
    declared_symbols u z = omega (arith, scope_same u z (is_alone u), ap (λ b. times z (symbols_in (scope_if b ds))) (opens_alone k w [] u), symbols_are u k z ds, same_symbols u z)

    declared_fixed : (y : Variable) → (summary ds).lets ≡ variables (names_of declared.Bound ds) → fixed_by ds y ≡ Writable → fixed_by t y ≡ own k (names_of declared.Bound ds ++ []) y
    declared_fixed y e f =
        ap (λ g. stricter (choose (is_in y (summary ds).lets) (fixity_by (shape.VariableDeclaration k)) Writable) (stricter g Writable)) f
        ∙ stricter_alone (choose (is_in y (summary ds).lets) (fixity_by (shape.VariableDeclaration k)) Writable)
        ∙ ap (λ xs. choose (is_in y xs) (fixity_by (shape.VariableDeclaration k)) Writable) (e ∙ ap variables (sym (append-nil (names_of declared.Bound ds))))

    inside : (x : Variable) → Encloses x (declared_in Read ds) → used Read k ≡ Read → Encloses x (declared_in Read t)
    inside x d e =
        let is = symbols_are Read k d.symbol ds in
        record { symbol = d.symbol; either = d.either; there = omega (arith, d.there, is, same_symbols Read d.symbol, ap (λ u. times d.symbol (declared_in u ds)) e) }

    declared_either : (x : Variable) (env : Environment) → (summary ds).lets ≡ variables (names_of declared.Bound ds) → encloses false ds ≡ true → Scoped Read (env ++ []) ds → (fixed_by t x ≡ own k (names_of declared.Bound ds ++ []) x) ⊎ Encloses x (declared_in Read t)
    declared_either x env e f a = by (enclosed x Read (env ++ []) ds f a)
      where
        by : (fixed_by ds x ≡ Writable) ⊎ Encloses x (declared_in Read ds) → (fixed_by t x ≡ own k (names_of declared.Bound ds ++ []) x) ⊎ Encloses x (declared_in Read t)
        by (inl g) = inl (declared_fixed x e g)
        by (inr d) = inr (inside x d (used_read k w []))

-- a class
module _ (ys : List Name) (n : ℕ) where
  class_scoped : (ts : Trees) (env : Environment) → Scoped Read env (node (shape.Class true) ys n ts) → NamesScoped Read env (first_names ts)
  unfolding Scoped scopes_by names_of with_names
  class_scoped none env a = tt
  class_scoped (id ▸ none) env a = subst (λ e. NamesScoped Read e (names_of declared.Bound id)) (append-nil env) (bound_scoped Read (env ++ []) id a.1.0)
  class_scoped (id ▸ (s ▸ none)) env a = subst (λ e. NamesScoped Read e (names_of declared.Bound id)) (append-nil env) (bound_scoped Read (env ++ []) id a.1.0)
  class_scoped (id ▸ (s ▸ (b ▸ none))) env a = subst (λ e. NamesScoped Read e (names_of declared.Bound id)) (append-nil env) (bound_scoped Read (env ++ []) id a.1.0)
  class_scoped (id ▸ (s ▸ (b ▸ (c ▸ ts)))) env a = subst (λ e. NamesScoped Read e (names_of declared.Bound id)) (append-nil env) (bound_scoped Read (env ++ []) id a.1.0)

  class_names : (ts : Trees) (x : Name) → Contains (first_names ts) x → Contains (declared_all ts) x
  unfolding names_of
  class_names none x c = c
  class_names (t ▸ ts) x c = Contains-append_left (names_declared t) (declared_all ts) x (subst (λ xs. Contains xs x) (append-nil (names_declared t)) (hoisted_there (over Var t) x (subst (λ xs. Contains xs x) (sym (append-nil (names_of declared.Bound t))) c)))

  class_symbols : (ts : Trees) → nat_eq (count ts) 4 ≡ true → (u : Use) (z : Option SymbolId) → times z (symbols_in (scope_alone (is_alone u) (first_names ts))) ≤ times z (declared_in u (node (shape.Class true) ys n ts))
  unfolding declared_in scopes_by names_of
  class_symbols (id ▸ (s ▸ (b ▸ (c ▸ ts)))) e u z =
      let h = shape.Class true in
      let all = id ▸ (s ▸ (b ▸ (c ▸ ts))) in
      omega (arith, own_scope (is_alone u), times_three z (symbols_in (opened u h all 0)) (declared_in (use_of h u 0) id) (declared_from (opened u h all) (use_of h u) 1 (s ▸ (b ▸ (c ▸ ts)))))
    where
      own_scope : (b : Bool) → times z (symbols_in (scope_alone b (bound_names id))) ≤ times z (symbols_in (lexical_scope (name_if b id)))
      own_scope true = omega arith
      own_scope false = omega arith
  class_symbols ts e u z = absurd (cc e)

  class_either : (ts : Trees) (x : Variable) (env : Environment) → encloses false (node (shape.Class true) ys n ts) ≡ true → Scoped Read env (node (shape.Class true) ys n ts) → (fixed_by (node (shape.Class true) ys n ts) x ≡ own Let (first_names ts) x) ⊎ Encloses x (declared_in Read (node (shape.Class true) ys n ts))
  class_either ts x env e a = by (enclosed x Read env (node (shape.Class true) ys n ts) e a)
    where
      by : (fixed_by (node (shape.Class true) ys n ts) x ≡ Writable) ⊎ Encloses x (declared_in Read (node (shape.Class true) ys n ts)) → (fixed_by (node (shape.Class true) ys n ts) x ≡ own Let (first_names ts) x) ⊎ Encloses x (declared_in Read (node (shape.Class true) ys n ts))
      by (inl f) = inl (f ∙ sym (chosen_same (is_in x (variables (first_names ts))) Writable))
      by (inr d) = inr d

not_one : (ts : Trees) → nat_eq (suc (suc (count ts))) 1 ≡ true → ⊥
not_one ts e = let same = eqb-true (suc (suc (count ts))) 1 e in omega (arith, same)

declaring : (t : Tree) → may_fade t ≡ true → Declaring t (kind_left (shape_of t)) (names_of declared.Lexical t)
unfolding names_of body_names Scoped scopes_by
declaring (node (shape.VariableDeclaration Let) ys n (ds ▸ none)) f =
    let (given, gone) = and_parts (first_gives (ds ▸ none)) (encloses false ds) f in
    record {
      bound = refl;
      lexical = refl;
      hoisted = refl;
      body = append-nil (names_of declared.Bound ds ++ []);
      as_body = λ o. either_way o (names_of declared.Bound ds ++ []);
      ports = λ m. refl;
      scoped = λ env a. declared_scoped ys n ds env (bound_scoped Read (env ++ []) ds a.1.0);
      symbols = declared_symbols ys n ds Let refl;
      among = declared_names ys n ds;
      fixed = λ x env a. declared_either ys n ds Let refl x env (first_lets (ds ▸ none) given) gone a.1.0;
    }
declaring (node (shape.VariableDeclaration Const) ys n (ds ▸ none)) f =
    let (given, gone) = and_parts (first_gives (ds ▸ none)) (encloses false ds) f in
    record {
      bound = refl;
      lexical = refl;
      hoisted = refl;
      body = append-nil (names_of declared.Bound ds ++ []);
      as_body = λ o. either_way o (names_of declared.Bound ds ++ []);
      ports = λ m. refl;
      scoped = λ env a. declared_scoped ys n ds env (bound_scoped Read (env ++ []) ds a.1.0);
      symbols = declared_symbols ys n ds Const refl;
      among = declared_names ys n ds;
      fixed = λ x env a. declared_either ys n ds Const refl x env (first_lets (ds ▸ none) given) gone a.1.0;
    }
declaring (node (shape.VariableDeclaration Let) ys n none) f = absurd (true≢false (sym f))
declaring (node (shape.VariableDeclaration Let) ys n (ds ▸ (u ▸ ts))) f = absurd (not_one ts (and_parts (nat_eq (count (ds ▸ (u ▸ ts))) 1) (encloses false ds) (and_parts (gives ds) (nat_eq (count (ds ▸ (u ▸ ts))) 1 && encloses false ds) f).1).0)
declaring (node (shape.VariableDeclaration Const) ys n none) f = absurd (true≢false (sym f))
declaring (node (shape.VariableDeclaration Const) ys n (ds ▸ (u ▸ ts))) f = absurd (not_one ts (and_parts (nat_eq (count (ds ▸ (u ▸ ts))) 1) (encloses false ds) (and_parts (gives ds) (nat_eq (count (ds ▸ (u ▸ ts))) 1 && encloses false ds) f).1).0)
declaring (node (shape.Class true) ys n ts) f =
    let (given, gone) = and_parts (first_gives ts) (encloses false (node (shape.Class true) ys n ts)) f in
    let (itself, below) = and_parts (encloses_by false (shape.Class true) ts) (all_enclose false (shape.Class true) 0 ts) gone in
    record {
      bound = refl;
      lexical = refl;
      hoisted = refl;
      body = append-nil (first_names ts);
      as_body = λ o. either_way o (first_names ts);
      ports = λ m. refl;
      scoped = class_scoped ys n ts;
      symbols = class_symbols ys n ts (and_parts (nat_eq (count ts) 4) (is_name_shape (shape_of (child_or_absent ts 3))) itself).0;
      among = class_names ys n ts;
      fixed = λ x env a. class_either ys n ts x env gone a;
    }
declaring (node h ys n ts) f = absurd (true≢false (sym f))

-- ---- it, and what is left of it

left_lexical : (h : Shape) → is_var (kind_left h) ≡ false
left_lexical (shape.VariableDeclaration Const) = refl
left_lexical h = refl

module _ (t : Tree) (k : VariableDeclarationKind) (v : is_var k ≡ false) (xs : List Name) (d : Declaring t k xs) where
  names_lexical : (ys : List Name) → names_if (declares_as declared.Lexical k) ys ≡ ys
  names_lexical ys = ap (λ b. names_if (not b) ys) v

  none_hoisted : (ys : List Name) → names_if (declares_as declared.Hoisted k) ys ≡ []
  none_hoisted ys = ap (λ b. names_if b ys) v

  names_same : (c : Declared) → concat (names_of c) (declared_with k xs) ≡ concat (names_of c) (t ▸ none)
  names_same declared.Bound = left_gives k (names_of declared.Bound) (names_if false) refl (names_are declared.Bound k) xs ∙ sym (ap (λ r. r ++ []) d.bound)
  names_same declared.Lexical = left_gives k (names_of declared.Lexical) (λ ys. ys) refl (λ ts. names_are declared.Lexical k ts ∙ names_lexical (all_names declared.Bound ts)) xs ∙ sym (append-nil (names_of declared.Lexical t) ∙ d.lexical)
  names_same declared.Hoisted = left_gives k (names_of declared.Hoisted) (λ ys. []) refl (λ ts. names_are declared.Hoisted k ts ∙ none_hoisted (all_names declared.Bound ts)) xs ∙ sym (ap (λ r. r ++ []) d.hoisted)

  named : NamesStretched (t ▸ none) (declared_with k xs)
  named = record {
    names = names_same;
    body = left_gives k body_names (λ ys. ys) refl (body_are k) xs ∙ sym (append-nil (body_names t) ∙ d.body);
    as_body = λ o. left_gives k (as_body o) (own_declarations true []) refl (λ ts. declarations_are o k ts ∙ ap (λ b. own_declarations (not b) [] (all_names declared.Bound ts)) v) xs ∙ sym (append-nil (as_body o t) ∙ d.as_body o);
    ports = λ m. left_ports k m xs ∙ sym (ap (λ r. r ++ []) (d.ports m));
    scoped = λ env a. all_left k (ScopedAs Read env) xs (left_scoped k v xs env (d.scoped env a.0));
    symbols = λ u z. sum_left k (symbol_times u z) xs _ (let same = left_symbols k v xs (use_by u AsWholeItem) z in let old = d.symbols (use_by u AsWholeItem) z in omega (arith, same, old));
    once = λ a. all_left k Once xs (left_once k v xs);
  }

  stretched : StretchedBut (t ▸ none) (declared_with k xs)
  stretched = record {
    named = λ strict c f. named;
    calm = λ strict c f. left_calm k xs;
    declares = λ all a. all_left k (Declares all) xs (left_declares k v xs all (λ y c. a.0 y (d.among y c)));
    frames = λ fs a. all_left k (HasFrames fs) xs (left_frames k v xs fs);
    bodies = λ bs r a. all_left k (HasBodies bs r) xs (left_bodies k v xs bs r);
    targets = λ g a. all_left k (Aimed g) xs (left_targets k v xs g);
    numbers = λ i. sum_left k (number_times i) xs _ (let same = left_numbers k v xs i in omega (arith, same));
  }

  none_read : (z : Option SymbolId) → sum_all (symbol_times Read z) AsWholeItem (declared_with k xs) ≤ 0
  none_read z = sum_left k (symbol_times Read z) xs 0 (let same = left_symbols k v xs Read z in omega (arith, same))

  fixed_down : (x : Variable) (i : ℕ) → rank (own k xs x) ≤ i → All (FixedBy x i) AsWholeItem (declared_with k xs)
  fixed_down x i e = all_left k (FixedBy x i) xs (subst (λ f. rank f ≤ i) (sym (left_fixed k v xs x)) e)

  fixed_up : (x : Variable) (i : ℕ) → All (FixedBy x i) AsWholeItem (declared_with k xs) → rank (own k xs x) ≤ i
  fixed_up x i = by xs (λ ys. left_fixed k v ys x)
    where
      by : (ys : List Name) → ((zs : List Name) → fixed_by (over k (listed (declarators k zs))) x ≡ own k zs x) → All (FixedBy x i) AsWholeItem (declared_with k ys) → rank (own k ys x) ≤ i
      by [] e a = omega arith
      by (y ∷ ys) e a = subst (λ f. rank f ≤ i) (e (y ∷ ys)) a.0

  fixed_or_less : (before after : Trees) → FixedKept StatementList (listed (append before (append (t ▸ none) after))) (listed (append before (append (declared_with k xs) after)))
  fixed_or_less before after = record { by = λ strict s o f u env st a x. subst (λ c. Told c x) (sym (read_is u st)) (told x env (subst (λ c. Scoped c env n) (read_is u st) a)) }
    where
      n : Tree
      n = listed (append before (append (t ▸ none) after))

      w : Tree
      w = listed (append before (append (declared_with k xs) after))

      Told : Use → Variable → Type 0
      Told u x = (fixed_by n x ≡ fixed_by w x) ⊎ LessOften u x n w

      told : (x : Variable) (env : Environment) → Scoped Read env n → Told Read x
      told x env a = by (d.fixed x env its)
        where
          its : Scoped Read env t
          its = (first_all Any (ScopedAs Read env) AsWholeItem (t ▸ none) after (second_all Any (ScopedAs Read env) AsWholeItem before (append (t ▸ none) after) (items_of Any (ScopedAs Read env) (scoped_local Read env) (append before (append (t ▸ none) after)) a))).0

          by : (fixed_by t x ≡ own k xs x) ⊎ Encloses x (declared_in Read t) → Told Read x
          by (inl f) = inl (fixed_stretched x before after (t ▸ none) (declared_with k xs) (λ i b. fixed_down x i (subst (λ g. rank g ≤ i) f b.0)) (λ i b. (subst (λ g. rank g ≤ i) (sym f) (fixed_up x i b), tt)))
          by (inr c) = inr (record { declared = c.symbol; either = c.either; less = sum_shortened (symbol_times Read c.symbol) (symbols_summed Read c.symbol) before after (t ▸ none) (declared_with k xs) (let nothing_left = none_read c.symbol in omega (arith, c.there, nothing_left)) })

-- ---- what ends in a jump is a statement, and so no part of parameters

or_member : (b c : Bool) → c ≡ true → (b || c) ≡ true
or_member true c e = refl
or_member false c e = e

either_member : (a b c d : Bool) → (a ≡ true → c ≡ true) → (b ≡ true → d ≡ true) → (a || b) ≡ true → (c || d) ≡ true
either_member true b c d f g e = ap (λ x. x || d) (f refl)
either_member false b c d f g e = or_member c d (g e)

mutual
  ended_member : (t : Tree) → is_terminated t ≡ true → has_member t ≡ true
  ended_member (node shape.ReturnStatement xs n ts) e = refl
  ended_member (node shape.ThrowStatement xs n ts) e = refl
  ended_member (node shape.BreakStatement xs n ts) e = refl
  ended_member (node shape.ContinueStatement xs n ts) e = refl
  ended_member (node shape.Listed xs n ts) e = any_ended ts e
  ended_member (node shape.BlockStatement xs n ts) e = refl
  ended_member (node shape.IfStatement xs n ts) e = refl
  ended_member (node shape.TryStatement xs n ts) e = refl
  ended_member (node shape.CatchClause xs n ts) e = refl
  ended_member (node h xs n ts) e = absurd (true≢false (sym e))

  any_ended : (ts : Trees) → any (are_terminated ts) ≡ true → any_member ts ≡ true
  any_ended none e = absurd (true≢false (sym e))
  any_ended (t ▸ ts) e = either_member (is_terminated t) (any (are_terminated ts)) (has_member t) (any_member ts) (λ f. ended_member t f) (λ f. any_ended ts f) e

member_among : (before : Trees) (t : Tree) (after : Trees) → has_member t ≡ true → any_member (append before (t ▸ after)) ≡ true
member_among none t after e = ap (λ b. b || any_member after) e
member_among (u ▸ before) t after e = or_member (has_member u) (any_member (append before (t ▸ after))) (member_among before t after e)

member_later : (before after : Trees) → any_member before ≡ true → any_member (append before after) ≡ true
member_later none after e = absurd (true≢false (sym e))
member_later (u ▸ before) after e = either_member (has_member u) (any_member before) (has_member u) (any_member (append before after)) (λ f. f) (λ f. member_later before after f) e

-- ---- in a list

pub lexical_kept : (before after : Trees) (n w : Tree) (a b : Trees) → Row77Lexical a b → n ≡ listed (append before (append a after)) → w ≡ listed (append before (append b after)) → KeptLoosely StatementList n w
lexical_kept before after n w a b r f g =
    let earlier = append before (r.first ▸ r.between) in
    let k = kind_left (shape_of r.gone) in
    let xs = names_of declared.Lexical r.gone in
    let v = left_lexical (shape_of r.gone) in
    let d = declaring r.gone r.fades in
    let there = member_later earlier (append (r.gone ▸ none) after) (member_among before r.first r.between (ended_member r.first r.terminated)) in
    subst (λ t. KeptLoosely StatementList t w) (sym (f ∙ ap (λ ts. listed (append before (append ts after))) r.shape ∙ ap listed (regrouped before r.first r.between (r.gone ▸ none) after)))
    (subst (KeptLoosely StatementList (listed (append earlier (append (r.gone ▸ none) after)))) (sym (g ∙ ap (λ ts. listed (append before (append ts after))) r.written ∙ ap listed (regrouped before r.first r.between (faded r.gone) after)))
    (stretch_kept_by earlier after (r.gone ▸ none) (faded r.gone) (stretched r.gone k v xs d) FixedKept (inr there) (fixed_or_less r.gone k v xs d earlier after)))
