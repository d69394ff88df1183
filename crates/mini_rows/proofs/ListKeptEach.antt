-- A `var` that goes into the head of the `for..in` or `for..of` after it, which assigns to its name, is kept.
use Rattle.std.specs.Prelude.{◌≤◌, ◌≡◌, refl, ◌||◌, Bool, true, false, List, [], ◌∷◌, ◌++◌, Contains, None}
use Rattle.std.proofs.Common.{ap, ◌∙◌, sym, subst, arith, inl, inr, ◌⊎◌}
use Rattle.std.proofs.lemmas.List.{append-nil}
use Rattle.std.proofs.lemmas.List.Elements.{Contains-append_cases}
use Rattle.mini_model.specs.declared.kind.VariableDeclarationKind.TheVariants.{Var}
use Rattle.mini_model.specs.declared.name.Name.{Name}
use Rattle.mini_model.specs.declared.place.Position.TheVariants.{StatementList}
use Rattle.mini_model.specs.declared.shape.Shape.TheVariants as shape
use Rattle.mini_model.specs.Tree.{Tree, Trees, none, ◌▸◌, absent, listed, identifier}
use Rattle.mini_model.specs.Paths.{append}
use Rattle.mini_laws.specs.declared.names.Use.{Use}
use Rattle.mini_laws.specs.declared.names.Use.TheVariants.{Read, Write, Hoisted, Headed}
use Rattle.mini_laws.specs.declared.names.Declared.{Declared}
use Rattle.mini_laws.specs.declared.names.Declared.TheVariants as declared
use Rattle.mini_laws.specs.declared.names.Targets.{Targets}
use Rattle.mini_laws.specs.DeclaredNames.{has_inner, names_of, body_names, with_names}
use Rattle.mini_laws.specs.Scopes.{scopes_by}
use Rattle.mini_laws.specs.Resolved.{Environment, symbol_of}
use Rattle.mini_laws.specs.Scoped.{Scoped}
use Rattle.mini_laws.specs.Symbols.{declared as declared_in, times}
use Rattle.mini_laws.specs.Early.{own_declarations, declarations, scope_declarations, early_names, targets_of, early_jumps}
use Rattle.mini_laws.specs.Value.{Variable}
use Rattle.mini_laws.specs.State.{Writable}
use Rattle.mini_laws.specs.Fixity.{stricter, fixed_by, fixed_by_any}
use Rattle.mini_laws.specs.Bodies.{Around, bodies}
use Rattle.mini_kept.specs.AlikeBodies.{BodiesKept}
use Rattle.mini_kept.specs.Carried.{numbers}
use Rattle.mini_kept.specs.Declaring.{declared as names_declared}
use Rattle.mini_kept.specs.Frames.{frames, FramesKept}
use Rattle.mini_kept.specs.KeepsNames.{count_of}
use Rattle.mini_kept.proofs.Fixed.{of_children}
use Rattle.mini_kept.proofs.Unplaced.{as_body}
use Rattle.mini_rows.specs.Lists.{binding, declarator, resolved, Each, EachIn, EachOf, each_loop, bare_var, Row69}
use Rattle.mini_rows.specs.Arranged.{KeptAt}
use Rattle.mini_rows.specs.Sketches.{AsWholeItem}
use Rattle.mini_rows.proofs.Arranging.{All}
use Rattle.mini_rows.proofs.ArrangedBodies.{quiet, Among, Declares, rank}
use Rattle.mini_rows.proofs.ArrangedValues.{Valued}
use Rattle.mini_rows.proofs.ArrangedFolds.{port}
use Rattle.mini_rows.proofs.ListKeptStretch.{NamesStretched, Stretched, stretch_kept}
use Rattle.mini_rows.proofs.ListKeptValues.{stricter_alone}
use Rattle.mini_rows.proofs.WrittenNames.{found_in_head, target_found, Nameless, nameless_by}

-- ---- the head that assigns to the name, and the one that declares it

module _ (x : Name) (right body : Tree) where
  abbrev var : Tree
  var = bare_var x

  abbrev old : Each → Tree
  old k = each_loop k (identifier x) right body

  abbrev new : Each → Tree
  new k = each_loop k var right body

  inner_same : (k : Each) → has_inner (new k) ≡ has_inner (old k)
  unfolding has_inner
  inner_same EachIn = refl
  inner_same EachOf = refl

  no_inner : has_inner var ≡ false
  unfolding has_inner
  no_inner = refl

  bare_fixed : (z : Variable) → fixed_by (declarator (binding x) absent) z ≡ Writable
  bare_fixed z = of_children shape.VariableDeclarator [] 0 (binding x ▸ (absent ▸ none)) z refl

  list_fixed : (z : Variable) → fixed_by (listed (declarator (binding x) absent ▸ none)) z ≡ Writable
  list_fixed z = of_children shape.Listed [] 0 (declarator (binding x) absent ▸ none) z refl ∙ stricter_alone (fixed_by (declarator (binding x) absent) z) ∙ bare_fixed z

  var_fixed : (z : Variable) → fixed_by var z ≡ Writable
  var_fixed z = of_children (shape.VariableDeclaration Var) [] 0 (listed (declarator (binding x) absent ▸ none) ▸ none) z refl ∙ stricter_alone (fixed_by (listed (declarator (binding x) absent ▸ none)) z) ∙ list_fixed z

  name_fixed : (z : Variable) → fixed_by (identifier x) z ≡ Writable
  name_fixed z = of_children shape.Identifier (x ∷ []) 0 none z refl

  each_fixed : (k : Each) (l : Tree) (z : Variable) → fixed_by (each_loop k l right body) z ≡ stricter (fixed_by l z) (fixed_by_any (right ▸ (body ▸ none)) z)
  each_fixed EachIn l z = of_children shape.ForInStatement [] 0 (l ▸ (right ▸ (body ▸ none))) z refl
  each_fixed EachOf l z = of_children shape.ForOfStatement [] 0 (l ▸ (right ▸ (body ▸ none))) z refl

  fixed_same : (k : Each) (z : Variable) → fixed_by (new k) z ≡ fixed_by (old k) z
  fixed_same k z = each_fixed k var z ∙ ap (λ f. stricter f (fixed_by_any (right ▸ (body ▸ none)) z)) (var_fixed z ∙ sym (name_fixed z)) ∙ sym (each_fixed k (identifier x) z)

  declared_same : (k : Each) → names_declared (new k) ≡ x ∷ names_declared (old k)
  declared_same EachIn = refl
  declared_same EachOf = refl

  frames_same : (k : Each) → frames None (new k) ≡ frames None (old k)
  frames_same EachIn = refl
  frames_same EachOf = refl

  bodies_same : (k : Each) (r : Around) → bodies (quiet r) (new k) ≡ bodies (quiet r) (old k)
  bodies_same EachIn r = refl
  bodies_same EachOf r = refl

  numbers_same : (k : Each) → numbers (new k) ≡ numbers (old k)
  unfolding numbers
  numbers_same EachIn = refl
  numbers_same EachOf = refl

  jumps_same : (k : Each) (g : Targets) → early_jumps g [] (new k) ≡ early_jumps g [] (old k)
  unfolding early_jumps targets_of
  jumps_same EachIn g = refl
  jumps_same EachOf g = refl

  once_same : (k : Each) → early_names [] (new k) ≡ early_names [] (old k)
  unfolding early_names scope_declarations declarations
  once_same EachIn = refl
  once_same EachOf = refl

  symbols_same : (k : Each) (u : Use) → declared_in u (new k) ≡ declared_in u (old k)
  unfolding declared_in scopes_by names_of
  symbols_same EachIn u = refl
  symbols_same EachOf u = refl

  deeper : (env : Environment) → env ≡ ((env ++ []) ++ []) ++ []
  deeper env = sym (append-nil ((env ++ []) ++ []) ∙ append-nil (env ++ []) ∙ append-nil env)

  declared_there : (env : Environment) → Scoped Read env var → x.symbol ≡ symbol_of Hoisted x.spelling env
  unfolding Scoped scopes_by
  declared_there env a = a.1.0.1.0.1.0.0.0 ∙ ap (symbol_of Hoisted x.spelling) (sym (deeper env))

  -- in the head of a loop it writes its name
  var_headed : (env : Environment) → x.symbol ≡ symbol_of Headed x.spelling env → x.symbol ≡ symbol_of Read x.spelling env → Scoped Write env var
  unfolding Scoped scopes_by
  var_headed env e f =
      let inner = (env ++ []) ++ [] in
      let there : env ≡ inner = sym (append-nil (env ++ []) ∙ append-nil env) in
      let no_name : Nameless Headed inner (binding x ▸ (absent ▸ none)) = subst (λ r. Nameless Headed r (binding x ▸ (absent ▸ none))) there (nameless_by Headed env x true e (λ z. f)) in
      let named : Scoped Headed (inner ++ []) (binding x) = ((e ∙ ap (symbol_of Headed x.spelling) (deeper env), tt), tt) in
      let nothing : Scoped Read ((inner ++ []) ++ []) absent = (tt, tt) in
      let alone : Scoped Headed inner (declarator (binding x) absent) = (no_name, (named, (nothing, tt))) in
      (tt, ((tt, (alone, tt)), tt))

  written_there : (env : Environment) → Scoped Read env var → Scoped Write env (identifier x) → Scoped Write env var
  written_there env a b = var_headed env (declared_there env a ∙ found_in_head x.spelling env) (target_found env x b)

  in_head : (env : Environment) → Scoped Read env var → Scoped Write (env ++ []) (identifier x) → Scoped Write (env ++ []) var
  in_head env a b = subst (λ r. Scoped Write r var) (sym (append-nil env)) (written_there env a (subst (λ r. Scoped Write r (identifier x)) (append-nil env) b))

  scoped_same : (k : Each) (env : Environment) → Scoped Read env var → Scoped Read env (old k) → Scoped Read env (new k)
  unfolding Scoped scopes_by names_of with_names
  scoped_same EachIn env a b = (b.0, (in_head env a b.1.0, b.1.1))
  scoped_same EachOf env a b = (b.0, (in_head env a b.1.0, b.1.1))

  hoisted_same : (k : Each) → names_of declared.Hoisted (new k) ≡ x ∷ names_of declared.Hoisted (old k)
  unfolding names_of
  hoisted_same EachIn = refl
  hoisted_same EachOf = refl

  var_hoists : names_of declared.Hoisted var ≡ x ∷ []
  unfolding names_of
  var_hoists = refl

  no_names : (k : Each) (l : Tree) → (names_of declared.Bound (each_loop k l right body) ≡ []) × (names_of declared.Lexical (each_loop k l right body) ≡ [])
  unfolding names_of
  no_names EachIn l = (refl, refl)
  no_names EachOf l = (refl, refl)

  no_more : (names_of declared.Bound var ≡ []) × (names_of declared.Lexical var ≡ [])
  unfolding names_of
  no_more = (refl, refl)

  each_body : (k : Each) (l : Tree) → body_names (each_loop k l right body) ≡ names_of declared.Hoisted (each_loop k l right body)
  unfolding body_names names_of
  each_body EachIn l = refl
  each_body EachOf l = refl

  var_body : body_names var ≡ x ∷ []
  unfolding body_names names_of
  var_body = refl

  each_as_body : (o : Bool) (k : Each) (l : Tree) → as_body o (each_loop k l right body) ≡ own_declarations false [] (names_of declared.Hoisted (each_loop k l right body))
  unfolding names_of
  each_as_body o EachIn l = refl
  each_as_body o EachOf l = refl

  var_as_body : (o : Bool) → as_body o var ≡ own_declarations false [] (x ∷ [])
  unfolding names_of
  var_as_body o = refl

  each_port : (m : Bool) (k : Each) (l : Tree) → port m (each_loop k l right body) ≡ []
  each_port m EachIn l = refl
  each_port m EachOf l = refl

  -- ---- the two statements, and the loop

  module _ (k : Each) where
    abbrev two : Trees
    two = var ▸ (old k ▸ none)

    abbrev one : Trees
    one = new k ▸ none

    names_one : (d : Declared) → names_of d (new k) ++ [] ≡ names_of d var ++ (names_of d (old k) ++ [])
    names_one declared.Bound = (λ i. (no_names k var).0 i ++ []) ∙ (λ i. sym no_more.0 i ++ (sym (no_names k (identifier x)).0 i ++ []))
    names_one declared.Lexical = (λ i. (no_names k var).1 i ++ []) ∙ (λ i. sym no_more.1 i ++ (sym (no_names k (identifier x)).1 i ++ []))
    names_one declared.Hoisted = ap (λ r. r ++ []) (hoisted_same k) ∙ ap (λ r. r ++ (names_of declared.Hoisted (old k) ++ [])) (sym var_hoists)

    body_one : body_names (new k) ++ [] ≡ body_names var ++ (body_names (old k) ++ [])
    body_one = ap (λ r. r ++ []) (each_body k var ∙ hoisted_same k) ∙ (λ i. sym var_body i ++ (sym (each_body k (identifier x)) i ++ []))

    as_body_one : (o : Bool) → as_body o (new k) ++ [] ≡ as_body o var ++ (as_body o (old k) ++ [])
    as_body_one o = ap (λ r. r ++ []) (each_as_body o k var ∙ ap (own_declarations false []) (hoisted_same k)) ∙ (λ i. sym (var_as_body o) i ++ (sym (each_as_body o k (identifier x)) i ++ []))

    named : NamesStretched two one
    named = record {
      names = names_one;
      body = body_one;
      as_body = as_body_one;
      ports = λ m. ap (λ r. r ++ []) (each_port m k var ∙ sym (each_port m k (identifier x)));
      scoped = λ env a. (scoped_same k env a.0 a.1.0, tt);
      symbols = λ u z. omega (arith, ap (times z) (symbols_same k u));
      once = λ a. (once_same k ∙ a.1.0, tt);
    }

    declares_one : (xs : List Name) → All (Declares xs) AsWholeItem two → All (Declares xs) AsWholeItem one
    declares_one xs a = (subst (Among xs) (sym (declared_same k)) (λ z c. by z (Contains-append_cases (x ∷ []) (names_declared (old k)) z c)), tt)
      where
        by : (z : Name) → Contains (x ∷ []) z ⊎ Contains (names_declared (old k)) z → Contains xs z
        by z (inl c) = a.0 z c
        by z (inr c) = a.1.0 z c

    stretched_one : Stretched two one
    stretched_one = record {
      named = λ strict d f. named;
      calm = λ strict d f. (each_calm k, tt);
      inner = λ b a. (ap (λ c. c || b) (inner_same k) ∙ a.1.0, tt);
      inner_back = λ b a. (ap (λ c. c || b) no_inner, (ap (λ c. c || b) (sym (inner_same k)) ∙ a.0, tt));
      fixed = λ z m a. (subst (λ f. rank f ≤ m) (sym (fixed_same k z)) a.1.0, tt);
      fixed_back = λ z m a. (subst (λ f. rank f ≤ m) (sym (var_fixed z)) (omega arith), (subst (λ f. rank f ≤ m) (fixed_same k z) a.0, tt));
      declares = declares_one;
      frames = λ fs a. (subst (FramesKept fs) (sym (frames_same k)) a.1.0, tt);
      bodies = λ bs r a. (subst (BodiesKept bs) (sym (bodies_same k r)) a.1.0, tt);
      targets = λ g a. (jumps_same k g ∙ a.1.0, tt);
      numbers = λ n. omega (arith, ap (count_of n) (numbers_same k));
    }
      where
        each_calm : (k : Each) → Valued AsWholeItem (new k)
        each_calm EachIn = (refl, refl)
        each_calm EachOf = (refl, refl)

-- `var a; for (a of b) c` and `for (var a of b) c` in a list
pub each_kept : (k : Each) (before after : Trees) (n w : Tree) (a b : Trees) → Row69 k a b → n ≡ listed (append before (append a after)) → w ≡ listed (append before (append b after)) → KeptAt StatementList n w
each_kept k before after n w a b r f g =
    let x = resolved r.spelling r.symbol in
    subst (λ t. KeptAt StatementList t w) (sym (f ∙ ap (λ ts. listed (append before (append ts after))) r.shape))
    (subst (KeptAt StatementList (listed (append before (append (two x r.right r.body k) after)))) (sym (g ∙ ap (λ ts. listed (append before (append ts after))) r.written)) (stretch_kept before after (two x r.right r.body k) (one x r.right r.body k) (stretched_one x r.right r.body k)))
