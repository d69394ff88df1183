-- A statement that never runs goes, and its `var` names are declared without initializers: nothing else of it is kept.
use Rattle.std.specs.Prelude.{ℕ, ◌+◌, ◌≤◌, ◌≡◌, refl, ◌||◌, Bool, true, false, List, [], ◌∷◌, ◌++◌, Contains, Option}
use Rattle.std.proofs.Common.{◌<◌, ap, ◌∙◌, sym, subst, inl, inr, ◌⊎◌, arith}
use Rattle.std.proofs.lemmas.List.{append-nil}
use Rattle.mini_model.specs.declared.kind.VariableDeclarationKind.TheVariants.{Var}
use Rattle.mini_model.specs.declared.name.Name.{Name}
use Rattle.mini_model.specs.declared.name.SymbolId.{SymbolId}
use Rattle.mini_model.specs.declared.place.Position.TheVariants.{StatementList}
use Rattle.mini_model.specs.declared.shape.Shape.TheVariants as shape
use Rattle.mini_model.specs.Tree.{Tree, Trees, node, none, ◌▸◌, absent, listed}
use Rattle.mini_model.specs.Paths.{append}
use Rattle.mini_laws.specs.declared.names.Use.{Use}
use Rattle.mini_laws.specs.declared.names.Use.TheVariants.{Read, Hoisted}
use Rattle.mini_laws.specs.declared.names.Declared.{Declared}
use Rattle.mini_laws.specs.declared.names.Declared.TheVariants as declared
use Rattle.mini_laws.specs.declared.names.Targets.{Targets}
use Rattle.mini_laws.specs.DeclaredNames.{has_inner, names_of, all_names, body_names}
use Rattle.mini_laws.specs.Scopes.{scopes_by}
use Rattle.mini_laws.specs.Resolved.{Environment, symbol_of}
use Rattle.mini_laws.specs.Scoped.{NamesScoped, Scoped}
use Rattle.mini_laws.specs.Symbols.{declared as declared_in, times}
use Rattle.mini_laws.specs.Early.{own_declarations, scope_declarations, early_names, targets_of, early_jumps}
use Rattle.mini_laws.specs.Value.{Variable}
use Rattle.mini_laws.specs.State.{Writable}
use Rattle.mini_laws.specs.Fixity.{fixed_by}
use Rattle.mini_laws.specs.Bodies.{Around, Body}
use Rattle.mini_kept.specs.AlikeBodies.{BodiesKept}
use Rattle.mini_kept.specs.Carried.{numbers}
use Rattle.mini_kept.specs.Declaring.{declared_all}
use Rattle.mini_kept.specs.Frames.{Frame, FramesKept}
use Rattle.mini_kept.specs.KeepsLoosely.{has_member, any_member}
use Rattle.mini_kept.specs.KeepsNames.{count_of}
use Rattle.mini_kept.specs.Loosely.{LessOften, FixedKept}
use Rattle.mini_kept.proofs.Anywhere.{once_anywhere, targets_anywhere}
use Rattle.mini_kept.proofs.Fixed.{of_children}
use Rattle.mini_kept.proofs.Hoisting.{hoisted_scoped}
use Rattle.mini_kept.proofs.Unplaced.{as_body}
use Rattle.mini_rows.specs.Arranged.{KeptLoosely}
use Rattle.mini_rows.specs.Lists.{is_unscoped, binding, declarator, encloses, bare_declarators, declared_bare, left_behind, Row77Unreached}
use Rattle.mini_rows.specs.Sketches.{AList, Asked, AsWholeList, AsWholeItem, Leap}
use Rattle.mini_rows.proofs.Arranging.{All, Any, Local, sum_all, Summed}
use Rattle.mini_rows.proofs.ArrangedNames.{ScopedAs, scoped_local, symbol_times, symbols_summed, number_times, numbers_summed, InnerIf, inner_local, Once, once_local, HasTarget, Aimed, aimed_local}
use Rattle.mini_rows.proofs.ArrangedBetween.{append_more}
use Rattle.mini_rows.proofs.ArrangedBodies.{HasBodies, bodies_local, HasFrames, frames_local, Among, Declares, FixedBy, fixed_local, rank}
use Rattle.mini_rows.proofs.ArrangedFolds.{port}
use Rattle.mini_rows.proofs.ArrangedGather.{concat}
use Rattle.mini_rows.proofs.ArrangedValues.{Valued}
use Rattle.mini_rows.proofs.ListKeptValues.{stricter_alone}
use Rattle.mini_rows.proofs.ListKeptDeclarations.{over, used, names_if, names_are, body_are, declarations_are, scoped_up as var_scoped_up, symbols_are, inner_is, numbers_are, declared_are, frames_are, bodies_are, once_is, jumps_are}
use Rattle.mini_rows.proofs.Enclosing.{Declares as Encloses, enclosed}
use Rattle.mini_rows.proofs.ListKeptStretch.{first_all, second_all, items_of, of_all, sum_items, sum_shortened, NamesStretched, StretchedBut, fixed_stretched, read_is, stretch_kept_by}
use Rattle.mini_rows.proofs.UnreachedNames.{hoisted_there}

none_in : {A : Type 0} {x : A} → Contains [] x → ⊥
none_in c = let none : c.0 < 0 = c.1 in omega (arith, none)

-- ---- a declarator without an initializer

abbrev bare : Name → Tree
bare x = declarator (binding x) absent

bare_inner : (x : Name) → has_inner (bare x) ≡ false
unfolding has_inner
bare_inner x = refl

bare_fixed : (x : Name) (y : Variable) → fixed_by (bare x) y ≡ Writable
bare_fixed x y = of_children shape.VariableDeclarator [] 0 (binding x ▸ (absent ▸ none)) y refl

bare_once : (x : Name) → early_names [] (bare x) ≡ []
unfolding early_names scope_declarations
bare_once x = refl

bare_jumps : (g : Targets) (x : Name) → early_jumps g [] (bare x) ≡ []
unfolding early_jumps targets_of
bare_jumps g x = refl

bare_numbers : (k : ℕ) (x : Name) → number_times k AsWholeItem (bare x) ≡ 0
unfolding numbers
bare_numbers k x = refl

bare_symbols : (u : Use) (z : Option SymbolId) (x : Name) → symbol_times u z AsWholeItem (bare x) ≡ 0
unfolding declared_in scopes_by
bare_symbols u z x = refl

bare_scoped : (env : Environment) (x : Name) → x.symbol ≡ symbol_of Hoisted x.spelling env → Scoped Hoisted env (bare x)
unfolding Scoped scopes_by
bare_scoped env x e = (tt, (((e ∙ ap (symbol_of Hoisted x.spelling) (sym (append-nil env)), tt), tt), ((tt, tt), tt)))

-- ---- a list of them

module _ (J : Leap → Type 0) (Q : Asked → Tree → Type 0) (l : Local J Q) where
  list_of : (ts : Trees) → All Q AsWholeItem ts → Q AsWholeList (listed ts)
  list_of ts a = l.up AList AsWholeList ts tt tt (of_all J Q AsWholeItem 0 ts a)

  all_bare : ((x : Name) → Q AsWholeItem (bare x)) → (xs : List Name) → All Q AsWholeItem (bare_declarators xs)
  all_bare k [] = tt
  all_bare k (x ∷ xs) = (k x, all_bare k xs)

  bare_list : ((x : Name) → Q AsWholeItem (bare x)) → (xs : List Name) → Q AsWholeList (listed (bare_declarators xs))
  bare_list k xs = list_of (bare_declarators xs) (all_bare k xs)

module _ (m : Asked → Tree → ℕ) (l : Summed m) (z : (x : Name) → m AsWholeItem (bare x) ≡ 0) where
  all_sum : (xs : List Name) → sum_all m AsWholeItem (bare_declarators xs) ≡ 0
  all_sum [] = refl
  all_sum (x ∷ xs) = omega (arith, z x, all_sum xs)

  bare_sum : (xs : List Name) → m AsWholeList (listed (bare_declarators xs)) ≡ 0
  bare_sum xs = l AList AsWholeList (bare_declarators xs) tt ∙ sum_items m l AsWholeItem 0 (bare_declarators xs) ∙ all_sum xs

names_given : (xs : List Name) → all_names declared.Bound (bare_declarators xs) ≡ xs
unfolding names_of
names_given [] = refl
names_given (x ∷ xs) = ap (λ r. x ∷ r) (names_given xs)

declares_given : (xs : List Name) → declared_all (bare_declarators xs) ≡ xs
declares_given [] = refl
declares_given (x ∷ xs) = ap (λ r. x ∷ r) (declares_given xs)

all_scoped : (env : Environment) (xs : List Name) → NamesScoped Hoisted env xs → All (ScopedAs Hoisted env) AsWholeItem (bare_declarators xs)
all_scoped env [] a = tt
all_scoped env (x ∷ xs) a = (bare_scoped env x a.0, all_scoped env xs a.1)

-- ---- the `var`, or nothing

module _ (xs : List Name) where
  abbrev pub var : Tree
  var = over Var (listed (bare_declarators xs))

  pub var_inner : (b : Bool) → InnerIf b AsWholeItem var
  var_inner b = subst (λ c. (c || b) ≡ b) (sym (inner_is Var (listed (bare_declarators xs)))) (bare_list Any (InnerIf b) (inner_local b) (λ x. ap (λ c. c || b) (bare_inner x)) xs)

  pub var_fixed : (y : Variable) (k : ℕ) → FixedBy y k AsWholeItem var
  var_fixed y k =
      subst (λ f. rank f ≤ k) (sym (of_children (shape.VariableDeclaration Var) [] 0 (listed (bare_declarators xs) ▸ none) y refl ∙ stricter_alone (fixed_by (listed (bare_declarators xs)) y)))
      (bare_list Any (FixedBy y k) (fixed_local y k) (λ x. subst (λ f. rank f ≤ k) (sym (bare_fixed x y)) (omega arith)) xs)

  pub var_declares : (all : List Name) → Among all xs → Declares all AsWholeItem var
  var_declares all k = subst (Among all) (sym (declared_are Var (listed (bare_declarators xs)) ∙ declares_given xs)) k

  pub var_frames : (fs : List Frame) → HasFrames fs AsWholeItem var
  var_frames fs = subst (FramesKept fs) (sym (frames_are Var (listed (bare_declarators xs)))) (bare_list Any (HasFrames fs) (frames_local fs) (λ x f c. absurd (none_in c)) xs)

  pub var_bodies : (bs : List Body) (r : Around) → HasBodies bs r AsWholeItem var
  var_bodies bs r = subst (BodiesKept bs) (sym (bodies_are Var r (listed (bare_declarators xs)))) (bare_list Any (HasBodies bs r) (bodies_local bs r) (λ x. tt) xs)

  pub var_once : Once AsWholeItem var
  var_once = once_is Var (listed (bare_declarators xs)) ∙ once_anywhere [] (0 ∷ []) (listed (bare_declarators xs)) (bare_list Any Once once_local bare_once xs)

  pub var_targets : (g : Targets) → Aimed g AsWholeItem var
  var_targets g = jumps_are Var g (listed (bare_declarators xs)) ∙ targets_anywhere g [] (0 ∷ []) (listed (bare_declarators xs)) (bare_list (HasTarget g) (Aimed g) (aimed_local g) (bare_jumps g) xs)

  pub var_numbers : (k : ℕ) → number_times k AsWholeItem var ≡ 0
  var_numbers k = ap (count_of k) (numbers_are Var (listed (bare_declarators xs))) ∙ bare_sum (number_times k) (numbers_summed k) (bare_numbers k) xs

  pub var_symbols : (u : Use) (z : Option SymbolId) → symbol_times u z AsWholeItem var ≡ 0
  var_symbols u z = omega (arith, symbols_are u Var z (listed (bare_declarators xs)), bare_sum (symbol_times (used u Var) z) (symbols_summed (used u Var) z) (bare_symbols (used u Var) z) xs)

  pub var_scoped : (env : Environment) → NamesScoped Hoisted env xs → ScopedAs Read env AsWholeItem var
  var_scoped env a = var_scoped_up Var env (listed (bare_declarators xs)) (list_of Any (ScopedAs Hoisted env) (scoped_local Hoisted env) (bare_declarators xs) (all_scoped env xs a))

-- whatever holds of a `var` of some names
all_left : (Q : Asked → Tree → Type 0) → (xs : List Name) → Q AsWholeItem (var xs) → All Q AsWholeItem (declared_bare xs)
all_left Q [] q = tt
all_left Q (x ∷ xs) q = (q, tt)

left_sum : (m : Asked → Tree → ℕ) (xs : List Name) → m AsWholeItem (var xs) ≡ 0 → sum_all m AsWholeItem (declared_bare xs) ≡ 0
left_sum m [] e = refl
left_sum m (x ∷ xs) e = omega (arith, e)

pub left_gives : {A : Type 0} (g : Tree → List A) (f : List Name → List A) → f [] ≡ [] → ((ts : Trees) → g (over Var (listed ts)) ≡ f (all_names declared.Bound ts)) → (xs : List Name) → concat g (declared_bare xs) ≡ f xs
left_gives g f z e [] = sym z
left_gives g f z e (x ∷ xs) = append-nil (g (var (x ∷ xs))) ∙ e (bare_declarators (x ∷ xs)) ∙ ap f (names_given (x ∷ xs))

left_ports : (m : Bool) (xs : List Name) → concat (port m) (declared_bare xs) ≡ []
left_ports m [] = refl
left_ports m (x ∷ xs) = refl

left_calm : (xs : List Name) → All Valued AsWholeItem (declared_bare xs)
left_calm [] = tt
left_calm (x ∷ xs) = ((refl, refl), tt)

-- ---- a statement that declares nothing in its list but `var` names

pub record Loose (t : Tree) : Type 0 where
  pub bound : names_of declared.Bound t ≡ []
  pub lexical : names_of declared.Lexical t ≡ []
  pub body : body_names t ≡ names_of declared.Hoisted t
  pub as_body : (o : Bool) → as_body o t ≡ own_declarations false [] (names_of declared.Hoisted t)
  pub ports : (m : Bool) → port m t ≡ []

pub loose : (t : Tree) → is_unscoped t ≡ true → Loose t
unfolding names_of body_names
loose (node shape.ExpressionStatement xs n ts) e = record { bound = refl; lexical = refl; body = refl; as_body = λ o. refl; ports = λ m. refl }
loose (node shape.EmptyStatement xs n ts) e = record { bound = refl; lexical = refl; body = refl; as_body = λ o. refl; ports = λ m. refl }
loose (node shape.DebuggerStatement xs n ts) e = record { bound = refl; lexical = refl; body = refl; as_body = λ o. refl; ports = λ m. refl }
loose (node shape.BlockStatement xs n ts) e = record { bound = refl; lexical = refl; body = refl; as_body = λ o. refl; ports = λ m. refl }
loose (node shape.LabeledStatement xs n ts) e = record { bound = refl; lexical = refl; body = refl; as_body = λ o. refl; ports = λ m. refl }
loose (node shape.BreakStatement xs n ts) e = record { bound = refl; lexical = refl; body = refl; as_body = λ o. refl; ports = λ m. refl }
loose (node shape.ContinueStatement xs n ts) e = record { bound = refl; lexical = refl; body = refl; as_body = λ o. refl; ports = λ m. refl }
loose (node shape.ReturnStatement xs n ts) e = record { bound = refl; lexical = refl; body = refl; as_body = λ o. refl; ports = λ m. refl }
loose (node shape.ThrowStatement xs n ts) e = record { bound = refl; lexical = refl; body = refl; as_body = λ o. refl; ports = λ m. refl }
loose (node shape.IfStatement xs n ts) e = record { bound = refl; lexical = refl; body = refl; as_body = λ o. refl; ports = λ m. refl }
loose (node shape.SwitchStatement xs n ts) e = record { bound = refl; lexical = refl; body = refl; as_body = λ o. refl; ports = λ m. refl }
loose (node shape.TryStatement xs n ts) e = record { bound = refl; lexical = refl; body = refl; as_body = λ o. refl; ports = λ m. refl }
loose (node shape.WhileStatement xs n ts) e = record { bound = refl; lexical = refl; body = refl; as_body = λ o. refl; ports = λ m. refl }
loose (node shape.DoWhileStatement xs n ts) e = record { bound = refl; lexical = refl; body = refl; as_body = λ o. refl; ports = λ m. refl }
loose (node shape.ForStatement xs n ts) e = record { bound = refl; lexical = refl; body = refl; as_body = λ o. refl; ports = λ m. refl }
loose (node shape.ForInStatement xs n ts) e = record { bound = refl; lexical = refl; body = refl; as_body = λ o. refl; ports = λ m. refl }
loose (node shape.ForOfStatement xs n ts) e = record { bound = refl; lexical = refl; body = refl; as_body = λ o. refl; ports = λ m. refl }
loose (node (shape.VariableDeclaration Var) xs n ts) e = record { bound = refl; lexical = refl; body = refl; as_body = λ o. refl; ports = λ m. refl }
loose t e = absurd (cc e)

-- ---- it, and what is left of it

module _ (t : Tree) (k : Loose t) where
  abbrev hoisted : List Name
  hoisted = names_of declared.Hoisted t

  abbrev left : Trees
  left = left_behind t

  names_same : (d : Declared) → concat (names_of d) left ≡ concat (names_of d) (t ▸ none)
  names_same declared.Bound = left_gives (names_of declared.Bound) (names_if false) refl (names_are declared.Bound Var) hoisted ∙ sym (ap (λ r. r ++ []) k.bound)
  names_same declared.Lexical = left_gives (names_of declared.Lexical) (names_if false) refl (names_are declared.Lexical Var) hoisted ∙ sym (ap (λ r. r ++ []) k.lexical)
  names_same declared.Hoisted = left_gives (names_of declared.Hoisted) (names_if true) refl (names_are declared.Hoisted Var) hoisted ∙ sym (append-nil hoisted)

  named : NamesStretched (t ▸ none) left
  named = record {
    names = names_same;
    body = left_gives body_names (λ xs. xs) refl (body_are Var) hoisted ∙ sym (append-nil (body_names t) ∙ k.body);
    as_body = λ o. left_gives (as_body o) (own_declarations false []) refl (declarations_are o Var) hoisted ∙ sym (append-nil (as_body o t) ∙ k.as_body o);
    ports = λ m. left_ports m hoisted ∙ sym (ap (λ r. r ++ []) (k.ports m));
    scoped = λ env a. all_left (ScopedAs Read env) hoisted (var_scoped hoisted env (hoisted_scoped Read env t a.0));
    symbols = λ u z. omega (arith, left_sum (symbol_times u z) hoisted (var_symbols hoisted u z));
    once = λ a. all_left Once hoisted (var_once hoisted);
  }

  stretched : StretchedBut (t ▸ none) left
  stretched = record {
    named = λ strict d f. named;
    calm = λ strict d f. left_calm hoisted;
    declares = λ all a. all_left (Declares all) hoisted (var_declares hoisted all (λ y c. a.0 y (hoisted_there t y c)));
    frames = λ fs a. all_left (HasFrames fs) hoisted (var_frames hoisted fs);
    bodies = λ bs r a. all_left (HasBodies bs r) hoisted (var_bodies hoisted bs r);
    targets = λ g a. all_left (Aimed g) hoisted (var_targets hoisted g);
    numbers = λ i. omega (arith, left_sum (number_times i) hoisted (var_numbers hoisted i));
  }

  -- a constant in it goes with the scope that declares it
  less : (before after : Trees) (z : Option SymbolId) → 1 ≤ times z (declared_in Read t) → times z (declared_in Read (listed (append before (append left after)))) + 1 ≤ times z (declared_in Read (listed (append before (append (t ▸ none) after))))
  less before after z there = sum_shortened (symbol_times Read z) (symbols_summed Read z) before after (t ▸ none) left (let nothing_left = left_sum (symbol_times Read z) hoisted (var_symbols hoisted Read z) in omega (arith, there, nothing_left))

  fixed_or_less : (before after : Trees) → encloses false t ≡ true → FixedKept StatementList (listed (append before (append (t ▸ none) after))) (listed (append before (append left after)))
  fixed_or_less before after e = record { by = λ strict s o f v env st a x. subst (λ u. Told u x) (sym (read_is v st)) (told x env (subst (λ u. Scoped u env n) (read_is v st) a)) }
    where
      n : Tree
      n = listed (append before (append (t ▸ none) after))

      w : Tree
      w = listed (append before (append left after))

      Told : Use → Variable → Type 0
      Told u x = (fixed_by n x ≡ fixed_by w x) ⊎ LessOften u x n w

      told : (x : Variable) (env : Environment) → Scoped Read env n → Told Read x
      told x env a = by (enclosed x Read env t e its)
        where
          its : Scoped Read env t
          its = (first_all Any (ScopedAs Read env) AsWholeItem (t ▸ none) after (second_all Any (ScopedAs Read env) AsWholeItem before (append (t ▸ none) after) (items_of Any (ScopedAs Read env) (scoped_local Read env) (append before (append (t ▸ none) after)) a))).0

          by : (fixed_by t x ≡ Writable) ⊎ Encloses x (declared_in Read t) → Told Read x
          by (inl f) = inl (fixed_stretched x before after (t ▸ none) left (λ i b. all_left (FixedBy x i) hoisted (var_fixed hoisted x i)) (λ i b. (subst (λ g. rank g ≤ i) (sym f) (omega arith), tt)))
          by (inr d) = inr (record { declared = d.symbol; either = d.either; less = less before after d.symbol d.there })

-- it is a statement, and so no part of parameters
pub unscoped_member : (t : Tree) → is_unscoped t ≡ true → has_member t ≡ true
unscoped_member (node shape.ExpressionStatement xs n ts) e = refl
unscoped_member (node shape.EmptyStatement xs n ts) e = refl
unscoped_member (node shape.DebuggerStatement xs n ts) e = refl
unscoped_member (node shape.BlockStatement xs n ts) e = refl
unscoped_member (node shape.LabeledStatement xs n ts) e = refl
unscoped_member (node shape.BreakStatement xs n ts) e = refl
unscoped_member (node shape.ContinueStatement xs n ts) e = refl
unscoped_member (node shape.ReturnStatement xs n ts) e = refl
unscoped_member (node shape.ThrowStatement xs n ts) e = refl
unscoped_member (node shape.IfStatement xs n ts) e = refl
unscoped_member (node shape.SwitchStatement xs n ts) e = refl
unscoped_member (node shape.TryStatement xs n ts) e = refl
unscoped_member (node shape.WhileStatement xs n ts) e = refl
unscoped_member (node shape.DoWhileStatement xs n ts) e = refl
unscoped_member (node shape.ForStatement xs n ts) e = refl
unscoped_member (node shape.ForInStatement xs n ts) e = refl
unscoped_member (node shape.ForOfStatement xs n ts) e = refl
unscoped_member (node (shape.VariableDeclaration Var) xs n ts) e = refl
unscoped_member t e = absurd (cc e)

member_among : (before : Trees) (t : Tree) (after : Trees) → has_member t ≡ true → any_member (append before (t ▸ after)) ≡ true
member_among none t after e = ap (λ b. b || any_member after) e
member_among (u ▸ before) t after e = ap (λ b. has_member u || b) (member_among before t after e) ∙ always (has_member u)
  where
    always : (b : Bool) → (b || true) ≡ true
    always true = refl
    always false = refl

-- ---- in a list

pub regrouped : (before : Trees) (t : Tree) (between last after : Trees) → append before (append (t ▸ append between last) after) ≡ append (append before (t ▸ between)) (append last after)
regrouped before t between last after = ap (λ ts. append before (t ▸ ts)) (append_more between last after) ∙ sym (append_more before (t ▸ between) (append last after))

pub unreached_kept : (before after : Trees) (n w : Tree) (a b : Trees) → Row77Unreached a b → n ≡ listed (append before (append a after)) → w ≡ listed (append before (append b after)) → KeptLoosely StatementList n w
unreached_kept before after n w a b r f g =
    let earlier = append before (r.first ▸ r.between) in
    subst (λ t. KeptLoosely StatementList t w) (sym (f ∙ ap (λ ts. listed (append before (append ts after))) r.shape ∙ ap listed (regrouped before r.first r.between (r.gone ▸ none) after)))
    (subst (KeptLoosely StatementList (listed (append earlier (append (r.gone ▸ none) after)))) (sym (g ∙ ap (λ ts. listed (append before (append ts after))) r.written ∙ ap listed (regrouped before r.first r.between (left_behind r.gone) after)))
    (stretch_kept_by earlier after (r.gone ▸ none) (left_behind r.gone) (stretched r.gone (loose r.gone r.unscoped)) FixedKept (inr (member_among earlier r.gone after (unscoped_member r.gone r.unscoped))) (fixed_or_less r.gone (loose r.gone r.unscoped) earlier after r.dropped)))
