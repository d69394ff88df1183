-- Neighbouring declarations of one kind that become one are kept: it has their declarators, in order.
use Rattle.std.specs.Prelude.{ℕ, ◌+◌, ◌≤◌, ◌≡◌, refl, ◌&&◌, ◌||◌, not, Bool, true, false, List, [], ◌∷◌, ◌++◌, map, Option, None, if◌then◌else◌}
use Rattle.std.proofs.Common.{ap, ◌∙◌, sym, subst, arith, append_assoc}
use Rattle.std.proofs.lemmas.List.{append-nil}
use Rattle.mini_model.specs.declared.kind.VariableDeclarationKind.{VariableDeclarationKind}
use Rattle.mini_model.specs.declared.kind.VariableDeclarationKind.TheVariants.{Var, Let, Const}
use Rattle.mini_model.specs.declared.name.Name.{Name}
use Rattle.mini_model.specs.declared.name.SymbolId.{SymbolId}
use Rattle.mini_model.specs.declared.place.Position.TheVariants.{StatementList}
use Rattle.mini_model.specs.declared.shape.Shape.TheVariants as shape
use Rattle.mini_model.specs.Tree.{Tree, Trees, node, none, ◌▸◌, listed}
use Rattle.mini_model.specs.Paths.{append}
use Rattle.mini_model.specs.Weight.{same_text}
use Rattle.mini_laws.specs.declared.names.Use.{Use}
use Rattle.mini_laws.specs.declared.names.Use.TheVariants.{Read, Write, ReadWrite, Hoisted, Alone, Headed}
use Rattle.mini_laws.specs.declared.names.Binding.{Binding}
use Rattle.mini_laws.specs.declared.names.Declared.{Declared}
use Rattle.mini_laws.specs.declared.names.Declared.TheVariants as declared
use Rattle.mini_laws.specs.declared.names.Targets.{Targets}
use Rattle.mini_laws.specs.DeclaredNames.{has_inner, names_of, all_names, body_names, bound_names, is_spelled, with_name, with_names}
use Rattle.mini_laws.specs.Scopes.{use_of, is_alone, opened, scopes_by, lexical_scope}
use Rattle.mini_laws.specs.Resolved.{Environment}
use Rattle.mini_laws.specs.Scoped.{Scoped}
use Rattle.mini_laws.specs.Symbols.{symbols_in, declared as declared_in, times}
use Rattle.mini_laws.specs.Early.{own_declarations, scope_declarations, early_names, targets_of, early_jumps}
use Rattle.mini_laws.proofs.Changes.{times_both}
use Rattle.mini_laws.specs.Value.{Variable, choose, variable_eq, is_in}
use Rattle.mini_laws.specs.State.{Fixed, Writable, Constant, KeepsOld}
use Rattle.mini_laws.specs.Naming.{summary, summaries, lets_all}
use Rattle.mini_laws.specs.Fixity.{fixity_by, stricter, fixed_by}
use Rattle.mini_laws.specs.Bodies.{Around, bodies}
use Rattle.mini_kept.specs.AlikeBodies.{BodiesKept}
use Rattle.mini_kept.specs.Carried.{numbers}
use Rattle.mini_kept.specs.Declaring.{declared as names_declared}
use Rattle.mini_kept.specs.Frames.{frames, FramesKept}
use Rattle.mini_kept.specs.KeepsNames.{count_of}
use Rattle.mini_kept.proofs.Anywhere.{once_anywhere, targets_anywhere}
use Rattle.mini_kept.proofs.SameScopes.{same_texts}
use Rattle.mini_kept.proofs.Unplaced.{as_body, own_both}
use Rattle.mini_rows.specs.Lists.{Row68}
use Rattle.mini_rows.specs.ListLaws.{DeclarationsKept}
use Rattle.mini_rows.specs.Arranged.{KeptAt}
use Rattle.mini_rows.specs.Sketches.{Asked, AsWholeList, AsWholeItem, Leap}
use Rattle.mini_rows.proofs.Arranging.{All, Any, Local, sum_all}
use Rattle.mini_rows.proofs.ArrangedNames.{ScopedAs, scoped_local, symbol_times, symbols_summed, number_times, numbers_summed, InnerIf, inner_local, Once, once_local, HasTarget, Aimed, aimed_local}
use Rattle.mini_rows.proofs.ArrangedBodies.{quiet, HasBodies, bodies_local, HasFrames, frames_local, Among, Declares, declares_local, FixedBy, fixed_local, rank}
use Rattle.mini_rows.proofs.ArrangedGather.{concat}
use Rattle.mini_rows.proofs.ListKeptStretch.{joined, parted, sum_joined, NamesStretched, Stretched, stretch_kept}

-- ---- the names of two scopes, each once, and those of both in one

abbrev scope_times : Option SymbolId → List Name → ℕ
scope_times x ys = times x (symbols_in (map (λ y. record { name = y; hoists = false }) ys))

scope_both : (x : Option SymbolId) (ys zs : List Name) → scope_times x (ys ++ zs) ≡ scope_times x ys + scope_times x zs
scope_both x [] zs = omega arith
scope_both x (y ∷ ys) zs = omega (arith, scope_both x ys zs)

abbrev SpelledIn : List Name → List Name → Type 0
SpelledIn rs ls = (s : List ℕ) → is_spelled s rs ≡ true → is_spelled s ls ≡ true

spelled_both : (s : List ℕ) (ls rs : List Name) → is_spelled s (ls ++ rs) ≡ (is_spelled s ls || is_spelled s rs)
spelled_both s [] rs = refl
spelled_both s (l ∷ ls) rs = ap (λ b. same_text l.spelling s || b) (spelled_both s ls rs) ∙ sym (or_assoc (same_text l.spelling s) (is_spelled s ls) (is_spelled s rs))
  where
    or_assoc : (a b c : Bool) → ((a || b) || c) ≡ (a || (b || c))
    or_assoc true b c = refl
    or_assoc false b c = refl

or_more : (a b c d : Bool) → (a ≡ true → b ≡ true) → (a || (c || d)) ≡ true → (b || (c || d)) ≡ true
or_more true b c d k e = ap (λ v. v || (c || d)) (k refl)
or_more false true c d k e = refl
or_more false false c d k e = e

either : (a b c : Bool) → (a ≡ true → b ≡ true) → (c ≡ true → b ≡ true) → (a || (c || false)) ≡ true → b ≡ true
either true b c k l e = k refl
either false b true k l e = l refl
either false b false k l e = absurd (cc e)

module _ (x : Option SymbolId) (most : ℕ) where
  -- whatever is spelled in the second is in the first, which has no more
  abbrev Ahead : List Name → List Name → Type 0
  Ahead ls rs = SpelledIn rs ls × (scope_times x ls ≤ most + scope_times x rs)

  -- one name is added to both, or to the second alone, where the first has it
  both_add : (ls rs : List Name) (y : Name) → Ahead ls rs → Ahead (ls ++ y ∷ []) (rs ++ y ∷ [])
  both_add ls rs y a = (
    λ s e. spelled_both s ls (y ∷ []) ∙ or_more (is_spelled s rs) (is_spelled s ls) (same_text y.spelling s) false (a.0 s) (sym (spelled_both s rs (y ∷ [])) ∙ e),
    omega (arith, a.1, scope_both x ls (y ∷ []), scope_both x rs (y ∷ [])),
  )

  second_adds : (ls rs : List Name) (y : Name) → is_spelled y.spelling ls ≡ true → Ahead ls rs → Ahead ls (rs ++ y ∷ [])
  second_adds ls rs y f a = (
    λ s e. either (is_spelled s rs) (is_spelled s ls) (same_text y.spelling s) (a.0 s) (λ k. subst (λ r. is_spelled r ls ≡ true) (same_texts y.spelling s k) f) (sym (spelled_both s rs (y ∷ [])) ∙ e),
    omega (arith, a.1, scope_both x rs (y ∷ [])),
  )

  adds : (ls rs : List Name) (y : Name) → Ahead ls rs → Ahead (with_name ls y) (with_name rs y)
  adds ls rs y a = by (is_spelled y.spelling ls) (is_spelled y.spelling rs) refl refl
    where
      by : (b c : Bool) → is_spelled y.spelling ls ≡ b → is_spelled y.spelling rs ≡ c → Ahead (if b then ls else ls ++ y ∷ []) (if c then rs else rs ++ y ∷ [])
      by true true e f = a
      by true false e f = second_adds ls rs y e a
      by false true e f = absurd (cc (sym e ∙ a.0 y.spelling f))
      by false false e f = both_add ls rs y a

  in_one_scope : (ys ls rs : List Name) → Ahead ls rs → scope_times x (with_names ls ys) ≤ most + scope_times x (with_names rs ys)
  unfolding with_names
  in_one_scope [] ls rs a = a.1
  in_one_scope (y ∷ ys) ls rs a = in_one_scope ys (with_name ls y) (with_name rs y) (adds ls rs y a)

with_more : (seen ys zs : List Name) → with_names seen (ys ++ zs) ≡ with_names (with_names seen ys) zs
unfolding with_names
with_more seen [] zs = refl
with_more seen (y ∷ ys) zs = with_more (with_name seen y) ys zs

-- a scope of both has each symbol at most as often as their two scopes
one_scope : (x : Option SymbolId) (ys zs : List Name) → scope_times x (with_names [] (ys ++ zs)) ≤ scope_times x (with_names [] ys) + scope_times x (with_names [] zs)
one_scope x ys zs =
    let most = scope_times x (with_names [] ys) in
    let more = in_one_scope x most zs (with_names [] ys) [] (λ s e. absurd (cc e), omega arith) in
    omega (arith, more, ap (scope_times x) (with_more [] ys zs))

pub all_both : (d : Declared) (a b : Trees) → all_names d (append a b) ≡ all_names d a ++ all_names d b
unfolding names_of
all_both d none b = refl
all_both d (t ▸ a) b = ap (λ r. names_of d t ++ r) (all_both d a b) ∙ sym (append_assoc (names_of d t) (all_names d a) (all_names d b))

-- ---- one declaration

abbrev pub over : VariableDeclarationKind → Tree → Tree
over k t = node (shape.VariableDeclaration k) [] 0 (t ▸ none)

-- its names are those of its declarators: lexical ones or hoisted ones

abbrev pub is_var : VariableDeclarationKind → Bool
is_var Var = true
is_var k = false

abbrev pub declares_as : Declared → VariableDeclarationKind → Bool
declares_as declared.Bound k = false
declares_as declared.Lexical k = not (is_var k)
declares_as declared.Hoisted k = is_var k

abbrev pub names_if : Bool → List Name → List Name
names_if true xs = xs
names_if false xs = []

pub names_are : (d : Declared) (k : VariableDeclarationKind) (ts : Trees) → names_of d (over k (listed ts)) ≡ names_if (declares_as d k) (all_names declared.Bound ts)
unfolding names_of
names_are declared.Bound k ts = refl
names_are declared.Lexical Var ts = refl
names_are declared.Lexical Let ts = append-nil (all_names declared.Bound ts)
names_are declared.Lexical Const ts = append-nil (all_names declared.Bound ts)
names_are declared.Hoisted Var ts = append-nil (all_names declared.Bound ts)
names_are declared.Hoisted Let ts = refl
names_are declared.Hoisted Const ts = refl

-- whatever it gives of the names, two give what one does
two_give : {A : Type 0} (g : Tree → List A) (f : List Name → List A) (k : VariableDeclarationKind) → ((ts : Trees) → g (over k (listed ts)) ≡ f (all_names declared.Bound ts)) → ((xs ys : List Name) → f (xs ++ ys) ≡ f xs ++ f ys) → (a b : Trees) → concat g (over k (listed (append a b)) ▸ none) ≡ concat g (over k (listed a) ▸ (over k (listed b) ▸ none))
two_give g f k e m a b =
    append-nil (g (over k (listed (append a b)))) ∙ e (append a b) ∙ ap f (all_both declared.Bound a b) ∙ m (all_names declared.Bound a) (all_names declared.Bound b)
    ∙ (λ i. sym (e a) i ++ sym (append-nil (g (over k (listed b))) ∙ e b) i)

if_both : (c : Bool) (xs ys : List Name) → names_if c (xs ++ ys) ≡ names_if c xs ++ names_if c ys
if_both true xs ys = refl
if_both false xs ys = refl

pub body_are : (k : VariableDeclarationKind) (ts : Trees) → body_names (over k (listed ts)) ≡ all_names declared.Bound ts
unfolding body_names
body_are k ts = (λ i. names_are declared.Lexical k ts i ++ names_are declared.Hoisted k ts i) ∙ by k
  where
    by : (k : VariableDeclarationKind) → names_if (not (is_var k)) (all_names declared.Bound ts) ++ names_if (is_var k) (all_names declared.Bound ts) ≡ all_names declared.Bound ts
    by Var = refl
    by Let = append-nil (all_names declared.Bound ts)
    by Const = append-nil (all_names declared.Bound ts)

pub declarations_are : (o : Bool) (k : VariableDeclarationKind) (ts : Trees) → as_body o (over k (listed ts)) ≡ own_declarations (not (is_var k)) [] (all_names declared.Bound ts)
declarations_are o k ts =
    (λ i. own_declarations (not (o && false)) [] (names_are declared.Lexical k ts i) ++ own_declarations false [] (names_are declared.Hoisted k ts i)) ∙ by o k (all_names declared.Bound ts)
  where
    by : (o : Bool) (k : VariableDeclarationKind) (xs : List Name) → own_declarations (not (o && false)) [] (names_if (not (is_var k)) xs) ++ own_declarations false [] (names_if (is_var k) xs) ≡ own_declarations (not (is_var k)) [] xs
    by o Var xs = refl
    by true Let xs = append-nil (own_declarations true [] xs)
    by false Let xs = append-nil (own_declarations true [] xs)
    by true Const xs = append-nil (own_declarations true [] xs)
    by false Const xs = append-nil (own_declarations true [] xs)

-- ---- scopes

abbrev pub scope_if : Bool → Tree → List Binding
scope_if true t = lexical_scope (bound_names t)
scope_if false t = []

-- it opens a scope of its own where it stands alone
abbrev pub opens : Use → VariableDeclarationKind → Bool
opens u Var = false
opens u k = is_alone u

pub opened_is : (u : Use) (k : VariableDeclarationKind) (t : Tree) → opened u (shape.VariableDeclaration k) (t ▸ none) 0 ≡ scope_if (opens u k) t
unfolding scopes_by
opened_is u Var t = refl
opened_is Alone Let t = refl
opened_is Read Let t = refl
opened_is Write Let t = refl
opened_is ReadWrite Let t = refl
opened_is Hoisted Let t = refl
opened_is Headed Let t = refl
opened_is Alone Const t = refl
opened_is Read Const t = refl
opened_is Write Const t = refl
opened_is ReadWrite Const t = refl
opened_is Hoisted Const t = refl
opened_is Headed Const t = refl

pub read_opens : (k : VariableDeclarationKind) → opens Read k ≡ false
read_opens Var = refl
read_opens Let = refl
read_opens Const = refl

abbrev pub used : Use → VariableDeclarationKind → Use
used u k = use_of (shape.VariableDeclaration k) u 0

nothing_opened : (k : VariableDeclarationKind) (t : Tree) (env : Environment) → env ++ opened Read (shape.VariableDeclaration k) (t ▸ none) 0 ≡ env
nothing_opened k t env = ap (λ r. env ++ r) (opened_is Read k t ∙ ap (λ c. scope_if c t) (read_opens k)) ∙ append-nil env

pub scoped_down : (k : VariableDeclarationKind) (env : Environment) (t : Tree) → Scoped Read env (over k t) → Scoped (used Read k) env t
unfolding Scoped
scoped_down k env t a = subst (λ r. Scoped (used Read k) r t) (nothing_opened k t env) a.1.0

pub scoped_up : (k : VariableDeclarationKind) (env : Environment) (t : Tree) → Scoped (used Read k) env t → Scoped Read env (over k t)
unfolding Scoped
scoped_up k env t a = (tt, (subst (λ r. Scoped (used Read k) r t) (sym (nothing_opened k t env)) a, tt))

pub symbols_are : (u : Use) (k : VariableDeclarationKind) (x : Option SymbolId) (t : Tree) → times x (declared_in u (over k t)) ≡ times x (symbols_in (scope_if (opens u k) t)) + times x (declared_in (used u k) t)
unfolding declared_in
symbols_are u k x t =
    let scope = opened u (shape.VariableDeclaration k) (t ▸ none) 0 in
    omega (arith, times_both x (symbols_in scope) (declared_in (used u k) t ++ []), ap (times x) (append-nil (declared_in (used u k) t)), ap (λ bs. times x (symbols_in bs)) (opened_is u k t))

scopes_fit : (c : Bool) (x : Option SymbolId) (a b : Trees) → times x (symbols_in (scope_if c (listed (append a b)))) ≤ times x (symbols_in (scope_if c (listed a))) + times x (symbols_in (scope_if c (listed b)))
unfolding names_of
scopes_fit true x a b = let e = one_scope x (all_names declared.Bound a) (all_names declared.Bound b) in omega (arith, e, ap (λ ys. scope_times x (with_names [] ys)) (all_both declared.Bound a b))
scopes_fit false x a b = omega arith

-- ---- what a write does

abbrev pub lets : Trees → List Variable
lets ts = lets_all (summaries ts)

lets_both : (a b : Trees) → lets (append a b) ≡ lets a ++ lets b
lets_both none b = refl
lets_both (t ▸ a) b =
    let own = (summary t).lets in
    ap (λ r. own ++ r) (lets_both a b) ∙ sym (append_assoc own (lets a) (lets b))

is_in_both : (x : Variable) (xs ys : List Variable) → is_in x (xs ++ ys) ≡ choose (is_in x xs) true (is_in x ys)
is_in_both x [] ys = refl
is_in_both x (y ∷ xs) ys = ap (choose (variable_eq y x) true) (is_in_both x xs ys) ∙ by (variable_eq y x) (is_in x xs) (is_in x ys)
  where
    by : (a b c : Bool) → choose a true (choose b true c) ≡ choose (choose a true b) true c
    by true b c = refl
    by false b c = refl

module _ (m : ℕ) where
  pub split_rank : (f g : Fixed) → rank (stricter f g) ≤ m → (rank f ≤ m) × (rank g ≤ m)
  split_rank Writable g e = (omega arith, e)
  split_rank KeepsOld Writable e = (e, omega arith)
  split_rank KeepsOld KeepsOld e = (e, e)
  split_rank KeepsOld Constant e = (omega (arith, e), e)
  split_rank Constant Writable e = (e, omega arith)
  split_rank Constant KeepsOld e = (e, omega (arith, e))
  split_rank Constant Constant e = (e, e)

  pub both_rank : (f g : Fixed) → rank f ≤ m → rank g ≤ m → rank (stricter f g) ≤ m
  both_rank Writable g e d = d
  both_rank KeepsOld Writable e d = e
  both_rank KeepsOld KeepsOld e d = e
  both_rank KeepsOld Constant e d = d
  both_rank Constant Writable e d = e
  both_rank Constant KeepsOld e d = e
  both_rank Constant Constant e d = e

  pub either_down : (f : Fixed) (a b : Bool) → rank (choose (choose a true b) f Writable) ≤ m → (rank (choose a f Writable) ≤ m) × (rank (choose b f Writable) ≤ m)
  either_down f true true e = (e, e)
  either_down f true false e = (e, omega arith)
  either_down f false b e = (omega arith, e)

  pub either_up : (f : Fixed) (a b : Bool) → rank (choose a f Writable) ≤ m → rank (choose b f Writable) ≤ m → rank (choose (choose a true b) f Writable) ≤ m
  either_up f true b e d = e
  either_up f false b e d = d

  module _ (k : VariableDeclarationKind) (x : Variable) where
    abbrev pub own_fixed : Trees → Fixed
    own_fixed ts = choose (is_in x (lets ts)) (fixity_by (shape.VariableDeclaration k)) Writable

    pub own_both_fixed : (a b : Trees) → own_fixed (append a b) ≡ choose (choose (is_in x (lets a)) true (is_in x (lets b))) (fixity_by (shape.VariableDeclaration k)) Writable
    own_both_fixed a b = ap (λ c. choose c (fixity_by (shape.VariableDeclaration k)) Writable) (ap (is_in x) (lets_both a b) ∙ is_in_both x (lets a) (lets b))

    pub fixed_down : (ts : Trees) → rank (fixed_by (over k (listed ts)) x) ≤ m → (rank (own_fixed ts) ≤ m) × (rank (fixed_by (listed ts) x) ≤ m)
    fixed_down ts e =
        let (y, z) = split_rank (own_fixed ts) (stricter (fixed_by (listed ts) x) Writable) e in
        (y, (split_rank (fixed_by (listed ts) x) Writable z).0)

    pub fixed_up : (ts : Trees) → rank (own_fixed ts) ≤ m → rank (fixed_by (listed ts) x) ≤ m → rank (fixed_by (over k (listed ts)) x) ≤ m
    fixed_up ts e d = both_rank (own_fixed ts) (stricter (fixed_by (listed ts) x) Writable) e (both_rank (fixed_by (listed ts) x) Writable d (omega arith))

-- ---- two declarations, and one

or_nothing : (b : Bool) → (b || false) ≡ b
or_nothing true = refl
or_nothing false = refl

module _ (k : VariableDeclarationKind) where
  pub inner_is : (t : Tree) → has_inner (over k t) ≡ has_inner t
  unfolding has_inner
  inner_is t = or_nothing (has_inner t)

  pub numbers_are : (t : Tree) → numbers (over k t) ≡ numbers t
  unfolding numbers
  numbers_are t = append-nil (numbers t)

  pub declared_are : (t : Tree) → names_declared (over k t) ≡ names_declared t
  declared_are t = append-nil (names_declared t)

  pub frames_are : (t : Tree) → frames None (over k t) ≡ frames None t
  frames_are t = append-nil (frames None t)

  pub bodies_are : (r : Around) (t : Tree) → bodies (quiet r) (over k t) ≡ bodies (quiet r) t
  bodies_are r t = append-nil (bodies (quiet r) t)

  pub once_is : (t : Tree) → early_names [] (over k t) ≡ early_names (0 ∷ []) t
  unfolding early_names scope_declarations
  once_is t = append-nil (early_names (0 ∷ []) t)

  pub jumps_are : (g : Targets) (t : Tree) → early_jumps g [] (over k t) ≡ early_jumps g (0 ∷ []) t
  unfolding early_jumps targets_of
  jumps_are g t = append-nil (early_jumps g (0 ∷ []) t)

  module _ (a b : Trees) where
    abbrev pub two : Trees
    two = over k (listed a) ▸ (over k (listed b) ▸ none)

    abbrev pub one : Trees
    one = over k (listed (append a b)) ▸ none

    one_of : (J : Leap → Type 0) (Q P : Asked → Tree → Type 0) → Local J P → ((ts : Trees) → Q AsWholeItem (over k (listed ts)) → P AsWholeList (listed ts)) → ((ts : Trees) → P AsWholeList (listed ts) → Q AsWholeItem (over k (listed ts))) → All Q AsWholeItem two → All Q AsWholeItem one
    one_of J Q P l down up x = (up (append a b) (joined J P l a b (down a x.0) (down b x.1.0)), tt)

    two_of : (J : Leap → Type 0) (Q P : Asked → Tree → Type 0) → Local J P → ((ts : Trees) → Q AsWholeItem (over k (listed ts)) → P AsWholeList (listed ts)) → ((ts : Trees) → P AsWholeList (listed ts) → Q AsWholeItem (over k (listed ts))) → All Q AsWholeItem one → All Q AsWholeItem two
    two_of J Q P l down up x = let (y, z) = parted J P l a b (down (append a b) x.0) in (up a y, (up b z, tt))

    fixed_one : (x : Variable) (m : ℕ) → All (FixedBy x m) AsWholeItem two → All (FixedBy x m) AsWholeItem one
    fixed_one x m y =
        let (p, q) = fixed_down m k x a y.0 in
        let (r, s) = fixed_down m k x b y.1.0 in (
          fixed_up m k x (append a b) (subst (λ f. rank f ≤ m) (sym (own_both_fixed m k x a b)) (either_up m (fixity_by (shape.VariableDeclaration k)) (is_in x (lets a)) (is_in x (lets b)) p r)) (joined Any (FixedBy x m) (fixed_local x m) a b q s),
          tt,
        )

    fixed_two : (x : Variable) (m : ℕ) → All (FixedBy x m) AsWholeItem one → All (FixedBy x m) AsWholeItem two
    fixed_two x m y =
        let (p, q) = fixed_down m k x (append a b) y.0 in
        let (r, s) = parted Any (FixedBy x m) (fixed_local x m) a b q in
        let (v, w) = either_down m (fixity_by (shape.VariableDeclaration k)) (is_in x (lets a)) (is_in x (lets b)) (subst (λ f. rank f ≤ m) (own_both_fixed m k x a b) p) in
        (fixed_up m k x a v r, (fixed_up m k x b w s, tt))

    symbols_one : (u : Use) (x : Option SymbolId) → sum_all (symbol_times u x) AsWholeItem one ≤ sum_all (symbol_times u x) AsWholeItem two
    symbols_one u x =
        let all = symbols_are u k x (listed (append a b)) in
        let first = symbols_are u k x (listed a) in
        let second = symbols_are u k x (listed b) in
        let scopes = scopes_fit (opens u k) x a b in
        let parts = sum_joined (symbol_times (used u k) x) (symbols_summed (used u k) x) a b in
        omega (arith, all, first, second, scopes, parts)

    numbers_one : (n : ℕ) → sum_all (number_times n) AsWholeItem one ≤ sum_all (number_times n) AsWholeItem two
    numbers_one n =
        let is = λ (t : Tree). ap (count_of n) (numbers_are t) in
        omega (arith, is (listed (append a b)), is (listed a), is (listed b), sum_joined (number_times n) (numbers_summed n) a b)

    pub names_one : NamesStretched two one
    names_one = record {
      names = λ d. two_give (names_of d) (names_if (declares_as d k)) k (names_are d k) (if_both (declares_as d k)) a b;
      body = two_give body_names (λ xs. xs) k (body_are k) (λ xs ys. refl) a b;
      as_body = λ o. two_give (as_body o) (own_declarations (not (is_var k)) []) k (declarations_are o k) (own_both (not (is_var k))) a b;
      ports = λ m. refl;
      scoped = λ env. one_of Any (ScopedAs Read env) (ScopedAs (used Read k) env) (scoped_local (used Read k) env) (λ ts. scoped_down k env (listed ts)) (λ ts. scoped_up k env (listed ts));
      symbols = symbols_one;
      once = one_of Any Once Once once_local (λ ts e. once_anywhere (0 ∷ []) [] (listed ts) (sym (once_is (listed ts)) ∙ e)) (λ ts e. once_is (listed ts) ∙ once_anywhere [] (0 ∷ []) (listed ts) e);
    }

    pub stretched_one : Stretched two one
    stretched_one = record {
      named = λ strict d e. names_one;
      calm = λ strict k f. ((refl, refl), tt);
      inner = λ x. one_of Any (InnerIf x) (InnerIf x) (inner_local x) (λ ts. subst (λ c. (c || x) ≡ x) (inner_is (listed ts))) (λ ts. subst (λ c. (c || x) ≡ x) (sym (inner_is (listed ts))));
      inner_back = λ x. two_of Any (InnerIf x) (InnerIf x) (inner_local x) (λ ts. subst (λ c. (c || x) ≡ x) (inner_is (listed ts))) (λ ts. subst (λ c. (c || x) ≡ x) (sym (inner_is (listed ts))));
      fixed = fixed_one;
      fixed_back = fixed_two;
      declares = λ xs. one_of Any (Declares xs) (Declares xs) (declares_local xs) (λ ts. subst (Among xs) (declared_are (listed ts))) (λ ts. subst (Among xs) (sym (declared_are (listed ts))));
      frames = λ fs. one_of Any (HasFrames fs) (HasFrames fs) (frames_local fs) (λ ts. subst (FramesKept fs) (frames_are (listed ts))) (λ ts. subst (FramesKept fs) (sym (frames_are (listed ts))));
      bodies = λ bs r. one_of Any (HasBodies bs r) (HasBodies bs r) (bodies_local bs r) (λ ts. subst (BodiesKept bs) (bodies_are r (listed ts))) (λ ts. subst (BodiesKept bs) (sym (bodies_are r (listed ts))));
      targets = λ g. one_of (HasTarget g) (Aimed g) (Aimed g) (aimed_local g) (λ ts e. targets_anywhere g (0 ∷ []) [] (listed ts) (sym (jumps_are g (listed ts)) ∙ e)) (λ ts e. jumps_are g (listed ts) ∙ targets_anywhere g [] (0 ∷ []) (listed ts) e);
      numbers = numbers_one;
    }

-- `var a; var b;` and `var a, b;` in a list
pub declarations_kept : (before after : Trees) (n w : Tree) (a b : Trees) → Row68 a b → n ≡ listed (append before (append a after)) → w ≡ listed (append before (append b after)) → KeptAt StatementList n w
declarations_kept before after n w a b r e f =
    subst (λ t. KeptAt StatementList t w) (sym (e ∙ ap (λ ts. listed (append before (append ts after))) r.shape))
    (subst (KeptAt StatementList (listed (append before (append (two r.kind r.ds r.es) after)))) (sym (f ∙ ap (λ ts. listed (append before (append ts after))) r.written))
    (stretch_kept before after (two r.kind r.ds r.es) (one r.kind r.ds r.es) (stretched_one r.kind r.ds r.es)))

pub declared_lists_kept : DeclarationsKept
declared_lists_kept n w r = declarations_kept r.before r.after n w r.read r.put r.row r.shape r.written
