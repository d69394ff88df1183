-- What is made of an expression or a statement of which nothing is called that wasn't: whatever
-- holds of trees by their parts holds of it, too. So it asks less. A statement shows less also by
-- properties that rest on more than parts.
use Rattle.std.specs.Prelude.{ℕ, zero, suc, ◌≡◌, refl, Bool, true, false, ◌||◌, []}
use Rattle.std.proofs.Common.{ap, ◌∙◌, sym, subst, inl, true≢false}
use Rattle.mini_model.specs.declared.kind.PropertyKind.{PropertyKind}
use Rattle.mini_model.specs.declared.kind.PropertyKind.TheVariants.{Init}
use Rattle.mini_model.specs.declared.name.Name.{Name}
use Rattle.mini_model.specs.declared.place.Position.TheVariants.{Expr, Stmt}
use Rattle.mini_model.specs.declared.seat.Seat.{Seat}
use Rattle.mini_model.specs.declared.seat.StmtSeat.{StmtSeat}
use Rattle.mini_model.specs.declared.shape.Shape.TheVariants as shape
use Rattle.mini_model.specs.Position.{callee_seat}
use Rattle.mini_model.specs.Tree.{Tree, Trees, node, none, ◌▸◌, shape_of, identifier}
use Rattle.mini_accept.specs.WellShaped.{Slot, fits}
use Rattle.mini_laws.specs.declared.names.Use.{Use}
use Rattle.mini_laws.specs.declared.names.Use.TheVariants.{Read}
use Rattle.mini_laws.specs.DeclaredNames.{is_inner}
use Rattle.mini_laws.specs.Foreign.{has_number}
use Rattle.mini_laws.specs.ScopeList.{has_eval, any_has_eval, is_eval_call, is_eval_callee}
use Rattle.mini_laws.specs.Shared.{names_arguments}
use Rattle.mini_laws.specs.Value.{Declared}
use Rattle.mini_kept.specs.KeepsNames.{is_read}
use Rattle.mini_laws.specs.Resolved.{Environment}
use Rattle.mini_laws.specs.Scopes.{opened}
use Rattle.mini_shrink.specs.Facts.{Fact, question}
use Rattle.mini_shrink.specs.Pace.{Pace, Ends, Silent, Reads, AtMost, kept_in, Setting, Question, below, pace}
use Rattle.mini_shrink.specs.Questions.{Own, asks, any_of, finds, finds_each, early}
use Rattle.mini_shrink.specs.Shrinking.{AsksLess, ShowsLess}
use Rattle.mini_shrink.proofs.Paces.{inside}
use Rattle.mini_rows.specs.Sketches.{Head, AList, Empty, OfExpression, Throw, Return, If, Block, Call, shape_by, Asked, AsValue, AsValues, AsWhole, AsTarget, AsUpdated, AsBranch, AsItem, asked_below, use_by, leaps, is_expression_head, is_statement_head}
use Rattle.mini_less.specs.Families.{LessAt}
use Rattle.mini_less.specs.Flags.{FlagsLess}
use Rattle.mini_less.specs.Less.{TellsPlainly, Plain}
use Rattle.mini_less.specs.TellsLists.{TellsLists}
use Rattle.mini_rows.proofs.Arranging.{Any, Below, Local}
use Rattle.mini_rows.specs.Lists.{is_unscoped_shape, is_unscoped}
use Rattle.mini_rows.proofs.ArrangedValues.{is_value}
use Rattle.mini_less.proofs.EachFact.{AloneToo, Unordered, unordered, by_value, found_less}
use Rattle.mini_less.proofs.Evals.{no_callee}
use Rattle.mini_less.proofs.Finding.{Lacks, lacks_local, lacks_anyhow, as_asked, never, setting}
use Rattle.mini_less.proofs.Flags.{none_of, leaping, spares_local, numbers_local, root_number}
use Rattle.mini_less.proofs.Plainly.{alone, early_alone, read, is_reads, is_ended, less_by, Calmly, calm_local, calm_anyhow, root_ended, standing}
use Rattle.mini_less.proofs.Ordered.{unscoped_anywhere}
use Rattle.mini_less.proofs.TellingLists.{by_lists}
use Rattle.mini_less.proofs.Shown.{shows_all}

-- no call, of which more is asked than of its parts: a direct eval is one of the name `eval`
abbrev pub is_uncalled : Head → Bool
is_uncalled (Call false) = false
is_uncalled h = true

-- what holds of a name that is updated where it does of one that is assigned to and of one that is
-- read
abbrev pub Updated : (Asked → Tree → Type 0) → Type 0
Updated Q = (x : Name) → Q AsTarget (identifier x) → Q AsValue (identifier x) → Q AsUpdated (identifier x)

-- whether a property is a method or an accessor doesn't matter
abbrev pub SameProperty : (Asked → Tree → Type 0) → PropertyKind → Bool → PropertyKind → Bool → Type 0
SameProperty Q k m k' m' = (c : Asked) (is_shorthand is_computed : Bool) (ts : Trees) → Q c (node (shape.ObjectProperty k m is_shorthand is_computed) [] 0 ts) → Q c (node (shape.ObjectProperty k' m' is_shorthand is_computed) [] 0 ts)

abbrev pub Properties : (Asked → Tree → Type 0) → Type 0
Properties Q = (k : PropertyKind) (m : Bool) → SameProperty Q k m Init false × SameProperty Q Init false k m

-- an unscoped statement stands as a branch and in a block alike
abbrev pub Moved : (Asked → Tree → Type 0) → Type 0
Moved Q = (t : Tree) → is_unscoped t ≡ true → (Q AsBranch t → Q AsItem t) × (Q AsItem t → Q AsBranch t)

-- what holds of such a node where it does of what is below, of a call where something more does of
-- what is called, and of a name that is updated
pub record ByParts (Q : Asked → Tree → Type 0) : Type 1 where
  pub updated : Updated Q
  pub properties : Properties Q
  pub moved : Moved Q
  pub down : (h : Head) → is_uncalled h ≡ true → (c : Asked) (ts : Trees) → Plain h ts → Q c (node (shape_by h) [] 0 ts) → Below Q (asked_below h c) 0 ts
  pub up : (h : Head) → is_uncalled h ≡ true → (c : Asked) (ts : Trees) → Plain h ts → Below Q (asked_below h c) 0 ts → Q c (node (shape_by h) [] 0 ts)
  pub Called : Tree → Type 0
  pub nameless : (f : Tree) → is_eval_callee f ≡ false → Called f
  pub call_down : (c : Asked) (f arguments : Tree) → Q c (node (shape.CallExpression false) [] 0 (f ▸ arguments ▸ none)) → Called f × (Q AsValue f × Q AsValues arguments)
  pub call_up : (c : Asked) (f arguments : Tree) → Called f → Q AsValue f → Q AsValues arguments → Q c (node (shape.CallExpression false) [] 0 (f ▸ arguments ▸ none))

pub by_parts : (Q : Asked → Tree → Type 0) → Updated Q → Properties Q → Moved Q → Local Any Q → ByParts Q
by_parts Q u s m l = record {
  updated = u;
  properties = s;
  moved = m;
  down = λ h e c ts p a. (l.down h c ts p a).1;
  up = λ h e c ts p a. l.up h c ts p (leaping (leaps h)) a;
  Called = λ t. Unit {0};
  nameless = λ t e. tt;
  call_down = λ c f ts a. let x = (l.down (Call false) c (f ▸ ts ▸ none) tt a).1 in (tt, (x.0, x.1.0));
  call_up = λ c f ts k x y. l.up (Call false) c (f ▸ ts ▸ none) tt tt (x, (y, tt));
}

-- no direct eval stands in it
abbrev pub Spared : Asked → Tree → Type 0
Spared c t = has_eval t ≡ false

no_call : (h : Head) → is_uncalled h ≡ true → (ts : Trees) → is_eval_call (shape_by h) ts ≡ false
no_call (Call false) e ts = absurd (cc e)
no_call AList e ts = refl
no_call h e ts = refl

pub spared_below : (cs : ℕ → Asked) (i : ℕ) (ts : Trees) → any_has_eval ts ≡ false → Below Spared cs i ts
unfolding has_eval
spared_below cs i none a = tt
spared_below cs i (t ▸ ts) a = let (x, y) = none_of (has_eval t) (any_has_eval ts) a in (x, spared_below cs (suc i) ts y)

pub below_spared : (cs : ℕ → Asked) (i : ℕ) (ts : Trees) → Below Spared cs i ts → any_has_eval ts ≡ false
unfolding has_eval
below_spared cs i none a = refl
below_spared cs i (t ▸ ts) a = λ j. a.0 j || below_spared cs (suc i) ts a.1 j

pub spared_by_parts : ByParts Spared
unfolding has_eval
spared_by_parts = record {
  updated = λ x e f. e;
  properties = λ k m. (λ c s b ts a. a, λ c s b ts a. a);
  moved = λ t e. (λ a. a, λ a. a);
  Called = λ t. is_eval_callee t ≡ false;
  nameless = λ t e. e;
  call_down = λ c f ts a.
      let (x, y) = none_of (is_eval_callee f) (has_eval f || (has_eval ts || false)) a in
      let (z, v) = none_of (has_eval f) (has_eval ts || false) y in
      (x, (z, (none_of (has_eval ts) false v).0));
  call_up = λ c f ts k x y j. k j || (x j || (y j || false));
  down = λ h e c ts p a. spared_below (asked_below h c) 0 ts (none_of (is_eval_call (shape_by h) ts) (any_has_eval ts) a).1;
  up = λ h e c ts p a j. no_call h e ts j || below_spared (asked_below h c) 0 ts a j;
}

pub lacks_updated : (o : Own) (t : TellsPlainly o) (c : Setting) (env : Environment) → Updated (Lacks o t c env)
unfolding finds
lacks_updated o t c env x e f = or_none _ ∙ t.updated (record c { is_body = false; ordered = false }) env x (sym (or_none _) ∙ e) (sym (or_none _) ∙ f)
  where
    or_none : (b : Bool) → (b || false) ≡ b
    or_none true = refl
    or_none false = refl

pub calm_updated : (m s : ℕ) (c : Setting) (env : Environment) → Updated (Calmly m s c env)
unfolding pace
calm_updated m s c env x e f = f

pub spares_properties : Properties (λ c t. names_arguments t ≡ false)
unfolding names_arguments
spares_properties k m = (λ c s b ts a. a, λ c s b ts a. a)

pub numbers_properties : (n : ℕ) → Properties (λ c t. has_number (suc n) t ≡ false)
unfolding has_number
numbers_properties n k m = (λ c s b ts a. a, λ c s b ts a. a)

pub lacks_properties : (o : Own) (t : TellsPlainly o) (c : Setting) (env : Environment) → Properties (Lacks o t c env)
unfolding finds
lacks_properties o t c env k m = (
  λ d s b ts a. (λ j. sym (t.property (setting o t c env d) env k m s b ts) j || any_of (finds_each o (opened (use_by c.used d) (shape.ObjectProperty Init false s b) ts) (below false (setting o t c env d) (shape.ObjectProperty Init false s b) 0) 0 env ts)) ∙ a,
  λ d s b ts a. (λ j. t.property (setting o t c env d) env k m s b ts j || any_of (finds_each o (opened (use_by c.used d) (shape.ObjectProperty Init false s b) ts) (below false (setting o t c env d) (shape.ObjectProperty Init false s b) 0) 0 env ts)) ∙ a,
)

pub lacks_moved : (o : Own) (p : TellsPlainly o) (c : Setting) (env : Environment) → Moved (Lacks o p c env)
lacks_moved o p c env t e = (lacks_anyhow o p (record c { used = Read }) env refl AsBranch AsItem refl refl t e, lacks_anyhow o p (record c { used = Read }) env refl AsItem AsBranch refl refl t e)

pub calm_moved : (m s : ℕ) (c : Setting) (env : Environment) → Moved (Calmly m s c env)
calm_moved m s c env t e = (calm_anyhow m s (record c { used = Read }) env refl AsBranch AsItem refl refl t e, calm_anyhow m s (record c { used = Read }) env refl AsItem AsBranch refl refl t e)

pub calm_properties : (m s : ℕ) (c : Setting) (env : Environment) → Properties (Calmly m s c env)
unfolding pace
calm_properties m s c env k d = (λ e t b ts a. a, λ e t b ts a. a)

-- ---- each of these properties holds by parts

pub lacks_parts : (o : Own) (t : TellsPlainly o) (c : Setting) (env : Environment) → ByParts (Lacks o t c env)
lacks_parts o t c env = by_parts (Lacks o t c env) (lacks_updated o t c env) (lacks_properties o t c env) (lacks_moved o t c env) (lacks_local o t c env)

pub calm_parts : (m s : ℕ) (c : Setting) (env : Environment) → ByParts (Calmly m s c env)
calm_parts m s c env = by_parts (Calmly m s c env) (calm_updated m s c env) (calm_properties m s c env) (calm_moved m s c env) (calm_local m s c env)

pub names_parts : ByParts (λ d t. names_arguments t ≡ false)
names_parts = by_parts (λ d t. names_arguments t ≡ false) (λ x e f. e) spares_properties (λ t e. (λ a. a, λ a. a)) spares_local

pub numbers_parts : (b : ℕ) → ByParts (λ d t. has_number (suc b) t ≡ false)
numbers_parts b = by_parts (λ d t. has_number (suc b) t ≡ false) (λ x e f. e) (numbers_properties b) (λ t e. (λ a. a, λ a. a)) (numbers_local b)

-- ---- what a node tells besides names

module _ (c : Asked) (n w : Tree) (root : has_number 0 n ≡ true) (made : (Q : Asked → Tree → Type 0) → ByParts Q → Q c n → Q c w) where
  pub flags_made : FlagsLess n w
  flags_made = record { arguments = never (names_arguments n) (names_arguments w) (made (λ d t. names_arguments t ≡ false) names_parts); number = numbers }
    where
      numbers : (k : ℕ) → has_number k w ≡ true → has_number k n ≡ true
      numbers zero e = root
      numbers (suc k) e = never (has_number (suc k) n) (has_number (suc k) w) (made (λ d t. has_number (suc k) t ≡ false) (numbers_parts k)) e

  pub evals_made : has_eval w ≡ true → has_eval n ≡ true
  evals_made = never (has_eval n) (has_eval w) (made Spared spared_by_parts)

-- ---- an expression for an expression

pub value_of_head : (h : Head) → is_expression_head h ≡ true → is_value (shape_by h) ≡ true
value_of_head AList e = absurd (cc e)
value_of_head If e = absurd (cc e)
value_of_head Block e = absurd (cc e)
value_of_head h e = refl

module _ (q : Seat) (n w : Tree) (h : Head) (ts : Trees) (e : is_expression_head h ≡ true) (a : n ≡ node (shape_by h) [] 0 ts) (p : Plain h ts) (value : (strict : Bool) (x : Slot) → fits strict x n ≡ true → is_value (shape_of w) ≡ true) (made : (strict : Bool) (x : Slot) → fits strict x n ≡ true → (Q : Asked → Tree → Type 0) → ByParts Q → Q AsValue n → Q AsValue w) where
  n_value : is_value (shape_of n) ≡ true
  n_value = ap (λ t. is_value (shape_of t)) a ∙ value_of_head h e

  no_inner : (h : Head) → is_expression_head h ≡ true → is_inner (shape_by h) ≡ false
  no_inner AList e = absurd (cc e)
  no_inner h e = refl

  used : (v : Use) → (is_inner (shape_of n) || is_read v) ≡ true → v ≡ Read
  used v st = read v (sym (ap (λ b. b || is_read v) (ap (λ t. is_inner (shape_of t)) a ∙ no_inner h e)) ∙ st)

  asked : (k : ℕ) (o : Own) → TellsPlainly o → AloneToo o → AsksLess (asks o) (Declared k) (Expr q) n w
  asked k o t z = record {
    by = λ strict x _ fit c env st _.
        let same : alone c ≡ setting o t (alone c) env AsValue = as_asked (alone c) (used c.used st) refl refl in
        let less : finds o (alone c) env n ≡ false → finds o (alone c) env w ≡ false = λ y.
        subst (λ d. finds o d env w ≡ false) (sym same) (made strict x fit (Lacks o t (alone c) env) (lacks_parts o t (alone c) env) (subst (λ d. finds o d env n ≡ false) same y)) in
        inl (found_less o c env n w (never (finds o c env n) (finds o c env w) (λ y. z c env w (value strict x fit) ∙ less (sym (z c env n n_value) ∙ y))));
  }

  in_order : (k m s : ℕ) → AsksLess (early m s) (Declared k) (Expr q) n w
  in_order k m s = record {
    by = λ strict x _ fit c env st _.
        let same : alone c ≡ standing m s c env AsValue = λ i. record { used = used c.used st i; around = c.around; strict = c.strict; is_body = false; belongs = c.belongs; ordered = false } in
        let n_is = early_alone m s c env n n_value ∙ ap (λ d. pace (early m s) d env n) same in
        let w_is = early_alone m s c env w (value strict x fit) ∙ ap (λ d. pace (early m s) d env w) same in
        inl (subst (λ x. AtMost x (pace (early m s) c env n)) (sym w_is) (subst (AtMost (pace (early m s) (standing m s c env AsValue) env w)) (sym n_is)
        (less_by (pace (early m s) (standing m s c env AsValue) env w) (pace (early m s) (standing m s c env AsValue) env n) (made strict x fit (Calmly m s c env) (calm_parts m s c env))
        (subst (λ t. is_ended (pace (early m s) (standing m s c env AsValue) env t) ≡ false) (sym a) (root_ended m s c env AsValue h ts p)))));
  }

  pub made_less : (Expr q ≡ Expr callee_seat → is_eval_callee w ≡ false) → LessAt (Expr q) n w
  made_less called = record {
    asks = shows_all _ _ _ (λ g b k. by_value (λ y. AsksLess y (Declared k) (Expr q) n w) (asked k) (in_order k) g b k);
    fewer = λ strict x o fit. record { eval = evals_made AsValue n w zero_there (made strict x fit); flags = flags_made AsValue n w zero_there (made strict x fit); callee = λ i c. absurd (true≢false (sym c ∙ called i)) };
  }
    where
      zero_there : has_number 0 n ≡ true
      zero_there = ap (has_number 0) a ∙ root_number h ts

-- ---- a statement for a statement

-- the properties in which facts are asked for, each of a kind, where what the kind rests on is told
-- of the fact
pub record FactProperties (Told : Question → Type 0) (Kind : (Asked → Tree → Type 0) → Type 1) : Type 1 where
  pub told : (g : Fact) (b s : ℕ) → Told (question g b s)
  pub lacks : (o : Own) (t : TellsLists o) → Told (asks o) → (c : Setting) (env : Environment) → Kind (Lacks o t.plainly c env)
  pub calm : (m s : ℕ) → Told (early m s) → (c : Setting) (env : Environment) → Kind (Calmly m s c env)
  pub spared : Kind Spared
  pub names : Kind (λ d t. names_arguments t ≡ false)
  pub numbers : (b : ℕ) → Kind (λ d t. has_number (suc b) t ≡ false)

-- ends aside, what says a read only where another does says at most what that does
pub kept_less : (p r : Pace) → (is_reads r ≡ false → is_reads p ≡ false) → AtMost (kept_in p) (kept_in r)
kept_less Ends Ends f = tt
kept_less Ends Silent f = tt
kept_less Ends Reads f = tt
kept_less Silent Ends f = tt
kept_less Silent Silent f = tt
kept_less Silent Reads f = tt
kept_less Reads Ends f = absurd (true≢false (f refl))
kept_less Reads Silent f = absurd (true≢false (f refl))
kept_less Reads Reads f = tt

module _ (Told : Question → Type 0) (Kind : (Asked → Tree → Type 0) → Type 1) (k : FactProperties Told Kind) (q : StmtSeat) (n w : Tree) (un : is_unscoped n ≡ true) (uw : is_unscoped w ≡ true) (root : has_number 0 n ≡ true) (callee : is_eval_callee w ≡ false) (made : (strict : Bool) (x : Slot) → fits strict x n ≡ true → (Q : Asked → Tree → Type 0) → Kind Q → Q AsWhole n → Q AsWhole w) where
  unscoped_asked : (j : ℕ) (o : Own) → TellsLists o → Unordered o → Told (asks o) → ShowsLess (asks o) (Declared j) (Stmt q) n w
  unscoped_asked j o t z told = record {
    by = λ strict x _ fit c env st _.
        inl (inside (pace (asks o) c env w) (pace (asks o) c env n) (found_less o c env n w (never (finds o c env n) (finds o c env w) (λ y.
        unordered o z c false env w ∙ made strict x fit (Lacks o t.plainly c env) (k.lacks o t told c env) (sym (unordered o z c false env n) ∙ y)))));
  }

  unscoped_in_order : (j m s : ℕ) → Told (early m s) → ShowsLess (early m s) (Declared j) (Stmt q) n w
  unscoped_in_order j m s told = record {
    by = λ strict x _ fit c env st _.
        inl (kept_less (pace (early m s) c env w) (pace (early m s) c env n) (λ y.
        ap is_reads (unscoped_anywhere m s c c.ordered env w uw) ∙ made strict x fit (Calmly m s c env) (k.calm m s told c env) (sym (ap is_reads (unscoped_anywhere m s c c.ordered env n un)) ∙ y)));
  }

  unscoped_number : (strict : Bool) (x : Slot) → fits strict x n ≡ true → (b : ℕ) → has_number b w ≡ true → has_number b n ≡ true
  unscoped_number strict x fit zero e = root
  unscoped_number strict x fit (suc b) e = never (has_number (suc b) n) (has_number (suc b) w) (made strict x fit (λ d t. has_number (suc b) t ≡ false) (k.numbers b)) e

  pub unscoped_less : LessAt (Stmt q) n w
  unscoped_less = record {
    asks = λ g b j. by_lists (λ z. Told z → ShowsLess z (Declared j) (Stmt q) n w) (λ o t z told. unscoped_asked j o t z told) (λ m s told. unscoped_in_order j m s told) g b j (k.told g b j);
    fewer = λ strict x _ fit. record {
      eval = never (has_eval n) (has_eval w) (made strict x fit Spared k.spared);
      flags = record { arguments = never (names_arguments n) (names_arguments w) (made strict x fit (λ d t. names_arguments t ≡ false) k.names); number = unscoped_number strict x fit };
      callee = λ i e. absurd (true≢false (sym e ∙ callee));
    };
  }

-- the kind of those that hold by parts
pub plain_properties : FactProperties (λ q. Unit {0}) ByParts
plain_properties = record {
  told = λ g b s. tt;
  lacks = λ o t k c env. lacks_parts o t.plainly c env;
  calm = λ m s k c env. calm_parts m s c env;
  spared = spared_by_parts;
  names = names_parts;
  numbers = numbers_parts;
}

head_unscoped : (h : Head) → is_statement_head h ≡ true → is_unscoped_shape (shape_by h) ≡ true
head_unscoped AList e = absurd (cc e)
head_unscoped Empty e = refl
head_unscoped OfExpression e = refl
head_unscoped Throw e = refl
head_unscoped Return e = refl
head_unscoped If e = refl
head_unscoped Block e = refl
head_unscoped h e = absurd (cc e)

pub made_statement_less : (q : StmtSeat) (n w : Tree) (h g : Head) (ts us : Trees) → is_statement_head h ≡ true → is_statement_head g ≡ true → n ≡ node (shape_by h) [] 0 ts → w ≡ node (shape_by g) [] 0 us → Plain h ts → ((strict : Bool) (x : Slot) → fits strict x n ≡ true → (Q : Asked → Tree → Type 0) → ByParts Q → Q AsWhole n → Q AsWhole w) → LessAt (Stmt q) n w
made_statement_less q n w h g ts us e f a b p made =
    unscoped_less (λ q. Unit {0}) ByParts plain_properties q n w (ap is_unscoped a ∙ head_unscoped h e) (ap is_unscoped b ∙ head_unscoped g f) (ap (has_number 0) a ∙ root_number h ts) (ap is_eval_callee b ∙ no_callee g us) made
