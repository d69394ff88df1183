-- A declaration whose name is read once, right behind it, goes, its value stands where the name was
-- read, and no more is told of any other symbol: `const x = f(); g(x);` becomes `; g(f());`.
use Rattle.std.specs.Prelude.{ℕ, suc, ◌≡◌, refl, nat_eq, Bool, true, false, ◌&&◌, ◌||◌, List, [], ◌++◌}
use Rattle.std.proofs.Common.{ap, ◌∙◌, sym, true≢false}
use Rattle.std.proofs.lemmas.List.{append-nil}
use Rattle.mini_model.specs.declared.kind.VariableDeclarationKind.{VariableDeclarationKind}
use Rattle.mini_model.specs.declared.kind.VariableDeclarationKind.TheVariants.{Var, Let, Const}
use Rattle.mini_model.specs.declared.name.Name.{Name}
use Rattle.mini_model.specs.declared.shape.Shape.TheVariants as shape
use Rattle.mini_model.specs.Paths.{append}
use Rattle.mini_model.specs.Tree.{Tree, Trees, none, ◌▸◌, listed, empty_statement}
use Rattle.mini_laws.specs.DeclaredNames.{all_names, names_of}
use Rattle.mini_laws.specs.Foreign.{any_has_number, has_number, own_lexical}
use Rattle.mini_laws.specs.Mentions.{is_among}
use Rattle.mini_laws.specs.Naming.{is_lexical}
use Rattle.mini_laws.specs.Resolved.{Environment}
use Rattle.mini_laws.specs.ScopeList.{any_has_eval, by_symbol, has_eval}
use Rattle.mini_laws.specs.Scopes.{opened, use_of}
use Rattle.mini_laws.specs.Shared.{names_arguments}
use Rattle.mini_laws.specs.declared.names.Declared.TheVariants as declared
use Rattle.mini_laws.specs.declared.names.Use.TheVariants.{Read}
use Rattle.mini_shrink.specs.Facts.{Fact, Written, WrittenElsewhere, Given, GivenElsewhere, GivenByPattern, MentionedElsewhere, BoundElsewhere, IsLexical, IsSwitched, InPattern, UnderCatch, ByArguments, ByEval, AmongParameters, ReadEarly, question}
use Rattle.mini_shrink.specs.Pace.{Silent, Setting, Question, pace, reads_if}
use Rattle.mini_shrink.specs.Questions.{Own, asks, early}
use Rattle.mini_rows.specs.Declarations.{binding, declarator}
use Rattle.mini_rows.specs.Lists.{declaration}
use Rattle.mini_rows.specs.Sketches.{AsWholeItem, Empty}
use Rattle.mini_rows.specs.Unused.{resolved, names, any_names, declared_left}
use Rattle.mini_rows.proofs.ListKeptDeclarations.{all_both}
use Rattle.mini_rows.proofs.Arranging.{All, Any, first_all, second_all}
use Rattle.mini_less.specs.Neighbours.{of_items}
use Rattle.mini_less.specs.TellsLists.{TellsLists}
use Rattle.mini_less.proofs.ByLists.{declared_use, declarator_lacks, kind_use, lacks_lists, lacks_var, var_lacks}
use Rattle.mini_less.proofs.Calm.{unseen}
use Rattle.mini_less.proofs.Drops.{DropsLess}
use Rattle.mini_less.proofs.EachFact.{Unordered}
use Rattle.mini_less.proofs.Finding.{Lacks}
use Rattle.mini_less.proofs.Flags.{none_of, unlike}
use Rattle.mini_less.proofs.HeadsOnce.{HeadLess}
use Rattle.mini_less.proofs.LessRows.{Adds, evals_add, list_names, names_add, numbers_add, any_names as any_arguments}
use Rattle.mini_less.proofs.ListRowsLess.{append_none}
use Rattle.mini_less.proofs.Headed.{and_nothing}
use Rattle.mini_less.proofs.ListMade.{SaysLess}
use Rattle.mini_less.proofs.Listing.{with_belongs, say, to_lacks, of_lacks, none_ended}
use Rattle.mini_less.proofs.OnceInOrder.{most_calm, var_order, lexical_order}
use Rattle.mini_less.proofs.Plainly.{is_reads, split, join, less_by}
use Rattle.mini_less.proofs.TellingLists.{among_both, by_lists, declaration_opens}

-- ---- a declaration with fewer names

abbrev pub FewerDeclared : Question → Type 0
FewerDeclared q =
    (c : Setting) → c.used ≡ Read → (env : Environment) (K : VariableDeclarationKind) (ds es : Trees) → ((s : ℕ) → is_among (by_symbol s) (all_names declared.Bound es) ≡ true → is_among (by_symbol s) (all_names declared.Bound ds) ≡ true)
    → q.before c env (shape.VariableDeclaration K) [] 0 (listed ds ▸ none) ≡ Silent → q.before c env (shape.VariableDeclaration K) [] 0 (listed es ▸ none) ≡ Silent

silent_if : (a b : Bool) → (b ≡ true → a ≡ true) → reads_if a ≡ Silent → reads_if b ≡ Silent
silent_if true true f e = e
silent_if false true f e = absurd (true≢false (sym (f refl)))
silent_if a false f e = refl

kind_fewer : (s : ℕ) (b : Bool) (K : VariableDeclarationKind) (ds es : Trees) → (is_among (by_symbol s) (all_names declared.Bound es) ≡ true → is_among (by_symbol s) (all_names declared.Bound ds) ≡ true) → reads_if (is_among (by_symbol s) (own_lexical b (shape.VariableDeclaration K) (listed ds ▸ none))) ≡ Silent → reads_if (is_among (by_symbol s) (own_lexical b (shape.VariableDeclaration K) (listed es ▸ none))) ≡ Silent
unfolding names_of
kind_fewer s b Var ds es f e = refl_by b
  where
    refl_by : (b : Bool) → reads_if (is_among (by_symbol s) (own_lexical b (shape.VariableDeclaration Var) (listed es ▸ none))) ≡ Silent
    refl_by true = refl
    refl_by false = refl
kind_fewer s b Let ds es f e = by b e
  where
    one : (ts : Trees) → is_among (by_symbol s) (all_names declared.Bound ts ++ []) ≡ is_among (by_symbol s) (all_names declared.Bound ts)
    one ts = ap (is_among (by_symbol s)) (append-nil (all_names declared.Bound ts))

    by : (b : Bool) → reads_if (is_among (by_symbol s) (own_lexical b (shape.VariableDeclaration Let) (listed ds ▸ none))) ≡ Silent → reads_if (is_among (by_symbol s) (own_lexical b (shape.VariableDeclaration Let) (listed es ▸ none))) ≡ Silent
    by true e = silent_if _ _ (λ a. one ds ∙ f (sym (one es) ∙ a)) e
    by false e = silent_if _ _ (λ a. one ds ∙ f (sym (one es) ∙ a)) e
kind_fewer s b Const ds es f e = by b e
  where
    one : (ts : Trees) → is_among (by_symbol s) (all_names declared.Bound ts ++ []) ≡ is_among (by_symbol s) (all_names declared.Bound ts)
    one ts = ap (is_among (by_symbol s)) (append-nil (all_names declared.Bound ts))

    by : (b : Bool) → reads_if (is_among (by_symbol s) (own_lexical b (shape.VariableDeclaration Const) (listed ds ▸ none))) ≡ Silent → reads_if (is_among (by_symbol s) (own_lexical b (shape.VariableDeclaration Const) (listed es ▸ none))) ≡ Silent
    by true e = silent_if _ _ (λ a. one ds ∙ f (sym (one es) ∙ a)) e
    by false e = silent_if _ _ (λ a. one ds ∙ f (sym (one es) ∙ a)) e

pub each_fewer : (g : Fact) (b s : ℕ) → FewerDeclared (question g b s)
each_fewer IsLexical b s c u env K ds es f e = kind_fewer s c.is_body K ds es (f s) e
each_fewer ByEval b s c u env K ds es f e = ap reads_if (unseen (by_symbol s) (opened c.used (shape.VariableDeclaration K) (listed es ▸ none)) (declaration_opens c.used u K (listed es ▸ none)) 0 (listed es ▸ none))
each_fewer Written b s c u env K ds es f e = e
each_fewer WrittenElsewhere b s c u env K ds es f e = e
each_fewer Given b s c u env K ds es f e = e
each_fewer GivenElsewhere b s c u env K ds es f e = e
each_fewer GivenByPattern b s c u env K ds es f e = e
each_fewer MentionedElsewhere b s c u env K ds es f e = e
each_fewer BoundElsewhere b s c u env K ds es f e = e
each_fewer IsSwitched b s c u env K ds es f e = e
each_fewer InPattern b s c u env K ds es f e = e
each_fewer UnderCatch b s c u env K ds es f e = e
each_fewer ByArguments b s c u env K ds es f e = e
each_fewer AmongParameters b s c u env K ds es f e = e
each_fewer ReadEarly b s c u env K ds es f e = e

pub told_off : (b : Bool) → reads_if b ≡ Silent → b ≡ false
told_off true e = absurd (true≢false (ap is_reads e))
told_off false e = refl

pub off_told : (b : Bool) → b ≡ false → reads_if b ≡ Silent
off_told b e = ap reads_if e

-- names of the declarators that stay
among_more : (s : ℕ) (xs ys zs : List Name) → is_among (by_symbol s) (xs ++ zs) ≡ true → is_among (by_symbol s) (xs ++ (ys ++ zs)) ≡ true
among_more s xs ys zs e = among_both (by_symbol s) xs (ys ++ zs) ∙ (λ j. is_among (by_symbol s) xs || among_both (by_symbol s) ys zs j) ∙ by (is_among (by_symbol s) xs) (is_among (by_symbol s) ys) (is_among (by_symbol s) zs) (sym (among_both (by_symbol s) xs zs) ∙ e)
  where
    by : (a b c : Bool) → (a || c) ≡ true → (a || (b || c)) ≡ true
    by true b c e = refl
    by false true c e = refl
    by false false c e = e

pub stays_declared : (first : Trees) (d : Tree) (last : Trees) (s : ℕ) → is_among (by_symbol s) (all_names declared.Bound (append first last)) ≡ true → is_among (by_symbol s) (all_names declared.Bound (append first (d ▸ last))) ≡ true
unfolding names_of
stays_declared first d last s e = ap (is_among (by_symbol s)) (all_both declared.Bound first (d ▸ last)) ∙ among_more s (all_names declared.Bound first) (names_of declared.Bound d) (all_names declared.Bound last) (sym (ap (is_among (by_symbol s)) (all_both declared.Bound first last)) ∙ e)

-- ---- what is told besides names

pub record Flagged (f : Tree → Bool) (g : Trees → Bool) : Type 1 where
  pub nothing : g none ≡ false
  pub more : (t : Tree) (ts : Trees) → g (t ▸ ts) ≡ (f t || g ts)
  pub adds : Adds g
  pub declares : (K : VariableDeclarationKind) (ts : Trees) → f (declaration K ts) ≡ (g ts || false)
  pub binds : (id d : Tree) → f (declarator id d) ≡ (f id || (f d || false))
  pub empty : f empty_statement ≡ false

pub evals_flagged : Flagged has_eval any_has_eval
unfolding has_eval
evals_flagged = record { nothing = refl; more = λ t ts. refl; adds = evals_add; declares = λ K ts. refl; binds = λ id d. refl; empty = refl }

pub names_flagged : Flagged names_arguments any_arguments
unfolding names_arguments
names_flagged = record { nothing = refl; more = λ t ts. refl; adds = names_add; declares = λ K ts. ap (λ b. b || false) (list_names ts); binds = λ id d. refl; empty = refl }

pub numbers_flagged : (b : ℕ) → Flagged (has_number (suc b)) (any_has_number (suc b))
unfolding has_number
numbers_flagged b = record {
  nothing = refl;
  more = λ t ts. refl;
  adds = numbers_add (suc b);
  declares = λ K ts j. unlike b j || ((unlike b j || any_has_number (suc b) ts) || false);
  binds = λ id d j. unlike b j || (has_number (suc b) id || (has_number (suc b) d || false));
  empty = λ j. unlike b j || false;
}

module _ (f : Tree → Bool) (g : Trees → Bool) (z : Flagged f g) where
  -- the parts of a declaration
  pub apart : (K : VariableDeclarationKind) (first : Trees) (id d : Tree) (last : Trees) → f (declaration K (append first (declarator id d ▸ last))) ≡ false → (g first ≡ false) × ((f d ≡ false) × (g last ≡ false))
  apart K first id d last e =
      let all = (none_of (g (append first (declarator id d ▸ last))) false (sym (z.declares K (append first (declarator id d ▸ last))) ∙ e)).0 in
      let (a, b) = none_of (g first) (g (declarator id d ▸ last)) (sym (z.adds first (declarator id d ▸ last)) ∙ all) in
      let (u, v) = none_of (f (declarator id d)) (g last) (sym (z.more (declarator id d) last) ∙ b) in
      let (i, w) = none_of (f id) (f d || false) (sym (z.binds id d) ∙ u) in
      (a, ((none_of (f d) false w).0, v))

  pub whole : (K : VariableDeclarationKind) (ts : Trees) → g ts ≡ false → f (declaration K ts) ≡ false
  whole K ts e = z.declares K ts ∙ λ j. e j || false

  left_off : (K : VariableDeclarationKind) (first : Trees) → g first ≡ false → f (declared_left K first) ≡ false
  left_off K none e = z.empty
  left_off K (t ▸ ts) e = whole K (t ▸ ts) e

  two_off : (t u : Tree) → f t ≡ false → f u ≡ false → g (t ▸ (u ▸ none)) ≡ false
  two_off t u a b = z.more t (u ▸ none) ∙ λ j. a j || (z.more u none ∙ λ j. b j || z.nothing j) j

  two_parts : (t u : Tree) → g (t ▸ (u ▸ none)) ≡ false → (f t ≡ false) × (f u ≡ false)
  two_parts t u e =
      let (a, b) = none_of (f t) (g (u ▸ none)) (sym (z.more t (u ▸ none)) ∙ e) in
      (a, (none_of (f u) (g none) (sym (z.more u none) ∙ b)).0)

  head_off : (K : VariableDeclarationKind) (first : Trees) (id init head put : Tree) → (f init ≡ false → f head ≡ false → f put ≡ false) → g (declaration K (append first (declarator id init ▸ none)) ▸ (head ▸ none)) ≡ false → g (declared_left K first ▸ (put ▸ none)) ≡ false
  head_off K first id init head put h e =
      let (d, k) = two_parts (declaration K (append first (declarator id init ▸ none))) head e in
      let (a, (b, c)) = apart K first id init none d in
      two_off (declared_left K first) put (left_off K first a) (h b k)

-- ---- 71

module _ (sp : List ℕ) (k : ℕ) (K : VariableDeclarationKind) (first : Trees) (init head put : Tree) (heads : HeadLess init head put) where
  abbrev x : Name
  x = resolved sp k

  abbrev dx : Tree
  dx = declarator (binding x) init

  abbrev ds : Trees
  ds = append first (dx ▸ none)

  abbrev read : Trees
  read = declaration K ds ▸ (head ▸ none)

  abbrev wrote : Trees
  wrote = declared_left K first ▸ (put ▸ none)

  abbrev used : (c : Setting) → c.used ≡ Read → use_of (shape.VariableDeclaration K) c.used 0 ≡ declared_use K
  used c u = ap (λ v. use_of (shape.VariableDeclaration K) v 0) u ∙ kind_use K

  abbrev closed : (c : Setting) → c.used ≡ Read → (ts : Trees) → opened c.used (shape.VariableDeclaration K) (listed ts ▸ none) 0 ≡ []
  closed c u ts = declaration_opens c.used u K (listed ts ▸ none) 0

  asked_less : (o : Own) (t : TellsLists o) → Unordered o → FewerDeclared (asks o) → (c : Setting) → c.used ≡ Read → (env : Environment) (y : Bool) → SaysLess read wrote (asks o) c env y
  asked_less o t z fewer c u env y =
      let c' = with_belongs c in
      let Q = Lacks o t.plainly c' env in
      let v = declared_use K in
      let D = Lacks o t.plainly (record c' { used = v; is_body = false }) env in
      let says = say o t.plainly z y c env in
      let declared_there = pace (asks o) (of_items y c) env (declaration K ds) in
      let left = pace (asks o) (of_items y c) env (declared_left K first) in
      less_by (says wrote) (says read) (λ a.
      let (there, behind) = split declared_there (says (head ▸ none)) a in
      let (own, all) = var_lacks o t c' env u K AsWholeItem v (used c u) (closed c u) ds (to_lacks o t.plainly z y c env read a).0 in
      let others = first_all Any D AsWholeItem first (dx ▸ none) all in
      let value = (declarator_lacks o t c' env u v (binding x) init (second_all Any D AsWholeItem first (dx ▸ none) all).0).1.1 in
      let left_lacks = lacks_left o t fewer c u env own others in
      join left (says (put ▸ none)) (split left Silent (of_lacks o t.plainly z y c env (declared_left K first ▸ none) (left_lacks, tt))).0
      (most_calm (says (put ▸ none)) (says (head ▸ none)) (heads.asked o t z c u env y value) behind))
      (none_ended o t.plainly z y c env read)
    where
      lacks_left : (o : Own) (t : TellsLists o) → FewerDeclared (asks o) → (c : Setting) (u : c.used ≡ Read) (env : Environment) → o (record (with_belongs c) { ordered = false }) env (shape.VariableDeclaration K) [] 0 (listed ds ▸ none) ≡ false
          → All (Lacks o t.plainly (record (with_belongs c) { used = declared_use K; is_body = false }) env) AsWholeItem first → Lacks o t.plainly (with_belongs c) env AsWholeItem (declared_left K first)
      lacks_left o t fewer c u env own a = by first own a stays
        where
          stays : (s : ℕ) → is_among (by_symbol s) (all_names declared.Bound first) ≡ true → is_among (by_symbol s) (all_names declared.Bound ds) ≡ true
          stays s e = stays_declared first dx none s (ap (λ ts. is_among (by_symbol s) (all_names declared.Bound ts)) (append_none first) ∙ e)

          by : (es : Trees) → o (record (with_belongs c) { ordered = false }) env (shape.VariableDeclaration K) [] 0 (listed ds ▸ none) ≡ false → All (Lacks o t.plainly (record (with_belongs c) { used = declared_use K; is_body = false }) env) AsWholeItem es
              → ((s : ℕ) → is_among (by_symbol s) (all_names declared.Bound es) ≡ true → is_among (by_symbol s) (all_names declared.Bound ds) ≡ true) → Lacks o t.plainly (with_belongs c) env AsWholeItem (declared_left K es)
          by none own a f = (lacks_lists o t (with_belongs c) env u).parts.up Empty refl AsWholeItem none tt tt
          by (e ▸ es) own a f =
              lacks_var o t (with_belongs c) env u K AsWholeItem (declared_use K) (used c u) (closed c u) (e ▸ es)
              (told_off _ (fewer (record (with_belongs c) { ordered = false }) u env K ds (e ▸ es) f (off_told _ own))) a

-- ---- each fact

-- the declarator ends no declaration of another symbol
abbrev pub Unended : List ℕ → ℕ → Tree → Question → Type 0
Unended sp k init q = (c : Setting) → q.ends c (declarator (binding (resolved sp k)) init) ≡ false

pub each_unended : (sp : List ℕ) (k : ℕ) (init : Tree) (g : Fact) (b s : ℕ) → nat_eq s k ≡ false → Unended sp k init (question g b s)
unfolding names_of
each_unended sp k init ReadEarly b s e c = (λ j. c.ordered && (false || (e j || false))) ∙ and_nothing c.ordered
each_unended sp k init IsLexical b s e c = refl
each_unended sp k init ByEval b s e c = refl
each_unended sp k init Written b s e c = refl
each_unended sp k init WrittenElsewhere b s e c = refl
each_unended sp k init Given b s e c = refl
each_unended sp k init GivenElsewhere b s e c = refl
each_unended sp k init GivenByPattern b s e c = refl
each_unended sp k init MentionedElsewhere b s e c = refl
each_unended sp k init BoundElsewhere b s e c = refl
each_unended sp k init IsSwitched b s e c = refl
each_unended sp k init InPattern b s e c = refl
each_unended sp k init UnderCatch b s e c = refl
each_unended sp k init ByArguments b s e c = refl
each_unended sp k init AmongParameters b s e c = refl

-- where the declarator ends no declaration of a symbol, that is another than its own
pub another : (sp : List ℕ) (k : ℕ) (init : Tree) (b s : ℕ) → (c : Setting) → Unended sp k init (early b s) → nat_eq s k ≡ false
unfolding names_of
another sp k init b s c f = by (nat_eq s k) (f (record c { ordered = true }))
  where
    by : (d : Bool) → (true && (false || (d || false))) ≡ false → d ≡ false
    by true e = e
    by false e = refl

module _ (sp : List ℕ) (k : ℕ) (first : Trees) (init head put : Tree) (heads : HeadLess init head put) where
  abbrev Less : VariableDeclarationKind → Question → Type 0
  Less K q = (c : Setting) → c.used ≡ Read → (env : Environment) (o : Bool) → SaysLess (declaration K (append first (declarator (binding (resolved sp k)) init ▸ none)) ▸ (head ▸ none)) (declared_left K first ▸ (put ▸ none)) q c env o

  order_less : (K : VariableDeclarationKind) → (is_lexical K ≡ true → all_names declared.Lexical first ≡ []) → (b s : ℕ) → Unended sp k init (early b s) → Less K (early b s)
  order_less Var plain b s e c u env o = var_order sp k first init head put heads b s (another sp k init b s c e) c u env o
  order_less Let plain b s e c u env o = lexical_order sp k first init head put heads b s (another sp k init b s c e) c u env o Let refl (plain refl)
  order_less Const plain b s e c u env o = lexical_order sp k first init head put heads b s (another sp k init b s c e) c u env o Const refl (plain refl)

  facts_less : (K : VariableDeclarationKind) → (is_lexical K ≡ true → all_names declared.Lexical first ≡ []) → (g : Fact) (b s : ℕ) → nat_eq s k ≡ false → Less K (question g b s)
  facts_less K plain g b s e =
      by_lists (λ q. FewerDeclared q → Unended sp k init q → Less K q) (λ o t z f n c u env y. asked_less sp k K first init head put heads o t z f c u env y) (λ b s f n. order_less K plain b s n) g b s (each_fewer g b s) (each_unended sp k init g b s e)

  unnamed_left : (K : VariableDeclarationKind) (ts : Trees) → any_names (resolved sp k) ts ≡ false → names (resolved sp k) put ≡ false → any_names (resolved sp k) (declared_left K ts ▸ (put ▸ none)) ≡ false
  unnamed_left K none e f = ap (λ b. b || false) f
  unnamed_left K (t ▸ ts) e f = (λ j. (e j || false) || any_names (resolved sp k) (put ▸ none)) ∙ ap (λ b. b || false) f

  pub once_drops : (K : VariableDeclarationKind) → (is_lexical K ≡ true → all_names declared.Lexical first ≡ []) → any_names (resolved sp k) first ≡ false → names (resolved sp k) put ≡ false
      → DropsLess (resolved sp k) k (declaration K (append first (declarator (binding (resolved sp k)) init ▸ none)) ▸ (head ▸ none)) (declared_left K first ▸ (put ▸ none))
  once_drops K plain e f = record {
    less = facts_less K plain;
    unnamed = unnamed_left K first e f;
    evals = head_off has_eval any_has_eval evals_flagged K first (binding (resolved sp k)) init head put heads.evals;
    arguments = head_off names_arguments any_arguments names_flagged K first (binding (resolved sp k)) init head put heads.arguments;
    numbers = λ b. head_off (has_number (suc b)) (any_has_number (suc b)) (numbers_flagged b) K first (binding (resolved sp k)) init head put (heads.numbers b);
  }
