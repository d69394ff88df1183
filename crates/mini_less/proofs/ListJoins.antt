-- Two declarations of a kind that become one ask less.
use Rattle.std.specs.Prelude.{ℕ, suc, ◌≡◌, refl, Bool, true, false, ◌&&◌, ◌||◌, [], ◌++◌}
use Rattle.std.proofs.Common.{ap, ◌∙◌, sym, subst, true≢false}
use Rattle.std.proofs.lemmas.List.{append-nil}
use Rattle.mini_model.specs.declared.kind.VariableDeclarationKind.{VariableDeclarationKind}
use Rattle.mini_model.specs.declared.kind.VariableDeclarationKind.TheVariants.{Var, Let, Const}
use Rattle.mini_model.specs.declared.shape.Shape.TheVariants as shape
use Rattle.mini_model.specs.Paths.{append}
use Rattle.mini_model.specs.Tree.{Tree, Trees, none, ◌▸◌, listed}
use Rattle.mini_laws.specs.declared.names.Declared.TheVariants as declared
use Rattle.mini_laws.specs.declared.names.Use.TheVariants.{Read}
use Rattle.mini_laws.specs.DeclaredNames.{names_of, all_names}
use Rattle.mini_laws.specs.Foreign.{has_number, any_has_number}
use Rattle.mini_laws.specs.Mentions.{is_among}
use Rattle.mini_laws.specs.Naming.{is_lexical}
use Rattle.mini_laws.specs.Resolved.{Environment}
use Rattle.mini_laws.specs.ScopeList.{has_eval, any_has_eval, by_symbol}
use Rattle.mini_laws.specs.Scopes.{opened}
use Rattle.mini_laws.specs.Shared.{names_arguments}
use Rattle.mini_shrink.specs.Pace.{Pace, Ends, Silent, Reads, reads_if, followed, ends_after, AtMost, Setting, below, Question, pace}
use Rattle.mini_shrink.specs.Questions.{Own, asks, early, alone_names}
use Rattle.mini_rows.specs.Lists.{declarator, declaration, Row68}
use Rattle.mini_rows.proofs.ListKeptDeclarations.{all_both}
use Rattle.mini_rows.specs.Sketches.{AsWholeItem}
use Rattle.mini_less.specs.Families.{NeighboursLess}
use Rattle.mini_less.specs.TellsLists.{TellsLists}
use Rattle.mini_less.specs.Neighbours.{of_items, items_say}
use Rattle.mini_less.proofs.Flags.{none_of, unlike}
use Rattle.mini_less.proofs.LessRows.{Adds, evals_add, numbers_add, names_add, any_names, list_names}
use Rattle.mini_less.proofs.Listing.{say, none_ended, asks_pass, early_passes, with_belongs}
use Rattle.mini_less.proofs.Neighbours.{listed_is, appended}
use Rattle.mini_less.proofs.Plainly.{is_reads, split, join, less_by, standing}
use Rattle.mini_less.proofs.ByLists.{declaring}
use Rattle.mini_less.proofs.ListHeads.{both_every}
use Rattle.mini_less.proofs.ListMade.{ListMade, SaysLess, StretchLess, stretch_less, made_stretch}
use Rattle.mini_less.proofs.TellingLists.{among_both, declaration_opens}
use Rattle.mini_less.proofs.EachFact.{Unordered}
use Rattle.mini_shrink.proofs.Paces.{itself}

-- ---- one after another, and as one

once : (x y : Bool) (p : Pace) → ends_after x (followed (ends_after y p) Silent) ≡ ends_after x p
once true true Ends = refl
once true true Silent = refl
once true true Reads = refl
once true false Ends = refl
once true false Silent = refl
once true false Reads = refl
once false true Ends = refl
once false true Silent = refl
once false true Reads = refl
once false false Ends = refl
once false false Silent = refl
once false false Reads = refl

abbrev pub is_silent : Pace → Bool
is_silent Silent = true
is_silent p = false

either_ends : (x y : Bool) (p r : Pace) → (x ≡ true → is_silent p ≡ false) → AtMost (followed (ends_after (x || y) (followed p r)) Silent) (followed (ends_after x p) (followed (ends_after y r) Silent))
either_ends x y Reads r f = tt
either_ends true y Ends r f = tt
either_ends false true Ends r f = tt
either_ends false false Ends Ends f = tt
either_ends false false Ends Silent f = tt
either_ends false false Ends Reads f = tt
either_ends true y Silent r f = absurd (true≢false (f refl))
either_ends false y Silent r f = itself (followed (ends_after y r) Silent)

module _ (b s : ℕ) (c : Setting) (env : Environment) where
  abbrev q : Question
  q = early b s

  abbrev pub declares : Trees → Bool
  declares ts = is_among (by_symbol s) (all_names declared.Bound ts)

  pub declares_both : (ds es : Trees) → declares (append ds es) ≡ (declares ds || declares es)
  declares_both ds es = ap (is_among (by_symbol s)) (all_both declared.Bound ds es) ∙ among_both (by_symbol s) (all_names declared.Bound ds) (all_names declared.Bound es)

  -- around the declarators, where the list of statements declares the name or doesn't
  abbrev pub inside : Bool → Setting
  inside o = record { used = Read; around = c.around; strict = c.strict; is_body = false; belongs = (c.belongs && true) && true; ordered = o }

  abbrev pub items : Bool → Trees → Pace
  items o ts = items_say q (of_items o (inside o)) env ts

  -- a declarator says the same wherever it stands
  pub declarator_anywhere : (o : Bool) (id d : Tree) → pace q (of_items o (inside o)) env (declarator id d) ≡ pace q (standing b s (declaring Read (with_belongs c)) env AsWholeItem) env (declarator id d)
  unfolding pace
  declarator_anywhere o id d = λ j. pace q (record { used = Read; around = c.around; strict = c.strict; is_body = false; belongs = (and_true ((c.belongs && true) && true) ∙ and_true (c.belongs && true)) j; ordered = false }) env (declarator id d)
    where
      and_true : (x : Bool) → (x && true) ≡ x
      and_true true = refl
      and_true false = refl

  -- a list that declares the name says something
  pub spoken : (ts : Trees) → declares ts ≡ true → is_silent (items true ts) ≡ false
  unfolding names_of
  spoken none e = absurd (true≢false (sym e))
  spoken (t ▸ ts) e = by (is_among (by_symbol s) (names_of declared.Bound t)) (declares ts) refl refl (spoken ts) (sym (among_both (by_symbol s) (names_of declared.Bound t) (all_names declared.Bound ts)) ∙ e)
    where
      ended : (x : Bool) (p r : Pace) → x ≡ true → is_silent (followed (ends_after x p) r) ≡ false
      ended true Ends r e = refl
      ended true Silent r e = refl
      ended true Reads r e = refl
      ended false p r e = absurd (true≢false (sym e))

      later : (p r : Pace) → is_silent r ≡ false → is_silent (followed p r) ≡ false
      later Ends r e = refl
      later Silent r e = e
      later Reads r e = refl

      or_true : (x y : Bool) → y ≡ true → (x || y) ≡ true
      or_true true y e = refl
      or_true false y e = e

      by : (x y : Bool) → is_among (by_symbol s) (names_of declared.Bound t) ≡ x → declares ts ≡ y → (declares ts ≡ true → is_silent (items true ts) ≡ false) → (x || y) ≡ true → is_silent (items true (t ▸ ts)) ≡ false
      by true y e f h g = ended (is_among (by_symbol s) (names_of declared.Lexical t) || is_among (by_symbol s) (names_of declared.Bound t)) (pace q (of_items true (inside true)) env t) (items true ts) (or_true (is_among (by_symbol s) (names_of declared.Lexical t)) (is_among (by_symbol s) (names_of declared.Bound t)) e)
      by false true e f h g = later (ends_after (q.ends (of_items true (inside true)) t) (pace q (of_items true (inside true)) env t)) (items true ts) (h f)
      by false false e f h g = absurd (true≢false (sym g))

  abbrev ends_inside : Bool → Trees → Bool
  ends_inside o ts = q.ends (inside o) (listed ts)

  -- the declarators of a declaration in a list
  module _ (r : c.used ≡ Read) where
    opens : (k : VariableDeclarationKind) (o : Bool) (ts : Trees) → pace q (inside o) (env ++ opened c.used (shape.VariableDeclaration k) (listed ts ▸ none) 0) (listed ts) ≡ pace q (inside o) env (listed ts)
    opens k o ts = ap (λ e. pace q (inside o) e (listed ts)) (ap (λ b. env ++ b) (declaration_opens c.used r k (listed ts ▸ none) 0) ∙ append-nil env)

    -- a declaration in a list is no scope of its own
    unalone : (k : VariableDeclarationKind) → is_lexical k ≡ true → (ts : Trees) → is_among (by_symbol s) (alone_names c.used k (listed ts)) ≡ false
    unalone Var e ts = absurd (true≢false (sym e))
    unalone Let e ts = ap (λ u. is_among (by_symbol s) (alone_names u Let (listed ts))) r
    unalone Const e ts = ap (λ u. is_among (by_symbol s) (alone_names u Const (listed ts))) r

    says : (k : VariableDeclarationKind) → is_lexical k ≡ true → (o : Bool) (ts : Trees) → pace q (of_items o c) env (declaration k ts) ≡ followed (ends_after (ends_inside o ts) (items o ts)) Silent
    unfolding pace
    says Var e o ts = absurd (true≢false (sym e))
    says Let e true ts = λ j. followed (ends_after (ends_inside true ts) ((opens Let true ts ∙ listed_is q (early_passes b s) (inside true) env ts) j)) Silent
    says Let e false ts =
        (λ j. followed (ends_after (ends_inside (unalone Let e ts j) ts) (pace q (inside (unalone Let e ts j)) (env ++ opened c.used (shape.VariableDeclaration Let) (listed ts ▸ none) 0) (listed ts))) Silent)
        ∙ (λ j. followed (ends_after (ends_inside false ts) ((opens Let false ts ∙ listed_is q (early_passes b s) (inside false) env ts) j)) Silent)
    says Const e true ts = λ j. followed (ends_after (ends_inside true ts) ((opens Const true ts ∙ listed_is q (early_passes b s) (inside true) env ts) j)) Silent
    says Const e false ts =
        (λ j. followed (ends_after (ends_inside (unalone Const e ts j) ts) (pace q (inside (unalone Const e ts j)) (env ++ opened c.used (shape.VariableDeclaration Const) (listed ts ▸ none) 0) (listed ts))) Silent)
        ∙ (λ j. followed (ends_after (ends_inside false ts) ((opens Const false ts ∙ listed_is q (early_passes b s) (inside false) env ts) j)) Silent)

    declares_alone : (ts : Trees) → (is_among (by_symbol s) (all_names declared.Bound ts ++ []) || false) ≡ declares ts
    declares_alone ts = or_none (is_among (by_symbol s) (all_names declared.Bound ts ++ [])) ∙ ap (is_among (by_symbol s)) (append-nil (all_names declared.Bound ts))
      where
        or_none : (x : Bool) → (x || false) ≡ x
        or_none true = refl
        or_none false = refl

    ends_are : (k : VariableDeclarationKind) → is_lexical k ≡ true → (o : Bool) (ts : Trees) → q.ends (of_items o c) (declaration k ts) ≡ (o && declares ts)
    unfolding names_of
    ends_are Var e o ts = absurd (true≢false (sym e))
    ends_are Let e true ts = declares_alone ts
    ends_are Let e false ts = refl
    ends_are Const e true ts = declares_alone ts
    ends_are Const e false ts = refl

    pub one_says : (k : VariableDeclarationKind) → is_lexical k ≡ true → (o : Bool) (ts : Trees) → ends_after (q.ends (of_items o c) (declaration k ts)) (pace q (of_items o c) env (declaration k ts)) ≡ ends_after (o && declares ts) (items o ts)
    one_says k e o ts = (λ j. ends_after (ends_are k e o ts j) (says k e o ts j)) ∙ once (o && declares ts) (ends_inside o ts) (items o ts)

    abbrev apart : Bool → Trees → Trees → Pace
    apart o ds es = followed (ends_after (o && declares ds) (items o ds)) (followed (ends_after (o && declares es) (items o es)) Silent)

    abbrev as_one : Bool → Trees → Trees → Pace
    as_one o ds es = followed (ends_after (o && declares (append ds es)) (items o (append ds es))) Silent

    less_as_one : (o : Bool) (ds es : Trees) → AtMost (as_one o ds es) (apart o ds es)
    less_as_one true ds es =
        subst (λ p. AtMost p (apart true ds es)) (sym (λ j. followed (ends_after (declares_both ds es j) (appended q (early_passes b s) (of_items true (inside true)) env ds es j)) Silent))
        (either_ends (declares ds) (declares es) (items true ds) (items true es) (spoken ds))
    less_as_one false ds es =
        subst (λ p. AtMost p (apart false ds es)) (sym (λ j. followed (ends_after false (appended q (early_passes b s) (of_items false (inside false)) env ds es j)) Silent))
        (either_ends false false (items false ds) (items false es) (λ e. absurd (true≢false (sym e))))

    joined_in_order : (k : VariableDeclarationKind) → is_lexical k ≡ true → (o : Bool) (ds es : Trees) → SaysLess (declaration k ds ▸ (declaration k es ▸ none)) (declaration k (append ds es) ▸ none) q c env o
    joined_in_order k e o ds es =
        subst (λ p. AtMost p (items_say q (of_items o c) env (declaration k ds ▸ (declaration k es ▸ none)))) (sym (λ j. followed (one_says k e o (append ds es) j) Silent))
        (subst (AtMost (as_one o ds es)) (sym (λ j. followed (one_says k e o ds j) (followed (one_says k e o es j) Silent))) (less_as_one o ds es))

-- ---- yes or no

quiet_both : (b : Bool) (p : Pace) → is_reads (followed (reads_if b) (followed (ends_after false p) Silent)) ≡ false → (b ≡ false) × (is_reads p ≡ false)
quiet_both true p e = absurd (true≢false e)
quiet_both false Ends e = (refl, refl)
quiet_both false Silent e = (refl, refl)
quiet_both false Reads e = absurd (true≢false e)

both_quiet : (b : Bool) (p : Pace) → b ≡ false → is_reads p ≡ false → is_reads (followed (reads_if b) (followed (ends_after false p) Silent)) ≡ false
both_quiet true p e f = absurd (true≢false e)
both_quiet false Ends e f = refl
both_quiet false Silent e f = refl
both_quiet false Reads e f = absurd (true≢false f)

pub quiet_after : (p r : Pace) → is_reads p ≡ false → is_reads r ≡ false → is_reads (followed p r) ≡ false
quiet_after Ends r e f = refl
quiet_after Silent r e f = f
quiet_after Reads r e f = absurd (true≢false e)

module _ (o : Own) (t : TellsLists o) (z : Unordered o) (c : Setting) (r : c.used ≡ Read) (env : Environment) (x : Bool) (k : VariableDeclarationKind) where
  abbrev around : Setting
  around = below false (of_items x c) (shape.VariableDeclaration k) 0 0

  abbrev found : Trees → Pace
  found ts = items_say (asks o) (of_items false around) env ts

  abbrev own : Trees → Bool
  own ts = o (of_items x c) env (shape.VariableDeclaration k) [] 0 (listed ts ▸ none)

  finding : (ts : Trees) → pace (asks o) (of_items x c) env (declaration k ts) ≡ followed (reads_if (own ts)) (followed (ends_after false (found ts)) Silent)
  unfolding pace
  finding ts =
      λ j. followed (reads_if (own ts)) (followed (ends_after false ((ap (λ e. pace (asks o) around e (listed ts)) (ap (λ b. env ++ b) (declaration_opens c.used r k (listed ts ▸ none) 0) ∙ append-nil env) ∙ listed_is (asks o) (asks_pass o t.plainly) around env ts) j)) Silent)

  joined_asked : (ds es : Trees) → SaysLess (declaration k ds ▸ (declaration k es ▸ none)) (declaration k (append ds es) ▸ none) (asks o) c env x
  joined_asked ds es =
      let at = of_items x c in
      let first = pace (asks o) at env (declaration k ds) in
      let second = pace (asks o) at env (declaration k es) in
      let whole = pace (asks o) at env (declaration k (append ds es)) in
      let two = declaration k ds ▸ (declaration k es ▸ none) in
      less_by (say o t.plainly z x c env (declaration k (append ds es) ▸ none)) (say o t.plainly z x c env two)
      (λ y.
      let (u, v) = split first (followed (ends_after false second) Silent) y in
      let (a, b) = quiet_both (own ds) (found ds) (sym (ap is_reads (finding ds)) ∙ u) in
      let (d, e) = quiet_both (own es) (found es) (sym (ap is_reads (finding es)) ∙ (split second Silent v).0) in
      join whole Silent
      (ap is_reads (finding (append ds es)) ∙ both_quiet (own (append ds es)) (found (append ds es)) (t.joined at env k ds es r a d)
      (ap is_reads (appended (asks o) (asks_pass o t.plainly) (of_items false around) env ds es) ∙ quiet_after (found ds) (found es) b e)) refl)
      (none_ended o t.plainly z x c env two)

-- ---- what they tell besides names

-- what is told of a declaration is told of its declarators
abbrev pub Tells : (Tree → Bool) → (Trees → Bool) → VariableDeclarationKind → Type 0
Tells f g k = (ts : Trees) → f (declaration k ts) ≡ (g ts || false)

module _ (f : Tree → Bool) (g : Trees → Bool) (adds : Adds g) (k : VariableDeclarationKind) (told : Tells f g k) where
  joined_told : (ds es : Trees) → (f (declaration k ds) || (f (declaration k es) || false)) ≡ false → (f (declaration k (append ds es)) || false) ≡ false
  joined_told ds es e =
      let (x, y) = none_of (f (declaration k ds)) (f (declaration k es) || false) e in
      let (u, v) = none_of (f (declaration k es)) false y in
      let a = none_of (g ds) false (sym (told ds) ∙ x) in
      let b = none_of (g es) false (sym (told es) ∙ u) in
      λ j. (told (append ds es) ∙ (λ j. (adds ds es ∙ (λ j. a.0 j || b.0 j)) j || false)) j || false

pub evals_told : (k : VariableDeclarationKind) → Tells has_eval any_has_eval k
unfolding has_eval
evals_told k ts = refl

pub names_told : (k : VariableDeclarationKind) → Tells names_arguments any_names k
unfolding names_arguments
names_told k ts = ap (λ b. b || false) (list_names ts)

module _ (b : ℕ) where
  pub numbers_told : (k : VariableDeclarationKind) → Tells (has_number (suc b)) (any_has_number (suc b)) k
  unfolding has_number
  numbers_told k ts = λ j. unlike b j || ((unlike b j || any_has_number (suc b) ts) || false)

joined_stretch : (k : VariableDeclarationKind) → is_lexical k ≡ true → (ds es : Trees) → StretchLess (declaration k ds ▸ (declaration k es ▸ none)) (declaration k (append ds es) ▸ none)
unfolding has_eval has_number
joined_stretch k e ds es = record {
  asked = λ strict f c r env x o t z. joined_asked o t z c r env x k ds es;
  in_order = λ strict f c r env x b s. joined_in_order b s c env r k e x ds es;
  evals = λ strict f y. joined_told has_eval any_has_eval evals_add k (evals_told k) ds es y;
  arguments = λ strict f y. joined_told names_arguments any_names names_add k (names_told k) ds es y;
  numbers = λ strict f b y. joined_told (has_number (suc b)) (any_has_number (suc b)) (numbers_add (suc b)) k (numbers_told b k) ds es y;
}

-- those of `var` are no lexical names
joined_vars : (ds es : Trees) → ListMade (declaration Var ds ▸ (declaration Var es ▸ none)) (declaration Var (append ds es) ▸ none)
joined_vars ds es strict k f Q l y = (l.var_up (append ds es) (both_every l.Declared ds es (l.var_down ds y.0) (l.var_down es y.1.0)), tt)

of_kind : (k : VariableDeclarationKind) (ds es : Trees) → StretchLess (declaration k ds ▸ (declaration k es ▸ none)) (declaration k (append ds es) ▸ none)
of_kind Var ds es = made_stretch (declaration Var ds ▸ (declaration Var es ▸ none)) (declaration Var (append ds es) ▸ none) refl (joined_vars ds es)
of_kind Let ds es = joined_stretch Let refl ds es
of_kind Const ds es = joined_stretch Const refl ds es

pub row_68_less : NeighboursLess Row68
row_68_less p l n w r =
    stretch_less p l r.before r.after (declaration r.row.kind r.row.ds ▸ (declaration r.row.kind r.row.es ▸ none)) (declaration r.row.kind (append r.row.ds r.row.es) ▸ none) n w
    (r.shape ∙ ap (λ ts. listed (append r.before (append ts r.after))) r.row.shape) (r.written ∙ ap (λ ts. listed (append r.before (append ts r.after))) r.row.written)
    (of_kind r.row.kind r.row.ds r.row.es)
