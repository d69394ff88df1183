-- A declarator whose name the next one reads once goes, its value stands where the name was read,
-- and no more is told of any other symbol: `let x = a(), y = x.b;` becomes `let y = a().b;`.
use Rattle.std.specs.Prelude.{ℕ, suc, ◌≡◌, refl, nat_eq, Bool, true, false, ◌&&◌, ◌||◌, List, [], ◌++◌}
use Rattle.std.proofs.Common.{ap, ◌∙◌, sym, subst, true≢false}
use Rattle.mini_model.specs.declared.kind.VariableDeclarationKind.{VariableDeclarationKind}
use Rattle.mini_model.specs.declared.kind.VariableDeclarationKind.TheVariants.{Var, Let, Const}
use Rattle.mini_model.specs.declared.name.Name.{Name}
use Rattle.mini_model.specs.Paths.{append}
use Rattle.mini_model.specs.Tree.{Tree, Trees, none, ◌▸◌, listed}
use Rattle.mini_laws.specs.DeclaredNames.{all_names, names_of}
use Rattle.mini_laws.specs.Foreign.{any_has_number, has_number}
use Rattle.mini_laws.specs.Mentions.{is_among}
use Rattle.mini_laws.specs.Naming.{is_lexical}
use Rattle.mini_laws.specs.Resolved.{Environment}
use Rattle.mini_laws.specs.ScopeList.{any_has_eval, by_symbol, has_eval}
use Rattle.mini_laws.specs.Scopes.{opened, use_of}
use Rattle.mini_laws.specs.Shared.{names_arguments}
use Rattle.mini_laws.specs.declared.names.Use.TheVariants.{Read}
use Rattle.mini_shrink.specs.Facts.{Fact, question}
use Rattle.mini_shrink.specs.Pace.{Pace, Ends, Silent, Reads, followed, ends_after, AtMost, Setting, Question, pace}
use Rattle.mini_shrink.specs.Questions.{Own, asks, early}
use Rattle.mini_shrink.proofs.Paces.{itself, both, ended, same}
use Rattle.mini_rows.specs.Declarations.{binding, declarator}
use Rattle.mini_rows.specs.Lists.{declaration}
use Rattle.mini_rows.specs.Sketches.{Asked, AsWholeItem}
use Rattle.mini_rows.specs.Unused.{resolved, names, any_names, is_first, put_first}
use Rattle.mini_rows.proofs.ListKeptDeclarations.{all_both}
use Rattle.mini_rows.proofs.Arranging.{Any, first_all, second_all, both_all}
use Rattle.mini_less.specs.Neighbours.{of_items, items_say}
use Rattle.mini_less.specs.TellsLists.{TellsLists}
use Rattle.mini_less.proofs.ByLists.{calm_lists, declared_use, declarator_lacks, kind_use, lacks_var, valued_calm, valued_lacks, var_lacks}
use Rattle.mini_less.proofs.Drops.{DropsLess}
use Rattle.mini_less.proofs.EachFact.{Unordered}
use Rattle.mini_less.proofs.EntersLess.{reads_most, calm_ends, first_every, second_every}
use Rattle.mini_less.proofs.Finding.{Lacks, lacks_local}
use Rattle.mini_less.proofs.Flags.{none_of, numbers_local, spares_local}
use Rattle.mini_less.proofs.LessRows.{any_names as any_arguments}
use Rattle.mini_less.proofs.ListHeads.{both_every}
use Rattle.mini_less.proofs.Headed.{and_nothing}
use Rattle.mini_less.proofs.ListMade.{SaysLess, one_says}
use Rattle.mini_less.proofs.Listing.{with_belongs, say, to_lacks, of_lacks, none_ended, early_passes}
use Rattle.mini_less.proofs.Neighbours.{appended}
use Rattle.mini_less.proofs.Plainly.{is_reads, Calmly, less_by, calm_local}
use Rattle.mini_less.proofs.TellingLists.{by_lists, declaration_opens}
use Rattle.mini_less.proofs.OnceInOrder.{calm_before, one_reads}
use Rattle.mini_less.proofs.Once.{FewerDeclared, Flagged, Unended, another, apart, each_fewer, each_unended, evals_flagged, names_flagged, numbers_flagged, off_told, stays_declared, told_off, whole}
use Rattle.mini_less.proofs.PutMade.{put_spared, put_there, puts_local, suits_all}
use Rattle.mini_terms.specs.Reading.{is_plain_part}
use Rattle.mini_model.specs.declared.shape.Shape.TheVariants as shape
use Rattle.mini_laws.specs.declared.names.Declared.TheVariants as declared
use Rattle.mini_less.proofs.ListJoins as joins

-- a silent declarator before another, which becomes one that tells no more
next_order : (p n m l : Pace) → (is_reads p ≡ false → AtMost m n) → AtMost (followed m l) (followed (ends_after false p) (followed n l))
next_order Ends n m l f = both m n l l (f refl) (itself l)
next_order Silent n m l f = both m n l l (f refl) (itself l)
next_order Reads n m l f = reads_most (followed m l) Reads refl

reads_after : (d : Bool) (p : Pace) → is_reads p ≡ true → is_reads (ends_after d p) ≡ true
reads_after d Ends e = absurd (true≢false (sym e))
reads_after d Silent e = absurd (true≢false (sym e))
reads_after d Reads e = refl

module _ (sp : List ℕ) (k : ℕ) (first : Trees) (init id value : Tree) (last : Trees) (once : is_first (resolved sp k) false value ≡ true) (plain : is_plain_part init ≡ true) (suits : suits_all (resolved sp k) init value ≡ true) where
  abbrev x : Name
  x = resolved sp k

  abbrev put : Tree
  put = put_first x init value

  abbrev dx : Tree
  dx = declarator (binding x) init

  abbrev N : Tree
  N = declarator id value

  abbrev M : Tree
  M = declarator id put

  abbrev ds : Trees
  ds = append first (dx ▸ (N ▸ last))

  abbrev es : Trees
  es = append first (M ▸ last)

  abbrev read : VariableDeclarationKind → Trees
  read K = declaration K ds ▸ none

  abbrev wrote : VariableDeclarationKind → Trees
  wrote K = declaration K es ▸ none

  -- ---- yes or no

  fewer_declared : (s : ℕ) → is_among (by_symbol s) (all_names declared.Bound es) ≡ true → is_among (by_symbol s) (all_names declared.Bound ds) ≡ true
  unfolding names_of
  fewer_declared s e = stays_declared first dx (N ▸ last) s (ap (is_among (by_symbol s)) (all_both declared.Bound first (N ▸ last) ∙ sym (all_both declared.Bound first (M ▸ last))) ∙ e)

  module _ (K : VariableDeclarationKind) where
    asked_next : (o : Own) (t : TellsLists o) → Unordered o → FewerDeclared (asks o) → (c : Setting) → c.used ≡ Read → (env : Environment) (y : Bool) → SaysLess (read K) (wrote K) (asks o) c env y
    asked_next o t z fewer c u env y =
        let c' = with_belongs c in
        let v = declared_use K in
        let D = Lacks o t.plainly (record c' { used = v; is_body = false }) env in
        let used : use_of (shape.VariableDeclaration K) c.used 0 ≡ declared_use K = ap (λ v. use_of (shape.VariableDeclaration K) v 0) u ∙ kind_use K in
        let closed : (ts : Trees) → opened c.used (shape.VariableDeclaration K) (listed ts ▸ none) 0 ≡ [] = λ ts. declaration_opens c.used u K (listed ts ▸ none) 0 in
        less_by (say o t.plainly z y c env (wrote K)) (say o t.plainly z y c env (read K)) (λ a.
        let (own, all) = var_lacks o t c' env u K AsWholeItem v used closed ds (to_lacks o t.plainly z y c env (read K) a).0 in
        let others = first_all Any D AsWholeItem first (dx ▸ (N ▸ last)) all in
        let these = second_all Any D AsWholeItem first (dx ▸ (N ▸ last)) all in
        let init_lacks = (declarator_lacks o t c' env u v (binding x) init these.0).1.1 in
        let (value_lacks, again) = valued_lacks o t c' env u v id value put (put_there x value once init plain) these.1.0 in
        let next = again (puts_local (Lacks o t.plainly c' env) (lacks_local o t.plainly c' env) x init value once value_lacks init_lacks) in
        of_lacks o t.plainly z y c env (wrote K)
        (lacks_var o t c' env u K AsWholeItem v used closed es (told_off _ (fewer (record c' { ordered = false }) u env K ds es fewer_declared (off_told _ own))) (both_all Any D AsWholeItem first (M ▸ last) others (next, these.1.1)), tt))
        (none_ended o t.plainly z y c env (read K))

  -- ---- in order

  module _ (b s : ℕ) (other : nat_eq s k ≡ false) (c : Setting) (u : c.used ≡ Read) (env : Environment) (o : Bool) where
    abbrev q : Question
    q = early b s

    abbrev C : Asked → Tree → Type 0
    C = Calmly b s (with_belongs c) env

    abbrev says : Trees → Pace
    says = items_say q (of_items o c) env

    abbrev loose : Tree → Pace
    loose t = pace q (of_items false c) env t

    var_next : AtMost (says (wrote Var)) (says (read Var))
    var_next =
        subst (λ z. AtMost z (says (read Var))) (sym (one_says b s c env o (declaration Var es) none refl))
        (subst (AtMost (followed (ends_after false (loose (declaration Var es))) Silent)) (sym (one_says b s c env o (declaration Var ds) none refl)) (by (is_reads (loose (declaration Var ds))) refl))
      where
        by : (z : Bool) → is_reads (loose (declaration Var ds)) ≡ z → AtMost (followed (ends_after false (loose (declaration Var es))) Silent) (followed (ends_after false (loose (declaration Var ds))) Silent)
        by true e = reads_most _ _ (one_reads (loose (declaration Var ds)) Silent e)
        by false e =
            let l = calm_lists b s (with_belongs c) env u in
            let each = l.var_down ds e in
            let these = second_every l.Declared first (dx ▸ (N ▸ last)) each in
            let init_calm = (l.valued (binding x) init init refl these.0).0 in
            let (value_calm, again) = l.valued id value put (put_there x value once init plain) these.1.0 in
            let next = again (puts_local C (calm_local b s (with_belongs c) env) x init value once value_calm init_calm) in
            calm_before (loose (declaration Var es)) (loose (declaration Var ds)) Silent Silent (l.var_up es (both_every l.Declared first (M ▸ last) (first_every l.Declared first (dx ▸ (N ▸ last)) each) (next, these.1.1))) tt

    -- ---- lexical names

    abbrev around : Setting
    around = of_items o (joins.inside b s c env o)

    abbrev items : Trees → Pace
    items = joins.items b s c env o

    abbrev at : Tree → Pace
    at t = pace q around env t

    unended : q.ends around dx ≡ false
    unfolding names_of
    unended = (λ j. o && (false || (other j || false))) ∙ and_nothing o

    same_declared : joins.declares b s c env es ≡ joins.declares b s c env ds
    unfolding names_of
    same_declared = joins.declares_both b s c env first (M ▸ last) ∙ (λ j. joins.declares b s c env first || sym (ap (λ z. z || is_among (by_symbol s) (names_of declared.Bound id ++ all_names declared.Bound last)) other) j) ∙ sym (joins.declares_both b s c env first (dx ▸ (N ▸ last)))

    items_ds : items ds ≡ followed (items first) (followed (ends_after false (at dx)) (followed (ends_after (q.ends around N) (at N)) (items last)))
    items_ds = appended q (early_passes b s) around env first (dx ▸ (N ▸ last)) ∙ ap (λ e. followed (items first) (followed (ends_after e (at dx)) (followed (ends_after (q.ends around N) (at N)) (items last)))) unended

    items_es : items es ≡ followed (items first) (followed (ends_after (q.ends around M) (at M)) (items last))
    items_es = appended q (early_passes b s) around env first (M ▸ last)

    next_less : is_reads (at dx) ≡ false → AtMost (ends_after (q.ends around M) (at M)) (ends_after (q.ends around N) (at N))
    unfolding names_of
    next_less e = by (is_reads (at N)) refl
      where
        by : (z : Bool) → is_reads (at N) ≡ z → AtMost (ends_after (q.ends around M) (at M)) (ends_after (q.ends around N) (at N))
        by true f = reads_most _ _ (reads_after (q.ends around N) (at N) f)
        by false f =
            let k' = with_belongs c in
            let init_calm = (valued_calm b s k' env u Read (binding x) init init (sym (ap is_reads (joins.declarator_anywhere b s c env o (binding x) init)) ∙ e)).0 in
            let (value_calm, again) = valued_calm b s k' env u Read id value put (sym (ap is_reads (joins.declarator_anywhere b s c env o id value)) ∙ f) in
            let new = ap is_reads (joins.declarator_anywhere b s c env o id put) ∙ again (puts_local C (calm_local b s k' env) x init value once value_calm init_calm) in
            same _ _ (calm_ends (q.ends around M) (at M) new ∙ sym (calm_ends (q.ends around N) (at N) f))

    module _ (K : VariableDeclarationKind) (lexical : is_lexical K ≡ true) where
      lexical_next : AtMost (says (wrote K)) (says (read K))
      lexical_next =
          let e = o && joins.declares b s c env ds in
          let r : says (read K) ≡ followed (ends_after e (items ds)) Silent = λ j. followed (joins.one_says b s c env u K lexical o ds j) Silent in
          let w : says (wrote K) ≡ followed (ends_after e (items es)) Silent = (λ j. followed (joins.one_says b s c env u K lexical o es j) Silent) ∙ (λ j. followed (ends_after (o && same_declared j) (items es)) Silent) in
          subst (λ z. AtMost z (says (read K))) (sym w) (subst (AtMost (followed (ends_after e (items es)) Silent)) (sym r)
          (both (ends_after e (items es)) (ends_after e (items ds)) Silent Silent (ended e (items es) (items ds)
          (subst (λ z. AtMost z (items ds)) (sym items_es) (subst (AtMost (followed (items first) (followed (ends_after (q.ends around M) (at M)) (items last)))) (sym items_ds)
          (both (items first) (items first) _ _ (itself (items first)) (next_order (at dx) (ends_after (q.ends around N) (at N)) (ends_after (q.ends around M) (at M)) (items last) next_less))))) tt))

  -- ---- each fact

  abbrev Less : VariableDeclarationKind → Question → Type 0
  Less K q = (c : Setting) → c.used ≡ Read → (env : Environment) (o : Bool) → SaysLess (read K) (wrote K) q c env o

  order_next : (K : VariableDeclarationKind) (b s : ℕ) → Unended sp k init (early b s) → Less K (early b s)
  order_next Var b s e c u env o = var_next b s (another sp k init b s c e) c u env o
  order_next Let b s e c u env o = lexical_next b s (another sp k init b s c e) c u env o Let refl
  order_next Const b s e c u env o = lexical_next b s (another sp k init b s c e) c u env o Const refl

  facts_next : (K : VariableDeclarationKind) (g : Fact) (b s : ℕ) → nat_eq s k ≡ false → Less K (question g b s)
  facts_next K g b s e = by_lists (λ q. FewerDeclared q → Unended sp k init q → Less K q) (λ o t z f n c u env y. asked_next K o t z f c u env y) (λ b s f n. order_next K b s n) g b s (each_fewer g b s) (each_unended sp k init g b s e)

  module _ (f : Tree → Bool) (g : Trees → Bool) (z : Flagged f g) (h : f init ≡ false → f value ≡ false → f put ≡ false) where
    flag_off : (K : VariableDeclarationKind) → g (read K) ≡ false → g (wrote K) ≡ false
    flag_off K e =
        let d = (none_of (f (declaration K ds)) (g none) (sym (z.more (declaration K ds) none) ∙ e)).0 in
        let (a, (i, rest)) = apart f g z K first (binding x) init (N ▸ last) d in
        let (n, l) = none_of (f N) (g last) (sym (z.more N last) ∙ rest) in
        let (bound, values) = none_of (f id) (f value || false) (sym (z.binds id value) ∙ n) in
        let next : f M ≡ false = z.binds id put ∙ λ j. bound j || (h i (none_of (f value) false values).0 j || false) in
        z.more (declaration K es) none ∙ λ j. whole f g z K es (z.adds first (M ▸ last) ∙ λ j. a j || (z.more M last ∙ λ j. next j || l j) j) j || z.nothing j

  names_both : (ts us : Trees) → any_names x ts ≡ false → any_names x us ≡ false → any_names x (append ts us) ≡ false
  names_both none us e f = f
  names_both (t ▸ ts) us e f = let (a, b) = none_of (names x t) (any_names x ts) e in ap (λ c. c || any_names x (append ts us)) a ∙ names_both ts us b f

  pub next_drops : (K : VariableDeclarationKind) → any_names x first ≡ false → names x id ≡ false → names x put ≡ false → any_names x last ≡ false → DropsLess x k (read K) (wrote K)
  next_drops K earlier other unnamed later = record {
    less = facts_next K;
    unnamed = (λ j. (names_both first (M ▸ last) earlier ((λ j. (other j || (unnamed j || false)) || any_names x last) ∙ later) j || false) || false);
    evals = flag_off has_eval any_has_eval evals_flagged (λ e f. put_spared x init e value suits f) K;
    arguments = flag_off names_arguments any_arguments names_flagged (λ e f. puts_local (λ c t. names_arguments t ≡ false) spares_local x init value once f e) K;
    numbers = λ b. flag_off (has_number (suc b)) (any_has_number (suc b)) (numbers_flagged b) (λ e f. puts_local (λ c t. has_number (suc b) t ≡ false) (numbers_local b) x init value once f e) K;
  }
