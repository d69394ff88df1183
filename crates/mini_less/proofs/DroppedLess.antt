-- A declaration of a name that nothing mentions goes: of every other symbol no more is told. Its
-- value stays where it does something.
use Rattle.std.specs.Prelude.{ℕ, suc, ◌≡◌, refl, nat_eq, Bool, true, false, ◌||◌, ◌&&◌, List, [], ◌∷◌, ◌++◌}
use Rattle.std.proofs.Common.{ap, ◌∙◌, sym, subst, true≢false}
use Rattle.std.proofs.lemmas.List.{append-nil}
use Rattle.mini_model.specs.declared.kind.VariableDeclarationKind.{VariableDeclarationKind}
use Rattle.mini_model.specs.declared.kind.VariableDeclarationKind.TheVariants.{Var, Let, Const}
use Rattle.mini_model.specs.declared.name.Name.{Name}
use Rattle.mini_model.specs.declared.shape.Shape.{Shape}
use Rattle.mini_model.specs.declared.shape.Shape.TheVariants as shape
use Rattle.mini_model.specs.Paths.{append}
use Rattle.mini_model.specs.Tree.{Tree, Trees, none, ◌▸◌, listed, absent, empty_statement, expression_statement}
use Rattle.mini_laws.specs.declared.names.Declared.TheVariants as declared
use Rattle.mini_laws.specs.declared.names.Use.{Use}
use Rattle.mini_laws.specs.declared.names.Use.TheVariants.{Read}
use Rattle.mini_laws.specs.DeclaredNames.{names_of, all_names}
use Rattle.mini_laws.specs.Foreign.{has_number, any_has_number, own_lexical}
use Rattle.mini_laws.specs.Mentions.{is_among}
use Rattle.mini_laws.specs.Naming.{is_lexical}
use Rattle.mini_laws.specs.Resolved.{Environment}
use Rattle.mini_laws.specs.ScopeList.{has_eval, any_has_eval, by_symbol}
use Rattle.mini_laws.specs.Scopes.{opened}
use Rattle.mini_laws.specs.Shared.{names_arguments}
use Rattle.mini_shrink.specs.Facts.{Fact, Written, WrittenElsewhere, Given, GivenElsewhere, GivenByPattern, MentionedElsewhere, BoundElsewhere, IsLexical, IsSwitched, InPattern, UnderCatch, ByArguments, ByEval, AmongParameters, ReadEarly, question}
use Rattle.mini_shrink.specs.Pace.{Pace, Ends, Silent, Reads, AtMost, followed, ends_after, Setting, below, Question, pace, reads_if}
use Rattle.mini_shrink.specs.Questions.{Own, asks, early, alone_names, hands_on}
use Rattle.mini_shrink.proofs.Paces.{itself, same, both, ended}
use Rattle.mini_rows.specs.Lists.{binding, declarator, declaration}
use Rattle.mini_rows.specs.Sketches.{Empty, Asked, AsWholeItem}
use Rattle.mini_rows.specs.Unused.{resolved, names, any_names, declared_one, declared_among, declared_left, head_left}
use Rattle.mini_rows.proofs.ListKeptDeclarations.{all_both}
use Rattle.mini_rows.proofs.DeclaredKept.{none_in}
use Rattle.mini_less.specs.Neighbours.{of_items, items_say}
use Rattle.mini_less.specs.TellsLists.{TellsLists}
use Rattle.mini_less.proofs.ByLists.{ByLists, lacks_lists, calm_lists, spared_lists, names_lists, numbers_lists, valued_calm}
use Rattle.mini_less.proofs.ByQuestion.{by_question, by_question_of}
use Rattle.mini_less.proofs.Calm.{unseen}
use Rattle.mini_less.proofs.DeclarationsLess.{absent_silent}
use Rattle.mini_less.proofs.Drops.{DropsLess}
use Rattle.mini_less.proofs.EachFact.{Unordered}
use Rattle.mini_less.proofs.EntersLess.{reads_most, first_calm}
use Rattle.mini_less.proofs.Finding.{Lacks}
use Rattle.mini_less.proofs.Flags.{none_of, unlike}
use Rattle.mini_less.proofs.IfsLess.{says}
use Rattle.mini_less.proofs.LessRows.{Adds, evals_add, numbers_add, names_add, any_names as any_arguments}
use Rattle.mini_less.proofs.LessTold.{node_less}
use Rattle.mini_less.proofs.ListJoins as joins
use Rattle.mini_less.proofs.ListMade.{SaysLess, one_says}
use Rattle.mini_less.proofs.Listing.{with_belongs, say, to_lacks, of_lacks, none_ended}
use Rattle.mini_less.proofs.Neighbours.{listed_is, appended}
use Rattle.mini_less.proofs.Plainly.{is_reads, is_ended, split, less_by, Calmly}
use Rattle.mini_less.proofs.StretchTold.{passes}
use Rattle.mini_less.proofs.TellingLists.{among_both, by_lists_of, declaration_opens}

-- what isn't read says no more than what doesn't end
calm_least : (p r : Pace) → is_reads p ≡ false → is_ended r ≡ false → AtMost (followed (ends_after false p) Silent) r
calm_least Ends Silent e f = tt
calm_least Ends Reads e f = tt
calm_least Ends Ends e f = absurd (true≢false f)
calm_least Silent Silent e f = tt
calm_least Silent Reads e f = tt
calm_least Silent Ends e f = absurd (true≢false f)
calm_least Reads r e f = absurd (true≢false e)

never_ends : (p : Pace) → is_ended (followed (ends_after false p) Silent) ≡ false
never_ends Ends = refl
never_ends Silent = refl
never_ends Reads = refl

says_nothing : (p : Pace) → AtMost Silent (followed (ends_after false p) Silent)
says_nothing Ends = tt
says_nothing Silent = tt
says_nothing Reads = tt

silent_least : (p : Pace) → is_ended p ≡ false → AtMost Silent p
silent_least Silent e = tt
silent_least Reads e = tt
silent_least Ends e = absurd (true≢false e)

unended_both : (p r : Pace) → is_ended p ≡ false → is_ended r ≡ false → is_ended (followed p r) ≡ false
unended_both Silent r e f = f
unended_both Reads r e f = refl
unended_both Ends r e f = absurd (true≢false e)

reads_unended : (b : Bool) → is_ended (reads_if b) ≡ false
reads_unended true = refl
reads_unended false = refl

-- no node says itself that a declaration ends
root_unended : (g : Fact) (b s : ℕ) (c : Setting) (env : Environment) (h : Shape) (xs : List Name) (n : ℕ) (ts : Trees) → is_ended ((question g b s).before c env h xs n ts) ≡ false
root_unended g b s c env h xs n ts = by_question (λ q. is_ended (q.before c env h xs n ts) ≡ false) (λ o. reads_unended (o c env h xs n ts)) (λ b s. reads_unended _) g b s

-- a declaration that doesn't stand alone is no scope of its own
unalone : (v : Use) → v ≡ Read → (K : VariableDeclarationKind) (t : Tree) → alone_names v K t ≡ []
unalone v r Var t = refl
unalone v r Let t = ap (λ v. alone_names v Let t) r
unalone v r Const t = ap (λ v. alone_names v Const t) r

-- without what is between
between_less : (p r s : Pace) → AtMost (followed p s) (followed p (followed (ends_after false r) s))
between_less Ends r s = tt
between_less Reads r s = tt
between_less Silent Ends s = itself s
between_less Silent Silent s = itself s
between_less Silent Reads Ends = tt
between_less Silent Reads Silent = tt
between_less Silent Reads Reads = tt

no_ends : (o : Bool) → (o && false) ≡ false
no_ends true = refl
no_ends false = refl

module _ (sp : List ℕ) (k : ℕ) (K : VariableDeclarationKind) (init : Tree) where
  abbrev x : Name
  x = resolved sp k

  abbrev dx : Tree
  dx = declarator (binding x) init

  -- ---- its value stays

  abbrev d : Tree
  d = declared_one K x init

  abbrev w : Tree
  w = expression_statement init

  made : (Q : Asked → Tree → Type 0) → ByLists Q → Q AsWholeItem d → Q AsWholeItem w
  made Q l y = says Q l.parts AsWholeItem init (l.initialised K (binding x) init init none refl y).0

  -- it ends no declaration of another symbol
  declared_unended : (K : VariableDeclarationKind) (s : ℕ) → nat_eq s k ≡ false → (g : Fact) (b : ℕ) (c : Setting) → (question g b s).ends c (declaration K (dx ▸ none)) ≡ false
  unfolding names_of
  declared_unended Var s e g b = by_question_of s (λ q. (c : Setting) → q.ends c (declaration Var (dx ▸ none)) ≡ false) (λ o c. refl) (λ b c. no_ends c.ordered) g b
  declared_unended Let s e g b = by_question_of s (λ q. (c : Setting) → q.ends c (declaration Let (dx ▸ none)) ≡ false) (λ o c. refl) (λ b c. (λ j. c.ordered && ((e j || false) || false)) ∙ no_ends c.ordered) g b
  declared_unended Const s e g b = by_question_of s (λ q. (c : Setting) → q.ends c (declaration Const (dx ▸ none)) ≡ false) (λ o c. refl) (λ b c. (λ j. c.ordered && ((e j || false) || false)) ∙ no_ends c.ordered) g b

  asked : (o : Own) → TellsLists o → Unordered o → (c : Setting) → c.used ≡ Read → (env : Environment) (y : Bool) → SaysLess (d ▸ none) (w ▸ none) (asks o) c env y
  asked o t z c r env y =
      less_by (say o t.plainly z y c env (w ▸ none)) (say o t.plainly z y c env (d ▸ none))
      (λ a. of_lacks o t.plainly z y c env (w ▸ none) (made (Lacks o t.plainly (with_belongs c) env) (lacks_lists o t (with_belongs c) env r) (to_lacks o t.plainly z y c env (d ▸ none) a).0, tt)) (none_ended o t.plainly z y c env (d ▸ none))

  module _ (b s : ℕ) (other : nat_eq s k ≡ false) (c : Setting) (r : c.used ≡ Read) (env : Environment) (o : Bool) where
    abbrev told : Trees → Pace
    told = items_say (early b s) (of_items o c) env

    lexical_calm : (K : VariableDeclarationKind) → is_lexical K ≡ true → is_reads (told (declaration K (dx ▸ none) ▸ none)) ≡ false → Calmly b s (with_belongs c) env AsWholeItem w
    lexical_calm K i e =
        let l = calm_lists b s (with_belongs c) env r in
        let at = of_items o (joins.inside b s c env o) in
        let calm = first_calm (o && joins.declares b s c env (dx ▸ none)) ((early b s).ends at dx) (pace (early b s) at env dx) Silent (sym (ap (λ p. is_reads (followed p Silent)) (joins.one_says b s c env r K i o (dx ▸ none))) ∙ e) in
        says (Calmly b s (with_belongs c) env) l.parts AsWholeItem init (valued_calm b s (with_belongs c) env r Read (binding x) init init (sym (ap is_reads (joins.declarator_anywhere b s c env o (binding x) init)) ∙ calm)).0

    value_calm : (K : VariableDeclarationKind) → is_reads (told (declaration K (dx ▸ none) ▸ none)) ≡ false → Calmly b s (with_belongs c) env AsWholeItem w
    value_calm Let e = lexical_calm Let refl e
    value_calm Const e = lexical_calm Const refl e
    value_calm Var e =
        let l = calm_lists b s (with_belongs c) env r in
        let calm = (split (pace (early b s) (of_items false c) env (declaration Var (dx ▸ none))) Silent (sym (ap is_reads (one_says b s c env o (declaration Var (dx ▸ none)) none refl)) ∙ e)).0 in
        says (Calmly b s (with_belongs c) env) l.parts AsWholeItem init (l.initialised Var (binding x) init init none refl calm).0

    in_order : SaysLess (d ▸ none) (w ▸ none) (early b s) c env o
    in_order = by (is_reads (told (d ▸ none))) refl
      where
        by : (z : Bool) → is_reads (told (d ▸ none)) ≡ z → AtMost (told (w ▸ none)) (told (d ▸ none))
        by true e = reads_most (told (w ▸ none)) (told (d ▸ none)) e
        by false e =
            subst (λ p. AtMost p (told (d ▸ none))) (sym (one_says b s c env o w none refl))
            (calm_least (pace (early b s) (of_items false c) env w) (told (d ▸ none)) (value_calm K e)
            (ap (λ h. is_ended (followed (ends_after h (pace (early b s) (of_items o c) env d)) Silent)) (declared_unended K s other ReadEarly b (of_items o c)) ∙ never_ends (pace (early b s) (of_items o c) env d)))

  value_less : (g : Fact) (b s : ℕ) → nat_eq s k ≡ false → (c : Setting) → c.used ≡ Read → (env : Environment) (o : Bool) → SaysLess (d ▸ none) (w ▸ none) (question g b s) c env o
  value_less g b s e =
      by_lists_of s (λ q. (c : Setting) → c.used ≡ Read → (env : Environment) (o : Bool) → SaysLess (d ▸ none) (w ▸ none) q c env o) (λ o t z c r env y. asked o t z c r env y) (λ b c r env o. in_order b s e c r env o) g b

  pub value_drops : names x init ≡ false → DropsLess x k (d ▸ none) (w ▸ none)
  unfolding has_eval has_number
  value_drops e = record {
    less = value_less;
    unnamed = λ j. (e j || false) || false;
    evals = λ a. ap (λ b. b || false) (made (λ c t. has_eval t ≡ false) spared_lists (none_of (has_eval d) false a).0);
    arguments = λ a. ap (λ b. b || false) (made (λ c t. names_arguments t ≡ false) names_lists (none_of (names_arguments d) false a).0);
    numbers = λ b a. ap (λ b. b || false) (made (λ c t. has_number (suc b) t ≡ false) (numbers_lists b) (none_of (has_number (suc b) d) false a).0);
  }

-- ---- its value goes, too

module _ (sp : List ℕ) (k : ℕ) (K : VariableDeclarationKind) (first : Trees) (init : Tree) (last : Trees) where
  abbrev y : Name
  y = resolved sp k

  abbrev dy : Tree
  dy = declarator (binding y) init

  abbrev ts : Trees
  ts = append first (dy ▸ last)

  abbrev es : Trees
  es = append first last

  -- another symbol is declared by the other declarators
  module _ (s : ℕ) (other : nat_eq s k ≡ false) where
    among_others : is_among (by_symbol s) (all_names declared.Bound es) ≡ is_among (by_symbol s) (all_names declared.Bound ts)
    unfolding names_of
    among_others =
        ap (is_among (by_symbol s)) (all_both declared.Bound first last) ∙ among_both (by_symbol s) (all_names declared.Bound first) (all_names declared.Bound last)
        ∙ sym (ap (is_among (by_symbol s)) (all_both declared.Bound first (dy ▸ last)) ∙ among_both (by_symbol s) (all_names declared.Bound first) (y ∷ all_names declared.Bound last) ∙ (λ j. is_among (by_symbol s) (all_names declared.Bound first) || (other j || is_among (by_symbol s) (all_names declared.Bound last))))

    among_alone : is_among (by_symbol s) (all_names declared.Bound es ++ []) ≡ is_among (by_symbol s) (all_names declared.Bound ts ++ [])
    among_alone = ap (is_among (by_symbol s)) (append-nil (all_names declared.Bound es)) ∙ among_others ∙ sym (ap (is_among (by_symbol s)) (append-nil (all_names declared.Bound ts)))

    lexical_same : all_names declared.Lexical es ≡ all_names declared.Lexical ts
    unfolding names_of
    lexical_same = all_both declared.Lexical first last ∙ sym (all_both declared.Lexical first (dy ▸ last))

    list_ends : (g : Fact) (b : ℕ) (c : Setting) → (question g b s).ends c (listed es) ≡ (question g b s).ends c (listed ts)
    unfolding names_of
    list_ends g b = by_question_of s (λ q. (c : Setting) → q.ends c (listed es) ≡ q.ends c (listed ts)) (λ o c. refl) (λ b c j. c.ordered && (is_among (by_symbol s) (lexical_same j) || among_others j)) g b

    declared_among_others : (K : VariableDeclarationKind) → is_among (by_symbol s) (names_of declared.Lexical (declaration K es)) ≡ is_among (by_symbol s) (names_of declared.Lexical (declaration K ts))
    unfolding names_of
    declared_among_others Var = refl
    declared_among_others Let = among_alone
    declared_among_others Const = among_alone

    declared_ends : (g : Fact) (b : ℕ) (c : Setting) → (question g b s).ends c (declaration K es) ≡ (question g b s).ends c (declaration K ts)
    unfolding names_of
    declared_ends g b = by_question_of s (λ q. (c : Setting) → q.ends c (declaration K es) ≡ q.ends c (declaration K ts)) (λ o c. refl) (λ b c j. c.ordered && (declared_among_others K j || false)) g b

    told_among : (K : VariableDeclarationKind) (b : Bool) → is_among (by_symbol s) (own_lexical b (shape.VariableDeclaration K) (listed es ▸ none)) ≡ is_among (by_symbol s) (own_lexical b (shape.VariableDeclaration K) (listed ts ▸ none))
    unfolding names_of
    told_among Var true = refl
    told_among Var false = refl
    told_among Let true = among_alone
    told_among Let false = among_alone
    told_among Const true = among_alone
    told_among Const false = among_alone

    module _ (c : Setting) (r : c.used ≡ Read) (env : Environment) where
      root_less : (g : Fact) (b : ℕ) → AtMost ((question g b s).before c env (shape.VariableDeclaration K) [] 0 (listed es ▸ none)) ((question g b s).before c env (shape.VariableDeclaration K) [] 0 (listed ts ▸ none))
      root_less IsLexical b = same _ _ (ap reads_if (told_among K c.is_body))
      root_less ByEval b =
          same _ _ (ap reads_if (unseen (by_symbol s) (opened c.used (shape.VariableDeclaration K) (listed es ▸ none)) (declaration_opens c.used r K (listed es ▸ none)) 0 (listed es ▸ none)
          ∙ sym (unseen (by_symbol s) (opened c.used (shape.VariableDeclaration K) (listed ts ▸ none)) (declaration_opens c.used r K (listed ts ▸ none)) 0 (listed ts ▸ none))))
      root_less Written b = tt
      root_less WrittenElsewhere b = tt
      root_less Given b = tt
      root_less GivenElsewhere b = tt
      root_less GivenByPattern b = tt
      root_less MentionedElsewhere b = tt
      root_less BoundElsewhere b = tt
      root_less IsSwitched b = tt
      root_less InPattern b = tt
      root_less UnderCatch b = tt
      root_less ByArguments b = tt
      root_less AmongParameters b = tt
      root_less ReadEarly b = tt

      unended : (g : Fact) (b : ℕ) (c : Setting) → (question g b s).ends c dy ≡ false
      unfolding names_of
      unended g b = by_question_of s (λ q. (c : Setting) → q.ends c dy ≡ false) (λ o c. refl) (λ b c. (λ j. c.ordered && (other j || false)) ∙ no_ends c.ordered) g b

      items_less : (g : Fact) (b : ℕ) (d : Setting) (e : Environment) → AtMost (items_say (question g b s) d e es) (items_say (question g b s) d e ts)
      items_less g b d e =
          let q = question g b s in
          let say : Trees → Pace = items_say q d e in
          subst (λ p. AtMost p (say ts)) (sym (appended q (passes g b s) d e first last))
          (subst (AtMost (followed (say first) (say last))) (sym (appended q (passes g b s) d e first (dy ▸ last) ∙ ap (λ z. followed (say first) (followed (ends_after z (pace q d e dy)) (say last))) (unended g b d))) (between_less (say first) (pace q d e dy) (say last)))

      list_less : (g : Fact) (b : ℕ) (d : Setting) (e : Environment) → AtMost (pace (question g b s) d e (listed es)) (pace (question g b s) d e (listed ts))
      list_less g b d e =
          let q = question g b s in
          let p = passes g b s in
          subst (λ z. AtMost z (pace q d e (listed ts))) (sym (listed_is q p d e es)) (subst (AtMost (items_say q (of_items (p.orders d) d) e es)) (sym (listed_is q p d e ts)) (items_less g b (of_items (p.orders d) d) e))

      orders_same : (g : Fact) (b : ℕ) → (question g b s).orders c (shape.VariableDeclaration K) (listed es ▸ none) ≡ (question g b s).orders c (shape.VariableDeclaration K) (listed ts ▸ none)
      orders_same g b = by_question_of s (λ q. q.orders c (shape.VariableDeclaration K) (listed es ▸ none) ≡ q.orders c (shape.VariableDeclaration K) (listed ts ▸ none)) (λ o. refl) (λ b. ap (λ ys. (hands_on (shape.VariableDeclaration K) && c.ordered) || is_among (by_symbol s) ys) (unalone c.used r K (listed es) ∙ sym (unalone c.used r K (listed ts)))) g b

      pub fewer_less : (g : Fact) (b : ℕ) → AtMost (pace (question g b s) c env (declaration K es)) (pace (question g b s) c env (declaration K ts))
      fewer_less g b =
          node_less (question g b s) (listed ts) (listed es) (list_ends g b) none c env (shape.VariableDeclaration K) [] 0 none (root_less g b) (orders_same g b)
          (λ i. declaration_opens c.used r K (listed es ▸ none) i ∙ sym (declaration_opens c.used r K (listed ts ▸ none) i)) (list_less g b _)

  empty_silent : (g : Fact) (b s : ℕ) (d : Setting) (e : Environment) → items_say (question g b s) d e (empty_statement ▸ none) ≡ Silent
  unfolding pace names_of
  empty_silent g b s =
      by_lists_of s (λ q. (d : Setting) (e : Environment) → items_say q d e (empty_statement ▸ none) ≡ Silent) (λ o t z d e j. followed (ends_after false (followed (reads_if (t.plainly.plain d e Empty none tt j)) Silent)) Silent)
      (λ b d e. ap (λ h. followed (ends_after h Silent) Silent) (no_ends d.ordered)) g b

  no_declarations : (g : Fact) (b s : ℕ) (c : Setting) → (question g b s).ends c (declaration K none) ≡ false
  unfolding names_of
  no_declarations g b s c = by_question_of s (λ q. q.ends c (declaration K none) ≡ false) (λ o. refl) (λ b. ends K) g b
    where
      ends : (K : VariableDeclarationKind) → (c.ordered && (is_among (by_symbol s) (names_of declared.Lexical (declaration K none)) || false)) ≡ false
      ends Var = no_ends c.ordered
      ends Let = no_ends c.ordered
      ends Const = no_ends c.ordered

  idle_less : (g : Fact) (b s : ℕ) → nat_eq s k ≡ false → (c : Setting) → c.used ≡ Read → (env : Environment) (o : Bool) → SaysLess (declaration K ts ▸ none) (declared_left K es ▸ none) (question g b s) c env o
  idle_less g b s other c r env o = left es refl
    where
      at : Setting
      at = of_items o c

      q : Question
      q = question g b s

      fewer : AtMost (items_say q at env (declaration K es ▸ none)) (items_say q at env (declaration K ts ▸ none))
      fewer =
          let new = pace q at env (declaration K es) in
          let old = pace q at env (declaration K ts) in
          subst (λ z. AtMost (followed (ends_after z new) Silent) (followed (ends_after (q.ends at (declaration K ts)) old) Silent)) (sym (declared_ends s other g b at))
          (both (ends_after (q.ends at (declaration K ts)) new) (ends_after (q.ends at (declaration K ts)) old) Silent Silent (ended (q.ends at (declaration K ts)) new old (fewer_less s other at r env g b)) tt)

      left : (us : Trees) → us ≡ es → AtMost (items_say q at env (declared_left K us ▸ none)) (items_say q at env (declaration K ts ▸ none))
      left none e =
          subst (λ p. AtMost p (items_say q at env (declaration K ts ▸ none))) (sym (empty_silent g b s at env))
          (subst (λ z. AtMost Silent (followed (ends_after z (pace q at env (declaration K ts))) Silent)) (sym (no_declarations g b s at) ∙ ap (λ us. q.ends at (declaration K us)) e ∙ declared_ends s other g b at) (says_nothing (pace q at env (declaration K ts))))
      left (u ▸ us) e = subst (λ zs. AtMost (items_say q at env (declaration K zs ▸ none)) (items_say q at env (declaration K ts ▸ none))) (sym e) fewer

  unnamed : (us : Trees) → any_names y us ≡ false → any_names y (declared_left K us ▸ none) ≡ false
  unnamed none e = refl
  unnamed (u ▸ us) e = λ j. (e j || false) || false

  -- what it tells besides names is told of its declarators
  module _ (f : Tree → Bool) (g : Trees → Bool) (one : (t : Tree) (us : Trees) → g (t ▸ us) ≡ (f t || g us)) (nothing : g none ≡ false) (adds : Adds g) (told : joins.Tells f g K) (empty : f empty_statement ≡ false) where
    left_told : (us : Trees) → g us ≡ false → f (declared_left K us) ≡ false
    left_told none e = empty
    left_told (u ▸ us) e = told (u ▸ us) ∙ λ j. e j || false

    others_told : f (declaration K ts) ≡ false → g es ≡ false
    others_told e =
        let all = (none_of (g ts) false (sym (told ts) ∙ e)).0 in
        let (a, b) = none_of (g first) (g (dy ▸ last)) (sym (adds first (dy ▸ last)) ∙ all) in
        let c = (none_of (f dy) (g last) (sym (one dy last) ∙ b)).1 in
        adds first last ∙ λ j. a j || c j

    fewer_told : g (declaration K ts ▸ none) ≡ false → g (declared_left K es ▸ none) ≡ false
    fewer_told e =
        let whole = (none_of (f (declaration K ts)) (g none) (sym (one (declaration K ts) none) ∙ e)).0 in
        one (declared_left K es) none ∙ λ j. left_told es (others_told whole) j || nothing j

    -- and in the head of a `for`
    pub head_told : f absent ≡ false → f (declaration K ts) ≡ false → f (head_left K es) ≡ false
    head_told gone e = left es (others_told e)
      where
        left : (us : Trees) → g us ≡ false → f (head_left K us) ≡ false
        left none e = gone
        left (u ▸ us) e = told (u ▸ us) ∙ λ j. e j || false

  pub idle_drops : any_names y first ≡ false → any_names y last ≡ false → DropsLess y k (declared_among K y first init last ▸ none) (declared_left K es ▸ none)
  unfolding has_eval has_number names_arguments
  idle_drops a b = record {
    less = idle_less;
    unnamed = unnamed es (none_in y first last a b);
    evals = fewer_told has_eval any_has_eval (λ t us. refl) refl evals_add (joins.evals_told K) refl;
    arguments = fewer_told names_arguments any_arguments (λ t us. refl) refl names_add (joins.names_told K) refl;
    numbers = λ n. fewer_told (has_number (suc n)) (any_has_number (suc n)) (λ t us. refl) refl (numbers_add (suc n)) (joins.numbers_told n K) (λ j. unlike n j || false);
  }

  -- ---- in the head of a `for`

  no_listed : (g : Fact) (b s : ℕ) (c : Setting) → (question g b s).ends c (listed none) ≡ false
  unfolding names_of
  no_listed g b s c = by_question_of s (λ q. q.ends c (listed none) ≡ false) (λ o. refl) (λ b. no_ends c.ordered) g b

  module _ (s : ℕ) (other : nat_eq s k ≡ false) (g : Fact) (b : ℕ) (c : Setting) (r : c.used ≡ Read) (env : Environment) where
    -- the last declarator ends no declaration of another symbol
    alone_unended : none ≡ es → is_ended (pace (question g b s) c env (declaration K ts)) ≡ false
    unfolding pace
    alone_unended e =
        let q = question g b s in
        let d = below (q.orders c (shape.VariableDeclaration K) (listed ts ▸ none)) c (shape.VariableDeclaration K) 0 0 in
        let l = pace q d (env ++ opened c.used (shape.VariableDeclaration K) (listed ts ▸ none) 0) (listed ts) in
        unended_both (q.before c env (shape.VariableDeclaration K) [] 0 (listed ts ▸ none)) (followed (ends_after (q.ends d (listed ts)) l) Silent) (root_unended g b s c env (shape.VariableDeclaration K) [] 0 (listed ts ▸ none))
        (ap (λ z. is_ended (followed (ends_after z l) Silent)) (sym (list_ends s other g b d) ∙ sym (ap (λ us. q.ends d (listed us)) e) ∙ no_listed g b s d) ∙ never_ends l)

    pub head_less : AtMost (pace (question g b s) c env (head_left K es)) (pace (question g b s) c env (declaration K ts))
    head_less = left es refl
      where
        old : Pace
        old = pace (question g b s) c env (declaration K ts)

        left : (us : Trees) → us ≡ es → AtMost (pace (question g b s) c env (head_left K us)) old
        left none e = subst (λ p. AtMost p old) (sym (absent_silent g b s c env)) (silent_least old (alone_unended e))
        left (u ▸ us) e = subst (λ zs. AtMost (pace (question g b s) c env (declaration K zs)) old) (sym e) (fewer_less s other c r env g b)
