-- A lexical declaration that never runs asks less without what would initialize its names.
use Rattle.std.specs.Prelude.{ℕ, suc, ◌≡◌, refl, nat_eq, pos, not, Bool, true, false, ◌||◌, ◌&&◌, List, [], ◌∷◌, ◌++◌}
use Rattle.std.proofs.Common.{ap, ◌∙◌, inl, inr, sym, subst, true≢false}
use Rattle.std.proofs.lemmas.Bool.{and_parts}
use Rattle.std.proofs.lemmas.List.{append-nil}
use Rattle.mini_model.specs.declared.kind.VariableDeclarationKind.{VariableDeclarationKind}
use Rattle.mini_model.specs.declared.kind.VariableDeclarationKind.TheVariants.{Var, Let, Const}
use Rattle.mini_model.specs.declared.name.Name.{Name}
use Rattle.mini_model.specs.declared.place.Position.{Position}
use Rattle.mini_model.specs.declared.place.Position.TheVariants.{StatementList, BodyList}
use Rattle.mini_model.specs.declared.shape.Shape.{Shape}
use Rattle.mini_model.specs.declared.shape.Shape.TheVariants as shape
use Rattle.mini_model.specs.Paths.{append}
use Rattle.mini_model.specs.Tree.{Tree, Trees, node, none, ◌▸◌, count, listed, shape_of, children}
use Rattle.mini_accept.specs.WellShaped.{a_statement, one}
use Rattle.mini_laws.specs.declared.names.Around.{Around}
use Rattle.mini_laws.specs.declared.names.Declared.TheVariants as declared
use Rattle.mini_laws.specs.declared.names.Use.TheVariants.{Read, Hoisted}
use Rattle.mini_laws.specs.DeclaredNames.{names_of, all_names, bound_names}
use Rattle.mini_laws.specs.Foreign.{has_number, any_has_number, own_lexical}
use Rattle.mini_laws.specs.Mentions.{Mention, is_among, is_elsewhere, same_variable}
use Rattle.mini_laws.specs.Naming.{is_lexical as is_lexical_kind}
use Rattle.mini_laws.specs.References.{reads, writes}
use Rattle.mini_laws.specs.Resolved.{Environment}
use Rattle.mini_laws.specs.ScopeList.{has_eval, any_has_eval, by_symbol}
use Rattle.mini_laws.specs.Scopes.{opened}
use Rattle.mini_laws.specs.Shared.{names_arguments, any_names_arguments, is_arguments, is_of_function}
use Rattle.mini_laws.specs.Value.{VariableSet}
use Rattle.mini_kept.specs.Placed.{is_statement_list}
use Rattle.mini_shrink.specs.Facts.{Fact, Written, WrittenElsewhere, Given, GivenElsewhere, GivenByPattern, MentionedElsewhere, BoundElsewhere, IsLexical, IsSwitched, InPattern, UnderCatch, ByArguments, ByEval, AmongParameters, ReadEarly, question}
use Rattle.mini_shrink.specs.Pace.{Pace, Ends, Silent, Reads, AtMost, followed, kept_in, ends_after, Setting, below, Question, pace, reads_if}
use Rattle.mini_shrink.specs.Questions.{finds, mentions_such}
use Rattle.mini_shrink.proofs.Finding.{mentions_found, pace_is}
use Rattle.mini_shrink.proofs.Paces.{both, ended_inside}
use Rattle.mini_rows.specs.DeadCases.{a_number}
use Rattle.mini_rows.specs.DeadLexicals.{is_lexical, goes_whole, first_gives, may_fade, kind_left, initializer, declarators, declared_with, faded, Row77Lexical}
use Rattle.mini_rows.specs.Lets.{LetsRow, LetRow, LetContracts}
use Rattle.mini_rows.specs.Lists.{binding, declarator, declaration, encloses_by, all_enclose, InList}
use Rattle.mini_rows.proofs.DeadLexicalKept.{names_given}
use Rattle.mini_less.specs.Families.{LessAt, NeighboursLess}
use Rattle.mini_less.specs.Lets.{LetsReadLess}
use Rattle.mini_less.specs.Neighbours.{of_items, items_say}
use Rattle.mini_less.specs.TellsLists.{Names}
use Rattle.mini_less.proofs.ByQuestion.{by_question}
use Rattle.mini_less.proofs.Calm.{unseen}
use Rattle.mini_less.proofs.DeclarationsLess.{at, root_silent, valued_says, absent_silent}
use Rattle.mini_less.proofs.Finding.{never}
use Rattle.mini_less.proofs.Flags.{none_of, unlike}
use Rattle.mini_less.proofs.HoistedNames.{AsksWithin, lexical_unasked, lexical_sparing}
use Rattle.mini_less.proofs.LessRows.{any_names, reads_less_by}
use Rattle.mini_less.proofs.LetsLess.{known_silent, row_70_let_less}
use Rattle.mini_less.proofs.ListHeads.{behind, first_fits}
use Rattle.mini_less.proofs.ListJoins.{quiet_after}
use Rattle.mini_less.proofs.ListMade.{SaysLess}
use Rattle.mini_less.proofs.Neighbours.{listed_is}
use Rattle.mini_less.proofs.Plainly.{is_reads, join}
use Rattle.mini_less.proofs.StretchTold.{ToldStretch, passes, stretch_told_less}
use Rattle.mini_less.proofs.TellingLists.{among_both, declaration_opens, elsewhere_within, both_true}

-- ---- what isn't read

quiet_ends : (e : Bool) (p : Pace) → is_reads p ≡ false → is_reads (ends_after e p) ≡ false
quiet_ends true Ends a = refl
quiet_ends true Silent a = refl
quiet_ends true Reads a = absurd (true≢false a)
quiet_ends false Ends a = refl
quiet_ends false Silent a = refl
quiet_ends false Reads a = absurd (true≢false a)

quiet_first : (p r : Pace) → is_reads (followed p r) ≡ false → is_reads p ≡ false
quiet_first Ends r a = refl
quiet_first Silent r a = refl
quiet_first Reads r a = absurd (true≢false a)

reads_tell : (b : Bool) → is_reads (reads_if b) ≡ b
reads_tell true = refl
reads_tell false = refl

-- an end aside, what isn't read unless the other is says no more
kept_less : (p r : Pace) → (is_reads r ≡ false → is_reads p ≡ false) → AtMost (kept_in p) (kept_in r)
kept_less Ends Ends f = tt
kept_less Ends Silent f = tt
kept_less Ends Reads f = tt
kept_less Silent Ends f = tt
kept_less Silent Silent f = tt
kept_less Silent Reads f = tt
kept_less Reads Ends f = absurd (true≢false (f refl))
kept_less Reads Silent f = absurd (true≢false (f refl))
kept_less Reads Reads f = tt

-- ---- a name that is bound

-- what a fact asks of the place of a name that is bound
abbrev Unasked : Fact → ℕ → ℕ → Around → Name → Type 0
Unasked MentionedElsewhere b s a x = (same_variable (by_symbol s) x && is_elsewhere b a) ≡ false
Unasked BoundElsewhere b s a x = ((same_variable (by_symbol s) x && true) && is_elsewhere b a) ≡ false
Unasked g b s a x = Unit {0}

unwritten : (q d : Bool) → (((q && false) && d) || false) ≡ false
unwritten true d = refl
unwritten false d = refl

unwritten_there : (q d e : Bool) → ((((q && false) && d) && e) || false) ≡ false
unwritten_there true d e = refl
unwritten_there false d e = refl

module _ (x : Name) where
  bound_lexical : (b : Bool) → own_lexical b shape.BindingIdentifier none ≡ []
  bound_lexical true = refl
  bound_lexical false = refl

  bound_quiet : (g : Fact) (b s : ℕ) (d : Setting) (env : Environment) → Unasked g b s d.around x → is_reads ((question g b s).before d env shape.BindingIdentifier (x ∷ []) 0 none) ≡ false
  bound_quiet Written b s d env u = ap (λ e. is_reads (reads_if e)) (unwritten (same_variable (by_symbol s) x) (writes d.used))
  bound_quiet WrittenElsewhere b s d env u = ap (λ e. is_reads (reads_if e)) (unwritten_there (same_variable (by_symbol s) x) (writes d.used) (is_elsewhere b d.around))
  bound_quiet Given b s d env u = λ j. is_reads (reads_if (unwritten (same_variable (by_symbol s) x) (writes d.used) j || false))
  bound_quiet GivenElsewhere b s d env u = λ j. is_reads (reads_if (unwritten_there (same_variable (by_symbol s) x) (writes d.used) (is_elsewhere b d.around) j || false))
  bound_quiet MentionedElsewhere b s d env u = λ j. is_reads (reads_if (u j || false))
  bound_quiet BoundElsewhere b s d env u = λ j. is_reads (reads_if (u j || false))
  bound_quiet IsLexical b s d env u = ap (λ xs. is_reads (reads_if (is_among (by_symbol s) xs))) (bound_lexical d.is_body)
  bound_quiet GivenByPattern b s d env u = refl
  bound_quiet IsSwitched b s d env u = refl
  bound_quiet InPattern b s d env u = refl
  bound_quiet UnderCatch b s d env u = refl
  bound_quiet ByArguments b s d env u = refl
  bound_quiet ByEval b s d env u = refl
  bound_quiet AmongParameters b s d env u = refl
  bound_quiet ReadEarly b s d env u = ap (λ e. is_reads (reads_if e)) (unwritten_there (same_variable (by_symbol s) x) (reads d.used) (not (is_elsewhere b d.around)))

-- ---- what is left

initial_silent : (g : Fact) (b s : ℕ) (k : VariableDeclarationKind) (c : Setting) (env : Environment) → pace (question g b s) c env (initializer k) ≡ Silent
initial_silent g b s Const c env = known_silent g b s c env (a_number (pos 0))
initial_silent g b s Let c env = absent_silent g b s c env
initial_silent g b s Var c env = absent_silent g b s c env

module _ (g : Fact) (b s : ℕ) (k : VariableDeclarationKind) (lexical : is_lexical_kind k ≡ true) (c : Setting) (r : c.used ≡ Read) (env : Environment) where
  abbrev q : Question
  q = question g b s

  -- around the declarators
  abbrev inside : Bool → Setting
  inside o = record { used = Read; around = c.around; strict = c.strict; is_body = false; belongs = c.belongs && true; ordered = o }

  around_is : (k : VariableDeclarationKind) → is_lexical_kind k ≡ true → (o : Bool) → below o c (shape.VariableDeclaration k) 0 0 ≡ inside o
  around_is Var e o = absurd (true≢false (sym e))
  around_is Let e o = refl
  around_is Const e o = refl

  module _ (o : Bool) where
    abbrev items : Setting
    items = of_items ((passes g b s).orders (inside o)) (inside o)

    one_quiet : (x : Name) → Unasked g b s c.around x → is_reads (pace q items env (declarator (binding x) (initializer k))) ≡ false
    unfolding pace
    one_quiet x u =
        let value = initializer k in
        ap is_reads (valued_says x g b s items env value (root_silent x g b s items refl env value))
        ∙ join (pace q (at x items 0) env (binding x)) (followed (ends_after false (pace q (at x items 1) env value)) Silent)
        (quiet_after (q.before (at x items 0) env shape.BindingIdentifier (x ∷ []) 0 none) Silent (bound_quiet x g b s (at x items 0) env u) refl)
        (join (pace q (at x items 1) env value) Silent (ap is_reads (initial_silent g b s k (at x items 1) env)) refl)

    each_quiet : (xs : List Name) → Names (Unasked g b s c.around) xs → is_reads (items_say q items env (declarators k xs)) ≡ false
    each_quiet [] a = refl
    each_quiet (x ∷ xs) a =
        let d = declarator (binding x) (initializer k) in
        quiet_after (ends_after (q.ends items d) (pace q items env d)) (items_say q items env (declarators k xs)) (quiet_ends (q.ends items d) (pace q items env d) (one_quiet x a.0)) (each_quiet xs a.1)

    list_quiet : (xs : List Name) → Names (Unasked g b s c.around) xs → is_reads (pace q (inside o) env (listed (declarators k xs))) ≡ false
    list_quiet xs a = ap is_reads (listed_is q (passes g b s) (inside o) env (declarators k xs)) ∙ each_quiet xs a

  declared_quiet : (xs : List Name) → is_reads (q.before c env (shape.VariableDeclaration k) [] 0 (listed (declarators k xs) ▸ none)) ≡ false → Names (Unasked g b s c.around) xs → is_reads (pace q c env (declaration k (declarators k xs))) ≡ false
  unfolding pace
  declared_quiet xs root names =
      let l = listed (declarators k xs) in
      let o = q.orders c (shape.VariableDeclaration k) (l ▸ none) in
      let same : env ++ opened c.used (shape.VariableDeclaration k) (l ▸ none) 0 ≡ env = ap (λ bs. env ++ bs) (declaration_opens c.used r k (l ▸ none) 0) ∙ append-nil env in
      quiet_after (q.before c env (shape.VariableDeclaration k) [] 0 (l ▸ none)) _ root
      (ap is_reads (λ j. followed (ends_after (q.ends (around_is k lexical o j) l) (pace q (around_is k lexical o j) (same j) l)) Silent)
      ∙ quiet_after (ends_after (q.ends (inside o) l) (pace q (inside o) env l)) Silent (quiet_ends (q.ends (inside o) l) (pace q (inside o) env l) (list_quiet o xs names)) refl)

-- ---- what it says itself

left_names : (k : VariableDeclarationKind) → is_lexical_kind k ≡ true → (xs : List Name) → names_of declared.Lexical (declaration k (declarators k xs)) ≡ xs
unfolding names_of
left_names Var e xs = absurd (true≢false (sym e))
left_names Let e xs = append-nil (all_names declared.Bound (declarators Let xs)) ∙ names_given Let xs
left_names Const e xs = append-nil (all_names declared.Bound (declarators Const xs)) ∙ names_given Const xs

left_bound : (k : VariableDeclarationKind) (xs : List Name) → names_of declared.Bound (declaration k (declarators k xs)) ≡ []
unfolding names_of
left_bound k xs = refl

left_lexical : (k : VariableDeclarationKind) → is_lexical_kind k ≡ true → (b : Bool) (xs : List Name) → own_lexical b (shape.VariableDeclaration k) (listed (declarators k xs) ▸ none) ≡ xs
unfolding names_of
left_lexical Var e b xs = absurd (true≢false (sym e))
left_lexical Let e true xs = append-nil (all_names declared.Bound (declarators Let xs)) ∙ names_given Let xs
left_lexical Let e false xs = append-nil (all_names declared.Bound (declarators Let xs)) ∙ names_given Let xs
left_lexical Const e true xs = append-nil (all_names declared.Bound (declarators Const xs)) ∙ names_given Const xs
left_lexical Const e false xs = append-nil (all_names declared.Bound (declarators Const xs)) ∙ names_given Const xs

four : (ts : Trees) → encloses_by false (shape.Class true) ts ≡ true → nat_eq (count ts) 4 ≡ true
four ts e = (and_parts (nat_eq (count ts) 4) _ e).0

-- the names that it declares are among those that it tells of
lexical_told : (x : Name) (b : Bool) (h : Shape) (xs : List Name) (n : ℕ) (ts : Trees) → may_fade (node h xs n ts) ≡ true → is_among x (own_lexical b h ts) ≡ false → is_among x (names_of declared.Lexical (node h xs n ts)) ≡ false
unfolding names_of
lexical_told x true (shape.VariableDeclaration Let) xs n ts f a = a
lexical_told x false (shape.VariableDeclaration Let) xs n ts f a = a
lexical_told x true (shape.VariableDeclaration Const) xs n ts f a = a
lexical_told x false (shape.VariableDeclaration Const) xs n ts f a = a
lexical_told x b (shape.Class true) xs n ts f a = by ts (four ts (and_parts (encloses_by false (shape.Class true) ts) (all_enclose false (shape.Class true) 0 ts) (and_parts (first_gives ts) _ f).1).0) b a
  where
    both_there : (t u : Tree) → is_among x (bound_names t ++ bound_names u) ≡ false → is_among x (bound_names t) ≡ false
    both_there t u e = (none_of (is_among x (bound_names t)) (is_among x (bound_names u)) (sym (among_both x (bound_names t) (bound_names u)) ∙ e)).0

    by : (ts : Trees) → nat_eq (count ts) 4 ≡ true → (b : Bool) → is_among x (own_lexical b (shape.Class true) ts) ≡ false → is_among x (names_of declared.Lexical (node (shape.Class true) xs n ts)) ≡ false
    by none e b a = absurd (true≢false (sym e))
    by (t ▸ none) e b a = absurd (true≢false (sym e))
    by (t ▸ (u ▸ none)) e b a = absurd (true≢false (sym e))
    by (t ▸ (u ▸ (v ▸ none))) e b a = absurd (true≢false (sym e))
    by (t ▸ (u ▸ (v ▸ (w ▸ ts)))) e true a = both_there t w a
    by (t ▸ (u ▸ (v ▸ (w ▸ ts)))) e false a = both_there t w a
lexical_told x b h xs n ts f a = absurd (true≢false (sym (and_parts (is_lexical (node h xs n ts)) (first_gives ts && goes_whole (node h xs n ts)) f).0))

own_told : (b s : ℕ) (c : Setting) (env : Environment) (t : Tree) → may_fade t ≡ true → is_reads (pace (question IsLexical b s) c env t) ≡ false → is_among (by_symbol s) (names_of declared.Lexical t) ≡ false
unfolding pace
own_told b s c env (node h xs n ts) f e = lexical_told (by_symbol s) c.is_body h xs n ts f (sym (reads_tell (is_among (by_symbol s) (own_lexical c.is_body h ts))) ∙ quiet_first (reads_if (is_among (by_symbol s) (own_lexical c.is_body h ts))) _ e)

-- ---- a declaration that fades

module _ (t : Tree) (f : may_fade t ≡ true) where
  lexical : is_lexical t ≡ true
  lexical = (and_parts (is_lexical t) (first_gives (children t) && goes_whole t) f).0

  abbrev k : VariableDeclarationKind
  k = kind_left (shape_of t)

  abbrev ys : List Name
  ys = names_of declared.Lexical t

  left_kind : (h : Shape) → is_lexical_kind (kind_left h) ≡ true
  left_kind (shape.VariableDeclaration Const) = refl
  left_kind h = refl

  binds_none : (t : Tree) → is_lexical t ≡ true → names_of declared.Bound t ≡ []
  unfolding names_of
  binds_none (node (shape.VariableDeclaration Let) xs n ts) e = refl
  binds_none (node (shape.VariableDeclaration Const) xs n ts) e = refl
  binds_none (node (shape.Class true) xs n ts) e = refl
  binds_none (node h xs n ts) e = absurd (true≢false (sym e))

  -- a fact that is no more told of what is bound
  mentioned : (p : Mention → Bool) → AsksWithin p → (c : Setting) (env : Environment) → is_reads (reads_if (finds (mentions_such p) c env t)) ≡ false → Names (λ x. p (record { name = x; used = Hoisted; binds = true; around = c.around }) ≡ false) ys
  mentioned p w c env e = lexical_unasked p w c.around c.used t lexical (mentions_found p c env t ∙ sym (reads_tell (finds (mentions_such p) c env t)) ∙ e)

  every : (P : Name → Type 0) → ((x : Name) → P x) → (xs : List Name) → Names P xs
  every P f [] = tt
  every P f (x ∷ xs) = (f x, every P f xs)

  unasked : (g : Fact) (b s : ℕ) (c : Setting) (env : Environment) → is_reads (pace (question g b s) c env t) ≡ false → Names (Unasked g b s c.around) ys
  unasked MentionedElsewhere b s c env e =
      let p : Mention → Bool = λ m. same_variable (by_symbol s) m.name && is_elsewhere b m.around in
      mentioned p (λ x u a d w. both_true (same_variable (by_symbol s) x) (is_elsewhere b a) (is_elsewhere b d) (elsewhere_within b a d w)) c env (sym (ap is_reads (pace_is (mentions_such p) c env t)) ∙ e)
  unasked BoundElsewhere b s c env e =
      let p : Mention → Bool = λ m. same_variable (by_symbol s) m.name && m.binds && is_elsewhere b m.around in
      mentioned p (λ x u a d w. both_true (same_variable (by_symbol s) x && true) (is_elsewhere b a) (is_elsewhere b d) (elsewhere_within b a d w)) c env (sym (ap is_reads (pace_is (mentions_such p) c env t)) ∙ e)
  unasked Written b s c env e = every _ (λ x. tt) ys
  unasked WrittenElsewhere b s c env e = every _ (λ x. tt) ys
  unasked Given b s c env e = every _ (λ x. tt) ys
  unasked GivenElsewhere b s c env e = every _ (λ x. tt) ys
  unasked GivenByPattern b s c env e = every _ (λ x. tt) ys
  unasked IsLexical b s c env e = every _ (λ x. tt) ys
  unasked IsSwitched b s c env e = every _ (λ x. tt) ys
  unasked InPattern b s c env e = every _ (λ x. tt) ys
  unasked UnderCatch b s c env e = every _ (λ x. tt) ys
  unasked ByArguments b s c env e = every _ (λ x. tt) ys
  unasked ByEval b s c env e = every _ (λ x. tt) ys
  unasked AmongParameters b s c env e = every _ (λ x. tt) ys
  unasked ReadEarly b s c env e = every _ (λ x. tt) ys

  -- what is left tells nothing itself that the declaration doesn't
  module _ (c : Setting) (r : c.used ≡ Read) (env : Environment) (zs : List Name) (same : zs ≡ ys) where
    abbrev left : Trees
    left = listed (declarators k zs) ▸ none

    root_quiet : (g : Fact) (b s : ℕ) → is_reads (pace (question g b s) c env t) ≡ false → is_reads ((question g b s).before c env (shape.VariableDeclaration k) [] 0 left) ≡ false
    root_quiet IsLexical b s e =
        reads_tell _ ∙ ap (is_among (by_symbol s)) (left_lexical k (left_kind (shape_of t)) c.is_body zs ∙ same) ∙ own_told b s c env t f e
    root_quiet ByEval b s e = ap (λ d. is_reads (reads_if d)) (unseen (by_symbol s) (opened c.used (shape.VariableDeclaration k) left) (declaration_opens c.used r k left) 0 left)
    root_quiet Written b s e = refl
    root_quiet WrittenElsewhere b s e = refl
    root_quiet Given b s e = refl
    root_quiet GivenElsewhere b s e = refl
    root_quiet GivenByPattern b s e = refl
    root_quiet MentionedElsewhere b s e = refl
    root_quiet BoundElsewhere b s e = refl
    root_quiet IsSwitched b s e = refl
    root_quiet InPattern b s e = refl
    root_quiet UnderCatch b s e = refl
    root_quiet ByArguments b s e = refl
    root_quiet AmongParameters b s e = refl
    root_quiet ReadEarly b s e = refl

    left_quiet : (g : Fact) (b s : ℕ) → is_reads (pace (question g b s) c env t) ≡ false → is_reads (pace (question g b s) c env (declaration k (declarators k zs))) ≡ false
    left_quiet g b s e = declared_quiet g b s k (left_kind (shape_of t)) c r env zs (root_quiet g b s e) (subst (Names (Unasked g b s c.around)) (sym same) (unasked g b s c env e))

    left_ends : (g : Fact) (b s : ℕ) → (question g b s).ends c (declaration k (declarators k zs)) ≡ (question g b s).ends c t
    left_ends g b s =
        by_question (λ q. q.ends c (declaration k (declarators k zs)) ≡ q.ends c t) (λ o. refl)
        (λ m n j. c.ordered && (is_among (by_symbol n) ((left_names k (left_kind (shape_of t)) zs ∙ same) j) || is_among (by_symbol n) ((left_bound k zs ∙ sym (binds_none t lexical)) j))) g b s

  no_end : (x : Bool) → (x && (false || false)) ≡ false
  no_end true = refl
  no_end false = refl

  unended : [] ≡ ys → (g : Fact) (b s : ℕ) (c : Setting) → (question g b s).ends c t ≡ false
  unended e g b s c =
      by_question (λ q. q.ends c t ≡ false) (λ o. refl) (λ m n. (λ j. c.ordered && (is_among (by_symbol n) (sym e j) || is_among (by_symbol n) (binds_none t lexical j))) ∙ no_end c.ordered) g b s

  says_nothing : (p : Pace) → AtMost Silent (followed (ends_after false p) Silent)
  says_nothing Ends = tt
  says_nothing Silent = tt
  says_nothing Reads = tt

  faded_said : (g : Fact) (b s : ℕ) (c : Setting) → c.used ≡ Read → (env : Environment) (x : Bool) (zs : List Name) → zs ≡ ys → SaysLess (t ▸ none) (declared_with k zs) (question g b s) c env x
  faded_said g b s c r env x [] e =
      let q = question g b s in
      let p = pace q (of_items x c) env t in
      subst (λ d. AtMost Silent (followed (ends_after d p) Silent)) (sym (unended e g b s (of_items x c))) (says_nothing p)
  faded_said g b s c r env x (z ∷ zs) e =
      let q = question g b s in
      let at = of_items x c in
      let d = q.ends at t in
      let new = pace q at env (declaration k (declarators k (z ∷ zs))) in
      let old = pace q at env t in
      subst (λ w. AtMost (followed (ends_after w new) Silent) (followed (ends_after d old) Silent)) (sym (left_ends at r env (z ∷ zs) e g b s))
      (both (ends_after d new) (ends_after d old) Silent Silent (ended_inside d new old (kept_less new old (left_quiet at r env (z ∷ zs) e g b s))) tt)

  -- ---- what is left tells besides names

  initial_eval : (k : VariableDeclarationKind) → has_eval (initializer k) ≡ false
  unfolding has_eval
  initial_eval Const = refl
  initial_eval Let = refl
  initial_eval Var = refl

  evals_left : (k : VariableDeclarationKind) (zs : List Name) → any_has_eval (declared_with k zs) ≡ false
  unfolding has_eval
  evals_left k [] = refl
  evals_left k (z ∷ zs) = λ j. (in_each (z ∷ zs) j || false) || false
    where
      in_each : (zs : List Name) → any_has_eval (declarators k zs) ≡ false
      in_each [] = refl
      in_each (y ∷ zs) = λ j. (initial_eval k j || false) || in_each zs j

  initial_arguments : (k : VariableDeclarationKind) → names_arguments (initializer k) ≡ false
  unfolding names_arguments
  initial_arguments Const = refl
  initial_arguments Let = refl
  initial_arguments Var = refl

  arguments_left : (k : VariableDeclarationKind) (zs : List Name) → Names (λ x. is_arguments (x ∷ []) ≡ false) zs → any_names (declared_with k zs) ≡ false
  unfolding names_arguments
  arguments_left k [] a = refl
  arguments_left k (z ∷ zs) a = λ j. (in_each 0 (z ∷ zs) a j || false) || false
    where
      in_each : (i : ℕ) (zs : List Name) → Names (λ x. is_arguments (x ∷ []) ≡ false) zs → any_names_arguments (is_of_function shape.Listed) i (declarators k zs) ≡ false
      in_each i [] a = refl
      in_each i (y ∷ zs) a = λ j. ((a.0 j || false) || (initial_arguments k j || false)) || in_each (suc i) zs a.1 j

  initial_number : (b : ℕ) (k : VariableDeclarationKind) → has_number (suc b) (initializer k) ≡ false
  unfolding has_number
  initial_number b Const = λ j. unlike b j || false
  initial_number b Let = λ j. unlike b j || false
  initial_number b Var = λ j. unlike b j || false

  numbers_left : (b : ℕ) (k : VariableDeclarationKind) (zs : List Name) → any_has_number (suc b) (declared_with k zs) ≡ false
  unfolding has_number
  numbers_left b k [] = refl
  numbers_left b k (z ∷ zs) = λ j. (unlike b j || ((unlike b j || in_each (z ∷ zs) j) || false)) || false
    where
      in_each : (zs : List Name) → any_has_number (suc b) (declarators k zs) ≡ false
      in_each [] = refl
      in_each (y ∷ zs) = λ j. (unlike b j || ((unlike b j || false) || (initial_number b k j || false))) || in_each zs j

  faded_told : ToldStretch (t ▸ none) (faded t)
  faded_told = record {
    said = λ strict fit g b s c r env x. faded_said g b s c r env x ys refl;
    evals = λ strict fit e. absurd (true≢false (sym e ∙ evals_left k ys));
    arguments = λ strict fit. never (any_names (t ▸ none)) (any_names (faded t)) (λ e. arguments_left k ys (lexical_sparing strict (one (a_statement fit.depth)) t lexical (first_fits strict fit.depth t none fit.fit) (none_of (names_arguments t) false e).0));
    numbers = λ strict fit b e. absurd (true≢false (sym e ∙ numbers_left b k ys));
  }

pub row_77_lexical_less : NeighboursLess Row77Lexical
row_77_lexical_less p l n w r =
    let x = r.row in
    stretch_told_less p l (append r.before (x.first ▸ x.between)) r.after (x.gone ▸ none) (faded x.gone) n w
    (r.shape ∙ ap (λ ts. listed (append r.before (append ts r.after))) x.shape ∙ ap listed (behind r.before x.first x.between (x.gone ▸ none) r.after))
    (r.written ∙ ap (λ ts. listed (append r.before (append ts r.after))) x.written ∙ ap listed (behind r.before x.first x.between (faded x.gone) r.after))
    (faded_told x.gone x.fades)

-- ---- both rows of lets

in_list : (W : VariableSet) (p : Position) → is_statement_list p ≡ true → (n w : Tree) → InList (LetsRow W) n w → LessAt p n w
in_list W p l n w r = by r.row
  where
    by : LetsRow W r.read r.put → LessAt p n w
    by (inl m) = row_70_let_less W p l n w (record { before = r.before; read = r.read; put = r.put; after = r.after; row = m; shape = r.shape; written = r.written })
    by (inr m) = row_77_lexical_less p l n w (record { before = r.before; read = r.read; put = r.put; after = r.after; row = m; shape = r.shape; written = r.written })

row_less : (W : VariableSet) (p : Position) (n w : Tree) → LetRow W p n w → LessAt p n w
row_less W StatementList n w r = in_list W StatementList refl n w r
row_less W BodyList n w r = in_list W BodyList refl n w r
row_less W p n w r = absurd r

pub lets_read_less : LetsReadLess
lets_read_less W = reads_less_by (LetContracts W) (λ p n w c. row_less W p n w c.row)
