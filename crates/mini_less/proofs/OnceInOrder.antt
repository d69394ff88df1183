-- A declaration whose name is read once goes, and its value stands where the name was read: nothing
-- of another symbol is read earlier against the end of its declaration.
use Rattle.std.specs.Prelude.{ℕ, ◌≡◌, refl, nat_eq, Bool, true, false, ◌&&◌, ◌||◌, List, [], ◌∷◌, ◌++◌}
use Rattle.std.proofs.Common.{ap, ◌∙◌, sym, subst, true≢false}
use Rattle.mini_model.specs.declared.kind.VariableDeclarationKind.{VariableDeclarationKind}
use Rattle.mini_model.specs.declared.kind.VariableDeclarationKind.TheVariants.{Var}
use Rattle.mini_model.specs.declared.name.Name.{Name}
use Rattle.mini_model.specs.Paths.{append}
use Rattle.mini_model.specs.Tree.{Tree, Trees, none, ◌▸◌, empty_statement}
use Rattle.mini_laws.specs.DeclaredNames.{all_names, names_of}
use Rattle.mini_laws.specs.Mentions.{is_among}
use Rattle.mini_laws.specs.Naming.{is_lexical}
use Rattle.mini_laws.specs.Resolved.{Environment}
use Rattle.mini_laws.specs.ScopeList.{by_symbol}
use Rattle.mini_laws.specs.declared.names.Declared.TheVariants as declared
use Rattle.mini_laws.specs.declared.names.Use.TheVariants.{Read}
use Rattle.mini_shrink.specs.Pace.{Pace, Ends, Silent, Reads, followed, ends_after, AtMost, Setting, Question, pace}
use Rattle.mini_shrink.specs.Questions.{early}
use Rattle.mini_rows.specs.Declarations.{binding, declarator}
use Rattle.mini_rows.specs.Lists.{declaration, is_unscoped}
use Rattle.mini_rows.specs.Sketches.{Asked, AsWholeItem, Empty}
use Rattle.mini_rows.specs.Unused.{resolved, declared_left}
use Rattle.mini_less.specs.Neighbours.{of_items, items_say}
use Rattle.mini_less.specs.TellsLists.{Every}
use Rattle.mini_less.proofs.ByLists.{ByLists, calm_lists, valued_calm}
use Rattle.mini_less.proofs.EntersLess.{reads_most, first_every, second_every}
use Rattle.mini_less.proofs.HeadsOnce.{HeadLess}
use Rattle.mini_less.proofs.ListJoins as joins
use Rattle.mini_less.proofs.Headed.{and_nothing}
use Rattle.mini_less.proofs.ListMade.{one_says}
use Rattle.mini_less.proofs.Listing.{with_belongs, early_passes}
use Rattle.mini_less.proofs.Neighbours.{appended}
use Rattle.mini_less.proofs.Plainly.{is_ended, is_reads, Calmly}
use Rattle.mini_less.proofs.TellingLists.{among_both}

-- ---- answers in order

pub most_calm : (p q : Pace) → AtMost p q → is_reads q ≡ false → is_reads p ≡ false
most_calm Ends q a e = refl
most_calm Silent q a e = refl
most_calm Reads Reads a e = e
most_calm Reads Ends a e = absurd a
most_calm Reads Silent a e = absurd a

-- what is silent before the rest
pub calm_before : (p q h k : Pace) → is_reads p ≡ false → AtMost h k → AtMost (followed (ends_after false p) h) (followed (ends_after false q) k)
calm_before Ends Ends h k e a = a
calm_before Ends Silent h k e a = a
calm_before Ends Reads h k e a = reads_most h Reads refl
calm_before Silent Ends h k e a = a
calm_before Silent Silent h k e a = a
calm_before Silent Reads h k e a = reads_most h Reads refl
calm_before Reads q h k e a = absurd (true≢false e)

pub one_reads : (p r : Pace) → is_reads p ≡ true → is_reads (followed (ends_after false p) r) ≡ true
one_reads Ends r a = absurd (true≢false (sym a))
one_reads Silent r a = absurd (true≢false (sym a))
one_reads Reads r a = refl

-- some declarators, one whose name goes, and what stands behind the declaration
ordered_less : (e : Bool) (f p h k : Pace) → (e ≡ true → joins.is_silent f ≡ false) → (e ≡ false → is_ended f ≡ false) → (is_reads p ≡ false → AtMost k h) → AtMost (followed (ends_after e f) k) (followed (ends_after e (followed f (followed (ends_after false p) Silent))) h)
ordered_less e Reads p h k a b c = tt
ordered_less true Ends p h k a b c = tt
ordered_less false Ends p h k a b c = absurd (true≢false (b refl))
ordered_less true Silent p h k a b c = absurd (true≢false (a refl))
ordered_less false Silent Ends h k a b c = c refl
ordered_less false Silent Silent h k a b c = c refl
ordered_less false Silent Reads h k a b c = reads_most k Reads refl

-- ---- in order

pub nothing_ended : (p r : Pace) → is_ended r ≡ false → is_ended (followed (ends_after false p) r) ≡ false
nothing_ended Ends r e = e
nothing_ended Silent r e = e
nothing_ended Reads r e = refl

no_first : (xs ys : List Name) → xs ++ ys ≡ [] → (xs ≡ []) × (ys ≡ [])
no_first [] ys e = (refl, e)
no_first (x ∷ xs) ys e = absurd (cc e)

module _ (sp : List ℕ) (k : ℕ) (first : Trees) (init head put : Tree) (heads : HeadLess init head put) (b s : ℕ) (other : nat_eq s k ≡ false) (c : Setting) (u : c.used ≡ Read) (env : Environment) (o : Bool) where
  abbrev x : Name
  x = resolved sp k

  abbrev dx : Tree
  dx = declarator (binding x) init

  abbrev ds : Trees
  ds = append first (dx ▸ none)

  abbrev q : Question
  q = early b s

  abbrev C : Asked → Tree → Type 0
  C = Calmly b s (with_belongs c) env

  abbrev says : Trees → Pace
  says = items_say q (of_items o c) env

  abbrev loose : Tree → Pace
  loose t = pace q (of_items false c) env t

  abbrev behind : Type 0
  behind = AtMost (says (put ▸ none)) (says (head ▸ none))

  -- ---- a `var`

  left_unscoped : (ts : Trees) → is_unscoped (declared_left Var ts) ≡ true
  left_unscoped none = refl
  left_unscoped (t ▸ ts) = refl

  left_calm : (l : ByLists C) (ts : Trees) → Every l.Declared ts → C AsWholeItem (declared_left Var ts)
  left_calm l none a = l.parts.up Empty refl AsWholeItem none tt tt
  left_calm l (t ▸ ts) a = l.var_up (t ▸ ts) a

  pub var_order : AtMost (says (declared_left Var first ▸ (put ▸ none))) (says (declaration Var ds ▸ (head ▸ none)))
  var_order =
      let D = declaration Var ds in
      let L = declared_left Var first in
      subst (λ z. AtMost z (says (D ▸ (head ▸ none)))) (sym (one_says b s c env o L (put ▸ none) (left_unscoped first)))
      (subst (AtMost (followed (ends_after false (loose L)) (says (put ▸ none)))) (sym (one_says b s c env o D (head ▸ none) refl)) (by (is_reads (loose D)) refl))
    where
      by : (z : Bool) → is_reads (loose (declaration Var ds)) ≡ z → AtMost (followed (ends_after false (loose (declared_left Var first))) (says (put ▸ none))) (followed (ends_after false (loose (declaration Var ds))) (says (head ▸ none)))
      by true e = reads_most _ _ (one_reads (loose (declaration Var ds)) (says (head ▸ none)) e)
      by false e =
          let l = calm_lists b s (with_belongs c) env u in
          let each = l.var_down ds e in
          let value = (l.valued (binding x) init init refl (second_every l.Declared first (dx ▸ none) each).0).0 in
          calm_before (loose (declared_left Var first)) (loose (declaration Var ds)) (says (put ▸ none)) (says (head ▸ none)) (left_calm l first (first_every l.Declared first (dx ▸ none) each)) (heads.in_order b s c u env o value)

  -- ---- lexical names

  abbrev around : Setting
  around = of_items o (joins.inside b s c env o)

  abbrev declares : Trees → Bool
  declares = joins.declares b s c env

  abbrev items : Trees → Pace
  items = joins.items b s c env o

  unended : q.ends around dx ≡ false
  unfolding names_of
  unended = (λ j. o && (false || (other j || false))) ∙ and_nothing o

  others_declared : declares ds ≡ declares first
  unfolding names_of
  others_declared = joins.declares_both b s c env first (dx ▸ none) ∙ (λ j. declares first || (other j || false)) ∙ or_none (declares first)
    where
      or_none : (a : Bool) → (a || false) ≡ a
      or_none true = refl
      or_none false = refl

  items_are : items ds ≡ followed (items first) (followed (ends_after false (pace q around env dx)) Silent)
  items_are = appended q (early_passes b s) around env first (dx ▸ none) ∙ ap (λ e. followed (items first) (followed (ends_after e (pace q around env dx)) Silent)) unended

  off_both : (a : Bool) → (a && false) ≡ false
  off_both true = refl
  off_both false = refl

  off_declared : (t : Tree) (ts : Trees) → names_of declared.Lexical t ≡ [] → (o && declares (t ▸ ts)) ≡ false → (q.ends around t ≡ false) × ((o && declares ts) ≡ false)
  unfolding names_of
  off_declared t ts e f = by o (is_among (by_symbol s) (names_of declared.Bound t)) (declares ts) refl (sym (λ j. o && among_both (by_symbol s) (names_of declared.Bound t) (all_names declared.Bound ts) j) ∙ f)
    where
      by : (a d h : Bool) → is_among (by_symbol s) (names_of declared.Bound t) ≡ d → (a && (d || h)) ≡ false → ((a && (is_among (by_symbol s) (names_of declared.Lexical t) || is_among (by_symbol s) (names_of declared.Bound t))) ≡ false) × ((a && h) ≡ false)
      by false d h g w = (refl, refl)
      by true false false g w = (λ j. is_among (by_symbol s) (e j) || g j, refl)
      by true true h g w = absurd (true≢false w)
      by true false true g w = absurd (true≢false w)

  not_ended : (ts : Trees) → all_names declared.Lexical ts ≡ [] → (o && declares ts) ≡ false → is_ended (items ts) ≡ false
  unfolding names_of
  not_ended none e f = refl
  not_ended (t ▸ ts) e f =
      let (g, h) = no_first (names_of declared.Lexical t) (all_names declared.Lexical ts) e in
      let (v, w) = off_declared t ts g f in
      ap (λ z. is_ended (followed (ends_after z (pace q around env t)) (items ts))) v ∙ nothing_ended (pace q around env t) (items ts) (not_ended ts h w)

  module _ (K : VariableDeclarationKind) (lexical : is_lexical K ≡ true) (plain : all_names declared.Lexical first ≡ []) where
    empty_silent : loose empty_statement ≡ Silent
    unfolding pace
    empty_silent = refl

    left_says : (ts us : Trees) → says (declared_left K ts ▸ us) ≡ followed (ends_after (o && declares ts) (items ts)) (says us)
    unfolding names_of
    left_says none us = one_says b s c env o empty_statement us refl ∙ ap (λ z. followed (ends_after false z) (says us)) empty_silent ∙ ap (λ z. followed (ends_after z Silent) (says us)) (sym (off_both o))
    left_says (t ▸ ts) us = ap (λ z. followed z (says us)) (joins.one_says b s c env u K lexical o (t ▸ ts))

    read_says : says (declaration K ds ▸ (head ▸ none)) ≡ followed (ends_after (o && declares first) (followed (items first) (followed (ends_after false (pace q around env dx)) Silent))) (says (head ▸ none))
    read_says = (λ j. followed (joins.one_says b s c env u K lexical o ds j) (says (head ▸ none))) ∙ (λ j. followed (ends_after (o && others_declared j) (items_are j)) (says (head ▸ none)))

    spoken : (o && declares first) ≡ true → joins.is_silent (items first) ≡ false
    spoken e = by o e refl
      where
        by : (a : Bool) → (a && declares first) ≡ true → o ≡ a → joins.is_silent (items first) ≡ false
        by true e f = ap (λ a. joins.is_silent (joins.items b s c env a first)) f ∙ joins.spoken b s c env first e
        by false e f = absurd (true≢false (sym e))

    pub lexical_order : AtMost (says (declared_left K first ▸ (put ▸ none))) (says (declaration K ds ▸ (head ▸ none)))
    lexical_order =
        subst (λ z. AtMost z (says (declaration K ds ▸ (head ▸ none)))) (sym (left_says first (put ▸ none)))
        (subst (AtMost (followed (ends_after (o && declares first) (items first)) (says (put ▸ none)))) (sym read_says)
        (ordered_less (o && declares first) (items first) (pace q around env dx) (says (head ▸ none)) (says (put ▸ none)) spoken (not_ended first plain)
        (λ e. heads.in_order b s c u env o (valued_calm b s (with_belongs c) env u Read (binding x) init init (sym (ap is_reads (joins.declarator_anywhere b s c env o (binding x) init)) ∙ e)).0)))
