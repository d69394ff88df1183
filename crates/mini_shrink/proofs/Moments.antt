-- A read before the end of a declaration, by all moments of a program, is one by the ends that
-- scopes tell.
use Rattle.std.specs.Prelude.{ℕ, suc, ◌≡◌, ◌⊎◌, refl, Bool, true, false, ◌&&◌, ◌||◌, not, List, [], ◌∷◌, ◌++◌, if◌then◌else◌}
use Rattle.std.specs.List.{list_any}
use Rattle.std.proofs.Common.{ap, ◌∙◌, sym, subst, inl, inr, true≢false}
use Rattle.mini_model.specs.declared.kind.VariableDeclarationKind.TheVariants.{Var}
use Rattle.mini_model.specs.declared.name.Name.{Name}
use Rattle.mini_model.specs.declared.shape.Shape.{Shape}
use Rattle.mini_model.specs.declared.shape.Shape.TheVariants as shape
use Rattle.mini_model.specs.Tree.{Tree, Trees, node, none, ◌▸◌}
use Rattle.mini_laws.specs.declared.names.Use.{Use}
use Rattle.mini_laws.specs.declared.names.Use.TheVariants.{Read}
use Rattle.mini_laws.specs.declared.names.Binding.{Binding}
use Rattle.mini_laws.specs.declared.names.Around.{Around}
use Rattle.mini_laws.specs.declared.names.Declared.TheVariants as declared
use Rattle.mini_laws.specs.declared.names.Place.{Place}
use Rattle.mini_laws.specs.declared.names.Place.TheVariants as place
use Rattle.mini_laws.specs.DeclaredNames.{bound_place, names_by, names_of, all_names, first_names}
use Rattle.mini_laws.specs.References.{reads}
use Rattle.mini_laws.specs.Scopes.{use_of, opened}
use Rattle.mini_laws.specs.Resolved.{Environment}
use Rattle.mini_laws.specs.ScopeList.{by_symbol}
use Rattle.mini_laws.specs.Mentions.{Mention, own_mentions, around_child, outermost, same_variable, is_among, is_elsewhere}
use Rattle.mini_laws.specs.Foreign.{Moment, reads_at, ends_at, ended_by, joined, in_order, moments, moments_from, is_read_early}
use Rattle.mini_kept.proofs.Bools.{left, right}
use Rattle.mini_shrink.specs.Pace.{Pace, Ends, Silent, Reads, AtMost, followed, reads_if, ends_if, ends_after, all_followed, in_turn, Setting, below, pace, paces}
use Rattle.mini_shrink.specs.Questions.{at_program, hands_on, listed_names, early}
use Rattle.mini_shrink.specs.Regular.{is_nowhere, is_listed_alone, declares_alone, all_declare_alone, items_of, imports_no, is_regular, all_regular, EarlyByScopes}
use Rattle.mini_shrink.specs.Told.{is_reads}
use Rattle.mini_shrink.proofs.Finding.{any_both}
use Rattle.mini_shrink.proofs.Paces.{same, both, all_both, AllAtMost}

pub grouped : (p q r : Pace) → followed (followed p q) r ≡ followed p (followed q r)
grouped Ends q r = refl
grouped Silent q r = refl
grouped Reads q r = refl

-- an end after it adds nothing
early_end : (p : Pace) (e : Bool) → AtMost (followed p (ends_if e)) p
early_end Ends e = tt
early_end Silent true = tt
early_end Silent false = tt
early_end Reads e = tt

pub or_either : (a b : Bool) → (a || b) ≡ true → (a ≡ true) ⊎ (b ≡ true)
or_either true b e = inl refl
or_either false b e = inr e

abbrev Loud : Pace → Type 0
Loud Silent = ⊥
Loud p = Unit {0}

loud_first : (p q : Pace) → Loud p → Loud (followed p q)
loud_first Ends q l = tt
loud_first Silent q l = absurd l
loud_first Reads q l = tt

loud_second : (p q : Pace) → Loud q → Loud (followed p q)
loud_second Ends q l = tt
loud_second Silent q l = l
loud_second Reads q l = tt

-- what is loud and at most silent ends
closed : (e : Bool) (p q : Pace) → AtMost p q → (e ≡ true → Loud p) → AtMost p (ends_after e q)
closed false Ends q a l = tt
closed false Silent Ends a l = absurd a
closed false Silent Silent a l = tt
closed false Silent Reads a l = tt
closed false Reads Ends a l = absurd a
closed false Reads Silent a l = absurd a
closed false Reads Reads a l = tt
closed true Ends q a l = tt
closed true Silent q a l = absurd (l refl)
closed true Reads Ends a l = absurd a
closed true Reads Silent a l = absurd a
closed true Reads Reads a l = tt

not_both : (a : Bool) → not a ≡ true → a ≡ true → ⊥
not_both true d e = true≢false (sym d)
not_both false d e = true≢false (sym e)

module _ (b s : ℕ) where
  abbrev pub x : Name
  x = by_symbol s

  abbrev pub at_moment : Moment → Pace
  at_moment m = if same_variable x m.name then (if m.ends then Ends else reads_if (not (is_elsewhere b m.around))) else Silent

  -- what comes first of the name
  abbrev pub first_of : List Moment → Pace
  first_of [] = Silent
  first_of (m ∷ ms) = followed (at_moment m) (first_of ms)

  pub first_both : (ks ms : List Moment) → first_of (ks ++ ms) ≡ followed (first_of ks) (first_of ms)
  first_both [] ms = refl
  first_both (k ∷ ks) ms = ap (followed (at_moment k)) (first_both ks ms) ∙ sym (grouped (at_moment k) (first_of ks) (first_of ms))

  read_early_first : (ms : List Moment) → is_read_early b x ms ≡ true → is_reads (first_of ms) ≡ true
  read_early_first [] e = e
  read_early_first (m ∷ ms) e = by (same_variable x m.name) m.ends (not (is_elsewhere b m.around)) (read_early_first ms) e
    where
      by : (n d r : Bool) → (is_read_early b x ms ≡ true → is_reads (first_of ms) ≡ true) → (if n then (if d then false else (r || is_read_early b x ms)) else is_read_early b x ms) ≡ true → is_reads (followed (if n then (if d then Ends else reads_if r) else Silent) (first_of ms)) ≡ true
      by true true r f e = absurd (true≢false (sym e))
      by true false true f e = refl
      by true false false f e = f e
      by false d r f e = f e

  abbrev rest : List Mention → Bool
  rest ms = list_any (λ n. same_variable x n.name && not n.binds && reads n.used && not (is_elsewhere b n.around)) ms

  none_of : (n c r o : Bool) → (c && r) ≡ false → false ≡ (n && c && r && o)
  none_of true true true o e = absurd (true≢false e)
  none_of true true false o e = refl
  none_of true false r o e = refl
  none_of false c r o e = refl

  pub reads_first : (ms : List Mention) → first_of (reads_at ms) ≡ reads_if (list_any (λ m. same_variable x m.name && not m.binds && reads m.used && not (is_elsewhere b m.around)) ms)
  reads_first [] = refl
  reads_first (m ∷ ms) = by m.binds (reads m.used) (reads_first ms)
    where
      said : (n o : Bool) → first_of (reads_at ms) ≡ reads_if (rest ms) → followed (if n then reads_if o else Silent) (first_of (reads_at ms)) ≡ reads_if ((n && true && true && o) || rest ms)
      said true true f = refl
      said true false f = f
      said false o f = f

      by : (d r : Bool) → first_of (reads_at ms) ≡ reads_if (rest ms) → first_of (if not d && r then record { name = m.name; ends = false; around = m.around } ∷ reads_at ms else reads_at ms) ≡ reads_if ((same_variable x m.name && not d && r && not (is_elsewhere b m.around)) || rest ms)
      by false true f = said (same_variable x m.name) (not (is_elsewhere b m.around)) f
      by false false f = f ∙ ap (λ n. reads_if (n || rest ms)) (none_of (same_variable x m.name) true false (not (is_elsewhere b m.around)) refl)
      by true r f = f ∙ ap (λ n. reads_if (n || rest ms)) (none_of (same_variable x m.name) false r (not (is_elsewhere b m.around)) refl)

  pub ends_first : (a : Around) (ys : List Name) → first_of (ends_at a ys) ≡ ends_if (is_among x ys)
  ends_first a [] = refl
  ends_first a (y ∷ ys) = by (same_variable x y) (ends_first a ys)
    where
      by : (n : Bool) → first_of (ends_at a ys) ≡ ends_if (is_among x ys) → followed (if n then Ends else Silent) (first_of (ends_at a ys)) ≡ ends_if (n || is_among x ys)
      by true f = refl
      by false f = f

  -- ---- a declaration ends in what declares it

  abbrev Shown : Tree → Type 0
  Shown t = (u : Use) (a : Around) → Loud (first_of (moments u a t))

  -- in one of some trees
  abbrev AnyShown : Trees → Type 0
  AnyShown ts = (us : ℕ → Use) (rs : ℕ → Around) (i : ℕ) → Loud (first_of (joined (moments_from us rs i ts)))

  loud_both : (ks ms : List Moment) → Loud (first_of ks) ⊎ Loud (first_of ms) → Loud (first_of (ks ++ ms))
  loud_both ks ms (inl l) = subst Loud (sym (first_both ks ms)) (loud_first (first_of ks) (first_of ms) l)
  loud_both ks ms (inr l) = subst Loud (sym (first_both ks ms)) (loud_second (first_of ks) (first_of ms) l)

  shown_first : (t : Tree) (ts : Trees) → Shown t → AnyShown (t ▸ ts)
  unfolding moments
  shown_first t ts l us rs i = loud_both (moments (us i) (rs i) t) (joined (moments_from us rs (suc i) ts)) (inl (l (us i) (rs i)))

  shown_later : (t : Tree) (ts : Trees) → AnyShown ts → AnyShown (t ▸ ts)
  unfolding moments
  shown_later t ts l us rs i = loud_both (moments (us i) (rs i) t) (joined (moments_from us rs (suc i) ts)) (inr (l us rs (suc i)))

  loud_end : (a : Around) (ys : List Name) → is_among x ys ≡ true → Loud (first_of (ends_at a ys))
  loud_end a ys e = subst Loud (sym (ends_first a ys ∙ ap ends_if e)) tt

  in_children : (u : Use) (a : Around) (h : Shape) (xs : List Name) (n : ℕ) (ts : Trees) (ends : List Moment) → AnyShown ts → Loud (first_of (reads_at (own_mentions u a h xs) ++ (joined (moments_from (use_of h u) (around_child h a n) 0 ts) ++ ends)))
  in_children u a h xs n ts ends l =
      let ms = joined (moments_from (use_of h u) (around_child h a n) 0 ts) in
      loud_both (reads_at (own_mentions u a h xs)) (ms ++ ends) (inr (loud_both ms ends (inl (l (use_of h u) (around_child h a n) 0))))

  at_end : (u : Use) (a : Around) (h : Shape) (xs : List Name) (n : ℕ) (ts : Trees) (ys : List Name) → is_among x ys ≡ true → Loud (first_of (reads_at (own_mentions u a h xs) ++ (joined (moments_from (use_of h u) (around_child h a n) 0 ts) ++ ends_at a ys)))
  at_end u a h xs n ts ys e =
      let ms = joined (moments_from (use_of h u) (around_child h a n) 0 ts) in
      loud_both (reads_at (own_mentions u a h xs)) (ms ++ ends_at a ys) (inr (loud_both ms (ends_at a ys) (inr (loud_end a ys e))))

  among_either : (ys zs : List Name) → is_among x (ys ++ zs) ≡ true → (is_among x ys ≡ true) ⊎ (is_among x zs ≡ true)
  among_either ys zs e = or_either (is_among x ys) (is_among x zs) (sym (any_both (same_variable x) ys zs) ∙ e)

  in_either : (t : Tree) (ts : Trees) {A B : Type 0} → A ⊎ B → (A → Shown t) → (B → AnyShown ts) → AnyShown (t ▸ ts)
  in_either t ts (inl e) f g = shown_first t ts (f e)
  in_either t ts (inr e) f g = shown_later t ts (g e)

  none_bound : (p : Place) (own first bound under : List Name) → is_nowhere p ≡ true → is_among x (names_by p own first bound under) ≡ true → ⊥
  none_bound place.Nowhere own first bound under d e = true≢false (sym e)
  none_bound place.Here own first bound under d e = true≢false (sym d)
  none_bound place.FirstBound own first bound under d e = true≢false (sym d)
  none_bound place.Bound own first bound under d e = true≢false (sym d)
  none_bound place.Below own first bound under d e = true≢false (sym d)

  mutual
    unfolding names_of declares_alone moments

    bound_shown : (t : Tree) → declares_alone t ≡ true → is_among x (names_of declared.Bound t) ≡ true → Shown t
    bound_shown (node shape.Listed xs n ts) d e = λ u a. in_children u a shape.Listed xs n ts [] (all_bound_shown ts d e)
    bound_shown (node shape.VariableDeclarator xs n ts) d e = λ u a. at_end u a shape.VariableDeclarator xs n ts (first_names ts) e
    bound_shown (node h xs n ts) d e = absurd (none_bound (bound_place h) xs (first_names ts) (all_names declared.Bound ts) (all_names declared.Bound ts) d e)

    all_bound_shown : (ts : Trees) → all_declare_alone ts ≡ true → is_among x (all_names declared.Bound ts) ≡ true → AnyShown ts
    all_bound_shown none d e = absurd (true≢false (sym e))
    all_bound_shown (t ▸ ts) d e = in_either t ts (among_either (names_of declared.Bound t) (all_names declared.Bound ts) e) (bound_shown t (left (declares_alone t) (all_declare_alone ts) d)) (all_bound_shown ts (right (declares_alone t) (all_declare_alone ts) d))

  mutual
    unfolding names_of is_regular moments

    lexical_shown : (t : Tree) → is_regular s t ≡ true → is_among x (names_of declared.Lexical t) ≡ true → Shown t
    lexical_shown (node (shape.VariableDeclaration Var) xs n ts) d e = absurd (true≢false (sym e))
    lexical_shown (node (shape.VariableDeclaration k) xs n ts) d e = λ u a. in_children u a (shape.VariableDeclaration k) xs n ts [] (all_bound_shown ts (left (all_declare_alone ts) true (left (all_declare_alone ts && true) (all_regular s ts) d)) e)
    lexical_shown (node (shape.Function true g ds) xs n ts) d e = λ u a. at_end u a (shape.Function true g ds) xs n ts (first_names ts) e
    lexical_shown (node (shape.Class true) xs n ts) d e = λ u a. at_end u a (shape.Class true) xs n ts (first_names ts) e
    lexical_shown (node shape.ImportDeclaration xs n ts) d e = absurd (not_both (is_among x (all_names declared.Bound ts)) (left (not (is_among x (all_names declared.Bound ts))) (all_regular s ts) d) e)
    lexical_shown (node shape.ExportNamedDeclaration xs n ts) d e = λ u a. in_children u a shape.ExportNamedDeclaration xs n ts [] (all_lexical_shown ts (right (all_declare_alone ts && true) (all_regular s ts) d) e)
    lexical_shown (node shape.ExportDefaultDeclaration xs n ts) d e = λ u a. in_children u a shape.ExportDefaultDeclaration xs n ts [] (all_lexical_shown ts (right (all_declare_alone ts && true) (all_regular s ts) d) e)
    lexical_shown (node shape.SwitchCase xs n ts) d e = λ u a. in_children u a shape.SwitchCase xs n ts [] (all_lexical_shown ts (right (all_declare_alone ts && true) (all_regular s ts) d) e)
    lexical_shown (node shape.Listed xs n ts) d e = λ u a. in_children u a shape.Listed xs n ts [] (all_lexical_shown ts d e)
    lexical_shown (node h xs n ts) d e = absurd (true≢false (sym e))

    all_lexical_shown : (ts : Trees) → all_regular s ts ≡ true → is_among x (all_names declared.Lexical ts) ≡ true → AnyShown ts
    all_lexical_shown none d e = absurd (true≢false (sym e))
    all_lexical_shown (t ▸ ts) d e = in_either t ts (among_either (names_of declared.Lexical t) (all_names declared.Lexical ts) e) (lexical_shown t (left (is_regular s t) (all_regular s ts) d)) (all_lexical_shown ts (right (is_regular s t) (all_regular s ts) d))

  -- what ends a declaration in a list that declares the name
  ends_shown : (o : Bool) (t : Tree) → is_regular s t ≡ true → (o ≡ true → declares_alone t ≡ true) → (o && (is_among x (names_of declared.Lexical t) || is_among x (names_of declared.Bound t))) ≡ true → Shown t
  ends_shown false t d f e = absurd (true≢false (sym e))
  ends_shown true t d f e = by (or_either (is_among x (names_of declared.Lexical t)) (is_among x (names_of declared.Bound t)) e)
    where
      by : (is_among x (names_of declared.Lexical t) ≡ true) ⊎ (is_among x (names_of declared.Bound t) ≡ true) → Shown t
      by (inl g) = lexical_shown t d g
      by (inr g) = bound_shown t (f refl) g

  -- ---- in the order of evaluation

  abbrev pub firsts : List (List Moment) → List Pace
  firsts [] = []
  firsts (l ∷ ls) = first_of l ∷ firsts ls

  before_less : (ks ms : List Moment) (p q : Pace) → AtMost (first_of ks) p → AtMost (first_of ms) q → AtMost (first_of (ks ++ ms)) (followed p q)
  before_less ks ms p q a c = subst (λ r. AtMost r (followed p q)) (sym (first_both ks ms)) (both (first_of ks) p (first_of ms) q a c)

  pub moved : (ks ls ms : List Moment) → first_of ((ks ++ ls) ++ ms) ≡ first_of (ks ++ (ls ++ ms))
  moved ks ls ms =
      first_both (ks ++ ls) ms ∙ ap (λ p. followed p (first_of ms)) (first_both ks ls) ∙ grouped (first_of ks) (first_of ls) (first_of ms)
      ∙ ap (followed (first_of ks)) (sym (first_both ls ms)) ∙ sym (first_both ks (ls ++ ms))

  end_less : (e : Bool) → AtMost (ends_if e) Silent
  end_less true = tt
  end_less false = tt

  joined_less : (ls : List (List Moment)) (a : Around) (ys : List Name) (ps : List Pace) → AllAtMost (firsts ls) ps → AtMost (first_of (joined ls ++ ends_at a ys)) (all_followed ps)
  joined_less [] a ys [] z = subst (λ p. AtMost p Silent) (sym (ends_first a ys)) (end_less (is_among x ys))
  joined_less [] a ys (p ∷ ps) z = absurd z
  joined_less (l ∷ ls) a ys [] z = absurd z
  joined_less (l ∷ ls) a ys (p ∷ ps) z = subst (λ r. AtMost r (followed p (all_followed ps))) (sym (moved l (joined ls) (ends_at a ys))) (before_less l (joined ls ++ ends_at a ys) p (all_followed ps) z.0 (joined_less ls a ys ps z.1))

  pub joined_first : (ls : List (List Moment)) → first_of (joined ls) ≡ all_followed (firsts ls)
  joined_first [] = refl
  joined_first (l ∷ ls) = first_both l (joined ls) ∙ ap (followed (first_of l)) (joined_first ls)

  all_less_both : (ls : List (List Moment)) (ps : List Pace) → AllAtMost (firsts ls) ps → AtMost (all_followed (firsts ls)) (all_followed ps)
  all_less_both ls ps z = all_both (firsts ls) ps z

  heads_less : (ls : List (List Moment)) (a : Around) (ys : List Name) (ps : List Pace) → AllAtMost (firsts ls) ps → AtMost (first_of (in_order shape.ForInStatement ls (ends_at a ys))) (in_turn shape.ForInStatement ps)
  heads_less [] a ys [] z = joined_less [] a ys [] z
  heads_less [] a ys (p ∷ ps) z = absurd z
  heads_less (l ∷ ls) a ys [] z = absurd z
  heads_less (l ∷ []) a ys (p ∷ []) z = joined_less (l ∷ []) a ys (p ∷ []) z
  heads_less (l ∷ []) a ys (p ∷ (q ∷ ps)) z = absurd z.1
  heads_less (l ∷ (k ∷ ls)) a ys (p ∷ []) z = absurd z.1
  heads_less (l ∷ (k ∷ ls)) a ys (p ∷ (q ∷ ps)) z =
      subst (λ r. AtMost r (followed q (followed p (all_followed ps)))) (sym (moved (k ++ l) (joined ls) (ends_at a ys) ∙ moved k l (joined ls ++ ends_at a ys)))
      (before_less k (l ++ (joined ls ++ ends_at a ys)) q (followed p (all_followed ps)) z.1.0 (before_less l (joined ls ++ ends_at a ys) p (all_followed ps) z.0 (joined_less ls a ys ps z.1.1)))

  abbrev pub is_catch : Shape → Bool
  is_catch shape.CatchClause = true
  is_catch h = false

  turn_less : (h : Shape) → is_catch h ≡ false → (ls : List (List Moment)) (a : Around) (ys : List Name) (ps : List Pace) → AllAtMost (firsts ls) ps → AtMost (first_of (in_order h ls (ends_at a ys))) (in_turn h ps)
  turn_less shape.ForInStatement e ls a ys ps z = heads_less ls a ys ps z
  turn_less shape.ForOfStatement e ls a ys ps z = heads_less ls a ys ps z
  turn_less shape.CatchClause e ls a ys ps z = absurd (true≢false e)
  turn_less h e ls a ys ps z = joined_less ls a ys ps z

  -- in a node in which names are declared one after another, names are bound by declarators alone
  alone_below : (u : Use) (h : Shape) (o : Bool) (xs : List Name) (n : ℕ) (ts : Trees) → is_catch h ≡ false → ((hands_on h && o) || is_among x (listed_names u h ts)) ≡ true → (o ≡ true → is_listed_alone (node h xs n ts) ≡ true) → items_of h ts ≡ true → all_declare_alone ts ≡ true
  alone_below u shape.Listed true xs n ts k e f i = f refl
  alone_below u shape.Listed false xs n ts k e f i = absurd (true≢false (sym e))
  alone_below u shape.SwitchCase o xs n ts k e f i = i
  alone_below u (shape.VariableDeclaration v) o xs n ts k e f i = i
  alone_below u shape.ExportNamedDeclaration o xs n ts k e f i = i
  alone_below u shape.ExportDefaultDeclaration o xs n ts k e f i = i
  alone_below u (shape.Program m ds) o xs n ts k e f i = i
  alone_below u shape.FunctionBody o xs n ts k e f i = i
  alone_below u shape.StaticBlock o xs n ts k e f i = i
  alone_below u shape.BlockStatement o xs n ts k e f i = i
  alone_below u shape.ForStatement o xs n ts k e f i = i
  alone_below u shape.ForInStatement o xs n ts k e f i = i
  alone_below u shape.ForOfStatement o xs n ts k e f i = i
  alone_below u shape.SwitchStatement o xs n ts k e f i = i
  alone_below u shape.CatchClause o xs n ts k e f i = absurd (true≢false k)
  alone_below u h o xs n ts k e f i = absurd (true≢false (sym e))

  listed_alone : (t : Tree) → declares_alone t ≡ true → is_listed_alone t ≡ true
  unfolding declares_alone
  listed_alone (node shape.Listed xs n ts) d = d
  listed_alone (node h xs n ts) d = refl

  param_less : (e : Bool) (p r : Pace) → AtMost p r → AtMost (followed p (ends_if e)) (ends_after e r)
  param_less true Ends r a = tt
  param_less true Silent Ends a = absurd a
  param_less true Silent Silent a = tt
  param_less true Silent Reads a = tt
  param_less true Reads Ends a = absurd a
  param_less true Reads Silent a = absurd a
  param_less true Reads Reads a = tt
  param_less false Ends r a = tt
  param_less false Silent Ends a = absurd a
  param_less false Silent Silent a = tt
  param_less false Silent Reads a = tt
  param_less false Reads Ends a = absurd a
  param_less false Reads Silent a = absurd a
  param_less false Reads Reads a = tt

  absorbed : (e l : Bool) → (e && (l || e)) ≡ e
  absorbed true true = refl
  absorbed true false = refl
  absorbed false l = refl

  catch_less : (k : List Moment) (ls : List (List Moment)) (a : Around) (ys : List Name) (p : Pace) (ps : List Pace) → AtMost (followed (first_of k) (ends_if (is_among x ys))) p → AllAtMost (firsts ls) ps → AtMost (first_of ((k ++ ends_at a ys) ++ joined ls)) (followed p (all_followed ps))
  catch_less k ls a ys p ps m z =
      before_less (k ++ ends_at a ys) (joined ls) p (all_followed ps)
      (subst (λ r. AtMost r p) (sym (first_both k (ends_at a ys) ∙ ap (followed (first_of k)) (ends_first a ys))) m)
      (subst (λ r. AtMost r (all_followed ps)) (sym (joined_first ls)) (all_less_both ls ps z))

  mutual
    unfolding moments pace is_regular declares_alone names_of

    less : (c : Setting) (env : Environment) (t : Tree) → is_regular s t ≡ true → (c.ordered ≡ true → is_listed_alone t ≡ true) → AtMost (first_of (moments c.used c.around t)) (pace (early b s) c env t)
    less c env (node h xs n ts) d f =
        let own : (items_of h ts && imports_no s h ts) ≡ true = left (items_of h ts && imports_no s h ts) (all_regular s ts) d in
        let under = right (items_of h ts && imports_no s h ts) (all_regular s ts) d in
        before_less (reads_at (own_mentions c.used c.around h xs)) (in_order h (moments_from (use_of h c.used) (around_child h c.around n) 0 ts) (ends_at c.around (ended_by h ts)))
        ((early b s).before c env h xs n ts) (in_turn h (paces (early b s) (opened c.used h ts) (below ((early b s).orders c h ts) c h n) 0 env ts))
        (same (first_of (reads_at (own_mentions c.used c.around h xs))) ((early b s).before c env h xs n ts) (reads_first (own_mentions c.used c.around h xs)))
        (node_less (is_catch h) h refl c env xs n ts (left (items_of h ts) (imports_no s h ts) own) under f)

    node_less : (k : Bool) → (h : Shape) → is_catch h ≡ k → (c : Setting) (env : Environment) (xs : List Name) (n : ℕ) (ts : Trees) → items_of h ts ≡ true → all_regular s ts ≡ true → (c.ordered ≡ true → is_listed_alone (node h xs n ts) ≡ true)
        → AtMost (first_of (in_order h (moments_from (use_of h c.used) (around_child h c.around n) 0 ts) (ends_at c.around (ended_by h ts)))) (in_turn h (paces (early b s) (opened c.used h ts) (below ((early b s).orders c h ts) c h n) 0 env ts))
    node_less false h k c env xs n none i d f = turn_less h k [] c.around (ended_by h none) [] tt
    node_less false h k c env xs n (t ▸ ts) i d f =
        let o : Bool = (early b s).orders c h (t ▸ ts) in
        let cs = below o c h n in
        let sc = opened c.used h (t ▸ ts) in
        let regular = left (is_regular s t) (all_regular s ts) d in
        let all_alone : o ≡ true → all_declare_alone (t ▸ ts) ≡ true = λ e. alone_below c.used h c.ordered xs n (t ▸ ts) k e f i in
        let alone : o ≡ true → declares_alone t ≡ true = λ e. left (declares_alone t) (all_declare_alone ts) (all_alone e) in
        turn_less h k (moments_from (use_of h c.used) (around_child h c.around n) 0 (t ▸ ts)) c.around (ended_by h (t ▸ ts)) (paces (early b s) sc cs 0 env (t ▸ ts)) (
          closed ((early b s).ends (cs 0) t) (first_of (moments (cs 0).used (cs 0).around t)) (pace (early b s) (cs 0) (env ++ sc 0) t) (less (cs 0) (env ++ sc 0) t regular (λ e. listed_alone t (alone e))) (λ e. ends_shown o t regular alone e (cs 0).used (cs 0).around),
          each_less sc o c h n 1 (env ++ sc 0) ts (right (is_regular s t) (all_regular s ts) d) (λ e. right (declares_alone t) (all_declare_alone ts) (all_alone e)),
        )
    node_less true shape.CatchClause k c env xs n none i d f = joined_less [] c.around (first_names none) [] tt
    node_less true shape.CatchClause k c env xs n (t ▸ ts) i d f =
        let o : Bool = (early b s).orders c shape.CatchClause (t ▸ ts) in
        let cs = below o c shape.CatchClause n in
        let sc = opened c.used shape.CatchClause (t ▸ ts) in
        let rest : all_declare_alone ts ≡ true = right (is_listed_alone t) (all_declare_alone ts) i in
        catch_less (moments (cs 0).used (cs 0).around t) (moments_from (λ j. (cs j).used) (λ j. (cs j).around) 1 ts) c.around (first_names (t ▸ ts))
        (ends_after ((early b s).ends (cs 0) t) (pace (early b s) (cs 0) (env ++ sc 0) t)) (paces (early b s) sc cs 1 (env ++ sc 0) ts)
        (subst (λ e. AtMost (followed (first_of (moments (cs 0).used (cs 0).around t)) (ends_if o)) (ends_after e (pace (early b s) (cs 0) (env ++ sc 0) t))) (sym (absorbed o (is_among x (names_of declared.Lexical t))))
        (param_less o (first_of (moments (cs 0).used (cs 0).around t)) (pace (early b s) (cs 0) (env ++ sc 0) t) (less (cs 0) (env ++ sc 0) t (left (is_regular s t) (all_regular s ts) d) (λ e. left (is_listed_alone t) (all_declare_alone ts) i))))
        (each_less sc o c shape.CatchClause n 1 (env ++ sc 0) ts (right (is_regular s t) (all_regular s ts) d) (λ e. rest))
    node_less true h k c env xs n ts i d f = absurd (true≢false (sym k))

    each_less : (sc : ℕ → List Binding) (o : Bool) (c : Setting) (h : Shape) (n : ℕ) (i : ℕ) (env : Environment) (ts : Trees) → all_regular s ts ≡ true → (o ≡ true → all_declare_alone ts ≡ true) → AllAtMost (firsts (moments_from (use_of h c.used) (around_child h c.around n) i ts)) (paces (early b s) sc (below o c h n) i env ts)
    each_less sc o c h n i env none d f = tt
    each_less sc o c h n i env (t ▸ ts) d f =
        let cs = below o c h n in
        let regular = left (is_regular s t) (all_regular s ts) d in
        let alone : o ≡ true → declares_alone t ≡ true = λ e. left (declares_alone t) (all_declare_alone ts) (f e) in (
          closed ((early b s).ends (cs i) t) (first_of (moments (cs i).used (cs i).around t)) (pace (early b s) (cs i) (env ++ sc i) t) (less (cs i) (env ++ sc i) t regular (λ e. listed_alone t (alone e))) (λ e. ends_shown o t regular alone e (cs i).used (cs i).around),
          each_less sc o c h n (suc i) (env ++ sc i) ts (right (is_regular s t) (all_regular s ts) d) (λ e. right (declares_alone t) (all_declare_alone ts) (f e)),
        )

reads_through : (p r : Pace) → AtMost p r → is_reads p ≡ true → is_reads r ≡ true
reads_through Ends r a e = absurd (true≢false (sym e))
reads_through Silent r a e = absurd (true≢false (sym e))
reads_through Reads Ends a e = absurd a
reads_through Reads Silent a e = absurd a
reads_through Reads Reads a e = refl

pub early_by_scopes : EarlyByScopes
early_by_scopes t b s d e = reads_through (first_of b s (moments Read outermost t)) (pace (early b s) at_program [] t) (less b s at_program [] t d (λ f. absurd (true≢false (sym f)))) (read_early_first b s (moments Read outermost t) e)
