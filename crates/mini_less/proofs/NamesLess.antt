-- Rows that drop a name that nothing mentions ask less of each other symbol, and the scope of the
-- name goes, so that its symbol is declared less often.
use Rattle.std.specs.Prelude.{ℕ, suc, ◌+◌, ◌≤◌, ◌≡◌, refl, nat_eq, Bool, true, false, ◌&&◌, ◌||◌, List, [], ◌∷◌, ◌++◌, map, None, if◌then◌else◌}
use Rattle.std.specs.List.{list_any}
use Rattle.std.proofs.Common.{ap, ◌∙◌, inl, inr, arith, sym, subst, true≢false}
use Rattle.std.proofs.lemmas.Bool.{eq-eqb, eqb-true}
use Rattle.mini_model.specs.declared.name.Name.{Name}
use Rattle.mini_model.specs.declared.place.Position.{Position}
use Rattle.mini_model.specs.declared.place.Position.TheVariants.{Expr, Elsewhere}
use Rattle.mini_model.specs.declared.shape.Shape.{Shape}
use Rattle.mini_model.specs.declared.shape.Shape.TheVariants as shape
use Rattle.mini_model.specs.Tree.{Tree, Trees, node, none, ◌▸◌, absent}
use Rattle.mini_model.specs.Weight.{same_text}
use Rattle.mini_laws.specs.declared.names.Binding.{Binding}
use Rattle.mini_laws.specs.declared.names.Declared.TheVariants as declared
use Rattle.mini_laws.specs.declared.names.Use.{Use}
use Rattle.mini_laws.specs.DeclaredNames.{names_of, all_names, with_names}
use Rattle.mini_laws.specs.Foreign.{is_write, has_number, own_lexical, own_params_around, own_pattern_names, own_switched}
use Rattle.mini_laws.specs.Mentions.{is_among, is_elsewhere, same_variable}
use Rattle.mini_laws.specs.Resolved.{Environment, or_else, own_symbol, symbol_of, serves}
use Rattle.mini_laws.specs.ScopeList.{any_has_eval, by_symbol, has_eval, is_eval_callee, names_in}
use Rattle.mini_laws.specs.Scopes.{opened, scopes_by}
use Rattle.mini_laws.specs.Shared.{given_values, names_arguments, own_caught, own_pattern_writes, reached_params, spelled_among, write_at}
use Rattle.mini_laws.specs.Symbols.{declared as declared_in, is_same, times}
use Rattle.mini_laws.specs.Value.{Declared}
use Rattle.mini_laws.proofs.Lookups.{symbol_of_both}
use Rattle.mini_kept.specs.Loosely.{symbol}
use Rattle.mini_shrink.specs.Facts.{Fact, Written, WrittenElsewhere, Given, GivenElsewhere, GivenByPattern, MentionedElsewhere, BoundElsewhere, IsLexical, IsSwitched, InPattern, UnderCatch, ByArguments, ByEval, AmongParameters, ReadEarly, question}
use Rattle.mini_shrink.specs.Pace.{Pace, Ends, Silent, Reads, followed, ends_after, all_followed, in_turn, AtMost, Setting, below, Question, pace, paces, reads_if}
use Rattle.mini_shrink.specs.Questions.{seen_from}
use Rattle.mini_shrink.specs.Shrinking.{OrGone}
use Rattle.mini_shrink.proofs.Owns.{implied, or_implied}
use Rattle.mini_shrink.proofs.Paces.{both, itself, same}
use Rattle.mini_rows.specs.Catches.{CatchRow, CatchContracts}
use Rattle.mini_rows.specs.Declarations.{binding}
use Rattle.mini_rows.specs.Names.{Nameable, AFunction, AClass, shape_by, inside_of, NameRow, NameContracts}
use Rattle.mini_rows.specs.Switches.{Switches}
use Rattle.mini_rows.specs.Unused.{any_names, resolved}
use Rattle.mini_less.specs.Families.{LessAt}
use Rattle.mini_less.specs.Names.{NamesReadLess, CatchesReadLess}
use Rattle.mini_less.proofs.Beside.{Beside, facts_beside}
use Rattle.mini_less.proofs.Calm.{each_quiets, no_mention}
use Rattle.mini_less.proofs.LessRows.{reads_less_by}
use Rattle.mini_less.proofs.Shown.{shows_all}

-- what has the name: a handler over its body, or a function or a class expression with a number
data Bearer : Type 0 where
  a_handler : Tree → Bearer
  an_expression : Nameable → ℕ → Bearer

abbrev bearer_shape : Bearer → Shape
bearer_shape (a_handler b) = shape.CatchClause
bearer_shape (an_expression e n) = shape_by e

abbrev inside : Bearer → Trees
inside (a_handler b) = b ▸ none
inside (an_expression e n) = inside_of e

abbrev number_in : Bearer → ℕ
number_in (a_handler b) = 0
number_in (an_expression e n) = n

abbrev bearing : Bearer → Tree → Tree
bearing m t = node (bearer_shape m) [] (number_in m) (t ▸ inside m)

off_less : (a b : Bool) → a ≡ false → AtMost (reads_if a) (reads_if b)
off_less true b e = absurd (true≢false e)
off_less false true e = tt
off_less false false e = tt

none_among : (s : ℕ) (xs ys : List Name) → xs ≡ [] → AtMost (reads_if (is_among (by_symbol s) xs)) (reads_if (is_among (by_symbol s) ys))
none_among s xs ys e = off_less (is_among (by_symbol s) xs) (is_among (by_symbol s) ys) (ap (is_among (by_symbol s)) e)

spelled_none : (ys : List Name) → spelled_among [] ys ≡ []
spelled_none [] = refl
spelled_none (y ∷ ys) = spelled_none ys

module _ (sp : List ℕ) (k : ℕ) where
  abbrev x : Name
  x = resolved sp k

  abbrev bind : Binding
  bind = record { name = x; hoists = false }

  -- ---- the scope that goes

  one_scope : (m : Bearer) (u : Use) → opened u (bearer_shape m) (binding x ▸ inside m) 0 ≡ bind ∷ []
  unfolding scopes_by names_of with_names
  one_scope (a_handler b) u = refl
  one_scope (an_expression (AFunction g ds ps b) n) u = refl
  one_scope (an_expression (AClass c b) n) u = refl

  no_scope : (m : Bearer) (u : Use) → opened u (bearer_shape m) (absent ▸ inside m) 0 ≡ []
  unfolding scopes_by names_of with_names
  no_scope (a_handler b) u = refl
  no_scope (an_expression (AFunction g ds ps b) n) u = refl
  no_scope (an_expression (AClass c b) n) u = refl

  later_scopes : (m : Bearer) (u : Use) (i : ℕ) → opened u (bearer_shape m) (binding x ▸ inside m) (suc i) ≡ opened u (bearer_shape m) (absent ▸ inside m) (suc i)
  unfolding scopes_by names_of with_names
  later_scopes (a_handler b) u i = refl
  later_scopes (an_expression (AFunction g ds ps b) n) u i = refl
  later_scopes (an_expression (AClass c b) n) u i = refl

  turn : (m : Bearer) (ps : List Pace) → in_turn (bearer_shape m) ps ≡ all_followed ps
  turn (a_handler b) ps = refl
  turn (an_expression (AFunction g ds p b) n) ps = refl
  turn (an_expression (AClass c b) n) ps = refl

  one_more : (m : Bearer) (v : Use) → declared_in v (bearing m (binding x)) ≡ x.symbol ∷ declared_in v (bearing m absent)
  unfolding declared_in scopes_by names_of with_names
  one_more (a_handler b) v = refl
  one_more (an_expression (AFunction g ds ps b) n) v = refl
  one_more (an_expression (AClass c b) n) v = refl

  one_less : (m : Bearer) (v : Use) → times (symbol k) (declared_in v (bearing m absent)) + 1 ≤ times (symbol k) (declared_in v (bearing m (binding x)))
  one_less m v =
      let h = ap (times (symbol k)) (one_more m v) in
      let own : is_same (symbol k) x.symbol ≡ true = eq-eqb k k refl in
      let f = ap (λ b. (if b then 1 else 0) + times (symbol k) (declared_in v (bearing m absent))) own in
      omega (arith, h, f)

  -- another name is found as before
  unfound : (u : Use) (s : List ℕ) → same_text sp s ≡ false → own_symbol u s bind ≡ None
  unfound u s e = ap (λ b. if b then x.symbol else None) (ap (λ b. serves u bind && b) e ∙ off (serves u bind))
    where
      off : (b : Bool) → (b && false) ≡ false
      off true = refl
      off false = refl

  beside : (m : Bearer) (v : Use) (env : Environment) → Beside x (env ++ opened v (bearer_shape m) (binding x ▸ inside m) 0) (env ++ opened v (bearer_shape m) (absent ▸ inside m) 0)
  beside m v env u s e =
      ap (λ bs. symbol_of u s (env ++ bs)) (one_scope m v) ∙ symbol_of_both u s env (bind ∷ []) ∙ ap (λ o. or_else o (symbol_of u s env)) (unfound u s e)
      ∙ sym (ap (λ bs. symbol_of u s (env ++ bs)) (no_scope m v) ∙ symbol_of_both u s env [])

  -- ---- what the node tells of another symbol

  no_gives : (m : Bearer) (u : Use) (t : Tree) → given_values u (bearer_shape m) [] (t ▸ inside m) ≡ []
  no_gives (a_handler b) u t = refl
  no_gives (an_expression (AFunction g ds ps b) n) u t = refl
  no_gives (an_expression (AClass c b) n) u t = refl

  no_writes : (m : Bearer) (u : Use) (env : Environment) (t : Tree) → own_pattern_writes u env (bearer_shape m) (t ▸ inside m) ≡ []
  no_writes (a_handler b) u env t = refl
  no_writes (an_expression (AFunction g ds ps b) n) u env t = refl
  no_writes (an_expression (AClass c b) n) u env t = refl

  no_lexical : (m : Bearer) (b : Bool) → own_lexical b (bearer_shape m) (absent ▸ inside m) ≡ []
  unfolding names_of
  no_lexical (a_handler b) true = refl
  no_lexical (a_handler b) false = refl
  no_lexical (an_expression (AFunction g ds ps b) n) true = refl
  no_lexical (an_expression (AFunction g ds ps b) n) false = refl
  no_lexical (an_expression (AClass c b) n) true = refl
  no_lexical (an_expression (AClass c b) n) false = refl

  no_switched : (m : Bearer) (t : Tree) → own_switched (bearer_shape m) (t ▸ inside m) ≡ []
  no_switched (a_handler b) t = refl
  no_switched (an_expression (AFunction g ds ps b) n) t = refl
  no_switched (an_expression (AClass c b) n) t = refl

  no_pattern : (m : Bearer) (n : ℕ) (t : Tree) → own_pattern_names (bearer_shape m) n (t ▸ inside m) ≡ []
  no_pattern (a_handler b) n t = refl
  no_pattern (an_expression (AFunction g ds ps b) r) n t = refl
  no_pattern (an_expression (AClass c b) r) n t = refl

  no_caught : (m : Bearer) → own_caught (bearer_shape m) (absent ▸ inside m) ≡ []
  unfolding names_of
  no_caught (a_handler b) = spelled_none (all_names declared.Hoisted (b ▸ none))
  no_caught (an_expression (AFunction g ds ps b) n) = refl
  no_caught (an_expression (AClass c b) n) = refl

  same_reached : (m : Bearer) (b : Bool) → reached_params b (bearer_shape m) (absent ▸ inside m) ≡ reached_params b (bearer_shape m) (binding x ▸ inside m)
  same_reached (a_handler d) b = refl
  same_reached (an_expression (AFunction g ds ps d) n) b = refl
  same_reached (an_expression (AClass c d) n) b = refl

  same_params : (m : Bearer) (b : ℕ) → own_params_around b (bearer_shape m) (absent ▸ inside m) ≡ own_params_around b (bearer_shape m) (binding x ▸ inside m)
  same_params (a_handler d) b = refl
  same_params (an_expression (AFunction g ds ps d) n) b = refl
  same_params (an_expression (AClass c d) n) b = refl

  seen_later : (y : Name) (sc sc' : ℕ → List Binding) → ((j : ℕ) → sc (suc j) ≡ sc' (suc j)) → (i : ℕ) (ts : Trees) → seen_from sc (suc i) ts y ≡ seen_from sc' (suc i) ts y
  seen_later y sc sc' z i none = refl
  seen_later y sc sc' z i (t ▸ ts) = λ j. (any_has_eval (t ▸ ts) && is_among y (names_in (z i j))) || seen_later y sc sc' z (suc i) ts j

  seen_less : (m : Bearer) (v : Use) (s : ℕ) → seen_from (opened v (bearer_shape m) (absent ▸ inside m)) 0 (absent ▸ inside m) (by_symbol s) ≡ true → seen_from (opened v (bearer_shape m) (binding x ▸ inside m)) 0 (binding x ▸ inside m) (by_symbol s) ≡ true
  seen_less m v s e =
      let there = opened v (bearer_shape m) (binding x ▸ inside m) in
      let put = opened v (bearer_shape m) (absent ▸ inside m) in
      or_implied (any_has_eval (absent ▸ inside m) && is_among (by_symbol s) (names_in (put 0))) (seen_from put 1 (inside m) (by_symbol s)) (any_has_eval (binding x ▸ inside m) && is_among (by_symbol s) (names_in (there 0))) (seen_from there 1 (inside m) (by_symbol s))
      (λ f. absurd (true≢false (sym f ∙ ap (λ bs. any_has_eval (absent ▸ inside m) && is_among (by_symbol s) (names_in bs)) (no_scope m v) ∙ off (any_has_eval (absent ▸ inside m)))))
      (λ f. seen_later (by_symbol s) there put (later_scopes m v) 0 (inside m) ∙ f) e
    where
      off : (b : Bool) → (b && false) ≡ false
      off true = refl
      off false = refl

  before_less : (g : Fact) (b s : ℕ) (m : Bearer) (c : Setting) (env : Environment) → AtMost ((question g b s).before c env (bearer_shape m) [] (number_in m) (absent ▸ inside m)) ((question g b s).before c env (bearer_shape m) [] (number_in m) (binding x ▸ inside m))
  before_less Written b s m c env = off_less _ _ (no_mention (is_write (by_symbol s)) c (bearer_shape m))
  before_less WrittenElsewhere b s m c env = off_less _ _ (no_mention (λ y. is_write (by_symbol s) y && is_elsewhere b y.around) c (bearer_shape m))
  before_less Given b s m c env = off_less _ _ (λ j. no_mention (is_write (by_symbol s)) c (bearer_shape m) j || list_any (is_write (by_symbol s)) (map (write_at c.around) (no_gives m c.used absent j)))
  before_less GivenElsewhere b s m c env = off_less _ _ (λ j. no_mention (λ y. is_write (by_symbol s) y && is_elsewhere b y.around) c (bearer_shape m) j || list_any (λ y. is_write (by_symbol s) y && is_elsewhere b y.around) (map (write_at c.around) (no_gives m c.used absent j)))
  before_less GivenByPattern b s m c env = none_among s (own_pattern_writes c.used env (bearer_shape m) (absent ▸ inside m)) (own_pattern_writes c.used env (bearer_shape m) (binding x ▸ inside m)) (no_writes m c.used env absent)
  before_less MentionedElsewhere b s m c env = off_less _ _ (no_mention (λ y. same_variable (by_symbol s) y.name && is_elsewhere b y.around) c (bearer_shape m))
  before_less BoundElsewhere b s m c env = off_less _ _ (no_mention (λ y. same_variable (by_symbol s) y.name && y.binds && is_elsewhere b y.around) c (bearer_shape m))
  before_less IsLexical b s m c env = none_among s (own_lexical c.is_body (bearer_shape m) (absent ▸ inside m)) (own_lexical c.is_body (bearer_shape m) (binding x ▸ inside m)) (no_lexical m c.is_body)
  before_less IsSwitched b s m c env = none_among s (own_switched (bearer_shape m) (absent ▸ inside m)) (own_switched (bearer_shape m) (binding x ▸ inside m)) (no_switched m absent)
  before_less InPattern b s m c env = none_among s (own_pattern_names (bearer_shape m) (number_in m) (absent ▸ inside m)) (own_pattern_names (bearer_shape m) (number_in m) (binding x ▸ inside m)) (no_pattern m (number_in m) absent)
  before_less UnderCatch b s m c env = none_among s (own_caught (bearer_shape m) (absent ▸ inside m)) (own_caught (bearer_shape m) (binding x ▸ inside m)) (no_caught m)
  before_less ByArguments b s m c env = same _ _ (ap (λ xs. reads_if (is_among (by_symbol s) xs)) (same_reached m _))
  before_less ByEval b s m c env = implied _ _ (seen_less m c.used s)
  before_less AmongParameters b s m c env = same _ _ (ap (λ xs. reads_if (is_among (by_symbol s) xs)) (same_params m b))
  before_less ReadEarly b s m c env = off_less _ _ (no_mention _ c (bearer_shape m))

  -- another symbol's declarations don't end there
  unordered : (g : Fact) (b s : ℕ) (m : Bearer) (c : Setting) → nat_eq s k ≡ false → (question g b s).orders c (bearer_shape m) (binding x ▸ inside m) ≡ false
  unfolding names_of
  unordered ReadEarly b s (a_handler d) c e = ap (λ z. z || false) e
  unordered ReadEarly b s (an_expression (AFunction g ds ps d) n) c e = refl
  unordered ReadEarly b s (an_expression (AClass f d) n) c e = refl
  unordered Written b s m c e = refl
  unordered WrittenElsewhere b s m c e = refl
  unordered Given b s m c e = refl
  unordered GivenElsewhere b s m c e = refl
  unordered GivenByPattern b s m c e = refl
  unordered MentionedElsewhere b s m c e = refl
  unordered BoundElsewhere b s m c e = refl
  unordered IsLexical b s m c e = refl
  unordered IsSwitched b s m c e = refl
  unordered InPattern b s m c e = refl
  unordered UnderCatch b s m c e = refl
  unordered ByArguments b s m c e = refl
  unordered ByEval b s m c e = refl
  unordered AmongParameters b s m c e = refl

  unordered_then : (g : Fact) (b s : ℕ) (m : Bearer) (c : Setting) → (question g b s).orders c (bearer_shape m) (absent ▸ inside m) ≡ false
  unfolding names_of
  unordered_then ReadEarly b s (a_handler d) c = refl
  unordered_then ReadEarly b s (an_expression (AFunction g ds ps d) n) c = refl
  unordered_then ReadEarly b s (an_expression (AClass f d) n) c = refl
  unordered_then Written b s m c = refl
  unordered_then WrittenElsewhere b s m c = refl
  unordered_then Given b s m c = refl
  unordered_then GivenElsewhere b s m c = refl
  unordered_then GivenByPattern b s m c = refl
  unordered_then MentionedElsewhere b s m c = refl
  unordered_then BoundElsewhere b s m c = refl
  unordered_then IsLexical b s m c = refl
  unordered_then IsSwitched b s m c = refl
  unordered_then InPattern b s m c = refl
  unordered_then UnderCatch b s m c = refl
  unordered_then ByArguments b s m c = refl
  unordered_then ByEval b s m c = refl
  unordered_then AmongParameters b s m c = refl

  later_paces : (q : Question) (sc sc' : ℕ → List Binding) → ((j : ℕ) → sc (suc j) ≡ sc' (suc j)) → (cs : ℕ → Setting) (i : ℕ) (env : Environment) (ts : Trees) → paces q sc cs (suc i) env ts ≡ paces q sc' cs (suc i) env ts
  unfolding pace
  later_paces q sc sc' z cs i env none = refl
  later_paces q sc sc' z cs i env (t ▸ ts) = (λ j. ends_after (q.ends (cs (suc i)) t) (pace q (cs (suc i)) (env ++ z i j) t) ∷ paces q sc cs (suc (suc i)) (env ++ z i j) ts) ∙ ap (λ ps. ends_after (q.ends (cs (suc i)) t) (pace q (cs (suc i)) (env ++ sc' (suc i)) t) ∷ ps) (later_paces q sc sc' z cs (suc i) (env ++ sc' (suc i)) ts)

  -- what stands first ends nothing
  silent_first : (p : Pace) → AtMost Silent (ends_after false p)
  silent_first Ends = tt
  silent_first Silent = tt
  silent_first Reads = tt

  absent_silent : (g : Fact) (b s : ℕ) (c : Setting) (env : Environment) → ends_after false (pace (question g b s) c env absent) ≡ Silent
  unfolding pace scopes_by
  absent_silent ByEval b s c env = refl
  absent_silent IsLexical b s c env = by c.is_body
    where
      by : (d : Bool) → ends_after false (followed (reads_if (is_among (by_symbol s) (own_lexical d shape.Absent none))) Silent) ≡ Silent
      by true = refl
      by false = refl
  absent_silent Written b s c env = refl
  absent_silent WrittenElsewhere b s c env = refl
  absent_silent Given b s c env = refl
  absent_silent GivenElsewhere b s c env = refl
  absent_silent GivenByPattern b s c env = refl
  absent_silent MentionedElsewhere b s c env = refl
  absent_silent BoundElsewhere b s c env = refl
  absent_silent IsSwitched b s c env = refl
  absent_silent InPattern b s c env = refl
  absent_silent UnderCatch b s c env = refl
  absent_silent ByArguments b s c env = refl
  absent_silent AmongParameters b s c env = refl
  absent_silent ReadEarly b s c env = refl

  module _ (g : Fact) (b s : ℕ) (m : Bearer) (unmentioned : any_names x (inside m) ≡ false) (c : Setting) (env : Environment) (other : nat_eq s k ≡ false) where
    abbrev q : Question
    q = question g b s

    abbrev cs : ℕ → Setting
    cs = below false c (bearer_shape m) (number_in m)

    abbrev there : ℕ → List Binding
    there = opened c.used (bearer_shape m) (binding x ▸ inside m)

    abbrev put : ℕ → List Binding
    put = opened c.used (bearer_shape m) (absent ▸ inside m)

    was : pace q c env (bearing m (binding x)) ≡ followed (q.before c env (bearer_shape m) [] (number_in m) (binding x ▸ inside m)) (followed (ends_after false (pace q (cs 0) (env ++ there 0) (binding x))) (all_followed (paces q there cs 1 (env ++ there 0) (inside m))))
    unfolding pace
    was =
        let ts = binding x ▸ inside m in
        (λ j. followed (q.before c env (bearer_shape m) [] (number_in m) ts) (in_turn (bearer_shape m) (paces q there (below (unordered g b s m c other j) c (bearer_shape m) (number_in m)) 0 env ts)))
        ∙ ap (followed (q.before c env (bearer_shape m) [] (number_in m) ts)) (turn m (paces q there cs 0 env ts))
        ∙ ap (λ o. followed (q.before c env (bearer_shape m) [] (number_in m) ts) (followed (ends_after o (pace q (cs 0) (env ++ there 0) (binding x))) (all_followed (paces q there cs 1 (env ++ there 0) (inside m))))) ((each_quiets g b s).unended (cs 0) (binding x) refl)

    is : pace q c env (bearing m absent) ≡ followed (q.before c env (bearer_shape m) [] (number_in m) (absent ▸ inside m)) (followed (ends_after false (pace q (cs 0) (env ++ put 0) absent)) (all_followed (paces q put cs 1 (env ++ put 0) (inside m))))
    unfolding pace
    is =
        let ts = absent ▸ inside m in
        (λ j. followed (q.before c env (bearer_shape m) [] (number_in m) ts) (in_turn (bearer_shape m) (paces q put (below (unordered_then g b s m c j) c (bearer_shape m) (number_in m)) 0 env ts)))
        ∙ ap (followed (q.before c env (bearer_shape m) [] (number_in m) ts)) (turn m (paces q put cs 0 env ts))
        ∙ ap (λ o. followed (q.before c env (bearer_shape m) [] (number_in m) ts) (followed (ends_after o (pace q (cs 0) (env ++ put 0) absent)) (all_followed (paces q put cs 1 (env ++ put 0) (inside m))))) ((each_quiets g b s).unended (cs 0) absent refl)

    rest : paces q there cs 1 (env ++ there 0) (inside m) ≡ paces q put cs 1 (env ++ put 0) (inside m)
    rest = later_paces q there put (later_scopes m c.used) cs 0 (env ++ there 0) (inside m) ∙ facts_beside x g b s put cs 1 (env ++ there 0) (env ++ put 0) (beside m c.used env) (inside m) unmentioned

    bearer_less : AtMost (pace q c env (bearing m absent)) (pace q c env (bearing m (binding x)))
    bearer_less =
        let first = ends_after false (pace q (cs 0) (env ++ there 0) (binding x)) in
        let last = all_followed (paces q put cs 1 (env ++ put 0) (inside m)) in
        let old = q.before c env (bearer_shape m) [] (number_in m) (binding x ▸ inside m) in
        let new = q.before c env (bearer_shape m) [] (number_in m) (absent ▸ inside m) in
        subst (λ p. AtMost p (pace q c env (bearing m (binding x)))) (sym (is ∙ ap (λ p. followed new (followed p last)) (absent_silent g b s (cs 0) (env ++ put 0))))
        (subst (AtMost (followed new (followed Silent last))) (sym (was ∙ ap (λ ps. followed old (followed first (all_followed ps))) rest))
        (both new old (followed Silent last) (followed first last) (before_less g b s m c env) (both Silent first last last (silent_first (pace q (cs 0) (env ++ there 0) (binding x))) (itself last))))

  bearer_gone : (g : Fact) (b s : ℕ) (m : Bearer) → any_names x (inside m) ≡ false → (c : Setting) (env : Environment) → OrGone (question g b s) (Declared s) c env (bearing m (binding x)) (bearing m absent)
  bearer_gone g b s m u c env = by (nat_eq s k) refl
    where
      by : (o : Bool) → nat_eq s k ≡ o → OrGone (question g b s) (Declared s) c env (bearing m (binding x)) (bearing m absent)
      by true e = inr (record { declared = symbol k; either = inl (ap symbol (sym (eqb-true s k e))); less = one_less m c.used })
      by false e = inl (bearer_less g b s m u c env e)

  -- ---- what else it tells

  same_eval : (m : Bearer) → has_eval (bearing m absent) ≡ has_eval (bearing m (binding x))
  unfolding has_eval
  same_eval (a_handler d) = refl
  same_eval (an_expression (AFunction g ds ps d) n) = refl
  same_eval (an_expression (AClass f d) n) = refl

  fewer_names : (m : Bearer) → names_arguments (bearing m absent) ≡ true → names_arguments (bearing m (binding x)) ≡ true
  unfolding names_arguments
  fewer_names (a_handler d) e = or_implied false ((true && names_arguments d) || false) (names_arguments (binding x)) ((true && names_arguments d) || false) (λ i. absurd (true≢false (sym i))) (λ i. i) e
  fewer_names (an_expression (AFunction g ds ps d) n) e = e
  fewer_names (an_expression (AClass f d) n) e = or_implied false (names_arguments f || (names_arguments d || (names_arguments absent || false))) (names_arguments (binding x)) (names_arguments f || (names_arguments d || (names_arguments absent || false))) (λ i. absurd (true≢false (sym i))) (λ i. i) e

  same_numbers : (m : Bearer) (b : ℕ) → has_number b (bearing m absent) ≡ has_number b (bearing m (binding x))
  unfolding has_number
  same_numbers m b = refl

  no_callee : (m : Bearer) → is_eval_callee (bearing m absent) ≡ false
  no_callee (a_handler d) = refl
  no_callee (an_expression (AFunction g ds ps d) n) = refl
  no_callee (an_expression (AClass f d) n) = refl

  dropped_less : (p : Position) (n w : Tree) (m : Bearer) → any_names x (inside m) ≡ false → n ≡ bearing m (binding x) → w ≡ bearing m absent → LessAt p n w
  dropped_less p n w m u e f = record {
    asks = shows_all _ _ _ (λ g b s. record {
      by = λ strict slot o fit c env st sc. subst (λ t. OrGone (question g b s) (Declared s) c env t w) (sym e) (subst (OrGone (question g b s) (Declared s) c env (bearing m (binding x))) (sym f) (bearer_gone g b s m u c env));
    });
    fewer = λ strict slot o fit. record {
      eval = λ i. ap has_eval e ∙ sym (same_eval m) ∙ sym (ap has_eval f) ∙ i;
      flags = record {
        arguments = λ i. ap names_arguments e ∙ fewer_names m (sym (ap names_arguments f) ∙ i);
        number = λ b i. ap (has_number b) e ∙ sym (same_numbers m b) ∙ sym (ap (has_number b) f) ∙ i;
      };
      callee = λ i g. absurd (true≢false (sym g ∙ ap is_eval_callee f ∙ no_callee m));
    };
  }

name_less : (o : Switches) (p : Position) (n w : Tree) → NameRow o p n w → LessAt p n w
name_less o (Expr q) n w r = dropped_less r.spelling r.symbol (Expr q) n w (an_expression r.what r.number) r.unmentioned r.shape r.written
name_less o p n w r = absurd r

catch_less : (p : Position) (n w : Tree) → CatchRow p n w → LessAt p n w
catch_less Elsewhere n w r = dropped_less r.spelling r.symbol Elsewhere n w (a_handler r.body) (ap (λ b. b || false) r.unmentioned) r.shape r.written
catch_less p n w r = absurd r

pub names_read_less : NamesReadLess
names_read_less o = reads_less_by (NameContracts o) (λ p n w c. name_less o p n w c.row)

pub catches_read_less : CatchesReadLess
catches_read_less = reads_less_by CatchContracts (λ p n w c. catch_less p n w c.row)
