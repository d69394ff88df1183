-- Any number of steps in a program.
use Rattle.std.specs.Prelude.{ℕ, ◌+◌, ◌≤◌, ◌≡◌, ◌⊎◌, refl, Bool, true, false, ◌&&◌, ◌||◌, [], Option, None, if◌then◌else◌}
use Rattle.std.proofs.Common.{ap, ◌∙◌, sym, subst, inl, inr, arith, true≢false}
use Rattle.std.proofs.lemmas.Bool.{eq-eqb, eqb-true}
use Rattle.mini_model.specs.declared.name.SymbolId.{SymbolId}
use Rattle.mini_model.specs.declared.place.Position.{Position}
use Rattle.mini_model.specs.declared.place.Position.TheVariants.{Elsewhere}
use Rattle.mini_model.specs.declared.shape.Shape.{Shape}
use Rattle.mini_model.specs.declared.shape.Shape.TheVariants as shape
use Rattle.mini_model.specs.Tree.{Tree, Trees, none, ◌▸◌, shape_of, count}
use Rattle.mini_model.specs.Position.{child_position}
use Rattle.mini_model.specs.Rewriting.{Step, Reaches, done, more}
use Rattle.mini_accept.specs.WellShaped.{one, a_program, IsWellShaped}
use Rattle.mini_model.specs.declared.kind.VariableDeclarationKind.TheVariants.{Var, Let, Const}
use Rattle.mini_laws.specs.Scopes.{is_alone}
use Rattle.mini_laws.specs.declared.names.Use.{Use}
use Rattle.mini_laws.specs.declared.names.Use.TheVariants.{Read}
use Rattle.mini_laws.specs.DeclaredNames.{is_inner}
use Rattle.mini_laws.specs.Scoped.{Scoped}
use Rattle.mini_laws.specs.Symbols.{declared_symbols, times, most, Distinct, Within}
use Rattle.mini_laws.specs.ScopeList.{by_symbol}
use Rattle.mini_laws.specs.Mentions.{same_variable, is_elsewhere, is_among}
use Rattle.mini_laws.specs.Foreign.{is_write}
use Rattle.mini_laws.specs.Value.{Declared}
use Rattle.mini_kept.specs.KeepsShapes.{KeepsShapes}
use Rattle.mini_kept.specs.Lifted.{KeepsNames}
use Rattle.mini_kept.specs.Loosely.{symbol, LessOften, undeclared}
use Rattle.mini_kept.proofs.Initializers.{init_stays}
use Rattle.mini_kept.proofs.LooseScopes.{AllKeep}
use Rattle.mini_kept.proofs.Using.{also}
use Rattle.mini_kept.proofs.Whole.{any_reaches_keep}
use Rattle.mini_shrink.specs.Pace.{AtMost, pace}
use Rattle.mini_shrink.specs.Questions.{at_program, lexical_at, switched_at, pattern_at, caught_at, arguments_at, params_at, hands_on, listed_names, early}
use Rattle.mini_shrink.specs.Shrinking.{LooksUp, OwnShrinks, LessAround}
use Rattle.mini_shrink.specs.Facts.{Fact, Written, WrittenElsewhere, Given, GivenElsewhere, MentionedElsewhere, BoundElsewhere, IsLexical, IsSwitched, InPattern, GivenByPattern, UnderCatch, ByArguments, ByEval, AmongParameters, ReadEarly, question, ReadsLess, ReadsLessShrinks}
use Rattle.mini_shrink.proofs.Fitting.{Fitting, AsksFewerThere, fewer_there, names_there, shapes_there, step_there}
use Rattle.mini_shrink.proofs.Paces.{itself, through}
use Rattle.mini_shrink.proofs.Lifting.{step_less}
use Rattle.mini_shrink.proofs.Owns.{lexical_shrinks, pattern_shrinks, switched_shrinks, caught_shrinks, mentions_shrink, params_shrink}
use Rattle.mini_shrink.proofs.Deeper.{names_look_up, mentions_look_up, seen_looks_up, sets_look_up, pattern_gives_looks_up, seen_shrinks, arguments_shrink, sets_shrink, pattern_gives_shrink}

-- ---- the order of reads and declarations

listed_same : (v : Use) (h : Shape) (π : ℕ → Position) (ts us : Trees) → AllKeep π 0 ts us → listed_names v h us ≡ listed_names v h ts
listed_same v (shape.Program m ds) π none none k = refl
listed_same v h π none (u ▸ us) k = absurd k
listed_same v h π (t ▸ ts) none k = absurd k
listed_same v (shape.Program m ds) π (t ▸ ts) (u ▸ us) k = k.0.lexical
listed_same v shape.FunctionBody π (t ▸ ts) (u ▸ us) k = k.0.lexical
listed_same v shape.StaticBlock π (t ▸ ts) (u ▸ us) k = k.0.lexical
listed_same v shape.BlockStatement π (t ▸ ts) (u ▸ us) k = k.0.lexical
listed_same v shape.ForStatement π (t ▸ ts) (u ▸ us) k = k.0.lexical
listed_same v shape.ForInStatement π (t ▸ ts) (u ▸ us) k = k.0.lexical
listed_same v shape.ForOfStatement π (t ▸ ts) (u ▸ us) k = k.0.lexical
listed_same v shape.SwitchStatement π (a ▸ none) (b ▸ none) k = refl
listed_same v shape.SwitchStatement π (a ▸ none) (b ▸ (u ▸ us)) k = absurd k.1
listed_same v shape.SwitchStatement π (a ▸ (t ▸ ts)) (b ▸ none) k = absurd k.1
listed_same v shape.SwitchStatement π (a ▸ (t ▸ ts)) (b ▸ (u ▸ us)) k = k.1.0.lexical
listed_same v shape.CatchClause π (t ▸ ts) (u ▸ us) k = k.0.bound
listed_same v (shape.VariableDeclaration Var) π (t ▸ ts) (u ▸ us) k = refl
listed_same v (shape.VariableDeclaration Let) π (t ▸ ts) (u ▸ us) k = ap (λ ys. if is_alone v then ys else []) k.0.bound
listed_same v (shape.VariableDeclaration Const) π (t ▸ ts) (u ▸ us) k = ap (λ ys. if is_alone v then ys else []) k.0.bound
listed_same v h π ts us k = refl

pub looks_up : (f : Fact) (b s : ℕ) → LooksUp (question f b s)
looks_up Written b s = mentions_look_up (is_write (by_symbol s))
looks_up WrittenElsewhere b s = mentions_look_up (λ m. is_write (by_symbol s) m && is_elsewhere b m.around)
looks_up Given b s = sets_look_up (is_write (by_symbol s))
looks_up GivenElsewhere b s = sets_look_up (λ m. is_write (by_symbol s) m && is_elsewhere b m.around)
looks_up MentionedElsewhere b s = mentions_look_up (λ m. same_variable (by_symbol s) m.name && is_elsewhere b m.around)
looks_up BoundElsewhere b s = mentions_look_up (λ m. same_variable (by_symbol s) m.name && m.binds && is_elsewhere b m.around)
looks_up IsLexical b s = names_look_up lexical_at s
looks_up IsSwitched b s = names_look_up switched_at s
looks_up InPattern b s = names_look_up pattern_at s
looks_up GivenByPattern b s = pattern_gives_looks_up s
looks_up UnderCatch b s = names_look_up caught_at s
looks_up ByArguments b s = names_look_up arguments_at s
looks_up ByEval b s = seen_looks_up s
looks_up AmongParameters b s = names_look_up (params_at b) s
looks_up ReadEarly b s = record { before = λ c env env' f h xs n ts. refl }

module _ (R : Position → Tree → Tree → Type 0) where
  early_shrinks : (b s : ℕ) → OwnShrinks R (early b s)
  early_shrinks b s = record {
    before = λ p c env h xs n ts us z. itself _;
    orders = λ p c h ts us z. ap (λ ys. (hands_on h && c.ordered) || is_among (by_symbol s) ys) (listed_same c.used h (child_position h p (count ts)) ts us z.kept);
    ends = λ c t u z. λ j. c.ordered && (is_among (by_symbol s) (z.lexical j) || is_among (by_symbol s) (z.bound j));
  }

  pub own_shrinks : KeepsShapes R → AsksFewerThere R → (f : Fact) (b s : ℕ) → OwnShrinks R (question f b s)
  own_shrinks k a Written b s = mentions_shrink R (is_write (by_symbol s))
  own_shrinks k a WrittenElsewhere b s = mentions_shrink R (λ m. is_write (by_symbol s) m && is_elsewhere b m.around)
  own_shrinks k a Given b s = sets_shrink R k (is_write (by_symbol s))
  own_shrinks k a GivenElsewhere b s = sets_shrink R k (λ m. is_write (by_symbol s) m && is_elsewhere b m.around)
  own_shrinks k a MentionedElsewhere b s = mentions_shrink R (λ m. same_variable (by_symbol s) m.name && is_elsewhere b m.around)
  own_shrinks k a BoundElsewhere b s = mentions_shrink R (λ m. same_variable (by_symbol s) m.name && m.binds && is_elsewhere b m.around)
  own_shrinks k a IsLexical b s = lexical_shrinks R s
  own_shrinks k a IsSwitched b s = switched_shrinks R s
  own_shrinks k a InPattern b s = pattern_shrinks R s
  own_shrinks k a GivenByPattern b s = pattern_gives_shrink R k s
  own_shrinks k a UnderCatch b s = caught_shrinks R s
  own_shrinks k a ByArguments b s = arguments_shrink s R a
  own_shrinks k a ByEval b s = seen_shrinks s R a
  own_shrinks k a AmongParameters b s = params_shrink R a b s
  own_shrinks k a ReadEarly b s = early_shrinks b s

module _ (R : Position → Tree → Tree → Type 0) (l : KeepsNames R) (shapes : KeepsShapes R) (reads : ReadsLess R) where
  gone : (s : ℕ) (t u : Tree) → Distinct (declared_symbols t) → LessOften Read (Declared s) t u → undeclared u (Declared s) ≡ true
  gone s t u d g = by g.declared g.either g.less
    where
      by : (k : Option SymbolId) → (k ≡ symbol s) ⊎ (k ≡ None) → times k (declared_symbols u) + 1 ≤ times k (declared_symbols t) → undeclared u (Declared s) ≡ true
      by k (inl e) less =
          let once : times k (declared_symbols t) ≤ 1 = subst (λ j. times k (declared_symbols t) ≤ most j) e (d k) in
          let none_left : times k (declared_symbols u) ≡ 0 = omega (arith, less, once) in
          eq-eqb (times (symbol s) (declared_symbols u)) 0 (subst (λ j. times j (declared_symbols u) ≡ 0) e none_left)
      by k (inr e) less = let never : times k (declared_symbols t) ≤ 0 = subst (λ j. times k (declared_symbols t) ≤ most j) e (d k) in absurd (omega (arith, less, never))

  one_step : (f : Fact) (b s : ℕ) (t u : Tree) → Step R Elsewhere t u → IsWellShaped t → Scoped Read [] t → Distinct (declared_symbols t) → undeclared u (Declared s) ≡ false → AtMost (pace (question f b s) at_program [] u) (pace (question f b s) at_program [] t)
  one_step f b s t u z e a d h =
      let there = shapes_there R shapes in
      by (step_less (Fitting R) (names_there R l) (init_stays (Fitting R) there) (Declared s) (question f b s) (looks_up f b s) (own_shrinks (Fitting R) there (fewer_there R reads.fewer) f b s) (λ p n w r. reads.less f b s p n w r.0) (step_there R l z false (one a_program) refl e) false (one a_program) refl e at_program [] (also (is_inner (shape_of t)) true refl) a)
    where
      by : LessAround (question f b s) (Declared s) Elsewhere at_program [] t u → AtMost (pace (question f b s) at_program [] u) (pace (question f b s) at_program [] t)
      by (inl m) = m
      by (inr g) = absurd (true≢false (sym (gone s t u d g) ∙ h))

  still : (s : ℕ) (t u : Tree) → Within (declared_symbols u) (declared_symbols t) → undeclared u (Declared s) ≡ false → undeclared t (Declared s) ≡ false
  still s t u w h = by (undeclared t (Declared s)) refl
    where
      by : (c : Bool) → undeclared t (Declared s) ≡ c → undeclared t (Declared s) ≡ false
      by false e = e
      by true e =
          let before = eqb-true (times (symbol s) (declared_symbols t)) 0 e in
          let later = w (symbol s) in
          let none_left : times (symbol s) (declared_symbols u) ≡ 0 = omega (arith, before, later) in
          absurd (true≢false (sym (eq-eqb (times (symbol s) (declared_symbols u)) 0 none_left) ∙ h))

  reaches : (f : Fact) (b s : ℕ) (p : Position) (t u : Tree) → Reaches R p t u → p ≡ Elsewhere → IsWellShaped t → Scoped Read [] t → Distinct (declared_symbols t) → undeclared u (Declared s) ≡ false → AtMost (pace (question f b s) at_program [] u) (pace (question f b s) at_program [] t)
  reaches f b s _ _ _ (done p t) q e a d h = itself (pace (question f b s) at_program [] t)
  reaches f b s _ _ _ (more p t w u z r) q e a d h =
      let st : Step R Elsewhere t w = subst (λ o. Step R o t w) q z in
      let one = any_reaches_keep R l shapes t w (more Elsewhere t w w st (done Elsewhere w)) in
      let rest = any_reaches_keep R l shapes w u (subst (λ o. Reaches R o w u) q r) in
      let fits = one.shaped e in
      let scoped = one.scoped e a in
      let h' = still s w u (rest.symbols fits scoped) h in
      through (pace (question f b s) at_program [] u) (pace (question f b s) at_program [] w) (pace (question f b s) at_program [] t) (reaches f b s p w u r q fits scoped (one.distinct e a d) h) (one_step f b s t w st e a d h')

pub reads_less_shrinks : (R : Position → Tree → Tree → Type 0) → ReadsLessShrinks R
reads_less_shrinks R l shapes reads t u r e a d f b s h = reaches R l shapes reads f b s Elsewhere t u r refl e a d h
