-- Where more of a tree stands in a list that declares the name, no more is read early.
use Rattle.std.specs.Prelude.{ℕ, suc, ◌≡◌, refl, Bool, true, false, ◌&&◌, ◌||◌, List, ◌++◌}
use Rattle.std.proofs.Common.{ap, ◌∙◌, sym, true≢false}
use Rattle.mini_model.specs.declared.kind.VariableDeclarationKind.TheVariants.{Let, Const}
use Rattle.mini_rows.specs.Lists.{is_unscoped_shape, is_unscoped}
use Rattle.mini_model.specs.declared.shape.Shape.TheVariants as shape
use Rattle.mini_model.specs.declared.shape.Shape.{Shape}
use Rattle.mini_model.specs.Tree.{Tree, Trees, node, none, ◌▸◌}
use Rattle.mini_laws.specs.declared.names.Binding.{Binding}
use Rattle.mini_laws.specs.declared.names.Declared.TheVariants as declared
use Rattle.mini_laws.specs.DeclaredNames.{names_of}
use Rattle.mini_laws.specs.Scopes.{opened}
use Rattle.mini_laws.specs.Resolved.{Environment}
use Rattle.mini_laws.specs.ScopeList.{by_symbol}
use Rattle.mini_laws.specs.Mentions.{is_among}
use Rattle.mini_shrink.specs.Pace.{followed, Pace, Ends, kept_in, ends_if, ends_after, in_turn, AtMost, Setting, below, Question, pace, paces}
use Rattle.mini_shrink.specs.Questions.{hands_on, listed_names, early}
use Rattle.mini_shrink.proofs.Paces.{itself, through, both, ended, AllAtMost, turned}

abbrev pub Implies : Bool → Bool → Type 0
Implies x y = y ≡ true → x ≡ true

ends_more : (x y : Bool) → Implies x y → AtMost (ends_if x) (ends_if y)
ends_more true y f = by y
  where
    by : (y : Bool) → AtMost Ends (ends_if y)
    by true = tt
    by false = tt
ends_more false true f = absurd (true≢false (sym (f refl)))
ends_more false false f = tt

pub ended_more : (x y : Bool) → Implies x y → (p q : Pace) → AtMost p q → AtMost (ends_after x p) (ends_after y q)
ended_more x y f p q a = through (ends_after x p) (ends_after x q) (ends_after y q) (ended x p q a) (both (kept_in q) (kept_in q) (ends_if x) (ends_if y) (itself (kept_in q)) (ends_more x y f))

and_more : (x y e : Bool) → Implies x y → Implies (x && e) (y && e)
and_more true true e f a = a
and_more true false e f a = absurd (true≢false (sym a))
and_more false true e f a = absurd (true≢false (sym (f refl)))
and_more false false e f a = a

orders_more : (h x y o : Bool) → Implies x y → Implies ((h && x) || o) ((h && y) || o)
orders_more false x y o f a = a
orders_more true true y o f a = refl
orders_more true false true o f a = absurd (true≢false (sym (f refl)))
orders_more true false false o f a = a

module _ (b s : ℕ) where
  abbrev q : Question
  q = early b s

  mutual
    unfolding pace

    pub more_ordered : (x y : Bool) → Implies x y → (c : Setting) (env : Environment) (t : Tree) → AtMost (pace q (record c { ordered = x }) env t) (pace q (record c { ordered = y }) env t)
    more_ordered x y f c env (node h xs n ts) =
        let own = is_among (by_symbol s) (listed_names c.used h ts) in
        let k = (hands_on h && x) || own in
        let l = (hands_on h && y) || own in
        let sc = opened c.used h ts in
        let m = q.before c env h xs n ts in
        both m m (in_turn h (paces q sc (below k c h n) 0 env ts)) (in_turn h (paces q sc (below l c h n) 0 env ts)) (itself m)
        (turned h (paces q sc (below k c h n) 0 env ts) (paces q sc (below l c h n) 0 env ts) (all_more k l (orders_more (hands_on h) x y own f) (below false c h n) sc 0 env ts))

    all_more : (x y : Bool) → Implies x y → (cs : ℕ → Setting) (sc : ℕ → List Binding) (i : ℕ) (env : Environment) (ts : Trees) → AllAtMost (paces q sc (λ j. record (cs j) { ordered = x }) i env ts) (paces q sc (λ j. record (cs j) { ordered = y }) i env ts)
    all_more x y f cs sc i env none = tt
    all_more x y f cs sc i env (t ▸ ts) =
        let e = is_among (by_symbol s) (names_of declared.Lexical t) || is_among (by_symbol s) (names_of declared.Bound t) in
        (ended_more (x && e) (y && e) (and_more x y e f) (pace q (record (cs i) { ordered = x }) (env ++ sc i) t) (pace q (record (cs i) { ordered = y }) (env ++ sc i) t) (more_ordered x y f (cs i) (env ++ sc i) t), all_more x y f cs sc (suc i) (env ++ sc i) ts)

-- ---- an unscoped statement tells no end, so where it stands doesn't matter to it

hands_unscoped : (h : Shape) → is_unscoped_shape h ≡ true → hands_on h ≡ false
hands_unscoped shape.Listed e = absurd (cc e)
hands_unscoped shape.SwitchCase e = absurd (cc e)
hands_unscoped shape.ExportNamedDeclaration e = absurd (cc e)
hands_unscoped shape.ExportDefaultDeclaration e = absurd (cc e)
hands_unscoped (shape.VariableDeclaration Let) e = absurd (cc e)
hands_unscoped (shape.VariableDeclaration Const) e = absurd (cc e)
hands_unscoped h e = refl

pub unscoped_anywhere : (b s : ℕ) (c : Setting) (x : Bool) (env : Environment) (t : Tree) → is_unscoped t ≡ true → pace (early b s) (record c { ordered = x }) env t ≡ pace (early b s) (record c { ordered = false }) env t
unfolding pace
unscoped_anywhere b s c x env (node h xs n ts) e = λ j. followed ((early b s).before c env h xs n ts) (in_turn h (paces (early b s) (opened c.used h ts) (below (by j || is_among (by_symbol s) (listed_names c.used h ts)) c h n) 0 env ts))
  where
    by : (hands_on h && x) ≡ (hands_on h && false)
    by = ap (λ y. y && x) (hands_unscoped h e) ∙ sym (ap (λ y. y && false) (hands_unscoped h e))
