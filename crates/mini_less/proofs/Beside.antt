-- What nothing in a tree names doesn't change what the tree tells, whether or not a scope around it
-- has that name.
use Rattle.std.specs.Prelude.{ℕ, suc, ◌≡◌, refl, Bool, true, false, List, [], ◌∷◌, ◌++◌, map, if◌then◌else◌}
use Rattle.std.proofs.Common.{ap, ◌∙◌, sym}
use Rattle.mini_model.specs.declared.name.Name.{Name}
use Rattle.mini_model.specs.declared.shape.Shape.{Shape}
use Rattle.mini_model.specs.declared.shape.Shape.TheVariants as shape
use Rattle.mini_model.specs.Tree.{Tree, Trees, node, none, ◌▸◌, shape_of, is_absent}
use Rattle.mini_model.specs.Weight.{same_text}
use Rattle.mini_laws.specs.declared.names.Binding.{Binding}
use Rattle.mini_laws.specs.declared.names.Declared.TheVariants as declared
use Rattle.mini_laws.specs.declared.names.Use.{Use}
use Rattle.mini_laws.specs.declared.names.Use.TheVariants.{Read}
use Rattle.mini_laws.specs.DeclaredNames.{names_of}
use Rattle.mini_laws.specs.Mentions.{is_among}
use Rattle.mini_laws.specs.Resolved.{Environment, or_else, symbol_of, with_symbol, gives_value}
use Rattle.mini_laws.specs.ScopeList.{by_symbol}
use Rattle.mini_laws.specs.Scopes.{opened}
use Rattle.mini_laws.specs.Shared.{is_pattern, names_in_pattern, own_pattern_writes}
use Rattle.mini_laws.proofs.Lookups.{symbol_of_both}
use Rattle.mini_shrink.specs.Facts.{Fact, Written, WrittenElsewhere, Given, GivenElsewhere, GivenByPattern, MentionedElsewhere, BoundElsewhere, IsLexical, IsSwitched, InPattern, UnderCatch, ByArguments, ByEval, AmongParameters, ReadEarly, question}
use Rattle.mini_shrink.specs.Pace.{followed, ends_after, in_turn, Setting, below, Question, pace, paces, reads_if}
use Rattle.mini_rows.specs.Unused.{is_like_one, names, any_names}
use Rattle.mini_rows.proofs.UnusedNames.{Other, or_parts, declared_other}

module _ (x : Name) where
  -- each name is found as before, but x
  abbrev pub Beside : Environment → Environment → Type 0
  Beside env env' = (u : Use) (s : List ℕ) → same_text x.spelling s ≡ false → symbol_of u s env ≡ symbol_of u s env'

  pub beside_both : (env env' : Environment) → Beside env env' → (bs : List Binding) → Beside (env ++ bs) (env' ++ bs)
  beside_both env env' f bs u s e = symbol_of_both u s env bs ∙ ap (or_else (symbol_of u s bs)) (f u s e) ∙ sym (symbol_of_both u s env' bs)

  all_found : (env env' : Environment) → Beside env env' → (ys : List Name) → Other x ys → map (with_symbol Read env) ys ≡ map (with_symbol Read env') ys
  all_found env env' f [] o = refl
  all_found env env' f (y ∷ ys) o = λ j. record { spelling = y.spelling; symbol = f Read y.spelling o.0 j } ∷ all_found env env' f ys o.1 j

  pattern_other : (t : Tree) → names x t ≡ false → Other x (names_in_pattern t)
  pattern_other t e = by (is_pattern (shape_of t))
    where
      by : (b : Bool) → Other x (if b then names_of declared.Bound t else [])
      by true = declared_other x declared.Bound t e
      by false = tt

  same_writes : (u : Use) (env env' : Environment) → Beside env env' → (h : Shape) (ts : Trees) → any_names x ts ≡ false → own_pattern_writes u env h ts ≡ own_pattern_writes u env' h ts
  same_writes u env env' f shape.VariableDeclarator (id ▸ (init ▸ ts)) e = ap (λ ys. if gives_value u (is_absent init) then ys else []) (all_found env env' f (names_in_pattern id) (pattern_other id (or_parts (names x id) (any_names x (init ▸ ts)) e).0))
  same_writes u env env' f shape.VariableDeclarator (id ▸ none) e = refl
  same_writes u env env' f shape.VariableDeclarator none e = refl
  same_writes u env env' f h ts e = refl

  abbrev Spares : Question → Type 0
  Spares q = (c : Setting) (env env' : Environment) → Beside env env' → (h : Shape) (xs : List Name) (n : ℕ) (ts : Trees) → any_names x ts ≡ false → q.before c env h xs n ts ≡ q.before c env' h xs n ts

  each_spares : (g : Fact) (b s : ℕ) → Spares (question g b s)
  each_spares GivenByPattern b s c env env' f h xs n ts e = ap (λ ys. reads_if (is_among (by_symbol s) ys)) (same_writes c.used env env' f h ts e)
  each_spares Written b s c env env' f h xs n ts e = refl
  each_spares WrittenElsewhere b s c env env' f h xs n ts e = refl
  each_spares Given b s c env env' f h xs n ts e = refl
  each_spares GivenElsewhere b s c env env' f h xs n ts e = refl
  each_spares MentionedElsewhere b s c env env' f h xs n ts e = refl
  each_spares BoundElsewhere b s c env env' f h xs n ts e = refl
  each_spares IsLexical b s c env env' f h xs n ts e = refl
  each_spares IsSwitched b s c env env' f h xs n ts e = refl
  each_spares InPattern b s c env env' f h xs n ts e = refl
  each_spares UnderCatch b s c env env' f h xs n ts e = refl
  each_spares ByArguments b s c env env' f h xs n ts e = refl
  each_spares ByEval b s c env env' f h xs n ts e = refl
  each_spares AmongParameters b s c env env' f h xs n ts e = refl
  each_spares ReadEarly b s c env env' f h xs n ts e = refl

  module _ (q : Question) (z : Spares q) where
    mutual
      unfolding pace

      said_beside : (c : Setting) (env env' : Environment) → Beside env env' → (t : Tree) → names x t ≡ false → pace q c env t ≡ pace q c env' t
      said_beside c env env' f (node h xs n ts) e =
          let rest = (or_parts (is_like_one x xs) (any_names x ts) e).1 in
          λ j. followed (z c env env' f h xs n ts rest j) (in_turn h (all_beside (opened c.used h ts) (below (q.orders c h ts) c h n) 0 env env' f ts rest j))

      pub all_beside : (sc : ℕ → List Binding) (cs : ℕ → Setting) (i : ℕ) (env env' : Environment) → Beside env env' → (ts : Trees) → any_names x ts ≡ false → paces q sc cs i env ts ≡ paces q sc cs i env' ts
      all_beside sc cs i env env' f none e = refl
      all_beside sc cs i env env' f (t ▸ ts) e =
          let (one, others) = or_parts (names x t) (any_names x ts) e in
          let inner = beside_both env env' f (sc i) in
          λ j. ends_after (q.ends (cs i) t) (said_beside (cs i) (env ++ sc i) (env' ++ sc i) inner t one j) ∷ all_beside sc cs (suc i) (env ++ sc i) (env' ++ sc i) inner ts others j

  -- of the facts
  pub fact_beside : (g : Fact) (b s : ℕ) (c : Setting) (env env' : Environment) → Beside env env' → (t : Tree) → names x t ≡ false → pace (question g b s) c env t ≡ pace (question g b s) c env' t
  fact_beside g b s = said_beside (question g b s) (each_spares g b s)

  pub facts_beside : (g : Fact) (b s : ℕ) (sc : ℕ → List Binding) (cs : ℕ → Setting) (i : ℕ) (env env' : Environment) → Beside env env' → (ts : Trees) → any_names x ts ≡ false → paces (question g b s) sc cs i env ts ≡ paces (question g b s) sc cs i env' ts
  facts_beside g b s = all_beside (question g b s) (each_spares g b s)
