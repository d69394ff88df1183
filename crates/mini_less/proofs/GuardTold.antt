-- What a fact tells of a test that goes out of a block, where no name of the block stands in it.
use Rattle.std.specs.Prelude.{ℕ, ◌≡◌, refl, Bool, true, false, ◌&&◌, ◌||◌, List, [], ◌∷◌, ◌++◌, None, map, if◌then◌else◌}
use Rattle.std.proofs.Common.{ap, ◌∙◌, sym}
use Rattle.std.proofs.lemmas.Bool.{and_parts}
use Rattle.std.proofs.lemmas.List.{append-nil}
use Rattle.mini_model.specs.declared.name.Name.{Name}
use Rattle.mini_model.specs.declared.shape.Shape.TheVariants as shape
use Rattle.mini_model.specs.Tree.{Tree, Trees, none, ◌▸◌, listed}
use Rattle.mini_model.specs.Weight.{same_text}
use Rattle.mini_laws.specs.declared.names.Binding.{Binding}
use Rattle.mini_laws.specs.declared.names.Declared.TheVariants as declared
use Rattle.mini_laws.specs.declared.names.Use.{Use}
use Rattle.mini_laws.specs.DeclaredNames.{names_of, with_names}
use Rattle.mini_laws.specs.Foreign.{own_lexical}
use Rattle.mini_laws.specs.Mentions.{is_among}
use Rattle.mini_laws.specs.Resolved.{Environment, or_else, serves, own_symbol, symbol_of}
use Rattle.mini_laws.specs.ScopeList.{by_symbol, has_eval, any_has_eval, names_in}
use Rattle.mini_laws.specs.Scopes.{scopes_by, lexical_scope}
use Rattle.mini_laws.proofs.Lookups.{or_none, symbol_of_both}
use Rattle.mini_shrink.specs.Facts.{Fact, Written, WrittenElsewhere, Given, GivenElsewhere, GivenByPattern, MentionedElsewhere, BoundElsewhere, IsLexical, IsSwitched, InPattern, UnderCatch, ByArguments, ByEval, AmongParameters, ReadEarly, question}
use Rattle.mini_shrink.specs.Pace.{Silent, Setting, Question, pace, reads_if}
use Rattle.mini_rows.specs.Lexical.{all_pass}
use Rattle.mini_rows.specs.Unused.{names}
use Rattle.mini_rows.proofs.LexicalKept.{with_pass}
use Rattle.mini_less.proofs.Beside.{Beside, fact_beside}

pub record GuardTold (q : Question) : Type 0 where
  -- a tree says the same in a scope of names none of which stands in it
  pub beside : (P : Name → Bool) (t : Tree) → ((y : Name) → P y ≡ true → names y t ≡ false) → (ys : List Name) → all_pass P ys ≡ true → (c : Setting) (env : Environment) → pace q c (env ++ lexical_scope ys) t ≡ pace q c env t
  -- where a block tells nothing itself, it doesn't with another first statement that has no direct
  -- eval where the first has none
  pub block : (c : Setting) (env : Environment) (t u : Tree) (ts : Trees) → names_of declared.Lexical (listed (u ▸ ts)) ≡ names_of declared.Lexical (listed (t ▸ ts)) → (has_eval t ≡ false → has_eval u ≡ false) → q.before c env shape.BlockStatement [] 0 (listed (t ▸ ts) ▸ none) ≡ Silent → q.before c env shape.BlockStatement [] 0 (listed (u ▸ ts) ▸ none) ≡ Silent

-- ---- a scope that goes

abbrev bound : Name → Binding
bound y = record { name = y; hoists = false }

unfound : (y : Name) (u : Use) (s : List ℕ) → same_text y.spelling s ≡ false → own_symbol u s (bound y) ≡ None
unfound y u s e = ap (λ b. if b then y.symbol else None) (ap (λ b. serves u (bound y) && b) e ∙ off (serves u (bound y)))
  where
    off : (b : Bool) → (b && false) ≡ false
    off true = refl
    off false = refl

beside_one : (y : Name) (bs : List Binding) (env : Environment) → Beside y (env ++ bound y ∷ bs) (env ++ bs)
beside_one y bs env u s e =
    symbol_of_both u s env (bound y ∷ bs) ∙ ap (λ o. or_else (or_else (symbol_of u s bs) o) (symbol_of u s env)) (unfound y u s e) ∙ ap (λ o. or_else o (symbol_of u s env)) (or_none (symbol_of u s bs))
    ∙ sym (symbol_of_both u s env bs)

module _ (P : Name → Bool) (t : Tree) (free : (y : Name) → P y ≡ true → names y t ≡ false) (g : Fact) (b s : ℕ) (c : Setting) (env : Environment) where
  all_beside : (ys : List Name) → all_pass P ys ≡ true → pace (question g b s) c (env ++ map bound ys) t ≡ pace (question g b s) c env t
  all_beside [] e = ap (λ r. pace (question g b s) c r t) (append-nil env)
  all_beside (y ∷ ys) e =
      let (first, rest) = and_parts (P y) (all_pass P ys) e in
      fact_beside y g b s c (env ++ map bound (y ∷ ys)) (env ++ map bound ys) (beside_one y (map bound ys) env) t (free y first) ∙ all_beside ys rest

  scope_beside : (ys : List Name) → all_pass P ys ≡ true → pace (question g b s) c (env ++ lexical_scope ys) t ≡ pace (question g b s) c env t
  scope_beside ys e = all_beside (with_names [] ys) (with_pass P [] ys refl e)

-- ---- what the block tells

no_lexical : (b : Bool) (ts : Trees) → own_lexical b shape.BlockStatement ts ≡ []
no_lexical true ts = refl
no_lexical false ts = refl

none_told : (s : ℕ) (xs : List Name) → xs ≡ [] → reads_if (is_among (by_symbol s) xs) ≡ Silent
none_told s xs e = ap (λ ys. reads_if (is_among (by_symbol s) ys)) e

-- where no direct eval comes to stand in the block, no more names are seen by one
seen_less : (t u r n : Bool) → (t ≡ false → u ≡ false) → reads_if ((((t || r) || false) && n) || false) ≡ Silent → reads_if ((((u || r) || false) && n) || false) ≡ Silent
seen_less true u r true f e = absurd (cc e)
seen_less true true r false f e = e
seen_less true false true false f e = refl
seen_less true false false false f e = refl
seen_less false u r n f e = ap (λ b. reads_if ((((b || r) || false) && n) || false)) (f refl) ∙ e

pub guard_told : (g : Fact) (b s : ℕ) → GuardTold (question g b s)
unfolding scopes_by has_eval
guard_told ByEval b s = record {
  beside = λ P t free ys e c env. scope_beside P t free ByEval b s c env ys e;
  block = λ c env t u ts e f a.
      let there = is_among (by_symbol s) (names_in (lexical_scope (names_of declared.Lexical (listed (t ▸ ts))))) in
      ap (λ xs. reads_if ((((has_eval u || any_has_eval ts) || false) && is_among (by_symbol s) (names_in (lexical_scope xs))) || false)) e
      ∙ seen_less (has_eval t) (has_eval u) (any_has_eval ts) there f a;
}
guard_told IsLexical b s = record { beside = λ P t free ys e c env. scope_beside P t free IsLexical b s c env ys e; block = λ c env t u ts e f a. none_told s _ (no_lexical c.is_body (listed (u ▸ ts) ▸ none)) }
guard_told Written b s = record { beside = λ P t free ys e c env. scope_beside P t free Written b s c env ys e; block = λ c env t u ts e f a. refl }
guard_told WrittenElsewhere b s = record { beside = λ P t free ys e c env. scope_beside P t free WrittenElsewhere b s c env ys e; block = λ c env t u ts e f a. refl }
guard_told Given b s = record { beside = λ P t free ys e c env. scope_beside P t free Given b s c env ys e; block = λ c env t u ts e f a. refl }
guard_told GivenElsewhere b s = record { beside = λ P t free ys e c env. scope_beside P t free GivenElsewhere b s c env ys e; block = λ c env t u ts e f a. refl }
guard_told GivenByPattern b s = record { beside = λ P t free ys e c env. scope_beside P t free GivenByPattern b s c env ys e; block = λ c env t u ts e f a. refl }
guard_told MentionedElsewhere b s = record { beside = λ P t free ys e c env. scope_beside P t free MentionedElsewhere b s c env ys e; block = λ c env t u ts e f a. refl }
guard_told BoundElsewhere b s = record { beside = λ P t free ys e c env. scope_beside P t free BoundElsewhere b s c env ys e; block = λ c env t u ts e f a. refl }
guard_told IsSwitched b s = record { beside = λ P t free ys e c env. scope_beside P t free IsSwitched b s c env ys e; block = λ c env t u ts e f a. refl }
guard_told InPattern b s = record { beside = λ P t free ys e c env. scope_beside P t free InPattern b s c env ys e; block = λ c env t u ts e f a. refl }
guard_told UnderCatch b s = record { beside = λ P t free ys e c env. scope_beside P t free UnderCatch b s c env ys e; block = λ c env t u ts e f a. refl }
guard_told ByArguments b s = record { beside = λ P t free ys e c env. scope_beside P t free ByArguments b s c env ys e; block = λ c env t u ts e f a. refl }
guard_told AmongParameters b s = record { beside = λ P t free ys e c env. scope_beside P t free AmongParameters b s c env ys e; block = λ c env t u ts e f a. refl }
guard_told ReadEarly b s = record { beside = λ P t free ys e c env. scope_beside P t free ReadEarly b s c env ys e; block = λ c env t u ts e f a. refl }
