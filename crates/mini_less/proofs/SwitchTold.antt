-- What a fact tells of a `switch` and of its cases: nothing but of the names directly in them, and
-- a block of the statements of its one case tells no more.
use Rattle.std.specs.Prelude.{ℕ, ◌≡◌, refl, Bool, true, false, ◌&&◌, ◌||◌, [], ◌++◌}
use Rattle.std.proofs.Common.{ap, ◌∙◌, sym}
use Rattle.std.proofs.lemmas.List.{append-nil}
use Rattle.mini_model.specs.declared.shape.Shape.TheVariants as shape
use Rattle.mini_model.specs.Paths.{append}
use Rattle.mini_model.specs.Tree.{Tree, Trees, none, ◌▸◌, listed}
use Rattle.mini_laws.specs.declared.names.Declared.TheVariants as declared
use Rattle.mini_laws.specs.DeclaredNames.{names_of, with_names}
use Rattle.mini_laws.specs.Foreign.{own_lexical}
use Rattle.mini_laws.specs.Mentions.{is_among}
use Rattle.mini_laws.specs.Resolved.{Environment}
use Rattle.mini_laws.specs.ScopeList.{by_symbol, has_eval, any_has_eval, names_in}
use Rattle.mini_laws.specs.Scopes.{scopes_by, lexical_scope}
use Rattle.mini_shrink.specs.Facts.{Fact, Written, WrittenElsewhere, Given, GivenElsewhere, GivenByPattern, MentionedElsewhere, BoundElsewhere, IsLexical, IsSwitched, InPattern, UnderCatch, ByArguments, ByEval, AmongParameters, ReadEarly, question}
use Rattle.mini_shrink.specs.Pace.{Silent, Setting, Question, pace, reads_if}
use Rattle.mini_rows.specs.Cases.{switch_case, bare_break}
use Rattle.mini_rows.specs.Lists.{block}
use Rattle.mini_less.proofs.Plainly.{unseen}
use Rattle.mini_less.proofs.BodyEndsLess.{breaks, list_told, list_names, block_told}

pub record SwitchTold (q : Question) : Type 0 where
  -- where a `switch` of one case tells nothing itself, a block of the case's statements doesn't
  pub only : (c k : Setting) (env later : Environment) (d t : Tree) (ss : Trees) → names_of declared.Lexical t ≡ [] → q.before c env shape.SwitchStatement [] 0 (d ▸ listed (switch_case t ss ▸ none) ▸ none) ≡ Silent → q.before k later shape.BlockStatement [] 0 (listed ss ▸ none) ≡ Silent
  -- a `switch` in which nothing is scoped tells nothing itself, nor does a case
  pub loose : (c : Setting) (env : Environment) (d cases : Tree) → names_of declared.Lexical d ≡ [] → names_of declared.Lexical cases ≡ [] → q.before c env shape.SwitchStatement [] 0 (d ▸ cases ▸ none) ≡ Silent
  pub case : (c : Setting) (env : Environment) (ts : Trees) → q.before c env shape.SwitchCase [] 0 ts ≡ Silent
  -- a block says the same without the `break;` that ends it
  pub ended : (c : Setting) (env : Environment) (ss : Trees) → pace q c env (block ss) ≡ pace q c env (block (append ss (bare_break ▸ none)))

-- the names of the one case are those of its statements
pub case_names : (t : Tree) (ss : Trees) → names_of declared.Lexical t ≡ [] → names_of declared.Lexical (listed (switch_case t ss ▸ none)) ≡ names_of declared.Lexical (listed ss)
unfolding names_of
case_names t ss e = append-nil _ ∙ ap (λ xs. xs ++ (names_of declared.Lexical (listed ss) ++ [])) e ∙ append-nil (names_of declared.Lexical (listed ss))

no_lexical : (b : Bool) (ts : Trees) → (own_lexical b shape.SwitchStatement ts ≡ []) × ((own_lexical b shape.SwitchCase ts ≡ []) × (own_lexical b shape.BlockStatement ts ≡ []))
no_lexical true ts = (refl, (refl, refl))
no_lexical false ts = (refl, (refl, refl))

none_told : (s : ℕ) (xs : _) → xs ≡ [] → reads_if (is_among (by_symbol s) xs) ≡ Silent
none_told s xs e = ap (λ ys. reads_if (is_among (by_symbol s) ys)) e

-- a direct eval that stands in the block stands in the cases
seen_less : (t s n : Bool) → reads_if (((((t || (s || false)) || false) || false) && n) || false) ≡ Silent → reads_if (((s || false) && n) || false) ≡ Silent
seen_less true true n e = e
seen_less true false n e = refl
seen_less false true n e = e
seen_less false false n e = refl

unseen_first : (a b : Bool) → ((a && false) || b) ≡ b
unseen_first true b = refl
unseen_first false b = refl

-- a scope without names declares no name
nowhere : (s : ℕ) (b : Bool) → (b && is_among (by_symbol s) (names_in (lexical_scope []))) ≡ false
unfolding with_names
nowhere s true = refl
nowhere s false = refl

ended_told : (g : Fact) (b s : ℕ) (c : Setting) (env : Environment) (ss : Trees) → pace (question g b s) c env (block ss) ≡ pace (question g b s) c env (block (append ss (bare_break ▸ none)))
ended_told g b s c env ss = (block_told (listed (append ss (bare_break ▸ none))) (listed ss) (list_told breaks ss) (λ e. list_names breaks e ss)).said g b s c env

pub switch_told : (g : Fact) (b s : ℕ) → SwitchTold (question g b s)
unfolding scopes_by names_of has_eval
switch_told IsSwitched b s = record {
  only = λ c k env later d t ss e f. refl;
  loose = λ c env d cases e f. none_told s _ (λ i. e i ++ (f i ++ []));
  case = λ c env ts. refl;
  ended = ended_told IsSwitched b s;
}
switch_told ByEval b s = record {
  only = λ c k env later d t ss e f.
      let cases = listed (switch_case t ss ▸ none) in
      let there = is_among (by_symbol s) (names_in (lexical_scope (names_of declared.Lexical cases))) in
      ap (λ xs. reads_if (((any_has_eval ss || false) && is_among (by_symbol s) (names_in (lexical_scope xs))) || false)) (sym (case_names t ss e))
      ∙ seen_less (has_eval t) (any_has_eval ss) there (sym (ap reads_if (unseen_first (any_has_eval (d ▸ cases ▸ none)) ((any_has_eval (cases ▸ none) && there) || false))) ∙ f);
  loose = λ c env d cases e f.
      ap reads_if (unseen_first (any_has_eval (d ▸ cases ▸ none)) _)
      ∙ ap (λ xs. reads_if ((any_has_eval (cases ▸ none) && is_among (by_symbol s) (names_in (lexical_scope xs))) || false)) f
      ∙ ap (λ x. reads_if (x || false)) (nowhere s (any_has_eval (cases ▸ none)));
  case = λ c env ts. none_seen c ts;
  ended = ended_told ByEval b s;
}
  where
    none_seen : (c : Setting) (ts : Trees) → (question ByEval b s).before c [] shape.SwitchCase [] 0 ts ≡ Silent
    none_seen c ts = ap reads_if (unseen (by_symbol s) (λ i. []) (λ i. refl) 0 ts)
switch_told IsLexical b s = record {
  only = λ c k env later d t ss e f. none_told s _ (no_lexical k.is_body (listed ss ▸ none)).1.1;
  loose = λ c env d cases e f. none_told s _ (no_lexical c.is_body (d ▸ cases ▸ none)).0;
  case = λ c env ts. none_told s _ (no_lexical c.is_body ts).1.0;
  ended = ended_told IsLexical b s;
}
switch_told Written b s = record { only = λ c k env later d t ss e f. refl; loose = λ c env d cases e f. refl; case = λ c env ts. refl; ended = ended_told Written b s }
switch_told WrittenElsewhere b s = record { only = λ c k env later d t ss e f. refl; loose = λ c env d cases e f. refl; case = λ c env ts. refl; ended = ended_told WrittenElsewhere b s }
switch_told Given b s = record { only = λ c k env later d t ss e f. refl; loose = λ c env d cases e f. refl; case = λ c env ts. refl; ended = ended_told Given b s }
switch_told GivenElsewhere b s = record { only = λ c k env later d t ss e f. refl; loose = λ c env d cases e f. refl; case = λ c env ts. refl; ended = ended_told GivenElsewhere b s }
switch_told GivenByPattern b s = record { only = λ c k env later d t ss e f. refl; loose = λ c env d cases e f. refl; case = λ c env ts. refl; ended = ended_told GivenByPattern b s }
switch_told MentionedElsewhere b s = record { only = λ c k env later d t ss e f. refl; loose = λ c env d cases e f. refl; case = λ c env ts. refl; ended = ended_told MentionedElsewhere b s }
switch_told BoundElsewhere b s = record { only = λ c k env later d t ss e f. refl; loose = λ c env d cases e f. refl; case = λ c env ts. refl; ended = ended_told BoundElsewhere b s }
switch_told InPattern b s = record { only = λ c k env later d t ss e f. refl; loose = λ c env d cases e f. refl; case = λ c env ts. refl; ended = ended_told InPattern b s }
switch_told UnderCatch b s = record { only = λ c k env later d t ss e f. refl; loose = λ c env d cases e f. refl; case = λ c env ts. refl; ended = ended_told UnderCatch b s }
switch_told ByArguments b s = record { only = λ c k env later d t ss e f. refl; loose = λ c env d cases e f. refl; case = λ c env ts. refl; ended = ended_told ByArguments b s }
switch_told AmongParameters b s = record { only = λ c k env later d t ss e f. refl; loose = λ c env d cases e f. refl; case = λ c env ts. refl; ended = ended_told AmongParameters b s }
switch_told ReadEarly b s = record { only = λ c k env later d t ss e f. refl; loose = λ c env d cases e f. refl; case = λ c env ts. refl; ended = ended_told ReadEarly b s }
