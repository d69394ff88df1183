-- Nodes that tell nothing of their own: keys, what holds a key and a value, parts of a pattern, and
-- what is absent.
use Rattle.std.specs.Prelude.{ℕ, suc, ◌≡◌, refl, Bool, true, false, ◌&&◌, ◌||◌, List, [], map}
use Rattle.std.specs.List.{list_any}
use Rattle.std.proofs.Common.{ap, ◌∙◌}
use Rattle.mini_model.specs.declared.name.Name.{Name}
use Rattle.mini_model.specs.declared.shape.Shape.{Shape}
use Rattle.mini_model.specs.declared.shape.Shape.TheVariants as shape
use Rattle.mini_model.specs.Tree.{Tree, Trees, none, ◌▸◌}
use Rattle.mini_laws.specs.declared.names.Binding.{Binding}
use Rattle.mini_laws.specs.declared.names.Declared.TheVariants as declared
use Rattle.mini_laws.specs.declared.names.Use.{Use}
use Rattle.mini_laws.specs.DeclaredNames.{names_of}
use Rattle.mini_laws.specs.Foreign.{is_write, own_lexical, own_pattern_names, own_switched, own_params_around}
use Rattle.mini_laws.specs.Mentions.{Mention, own_mentions, is_among, is_elsewhere}
use Rattle.mini_laws.specs.Resolved.{Environment}
use Rattle.mini_laws.specs.ScopeList.{any_has_eval, by_symbol, is_eval_call, names_in}
use Rattle.mini_laws.specs.Scopes.{opened, scopes_by}
use Rattle.mini_laws.specs.Shared.{given_values, is_name_of_variable, own_caught, own_pattern_writes, reached_params, write_at}
use Rattle.mini_laws.specs.Strict.{is_strict_in}
use Rattle.mini_shrink.specs.Facts.{Fact, Written, WrittenElsewhere, Given, GivenElsewhere, GivenByPattern, MentionedElsewhere, BoundElsewhere, IsLexical, IsSwitched, InPattern, UnderCatch, ByArguments, ByEval, AmongParameters, ReadEarly, question}
use Rattle.mini_shrink.specs.Pace.{Pace, Silent, all_followed, in_turn, Setting, Question, reads_if}
use Rattle.mini_shrink.specs.Questions.{early, listed_names, seen_from}
use Rattle.mini_rows.specs.KeyHolders.{is_pattern_part}

-- a key, what holds a key and a value, `return`, and what is absent
abbrev pub is_calm_shape : Shape → Bool
is_calm_shape shape.Absent = true
is_calm_shape (shape.StringLiteral s) = true
is_calm_shape (shape.NumericLiteral n) = true
is_calm_shape (shape.IdentifierName s) = true
is_calm_shape shape.InnerExpression = true
is_calm_shape (shape.BindingProperty shorthand computed) = true
is_calm_shape (shape.AssignmentTargetPropertyProperty computed) = true
is_calm_shape shape.AssignmentTargetPropertyIdentifier = true
is_calm_shape (shape.MethodDefinition kind computed is_static) = true
is_calm_shape (shape.PropertyDefinition computed is_static) = true
is_calm_shape shape.ReturnStatement = true
is_calm_shape h = false

-- these, and what passes on what its parts tell: a list, and the body of a function
abbrev pub is_passing_shape : Shape → Bool
is_passing_shape shape.Listed = true
is_passing_shape shape.FunctionBody = true
is_passing_shape h = is_calm_shape h

-- these, and parts of a pattern
abbrev pub is_bare_shape : Shape → Bool
is_bare_shape shape.ObjectPattern = true
is_bare_shape shape.ArrayPattern = true
is_bare_shape shape.RestElement = true
is_bare_shape shape.AssignmentPattern = true
is_bare_shape h = is_passing_shape h

pub calm_passing : (h : Shape) → is_calm_shape h ≡ true → is_passing_shape h ≡ true
calm_passing shape.Listed e = refl
calm_passing shape.FunctionBody e = refl
calm_passing h e = e

pub passing_bare : (h : Shape) → is_passing_shape h ≡ true → is_bare_shape h ≡ true
passing_bare shape.ObjectPattern e = refl
passing_bare shape.ArrayPattern e = refl
passing_bare shape.RestElement e = refl
passing_bare shape.AssignmentPattern e = refl
passing_bare h e = e

pub calm_bare : (h : Shape) → is_calm_shape h ≡ true → is_bare_shape h ≡ true
calm_bare h e = passing_bare h (calm_passing h e)

pub part_bare : (h : Shape) → is_pattern_part h ≡ true → is_bare_shape h ≡ true
part_bare shape.Listed e = refl
part_bare shape.ObjectPattern e = refl
part_bare shape.ArrayPattern e = refl
part_bare (shape.BindingProperty false computed) e = refl
part_bare (shape.BindingProperty true computed) e = absurd (cc e)
part_bare shape.RestElement e = refl
part_bare shape.AssignmentPattern e = refl
part_bare h e = absurd (cc e)

-- ---- what such a node tells

pub no_mention : (p : Mention → Bool) (c : Setting) (h : Shape) → list_any p (own_mentions c.used c.around h []) ≡ false
no_mention p c shape.Identifier = refl
no_mention p c shape.BindingIdentifier = refl
no_mention p c h = refl

pub bare_gives : (u : Use) (h : Shape) → is_bare_shape h ≡ true → (xs : List Name) (ts : Trees) → given_values u h xs ts ≡ []
bare_gives u shape.VariableDeclarator e xs ts = absurd (cc e)
bare_gives u h e xs ts = refl

pub bare_writes : (u : Use) (env : Environment) (h : Shape) → is_bare_shape h ≡ true → (ts : Trees) → own_pattern_writes u env h ts ≡ []
bare_writes u env shape.VariableDeclarator e ts = absurd (cc e)
bare_writes u env h e ts = refl

pub bare_lexical : (b : Bool) (h : Shape) → is_bare_shape h ≡ true → (ts : Trees) → own_lexical b h ts ≡ []
bare_lexical b (shape.VariableDeclaration k) e ts = absurd (cc e)
bare_lexical b (shape.Function d g ds) e ts = absurd (cc e)
bare_lexical b (shape.Class d) e ts = absurd (cc e)
bare_lexical b shape.CatchClause e ts = absurd (cc e)
bare_lexical b shape.ImportDeclaration e ts = absurd (cc e)
bare_lexical true h e ts = refl
bare_lexical false h e ts = refl

pub bare_switched : (h : Shape) → is_bare_shape h ≡ true → (ts : Trees) → own_switched h ts ≡ []
bare_switched shape.SwitchStatement e ts = absurd (cc e)
bare_switched h e ts = refl

pub bare_caught : (h : Shape) → is_bare_shape h ≡ true → (ts : Trees) → own_caught h ts ≡ []
bare_caught shape.CatchClause e ts = absurd (cc e)
bare_caught h e ts = refl

pub bare_arguments : (b : Bool) (h : Shape) → is_bare_shape h ≡ true → (ts : Trees) → reached_params b h ts ≡ []
bare_arguments b (shape.Function d g ds) e ts = absurd (cc e)
bare_arguments b h e ts = refl

pub bare_params : (b : ℕ) (h : Shape) → is_bare_shape h ≡ true → (ts : Trees) → own_params_around b h ts ≡ []
bare_params b (shape.Function d g ds) e ts = absurd (cc e)
bare_params b (shape.ArrowFunctionExpression ds) e ts = absurd (cc e)
bare_params b h e ts = refl

pub passing_pattern : (h : Shape) → is_passing_shape h ≡ true → (n : ℕ) (ts : Trees) → own_pattern_names h n ts ≡ []
passing_pattern shape.ObjectPattern e n ts = absurd (cc e)
passing_pattern shape.ArrayPattern e n ts = absurd (cc e)
passing_pattern shape.AssignmentPattern e n ts = absurd (cc e)
passing_pattern h e n ts = refl

pub bare_scopes : (u : Use) (h : Shape) → is_bare_shape h ≡ true → (ts : Trees) (i : ℕ) → opened u h ts i ≡ []
unfolding scopes_by
bare_scopes u (shape.Program m ds) e ts i = absurd (cc e)
bare_scopes u shape.StaticBlock e ts i = absurd (cc e)
bare_scopes u (shape.ArrowFunctionExpression ds) e ts i = absurd (cc e)
bare_scopes u shape.BlockStatement e ts i = absurd (cc e)
bare_scopes u shape.ForStatement e ts i = absurd (cc e)
bare_scopes u shape.ForInStatement e ts i = absurd (cc e)
bare_scopes u shape.ForOfStatement e ts i = absurd (cc e)
bare_scopes u shape.SwitchStatement e ts i = absurd (cc e)
bare_scopes u shape.CatchClause e ts i = absurd (cc e)
bare_scopes u (shape.Function d g ds) e ts i = absurd (cc e)
bare_scopes u (shape.Class d) e ts i = absurd (cc e)
bare_scopes u (shape.VariableDeclaration k) e ts i = absurd (cc e)
bare_scopes u h e ts i = refl

pub bare_turn : (h : Shape) → is_bare_shape h ≡ true → (ps : List Pace) → in_turn h ps ≡ all_followed ps
bare_turn shape.ForInStatement e ps = absurd (cc e)
bare_turn shape.ForOfStatement e ps = absurd (cc e)
bare_turn h e ps = refl

pub calm_listed : (u : Use) (h : Shape) → is_calm_shape h ≡ true → (ts : Trees) → listed_names u h ts ≡ []
calm_listed u (shape.Program m ds) e ts = absurd (cc e)
calm_listed u shape.FunctionBody e ts = absurd (cc e)
calm_listed u shape.StaticBlock e ts = absurd (cc e)
calm_listed u shape.BlockStatement e ts = absurd (cc e)
calm_listed u shape.ForStatement e ts = absurd (cc e)
calm_listed u shape.ForInStatement e ts = absurd (cc e)
calm_listed u shape.ForOfStatement e ts = absurd (cc e)
calm_listed u shape.SwitchStatement e ts = absurd (cc e)
calm_listed u shape.CatchClause e ts = absurd (cc e)
calm_listed u (shape.VariableDeclaration k) e ts = absurd (cc e)
calm_listed u h e ts = refl

pub part_listed : (u : Use) (h : Shape) → is_pattern_part h ≡ true → (ts : Trees) → listed_names u h ts ≡ []
part_listed u (shape.Program m ds) e ts = absurd (cc e)
part_listed u shape.FunctionBody e ts = absurd (cc e)
part_listed u shape.StaticBlock e ts = absurd (cc e)
part_listed u shape.BlockStatement e ts = absurd (cc e)
part_listed u shape.ForStatement e ts = absurd (cc e)
part_listed u shape.ForInStatement e ts = absurd (cc e)
part_listed u shape.ForOfStatement e ts = absurd (cc e)
part_listed u shape.SwitchStatement e ts = absurd (cc e)
part_listed u shape.CatchClause e ts = absurd (cc e)
part_listed u (shape.VariableDeclaration k) e ts = absurd (cc e)
part_listed u h e ts = refl

pub calm_alone : (h : Shape) → is_calm_shape h ≡ true → (c : Setting) (s : ℕ) (ts : Trees) → (early 0 s).orders c h ts ≡ false
calm_alone shape.Listed e c s ts = absurd (cc e)
calm_alone shape.SwitchCase e c s ts = absurd (cc e)
calm_alone (shape.VariableDeclaration k) e c s ts = absurd (cc e)
calm_alone shape.ExportNamedDeclaration e c s ts = absurd (cc e)
calm_alone shape.ExportDefaultDeclaration e c s ts = absurd (cc e)
calm_alone h e c s ts = ap (is_among (by_symbol s)) (calm_listed c.used h e ts)

pub bare_calls : (h : Shape) → is_bare_shape h ≡ true → (ts : Trees) → is_eval_call h ts ≡ false
bare_calls (shape.CallExpression o) e ts = absurd (cc e)
bare_calls h e ts = refl

pub bare_names : (h : Shape) → is_bare_shape h ≡ true → is_name_of_variable h ≡ false
bare_names shape.Identifier e = absurd (cc e)
bare_names shape.BindingIdentifier e = absurd (cc e)
bare_names h e = refl

pub unseen : (x : Name) (sc : ℕ → List Binding) → ((j : ℕ) → sc j ≡ []) → (i : ℕ) (ts : Trees) → seen_from sc i ts x ≡ false
unseen x sc z i none = refl
unseen x sc z i (t ▸ ts) = λ j. (ap (λ bs. any_has_eval (t ▸ ts) && is_among x (names_in bs)) (z i) ∙ by (any_has_eval (t ▸ ts))) j || unseen x sc z (suc i) ts j
  where
    by : (b : Bool) → (b && false) ≡ false
    by true = refl
    by false = refl

-- ---- questions of which that is so

pub record Quiets (q : Question) : Type 0 where
  pub silent : (c : Setting) (env : Environment) (h : Shape) → is_passing_shape h ≡ true → (n : ℕ) (ts : Trees) → q.before c env h [] n ts ≡ Silent
  pub unordered : (c : Setting) (h : Shape) → is_calm_shape h ≡ true → (ts : Trees) → q.orders c h ts ≡ false
  pub unended : (c : Setting) (t : Tree) → c.ordered ≡ false → q.ends c t ≡ false

any_among : (s : ℕ) (xs : List Name) → xs ≡ [] → is_among (by_symbol s) xs ≡ false
any_among s xs e = ap (is_among (by_symbol s)) e

pub each_quiets : (g : Fact) (b s : ℕ) → Quiets (question g b s)
each_quiets Written b s = record { silent = λ c env h e n ts. ap reads_if (no_mention _ c h); unordered = λ c h e ts. refl; unended = λ c t e. refl }
each_quiets WrittenElsewhere b s = record { silent = λ c env h e n ts. ap reads_if (no_mention _ c h); unordered = λ c h e ts. refl; unended = λ c t e. refl }
each_quiets Given b s = record { silent = λ c env h e n ts j. reads_if (no_mention (is_write (by_symbol s)) c h j || list_any (is_write (by_symbol s)) (map (write_at c.around) (bare_gives c.used h (passing_bare h e) [] ts j))); unordered = λ c h e ts. refl; unended = λ c t e. refl }
each_quiets GivenElsewhere b s = record { silent = λ c env h e n ts j. reads_if (no_mention (λ m. is_write (by_symbol s) m && is_elsewhere b m.around) c h j || list_any (λ m. is_write (by_symbol s) m && is_elsewhere b m.around) (map (write_at c.around) (bare_gives c.used h (passing_bare h e) [] ts j))); unordered = λ c h e ts. refl; unended = λ c t e. refl }
each_quiets GivenByPattern b s = record { silent = λ c env h e n ts. ap reads_if (any_among s _ (bare_writes c.used env h (passing_bare h e) ts)); unordered = λ c h e ts. refl; unended = λ c t e. refl }
each_quiets MentionedElsewhere b s = record { silent = λ c env h e n ts. ap reads_if (no_mention _ c h); unordered = λ c h e ts. refl; unended = λ c t e. refl }
each_quiets BoundElsewhere b s = record { silent = λ c env h e n ts. ap reads_if (no_mention _ c h); unordered = λ c h e ts. refl; unended = λ c t e. refl }
each_quiets IsLexical b s = record { silent = λ c env h e n ts. ap reads_if (any_among s _ (bare_lexical c.is_body h (passing_bare h e) ts)); unordered = λ c h e ts. refl; unended = λ c t e. refl }
each_quiets IsSwitched b s = record { silent = λ c env h e n ts. ap reads_if (any_among s _ (bare_switched h (passing_bare h e) ts)); unordered = λ c h e ts. refl; unended = λ c t e. refl }
each_quiets InPattern b s = record { silent = λ c env h e n ts. ap reads_if (any_among s _ (passing_pattern h e n ts)); unordered = λ c h e ts. refl; unended = λ c t e. refl }
each_quiets UnderCatch b s = record { silent = λ c env h e n ts. ap reads_if (any_among s _ (bare_caught h (passing_bare h e) ts)); unordered = λ c h e ts. refl; unended = λ c t e. refl }
each_quiets ByArguments b s = record { silent = λ c env h e n ts. ap reads_if (any_among s _ (bare_arguments (is_strict_in c.strict h) h (passing_bare h e) ts)); unordered = λ c h e ts. refl; unended = λ c t e. refl }
each_quiets ByEval b s = record { silent = λ c env h e n ts. ap reads_if (unseen (by_symbol s) (opened c.used h ts) (bare_scopes c.used h (passing_bare h e) ts) 0 ts); unordered = λ c h e ts. refl; unended = λ c t e. refl }
each_quiets AmongParameters b s = record { silent = λ c env h e n ts. ap reads_if (any_among s _ (bare_params b h (passing_bare h e) ts)); unordered = λ c h e ts. refl; unended = λ c t e. refl }
each_quiets ReadEarly b s = record { silent = λ c env h e n ts. ap reads_if (no_mention _ c h); unordered = λ c h e ts. calm_alone h e c s ts; unended = λ c t e. ap (λ o. o && (is_among (by_symbol s) (names_of declared.Lexical t) || is_among (by_symbol s) (names_of declared.Bound t))) e }
