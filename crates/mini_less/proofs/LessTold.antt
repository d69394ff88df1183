-- A tree that tells at most what another does, where its names are used in some ways. So does any
-- node over it.
use Rattle.std.specs.Prelude.{ℕ, zero, suc, ◌≡◌, refl, nat_eq, Bool, true, false, not, ◌||◌, ◌&&◌, List, [], ◌∷◌, ◌++◌, map, if◌then◌else◌}
use Rattle.std.specs.List.{list_any}
use Rattle.std.proofs.Common.{ap, ◌∙◌, inl, sym, subst}
use Rattle.mini_model.specs.declared.kind.VariableDeclarationKind.{VariableDeclarationKind}
use Rattle.mini_model.specs.declared.kind.VariableDeclarationKind.TheVariants.{Var, Let, Const}
use Rattle.mini_model.specs.declared.name.Name.{Name}
use Rattle.mini_model.specs.declared.place.Position.{Position}
use Rattle.mini_model.specs.declared.shape.Shape.{Shape}
use Rattle.mini_model.specs.declared.shape.Shape.TheVariants as shape
use Rattle.mini_model.specs.Paths.{append}
use Rattle.mini_model.specs.Tree.{Tree, Trees, node, none, ◌▸◌, shape_of, is_absent}
use Rattle.mini_accept.specs.WellShaped.{Slot, fits}
use Rattle.mini_laws.specs.declared.names.Binding.{Binding}
use Rattle.mini_laws.specs.declared.names.Declared.TheVariants as declared
use Rattle.mini_laws.specs.declared.names.Use.{Use}
use Rattle.mini_laws.specs.declared.names.Use.TheVariants.{Read}
use Rattle.mini_laws.specs.DeclaredNames.{bound_names, first_names, names_of, all_names}
use Rattle.mini_laws.specs.Edits.{Kept, AllKept}
use Rattle.mini_laws.specs.Foreign.{is_write, has_number, any_has_number, own_lexical, own_pattern_names, own_switched, own_params_around, params_with}
use Rattle.mini_laws.specs.Mentions.{own_mentions, is_among, is_elsewhere}
use Rattle.mini_laws.specs.Resolved.{Environment, with_symbol, gives_value}
use Rattle.mini_laws.specs.ScopeList.{any_has_eval, by_symbol, has_eval, is_eval_call, is_eval_callee, names_in}
use Rattle.mini_laws.specs.Scopes.{is_alone, use_of, opened, opening_of, scopes_by}
use Rattle.mini_laws.specs.Shared.{given_values, is_arguments, is_name_of_variable, is_of_function, is_pattern, names_arguments, any_names_arguments, own_caught, own_pattern_writes, reached_params, spelled_among, write_at, written_by}
use Rattle.mini_laws.specs.Strict.{is_strict_in}
use Rattle.mini_laws.proofs.Changes.{all_names_kept, as_it_is, at_same, below as kept_below, scopes_kept}
use Rattle.mini_kept.specs.KeepsNames.{Stands}
use Rattle.mini_kept.specs.Placed.{fits_place}
use Rattle.mini_shrink.specs.Facts.{Fact, Written, WrittenElsewhere, Given, GivenElsewhere, GivenByPattern, MentionedElsewhere, BoundElsewhere, IsLexical, IsSwitched, InPattern, UnderCatch, ByArguments, ByEval, AmongParameters, ReadEarly, question}
use Rattle.mini_shrink.specs.Pace.{AtMost, followed, ends_after, in_turn, Setting, below, Question, pace, paces, reads_if}
use Rattle.mini_shrink.specs.Questions.{alone_names, hands_on, listed_names, seen_from}
use Rattle.mini_shrink.proofs.Owns.{implied, or_implied, and_implied, if_implied}
use Rattle.mini_shrink.proofs.Paces.{itself, same, both, ended, turned, AllAtMost}
use Rattle.mini_less.specs.Families.{LessAt}
use Rattle.mini_less.proofs.ByQuestion.{by_question}
use Rattle.mini_less.proofs.Shown.{shows_all}

-- What a node asks of a child besides what that tells: it declares the same names, and has a direct
-- eval, `arguments` and a number only where the other does
pub record Likewise (t u : Tree) : Type 0 where
  pub kept : Kept t u
  pub absent : is_absent u ≡ is_absent t
  pub pattern : is_pattern (shape_of u) ≡ is_pattern (shape_of t)
  pub eval : has_eval u ≡ true → has_eval t ≡ true
  pub callee : is_eval_callee u ≡ true → is_eval_callee t ≡ true
  pub arguments : names_arguments u ≡ true → names_arguments t ≡ true
  pub number : (b : ℕ) → has_number b u ≡ true → has_number b t ≡ true

abbrev AllLikewise : Trees → Trees → Type 0
AllLikewise none none = Unit {0}
AllLikewise none (u ▸ us) = ⊥
AllLikewise (t ▸ ts) none = ⊥
AllLikewise (t ▸ ts) (u ▸ us) = Likewise t u × AllLikewise ts us

pub itself_likewise : (t : Tree) → Likewise t t
itself_likewise t = record { kept = as_it_is t; absent = refl; pattern = refl; eval = λ e. e; callee = λ e. e; arguments = λ e. e; number = λ b e. e }

all_likewise : (ts : Trees) → AllLikewise ts ts
all_likewise none = tt
all_likewise (t ▸ ts) = (itself_likewise t, all_likewise ts)

all_kept : (ts us : Trees) → AllLikewise ts us → AllKept ts us
all_kept none none k = tt
all_kept none (u ▸ us) k = absurd k
all_kept (t ▸ ts) none k = absurd k
all_kept (t ▸ ts) (u ▸ us) k = (k.0.kept, all_kept ts us k.1)

-- one of some children
pub one_likewise : (t u : Tree) → Likewise t u → (before after : Trees) → AllLikewise (append before (t ▸ after)) (append before (u ▸ after))
one_likewise t u k none after = (k, all_likewise after)
one_likewise t u k (b ▸ before) after = (itself_likewise b, one_likewise t u k before after)

-- ---- what a node itself tells

module _ (ts us : Trees) (k : AllLikewise ts us) where
  bound_same : all_names declared.Bound us ≡ all_names declared.Bound ts
  bound_same = all_names_kept declared.Bound ts us (all_kept ts us k)

  lexical_same : all_names declared.Lexical us ≡ all_names declared.Lexical ts
  lexical_same = all_names_kept declared.Lexical ts us (all_kept ts us k)

  opens_same : (v : Use) (h : Shape) (i : ℕ) → opened v h us i ≡ opened v h ts i
  opens_same v h i = at_same (scopes_by (opening_of v h) ts) (scopes_by (opening_of v h) us) i (scopes_kept (opening_of v h) ts us (all_kept ts us k))

first_same : (ts us : Trees) → AllLikewise ts us → first_names us ≡ first_names ts
unfolding names_of
first_same none none k = refl
first_same none (u ▸ us) k = absurd k
first_same (t ▸ ts) none k = absurd k
first_same (t ▸ ts) (u ▸ us) k = k.0.kept.names declared.Bound

written_same : (xs : List Name) (t u : Tree) → bound_names u ≡ bound_names t → written_by xs u ≡ written_by xs t
written_same [] t u e = e
written_same (x ∷ xs) t u e = refl

gives_same : (v : Use) (h : Shape) (xs : List Name) (ts us : Trees) → AllLikewise ts us → given_values v h xs us ≡ given_values v h xs ts
gives_same v shape.VariableDeclarator xs none none k = refl
gives_same v shape.VariableDeclarator xs none (u ▸ us) k = absurd k
gives_same v shape.VariableDeclarator xs (t ▸ ts) none k = absurd k
gives_same v shape.VariableDeclarator xs (t ▸ none) (u ▸ none) k = refl
gives_same v shape.VariableDeclarator xs (t ▸ none) (u ▸ (j ▸ us)) k = absurd k.1
gives_same v shape.VariableDeclarator xs (t ▸ (i ▸ ts)) (u ▸ none) k = absurd k.1
gives_same v shape.VariableDeclarator xs (t ▸ (i ▸ ts)) (u ▸ (j ▸ us)) k = λ r. if gives_value v (k.1.0.absent r) then written_same xs t u (k.0.kept.names declared.Bound) r else []
gives_same v h xs ts us k = refl

patterns_same : (v : Use) (env : Environment) (h : Shape) (ts us : Trees) → AllLikewise ts us → own_pattern_writes v env h us ≡ own_pattern_writes v env h ts
patterns_same v env shape.VariableDeclarator none none k = refl
patterns_same v env shape.VariableDeclarator none (u ▸ us) k = absurd k
patterns_same v env shape.VariableDeclarator (t ▸ ts) none k = absurd k
patterns_same v env shape.VariableDeclarator (t ▸ none) (u ▸ none) k = refl
patterns_same v env shape.VariableDeclarator (t ▸ none) (u ▸ (j ▸ us)) k = absurd k.1
patterns_same v env shape.VariableDeclarator (t ▸ (i ▸ ts)) (u ▸ none) k = absurd k.1
patterns_same v env shape.VariableDeclarator (t ▸ (i ▸ ts)) (u ▸ (j ▸ us)) k = λ r. if gives_value v (k.1.0.absent r) then map (with_symbol Read env) (if k.0.pattern r then k.0.kept.names declared.Bound r else []) else []
patterns_same v env h ts us k = refl

class_same : (b d : Bool) (ts us : Trees) → AllLikewise ts us → own_lexical b (shape.Class d) us ≡ own_lexical b (shape.Class d) ts
class_same b d none none k = refl
class_same b d none (u ▸ us) k = absurd k
class_same b d (t ▸ ts) none k = absurd k
class_same b d (t ▸ none) (u ▸ none) k = refl
class_same b d (t ▸ none) (u ▸ (v ▸ us)) k = absurd k.1
class_same b d (t ▸ (s ▸ ts)) (u ▸ none) k = absurd k.1
class_same b d (t ▸ (s ▸ none)) (u ▸ (v ▸ none)) k = refl
class_same b d (t ▸ (s ▸ none)) (u ▸ (v ▸ (w ▸ us))) k = absurd k.1.1
class_same b d (t ▸ (s ▸ (r ▸ ts))) (u ▸ (v ▸ none)) k = absurd k.1.1
class_same b d (t ▸ (s ▸ (r ▸ none))) (u ▸ (v ▸ (w ▸ none))) k = refl
class_same b d (t ▸ (s ▸ (r ▸ none))) (u ▸ (v ▸ (w ▸ (x ▸ us)))) k = absurd k.1.1.1
class_same b d (t ▸ (s ▸ (r ▸ (q ▸ ts)))) (u ▸ (v ▸ (w ▸ none))) k = absurd k.1.1.1
class_same b d (t ▸ (s ▸ (r ▸ (q ▸ ts)))) (u ▸ (v ▸ (w ▸ (x ▸ us)))) k = λ j. k.0.kept.names declared.Bound j ++ k.1.1.1.0.kept.names declared.Bound j

lexicals_same : (b : Bool) (h : Shape) (ts us : Trees) → AllLikewise ts us → own_lexical b h us ≡ own_lexical b h ts
lexicals_same b (shape.VariableDeclaration Var) ts us k = refl
lexicals_same b (shape.VariableDeclaration d) ts us k = bound_same ts us k
lexicals_same true (shape.Function true g ds) ts us k = refl
lexicals_same b (shape.Function d g ds) ts us k = first_same ts us k
lexicals_same b (shape.Class d) ts us k = class_same b d ts us k
lexicals_same b shape.CatchClause ts us k = first_same ts us k
lexicals_same b shape.ImportDeclaration ts us k = bound_same ts us k
lexicals_same b h ts us k = refl

switched_same : (h : Shape) (ts us : Trees) → AllLikewise ts us → own_switched h us ≡ own_switched h ts
switched_same shape.SwitchStatement ts us k = lexical_same ts us k
switched_same h ts us k = refl

in_pattern_same : (h : Shape) (n : ℕ) (ts us : Trees) → AllLikewise ts us → own_pattern_names h n us ≡ own_pattern_names h n ts
in_pattern_same shape.ObjectPattern n ts us k = bound_same ts us k
in_pattern_same shape.ArrayPattern n ts us k = bound_same ts us k
in_pattern_same shape.AssignmentPattern zero ts us k = refl
in_pattern_same shape.AssignmentPattern (suc n) ts us k = bound_same ts us k
in_pattern_same h n ts us k = refl

caught_same : (h : Shape) (ts us : Trees) → AllLikewise ts us → own_caught h us ≡ own_caught h ts
caught_same shape.CatchClause none none k = refl
caught_same shape.CatchClause none (u ▸ us) k = absurd k
caught_same shape.CatchClause (t ▸ ts) none k = absurd k
caught_same shape.CatchClause (t ▸ ts) (u ▸ us) k = λ j. spelled_among (k.0.kept.names declared.Bound j) (all_names_kept declared.Hoisted ts us (all_kept ts us k.1) j)
caught_same h ts us k = refl

-- the name that is asked for, among those that `arguments` or parameters reach
module _ (x : Name) where
  reached : (strict : Bool) (p q b d : Tree) → Likewise p q → Likewise b d → is_among x (if not strict && (names_arguments q || names_arguments d) then bound_names q else []) ≡ true → is_among x (if not strict && (names_arguments p || names_arguments b) then bound_names p else []) ≡ true
  reached strict p q b d k m e =
      let names : Bool = not strict && (names_arguments p || names_arguments b) in
      let later : Bool = not strict && (names_arguments q || names_arguments d) in
      if_implied later names x (bound_names p) (and_implied (not strict) (names_arguments q || names_arguments d) (not strict) (names_arguments p || names_arguments b) (λ y. y) (or_implied (names_arguments q) (names_arguments d) (names_arguments p) (names_arguments b) k.arguments m.arguments))
      (sym (ap (λ ys. is_among x (if later then ys else [])) (k.kept.names declared.Bound)) ∙ e)

  reached_less : (strict : Bool) (h : Shape) (ts us : Trees) → AllLikewise ts us → is_among x (reached_params strict h us) ≡ true → is_among x (reached_params strict h ts) ≡ true
  reached_less strict (shape.Function d g ds) none none k e = e
  reached_less strict (shape.Function d g ds) none (u ▸ us) k e = absurd k
  reached_less strict (shape.Function d g ds) (t ▸ ts) none k e = absurd k
  reached_less strict (shape.Function d g ds) (t ▸ none) (u ▸ none) k e = e
  reached_less strict (shape.Function d g ds) (t ▸ none) (u ▸ (q ▸ us)) k e = absurd k.1
  reached_less strict (shape.Function d g ds) (t ▸ (p ▸ ts)) (u ▸ none) k e = absurd k.1
  reached_less strict (shape.Function d g ds) (t ▸ (p ▸ none)) (u ▸ (q ▸ none)) k e = e
  reached_less strict (shape.Function d g ds) (t ▸ (p ▸ none)) (u ▸ (q ▸ (b ▸ us))) k e = absurd k.1.1
  reached_less strict (shape.Function d g ds) (t ▸ (p ▸ (b ▸ ts))) (u ▸ (q ▸ none)) k e = absurd k.1.1
  reached_less strict (shape.Function d g ds) (t ▸ (p ▸ (b ▸ ts))) (u ▸ (q ▸ (c ▸ us))) k e = reached strict p q b c k.1.0 k.1.1.0 e
  reached_less strict h ts us k e = e

  params_less : (b : ℕ) (t u : Tree) → Likewise t u → is_among x (params_with b u) ≡ true → is_among x (params_with b t) ≡ true
  params_less b t u k e = if_implied (has_number b u) (has_number b t) x (bound_names t) (k.number b) (sym (ap (λ ys. is_among x (if has_number b u then ys else [])) (k.kept.names declared.Bound)) ∙ e)

  around_less : (b : ℕ) (h : Shape) (ts us : Trees) → AllLikewise ts us → is_among x (own_params_around b h us) ≡ true → is_among x (own_params_around b h ts) ≡ true
  around_less b (shape.Function d g ds) none none k e = e
  around_less b (shape.Function d g ds) none (u ▸ us) k e = absurd k
  around_less b (shape.Function d g ds) (t ▸ ts) none k e = absurd k
  around_less b (shape.Function d g ds) (t ▸ none) (u ▸ none) k e = e
  around_less b (shape.Function d g ds) (t ▸ none) (u ▸ (q ▸ us)) k e = absurd k.1
  around_less b (shape.Function d g ds) (t ▸ (p ▸ ts)) (u ▸ none) k e = absurd k.1
  around_less b (shape.Function d g ds) (t ▸ (p ▸ ts)) (u ▸ (q ▸ us)) k e = params_less b p q k.1.0 e
  around_less b (shape.ArrowFunctionExpression ds) none none k e = e
  around_less b (shape.ArrowFunctionExpression ds) none (u ▸ us) k e = absurd k
  around_less b (shape.ArrowFunctionExpression ds) (t ▸ ts) none k e = absurd k
  around_less b (shape.ArrowFunctionExpression ds) (t ▸ ts) (u ▸ us) k e = params_less b t u k.0 e
  around_less b h ts us k e = e

evals_less : (ts us : Trees) → AllLikewise ts us → any_has_eval us ≡ true → any_has_eval ts ≡ true
unfolding has_eval
evals_less none none k e = e
evals_less none (u ▸ us) k e = absurd k
evals_less (t ▸ ts) none k e = absurd k
evals_less (t ▸ ts) (u ▸ us) k e = or_implied (has_eval u) (any_has_eval us) (has_eval t) (any_has_eval ts) k.0.eval (evals_less ts us k.1) e

seen_less : (x : Name) (sc : ℕ → List Binding) (i : ℕ) (ts us : Trees) → AllLikewise ts us → seen_from sc i us x ≡ true → seen_from sc i ts x ≡ true
seen_less x sc i none none k e = e
seen_less x sc i none (u ▸ us) k e = absurd k
seen_less x sc i (t ▸ ts) none k e = absurd k
seen_less x sc i (t ▸ ts) (u ▸ us) k e =
    or_implied (any_has_eval (u ▸ us) && is_among x (names_in (sc i))) (seen_from sc (suc i) us x) (any_has_eval (t ▸ ts) && is_among x (names_in (sc i))) (seen_from sc (suc i) ts x)
    (and_implied (any_has_eval (u ▸ us)) (is_among x (names_in (sc i))) (any_has_eval (t ▸ ts)) (is_among x (names_in (sc i))) (evals_less (t ▸ ts) (u ▸ us) k) (λ y. y)) (seen_less x sc (suc i) ts us k.1) e

-- ---- each fact

alone_same : (v : Use) (k : VariableDeclarationKind) (t u : Tree) → names_of declared.Bound u ≡ names_of declared.Bound t → alone_names v k u ≡ alone_names v k t
alone_same v Var t u e = refl
alone_same v Let t u e = ap (λ ns. if is_alone v then ns else []) e
alone_same v Const t u e = ap (λ ns. if is_alone v then ns else []) e

listed_same : (v : Use) (h : Shape) (ts us : Trees) → AllLikewise ts us → listed_names v h us ≡ listed_names v h ts
listed_same v h none none k = refl
listed_same v h none (u ▸ us) k = absurd k
listed_same v h (t ▸ ts) none k = absurd k
listed_same v (shape.Program m ds) (t ▸ ts) (u ▸ us) k = k.0.kept.names declared.Lexical
listed_same v shape.FunctionBody (t ▸ ts) (u ▸ us) k = k.0.kept.names declared.Lexical
listed_same v shape.StaticBlock (t ▸ ts) (u ▸ us) k = k.0.kept.names declared.Lexical
listed_same v shape.BlockStatement (t ▸ ts) (u ▸ us) k = k.0.kept.names declared.Lexical
listed_same v shape.ForStatement (t ▸ ts) (u ▸ us) k = k.0.kept.names declared.Lexical
listed_same v shape.ForInStatement (t ▸ ts) (u ▸ us) k = k.0.kept.names declared.Lexical
listed_same v shape.ForOfStatement (t ▸ ts) (u ▸ us) k = k.0.kept.names declared.Lexical
listed_same v shape.SwitchStatement (t ▸ none) (u ▸ none) k = refl
listed_same v shape.SwitchStatement (t ▸ none) (u ▸ (x ▸ us)) k = absurd k.1
listed_same v shape.SwitchStatement (t ▸ (s ▸ ts)) (u ▸ none) k = absurd k.1
listed_same v shape.SwitchStatement (t ▸ (s ▸ ts)) (u ▸ (x ▸ us)) k = k.1.0.kept.names declared.Lexical
listed_same v (shape.VariableDeclaration k) (t ▸ ts) (u ▸ us) l = alone_same v k t u (l.0.kept.names declared.Bound)
listed_same v shape.CatchClause (t ▸ ts) (u ▸ us) k = k.0.kept.names declared.Bound
listed_same v h (t ▸ ts) (u ▸ us) k = refl

among_same : (s : ℕ) (xs ys : List Name) → ys ≡ xs → AtMost (reads_if (is_among (by_symbol s) ys)) (reads_if (is_among (by_symbol s) xs))
among_same s xs ys e = same _ _ (ap (λ zs. reads_if (is_among (by_symbol s) zs)) e)

before_less : (g : Fact) (b s : ℕ) (c : Setting) (env : Environment) (h : Shape) (xs : List Name) (n : ℕ) (ts us : Trees) → AllLikewise ts us → AtMost ((question g b s).before c env h xs n us) ((question g b s).before c env h xs n ts)
before_less Written b s c env h xs n ts us k = itself _
before_less WrittenElsewhere b s c env h xs n ts us k = itself _
before_less Given b s c env h xs n ts us k = same _ _ (ap (λ ys. reads_if (list_any (is_write (by_symbol s)) (own_mentions c.used c.around h xs) || list_any (is_write (by_symbol s)) (map (write_at c.around) ys))) (gives_same c.used h xs ts us k))
before_less GivenElsewhere b s c env h xs n ts us k = same _ _ (ap (λ ys. reads_if (list_any (λ m. is_write (by_symbol s) m && is_elsewhere b m.around) (own_mentions c.used c.around h xs) || list_any (λ m. is_write (by_symbol s) m && is_elsewhere b m.around) (map (write_at c.around) ys))) (gives_same c.used h xs ts us k))
before_less GivenByPattern b s c env h xs n ts us k = among_same s (own_pattern_writes c.used env h ts) (own_pattern_writes c.used env h us) (patterns_same c.used env h ts us k)
before_less MentionedElsewhere b s c env h xs n ts us k = itself _
before_less BoundElsewhere b s c env h xs n ts us k = itself _
before_less IsLexical b s c env h xs n ts us k = among_same s (own_lexical c.is_body h ts) (own_lexical c.is_body h us) (lexicals_same c.is_body h ts us k)
before_less IsSwitched b s c env h xs n ts us k = among_same s (own_switched h ts) (own_switched h us) (switched_same h ts us k)
before_less InPattern b s c env h xs n ts us k = among_same s (own_pattern_names h n ts) (own_pattern_names h n us) (in_pattern_same h n ts us k)
before_less UnderCatch b s c env h xs n ts us k = among_same s (own_caught h ts) (own_caught h us) (caught_same h ts us k)
before_less ByArguments b s c env h xs n ts us k = implied _ _ (reached_less (by_symbol s) (is_strict_in c.strict h) h ts us k)
before_less ByEval b s c env h xs n ts us k = implied _ _ (λ e. seen_less (by_symbol s) (opened c.used h ts) 0 ts us k ((λ j. seen_from (λ i. sym (opens_same ts us k c.used h i) j) 0 us (by_symbol s)) ∙ e))
before_less AmongParameters b s c env h xs n ts us k = implied _ _ (around_less (by_symbol s) b h ts us k)
before_less ReadEarly b s c env h xs n ts us k = itself _

orders_same : (g : Fact) (b s : ℕ) (c : Setting) (h : Shape) (ts us : Trees) → AllLikewise ts us → (question g b s).orders c h us ≡ (question g b s).orders c h ts
orders_same g b s c h ts us k = by_question (λ q. q.orders c h us ≡ q.orders c h ts) (λ o. refl) (λ m r. ap (λ ys. (hands_on h && c.ordered) || is_among (by_symbol r) ys) (listed_same c.used h ts us k)) g b s

pub ends_same : (g : Fact) (b s : ℕ) (c : Setting) (t u : Tree) → Kept t u → (question g b s).ends c u ≡ (question g b s).ends c t
ends_same g b s c t u k = by_question (λ q. q.ends c u ≡ q.ends c t) (λ o. refl) (λ m r j. c.ordered && (is_among (by_symbol r) (k.names declared.Lexical j) || is_among (by_symbol r) (k.names declared.Bound j))) g b s

-- ---- a node over a child

-- the child behind some others, from an index on
abbrev pub behind : ℕ → Trees → ℕ
behind i none = i
behind i (b ▸ before) = behind (suc i) before

module _ (q : Question) (t u : Tree) (ends : (c : Setting) → q.ends c u ≡ q.ends c t) (after : Trees) where
  same_paces : (sc : ℕ → List Binding) (cs : ℕ → Setting) (i : ℕ) (env : Environment) (ts : Trees) → AllAtMost (paces q sc cs i env ts) (paces q sc cs i env ts)
  unfolding pace
  same_paces sc cs i env none = tt
  same_paces sc cs i env (b ▸ ts) = (itself _, same_paces sc cs (suc i) (env ++ sc i) ts)

  child_less : (sc : ℕ → List Binding) (cs : ℕ → Setting) (i : ℕ) (env : Environment) (before : Trees) → ((e : Environment) → AtMost (pace q (cs (behind i before)) e u) (pace q (cs (behind i before)) e t)) → AllAtMost (paces q sc cs i env (append before (u ▸ after))) (paces q sc cs i env (append before (t ▸ after)))
  unfolding pace
  child_less sc cs i env none f = (
    subst (λ b. AtMost (ends_after b (pace q (cs i) (env ++ sc i) u)) (ends_after (q.ends (cs i) t) (pace q (cs i) (env ++ sc i) t))) (sym (ends (cs i))) (ended (q.ends (cs i) t) (pace q (cs i) (env ++ sc i) u) (pace q (cs i) (env ++ sc i) t) (f (env ++ sc i))),
    same_paces sc cs (suc i) (env ++ sc i) after,
  )
  child_less sc cs i env (b ▸ before) f = (itself _, child_less sc cs (suc i) (env ++ sc i) before f)

  -- so the node tells at most that, if it does itself
  pub node_less : (c : Setting) (env : Environment) (h : Shape) (xs : List Name) (n : ℕ) (before : Trees) → AtMost (q.before c env h xs n (append before (u ▸ after))) (q.before c env h xs n (append before (t ▸ after))) → q.orders c h (append before (u ▸ after)) ≡ q.orders c h (append before (t ▸ after))
      → ((i : ℕ) → opened c.used h (append before (u ▸ after)) i ≡ opened c.used h (append before (t ▸ after)) i) → ((e : Environment) → AtMost (pace q (below (q.orders c h (append before (t ▸ after))) c h n (behind 0 before)) e u) (pace q (below (q.orders c h (append before (t ▸ after))) c h n (behind 0 before)) e t))
      → AtMost (pace q c env (node h xs n (append before (u ▸ after)))) (pace q c env (node h xs n (append before (t ▸ after))))
  unfolding pace
  node_less c env h xs n before root orders opens child =
      let old = append before (t ▸ after) in
      let new = append before (u ▸ after) in
      let cs = below (q.orders c h old) c h n in
      subst (λ p. AtMost p (pace q c env (node h xs n old))) (sym (λ j. followed (q.before c env h xs n new) (in_turn h (paces q (λ i. opens i j) (below (orders j) c h n) 0 env new))))
      (both (q.before c env h xs n new) (q.before c env h xs n old) (in_turn h (paces q (opened c.used h old) cs 0 env new)) (in_turn h (paces q (opened c.used h old) cs 0 env old)) root
      (turned h (paces q (opened c.used h old) cs 0 env new) (paces q (opened c.used h old) cs 0 env old) (child_less (opened c.used h old) cs 0 env before child)))

-- ---- what trees tell

pub record LessTold (V : Use → Type 0) (t u : Tree) : Type 0 where
  pub likewise : Likewise t u
  pub said : (g : Fact) (b s : ℕ) (c : Setting) → V c.used → (env : Environment) → AtMost (pace (question g b s) c env u) (pace (question g b s) c env t)

-- however its names are used
abbrev pub Anyhow : Use → Type 0
Anyhow v = Unit {0}

arguments_less : (f : ℕ → Bool) (i : ℕ) (ts us : Trees) → AllLikewise ts us → any_names_arguments f i us ≡ true → any_names_arguments f i ts ≡ true
unfolding names_arguments
arguments_less f i none none k e = e
arguments_less f i none (u ▸ us) k e = absurd k
arguments_less f i (t ▸ ts) none k e = absurd k
arguments_less f i (t ▸ ts) (u ▸ us) k e =
    or_implied (f i && names_arguments u) (any_names_arguments f (suc i) us) (f i && names_arguments t) (any_names_arguments f (suc i) ts) (and_implied (f i) (names_arguments u) (f i) (names_arguments t) (λ y. y) k.0.arguments) (arguments_less f (suc i) ts us k.1) e

numbers_less : (b : ℕ) (ts us : Trees) → AllLikewise ts us → any_has_number b us ≡ true → any_has_number b ts ≡ true
unfolding has_number
numbers_less b none none k e = e
numbers_less b none (u ▸ us) k e = absurd k
numbers_less b (t ▸ ts) none k e = absurd k
numbers_less b (t ▸ ts) (u ▸ us) k e = or_implied (has_number b u) (any_has_number b us) (has_number b t) (any_has_number b ts) (k.0.number b) (numbers_less b ts us k.1) e

calls_less : (h : Shape) (ts us : Trees) → AllLikewise ts us → is_eval_call h us ≡ true → is_eval_call h ts ≡ true
calls_less (shape.CallExpression false) none none k e = e
calls_less (shape.CallExpression false) none (u ▸ us) k e = absurd k
calls_less (shape.CallExpression false) (t ▸ ts) none k e = absurd k
calls_less (shape.CallExpression false) (t ▸ ts) (u ▸ us) k e = k.0.callee e
calls_less h ts us k e = absurd (cc e)

callee_less : (h : Shape) (xs : List Name) (n : ℕ) (ts us : Trees) → is_eval_callee (node h xs n us) ≡ true → is_eval_callee (node h xs n ts) ≡ true
callee_less shape.Identifier xs n ts us e = e
callee_less h xs n ts us e = absurd (cc e)

node_likewise : (h : Shape) (xs : List Name) (n : ℕ) (ts us : Trees) → AllLikewise ts us → Likewise (node h xs n ts) (node h xs n us)
unfolding has_eval names_arguments has_number
node_likewise h xs n ts us k = record {
  kept = kept_below h xs n ts us (all_kept ts us k);
  absent = refl;
  pattern = refl;
  eval = or_implied (is_eval_call h us) (any_has_eval us) (is_eval_call h ts) (any_has_eval ts) (calls_less h ts us k) (evals_less ts us k);
  callee = callee_less h xs n ts us;
  arguments = or_implied (is_name_of_variable h && is_arguments xs) (any_names_arguments (is_of_function h) 0 us) (is_name_of_variable h && is_arguments xs) (any_names_arguments (is_of_function h) 0 ts) (λ y. y) (arguments_less (is_of_function h) 0 ts us k);
  number = λ b. or_implied (nat_eq n b) (any_has_number b us) (nat_eq n b) (any_has_number b ts) (λ y. y) (numbers_less b ts us k);
}

module _ (V W : Use → Type 0) (t u : Tree) (k : LessTold V t u) (before after : Trees) where
  abbrev old : Trees
  old = append before (t ▸ after)

  abbrev new : Trees
  new = append before (u ▸ after)

  each : AllLikewise old new
  each = one_likewise t u k.likewise before after

  pub over_less : (h : Shape) (xs : List Name) (n : ℕ) → ((v : Use) → W v → V (use_of h v (behind 0 before))) → LessTold W (node h xs n old) (node h xs n new)
  over_less h xs n uses = record {
    likewise = node_likewise h xs n old new each;
    said = λ g b s c w env.
        let q = question g b s in
        node_less q t u (λ c. ends_same g b s c t u k.likewise.kept) after c env h xs n before (before_less g b s c env h xs n old new each) (orders_same g b s c h old new each) (opens_same old new each c.used h) (k.said g b s (below (q.orders c h old) c h n (behind 0 before)) (uses c.used w));
  }

-- so what is written for a node asks less
pub less_told : (V : Use → Type 0) (p : Position) (n w : Tree) → ((strict : Bool) (s : Slot) → fits_place p s ≡ true → fits strict s n ≡ true → LessTold V n w) → ((v : Use) → Stands p v n → V v) → LessAt p n w
less_told V p n w f uses = record {
  asks = shows_all _ _ _ (λ g b s. record { by = λ strict slot o fit c env st sc. inl ((f strict slot o fit).said g b s c (uses c.used st) env) });
  fewer = λ strict slot o fit.
      let k = (f strict slot o fit).likewise in
      record { eval = k.eval; flags = record { arguments = k.arguments; number = k.number }; callee = λ e. k.callee };
}

pub told_along : (V : Use → Type 0) (n w t u : Tree) → n ≡ t → w ≡ u → LessTold V t u → LessTold V n w
told_along V n w t u a b k = subst (λ x. LessTold V x w) (sym a) (subst (LessTold V t) (sym b) k)
