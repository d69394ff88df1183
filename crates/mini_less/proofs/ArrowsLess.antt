-- The row of arrow functions asks less: the body that returns a value tells what the value does.
use Rattle.std.specs.Prelude.{ℕ, ◌≡◌, refl, nat_eq, Bool, true, false, ◌||◌, ◌&&◌, [], ◌++◌, None}
use Rattle.std.proofs.Common.{ap, ◌∙◌, inl, sym, subst, true≢false}
use Rattle.std.proofs.lemmas.List.{append-nil}
use Rattle.mini_model.specs.declared.place.Position.{Position}
use Rattle.mini_model.specs.declared.place.Position.TheVariants.{Expr}
use Rattle.mini_model.specs.declared.seat.Seat.{Seat}
use Rattle.mini_model.specs.declared.shape.Shape.{Shape}
use Rattle.mini_model.specs.declared.shape.Shape.TheVariants as shape
use Rattle.mini_model.specs.Tree.{Tree, Trees, node, none, ◌▸◌, listed, is_absent}
use Rattle.mini_accept.specs.WellShaped.{Slot, one, one_or_absent, an_expression, a_link, an_argument, an_init, an_arrow_body, a_default_export, a_key, a_statement, a_private_or_key, an_inner_key, Class, a_parameter, a_pattern_rest, many_and_rest, Depth, in_module, in_body, nested, statement_slots, filling_by, is_whole, is_strict_in, fits}
use Rattle.mini_laws.specs.declared.names.Use.{Use}
use Rattle.mini_laws.specs.DeclaredNames.{body_names, names_of}
use Rattle.mini_laws.specs.Foreign.{has_number, own_lexical}
use Rattle.mini_laws.specs.Mentions.{is_among}
use Rattle.mini_laws.specs.Resolved.{Environment}
use Rattle.mini_laws.specs.ScopeList.{has_eval, by_symbol, is_eval_callee, names_in}
use Rattle.mini_laws.specs.Scopes.{opened, scopes_by, body_scope, merged}
use Rattle.mini_laws.specs.Shared.{names_arguments}
use Rattle.mini_laws.specs.declared.names.Use.TheVariants.{Read}
use Rattle.mini_laws.specs.DeclaredNames.{bound_names}
use Rattle.mini_kept.proofs.Bools.{left}
use Rattle.mini_kept.proofs.Expressions.{expression, refused_here}
use Rattle.mini_kept.proofs.Quiet.{IsQuiet, expression_is_quiet, no_body_names}
use Rattle.mini_shrink.specs.Facts.{Fact, Written, WrittenElsewhere, Given, GivenElsewhere, GivenByPattern, MentionedElsewhere, BoundElsewhere, IsLexical, IsSwitched, InPattern, UnderCatch, ByArguments, ByEval, AmongParameters, ReadEarly, question}
use Rattle.mini_shrink.specs.Pace.{Pace, Ends, Silent, Reads, followed, ends_after, in_turn, Setting, below, Question, pace, paces, reads_if}
use Rattle.mini_shrink.specs.Questions.{seen_from}
use Rattle.mini_shrink.proofs.Owns.{or_implied}
use Rattle.mini_shrink.proofs.Paces.{same}
use Rattle.mini_rows.specs.Arrows.{arrow, returning, Row59, ArrowRow, ArrowContracts}
use Rattle.mini_rows.specs.Lists.{return_statement}
use Rattle.mini_less.specs.Arrows.{ArrowsReadLess}
use Rattle.mini_less.specs.Families.{LessAt}
use Rattle.mini_less.proofs.Calm.{Quiets, each_quiets}
use Rattle.mini_less.proofs.LessRows.{reads_less_by}
use Rattle.mini_less.proofs.Shown.{shows_all}

-- ---- the value that is returned is an expression

last_part : (w p a : Bool) → (w && (p && (a && true))) ≡ true → a ≡ true
last_part true true a e = left a true e
last_part true false a e = absurd (true≢false (sym e))
last_part false p a e = absurd (true≢false (sym e))

arrow_nowhere : (strict : Bool) (d : Depth) → statement_slots strict d (shape.ArrowFunctionExpression []) ≡ None
arrow_nowhere true in_module = refl
arrow_nowhere true in_body = refl
arrow_nowhere true nested = refl
arrow_nowhere false in_module = refl
arrow_nowhere false in_body = refl
arrow_nowhere false nested = refl

module _ (k : ℕ) (ps v : Tree) (there : is_absent v ≡ false) where
  value_fits : (strict : Bool) (v : Tree) → is_absent v ≡ false → fits strict (one an_arrow_body) (returning v) ≡ true → fits strict expression v ≡ true
  value_fits strict (node shape.Absent xs n ts) h e = absurd (true≢false h)
  value_fits strict (node g xs n ts) h e = left (fits strict expression (node g xs n ts)) true (left (fits strict expression (node g xs n ts) && true) true (left ((fits strict expression (node g xs n ts) && true) && true) true e))

  abbrev inner : Bool → Bool
  inner strict = is_strict_in strict (shape.ArrowFunctionExpression [])

  abbrev IsHere : Bool → Class → Type 0
  IsHere strict c = (is_whole c (shape.ArrowFunctionExpression []) [] k (ps ▸ (returning v ▸ none)) && (fits (inner strict) (many_and_rest a_parameter a_pattern_rest) ps && (fits (inner strict) (one an_arrow_body) (returning v) && true))) ≡ true

  value_in : (strict : Bool) (c : Class) → IsHere strict c → IsQuiet v
  value_in strict c e = expression_is_quiet (inner strict) v (value_fits (inner strict) v there (last_part (is_whole c (shape.ArrowFunctionExpression []) [] k (ps ▸ (returning v ▸ none))) (fits (inner strict) (many_and_rest a_parameter a_pattern_rest) ps) (fits (inner strict) (one an_arrow_body) (returning v)) e))

  value_of : (strict : Bool) (c : Class) → fits strict (one c) (arrow k ps (returning v)) ≡ true → IsQuiet v
  value_of strict an_expression e = value_in strict an_expression e
  value_of strict a_link e = value_in strict a_link e
  value_of strict an_argument e = value_in strict an_argument e
  value_of strict an_init e = value_in strict an_init e
  value_of strict an_arrow_body e = value_in strict an_arrow_body e
  value_of strict a_default_export e = value_in strict a_default_export e
  value_of strict (a_key true) e = value_in strict (a_key true) e
  value_of strict (a_key false) e = absurd (refused_here strict (one (a_key false)) (shape.ArrowFunctionExpression []) [] k (ps ▸ (returning v ▸ none)) refl e)
  value_of strict (a_statement d) e = absurd (refused_here strict (one (a_statement d)) (shape.ArrowFunctionExpression []) [] k (ps ▸ (returning v ▸ none)) (ap filling_by (arrow_nowhere strict d)) e)
  value_of strict (a_private_or_key true) e = absurd (refused_here strict (one (a_private_or_key true)) (shape.ArrowFunctionExpression []) [] k (ps ▸ (returning v ▸ none)) refl e)
  value_of strict (an_inner_key true) e = absurd (refused_here strict (one (an_inner_key true)) (shape.ArrowFunctionExpression []) [] k (ps ▸ (returning v ▸ none)) refl e)
  value_of strict c e = absurd (refused_here strict (one c) (shape.ArrowFunctionExpression []) [] k (ps ▸ (returning v ▸ none)) refl e)

  value_quiet : (strict : Bool) (s : Slot) → fits strict s (arrow k ps (returning v)) ≡ true → IsQuiet v
  value_quiet strict (one c) e = value_of strict c e
  value_quiet strict (one_or_absent c) e = value_of strict c e
  value_quiet strict s e = absurd (refused_here strict s (shape.ArrowFunctionExpression []) [] k (ps ▸ (returning v ▸ none)) refl e)

-- ---- a body that returns

or_none : (b : Bool) → (b || false) ≡ b
or_none true = refl
or_none false = refl

and_true : (b : Bool) → (b && true) ≡ b
and_true true = refl
and_true false = refl

-- no declaration's end is told past the body, its list or an arrow function
record PassesBodies (q : Question) : Type 0 where
  body : (c : Setting) (v : Tree) → q.orders c shape.FunctionBody (listed (return_statement v ▸ none) ▸ none) ≡ false
  list : (c : Setting) (ts : Trees) → c.ordered ≡ false → q.orders c shape.Listed ts ≡ false
  function : (c : Setting) (ts : Trees) → q.orders c (shape.ArrowFunctionExpression []) ts ≡ false

each_passes : (g : Fact) (b s : ℕ) → PassesBodies (question g b s)
unfolding names_of
each_passes Written b s = record { body = λ c v. refl; list = λ c ts o. refl; function = λ c ts. refl }
each_passes WrittenElsewhere b s = record { body = λ c v. refl; list = λ c ts o. refl; function = λ c ts. refl }
each_passes Given b s = record { body = λ c v. refl; list = λ c ts o. refl; function = λ c ts. refl }
each_passes GivenElsewhere b s = record { body = λ c v. refl; list = λ c ts o. refl; function = λ c ts. refl }
each_passes GivenByPattern b s = record { body = λ c v. refl; list = λ c ts o. refl; function = λ c ts. refl }
each_passes MentionedElsewhere b s = record { body = λ c v. refl; list = λ c ts o. refl; function = λ c ts. refl }
each_passes BoundElsewhere b s = record { body = λ c v. refl; list = λ c ts o. refl; function = λ c ts. refl }
each_passes IsLexical b s = record { body = λ c v. refl; list = λ c ts o. refl; function = λ c ts. refl }
each_passes IsSwitched b s = record { body = λ c v. refl; list = λ c ts o. refl; function = λ c ts. refl }
each_passes InPattern b s = record { body = λ c v. refl; list = λ c ts o. refl; function = λ c ts. refl }
each_passes UnderCatch b s = record { body = λ c v. refl; list = λ c ts o. refl; function = λ c ts. refl }
each_passes ByArguments b s = record { body = λ c v. refl; list = λ c ts o. refl; function = λ c ts. refl }
each_passes ByEval b s = record { body = λ c v. refl; list = λ c ts o. refl; function = λ c ts. refl }
each_passes AmongParameters b s = record { body = λ c v. refl; list = λ c ts o. refl; function = λ c ts. refl }
each_passes ReadEarly b s = record { body = λ c v. refl; list = λ c ts o. ap (λ x. x || false) o; function = λ c ts. refl }

abbrev passed : Pace → Pace
passed p = followed (ends_after false p) Silent

passed_thrice : (p : Pace) → ends_after false (passed (passed (passed p))) ≡ ends_after false p
passed_thrice Ends = refl
passed_thrice Silent = refl
passed_thrice Reads = refl

module _ (q : Question) (z : Quiets q) (m : PassesBodies q) (v : Tree) where
  abbrev in_return : Setting → Setting
  in_return c = below false (below false (below false c shape.FunctionBody 0 0) shape.Listed 0 0) shape.ReturnStatement 0 0

  return_says : (c : Setting) (env : Environment) → pace q c env (return_statement v) ≡ passed (pace q (below false c shape.ReturnStatement 0 0) (env ++ []) v)
  unfolding pace scopes_by
  return_says c env =
      (λ j. followed (z.silent c env shape.ReturnStatement refl 0 (v ▸ none) j) (in_turn shape.ReturnStatement (paces q (opened c.used shape.ReturnStatement (v ▸ none)) (below (z.unordered c shape.ReturnStatement refl (v ▸ none) j) c shape.ReturnStatement 0) 0 env (v ▸ none))))
      ∙ ap (λ b. followed (ends_after b (pace q (below false c shape.ReturnStatement 0 0) (env ++ []) v)) Silent) (z.unended (below false c shape.ReturnStatement 0 0) v refl)

  list_says : (c : Setting) (env : Environment) → c.ordered ≡ false → pace q c env (listed (return_statement v ▸ none)) ≡ passed (pace q (below false c shape.Listed 0 0) (env ++ []) (return_statement v))
  unfolding pace scopes_by
  list_says c env o =
      let ts = return_statement v ▸ none in
      (λ j. followed (z.silent c env shape.Listed refl 0 ts j) (in_turn shape.Listed (paces q (opened c.used shape.Listed ts) (below (m.list c ts o j) c shape.Listed 0) 0 env ts)))
      ∙ ap (λ b. followed (ends_after b (pace q (below false c shape.Listed 0 0) (env ++ []) (return_statement v))) Silent) (z.unended (below false c shape.Listed 0 0) (return_statement v) refl)

  body_says : (c : Setting) (env : Environment) → pace q c env (returning v) ≡ passed (pace q (below false c shape.FunctionBody 0 0) (env ++ []) (listed (return_statement v ▸ none)))
  unfolding pace scopes_by
  body_says c env =
      let ts = listed (return_statement v ▸ none) ▸ none in
      (λ j. followed (z.silent c env shape.FunctionBody refl 0 ts j) (in_turn shape.FunctionBody (paces q (opened c.used shape.FunctionBody ts) (below (m.body c v j) c shape.FunctionBody 0) 0 env ts)))
      ∙ ap (λ b. followed (ends_after b (pace q (below false c shape.FunctionBody 0 0) (env ++ []) (listed (return_statement v ▸ none)))) Silent) (z.unended (below false c shape.FunctionBody 0 0) (listed (return_statement v ▸ none)) refl)

  returning_says : (c : Setting) (env : Environment) → c.used ≡ Read → c.is_body ≡ false → c.ordered ≡ false → ends_after false (pace q c env (returning v)) ≡ ends_after false (pace q c env v)
  returning_says c env u b o =
      let same_setting : in_return c ≡ c = λ j. record { used = sym u j; around = c.around; strict = c.strict; is_body = sym b j; belongs = (and_true ((c.belongs && true) && true) ∙ and_true (c.belongs && true) ∙ and_true c.belongs) j; ordered = sym o j } in
      let same_env : ((env ++ []) ++ []) ++ [] ≡ env = append-nil ((env ++ []) ++ []) ∙ append-nil (env ++ []) ∙ append-nil env in
      ap (λ p. ends_after false p) (body_says c env
      ∙ ap passed (list_says (below false c shape.FunctionBody 0 0) (env ++ []) refl)
      ∙ ap (λ p. passed (passed p)) (return_says (below false (below false c shape.FunctionBody 0 0) shape.Listed 0 0) ((env ++ []) ++ []))
      ∙ (λ j. passed (passed (passed (pace q (same_setting j) (same_env j) v)))))
      ∙ passed_thrice (pace q c env v)

-- ---- an arrow function

module _ (q : Question) (z : Quiets q) (m : PassesBodies q) (k : ℕ) (ps : Tree) (c : Setting) (env : Environment) where
  abbrev a : Shape
  a = shape.ArrowFunctionExpression []

  abbrev outside : Environment
  outside = env ++ body_scope [] (bound_names ps)

  arrow_says : (b : Tree) → pace q c env (arrow k ps b) ≡ followed (q.before c env a [] k (ps ▸ b ▸ none)) (followed (ends_after false (pace q (below false c a k 0) outside ps)) (followed (ends_after false (pace q (below false c a k 1) (outside ++ body_scope (merged ps) (body_names b)) b)) Silent))
  unfolding pace scopes_by
  arrow_says b =
      let ts = ps ▸ b ▸ none in
      ap (λ o. followed (q.before c env a [] k ts) (in_turn a (paces q (opened c.used a ts) (below o c a k) 0 env ts))) (m.function c ts)
      ∙ (λ j. followed (q.before c env a [] k ts) (followed (ends_after (z.unended (below false c a k 0) ps refl j) (pace q (below false c a k 0) outside ps)) (followed (ends_after (z.unended (below false c a k 1) b refl j) (pace q (below false c a k 1) (outside ++ body_scope (merged ps) (body_names b)) b)) Silent)))

module _ (k : ℕ) (ps v : Tree) (y : IsQuiet v) where
  returns_nothing : body_names (returning v) ≡ []
  unfolding body_names
  returns_nothing = ap (λ xs. (xs ++ []) ++ []) (no_body_names (return_statement v) refl)

  bodies_declare : body_names (returning v) ≡ body_names v
  bodies_declare = returns_nothing ∙ sym (no_body_names v y)

  same_eval : has_eval (returning v) ≡ has_eval v
  unfolding has_eval
  same_eval = or_none ((has_eval v || false) || false) ∙ or_none (has_eval v || false) ∙ or_none (has_eval v)

  same_arguments : names_arguments (returning v) ≡ names_arguments v
  unfolding names_arguments
  same_arguments = or_none ((names_arguments v || false) || false) ∙ or_none (names_arguments v || false) ∙ or_none (names_arguments v)

  more_numbers : (b : ℕ) → has_number b v ≡ true → has_number b (returning v) ≡ true
  unfolding has_number
  more_numbers b e = by (nat_eq 0 b) (has_number b v) e
    where
      by : (x y : Bool) → y ≡ true → (x || ((x || ((x || (y || false)) || false)) || false)) ≡ true
      by true y e = refl
      by false true e = refl
      by false false e = e

  abbrev old : Trees
  old = ps ▸ returning v ▸ none

  abbrev new : Trees
  new = ps ▸ v ▸ none

  same_seen : (u : Use) (s : ℕ) → seen_from (opened u (shape.ArrowFunctionExpression []) old) 0 old (by_symbol s) ≡ seen_from (opened u (shape.ArrowFunctionExpression []) new) 0 new (by_symbol s)
  unfolding scopes_by has_eval
  same_seen u s = λ j. ((has_eval ps || (same_eval j || false)) && is_among (by_symbol s) (names_in (body_scope [] (bound_names ps)))) || (((same_eval j || false) && is_among (by_symbol s) (names_in (body_scope (merged ps) (bodies_declare j)))) || false)

  same_before : (g : Fact) (b s : ℕ) (c : Setting) (env : Environment) → (question g b s).before c env (shape.ArrowFunctionExpression []) [] k old ≡ (question g b s).before c env (shape.ArrowFunctionExpression []) [] k new
  same_before ByEval b s c env = ap reads_if (same_seen c.used s)
  same_before IsLexical b s c env = by c.is_body
    where
      by : (d : Bool) → reads_if (is_among (by_symbol s) (own_lexical d (shape.ArrowFunctionExpression []) old)) ≡ reads_if (is_among (by_symbol s) (own_lexical d (shape.ArrowFunctionExpression []) new))
      by true = refl
      by false = refl
  same_before Written b s c env = refl
  same_before WrittenElsewhere b s c env = refl
  same_before Given b s c env = refl
  same_before GivenElsewhere b s c env = refl
  same_before GivenByPattern b s c env = refl
  same_before MentionedElsewhere b s c env = refl
  same_before BoundElsewhere b s c env = refl
  same_before IsSwitched b s c env = refl
  same_before InPattern b s c env = refl
  same_before UnderCatch b s c env = refl
  same_before ByArguments b s c env = refl
  same_before AmongParameters b s c env = refl
  same_before ReadEarly b s c env = refl

  arrow_same : (g : Fact) (b s : ℕ) (c : Setting) (env : Environment) → pace (question g b s) c env (arrow k ps v) ≡ pace (question g b s) c env (arrow k ps (returning v))
  arrow_same g b s c env =
      let q = question g b s in
      let z = each_quiets g b s in
      let m = each_passes g b s in
      let h = shape.ArrowFunctionExpression [] in
      let outer = env ++ body_scope [] (bound_names ps) in
      let tail = returning_says q z m v (below false c h k 1) (outer ++ body_scope (merged ps) (body_names (returning v))) refl refl refl ∙ ap (λ xs. ends_after false (pace q (below false c h k 1) (outer ++ body_scope (merged ps) xs) v)) bodies_declare in
      arrow_says q z m k ps c env v
      ∙ sym (arrow_says q z m k ps c env (returning v) ∙ (λ j. followed (same_before g b s c env j) (followed (ends_after false (pace q (below false c h k 0) outer ps)) (followed (tail j) Silent))))

  arrow_eval : has_eval (arrow k ps v) ≡ true → has_eval (arrow k ps (returning v)) ≡ true
  unfolding has_eval
  arrow_eval e = ap (λ b. has_eval ps || (b || false)) same_eval ∙ e

  arrow_arguments : names_arguments (arrow k ps v) ≡ true → names_arguments (arrow k ps (returning v)) ≡ true
  unfolding names_arguments
  arrow_arguments e = ap (λ b. names_arguments ps || (b || false)) same_arguments ∙ e

  arrow_numbers : (b : ℕ) → has_number b (arrow k ps v) ≡ true → has_number b (arrow k ps (returning v)) ≡ true
  unfolding has_number
  arrow_numbers b e =
      or_implied (nat_eq k b) (has_number b ps || (has_number b v || false)) (nat_eq k b) (has_number b ps || (has_number b (returning v) || false)) (λ i. i)
      (or_implied (has_number b ps) (has_number b v || false) (has_number b ps) (has_number b (returning v) || false) (λ i. i) (or_implied (has_number b v) false (has_number b (returning v)) false (more_numbers b) (λ i. i))) e

arrow_less : (q : Seat) (n w : Tree) → Row59 n w → LessAt (Expr q) n w
arrow_less q n w r =
    let k = r.number in
    let ps = r.parameters in
    let v = r.value in
    let quiet : (strict : Bool) (s : Slot) → fits strict s n ≡ true → IsQuiet v = λ strict s fit. value_quiet k ps v r.there strict s (subst (λ t. fits strict s t ≡ true) r.shape fit) in
    record {
      asks = shows_all _ _ _ (λ i m d. record {
        by = λ strict slot o fit c env st sc.
            inl (same (pace (question i m d) c env w) (pace (question i m d) c env n) (ap (pace (question i m d) c env) r.written ∙ arrow_same k ps v (quiet strict slot fit) i m d c env ∙ sym (ap (pace (question i m d) c env) r.shape)));
      });
      fewer = λ strict slot o fit. record {
        eval = λ e. ap has_eval r.shape ∙ arrow_eval k ps v (quiet strict slot fit) (sym (ap has_eval r.written) ∙ e);
        flags = record {
          arguments = λ e. ap names_arguments r.shape ∙ arrow_arguments k ps v (quiet strict slot fit) (sym (ap names_arguments r.written) ∙ e);
          number = λ x e. ap (has_number x) r.shape ∙ arrow_numbers k ps v (quiet strict slot fit) x (sym (ap (has_number x) r.written) ∙ e);
        };
        callee = λ i e. absurd (true≢false (sym e ∙ ap is_eval_callee r.written));
      };
    }

row_less : (p : Position) (n w : Tree) → ArrowRow p n w → LessAt p n w
row_less (Expr q) n w r = arrow_less q n w r
row_less p n w r = absurd r

pub arrows_read_less : ArrowsReadLess
arrows_read_less = reads_less_by ArrowContracts (λ p n w c. row_less p n w c.row)
