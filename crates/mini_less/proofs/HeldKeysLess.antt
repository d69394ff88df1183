-- Rows on the keys of patterns and of classes ask less: neither key tells anything, and the value
-- is asked as before.
use Rattle.std.specs.Prelude.{ℕ, ◌≡◌, refl, nat_eq, pos, Bool, true, false, ◌||◌, ◌&&◌, [], ◌++◌}
use Rattle.std.specs.Fmt.{signed_decimal}
use Rattle.std.proofs.Common.{ap, ◌∙◌, inl, sym, true≢false}
use Rattle.std.proofs.lemmas.List.{append-nil}
use Rattle.mini_model.specs.declared.place.Position.{Position}
use Rattle.mini_model.specs.declared.shape.Shape.{Shape}
use Rattle.mini_model.specs.declared.shape.Shape.TheVariants as shape
use Rattle.mini_model.specs.Tree.{Tree, node, none, ◌▸◌}
use Rattle.mini_laws.specs.Foreign.{has_number}
use Rattle.mini_laws.specs.Resolved.{Environment}
use Rattle.mini_laws.specs.ScopeList.{has_eval, is_eval_callee}
use Rattle.mini_laws.specs.Scopes.{opened}
use Rattle.mini_laws.specs.Shared.{names_arguments, is_arguments, is_of_function}
use Rattle.mini_shrink.specs.Facts.{question}
use Rattle.mini_shrink.specs.Pace.{Pace, Silent, followed, ends_after, in_turn, Setting, below, Question, pace, paces}
use Rattle.mini_shrink.proofs.Owns.{or_implied}
use Rattle.mini_shrink.proofs.Paces.{same}
use Rattle.mini_rows.specs.KeyHolders.{Holder, a_binding, a_target, a_method, a_field, holder_shape, Spelling, of_name, of_whole, quoted, unquoted, Member, of_target, of_method, of_field, member_shape, PlainKey, a_word, a_count, plain_key, Row52Held, Row52Bare, Row53, assigned_to}
use Rattle.mini_rows.specs.Spellings.{key}
use Rattle.mini_less.specs.Families.{LessAt}
use Rattle.mini_less.proofs.Calm.{is_calm_shape, calm_bare, calm_passing, bare_scopes, bare_turn, bare_calls, bare_names, Quiets, each_quiets}
use Rattle.mini_less.proofs.Shown.{shows_all}

module _ (q : Question) (z : Quiets q) where
  abbrev pub Hushed : Tree → Type 0
  Hushed k = (c : Setting) (env : Environment) → pace q c env k ≡ Silent

  leaf_hushed : (h : Shape) → is_calm_shape h ≡ true → Hushed (node h [] 0 none)
  unfolding pace
  leaf_hushed h e c env = (λ j. followed (z.silent c env h (calm_passing h e) 0 none j) (in_turn h [])) ∙ bare_turn h (calm_bare h e) []

  inner_hushed : (n : ℕ) (k : Tree) → Hushed k → Hushed (node shape.InnerExpression [] n (k ▸ none))
  unfolding pace
  inner_hushed n k y c env =
      let h = shape.InnerExpression in
      let ts = k ▸ none in
      let sc = opened c.used h ts in
      (λ j. followed (z.silent c env h refl n ts j) (in_turn h (paces q sc (below (z.unordered c h refl ts j) c h n) 0 env ts)))
      ∙ (λ j. followed (ends_after (z.unended (below false c h n 0) k refl j) (y (below false c h n 0) (env ++ sc 0) j)) Silent)

  abbrev value_said : Setting → Environment → Tree → Pace
  value_said c env v = followed (ends_after false (pace q c env v)) Silent

  pub holder_says : (h : Shape) → is_calm_shape h ≡ true → (k v : Tree) → Hushed k → (c : Setting) (env : Environment) → pace q c env (node h [] 0 (k ▸ v ▸ none)) ≡ value_said (below false c h 0 1) env v
  unfolding pace
  holder_says h e k v y c env =
      let ts = k ▸ v ▸ none in
      let sc = opened c.used h ts in
      let none_there = bare_scopes c.used h (calm_bare h e) ts in
      let first : env ++ sc 0 ≡ env = ap (λ x. env ++ x) (none_there 0) ∙ append-nil env in
      let second : (env ++ sc 0) ++ sc 1 ≡ env = ap (λ x. (env ++ sc 0) ++ x) (none_there 1) ∙ append-nil (env ++ sc 0) ∙ first in
      (λ j. followed (z.silent c env h (calm_passing h e) 0 ts j) (in_turn h (paces q sc (below (z.unordered c h e ts j) c h 0) 0 env ts)))
      ∙ bare_turn h (calm_bare h e) (paces q sc (below false c h 0) 0 env ts)
      ∙ (λ j. followed (ends_after (z.unended (below false c h 0 0) k refl j) (y (below false c h 0 0) (env ++ sc 0) j)) (followed (ends_after (z.unended (below false c h 0 1) v refl j) (pace q (below false c h 0 1) (second j) v)) Silent))

-- a key tells nothing
pub record IsQuietKey (k : Tree) : Type 0 where
  pub hushed : (q : Question) (z : Quiets q) → Hushed q z k
  pub eval : has_eval k ≡ false
  pub arguments : names_arguments k ≡ false

leaf_quiet : (h : Shape) → is_calm_shape h ≡ true → IsQuietKey (node h [] 0 none)
unfolding has_eval names_arguments
leaf_quiet h e = record {
  hushed = λ q z. leaf_hushed q z h e;
  eval = ap (λ b. b || false) (bare_calls h (calm_bare h e) none);
  arguments = ap (λ b. (b && is_arguments []) || false) (bare_names h (calm_bare h e));
}

pub plain_quiet : (k : PlainKey) → IsQuietKey (plain_key k)
plain_quiet (a_word s) = leaf_quiet (shape.StringLiteral s) refl
plain_quiet (a_count n) = leaf_quiet (shape.NumericLiteral (pos n)) refl

pub inner_quiet : (n : ℕ) (k : Tree) → IsQuietKey k → IsQuietKey (node shape.InnerExpression [] n (k ▸ none))
unfolding has_eval names_arguments
inner_quiet n k y = record {
  hushed = λ q z. inner_hushed q z n k (y.hushed q z);
  eval = ap (λ b. b || false) y.eval;
  arguments = ap (λ b. b || false) y.arguments;
}

quoted_quiet : (s : Spelling) → IsQuietKey (quoted s)
quoted_quiet (of_name s) = leaf_quiet (shape.StringLiteral s) refl
quoted_quiet (of_whole n) = leaf_quiet (shape.StringLiteral (signed_decimal (pos n))) refl

unquoted_quiet : (s : Spelling) → IsQuietKey (unquoted s)
unquoted_quiet (of_name s) = leaf_quiet (shape.IdentifierName s) refl
unquoted_quiet (of_whole n) = leaf_quiet (shape.NumericLiteral (pos n)) refl

-- ---- one holder for another, of the same value

pub record Holds (h g : Shape) : Type 0 where
  pub read : is_calm_shape h ≡ true
  pub written : is_calm_shape g ≡ true
  pub value : (c : Setting) → below false c g 0 1 ≡ below false c h 0 1
  pub inside : is_of_function g 1 ≡ is_of_function h 1

module _ (h g : Shape) (s : Holds h g) (k l v : Tree) (y : IsQuietKey k) (x : IsQuietKey l) where
  abbrev there : Tree
  there = node h [] 0 (k ▸ v ▸ none)

  abbrev put : Tree
  put = node g [] 0 (l ▸ v ▸ none)

  pub same_said : (q : Question) → Quiets q → (c : Setting) (env : Environment) → pace q c env put ≡ pace q c env there
  same_said q z c env = holder_says q z g s.written l v (x.hushed q z) c env ∙ ap (λ d. value_said q z d env v) (s.value c) ∙ sym (holder_says q z h s.read k v (y.hushed q z) c env)

  pub same_eval : has_eval put ≡ has_eval there
  unfolding has_eval
  same_eval = (λ j. bare_calls g (calm_bare g s.written) (l ▸ v ▸ none) j || (x.eval j || (has_eval v || false))) ∙ sym (λ j. bare_calls h (calm_bare h s.read) (k ▸ v ▸ none) j || (y.eval j || (has_eval v || false)))

  off : (b : Bool) → (b && false) ≡ false
  off true = refl
  off false = refl

  pub same_arguments : names_arguments put ≡ names_arguments there
  unfolding names_arguments
  same_arguments =
      (λ j. (bare_names g (calm_bare g s.written) j && is_arguments []) || ((is_of_function g 0 && x.arguments j) || ((s.inside j && names_arguments v) || false)))
      ∙ ap (λ b. b || ((is_of_function h 1 && names_arguments v) || false)) (off (is_of_function g 0) ∙ sym (off (is_of_function h 0)))
      ∙ sym (λ j. (bare_names h (calm_bare h s.read) j && is_arguments []) || ((is_of_function h 0 && y.arguments j) || ((is_of_function h 1 && names_arguments v) || false)))

  pub fewer_numbers : ((b : ℕ) → has_number b l ≡ true → has_number b k ≡ true) → (b : ℕ) → has_number b put ≡ true → has_number b there ≡ true
  unfolding has_number
  fewer_numbers f b e = or_implied (nat_eq 0 b) (has_number b l || (has_number b v || false)) (nat_eq 0 b) (has_number b k || (has_number b v || false)) (λ i. i) (or_implied (has_number b l) (has_number b v || false) (has_number b k) (has_number b v || false) (f b) (λ i. i)) e

  no_callee : is_eval_callee put ≡ false
  no_callee = by g s.written
    where
      by : (g : Shape) → is_calm_shape g ≡ true → is_eval_callee (node g [] 0 (l ▸ v ▸ none)) ≡ false
      by shape.Identifier e = absurd (cc e)
      by g e = refl

  pub holder_less : (p : Position) (n w : Tree) → n ≡ there → w ≡ put → ((b : ℕ) → has_number b l ≡ true → has_number b k ≡ true) → LessAt p n w
  holder_less p n w a b f = record {
    asks = shows_all _ _ _ (λ i m r. record {
      by = λ strict slot o fit c env st sc.
          inl (same (pace (question i m r) c env w) (pace (question i m r) c env n) (ap (pace (question i m r) c env) b ∙ same_said (question i m r) (each_quiets i m r) c env ∙ sym (ap (pace (question i m r) c env) a)));
    });
    fewer = λ strict slot o fit. record {
      eval = λ e. ap has_eval a ∙ sym same_eval ∙ sym (ap has_eval b) ∙ e;
      flags = record {
        arguments = λ e. ap names_arguments a ∙ sym same_arguments ∙ sym (ap names_arguments b) ∙ e;
        number = λ m e. ap (has_number m) a ∙ fewer_numbers f m (sym (ap (has_number m) b) ∙ e);
      };
      callee = λ i e. absurd (true≢false (sym e ∙ ap is_eval_callee b ∙ no_callee));
    };
  }

-- ---- the rows

holds_itself : (h : Holder) → Holds (holder_shape h) (holder_shape h)
holds_itself a_binding = record { read = refl; written = refl; value = λ c. refl; inside = refl }
holds_itself a_target = record { read = refl; written = refl; value = λ c. refl; inside = refl }
holds_itself (a_method kind is_static) = record { read = refl; written = refl; value = λ c. refl; inside = refl }
holds_itself (a_field is_static) = record { read = refl; written = refl; value = λ c. refl; inside = refl }

quoted_number : (s : Spelling) (b : ℕ) → has_number b (unquoted s) ≡ true → has_number b (quoted s) ≡ true
unfolding has_number
quoted_number (of_name s) b e = e
quoted_number (of_whole n) b e = e

pub held_less : (p : Position) (n w : Tree) → Row52Held n w → LessAt p n w
held_less p n w r = holder_less (holder_shape r.holder) (holder_shape r.holder) (holds_itself r.holder) (quoted r.spelling) (unquoted r.spelling) r.value (quoted_quiet r.spelling) (unquoted_quiet r.spelling) p n w r.shape r.written (quoted_number r.spelling)

loses : (m : Member) → Holds (member_shape true m) (member_shape false m)
loses of_target = record { read = refl; written = refl; value = λ c. refl; inside = refl }
loses (of_method kind is_static) = record { read = refl; written = refl; value = λ c. refl; inside = refl }
loses (of_field is_static) = record { read = refl; written = refl; value = λ c. refl; inside = refl }

pub inner_number : (n : ℕ) (k : Tree) (b : ℕ) → has_number b k ≡ true → has_number b (node shape.InnerExpression [] n (k ▸ none)) ≡ true
unfolding has_number
inner_number n k b e = by (nat_eq n b) (has_number b k) e
  where
    by : (x y : Bool) → y ≡ true → (x || (y || false)) ≡ true
    by true y e = refl
    by false true e = refl
    by false false e = e

pub bare_less : (p : Position) (n w : Tree) → Row52Bare n w → LessAt p n w
bare_less p n w r =
    let k = plain_key r.key in
    holder_less (member_shape true r.member) (member_shape false r.member) (loses r.member) (node shape.InnerExpression [] r.number (k ▸ none)) k r.value (inner_quiet r.number k (plain_quiet r.key)) (plain_quiet r.key) p n w r.shape r.written (inner_number r.number k)

pub short_less : (p : Position) (n w : Tree) → Row53 n w → LessAt p n w
short_less p n w r =
    let k = key r.name.spelling in
    holder_less (shape.AssignmentTargetPropertyProperty false) shape.AssignmentTargetPropertyIdentifier (record { read = refl; written = refl; value = λ c. refl; inside = refl }) k k (assigned_to r.name r.value) (leaf_quiet (shape.IdentifierName r.name.spelling) refl) (leaf_quiet (shape.IdentifierName r.name.spelling) refl) p n w r.shape r.written (λ b e. e)
