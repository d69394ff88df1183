-- What holds of each yes/no question that plain heads answer with no, and of the order of reads, holds of each fact.
use Rattle.std.specs.Prelude.{ℕ, ◌≡◌, refl, Bool, true, false, ◌&&◌, ◌||◌, List}
use Rattle.std.proofs.Common.{sym, subst}
use Rattle.mini_model.specs.declared.name.Name.{Name}
use Rattle.mini_model.specs.declared.shape.Shape.{Shape}
use Rattle.mini_model.specs.Tree.{Tree, Trees, node, shape_of}
use Rattle.mini_laws.specs.Resolved.{Environment}
use Rattle.mini_laws.specs.Scopes.{opened}
use Rattle.mini_laws.specs.ScopeList.{by_symbol}
use Rattle.mini_laws.specs.Mentions.{same_variable, is_elsewhere}
use Rattle.mini_laws.specs.Foreign.{is_write}
use Rattle.mini_shrink.specs.Pace.{Setting, below, Question, AtMost, pace, reads_if}
use Rattle.mini_shrink.specs.Questions.{Own, asks, finds, finds_each, any_of, switched_at, pattern_at, caught_at, arguments_at, params_at, early}
use Rattle.mini_shrink.specs.Facts.{Fact, Written, WrittenElsewhere, Given, GivenElsewhere, GivenByPattern, MentionedElsewhere, BoundElsewhere, IsLexical, IsSwitched, InPattern, UnderCatch, ByArguments, ByEval, AmongParameters, ReadEarly, question}
use Rattle.mini_shrink.proofs.Finding.{pace_is}
use Rattle.mini_shrink.proofs.Owns.{implied}
use Rattle.mini_less.specs.Less.{TellsPlainly}
use Rattle.mini_less.proofs.Plainly.{mentions_plainly, sets_plainly, pattern_gives_plainly, names_plainly, no_switched, no_pattern, no_caught, no_arguments, no_params, loop_switched, loop_pattern_at, loop_caught, loop_arguments, loop_params, seen_plainly, lexical_plainly, alone, anywhere, lexical_alone}
use Rattle.mini_rows.proofs.ArrangedValues.{is_value}

-- it doesn't ask whether it stands in a list that declares the name
abbrev pub Unordered : Own → Type 0
Unordered o = (c : Setting) (d : Bool) (env : Environment) (h : Shape) (xs : List Name) (n : ℕ) (ts : Trees) → o c env h xs n ts ≡ o (record c { ordered = d }) env h xs n ts

pub unordered : (o : Own) → Unordered o → (c : Setting) (d : Bool) (env : Environment) (t : Tree) → finds o c env t ≡ finds o (record c { ordered = d }) env t
unfolding finds
unordered o a c d env (node h xs n ts) = λ j. a c d env h xs n ts j || any_of (finds_each o (opened c.used h ts) (below false c h n) 0 env ts)

pub by_fact : (P : Question → Type 0) → ((o : Own) → TellsPlainly o → Unordered o → P (asks o)) → ((b k : ℕ) → P (early b k)) → (g : Fact) (b k : ℕ) → P (question g b k)
by_fact P f r Written c k = f _ (mentions_plainly (is_write (by_symbol k)) (λ x a e f. e)) (λ c d env h xs n ts. refl)
by_fact P f r WrittenElsewhere c k = f _ (mentions_plainly (λ m. is_write (by_symbol k) m && is_elsewhere c m.around) (λ x a e f. e)) (λ c d env h xs n ts. refl)
by_fact P f r Given c k = f _ (sets_plainly (is_write (by_symbol k)) (λ x a e f. e)) (λ c d env h xs n ts. refl)
by_fact P f r GivenElsewhere c k = f _ (sets_plainly (λ m. is_write (by_symbol k) m && is_elsewhere c m.around) (λ x a e f. e)) (λ c d env h xs n ts. refl)
by_fact P f r MentionedElsewhere c k = f _ (mentions_plainly (λ m. same_variable (by_symbol k) m.name && is_elsewhere c m.around) (λ x a e f. e)) (λ c d env h xs n ts. refl)
by_fact P f r BoundElsewhere c k = f _ (mentions_plainly (λ m. same_variable (by_symbol k) m.name && m.binds && is_elsewhere c m.around) (λ x a e f. e)) (λ c d env h xs n ts. refl)
by_fact P f r IsLexical c k = f _ (lexical_plainly k) (λ c d env h xs n ts. refl)
by_fact P f r IsSwitched c k = f _ (names_plainly switched_at k no_switched (λ c v b h n ts. refl) (λ c k m d b ts. refl) loop_switched) (λ c d env h xs n ts. refl)
by_fact P f r InPattern c k = f _ (names_plainly pattern_at k no_pattern (λ c v b h n ts. refl) (λ c k m d b ts. refl) loop_pattern_at) (λ c d env h xs n ts. refl)
by_fact P f r GivenByPattern c k = f _ (pattern_gives_plainly k) (λ c d env h xs n ts. refl)
by_fact P f r UnderCatch c k = f _ (names_plainly caught_at k no_caught (λ c v b h n ts. refl) (λ c k m d b ts. refl) loop_caught) (λ c d env h xs n ts. refl)
by_fact P f r ByArguments c k = f _ (names_plainly arguments_at k no_arguments (λ c v b h n ts. refl) (λ c k m d b ts. refl) loop_arguments) (λ c d env h xs n ts. refl)
by_fact P f r ByEval c k = f _ (seen_plainly k) (λ c d env h xs n ts. refl)
by_fact P f r AmongParameters c k = f _ (names_plainly (params_at c) k (no_params c) (λ c v b h n ts. refl) (λ c k m d b ts. refl) (loop_params c)) (λ c d env h xs n ts. refl)
by_fact P f r ReadEarly c k = r c k

-- nor does an expression ask whether it stands directly in a body
abbrev pub AloneToo : Own → Type 0
AloneToo o = (c : Setting) (env : Environment) (t : Tree) → is_value (shape_of t) ≡ true → finds o c env t ≡ finds o (alone c) env t

pub by_value : (P : Question → Type 0) → ((o : Own) → TellsPlainly o → AloneToo o → P (asks o)) → ((b k : ℕ) → P (early b k)) → (g : Fact) (b k : ℕ) → P (question g b k)
by_value P f r Written c k = f _ (mentions_plainly (is_write (by_symbol k)) (λ x a e f. e)) (λ c env t e. anywhere _ (λ c b d env h xs n ts. refl) c false false env t)
by_value P f r WrittenElsewhere c k = f _ (mentions_plainly (λ m. is_write (by_symbol k) m && is_elsewhere c m.around) (λ x a e f. e)) (λ c env t e. anywhere _ (λ c b d env h xs n ts. refl) c false false env t)
by_value P f r Given c k = f _ (sets_plainly (is_write (by_symbol k)) (λ x a e f. e)) (λ c env t e. anywhere _ (λ c b d env h xs n ts. refl) c false false env t)
by_value P f r GivenElsewhere c k = f _ (sets_plainly (λ m. is_write (by_symbol k) m && is_elsewhere c m.around) (λ x a e f. e)) (λ c env t e. anywhere _ (λ c b d env h xs n ts. refl) c false false env t)
by_value P f r MentionedElsewhere c k = f _ (mentions_plainly (λ m. same_variable (by_symbol k) m.name && is_elsewhere c m.around) (λ x a e f. e)) (λ c env t e. anywhere _ (λ c b d env h xs n ts. refl) c false false env t)
by_value P f r BoundElsewhere c k = f _ (mentions_plainly (λ m. same_variable (by_symbol k) m.name && m.binds && is_elsewhere c m.around) (λ x a e f. e)) (λ c env t e. anywhere _ (λ c b d env h xs n ts. refl) c false false env t)
by_value P f r IsLexical c k = f _ (lexical_plainly k) (lexical_alone k)
by_value P f r IsSwitched c k = f _ (names_plainly switched_at k no_switched (λ c v b h n ts. refl) (λ c k m d b ts. refl) loop_switched) (λ c env t e. anywhere _ (λ c b d env h xs n ts. refl) c false false env t)
by_value P f r InPattern c k = f _ (names_plainly pattern_at k no_pattern (λ c v b h n ts. refl) (λ c k m d b ts. refl) loop_pattern_at) (λ c env t e. anywhere _ (λ c b d env h xs n ts. refl) c false false env t)
by_value P f r GivenByPattern c k = f _ (pattern_gives_plainly k) (λ c env t e. anywhere _ (λ c b d env h xs n ts. refl) c false false env t)
by_value P f r UnderCatch c k = f _ (names_plainly caught_at k no_caught (λ c v b h n ts. refl) (λ c k m d b ts. refl) loop_caught) (λ c env t e. anywhere _ (λ c b d env h xs n ts. refl) c false false env t)
by_value P f r ByArguments c k = f _ (names_plainly arguments_at k no_arguments (λ c v b h n ts. refl) (λ c k m d b ts. refl) loop_arguments) (λ c env t e. anywhere _ (λ c b d env h xs n ts. refl) c false false env t)
by_value P f r ByEval c k = f _ (seen_plainly k) (λ c env t e. anywhere _ (λ c b d env h xs n ts. refl) c false false env t)
by_value P f r AmongParameters c k = f _ (names_plainly (params_at c) k (no_params c) (λ c v b h n ts. refl) (λ c k m d b ts. refl) (loop_params c)) (λ c env t e. anywhere _ (λ c b d env h xs n ts. refl) c false false env t)
by_value P f r ReadEarly c k = r c k

-- where nothing is found that wasn't
pub found_less : (o : Own) (c : Setting) (env : Environment) (n w : Tree) → (finds o c env w ≡ true → finds o c env n ≡ true) → AtMost (pace (asks o) c env w) (pace (asks o) c env n)
found_less o c env n w less = subst (λ p. AtMost p (pace (asks o) c env n)) (sym (pace_is o c env w)) (subst (AtMost (reads_if (finds o c env w))) (sym (pace_is o c env n)) (implied (finds o c env w) (finds o c env n) less))
