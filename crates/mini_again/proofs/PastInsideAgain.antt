-- 71 of a `var` further inside a body, past names that keep their value, survives.
use Rattle.std.specs.Prelude.{◌≡◌, refl, ℕ, ◌||◌, Bool, true, false, List, [], ◌++◌, map}
use Rattle.std.proofs.Common.{ap, inl, inr, ◌∙◌, sym, subst}
use Rattle.std.proofs.lemmas.List.{map-append}
use Rattle.mini_kept.specs.Without.{Assured, BodySets}
use Rattle.mini_laws.specs.Naming.{summary}
use Rattle.mini_laws.specs.Renaming.{rename_variable}
use Rattle.mini_laws.specs.Value.{Variable, Declared, Global, VariableSet, choose, is_in}
use Rattle.mini_model.specs.declared.place.Position.{Position}
use Rattle.mini_model.specs.declared.shape.Shape.{Shape}
use Rattle.mini_model.specs.declared.shape.Shape.TheVariants as shape
use Rattle.mini_model.specs.Tree.{Tree, Trees, node, none, ◌▸◌, listed, is_absent}
use Rattle.mini_rows.specs.declared.inside.Way.{Way}
use Rattle.mini_rows.specs.declared.inside.Way.TheVariants as way
use Rattle.mini_rows.specs.Past.{PastRow}
use Rattle.mini_rows.specs.PastInside.{PastEnd, PastOneEnd, PastInside, past_ends, passes_var, known_below, initial_below, is_let_around, holds_statements, lets_around, lets_before}
use Rattle.mini_rows.specs.Switches.{Liberties}
use Rattle.mini_again.specs.Again.{Renaming, again, all_again, other_number, with_others_in, liberties_with_others_in, assured_with_others, sets_with_others}
use Rattle.mini_again.proofs.InsideAgain.{inside_at_again}
use Rattle.mini_again.proofs.ModelTreeAgain.{is_absent_again}
use Rattle.mini_again.proofs.PastAgain.{any_bind_again, past_row_again, row71_past_again, row71_past_next_again}
use Rattle.mini_again.proofs.SteadyAgain.{all_bindings_again}
use Rattle.mini_again.proofs.Summaries.{chosen_again, head_lets_again, is_in_again, summary_again, summaries_again}

-- ---- what has its value at the end of a way

chosen_other : (ρ : Renaming) (b : Bool) (xs : List Variable) → map (rename_variable ρ.symbol) (choose b [] xs) ≡ choose b [] (map (rename_variable ρ.symbol) xs)
chosen_other ρ true xs = refl
chosen_other ρ false xs = refl

lets_before_again : (ρ : Renaming) (ts : Trees) → map (rename_variable ρ.symbol) (lets_before ts) ≡ lets_before (all_again ρ ts)
lets_before_again ρ none = refl
lets_before_again ρ (t ▸ ts) =
    chosen_other ρ (is_absent t) ((summary t).lets ++ lets_before ts)
    ∙ ap (choose (is_absent t) []) (map-append (rename_variable ρ.symbol) (summary t).lets (lets_before ts) ∙ ap (λ xs. xs ++ map (rename_variable ρ.symbol) (lets_before ts)) (summary_again ρ t).lets ∙ ap (λ xs. (summary (again ρ t)).lets ++ xs) (lets_before_again ρ ts))
    ∙ ap (λ b. choose b [] ((summary (again ρ t)).lets ++ lets_before (all_again ρ ts))) (sym (is_absent_again ρ t))

lets_around_again : (ρ : Renaming) (is_list : Bool) (h : Shape) (ts : Trees) → map (rename_variable ρ.symbol) (lets_around is_list h ts) ≡ lets_around is_list h (all_again ρ ts)
lets_around_again ρ is_list shape.Listed ts = chosen_again ρ is_list (lets_before ts) ∙ ap (λ xs. choose is_list xs []) (lets_before_again ρ ts)
lets_around_again ρ is_list shape.CatchClause ts = (summaries_again ρ ts).first
lets_around_again ρ is_list shape.ForStatement ts = head_lets_again ρ ts
lets_around_again ρ is_list shape.ForInStatement ts = head_lets_again ρ ts
lets_around_again ρ is_list shape.ForOfStatement ts = head_lets_again ρ ts
lets_around_again ρ is_list h ts = refl

is_around_again : (ρ : Renaming) (k : ℕ) (is_list : Bool) (h : Shape) (ts : Trees) → is_in (Declared (ρ.symbol k)) (lets_around is_list h (all_again ρ ts)) ≡ is_in (Declared k) (lets_around is_list h ts)
is_around_again ρ k is_list h ts = ap (is_in (Declared (ρ.symbol k))) (sym (lets_around_again ρ is_list h ts)) ∙ is_in_again ρ (Declared k) (lets_around is_list h ts)

is_let_around_again : (ρ : Renaming) (k : ℕ) (is_list : Bool) (ts : Trees) → is_let_around (ρ.symbol k) is_list (all_again ρ ts) ≡ is_let_around k is_list ts
is_let_around_again ρ k is_list none = refl
is_let_around_again ρ k is_list (node h xs n ts ▸ us) =
    ap (λ b. b || is_let_around (ρ.symbol k) (holds_statements h) (all_again ρ us)) (is_around_again ρ k is_list h ts)
    ∙ ap (λ b. is_in (Declared k) (lets_around is_list h ts) || b) (is_let_around_again ρ k (holds_statements h) us)

initial_below_again : (ρ : Renaming) (a : Trees) (X : VariableSet) (x : Variable) → initial_below a (with_others_in ρ X) x ≡ initial_below (all_again ρ a) X (rename_variable ρ.symbol x)
initial_below_again ρ a X (Declared k) = simp (is_let_around_again ρ k true a, all_bindings_again ρ k a, any_bind_again ρ k a)
initial_below_again ρ a X (Global s) = refl

known_below_again : (ρ : Renaming) (a : Trees) (V : Assured) → known_below a (assured_with_others ρ V) ≡ assured_with_others ρ (known_below (all_again ρ a) V)
known_below_again ρ a V = λ i. record { steady = with_others_in ρ V.steady; unshared = with_others_in ρ V.unshared; initial = λ x. initial_below_again ρ a V.initial x i; has_this = V.has_this }

-- ---- the rows

passes_var_again : (ρ : Renaming) (V : Assured) (W : Liberties) (o : Tree) (ts us : Trees) (r : PastRow (assured_with_others ρ V) (liberties_with_others_in ρ W) o ts us) → passes_var {V = V} {W = W} {o = again ρ o} {ts = all_again ρ ts} {us = all_again ρ us} (past_row_again ρ V W o ts us r) ≡ passes_var {V = assured_with_others ρ V} {W = liberties_with_others_in ρ W} {o = o} {ts = ts} {us = us} r
unfolding past_row_again row71_past_again row71_past_next_again
passes_var_again ρ V W o ts us (inl r) = refl
passes_var_again ρ V W o ts us (inr r) = refl

past_end_again : (ρ : Renaming) (V : Assured) (W : Liberties) (o : Trees) (n w : Tree) → PastEnd (assured_with_others ρ V) (liberties_with_others_in ρ W) o n w → PastEnd V W (all_again ρ o) (again ρ n) (again ρ w)
past_end_again ρ V W o n w r = record {
  list = all_again ρ r.list;
  left = all_again ρ r.left;
  row = past_row_again ρ V W (listed o) r.list r.left r.row;
  var = passes_var_again ρ V W (listed o) r.list r.left r.row ∙ r.var;
  shape = ap (again ρ) r.shape;
  written = ap (again ρ) r.written;
}

past_one_end_again : (ρ : Renaming) (V : Assured) (W : Liberties) (o : Trees) (n w : Tree) → PastOneEnd (assured_with_others ρ V) (liberties_with_others_in ρ W) o n w → PastOneEnd V W (all_again ρ o) (again ρ n) (again ρ w)
past_one_end_again ρ V W o n w r = record {
  row = past_row_again ρ V W (listed o) (n ▸ none) (w ▸ none) r.row;
  var = passes_var_again ρ V W (listed o) (n ▸ none) (w ▸ none) r.row ∙ r.var;
}

past_ends_again : (ρ : Renaming) (S : BodySets) (W : Liberties) (o : Trees) (z : Way) (n w : Tree) → past_ends (sets_with_others ρ S) (liberties_with_others_in ρ W) o z n w → past_ends S W (all_again ρ o) z (again ρ n) (again ρ w)
past_ends_again ρ S W (node h xs m ts ▸ a) way.Statements n w r = past_end_again ρ (known_below (all_again ρ a) (S (other_number ρ m))) W (node h xs m ts ▸ a) n w (subst (λ V. PastEnd V (liberties_with_others_in ρ W) (node h xs m ts ▸ a) n w) (known_below_again ρ a (S (other_number ρ m))) r)
past_ends_again ρ S W (node h xs m ts ▸ a) way.Held n w r = past_one_end_again ρ (known_below (all_again ρ a) (S (other_number ρ m))) W (node h xs m ts ▸ a) n w (subst (λ V. PastOneEnd V (liberties_with_others_in ρ W) (node h xs m ts ▸ a) n w) (known_below_again ρ a (S (other_number ρ m))) r)
past_ends_again ρ S W (node h xs m ts ▸ a) way.Head n w r = past_one_end_again ρ (known_below (all_again ρ a) (S (other_number ρ m))) W (node h xs m ts ▸ a) n w (subst (λ V. PastOneEnd V (liberties_with_others_in ρ W) (node h xs m ts ▸ a) n w) (known_below_again ρ a (S (other_number ρ m))) r)
past_ends_again ρ S W o z n w r = absurd r

pub past_inside_again : (ρ : Renaming) (S : BodySets) (W : Liberties) (p : Position) (n w : Tree) → PastInside (sets_with_others ρ S) (liberties_with_others_in ρ W) p n w → PastInside S W p (again ρ n) (again ρ w)
past_inside_again ρ S W p n w r = inside_at_again ρ (past_ends (sets_with_others ρ S) (liberties_with_others_in ρ W)) (past_ends S W) (past_ends_again ρ S W) p n w r
