-- What a tree declares and begins, of a tree that is read again.
use Rattle.std.specs.Prelude.{◌≡◌, refl, ℕ, zero, suc, ◌||◌, Bool, true, false, List, [], ◌∷◌, map, Option, Some}
use Rattle.std.proofs.Common.{ap, ◌∙◌, sym, subst}
use Rattle.mini_laws.proofs.Renamed.{SummaryRenamed, AllRenamed, none_renamed, cons_renamed, summary_renamed, variables_renamed}
use Rattle.mini_laws.specs.Naming.{Declared as What, Variables, summary, summaries, summary_of}
use Rattle.mini_laws.specs.Renaming.{rename_variable}
use Rattle.mini_laws.specs.Value.{Variable, Declared, Global, variables, variable_eq, is_in, choose}
use Rattle.mini_model.specs.declared.place.Position.{Position}
use Rattle.mini_model.specs.declared.shape.Shape.{Shape}
use Rattle.mini_model.specs.Tree.{Tree, Trees, node, none, ◌▸◌}
use Rattle.mini_rows.specs.Steady.{Beginning, OfChild, OfHead, OfNone, Begun, begun_at, beginning, begins, begins_by, nth_lets, lets_as, head_lets}
use Rattle.mini_again.specs.Again.{Renaming, again, all_again, other_number}

-- ---- variables

same_variable : (ρ : Renaming) (x y : Variable) → variable_eq (rename_variable ρ.symbol x) (rename_variable ρ.symbol y) ≡ variable_eq x y
same_variable ρ (Declared m) (Declared n) = ρ.apart m n
same_variable ρ (Declared m) (Global s) = refl
same_variable ρ (Global s) (Declared n) = refl
same_variable ρ (Global s) (Global t) = refl

pub is_in_again : (ρ : Renaming) (x : Variable) (xs : List Variable) → is_in (rename_variable ρ.symbol x) (map (rename_variable ρ.symbol) xs) ≡ is_in x xs
is_in_again ρ x [] = refl
is_in_again ρ x (y ∷ ys) = simp (same_variable ρ y x, is_in_again ρ x ys)

-- ---- summaries

mutual
  pub summary_again : (ρ : Renaming) (t : Tree) → SummaryRenamed (rename_variable ρ.symbol) (other_number ρ) (summary t) (summary (again ρ t))
  summary_again ρ (node h xs n ts) =
      subst (λ ys. SummaryRenamed (rename_variable ρ.symbol) (other_number ρ) (summary_of h (variables xs) n (summaries ts)) (summary_of h ys (other_number ρ n) (summaries (all_again ρ ts)))) (variables_renamed ρ.symbol xs)
      (summary_renamed (rename_variable ρ.symbol) (other_number ρ) h (variables xs) n (summaries ts) (summaries (all_again ρ ts)) (summaries_again ρ ts))

  pub summaries_again : (ρ : Renaming) (ts : Trees) → AllRenamed (rename_variable ρ.symbol) (other_number ρ) (summaries ts) (summaries (all_again ρ ts))
  summaries_again ρ none = none_renamed (rename_variable ρ.symbol) (other_number ρ)
  summaries_again ρ (t ▸ ts) = cons_renamed (rename_variable ρ.symbol) (other_number ρ) (summary t) (summary (again ρ t)) (summaries ts) (summaries (all_again ρ ts)) (summary_again ρ t) (summaries_again ρ ts)

nth_lets_again : (ρ : Renaming) (ts : Trees) (i : ℕ) → map (rename_variable ρ.symbol) (nth_lets (summaries ts) i) ≡ nth_lets (summaries (all_again ρ ts)) i
nth_lets_again ρ none i = refl
nth_lets_again ρ (t ▸ ts) zero = (summary_again ρ t).lets
nth_lets_again ρ (t ▸ ts) (suc i) = nth_lets_again ρ ts i

pub chosen_again : (ρ : Renaming) (b : Bool) (xs : List Variable) → map (rename_variable ρ.symbol) (choose b xs []) ≡ choose b (map (rename_variable ρ.symbol) xs) []
chosen_again ρ true xs = refl
chosen_again ρ false xs = refl

lets_as_again : (ρ : Renaming) (d : Option What) (xs : List Variable) → map (rename_variable ρ.symbol) (lets_as d xs) ≡ lets_as d (map (rename_variable ρ.symbol) xs)
lets_as_again ρ (Some (Variables v)) xs = chosen_again ρ _ xs
lets_as_again ρ d xs = refl

pub head_lets_again : (ρ : Renaming) (ts : Trees) → map (rename_variable ρ.symbol) (head_lets (summaries ts)) ≡ head_lets (summaries (all_again ρ ts))
head_lets_again ρ none = refl
head_lets_again ρ (t ▸ ts) =
    lets_as_again ρ (summary t).facts.declared (summary t).lets
    ∙ ap (lets_as (summary t).facts.declared) (summary_again ρ t).lets
    ∙ ap (λ f. lets_as f.declared (summary (again ρ t)).lets) (summary_again ρ t).facts

begins_by_again : (ρ : Renaming) (b : Beginning) (ts : Trees) (i : ℕ) → map (rename_variable ρ.symbol) (begins_by b (summaries ts) i) ≡ begins_by b (summaries (all_again ρ ts)) i
begins_by_again ρ OfChild ts i = nth_lets_again ρ ts i
begins_by_again ρ OfHead ts i = head_lets_again ρ ts
begins_by_again ρ OfNone ts i = refl

-- ---- what is begun

-- the symbols whose other ones are begun in L
abbrev pub begun_with_others : Renaming → Begun → Begun
begun_with_others ρ L = record { symbols = λ k. L.symbols (ρ.symbol k); in_lexical = L.in_lexical }

is_begun_again : (ρ : Renaming) (b : Bool) (h : Shape) (p : Position) (ts : Trees) (i k : ℕ) → is_in (Declared k) (begins b h p (summaries ts) i) ≡ is_in (Declared (ρ.symbol k)) (begins b h p (summaries (all_again ρ ts)) i)
is_begun_again ρ b h p ts i k =
    sym (is_in_again ρ (Declared k) (begins b h p (summaries ts) i)) ∙ ap (is_in (Declared (ρ.symbol k))) (begins_by_again ρ (beginning b h p i) ts i)

pub begun_at_again : (ρ : Renaming) (h : Shape) (p : Position) (L : Begun) (ts : Trees) (i : ℕ) → begun_at h p (begun_with_others ρ L) (summaries ts) i ≡ begun_with_others ρ (begun_at h p L (summaries (all_again ρ ts)) i)
begun_at_again ρ h p L ts zero = refl
begun_at_again ρ h p L ts (suc i) =
    let before = begun_at_again ρ h p L ts i in
    λ j. record { symbols = λ k. (before j).symbols k || is_begun_again ρ L.in_lexical h p ts i k j; in_lexical = (before j).in_lexical }
