-- The variables that a program mentions and lets be written, of a program that is read again.
use Rattle.std.specs.Prelude.{◌≡◌, refl, true, ◌&&◌, ◌||◌, List, map}
use Rattle.std.proofs.Common.{ap, ◌∙◌, sym}
use Rattle.mini_laws.proofs.Renamed.{variables_renamed}
use Rattle.mini_laws.specs.Fixity.{declared_by, lets_fourth, fixed_by, fixed_by_any}
use Rattle.mini_laws.specs.Naming.{summaries}
use Rattle.mini_laws.specs.Renaming.{rename_name, rename_variable}
use Rattle.mini_laws.specs.Value.{Variable, Declared, Global, variables, is_in}
use Rattle.mini_laws.specs.Writable.{mentions, any_mentions, is_open}
use Rattle.mini_model.specs.declared.name.Name.{Name}
use Rattle.mini_model.specs.declared.shape.Shape.{Shape}
use Rattle.mini_model.specs.declared.shape.Shape.TheVariants as shape
use Rattle.mini_model.specs.Tree.{Tree, Trees, node, none, ◌▸◌}
use Rattle.mini_again.specs.Again.{Renaming, again, all_again}
use Rattle.mini_again.specs.Families.{WritableSurvives}
use Rattle.mini_again.proofs.Summaries.{is_in_again, summary_again, summaries_again}

is_named_again : (ρ : Renaming) (x : Variable) (xs : List Name) → is_in (rename_variable ρ.symbol x) (variables (map (rename_name ρ.symbol) xs)) ≡ is_in x (variables xs)
is_named_again ρ x xs = ap (is_in (rename_variable ρ.symbol x)) (sym (variables_renamed ρ.symbol xs)) ∙ is_in_again ρ x (variables xs)

mutual
  mentions_again : (ρ : Renaming) (t : Tree) (x : Variable) → mentions (again ρ t) (rename_variable ρ.symbol x) ≡ mentions t x
  mentions_again ρ (node h xs n ts) x =
      ap (λ b. b || any_mentions (all_again ρ ts) (rename_variable ρ.symbol x)) (is_named_again ρ x xs) ∙ ap (λ b. is_in x (variables xs) || b) (any_mentions_again ρ ts x)

  any_mentions_again : (ρ : Renaming) (ts : Trees) (x : Variable) → any_mentions (all_again ρ ts) (rename_variable ρ.symbol x) ≡ any_mentions ts x
  any_mentions_again ρ none x = refl
  any_mentions_again ρ (t ▸ ts) x = ap (λ b. b || any_mentions (all_again ρ ts) (rename_variable ρ.symbol x)) (mentions_again ρ t x) ∙ ap (λ b. mentions t x || b) (any_mentions_again ρ ts x)

fourth_again : (ρ : Renaming) (ts : Trees) → map (rename_variable ρ.symbol) (lets_fourth (summaries ts)) ≡ lets_fourth (summaries (all_again ρ ts))
fourth_again ρ (a ▸ (b ▸ (c ▸ (d ▸ ts)))) = (summary_again ρ d).lets
fourth_again ρ (a ▸ (b ▸ (c ▸ none))) = refl
fourth_again ρ (a ▸ (b ▸ none)) = refl
fourth_again ρ (a ▸ none) = refl
fourth_again ρ none = refl

declared_again : (ρ : Renaming) (h : Shape) (ts : Trees) → map (rename_variable ρ.symbol) (declared_by h (summaries ts)) ≡ declared_by h (summaries (all_again ρ ts))
declared_again ρ (shape.Class true) ts = fourth_again ρ ts
declared_again ρ shape.ImportSpecifier ts = (summaries_again ρ ts).lets
declared_again ρ h ts = (summaries_again ρ ts).first

is_declared_again : (ρ : Renaming) (x : Variable) (h : Shape) (ts : Trees) → is_in (rename_variable ρ.symbol x) (declared_by h (summaries (all_again ρ ts))) ≡ is_in x (declared_by h (summaries ts))
is_declared_again ρ x h ts = ap (is_in (rename_variable ρ.symbol x)) (sym (declared_again ρ h ts)) ∙ is_in_again ρ x (declared_by h (summaries ts))

mutual
  fixed_again : (ρ : Renaming) (t : Tree) (x : Variable) → fixed_by (again ρ t) (rename_variable ρ.symbol x) ≡ fixed_by t x
  fixed_again ρ (node h xs n ts) x = simp (is_declared_again ρ x h ts, any_fixed_again ρ ts x)

  any_fixed_again : (ρ : Renaming) (ts : Trees) (x : Variable) → fixed_by_any (all_again ρ ts) (rename_variable ρ.symbol x) ≡ fixed_by_any ts x
  any_fixed_again ρ none x = refl
  any_fixed_again ρ (t ▸ ts) x = simp (fixed_again ρ t x, any_fixed_again ρ ts x)

pub writable_survives : WritableSurvives
writable_survives ρ t (Declared k) =
    ap (λ b. b && is_open (fixed_by (again ρ t) (Declared (ρ.symbol k)))) (mentions_again ρ t (Declared k)) ∙ ap (λ f. mentions t (Declared k) && is_open f) (fixed_again ρ t (Declared k))
writable_survives ρ t (Global s) = refl
