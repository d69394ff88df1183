-- A tree weighs no more than its text does without symbols: a name that is declared can be renamed.
use Rattle.std.proofs.Common.{◌≡◌, ℕ, zero, suc, ◌+◌, ◌≤◌, Bool, true, false, List, [], ◌∷◌, map, refl, sym, ap, subst, arith}
use Rattle.std.specs.Prelude.{Option, Some, None, codes, is_none, if◌then◌else◌}
use Rattle.mini_model.specs.declared.name.Name.{Name}
use Rattle.mini_model.specs.declared.name.SymbolId.{SymbolId}
use Rattle.mini_model.specs.declared.place.Position.{Position}
use Rattle.mini_model.specs.declared.place.Position.TheVariants.{Unwritten, Elsewhere}
use Rattle.mini_model.specs.declared.shape.Shape.{Shape}
use Rattle.mini_model.specs.declared.shape.Shape.TheVariants as shape
use Rattle.mini_model.specs.Tree.{Tree, Trees, node, none, ◌▸◌, count}
use Rattle.mini_model.specs.Position.{child_position}
use Rattle.mini_model.specs.Weight.{Outline, outline, outlines, outline_by, same_text, spelled_weight, name_weight, names_weight, text_weight, own_weight, weight, weights}
use Rattle.mini_laws.specs.Resolved.{resolved_program}
use Rattle.mini_laws.specs.Symbols.{with_new, no_symbol, bare_names, bare, all_bare}
use Rattle.mini_accept.specs.Symbols.{has_no_symbol}
use Rattle.mini_kept.proofs.Texts.{bare_same, bare_resolved}

at_least : (a b c : Bool) → 2 ≤ (if a then 18 else (if b then 16 else (if c then 6 else 2)))
at_least true b c = omega arith
at_least false true c = omega arith
at_least false false true = omega arith
at_least false false false = omega arith

name_heaviest : (x : Name) → name_weight x ≤ name_weight (with_new no_symbol x)
name_heaviest x = by x.symbol
  where
    by : (s : Option SymbolId) → (if is_none s then spelled_weight x.spelling else 2) ≤ spelled_weight x.spelling
    by None = omega arith
    by (Some n) = at_least (same_text x.spelling (codes "undefined")) (same_text x.spelling (codes "Infinity")) (same_text x.spelling (codes "NaN"))

names_heaviest : (xs : List Name) → names_weight xs ≤ names_weight (map (with_new no_symbol) xs)
names_heaviest [] = omega arith
names_heaviest (x ∷ xs) = let a = name_heaviest x in let b = names_heaviest xs in omega (arith, a, b)

text_heaviest : (h : Shape) (xs : List Name) (p : Position) (os : List Outline) → text_weight h xs p os ≤ text_weight h (bare_names h xs) p os
text_heaviest shape.Identifier xs p os = names_heaviest xs
text_heaviest h xs p os = omega arith

own_heaviest : (p : Position) (h : Shape) (xs : List Name) (os : List Outline) → own_weight p h xs os ≤ own_weight p h (bare_names h xs) os
own_heaviest Unwritten h xs os = omega arith
own_heaviest p h xs os = let a = text_heaviest h xs p os in omega (arith, a)

mutual
  unfolding bare

  outline_bare : (t : Tree) → outline (bare t) ≡ outline t
  outline_bare (node h xs n ts) = ap (outline_by h) (outlines_bare ts)

  outlines_bare : (ts : Trees) → outlines (all_bare ts) ≡ outlines ts
  outlines_bare none = refl
  outlines_bare (t ▸ ts) = λ k. outline_bare t k ∷ outlines_bare ts k

mutual
  unfolding bare

  count_bare : (ts : Trees) → count (all_bare ts) ≡ count ts
  count_bare none = refl
  count_bare (t ▸ ts) = ap suc (count_bare ts)

mutual
  unfolding bare

  heaviest : (p : Position) (t : Tree) → weight p t ≤ weight p (bare t)
  heaviest p (node h xs n ts) =
      let a = own_heaviest p h xs (outlines ts) in
      let b = all_heaviest (child_position h p (count ts)) ts in
      subst (λ os. weight p (node h xs n ts) ≤ own_weight p h (bare_names h xs) os + weights (child_position h p (count (all_bare ts))) (all_bare ts)) (sym (outlines_bare ts))
      (subst (λ m. weight p (node h xs n ts) ≤ own_weight p h (bare_names h xs) (outlines ts) + weights (child_position h p m) (all_bare ts)) (sym (count_bare ts)) (omega (arith, a, b)))

  all_heaviest : (π : ℕ → Position) (ts : Trees) → weights π ts ≤ weights π (all_bare ts)
  all_heaviest π none = omega arith
  all_heaviest π (t ▸ ts) = let a = heaviest (π zero) t in let b = all_heaviest (λ i. π (suc i)) ts in omega (arith, a, b)

-- so resolution makes no program heavier
pub resolved_lighter : (t : Tree) → has_no_symbol t ≡ true → weight Elsewhere (resolved_program t) ≤ weight Elsewhere t
resolved_lighter t e =
    subst (λ u. weight Elsewhere (resolved_program t) ≤ weight Elsewhere u) (bare_same t e) (subst (λ u. weight Elsewhere (resolved_program t) ≤ weight Elsewhere u) (bare_resolved t) (heaviest Elsewhere (resolved_program t)))
