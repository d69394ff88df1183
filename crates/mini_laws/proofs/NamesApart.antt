-- A tree moves past scopes that declare no name of it.
use Rattle.std.specs.Prelude.{ℕ, suc, ◌≡◌, refl, Bool, true, false, ◌&&◌, List, [], ◌∷◌, ◌++◌, Option, None, if◌then◌else◌}
use Rattle.std.proofs.Common.{ap, ◌∙◌, sym, subst, append_assoc}
use Rattle.mini_model.specs.declared.name.Name.{Name}
use Rattle.mini_model.specs.declared.name.SymbolId.{SymbolId}
use Rattle.mini_model.specs.declared.shape.Shape.TheVariants as shape
use Rattle.mini_model.specs.Tree.{Tree, Trees, node, none, ◌▸◌}
use Rattle.mini_model.specs.Weight.{same_text}
use Rattle.mini_laws.specs.declared.names.Use.{Use}
use Rattle.mini_laws.specs.declared.names.Use.TheVariants.{Read}
use Rattle.mini_laws.specs.declared.names.Binding.{Binding}
use Rattle.mini_laws.specs.Scopes.{use_of, opened}
use Rattle.mini_laws.specs.Resolved.{Environment, or_else, own_symbol, serves, symbol_of}
use Rattle.mini_laws.specs.Scoped.{NamesScoped, Scoped, AllScoped}
use Rattle.mini_laws.specs.NameMoves.{NoneSpelled, NamesApart, Apart, AllApart}
use Rattle.mini_laws.proofs.Lookups.{or_none, symbol_of_both}
use Rattle.mini_laws.proofs.Writing.{FoundAlike, first_plain, own_moved}

not_same : (v w : Bool) (x : Option SymbolId) → w ≡ false → (if v && w then x else None) ≡ None
not_same true true x e = cc
not_same true false x e = refl
not_same false w x e = refl

symbol_apart : (u : Use) (s : List ℕ) (bs : List Binding) → NoneSpelled bs s → symbol_of u s bs ≡ None
symbol_apart u s [] d = refl
symbol_apart u s (b ∷ bs) d = ap (λ r. or_else r (own_symbol u s b)) (symbol_apart u s bs d.1) ∙ not_same (serves u b) (same_text b.name.spelling s) b.name.symbol d.0

passed_symbol : (u : Use) (s : List ℕ) (outer passed inner : Environment) → NoneSpelled passed s → symbol_of u s (outer ++ (passed ++ inner)) ≡ symbol_of u s (outer ++ inner)
passed_symbol u s outer passed inner d =
    symbol_of_both u s outer (passed ++ inner)
    ∙ ap (λ r. or_else r (symbol_of u s outer)) (symbol_of_both u s passed inner ∙ ap (or_else (symbol_of u s inner)) (symbol_apart u s passed d) ∙ or_none (symbol_of u s inner))
    ∙ sym (symbol_of_both u s outer inner)

names_out : (u : Use) (outer passed inner : Environment) (xs : List Name) → NamesApart passed xs → NamesScoped u (outer ++ (passed ++ inner)) xs → NamesScoped u (outer ++ inner) xs
names_out u outer passed inner [] d h = tt
names_out u outer passed inner (x ∷ xs) d h = (h.0 ∙ passed_symbol u x.spelling outer passed inner d.0, names_out u outer passed inner xs d.1 h.1)

names_into : (u : Use) (outer passed inner : Environment) (xs : List Name) → NamesApart passed xs → NamesScoped u (outer ++ inner) xs → NamesScoped u (outer ++ (passed ++ inner)) xs
names_into u outer passed inner [] d h = tt
names_into u outer passed inner (x ∷ xs) d h = (h.0 ∙ sym (passed_symbol u x.spelling outer passed inner d.0), names_into u outer passed inner xs d.1 h.1)

plain_apart : (passed : Environment) (ts : Trees) → AllApart passed ts → NamesApart passed (first_plain ts)
unfolding Apart
plain_apart passed none d = tt
plain_apart passed (node shape.BindingIdentifier xs n ts ▸ rest) d = d.0.0
plain_apart passed (node h xs n ts ▸ rest) d = tt

passed_alike : (u : Use) (outer passed inner : Environment) (xs : List Name) → NamesApart passed xs → FoundAlike u (outer ++ (passed ++ inner)) (outer ++ inner) xs
passed_alike u outer passed inner [] d = tt
passed_alike u outer passed inner (x ∷ xs) d = (passed_symbol Read x.spelling outer passed inner d.0, passed_symbol u x.spelling outer passed inner d.0)

inner_alike : (u : Use) (outer passed inner : Environment) (xs : List Name) → NamesApart passed xs → FoundAlike u (outer ++ inner) (outer ++ (passed ++ inner)) xs
inner_alike u outer passed inner [] d = tt
inner_alike u outer passed inner (x ∷ xs) d = (sym (passed_symbol Read x.spelling outer passed inner d.0), sym (passed_symbol u x.spelling outer passed inner d.0))

within : (outer passed inner scope : Environment) → (outer ++ (passed ++ inner)) ++ scope ≡ outer ++ (passed ++ (inner ++ scope))
within outer passed inner scope = append_assoc outer (passed ++ inner) scope ∙ ap (λ r. outer ++ r) (append_assoc passed inner scope)

mutual
  unfolding Scoped Apart

  pub moved_out : (u : Use) (outer passed inner : Environment) (t : Tree) → Apart passed t → Scoped u (outer ++ (passed ++ inner)) t → Scoped u (outer ++ inner) t
  moved_out u outer passed inner (node h xs n ts) d s = (own_moved u (outer ++ (passed ++ inner)) (outer ++ inner) h xs ts (names_out u outer passed inner xs d.0) (passed_alike u outer passed inner (first_plain ts) (plain_apart passed ts d.1)) s.0, all_moved_out (opened u h ts) (use_of h u) 0 outer passed inner ts d.1 s.1)

  all_moved_out : (scope : ℕ → List Binding) (uses : ℕ → Use) (i : ℕ) (outer passed inner : Environment) (ts : Trees) → AllApart passed ts → AllScoped scope uses i (outer ++ (passed ++ inner)) ts → AllScoped scope uses i (outer ++ inner) ts
  all_moved_out scope uses i outer passed inner none d s = tt
  all_moved_out scope uses i outer passed inner (t ▸ ts) d s = (
    subst (λ e. Scoped (uses i) e t) (sym (append_assoc outer inner (scope i))) (moved_out (uses i) outer passed (inner ++ scope i) t d.0 (subst (λ e. Scoped (uses i) e t) (within outer passed inner (scope i)) s.0)),
    subst (λ e. AllScoped scope uses (suc i) e ts) (sym (append_assoc outer inner (scope i))) (all_moved_out scope uses (suc i) outer passed (inner ++ scope i) ts d.1 (subst (λ e. AllScoped scope uses (suc i) e ts) (within outer passed inner (scope i)) s.1)),
  )

mutual
  unfolding Scoped Apart

  pub moved_into : (u : Use) (outer passed inner : Environment) (t : Tree) → Apart passed t → Scoped u (outer ++ inner) t → Scoped u (outer ++ (passed ++ inner)) t
  moved_into u outer passed inner (node h xs n ts) d s = (own_moved u (outer ++ inner) (outer ++ (passed ++ inner)) h xs ts (names_into u outer passed inner xs d.0) (inner_alike u outer passed inner (first_plain ts) (plain_apart passed ts d.1)) s.0, all_moved_into (opened u h ts) (use_of h u) 0 outer passed inner ts d.1 s.1)

  all_moved_into : (scope : ℕ → List Binding) (uses : ℕ → Use) (i : ℕ) (outer passed inner : Environment) (ts : Trees) → AllApart passed ts → AllScoped scope uses i (outer ++ inner) ts → AllScoped scope uses i (outer ++ (passed ++ inner)) ts
  all_moved_into scope uses i outer passed inner none d s = tt
  all_moved_into scope uses i outer passed inner (t ▸ ts) d s = (
    subst (λ e. Scoped (uses i) e t) (sym (within outer passed inner (scope i))) (moved_into (uses i) outer passed (inner ++ scope i) t d.0 (subst (λ e. Scoped (uses i) e t) (append_assoc outer inner (scope i)) s.0)),
    subst (λ e. AllScoped scope uses (suc i) e ts) (sym (within outer passed inner (scope i))) (all_moved_into scope uses (suc i) outer passed (inner ++ scope i) ts d.1 (subst (λ e. AllScoped scope uses (suc i) e ts) (append_assoc outer inner (scope i)) s.1)),
  )
