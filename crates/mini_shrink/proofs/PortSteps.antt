-- A step in a program imports and exports no more than it did.
use Rattle.std.specs.Prelude.{ℕ, suc, ◌≡◌, refl, ◌⊎◌, ◌||◌, ◌&&◌, Bool, true, false, List, [], ◌∷◌, ◌++◌, None, if◌then◌else◌}
use Rattle.std.proofs.Common.{ap, ◌∙◌, sym, subst, inl, inr, true≢false}
use Rattle.mini_model.specs.declared.name.Name.{Name}
use Rattle.mini_model.specs.declared.place.Position.{Position}
use Rattle.mini_model.specs.declared.place.Position.TheVariants.{Elsewhere, CommaList}
use Rattle.mini_model.specs.declared.shape.Shape.{Shape}
use Rattle.mini_model.specs.declared.shape.Shape.TheVariants as shape
use Rattle.mini_model.specs.Tree.{Tree, Trees, node, none, ◌▸◌, count, shape_of, children}
use Rattle.mini_model.specs.Position.{child_position}
use Rattle.mini_model.specs.Rewriting.{Step, here, inside, StepIn, first, later}
use Rattle.mini_accept.specs.WellShaped.{Depth, in_module, in_body, nested, a_program, a_statement, an_export, a_module_name, an_exported_name, a_string, an_exported_declaration, Slot, one, one_or_absent, many, refused, these, each, filling_by, filling, none_if, in_depth, module_slots, is_sloppy_function, is_whole, is_strict_in, fits, fill, IsWellShaped}
use Rattle.mini_laws.specs.declared.names.Declared.TheVariants as declared
use Rattle.mini_laws.specs.DeclaredNames.{names_of}
use Rattle.mini_laws.specs.ScopeList.{by_symbol}
use Rattle.mini_laws.specs.Mentions.{same_variable, is_among}
use Rattle.mini_laws.specs.Foreign.{imported_names, all_imported_names}
use Rattle.mini_laws.specs.Shared.{module_names, all_module_names}
use Rattle.mini_kept.specs.Frames.{is_port, own, ports}
use Rattle.mini_kept.specs.KeepsFrames.{KeepsPlaces, KeepsFunction, KeepsModule, NoPort, IsShownAlike, KeepsHolder, is_body_slot, is_keyed_slot, function_over, module_over}
use Rattle.mini_kept.specs.KeepsShapes.{KeepsShapes}
use Rattle.mini_kept.specs.Placed.{fits_place, is_statement_list}
use Rattle.mini_kept.proofs.Bools.{left, right}
use Rattle.mini_kept.proofs.Expressions.{refused_here}
use Rattle.mini_kept.proofs.Placed.{Placed, placed_below}
use Rattle.mini_kept.proofs.Steps.{any_step_fits}
use Rattle.mini_kept.proofs.StepDeclares.{step_declares}
use Rattle.mini_shrink.proofs.Finding.{any_both}
use Rattle.mini_shrink.proofs.Owns.{or_implied, any_same}
use Rattle.mini_shrink.proofs.Ports.{no_list_there, no_program_there, no_names_there, all_imports_shown, statements_shown, statement_shown, shows_names, quiet_declared}

module _ (R : Position → Tree → Tree → Type 0) (l : KeepsPlaces R) (shapes : KeepsShapes R) where
  -- ---- where nothing is rewritten

  abbrev NoHolder : Bool → Slot → Type 0
  NoHolder strict s = ((d g : Bool) (ds : List (List ℕ)) → filling strict s (shape.Function d g ds) ≡ refused) × ((m : Bool) (ds : List (List ℕ)) → filling strict s (shape.Program m ds) ≡ refused)

  not_here : (p : Position) (t u : Tree) → R p t u → (strict : Bool) (s : Slot) → fits_place p s ≡ true → fits strict s t ≡ true → is_body_slot p s ≡ false → is_keyed_slot s ≡ false → NoHolder strict s → ⊥
  not_here p t u r strict s o e b k h = by (l.slots p t u r strict s o e)
    where
      by : ((is_body_slot p s ≡ true) ⊎ IsShownAlike s t u) ⊎ KeepsHolder t u → ⊥
      by (inl (inl c)) = true≢false (sym c ∙ b)
      by (inl (inr c)) = true≢false (sym c.0 ∙ k)
      by (inr (inl f)) = refused_here strict s (shape.Function f.is_declared f.is_generator f.directives) [] (suc f.number) (f.name ▸ (f.parameters ▸ (f.earlier ▸ none))) (h.0 f.is_declared f.is_generator f.directives) (sym (ap (fits strict s) f.before) ∙ e)
      by (inr (inr m)) = refused_here strict s (shape.Program true m.directives) [] m.number (m.earlier ▸ none) (h.1 true m.directives) (sym (ap (fits strict s) m.before) ∙ e)

  no_step : {π : ℕ → Position} {ts us : Trees} → StepIn R π ts us → ts ≡ none → ⊥
  no_step (first π t u ts z) e = cc e
  no_step (later π t ts us z) e = cc e

  emptied : (strict : Bool) (ts : Trees) → fill strict (these []) ts ≡ true → ts ≡ none
  emptied strict none e = refl
  emptied strict (t ▸ ts) e = absurd (true≢false (sym e))

  leaf_sealed : {p : Position} {t u : Tree} → Step R p t u → (strict : Bool) → fits_place p (one a_module_name) ≡ true → fits strict (one a_module_name) t ≡ true → ⊥
  leaf_sealed (here p t u r) strict o e = not_here p t u r strict (one a_module_name) o e refl refl ((λ d g ds. refl), (λ m ds. refl))
  leaf_sealed (inside p (shape.IdentifierName v) xs n ts us z) strict o e = no_step z (emptied strict ts (right (is_whole a_module_name (shape.IdentifierName v) xs n ts) _ e))
  leaf_sealed (inside p (shape.StringLiteral v) xs n ts us z) strict o e = no_step z (emptied strict ts (right (is_whole a_module_name (shape.StringLiteral v) xs n ts) _ e))
  leaf_sealed (inside p h xs n ts us z) strict o e = refused_here strict (one a_module_name) h xs n ts refl e

  name_sealed : {p : Position} {t u : Tree} → Step R p t u → (strict : Bool) → fits_place p (one an_exported_name) ≡ true → fits strict (one an_exported_name) t ≡ true → ⊥
  name_sealed (here p t u r) strict o e = not_here p t u r strict (one an_exported_name) o e refl refl ((λ d g ds. refl), (λ m ds. refl))
  name_sealed (inside p (shape.IdentifierName v) xs n ts us z) strict o e = no_step z (emptied strict ts (right (is_whole an_exported_name (shape.IdentifierName v) xs n ts) _ e))
  name_sealed (inside p (shape.StringLiteral v) xs n ts us z) strict o e = no_step z (emptied strict ts (right (is_whole an_exported_name (shape.StringLiteral v) xs n ts) _ e))
  name_sealed (inside p shape.Identifier xs n ts us z) strict o e = no_step z (emptied strict ts (right (is_whole an_exported_name shape.Identifier xs n ts) _ e))
  name_sealed (inside p h xs n ts us z) strict o e = refused_here strict (one an_exported_name) h xs n ts refl e

  names_sealed : {π : ℕ → Position} {ts us : Trees} → StepIn R π ts us → (strict : Bool) → Placed π (these (one a_module_name ∷ one an_exported_name ∷ [])) → fill strict (these (one a_module_name ∷ one an_exported_name ∷ [])) ts ≡ true → ⊥
  names_sealed (first π t u ts z) strict o e = leaf_sealed z strict o.0 (left (fits strict (one a_module_name) t) _ e)
  names_sealed (later π t _ _ (first ρ b c ts z)) strict o e = name_sealed z strict o.1.0 (left (fits strict (one an_exported_name) b) _ (right (fits strict (one a_module_name) t) _ e))
  names_sealed (later π t _ _ (later ρ b ts us z)) strict o e = no_step z (emptied strict ts (right (fits strict (one an_exported_name) b) _ (right (fits strict (one a_module_name) t) _ e)))

  export_sealed : {p : Position} {t u : Tree} → Step R p t u → (strict : Bool) → fits_place p (one an_export) ≡ true → fits strict (one an_export) t ≡ true → ⊥
  export_sealed (here p t u r) strict o e = not_here p t u r strict (one an_export) o e refl refl ((λ d g ds. refl), (λ m ds. refl))
  export_sealed (inside p shape.ExportSpecifier xs n ts us z) strict o e = names_sealed z strict (placed_below strict (one an_export) shape.ExportSpecifier p (count ts) o) (right (is_whole an_export shape.ExportSpecifier xs n ts) _ e)
  export_sealed (inside p h xs n ts us z) strict o e = refused_here strict (one an_export) h xs n ts refl e

  exports_sealed : {π : ℕ → Position} {ts us : Trees} → StepIn R π ts us → (strict : Bool) → ((j : ℕ) → fits_place (π j) (one an_export) ≡ true) → fill strict (each (one an_export)) ts ≡ true → ⊥
  exports_sealed (first π t u ts z) strict o e = export_sealed z strict (o 0) (left (fits strict (one an_export) t) _ e)
  exports_sealed (later π t ts us z) strict o e = exports_sealed z strict (λ j. o (suc j)) (right (fits strict (one an_export) t) _ e)

  list_sealed : {p : Position} {t u : Tree} → Step R p t u → p ≡ CommaList → (strict : Bool) → fits_place p (many an_export) ≡ true → fits strict (many an_export) t ≡ true → ⊥
  list_sealed (here p t u r) q strict o e = not_here p t u r strict (many an_export) o e (ap (λ z. is_body_slot z (many an_export)) q) refl ((λ d g ds. refl), (λ m ds. refl))
  list_sealed (inside p shape.Listed xs n ts us z) q strict o e = exports_sealed z strict (placed_below strict (many an_export) shape.Listed p (count ts) o) (right (is_whole an_export shape.Listed xs n ts) _ e)
  list_sealed (inside p h xs n ts us z) q strict o e = refused_here strict (many an_export) h xs n ts refl e

  source_sealed : {p : Position} {t u : Tree} → Step R p t u → (strict : Bool) → fits_place p (one_or_absent a_string) ≡ true → fits strict (one_or_absent a_string) t ≡ true → ⊥
  source_sealed (here p t u r) strict o e = not_here p t u r strict (one_or_absent a_string) o e refl refl ((λ d g ds. refl), (λ m ds. refl))
  source_sealed (inside p shape.Absent xs n ts us z) strict o e = no_step z (emptied strict ts (right (is_whole a_string shape.Absent xs n ts) _ e))
  source_sealed (inside p (shape.StringLiteral v) xs n ts us z) strict o e = no_step z (emptied strict ts (right (is_whole a_string (shape.StringLiteral v) xs n ts) _ e))
  source_sealed (inside p h xs n ts us z) strict o e = refused_here strict (one_or_absent a_string) h xs n ts refl e

  -- ---- statements

  module _ (k : ℕ) where
    abbrev x : Name
    x = by_symbol k

    -- what it imports and what it imports and exports is no more than before
    abbrev Less : Tree → Tree → Type 0
    Less t u = (is_among x (imported_names u) ≡ true → is_among x (imported_names t) ≡ true) × (is_among x (module_names u) ≡ true → is_among x (module_names t) ≡ true)

    abbrev AllLess : Trees → Trees → Type 0
    AllLess ts us = (is_among x (all_imported_names us) ≡ true → is_among x (all_imported_names ts) ≡ true) × (is_among x (all_module_names us) ≡ true → is_among x (all_module_names ts) ≡ true)

    among_both : (ys zs ys' zs' : List Name) → (is_among x ys' ≡ true → is_among x ys ≡ true) → (is_among x zs' ≡ true → is_among x zs ≡ true) → is_among x (ys' ++ zs') ≡ true → is_among x (ys ++ zs) ≡ true
    among_both ys zs ys' zs' f g e = any_both (same_variable x) ys zs ∙ or_implied (is_among x ys') (is_among x zs') (is_among x ys) (is_among x zs) f g (sym (any_both (same_variable x) ys' zs') ∙ e)

    both_less : (t u : Tree) (ts us : Trees) → Less t u → AllLess ts us → AllLess (t ▸ ts) (u ▸ us)
    unfolding imported_names module_names
    both_less t u ts us f g = (among_both (imported_names t) (all_imported_names ts) (imported_names u) (all_imported_names us) f.0 g.0, among_both (module_names t) (all_module_names ts) (module_names u) (all_module_names us) f.1 g.1)

    -- what has no names has no more
    nothing_new : (t u : Tree) → is_among x (imported_names u) ≡ false → is_among x (module_names u) ≡ false → Less t u
    nothing_new t u e f = (λ g. absurd (true≢false (sym g ∙ e)), λ g. absurd (true≢false (sym g ∙ f)))

    or_first_false : (a b : Bool) → (a || b) ≡ false → a ≡ false
    or_first_false true b e = absurd (true≢false e)
    or_first_false false b e = refl

    portless : (strict : Bool) (d : Depth) (t u : Tree) → is_port true (shape_of u) ≡ false → fits strict (one (a_statement d)) u ≡ true → Less t u
    unfolding imported_names
    portless strict d t u b e =
        let listed = sym (right_one strict (one (a_statement d)) u e) in
        nothing_new t u
        (or_first_false (is_among x (imported_names u)) (is_among x []) (sym (any_both (same_variable x) (imported_names u) []) ∙ ap (is_among x) (all_imports_shown strict d (u ▸ none) (sym listed)) ∙ ap (λ c. is_among x (all_imported_names (if c then own u ▸ none else none))) b))
        (statement_shown k strict d u e ∙ ap (λ c. shows_names k (if c then own u ▸ none else none)) b)
      where
        right_one : (strict : Bool) (s : Slot) (v : Tree) → fits strict s v ≡ true → fill strict (each s) (v ▸ none) ≡ true
        right_one strict s v f = λ j. f j && true

    functional : (t u : Tree) (b g : Bool) (ds : List (List ℕ)) (n : ℕ) (c p d : Tree) → u ≡ function_over b g ds n c p d → Less t u
    unfolding imported_names module_names
    functional t u b g ds n c p d e = nothing_new t u (ap (λ v. is_among x (imported_names v)) e) (ap (λ v. is_among x (module_names v)) e)

    no_export : (strict : Bool) (d : Depth) (xs : List Name) (n : ℕ) (ts : Trees) → in_depth d (module_slots shape.ExportNamedDeclaration) ≡ None → fits strict (one (a_statement d)) (node shape.ExportNamedDeclaration xs n ts) ≡ true → ⊥
    no_export strict d xs n ts f e = refused_here strict (one (a_statement d)) shape.ExportNamedDeclaration xs n ts (ap (λ o. filling_by (none_if (is_sloppy_function strict d shape.ExportNamedDeclaration) o)) f ∙ none_there (is_sloppy_function strict d shape.ExportNamedDeclaration)) e
      where
        none_there : (b : Bool) → filling_by (none_if b None) ≡ refused
        none_there true = refl
        none_there false = refl

    exported_less : (strict : Bool) {π : ℕ → Position} {ts us : Trees} → StepIn R π ts us → π 1 ≡ CommaList → Placed π (these (one_or_absent an_exported_declaration ∷ many an_export ∷ one_or_absent a_string ∷ []))
        → fill strict (these (one_or_absent an_exported_declaration ∷ many an_export ∷ one_or_absent a_string ∷ [])) ts ≡ true → is_among x (all_module_names us) ≡ true → is_among x (all_module_names ts) ≡ true
    unfolding module_names
    exported_less strict (first π t u ts z) q o e =
        let later_fits = any_step_fits R l.names shapes z strict (one_or_absent an_exported_declaration) o.0 (left (fits strict (one_or_absent an_exported_declaration) t) _ e) in
        among_both (module_names t) (all_module_names ts) (module_names u) (all_module_names ts) (λ f. absurd (true≢false (sym f ∙ ap (is_among x) (quiet_declared strict u later_fits)))) (λ f. f)
    exported_less strict (later π t _ _ (first ρ b c ts z)) q o e = absurd (list_sealed z q strict o.1.0 (left (fits strict (many an_export) b) _ (right (fits strict (one_or_absent an_exported_declaration) t) _ e)))
    exported_less strict (later π t _ _ (later ρ b _ _ (first σ c d ts z))) q o e =
        absurd (source_sealed z strict o.1.1.0 (left (fits strict (one_or_absent a_string) c) _ (right (fits strict (many an_export) b) _ (right (fits strict (one_or_absent an_exported_declaration) t) _ e))))
    exported_less strict (later π t _ _ (later ρ b _ _ (later σ c ts us z))) q o e =
        absurd (no_step z (emptied strict ts (right (fits strict (one_or_absent a_string) c) _ (right (fits strict (many an_export) b) _ (right (fits strict (one_or_absent an_exported_declaration) t) _ e)))))

    named_less : (p : Position) (xs : List Name) (n : ℕ) (ts us : Trees) → StepIn R (child_position shape.ExportNamedDeclaration p (count ts)) ts us → (strict : Bool) (d : Depth) → fits_place p (one (a_statement d)) ≡ true → fits strict (one (a_statement d)) (node shape.ExportNamedDeclaration xs n ts) ≡ true
        → Placed (child_position shape.ExportNamedDeclaration p (count ts)) (these (one_or_absent an_exported_declaration ∷ many an_export ∷ one_or_absent a_string ∷ [])) → fill strict (these (one_or_absent an_exported_declaration ∷ many an_export ∷ one_or_absent a_string ∷ [])) ts ≡ true → Less (node shape.ExportNamedDeclaration xs n ts) (node shape.ExportNamedDeclaration xs n us)
    unfolding imported_names module_names
    named_less p xs n ts us z strict d o e placed f =
        let kept = step_declares R l.names (inside p shape.ExportNamedDeclaration xs n ts us z) strict (one (a_statement d)) o e in
        let lexical = names_of declared.Lexical (node shape.ExportNamedDeclaration xs n ts) in
        let hoisted = names_of declared.Hoisted (node shape.ExportNamedDeclaration xs n ts) in
        let lexical' = names_of declared.Lexical (node shape.ExportNamedDeclaration xs n us) in
        let hoisted' = names_of declared.Hoisted (node shape.ExportNamedDeclaration xs n us) in (
          λ g. g,
          among_both (lexical ++ hoisted) (all_module_names ts) (lexical' ++ hoisted') (all_module_names us)
              (among_both lexical hoisted lexical' hoisted' (λ g. ap (is_among x) (sym kept.lexical) ∙ g) (λ g. any_same (same_variable x) hoisted' hoisted kept.hoisted g)) (exported_less strict z refl placed f),
        )

    -- what stands inside another statement is neither imported nor exported
    others_less : (strict : Bool) (d : Depth) (h : Shape) (xs : List Name) (n : ℕ) (ts us : Trees) → is_port true h ≡ false → fits strict (one (a_statement d)) (node h xs n ts) ≡ true → Less (node h xs n ts) (node h xs n us)
    unfolding imported_names module_names
    others_less strict d shape.Listed xs n ts us b e = absurd (no_list_there strict d xs n ts e)
    others_less strict d (shape.Program m ds) xs n ts us b e = absurd (no_program_there strict d m ds xs n ts e)
    others_less strict d shape.ExportSpecifier xs n ts us b e = absurd (no_names_there k strict d shape.ExportSpecifier xs n ts refl e)
    others_less strict d shape.ImportDeclaration xs n ts us b e = absurd (true≢false b)
    others_less strict d shape.ExportNamedDeclaration xs n ts us b e = absurd (true≢false b)
    others_less strict d shape.ExportDefaultDeclaration xs n ts us b e = absurd (true≢false b)
    others_less strict d h xs n ts us b e = (λ g. g, λ g. g)

    statement_less : {p : Position} {t u : Tree} → Step R p t u → (strict : Bool) (d : Depth) → fits_place p (one (a_statement d)) ≡ true → fits strict (one (a_statement d)) t ≡ true → Less t u
    unfolding imported_names module_names
    statement_less (here p t u r) strict d o e = by (l.ports p t u r strict d e true)
      where
        by : NoPort true t u ⊎ KeepsFunction t u → Less t u
        by (inl b) = portless strict d t u b.1 (shapes.fitting p t u r strict (one (a_statement d)) o e)
        by (inr f) = functional t u f.is_declared f.is_generator f.directives (suc f.number) f.name f.parameters f.later f.after
    statement_less (inside p shape.ImportDeclaration xs n ts us z) strict d o e =
        let same = (step_declares R l.names (inside p shape.ImportDeclaration xs n ts us z) strict (one (a_statement d)) o e).lexical in
        (λ f. ap (is_among x) (sym same) ∙ f, λ f. ap (is_among x) (sym same) ∙ f)
    statement_less (inside p shape.ExportDefaultDeclaration xs n ts us z) strict d o e =
        let same = (step_declares R l.names (inside p shape.ExportDefaultDeclaration xs n ts us z) strict (one (a_statement d)) o e).lexical in
        (λ f. f, λ f. ap (is_among x) (sym same) ∙ f)
    statement_less (inside p shape.ExportNamedDeclaration xs n ts us z) true in_module o e = named_less p xs n ts us z true in_module o e (placed_below true (one (a_statement in_module)) shape.ExportNamedDeclaration p (count ts) o) (right (is_whole (a_statement in_module) shape.ExportNamedDeclaration xs n ts) _ e)
    statement_less (inside p shape.ExportNamedDeclaration xs n ts us z) false in_module o e = named_less p xs n ts us z false in_module o e (placed_below false (one (a_statement in_module)) shape.ExportNamedDeclaration p (count ts) o) (right (is_whole (a_statement in_module) shape.ExportNamedDeclaration xs n ts) _ e)
    statement_less (inside p shape.ExportNamedDeclaration xs n ts us z) strict in_body o e = absurd (no_export strict in_body xs n ts refl e)
    statement_less (inside p shape.ExportNamedDeclaration xs n ts us z) strict nested o e = absurd (no_export strict nested xs n ts refl e)
    statement_less (inside p shape.ExportAllDeclaration xs n ts us z) strict d o e = (λ f. f, λ f. f)
    statement_less (inside p h xs n ts us z) strict d o e = others_less strict d h xs n ts us refl e

    -- ---- lists of statements

    list_imports : (strict : Bool) (d : Depth) (t : Tree) → fits strict (many (a_statement d)) t ≡ true → imported_names t ≡ all_imported_names (ports true (children t))
    unfolding imported_names
    list_imports strict d (node shape.Listed xs n ts) e = all_imports_shown strict d ts (right (is_whole (a_statement d) shape.Listed xs n ts) _ e)
    list_imports strict d (node h xs n ts) e = absurd (refused_here strict (many (a_statement d)) h xs n ts refl e)

    list_modules : (strict : Bool) (d : Depth) (t : Tree) → fits strict (many (a_statement d)) t ≡ true → is_among x (module_names t) ≡ shows_names k (ports true (children t))
    unfolding module_names
    list_modules strict d (node shape.Listed xs n ts) e = statements_shown k strict d ts (right (is_whole (a_statement d) shape.Listed xs n ts) _ e)
    list_modules strict d (node h xs n ts) e = absurd (refused_here strict (many (a_statement d)) h xs n ts refl e)

    list_less : (strict : Bool) (d : Depth) (t u : Tree) → fits strict (many (a_statement d)) t ≡ true → fits strict (many (a_statement d)) u ≡ true → ports true (children t) ≡ ports true (children u) → Less t u
    list_less strict d t u e f same =
        (λ g. ap (is_among x) (list_imports strict d t e ∙ ap all_imported_names same ∙ sym (list_imports strict d u f)) ∙ g, λ g. list_modules strict d t e ∙ ap (shows_names k) same ∙ sym (list_modules strict d u f) ∙ g)

    items_less : {π : ℕ → Position} {ts us : Trees} → StepIn R π ts us → (strict : Bool) (d : Depth) → ((j : ℕ) → fits_place (π j) (one (a_statement d)) ≡ true) → fill strict (each (one (a_statement d))) ts ≡ true → AllLess ts us
    items_less (first π t u ts z) strict d o e = both_less t u ts ts (statement_less z strict d (o 0) (left (fits strict (one (a_statement d)) t) _ e)) ((λ g. g), (λ g. g))
    items_less (later π t ts us z) strict d o e = both_less t t ts us ((λ g. g), (λ g. g)) (items_less z strict d (λ j. o (suc j)) (right (fits strict (one (a_statement d)) t) _ e))

    list_step : {p : Position} {t u : Tree} → Step R p t u → is_statement_list p ≡ true → (strict : Bool) (d : Depth) → fits_place p (many (a_statement d)) ≡ true → fits strict (many (a_statement d)) t ≡ true → Less t u
    unfolding imported_names module_names
    list_step (here p t u r) q strict d o e = list_less strict d t u e (shapes.fitting p t u r strict (many (a_statement d)) o e) (l.listed p t u q r strict d e true)
    list_step (inside p shape.Listed xs n ts us z) q strict d o e = items_less z strict d (placed_below strict (many (a_statement d)) shape.Listed p (count ts) o) (right (is_whole (a_statement d) shape.Listed xs n ts) _ e)
    list_step (inside p h xs n ts us z) q strict d o e = absurd (refused_here strict (many (a_statement d)) h xs n ts refl e)

    -- ---- a program

    statements_less : {π : ℕ → Position} {ts us : Trees} → StepIn R π ts us → is_statement_list (π 0) ≡ true → (strict : Bool) (d : Depth) → Placed π (these (many (a_statement d) ∷ [])) → fill strict (these (many (a_statement d) ∷ [])) ts ≡ true → AllLess ts us
    statements_less (first π t u ts z) q strict d o e = both_less t u ts ts (list_step z q strict d o.0 (left (fits strict (many (a_statement d)) t) _ e)) ((λ g. g), (λ g. g))
    statements_less (later π t ts us z) q strict d o e = absurd (no_step z (emptied strict ts (right (fits strict (many (a_statement d)) t) _ e)))

    module_less : (ds : List (List ℕ)) (n : ℕ) (a b : Tree) → fits false (one a_program) (module_over ds n a) ≡ true → fits false (one a_program) (module_over ds n b) ≡ true → ports true (children a) ≡ ports true (children b) → Less (module_over ds n a) (module_over ds n b)
    unfolding imported_names module_names
    module_less ds n a b e f same =
        let statements : Slot = many (a_statement in_module) in
        both_less a b none none
        (list_less true in_module a b (left (fits true statements a) _ (right (is_whole a_program (shape.Program true ds) [] n (a ▸ none)) _ e)) (left (fits true statements b) _ (right (is_whole a_program (shape.Program true ds) [] n (b ▸ none)) _ f)) same) ((λ g. g), (λ g. g))

    -- what replaces a whole program is a module with its imports and exports
    pub root_module : (p : Position) (t u : Tree) → R p t u → p ≡ Elsewhere → IsWellShaped t → KeepsModule t u
    root_module p t u r q e = by (l.slots p t u r false (one a_program) (ap (λ o. fits_place o (one a_program)) q) e)
      where
        by : ((is_body_slot p (one a_program) ≡ true) ⊎ IsShownAlike (one a_program) t u) ⊎ KeepsHolder t u → KeepsModule t u
        by (inl (inl c)) = absurd (true≢false (sym c))
        by (inl (inr c)) = absurd (true≢false (sym c.0))
        by (inr (inl f)) = absurd (refused_here false (one a_program) (shape.Function f.is_declared f.is_generator f.directives) [] (suc f.number) (f.name ▸ (f.parameters ▸ (f.earlier ▸ none))) refl (sym (ap (fits false (one a_program)) f.before) ∙ e))
        by (inr (inr m)) = m

    root_less : (p : Position) (t u : Tree) → R p t u → p ≡ Elsewhere → IsWellShaped t → Less t u
    root_less p t u r q e =
        let m = root_module p t u r q e in
        let f : fits false (one a_program) u ≡ true = shapes.fitting p t u r false (one a_program) (ap (λ o. fits_place o (one a_program)) q) e in
        subst (λ v. Less v u) (sym m.before) (subst (λ v. Less (module_over m.directives m.number m.earlier) v) (sym m.after)
        (module_less m.directives m.number m.earlier m.later (sym (ap (fits false (one a_program)) m.before) ∙ e) (sym (ap (fits false (one a_program)) m.after) ∙ f) m.ported))

    pub program_less : (p : Position) (t u : Tree) → Step R p t u → p ≡ Elsewhere → IsWellShaped t → Less t u
    unfolding imported_names module_names
    program_less _ _ _ (here p t u r) q e = root_less p t u r q e
    program_less _ _ _ (inside p (shape.Program m ds) xs n ts us z) q e =
        statements_less z refl (is_strict_in false (shape.Program m ds)) (if m then in_module else in_body) (placed_below false (one a_program) (shape.Program m ds) p (count ts) (ap (λ o. fits_place o (one a_program)) q))
        (right (is_whole a_program (shape.Program m ds) xs n ts) _ e)
    program_less _ _ _ (inside p h xs n ts us z) q e = absurd (refused_here false (one a_program) h xs n ts refl e)
