-- Declarations and exports stay whole after a step in one of their parts.
use Rattle.std.proofs.Common.{◌≡◌, ℕ, suc, Bool, true, false, List, [], ◌∷◌, refl, sym, ap, ◌∙◌, subst, arith, inl, inr}
use Rattle.std.specs.Prelude.{◌⊎◌, ◌&&◌, ◌||◌, not, nat_eq, nat_le}
use Rattle.mini_model.specs.declared.kind.VariableDeclarationKind.{VariableDeclarationKind}
use Rattle.mini_model.specs.declared.name.Name.{Name}
use Rattle.mini_model.specs.declared.place.Position.{Position}
use Rattle.mini_model.specs.declared.place.Position.TheVariants.{CommaList, Elsewhere}
use Rattle.mini_model.specs.declared.shape.Shape.{Shape}
use Rattle.mini_model.specs.declared.shape.Shape.TheVariants as shape
use Rattle.mini_model.specs.Tree.{Tree, Trees, node, none, ◌▸◌, count, children, shape_of, child_or_absent, is_absent}
use Rattle.mini_model.specs.Position.{child_position}
use Rattle.mini_accept.specs.WellShaped.{in_module, in_body, nested, Class, a_statement, a_key, a_private_or_key, an_inner_key, an_export, an_exported_declaration, a_loop_left, a_declarator, a_string, Slot, one, one_or_absent, many, these, each, is_whole, is_same_flag, is_reference, is_reference_shape, first_item, is_var, is_head_by, are_locals, is_whole_export, fits, fill}
use Rattle.mini_kept.proofs.Bools.{left, right, and_false}
use Rattle.mini_kept.proofs.Expressions.{refused_here}
use Rattle.mini_kept.specs.KeepsShapes.{KeepsShapes}
use Rattle.mini_kept.specs.Lifted.{KeepsNames}
use Rattle.mini_kept.proofs.Unbracketed.{same_by, reference_plain}
use Rattle.mini_kept.proofs.Moved.{Moved, Alike, AlikeBut, cases, still_but, still, still_list, absent_alike}

-- ---- declarations

or_kept : (a b c : Bool) → (a ≡ true → b ≡ true) → (not (not a) || c) ≡ true → (not (not b) || c) ≡ true
or_kept true true c f e = refl
or_kept true false c f e = absurd (cc (f refl))
or_kept false true c f e = refl
or_kept false false c f e = e

item_elsewhere : (p : Position) (h : Shape) (n i : ℕ) → h ≡ shape.Listed → child_position h CommaList n i ≡ Elsewhere
item_elsewhere p h n i e = ap (λ k. child_position k CommaList n i) e

declarators_listed : (strict : Bool) (t : Tree) → fits strict (many a_declarator) t ≡ true → shape_of t ≡ shape.Listed
declarators_listed strict (node shape.Listed xs n ts) e = refl
declarators_listed strict (node h xs n ts) e = absurd (refused_here strict (many a_declarator) h xs n ts refl e)

first_fits : (strict : Bool) (s : Slot) (ts : Trees) → fill strict (these (s ∷ [])) ts ≡ true → fits strict s (child_or_absent ts 0) ≡ true
first_fits strict s none e = absurd (cc e)
first_fits strict s (a ▸ ts) e = left (fits strict s a) (fill strict (these []) ts) e

-- ---- exports

abbrev AreSpecifiers : Trees → Type 0
AreSpecifiers none = Unit {0}
AreSpecifiers (t ▸ ts) = (shape_of t ≡ shape.ExportSpecifier) × AreSpecifiers ts

specifier_fits : (strict : Bool) (t : Tree) → fits strict (one an_export) t ≡ true → shape_of t ≡ shape.ExportSpecifier
specifier_fits strict (node shape.ExportSpecifier xs n ts) e = refl
specifier_fits strict (node h xs n ts) e = absurd (refused_here strict (one an_export) h xs n ts refl e)

specifiers_fit : (strict : Bool) (ts : Trees) → fill strict (each (one an_export)) ts ≡ true → AreSpecifiers ts
specifiers_fit strict none e = tt
specifiers_fit strict (t ▸ ts) e = (specifier_fits strict t (left (fits strict (one an_export) t) (fill strict (each (one an_export)) ts) e), specifiers_fit strict ts (right (fits strict (one an_export) t) (fill strict (each (one an_export)) ts) e))

list_fits : (strict : Bool) (t : Tree) → fits strict (many an_export) t ≡ true → (shape_of t ≡ shape.Listed) × AreSpecifiers (children t)
list_fits strict (node shape.Listed xs n ts) e = (refl, specifiers_fit strict ts (right (is_whole an_export shape.Listed xs n ts) (fill strict (each (one an_export)) ts) e))
list_fits strict (node h xs n ts) e = absurd (refused_here strict (many an_export) h xs n ts refl e)

abbrev Exporting : Trees → Type 0
Exporting ts = (shape_of (child_or_absent ts 1) ≡ shape.Listed) × AreSpecifiers (children (child_or_absent ts 1))

second_fits : (strict : Bool) (s r q : Slot) (ts : Trees) → fill strict (these (s ∷ (r ∷ (q ∷ [])))) ts ≡ true → fits strict r (child_or_absent ts 1) ≡ true
second_fits strict s r q none e = absurd (cc e)
second_fits strict s r q (a ▸ none) e = absurd (and_false (fits strict s a) e)
second_fits strict s r q (a ▸ (b ▸ ts)) e = left (fits strict r b) (fill strict (these (q ∷ [])) ts) (right (fits strict s a) (fits strict r b && fill strict (these (q ∷ [])) ts) e)

module_fits : (strict : Bool) (w : Bool) (ts : Trees) → (w && fill strict (these (one_or_absent an_exported_declaration ∷ (many an_export ∷ (one_or_absent a_string ∷ [])))) ts) ≡ true → Exporting ts
module_fits strict w ts e = list_fits strict (child_or_absent ts 1) (second_fits strict (one_or_absent an_exported_declaration) (many an_export) (one_or_absent a_string) ts (right w (fill strict (these (one_or_absent an_exported_declaration ∷ (many an_export ∷ (one_or_absent a_string ∷ [])))) ts) e))

exports_in : (strict : Bool) (c : Class) (xs : List Name) (n : ℕ) (ts : Trees) → fits strict (one c) (node shape.ExportNamedDeclaration xs n ts) ≡ true → Exporting ts
exports_in true (a_statement in_module) xs n ts e = module_fits true (is_whole (a_statement in_module) shape.ExportNamedDeclaration xs n ts) ts e
exports_in false (a_statement in_module) xs n ts e = module_fits false (is_whole (a_statement in_module) shape.ExportNamedDeclaration xs n ts) ts e
exports_in true (a_statement in_body) xs n ts e = absurd (refused_here true (one (a_statement in_body)) shape.ExportNamedDeclaration xs n ts refl e)
exports_in false (a_statement in_body) xs n ts e = absurd (refused_here false (one (a_statement in_body)) shape.ExportNamedDeclaration xs n ts refl e)
exports_in true (a_statement nested) xs n ts e = absurd (refused_here true (one (a_statement nested)) shape.ExportNamedDeclaration xs n ts refl e)
exports_in false (a_statement nested) xs n ts e = absurd (refused_here false (one (a_statement nested)) shape.ExportNamedDeclaration xs n ts refl e)
exports_in strict (a_key true) xs n ts e = absurd (refused_here strict (one (a_key true)) shape.ExportNamedDeclaration xs n ts refl e)
exports_in strict (a_key false) xs n ts e = absurd (refused_here strict (one (a_key false)) shape.ExportNamedDeclaration xs n ts refl e)
exports_in strict (a_private_or_key true) xs n ts e = absurd (refused_here strict (one (a_private_or_key true)) shape.ExportNamedDeclaration xs n ts refl e)
exports_in strict (a_private_or_key false) xs n ts e = absurd (refused_here strict (one (a_private_or_key false)) shape.ExportNamedDeclaration xs n ts refl e)
exports_in strict (an_inner_key true) xs n ts e = absurd (refused_here strict (one (an_inner_key true)) shape.ExportNamedDeclaration xs n ts refl e)
exports_in strict (an_inner_key false) xs n ts e = absurd (refused_here strict (one (an_inner_key false)) shape.ExportNamedDeclaration xs n ts refl e)
exports_in strict c xs n ts e = absurd (refused_here strict (one c) shape.ExportNamedDeclaration xs n ts refl e)

exports_fit : (strict : Bool) (s : Slot) (xs : List Name) (n : ℕ) (ts : Trees) → fits strict s (node shape.ExportNamedDeclaration xs n ts) ≡ true → Exporting ts
exports_fit strict (one c) xs n ts e = exports_in strict c xs n ts e
exports_fit strict (one_or_absent c) xs n ts e = exports_in strict c xs n ts e
exports_fit strict s xs n ts e = absurd (refused_here strict s shape.ExportNamedDeclaration xs n ts refl e)

module _ (R : Position → Tree → Tree → Type 0) (l : KeepsNames R) (shapes : KeepsShapes R) where
  absent_stays : {p : Position} {t u : Tree} → Moved R p t u → is_absent t ≡ true → is_absent u ≡ true
  absent_stays {p} {t} {u} m e = so (cases R m)
    where
      so : Alike R p t u ⊎ R p t u → is_absent u ≡ true
      so (inl a) = sym (absent_alike R a.root) ∙ e
      so (inr r) = (shapes.asked p t u r).absent e

  head_kept : (b : Bool) (k : VariableDeclarationKind) (ts us : Trees) → count ts ≡ count us → ((i : ℕ) → AlikeBut R Elsewhere (child_or_absent ts i) (child_or_absent us i)) → ((d : Tree) (e : Tree) → AlikeBut R Elsewhere d e → is_absent (child_or_absent (children d) 1) ≡ true → is_absent (child_or_absent (children e) 1) ≡ true) → is_head_by b k ts ≡ true → is_head_by b k us ≡ true
  head_kept b k none us c a f e = absurd (cc e)
  head_kept b k (t ▸ (v ▸ ts)) us c a f e = absurd (cc e)
  head_kept b k (t ▸ none) none c a f e = absurd (omega (arith, c))
  head_kept b k (t ▸ none) (u ▸ none) c a f e = or_kept (is_absent (child_or_absent (children t) 1)) (is_absent (child_or_absent (children u) 1)) (b && is_var k) (f t u (a 0)) e
  head_kept b k (t ▸ none) (u ▸ (v ▸ us)) c a f e = absurd (omega (arith, c))

  initializer_stays : (d e : Tree) → AlikeBut R Elsewhere d e → is_absent (child_or_absent (children d) 1) ≡ true → is_absent (child_or_absent (children e) 1) ≡ true
  initializer_stays d e a x = absent_stays a.second x

  items_alike : (t u : Tree) → shape_of t ≡ shape.Listed → Alike R CommaList t u → (i : ℕ) → AlikeBut R Elsewhere (child_or_absent (children t) i) (child_or_absent (children u) i)
  items_alike t u s a i = still_but R l refl (subst (λ q. Moved R q (child_or_absent (children t) i) (child_or_absent (children u) i)) (item_elsewhere CommaList (shape_of t) (count (children t)) i s) (a.parts i))

  -- of the head of a `for..in` or `for..of`, and of any other declaration
  pub head_declaration_kept : (p : Position) (strict b : Bool) (k : VariableDeclarationKind) (xs : List Name) (n : ℕ) (ts us : Trees) → fits strict (one (a_loop_left b)) (node (shape.VariableDeclaration k) xs n ts) ≡ true → Moved R CommaList (child_or_absent ts 0) (child_or_absent us 0) → is_head_by b k (children (first_item ts)) ≡ true → is_head_by b k (children (first_item us)) ≡ true
  head_declaration_kept p strict b k xs n ts us f m e =
      let listed = declarators_listed strict (child_or_absent ts 0) (first_fits strict (many a_declarator) ts (right (is_whole (a_loop_left b) (shape.VariableDeclaration k) xs n ts) (fill strict (these (many a_declarator ∷ [])) ts) f)) in
      let list = still_list R l m in
      head_kept b k (children (child_or_absent ts 0)) (children (child_or_absent us 0)) list.root.counted (items_alike (child_or_absent ts 0) (child_or_absent us 0) listed list) initializer_stays e

  pub declaration_kept : (ts us : Trees) → Moved R CommaList (child_or_absent ts 0) (child_or_absent us 0) → nat_le 1 (count (children (first_item ts))) ≡ true → nat_le 1 (count (children (first_item us))) ≡ true
  declaration_kept ts us m e = sym (ap (nat_le 1) (still R l refl m).counted) ∙ e

  local_kept : (t u : Tree) → shape_of t ≡ shape.ExportSpecifier → AlikeBut R Elsewhere t u → is_reference (child_or_absent (children u) 1) ≡ is_reference (child_or_absent (children t) 1)
  local_kept t u s a =
      let m = subst (λ h. Moved R (child_position h Elsewhere (count (children t)) 1) (child_or_absent (children t) 1) (child_or_absent (children u) 1)) s a.second in
      sym (same_by is_reference_shape reference_plain _ _ (still R l refl m).shape)

  locals_kept : (own : Bool) (ts us : Trees) → count ts ≡ count us → AreSpecifiers ts → ((i : ℕ) → AlikeBut R Elsewhere (child_or_absent ts i) (child_or_absent us i)) → are_locals own us ≡ are_locals own ts
  locals_kept own none none c s a = refl
  locals_kept own none (u ▸ us) c s a = absurd (omega (arith, c))
  locals_kept own (t ▸ ts) none c s a = absurd (omega (arith, c))
  locals_kept own (t ▸ ts) (u ▸ us) c s a =
      ap (λ b. is_same_flag own b && are_locals own us) (local_kept t u s.0 (a 0)) ∙ ap (λ b. is_same_flag own (is_reference (child_or_absent (children t) 1)) && b) (locals_kept own ts us (omega (arith, c)) s.1 (λ i. a (suc i)))

  module _ (p : Position) (ts us : Trees) where
    abbrev AllMoved : Shape → Type 0
    AllMoved h = (i : ℕ) → Moved R (child_position h p (count ts) i) (child_or_absent ts i) (child_or_absent us i)

    pub export_kept : (strict : Bool) (s : Slot) (xs : List Name) (n : ℕ) → fits strict s (node shape.ExportNamedDeclaration xs n ts) ≡ true → AllMoved shape.ExportNamedDeclaration → is_whole_export ts ≡ true → is_whole_export us ≡ true
    export_kept strict s xs n f m e =
        let (listed, specifiers) = exports_fit strict s xs n ts f in
        let first = absent_alike R (still R l refl (m 0)) in
        let list = still_list R l (m 1) in
        let source = absent_alike R (still R l refl (m 2)) in
        let locals = locals_kept (is_absent (child_or_absent us 2)) (children (child_or_absent ts 1)) (children (child_or_absent us 1)) list.root.counted specifiers (items_alike (child_or_absent ts 1) (child_or_absent us 1) listed list) in
        ap (λ b. (b || (nat_eq (count (children (child_or_absent us 1))) 0 && is_absent (child_or_absent us 2))) && are_locals (is_absent (child_or_absent us 2)) (children (child_or_absent us 1))) (sym first)
        ∙ ap (λ k. (is_absent (first_item ts) || (nat_eq k 0 && is_absent (child_or_absent us 2))) && are_locals (is_absent (child_or_absent us 2)) (children (child_or_absent us 1))) (sym list.root.counted)
        ∙ ap (λ b. (is_absent (first_item ts) || (nat_eq (count (children (child_or_absent ts 1))) 0 && is_absent (child_or_absent us 2))) && b) locals
        ∙ ap (λ b. (is_absent (first_item ts) || (nat_eq (count (children (child_or_absent ts 1))) 0 && b)) && are_locals b (children (child_or_absent ts 1))) (sym source)
        ∙ e
