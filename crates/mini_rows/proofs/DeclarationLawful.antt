-- What the rows of declarations write is lawful.
use Rattle.std.proofs.Common.{◌≡◌, suc, Bool, true, false, [], refl, sym, ap, ◌∙◌, subst, true≢false}
use Rattle.std.specs.Prelude.{◌&&◌, nat_le}
use Rattle.std.proofs.lemmas.Bool.{and_parts}
use Rattle.mini_model.specs.declared.kind.VariableDeclarationKind.TheVariants.{Let}
use Rattle.mini_model.specs.declared.place.Position.{Position}
use Rattle.mini_model.specs.declared.place.Position.TheVariants.{Stmt, StatementList, BodyList}
use Rattle.mini_model.specs.declared.shape.Shape.TheVariants as shape
use Rattle.mini_model.specs.Tree.{Tree, Trees, none, ◌▸◌, count, shape_of, absent, listed}
use Rattle.mini_model.specs.Paths.{append}
use Rattle.mini_accept.specs.WellShaped.{Depth, in_module, in_body, nested, a_statement, a_pattern, a_declarator, an_expression, an_init, an_export, an_exported_declaration, a_string, Slot, one, one_or_absent, many, each, refused, filling, fits, fill, has_its_parts}
use Rattle.mini_kept.specs.KeepsFrames.{is_body_slot}
use Rattle.mini_kept.specs.KeepsNames.{is_rewritten_place}
use Rattle.mini_kept.specs.KeepsShapes.{AskedAlike}
use Rattle.mini_kept.specs.Lawful.{Lawful}
use Rattle.mini_kept.specs.Placed.{fits_place}
use Rattle.mini_kept.proofs.Bools.{left, both}
use Rattle.mini_kept.proofs.Expressions.{refused_here}
use Rattle.mini_kept.proofs.Placed.{statements_slot, listed_body_slot}
use Rattle.mini_kept.proofs.Rows.{statement}
use Rattle.mini_rows.specs.Lists.{declaration, InList}
use Rattle.mini_rows.specs.Declarations.{binding, declarator, Row61, Item, Alone, Exported, held, Row61Item, Row61For, DeclarationRow, DeclarationContracts}
use Rattle.mini_rows.proofs.ArrangedLawful.{kept_is_lawful}
use Rattle.mini_rows.proofs.BranchAround.{is_plain}
use Rattle.mini_rows.proofs.BranchLawful.{is_read, taken, fits_there, body_slot, plain_asked}
use Rattle.mini_rows.proofs.DeclarationKept.{declaration_kept}
use Rattle.mini_rows.proofs.DeclarationMeaning.{declarations_same}
use Rattle.mini_rows.proofs.BodyLists.{same_place, same_slot}
use Rattle.mini_rows.proofs.ListLawful.{asked_of_lists}
use Rattle.mini_rows.proofs.ListShapes.{declaration_anywhere, init_declares, append_fits, both_fit, first_fits, more_fit}

-- ---- declarators

same_count : (before : Trees) (x y : Tree) (after : Trees) → count (append before (x ▸ after)) ≡ count (append before (y ▸ after))
same_count none x y after = refl
same_count (t ▸ before) x y after = ap (λ k. suc k) (same_count before x y after)

abbrev is_module_depth : Depth → Bool
is_module_depth in_module = true
is_module_depth d = false

module _ (strict : Bool) where
  abbrev Some : Trees → Bool
  Some ds = nat_le 1 (count ds) && (fill strict (each (one a_declarator)) ds && true)

  declarator_fits : (id v : Tree) → fits strict (one a_declarator) (declarator id v) ≡ true → fits strict (one a_declarator) (declarator id absent) ≡ true
  declarator_fits id v e =
      let (x, y) = and_parts (fits strict (one a_pattern) id) (fits strict (one_or_absent an_expression) v && true) e in
      both (fits strict (one a_pattern) id) (fits strict (one_or_absent an_expression) absent && true) x refl

  some_fit : (before : Trees) (id v : Tree) (after : Trees) → Some (append before (declarator id v ▸ after)) ≡ true → Some (append before (declarator id absent ▸ after)) ≡ true
  some_fit before id v after e =
      let ts : Trees = append before (declarator id v ▸ after) in
      let us : Trees = append before (declarator id absent ▸ after) in
      let (x, y) = and_parts (nat_le 1 (count ts)) (fill strict (each (one a_declarator)) ts && true) e in
      let (z, w) = both_fit strict (one a_declarator) before (declarator id v ▸ after) (left (fill strict (each (one a_declarator)) ts) true y) in
      let (d, ds) = first_fits strict (one a_declarator) (declarator id v) after w in
      both (nat_le 1 (count us)) (fill strict (each (one a_declarator)) us && true) (ap (nat_le 1) (same_count before (declarator id absent) (declarator id v) after) ∙ x)
      (both (fill strict (each (one a_declarator)) us) true (append_fits strict (one a_declarator) before (declarator id absent ▸ after) z (more_fit strict (one a_declarator) (declarator id absent) after (declarator_fits id v d) ds)) refl)

  -- ---- a declaration, wherever it stands

  abbrev Fitting : Slot → Tree → Tree → Type 0
  Fitting s n w = fits strict s n ≡ true → fits strict s w ≡ true

  row_fits : (s : Slot) → ((ds : Trees) → fits strict s (declaration Let ds) ≡ Some ds) → (n w : Tree) → Row61 n w → Fitting s n w
  row_fits s h n w r e =
      ap (fits strict s) r.written ∙ h (append r.before (declarator (binding r.name) absent ▸ r.after))
      ∙ some_fit r.before (binding r.name) r.init r.after (sym (h (append r.before (declarator (binding r.name) r.init ▸ r.after))) ∙ sym (ap (fits strict s) r.shape) ∙ e)

  exported_declares : (ds : Trees) → fits strict (one_or_absent an_exported_declaration) (declaration Let ds) ≡ Some ds
  exported_declares ds = refl

-- an export stands in a module alone
module _ (strict : Bool) (specifiers source : Tree) where
  abbrev export_of : Tree → Tree
  export_of d = held (Exported specifiers source) d

  abbrev Whole : Bool
  Whole = has_its_parts (a_statement in_module) shape.ExportNamedDeclaration (declaration Let none ▸ (specifiers ▸ (source ▸ none)))

  abbrev Rest : Bool
  Rest = fits strict (many an_export) specifiers && (fits strict (one_or_absent a_string) source && true)

module_export : (strict : Bool) (specifiers source : Tree) (ds : Trees) → fits strict (one (a_statement in_module)) (export_of strict specifiers source (declaration Let ds)) ≡ (Whole strict specifiers source && (Some strict ds && Rest strict specifiers source))
module_export true specifiers source ds = refl
module_export false specifiers source ds = refl

no_export : (strict : Bool) (k : Depth) → is_module_depth k ≡ false → filling strict (one (a_statement k)) shape.ExportNamedDeclaration ≡ refused
no_export strict in_module e = absurd (true≢false e)
no_export true in_body e = refl
no_export false in_body e = refl
no_export true nested e = refl
no_export false nested e = refl

export_fits : (strict : Bool) (specifiers source n w : Tree) → Row61 n w → fits strict (one (a_statement in_module)) (export_of strict specifiers source n) ≡ true → fits strict (one (a_statement in_module)) (export_of strict specifiers source w) ≡ true
export_fits strict specifiers source n w r e =
    let id = binding r.name in
    let ts = append r.before (declarator id r.init ▸ r.after) in
    let us = append r.before (declarator id absent ▸ r.after) in
    let slot = one (a_statement in_module) in
    let (x, y) = and_parts (Whole strict specifiers source) (Some strict ts && Rest strict specifiers source) (sym (module_export strict specifiers source ts) ∙ sym (ap (λ d. fits strict slot (export_of strict specifiers source d)) r.shape) ∙ e) in
    let (z, q) = and_parts (Some strict ts) (Rest strict specifiers source) y in
    ap (λ d. fits strict slot (export_of strict specifiers source d)) r.written ∙ module_export strict specifiers source us
    ∙ both (Whole strict specifiers source) (Some strict us && Rest strict specifiers source) x (both (Some strict us) (Rest strict specifiers source) (some_fit strict r.before id r.init r.after z) q)

refused_export : (strict : Bool) (k : Depth) (specifiers source d : Tree) → is_module_depth k ≡ false → fits strict (one (a_statement k)) (export_of strict specifiers source d) ≡ true → ⊥
refused_export strict k specifiers source d m e = refused_here strict (one (a_statement k)) shape.ExportNamedDeclaration [] 0 (d ▸ (specifiers ▸ (source ▸ none))) (no_export strict k m) e

held_fits : (strict : Bool) (k : Depth) (item : Item) (n w : Tree) → Row61 n w → fits strict (one (a_statement k)) (held item n) ≡ true → fits strict (one (a_statement k)) (held item w) ≡ true
held_fits strict k Alone n w r e = row_fits strict (one (a_statement k)) (declaration_anywhere strict k Let) n w r e
held_fits strict in_module (Exported specifiers source) n w r e = export_fits strict specifiers source n w r e
held_fits strict in_body (Exported specifiers source) n w r e = absurd (refused_export strict in_body specifiers source n refl e)
held_fits strict nested (Exported specifiers source) n w r e = absurd (refused_export strict nested specifiers source n refl e)

item_fits : (strict : Bool) (k : Depth) (a b : Trees) → Row61Item a b → fill strict (each (one (a_statement k))) a ≡ true → fill strict (each (one (a_statement k))) b ≡ true
item_fits strict k a b r e =
    let slot = one (a_statement k) in
    let one_fits = left (fits strict slot (held r.item r.declared)) true (sym (ap (fill strict (each slot)) r.shape) ∙ e) in
    ap (fill strict (each slot)) r.written ∙ both (fits strict slot (held r.item r.bare)) true (held_fits strict k r.item r.declared r.bare r.row one_fits) refl

list_fits : (n w : Tree) → InList Row61Item n w → (strict : Bool) (s : Slot) → fits_place StatementList s ≡ true → fits strict s n ≡ true → fits strict s w ≡ true
list_fits n w r strict s k e =
    let (d, q, f) = statements_slot strict s [] 0 (append r.before (append r.read r.after)) k (subst (λ t. fits strict s t ≡ true) r.shape e) in
    let slot = one (a_statement d) in
    let (x, g) = both_fit strict slot r.before (append r.read r.after) f in
    let (y, z) = both_fit strict slot r.read r.after g in
    let made = append_fits strict slot r.before (append r.put r.after) x (append_fits strict slot r.put r.after (item_fits strict d r.read r.put r.row y) z) in
    subst (λ t. fits strict s t ≡ true) (sym r.written) (subst (λ c. fits strict c (listed (append r.before (append r.put r.after))) ≡ true) (sym q) (both true (fill strict (each slot) (append r.before (append r.put r.after))) refl made))

-- ---- a `for`

abbrev loop_rest : Bool → Tree → Tree → Tree → Bool
loop_rest strict u v b = fits strict (one_or_absent an_expression) u && (fits strict (one_or_absent an_expression) v && (fits strict statement b && true))

for_fits : (strict : Bool) (n w : Tree) → Row61For n w → fits strict statement n ≡ true → fits strict statement w ≡ true
for_fits strict n w r e =
    let (x, y) = and_parts (fits strict (one_or_absent an_init) r.declared) (loop_rest strict r.test r.update r.body) (sym (ap (fits strict statement) r.shape) ∙ e) in
    ap (fits strict statement) r.written ∙ both (fits strict (one_or_absent an_init) r.bare) (loop_rest strict r.test r.update r.body) (row_fits strict (one_or_absent an_init) (init_declares strict Let) r.declared r.bare r.row x) y

for_read : (n w : Tree) → Row61For n w → is_read (shape_of n) ≡ true
for_read n w r = ap (λ t. is_read (shape_of t)) r.shape

for_plain : (n w : Tree) → Row61For n w → (is_plain (shape_of n) ≡ true) × (is_plain (shape_of w) ≡ true)
for_plain n w r = (ap (λ t. is_plain (shape_of t)) r.shape, ap (λ t. is_plain (shape_of t)) r.written)

-- ---- whichever row it is

row_place : (p : Position) (n w : Tree) → DeclarationRow p n w → is_rewritten_place p ≡ true
row_place StatementList n w r = refl
row_place BodyList n w r = refl
row_place (Stmt q) n w r = refl
row_place p n w r = absurd r

row_fitting : (p : Position) (n w : Tree) → DeclarationRow p n w → (strict : Bool) (s : Slot) → fits_place p s ≡ true → fits strict s n ≡ true → fits strict s w ≡ true
row_fitting StatementList n w r strict s k e = list_fits n w r strict s k e
row_fitting BodyList n w r strict s k e = list_fits n w r strict s (same_place s k) e
row_fitting (Stmt q) n w r strict s k e = fits_there strict s n w (for_read n w r) (for_plain n w r).0 (for_plain n w r).1 (for_fits strict n w r) e
row_fitting p n w r strict s k e = absurd r

list_slot : (n w : Tree) → InList Row61Item n w → (strict : Bool) (s : Slot) → fits_place StatementList s ≡ true → fits strict s n ≡ true → is_body_slot StatementList s ≡ true
list_slot n w r strict s k e = listed_body_slot strict s [] 0 (append r.before (append r.read r.after)) k (subst (λ t. fits strict s t ≡ true) r.shape e)

row_slot : (p : Position) (n w : Tree) → DeclarationRow p n w → (strict : Bool) (s : Slot) → fits_place p s ≡ true → fits strict s n ≡ true → is_body_slot p s ≡ true
row_slot StatementList n w r strict s k e = list_slot n w r strict s k e
row_slot BodyList n w r strict s k e = same_slot s (list_slot n w r strict s (same_place s k) e)
row_slot (Stmt q) n w r strict s k e = body_slot (Stmt q) s (taken strict s n (for_read n w r) e)
row_slot p n w r strict s k e = absurd r

list_asked : (p : Position) (n w : Tree) → InList Row61Item n w → AskedAlike p n w
list_asked p n w r = subst (λ t. AskedAlike p t w) (sym r.shape) (subst (AskedAlike p (listed (append r.before (append r.read r.after)))) (sym r.written) (asked_of_lists p (append r.before (append r.read r.after)) (append r.before (append r.put r.after))))

row_asked : (p : Position) (n w : Tree) → DeclarationRow p n w → AskedAlike p n w
row_asked StatementList n w r = list_asked StatementList n w r
row_asked BodyList n w r = list_asked BodyList n w r
row_asked (Stmt q) n w r = plain_asked (Stmt q) n w (for_plain n w r).0 (for_plain n w r).1
row_asked p n w r = absurd r

pub declarations_lawful : Lawful DeclarationContracts
declarations_lawful =
    kept_is_lawful DeclarationContracts declarations_same
    (record { fitting = λ p n w c. row_fitting p n w c.row; asked = λ p n w c. row_asked p n w c.row })
    (λ p n w c. row_place p n w c.row)
    (λ p n w c. row_slot p n w c.row)
    (λ p n w c. declaration_kept p n w c.row)
