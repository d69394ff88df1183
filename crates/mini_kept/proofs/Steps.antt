-- A step leaves a tree where it may stand.
use Rattle.std.proofs.Common.{◌≡◌, ℕ, suc, Bool, true, false, List, [], ◌∷◌, refl, sym, ◌∙◌, subst}
use Rattle.std.specs.Prelude.{◌&&◌, ◌||◌}
use Rattle.std.proofs.lemmas.Bool.{and_parts}
use Rattle.mini_model.specs.declared.name.Name.{Name}
use Rattle.mini_model.specs.declared.place.Position.{Position}
use Rattle.mini_model.specs.declared.shape.Shape.{Shape}
use Rattle.mini_model.specs.declared.shape.Shape.TheVariants as shape
use Rattle.mini_model.specs.declared.kind.VariableDeclarationKind.{VariableDeclarationKind}
use Rattle.mini_model.specs.Tree.{Tree, Trees, node, count, child_or_absent}
use Rattle.mini_model.specs.Position.{child_position}
use Rattle.mini_model.specs.Redex.{Contracts}
use Rattle.mini_model.specs.Rewriting.{Step, here, inside, StepIn, first, later}
use Rattle.mini_accept.specs.WellShaped.{Class, a_loop_left, a_method, Slot, one, one_or_absent, is_whole_export, Filling, refused, these, each, each_or_last, pieces, filling, class_of, is_whole, has_its_number, has_names, has_plain_fields, has_its_parts, is_strict_in, is_last, fits, fill}
use Rattle.mini_kept.proofs.Bools.{left, right, both}
use Rattle.mini_kept.proofs.Expressions.{refused_here}
use Rattle.mini_kept.proofs.Exports.{head_declaration_kept, declaration_kept, export_kept}
use Rattle.mini_kept.specs.KeepsShapes.{KeepsShapes}
use Rattle.mini_kept.specs.Lifted.{KeepsNames}
use Rattle.mini_kept.proofs.Moved.{Moved, stepped}
use Rattle.mini_kept.proofs.Parts.{any_parts_kept}
use Rattle.mini_kept.proofs.Stepping.{no_steps}
use Rattle.mini_kept.proofs.Instances.{contracts_keep}
use Rattle.mini_kept.proofs.Placed.{PlacedBy, placed_below, anywhere, all_anywhere}
use Rattle.mini_kept.specs.Placed.{fits_place}
use Rattle.mini_kept.proofs.Rows.{row_fits}
use Rattle.mini_kept.proofs.ShapeRows.{rows_keep_shapes}

-- ---- the node

exported : (c : Class) (ts : Trees) → has_its_parts c shape.ExportNamedDeclaration ts ≡ is_whole_export ts
exported (a_loop_left b) ts = refl
exported a_method ts = refl
exported c ts = refl

-- ---- its children

or_last : (a b l c d : Bool) → (a ≡ true → c ≡ true) → (b ≡ true → d ≡ true) → (a || (l && b)) ≡ true → (c || (l && d)) ≡ true
or_last true b l true d f g e = refl
or_last true b l false d f g e = absurd (cc (f refl))
or_last false b l true d f g e = refl
or_last false true true false d f g e = g refl
or_last false false true false d f g e = absurd (cc e)
or_last false b false false d f g e = e

module _ (R : Position → Tree → Tree → Type 0) (l : KeepsNames R) (shapes : KeepsShapes R) where
  module _ (p : Position) (ts us : Trees) (strict : Bool) (xs : List Name) (n : ℕ) where
    abbrev AllMoved : Shape → Type 0
    AllMoved h = (i : ℕ) → Moved R (child_position h p (count ts) i) (child_or_absent ts i) (child_or_absent us i)

    declared_in_class : (c : Class) (k : VariableDeclarationKind) → fits strict (one c) (node (shape.VariableDeclaration k) xs n ts) ≡ true → AllMoved (shape.VariableDeclaration k) → has_its_parts c (shape.VariableDeclaration k) ts ≡ true → has_its_parts c (shape.VariableDeclaration k) us ≡ true
    declared_in_class (a_loop_left b) k f m e = head_declaration_kept R l shapes p strict b k xs n ts us f (m 0) e
    declared_in_class c k f m e = declaration_kept R l shapes ts us (m 0) e

    declared_in_slot : (s : Slot) (k : VariableDeclarationKind) → fits strict s (node (shape.VariableDeclaration k) xs n ts) ≡ true → AllMoved (shape.VariableDeclaration k) → has_its_parts (class_of s) (shape.VariableDeclaration k) ts ≡ true → has_its_parts (class_of s) (shape.VariableDeclaration k) us ≡ true
    declared_in_slot (one c) k f m e = declared_in_class c k f m e
    declared_in_slot (one_or_absent c) k f m e = declared_in_class c k f m e
    declared_in_slot s k f m e = absurd (refused_here strict s (shape.VariableDeclaration k) xs n ts refl f)

    parts_kept : (s : Slot) (h : Shape) → fits strict s (node h xs n ts) ≡ true → AllMoved h → has_its_parts (class_of s) h ts ≡ true → has_its_parts (class_of s) h us ≡ true
    parts_kept s (shape.VariableDeclaration k) f m e = declared_in_slot s k f m e
    parts_kept s shape.ExportNamedDeclaration f m e = exported (class_of s) us ∙ export_kept R l shapes p ts us strict s xs n f m (sym (exported (class_of s) ts) ∙ e)
    parts_kept s h f m e = any_parts_kept R l shapes p ts us (class_of s) h refl m e

  whole_kept : (s : Slot) (p : Position) (strict : Bool) (h : Shape) (xs : List Name) (n : ℕ) (ts us : Trees) → fits strict s (node h xs n ts) ≡ true → StepIn R (child_position h p (count ts)) ts us → is_whole (class_of s) h xs n us ≡ true
  whole_kept s p strict h xs n ts us f st =
      let c = class_of s in
      let e = left (is_whole c h xs n ts) (fill (is_strict_in strict h) (filling strict s h) ts) f in
      let (names, others) = and_parts (has_names h xs) (has_its_number c h n && (has_plain_fields h && has_its_parts c h ts)) e in
      let (number, fields) = and_parts (has_its_number c h n) (has_plain_fields h && has_its_parts c h ts) others in
      let (plain, parts) = and_parts (has_plain_fields h) (has_its_parts c h ts) fields in
      both (has_names h xs) (has_its_number c h n && (has_plain_fields h && has_its_parts c h us)) names
      (both (has_its_number c h n) (has_plain_fields h && has_its_parts c h us) number
      (both (has_plain_fields h) (has_its_parts c h us) plain (parts_kept p ts us strict xs n s h f (stepped R st) parts)))

  last_kept : {π : ℕ → Position} {ts us : Trees} → StepIn R π ts us → is_last ts ≡ is_last us
  last_kept (first π t u ts s) = refl
  last_kept (later π t ts us s) = refl

  -- the same node over children that fill its slots
  over_fits : (p : Position) (h : Shape) (xs : List Name) (n : ℕ) (ts us : Trees) → StepIn R (child_position h p (count ts)) ts us → (strict : Bool) (s : Slot) → fits strict s (node h xs n ts) ≡ true
      → (fill (is_strict_in strict h) (filling strict s h) ts ≡ true → fill (is_strict_in strict h) (filling strict s h) us ≡ true) → fits strict s (node h xs n us) ≡ true
  over_fits p h xs n ts us st strict s e fills =
      both (is_whole (class_of s) h xs n us) (fill (is_strict_in strict h) (filling strict s h) us)
      (whole_kept s p strict h xs n ts us e st)
      (fills (right (is_whole (class_of s) h xs n ts) (fill (is_strict_in strict h) (filling strict s h) ts) e))

  -- where a test of places and slots, which what is replaced meets, is met by the children of what meets it
  module _ (v : Position → Slot → Bool) (below : (strict : Bool) (s : Slot) (h : Shape) (p : Position) (m : ℕ) → v p s ≡ true → PlacedBy v (child_position h p m) (filling strict s h))
      (fitting : (p : Position) (n w : Tree) → R p n w → (strict : Bool) (s : Slot) → v p s ≡ true → fits strict s n ≡ true → fits strict s w ≡ true) where
    mutual
      step_fits_by : {p : Position} {t u : Tree} → Step R p t u → (strict : Bool) (s : Slot) → v p s ≡ true → fits strict s t ≡ true → fits strict s u ≡ true
      step_fits_by (here p t u r) strict s k e = fitting p t u r strict s k e
      step_fits_by (inside p h xs n ts us st) strict s k e = over_fits p h xs n ts us st strict s e (step_fills st (is_strict_in strict h) (filling strict s h) (below strict s h p (count ts) k))

      step_fills : {π : ℕ → Position} {ts us : Trees} → StepIn R π ts us → (strict : Bool) (g : Filling) → PlacedBy v π g → fill strict g ts ≡ true → fill strict g us ≡ true
      step_fills (first π t u ts st) strict refused k e = e
      step_fills (first π t u ts st) strict (these []) k e = e
      step_fills (first π t u ts st) strict (these (s ∷ ss)) k e =
          let (one_fits, rest) = and_parts (fits strict s t) (fill strict (these ss) ts) e in
          both (fits strict s u) (fill strict (these ss) ts) (step_fits_by st strict s k.0 one_fits) rest
      step_fills (first π t u ts st) strict (each s) k e =
          let (one_fits, rest) = and_parts (fits strict s t) (fill strict (each s) ts) e in
          both (fits strict s u) (fill strict (each s) ts) (step_fits_by st strict s (k 0) one_fits) rest
      step_fills (first π t u ts st) strict (each_or_last s l) k e =
          let (one_fits, rest) = and_parts (fits strict s t || (is_last ts && fits strict l t)) (fill strict (each_or_last s l) ts) e in
          both (fits strict s u || (is_last ts && fits strict l u)) (fill strict (each_or_last s l) ts)
          (or_last (fits strict s t) (fits strict l t) (is_last ts) (fits strict s u) (fits strict l u) (step_fits_by st strict s (k 0).0) (step_fits_by st strict l (k 0).1) one_fits) rest
      step_fills (first π t u ts st) strict (pieces g) k e = absurd (no_steps R l g (first π t u ts st) e)
      step_fills (later π t ts us st) strict refused k e = e
      step_fills (later π t ts us st) strict (these []) k e = e
      step_fills (later π t ts us st) strict (these (s ∷ ss)) k e =
          let (one_fits, rest) = and_parts (fits strict s t) (fill strict (these ss) ts) e in
          both (fits strict s t) (fill strict (these ss) us) one_fits (step_fills st strict (these ss) k.1 rest)
      step_fills (later π t ts us st) strict (each s) k e =
          let (one_fits, rest) = and_parts (fits strict s t) (fill strict (each s) ts) e in
          both (fits strict s t) (fill strict (each s) us) one_fits (step_fills st strict (each s) (λ j. k (suc j)) rest)
      step_fills (later π t ts us st) strict (each_or_last s l) k e =
          let (one_fits, rest) = and_parts (fits strict s t || (is_last ts && fits strict l t)) (fill strict (each_or_last s l) ts) e in
          both (fits strict s t || (is_last us && fits strict l t)) (fill strict (each_or_last s l) us)
          (subst (λ b. (fits strict s t || (b && fits strict l t)) ≡ true) (last_kept st) one_fits)
          (step_fills st strict (each_or_last s l) (λ j. k (suc j)) rest)
      step_fills (later π t ts us st) strict (pieces g) k e = absurd (no_steps R l g (later π t ts us st) e)

pub any_step_fits : (R : Position → Tree → Tree → Type 0) → KeepsNames R → KeepsShapes R → {p : Position} {t u : Tree} → Step R p t u → (strict : Bool) (s : Slot) → fits_place p s ≡ true → fits strict s t ≡ true → fits strict s u ≡ true
any_step_fits R l shapes st = step_fits_by R l shapes fits_place placed_below shapes.fitting st

-- ---- rewrites

-- whatever its slot
pub step_fits : {p : Position} {t u : Tree} → Step Contracts p t u → (strict : Bool) (s : Slot) → fits strict s t ≡ true → fits strict s u ≡ true
step_fits st strict s e =
    step_fits_by Contracts contracts_keep rows_keep_shapes anywhere (λ strict s h p m v. all_anywhere (child_position h p m) (filling strict s h)) (λ p n w c strict s k e. row_fits strict s p n w c.row e) st strict s refl e
