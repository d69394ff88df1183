-- What leaves nothing behind may be dropped.
use Rattle.std.proofs.Common.{◌≡◌, Bool, true, false, [], ◌∷◌, refl, sym, ap, ◌∙◌, true≢false}
use Rattle.std.specs.Prelude.{◌||◌}
use Rattle.std.proofs.lemmas.Bool.{and_parts}
use Rattle.mini_model.specs.declared.kind.VariableDeclarationKind.TheVariants.{Const}
use Rattle.mini_model.specs.declared.shape.Shape.{Shape}
use Rattle.mini_model.specs.declared.shape.Shape.TheVariants as shape
use Rattle.mini_model.specs.Tree.{Tree, Trees, node, none, ◌▸◌}
use Rattle.mini_laws.specs.DeclaredNames.{is_inner, has_inner, any_inner}
use Rattle.mini_laws.specs.Value.{Variable, choose, is_in}
use Rattle.mini_laws.specs.State.{Fixed, Writable}
use Rattle.mini_laws.specs.Naming.{summaries}
use Rattle.mini_laws.specs.Fixity.{fixity_by, declared_by, stricter, fixed_by, fixed_by_any}
use Rattle.mini_terms.specs.Parts.{leaves_nothing_by, leaves_nothing, leave_nothing}
use Rattle.mini_rows.specs.Arranged.{Vanishes}
use Rattle.mini_rows.specs.Sketches.{Free}

or_none : (a b : Bool) → a ≡ false → b ≡ false → a || b ≡ false
or_none false b e f = f
or_none true b e f = absurd (true≢false e)

not_inner : (h : Shape) → leaves_nothing_by h ≡ true → is_inner h ≡ false
not_inner shape.InnerExpression e = absurd (true≢false (sym e))
not_inner h e = refl

mutual
  unfolding has_inner

  no_inner : (t : Tree) → leaves_nothing t ≡ true → has_inner t ≡ false
  no_inner (node h xs n ts) e = let (own, rest) = and_parts (leaves_nothing_by h) (leave_nothing ts) e in or_none (is_inner h) (any_inner ts) (not_inner h own) (none_inner ts rest)

  none_inner : (ts : Trees) → leave_nothing ts ≡ true → any_inner ts ≡ false
  none_inner none e = refl
  none_inner (t ▸ ts) e = let (first, rest) = and_parts (leaves_nothing t) (leave_nothing ts) e in or_none (has_inner t) (any_inner ts) (no_inner t first) (none_inner ts rest)

written_freely : (h : Shape) → leaves_nothing_by h ≡ true → fixity_by h ≡ Writable
written_freely (shape.VariableDeclaration Const) e = absurd (true≢false (sym e))
written_freely (shape.VariableDeclaration k) e = refl
written_freely (shape.Function false g ds) e = absurd (true≢false (sym e))
written_freely (shape.Function true g ds) e = refl
written_freely (shape.Class d) e = absurd (true≢false (sym e))
written_freely shape.ImportSpecifier e = absurd (true≢false (sym e))
written_freely shape.ImportDefaultSpecifier e = absurd (true≢false (sym e))
written_freely shape.ImportNamespaceSpecifier e = absurd (true≢false (sym e))
written_freely h e = refl

either_writable : (b : Bool) (f : Fixed) → f ≡ Writable → choose b f Writable ≡ Writable
either_writable true f e = e
either_writable false f e = refl

both_writable : (f g : Fixed) → f ≡ Writable → g ≡ Writable → stricter f g ≡ Writable
both_writable f g e h = ap (λ x. stricter x g) e ∙ h

mutual
  not_fixed : (t : Tree) → leaves_nothing t ≡ true → (x : Variable) → fixed_by t x ≡ Writable
  not_fixed (node h xs n ts) e x =
      let (own, rest) = and_parts (leaves_nothing_by h) (leave_nothing ts) e in
      both_writable (choose (is_in x (declared_by h (summaries ts))) (fixity_by h) Writable) (fixed_by_any ts x) (either_writable (is_in x (declared_by h (summaries ts))) (fixity_by h) (written_freely h own)) (none_fixed ts rest x)

  none_fixed : (ts : Trees) → leave_nothing ts ≡ true → (x : Variable) → fixed_by_any ts x ≡ Writable
  none_fixed none e x = refl
  none_fixed (t ▸ ts) e x = let (first, rest) = and_parts (leaves_nothing t) (leave_nothing ts) e in both_writable (fixed_by t x) (fixed_by_any ts x) (not_fixed t first x) (none_fixed ts rest x)

pub vanishes : (t : Tree) → leaves_nothing t ≡ true → Vanishes t
vanishes t e = record { inner = no_inner t e; fixed = not_fixed t e }

-- the first part of a sketch is dropped
abbrev pub first_dropped : Free
first_dropped = record { moved = []; lists_moved = []; dropped = 0 ∷ [] }
