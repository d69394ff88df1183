-- The names and texts that stand where no expression may come back.
use Rattle.std.proofs.Common.{◌≡◌, ℕ, suc, [], ◌∷◌, refl, arith, Bool, true, false, ◌&&◌}
use Rattle.std.proofs.lemmas.Bool.{and_parts, false≢true, true≢false}
use Rattle.mini_model.specs.declared.shape.Shape.TheVariants as shape
use Rattle.mini_model.specs.Tree.{Tree, node, none, ◌▸◌}
use Rattle.mini_accept.specs.WellShaped as shaped
use Rattle.mini_accept.specs.WellShaped.{is_reference}
use Rattle.mini_accept.specs.Places.{at, a_local_name}
use Rattle.mini_writer.specs.Written.{tree_data}
use Rattle.mini_writer.proofs.Read.{ReadsBack}
use Rattle.mini_writer.proofs.Fitting.{Fit, node_fits, fit_more, and_false}
use Rattle.mini_writer.proofs.Leaves.{local_back, word_back, string_back}

pub units_of_one : (a : Bool) → (a && true) ≡ true → a ≡ true
units_of_one a e = (and_parts a true e).0

module _ (j k : ℕ) (strict : Bool) where
  pub module_name : (t : Tree) → Fit k strict (shaped.one shaped.a_module_name) t → (n : ℕ) → ReadsBack (suc j) strict (at shaped.a_module_name) n (tree_data t) t
  module_name (node (shape.IdentifierName s) [] m none) f n =
      let w = node_fits k strict shaped.a_module_name (shape.IdentifierName s) [] m none (fit_more k (suc k) strict (shaped.one shaped.a_module_name) _ (omega arith) f) in
      word_back j strict shaped.a_module_name s m (λ r. refl) refl w.fields w.field_units n
  module_name (node (shape.StringLiteral s) [] m none) f n =
      let w = node_fits k strict shaped.a_module_name (shape.StringLiteral s) [] m none (fit_more k (suc k) strict (shaped.one shaped.a_module_name) _ (omega arith) f) in
      string_back j strict shaped.a_module_name s m (λ e. e) w.fields w.field_units n
  module_name (node (shape.IdentifierName s) [] m (t ▸ ts)) f n = absurd (and_false _ f.fits)
  module_name (node (shape.StringLiteral s) [] m (t ▸ ts)) f n = absurd (and_false _ f.fits)
  module_name (node (shape.IdentifierName s) (x ∷ xs) m ts) f n = absurd (false≢true f.fits)
  module_name (node (shape.StringLiteral s) (x ∷ xs) m ts) f n = absurd (false≢true f.fits)
  module_name (node h xs m ts) f n = absurd (and_false _ f.fits)

  -- a name of this module that is exported
  pub local_name : (t : Tree) → is_reference t ≡ true → Fit k strict (shaped.one shaped.an_exported_name) t → (n : ℕ) → ReadsBack (suc j) strict a_local_name n (tree_data t) t
  local_name (node shape.Identifier (x ∷ []) m none) e f n =
      let w = node_fits k strict shaped.an_exported_name shape.Identifier (x ∷ []) m none (fit_more k (suc k) strict (shaped.one shaped.an_exported_name) _ (omega arith) f) in
      local_back j strict x m w.names (units_of_one _ w.name_units) n
  local_name (node shape.Identifier (x ∷ []) m (t ▸ ts)) e f n = absurd (and_false _ f.fits)
  local_name (node shape.Identifier [] m ts) e f n = absurd (false≢true f.fits)
  local_name (node shape.Identifier (x ∷ y ∷ xs) m ts) e f n = absurd (false≢true f.fits)
  local_name (node h xs m ts) e f n = absurd (false≢true e)

  -- a name that another module has
  pub other_name : (t : Tree) → is_reference t ≡ false → Fit k strict (shaped.one shaped.an_exported_name) t → Fit k strict (shaped.one shaped.a_module_name) t
  other_name (node (shape.IdentifierName s) xs m ts) e f = record { fits = f.fits; units = f.units; small = f.small }
  other_name (node (shape.StringLiteral s) xs m ts) e f = record { fits = f.fits; units = f.units; small = f.small }
  other_name (node shape.Identifier xs m ts) e f = absurd (true≢false e)
  other_name (node h xs m ts) e f = absurd (and_false _ f.fits)
