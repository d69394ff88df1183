-- A sequence with another last part stands where it did.
use Rattle.std.proofs.Common.{◌≡◌, Bool, true, refl, sym, subst}
use Rattle.mini_model.specs.Tree.{Tree, Trees, none, ◌▸◌}
use Rattle.mini_model.specs.Paths.{append}
use Rattle.mini_accept.specs.WellShaped.{fits}
use Rattle.mini_kept.proofs.Expressions.{expression}
use Rattle.mini_rows.specs.Lists.{sequence}
use Rattle.mini_rows.proofs.ListShapes.{parts_fit, of_parts_fits, append_fits, both_fit, first_fits, more_fit}
use Rattle.mini_rows.proofs.SequenceMeaning.{several}

module _ (strict : Bool) where
  abbrev Fits : Tree → Type 0
  Fits t = fits strict expression t ≡ true

  pub last_fits : (p : Tree) (ps : Trees) (l : Tree) → Fits (sequence (p ▸ append ps (l ▸ none))) → (m : Tree) → (Fits l → Fits m) → Fits (sequence (p ▸ append ps (m ▸ none)))
  last_fits p ps l e m f =
      let all = parts_fit strict p (append ps (l ▸ none)) (subst Fits (sym (several p ps l)) e) in
      let (firsts, lasts) = both_fit strict expression (p ▸ ps) (l ▸ none) all in
      let last = f (first_fits strict expression l none lasts).0 in
      subst Fits (several p ps m) (of_parts_fits strict p (append ps (m ▸ none)) (append_fits strict expression (p ▸ ps) (m ▸ none) firsts (more_fit strict expression m none last refl)))
