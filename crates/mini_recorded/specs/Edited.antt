-- What is made of some trees, where anything is.
use Rattle.std.specs.Prelude.{◌≡◌, Bool, Option, Some, None, is_some}
use Rattle.mini_model.specs.Tree.{Trees}

abbrev pub edited_of : Option Trees → Trees → Trees
edited_of (Some us) ts = us
edited_of None ts = ts

-- it was made, or there was nothing to make and the trees stayed
pub record Edited (w : Option Trees) (old new : Trees) (done : Bool) : Type 0 where
  pub said : done ≡ is_some w
  pub trees : new ≡ edited_of w old
