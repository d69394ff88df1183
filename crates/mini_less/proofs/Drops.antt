-- What some neighbours in a list that lose a name have to show, with those that are written for
-- them, for no more to be told of any other symbol.
use Rattle.std.specs.Prelude.{ℕ, suc, ◌≡◌, nat_eq, Bool, false}
use Rattle.mini_model.specs.declared.name.Name.{Name}
use Rattle.mini_model.specs.Tree.{Trees}
use Rattle.mini_laws.specs.Foreign.{any_has_number}
use Rattle.mini_laws.specs.Resolved.{Environment}
use Rattle.mini_laws.specs.ScopeList.{any_has_eval}
use Rattle.mini_laws.specs.declared.names.Use.TheVariants.{Read}
use Rattle.mini_shrink.specs.Facts.{Fact, question}
use Rattle.mini_shrink.specs.Pace.{Setting}
use Rattle.mini_rows.specs.Unused.{any_names}
use Rattle.mini_less.proofs.LessRows.{any_names as any_arguments}
use Rattle.mini_less.proofs.ListMade.{SaysLess}

-- d becomes w, and the name x with the symbol k goes: of `const x = f(); g(x);` is left `g(f());`
pub record DropsLess (x : Name) (k : ℕ) (d w : Trees) : Type 0 where
  -- wherever it is a list of statements
  pub less : (g : Fact) (b s : ℕ) → nat_eq s k ≡ false → (c : Setting) → c.used ≡ Read → (env : Environment) (o : Bool) → SaysLess d w (question g b s) c env o
  pub unnamed : any_names x w ≡ false
  pub evals : any_has_eval d ≡ false → any_has_eval w ≡ false
  pub arguments : any_arguments d ≡ false → any_arguments w ≡ false
  pub numbers : (b : ℕ) → any_has_number (suc b) d ≡ false → any_has_number (suc b) w ≡ false
