-- A scope without one of its names.
use Rattle.std.specs.Prelude.{ℕ, suc, ◌≡◌, refl, List, [], ◌∷◌, ◌++◌}
use Rattle.std.proofs.Common.{sym, subst, append_assoc}
use Rattle.std.proofs.lemmas.List.{append-nil}
use Rattle.mini_model.specs.declared.name.Name.{Name}
use Rattle.mini_model.specs.declared.shape.Shape.{Shape}
use Rattle.mini_model.specs.declared.shape.Shape.TheVariants as shape
use Rattle.mini_model.specs.Tree.{Tree, Trees, node, none, ◌▸◌}
use Rattle.mini_laws.specs.declared.names.Use.{Use}
use Rattle.mini_laws.specs.declared.names.Use.TheVariants.{Read}
use Rattle.mini_laws.specs.declared.names.Binding.{Binding}
use Rattle.mini_laws.specs.Scopes.{use_of, scopes_by, opened}
use Rattle.mini_laws.specs.Resolved.{Environment}
use Rattle.mini_laws.specs.Scoped.{NamesScoped, OwnScoped, Scoped, AllScoped, NoneCarries, Unmentioned, AllUnmentioned}
use Rattle.mini_laws.proofs.Lookups.{symbol_without}
use Rattle.mini_laws.proofs.Writing.{first_plain, written_without}

names_without : (u : Use) (outer inner : Environment) (b : Binding) (xs : List Name) → NamesScoped u (outer ++ b ∷ inner) xs → NoneCarries b xs → NamesScoped u (outer ++ inner) xs
names_without u outer inner b [] h d = tt
names_without u outer inner b (x ∷ xs) h d = (symbol_without u x.spelling outer inner b x.symbol h.0 d.0, names_without u outer inner b xs h.1 d.1)

plain_scoped : (u : Use) (us : ℕ → Use) (env : Environment) (ts : Trees) → us 0 ≡ u → AllScoped (λ k. []) us 0 env ts → NamesScoped u env (first_plain ts)
unfolding Scoped
plain_scoped u us env none e s = tt
plain_scoped u us env (node shape.BindingIdentifier xs n ts ▸ rest) e s = subst (λ v. NamesScoped u v xs) (append-nil env) (subst (λ v. NamesScoped v (env ++ []) xs) e s.0.0)
plain_scoped u us env (node h xs n ts ▸ rest) e s = tt

plain_unmentioned : (b : Binding) (ts : Trees) → AllUnmentioned b ts → NoneCarries b (first_plain ts)
unfolding Unmentioned
plain_unmentioned b none d = tt
plain_unmentioned b (node shape.BindingIdentifier xs n ts ▸ rest) d = d.0.0
plain_unmentioned b (node h xs n ts ▸ rest) d = tt

own_without : (u : Use) (outer inner : Environment) (b : Binding) (h : Shape) (xs : List Name) (ts : Trees) → OwnScoped u (outer ++ b ∷ inner) h xs ts → AllScoped (opened u h ts) (use_of h u) 0 (outer ++ b ∷ inner) ts → NoneCarries b xs → AllUnmentioned b ts → OwnScoped u (outer ++ inner) h xs ts
unfolding scopes_by
own_without u outer inner b shape.VariableDeclarator xs ts a s d c = written_without u outer inner b xs ts (plain_scoped u (use_of shape.VariableDeclarator u) (outer ++ b ∷ inner) ts refl s) (plain_unmentioned b ts c) d a
own_without u outer inner b h xs ts a s d c = names_without u outer inner b xs a d

mutual
  unfolding Scoped Unmentioned

  pub dropped : (u : Use) (outer inner : Environment) (b : Binding) (t : Tree) → Scoped u (outer ++ b ∷ inner) t → Unmentioned b t → Scoped u (outer ++ inner) t
  dropped u outer inner b (node h xs n ts) s d = (own_without u outer inner b h xs ts s.0 s.1 d.0 d.1, all_dropped (opened u h ts) (use_of h u) 0 outer inner b ts s.1 d.1)

  pub all_dropped : (scope : ℕ → List Binding) (uses : ℕ → Use) (i : ℕ) (outer inner : Environment) (b : Binding) (ts : Trees) → AllScoped scope uses i (outer ++ b ∷ inner) ts → AllUnmentioned b ts → AllScoped scope uses i (outer ++ inner) ts
  all_dropped scope uses i outer inner b none s d = tt
  all_dropped scope uses i outer inner b (t ▸ ts) s d = (
    subst (λ e. Scoped (uses i) e t) (sym (append_assoc outer inner (scope i))) (dropped (uses i) outer (inner ++ scope i) b t (subst (λ e. Scoped (uses i) e t) (append_assoc outer (b ∷ inner) (scope i)) s.0) d.0),
    subst (λ e. AllScoped scope uses (suc i) e ts) (sym (append_assoc outer inner (scope i))) (all_dropped scope uses (suc i) outer (inner ++ scope i) b ts (subst (λ e. AllScoped scope uses (suc i) e ts) (append_assoc outer (b ∷ inner) (scope i)) s.1) d.1),
  )

-- in a list that opens no scope and reads its items, their places don't matter
pub shifted : (i j : ℕ) (env : Environment) (ts : Trees) → AllScoped (λ k. []) (λ k. Read) i env ts → AllScoped (λ k. []) (λ k. Read) j env ts
unfolding Scoped
shifted i j env none s = tt
shifted i j env (t ▸ ts) s = (s.0, shifted (suc i) (suc j) (env ++ []) ts s.1)

pub moved : (u : Use) (env env' : Environment) (t : Tree) → env ≡ env' → Scoped u env t → Scoped u env' t
moved u env env' t e s = subst (λ v. Scoped u v t) e s
