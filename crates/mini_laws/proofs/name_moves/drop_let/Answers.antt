use Rattle.std.proofs.Common.{subst, ap, ◌∙◌, false, [], ◌++◌, map}
use Rattle.std.proofs.lemmas.List.{append-nil}
use Rattle.mini_model.specs.declared.name.Name.{Name}
use Rattle.mini_laws.specs.declared.names.Binding.{Binding}
use Rattle.mini_laws.specs.declared.names.Declared.TheVariants as declared
use Rattle.mini_laws.specs.declared.names.Use.TheVariants.{Read}
use Rattle.mini_laws.specs.DeclaredNames.{names_of, all_names, with_names}
use Rattle.mini_laws.specs.Scopes.{scopes_by}
use Rattle.mini_laws.specs.Scoped.{Scoped, AllScoped}
use Rattle.mini_laws.proofs.Drops.{all_dropped, shifted}
use Rattle.mini_laws.proofs.name_moves.drop_let.Goals as goal

abbrev bind : Name → Binding
bind y = record { name = y; hoists = false }

pub returns : goal.returns
unfolding Scoped scopes_by names_of with_names
returns c = λ u env x rest distinct gone s.
    let left = map bind (with_names [] (all_names declared.Lexical rest)) in
    let given = subst (λ e. AllScoped (λ k. []) (λ k. Read) 1 e rest) (append-nil _ ∙ ap (λ ys. env ++ map bind ys) distinct) s.1.0.1.1 in
    (tt, ((tt, shifted 1 0 (env ++ left) rest (all_dropped (λ k. []) (λ k. Read) 1 env left (bind x) rest given gone)), tt))
