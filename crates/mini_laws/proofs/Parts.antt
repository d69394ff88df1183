-- The parts of nodes that open no scope.
use Rattle.std.specs.Prelude.{ℕ, suc, ◌≡◌, refl, List, [], ◌++◌}
use Rattle.std.proofs.Common.{ap, ◌∙◌, sym, subst}
use Rattle.std.proofs.lemmas.List.{append-nil}
use Rattle.mini_model.specs.declared.name.Name.{Name}
use Rattle.mini_model.specs.declared.shape.Shape.{Shape}
use Rattle.mini_model.specs.Paths.{append}
use Rattle.mini_model.specs.Tree.{Trees, node, none, ◌▸◌, listed}
use Rattle.mini_laws.specs.declared.names.Use.{Use}
use Rattle.mini_laws.specs.declared.names.Binding.{Binding}
use Rattle.mini_laws.specs.declared.names.Opening.{Opening}
use Rattle.mini_laws.specs.declared.names.Opening.TheVariants as opening
use Rattle.mini_laws.specs.Scopes.{use_of, opening_of, scopes_by, at_or_empty, opened}
use Rattle.mini_laws.specs.Resolved.{Environment}
use Rattle.mini_laws.specs.Scoped.{OwnScoped, Scoped, AllScoped}
use Rattle.mini_laws.specs.NameMoves.{EachScoped}

none_opened : (o : Opening) (ts : Trees) (i : ℕ) → o ≡ opening.Nothing → at_or_empty (scopes_by o ts) i ≡ []
unfolding scopes_by
none_opened o ts i e = ap (λ p. at_or_empty (scopes_by p ts) i) e

same_around : (env scope : Environment) → scope ≡ [] → env ++ scope ≡ env
same_around env scope e = ap (λ r. env ++ r) e ∙ append-nil env

all_of : (scope : ℕ → List Binding) (uses : ℕ → Use) (i : ℕ) (env : Environment) (ts : Trees) → ((k : ℕ) → scope k ≡ []) → EachScoped uses i env ts → AllScoped scope uses i env ts
unfolding Scoped
all_of scope uses i env none e s = tt
all_of scope uses i env (t ▸ ts) e s = let back = sym (same_around env (scope i) (e i)) in (subst (λ v. Scoped (uses i) v t) back s.0, subst (λ v. AllScoped scope uses (suc i) v ts) back (all_of scope uses (suc i) env ts e s.1))

each_of : (scope : ℕ → List Binding) (uses : ℕ → Use) (i : ℕ) (env : Environment) (ts : Trees) → ((k : ℕ) → scope k ≡ []) → AllScoped scope uses i env ts → EachScoped uses i env ts
unfolding Scoped
each_of scope uses i env none e s = tt
each_of scope uses i env (t ▸ ts) e s = let same = same_around env (scope i) (e i) in (subst (λ v. Scoped (uses i) v t) same s.0, each_of scope uses (suc i) env ts e (subst (λ v. AllScoped scope uses (suc i) v ts) same s.1))

pub of_parts : (u : Use) (env : Environment) (h : Shape) (xs : List Name) (n : ℕ) (ts : Trees) → opening_of u h ≡ opening.Nothing → OwnScoped u env h xs ts → EachScoped (use_of h u) 0 env ts → Scoped u env (node h xs n ts)
unfolding Scoped
of_parts u env h xs n ts e d s = (d, all_of (opened u h ts) (use_of h u) 0 env ts (λ k. none_opened (opening_of u h) ts k e) s)

pub to_parts : (u : Use) (env : Environment) (h : Shape) (xs : List Name) (n : ℕ) (ts : Trees) → opening_of u h ≡ opening.Nothing → Scoped u env (node h xs n ts) → EachScoped (use_of h u) 0 env ts
unfolding Scoped
to_parts u env h xs n ts e s = each_of (opened u h ts) (use_of h u) 0 env ts (λ k. none_opened (opening_of u h) ts k e) s.1

-- the items of a list are used alike, wherever they stand
each_joined : (u : Use) (env : Environment) (i j k : ℕ) (ts us : Trees) → EachScoped (λ m. u) i env ts → EachScoped (λ m. u) j env us → EachScoped (λ m. u) k env (append ts us)
each_joined u env i j k none none s r = tt
each_joined u env i j k none (t ▸ us) s r = (r.0, each_joined u env i (suc j) (suc k) none us tt r.1)
each_joined u env i j k (t ▸ ts) us s r = (s.0, each_joined u env (suc i) j (suc k) ts us s.1 r)

first_part : (u : Use) (env : Environment) (i k : ℕ) (ts us : Trees) → EachScoped (λ m. u) k env (append ts us) → EachScoped (λ m. u) i env ts
first_part u env i k none us s = tt
first_part u env i k (t ▸ ts) us s = (s.0, first_part u env (suc i) (suc k) ts us s.1)

last_part : (u : Use) (env : Environment) (j k : ℕ) (ts us : Trees) → EachScoped (λ m. u) k env (append ts us) → EachScoped (λ m. u) j env us
last_part u env j k none none s = tt
last_part u env j k none (t ▸ us) s = (s.0, last_part u env (suc j) (suc k) none us s.1)
last_part u env j k (t ▸ ts) us s = last_part u env j (suc k) ts us s.1

pub joined : (u : Use) (env : Environment) (ts us : Trees) → Scoped u env (listed ts) → Scoped u env (listed us) → Scoped u env (listed (append ts us))
unfolding Scoped scopes_by
joined u env ts us s r = (tt, all_of _ (λ m. u) 0 env (append ts us) (λ k. refl) (each_joined u env 0 0 0 ts us (each_of _ (λ m. u) 0 env ts (λ k. refl) s.1) (each_of _ (λ m. u) 0 env us (λ k. refl) r.1)))

pub split : (u : Use) (env : Environment) (ts us : Trees) → Scoped u env (listed (append ts us)) → Scoped u env (listed ts) × Scoped u env (listed us)
unfolding Scoped scopes_by
split u env ts us s =
    let each = each_of _ (λ m. u) 0 env (append ts us) (λ k. refl) s.1 in
    ((tt, all_of _ (λ m. u) 0 env ts (λ k. refl) (first_part u env 0 0 ts us each)), (tt, all_of _ (λ m. u) 0 env us (λ k. refl) (last_part u env 0 0 ts us each)))
