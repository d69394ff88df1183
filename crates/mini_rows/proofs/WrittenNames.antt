-- A declarator has no name of its own where the name that it declares is the innermost one, or where it gives no value.
use Rattle.std.specs.Prelude.{ℕ, ◌≡◌, refl, Bool, true, false, List, [], ◌∷◌, if◌then◌else◌}
use Rattle.std.proofs.Common.{ap, ◌∙◌, sym, subst}
use Rattle.mini_model.specs.declared.name.Name.{Name}
use Rattle.mini_model.specs.declared.shape.Shape.TheVariants as shape
use Rattle.mini_model.specs.Tree.{Tree, Trees, none, ◌▸◌, identifier, is_absent}
use Rattle.mini_laws.specs.declared.names.Use.{Use}
use Rattle.mini_laws.specs.declared.names.Use.TheVariants.{Read, Write, Hoisted, Headed}
use Rattle.mini_laws.specs.Resolved.{Environment, own_symbol, or_else, symbol_of, with_symbol, gives_value, plain_name, other_name}
use Rattle.mini_laws.specs.Scoped.{AreNames, OwnScoped, Scoped}
use Rattle.mini_laws.specs.Symbols.{is_same}
use Rattle.mini_laws.proofs.Writing.{symbol_itself}

-- a name that is written is found where one that is read is
pub found_by_write : (s : List ℕ) (env : Environment) → symbol_of Write s env ≡ symbol_of Read s env
found_by_write s [] = refl
found_by_write s (b ∷ env) = ap (λ o. or_else o (own_symbol Read s b)) (found_by_write s env)

-- a `var` in the head of a loop is declared where any other is
pub found_in_head : (s : List ℕ) (env : Environment) → symbol_of Hoisted s env ≡ symbol_of Headed s env
found_in_head s [] = refl
found_in_head s (b ∷ env) = ap (λ o. or_else o (own_symbol Hoisted s b)) (found_in_head s env)

-- what is assigned to is the innermost variable of the name
pub target_found : (env : Environment) (x : Name) → Scoped Write env (identifier x) → x.symbol ≡ symbol_of Read x.spelling env
unfolding Scoped
target_found env x a = a.0.0 ∙ found_by_write x.spelling env

-- the names of a declarator are none
abbrev pub Nameless : Use → Environment → Trees → Type 0
Nameless u env ts = OwnScoped u env shape.VariableDeclarator [] ts

-- where the name that it declares, if it gives that a value, is the innermost one
pub nameless_by : (u : Use) (env : Environment) (x : Name) (gives : Bool) → x.symbol ≡ symbol_of u x.spelling env → (gives ≡ true → x.symbol ≡ symbol_of Read x.spelling env) → AreNames [] (if gives then other_name u env (x ∷ []) else [])
nameless_by u env x true e f =
    let same : is_same (symbol_of Read x.spelling env) (symbol_of u x.spelling env) ≡ true = (λ k. is_same (sym (f refl) k) (sym e k)) ∙ symbol_itself x.symbol in
    subst (λ c. AreNames [] (if c then [] else with_symbol Read env x ∷ [])) (sym same) tt
nameless_by u env x false e f = tt

-- another initializer, where one was, leaves it so
pub nameless_over : (u : Use) (env : Environment) (id v t : Tree) → is_absent v ≡ is_absent t → Nameless u env (id ▸ (v ▸ none)) → Nameless u env (id ▸ (t ▸ none))
nameless_over u env id v t e a = subst (λ b. AreNames [] (if gives_value u b then other_name u env (plain_name id) else [])) e a
