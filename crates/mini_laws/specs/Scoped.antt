-- Names as written still have the symbols that they carry.
use Rattle.std.specs.Prelude.{ℕ, suc, ◌≡◌, List, [], ◌∷◌, ◌++◌}
use Rattle.mini_model.specs.declared.name.Name.{Name}
use Rattle.mini_model.specs.declared.shape.Shape.{Shape}
use Rattle.mini_model.specs.declared.shape.Shape.TheVariants as shape
use Rattle.mini_model.specs.Tree.{Tree, Trees, node, none, ◌▸◌}
use Rattle.mini_laws.specs.declared.names.Use.{Use}
use Rattle.mini_laws.specs.declared.names.Binding.{Binding}
use Rattle.mini_laws.specs.Scopes.{use_of, opened}
use Rattle.mini_laws.specs.Resolved.{Environment, symbol_of, written_name}

-- each of the names has the symbol that the scopes around give it
abbrev pub NamesScoped : Use → Environment → List Name → Type 0
NamesScoped u env [] = Unit {0}
NamesScoped u env (x ∷ xs) = (x.symbol ≡ symbol_of u x.spelling env) × NamesScoped u env xs

-- the same names, in order
abbrev pub AreNames : List Name → List Name → Type 0
AreNames [] [] = Unit {0}
AreNames [] (y ∷ ys) = ⊥
AreNames (x ∷ xs) [] = ⊥
AreNames (x ∷ xs) (y ∷ ys) = (x ≡ y) × AreNames xs ys

-- the names that stand in a node: a declarator has that of the variable that it writes, where it is
-- another than the one that is declared, and no other
abbrev pub OwnScoped : Use → Environment → Shape → List Name → Trees → Type 0
OwnScoped u env shape.VariableDeclarator xs ts = AreNames xs (written_name u env ts)
OwnScoped u env h xs ts = NamesScoped u env xs

-- a tree all of whose names have the symbols that the scopes around them give: those around the
-- tree, and those that its nodes open, with the symbols that the declared names carry
unfoldable mutual
  pub Scoped : Use → Environment → Tree → Type 0
  Scoped u env (node h xs n ts) = OwnScoped u env h xs ts × AllScoped (opened u h ts) (use_of h u) 0 env ts

  pub AllScoped : (ℕ → List Binding) → (ℕ → Use) → ℕ → Environment → Trees → Type 0
  AllScoped scope uses i env none = Unit {0}
  AllScoped scope uses i env (t ▸ ts) = Scoped (uses i) (env ++ scope i) t × AllScoped scope uses (suc i) (env ++ scope i) ts

-- no name in a tree carries the symbol of this one
abbrev pub Differs : Binding → Name → Type 0
Differs b x = b.name.symbol ≡ x.symbol → ⊥

abbrev pub NoneCarries : Binding → List Name → Type 0
NoneCarries b [] = Unit {0}
NoneCarries b (x ∷ xs) = Differs b x × NoneCarries b xs

unfoldable mutual
  pub Unmentioned : Binding → Tree → Type 0
  Unmentioned b (node h xs n ts) = NoneCarries b xs × AllUnmentioned b ts

  pub AllUnmentioned : Binding → Trees → Type 0
  AllUnmentioned b none = Unit {0}
  AllUnmentioned b (t ▸ ts) = Unmentioned b t × AllUnmentioned b ts
