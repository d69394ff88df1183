-- What resolution gives.
use Rattle.std.specs.Prelude.{ℕ, ◌≡◌, []}
use Rattle.mini_model.specs.Tree.{Tree}
use Rattle.mini_laws.specs.declared.names.Use.{Use}
use Rattle.mini_laws.specs.declared.names.Use.TheVariants.{Read}
use Rattle.mini_laws.specs.Resolved.{Environment, resolved, resolved_program, symbols}
use Rattle.mini_laws.specs.Scoped.{Scoped}
use Rattle.mini_laws.specs.Symbols.{declared_symbols, bare, renamed, symbols_to, Distinct}

abbrev pub ResolvedIsScoped : Type 0
ResolvedIsScoped = (u : Use) (env : Environment) (s : ℕ) (t : Tree) → Scoped u env (resolved u env s t)

-- resolution looks at what is written alone
abbrev pub ResolvedOfBare : Type 0
ResolvedOfBare = (t : Tree) → resolved_program (bare t) ≡ resolved_program t

-- a scoped tree is its text resolved, up to the numbers of the symbols
abbrev pub ResolvedRenamed : Type 0
ResolvedRenamed = (t : Tree) → Scoped Read [] t → Distinct (declared_symbols t) → renamed (declared_symbols t) (resolved_program (bare t)) ≡ t

-- the symbols of a resolved program are numbered in the order in which they are declared
abbrev pub ResolvedSymbols : Type 0
ResolvedSymbols = (t : Tree) → declared_symbols (resolved_program t) ≡ symbols_to 0 (symbols Read t)

abbrev pub ResolvedIsDistinct : Type 0
ResolvedIsDistinct = (t : Tree) → Distinct (declared_symbols (resolved_program t))
