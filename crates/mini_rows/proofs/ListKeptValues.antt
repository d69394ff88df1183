-- What holds of a declarator holds of its value, and of a statement of what stands in it.
use Rattle.std.specs.Prelude.{◌≡◌, refl, ◌||◌, Bool, true, false, List, [], ◌∷◌, ◌++◌, Contains, None}
use Rattle.std.proofs.Common.{ap, ◌∙◌, sym, subst, inl, inr, ◌⊎◌}
use Rattle.std.proofs.lemmas.List.{append-nil}
use Rattle.std.proofs.lemmas.List.Elements.{Contains-append_cases}
use Rattle.mini_model.specs.declared.name.Name.{Name}
use Rattle.mini_model.specs.declared.shape.Shape.TheVariants as shape
use Rattle.mini_model.specs.Tree.{Tree, none, ◌▸◌, absent, is_absent}
use Rattle.mini_laws.specs.declared.names.Use.{Use}
use Rattle.mini_laws.specs.declared.names.Use.TheVariants.{Read}
use Rattle.mini_laws.specs.declared.names.Declared.{Declared}
use Rattle.mini_laws.specs.declared.names.Targets.{Targets}
use Rattle.mini_laws.specs.DeclaredNames.{has_inner, names_of, body_names}
use Rattle.mini_laws.specs.Scopes.{scopes_by}
use Rattle.mini_laws.specs.Resolved.{Environment, symbol_of, gives_value}
use Rattle.mini_laws.specs.Scoped.{Scoped}
use Rattle.mini_laws.specs.Symbols.{declared as declared_in}
use Rattle.mini_laws.specs.Early.{scope_declarations, early_names, targets_of, early_jumps}
use Rattle.mini_laws.specs.Value.{Variable}
use Rattle.mini_laws.specs.State.{Fixed, Writable, Constant, KeepsOld}
use Rattle.mini_laws.specs.Fixity.{stricter, fixed_by}
use Rattle.mini_laws.specs.Bodies.{Around, bodies}
use Rattle.mini_kept.specs.Carried.{numbers}
use Rattle.mini_kept.specs.Declaring.{declared as names_declared}
use Rattle.mini_kept.specs.Frames.{frames}
use Rattle.mini_kept.proofs.Fixed.{of_children}
use Rattle.mini_kept.proofs.Unplaced.{as_body}
use Rattle.mini_rows.specs.Lists.{binding, declarator}
use Rattle.mini_rows.specs.Sketches.{Asked, AsWholeItem, AsValue}
use Rattle.mini_rows.proofs.ArrangedBodies.{quiet, Among}
use Rattle.mini_rows.proofs.ArrangedFolds.{port}
use Rattle.mini_rows.proofs.WrittenNames.{Nameless, nameless_by}

-- ---- what holds of a statement, and of an expression in it and what stands beside that

-- of two expressions
pub record Opens (Q : Asked → Tree → Type 0) (hold : Tree → Tree) (e d : Tree) : Type 1 where
  pub Beside : Type 0
  pub down : Q AsWholeItem (hold e) → Q AsValue e × Beside
  pub up : Q AsValue d → Beside → Q AsWholeItem (hold d)

-- what is known of a statement by its names
pub record Names (t u : Tree) : Type 0 where
  pub names : (d : Declared) → names_of d u ≡ names_of d t
  pub body : body_names u ≡ body_names t
  pub as_body : (o : Bool) → as_body o u ≡ as_body o t
  pub ports : (m : Bool) → port m u ≡ port m t

-- ---- a declarator with a value in it

pub or_nothing : (b : Bool) → (b || false) ≡ b
or_nothing true = refl
or_nothing false = refl

pub stricter_alone : (f : Fixed) → stricter f Writable ≡ f
stricter_alone Writable = refl
stricter_alone KeepsOld = refl
stricter_alone Constant = refl

module _ (x : Name) (value : Tree) where
  abbrev pub bare : Tree
  bare = declarator (binding x) absent

  abbrev pub given : Tree
  given = declarator (binding x) value

  pub inner_value : has_inner given ≡ has_inner value
  unfolding has_inner
  inner_value = or_nothing (has_inner value)

  pub no_inner : has_inner bare ≡ false
  unfolding has_inner
  no_inner = refl

  pub fixed_value : (y : Variable) → fixed_by given y ≡ fixed_by value y
  fixed_value y = of_children shape.VariableDeclarator [] 0 (binding x ▸ (value ▸ none)) y refl ∙ stricter_alone (fixed_by value y)

  pub fixed_bare : (y : Variable) → fixed_by bare y ≡ Writable
  fixed_bare y = of_children shape.VariableDeclarator [] 0 (binding x ▸ (absent ▸ none)) y refl

  pub declared_value : names_declared given ≡ x ∷ names_declared value
  declared_value = ap (λ r. x ∷ r) (append-nil (names_declared value))

  pub frames_value : frames None given ≡ frames None value
  frames_value = append-nil (frames None value)

  pub bodies_value : (r : Around) → bodies (quiet r) given ≡ bodies (quiet r) value
  bodies_value r = append-nil (bodies (quiet r) value)

  pub numbers_value : numbers given ≡ numbers value
  unfolding numbers
  numbers_value = append-nil (numbers value)

  pub no_numbers : numbers bare ≡ []
  unfolding numbers
  no_numbers = refl

  pub symbols_value : (u : Use) → declared_in u given ≡ declared_in Read value
  unfolding declared_in scopes_by
  symbols_value u = append-nil (declared_in Read value)

  pub once_value : early_names [] given ≡ early_names (1 ∷ []) value
  unfolding early_names scope_declarations
  once_value = append-nil (early_names (1 ∷ []) value)

  pub jumps_value : (g : Targets) → early_jumps g [] given ≡ early_jumps g (1 ∷ []) value
  unfolding early_jumps targets_of
  jumps_value g = append-nil (early_jumps g (1 ∷ []) value)

  -- where the value is given to the innermost variable of the name
  pub scoped_value : (u : Use) (env : Environment) → (gives_value u (is_absent value) ≡ true → x.symbol ≡ symbol_of Read x.spelling env) → Scoped u env bare → Scoped Read env value → Scoped u env given
  unfolding Scoped scopes_by
  scoped_value u env w a b =
      let own : x.symbol ≡ symbol_of u x.spelling env = a.1.0.0.0 ∙ ap (symbol_of u x.spelling) (append-nil env) in
      let none_own : Nameless u env (binding x ▸ (value ▸ none)) = nameless_by u env x (gives_value u (is_absent value)) own w in
      (none_own, (a.1.0, (subst (λ r. Scoped Read r value) (sym (append-nil (env ++ []) ∙ append-nil env)) b, tt)))

  pub among_value : (all : List Name) → Among all (names_declared bare) → Among all (names_declared value) → Among all (names_declared given)
  among_value all a b y c = by (Contains-append_cases (x ∷ []) (names_declared value) y (subst (λ r. Contains r y) declared_value c))
    where
      by : Contains (x ∷ []) y ⊎ Contains (names_declared value) y → Contains all y
      by (inl d) = a y d
      by (inr d) = b y d
