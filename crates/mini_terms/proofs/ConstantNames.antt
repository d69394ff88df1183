-- Which names have a known value, by their spelling.
use Rattle.std.proofs.Common.{◌≡◌, Bool, true, false, refl}
use Rattle.std.specs.Prelude.{◌&&◌, ◌||◌, is_some, is_none, Option, Some, None, codes, if◌then◌else◌}
use Rattle.mini_model.specs.declared.name.Name.{Name}
use Rattle.mini_model.specs.declared.name.SymbolId.{SymbolId}
use Rattle.mini_model.specs.Weight.{same_text}
use Rattle.mini_node.specs.Children.{names}
use Rattle.mini_laws.specs.Naming.{NameKind, PlainName, EvalName, UndefinedName, NumberName, kinds}
use Rattle.mini_laws.specs.Expressions.{first_kind}
use Rattle.mini_terms.specs.Kind.{is_undefined_name}
use Rattle.mini_terms.specs.Effects.{is_constant_name, ef_names}

abbrev declared : Bool → NameKind
declared d = if d then EvalName else PlainName

abbrev unresolved : Bool → Bool → Bool → Bool → NameKind
unresolved a b c d = if a then UndefinedName else (if b then NumberName else (if c then NumberName else declared d))

declared_undefined : (d : Bool) → is_undefined_name (declared d) ≡ false
declared_undefined true = refl
declared_undefined false = refl

unresolved_undefined : (a b c d : Bool) → is_undefined_name (unresolved a b c d) ≡ a
unresolved_undefined true b c d = refl
unresolved_undefined false true c d = refl
unresolved_undefined false false true d = refl
unresolved_undefined false false false d = declared_undefined d

undefined_by : (o : Option SymbolId) (a b c d : Bool) → is_undefined_name (if is_none o then unresolved a b c d else declared d) ≡ is_none o && a
undefined_by None a b c d = unresolved_undefined a b c d
undefined_by (Some x) a b c d = declared_undefined d

pub undefined_is : (x : Name) → is_undefined_name (first_kind (kinds (names (Some x)))) ≡ is_none x.symbol && same_text x.spelling (codes "undefined")
undefined_is x = undefined_by x.symbol (same_text x.spelling (codes "undefined")) (same_text x.spelling (codes "NaN")) (same_text x.spelling (codes "Infinity")) (same_text x.spelling (codes "eval"))

pub nameless_is : is_undefined_name (first_kind (kinds (names None))) ≡ false
nameless_is = refl

declared_constant : (d : Bool) → is_constant_name (declared d) ≡ false
declared_constant true = refl
declared_constant false = refl

unresolved_constant : (a b c d : Bool) → is_constant_name (unresolved a b c d) ≡ a || (b || c)
unresolved_constant true b c d = refl
unresolved_constant false true c d = refl
unresolved_constant false false true d = refl
unresolved_constant false false false d = declared_constant d

constant_by : (o : Option SymbolId) (a b c d : Bool) → is_some o || is_constant_name (if is_none o then unresolved a b c d else declared d) ≡ is_some o || (a || (b || c))
constant_by None a b c d = unresolved_constant a b c d
constant_by (Some x) a b c d = refl

pub constant_is : (x : Name) → ef_names (names (Some x)) ≡ is_some x.symbol || (same_text x.spelling (codes "undefined") || (same_text x.spelling (codes "NaN") || same_text x.spelling (codes "Infinity")))
constant_is x = constant_by x.symbol (same_text x.spelling (codes "undefined")) (same_text x.spelling (codes "NaN")) (same_text x.spelling (codes "Infinity")) (same_text x.spelling (codes "eval"))
