-- What an identifier is to its name, by where it stands.
use Rattle.std.specs.Prelude.{Bool, true, false}
use Rattle.mini_fields.specs.declared.place.Class.TheVariants as class
use Rattle.mini_fields.specs.declared.place.Place.{Place}
use Rattle.mini_fields.specs.declared.place.Place.TheVariants as place

-- one that declares it
abbrev pub is_declared : Place → Bool
is_declared (place.At class.Pattern) = true
is_declared (place.At class.PatternElement) = true
is_declared (place.At class.Parameter) = true
is_declared (place.At class.Binding) = true
is_declared p = false

-- one that names no variable
abbrev pub is_word : Place → Bool
is_word (place.At class.Label) = true
is_word (place.At (class.Key false)) = true
is_word (place.At class.PrivateOrKey) = true
is_word (place.At class.InnerKey) = true
is_word (place.At class.ModuleName) = true
is_word (place.At (class.Word w)) = true
is_word p = false
