-- A symbol that is renamed is there where the symbol is.
use Rattle.std.specs.Prelude.{◌≡◌, refl, Bool, true, false, if◌then◌else◌, Option, Some, None, is_some, is_none, List, map}
use Rattle.mini_model.specs.declared.name.Name.{Name}
use Rattle.mini_model.specs.declared.name.SymbolId.{SymbolId}
use Rattle.mini_laws.specs.Renaming.{rename_name, rename_symbol}
use Rattle.mini_model.specs.Tree.{Tree, Trees}
use Rattle.mini_laws.specs.Symbols.{is_same}
use Rattle.mini_again.specs.Again.{Renaming, again, all_again}

pub some_again : (ρ : Renaming) (s : Option SymbolId) → is_some (rename_symbol ρ.symbol s) ≡ is_some s
some_again ρ (Some s) = refl
some_again ρ None = refl

pub none_again : (ρ : Renaming) (s : Option SymbolId) → is_none (rename_symbol ρ.symbol s) ≡ is_none s
none_again ρ (Some s) = refl
none_again ρ None = refl

-- symbols are told apart
pub is_same_again : (ρ : Renaming) (r s : Option SymbolId) → is_same (rename_symbol ρ.symbol r) (rename_symbol ρ.symbol s) ≡ is_same r s
is_same_again ρ None None = refl
is_same_again ρ None (Some s) = refl
is_same_again ρ (Some r) None = refl
is_same_again ρ (Some r) (Some s) = ρ.apart r.0 s.0

-- the tree that is chosen of two that are read again

pub if_again : (ρ : Renaming) (b : Bool) (t u : Tree) → (if b then again ρ t else again ρ u) ≡ again ρ (if b then t else u)
if_again ρ true t u = refl
if_again ρ false t u = refl

pub if_all_again : (ρ : Renaming) (b : Bool) (ts us : Trees) → (if b then all_again ρ ts else all_again ρ us) ≡ all_again ρ (if b then ts else us)
if_all_again ρ true ts us = refl
if_all_again ρ false ts us = refl

-- the list of names that is chosen of two

pub if_names_again : (ρ : Renaming) (b : Bool) (xs ys : List Name) → (if b then map (rename_name ρ.symbol) xs else map (rename_name ρ.symbol) ys) ≡ map (rename_name ρ.symbol) (if b then xs else ys)
if_names_again ρ true xs ys = refl
if_names_again ρ false xs ys = refl

-- the names whose other ones P holds of
abbrev pub names_with_others : Renaming → (Name → Bool) → Name → Bool
names_with_others ρ P x = P (rename_name ρ.symbol x)
