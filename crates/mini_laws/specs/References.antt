-- The references of a tree, and how often each symbol is read and written.
use Rattle.std.specs.Prelude.{ℕ, suc, ◌+◌, nat_eq, Bool, true, false, ◌&&◌, List, [], ◌∷◌, ◌++◌, map, count_by, replicate, slice_set, slice_index, Option, Some, None, if◌then◌else◌}
use Rattle.mini_model.specs.declared.name.Name.{Name}
use Rattle.mini_model.specs.declared.name.SymbolId.{SymbolId}
use Rattle.mini_model.specs.declared.shape.Shape.{Shape}
use Rattle.mini_model.specs.declared.shape.Shape.TheVariants as shape
use Rattle.mini_model.specs.Tree.{Tree, Trees, node, none, ◌▸◌}
use Rattle.mini_laws.specs.declared.names.Use.{Use}
use Rattle.mini_laws.specs.declared.names.Use.TheVariants.{Read, Write, ReadWrite}
use Rattle.mini_laws.specs.Scopes.{use_of}

-- a name where it is read or written
pub record Reference : Type 0 where
  pub name : Name
  pub used : Use

abbrev pub own_references : Use → Shape → List Name → List Reference
own_references u shape.Identifier xs = map (λ x. record { name = x; used = u }) xs
own_references u _ xs = []

-- the references of a tree whose names are used like this, in order
unfoldable mutual
  pub references : Use → Tree → List Reference
  references u (node h xs n ts) = own_references u h xs ++ references_from (use_of h u) 0 ts

  pub references_from : (ℕ → Use) → ℕ → Trees → List Reference
  references_from uses i none = []
  references_from uses i (t ▸ ts) = references (uses i) t ++ references_from uses (suc i) ts

abbrev pub has_symbol : ℕ → Option SymbolId → Bool
has_symbol s None = false
has_symbol s (Some x) = nat_eq x.0 s

abbrev pub reads : Use → Bool
reads Write = false
reads _ = true

abbrev pub writes : Use → Bool
writes Write = true
writes ReadWrite = true
writes _ = false

-- how often a symbol is read, and written: a declarator isn't counted
abbrev pub read_count : ℕ → Tree → ℕ
read_count s t = count_by (λ r. reads r.used && has_symbol s r.name.symbol) (references Read t)

abbrev pub write_count : ℕ → Tree → ℕ
write_count s t = count_by (λ r. writes r.used && has_symbol s r.name.symbol) (references Read t)

-- ---- counts by symbol

abbrev pub one_more : List ℕ → Option SymbolId → List ℕ
one_more counts None = counts
one_more counts (Some x) = slice_set counts x.0 (slice_index counts x.0 + 1)

abbrev pub with_reference : (Use → Bool) → List ℕ → Reference → List ℕ
with_reference p counts r = if p r.used then one_more counts r.name.symbol else counts

-- the counts with one more for each of the references of a kind
unfoldable pub counted : (Use → Bool) → List Reference → List ℕ → List ℕ
counted p [] counts = counts
counted p (r ∷ rs) counts = counted p rs (with_reference p counts r)

-- the counts of a tree, of so many symbols
abbrev pub counts_of : (Use → Bool) → ℕ → Tree → List ℕ
counts_of p n t = counted p (references Read t) (replicate n 0)
