-- References that are counted in, or out.
use Rattle.std.specs.Prelude.{ℕ, ◌+◌, ◌-◌, ◌^◌, min, Bool, List, [], ◌∷◌, slice_set, slice_index, Option, Some, None, if◌then◌else◌}
use Rattle.mini_model.specs.declared.name.SymbolId.{SymbolId}
use Rattle.mini_laws.specs.declared.names.Use.{Use}
use Rattle.mini_laws.specs.References.{Reference}
use Rattle.mini_context.specs.declared.count.Tally.{Tally}
use Rattle.mini_context.specs.declared.count.Tally.TheVariants.{In, Out}

-- a count after one more reference: it stays below 2 ^ 32, and isn't below 0
abbrev pub tallied_number : Tally → ℕ → ℕ
tallied_number In n = min (n + 1) (2 ^ 32 - 1)
tallied_number Out n = n - 1

abbrev pub tallied_symbol : Tally → List ℕ → Option SymbolId → List ℕ
tallied_symbol d counts None = counts
tallied_symbol d counts (Some x) = slice_set counts x.0 (tallied_number d (slice_index counts x.0))

abbrev pub tallied_one : Tally → (Use → Bool) → List ℕ → Reference → List ℕ
tallied_one d p counts r = if p r.used then tallied_symbol d counts r.name.symbol else counts

-- the counts after each of the references of a kind, in order
unfoldable pub tallied : Tally → (Use → Bool) → List Reference → List ℕ → List ℕ
tallied d p [] counts = counts
tallied d p (r ∷ rs) counts = tallied d p rs (tallied_one d p counts r)
