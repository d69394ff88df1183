-- Laws of counts.
use Rattle.std.specs.Prelude.{ℕ, ◌≡◌, ◌<◌, Bool, List, slice_index, Some, length}
use Rattle.mini_model.specs.Tree.{Tree}
use Rattle.mini_laws.specs.declared.names.Use.{Use}
use Rattle.mini_laws.specs.declared.names.Use.TheVariants.{Headed, Hoisted, Read}
use Rattle.mini_laws.specs.References.{reads, writes, read_count, write_count, counts_of, references}
use Rattle.mini_laws.specs.Mentions.{is_among}
use Rattle.mini_laws.specs.Foreign.{is_foreign}
use Rattle.mini_laws.specs.Shared.{is_shared}
use Rattle.mini_context.specs.Facts.{Facts, Looked, Refreshed, foreign, shares}
use Rattle.mini_context.specs.Tables.{named}
use Rattle.mini_model.specs.declared.name.Name.{Name}
use Rattle.mini_model.specs.declared.name.SymbolId.{SymbolId}
use Rattle.mini_laws.specs.Counts.{times_of}

-- the counts by symbol of a tree are how often each symbol is read, and written
abbrev pub CountsTell : Type 0
CountsTell = (n : ℕ) (t : Tree) (s : ℕ) → s < n → (slice_index (counts_of reads n t) s ≡ read_count s t) × (slice_index (counts_of writes n t) s ≡ write_count s t)

-- whether a name that has a symbol is among others is a matter of the symbol alone
abbrev pub NamesTell : Type 0
NamesTell = (x : Name) (s : SymbolId) (xs : List Name) → x.symbol ≡ Some s → is_among x xs ≡ is_among (named s.0) xs

-- of a name that has a symbol, whether a body shares it is a matter of the symbol alone
abbrev pub SharesTell : Type 0
SharesTell = (t : Tree) (b : ℕ) (x : Name) (s : SymbolId) → x.symbol ≡ Some s → is_shared t b x ≡ is_shared t b (named s.0)

-- the tables of a program tell what is shared
abbrev pub TablesTell : Type 0
TablesTell = (f : Facts) (n : ℕ) (t : Tree) → Looked f n t → (s b : ℕ) → s < n → shares f s b ≡ is_shared t b (named s)

-- .. and what is foreign
abbrev pub ForeignTells : Type 0
ForeignTells = (f : Facts) (n : ℕ) (t : Tree) → Looked f n t → (s b : ℕ) → s < n → foreign f s b ≡ is_foreign t b (named s)

-- what a refresh sets is told of the new program
abbrev pub RefreshTells : Type 0
RefreshTells = (old new : Facts) (t : Tree) → Refreshed old new t → (s b : ℕ) → s < length old.reads → (shares new s b ≡ is_shared t b (named s)) × (foreign new s b ≡ is_foreign t b (named s))

-- what is used in two ways that are counted alike is counted alike, where a `var` in the head of a
-- loop is counted as any other: so the counts of a part that a `var` declares are those of one that
-- is read
abbrev pub UsesTell : Type 0
UsesTell = (p : Use → Bool) → p Headed ≡ p Hoisted → (u v : Use) → p u ≡ p v → (t : Tree) (s : ℕ) → times_of p s (references u t) ≡ times_of p s (references v t)

abbrev pub DeclaratorsTell : Type 0
DeclaratorsTell = (t : Tree) (s : ℕ) → (times_of reads s (references Hoisted t) ≡ times_of reads s (references Read t)) × (times_of writes s (references Hoisted t) ≡ times_of writes s (references Read t))
