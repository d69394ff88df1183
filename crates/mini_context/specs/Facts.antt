-- What is known of the names of a program.
use Rattle.std.specs.Prelude.{ℕ, ◌≡◌, ◌<◌, Bool, false, List, length, map, slice_index, ◌&&◌, ◌||◌, not}
use Rattle.std.specs.List.{filter, list_any}
use Rattle.mini_model.specs.Tree.{Tree}
use Rattle.mini_laws.specs.References.{reads as is_read, writes as is_write, counts_of}
use Rattle.mini_laws.specs.Mentions.{is_among, is_elsewhere, outermost, program_mentions, same_variable}
use Rattle.mini_context.specs.declared.mentions.Mentioned.{Mentioned}
use Rattle.mini_context.specs.declared.scopes.Look.{Look}
use Rattle.mini_laws.specs.declared.names.Use.TheVariants.{Read}
use Rattle.mini_context.specs.Enclosing.{is_around}
use Rattle.mini_context.specs.Lists.{holds}
use Rattle.mini_context.specs.Mentioned.{is_outside, is_somewhere, mentioned_at}
use Rattle.mini_laws.specs.NameBodies.{fixed_names, this_has_event, has_arguments}
use Rattle.mini_laws.specs.ScopeList.{scopes_of, scope_of_symbol, seen_by_eval}
use Rattle.mini_laws.specs.Shared.{caught, program_var_writes, program_pattern_writes, script_tops, module_names, reached_by_arguments}
use Rattle.mini_laws.specs.Foreign.{imported_names, is_declared_in, is_read_early, lexical_variables, moments, params_around, pattern_names, switched as switched_names}
use Rattle.mini_context.specs.Outside.{is_mentioned_outside}
use Rattle.mini_context.specs.Tables.{mark_at, named}
use Rattle.mini_context.specs.Visits.{is_writing}
use Rattle.mini_context.specs.Holders.{AllBelow, Writables}
use Rattle.mini_context.specs.Asking.{asks_as}
use Rattle.mini_laws.specs.Bodies.{bodies_in}

-- by symbol: how often it is read, and written; whether it can't be written; whether it was one of
-- a script's top names when the program was resolved; its scope; whether it is a top name; whether
-- a direct eval can see it; whether a module imports or exports it, or imports it; whether it is a
-- parameter that an `arguments` reaches; whether a pattern binds it; whether it is lexical, and
-- directly in a `switch`; whether it is a `var` under a parameter of `catch` of its name, and
-- whether the pattern of a `var` writes it; where it is mentioned, where a reference writes it, and
-- where a `var` does; in which bodies it is bound, and which read it before its declaration has
-- ended; the functions whose parameters bind it; whether it is mentioned and can be written. By
-- scope: whether its code is strict; whether a direct eval stands in it. By body: whether `this` is
-- an event in it; whether it has an `arguments`; the functions in whose parameters it stands;
-- whether it asks the world for `this`
pub record Facts : Type 0 where
  pub reads : List ℕ
  pub writes : List ℕ
  pub fixed : List Bool
  pub tops : List Bool
  pub owners : List ℕ
  pub now_top : List Bool
  pub seen : List Bool
  pub exchanged : List Bool
  pub imported : List Bool
  pub reached : List Bool
  pub patterns : List Bool
  pub lexical : List Bool
  pub switched : List Bool
  pub caught : List Bool
  pub pattern_writes : List Bool
  pub mentioned : List Mentioned
  pub written : List Mentioned
  pub given : List Mentioned
  pub homes : List (List ℕ)
  pub early : List (List ℕ)
  pub functions : List (List ℕ)
  pub writable : List Bool
  pub strict : List Bool
  pub evals : List Bool
  pub this_events : List Bool
  pub arguments : List Bool
  pub enclosed : List (List ℕ)
  pub asking : List Bool

-- what a look at a program found, beside a script's top names when it was resolved
abbrev pub facts_of : Look → List Bool → Facts
facts_of b tops = record { reads = b.counts.reads.items; writes = b.counts.writes.items; fixed = b.tables.fixed.items; tops = tops; owners = b.scopes.owners.items; now_top = b.tops.items; seen = b.scopes.seen.items; exchanged = b.tables.exchanged.items; imported = b.tables.imported.items; reached = b.tables.reached.items; patterns = b.tables.patterns.items; lexical = b.tables.lexical.items; switched = b.tables.switched.items; caught = b.tables.caught.items; pattern_writes = b.pattern_writes.items; mentioned = b.tables.mentioned.items; written = b.tables.written.items; given = b.tables.given.items; homes = b.tables.homes.items; early = b.moments.early.items; functions = b.tables.enclosing.by_symbol.items; writable = b.writable.items; strict = b.scopes.strict.items; evals = b.scopes.evals.items; this_events = b.tables.this_events.items; arguments = b.tables.arguments.items; enclosed = b.tables.enclosing.by_number.items; asking = b.asking.items }

-- of so many symbols they say what is shared, and what is foreign, in a tree
pub record Looked (f : Facts) (n : ℕ) (t : Tree) : Type 0 where
  pub tops_told : (s : ℕ) → s < n → mark_at f.now_top s ≡ is_among (named s) (script_tops t)
  pub seen_told : (s : ℕ) → s < n → mark_at f.seen s ≡ is_among (named s) (seen_by_eval t)
  pub exchanged_told : (s : ℕ) → s < n → mark_at f.exchanged s ≡ is_among (named s) (module_names t)
  pub imported_told : (s : ℕ) → s < n → mark_at f.imported s ≡ is_among (named s) (imported_names t)
  pub reached_told : (s : ℕ) → s < n → mark_at f.reached s ≡ is_among (named s) (reached_by_arguments false t)
  pub patterns_told : (s : ℕ) → s < n → mark_at f.patterns s ≡ is_among (named s) (pattern_names t)
  pub lexical_told : (s : ℕ) → s < n → mark_at f.lexical s ≡ is_among (named s) (lexical_variables false t)
  pub switched_told : (s : ℕ) → s < n → mark_at f.switched s ≡ is_among (named s) (switched_names t)
  pub caught_told : (s : ℕ) → s < n → mark_at f.caught s ≡ is_among (named s) (caught t)
  pub pattern_writes_told : (s : ℕ) → s < n → mark_at f.pattern_writes s ≡ is_among (named s) (program_pattern_writes t)
  pub mentioned_told : (s : ℕ) → s < n → (b : ℕ) → is_outside (mentioned_at f.mentioned s) b ≡ is_mentioned_outside t b (named s)
  pub written_told : (s : ℕ) → s < n → (b : ℕ) → is_outside (mentioned_at f.written s) b ≡ list_any (λ m. same_variable (named s) m.name && is_elsewhere b m.around) (filter is_writing (program_mentions t))
  pub given_told : (s : ℕ) → s < n → (b : ℕ) → is_outside (mentioned_at f.given s) b ≡ list_any (λ m. same_variable (named s) m.name && is_elsewhere b m.around) (program_var_writes t)
  pub homes_told : (s : ℕ) → s < n → (b : ℕ) → holds f.homes s b ≡ is_declared_in t b (named s)
  pub early_told : (s : ℕ) → s < n → (b : ℕ) → holds f.early s b ≡ is_read_early b (named s) (moments Read outermost t)
  pub enclosed_told : (s : ℕ) → s < n → (b : ℕ) → is_around f.functions f.enclosed s b ≡ is_among (named s) (params_around b t)

-- of so many symbols they are those of a tree, but for which of them were a script's top names when
-- it was resolved
pub record Told (f : Facts) (n : ℕ) (t : Tree) : Type 0 where
  pub reads_told : f.reads ≡ counts_of is_read n t
  pub writes_told : f.writes ≡ counts_of is_write n t
  pub fixed_told : (s : ℕ) → s < n → mark_at f.fixed s ≡ is_among (named s) (fixed_names t)
  pub owners_told : (s : ℕ) → s < n → slice_index f.owners s ≡ scope_of_symbol t s
  pub strict_told : f.strict ≡ map (λ r. r.strict) (scopes_of t)
  pub evals_told : f.evals ≡ map (λ r. r.evals) (scopes_of t)
  pub this_told : (b : ℕ) → mark_at f.this_events b ≡ this_has_event t b
  pub arguments_told : (b : ℕ) → mark_at f.arguments b ≡ has_arguments t b
  -- of any symbol
  pub writable_told : Writables t f.writable
  -- of any number
  pub asking_told : (b : ℕ) → mark_at f.asking b ≡ list_any (asks_as b) (bodies_in t)
  -- the tables have room for each symbol
  pub whole : AllBelow n t
  pub looked : Looked f n t

-- they are those of a tree that was just resolved
pub record Tells (f : Facts) (n : ℕ) (t : Tree) : Type 0 where
  pub told : Told f n t
  pub tops_told : (s : ℕ) → s < n → mark_at f.tops s ≡ is_among (named s) (script_tops t)

-- they are those of another tree, and a script's top names are those that they were
pub record Refreshed (old new : Facts) (t : Tree) : Type 0 where
  pub told : Told new (length old.reads) t
  pub tops_kept : new.tops ≡ old.tops

-- whether every body that mentions it shares the symbol with a number, and whether a body does, as
-- the tables tell it
abbrev pub shared_always : Facts → ℕ → Bool
shared_always f s = mark_at f.now_top s || mark_at f.exchanged s || mark_at f.seen s || mark_at f.reached s || mark_at f.caught s || mark_at f.pattern_writes s

abbrev pub shares : Facts → ℕ → ℕ → Bool
shares f s b = shared_always f s || is_outside (mentioned_at f.mentioned s) b

-- whether a `var` gives the symbol a value, and whether a reference writes it
abbrev pub is_given : Facts → ℕ → Bool
is_given f s = is_somewhere (mentioned_at f.given s)

abbrev pub is_assigned : Facts → ℕ → Bool
is_assigned f s = is_somewhere (mentioned_at f.written s)

-- whether something writes the symbol, and whether another body than this or a carried node does
abbrev pub is_changed : Facts → ℕ → Bool
is_changed f s = is_given f s || is_assigned f s

abbrev pub is_changed_outside : Facts → ℕ → ℕ → Bool
is_changed_outside f s b = is_outside (mentioned_at f.given s) b || is_outside (mentioned_at f.written s) b

-- whether the symbol may be uninitialised where a body reads it
abbrev pub may_be_unset : Facts → ℕ → ℕ → Bool
may_be_unset f s b = (mark_at f.lexical s && (not (holds f.homes s b) || mark_at f.switched s || holds f.early s b)) || is_around f.functions f.enclosed s b

-- whether the symbol is foreign to every body
abbrev pub foreign_always : Facts → ℕ → Bool
foreign_always f s = mark_at f.imported s || mark_at f.now_top s || mark_at f.seen s || mark_at f.reached s || mark_at f.patterns s || mark_at f.pattern_writes s

-- whether it is foreign to a body, as the tables tell it
abbrev pub foreign : Facts → ℕ → ℕ → Bool
foreign f s b = foreign_always f s || (shares f s b && is_changed_outside f s b) || (not (holds f.homes s b) && is_changed f s) || may_be_unset f s b
