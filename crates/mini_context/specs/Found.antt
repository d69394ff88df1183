-- The tables of symbols and of bodies: before a walk over a program, and what it finds of the
-- names.
use Rattle.std.specs.Prelude.{ℕ, ◌≡◌, ◌<◌, Bool, false, ◌&&◌, List, [], map, replicate, slice_index}
use Rattle.std.specs.List.{filter, list_any}
use Rattle.mini_model.specs.Tree.{Tree}
use Rattle.mini_laws.specs.Mentions.{is_among, is_elsewhere, program_mentions, same_variable}
use Rattle.mini_laws.specs.NameBodies.{fixed_names, this_has_event, has_arguments}
use Rattle.mini_laws.specs.ScopeList.{scope_of_symbol, scopes_of, seen_by_eval}
use Rattle.mini_laws.specs.Shared.{caught, module_names, program_var_writes, program_pattern_writes, reached_by_arguments}
use Rattle.mini_laws.specs.Foreign.{imported_names, is_declared_in, lexical_variables, params_around, pattern_names, switched as switched_names}
use Rattle.mini_context.specs.declared.listing.ScopeTables.{ScopeTables}
use Rattle.mini_context.specs.declared.mentions.Mentioned.TheVariants.{Nowhere}
use Rattle.mini_context.specs.declared.survey.Tables.{Tables}
use Rattle.mini_context.specs.Enclosing.{is_around}
use Rattle.mini_context.specs.Lists.{holds}
use Rattle.mini_context.specs.Outside.{is_mentioned_outside}
use Rattle.mini_context.specs.Mentioned.{is_outside, mentioned_at}
use Rattle.mini_context.specs.Tables.{mark_at, named, Marked}
use Rattle.mini_context.specs.Visits.{is_writing}

-- there is no mark in the tables of so many symbols
pub record Unmarked (n : ℕ) (f : Tables) : Type 0 where
  pub fixed : f.fixed.items ≡ replicate n false
  pub exchanged : f.exchanged.items ≡ replicate n false
  pub reached : f.reached.items ≡ replicate n false
  pub imported : f.imported.items ≡ replicate n false
  pub patterns : f.patterns.items ≡ replicate n false
  pub lexical : f.lexical.items ≡ replicate n false
  pub switched : f.switched.items ≡ replicate n false
  pub caught : f.caught.items ≡ replicate n false
  pub mentioned : f.mentioned.items ≡ replicate n Nowhere
  pub written : f.written.items ≡ replicate n Nowhere
  pub given : f.given.items ≡ replicate n Nowhere
  pub homes : f.homes.items ≡ replicate n []
  pub functions : f.enclosing.by_symbol.items ≡ replicate n []
  pub numbers : f.enclosing.by_number.items ≡ []
  pub this_events : f.this_events.items ≡ []
  pub arguments : f.arguments.items ≡ []

-- they tell of so many symbols of a tree
pub record Found (f : Tables) (n : ℕ) (t : Tree) : Type 0 where
  pub fixed_told : (s : ℕ) → s < n → mark_at f.fixed.items s ≡ is_among (named s) (fixed_names t)
  pub exchanged_told : (s : ℕ) → s < n → mark_at f.exchanged.items s ≡ is_among (named s) (module_names t)
  pub reached_told : (s : ℕ) → s < n → mark_at f.reached.items s ≡ is_among (named s) (reached_by_arguments false t)
  pub imported_told : (s : ℕ) → s < n → mark_at f.imported.items s ≡ is_among (named s) (imported_names t)
  pub patterns_told : (s : ℕ) → s < n → mark_at f.patterns.items s ≡ is_among (named s) (pattern_names t)
  pub lexical_told : (s : ℕ) → s < n → mark_at f.lexical.items s ≡ is_among (named s) (lexical_variables false t)
  pub switched_told : (s : ℕ) → s < n → mark_at f.switched.items s ≡ is_among (named s) (switched_names t)
  pub caught_told : (s : ℕ) → s < n → mark_at f.caught.items s ≡ is_among (named s) (caught t)
  pub mentioned_told : (s : ℕ) → s < n → (b : ℕ) → is_outside (mentioned_at f.mentioned.items s) b ≡ is_mentioned_outside t b (named s)
  pub written_told : (s : ℕ) → s < n → (b : ℕ) → is_outside (mentioned_at f.written.items s) b ≡ list_any (λ m. same_variable (named s) m.name && is_elsewhere b m.around) (filter is_writing (program_mentions t))
  pub given_told : (s : ℕ) → s < n → (b : ℕ) → is_outside (mentioned_at f.given.items s) b ≡ list_any (λ m. same_variable (named s) m.name && is_elsewhere b m.around) (program_var_writes t)
  pub homes_told : (s : ℕ) → s < n → (b : ℕ) → holds f.homes.items s b ≡ is_declared_in t b (named s)
  pub enclosed_told : (s : ℕ) → s < n → (b : ℕ) → is_around f.enclosing.by_symbol.items f.enclosing.by_number.items s b ≡ is_among (named s) (params_around b t)
  pub this_told : (b : ℕ) → mark_at f.this_events.items b ≡ this_has_event t b
  pub arguments_told : (b : ℕ) → mark_at f.arguments.items b ≡ has_arguments t b

-- the scopes of a tree, of so many symbols, and which of these the patterns of its `var`s write
pub record FoundScopes (f : ScopeTables) (written : List Bool) (n : ℕ) (t : Tree) : Type 0 where
  pub owners : (s : ℕ) → s < n → slice_index f.owners.items s ≡ scope_of_symbol t s
  pub strict : f.strict.items ≡ map (λ k. k.strict) (scopes_of t)
  pub evals : f.evals.items ≡ map (λ k. k.evals) (scopes_of t)
  pub seen : Marked (seen_by_eval t) (replicate n false) f.seen.items
  pub patterns : Marked (program_pattern_writes t) (replicate n false) written
