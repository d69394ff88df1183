-- Where a symbol is mentioned, in short: enough to tell of each body whether it is mentioned
-- outside it.
use Rattle.std.specs.Prelude.{ℕ, ◌≡◌, ◌<◌, nat_eq, Bool, true, false, not, ◌&&◌, ◌||◌, List, length, slice_index_or}
use Rattle.std.specs.List.{list_any}
use Rattle.mini_laws.specs.Mentions.{Mention, same_variable, is_elsewhere}
use Rattle.mini_context.specs.declared.mentions.Mentioned.{Mentioned}
use Rattle.mini_context.specs.declared.mentions.Mentioned.TheVariants as mentioned
use Rattle.mini_context.specs.Tables.{named}

-- in another body than this, or in a carried node
abbrev pub is_outside : Mentioned → ℕ → Bool
is_outside mentioned.Nowhere b = false
is_outside (mentioned.In n) b = not (nat_eq n b)
is_outside mentioned.Widely b = true

-- anywhere
abbrev pub is_somewhere : Mentioned → Bool
is_somewhere mentioned.Nowhere = false
is_somewhere m = true

abbrev pub mentioned_at : List Mentioned → ℕ → Mentioned
mentioned_at ms s = slice_index_or ms s mentioned.Nowhere

-- these mentions were added to what is known of each symbol
pub record Joined (ms : List Mention) (old new : List Mentioned) : Type 0 where
  pub symbols : length new ≡ length old
  pub each : (s : ℕ) → s < length old → (b : ℕ) → is_outside (mentioned_at new s) b ≡ (is_outside (mentioned_at old s) b || list_any (λ m. same_variable (named s) m.name && is_elsewhere b m.around) ms)
