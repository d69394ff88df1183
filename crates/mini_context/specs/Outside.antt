-- Where a variable is mentioned outside a body.
use Rattle.std.specs.Prelude.{ℕ, ◌&&◌, Bool}
use Rattle.std.specs.List.{list_any}
use Rattle.mini_model.specs.declared.name.Name.{Name}
use Rattle.mini_model.specs.Tree.{Tree}
use Rattle.mini_laws.specs.Mentions.{is_elsewhere, program_mentions, same_variable}

-- whether another body than this, or a carried node, mentions a variable
abbrev pub is_mentioned_outside : Tree → ℕ → Name → Bool
is_mentioned_outside t b x = list_any (λ m. same_variable x m.name && is_elsewhere b m.around) (program_mentions t)
