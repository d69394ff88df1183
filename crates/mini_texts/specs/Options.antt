-- The words of the command line, and the orders that they give.
use Rattle.std.specs.Prelude.{◌≡◌, ℕ, ◌==◌, Bool, true, ◌&&◌, ◌||◌, List, [], ◌∷◌, codes}
use Rattle.std.specs.List.{starts_with}
use Rattle.mini_run.specs.Words.{Taken, NameOrders}
use Rattle.mini_peephole.specs.Answer.{to_read}
use Rattle.mini_texts.specs.declared.options.TextOrders.{TextOrders}

-- whether a word begins as one that names a depth
abbrev pub names_depth : List ℕ → Bool
names_depth w = starts_with ◌==◌ w (codes "--max-depth=")

abbrev pub all_name_depths : List (List ℕ) → Bool
all_name_depths [] = true
all_name_depths (w ∷ ws) = names_depth w && all_name_depths ws

-- The words give these orders: besides `--spaced` and `--minify`, which stand once or not at all,
-- they are words of the minifier that order to read; and where nothing is minified, the depth alone
-- is named.
pub record NameTextOrders (words : List (List ℕ)) (o : TextOrders) : Type 0 where
  pub unspaced : List (List ℕ)
  pub others : List (List ℕ)
  pub spaced : Taken (codes "--spaced") words unspaced o.spaced
  pub minify : Taken (codes "--minify") unspaced others o.minify
  pub allowed : (o.minify || all_name_depths others) ≡ true
  pub named : NameOrders others (to_read o.options)
