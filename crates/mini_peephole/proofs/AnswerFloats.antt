-- No float is written.
use Rattle.std.proofs.Common.{◌≡◌, ℕ, List, [], ◌∷◌, map, refl, false}
use Rattle.serde_json.specs.Data.{number, unsigned}
use Rattle.serde_json.specs.View.{view, items_of}
use Rattle.serde_json.specs.Written.{has_float, items_have_float}
use Rattle.mini_peephole.specs.declared.minify.Minified.{Minified}
use Rattle.mini_peephole.specs.Answer.{answer_data}

numbers_have_none : (ns : List ℕ) → items_have_float (items_of (map (λ n. number (unsigned n)) ns)) ≡ false
numbers_have_none [] = refl
numbers_have_none (n ∷ ns) = numbers_have_none ns

pub answer_has_none : (m : Minified) → has_float (view m.program) ≡ false → has_float (answer_data m) ≡ false
answer_has_none m plain = rw (numbers_have_none m.kept, plain, numbers_have_none m.symbols) refl
