-- What a look at a program tells of its bodies it tells of the program with other symbols and
-- numbers.
use Rattle.std.specs.Prelude.{◌≡◌, refl, ℕ, Bool, false, not, ◌&&◌}
use Rattle.std.specs.List.{list_any}
use Rattle.std.proofs.Common.{ap, ◌∙◌}
use Rattle.mini_model.specs.Tree.{Tree}
use Rattle.mini_laws.specs.Bodies.{bodies_in}
use Rattle.mini_laws.specs.Foreign.{lexical_variables}
use Rattle.mini_laws.specs.Mentions.{is_among}
use Rattle.mini_laws.specs.Renaming.{TellsApart, rename_variable}
use Rattle.mini_laws.specs.Shared.{is_shared}
use Rattle.mini_laws.specs.Value.{Variable, Declared, Global}
use Rattle.mini_context.specs.Asking.{asks_as}
use Rattle.mini_context.specs.Tables.{named}
use Rattle.mini_steady.specs.Told.{is_steady_in_body, of_symbols, told_in}
use Rattle.mini_again.specs.Again.{Renaming, again, other_number}
use Rattle.mini_again.specs.Families.{HasOtherSets, body_again}
use Rattle.mini_again.proofs.BodiesAgain.{bodies_again}
use Rattle.mini_again.proofs.ForeignAgain.{assigned_again, told_survives}
use Rattle.mini_again.proofs.MentionsAgain.{any_again, same_number_again}

of_symbols_again : (ρ : Renaming) (p q : ℕ → Bool) → ((s : ℕ) → q (ρ.symbol s) ≡ p s) → (x : Variable) → of_symbols q (rename_variable ρ.symbol x) ≡ of_symbols p x
of_symbols_again ρ p q e (Declared s) = e s
of_symbols_again ρ p q e (Global s) = refl

pub told_again : (ρ : Renaming) → TellsApart ρ.number → (t : Tree) → HasOtherSets ρ (told_in t) (told_in (again ρ t))
told_again ρ far t b =
    let told = told_survives ρ far t in
    let c = other_number ρ b in
    let u = again ρ t in
    let stays : (s : ℕ) → is_steady_in_body u c (ρ.symbol s) ≡ is_steady_in_body t b s = λ s. λ i. not (assigned_again ρ t (named s) i) && not (told.foreign b (named s) i) in
    let shows : (s : ℕ) → not (is_shared u c (named (ρ.symbol s))) ≡ not (is_shared t b (named s)) = λ s. ap not (told.shared b (named s)) in
    let begins : (s : ℕ) → (is_steady_in_body u c (ρ.symbol s) && not (is_among (named (ρ.symbol s)) (lexical_variables false u))) ≡ (is_steady_in_body t b s && not (is_among (named s) (lexical_variables false t))) = λ s. λ i. stays s i && not (told.lexical false (named s) i) in
    let asks : list_any (asks_as c) (bodies_in u) ≡ list_any (asks_as b) (bodies_in t) =
    ap (list_any (asks_as c)) (bodies_again ρ t) ∙ any_again (body_again ρ) (asks_as c) (asks_as b) (λ d. ap (λ n. n && d.asks_this) (same_number_again ρ far d.number b)) (bodies_in t) in
    λ i. record {
      steady = λ x. of_symbols_again ρ (is_steady_in_body t b) (is_steady_in_body u c) stays x i;
      unshared = λ x. of_symbols_again ρ (λ s. not (is_shared t b (named s))) (λ s. not (is_shared u c (named s))) shows x i;
      initial = λ x. of_symbols_again ρ (λ s. is_steady_in_body t b s && not (is_among (named s) (lexical_variables false t))) (λ s. is_steady_in_body u c s && not (is_among (named s) (lexical_variables false u))) begins x i;
      has_this = not (asks i);
    }
