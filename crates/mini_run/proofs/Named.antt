-- Words name one choice of options, in any order of theirs.
use Rattle.std.proofs.Common.{◌≡◌, ℕ, ◌≤◌, List, [], ◌∷◌, map, get_or, drop, Bool, true, false, refl, sym, ap, ap₂, subst, ◌∙◌}
use Rattle.std.specs.Prelude.{Option, Some, ◌==◌, IfSome, if◌then◌else◌}
use Rattle.mini_run.specs.declared.choice.Choice.TheVariants as choice
use Rattle.std.specs.List.{AllByRecursion}
use Rattle.mini_tree.specs.declared.options.CompressOptions.{CompressOptions}
use Rattle.mini_run.specs.declared.choice.Choice.{Choice}
use Rattle.mini_run.specs.declared.choice.Orders.{Orders}
use Rattle.mini_run.specs.Words.{spelling, chosen, ordered, IsAllowed, NameOptions, NameOrders, GoodWords, option_of, number_of, named}
use Rattle.mini_run.proofs.Spelled.{spelling_tells}

pub good_of : (words : List (List ℕ)) (o : CompressOptions) → NameOptions words o → GoodWords words
good_of words o (cs, s, is) = (cs, s)

choices_one : (cs ds : List Choice) → AllByRecursion IsAllowed cs → AllByRecursion IsAllowed ds → map spelling cs ≡ map spelling ds → cs ≡ ds
choices_one [] [] all all' same = refl
choices_one [] (d ∷ ds) all all' same = absurd (cc same)
choices_one (c ∷ cs) [] all all' same = absurd (cc same)
choices_one (c ∷ cs) (d ∷ ds) all all' same = ap₂ ◌∷◌ (spelling_tells c d all.0 all'.0 (ap (λ l. get_or l 0 []) same)) (choices_one cs ds all.1 all'.1 (ap (drop 1) same))

pub names_one : (words : List (List ℕ)) (o o' : CompressOptions) → NameOptions words o → NameOptions words o' → o ≡ o'
names_one words o o' (cs, s, is) (ds, s', is') = is ∙ ap chosen (choices_one cs ds s.allowed s'.allowed (sym s.spelled ∙ s'.spelled)) ∙ sym is'

pub orders_one : (words : List (List ℕ)) (r r' : Orders) → NameOrders words r → NameOrders words r' → r ≡ r'
orders_one words r r' (cs, s, is) (ds, s', is') = is ∙ ap ordered (choices_one cs ds s.allowed s'.allowed (sym s.spelled ∙ s'.spelled)) ∙ sym is'

pub options_named : (words : List (List ℕ)) (r : Orders) → NameOrders words r → NameOptions words r.options
options_named words r (cs, s, is) = (cs, s, ap (λ r. r.options) is)

-- ---- no more statements are asked for than may be

small_choice : (c : Choice) → IsAllowed c → (option_of c == 8) ≡ true → number_of c ≤ 2000
small_choice (choice.Generate n) small e = small
small_choice c small e = absurd (cc e)

one_named : (b : Bool) (c : Choice) (o : Option ℕ) → (b ≡ true → number_of c ≤ 2000) → IfSome o (λ n. n ≤ 2000) → IfSome (if b then Some (number_of c) else o) (λ n. n ≤ 2000)
one_named true c o small rest = small refl
one_named false c o small rest = rest

few_named : (cs : List Choice) → AllByRecursion IsAllowed cs → IfSome (named 8 cs) (λ n. n ≤ 2000)
few_named [] all = tt
few_named (c ∷ cs) all = one_named (option_of c == 8) c (named 8 cs) (small_choice c all.0) (few_named cs all.1)

-- and no later edition

year_choice : (c : Choice) → IsAllowed c → (option_of c == 9) ≡ true → number_of c ≤ 2022
year_choice (choice.Edition n) small e = small.1
year_choice c small e = absurd (cc e)

year_named : (b : Bool) (c : Choice) (o : Option ℕ) → (b ≡ true → number_of c ≤ 2022) → IfSome o (λ n. n ≤ 2022) → IfSome (if b then Some (number_of c) else o) (λ n. n ≤ 2022)
year_named true c o small rest = small refl
year_named false c o small rest = rest

pub no_later : (cs : List Choice) → AllByRecursion IsAllowed cs → IfSome (named 9 cs) (λ n. n ≤ 2022)
no_later [] all = tt
no_later (c ∷ cs) all = year_named (option_of c == 9) c (named 9 cs) (year_choice c all.0) (no_later cs all.1)

pub few_ordered : (words : List (List ℕ)) (r : Orders) → NameOrders words r → IfSome r.generate (λ n. n ≤ 2000)
few_ordered words r (cs, s, is) = subst (λ r. IfSome r.generate (λ n. n ≤ 2000)) (sym is) (few_named cs s.allowed)

pub good_orders : (words : List (List ℕ)) (r : Orders) → NameOrders words r → GoodWords words
good_orders words r (cs, s, is) = (cs, s)
