-- Lists: the items of each, in order.
use Rattle.std.specs.Prelude.{ℕ, zero, suc, Bool, false, List, [], ◌∷◌, length, Option, Some, None}
use Rattle.mini_laws.specs.Value.{Value, choose}
use Rattle.mini_laws.specs.Conversion.{to_text}
use Rattle.mini_laws.specs.Operators.{strictly_equal}
use Rattle.mini_laws.specs.State.{ForString, SpreadOf, Entry, Item, Spreaded}
use Rattle.mini_laws.specs.Demand.{Want, Val, Tail, Demand, As, AnEntry, Items, Parts, Texts, Stat, Declares, Binds, Heads, Cases, ACase, AskTest, AskBody, Request, Reply, Says}
use Rattle.mini_laws.specs.Command.{Command, ret, stuck, kid, then, attempt, bind, shift, emit}
use Rattle.mini_laws.specs.Naming.{Facts}
use Rattle.mini_laws.specs.Asking.{parts_demand, sequence_demand, tail_demand, list_demand}
use Rattle.mini_laws.specs.Replies.{of_made, primitive, merged}

-- ECMA-262, "ArgumentListEvaluation", "ArrayAccumulation", "PropertyDefinitionEvaluation"
abbrev pub entries : ℕ → Command (λ i. AnEntry) (List Entry)
entries zero = ret []
entries (suc n) = kid 0 tt (then (λ e. bind (shift {q = λ i. AnEntry} (entries n)) (λ es. ret (e ∷ es))))

-- ECMA-262, "Spread Element" of a list
abbrev pub spread_step : Command (λ i. As Val) Entry
spread_step = kid 0 tt (then (λ v. bind (emit SpreadOf (Item v ∷ [])) (λ w. ret (Spreaded w))))

-- ECMA-262, "Comma Operator": the parts of a sequence, of which the last gives the value
abbrev pub parts : (n : ℕ) (w : Want) → Command (parts_demand n w) (Says w)
parts zero w = kid 0 tt (then ret)
parts (suc n) w = kid 0 tt (then (λ u. shift {q = parts_demand (suc n) w} (parts n w)))

abbrev pub sequence : (n : ℕ) (w : Want) → Command (sequence_demand n w) (Says w)
sequence zero w = stuck
sequence (suc n) w = parts n w

-- ECMA-262, "Template Literals": each part is converted to a text before the next is evaluated
abbrev pub template_texts : ℕ → Command (λ i. As Val) (List (List ℕ))
template_texts zero = ret []
template_texts (suc n) = kid 0 tt (then (λ v. bind (primitive ForString v) (λ x. bind (of_made (to_text x)) (λ s. bind (shift {q = λ i. As Val} (template_texts n)) (λ ss. ret (s ∷ ss))))))

-- ECMA-262, "Block", evaluation of a StatementList
abbrev pub each : (n : ℕ) (t : Option Tail) → Command (tail_demand n t) (Unit {0})
each zero t = ret tt
each (suc n) t = kid 0 [] (then (λ u. shift {q = tail_demand (suc n) t} (each n t)))

-- ECMA-262, "Variable Statement" and "Let and Const Declarations": the declarators
abbrev pub declarators : ℕ → (lexical : Bool) → Command (λ i. Declares lexical) (Unit {0})
declarators zero lexical = ret tt
declarators (suc n) lexical = kid 0 tt (then (λ u. shift {q = λ i. Declares lexical} (declarators n lexical)))

-- the one declarator in the head of a loop, lexical or of a `var`
abbrev pub the_declarator : ℕ → (lexical : Bool) → Value → Command (λ i. Binds lexical) (Unit {0})
the_declarator (suc zero) lexical v = kid 0 v (then ret)
the_declarator n lexical v = stuck

abbrev pub the_head : ℕ → Option Value → Command (λ i. Heads) (Unit {0})
the_head (suc zero) r = kid 0 r (then ret)
the_head n r = stuck

-- ECMA-262, "The switch Statement", CaseBlockEvaluation: the tests in order up to one that equals
-- the value, then the statements from there, or from `default`

abbrev pub is_case : Value → Option Value → Bool
is_case v (Some w) = strictly_equal v w
is_case v None = false

-- of the cases from this place on, which are known to have tests or not
abbrev pub test_cases : Value → List Facts → ℕ → Command (λ i. ACase) (Option ℕ)
test_cases v [] i = ret None
test_cases v (f ∷ fs) i = choose f.absent (test_cases v fs (suc i)) (kid i AskTest (then (λ w. choose (is_case v w) (ret (Some i)) (test_cases v fs (suc i)))))

abbrev pub default_case : List Facts → ℕ → Option ℕ
default_case [] i = None
default_case (f ∷ fs) i = choose f.absent (Some i) (default_case fs (suc i))

abbrev pub or_default : Option ℕ → Option ℕ → Option ℕ
or_default (Some i) d = Some i
or_default None d = d

-- of this many cases, after so many that are passed over
abbrev pub case_bodies : ℕ → ℕ → ℕ → Command (λ i. ACase) (Unit {0})
case_bodies zero passed_over i = ret tt
case_bodies (suc n) zero i = kid i AskBody (then (λ u. case_bodies n zero (suc i)))
case_bodies (suc n) (suc passed_over) i = case_bodies n passed_over (suc i)

abbrev pub enter_case : ℕ → Option ℕ → Command (λ i. ACase) (Unit {0})
enter_case n None = ret tt
enter_case n (Some i) = case_bodies n i 0

abbrev pub cases : List Facts → Value → Command (λ i. ACase) (Unit {0})
cases fs v = bind (test_cases v fs 0) (λ found. enter_case (length fs) (or_default found (default_case fs 0)))

abbrev pub list_step : (fs : List Facts) (q : Demand) (r : Request q) → Command (list_demand (length fs) q) (Reply q r)
list_step fs (Stat t) r = attempt (each (length fs) t) (merged t)
list_step fs Items r = entries (length fs)
list_step fs (Parts w) r = sequence (length fs) w
list_step fs Texts r = template_texts (length fs)
list_step fs (Declares lexical) r = declarators (length fs) lexical
list_step fs (Binds lexical) v = the_declarator (length fs) lexical v
list_step fs Heads r = the_head (length fs) r
list_step fs Cases v = cases fs v
list_step fs q r = stuck
