-- What a parent reads of a tree of which some items go.
use Rattle.std.proofs.Common.{◌≡◌, ℕ, zero, suc, Bool, true, false, List, [], ◌∷◌, ◌++◌, Some, None, refl, sym, ap, ◌∙◌, true≢false}
use Rattle.mini_model.specs.declared.kind.VariableDeclarationKind.{VariableDeclarationKind}
use Rattle.mini_model.specs.declared.operator.UnaryOperator.TheVariants.{LogicalNot}
use Rattle.mini_model.specs.declared.shape.Shape.{Shape}
use Rattle.mini_model.specs.declared.shape.Shape.TheVariants as shape
use Rattle.mini_laws.specs.Value.{Variable, VariableSet, variable_of, variables, choose, variable_eq, is_in}
use Rattle.mini_laws.specs.State.{Environment}
use Rattle.mini_laws.specs.Command.{Hoisted}
use Rattle.mini_laws.specs.Naming.{FunctionFact, Named, NamedDefault, BareDefault, Summary, no_facts, first_facts, function_facts, as_default, nth_absent, facts_all, lets_all, lets_first, functions_all, functions_first, function_names, named_in, is_lexical, summary_of, summary, summaries, facts}
use Rattle.mini_laws.specs.Congruence.{ReadAlike}
use Rattle.mini_laws.proofs.Dead.{AllAlike, alike_self, all_alike_self, alike_cons, summary_alike}
use Rattle.mini_dead.specs.Creations.{FunctionSet}
use Rattle.mini_dead.specs.Pruned as pruned
use Rattle.mini_dead.specs.Pruned.{Spot, Elsewhere, Statements, AStatement, Declarators, CaseList, OneCase, Role, Plain, HasStatements, HasCases, StatementList, Declaration, DeclaratorList, CasesOf, CaseOf, role, spot_below, Pruned, prune, Prunings, end, stays, goes, declarator_goes, earlier, earlier_all, later, later_all, Declarator, declarator, declarator_tree, declarator_trees, function_item, declaration_item, lone_item, a_function, an_arrow, item_tree, ItemGoes, DeclaratorGoes, DeclaratorsGo, AnyDeclarator, HoldsItems, Prunes, PrunesAll}
use Rattle.mini_dead.proofs.Lean.{same_variables}
use Rattle.mini_dead.proofs.Creating.{Functions, no_functions, function_stays, function_goes, facts_before, before, facts_after, after, FunctionsGo}

abbrev joined : Functions → Functions → Functions
joined no_functions b = b
joined (function_stays f h a) b = function_stays f h (joined a b)
joined (function_goes x n a) b = function_goes x n (joined a b)

facts_before_joined : (a b : Functions) → facts_before (joined a b) ≡ facts_before a ++ facts_before b
facts_before_joined no_functions b = refl
facts_before_joined (function_stays f h a) b = ap (λ z. f ∷ z) (facts_before_joined a b)
facts_before_joined (function_goes x n a) b = ap (λ z. Named ∷ z) (facts_before_joined a b)

before_joined : (a b : Functions) → before (joined a b) ≡ before a ++ before b
before_joined no_functions b = refl
before_joined (function_stays f h a) b = ap (λ z. h ∷ z) (before_joined a b)
before_joined (function_goes x n a) b = ap (λ z. record { name = Some x; number = n } ∷ z) (before_joined a b)

facts_after_joined : (a b : Functions) → facts_after (joined a b) ≡ facts_after a ++ facts_after b
facts_after_joined no_functions b = refl
facts_after_joined (function_stays f h a) b = ap (λ z. f ∷ z) (facts_after_joined a b)
facts_after_joined (function_goes x n a) b = facts_after_joined a b

after_joined : (a b : Functions) → after (joined a b) ≡ after a ++ after b
after_joined no_functions b = refl
after_joined (function_stays f h a) b = ap (λ z. h ∷ z) (after_joined a b)
after_joined (function_goes x n a) b = after_joined a b

-- of one that is exported as default
default_fact : FunctionFact → FunctionFact
default_fact Named = NamedDefault
default_fact f = f

abbrev nothing_read : Summary
nothing_read = record { facts = no_facts; lets = []; name = None; functions = [] }

pub is_in_append : (x : Variable) (a b : List Variable) → is_in x (a ++ b) ≡ choose (is_in x a) true (is_in x b)
is_in_append x [] b = refl
is_in_append x (y ∷ a) b = go (is_in_append x a b) (variable_eq y x)
  where
    go : is_in x (a ++ b) ≡ choose (is_in x a) true (is_in x b) → (c : Bool) → choose c true (is_in x (a ++ b)) ≡ choose (choose c true (is_in x a)) true (is_in x b)
    go r true = refl
    go r false = r

module _ (d : FunctionSet) (D : VariableSet) (e : Environment) where
  joined_go : (a b : Functions) → FunctionsGo d D a → FunctionsGo d D b → FunctionsGo d D (joined a b)
  joined_go no_functions b g h = h
  joined_go (function_stays f k a) b g h = (g.0, joined_go a b g.1 h)
  joined_go (function_goes x n a) b g h = (g.0, g.1, joined_go a b g.2 h)

  -- it is read alike but for dead variables and for functions that go
  pub record Trimmed (i j : Summary) : Type 0 where
    pub absent : i.facts.absent ≡ j.facts.absent
    pub lets : (x : Variable) → D x ≡ false → is_in x i.lets ≡ is_in x j.lets
    pub created : Functions
    pub go : FunctionsGo d D created
    pub facts_first : i.facts.functions ≡ facts_before created
    pub first : i.functions ≡ before created
    pub facts_second : j.facts.functions ≡ facts_after created
    pub second : j.functions ≡ after created

  pub record AllTrimmed (is js : List Summary) : Type 0 where
    pub lets : (x : Variable) → D x ≡ false → is_in x (lets_all is) ≡ is_in x (lets_all js)
    pub created : Functions
    pub go : FunctionsGo d D created
    pub facts_first : function_facts (facts_all is) ≡ facts_before created
    pub first : functions_all is ≡ before created
    pub facts_second : function_facts (facts_all js) ≡ facts_after created
    pub second : functions_all js ≡ after created

  none_trimmed : AllTrimmed [] []
  none_trimmed = record { lets = λ x h. refl; created = no_functions; go = tt; facts_first = refl; first = refl; facts_second = refl; second = refl }

  cons_trimmed : (i j : Summary) (is js : List Summary) → Trimmed i j → AllTrimmed is js → AllTrimmed (i ∷ is) (j ∷ js)
  cons_trimmed i j is js a b = record {
    lets = λ x h. is_in_append x i.lets (lets_all is) ∙ ap (λ c. choose c true (is_in x (lets_all is))) (a.lets x h) ∙ ap (λ c. choose (is_in x j.lets) true c) (b.lets x h) ∙ sym (is_in_append x j.lets (lets_all js));
    created = joined a.created b.created;
    go = joined_go a.created b.created a.go b.go;
    facts_first = ap (λ z. z ++ function_facts (facts_all is)) a.facts_first ∙ ap (λ z. facts_before a.created ++ z) b.facts_first ∙ sym (facts_before_joined a.created b.created);
    first = ap (λ z. z ++ functions_all is) a.first ∙ ap (λ z. before a.created ++ z) b.first ∙ sym (before_joined a.created b.created);
    facts_second = ap (λ z. z ++ function_facts (facts_all js)) a.facts_second ∙ ap (λ z. facts_after a.created ++ z) b.facts_second ∙ sym (facts_after_joined a.created b.created);
    second = ap (λ z. z ++ functions_all js) a.second ∙ ap (λ z. after a.created ++ z) b.second ∙ sym (after_joined a.created b.created);
  }

  without_first : (i : Summary) (is js : List Summary) → AllTrimmed (i ∷ is) (nothing_read ∷ js) → AllTrimmed (i ∷ is) js
  without_first i is js w = record { lets = w.lets; created = w.created; go = w.go; facts_first = w.facts_first; first = w.first; facts_second = w.facts_second; second = w.second }

  other_name : (x y : Variable) → D x ≡ true → D y ≡ false → variable_eq x y ≡ false
  other_name x y p q = at (variable_eq x y) (same_variables x y)
    where
      at : (b : Bool) → (b ≡ true → x ≡ y) → b ≡ false
      at true f = absurd (true≢false (sym p ∙ ap D (f refl) ∙ q))
      at false f = refl

  -- the names of the functions
  names_go : (w : Functions) → FunctionsGo d D w → (y : Variable) → D y ≡ false → is_in y (function_names (before w)) ≡ is_in y (function_names (after w))
  names_go no_functions g y q = refl
  names_go (function_stays f h w) g y q = is_in_append y (named_in h.name) (function_names (before w)) ∙ ap (choose (is_in y (named_in h.name)) true) (names_go w g.1 y q) ∙ sym (is_in_append y (named_in h.name) (function_names (after w)))
  names_go (function_goes x n w) g y q = ap (λ b. choose b true (is_in y (function_names (before w)))) (other_name x y g.1 q) ∙ names_go w g.2 y q

  pub with_names : (is js : List Summary) → AllTrimmed is js → (x : Variable) → D x ≡ false → is_in x (lets_all is ++ function_names (functions_all is)) ≡ is_in x (lets_all js ++ function_names (functions_all js))
  with_names is js w x h =
      is_in_append x (lets_all is) (function_names (functions_all is)) ∙ ap (λ c. choose c true (is_in x (function_names (functions_all is)))) (w.lets x h)
      ∙ ap (choose (is_in x (lets_all js)) true) (ap (λ hs. is_in x (function_names hs)) w.first ∙ names_go w.created w.go x h ∙ sym (ap (λ hs. is_in x (function_names hs)) w.second))
      ∙ sym (is_in_append x (lets_all js) (function_names (functions_all js)))

  -- what goes

  declarator_trimmed : (lexical : Bool) (c : Declarator) → DeclaratorGoes d D e lexical c → Trimmed (summary (declarator_tree c)) nothing_read
  declarator_trimmed lexical (declarator n x m init) g = record { absent = refl; lets = λ y q. ap (λ b. choose b true false) (other_name (variable_of x) y g.0 q); created = no_functions; go = tt; facts_first = refl; first = refl; facts_second = refl; second = refl }

  declarators_lets : (lexical : Bool) (cs : List Declarator) → DeclaratorsGo d D e lexical cs → (y : Variable) → D y ≡ false → is_in y (lets_all (summaries (declarator_trees cs))) ≡ false
  declarators_lets lexical [] g y q = refl
  declarators_lets lexical (declarator n x m init ∷ cs) g y q = ap (λ b. choose b true (is_in y (lets_all (summaries (declarator_trees cs))))) (other_name (variable_of x) y g.0.0 q) ∙ declarators_lets lexical cs g.1 y q

  item_trimmed : (i : pruned.Item) → ItemGoes d D e i → Trimmed (summary (item_tree i)) nothing_read
  item_trimmed (function_item is_generator ds xs n x m ts) g = record { absent = refl; lets = λ y q. refl; created = function_goes (variable_of x) n no_functions; go = (g.0, g.1, tt); facts_first = refl; first = refl; facts_second = refl; second = refl }
  item_trimmed (declaration_item k xs n ys m c cs) g = record { absent = refl; lets = λ y q. at (is_lexical k) y (declarators_lets (is_lexical k) (c ∷ cs) g y q); created = no_functions; go = tt; facts_first = refl; first = refl; facts_second = refl; second = refl }
    where
      at : (b : Bool) (y : Variable) → is_in y (lets_all (summaries (declarator_trees (c ∷ cs)))) ≡ false → is_in y (choose b (lets_all (summaries (declarator_trees (c ∷ cs)))) []) ≡ false
      at true y p = p
      at false y p = refl
  item_trimmed (lone_item xs n f) g = record { absent = refl; lets = λ y q. refl; created = no_functions; go = tt; facts_first = refl; first = refl; facts_second = refl; second = refl }

  -- what stays as it was: its functions

  unfoldable Stay : List FunctionFact → List Hoisted → Type 0
  Stay [] [] = Unit {0}
  Stay (f ∷ fs) (h ∷ hs) = (d h.number ≡ false) × Stay fs hs
  Stay fs hs = ⊥

  stay_append : (fs gs : List FunctionFact) (hs ks : List Hoisted) → Stay fs hs → Stay gs ks → Stay (fs ++ gs) (hs ++ ks)
  unfolding Stay
  stay_append [] gs [] ks a b = b
  stay_append (f ∷ fs) gs (h ∷ hs) ks a b = (a.0, stay_append fs gs hs ks a.1 b)
  stay_append [] gs (h ∷ hs) ks a b = absurd a
  stay_append (f ∷ fs) gs [] ks a b = absurd a

  stay_default : (fs : List FunctionFact) (hs : List Hoisted) → Stay fs hs → Stay (as_default fs) hs
  unfolding Stay
  stay_default [] hs a = a
  stay_default (Named ∷ fs) (h ∷ hs) a = (a.0, stay_default fs hs a.1)
  stay_default (NamedDefault ∷ fs) (h ∷ hs) a = (a.0, stay_default fs hs a.1)
  stay_default (BareDefault ∷ fs) (h ∷ hs) a = (a.0, stay_default fs hs a.1)
  stay_default (f ∷ fs) [] a = absurd a

  record Staying (fs : List FunctionFact) (hs : List Hoisted) : Type 0 where
    functions : Functions
    go : FunctionsGo d D functions
    facts_first : fs ≡ facts_before functions
    first : hs ≡ before functions
    facts_second : fs ≡ facts_after functions
    second : hs ≡ after functions

  staying : (fs : List FunctionFact) (hs : List Hoisted) → Stay fs hs → Staying fs hs
  unfolding Stay
  staying [] [] a = record { functions = no_functions; go = tt; facts_first = refl; first = refl; facts_second = refl; second = refl }
  staying (f ∷ fs) (h ∷ hs) a =
      let w = staying fs hs a.1 in
      record { functions = function_stays f h w.functions; go = (a.0, w.go); facts_first = ap (λ z. f ∷ z) w.facts_first; first = ap (λ z. h ∷ z) w.first; facts_second = ap (λ z. f ∷ z) w.facts_second; second = ap (λ z. h ∷ z) w.second }
  staying [] (h ∷ hs) a = absurd a
  staying (f ∷ fs) [] a = absurd a

  as_it_was : (i j : Summary) → ReadAlike D e i j → Stay i.facts.functions i.functions → Trimmed i j
  as_it_was i j a p = let w = staying i.facts.functions i.functions p in
      record { absent = ap (λ f. f.absent) a.facts; lets = a.lets; created = w.functions; go = w.go; facts_first = w.facts_first; first = w.first; facts_second = sym (ap (λ f. f.functions) a.facts) ∙ w.facts_second; second = sym a.functions ∙ w.second }

  made_by : (h : Shape) (xs : List Variable) (n : ℕ) (is : List Summary) → d n ≡ false → Stay (function_facts (facts_all is)) (functions_all is) → Stay (first_facts (facts_all is)).functions (functions_first is) → Stay (summary_of h xs n is).facts.functions (summary_of h xs n is).functions
  unfolding Stay
  made_by (shape.UnaryExpression LogicalNot) xs n is k a b = b
  made_by shape.Listed xs n is k a b = a
  made_by (shape.Function true g ds) xs n is k a b = (k, tt)
  made_by (shape.Class true) xs n is k a b = tt
  made_by (shape.Class false) xs n is k a b = tt
  made_by shape.SwitchCase xs n is k a b = a
  made_by shape.ExportNamedDeclaration xs n is k a b = b
  made_by shape.ExportDefaultDeclaration xs n is k a b = stay_default _ _ b
  made_by h xs n is k a b = tt

  same_read : (i : Summary) → ReadAlike D e i i
  same_read i = alike_self D e i

  mutual
    pub alike : (x : Pruned) → Prunes d D e Elsewhere x → ReadAlike D e (summary (earlier x)) (summary (later x))
    alike (prune (shape.Program m ds) xs n ps) a = record { facts = refl; lets = λ x h. refl; shared_lets = refl; name = refl; functions = refl }
    alike (prune shape.FunctionBody xs n ps) a = record { facts = refl; lets = λ x h. refl; shared_lets = refl; name = refl; functions = refl }
    alike (prune shape.StaticBlock xs n ps) a = record { facts = refl; lets = λ x h. refl; shared_lets = refl; name = refl; functions = refl }
    alike (prune shape.BlockStatement xs n ps) a = record { facts = refl; lets = λ x h. refl; shared_lets = refl; name = refl; functions = refl }
    alike (prune shape.SwitchStatement xs n ps) a = record { facts = refl; lets = λ x h. refl; shared_lets = refl; name = refl; functions = refl }
    alike (prune h xs n ps) a = summary_alike D e h (variables xs) n (summaries (earlier_all ps)) (summaries (later_all ps)) (alikes 0 ps a.2)

    pub alikes : (i : ℕ) (ps : Prunings) → PrunesAll d D e Plain i ps → AllAlike D e (summaries (earlier_all ps)) (summaries (later_all ps))
    alikes i end a = all_alike_self D e []
    alikes i (stays x ps) a = alike_cons D e (summary (earlier x)) (summary (later x)) (summaries (earlier_all ps)) (summaries (later_all ps)) (alike x a.0) (alikes (suc i) ps a.1)
    alikes i (goes c ps) a = absurd a.0
    alikes i (declarator_goes c ps) a = absurd a.0

  mutual
    unfolding Stay

    stay : (x : Pruned) → Prunes d D e Elsewhere x → Stay (summary (earlier x)).facts.functions (summary (earlier x)).functions
    stay (prune (shape.Program m ds) xs n ps) a = tt
    stay (prune shape.FunctionBody xs n ps) a = tt
    stay (prune shape.StaticBlock xs n ps) a = tt
    stay (prune shape.BlockStatement xs n ps) a = tt
    stay (prune shape.SwitchStatement xs n ps) a = tt
    stay (prune h xs n ps) a = made_by h (variables xs) n (summaries (earlier_all ps)) a.1 (stay_all 0 ps a.2) (stay_first 0 ps a.2)

    stay_all : (i : ℕ) (ps : Prunings) → PrunesAll d D e Plain i ps → Stay (function_facts (facts (earlier_all ps))) (functions_all (summaries (earlier_all ps)))
    stay_all i end a = tt
    stay_all i (stays x ps) a = stay_append (summary (earlier x)).facts.functions _ (summary (earlier x)).functions _ (stay x a.0) (stay_all (suc i) ps a.1)
    stay_all i (goes c ps) a = absurd a.0
    stay_all i (declarator_goes c ps) a = absurd a.0

    stay_first : (i : ℕ) (ps : Prunings) → PrunesAll d D e Plain i ps → Stay (first_facts (facts (earlier_all ps))).functions (functions_first (summaries (earlier_all ps)))
    stay_first i end a = tt
    stay_first i (stays x ps) a = stay x a.0
    stay_first i (goes c ps) a = absurd a.0
    stay_first i (declarator_goes c ps) a = absurd a.0

  elsewhere : (x : Pruned) → Prunes d D e Elsewhere x → Trimmed (summary (earlier x)) (summary (later x))
  elsewhere x a = as_it_was _ _ (alike x a) (stay x a)

  any_trimmed : (r : Role) (c : Declarator) → AnyDeclarator d D e r c → Trimmed (summary (declarator_tree c)) nothing_read
  any_trimmed (DeclaratorList lexical) c a = declarator_trimmed lexical c a
  any_trimmed Plain c a = absurd a
  any_trimmed HasStatements c a = absurd a
  any_trimmed HasCases c a = absurd a
  any_trimmed StatementList c a = absurd a
  any_trimmed (Declaration lexical) c a = absurd a
  any_trimmed CasesOf c a = absurd a
  any_trimmed CaseOf c a = absurd a

  pub first_absent : (i : ℕ) (ps : Prunings) → PrunesAll d D e CaseOf i ps → i ≡ 0 → nth_absent (facts (earlier_all ps)) 0 ≡ nth_absent (facts (later_all ps)) 0
  first_absent i end a z = refl
  first_absent zero (stays x ps) a z = ap (λ f. f.absent) (alike x a.0).facts
  first_absent (suc i) (stays x ps) a z = cc
  first_absent i (goes c ps) a z = absurd a.0
  first_absent i (declarator_goes c ps) a z = absurd a.0

  listed_trimmed : (xs : List Variable) (n : ℕ) (is js : List Summary) → AllTrimmed is js → Trimmed (summary_of shape.Listed xs n is) (summary_of shape.Listed xs n js)
  listed_trimmed xs n is js w = record { absent = refl; lets = w.lets; created = w.created; go = w.go; facts_first = w.facts_first; first = w.first; facts_second = w.facts_second; second = w.second }

  case_trimmed : (xs : List Variable) (n : ℕ) (is js : List Summary) → nth_absent (facts_all is) 0 ≡ nth_absent (facts_all js) 0 → AllTrimmed is js → Trimmed (summary_of shape.SwitchCase xs n is) (summary_of shape.SwitchCase xs n js)
  case_trimmed xs n is js p w = record { absent = p; lets = w.lets; created = w.created; go = w.go; facts_first = w.facts_first; first = w.first; facts_second = w.facts_second; second = w.second }

  declaration_trimmed : (k : VariableDeclarationKind) (xs : List Variable) (n : ℕ) (is js : List Summary) → ((y : Variable) → D y ≡ false → is_in y (lets_first is) ≡ is_in y (lets_first js)) → Trimmed (summary_of (shape.VariableDeclaration k) xs n is) (summary_of (shape.VariableDeclaration k) xs n js)
  declaration_trimmed k xs n is js f = record { absent = refl; lets = λ y q. at (is_lexical k) y (f y q); created = no_functions; go = tt; facts_first = refl; first = refl; facts_second = refl; second = refl }
    where
      at : (b : Bool) (y : Variable) → is_in y (lets_first is) ≡ is_in y (lets_first js) → is_in y (choose b (lets_first is) []) ≡ is_in y (choose b (lets_first js) [])
      at true y p = p
      at false y p = refl

  mutual
    pub trimmed : (p : Spot) (x : Pruned) → Prunes d D e p x → Trimmed (summary (earlier x)) (summary (later x))
    trimmed Elsewhere x a = elsewhere x a
    trimmed Statements (prune shape.Listed xs n ps) a = listed_trimmed (variables xs) n _ _ (all_trimmed StatementList 0 ps a.2)
    trimmed (Declarators lexical) (prune shape.Listed xs n ps) a = listed_trimmed (variables xs) n _ _ (all_trimmed (DeclaratorList lexical) 0 ps a.2)
    trimmed CaseList (prune shape.Listed xs n ps) a = listed_trimmed (variables xs) n _ _ (all_trimmed CasesOf 0 ps a.2)
    trimmed OneCase (prune shape.SwitchCase xs n ps) a = case_trimmed (variables xs) n _ _ (first_absent 0 ps a.2 refl) (all_trimmed CaseOf 0 ps a.2)
    trimmed AStatement (prune (shape.VariableDeclaration k) xs n ps) a = declaration_trimmed k (variables xs) n (summaries (earlier_all ps)) (summaries (later_all ps)) (first_lets 0 ps (is_lexical k) a.2)
    trimmed p (prune h xs n ps) a = elsewhere (prune h xs n ps) a

    first_lets : (i : ℕ) (ps : Prunings) (b : Bool) → PrunesAll d D e (Declaration b) i ps → (y : Variable) → D y ≡ false → is_in y (lets_first (summaries (earlier_all ps))) ≡ is_in y (lets_first (summaries (later_all ps)))
    first_lets i end b a y q = refl
    first_lets i (stays x ps) b a y q = (trimmed (Declarators b) x a.0).lets y q
    first_lets i (goes c ps) b a y q = absurd a.0
    first_lets i (declarator_goes c ps) b a y q = absurd a.0

    pub all_trimmed : (r : Role) (i : ℕ) (ps : Prunings) → PrunesAll d D e r i ps → AllTrimmed (summaries (earlier_all ps)) (summaries (later_all ps))
    all_trimmed r i end a = none_trimmed
    all_trimmed r i (stays x ps) a = cons_trimmed _ _ _ _ (trimmed (spot_below r i) x a.0) (all_trimmed r (suc i) ps a.1)
    all_trimmed r i (goes c ps) a = without_first _ _ _ (cons_trimmed (summary (item_tree c)) nothing_read _ _ (item_trimmed c a.1) (all_trimmed r (suc i) ps a.2))
    all_trimmed r i (declarator_goes c ps) a = without_first _ _ _ (cons_trimmed (summary (declarator_tree c)) nothing_read _ _ (any_trimmed r c a.0) (all_trimmed r (suc i) ps a.1))
