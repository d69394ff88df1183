-- A program that loses dead items gets lighter, by at least one for each.
use Rattle.std.proofs.Common.{◌≡◌, ℕ, zero, suc, ◌+◌, ◌≤◌, Bool, true, false, List, [], ◌∷◌, length, refl, sym, ap, ◌∙◌, subst, arith, true≢false}
use Rattle.std.specs.Prelude.{◌&&◌, not}
use Rattle.mini_model.specs.declared.name.Name.{Name}
use Rattle.mini_model.specs.declared.place.Position.{Position}
use Rattle.mini_model.specs.declared.place.Position.TheVariants as place
use Rattle.mini_model.specs.declared.seat.StmtSeat.TheVariants as stmt_seat
use Rattle.mini_model.specs.declared.shape.Shape.{Shape}
use Rattle.mini_model.specs.declared.shape.Shape.TheVariants as shape
use Rattle.mini_model.specs.Position.{seat_at, child_position}
use Rattle.mini_model.specs.Tree.{Tree, count}
use Rattle.mini_model.specs.Weight.{Outline, outline, outlines, one_chooses, first_chooses, first_is_zero, nth_is_absent, nth_items, commas_weight, own_weight, weight, weights, program_weight}
use Rattle.mini_laws.specs.Value.{VariableSet}
use Rattle.mini_laws.specs.Weights.{is_block, is_consequent, is_void, when, counts_items}
use Rattle.mini_laws.proofs.Outlines.{Alike, own_falls}
use Rattle.mini_dead.specs.Pruned.{Spot, Elsewhere, Statements, AStatement, Declarators, CaseList, OneCase, Role, Plain, StatementList, DeclaratorList, CasesOf, role, spot_below, declarator, Declarator, declarator_tree, declarator_trees, Item, function_item, declaration_item, lone_item, item_tree, Pruned, prune, Prunings, end, stays, goes, declarator_goes, earlier, earlier_all, later, later_all, HoldsItems, HoldsDeclarators}
use Rattle.mini_dead.specs.Drops.{item_count, gone_count, all_gone_count, gone, DropsDead, AllDropDead, Drops, DropsAgain, nothing_goes, more_goes}

-- ---- places

-- a list from which items go stands where one of statements does, and one of declarators as such
abbrev Agrees : Spot → Position → Type 0
Agrees Statements place.StatementList = Unit {0}
Agrees Statements place.BodyList = Unit {0}
Agrees Statements q = ⊥
Agrees (Declarators lexical) place.CommaList = Unit {0}
Agrees (Declarators lexical) q = ⊥
Agrees s q = Unit {0}

below : (h : Shape) (s : Spot) (q : Position) (n i : ℕ) → Agrees (spot_below (role h s) i) (child_position h q n i)
below (shape.Program is_module directives) s q n i = tt
below shape.FunctionBody s q n i = tt
below shape.StaticBlock s q n i = tt
below shape.BlockStatement s q n i = tt
below shape.SwitchStatement s q n zero = tt
below shape.SwitchStatement s q n (suc i) = tt
below shape.Listed Statements q n i = tt
below shape.Listed CaseList q n i = tt
below shape.Listed (Declarators lexical) q n i = tt
below shape.Listed s q n i = tt
below (shape.VariableDeclaration k) AStatement q n i = tt
below (shape.VariableDeclaration k) s q n i = tt
below shape.SwitchCase OneCase q n zero = tt
below shape.SwitchCase OneCase q n (suc i) = tt
below shape.SwitchCase s q n i = tt
below h s q n i = tt

-- ---- outlines

-- a list from which something goes has another number of items
abbrev SameItems : Spot → Outline → Outline → Type 0
SameItems Statements o u = Unit {0}
SameItems (Declarators lexical) o u = Unit {0}
SameItems s o u = o.items ≡ u.items

record Outlined (s : Spot) (o u : Outline) : Type 0 where
  pub absent : o.absent ≡ u.absent
  pub zero_still : o.is_zero ≡ u.is_zero
  pub chooses : o.chooses ≡ true → u.chooses ≡ true
  pub items : SameItems s o u

abbrev AllOutlined : Role → ℕ → List Outline → List Outline → Type 0
AllOutlined r i [] [] = Unit {0}
AllOutlined r i (o ∷ os) (u ∷ us) = Outlined (spot_below r i) o u × AllOutlined r (suc i) os us
AllOutlined r i os us = ⊥

-- nothing goes from the children of a node with another role
abbrev Fixed : Role → Type 0
Fixed StatementList = ⊥
Fixed (DeclaratorList lexical) = ⊥
Fixed r = Unit {0}

no_item : (r : Role) → Fixed r → HoldsItems r → ⊥
no_item StatementList f h = f
no_item r f h = h

no_declarator : (r : Role) → Fixed r → HoldsDeclarators r → ⊥
no_declarator (DeclaratorList lexical) f h = f
no_declarator r f h = h

item_chooses : (i : Item) → (outline (item_tree i)).chooses ≡ false
item_chooses (function_item g ds xs n x m ts) = refl
item_chooses (declaration_item k xs n ys m c cs) = refl
item_chooses (lone_item xs n f) = refl

declarator_chooses : (c : Declarator) → (outline (declarator_tree c)).chooses ≡ false
declarator_chooses (declarator n x m init) = refl

sizes : (r : Role) (i : ℕ) (os us : List Outline) → AllOutlined r i os us → length os ≡ length us
sizes r i [] [] a = refl
sizes r i (o ∷ os) (u ∷ us) a = ap suc (sizes r (suc i) os us a.1)
sizes r i [] (u ∷ us) a = absurd a
sizes r i (o ∷ os) [] a = absurd a

absents : (r : Role) (i : ℕ) (os us : List Outline) → AllOutlined r i os us → (j : ℕ) → nth_is_absent os j ≡ nth_is_absent us j
absents r i [] [] a j = refl
absents r i (o ∷ os) (u ∷ us) a zero = a.0.absent
absents r i (o ∷ os) (u ∷ us) a (suc j) = absents r (suc i) os us a.1 j
absents r i [] (u ∷ us) a j = absurd a
absents r i (o ∷ os) [] a j = absurd a

-- where items are counted, none goes
counted : (s : Spot) (q : Position) (o u : Outline) → Agrees s q → SameItems s o u → counts_items q ≡ true → o.items ≡ u.items
counted Statements place.StatementList o u g e c = absurd (true≢false (sym c))
counted Statements place.BodyList o u g e c = absurd (true≢false (sym c))
counted Statements q o u g e c = absurd g
counted (Declarators lexical) place.CommaList o u g e c = absurd (true≢false (sym c))
counted (Declarators lexical) q o u g e c = absurd g
counted s q o u g e c = e

items_same : (r : Role) (i : ℕ) (os us : List Outline) (π : ℕ → Position) → ((j k : ℕ) → k ≡ i + j → Agrees (spot_below r k) (π j)) → AllOutlined r i os us → (j : ℕ) → counts_items (π j) ≡ true → nth_items os j ≡ nth_items us j
items_same r i [] [] π g a j c = refl
items_same r i (o ∷ os) (u ∷ us) π g a zero c = counted (spot_below r i) (π 0) o u (g 0 i (omega arith)) a.0.items c
items_same r i (o ∷ os) (u ∷ us) π g a (suc j) c = items_same r (suc i) os us (λ k. π (suc k)) (λ j k e. g (suc j) k (omega (arith, e))) a.1 j c
items_same r i [] (u ∷ us) π g a j c = absurd a
items_same r i (o ∷ os) [] π g a j c = absurd a

zeros : (r : Role) (i : ℕ) (os us : List Outline) → AllOutlined r i os us → first_is_zero os ≡ first_is_zero us
zeros r i [] [] a = refl
zeros r i (o ∷ os) (u ∷ us) a = a.0.zero_still
zeros r i [] (u ∷ us) a = absurd a
zeros r i (o ∷ os) [] a = absurd a

first_still : (r : Role) (i : ℕ) (os us : List Outline) → AllOutlined r i os us → first_chooses os ≡ true → first_chooses us ≡ true
first_still r i [] [] a e = e
first_still r i (o ∷ os) (u ∷ us) a e = a.0.chooses e
first_still r i [] (u ∷ us) a e = absurd a
first_still r i (o ∷ os) [] a e = absurd a

plain_items : (s : Spot) (o u : Outline) → o.items ≡ u.items → SameItems s o u
plain_items Statements o u e = tt
plain_items (Declarators lexical) o u e = tt
plain_items s o u e = e

module _ (t : Tree) (D : VariableSet) (rounds : ℕ → ℕ) where
  mutual
    outlined : (p : Pruned) (s : Spot) → DropsDead t D rounds s p → Outlined s (outline (earlier p)) (outline (later p))
    outlined (prune shape.Listed xs n ps) Statements d = record { absent = refl; zero_still = refl; chooses = chosen StatementList ps d.1; items = tt }
    outlined (prune shape.Listed xs n ps) (Declarators lexical) d = record { absent = refl; zero_still = refl; chooses = chosen (DeclaratorList lexical) ps d.1; items = tt }
    outlined (prune shape.Listed xs n ps) Elsewhere d = record { absent = refl; zero_still = refl; chooses = chosen Plain ps d.1; items = sizes Plain 0 _ _ (all_outlined Plain tt 0 ps d.1) }
    outlined (prune shape.Listed xs n ps) AStatement d = record { absent = refl; zero_still = refl; chooses = chosen Plain ps d.1; items = sizes Plain 0 _ _ (all_outlined Plain tt 0 ps d.1) }
    outlined (prune shape.Listed xs n ps) CaseList d = record { absent = refl; zero_still = refl; chooses = chosen CasesOf ps d.1; items = sizes CasesOf 0 _ _ (all_outlined CasesOf tt 0 ps d.1) }
    outlined (prune shape.Listed xs n ps) OneCase d = record { absent = refl; zero_still = refl; chooses = chosen Plain ps d.1; items = sizes Plain 0 _ _ (all_outlined Plain tt 0 ps d.1) }
    outlined (prune shape.IfStatement xs n ps) s d =
        let same = absents Plain 0 _ _ (all_outlined Plain tt 0 ps d.1) 2 in
        record { absent = refl; zero_still = refl; chooses = λ e. sym (ap not same) ∙ e; items = plain_items s _ _ refl }
    outlined (prune h xs n ps) s d = record { absent = refl; zero_still = refl; chooses = λ e. e; items = plain_items s _ _ refl }

    all_outlined : (r : Role) → Fixed r → (i : ℕ) (ps : Prunings) → AllDropDead t D rounds r i ps → AllOutlined r i (outlines (earlier_all ps)) (outlines (later_all ps))
    all_outlined r f i end d = tt
    all_outlined r f i (stays p ps) d = (outlined p (spot_below r i) d.0, all_outlined r f (suc i) ps d.1)
    all_outlined r f i (goes c ps) d = absurd (no_item r f d.0)
    all_outlined r f i (declarator_goes c ps) d = absurd (no_declarator r f d.0)

    -- a list of one `if` with `else` alone keeps it
    chosen : (r : Role) (ps : Prunings) → AllDropDead t D rounds r 0 ps → one_chooses (outlines (earlier_all ps)) ≡ true → one_chooses (outlines (later_all ps)) ≡ true
    chosen r end d e = e
    chosen r (stays p end) d e = (outlined p (spot_below r 0) d.0).chooses e
    chosen r (stays p (stays q ps)) d e = absurd (true≢false (sym e))
    chosen r (stays p (goes c ps)) d e = absurd (true≢false (sym e))
    chosen r (stays p (declarator_goes c ps)) d e = absurd (true≢false (sym e))
    chosen r (goes c end) d e = absurd (true≢false (sym e ∙ item_chooses c))
    chosen r (goes c (stays q ps)) d e = absurd (true≢false (sym e))
    chosen r (goes c (goes b ps)) d e = absurd (true≢false (sym e))
    chosen r (goes c (declarator_goes b ps)) d e = absurd (true≢false (sym e))
    chosen r (declarator_goes c end) d e = absurd (true≢false (sym e ∙ declarator_chooses c))
    chosen r (declarator_goes c (stays q ps)) d e = absurd (true≢false (sym e))
    chosen r (declarator_goes c (goes b ps)) d e = absurd (true≢false (sym e))
    chosen r (declarator_goes c (declarator_goes b ps)) d e = absurd (true≢false (sym e))

-- ---- what goes weighs something

declarator_weighs : (c : Declarator) → 1 ≤ weight place.Elsewhere (declarator_tree c)
declarator_weighs (declarator n x m init) = omega arith

declarators_weigh : (cs : List Declarator) → length cs ≤ weights (λ i. place.Elsewhere) (declarator_trees cs)
declarators_weigh [] = omega arith
declarators_weigh (c ∷ cs) = let one = declarator_weighs c in let others = declarators_weigh cs in omega (arith, one, others)

item_weighs : (i : Item) → item_count i ≤ weight (place.Stmt stmt_seat.List) (item_tree i)
item_weighs (function_item g ds xs n x m ts) = omega arith
item_weighs (declaration_item k xs n ys m c cs) = let all = declarators_weigh (c ∷ cs) in omega (arith, all)
item_weighs (lone_item xs n f) = omega arith

fewer_commas : (os us : List Outline) → length us ≤ length os → commas_weight us ≤ commas_weight os
fewer_commas os [] e = omega arith
fewer_commas os (u ∷ []) e = omega arith
fewer_commas [] (u ∷ (v ∷ us)) e = absurd (omega (arith, e))
fewer_commas (o ∷ []) (u ∷ (v ∷ us)) e = absurd (omega (arith, e))
fewer_commas (o ∷ (p ∷ os)) (u ∷ (v ∷ us)) e = let rest = fewer_commas (p ∷ os) (v ∷ us) (omega (arith, e)) in omega (arith, rest)

fewer : (ps : Prunings) → length (outlines (later_all ps)) ≤ length (outlines (earlier_all ps))
fewer end = omega arith
fewer (stays p ps) = let rest = fewer ps in omega (arith, rest)
fewer (goes c ps) = let rest = fewer ps in omega (arith, rest)
fewer (declarator_goes c ps) = let rest = fewer ps in omega (arith, rest)

no_more_when : (a b c : Bool) (n : ℕ) → c ≡ false → when (a && (b && c)) n ≡ 0
no_more_when true true c n e = ap (λ k. when k n) e
no_more_when true false c n e = refl
no_more_when false b c n e = refl

stops : (b c : Bool) → (b ≡ true → c ≡ true) → (b && not c) ≡ false
stops true c f = ap not (f refl)
stops false c f = refl

starts : (b c : Bool) → b ≡ c → (not b && c) ≡ false
starts true c e = refl
starts false c e = sym e

agree : (h : Shape) (s : Spot) (q : Position) (n j k : ℕ) → k ≡ 0 + j → Agrees (spot_below (role h s) k) (child_position h q n j)
agree h s q n j k e = let same : k ≡ j = omega (arith, e) in subst (λ k. Agrees (spot_below (role h s) k) (child_position h q n j)) (sym same) (below h s q n j)

-- ---- the whole

module _ (t : Tree) (D : VariableSet) (rounds : ℕ → ℕ) where
  counts : (r : Role) → Fixed r → (i : ℕ) (ps : Prunings) → AllDropDead t D rounds r i ps → count (later_all ps) ≡ count (earlier_all ps)
  counts r f i end d = refl
  counts r f i (stays p ps) d = ap suc (counts r f (suc i) ps d.1)
  counts r f i (goes c ps) d = absurd (no_item r f d.0)
  counts r f i (declarator_goes c ps) d = absurd (no_declarator r f d.0)

  own_lighter : (h : Shape) (xs : List Name) (ps : Prunings) (s : Spot) (q : Position) → Fixed (role h s) → AllDropDead t D rounds (role h s) 0 ps → own_weight q h xs (outlines (later_all ps)) ≤ own_weight q h xs (outlines (earlier_all ps))
  own_lighter h xs ps s q f d =
      let os = outlines (earlier_all ps) in
      let us = outlines (later_all ps) in
      let n = count (earlier_all ps) in
      let r = role h s in
      let all = all_outlined t D rounds r f 0 ps d in
      let alike : Alike (child_position h q n) os us = record {
        size = sizes r 0 os us all;
        absent = λ i e. absents r 0 os us all i;
        items = items_same r 0 os us (child_position h q n) (agree h s q n) all;
      } in
      let falls = own_falls n xs os us q h alike in
      let braces = no_more_when (is_block h) (is_consequent q) (first_chooses os && not (first_chooses us)) 4 (stops (first_chooses os) (first_chooses us) (first_still r 0 os us all)) in
      let zeroed = no_more_when (is_void h) ((seat_at q).eq_left) (not (first_is_zero os) && first_is_zero us) 1 (starts (first_is_zero os) (first_is_zero us) (zeros r 0 os us all)) in
      omega (arith, falls, braces, zeroed)

  -- children that get lighter by what goes from them make the node so
  over_children : (h : Shape) (xs : List Name) (n : ℕ) (ps : Prunings) (s : Spot) (q : Position) → Fixed (role h s) → AllDropDead t D rounds (role h s) 0 ps → weights (child_position h q (count (earlier_all ps))) (later_all ps) + all_gone_count ps ≤ weights (child_position h q (count (earlier_all ps))) (earlier_all ps) → weight q (later (prune h xs n ps)) + all_gone_count ps ≤ weight q (earlier (prune h xs n ps))
  over_children h xs n ps s q f d under =
      let own = own_lighter h xs ps s q f d in
      let same = ap (λ k. weights (child_position h q k) (later_all ps)) (counts (role h s) f 0 ps d) in
      omega (arith, own, same, under)

  mutual
    lighter : (p : Pruned) (s : Spot) (q : Position) → Agrees s q → DropsDead t D rounds s p → weight q (later p) + gone_count p ≤ weight q (earlier p)
    lighter (prune shape.Listed xs n ps) Statements place.StatementList g d = let rest = statements_lighter 0 ps d.1 in omega (arith, rest)
    lighter (prune shape.Listed xs n ps) Statements place.BodyList g d = let rest = statements_lighter 0 ps d.1 in omega (arith, rest)
    lighter (prune shape.Listed xs n ps) Statements q g d = absurd g
    lighter (prune shape.Listed xs n ps) (Declarators lexical) place.CommaList g d =
        let rest = declarators_lighter lexical 0 ps d.1 in
        let commas = fewer_commas (outlines (earlier_all ps)) (outlines (later_all ps)) (fewer ps) in
        omega (arith, rest, commas)
    lighter (prune shape.Listed xs n ps) (Declarators lexical) q g d = absurd g
    lighter (prune shape.Listed xs n ps) Elsewhere q g d = over_children shape.Listed xs n ps Elsewhere q tt d.1 (children_lighter (role shape.Listed Elsewhere) tt 0 ps (child_position shape.Listed q (count (earlier_all ps))) (agree shape.Listed Elsewhere q (count (earlier_all ps))) d.1)
    lighter (prune shape.Listed xs n ps) AStatement q g d = over_children shape.Listed xs n ps AStatement q tt d.1 (children_lighter (role shape.Listed AStatement) tt 0 ps (child_position shape.Listed q (count (earlier_all ps))) (agree shape.Listed AStatement q (count (earlier_all ps))) d.1)
    lighter (prune shape.Listed xs n ps) CaseList q g d = over_children shape.Listed xs n ps CaseList q tt d.1 (children_lighter (role shape.Listed CaseList) tt 0 ps (child_position shape.Listed q (count (earlier_all ps))) (agree shape.Listed CaseList q (count (earlier_all ps))) d.1)
    lighter (prune shape.Listed xs n ps) OneCase q g d = over_children shape.Listed xs n ps OneCase q tt d.1 (children_lighter (role shape.Listed OneCase) tt 0 ps (child_position shape.Listed q (count (earlier_all ps))) (agree shape.Listed OneCase q (count (earlier_all ps))) d.1)
    lighter (prune (shape.VariableDeclaration k) xs n ps) AStatement q g d = over_children (shape.VariableDeclaration k) xs n ps AStatement q tt d.1 (children_lighter (role (shape.VariableDeclaration k) AStatement) tt 0 ps (child_position (shape.VariableDeclaration k) q (count (earlier_all ps))) (agree (shape.VariableDeclaration k) AStatement q (count (earlier_all ps))) d.1)
    lighter (prune (shape.VariableDeclaration k) xs n ps) s q g d = over_children (shape.VariableDeclaration k) xs n ps s q tt d.1 (children_lighter (role (shape.VariableDeclaration k) s) tt 0 ps (child_position (shape.VariableDeclaration k) q (count (earlier_all ps))) (agree (shape.VariableDeclaration k) s q (count (earlier_all ps))) d.1)
    lighter (prune shape.SwitchCase xs n ps) OneCase q g d = over_children shape.SwitchCase xs n ps OneCase q tt d.1 (children_lighter (role shape.SwitchCase OneCase) tt 0 ps (child_position shape.SwitchCase q (count (earlier_all ps))) (agree shape.SwitchCase OneCase q (count (earlier_all ps))) d.1)
    lighter (prune shape.SwitchCase xs n ps) s q g d = over_children shape.SwitchCase xs n ps s q tt d.1 (children_lighter (role shape.SwitchCase s) tt 0 ps (child_position shape.SwitchCase q (count (earlier_all ps))) (agree shape.SwitchCase s q (count (earlier_all ps))) d.1)
    lighter (prune h xs n ps) s q g d = over_children h xs n ps s q tt d.1 (children_lighter (role h s) tt 0 ps (child_position h q (count (earlier_all ps))) (agree h s q (count (earlier_all ps))) d.1)

    children_lighter : (r : Role) → Fixed r → (i : ℕ) (ps : Prunings) (π : ℕ → Position) → ((j k : ℕ) → k ≡ i + j → Agrees (spot_below r k) (π j)) → AllDropDead t D rounds r i ps → weights π (later_all ps) + all_gone_count ps ≤ weights π (earlier_all ps)
    children_lighter r f i end π g d = omega arith
    children_lighter r f i (stays p ps) π g d =
        let one = lighter p (spot_below r i) (π 0) (g 0 i (omega arith)) d.0 in
        let others = children_lighter r f (suc i) ps (λ k. π (suc k)) (λ j k e. g (suc j) k (omega (arith, e))) d.1 in
        omega (arith, one, others)
    children_lighter r f i (goes c ps) π g d = absurd (no_item r f d.0)
    children_lighter r f i (declarator_goes c ps) π g d = absurd (no_declarator r f d.0)

    statements_lighter : (i : ℕ) (ps : Prunings) → AllDropDead t D rounds StatementList i ps → weights (λ k. place.Stmt stmt_seat.List) (later_all ps) + all_gone_count ps ≤ weights (λ k. place.Stmt stmt_seat.List) (earlier_all ps)
    statements_lighter i end d = omega arith
    statements_lighter i (stays p ps) d =
        let one = lighter p AStatement (place.Stmt stmt_seat.List) tt d.0 in
        let others = statements_lighter (suc i) ps d.1 in
        omega (arith, one, others)
    statements_lighter i (goes c ps) d =
        let one = item_weighs c in
        let others = statements_lighter (suc i) ps d.2 in
        omega (arith, one, others)
    statements_lighter i (declarator_goes c ps) d = absurd d.0

    declarators_lighter : (lexical : Bool) (i : ℕ) (ps : Prunings) → AllDropDead t D rounds (DeclaratorList lexical) i ps → weights (λ k. place.Elsewhere) (later_all ps) + all_gone_count ps ≤ weights (λ k. place.Elsewhere) (earlier_all ps)
    declarators_lighter lexical i end d = omega arith
    declarators_lighter lexical i (stays p ps) d =
        let one = lighter p Elsewhere place.Elsewhere tt d.0 in
        let others = declarators_lighter lexical (suc i) ps d.1 in
        omega (arith, one, others)
    declarators_lighter lexical i (goes c ps) d = absurd d.0
    declarators_lighter lexical i (declarator_goes c ps) d =
        let one = declarator_weighs c in
        let others = declarators_lighter lexical (suc i) ps d.2 in
        omega (arith, one, others)

-- a program that loses dead items falls by their number at least
drop_lighter : (t u : Tree) (n : ℕ) → Drops t u n → program_weight u + n ≤ program_weight t
drop_lighter t u n w =
    let falls = lighter t (gone w.pruned) w.rounds w.pruned Elsewhere place.Elsewhere tt w.dead in
    let before = ap program_weight w.before in
    let after = ap program_weight w.after in
    let many = w.number in
    omega (arith, falls, before, after, many)

pub drops_lighter : (t u : Tree) (n : ℕ) → DropsAgain t u n → program_weight u + n ≤ program_weight t
drops_lighter _ _ _ (nothing_goes t) = omega arith
drops_lighter _ _ _ (more_goes t u v m n others w) =
    let first = drops_lighter t u m others in
    let next = drop_lighter u v n w in
    omega (arith, first, next)
