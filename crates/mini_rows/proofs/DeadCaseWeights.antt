-- What is written for a `switch` over a value that is written out is lighter in every place.
use Rattle.std.proofs.Common.{◌≡◌, ℕ, zero, ◌+◌, ◌<◌, ◌≤◌, Bool, true, false, [], ◌∷◌, refl, ap, subst, inl, inr, arith, true≢false, sym}
use Rattle.std.specs.Prelude.{◌&&◌, ◌||◌, if◌then◌else◌}
use Rattle.std.proofs.lemmas.Bool.{and_parts}
use Rattle.std.proofs.lemmas.List.{append-nil}
use Rattle.mini_model.specs.declared.kind.VariableDeclarationKind.TheVariants.{Var}
use Rattle.mini_model.specs.declared.seat.StmtSeat.TheVariants as stmt_seat
use Rattle.mini_model.specs.declared.shape.Shape.TheVariants as shape
use Rattle.mini_model.specs.declared.place.Position.TheVariants.{Expr, Stmt, StatementList, CommaList, Elsewhere}
use Rattle.mini_model.specs.declared.seat.StmtSeat.{StmtSeat}
use Rattle.mini_model.specs.Paths.{append}
use Rattle.mini_model.specs.Tree.{Tree, Trees, node, none, ◌▸◌, count, listed}
use Rattle.mini_model.specs.Position.{whole_seat, item_position}
use Rattle.mini_model.specs.Weight.{outline, outlines, commas_weight, weight, weights}
use Rattle.mini_laws.specs.declared.names.Declared.TheVariants as declared
use Rattle.mini_laws.specs.DeclaredNames.{names_of, all_names}
use Rattle.mini_rows.specs.DeadCases.{Choices, no_choices, choice, cases_of, before_others, switch_over, hoists_nothing, are_plain_declarators, is_plain_var, leaves_little, all_go, left_all, left_cases, test_goes, cases_go, are_ended, running, rest_goes, are_several, DeadCaseRow}
use Rattle.mini_rows.specs.Lists.{declaration, encloses, bare_declarators, declared_bare, left_behind, is_lighter_left}
use Rattle.mini_rows.proofs.DeadCaseKept.{hoists_none}
use Rattle.mini_rows.proofs.ListWeights.{total, list_is, total_append, capped_lighter}

-- `case` and `default`
abbrev head : Tree → ℕ
head t = if (outline t).absent then 16 else 12

head_heavy : (b : Bool) → 12 ≤ (if b then 16 else 12)
head_heavy true = omega arith
head_heavy false = omega arith

-- what some cases weigh
abbrev heap : Choices → ℕ
heap no_choices = 0
heap (choice t ss cs) = head t + weight (Expr whole_seat) t + total ss + heap cs

heap_is : (n : ℕ) (cs : Choices) → weights (item_position Elsewhere n) (cases_of cs) ≡ heap cs
heap_is n no_choices = refl
heap_is n (choice t ss cs) = let rest = heap_is n cs in let own = list_is ss in omega (arith, rest, own)

switch_is : (q : StmtSeat) (k : Tree) (cs : Choices) → weight (Stmt q) (switch_over k cs) ≡ 20 + weight (Expr whole_seat) k + heap cs
switch_is q k cs = let all = heap_is (count (cases_of cs)) cs in omega (arith, all)

-- the cases before others
heap_before : (bs cs : Choices) → heap (before_others bs cs) ≡ heap bs + heap cs
heap_before no_choices cs = omega arith
heap_before (choice t ss bs) cs = let rest = heap_before bs cs in omega (arith, rest)

-- ---- what is left of statements weighs no more than they do

commas_same : (ds : Trees) → are_plain_declarators ds ≡ true → commas_weight (outlines (bare_declarators (all_names declared.Bound ds))) ≡ commas_weight (outlines ds)
unfolding names_of
commas_same none e = refl
commas_same (node shape.VariableDeclarator [] zero (node shape.BindingIdentifier (x ∷ []) zero none ▸ (init ▸ none)) ▸ none) e = refl
commas_same (node shape.VariableDeclarator [] zero (node shape.BindingIdentifier (x ∷ []) zero none ▸ (init ▸ none)) ▸ (node shape.VariableDeclarator [] zero (node shape.BindingIdentifier (y ∷ []) zero none ▸ (other ▸ none)) ▸ ds)) e =
    ap (λ k. 2 + k) (commas_same (node shape.VariableDeclarator [] zero (node shape.BindingIdentifier (y ∷ []) zero none ▸ (other ▸ none)) ▸ ds) e)
commas_same ds e = absurd (cc e)

declarators_fall : (n k : ℕ) (ds : Trees) → are_plain_declarators ds ≡ true → weights (item_position CommaList n) (bare_declarators (all_names declared.Bound ds)) ≤ weights (item_position CommaList k) ds
unfolding names_of
declarators_fall n k none e = omega arith
declarators_fall n k (node shape.VariableDeclarator [] zero (node shape.BindingIdentifier (x ∷ []) zero none ▸ (init ▸ none)) ▸ ds) e = let rest = declarators_fall n k ds e in omega (arith, rest)
declarators_fall n k ds e = absurd (cc e)

var_falls : (d : Tree) (ds : Trees) → are_plain_declarators (d ▸ ds) ≡ true → total (left_behind (declaration Var (d ▸ ds))) ≤ weight (Stmt stmt_seat.List) (declaration Var (d ▸ ds))
unfolding names_of
var_falls (node shape.VariableDeclarator [] zero (node shape.BindingIdentifier (x ∷ []) zero none ▸ (init ▸ none))) ds e =
    let all : Trees = node shape.VariableDeclarator [] zero (node shape.BindingIdentifier (x ∷ []) zero none ▸ (init ▸ none)) ▸ ds in
    let commas = commas_same all e in
    let parts = declarators_fall (count (bare_declarators (all_names declared.Bound all))) (count all) all e in
    let names = append-nil (all_names declared.Bound all) in
    subst (λ xs. total (declared_bare xs) ≤ weight (Stmt stmt_seat.List) (declaration Var all)) (sym names) (omega (arith, commas, parts))
var_falls d ds e = absurd (cc e)

plain_falls : (t : Tree) → is_plain_var t ≡ true → total (left_behind t) ≤ weight (Stmt stmt_seat.List) t
plain_falls (node (shape.VariableDeclaration Var) [] zero (node shape.Listed [] zero (d ▸ ds) ▸ none)) e = var_falls d ds e
plain_falls t e = absurd (true≢false (sym e))

lighter_falls : (t : Tree) → is_lighter_left t ≡ true → total (left_behind t) ≤ weight (Stmt stmt_seat.List) t
lighter_falls t e =
    let less = capped_lighter (weight StatementList (listed (left_behind t))) (weight (Stmt stmt_seat.List) t) e in
    let made = list_is (left_behind t) in
    omega (arith, less, made)

left_falls : (t : Tree) (b c : Bool) → hoists_nothing t ≡ b → is_plain_var t ≡ c → ((b || c) || is_lighter_left t) ≡ true → total (left_behind t) ≤ weight (Stmt stmt_seat.List) t
left_falls t true c h p e = let none_left = ap (λ xs. total (declared_bare xs)) (hoists_none t h) in omega (arith, none_left)
left_falls t false true h p e = plain_falls t p
left_falls t false false h p e = lighter_falls t e

all_fall : (ss : Trees) → all_go ss ≡ true → total (left_all ss) ≤ total ss
all_fall none e = omega arith
all_fall (t ▸ ss) e =
    let (own, rest) = and_parts (encloses false t && leaves_little t) (all_go ss) e in
    let first = left_falls t (hoists_nothing t) (is_plain_var t) refl refl (and_parts (encloses false t) (leaves_little t) own).1 in
    omega (arith, total_append (left_behind t) (left_all ss), first, all_fall ss rest)

-- what runs weighs no more than the cases from there on, and if there are several 12 less
later : Choices → ℕ
later no_choices = 0
later (choice t ss cs) = 12

cases_fall : (cs : Choices) → cases_go cs ≡ true → total (left_cases cs) + later cs ≤ heap cs
unfolding later
cases_fall no_choices e = omega arith
cases_fall (choice t ss cs) e =
    let (test, more) = and_parts (test_goes t) (all_go ss && cases_go cs) e in
    let (own, others) = and_parts (all_go ss) (cases_go cs) more in
    omega (arith, head_heavy (outline t).absent, total_append (left_all ss) (left_cases cs), all_fall ss own, cases_fall cs others)

runs_lighter : (ss : Trees) (cs : Choices) → rest_goes ss cs ≡ true → total (running ss cs) + later cs ≤ total ss + heap cs
unfolding later
runs_lighter ss no_choices g = omega arith
runs_lighter ss (choice t us cs) g = go (are_ended ss) g (λ h. runs_lighter us cs h)
  where
    go : (b : Bool) → (if b then cases_go (choice t us cs) else test_goes t && rest_goes us cs) ≡ true → (rest_goes us cs ≡ true → total (running us cs) + later cs ≤ total us + heap cs) → total (if b then append ss (left_cases (choice t us cs)) else append ss (running us cs)) + 12 ≤ total ss + heap (choice t us cs)
    go true h f = omega (arith, total_append ss (left_cases (choice t us cs)), cases_fall (choice t us cs) h)
    go false h f = let own = head_heavy (outline t).absent in let both = total_append ss (running us cs) in let rest = f (and_parts (test_goes t) (rest_goes us cs) h).1 in omega (arith, own, both, rest)

some_later : (bs cs : Choices) → are_several bs cs ≡ true → 12 ≤ later bs + later cs
unfolding later
some_later no_choices no_choices e = absurd (true≢false (sym e))
some_later no_choices (choice t ss cs) e = omega arith
some_later (choice t ss bs) cs e = omega arith

none_after : later no_choices ≡ 0
unfolding later
none_after = refl

taken_lighter : (q : StmtSeat) (k : Tree) (bs : Choices) (t : Tree) (ss : Trees) (cs : Choices) → are_several bs cs ≡ true → cases_go bs ≡ true → rest_goes ss cs ≡ true → weight (Stmt q) (switch_over k (choice t (append (left_cases bs) (running ss cs)) no_choices)) < weight (Stmt q) (switch_over k (before_others bs (choice t ss cs)))
taken_lighter q k bs t ss cs e g h =
    let n = switch_is q k (before_others bs (choice t ss cs)) in
    let w = switch_is q k (choice t (append (left_cases bs) (running ss cs)) no_choices) in
    omega (arith, n, w, heap_before bs (choice t ss cs), total_append (left_cases bs) (running ss cs), cases_fall bs g, runs_lighter ss cs h, some_later bs cs e)

none_lighter : (q : StmtSeat) (k : Tree) (t : Tree) (ss : Trees) (cs : Choices) → are_several no_choices cs ≡ true → cases_go (choice t ss cs) ≡ true → weight (Stmt q) (switch_over k (choice t (left_cases (choice t ss cs)) no_choices)) < weight (Stmt q) (switch_over k (choice t ss cs))
none_lighter q k t ss cs e g =
    let n = switch_is q k (choice t ss cs) in
    let w = switch_is q k (choice t (left_cases (choice t ss cs)) no_choices) in
    let (test, more) = and_parts (test_goes t) (all_go ss && cases_go cs) g in
    let (own, others) = and_parts (all_go ss) (cases_go cs) more in
    omega (arith, n, w, total_append (left_all ss) (left_cases cs), all_fall ss own, cases_fall cs others, none_after, some_later no_choices cs e)

pub dead_case_lighter : (q : StmtSeat) (n w : Tree) → DeadCaseRow n w → weight (Stmt q) w < weight (Stmt q) n
dead_case_lighter q n w (inl r) = omega (arith, taken_lighter q r.discriminant r.before r.test r.statements r.after r.several r.dropped r.rest_dropped, ap (weight (Stmt q)) r.shape, ap (weight (Stmt q)) r.written)
dead_case_lighter q n w (inr r) = omega (arith, none_lighter q r.discriminant r.test r.statements r.after r.several r.dropped, ap (weight (Stmt q)) r.shape, ap (weight (Stmt q)) r.written)
