-- What the rows of names that nothing mentions write is lighter.
use Rattle.std.proofs.Common.{◌≡◌, ℕ, ◌+◌, ◌<◌, ◌≤◌, List, [], refl, sym, ap, ◌∙◌, inl, inr, arith}
use Rattle.std.specs.Prelude.{if◌then◌else◌}
use Rattle.mini_model.specs.declared.kind.VariableDeclarationKind.{VariableDeclarationKind}
use Rattle.mini_model.specs.declared.kind.VariableDeclarationKind.TheVariants.{Var, Let, Const}
use Rattle.mini_model.specs.declared.name.Name.{Name}
use Rattle.mini_model.specs.declared.place.Position.{Position}
use Rattle.mini_model.specs.declared.place.Position.TheVariants.{Expr, Stmt, Method, Elsewhere}
use Rattle.mini_model.specs.declared.seat.Seat.{Seat}
use Rattle.mini_model.specs.declared.seat.StmtSeat.{StmtSeat}
use Rattle.mini_model.specs.declared.seat.StmtSeat.TheVariants as stmt_seat
use Rattle.mini_model.specs.declared.shape.Shape.TheVariants as shape
use Rattle.mini_model.specs.Tree.{Tree, Trees, node, none, ◌▸◌, absent, count, listed, empty_statement, expression_statement}
use Rattle.mini_model.specs.Paths.{append}
use Rattle.mini_model.specs.Position.{argument_seat, statement_expression_seat, whole_seat, item_position}
use Rattle.mini_model.specs.Weight.{Outline, own_weight, commas_weight, outline, outlines, one_chooses, braces_weight, weight, weights}
use Rattle.mini_laws.proofs.Seats.{moved}
use Rattle.mini_rows.specs.Declarations.{binding, declarator}
use Rattle.mini_rows.specs.Cases.{switch_case}
use Rattle.mini_rows.specs.Lists.{block, switch, declaration}
use Rattle.mini_rows.specs.Unused.{resolved, declared_among, declared_one, declared_left, head_left, put_first, BlockRow, ArrowBodyRow, FunctionBodyRow, ModuleRow, StaticBlockRow, switch_around, SwitchRow, ForRow, ForNextRow, ForHeadRow, UnusedRow, UnusedLighten, UnusedLighter}
use Rattle.mini_rows.specs.Switches.{Switches, Liberties}
use Rattle.mini_rows.proofs.BlockPlaces.{elsewhere_weighs}
use Rattle.mini_rows.proofs.ForHeads as heads
use Rattle.mini_rows.proofs.SingleWeights.{taken_single_falls, next_falls}
use Rattle.mini_rows.proofs.ListWeights.{total, list_is, body_is, in_list, comma_list, declarators_append}
use Rattle.mini_rows.proofs.UnusedMeaning.{movable}

value_falls : (K : VariableDeclarationKind) (s : List ℕ) (k : ℕ) (init : Tree) → total (expression_statement init ▸ none) + 1 ≤ total (declared_one K (resolved s k) init ▸ none)
value_falls Let s k init = let seat = moved statement_expression_seat argument_seat refl init in omega (arith, seat)
value_falls Const s k init = let seat = moved statement_expression_seat argument_seat refl init in omega (arith, seat)
value_falls Var s k init = let seat = moved statement_expression_seat argument_seat refl init in omega (arith, seat)

-- one declarator less weighs no more commas
commas_fall : (first last : Trees) (d : Tree) → commas_weight (outlines (append first last)) ≤ commas_weight (outlines (append first (d ▸ last)))
commas_fall none none d = omega arith
commas_fall none (u ▸ last) d = omega arith
commas_fall (t ▸ none) none d = omega arith
commas_fall (t ▸ none) (u ▸ last) d = omega arith
commas_fall (t ▸ (c ▸ first)) last d = let rest = commas_fall (c ▸ first) last d in omega (arith, rest)

among_falls : (K : VariableDeclarationKind) (x : Name) (first last : Trees) (init : Tree) → total (declaration K (append first last) ▸ none) + 1 ≤ total (declared_among K x first init last ▸ none)
among_falls K x first last init =
    let d = declarator (binding x) init in
    omega (arith, commas_fall first last d, comma_list (append first last), comma_list (append first (d ▸ last)), declarators_append first last, declarators_append first (d ▸ last))

alone_falls : (K : VariableDeclarationKind) (x : Name) (init : Tree) → total (empty_statement ▸ none) + 1 ≤ total (declared_one K x init ▸ none)
alone_falls Let x init = omega arith
alone_falls Const x init = omega arith
alone_falls Var x init = omega arith

idle_falls : (K : VariableDeclarationKind) (x : Name) (first last : Trees) (init : Tree) → total (declared_left K (append first last) ▸ none) + 1 ≤ total (declared_among K x first init last ▸ none)
idle_falls K x none none init = alone_falls K x init
idle_falls K x none (t ▸ last) init = among_falls K x none (t ▸ last) init
idle_falls K x (t ▸ first) last init = among_falls K x (t ▸ first) last init

pub same_chooses : (K : VariableDeclarationKind) (x : Name) (first last : Trees) (init : Tree) → (outline (declared_among K x first init last)).chooses ≡ (outline (declared_left K (append first last))).chooses
same_chooses K x none none init = refl
same_chooses K x none (t ▸ last) init = refl
same_chooses K x (t ▸ first) last init = refl

-- whether a block holds one `if` with `else` alone
pub same_choice : (before after : Trees) (d w : Tree) → (outline d).chooses ≡ (outline w).chooses → one_chooses (outlines (append before (d ▸ after))) ≡ one_chooses (outlines (append before (w ▸ after)))
same_choice none none d w h = h
same_choice none (t ▸ after) d w h = refl
same_choice (t ▸ none) after d w h = refl
same_choice (t ▸ (u ▸ before)) after d w h = refl

pub block_falls : (q : StmtSeat) (before after : Trees) (d w : Tree) → (outline d).chooses ≡ (outline w).chooses → total (w ▸ none) + 1 ≤ total (d ▸ none) → weight (Stmt q) (block (append before (w ▸ after))) < weight (Stmt q) (block (append before (d ▸ after)))
block_falls q before after d w h less =
    let falls = in_list before (d ▸ none) (w ▸ none) after 1 less in
    let braces = ap (braces_weight q) (same_choice before after d w h) in
    omega (arith, falls, braces)

pub block_lighter : {W : Liberties} (q : StmtSeat) (n w : Tree) → BlockRow W n w → weight (Stmt q) w < weight (Stmt q) n
block_lighter {W = W} q n w (inl r) =
    let falls = block_falls q r.before r.after (declared_one r.kind (resolved r.spelling r.symbol) r.init) (expression_statement r.init) refl (value_falls r.kind r.spelling r.symbol r.init) in
    omega (arith, falls, ap (weight (Stmt q)) r.shape, ap (weight (Stmt q)) r.written)
block_lighter {W = W} q n w (inr (inl r)) =
    let falls = block_falls q r.before r.after (declared_among r.kind (resolved r.spelling r.symbol) r.first r.init r.last) (declared_left r.kind (append r.first r.last)) (same_chooses r.kind (resolved r.spelling r.symbol) r.first r.last r.init) (idle_falls r.kind (resolved r.spelling r.symbol) r.first r.last r.init) in
    omega (arith, falls, ap (weight (Stmt q)) r.shape, ap (weight (Stmt q)) r.written)
block_lighter {W = W} q n w (inr (inr (inl r))) =
    let falls = taken_single_falls q r.before r.kind r.first r.spelling r.symbol r.init r.head r.after (movable W.switches r.init r.moves) r.taken in
    omega (arith, falls, ap (weight (Stmt q)) r.shape, ap (weight (Stmt q)) r.written)
block_lighter {W = W} q n w (inr (inr (inr r))) =
    let x = resolved r.spelling r.symbol in
    let falls = block_falls q r.before r.after (declared_among r.kind x r.first r.init (declarator r.binds r.value ▸ r.last)) (declaration r.kind (append r.first (declarator r.binds (put_first x r.init r.value) ▸ r.last))) refl (next_falls r.kind r.spelling r.symbol r.first r.init r.binds r.value r.last (movable W.switches r.init r.moves) r.once) in
    omega (arith, falls, ap (weight (Stmt q)) r.shape, ap (weight (Stmt q)) r.written)

-- a block of a `try` weighs what it weighs as a body
weighs_there : (n : Tree) (ts : Trees) → n ≡ block ts → weight Elsewhere n ≡ weight (Stmt stmt_seat.Body) n
weighs_there n ts e = ap (weight Elsewhere) e ∙ elsewhere_weighs ts ∙ sym (ap (weight (Stmt stmt_seat.Body)) e)

both_weigh : {W : Liberties} (n w : Tree) → BlockRow W n w → (weight Elsewhere n ≡ weight (Stmt stmt_seat.Body) n) × (weight Elsewhere w ≡ weight (Stmt stmt_seat.Body) w)
both_weigh n w (inl r) = (weighs_there n _ r.shape, weighs_there w _ r.written)
both_weigh n w (inr (inl r)) = (weighs_there n _ r.shape, weighs_there w _ r.written)
both_weigh n w (inr (inr (inl r))) = (weighs_there n _ r.shape, weighs_there w _ r.written)
both_weigh n w (inr (inr (inr r))) = (weighs_there n _ r.shape, weighs_there w _ r.written)

try_lighter : {W : Liberties} (n w : Tree) → BlockRow W n w → weight Elsewhere w < weight Elsewhere n
try_lighter n w r = let (a, b) = both_weigh n w r in omega (arith, a, b, block_lighter stmt_seat.Body n w r)

-- a function's body by the block that what stands before it and its statements would be
arrow_lighter : {W : Liberties} (s : Seat) (n w : Tree) → ArrowBodyRow W n w → weight (Expr s) w < weight (Expr s) n
arrow_lighter s n w r =
    let less = block_lighter stmt_seat.List (block (listed r.parameters ▸ r.before)) (block (listed r.parameters ▸ r.after)) r.row in
    omega (
      arith,
      less,
      list_is (listed r.parameters ▸ r.before),
      list_is (listed r.parameters ▸ r.after),
      body_is r.before,
      body_is r.after,
      ap (weight (Expr s)) r.shape,
      ap (weight (Expr s)) r.written,
    )

function_lighter : {W : Liberties} (p : Position) (n w : Tree) → FunctionBodyRow W n w → weight p w < weight p n
function_lighter p n w r =
    let front = listed (r.name ▸ r.parameters) in
    let less = block_lighter stmt_seat.List (block (front ▸ r.before)) (block (front ▸ r.after)) r.row in
    omega (arith, less, list_is (front ▸ r.before), list_is (front ▸ r.after), body_is r.before, body_is r.after, ap (weight p) r.shape, ap (weight p) r.written)

module_lighter : {W : Liberties} (n w : Tree) → ModuleRow W n w → weight Elsewhere w < weight Elsewhere n
module_lighter n w r =
    let front = listed none in
    let less = block_lighter stmt_seat.List (block (front ▸ r.before)) (block (front ▸ r.after)) r.row in
    omega (arith, less, list_is (front ▸ r.before), list_is (front ▸ r.after), list_is r.before, list_is r.after, ap (weight Elsewhere) r.shape, ap (weight Elsewhere) r.written)

static_lighter : {W : Liberties} (n w : Tree) → StaticBlockRow W n w → weight Elsewhere w < weight Elsewhere n
static_lighter n w r =
    let front = listed none in
    let less = block_lighter stmt_seat.List (block (front ▸ r.before)) (block (front ▸ r.after)) r.row in
    omega (arith, less, list_is (front ▸ r.before), list_is (front ▸ r.after), list_is r.before, list_is r.after, ap (weight Elsewhere) r.shape, ap (weight Elsewhere) r.written)

-- the cases of a switch
pub heap : Trees → ℕ
heap none = 0
heap (t ▸ ts) = weight Elsewhere t + heap ts

heap_is : (n : ℕ) (ts : Trees) → weights (item_position Elsewhere n) ts ≡ heap ts
unfolding heap
heap_is n none = refl
heap_is n (t ▸ ts) = let rest = heap_is n ts in omega (arith, rest)

heap_append : (ts us : Trees) → heap (append ts us) ≡ heap ts + heap us
unfolding heap
heap_append none us = omega arith
heap_append (t ▸ ts) us = let rest = heap_append ts us in omega (arith, rest)

switch_is : (q : StmtSeat) (d : Tree) (ts : Trees) → weight (Stmt q) (switch d (listed ts)) ≡ 20 + weight (Expr whole_seat) d + heap ts
switch_is q d ts = let all = heap_is (count ts) ts in omega (arith, all)

abbrev head : Tree → ℕ
head t = if (outline t).absent then 16 else 12

pub switch_weighs : (q : StmtSeat) (d : Tree) (first : Trees) (test : Tree) (ts last : Trees) → weight (Stmt q) (switch d (listed (append first (switch_case test ts ▸ last)))) ≡ 20 + weight (Expr whole_seat) d + heap first + (head test + weight (Expr whole_seat) test + total ts) + heap last
unfolding heap
switch_weighs q d first test ts last = omega (arith, switch_is q d (append first (switch_case test ts ▸ last)), heap_append first (switch_case test ts ▸ last), list_is ts)

switch_lighter : {o : Switches} (q : StmtSeat) (n w : Tree) → SwitchRow o n w → weight (Stmt q) w < weight (Stmt q) n
switch_lighter q n w r =
    let front = listed (switch_around r.discriminant r.first r.test r.last ▸ none) in
    let less = block_lighter stmt_seat.List (block (front ▸ r.before)) (block (front ▸ r.after)) r.row in
    omega (
      arith,
      less,
      list_is (front ▸ r.before),
      list_is (front ▸ r.after),
      switch_weighs q r.discriminant r.first r.test r.before r.last,
      switch_weighs q r.discriminant r.first r.test r.after r.last,
      ap (weight (Stmt q)) r.shape,
      ap (weight (Stmt q)) r.written,
    )

-- a `for` itself weighs the same whatever its parts are
pub own_for : (p : Position) (os us : List Outline) → own_weight p shape.ForStatement [] os ≡ own_weight p shape.ForStatement [] us
own_for (Expr s) os us = refl
own_for (Stmt q) os us = refl
own_for p os us = refl

-- without a declarator its head has one less, or there is none
for_falls : (p : Position) (K : VariableDeclarationKind) (x : Name) (first last : Trees) (init : Tree) (rest : Trees) → weight p (node shape.ForStatement [] 0 (declaration K (append first last) ▸ rest)) < weight p (node shape.ForStatement [] 0 (declared_among K x first init last ▸ rest))
for_falls p K x first last init rest =
    let d = declarator (binding x) init in
    omega (
      arith,
      own_for p (outlines (declaration K (append first last) ▸ rest)) (outlines (declared_among K x first init last ▸ rest)),
      commas_fall first last d,
      comma_list (append first last),
      comma_list (append first (d ▸ last)),
      declarators_append first last,
      declarators_append first (d ▸ last),
    )

none_falls : (p : Position) (K : VariableDeclarationKind) (x : Name) (init : Tree) (rest : Trees) → weight p (node shape.ForStatement [] 0 (absent ▸ rest)) < weight p (node shape.ForStatement [] 0 (declared_one K x init ▸ rest))
none_falls p K x init rest = omega (arith, own_for p (outlines (absent ▸ rest)) (outlines (declared_one K x init ▸ rest)))

pub head_falls : (p : Position) (K : VariableDeclarationKind) (x : Name) (first last : Trees) (init : Tree) (rest : Trees) → weight p (node shape.ForStatement [] 0 (head_left K (append first last) ▸ rest)) < weight p (node shape.ForStatement [] 0 (declared_among K x first init last ▸ rest))
head_falls p K x none none init rest = none_falls p K x init rest
head_falls p K x none (d ▸ last) init rest = for_falls p K x none (d ▸ last) init rest
head_falls p K x (d ▸ first) last init rest = for_falls p K x (d ▸ first) last init rest

for_lighter : (q : StmtSeat) (n w : Tree) → ForRow n w → weight (Stmt q) w < weight (Stmt q) n
for_lighter q n w r = omega (arith, head_falls (Stmt q) r.kind (resolved r.spelling r.symbol) r.first r.last r.init (r.test ▸ (r.update ▸ (r.body ▸ none))), ap (weight (Stmt q)) r.shape, ap (weight (Stmt q)) r.written)

-- where the next declarator reads the name, its head weighs less, too
next_lighter : {o : Switches} (q : StmtSeat) (n w : Tree) → ForNextRow o n w → weight (Stmt q) w < weight (Stmt q) n
next_lighter {o = o} q n w r =
    let c = r.row in
    let rest : Trees = r.test ▸ (r.update ▸ (r.body ▸ none)) in
    omega (
      arith,
      own_for (Stmt q) (outlines (heads.left o n w r ▸ rest)) (outlines (heads.read o n w r ▸ rest)),
      next_falls c.kind c.spelling c.symbol c.first c.init c.binds c.value c.last (movable o c.init c.moves) c.once,
      ap (weight (Stmt q)) (heads.is_read o n w r),
      ap (weight (Stmt q)) (heads.is_left o n w r),
    )

head_lighter : {o : Switches} (q : StmtSeat) (n w : Tree) → ForHeadRow o n w → weight (Stmt q) w < weight (Stmt q) n
head_lighter q n w (inl r) = for_lighter q n w r
head_lighter {o = o} q n w (inr r) = next_lighter {o = o} q n w r

pub unused_lighter : UnusedLighter
unused_lighter W (Stmt q) n w (inl r) = block_lighter q n w r
unused_lighter W (Stmt q) n w (inr (inl r)) = function_lighter (Stmt q) n w r
unused_lighter W (Stmt q) n w (inr (inr (inl r))) = switch_lighter q n w r
unused_lighter W (Stmt q) n w (inr (inr (inr r))) = head_lighter {o = W.switches} q n w r
unused_lighter W (Expr s) n w (inl r) = arrow_lighter s n w r
unused_lighter W (Expr s) n w (inr r) = function_lighter (Expr s) n w r
unused_lighter W Method n w r = function_lighter Method n w r
unused_lighter W Elsewhere n w (inl r) = function_lighter Elsewhere n w r
unused_lighter W Elsewhere n w (inr (inl r)) = module_lighter n w r
unused_lighter W Elsewhere n w (inr (inr (inl r))) = static_lighter n w r
unused_lighter W Elsewhere n w (inr (inr (inr r))) = try_lighter n w r
unused_lighter W p n w r = absurd r

-- ---- what a parent reads of them

function_outline : {W : Liberties} (n w : Tree) → FunctionBodyRow W n w → outline n ≡ outline w
function_outline n w r = ap outline r.shape ∙ sym (ap outline r.written)

block_outline : {W : Liberties} (n w : Tree) → BlockRow W n w → outline n ≡ outline w
block_outline n w (inl r) = ap outline r.shape ∙ sym (ap outline r.written)
block_outline n w (inr (inl r)) = ap outline r.shape ∙ sym (ap outline r.written)
block_outline n w (inr (inr (inl r))) = ap outline r.shape ∙ sym (ap outline r.written)
block_outline n w (inr (inr (inr r))) = ap outline r.shape ∙ sym (ap outline r.written)

same_outline : (W : Liberties) (p : Position) (n w : Tree) → UnusedRow W p n w → outline n ≡ outline w
same_outline W (Stmt q) n w (inl r) = block_outline n w r
same_outline W (Stmt q) n w (inr (inl r)) = function_outline n w r
same_outline W (Stmt q) n w (inr (inr (inl r))) = ap outline r.shape ∙ sym (ap outline r.written)
same_outline W (Stmt q) n w (inr (inr (inr (inl r)))) = ap outline r.shape ∙ sym (ap outline r.written)
same_outline W (Stmt q) n w (inr (inr (inr (inr r)))) = ap outline r.shape ∙ sym (ap outline r.written)
same_outline W (Expr s) n w (inl r) = ap outline r.shape ∙ sym (ap outline r.written)
same_outline W (Expr s) n w (inr r) = function_outline n w r
same_outline W Method n w r = function_outline n w r
same_outline W Elsewhere n w (inl r) = function_outline n w r
same_outline W Elsewhere n w (inr (inl r)) = ap outline r.shape ∙ sym (ap outline r.written)
same_outline W Elsewhere n w (inr (inr (inl r))) = ap outline r.shape ∙ sym (ap outline r.written)
same_outline W Elsewhere n w (inr (inr (inr r))) = block_outline n w r
same_outline W p n w r = absurd r

pub unused_lighten : UnusedLighten
unused_lighten W = record {
  lighter = λ p n w c. c.lighter;
  absent = λ p n w c e. ap (λ o. o.absent) (same_outline W p n w c.row);
  items = λ p n w c e. ap (λ o. o.items) (same_outline W p n w c.row);
  is_zero = λ p n w c e. inl (ap (λ o. o.is_zero) (same_outline W p n w c.row));
  chooses = λ p n w c e. inl (λ h. sym (ap (λ o. o.chooses) (same_outline W p n w c.row)) ∙ h);
}
