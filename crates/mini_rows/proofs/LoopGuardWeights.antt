-- What is written for a guard in the body of a loop is lighter.
use Rattle.std.specs.Prelude.{ℕ, ◌<◌, ◌+◌, ◌≡◌, refl, true, false, if◌then◌else◌}
use Rattle.std.proofs.Common.{ap, inl, inr, arith}
use Rattle.mini_model.specs.declared.place.Position.{Position}
use Rattle.mini_model.specs.declared.place.Position.TheVariants.{Stmt}
use Rattle.mini_model.specs.declared.seat.StmtSeat.{StmtSeat}
use Rattle.mini_model.specs.declared.seat.StmtSeat.TheVariants as stmt_seat
use Rattle.mini_model.specs.Tree.{Tree, Trees, none, ◌▸◌, if_else, if_alone, negation}
use Rattle.mini_model.specs.Paths.{append}
use Rattle.mini_model.specs.Position.{if_test_seat, not_operand_seat}
use Rattle.mini_model.specs.Weight.{outlines, one_chooses, weight}
use Rattle.mini_laws.specs.Weights.{Lightens}
use Rattle.mini_laws.proofs.Seats.{moved}
use Rattle.mini_rows.specs.Switches.{Switches}
use Rattle.mini_rows.specs.Lists.{block, alternate_of}
use Rattle.mini_rows.specs.Branches.{Surrounding, around, is_loop, bare_continue}
use Rattle.mini_rows.specs.LoopGuards.{TurnsGuard, LoopGuardRow, LoopGuardContracts, LoopGuardsLighter}
use Rattle.mini_rows.proofs.LoopGuards.{guard_unscoped, made_unscoped}
use Rattle.mini_rows.proofs.ListWeights.{total, total_append, list_is, block_falls, alternate_weighs}
use Rattle.mini_rows.proofs.BranchWeights.{body_is_list, block_is, body_falls, Outlined, outlined, loop_outlined}

row_75 : (test : Tree) (rest : Trees) → total (if_alone (negation test) (block rest) ▸ none) < total (if_alone test bare_continue ▸ rest)
row_75 test rest =
    let operand = moved not_operand_seat if_test_seat refl test in
    let branch = block_falls rest in
    omega (arith, operand, branch)

-- a block that ends with a jump has braces
ends_plain : (ts : Trees) → one_chooses (outlines (append ts (bare_continue ▸ none))) ≡ false
ends_plain none = refl
ends_plain (t ▸ none) = refl
ends_plain (t ▸ (u ▸ ts)) = refl

leaving_weighs : (ts : Trees) → weight (Stmt stmt_seat.Consequent) (block (append ts (bare_continue ▸ none))) ≡ total ts + 20
leaving_weighs ts =
    let items = list_is (append ts (bare_continue ▸ none)) in
    let both = total_append ts (bare_continue ▸ none) in
    let braces = ap {B = ℕ} (λ b. if b then 0 else 4) (ends_plain ts) in
    omega (arith, items, both, braces)

row_75_block : (test : Tree) (body rest : Trees) → total (if_else test (block body) (alternate_of rest) ▸ none) < total (if_alone test (block (append body (bare_continue ▸ none))) ▸ rest)
row_75_block test body none =
    let old = leaving_weighs body in
    let new = block_falls body in
    omega (arith, old, new)
row_75_block test body (t ▸ ts) =
    let old = leaving_weighs body in
    let new = block_falls body in
    let other = alternate_weighs (t ▸ ts) in
    omega (arith, old, new, other)

turned_falls : (a b : Trees) → TurnsGuard a b → total b < total a
turned_falls a b (inl r) = let falls = row_75 r.test r.rest in omega (arith, falls, ap total r.shape, ap total r.written)
turned_falls a b (inr r) = let falls = row_75_block r.test r.body r.rest in omega (arith, falls, ap total r.shape, ap total r.written)

loop_falls : (q : StmtSeat) (k : Surrounding) (before a b : Trees) → is_loop k ≡ true → TurnsGuard a b → weight (Stmt q) (around k (block (append before b))) < weight (Stmt q) (around k (block (append before a)))
loop_falls q k before a b h r =
    let old = block_is (append before a) in
    let new = block_is (append before b) in
    let old_sum = total_append before a in
    let new_sum = total_append before b in
    let falls = turned_falls a b r in
    body_falls q k (block (append before a)) (block (append before b)) h (omega (arith, old, new, old_sum, new_sum, falls))

whole_falls : (q : StmtSeat) (k : Surrounding) (g m : Tree) → is_loop k ≡ true → TurnsGuard (g ▸ none) (m ▸ none) → weight (Stmt q) (around k m) < weight (Stmt q) (around k g)
whole_falls q k g m h r =
    let old = body_is_list g (guard_unscoped g m r) in
    let new = body_is_list m (made_unscoped g m r) in
    let falls = turned_falls (g ▸ none) (m ▸ none) r in
    body_falls q k g m h (omega (arith, old, new, falls))

pub loop_guards_lighter : LoopGuardsLighter
loop_guards_lighter o (Stmt q) n w (s, inr r) =
    let falls = whole_falls q r.place r.guard r.made r.loop r.row in
    omega (arith, falls, ap (weight (Stmt q)) r.shape, ap (weight (Stmt q)) r.written)
loop_guards_lighter o (Stmt q) n w (s, inl r) =
    let falls = loop_falls q r.place r.before r.read r.put r.loop r.row in
    omega (arith, falls, ap (weight (Stmt q)) r.shape, ap (weight (Stmt q)) r.written)
loop_guards_lighter o p n w r = absurd r

row_outlined : (o : Switches) (p : Position) (n w : Tree) → LoopGuardRow o p n w → Outlined p n w
row_outlined o (Stmt q) n w (s, inr r) = outlined (Stmt q) n _ w _ r.shape r.written (loop_outlined q r.place r.guard r.made r.loop)
row_outlined o (Stmt q) n w (s, inl r) = outlined (Stmt q) n _ w _ r.shape r.written (loop_outlined q r.place (block (append r.before r.read)) (block (append r.before r.put)) r.loop)
row_outlined o p n w r = absurd r

pub loop_guards_lighten : (o : Switches) → Lightens (LoopGuardContracts o)
loop_guards_lighten o = record {
  lighter = λ p n w c. c.lighter;
  absent = λ p n w c e. (row_outlined o p n w c.row).absent;
  items = λ p n w c e. (row_outlined o p n w c.row).items;
  is_zero = λ p n w c e. inl (row_outlined o p n w c.row).is_zero;
  chooses = λ p n w c e. (row_outlined o p n w c.row).chooses;
}
