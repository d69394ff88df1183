-- The rules together, and the rows.
use Rattle.std.proofs.Common.{ℕ, zero, suc, ◌<◌, ◌^◌, Bool, inl, inr, arith}
use Rattle.mini_model.specs.declared.place.Position.{Position}
use Rattle.mini_model.specs.declared.place.Position.TheVariants.{Expr, Stmt, Elsewhere}
use Rattle.mini_model.specs.declared.shape.Shape.{Shape}
use Rattle.mini_model.specs.Tree.{Tree, Trees, node, none, ◌▸◌, count}
use Rattle.mini_model.specs.Position.{child_position}
use Rattle.mini_model.specs.Weight.{weight, weights}
use Rattle.mini_model.specs.Redex as first
use Rattle.mini_model.specs.Rewriting.{Everywhere, EverywhereIn}
use Rattle.mini_tree.specs.declared.options.CompressOptions.{CompressOptions}
use Rattle.mini_tree.specs.Rule.{Either}
use Rattle.mini_laws.specs.Writable.{writable_in}
use Rattle.mini_kept.specs.Loosely.{LawfulWith}
use Rattle.mini_kept.specs.Rooted.{LawfulRooted}
use Rattle.mini_kept.specs.Without.{BodySets, none_steady}
use Rattle.mini_kept.proofs.Loosely.{loose_narrowed, loose_is_steady}
use Rattle.mini_kept.proofs.Rooted.{steady_is_rooted, rooted_wider, rooted_join}
use Rattle.mini_rows.specs.Switches.{Switches, Liberties, let_go}
use Rattle.mini_rows.specs.Branches.{BranchRow}
use Rattle.mini_rows.specs.Turns.{TurnRow}
use Rattle.mini_rows.specs.Arrows.{ArrowRow}
use Rattle.mini_rows.specs.Redex.{Row, Contracts, Rewrites, IsSettled, HasNoRedex, AsTest, AsSpelling, AsBranch, AsList, AsKey, AsChoice, AsDeclaration, AsFolding, AsTurn, AsArrow, AsConstant, AsHeldKey, AsBoolean, AsDeMorgan, AsSequence, AsOperand, AsNegation, AsTemplate, AsLoopGuard}
use Rattle.mini_rows.proofs.AllRows.{all_loose}
use Rattle.mini_logic.specs.Joined as logic_law
use Rattle.mini_logic.specs.MinimizeBody as bodies
use Rattle.mini_logic.proofs.Joined as logic
use Rattle.mini_syntax.specs.SubstituteReturnStatement as returns
use Rattle.mini_switch.specs.MinimizeSwitchStatements as switch
use Rattle.mini_rows.proofs.InsideLawful.{inside_loose}
use Rattle.mini_rows.specs.Editions.{SteadyRowsIn}
use Rattle.mini_rows.specs.Inside.{InsideContracts}
use Rattle.mini_rows.specs.Past.{PastFunction}
use Rattle.mini_rows.specs.PastArrows.{PastArrow}
use Rattle.mini_rows.specs.PastBlocks.{PastBlocks}
use Rattle.mini_rows.specs.PastInside.{PastInside}
use Rattle.mini_rows.specs.PastModules.{PastModule}
use Rattle.mini_rows.specs.PastStatics.{PastStatic}
use Rattle.mini_rows.specs.Steady.{LexicalRows}
use Rattle.mini_steady.specs.Told.{told_in}
use Rattle.mini_shrink.specs.Exact.{exactly_of}
use Rattle.mini_less.proofs.UnusedLess.{rewrites_read_less}
use Rattle.mini_past.proofs.Lawful.{past_code_lawful}
use Rattle.mini_rows.proofs.PastInsideLawful.{past_inside_is_lawful}
use Rattle.mini_rows.proofs.PastModuleLawful.{past_modules_are_lawful}
use Rattle.mini_rows.proofs.PastStaticLawful.{past_statics_are_lawful}
use Rattle.mini_peephole.specs.AnyPasses.{LawfulFor, KnownStays}
use Rattle.mini_peephole.specs.Faithful.{switches, IsRewritten}
use Rattle.mini_peephole.specs.SteadyRows.{AnyCode, PastCode, InsideCode, SteadyRewrites}
use Rattle.mini_peephole.specs.Rules.{Gives, Rests, LooseGives, LooseRests, SteadyGives, SteadyRests, AllGives, AllRests}
use Rattle.mini_peephole.proofs.CodeLawful.{steady_rows_code, lexical_code, block_code}
use Rattle.mini_peephole.proofs.Everywhere.{everywhere_with}
use Rattle.mini_peephole.proofs.Known.{less_is_known}
use Rattle.mini_peephole.proofs.SteadyKnown.{known_join, known_narrowed, steady_known}
use Rattle.mini_peephole.proofs.ToldExactly.{told_within}
use Rattle.mini_unused.specs.Allowed.{allowed_in}

-- the rows of the rules are among the rows

of_branches : (o : Switches) (p : Position) (n w : Tree) → BranchRow p n w → Row o p n w
of_branches o p n w r = AsBranch r

of_turns : (o : Switches) (p : Position) (n w : Tree) → TurnRow p n w → Row o p n w
of_turns o p n w r = AsTurn r

logic_row : (o : Switches) (p : Position) (n w : Tree) → logic_law.LogicRow p n w → Row o p n w
logic_row o (Expr s) n w (inl r) = AsTest r
logic_row o (Expr s) n w (inr r) = of_turns o (Expr s) n w r
logic_row o (Stmt q) n w (inl r) = AsTest r
logic_row o (Stmt q) n w (inr (inl r)) = of_branches o (Stmt q) n w (inr (inr r))
logic_row o (Stmt q) n w (inr (inr r)) = of_turns o (Stmt q) n w r
logic_row o p n w r = AsTest r

first_row : (p : Position) (n w : Tree) → first.Row p n w → logic_law.LogicRow p n w
first_row (Expr s) n w r = inl r
first_row (Stmt q) n w r = inl r
first_row p n w r = r

module _ (o : CompressOptions) (q : Tree) where
  -- each rule makes what a row contracts

  bodies_contract : (p : Position) (t u : Tree) → bodies.Gives p t u → Contracts (switches o) p t u
  bodies_contract (Stmt s) t u r = record { row = of_branches (switches o) (Stmt s) t u (inr (inl r.0)); lighter = r.1 }
  bodies_contract p t u r = absurd r

  switches_contract : (p : Position) (t u : Tree) → switch.Gives p t u → Contracts (switches o) p t u
  switches_contract (Stmt s) t u r = record { row = of_branches (switches o) (Stmt s) t u (inl (inr r.0)); lighter = r.1 }
  switches_contract p t u r = absurd r

  returns_contract : (p : Position) (t u : Tree) → returns.Gives p t u → Contracts (switches o) p t u
  returns_contract (Stmt s) t u r = record { row = of_branches (switches o) (Stmt s) t u (inl (inl r.0)); lighter = r.1 }
  returns_contract p t u r = absurd r

  pub gives_contract : (p : Position) (t u : Tree) → Gives o q p t u → Contracts (switches o) p t u
  gives_contract p t u (inl r) = let c = logic.gives_contract p t u r in record { row = logic_row (switches o) p t u c.row; lighter = c.lighter }
  gives_contract p t u (inr (inl r)) = bodies_contract p t u r
  gives_contract p t u (inr (inr (inl r))) = returns_contract p t u r
  gives_contract p t u (inr (inr (inr (inl c)))) = record { row = AsSpelling c.row; lighter = c.lighter }
  gives_contract p t u (inr (inr (inr (inr (inl c))))) = record { row = AsList c.row; lighter = c.lighter }
  gives_contract p t u (inr (inr (inr (inr (inr (inl c)))))) = record { row = AsKey c.row; lighter = c.lighter }
  gives_contract p t u (inr (inr (inr (inr (inr (inr (inl c))))))) = record { row = AsChoice c.0.row c.1; lighter = c.0.lighter }
  gives_contract p t u (inr (inr (inr (inr (inr (inr (inr (inl c)))))))) = record { row = AsDeclaration c.row; lighter = c.lighter }
  gives_contract p t u (inr (inr (inr (inr (inr (inr (inr (inr (inl c))))))))) = record { row = AsFolding c.row; lighter = c.lighter }
  gives_contract p t u (inr (inr (inr (inr (inr (inr (inr (inr (inr (inl c)))))))))) = record { row = AsArrow c.row; lighter = c.lighter }
  gives_contract p t u (inr (inr (inr (inr (inr (inr (inr (inr (inr (inr (inl c))))))))))) = record { row = AsConstant c.row; lighter = c.lighter }
  gives_contract p t u (inr (inr (inr (inr (inr (inr (inr (inr (inr (inr (inr (inl c)))))))))))) = record { row = AsHeldKey c.row; lighter = c.lighter }
  gives_contract p t u (inr (inr (inr (inr (inr (inr (inr (inr (inr (inr (inr (inr (inl c))))))))))))) = record { row = AsBoolean c.row; lighter = c.lighter }
  gives_contract p t u (inr (inr (inr (inr (inr (inr (inr (inr (inr (inr (inr (inr (inr (inl c)))))))))))))) = record { row = AsDeMorgan c.row; lighter = c.lighter }
  gives_contract p t u (inr (inr (inr (inr (inr (inr (inr (inr (inr (inr (inr (inr (inr (inr (inl c))))))))))))))) = record { row = AsSequence c.row; lighter = c.lighter }
  gives_contract p t u (inr (inr (inr (inr (inr (inr (inr (inr (inr (inr (inr (inr (inr (inr (inr (inl c)))))))))))))))) = record { row = AsOperand c.row; lighter = c.lighter }
  gives_contract p t u (inr (inr (inr (inr (inr (inr (inr (inr (inr (inr (inr (inr (inr (inr (inr (inr (inl c))))))))))))))))) = record { row = AsNegation c.row; lighter = c.lighter }
  gives_contract p t u (inr (inr (inr (inr (inr (inr (inr (inr (inr (inr (inr (inr (inr (inr (inr (inr (inr (inl c)))))))))))))))))) = record { row = AsTemplate c.row; lighter = c.lighter }
  gives_contract p t u (inr (inr (inr (inr (inr (inr (inr (inr (inr (inr (inr (inr (inr (inr (inr (inr (inr (inr (inl c))))))))))))))))))) = switches_contract p t u c
  gives_contract p t u (inr (inr (inr (inr (inr (inr (inr (inr (inr (inr (inr (inr (inr (inr (inr (inr (inr (inr (inr c))))))))))))))))))) = record { row = AsLoopGuard c.row; lighter = c.lighter }

  pub loose_contract : (p : Position) (t u : Tree) → LooseGives o q p t u → Rewrites (switches o) (writable_in q) p t u
  loose_contract p t u (inl r) = inl (gives_contract p t u r)
  loose_contract p t u (inr c) = inr c

  pub loose_lawful : LawfulWith (let_go (switches o)) (writable_in q) (LooseGives o q)
  loose_lawful = loose_narrowed (LooseGives o q) (Rewrites (switches o) (writable_in q)) (let_go (switches o)) (writable_in q) loose_contract (all_loose (switches o) (writable_in q))

  -- where all have nothing to do, nothing is to be rewritten, as far as the weight fits 64 bits

  logic_settled : (p : Position) (t u : Tree) → weight p t < 2 ^ 64 → logic_law.Rests p t → logic_law.LogicRow p t u → weight p u < weight p t → ⊥
  logic_settled p t u small r row less = logic.rests_settle p t small r u (record { row = row; lighter = less })

  branch_settled : (p : Position) (t u : Tree) → weight p t < 2 ^ 64 → Rests o q p t → BranchRow p t u → weight p u < weight p t → ⊥
  branch_settled (Stmt s) t u small r (inl (inl row)) less = r.1.1.0 u row
  branch_settled (Stmt s) t u small r (inl (inr row)) less = r.1.1.1.1.1.1.1.1.1.1.1.1.1.1.1.1.1.1.0 u row
  branch_settled (Stmt s) t u small r (inr (inl row)) less = r.1.0 u row
  branch_settled (Stmt s) t u small r (inr (inr row)) less = logic_settled (Stmt s) t u small r.0 (inr (inl row)) less
  branch_settled p t u small r row less = absurd row

  turn_settled : (p : Position) (t u : Tree) → weight p t < 2 ^ 64 → Rests o q p t → TurnRow p t u → weight p u < weight p t → ⊥
  turn_settled (Expr s) t u small r row less = logic_settled (Expr s) t u small r.0 (inr row) less
  turn_settled (Stmt s) t u small r row less = logic_settled (Stmt s) t u small r.0 (inr (inr row)) less
  turn_settled p t u small r row less = absurd row

  arrow_settled : (p : Position) (t u : Tree) → Rests o q p t → ArrowRow p t u → ⊥
  arrow_settled (Expr s) t u r row = r.1.1.1.1.1.1.1.1.1.0 u row
  arrow_settled p t u r row = absurd row

  settled : (p : Position) (t u : Tree) → weight p t < 2 ^ 64 → Rests o q p t → Row (switches o) p t u → weight p u < weight p t → ⊥
  settled p t u small r (AsTest row) less = logic_settled p t u small r.0 (first_row p t u row) less
  settled p t u small r (AsSpelling row) less = r.1.1.1.0 u row
  settled p t u small r (AsBranch row) less = branch_settled p t u small r row less
  settled p t u small r (AsList row) less = r.1.1.1.1.0 u row
  settled p t u small r (AsKey row) less = r.1.1.1.1.1.0 u row
  settled p t u small r (AsChoice row e) less = r.1.1.1.1.1.1.0 small u (record { row = row; lighter = less }, e)
  settled p t u small r (AsDeclaration row) less = r.1.1.1.1.1.1.1.0 u row
  settled p t u small r (AsFolding row) less = r.1.1.1.1.1.1.1.1.0 u row
  settled p t u small r (AsTurn row) less = turn_settled p t u small r row less
  settled p t u small r (AsArrow row) less = arrow_settled p t u r row
  settled p t u small r (AsConstant row) less = r.1.1.1.1.1.1.1.1.1.1.0 small u (record { row = row; lighter = less })
  settled p t u small r (AsHeldKey row) less = r.1.1.1.1.1.1.1.1.1.1.1.0 u row
  settled p t u small r (AsBoolean row) less = r.1.1.1.1.1.1.1.1.1.1.1.1.0 small u (record { row = row; lighter = less })
  settled p t u small r (AsDeMorgan row) less = r.1.1.1.1.1.1.1.1.1.1.1.1.1.0 small u (record { row = row; lighter = less })
  settled p t u small r (AsSequence row) less = r.1.1.1.1.1.1.1.1.1.1.1.1.1.1.0 u row
  settled p t u small r (AsOperand row) less = r.1.1.1.1.1.1.1.1.1.1.1.1.1.1.1.0 u row
  settled p t u small r (AsNegation row) less = r.1.1.1.1.1.1.1.1.1.1.1.1.1.1.1.1.0 small u (record { row = row; lighter = less })
  settled p t u small r (AsTemplate row) less = r.1.1.1.1.1.1.1.1.1.1.1.1.1.1.1.1.1.0 small u (record { row = row; lighter = less })
  settled p t u small r (AsLoopGuard row) less = r.1.1.1.1.1.1.1.1.1.1.1.1.1.1.1.1.1.1.1 u row

  loose_settled : (p : Position) (t u : Tree) → weight p t < 2 ^ 64 → LooseRests o q p t → Rewrites (switches o) (writable_in q) p t u → ⊥
  loose_settled p t u small r (inl c) = settled p t u small r.0 c.row c.lighter
  loose_settled p t u small r (inr (inl c)) = r.1.0 u c.row
  loose_settled p t u small r (inr (inr (inl c))) = r.1.1.0 u c.row
  loose_settled p t u small r (inr (inr (inr (inl c)))) = r.1.1.1.0 u c
  loose_settled p t u small r (inr (inr (inr (inr (inl c))))) = r.1.1.1.1.0 u c
  loose_settled p t u small r (inr (inr (inr (inr (inr c))))) = r.1.1.1.1.1 u c.row

  rests_settle : (p : Position) (t : Tree) → weight p t < 2 ^ 64 → LooseRests o q p t → IsSettled (switches o) (writable_in q) p t
  rests_settle p t small r x = loose_settled p t x.to small r x.contracts

  mutual
    pub rests_everywhere : (p : Position) (t : Tree) → weight p t < 2 ^ 64 → Everywhere (LooseRests o q) p t → HasNoRedex (switches o) (writable_in q) p t
    rests_everywhere p (node h xs n ts) small r = (rests_settle p (node h xs n ts) small r.0, rest_in (child_position h p (count ts)) ts (omega (arith, small)) r.1)

    rest_in : (π : ℕ → Position) (ts : Trees) → weights π ts < 2 ^ 64 → EverywhereIn (LooseRests o q) π ts → EverywhereIn (IsSettled (switches o) (writable_in q)) π ts
    rest_in π none small r = tt
    rest_in π (t ▸ ts) small r = (rests_everywhere (π zero) t (omega (arith, small)) r.0, rest_in (λ i. π (suc i)) ts (omega (arith, small)) r.1)

-- ---- of those that rest on what is known of bodies

steady_lawful : (K : Shape → Bool) (L : Liberties) (S : BodySets) → LawfulRooted K L.writable S (SteadyRewrites S L)
steady_lawful K L S =
    let W = L.writable in
    let Past = Either (PastFunction S L) (PastArrow S L) in
    let Others = Either (PastModule S L) (PastStatic S L) in
    let Blocks = AnyCode (PastBlocks L.switches) S in
    let Members = AnyCode (SteadyRowsIn L.switches.edition) S in
    rooted_join (Either Members (AnyCode LexicalRows S)) (Either (PastCode S L) (InsideCode S L)) K W S (rooted_join Members (AnyCode LexicalRows S) K W S (steady_rows_code K W S L.switches.edition) (lexical_code K W S))
    (rooted_join (PastCode S L) (InsideCode S L) K W S
    (rooted_join (Either Past Others) Blocks K W S
    (rooted_join Past Others K W S (steady_is_rooted Past K W S (past_code_lawful K L S)) (rooted_join (PastModule S L) (PastStatic S L) K W S (past_modules_are_lawful K L S) (past_statics_are_lawful K L S)))
    (block_code L.switches K W S))
    (rooted_join (InsideContracts L) (PastInside S L) K W S (steady_is_rooted (InsideContracts L) K W S (loose_is_steady (InsideContracts L) K W S (inside_loose K L))) (past_inside_is_lawful K L S)))

-- ---- all rules

pub all_lawful : LawfulFor exactly_of AllGives
all_lawful o q e =
    let K = let_go (switches o) in
    let W = writable_in q in
    let S = exactly_of q in
    rooted_join (LooseGives o q) (SteadyGives o q) K W S (steady_is_rooted (LooseGives o q) K W S (loose_is_steady (LooseGives o q) K W S (loose_lawful o q)))
    (rooted_wider (SteadyGives o q) K W W (told_in q) S (λ x k. k) (told_within q e) (steady_lawful K (allowed_in o q) (told_in q)))

-- they keep what is known of bodies
pub all_known : KnownStays exactly_of AllGives
all_known o q =
    let K = let_go (switches o) in
    let W = writable_in q in
    known_join (LooseGives o q) (SteadyGives o q)
    (known_narrowed (LooseGives o q) (Rewrites (switches o) W) (loose_contract o q)
    (less_is_known K W none_steady (Rewrites (switches o) W) (loose_is_steady (Rewrites (switches o) W) K W none_steady (all_loose (switches o) W)) (rewrites_read_less (switches o) W)))
    (steady_known K (told_in q) (allowed_in o q))

-- where they all rest nothing is left
pub all_rest : (o : CompressOptions) (u : Tree) → weight Elsewhere u < 2 ^ 64 → Everywhere (AllRests o u) Elsewhere u → IsRewritten o u
all_rest o u small r =
    let each = AllRests o u in (
      rests_everywhere o u Elsewhere u small (everywhere_with each each (LooseRests o u) (λ p t x y. x.0) Elsewhere u r r),
      everywhere_with each each (SteadyRests o u) (λ p t x y. x.1) Elsewhere u r r,
    )
