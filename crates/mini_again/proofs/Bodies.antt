-- Rows that rest on what is known of the body around survive.
use Rattle.std.proofs.Common.{inl, inr, subst₂}
use Rattle.std.proofs.Math.Path.{fun_ext}
use Rattle.mini_model.specs.Rewriting.{Everywhere}
use Rattle.mini_kept.specs.Without.{BodySets}
use Rattle.mini_model.specs.declared.place.Position.{Position}
use Rattle.mini_model.specs.declared.place.Position.TheVariants.{Stmt, Elsewhere}
use Rattle.mini_model.specs.Tree.{Tree}
use Rattle.mini_rows.specs.Editions.{SteadyRowsIn}
use Rattle.mini_rows.specs.PastBlocks.{PastBlocks}
use Rattle.mini_rows.specs.Steady.{OwnRows, LexicalRows}
use Rattle.mini_rows.specs.Switches.{Switches, liberties}
use Rattle.mini_again.specs.Again.{Renaming, again, sets_with_others, with_others_in}
use Rattle.mini_again.specs.Families.{OwnSurvives, BodiesSurvive, OwnCodeRow, PastCodeRow, InsideCodeRow, BodyRewrites, BodyRewritesSurvive, NothingIsLeftInBodies}
use Rattle.mini_again.proofs.Everywhere.{everywhere_again}
use Rattle.mini_again.proofs.InsideAgain.{inside_contracts_again}
use Rattle.mini_again.proofs.LexicalAgain.{lexical_row_again}
use Rattle.mini_again.proofs.OwnAgain.{own_code_again, own_program_again, own_part_again}
use Rattle.mini_again.proofs.PastAgain.{past_function_again}
use Rattle.mini_again.proofs.PastArrowsAgain.{past_arrow_again}
use Rattle.mini_again.proofs.PastBlocksAgain.{past_block_row_again, past_statement_row_again}
use Rattle.mini_again.proofs.PastInsideAgain.{past_inside_again}
use Rattle.mini_again.proofs.PastModulesAgain.{past_module_again}
use Rattle.mini_again.proofs.PastStaticsAgain.{past_static_again}
use Rattle.mini_again.proofs.SteadyAgain.{steady_rows_again}

past_blocks_again : (o : Switches) → OwnSurvives (PastBlocks o)
past_blocks_again o ρ V (Stmt q) n w r = past_statement_row_again ρ o V n w r
past_blocks_again o ρ V Elsewhere n w r = past_block_row_again ρ o V n w r
past_blocks_again o ρ V p n w r = absurd r

lexical_rows_again : OwnSurvives LexicalRows
lexical_rows_again ρ V p n w r = lexical_row_again ρ V.unshared p n w r

own_again : (F : OwnRows) → OwnSurvives F → (ρ : Renaming) (S : BodySets) (p : Position) (n w : Tree) → OwnCodeRow F (sets_with_others ρ S) p n w → OwnCodeRow F S p (again ρ n) (again ρ w)
own_again F survives ρ S p n w (inl (inl r)) = inl (inl (own_code_again F survives ρ S p n w r))
own_again F survives ρ S p n w (inl (inr r)) = inl (inr (own_program_again F survives ρ S p n w r))
own_again F survives ρ S p n w (inr r) = inr (own_part_again F survives ρ S p n w r)

past_again : BodiesSurvive PastCodeRow
past_again ρ S W p n w (inl (inl (inl r))) = inl (inl (inl (past_function_again ρ S W p n w r)))
past_again ρ S W p n w (inl (inl (inr r))) = inl (inl (inr (past_arrow_again ρ S W p n w r)))
past_again ρ S W p n w (inl (inr (inl r))) = inl (inr (inl (past_module_again ρ S W p n w r)))
past_again ρ S W p n w (inl (inr (inr r))) = inl (inr (inr (past_static_again ρ S W p n w r)))
past_again ρ S W p n w (inr r) = inr (own_again (PastBlocks W.switches) (past_blocks_again W.switches) ρ S p n w r)

inside_again : BodiesSurvive InsideCodeRow
inside_again ρ S W p n w (inl r) = inl (inside_contracts_again ρ W p n w r)
inside_again ρ S W p n w (inr r) = inr (past_inside_again ρ S W p n w r)

pub body_rewrites_survive : BodyRewritesSurvive
body_rewrites_survive ρ S W p n w (inl (inl r)) = inl (inl (own_again (SteadyRowsIn W.switches.edition) (steady_rows_again W.switches.edition) ρ S p n w r))
body_rewrites_survive ρ S W p n w (inl (inr r)) = inl (inr (own_again LexicalRows lexical_rows_again ρ S p n w r))
body_rewrites_survive ρ S W p n w (inr (inl r)) = inr (inl (past_again ρ S W p n w r))
body_rewrites_survive ρ S W p n w (inr (inr r)) = inr (inr (inside_again ρ S W p n w r))

pub nothing_is_left_in_bodies : NothingIsLeftInBodies
nothing_is_left_in_bodies ρ R S sets o W V same p t d =
    subst₂ (λ Q U. Everywhere (λ q n. (w : Tree) → BodyRewrites Q (liberties o U) q n w → ⊥) p t) (fun_ext sets) (fun_ext same)
    (everywhere_again ρ (λ q n. (w : Tree) → BodyRewrites S (liberties o V) q n w → ⊥) (λ q n. (w : Tree) → BodyRewrites (sets_with_others ρ S) (liberties o (with_others_in ρ V)) q n w → ⊥) (λ q n rests w r. rests (again ρ w) (body_rewrites_survive ρ S (liberties o V) q n w r)) p t d)
