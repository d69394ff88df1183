-- What the rows of lists write is lawful.
use Rattle.std.proofs.Common.{◌≡◌, Bool, true, [], refl, sym, subst, ap, inl, inr}
use Rattle.mini_model.specs.declared.place.Position.{Position}
use Rattle.mini_model.specs.declared.place.Position.TheVariants.{StatementList, BodyList}
use Rattle.mini_model.specs.declared.shape.Shape.{Shape}
use Rattle.mini_model.specs.Tree.{Tree, Trees, listed}
use Rattle.mini_model.specs.Paths.{append}
use Rattle.mini_accept.specs.WellShaped.{Slot, fits}
use Rattle.mini_kept.specs.KeepsFrames.{is_body_slot}
use Rattle.mini_kept.specs.KeepsNames.{is_rewritten_place}
use Rattle.mini_kept.specs.KeepsShapes.{AskedAlike, KeepsShapes}
use Rattle.mini_kept.specs.Lawful.{Lawful}
use Rattle.mini_kept.specs.Loosely.{LawfulLoosely}
use Rattle.mini_kept.specs.Placed.{fits_place}
use Rattle.mini_kept.proofs.Placed.{listed_body_slot}
use Rattle.mini_rows.specs.Switches.{Switches}
use Rattle.mini_rows.specs.Arranged.{WhereFixed, KeptAt, KeptLoosely}
use Rattle.mini_rows.specs.Lists.{Head, Return, Throw, If, Switch, For, Row67, SequencesRow, LoopRow, JoinRow, StretchRow, InList, ListRow, ListContracts, NeighbourRow, EndRow, bare_return, EachIn, EachOf}
use Rattle.mini_rows.specs.ListLaws.{opens_scope, PlainRow}
use Rattle.mini_rows.proofs.ArrangedLawful.{kept_is_loose, fixed_is_lawful, kept_loosely}
use Rattle.mini_rows.proofs.ListEndsKept.{end_kept, end_fits}
use Rattle.mini_rows.proofs.ListWeights.{end_in_list}
use Rattle.mini_rows.proofs.ListKept.{plain_lists_kept, guards_kept, row_77_kept}
use Rattle.mini_rows.proofs.ListKeptBegun.{begun_kept}
use Rattle.mini_rows.proofs.ListKeptEach.{each_kept}
use Rattle.mini_rows.proofs.ListKeptLeaps.{leap_kept}
use Rattle.mini_rows.proofs.ListKeptUnreached.{unreached_kept}
use Rattle.mini_rows.proofs.ListKeptDeclarations.{declarations_kept}
use Rattle.mini_rows.proofs.ListKeptHeads.{absent_for_kept, for_kept, switch_kept}
use Rattle.mini_rows.proofs.ListKeptVars.{free_kept, init_kept}
use Rattle.mini_rows.proofs.ListKeptKeys.{keys_kept}
use Rattle.mini_rows.proofs.ListMeanings.{lists_mean_same}
use Rattle.mini_rows.proofs.ListShapes.{list_fits}
use Rattle.mini_rows.proofs.BodyLists.{same_place, same_slot, body_kept, body_loosely}

-- ---- whichever row it is

module _ (o : Switches) (n w : Tree) (r : InList (NeighbourRow o) n w) where
  plainly : PlainRow r.read r.put → KeptAt StatementList n w
  plainly m = plain_lists_kept n w (record { before = r.before; read = r.read; put = r.put; after = r.after; row = m; shape = r.shape; written = r.written })

  headed : (h : Head) (m : Row67 r.read r.put) → m.head ≡ h → KeptAt StatementList n w
  headed Return m e = plainly (inr (record { row = m; plain = ap opens_scope e }))
  headed Throw m e = plainly (inr (record { row = m; plain = ap opens_scope e }))
  headed (If u v) m e = plainly (inr (record { row = m; plain = ap opens_scope e }))
  headed (Switch cases) m e = switch_kept r.before r.after n w r.read r.put cases m e r.shape r.written
  headed (For u v b) m e = for_kept r.before r.after n w r.read r.put u v b m e r.shape r.written

  sequences_kept : SequencesRow r.read r.put → KeptAt StatementList n w
  sequences_kept (inl m) = plainly (inl (inr (inl m)))
  sequences_kept (inr (inl m)) = plainly (inl (inr (inr (inr (inl m)))))
  sequences_kept (inr (inr (inl m))) = plainly (inl (inr (inr (inr (inr (inl m))))))
  sequences_kept (inr (inr (inr (inl m)))) = plainly (inl (inr (inr (inr (inr (inr (inl m)))))))
  sequences_kept (inr (inr (inr (inr (inl m))))) = headed m.head m refl
  sequences_kept (inr (inr (inr (inr (inr (inl m)))))) = absent_for_kept r.before r.after n w r.read r.put m r.shape r.written
  sequences_kept (inr (inr (inr (inr (inr (inr m)))))) = plainly (inl (inr (inr (inr (inr (inr (inr m)))))))

  loops_kept : LoopRow r.read r.put → KeptAt StatementList n w
  loops_kept (inl m) = keys_kept r.before r.after n w r.read r.put m r.shape r.written
  loops_kept (inr (inl m)) = free_kept r.before r.after n w r.read r.put m r.shape r.written
  loops_kept (inr (inr m)) = init_kept r.before r.after n w r.read r.put m r.shape r.written

  joins_kept : JoinRow o r.read r.put → KeptAt StatementList n w
  joins_kept (inl m) = declarations_kept r.before r.after n w r.read r.put m.1 r.shape r.written
  joins_kept (inr m) = loops_kept m.1

  row_kept : StretchRow o r.read r.put → KeptAt StatementList n w
  row_kept (inl m) = plainly (inl (inl m))
  row_kept (inr (inl m)) = plainly (inl (inr (inr (inl m))))
  row_kept (inr (inr (inl m))) = joins_kept m
  row_kept (inr (inr (inr m))) = sequences_kept m.1

  strictly : KeptAt StatementList n w → KeptLoosely StatementList n w
  strictly k = kept_loosely StatementList n w k

  neighbours_kept : NeighbourRow o r.read r.put → KeptLoosely StatementList n w
  neighbours_kept (inl m) = strictly (row_kept m)
  neighbours_kept (inr (inr (inr (inl m)))) = strictly (each_kept EachOf r.before r.after n w r.read r.put m r.shape r.written)
  neighbours_kept (inr (inr (inr (inr m)))) = strictly (each_kept EachIn r.before r.after n w r.read r.put m.1 r.shape r.written)
  neighbours_kept (inr (inr (inl m))) = strictly (begun_kept r.before r.after n w r.read r.put m r.shape r.written)
  neighbours_kept (inr (inl (s, inl m))) = strictly (guards_kept n w (record { before = r.before; read = r.read; put = r.put; after = r.after; row = m; shape = r.shape; written = r.written }))
  neighbours_kept (inr (inl (s, inr (inr (inl m))))) = strictly (leap_kept r.before r.after n w r.read r.put m r.shape r.written)
  neighbours_kept (inr (inl (s, inr (inr (inr m))))) = unreached_kept r.before r.after n w r.read r.put m r.shape r.written
  neighbours_kept (inr (inl (s, inr (inl m)))) = strictly (subst (λ t. KeptAt StatementList t w) (sym r.shape) (subst (KeptAt StatementList (listed (append r.before (append r.read r.after)))) (sym r.written) (row_77_kept r.before r.after r.read r.put m)))

  list_kept : KeptLoosely StatementList n w
  list_kept = neighbours_kept r.row

-- ---- what a parent asks of a list, and where lists stand

pub asked_of_lists : (p : Position) (ts us : Trees) → AskedAlike p (listed ts) (listed us)
asked_of_lists p ts us = record { absent = λ e. absurd (cc e); body = λ e. absurd (cc e); optional = λ e. absurd (cc e); number = λ e k. refl; spelled = λ s e. absurd (cc e); plain = refl }

pub list_asked : (R : Trees → Trees → Type 0) (p : Position) (n w : Tree) → InList R n w → AskedAlike p n w
list_asked R p n w r = subst (λ t. AskedAlike p t w) (sym r.shape) (subst (AskedAlike p (listed (append r.before (append r.read r.after)))) (sym r.written) (asked_of_lists p (append r.before (append r.read r.after)) (append r.before (append r.put r.after))))

pub list_slot : (R : Trees → Trees → Type 0) (n w : Tree) → InList R n w → (strict : Bool) (s : Slot) → fits_place StatementList s ≡ true → fits strict s n ≡ true → is_body_slot StatementList s ≡ true
list_slot R n w r strict s k e = listed_body_slot strict s [] 0 (append r.before (append r.read r.after)) k (subst (λ t. fits strict s t ≡ true) r.shape e)

module _ (o : Switches) where
  place : (p : Position) (n w : Tree) → ListRow o p n w → is_rewritten_place p ≡ true
  place StatementList n w r = refl
  place BodyList n w r = refl
  place p n w r = absurd r

  slot : (p : Position) (n w : Tree) → ListRow o p n w → (strict : Bool) (s : Slot) → fits_place p s ≡ true → fits strict s n ≡ true → is_body_slot p s ≡ true
  slot StatementList n w r strict s k e = list_slot (NeighbourRow o) n w r strict s k e
  slot BodyList n w (inl r) strict s k e = same_slot s (list_slot (NeighbourRow o) n w r strict s (same_place s k) e)
  slot BodyList n w (inr r) strict s k e = same_slot s (list_slot (EndRow o bare_return) n w (end_in_list (EndRow o bare_return) n w r) strict s (same_place s k) e)
  slot p n w r strict s k e = absurd r

  fitting : (p : Position) (n w : Tree) → ListRow o p n w → (strict : Bool) (s : Slot) → fits_place p s ≡ true → fits strict s n ≡ true → fits strict s w ≡ true
  fitting StatementList n w r strict s k e = list_fits o n w r strict s k e
  fitting BodyList n w (inl r) strict s k e = list_fits o n w r strict s (same_place s k) e
  fitting BodyList n w (inr r) strict s k e = end_fits o n w r strict s (same_place s k) e
  fitting p n w r strict s k e = absurd r

  asked : (p : Position) (n w : Tree) → ListRow o p n w → AskedAlike p n w
  asked StatementList n w r = list_asked (NeighbourRow o) StatementList n w r
  asked BodyList n w (inl r) = list_asked (NeighbourRow o) BodyList n w r
  asked BodyList n w (inr r) = list_asked (EndRow o bare_return) BodyList n w (end_in_list (EndRow o bare_return) n w r)
  asked p n w r = absurd r

  kept : (p : Position) (n w : Tree) → ListRow o p n w → KeptLoosely p n w
  kept StatementList n w r = list_kept o n w r
  kept BodyList n w (inl r) = body_loosely n w (list_kept o n w r)
  kept BodyList n w (inr r) = kept_loosely BodyList n w (body_kept n w (end_kept o n w r))
  kept p n w r = absurd r

  shapes_kept : KeepsShapes (ListContracts o)
  shapes_kept = record { fitting = λ p n w c. fitting p n w c.row; asked = λ p n w c. asked p n w c.row }

  pub lists_loose : (K : Shape → Bool) → LawfulLoosely K (ListContracts o)
  lists_loose = kept_is_loose (ListContracts o) (lists_mean_same o) shapes_kept (λ p n w c. place p n w c.row) (λ p n w c. slot p n w c.row) (λ p n w c. kept p n w c.row)

  pub lists_lawful : Lawful (WhereFixed (ListContracts o))
  lists_lawful = fixed_is_lawful (ListContracts o) (lists_mean_same o) shapes_kept (λ p n w c. place p n w c.row) (λ p n w c. slot p n w c.row) (λ p n w c. kept p n w c.row)
