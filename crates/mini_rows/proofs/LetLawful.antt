-- What is written for a `let` and the assignment of a value after it, or for a lexical declaration that never runs, keeps all that a program has to keep, where the name can be written.
use Rattle.std.proofs.Common.{◌≡◌, Bool, true, refl, inl, inr}
use Rattle.mini_model.specs.declared.kind.VariableDeclarationKind.TheVariants.{Let}
use Rattle.mini_model.specs.declared.place.Position.{Position}
use Rattle.mini_model.specs.declared.place.Position.TheVariants.{StatementList, BodyList}
use Rattle.mini_model.specs.Tree.{Tree, Trees, none}
use Rattle.mini_accept.specs.WellShaped.{Slot, fits}
use Rattle.mini_laws.specs.Value.{VariableSet}
use Rattle.mini_kept.specs.KeepsFrames.{is_body_slot}
use Rattle.mini_kept.specs.KeepsNames.{is_rewritten_place}
use Rattle.mini_kept.specs.KeepsShapes.{AskedAlike}
use Rattle.mini_kept.specs.Placed.{fits_place}
use Rattle.mini_kept.proofs.FrameSteps.{kept_are_shown}
use Rattle.mini_rows.specs.Arranged.{KeptLoosely}
use Rattle.mini_rows.specs.DeadCases.{known}
use Rattle.mini_rows.specs.Lets.{LetsRow, LetRow, LetsAreLawful}
use Rattle.mini_rows.specs.Lists.{InList, resolved}
use Rattle.mini_rows.proofs.ArrangedLawful.{kept_loosely}
use Rattle.mini_rows.proofs.BodyLists.{same_place, same_slot, body_loosely}
use Rattle.mini_rows.proofs.DeadCaseMeaning.{known_declares}
use Rattle.mini_rows.proofs.DeadLexicalKept.{lexical_kept}
use Rattle.mini_rows.proofs.DeadLexicalWeights.{lexical_fits}
use Rattle.mini_rows.proofs.LetMeaning.{lets_same, lets_read}
use Rattle.mini_rows.proofs.ListKeptBegun.{let_kept}
use Rattle.mini_rows.proofs.ListLawful.{list_asked, list_slot}
use Rattle.mini_rows.proofs.ListShapes.{Fitting, like, begun_fit, stretch_in_list}

row_fits : (W : VariableSet) (strict : Bool) (a b : Trees) → LetsRow W a b → Fitting strict a b
row_fits W strict a b (inl r) = like strict r.shape r.written (begun_fit strict Let r.ds (resolved r.spelling r.symbol) (resolved r.spelling r.symbol) none (known r.value) r.beginning (known_declares r.value) r.parts)
row_fits W strict a b (inr r) = lexical_fits strict a b r

list_fits : (W : VariableSet) (n w : Tree) → InList (LetsRow W) n w → (strict : Bool) (s : Slot) → fits_place StatementList s ≡ true → fits strict s n ≡ true → fits strict s w ≡ true
list_fits W = stretch_in_list (LetsRow W) (row_fits W)

row_kept : (W : VariableSet) (n w : Tree) → InList (LetsRow W) n w → KeptLoosely StatementList n w
row_kept W n w r = by r.row
  where
    by : LetsRow W r.read r.put → KeptLoosely StatementList n w
    by (inl m) = kept_loosely StatementList n w (let_kept W n w (record { before = r.before; read = r.read; put = r.put; after = r.after; row = m; shape = r.shape; written = r.written }))
    by (inr m) = lexical_kept r.before r.after n w r.read r.put m r.shape r.written

kept : (W : VariableSet) (p : Position) (n w : Tree) → LetRow W p n w → KeptLoosely p n w
kept W StatementList n w r = row_kept W n w r
kept W BodyList n w r = body_loosely n w (row_kept W n w r)
kept W p n w r = absurd r

place : (W : VariableSet) (p : Position) (n w : Tree) → LetRow W p n w → is_rewritten_place p ≡ true
place W StatementList n w r = refl
place W BodyList n w r = refl
place W p n w r = absurd r

slot : (W : VariableSet) (p : Position) (n w : Tree) → LetRow W p n w → (strict : Bool) (s : Slot) → fits_place p s ≡ true → fits strict s n ≡ true → is_body_slot p s ≡ true
slot W StatementList n w r strict s k e = list_slot (LetsRow W) n w r strict s k e
slot W BodyList n w r strict s k e = same_slot s (list_slot (LetsRow W) n w r strict s (same_place s k) e)
slot W p n w r strict s k e = absurd r

fitting : (W : VariableSet) (p : Position) (n w : Tree) → LetRow W p n w → (strict : Bool) (s : Slot) → fits_place p s ≡ true → fits strict s n ≡ true → fits strict s w ≡ true
fitting W StatementList n w r strict s k e = list_fits W n w r strict s k e
fitting W BodyList n w r strict s k e = list_fits W n w r strict s (same_place s k) e
fitting W p n w r strict s k e = absurd r

asked : (W : VariableSet) (p : Position) (n w : Tree) → LetRow W p n w → AskedAlike p n w
asked W StatementList n w r = list_asked (LetsRow W) StatementList n w r
asked W BodyList n w r = list_asked (LetsRow W) BodyList n w r
asked W p n w r = absurd r

pub lets_lawful : LetsAreLawful
lets_lawful K W = record {
  shapes = record { fitting = λ p n w c strict s k e. fitting W p n w c.row strict s k e; asked = λ p n w c. asked W p n w c.row };
  places = record {
    names = record { places = λ p n w c. inl (place W p n w c.row); pieces = λ p n w c. (kept W p n w c.row).piece; keeps = λ p n w c. (kept W p n w c.row).keeps };
    slots = λ p n w c strict s k e. inl (inl (slot W p n w c.row strict s k e));
    ports = λ p n w c strict d e m. inl ((kept W p n w c.row).ports strict d e m);
    listed = λ p n w e c. (kept W p n w c.row).listed e;
    exported = λ p n w c strict e. inl ((kept W p n w c.row).exported strict e);
  };
  reads = λ p n w c. lets_read W p n w c.row;
  kind = λ p n w c. (kept W p n w c.row).kind;
  declared = λ p n w c. (kept W p n w c.row).declared;
  instances = λ p n w c.
      let k = kept W p n w c.row in
      inl (record { same = lets_same W p n w c.row; fixed = k.fixed; frames = λ strict s x e. kept_are_shown n w (k.frames strict s x e); bodies = k.bodies });
}
