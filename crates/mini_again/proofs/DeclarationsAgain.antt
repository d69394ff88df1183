-- Rows of declarations read a node that is read again.
use Rattle.mini_again.proofs.InListAgain.{in_list_again}
use Rattle.mini_again.proofs.ModelPathsAgain.{append_again}
use Rattle.mini_again.proofs.SpellingsAgain.{is_undefined_again}
use Rattle.mini_again.specs.Again.{Renaming, again, all_again}
use Rattle.mini_laws.specs.Renaming.{rename_name}
use Rattle.mini_model.specs.Tree.{Tree, Trees, absent, ◌▸◌}
use Rattle.mini_model.specs.declared.place.Position.{Position}
use Rattle.mini_model.specs.declared.place.Position.TheVariants.{BodyList, StatementList, Stmt}
use Rattle.mini_rows.specs.Declarations.{Alone, DeclarationRow, Exported, Item, Row61, Row61For, Row61Item, held}
use Rattle.mini_rows.specs.Lists.{binding, declarator}
use Rattle.std.proofs.Common.{ap}
use Rattle.std.specs.Prelude.{refl, ◌≡◌}

abbrev pub again_item : Renaming → Item → Item
again_item ρ Alone = Alone
again_item ρ (Exported a0 a1) = Exported (again ρ a0) (again ρ a1)

pub row61_again : (ρ : Renaming) (n w : Tree) → Row61 n w → Row61 (again ρ n) (again ρ w)
row61_again ρ n w r = record {
  before = all_again ρ r.before;
  name = rename_name ρ.symbol r.name;
  init = again ρ r.init;
  after = all_again ρ r.after;
  undefined = is_undefined_again ρ r.init r.undefined;
  shape = simp (← (append_again ρ r.before (declarator (binding r.name) r.init ▸ r.after))) at (ap (again ρ) r.shape);
  written = simp (← (append_again ρ r.before (declarator (binding r.name) absent ▸ r.after))) at (ap (again ρ) r.written);
}

pub row61_for_again : (ρ : Renaming) (n w : Tree) → Row61For n w → Row61For (again ρ n) (again ρ w)
row61_for_again ρ n w r = record {
  declared = again ρ r.declared;
  bare = again ρ r.bare;
  test = again ρ r.test;
  update = again ρ r.update;
  body = again ρ r.body;
  row = row61_again ρ r.declared r.bare r.row;
  shape = ap (again ρ) r.shape;
  written = ap (again ρ) r.written;
}

pub held_again : (ρ : Renaming) (i : Item) (d : Tree) → held (again_item ρ i) (again ρ d) ≡ again ρ (held i d)
held_again ρ Alone d = refl
held_again ρ (Exported specifiers source) d = refl

pub row61_item_again : (ρ : Renaming) (a b : Trees) → Row61Item a b → Row61Item (all_again ρ a) (all_again ρ b)
row61_item_again ρ a b r = record {
  item = again_item ρ r.item;
  declared = again ρ r.declared;
  bare = again ρ r.bare;
  row = row61_again ρ r.declared r.bare r.row;
  shape = simp (← (held_again ρ r.item r.declared)) at (ap (all_again ρ) r.shape);
  written = simp (← (held_again ρ r.item r.bare)) at (ap (all_again ρ) r.written);
}

pub declaration_row_again : (ρ : Renaming) (p : Position) (n w : Tree) → DeclarationRow p n w → DeclarationRow p (again ρ n) (again ρ w)
declaration_row_again ρ StatementList n w r = in_list_again ρ (row61_item_again ρ) n w r
declaration_row_again ρ BodyList n w r = in_list_again ρ (row61_item_again ρ) n w r
declaration_row_again ρ (Stmt q) n w r = row61_for_again ρ n w r
declaration_row_again ρ p0 n w r = absurd r
