-- The rows of lists as one relation.
use Rattle.std.specs.Prelude.{◌≡◌, refl, true}
use Rattle.std.proofs.Common.{inl, inr}
use Rattle.mini_model.specs.declared.place.Position.{Position}
use Rattle.mini_model.specs.declared.place.Position.TheVariants.{StatementList, BodyList}
use Rattle.mini_model.specs.Paths.{append}
use Rattle.mini_model.specs.Tree.{Tree, Trees, listed}
use Rattle.mini_kept.specs.Placed.{is_statement_list}
use Rattle.mini_rows.specs.Lists.{EachIn, EachOf, AtEnd, SequencesRow, EndRow, NeighbourRow, ListRow, ListContracts, bare_return}
use Rattle.mini_rows.specs.Switches.{Switches}
use Rattle.mini_less.specs.Families.{LessAt, NeighboursLess}
use Rattle.mini_less.specs.ListFamilies.{HeadRowsLess, EnterRowsLess, ListsReadLess}
use Rattle.mini_less.proofs.LessRows.{reads_less_by}
use Rattle.mini_less.proofs.ListHeads.{row_67_less, row_67_absent_less, row_67_in_less, row_68_free_less, row_68_init_less, row_74_less, row_75_less, row_75_block_less, row_77_leap_less}
use Rattle.mini_less.proofs.EntersLess.{row_69_less, row_70_less}
use Rattle.mini_less.proofs.ListLeft.{row_77_unreached_less}
use Rattle.mini_less.proofs.ListJoins.{row_68_less}
use Rattle.mini_less.proofs.ListRowsLess.{list_rows_less}
use Rattle.mini_less.proofs.MoreRowsLess.{more_rows_less}

pub head_rows_less : HeadRowsLess
head_rows_less = record {
  row_67 = row_67_less;
  row_67_absent = row_67_absent_less;
  row_67_in = row_67_in_less;
  row_68 = row_68_less;
  row_68_free = row_68_free_less;
  row_68_init = row_68_init_less;
  row_74 = row_74_less;
  row_75 = row_75_less bare_return;
  row_75_block = row_75_block_less bare_return refl;
  row_77_leap = row_77_leap_less;
  row_77_unreached = row_77_unreached_less;
}

module _ (p : Position) (l : is_statement_list p ≡ true) (n w : Tree) (before read put after : Trees) (e : n ≡ listed (append before (append read after))) (f : w ≡ listed (append before (append put after))) where
  by : (R : Trees → Trees → Type 0) → NeighboursLess R → R read put → LessAt p n w
  by R less r = less p l n w (record { before = before; read = read; put = put; after = after; row = r; shape = e; written = f })

  sequences : SequencesRow read put → LessAt p n w
  sequences (inl r) = by _ list_rows_less.row_66_joined r
  sequences (inr (inl r)) = by _ list_rows_less.row_73_return r
  sequences (inr (inr (inl r))) = by _ list_rows_less.row_73_throw r
  sequences (inr (inr (inr (inl r)))) = by _ list_rows_less.row_73_bare r
  sequences (inr (inr (inr (inr (inl r))))) = by _ row_67_less r
  sequences (inr (inr (inr (inr (inr (inl r)))))) = by _ row_67_absent_less r
  sequences (inr (inr (inr (inr (inr (inr r)))))) = by _ list_rows_less.row_76 r

  neighbours : (o : Switches) → NeighbourRow o read put → LessAt p n w
  neighbours o (inl (inl r)) = by _ list_rows_less.row_66_empty r
  neighbours o (inl (inr (inl r))) = by _ list_rows_less.row_79 r
  neighbours o (inl (inr (inr (inl (inl r))))) = by _ row_68_less r.1
  neighbours o (inl (inr (inr (inl (inr (s, inl r)))))) = by _ row_67_in_less r
  neighbours o (inl (inr (inr (inl (inr (s, inr (inl r))))))) = by _ row_68_free_less r
  neighbours o (inl (inr (inr (inl (inr (s, inr (inr r))))))) = by _ row_68_init_less r
  neighbours o (inl (inr (inr (inr r)))) = sequences r.1
  neighbours o (inr (inl (s, inl r))) = by _ row_74_less r
  neighbours o (inr (inl (s, inr (inl r)))) = by _ more_rows_less.row_77 r
  neighbours o (inr (inl (s, inr (inr (inl r))))) = by _ row_77_leap_less r
  neighbours o (inr (inl (s, inr (inr (inr r))))) = by _ row_77_unreached_less r
  neighbours o (inr (inr (inl r))) = by _ row_70_less r
  neighbours o (inr (inr (inr (inl r)))) = by _ (row_69_less EachOf) r
  neighbours o (inr (inr (inr (inr (s, r))))) = by _ (row_69_less EachIn) r

last : (o : Switches) (p : Position) → is_statement_list p ≡ true → (n w : Tree) → AtEnd (EndRow o bare_return) n w → LessAt p n w
last o p l n w r = by r.row
  where
    by : EndRow o bare_return r.read r.put → LessAt p n w
    by (inl x) = more_rows_less.row_78 p l n w (record { before = r.before; read = r.read; put = r.put; row = x; shape = r.shape; written = r.written })
    by (inr (s, inl x)) = row_75_less bare_return p l n w (record { before = r.before; read = r.read; put = r.put; row = x; shape = r.shape; written = r.written })
    by (inr (s, inr x)) = row_75_block_less bare_return refl p l n w (record { before = r.before; read = r.read; put = r.put; row = x; shape = r.shape; written = r.written })

of_row : (o : Switches) (p : Position) (n w : Tree) → ListRow o p n w → LessAt p n w
of_row o StatementList n w r = neighbours StatementList refl n w r.before r.read r.put r.after r.shape r.written o r.row
of_row o BodyList n w (inl r) = neighbours BodyList refl n w r.before r.read r.put r.after r.shape r.written o r.row
of_row o BodyList n w (inr r) = last o BodyList refl n w r
of_row o p n w r = absurd r

pub enter_rows_less : EnterRowsLess
enter_rows_less = record { row_69 = row_69_less; row_70 = row_70_less }

pub lists_read_less : ListsReadLess
lists_read_less o = (reads_less_by (ListRow o) (of_row o), reads_less_by (ListContracts o) (λ p n w r. of_row o p n w r.row))
