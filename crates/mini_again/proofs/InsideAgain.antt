-- Rows of a `var` further inside a body read a node that is read again.
use Rattle.mini_again.proofs.LawPathAgain.{again_path, join_again, plug_again}
use Rattle.mini_again.proofs.LawScopeListAgain.{has_eval_again}
use Rattle.mini_again.proofs.ListsAgain.{declares_nothing_again}
use Rattle.mini_again.proofs.ModelPathsAgain.{append_again}
use Rattle.mini_again.proofs.ModelTreeAgain.{count_again, shape_of_again}
use Rattle.mini_again.proofs.ModelWeightAgain.{weight_again}
use Rattle.mini_again.proofs.NodeChildrenAgain.{is_bare_again}
use Rattle.mini_again.proofs.TermEffectsAgain.{ef_again}
use Rattle.mini_again.proofs.TermPartsAgain.{leaves_nothing_again}
use Rattle.mini_again.proofs.UnusedAgain.{any_names_again, block_row_again, head_left_again, names_again, row71_again, row71_next_again, row72_again, row72_idle_again}
use Rattle.mini_again.specs.Again.{Renaming, again, all_again, liberties_with_others_in, other_number}
use Rattle.mini_laws.specs.Path.{Path, here, inside, plug}
use Rattle.mini_model.specs.Paths.{append}
use Rattle.mini_model.specs.Tree.{Tree, Trees, absent, count, listed, none, ◌▸◌}
use Rattle.mini_model.specs.declared.kind.VariableDeclarationKind.TheVariants.{Var}
use Rattle.mini_model.specs.declared.place.Position.{Position}
use Rattle.mini_model.specs.declared.place.Position.TheVariants.{Elsewhere, Expr, Method, Stmt}
use Rattle.mini_rows.specs.Inside.{Arrow, EndRow, Ends, Function, HeadEnd, HeadNextEnd, HeldEnd, Holder, InsideAt, InsideContracts, InsideOf, ListEnd, Module, Static, above, declares_var, is_way_to, over, stands_at, unused_ends, way_in}
use Rattle.mini_rows.specs.Lists.{binding, block, declarator, resolved}
use Rattle.mini_rows.specs.Switches.{Liberties}
use Rattle.mini_rows.specs.Unused.{BlockRow, declared_among}
use Rattle.mini_rows.specs.declared.inside.Way.{Way}
use Rattle.std.proofs.Common.{ap, inl, inr, ◌∙◌}
use Rattle.std.specs.Prelude.{Option, Some, [], refl, true, zero, ◌≡◌}
use Rattle.mini_rows.specs.declared.inside.Way.TheVariants as way

abbrev pub again_holder : Renaming → Holder → Holder
again_holder ρ (Arrow a0 a1 a2) = Arrow a0 (other_number ρ a1) (all_again ρ a2)
again_holder ρ (Function a0 a1 a2 a3 a4 a5) = Function a0 a1 a2 (other_number ρ a3) (again ρ a4) (all_again ρ a5)
again_holder ρ (Module a) = Module a
again_holder ρ (Static a) = Static (other_number ρ a)

-- what goes is a `var` again
declares_var_again : (ρ : Renaming) (W : Liberties) (n w : Tree) (r : BlockRow (liberties_with_others_in ρ W) n w) → declares_var {W = W} {n = again ρ n} {w = again ρ w} (block_row_again ρ W n w r) ≡ declares_var {W = liberties_with_others_in ρ W} {n = n} {w = w} r
unfolding block_row_again row71_again row71_next_again row72_again row72_idle_again
declares_var_again ρ W n w (inl r) = refl
declares_var_again ρ W n w (inr (inl r)) = refl
declares_var_again ρ W n w (inr (inr (inl r))) = refl
declares_var_again ρ W n w (inr (inr (inr r))) = refl

pub head_end_again : (ρ : Renaming) (W : Liberties) (o : Trees) (n w : Tree) → HeadEnd (liberties_with_others_in ρ W) o n w → HeadEnd W (all_again ρ o) (again ρ n) (again ρ w)
head_end_again ρ W o n w r = record {
  first = all_again ρ r.first;
  spelling = r.spelling;
  symbol = ρ.symbol r.symbol;
  init = again ρ r.init;
  last = all_again ρ r.last;
  goes = r.goes;
  idle = simp (shape_of_again ρ r.init, is_bare_again ρ r.init 0, declares_nothing_again ρ r.init, ef_again ρ true r.init, leaves_nothing_again ρ r.init) r.idle;
  outside = simp (any_names_again ρ (resolved r.spelling r.symbol) o) r.outside;
  declared_earlier = simp (any_names_again ρ (resolved r.spelling r.symbol) r.first) r.declared_earlier;
  initial = simp (names_again ρ (resolved r.spelling r.symbol) r.init) r.initial;
  declared_later = simp (any_names_again ρ (resolved r.spelling r.symbol) r.last) r.declared_later;
  unseen = simp (append_again ρ r.first (declarator (binding (resolved r.spelling r.symbol)) r.init ▸ r.last), has_eval_again ρ (block (listed o ▸ (declared_among Var (resolved r.spelling r.symbol) r.first r.init r.last ▸ none)))) r.unseen;
  shape = simp (← (append_again ρ r.first (declarator (binding (resolved r.spelling r.symbol)) r.init ▸ r.last))) at (ap (again ρ) r.shape);
  written = simp (← (append_again ρ r.first r.last), ← (head_left_again ρ Var (append r.first r.last))) at (ap (again ρ) r.written);
}

pub head_next_end_again : (ρ : Renaming) (W : Liberties) (o : Trees) (n w : Tree) → HeadNextEnd (liberties_with_others_in ρ W) o n w → HeadNextEnd W (all_again ρ o) (again ρ n) (again ρ w)
unfolding row71_next_again
head_next_end_again ρ W o n w r = record {
  row = row71_next_again ρ W (block (listed o ▸ (n ▸ none))) (block (listed o ▸ (w ▸ none))) r.row;
  var = r.var;
}

pub held_end_again : (ρ : Renaming) (W : Liberties) (o : Trees) (n w : Tree) → HeldEnd (liberties_with_others_in ρ W) o n w → HeldEnd W (all_again ρ o) (again ρ n) (again ρ w)
held_end_again ρ W o n w r = record {
  row = block_row_again ρ W (block (listed o ▸ (n ▸ none))) (block (listed o ▸ (w ▸ none))) r.row;
  var = declares_var_again ρ W (block (listed o ▸ (n ▸ none))) (block (listed o ▸ (w ▸ none))) r.row ∙ r.var;
}

pub list_end_again : (ρ : Renaming) (W : Liberties) (o : Trees) (n w : Tree) → ListEnd (liberties_with_others_in ρ W) o n w → ListEnd W (all_again ρ o) (again ρ n) (again ρ w)
list_end_again ρ W o n w r = record {
  list = all_again ρ r.list;
  left = all_again ρ r.left;
  row = block_row_again ρ W (block (listed o ▸ r.list)) (block (listed o ▸ r.left)) r.row;
  var = declares_var_again ρ W (block (listed o ▸ r.list)) (block (listed o ▸ r.left)) r.row ∙ r.var;
  shape = ap (again ρ) r.shape;
  written = ap (again ρ) r.written;
}

pub end_row_again : (ρ : Renaming) (s : Way) (W : Liberties) (o : Trees) (n w : Tree) → EndRow s (liberties_with_others_in ρ W) o n w → EndRow s W (all_again ρ o) (again ρ n) (again ρ w)
end_row_again ρ way.Statements W o n w r = list_end_again ρ W o n w r
end_row_again ρ way.Held W o n w r = held_end_again ρ W o n w r
end_row_again ρ way.Head W o n w (inl r) = inl (head_end_again ρ W o n w r)
end_row_again ρ way.Head W o n w (inr r) = inr (head_next_end_again ρ W o n w r)
end_row_again ρ s W o n w r = absurd r

pub above_again : (ρ : Renaming) (here : Path) → above (again_path ρ here) ≡ all_again ρ (above here)
above_again ρ here = refl
above_again ρ (inside h xs n pre k post) = simp (join_again ρ pre absent post, above_again ρ k)

pub is_way_to_again : (ρ : Renaming) (e : Way) (s : Option Way) (k : Path) → is_way_to e s (again_path ρ k) ≡ is_way_to e s k
is_way_to_again ρ e (Some s) here = refl
is_way_to_again ρ e (Some s) (inside h [] zero pre k post) = ap (λ i. is_way_to e (way_in s h i) (again_path ρ k)) (count_again ρ pre) ∙ is_way_to_again ρ e (way_in s h (count pre)) k
is_way_to_again ρ e s k = refl

pub over_again : (ρ : Renaming) (h : Holder) (l : Tree) → over (again_holder ρ h) (again ρ l) ≡ again ρ (over h l)
over_again ρ (Arrow directives n parameters) l = refl
over_again ρ (Function is_declared is_generator directives n name parameters) l = refl
over_again ρ (Module directives) l = refl
over_again ρ (Static n) l = refl

unfoldable pub inside_of_again : (ρ : Renaming) (E D : Ends) → ((o : Trees) (z : Way) (n w : Tree) → E o z n w → D (all_again ρ o) z (again ρ n) (again ρ w)) → (n w : Tree) → InsideOf E n w → InsideOf D (again ρ n) (again ρ w)
inside_of_again ρ E D e n w r = record {
  holder = again_holder ρ r.holder;
  first = all_again ρ r.first;
  place = again_path ρ r.place;
  last = all_again ρ r.last;
  end = r.end;
  read = again ρ r.read;
  put = again ρ r.put;
  row = simp (← (over_again ρ r.holder absent), ← (append_again ρ r.first (absent ▸ r.last)), ← (above_again ρ r.place)) at (e (over r.holder absent ▸ (listed (append r.first (absent ▸ r.last)) ▸ above r.place)) r.end r.read r.put r.row);
  there = simp (is_way_to_again ρ r.end (Some way.Statement) r.place) r.there;
  shape = simp (← (plug_again ρ r.place r.read), ← (append_again ρ r.first (plug r.place r.read ▸ r.last)), ← (over_again ρ r.holder (listed (append r.first (plug r.place r.read ▸ r.last))))) at (ap (again ρ) r.shape);
  written = simp (← (plug_again ρ r.place r.put), ← (append_again ρ r.first (plug r.place r.put ▸ r.last)), ← (over_again ρ r.holder (listed (append r.first (plug r.place r.put ▸ r.last))))) at (ap (again ρ) r.written);
}

pub stands_at_again : (ρ : Renaming) (o : Holder) (p : Position) → stands_at (again_holder ρ o) p ≡ stands_at o p
stands_at_again ρ (Arrow directives n parameters) (Expr s) = refl
stands_at_again ρ (Function is_declared is_generator directives n name parameters) (Stmt q) = refl
stands_at_again ρ (Function is_declared is_generator directives n name parameters) (Expr s) = refl
stands_at_again ρ (Function is_declared is_generator directives n name parameters) Method = refl
stands_at_again ρ (Function is_declared is_generator directives n name parameters) Elsewhere = refl
stands_at_again ρ (Module directives) Elsewhere = refl
stands_at_again ρ (Static n) Elsewhere = refl
stands_at_again ρ o p = refl

pub inside_at_again : (ρ : Renaming) (E D : Ends) → ((o : Trees) (z : Way) (n w : Tree) → E o z n w → D (all_again ρ o) z (again ρ n) (again ρ w)) → (p : Position) (n w : Tree) → InsideAt E p n w → InsideAt D p (again ρ n) (again ρ w)
unfolding inside_of_again
inside_at_again ρ E D e p n w r = record {
  row = inside_of_again ρ E D e n w r.row;
  stands = simp (stands_at_again ρ r.row.holder p) r.stands;
  lighter = simp (weight_again ρ p w, weight_again ρ p n) r.lighter;
}

pub inside_contracts_again : (ρ : Renaming) (W : Liberties) (p : Position) (n w : Tree) → InsideContracts (liberties_with_others_in ρ W) p n w → InsideContracts W p (again ρ n) (again ρ w)
inside_contracts_again ρ W p n w r = inside_at_again ρ (unused_ends (liberties_with_others_in ρ W)) (unused_ends W) (λ o z n w r. end_row_again ρ z W o n w r) p n w r
