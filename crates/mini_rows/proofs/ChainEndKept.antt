-- What is written for an optional chain over null or undefined keeps all that a program has to keep.
use Rattle.std.proofs.Common.{◌≡◌, true, false, List, [], ◌∷◌, refl, sym, ap, ◌∙◌, inl, inr}
use Rattle.std.specs.Prelude.{◌++◌, pos}
use Rattle.std.proofs.lemmas.Bool.{and_parts}
use Rattle.mini_model.specs.declared.operator.UnaryOperator.TheVariants.{Void}
use Rattle.mini_model.specs.declared.place.Position.TheVariants.{Expr}
use Rattle.mini_model.specs.declared.seat.Seat.{Seat}
use Rattle.mini_model.specs.Tree.{Tree, none, ◌▸◌}
use Rattle.mini_kept.proofs.Bools.{both}
use Rattle.mini_kept.specs.KeepsLoosely.{has_member}
use Rattle.mini_rows.specs.Arranged.{KeptLoosely}
use Rattle.mini_rows.specs.Lists.{encloses}
use Rattle.mini_rows.specs.Sketches.{Chain, Unary, Number, part, under, end, ◌▹◌}
use Rattle.mini_rows.specs.Chains.{Link, linked, chain}
use Rattle.mini_rows.specs.ChainLinks.{Marked, marked, links_over}
use Rattle.mini_rows.specs.ChainEnds.{key_of, keys_over, enclose, Row10, Row10Then, EndRow}
use Rattle.mini_rows.proofs.ArrangedExpressions.{expressions_arranged_loosely}
use Rattle.mini_rows.proofs.ChainGone.{links_fixed, chain_fixed_gone}
use Rattle.mini_rows.proofs.FoldLawful.{first_dropped}
use Rattle.mini_rows.proofs.ChainEnds.{held}
use Rattle.mini_rows.proofs.ChainRest.{rest_kept}

dropped_kept : (q : Seat) (n w : Tree) → Row10 n w → KeptLoosely (Expr q) n w
dropped_kept q n w r =
    expressions_arranged_loosely first_dropped (record { trees = held n w r ▸ none; lists = [] }) (tt, tt) (under Chain (part 0 ▹ end)) (under (Unary Void) (under (Number (pos 0)) end ▹ end)) refl q n w r.shape r.written (inr (ap has_member r.shape))
    (chain_fixed_gone q n w (held n w r) r.dropped r.shape r.written)

-- the first link is the last of all

all_over : (ms : List Marked) (l : Link) (x : Tree) → links_over (ms ++ (marked true l ∷ [])) x ≡ links_over ms (linked true l x)
all_over [] l x = refl
all_over (marked o m ∷ ms) l x = ap (linked o m) (all_over ms l x)

all_enclose : (ms : List Marked) (l : Link) → encloses false (key_of l) ≡ true → enclose (keys_over ms) ≡ true → enclose (keys_over (ms ++ (marked true l ∷ []))) ≡ true
all_enclose [] l e f = both (encloses false (key_of l)) true e refl
all_enclose (marked o m ∷ ms) l e f = let (first, rest) = and_parts (encloses false (key_of m)) (enclose (keys_over ms)) f in both (encloses false (key_of m)) (enclose (keys_over (ms ++ (marked true l ∷ [])))) first (all_enclose ms l e rest)

then_kept : (q : Seat) (n w : Tree) → Row10Then n w → KeptLoosely (Expr q) n w
then_kept q n w r =
    let (first, rest) = and_parts (encloses false (key_of r.link)) (enclose (keys_over r.others)) r.dropped in
    let ms = r.others ++ (marked true r.link ∷ []) in
    let is = r.shape ∙ sym (ap chain (all_over r.others r.link r.base)) in
    rest_kept ms q r.base n w is r.written (links_fixed q n w ms r.base (all_enclose r.others r.link first rest) is r.written)

pub end_kept : (q : Seat) (n w : Tree) → EndRow n w → KeptLoosely (Expr q) n w
end_kept q n w (inl r) = dropped_kept q n w r
end_kept q n w (inr r) = then_kept q n w r
