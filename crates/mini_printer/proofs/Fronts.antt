-- What parts begin with, as the code goes.
use Rattle.std.proofs.Common.{◌≡◌, Bool, true, false, refl, sym, ap, ◌∙◌, subst, List, [], ◌∷◌, Option, Some, None}
use Rattle.std.specs.Prelude.{not, ◌&&◌}
use Rattle.std.proofs.lemmas.Bool.{false≢true}
use Rattle.mini_model.specs.Tree.{Tree}
use Rattle.mini_node.specs.Children.{trees_of}
use Rattle.mini_print.specs.Token.{Token, Punct, Word, LeftParen}
use Rattle.mini_print.specs.Grammar.{Goal, Rule, Place, permits, is_key_token, begins_statement, begins_import, begins_label, starts_default}
use Rattle.mini_print.specs.Printed.{Style, lay, by_production, printer, printers}
use Rattle.mini_grammar.specs.Firsts.{first_of}
use Rattle.mini_grammar.specs.Pieces.{piece_parts, parts_in, pieces_of, own, is_mark, takes_part, look_of}
use Rattle.mini_grammar.specs.declared.grammar.Lookahead.{Lookahead}
use Rattle.mini_grammar.specs.declared.grammar.Lookahead.TheVariants as look
use Rattle.mini_grammar.specs.declared.grammar.Piece.{Piece}
use Rattle.mini_places.specs.Nexts.{is_forbidden}
use Rattle.mini_printer.specs.Fronts.{IsFront}
use Rattle.mini_places.specs.Nexts.{begins_default}
use Rattle.mini_places.specs.Standing.{is_special, standing_of, opened}
use Rattle.mini_printer.proofs.Walked.{produced_enclosed, produced_open, mark_piece, part_piece}

-- the same tokens begin with the same one
pub front_same : (o : Option Token) (f g : List Token → List Token) → ((r : List Token) → g r ≡ f r) → IsFront o g → IsFront o f
front_same None f g e k = tt
front_same (Some x) f g e k = λ r. ap first_of (sym (e r)) ∙ k r

-- and so they do whatever follows
pub front_before : (o : Option Token) (f n : List Token → List Token) → IsFront o f → IsFront o (λ r. f (n r))
front_before None f n k = tt
front_before (Some x) f n k = λ r. k (n r)

pub enclosed_front : (s : Style) (h : Rule) (ts : List Tree) (p : Place) → is_special (standing_of h) ≡ false → true ≡ not (opened (standing_of h) (own h) p) → IsFront (Some (Punct LeftParen)) (λ r. by_production s (Some h) (printers s (trees_of ts)) p r)
enclosed_front s h ts p e f = λ r. ap first_of (produced_enclosed s h (pieces_of h) (printers s (trees_of ts)) p r e refl f)

pub open_front : (o : Option Token) (s : Style) (h : Rule) (xs : List Piece) (ts : List Tree) (p : Place) → is_special (standing_of h) ≡ false → xs ≡ pieces_of h → false ≡ not (opened (standing_of h) (own h) p) → IsFront o (λ r. lay s p.goal (parts_in h xs) (printers s (trees_of ts)) r) → IsFront o (λ r. by_production s (Some h) (printers s (trees_of ts)) p r)
open_front o s h xs ts p e d f = front_same o (λ r. by_production s (Some h) (printers s (trees_of ts)) p r) (λ r. lay s p.goal (parts_in h xs) (printers s (trees_of ts)) r) (λ r. sym (produced_open s h xs (printers s (trees_of ts)) p r e d f))

pub marked_front : (o : Option Token) (s : Style) (g : Goal) (h : Rule) (x : Piece) (xs ys : List Piece) (ts : List Tree) → ys ≡ x ∷ xs → is_mark x ≡ true → IsFront o (λ r. lay s g (piece_parts h x []) [] r) → IsFront o (λ r. lay s g (parts_in h ys) (printers s (trees_of ts)) r)
marked_front o s g h x xs ys ts e m k =
    front_same o (λ r. lay s g (parts_in h ys) (printers s (trees_of ts)) r) (λ r. lay s g (piece_parts h x []) [] (lay s g (parts_in h xs) (printers s (trees_of ts)) r))
    (λ r. sym (mark_piece s g h x xs ys (printers s (trees_of ts)) r e m))
    (front_before o (λ r. lay s g (piece_parts h x []) [] r) (λ r. lay s g (parts_in h xs) (printers s (trees_of ts)) r) k)

pub parted_front : (o : Option Token) (s : Style) (g : Goal) (h : Rule) (x : Piece) (xs ys : List Piece) (t : Tree) (us ts : List Tree) → ys ≡ x ∷ xs → takes_part x ≡ true → ts ≡ t ∷ us → IsFront o (λ r. lay s g (piece_parts h x []) (printer s t ∷ []) r) → IsFront o (λ r. lay s g (parts_in h ys) (printers s (trees_of ts)) r)
parted_front o s g h x xs ys t us ts e f m k =
    front_same o (λ r. lay s g (parts_in h ys) (printers s (trees_of ts)) r) (λ r. lay s g (piece_parts h x []) (printer s t ∷ []) (lay s g (parts_in h xs) (printers s (trees_of us)) r))
    (λ r. sym (part_piece s g h x xs ys t us ts r e f m))
    (front_before o (λ r. lay s g (piece_parts h x []) (printer s t ∷ []) r) (λ r. lay s g (parts_in h xs) (printers s (trees_of us)) r) k)

-- a restriction forbids what begins so

default_is : (x : Token) (ts : List Token) → starts_default (x ∷ ts) ≡ begins_default x
default_is (Word s) ts = refl
default_is x ts = refl

and_false : (a b : Bool) → a ≡ true → (not a && b) ≡ false
and_false a b e = ap (λ c. not c && b) e

not_true : (b : Bool) → not b ≡ true → b ≡ false
not_true true e = absurd (false≢true e)
not_true false e = refl

forbids : (c : Lookahead) (x : Token) (ts : List Token) → is_forbidden c x ≡ true → permits (look_of c) (x ∷ ts) ≡ false
forbids look.NoStatement x ts e = and_false (begins_statement x) (not (begins_import x ts) && not (begins_label x ts)) e
forbids look.NoBrace x ts e = ap not e
forbids look.Key x ts e = not_true (is_key_token x) e
forbids look.NotAsync x ts e = absurd (false≢true e)
forbids look.NoDeclaration x ts e = ap not (default_is x ts ∙ e)

first_is : (ts : List Token) (x : Token) (c : Lookahead) → first_of ts ≡ Some x → is_forbidden c x ≡ true → permits (look_of c) ts ≡ false
first_is [] x c e f = absurd (none_some x e)
  where
    none_some : (x : Token) → None ≡ Some x → ⊥
    none_some x e = cc
first_is (y ∷ ts) x c e f = ap (λ y. permits (look_of c) (y ∷ ts)) (some_same y x e) ∙ forbids c x ts f
  where
    some_same : (y x : Token) → Some y ≡ Some x → y ≡ x
    some_same y x e = cc

pub front_forbids : (o : Option Token) (x : Token) (c : Lookahead) (f : List Token → List Token) → o ≡ Some x → is_forbidden c x ≡ true → IsFront o f → (r : List Token) → permits (look_of c) (f r) ≡ false
front_forbids o x c f e d k r = first_is (f r) x c (let k' = subst (λ o. IsFront o f) e k in k' r) d
