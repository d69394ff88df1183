-- Families whose rows ask less; and of neighbours in a list that are built anew, all that is asked.
use Rattle.std.specs.Prelude.{ℕ, suc, ◌≡◌, refl, nat_eq, Bool, true, false, ◌||◌, ◌&&◌}
use Rattle.std.proofs.Common.{ap, ◌∙◌, sym, true≢false}
use Rattle.mini_model.specs.declared.place.Position.{Position}
use Rattle.mini_model.specs.declared.place.Position.TheVariants.{Expr, Stmt}
use Rattle.mini_model.specs.declared.seat.Seat.{Seat}
use Rattle.mini_model.specs.declared.seat.StmtSeat.{StmtSeat}
use Rattle.mini_model.specs.declared.shape.Shape.TheVariants as shape
use Rattle.mini_model.specs.Position.{callee_seat}
use Rattle.mini_model.specs.Paths.{append}
use Rattle.mini_model.specs.Tree.{Tree, Trees, none, ◌▸◌, listed}
use Rattle.mini_laws.specs.ScopeList.{has_eval, any_has_eval, is_eval_callee}
use Rattle.mini_laws.specs.Shared.{names_arguments, any_names_arguments, is_of_function}
use Rattle.mini_laws.specs.Foreign.{has_number, any_has_number}
use Rattle.mini_kept.specs.Placed.{is_statement_list}
use Rattle.mini_shrink.specs.Facts.{ReadsLess}
use Rattle.mini_rows.specs.Sketches.{Head, Sketch, part, under, list, Sketches, Items, Parts, filled, all_filled, items_filled, AsValue, AsWhole, AsWholeList, Free, rearranges_expression, is_expression_head, is_expression}
use Rattle.mini_rows.specs.Arranged.{AreLoose}
use Rattle.mini_less.specs.Neighbours.{are_headed}
use Rattle.mini_less.specs.Rebuilt.{rebuilds, rebuilds_list, calls_no_more}
use Rattle.mini_less.specs.Families.{LessAt}
use Rattle.mini_less.proofs.Evals.{no_callee, rebuilt_evals_less}
use Rattle.mini_less.proofs.Plainly.{arranged_asks_less}
use Rattle.mini_less.proofs.Listing.{lists_ask_less}
use Rattle.mini_less.proofs.Statements.{statements_ask_less, rebuilt_flags, rebuilt_flags_less}
use Rattle.std.proofs.lemmas.Bool.{and_parts}
use Rattle.mini_less.proofs.Shown.{shows_all}

pub reads_less_by : (R : Position → Tree → Tree → Type 0) → ((p : Position) (n w : Tree) → R p n w → LessAt p n w) → ReadsLess R
reads_less_by R f = record {
  fewer = record {
    eval = λ p n w r strict s o k. ((f p n w r).fewer strict s o k).eval;
    callee = λ n w r strict s o k. ((f (Expr callee_seat) n w r).fewer strict s o k).callee refl;
    arguments = λ p n w r strict s o k. ((f p n w r).fewer strict s o k).flags.arguments;
    number = λ p n w r strict s o k. ((f p n w r).fewer strict s o k).flags.number;
  };
  less = λ g b s p n w r. (f p n w r).asks g b s;
}

-- ---- an expression, and a statement

expression_rebuilds : (f : Free) (h : Head) (ss : Sketches) (r : Sketch) → rearranges_expression f (under h ss) r ≡ true → rebuilds f AsValue (under h ss) r ≡ true
expression_rebuilds f h ss r e = (and_parts (is_expression r) (rebuilds f AsValue (under h ss) r) (and_parts (is_expression_head h) (is_expression r && rebuilds f AsValue (under h ss) r) e).1).1

-- whose root is no mere part, and so is no name
pub expression_less : (f : Free) (ps : Parts) → AreLoose ps f → (h : Head) (ss : Sketches) (g : Head) (rs : Sketches) → rearranges_expression f (under h ss) (under g rs) ≡ true → calls_no_more (under h ss) (under g rs) ≡ true → (q : Seat) (n w : Tree) → n ≡ filled ps (under h ss) → w ≡ filled ps (under g rs) → LessAt (Expr q) n w
expression_less f ps u h ss g rs e k q n w a b = record {
  asks = shows_all _ _ _ (arranged_asks_less f ps u (under h ss) (under g rs) e q n w a b);
  fewer = λ strict slot o fit. record {
    eval = rebuilt_evals_less f ps u AsValue (under h ss) (under g rs) (expression_rebuilds f h ss (under g rs) e) k n w a b;
    flags = rebuilt_flags_less f ps u AsValue h ss (under g rs) (expression_rebuilds f h ss (under g rs) e) n w a b;
    callee = λ i c. absurd (true≢false (sym c ∙ ap is_eval_callee b ∙ no_callee g (all_filled ps rs)));
  };
}

-- whose root is a part, where it isn't called, or is no name
pub part_less : (f : Free) (ps : Parts) → AreLoose ps f → (h : Head) (ss : Sketches) (i : ℕ) → rearranges_expression f (under h ss) (part i) ≡ true → (q : Seat) (n w : Tree) → n ≡ filled ps (under h ss) → w ≡ filled ps (part i) → (Expr q ≡ Expr callee_seat → is_eval_callee w ≡ false) → LessAt (Expr q) n w
part_less f ps u h ss i e q n w a b k = record {
  asks = shows_all _ _ _ (arranged_asks_less f ps u (under h ss) (part i) e q n w a b);
  fewer = λ strict slot o fit. record {
    eval = rebuilt_evals_less f ps u AsValue (under h ss) (part i) (expression_rebuilds f h ss (part i) e) refl n w a b;
    flags = rebuilt_flags_less f ps u AsValue h ss (part i) (expression_rebuilds f h ss (part i) e) n w a b;
    callee = λ j c. absurd (true≢false (sym c ∙ k j));
  };
}

pub statement_less : (f : Free) (ps : Parts) → AreLoose ps f → (h : Head) (ss : Sketches) (g : Head) (rs : Sketches) → rebuilds f AsWhole (under h ss) (under g rs) ≡ true → calls_no_more (under h ss) (under g rs) ≡ true → (q : StmtSeat) (n w : Tree) → n ≡ filled ps (under h ss) → w ≡ filled ps (under g rs) → LessAt (Stmt q) n w
statement_less f ps u h ss g rs e k q n w a b = record {
  asks = shows_all _ _ _ (statements_ask_less f ps u (under h ss) (under g rs) e q n w a b);
  fewer = λ strict slot o fit. record {
    eval = rebuilt_evals_less f ps u AsWhole (under h ss) (under g rs) e k n w a b;
    flags = rebuilt_flags_less f ps u AsWhole h ss (under g rs) e n w a b;
    callee = λ i c. absurd (true≢false (sym c ∙ ap is_eval_callee b ∙ no_callee g (all_filled ps rs)));
  };
}

-- ---- neighbours in a list

kept_or : (z x d a y : Bool) → ((z || d) ≡ true → (z || a) ≡ true) → (z || (x || (d || y))) ≡ true → (z || (x || (a || y))) ≡ true
kept_or true x d a y f e = refl
kept_or false true d a y f e = refl
kept_or false false true a y f e = ap (λ b. b || y) (f refl)
kept_or false false false true y f e = refl
kept_or false false false false y f e = e

abbrev pub Adds : (Trees → Bool) → Type 0
Adds F = (ts us : Trees) → F (append ts us) ≡ (F ts || F us)

or_more : (x y z : Bool) → ((x || y) || z) ≡ (x || (y || z))
or_more true y z = refl
or_more false y z = refl

pub over : (F : Trees → Bool) → Adds F → (z : Bool) (before after a d : Trees) → ((z || F d) ≡ true → (z || F a) ≡ true) → (z || F (append before (append d after))) ≡ true → (z || F (append before (append a after))) ≡ true
over F m z before after a d f e =
    let whole : (ts : Trees) → F (append before (append ts after)) ≡ (F before || (F ts || F after)) = λ ts. m before (append ts after) ∙ ap (λ b. F before || b) (m ts after) in
    ap (λ b. z || b) (whole a) ∙ kept_or z (F before) (F d) (F a) (F after) f (sym (ap (λ b. z || b) (whole d)) ∙ e)

pub evals_add : Adds any_has_eval
unfolding has_eval
evals_add none us = refl
evals_add (t ▸ ts) us = ap (λ b. has_eval t || b) (evals_add ts us) ∙ sym (or_more (has_eval t) (any_has_eval ts) (any_has_eval us))

pub numbers_add : (b : ℕ) → Adds (any_has_number b)
unfolding has_number
numbers_add b none us = refl
numbers_add b (t ▸ ts) us = ap (λ x. has_number b t || x) (numbers_add b ts us) ∙ sym (or_more (has_number b t) (any_has_number b ts) (any_has_number b us))

abbrev pub any_names : Trees → Bool
any_names none = false
any_names (t ▸ ts) = names_arguments t || any_names ts

pub names_add : Adds any_names
names_add none us = refl
names_add (t ▸ ts) us = ap (λ x. names_arguments t || x) (names_add ts us) ∙ sym (or_more (names_arguments t) (any_names ts) (any_names us))

names_are : (i : ℕ) (ts : Trees) → any_names_arguments (is_of_function shape.Listed) i ts ≡ any_names ts
unfolding names_arguments
names_are i none = refl
names_are i (t ▸ ts) = ap (λ x. names_arguments t || x) (names_are (suc i) ts)

pub list_names : (ts : Trees) → names_arguments (listed ts) ≡ any_names ts
unfolding names_arguments
list_names ts = names_are 0 ts

pub list_evals : (ts : Trees) → has_eval (listed ts) ≡ any_has_eval ts
unfolding has_eval
list_evals ts = refl

pub list_numbers : (b : ℕ) (ts : Trees) → has_number b (listed ts) ≡ (nat_eq 0 b || any_has_number b ts)
unfolding has_number
list_numbers b ts = refl

pub list_zero : (ts : Trees) → has_number 0 (listed ts) ≡ true
unfolding has_number
list_zero ts = refl

pub list_less : (f : Free) (ps : Parts) → AreLoose ps f → (is js : Items) → rebuilds_list f is js ≡ true → are_headed is ≡ true → calls_no_more (list is) (list js) ≡ true → (p : Position) → is_statement_list p ≡ true → (before after a d : Trees) → a ≡ items_filled ps is → d ≡ items_filled ps js → (n w : Tree) → n ≡ listed (append before (append a after)) → w ≡ listed (append before (append d after)) → LessAt p n w
list_less f ps u is js e y k p l before after a d i j n w m v =
    let flags = rebuilt_flags f ps u AsWholeList (list is) (list js) e (list_zero (items_filled ps is)) (listed a) (listed d) (ap listed i) (ap listed j) in
    let evals = rebuilt_evals_less f ps u AsWholeList (list is) (list js) e k (listed a) (listed d) (ap listed i) (ap listed j) in
    let stretch : Trees → Trees = λ ts. append before (append ts after) in
    record {
      asks = shows_all _ _ _ (lists_ask_less f ps u is js e y p l before after a d i j n w m v);
      fewer = λ strict slot o fit. record {
        eval = λ c. ap has_eval m ∙ list_evals (stretch a) ∙ over any_has_eval evals_add false before after a d (λ c. sym (list_evals a) ∙ evals (list_evals d ∙ c)) (sym (list_evals (stretch d)) ∙ sym (ap has_eval v) ∙ c);
        flags = record {
          arguments = λ c. ap names_arguments m ∙ list_names (stretch a) ∙ over any_names names_add false before after a d (λ c. sym (list_names a) ∙ flags.arguments (list_names d ∙ c)) (sym (list_names (stretch d)) ∙ sym (ap names_arguments v) ∙ c);
          number = λ b c. ap (has_number b) m ∙ list_numbers b (stretch a) ∙ over (any_has_number b) (numbers_add b) (nat_eq 0 b) before after a d (λ c. sym (list_numbers b a) ∙ flags.number b (list_numbers b d ∙ c)) (sym (list_numbers b (stretch d)) ∙ sym (ap (has_number b) v) ∙ c);
        };
        callee = λ x c. absurd (true≢false (sym c ∙ ap is_eval_callee v));
      };
    }
