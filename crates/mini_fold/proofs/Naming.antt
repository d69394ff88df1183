-- What is written by one row, or else by another.
use Rattle.std.proofs.Common.{◌≡◌, Bool, true, false, Option, Some, None, sym, ap, ◌∙◌, true≢false}
use Rattle.std.specs.Prelude.{is_some, unwrap_or}
use Rattle.mini_model.specs.declared.seat.Seat.{Seat}
use Rattle.mini_model.specs.Tree.{Tree}
use Rattle.mini_node.specs.Children.{part}
use Rattle.mini_node.specs.Kinds.{logical_operator, unary_operator}
use Rattle.mini_fold.specs.FoldConstants.{literal_written}
use Rattle.mini_fold.specs.FoldKnown.{folded}
use Rattle.mini_fold.specs.FoldOperands.{or_else, logical_written}
use Rattle.mini_fold.specs.FoldOperators.{delete_written}
use Rattle.mini_fold.specs.JoinConstants.{joined_written}
use Rattle.mini_fold.specs.Names.{texts_written, masks_written, templates_written, joins_written, masked_written, summed_written, operator_written}

first : (n u : Tree) (o p : Option Tree) → u ≡ unwrap_or o n → true ≡ is_some o → u ≡ unwrap_or (or_else o p) n
first n u (Some w) p e f = e
first n u None p e f = absurd (true≢false f)

first_is : (o p : Option Tree) → true ≡ is_some o → true ≡ is_some (or_else o p)
first_is (Some w) p f = f
first_is None p f = absurd (true≢false f)

then_is : (g : Tree → Option Tree) (n m u : Tree) (o : Option Tree) → m ≡ unwrap_or o n → false ≡ is_some o → u ≡ unwrap_or (g m) m → u ≡ unwrap_or (or_else o (g n)) n
then_is g n m u None e f h = h ∙ ap (λ x. unwrap_or (g x) x) e
then_is g n m u (Some w) e f h = absurd (true≢false (sym f))

then_said : (g : Tree → Option Tree) (n m : Tree) (c : Bool) (o : Option Tree) → m ≡ unwrap_or o n → false ≡ is_some o → c ≡ is_some (g m) → c ≡ is_some (or_else o (g n))
then_said g n m c None e f h = h ∙ ap (λ x. is_some (g x)) e
then_said g n m c (Some w) e f h = absurd (true≢false (sym f))

abbrev deleted_of : Tree → Option Tree
deleted_of t = delete_written (unary_operator t) (part t 0)

pub unary_tree : (s : Seat) (n u : Tree) → u ≡ unwrap_or (literal_written s n) n → true ≡ is_some (literal_written s n) → u ≡ unwrap_or (or_else (literal_written s n) (delete_written (unary_operator n) (part n 0))) n
unary_tree s n u e f = first n u (literal_written s n) (deleted_of n) e f

pub unary_said : (s : Seat) (n : Tree) → true ≡ is_some (literal_written s n) → true ≡ is_some (or_else (literal_written s n) (delete_written (unary_operator n) (part n 0)))
unary_said s n f = first_is (literal_written s n) (deleted_of n) f

pub delete_tree : (s : Seat) (n m u : Tree) → m ≡ unwrap_or (literal_written s n) n → false ≡ is_some (literal_written s n) → u ≡ unwrap_or (delete_written (unary_operator m) (part m 0)) m → u ≡ unwrap_or (or_else (literal_written s n) (delete_written (unary_operator n) (part n 0))) n
delete_tree s n m u e f h = then_is deleted_of n m u (literal_written s n) e f h

pub delete_said : (s : Seat) (n m : Tree) (c : Bool) → m ≡ unwrap_or (literal_written s n) n → false ≡ is_some (literal_written s n) → c ≡ is_some (delete_written (unary_operator m) (part m 0)) → c ≡ is_some (or_else (literal_written s n) (delete_written (unary_operator n) (part n 0)))
delete_said s n m c e f h = then_said deleted_of n m c (literal_written s n) e f h

abbrev middle_of : Seat → Tree → Option Tree
middle_of s t = logical_written s (logical_operator t) t

pub side_tree : (s : Seat) (n u : Tree) → u ≡ unwrap_or (folded s n) n → true ≡ is_some (folded s n) → u ≡ unwrap_or (or_else (folded s n) (logical_written s (logical_operator n) n)) n
side_tree s n u e f = first n u (folded s n) (middle_of s n) e f

pub side_said : (s : Seat) (n : Tree) → true ≡ is_some (folded s n) → true ≡ is_some (or_else (folded s n) (logical_written s (logical_operator n) n))
side_said s n f = first_is (folded s n) (middle_of s n) f

pub middle_tree : (s : Seat) (n m u : Tree) → m ≡ unwrap_or (folded s n) n → false ≡ is_some (folded s n) → u ≡ unwrap_or (logical_written s (logical_operator m) m) m → u ≡ unwrap_or (or_else (folded s n) (logical_written s (logical_operator n) n)) n
middle_tree s n m u e f h = then_is (middle_of s) n m u (folded s n) e f h

pub middle_said : (s : Seat) (n m : Tree) (c : Bool) → m ≡ unwrap_or (folded s n) n → false ≡ is_some (folded s n) → c ≡ is_some (logical_written s (logical_operator m) m) → c ≡ is_some (or_else (folded s n) (logical_written s (logical_operator n) n))
middle_said s n m c e f h = then_said (middle_of s) n m c (folded s n) e f h

pub join_tree : (s : Seat) (n u : Tree) → u ≡ unwrap_or (joined_written n) n → true ≡ is_some (joined_written n) → u ≡ unwrap_or (joins_written s n) n
join_tree s n u e f = first n u (joined_written n) (templates_written s n) e f

pub join_said : (s : Seat) (n : Tree) → true ≡ is_some (joined_written n) → true ≡ is_some (joins_written s n)
join_said s n f = first_is (joined_written n) (templates_written s n) f

pub join_then : (s : Seat) (n m u : Tree) → m ≡ unwrap_or (joined_written n) n → false ≡ is_some (joined_written n) → u ≡ unwrap_or (templates_written s m) m → u ≡ unwrap_or (joins_written s n) n
join_then s n m u e f h = then_is (λ t. templates_written s t) n m u (joined_written n) e f h

pub join_says : (s : Seat) (n m : Tree) (c : Bool) → m ≡ unwrap_or (joined_written n) n → false ≡ is_some (joined_written n) → c ≡ is_some (templates_written s m) → c ≡ is_some (joins_written s n)
join_says s n m c e f h = then_said (λ t. templates_written s t) n m c (joined_written n) e f h

pub mask_tree : (s : Seat) (n u : Tree) → u ≡ unwrap_or (masks_written n) n → true ≡ is_some (masks_written n) → u ≡ unwrap_or (masked_written s n) n
mask_tree s n u e f = first n u (masks_written n) (joins_written s n) e f

pub mask_said : (s : Seat) (n : Tree) → true ≡ is_some (masks_written n) → true ≡ is_some (masked_written s n)
mask_said s n f = first_is (masks_written n) (joins_written s n) f

pub mask_then : (s : Seat) (n m u : Tree) → m ≡ unwrap_or (masks_written n) n → false ≡ is_some (masks_written n) → u ≡ unwrap_or (joins_written s m) m → u ≡ unwrap_or (masked_written s n) n
mask_then s n m u e f h = then_is (λ t. joins_written s t) n m u (masks_written n) e f h

pub mask_says : (s : Seat) (n m : Tree) (c : Bool) → m ≡ unwrap_or (masks_written n) n → false ≡ is_some (masks_written n) → c ≡ is_some (joins_written s m) → c ≡ is_some (masked_written s n)
mask_says s n m c e f h = then_said (λ t. joins_written s t) n m c (masks_written n) e f h

pub text_tree : (s : Seat) (n u : Tree) → u ≡ unwrap_or (texts_written s n) n → true ≡ is_some (texts_written s n) → u ≡ unwrap_or (summed_written s n) n
text_tree s n u e f = first n u (texts_written s n) (masked_written s n) e f

pub text_said : (s : Seat) (n : Tree) → true ≡ is_some (texts_written s n) → true ≡ is_some (summed_written s n)
text_said s n f = first_is (texts_written s n) (masked_written s n) f

pub text_then : (s : Seat) (n m u : Tree) → m ≡ unwrap_or (texts_written s n) n → false ≡ is_some (texts_written s n) → u ≡ unwrap_or (masked_written s m) m → u ≡ unwrap_or (summed_written s n) n
text_then s n m u e f h = then_is (λ t. masked_written s t) n m u (texts_written s n) e f h

pub text_says : (s : Seat) (n m : Tree) (c : Bool) → m ≡ unwrap_or (texts_written s n) n → false ≡ is_some (texts_written s n) → c ≡ is_some (masked_written s m) → c ≡ is_some (summed_written s n)
text_says s n m c e f h = then_said (λ t. masked_written s t) n m c (texts_written s n) e f h

pub literal_tree : (s : Seat) (n u : Tree) → u ≡ unwrap_or (literal_written s n) n → true ≡ is_some (literal_written s n) → u ≡ unwrap_or (operator_written s n) n
literal_tree s n u e f = first n u (literal_written s n) (summed_written s n) e f

pub literal_said : (s : Seat) (n : Tree) → true ≡ is_some (literal_written s n) → true ≡ is_some (operator_written s n)
literal_said s n f = first_is (literal_written s n) (summed_written s n) f

pub literal_then : (s : Seat) (n m u : Tree) → m ≡ unwrap_or (literal_written s n) n → false ≡ is_some (literal_written s n) → u ≡ unwrap_or (summed_written s m) m → u ≡ unwrap_or (operator_written s n) n
literal_then s n m u e f h = then_is (λ t. summed_written s t) n m u (literal_written s n) e f h

pub literal_says : (s : Seat) (n m : Tree) (c : Bool) → m ≡ unwrap_or (literal_written s n) n → false ≡ is_some (literal_written s n) → c ≡ is_some (summed_written s m) → c ≡ is_some (operator_written s n)
literal_says s n m c e f h = then_said (λ t. summed_written s t) n m c (literal_written s n) e f h
