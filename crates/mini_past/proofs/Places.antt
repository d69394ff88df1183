-- Where such a name stands in a list of statements.
use Rattle.std.proofs.Common.{◌≡◌, ℕ, suc, ◌+◌, Bool, true, false, refl, sym, ap, ◌∙◌, add-one, arith}
use Rattle.std.specs.Prelude.{◌&&◌}
use Rattle.mini_model.specs.declared.name.Name.{Name}
use Rattle.mini_model.specs.Tree.{Tree, Trees, node, none, ◌▸◌, count, child_or_absent, children, shape_of}
use Rattle.mini_kept.specs.Without.{Assured}
use Rattle.mini_node.specs.Children.{part}
use Rattle.mini_rows.specs.Past.{Kept, are_past}
use Rattle.mini_rows.specs.Unused.{evaluated, reads_head}
use Rattle.mini_rows.specs.Switches.{Liberties}
use Rattle.mini_unused.specs.RemoveUnusedDeclaration.{may_declare, is_free_at, is_lexical_shape, list_at}
use Rattle.mini_unused.specs.SubstituteSingleUse.{last_place}
use Rattle.mini_past.specs.SubstitutePast.{is_past_declarator, is_past}
pub use Rattle.mini_unused.proofs.SingleUses.{last_is}

pub next_head : (x : Name) (ts : Trees) (i : ℕ) → reads_head x (child_or_absent ts (i + 1)) ≡ reads_head x (child_or_absent ts (suc i))
next_head x ts i = ap (λ k. reads_head x (child_or_absent ts k)) (add-one i)

pub next_past : (H : Kept) (x : Name) (r : Tree) (ts : Trees) (i : ℕ) → are_past H x r (evaluated (child_or_absent ts (i + 1))) ≡ are_past H x r (evaluated (child_or_absent ts (suc i)))
next_past H x r ts i = ap (λ k. are_past H x r (evaluated (child_or_absent ts k))) (add-one i)

pub no_declarator : (V : Assured) (free : Bool) (W : Liberties) (l o : Tree) (ts : Trees) (i j : ℕ) → count (children l) ≡ 0 → is_past_declarator V free W l j o ts i ≡ false
no_declarator V free W (node h xs n none) o ts i j e = refl
no_declarator V free W (node h xs n (t ▸ us)) o ts i j e = absurd (omega (arith, e))

pub past_by : (V : Assured) (W : Liberties) (o : Tree) (ts : Trees) (i : ℕ) (statement l : Tree) (n : ℕ) (free r : Bool) → statement ≡ child_or_absent ts i → may_declare o statement ≡ true → l ≡ part statement 0 → n ≡ last_place (children l) → free ≡ is_lexical_shape (shape_of statement) → r ≡ is_past_declarator V free W l n o ts i → r ≡ is_past V W o ts i
past_by V W o ts i statement l n free r s e f g z h =
    let there : l ≡ list_at ts i = f ∙ ap (λ t. part t 0) s in
    let is_free : free ≡ is_free_at ts i = z ∙ ap (λ t. is_lexical_shape (shape_of t)) s in
    h ∙ (λ k. is_past_declarator V (is_free k) W (there k) ((g ∙ ap (λ t. last_place (children t)) there) k) o ts i)
    ∙ sym (ap (λ b. b && is_past_declarator V (is_free_at ts i) W (list_at ts i) (last_place (children (list_at ts i))) o ts i) (ap (may_declare o) (sym s) ∙ e))
