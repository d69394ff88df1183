-- The order of a tree's text, step by step as the code goes.
use Rattle.std.proofs.Common.{ℕ, zero, suc, ◌+◌, ◌≡◌, ◌≤◌, ◌<◌, Bool, true, false, ◌&&◌, refl, ap, sym, subst, ◌∙◌, arith, List, [], ◌∷◌, add-one, ◌||◌, length, get_or, drop}
use Rattle.std.proofs.lemmas.Bool.{false≢true}
use Rattle.std.proofs.lemmas.List.{at_drop_more, at_drop_all}
use Rattle.std.proofs.Math.Dec.{eqb-suc-zero}
use Rattle.std.specs.Prelude.{nat_eq, if◌then◌else◌, Result, Ok, Err, IfOk, OnOk}
use Rattle.mini_model.specs.declared.name.Name.{Name}
use Rattle.mini_model.specs.declared.kind.MethodDefinitionKind.{MethodDefinitionKind}
use Rattle.mini_model.specs.declared.shape.Shape.{Shape}
use Rattle.mini_model.specs.declared.shape.Shape.TheVariants as shape
use Rattle.mini_model.specs.Paths.{append}
use Rattle.mini_model.specs.Tree.{Tree, Trees, node, none, ◌▸◌, absent, listed, leaf, shape_of, children, count, child_or_absent, first_or_absent, node_count, node_counts}
use Rattle.mini_node.specs.Children.{part, with_part, with_child, with_inserted, without, rest_children, like, with_names}
use Rattle.mini_node.specs.Lends.{with_children}
use Rattle.mini_node.specs.Walks.{append_none, append_one, next_child, no_rest, rest_with}
use Rattle.mini_print.specs.Printed as printed
use Rattle.mini_print.specs.Printed.{is_link, is_optional, has_optional, linked, threaded, pieces, shown, all_shown}
use Rattle.mini_printer.specs.declared.order.Object.{Object}
use Rattle.mini_printer.specs.declared.order.Object.TheVariants.{Base, Whole}
use Rattle.mini_printer.specs.Ordered.{is_link_over, chain, base_of, IsUnlinked, chain_parts, is_list, is_piece_first, template_parts, has_default, has_namespace, local_if, rest_if, import_parts, is_template, is_import, is_body, with_body, function, arrow, inner, export_parts, method_parts, property_parts, parts_in_order, seen}

-- ---- parts

pub part_taken : (t : Tree) (i : ℕ) (x : Tree) → with_children t (with_child (children t) i x) ≡ with_part t i x
part_taken (node h xs n ts) i x = refl

child_smaller : (ts : Trees) (i : ℕ) → i < count ts → node_count (child_or_absent ts i) ≤ node_counts ts
child_smaller none i h = absurd (omega (arith, h))
child_smaller (t ▸ ts) zero h = omega arith
child_smaller (t ▸ ts) (suc i) h = let rest = child_smaller ts i (omega (arith, h)) in omega (arith, rest)

pub part_smaller : (t : Tree) (i : ℕ) → i < count (children t) → node_count (part t i) < node_count t
part_smaller (node h xs n ts) i e = let less = child_smaller ts i e in omega (arith, less)

pub put_twice : (ts : Trees) (i : ℕ) (x y : Tree) → with_child (with_child ts i x) i y ≡ with_child ts i y
put_twice none i x y = refl
put_twice (t ▸ ts) zero x y = refl
put_twice (t ▸ ts) (suc i) x y = ap (λ us. t ▸ us) (put_twice ts i x y)

-- ---- optional chains

pub link_parts : (t : Tree) → is_link_over t ≡ true → 0 < count (children t)
link_parts (node h xs n none) e = absurd (false≢true e)
link_parts (node h xs n (t ▸ ts)) e = omega arith

pub positive : (n : ℕ) → nat_eq n 0 ≡ false → 0 < n
positive zero e = absurd (false≢true (sym e))
positive (suc n) e = omega arith

pub chain_by : (o : Tree) (ls : Trees) → 0 < count ls → o ▸ first_or_absent ls ▸ listed (without ls 0) ▸ none ≡ chain o ls
chain_by o none h = absurd (omega (arith, h))
chain_by o (l ▸ ls) h = refl

-- ---- templates

pub piece_by : (ts : Trees) (i : ℕ) → i < count ts → is_piece_first (rest_children i ts) ≡ nat_eq (count (children (child_or_absent ts i))) 0
piece_by none i h = absurd (omega (arith, h))
piece_by (node k xs n none ▸ ts) zero h = refl
piece_by (node k xs n (u ▸ us) ▸ ts) zero h = sym (eqb-suc-zero (count us))
piece_by (t ▸ ts) (suc i) h = piece_by ts i (omega (arith, h))

pub no_piece : (ts : Trees) (i : ℕ) → count ts ≤ i → is_piece_first (rest_children i ts) ≡ false
no_piece ts i h = ap is_piece_first (no_rest ts i h)

or_true : (a b : Bool) → b ≡ true → (a || b) ≡ true
or_true true b e = refl
or_true false b e = e

-- one link more
base_more : (o t : Tree) (ls : Trees) → is_link_over t ≡ true → IsUnlinked (Base o) (part t 0) ls → IsUnlinked (Base o) t (append ls (with_part t 0 absent ▸ none))
base_more o (node h xs n none) ls e i = absurd (false≢true e)
base_more o (node h xs n (x ▸ ts)) ls e i = (
  or_true (is_optional h) (is_link h && has_optional x) (ap (λ b. b && has_optional x) e ∙ i.0),
  λ us. ap (λ b. if b then linked x (node h xs n (absent ▸ ts) ▸ us) else x ▸ node h xs n (absent ▸ ts) ▸ listed us ▸ none) i.0 ∙ i.1 (node h xs n (absent ▸ ts) ▸ us) ∙ ap (chain o) (sym (append_one ls (node h xs n (absent ▸ ts)) us)),
)

-- as the code asks: what a call gave, over the link that is left
both : {T E : Type 0} (r : Result T E) (P : T → Type 0) (Q : Type 0) (R : T → Type 0) → ((x : T) → P x → Q → R x) → IfOk r P → OnOk r Q → IfOk r R
both (Ok x) P Q R k p q = k x p q
both (Err e) P Q R k p q = p

pub base_pushed : {E : Type 0} (r : Result Object E) (s : Object) (o t l : Tree) (ls ms : Trees) → is_link_over t ≡ true → s ≡ Base o → IsUnlinked s (part t 0) ls → l ≡ with_part t 0 absent → IfOk r (λ k. k ≡ Base o) → OnOk r (ms ≡ append ls (l ▸ none)) → IfOk r (λ k. IsUnlinked k t ms)
base_pushed r s o t l ls ms e is i d =
    both r (λ k. k ≡ Base o) (ms ≡ append ls (l ▸ none)) (λ k. IsUnlinked k t ms)
    (λ k p q. subst (λ k. IsUnlinked k t ms) (sym p) (subst (IsUnlinked (Base o) t) (sym (q ∙ ap (λ w. append ls (w ▸ none)) d)) (base_more o t ls e (subst (λ s. IsUnlinked s (part t 0) ls) is i))))

pub not_empty : (ls : Trees) (x : Tree) → 0 < count (append ls (x ▸ none))
not_empty none x = omega arith
not_empty (l ▸ ls) x = omega arith

chained_by : (s : Object) (t : Tree) (ls : Trees) → 0 < count (children t) → IsUnlinked s (part t 0) ls → chain (base_of s) (append ls (with_part t 0 absent ▸ none)) ≡ linked t none
chained_by s (node h xs n none) ls c i = absurd (omega (arith, c))
chained_by (Base o) (node h xs n (x ▸ ts)) ls c i = sym (ap (λ b. if b then linked x (node h xs n (absent ▸ ts) ▸ none) else x ▸ node h xs n (absent ▸ ts) ▸ listed none ▸ none) i.0 ∙ i.1 (node h xs n (absent ▸ ts) ▸ none))
chained_by (Whole u) (node h xs n (x ▸ ts)) ls c i =
    ap (λ vs. chain u (append vs (node h xs n (absent ▸ ts) ▸ none))) i.1.1 ∙ ap (λ y. y ▸ node h xs n (absent ▸ ts) ▸ listed none ▸ none) i.1.0
    ∙ sym (ap (λ b. if b then linked x (node h xs n (absent ▸ ts) ▸ none) else x ▸ node h xs n (absent ▸ ts) ▸ listed none ▸ none) i.0)

pub chained : (s : Object) (t l b : Tree) (ls ms : Trees) → 0 < count (children t) → IsUnlinked s (part t 0) ls → l ≡ with_part t 0 absent → ms ≡ append ls (l ▸ none) → b ≡ base_of s → chain b ms ≡ linked t none
chained s t l b ls ms c i d q e = ap (λ b. chain b ms) e ∙ ap (chain (base_of s)) (q ∙ ap (λ w. append ls (w ▸ none)) d) ∙ chained_by s t ls c i

pub chain_alone : (ts : Trees) → count ts ≡ 1 → linked (first_or_absent ts) none ≡ chain_parts ts
chain_alone none e = absurd (omega (arith, e))
chain_alone (t ▸ none) e = refl
chain_alone (t ▸ u ▸ ts) e = absurd (omega (arith, e))

pub chain_other : (ts : Trees) → (count ts ≡ 1 → ⊥) → ts ≡ chain_parts ts
chain_other none e = refl
chain_other (t ▸ none) e = absurd (e refl)
chain_other (t ▸ u ▸ ts) e = refl

-- ---- the pieces of a template

thread_cons : (q e : Tree) (qs es : Trees) → is_piece_first (q ▸ qs) ≡ true → like q (e ▸ threaded qs es ▸ none) ≡ threaded (q ▸ qs) (e ▸ es)
thread_cons (node h xs n none) e none es d = refl
thread_cons (node h xs n none) e (q ▸ qs) es d = refl
thread_cons (node h xs n (u ▸ us)) e qs es d = absurd (false≢true d)

thread_last : (q : Tree) → is_piece_first (q ▸ none) ≡ true → q ≡ threaded (q ▸ none) none
thread_last (node h xs n none) d = refl
thread_last (node h xs n (u ▸ us)) d = absurd (false≢true d)

thread_more : (q p : Tree) (qs : Trees) → absent ≡ threaded (q ▸ p ▸ qs) none
thread_more (node h xs n none) p qs = refl
thread_more (node h xs n (u ▸ us)) p qs = refl

pub thread_step : (qs es : Trees) (i : ℕ) → i < count qs → i < count es → is_piece_first (rest_children i qs) ≡ true → like (child_or_absent qs i) (child_or_absent es i ▸ threaded (rest_children (suc i) qs) (rest_children (suc i) es) ▸ none) ≡ threaded (rest_children i qs) (rest_children i es)
thread_step qs es i h k d =
    let a = next_child qs i h in
    let b = next_child es i k in
    thread_cons (child_or_absent qs i) (child_or_absent es i) (rest_children (suc i) qs) (rest_children (suc i) es) (ap is_piece_first (sym a) ∙ d)
    ∙ ap (λ vs. threaded vs (child_or_absent es i ▸ rest_children (suc i) es)) (sym a) ∙ ap (threaded (rest_children i qs)) (sym b)

pub thread_single : (qs es : Trees) (i : ℕ) → i + 1 ≡ count qs → count es ≤ i → is_piece_first (rest_children i qs) ≡ true → child_or_absent qs i ≡ threaded (rest_children i qs) (rest_children i es)
thread_single qs es i h k d =
    let a = next_child qs i (omega (arith, h)) ∙ ap (λ vs. child_or_absent qs i ▸ vs) (no_rest qs (suc i) (omega (arith, h))) in
    thread_last (child_or_absent qs i) (ap is_piece_first (sym a) ∙ d) ∙ ap (λ vs. threaded vs none) (sym a) ∙ ap (threaded (rest_children i qs)) (sym (no_rest es i k))

pub thread_left : (qs es : Trees) (i : ℕ) → i + 1 < count qs → count es ≤ i → absent ≡ threaded (rest_children i qs) (rest_children i es)
thread_left qs es i h k =
    let a = next_child qs i (omega (arith, h)) ∙ ap (λ vs. child_or_absent qs i ▸ vs) (next_child qs (suc i) (omega (arith, h))) in
    thread_more (child_or_absent qs i) (child_or_absent qs (suc i)) (rest_children (suc (suc i)) qs) ∙ ap (λ vs. threaded vs none) (sym a) ∙ ap (threaded (rest_children i qs)) (sym (no_rest es i k))

-- as the code asks: the piece and the expression are taken out before those that follow
pub threaded_by : (qs es qs' es' : Trees) (i : ℕ) (q e r m : Tree) (ps : Trees) → i < count qs → i < count es → is_piece_first (rest_children i qs) ≡ true → q ≡ child_or_absent qs i → e ≡ child_or_absent es i → qs' ≡ with_child qs i absent → es' ≡ with_child es i absent → r ≡ threaded (rest_children (i + 1) qs') (rest_children (i + 1) es') → ps ≡ e ▸ r ▸ none → m ≡ like q ps → m ≡ threaded (rest_children i qs) (rest_children i es)
threaded_by qs es qs' es' i q e r m ps h k d a b u v w x y =
    let n : i + 1 ≡ suc i = add-one i in
    let left = ap (λ j. rest_children j qs') n ∙ ap (rest_children (suc i)) u ∙ rest_with qs i absent in
    let right = ap (λ j. rest_children j es') n ∙ ap (rest_children (suc i)) v ∙ rest_with es i absent in
    let made = w ∙ ap (λ z. threaded z (rest_children (i + 1) es')) left ∙ ap (threaded (rest_children (suc i) qs)) right in
    y ∙ ap (like q) (x ∙ ap (λ t. t ▸ r ▸ none) b ∙ ap (λ t. child_or_absent es i ▸ t ▸ none) made)
    ∙ ap (λ t. like t (child_or_absent es i ▸ threaded (rest_children (suc i) qs) (rest_children (suc i) es) ▸ none)) a
    ∙ thread_step qs es i h k d

no_pieces : (es : Trees) → absent ▸ none ≡ pieces none es
no_pieces none = refl
no_pieces (e ▸ es) = refl

pub pieces_none : (qs es : Trees) → count qs ≡ 0 → absent ▸ none ≡ pieces qs es
pieces_none none es h = no_pieces es
pieces_none (q ▸ qs) es h = absurd (omega (arith, h))

pub pieces_one : (qs es : Trees) → count qs ≡ 1 → count es ≡ 0 → child_or_absent qs 0 ▸ none ≡ pieces qs es
pieces_one none es h k = absurd (omega (arith, h))
pieces_one (q ▸ none) none h k = refl
pieces_one (q ▸ none) (e ▸ es) h k = absurd (omega (arith, k))
pieces_one (q ▸ p ▸ qs) es h k = absurd (omega (arith, h))

pub pieces_many : (qs es : Trees) → (count qs ≡ 0 → ⊥) → (count qs ≡ 1 → ⊥) → count es ≡ 0 → absent ▸ none ≡ pieces qs es
pieces_many none es h l k = no_pieces es
pieces_many (q ▸ none) es h l k = absurd (l refl)
pieces_many (q ▸ p ▸ qs) none h l k = refl
pieces_many (q ▸ p ▸ qs) (e ▸ es) h l k = absurd (omega (arith, k))

from_second : (t : Tree) (ts : Trees) → rest_children 1 (t ▸ ts) ≡ ts
from_second t none = refl
from_second t (u ▸ ts) = refl

pieces_cons : (q e : Tree) (qs es : Trees) → q ▸ e ▸ threaded qs es ▸ none ≡ pieces (q ▸ qs) (e ▸ es)
pieces_cons q e none es = refl
pieces_cons q e (p ▸ qs) es = refl

pub pieces_by : (qs es qs' es' : Trees) (q e r : Tree) → 0 < count qs → 0 < count es → q ≡ child_or_absent qs 0 → e ≡ child_or_absent es 0 → qs' ≡ with_child qs 0 absent → es' ≡ with_child es 0 absent → r ≡ threaded (rest_children 1 qs') (rest_children 1 es') → q ▸ e ▸ r ▸ none ≡ pieces qs es
pieces_by none es qs' es' q e r h k a b u v w = absurd (omega (arith, h))
pieces_by (p ▸ qs) none qs' es' q e r h k a b u v w = absurd (omega (arith, k))
pieces_by (p ▸ qs) (f ▸ es) qs' es' q e r h k a b u v w =
    ap (λ t. t ▸ e ▸ r ▸ none) a ∙ ap (λ t. p ▸ t ▸ r ▸ none) b
    ∙ ap (λ t. p ▸ f ▸ t ▸ none) (w ∙ ap (λ z. threaded (rest_children 1 z) (rest_children 1 es')) u ∙ ap (λ z. threaded (rest_children 1 (absent ▸ qs)) (rest_children 1 z)) v
    ∙ ap (λ z. threaded z (rest_children 1 (absent ▸ es))) (from_second absent qs) ∙ ap (threaded qs) (from_second absent es))
    ∙ pieces_cons p f qs es

pub template_other : (ts : Trees) → is_template ts ≡ false → ts ≡ template_parts ts
template_other (node shape.Listed [] k qs ▸ node shape.Listed [] j es ▸ none) e = absurd (false≢true (sym e))
template_other ts e = refl

template_two : (q e : Tree) → (is_list q && is_list e) ≡ true → pieces (children q) (children e) ≡ template_parts (q ▸ e ▸ none)
template_two (node shape.Listed [] k qs) (node shape.Listed [] j es) d = refl
template_two (node shape.Listed [] k qs) e d = absurd (false≢true d)
template_two q e d = absurd (false≢true d)

pub template_by : (ts : Trees) → is_template ts ≡ true → pieces (children (first_or_absent ts)) (children (first_or_absent (without ts 0))) ≡ template_parts ts
template_by none e = absurd (false≢true e)
template_by (q ▸ none) e = absurd (false≢true e)
template_by (q ▸ e ▸ none) d = template_two q e d
template_by (q ▸ e ▸ u ▸ ts) d = absurd (false≢true d)

-- ---- imports

default_in : (u : Tree) (us ss : Trees) (n : ℕ) (t : Tree) → local_if (has_default (node shape.ImportDefaultSpecifier [] n (u ▸ us) ▸ ss)) (node shape.ImportDefaultSpecifier [] n (u ▸ us) ▸ ss) ▸ printed.behind_default (rest_if (has_default (node shape.ImportDefaultSpecifier [] n (u ▸ us) ▸ ss)) (node shape.ImportDefaultSpecifier [] n (u ▸ us) ▸ ss)) t ≡ printed.import_parts (node shape.ImportDefaultSpecifier [] n (u ▸ us) ▸ ss) t
default_in (node shape.BindingIdentifier xs k vs) none ss n t = refl
default_in (node shape.BindingIdentifier xs k vs) (v ▸ us) ss n t = refl
default_in (node h xs k vs) none ss n t = refl
default_in (node h xs k vs) (v ▸ us) ss n t = refl

default_seen : (ss : Trees) (t : Tree) → local_if (has_default ss) ss ▸ printed.behind_default (rest_if (has_default ss) ss) t ≡ printed.import_parts ss t
default_seen none t = refl
default_seen (node shape.ImportDefaultSpecifier [] n none ▸ ss) t = refl
default_seen (node shape.ImportDefaultSpecifier [] n (u ▸ us) ▸ ss) t = default_in u us ss n t
default_seen (node shape.ImportDefaultSpecifier (x ∷ xs) n us ▸ ss) t = refl
default_seen (node h xs n us ▸ ss) t = refl

namespace_in : (u : Tree) (us ss : Trees) (n : ℕ) (t : Tree) → local_if (has_namespace (node shape.ImportNamespaceSpecifier [] n (u ▸ us) ▸ ss)) (node shape.ImportNamespaceSpecifier [] n (u ▸ us) ▸ ss) ▸ listed (rest_if (has_namespace (node shape.ImportNamespaceSpecifier [] n (u ▸ us) ▸ ss)) (node shape.ImportNamespaceSpecifier [] n (u ▸ us) ▸ ss)) ▸ t ▸ none ≡ printed.behind_default (node shape.ImportNamespaceSpecifier [] n (u ▸ us) ▸ ss) t
namespace_in (node shape.BindingIdentifier xs k vs) none none n t = refl
namespace_in (node shape.BindingIdentifier xs k vs) none (s ▸ ss) n t = refl
namespace_in (node shape.BindingIdentifier xs k vs) (v ▸ us) none n t = refl
namespace_in (node shape.BindingIdentifier xs k vs) (v ▸ us) (s ▸ ss) n t = refl
namespace_in (node h xs k vs) none none n t = refl
namespace_in (node h xs k vs) none (s ▸ ss) n t = refl
namespace_in (node h xs k vs) (v ▸ us) none n t = refl
namespace_in (node h xs k vs) (v ▸ us) (s ▸ ss) n t = refl

namespace_seen : (ss : Trees) (t : Tree) → local_if (has_namespace ss) ss ▸ listed (rest_if (has_namespace ss) ss) ▸ t ▸ none ≡ printed.behind_default ss t
namespace_seen none t = refl
namespace_seen (node shape.ImportNamespaceSpecifier [] n none ▸ none) t = refl
namespace_seen (node shape.ImportNamespaceSpecifier [] n none ▸ (s ▸ ss)) t = refl
namespace_seen (node shape.ImportNamespaceSpecifier [] n (u ▸ us) ▸ ss) t = namespace_in u us ss n t
namespace_seen (node shape.ImportNamespaceSpecifier (x ∷ xs) n us ▸ none) t = refl
namespace_seen (node shape.ImportNamespaceSpecifier (x ∷ xs) n us ▸ (s ▸ ss)) t = refl
namespace_seen (node h xs n us ▸ none) t = refl
namespace_seen (node h xs n us ▸ (s ▸ ss)) t = refl

pub import_other : (ts : Trees) → is_import ts ≡ false → ts ≡ import_parts ts
import_other (node shape.Listed [] k ss ▸ t ▸ none) e = absurd (false≢true (sym e))
import_other ts e = refl

import_two : (s t : Tree) → is_list s ≡ true → printed.import_parts (children s) t ≡ import_parts (s ▸ t ▸ none)
import_two (node shape.Listed [] k ss) t e = refl
import_two s t e = absurd (false≢true e)

pub import_by : (ts : Trees) → is_import ts ≡ true → printed.import_parts (children (first_or_absent ts)) (first_or_absent (without ts 0)) ≡ import_parts ts
import_by none e = absurd (false≢true e)
import_by (s ▸ none) e = absurd (false≢true e)
import_by (s ▸ t ▸ none) e = import_two s t e
import_by (s ▸ t ▸ u ▸ ts) e = absurd (false≢true e)

pub specified_by : (ss rs us : Trees) (a b t : Tree) → a ≡ local_if (has_default ss) ss → rs ≡ rest_if (has_default ss) ss → b ≡ local_if (has_namespace rs) rs → us ≡ rest_if (has_namespace rs) rs → a ▸ b ▸ listed us ▸ t ▸ none ≡ printed.import_parts ss t
specified_by ss rs us a b t d r n u =
    ap (λ x. x ▸ b ▸ listed us ▸ t ▸ none) d ∙ ap (λ x. local_if (has_default ss) ss ▸ x ▸ listed us ▸ t ▸ none) n
    ∙ ap (λ vs. local_if (has_default ss) ss ▸ local_if (has_namespace rs) rs ▸ listed vs ▸ t ▸ none) u
    ∙ ap (λ vs. local_if (has_default ss) ss ▸ vs) (namespace_seen rs t ∙ ap (λ vs. printed.behind_default vs t) r)
    ∙ default_seen ss t

-- ---- directives

pub directives_step : (texts : List (List ℕ)) (i : ℕ) (nodes made : Trees) → i < length texts → made ≡ append nodes (leaf (shape.StringLiteral (get_or texts i [])) ▸ none) → append nodes (printed.directives (drop i texts)) ≡ append made (printed.directives (drop (i + 1) texts))
directives_step texts i nodes made h e =
    ap (append nodes) (at_drop_more printed.directives texts i [] h)
    ∙ sym (append_one nodes (leaf (shape.StringLiteral (get_or texts i []))) (printed.directives (drop (i + 1) texts)))
    ∙ ap (λ us. append us (printed.directives (drop (i + 1) texts))) (sym e)

pub directives_end : (texts : List (List ℕ)) (i : ℕ) (nodes : Trees) → length texts ≤ i → append nodes (printed.directives (drop i texts)) ≡ nodes
directives_end texts i nodes h = ap (append nodes) (at_drop_all printed.directives texts i h) ∙ append_none nodes

-- ---- functions

pub body_kept : (ds : List (List ℕ)) (t : Tree) → is_body t ≡ false → length ds ≡ 0 → t ≡ printed.with_directives ds t
body_kept [] (node shape.FunctionBody xs n (l ▸ none)) e h = absurd (false≢true (sym e))
body_kept [] t e h = refl
body_kept (d ∷ ds) t e h = absurd (omega (arith, h))

pub body_lost : (ds : List (List ℕ)) (t : Tree) → is_body t ≡ false → 0 < length ds → absent ≡ printed.with_directives ds t
body_lost [] t e h = absurd (omega (arith, h))
body_lost (d ∷ ds) (node shape.FunctionBody xs n (l ▸ none)) e h = absurd (false≢true (sym e))
body_lost (d ∷ ds) t e h = refl

pub body_with : (ds : List (List ℕ)) (t : Tree) → is_body t ≡ true → with_children t (with_inserted (children t) 0 (listed (printed.directives ds))) ≡ printed.with_directives ds t
body_with ds (node shape.FunctionBody xs n (l ▸ none)) e = refl
body_with ds t e = absurd (false≢true e)

pub function_three : (t : Tree) → count (children t) ≡ 3 → with_body 2 t ≡ function t
function_three (node h xs n none) e = absurd (omega (arith, e))
function_three (node h xs n (i ▸ none)) e = absurd (omega (arith, e))
function_three (node h xs n (i ▸ ps ▸ none)) e = absurd (omega (arith, e))
function_three (node h xs n (i ▸ ps ▸ b ▸ none)) e = refl
function_three (node h xs n (i ▸ ps ▸ b ▸ c ▸ ts)) e = absurd (omega (arith, e))

pub function_other : (t : Tree) → (count (children t) ≡ 3 → ⊥) → t ≡ function t
function_other (node h xs n none) e = refl
function_other (node h xs n (i ▸ none)) e = refl
function_other (node h xs n (i ▸ ps ▸ none)) e = refl
function_other (node h xs n (i ▸ ps ▸ b ▸ none)) e = absurd (e refl)
function_other (node h xs n (i ▸ ps ▸ b ▸ c ▸ ts)) e = refl

pub arrow_two : (t : Tree) → count (children t) ≡ 2 → with_body 1 t ≡ arrow t
arrow_two (node h xs n none) e = absurd (omega (arith, e))
arrow_two (node h xs n (ps ▸ none)) e = absurd (omega (arith, e))
arrow_two (node h xs n (ps ▸ b ▸ none)) e = refl
arrow_two (node h xs n (ps ▸ b ▸ c ▸ ts)) e = absurd (omega (arith, e))

pub arrow_other : (t : Tree) → (count (children t) ≡ 2 → ⊥) → t ≡ arrow t
arrow_other (node h xs n none) e = refl
arrow_other (node h xs n (ps ▸ none)) e = refl
arrow_other (node h xs n (ps ▸ b ▸ none)) e = absurd (e refl)
arrow_other (node h xs n (ps ▸ b ▸ c ▸ ts)) e = refl

pub function_seen : (t : Tree) (d g : Bool) (ds : List (List ℕ)) → shape_of t ≡ shape.Function d g ds → function t ≡ seen t
function_seen (node h xs n ts) d g ds e = subst (λ h. function (node h xs n ts) ≡ seen (node h xs n ts)) (sym e) (here d g ds xs n ts)
  where
    here : (d g : Bool) (ds : List (List ℕ)) (xs : List Name) (n : ℕ) (ts : Trees) → function (node (shape.Function d g ds) xs n ts) ≡ seen (node (shape.Function d g ds) xs n ts)
    here d g ds xs n none = refl
    here d g ds xs n (i ▸ none) = refl
    here d g ds xs n (i ▸ ps ▸ none) = refl
    here d g ds xs n (i ▸ ps ▸ b ▸ none) = refl
    here d g ds xs n (i ▸ ps ▸ b ▸ c ▸ ts) = refl

pub arrow_seen : (t : Tree) (ds : List (List ℕ)) → shape_of t ≡ shape.ArrowFunctionExpression ds → arrow t ≡ seen t
arrow_seen (node h xs n ts) ds e = subst (λ h. arrow (node h xs n ts) ≡ seen (node h xs n ts)) (sym e) (here ds xs n ts)
  where
    here : (ds : List (List ℕ)) (xs : List Name) (n : ℕ) (ts : Trees) → arrow (node (shape.ArrowFunctionExpression ds) xs n ts) ≡ seen (node (shape.ArrowFunctionExpression ds) xs n ts)
    here ds xs n none = refl
    here ds xs n (ps ▸ none) = refl
    here ds xs n (ps ▸ b ▸ none) = refl
    here ds xs n (ps ▸ b ▸ c ▸ ts) = refl

-- ---- all nodes

template_seen : (xs : List Name) (n : ℕ) (ts : Trees) → node shape.TemplateLiteral xs n (template_parts ts) ≡ printed.seen shape.TemplateLiteral xs n ts
template_seen xs n (node shape.Listed [] k qs ▸ node shape.Listed [] j es ▸ none) = refl
template_seen xs n ts = refl

import_seen : (xs : List Name) (n : ℕ) (ts : Trees) → node shape.ImportDeclaration xs n (import_parts ts) ≡ printed.seen shape.ImportDeclaration xs n ts
import_seen xs n (node shape.Listed [] k ss ▸ t ▸ none) = refl
import_seen xs n ts = refl

chain_seen : (xs : List Name) (n : ℕ) (ts : Trees) → node shape.ChainExpression xs n (chain_parts ts) ≡ printed.seen shape.ChainExpression xs n ts
chain_seen xs n none = refl
chain_seen xs n (t ▸ none) = refl
chain_seen xs n (t ▸ u ▸ ts) = refl

export_seen : (xs : List Name) (n : ℕ) (ts : Trees) → node shape.ExportSpecifier xs n (export_parts ts) ≡ printed.seen shape.ExportSpecifier xs n ts
export_seen xs n none = refl
export_seen xs n (t ▸ none) = refl
export_seen xs n (t ▸ u ▸ none) = refl
export_seen xs n (t ▸ u ▸ v ▸ ts) = refl

method_seen : (k : MethodDefinitionKind) (c : Bool) (xs : List Name) (n : ℕ) (ts : Trees) → node (shape.MethodDefinition k c true) xs n (method_parts k c ts) ≡ printed.seen (shape.MethodDefinition k c true) xs n ts
method_seen k c xs n none = refl
method_seen k c xs n (t ▸ none) = refl
method_seen k c xs n (t ▸ u ▸ none) = refl
method_seen k c xs n (t ▸ u ▸ v ▸ ts) = refl

property_seen : (c : Bool) (xs : List Name) (n : ℕ) (ts : Trees) → node (shape.PropertyDefinition c true) xs n (property_parts c ts) ≡ printed.seen (shape.PropertyDefinition c true) xs n ts
property_seen c xs n none = refl
property_seen c xs n (t ▸ none) = refl
property_seen c xs n (t ▸ u ▸ none) = refl
property_seen c xs n (t ▸ u ▸ v ▸ ts) = refl

-- a declarator has no name in a text
pub declarator_seen : (t : Tree) → shape_of t ≡ shape.VariableDeclarator → with_names t [] ≡ seen t
declarator_seen (node h xs n ts) e = subst (λ h. node h [] n ts ≡ printed.seen h xs n ts) (sym e) refl

-- of any other shape than that of an inner expression, a function or a declarator
others_seen : (h : Shape) (xs : List Name) (n : ℕ) (ts : Trees) → (h ≡ shape.InnerExpression → ⊥) → ((d g : Bool) (ds : List (List ℕ)) → h ≡ shape.Function d g ds → ⊥) → ((ds : List (List ℕ)) → h ≡ shape.ArrowFunctionExpression ds → ⊥) → (h ≡ shape.VariableDeclarator → ⊥) → node h xs n (parts_in_order h ts) ≡ printed.seen h xs n ts
others_seen shape.InnerExpression xs n ts a b c d = absurd (a refl)
others_seen (shape.Function m g ds) xs n ts a b c d = absurd (b m g ds refl)
others_seen (shape.ArrowFunctionExpression ds) xs n ts a b c d = absurd (c ds refl)
others_seen shape.VariableDeclarator xs n ts a b c d = absurd (d refl)
others_seen shape.ChainExpression xs n ts a b c d = chain_seen xs n ts
others_seen shape.TemplateLiteral xs n ts a b c d = template_seen xs n ts
others_seen (shape.MethodDefinition k m true) xs n ts a b c d = method_seen k m xs n ts
others_seen (shape.PropertyDefinition m true) xs n ts a b c d = property_seen m xs n ts
others_seen shape.ImportDeclaration xs n ts a b c d = import_seen xs n ts
others_seen shape.ExportSpecifier xs n ts a b c d = export_seen xs n ts
others_seen _ xs n ts a b c d = refl

pub parts_seen : (t : Tree) → (shape_of t ≡ shape.InnerExpression → ⊥) → ((d g : Bool) (ds : List (List ℕ)) → shape_of t ≡ shape.Function d g ds → ⊥) → ((ds : List (List ℕ)) → shape_of t ≡ shape.ArrowFunctionExpression ds → ⊥) → (shape_of t ≡ shape.VariableDeclarator → ⊥) → like t (parts_in_order (shape_of t) (children t)) ≡ seen t
parts_seen (node h xs n ts) = others_seen h xs n ts

pub inner_seen : (t : Tree) → shape_of t ≡ shape.InnerExpression → inner t ≡ seen t
inner_seen (node h xs n ts) e = subst (λ h. inner (node h xs n ts) ≡ seen (node h xs n ts)) (sym e) (here xs n ts)
  where
    here : (xs : List Name) (n : ℕ) (ts : Trees) → inner (node shape.InnerExpression xs n ts) ≡ seen (node shape.InnerExpression xs n ts)
    here xs n none = refl
    here xs n (t ▸ none) = refl
    here xs n (t ▸ u ▸ ts) = refl

-- the children are shown before their node
pub shown_seen : (t : Tree) → seen (with_children t (all_shown (children t))) ≡ shown t
shown_seen (node h xs n ts) = refl

-- ---- a list, of which the first ones are shown

abbrev pub shown_to : ℕ → Trees → Trees
shown_to i none = none
shown_to zero (t ▸ ts) = t ▸ ts
shown_to (suc i) (t ▸ ts) = shown t ▸ shown_to i ts

pub shown_none : (ts : Trees) → shown_to 0 ts ≡ ts
shown_none none = refl
shown_none (t ▸ ts) = refl

pub shown_all : (ts : Trees) (i : ℕ) → count ts ≤ i → shown_to i ts ≡ all_shown ts
shown_all none i h = refl
shown_all (t ▸ ts) zero h = absurd (omega (arith, h))
shown_all (t ▸ ts) (suc i) h = ap (λ us. shown t ▸ us) (shown_all ts i (omega (arith, h)))

pub shown_count : (ts : Trees) (i : ℕ) → count (shown_to i ts) ≡ count ts
shown_count none i = refl
shown_count (t ▸ ts) zero = refl
shown_count (t ▸ ts) (suc i) = ap suc (shown_count ts i)

pub shown_next : (ts : Trees) (i : ℕ) → child_or_absent (shown_to i ts) i ≡ child_or_absent ts i
shown_next none i = refl
shown_next (t ▸ ts) zero = refl
shown_next (t ▸ ts) (suc i) = shown_next ts i

shown_put : (ts : Trees) (i : ℕ) → with_child (shown_to i ts) i (shown (child_or_absent ts i)) ≡ shown_to (suc i) ts
shown_put none i = refl
shown_put (t ▸ ts) zero = ap (λ us. shown t ▸ us) (sym (shown_none ts))
shown_put (t ▸ ts) (suc i) = ap (λ us. shown t ▸ us) (shown_put ts i)

-- as the code asks: the child is taken out, shown and put back
pub shown_turn : (ts now left after : Trees) (i : ℕ) (t u : Tree) → now ≡ shown_to i ts → t ≡ child_or_absent now i → left ≡ with_child now i absent → u ≡ shown t → after ≡ with_child left i u → after ≡ shown_to (i + 1) ts
shown_turn ts now left after i t u a b c d e =
    e ∙ ap (λ us. with_child us i u) c ∙ put_twice now i absent u
    ∙ ap (with_child now i) (d ∙ ap shown (b ∙ ap (λ us. child_or_absent us i) a ∙ shown_next ts i))
    ∙ ap (λ us. with_child us i (shown (child_or_absent ts i))) a ∙ shown_put ts i ∙ ap (λ j. shown_to j ts) (sym (add-one i))

pub next_smaller : (ts now : Trees) (i : ℕ) → now ≡ shown_to i ts → i < count ts → node_count (child_or_absent now i) ≤ node_counts ts
next_smaller ts now i e h = subst (λ t. node_count t ≤ node_counts ts) (sym (ap (λ us. child_or_absent us i) e ∙ shown_next ts i)) (child_smaller ts i h)
