-- Which bodies ask the world for `this`, as a walk finds them.
use Rattle.std.specs.Prelude.{ℕ, zero, suc, ◌≡◌, refl, nat_eq, ◌&&◌, ◌||◌, not, Bool, true, false, List, Option}
use Rattle.std.specs.List.{list_any}
use Rattle.std.proofs.Common.{ap, ◌∙◌, sym}
use Rattle.std.proofs.lemmas.List.Folds.{list_any-append}
use Rattle.mini_model.specs.declared.shape.Shape.{Shape}
use Rattle.mini_model.specs.declared.shape.Shape.TheVariants as shape
use Rattle.mini_model.specs.declared.kind.MethodDefinitionKind.TheVariants.{Constructor}
use Rattle.mini_model.specs.declared.operator.UnaryOperator.TheVariants.{LogicalNot}
use Rattle.mini_model.specs.Paths.{child_at}
use Rattle.mini_model.specs.Tree.{Tree, Trees, node, none, ◌▸◌, shape_of, children, first_or_absent}
use Rattle.mini_node.specs.Children.{number_of}
use Rattle.mini_laws.specs.Naming.{facts, nth_absent, summary}
use Rattle.mini_laws.specs.Bodies.{Around, outermost, below, body_of, bodies, bodies_from}
use Rattle.mini_context.specs.declared.asking.Asking.{Asking}
use Rattle.mini_context.specs.declared.asking.Absence.{Absence}
use Rattle.mini_context.specs.declared.asking.Absence.TheVariants as absence
use Rattle.mini_context.specs.Asking.{absence_of, asking_by, asks_as, own_asks, read_of, Like, PutAsking}
use Rattle.mini_context.specs.Tables.{mark_at}
use Rattle.mini_context.proofs.Gathering.{Adds, Gathers}
use Rattle.mini_context.proofs.Marking.{or_false, or_assoc}

pub asking_adds : Adds PutAsking
asking_adds = record {
  nothing = λ a b. sym (or_false (mark_at a b));
  both = λ xs ys a b c f g k. g k ∙ ap (λ m. m || list_any (asks_as k) ys) (f k) ∙ or_assoc (mark_at a k) (list_any (asks_as k) xs) (list_any (asks_as k) ys) ∙ ap (λ m. mark_at a k || m) (sym (list_any-append (asks_as k) xs ys));
}

pub bodies_gather : (around : ℕ → Around) → Gathers (λ i us. bodies (around i) (first_or_absent us)) (λ i us. bodies_from around i us)
bodies_gather around = record { at_none = λ i. refl; at_more = λ i t ts. refl }

-- ---- a node

own_body : (k : ℕ) (a : Around) (h : Shape) (n : ℕ) (t : Tree) (ts : Trees) → list_any (asks_as k) (body_of a h n t ts) ≡ (nat_eq n k && own_asks h a.asks_this a.constructs)
own_body k a (shape.Program m ds) n t ts = or_false (nat_eq n k && false)
own_body k a (shape.Function d g ds) n t ts = or_false (nat_eq n k && a.constructs)
own_body k a (shape.ArrowFunctionExpression ds) n t ts = or_false (nat_eq n k && a.asks_this)
own_body k a shape.StaticBlock n t ts = or_false (nat_eq n k && false)
own_body k a shape.InnerExpression n t ts = or_false (nat_eq n k && a.asks_this)
own_body k a h n t ts = sym (nothing (nat_eq n k))
  where
    nothing : (b : Bool) → (b && false) ≡ false
    nothing true = refl
    nothing false = refl

asked : (asking : Asking) (a : Around) → Like asking a → (h : Shape) → own_asks h a.asks_this a.constructs ≡ own_asks h asking.asks asking.constructs
asked asking a l h = ap (λ b. own_asks h b a.constructs) l.asks ∙ ap (own_asks h asking.asks) l.constructs

pub node_asks : (asking : Asking) (a : Around) → Like asking a → (t : Tree) (h : Shape) (n : ℕ) (b : Bool) (old now new : List Bool) → h ≡ shape_of t → n ≡ number_of t → b ≡ own_asks h asking.asks asking.constructs
    → ((k : ℕ) → mark_at now k ≡ (mark_at old k || (nat_eq n k && b))) → PutAsking (bodies_from (below a (shape_of t) (children t)) 0 (children t)) now new → PutAsking (bodies a t) old new
node_asks asking a l (node g xs m ts) h n b old now new e f i put rest =
    let own = body_of a g m (node g xs m ts) ts in
    asking_adds.both own (bodies_from (below a g ts) 0 ts) old now new
    (λ k. put k ∙ ap (λ v. mark_at old k || v) ((λ j. nat_eq (f j) k && (i ∙ ap (λ s. own_asks s asking.asks asking.constructs) e ∙ sym (asked asking a l g)) j) ∙ sym (own_body k a g m (node g xs m ts) ts))) rest

-- ---- below it

pub like_below : (asking : Asking) (a : Around) → Like asking a → (h : Shape) (ts : Trees) (i : ℕ) → Like (asking_by h asking ts i) (below a h ts i)
like_below asking a l (shape.Function d g ds) ts i = record { asks = l.constructs; extends = l.extends; constructs = refl }
like_below asking a l shape.StaticBlock ts i = record { asks = refl; extends = l.extends; constructs = refl }
like_below asking a l (shape.PropertyDefinition computed is_static) ts zero = record { asks = l.asks; extends = l.extends; constructs = refl }
like_below asking a l (shape.PropertyDefinition computed is_static) ts (suc i) = record { asks = refl; extends = l.extends; constructs = refl }
like_below asking a l (shape.Class d) ts i = record { asks = l.asks; extends = refl; constructs = refl }
like_below asking a l (shape.MethodDefinition Constructor computed is_static) ts zero = record { asks = l.asks; extends = l.extends; constructs = refl }
like_below asking a l (shape.MethodDefinition Constructor computed is_static) ts (suc i) = record { asks = l.asks; extends = l.extends; constructs = l.extends }
like_below asking a l (shape.MethodDefinition k computed is_static) ts i = record { asks = l.asks; extends = l.extends; constructs = refl }
like_below asking a l h ts i = record { asks = l.asks; extends = l.extends; constructs = refl }

-- ---- what is absent

abbrev pub absent_by : Absence → Trees → Bool
absent_by absence.Here ts = true
absent_by (absence.OfFirst missing) ts = read_of (child_at ts 0) missing
absent_by absence.Nowhere ts = false

absent_read : (t : Tree) → (summary t).facts.absent ≡ absent_by (absence_of (shape_of t)) (children t)
absent_read (node shape.Absent xs n ts) = refl
absent_read (node (shape.UnaryExpression LogicalNot) xs n none) = refl
absent_read (node (shape.UnaryExpression LogicalNot) xs n (t ▸ ts)) = refl
absent_read (node shape.SwitchCase xs n none) = refl
absent_read (node shape.SwitchCase xs n (t ▸ ts)) = refl
absent_read (node (shape.Function true g ds) xs n ts) = refl
absent_read (node (shape.Function false g ds) xs n ts) = refl
absent_read (node (shape.Class true) xs n ts) = refl
absent_read (node (shape.Class false) xs n ts) = refl
absent_read (node h xs n ts) = refl

-- as a walk finds it
pub absent_here : (t : Tree) (h : Shape) (p : Absence) (b : Bool) → p ≡ absence_of h → h ≡ shape_of t → b ≡ absent_by p (children t) → b ≡ (summary t).facts.absent
absent_here t h p b e f g = g ∙ ap (λ q. absent_by q (children t)) (e ∙ ap absence_of f) ∙ sym (absent_read t)

pub extended : (ts : Trees) (o : Option Tree) → o ≡ child_at ts 1 → (b : Bool) → b ≡ not (read_of o true) → b ≡ not (nth_absent (facts ts) 1)
extended none o e b f = f ∙ ap (λ v. not (read_of v true)) e
extended (t ▸ none) o e b f = f ∙ ap (λ v. not (read_of v true)) e
extended (t ▸ (u ▸ ts)) o e b f = f ∙ ap (λ v. not (read_of v true)) e

pub absent_first : (t : Tree) (h : Shape) (p : Absence) (missing : Bool) (ts : Trees) (o : Option Tree) (b : Bool) → p ≡ absence_of h → h ≡ shape_of t → ts ≡ children t → o ≡ child_at ts 0 → p ≡ absence.OfFirst missing → b ≡ read_of o missing → b ≡ (summary t).facts.absent
absent_first t h p missing ts o b e f c g i k = absent_here t h p b e f (k ∙ ap (λ v. read_of v missing) (g ∙ ap (λ us. child_at us 0) c) ∙ ap (λ q. absent_by q (children t)) (sym i))

-- ---- a program

pub top_alike : (asking : Asking) → asking ≡ record { asks = false; extends = false; constructs = false } → Like asking outermost
top_alike asking e = record { asks = sym (ap (λ k. k.asks) e); extends = sym (ap (λ k. k.extends) e); constructs = sym (ap (λ k. k.constructs) e) }
