-- Reading from node to node.
use Rattle.std.proofs.Common.{◌≡◌, ℕ, zero, suc, ◌<◌, ◌≤◌, ◌-◌, ◌+◌, length, get_or, List, [], ◌∷◌, Bool, true, false, map, drop, refl, sym, ap, ◌∙◌, subst, Option, Some, None, arith, add-one, drop-cons}
use Rattle.std.specs.Prelude.{◌==◌, option_map, IfSome, IfOk, IfErr, Result, Ok, Err}
use Rattle.std.proofs.lemmas.List.{drop_all}
use Rattle.std.specs.Result.{result_err}
use Rattle.serde_json.specs.Data.{Data}
use Rattle.serde_json.specs.View.{view, items_view}
use Rattle.serde_json.specs.declared.value.Value.{Value}
use Rattle.mini_model.specs.declared.name.Name.{Name}
use Rattle.mini_model.specs.declared.shape.Shape.{Shape}
use Rattle.mini_model.specs.declared.shape.Shape.TheVariants as shape
use Rattle.mini_model.specs.Tree.{Tree, node, Trees, none, ◌▸◌, listed}
use Rattle.mini_model.specs.Paths.{append}
use Rattle.mini_node.specs.Children.{like}
use Rattle.mini_accept.specs.WellShaped.{is_strict_in}
use Rattle.mini_accept.specs.Faults as accept
use Rattle.mini_accept.specs.Faults.{Defect, Fault, fault_under, under, ◌>>=◌}
use Rattle.mini_accept.specs.Places.{Step, step_text, down, place, Place}
use Rattle.mini_accept.specs.Plans.{Part, tree_at, inner_at, checked, Child, one, many, Plan, ItemPart, parts_from}
use Rattle.mini_accept.specs.Accept.{Read, Reader, reads, plan, takes_number, with_children, read_below, read_part, read_parts, read_child, read_children}
use Rattle.mini_model.specs.Faults as errors
use Rattle.mini_model.specs.Faults.{fault_of, IsUnder}
use Rattle.mini_model.specs.declared.error.MinifyError.{MinifyError}
use Rattle.mini_plan.specs.declared.plan.Below.{Below}
use Rattle.mini_estree.specs.Reads.{fault_told, Blames, onto, number_given, first_below}
use Rattle.mini_estree.proofs.Lists.{parts_front}

-- ---- errors

-- the error tells this, or nothing
IsOf : Option errors.Fault → Option Fault → Type 0
IsOf told o = IfSome told (λ f. option_map fault_told o ≡ Some f)

nothing_of : (told : Option errors.Fault) (o : Option Fault) → IsOf told None → IsOf told o
unfolding IsOf
nothing_of None o h = tt
nothing_of (Some f) o h = absurd (cc h)

blames_nothing : (e : MinifyError) (o : Option Fault) → Blames e None → Blames e o
unfolding IsOf
blames_nothing e o h = nothing_of (fault_of e) o h

of_memory : (told : Option errors.Fault) (o : Option Fault) → told ≡ None → IsOf told o
unfolding IsOf
of_memory None o h = tt
of_memory (Some f) o h = absurd (cc h)

pub blames_memory : (e : MinifyError) (o : Option Fault) → fault_of e ≡ None → Blames e o
unfolding IsOf
blames_memory e o h = of_memory (fault_of e) o h

pub none_blamed : (r : Result ℕ MinifyError) (o : Option Fault) → IfErr r (λ e. fault_of e ≡ None) → IfErr r (λ e. Blames e o)
none_blamed (Ok m) o h = tt
none_blamed (Err e) o h = blames_memory e o h

-- what was put behind what was read before
pub then_put : (r : Result ℕ MinifyError) (next : ℕ) (out' whole : Trees) (read : Read Trees) → IfOk r (λ m. (m ≡ next) × (out' ≡ whole)) → (out' ≡ whole → read ≡ Ok (out', next)) → IfOk r (λ m. read ≡ Ok (out', m))
then_put (Ok m) next out' whole read (is, put) f = rw is (f put)
then_put (Err e) next out' whole read h f = tt

of_fault : (told : Option errors.Fault) (f : Fault) → told ≡ Some (fault_told f) → IsOf told (Some f)
unfolding IsOf
of_fault None f h = tt
of_fault (Some g) f h = cc

pub blames_fault : (e : MinifyError) (f : Fault) → fault_of e ≡ Some (fault_told f) → Blames e (Some f)
unfolding IsOf
blames_fault e f h = of_fault (fault_of e) f h

of_under : (step : List ℕ) (old new : Option errors.Fault) (o : Option Fault) → IsUnder step old new → IsOf old o → IsOf new (option_map (fault_under step) o)
unfolding IsOf
of_under step old None o moved h = tt
of_under step None (Some g) o moved h = absurd (cc moved)
of_under step (Some f) (Some g) None moved h = absurd (cc h)
of_under step (Some f) (Some g) (Some x) moved h = grind (arith, moved, h)

-- ---- steps

pub blames_under : (e e' : MinifyError) (step : List ℕ) (read : Read Tree) → IsUnder step (fault_of e) (fault_of e') → Blames e (result_err read) → Blames e' (result_err (under step read))
unfolding IsOf
blames_under e e' step (Ok x) moved h = of_under step (fault_of e) (fault_of e') None moved h
blames_under e e' step (Err f) moved h = of_under step (fault_of e) (fault_of e') (Some f) moved h

-- ---- one behind another

append_assoc : (a b c : Trees) → append (append a b) c ≡ append a (append b c)
append_assoc none b c = refl
append_assoc (t ▸ ts) b c = ap (λ us. t ▸ us) (append_assoc ts b c)

append_none : (ts : Trees) → append ts none ≡ ts
append_none none = refl
append_none (t ▸ ts) = ap (λ us. t ▸ us) (append_none ts)

pub onto_none : (read : Read Trees) → read ≡ onto none read
onto_none (Ok r) = refl
onto_none (Err f) = refl

-- what is read, and what is read from there on
then : Read Trees → (ℕ → Read Trees) → Read Trees
then x rest = x >>= λ r. rest r.1 >>= λ q. Ok (append r.0 q.0, q.1)

onto_then : (out ts : Trees) (x : Read Trees) → onto out (x >>= λ q. Ok (append ts q.0, q.1)) ≡ onto (append out ts) x
onto_then out ts (Ok q) = ap (λ us. Ok (us, q.1)) (sym (append_assoc out ts q.0))
onto_then out ts (Err f) = refl

step_by : (out out' : Trees) (m : ℕ) (x : Read Trees) (rest : ℕ → Read Trees) → onto out x ≡ Ok (out', m) → onto out (then x rest) ≡ onto out' (rest m)
unfolding then
step_by out out' m (Ok (ts, k)) rest e =
    let both : (append out ts, k) ≡ (out', m) = cc in
    let a : append out ts ≡ out' = ap (λ (x : Trees × ℕ). x.0) both in
    let b : k ≡ m = ap (λ (x : Trees × ℕ). x.1) both in
    onto_then out ts (rest k) ∙ (ap (λ us. onto us (rest k)) a ∙ ap (λ i. onto out' (rest i)) b)
step_by out out' m (Err f) rest e = absurd (cc e)

stop_by : (e : MinifyError) (out : Trees) (x : Read Trees) (rest : ℕ → Read Trees) → Blames e (result_err x) → Blames e (result_err (onto out (then x rest)))
unfolding then
stop_by e out (Ok r) rest h = blames_nothing e _ h
stop_by e out (Err f) rest h = h

end_by : (out : Trees) (n : ℕ) → onto out (Ok (none, n)) ≡ Ok (out, n)
end_by out n = ap (λ ts. Ok (ts, n)) (append_none out)

-- ---- nodes

pub deep : (e : MinifyError) (k : ℕ) (s : Bool) (p : Place) (n : ℕ) (d : Data) → k ≡ 0 → fault_of e ≡ Some (record { defect = errors.too_deep; at = [] }) → Blames e (result_err (reads k s p n d))
deep e k s p n d is h = rw is (blames_fault e (record { defect = accept.too_deep; at = [] }) h)

pub unplanned : (e : MinifyError) (k : ℕ) (s : Bool) (p : Place) (n : ℕ) (d : Data) (x : Defect) → 0 < k → plan s p d ≡ Err x → fault_of e ≡ Some (fault_told (record { defect = x; at = [] })) → Blames e (result_err (reads k s p n d))
unplanned e zero s p n d x h is told = absurd (omega arith)
unplanned e (suc k) s p n d x h is told = rw is (blames_fault e (record { defect = x; at = [] }) told)

pub over_leaf : (h : Shape) (xs : List Name) (n : ℕ) (ts : Trees) (r t : Tree) → r ≡ node h xs n none → t ≡ like r ts → t ≡ node h xs n ts
over_leaf h xs n ts r t is made = made ∙ ap (λ u. like u ts) is

less : (k : ℕ) → suc k - 1 ≡ k
less k = omega arith

numbered_read : (k : ℕ) (s : Bool) (p : Place) (n m i : ℕ) (d : Data) (x : Plan) (ts : Trees) (t : Tree) → 0 < k → plan s p d ≡ Ok x → takes_number p x.shape ≡ true → i ≡ suc n
    → read_children (reads (k - 1)) (is_strict_in s x.shape) d i x.children ≡ Ok (ts, m) → t ≡ node x.shape x.names n ts → reads k s p n d ≡ Ok (t, m)
numbered_read zero s p n m i d x ts t h is takes next below made = absurd (omega arith)
numbered_read (suc k) s p n m i d x ts t h is takes next below made =
    let same : read_children (reads k) (is_strict_in s x.shape) d (suc n) x.children ≡ Ok (ts, m) = rw (less k, next) at below in
    rw (is, takes, same, made) refl

plain_read : (k : ℕ) (s : Bool) (p : Place) (n m : ℕ) (d : Data) (x : Plan) (ts : Trees) (t : Tree) → 0 < k → plan s p d ≡ Ok x → takes_number p x.shape ≡ false
    → read_children (reads (k - 1)) (is_strict_in s x.shape) d n x.children ≡ Ok (ts, m) → t ≡ node x.shape x.names 0 ts → reads k s p n d ≡ Ok (t, m)
plain_read zero s p n m d x ts t h is takes below made = absurd (omega arith)
plain_read (suc k) s p n m d x ts t h is takes below made =
    let same : read_children (reads k) (is_strict_in s x.shape) d n x.children ≡ Ok (ts, m) = rw (less k) at below in
    rw (is, takes, same, made) refl

kept : (e : MinifyError) (h : Shape) (xs : List Name) (n : ℕ) (r : Read Trees) → Blames e (result_err r) → Blames e (result_err (with_children h xs n r))
kept e h xs n (Ok q) b = blames_nothing e None b
kept e h xs n (Err f) b = b

numbered_stop : (e : MinifyError) (k : ℕ) (s : Bool) (p : Place) (n i : ℕ) (d : Data) (x : Plan) → 0 < k → plan s p d ≡ Ok x → takes_number p x.shape ≡ true → i ≡ suc n
    → Blames e (result_err (read_children (reads (k - 1)) (is_strict_in s x.shape) d i x.children)) → Blames e (result_err (reads k s p n d))
numbered_stop e zero s p n i d x h is takes next below = absurd (omega arith)
numbered_stop e (suc k) s p n i d x h is takes next below =
    let same : Blames e (result_err (read_children (reads k) (is_strict_in s x.shape) d (suc n) x.children)) = rw (less k, next) at below in
    rw (is, takes) (kept e x.shape x.names n (read_children (reads k) (is_strict_in s x.shape) d (suc n) x.children) same)

plain_stop : (e : MinifyError) (k : ℕ) (s : Bool) (p : Place) (n : ℕ) (d : Data) (x : Plan) → 0 < k → plan s p d ≡ Ok x → takes_number p x.shape ≡ false
    → Blames e (result_err (read_children (reads (k - 1)) (is_strict_in s x.shape) d n x.children)) → Blames e (result_err (reads k s p n d))
plain_stop e zero s p n d x h is takes below = absurd (omega arith)
plain_stop e (suc k) s p n d x h is takes below =
    let same : Blames e (result_err (read_children (reads k) (is_strict_in s x.shape) d n x.children)) = rw (less k) at below in
    rw (is, takes) (kept e x.shape x.names 0 (read_children (reads k) (is_strict_in s x.shape) d n x.children) same)

-- a node that takes a number, or takes none
read_by : (b : Bool) (k : ℕ) (s : Bool) (p : Place) (n m i j : ℕ) (d : Data) (x : Plan) (ts : Trees) (t : Tree) → 0 < k → plan s p d ≡ Ok x → takes_number p x.shape ≡ b → i ≡ number_given b n → j ≡ first_below b n
    → read_children (reads (k - 1)) (is_strict_in s x.shape) d j x.children ≡ Ok (ts, m) → t ≡ node x.shape x.names i ts → reads k s p n d ≡ Ok (t, m)
read_by true k s p n m i j d x ts t h is takes given first below made = numbered_read k s p n m j d x ts t h is takes first below (made ∙ ap (λ a. node x.shape x.names a ts) given)
read_by false k s p n m i j d x ts t h is takes given first below made =
    plain_read k s p n m d x ts t h is takes (sym (ap (λ a. read_children (reads (k - 1)) (is_strict_in s x.shape) d a x.children) first) ∙ below) (made ∙ ap (λ a. node x.shape x.names a ts) given)

pub node_read : (b : Bool) (k : ℕ) (s : Bool) (p : Place) (n m i j : ℕ) (d : Data) (x : Plan) (ts : Trees) (t : Tree) → 0 < k → plan s p d ≡ Ok x → b ≡ takes_number p x.shape → i ≡ number_given b n → j ≡ first_below b n
    → read_children (reads (k - 1)) (is_strict_in s x.shape) d j x.children ≡ Ok (ts, m) → t ≡ node x.shape x.names i ts → reads k s p n d ≡ Ok (t, m)
node_read b k s p n m i j d x ts t h is takes given first below made = read_by b k s p n m i j d x ts t h is (sym takes) given first below made

stopped_by : (b : Bool) (e : MinifyError) (k : ℕ) (s : Bool) (p : Place) (n j : ℕ) (d : Data) (x : Plan) → 0 < k → plan s p d ≡ Ok x → takes_number p x.shape ≡ b → j ≡ first_below b n
    → Blames e (result_err (read_children (reads (k - 1)) (is_strict_in s x.shape) d j x.children)) → Blames e (result_err (reads k s p n d))
stopped_by true e k s p n j d x h is takes first below = numbered_stop e k s p n j d x h is takes first below
stopped_by false e k s p n j d x h is takes first below = plain_stop e k s p n d x h is takes (subst (λ (a : ℕ). Blames e (result_err (read_children (reads (k - 1)) (is_strict_in s x.shape) d a x.children))) first below)

pub node_stop : (b : Bool) (e : MinifyError) (k : ℕ) (s : Bool) (p : Place) (n j : ℕ) (d : Data) (x : Plan) → 0 < k → plan s p d ≡ Ok x → b ≡ takes_number p x.shape → j ≡ first_below b n
    → Blames e (result_err (read_children (reads (k - 1)) (is_strict_in s x.shape) d j x.children)) → Blames e (result_err (reads k s p n d))
node_stop b e k s p n j d x h is takes first below = stopped_by b e k s p n j d x h is (sym takes) first below

with_list : Read Trees → Read Trees
with_list x = x >>= λ q. Ok (listed q.0 ▸ none, q.1)

listed_by : (e : MinifyError) (x : Read Trees) → Blames e (result_err x) → Blames e (result_err (with_list x))
unfolding with_list
listed_by e (Ok q) h = blames_nothing e None h
listed_by e (Err f) h = h

pub read_again : (xs : List Below) (i : ℕ) (z : Below) → i < length xs → get_or xs i z ≡ get_or xs i (get_or xs i z)
read_again [] i z h = absurd (omega (arith, h))
read_again (x ∷ xs) zero z h = refl
read_again (x ∷ xs) (suc i) z h = let less : i < length xs = omega (arith, h) in read_again xs i z less

-- ---- children

module _ (r : Reader) (s : Bool) (d : Data) where
  pub children_step : (f : Below → Child) (xs : List Below) (i n m : ℕ) (x : Below) (out out' : Trees) → i < length xs → x ≡ get_or xs i x → onto out (read_child r s d n (f x)) ≡ Ok (out', m)
      → onto out (read_children r s d n (map f (drop i xs))) ≡ onto out' (read_children r s d m (map f (drop (i + 1) xs)))
  unfolding then
  children_step f xs i n m x out out' h is e =
      let front : drop i xs ≡ x ∷ drop (i + 1) xs = rw (add-one, drop-cons xs i x, ← is) refl in
      rw front (step_by out out' m (read_child r s d n (f x)) (λ k. read_children r s d k (map f (drop (i + 1) xs))) e)

  pub children_stop : (e : MinifyError) (f : Below → Child) (xs : List Below) (i n : ℕ) (x : Below) (out : Trees) → i < length xs → x ≡ get_or xs i x → Blames e (result_err (read_child r s d n (f x)))
      → Blames e (result_err (onto out (read_children r s d n (map f (drop i xs)))))
  unfolding then
  children_stop e f xs i n x out h is b =
      let front : drop i xs ≡ x ∷ drop (i + 1) xs = rw (add-one, drop-cons xs i x, ← is) refl in
      rw front (stop_by e out (read_child r s d n (f x)) (λ k. read_children r s d k (map f (drop (i + 1) xs))) b)

  pub children_end : (f : Below → Child) (xs : List Below) (i n : ℕ) (out : Trees) → length xs ≤ i → onto out (read_children r s d n (map f (drop i xs))) ≡ Ok (out, n)
  children_end f xs i n out h =
      let gone : drop i xs ≡ [] = drop_all i xs h in
      rw gone (end_by out n)

  -- ---- lists

  pub items_step : (part : ItemPart) (key : List ℕ) (xs : List Value) (i n m : ℕ) (x : Value) (out out' : Trees) → i < length xs → x ≡ get_or xs i x → onto out (read_part r s d n (part (i + 1 == length xs) (view x) (place key i))) ≡ Ok (out', m)
      → onto out (read_parts r s d n (parts_from part key i (items_view (drop i xs)))) ≡ onto out' (read_parts r s d m (parts_from part key (i + 1) (items_view (drop (i + 1) xs))))
  unfolding then
  items_step part key xs i n m x out out' h is e =
      ap (λ ps. onto out (read_parts r s d n ps)) (parts_front part key xs i x h is)
      ∙ step_by out out' m (read_part r s d n (part (i + 1 == length xs) (view x) (place key i))) (λ k. read_parts r s d k (parts_from part key (i + 1) (items_view (drop (i + 1) xs)))) e

  pub items_stop : (e : MinifyError) (part : ItemPart) (key : List ℕ) (xs : List Value) (i n : ℕ) (x : Value) (out : Trees) → i < length xs → x ≡ get_or xs i x → Blames e (result_err (read_part r s d n (part (i + 1 == length xs) (view x) (place key i))))
      → Blames e (result_err (onto out (read_parts r s d n (parts_from part key i (items_view (drop i xs))))))
  unfolding then
  items_stop e part key xs i n x out h is b =
      rw (parts_front part key xs i x h is)
      (stop_by e out (read_part r s d n (part (i + 1 == length xs) (view x) (place key i))) (λ k. read_parts r s d k (parts_from part key (i + 1) (items_view (drop (i + 1) xs)))) b)

  pub items_end : (part : ItemPart) (key : List ℕ) (xs : List Value) (i n : ℕ) (out : Trees) → length xs ≤ i → onto out (read_parts r s d n (parts_from part key i (items_view (drop i xs)))) ≡ Ok (out, n)
  items_end part key xs i n out h =
      let gone : drop i xs ≡ [] = drop_all i xs h in
      rw gone (end_by out n)

  pub listed_onto : (c : Child) (xs : List Part) (n m : ℕ) (ts out out' : Trees) → many xs ≡ c → read_parts r s d n xs ≡ Ok (ts, m) → out' ≡ append out (node shape.Listed [] 0 ts ▸ none) → onto out (read_child r s d n c) ≡ Ok (out', m)
  listed_onto c xs n m ts out out' is e made = rw (← is, e, made) refl

  pub listed_stop : (e : MinifyError) (c : Child) (xs : List Part) (n : ℕ) → many xs ≡ c → Blames e (result_err (read_parts r s d n xs)) → Blames e (result_err (read_child r s d n c))
  unfolding with_list
  listed_stop e c xs n is b = rw (← is) (listed_by e (read_parts r s d n xs) b)

  pub one_onto : (c : Child) (x : Part) (n m : ℕ) (out out' : Trees) → one x ≡ c → onto out (read_part r s d n x) ≡ Ok (out', m) → onto out (read_child r s d n c) ≡ Ok (out', m)
  one_onto c x n m out out' is e = rw (← is) e

  pub one_stop : (e : MinifyError) (c : Child) (x : Part) (n : ℕ) → one x ≡ c → Blames e (result_err (read_part r s d n x)) → Blames e (result_err (read_child r s d n c))
  one_stop e c x n is b = rw (← is) b

  -- ---- parts

  pub tree_onto : (q : Step) (p : Place) (n m : ℕ) (t : Tree) (out out' : Trees) → read_below r s n d q p ≡ Ok (t, m) → out' ≡ append out (t ▸ none) → onto out (read_part r s d n (tree_at q p)) ≡ Ok (out', m)
  tree_onto q p n m t out out' e made = rw (e, made) refl

  pub inner_onto : (q : Step) (p : Place) (n i m : ℕ) (t : Tree) (out out' : Trees) → i ≡ suc n → read_below r s i d q p ≡ Ok (t, m) → out' ≡ append out (node shape.InnerExpression [] n (t ▸ none) ▸ none) → onto out (read_part r s d n (inner_at q p)) ≡ Ok (out', m)
  inner_onto q p n i m t out out' next e made =
      let same : read_below r s (suc n) d q p ≡ Ok (t, m) = rw next at e in
      rw (same, made) refl

  pub checked_onto : (q : Step) (p : Place) (n m : ℕ) (t : Tree) (out : Trees) → read_below r s n d q p ≡ Ok (t, m) → onto out (read_part r s d n (checked q p)) ≡ Ok (out, n)
  checked_onto q p n m t out e = rw e (end_by out n)

  pub below_read : (q : Step) (p : Place) (n m : ℕ) (x : Data) (t : Tree) → down q d ≡ Some x → r s p n x ≡ Ok (t, m) → read_below r s n d q p ≡ Ok (t, m)
  below_read q p n m x t found e = rw (found, e) refl

  pub below_missing : (e : MinifyError) (q : Step) (p : Place) (n : ℕ) → down q d ≡ None → fault_of e ≡ Some (record { defect = errors.bad_shape; at = [] }) → Blames e (result_err (read_below r s n d q p))
  below_missing e q p n gone told = rw gone (blames_fault e (record { defect = accept.bad_shape; at = [] }) told)

  pub below_stop : (e e' : MinifyError) (q : Step) (p : Place) (n : ℕ) (x : Data) → down q d ≡ Some x → IsUnder (step_text q) (fault_of e) (fault_of e') → Blames e (result_err (r s p n x)) → Blames e' (result_err (read_below r s n d q p))
  below_stop e e' q p n x found moved b = rw found (blames_under e e' (step_text q) (r s p n x) moved b)

  made_stop : (e : MinifyError) (f : Tree × ℕ → Trees × ℕ) (x : Read Tree) → Blames e (result_err x) → Blames e (result_err (x >>= λ q. Ok (f q)))
  made_stop e f (Ok q) h = blames_nothing e None h
  made_stop e f (Err x) h = h

  pub tree_stop : (e : MinifyError) (q : Step) (p : Place) (n : ℕ) → Blames e (result_err (read_below r s n d q p)) → Blames e (result_err (read_part r s d n (tree_at q p)))
  tree_stop e q p n b = made_stop e (λ x. (x.0 ▸ none, x.1)) (read_below r s n d q p) b

  pub inner_stop : (e : MinifyError) (q : Step) (p : Place) (n i : ℕ) → i ≡ suc n → Blames e (result_err (read_below r s i d q p)) → Blames e (result_err (read_part r s d n (inner_at q p)))
  inner_stop e q p n i next b =
      let same : Blames e (result_err (read_below r s (suc n) d q p)) = rw next at b in
      made_stop e (λ x. (node shape.InnerExpression [] n (x.0 ▸ none) ▸ none, x.1)) (read_below r s (suc n) d q p) same

  pub checked_stop : (e : MinifyError) (q : Step) (p : Place) (n : ℕ) → Blames e (result_err (read_below r s n d q p)) → Blames e (result_err (read_part r s d n (checked q p)))
  checked_stop e q p n b = made_stop e (λ x. (none, n)) (read_below r s n d q p) b
