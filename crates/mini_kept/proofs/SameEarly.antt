-- Early errors are those of the text: numbers and symbols don't matter.
use Rattle.std.specs.Prelude.{ℕ, zero, suc, ◌≡◌, refl, Bool, true, false, ◌&&◌, not, List, [], ◌∷◌, ◌++◌, map, unwrap_or, if◌then◌else◌}
use Rattle.std.proofs.Common.{ap, ◌∙◌}
use Rattle.mini_model.specs.declared.name.Name.{Name}
use Rattle.mini_model.specs.declared.shape.Shape.{Shape}
use Rattle.mini_model.specs.declared.shape.Shape.TheVariants as shape
use Rattle.mini_model.specs.Tree.{Tree, Trees, node, none, ◌▸◌, shape_of, child_or_absent}
use Rattle.mini_laws.specs.declared.names.Clash.{Clash}
use Rattle.mini_laws.specs.declared.names.Clash.TheVariants as clash
use Rattle.mini_laws.specs.declared.names.Declaration.{Declaration}
use Rattle.mini_laws.specs.declared.names.Declared.{Declared}
use Rattle.mini_laws.specs.declared.names.Declared.TheVariants as declared
use Rattle.mini_laws.specs.declared.names.Label.{Label}
use Rattle.mini_laws.specs.declared.names.Targets.{Targets}
use Rattle.mini_laws.specs.declared.names.Turn.{Turn}
use Rattle.mini_laws.specs.declared.names.Turn.TheVariants as turn
use Rattle.mini_laws.specs.DeclaredNames.{place_of}
use Rattle.mini_laws.specs.Resolved.{resolved_program}
use Rattle.mini_laws.specs.Symbols.{with_new, no_symbol, bare_names, bare}
use Rattle.mini_laws.specs.Early.{Path, choose_by, own_declarations, declarations, first_declarations, all_declarations, is_function_shape, holds_statements, body_declarations, all_body_declarations, is_pattern_shape, clash_of, at_child, in_body, children_of_node, in_param, in_block, declarations_by, scope_declarations, clashing, early_names, all_early_names, label_by, label_in, is_loop_shape, is_labeled, is_loop, last_is_loop, last_by, turn_of, label_for, turned, targets_of, jump_of, is_bad, is_bad_jump, early_jumps, all_early_jumps}
use Rattle.mini_kept.specs.Carried.{renumbered}
use Rattle.mini_kept.proofs.Texts.{text, texts, text_resolved, read_alike}

-- ---- the children of a node

children_text : (t : Tree) → children_of_node (text t) ≡ texts (children_of_node t)
unfolding renumbered bare
children_text (node h xs n ts) = refl

pub shape_text : (t : Tree) → shape_of (text t) ≡ shape_of t
unfolding renumbered bare
shape_text (node h xs n ts) = refl

child_text : (ts : Trees) (i : ℕ) → child_or_absent (texts ts) i ≡ text (child_or_absent ts i)
unfolding renumbered bare
child_text none i = refl
child_text (t ▸ ts) zero = refl
child_text (t ▸ ts) (suc i) = child_text ts i

shape_child : (ts : Trees) (i : ℕ) → shape_of (child_or_absent (texts ts) i) ≡ shape_of (child_or_absent ts i)
shape_child ts i = ap shape_of (child_text ts i) ∙ shape_text (child_or_absent ts i)

-- ---- declarations

own_text : (l : Bool) (q : Path) (xs : List Name) → own_declarations l q (map (with_new no_symbol) xs) ≡ own_declarations l q xs
own_text l q [] = refl
own_text l q (x ∷ xs) = ap (λ r. record { spelling = x.spelling; is_lexical = l; at = q } ∷ r) (own_text l q xs)

node_text : (d : Declared) (h : Shape) (l : Bool) (q : Path) (xs : List Name) (a b c : List Declaration) → choose_by (place_of d h) (own_declarations l q (bare_names h xs)) a b c ≡ choose_by (place_of d h) (own_declarations l q xs) a b c
node_text declared.Bound shape.VariableDeclarator l q xs a b c = refl
node_text declared.Lexical shape.VariableDeclarator l q xs a b c = refl
node_text declared.Hoisted shape.VariableDeclarator l q xs a b c = refl
node_text d h l q xs a b c = ap (λ o. choose_by (place_of d h) o a b c) (own_text l q xs)

mutual
  unfolding declarations renumbered bare

  text_declarations : (d : Declared) (l : Bool) (q : Path) (t : Tree) → declarations d l q (text t) ≡ declarations d l q t
  text_declarations d l q (node h xs n ts) = (λ k. choose_by (place_of d h) (own_declarations l q (bare_names h xs)) (text_first l q ts k) (text_all declared.Bound l q 0 ts k) (text_all d l q 0 ts k)) ∙ node_text d h l q xs (first_declarations l q ts) (all_declarations declared.Bound l q 0 ts) (all_declarations d l q 0 ts)

  text_first : (l : Bool) (q : Path) (ts : Trees) → first_declarations l q (texts ts) ≡ first_declarations l q ts
  text_first l q none = refl
  text_first l q (t ▸ ts) = text_declarations declared.Bound l (q ++ 0 ∷ []) t

  text_all : (d : Declared) (l : Bool) (q : Path) (i : ℕ) (ts : Trees) → all_declarations d l q i (texts ts) ≡ all_declarations d l q i ts
  text_all d l q i none = refl
  text_all d l q i (t ▸ ts) = λ k. text_declarations d l (q ++ i ∷ []) t k ++ text_all d l q (suc i) ts k

mutual
  unfolding body_declarations renumbered bare

  text_body : (b : Bool) (q : Path) (t : Tree) → body_declarations b q (text t) ≡ body_declarations b q t
  text_body b q (node h xs n ts) =
      λ k. if holds_statements h then text_all_body b q 0 ts k else text_declarations declared.Lexical (not (b && is_function_shape h)) q (node h xs n ts) k ++ text_declarations declared.Hoisted false q (node h xs n ts) k

  text_all_body : (b : Bool) (q : Path) (i : ℕ) (ts : Trees) → all_body_declarations b q i (texts ts) ≡ all_body_declarations b q i ts
  text_all_body b q i none = refl
  text_all_body b q i (t ▸ ts) = λ k. text_body b (q ++ i ∷ []) t k ++ text_all_body b q (suc i) ts k

-- ---- names that are declared twice

at_child_text : (d : Declared) (l : Bool) (q : Path) (ts : Trees) (i : ℕ) → at_child d l q (texts ts) i ≡ at_child d l q ts i
at_child_text d l q ts i = ap (declarations d l (q ++ i ∷ [])) (child_text ts i) ∙ text_declarations d l (q ++ i ∷ []) (child_or_absent ts i)

in_body_text : (b : Bool) (q : Path) (ts : Trees) (i : ℕ) → in_body b q (texts ts) i ≡ in_body b q ts i
in_body_text b q ts i = ap (body_declarations b (q ++ i ∷ [])) (child_text ts i) ∙ text_body b (q ++ i ∷ []) (child_or_absent ts i)

in_param_text : (q : Path) (ts : Trees) → in_param q (texts ts) ≡ in_param q ts
in_param_text q ts = ap (λ h. at_child declared.Bound (is_pattern_shape h) q (texts ts) 0) (shape_child ts 0) ∙ at_child_text declared.Bound (is_pattern_shape (shape_of (child_or_absent ts 0))) q ts 0

in_block_text : (q : Path) (ts : Trees) → in_block q (texts ts) ≡ in_block q ts
in_block_text q ts =
    ap (λ us. in_body false (q ++ 1 ∷ []) us 0) (ap children_of_node (child_text ts 1) ∙ children_text (child_or_absent ts 1)) ∙ in_body_text false (q ++ 1 ∷ []) (children_of_node (child_or_absent ts 1)) 0

by_text : (c : Clash) (q : Path) (ts : Trees) → declarations_by c q (texts ts) ≡ declarations_by c q ts
by_text clash.Nothing q ts = refl
by_text (clash.Body b) q ts = in_body_text b q ts 0
by_text (clash.Function i j) q ts = λ k. at_child_text declared.Bound false q ts i k ++ in_body_text true q ts j k
by_text clash.Switch q ts = in_body_text false q ts 1
by_text clash.Catch q ts = λ k. in_param_text q ts k ++ in_block_text q ts k
by_text (clash.Loop i) q ts = λ k. at_child_text declared.Lexical true q ts 0 k ++ at_child_text declared.Hoisted false q ts i k

scope_text : (h : Shape) (q : Path) (ts : Trees) → scope_declarations h q (texts ts) ≡ scope_declarations h q ts
unfolding scope_declarations
scope_text h q ts = by_text (clash_of h) q ts

mutual
  unfolding early_names renumbered bare

  pub text_names : (q : Path) (t : Tree) → early_names q (text t) ≡ early_names q t
  text_names q (node h xs n ts) = λ k. clashing [] (scope_text h q ts k) ++ text_all_names q 0 ts k

  text_all_names : (q : Path) (i : ℕ) (ts : Trees) → all_early_names q i (texts ts) ≡ all_early_names q i ts
  text_all_names q i none = refl
  text_all_names q i (t ▸ ts) = λ k. text_names (q ++ i ∷ []) t k ++ text_all_names q (suc i) ts k

-- ---- jumps without a target

mutual
  unfolding is_loop renumbered bare

  text_loop : (t : Tree) → is_loop (text t) ≡ is_loop t
  text_loop (node h xs n ts) = λ k. if is_labeled h then text_last ts k else is_loop_shape h

  text_last : (ts : Trees) → last_is_loop (texts ts) ≡ last_is_loop ts
  text_last none = refl
  text_last (t ▸ ts) = ap (λ b. last_by b (texts ts)) (text_loop t) ∙ text_last_by (is_loop t) ts

  text_last_by : (b : Bool) (ts : Trees) → last_by b (texts ts) ≡ last_by b ts
  text_last_by b none = refl
  text_last_by b (t ▸ ts) = ap (λ c. last_by c (texts ts)) (text_loop t) ∙ text_last_by (is_loop t) ts

label_text : (ts : Trees) → label_in (texts ts) ≡ label_in ts
label_text ts = ap label_by (shape_child ts 0)

label_for_text : (ts : Trees) → label_for (texts ts) ≡ label_for ts
label_for_text ts =
    let loop : is_loop (child_or_absent (texts ts) 1) ≡ is_loop (child_or_absent ts 1) = ap is_loop (child_text ts 1) ∙ text_loop (child_or_absent ts 1) in
    λ k. record { name = unwrap_or (label_text ts k) []; is_loop = loop k }

turned_text : (w : Turn) (ts : Trees) (a : Targets) → turned w (texts ts) a ≡ turned w ts a
turned_text turn.Labeled ts a = ap (λ (l : Label). record a { labels = a.labels ++ l ∷ [] }) (label_for_text ts)
turned_text w ts a = refl

targets_text : (h : Shape) (ts : Trees) (a : Targets) (i : ℕ) → targets_of h (texts ts) a i ≡ targets_of h ts a i
unfolding targets_of
targets_text h ts a i = turned_text (turn_of h i) ts a

bad_text : (h : Shape) (ts : Trees) (a : Targets) → is_bad_jump h (texts ts) a ≡ is_bad_jump h ts a
bad_text h ts a = ap (λ l. is_bad (jump_of h) l a) (label_text ts)

mutual
  unfolding early_jumps renumbered bare

  pub text_jumps : (a : Targets) (q : Path) (t : Tree) → early_jumps a q (text t) ≡ early_jumps a q t
  text_jumps a q (node h xs n ts) = λ k. (if bad_text h ts a k then q ∷ [] else []) ++ text_all_jumps (targets_of h (texts ts) a) (targets_of h ts a) (targets_text h ts a) q 0 ts k

  text_all_jumps : (f g : ℕ → Targets) → ((i : ℕ) → f i ≡ g i) → (q : Path) (i : ℕ) (ts : Trees) → all_early_jumps f q i (texts ts) ≡ all_early_jumps g q i ts
  text_all_jumps f g e q i none = refl
  text_all_jumps f g e q i (t ▸ ts) =
      let own : early_jumps (f i) (q ++ i ∷ []) (text t) ≡ early_jumps (g i) (q ++ i ∷ []) t = ap (λ a. early_jumps a (q ++ i ∷ []) (text t)) (e i) ∙ text_jumps (g i) (q ++ i ∷ []) t in
      λ k. own k ++ text_all_jumps f g e q (suc i) ts k

-- ---- so two trees that are written alike have the same, and resolution doesn't change them

pub names_alike : (q : Path) (t u : Tree) → text t ≡ text u → early_names q t ≡ early_names q u
names_alike q t u e = read_alike (early_names q) (text_names q) t u e

pub jumps_alike : (a : Targets) (q : Path) (t u : Tree) → text t ≡ text u → early_jumps a q t ≡ early_jumps a q u
jumps_alike a q t u e = read_alike (early_jumps a q) (text_jumps a q) t u e

pub names_resolved : (q : Path) (t : Tree) → early_names q (resolved_program t) ≡ early_names q t
names_resolved q t = names_alike q (resolved_program t) t (text_resolved t)

pub jumps_resolved : (a : Targets) (q : Path) (t : Tree) → early_jumps a q (resolved_program t) ≡ early_jumps a q t
jumps_resolved a q t = jumps_alike a q (resolved_program t) t (text_resolved t)
