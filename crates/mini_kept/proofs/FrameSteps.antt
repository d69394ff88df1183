-- A step at any place of a tree keeps the frames in it.
use Rattle.std.specs.Prelude.{ℕ, zero, suc, ◌≡◌, refl, ◌⊎◌, ◌||◌, ◌&&◌, Bool, true, false, List, [], ◌∷◌, ◌++◌, Contains, Option, None, if◌then◌else◌}
use Rattle.std.proofs.Common.{ap, ◌∙◌, sym, subst, inl, inr}
use Rattle.mini_model.specs.declared.kind.PropertyKind.{PropertyKind}
use Rattle.mini_model.specs.declared.name.Name.{Name}
use Rattle.mini_model.specs.declared.place.Position.{Position}
use Rattle.mini_model.specs.declared.place.Position.TheVariants.{Elsewhere}
use Rattle.mini_model.specs.declared.shape.Shape.{Shape}
use Rattle.mini_model.specs.declared.shape.Shape.TheVariants as shape
use Rattle.mini_model.specs.Tree.{Tree, Trees, node, none, ◌▸◌, count, children, child_or_absent, shape_of, absent}
use Rattle.mini_model.specs.Position.{child_position}
use Rattle.mini_model.specs.Rewriting.{Step, here, inside, StepIn, first, later, Reaches, done, more}
use Rattle.mini_accept.specs.WellShaped.{Depth, in_module, in_body, Class, a_program, a_statement, an_exported_declaration, a_default_export, Slot, one, one_or_absent, many, Filling, refused, these, each, each_or_last, pieces, filling, class_of, is_whole, has_its_number, has_names, has_plain_fields, has_its_parts, is_strict_in, is_last, fits, fill, IsWellShaped}
use Rattle.mini_laws.specs.declared.names.Declared.TheVariants as declared
use Rattle.mini_model.specs.declared.kind.VariableDeclarationKind.TheVariants.{Var, Let, Const}
use Rattle.mini_laws.specs.DeclaredNames.{names_of, all_names, first_names, body_names}
use Rattle.mini_kept.specs.SameNames.{is_among, SameNames}
use Rattle.mini_kept.proofs.Statements.{same_both}
use Rattle.mini_kept.specs.Standing.{is_method_slot}
use Rattle.mini_kept.specs.Frames.{Showing, Whole, Named, Hidden, showing, in_full, part, parts, keyed, is_declaration, declaration, shown, shown_from, own, is_port, ports, outline, globals, property_below, Frame, frame_of, frames, frames_from, frames_in, FramesKept}
use Rattle.mini_kept.specs.KeepsFrames.{is_body_slot, IsShownAlike, NoPort, NoDeclaration, function_over, KeepsFunction, module_over, KeepsModule, KeepsHolder, KeepsFrames, KeepsPlaces, KeepsFramesBut}
use Rattle.mini_kept.specs.ShownFrames.{KeyGiven, Shows, AllShow, Gone, none_gone, FramesShown}
use Rattle.mini_kept.specs.KeepsBodies.{KeepsBodies}
use Rattle.mini_kept.specs.FrameLaws.{StepKeepsFrames, ReachesKeepsFrames}
use Rattle.mini_kept.proofs.Bools.{left, right}
use Rattle.mini_kept.proofs.Expressions.{refused_here}
use Rattle.mini_kept.proofs.FrameLists.{each_of}
use Rattle.mini_kept.proofs.StepDeclares.{all_bound, first_bound, step_declares, steps_declare}
use Rattle.mini_kept.proofs.Stepping.{no_steps}
use Rattle.mini_kept.proofs.BodySteps.{one_of, step_keeps_bodies, whole_stands}
use Rattle.mini_laws.specs.Value.{nothing}
use Rattle.mini_laws.specs.Bodies.{Around, outermost, below, body_of, bodies, bodies_from, bodies_in}
use Rattle.std.proofs.lemmas.List.Elements.{Contains-append_left, Contains-append_right}
use Rattle.mini_kept.specs.Placed.{fits_place}
use Rattle.mini_kept.proofs.Placed.{Placed, placed_below, statements_place}
use Rattle.mini_kept.proofs.ShownFrames.{shows_same, shows_itself, all_same, all_themselves, all_more, shows_more, frames_more, over_shown, keyed_shown, kept_shown, shown_themselves, shown_on, one_shown, each_shown, given_among, given_kept}
use Rattle.mini_kept.proofs.FramePlaces.{Are, is_part_slot, is_declared_slot, shows_right, Plain, Outlined, own_right, part_right, plain_right, numbered_outline, port_outline, slot_apart, no_method, no_keyed_method, AProgram, program_filling, program_apart}

-- ---- the first of some children, and the others

abbrev First : Filling → Slot → Type 0
First refused s = ⊥
First (these []) s = ⊥
First (these (r ∷ ss)) s = r ≡ s
First (each r) s = r ≡ s
First (each_or_last r l) s = (r ≡ s) ⊎ (l ≡ s)
First (pieces g) s = ⊥

abbrev Rest : Filling → Filling
Rest (these []) = these []
Rest (these (s ∷ ss)) = these ss
Rest g = g

first_is : (Q : ℕ → Slot → Type 0) (i : ℕ) (g : Filling) (s : Slot) → Are Q i g → First g s → Q i s
first_is Q i refused s a f = absurd f
first_is Q i (these []) s a f = absurd f
first_is Q i (these (r ∷ ss)) s a f = subst (Q i) f a.0
first_is Q i (each r) s a f = subst (Q i) f (a i)
first_is Q i (each_or_last r l) s a (inl f) = subst (Q i) f (a i).0
first_is Q i (each_or_last r l) s a (inr f) = subst (Q i) f (a i).1
first_is Q i (pieces g) s a f = absurd f

rest_are : (Q : ℕ → Slot → Type 0) (i : ℕ) (g : Filling) → Are Q i g → Are Q (suc i) (Rest g)
rest_are Q i refused a = tt
rest_are Q i (these []) a = tt
rest_are Q i (these (s ∷ ss)) a = a.1
rest_are Q i (each s) a = a
rest_are Q i (each_or_last s l) a = a
rest_are Q i (pieces g) a = tt

first_placed : (π : ℕ → Position) (g : Filling) (s : Slot) → Placed π g → First g s → fits_place (π 0) s ≡ true
first_placed π refused s v f = absurd f
first_placed π (these []) s v f = absurd f
first_placed π (these (r ∷ ss)) s v f = subst (λ q. fits_place (π 0) q ≡ true) f v.0
first_placed π (each r) s v f = subst (λ q. fits_place (π 0) q ≡ true) f (v 0)
first_placed π (each_or_last r l) s v (inl f) = subst (λ q. fits_place (π 0) q ≡ true) f (v 0).0
first_placed π (each_or_last r l) s v (inr f) = subst (λ q. fits_place (π 0) q ≡ true) f (v 0).1
first_placed π (pieces g) s v f = absurd f

rest_placed : (π : ℕ → Position) (g : Filling) → Placed π g → Placed (λ j. π (suc j)) (Rest g)
rest_placed π refused v = tt
rest_placed π (these []) v = tt
rest_placed π (these (s ∷ ss)) v = v.1
rest_placed π (each s) v = λ j. v (suc j)
rest_placed π (each_or_last s l) v = λ j. v (suc j)
rest_placed π (pieces g) v = tt

abbrev Filled : Bool → Filling → Tree → Type 0
Filled strict g t = (s : Slot) × First g s × (fits strict s t ≡ true)

-- ---- what a node that fits tells

pub its_number : (c : Class) (h : Shape) (xs : List Name) (n : ℕ) (ts : Trees) (b : Bool) → (is_whole c h xs n ts && b) ≡ true → has_its_number c h n ≡ true
its_number c h xs n ts b e =
    left (has_its_number c h n) (has_plain_fields h && has_its_parts c h ts)
    (right (has_names h xs) (has_its_number c h n && (has_plain_fields h && has_its_parts c h ts)) (left (is_whole c h xs n ts) b e))

-- ---- a step in one of some children

-- the keys that bodies of a tree give, and of some trees
abbrev In : Around → Tree → ℕ → List ℕ → Type 0
In a t = KeyGiven nothing (bodies a t)

abbrev InAll : (ℕ → Around) → ℕ → Trees → ℕ → List ℕ → Type 0
InAll α j ts = KeyGiven nothing (bodies_from α j ts)

of_first : (α : ℕ → Around) (j : ℕ) (t : Tree) (ts : Trees) (n : ℕ) (s : List ℕ) → In (α j) t n s → InAll α j (t ▸ ts) n s
of_first α j t ts = given_among nothing (bodies (α j) t) (bodies_from α j (t ▸ ts)) (λ b x. Contains-append_left (bodies (α j) t) (bodies_from α (suc j) ts) b x)

of_others : (α : ℕ → Around) (j : ℕ) (t : Tree) (ts : Trees) (n : ℕ) (s : List ℕ) → InAll α (suc j) ts n s → InAll α j (t ▸ ts) n s
of_others α j t ts = given_among nothing (bodies_from α (suc j) ts) (bodies_from α j (t ▸ ts)) (λ b x. Contains-append_right (bodies (α j) t) (bodies_from α (suc j) ts) b x)

of_children : (a : Around) (h : Shape) (xs : List Name) (m : ℕ) (ts : Trees) (n : ℕ) (s : List ℕ) → InAll (below a h ts) 0 ts n s → In a (node h xs m ts) n s
of_children a h xs m ts = given_among nothing (bodies_from (below a h ts) 0 ts) (bodies a (node h xs m ts)) (λ b x. Contains-append_right (body_of a h m (node h xs m ts) ts) (bodies_from (below a h ts) 0 ts) b x)

-- what a step in a tree keeps, where the tree fills a slot, and one in some trees, where these fill those of a node
record Keeps (M : Gone) (p : Position) (t u : Tree) : Type 0 where
  of_part : (a : Around) (strict : Bool) (s : Slot) → fits_place p s ≡ true → fits strict s t ≡ true → is_part_slot s ≡ true → Shows (In a t) (part t) (part u)
  of_declared : (strict : Bool) (s : Slot) → fits_place p s ≡ true → fits strict s t ≡ true → is_declared_slot s ≡ true → declaration t ≡ declaration u
  of_port : (a : Around) (strict : Bool) (d : Depth) → fits_place p (one (a_statement d)) ≡ true → fits strict (one (a_statement d)) t ≡ true → (m : Bool) (ts : Trees) → AllShow (In a t) (ports m (t ▸ ts)) (ports m (u ▸ ts))
  of_statements : (a : Around) (strict : Bool) (d : Depth) → fits_place p (many (a_statement d)) ≡ true → fits strict (many (a_statement d)) t ≡ true → (m : Bool) → AllShow (In a t) (ports m (children t)) (ports m (children u))
  of_hoisted : (strict : Bool) (s : Slot) → fits_place p s ≡ true → fits strict s t ≡ true → SameNames (names_of declared.Hoisted u) (names_of declared.Hoisted t)
  of_frames : (a : Around) (strict : Bool) (s : Slot) → fits_place p s ≡ true → fits strict s t ≡ true → (k : Option PropertyKind) → (is_method_slot s ≡ false → k ≡ None) → FramesShown M (In a t) (frames k t) (frames k u)

record AllKeep (M : Gone) (π : ℕ → Position) (ts us : Trees) : Type 0 where
  of_parts : (α : ℕ → Around) (j : ℕ) (strict : Bool) (g : Filling) → Placed π g → fill strict g ts ≡ true → (i : ℕ) → Are (λ j s. is_part_slot s ≡ true) i g → AllShow (InAll α j ts) (parts ts) (parts us)
  of_own : (α : ℕ → Around) (j : ℕ) (strict : Bool) (g : Filling) → Placed π g → fill strict g ts ≡ true → (σ : ℕ → Showing) (i : ℕ) → Are (λ j s. shows_right (σ j) s ≡ true) i g → AllShow (InAll α j ts) (shown_from σ i ts) (shown_from σ i us)
  of_ports : (α : ℕ → Around) (j : ℕ) (strict : Bool) (d : Depth) → Placed π (each (one (a_statement d))) → fill strict (each (one (a_statement d))) ts ≡ true → (m : Bool) → AllShow (InAll α j ts) (ports m ts) (ports m us)
  of_program : (α : ℕ → Around) (j : ℕ) (strict : Bool) (d : Depth) → Placed π (these (many (a_statement d) ∷ [])) → fill strict (these (many (a_statement d) ∷ [])) ts ≡ true → (m : Bool) → AllShow (InAll α j ts) (ports m (children (child_or_absent ts 0))) (ports m (children (child_or_absent us 0)))
  of_hoisted : (strict : Bool) (g : Filling) → Placed π g → fill strict g ts ≡ true → SameNames (all_names declared.Hoisted us) (all_names declared.Hoisted ts)
  of_frames : (α : ℕ → Around) (j : ℕ) (strict : Bool) (g : Filling) → Placed π g → fill strict g ts ≡ true → (kind : ℕ → Option PropertyKind) (i : ℕ) → Are (Plain kind) i g → FramesShown M (InAll α j ts) (frames_from kind i ts) (frames_from kind i us)

-- of a script alone
of_script : (m : Bool) (ys xs : List Name) → SameNames ys xs → (x : Name) → is_among (if m then [] else xs) x ≡ is_among (if m then [] else ys) x
of_script true ys xs e x = refl
of_script false ys xs e x = sym (e x)

declaration_names : (h : Shape) (xs : List Name) (n : ℕ) (ts us : Trees) → is_declaration h ≡ true → all_names declared.Bound ts ≡ all_names declared.Bound us → first_names ts ≡ first_names us → body_names (node h xs n ts) ≡ body_names (node h xs n us)
unfolding body_names names_of
declaration_names (shape.VariableDeclaration Var) xs n ts us q e f = e
declaration_names (shape.VariableDeclaration Let) xs n ts us q e f = ap (λ r. r ++ []) e
declaration_names (shape.VariableDeclaration Const) xs n ts us q e f = ap (λ r. r ++ []) e
declaration_names (shape.Function true g ds) xs n ts us q e f = ap (λ r. r ++ []) f
declaration_names (shape.Class true) xs n ts us q e f = ap (λ r. r ++ []) f
declaration_names h xs n ts us q e f = absurd (cc q)

undeclared : (t : Tree) → is_declaration (shape_of t) ≡ false → declaration t ≡ absent
undeclared (node h xs n ts) e = ap (λ b. if b then node h (body_names (node h xs n ts)) n none else absent) e

no_port : (m : Bool) (t : Tree) (ts : Trees) → is_port m (shape_of t) ≡ false → ports m (t ▸ ts) ≡ ports m ts
no_port m t ts e = ap (λ b. if b then own t ▸ ports m ts else ports m ts) e

child_kept : (M : Gone) (p : Position) (t u : Tree) → Keeps M p t u → (a : Around) (strict : Bool) (s : Slot) → fits_place p s ≡ true → fits strict s t ≡ true → (σ : Showing) → shows_right σ s ≡ true → Shows (In a t) (shown σ t) (shown σ u)
child_kept M p t u k a strict s v e Whole q = k.of_part a strict s v e q
child_kept M p t u k a strict s v e Named q = shows_same (In a t) (declaration t) (declaration u) (k.of_declared strict s v e q)
child_kept M p t u k a strict s v e Hidden q = shows_itself (In a t) absent

first_more : (α : ℕ → Around) (j : ℕ) (t : Tree) (ts : Trees) (x y : Tree) → Shows (In (α j) t) x y → Shows (InAll α j (t ▸ ts)) x y
first_more α j t ts x y = shows_more (In (α j) t) (InAll α j (t ▸ ts)) (of_first α j t ts) x y

others_more : (α : ℕ → Around) (j : ℕ) (t : Tree) (ts xs ys : Trees) → AllShow (InAll α (suc j) ts) xs ys → AllShow (InAll α j (t ▸ ts)) xs ys
others_more α j t ts xs ys = all_more (InAll α (suc j) ts) (InAll α j (t ▸ ts)) (of_others α j t ts) xs ys

node_more : (a : Around) (h : Shape) (xs : List Name) (m : ℕ) (ts us vs : Trees) → AllShow (InAll (below a h ts) 0 ts) us vs → AllShow (In a (node h xs m ts)) us vs
node_more a h xs m ts us vs = all_more (InAll (below a h ts) 0 ts) (In a (node h xs m ts)) (of_children a h xs m ts) us vs

after_port : (G : ℕ → List ℕ → Type 0) (m : Bool) (t : Tree) (b : Bool) (xs ys : Trees) → AllShow G xs ys → AllShow G (if b then own t ▸ xs else xs) (if b then own t ▸ ys else ys)
after_port G m t true xs ys k = (shows_itself G (own t), k)
after_port G m t false xs ys k = k

-- ---- a function with another body

same_declared : (d g : Bool) (ds : List (List ℕ)) (n : ℕ) (name parameters a b : Tree) → declaration (function_over d g ds n name parameters a) ≡ declaration (function_over d g ds n name parameters b)
unfolding body_names names_of
same_declared true g ds n name parameters a b = refl
same_declared false g ds n name parameters a b = refl

module _ (t u : Tree) (k : KeepsFunction t u) where
  abbrev over : Tree → Tree
  over = function_over k.is_declared k.is_generator k.directives (suc k.number) k.name k.parameters

  function_part : part t ≡ part u
  function_part = ap part k.before ∙ sym (ap part k.after)

  function_declared : declaration t ≡ declaration u
  function_declared = ap declaration k.before ∙ same_declared k.is_declared k.is_generator k.directives (suc k.number) k.name k.parameters k.earlier k.later ∙ sym (ap declaration k.after)

  function_ports : (m : Bool) (ts : Trees) → ports m (t ▸ ts) ≡ ports m (u ▸ ts)
  function_ports m ts = ap (λ v. ports m (v ▸ ts)) k.before ∙ sym (ap (λ v. ports m (v ▸ ts)) k.after)

  no_list_here : (strict : Bool) (d : Depth) → fits strict (many (a_statement d)) t ≡ true → ⊥
  no_list_here strict d e =
      refused_here strict (many (a_statement d)) (shape.Function k.is_declared k.is_generator k.directives) [] (suc k.number) (k.name ▸ (k.parameters ▸ (k.earlier ▸ none))) refl (sym (ap (fits strict (many (a_statement d))) k.before) ∙ e)

  -- those in its name, its parameters and its body
  abbrev within : Tree → List Frame
  within body = frames None k.name ++ (frames None k.parameters ++ (frames None body ++ []))

  within_kept : FramesKept (within k.earlier) (within k.later)
  within_kept =
      each_of (frames None k.name) (frames None k.parameters ++ (frames None k.earlier ++ [])) (frames None k.name) (frames None k.parameters ++ (frames None k.later ++ [])) (λ f c. c)
      (each_of (frames None k.parameters) (frames None k.earlier ++ []) (frames None k.parameters) (frames None k.later ++ []) (λ f c. c) (each_of (frames None k.earlier) [] (frames None k.later) [] k.framed (λ f c. c)))

  -- whichever property it is the value of
  function_frames : (q : Option PropertyKind) → FramesKept (frames q t) (frames q u)
  function_frames q =
      let own_frame = record { number = suc k.number; property = q; outline = own (over k.earlier); globals = is_among [] } ∷ [] in
      subst (λ v. FramesKept (frames q v) (frames q u)) (sym k.before) (subst (λ v. FramesKept (frames q (over k.earlier)) (frames q v)) (sym k.after) (each_of own_frame (within k.earlier) own_frame (within k.later) (λ f c. c) within_kept))

-- ---- a module with other statements

module _ (t u : Tree) (k : KeepsModule t u) where
  abbrev program : Tree → Tree
  program = module_over k.directives k.number

  module_declared : declaration t ≡ declaration u
  module_declared = ap declaration k.before ∙ sym (ap declaration k.after)

  not_there : (strict : Bool) (s : Slot) → filling strict s (shape.Program true k.directives) ≡ refused → fits strict s t ≡ true → ⊥
  not_there strict s f e = refused_here strict s (shape.Program true k.directives) [] k.number (k.earlier ▸ none) f (sym (ap (fits strict s) k.before) ∙ e)

  -- its own frame, with these imports and exports
  abbrev own_frame : Option PropertyKind → Trees → List Frame
  own_frame q ps = record { number = k.number; property = q; outline = node (shape.Program true k.directives) [] k.number ps; globals = is_among [] } ∷ []

  abbrev with_list : Option PropertyKind → Tree → List Frame
  with_list q list = own_frame q (ports true (children list)) ++ (frames None list ++ [])

  lists_kept : (q : Option PropertyKind) → FramesKept (with_list q k.earlier) (with_list q k.later)
  lists_kept q =
      each_of (own_frame q (ports true (children k.earlier))) (frames None k.earlier ++ []) (own_frame q (ports true (children k.later))) (frames None k.later ++ [])
      (λ f c. subst (λ ps. Contains (own_frame q ps) f) (sym k.ported) c)
      (each_of (frames None k.earlier) [] (frames None k.later) [] k.framed (λ f c. c))

  pub module_frames : (q : Option PropertyKind) → FramesKept (frames q t) (frames q u)
  module_frames q = subst (λ v. FramesKept (frames q v) (frames q u)) (sym k.before) (subst (λ v. FramesKept (frames q (program k.earlier)) (frames q v)) (sym k.after) (lists_kept q))

module _ (M : Gone) (R : Position → Tree → Tree → Type 0) (l : KeepsPlaces R) (framed : (p : Position) (n w : Tree) → R p n w → (strict : Bool) (s : Slot) → fits_place p s ≡ true → fits strict s n ≡ true → (a : Around) → FramesShown M (KeyGiven nothing (bodies a n)) (frames None n) (frames None w)) where
  -- ---- the node that is replaced

  abbrev Standing : Position → Slot → Tree → Tree → Type 0
  Standing p s t u = ((is_body_slot p s ≡ true) ⊎ IsShownAlike s t u) ⊎ KeepsHolder t u

  part_here : (p : Position) (strict : Bool) (s : Slot) (t u : Tree) → fits strict s t ≡ true → is_part_slot s ≡ true → Standing p s t u → (a : Around) → Shows (In a t) (part t) (part u)
  part_here p strict s t u e q (inl (inl b)) a = absurd (slot_apart p s q b)
  part_here p strict s t u e q (inl (inr k)) a = k.1 a
  part_here p strict s t u e q (inr (inl k)) a = shows_same (In a t) (part t) (part u) (function_part t u k)
  part_here p strict s t u e q (inr (inr k)) a = absurd (not_there t u k strict s (program_apart strict s true k.directives q) e)

  exported_here : (p : Position) (t u : Tree) → Standing p (one_or_absent an_exported_declaration) t u → declaration t ≡ declaration u
  exported_here p t u (inl (inl b)) = absurd (cc b)
  exported_here p t u (inl (inr k)) = absurd (cc k.0)
  exported_here p t u (inr (inl k)) = function_declared t u k
  exported_here p t u (inr (inr k)) = module_declared t u k

  default_here : (t u : Tree) → NoDeclaration t u ⊎ KeepsFunction t u → declaration t ≡ declaration u
  default_here t u (inl (x, y)) = undeclared t x ∙ sym (undeclared u y)
  default_here t u (inr k) = function_declared t u k

  port_here : (m : Bool) (t u : Tree) (ts : Trees) → NoPort m t u ⊎ KeepsFunction t u → ports m (t ▸ ts) ≡ ports m (u ▸ ts)
  port_here m t u ts (inl (x, y)) = no_port m t ts x ∙ sym (no_port m u ts y)
  port_here m t u ts (inr k) = function_ports t u k m ts

  is_body : (p : Position) (strict : Bool) (d : Depth) (t u : Tree) → fits strict (many (a_statement d)) t ≡ true → Standing p (many (a_statement d)) t u → is_body_slot p (many (a_statement d)) ≡ true
  is_body p strict d t u e (inl (inl b)) = b
  is_body p strict d t u e (inl (inr k)) = absurd (cc k.0)
  is_body p strict d t u e (inr (inl k)) = absurd (no_list_here t u k strict d e)
  is_body p strict d t u e (inr (inr k)) = absurd (not_there t u k strict (many (a_statement d)) refl e)

  frames_here : (p : Position) (s : Slot) (t u : Tree) → Standing p s t u → (a : Around) → FramesShown M (In a t) (frames None t) (frames None u) → (k : Option PropertyKind) → (is_method_slot s ≡ false → k ≡ None) → FramesShown M (In a t) (frames k t) (frames k u)
  frames_here p s t u (inl (inl b)) a f k z = subst (λ k. FramesShown M (In a t) (frames k t) (frames k u)) (sym (z (no_method p s b))) f
  frames_here p s t u (inl (inr b)) a f k z = subst (λ k. FramesShown M (In a t) (frames k t) (frames k u)) (sym (z (no_keyed_method s b.0))) f
  frames_here p s t u (inr (inl b)) a f k z = kept_shown M (In a t) (frames k t) (frames k u) (function_frames t u b k)
  frames_here p s t u (inr (inr b)) a f k z = kept_shown M (In a t) (frames k t) (frames k u) (module_frames t u b k)

  declared_here : (p : Position) (t u : Tree) → R p t u → (strict : Bool) (s : Slot) → fits_place p s ≡ true → fits strict s t ≡ true → is_declared_slot s ≡ true → declaration t ≡ declaration u
  declared_here p t u r strict (one a_default_export) v e q = default_here t u (l.exported p t u r strict e)
  declared_here p t u r strict (one_or_absent an_exported_declaration) v e q = exported_here p t u (l.slots p t u r strict (one_or_absent an_exported_declaration) v e)
  declared_here p t u r strict s v e q = absurd (cc q)

  statements_here : (p : Position) (t u : Tree) → R p t u → (strict : Bool) (d : Depth) → fits_place p (many (a_statement d)) ≡ true → fits strict (many (a_statement d)) t ≡ true → (m : Bool) → ports m (children t) ≡ ports m (children u)
  statements_here p t u r strict d v e m = l.listed p t u (statements_place p d (is_body p strict d t u e (l.slots p t u r strict (many (a_statement d)) v e))) r strict d e m

  here_kept : (p : Position) (t u : Tree) → R p t u → Keeps M p t u
  here_kept p t u r = record {
    of_part = λ a strict s v e q. part_here p strict s t u e q (l.slots p t u r strict s v e) a;
    of_declared = declared_here p t u r;
    of_port = λ a strict d v e m ts. all_same (In a t) (ports m (t ▸ ts)) (ports m (u ▸ ts)) (port_here m t u ts (l.ports p t u r strict d e m));
    of_statements = λ a strict d v e m. all_same (In a t) (ports m (children t)) (ports m (children u)) (statements_here p t u r strict d v e m);
    of_hoisted = λ strict s v e. (l.names.keeps p t u r strict s v e).hoisted;
    of_frames = λ a strict s v e k z. frames_here p s t u (l.slots p t u r strict s v e) a (framed p t u r strict s v e a) k z;
  }

  -- ---- a step in one of some children

  filled : (π : ℕ → Position) (t u : Tree) (ts us : Trees) → StepIn R π (t ▸ ts) (u ▸ us) → (strict : Bool) (g : Filling) → fill strict g (t ▸ ts) ≡ true → Filled strict g t
  filled π t u ts us st strict refused e = absurd (cc e)
  filled π t u ts us st strict (these []) e = absurd (cc e)
  filled π t u ts us st strict (these (s ∷ ss)) e = (s, refl, left (fits strict s t) (fill strict (these ss) ts) e)
  filled π t u ts us st strict (each s) e = (s, refl, left (fits strict s t) (fill strict (each s) ts) e)
  filled π t u ts us st strict (each_or_last s r) e = by (one_of strict s r (is_last ts) t (left (fits strict s t || (is_last ts && fits strict r t)) (fill strict (each_or_last s r) ts) e))
    where
      by : (fits strict s t ≡ true) ⊎ (fits strict r t ≡ true) → Filled strict (each_or_last s r) t
      by (inl f) = (s, inl refl, f)
      by (inr f) = (r, inr refl, f)
  filled π t u ts us st strict (pieces g) e = absurd (no_steps R l.names g st e)

  others : (π : ℕ → Position) (t u : Tree) (ts us : Trees) → StepIn R π (t ▸ ts) (u ▸ us) → (strict : Bool) (g : Filling) → fill strict g (t ▸ ts) ≡ true → fill strict (Rest g) ts ≡ true
  others π t u ts us st strict refused e = absurd (cc e)
  others π t u ts us st strict (these []) e = absurd (cc e)
  others π t u ts us st strict (these (s ∷ ss)) e = right (fits strict s t) (fill strict (these ss) ts) e
  others π t u ts us st strict (each s) e = right (fits strict s t) (fill strict (each s) ts) e
  others π t u ts us st strict (each_or_last s r) e = right (fits strict s t || (is_last ts && fits strict r t)) (fill strict (each_or_last s r) ts) e
  others π t u ts us st strict (pieces g) e = absurd (no_steps R l.names g st e)

  first_hoisted : (t u : Tree) (ts : Trees) → SameNames (names_of declared.Hoisted u) (names_of declared.Hoisted t) → SameNames (all_names declared.Hoisted (u ▸ ts)) (all_names declared.Hoisted (t ▸ ts))
  unfolding names_of
  first_hoisted t u ts e x = same_both (names_of declared.Hoisted u) (all_names declared.Hoisted ts) (names_of declared.Hoisted t) (all_names declared.Hoisted ts) e (λ y. refl) x

  others_hoisted : (t : Tree) (ts us : Trees) → SameNames (all_names declared.Hoisted us) (all_names declared.Hoisted ts) → SameNames (all_names declared.Hoisted (t ▸ us)) (all_names declared.Hoisted (t ▸ ts))
  unfolding names_of
  others_hoisted t ts us e x = same_both (names_of declared.Hoisted t) (all_names declared.Hoisted us) (names_of declared.Hoisted t) (all_names declared.Hoisted ts) (λ y. refl) e x

  first_kept : (π : ℕ → Position) (t u : Tree) (ts : Trees) → StepIn R π (t ▸ ts) (u ▸ ts) → Keeps M (π 0) t u → AllKeep M π (t ▸ ts) (u ▸ ts)
  first_kept π t u ts st k = record {
    of_parts = λ α j strict g v e i a. let (s, f, z) = filled π t u ts ts st strict g e in (first_more α j t ts (part t) (part u) (k.of_part (α j) strict s (first_placed π g s v f) z (first_is (λ j r. is_part_slot r ≡ true) i g s a f)), all_themselves (InAll α j (t ▸ ts)) (parts ts));
    of_own = λ α j strict g v e σ i a. let (s, f, z) = filled π t u ts ts st strict g e in (first_more α j t ts (shown (σ i) t) (shown (σ i) u) (child_kept M (π 0) t u k (α j) strict s (first_placed π g s v f) z (σ i) (first_is (λ j r. shows_right (σ j) r ≡ true) i g s a f)), all_themselves (InAll α j (t ▸ ts)) (shown_from σ (suc i) ts));
    of_ports = λ α j strict d v e m. all_more (In (α j) t) (InAll α j (t ▸ ts)) (of_first α j t ts) (ports m (t ▸ ts)) (ports m (u ▸ ts)) (k.of_port (α j) strict d (v 0) (left (fits strict (one (a_statement d)) t) (fill strict (each (one (a_statement d))) ts) e) m ts);
    of_program = λ α j strict d v e m. all_more (In (α j) t) (InAll α j (t ▸ ts)) (of_first α j t ts) (ports m (children t)) (ports m (children u)) (k.of_statements (α j) strict d v.0 (left (fits strict (many (a_statement d)) t) (fill strict (these []) ts) e) m);
    of_hoisted = λ strict g v e. let (s, f, z) = filled π t u ts ts st strict g e in first_hoisted t u ts (k.of_hoisted strict s (first_placed π g s v f) z);
    of_frames = λ α j strict g v e kind i a. let (s, f, z) = filled π t u ts ts st strict g e in
        each_shown M (InAll α j (t ▸ ts)) (frames (kind i) t) (frames_from kind (suc i) ts) (frames (kind i) u) (frames_from kind (suc i) ts)
        (frames_more M (In (α j) t) (InAll α j (t ▸ ts)) (of_first α j t ts) (frames (kind i) t) (frames (kind i) u) (k.of_frames (α j) strict s (first_placed π g s v f) z (kind i) (first_is (Plain kind) i g s a f)))
        (shown_themselves M (InAll α j (t ▸ ts)) (frames_from kind (suc i) ts));
  }

  later_kept : (π : ℕ → Position) (t : Tree) (ts us : Trees) → StepIn R π (t ▸ ts) (t ▸ us) → AllKeep M (λ j. π (suc j)) ts us → AllKeep M π (t ▸ ts) (t ▸ us)
  later_kept π t ts us st k = record {
    of_parts = λ α j strict g v e i a. (shows_itself (InAll α j (t ▸ ts)) (part t), others_more α j t ts (parts ts) (parts us) (k.of_parts α (suc j) strict (Rest g) (rest_placed π g v) (others π t t ts us st strict g e) (suc i) (rest_are (λ j r. is_part_slot r ≡ true) i g a)));
    of_own = λ α j strict g v e σ i a. (shows_itself (InAll α j (t ▸ ts)) (shown (σ i) t), others_more α j t ts (shown_from σ (suc i) ts) (shown_from σ (suc i) us) (k.of_own α (suc j) strict (Rest g) (rest_placed π g v) (others π t t ts us st strict g e) σ (suc i) (rest_are (λ j r. shows_right (σ j) r ≡ true) i g a)));
    of_ports = λ α j strict d v e m. after_port (InAll α j (t ▸ ts)) m t (is_port m (shape_of t)) (ports m ts) (ports m us) (others_more α j t ts (ports m ts) (ports m us) (k.of_ports α (suc j) strict d (λ i. v (suc i)) (right (fits strict (one (a_statement d)) t) (fill strict (each (one (a_statement d))) ts) e) m));
    of_program = λ α j strict d v e m. all_themselves (InAll α j (t ▸ ts)) (ports m (children t));
    of_hoisted = λ strict g v e. others_hoisted t ts us (k.of_hoisted strict (Rest g) (rest_placed π g v) (others π t t ts us st strict g e));
    of_frames = λ α j strict g v e kind i a.
        each_shown M (InAll α j (t ▸ ts)) (frames (kind i) t) (frames_from kind (suc i) ts) (frames (kind i) t) (frames_from kind (suc i) us)
        (shown_themselves M (InAll α j (t ▸ ts)) (frames (kind i) t))
        (frames_more M (InAll α (suc j) ts) (InAll α j (t ▸ ts)) (of_others α j t ts) (frames_from kind (suc i) ts) (frames_from kind (suc i) us) (k.of_frames α (suc j) strict (Rest g) (rest_placed π g v) (others π t t ts us st strict g e) kind (suc i) (rest_are (Plain kind) i g a)));
  }

  -- ---- the same node over other children

  children_fill : (strict : Bool) (s : Slot) (h : Shape) (xs : List Name) (n : ℕ) (ts : Trees) → fits strict s (node h xs n ts) ≡ true → fill (is_strict_in strict h) (filling strict s h) ts ≡ true
  children_fill strict s h xs n ts e = right (is_whole (class_of s) h xs n ts) (fill (is_strict_in strict h) (filling strict s h) ts) e

  number_fits : (strict : Bool) (s : Slot) (h : Shape) (xs : List Name) (n : ℕ) (ts : Trees) → fits strict s (node h xs n ts) ≡ true → has_its_number (class_of s) h n ≡ true
  number_fits strict s h xs n ts e = its_number (class_of s) h xs n ts (fill (is_strict_in strict h) (filling strict s h) ts) e

  module _ (p : Position) (h : Shape) (xs : List Name) (ts us : Trees) (all : AllKeep M (child_position h p (count ts)) ts us) (a : Around) where
    part_inside : (n : ℕ) (strict : Bool) (s : Slot) → fits_place p s ≡ true → fits strict s (node h xs n ts) ≡ true → is_part_slot s ≡ true → Shows (In a (node h xs n ts)) (part (node h xs n ts)) (part (node h xs n us))
    part_inside zero strict s v e q =
        over_shown (In a (node h xs 0 ts)) (in_full h) xs 0 (keyed h (parts ts)) (keyed h (parts us)) (keyed_shown (In a (node h xs 0 ts)) h (parts ts) (parts us)
        (node_more a h xs 0 ts (parts ts) (parts us) (all.of_parts (below a h ts) 0 (is_strict_in strict h) (filling strict s h) (placed_below strict s h p (count ts) v) (children_fill strict s h xs 0 ts e) 0 (part_right strict s h q (number_fits strict s h xs 0 ts e)))))
    part_inside (suc n) strict s v e q = shows_itself (In a (node h xs (suc n) ts)) (node h xs (suc n) none)

    own_inside : (n : ℕ) (strict : Bool) (s : Slot) → fits_place p s ≡ true → fits strict s (node h xs n ts) ≡ true → Outlined h → AllShow (In a (node h xs n ts)) (shown_from (showing h) 0 ts) (shown_from (showing h) 0 us)
    own_inside n strict s v e o = node_more a h xs n ts (shown_from (showing h) 0 ts) (shown_from (showing h) 0 us) (all.of_own (below a h ts) 0 (is_strict_in strict h) (filling strict s h) (placed_below strict s h p (count ts) v) (children_fill strict s h xs n ts e) (showing h) 0 (own_right strict s h o))

    port_inside : (n : ℕ) (strict : Bool) (d : Depth) → fits_place p (one (a_statement d)) ≡ true → fits strict (one (a_statement d)) (node h xs n ts) ≡ true → (m : Bool) (vs : Trees) → AllShow (In a (node h xs n ts)) (ports m (node h xs n ts ▸ vs)) (ports m (node h xs n us ▸ vs))
    port_inside n strict d v e m vs = by (is_port m h) refl
      where
        G : ℕ → List ℕ → Type 0
        G = In a (node h xs n ts)

        by : (b : Bool) → is_port m h ≡ b → AllShow (In a (node h xs n ts)) (ports m (node h xs n ts ▸ vs)) (ports m (node h xs n us ▸ vs))
        by true q = subst (λ b. AllShow (In a (node h xs n ts)) (if b then own (node h xs n ts) ▸ ports m vs else ports m vs) (if b then own (node h xs n us) ▸ ports m vs else ports m vs)) (sym q)
            (over_shown (In a (node h xs n ts)) h xs n (shown_from (showing h) 0 ts) (shown_from (showing h) 0 us) (own_inside n strict (one (a_statement d)) v e (port_outline m h q)), all_themselves (In a (node h xs n ts)) (ports m vs))
        by false q = all_same (In a (node h xs n ts)) (ports m (node h xs n ts ▸ vs)) (ports m (node h xs n us ▸ vs)) (no_port m (node h xs n ts) vs q ∙ sym (no_port m (node h xs n us) vs q))

  statements_inside : (p : Position) (h : Shape) (xs : List Name) (n : ℕ) (ts us : Trees) → AllKeep M (child_position h p (count ts)) ts us → (a : Around) (strict : Bool) (d : Depth) → fits_place p (many (a_statement d)) ≡ true → fits strict (many (a_statement d)) (node h xs n ts) ≡ true → (m : Bool) → AllShow (In a (node h xs n ts)) (ports m ts) (ports m us)
  statements_inside p shape.Listed xs n ts us all a strict d v e m = node_more a shape.Listed xs n ts (ports m ts) (ports m us) (all.of_ports (below a shape.Listed ts) 0 strict d (placed_below strict (many (a_statement d)) shape.Listed p (count ts) v) (children_fill strict (many (a_statement d)) shape.Listed xs n ts e) m)
  statements_inside p h xs n ts us all a strict d v e m = absurd (refused_here strict (many (a_statement d)) h xs n ts refl e)

  -- a program's outline
  module _ (p : Position) (m : Bool) (ds : List (List ℕ)) (xs : List Name) (n : ℕ) (ts us : Trees) (all : AllKeep M (child_position (shape.Program m ds) p (count ts)) ts us) (a : Around) where
    abbrev G : ℕ → List ℕ → Type 0
    G = In a (node (shape.Program m ds) xs n ts)

    program_ports : (strict : Bool) (s : Slot) → fits strict s (node (shape.Program m ds) xs n ts) ≡ true → AllShow G (ports m (children (child_or_absent ts 0))) (ports m (children (child_or_absent us 0)))
    program_ports strict s e = by (program_filling strict s m ds)
      where
        by : AProgram strict s m ds → AllShow G (ports m (children (child_or_absent ts 0))) (ports m (children (child_or_absent us 0)))
        by (inl f) = absurd (refused_here strict s (shape.Program m ds) xs n ts f e)
        by (inr f) =
            node_more a (shape.Program m ds) xs n ts (ports m (children (child_or_absent ts 0))) (ports m (children (child_or_absent us 0)))
            (all.of_program (below a (shape.Program m ds) ts) 0 (is_strict_in strict (shape.Program m ds)) (if m then in_module else in_body) (refl, tt) (subst (λ g. fill (is_strict_in strict (shape.Program m ds)) g ts ≡ true) f (children_fill strict s (shape.Program m ds) xs n ts e)) m)

    program_frame : (k : Option PropertyKind) (strict : Bool) (s : Slot) → fits_place p s ≡ true → fits strict s (node (shape.Program m ds) xs n ts) ≡ true
        → FramesShown M G (frame_of k (shape.Program m ds) n (outline (shape.Program m ds) xs n ts) (globals (shape.Program m ds) ts)) (frame_of k (shape.Program m ds) n (outline (shape.Program m ds) xs n us) (globals (shape.Program m ds) us))
    program_frame k strict s v e =
        let hoisted = all.of_hoisted (is_strict_in strict (shape.Program m ds)) (filling strict s (shape.Program m ds)) (placed_below strict s (shape.Program m ds) p (count ts) v) (children_fill strict s (shape.Program m ds) xs n ts e) in
        one_shown M G (record { number = n; property = k; outline = outline (shape.Program m ds) xs n ts; globals = is_among (globals (shape.Program m ds) ts) })
        (record { number = n; property = k; outline = outline (shape.Program m ds) xs n us; globals = is_among (globals (shape.Program m ds) us) })
        (record { number = refl; property = refl; outline = inl (over_shown G (shape.Program m ds) [] n _ _ (program_ports strict s e)); globals = λ i x. of_script m (all_names declared.Hoisted us) (all_names declared.Hoisted ts) hoisted x i })

  numbered_frame : (G : ℕ → List ℕ → Type 0) (k : Option PropertyKind) (n : ℕ) (o o' : Tree) → Shows G o o' → FramesShown M G (record { number = suc n; property = k; outline = o; globals = is_among [] } ∷ []) (record { number = suc n; property = k; outline = o'; globals = is_among [] } ∷ [])
  numbered_frame G k n o o' x = one_shown M G (record { number = suc n; property = k; outline = o; globals = is_among [] }) (record { number = suc n; property = k; outline = o'; globals = is_among [] }) (record { number = refl; property = refl; outline = inl x; globals = refl })

  frame_inside : (p : Position) (k : Option PropertyKind) (h : Shape) (xs : List Name) (n : ℕ) (ts us : Trees) → AllKeep M (child_position h p (count ts)) ts us → (a : Around) (strict : Bool) (s : Slot) → fits_place p s ≡ true → fits strict s (node h xs n ts) ≡ true
      → FramesShown M (In a (node h xs n ts)) (frame_of k h n (outline h xs n ts) (globals h ts)) (frame_of k h n (outline h xs n us) (globals h us))
  frame_inside p k (shape.Program m ds) xs n ts us all a strict s v e = program_frame p m ds xs n ts us all a k strict s v e
  frame_inside p k h xs zero ts us all a strict s v e = shown_themselves M (In a (node h xs 0 ts)) []
  frame_inside p k h xs (suc n) ts us all a strict s v e =
      numbered_frame (In a (node h xs (suc n) ts)) k n (own (node h xs (suc n) ts)) (own (node h xs (suc n) us))
      (over_shown (In a (node h xs (suc n) ts)) h xs (suc n) (shown_from (showing h) 0 ts) (shown_from (showing h) 0 us) (own_inside p h xs ts us all a (suc n) strict s v e (numbered_outline (class_of s) h n (number_fits strict s h xs (suc n) ts e))))

  -- what a declaration declares
  declared_inside : (p : Position) (h : Shape) (xs : List Name) (n : ℕ) (ts us : Trees) → StepIn R (child_position h p (count ts)) ts us → (strict : Bool) (s : Slot) → fits_place p s ≡ true → fits strict s (node h xs n ts) ≡ true → declaration (node h xs n ts) ≡ declaration (node h xs n us)
  declared_inside p h xs n ts us st strict s v e = by (is_declaration h) refl
    where
      by : (b : Bool) → is_declaration h ≡ b → declaration (node h xs n ts) ≡ declaration (node h xs n us)
      by false q = undeclared (node h xs n ts) q ∙ sym (undeclared (node h xs n us) q)
      by true q =
          let π = child_position h p (count ts) in
          let kept = steps_declare R l.names st (is_strict_in strict h) (filling strict s h) (placed_below strict s h p (count ts) v) (children_fill strict s h xs n ts e) in
          ap (λ ns. if is_declaration h then node h ns n none else absent) (declaration_names h xs n ts us q (sym (all_bound ts us kept)) (sym (first_bound ts us kept)))

  inside_kept : (p : Position) (h : Shape) (xs : List Name) (n : ℕ) (ts us : Trees) → StepIn R (child_position h p (count ts)) ts us → AllKeep M (child_position h p (count ts)) ts us → Keeps M p (node h xs n ts) (node h xs n us)
  inside_kept p h xs n ts us st all = record {
    of_part = λ a strict s v e q. part_inside p h xs ts us all a n strict s v e q;
    of_declared = λ strict s v e q. declared_inside p h xs n ts us st strict s v e;
    of_port = λ a. port_inside p h xs ts us all a n;
    of_statements = λ a strict d v e m. statements_inside p h xs n ts us all a strict d v e m;
    of_hoisted = λ strict s v e. (step_declares R l.names (inside p h xs n ts us st) strict s v e).hoisted;
    of_frames = λ a strict s v e k z.
        each_shown M (In a (node h xs n ts)) (frame_of k h n (outline h xs n ts) (globals h ts)) (frames_from (property_below h) 0 ts) (frame_of k h n (outline h xs n us) (globals h us)) (frames_from (property_below h) 0 us)
        (frame_inside p k h xs n ts us all a strict s v e)
        (frames_more M (InAll (below a h ts) 0 ts) (In a (node h xs n ts)) (of_children a h xs n ts) (frames_from (property_below h) 0 ts) (frames_from (property_below h) 0 us)
        (all.of_frames (below a h ts) 0 (is_strict_in strict h) (filling strict s h) (placed_below strict s h p (count ts) v) (children_fill strict s h xs n ts e) (property_below h) 0 (plain_right strict s h)));
  }

  mutual
    step_kept : {p : Position} {t u : Tree} → Step R p t u → Keeps M p t u
    step_kept (here p t u r) = here_kept p t u r
    step_kept (inside p h xs n ts us st) = inside_kept p h xs n ts us st (steps_kept st)

    steps_kept : {π : ℕ → Position} {ts us : Trees} → StepIn R π ts us → AllKeep M π ts us
    steps_kept (first π t u ts st) = first_kept π t u ts (first π t u ts st) (step_kept st)
    steps_kept (later π t ts us st) = later_kept π t ts us (later π t ts us st) (steps_kept st)

-- frames that were there show what they do
pub kept_are_shown : (n w : Tree) → FramesKept (frames None n) (frames None w) → (a : Around) → FramesShown none_gone (KeyGiven nothing (bodies a n)) (frames None n) (frames None w)
kept_are_shown n w k a = kept_shown none_gone (KeyGiven nothing (bodies a n)) (frames None n) (frames None w) k

-- without frames
pub places_of : (R : Position → Tree → Tree → Type 0) → KeepsFrames R → KeepsPlaces R
places_of R l = record { names = l.names; slots = λ p n w r strict s v e. inl (l.slots p n w r strict s v e); ports = λ p n w r strict d e m. inl (l.ports p n w r strict d e m); listed = l.listed; exported = λ p n w r strict e. inl (l.exported p n w r strict e) }

pub step_frames_but : (M : Gone) (R : Position → Tree → Tree → Type 0) → KeepsFramesBut M R → (t u : Tree) → Step R Elsewhere t u → IsWellShaped t → FramesShown M (KeyGiven nothing (bodies_in t)) (frames_in t) (frames_in u)
step_frames_but M R l t u st e = (step_kept M R l.places l.frames st).of_frames outermost false (one a_program) refl e None (λ z. refl)

pub step_keeps_frames : (R : Position → Tree → Tree → Type 0) → StepKeepsFrames R
step_keeps_frames R l p t u st strict s v e a k z = (step_kept none_gone R (places_of R l) l.frames st).of_frames a strict s v e k z

pub program_frames : (R : Position → Tree → Tree → Type 0) → KeepsFrames R → (t u : Tree) → Step R Elsewhere t u → IsWellShaped t → FramesShown none_gone (KeyGiven nothing (bodies_in t)) (frames_in t) (frames_in u)
program_frames R l t u st e = step_keeps_frames R l Elsewhere t u st false (one a_program) refl e outermost None (λ z. refl)

-- ---- any number of steps

module _ (R : Position → Tree → Tree → Type 0) (l : KeepsFrames R) (b : KeepsBodies R) where
  reaches_frames : (holds : Tree → Bool) → ((t : Tree) → holds t ≡ true → IsWellShaped t) → ((t u : Tree) → Step R Elsewhere t u → holds t ≡ true → holds u ≡ true) → (p : Position) (t u : Tree) → Reaches R p t u → p ≡ Elsewhere → holds t ≡ true
      → FramesShown none_gone (KeyGiven nothing (bodies_in t)) (frames_in t) (frames_in u)
  reaches_frames holds shaped stays _ _ _ (done p t) q e = shown_themselves none_gone (KeyGiven nothing (bodies_in t)) (frames_in t)
  reaches_frames holds shaped stays _ _ _ (more p t u v s r) q e =
      let st : Step R Elsewhere t u = subst (λ x. Step R x t u) q s in
      shown_on none_gone (KeyGiven nothing (bodies_in t)) (frames_in t) (frames_in u) (frames_in v) (program_frames R l t u st (shaped t e))
      (frames_more none_gone (KeyGiven nothing (bodies_in u)) (KeyGiven nothing (bodies_in t)) (given_kept (bodies_in t) (bodies_in u) (step_keeps_bodies R b Elsewhere t u st false (one a_program) refl (shaped t e) outermost whole_stands)) (frames_in u) (frames_in v)
      (reaches_frames holds shaped stays p u v r q (stays t u st e)))

pub reaches_keeps_frames : (R : Position → Tree → Tree → Type 0) → ReachesKeepsFrames R
reaches_keeps_frames R l b holds shaped stays t u r e = reaches_frames R l b holds shaped stays Elsewhere t u r refl e
