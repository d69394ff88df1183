-- The bodies that are left.
use Rattle.std.proofs.Common.{◌≡◌, ℕ, zero, suc, false, List, [], ◌∷◌, ◌++◌, refl, sym, ap, ◌∙◌, subst, subst₂, inl, inr}
use Rattle.std.specs.Prelude.{◌⊎◌, not}
use Rattle.mini_model.specs.declared.name.Name.{Name}
use Rattle.mini_model.specs.declared.shape.Shape.{Shape}
use Rattle.mini_model.specs.declared.shape.Shape.TheVariants as shape
use Rattle.mini_model.specs.Tree.{Trees, node, child_or_absent, shape_of}
use Rattle.mini_laws.specs.Value.{VariableSet, nothing}
use Rattle.mini_laws.specs.State.{Environment, Writes}
use Rattle.mini_laws.specs.Naming.{nth_absent}
use Rattle.mini_laws.specs.Bodies.{outermost, Around, below, Body, body_of, arrow_kind, bodies, bodies_from}
use Rattle.mini_dead.specs.Creations.{FunctionSet, SameWithout}
use Rattle.mini_dead.proofs.Pruned.{pruned_same}
use Rattle.mini_dead.specs.Pruned.{Spot, Elsewhere, Role, Plain, role, spot_below, Pruned, prune, Prunings, end, stays, goes, declarator_goes, earlier, earlier_all, later, later_all, Prunes, PrunesAll, HoldsItems, AnyDeclarator, Declarator, declarator_tree, item_tree}
use Rattle.mini_dead.specs.PrunedBodies as law
use Rattle.mini_dead.specs.PrunedBodies.{BodyPruned, BodiesPruned}
use Rattle.mini_dead.proofs.Summed as m

moved : (g : ℕ → Around) (i j : ℕ) → (i ≡ j) ⊎ ((i j : ℕ) → g i ≡ g j) → g i ≡ g j
moved g i j (inl p) = ap g p
moved g i j (inr f) = f i j

next : (g : ℕ → Around) (i j : ℕ) → (i ≡ j) ⊎ ((i j : ℕ) → g i ≡ g j) → (suc i ≡ suc j) ⊎ ((i j : ℕ) → g i ≡ g j)
next g i j (inl p) = inl (ap suc p)
next g i j (inr f) = inr f

module _ (d : FunctionSet) (D : VariableSet) (C : Environment → Type 0) (never : d 0 ≡ false) (e₀ : Environment) (c₀ : C e₀) where
  abbrev B : List Body → List Body → Type 0
  B bs bs' = BodiesPruned d D C bs bs'

  skip_one : (b : Body) (bs bs' : List Body) → B bs bs' → B (b ∷ bs) bs'
  skip_one b bs [] h = tt
  skip_one b bs (b' ∷ bs') h = inr h

  skip : (as' bs bs' : List Body) → B bs bs' → B (as' ++ bs) bs'
  skip [] bs bs' h = h
  skip (a ∷ as') bs bs' h = skip_one a (as' ++ bs) bs' (skip as' bs bs' h)

  both : (as' bs cs ds : List Body) → B as' cs → B bs ds → B (as' ++ bs) (cs ++ ds)
  both as' bs [] ds g h = skip as' bs ds h
  both [] bs (c ∷ cs) ds g h = absurd g
  both (a ∷ as') bs (c ∷ cs) ds (inl g) h = inl (g.0, both as' bs cs ds g.1 h)
  both (a ∷ as') bs (c ∷ cs) ds (inr g) h = inr (both as' bs (c ∷ cs) ds g h)

  -- the child at a place
  absent_pruned : Pruned
  absent_pruned = prune shape.Absent [] 0 end

  child : ℕ → Prunings → Pruned
  child i end = absent_pruned
  child zero (stays x ps) = x
  child (suc i) (stays x ps) = child i ps
  child i (goes c ps) = absent_pruned
  child i (declarator_goes c ps) = absent_pruned

  All : Spot → Pruned → Type 0
  All p x = (e : Environment) → C e → Prunes d D e p x

  AllOf : Role → ℕ → Prunings → Type 0
  AllOf r i ps = (e : Environment) → C e → PrunesAll d D e r i ps

  child_earlier : (i k : ℕ) (ps : Prunings) → AllOf Plain k ps → earlier (child i ps) ≡ child_or_absent (earlier_all ps) i
  unfolding AllOf child absent_pruned
  child_earlier i k end al = refl
  child_earlier zero k (stays x ps) al = refl
  child_earlier (suc i) k (stays x ps) al = child_earlier i (suc k) ps (λ e c. (al e c).1)
  child_earlier i k (goes c ps) al = absurd (al e₀ c₀).0
  child_earlier i k (declarator_goes c ps) al = absurd (al e₀ c₀).0

  child_later : (i k : ℕ) (ps : Prunings) → AllOf Plain k ps → later (child i ps) ≡ child_or_absent (later_all ps) i
  unfolding AllOf child absent_pruned
  child_later i k end al = refl
  child_later zero k (stays x ps) al = refl
  child_later (suc i) k (stays x ps) al = child_later i (suc k) ps (λ e c. (al e c).1)
  child_later i k (goes c ps) al = absurd (al e₀ c₀).0
  child_later i k (declarator_goes c ps) al = absurd (al e₀ c₀).0

  child_prunes : (i k : ℕ) (ps : Prunings) → AllOf Plain k ps → All Elsewhere (child i ps)
  unfolding AllOf All child absent_pruned
  child_prunes i k end al e c = (tt, never, tt)
  child_prunes zero k (stays x ps) al e c = (al e c).0
  child_prunes (suc i) k (stays x ps) al e c = child_prunes i (suc k) ps (λ e c. (al e c).1) e c
  child_prunes i k (goes g ps) al e c = absurd (al e₀ c₀).0
  child_prunes i k (declarator_goes g ps) al e c = absurd (al e₀ c₀).0

  same_shape : (x : Pruned) → shape_of (earlier x) ≡ shape_of (later x)
  same_shape (prune h xs n ps) = refl

  own_body : (a : Around) (p : Spot) (h : Shape) (xs : List Name) (n : ℕ) (ps : Prunings) → All p (prune h xs n ps) → B (body_of a h n (node h xs n (earlier_all ps)) (earlier_all ps)) (body_of a h n (node h xs n (later_all ps)) (later_all ps))
  unfolding All AllOf
  own_body a p (shape.Program b ds) xs n ps al = inl (record { number = refl; kind = refl; strict = refl; asks_this = refl; root = prune (shape.Program b ds) xs n ps; before = refl; after = refl; prunes = al }, tt)
  own_body a p (shape.Function b g ds) xs n ps al =
      inl (record { number = refl; kind = refl; strict = refl; asks_this = refl; root = child 2 ps; before = child_earlier 2 0 ps (λ e c. (al e c).2); after = child_later 2 0 ps (λ e c. (al e c).2); prunes = child_prunes 2 0 ps (λ e c. (al e c).2) }, tt)
  own_body a p (shape.ArrowFunctionExpression ds) xs n ps al =
      let b = child_earlier 1 0 ps (λ e c. (al e c).2) in
      let l = child_later 1 0 ps (λ e c. (al e c).2) in
      inl (record { number = refl; kind = ap (λ t. arrow_kind (shape_of t)) (sym b) ∙ ap arrow_kind (same_shape (child 1 ps)) ∙ ap (λ t. arrow_kind (shape_of t)) l; strict = refl; asks_this = refl; root = child 1 ps; before = b; after = l; prunes = child_prunes 1 0 ps (λ e c. (al e c).2) }, tt)
  own_body a p shape.StaticBlock xs n ps al = inl (record { number = refl; kind = refl; strict = refl; asks_this = refl; root = prune shape.StaticBlock xs n ps; before = refl; after = refl; prunes = al }, tt)
  own_body a p shape.InnerExpression xs n ps al = inl (record { number = refl; kind = refl; strict = refl; asks_this = refl; root = prune shape.InnerExpression xs n ps; before = refl; after = refl; prunes = al }, tt)
  own_body a p h xs n ps al = tt

  below_same : (a : Around) (p : Spot) (h : Shape) (xs : List Name) (n : ℕ) (ps : Prunings) → All p (prune h xs n ps) → (i : ℕ) → below a h (earlier_all ps) i ≡ below a h (later_all ps) i
  unfolding All
  below_same a p (shape.Class b) xs n ps al i = ap (λ fs. record (below a (shape.Class b) (earlier_all ps) i) { extends = not (nth_absent fs 1) }) (m.alikes d D e₀ 0 ps (al e₀ c₀).2).facts
  below_same a p h xs n ps al i = refl

  items_at : (a : Around) (p : Spot) (h : Shape) (ts : Trees) → HoldsItems (role h p) → (i j : ℕ) → below a h ts i ≡ below a h ts j
  items_at a p shape.Listed ts k i j = refl
  items_at a p (shape.VariableDeclaration v) ts k i j = refl
  items_at a p shape.SwitchCase ts k i j = refl
  items_at a p h ts k i j = absurd k

  declarators_at : (a : Around) (p : Spot) (h : Shape) (ts : Trees) (c : Declarator) → AnyDeclarator d D e₀ (role h p) c → (i j : ℕ) → below a h ts i ≡ below a h ts j
  declarators_at a p shape.Listed ts c k i j = refl
  declarators_at a p (shape.VariableDeclaration v) ts c k i j = refl
  declarators_at a p shape.SwitchCase ts c k i j = refl
  declarators_at a p h ts c k i j = absurd k

  mutual
    unfolding All AllOf

    tree_bodies : (a : Around) (p : Spot) (x : Pruned) → All p x → B (bodies a (earlier x)) (bodies a (later x))
    tree_bodies a p (prune h xs n ps) al =
        both (body_of a h n (node h xs n (earlier_all ps)) (earlier_all ps)) (bodies_from (below a h (earlier_all ps)) 0 (earlier_all ps)) (body_of a h n (node h xs n (later_all ps)) (later_all ps)) (bodies_from (below a h (later_all ps)) 0 (later_all ps)) (own_body a p h xs n ps al)
        (kids_bodies (role h p) (below a h (earlier_all ps)) (below a h (later_all ps)) (below_same a p h xs n ps al) (items_at a p h (later_all ps)) (declarators_at a p h (later_all ps)) 0 0 (inl refl) ps (λ e c. (al e c).2))

    kids_bodies : (r : Role) (f g : ℕ → Around) → ((i : ℕ) → f i ≡ g i) → (HoldsItems r → (i j : ℕ) → g i ≡ g j) → ((c : Declarator) → AnyDeclarator d D e₀ r c → (i j : ℕ) → g i ≡ g j) → (i j : ℕ) → (i ≡ j) ⊎ ((i j : ℕ) → g i ≡ g j) → (ps : Prunings) → AllOf r i ps → B (bodies_from f i (earlier_all ps)) (bodies_from g j (later_all ps))
    kids_bodies r f g s u v i j w end al = tt
    kids_bodies r f g s u v i j w (stays x ps) al =
        both (bodies (f i) (earlier x)) (bodies_from f (suc i) (earlier_all ps)) (bodies (g j) (later x)) (bodies_from g (suc j) (later_all ps))
        (subst (λ b. B (bodies (f i) (earlier x)) (bodies b (later x))) (s i ∙ moved g i j w) (tree_bodies (f i) (spot_below r i) x (λ e c. (al e c).0))) (kids_bodies r f g s u v (suc i) (suc j) (next g i j w) ps (λ e c. (al e c).1))
    kids_bodies r f g s u v i j w (goes c ps) al =
        skip (bodies (f i) (item_tree c)) (bodies_from f (suc i) (earlier_all ps)) (bodies_from g j (later_all ps)) (kids_bodies r f g s u v (suc i) j (inr (u (al e₀ c₀).0)) ps (λ e c. (al e c).2))
    kids_bodies r f g s u v i j w (declarator_goes c ps) al =
        skip (bodies (f i) (declarator_tree c)) (bodies_from f (suc i) (earlier_all ps)) (bodies_from g j (later_all ps)) (kids_bodies r f g s u v (suc i) j (inr (v c (al e₀ c₀).0)) ps (λ e c. (al e c).1))

pub pruned_bodies : law.PrunedBodies
unfolding All
pruned_bodies d D C a p never e c al = tree_bodies d D C never e c a Elsewhere p al

any_environment : Environment
any_environment = record { shared = nothing; foreign = nothing; fixed = λ x. Writes; asks_this = false }

module _ (d : FunctionSet) (D : VariableSet) where
  body_without : (b b' : Body) → BodyPruned d D (law.MayWrite D) b b' → law.BodyWithout d D b b'
  body_without b b' w = record {
    number = w.number;
    kind = w.kind;
    strict = w.strict;
    asks_this = w.asks_this;
    same = λ e may apart. subst₂ (λ n v. SameWithout d e b.kind n v) w.before w.after (pruned_same d D e apart b.kind w.root (w.prunes e may));
  }

  bodies_without : (bs bs' : List Body) → BodiesPruned d D (law.MayWrite D) bs bs' → law.BodiesWithout d D bs bs'
  bodies_without bs [] h = tt
  bodies_without [] (b' ∷ bs') h = absurd h
  bodies_without (b ∷ bs) (b' ∷ bs') (inl h) = inl (body_without b b' h.0, bodies_without bs bs' h.1)
  bodies_without (b ∷ bs) (b' ∷ bs') (inr h) = inr (bodies_without bs (b' ∷ bs') h)

pub pruned_program : law.PrunedProgram
unfolding any_environment
pruned_program d D p never al = bodies_without d D _ _ (pruned_bodies d D (law.MayWrite D) outermost p never any_environment (λ x h. refl) al)
