-- Frames that show what others do, one after another, and what a key gives that another body stands for.
use Rattle.std.specs.Prelude.{ℕ, zero, suc, ◌≡◌, refl, ◌⊎◌, ◌&&◌, Bool, true, false, List, [], ◌∷◌, ◌++◌, None, Some, Contains, if◌then◌else◌}
use Rattle.std.proofs.Common.{ap, ◌∙◌, sym, subst, inl, inr, arith}
use Rattle.std.proofs.lemmas.Bool.{and_parts, false≢true}
use Rattle.std.proofs.lemmas.List.Elements.{Contains-append_left, Contains-append_right, Contains-append_cases}
use Rattle.mini_model.specs.declared.name.Name.{Name}
use Rattle.mini_model.specs.declared.shape.Shape.{Shape}
use Rattle.mini_model.specs.declared.shape.Shape.TheVariants as shape
use Rattle.mini_model.specs.Tree.{Tree, Trees, node, none, ◌▸◌, absent, shape_of, children}
use Rattle.mini_laws.specs.DeclaredNames.{own_names}
use Rattle.mini_laws.specs.Value.{Value, Variable, VariableSet, Slot, nothing, variables}
use Rattle.mini_laws.specs.State.{Answer, Environment}
use Rattle.mini_laws.specs.Same.{Initialised}
use Rattle.mini_laws.specs.Body.{BodyKind, InnerValue, Ran, Run, start_of}
use Rattle.mini_laws.specs.Bodies.{Body}
use Rattle.mini_laws.proofs.Congruent.{no_init}
use Rattle.mini_kept.specs.AlikeBodies.{KindKept, BodiesKept}
use Rattle.mini_kept.specs.Without.{BodySets, none_steady, Steadies, Permits, AlikeUnder, BodiesUnder}
use Rattle.mini_kept.specs.Frames.{property_key, has_key, unbracketed, first_as_key, keyed, Frame, FramesKept}
use Rattle.mini_kept.specs.Carried.{number_of}
use Rattle.mini_kept.specs.ShownFrames.{OnlyGives, KeyGivenUnder, KeyGiven, ShowsKey, Shows, ShowsBare, AllShow, Gone, none_gone, is_named_expression, gone_from, AllGone, LosesName, FrameShown, FramesShown}
use Rattle.mini_kept.proofs.WithoutLists.{from_kept, permits_part, nothing_part, steady_nothing, kept_stands}

abbrev Keys : Type 1
Keys = ℕ → List ℕ → Type 0

-- ---- parts of frames

module _ (G : Keys) where
  mutual
    pub shows_itself : (t : Tree) → Shows G t t
    shows_itself (node h xs n ts) = (refl, refl, inl (refl, all_themselves ts))

    pub all_themselves : (ts : Trees) → AllShow G ts ts
    all_themselves none = tt
    all_themselves (t ▸ ts) = (shows_itself t, all_themselves ts)

  pub shows_same : (t u : Tree) → t ≡ u → Shows G t u
  shows_same t u e = subst (Shows G t) e (shows_itself t)

  pub all_same : (ts us : Trees) → ts ≡ us → AllShow G ts us
  all_same ts us e = subst (AllShow G ts) e (all_themselves ts)

  pub over_shown : (h : Shape) (xs : List Name) (n : ℕ) (ts us : Trees) → AllShow G ts us → Shows G (node h xs n ts) (node h xs n us)
  over_shown h xs n ts us a = (refl, refl, inl (refl, a))

  -- nothing else shows an inner expression, or is shown for a text

  no_others : (ts : Trees) → AllShow G ts none → ts ≡ none
  no_others none a = refl
  no_others (t ▸ ts) a = absurd a

  none_others : (us : Trees) → AllShow G none us → us ≡ none
  none_others none a = refl
  none_others (u ▸ us) a = absurd a

  not_bare : (h i : Shape) (ts : Trees) → ShowsBare G h i ts none → ⊥
  not_bare h i none a = a
  not_bare h i (t ▸ ts) a = a

  inner_alone : (k : ℕ) (t : Tree) → Shows G t (node shape.InnerExpression [] k none) → t ≡ node shape.InnerExpression [] k none
  inner_alone k (node h xs n ts) (a, b, inl (e, c)) = λ j. node (e j) (a j) (b j) (no_others ts c j)
  inner_alone k (node h xs n ts) (a, b, inr c) = absurd (not_bare h shape.InnerExpression ts c)

  text_alone : (s : List ℕ) (t : Tree) → Shows G (node (shape.StringLiteral s) [] 0 none) t → t ≡ node (shape.StringLiteral s) [] 0 none
  text_alone s (node h xs n ts) (a, b, inl (e, c)) = sym (λ j. node (e j) (a j) (b j) (sym (none_others ts c) j))
  text_alone s (node h xs n ts) (a, b, inr c) = absurd c

  -- ---- one after another

  key_before : (t u v : Tree) → Shows G t u → ShowsKey G u v → ShowsKey G t v
  key_before t u v a k = record { number = k.number; key = k.key; bracketed = inner_alone k.number t (subst (Shows G t) k.bracketed a); plain = k.plain; given = k.given }

  key_after : (t u v : Tree) → ShowsKey G t u → Shows G u v → ShowsKey G t v
  key_after t u v k a = record { number = k.number; key = k.key; bracketed = k.bracketed; plain = text_alone k.key v (subst (λ x. Shows G x v) k.plain a); given = k.given }

  no_text : (t u v : Tree) → ShowsKey G t u → ShowsKey G u v → ⊥
  no_text t u v k l = cc (sym k.plain ∙ l.bracketed)

  mutual
    pub shows_on : (t u v : Tree) → Shows G t u → Shows G u v → Shows G t v
    shows_on (node h xs n ts) (node i ys m us) (node j zs l vs) (a, b, inl (e, c)) (a', b', inl (f, d)) = (a ∙ a', b ∙ b', inl (e ∙ f, all_on ts us vs c d))
    shows_on (node h xs n ts) (node i ys m us) (node j zs l vs) (a, b, inl (e, c)) (a', b', inr d) = (a ∙ a', b ∙ b', inr (bare_after h i j ts us vs e c d))
    shows_on (node h xs n ts) (node i ys m us) (node j zs l vs) (a, b, inr c) (a', b', inl (f, d)) = (a ∙ a', b ∙ b', inr (bare_before h i j ts us vs c f d))
    shows_on (node h xs n ts) (node i ys m us) (node j zs l vs) (a, b, inr c) (a', b', inr d) = absurd (bare_twice h i j ts us vs c d)

    bare_after : (h i j : Shape) (ts us vs : Trees) → h ≡ i → AllShow G ts us → ShowsBare G i j us vs → ShowsBare G h j ts vs
    bare_after h i j none none vs e a b = absurd b
    bare_after h i j none (u ▸ us) vs e a b = absurd a
    bare_after h i j (t ▸ ts) none vs e a b = absurd a
    bare_after h i j (t ▸ ts) (u ▸ us) none e a b = absurd b
    bare_after h i j (t ▸ ts) (u ▸ us) (v ▸ vs) e (a, rs) (k, f, b, bs) = (ap has_key e ∙ k, f ∙ sym (ap unbracketed e), key_before t u v a b, all_on ts us vs rs bs)

    bare_before : (h i j : Shape) (ts us vs : Trees) → ShowsBare G h i ts us → i ≡ j → AllShow G us vs → ShowsBare G h j ts vs
    bare_before h i j none us vs a f b = absurd a
    bare_before h i j (t ▸ ts) none vs a f b = absurd a
    bare_before h i j (t ▸ ts) (u ▸ us) none a f b = absurd b
    bare_before h i j (t ▸ ts) (u ▸ us) (v ▸ vs) (k, e, a, rs) f (b, bs) = (k, sym f ∙ e, key_after t u v a b, all_on ts us vs rs bs)

    bare_twice : (h i j : Shape) (ts us vs : Trees) → ShowsBare G h i ts us → ShowsBare G i j us vs → ⊥
    bare_twice h i j none us vs a b = a
    bare_twice h i j (t ▸ ts) none vs a b = a
    bare_twice h i j (t ▸ ts) (u ▸ us) none a b = b
    bare_twice h i j (t ▸ ts) (u ▸ us) (v ▸ vs) (k, e, a, rs) (k', e', b, bs) = no_text t u v a b

    pub all_on : (ts us vs : Trees) → AllShow G ts us → AllShow G us vs → AllShow G ts vs
    all_on none none none a b = tt
    all_on none none (v ▸ vs) a b = absurd b
    all_on none (u ▸ us) vs a b = absurd a
    all_on (t ▸ ts) none vs a b = absurd a
    all_on (t ▸ ts) (u ▸ us) none a b = absurd b
    all_on (t ▸ ts) (u ▸ us) (v ▸ vs) a b = (shows_on t u v a.0 b.0, all_on ts us vs a.1 b.1)

  -- ---- keys

  key_over : (h : Shape) (xs : List Name) (n : ℕ) (ts us : Trees) → AllShow G ts us → Shows G (property_key (node h xs n ts)) (property_key (node h xs n us))
  key_over (shape.IdentifierName s) xs n ts us a = (refl, refl, inl (refl, a))
  key_over (shape.NumericLiteral k) xs n ts us a = (refl, refl, inl (refl, a))
  key_over h xs n ts us a = (refl, refl, inl (refl, a))

  key_bare : (h : Shape) (xs : List Name) (n : ℕ) (ts us : Trees) → has_key h ≡ true → ShowsBare G h (unbracketed h) ts us → Shows G (property_key (node h xs n ts)) (property_key (node (unbracketed h) xs n us))
  key_bare (shape.BindingProperty s c) xs n ts us e b = (refl, refl, inr b)
  key_bare (shape.AssignmentTargetPropertyProperty c) xs n ts us e b = (refl, refl, inr b)
  key_bare shape.AssignmentTargetPropertyIdentifier xs n ts us e b = (refl, refl, inr b)
  key_bare (shape.MethodDefinition k c s) xs n ts us e b = (refl, refl, inr b)
  key_bare (shape.PropertyDefinition c s) xs n ts us e b = (refl, refl, inr b)
  key_bare h xs n ts us e b = absurd (false≢true e)

  bare_key : (h i : Shape) (ts us : Trees) → ShowsBare G h i ts us → (has_key h ≡ true) × (unbracketed h ≡ i)
  bare_key h i none us a = absurd a
  bare_key h i (t ▸ ts) none a = absurd a
  bare_key h i (t ▸ ts) (u ▸ us) (k, e, a, rs) = (k, sym e)

  as_key : (t u : Tree) → Shows G t u → Shows G (property_key t) (property_key u)
  as_key (node h xs n ts) (node i ys m us) (a, b, inl (e, c)) =
      subst (λ k. Shows G (property_key (node h xs n ts)) (property_key (node k ys m us))) e
      (subst (λ zs. Shows G (property_key (node h xs n ts)) (property_key (node h zs m us))) a
      (subst (λ l. Shows G (property_key (node h xs n ts)) (property_key (node h xs l us))) b (key_over h xs n ts us c)))
  as_key (node h xs n ts) (node i ys m us) (a, b, inr c) =
      let (k, e) = bare_key h i ts us c in
      subst (λ j. Shows G (property_key (node h xs n ts)) (property_key (node j ys m us))) e
      (subst (λ zs. Shows G (property_key (node h xs n ts)) (property_key (node (unbracketed h) zs m us))) a
      (subst (λ l. Shows G (property_key (node h xs n ts)) (property_key (node (unbracketed h) xs l us))) b
      (key_bare h xs n ts us k (subst (λ j. ShowsBare G h j ts us) (sym e) c))))

  first_key : (b : Bool) (ts us : Trees) → AllShow G ts us → AllShow G (if b then first_as_key ts else ts) (if b then first_as_key us else us)
  first_key false ts us a = a
  first_key true none none a = tt
  first_key true none (u ▸ us) a = absurd a
  first_key true (t ▸ ts) none a = absurd a
  first_key true (t ▸ ts) (u ▸ us) a = (as_key t u a.0, a.1)

  pub keyed_shown : (h : Shape) (ts us : Trees) → AllShow G ts us → AllShow G (keyed h ts) (keyed h us)
  keyed_shown h ts us a = first_key (has_key h) ts us a

-- ---- what more keys give

module _ (G H : Keys) (more : (n : ℕ) (s : List ℕ) → G n s → H n s) where
  mutual
    pub shows_more : (t u : Tree) → Shows G t u → Shows H t u
    shows_more (node h xs n ts) (node i ys m us) (a, b, inl (e, c)) = (a, b, inl (e, all_more ts us c))
    shows_more (node h xs n ts) (node i ys m us) (a, b, inr c) = (a, b, inr (bare_more h i ts us c))

    bare_more : (h i : Shape) (ts us : Trees) → ShowsBare G h i ts us → ShowsBare H h i ts us
    bare_more h i none us a = absurd a
    bare_more h i (t ▸ ts) none a = absurd a
    bare_more h i (t ▸ ts) (u ▸ us) (k, e, a, rs) = (k, e, record { number = a.number; key = a.key; bracketed = a.bracketed; plain = a.plain; given = more a.number a.key a.given }, all_more ts us rs)

    pub all_more : (ts us : Trees) → AllShow G ts us → AllShow H ts us
    all_more none none a = tt
    all_more none (u ▸ us) a = absurd a
    all_more (t ▸ ts) none a = absurd a
    all_more (t ▸ ts) (u ▸ us) a = (shows_more t u a.0, all_more ts us a.1)

-- ---- a name that is gone

no_keyed_name : (h : Shape) → has_key h ≡ true → is_named_expression h ≡ true → ⊥
no_keyed_name (shape.BindingProperty s c) k e = false≢true e
no_keyed_name (shape.AssignmentTargetPropertyProperty c) k e = false≢true e
no_keyed_name shape.AssignmentTargetPropertyIdentifier k e = false≢true e
no_keyed_name (shape.MethodDefinition l c s) k e = false≢true e
no_keyed_name (shape.PropertyDefinition c s) k e = false≢true e
no_keyed_name h k e = false≢true k

no_bare_name : (h : Shape) → has_key h ≡ true → is_named_expression (unbracketed h) ≡ true → ⊥
no_bare_name (shape.BindingProperty s c) k e = false≢true e
no_bare_name (shape.AssignmentTargetPropertyProperty c) k e = false≢true e
no_bare_name shape.AssignmentTargetPropertyIdentifier k e = false≢true e
no_bare_name (shape.MethodDefinition l c s) k e = false≢true e
no_bare_name (shape.PropertyDefinition c s) k e = false≢true e
no_bare_name h k e = false≢true k

abbrev other_trees : Trees → Trees
other_trees none = none
other_trees (t ▸ ts) = ts

more_gone : (D E : VariableSet) → ((x : Variable) → D x ≡ true → E x ≡ true) → (xs : List Variable) → AllGone D xs → AllGone E xs
more_gone D E f [] a = tt
more_gone D E f (x ∷ xs) a = (f x a.0, more_gone D E f xs a.1)

module _ (M : Gone) (G : Keys) where
  shown_names : (t u : Tree) → Shows G t u → own_names t ≡ own_names u
  shown_names (node h xs n ts) (node i ys m us) a = a.0

  absent_alone : (t : Tree) → Shows G absent t → t ≡ absent
  absent_alone (node h xs n ts) (a, b, inl (e, c)) = sym (λ j. node (e j) (a j) (b j) (sym (none_others G ts c) j))
  absent_alone (node h xs n ts) (a, b, inr c) = absurd c

  -- what shows a node that then loses its name loses it
  lost_after : (t u v : Tree) → Shows G t u → LosesName M G u v → LosesName M G t v
  lost_after t u v a l = by t (subst (Shows G t) l.earlier a)
    where
      of_children : (h : Shape) (xs : List Name) (n : ℕ) (ts : Trees) → h ≡ l.shape → xs ≡ l.names → n ≡ l.number → AllShow G ts (l.name ▸ l.before) → LosesName M G (node h xs n ts) v
      of_children h xs n none e f g c = absurd c
      of_children h xs n (s ▸ ts) e f g c = record {
        shape = l.shape;
        names = l.names;
        number = l.number;
        name = s;
        before = ts;
        after = l.after;
        named = l.named;
        earlier = λ j. node (e j) (f j) (g j) (s ▸ ts);
        later = l.later;
        gone = subst (λ ys. AllGone (M l.shape) (variables ys)) (sym (shown_names s l.name c.0)) l.gone;
        others = all_on G ts l.before l.after c.1 l.others;
      }

      by : (t : Tree) → Shows G t (node l.shape l.names l.number (l.name ▸ l.before)) → LosesName M G t v
      by (node h xs n ts) (f, g, inl (e, c)) = of_children h xs n ts e f g c
      by (node h xs n ts) (f, g, inr c) = let (k, e) = bare_key G h l.shape ts (l.name ▸ l.before) c in absurd (no_bare_name h k (ap is_named_expression e ∙ l.named))

  -- and what is shown later has lost it
  lost_before : (t u v : Tree) → LosesName M G t u → Shows G u v → LosesName M G t v
  lost_before t u v l a = by v (subst (λ w. Shows G w v) l.later a)
    where
      of_children : (i : Shape) (ys : List Name) (m : ℕ) (vs : Trees) → l.shape ≡ i → l.names ≡ ys → l.number ≡ m → AllShow G (absent ▸ l.after) vs → LosesName M G t (node i ys m vs)
      of_children i ys m none e f g c = absurd c
      of_children i ys m (w ▸ vs) e f g c = record {
        shape = l.shape;
        names = l.names;
        number = l.number;
        name = l.name;
        before = l.before;
        after = vs;
        named = l.named;
        earlier = l.earlier;
        later = λ j. node (sym e j) (sym f j) (sym g j) (absent_alone w c.0 j ▸ vs);
        gone = l.gone;
        others = all_on G l.before l.after vs l.others c.1;
      }

      by : (v : Tree) → Shows G (node l.shape l.names l.number (absent ▸ l.after)) v → LosesName M G t v
      by (node i ys m vs) (f, g, inl (e, c)) = of_children i ys m vs e f g c
      by (node i ys m vs) (f, g, inr c) = absurd (no_keyed_name l.shape (bare_key G l.shape i (absent ▸ l.after) vs c).0 l.named)

  lost_twice : (t u v : Tree) → LosesName M G t u → LosesName M G u v → LosesName M G t v
  lost_twice t u v l m =
      let e : node l.shape l.names l.number (absent ▸ l.after) ≡ node m.shape m.names m.number (m.name ▸ m.before) = sym l.later ∙ m.earlier in
      let rest : l.after ≡ m.before = ap (λ x. other_trees (children x)) e in
      record {
        shape = l.shape;
        names = l.names;
        number = l.number;
        name = l.name;
        before = l.before;
        after = m.after;
        named = l.named;
        earlier = l.earlier;
        later = m.later ∙ sym (λ j. node (shape_of (e j)) (own_names (e j)) (number_of (e j)) (absent ▸ m.after));
        gone = l.gone;
        others = all_on G l.before l.after m.after l.others (subst (λ ts. AllShow G ts m.after) (sym rest) m.others);
      }

-- ---- more keys and names

module _ (M N : Gone) (G H : Keys) (less : (h : Shape) (x : Variable) → M h x ≡ true → N h x ≡ true) (more : (n : ℕ) (s : List ℕ) → G n s → H n s) where
  lost_more : (t u : Tree) → LosesName M G t u → LosesName N H t u
  lost_more t u l = record {
    shape = l.shape;
    names = l.names;
    number = l.number;
    name = l.name;
    before = l.before;
    after = l.after;
    named = l.named;
    earlier = l.earlier;
    later = l.later;
    gone = more_gone (M l.shape) (N l.shape) (less l.shape) (variables (own_names l.name)) l.gone;
    others = all_more G H more l.before l.after l.others;
  }

  outline_more : (t u : Tree) → Shows G t u ⊎ LosesName M G t u → Shows H t u ⊎ LosesName N H t u
  outline_more t u (inl a) = inl (shows_more G H more t u a)
  outline_more t u (inr a) = inr (lost_more t u a)

  pub all_frames_more : (fs gs : List Frame) → FramesShown M G fs gs → FramesShown N H fs gs
  all_frames_more fs gs k g x =
      let (f, there, a) = k g x in
      (f, there, record { number = a.number; property = a.property; outline = outline_more f.outline g.outline a.outline; globals = a.globals })

pub frames_more : (M : Gone) (G H : Keys) → ((n : ℕ) (s : List ℕ) → G n s → H n s) → (fs gs : List Frame) → FramesShown M G fs gs → FramesShown M H fs gs
frames_more M G H more = all_frames_more M M G H (λ h x e. e) more

pub none_less : (N : Gone) (h : Shape) (x : Variable) → none_gone h x ≡ true → N h x ≡ true
none_less N h x e = absurd (false≢true e)

pub gone_more : (K : Shape → Bool) (D E : VariableSet) → ((x : Variable) → D x ≡ true → E x ≡ true) → (h : Shape) (x : Variable) → gone_from K D h x ≡ true → gone_from K E h x ≡ true
gone_more K D E f h x e = let (k, d) = and_parts (K h) (D x) e in λ i. k i && f x d i

-- ---- lists of frames

module _ (M : Gone) (G : Keys) where
  frame_itself : (f : Frame) → FrameShown M G f f
  frame_itself f = record { number = refl; property = refl; outline = inl (shows_itself G f.outline); globals = refl }

  pub kept_shown : (fs gs : List Frame) → FramesKept fs gs → FramesShown M G fs gs
  kept_shown fs gs k g x = (g, k g x, frame_itself g)

  pub shown_themselves : (fs : List Frame) → FramesShown M G fs fs
  shown_themselves fs g x = (g, x, frame_itself g)

  outline_on : (t u v : Tree) → Shows G t u ⊎ LosesName M G t u → Shows G u v ⊎ LosesName M G u v → Shows G t v ⊎ LosesName M G t v
  outline_on t u v (inl a) (inl b) = inl (shows_on G t u v a b)
  outline_on t u v (inl a) (inr b) = inr (lost_after M G t u v a b)
  outline_on t u v (inr a) (inl b) = inr (lost_before M G t u v a b)
  outline_on t u v (inr a) (inr b) = inr (lost_twice M G t u v a b)

  frame_on : (f g h : Frame) → FrameShown M G f g → FrameShown M G g h → FrameShown M G f h
  frame_on f g h a b = record { number = a.number ∙ b.number; property = a.property ∙ b.property; outline = outline_on f.outline g.outline h.outline a.outline b.outline; globals = a.globals ∙ b.globals }

  pub shown_on : (fs gs hs : List Frame) → FramesShown M G fs gs → FramesShown M G gs hs → FramesShown M G fs hs
  shown_on fs gs hs k l h x =
      let (g, there, b) = l h x in
      let (f, here, a) = k g there in
      (f, here, frame_on f g h a b)

  pub one_shown : (f g : Frame) → FrameShown M G f g → FramesShown M G (f ∷ []) (g ∷ [])
  one_shown f g a h (zero, below, at) = (f, (0, omega arith, refl), subst (FrameShown M G f) at a)
  one_shown f g a h (suc i, below, at) = absurd (omega (arith, below))

  -- of two lists, each of its own
  pub each_shown : (es fs gs hs : List Frame) → FramesShown M G es gs → FramesShown M G fs hs → FramesShown M G (es ++ fs) (gs ++ hs)
  each_shown es fs gs hs k l f x = by (Contains-append_cases gs hs f x)
    where
      by : Contains gs f ⊎ Contains hs f → (e : Frame) × Contains (es ++ fs) e × FrameShown M G e f
      by (inl y) = let (e, there, a) = k f y in (e, Contains-append_left es fs e there, a)
      by (inr y) = let (e, there, a) = l f y in (e, Contains-append_right es fs e there, a)

-- ---- bodies that give keys

pub given_among : (D : VariableSet) (bs cs : List Body) → ((b : Body) → Contains bs b → Contains cs b) → (n : ℕ) (s : List ℕ) → KeyGiven D bs n s → KeyGiven D cs n s
given_among D bs cs f n s k = record { body = k.body; there = f k.body k.there; number = k.number; kind = k.kind; gives = k.gives }

-- in fewer environments
pub given_seldom : (W : VariableSet) (S : BodySets) (D : VariableSet) (bs : List Body) (n : ℕ) (s : List ℕ) → KeyGiven nothing bs n s → KeyGivenUnder W S D bs n s
given_seldom W S D bs n s k = record { body = k.body; there = k.there; number = k.number; kind = k.kind; gives = record { by = λ e u v vars this answers turns i. k.gives.by e (permits_part nothing W nothing D (nothing_part W) (nothing_part D) e u) (steady_nothing e) vars this answers turns (no_init (start_of vars this answers turns)) } }

value_kind : (k l : BodyKind) → KindKept k l → l ≡ InnerValue → k ≡ InnerValue
value_kind k l (inl e) f = e ∙ f
value_kind k l (inr e) f = absurd (cc (sym e.1 ∙ f))

-- of the bodies that others stand for
pub given_before : (W : VariableSet) (S : BodySets) (D : VariableSet) (bs cs : List Body) → BodiesUnder W S D bs cs → (n : ℕ) (s : List ℕ) → KeyGivenUnder W S D cs n s → KeyGivenUnder W S D bs n s
given_before W S D bs cs kept n s k = from (kept_stands W S D bs cs kept k.body k.there)
  where
    from : (b : Body) × Contains bs b × AlikeUnder W S D b k.body → KeyGivenUnder W S D bs n s
    from (b, there, a) = record {
      body = b;
      there = there;
      number = a.number ∙ k.number;
      kind = value_kind b.kind k.body.kind a.kind k.kind;
      gives = record { by = λ e u v vars this answers turns i. gives e u v vars this answers turns i };
    }
      where
        gives : (e : Environment) → Permits W D e → Steadies (S b.number) e → (vars : Variable → Slot) (this : Value) (answers : List Answer) (turns : ℕ) → Initialised (S b.number).initial (start_of vars this answers turns) → (Run e InnerValue b.root vars this answers turns ≡ None) ⊎ ((r : Ran) × (Run e InnerValue b.root vars this answers turns ≡ Some r) × OnlyGives e vars s r)
        gives e u v vars this answers turns i =
            let same = subst (λ q. (Run e q b.root vars this answers turns ≡ None) ⊎ (Run e q b.root vars this answers turns ≡ Run e k.body.kind k.body.root vars this answers turns)) (value_kind b.kind k.body.kind a.kind k.kind)
            ((a.same e u v (S b.number).initial (λ x h. h)).by vars this answers turns i) in
            joined (subst (λ q. (Run e InnerValue b.root vars this answers turns ≡ None) ⊎ (Run e InnerValue b.root vars this answers turns ≡ Run e q k.body.root vars this answers turns)) k.kind same) (k.gives.by e u (subst (λ m. Steadies (S m) e) a.number v) vars this answers turns (subst (λ m. Initialised (S m).initial (start_of vars this answers turns)) a.number i))
          where
            joined : (Run e InnerValue b.root vars this answers turns ≡ None) ⊎ (Run e InnerValue b.root vars this answers turns ≡ Run e InnerValue k.body.root vars this answers turns)
                → (Run e InnerValue k.body.root vars this answers turns ≡ None) ⊎ ((r : Ran) × (Run e InnerValue k.body.root vars this answers turns ≡ Some r) × OnlyGives e vars s r)
                → (Run e InnerValue b.root vars this answers turns ≡ None) ⊎ ((r : Ran) × (Run e InnerValue b.root vars this answers turns ≡ Some r) × OnlyGives e vars s r)
            joined (inl x) y = inl x
            joined (inr x) (inl y) = inl (x ∙ y)
            joined (inr x) (inr (r, y, z)) = inr (r, x ∙ y, z)

pub given_kept : (bs cs : List Body) → BodiesKept bs cs → (n : ℕ) (s : List ℕ) → KeyGiven nothing cs n s → KeyGiven nothing bs n s
given_kept bs cs kept = given_before nothing none_steady nothing bs cs (from_kept nothing bs cs kept)
