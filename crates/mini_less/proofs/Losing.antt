-- A node loses a name, where a child of it does: of every other symbol it tells no more.
use Rattle.std.specs.Prelude.{ℕ, suc, ◌≡◌, ◌⊎◌, refl, nat_eq, Bool, true, false, ◌&&◌, ◌||◌, List, [], ◌∷◌, ◌++◌, map, Option, None, if◌then◌else◌}
use Rattle.std.proofs.Common.{ap, ◌∙◌, sym, subst, inl, inr}
use Rattle.mini_model.specs.declared.name.Name.{Name}
use Rattle.mini_model.specs.declared.shape.Shape.{Shape}
use Rattle.mini_model.specs.Paths.{append}
use Rattle.mini_model.specs.Tree.{Tree, Trees, node, none, ◌▸◌}
use Rattle.mini_model.specs.Weight.{same_text}
use Rattle.mini_laws.specs.declared.names.Binding.{Binding}
use Rattle.mini_laws.specs.declared.names.Use.{Use}
use Rattle.mini_laws.specs.DeclaredNames.{is_spelled}
use Rattle.mini_laws.specs.Mentions.{is_among}
use Rattle.mini_laws.specs.Resolved.{Environment, or_else, own_symbol, serves, symbol_of}
use Rattle.mini_laws.specs.ScopeList.{by_symbol}
use Rattle.mini_laws.specs.Scopes.{body_scope, lexical_scope, opened}
use Rattle.mini_laws.specs.Shared.{spelled_among}
use Rattle.mini_laws.proofs.Lookups.{symbol_of_both}
use Rattle.mini_shrink.specs.Facts.{Fact, question}
use Rattle.mini_shrink.specs.Pace.{Pace, kept_in, ends_after, in_turn, AtMost, Setting, below, Question, pace, paces}
use Rattle.mini_shrink.proofs.Paces.{AllAtMost, both, ended_inside, same, turned}
use Rattle.mini_rows.specs.Unused.{any_names, names, resolved}
use Rattle.mini_rows.proofs.SingleUse.{place}
use Rattle.mini_rows.proofs.UnusedNames.{Other, amid, amid_behind, other_both, or_parts}
use Rattle.mini_less.proofs.Beside.{Beside, beside_both, fact_beside}
use Rattle.mini_less.proofs.TellingLists.{among_both}

module _ (sp : List ℕ) (k : ℕ) where
  abbrev x : Name
  x = resolved sp k

  -- ---- names that lose it

  pub record Lost (xs ys : List Name) : Type 0 where
    pub first : List Name
    pub last : List Name
    pub there : xs ≡ first ++ x ∷ last
    pub gone : ys ≡ first ++ last
    pub others_first : Other x first
    pub others_last : Other x last

  -- those that do, or stay
  abbrev pub Loses : List Name → List Name → Type 0
  Loses xs ys = (ys ≡ xs) ⊎ Lost xs ys

  unlike_it : (s : ℕ) → nat_eq s k ≡ false → (zs : List Name) → is_among (by_symbol s) (x ∷ zs) ≡ is_among (by_symbol s) zs
  unlike_it s e zs j = e j || is_among (by_symbol s) zs

  pub among_lost : (s : ℕ) → nat_eq s k ≡ false → (xs ys : List Name) → Loses xs ys → is_among (by_symbol s) ys ≡ is_among (by_symbol s) xs
  among_lost s e xs ys (inl f) = ap (is_among (by_symbol s)) f
  among_lost s e xs ys (inr l) =
      ap (is_among (by_symbol s)) l.gone ∙ among_both (by_symbol s) l.first l.last ∙ ap (λ b. is_among (by_symbol s) l.first || b) (sym (unlike_it s e l.last)) ∙ sym (among_both (by_symbol s) l.first (x ∷ l.last)) ∙ sym (ap (is_among (by_symbol s)) l.there)

  spelled_both : (ps xs ys : List Name) → spelled_among ps (xs ++ ys) ≡ spelled_among ps xs ++ spelled_among ps ys
  spelled_both ps [] ys = refl
  spelled_both ps (z ∷ xs) ys = by (is_spelled z.spelling ps) (spelled_both ps xs ys)
    where
      by : (b : Bool) → spelled_among ps (xs ++ ys) ≡ spelled_among ps xs ++ spelled_among ps ys → (if b then z ∷ spelled_among ps (xs ++ ys) else spelled_among ps (xs ++ ys)) ≡ (if b then z ∷ spelled_among ps xs else spelled_among ps xs) ++ spelled_among ps ys
      by true e = ap (λ zs. z ∷ zs) e
      by false e = e

  spelled_it : (s : ℕ) → nat_eq s k ≡ false → (ps zs : List Name) → is_among (by_symbol s) (spelled_among ps (x ∷ zs)) ≡ is_among (by_symbol s) (spelled_among ps zs)
  spelled_it s e ps zs = by (is_spelled x.spelling ps)
    where
      by : (b : Bool) → is_among (by_symbol s) (if b then x ∷ spelled_among ps zs else spelled_among ps zs) ≡ is_among (by_symbol s) (spelled_among ps zs)
      by true = unlike_it s e (spelled_among ps zs)
      by false = refl

  pub caught_lost : (s : ℕ) → nat_eq s k ≡ false → (ps xs ys : List Name) → Loses xs ys → is_among (by_symbol s) (spelled_among ps ys) ≡ is_among (by_symbol s) (spelled_among ps xs)
  caught_lost s e ps xs ys (inl f) = ap (λ zs. is_among (by_symbol s) (spelled_among ps zs)) f
  caught_lost s e ps xs ys (inr l) =
      let A : List Name → Bool = λ zs. is_among (by_symbol s) (spelled_among ps zs) in
      let two : (zs ws : List Name) → A (zs ++ ws) ≡ (A zs || A ws) = λ zs ws. ap (is_among (by_symbol s)) (spelled_both ps zs ws) ∙ among_both (by_symbol s) (spelled_among ps zs) (spelled_among ps ws) in
      ap A l.gone ∙ two l.first l.last ∙ ap (λ b. A l.first || b) (sym (spelled_it s e ps l.last)) ∙ sym (two l.first (x ∷ l.last)) ∙ sym (ap A l.there)

  -- among others
  pub append_assoc : (xs ys zs : List Name) → (xs ++ ys) ++ zs ≡ xs ++ (ys ++ zs)
  append_assoc [] ys zs = refl
  append_assoc (y ∷ xs) ys zs = ap (λ l. y ∷ l) (append_assoc xs ys zs)

  pub lost_among : (front back xs ys : List Name) → Other x front → Other x back → Loses xs ys → Loses (front ++ (xs ++ back)) (front ++ (ys ++ back))
  lost_among front back xs ys a b (inl f) = inl (ap (λ zs. front ++ (zs ++ back)) f)
  lost_among front back xs ys a b (inr l) = inr (record {
    first = front ++ l.first;
    last = l.last ++ back;
    there = ap (λ zs. front ++ (zs ++ back)) l.there ∙ ap (λ zs. front ++ zs) (append_assoc l.first (x ∷ l.last) back) ∙ sym (append_assoc front l.first (x ∷ (l.last ++ back)));
    gone = ap (λ zs. front ++ (zs ++ back)) l.gone ∙ ap (λ zs. front ++ zs) (append_assoc l.first l.last back) ∙ sym (append_assoc front l.first (l.last ++ back));
    others_first = other_both x front l.first a l.others_first;
    others_last = other_both x l.last back l.others_last b;
  })

  -- ---- a scope that loses it

  pub record ScopeLost (bs cs : List Binding) : Type 0 where
    pub hoists : Bool
    pub first : List Name
    pub last : List Name
    pub there : bs ≡ map (λ y. record { name = y; hoists = hoists }) (first ++ x ∷ last)
    pub gone : cs ≡ map (λ y. record { name = y; hoists = hoists }) (first ++ last)

  abbrev pub ScopeLoses : List Binding → List Binding → Type 0
  ScopeLoses bs cs = (cs ≡ bs) ⊎ ScopeLost bs cs

  off_and : (b : Bool) → (b && false) ≡ false
  off_and true = refl
  off_and false = refl

  unfound : (u : Use) (s : List ℕ) (h : Bool) → same_text sp s ≡ false → own_symbol u s (record { name = x; hoists = h }) ≡ None
  unfound u s h e = ap (λ b. if b then x.symbol else None) (ap (λ b. serves u (record { name = x; hoists = h }) && b) e ∙ off_and (serves u (record { name = x; hoists = h })))

  none_else : (o : Option _) → or_else o None ≡ o
  none_else None = refl
  none_else o = refl

  without_it : (u : Use) (s : List ℕ) (h : Bool) → same_text sp s ≡ false → (first last : List Name) → symbol_of u s (map (λ y. record { name = y; hoists = h }) (first ++ x ∷ last)) ≡ symbol_of u s (map (λ y. record { name = y; hoists = h }) (first ++ last))
  without_it u s h e [] last = ap (or_else (symbol_of u s (map (λ y. record { name = y; hoists = h }) last))) (unfound u s h e) ∙ none_else (symbol_of u s (map (λ y. record { name = y; hoists = h }) last))
  without_it u s h e (y ∷ first) last = ap (λ o. or_else o (own_symbol u s (record { name = y; hoists = h }))) (without_it u s h e first last)

  pub beside_lost : (env env' : Environment) → Beside x env env' → (bs cs : List Binding) → ScopeLoses bs cs → Beside x (env ++ bs) (env' ++ cs)
  beside_lost env env' f bs cs (inl e) u s n = beside_both x env env' f bs u s n ∙ ap (λ z. symbol_of u s (env' ++ z)) (sym e)
  beside_lost env env' f bs cs (inr l) u s n =
      ap (λ z. symbol_of u s (env ++ z)) l.there ∙ symbol_of_both u s env (map (λ y. record { name = y; hoists = l.hoists }) (l.first ++ x ∷ l.last)) ∙ (λ j. or_else (without_it u s l.hoists n l.first l.last j) (f u s n j))
      ∙ sym (ap (λ z. symbol_of u s (env' ++ z)) l.gone ∙ symbol_of_both u s env' (map (λ y. record { name = y; hoists = l.hoists }) (l.first ++ l.last)))

  pub lexical_lost : (xs ys : List Name) → Loses xs ys → ScopeLoses (lexical_scope xs) (lexical_scope ys)
  lexical_lost xs ys (inl e) = inl (ap lexical_scope e)
  lexical_lost xs ys (inr l) =
      let a = amid x l.first l.last l.others_first l.others_last in
      inr (record { hoists = false; first = a.first; last = a.last; there = ap lexical_scope l.there ∙ ap (map (λ y. record { name = y; hoists = false })) a.there; gone = ap lexical_scope l.gone ∙ ap (map (λ y. record { name = y; hoists = false })) a.gone })

  pub body_lost : (params xs ys : List Name) → Other x params → Loses xs ys → ScopeLoses (body_scope params xs) (body_scope params ys)
  body_lost params xs ys o (inl e) = inl (ap (body_scope params) e)
  body_lost params xs ys o (inr l) =
      let a = amid_behind x params l.first l.last o l.others_first l.others_last in
      inr (record { hoists = true; first = a.first; last = a.last; there = ap (body_scope params) l.there ∙ ap (map (λ y. record { name = y; hoists = true })) a.there; gone = ap (body_scope params) l.gone ∙ ap (map (λ y. record { name = y; hoists = true })) a.gone })

  -- ---- what a node says

  module _ (g : Fact) (b s : ℕ) (t u : Tree) (post : Trees) (unnamed : names x u ≡ false) (later : any_names x post ≡ false) where
    abbrev q : Question
    q = question g b s

    rest_said : (sc sc' : ℕ → List Binding) → ((i : ℕ) → ScopeLoses (sc i) (sc' i)) → (cs : ℕ → Setting) (i : ℕ) (env env' : Environment) → Beside x env env' → (ts : Trees) → any_names x ts ≡ false → AllAtMost (paces q sc' cs i env' ts) (paces q sc cs i env ts)
    unfolding pace
    rest_said sc sc' z cs i env env' f none e = tt
    rest_said sc sc' z cs i env env' f (p ▸ ts) e =
        let (one, others) = or_parts (names x p) (any_names x ts) e in
        let inner = beside_lost env env' f (sc i) (sc' i) (z i) in
        (same _ _ (ap (ends_after (q.ends (cs i) p)) (sym (fact_beside x g b s (cs i) (env ++ sc i) (env' ++ sc' i) inner p one))), rest_said sc sc' z cs (suc i) (env ++ sc i) (env' ++ sc' i) inner ts others)

    child_said : (sc sc' : ℕ → List Binding) → ((i : ℕ) → ScopeLoses (sc i) (sc' i)) → (cs : ℕ → Setting) (i : ℕ) (env env' : Environment) → Beside x env env' → (pre : Trees) → any_names x pre ≡ false → ((c : Setting) → q.ends c u ≡ q.ends c t)
        → ((e : Environment) → AtMost (kept_in (pace q (cs (place i pre)) e u)) (kept_in (pace q (cs (place i pre)) e t))) → AllAtMost (paces q sc' cs i env' (append pre (u ▸ post))) (paces q sc cs i env (append pre (t ▸ post)))
    unfolding pace
    child_said sc sc' z cs i env env' f none e n a =
        let inner = beside_lost env env' f (sc i) (sc' i) (z i) in
        let there = pace q (cs i) (env ++ sc i) t in (
          subst (λ d. AtMost (ends_after d (pace q (cs i) (env' ++ sc' i) u)) (ends_after (q.ends (cs i) t) there)) (sym (n (cs i)))
              (ended_inside (q.ends (cs i) t) (pace q (cs i) (env' ++ sc' i) u) there (subst (λ p. AtMost (kept_in p) (kept_in there)) (fact_beside x g b s (cs i) (env ++ sc i) (env' ++ sc' i) inner u unnamed) (a (env ++ sc i)))),
          rest_said sc sc' z cs (suc i) (env ++ sc i) (env' ++ sc' i) inner post later,
        )
    child_said sc sc' z cs i env env' f (p ▸ pre) e n a =
        let (one, others) = or_parts (names x p) (any_names x pre) e in
        let inner = beside_lost env env' f (sc i) (sc' i) (z i) in
        (same _ _ (ap (ends_after (q.ends (cs i) p)) (sym (fact_beside x g b s (cs i) (env ++ sc i) (env' ++ sc' i) inner p one))), child_said sc sc' z cs (suc i) (env ++ sc i) (env' ++ sc' i) inner pre others n a)

    pub node_said : (c : Setting) (env : Environment) (h : Shape) (n : ℕ) (pre : Trees) → any_names x pre ≡ false → AtMost (q.before c env h [] n (append pre (u ▸ post))) (q.before c env h [] n (append pre (t ▸ post))) → q.orders c h (append pre (u ▸ post)) ≡ q.orders c h (append pre (t ▸ post))
        → ((c : Setting) → q.ends c u ≡ q.ends c t) → ((i : ℕ) → ScopeLoses (opened c.used h (append pre (t ▸ post)) i) (opened c.used h (append pre (u ▸ post)) i))
        → ((o : Bool) (e : Environment) → AtMost (kept_in (pace q (below o c h n (place 0 pre)) e u)) (kept_in (pace q (below o c h n (place 0 pre)) e t))) → AtMost (pace q c env (node h [] n (append pre (u ▸ post)))) (pace q c env (node h [] n (append pre (t ▸ post))))
    unfolding pace
    node_said c env h n pre e before orders ends scopes a =
        let ts = append pre (t ▸ post) in
        let us = append pre (u ▸ post) in
        let sc = opened c.used h ts in
        let sc' = opened c.used h us in
        let cs = below (q.orders c h ts) c h n in
        let rs : List Pace = paces q sc cs 0 env ts in
        both (q.before c env h [] n us) (q.before c env h [] n ts) (in_turn h (paces q sc' (below (q.orders c h us) c h n) 0 env us)) (in_turn h rs) before
        (subst (λ o. AtMost (in_turn h (paces q sc' (below o c h n) 0 env us)) (in_turn h rs)) (sym orders) (turned h (paces q sc' cs 0 env us) rs (child_said sc sc' scopes cs 0 env env (λ v r m. refl) pre e ends (a (q.orders c h ts)))))
