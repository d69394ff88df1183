-- What is done in a list of statements, or in a `var` in no list, below some nodes.
use Rattle.std.proofs.Common.{◌≡◌, Bool, true, false, refl, sym, ap, ◌∙◌, subst, subst₂, inl, inr, true≢false, arith}
use Rattle.mini_model.specs.Tree.{Tree, Trees, none, ◌▸◌, listed, children, count}
use Rattle.mini_kept.specs.Without.{BodySets}
use Rattle.mini_laws.specs.Path.{here}
use Rattle.mini_node.specs.Children.{part}
use Rattle.mini_node.specs.Kinds.{is_listed}
use Rattle.mini_node.specs.Made.{listed_is}
use Rattle.mini_node.specs.Walks.{append_none}
use Rattle.mini_rows.specs.declared.inside.Way.{Way}
use Rattle.mini_rows.specs.declared.inside.Way.TheVariants as way
use Rattle.mini_rows.specs.Past.{PastRow}
use Rattle.mini_rows.specs.PastInside.{passes_var, PastEnd, PastOneEnd, past_ends}
use Rattle.mini_rows.specs.Switches.{Liberties}
use Rattle.mini_rows.proofs.InsideMeaning.{same_itself}
use Rattle.mini_rows.proofs.PastHeadKept.{one_left}
use Rattle.mini_rows.proofs.PastInsideKept.{one_next}
use Rattle.mini_unused.specs.RemoveUnusedDeclaration.{is_var}
use Rattle.mini_unused.proofs.Chains.{several_over}
use Rattle.mini_inside.specs.Further.{InStep, HereWalked}
use Rattle.mini_inside.proofs.FurtherSteps.{no_end}
use Rattle.mini_past.specs.PastEnds.{known_at, OneWalked}
use Rattle.mini_past.specs.SubstitutePast.{PastGone, PastRemoved}
use Rattle.mini_past.proofs.Holders.{Suiting, suiting_of, none_suiting, left_listed}

-- nothing stands at the end of another way
pub no_past_end : (S : BodySets) (W : Liberties) (a : Trees) (z : Way) (t : Tree) → (z ≡ way.Statements → ⊥) → (z ≡ way.Held → ⊥) → (z ≡ way.Head → ⊥) → HereWalked (past_ends S W) a z t t false
no_past_end S W a z t f g h = (refl, no_end (past_ends S W) a z t (λ read put is row. no_row a z f g h read put row))
  where
    no_row : (a : Trees) (z : Way) → (z ≡ way.Statements → ⊥) → (z ≡ way.Held → ⊥) → (z ≡ way.Head → ⊥) → (read put : Tree) → past_ends S W a z read put → ⊥
    no_row (o ▸ a) way.Statements f g h read put row = f refl
    no_row (o ▸ a) way.Held f g h read put row = g refl
    no_row (o ▸ a) way.Head f g h read put row = h refl
    no_row a z f g h read put row = absurd row

module _ (S : BodySets) (W : Liberties) (o : Tree) (a : Trees) where
  abbrev E : Trees → Way → Tree → Tree → Type 0
  E = past_ends S W

  abbrev out : Tree
  out = listed (o ▸ a)

  -- what stays a list
  abbrev IsList : Tree → Type 0
  IsList t = t ≡ listed (children t)

  end_of : (ts us : Trees) → Suiting (known_at S (o ▸ a)) W out ts us → PastEnd (known_at S (o ▸ a)) W (o ▸ a) (listed ts) (listed us)
  end_of ts us (inl r, s) = record { list = ts; left = us; row = inl r; var = s; shape = refl; written = refl }
  end_of ts us (inr r, s) = record { list = ts; left = us; row = inr r; var = s; shape = refl; written = refl }

  gone_here : (t u : Tree) → IsList t → PastGone (known_at S (o ▸ a)) W out t u → InStep E (o ▸ a) way.Statements t u × IsList u
  gone_here t u is g =
      let V = known_at S (o ▸ a) in
      let there = subst (λ v. PastGone V W out v u) is g in
      let left = left_listed V W out (children t) u there in
      let row = end_of (children t) (children u) (suiting_of V W out (children t) u there) in (
        record {
          place = here;
          end = way.Statements;
          read = t;
          put = u;
          way = refl;
          row = subst (λ us. E us way.Statements t u) (sym (append_none (o ▸ a))) (subst (λ v. PastEnd V W (o ▸ a) v u) (sym is) (subst (PastEnd V W (o ▸ a) (listed (children t))) (sym left) row));
          shape = refl;
          written = refl;
          below = λ z. absurd (true≢false (sym z));
        },
        left,
      )

  told : (ts us : Trees) → PastEnd (known_at S (o ▸ a)) W (o ▸ a) (listed ts) (listed us) → (vs : Trees) × Suiting (known_at S (o ▸ a)) W out ts vs
  told ts us r = (r.left, subst (λ vs. Suiting (known_at S (o ▸ a)) W out vs r.left) (sym (ap children r.shape)) (suiting r.list r.left r.row r.var))
    where
      suiting : (vs ws : Trees) (row : PastRow (known_at S (o ▸ a)) W out vs ws) → passes_var row ≡ true → Suiting (known_at S (o ▸ a)) W out vs ws
      suiting vs ws (inl row) v = (inl row, v)
      suiting vs ws (inr row) v = (inr row, v)

  here_walked : (t m : Tree) (c : Bool) → IsList t → PastRemoved (known_at S (o ▸ a)) W out t m c → HereWalked E (o ▸ a) way.Statements t m c
  here_walked t m true is r = several_over (PastGone (known_at S (o ▸ a)) W out) (InStep E (o ▸ a) way.Statements) IsList (λ z. z) gone_here t m is r
  here_walked t m false is r =
      let V = known_at S (o ▸ a) in
      let there = subst (λ v. PastRemoved V W out v m false) is r in
      (r.0, no_end E (o ▸ a) way.Statements t (λ read put f row. by there (subst (λ v. PastEnd V W (o ▸ a) v put) (sym f ∙ is) row)))
    where
      by : PastRemoved (known_at S (o ▸ a)) W out (listed (children t)) m false → {put : Tree} → PastEnd (known_at S (o ▸ a)) W (o ▸ a) (listed (children t)) put → ⊥
      by there {put} row = let (us, s) = told (children t) row.left (record { list = row.list; left = row.left; row = row.row; var = row.var; shape = row.shape; written = refl }) in none_suiting (known_at S (o ▸ a)) W out (children t) us there.1 s

  -- ---- a `var` alone

  -- what stays a list of one
  abbrev IsOne : Tree → Type 0
  IsOne t = t ≡ listed (part t 0 ▸ none)

  one_end : (t u : Tree) → Suiting (known_at S (o ▸ a)) W out (t ▸ none) (u ▸ none) → PastOneEnd (known_at S (o ▸ a)) W (o ▸ a) t u
  one_end t u (inl r, s) = record { row = inl r; var = s }
  one_end t u (inr r, s) = record { row = inr r; var = s }

  one_told : (t u : Tree) → PastOneEnd (known_at S (o ▸ a)) W (o ▸ a) t u → Suiting (known_at S (o ▸ a)) W out (t ▸ none) (u ▸ none)
  one_told t u r = by r.row r.var
    where
      by : (row : PastRow (known_at S (o ▸ a)) W out (t ▸ none) (u ▸ none)) → passes_var row ≡ true → Suiting (known_at S (o ▸ a)) W out (t ▸ none) (u ▸ none)
      by (inl row) v = (inl row, v)
      by (inr row) v = (inr row, v)

  -- where that is read so
  module _ (z : Way) (read_there : (t u : Tree) → PastOneEnd (known_at S (o ▸ a)) W (o ▸ a) t u ≡ E (o ▸ a) z t u) where
    one_gone : (t u : Tree) → IsOne t → PastGone (known_at S (o ▸ a)) W out t u → InStep E (o ▸ a) z (part t 0) (part u 0) × IsOne u
    one_gone t u is g =
        let V = known_at S (o ▸ a) in
        let h = part t 0 in
        let there = subst (λ v. PastGone V W out v u) is g in
        let suits = suiting_of V W out (h ▸ none) u there in
        let one = one_left V W out h (children u) suits.0 in
        let row = one_end h (part u 0) (subst (Suiting V W out (h ▸ none)) one suits) in (
          record {
            place = here;
            end = z;
            read = h;
            put = part u 0;
            way = same_itself z;
            row = subst (λ us. E us z h (part u 0)) (sym (append_none (o ▸ a))) (subst (λ R. R) (read_there h (part u 0)) row);
            shape = refl;
            written = refl;
            below = λ z. absurd (true≢false (sym z));
          },
          left_listed V W out (h ▸ none) u there ∙ ap listed one,
        )

    one_walked : (t m : Tree) (c : Bool) → PastRemoved (known_at S (o ▸ a)) W out (listed (t ▸ none)) m c → HereWalked E (o ▸ a) z t (part m 0) c
    one_walked t m true r = several_over (PastGone (known_at S (o ▸ a)) W out) (InStep E (o ▸ a) z) IsOne (λ v. part v 0) one_gone (listed (t ▸ none)) m refl r
    one_walked t m false r = (ap (λ v. part v 0) r.0, no_end E (o ▸ a) z t by)
      where
        by : (read put : Tree) → t ≡ read → E (o ▸ a) z read put → ⊥
        by read put is row = none_suiting (known_at S (o ▸ a)) W out (t ▸ none) (put ▸ none) r.1 (subst (λ v. Suiting (known_at S (o ▸ a)) W out (v ▸ none) (put ▸ none)) (sym is) (one_told read put (subst (λ R. R) (sym (read_there read put)) row)))

    no_var_walked : (t : Tree) → is_var t ≡ false → HereWalked E (o ▸ a) z t t false
    no_var_walked t f = (refl, no_end E (o ▸ a) z t by)
      where
        by : (read put : Tree) → t ≡ read → E (o ▸ a) z read put → ⊥
        by read put is row =
            let r = subst (λ R. R) (sym (read_there read put)) row in
            let next = (one_next (known_at S (o ▸ a)) W out read put r.row r.var).next in
            true≢false (sym (ap is_var next.shape) ∙ ap is_var (sym is) ∙ f)

-- as the code tells

pub no_list : (S : BodySets) (W : Liberties) (a : Trees) (t : Tree) → is_listed t ≡ false → HereWalked (past_ends S W) a way.Statements t t false
no_list S W a t f = (refl, no_end (past_ends S W) a way.Statements t (λ read put is row. true≢false (sym (list_there a read put row) ∙ sym (ap is_listed is) ∙ f)))
  where
    list_there : (a : Trees) (read put : Tree) → past_ends S W a way.Statements read put → is_listed read ≡ true
    list_there (o ▸ a) read put row = ap is_listed row.shape
    list_there none read put row = absurd row

pub none_above : (S : BodySets) (W : Liberties) (a : Trees) (z : Way) (t : Tree) → count a ≡ 0 → HereWalked (past_ends S W) a z t t false
none_above S W none z t e = (refl, no_end (past_ends S W) none z t (λ read put is row. absurd row))
none_above S W (o ▸ a) z t e = absurd (omega (arith, e))

pub here_past : (S : BodySets) (W : Liberties) (above t m : Tree) (c : Bool) → is_listed above ≡ true → is_listed t ≡ true → (count (children above) ≡ 0 → ⊥) → PastRemoved (known_at S (children above)) W above t m c → HereWalked (past_ends S W) (children above) way.Statements t m c
here_past S W above t m c e f some r = by (children above) some c (subst (λ o. PastRemoved (known_at S (children above)) W o t m c) (listed_is above e) r)
  where
    by : (a : Trees) → (count a ≡ 0 → ⊥) → (c : Bool) → PastRemoved (known_at S a) W (listed a) t m c → HereWalked (past_ends S W) a way.Statements t m c
    by (o ▸ a) some c r = here_walked S W o a t m c (listed_is t f) r
    by none some c r = absurd (some refl)

pub no_var : (S : BodySets) (W : Liberties) (a : Trees) (t : Tree) → is_var t ≡ false → OneWalked S W a t t false
no_var S W none t f = (none_above S W none way.Held t refl, none_above S W none way.Head t refl)
no_var S W (o ▸ a) t f = (no_var_walked S W o a way.Held (λ t u. refl) t f, no_var_walked S W o a way.Head (λ t u. refl) t f)

pub one_past : (S : BodySets) (W : Liberties) (above t l m : Tree) (c : Bool) → is_listed above ≡ true → l ≡ listed (t ▸ none) → (count (children above) ≡ 0 → ⊥) → PastRemoved (known_at S (children above)) W above l m c → (u : Tree) → u ≡ part m 0 → OneWalked S W (children above) t u c
one_past S W above t l m c e f some r u g = by (children above) some (subst₂ (λ o v. PastRemoved (known_at S (children above)) W o v m c) (listed_is above e) f r)
  where
    by : (a : Trees) → (count a ≡ 0 → ⊥) → PastRemoved (known_at S a) W (listed a) (listed (t ▸ none)) m c → OneWalked S W a t u c
    by none some r = absurd (some refl)
    by (o ▸ a) some r = subst (λ v. OneWalked S W (o ▸ a) t v c) (sym g) (one_walked S W o a way.Held (λ t u. refl) t m c r, one_walked S W o a way.Head (λ t u. refl) t m c r)
