-- One walk over a tree for a name: it tells whether the tree mentions the name, and what is asked of
-- a tree that does; or it puts another tree where the name is read.
use Rattle.std.specs.Prelude.{◌≡◌, ◌<◌, ℕ, Bool, true, false, Option, Some, None}
use Rattle.mini_model.specs.declared.name.Name.{Name}
use Rattle.mini_model.specs.Tree.{Tree, Trees, count, child_or_absent}
use Rattle.mini_rows.specs.Unused.{names, any_names, put_first, put_among}
use Rattle.mini_unused.specs.SubstituteSingleUse.{mention_place}

-- of a tree that mentions the name or not, and of which something is so or not
abbrev pub Looked : Option Bool → Bool → Bool → Type 0
Looked (Some b) named so = (named ≡ true) × (b ≡ so)
Looked None named so = named ≡ false

-- of some parts: the place of the first that mentions the name, and whether something is so of a tree
-- at that place
abbrev pub LookedAlong : (ℕ → Tree → Bool) → Name → Trees → Option (ℕ × Bool) → Type 0
LookedAlong f x ts (Some (i, b)) = (i < count ts) × (i ≡ mention_place x ts) × (b ≡ f i (child_or_absent ts i))
LookedAlong f x ts None = any_names x ts ≡ false

-- r is put where t mentions the name, and that makes u; or it comes back, and u is t
abbrev pub Put : Name → Tree → Tree → Tree → Option Tree → Type 0
Put x r t u None = (names x t ≡ true) × (u ≡ put_first x r t)
Put x r t u (Some s) = (names x t ≡ false) × (u ≡ t) × (s ≡ r)

-- so it is put in some parts
abbrev pub PutAlong : Name → Tree → Trees → Trees → Option Tree → Type 0
PutAlong x r ts us None = (any_names x ts ≡ true) × (us ≡ put_among x r ts)
PutAlong x r ts us (Some s) = (any_names x ts ≡ false) × (us ≡ ts) × (s ≡ r)
