-- Whether a set of symbols may go in rounds, as the code asks it.
use Rattle.std.specs.Prelude.{ℕ, zero, suc, nat_le, Bool, true, not, ◌&&◌, ◌||◌, List, [], ◌∷◌}
use Rattle.mini_model.specs.declared.name.Name.{Name}
use Rattle.mini_model.specs.declared.shape.Shape.{Shape}
use Rattle.mini_model.specs.declared.shape.Shape.TheVariants as shape
use Rattle.mini_model.specs.Tree.{Tree, Trees, node, none, ◌▸◌, children, child_or_absent, shape_of}
use Rattle.mini_node.specs.Children.{names_of, rest_children}
use Rattle.mini_dead.specs.Pruned.{Role, StatementList, DeclaratorList, spot_below}
use Rattle.mini_dead.specs.Dead.{has_name}
use Rattle.mini_dead.specs.Drops.{round_of}
use Rattle.mini_dead.specs.Marked.{may_go}
use Rattle.mini_drop.specs.Asked.{items_of}

-- the round of the one name
abbrev pub first_round : (ℕ → ℕ) → List Name → ℕ
first_round rounds (x ∷ []) = round_of rounds x
first_round rounds xs = 0

module _ (S : ℕ → Bool) (rounds : ℕ → ℕ) where
  -- a name goes after a round, if it goes
  abbrev pub name_later : ℕ → Name → Bool
  name_later k x = not (has_name S x) || nat_le (suc k) (round_of rounds x)

  abbrev pub names_later : ℕ → List Name → Bool
  names_later k [] = true
  names_later k (x ∷ xs) = name_later k x && names_later k xs

  abbrev pub own_later : ℕ → Shape → List Name → Bool
  own_later k shape.Identifier xs = names_later k xs
  own_later k h xs = true

  -- so does each name that a tree refers to
  abbrev mutual
    pub later_in : ℕ → Tree → Bool
    later_in k (node h xs n ts) = own_later k h xs && all_later k ts

    pub all_later : ℕ → Trees → Bool
    all_later k none = true
    all_later k (t ▸ ts) = later_in k t && all_later k ts

  -- the text of a declarator, of several, and of an item refers to later rounds
  abbrev pub declarator_later : Tree → Bool
  declarator_later t = later_in (first_round rounds (names_of (child_or_absent (children t) 0))) (child_or_absent (children t) 1)

  abbrev pub declarators_later : Trees → Bool
  declarators_later none = true
  declarators_later (t ▸ ts) = declarator_later t && declarators_later ts

  abbrev pub item_later : Shape → Trees → Bool
  item_later (shape.Function true is_generator directives) ts = all_later (first_round rounds (names_of (child_or_absent ts 0))) (rest_children 1 ts)
  item_later (shape.VariableDeclaration k) ts = declarators_later (children (child_or_absent ts 0))
  item_later h ts = true

  abbrev pub part_later : Role → Tree → Bool
  part_later StatementList t = item_later (shape_of t) (children t)
  part_later (DeclaratorList lexical) t = declarator_later t
  part_later r t = true

  -- of a part that is so many items
  abbrev pub part_may_go : ℕ → Bool → Bool → Bool
  part_may_go zero stays goes = stays
  part_may_go (suc n) stays goes = goes

  -- whether a part of a list may go, or whether what goes in it may, where it stays
  abbrev pub part_goes : Role → ℕ → Tree → Bool
  part_goes r i t = part_may_go (items_of S r t) (may_go S rounds (spot_below r i) t) (part_later r t)
