-- What is written for a `for` a part of whose head does nothing is what a row says.
use Rattle.std.proofs.Common.{◌≡◌, zero, Bool, true, false, [], refl, ap, subst, ◌∙◌, inl, inr}
use Rattle.std.specs.Prelude.{◌⊎◌, ◌||◌, Some, None, if◌then◌else◌}
use Rattle.std.proofs.lemmas.Bool.{and_parts, false≢true}
use Rattle.mini_model.specs.declared.shape.Shape.TheVariants as shape
use Rattle.mini_model.specs.Tree.{Tree, node, none, ◌▸◌}
use Rattle.mini_node.specs.Children.{part}
use Rattle.mini_rows.specs.Lists.{for_loop}
use Rattle.mini_rows.specs.ForParts.{is_idle, Row22Init, Row22Update}
use Rattle.mini_fold.specs.RemoveIdleHead.{is_for, begins_idly, turns_idly, has_idle_head, without, written}

pub for_is : (t : Tree) → is_for t ≡ true → t ≡ for_loop (part t 0) (part t 1) (part t 2) (part t 3)
for_is (node shape.ForStatement [] zero (a ▸ (b ▸ (c ▸ (d ▸ none))))) e = refl
for_is t e = absurd (false≢true e)

init_row : (n : Tree) → begins_idly n ≡ true → Row22Init n (without 0 n)
init_row n h =
    let (kind, idle) = and_parts (is_for n) (is_idle (part n 0)) h in
    record { init = part n 0; test = part n 1; update = part n 2; body = part n 3; idle = idle; shape = for_is n kind; written = ap (without 0) (for_is n kind) }

update_row : (n : Tree) → turns_idly n ≡ true → Row22Update n (without 2 n)
update_row n h =
    let (kind, idle) = and_parts (is_for n) (is_idle (part n 2)) h in
    record { init = part n 0; test = part n 1; update = part n 2; body = part n 3; idle = idle; shape = for_is n kind; written = ap (without 2) (for_is n kind) }

pub head_row : (n w : Tree) → written n ≡ Some w → Row22Init n w ⊎ Row22Update n w
head_row n w e = go (begins_idly n) (turns_idly n) refl refl e
  where
    go : (b c : Bool) → begins_idly n ≡ b → turns_idly n ≡ c → (if b then Some (without 0 n) else (if c then Some (without 2 n) else None)) ≡ Some w → Row22Init n w ⊎ Row22Update n w
    go true c h k e = let is : without 0 n ≡ w = cc e in inl (subst (Row22Init n) is (init_row n h))
    go false true h k e = let is : without 2 n ≡ w = cc e in inr (subst (Row22Update n) is (update_row n k))
    go false false h k e = absurd (cc e)

-- where one of both tests holds something is written
head_by : (b c : Bool) (x y : Tree) → b || c ≡ true → (if b then Some x else (if c then Some y else None)) ≡ None → ⊥
head_by true c x y h e = cc e
head_by false true x y h e = cc e
head_by false false x y h e = cc h

pub head_there : (n : Tree) → has_idle_head n ≡ true → written n ≡ None → ⊥
head_there n h e = head_by (begins_idly n) (turns_idly n) (without 0 n) (without 2 n) h e

-- a row says that one does

first_of_both : (b c : Bool) → b ≡ true → b || c ≡ true
first_of_both true c e = refl
first_of_both false c e = absurd (cc e)

second_of_both : (b c : Bool) → c ≡ true → b || c ≡ true
second_of_both true c e = refl
second_of_both false c e = e

pub init_idle : (n w : Tree) → Row22Init n w → has_idle_head n ≡ true
init_idle n w r = first_of_both (begins_idly n) (turns_idly n) (ap begins_idly r.shape ∙ r.idle)

pub update_idle : (n w : Tree) → Row22Update n w → has_idle_head n ≡ true
update_idle n w r = second_of_both (begins_idly n) (turns_idly n) (ap turns_idly r.shape ∙ r.idle)
