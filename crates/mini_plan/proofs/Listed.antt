-- A child that is a list, where the list is there and where it isn't.
use Rattle.std.proofs.Common.{◌≡◌, ℕ, List, Bool, true, false, refl, sym, Option, Some, None}
use Rattle.std.specs.Prelude.{is_some, option_map, unwrap_or, if◌then◌else◌}
use Rattle.serde_json.specs.Data.{Data, Items, no_items}
use Rattle.mini_accept.specs.Fields.{list_at}
use Rattle.mini_accept.specs.Plans.{Plan, ItemPart, list, list_child}
use Rattle.mini_plan.specs.Views.{items_at}

there_by : (part : ItemPart) (key : List ℕ) (o : Option Items) → is_some o ≡ true → option_map (list part key) o ≡ Some (list part key (unwrap_or o no_items))
there_by part key None e = absurd (cc e)
there_by part key (Some ds) e = refl

pub there : (part : ItemPart) (key : List ℕ) (d : Data) → is_some (list_at key d) ≡ true → list_child part key d ≡ Some (list part key (items_at key d))
there part key d e = there_by part key (list_at key d) e

missing_by : (part : ItemPart) (key : List ℕ) (o : Option Items) → is_some o ≡ false → option_map (list part key) o ≡ None
missing_by part key None e = refl
missing_by part key (Some ds) e = absurd (cc e)

pub missing : (part : ItemPart) (key : List ℕ) (d : Data) → is_some (list_at key d) ≡ false → list_child part key d ≡ None
missing part key d e = missing_by part key (list_at key d) e

pub none_either : (b : Bool) (x y : Option Plan) → x ≡ None → y ≡ None → None ≡ (if b then x else y)
none_either true x y hx hy = sym hx
none_either false x y hx hy = sym hy
