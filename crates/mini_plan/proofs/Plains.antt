-- The table, put together of its parts.
use Rattle.std.proofs.Common.{◌≡◌, ℕ, List, [], ◌∷◌, Bool, true, false, refl, Option, Some, None}
use Rattle.std.specs.Prelude.{is_some, option_map, unwrap_or, codes}
use Rattle.serde_json.specs.Data.{Data, Items, no_items}
use Rattle.mini_model.specs.declared.shape.Shape.{Shape}
use Rattle.mini_model.specs.declared.shape.Shape.TheVariants as shape
use Rattle.mini_accept.specs.declared.kind.Kind.{Kind}
use Rattle.mini_accept.specs.declared.kind.Kind.TheVariants as kind
use Rattle.mini_accept.specs.WellShaped as shaped
use Rattle.mini_accept.specs.WellShaped.{in_body, nested}
use Rattle.mini_accept.specs.Places.{Place}
use Rattle.mini_accept.specs.Fields.{◌>>=◌, list_at}
use Rattle.mini_accept.specs.Plans.{Plan, Child, node_of, child, optional, ItemPart, each, or_hole, list}
use Rattle.mini_accept.specs.Expressions.{argument}
use Rattle.mini_accept.specs.Entries.{entry}
use Rattle.mini_plan.specs.Plains.{plain_shape, plain_children, has_its_list, other_entry}

abbrev pub by_parts : Bool → Option Shape → List Child → Option Plan → Option Plan
by_parts false o cs x = None
by_parts true None cs x = x
by_parts true (Some h) cs x = node_of h cs

listed : (h : Shape) (f : Child → List Child) (part : ItemPart) (key : List ℕ) (x : Option Plan) (o : Option Items) → by_parts (is_some o) (Some h) (f (list part key (unwrap_or o no_items))) x ≡ option_map (list part key) o >>= (λ c. node_of h (f c))
listed h f part key x None = refl
listed h f part key x (Some ds) = refl

pub entry_told : (k : Kind) (p : Place) (d : Data) → by_parts (has_its_list k d) (plain_shape k) (plain_children k d) (other_entry k p d) ≡ entry k p d
entry_told kind.SwitchStatement p d = listed shape.SwitchStatement (λ (c : Child). child (codes "discriminant") shaped.an_expression ∷ c ∷ []) (each shaped.a_case) (codes "cases") (other_entry kind.SwitchStatement p d) (list_at (codes "cases") d)
entry_told kind.SwitchCase p d = listed shape.SwitchCase (λ (c : Child). optional (codes "test") shaped.an_expression d ∷ c ∷ []) (each (shaped.a_statement nested)) (codes "consequent") (other_entry kind.SwitchCase p d) (list_at (codes "consequent") d)
entry_told kind.ClassBody p d = listed shape.ClassBody (λ (c : Child). c ∷ []) (each shaped.a_class_member) (codes "body") (other_entry kind.ClassBody p d) (list_at (codes "body") d)
entry_told kind.StaticBlock p d = listed shape.StaticBlock (λ (c : Child). c ∷ []) (each (shaped.a_statement in_body)) (codes "body") (other_entry kind.StaticBlock p d) (list_at (codes "body") d)
entry_told kind.ArrayExpression p d = listed shape.ArrayExpression (λ (c : Child). c ∷ []) (or_hole argument) (codes "elements") (other_entry kind.ArrayExpression p d) (list_at (codes "elements") d)
entry_told kind.ObjectExpression p d = listed shape.ObjectExpression (λ (c : Child). c ∷ []) (each shaped.an_object_property) (codes "properties") (other_entry kind.ObjectExpression p d) (list_at (codes "properties") d)
entry_told kind.NewExpression p d = listed shape.NewExpression (λ (c : Child). child (codes "callee") shaped.an_expression ∷ c ∷ []) argument (codes "arguments") (other_entry kind.NewExpression p d) (list_at (codes "arguments") d)
entry_told k p d = refl
