-- What a child of a plan is, as the definitions have it.
use Rattle.serde_json.specs.View.{items_view}
use Rattle.mini_accept.specs.Plans.{Child, one, list}
use Rattle.mini_plan.specs.Views.{part_of, item_of}
use Rattle.mini_estree.specs.declared.parts.Form as declared
use Rattle.mini_estree.specs.declared.parts.Form.TheVariants.{One, Many}

abbrev pub child_of_form : declared.Form → Child
child_of_form (One x) = one (part_of x)
child_of_form (Many items key v) = list (item_of items) key.now (items_view v.now)
