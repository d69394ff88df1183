use Rattle.std.proofs.Common.{◌≡◌, [], ap, sym, ◌∙◌, arith, rules}
use Rattle.std.proofs.lemmas.List.{nil_from_length}
use Rattle.serde_json.specs.Data.{put, object}
use Rattle.serde_json.specs.declared.value.Value.{the_lemmas}
use Rattle.serde_json.specs.declared.value.Value.TheVariants as value
use Rattle.serde_json.specs.View.{view, members_view}
use Rattle.mini_writer.specs.Keys.{with_members}
use Rattle.mini_writer.proofs.members.filled.Goals as goal

pub loop-member-preserved : goal.loop-member-preserved
loop-member-preserved c =
    let ms = members_view c.loop-member.object.entries in
    let rest = c.next.new.self.rest.items in
    ap (with_members rest) (c.in_ok-put.ensures.ok ∙ ap (λ k. put k (view c.in-Some.member.1) ms) c.key_text.ensures)
    ∙ (ap (λ xs. with_members xs ms) (sym c.in-Some.ensures.steps.0) ∙ c.loop-member.invariant)

pub returns : goal.returns
returns c =
    let left = c.loop-member.member-iterator.rest in
    let told : view (value.Object c.loop-member.object) ≡ object (members_view c.loop-member.object.entries) = search (rules, the_lemmas) in
    let none : left.items ≡ [] = nil_from_length left.items (omega (arith, left.ok.0, c.in-None.ensures.steps.0)) in
    told ∙ ap object (sym (ap (λ xs. with_members xs (members_view c.loop-member.object.entries)) none) ∙ c.loop-member.invariant)
