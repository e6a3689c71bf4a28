use Rattle.std.proofs.Common.{sym, ap, ◌∙◌}
use Rattle.e57_nodes.specs.Shape.{children_of}
use Rattle.e57_nodes.specs.Fields.{child_named}
use Rattle.e57_tree.specs.Flat.{node_in}
use Rattle.std.specs.Option.{option_map}
use Rattle.e57_edits.proofs.Choosing.{none_chosen, some_chosen}
use Rattle.e57_edits.proofs.cloud.choose_fields.Goals as goal

pub returns-in_default : goal.returns-in_default
returns-in_default c = λ es rest parts last.
    none_chosen c.args.chosen.now c.args.raw.now c.args.node c.len-count.result es rest c.args.changes.now.items c.keep_until.new.changes.items c.keep_until.result c.requires.node c.len-count.ensures.len c.requires.behind parts last
    (sym (ap (option_map (node_in c.args.raw.now)) c.in_default.is) ∙ c.child_named.ensures.child ∙ ap (λ name. child_named name (children_of (node_in c.args.raw.now c.args.node))) c.as_slice.ensures)
    c.keep_until.ensures

pub returns : goal.returns
returns c = λ es rest parts last.
    some_chosen c.args.chosen.now c.args.raw.now c.args.node c.in-Some.prototype c.len-count.result es rest c.args.changes.now.items c.keep_until-2.new.changes.items c.choose_below.new.changes.items c.keep_until-3.new.changes.items
    c.keep_until-3.result c.requires.node c.len-count.ensures.len c.requires.behind parts last
    (sym (ap (option_map (node_in c.args.raw.now)) c.in-Some.is) ∙ c.child_named.ensures.child ∙ ap (λ name. child_named name (children_of (node_in c.args.raw.now c.args.node))) c.as_slice.ensures)
    c.in_ok-keep_until.ensures c.in_ok-choose_below.ensures c.keep_until-3.ensures
