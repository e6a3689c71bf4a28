use Rattle.std.proofs.Common.{◌≡◌, ◌∙◌, List, subst, sym, ap, arith}
use Rattle.e57_layout.specs.declared.field.Field.{Field}
use Rattle.e57_layout.specs.Written.{physical, section_spelled}
use Rattle.e57_page_out.specs.Sequences.{Puts}
use Rattle.e57_chunk_out.specs.CloudCalls.{kinds_in, new_cloud}
use Rattle.e57_chunk_out.specs.Standing.{Cloud}
use Rattle.e57_trial.specs.Content.{columns_from}
use Rattle.e57_trial.specs.Records.{trial_kinds}
use Rattle.e57_trial.proofs.Paging.{puts_no_section, puts_section}
use Rattle.e57_trial.proofs.Trees.{its_fields, one_cloud}
use Rattle.e57_trial.proofs.section.put_section.Goals as goal

pub returns-then-count-eq0 : goal.returns-then-count-eq0
returns-then-count-eq0 g c =
    let r = c.requires in
    puts_no_section g.T.Target.view c.args.chunk c.args.start c.args.count r.count c.args.out.now c.size-size.ensures.state r.begun c.if-count-eq0.true

pub fields-requires : goal.fields-requires
fields-requires g c = one_cloud c.args.count c.requires.count c.args.tree.now c.requires.tree

pub put_cloud-requires-clause-fresh : goal.put_cloud-requires-clause-fresh
put_cloud-requires-clause-fresh g c =
    let fields = its_fields c.args.count c.requires.count c.args.tree.now c.requires.tree c.fields.result.now c.fields.ensures.fields in
    let new : c.in-Ok.cloud ≡ new_cloud trial_kinds c.args.chunk c.args.count = c.in-Ok.ensures ∙ ap (λ (fs : List Field). new_cloud (kinds_in fs) c.args.chunk c.args.count) fields in
    new ∙ ap (λ n. new_cloud trial_kinds n c.args.count) (sym (ap (λ (x : Cloud). x.chunk) new))

pub returns : goal.returns
returns g c =
    let r = c.requires in
    let some = c.if-count-eq0.false in
    let chunk : c.in-Ok.cloud.chunk ≡ c.args.chunk = ap (λ (x : Cloud). x.chunk) c.in-Ok.ensures in
    puts_section g.T.Target.view c.args.chunk c.args.start c.args.count r.count c.args.out.now c.size-size.ensures.state r.begun c.put_cloud.new.out c.fresh_page.new.self c.in-Ok-put_cloud.offset (omega (arith, some))
    (subst (λ n. (c.in-Ok-put_cloud.offset ≡ physical c.args.out.now.size) × Puts g.T.Target.view c.args.out.now (section_spelled c.args.out.now.size trial_kinds n c.args.count (columns_from c.args.start 0 c.args.count)) c.put_cloud.new.out) chunk c.in-Ok-put_cloud.ensures)
    c.in_default.ensures.ended
