use Rattle.std.proofs.Common.{◌∙◌, subst, ap, List, ℕ}
use Rattle.std.specs.Prelude.{MatchResult, Some, None}
use Rattle.e57_base.specs.Sink.{Grows, GrowsByFront}
use Rattle.e57_base.specs.declared.fault.RunFault.TheVariants.{Out}
use Rattle.e57_layout.specs.declared.field.Field.{Field}
use Rattle.e57_tree.specs.Held.{cloud_fields}
use Rattle.e57_rows.specs.Rows.{heading_text}
use Rattle.e57_show.specs.Streaming.{StreamEnds}
use Rattle.e57_show.specs.Extracting.{selection_of, selection_streamed}
use Rattle.e57_show.proofs.Records.{heading-rows, heading-cut, same-fields}
use Rattle.e57_show.proofs.rows.put_selected.Goals as goal

pub returns-in-Ok-clause-puts : goal.returns-in-Ok-clause-puts
returns-in-Ok-clause-puts g c = λ e same fields has.
    let is = same-fields (cloud_fields e) c.args.selected.now.k c.fields-fields.result.now fields (c.fields-fields.ensures.fields e (c.tree.ensures ∙ same)) has in
    subst (λ (fs : List Field). MatchResult c.put_records.result
    (λ _. StreamEnds (selection_streamed (selection_of c.args.selected.now fs)) (g.S.Source.view c.args.pages.now.source) (g.S.Source.view c.put_records.new.pages.source) (g.O.Sink.view c.args.out.now) (g.O.Sink.view c.put_records.new.out) None)
    (λ fault. StreamEnds (selection_streamed (selection_of c.args.selected.now fs)) (g.S.Source.view c.args.pages.now.source) (g.S.Source.view c.put_records.new.pages.source) (g.O.Sink.view c.args.out.now) (g.O.Sink.view c.put_records.new.out) (Some fault))) is
    (heading-rows (selection_of c.args.selected.now c.fields-fields.result.now) (g.S.Source.view c.args.pages.now.source) (g.S.Source.view c.put_records.new.pages.source) (g.O.Sink.view c.args.out.now) (g.O.Sink.view c.put.new.self) (g.O.Sink.view c.put_records.new.out) c.put_records.result
    (subst (λ (t : List ℕ). Grows (g.O.Sink.view c.args.out.now).written t (g.O.Sink.view c.put.new.self).written) (c.deref-2.ensures.value ∙ c.in_ok-text.ensures ∙ ap (λ (ns : List ℕ). heading_text c.fields-fields.result.now ns) c.deref.ensures.value) c.in-Ok.ensures.written)
    c.put.ensures.faults c.put_records.ensures.puts)

pub returns-clause-puts : goal.returns-clause-puts
returns-clause-puts g c = λ e same fields has.
    let is = same-fields (cloud_fields e) c.args.selected.now.k c.fields-fields.result.now fields (c.fields-fields.ensures.fields e (c.tree.ensures ∙ same)) has in
    subst (λ (fs : List Field). StreamEnds (selection_streamed (selection_of c.args.selected.now fs)) (g.S.Source.view c.args.pages.now.source) (g.S.Source.view c.args.pages.now.source) (g.O.Sink.view c.args.out.now) (g.O.Sink.view c.put.new.self) (Some Out)) is
    (heading-cut (selection_of c.args.selected.now c.fields-fields.result.now) (g.S.Source.view c.args.pages.now.source) (g.O.Sink.view c.args.out.now) (g.O.Sink.view c.put.new.self) c.in-Err.ensures.cause
    (subst (λ (t : List ℕ). GrowsByFront (g.O.Sink.view c.args.out.now).written t (g.O.Sink.view c.put.new.self).written) (c.deref-2.ensures.value ∙ c.in_ok-text.ensures ∙ ap (λ (ns : List ℕ). heading_text c.fields-fields.result.now ns) c.deref.ensures.value) c.in-Err.ensures.written))
