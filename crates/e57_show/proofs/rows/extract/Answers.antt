use Rattle.std.specs.Prelude.{Some, None}
use Rattle.e57_show.specs.Extract.{asked_by, rows_streamed}
use Rattle.e57_show.specs.Extracting.{selection_of}
use Rattle.e57_show.specs.Streaming.{StreamEnds}
use Rattle.e57_show.proofs.BlobShown.{judged_later}
use Rattle.e57_show.proofs.RowsShown.{asked-text, asked-rows, selects-of, not-selected, rows-end, rows-past}
use Rattle.e57_show.proofs.rows.extract.Goals as goal
use Rattle.e57_base.proofs.Options.{by_error}

pub returns-in_err-file-clause-asked : goal.returns-in_err-file-clause-asked
returns-in_err-file-clause-asked g c = asked-text c.args.pages.now (asked_by c.args.ask.now) (g.S.Source.view c.args.pages.now.source) (g.S.Source.view c.open.new.pages.source) c.open.ensures.asked

pub returns-in_err-selected-clause-asked : goal.returns-in_err-selected-clause-asked
returns-in_err-selected-clause-asked g c = asked-text c.args.pages.now (asked_by c.args.ask.now) (g.S.Source.view c.args.pages.now.source) (g.S.Source.view c.open.new.pages.source) c.open.ensures.asked

pub returns-in_err-selected-clause-ends : goal.returns-in_err-selected-clause-ends
returns-in_err-selected-clause-ends g c =
    let asked = asked_by c.args.ask.now in
    let old = g.S.Source.view c.args.pages.now.source in
    let new = g.S.Source.view c.open.new.pages.source in
    let out = g.O.Sink.view c.args.out.now in
    by_error (λ _. StreamEnds (rows_streamed asked) old new out out None) (λ fault. StreamEnds (rows_streamed asked) old new out out (Some fault)) c.in_err-selected.field-0.0 c.from_residual-in_err-selected.result c.from_residual-in_err-selected.ensures.1
    (not-selected asked c.in_ok-file.file old new out c.in_err-selected.field-0.0 c.in_err-selected.ensures c.in_ok-file.ensures.opened)

pub returns-clause-asked : goal.returns-clause-asked
returns-clause-asked g c =
    let asked = asked_by c.args.ask.now in
    let old = g.S.Source.view c.args.pages.now.source in
    let mid = g.S.Source.view c.open.new.pages.source in
    let new = g.S.Source.view c.put_selected.new.pages.source in
    let given = c.in_ok-selected.selected in
    let is = c.in_ok-selected.ensures in
    let cloud = is.of_cloud in
    asked-rows c.args.pages.now asked (selection_of given cloud.fields) old mid new c.in_ok-file.ensures.asked (selects-of asked c.in_ok-file.file given old.held is c.in_ok-file.ensures.opened)
    (c.put_selected.ensures.met cloud.are_nodes.tree cloud.are_nodes.in_preorder cloud.fields (cloud.has_fields cloud.are_nodes.tree cloud.are_nodes.in_preorder))

pub returns-clause-place : goal.returns-clause-place
returns-clause-place g c =
    let given = c.in_ok-selected.selected in
    let cloud = c.in_ok-selected.ensures.of_cloud in
    let mid = g.S.Source.view c.open.new.pages.source in
    let new = g.S.Source.view c.put_selected.new.pages.source in
    let out = g.O.Sink.view c.args.out.now in
    let out' = g.O.Sink.view c.put_selected.new.out in
    judged_later c.args.pages.now c.open.new.pages c.put_selected.new.pages c.in_ok-file.file c.put_selected.result out out' c.in_ok-file.ensures.place
    (rows-past (selection_of given cloud.fields) mid new out out' c.put_selected.result (c.put_selected.ensures.puts cloud.are_nodes.tree cloud.are_nodes.in_preorder cloud.fields (cloud.has_fields cloud.are_nodes.tree cloud.are_nodes.in_preorder)))

pub returns-clause-ends : goal.returns-clause-ends
returns-clause-ends g c =
    let asked = asked_by c.args.ask.now in
    let old = g.S.Source.view c.args.pages.now.source in
    let mid = g.S.Source.view c.open.new.pages.source in
    let new = g.S.Source.view c.put_selected.new.pages.source in
    let out = g.O.Sink.view c.args.out.now in
    let out' = g.O.Sink.view c.put_selected.new.out in
    let given = c.in_ok-selected.selected in
    let is = c.in_ok-selected.ensures in
    let cloud = is.of_cloud in
    let asks = c.in_ok-file.ensures.asked.3 in
    rows-end asked c.in_ok-file.file (selection_of given cloud.fields) old mid new out out' c.put_selected.result c.one_answer.ensures.either c.one_answer.ensures.tree asks.same.held asks.faults c.in_ok-file.ensures.opened
    (selects-of asked c.in_ok-file.file given old.held is c.in_ok-file.ensures.opened)
    (c.put_selected.ensures.puts cloud.are_nodes.tree cloud.are_nodes.in_preorder cloud.fields (cloud.has_fields cloud.are_nodes.tree cloud.are_nodes.in_preorder))
