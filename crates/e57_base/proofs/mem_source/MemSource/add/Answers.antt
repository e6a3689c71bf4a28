use Rattle.std.proofs.Common.{IsNone, ap, sym, subst, ◌∙◌}
use Rattle.std.specs.FinMap.{get}
use Rattle.e57_base.specs.Files.{stock_of, bytes_at}
use Rattle.e57_base.specs.MemSource.{SourceState, with_file}
use Rattle.e57_base.proofs.NamedFiles.{stock_push, bytes_at_push, with_file_state}
use Rattle.e57_base.proofs.mem_source.MemSource.add.Goals as goal

pub returns-clause-ok : goal.returns-clause-ok
returns-clause-ok c =
    let a = c.self.inside in
    let new = c.push.new.self.items in
    let file = c.in_ok-file.file in
    let name = c.args.name.now in
    let bytes = c.args.bytes.items in
    let before : SourceState = record { files = stock_of a.files.items; held = bytes_at a.files.items a.current; asked = a.log.items; told = a.is_log_whole; room = a.log_room; calls = a.calls; opened = a.opened; missed = a.missed; faults = a.faults } in
    let absent = subst (λ (source : SourceState). IsNone (get source.files name)) (sym c.self.view_is) c.requires in
    let stock = stock_push a.files.items new file name bytes c.in_ok-push.ensures.items c.in_ok-file.ensures.name (ap (λ v. v.items) c.in_ok-file.ensures.bytes) absent in
    let held = bytes_at_push a.files.items new file a.current c.in_ok-push.ensures.items c.self.invariant.1 in
    with_file_state before (stock_of new) (bytes_at new a.current) name bytes stock held ∙ ap (with_file name bytes) c.self.view_is
