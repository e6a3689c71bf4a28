use Rattle.std.proofs.Common.{◌∙◌, length, ap}
use Rattle.e57_base.specs.BytesSource.{BytesState, after_open, initial_bytes}
use Rattle.e57_trial.proofs.Opening.{not-refused, now-open, opened-bytes}
use Rattle.e57_trial.proofs.file.open_accepted.Goals as goal

pub unreachable-requires-in-Err : goal.unreachable-requires-in-Err
unreachable-requires-in-Err c =
    let made = c.new-source.ensures ∙ ap initial_bytes c.into_bytes.ensures in
    not-refused c.args.bytes c.in-Ok.length c.open.new.self c.in-Err._refusal.0 c.in-Err._refusal.1 c.requires
    (opened-bytes c.open.new.self c.args.bytes (c.open.ensures.after ∙ ap after_open made))
    (c.in-Ok.ensures.answer ∙ ap (λ (s : BytesState). length s.bytes) made) c.in-Err.ensures.opened

pub returns : goal.returns
returns c =
    let made = c.new-source.ensures ∙ ap initial_bytes c.into_bytes.ensures in
    now-open c.args.bytes c.in-Ok.length c.in-Ok-open.pages.length c.in-Ok-open.pages.header c.open.new.self c.in-Ok-open.pages.source
    (opened-bytes c.open.new.self c.args.bytes (c.open.ensures.after ∙ ap after_open made)) c.in-Ok-open.ensures.opened
