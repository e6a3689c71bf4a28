use Rattle.std.proofs.Common.{refl, sym, subst}
use Rattle.e57_trial.specs.Accepted.{IsWant}
use Rattle.e57_trial.proofs.Opening.{want-of-check}
use Rattle.e57_trial.proofs.file.check_accepted.Goals as goal

pub want-requires : goal.want-requires
want-requires c =
    subst IsWant (sym c.from.ensures)
    (want-of-check c.one_verdict.ensures.one c.args.pages.now.source.bytes c.args.pages.now.source c.check.new.pages.source c.in-Err.fault c.requires.accepted (record { is_open = c.requires.open; same_bytes = refl })
    c.in-Err.ensures.verdict.cause)
