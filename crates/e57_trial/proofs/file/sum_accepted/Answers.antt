use Rattle.std.proofs.Common.{◌/◌, refl, sym, subst}
use Rattle.e57_trial.specs.Accepted.{IsWant}
use Rattle.e57_trial.proofs.Opening.{want-of-check}
use Rattle.e57_trial.proofs.Reading.{cloud-there, total-is, want-is}
use Rattle.e57_trial.proofs.file.sum_accepted.Goals as goal

pub want-requires : goal.want-requires
want-requires c =
    let file = c.args.pages.now.source.bytes in
    subst IsWant (sym c.from.ensures)
    (want-of-check c.one_verdict.ensures.one file c.args.pages.now.source c.judge.new.pages.source c.in-Err.fault (c.requires.cloud.1.content, c.requires.cloud.1.of_file) (record { is_open = c.requires.open; same_bytes = refl })
    c.in-Err.ensures.verdict.cause)

pub read_sum-requires : goal.read_sum-requires
read_sum-requires c = record {
  cloud = λ e same.
      cloud-there c.one_content.ensures.one c.args.pages.now.source.bytes c.args.pages.now.source c.judge.new.pages.source c.in-Ok.file c.requires.cloud.0 (record { is_open = c.requires.open; same_bytes = refl })
      c.in-Ok.ensures.verdict.accepts.source.asks.same c.in-Ok.ensures.verdict.file c.requires.cloud.1 e same;
}

pub returns-in-Ok-read_sum-clause-sum : goal.returns-in-Ok-read_sum-clause-sum
returns-in-Ok-read_sum-clause-sum c = λ columns is.
    total-is c.one_content.ensures.one c.args.pages.now.source.bytes c.args.pages.now.source c.judge.new.pages.source c.in-Ok.file columns (record { is_open = c.requires.open; same_bytes = refl })
    c.in-Ok.ensures.verdict.accepts.source.asks.same c.in-Ok.ensures.verdict.file is (c.judge.new.pages.length / 1024) c.in-Ok-read_sum.total c.read_sum.new.pages.source c.in-Ok-read_sum.ensures.sum

pub want-requires-in-Err-read_sum : goal.want-requires-in-Err-read_sum
want-requires-in-Err-read_sum c =
    subst IsWant (sym c.from-in-Err-read_sum.ensures)
    (want-is c.one_content.ensures.one c.args.pages.now.source.bytes c.args.pages.now.source c.judge.new.pages.source c.in-Ok.file c.requires.cloud.0 (record { is_open = c.requires.open; same_bytes = refl })
    c.in-Ok.ensures.verdict.accepts.source.asks.same c.in-Ok.ensures.verdict.file c.requires.cloud.1 (c.judge.new.pages.length / 1024) c.in-Err-read_sum.fault c.read_sum.new.pages.source c.in-Err-read_sum.ensures.sum)
