-- What lies outside of the program, but for the words and `err`.
use Rattle.e57_base.specs.Count.{Rose}
use Rattle.e57_base.specs.Source.{SourceView}
use Rattle.e57_base.specs.Target.{TargetView}
use Rattle.e57_base.specs.Sink.{SinkView}

-- what the source, the target and `out` tell
pub record Outside : Type 0 where
  pub source : SourceView
  pub target : TargetView
  pub out : SinkView

abbrev pub outside : SourceView → TargetView → SinkView → Outside
outside source target out = record { source = source; target = target; out = out }

-- No call of the source, of the target or of `out` failed.
pub record NoCallFails (before after : Outside) : Type 0 where
  pub source_calls : ¬ Rose before.source.faults after.source.faults
  pub target_calls : ¬ Rose before.target.faults after.target.faults
  pub out_calls : ¬ Rose before.out.faults after.out.faults
