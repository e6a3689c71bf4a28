use Rattle.std.proofs.Common.{ℕ, ◌-◌, sym, ap, subst, ◌∙◌, arith}
use Rattle.e57_elements.specs.Builder.{IsBodyFailure, take_fault}
use Rattle.e57_elements.proofs.Reached.{reached_start, reached_next, not_taken, answered, told, none_next, some_next, none_same, some_shorter}
use Rattle.e57_elements.proofs.read.read_pieces.Goals as goal

pub loop-error-init : goal.loop-error-init
loop-error-init c = (reached_start c.args.pieces c.new-builder.result c.new-builder.ensures, c.requires)

pub returns-in-Ok-None-clause-found : goal.returns-in-Ok-None-clause-found
returns-in-Ok-None-clause-found c =
    (answered c.args.pieces c.loop-error.pieces c.loop-error.builder c.args.len c.finish.result c.loop-error.invariant.0 (none_next c.in-Ok-None.field-0 c.loop-error.pieces c.next.new.self c.in-Ok-None.field-0-is c.in-Ok-None.ensures.next)
    (told c.loop-error.pieces c.next.new.self c.loop-error.builder c.args.len c.len.result c.is_empty.result c.finish.result c.is_empty.ensures (none_same c.in-Ok-None.field-0 c.loop-error.pieces c.next.new.self c.in-Ok-None.field-0-is c.in-Ok-None.ensures.none) c.len.ensures c.finish.ensures)).0

pub returns-in-Ok-None-clause-fault : goal.returns-in-Ok-None-clause-fault
returns-in-Ok-None-clause-fault c =
    (answered c.args.pieces c.loop-error.pieces c.loop-error.builder c.args.len c.finish.result c.loop-error.invariant.0 (none_next c.in-Ok-None.field-0 c.loop-error.pieces c.next.new.self c.in-Ok-None.field-0-is c.in-Ok-None.ensures.next)
    (told c.loop-error.pieces c.next.new.self c.loop-error.builder c.args.len c.len.result c.is_empty.result c.finish.result c.is_empty.ensures (none_same c.in-Ok-None.field-0 c.loop-error.pieces c.next.new.self c.in-Ok-None.field-0-is c.in-Ok-None.ensures.none) c.len.ensures c.finish.ensures)).1

pub returns-in-Err-take-clause-fault : goal.returns-in-Err-take-clause-fault
returns-in-Err-take-clause-fault c =
    let h = not_taken c.args.pieces c.loop-error.pieces c.next.new.self c.in-Ok-Some.piece c.loop-error.builder c.take.new.self c.in-Err-take.fault c.args.len c.loop-error.invariant.0 (some_next c.in-Ok-Some.field-0 c.in-Ok-Some.piece c.loop-error.pieces c.next.new.self c.in-Ok-Some.field-0-is c.in-Ok-Some.ensures.next) c.in-Err-take.ensures in
    subst (λ failure. IsBodyFailure c.args.len c.args.pieces failure) (sym (c.at.ensures ∙ ap (λ (n : ℕ). take_fault c.in-Err-take.fault (c.args.len - n)) c.len.ensures)) h

pub loop-error-preserved : goal.loop-error-preserved
loop-error-preserved c = (
  reached_next c.args.pieces c.loop-error.pieces c.next.new.self c.in-Ok-Some.piece c.loop-error.builder c.take.new.self c.loop-error.invariant.0 (some_next c.in-Ok-Some.field-0 c.in-Ok-Some.piece c.loop-error.pieces c.next.new.self c.in-Ok-Some.field-0-is c.in-Ok-Some.ensures.next) c.in-Ok.ensures,
  (let h = some_shorter c.in-Ok-Some.field-0 c.in-Ok-Some.piece c.loop-error.pieces c.next.new.self c.in-Ok-Some.field-0-is c.in-Ok-Some.ensures.shorter in let r = c.loop-error.invariant.1 in omega arith),
)
