use Rattle.std.proofs.Common.{arith}
use Rattle.e57_elements.proofs.Within.{limit_2, limit_3}
use Rattle.e57_elements.proofs.Builds.{admits_limit, admits_ok}
use Rattle.e57_elements.proofs.builder.Builder.admit.Goals as goal

pub returns-then-len-ge-MAX_DEPTH : goal.returns-then-len-ge-MAX_DEPTH
returns-then-len-ge-MAX_DEPTH c s h = admits_limit s c.args.self.now c.args.attrs 2 h c.if-self.false (λ d p e f. limit_2 c.args.attrs d p (omega arith) (omega arith))

pub returns-then-len-ge-MAX_ELEMENTS : goal.returns-then-len-ge-MAX_ELEMENTS
returns-then-len-ge-MAX_ELEMENTS c s h = admits_limit s c.args.self.now c.args.attrs 3 h c.if-self.false (λ d p e f. limit_3 c.args.attrs d p (omega arith) (omega arith) (omega arith))

pub returns : goal.returns
returns c s h = admits_ok s c.args.self.now c.args.attrs h c.if-self.false (omega arith) (omega arith) (omega arith)
