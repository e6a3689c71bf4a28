use Rattle.std.proofs.Common.{◌≡◌, ◌-◌, ◌≤◌, length}
use Rattle.e57_file_out.specs.Copying.{CopiesFirst}
use Rattle.e57_file_out.proofs.copy.copy_bytes.Given as goal

abbrev pub invariant-loop-at : goal.invariant-loop-at
invariant-loop-at g l = record {
  same_size : l.pages.length ≡ l.fn.pages.length;
  same_header : l.pages.header ≡ l.fn.pages.header;
  same_length : l.length ≡ l.fn.blob.length;
  same_room : length l.buffer ≡ length l.fn.buffer;
  within : l.at ≤ l.length;
  first : CopiesFirst g.T.Target.view l.fn.blob l.at (g.S.Source.view l.fn.pages.source) (g.S.Source.view l.pages.source) l.pages.kept l.fn.out l.out;
}

abbrev pub decreases-loop-at : goal.decreases-loop-at
decreases-loop-at g l = l.length - l.at
