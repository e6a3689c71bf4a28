use Rattle.std.proofs.Common.{◌≡◌, ◌+◌, ◌-◌, ◌≤◌, length}
use Rattle.std.specs.Prelude.{IsSome}
use Rattle.e57_layout.specs.Values.{word}
use Rattle.e57_column.specs.Column.{IsColumn, placed, wanted}
use Rattle.e57_column.specs.Reading.{ReadsInto}
use Rattle.e57_column.proofs.bits.read_bits64.Given as goal

abbrev pub invariant-loop-done : goal.invariant-loop-done
invariant-loop-done g l = record {
  same_size : l.pages.length ≡ l.fn.pages.length;
  same_header : l.pages.header ≡ l.fn.pages.header;
  want_is : l.want ≡ wanted l.fn.state (length l.fn.out);
  few : l.done ≤ l.want;
  column : IsColumn l.state;
  is_placed : IsSome (placed l.state);
  at : l.state.chunk.at ≡ l.fn.state.chunk.at + l.done;
  reads : ReadsInto 0 word (g.S.Source.view l.fn.pages.source) l.fn.state l.done l.fn.out l.out (g.S.Source.view l.pages.source) l.state;
}

abbrev pub decreases-loop-done : goal.decreases-loop-done
decreases-loop-done g l = l.want - l.done
