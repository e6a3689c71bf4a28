use Rattle.std.proofs.Common.{ℕ, ◌+◌, ◌<◌, List, length, subst}
use Rattle.e57_layout.specs.Packets.{data_packet}
use Rattle.e57_page_out.specs.Sequences.{Loses, Puts}
use Rattle.e57_page_out.specs.Writing.{most_bytes}
use Rattle.e57_chunk_out.specs.Cutting.{streams_of}
use Rattle.e57_chunk_out.proofs.Cuts.{length-streams}
use Rattle.e57_chunk_out.proofs.Pouring.{cut-all}
use Rattle.e57_chunk_out.proofs.pour.put_run.Goals as goal

pub returns-in-Err : goal.returns-in-Err
returns-in-Err g c = (
  c.in-Err.ensures.0,
  subst (λ (ss : List (List ℕ)). Loses g.T.Target.view c.args.out.now (most_bytes < c.args.out.now.size + length (data_packet c.args.restart ss)) c.in-Err.fault (g.T.Target.view c.put_packet.new.out.target))
      (cut-all (length c.args.fields.now) (streams_of c.args.fields.now) (length-streams c.args.fields.now) c.requires.few c.requires.fits) c.in-Err.ensures.1,
)

pub returns : goal.returns
returns g c = (
  c.clear_all.ensures,
  subst (λ (ss : List (List ℕ)). Puts g.T.Target.view c.args.out.now (data_packet c.args.restart ss) c.put_packet.new.out)
      (cut-all (length c.args.fields.now) (streams_of c.args.fields.now) (length-streams c.args.fields.now) c.requires.few c.requires.fits) c.in_default.ensures,
)
