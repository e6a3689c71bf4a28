use Rattle.std.proofs.Common.{◌≤◌, ◌^◌, List, map, not, refl, sym, ap, subst, ◌∙◌}
use Rattle.e57_layout.specs.Packets.{total}
use Rattle.e57_layout.specs.Packing.{poured}
use Rattle.e57_layout.specs.Written.{flagged, packets_bytes}
use Rattle.e57_page_out.specs.Sequences.{Puts}
use Rattle.e57_chunk_out.specs.Cutting.{streams_of}
use Rattle.e57_chunk_out.specs.Waiting.{Waiting, cleared}
use Rattle.e57_chunk_out.proofs.RunLaws.{room_alone, pour_limit, cleared-taken, runs-alone}
use Rattle.e57_chunk_out.proofs.run.pour_group.Goals as goal

pub take_all-requires-clause-room : goal.take_all-requires-clause-room
take_all-requires-clause-room g c =
    room_alone c.args.from c.args.n c.args.run.now.most c.args.fields.now (runs-alone c.args.fields.now c.args.run.now c.requires.gathered c.requires.none) (c.requires.gathered.fresh c.requires.none) c.requires.there c.requires.few c.requires.room

pub pour-requires-clause-limit : goal.pour-requires-clause-limit
pour-requires-clause-limit g c =
    subst (λ (fs : List Waiting). total (streams_of fs) ≤ 2 ^ 45) (sym c.in_default.ensures)
    (pour_limit c.args.from c.args.n c.args.fields.now c.args.run.now c.requires.gathered c.requires.none c.requires.there c.requires.few)

pub returns : goal.returns
returns g c = (
  c.in_default-pour.ensures.0 ∙ ap (map cleared) c.in_default.ensures ∙ cleared-taken c.args.from c.args.n c.args.fields.now,
  refl,
  subst (λ (fs : List Waiting). Puts g.T.Target.view c.args.out.now (packets_bytes (flagged (not c.args.run.now.is_begun) (poured (streams_of fs)))) c.pour.new.out) c.in_default.ensures c.in_default-pour.ensures.1,
)
