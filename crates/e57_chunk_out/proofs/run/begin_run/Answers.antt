use Rattle.std.proofs.Common.{◌≡◌, ◌+◌, ◌<◌, length, min, not, false, sym, subst, arith}
use Rattle.e57_layout.specs.Packing.{fits_packet, poured}
use Rattle.e57_layout.specs.Written.{flagged, packets_bytes}
use Rattle.e57_page_out.specs.Writing.{most_bytes}
use Rattle.e57_chunk_out.specs.SideBySide.{HasText}
use Rattle.e57_chunk_out.specs.Going.{AreGroups, LosesRecords}
use Rattle.e57_chunk_out.proofs.Side.{grown}
use Rattle.e57_chunk_out.proofs.Advancing.{most-few, there-some, are-groups, first-are, lost_poured, poured-goes, taken-goes}
use Rattle.e57_chunk_out.proofs.run.begin_run.Goals as goal

pub fitting-n-requires-clause-limit : goal.fitting-n-requires-clause-limit
fitting-n-requires-clause-limit g c = omega (arith, most-few c.args.from c.args.most c.args.fields.now c.requires.gathered.some c.requires.gathered.waiting c.requires.there)

pub take_groups-requires-clause-there : goal.take_groups-requires-clause-there
take_groups-requires-clause-there g c = there-some c.args.from c.args.most c.fitting-n.result c.args.fields.now c.fitting-n.ensures.most c.requires.there

pub returns-in-Ok : goal.returns-in-Ok
returns-in-Ok g c = (
  are-groups c.fitting-n.result c.args.most c.if-n-gt0.true c.fitting-n.ensures.most c.fitting-n.ensures.whole,
  taken-goes g.T.Target.view c.args.from c.fitting-n.result c.args.fields.now c.args.run.now c.args.out.now c.requires.gathered (there-some c.args.from c.args.most c.fitting-n.result c.args.fields.now c.fitting-n.ensures.most c.requires.there) c.if-n-gt0.true c.requires.state (c.fitting-n.ensures.fit c.if-n-gt0.true)
      c.take_groups.new.fields c.take_groups.new.run c.take_groups.new.out c.in-Ok.ensures.0 c.in-Ok.ensures.1 c.in-Ok.ensures.2,
)

pub pour_group-requires-clause-there : goal.pour_group-requires-clause-there
pour_group-requires-clause-there g c = there-some c.args.from c.args.most c.min-n.result c.args.fields.now (omega (arith, c.min-n.ensures)) c.requires.there

pub returns-in-Ok-pour_group : goal.returns-in-Ok-pour_group
returns-in-Ok-pour_group g c =
    let eight : c.min-n.result ≡ min 8 c.args.most = omega (arith, c.min-n.ensures) in
    let none : c.fitting-n.result ≡ 0 = omega (arith, c.if-n-gt0.false) in
    let over = subst (λ n. fits_packet (grown c.args.from n c.args.fields.now) ≡ false) (sym eight) (c.fitting-n.ensures.none none) in (
      subst (λ n. AreGroups n c.args.most) (sym eight) (first-are c.args.most c.requires.some),
      poured-goes g.T.Target.view c.args.from c.min-n.result c.args.fields.now c.args.run.now c.args.out.now c.requires.gathered (there-some c.args.from c.args.most c.min-n.result c.args.fields.now (omega (arith, eight)) c.requires.there) (omega (arith, eight, c.requires.some)) c.requires.none (omega (arith, eight)) over
          c.pour_group.new.fields c.pour_group.new.run c.pour_group.new.out c.in-Ok-pour_group.ensures.0 c.in-Ok-pour_group.ensures.1 c.in-Ok-pour_group.ensures.2,
    )

pub returns-in-Err-pour_group : goal.returns-in-Err-pour_group
returns-in-Err-pour_group g c =
    let eight : c.min-n.result ≡ min 8 c.args.most = omega (arith, c.min-n.ensures) in
    let none : c.fitting-n.result ≡ 0 = omega (arith, c.if-n-gt0.false) in (
      c.in-Err-pour_group.ensures.0,
      lost_poured g.T.Target.view c.args.from c.args.most c.args.fields.now c.args.run.now c.args.out.now c.in-Err-pour_group.fault (g.T.Target.view c.pour_group.new.out.target) c.requires.gathered c.requires.there c.requires.some c.requires.none (c.fitting-n.ensures.none none)
          (subst (λ n. LosesRecords g.T.Target.view c.args.out.now (most_bytes < c.args.out.now.size + length (packets_bytes (flagged (not c.args.run.now.is_begun) (poured (grown c.args.from n c.args.fields.now))))) (HasText c.args.fields.now) c.in-Err-pour_group.fault (g.T.Target.view c.pour_group.new.out.target)) eight c.in-Err-pour_group.ensures.1),
    )
