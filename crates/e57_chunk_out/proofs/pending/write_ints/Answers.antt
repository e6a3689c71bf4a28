use Rattle.std.proofs.Common.{ℤ, w64, sym, subst}
use Rattle.std.proofs.lemmas.Int.{to_z-of_z}
use Rattle.e57_layout.proofs.Laws.Widths.{width-le}
use Rattle.e57_lanes.specs.Pack.{CanPack, Packed}
use Rattle.e57_chunk_out.proofs.Waits.{can_pack, ints_written}
use Rattle.e57_chunk_out.proofs.pending.write_ints.Goals as goal

pub pack-requires : goal.pack-requires
pack-requires c =
    subst (λ (m : ℤ). CanPack c.args.values.now m c.args.width 0 c.clear.new.out) (sym (to_z-of_z w64 c.args.min.now c.requires.least))
    (can_pack c.args.min.now c.args.max.now c.args.width c.args.values.now c.args.out.now c.clear.new.out c.requires.kind c.requires.fits (rw c.requires.fits (width-le c.args.min.now c.args.max.now)) c.requires.items c.requires.room c.clear.auto.out)

pub returns : goal.returns
returns c =
    ints_written c.args.min.now c.args.max.now c.args.width c.args.values.now c.args.out.now c.clear.new.out c.pack.new.out c.requires.fits c.clear.ensures c.requires.room
    (subst (λ (m : ℤ). Packed c.args.values.now m c.args.width 0 c.clear.new.out c.pack.new.out) (to_z-of_z w64 c.args.min.now c.requires.least) c.pack.ensures) (λ k. (c.type_inv.out k).fits)
