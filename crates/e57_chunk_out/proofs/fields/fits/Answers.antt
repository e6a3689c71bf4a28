use Rattle.std.proofs.Common.{ℕ, ◌+◌, List, length, sym, ap, arith}
use Rattle.std.proofs.lemmas.List.{take_all}
use Rattle.e57_layout.specs.Packets.{total}
use Rattle.e57_chunk_out.specs.SideBySide.{Has}
use Rattle.e57_chunk_out.proofs.Cuts.{total-more}
use Rattle.e57_chunk_out.proofs.Side.{read-all, grown, length-grown, grown-at, over-false, within-true}
use Rattle.e57_chunk_out.proofs.fields.fits.Goals as goal

pub loop-k-init : goal.loop-k-init
loop-k-init c = omega (arith, c.room_in_packet-left.ensures)

pub size_with-size-requires : goal.size_with-size-requires
size_with-size-requires c = read-all (Has (c.args.from + c.args.n)) c.args.fields.now c.loop-k.k c.index-fields-k.result c.requires.there c.loop-k-test.true c.index-fields-k.is

pub returns-then-size-left : goal.returns-then-size-left
returns-then-size-left c =
    let whole = grown c.args.from c.args.n c.args.fields.now in
    let count = length-grown c.args.from c.args.n c.args.fields.now in
    let more = total-more whole c.loop-k.k (omega (arith, count, c.loop-k-test.true)) in
    let size = ap (λ (xs : List ℕ). length xs) (grown-at c.args.from c.args.n c.args.fields.now c.loop-k.k c.index-fields-k.result c.loop-k-test.true c.index-fields-k.is) in
    sym (over-false whole (length c.args.fields.now) (c.loop-k.k + 1) count c.requires.few (omega (arith, more, size, c.size_with-size.ensures, c.loop-k.invariant, c.if-size-left.true)))

pub loop-k-preserved : goal.loop-k-preserved
loop-k-preserved c =
    let whole = grown c.args.from c.args.n c.args.fields.now in
    let count = length-grown c.args.from c.args.n c.args.fields.now in
    let more = total-more whole c.loop-k.k (omega (arith, count, c.loop-k-test.true)) in
    let size = ap (λ (xs : List ℕ). length xs) (grown-at c.args.from c.args.n c.args.fields.now c.loop-k.k c.index-fields-k.result c.loop-k-test.true c.index-fields-k.is) in
    omega (arith, more, size, c.size_with-size.ensures, c.loop-k.invariant)

pub returns : goal.returns
returns c =
    let whole = grown c.args.from c.args.n c.args.fields.now in
    let count = length-grown c.args.from c.args.n c.args.fields.now in
    let all = ap total (take_all c.loop-k.k whole (omega (arith, count, c.loop-k-test.false))) in
    sym (within-true whole (length c.args.fields.now) count c.requires.few (omega (arith, all, c.loop-k.invariant)))
