use Rattle.std.proofs.Common.{◌≡◌, ◌-◌, true, false, drop, arith, sym, ◌∙◌}
use Rattle.std.specs.List.{list_any}
use Rattle.std.specs.Str.{bytes_eq}
use Rattle.e57_pieces.specs.declared.piece.Attr.{Attr}
use Rattle.e57_pieces.proofs.Names.{told_more, repeated, differ_more, not_added, was_added, differ_few}
use Rattle.e57_pieces.proofs.attributes.differ.Goals as goal

pub returns-then-not-branch : goal.returns-then-not-branch
returns-then-not-branch c =
    let there = not_added _ _ c.in_ok-insert.ensures.added c.if-not-branch.true in
    let named : list_any (λ (o : Attr). bytes_eq c.as_slice.result.now o.name) (drop c.loop-i.i c.args.attrs.now) ≡ true = sym (c.loop-i.invariant.told c.as_slice.result) ∙ there in
    repeated c.args.attrs.now (c.loop-i.i - 1) c.loop-i.i c.get.result.now (omega arith) (omega arith) c.get.ensures (rw c.as_slice.ensures at named)

pub loop-i-preserved : goal.loop-i-preserved
loop-i-preserved c =
    let new_here = was_added _ _ c.in_ok-insert.ensures.added c.if-not-branch.false in
    let unnamed : list_any (λ (o : Attr). bytes_eq c.as_slice.result.now o.name) (drop c.loop-i.i c.args.attrs.now) ≡ false = sym (c.loop-i.invariant.told c.as_slice.result) ∙ new_here in
    record {
      told = λ q. told_more c.as_slice.result.now q.now c.args.attrs.now (c.loop-i.i - 1) c.loop-i.i c.get.result.now _ _ (omega arith) (omega arith) c.get.ensures c.as_slice.ensures (c.loop-i.invariant.told q) (c.in_ok-insert.ensures.updates.0 q);
      so_far = differ_more c.args.attrs.now (c.loop-i.i - 1) c.loop-i.i c.get.result.now (omega arith) (omega arith) c.get.ensures (rw c.as_slice.ensures at unnamed) c.loop-i.invariant.so_far;
    }

pub returns-then-len-lt2 : goal.returns-then-len-lt2
returns-then-len-lt2 c = differ_few c.args.attrs.now (omega arith)
