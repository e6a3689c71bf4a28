use Rattle.e57_crc.proofs.RegisterLaws.{register-byte}
use Rattle.e57_crc.proofs.after_rest.Goals as goal

pub loop-i-preserved : goal.loop-i-preserved
loop-i-preserved c =
    register-byte c.args.bytes.now (λ k. (c.type_inv.bytes k).fits) c.loop-i.i c.loop-i.so_far _ c.loop-i.invariant c.after_byte-so_far.ensures
