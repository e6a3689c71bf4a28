use Rattle.e57_crc.proofs.StepLaws.{after_four-looked_up}
use Rattle.e57_crc.proofs.after_four_far.Goals as goal

pub returns : goal.returns
returns c =
    after_four-looked_up 512 c.args.word _ _ _ _ c.looked_up_far.ensures c.looked_up_far-2.ensures c.looked_up_far-3.ensures c.looked_up_far-4.ensures
