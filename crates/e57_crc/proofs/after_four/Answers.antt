use Rattle.e57_crc.proofs.StepLaws.{after_four-looked_up}
use Rattle.e57_crc.proofs.after_four.Goals as goal

pub returns : goal.returns
returns c =
    after_four-looked_up c.args.zeros c.args.word _ _ _ _ c.looked_up.ensures c.looked_up-2.ensures c.looked_up-3.ensures c.looked_up-4.ensures
