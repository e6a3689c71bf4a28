use Rattle.e57_elements.proofs.Spelled as law
use Rattle.e57_elements.proofs.write.spelling_spells.Goals as goal

pub returns : goal.returns
returns c = law.spelling_spells
