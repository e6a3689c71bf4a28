use Rattle.e57_nodes.proofs.Laws.Places.{shape_of-with_places, IsLawful-with_places, places_in-with_places}
use Rattle.e57_nodes.proofs.theorems.other_places.Goals as goal

pub returns-clause-meaning : goal.returns-clause-meaning
returns-clause-meaning c = shape_of-with_places

pub returns-clause-lawful : goal.returns-clause-lawful
returns-clause-lawful c = IsLawful-with_places

pub returns-clause-places : goal.returns-clause-places
returns-clause-places c = places_in-with_places
